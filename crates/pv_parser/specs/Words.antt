-- Tables of the words that begin types, statements and classes.
use Rattle.std.specs.Prelude.{ℕ, List, [], ◌∷◌, Option, Bool, true, false}
use Rattle.pv_tokens.specs.declared.LexemeKind.{LexemeKind}
use Rattle.pv_tokens.specs.declared.fixed.TheConstants.{INT, BOOLEAN, BOOL, FORK, JOIN, LOCK, UNLOCK, COMMIT, FOLD, UNFOLD, LOCK_INVARIANT, CLASS}
use Rattle.pv_reading.specs.Reading.{listed_in}
use Rattle.pv_parser.specs.declared.words.Base.{Base}
use Rattle.pv_parser.specs.declared.words.Base.TheVariants as base
use Rattle.pv_parser.specs.declared.words.Action.{Action}
use Rattle.pv_parser.specs.declared.words.Action.TheVariants as action

-- base = "int" | "boolean" | "bool"
abbrev pub base_words : List (ℕ × Base)
base_words = (INT, base.Int) ∷ (BOOLEAN, base.Truth) ∷ (BOOL, base.Truth) ∷ []

abbrev pub base_of : LexemeKind → Option Base
base_of = listed_in base_words

-- what is done to the object of an expression
abbrev pub action_words : List (ℕ × Action)
action_words =
    (FORK, action.Fork) ∷ (JOIN, action.Join) ∷ (LOCK, action.Lock) ∷ (UNLOCK, action.Unlock) ∷ (COMMIT, action.Commit) ∷ []

abbrev pub action_of : LexemeKind → Option Action
action_of = listed_in action_words

-- whether a predicate is unfolded
abbrev pub folding_words : List (ℕ × Bool)
folding_words = (FOLD, false) ∷ (UNFOLD, true) ∷ []

abbrev pub folding_of : LexemeKind → Option Bool
folding_of = listed_in folding_words

-- whether a class begins with a lock invariant
abbrev pub class_words : List (ℕ × Bool)
class_words = (LOCK_INVARIANT, true) ∷ (CLASS, false) ∷ []

abbrev pub class_of : LexemeKind → Option Bool
class_of = listed_in class_words
