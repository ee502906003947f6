-- What holds of the tokens of every text.
use Rattle.std.specs.Prelude.{◌≡◌, ℕ, ◌<◌, ◌≤◌, List, [], ◌∷◌, Option, Some, None, Any}
use Rattle.pv_base.specs.declared.Name.{Name}
use Rattle.pv_names.specs.Numbering.{place_of}
use Rattle.pv_tokens.specs.declared.Lexeme.{Lexeme}
use Rattle.pv_tokens.specs.declared.LexemeKind.{LexemeKind}
use Rattle.pv_tokens.specs.declared.LexemeKind.TheVariants as kind
use Rattle.pv_tokens.specs.Bytes.{most}

-- the spans lie between the two places, each one behind the one before, and none is empty
abbrev pub InOrder : ℕ → List Lexeme → ℕ → Type 0
InOrder low [] high = low ≤ high
InOrder low (x ∷ xs) high = (low ≤ x.span.from) × (x.span.from < x.span.to) × InOrder x.span.to xs high

-- a number is one that a text may have
abbrev pub IsWithin : LexemeKind → Type 0
IsWithin (kind.Number n) = n ≤ most
IsWithin (kind.Named name) = Unit {0}
IsWithin (kind.Fixed k) = Unit {0}

abbrev pub AreWithin : List Lexeme → Type 0
AreWithin [] = Unit {0}
AreWithin (x ∷ xs) = IsWithin x.kind × AreWithin xs

-- the number of the word, where it is among the tokens
abbrev pub IsNumberOf : List (List ℕ) → List ℕ → List Lexeme → Option Name → Type 0
IsNumberOf names word xs None = (name : Name) → place_of names word ≡ Some name.0 → Any (λ x. x.kind ≡ kind.Named name) xs → ⊥
IsNumberOf names word xs (Some name) = (place_of names word ≡ Some name.0) × Any (λ x. x.kind ≡ kind.Named name) xs
