-- The levels of operators, from the loosest to the tightest, and the tables of tokens with a meaning in common.
use Rattle.std.specs.Prelude.{ℕ, List, [], ◌∷◌, Option, Some, None, Bool, true, false}
use Rattle.pv_tokens.specs.declared.LexemeKind.{LexemeKind}
use Rattle.pv_tokens.specs.declared.fixed.TheConstants.{STAR_STAR, OR_OR, AND_AND, EQUAL, NOT_EQUAL, LESS, AT_MOST, GREATER, AT_LEAST, PLUS, MINUS, STAR, IDLE, RUNNING, COMMITTED, UNCOMMITTED, FORALL, FORALL_STAR}
use Rattle.pv_ast.specs.declared.Operator.{Operator}
use Rattle.pv_ast.specs.declared.Operator.TheVariants as op
use Rattle.pv_ast.specs.declared.Token.{Token}
use Rattle.pv_ast.specs.declared.Token.TheVariants as token
use Rattle.pv_reading.specs.Reading.{listed_in}
use Rattle.pv_exprs.specs.declared.level.Level.{Level}
use Rattle.pv_exprs.specs.declared.level.Level.TheVariants as level

-- the operators that join the parts of a level
abbrev pub operators : Level → List (ℕ × Operator)
operators level.Separation = (STAR_STAR, op.Star) ∷ []
operators level.Disjunction = (OR_OR, op.Or) ∷ []
operators level.Conjunction = (AND_AND, op.And) ∷ []
operators level.Equality = (EQUAL, op.Eq) ∷ (NOT_EQUAL, op.Ne) ∷ []
operators level.Comparison = (LESS, op.Lt) ∷ (AT_MOST, op.Le) ∷ (GREATER, op.Gt) ∷ (AT_LEAST, op.Ge) ∷ []
operators level.Sum = (PLUS, op.Add) ∷ (MINUS, op.Sub) ∷ []
operators level.Product = (STAR, op.Mul) ∷ []

abbrev pub operator_of : Level → LexemeKind → Option Operator
operator_of l = listed_in (operators l)

-- whether more than one operator may stand in a chain of the level
abbrev pub repeats : Level → Bool
repeats level.Separation = true
repeats level.Disjunction = true
repeats level.Conjunction = true
repeats level.Equality = false
repeats level.Comparison = false
repeats level.Sum = true
repeats level.Product = true

-- the level of the parts; None: they are unary expressions
abbrev pub tighter : Level → Option Level
tighter level.Separation = Some level.Conjunction
tighter level.Disjunction = Some level.Conjunction
tighter level.Conjunction = Some level.Equality
tighter level.Equality = Some level.Comparison
tighter level.Comparison = Some level.Sum
tighter level.Sum = Some level.Product
tighter level.Product = None

-- the tokens of a thread and of a lock
abbrev pub token_words : List (ℕ × Token)
token_words = (IDLE, token.Idle) ∷ (RUNNING, token.Running) ∷ (COMMITTED, token.Committed) ∷ (UNCOMMITTED, token.Uncommitted) ∷ []

abbrev pub token_of : LexemeKind → Option Token
token_of = listed_in token_words

-- whether a quantifier is the one of permissions
abbrev pub forall_words : List (ℕ × Bool)
forall_words = (FORALL_STAR, true) ∷ (FORALL, false) ∷ []

abbrev pub forall_of : LexemeKind → Option Bool
forall_of = listed_in forall_words
