-- The grammar of contracts.
use Rattle.std.specs.Prelude.{ℕ, ◌≡◌, List, [], ◌∷◌, Option, Some}
use Rattle.pv_base.specs.declared.Span.{Span}
use Rattle.pv_tokens.specs.declared.Lexeme.{Lexeme}
use Rattle.pv_tokens.specs.declared.LexemeKind.{LexemeKind}
use Rattle.pv_tokens.specs.declared.fixed.TheConstants.{REQUIRES, ENSURES, CONTEXT, SEMICOLON}
use Rattle.pv_ast.specs.declared.Clause.{Clause}
use Rattle.pv_ast.specs.declared.ClauseKind.{ClauseKind}
use Rattle.pv_ast.specs.declared.ClauseKind.TheVariants as kind
use Rattle.pv_ast.specs.declared.Contract.{Contract}
use Rattle.pv_reading.specs.Marks.{Marked, fixed_at}
use Rattle.pv_reading.specs.Reading.{listed_in}
use Rattle.pv_exprs.specs.declared.part.Part.{Part}
use Rattle.pv_exprs.specs.Grammar.{IsFormula}

-- the words that begin a clause
abbrev pub clause_words : List (ℕ × ClauseKind)
clause_words = (REQUIRES, kind.Requires) ∷ (ENSURES, kind.Ensures) ∷ (CONTEXT, kind.Context) ∷ []

abbrev pub clause_of : LexemeKind → Option ClauseKind
clause_of = listed_in clause_words

-- { ( "requires" | "ensures" | "context" ) formula ";" }
pub data IsClauses : ℕ → Marked → List Clause → Marked → Type 0 where
  no_clause : {d : ℕ} {us : Marked} → IsClauses d us [] us
  clause : {d : ℕ} {x : Lexeme} {k : ClauseKind} {l : Span} {us vs ws : Marked} {a : Part} {cs : List Clause}
      → clause_of x.kind ≡ Some k → IsFormula d us a ((fixed_at SEMICOLON l, d) ∷ vs) → IsClauses d vs cs ws
      → IsClauses d ((x, d) ∷ us) (record { kind = k; formula = a.tree } ∷ cs) ws

abbrev pub IsContract : ℕ → Marked → Contract → Marked → Type 0
IsContract d us c vs = IsClauses d us c.clauses vs
