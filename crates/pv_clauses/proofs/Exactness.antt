-- The readers of clauses are exact.
use Rattle.std.proofs.Common.{ℕ, ◌≤◌, List, [], Option, refl}
use Rattle.pv_tokens.specs.declared.fixed.TheConstants.{SEMICOLON}
use Rattle.pv_ast.specs.declared.Clause.{Clause}
use Rattle.pv_ast.specs.declared.ClauseKind.{ClauseKind}
use Rattle.pv_reading.specs.Marks.{Marked}
use Rattle.pv_reading.specs.Spelled.{Rule}
use Rattle.pv_reading.proofs.Nexts.{anything, knows, either, sub_anything, sub_fixed, apart_table}
use Rattle.pv_reading.proofs.Exact.{Begins, Exact, Is, is, Then, seq, AtFixed, at_fixed, exact_as, exact_give, exact_bind}
use Rattle.pv_reading.proofs.Sights.{exact_expect, deep_enough}
use Rattle.pv_reading.proofs.Loops.{Repeated, repeated_end, repeated_more, BehindAll, exact_repeated_behind, exact_repeated}
use Rattle.pv_exprs.specs.Reading.{Readers}
use Rattle.pv_exprs.specs.Grammar.{IsFormula}
use Rattle.pv_exprs.proofs.Ranks.{above, starts}
use Rattle.pv_exprs.proofs.Exactness.{formula_exact}
use Rattle.pv_exprs.proofs.Rules.{Knows}
use Rattle.pv_clauses.specs.Grammar as g
use Rattle.pv_clauses.specs.Grammar.{clause_words, clause_of, IsClauses}
use Rattle.pv_clauses.specs.Reading

-- behind the word of a clause
abbrev pub ClauseRule : ℕ → ClauseKind → Rule Clause
ClauseRule d k = Then (IsFormula d) (λ a. AtFixed SEMICOLON d (λ l. Is (record { kind = k; formula = a.tree })))

abbrev pub ClausesRule : ℕ → Rule (List Clause)
ClausesRule d = Repeated clause_of d (λ k s. ClauseRule d k)

pub to_clauses : (d : ℕ) (us : Marked) (cs : List Clause) (vs : Marked) → ClausesRule d us cs vs → IsClauses d us cs vs
to_clauses d us cs vs repeated_end = g.no_clause
to_clauses d us cs vs (repeated_more {vs = ws} {xs = xs} h (seq p (at_fixed is)) t) = g.clause h p (to_clauses d ws xs vs t)

pub from_clauses : (d : ℕ) (us : Marked) (cs : List Clause) (vs : Marked) → IsClauses d us cs vs → ClausesRule d us cs vs
from_clauses d us cs vs g.no_clause = repeated_end
from_clauses d us cs vs (g.clause {vs = ws} {cs = xs} h p t) = repeated_more h (seq p (at_fixed is)) (from_clauses d ws xs vs t)

module _ (L d : ℕ) (e : Option Readers) (le : d ≤ L) (D : Knows L d e) where
  pub clause_exact : (k : ClauseKind) → Exact L starts anything (ClauseRule d k) (Reading.clause e k)
  unfolding Reading.clause
  clause_exact k =
      exact_bind (sub_fixed SEMICOLON refl) (formula_exact L d e le D)
      (λ a. exact_expect SEMICOLON (λ l. deep_enough le (exact_give _)))

  -- whatever may stand behind the clauses is none of their words
  pub clauses_exact : Exact L (either (knows clause_of) (above 10)) (above 10) (IsClauses d) (Reading.clauses e [])
  unfolding Reading.clauses
  clauses_exact =
      exact_as (to_clauses d) (from_clauses d) (exact_repeated le (λ k s. (starts, clause_exact k))
      (apart_table clause_words (refl, (refl, (refl, tt)))) (sub_anything _))

  pub more_clauses_exact : (found : List Clause)
      → Exact L (either (knows clause_of) (above 10)) (above 10) (BehindAll found (ClausesRule d)) (Reading.clauses e found)
  unfolding Reading.clauses
  more_clauses_exact found =
      exact_repeated_behind le (λ k s. (starts, clause_exact k)) (apart_table clause_words (refl, (refl, (refl, tt))))
      (sub_anything _) found

pub clauses_makes : (d : ℕ) → Begins (IsClauses d) []
clauses_makes d = ([], [], λ rest. g.no_clause)
