-- Clauses, as the code's loop goes on, where n constructs may still be opened.
use Rattle.std.proofs.Common.{ℕ, ◌≡◌, ◌<◌, List, [], ◌∷◌, ◌++◌, length, Some, None, arith}
use Rattle.pv_base.specs.declared.Span.{Span}
use Rattle.pv_ast.specs.declared.Clause.{Clause}
use Rattle.pv_ast.specs.declared.ClauseKind.{ClauseKind}
use Rattle.pv_reading.specs.Given.{ahead}
use Rattle.pv_reading.specs.Marks.{Tokens}
use Rattle.pv_reading.specs.Reading.{Good, onward}
use Rattle.pv_exprs.specs.Reading.{deeper}
use Rattle.pv_clauses.specs.Grammar.{clause_of}
use Rattle.pv_clauses.specs.Reading as reading
use Rattle.pv_reading.proofs.Loops.{Keeps, exact_keeps}
use Rattle.pv_exprs.proofs.Exactness.{readers_known}
use Rattle.pv_clauses.proofs.Exactness.{clause_exact}
use Rattle.pv_reading.proofs.Turns.{repeated_end, repeated_next, repeated_step, repeated_smaller}

pub clause_keeps : (n : ℕ) (k : ClauseKind) → Keeps (reading.clause (deeper n) k)
clause_keeps n k = exact_keeps (clause_exact n 0 (deeper n) (omega arith) (readers_known n n 0 (omega arith)) k)

module _ (n : ℕ) where
  abbrev next_keeps : (k : ClauseKind) (s : Span) → Keeps (reading.clause (deeper n) k)
  next_keeps k s = clause_keeps n k

  pub clauses_end : (found : List Clause) (ts : Tokens) → ahead clause_of ts ≡ None
      → reading.clauses (deeper n) found ts ≡ Good found ts
  unfolding reading.clauses
  clauses_end found ts h = repeated_end clause_of (λ k s. reading.clause (deeper n) k) next_keeps found ts h

  module _ (ts us : Tokens) (k : ClauseKind) (s : Span) (h : ahead clause_of ts ≡ Some (k, s, us)) where
    pub clauses_next : (found : List Clause)
        → reading.clauses (deeper n) found ts ≡ onward (λ x. reading.clauses (deeper n) (found ++ x ∷ []))
        (reading.clause (deeper n) k us)
    unfolding reading.clauses
    clauses_next found = repeated_next clause_of (λ k s. reading.clause (deeper n) k) next_keeps found ts us k s h

    pub clauses_step : (found all : List Clause) (vs : Tokens) (x : Clause) → reading.clause (deeper n) k us ≡ Good x vs
        → all ≡ found ++ x ∷ [] → reading.clauses (deeper n) found ts ≡ reading.clauses (deeper n) all vs
    unfolding reading.clauses
    clauses_step found all vs x g a =
        repeated_step clause_of (λ k s. reading.clause (deeper n) k) next_keeps found ts us k s h all vs x g a

    pub clauses_smaller : (vs : Tokens) (x : Clause) → reading.clause (deeper n) k us ≡ Good x vs → length vs < length ts
    clauses_smaller vs x g = repeated_smaller clause_of (λ k s. reading.clause (deeper n) k) next_keeps ts us vs k s x h g
