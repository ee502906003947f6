-- The call that reads a contract, as an exact reader.
use Rattle.std.proofs.Common.{ℕ, ◌≡◌, ◌-◌, ◌≤◌, List, [], sym, ap, ◌∙◌, subst, arith}
use Rattle.pv_ast.specs.declared.Clause.{Clause}
use Rattle.pv_ast.specs.declared.Contract.{Contract}
use Rattle.pv_reading.specs.Marks.{Tokens, Marked}
use Rattle.pv_reading.specs.Reading.{Good, Parser, onward, ◌>>=◌, give}
use Rattle.pv_reading.specs.Given.{Fails}
use Rattle.pv_reading.specs.declared.fault.ReadFault.{ReadFault}
use Rattle.pv_reading.specs.declared.fault.ReadFault.TheVariants as fault
use Rattle.pv_reading.proofs.Nexts.{either, knows, sub_refl}
use Rattle.pv_reading.proofs.Exact.{Exact, Is, is, by_is, Then, seq, exact_as, exact_give, exact_bind}
use Rattle.pv_exprs.specs.Reading.{deeper}
use Rattle.pv_reading.specs.Spelled.{most_open}
use Rattle.pv_exprs.proofs.Ranks.{above}
use Rattle.pv_exprs.proofs.Exactness.{readers_known}
use Rattle.pv_clauses.specs.Grammar.{clause_of, IsClauses, IsContract}
use Rattle.pv_clauses.specs.Reading.{clauses}
use Rattle.pv_clauses.proofs.Exactness.{clauses_exact}

abbrev pub contract_reader : ℕ → Parser Contract
contract_reader depth = clauses (deeper (most_open - depth)) [] >>= λ cs. give (record { clauses = cs })

module _ (depth : ℕ) where
  to_contract : (us : Marked) (x : Contract) (vs : Marked)
      → Then (IsClauses depth) (λ cs. Is {A = Contract} (record { clauses = cs })) us x vs → IsContract depth us x vs
  to_contract us x vs (seq p i) = by_is (IsContract depth) i p

  from_contract : (us : Marked) (x : Contract) (vs : Marked) → IsContract depth us x vs
      → Then (IsClauses depth) (λ cs. Is {A = Contract} (record { clauses = cs })) us x vs
  from_contract us x vs p = seq p is

pub contract_exact : (depth : ℕ) → depth ≤ most_open
    → Exact most_open (either (knows clause_of) (above 10)) (above 10) (IsContract depth) (contract_reader depth)
contract_exact depth le = exact_as (to_contract depth) (from_contract depth)
    (exact_bind (sub_refl (above 10)) (clauses_exact most_open depth (deeper (most_open - depth)) le
    (readers_known (most_open - depth) most_open depth (omega arith)))
    (λ cs. exact_give {A = Contract} (record { clauses = cs })))

fails_on : (depth : ℕ) (ts : Tokens) (f : ReadFault) → Fails f (clauses (deeper (most_open - depth)) [] ts)
    → Fails f (contract_reader depth ts)
fails_on depth ts (fault.Unexpected left) h = ap (onward (λ cs. give {A = Contract} (record { clauses = cs }))) h
fails_on depth ts (fault.TooDeep left) h = ap (onward (λ cs. give {A = Contract} (record { clauses = cs }))) h
fails_on depth ts fault.NoMemory h = tt

module _ (depth : ℕ) (found : List Clause) (none : found ≡ []) (ts : Tokens) where
  pub contract_good : (us : Tokens) (cs : List Clause) → clauses (deeper (most_open - depth)) found ts ≡ Good cs us
      → contract_reader depth ts ≡ Good (record { clauses = cs }) us
  contract_good us cs h =
      ap (onward (λ cs. give {A = Contract} (record { clauses = cs })))
      (ap (λ z. clauses (deeper (most_open - depth)) z ts) (sym none) ∙ h)

  pub contract_fails : (f : ReadFault) → Fails f (clauses (deeper (most_open - depth)) found ts)
      → Fails f (contract_reader depth ts)
  contract_fails f h = fails_on depth ts f (subst (λ z. Fails f (clauses (deeper (most_open - depth)) z ts)) none h)
