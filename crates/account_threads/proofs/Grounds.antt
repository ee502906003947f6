-- What the labels rest on, in programs that are verified throughout: their invariants can be taken in, and each `run` is bare.
use Rattle.std.proofs.Common.{◌≡◌, ◌&&◌, Some, None, [], subst}
use Rattle.std.specs.Prelude.{is_some}
use Rattle.pv_base.specs.declared.Name.{Name}
use Rattle.pv_ast.specs.declared.PvType.TheVariants.{Object}
use Rattle.pv_values.specs.declared.value.Value.TheVariants as value
use Rattle.pv_picks.specs.Plain.Core.{Method, Program}
use Rattle.pv_picks.specs.Judge.States.{empty_state}
use Rattle.pv_picks.specs.Plain.Members.{run_of}
use Rattle.pv_picks.specs.Typing.Expressions.{silent}
use Rattle.pv_picks.specs.Typing.Blocks.{over}
use Rattle.core_trees.specs.Formulas.{FormulaFits, MethodSays, IsPlainRun, in_class}
use Rattle.account_formulas.specs.Gaining.{nothing_taken}
use Rattle.account_formulas.proofs.Picking.{picking}
use Rattle.account.specs.Verified.{IsVerifiedThroughout}
use Rattle.account.proofs.Goodness.{good_formula}
use Rattle.account_threads.specs.Statements.{InvariantsAreTakenIn, RunsAreBare}

pub invariants_taken_in : InvariantsAreTakenIn
invariants_taken_in p verified heap fits = record {
  good = λ class i is. good_formula (in_class p class) silent [] i (verified.typed.invariants class i is);
  never = λ class i is object typed.
      picking nothing_taken heap fits.beyond (Object class) (value.Reference object) typed tt _ empty_state _
      (λ met b n. (met, b tt, n)) (verified.invariants class i is);
}

module _ (p : Program) (verified : IsVerifiedThroughout p) (class : Name) (m : Method) (is : run_of p class ≡ Some m) where
  says : MethodSays (in_class p class) m
  says = (verified.typed.runs class m is).0

  unnamed : m.name ≡ None
  unnamed = (verified.typed.runs class m is).1

  bare : (m.parameters ≡ []) × (m.result ≡ None)
  bare = subst (λ n. IsPlainRun n m) unnamed says.2

  before : FormulaFits (in_class p class) silent [] m.contract.before
  before = subst (λ ps. FormulaFits (in_class p class) silent (over [] ps) m.contract.before) bare.0 says.3

  after : FormulaFits (in_class p class) silent [] m.contract.after
  after =
      subst (λ n. FormulaFits (in_class p class) (record { result = None; old = is_some n && m.old }) [] m.contract.after) unnamed
      (subst (λ o. FormulaFits (in_class p class) (record { result = o; old = is_some m.name && m.old }) [] m.contract.after)
      bare.1
      (subst (λ ps. FormulaFits (in_class p class) (record { result = m.result; old = is_some m.name && m.old }) (over [] ps)
      m.contract.after) bare.0 says.4))

pub runs_bare : RunsAreBare
runs_bare p verified = record {
  parameters = λ class m is. (bare p verified class m is).0;
  result = λ class m is. (bare p verified class m is).1;
  before = λ class m is. good_formula (in_class p class) silent [] m.contract.before (before p verified class m is);
  after = λ class m is. good_formula (in_class p class) silent [] m.contract.after (after p verified class m is);
}
