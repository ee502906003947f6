-- Programs that are typed throughout, on none of whose parts the judge fails.
use Rattle.std.specs.Prelude.{◌≡◌, Some, []}
use Rattle.pv_base.specs.declared.Name.{Name}
use Rattle.pv_picks.specs.Plain.Core.{Program, Predicate, Method, Formula}
use Rattle.pv_picks.specs.Plain.Members.{predicate_named, method_named, run_of, invariant_of}
use Rattle.pv_picks.specs.Judge.UnitRuns.{Task, OfMethod, OfFormula, judge_task}
use Rattle.core_trees.specs.Throughout.{IsTypedThroughout}
use Rattle.account_formulas.specs.Runs.{truly, RestNeverFails}
use Rattle.account_formulas.specs.Gaining.{nothing_taken}

-- whatever is picked, the judge doesn't fail on a part of a program, where its operations are true arithmetic
abbrev pub PartNeverFails : Program → Task → Type 0
PartNeverFails p task = RestNeverFails nothing_taken (λ maps. judge_task (truly maps) p task)

-- all that is found in a program by its name is well typed, and the judge doesn't fail on it
pub record IsVerifiedThroughout (p : Program) : Type 0 where
  pub typed : IsTypedThroughout p
  pub methods : (class name : Name) (m : Method) → method_named p class name ≡ Some m → PartNeverFails p (OfMethod class m)
  pub runs : (class : Name) (m : Method) → run_of p class ≡ Some m → PartNeverFails p (OfMethod class m)
  pub predicates : (class name : Name) (d : Predicate) → predicate_named p class name ≡ Some d
      → PartNeverFails p (OfFormula class d.parameters d.body)
  pub invariants : (class : Name) (f : Formula) → invariant_of p class ≡ Some f → PartNeverFails p (OfFormula class [] f)
