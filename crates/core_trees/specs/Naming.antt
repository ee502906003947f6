-- Names of a plain program that differ, and what each part that a name leads to is as a unit.
use Rattle.std.specs.Prelude.{◌≡◌, ◌≤◌, false, Option, Some, None, List, [], ◌∷◌, map, filter, filter_map, length}
use Rattle.std.specs.List.{list_any, AllByRecursion, Contains}
use Rattle.pv_base.specs.declared.Name.{Name}
use Rattle.pv_ast.specs.declared.Program.{Program}
use Rattle.pv_base.specs.Names.{same_name}
use Rattle.pv_picks.specs.declared.unit.PvUnit.{PvUnit}
use Rattle.pv_picks.specs.Plain.Core as core
use Rattle.pv_picks.specs.Plain.Core.{Formula, Predicate, Method, Member, Class}
use Rattle.pv_picks.specs.Plain.Members.{method_of, is_run, predicate_named, method_named, run_of, invariant_of}
use Rattle.pv_picks.specs.Verdicts.Grounds.{NeverFails}
use Rattle.pv_picks.specs.Judge.UnitRuns.{Task, OfMethod, OfFormula, task_of}
use Rattle.pv_picks.specs.Verdicts.Units.{units_of}
use Rattle.pv_picks.specs.Elaborating.Programs.{core_of}

-- no name stands twice
abbrev pub AreDistinct : List Name → Type 0
AreDistinct [] = Unit {0}
AreDistinct (name ∷ names) = (list_any (same_name name) names ≡ false) × AreDistinct names

-- the name of a field, a predicate or a method; a `run` has none
abbrev pub name_of_member : Member → Option Name
name_of_member (core.IsField f) = Some f.0
name_of_member (core.IsPredicate d) = Some d.name
name_of_member (core.IsMethod m) = m.name

-- a `run` has no parameters and no result
abbrev pub IsBareRun : Member → Type 0
IsBareRun (core.IsField f) = Unit {0}
IsBareRun (core.IsPredicate d) = Unit {0}
IsBareRun (core.IsMethod m) = m.name ≡ None → (m.parameters ≡ []) × (m.result ≡ None)

-- the names of a class's fields, predicates and methods differ, and it has at most one `run`
pub record MembersDiffer (c : Class) : Type 0 where
  pub names : AreDistinct (filter_map name_of_member c.members)
  pub runs : length (filter is_run (filter_map method_of c.members)) ≤ 1
  pub bare : AllByRecursion IsBareRun c.members

-- the names of classes differ, and those of the members of each class
abbrev pub NamesDiffer : core.Program → Type 0
NamesDiffer p = AreDistinct (map (λ c. c.name) p) × AllByRecursion MembersDiffer p

-- a unit of the program is of this
pub record HasUnit (p : Program) (task : Task) : Type 0 where
  pub unit : PvUnit
  pub among : Contains (units_of p) unit
  pub is : task_of (core_of p) unit ≡ task

-- such a unit on which no evidence makes the judge fail
pub record HasSafeUnit (p : Program) (task : Task) : Type 0 where
  pub unit : PvUnit
  pub is : task_of (core_of p) unit ≡ task
  pub safe : NeverFails (core_of p) unit

-- what a name leads to is a unit: each method, `run`, predicate and lock invariant
pub record PartsAreUnits (p : Program) : Type 0 where
  pub methods : (class name : Name) (m : Method) → method_named (core_of p) class name ≡ Some m → HasUnit p (OfMethod class m)
  pub runs : (class : Name) (m : Method) → run_of (core_of p) class ≡ Some m → HasUnit p (OfMethod class m)
  pub predicates : (class name : Name) (d : Predicate) → predicate_named (core_of p) class name ≡ Some d
      → HasUnit p (OfFormula class d.parameters d.body)
  pub invariants : (class : Name) (f : Formula) → invariant_of (core_of p) class ≡ Some f → HasUnit p (OfFormula class [] f)
