-- What a well formed program becomes is verified throughout, where no evidence makes the judge fail on any of its units.
use Rattle.std.proofs.Common.{[], subst}
use Rattle.pv_ast.specs.declared.Program.{Program}
use Rattle.pv_picks.specs.Plain.Core as core
use Rattle.pv_picks.specs.Judge.UnitRuns.{Task, OfMethod, OfFormula}
use Rattle.pv_picks.specs.Verdicts.Grounds.{NeverFails}
use Rattle.pv_picks.specs.declared.unit.PvUnit.{PvUnit}
use Rattle.pv_picks.specs.Judge.UnitRuns.{task_of}
use Rattle.pv_picks.specs.Elaborating.Programs.{core_of}
use Rattle.pv_picks.specs.Verdicts.Theorems.{IsVerified}
use Rattle.core_trees.specs.Naming.{HasUnit, HasSafeUnit}
use Rattle.core_names.proofs.Finding.{parts_are_units, verified_parts}
use Rattle.core_typing.proofs.Contracts.{program_formulas}
use Rattle.core_typing.proofs.Distinct.{names_distinct}
use Rattle.core_typing.proofs.Programs.{program_fits}
use Rattle.core_typing.proofs.Throughout.{typed_throughout}
use Rattle.account.specs.Verified.{PartNeverFails}
use Rattle.account.specs.Grounds.{ProgramsAreVerifiedThroughout}

-- no evidence makes a unit fail: then no picks do, where the table is empty
unit_never_fails : (p : core.Program) (unit : PvUnit) → NeverFails p unit → PartNeverFails p (task_of p unit)
unit_never_fails p unit never =
    record { never = λ picks check span bad. never (record { picks = picks; table = [] }) check span bad }

part_never_fails : (p : Program) (task : Task) → IsVerified p → HasUnit p task → PartNeverFails (core_of p) task
part_never_fails p task verified has =
    let safe : HasSafeUnit p task = verified_parts p task verified has in
    subst (PartNeverFails (core_of p)) safe.is (unit_never_fails (core_of p) safe.unit safe.safe)

pub verified_throughout : ProgramsAreVerifiedThroughout
verified_throughout p well_formed verified = record {
  typed = typed_throughout (core_of p) (program_fits p well_formed) (program_formulas p well_formed)
      (names_distinct p well_formed);
  methods = λ class name m is. part_never_fails p (OfMethod class m) verified ((parts_are_units p).methods class name m is);
  runs = λ class m is. part_never_fails p (OfMethod class m) verified ((parts_are_units p).runs class m is);
  predicates = λ class name d is.
      part_never_fails p (OfFormula class d.parameters d.body) verified ((parts_are_units p).predicates class name d is);
  invariants = λ class f is. part_never_fails p (OfFormula class [] f) verified ((parts_are_units p).invariants class f is);
}
