use Rattle.std.proofs.Common.{◌≡◌, drop}
use Rattle.pv_ast.specs.Rules.Faults.{least}
use Rattle.pv_ast.specs.Rules.Programs.{faults_of_classes}
use Rattle.pv_types.proofs.classes.classes.Given as goal

abbrev pub invariant-loop-entry : goal.invariant-loop-entry
invariant-loop-entry l =
    least l.first (faults_of_classes l.table (drop l.entry-index l.entries))
    ≡ least l.fn.first (faults_of_classes l.table l.entries)
