use Rattle.std.proofs.Common.{◌≡◌, false, drop}
use Rattle.pv_ast.specs.Rules.Faults.{least}
use Rattle.pv_ast.specs.Rules.Programs.{repeated_runs}
use Rattle.pv_types.proofs.classes.note_runs.Given as goal

abbrev pub invariant-loop-member : goal.invariant-loop-member
invariant-loop-member l =
    least l.first (repeated_runs l.found (drop l.member-index l.members)) ≡ least l.fn.first (repeated_runs false l.members)
