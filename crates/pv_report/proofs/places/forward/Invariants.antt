use Rattle.std.proofs.Common.{◌≤◌, ◌-◌}
use Rattle.pv_report.specs.Positions.{IsPosition}
use Rattle.pv_report.proofs.places.forward.Given as goal

abbrev pub invariant-loop-position : goal.invariant-loop-position
invariant-loop-position l =
    record {
      known : IsPosition l.text l.position;
      order : l.position.at ≤ l.at;
    }

abbrev pub decreases-loop-position : goal.decreases-loop-position
decreases-loop-position l = l.at - l.position.at
