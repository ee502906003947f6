use Rattle.std.proofs.Common.{◌≡◌, take}
use Rattle.std.specs.List.{flat_map}
use Rattle.pv_report.specs.Output.{verdict_line}
use Rattle.pv_report.specs.Positions.{IsPosition}
use Rattle.pv_report.proofs.verdicts.report.Given as goal

abbrev pub invariant-loop-one : goal.invariant-loop-one
invariant-loop-one l =
    record {
      printed : l.output.items ≡ flat_map (verdict_line l.text l.names) (take l.one-index l.judged);
      near : IsPosition l.text l.near;
    }
