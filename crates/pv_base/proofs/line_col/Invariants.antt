use Rattle.std.proofs.Common.{◌≡◌, ◌≤◌, ◌+◌}
use Rattle.pv_base.specs.Place.{line_at, column_at}
use Rattle.pv_base.proofs.line_col.Given as goal

abbrev pub invariant-loop-byte : goal.invariant-loop-byte
invariant-loop-byte l =
    record {
      line : l.line ≡ line_at l.before l.byte-index;
      column : l.column ≡ column_at l.before l.byte-index;
      line_small : l.line ≤ l.byte-index + 1;
      column_small : l.column ≤ l.byte-index + 1;
    }
