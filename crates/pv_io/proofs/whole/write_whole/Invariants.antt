use Rattle.std.proofs.Common.{◌≡◌, length}
use Rattle.pv_io.proofs.Partial.{HasWritten}
use Rattle.pv_io.proofs.whole.write_whole.Given as goal

abbrev pub invariant-loop-rest : goal.invariant-loop-rest
invariant-loop-rest g l =
    record {
      written : HasWritten (g.W.Sink.written l.fn.sink) (g.W.Sink.written l.sink) l.piece l.rest;
      faults : g.W.Sink.faults l.sink ≡ g.W.Sink.faults l.fn.sink;
    }

abbrev pub decreases-loop-rest : goal.decreases-loop-rest
decreases-loop-rest g l = length l.rest
