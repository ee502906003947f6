use Rattle.std.proofs.Common.{rules}
use Rattle.pv_reading.proofs.Steps.{picked}
use Rattle.pv_parser.specs.Reading as reading
use Rattle.pv_parser.proofs.parts.call_end.Goals as goal

pub returns : goal.returns
unfolding reading.call_end
returns c = rw (c.in_ok-args.ensures, picked _ _ _ _ _ c.in_ok-last.ensures) (search rules)
