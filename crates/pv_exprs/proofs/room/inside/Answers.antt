use Rattle.std.proofs.Common.{length, arith}
use Rattle.pv_exprs.proofs.Rooms.{deeper_none, deeper_some, one_deeper}
use Rattle.pv_exprs.proofs.room.inside.Goals as goal

pub returns-then-room-eq0-clause-readers : goal.returns-then-room-eq0-clause-readers
returns-then-room-eq0-clause-readers c = (one_deeper (length c.args.behind.now), deeper_none c.args.room (omega arith))

pub returns-clause-readers : goal.returns-clause-readers
returns-clause-readers c = deeper_some c.args.room _ (omega arith)
