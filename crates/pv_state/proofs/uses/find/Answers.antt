use Rattle.std.proofs.Common.{arith}
use Rattle.pv_state.proofs.Orders.{use_of}
use Rattle.pv_state.proofs.uses.find.Goals as goal

pub is_same-requires-clause-u : goal.is_same-requires-clause-u
is_same-requires-clause-u g c = use_of _ _ _ _ (omega arith) c.loop-u.invariant.uses
