-- Null blocks.
use Rattle.pv_cells.proofs.Gains.{at_null}
use Rattle.pv_cells.proofs.gaining.gain_field.Goals as goal

pub returns-then-object-eq0-clause-stops : goal.returns-then-object-eq0-clause-stops
returns-then-object-eq0-clause-stops c =
    at_null _ c.args.class c.args.object c.args.name c.args.kind c.args.amount c.args.held.now c.args.learned.now
    c.if-object-eq0.true
