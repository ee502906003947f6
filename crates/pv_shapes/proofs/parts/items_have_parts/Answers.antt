use Rattle.pv_shapes.proofs.Inversion.{item_has_parts}
use Rattle.pv_shapes.proofs.parts.items_have_parts.Goals as goal

pub returns : goal.returns
returns c = item_has_parts
