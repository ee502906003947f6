use Rattle.pv_shapes.proofs.Making.{parts_make_item}
use Rattle.pv_shapes.proofs.parts.parts_make_items.Goals as goal

pub returns : goal.returns
returns c = parts_make_item
