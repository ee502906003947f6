use Rattle.std.proofs.Common.{length}
use Rattle.pv_parser.proofs.Depths.{blocks_inside}
use Rattle.pv_parser.proofs.rooms.inside_blocks.Goals as goal

pub returns-clause-statements : goal.returns-clause-statements
returns-clause-statements c =
    blocks_inside c.args.room (length c.args.behind.now) c.inside.result c.inside.ensures.smaller c.inside.ensures.readers
