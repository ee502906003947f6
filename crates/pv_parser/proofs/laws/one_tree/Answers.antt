use Rattle.pv_parser.proofs.OneTree.{one_program}
use Rattle.pv_parser.proofs.laws.one_tree.Goals as goal

pub returns : goal.returns
returns c = one_program
