use Rattle.pv_state.proofs.Scenes.{made_of_truth}
use Rattle.pv_state.proofs.operands.Operand.opposite.Goals as goal

pub returns-clause-made : goal.returns-clause-made
returns-clause-made c made h = made_of_truth made c.opposite.result (c.opposite.ensures.made made (c.truth.ensures.made made h))
