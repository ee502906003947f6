use Rattle.worked_judgements.proofs.Worked.{testing}
use Rattle.worked_judgements.proofs.testing.Goals as goal

pub returns : goal.returns
returns c = testing
