use Rattle.worked_judgements.proofs.Worked.{parting}
use Rattle.worked_judgements.proofs.parting.Goals as goal

pub returns : goal.returns
returns c = parting
