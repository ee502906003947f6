use Rattle.worked_judgements.proofs.Worked.{adding}
use Rattle.worked_judgements.proofs.adding.Goals as goal

pub returns : goal.returns
returns c = adding
