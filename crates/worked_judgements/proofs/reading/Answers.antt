use Rattle.worked_judgements.proofs.Worked.{reading}
use Rattle.worked_judgements.proofs.reading.Goals as goal

pub returns : goal.returns
returns c = reading
