use Rattle.worked_judgements.proofs.Worked.{parting_uses}
use Rattle.worked_judgements.proofs.parting_uses.Goals as goal

pub returns : goal.returns
returns c = parting_uses
