use Rattle.worked_judgements.proofs.Worked.{marks}
use Rattle.worked_judgements.proofs.marks.Goals as goal

pub returns : goal.returns
returns c = marks
