use Rattle.worked_judgements.proofs.Worked.{undeclared}
use Rattle.worked_judgements.proofs.undeclared.Goals as goal

pub returns : goal.returns
returns c = undeclared
