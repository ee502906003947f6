use Rattle.worked_judgements.proofs.Worked.{copying}
use Rattle.worked_judgements.proofs.copying.Goals as goal

pub returns : goal.returns
returns c = copying
