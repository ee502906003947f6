use Rattle.judge_laws.proofs.Making.{tells_uses}
use Rattle.judge_laws.proofs.tells_uses.Goals as goal

pub returns : goal.returns
returns c = tells_uses
