use Rattle.judge_laws.proofs.DirectForm.{exhales_directly}
use Rattle.judge_laws.proofs.exhales_directly.Goals as goal

pub returns : goal.returns
returns c = exhales_directly
