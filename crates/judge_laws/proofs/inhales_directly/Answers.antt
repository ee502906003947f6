use Rattle.judge_laws.proofs.DirectForm.{inhales_directly}
use Rattle.judge_laws.proofs.inhales_directly.Goals as goal

pub returns : goal.returns
returns c = inhales_directly
