use Rattle.judge_laws.proofs.Ending.{ends_unfit_at_negative}
use Rattle.judge_laws.proofs.ends_unfit_at_negative.Goals as goal

pub returns : goal.returns
returns c = ends_unfit_at_negative
