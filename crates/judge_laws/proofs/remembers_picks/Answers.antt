use Rattle.judge_laws.proofs.Picking.{remembers_picks}
use Rattle.judge_laws.proofs.remembers_picks.Goals as goal

pub returns : goal.returns
returns c = remembers_picks
