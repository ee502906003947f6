use Rattle.judge_laws.proofs.Numbers.{up_where_fit}
use Rattle.judge_laws.proofs.up_where_fit.Goals as goal

pub returns : goal.returns
returns c = up_where_fit
