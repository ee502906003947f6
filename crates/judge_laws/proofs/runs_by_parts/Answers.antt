use Rattle.judge_laws.proofs.Parts.{runs_by_parts}
use Rattle.judge_laws.proofs.runs_by_parts.Goals as goal

pub returns : goal.returns
returns c = runs_by_parts
