use Rattle.judge_laws.proofs.Together.{blocks_without_pattern}
use Rattle.judge_laws.proofs.blocks_without_pattern.Goals as goal

pub returns : goal.returns
returns c = blocks_without_pattern
