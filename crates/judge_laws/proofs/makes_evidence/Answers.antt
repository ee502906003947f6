use Rattle.judge_laws.proofs.Making.{makes_evidence}
use Rattle.judge_laws.proofs.makes_evidence.Goals as goal

pub returns : goal.returns
returns c = makes_evidence
