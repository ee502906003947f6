use Rattle.small_verdicts.proofs.evaluation.+condition.Given as goal

abbrev pub decreases-condition : goal.decreases-condition
decreases-condition g l = goal.size-condition g l
