use Rattle.small_verdicts.proofs.evaluation.+check.Given as goal

abbrev pub decreases-check : goal.decreases-check
decreases-check g l = goal.size-check g l
