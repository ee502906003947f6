use Rattle.small_laws.proofs.+holds_where_unbroken.Given as goal

abbrev pub decreases-holds_where_unbroken : goal.decreases-holds_where_unbroken
decreases-holds_where_unbroken l = goal.size-holds_where_unbroken l
