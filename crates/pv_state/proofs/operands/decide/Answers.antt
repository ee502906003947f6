use Rattle.pv_state.proofs.operands.decide.Goals as goal

pub is_true-requires-clause-made : goal.is_true-requires-clause-made
is_true-requires-clause-made g c = c.truth.ensures.made (g.K.Asker.sorts c.args.asker.now) c.requires.made
