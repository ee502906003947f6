use Rattle.std.proofs.Common.{take}
use Rattle.pv_types.specs.Sets.{HasLabels}
use Rattle.pv_types.proofs.labels.names_of.Given as goal

abbrev pub invariant-loop-word : goal.invariant-loop-word
invariant-loop-word l = HasLabels l.names (take l.word-index l.words)
