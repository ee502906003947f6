use Rattle.std.proofs.Common.{drop}
use Rattle.pv_types.specs.Sets.{Repeats}
use Rattle.pv_types.proofs.labels.note_repeated.Given as goal

abbrev pub invariant-loop-word : goal.invariant-loop-word
invariant-loop-word l = Repeats l.rule l.words l.fn.first l.names l.first (drop l.word-index l.words)
