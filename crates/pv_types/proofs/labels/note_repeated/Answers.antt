use Rattle.pv_types.proofs.Labelling.{repeats_next}
use Rattle.pv_types.proofs.labels.note_repeated.Goals as goal

pub loop-word-preserved : goal.loop-word-preserved
loop-word-preserved c =
    repeats_next c.args.rule c.args.words.now c.args.first.now c.loop-word.first _ c.loop-word.names _ c.loop-word.word-index _ _
    c.loop-word-test.true c.in_ok-fresh.ensures.fresh c.in_ok-fresh.ensures.put c.note_unless.ensures c.loop-word.invariant
