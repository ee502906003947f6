use Rattle.std.proofs.Common.{◌∙◌, sym}
use Rattle.pv_tokens.proofs.Comments.{comment_goes_on}
use Rattle.pv_tokens.proofs.pieces.comment_len.Goals as goal

pub loop-i-preserved : goal.loop-i-preserved
loop-i-preserved c =
    sym (comment_goes_on c.args.bytes.now c.loop-i.i c.loop-i-test.true (sym c.closes_at.ensures.value ∙ c.if-closes_at.false))
    ∙ c.loop-i.invariant
