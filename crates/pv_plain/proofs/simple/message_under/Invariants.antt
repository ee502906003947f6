use Rattle.std.proofs.Common.{◌≡◌, drop}
use Rattle.pv_picks.specs.Elaborating.Statements as elaborating
use Rattle.pv_plain.specs.Sights.{around, in_scope}
use Rattle.pv_plain.specs.Sites.{messages_of}
use Rattle.pv_plain.proofs.simple.message_under.Given as goal

abbrev pub invariant-loop-each : goal.invariant-loop-each
invariant-loop-each l =
    elaborating.message_of (messages_of (around l.sight) (in_scope l.sight) (drop l.each-index l.sent)) l.label
    ≡ elaborating.message_of (messages_of (around l.sight) (in_scope l.sight) l.sent) l.label
