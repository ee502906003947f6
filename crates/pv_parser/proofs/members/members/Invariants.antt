use Rattle.std.proofs.Common.{◌≡◌, [], length}
use Rattle.pv_tokens.specs.declared.fixed.TheConstants.{CLOSE_BRACE}
use Rattle.pv_reading.specs.Reading.{many}
use Rattle.pv_exprs.specs.Reading.{deeper}
use Rattle.pv_parser.specs.Reading.{member, deeper_blocks}
use Rattle.pv_parser.proofs.members.members.Given as goal

abbrev pub invariant-found : goal.invariant-found
invariant-found l =
    many CLOSE_BRACE (member (deeper l.room) (deeper_blocks l.room)) [] l.fn.tokens
    ≡ many CLOSE_BRACE (member (deeper l.room) (deeper_blocks l.room)) l.found l.rest

abbrev pub decreases-found : goal.decreases-found
decreases-found l = length l.rest
