-- Each call opens a construct, or goes on to a smaller rule.
use Rattle.std.proofs.Common.{◌≡◌, ◌+◌, ◌*◌, [], length}
use Rattle.pv_tokens.specs.declared.fixed.TheConstants.{CLOSE_BRACE}
use Rattle.pv_reading.specs.Reading.{many}
use Rattle.pv_exprs.specs.Reading.{deeper}
use Rattle.pv_parser.specs.Reading.{stmt, deeper_blocks}
use Rattle.pv_parser.proofs.statements.+statement.Given as goal

abbrev pub decreases-block : goal.decreases-block
decreases-block l = 6 * l.room + 0

abbrev pub decreases-otherwise : goal.decreases-otherwise
decreases-otherwise l = 6 * l.room + 1

abbrev pub decreases-else_from : goal.decreases-else_from
decreases-else_from l = 6 * l.room + 2

abbrev pub decreases-choice : goal.decreases-choice
decreases-choice l = 6 * l.room + 3

abbrev pub decreases-while_end : goal.decreases-while_end
decreases-while_end l = 6 * l.room + 1

abbrev pub decreases-invariant_loop : goal.decreases-invariant_loop
decreases-invariant_loop l = 6 * l.room + 2

abbrev pub decreases-counted : goal.decreases-counted
decreases-counted l = 6 * l.room + 1

abbrev pub decreases-parallel_end : goal.decreases-parallel_end
decreases-parallel_end l = 6 * l.room + 1

abbrev pub decreases-parallel : goal.decreases-parallel
decreases-parallel l = 6 * l.room + 2

abbrev pub decreases-statement : goal.decreases-statement
decreases-statement l = 6 * l.room + 4

abbrev pub decreases-statements : goal.decreases-statements
decreases-statements l = 6 * l.room + 5

abbrev pub invariant-statements-found : goal.invariant-statements-found
invariant-statements-found l =
    many CLOSE_BRACE (stmt (deeper l.room) (deeper_blocks l.room)) [] l.fn.tokens
    ≡ many CLOSE_BRACE (stmt (deeper l.room) (deeper_blocks l.room)) l.found l.rest

abbrev pub decreases-statements-found : goal.decreases-statements-found
decreases-statements-found l = length l.rest
