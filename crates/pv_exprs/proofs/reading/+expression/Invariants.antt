-- Each call opens a construct, or goes on to a smaller rule.
use Rattle.std.proofs.Common.{◌≡◌, ◌+◌, ◌*◌, [], length}
use Rattle.pv_tokens.specs.declared.fixed.TheConstants.{COMMA, CLOSE_PAREN}
use Rattle.pv_reading.specs.Reading.{onward, give, series}
use Rattle.pv_exprs.specs.Reading.{expr, deeper}
use Rattle.pv_exprs.proofs.Levels.{height}
use Rattle.pv_exprs.proofs.reading.+expression.Given as goal

abbrev pub decreases-field_step : goal.decreases-field_step
decreases-field_step l = 20 * l.room + 0

abbrev pub decreases-element_step : goal.decreases-element_step
decreases-element_step l = 20 * l.room + 1

abbrev pub decreases-read_steps : goal.decreases-read_steps
decreases-read_steps l = 20 * l.room + 2

abbrev pub decreases-ended : goal.decreases-ended
decreases-ended l = 20 * l.room + 3

abbrev pub decreases-instance_of : goal.decreases-instance_of
decreases-instance_of l = 20 * l.room + 4

abbrev pub decreases-instance_or : goal.decreases-instance_or
decreases-instance_or l = 20 * l.room + 5

abbrev pub decreases-walk : goal.decreases-walk
decreases-walk l = 20 * l.room + 6

abbrev pub decreases-group : goal.decreases-group
decreases-group l = 20 * l.room + 1

abbrev pub decreases-old_value : goal.decreases-old_value
decreases-old_value l = 20 * l.room + 1

abbrev pub decreases-permitted : goal.decreases-permitted
decreases-permitted l = 20 * l.room + 0

abbrev pub decreases-held_token : goal.decreases-held_token
decreases-held_token l = 20 * l.room + 1

abbrev pub decreases-formula_group : goal.decreases-formula_group
decreases-formula_group l = 20 * l.room + 0

abbrev pub decreases-word_or_group : goal.decreases-word_or_group
decreases-word_or_group l = 20 * l.room + 2

abbrev pub decreases-logic_atom : goal.decreases-logic_atom
decreases-logic_atom l = 20 * l.room + 3

abbrev pub decreases-atom : goal.decreases-atom
decreases-atom l = 20 * l.room + 4

abbrev pub decreases-post : goal.decreases-post
decreases-post l = 20 * l.room + 7

abbrev pub decreases-unary : goal.decreases-unary
decreases-unary l = 20 * l.room + 8

abbrev pub decreases-operated : goal.decreases-operated
decreases-operated l = 20 * l.room + 0

abbrev pub decreases-joined_from : goal.decreases-joined_from
decreases-joined_from l = 20 * l.room + 1

abbrev pub decreases-joined_only : goal.decreases-joined_only
decreases-joined_only l = 20 * l.room + 2

abbrev pub decreases-read_expression : goal.decreases-read_expression
decreases-read_expression l = 20 * l.room + 15

abbrev pub decreases-implies_from : goal.decreases-implies_from
decreases-implies_from l = 20 * l.room + 0

abbrev pub decreases-level_from : goal.decreases-level_from
decreases-level_from l = 20 * l.room + 2

abbrev pub decreases-read_formula : goal.decreases-read_formula
decreases-read_formula l = 20 * l.room + 15

abbrev pub decreases-some_args : goal.decreases-some_args
decreases-some_args l = 20 * l.room + 16

abbrev pub decreases-read_args : goal.decreases-read_args
decreases-read_args l = 20 * l.room + 17

abbrev pub decreases-range_bounds : goal.decreases-range_bounds
decreases-range_bounds l = 20 * l.room + 16

abbrev pub decreases-written_bounds : goal.decreases-written_bounds
decreases-written_bounds l = 20 * l.room + 16

abbrev pub decreases-read_bounds : goal.decreases-read_bounds
decreases-read_bounds l = 20 * l.room + 17

abbrev pub decreases-quantified : goal.decreases-quantified
decreases-quantified l = 20 * l.room + 18

abbrev pub decreases-formula_grouped : goal.decreases-formula_grouped
decreases-formula_grouped l = 20 * l.room + 19

abbrev pub decreases-operand : goal.decreases-operand
decreases-operand l = 20 * l.room + (9 + height l.level)

abbrev pub invariant-some_args-found : goal.invariant-some_args-found
invariant-some_args-found l =
    series COMMA CLOSE_PAREN (λ us. onward (λ a. give a.tree) (expr l.mode (deeper l.room) us)) [] l.fn.tokens
    ≡ series COMMA CLOSE_PAREN (λ us. onward (λ a. give a.tree) (expr l.mode (deeper l.room) us)) l.found l.rest

abbrev pub decreases-some_args-found : goal.decreases-some_args-found
decreases-some_args-found l = length l.rest

abbrev pub decreases-closed : goal.decreases-closed
decreases-closed l = 20 * l.room + 0

abbrev pub decreases-closed_formula : goal.decreases-closed_formula
decreases-closed_formula l = 20 * l.room + 16
