use Rattle.std.proofs.Common.{◌≡◌, [], length}
use Rattle.pv_tokens.specs.declared.fixed.TheConstants.{COMMA, CLOSE_PAREN}
use Rattle.pv_reading.specs.Reading.{series}
use Rattle.pv_exprs.specs.Reading.{deeper}
use Rattle.pv_parser.specs.Reading.{param}
use Rattle.pv_parser.proofs.types.some_params.Given as goal

abbrev pub invariant-found : goal.invariant-found
invariant-found l =
    series COMMA CLOSE_PAREN (param (deeper l.room)) [] l.fn.tokens
    ≡ series COMMA CLOSE_PAREN (param (deeper l.room)) l.found l.rest

abbrev pub decreases-found : goal.decreases-found
decreases-found l = length l.rest
