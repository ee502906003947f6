use Rattle.std.proofs.Common.{◌≡◌, [], length}
use Rattle.pv_parser.specs.Reading.{classes}
use Rattle.pv_parser.proofs.classes.classes.Given as goal

abbrev pub invariant-found : goal.invariant-found
invariant-found l = classes l.room [] l.fn.tokens ≡ classes l.room l.found l.rest

abbrev pub decreases-found : goal.decreases-found
decreases-found l = length l.rest
