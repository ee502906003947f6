-- Which operator stands before a formula behind a condition, and which token an item may be.
use Rattle.std.specs.Prelude.{Bool, true, false}
use Rattle.pv_ast.specs.declared.Operator.{Operator}
use Rattle.pv_ast.specs.declared.Operator.TheVariants as op
use Rattle.pv_ast.specs.declared.Token.{Token}
use Rattle.pv_ast.specs.declared.Token.TheVariants as token

abbrev pub implies : Operator → Bool
implies op.Implies = true
implies _ = false

abbrev pub commits : Token → Bool
commits token.Committed = true
commits _ = false
