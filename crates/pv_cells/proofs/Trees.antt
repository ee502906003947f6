-- Expressions without parts, as those on which the meaning is told.
use Rattle.std.proofs.Common.{◌≡◌}
use Rattle.pv_base.specs.declared.Name.{Name}
use Rattle.pv_values.specs.declared.value.Value.{Value}
use Rattle.pv_picks.specs.Plain.Core as core
use Rattle.pv_picks.specs.declared.plain.Expression as plain
use Rattle.pv_picks.specs.declared.plain.Expression.{Expression, Expression-F, fold-roll-Expression}
use Rattle.pv_picks.specs.Plain.Trees.{expression_of, expression_in}

pub constant_tree : (v : Value) → expression_of (plain.Constant v) ≡ core.Constant v
unfolding plain.roll-Expression denote.Hole.Carrier.roll
constant_tree v = fold-roll-Expression core.Expression expression_in (Expression-F.Constant v)

pub this_tree : expression_of plain.This ≡ core.This
unfolding plain.roll-Expression denote.Hole.Carrier.roll
this_tree = fold-roll-Expression core.Expression expression_in Expression-F.This

pub result_tree : expression_of plain.Result ≡ core.Result
unfolding plain.roll-Expression denote.Hole.Carrier.roll
result_tree = fold-roll-Expression core.Expression expression_in Expression-F.Result

pub variable_tree : (name : Name) → expression_of (plain.Variable name) ≡ core.Variable name
unfolding plain.roll-Expression denote.Hole.Carrier.roll
variable_tree name = fold-roll-Expression core.Expression expression_in (Expression-F.Variable name)
