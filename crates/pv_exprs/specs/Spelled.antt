-- What the calls say: the tree that tokens spell, where so many constructs are open before them.
use Rattle.std.specs.Prelude.{ℕ}
use Rattle.pv_ast.specs.declared.Expr.{Expr}
use Rattle.pv_reading.specs.Marks.{Marked}
use Rattle.pv_exprs.specs.declared.level.Mode.TheVariants.{Program}
use Rattle.pv_exprs.specs.declared.part.Part.{Part}
use Rattle.pv_exprs.specs.Grammar.{IsExpr, IsFormula}

pub data IsExpressionTree (depth : ℕ) : Marked → Expr → Marked → Type 0 where
  expression : {us vs : Marked} {a : Part} → IsExpr Program depth us a vs → IsExpressionTree depth us a.tree vs

pub data IsFormulaTree (depth : ℕ) : Marked → Expr → Marked → Type 0 where
  formula : {us vs : Marked} {a : Part} → IsFormula depth us a vs → IsFormulaTree depth us a.tree vs
