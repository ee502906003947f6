-- The calls that read an expression or a formula, as exact readers of trees.
use Rattle.std.proofs.Common.{ℕ, ◌≡◌, ◌-◌, ◌≤◌, ap, arith}
use Rattle.pv_ast.specs.declared.Expr.{Expr}
use Rattle.pv_reading.specs.Marks.{Tokens, Marked}
use Rattle.pv_reading.specs.Reading.{Good, Parser, onward, ◌>>=◌, give}
use Rattle.pv_reading.specs.Given.{Fails}
use Rattle.pv_reading.specs.declared.fault.ReadFault.{ReadFault}
use Rattle.pv_reading.specs.declared.fault.ReadFault.TheVariants as fault
use Rattle.pv_reading.proofs.Nexts.{sub_refl}
use Rattle.pv_reading.proofs.Exact.{Exact, Is, is, by_is, Then, seq, exact_as, exact_give, exact_bind}
use Rattle.pv_exprs.specs.declared.level.Mode.TheVariants.{Program}
use Rattle.pv_exprs.specs.declared.part.Part.{Part}
use Rattle.pv_exprs.specs.Grammar as g
use Rattle.pv_exprs.specs.Reading.{expr, formula, deeper}
use Rattle.pv_exprs.specs.Spelled as spelled
use Rattle.pv_exprs.specs.Spelled.{IsExpressionTree, IsFormulaTree}
use Rattle.pv_reading.specs.Spelled.{most_open}
use Rattle.pv_exprs.proofs.Ranks.{above, starts}
use Rattle.pv_exprs.proofs.Exactness.{readers_known, expr_exact, formula_exact}

-- what a reader of parts reads, as a tree
abbrev pub as_tree : Parser Part → Parser Expr
as_tree p = p >>= λ a. give a.tree

abbrev pub expression_reader : ℕ → Parser Expr
expression_reader depth = as_tree (expr Program (deeper (most_open - depth)))

abbrev pub formula_reader : ℕ → Parser Expr
formula_reader depth = as_tree (formula (deeper (most_open - depth)))

module _ (depth : ℕ) where
  to_expression : (us : Marked) (e : Expr) (vs : Marked) → Then (g.IsExpr Program depth) (λ a. Is a.tree) us e vs
      → IsExpressionTree depth us e vs
  to_expression us e vs (seq p i) = by_is (IsExpressionTree depth) i (spelled.expression p)

  from_expression : (us : Marked) (e : Expr) (vs : Marked) → IsExpressionTree depth us e vs
      → Then (g.IsExpr Program depth) (λ a. Is a.tree) us e vs
  from_expression us e vs (spelled.expression p) = seq p is

  to_formula : (us : Marked) (e : Expr) (vs : Marked) → Then (g.IsFormula depth) (λ a. Is a.tree) us e vs
      → IsFormulaTree depth us e vs
  to_formula us e vs (seq p i) = by_is (IsFormulaTree depth) i (spelled.formula p)

  from_formula : (us : Marked) (e : Expr) (vs : Marked) → IsFormulaTree depth us e vs
      → Then (g.IsFormula depth) (λ a. Is a.tree) us e vs
  from_formula us e vs (spelled.formula p) = seq p is

pub expression_exact : (depth : ℕ) → depth ≤ most_open
    → Exact most_open starts (above 8) (IsExpressionTree depth) (expression_reader depth)
expression_exact depth le = exact_as (to_expression depth) (from_expression depth)
    (exact_bind (sub_refl (above 8)) (expr_exact most_open depth (deeper (most_open - depth)) le
    (readers_known (most_open - depth) most_open depth (omega arith)) Program) (λ a. exact_give a.tree))

pub formula_tree_exact : (depth : ℕ) → depth ≤ most_open
    → Exact most_open starts (above 9) (IsFormulaTree depth) (formula_reader depth)
formula_tree_exact depth le = exact_as (to_formula depth) (from_formula depth)
    (exact_bind (sub_refl (above 9)) (formula_exact most_open depth (deeper (most_open - depth)) le
    (readers_known (most_open - depth) most_open depth (omega arith))) (λ a. exact_give a.tree))

fails_as_tree : (p : Parser Part) (ts : Tokens) (f : ReadFault) → Fails f (p ts) → Fails f (as_tree p ts)
fails_as_tree p ts (fault.Unexpected left) h = ap (onward (λ a. give a.tree)) h
fails_as_tree p ts (fault.TooDeep left) h = ap (onward (λ a. give a.tree)) h
fails_as_tree p ts fault.NoMemory h = tt

pub expression_good : (depth : ℕ) (ts us : Tokens) (a : Part) → expr Program (deeper (most_open - depth)) ts ≡ Good a us
    → expression_reader depth ts ≡ Good a.tree us
expression_good depth ts us a h = ap (onward (λ a. give a.tree)) h

pub expression_fails : (depth : ℕ) (ts : Tokens) (f : ReadFault) → Fails f (expr Program (deeper (most_open - depth)) ts)
    → Fails f (expression_reader depth ts)
expression_fails depth ts f h = fails_as_tree (expr Program (deeper (most_open - depth))) ts f h

pub formula_good : (depth : ℕ) (ts us : Tokens) (a : Part) → formula (deeper (most_open - depth)) ts ≡ Good a us
    → formula_reader depth ts ≡ Good a.tree us
formula_good depth ts us a h = ap (onward (λ a. give a.tree)) h

pub formula_fails : (depth : ℕ) (ts : Tokens) (f : ReadFault) → Fails f (formula (deeper (most_open - depth)) ts)
    → Fails f (formula_reader depth ts)
formula_fails depth ts f h = fails_as_tree (formula (deeper (most_open - depth))) ts f h
