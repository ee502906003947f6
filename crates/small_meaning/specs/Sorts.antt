-- The sorts of small expressions. All variables are whole numbers, so that an expression has its sort by itself.
use Rattle.std.specs.Prelude.{Bool, true, false, ◌&&◌, ◌||◌, if◌then◌else◌}
use Rattle.pv_ast.specs.declared.Operator.{Operator}
use Rattle.pv_ast.specs.declared.Operator.TheVariants as op
use Rattle.pv_ast.specs.declared.Expr.{Expr, Expr-F, fold-Expr}
use Rattle.pv_ast.specs.declared.ExprKind.{ExprKind, ExprKind-F, fold-ExprKind}
use Rattle.pv_ast.specs.declared.Each.{Each-F}

-- a written number, another whole number, a truth value, or none of these
pub data Sort : Type 0 where
  literal : Sort
  number : Sort
  truth : Sort
  unsorted : Sort

abbrev pub is_literal : Sort → Bool
is_literal literal = true
is_literal number = false
is_literal truth = false
is_literal unsorted = false

abbrev pub is_number : Sort → Bool
is_number literal = true
is_number number = true
is_number truth = false
is_number unsorted = false

abbrev pub is_truth : Sort → Bool
is_truth literal = false
is_truth number = false
is_truth truth = true
is_truth unsorted = false

-- the sort, where what it needs is there
abbrev pub sorted_if : Bool → Sort → Sort
sorted_if needed sort = if needed then sort else unsorted

abbrev pub sort_of_operator : Operator → Sort → Sort → Sort
sort_of_operator op.Add a b = sorted_if (is_number a && is_literal b) number
sort_of_operator op.Sub a b = sorted_if (is_number a && is_literal b) number
sort_of_operator op.Mul a b = unsorted
sort_of_operator op.Eq a b = sorted_if ((is_number a && is_number b) || (is_truth a && is_truth b)) truth
sort_of_operator op.Ne a b = sorted_if ((is_number a && is_number b) || (is_truth a && is_truth b)) truth
sort_of_operator op.Lt a b = sorted_if (is_number a && is_number b) truth
sort_of_operator op.Le a b = sorted_if (is_number a && is_number b) truth
sort_of_operator op.Gt a b = sorted_if (is_number a && is_number b) truth
sort_of_operator op.Ge a b = sorted_if (is_number a && is_number b) truth
sort_of_operator op.And a b = sorted_if (is_truth a && is_truth b) truth
sort_of_operator op.Or a b = sorted_if (is_truth a && is_truth b) truth
sort_of_operator op.Implies a b = unsorted
sort_of_operator op.Star a b = unsorted

abbrev pub sort_in_kind : ExprKind-F Sort Sort Sort → Sort
sort_in_kind (ExprKind-F.Number n) = literal
sort_in_kind (ExprKind-F.Truth b) = truth
sort_in_kind ExprKind-F.Result = number
sort_in_kind (ExprKind-F.Var w) = number
sort_in_kind (ExprKind-F.Not a) = sorted_if (is_truth a) truth
sort_in_kind (ExprKind-F.Minus a) = sorted_if (is_literal a) number
sort_in_kind (ExprKind-F.Binary o a b) = sort_of_operator o a b
sort_in_kind _ = unsorted

abbrev pub sort_in_each : Each-F Sort Sort Sort → Sort
sort_in_each e = unsorted

abbrev pub sort_in_expr : Expr-F Sort Sort Sort → Sort
sort_in_expr e = e.kind

-- the sort of an expression
abbrev pub sort_of : Expr → Sort
sort_of = fold-Expr Sort Sort Sort sort_in_kind sort_in_each sort_in_expr

abbrev pub sort_of_kind : ExprKind → Sort
sort_of_kind = fold-ExprKind Sort Sort Sort sort_in_kind sort_in_each sort_in_expr
