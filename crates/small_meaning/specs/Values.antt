-- What small expressions are worth.
use Rattle.std.specs.Prelude.{ℕ, ℤ, pos, ◌+ℤ◌, ◌-ℤ◌, int_le, int_lt, Bool, true, false, not, ◌&&◌, ◌||◌, if◌then◌else◌, Option, Some, None}
use Rattle.pv_base.specs.declared.Span.{Span}
use Rattle.pv_ast.specs.declared.Operator.{Operator}
use Rattle.pv_ast.specs.declared.Operator.TheVariants as op
use Rattle.pv_ast.specs.declared.Expr.{Expr, Expr-F, fold-Expr}
use Rattle.pv_ast.specs.declared.ExprKind.{ExprKind, ExprKind-F, fold-ExprKind}
use Rattle.pv_ast.specs.declared.Each.{Each-F}

-- a whole number, or a truth value
pub data Value : Type 0 where
  number : ℤ → Value
  truth : Bool → Value

-- the number of each variable, by the number of its name
abbrev pub Variables : Type 0
Variables = ℕ → ℤ

-- where an expression stands: the variables, and the result of the method
pub record Scene : Type 0 where
  pub variables : Variables
  pub result : ℤ

-- the number that a value is; 0 of a truth value
abbrev pub number_in : Value → ℤ
number_in (number z) = z
number_in (truth b) = pos 0

-- whether a value is true; no number is
abbrev pub truth_in : Value → Bool
truth_in (number z) = false
truth_in (truth b) = b

abbrev pub int_eq : ℤ → ℤ → Bool
int_eq a b = int_le a b && int_le b a

abbrev pub bool_eq : Bool → Bool → Bool
bool_eq a b = if a then b else not b

abbrev pub are_equal : Value → Value → Bool
are_equal (number a) (number b) = int_eq a b
are_equal (number a) (truth b) = false
are_equal (truth a) (number b) = false
are_equal (truth a) (truth b) = bool_eq a b

-- what an operator makes of two values
abbrev pub value_of_operator : Operator → Value → Value → Value
value_of_operator op.Add a b = number (number_in a +ℤ number_in b)
value_of_operator op.Sub a b = number (number_in a -ℤ number_in b)
value_of_operator op.Mul a b = truth false
value_of_operator op.Eq a b = truth (are_equal a b)
value_of_operator op.Ne a b = truth (not (are_equal a b))
value_of_operator op.Lt a b = truth (int_lt (number_in a) (number_in b))
value_of_operator op.Le a b = truth (int_le (number_in a) (number_in b))
value_of_operator op.Gt a b = truth (int_lt (number_in b) (number_in a))
value_of_operator op.Ge a b = truth (int_le (number_in b) (number_in a))
value_of_operator op.And a b = truth (truth_in a && truth_in b)
value_of_operator op.Or a b = truth (truth_in a || truth_in b)
value_of_operator op.Implies a b = truth false
value_of_operator op.Star a b = truth false

-- what a part of an expression shows: its value, whether it is a conjunction, and if so the first of its conjuncts that
-- is not true
pub record Part : Type 0 where
  pub value : Value
  pub joined : Bool
  pub broken : Option Span

-- what an expression shows: its value, and the first of its conjuncts that is not true
pub record Shown : Type 0 where
  pub value : Value
  pub broken : Option Span

abbrev pub plain : Value → Part
plain v = record { value = v; joined = false; broken = None }

abbrev pub first_of_two : Option Span → Option Span → Option Span
first_of_two None b = b
first_of_two (Some a) b = Some a

abbrev pub part_of_operator : Operator → Shown → Shown → Part
part_of_operator op.And a b = record {
  value = value_of_operator op.And a.value b.value;
  joined = true;
  broken =
      first_of_two a.broken b.broken;
}
part_of_operator o a b = plain (value_of_operator o a.value b.value)

abbrev pub part_in_kind : ExprKind-F (Scene → Part) (Scene → Part) (Scene → Shown) → Scene → Part
part_in_kind (ExprKind-F.Number n) s = plain (number (pos n))
part_in_kind (ExprKind-F.Truth b) s = plain (truth b)
part_in_kind ExprKind-F.Result s = plain (number s.result)
part_in_kind (ExprKind-F.Var w) s = plain (number (s.variables w.name.0))
part_in_kind (ExprKind-F.Not a) s = plain (truth (not (truth_in (a s).value)))
part_in_kind (ExprKind-F.Minus a) s = plain (number (pos 0 -ℤ number_in (a s).value))
part_in_kind (ExprKind-F.Binary o a b) s = part_of_operator o (a s) (b s)
part_in_kind _ s = plain (truth false)

abbrev pub part_in_each : Each-F (Scene → Part) (Scene → Part) (Scene → Shown) → Scene → Part
part_in_each e s = plain (truth false)

-- an expression that is no conjunction is its own one conjunct
abbrev pub broken_in : Span → Part → Option Span
broken_in span k = if k.joined then k.broken else (if truth_in k.value then None else Some span)

abbrev pub shown_in_expr : Expr-F (Scene → Part) (Scene → Part) (Scene → Shown) → Scene → Shown
shown_in_expr e s = record { value = (e.kind s).value; broken = broken_in e.span (e.kind s) }

-- what an expression shows
abbrev pub shown_of : Expr → Scene → Shown
shown_of = fold-Expr (Scene → Part) (Scene → Part) (Scene → Shown) part_in_kind part_in_each shown_in_expr

abbrev pub part_of_kind : ExprKind → Scene → Part
part_of_kind = fold-ExprKind (Scene → Part) (Scene → Part) (Scene → Shown) part_in_kind part_in_each shown_in_expr

-- the value of an expression
abbrev pub value_of : Expr → Scene → Value
value_of e s = (shown_of e s).value

-- the span of the first conjunct of a formula that is not true, if there is one
abbrev pub broken_of : Expr → Scene → Option Span
broken_of e s = (shown_of e s).broken
