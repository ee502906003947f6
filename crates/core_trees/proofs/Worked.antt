-- Pairs of a text and the plain tree that it becomes: above each stands its text, in which x is a field that is a number, cells
-- one that is an array, next one that is an object of the class; i and n are local variables.
use Rattle.std.proofs.Common.{◌≡◌, ℕ, pos, true, Some, None, [], ◌∷◌, refl}
use Rattle.std.specs.Prelude.{◌-ℤ◌}
use Rattle.pv_base.specs.declared.Name.{Name}
use Rattle.pv_base.specs.declared.Span.{Span}
use Rattle.pv_ast.specs.declared.Word.{Word}
use Rattle.pv_ast.specs.declared.PvType.{PvType}
use Rattle.pv_ast.specs.declared.PvType.TheVariants.{Int, Object, IntArray}
use Rattle.pv_ast.specs.declared.Operator.{Operator}
use Rattle.pv_ast.specs.declared.Operator.TheVariants as op
use Rattle.pv_ast.specs.declared.Token.TheVariants as token
use Rattle.pv_ast.specs.declared.ExprKind.{ExprKind-F}
use Rattle.pv_ast.specs.declared.Member.TheVariants as member
use Rattle.pv_ast.specs.declared.Class.{Class}
use Rattle.pv_ast.specs.declared.Param.{Param}
use Rattle.pv_ast.specs.declared.scope.Declaration.TheVariants.{Local}
use Rattle.pv_ast.specs.Rules.Scoping.{Visible, nothing_visible, declare_variable}
use Rattle.pv_ast.specs.Rules.Expressions.{Environment}
use Rattle.pv_picks.specs.Plain.Core.{Expression, Formula, Items, Item}
use Rattle.pv_picks.specs.Plain.Core as core
use Rattle.pv_picks.specs.Elaborating.Operations.{number}
use Rattle.pv_picks.specs.Elaborating.Expressions.{ElaboratedExpression, Layer, elaborated_in_kind, elaborated_in_each, elaborated_in_expression}

-- the span of the part with this number
abbrev pub place : ℕ → Span
place n = record { from = n; to = n }

abbrev pub name : ℕ → Name
name n = record { 0 = n }

abbrev pub word : ℕ → Word
word n = record { name = name n; span = place 0 }

abbrev at : ℕ → Layer → ElaboratedExpression
at n k = elaborated_in_expression (record { span = place n; kind = elaborated_in_kind k })

abbrev var : ℕ → ElaboratedExpression
var n = at 0 (ExprKind-F.Var (word n))

abbrev literal : ℕ → ElaboratedExpression
literal n = at 0 (ExprKind-F.Number n)

abbrev binary : Operator → ElaboratedExpression → ElaboratedExpression → ElaboratedExpression
binary o x y = at 7 (ExprKind-F.Binary o x y)

-- the class of `this` has the fields x, a number, an array, and next, an object of the class
abbrev field : ℕ → PvType → Param
field n type = record { name = word n; kind = record { kind = type; span = place 0 } }

abbrev pub this_class : Class
this_class = record {
  span = place 0;
  name = word 10;
  lock_invariant = None;
  members = member.Field (field 1 Int) ∷ member.Field (field 2 IntArray) ∷ member.Field (field 3 (Object (name 10))) ∷ [];
}

abbrev pub environment : Environment
environment =
    record {
      program = record { classes = this_class ∷ []; length = Some (name 9) };
      class = name 10;
      here = Some this_class;
      result = None;
    }

-- the locals i and n, numbers
abbrev pub scope : Visible
scope = declare_variable Local (declare_variable Local nothing_visible (name 0) Int) (name 4) Int

abbrev expression : ElaboratedExpression → Expression
expression p = p.expression environment scope

abbrev formula : ElaboratedExpression → Formula
formula p = p.formula None environment scope

abbrev items : ElaboratedExpression → Items
items p = p.items (name 0) None environment scope

abbrev i : ElaboratedExpression
i = var 0

abbrev x : ElaboratedExpression
x = var 1

abbrev cells : ElaboratedExpression
cells = var 2

abbrev next : ElaboratedExpression
next = var 3

abbrev n : ElaboratedExpression
n = var 4

abbrev x' : Expression
x' = core.Field core.This (name 10) (name 1) (place 0)

abbrev cells' : Expression
cells' = core.Field core.This (name 10) (name 2) (place 0)

abbrev next' : Expression
next' = core.Field core.This (name 10) (name 3) (place 0)

abbrev i' : Expression
i' = core.Variable (name 0)

abbrev n' : Expression
n' = core.Variable (name 4)

-- names, fields and elements

-- `n`
local_name : expression n ≡ n'
local_name = refl

-- `x`
field_name : expression x ≡ x'
field_name = refl

-- `next.x`
field_of_field : expression (at 5 (ExprKind-F.Field next (word 1))) ≡ core.Field next' (name 10) (name 1) (place 5)
field_of_field = refl

-- `cells[i]`
element_of_field : expression (at 5 (ExprKind-F.Index cells i)) ≡ core.Element Int cells' i' (place 5)
element_of_field = refl

-- `cells.length`
length_of_field : expression (at 5 (ExprKind-F.Field cells (word 9))) ≡ core.Length Int cells' (place 5)
length_of_field = refl

-- operations

-- `x + 1`
literal_right : expression (binary op.Add x (literal 1)) ≡ core.Compute core.Plain core.Plus x' (number (pos 1)) (place 7)
literal_right = refl

-- `1 - x`
literal_left : expression (binary op.Sub (literal 1) x) ≡ core.Compute core.Tabled core.Minus (number (pos 1)) x' (place 7)
literal_left = refl

-- `2 * 3`
two_times_three : expression (binary op.Mul (literal 2) (literal 3))
    ≡ core.Compute core.Tabled core.Times (number (pos 2)) (number (pos 3)) (place 7)
two_times_three = refl

-- `-5`
minus_five : expression (at 5 (ExprKind-F.Minus (literal 5))) ≡ number (pos 0 -ℤ pos 5)
minus_five = refl

-- `-x`
minus_x : expression (at 5 (ExprKind-F.Minus x)) ≡ core.Compute core.Tabled core.Minus (number (pos 0)) x' (place 5)
minus_x = refl

-- `-(1 + 2)`
minus_sum : expression (at 5 (ExprKind-F.Minus (binary op.Add (literal 1) (literal 2))))
    ≡ core.Compute core.Plain core.Minus (number (pos 0))
    (core.Compute core.Plain core.Plus (number (pos 1)) (number (pos 2)) (place 7)) (place 5)
minus_sum = refl

-- `x - n < 3`
difference_compared : expression (binary op.Lt (binary op.Sub x n) (literal 3))
    ≡ core.Compare core.Less (core.Compute core.Plain core.Minus x' n' (place 7)) (number (pos 3))
difference_compared = refl

-- `3 == -n`
minus_compared : expression (binary op.Eq (literal 3) (at 5 (ExprKind-F.Minus n)))
    ≡ core.Equal true (number (pos 3)) (core.Compute core.Plain core.Minus (number (pos 0)) n' (place 5))
minus_compared = refl

-- `x - n < i`
difference_beside_variable : expression (binary op.Lt (binary op.Sub x n) i)
    ≡ core.Compare core.Less (core.Compute core.Tabled core.Minus x' n' (place 7)) i'
difference_beside_variable = refl

-- formulas

abbrev is_zero : ElaboratedExpression → ElaboratedExpression
is_zero e = at 3 (ExprKind-F.Binary op.Eq e (literal 0))

abbrev is_zero' : Expression → Expression
is_zero' e = core.Equal true e (number (pos 0))

abbrev all_of : ElaboratedExpression → ElaboratedExpression
all_of e = at 6 (ExprKind-F.Perm e 1 1 (place 0))

abbrev half_of : ElaboratedExpression → ElaboratedExpression
half_of e = at 6 (ExprKind-F.Perm e 1 2 (place 0))

-- `x == 0 && n == 0`
two_conjuncts : formula (binary op.And (is_zero x) (is_zero n))
    ≡ core.Star (core.Fact (is_zero' x') (place 3)) (core.Fact (is_zero' n') (place 3))
two_conjuncts = refl

-- `x == 0 || n == 0`
one_conjunct : formula (binary op.Or (is_zero x) (is_zero n)) ≡ core.Fact (core.Or (is_zero' x') (is_zero' n')) (place 7)
one_conjunct = refl

-- `x == 0 ==> x == 0 && n == 0`
pure_implication : formula (at 8 (ExprKind-F.Binary op.Implies (is_zero x) (binary op.And (is_zero x) (is_zero n))))
    ≡ core.Fact (core.Implies (is_zero' x') (core.And (is_zero' x') (is_zero' n'))) (place 8)
pure_implication = refl

-- `Perm(x, write)`
whole_field : formula (all_of x) ≡ core.FieldPermission core.This (name 10) (name 1) Int 5342931457063200 (place 6)
whole_field = refl

-- `Perm(cells[n], 1\2)`
half_element : formula (half_of (at 5 (ExprKind-F.Index cells n)))
    ≡ core.ElementPermission Int cells' n' 2671465728531600 (place 6)
half_element = refl

-- `n == 0 ==> Perm(x, write) ** x == 0`
guarded_permission : formula (at 8 (ExprKind-F.Binary op.Implies (is_zero n) (binary op.Star (all_of x) (is_zero x))))
    ≡ core.When (is_zero' n')
    (core.Star (core.FieldPermission core.This (name 10) (name 1) Int 5342931457063200 (place 8))
    (core.Fact (is_zero' x') (place 8)))
    (place 8)
guarded_permission = refl

-- `idle(next)`
idle_next : formula (at 5 (ExprKind-F.Token token.Idle next)) ≡ core.Holds token.Idle (name 10) next' (place 5)
idle_next = refl

-- items

abbrev cell : ElaboratedExpression
cell = at 5 (ExprKind-F.Index cells i)

abbrev cell' : Expression
cell' = core.Element Int cells' i' (place 5)

abbrev each_cell : ElaboratedExpression
each_cell =
    at 8 (ExprKind-F.Each (elaborated_in_each
    (record {
      star = true;
      name = word 0;
      low = literal 0;
      high = n;
      body = binary op.Star (all_of cell) (is_zero cell);
      written = None;
    })))

-- `(\forall* int i = 0 .. n; Perm(cells[i], write) ** cells[i] == 0)`
each_with_items : each_cell.formula None environment nothing_visible
    ≡ core.Each (name 0) (number (pos 0)) (core.Field core.This (name 10) (name 4) (place 0))
    (core.Join (core.Elements Int cells' (pos 0) 5342931457063200 (place 8))
    (core.Join (core.Repeated (is_zero' cell') (place 8)) core.NoItems))
    (place 8)
each_with_items = refl

-- `Perm(cells[i - 1], write)`
shifted_element : items (all_of (at 5 (ExprKind-F.Index cells (binary op.Sub i (literal 1)))))
    ≡ core.Join (core.Elements Int cells' (pos 0 -ℤ pos 1) 5342931457063200 (place 6)) core.NoItems
shifted_element = refl

-- `0 < i && i < n && n <= n ==> Perm(cells[i], write)`
two_guards : items (at 8 (ExprKind-F.Binary op.Implies
    (binary op.And (binary op.Lt (literal 0) i) (binary op.And (binary op.Lt i n) (binary op.Le n n))) (all_of cell)))
    ≡ core.Join (core.Guarded
    (core.Above (number (pos 0)) ∷ core.Below n' ∷ core.Provided (core.Compare core.AtMost n' n') ∷ [])
    (core.Elements Int cells' (pos 0) 5342931457063200 (place 8)) (place 8)) core.NoItems
two_guards = refl

-- `i >= n ==> cells[i] == 0 && cells[i] == 0`
one_fact_under_guard : items (at 8 (ExprKind-F.Binary op.Implies (binary op.Ge i n)
    (binary op.And (is_zero cell) (is_zero cell))))
    ≡ core.Join (core.Guarded (core.From n' ∷ []) (core.Repeated (core.And (is_zero' cell') (is_zero' cell')) (place 8))
    (place 8)) core.NoItems
one_fact_under_guard = refl

-- `i == n ==> Perm(x, write) ** x == 0`
one_position : items (at 8 (ExprKind-F.Binary op.Implies (binary op.Eq i n) (binary op.Star (all_of x) (is_zero x))))
    ≡ core.Join (core.Fixed n'
    (core.Star (core.FieldPermission core.This (name 10) (name 1) Int 5342931457063200 (place 8))
    (core.Fact (is_zero' x') (place 8))) (place 8)) core.NoItems
one_position = refl

-- `committed(next)`
committed_next : items (at 5 (ExprKind-F.Token token.Committed next))
    ≡ core.Join (core.Committed (name 10) next' (place 5)) core.NoItems
committed_next = refl
