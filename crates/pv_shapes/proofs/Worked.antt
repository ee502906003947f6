-- Worked cases, over what expressions show: a program is built from its leaves by one layer after the other.
use Rattle.std.proofs.Common.{◌≡◌, ℕ, pos, Bool, true, false, Option, Some, None, [], ◌∷◌, refl}
use Rattle.std.specs.Prelude.{◌-ℤ◌}
use Rattle.pv_base.specs.declared.Span.{Span}
use Rattle.pv_ast.specs.declared.Word.{Word}
use Rattle.pv_ast.specs.declared.Operator.{Operator}
use Rattle.pv_ast.specs.declared.Operator.TheVariants as op
use Rattle.pv_ast.specs.declared.Token.TheVariants as token
use Rattle.pv_ast.specs.declared.ExprKind.{ExprKind-F}
use Rattle.pv_ast.specs.declared.fault.ShapeFault.TheVariants.{QuantifierShape, ItemShape}
use Rattle.pv_ast.specs.Rules.Items.{Shape, KindShape, EachShape, shape_in_kind, shape_in_each, shape_in_expr, Item, constant, fact, permission, committed, position, guarded, fixed, clause}

-- the span of the part with this number
abbrev place : ℕ → Span
place n = record { from = n; to = n }

abbrev at : ℕ → ExprKind-F KindShape EachShape Shape → Shape
at n k = shape_in_expr (record { span = place n; kind = shape_in_kind k })

abbrev word : ℕ → Word
word n = record { name = record { 0 = n }; span = place 0 }

abbrev var : ℕ → Shape
var n = at 0 (ExprKind-F.Var (word n))

abbrev number : ℕ → Shape
number n = at 0 (ExprKind-F.Number n)

abbrev binary : Operator → Shape → Shape → Shape
binary o a b = at 0 (ExprKind-F.Binary o a b)

abbrev element : Shape → Shape → Shape
element a i = at 0 (ExprKind-F.Index a i)

abbrev whole_permission : Shape → Shape
whole_permission e = at 0 (ExprKind-F.Perm e 1 1 (place 0))

abbrev token_committed : Shape → Shape
token_committed e = at 0 (ExprKind-F.Token token.Committed e)

-- the variable i, two arrays, a number and an object
abbrev i : Shape
i = var 0

abbrev a : Shape
a = var 1

abbrev b : Shape
b = var 2

abbrev n : Shape
n = var 3

abbrev o : Shape
o = var 4

abbrev item : Shape → Option Item
item e = e.item 0

-- `e == 0`
abbrev is_zero : Shape → Shape
is_zero e = binary op.Eq e (number 0)

-- facts

element_is_fact : item (is_zero (element a i)) ≡ Some (fact (pos 0))
element_is_fact = refl

nothing_added_is_fact : item (binary op.Eq (element a (binary op.Add i (number 0))) (element b (binary op.Sub i (number 0))))
    ≡ Some (fact (pos 0))
nothing_added_is_fact = refl

next_is_fact : item (is_zero (element a (binary op.Add i (number 1)))) ≡ Some (fact (pos 1))
next_is_fact = refl

last_is_fact : item (is_zero (element a (binary op.Sub i (number 1)))) ≡ Some (fact (pos 0 -ℤ pos 1))
last_is_fact = refl

two_facts_in_one : item (binary op.Star (is_zero (element a i)) (is_zero (element b i))) ≡ Some (fact (pos 0))
two_facts_in_one = refl

old_is_fact : item (binary op.Eq (element a i) (at 0 (ExprKind-F.Old (element a i)))) ≡ Some (fact (pos 0))
old_is_fact = refl

two_shifts : item (binary op.Eq (element a i) (element a (binary op.Add i (number 1)))) ≡ None
two_shifts = refl

position_as_value : item (binary op.Eq (element a i) i) ≡ None
position_as_value = refl

nested_index : item (is_zero (element a (element b i))) ≡ None
nested_index = refl

number_first : item (is_zero (element a (binary op.Add (number 1) i))) ≡ None
number_first = refl

term_added : item (is_zero (element a (binary op.Add i n))) ≡ None
term_added = refl

sum_added : item (is_zero (element a (binary op.Add (binary op.Add i (number 1)) (number 1)))) ≡ None
sum_added = refl

-- constants

term_is_constant : item (is_zero n) ≡ Some constant
term_is_constant = refl

committed_is_item : item (token_committed o) ≡ Some committed
committed_is_item = refl

committed_of_element : item (token_committed (element a i)) ≡ None
committed_of_element = refl

idle_is_none : item (at 0 (ExprKind-F.Token token.Idle o)) ≡ None
idle_is_none = refl

-- permissions

element_permission : item (whole_permission (element a i)) ≡ Some (permission (pos 0))
element_permission = refl

field_permission : item (whole_permission (at 0 (ExprKind-F.Field o (word 5)))) ≡ None
field_permission = refl

fixed_permission : item (whole_permission (element a n)) ≡ None
fixed_permission = refl

-- positions

position_left : item (binary op.Ne i n) ≡ Some position
position_left = refl

position_right : item (binary op.Le n i) ≡ Some position
position_right = refl

position_twice : item (binary op.Eq i i) ≡ None
position_twice = refl

-- guards

guarded_permission : item (binary op.Implies (binary op.Lt i n) (whole_permission (element a i)))
    ≡ Some (guarded (permission (pos 0)))
guarded_permission = refl

two_guards : item (binary op.Implies (binary op.And (binary op.Lt (number 0) i) (binary op.Le n n))
    (whole_permission (element a i))) ≡ Some (guarded (permission (pos 0)))
two_guards = refl

guard_of_guard : item (binary op.Implies (binary op.Lt i n)
    (binary op.Implies (binary op.Lt n i) (whole_permission (element a i)))) ≡ Some (guarded (guarded (permission (pos 0))))
guard_of_guard = refl

equation_is_no_guard : item (binary op.Implies (binary op.Eq n n) (whole_permission (element a i))) ≡ None
equation_is_no_guard = refl

two_items_under_guard : item (binary op.Implies (binary op.Lt i n)
    (binary op.Star (whole_permission (element a i)) (is_zero (element a i)))) ≡ None
two_items_under_guard = refl

-- one position

fixed_field : item (binary op.Implies (binary op.Eq i n) (whole_permission (at 0 (ExprKind-F.Field o (word 5))))) ≡ Some fixed
fixed_field = refl

term_first : item (binary op.Implies (binary op.Eq n i) (whole_permission (at 0 (ExprKind-F.Field o (word 5))))) ≡ None
term_first = refl

fixed_with_variable : item (binary op.Implies (binary op.Eq i n) (whole_permission (element a i))) ≡ None
fixed_with_variable = refl

guarded_fixed : item (binary op.Implies (binary op.Lt i n)
    (binary op.Implies (binary op.Eq i n) (whole_permission (element a n)))) ≡ Some (guarded fixed)
guarded_fixed = refl

-- `(\forall* int i = 0 .. 1; body)` or `(\forall int i = 0 .. 1; body)`, at the place 9
abbrev each : Bool → Shape → Shape
each star body =
    at 9 (ExprKind-F.Each (shape_in_each (record {
      star = star;
      name = word 0;
      low = number 0;
      high = number 1;
      body = body;
      written = None;
    })))

-- the same part, at the place 7
abbrev at_seven : Shape
at_seven = at 7 (ExprKind-F.Perm (element a n) 1 1 (place 0))

star_of_items : (each true (binary op.Star (whole_permission (element a i)) (is_zero (element a i)))).faults ≡ []
star_of_items = refl

star_of_no_item : (each true (binary op.Star (whole_permission (element a i)) at_seven)).faults ≡ QuantifierShape (place 7) ∷ []
star_of_no_item = refl

truth_of_facts : (each false (binary op.And (is_zero (element a i)) (is_zero (element a (binary op.Add i (number 1)))))).faults
    ≡ []
truth_of_facts = refl

truth_of_committed : (each false (token_committed o)).faults ≡ QuantifierShape (place 0) ∷ []
truth_of_committed = refl

star_of_committed : (each true (token_committed o)).faults ≡ []
star_of_committed = refl

-- places of quantifiers

negated : (at 0 (ExprKind-F.Not (each true (is_zero n)))).faults ≡ QuantifierShape (place 9) ∷ []
negated = refl

on_the_left : (binary op.Implies (each false (is_zero n)) (is_zero n)).faults ≡ QuantifierShape (place 9) ∷ []
on_the_left = refl

on_the_right : (binary op.Implies (is_zero n)
    (binary op.Star (is_zero n) (binary op.Implies (is_zero n) (each true (is_zero n))))).faults ≡ []
on_the_right = refl

-- a quantifier in a clause of a block, and under a position that is fixed

in_a_clause : (each true (is_zero n)).parts clause 8 ≡ ItemShape (place 9) ∷ []
in_a_clause = refl

fixed_quantifier : (binary op.Implies (binary op.Eq (var 8) n) (each true (whole_permission (element a i)))).parts clause 8 ≡ []
fixed_quantifier = refl

fixed_bad_quantifier : (binary op.Implies (binary op.Eq (var 8) n) (each true at_seven)).parts clause 8 ≡ ItemShape (place 0) ∷ []
fixed_bad_quantifier = refl
