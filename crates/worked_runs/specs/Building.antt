-- Words in which small core trees are written by hand. Their places are left out, since no law here speaks of them.
use Rattle.std.specs.Prelude.{ℕ, pos, true, false, Some, None, List, [], ◌∷◌, ◌/◌}
use Rattle.pv_base.specs.declared.Name.{Name}
use Rattle.pv_base.specs.declared.Span.{Span}
use Rattle.pv_ast.specs.declared.PvType.{PvType}
use Rattle.pv_ast.specs.declared.PvType.TheVariants.{Int}
use Rattle.pv_values.specs.declared.value.Value.{Value}
use Rattle.pv_values.specs.declared.value.Value.TheVariants as value
use Rattle.pv_fraction.specs.Amounts.{whole}
use Rattle.pv_picks.specs.Plain.Core.{Plain, Plus, Minus, Less, AtMost, Expression, Constant, This, Variable, Field, Element, Compute, Compare, Equal, Formula, Fact, FieldPermission, Star, Each, NoItems, Join, Elements, Repeated, Action, ToVariable, ToField, ToElement, Value', Contract, Statement, Assign, Act, Block, Stop, Then, Member, IsField, IsMethod, Parameter}

abbrev pub nowhere : Span
nowhere = record { from = 0; to = 0 }

-- the name of a number
abbrev pub named : ℕ → Name
named n = record { 0 = n }

-- values

abbrev pub integer : ℕ → Value
integer n = value.Number (pos n)

abbrev pub reference : ℕ → Value
reference n = value.Reference n

-- expressions

abbrev pub number : ℕ → Expression
number n = Constant (integer n)

abbrev pub variable : Name → Expression
variable x = Variable x

-- a field of `this`
abbrev pub own : Name → Name → Expression
own class field = Field This class field nowhere

abbrev pub field : Expression → Name → Name → Expression
field object class name = Field object class name nowhere

-- an element of an array of whole numbers
abbrev pub element : Expression → Expression → Expression
element array index = Element Int array index nowhere

abbrev pub plus : Expression → Expression → Expression
plus a b = Compute Plain Plus a b nowhere

abbrev pub minus : Expression → Expression → Expression
minus a b = Compute Plain Minus a b nowhere

abbrev pub below : Expression → Expression → Expression
below a b = Compare Less a b

abbrev pub at_most : Expression → Expression → Expression
at_most a b = Compare AtMost a b

abbrev pub equals : Expression → Expression → Expression
equals a b = Equal true a b

-- formulas

abbrev pub half : ℕ
half = whole / 2

abbrev pub fact : Expression → Formula
fact e = Fact e nowhere

abbrev pub anything : Formula
anything = fact (Constant (value.Truth true))

abbrev pub permission : Expression → Name → Name → PvType → ℕ → Formula
permission object class name type amount = FieldPermission object class name type amount nowhere

-- the elements of an array at the positions from one bound to below another
abbrev pub elements : Name → Expression → Expression → Expression → ℕ → Formula
elements i low high array amount = Each i low high (Join (Elements Int array (pos 0) amount nowhere) NoItems) nowhere

-- each of those elements is a number
abbrev pub filled : Name → Expression → Expression → Expression → ℕ → Formula
filled i low high array n =
    Each i low high (Join (Repeated (equals (element array (variable i)) (number n)) nowhere) NoItems) nowhere

abbrev pub all_of : List Formula → Formula
all_of [] = anything
all_of (f ∷ []) = f
all_of (f ∷ g ∷ fs) = Star f (all_of (g ∷ fs))

abbrev pub promises : Formula → Formula → Contract
promises before after = record { before = before; after = after }

-- statements

abbrev pub block : List Statement → Block
block [] = Stop
block (s ∷ ss) = Then s (block ss)

abbrev pub set : Name → Expression → Statement
set x e = Assign (ToVariable x) (Value' e) nowhere

abbrev pub set_field : Expression → Name → Name → Expression → Statement
set_field object class name e = Assign (ToField object class name nowhere) (Value' e) nowhere

abbrev pub set_element : Expression → Expression → Expression → Statement
set_element array index e = Assign (ToElement Int array index nowhere) (Value' e) nowhere

abbrev pub act : Action → Name → Expression → Statement
act action class object = Act action class object nowhere

-- members

abbrev pub has_field : Name → PvType → Member
has_field name type = IsField (name, type)

abbrev pub has_method : Name → List Parameter → Contract → List Statement → Member
has_method name parameters contract statements = IsMethod (record {
  name = Some name;
  parameters = parameters;
  result = None;
  contract = contract;
  body = block statements;
  old = false;
})

abbrev pub has_run : Contract → List Statement → Member
has_run contract statements =
    IsMethod (record { name = None; parameters = []; result = None; contract = contract; body = block statements; old = false })
