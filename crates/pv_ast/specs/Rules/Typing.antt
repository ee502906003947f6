-- Types: which type may stand where one is needed, and which type an operator gives.
use Rattle.std.specs.Prelude.{ℕ, Bool, true, false, ◌&&◌, ◌||◌, nat_le, Option, Some, None, if◌then◌else◌}
use Rattle.pv_base.specs.declared.Span.{Span}
use Rattle.pv_ast.specs.declared.Operator.{Operator}
use Rattle.pv_ast.specs.declared.Operator.TheVariants as op
use Rattle.pv_ast.specs.declared.PvType.{PvType}
use Rattle.pv_ast.specs.declared.PvType.TheVariants.{Int, Truth, Object, IntArray, TruthArray, Null}
use Rattle.pv_ast.specs.declared.fault.Rule.TheVariants as rule
use Rattle.pv_ast.specs.declared.standing.Context.{Context}
use Rattle.pv_ast.specs.declared.standing.Need.{Need}
use Rattle.pv_ast.specs.declared.standing.Need.TheVariants.{Anything, Exactly, AnObject, AnArray, AnObjectOrArray}
use Rattle.pv_ast.specs.declared.standing.Typing.{Typing}
use Rattle.pv_ast.specs.declared.standing.Typing.TheVariants.{Unsettled, Untyped, Typed}
use Rattle.pv_ast.specs.Rules.Faults.{Faults, none, broken, broken_unless}
use Rattle.pv_base.specs.Names.{same_name}

abbrev pub is_int : PvType → Bool
is_int Int = true
is_int _ = false

abbrev pub is_truth : PvType → Bool
is_truth Truth = true
is_truth _ = false

abbrev pub is_null : PvType → Bool
is_null Null = true
is_null _ = false

abbrev pub is_int_array : PvType → Bool
is_int_array IntArray = true
is_int_array _ = false

abbrev pub is_truth_array : PvType → Bool
is_truth_array TruthArray = true
is_truth_array _ = false

abbrev pub is_array : PvType → Bool
is_array type = is_int_array type || is_truth_array type

abbrev pub is_object : PvType → Bool
is_object (Object class) = true
is_object _ = false

abbrev pub same_type : PvType → PvType → Bool
same_type Int type = is_int type
same_type Truth type = is_truth type
same_type (Object a) (Object b) = same_name a b
same_type (Object a) _ = false
same_type IntArray type = is_int_array type
same_type TruthArray type = is_truth_array type
same_type Null type = is_null type

-- `null` may stand where a class or array type is needed
abbrev pub fits : PvType → PvType → Bool
fits need type = same_type need type || (is_null type && (is_object need || is_array need))

abbrev pub accepts : Need → PvType → Bool
accepts Anything type = true
accepts (Exactly need) type = fits need type
accepts AnObject type = is_object type
accepts AnArray type = is_array type
accepts AnObjectOrArray type = is_object type || is_array type

-- a part has a type, and it is one that is needed
abbrev pub meets : Need → Typing → Bool
meets need Unsettled = false
meets need Untyped = false
meets need (Typed type) = accepts need type

-- the rule of types, at a part whose own parts have the types that they need and whose names are declared
abbrev pub wrong_type : Need → Typing → Span → Faults
wrong_type need Unsettled span = none
wrong_type need Untyped span = broken rule.WrongType span
wrong_type need (Typed type) span = broken_unless (accepts need type) rule.WrongType span

-- a type, where what it needs is there
abbrev pub typed_if : Bool → PvType → Typing
typed_if needed type = if needed then Typed type else Unsettled

abbrev pub is_typed : Typing → Bool
is_typed typing = meets Anything typing

-- the type of a part, or none where it isn't there
abbrev pub typing_or : Typing → Option PvType → Typing
typing_or otherwise None = otherwise
typing_or otherwise (Some type) = Typed type

abbrev pub type_of_typing : Typing → Option PvType
type_of_typing Unsettled = None
type_of_typing Untyped = None
type_of_typing (Typed type) = Some type

-- two types may be compared for equality: one of them may stand where the other is needed
abbrev pub are_comparable : PvType → PvType → Bool
are_comparable a b = fits a b || fits b a

abbrev pub typing_of_equality : Typing → Typing → Typing
typing_of_equality (Typed a) (Typed b) = if are_comparable a b then Typed Truth else Untyped
typing_of_equality (Typed a) Unsettled = Unsettled
typing_of_equality (Typed a) Untyped = Unsettled
typing_of_equality Unsettled b = Unsettled
typing_of_equality Untyped b = Unsettled

-- what each operand of an operator needs
abbrev pub need_of_operator : Operator → Need
need_of_operator op.Add = Exactly Int
need_of_operator op.Sub = Exactly Int
need_of_operator op.Mul = Exactly Int
need_of_operator op.Eq = Anything
need_of_operator op.Ne = Anything
need_of_operator op.Lt = Exactly Int
need_of_operator op.Le = Exactly Int
need_of_operator op.Gt = Exactly Int
need_of_operator op.Ge = Exactly Int
need_of_operator op.And = Exactly Truth
need_of_operator op.Or = Exactly Truth
need_of_operator op.Implies = Exactly Truth
need_of_operator op.Star = Exactly Truth

abbrev pub both_meet : Need → Typing → Typing → Bool
both_meet need a b = meets need a && meets need b

abbrev pub typing_of_operator : Operator → Typing → Typing → Typing
typing_of_operator op.Add a b = typed_if (both_meet (Exactly Int) a b) Int
typing_of_operator op.Sub a b = typed_if (both_meet (Exactly Int) a b) Int
typing_of_operator op.Mul a b = typed_if (both_meet (Exactly Int) a b) Int
typing_of_operator op.Eq a b = typing_of_equality a b
typing_of_operator op.Ne a b = typing_of_equality a b
typing_of_operator op.Lt a b = typed_if (both_meet (Exactly Int) a b) Truth
typing_of_operator op.Le a b = typed_if (both_meet (Exactly Int) a b) Truth
typing_of_operator op.Gt a b = typed_if (both_meet (Exactly Int) a b) Truth
typing_of_operator op.Ge a b = typed_if (both_meet (Exactly Int) a b) Truth
typing_of_operator op.And a b = typed_if (both_meet (Exactly Truth) a b) Truth
typing_of_operator op.Or a b = typed_if (both_meet (Exactly Truth) a b) Truth
typing_of_operator op.Implies a b = typed_if (both_meet (Exactly Truth) a b) Truth
typing_of_operator op.Star a b = typed_if (both_meet (Exactly Truth) a b) Truth

-- the type of an element, where its array and its index have their types
abbrev pub typing_of_element : Typing → Typing → Typing
typing_of_element Unsettled at = Unsettled
typing_of_element Untyped at = Unsettled
typing_of_element (Typed IntArray) at = typed_if (meets (Exactly Int) at) Int
typing_of_element (Typed TruthArray) at = typed_if (meets (Exactly Int) at) Truth
typing_of_element (Typed Int) at = Unsettled
typing_of_element (Typed Truth) at = Unsettled
typing_of_element (Typed (Object class)) at = Unsettled
typing_of_element (Typed Null) at = Unsettled

-- where a truth value is needed: at any depth under it nothing but what is pure may stand
abbrev pub purely : Context → Context
purely c = record c { pure = true }

-- `! && || == !=` need truth values without permissions, and so does the left of `==>`
abbrev pub under_left : Operator → Context → Context
under_left op.Eq c = purely c
under_left op.Ne c = purely c
under_left op.And c = purely c
under_left op.Or c = purely c
under_left op.Implies c = purely c
under_left _ c = c

abbrev pub under_right : Operator → Context → Context
under_right op.Eq c = purely c
under_right op.Ne c = purely c
under_right op.And c = purely c
under_right op.Or c = purely c
under_right _ c = c

-- an old value has the type of its expression
abbrev pub typing_of_old : Typing → Typing
typing_of_old Unsettled = Unsettled
typing_of_old Untyped = Unsettled
typing_of_old (Typed type) = Typed type

-- an amount of permission: from 1 of 1 to 40 of 40
abbrev pub is_amount : ℕ → ℕ → Bool
is_amount part whole = nat_le 1 part && nat_le part whole && nat_le whole 40
