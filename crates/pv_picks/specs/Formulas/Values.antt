-- Values of the meaning: whole numbers without bound, truth values, references of which 0 is null.
use Rattle.std.specs.Prelude.{ℕ, ℤ, pos, negsuc, ◌+ℤ◌, ◌-ℤ◌, ◌*ℤ◌, Bool, true, false, not, ◌&&◌, nat_eq, int_le, int_lt, if◌then◌else◌, List, [], ◌∷◌}
use Rattle.pv_base.specs.declared.Name.{Name}
use Rattle.pv_ast.specs.declared.PvType.{PvType}
use Rattle.pv_ast.specs.declared.PvType.TheVariants.{Int, Truth, Object, IntArray, TruthArray, Null}
use Rattle.pv_values.specs.declared.value.Value.{Value}
use Rattle.pv_values.specs.declared.value.Value.TheVariants as value
use Rattle.pv_values.specs.Sames.{same_value}
use Rattle.pv_picks.specs.Plain.Core.{Operation, Plus, Minus, Times, Comparison, Less, AtMost, Greater, AtLeast, Parameter}

-- what a value is as a number, a truth value and a reference, where it is one
abbrev pub number_in : Value → ℤ
number_in (value.Number z) = z
number_in (value.Truth b) = pos 0
number_in (value.Reference n) = pos 0

abbrev pub truth_in : Value → Bool
truth_in (value.Number z) = false
truth_in (value.Truth b) = b
truth_in (value.Reference n) = false

abbrev pub reference_in : Value → ℕ
reference_in (value.Number z) = 0
reference_in (value.Truth b) = 0
reference_in (value.Reference n) = n

-- what a variable, a field or an element holds at first
abbrev pub default_of : PvType → Value
default_of Int = value.Number (pos 0)
default_of Truth = value.Truth false
default_of (Object class) = value.Reference 0
default_of IntArray = value.Reference 0
default_of TruthArray = value.Reference 0
default_of Null = value.Reference 0

abbrev pub arithmetic : Operation → ℤ → ℤ → ℤ
arithmetic Plus a b = a +ℤ b
arithmetic Minus a b = a -ℤ b
arithmetic Times a b = a *ℤ b

abbrev pub comparison : Comparison → ℤ → ℤ → Bool
comparison Less a b = int_lt a b
comparison AtMost a b = int_le a b
comparison Greater a b = int_lt b a
comparison AtLeast a b = int_le b a

-- whether two values are the same, or whether they differ
abbrev pub equality : Bool → Value → Value → Bool
equality true a b = same_value a b
equality false a b = not (same_value a b)

-- a value for each variable, by the number of its name
abbrev pub Variables : Type 0
Variables = ℕ → Value

abbrev pub with_variable : Variables → Name → Value → Variables
with_variable variables name value other = if nat_eq other name.0 then value else variables other

-- each parameter has its argument; what has none keeps its value
abbrev pub with_arguments : Variables → List Parameter → List Value → Variables
with_arguments variables [] values = variables
with_arguments variables (p ∷ ps) [] = variables
with_arguments variables (p ∷ ps) (v ∷ vs) = with_arguments (with_variable variables p.0 v) ps vs

abbrev pub no_variables : Variables
no_variables name = value.Number (pos 0)

-- the position of a repetition or of a member
abbrev pub at_position : Variables → Name → ℤ → Variables
at_position variables name position = with_variable variables name (value.Number position)

-- the type of an array by that of its elements
abbrev pub array_of : PvType → PvType
array_of Truth = TruthArray
array_of _ = IntArray

-- a position from the first bound to below the second
abbrev pub within : ℤ → ℤ → ℤ → Bool
within low high position = int_le low position && int_lt position high

abbrev pub is_empty : ℤ → ℤ → Bool
is_empty low high = int_le high low

abbrev pub or_zero : ℤ → ℕ
or_zero (pos n) = n
or_zero (negsuc n) = 0

-- how many positions there are
abbrev pub width : ℤ → ℤ → ℕ
width low high = or_zero (high -ℤ low)
