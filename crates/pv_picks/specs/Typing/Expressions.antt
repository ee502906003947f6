-- Types of expressions of a plain program, in bodies and in formulas.
use Rattle.std.specs.Prelude.{◌≡◌, ◌⊎◌, zero, suc, Bool, true, false, nat_eq, if◌then◌else◌, IsTrue, Option, Some, None, unwrap_or, List, [], ◌∷◌}
use Rattle.pv_base.specs.declared.Name.{Name}
use Rattle.pv_ast.specs.declared.PvType.{PvType}
use Rattle.pv_ast.specs.declared.PvType.TheVariants.{Int, Truth, Object, IntArray, TruthArray, Null}
use Rattle.pv_values.specs.declared.value.Value.{Value}
use Rattle.pv_values.specs.declared.value.Value.TheVariants as value
use Rattle.pv_picks.specs.Plain.Core.{Expression, Constant, This, Result, Variable, Field, Element, Length, Not, Compute, Compare, Equal, And, Or, Implies, Old, Parameter, Method, Program}
use Rattle.pv_picks.specs.Formulas.Values.{array_of}
use Rattle.pv_picks.specs.Plain.Members.{field_type}

-- where a body stands: in a program, with the class of `this` and the type of what it returns, if it returns to a call
pub record Home : Type 0 where
  pub program : Program
  pub class : Name
  pub answer : Option PvType

-- a method without a result answers null
abbrev pub answer_of : Method → PvType
answer_of m = unwrap_or m.result Null

-- the type of a variable among those in scope, of which the last declared comes first
abbrev pub type_in : List Parameter → Name → Option PvType
type_in [] name = None
type_in (x ∷ xs) name = if nat_eq name.0 x.0.0 then Some x.1 else type_in xs name

abbrev pub is_reference : PvType → Bool
is_reference Int = false
is_reference Truth = false
is_reference (Object class) = true
is_reference IntArray = true
is_reference TruthArray = true
is_reference Null = true

-- a type that a field, a variable or a result may be declared with: any but that of null alone
abbrev pub IsDeclared : PvType → Type 0
IsDeclared Int = Unit {0}
IsDeclared Truth = Unit {0}
IsDeclared (Object class) = Unit {0}
IsDeclared IntArray = Unit {0}
IsDeclared TruthArray = Unit {0}
IsDeclared Null = ⊥

-- arrays are of whole numbers or of truth values
abbrev pub IsElement : PvType → Type 0
IsElement type = (type ≡ Int) ⊎ (type ≡ Truth)

-- a constant goes where the type is wanted: null goes where any reference does
abbrev pub IsConstantOf : Value → PvType → Type 0
IsConstantOf (value.Number z) type = type ≡ Int
IsConstantOf (value.Truth b) type = type ≡ Truth
IsConstantOf (value.Reference zero) type = IsTrue (is_reference type)
IsConstantOf (value.Reference (suc n)) type = ⊥

-- what an expression may speak of beside its state: `\result`, of a type, and with `\old` the state that a method began in
pub record Speech : Type 0 where
  pub result : Option PvType
  pub old : Bool

-- in the bodies of methods
abbrev pub silent : Speech
silent = record { result = None; old = false }

-- an expression with such a speech goes where the type is wanted
abbrev pub Says : Home → Speech → List Parameter → Expression → PvType → Type 0
Says h speech xs (Constant v) type = IsConstantOf v type
Says h speech xs This type = type ≡ Object h.class
Says h speech xs Result type = speech.result ≡ Some type
Says h speech xs (Variable name) type = type_in xs name ≡ Some type
Says h speech xs (Field object class name span) type =
    Says h speech xs object (Object class) × (field_type h.program class name ≡ Some type)
Says h speech xs (Element element array index span) type =
    Says h speech xs array (array_of element) × Says h speech xs index Int × IsElement element × (type ≡ element)
Says h speech xs (Length element array span) type = Says h speech xs array (array_of element) × IsElement element × (type ≡ Int)
Says h speech xs (Not e) type = Says h speech xs e Truth × (type ≡ Truth)
Says h speech xs (Compute manner operation a b span) type = Says h speech xs a Int × Says h speech xs b Int × (type ≡ Int)
Says h speech xs (Compare order a b) type = Says h speech xs a Int × Says h speech xs b Int × (type ≡ Truth)
Says h speech xs (Equal same a b) type = (both : PvType) × Says h speech xs a both × Says h speech xs b both × (type ≡ Truth)
Says h speech xs (And a b) type = Says h speech xs a Truth × Says h speech xs b Truth × (type ≡ Truth)
Says h speech xs (Or a b) type = Says h speech xs a Truth × Says h speech xs b Truth × (type ≡ Truth)
Says h speech xs (Implies a b) type = Says h speech xs a Truth × Says h speech xs b Truth × (type ≡ Truth)
Says h speech xs (Old e) type = IsTrue speech.old × Says h speech xs e type

-- each expression goes where its type is wanted
abbrev pub AllSay : Home → Speech → List Parameter → List Expression → List PvType → Type 0
AllSay h speech xs [] [] = Unit {0}
AllSay h speech xs [] (type ∷ types) = ⊥
AllSay h speech xs (e ∷ es) [] = ⊥
AllSay h speech xs (e ∷ es) (type ∷ types) = Says h speech xs e type × AllSay h speech xs es types

-- an expression of a body goes where the type is wanted; `\result` and `\old` stand in formulas alone
abbrev pub IsOf : Home → List Parameter → Expression → PvType → Type 0
IsOf h xs e type = Says h silent xs e type

abbrev pub AreOf : Home → List Parameter → List Expression → List PvType → Type 0
AreOf h xs es types = AllSay h silent xs es types

-- types over others, the last on top
abbrev pub onto : List PvType → List PvType → List PvType
onto [] stack = stack
onto (type ∷ types) stack = onto types (type ∷ stack)
