-- What names and types become: a name is a variable or a field of `this`; a field has its class, an element its type.
use Rattle.std.specs.Prelude.{Option, Some, None, List, map, option_map, if◌then◌else◌}
use Rattle.pv_base.specs.declared.Name.{Name}
use Rattle.pv_base.specs.declared.Span.{Span}
use Rattle.pv_ast.specs.declared.PvType.{PvType}
use Rattle.pv_ast.specs.declared.PvType.TheVariants.{Int, Truth, Object, TruthArray}
use Rattle.pv_ast.specs.declared.Param.{Param}
use Rattle.pv_ast.specs.declared.scope.Declared.{Declared}
use Rattle.pv_ast.specs.declared.standing.Typing.{Typing}
use Rattle.pv_ast.specs.declared.standing.Typing.TheVariants.{Unsettled, Untyped, Typed}
use Rattle.pv_ast.specs.Rules.Scoping.{Visible, variable_named}
use Rattle.pv_ast.specs.Rules.Expressions.{Environment, is_array_length}
use Rattle.pv_picks.specs.Plain.Core.{Expression, Parameter}
use Rattle.pv_picks.specs.Plain.Core as core

-- what stands where the static rules refuse a program
abbrev pub no_name : Name
no_name = record { 0 = 0 }

abbrev pub type_or : PvType → Typing → PvType
type_or otherwise Unsettled = otherwise
type_or otherwise Untyped = otherwise
type_or otherwise (Typed type) = type

-- the type of a part; `int` where it has none
abbrev pub settled : Typing → PvType
settled = type_or Int

abbrev pub class_of_type : PvType → Name
class_of_type (Object class) = class
class_of_type _ = no_name

-- the class of an object
abbrev pub class_at : Typing → Name
class_at typing = class_of_type (settled typing)

abbrev pub element_type : PvType → PvType
element_type TruthArray = Truth
element_type _ = Int

-- the type of an array's elements
abbrev pub elements_of : Typing → PvType
elements_of typing = element_type (settled typing)

-- a name by what it is declared as: a variable, or else a field of `this`
abbrev pub named : Environment → Span → Name → Option Declared → Expression
named a span name None = core.Field core.This a.class name span
named a span name (Some d) = core.Variable name

-- the length of an array, or a field of an object
abbrev pub member_of : Environment → Span → Name → Typing → Expression → Expression
member_of a span name typing x =
    if is_array_length a name typing then core.Length (elements_of typing) x span else core.Field x (class_at typing) name span

abbrev pub parameter_of : Param → Parameter
parameter_of p = (p.name.name, p.kind.kind)

abbrev pub parameters_of : List Param → List Parameter
parameters_of ps = map parameter_of ps

-- a variable in scope with its type
abbrev pub variable_in : Visible → Name → Option Parameter
variable_in v name = option_map (λ d. (name, d.kind)) (variable_named v name)
