-- Well typed frames in a heap.
use Rattle.std.specs.Prelude.{◌≡◌, Bool, true, Option, Some, List, [], ◌∷◌}
use Rattle.pv_base.specs.declared.Name.{Name}
use Rattle.pv_ast.specs.declared.PvType.{PvType}
use Rattle.pv_ast.specs.declared.PvType.TheVariants.{Object}
use Rattle.pv_values.specs.declared.value.Value.{Value}
use Rattle.pv_values.specs.declared.value.Value.TheVariants as value
use Rattle.pv_picks.specs.Plain.Core.{Parameter}
use Rattle.pv_picks.specs.Formulas.Values.{Variables}
use Rattle.pv_picks.specs.Formulas.Heaps.{Heap}
use Rattle.pv_picks.specs.Machine.Starts.{kind_of}
use Rattle.pv_picks.specs.Machine.Frames.{Frame}
use Rattle.pv_picks.specs.Typing.Heaps.{HasKind}
use Rattle.pv_picks.specs.Typing.Expressions.{Home, type_in}
use Rattle.pv_picks.specs.Typing.Tasks.{TasksFit}

abbrev pub HasType : Heap → PvType → Value → Type 0
HasType heap type v = HasKind heap (kind_of type) v

-- values of the types, and perhaps more under them
abbrev pub ValuesFit : Heap → List PvType → List Value → Type 0
ValuesFit heap [] values = Unit {0}
ValuesFit heap (type ∷ types) [] = ⊥
ValuesFit heap (type ∷ types) (v ∷ vs) = HasType heap type v × ValuesFit heap types vs

-- each variable in scope has its type
abbrev pub VariablesFit : Heap → List Parameter → Variables → Type 0
VariablesFit heap xs variables = (name : Name) (type : PvType) → type_in xs name ≡ Some type
    → HasType heap type (variables name.0)

-- the result has the type of the answer, where one was given
abbrev pub ResultFits : Heap → Option PvType → Bool → Value → Type 0
ResultFits heap answer given result = given ≡ true → (type : PvType) → answer ≡ Some type → HasType heap type result

-- some types of the variables in scope and of the intermediate values fit a frame and its tasks
pub record FrameFits (h : Home) (heap : Heap) (f : Frame) : Type 0 where
  pub scope : List Parameter
  pub given : Bool
  pub stack : List PvType
  pub class : f.class ≡ h.class
  pub this : HasType heap (Object h.class) (value.Reference f.this)
  pub variables : VariablesFit heap scope f.variables
  pub result : ResultFits heap h.answer given f.result
  pub values : ValuesFit heap stack f.values
  pub tasks : TasksFit h scope given stack f.tasks
