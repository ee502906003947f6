-- What a run of the judge sees of a world: that what it knows of locations and lengths stands in the heap, and is typed.
use Rattle.std.specs.Prelude.{◌≡◌, ◌<◌, ℕ, suc, ℤ, Option, Some, None, List}
use Rattle.pv_base.specs.declared.Name.{Name}
use Rattle.pv_ast.specs.declared.PvType.{PvType}
use Rattle.pv_ast.specs.declared.PvType.TheVariants.{Object}
use Rattle.pv_values.specs.declared.value.Value.{Value}
use Rattle.pv_values.specs.declared.value.Value.TheVariants as value
use Rattle.pv_values.specs.declared.value.Location.TheVariants as location
use Rattle.pv_values.specs.Typing.{Kind, is_number, is_truth}
use Rattle.pv_picks.specs.Plain.Core.{Expression, Parameter}
use Rattle.pv_picks.specs.Formulas.Heaps.{Heap}
use Rattle.pv_picks.specs.Formulas.Evaluation.{Scene}
use Rattle.pv_picks.specs.Formulas.Meeting.{Sight, value_or, values_or}
use Rattle.pv_picks.specs.Judge.States.{Resource, InField, InElement, OfToken, OfLock}
use Rattle.pv_picks.specs.Typing.Heaps.{HasKindOf, HoldsOnly}
use Rattle.pv_picks.specs.Typing.Expressions.{Home, Speech}
use Rattle.pv_picks.specs.Typing.Frames.{HasType, VariablesFit}

-- lengths that are known, by the type of the elements and the array
abbrev pub Lengths : Type 0
Lengths = PvType → ℕ → Option ℤ

-- values that are known, by what they are in
abbrev pub Contents : Type 0
Contents = Resource → Option Value

-- the value of an expression in a heap, where it has one
abbrev pub value_at : Sight → Scene → Expression → Option Value
value_at sight scene e = value_or None sight scene e Some

abbrev pub values_at : Sight → Scene → List Expression → Option (List Value)
values_at sight scene es = values_or None sight scene es Some

-- a value stands in a heap in what may be held; tokens and locks have nothing in them
abbrev pub Stands : Heap → Resource → Value → Type 0
Stands heap (InField class object name) v = heap.value (location.Field object name) ≡ Some v
Stands heap (InElement type array index) v = heap.value (location.Cell array index) ≡ Some v
Stands heap (OfToken token class object) v = Unit {0}
Stands heap (OfLock class object) v = Unit {0}

-- all known values stand in a heap
abbrev pub ContentsAgree : Heap → Contents → Type 0
ContentsAgree heap known = (r : Resource) (v : Value) → known r ≡ Some v → Stands heap r v

-- all known lengths are those of a heap
abbrev pub LengthsAgree : Heap → Lengths → Type 0
LengthsAgree heap lengths = (type : PvType) (array : ℕ) (n : ℤ) → lengths type array ≡ Some n → heap.length array ≡ Some n

-- all that is known, now and of the old state, stands in a sight, and the present arrays have their lengths there
pub record Sees (present : Heap) (here old : Contents) (sight : Sight) : Type 0 where
  pub now : ContentsAgree sight.now here
  pub before : ContentsAgree sight.old old
  pub now_lengths : (array : ℕ) (n : ℤ) → present.length array ≡ Some n → sight.now.length array ≡ Some n
  pub old_lengths : (array : ℕ) (n : ℤ) → present.length array ≡ Some n → sight.old.length array ≡ Some n

-- the values of a heap, now or before, have their kinds in the present heap, and nothing stands beyond its count
pub record ValuesFit (kinds : Name → Name → Option Kind) (present heap : Heap) : Type 0 where
  pub fields : (object : ℕ) (class name : Name) (v : Value) → present.class (suc object) ≡ Some class
      → heap.value (location.Field (suc object) name) ≡ Some v → HasKindOf present (kinds class name) v
  pub numbers : (array : ℕ) → HoldsOnly is_number present array → HoldsOnly is_number heap array
  pub truths : (array : ℕ) → HoldsOnly is_truth present array → HoldsOnly is_truth heap array
  pub no_fields : (name : Name) → heap.value (location.Field 0 name) ≡ None
  pub no_elements : (index : ℤ) → heap.value (location.Cell 0 index) ≡ None
  pub beyond_fields : (n : ℕ) (name : Name) → present.count < n → heap.value (location.Field n name) ≡ None
  pub beyond_elements : (n : ℕ) (index : ℤ) → present.count < n → heap.value (location.Cell n index) ≡ None

-- `this`, the variables in scope and the result have their types
pub record SceneFits (h : Home) (speech : Speech) (xs : List Parameter) (heap : Heap) (scene : Scene) : Type 0 where
  pub this : HasType heap (Object h.class) (value.Reference scene.this)
  pub variables : VariablesFit heap xs scene.variables
  pub result : (type : PvType) → speech.result ≡ Some type → HasType heap type scene.result
