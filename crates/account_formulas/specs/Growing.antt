-- Of a run's state in a world: that all that it holds and knows is so. And where a formula stands, and what holds of each heap.
use Rattle.std.specs.Prelude.{◌≡◌, ◌≤◌, ◌<◌, ℕ, ℤ, Bool, true, int_le, pos, Option, Some, List, [], ◌∷◌}
use Rattle.pv_base.specs.declared.Name.{Name}
use Rattle.pv_ast.specs.declared.PvType.{PvType}
use Rattle.pv_ast.specs.declared.PvType.TheVariants.{Int, Truth, Object, IntArray, TruthArray, Null}
use Rattle.pv_picks.specs.Plain.Core.{Parameter, Program}
use Rattle.pv_picks.specs.Formulas.Heaps.{Heap}
use Rattle.pv_picks.specs.Machine.Starts.{field_kind}
use Rattle.pv_values.specs.declared.value.Value.{Value}
use Rattle.pv_picks.specs.declared.evidence.Pick.{Pick}
use Rattle.pv_picks.specs.Judge.States.{Resource, Holding, Cells, State}
use Rattle.pv_picks.specs.Judge.Runs.{content}
use Rattle.pv_picks.specs.Typing.Heaps.{IsUnused}
use Rattle.pv_picks.specs.Typing.Expressions.{Speech}
use Rattle.account_formulas.specs.Sights.{Contents, Stands, ContentsAgree, LengthsAgree, ValuesFit}
use Rattle.account_formulas.specs.Runs.{Taken, all_maps}
use Rattle.account_formulas.specs.Owning.{IsPlaced}

-- the references that a run has met have numbers up to the count
abbrev pub AllBelow : ℕ → List (PvType × ℕ) → Type 0
AllBelow count [] = Unit {0}
AllBelow count (x ∷ xs) = (x.1 ≤ count) × AllBelow count xs

-- what is held of a resource: more than nothing, of what is there, with a value that stands there whatever is picked
pub record IsHeld (taken : Taken) (present : Heap) (r : Resource) (h : Holding) : Type 0 where
  pub some : 1 ≤ h.amount
  pub placed : IsPlaced present r
  pub value : Value
  pub settled : (picks : List Pick) → content (all_maps taken picks) h.cell ≡ value
  pub stands : Stands present r value

-- what a run holds and knows is so, by the picks for ranges that it took
pub record StateFits (flags : ℕ → Bool) (present : Heap) (taken : Taken) (t : State) : Type 0 where
  pub steps : t.steps ≡ taken.steps
  pub agree : LengthsAgree present t.lengths
  pub holds : (r : Resource) (h : Holding) → t.held r ≡ Some h → IsHeld taken present r h
  pub knows : (class : Name) (object : ℕ) → t.committed class object ≡ true → flags object ≡ true
  pub met : AllBelow present.count t.met

-- where a formula stands: the class around it, what it may speak of, the scope, and the old state with its values
pub record Place (p : Program) (present : Heap) : Type 0 where
  pub class : Name
  pub answer : Option PvType
  pub speech : Speech
  pub scope : List Parameter
  pub past : Heap
  pub old : Cells
  pub known : Contents
  pub before : ValuesFit (field_kind p) present past
  pub agrees : ContentsAgree past known
  pub lengths : (array : ℕ) (n : ℤ) → present.length array ≡ Some n → past.length array ≡ Some n

-- what holds of every reached heap
pub record HeapFits (p : Program) (present : Heap) : Type 0 where
  pub now : ValuesFit (field_kind p) present present
  pub beyond : (n : ℕ) → present.count < n → IsUnused present n
  pub natural : (array : ℕ) (n : ℤ) → present.length array ≡ Some n → int_le (pos 0) n ≡ true

-- a type of which a value can be picked
abbrev pub IsPicked : PvType → Type 0
IsPicked Int = Unit {0}
IsPicked Truth = Unit {0}
IsPicked (Object class) = Unit {0}
IsPicked IntArray = Unit {0}
IsPicked TruthArray = Unit {0}
IsPicked Null = ⊥
