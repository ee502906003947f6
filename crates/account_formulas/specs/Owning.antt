-- What it is for amounts to suffice for a formula in a world: that it is met there, and that the amounts have what it asks for.
use Rattle.std.specs.Prelude.{◌≡◌, ◌⊎◌, ◌+◌, ◌≤◌, ℕ, ℤ, pos, ◌+ℤ◌, Bool, true, false, Option, Some, None, IsSome, List, [], ◌∷◌}
use Rattle.pv_base.specs.declared.Name.{Name}
use Rattle.pv_base.specs.declared.Span.{Span}
use Rattle.pv_ast.specs.declared.PvType.{PvType}
use Rattle.pv_ast.specs.declared.Token.{Token}
use Rattle.pv_ast.specs.declared.Token.TheVariants as token
use Rattle.pv_values.specs.declared.value.Value.{Value}
use Rattle.pv_values.specs.declared.value.Value.TheVariants as value
use Rattle.pv_values.specs.declared.value.Location.TheVariants as location
use Rattle.pv_fraction.specs.Amounts.{whole}
use Rattle.pv_picks.specs.Plain.Core.{Expression, Program, Predicate, Cut, Formula, Fact, FieldPermission, ElementPermission, Holds, Instance, Star, When, Each, Items, NoItems, Join, Item, Elements, Repeated, Committed, Guarded, Fixed}
use Rattle.pv_picks.specs.Plain.Members.{predicate_named}
use Rattle.pv_picks.specs.Formulas.Values.{number_in, truth_in, reference_in, array_of, within, is_empty}
use Rattle.pv_picks.specs.Formulas.Heaps.{Heap}
use Rattle.pv_picks.specs.Formulas.Evaluation.{Scene}
use Rattle.pv_picks.specs.Formulas.Meeting.{Sight, at, guard_term}
use Rattle.pv_picks.specs.Judge.States.{Resource, InField, InElement, OfToken, OfLock, Folded}
use Rattle.pv_picks.specs.Judge.Repetitions.{Range, range_of, cut_by}
use Rattle.pv_picks.specs.Machine.Frames.{outer_scene, only_now}
use Rattle.pv_picks.specs.Typing.Expressions.{IsElement}
use Rattle.pv_picks.specs.Typing.Frames.{HasType}
use Rattle.account_formulas.specs.Sights.{value_at, values_at, Stands}

-- how much of each resource
abbrev pub Amounts : Type 0
Amounts = Resource → ℕ

-- what stands in a heap where something is held
abbrev pub IsPlaced : Heap → Resource → Type 0
IsPlaced heap (InField class object name) = (heap.class object ≡ Some class) × IsSome (heap.value (location.Field object name))
IsPlaced heap (InElement type array index) =
    ((n : ℤ) × (heap.length array ≡ Some n) × (within (pos 0) n index ≡ true)) × IsSome (heap.value (location.Cell array index))
    × IsElement type × HasType heap (array_of type) (value.Reference array)
IsPlaced heap (OfToken token class object) = heap.class object ≡ Some class
IsPlaced heap (OfLock class object) = heap.class object ≡ Some class

-- the token that stays known
abbrev pub is_committed : Token → Bool
is_committed token.Committed = true
is_committed token.Idle = false
is_committed token.Running = false
is_committed token.Uncommitted = false

-- what guards leave of a range: nothing is left where they aren't all looked at
abbrev pub CutsTo : Sight → Scene → List Cut → Range → Option Range → Type 0
CutsTo sight scene [] r last = last ≡ Some r
CutsTo sight scene (cut ∷ cuts) r last =
    ((is_empty r.low r.high ≡ true) × (last ≡ None))
    ⊎ ((is_empty r.low r.high ≡ false) × ((v : Value) × (value_at sight scene (guard_term cut) ≡ Some v)
    × CutsTo sight scene cuts (cut_by cut v r) last))

mutual
  -- what a formula owns: the amounts suffice for it in a sight and a scene, and it is met there; the flags say which objects are
  -- committed
  pub data Owns (p : Program) (flags : ℕ → Bool) : Sight → Scene → Formula → Amounts → Type 0 where
    fact : {sight : Sight} {scene : Scene} {R : Amounts} {e : Expression} {span : Span}
        → (v : Value) → value_at sight scene e ≡ Some v → truth_in v ≡ true → Owns p flags sight scene (Fact e span) R
    field : {sight : Sight} {scene : Scene} {R : Amounts} {e : Expression} {class name : Name} {type : PvType} {amount : ℕ}
        {span : Span}
        → (o : Value) → value_at sight scene e ≡ Some o → IsPlaced sight.now (InField class (reference_in o) name)
        → amount ≤ R (InField class (reference_in o) name)
        → Owns p flags sight scene (FieldPermission e class name type amount span) R
    element : {sight : Sight} {scene : Scene} {R : Amounts} {array index : Expression} {type : PvType} {amount : ℕ} {span : Span}
        → (a i : Value) → value_at sight scene array ≡ Some a → value_at sight scene index ≡ Some i
        → IsPlaced sight.now (InElement type (reference_in a) (number_in i))
        → amount ≤ R (InElement type (reference_in a) (number_in i))
        → Owns p flags sight scene (ElementPermission type array index amount span) R
    holds : {sight : Sight} {scene : Scene} {R : Amounts} {e : Expression} {t : Token} {class : Name} {span : Span}
        → (o : Value) → value_at sight scene e ≡ Some o → is_committed t ≡ false → sight.now.class (reference_in o) ≡ Some class
        → whole ≤ R (OfToken t class (reference_in o)) → Owns p flags sight scene (Holds t class e span) R
    known : {sight : Sight} {scene : Scene} {R : Amounts} {e : Expression} {t : Token} {class : Name} {span : Span}
        → (o : Value) → value_at sight scene e ≡ Some o → is_committed t ≡ true → flags (reference_in o) ≡ true
        → Owns p flags sight scene (Holds t class e span) R
    folded : {sight : Sight} {scene : Scene} {R : Amounts} {e : Expression} {arguments : List Expression} {class predicate : Name}
        {span : Span}
        → (o : Value) (vs : List Value) (d : Predicate) → value_at sight scene e ≡ Some o → values_at sight scene arguments
        ≡ Some vs
        → predicate_named p class predicate ≡ Some d
        → Owns p flags (only_now sight.now) (outer_scene (reference_in o) d.parameters vs) d.body R
        → Owns p flags sight scene (Instance class predicate e arguments span) R
    star : {sight : Sight} {scene : Scene} {R : Amounts} {a b : Formula} (A B : Amounts) → Owns p flags sight scene a A
        → Owns p flags sight scene b B
        → ((r : Resource) → A r + B r ≤ R r) → Owns p flags sight scene (Star a b) R
    when_on : {sight : Sight} {scene : Scene} {R : Amounts} {e : Expression} {f : Formula} {span : Span}
        → (v : Value) → value_at sight scene e ≡ Some v → truth_in v ≡ true → Owns p flags sight scene f R
        → Owns p flags sight scene (When e f span) R
    when_off : {sight : Sight} {scene : Scene} {R : Amounts} {e : Expression} {f : Formula} {span : Span}
        → (v : Value) → value_at sight scene e ≡ Some v → truth_in v ≡ false → Owns p flags sight scene (When e f span) R
    each : {sight : Sight} {scene : Scene} {R : Amounts} {name : Name} {low high : Expression} {items : Items} {span : Span}
        → (l u : Value) → value_at sight scene low ≡ Some l → value_at sight scene high ≡ Some u
        → OwnsItems p flags sight scene name (number_in l) (number_in u) items R
        → Owns p flags sight scene (Each name low high items span) R

  -- items, each at every position from low to below high
  pub data OwnsItems (p : Program) (flags : ℕ → Bool) : Sight → Scene → Name → ℤ → ℤ → Items → Amounts → Type 0 where
    no_items : {sight : Sight} {scene : Scene} {R : Amounts} {name : Name} {low high : ℤ}
        → OwnsItems p flags sight scene name low high NoItems R
    joined : {sight : Sight} {scene : Scene} {R : Amounts} {name : Name} {low high : ℤ} {i : Item} {is : Items} (A B : Amounts)
        → OwnsItem p flags sight scene name (range_of low high) i A → OwnsItems p flags sight scene name low high is B
        → ((r : Resource) → A r + B r ≤ R r) → OwnsItems p flags sight scene name low high (Join i is) R

  -- an item at every position of a range
  pub data OwnsItem (p : Program) (flags : ℕ → Bool) : Sight → Scene → Name → Range → Item → Amounts → Type 0 where
    nothing : {sight : Sight} {scene : Scene} {R : Amounts} {name : Name} {r : Range} {i : Item}
        → is_empty r.low r.high ≡ true → OwnsItem p flags sight scene name r i R
    elements : {sight : Sight} {scene : Scene} {R : Amounts} {name : Name} {r : Range} {type : PvType} {array : Expression}
        {shift : ℤ} {amount : ℕ} {span : Span}
        → (a : Value) → value_at sight scene array ≡ Some a
        → ((i : ℤ) → within (r.low +ℤ shift) (r.high +ℤ shift) i ≡ true → IsPlaced sight.now (InElement type (reference_in a) i)
        × (amount ≤ R (InElement type (reference_in a) i)))
        → OwnsItem p flags sight scene name r (Elements type array shift amount span) R
    repeated : {sight : Sight} {scene : Scene} {R : Amounts} {name : Name} {r : Range} {e : Expression} {span : Span}
        → ((i : ℤ) → within r.low r.high i ≡ true → (v : Value) × (value_at sight (at scene name i) e ≡ Some v)
        × (truth_in v ≡ true))
        → OwnsItem p flags sight scene name r (Repeated e span) R
    committed : {sight : Sight} {scene : Scene} {R : Amounts} {name : Name} {r : Range} {e : Expression} {class : Name}
        {span : Span}
        → (o : Value) → value_at sight scene e ≡ Some o → flags (reference_in o) ≡ true
        → OwnsItem p flags sight scene name r (Committed class e span) R
    cut_off : {sight : Sight} {scene : Scene} {R : Amounts} {name : Name} {r : Range} {cuts : List Cut} {i : Item} {span : Span}
        → CutsTo sight scene cuts r None → OwnsItem p flags sight scene name r (Guarded cuts i span) R
    cut : {sight : Sight} {scene : Scene} {R : Amounts} {name : Name} {r : Range} {cuts : List Cut} {i : Item} {span : Span}
        → (x : Range) → CutsTo sight scene cuts r (Some x) → OwnsItem p flags sight scene name x i R
        → OwnsItem p flags sight scene name r (Guarded cuts i span) R
    fixed : {sight : Sight} {scene : Scene} {R : Amounts} {name : Name} {r : Range} {e : Expression} {f : Formula} {span : Span}
        → (v : Value) → value_at sight scene e ≡ Some v → within r.low r.high (number_in v) ≡ true
        → Owns p flags sight (at scene name (number_in v)) f R → OwnsItem p flags sight scene name r (Fixed e f span) R
    beside : {sight : Sight} {scene : Scene} {R : Amounts} {name : Name} {r : Range} {e : Expression} {f : Formula} {span : Span}
        → (v : Value) → value_at sight scene e ≡ Some v → within r.low r.high (number_in v) ≡ false
        → OwnsItem p flags sight scene name r (Fixed e f span) R

-- a later heap keeps what is held: what stands there stays, with its value where R has something, and so do lengths
pub record KeepsHeld (R : Amounts) (present later : Heap) : Type 0 where
  pub placed : (r : Resource) → IsPlaced present r → IsPlaced later r
  pub kept : (r : Resource) (v : Value) → 1 ≤ R r → Stands present r v → Stands later r v
  pub lengths : (array : ℕ) (n : ℤ) → present.length array ≡ Some n → later.length array ≡ Some n

-- amounts suffice for a formula, and go on to do so while what they have is kept
abbrev pub KeepsOwning : Program → (ℕ → Bool) → Heap → Scene → Formula → Amounts → Type 0
KeepsOwning p flags heap scene f R = (later : Heap) → KeepsHeld R heap later → Owns p flags (only_now later) scene f R

-- each folded instance of a run has its share, for which its body is owned and stays owned
abbrev pub HasTrees : Program → (ℕ → Bool) → Heap → List Folded → Amounts → Type 0
HasTrees p flags heap [] R = Unit {0}
HasTrees p flags heap (x ∷ xs) R =
    (A : Amounts) × (B : Amounts)
    × ((d : Predicate) × (predicate_named p x.class x.predicate ≡ Some d)
    × KeepsOwning p flags heap (outer_scene x.object d.parameters x.arguments) d.body A)
    × HasTrees p flags heap xs B × ((r : Resource) → A r + B r ≤ R r)
