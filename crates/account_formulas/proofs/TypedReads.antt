-- Values that an expression reads have their types.
use Rattle.std.proofs.Common.{◌≡◌, inl, inr, ℕ, zero, suc, ℤ, pos, Bool, true, false, Option, Some, None, IsSome, IsTrue, refl, sym, subst}
use Rattle.std.specs.Prelude.{nat_eq, int_le}
use Rattle.pv_base.specs.declared.Name.{Name}
use Rattle.pv_ast.specs.declared.PvType.{PvType}
use Rattle.pv_ast.specs.declared.PvType.TheVariants.{Int, Truth, Object}
use Rattle.pv_ast.specs.declared.PvType.TheVariants as kind_of_type
use Rattle.pv_values.specs.declared.value.Value.{Value}
use Rattle.pv_values.specs.declared.value.Value.TheVariants as value
use Rattle.pv_values.specs.declared.value.Location.TheVariants as location
use Rattle.pv_values.specs.Typing.{Kind}
use Rattle.pv_picks.specs.Formulas.Values.{reference_in, array_of}
use Rattle.pv_picks.specs.Formulas.Heaps.{Heap}
use Rattle.pv_picks.specs.Formulas.Meeting.{Sight}
use Rattle.pv_picks.specs.Typing.Heaps.{HasKindOf}
use Rattle.pv_picks.specs.Typing.Expressions.{is_reference, IsElement, IsConstantOf}
use Rattle.pv_picks.specs.Typing.Frames.{HasType}
use Rattle.account_formulas.specs.Sights.{Contents, Sees, ValuesFit}

-- what a run sees, with typed values
pub record View (kinds : Name → Name → Option Kind) (present : Heap) (here old : Contents) : Type 0 where
  pub sight : Sight
  pub sees : Sees present here old sight
  pub now : ValuesFit kinds present sight.now
  pub before : ValuesFit kinds present sight.old
  pub natural : (array : ℕ) (n : ℤ) → present.length array ≡ Some n → int_le (pos 0) n ≡ true

abbrev pub old_sight : Sight → Sight
old_sight sight = record { now = sight.old; old = sight.old }

-- the kind of what is read

pub field_typed : (kinds : Name → Name → Option Kind) (present heap : Heap) → ValuesFit kinds present heap
    → (class name : Name) (kind : Kind) → kinds class name ≡ Some kind
    → (o v : Value) → HasType present (Object class) o → heap.value (location.Field (reference_in o) name) ≡ Some v
    → HasKindOf present (Some kind) v
field_typed kinds present heap fits class name kind k (value.Number z) v t h = absurd t
field_typed kinds present heap fits class name kind k (value.Truth b) v t h = absurd t
field_typed kinds present heap fits class name kind k (value.Reference zero) v t h =
    let n = fits.no_fields name in absurd (cc (n, h))
field_typed kinds present heap fits class name kind k (value.Reference (suc n)) v t h =
    subst (λ x. HasKindOf present x v) k (fits.fields n class name v t h)

pub element_typed : (kinds : Name → Name → Option Kind) (present heap : Heap) → ValuesFit kinds present heap → (type : PvType)
    → IsElement type
    → (a v : Value) (i : ℤ) → HasType present (array_of type) a → heap.value (location.Cell (reference_in a) i) ≡ Some v
    → HasType present type v
element_typed kinds present heap fits type (inl e) a v i t h =
    subst (λ x. HasType present x v) (sym e) (go a (subst (λ x. HasType present (array_of x) a) e t) h)
  where
    go : (a : Value) → HasType present (array_of Int) a → heap.value (location.Cell (reference_in a) i) ≡ Some v
        → HasType present Int v
    go (value.Number z) t h = absurd t
    go (value.Truth b) t h = absurd t
    go (value.Reference zero) t h = let n = fits.no_elements i in absurd (cc (n, h))
    go (value.Reference (suc n)) t h = fits.numbers (suc n) t.1 i v h
element_typed kinds present heap fits type (inr e) a v i t h =
    subst (λ x. HasType present x v) (sym e) (go a (subst (λ x. HasType present (array_of x) a) e t) h)
  where
    go : (a : Value) → HasType present (array_of Truth) a → heap.value (location.Cell (reference_in a) i) ≡ Some v
        → HasType present Truth v
    go (value.Number z) t h = absurd t
    go (value.Truth b) t h = absurd t
    go (value.Reference zero) t h = let n = fits.no_elements i in absurd (cc (n, h))
    go (value.Reference (suc n)) t h = fits.truths (suc n) t.1 i v h

-- an array that isn't null has a length
pub array_length : (present : Heap) (type : PvType) → IsElement type → (a : Value) → HasType present (array_of type) a
    → nat_eq (reference_in a) 0 ≡ false
    → IsSome (present.length (reference_in a))
array_length present type (inl e) a t z = go a (subst (λ x. HasType present (array_of x) a) e t) z
  where
    go : (a : Value) → HasType present (array_of Int) a → nat_eq (reference_in a) 0 ≡ false
        → IsSome (present.length (reference_in a))
    go (value.Number z) t h = absurd t
    go (value.Truth b) t h = absurd t
    go (value.Reference zero) t h = absurd (cc h)
    go (value.Reference (suc n)) t h = t.0
array_length present type (inr e) a t z = go a (subst (λ x. HasType present (array_of x) a) e t) z
  where
    go : (a : Value) → HasType present (array_of Truth) a → nat_eq (reference_in a) 0 ≡ false
        → IsSome (present.length (reference_in a))
    go (value.Number z) t h = absurd t
    go (value.Truth b) t h = absurd t
    go (value.Reference zero) t h = absurd (cc h)
    go (value.Reference (suc n)) t h = t.0

pub old_view : (kinds : Name → Name → Option Kind) (present : Heap) (here old : Contents) → View kinds present here old
    → View kinds present old old
old_view kinds present here old v = record {
  sight = old_sight v.sight;
  sees =
      record { now = v.sees.before; before = v.sees.before; now_lengths = v.sees.old_lengths; old_lengths = v.sees.old_lengths };
  now = v.before;
  before = v.before;
  natural = v.natural;
}

pub old_sees : (present : Heap) (here old : Contents) (sight : Sight) → Sees present here old sight
    → Sees present old old (old_sight sight)
old_sees present here old sight s =
    record { now = s.before; before = s.before; now_lengths = s.old_lengths; old_lengths = s.old_lengths }

pub truth_typed : (present : Heap) (type : PvType) (b : Bool) → type ≡ Truth → HasType present type (value.Truth b)
truth_typed present type b e = subst (λ t. HasType present t (value.Truth b)) (sym e) refl

pub number_typed : (present : Heap) (type : PvType) (z : ℤ) → type ≡ Int → HasType present type (value.Number z)
number_typed present type z e = subst (λ t. HasType present t (value.Number z)) (sym e) refl

pub constant_typed : (present : Heap) (v : Value) (type : PvType) → IsConstantOf v type → HasType present type v
constant_typed present (value.Number z) type c = subst (λ t. HasType present t (value.Number z)) (sym c) refl
constant_typed present (value.Truth b) type c = subst (λ t. HasType present t (value.Truth b)) (sym c) refl
constant_typed present (value.Reference zero) type c = null_typed type c
  where
    null_typed : (t : PvType) → IsTrue (is_reference t) → HasType present t (value.Reference 0)
    null_typed Int c = absurd (cc c)
    null_typed Truth c = absurd (cc c)
    null_typed (Object class) c = tt
    null_typed kind_of_type.IntArray c = tt
    null_typed kind_of_type.TruthArray c = tt
    null_typed kind_of_type.Null c = tt
constant_typed present (value.Reference (suc n)) type c = absurd c

-- the length of an array, or null
pub array_or_null : (present : Heap) (type : PvType) → IsElement type → (a : Value) → HasType present (array_of type) a
    → (G : Type 0)
    → (nat_eq (reference_in a) 0 ≡ true → G) → ((n : ℤ) → nat_eq (reference_in a) 0 ≡ false → present.length (reference_in a)
    ≡ Some n → G) → G
array_or_null present type is a typed G null other = go (nat_eq (reference_in a) 0) refl
  where
    some : (o : Option ℤ) → present.length (reference_in a) ≡ o → IsSome o → nat_eq (reference_in a) 0 ≡ false → G
    some None at i z = absurd (cc i)
    some (Some n) at i z = other n z at

    go : (b : Bool) → nat_eq (reference_in a) 0 ≡ b → G
    go true z = null z
    go false z = some (present.length (reference_in a)) refl (array_length present type is a typed z) z
