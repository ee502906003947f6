-- A list of fields, and a heap, with another item at one place.
use Rattle.std.proofs.Common.{◌≡◌, ◌≢◌, ℕ, zero, suc, ◌+◌, ◌-◌, ◌<◌, ℤ, Bool, true, false, ◌&&◌, cond, not, nat_lt, [], ◌∷◌, length, get_or, slice_set, slice_get, Option, Some, None, IsSome, nat_eq, refl, sym, ◌∙◌, ap, arith}
use Rattle.std.proofs.lemmas.Grind.{common_steps}
use Rattle.std.proofs.lemmas.Bool.{eqb-true}
use Rattle.std.proofs.lemmas.Bool.Decides.{nat_tests}
use Rattle.std.proofs.lemmas.Option.{none-some}
use Rattle.std.specs.List.{position, position_or_len}
use Rattle.pv_base.specs.declared.Name.{Name}
use Rattle.pv_values.specs.declared.value.Value.{Value}
use Rattle.pv_values.specs.declared.value.Location.{Location}
use Rattle.pv_values.specs.declared.value.Location.TheVariants.{Field, Cell}
use Rattle.pv_values.specs.declared.thing.Thing.{Thing}
use Rattle.pv_values.specs.Heaps.{Fields, field_value, Things, thing_at, value_at, field_in, element_in, same_location, same_number}
use Rattle.pv_base.specs.Names.{same_name}
use Rattle.pv_values.specs.Changes.{IsThingWithField, IsThingWithElement}

first_field : (x n k : ℕ) (v old : Value) (rest : Option Value) (t s : Bool) → nat_eq n k ≡ true → nat_eq x n ≡ t → nat_eq x k ≡ s
    → cond t (Some v) rest ≡ cond t (Some v) (cond s (Some old) rest)
first_field x n k v old rest true s same p q = refl
first_field x n k v old rest false true same p q = absurd (grind (arith, nat_tests))
first_field x n k v old rest false false same p q = refl

later_field : (x n k : ℕ) (v old : Value) (rest changed : Option Value) (t s : Bool) → nat_eq n k ≡ false → nat_eq x n ≡ t
    → nat_eq x k ≡ s → changed ≡ cond t (Some v) rest
    → cond s (Some old) changed ≡ cond t (Some v) (cond s (Some old) rest)
later_field x n k v old rest changed true true other p q e = absurd (grind (arith, nat_tests))
later_field x n k v old rest changed true false other p q e = e
later_field x n k v old rest changed false true other p q e = refl
later_field x n k v old rest changed false false other p q e = e

-- another value in the first field that has the name
pub set_first : (fields : Fields) (at : ℕ) (name : Name) (value : Value) (d : Name × Value) → at < length fields
    → same_name name (get_or fields at d).0 ≡ true
    → ((k : ℕ) → k < at → same_name name (get_or fields k d).0 ≡ false)
    → (other : Name) → field_value (slice_set fields at (name, value)) other
    ≡ cond (same_name other name) (Some value) (field_value fields other)
set_first [] at name value d within here before other = absurd (omega arith)
set_first (f ∷ fs) zero name value d within here before other =
    first_field other.0 name.0 f.0.0 value f.1 (field_value fs other) (same_name other name) (same_name other f.0) here refl refl
set_first (f ∷ fs) (suc at) name value d within here before other =
    later_field other.0 name.0 f.0.0 value f.1 (field_value fs other) (field_value (slice_set fs at (name, value)) other)
    (same_name other name) (same_name other f.0)
    (before 0 (omega arith)) refl refl
    (set_first fs at name value d (grind (arith, common_steps)) here (λ k low. before (suc k) (omega arith)) other)

set_get : (heap : Things) (at : ℕ) (new : Thing) (i : ℕ) → slice_get heap at ≢ None → slice_get (slice_set heap at new) i
    ≡ cond (nat_eq i at) (Some new) (slice_get heap i)
set_get [] at new i there = absurd (there refl)
set_get (t ∷ ts) zero new zero there = refl
set_get (t ∷ ts) zero new (suc i) there =
    let e : nat_eq (suc i) 0 ≡ false = grind (arith, nat_tests) in ap (λ b. cond b (Some new) (slice_get ts i)) (sym e)
set_get (t ∷ ts) (suc at) new zero there =
    let e : nat_eq 0 (suc at) ≡ false = grind (arith, nat_tests) in ap (λ b. cond b (Some new) (Some t)) (sym e)
set_get (t ∷ ts) (suc at) new (suc i) there =
    let e : nat_eq i at ≡ nat_eq (suc i) (suc at) = grind (arith, nat_tests) in
    set_get ts at new i there ∙ ap (λ b. cond b (Some new) (slice_get ts i)) e

-- what a number names, once the thing at one place is another
set_thing : (heap : Things) (at : ℕ) (new : Thing) (n : ℕ) → slice_get heap at ≢ None → thing_at (slice_set heap at new) n
    ≡ cond (nat_eq n (suc at)) (Some new) (thing_at heap n)
set_thing heap at new zero there =
    let e : nat_eq 0 (suc at) ≡ false = grind (arith, nat_tests) in ap (λ b. cond b (Some new) None) (sym e)
set_thing heap at new (suc n) there =
    let e : nat_eq n at ≡ nat_eq (suc n) (suc at) = grind (arith, nat_tests) in
    set_get heap at new n there ∙ ap (λ b. cond b (Some new) (slice_get heap n)) e

minus_one : (n : ℕ) → suc n - 1 ≡ n
minus_one n = omega arith

pub write_thing : (heap : Things) (number : ℕ) (new : Thing) (n : ℕ) → thing_at heap number ≢ None
    → thing_at (slice_set heap (number - 1) new) n ≡ cond (nat_eq n number) (Some new) (thing_at heap n)
write_thing heap zero new n there = absurd (there refl)
write_thing heap (suc at) new n there = rw minus_one (set_thing heap at new n there)

stood_at : (heap : Things) (at : ℕ) (old : Thing) → slice_get heap at ≢ None → old ≡ get_or heap at old → slice_get heap at
    ≡ Some old
stood_at [] at old there e = absurd (there refl)
stood_at (t ∷ ts) zero old there e = ap Some (sym e)
stood_at (t ∷ ts) (suc at) old there e = stood_at ts at old there e

-- the thing that stood there
stood : (heap : Things) (number : ℕ) (old : Thing) → thing_at heap number ≢ None → old ≡ get_or heap (number - 1) old
    → thing_at heap number ≡ Some old
stood heap zero old there e = absurd (there refl)
stood heap (suc at) old there e = stood_at heap at old there (rw minus_one at e)

seen_by : {A : Type 0} (f : Option Thing → A) (x y : Option Thing) (new old : Thing) (b : Bool) → (b ≡ true → y ≡ Some old) → x
    ≡ cond b (Some new) y → f (Some new) ≡ f (Some old) → f x ≡ f y
seen_by f x y new old true h e k = ap f e ∙ (k ∙ ap f (sym (h refl)))
seen_by f x y new old false h e k = ap f e

changed_by : {A : Type 0} (f : Option Thing → A) (x y : Option Thing) (new old : Thing) (b s : Bool) (v : A)
    → (b ≡ true → y ≡ Some old) → x ≡ cond b (Some new) y
    → f (Some new) ≡ cond s v (f (Some old)) → f x ≡ cond (b && s) v (f y)
changed_by f x y new old true s v h e k = ap f e ∙ (k ∙ ap (λ o. cond s v (f o)) (sym (h refl)))
changed_by f x y new old false s v h e k = ap f e

pub not_none : (o : Option Value) → IsSome o → o ≢ None
not_none None h e = absurd cc
not_none (Some v) h e = absurd (grind arith)

-- one thing stands in place of another
module _ (heap : Things) (number : ℕ) (old new : Thing) (there : thing_at heap number ≢ None)
    (e : old ≡ get_or heap (number - 1) old) where
  same_place : (n : ℕ) → nat_eq n number ≡ true → thing_at heap n ≡ Some old
  same_place n same = ap (thing_at heap) (eqb-true n number same) ∙ stood heap number old there e

  pub seen : {A : Type 0} (f : Option Thing → A) (n : ℕ) → f (Some new) ≡ f (Some old)
      → f (thing_at (slice_set heap (number - 1) new) n) ≡ f (thing_at heap n)
  seen f n k =
      seen_by f (thing_at (slice_set heap (number - 1) new) n) (thing_at heap n) new old (nat_eq n number) (same_place n)
      (write_thing heap number new n there) k

  pub changed : {A : Type 0} (f : Option Thing → A) (n : ℕ) (s : Bool) (v : A) → f (Some new) ≡ cond s v (f (Some old))
      → f (thing_at (slice_set heap (number - 1) new) n) ≡ cond (nat_eq n number && s) v (f (thing_at heap n))
  changed f n s v k =
      changed_by f (thing_at (slice_set heap (number - 1) new) n) (thing_at heap n) new old (nat_eq n number) s v (same_place n)
      (write_thing heap number new n there) k

  pub element_reads : (index : ℤ) (value : Value) → IsThingWithElement index value old new → (other : Location)
      → value_at (slice_set heap (number - 1) new) other
      ≡ cond (same_location other (Cell number index)) (Some value) (value_at heap other)
  element_reads index value k (Field n name) = seen (λ t. field_in t name) n (k.fields name)
  element_reads index value k (Cell n i) = changed (λ t. element_in t i) n (same_number i index) (Some value) (k.elements i)

  pub field_reads : (name : Name) (value : Value) → IsThingWithField name value old new → (other : Location)
      → value_at (slice_set heap (number - 1) new) other
      ≡ cond (same_location other (Field number name)) (Some value) (value_at heap other)
  field_reads name value k (Field n f) = changed (λ t. field_in t f) n (same_name f name) (Some value) (k.fields f)
  field_reads name value k (Cell n i) = seen (λ t. element_in t i) n (k.elements i)

pub has_element : (heap : Things) (number : ℕ) (index : ℤ) → IsSome (value_at heap (Cell number index)) → thing_at heap number
    ≢ None
has_element heap number index h e = not_none (element_in (thing_at heap number) index) h (ap (λ t. element_in t index) e)

pub has_field : (heap : Things) (number : ℕ) (name : Name) → IsSome (value_at heap (Field number name)) → thing_at heap number
    ≢ None
has_field heap number name h e = not_none (field_in (thing_at heap number) name) h (ap (λ t. field_in t name) e)

none_past : (b : Bool) (n : ℕ) → b ≡ true → cond b (Some n) None ≡ None → ⊥
none_past true n e h = none-some n (sym h)
none_past false n e h = cc

earlier : (b d : Bool) (m n : ℕ) → b ≡ d → cond b (Some m) None ≡ None → cond d (Some n) None ≡ None
earlier b true m n e h = absurd (none_past b m e h)
earlier b false m n e h = refl

absent_step : (t : Bool) (n l : ℕ) (v : Value) (o : Option Value)
    → cond (nat_lt (cond (not t) (1 + n) 0) (suc l)) (Some (cond (not t) (1 + n) 0)) None ≡ None
    → ((cond (nat_lt n l) (Some n) None ≡ None) → o ≡ None) → cond t (Some v) o ≡ None
absent_step true n l v o h k =
    let low : nat_lt 0 (suc l) ≡ true = grind (arith, nat_tests) in absurd (none_past (nat_lt 0 (suc l)) 0 low h)
absent_step false n l v o h k =
    let same : nat_lt (1 + n) (suc l) ≡ nat_lt n l = grind (arith, nat_tests) in
    k (earlier (nat_lt (1 + n) (suc l)) (nat_lt n l) (1 + n) n same h)

-- where no field has the name
pub absent : (fields : Fields) (name : Name) → position (λ f. same_name name f.0) fields ≡ None → field_value fields name ≡ None
absent [] name h = refl
absent (f ∷ fs) name h =
    absent_step (same_name name f.0) (position_or_len (λ g. same_name name g.0) fs) (length fs) f.1 (field_value fs name) h
    (λ e. absent fs name e)
