-- The tests of heaps, against what they test.
use Rattle.std.proofs.Common.{◌≡◌, ◌≢◌, ℕ, zero, suc, ℤ, pos, negsuc, Bool, true, false, ◌&&◌, cond, List, [], ◌∷◌, length, slice_get, Option, Some, None, refl, sym, ◌∙◌, ap, arith}
use Rattle.std.proofs.lemmas.Grind.{common_steps}
use Rattle.std.proofs.lemmas.Bool.{eqb-true, eq-eqb}
use Rattle.std.proofs.lemmas.Bool.Decides.{nat_tests}
use Rattle.std.proofs.lemmas.Option.{same_Some, none-some}
use Rattle.pv_base.specs.declared.Name.{Name}
use Rattle.pv_values.specs.declared.value.Value.{Value}
use Rattle.pv_values.specs.declared.value.Value.TheVariants.{Number, Truth, Reference}
use Rattle.pv_values.specs.declared.value.Location.{Location}
use Rattle.pv_values.specs.declared.value.Location.TheVariants.{Field, Cell}
use Rattle.pv_values.specs.declared.thing.Thing.{Thing}
use Rattle.pv_values.specs.declared.thing.Thing.TheVariants.{Object, Array}
use Rattle.pv_values.specs.Heaps.{Fields, field_value, element, same_number, Things, thing_at, value_at, field_in, element_in, class_in, length_in, AreSame}
use Rattle.pv_base.specs.Names.{same_name}
use Rattle.pv_values.specs.Sames.{same_truth, same_value, same_found, same_elements, agree_on, same_fields, same_thing, same_things}

first_of_both : (a b : Bool) → (a && b) ≡ true → a ≡ true
first_of_both true b h = refl
first_of_both false b h = h

second_of_both : (a b : Bool) → (a && b) ≡ true → b ≡ true
second_of_both true b h = h
second_of_both false b h = cc

both : (a b : Bool) → a ≡ true → b ≡ true → (a && b) ≡ true
both true b p q = q
both false b p q = p

rest_differ : (a b : Bool) → b ≡ false → (a && b) ≡ false
rest_differ true b h = h
rest_differ false b h = refl

pos_same : (a b : ℕ) → pos a ≡ pos b → a ≡ b
pos_same a b e = cc

number_same : (a b : ℤ) → same_number a b ≡ true → a ≡ b
number_same (pos a) (pos b) h = ap pos (grind (arith, nat_tests, h))
number_same (pos a) (negsuc b) h = absurd cc
number_same (negsuc a) (pos b) h = absurd cc
number_same (negsuc a) (negsuc b) h = ap negsuc (grind (arith, nat_tests, h))

number_itself : (a : ℤ) → same_number a a ≡ true
number_itself (pos a) = grind (arith, nat_tests)
number_itself (negsuc a) = grind (arith, nat_tests)

truth_same : (a b : Bool) → same_truth a b ≡ true → a ≡ b
truth_same true b h = sym h
truth_same false true h = h
truth_same false false h = refl

truth_itself : (a : Bool) → same_truth a a ≡ true
truth_itself true = refl
truth_itself false = refl

value_same : (a b : Value) → same_value a b ≡ true → a ≡ b
value_same (Number a) (Number b) h = ap Number (number_same a b h)
value_same (Number a) (Truth b) h = absurd cc
value_same (Number a) (Reference b) h = absurd cc
value_same (Truth a) (Number b) h = absurd cc
value_same (Truth a) (Truth b) h = ap Truth (truth_same a b h)
value_same (Truth a) (Reference b) h = absurd cc
value_same (Reference a) (Number b) h = absurd cc
value_same (Reference a) (Truth b) h = absurd cc
value_same (Reference a) (Reference b) h = ap Reference (eqb-true a b h)

value_itself : (a : Value) → same_value a a ≡ true
value_itself (Number a) = number_itself a
value_itself (Truth a) = truth_itself a
value_itself (Reference a) = eq-eqb a a refl

found_same : (a b : Option Value) → same_found a b ≡ true → a ≡ b
found_same None None h = refl
found_same None (Some b) h = absurd cc
found_same (Some a) None h = absurd cc
found_same (Some a) (Some b) h = ap Some (value_same a b h)

found_itself : (a : Option Value) → same_found a a ≡ true
found_itself None = refl
found_itself (Some a) = value_itself a

found_from : (a b : Option Value) → a ≡ b → same_found a b ≡ true
found_from a b e = rw e (found_itself b)

elements_same : (a b : List Value) → same_elements a b ≡ true → a ≡ b
elements_same [] [] h = refl
elements_same [] (y ∷ ys) h = absurd cc
elements_same (x ∷ xs) [] h = absurd cc
elements_same (x ∷ xs) (y ∷ ys) h =
    let here : x ≡ y = value_same x y (first_of_both (same_value x y) (same_elements xs ys) h) in
    let there : xs ≡ ys = elements_same xs ys (second_of_both (same_value x y) (same_elements xs ys) h) in
    cc

pub elements_differ : (a b : List Value) → length a ≢ length b → same_elements a b ≡ false
elements_differ [] [] d = absurd (d refl)
elements_differ [] (y ∷ ys) d = refl
elements_differ (x ∷ xs) [] d = refl
elements_differ (x ∷ xs) (y ∷ ys) d =
    rest_differ (same_value x y) (same_elements xs ys) (elements_differ xs ys (λ e. d (grind (arith, common_steps, e))))

elements_from : (a b : List Value) → length a ≡ length b → ((i : ℕ) → slice_get a i ≡ slice_get b i) → same_elements a b ≡ true
elements_from [] [] l h = refl
elements_from [] (y ∷ ys) l h = absurd (none-some y (h 0))
elements_from (x ∷ xs) [] l h = absurd (none-some x (sym (h 0)))
elements_from (x ∷ xs) (y ∷ ys) l h =
    both (same_value x y) (same_elements xs ys) (rw (same_Some x y (h 0)) (value_itself y))
    (elements_from xs ys (grind (arith, common_steps, l)) (λ i. h (suc i)))

agree_from : (names a b : Fields) → ((name : Name) → field_value a name ≡ field_value b name) → agree_on names a b ≡ true
agree_from [] a b h = refl
agree_from (f ∷ fs) a b h =
    both (same_found (field_value a f.0) (field_value b f.0)) (agree_on fs a b)
    (found_from (field_value a f.0) (field_value b f.0) (h f.0)) (agree_from fs a b h)

pub name_same : (a b : Name) → same_name a b ≡ true → a ≡ b
name_same a b h = let e : a.0 ≡ b.0 = eqb-true a.0 b.0 h in ap (λ n. record { 0 = n }) e

-- two lists of fields agree on each name that one list has
agree_step : (t : Bool) (v w : Value) (rest : Option Value) (P : Type 0) → cond t (Some v) rest ≡ Some w → (t ≡ true → P)
    → (rest ≡ Some w → P) → P
agree_step true v w rest P h p q = p refl
agree_step false v w rest P h p q = q h

agree_at : (names a b : Fields) (name : Name) (value : Value) → agree_on names a b ≡ true → field_value names name ≡ Some value
    → field_value a name ≡ field_value b name
agree_at [] a b name value h e = absurd (none-some value e)
agree_at (f ∷ fs) a b name value h e =
    let here = first_of_both (same_found (field_value a f.0) (field_value b f.0)) (agree_on fs a b) h in
    let there = second_of_both (same_found (field_value a f.0) (field_value b f.0)) (agree_on fs a b) h in
    agree_step (same_name name f.0) f.1 value (field_value fs name) (field_value a name ≡ field_value b name) e
    (λ t. rw (name_same name f.0 t) (found_same (field_value a f.0) (field_value b f.0) here))
    (λ k. agree_at fs a b name value there k)

either_has : (a b x y : Option Value) → a ≡ x → b ≡ y → ((v : Value) → a ≡ Some v → a ≡ b) → ((v : Value) → b ≡ Some v → a ≡ b)
    → a ≡ b
either_has a b None None p q f g = p ∙ sym q
either_has a b (Some x) y p q f g = f x p
either_has a b None (Some y) p q f g = g y q

fields_same : (a b : Fields) (name : Name) → same_fields a b ≡ true → field_value a name ≡ field_value b name
fields_same a b name h =
    either_has (field_value a name) (field_value b name) (field_value a name) (field_value b name) refl refl
    (λ v e. agree_at a a b name v (first_of_both (agree_on a a b) (agree_on b a b) h) e)
    (λ v e. agree_at b a b name v (second_of_both (agree_on a a b) (agree_on b a b) h) e)

-- what two numbers name is the same
record AreAlike (a b : Option Thing) : Type 0 where
  classes : class_in a ≡ class_in b
  lengths : length_in a ≡ length_in b
  fields : (name : Name) → field_in a name ≡ field_in b name
  elements : (index : ℤ) → element_in a index ≡ element_in b index

thing_same : (a b : Thing) → same_thing a b ≡ true → AreAlike (Some a) (Some b)
thing_same (Object c x) (Object d y) h = record {
  classes = ap Some (name_same c d (first_of_both (same_name c d) (same_fields x y) h));
  lengths = refl;
  fields = λ name. fields_same x y name (second_of_both (same_name c d) (same_fields x y) h);
  elements = λ index. refl;
}
thing_same (Object c x) (Array y) h = absurd cc
thing_same (Array x) (Object d y) h = absurd cc
thing_same (Array x) (Array y) h = record {
  classes = refl;
  lengths = ap (λ es. Some (pos (length es))) (elements_same x y h);
  fields = λ name. refl;
  elements = λ index. ap (λ es. element es index) (elements_same x y h);
}

thing_from : (a b : Thing) → AreAlike (Some a) (Some b) → same_thing a b ≡ true
thing_from (Object c x) (Object d y) h =
    both (same_name c d) (same_fields x y) (eq-eqb c.0 d.0 (ap (λ n. n.0) (same_Some c d h.classes)))
    (both (agree_on x x y) (agree_on y x y) (agree_from x x y h.fields) (agree_from y x y h.fields))
thing_from (Object c x) (Array y) h = absurd (none-some c (sym h.classes))
thing_from (Array x) (Object d y) h = absurd (none-some d h.classes)
thing_from (Array x) (Array y) h =
    elements_from x y (pos_same (length x) (length y) (same_Some (pos (length x)) (pos (length y)) h.lengths))
    (λ i. h.elements (pos i))

nothing_alike : AreAlike None None
nothing_alike = record { classes = refl; lengths = refl; fields = λ name. refl; elements = λ index. refl }

things_alike : (a b : Things) (i : ℕ) → same_things a b ≡ true → AreAlike (slice_get a i) (slice_get b i)
things_alike [] [] i h = nothing_alike
things_alike [] (y ∷ ys) i h = absurd cc
things_alike (x ∷ xs) [] i h = absurd cc
things_alike (x ∷ xs) (y ∷ ys) zero h = thing_same x y (first_of_both (same_thing x y) (same_things xs ys) h)
things_alike (x ∷ xs) (y ∷ ys) (suc i) h = things_alike xs ys i (second_of_both (same_thing x y) (same_things xs ys) h)

things_count : (a b : Things) → same_things a b ≡ true → length a ≡ length b
things_count [] [] h = refl
things_count [] (y ∷ ys) h = absurd cc
things_count (x ∷ xs) [] h = absurd cc
things_count (x ∷ xs) (y ∷ ys) h = ap suc (things_count xs ys (second_of_both (same_thing x y) (same_things xs ys) h))

pub things_differ : (a b : Things) → length a ≢ length b → same_things a b ≡ false
things_differ [] [] d = absurd (d refl)
things_differ [] (y ∷ ys) d = refl
things_differ (x ∷ xs) [] d = refl
things_differ (x ∷ xs) (y ∷ ys) d = rest_differ (same_thing x y) (same_things xs ys) (things_differ xs ys (λ e. d (ap suc e)))

things_from : (a b : Things) → length a ≡ length b → ((i : ℕ) → AreAlike (slice_get a i) (slice_get b i)) → same_things a b ≡ true
things_from [] [] l h = refl
things_from [] (y ∷ ys) l h = absurd (omega arith)
things_from (x ∷ xs) [] l h = absurd (omega arith)
things_from (x ∷ xs) (y ∷ ys) l h =
    both (same_thing x y) (same_things xs ys) (thing_from x y (h 0))
    (things_from xs ys (grind (arith, common_steps, l)) (λ i. h (suc i)))

number_alike : (a b : Things) (n : ℕ) → same_things a b ≡ true → AreAlike (thing_at a n) (thing_at b n)
number_alike a b zero h = nothing_alike
number_alike a b (suc n) h = things_alike a b n h

values_alike : (a b : Things) (location : Location) → same_things a b ≡ true → value_at a location ≡ value_at b location
values_alike a b (Field n name) h = (number_alike a b n h).fields name
values_alike a b (Cell n index) h = (number_alike a b n h).elements index

pub same_holds : (a b : Things) → same_things a b ≡ true → AreSame a b
same_holds a b h = record {
  counts = things_count a b h;
  classes = λ n. (number_alike a b n h).classes;
  lengths = λ n. (number_alike a b n h).lengths;
  values = λ location. values_alike a b location h;
}

pub same_from : (a b : Things) → AreSame a b → same_things a b ≡ true
same_from a b h =
    things_from a b h.counts
    (λ i. record {
      classes = h.classes (suc i);
      lengths = h.lengths (suc i);
      fields = λ name. h.values (Field (suc i) name);
      elements = λ index. h.values (Cell (suc i) index);
    })
