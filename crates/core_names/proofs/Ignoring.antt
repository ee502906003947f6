-- What speaks of the present state has the same value whatever the old one is.
use Rattle.std.proofs.Common.{◌≡◌, ℤ, Bool, true, false, List, [], ◌∷◌, refl, ◌∙◌, ap}
use Rattle.std.proofs.Math.Path.{fun_ext}
use Rattle.std.specs.Prelude.{if◌then◌else◌}
use Rattle.pv_base.specs.declared.Name.{Name}
use Rattle.pv_values.specs.declared.value.Value.{Value}
use Rattle.pv_values.specs.declared.value.Value.TheVariants as value
use Rattle.pv_picks.specs.Plain.Core.{Expression, Constant, This, Result, Variable, Field, Element, Length, Not, Compute, Compare, Equal, And, Or, Implies, Old, Cut, Formula, Fact, FieldPermission, ElementPermission, Holds, Instance, Star, When, Each, Items, NoItems, Join, Item, Elements, Repeated, Committed, Guarded, Fixed}
use Rattle.pv_picks.specs.Formulas.Values.{truth_in, number_in, equality, width}
use Rattle.pv_picks.specs.Formulas.Heaps.{Heap}
use Rattle.pv_picks.specs.Formulas.Evaluation.{Scene, Reader, evaluate, evaluate_all}
use Rattle.pv_picks.specs.Formulas.Meeting.{Sight, heap_reader, value_or, values_or, at, first_of, at_each, passes, guard_term, behind, unmet, unmet_items, unmet_item, unmet_shared}
use Rattle.core_names.specs.Present.{IsPresent, ArePresent, AreCutsPresent, IsPresentFormula, ArePresentItems, IsPresentItem, MeetsAlike}

-- Expressions, with any readers

module _ {R : Type 0} (now old other : Reader R) (scene : Scene) where
  -- first one expression, then what hangs on its value
  then_same : (e : Expression) (f g : Value → R) → ((next : Value → R)
      → evaluate now old scene e next ≡ evaluate now other scene e next) → ((v : Value) → f v ≡ g v)
      → evaluate now old scene e f ≡ evaluate now other scene e g
  then_same e f g h k = ap (evaluate now old scene e) (fun_ext k) ∙ h g

  pub evaluate_same : (e : Expression) → IsPresent e → (next : Value → R)
      → evaluate now old scene e next ≡ evaluate now other scene e next
  evaluate_same (Constant v) h next = refl
  evaluate_same This h next = refl
  evaluate_same Result h next = refl
  evaluate_same (Variable name) h next = refl
  evaluate_same (Field object class field span) h next = evaluate_same object h _
  evaluate_same (Element type array index span) h next = then_same array _ _ (evaluate_same array h.0)
      (λ a. evaluate_same index h.1 _)
  evaluate_same (Length type array span) h next = evaluate_same array h _
  evaluate_same (Not e) h next = evaluate_same e h _
  evaluate_same (Compute manner operation a b span) h next = then_same a _ _ (evaluate_same a h.0) (λ x. evaluate_same b h.1 _)
  evaluate_same (Compare order a b) h next = then_same a _ _ (evaluate_same a h.0) (λ x. evaluate_same b h.1 _)
  evaluate_same (Equal same a b) h next = then_same a _ _ (evaluate_same a h.0) (λ x. evaluate_same b h.1 _)
  evaluate_same (And a b) h next =
      then_same a _ _ (evaluate_same a h.0) (λ x. ap
      (λ r. now.deciding (truth_in x) (if truth_in x then r else next (value.Truth false))) (evaluate_same b h.1 next))
  evaluate_same (Or a b) h next =
      then_same a _ _ (evaluate_same a h.0) (λ x. ap
      (λ r. now.deciding (truth_in x) (if truth_in x then next (value.Truth true) else r)) (evaluate_same b h.1 next))
  evaluate_same (Implies a b) h next =
      then_same a _ _ (evaluate_same a h.0) (λ x. ap
      (λ r. now.deciding (truth_in x) (if truth_in x then r else next (value.Truth true))) (evaluate_same b h.1 next))
  evaluate_same (Old e) h next = absurd h

  pub evaluate_all_same : (es : List Expression) → ArePresent es → (next : List Value → R)
      → evaluate_all now old scene es next ≡ evaluate_all now other scene es next
  evaluate_all_same [] h next = refl
  evaluate_all_same (e ∷ es) h next = then_same e _ _ (evaluate_same e h.0) (λ v. evaluate_all_same es h.1 _)

if_same : {R : Type 0} (b : Bool) (x y z : R) → x ≡ y → (if b then x else z) ≡ (if b then y else z)
if_same b x y z h = ap (λ r. if b then r else z) h

-- Formulas in a heap, with two old heaps

module _ (heap old other : Heap) where
  abbrev one : Sight
  one = record { now = heap; old = old }

  abbrev two : Sight
  two = record { now = heap; old = other }

  value_same : {R : Type 0} (stop : R) (scene : Scene) (e : Expression) → IsPresent e → (f g : Value → R)
      → ((v : Value) → f v ≡ g v)
      → value_or stop one scene e f ≡ value_or stop two scene e g
  value_same stop scene e h f g k =
      then_same (heap_reader stop heap) (heap_reader stop old) (heap_reader stop other) scene e f g
      (evaluate_same (heap_reader stop heap) (heap_reader stop old) (heap_reader stop other) scene e h) k

  values_same : {R : Type 0} (stop : R) (scene : Scene) (es : List Expression) → ArePresent es → (next : List Value → R)
      → values_or stop one scene es next ≡ values_or stop two scene es next
  values_same stop scene es h next = evaluate_all_same (heap_reader stop heap) (heap_reader stop old)
      (heap_reader stop other) scene es h next

  behind_same : {R : Type 0} (stop outside : R) (scene : Scene) (cuts : List Cut) (position : ℤ) → AreCutsPresent cuts
      → (r s : R) → r ≡ s
      → behind stop outside one scene cuts position r ≡ behind stop outside two scene cuts position s
  behind_same stop outside scene [] position h r s k = k
  behind_same stop outside scene (cut ∷ cuts) position h r s k =
      value_same stop scene (guard_term cut) h.0 _ _ (λ v. ap (λ x. if passes cut position v then x else outside)
      (behind_same stop outside scene cuts position h.1 r s k))

  mutual
    unmet_same : (scene : Scene) (f : Formula) → IsPresentFormula f → unmet one scene f ≡ unmet two scene f
    unmet_same scene (Fact e span) h = value_same _ scene e h _ _ (λ v. refl)
    unmet_same scene (FieldPermission e class name type amount span) h = value_same _ scene e h _ _ (λ v. refl)
    unmet_same scene (ElementPermission type array index amount span) h =
        value_same _ scene array h.0 _ _ (λ a. value_same _ scene index h.1 _ _ (λ i. refl))
    unmet_same scene (Holds token class e span) h = value_same _ scene e h _ _ (λ v. refl)
    unmet_same scene (Instance class predicate e arguments span) h = value_same _ scene e h.0 _ _
        (λ o. values_same _ scene arguments h.1 _)
    unmet_same scene (Star a b) h = ap (λ u. first_of u (unmet one scene b)) (unmet_same scene a h.0) ∙ ap
        (first_of (unmet two scene a)) (unmet_same scene b h.1)
    unmet_same scene (When e body span) h = value_same _ scene e h.0 _ _
        (λ v. if_same (truth_in v) _ _ _ (unmet_same scene body h.1))
    unmet_same scene (Each name low high items span) h =
        value_same _ scene low h.0 _ _ (λ l. value_same _ scene high h.1 _ _ (λ k.
        ap (λ test. at_each test (number_in l) (width (number_in l) (number_in k)))
        (fun_ext (λ i. unmet_items_same (at scene name i) i items h.2))))

    unmet_items_same : (scene : Scene) (position : ℤ) (items : Items) → ArePresentItems items
        → unmet_items one scene position items ≡ unmet_items two scene position items
    unmet_items_same scene position NoItems h = refl
    unmet_items_same scene position (Join item items) h =
        ap (λ u. first_of u (unmet_items one scene position items)) (unmet_item_same scene position item h.0)
        ∙ ap (first_of (unmet_item two scene position item)) (unmet_items_same scene position items h.1)

    unmet_item_same : (scene : Scene) (position : ℤ) (item : Item) → IsPresentItem item
        → unmet_item one scene position item ≡ unmet_item two scene position item
    unmet_item_same scene position (Elements type array shift amount span) h = value_same _ scene array h _ _ (λ a. refl)
    unmet_item_same scene position (Repeated e span) h = value_same _ scene e h _ _ (λ v. refl)
    unmet_item_same scene position (Committed class e span) h = value_same _ scene e h _ _ (λ o. refl)
    unmet_item_same scene position (Guarded cuts item span) h =
        behind_same _ _ scene cuts position h.0 _ _ (unmet_item_same scene position item h.1)
    unmet_item_same scene position (Fixed e body span) h =
        value_same _ scene e h.0 _ _ (λ v. if_same (equality true (value.Number position) v) _ _ _ (unmet_same scene body h.1))

  shared_same : (scene : Scene) (name : Name) (low high : ℤ) (items : Items) → ArePresentItems items
      → unmet_shared one scene name low high items ≡ unmet_shared two scene name low high items
  shared_same scene name low high NoItems h = refl
  shared_same scene name low high (Join item items) h =
      ap (λ test. first_of (at_each test low (width low high)) (unmet_shared one scene name low high items))
      (fun_ext (λ i. unmet_item_same (at scene name i) i item h.0))
      ∙ ap (first_of (at_each (λ i. unmet_item two (at scene name i) i item) low (width low high)))
      (shared_same scene name low high items h.1)

pub present_alone : (one two : Sight) (scene : Scene) → one.now ≡ two.now → MeetsAlike one two scene
present_alone one two scene same = record {
  formulas = λ f h. unmet_same one.now one.old two.old scene f h ∙ ap
      (λ heap. unmet (record { now = heap; old = two.old }) scene f) same;
  shared = λ name low high items h.
      shared_same one.now one.old two.old scene name low high items h
      ∙ ap (λ heap. unmet_shared (record { now = heap; old = two.old }) scene name low high items) same;
}
