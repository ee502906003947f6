-- An expression that has a value in a heap is gone on with at that value.
use Rattle.std.proofs.Common.{◌≡◌, Option, Some, None, List, refl, ap, sym, ◌∙◌}
use Rattle.std.proofs.lemmas.Option.{none-some}
use Rattle.pv_values.specs.declared.value.Value.{Value}
use Rattle.pv_values.specs.declared.value.Location.TheVariants as location
use Rattle.pv_picks.specs.Plain.Core.{Expression}
use Rattle.pv_picks.specs.Formulas.Heaps.{Heap}
use Rattle.pv_picks.specs.Formulas.Evaluation.{Scene}
use Rattle.pv_picks.specs.Formulas.Meeting.{Sight, or_stop, heap_reader, value_or, values_or}
use Rattle.pv_picks.proofs.Readers.{ReadersRelated, evaluate_related, evaluate_all_related}
use Rattle.account_formulas.specs.Sights.{value_at, values_at}

module _ {A R : Type 0} (stop : R) (k : A → R) where
  abbrev pub Goes : Option A → R → Type 0
  Goes x y = y ≡ or_stop x stop k

  pub option_goes : {B : Type 0} (x : Option B) (f : B → Option A) (g : B → R) → ((b : B) → Goes (f b) (g b))
      → Goes (or_stop x None f) (or_stop x stop g)
  option_goes None f g h = refl
  option_goes (Some b) f g h = h b

  heap_goes : (heap : Heap) → ReadersRelated Goes (heap_reader None heap) (heap_reader stop heap)
  heap_goes heap = record {
    field = λ c o n s f g h. option_goes (heap.value (location.Field o n)) f g h;
    element = λ t a i s f g h. option_goes (heap.value (location.Cell a i)) f g h;
    length = λ t a s f g h. option_goes (heap.length a) f g h;
    operation = λ m o a b s f g h. h _;
    comparing = λ a b x y h. h;
    matching = λ v w x y h. h;
    deciding = λ b x y h. h;
  }

-- what has a value is gone on with
pub value_then : {R : Type 0} (stop : R) (sight : Sight) (scene : Scene) (e : Expression) (v : Value) (k : Value → R)
    → value_at sight scene e ≡ Some v → value_or stop sight scene e k ≡ k v
value_then stop sight scene e v k h =
    evaluate_related (Goes stop k) _ _ _ _ (heap_goes stop k sight.now) (heap_goes stop k sight.old) scene e Some k (λ v. refl)
    ∙ ap (λ x. or_stop x stop k) h

pub values_then : {R : Type 0} (stop : R) (sight : Sight) (scene : Scene) (es : List Expression) (vs : List Value)
    (k : List Value → R)
    → values_at sight scene es ≡ Some vs → values_or stop sight scene es k ≡ k vs
values_then stop sight scene es vs k h =
    evaluate_all_related (Goes stop k) _ _ _ _ (heap_goes stop k sight.now) (heap_goes stop k sight.old) scene es Some k
    (λ v. refl)
    ∙ ap (λ x. or_stop x stop k) h

-- an expression is gone on with at its value, or stops
pub value_through : {R : Type 0} (stop : R) (sight : Sight) (scene : Scene) (e : Expression) (k : Value → R)
    → value_or stop sight scene e k ≡ or_stop (value_at sight scene e) stop k
value_through stop sight scene e k =
    evaluate_related (Goes stop k) _ _ _ _ (heap_goes stop k sight.now) (heap_goes stop k sight.old) scene e Some k (λ v. refl)

pub found : {A B : Type 0} (o : Option A) (k : A → Option B) (x : B) → or_stop o None k ≡ Some x → (a : A) × (o ≡ Some a)
    × (k a ≡ Some x)
found None k x is = absurd (none-some x is)
found (Some a) k x is = (a, refl, is)

-- what has a value at last has one first
pub reached : {B : Type 0} (sight : Sight) (scene : Scene) (e : Expression) (k : Value → Option B) (x : B)
    → value_or None sight scene e k ≡ Some x
    → (v : Value) × (value_at sight scene e ≡ Some v) × (k v ≡ Some x)
reached sight scene e k x is = found (value_at sight scene e) k x (sym (value_through None sight scene e k) ∙ is)
