-- What is known of locations and lengths is read as each sight that agrees with it is.
use Rattle.std.proofs.Common.{◌≡◌, ℕ, ℤ, Bool, true, false, if◌then◌else◌, Option, Some, None, refl, ap, ◌∙◌}
use Rattle.std.specs.Prelude.{nat_eq}
use Rattle.std.proofs.lemmas.Option.{none-some}
use Rattle.pv_base.specs.declared.Name.{Name}
use Rattle.pv_ast.specs.declared.PvType.{PvType}
use Rattle.pv_values.specs.declared.value.Value.{Value}
use Rattle.pv_values.specs.declared.value.Location.TheVariants as location
use Rattle.pv_picks.specs.Plain.Core.{Expression}
use Rattle.pv_picks.specs.Formulas.Values.{arithmetic}
use Rattle.pv_picks.specs.Formulas.Heaps.{Heap}
use Rattle.pv_picks.specs.Formulas.Evaluation.{Scene, Reader, evaluate}
use Rattle.pv_picks.specs.Formulas.Meeting.{Sight, or_stop, heap_reader}
use Rattle.pv_picks.specs.Judge.States.{InField, InElement}
use Rattle.pv_picks.proofs.Readers.{ReadersRelated, evaluate_related}
use Rattle.account_formulas.specs.Sights.{Contents, ContentsAgree, Sees, value_at}
use Rattle.account_formulas.proofs.Valuing.{Goes, option_goes}

abbrev pub reader_on : {A : Type 0} → Contents → Heap → Reader (Option A)
reader_on here present = record {
  field = λ class object name span next. or_stop (here (InField class object name)) None next;
  element = λ type array index span next. or_stop (here (InElement type array index)) None next;
  length = λ type array span next. if nat_eq array 0 then None else or_stop (present.length array) None next;
  operation = λ manner operation a b span next. next (arithmetic operation a b);
  comparing = λ a b rest. rest;
  matching = λ a b rest. rest;
  deciding = λ b rest. rest;
}

abbrev pub value_on : Contents → Contents → Heap → Scene → Expression → Option Value
value_on here old present scene e = evaluate (reader_on here present) (reader_on old present) scene e Some

module _ {A B : Type 0} (k : A → Option B) where
  if_goes : (b : Bool) (x : Option A) (y : Option B) → Goes None k x y
      → Goes None k (if b then None else x) (if b then None else y)
  if_goes true x y h = refl
  if_goes false x y h = h

  on_goes : (cells : Contents) (present : Heap) → ReadersRelated (Goes None k) (reader_on cells present) (reader_on cells present)
  on_goes cells present = record {
    field = λ c o n s f g h. option_goes None k (cells (InField c o n)) f g h;
    element = λ t a i s f g h. option_goes None k (cells (InElement t a i)) f g h;
    length = λ t a s f g h. if_goes (nat_eq a 0) _ _ (option_goes None k (present.length a) f g h);
    operation = λ m o a b s f g h. h _;
    comparing = λ a b x y h. h;
    matching = λ v w x y h. h;
    deciding = λ b x y h. h;
  }

pub on_step : {B : Type 0} (present : Heap) (scene : Scene) (here old : Contents) (e : Expression) (k : Value → Option B)
    → evaluate (reader_on here present) (reader_on old present) scene e k ≡ or_stop (value_on here old present scene e) None k
on_step present scene here old e k =
    evaluate_related (Goes None k) _ _ _ _ (on_goes k here present) (on_goes k old present) scene e Some k (λ v. refl)

-- what stands in the cells stands in each sight that they agree with
module _ (present : Heap) (here old : Contents) (sight : Sight) (sees : Sees present here old sight) where
  abbrev Follows : Option Value → Option Value → Type 0
  Follows x y = (v : Value) → x ≡ Some v → y ≡ Some v

  cell_follows : (heap : Heap) (cells : Contents) → ContentsAgree heap cells
      → ((array : ℕ) (n : ℤ) → present.length array ≡ Some n → heap.length array ≡ Some n)
      → ReadersRelated Follows (reader_on cells present) (heap_reader None heap)
  cell_follows heap cells agree lengths = record {
    field = λ c o n s f g h. field_at c o n f g h (cells (InField c o n)) refl;
    element = λ t a i s f g h. element_at t a i f g h (cells (InElement t a i)) refl;
    length = λ t a s f g h. length_at a f g h (nat_eq a 0);
    operation = λ m o a b s f g h. h _;
    comparing = λ a b x y h. h;
    matching = λ v w x y h. h;
    deciding = λ b x y h. h;
  }
    where
      field_at : (c : Name) (o : ℕ) (n : Name) (f g : Value → Option Value) → ((v : Value) → Follows (f v) (g v))
          → (x : Option Value) → cells (InField c o n) ≡ x
          → Follows (or_stop x None f) (or_stop (heap.value (location.Field o n)) None g)
      field_at c o n f g h None at v is = absurd (none-some v is)
      field_at c o n f g h (Some x) at v is = ap (λ y. or_stop y None g) (agree (InField c o n) x at) ∙ h x v is

      element_at : (t : PvType) (a : ℕ) (i : ℤ) (f g : Value → Option Value) → ((v : Value) → Follows (f v) (g v))
          → (x : Option Value) → cells (InElement t a i) ≡ x
          → Follows (or_stop x None f) (or_stop (heap.value (location.Cell a i)) None g)
      element_at t a i f g h None at v is = absurd (none-some v is)
      element_at t a i f g h (Some x) at v is = ap (λ y. or_stop y None g) (agree (InElement t a i) x at) ∙ h x v is

      length_in : (a : ℕ) (f g : ℤ → Option Value) → ((z : ℤ) → Follows (f z) (g z)) → (x : Option ℤ) → present.length a ≡ x
          → Follows (or_stop x None f) (or_stop (heap.length a) None g)
      length_in a f g h None at v is = absurd (none-some v is)
      length_in a f g h (Some n) at v is = ap (λ y. or_stop y None g) (lengths a n at) ∙ h n v is

      length_at : (a : ℕ) (f g : ℤ → Option Value) → ((z : ℤ) → Follows (f z) (g z)) → (b : Bool)
          → Follows (if b then None else or_stop (present.length a) None f) (or_stop (heap.length a) None g)
      length_at a f g h true v is = absurd (none-some v is)
      length_at a f g h false v is = length_in a f g h (present.length a) refl v is

  pub on_reads : (scene : Scene) (e : Expression) (v : Value) → value_on here old present scene e ≡ Some v
      → value_at sight scene e ≡ Some v
  on_reads scene e v is =
      evaluate_related Follows _ _ _ _ (cell_follows sight.now here sees.now sees.now_lengths)
      (cell_follows sight.old old sees.before sees.old_lengths) scene e Some Some (λ v w is. is) v is

-- what has a value is gone on with, and what has none has none
pub on_then : (present : Heap) (scene : Scene) (here old : Contents) (e : Expression) (v : Value) (k : Value → Option Value)
    → value_on here old present scene e ≡ Some v → evaluate (reader_on here present) (reader_on old present) scene e k ≡ k v
on_then present scene here old e v k is =
    evaluate_related (Goes None k) _ _ _ _ (on_goes k here present) (on_goes k old present) scene e Some k (λ v. refl)
    ∙ ap (λ x. or_stop x None k) is

pub on_none : (present : Heap) (scene : Scene) (here old : Contents) (e : Expression) (k : Value → Option Value)
    → value_on here old present scene e ≡ None → evaluate (reader_on here present) (reader_on old present) scene e k ≡ None
on_none present scene here old e k is =
    evaluate_related (Goes None k) _ _ _ _ (on_goes k here present) (on_goes k old present) scene e Some k (λ v. refl)
    ∙ ap (λ x. or_stop x None k) is
