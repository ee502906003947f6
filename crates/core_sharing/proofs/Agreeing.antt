-- What is made alike in both forms is met alike, and asks for the same units.
use Rattle.std.proofs.Common.{◌≡◌, inl, inr, ℕ, ◌+◌, ℤ, ◌+ℤ◌, Bool, true, false, is_some, refl, sym, ◌∙◌, ap, subst, arith}
use Rattle.std.specs.Prelude.{if◌then◌else◌}
use Rattle.pv_base.specs.declared.Name.{Name}
use Rattle.pv_base.specs.declared.Span.{Span}
use Rattle.pv_ast.specs.declared.PvType.{PvType}
use Rattle.pv_values.specs.declared.value.Value.{Value}
use Rattle.pv_values.specs.declared.value.Value.TheVariants as value
use Rattle.pv_values.specs.declared.value.Location.{Location}
use Rattle.pv_values.specs.declared.value.Location.TheVariants as location
use Rattle.pv_picks.specs.Plain.Core.{Shared, Expression, Formula, Items, Item}
use Rattle.pv_picks.specs.Plain.Core as core
use Rattle.pv_picks.specs.Formulas.Values.{number_in, truth_in, reference_in, arithmetic}
use Rattle.pv_picks.specs.Formulas.Evaluation.{Scene}
use Rattle.pv_picks.specs.Formulas.Meeting.{Sight, Finding, AllMet, FirstUnmet, value_or, first_of, unless, behind, unmet, unmet_items, unmet_item, units_at, units_in, units_in_items, units_in_item}
use Rattle.pv_picks.specs.Elaborating.Operations.{cuts_of}
use Rattle.pv_picks.specs.Elaborating.Expressions.{together, alone}
use Rattle.core_sharing.specs.Sharing.{ItemAgrees, ItemsAgree, SharedAgrees}
use Rattle.core_sharing.specs.Forms.{IsShifted, SameItem, SameItem.same_fact, SameItem.same_element, SameItem.same_committed, SameItem.same_guarded, SameItem.same_implied, SameItem.same_fixed, SameItem.same_fixed_fact, SameItems, SameItems.same_nothing, SameItems.same_alone, SameItems.same_together, SameShared}
use Rattle.core_sharing.proofs.Evaluating.{evaluate_stops, value_same, guards_met, equality_met}
use Rattle.core_sharing.proofs.Shifting.{Forms, shifted_is, no_shift, sum_shifted}

-- Items one behind the other

none_after : (o : Finding) → o ≡ first_of o AllMet
none_after AllMet = refl
none_after (FirstUnmet span) = refl

nothing_more : (n : ℕ) → n ≡ n + 0
nothing_more n = omega arith

alone_agrees : (name : Name) (f : Formula) (i : Item) → ItemAgrees name f i → ItemsAgree name f (alone i)
alone_agrees name f i h = λ sight scene position here.
    let k = h sight scene position here in (
      k.0 ∙ none_after (unmet_item sight scene position i),
      λ spot. k.1 spot ∙ nothing_more (units_in_item sight scene spot position i),
    )

first_again : (a b c : Finding) → first_of (first_of a b) c ≡ first_of a (first_of b c)
first_again AllMet b c = refl
first_again (FirstUnmet span) b c = refl

sum_again : (a b c : ℕ) → a + b + c ≡ a + (b + c)
sum_again a b c = omega arith

together_unmet : (sight : Sight) (scene : Scene) (position : ℤ) (is js : Items)
    → first_of (unmet_items sight scene position is) (unmet_items sight scene position js)
    ≡ unmet_items sight scene position (together is js)
together_unmet sight scene position core.NoItems js = refl
together_unmet sight scene position (core.Join i is) js =
    first_again (unmet_item sight scene position i) (unmet_items sight scene position is) (unmet_items sight scene position js)
    ∙ ap (first_of (unmet_item sight scene position i)) (together_unmet sight scene position is js)

together_units : (sight : Sight) (scene : Scene) (spot : Location) (position : ℤ) (is js : Items)
    → units_in_items sight scene spot position is + units_in_items sight scene spot position js
    ≡ units_in_items sight scene spot position (together is js)
together_units sight scene spot position core.NoItems js = none_before (units_in_items sight scene spot position js)
  where
    none_before : (n : ℕ) → 0 + n ≡ n
    none_before n = omega arith
together_units sight scene spot position (core.Join i is) js =
    sum_again (units_in_item sight scene spot position i) (units_in_items sight scene spot position is)
    (units_in_items sight scene spot position js)
    ∙ ap (λ n. units_in_item sight scene spot position i + n) (together_units sight scene spot position is js)

together_agrees : (name : Name) (f g : Formula) (is js : Items) → ItemsAgree name f is → ItemsAgree name g js
    → ItemsAgree name (core.Star f g) (together is js)
together_agrees name f g is js h k = λ sight scene position here.
    let p = h sight scene position here in
    let q = k sight scene position here in (
      ap (λ o. first_of o (unmet sight scene g)) p.0 ∙ ap (first_of (unmet_items sight scene position is)) q.0
          ∙ together_unmet sight scene position is js,
      λ spot. ap (λ n. n + units_in sight scene spot g) (p.1 spot)
          ∙ ap (λ n. units_in_items sight scene spot position is + n) (q.1 spot) ∙ together_units sight scene spot position is js,
    )

-- Permissions

module _ {R : Type 0} (stop : R) (sight : Sight) (scene : Scene) (name : Name) (position s : ℤ)
    (here : scene.variables name.0 ≡ value.Number position) (next : Value → R) where
  form_read : (index : Expression) → Forms name s index
      → value_or stop sight scene index next ≡ next (value.Number (position +ℤ s))
  form_read index (inl is) =
      subst (λ (e : Expression). value_or stop sight scene e next ≡ next (value.Number (position +ℤ s))) (sym is.0)
      (ap next here ∙ ap (λ z. next (value.Number z)) (no_shift position ∙ ap (λ z. position +ℤ z) (sym is.1)))
  form_read index (inr sum) =
      subst (λ (e : Expression). value_or stop sight scene e next ≡ next (value.Number (position +ℤ s))) (sym sum.is)
      (ap (λ u. next (value.Number (arithmetic sum.operation (number_in u) sum.number))) here
      ∙ ap (λ z. next (value.Number z)) (sum_shifted sum.operation sum.number s position sum.shift))

  -- where the name stands for a position, an index is read as it with so much added
  pub shifted_read : (index : Expression) → IsShifted name s index
      → value_or stop sight scene index next ≡ next (value.Number (position +ℤ s))
  shifted_read index is = form_read index (shifted_is name s index is)

element_agrees : (name : Name) (type : PvType) (units : ℕ) (span : Span) (array index : Expression) (s : ℤ)
    → IsShifted name s index
    → ItemAgrees name (core.ElementPermission type array index units span) (core.Elements type array s units span)
element_agrees name type units span array index s is = λ sight scene position here. (
  value_same (FirstUnmet span) sight scene name position here array _ _ (λ a.
      shifted_read (FirstUnmet span) sight scene name position s here
      (λ i. unless (is_some (sight.now.value (location.Cell (reference_in a) (number_in i)))) span) index is),
  λ spot. value_same 0 sight scene name position here array _ _ (λ a.
      shifted_read 0 sight scene name position s here
      (λ i. units_at (location.Cell (reference_in a) (number_in i)) spot units) index is),
)

-- Conditions

-- two formulas that say the same
abbrev Same : Formula → Formula → Type 0
Same f g =
    (sight : Sight) (scene : Scene)
    → (unmet sight scene f ≡ unmet sight scene g)
    × ((spot : Location) → units_in sight scene spot f ≡ units_in sight scene spot g)

same_agrees : (name : Name) (f g : Formula) (i : Item) → Same f g → ItemAgrees name g i → ItemAgrees name f i
same_agrees name f g i same h = λ sight scene position here.
    let p = same sight scene in
    let q = h sight scene position here in
    (p.0 ∙ q.0, λ spot. p.1 spot ∙ q.1 spot)

none_either : (b : Bool) (n : ℕ) → (if b then n else n) ≡ n
none_either true n = refl
none_either false n = refl

-- a pure implication is a fact under a condition
implies_same : (x y : Expression) (span : Span) → Same (core.Fact (core.Implies x y) span) (core.When x (core.Fact y span) span)
implies_same x y span = λ sight scene.
    (refl, λ spot. sym (evaluate_stops 0 sight.now sight.old scene x _ (λ v. none_either (truth_in v) 0)))

guarded_agrees : (name : Name) (x : Expression) (f : Formula) (i : Item) (span : Span) → ItemAgrees name f i
    → ItemAgrees name (core.When x f span) (core.Guarded (cuts_of name x) i span)
guarded_agrees name x f i span h = λ sight scene position here.
    let k = h sight scene position here in (
      sym (guards_met (FirstUnmet span) sight scene name position here x AllMet (unmet sight scene f))
          ∙ ap (λ r. behind (FirstUnmet span) AllMet sight scene (cuts_of name x) position r) k.0,
      λ spot. sym (guards_met 0 sight scene name position here x 0 (units_in sight scene spot f))
          ∙ ap (λ r. behind 0 0 sight scene (cuts_of name x) position r) (k.1 spot),
    )

fixed_agrees : (name : Name) (y : Expression) (f : Formula) (span : Span)
    → ItemAgrees name (core.When (core.Equal true (core.Variable name) y) f span) (core.Fixed y f span)
fixed_agrees name y f span = λ sight scene position here. (
  equality_met (FirstUnmet span) sight scene name position here y AllMet (unmet sight scene f),
  λ spot. equality_met 0 sight scene name position here y 0 (units_in sight scene spot f),
)

-- Whatever is made alike

item_agrees : {name : Name} {f : Formula} {i : Item} → SameItem name f i → ItemAgrees name f i
item_agrees same_fact = λ sight scene position here. (refl, λ spot. refl)
item_agrees {name = name} (same_element {type = t} {array = a} {index = index} {shift = s} {units = units} {span = span} is) =
    element_agrees name t units span a index s is
item_agrees same_committed = λ sight scene position here. (refl, λ spot. refl)
item_agrees {name = name} (same_guarded {x = x} {f = f} {i = i} {span = span} h) =
    guarded_agrees name x f i span (item_agrees h)
item_agrees {name = name} (same_implied {x = x} {y = y} {i = i} {span = span} h) =
    same_agrees name (core.Fact (core.Implies x y) span) (core.When x (core.Fact y span) span)
    (core.Guarded (cuts_of name x) i span)
    (implies_same x y span) (guarded_agrees name x (core.Fact y span) i span (item_agrees h))
item_agrees {name = name} (same_fixed {y = y} {f = f} {span = span}) = fixed_agrees name y f span
item_agrees {name = name} (same_fixed_fact {y = y} {z = z} {span = span}) =
    same_agrees name (core.Fact (core.Implies (core.Equal true (core.Variable name) y) z) span)
    (core.When (core.Equal true (core.Variable name) y) (core.Fact z span) span) (core.Fixed y (core.Fact z span) span)
    (implies_same (core.Equal true (core.Variable name) y) z span) (fixed_agrees name y (core.Fact z span) span)

items_agree : {name : Name} {f : Formula} {is : Items} → SameItems name f is → ItemsAgree name f is
items_agree same_nothing = λ sight scene position here. (refl, λ spot. refl)
items_agree {name = name} (same_alone {f = f} {i = i} h) = alone_agrees name f i (item_agrees h)
items_agree {name = name} (same_together {f = f} {g = g} {is = is} {js = js} h k) =
    together_agrees name f g is js (items_agree h) (items_agree k)

pub shared_agrees : (name : Name) (s : Shared) → SameShared name s → SharedAgrees name s
shared_agrees name s h = (items_agree h.0, items_agree h.1)
