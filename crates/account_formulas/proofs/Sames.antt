-- What the tests for sameness say of values and of folded instances.
use Rattle.std.proofs.Common.{◌≡◌, Bool, true, false, List, [], ◌∷◌, refl, ap, ◌∙◌}
use Rattle.std.specs.Prelude.{nat_eq}
use Rattle.pv_base.specs.Names.{same_name}
use Rattle.pv_values.specs.declared.value.Value.{Value}
use Rattle.pv_values.specs.declared.value.Value.TheVariants as value
use Rattle.pv_values.specs.Sames.{same_truth, same_value, same_elements}
use Rattle.pv_picks.specs.Judge.States.{Folded, same_folded}
use Rattle.pv_picks.proofs.Sames.{front, back, numbers_same, naturals_same, names_same}

truths_same : (a b : Bool) → same_truth a b ≡ true → a ≡ b
truths_same true true h = refl
truths_same true false h = absurd (cc h)
truths_same false true h = absurd (cc h)
truths_same false false h = refl

pub values_same : (a b : Value) → same_value a b ≡ true → a ≡ b
values_same (value.Number a) (value.Number b) h = ap value.Number (numbers_same a b h)
values_same (value.Truth a) (value.Truth b) h = ap value.Truth (truths_same a b h)
values_same (value.Reference a) (value.Reference b) h = ap value.Reference (naturals_same a b h)
values_same a b h = absurd (cc h)

pub elements_same : (a b : List Value) → same_elements a b ≡ true → a ≡ b
elements_same [] [] h = refl
elements_same [] (b ∷ bs) h = absurd (cc h)
elements_same (a ∷ rest) [] h = absurd (cc h)
elements_same (a ∷ rest) (b ∷ bs) h =
    let first : a ≡ b = values_same a b (front (same_value a b) (same_elements rest bs) h) in
    let others : rest ≡ bs = elements_same rest bs (back (same_value a b) (same_elements rest bs) h) in cc (first, others)

pub folded_same : (a b : Folded) → same_folded a b ≡ true → a ≡ b
folded_same a b h =
    let one = names_same a.class b.class (front _ _ h) in
    let more = back (same_name a.class b.class) _ h in
    let two = names_same a.predicate b.predicate (front _ _ more) in
    let rest = back (same_name a.predicate b.predicate) _ more in
    let three = naturals_same a.object b.object (front _ _ rest) in
    let four = elements_same a.arguments b.arguments (back (nat_eq a.object b.object) _ rest) in
    ap (λ c. record a { class = c }) one
    ∙ ap (λ c. record { class = b.class; predicate = c; object = a.object; arguments = a.arguments }) two
    ∙ ap (λ c. record { class = b.class; predicate = b.predicate; object = c; arguments = a.arguments }) three
    ∙ ap (λ c. record { class = b.class; predicate = b.predicate; object = b.object; arguments = c }) four
