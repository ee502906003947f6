-- What is owned at all positions of a range, as one formula and as items.
use Rattle.std.proofs.Common.{◌≡◌, ℕ, ℤ, Bool, true, refl, ap, sym, subst, ◌∙◌}
use Rattle.std.proofs.lemmas.Option.{same_Some}
use Rattle.pv_base.specs.declared.Name.{Name}
use Rattle.pv_values.specs.declared.value.Value.TheVariants as value
use Rattle.pv_picks.specs.Plain.Core.{Constant, Each, Formula, Items, NoItems, Join, Program}
use Rattle.pv_picks.specs.Formulas.Values.{within, number_in}
use Rattle.pv_picks.specs.Formulas.Evaluation.{Scene}
use Rattle.pv_picks.specs.Formulas.Meeting.{Sight, AllMet, first_of, at, unmet_item, unmet_items, unmet_shared}
use Rattle.account_formulas.specs.Owning.{Amounts, Owns, Owns.each, OwnsItems}
use Rattle.account_formulas.proofs.Meeting.{each_none}
use Rattle.account_formulas.proofs.Asking.{both_met}

-- items at every position, as a formula
abbrev pub each_formula : Name → ℤ → ℤ → Items → Formula
each_formula name low high items =
    Each name (Constant (value.Number low)) (Constant (value.Number high)) items (record { from = 0; to = 0 })

-- what the formula owns its items own
pub items_of : (p : Program) (flags : ℕ → Bool) (sight : Sight) (scene : Scene) (name : Name) (low high : ℤ) (items : Items)
    (R : Amounts)
    → Owns p flags sight scene (each_formula name low high items) R → OwnsItems p flags sight scene name low high items R
items_of p flags sight scene name low high items R (each l u is_l is_u owns) =
    subst (λ z. OwnsItems p flags sight scene name z high items R) (ap number_in (sym (same_Some (value.Number low) l is_l)))
    (subst (λ z. OwnsItems p flags sight scene name (number_in l) z items R)
    (ap number_in (sym (same_Some (value.Number high) u is_u))) owns)

-- what is met position by position is met conjunct by conjunct
pub shared_none : (sight : Sight) (scene : Scene) (name : Name) (low high : ℤ) (items : Items)
    → ((i : ℤ) → within low high i ≡ true → unmet_items sight (at scene name i) i items ≡ AllMet)
    → unmet_shared sight scene name low high items ≡ AllMet
shared_none sight scene name low high NoItems met = refl
shared_none sight scene name low high (Join item items) met =
    ap (λ o. first_of o (unmet_shared sight scene name low high items))
    (each_none (λ i. unmet_item sight (at scene name i) i item) low high
    (λ i w. (both_met (unmet_item sight (at scene name i) i item) (unmet_items sight (at scene name i) i items) (met i w)).0))
    ∙ shared_none sight scene name low high items
    (λ i w. (both_met (unmet_item sight (at scene name i) i item) (unmet_items sight (at scene name i) i items) (met i w)).1)
