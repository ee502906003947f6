-- Forms of a contract that are made alike own the same: what is made of the text is read so in every scene.
use Rattle.std.proofs.Common.{◌≡◌, true, false, Some, None, refl, ap, subst}
use Rattle.pv_base.specs.declared.Name.{Name}
use Rattle.pv_picks.specs.Plain.Core.{Expression, Formula, Items, NoItems, Join, Item, Shared, Team}
use Rattle.pv_picks.specs.Elaborating.Operations.{cuts_of}
use Rattle.pv_picks.specs.Elaborating.Expressions as elaborations
use Rattle.core_sharing.specs.Forms as made
use Rattle.core_sharing.specs.Forms.{IsShifted, SameShared, SameItem.same_fact as made_fact, SameItem.same_element as made_element, SameItem.same_committed as made_committed, SameItem.same_guarded as made_guarded, SameItem.same_implied as made_implied, SameItem.same_fixed as made_fixed, SameItem.same_fixed_fact as made_fixed_fact, SameItems.same_nothing as made_nothing, SameItems.same_alone as made_alone, SameItems.same_together as made_together}
use Rattle.core_sharing.proofs.Evaluating.{guards_met}
use Rattle.core_sharing.proofs.Agreeing.{shifted_read}
use Rattle.account_formulas.specs.Forms.{Guards, SameItem, SameItem.same_fact, SameItem.same_element, SameItem.same_committed, SameItem.same_guarded, SameItem.same_pure, SameItem.same_fixed, SameItem.same_fixed_fact, together, SameItems, SameItems.same_nothing, SameItems.same_alone, SameItems.same_together}
use Rattle.account.specs.Blocks.{FormsAreAlike}

guards : (name : Name) (x : Expression) → Guards name x (cuts_of name x)
guards name x = λ sight scene position here. guards_met None sight scene name position here x (Some false) (Some true)

-- a formula and an item
item_alike : {name : Name} {f : Formula} {i : Item} → made.SameItem name f i → SameItem name f i
item_alike made_fact = same_fact
item_alike {name = name} (made_element {index = index} {shift = shift} is) =
    same_element (λ sight scene position here. shifted_read None sight scene name position shift here Some index is)
item_alike made_committed = same_committed
item_alike {name = name} (made_guarded {x = x} h) = same_guarded (guards name x) (item_alike h)
item_alike {name = name} (made_implied {x = x} h) = same_pure (guards name x) (item_alike h)
item_alike made_fixed = same_fixed
item_alike made_fixed_fact = same_fixed_fact

same_together_items : (is js : Items) → together is js ≡ elaborations.together is js
same_together_items NoItems js = refl
same_together_items (Join i is) js = ap (Join i) (same_together_items is js)

-- a formula and items
items_alike : {name : Name} {f : Formula} {is : Items} → made.SameItems name f is → SameItems name f is
items_alike made_nothing = same_nothing
items_alike (made_alone h) = same_alone (item_alike h)
items_alike {name = name} (made_together {f = f} {g = g} {is = is} {js = js} h k) =
    subst (SameItems name _) (same_together_items is js) (same_together (items_alike h) (items_alike k))

-- both forms of a contract, for the variable of a block
pub forms_alike : (team : Team) (s : Shared) → SameShared team.variable s → FormsAreAlike team s
forms_alike team s h = record { before = items_alike h.0; after = items_alike h.1 }
