-- No formula asks for a lock: amounts suffice without their locks.
use Rattle.std.proofs.Common.{ℕ, ◌+◌, ◌≤◌, ℤ, Bool, arith}
use Rattle.pv_base.specs.declared.Name.{Name}
use Rattle.pv_values.specs.declared.value.Value.{Value}
use Rattle.pv_picks.specs.Plain.Core.{Program, Formula, Items, Item}
use Rattle.pv_picks.specs.Formulas.Heaps.{Heap}
use Rattle.pv_picks.specs.Formulas.Evaluation.{Scene}
use Rattle.pv_picks.specs.Formulas.Meeting.{Sight}
use Rattle.pv_picks.specs.Machine.Frames.{only_now}
use Rattle.pv_picks.specs.Judge.Repetitions.{Range}
use Rattle.pv_picks.specs.Judge.States.{Resource, InField, InElement, OfToken, OfLock}
use Rattle.account_formulas.specs.Sights.{Stands}
use Rattle.account.specs.Owners.{without_locks}
use Rattle.account_formulas.specs.Owning.{Amounts, KeepsOwning, KeepsHeld, Owns, Owns.fact, Owns.field, Owns.element, Owns.holds, Owns.known, Owns.folded, Owns.star, Owns.when_on, Owns.when_off, Owns.each, OwnsItems, OwnsItems.no_items, OwnsItems.joined, OwnsItem, OwnsItem.nothing, OwnsItem.elements, OwnsItem.repeated, OwnsItem.committed, OwnsItem.cut_off, OwnsItem.cut, OwnsItem.fixed, OwnsItem.beside}

pub locks_less : (R : Amounts) (q : Resource) → without_locks R q ≤ R q
locks_less R (InField class object name) = omega arith
locks_less R (InElement type array index) = omega arith
locks_less R (OfToken token class object) = omega arith
locks_less R (OfLock class object) = omega arith

-- what is kept without locks is kept
pub with_locks : (R : Amounts) (heap later : Heap) → KeepsHeld (without_locks R) heap later → KeepsHeld R heap later
with_locks R heap later l = record { placed = l.placed; kept = kept; lengths = l.lengths }
  where
    kept : (q : Resource) (v : Value) → 1 ≤ R q → Stands heap q v → Stands later q v
    kept (InField class object name) v m s = l.kept (InField class object name) v m s
    kept (InElement type array index) v m s = l.kept (InElement type array index) v m s
    kept (OfToken token class object) v m s = tt
    kept (OfLock class object) v m s = tt

-- no formula needs a lock
module _ (p : Program) (flags : ℕ → Bool) where
  lock_sum : (A B R : Amounts) → ((q : Resource) → A q + B q ≤ R q) → (q : Resource)
      → without_locks A q + without_locks B q ≤ without_locks R q
  lock_sum A B R parts (InField class o name) = parts (InField class o name)
  lock_sum A B R parts (InElement type array index) = parts (InElement type array index)
  lock_sum A B R parts (OfToken k class o) = parts (OfToken k class o)
  lock_sum A B R parts (OfLock class o) = omega arith

  mutual
    pub owns_locked : (sight : Sight) (scene : Scene) (f : Formula) (R : Amounts) → Owns p flags sight scene f R
        → Owns p flags sight scene f (without_locks R)
    owns_locked sight scene f R (fact v is t) = fact v is t
    owns_locked sight scene f R (field o is placed enough) = field o is placed enough
    owns_locked sight scene f R (element x i is_x is_i placed enough) = element x i is_x is_i placed enough
    owns_locked sight scene f R (holds o is apart named enough) = holds o is apart named enough
    owns_locked sight scene f R (known o is c flagged) = known o is c flagged
    owns_locked sight scene f R (folded o vs d is_o is_vs named owns) = folded o vs d is_o is_vs named (owns_locked _ _ _ R owns)
    owns_locked sight scene f R (star A B first second parts) =
        star (without_locks A) (without_locks B) (owns_locked sight scene _ A first) (owns_locked sight scene _ B second)
        (lock_sum A B R parts)
    owns_locked sight scene f R (when_on v is t owns) = when_on v is t (owns_locked sight scene _ R owns)
    owns_locked sight scene f R (when_off v is t) = when_off v is t
    owns_locked sight scene f R (each l u is_l is_u owns) = each l u is_l is_u (items_locked sight scene _ _ _ _ R owns)

    items_locked : (sight : Sight) (scene : Scene) (name : Name) (low high : ℤ) (is : Items) (R : Amounts)
        → OwnsItems p flags sight scene name low high is R → OwnsItems p flags sight scene name low high is (without_locks R)
    items_locked sight scene name low high is R no_items = no_items
    items_locked sight scene name low high is R (joined A B first second parts) =
        joined (without_locks A) (without_locks B) (item_locked sight scene name _ _ A first)
        (items_locked sight scene name low high _ B second) (lock_sum A B R parts)

    item_locked : (sight : Sight) (scene : Scene) (name : Name) (r : Range) (i : Item) (R : Amounts)
        → OwnsItem p flags sight scene name r i R → OwnsItem p flags sight scene name r i (without_locks R)
    item_locked sight scene name r i R (nothing e) = nothing e
    item_locked sight scene name r i R (elements x is facts) = elements x is facts
    item_locked sight scene name r i R (repeated facts) = repeated facts
    item_locked sight scene name r i R (committed o is flagged) = committed o is flagged
    item_locked sight scene name r i R (cut_off to) = cut_off to
    item_locked sight scene name r i R (cut x to owns) = cut x to (item_locked sight scene name x _ R owns)
    item_locked sight scene name r i R (fixed v is w owns) = fixed v is w (owns_locked sight _ _ R owns)
    item_locked sight scene name r i R (beside v is w) = beside v is w

  pub goes_on_locked : (heap : Heap) (scene : Scene) (f : Formula) (R : Amounts) → KeepsOwning p flags heap scene f R
      → KeepsOwning p flags heap scene f (without_locks R)
  goes_on_locked heap scene f R g later l = owns_locked (only_now later) scene f R (g later (with_locks R heap later l))
