-- Amounts of each element of a range can be gained, with the values of the heap: one pick gives them all.
use Rattle.std.proofs.Common.{◌≡◌, inl, inr, ℕ, suc, ◌+◌, ◌≤◌, ℤ, pos, Bool, true, false, ◌&&◌, if◌then◌else◌, Option, Some, None, List, refl, ap, sym, subst, ◌∙◌, arith}
use Rattle.std.specs.Prelude.{nat_eq, nat_le, int_le, int_lt, ◌-ℤ◌}
use Rattle.std.proofs.lemmas.Option.{same_Some}
use Rattle.std.proofs.lemmas.Int.{ints}
use Rattle.pv_ast.specs.declared.PvType.{PvType}
use Rattle.pv_ast.specs.declared.PvType.TheVariants.{Int, Truth}
use Rattle.pv_values.specs.declared.value.Value.{Value}
use Rattle.pv_values.specs.declared.value.Value.TheVariants as value
use Rattle.pv_values.specs.declared.value.Location.TheVariants as location
use Rattle.pv_fraction.specs.Amounts.{whole}
use Rattle.pv_picks.specs.declared.evidence.StepPair.{StepPair}
use Rattle.pv_picks.specs.Plain.Core.{Program}
use Rattle.pv_picks.specs.Formulas.Values.{within, is_empty, width}
use Rattle.pv_picks.specs.Formulas.Heaps.{Heap}
use Rattle.pv_picks.specs.Machine.Starts.{field_kind}
use Rattle.pv_picks.specs.Judge.States.{Resource, InElement, FromSteps, Holding, State, scene_of, amount_of, amount_held, holding, is_among, index_of, cell_among, as_element, with_range}
use Rattle.pv_picks.specs.Judge.Settings.{Next}
use Rattle.pv_picks.specs.Judge.Permissions.{gain_range, has_room}
use Rattle.pv_picks.specs.Judge.Runs.{Judged, Maps, content, step_value, pick_steps}
use Rattle.pv_picks.specs.Typing.Expressions.{IsElement}
use Rattle.pv_picks.specs.Typing.Frames.{HasType}
use Rattle.pv_picks.proofs.Sames.{front, back, naturals_same}
use Rattle.account_formulas.specs.Sights.{Lengths, LengthsAgree}
use Rattle.account_formulas.specs.Runs.{Taken, all_maps, truly, RestNeverFails, GoesOnTo, with_lengths}
use Rattle.account_formulas.specs.Owning.{IsPlaced}
use Rattle.account_formulas.specs.Growing.{IsHeld, StateFits, HeapFits}
use Rattle.account_formulas.proofs.Basics.{among_index, both, not_false, in_width, at_all_each, first_within, last_within, is_at_most}
use Rattle.account_formulas.proofs.TypedReads.{element_typed}
use Rattle.account_formulas.proofs.Lengths.{after_steps, newest_map, goes_on_after, never_steps, length_looked}
use Rattle.account_formulas.proofs.Exhaling.{holding_is, amount_holding}
use Rattle.account_formulas.proofs.Picking.{pairs_of, steps_of}
use Rattle.account_formulas.proofs.Raising.{Raised, raised, held_on, some_of, holding_some}

-- a test whose outcome is known
pub tested_true : (taken : Taken) (b : Bool) → b ≡ true → (x y : Maps → Judged)
    → RestNeverFails taken (λ maps. if b then x maps else y maps) → RestNeverFails taken x
tested_true taken true e x y n = n
tested_true taken false e x y n = absurd (cc e)

pub tested_false : (taken : Taken) (b : Bool) → b ≡ false → (x y : Maps → Judged)
    → RestNeverFails taken (λ maps. if b then x maps else y maps) → RestNeverFails taken y
tested_false taken true e x y n = absurd (cc e)
tested_false taken false e x y n = n

-- a value as a number of a pick
abbrev pub code : Value → ℤ
code (value.Number z) = z
code (value.Truth true) = pos 1
code (value.Truth false) = pos 0
code (value.Reference n) = pos 0

abbrev pub value_or_null : Option Value → Value
value_or_null None = value.Reference 0
value_or_null (Some v) = v

coded : (present : Heap) (type : PvType) (x : Value) → IsElement type → HasType present type x → as_element type (code x) ≡ x
coded present type x (inl e) typed =
    subst (λ k. as_element k (code x) ≡ x) (sym e) (go x (subst (λ k. HasType present k x) e typed))
  where
    go : (x : Value) → HasType present Int x → as_element Int (code x) ≡ x
    go (value.Number z) h = refl
    go (value.Truth b) h = absurd (cc h)
    go (value.Reference n) h = absurd (cc h)
coded present type x (inr e) typed =
    subst (λ k. as_element k (code x) ≡ x) (sym e) (go x (subst (λ k. HasType present k x) e typed))
  where
    go : (x : Value) → HasType present Truth x → as_element Truth (code x) ≡ x
    go (value.Number z) h = absurd (cc h)
    go (value.Truth true) h = refl
    go (value.Truth false) h = refl
    go (value.Reference n) h = absurd (cc h)

module _ (p : Program) (flags : ℕ → Bool) (present : Heap) (sound : HeapFits p present) where
  pub not_null_element : (type : PvType) (a : ℕ) (i : ℤ) → IsPlaced present (InElement type a i) → nat_eq a 0 ≡ false
  not_null_element type a i placed = go (nat_eq a 0) refl
    where
      go : (b : Bool) → nat_eq a 0 ≡ b → b ≡ false
      go false e = refl
      go true e = let same : a ≡ 0 = naturals_same a 0 e in
          let none = sound.now.no_elements i in
          let some = some_of (present.value (location.Cell a i)) placed.1 in
          let here = subst (λ z. present.value (location.Cell z i) ≡ Some some.0) same some.1 in absurd (cc (none, here))

  -- the values of an array in the heap, as numbers; and the pick that gives them
  abbrev values_in : ℕ → ℤ → ℤ
  values_in array i = code (value_or_null (present.value (location.Cell array i)))

  abbrev pairs_in : ℕ → ℤ → ℤ → List StepPair
  pairs_in array low high = pairs_of (values_in array) low (width low high)

  -- more of each element of a range
  pub record GainedRange (taken : Taken) (t : State) (type : PvType) (array : ℕ) (low high : ℤ) (a : ℕ)
      (next : Maps → Next Judged) : Type 0 where
    pub then_taken : Taken
    pub after : State
    pub never : RestNeverFails then_taken (λ maps. next maps after)
    pub goes : GoesOnTo taken then_taken
    pub scene : scene_of after ≡ scene_of t
    pub kept : after.old ≡ t.old
    pub raised : Raised flags present taken t then_taken after
    pub instances : after.instances ≡ t.instances
    pub sum : (q : Resource) → amount_of after q ≤ amount_of t q + (if is_among type array low high q then a else 0)

  -- the elements that are held after it
  module _ (taken : Taken) (type : PvType) (array : ℕ) (low high : ℤ) (a : ℕ) (t : State) (fine : StateFits flags present taken t)
      (some : 1 ≤ a)
      (all : (i : ℤ) → within low high i ≡ true → IsPlaced present (InElement type array i)) where
    abbrev then_taken : Taken
    then_taken = after_steps taken (pairs_in array low high)

    given_at : (i : ℤ) → within low high i ≡ true → step_value (pairs_in array low high) i ≡ values_in array i
    given_at i w =
        steps_of (values_in array) (width low high) low i (pos 0) (front (int_le low i) (int_lt i high) w) (in_width low high i w)

    element_stands : (i : ℤ) → within low high i ≡ true → present.value (location.Cell array i)
        ≡ Some (as_element type (step_value (pairs_in array low high) i))
    element_stands i w =
        let here = all i w in
        let x = some_of (present.value (location.Cell array i)) here.1 in
        let typed = element_typed (field_kind p) present present sound.now type here.2 (value.Reference array) x.0 i here.3 x.1 in
        x.1 ∙ ap Some (sym (coded present type x.0 here.2 typed) ∙ ap (λ o. as_element type (code (value_or_null o))) (sym x.1)
        ∙ ap (as_element type) (sym (given_at i w)))

    new_held : (i : ℤ) → within low high i ≡ true → (k : Holding) → FromSteps type t.steps i ≡ k.cell → 1 ≤ k.amount
        → IsHeld then_taken present (InElement type array i) k
    new_held i w k same more = record {
      some = more;
      placed = all i w;
      value = as_element type (step_value (pairs_in array low high) i);
      settled = λ picks. ap (content (all_maps then_taken picks)) (sym same)
          ∙ ap (λ n. as_element type (all_maps then_taken picks n i)) fine.steps
          ∙ ap (λ m. as_element type (m i)) (newest_map taken (pairs_in array low high) picks);
      stands = element_stands i w;
    }

    among_held : (q : Resource) (o : Option Holding) → t.held q ≡ o → (k : Holding)
        → is_among type array low high q ≡ true → holding (amount_held o + a) (cell_among o (FromSteps type t.steps) q low)
        ≡ Some k → IsHeld then_taken present q k
    among_held q (Some h) at k e is =
        let has = holding_is (h.amount + a) h.cell k is in
        held_on present taken then_taken (goes_on_after taken (pairs_in array low high)) q h k (fine.holds q h at)
        (sym has.1) has.0
    among_held q None at k e is =
        let has = holding_is (amount_held None + a) (FromSteps type t.steps (index_of q low)) k is in
        let i = among_index type array low high q e in
        subst (λ x. IsHeld then_taken present x k) (sym i.2)
        (new_held i.0 i.1 k (ap (λ x. FromSteps type t.steps (index_of x low)) (sym i.2) ∙ has.1) has.0)

    range_held : (q : Resource) (k : Holding) (b : Bool) → is_among type array low high q ≡ b
        → (if b then holding (amount_of t q + a) (cell_among (t.held q) (FromSteps type t.steps) q low) else t.held q) ≡ Some k
        → IsHeld then_taken present q k
    range_held q k true e is = among_held q (t.held q) refl k e is
    range_held q k false e is =
        held_on present taken then_taken (goes_on_after taken (pairs_in array low high)) q k k (fine.holds q k is) refl
        (fine.holds q k is).some

    range_kept : (q : Resource) (h : Holding) → t.held q ≡ Some h → (b : Bool)
        → (k : Holding) × ((if b then holding (amount_of t q + a)
        (cell_among (t.held q) (FromSteps type t.steps) q low) else t.held q) ≡ Some k) × (k.cell ≡ h.cell)
    range_kept q h at false = (h, at, refl)
    range_kept q h at true = (
      record { amount = h.amount + a; cell = h.cell },
      ap (λ o. holding (amount_held o + a) (cell_among o (FromSteps type t.steps) q low)) at
          ∙ holding_some (h.amount + a) h.cell (omega (arith, some)),
      refl,
    )

    range_raised : (m : Lengths) → LengthsAgree present m
        → Raised flags present taken t then_taken (with_range (with_lengths t m) type array low high a)
    range_raised m agrees = raised flags present taken t then_taken (with_range (with_lengths t m) type array low high a) fine
        (goes_on_after taken (pairs_in array low high)) (ap suc fine.steps) agrees fine.knows fine.met
        (λ q k is. range_held q k (is_among type array low high q) refl is)
        (λ q h is. range_kept q h is (is_among type array low high q))

    range_sum : (q : Resource) (b : Bool) → amount_held (if b then holding (amount_of t q + a)
        (cell_among (t.held q) (FromSteps type t.steps) q low) else t.held q)
        ≤ amount_of t q + (if b then a else 0)
    range_sum q true =
        let now = amount_holding (amount_of t q + a) (cell_among (t.held q) (FromSteps type t.steps) q low) in omega (arith, now)
    range_sum q false = omega arith

  pub range_goes : (taken : Taken) (type : PvType) (array : ℕ) (low high : ℤ) (ends : List ℤ) (a : ℕ) (next : Maps → Next Judged)
      (t : State) → StateFits flags present taken t
      → is_empty low high ≡ false → 1 ≤ a
      → ((i : ℤ) → within low high i ≡ true → IsPlaced present (InElement type array i)
      × (amount_of t (InElement type array i) + a ≤ whole))
      → RestNeverFails taken (λ maps. gain_range (truly maps) type array low high ends a (next maps) t) → (G : Type 0)
      → (GainedRange taken t type array low high a next → G) → G
  range_goes taken type array low high ends a next t fine full some all never G found =
      length_looked taken present t type array _ G n at (sound.natural array n at)
      (λ m agrees k. found (ranged m agrees (tested_true taken (has_room (with_lengths t m) type array low high a) room _ _
      (tested_true taken (int_le (pos 0) low && int_le high n) inside _ _ k))))
      t.lengths fine.agree (tested_false taken (nat_eq array 0) (not_null_element type array low first.0) _ _ never)
    where
      first : IsPlaced present (InElement type array low) × (amount_of t (InElement type array low) + a ≤ whole)
      first = all low (first_within low high full)

      last : IsPlaced present (InElement type array (high -ℤ pos 1))
          × (amount_of t (InElement type array (high -ℤ pos 1)) + a ≤ whole)
      last = all (high -ℤ pos 1) (last_within low high full)

      n : ℤ
      n = first.0.0.0

      at : present.length array ≡ Some n
      at = first.0.0.1

      inside : (int_le (pos 0) low && int_le high n) ≡ true
      inside = let same : last.0.0.0 ≡ n = same_Some last.0.0.0 n (sym last.0.0.1 ∙ at) in
          let one = front (int_le (pos 0) low) (int_lt low n) first.0.0.2 in
          let two : int_lt (high -ℤ pos 1) n ≡ true = subst (λ z. int_lt (high -ℤ pos 1) z ≡ true) same
          (back (int_le (pos 0) (high -ℤ pos 1)) (int_lt (high -ℤ pos 1) last.0.0.0) last.0.0.2) in
          both _ _ one (not_false (int_le high n) (λ z. omega (arith, ints)))

      room : has_room t type array low high a ≡ true
      room = at_all_each (λ i. nat_le (amount_of t (InElement type array i) + a) whole) low high full
          (λ i w. is_at_most (amount_of t (InElement type array i) + a) whole (all i w).1)

      ranged : (m : Lengths) → LengthsAgree present m → RestNeverFails taken (λ maps. pick_steps
          (next maps (with_range (with_lengths t m) type array low high a)))
          → GainedRange taken t type array low high a next
      ranged m agrees k = record {
        then_taken = after_steps taken (pairs_in array low high);
        after = with_range (with_lengths t m) type array low high a;
        never =
            never_steps taken (λ maps. next maps (with_range (with_lengths t m) type array low high a))
            (pairs_in array low high) k;
        goes = goes_on_after taken (pairs_in array low high);
        scene = refl;
        kept = refl;
        raised = range_raised taken type array low high a t fine some (λ i w. (all i w).0) m agrees;
        instances = refl;
        sum = λ q. range_sum taken type array low high a t fine some (λ i w. (all i w).0) q (is_among type array low high q);
      }
