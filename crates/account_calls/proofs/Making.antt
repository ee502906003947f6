-- The label of a new array: the thread that makes it owns all of its elements.
use Rattle.std.proofs.Common.{◌≡◌, inl, inr, ◌+◌, ◌<◌, ℕ, suc, ℤ, pos, negsuc, Bool, true, false, ◌&&◌, ◌||◌, if◌then◌else◌, IsTrue, Option, Some, None, List, [], ◌∷◌, refl, ap, sym, subst, ◌∙◌, arith}
use Rattle.std.specs.Prelude.{nat_eq, int_le, int_lt, IsSome}
use Rattle.std.proofs.lemmas.Option.{none-some, same_Some}
use Rattle.pv_base.specs.declared.Span.{Span}
use Rattle.pv_ast.specs.declared.PvType.{PvType}
use Rattle.pv_ast.specs.declared.PvType.TheVariants.{Int, Truth}
use Rattle.pv_values.specs.declared.value.Value.{Value}
use Rattle.pv_values.specs.declared.value.Value.TheVariants as value
use Rattle.pv_values.specs.declared.value.Location.{Location}
use Rattle.pv_values.specs.declared.value.Location.TheVariants as location
use Rattle.pv_values.specs.Typing.{Kind, is_number, is_truth}
use Rattle.pv_values.specs.Changes.{element_of_all}
use Rattle.pv_fraction.specs.Amounts.{whole}
use Rattle.pv_picks.specs.declared.check.Check.TheVariants as check
use Rattle.pv_picks.specs.Formulas.Values.{array_of, default_of, within}
use Rattle.pv_ast.specs.Rules.Typing.{same_type}
use Rattle.pv_picks.specs.Formulas.Heaps.{Heap, with_array}
use Rattle.pv_picks.specs.Judge.Runs.{Judged, Maps, blocked, content}
use Rattle.pv_picks.specs.Judge.States.{State, Resource, Holding, amount_held, amount_of, holding, cell_among, is_among, with_met, with_elements, with_length, plain_cell}
use Rattle.pv_picks.specs.Judge.Settings.{Next, met_as, pick_value}
use Rattle.pv_picks.specs.Judge.Rows.{is_known, notice_known, fresh, new_array}
use Rattle.pv_picks.specs.Typing.Heaps.{HasKindOf, IsTypedHeap}
use Rattle.machine_laws.proofs.Typed.{after-keeps}
use Rattle.pv_picks.proofs.Sames.{naturals_same}
use Rattle.pv_picks.specs.Plain.Core.{Program}
use Rattle.pv_picks.specs.Machine.Labels.{Label}
use Rattle.pv_picks.specs.Machine.Starts.{field_kind}
use Rattle.pv_picks.specs.Typing.Expressions.{IsElement}
use Rattle.pv_picks.specs.Typing.Frames.{HasType}
use Rattle.account_formulas.specs.Runs.{Taken, truly, RestNeverFails, all_maps}
use Rattle.account_formulas.specs.Growing.{AllBelow, IsHeld, StateFits, HeapFits}
use Rattle.account_formulas.proofs.Basics.{nat_self, among_index}
use Rattle.account_formulas.specs.Sights.{Stands}
use Rattle.account_formulas.specs.Owning.{Amounts, IsPlaced, KeepsHeld}
use Rattle.account_formulas.proofs.Exhaling.{holding_is}
use Rattle.account_formulas.proofs.Lengths.{never_number}
use Rattle.account.proofs.Working.{alike_never}
use Rattle.account.proofs.Later.{Extends, grown_extended, keeps_extended, below_more, Grown, held_later}

-- The judge

pub notice_same : (maps : Maps) (type : PvType) (n : ℕ) (xs : List (PvType × ℕ)) (rest : Judged)
    → notice_known (truly maps) type n xs rest ≡ rest
notice_same maps type n [] rest = refl
notice_same maps type n (x ∷ xs) rest = go (same_type type x.0) (notice_same maps type n xs rest)
  where
    go : (b : Bool) → notice_known (truly maps) type n xs rest ≡ rest
        → (if b then notice_known (truly maps) type n xs rest else notice_known (truly maps) type n xs rest) ≡ rest
    go true e = e
    go false e = e

pub unknown : (maps : Maps) (count : ℕ) (xs : List (PvType × ℕ)) → AllBelow count xs → (type : PvType) (n : ℕ) → count < n
    → is_known (truly maps) type n xs ≡ false
unknown maps count [] below type n l = refl
unknown maps count (x ∷ xs) below type n l =
    go (same_type type x.0) (nat_eq n x.1) refl (unknown maps count xs below.1 type n l)
  where
    go : (b c : Bool) → nat_eq n x.1 ≡ c → is_known (truly maps) type n xs ≡ false
        → ((b && c) || is_known (truly maps) type n xs) ≡ false
    go true true e rest =
        let same = naturals_same n x.1 e in let k = below.0 in absurd (omega (arith, same, k, l))
    go true false e rest = rest
    go false c e rest = rest

pub not_zero : (n : ℕ) → nat_eq (suc n) 0 ≡ false
not_zero n = go (nat_eq (suc n) 0) refl
  where
    go : (b : Bool) → nat_eq (suc n) 0 ≡ b → b ≡ false
    go true e = let same = naturals_same (suc n) 0 e in absurd (omega (arith, same))
    go false e = refl

-- the next number is a fresh reference
pub fresh_is : (maps : Maps) (type : PvType) (count : ℕ) (known : List (PvType × ℕ)) → AllBelow count known
    → (next : ℕ → Next Judged) (s : State)
    → fresh (truly maps) type known next (value.Reference (suc count)) s ≡ next (suc count) s
fresh_is maps type count known below next s =
    ap (λ b. if b then blocked else notice_known (truly maps) type (suc count) known
    (if is_known (truly maps) type (suc count) known then blocked else next (suc count) s)) (not_zero count)
    ∙ notice_same maps type (suc count) known _
    ∙ ap (λ b. if b then blocked else next (suc count) s) (unknown maps count known below type (suc count) (omega arith))

-- the state with a new array
abbrev pub made_state : State → PvType → ℕ → ℕ → State
made_state s type a n =
    with_length (with_elements (with_met s (array_of type) a) type a (pos 0) (pos n) whole (λ i. plain_cell (default_of type)))
    type a (pos n)

pick_array : (taken : Taken) (type : PvType) → IsElement type → (k : Maps → Value → Next Judged) (t : State)
    → RestNeverFails taken (λ maps. pick_value (truly maps) (array_of type) (k maps) t) → (n : ℕ)
    → RestNeverFails taken (λ maps. k maps (value.Reference n) (with_met t (array_of type) n))
pick_array taken type (inl e) k t =
    subst (λ ty. RestNeverFails taken (λ maps. pick_value (truly maps) (array_of ty) (k maps) t) → (n : ℕ)
    → RestNeverFails taken (λ maps. k maps (value.Reference n) (with_met t (array_of ty) n))) (sym e)
    (λ never n. never_number taken (λ maps z. met_as (truly maps) (array_of Int) z (k maps) t) (pos n) never)
pick_array taken type (inr e) k t =
    subst (λ ty. RestNeverFails taken (λ maps. pick_value (truly maps) (array_of ty) (k maps) t) → (n : ℕ)
    → RestNeverFails taken (λ maps. k maps (value.Reference n) (with_met t (array_of ty) n))) (sym e)
    (λ never n. never_number taken (λ maps z. met_as (truly maps) (array_of Truth) z (k maps) t) (pos n) never)

-- the length isn't negative, and the run goes on with the new array
pub makes : (taken : Taken) (type : PvType) → IsElement type → (length : ℤ) (span : Span) (next : Maps → Value → Next Judged)
    (s : State) (count : ℕ) → AllBelow count s.met
    → RestNeverFails taken (λ maps. new_array (truly maps) type length span (next maps) s)
    → (n : ℕ) × (length ≡ pos n)
    × RestNeverFails taken (λ maps. next maps (value.Reference (suc count)) (made_state s type (suc count) n))
makes taken type element length span next s count below never =
    by_length length (alike_never taken
    (pick_array taken type element (λ maps. fresh (truly maps) (array_of type) s.met (After maps length)) s never (suc count))
    (λ maps. fresh_is maps (array_of type) count s.met below (After maps length) (with_met s (array_of type) (suc count))))
  where
    After : Maps → ℤ → ℕ → Next Judged
    After maps z a state =
        if int_le (pos 0) z then next maps (value.Reference a) (with_length (with_elements state type a (pos 0) z whole
        (λ i. plain_cell (default_of type))) type a z) else (truly maps).failed check.Length span

    by_length : (z : ℤ) → RestNeverFails taken (λ maps. After maps z (suc count) (with_met s (array_of type) (suc count)))
        → (n : ℕ) × (z ≡ pos n)
        × RestNeverFails taken (λ maps. next maps (value.Reference (suc count)) (made_state s type (suc count) n))
    by_length z k = go z (int_le (pos 0) z) refl k
      where
        go : (z : ℤ) (b : Bool) → int_le (pos 0) z ≡ b
            → RestNeverFails taken (λ maps. if b then next maps (value.Reference (suc count)) (with_length
            (with_elements (with_met s (array_of type) (suc count)) type (suc count) (pos 0) z whole
            (λ i. plain_cell (default_of type))) type (suc count) z) else (truly maps).failed check.Length span)
            → (n : ℕ) × (z ≡ pos n)
            × RestNeverFails taken (λ maps. next maps (value.Reference (suc count)) (made_state s type (suc count) n))
        go z false e k = absurd (k.never [] check.Length span refl)
        go (pos n) true e k = (n, refl, k)
        go (negsuc n) true e k = absurd (cc e)

-- The heap

module _ (p : Program) (flags : ℕ → Bool) (heap : Heap) (sound : HeapFits p heap) (typed : IsTypedHeap (field_kind p) heap)
    (type : PvType) (element : IsElement type) (size : ℕ) where
  abbrev pub more : Heap
  more = with_array heap (default_of type) size

  is_new : (n : ℕ) → nat_eq n (suc heap.count) ≡ true → heap.count < n
  is_new n e = let same = naturals_same n (suc heap.count) e in omega (arith, same)

  -- what stood there stands there
  value_later : (l : Location) (v : Value) → heap.value l ≡ Some v → more.value l ≡ Some v
  value_later (location.Field o n) v is = is
  value_later (location.Cell a i) v is = go (nat_eq a (suc heap.count)) refl
    where
      go : (b : Bool) → nat_eq a (suc heap.count) ≡ b
          → (if b then element_of_all (default_of type) size i else heap.value (location.Cell a i)) ≡ Some v
      go true e = absurd (none-some v (sym ((sound.beyond a (is_new a e)).elements i) ∙ is))
      go false e = is

  length_later : (a : ℕ) (n : ℤ) → heap.length a ≡ Some n → more.length a ≡ Some n
  length_later a n is = go (nat_eq a (suc heap.count)) refl
    where
      go : (b : Bool) → nat_eq a (suc heap.count) ≡ b → (if b then Some (pos size) else heap.length a) ≡ Some n
      go true e = absurd (none-some n (sym (sound.beyond a (is_new a e)).length ∙ is))
      go false e = is

  kinds_later : (kind : Option Kind) (v : Value) → HasKindOf heap kind v → HasKindOf more kind v
  kinds_later kind v h = after-keeps p (Some (Label.NewArray type (pos size))) heap typed element tt kind v h

  extends : Extends heap more
  extends = record {
    values = value_later;
    lengths = length_later;
    classes = λ x c is. is;
    class = λ x c is l. is;
    kinds = kinds_later;
    count = omega arith;
  }

  pub grown_made : Grown heap more
  grown_made = grown_extended heap more extends

  pub keeps_made : (A : Amounts) → KeepsHeld A heap more
  keeps_made = keeps_extended heap more extends

  -- the new elements

  new_length : more.length (suc heap.count) ≡ Some (pos size)
  new_length = ap (λ b. if b then Some (pos size) else heap.length (suc heap.count)) (nat_self (suc heap.count))

  new_element : (i : ℤ) → within (pos 0) (pos size) i ≡ true
      → more.value (location.Cell (suc heap.count) i) ≡ Some (default_of type)
  new_element i h =
      ap (λ b. if b then element_of_all (default_of type) size i else heap.value (location.Cell (suc heap.count) i))
      (nat_self (suc heap.count))
      ∙ ap (λ b. if b then Some (default_of type) else None) h

  all_default : (i : ℤ) (v : Value) → more.value (location.Cell (suc heap.count) i) ≡ Some v → v ≡ default_of type
  all_default i v is = go (int_le (pos 0) i && int_lt i (pos size))
      (sym (ap (λ b. if b then element_of_all (default_of type) size i else heap.value (location.Cell (suc heap.count) i))
      (nat_self (suc heap.count))) ∙ is)
    where
      go : (b : Bool) → (if b then Some (default_of type) else None) ≡ Some v → v ≡ default_of type
      go true e = sym (same_Some (default_of type) v e)
      go false e = absurd (none-some v e)

  pub new_typed : HasType more (array_of type) (value.Reference (suc heap.count))
  new_typed = by element
    where
      by : IsElement type → HasType more (array_of type) (value.Reference (suc heap.count))
      by (inl e) = subst (λ t. HasType more (array_of t) (value.Reference (suc heap.count))) (sym e) (
        subst IsSome (sym new_length) refl,
        λ i v is. subst (λ x. IsTrue (is_number x)) (sym (all_default i v is))
            (subst (λ t. IsTrue (is_number (default_of t))) (sym e) refl),
      )
      by (inr e) = subst (λ t. HasType more (array_of t) (value.Reference (suc heap.count))) (sym e) (
        subst IsSome (sym new_length) refl,
        λ i v is. subst (λ x. IsTrue (is_truth x)) (sym (all_default i v is))
            (subst (λ t. IsTrue (is_truth (default_of t))) (sym e) refl),
      )

  pub new_placed : (q : Resource) → is_among type (suc heap.count) (pos 0) (pos size) q ≡ true → IsPlaced more q
  new_placed q is =
      let k = among_index type (suc heap.count) (pos 0) (pos size) q is in
      subst (IsPlaced more) (sym k.2)
      ((pos size, new_length, k.1), subst IsSome (sym (new_element k.0 k.1)) refl, element, new_typed)

  -- nothing was held of them
  pub not_placed : (q : Resource) → is_among type (suc heap.count) (pos 0) (pos size) q ≡ true → IsPlaced heap q → ⊥
  not_placed q is placed =
      let k = among_index type (suc heap.count) (pos 0) (pos size) q is in
      let h = subst (IsPlaced heap) k.2 placed in
      absurd (none-some h.0.0 (sym (sound.beyond (suc heap.count) (omega arith)).length ∙ h.0.1))

  pub state_made : (taken : Taken) (s : State) → StateFits flags heap taken s
      → StateFits flags more taken (made_state s type (suc heap.count) size)
  state_made taken s fine = record {
    steps = fine.steps;
    agree = λ t a n is. lengths t a n (same_type t type) (nat_eq a (suc heap.count)) refl is;
    holds = λ q h is. holds q h (is_among type (suc heap.count) (pos 0) (pos size) q) refl is;
    knows = fine.knows;
    met = (omega arith, below_more heap.count (suc heap.count) (omega arith) s.met fine.met);
  }
    where
      lengths : (t : PvType) (a : ℕ) (n : ℤ) (b c : Bool) → nat_eq a (suc heap.count) ≡ c
          → (if b && c then Some (pos size) else s.lengths t a) ≡ Some n → more.length a ≡ Some n
      lengths t a n true true e is = ap (λ z. if z then Some (pos size) else heap.length a) e ∙ is
      lengths t a n true false e is = length_later a n (fine.agree t a n is)
      lengths t a n false c e is = length_later a n (fine.agree t a n is)

      -- a new element holds the default
      holds : (q : Resource) (h : Holding) (b : Bool) → is_among type (suc heap.count) (pos 0) (pos size) q ≡ b
          → (if b then holding (amount_held (s.held q) + whole)
          (cell_among (s.held q) (λ i. plain_cell (default_of type)) q (pos 0))
          else s.held q) ≡ Some h → IsHeld taken more q h
      holds q h false e is =
          held_later p flags heap more taken (amount_of s) (keeps_made (amount_of s)) q h
          (let k : h.amount ≡ amount_of s q = ap amount_held (sym is) in omega (arith, k)) (fine.holds q h is)
      holds q h true e is = go (s.held q) refl is
        where
          go : (o : Option Holding) → s.held q ≡ o
              → holding (amount_held o + whole) (cell_among o (λ i. plain_cell (default_of type)) q (pos 0)) ≡ Some h
              → IsHeld taken more q h
          go (Some x) at is = absurd (not_placed q e (fine.holds q x at).placed)
          go None at is =
              let k = holding_is (0 + whole) (plain_cell (default_of type)) h is in
              let j = among_index type (suc heap.count) (pos 0) (pos size) q e in
              record {
                some = k.0;
                placed = new_placed q e;
                value = default_of type;
                settled = λ picks. ap (content (all_maps taken picks)) (sym k.1);
                stands = subst (λ x. Stands more x (default_of type)) (sym j.2) (new_element j.0 j.1);
              }
