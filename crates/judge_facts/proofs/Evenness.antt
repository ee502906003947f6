-- What a run holds of arrays is the same between names.
use Rattle.std.proofs.Common.{◌≡◌, ℕ, zero, suc, ◌+◌, ℤ, pos, Bool, true, false, ◌&&◌, if◌then◌else◌, Option, Some, None, List, refl, ap, sym, subst, ◌∙◌, ◌⊎◌, inl, inr, rules, arith}
use Rattle.std.specs.Prelude.{option_map, ◌-◌, nat_eq, ◌+ℤ◌, ◌≤ℤ◌, ◌<ℤ◌}
use Rattle.std.proofs.lemmas.Int.{ints, by_lt_z}
use Rattle.pv_ast.specs.declared.PvType.{PvType}
use Rattle.pv_values.specs.declared.value.Value.{Value}
use Rattle.pv_values.specs.Heaps.{same_number}
use Rattle.pv_picks.specs.Formulas.Values.{within}
use Rattle.pv_ast.specs.Rules.Typing.{same_type}
use Rattle.pv_picks.specs.Judge.States.{State, Resource, InField, InElement, OfToken, OfLock, same_resource, Cell, FromSteps, Cells, Holding, holding, amount_held, amount_of, cell_held, no_cell, cells_of, plain_cell, as_element, with_holding, with_range, without_range, with_elements, is_among, cell_among, empty_state}
use Rattle.pv_picks.specs.Judge.Settings.{Event, AtField, AtToken, AtLock, AtInstance, AtArray, AtArrayLength}
use Rattle.pv_picks.specs.Judge.Runs.{Maps, content}
use Rattle.pv_picks.specs.Lazy.Patterns.{Array}
use Rattle.judge_facts.specs.Finite.{IsOneOf}
use Rattle.judge_facts.specs.Shapes.{IsShaped}
use Rattle.judge_facts.specs.Fair.{content_of, Nearest}
use Rattle.pv_picks.proofs.Sames.{numbers_same, naturals_same, types_same}
use Rattle.judge_facts.proofs.Naming.{if_false, if_true}
use Rattle.judge_facts.proofs.Keeping.{Invariant, IsClosed}

and_both : (a b : Bool) → a ≡ true → b ≡ true → (a && b) ≡ true
and_both true b h k = k
and_both false b h k = absurd (cc h)

by_cases : {P : Type 0} (b : Bool) → (b ≡ true → P) → (b ≡ false → P) → P
by_cases true f g = f refl
by_cases false f g = g refl

same_numbers : (a b : ℤ) → a ≡ b → same_number a b ≡ true
same_numbers a b h = search (rules, ints)

differ : (a b : ℤ) → (a ≡ b → ⊥) → same_number a b ≡ false
differ a b h = by_cases (same_number a b) (λ e. absurd (h (numbers_same a b e))) (λ e. e)

and_false_one : (a b : Bool) → a ≡ false → (a && b) ≡ false
and_false_one true b h = absurd (cc h)
and_false_one false b h = refl

and_false_two : (a b : Bool) → b ≡ false → (a && b) ≡ false
and_false_two true b h = h
and_false_two false b h = refl

within_says : (l h p : ℤ) → within l h p ≡ true → (l ≤ℤ p) × (p <ℤ h)
within_says l h p e = (search (rules, ints), search (rules, ints))

within_if : (l h p : ℤ) → l ≤ℤ p → p <ℤ h → within l h p ≡ true
within_if l h p a b = search (rules, ints)

pub the_same : (t u : PvType) (a b : ℕ) → same_type t u ≡ true → nat_eq a b ≡ true → ◌≡◌ {A = Array} (u, b) (t, a)
the_same t u a b et ea =
    ap (λ (y : PvType). (y, b)) (sym (types_same t u et)) ∙ ap (λ (y : ℕ). (t, y)) (sym (naturals_same a b ea))

-- two numbers between which nothing of a range begins or ends
within_even : (ns : List ℤ) (l h p q : ℤ) → Nearest ns p q → IsOneOf l ns → IsOneOf h ns → within l h p ≡ within l h q
within_even ns l h p q n il ih = let u = n.below in by_cases (within l h p)
    (λ e. let a = within_says l h p e in let x = a.0 in let y = a.1 in let t = n.none l il x in
    e ∙ sym (within_if l h q t (omega (arith, ints, u, y))))
    (λ e. by_cases (within l h q)
    (λ d. let a = within_says l h q d in let x = a.0 in let y = a.1 in by_lt_z p h
    (λ g. absurd (cc (sym e ∙ within_if l h p (omega (arith, ints, u, x)) g)))
    (λ g. let t = n.none h ih g in absurd (omega (arith, ints, t, y))))
    (λ d. e ∙ sym d))

-- how much is held, and what value is in it
abbrev pub Seen : Type 0
Seen = Option (ℕ × Value)

abbrev pub seen : Maps → Option Holding → Seen
seen maps o = option_map (λ h. (h.amount, content maps h.cell)) o

abbrev amount_seen : Seen → ℕ
amount_seen None = 0
amount_seen (Some x) = x.0

abbrev value_seen : Value → Seen → Value
value_seen v None = v
value_seen v (Some x) = x.1

amount_is : (maps : Maps) (o : Option Holding) → amount_held o ≡ amount_seen (seen maps o)
amount_is maps None = refl
amount_is maps (Some h) = refl

cell_is : (maps : Maps) (o : Option Holding) → content maps (cell_held o) ≡ value_seen (content maps no_cell) (seen maps o)
cell_is maps None = refl
cell_is maps (Some h) = refl

among_is : (maps : Maps) (o : Option Holding) (given : ℤ → Cell) (t : PvType) (a : ℕ) (i low : ℤ)
    → content maps (cell_among o given (InElement t a i) low) ≡ value_seen (content maps (given i)) (seen maps o)
among_is maps None given t a i low = refl
among_is maps (Some h) given t a i low = refl

cells_are : (maps : Maps) (o : Option Holding)
    → content_of maps (option_map (λ h. h.cell) o) ≡ option_map (λ x. x.1) (seen maps o)
cells_are maps None = refl
cells_are maps (Some h) = refl

seen_holding : (maps : Maps) (n : ℕ) (x y : Cell) → content maps x ≡ content maps y
    → seen maps (holding n x) ≡ seen maps (holding n y)
seen_holding maps zero x y h = refl
seen_holding maps (suc n) x y h = ap (λ (v : Value). Some (suc n, v)) h

-- of one amount, with one value
holdings_same : (maps : Maps) (m n : ℕ) (x y : Cell) → m ≡ n → content maps x ≡ content maps y
    → seen maps (holding m x) ≡ seen maps (holding n y)
holdings_same maps m n x y e h = ap (λ (k : ℕ). seen maps (holding k x)) e ∙ seen_holding maps n x y h

module _ (maps : Maps) (N : Array → List ℤ) where
  -- the ends of an event are names
  abbrev pub Named : Event → Type 0
  Named (AtArray t a ends) = (z : ℤ) → IsOneOf z ends → IsOneOf z (N (t, a))
  Named (AtField d o n) = Unit {0}
  Named (AtToken t d o) = Unit {0}
  Named (AtLock d o) = Unit {0}
  Named (AtInstance d n o vs) = Unit {0}
  Named (AtArrayLength t a) = Unit {0}

  -- a pick for a range has between names the value at the nearest one below
  abbrev pub Carried : ℕ → PvType → ℕ → Type 0
  Carried n t a = (p q : ℤ) → Nearest (N (t, a)) p q → maps n p ≡ maps n q

  abbrev pub Placed : Resource → Type 0
  Placed (InElement t a i) = IsOneOf i (N (t, a)) × IsOneOf (i +ℤ pos 1) (N (t, a))
  Placed (InField d o n) = Unit {0}
  Placed (OfToken t d o) = Unit {0}
  Placed (OfLock d o) = Unit {0}

  -- from one end of an event to another
  abbrev Ranged : PvType → ℕ → ℤ → ℤ → List ℤ → Type 0
  Ranged t a l h ends = Named (AtArray t a ends) × (IsOneOf l ends × IsOneOf h ends)

  abbrev pub EvenCells : Cells → Type 0
  EvenCells cells =
      (t : PvType) (a : ℕ) (p q : ℤ) → Nearest (N (t, a)) p q
      → content_of maps (cells (InElement t a p)) ≡ content_of maps (cells (InElement t a q))

  pub record Even (s : State) : Type 0 where
    pub held : (t : PvType) (a : ℕ) (p q : ℤ) → Nearest (N (t, a)) p q
        → seen maps (s.held (InElement t a p)) ≡ seen maps (s.held (InElement t a q))
    pub old : EvenCells s.old

  cells_even : (s : State) → Even s → EvenCells (cells_of s)
  cells_even s e t a p q n =
      cells_are maps (s.held (InElement t a p)) ∙ ap (option_map (λ x. x.1)) (e.held t a p q n)
      ∙ sym (cells_are maps (s.held (InElement t a q)))

  same_even : (s t : State) → t.held ≡ s.held → t.old ≡ s.old → Even s → Even t
  same_even s t eh eo e = record {
    held = subst (λ (h : Resource → Option Holding). (u : PvType) (a : ℕ) (p q : ℤ) → Nearest (N (u, a)) p q
        → seen maps (h (InElement u a p)) ≡ seen maps (h (InElement u a q))) (sym eh) e.held;
    old = subst EvenCells (sym eo) e.old;
  }

  -- one place: both are it, or none is
  apart : (x : Resource) → Placed x → (t : PvType) (a : ℕ) (p q : ℤ) → Nearest (N (t, a)) p q
      → (p ≡ q) ⊎ ((same_resource (InElement t a p) x ≡ false) × (same_resource (InElement t a q) x ≡ false))
  apart (InField d o f) pl t a p q n = inr (refl, refl)
  apart (OfToken k d o) pl t a p q n = inr (refl, refl)
  apart (OfLock d o) pl t a p q n = inr (refl, refl)
  apart (InElement u b i) pl t a p q n =
      by_cases (same_type t u)
      (λ et. by_cases (nat_eq a b)
      (λ ea. here (subst (λ (y : Array). IsOneOf i (N y)) (same et ea) pl.0)
      (subst (λ (y : Array). IsOneOf (i +ℤ pos 1) (N y)) (same et ea) pl.1))
      (λ ea. inr (
        and_false_two (same_type t u) _ (and_false_one (nat_eq a b) _ ea),
        and_false_two (same_type t u) _
            (and_false_one (nat_eq a b) _ ea),
      )))
      (λ et. inr (and_false_one (same_type t u) _ et, and_false_one (same_type t u) _ et))
    where
      same : same_type t u ≡ true → nat_eq a b ≡ true → ◌≡◌ {A = Array} (u, b) (t, a)
      same et ea = the_same t u a b et ea

      neither : (p ≡ i → ⊥) → (q ≡ i → ⊥)
          → (same_resource (InElement t a p) (InElement u b i) ≡ false) ×
          (same_resource (InElement t a q) (InElement u b i) ≡ false)
      neither f g = (
        and_false_two (same_type t u) _ (and_false_two (nat_eq a b) _ (differ p i f)),
        and_false_two (same_type t u) _
            (and_false_two (nat_eq a b) _ (differ q i g)),
      )

      here : IsOneOf i (N (t, a)) → IsOneOf (i +ℤ pos 1) (N (t, a))
          → (p ≡ q) ⊎ ((same_resource (InElement t a p) (InElement u b i) ≡ false) ×
          (same_resource (InElement t a q) (InElement u b i) ≡ false))
      here il ih = let w = n.below in by_lt_z p i
          (λ g. inr (neither (λ e. omega (arith, ints, e, g)) (λ e. omega (arith, ints, e, g, w))))
          (λ g. let x = n.none i il g in by_lt_z i p
          (λ k. let y = n.none (i +ℤ pos 1) ih (omega (arith, ints, k)) in
          inr (neither (λ e. omega (arith, ints, e, k)) (λ e. omega (arith, ints, e, y))))
          (λ k. inl (omega (arith, ints, w, x, g, k))))

  one_even : (s : State) (x : Resource) (h : Option Holding) → Placed x → Even s → Even (with_holding s x h)
  one_even s x h pl e = record {
    held = λ t a p q n. elim (apart x pl t a p q n) [
      | inl d ↦ ap (λ (z : ℤ). seen maps ((with_holding s x h).held (InElement t a z))) d
      | inr f ↦ ap (seen maps) (if_false (same_resource (InElement t a p) x) h (s.held (InElement t a p)) f.0) ∙ e.held t a p q n
          ∙ sym (ap (seen maps) (if_false (same_resource (InElement t a q) x) h (s.held (InElement t a q)) f.1))
    ];
    old = e.old;
  }

  -- ranges: both are in it, or none is
  both : (u : PvType) (b : ℕ) (l h : ℤ) (ends : List ℤ) → ((z : ℤ) → IsOneOf z ends → IsOneOf z (N (u, b))) → IsOneOf l ends
      → IsOneOf h ends → (t : PvType) (a : ℕ) (p q : ℤ) → Nearest (N (t, a)) p q
      → ((is_among u b l h (InElement t a p) ≡ true) ×
      ((is_among u b l h (InElement t a q) ≡ true) × (◌≡◌ {A = Array} (u, b) (t, a))))
      ⊎ ((is_among u b l h (InElement t a p) ≡ false) × (is_among u b l h (InElement t a q) ≡ false))
  both u b l h ends named il ih t a p q n =
      by_cases (same_type t u)
      (λ et. by_cases (nat_eq a b)
      (λ ea. let e = the_same t u a b et ea in
      let w = within_even (N (t, a)) l h p q n (subst (λ (y : Array). IsOneOf l (N y)) e (named l il))
      (subst (λ (y : Array). IsOneOf h (N y)) e (named h ih)) in
      by_cases (within l h p)
      (λ i. inl (and_both _ _ et (and_both _ _ ea i), (and_both _ _ et (and_both _ _ ea (sym w ∙ i)), e)))
      (λ i. inr (
        and_false_two (same_type t u) _ (and_false_two (nat_eq a b) _ i),
        and_false_two (same_type t u) _
            (and_false_two (nat_eq a b) _ (sym w ∙ i)),
      )))
      (λ ea. inr (
        and_false_two (same_type t u) _ (and_false_one (nat_eq a b) _ ea),
        and_false_two (same_type t u) _
            (and_false_one (nat_eq a b) _ ea),
      )))
      (λ et. inr (and_false_one (same_type t u) _ et, and_false_one (same_type t u) _ et))

  -- what is changed so in a range
  range_even : (s : State) (u : PvType) (b : ℕ) (l h : ℤ) (ends : List ℤ) → Ranged u b l h ends → (f : Resource → Option Holding)
      → ((p q : ℤ) → Nearest (N (u, b)) p q → seen maps (s.held (InElement u b p)) ≡ seen maps (s.held (InElement u b q))
      → seen maps (f (InElement u b p)) ≡ seen maps (f (InElement u b q)))
      → Even s → Even (record s { held = λ x. if is_among u b l h x then f x else s.held x })
  range_even s u b l h ends g f k e = record {
    held = λ t a p q n. elim (both u b l h ends g.0 g.1.0 g.1.1 t a p q n) [
      | inl w ↦ ap (seen maps) (if_true (is_among u b l h (InElement t a p)) (f (InElement t a p)) (s.held (InElement t a p)) w.0)
          ∙ subst (λ (y : Array). seen maps (f (InElement y.0 y.1 p)) ≡ seen maps (f (InElement y.0 y.1 q))) w.1.1
          (k p q (subst (λ (y : Array). Nearest (N y) p q) (sym w.1.1) n)
          (e.held u b p q (subst (λ (y : Array). Nearest (N y) p q) (sym w.1.1) n)))
          ∙ sym (ap (seen maps)
          (if_true (is_among u b l h (InElement t a q)) (f (InElement t a q)) (s.held (InElement t a q)) w.1.0))
      | inr w ↦ ap (seen maps)
          (if_false (is_among u b l h (InElement t a p)) (f (InElement t a p)) (s.held (InElement t a p)) w.0)
          ∙ e.held t a p q n
          ∙ sym (ap (seen maps)
          (if_false (is_among u b l h (InElement t a q)) (f (InElement t a q)) (s.held (InElement t a q)) w.1))
    ];
    old = e.old;
  }

  amounts_same : (o w : Option Holding) → seen maps o ≡ seen maps w → amount_held o ≡ amount_held w
  amounts_same o w h = amount_is maps o ∙ ap amount_seen h ∙ sym (amount_is maps w)

  elements_even : (s : State) (u : PvType) (b : ℕ) (l h : ℤ) (k : ℕ) (given : ℤ → Cell) (ends : List ℤ) → Ranged u b l h ends
      → ((p q : ℤ) → Nearest (N (u, b)) p q → content maps (given p) ≡ content maps (given q)) → Even s
      → Even (with_elements s u b l h k given)
  elements_even s u b l h k given ends r g e =
      range_even s u b l h ends r (λ x. holding (amount_of s x + k) (cell_among (s.held x) given x l))
      (λ p q n w. holdings_same maps _ _ _ _ (ap (λ (m : ℕ). m + k) (amounts_same _ _ w))
      (among_is maps (s.held (InElement u b p)) given u b p l ∙ ap (value_seen (content maps (given p))) w
      ∙ ap (λ (v : Value). value_seen v (seen maps (s.held (InElement u b q)))) (g p q n)
      ∙ sym (among_is maps (s.held (InElement u b q)) given u b q l)))
      e

  without_even : (s : State) (u : PvType) (b : ℕ) (l h : ℤ) (k : ℕ) (ends : List ℤ) → Ranged u b l h ends → Even s
      → Even (without_range s u b l h k)
  without_even s u b l h k ends r e =
      range_even s u b l h ends r (λ x. holding (amount_of s x - k) (cell_held (s.held x)))
      (λ p q n w. holdings_same maps _ _ _ _ (ap (λ (m : ℕ). m - k) (amounts_same _ _ w))
      (cell_is maps (s.held (InElement u b p)) ∙ ap (value_seen (content maps no_cell)) w
      ∙ sym (cell_is maps (s.held (InElement u b q)))))
      e

  abbrev pub invariant : Invariant
  invariant = record {
    states = Even;
    olds = EvenCells;
    named = Named;
    ranged = Carried;
    placed = Placed;
    readable = λ c. Unit {0};
    shape = IsShaped;
  }

  pub closed : IsClosed invariant
  closed = record {
    same = same_even;
    field = λ d o n. tt;
    token = λ t d o. tt;
    lock = λ d o. tt;
    element = λ t a i h. (h i (inl refl), h (i +ℤ pos 1) (inr (inl refl)));
    amount = λ s x n pl e. one_even s x (holding n (cell_held (s.held x))) pl e;
    value = λ s x n v pl e. one_even s x (holding n (plain_cell v)) pl e;
    range = λ s t a l h n ends r carried e.
        same_even (with_elements s t a l h n (FromSteps t s.steps)) (with_range s t a l h n) refl refl
        (elements_even s t a l h n (FromSteps t s.steps) ends r (λ p q k. ap (as_element t) (carried p q k)) e);
    without = without_even;
    elements = λ s t a l h n v ends r e. elements_even s t a l h n (λ i. plain_cell v) ends r (λ p q k. refl) e;
    nothing = λ s e. record { held = λ t a p q n. refl; old = e.old };
    remember = λ s e. record { held = e.held; old = cells_even s e };
    old = λ s e. e.old;
    cells = cells_even;
    none = λ t a p q n. refl;
    places = λ n e h. h.0;
    readable = λ cells h x pl c e. tt;
  }

  pub empty_even : Even empty_state
  empty_even = record { held = λ t a p q n. refl; old = λ t a p q n. refl }
