-- The picks for ranges that a lazy run takes are numbered in their order.
use Rattle.std.proofs.Common.{◌≡◌, ℕ, zero, suc, ℤ, Bool, true, false, if◌then◌else◌, Option, Some, None, List, [], ◌∷◌, ◌++◌, length, refl, ap, sym, subst, ◌∙◌, ◌⊎◌, inl, inr}
use Rattle.std.specs.Prelude.{nat_lt, slice_get}
use Rattle.pv_ast.specs.declared.PvType.{PvType}
use Rattle.pv_values.specs.declared.value.Value.{Value}
use Rattle.pv_picks.specs.declared.evidence.Pick.{Pick}
use Rattle.pv_picks.specs.declared.evidence.Pick.TheVariants.{Number, Turn, Steps}
use Rattle.pv_picks.specs.declared.evidence.Entry.{Entry}
use Rattle.pv_picks.specs.Plain.Core.{Operation}
use Rattle.pv_picks.specs.Formulas.Values.{width}
use Rattle.pv_picks.specs.Judge.States.{Cell, Written, FromSteps, as_element}
use Rattle.pv_picks.specs.Judge.Settings.{Setting, Event, AtField, AtToken, AtLock, AtInstance, AtArray, AtArrayLength, Known}
use Rattle.pv_picks.specs.Judge.Runs.{Maps, content, value_of_operation}
use Rattle.pv_picks.specs.Lazy.Runs.{taken_in, ranged, Memory, RangeOf, Final, final, Outcome, at_end, Unfit, OneNumber, OneTurn, Source, Lazily, lazy, element_or, operation_or, value_read, value_used, with_event, reads_none, lazy_event, known_if}
use Rattle.judge_laws.proofs.Lookups.{read_right, used_right, fits_more}
use Rattle.judge_facts.specs.Finite.{IsOneOf}
use Rattle.judge_facts.specs.Shapes.{IsRepeatable}
use Rattle.judge_facts.proofs.Keeping.{Invariant, IsKept, IsClosed, Kept}
use Rattle.judge_facts.proofs.Ways as ways
use Rattle.judge_facts.proofs.Lockstep as lockstep

-- each has its place for its number
abbrev pub Numbered : List RangeOf → Type 0
Numbered xs = (i : ℕ) (x : RangeOf) → slice_get xs i ≡ Some x → x.number ≡ i

some_same : (x y : RangeOf) → Some x ≡ Some y → x ≡ y
some_same x y h = cc h

place_of : (xs : List RangeOf) (x : RangeOf) → IsOneOf x xs → (i : ℕ) × (slice_get xs i ≡ Some x)
place_of [] x h = absurd h
place_of (y ∷ xs) x (inl e) = (0, ap (λ (z : RangeOf). Some z) (sym e))
place_of (y ∷ xs) x (inr h) = let p = place_of xs x h in (suc p.0, p.1)

pub one_number : (xs : List RangeOf) → Numbered xs → (x y : RangeOf) → IsOneOf x xs → IsOneOf y xs → x.number ≡ y.number → x ≡ y
one_number xs h x y i j e =
    let p = place_of xs x i in let q = place_of xs y j in
    let same : p.0 ≡ q.0 = sym (h p.0 x p.1) ∙ e ∙ h q.0 y q.1 in
    some_same x y (sym p.1 ∙ ap (λ (n : ℕ). slice_get xs n) same ∙ q.1)

length_more : (xs : List RangeOf) (x : RangeOf) → length (xs ++ x ∷ []) ≡ suc (length xs)
length_more [] x = refl
length_more (y ∷ xs) x = ap suc (length_more xs x)

get_last : (xs : List RangeOf) (y : RangeOf) (i : ℕ) (x : RangeOf) → slice_get (xs ++ y ∷ []) i ≡ Some x
    → (slice_get xs i ≡ Some x) ⊎ ((length xs ≡ i) × (y ≡ x))
get_last [] y zero x e = inr (refl, some_same y x e)
get_last [] y (suc i) x e = absurd (cc e)
get_last (z ∷ xs) y zero x e = inl e
get_last (z ∷ xs) y (suc i) x e = elim (get_last xs y i x e) [ inl h ↦ inl h | inr h ↦ inr (ap suc h.0, h.1) ]

numbered_more : (xs : List RangeOf) (y : RangeOf) → y.number ≡ length xs → Numbered xs → Numbered (xs ++ y ∷ [])
numbered_more xs y e h i x g = elim (get_last xs y i x g) [
  | inl k ↦ h i x k
  | inr k ↦ ap (λ (z : RangeOf). z.number) (sym k.1) ∙ e ∙ k.0
]

module _ (maps : Maps) (table : List Entry) where
  abbrev S : Source (List Pick) Final
  S = ways.S maps table

  abbrev L : Setting (Lazily (List Pick) Final)
  L = ways.L maps table

  abbrev Lazy : Type 0
  Lazy = Lazily (List Pick) Final

  abbrev Fit : Memory → Type 0
  Fit m = ways.Fit maps table m

  abbrev Live : Final → Type 0
  Live f = lockstep.Live maps table f

  -- from a memory with so many ranges
  abbrev pub Counts : ℕ → Lazy → Type 0
  Counts c y = (m : Memory) (ps : List Pick) → Fit m → length m.ranges ≡ c → Numbered m.ranges → Live (y m ps).end
      → Numbered (y m ps).end.ranges

  way_counts : (c : ℕ) (m : Memory) (Q : Memory → Type 0) (ps : List Pick) (y : Lazy) (o : Final) → ways.Way maps table Q ps y o
      → ((n : Memory) → Q n → n.ranges ≡ m.ranges) → Counts c y → length m.ranges ≡ c → Numbered m.ranges → Live o
      → Numbered o.ranges
  way_counts c m Q ps y o (inl w) f h e n l =
      let same = f w.0 w.1.1.0 in
      subst (λ (z : Final). Numbered z.ranges) (sym w.1.1.1)
      (h w.0 ps w.1.0 (ap (λ (xs : List RangeOf). length xs) same ∙ e) (subst Numbered (sym same) n) (subst Live w.1.1.1 l))
  way_counts c m Q ps y o (inr b) f h e n l = absurd (l.0 b)

  pick_counts : (c : ℕ) (ty : PvType) (f : ℤ → Lazy) → ((z : ℤ) → Counts c (f z)) → Counts c (L.pick ty f)
  pick_counts c ty f h m [] r e n l = absurd (l.1 refl)
  pick_counts c ty f h m (Number z ∷ ps) r e n l = h z (taken_in (OneNumber z) m) ps r e n l
  pick_counts c ty f h m (Turn t ∷ ps) r e n l = absurd (l.1 refl)
  pick_counts c ty f h m (Steps x ∷ ps) r e n l = absurd (l.1 refl)

  by_turn : (b : Bool) (m : Memory) (y : Outcome Final) → (Live y.end → Numbered y.end.ranges)
      → Live (if b then y else at_end (final Unfit m)).end → Numbered (if b then y else at_end (final Unfit m)).end.ranges
  by_turn true m y h l = h l
  by_turn false m y h l = absurd (l.1 refl)

  turn_counts : (c : ℕ) (f : ℕ → Lazy) → ((t : ℕ) → Counts c (f t)) → Counts c (L.turn f)
  turn_counts c f h m [] r e n l = absurd (l.1 refl)
  turn_counts c f h m (Number z ∷ ps) r e n l = absurd (l.1 refl)
  turn_counts c f h m (Turn t ∷ ps) r e n l =
      by_turn (nat_lt t 3) (taken_in (OneTurn t) m) (f t (taken_in (OneTurn t) m) ps)
      (λ k. h t (taken_in (OneTurn t) m) ps r e n k) l
  turn_counts c f h m (Steps x ∷ ps) r e n l = absurd (l.1 refl)

  steps_count : (c : ℕ) (t : PvType) (a : ℕ) (y : Lazy) → (Unit {0} → Counts (suc c) y) → Counts c (L.steps c t a y)
  steps_count c t a y h m [] r e n l = absurd (l.1 refl)
  steps_count c t a y h m (Number z ∷ ps) r e n l = absurd (l.1 refl)
  steps_count c t a y h m (Turn u ∷ ps) r e n l = absurd (l.1 refl)
  steps_count c t a y h m (Steps z ∷ ps) r e n l =
      let x : RangeOf = record { number = c; type = t; array = a } in
      h tt (ranged c t a m) ps r (length_more m.ranges x ∙ ap suc e) (numbered_more m.ranges x (sym e) n) l

  operation_counts : (c : ℕ) (x : Option ℤ) (o : Operation) (a b : ℤ) (f : ℤ → Lazy)
      → Counts c (f (value_of_operation table o a b))
      → (m : Memory) (ps : List Pick) → Fit m → ((z : ℤ) → x ≡ Some z → value_of_operation table o a b ≡ z) → length m.ranges ≡ c
      → Numbered m.ranges → Live (operation_or final S x o a b f m ps).end
      → Numbered (operation_or final S x o a b f m ps).end.ranges
  operation_counts c (Some z) o a b f h m ps r k e n l =
      subst (λ (w : ℤ). Live (f w m ps).end → Numbered (f w m ps).end.ranges) (k z refl) (λ j. h m ps r e n j) l
  operation_counts c None o a b f h m ps r k e n l =
      h (record m { uses = m.uses ++ record { used = (o, a, b); value = value_of_operation table o a b } ∷ [] }) ps
      (r.0, fits_more table m.uses _ r.1 refl) e n l

  element_counts : (c : ℕ) (o : Option ℤ) (ty : PvType) (k : ℕ) (i : ℤ) (f : ℤ → Lazy) → Counts c (f (maps k i))
      → (m : Memory) (ps : List Pick)
      → Fit m → ((z : ℤ) → o ≡ Some z → maps k i ≡ z) → length m.ranges ≡ c → Numbered m.ranges
      → Live (element_or final S o ty k i f m ps).end → Numbered (element_or final S o ty k i f m ps).end.ranges
  element_counts c (Some z) ty k i f h m ps r g e n l =
      subst (λ (w : ℤ). Live (f w m ps).end → Numbered (f w m ps).end.ranges) (g z refl) (λ j. h m ps r e n j) l
  element_counts c None ty k i f h m ps r g e n l =
      h (record m { reads = record { number = k; index = i; value = maps k i } ∷ m.reads }) ps ((refl, r.0), r.1) e n l

  reading_counts : (c : ℕ) (x : Cell) (f : Value → Lazy) → Unit {0} → Counts c (f (content maps x)) → Counts c (L.reading x f)
  reading_counts c (Written v) f u h m ps r e n l = h m ps r e n l
  reading_counts c (FromSteps t k i) f u h m ps r e n l =
      element_counts c (value_read m.reads k i) t k i (λ z. f (as_element t z)) h m ps r
      (λ z g. read_right maps m.reads k i z r.0 g) e n l

  noticing_counts : (c : ℕ) (e : Event) (y : Lazy) → (Unit {0} → Counts c y) → Counts c (lazy_event final S e y)
  noticing_counts c (AtField d o f) y h m ps r e n l = h tt (record m { events = with_event (AtField d o f) m.events }) ps r e n l
  noticing_counts c (AtToken k d o) y h m ps r e n l = h tt (record m { events = with_event (AtToken k d o) m.events }) ps r e n l
  noticing_counts c (AtLock d o) y h m ps r e n l = h tt (record m { events = with_event (AtLock d o) m.events }) ps r e n l
  noticing_counts c (AtInstance d k o vs) y h m ps r e n l =
      h tt (record m { events = with_event (AtInstance d k o vs) m.events }) ps r e n l
  noticing_counts c (AtArrayLength t a) y h m ps r e n l =
      h tt (record m { events = with_event (AtArrayLength t a) m.events }) ps r e n l
  noticing_counts c (AtArray t a ends) y h m ps r e n l =
      way_counts c m (ways.Ended maps table t a ends m) ps y _ (ways.ends_way maps table t a ends y m ps r) (λ o q. q.0.1)
      (h tt) e n l

  known_counts : (c : ℕ) (b : Bool) (k : Known) (y : Lazy) → Counts c y → Counts c (known_if final S b k y)
  known_counts c true k y h m ps r e n l =
      way_counts c m _ ps y _ (ways.shown_way maps table k (width k.low k.high) y m ps r) (λ o q. q.0.1.1) h e n l
  known_counts c false k y h m ps r e n l =
      way_counts c m (ways.Joined maps table k m) ps y _ (ways.joined_way maps table k y m ps r) (λ o q. q.1.1) h e n l

  abbrev pub invariant : Invariant
  invariant = record {
    states = λ s. Unit {0};
    olds = λ cells. Unit {0};
    named = λ e. Unit {0};
    ranged = λ n t a. Unit {0};
    placed = λ x. Unit {0};
    readable = λ x. Unit {0};
    shape = IsRepeatable;
  }

  pub closed : IsClosed invariant
  closed = record {
    same = λ s t e f h. tt;
    field = λ d o n. tt;
    token = λ t d o. tt;
    lock = λ d o. tt;
    element = λ t a i h. tt;
    amount = λ s x n pl h. tt;
    value = λ s x n v pl h. tt;
    range = λ s t a l u n ends r ranged h. tt;
    without = λ s t a l u n ends r h. tt;
    elements = λ s t a l u n v ends r h. tt;
    nothing = λ s h. tt;
    remember = λ s h. tt;
    old = λ s h. tt;
    cells = λ s h. tt;
    none = tt;
    places = λ n e h. h.0.0;
    readable = λ cells h x pl c e. tt;
  }

  pub kept : IsKept maps table (lazy final S) Counts invariant
  kept = record {
    finished = λ c m ps r e n l. n;
    blocked = λ c m ps r e n l. absurd (l.0 refl);
    failed = λ c check span m ps r e n l. n;
    unfit = λ c m ps r e n l. absurd (l.1 refl);
    pick = pick_counts;
    turn = turn_counts;
    steps = steps_count;
    using = λ c o a b f h m ps r e n l. operation_counts c (value_used m.uses (o, a, b)) o a b f h m ps r
        (λ z k. used_right table m.uses (o, a, b) z r.1 k) e n l;
    comparing = λ c a b y h m ps r e n l. h m ps r e n l;
    matching = λ c v w y h m ps r e n l. h m ps r e n l;
    deciding = λ c b y h m ps r e n l. h m ps r e n l;
    noticing = noticing_counts;
    reading = reading_counts;
    knowing = λ first s b name e x parts y i o same sh made looked h. known_counts s.steps (reads_none parts) _ y h;
  }

  abbrev pub runs_count : Kept maps table (lazy final S) Counts
  runs_count = record { invariant = invariant; is_kept = kept; closed = closed }
