-- Tests of facts in a lazy run: the run goes on with its rest, and what was tested goes where the judge tests it, or it blocks.
use Rattle.std.proofs.Common.{◌≡◌, ℕ, zero, suc, ℤ, pos, Bool, true, false, not, ◌&&◌, ◌||◌, if◌then◌else◌, Option, Some, None, List, [], ◌∷◌, ◌++◌, refl, ap, sym, subst, ◌∙◌, ◌⊎◌, inl, inr}
use Rattle.std.specs.Prelude.{nat_eq, ◌+ℤ◌, slice_get}
use Rattle.pv_base.specs.declared.Span.{Span}
use Rattle.pv_ast.specs.declared.PvType.{PvType}
use Rattle.pv_values.specs.declared.value.Value.{Value}
use Rattle.pv_values.specs.Heaps.{same_number}
use Rattle.pv_picks.specs.declared.evidence.Pick.{Pick}
use Rattle.pv_picks.specs.declared.evidence.Entry.{Entry}
use Rattle.pv_picks.specs.Plain.Core.{Operation, Manner, Plain, Tabled}
use Rattle.pv_picks.specs.Formulas.Values.{truth_in, within}
use Rattle.pv_picks.specs.Judge.States.{State, Cell, Cells, Written, FromSteps, as_element, InField, InElement, cells_of}
use Rattle.pv_picks.specs.Judge.Settings.{Setting, Event, AtField, AtArray, AtArrayLength, ArrayPart, Known}
use Rattle.pv_picks.specs.Judge.Repetitions.{bind_at, shifted, or_blocked, operation_tested, test_reader, test_at, test_from}
use Rattle.pv_picks.specs.Judge.Runs.{Blocked, Judged, Maps, content, value_of_operation, judging_tests}
use Rattle.pv_picks.specs.Lazy.Patterns.{Array, named_on, lowered, array_in, positions_of_parts, positions_of}
use Rattle.pv_picks.specs.Lazy.Runs.{Memory, Final, final, Ends, Source, Lazily, testing, from_picks, element_or, operation_or, value_read, value_used, quieted, with_event, remember_test, is_due, was_tested, join_fact, part_events, name_ends, test_once, test_within, test_facts, test_all, first_shown}
use Rattle.judge_laws.specs.Drawing.{FitReads, FitsUses}
use Rattle.judge_laws.specs.Options.{or_none}
use Rattle.judge_facts.specs.Finite.{IsOneOf, Goes}
use Rattle.pv_picks.proofs.Sames.{front, back, numbers_same, naturals_same}
use Rattle.pv_picks.proofs.Readers.{ReadersRelated, evaluate_related}
use Rattle.judge_laws.proofs.Lookups.{read_right, used_right, fits_more}
use Rattle.judge_laws.proofs.Judging as judging
use Rattle.judge_facts.proofs.Naming.{event_names, Alike, alike_same, alike_on, Still, still_same, still_on, event_still, Grew, grew_same, grew_on, alike_grew, event_grew, AllNamed, PartsNamed}

some_same : {A : Type 0} (x y : A) → Some x ≡ Some y → x ≡ y
some_same x y h = cc h

due_not : (a b : Bool) → (a && not b) ≡ false → a ≡ true → b ≡ true
due_not true true h k = refl
due_not true false h k = absurd (cc h)
due_not false b h k = absurd (cc k)

get_more : {A : Type 0} (xs : List A) (x y : A) (n : ℕ) → slice_get xs n ≡ Some x → slice_get (xs ++ y ∷ []) n ≡ Some x
get_more [] x y n h = absurd (cc h)
get_more (z ∷ zs) x y zero h = h
get_more (z ∷ zs) x y (suc n) h = get_more zs x y n h

-- the facts stand in the list from this place on
abbrev StandAt : List Known → ℕ → List Known → Type 0
StandAt known n [] = Unit {0}
StandAt known n (k ∷ ks) = (slice_get known n ≡ Some k) × StandAt known (suc n) ks

stand_more : (known : List Known) (x : Known) (n : ℕ) (ks : List Known) → StandAt known n ks → StandAt (x ∷ known) (suc n) ks
stand_more known x n [] h = tt
stand_more known x n (k ∷ ks) h = (h.0, stand_more known x (suc n) ks h.1)

stand_all : (ks : List Known) → StandAt ks 0 ks
stand_all [] = tt
stand_all (k ∷ ks) = (refl, stand_more ks k 0 ks (stand_all ks))

module _ (maps : Maps) (table : List Entry) where
  abbrev pub J : Setting Judged
  J = judging_tests maps table

  abbrev pub S : Source (List Pick) Final
  S = from_picks maps table

  abbrev pub L : Setting (Lazily (List Pick) Final)
  L = testing final S

  abbrev pub Lazy : Type 0
  Lazy = Lazily (List Pick) Final

  abbrev pub Fit : Memory → Type 0
  Fit m = FitReads maps m.reads × FitsUses table m.uses

  -- a run that goes on with a rest, from a memory that fits and of which this holds, or blocks
  abbrev pub Way : (Memory → Type 0) → List Pick → Lazy → Final → Type 0
  Way Q ps y o = ((n : Memory) × (Fit n × (Q n × (o ≡ (y n ps).end)))) ⊎ (o.end ≡ Ends Blocked)

  -- one way after another
  ways : (Q R : Memory → Type 0) (T : Memory → Memory → Type 0) (ps : List Pick) (z y : Lazy) (o : Final)
      → ((n : Memory) → Q n → (u : Memory) → T n u → R u) → Way Q ps z o
      → ((n : Memory) → Fit n → Way (T n) ps y (z n ps).end) → Way R ps y o
  ways Q R T ps z y o c (inr b) f = inr b
  ways Q R T ps z y o c (inl w) f = elim (f w.0 w.1.0) [
    | inl v ↦ inl (v.0, (v.1.0, (c w.0 w.1.1.0 v.0 v.1.1.0, w.1.1.1 ∙ v.1.1.1)))
    | inr b ↦ inr (ap (λ (f : Final). f.end) w.1.1.1 ∙ b)
  ]

  way_of : (Q R : Memory → Type 0) (ps : List Pick) (y : Lazy) (o : Final) → ((n : Memory) → Q n → R n) → Way Q ps y o
      → Way R ps y o
  way_of Q R ps y o f (inl w) = inl (w.0, (w.1.0, (f w.0 w.1.1.0, w.1.1.1)))
  way_of Q R ps y o f (inr b) = inr b

  -- One test

  abbrev truth_of : Option Value → Bool
  truth_of None = false
  truth_of (Some v) = truth_in v

  abbrev Passed : Memory → Option Value → Memory → Type 0
  Passed from o n = Still from n × (truth_of o ≡ true)

  abbrev Reaches : Lazy → Memory → Option Value → Lazy → Type 0
  Reaches y from o l = (m : Memory) (ps : List Pick) → Fit m → Still from m → Way (Passed from o) ps y (l m ps).end

  module _ (y : Lazy) (from : Memory) where
    abbrev R : Option Value → Lazy → Type 0
    R = Reaches y from

    element_reaches : (o : Option ℤ) (ty : PvType) (n : ℕ) (i : ℤ) (f : ℤ → Option Value) (g : ℤ → Lazy)
        → ((z : ℤ) → R (f z) (g z))
        → (m : Memory) (ps : List Pick) → Fit m → Still from m → ((z : ℤ) → o ≡ Some z → maps n i ≡ z)
        → Way (Passed from (f (maps n i))) ps y (element_or final S o ty n i g m ps).end
    element_reaches (Some z) ty n i f g h m ps r a e =
        subst (λ (w : ℤ). Way (Passed from (f w)) ps y (g z m ps).end) (sym (e z refl)) (h z m ps r a)
    element_reaches None ty n i f g h m ps r a e = h (maps n i) _ ps ((refl, r.0), r.1) a

    reading_reaches : (c : Cell) (f : Value → Option Value) (g : Value → Lazy) → ((v : Value) → R (f v) (g v))
        → R (f (content maps c)) (L.reading c g)
    reading_reaches (Written v) f g h m ps r a = h v m ps r a
    reading_reaches (FromSteps type n i) f g h m ps r a =
        element_reaches (value_read m.reads n i) type n i (λ z. f (as_element type z)) (λ z. g (as_element type z))
        (λ z. h (as_element type z)) m ps r a (λ z e. read_right maps m.reads n i z r.0 e)

    operation_reaches : (x : Option ℤ) (o : Operation) (b c : ℤ) (f : ℤ → Option Value) (g : ℤ → Lazy)
        → ((z : ℤ) → R (f z) (g z)) → (m : Memory) (ps : List Pick) → Fit m → Still from m
        → ((z : ℤ) → x ≡ Some z → value_of_operation table o b c ≡ z)
        → Way (Passed from (f (value_of_operation table o b c))) ps y (operation_or final S x o b c g m ps).end
    operation_reaches (Some z) o b c f g h m ps r a e =
        subst (λ (w : ℤ). Way (Passed from (f w)) ps y (g z m ps).end) (sym (e z refl)) (h z m ps r a)
    operation_reaches None o b c f g h m ps r a e =
        h (value_of_operation table o b c) _ ps (r.0, fits_more table m.uses _ r.1 refl) a

    using_reaches : (m : Manner) (o : Operation) (b c : ℤ) (p : Span) (f : ℤ → Option Value) (g : ℤ → Lazy)
        → ((z : ℤ) → R (f z) (g z)) → R (judging.purely maps table m o b c p f) (operation_tested L m o b c p g)
    using_reaches Plain o b c p f g h m ps r a = h _ m ps r a
    using_reaches Tabled o b c p f g h m ps r a =
        operation_reaches (value_used m.uses (o, b, c)) o b c f g h m ps r a (λ z e. used_right table m.uses (o, b, c) z r.1 e)

    none_reaches : {A : Type 0} (o : Option A) (f : A → Option Value) (g : A → Lazy) → ((x : A) → R (f x) (g x))
        → R (or_none o f) (or_blocked L o g)
    none_reaches None f g h m ps r a = inr refl
    none_reaches (Some x) f g h m ps r a = h x m ps r a

    length_reaches : (b : Bool) (f : Option Value) (g : Lazy) → R f g → R (if b then None else f) (if b then L.blocked else g)
    length_reaches true f g h m ps r a = inr refl
    length_reaches false f g h m ps r a = h m ps r a

  reader_reaches : (y : Lazy) (from : Memory) (s : State) (cells : Cells)
      → ReadersRelated (Reaches y from) (judging.pure maps table s cells) (test_reader L s cells)
  reader_reaches y from s cells = record {
    field = λ c o n p f g h m ps r a. let u : Memory = record m { events = with_event (AtField c o n) m.events } in
        none_reaches y from (cells (InField c o n)) _ _ (λ x. reading_reaches y from x f g h) u ps r
        (still_on from m u a (event_still m (AtField c o n) (λ arrays. refl)));
    element = λ t x i p f g h. none_reaches y from (cells (InElement t x i)) _ _ (λ z. reading_reaches y from z f g h);
    length = λ t x p f g h. length_reaches y from (nat_eq x 0) _ _ (λ m ps r a.
        let u : Memory = record m { events = with_event (AtArrayLength t x) m.events } in
        none_reaches y from (s.lengths t x) f g h u ps r
        (still_on from m u a (event_still m (AtArrayLength t x) (λ arrays. refl))));
    operation = using_reaches y from;
    comparing = λ a b u w h. h;
    matching = λ v w u x h. h;
    deciding = λ b u w h. h;
  }

  test_reaches : (k : Known) (i : ℤ) (y : Lazy) (from : Memory)
      → Reaches y from (judging.result_of maps table k i) (test_at L k i y)
  test_reaches k i y from =
      evaluate_related (Reaches y from) (judging.pure maps table k.state (cells_of k.state))
      (test_reader L k.state (cells_of k.state))
      (judging.pure maps table k.state k.bind.old) (test_reader L k.state k.bind.old)
      (reader_reaches y from k.state (cells_of k.state)) (reader_reaches y from k.state k.bind.old)
      (bind_at k.bind k.name i).scene k.fact Some (λ v. L.deciding (truth_in v) (if truth_in v then y else L.blocked))
      (λ v m ps r a. go (truth_in v) m ps r a)
    where
      go : (b : Bool) (m : Memory) (ps : List Pick) → Fit m → Still from m
          → Way (λ n. Still from n × (b ≡ true)) ps y ((if b then y else L.blocked) m ps).end
      go true m ps r a = inl (m, (r, ((a, refl), refl)))
      go false m ps r a = inr refl

  true_goes : (k : Known) (i : ℤ) → truth_of (judging.result_of maps table k i) ≡ true → Goes maps table k i
  true_goes k i h x ps = go (judging.result_of maps table k i) (judging.test_comes maps table k i x ps) h
    where
      if_true : (b : Bool) → test_at J k i x ps ≡ (if b then x else (λ qs. Blocked)) ps → b ≡ true → test_at J k i x ps ≡ x ps
      if_true true e h = e
      if_true false e h = absurd (cc h)

      go : (o : Option Value) → test_at J k i x ps ≡ judging.comes_to maps table o x ps → truth_of o ≡ true
          → test_at J k i x ps ≡ x ps
      go None e h = absurd (cc h)
      go (Some v) e h = if_true (truth_in v) e h

  -- a test goes on where the judge's goes, or blocks
  test_way : (k : Known) (i : ℤ) (y : Lazy) (m : Memory) (ps : List Pick) → Fit m
      → Way (λ n. Still m n × Goes maps table k i) ps y (test_at L k i y m ps).end
  test_way k i y m ps r =
      way_of _ _ ps y _ (λ n q. (q.0, true_goes k i q.1)) (test_reaches k i y m m ps r (still_same m))

  -- What was tested

  -- each test that was made goes
  abbrev pub Gone : Memory → Type 0
  Gone m = (n : ℕ) (i : ℤ) → was_tested n i m.tested ≡ true → (k : Known) × ((slice_get m.known n ≡ Some k) × Goes maps table k i)

  abbrev GoneIn : List Known → List (ℕ × ℤ) → Type 0
  GoneIn known tested =
      (n : ℕ) (i : ℤ) → was_tested n i tested ≡ true → (k : Known) × ((slice_get known n ≡ Some k) × Goes maps table k i)

  pub gone_same : (m n : Memory) → n.known ≡ m.known → n.tested ≡ m.tested → Gone m → Gone n
  gone_same m n e f g =
      subst (λ (ks : List Known). GoneIn ks n.tested) (sym e) (subst (λ (ts : List (ℕ × ℤ)). GoneIn m.known ts) (sym f) g)

  gone_one : (known : List Known) (tested : List (ℕ × ℤ)) (p : ℕ) (i : ℤ) (k : Known) → slice_get known p ≡ Some k
      → Goes maps table k i → GoneIn known tested → GoneIn known ((p, i) ∷ tested)
  gone_one known tested p i k a g h n j e = go (nat_eq p n && same_number i j) refl e
    where
      go : (b : Bool) → (nat_eq p n && same_number i j) ≡ b → (b || was_tested n j tested) ≡ true
          → (x : Known) × ((slice_get known n ≡ Some x) × Goes maps table x j)
      go true s u = (
        k,
        (
          subst (λ (z : ℕ). slice_get known z ≡ Some k) (naturals_same p n (front _ _ s)) a,
          subst (λ (z : ℤ). Goes maps table k z) (numbers_same i j (back (nat_eq p n) _ s)) g,
        ),
      )
      go false s u = h n j u

  abbrev GoesIf : Known → ℤ → Type 0
  GoesIf k i = within k.low k.high i ≡ true → Goes maps table k i

  abbrev GoesAt : Known → List ℤ → Type 0
  GoesAt k [] = Unit {0}
  GoesAt k (i ∷ is) = GoesIf k i × GoesAt k is

  once_way : (p : ℕ) (k : Known) (i : ℤ) (y : Lazy) (m : Memory) (ps : List Pick) → Fit m
      → Way (λ n. Alike m n × (Gone m → slice_get m.known p ≡ Some k → Gone n × GoesIf k i)) ps y
      (test_once final S p k i y m ps).end
  once_way p k i y m ps r = go (is_due final S p k i m) refl
    where
      go : (b : Bool) → is_due final S p k i m ≡ b
          → Way (λ n. Alike m n × (Gone m → slice_get m.known p ≡ Some k → Gone n × GoesIf k i)) ps y
          ((if b then remember_test p i (test_at L k i y) else y) m ps).end
      go true e = let u : Memory = record m { tested = (p, i) ∷ m.tested } in
          way_of _ _ ps y _
          (λ n q. (q.0.1, λ g a. (gone_same u n q.0.1.0 q.0.0 (gone_one m.known m.tested p i k a q.1 g), λ w. q.1)))
          (test_way k i y u ps r)
      go false e = inl (
        m,
        (
          r,
          (
            (
              alike_same m,
              λ g a. (
                g,
                λ w.
                    let x = g p i (due_not (within k.low k.high i) (was_tested p i m.tested) e w) in
                    subst (λ (z : Known). Goes maps table z i) (some_same x.0 k (sym x.1.0 ∙ a)) x.1.1,
              ),
            ),
            refl,
          ),
        ),
      )

  within_way : (p : ℕ) (k : Known) (is : List ℤ) (y : Lazy) (m : Memory) (ps : List Pick) → Fit m
      → Way (λ n. Alike m n × (Gone m → slice_get m.known p ≡ Some k → Gone n × GoesAt k is)) ps y
      (test_within final S p k is y m ps).end
  within_way p k [] y m ps r = inl (m, (r, ((alike_same m, λ g a. (g, tt)), refl)))
  within_way p k (i ∷ is) y m ps r =
      ways (λ n. Alike m n × (Gone m → slice_get m.known p ≡ Some k → Gone n × GoesIf k i))
      (λ n. Alike m n × (Gone m → slice_get m.known p ≡ Some k → Gone n × GoesAt k (i ∷ is)))
      (λ n u. Alike n u × (Gone n → slice_get n.known p ≡ Some k → Gone u × GoesAt k is)) ps (test_within final S p k is y) y _
      (λ n q u t. (
        alike_on m n u q.0 t.0,
        λ g a.
            let one = q.1 g a in
            let more = t.1 one.0 (subst (λ (ks : List Known). slice_get ks p ≡ Some k) (sym q.0.0) a) in
            (more.0, (one.1, more.1)),
      ))
      (once_way p k i (test_within final S p k is y) m ps r) (λ n s. within_way p k is y n ps s)

  abbrev AllGo : (Known → List ℤ) → List Known → Type 0
  AllGo names [] = Unit {0}
  AllGo names (k ∷ ks) = GoesAt k (names k) × AllGo names ks

  facts_way : (p : ℕ) (ks : List Known) (seen : Memory) (y : Lazy) (m : Memory) (ps : List Pick) → Fit m
      → Way (λ n. Alike m n × (Gone m → StandAt m.known p ks → Gone n × AllGo (positions_of seen.known seen.events) ks)) ps y
      (test_facts final S p ks seen y m ps).end
  facts_way p [] seen y m ps r = inl (m, (r, ((alike_same m, λ g a. (g, tt)), refl)))
  facts_way p (k ∷ ks) seen y m ps r = let names = positions_of seen.known seen.events in
      ways (λ n. Alike m n × (Gone m → slice_get m.known p ≡ Some k → Gone n × GoesAt k (names k)))
      (λ n. Alike m n × (Gone m → StandAt m.known p (k ∷ ks) → Gone n × AllGo names (k ∷ ks)))
      (λ n u. Alike n u × (Gone n → StandAt n.known (suc p) ks → Gone u × AllGo names ks)) ps
      (test_facts final S (suc p) ks seen y) y _
      (λ n q u t. (
        alike_on m n u q.0 t.0,
        λ g a.
            let one = q.1 g a.0 in
            let more = t.1 one.0 (subst (λ (xs : List Known). StandAt xs (suc p) ks) (sym q.0.0) a.1) in
            (more.0, (one.1, more.1)),
      ))
      (within_way p k (names k) (test_facts final S (suc p) ks seen y) m ps r) (λ n s. facts_way (suc p) ks seen y n ps s)

  -- Facts at names

  all_same : (names others : Known → List ℤ) → ((k : Known) → names k ≡ others k) → (ks : List Known) → AllGo names ks
      → AllGo others ks
  all_same names others e [] h = tt
  all_same names others e (k ∷ ks) h =
      (subst (λ (xs : List ℤ). GoesAt k xs) (e k) h.0, all_same names others e ks h.1)

  -- each fact goes at each name of its range
  abbrev pub Tested : List Known → List Event → Type 0
  Tested known events = AllGo (positions_of known events) known

  positions_same : (ks : List Known) (es ds : List Event) → ((a : Array) → named_on ks es a ≡ named_on ks ds a)
      → (parts : List ArrayPart) → positions_of_parts ks es parts ≡ positions_of_parts ks ds parts
  positions_same ks es ds h [] = refl
  positions_same ks es ds h (part ∷ parts) = ap (lowered part.shift) (h (array_in part))

  tested_alike : (m n : Memory) → Alike m n → Tested m.known m.events → Tested n.known n.events
  tested_alike m n a h = subst (λ (ks : List Known). Tested ks n.events) (sym a.0)
      (all_same (positions_of m.known m.events) (positions_of m.known n.events)
      (λ k. positions_same m.known m.events n.events (λ x. sym (a.2 m.known x)) k.parts) m.known h)

  -- all that was to be tested was tested, and goes
  abbrev pub Sound : Memory → Type 0
  Sound m = Gone m × Tested m.known m.events

  pub still_sound : (m n : Memory) → Still m n → Sound m → Sound n
  still_sound m n a h = (gone_same m n a.1.0 a.0 h.0, tested_alike m n a.1 h.1)

  pub all_way : (y : Lazy) (m : Memory) (ps : List Pick) → Fit m
      → Way (λ n. Alike m n × (Gone m → Sound n)) ps y (test_all final S y m ps).end
  all_way y m ps r = way_of _ _ ps y _
      (λ n q. (q.0, λ g. let x = q.1 g (stand_all m.known) in (x.0, tested_alike m n q.0 x.1)))
      (facts_way 0 m.known m y m ps r)

  -- Events on arrays

  abbrev pub Ended : PvType → ℕ → List ℤ → Memory → Memory → Type 0
  Ended t a zs m n = Grew m n × AllNamed zs n.events (t, a) × (Sound m → Sound n)

  pub ends_way : (t : PvType) (a : ℕ) (zs : List ℤ) (y : Lazy) (m : Memory) (ps : List Pick) → Fit m
      → Way (Ended t a zs m) ps y (name_ends final S t a zs y m ps).end
  ends_way t a [] y m ps r = inl (m, (r, ((grew_same m, λ z i. absurd i, λ h. h), refl)))
  ends_way t a (z ∷ zs) y m ps r =
      let u : Memory = record m { events = with_event (AtArray t a (z ∷ [])) m.events } in
      ways (λ n. Alike u n × (Gone u → Sound n)) (Ended t a (z ∷ zs) m) (λ n o. Ended t a zs n o) ps
      (name_ends final S t a zs y) y _
      (λ n q o e.
      let g = grew_on u n o (alike_grew u n q.0) e.0 in (
        grew_on m u o (event_grew m (AtArray t a (z ∷ []))) g,
        first_named t a z zs u o g (event_names m.events t a (z ∷ []) z (inl refl)) e.1,
        λ h. e.2 (q.1 h.0),
      ))
      (all_way (name_ends final S t a zs y) u ps r) (λ n s. ends_way t a zs y n ps s)
    where
      first_named : (t : PvType) (a : ℕ) (z : ℤ) (zs : List ℤ) (u o : Memory) → Grew u o
          → IsOneOf z (named_on [] u.events (t, a)) → AllNamed zs o.events (t, a) → AllNamed (z ∷ zs) o.events (t, a)
      first_named t a z zs u o g i h x (inl e) =
          g.2 (t, a) x (subst (λ (w : ℤ). IsOneOf w (named_on [] u.events (t, a))) (sym e) i)
      first_named t a z zs u o g i h x (inr j) = h x j

  -- Facts that come to be known

  abbrev pub Parted : List ℤ → List ArrayPart → Memory → Memory → Type 0
  Parted ends parts m n = Grew m n × PartsNamed ends parts n.events × (Sound m → Sound n)

  pub parts_way : (ends : List ℤ) (parts : List ArrayPart) (y : Lazy) (m : Memory) (ps : List Pick) → Fit m
      → Way (Parted ends parts m) ps y (part_events final S ends parts y m ps).end
  parts_way ends [] y m ps r = inl (m, (r, ((grew_same m, tt, λ h. h), refl)))
  parts_way ends (p ∷ parts) y m ps r =
      ways (Ended p.type p.array (shifted ends p.shift) m) (Parted ends (p ∷ parts) m) (λ n o. Parted ends parts n o) ps
      (part_events final S ends parts y) y _
      (λ n q o e. (grew_on m n o q.0 e.0, ((λ z i. e.0.2 (array_in p) z (q.1 z i)), e.1), λ h. e.2 (q.2 h)))
      (ends_way p.type p.array (shifted ends p.shift) (part_events final S ends parts y) m ps r)
      (λ n s. parts_way ends parts y n ps s)

  -- the fact is known besides, and its parts are named
  abbrev pub Joined : Known → Memory → Memory → Type 0
  Joined k m n =
      (n.known ≡ m.known ++ k ∷ []) × Grew (record m { known = m.known ++ k ∷ [] }) n × PartsNamed k.ends k.parts n.events
      × (Sound m → Sound n)

  gone_more : (m : Memory) (k : Known) → Gone m → Gone (record m { known = m.known ++ k ∷ [] })
  gone_more m k g n i e = let x = g n i e in (x.0, (get_more m.known x.0 k n x.1.0, x.1.1))

  parts_more : (ends : List ℤ) (parts : List ArrayPart) (m n : Memory)
      → ((a : Array) (z : ℤ) → IsOneOf z (named_on [] m.events a) → IsOneOf z (named_on [] n.events a))
      → PartsNamed ends parts m.events → PartsNamed ends parts n.events
  parts_more ends [] m n f h = tt
  parts_more ends (p ∷ parts) m n f h = (λ z i. f (array_in p) z (h.0 z i), parts_more ends parts m n f h.1)

  pub joined_way : (k : Known) (y : Lazy) (m : Memory) (ps : List Pick) → Fit m
      → Way (Joined k m) ps y (part_events final S k.ends k.parts (join_fact k (test_all final S y)) m ps).end
  joined_way k y m ps r =
      ways (Parted k.ends k.parts m) (Joined k m)
      (λ n o. Alike (record n { known = n.known ++ k ∷ [] }) o × (Gone (record n { known = n.known ++ k ∷ [] }) → Sound o)) ps
      (join_fact k (test_all final S y)) y _
      (λ n q o e.
      let ks = ap (λ (xs : List Known). xs ++ k ∷ []) q.0.0 in
      let g = alike_grew (record n { known = n.known ++ k ∷ [] }) o e.0 in (
        e.0.0 ∙ ks,
        (e.0.0 ∙ ks, g.1 ∙ q.0.1, λ a z i. g.2 a z (q.0.2 a z i)),
        parts_more k.ends k.parts n o g.2 q.1,
        λ h. e.1 (gone_more n k (q.2 h).0),
      ))
      (parts_way k.ends k.parts (join_fact k (test_all final S y)) m ps r)
      (λ n s. all_way y (record n { known = n.known ++ k ∷ [] }) ps s)

  first_way : (k : Known) (i : ℤ) (n : ℕ) (y : Lazy) (m : Memory) (ps : List Pick) → Fit m
      → Way (λ o. Still m o × judging.PassesFrom maps table k i n) ps y (test_from L k i n y m ps).end
  first_way k i zero y m ps r = inl (m, (r, ((still_same m, tt), refl)))
  first_way k i (suc n) y m ps r =
      ways (λ o. Still m o × Goes maps table k i) (λ o. Still m o × judging.PassesFrom maps table k i (suc n))
      (λ o u. Still o u × judging.PassesFrom maps table k (i +ℤ pos 1) n) ps (test_from L k (i +ℤ pos 1) n y) y _
      (λ o q u t. (still_on m o u q.0 t.0, (q.1, t.1)))
      (test_way k i (test_from L k (i +ℤ pos 1) n y) m ps r) (λ o s. first_way k (i +ℤ pos 1) n y o ps s)

  unquieted : (b : Bool) (m : Memory) (Q : Type 0) (y : Lazy) (ps : List Pick) (o : Final)
      → Way (λ n. Still m n × Q) ps (quieted b y) o → Way (λ n. Still m n × Q) ps y o
  unquieted b m Q y ps o (inl w) = inl (record w.0 { quiet = b }, (w.1.0, (w.1.1.0, w.1.1.1)))
  unquieted b m Q y ps o (inr e) = inr e

  pub shown_way : (k : Known) (n : ℕ) (y : Lazy) (m : Memory) (ps : List Pick) → Fit m
      → Way (λ o. Still m o × judging.PassesFrom maps table k k.low n) ps y (first_shown final S k n y m ps).end
  shown_way k zero y m ps r = inl (m, (r, ((still_same m, tt), refl)))
  shown_way k (suc n) y m ps r = let z = test_from L k (k.low +ℤ pos 1) n (quieted false y) in
      ways (λ o. Still m o × Goes maps table k k.low) (λ o. Still m o × judging.PassesFrom maps table k k.low (suc n))
      (λ o u. Still o u × judging.PassesFrom maps table k (k.low +ℤ pos 1) n) ps (quieted true z) y _
      (λ o q u t. (still_on m o u q.0 t.0, (q.1, t.1)))
      (test_way k k.low (quieted true z) m ps r)
      (λ o s. unquieted false o (judging.PassesFrom maps table k (k.low +ℤ pos 1) n) y ps _
      (first_way k (k.low +ℤ pos 1) n (quieted false y) (record o { quiet = true }) ps s))

  pub goes_at : (k : Known) (is : List ℤ) → GoesAt k is → (q : ℤ) → IsOneOf q is → within k.low k.high q ≡ true
      → Goes maps table k q
  goes_at k [] h q i w = absurd i
  goes_at k (j ∷ is) h q (inl e) w =
      subst (λ (z : ℤ). Goes maps table k z) (sym e) (h.0 (subst (λ (z : ℤ). within k.low k.high z ≡ true) e w))
  goes_at k (j ∷ is) h q (inr i) w = goes_at k is h.1 q i w

  pub all_at : (names : Known → List ℤ) (ks : List Known) → AllGo names ks → (k : Known) → IsOneOf k ks → GoesAt k (names k)
  all_at names [] h k i = absurd i
  all_at names (x ∷ ks) h k (inl e) = subst (λ (z : Known). GoesAt z (names z)) (sym e) h.0
  all_at names (x ∷ ks) h k (inr i) = all_at names ks h.1 k i
