-- Where all facts spread, the judge ends as the lazy run does.
use Rattle.std.proofs.Common.{◌≡◌, ℕ, zero, suc, ℤ, pos, Bool, true, false, if◌then◌else◌, Option, Some, None, List, [], ◌∷◌, ◌++◌, refl, sym, subst, ◌∙◌, inl, inr, rules, arith}
use Rattle.std.specs.Prelude.{nat_lt, ◌+ℤ◌, ◌<ℤ◌, ◌≤ℤ◌}
use Rattle.std.proofs.lemmas.Int.{ints}
use Rattle.pv_ast.specs.declared.PvType.{PvType}
use Rattle.pv_values.specs.declared.value.Value.{Value}
use Rattle.pv_picks.specs.declared.evidence.Pick.{Pick}
use Rattle.pv_picks.specs.declared.evidence.Pick.TheVariants.{Number, Turn, Steps}
use Rattle.pv_picks.specs.declared.evidence.Entry.{Entry}
use Rattle.pv_picks.specs.Plain.Core.{Operation}
use Rattle.pv_picks.specs.Formulas.Values.{width, within}
use Rattle.pv_picks.specs.Judge.States.{Cell, Written, FromSteps, as_element}
use Rattle.pv_picks.specs.Judge.Settings.{Setting, Event, AtField, AtToken, AtLock, AtInstance, AtArray, AtArrayLength, Known}
use Rattle.pv_picks.specs.Judge.Repetitions.{test_from}
use Rattle.pv_picks.specs.Judge.UnitRuns.{task_of}
use Rattle.pv_picks.specs.Judge.Runs.{End, Blocked, Judged, judge, Maps, maps_of, value_of_operation, judging_tests, judging}
use Rattle.pv_picks.specs.Lazy.Patterns.{positions_of}
use Rattle.pv_picks.specs.Lazy.Runs.{taken_in, ranged, Memory, Final, final, LazyEnd, Ends, Unfit, Outcome, OneNumber, OneTurn, at_end, Source, Lazily, testing, lazy, lazy_run, from_picks, element_or, operation_or, value_read, value_used, with_event, remember_event, reads_none, lazy_event, known_if, no_memory}
use Rattle.judge_laws.specs.Related.{AreRelated}
use Rattle.judge_laws.proofs.Taking.{throughout}
use Rattle.judge_laws.specs.Judging.{as_end}
use Rattle.judge_facts.specs.Finite.{IsOneOf, Goes, AllSpread, JudgesWhereFactsSpread}
use Rattle.judge_laws.proofs.Statements.{judge_related}
use Rattle.judge_laws.proofs.Lookups.{read_right, used_right, fits_more}
use Rattle.judge_laws.proofs.Judging as judging
use Rattle.judge_facts.proofs.Naming.{is_last, is_more, NamesNothing, event_still}
use Rattle.judge_facts.proofs.Ways as ways

module _ (maps : Maps) (table : List Entry) where
  abbrev J : Setting Judged
  J = judging_tests maps table

  abbrev S : Source (List Pick) Final
  S = from_picks maps table

  abbrev L : Setting (Lazily (List Pick) Final)
  L = testing final S

  abbrev Lazy : Type 0
  Lazy = Lazily (List Pick) Final

  abbrev Fit : Memory → Type 0
  Fit m = ways.Fit maps table m

  abbrev Sound : Memory → Type 0
  Sound m = ways.Sound maps table m

  -- The relation of the two runs

  abbrev pub Live : Final → Type 0
  Live f = (f.end ≡ Ends Blocked → ⊥) × (f.end ≡ Unfit → ⊥)

  abbrev pub Grown : List Known → List Known → Type 0
  Grown ks ls = (k : Known) → IsOneOf k ks → IsOneOf k ls

  -- at an end that isn't blocked what was known is known, each fact goes at each name, and where all spread the judge ends so
  abbrev pub Comes : List Known → End → Final → Type 0
  Comes known e f =
      Live f → Grown known f.known × ways.Tested maps table f.known f.events × (AllSpread maps table f → e ≡ as_end f.end)

  abbrev pub Steps' : Judged → Lazy → Type 0
  Steps' x y = (m : Memory) (ps : List Pick) → Fit m → Sound m → Comes m.known (x ps) (y m ps).end

  way_comes : (known : List Known) (Q : Memory → Type 0) (ps : List Pick) (y : Lazy) (e : End) (o : Final)
      → ways.Way maps table Q ps y o → ((n : Memory) → Fit n → Q n → Comes known e (y n ps).end) → Comes known e o
  way_comes known Q ps y e o (inl w) f = subst (λ (z : Final). Comes known e z) (sym w.1.1.1) (f w.0 w.1.0 w.1.1.0)
  way_comes known Q ps y e o (inr b) f = λ l. absurd (l.0 b)

  by_turn : (b : Bool) (known : List Known) (m : Memory) (x : End) (y : Outcome Final) → Comes known x y.end
      → Comes known (if b then x else Blocked) (if b then y else at_end (final Unfit m)).end
  by_turn true known m x y h = h
  by_turn false known m x y h = λ l. absurd (l.1 refl)

  picks_step : (ty : PvType) (f : ℤ → Judged) (g : ℤ → Lazy) → ((z : ℤ) → Steps' (f z) (g z)) → Steps' (J.pick ty f) (L.pick ty g)
  picks_step ty f g h m [] r t = λ l. absurd (l.1 refl)
  picks_step ty f g h m (Number z ∷ ps) r t = h z (taken_in (OneNumber z) m) ps r t
  picks_step ty f g h m (Turn n ∷ ps) r t = λ l. absurd (l.1 refl)
  picks_step ty f g h m (Steps x ∷ ps) r t = λ l. absurd (l.1 refl)

  turns_step : (f : ℕ → Judged) (g : ℕ → Lazy) → ((n : ℕ) → Steps' (f n) (g n)) → Steps' (J.turn f) (L.turn g)
  turns_step f g h m [] r t = λ l. absurd (l.1 refl)
  turns_step f g h m (Number z ∷ ps) r t = λ l. absurd (l.1 refl)
  turns_step f g h m (Turn n ∷ ps) r t =
      by_turn (nat_lt n 3) m.known (taken_in (OneTurn n) m) _ _ (h n (taken_in (OneTurn n) m) ps r t)
  turns_step f g h m (Steps x ∷ ps) r t = λ l. absurd (l.1 refl)

  steps_step : (n : ℕ) (t : PvType) (a : ℕ) (x : Judged) (y : Lazy) → Steps' x y → Steps' (J.steps n t a x) (L.steps n t a y)
  steps_step n t a x y h m [] r q = λ l. absurd (l.1 refl)
  steps_step n t a x y h m (Number z ∷ ps) r q = λ l. absurd (l.1 refl)
  steps_step n t a x y h m (Turn u ∷ ps) r q = λ l. absurd (l.1 refl)
  steps_step n t a x y h m (Steps z ∷ ps) r q = h (ranged n t a m) ps r q

  element_steps : (o : Option ℤ) (ty : PvType) (n : ℕ) (i : ℤ) (f : ℤ → Judged) (g : ℤ → Lazy) → ((z : ℤ) → Steps' (f z) (g z))
      → (m : Memory) (ps : List Pick) → Fit m → Sound m
      → ((z : ℤ) → o ≡ Some z → maps n i ≡ z) → Comes m.known (f (maps n i) ps) (element_or final S o ty n i g m ps).end
  element_steps (Some z) ty n i f g h m ps r t e =
      subst (λ (w : ℤ). Comes m.known (f w ps) (g z m ps).end) (sym (e z refl)) (h z m ps r t)
  element_steps None ty n i f g h m ps r t e =
      h (maps n i) (record m { reads = record { number = n; index = i; value = maps n i } ∷ m.reads }) ps ((refl, r.0), r.1) t

  operation_steps : (x : Option ℤ) (o : Operation) (b c : ℤ) (f : ℤ → Judged) (g : ℤ → Lazy) → ((z : ℤ) → Steps' (f z) (g z))
      → (m : Memory) (ps : List Pick) → Fit m → Sound m
      → ((z : ℤ) → x ≡ Some z → value_of_operation table o b c ≡ z)
      → Comes m.known (f (value_of_operation table o b c) ps) (operation_or final S x o b c g m ps).end
  operation_steps (Some z) o b c f g h m ps r t e =
      subst (λ (w : ℤ). Comes m.known (f w ps) (g z m ps).end) (sym (e z refl)) (h z m ps r t)
  operation_steps None o b c f g h m ps r t e =
      h (value_of_operation table o b c)
      (record m { uses = m.uses ++ record { used = (o, b, c); value = value_of_operation table o b c } ∷ [] }) ps
      (r.0, fits_more table m.uses _ r.1 refl) t

  reading_steps : (c : Cell) (f : Value → Judged) (g : Value → Lazy) → ((v : Value) → Steps' (f v) (g v))
      → Steps' (J.reading c f) (L.reading c g)
  reading_steps (Written v) f g h m ps r t = h v m ps r t
  reading_steps (FromSteps type n i) f g h m ps r t =
      element_steps (value_read m.reads n i) type n i (λ z. f (as_element type z)) (λ z. g (as_element type z))
      (λ z. h (as_element type z)) m ps r t (λ z e. read_right maps m.reads n i z r.0 e)

  other_steps : (e : Event) → NamesNothing e → (x : Judged) (y : Lazy) → Steps' x y → Steps' x (remember_event e y)
  other_steps e q x y h m ps r t = let u : Memory = record m { events = with_event e m.events } in
      h u ps r (ways.still_sound maps table m u (event_still m e q) t)

  noticing_steps : (e : Event) (x : Judged) (y : Lazy) → Steps' x y → Steps' x (lazy_event final S e y)
  noticing_steps (AtField c o f) x y h m ps r t = other_steps (AtField c o f) (λ a. refl) x y h m ps r t
  noticing_steps (AtToken k c o) x y h m ps r t = other_steps (AtToken k c o) (λ a. refl) x y h m ps r t
  noticing_steps (AtLock c o) x y h m ps r t = other_steps (AtLock c o) (λ a. refl) x y h m ps r t
  noticing_steps (AtInstance c d o vs) x y h m ps r t = other_steps (AtInstance c d o vs) (λ a. refl) x y h m ps r t
  noticing_steps (AtArrayLength u a) x y h m ps r t = other_steps (AtArrayLength u a) (λ a. refl) x y h m ps r t
  noticing_steps (AtArray u a ends) x y h m ps r t =
      way_comes m.known (ways.Ended maps table u a ends m) ps y (x ps) _ (ways.ends_way maps table u a ends y m ps r)
      (λ n s q. subst (λ (ks : List Known). Comes ks (x ps) (y n ps).end) q.0.0 (h n ps s (q.2 t)))

  -- Facts that come to be known

  all_from : (k : Known) (i : ℤ) (n : ℕ) → ((j : ℤ) → i ≤ℤ j → j <ℤ (i +ℤ pos n) → Goes maps table k j)
      → judging.PassesFrom maps table k i n
  all_from k i zero h = tt
  all_from k i (suc n) h = (
    h i (omega (arith, ints)) (omega (arith, ints)),
    all_from k (i +ℤ pos 1) n
        (λ j a b. h j (omega (arith, ints, a)) (omega (arith, ints, b))),
  )

  inside : (low high j : ℤ) → low ≤ℤ j → j <ℤ (low +ℤ pos (width low high)) → within low high j ≡ true
  inside low high j a b = search (rules, ints)

  known_steps : (b : Bool) (k : Known) (x : Judged) (y : Lazy) → Steps' x y
      → Steps' (test_from J k k.low (width k.low k.high) x) (known_if final S b k y)
  known_steps true k x y h m ps r t =
      way_comes m.known _ ps y (test_from J k k.low (width k.low k.high) x ps) _
      (ways.shown_way maps table k (width k.low k.high) y m ps r)
      (λ n s q. subst (λ (ks : List Known). Comes ks (test_from J k k.low (width k.low k.high) x ps) (y n ps).end) q.0.1.0
      (subst (λ (e : End). Comes n.known e (y n ps).end)
      (sym (judging.all_pass maps table k k.low (width k.low k.high) q.1 x ps))
      (h n ps s (ways.still_sound maps table m n q.0 t))))
  known_steps false k x y h m ps r t =
      way_comes m.known (ways.Joined maps table k m) ps y (test_from J k k.low (width k.low k.high) x ps) _
      (ways.joined_way maps table k y m ps r)
      (λ o s q l.
      let c = h o ps s (q.3 t) l in
      let ks = (y o ps).end.known in
      let names = positions_of ks (y o ps).end.events in
      let there : IsOneOf k ks = c.0 k (subst (λ (xs : List Known). IsOneOf k xs) (sym q.0) (is_last m.known k)) in (
        λ j i. c.0 j (subst (λ (xs : List Known). IsOneOf j xs) (sym q.0) (is_more m.known k j i)),
        c.1,
        λ spread.
            judging.all_pass maps table k k.low (width k.low k.high)
            (all_from k k.low (width k.low k.high) (λ j g w. spread k there
            (ways.goes_at maps table k (names k) (ways.all_at maps table names ks c.1 k there)) j
            (inside k.low k.high j g w))) x ps
            ∙ c.2 spread,
      ))

  pub runs_step : AreRelated (judging maps table) (lazy final S) Steps'
  runs_step = throughout _ _ _ (record {
    finished = λ m ps r t l. (λ k i. i, t.1, λ s. refl);
    blocked = λ m ps r t l. absurd (l.0 refl);
    failed = λ check span m ps r t l. (λ k i. i, t.1, λ s. refl);
    unfit = λ m ps r t l. absurd (l.1 refl);
    pick = picks_step;
    turn = turns_step;
    steps = steps_step;
    using = λ o b c f g h m ps r t. operation_steps (value_used m.uses (o, b, c)) o b c f g h m ps r t
        (λ z e. used_right table m.uses (o, b, c) z r.1 e);
    comparing = λ b c x y h m ps r t. h m ps r t;
    matching = λ v w x y h m ps r t. h m ps r t;
    deciding = λ b x y h m ps r t. h m ps r t;
    noticing = noticing_steps;
    reading = reading_steps;
    knowing = λ k x y h. known_steps (reads_none k.parts) k x y h;
  })

-- blocked, unfit, or neither
pub by_end : (P : Type 0) (e : LazyEnd) → (as_end e ≡ Blocked → P) → ((e ≡ Ends Blocked → ⊥) × (e ≡ Unfit → ⊥) → P) → P
by_end P (Ends Blocked) f g = f refl
by_end P Unfit f g = f refl
by_end P (Ends e) f g = g (λ h. cc h, λ h. cc h)

pub judges_where_facts_spread : JudgesWhereFactsSpread
judges_where_facts_spread p unit evidence spread =
    by_end (judge p unit evidence ≡ as_end (lazy_run p unit evidence).end.end) (lazy_run p unit evidence).end.end
    (λ b. elim (judging.judges_as_lazy p unit evidence) [ inl h ↦ h | inr h ↦ h ∙ sym b ])
    (λ l. (judge_related _ _ (Steps' (maps_of evidence.picks) evidence.table)
    (runs_step (maps_of evidence.picks) evidence.table) p (task_of p unit) no_memory evidence.picks (tt, tt)
    (λ n i e. absurd (cc e), tt) l).2 spread)
