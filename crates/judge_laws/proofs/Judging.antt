-- The judge ends as the lazy run does, or Blocked: where a fact isn't true at some position, the judge is Blocked when it comes
-- to be known; else no later test of it fails.
use Rattle.std.proofs.Common.{◌≡◌, ℕ, zero, suc, ℤ, pos, Bool, true, false, if◌then◌else◌, Option, Some, None, List, [], ◌∷◌, ◌++◌, refl, sym, subst, ◌∙◌, ◌⊎◌, inl, inr, rules, arith}
use Rattle.std.specs.Prelude.{◌&&◌, nat_lt, nat_eq, ◌+ℤ◌, ◌<ℤ◌, ◌≤ℤ◌}
use Rattle.std.proofs.lemmas.Int.{ints, by_lt_z}
use Rattle.pv_base.specs.declared.Span.{Span}
use Rattle.pv_ast.specs.declared.PvType.{PvType}
use Rattle.pv_values.specs.declared.value.Value.{Value}
use Rattle.pv_picks.specs.declared.evidence.Pick.{Pick}
use Rattle.pv_picks.specs.declared.evidence.Pick.TheVariants.{Number, Turn, Steps}
use Rattle.pv_picks.specs.declared.evidence.Entry.{Entry}
use Rattle.pv_picks.specs.Plain.Core.{Operation, Manner, Plain, Tabled}
use Rattle.pv_picks.specs.Formulas.Values.{arithmetic, truth_in, width, within}
use Rattle.pv_picks.specs.Formulas.Evaluation.{Reader, evaluate}
use Rattle.pv_picks.specs.Judge.States.{State, Cell, Cells, Written, FromSteps, as_element, InField, InElement, cells_of}
use Rattle.pv_picks.specs.Judge.Settings.{Setting, Event, AtField, AtToken, AtLock, AtInstance, AtArray, AtArrayLength, ArrayPart, Known}
use Rattle.pv_picks.specs.Judge.Repetitions.{shifted, bind_at, or_blocked, operation_tested, test_reader, test_at, test_from}
use Rattle.pv_picks.specs.Judge.UnitRuns.{task_of}
use Rattle.pv_picks.specs.Judge.Runs.{End, Blocked, Judged, Maps, maps_of, content, value_of_operation, judging_tests, judging}
use Rattle.pv_picks.specs.Lazy.Patterns.{positions_of}
use Rattle.pv_picks.specs.Lazy.Runs.{taken_in, ranged, Memory, Final, final, Unfit, Outcome, OneTurn, at_end, Source, Lazily, testing, lazy, from_picks, element_or, operation_or, value_read, value_used, quieted, join_fact, part_events, reads_none, is_due, remember_test, test_once, name_ends, test_within, test_facts, test_all, lazy_event, first_shown, known_if, no_memory}
use Rattle.judge_laws.specs.Related.{AreRelated}
use Rattle.judge_laws.specs.Drawing.{FitReads, FitsUses}
use Rattle.judge_laws.specs.Judging.{as_end, JudgesAsLazy}
use Rattle.judge_laws.specs.Options.{or_none}
use Rattle.pv_picks.proofs.Readers.{ReadersRelated, evaluate_related}
use Rattle.judge_laws.proofs.Taking.{throughout, otherwise, test_at_related, test_from_related}
use Rattle.judge_laws.specs.Entering.{EntersAsLazy}
use Rattle.judge_laws.proofs.Statements.{judge_related, enter_task_related}
use Rattle.judge_laws.proofs.Lookups.{read_right, used_right, fits_more}

module _ (maps : Maps) (table : List Entry) where
  abbrev pub J : Setting Judged
  J = judging_tests maps table

  abbrev pub S : Source (List Pick) Final
  S = from_picks maps table

  abbrev pub L : Setting (Lazily (List Pick) Final)
  L = testing final S

  -- A test of the judge goes whatever comes next, or blocks

  abbrev pub Passes : Known → ℤ → Type 0
  Passes k i = (x : Judged) (ps : List Pick) → test_at J k i x ps ≡ x ps

  abbrev Blocks : Known → ℤ → Type 0
  Blocks k i = (x : Judged) (ps : List Pick) → test_at J k i x ps ≡ Blocked

  abbrev pub purely : Manner → Operation → ℤ → ℤ → Span → (ℤ → Option Value) → Option Value
  purely Plain o a b p next = next (arithmetic o a b)
  purely Tabled o a b p next = next (value_of_operation table o a b)

  abbrev pub pure : State → Cells → Reader (Option Value)
  pure s cells = record {
    field = λ c o n p next. or_none (cells (InField c o n)) (λ x. next (content maps x));
    element = λ t a i p next. or_none (cells (InElement t a i)) (λ x. next (content maps x));
    length = λ t a p next. if nat_eq a 0 then None else or_none (s.lengths t a) next;
    operation = purely;
    comparing = λ a b x. x;
    matching = λ v w x. x;
    deciding = λ b x. x;
  }

  abbrev pub comes_to : Option Value → Judged → Judged
  comes_to None x = λ ps. Blocked
  comes_to (Some v) x = if truth_in v then x else (λ ps. Blocked)

  abbrev pub Comes : Judged → Option Value → Judged → Type 0
  Comes x o j = (ps : List Pick) → j ps ≡ comes_to o x ps

  pub none_comes : {A : Type 0} (x : Judged) (o : Option A) (f : A → Option Value) (g : A → Judged)
      → ((a : A) → Comes x (f a) (g a)) → Comes x (or_none o f) (or_blocked J o g)
  none_comes x None f g h ps = refl
  none_comes x (Some a) f g h ps = h a ps

  purely_comes : (x : Judged) (m : Manner) (o : Operation) (a b : ℤ) (p : Span) (f : ℤ → Option Value) (g : ℤ → Judged)
      → ((z : ℤ) → Comes x (f z) (g z)) → Comes x (purely m o a b p f) (operation_tested J m o a b p g)
  purely_comes x Plain o a b p f g h ps = h _ ps
  purely_comes x Tabled o a b p f g h ps = h _ ps

  length_comes : (x : Judged) (b : Bool) (f : Option Value) (g : Judged) → Comes x f g
      → Comes x (if b then None else f) (if b then J.blocked else g)
  length_comes x true f g h ps = refl
  length_comes x false f g h ps = h ps

  reader_comes : (x : Judged) (s : State) (cells : Cells) → ReadersRelated (Comes x) (pure s cells) (test_reader J s cells)
  reader_comes x s cells = record {
    field = λ c o n p f g h. none_comes x (cells (InField c o n)) _ _ (λ y. h _);
    element = λ t a i p f g h. none_comes x (cells (InElement t a i)) _ _ (λ y. h _);
    length = λ t a p f g h. length_comes x (nat_eq a 0) _ _ (none_comes x (s.lengths t a) f g h);
    operation = purely_comes x;
    comparing = λ a b u w h. h;
    matching = λ v w u y h. h;
    deciding = λ b u w h. h;
  }

  abbrev pub result_of : Known → ℤ → Option Value
  result_of k i = evaluate (pure k.state (cells_of k.state)) (pure k.state k.bind.old) (bind_at k.bind k.name i).scene k.fact Some

  pub test_comes : (k : Known) (i : ℤ) (x : Judged) → Comes x (result_of k i) (test_at J k i x)
  test_comes k i x =
      evaluate_related (Comes x) (pure k.state (cells_of k.state)) (test_reader J k.state (cells_of k.state))
      (pure k.state k.bind.old) (test_reader J k.state k.bind.old)
      (reader_comes x k.state (cells_of k.state)) (reader_comes x k.state k.bind.old) (bind_at k.bind k.name i).scene k.fact Some
      (λ v. if truth_in v then x else J.blocked) (λ v ps. refl)

  decides : (k : Known) (i : ℤ) → Passes k i ⊎ Blocks k i
  decides k i = go (result_of k i) (test_comes k i)
    where
      if_true : (b : Bool) → ((x : Judged) (ps : List Pick) → test_at J k i x ps ≡ (if b then x else (λ qs. Blocked)) ps)
          → Passes k i ⊎ Blocks k i
      if_true true h = inl h
      if_true false h = inr h

      go : (o : Option Value) → ((x : Judged) → Comes x o (test_at J k i x)) → Passes k i ⊎ Blocks k i
      go None h = inr h
      go (Some v) h = if_true (truth_in v) h

  -- from a position on
  abbrev pub PassesFrom : Known → ℤ → ℕ → Type 0
  PassesFrom k i zero = Unit {0}
  PassesFrom k i (suc n) = Passes k i × PassesFrom k (i +ℤ pos 1) n

  all_decide : (k : Known) (i : ℤ) (n : ℕ) → PassesFrom k i n ⊎ ((x : Judged) (ps : List Pick) → test_from J k i n x ps ≡ Blocked)
  all_decide k i zero = inl tt
  all_decide k i (suc n) = elim (decides k i) [
    | inr b ↦ inr (λ x ps. b _ ps)
    | inl p ↦ elim (all_decide k (i +ℤ pos 1) n) [ inl q ↦ inl (p, q) | inr b ↦ inr (λ x ps. p _ ps ∙ b x ps) ]
  ]

  pub all_pass : (k : Known) (i : ℤ) (n : ℕ) → PassesFrom k i n → (x : Judged) (ps : List Pick) → test_from J k i n x ps ≡ x ps
  all_pass k i zero h x ps = refl
  all_pass k i (suc n) h x ps = h.0 _ ps ∙ all_pass k (i +ℤ pos 1) n h.1 x ps

  abbrev HoldsAt : Known → Type 0
  HoldsAt k = PassesFrom k k.low (width k.low k.high)

  abbrev AllHold : List Known → Type 0
  AllHold [] = Unit {0}
  AllHold (k ∷ ks) = HoldsAt k × AllHold ks

  all_hold_more : (ks : List Known) (k : Known) → AllHold ks → HoldsAt k → AllHold (ks ++ k ∷ [])
  all_hold_more [] k h q = (q, tt)
  all_hold_more (x ∷ xs) k h q = (h.0, all_hold_more xs k h.1 q)

  -- Lockstep

  abbrev Right : Memory → Type 0
  Right m = FitReads maps m.reads × (FitsUses table m.uses × AllHold m.known)

  abbrev Judges : Judged → Lazily (List Pick) Final → Type 0
  Judges x y = (m : Memory) (ps : List Pick) → Right m → (x ps ≡ as_end (y m ps).end.end) ⊎ (x ps ≡ Blocked)

  pick_judges : (t : PvType) (f : ℤ → Judged) (g : ℤ → Lazily (List Pick) Final) → ((z : ℤ) → Judges (f z) (g z))
      → Judges (J.pick t f) (L.pick t g)
  pick_judges t f g h m [] r = inl refl
  pick_judges t f g h m (Number z ∷ ps) r = h z _ ps r
  pick_judges t f g h m (Turn n ∷ ps) r = inl refl
  pick_judges t f g h m (Steps x ∷ ps) r = inl refl

  by_turn : (b : Bool) (m : Memory) (x : End) (y : Outcome Final) → (x ≡ as_end y.end.end) ⊎ (x ≡ Blocked)
      → ((if b then x else Blocked) ≡ as_end (if b then y else at_end (final Unfit m)).end.end)
      ⊎ ((if b then x else Blocked) ≡ Blocked)
  by_turn true m x y h = h
  by_turn false m x y h = inl refl

  turn_judges : (f : ℕ → Judged) (g : ℕ → Lazily (List Pick) Final) → ((n : ℕ) → Judges (f n) (g n))
      → Judges (J.turn f) (L.turn g)
  turn_judges f g h m [] r = inl refl
  turn_judges f g h m (Number z ∷ ps) r = inl refl
  turn_judges f g h m (Turn n ∷ ps) r = by_turn (nat_lt n 3) (taken_in (OneTurn n) m) _ _ (h n (taken_in (OneTurn n) m) ps r)
  turn_judges f g h m (Steps x ∷ ps) r = inl refl

  steps_judge : (n : ℕ) (t : PvType) (a : ℕ) (x : Judged) (y : Lazily (List Pick) Final) → Judges x y
      → Judges (J.steps n t a x) (L.steps n t a y)
  steps_judge n t a x y h m [] r = inl refl
  steps_judge n t a x y h m (Number z ∷ ps) r = inl refl
  steps_judge n t a x y h m (Turn u ∷ ps) r = inl refl
  steps_judge n t a x y h m (Steps z ∷ ps) r = h (ranged n t a m) ps r

  element_judges : (o : Option ℤ) (ty : PvType) (n : ℕ) (i : ℤ) (f : ℤ → Judged) (g : ℤ → Lazily (List Pick) Final)
      → ((z : ℤ) → Judges (f z) (g z)) → (m : Memory) (ps : List Pick) → Right m
      → ((z : ℤ) → o ≡ Some z → maps n i ≡ z) → (f (maps n i) ps ≡ as_end (element_or final S o ty n i g m ps).end.end)
      ⊎ (f (maps n i) ps ≡ Blocked)
  element_judges (Some z) ty n i f g h m ps r e =
      subst (λ (w : ℤ). (f w ps ≡ as_end (g z m ps).end.end) ⊎ (f w ps ≡ Blocked)) (sym (e z refl)) (h z m ps r)
  element_judges None ty n i f g h m ps r e = h (maps n i) _ ps ((refl, r.0), r.1)

  operation_judges : (x : Option ℤ) (o : Operation) (b c : ℤ) (f : ℤ → Judged) (g : ℤ → Lazily (List Pick) Final)
      → ((z : ℤ) → Judges (f z) (g z)) → (m : Memory) (ps : List Pick) → Right m
      → ((z : ℤ) → x ≡ Some z → value_of_operation table o b c ≡ z)
      → (f (value_of_operation table o b c) ps ≡ as_end (operation_or final S x o b c g m ps).end.end)
      ⊎ (f (value_of_operation table o b c) ps ≡ Blocked)
  operation_judges (Some z) o b c f g h m ps r e =
      subst (λ (w : ℤ). (f w ps ≡ as_end (g z m ps).end.end) ⊎ (f w ps ≡ Blocked)) (sym (e z refl)) (h z m ps r)
  operation_judges None o b c f g h m ps r e =
      h (value_of_operation table o b c) _ ps (r.0, (fits_more table m.uses _ r.1.0 refl, r.1.1))

  reading_judges : (c : Cell) (f : Value → Judged) (g : Value → Lazily (List Pick) Final) → ((v : Value) → Judges (f v) (g v))
      → Judges (J.reading c f) (L.reading c g)
  reading_judges (Written v) f g h m ps r = h v m ps r
  reading_judges (FromSteps type n i) f g h m ps r =
      element_judges (value_read m.reads n i) type n i (λ z. f (as_element type z)) (λ z. g (as_element type z))
      (λ z. h (as_element type z)) m ps r (λ z e. read_right maps m.reads n i z r.0 e)

  tests_judge : AreRelated J L Judges
  tests_judge = throughout _ _ _ (record {
    finished = λ m ps r. inl refl;
    blocked = λ m ps r. inl refl;
    failed = λ check span m ps r. inl refl;
    unfit = λ m ps r. inl refl;
    pick = pick_judges;
    turn = turn_judges;
    steps = steps_judge;
    using =
        λ o b c f g h m ps r. operation_judges (value_used m.uses (o, b, c)) o b c f g h m ps r
        (λ z e. used_right table m.uses (o, b, c) z r.1.0 e);
    comparing = λ b c x y h m ps r. h m ps r;
    matching = λ v w x y h m ps r. h m ps r;
    deciding = λ b x y h m ps r. h m ps r;
    noticing = λ e x y h m ps r. h _ ps r;
    reading = reading_judges;
    knowing = λ k x y h. h;
  })

  -- the tests of facts that hold go
  pub passes_at : (k : Known) (i : ℤ) (n : ℕ) (j : ℤ) → PassesFrom k i n → i ≤ℤ j → j <ℤ (i +ℤ pos n) → Passes k j
  passes_at k i zero j h a b = absurd (omega (arith, ints, a, b))
  passes_at k i (suc n) j h a b = by_lt_z i j
      (λ c. passes_at k (i +ℤ pos 1) n j h.1 (omega (arith, ints, c)) (omega (arith, ints, b)))
      (λ c. let e : i ≡ j = omega (arith, ints, a, c) in subst (λ (z : ℤ). Passes k z) e h.0)

  holds_within : (k : Known) (i : ℤ) → HoldsAt k → within k.low k.high i ≡ true → Passes k i
  holds_within k i h e = passes_at k k.low (width k.low k.high) i h (search (rules, ints)) (search (rules, ints))

  test_goes : (k : Known) (i : ℤ) → Passes k i → (x : Judged) (y : Lazily (List Pick) Final) → Judges x y
      → Judges x (test_at L k i y)
  test_goes k i p x y h m ps r =
      subst (λ (z : End). (z ≡ as_end (test_at L k i y m ps).end.end) ⊎ (z ≡ Blocked)) (p x ps)
      (test_at_related J L Judges tests_judge k i x y h m ps r)

  both_first : (a b : Bool) → (a && b) ≡ true → a ≡ true
  both_first true b e = refl
  both_first false b e = e

  once_goes : (n : ℕ) (k : Known) → HoldsAt k → (i : ℤ) (x : Judged) (y : Lazily (List Pick) Final) → Judges x y
      → Judges x (test_once final S n k i y)
  once_goes n k q i x y h m ps r =
      go (is_due final S n k i m) (λ e. holds_within k i q (both_first (within k.low k.high i) _ e))
    where
      go : (b : Bool) → (b ≡ true → Passes k i)
          → (x ps ≡ as_end ((if b then remember_test n i (test_at L k i y) else y) m ps).end.end) ⊎ (x ps ≡ Blocked)
      go true p = test_goes k i (p refl) x y h _ ps r
      go false p = h m ps r

  within_goes : (n : ℕ) (k : Known) → HoldsAt k → (is : List ℤ) (x : Judged) (y : Lazily (List Pick) Final) → Judges x y
      → Judges x (test_within final S n k is y)
  within_goes n k q [] x y h = h
  within_goes n k q (i ∷ is) x y h = once_goes n k q i x _ (within_goes n k q is x y h)

  facts_go : (n : ℕ) (ks : List Known) → AllHold ks → (seen : Memory) (x : Judged) (y : Lazily (List Pick) Final) → Judges x y
      → Judges x (test_facts final S n ks seen y)
  facts_go n [] q seen x y h = h
  facts_go n (k ∷ ks) q seen x y h =
      within_goes n k q.0 (positions_of seen.known seen.events k) x _ (facts_go (suc n) ks q.1 seen x y h)

  all_go : (x : Judged) (y : Lazily (List Pick) Final) → Judges x y → Judges x (test_all final S y)
  all_go x y h m ps r = facts_go 0 m.known r.1.1 m x y h m ps r

  ends_go : (t : PvType) (a : ℕ) (zs : List ℤ) (x : Judged) (y : Lazily (List Pick) Final) → Judges x y
      → Judges x (name_ends final S t a zs y)
  ends_go t a [] x y h m ps r = h m ps r
  ends_go t a (z ∷ zs) x y h m ps r = all_go x _ (ends_go t a zs x y h) _ ps r

  noticing_goes : (e : Event) (x : Judged) (y : Lazily (List Pick) Final) → Judges x y → Judges x (lazy_event final S e y)
  noticing_goes (AtField c o f) x y h m ps r = h _ ps r
  noticing_goes (AtToken t c o) x y h m ps r = h _ ps r
  noticing_goes (AtLock c o) x y h m ps r = h _ ps r
  noticing_goes (AtInstance c d o vs) x y h m ps r = h _ ps r
  noticing_goes (AtArray t a ends) x y h m ps r = ends_go t a ends x y h m ps r
  noticing_goes (AtArrayLength t a) x y h m ps r = h _ ps r

  first_judges : (k : Known) (n : ℕ) (x : Judged) (y : Lazily (List Pick) Final) → Judges x y
      → Judges (test_from J k k.low n x) (first_shown final S k n y)
  first_judges k zero x y h = h
  first_judges k (suc n) x y h =
      test_at_related J L Judges tests_judge k k.low _ _
      (λ m ps r. test_from_related J L Judges tests_judge k (k.low +ℤ pos 1) n x (quieted false y) (λ m2 qs s. h _ qs s)
      (record m { quiet = true }) ps r)

  parts_go : (ends : List ℤ) (qs : List ArrayPart) (x : Judged) (y : Lazily (List Pick) Final) → Judges x y
      → Judges x (part_events final S ends qs y)
  parts_go ends [] x y h = h
  parts_go ends (q ∷ qs) x y h = ends_go q.type q.array (shifted ends q.shift) x _ (parts_go ends qs x y h)

  known_judges : (b : Bool) (k : Known) (x : Judged) (y : Lazily (List Pick) Final) → Judges x y
      → Judges (test_from J k k.low (width k.low k.high) x) (known_if final S b k y)
  known_judges true k x y h m ps r = first_judges k (width k.low k.high) x y h m ps r
  known_judges false k x y h m ps r = elim (all_decide k k.low (width k.low k.high)) [
    | inr b ↦ inr (b x ps)
    | inl q ↦ subst (λ (z : End). (z ≡ as_end (known_if final S false k y m ps).end.end) ⊎ (z ≡ Blocked))
        (sym (all_pass k k.low (width k.low k.high) q x ps))
        (parts_go k.ends k.parts x (join_fact k (test_all final S y))
        (λ n ts s. all_go x y h _ ts (s.0, (s.1.0, all_hold_more n.known k s.1.1 q))) m ps r)
  ]

  runs_judge : AreRelated (judging maps table) (lazy final S) Judges
  runs_judge = otherwise J L Judges tests_judge _ _ _ _ noticing_goes (λ k x y h. known_judges (reads_none k.parts) k x y h)

pub judges_as_lazy : JudgesAsLazy
judges_as_lazy p unit evidence =
    judge_related _ _ (Judges (maps_of evidence.picks) evidence.table) (runs_judge (maps_of evidence.picks) evidence.table) p
    (task_of p unit) no_memory evidence.picks (tt, (tt, tt))

-- the same up to the first inhale
pub enters_as_lazy : EntersAsLazy
enters_as_lazy p unit evidence =
    enter_task_related _ _ (Judges (maps_of evidence.picks) evidence.table) (runs_judge (maps_of evidence.picks) evidence.table)
    (task_of p unit) no_memory evidence.picks (tt, (tt, tt))
