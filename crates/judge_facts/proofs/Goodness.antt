-- All that a lazy run knows at its end is fair, so the judge ends as it does.
use Rattle.std.proofs.Common.{◌≡◌, ℕ, ℤ, Bool, true, false, if◌then◌else◌, Option, Some, None, List, [], ◌∷◌, ◌++◌, refl, sym, subst, ◌∙◌, inl, inr, arith}
use Rattle.std.specs.Prelude.{nat_lt, ◌+ℤ◌, ◌-ℤ◌}
use Rattle.std.proofs.lemmas.Int.{ints}
use Rattle.pv_base.specs.declared.Name.{Name}
use Rattle.pv_ast.specs.declared.PvType.{PvType}
use Rattle.pv_values.specs.declared.value.Value.{Value}
use Rattle.pv_picks.specs.declared.evidence.Pick.{Pick}
use Rattle.pv_picks.specs.declared.evidence.Pick.TheVariants.{Number, Turn, Steps}
use Rattle.pv_picks.specs.declared.evidence.Entry.{Entry}
use Rattle.pv_picks.specs.Plain.Core.{Operation, Expression}
use Rattle.pv_picks.specs.Formulas.Values.{width}
use Rattle.pv_picks.specs.Judge.States.{State, Cell, Bind, Written, FromSteps, as_element, cells_of}
use Rattle.pv_picks.specs.Judge.Settings.{Setting, Event, AtField, AtToken, AtLock, AtInstance, AtArray, AtArrayLength, ArrayPart, Known}
use Rattle.pv_picks.specs.Judge.Repetitions.{Range, shifted, looks_of}
use Rattle.pv_picks.specs.Judge.Steady.{Steady}
use Rattle.pv_picks.specs.Judge.Inhaling.{known_of}
use Rattle.pv_picks.specs.Judge.UnitRuns.{task_of}
use Rattle.pv_picks.specs.Judge.Runs.{Maps, maps_of, content, value_of_operation, judge}
use Rattle.pv_picks.specs.Lazy.Patterns.{Array, positions_of_parts, array_in, arrays_in, named_on, lowered}
use Rattle.pv_picks.specs.Lazy.Runs.{taken_in, ranged, Memory, RangeOf, Final, final, Outcome, at_end, Unfit, OneNumber, OneTurn, Source, Lazily, lazy_run, element_or, operation_or, value_read, value_used, with_event, known_if, no_memory}
use Rattle.judge_laws.specs.Judging.{as_end}
use Rattle.judge_facts.specs.Finite.{IsOneOf}
use Rattle.judge_facts.specs.Fair.{Covered, shift_of, names_of, IsFair}
use Rattle.judge_laws.proofs.Lookups.{fits_more, read_right, used_right}
use Rattle.judge_facts.proofs.Lockstep as lockstep
use Rattle.judge_facts.proofs.Naming.{own_names, is_last, PartsNamed}
use Rattle.judge_facts.proofs.Ways as ways
use Rattle.judge_facts.proofs.Pairing as pairing
use Rattle.judge_facts.proofs.Keeping.{IsKept, Kept, Made, Looked, SameCells, AllShifted, cells_same}
use Rattle.judge_facts.proofs.Evenness as even
use Rattle.judge_facts.proofs.Covering.{covered}
use Rattle.judge_facts.proofs.Shifting.{steady_shifted}
use Rattle.judge_facts.proofs.KeepingStatements.{judge_kept}
use Rattle.judge_facts.specs.Shapes.{IsShaped}
use Rattle.judge_facts.specs.Carried.{JudgesAsLazyRun}
use Rattle.judge_facts.proofs.Spreading.{fair_facts_spread, let_down}
use Rattle.judge_laws.proofs.Judging as judging
use Rattle.judge_laws.proofs.Statements.{judge_related}

module _ (maps : Maps) (table : List Entry) (N : Array → List ℤ) where
  abbrev Lazy : Type 0
  Lazy = Lazily (List Pick) Final

  abbrev S : Source (List Pick) Final
  S = ways.S maps table

  abbrev Pair : Type 0
  Pair = pairing.Pair maps table

  abbrev T : Setting Pair
  T = pairing.T maps table

  abbrev Fit : Memory → Type 0
  Fit m = ways.Fit maps table m

  abbrev Live : Final → Type 0
  Live f = lockstep.Live maps table f

  abbrev LowNamed : ℤ → List ArrayPart → Type 0
  LowNamed low [] = ⊥
  LowNamed low (part ∷ parts) = IsOneOf (low +ℤ part.shift) (N (array_in part))

  pub record IsGood (k : Known) : Type 0 where
    pub low : LowNamed k.low k.parts
    pub steady : Steady k.name (shift_of k.parts) k.fact
    pub covered : Covered maps table k.state (cells_of k.state) k.bind.old k.bind.scene k.name
        (λ type array. IsOneOf (type, array) (arrays_in k)) k.fact
    pub now : even.EvenCells maps N (cells_of k.state)
    pub old : even.EvenCells maps N k.bind.old

  abbrev AllGood : List Known → Type 0
  AllGood ks = (k : Known) → IsOneOf k ks → IsGood k

  -- the names are those, and the ranges are carried
  pub record Fits (f : Final) : Type 0 where
    pub names : (a : Array) (z : ℤ) → IsOneOf z (named_on [] f.events a) → IsOneOf z (N a)
    pub ranges : (x : RangeOf) → IsOneOf x f.ranges → even.Carried maps N x.number x.type x.array

  abbrev Good : List Known → Final → Type 0
  Good known f = Live f → Fits f → AllGood known → AllGood f.known

  abbrev Holds : Pair → Type 0
  Holds x = (m : Memory) (ps : List Pick) → Fit m → Good m.known (x.0 m ps).end

  way_good : (known : List Known) (Q : Memory → Type 0) (ps : List Pick) (y : Lazy) (o : Final) → ways.Way maps table Q ps y o
      → ((n : Memory) → Fit n → Q n → Good known (y n ps).end) → Good known o
  way_good known Q ps y o (inl w) f = subst (λ (z : Final). Good known z) (sym w.1.1.1) (f w.0 w.1.0 w.1.1.0)
  way_good known Q ps y o (inr b) f = λ l. absurd (l.0 b)

  pick_holds : (ty : PvType) (f : ℤ → Pair) → ((z : ℤ) → Holds (f z)) → Holds (T.pick ty f)
  pick_holds ty f h m [] r l = absurd (l.1 refl)
  pick_holds ty f h m (Number z ∷ ps) r l = h z (taken_in (OneNumber z) m) ps r l
  pick_holds ty f h m (Turn n ∷ ps) r l = absurd (l.1 refl)
  pick_holds ty f h m (Steps x ∷ ps) r l = absurd (l.1 refl)

  by_turn : (b : Bool) (known : List Known) (m : Memory) (y : Outcome Final) → Good known y.end
      → Good known (if b then y else at_end (final Unfit m)).end
  by_turn true known m y h = h
  by_turn false known m y h = λ l. absurd (l.1 refl)

  turn_holds : (f : ℕ → Pair) → ((n : ℕ) → Holds (f n)) → Holds (T.turn f)
  turn_holds f h m [] r = λ l. absurd (l.1 refl)
  turn_holds f h m (Number z ∷ ps) r = λ l. absurd (l.1 refl)
  turn_holds f h m (Turn n ∷ ps) r =
      by_turn (nat_lt n 3) m.known (taken_in (OneTurn n) m) ((f n).0 (taken_in (OneTurn n) m) ps)
      (h n (taken_in (OneTurn n) m) ps r)
  turn_holds f h m (Steps x ∷ ps) r = λ l. absurd (l.1 refl)

  steps_hold : (n : ℕ) (t : PvType) (a : ℕ) (x : Pair) → (even.Carried maps N n t a → Holds x) → Holds (T.steps n t a x)
  steps_hold n t a x h m [] r l = absurd (l.1 refl)
  steps_hold n t a x h m (Number z ∷ ps) r l = absurd (l.1 refl)
  steps_hold n t a x h m (Turn u ∷ ps) r l = absurd (l.1 refl)
  steps_hold n t a x h m (Steps z ∷ ps) r l = λ fits g.
      let grown = x.1 (ranged n t a m) ps r l in
      h (fits.ranges (record { number = n; type = t; array = a })
      (grown.ranges (record { number = n; type = t; array = a })
      (is_last m.ranges (record { number = n; type = t; array = a })))) (ranged n t a m) ps r l fits g

  operation_holds : (x : Option ℤ) (o : Operation) (b c : ℤ) (f : ℤ → Pair) → Holds (f (value_of_operation table o b c))
      → (m : Memory) (ps : List Pick) → Fit m → ((z : ℤ) → x ≡ Some z → value_of_operation table o b c ≡ z)
      → Good m.known (operation_or final S x o b c (λ z. (f z).0) m ps).end
  operation_holds (Some z) o b c f h m ps r e = subst (λ (w : ℤ). Good m.known ((f w).0 m ps).end) (e z refl) (h m ps r)
  operation_holds None o b c f h m ps r e =
      h (record m { uses = m.uses ++ record { used = (o, b, c); value = value_of_operation table o b c } ∷ [] }) ps
      (r.0, fits_more table m.uses _ r.1 refl)

  element_holds : (o : Option ℤ) (ty : PvType) (n : ℕ) (i : ℤ) (f : ℤ → Pair) → Holds (f (maps n i))
      → (m : Memory) (ps : List Pick) → Fit m
      → ((z : ℤ) → o ≡ Some z → maps n i ≡ z) → Good m.known (element_or final S o ty n i (λ z. (f z).0) m ps).end
  element_holds (Some z) ty n i f h m ps r e = subst (λ (w : ℤ). Good m.known ((f w).0 m ps).end) (e z refl) (h m ps r)
  element_holds None ty n i f h m ps r e =
      h (record m { reads = record { number = n; index = i; value = maps n i } ∷ m.reads }) ps ((refl, r.0), r.1)

  reading_holds : (c : Cell) (f : Value → Pair) → Unit {0} → Holds (f (content maps c)) → Holds (T.reading c f)
  reading_holds (Written v) f g h m ps r = h m ps r
  reading_holds (FromSteps t n i) f g h m ps r =
      element_holds (value_read m.reads n i) t n i (λ z. f (as_element t z)) h m ps r (λ z e. read_right maps m.reads n i z r.0 e)

  noticing_holds : (e : Event) (x : Pair) → (even.Named maps N e → Holds x) → Holds (T.noticing e x)
  noticing_holds (AtField c o n) x h m ps r = h tt (record m { events = with_event (AtField c o n) m.events }) ps r
  noticing_holds (AtToken k c o) x h m ps r = h tt (record m { events = with_event (AtToken k c o) m.events }) ps r
  noticing_holds (AtLock c o) x h m ps r = h tt (record m { events = with_event (AtLock c o) m.events }) ps r
  noticing_holds (AtInstance c k o vs) x h m ps r = h tt (record m { events = with_event (AtInstance c k o vs) m.events }) ps r
  noticing_holds (AtArrayLength t a) x h m ps r = h tt (record m { events = with_event (AtArrayLength t a) m.events }) ps r
  noticing_holds (AtArray t a ends) x h m ps r =
      way_good m.known (ways.Ended maps table t a ends m) ps x.0 _ (ways.ends_way maps table t a ends x.0 m ps r)
      (λ n s q l fits g. h (λ z i. fits.names (t, a) z ((x.1 n ps s l).names (t, a) z (q.1 z i))) n ps s l fits
      (subst AllGood (sym q.0.0) g))

  -- what comes to be known
  known_none : (k : Known) (x : Pair) → Holds x → (m : Memory) (ps : List Pick) → Fit m
      → Good m.known (known_if final S true k x.0 m ps).end
  known_none k x h m ps r =
      way_good m.known _ ps x.0 _ (ways.shown_way maps table k (width k.low k.high) x.0 m ps r)
      (λ n s q l fits g. h n ps s l fits (subst AllGood (sym q.0.1.0) g))

  all_more : (ks : List Known) (k : Known) → AllGood ks → IsGood k → AllGood (ks ++ k ∷ [])
  all_more [] k g h j (inl e) = subst IsGood (sym e) h
  all_more [] k g h j (inr i) = absurd i
  all_more (x ∷ xs) k g h j (inl e) = g j (inl e)
  all_more (x ∷ xs) k g h j (inr i) = all_more xs k (λ l m. g l (inr m)) h j i

  known_parts : (k : Known) (part : ArrayPart) (parts : List ArrayPart) (bounds : List ℤ) → k.parts ≡ part ∷ parts
      → k.ends ≡ k.low ∷ bounds → (LowNamed k.low (part ∷ parts) → IsGood k) → (x : Pair) → Holds x
      → (m : Memory) (ps : List Pick) → Fit m → Good m.known (known_if final S false k x.0 m ps).end
  known_parts k part parts bounds ep ee good x h m ps r =
      way_good m.known (ways.Joined maps table k m) ps x.0 _ (ways.joined_way maps table k x.0 m ps r)
      (λ o s q l fits g.
      let first = (subst (λ (xs : List ArrayPart). PartsNamed k.ends xs o.events) ep q.2).0 in
      let z = k.low +ℤ part.shift in
      let there : IsOneOf z (shifted k.ends part.shift) =
      subst (λ (xs : List ℤ). IsOneOf z (shifted xs part.shift)) (sym ee) (inl refl) in
      let low : LowNamed k.low (part ∷ parts) =
      fits.names (array_in part) z ((x.1 o ps s l).names (array_in part) z (first z there)) in
      h o ps s l fits (subst AllGood (sym q.0) (all_more m.known k g (good low))))

  first_shift : (z : ℤ) (part : ArrayPart) (parts : List ArrayPart) → AllShifted z (part ∷ parts) → part.shift ≡ z
  first_shift z part parts h = h.0

  knowing_holds : (first s : State) (b : Bind) (name : Name) (e : Expression) (x : Range) (parts : List ArrayPart) (y : Pair)
      → even.Even maps N s → even.EvenCells maps N b.old → SameCells first s → IsShaped name e
      → Made maps first b (looks_of name e) parts → Looked maps table (even.invariant maps N) s b (looks_of name e) → Holds y
      → Holds (T.knowing (known_of T s b name e x parts) y)
  knowing_holds first s b name e x [] y ev ov same sh made lk h m ps r = known_none (known_of T s b name e x []) y h m ps r
  knowing_holds first s b name e x (part ∷ parts) y ev ov same (places, inr none) made lk h m ps r = absurd (cc (made.none none))
  knowing_holds first s b name e x (part ∷ parts) y ev ov same (places, inl (z, steady)) made lk h m ps r =
      let k : Known = known_of T s b name e x (part ∷ parts) in
      known_parts k part parts (x.high ∷ x.bounds) refl refl
      (λ low. record {
        low = low;
        steady = subst (λ (w : ℤ). Steady name w e)
            (sym (first_shift z part parts (made.shifted z (steady_shifted name z false e steady)))) steady;
        covered = covered maps table first s b (cells_same first s same) name z (part ∷ parts) e steady places made.parted;
        now = (even.closed maps N).cells s ev;
        old = ov;
      })
      y h m ps r

  kept : IsKept maps table T (λ n. Holds) (even.invariant maps N)
  kept = record {
    finished = λ n m ps r l fits g. g;
    blocked = λ n m ps r l. absurd (l.0 refl);
    failed = λ n check span m ps r l fits g. g;
    unfit = λ n m ps r l. absurd (l.1 refl);
    pick = λ n. pick_holds;
    turn = λ n. turn_holds;
    steps = steps_hold;
    using = λ n o b c f h m ps r.
        operation_holds (value_used m.uses (o, b, c)) o b c f h m ps r (λ z e. used_right table m.uses (o, b, c) z r.1 e);
    comparing = λ n b c x h m ps r. h m ps r;
    matching = λ n v w x h m ps r. h m ps r;
    deciding = λ n b x h m ps r. h m ps r;
    noticing = λ n. noticing_holds;
    reading = λ n. reading_holds;
    knowing = knowing_holds;
  }

  -- the pair keeps what holds
  abbrev runs_keep : Kept maps table T (λ n. Holds)
  runs_keep = record { invariant = even.invariant maps N; is_kept = kept; closed = even.closed maps N }

-- At the end

good_fair : (maps : Maps) (table : List Entry) (f : Final) (k : Known) → IsGood maps table (names_of f) k → IsFair maps table f k
good_fair maps table f k g = record { low = low k.parts g.low; steady = g.steady; covered = g.covered; now = g.now; old = g.old }
  where
    low : (parts : List ArrayPart) → LowNamed maps table (names_of f) k.low parts
        → IsOneOf k.low (positions_of_parts f.known f.events parts)
    low [] h = absurd h
    low (part ∷ parts) h =
        let e : (k.low +ℤ part.shift) -ℤ part.shift ≡ k.low = omega (arith, ints) in
        subst (λ (z : ℤ). IsOneOf z (lowered part.shift (named_on f.known f.events (array_in part)))) e
        (let_down part.shift (named_on f.known f.events (array_in part)) (k.low +ℤ part.shift) h)

pub judges_as_lazy_run : JudgesAsLazyRun
judges_as_lazy_run p unit evidence shaped task carries =
    let maps : Maps = maps_of evidence.picks in
    let table : List Entry = evidence.table in
    let f : Final = (lazy_run p unit evidence).end in
    let good = judge_kept (runs_keep maps table (names_of f)) p shaped (task_of p unit) task (even.empty_even maps (names_of f))
    no_memory evidence.picks (tt, tt) in
    let there : Good maps table (names_of f) [] f =
    subst (λ (o : Outcome Final). Good maps table (names_of f) [] o.end)
    (pairing.paired maps table p (task_of p unit) no_memory evidence.picks) good in
    lockstep.by_end (judge p unit evidence ≡ as_end f.end) f.end
    (λ b. elim (judging.judges_as_lazy p unit evidence) [ inl h ↦ h | inr h ↦ h ∙ sym b ])
    (λ l.
    let known = there l (record { names = λ a z i. own_names f.known f.events a z i; ranges = λ x i. carries x i })
    (λ k i. absurd i) in
    (judge_related _ _ (lockstep.Steps' maps table) (lockstep.runs_step maps table) p (task_of p unit) no_memory evidence.picks
    (tt, tt)
    (λ n i e. absurd (cc e), tt) l).2
    (λ k i. fair_facts_spread maps table f k i (good_fair maps table f k (known k i))))
