-- A run that takes a condition at one position, and a run that takes it repeated over that position alone, follow each other.
use Rattle.std.proofs.Common.{◌≡◌, ◌⊎◌, inl, inr, ℤ, pos, ◌+ℤ◌, Bool, true, false, option_map, List, ◌∷◌, refl, sym, ◌∙◌, ap, subst}
use Rattle.std.specs.Prelude.{if◌then◌else◌}
use Rattle.std.specs.List.{AllByRecursion}
use Rattle.pv_base.specs.declared.Name.{Name}
use Rattle.pv_base.specs.declared.Span.{Span}
use Rattle.pv_picks.specs.declared.check.Check.TheVariants as check
use Rattle.pv_picks.specs.declared.evidence.Pick.{Pick}
use Rattle.pv_picks.specs.declared.evidence.Entry.{Entry}
use Rattle.pv_picks.specs.Plain.Core.{Expression}
use Rattle.pv_picks.specs.Formulas.Values.{truth_in, within, width}
use Rattle.pv_picks.specs.Formulas.Evaluation.{Scene}
use Rattle.pv_picks.specs.Judge.States.{State, Resource, Cells, cells_of}
use Rattle.pv_picks.specs.Judge.Repetitions.{Range, looks_of}
use Rattle.pv_picks.specs.Judge.Steady.{IsTermLook}
use Rattle.pv_picks.specs.Judge.Inhaling.{inhale_repeated}
use Rattle.pv_picks.specs.Judge.Runs.{Blocked, Maps, content, judging}
use Rattle.core_sharing.specs.Following.{Lengths}
use Rattle.core_sharing.specs.Renumbering.{Run, GoOn}
use Rattle.core_sharing.specs.Inhaled.{bound}
use Rattle.core_sharing.proofs.AtPosition.{at}
use Rattle.core_sharing.proofs.OnePosition.{IsOne, one_is, one_within, width_one, and_true}
use Rattle.core_sharing.proofs.Looking.{Outcome, Missing, Read, Values, outcome, Looks, Nothing, looks_itself, looks_on}
use Rattle.core_sharing.proofs.Meets.{Meet, meets_on, failed_meets, pick_first, pick_then, reading, frame, on_outcome, read_looks, values_in, reads_itself, reads_alike}
use Rattle.core_sharing.proofs.Ahead.{holds, passes, knowing_looks}
use Rattle.core_sharing.proofs.Inhaling.{parts_look, knowing, if_holds, tested_at}

-- what comes of a condition
data Ending : Type 0 where
  Fails : Span → Ending
  Stops : Ending
  GoesOn : Ending

abbrev if_goes : Bool → Ending
if_goes b = if b then GoesOn else Stops

-- that is read, and then known where it passes
abbrev read_ending : Outcome → Bool → Ending
read_ending (Missing span) passed = Fails span
read_ending (Read v) passed = if truth_in v then if_goes passed else Stops

module _ (table : List Entry) (before before' : Cells) (scene : Scene) (name : Name) (e : Expression) (r : Range) (i : ℤ)
    (single : IsOne r i) (terms : AllByRecursion (IsTermLook name) (looks_of name e)) where
  abbrev Meeting : Run → Run → Type 0
  Meeting one other = Meet table before before' one other

  abbrev ending : Run → Ending → Run
  ending next (Fails span) = frame table before before' span
  ending next Stops = λ m st. (judging m table).blocked
  ending next GoesOn = next

  endings_meet : (next next' : Run) → Meeting next next' → (x : Ending) → Meeting (ending next x) (ending next' x)
  endings_meet next next' meets (Fails span) = failed_meets table before before' check.Frame span
  endings_meet next next' meets Stops = record { from = λ taken s picks knows. inl refl }
  endings_meet next next' meets GoesOn = meets

  -- the condition, at the position
  abbrev fact : Cells → Run → Run
  fact cells next = reading table before before' cells (at scene name i) e (if_holds table before before' next)

  abbrev known : Cells → Run → Run
  known cells next = knowing table before before' cells scene name e r next

  abbrev looked : Cells → Run → Run
  looked cells next = tested_at table before before' cells scene name e r i (known cells next)

  module _ (Such : Maps → Type 0) (s : State) (cells : Cells) (nows olds : Values)
      (hn : (m : Maps) → Such m → (q : Resource) → option_map (content m) (cells_of s q) ≡ nows q)
      (ho : (m : Maps) → Such m → (q : Resource) → option_map (content m) (cells q) ≡ olds q) where
    abbrev read : Lengths → Outcome
    read lengths = outcome table nows olds lengths (at scene name i) e (λ v. Read v)

    abbrev passed : Lengths → Bool
    passed lengths = passes table nows olds scene name e r.low (width r.low r.high) lengths

    abbrev Seeing : (Lengths → Ending) → Run → Run → Type 0
    Seeing o next run = Looks table Such s o (Nothing table Such s) (ending next) run

    stops_look : (next : Run) → Seeing (λ lengths. Stops) next (λ m st. (judging m table).blocked)
    stops_look next = looks_itself table Such s Stops (ending next)

    branch_look : (b : Bool) (o : Lengths → Ending) (next run : Run) → Seeing o next run
        → Seeing (λ lengths. if b then o lengths else Stops) next (λ m st. if b then run m st else (judging m table).blocked)
    branch_look true o next run h = h
    branch_look false o next run h = stops_look next

    -- a condition is read
    read_look : (o : Lengths → Bool) (next after : Run) → Seeing (λ lengths. if_goes (o lengths)) next after
        → Seeing (λ lengths. read_ending (read lengths) (o lengths)) next (fact cells after)
    read_look o next after h =
        looks_on table Such s read (on_outcome table before before' (if_holds table before before' after))
        (λ x lengths. read_ending x (o lengths)) (λ x. Nothing table Such s) (ending next) _
        (read_looks table before before' s Such cells nows olds hn ho (at scene name i) e (if_holds table before before' after))
        by
      where
        by : (x : Outcome)
            → Seeing (λ lengths. read_ending x (o lengths)) next
            (on_outcome table before before' (if_holds table before before' after) x)
        by (Missing span) = looks_itself table Such s (Fails span) (ending next)
        by (Read v) = branch_look (truth_in v) (λ lengths. if_goes (o lengths)) next after h

    fact_look : (next : Run) → Seeing (λ lengths. read_ending (read lengths) true) next (fact cells next)
    fact_look next = read_look (λ lengths. true) next next (looks_itself table Such s GoesOn (ending next))

    known_look : (next : Run) → Seeing (λ lengths. if_goes (passed lengths)) next (known cells next)
    known_look next =
        looks_on table Such s passed (passing next) (λ b lengths. if_goes b) (λ b. Nothing table Such s) (ending next) _
        (knowing_looks table Such s cells nows olds hn ho scene name e r next terms) by
      where
        passing : Run → Bool → Run
        passing after b m st = if b then after m st else (judging m table).blocked

        by : (b : Bool) → Seeing (λ lengths. if_goes b) next (passing next b)
        by true = looks_itself table Such s GoesOn (ending next)
        by false = stops_look next

    looked_look : (next : Run) → Seeing (λ lengths. read_ending (read lengths) (passed lengths)) next (looked cells next)
    looked_look next =
        parts_look table Such s cells nows olds hn ho scene (λ lengths. read_ending (read lengths) (passed lengths)) (ending next)
        (looks_of name e) (i ∷ (i +ℤ pos 1) ∷ r.bounds) (fact cells (known cells next))
        (read_look passed next (known cells next) (known_look next))

  -- at one position a fact passes where it is read as true
  passes_one : (nows olds : Values) (lengths : Lengths)
      → passes table nows olds scene name e r.low (width r.low r.high) lengths
      ≡ holds table nows olds scene (outcome table nows olds lengths (at scene name i) e (λ v. Read v))
  passes_one nows olds lengths =
      ap (λ n. passes table nows olds scene name e r.low n lengths) (width_one r.low r.high i single.low single.high)
      ∙ and_true _
      ∙ ap (λ z. holds table nows olds scene (outcome table nows olds lengths (at scene name z) e (λ v. Read v))) single.low

  endings_same : (nows olds : Values) (w : Outcome) (p : Bool) → p ≡ holds table nows olds scene w
      → read_ending w true ≡ read_ending w p
  endings_same nows olds (Missing span) p is = refl
  endings_same nows olds (Read v) p is = by (truth_in v) is
    where
      by : (b : Bool) → p ≡ b → (if b then GoesOn else Stops) ≡ (if b then if_goes p else Stops)
      by true is = ap if_goes (sym is)
      by false is = refl

  on_ending : (nows olds : Values) (w : Outcome) (p : Bool) → p ≡ holds table nows olds scene w → if_goes p ≡ GoesOn
      → read_ending w true ≡ GoesOn
  on_ending nows olds (Missing span) p is goes = absurd (stuck p is goes)
    where
      stuck : (b : Bool) → b ≡ false → if_goes b ≡ GoesOn → ⊥
      stuck true is goes = cc is
      stuck false is goes = cc goes
  on_ending nows olds (Read v) p is goes = by p (truth_in v) is goes
    where
      by : (p b : Bool) → p ≡ b → if_goes p ≡ GoesOn → (if b then GoesOn else Stops) ≡ GoesOn
      by p true is goes = refl
      by true false is goes = absurd (cc is)
      by false false is goes = absurd (cc goes)

  abbrev nows_of : Maps → State → Values
  nows_of maps s = values_in table before before' maps (cells_of s)

  abbrev olds_of : Maps → Values
  olds_of maps = values_in table before before' maps before

  now : (s : State) (maps m : Maps) → m ≡ maps → (q : Resource) → option_map (content m) (cells_of s q) ≡ nows_of maps s q
  now s maps m is q = reads_itself table before before' s maps m is q

  old : (maps m : Maps) → m ≡ maps → (q : Resource) → option_map (content m) (before q) ≡ olds_of maps q
  old maps m is q = ap (λ (x : Maps). option_map (content x) (before q)) is

  -- The fact first

  fact_then : (next next' : Run) → Meeting next next' → Meeting (fact before next) (looked before' next')
  fact_then next next' meets =
      meets_on table before before' (ending next) (ending next') _ _ (λ taken s maps on. record {
        o = λ lengths. read_ending (read (λ m. m ≡ maps) s before (nows_of maps s) (olds_of maps) (now s maps) (old maps) lengths)
            true;
        o' = λ lengths. read_ending
            (read (λ m. m ≡ maps) s before (nows_of maps s) (olds_of maps) (now s maps) (old maps) lengths)
            (passes table (nows_of maps s) (olds_of maps) scene name e r.low (width r.low r.high) lengths);
        first = fact_look (λ m. m ≡ maps) s before (nows_of maps s) (olds_of maps) (now s maps) (old maps) next;
        second = λ taken' s' alike.
            looked_look (GoOn s'.steps taken') s' before' (nows_of maps s) (olds_of maps)
            (λ m on' q. reads_alike table before before' taken s maps on taken' s' alike m on' q)
            (λ m on' q. sym (alike.read.content maps m on on' q)) next';
        match = λ x. inr (
          x,
          endings_meet next next' meets x,
          λ lengths same.
              sym (endings_same (nows_of maps s) (olds_of maps) _ _ (passes_one (nows_of maps s) (olds_of maps) lengths)) ∙ same,
        );
      })

  pub fact_first : (next next' : Run) → Meeting next next'
      → Meeting (fact before next) (λ m. inhale_repeated (judging m table) (bound scene before') name e r (next' m))
  fact_first next next' meets =
      pick_then table before before' (fact before next) marked i
      (subst (λ b. Meeting (fact before next) (λ m st. if b then looked before' next' m st else known before' next' m st))
      (sym (one_within r i single)) (fact_then next next' meets))
    where
      marked : ℤ → Run
      marked mark m st =
          if within r.low r.high mark
          then tested_at table before before' before' scene name e r mark (known before' next') m st
          else known before' next' m st

  -- The repeated one first

  looked_then : (next next' : Run) → Meeting next next' → Meeting (looked before next) (fact before' next')
  looked_then next next' meets =
      meets_on table before before' (ending next) (ending next') _ _ (λ taken s maps on. record {
        o = λ lengths. read_ending (read (λ m. m ≡ maps) s before (nows_of maps s) (olds_of maps) (now s maps) (old maps) lengths)
            (passes table (nows_of maps s) (olds_of maps) scene name e r.low (width r.low r.high) lengths);
        o' = λ lengths. read_ending
            (read (λ m. m ≡ maps) s before (nows_of maps s) (olds_of maps) (now s maps) (old maps) lengths) true;
        first = looked_look (λ m. m ≡ maps) s before (nows_of maps s) (olds_of maps) (now s maps) (old maps) next;
        second = λ taken' s' alike.
            fact_look (GoOn s'.steps taken') s' before' (nows_of maps s) (olds_of maps)
            (λ m on' q. reads_alike table before before' taken s maps on taken' s' alike m on' q)
            (λ m on' q. sym (alike.read.content maps m on on' q)) next';
        match = λ x. inr (
          x,
          endings_meet next next' meets x,
          λ lengths same.
              endings_same (nows_of maps s) (olds_of maps) _ _ (passes_one (nows_of maps s) (olds_of maps) lengths) ∙ same,
        );
      })

  known_then : (next next' : Run) → Meeting next next' → Meeting (known before next) (fact before' next')
  known_then next next' meets =
      meets_on table before before' (ending next) (ending next') _ _ (λ taken s maps on. record {
        o = λ lengths. if_goes (passes table (nows_of maps s) (olds_of maps) scene name e r.low (width r.low r.high) lengths);
        o' = λ lengths. read_ending
            (read (λ m. m ≡ maps) s before (nows_of maps s) (olds_of maps) (now s maps) (old maps) lengths) true;
        first = known_look (λ m. m ≡ maps) s before (nows_of maps s) (olds_of maps) (now s maps) (old maps) next;
        second = λ taken' s' alike.
            fact_look (GoOn s'.steps taken') s' before' (nows_of maps s) (olds_of maps)
            (λ m on' q. reads_alike table before before' taken s maps on taken' s' alike m on' q)
            (λ m on' q. sym (alike.read.content maps m on on' q)) next';
        match = λ x. matched (nows_of maps s) (olds_of maps) x;
      })
    where
      never : (b : Bool) (span : Span) → if_goes b ≡ Fails span → ⊥
      never true span is = cc is
      never false span is = cc is

      matched : (nows olds : Values) (x : Ending)
          → ((m : Maps) (st : State) (picks : List Pick) → ending next x m st picks ≡ Blocked)
          ⊎ ((x' : Ending) × Meeting (ending next x) (ending next' x')
          × ((lengths : Lengths) → if_goes (passes table nows olds scene name e r.low (width r.low r.high) lengths) ≡ x
          → read_ending (outcome table nows olds lengths (at scene name i) e (λ v. Read v)) true ≡ x'))
      matched nows olds (Fails span) = inr (
        Fails span,
        endings_meet next next' meets (Fails span),
        λ lengths same.
            absurd (never (passes table nows olds scene name e r.low (width r.low r.high) lengths) span same),
      )
      matched nows olds Stops = inl (λ m st picks. refl)
      matched nows olds GoesOn =
          inr (GoesOn, meets, λ lengths same. on_ending nows olds _ _ (passes_one nows olds lengths) same)

  pub repeated_first : (next next' : Run) → Meeting next next'
      → Meeting (λ m. inhale_repeated (judging m table) (bound scene before) name e r (next m)) (fact before' next')
  repeated_first next next' meets =
      pick_first table before before' marked (fact before' next') (λ mark. by mark (within r.low r.high mark) refl)
    where
      tested : ℤ → Run
      tested mark = tested_at table before before' before scene name e r mark (known before next)

      marked : ℤ → Run
      marked mark m st = if within r.low r.high mark then tested mark m st else known before next m st

      by : (mark : ℤ) (b : Bool) → within r.low r.high mark ≡ b
          → Meeting (λ m st. if b then tested mark m st else known before next m st) (fact before' next')
      by mark false is = known_then next next' meets
      by mark true is =
          subst (λ z. Meeting (tested z) (fact before' next')) (sym (one_is r i mark single is)) (looked_then next next' meets)
