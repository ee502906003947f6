-- A drawn run is the lazy run of evidence with its picks, whose maps and table fit what it remembers.
use Rattle.std.proofs.Common.{◌≡◌, ℕ, suc, ℤ, Bool, true, false, if◌then◌else◌, Option, Some, None, List, [], ◌∷◌, ◌++◌, refl, ap, sym, subst}
use Rattle.std.specs.Prelude.{nat_lt}
use Rattle.pv_ast.specs.declared.PvType.{PvType}
use Rattle.pv_values.specs.declared.value.Value.{Value}
use Rattle.pv_ast.specs.declared.PvType.TheVariants.{Int}
use Rattle.pv_picks.specs.declared.evidence.Pick.{Pick}
use Rattle.pv_picks.specs.declared.evidence.Pick.TheVariants.{Number, Turn, Steps}
use Rattle.pv_picks.specs.declared.evidence.Entry.{Entry}
use Rattle.pv_picks.specs.Plain.Core.{Operation}
use Rattle.pv_picks.specs.Judge.States.{Cell, Written, FromSteps, as_element, as_element_type}
use Rattle.pv_picks.specs.Judge.UnitRuns.{task_of}
use Rattle.pv_picks.specs.Judge.Runs.{Maps, maps_of, value_of_operation}
use Rattle.pv_picks.specs.Lazy.Patterns.{Shown, Took}
use Rattle.pv_picks.specs.Lazy.Runs.{taken_in, ranged, Memory, Final, final, UsedFor, Source, Lazily, Unfit, Outcome, Taken, OneNumber, OneTurn, ForRange, with_event, at_end, showing, taking, picking, testing, from_picks, Drawn, from_values, element_or, operation_or, value_read, value_used, no_memory}
use Rattle.judge_laws.specs.Related.{AreRelated}
use Rattle.judge_laws.proofs.Taking.{throughout}
use Rattle.judge_laws.specs.Drawing.{kinds, FitReads, FitsUses, DrawnRunsAsLazy}
use Rattle.judge_laws.proofs.Sources.{lazy_related}
use Rattle.judge_laws.specs.Entering.{DrawnEntersAsLazy}
use Rattle.judge_laws.proofs.Statements.{judge_related, enter_task_related}

fits_front : (table : List Entry) (us : List UsedFor) (u : UsedFor) → FitsUses table (us ++ u ∷ []) → FitsUses table us
fits_front table [] u h = tt
fits_front table (x ∷ xs) u h = (h.0, fits_front table xs u h.1)

fits_last : (table : List Entry) (us : List UsedFor) (u : UsedFor) → FitsUses table (us ++ u ∷ [])
    → value_of_operation table u.used.0 u.used.1 u.used.2 ≡ u.value
fits_last table [] u h = h.0
fits_last table (x ∷ xs) u h = fits_last table xs u h.1

module _ (maps : Maps) (table : List Entry) (values : ℕ → ℤ) (turns : ℕ → ℕ) (more : List Taken) where
  abbrev One : Source (List Pick) Final
  One = from_picks maps table

  abbrev Other : Source Drawn Final
  Other = from_values values turns

  -- what fits in the end fitted before
  abbrev Kept : Memory → Outcome Final → Type 0
  Kept m o = (FitReads maps o.end.reads → FitReads maps m.reads) × (FitsUses table o.end.uses → FitsUses table m.uses)

  abbrev Comes : (List Pick → Outcome Final) → Outcome Final → Type 0
  Comes x o = (ps : List Pick) → kinds ps ≡ o.picks ++ more → FitReads maps o.end.reads → FitsUses table o.end.uses → x ps ≡ o

  abbrev Backs : Lazily (List Pick) Final → Lazily Drawn Final → Type 0
  Backs x y = (m : Memory) (d : Drawn) → Kept m (y m d) × Comes (x m) (y m d)

  abbrev next_value : Drawn → Drawn
  next_value d = record { taken = suc d.taken; turned = d.turned }

  abbrev next_turn : Drawn → Drawn
  next_turn d = record { taken = d.taken; turned = suc d.turned }

  first_number : (w v : ℤ) (ks ls : List Taken) → OneNumber w ∷ ks ≡ OneNumber v ∷ ls → w ≡ v
  first_number w v ks ls h = cc h

  first_turn : (w v : ℕ) (ks ls : List Taken) → OneTurn w ∷ ks ≡ OneTurn v ∷ ls → w ≡ v
  first_turn w v ks ls h = cc h

  others : (x y : Taken) (ks ls : List Taken) → x ∷ ks ≡ y ∷ ls → ks ≡ ls
  others x y ks ls h = cc h

  pick_backs : (ty : PvType) (f : ℤ → Lazily (List Pick) Final) (g : ℤ → Lazily Drawn Final) → ((z : ℤ) → Backs (f z) (g z))
      → Backs ((testing final One).pick ty f) ((testing final Other).pick ty g)
  pick_backs ty f g h m d = ((h (values d.taken) (taken_in (OneNumber (values d.taken)) m) (next_value d)).0, go)
    where
      go : Comes ((testing final One).pick ty f m) ((testing final Other).pick ty g m d)
      go [] k r u = absurd (cc k)
      go (Number w ∷ ps) k r u =
          subst (λ (x : ℤ). picking (OneNumber x) (taking ty x (f x (taken_in (OneNumber x) m) ps))
          ≡ (testing final Other).pick ty g m d) (sym (first_number w _ _ _ k))
          (ap (λ o. picking (OneNumber (values d.taken)) (taking ty (values d.taken) o))
          ((h (values d.taken) (taken_in (OneNumber (values d.taken)) m) (next_value d)).1 ps (others _ _ _ _ k) r u))
      go (Turn n ∷ ps) k r u = absurd (cc k)
      go (Steps x ∷ ps) k r u = absurd (cc k)

  kept_turn : (b : Bool) (m : Memory) (o : Outcome Final) → Kept m o → Kept m (if b then o else at_end (final Unfit m))
  kept_turn true m o k = k
  kept_turn false m o k = (λ h. h, λ h. h)

  turn_comes : (b : Bool) (m : Memory) (x : List Pick → Outcome Final) (o : Outcome Final) → Comes x o
      → Comes (λ ps. if b then x ps else at_end (final Unfit m)) (if b then o else at_end (final Unfit m))
  turn_comes true m x o h ps k r u = h ps k r u
  turn_comes false m x o h ps k r u = refl

  turn_backs : (f : ℕ → Lazily (List Pick) Final) (g : ℕ → Lazily Drawn Final) → ((n : ℕ) → Backs (f n) (g n))
      → Backs ((testing final One).turn f) ((testing final Other).turn g)
  turn_backs f g h m d = (
    kept_turn (nat_lt (turns d.turned) 3) (taken_in (OneTurn (turns d.turned)) m) _
        (h (turns d.turned) (taken_in (OneTurn (turns d.turned)) m) (next_turn d)).0,
    go,
  )
    where
      go : Comes ((testing final One).turn f m) ((testing final Other).turn g m d)
      go [] k r u = absurd (cc k)
      go (Number w ∷ ps) k r u = absurd (cc k)
      go (Turn n ∷ ps) k r u =
          subst (λ (x : ℕ). picking (OneTurn x) (showing (Took x ∷ [])
          (if nat_lt x 3 then f x (taken_in (OneTurn x) m) ps else at_end (final Unfit (taken_in (OneTurn x) m))))
          ≡ (testing final Other).turn g m d) (sym (first_turn n _ _ _ k))
          (ap (λ o. picking (OneTurn (turns d.turned)) (showing (Took (turns d.turned) ∷ []) o))
          (turn_comes (nat_lt (turns d.turned) 3) (taken_in (OneTurn (turns d.turned)) m)
          (f (turns d.turned) (taken_in (OneTurn (turns d.turned)) m)) _
          (h (turns d.turned) (taken_in (OneTurn (turns d.turned)) m) (next_turn d)).1 ps (others _ _ _ _ k) r u))
      go (Steps x ∷ ps) k r u = absurd (cc k)

  steps_back : (n : ℕ) (t : PvType) (a : ℕ) (x : Lazily (List Pick) Final) (y : Lazily Drawn Final) → Backs x y
      → Backs ((testing final One).steps n t a x) ((testing final Other).steps n t a y)
  steps_back n t a x y h m d = ((h (ranged n t a m) d).0, go)
    where
      go : Comes ((testing final One).steps n t a x m) ((testing final Other).steps n t a y m d)
      go [] k r u = absurd (cc k)
      go (Number w ∷ ps) k r u = absurd (cc k)
      go (Turn b ∷ ps) k r u = absurd (cc k)
      go (Steps z ∷ ps) k r u = ap (picking ForRange) ((h (ranged n t a m) d).1 ps (others _ _ _ _ k) r u)

  element_backs : (o : Option ℤ) (ty : PvType) (n : ℕ) (i : ℤ) (f : ℤ → Lazily (List Pick) Final) (g : ℤ → Lazily Drawn Final)
      → ((z : ℤ) → Backs (f z) (g z)) → Backs (element_or final One o ty n i f) (element_or final Other o ty n i g)
  element_backs (Some z) ty n i f g h m d = h z m d
  element_backs None ty n i f g h m d =
      let v = values d.taken in
      let read = λ (w : ℤ). record m { reads = record { number = n; index = i; value = w } ∷ m.reads } in
      let q = h v (read v) (next_value d) in (
        (λ r. (q.0.0 r).1, q.0.1),
        λ ps k r u. subst (λ (w : ℤ). taking (as_element_type ty) w (f w (read w) ps)
            ≡ taking (as_element_type ty) v (g v (read v) (next_value d))) (sym (q.0.0 r).0)
            (ap (taking (as_element_type ty) v) (q.1 ps k r u)),
      )

  operation_backs : (x : Option ℤ) (o : Operation) (b c : ℤ) (f : ℤ → Lazily (List Pick) Final) (g : ℤ → Lazily Drawn Final)
      → ((z : ℤ) → Backs (f z) (g z)) → Backs (operation_or final One x o b c f) (operation_or final Other x o b c g)
  operation_backs (Some z) o b c f g h m d = h z m d
  operation_backs None o b c f g h m d =
      let v = values d.taken in
      let used = λ (w : ℤ). record m { uses = m.uses ++ record { used = (o, b, c); value = w } ∷ [] } in
      let q = h v (used v) (next_value d) in (
        (q.0.0, λ u. fits_front table m.uses _ (q.0.1 u)),
        λ ps k r u. subst (λ (w : ℤ). taking Int w (f w (used w) ps) ≡ taking Int v (g v (used v) (next_value d)))
            (sym (fits_last table m.uses _ (q.0.1 u))) (ap (taking Int v) (q.1 ps k r u)),
      )

  reading_backs : (c : Cell) (f : Value → Lazily (List Pick) Final) (g : Value → Lazily Drawn Final)
      → ((v : Value) → Backs (f v) (g v)) → Backs ((testing final One).reading c f) ((testing final Other).reading c g)
  reading_backs (Written v) f g h m d = h v m d
  reading_backs (FromSteps type n i) f g h m d =
      element_backs (value_read m.reads n i) type n i _ _ (λ z. h (as_element type z)) m d

  shown_backs : (sh : List Shown) (m t : Memory) (x : List Pick → Outcome Final) (o : Outcome Final) → t.uses ≡ m.uses → t.reads
      ≡ m.reads → Kept t o × Comes x o → Kept m (showing sh o) × Comes (λ ps. showing sh (x ps)) (showing sh o)
  shown_backs sh m t x o e f h = (
    (λ r. subst (FitReads maps) f (h.0.0 r), λ u. subst (FitsUses table) e (h.0.1 u)),
    λ ps k r u. ap (showing sh)
        (h.1 ps k r u),
  )

  tests_back : AreRelated (testing final One) (testing final Other) Backs
  tests_back = throughout _ _ _ (record {
    finished = λ m d. ((λ h. h, λ h. h), λ ps k r u. refl);
    blocked = λ m d. ((λ h. h, λ h. h), λ ps k r u. refl);
    failed = λ check span m d. ((λ h. h, λ h. h), λ ps k r u. refl);
    unfit = λ m d. ((λ h. h, λ h. h), λ ps k r u. refl);
    pick = pick_backs;
    turn = turn_backs;
    steps = steps_back;
    using = λ o b c f g h m d. shown_backs _ m m _ _ refl refl (operation_backs (value_used m.uses (o, b, c)) o b c f g h m d);
    comparing = λ b c x y h m d. shown_backs _ m m _ _ refl refl (h m d);
    matching = λ v w x y h m d. shown_backs _ m m _ _ refl refl (h m d);
    deciding = λ b x y h m d. shown_backs _ m m _ _ refl refl (h m d);
    noticing =
        λ e x y h m d. shown_backs _ m (record m { events = with_event e m.events }) _ _ refl refl
        (h (record m { events = with_event e m.events }) d);
    reading = reading_backs;
    knowing = λ k x y h. h;
  })

pub drawn_runs_as_lazy : DrawnRunsAsLazy
drawn_runs_as_lazy p unit evidence values turns more picks_there reads_there uses_there =
    (judge_related _ _ (Backs (maps_of evidence.picks) evidence.table values turns more)
    (lazy_related final final (from_picks (maps_of evidence.picks) evidence.table) (from_values values turns)
    (Backs (maps_of evidence.picks) evidence.table values turns more)
    (tests_back (maps_of evidence.picks) evidence.table values turns more)
    (λ sh mv e f k x y h m d. shown_backs (maps_of evidence.picks) evidence.table values turns more (sh m) m (mv m) _ _ (e m)
    (f m) (h (mv m) d)) (λ f g h m d. h m m d))
    p (task_of p unit) no_memory (record { taken = 0; turned = 0 })).1 evidence.picks picks_there reads_there uses_there

-- the same up to the first inhale
pub drawn_enters_as_lazy : DrawnEntersAsLazy
drawn_enters_as_lazy p unit evidence values turns more picks_there reads_there uses_there =
    (enter_task_related _ _ (Backs (maps_of evidence.picks) evidence.table values turns more)
    (lazy_related final final (from_picks (maps_of evidence.picks) evidence.table) (from_values values turns)
    (Backs (maps_of evidence.picks) evidence.table values turns more)
    (tests_back (maps_of evidence.picks) evidence.table values turns more)
    (λ sh mv e f k x y h m d. shown_backs (maps_of evidence.picks) evidence.table values turns more (sh m) m (mv m) _ _ (e m)
    (f m) (h (mv m) d)) (λ f g h m d. h m m d))
    (task_of p unit) no_memory (record { taken = 0; turned = 0 })).1 evidence.picks picks_there reads_there uses_there
