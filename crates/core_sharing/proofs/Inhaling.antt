-- From states that are alike the inhale of a formula meets itself.
use Rattle.std.proofs.Common.{◌≡◌, inr, ℤ, pos, ◌+ℤ◌, Bool, option_map, List, [], ◌∷◌, refl, sym, ap, subst}
use Rattle.std.proofs.Math.Path.{fun_ext}
use Rattle.std.specs.Prelude.{if◌then◌else◌}
use Rattle.std.specs.List.{AllByRecursion}
use Rattle.pv_base.specs.declared.Name.{Name}
use Rattle.pv_ast.specs.declared.Token.TheVariants as token
use Rattle.pv_values.specs.declared.value.Value.{Value}
use Rattle.pv_picks.specs.declared.evidence.Entry.{Entry}
use Rattle.pv_picks.specs.Plain.Core.{Expression, Cut, Formula, Items, Item}
use Rattle.pv_picks.specs.Plain.Core as core
use Rattle.pv_picks.specs.Formulas.Values.{number_in, truth_in, reference_in, within, is_empty, width}
use Rattle.pv_picks.specs.Formulas.Evaluation.{Scene}
use Rattle.pv_picks.specs.Formulas.Meeting.{guard_term}
use Rattle.pv_picks.specs.Judge.States.{State, Resource, Cells, cells_of}
use Rattle.pv_picks.specs.Judge.Settings.{no_frame}
use Rattle.pv_picks.specs.Judge.Repetitions.{Look, Range, range_of, cut_by, shifted, looks_of, arrays_read, notice_parts, notice_cut, unless_empty, cut_all}
use Rattle.pv_picks.specs.Judge.Steady.{IsTermLook}
use Rattle.pv_picks.specs.Judge.Inhaling.{come_to_know, inhale_repeated, inhale, inhale_items, inhale_item}
use Rattle.pv_picks.specs.Judge.Runs.{Maps, content, judging}
use Rattle.core_trees.specs.Positions.{ConfinedFormula, ConfinedItems, ConfinedItem}
use Rattle.core_sharing.specs.Following.{Lengths, with_lengths}
use Rattle.core_sharing.specs.Renumbering.{Run, GoOn}
use Rattle.core_sharing.specs.Inhaled.{bound}
use Rattle.core_sharing.proofs.AtPosition.{at}
use Rattle.core_sharing.proofs.Giving.{parts_noticed, cut_noticed}
use Rattle.core_sharing.proofs.Looking.{Values, Looks, Nothing, looks_itself, looks_as}
use Rattle.core_sharing.proofs.Meets.{Meet, meets_on, choice_meets, reading, reads, reads_all, values_in, reads_itself, reads_alike}
use Rattle.core_sharing.proofs.Ahead.{passes, arrays_look, knowing_looks}
use Rattle.core_sharing.proofs.Gains.{if_meets, pick_meets, gain_field_meets, gain_element_meets, token_meets, instance_meets}
use Rattle.core_sharing.proofs.Ranges.{gain_range_meets}

module _ (table : List Entry) (Such : Maps → Type 0) (s : State) (cells : Cells) (nows olds : Values)
    (hn : (m : Maps) → Such m → (r : Resource) → option_map (content m) (cells_of s r) ≡ nows r)
    (ho : (m : Maps) → Such m → (r : Resource) → option_map (content m) (cells r) ≡ olds r) (scene : Scene) where
  -- the arrays that a fact reads are looked at, and then the run goes on
  pub parts_look : {O : Type 0} (o : Lengths → O) (M : O → Run) (looks : List Look) (ends : List ℤ) (after : Run)
      → Looks table Such s o (Nothing table Such s) M after
      → Looks table Such s o (Nothing table Such s) M
      (λ m. arrays_read (judging m table) cells_of (bound scene cells) looks
      (λ parts later. notice_parts (judging m table) parts ends (after m later)))
  parts_look o M looks ends after h =
      arrays_look table Such s cells nows olds hn ho scene o M looks
      (λ parts m later. notice_parts (judging m table) parts ends (after m later)) (λ parts.
      looks_as table Such s o (Nothing table Such s) M _ after
      (λ m such known. parts_noticed m table parts ends (after m (with_lengths s known))) h)

module _ (table : List Entry) (before before' : Cells) where
  abbrev Meeting : Run → Run → Type 0
  Meeting one other = Meet table before before' one other

  abbrev pub noticing_parts : Cells → Scene → List Look → List ℤ → Run → Run
  noticing_parts cells scene looks ends after m =
      arrays_read (judging m table) cells_of (bound scene cells) looks
      (λ parts later. notice_parts (judging m table) parts ends (after m later))

  parts_meet : (scene : Scene) (looks : List Look) (ends : List ℤ) (one other : Run) → Meeting one other
      → Meeting (noticing_parts before scene looks ends one) (noticing_parts before' scene looks ends other)
  parts_meet scene looks ends one other meets =
      meets_on table before before' (λ (x : Unit {0}). one) (λ (x : Unit {0}). other) _ _ (λ taken s maps on. record {
        o = λ lengths. tt;
        o' = λ lengths. tt;
        first = parts_look table (λ m. m ≡ maps) s before (values_in table before before' maps (cells_of s))
            (values_in table before before' maps before)
            (λ m is r. reads_itself table before before' s maps m is r)
            (λ m is r. ap (λ (x : Maps). option_map (content x) (before r)) is) scene (λ lengths. tt) (λ (x : Unit {0}). one)
            looks ends one (looks_itself table (λ m. m ≡ maps) s tt (λ (x : Unit {0}). one));
        second = λ taken' s' alike.
            parts_look table (GoOn s'.steps taken') s' before' (values_in table before before' maps (cells_of s))
            (values_in table before before' maps before)
            (λ m on' r. reads_alike table before before' taken s maps on taken' s' alike m on' r)
            (λ m on' r. sym (alike.read.content maps m on on' r)) scene (λ lengths. tt) (λ (x : Unit {0}). other)
            looks ends other (looks_itself table (GoOn s'.steps taken') s' tt (λ (x : Unit {0}). other));
        match = λ x. inr (tt, meets, λ lengths same. refl);
      })

  abbrev pub knowing : Cells → Scene → Name → Expression → Range → Run → Run
  knowing cells scene name e r next m = come_to_know (judging m table) (bound scene cells) name e r (next m)

  know_meets : (scene : Scene) (name : Name) (e : Expression) (r : Range) (next next' : Run)
      → AllByRecursion (IsTermLook name) (looks_of name e) → Meeting next next'
      → Meeting (knowing before scene name e r next) (knowing before' scene name e r next')
  know_meets scene name e r next next' terms meets =
      meets_on table before before' (passed next) (passed next') _ _ (λ taken s maps on. record {
        o =
            λ lengths. passes table (values_in table before before' maps (cells_of s))
            (values_in table before before' maps before)
            scene name e r.low (width r.low r.high) lengths;
        o' =
            λ lengths. passes table (values_in table before before' maps (cells_of s))
            (values_in table before before' maps before)
            scene name e r.low (width r.low r.high) lengths;
        first = knowing_looks table (λ m. m ≡ maps) s before (values_in table before before' maps (cells_of s))
            (values_in table before before' maps before)
            (λ m is q. reads_itself table before before' s maps m is q)
            (λ m is q. ap (λ (x : Maps). option_map (content x) (before q)) is) scene name e r next terms;
        second = λ taken' s' alike.
            knowing_looks table (GoOn s'.steps taken') s' before' (values_in table before before' maps (cells_of s))
            (values_in table before before' maps before)
            (λ m on' q. reads_alike table before before' taken s maps on taken' s' alike m on' q)
            (λ m on' q. sym (alike.read.content maps m on on' q)) scene name e r next' terms;
        match = λ b. inr (b, if_meets table before before' b next next' meets, λ lengths same. same);
      })
    where
      passed : Run → Bool → Run
      passed after b m st = if b then after m st else (judging m table).blocked

  abbrev pub full_or : Range → Run → Run → Run
  full_or r x y m st = unless_empty (judging m table) r (x m st) (y m st)

  pub full_meets : (r : Range) (x x' y y' : Run) → Meeting x x' → Meeting y y' → Meeting (full_or r x y) (full_or r x' y')
  full_meets r x x' y y' h k = choice_meets table before before' (is_empty r.low r.high) x y x' y' h k

  abbrev pub if_holds : Run → Value → Run
  if_holds next v m st = if truth_in v then next m st else (judging m table).blocked

  abbrev pub tested_at : Cells → Scene → Name → Expression → Range → ℤ → Run → Run
  tested_at cells scene name e r mark next =
      noticing_parts cells scene (looks_of name e) (mark ∷ (mark +ℤ pos 1) ∷ r.bounds)
      (reading table before before' cells (at scene name mark) e (if_holds next))

  repeated_meets : (scene : Scene) (name : Name) (e : Expression) (r : Range) (next next' : Run)
      → AllByRecursion (IsTermLook name) (looks_of name e) → Meeting next next'
      → Meeting (λ m. inhale_repeated (judging m table) (bound scene before) name e r (next m))
      (λ m. inhale_repeated (judging m table) (bound scene before') name e r (next' m))
  repeated_meets scene name e r next next' terms meets =
      pick_meets table before before'
      (λ mark m st. if within r.low r.high mark then tested_at before scene name e r mark (known before next) m st
      else known before next m st)
      (λ mark m st. if within r.low r.high mark then tested_at before' scene name e r mark (known before' next') m st
      else known before' next' m st)
      (λ mark. choice_meets table before before' (within r.low r.high mark)
      (tested_at before scene name e r mark (known before next)) (known before next)
      (tested_at before' scene name e r mark (known before' next')) (known before' next')
      (parts_meet scene (looks_of name e) (mark ∷ (mark +ℤ pos 1) ∷ r.bounds) _ _
      (reads table before before' (at scene name mark) e (if_holds (known before next)) (if_holds (known before' next'))
      (λ v. if_meets table before before' (truth_in v) (known before next) (known before' next') again)))
      again)
    where
      known : Cells → Run → Run
      known cells after = knowing cells scene name e r after

      again : Meeting (known before next) (known before' next')
      again = know_meets scene name e r next next' terms meets

  cuts_meet : (scene : Scene) (cuts : List Cut) (r : Range) (out out' : Run) (next next' : Range → Run) → Meeting out out'
      → ((q : Range) → Meeting (next q) (next' q))
      → Meeting (λ m. cut_all (judging m table) cells_of (no_frame (judging m table)) (bound scene before) cuts r (out m)
      (λ q. next q m))
      (λ m. cut_all (judging m table) cells_of (no_frame (judging m table)) (bound scene before') cuts r (out' m)
      (λ q. next' q m))
  cuts_meet scene [] r out out' next next' h k = k r
  cuts_meet scene (c ∷ cs) r out out' next next' h k =
      full_meets r out out' _ _ h (reads table before before' scene (guard_term c)
      (λ v m later. notice_cut (judging m table) c v r (cut_all (judging m table) cells_of (no_frame (judging m table))
      (bound scene before) cs (cut_by c v r) (out m) (λ q. next q m) later))
      (λ v m later. notice_cut (judging m table) c v r (cut_all (judging m table) cells_of (no_frame (judging m table))
      (bound scene before') cs (cut_by c v r) (out' m) (λ q. next' q m) later))
      (λ v. subst (λ (x : Run). Meeting x (λ m later. notice_cut (judging m table) c v r
      (cut_all (judging m table) cells_of (no_frame (judging m table))
      (bound scene before') cs (cut_by c v r) (out' m) (λ q. next' q m) later)))
      (sym (fun_ext (λ m. fun_ext (λ later. cut_noticed m table c v r _))))
      (subst (λ (x : Run). Meeting (λ m. cut_all (judging m table) cells_of (no_frame (judging m table))
      (bound scene before) cs (cut_by c v r) (out m) (λ q. next q m)) x)
      (sym (fun_ext (λ m. fun_ext (λ later. cut_noticed m table c v r _))))
      (cuts_meet scene cs (cut_by c v r) out out' next next' h k))))

  mutual
    pub inhale_meets : (scene : Scene) (formula : Formula) (next next' : Run) → ConfinedFormula formula → Meeting next next'
        → Meeting (λ m. inhale (judging m table) (bound scene before) formula (next m))
        (λ m. inhale (judging m table) (bound scene before') formula (next' m))
    inhale_meets scene (core.Fact e span) next next' confined h =
        reads table before before' scene e (if_holds next) (if_holds next')
        (λ v. if_meets table before before' (truth_in v) next next' h)
    inhale_meets scene (core.FieldPermission e class name type amount span) next next' confined h =
        reads table before before' scene e _ _
        (λ o. gain_field_meets table before before' class (reference_in o) name type amount next next' h)
    inhale_meets scene (core.ElementPermission type array index amount span) next next' confined h =
        reads table before before' scene array _ _ (λ a. reads table before before' scene index _ _
        (λ i. gain_element_meets table before before' type (reference_in a) (number_in i) amount next next' h))
    inhale_meets scene (core.Holds kind class e span) next next' confined h =
        reads table before before' scene e _ _ (λ o. token_meets table before before' kind class (reference_in o) next next' h)
    inhale_meets scene (core.Instance class predicate e arguments span) next next' confined h =
        reads table before before' scene e _ _ (λ o. reads_all table before before' scene arguments _ _
        (λ vs. instance_meets table before before'
        (record { class = class; predicate = predicate; object = reference_in o; arguments = vs }) next next' h))
    inhale_meets scene (core.Star a b) next next' confined h =
        inhale_meets scene a _ _ confined.0 (inhale_meets scene b next next' confined.1 h)
    inhale_meets scene (core.When e body span) next next' confined h =
        reads table before before' scene e _ _ (λ v. choice_meets table before before' (truth_in v) _ next _ next'
        (inhale_meets scene body next next' confined h) h)
    inhale_meets scene (core.Each name low high items span) next next' confined h =
        reads table before before' scene low _ _ (λ l. reads table before before' scene high _ _
        (λ u. items_meet scene name (number_in l) (number_in u) items next next' confined h))

    items_meet : (scene : Scene) (name : Name) (low high : ℤ) (items : Items) (next next' : Run) → ConfinedItems name items
        → Meeting next next'
        → Meeting (λ m. inhale_items (judging m table) (bound scene before) name low high items (next m))
        (λ m. inhale_items (judging m table) (bound scene before') name low high items (next' m))
    items_meet scene name low high core.NoItems next next' confined h = h
    items_meet scene name low high (core.Join item items) next next' confined h =
        item_meets scene name (range_of low high) item _ _ confined.0
        (items_meet scene name low high items next next' confined.1 h)

    item_meets : (scene : Scene) (name : Name) (r : Range) (item : Item) (next next' : Run) → ConfinedItem name item
        → Meeting next next'
        → Meeting (λ m. inhale_item (judging m table) (bound scene before) name r item (next m))
        (λ m. inhale_item (judging m table) (bound scene before') name r item (next' m))
    item_meets scene name r (core.Elements type array shift amount span) next next' confined h =
        full_meets r next next' _ _ h (reads table before before' scene array _ _ (λ a.
        gain_range_meets type (reference_in a) (r.low +ℤ shift) (r.high +ℤ shift) amount table before before'
        (shifted (r.low ∷ r.high ∷ r.bounds) shift) next next' h))
    item_meets scene name r (core.Repeated e span) next next' confined h =
        full_meets r next next' _ _ h (repeated_meets scene name e r next next' confined.0 h)
    item_meets scene name r (core.Committed class e span) next next' confined h =
        full_meets r next next' _ _ h (reads table before before' scene e _ _
        (λ o. token_meets table before before' token.Committed class (reference_in o) next next' h))
    item_meets scene name r (core.Guarded cuts item span) next next' confined h =
        cuts_meet scene cuts r next next' _ _ h (λ q. item_meets scene name q item next next' confined.1 h)
    item_meets scene name r (core.Fixed e body span) next next' confined h =
        full_meets r next next' _ _ h (reads table before before' scene e _ _ (λ v.
        choice_meets table before before' (within r.low r.high (number_in v)) _ next _ next'
        (inhale_meets (at scene name (number_in v)) body next next' confined.1 h) h))
