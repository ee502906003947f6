-- A range that is gained takes one pick. Where it is of one position, a run that gains that element may follow, and be followed.
use Rattle.std.proofs.Common.{◌≡◌, inl, inr, ℕ, suc, ◌+◌, ℤ, pos, Bool, ◌&&◌, Option, Some, None, List, [], ◌∷◌, refl, sym, ◌∙◌, ap, subst, arith}
use Rattle.std.proofs.lemmas.Option.{none-some}
use Rattle.std.proofs.Math.Path.{fun_ext}
use Rattle.std.specs.Prelude.{nat_eq, nat_le, int_le, if◌then◌else◌}
use Rattle.pv_ast.specs.declared.PvType.{PvType}
use Rattle.pv_values.specs.declared.value.Value.{Value}
use Rattle.pv_fraction.specs.Amounts.{whole}
use Rattle.pv_picks.specs.declared.evidence.Pick.{Pick}
use Rattle.pv_picks.specs.declared.evidence.Pick.TheVariants.{Number, Turn, Steps}
use Rattle.pv_picks.specs.declared.evidence.StepPair.{StepPair}
use Rattle.pv_picks.specs.declared.evidence.Entry.{Entry}
use Rattle.pv_picks.specs.Formulas.Values.{width}
use Rattle.pv_picks.specs.Judge.States.{State, Resource, InElement, FromSteps, Cells, Holding, is_among, index_of, cell_among, as_element, with_range}
use Rattle.pv_picks.specs.Judge.Settings.{look_at_length}
use Rattle.pv_picks.specs.Judge.Permissions.{at_all, has_room, gain_range}
use Rattle.pv_picks.specs.Judge.Runs.{End, Maps, content, maps_from, step_value, judging}
use Rattle.core_sharing.specs.Following.{KnowsLengths, AreAmong}
use Rattle.core_sharing.specs.Renumbering.{Run, end_on, GoOn, SameHolding, StatesAreAlike}
use Rattle.core_sharing.proofs.Meets.{goes_on, next_map, then_taken, taken_next, Meet, Met}
use Rattle.core_sharing.proofs.Gains.{SameCell, same_holding, choice_same, same_later, cells_later, went_on, decides_meets, if_meets, unless_meets, length_meets}

module _ (type : PvType) (array : ℕ) (low high : ℤ) (amount : ℕ) where
  abbrev pub ranged : State → State
  ranged s = with_range s type array low high amount

  room_same : (before before' : Cells) (taken : Maps) (s : State) (taken' : Maps) (s' : State)
      → StatesAreAlike before before' taken s taken' s' → has_room s type array low high amount
      ≡ has_room s' type array low high amount
  room_same before before' taken s taken' s' a =
      ap (λ (f : ℤ → Bool). at_all f low (width low high))
      (fun_ext (λ i. ap (λ k. nat_le (k + amount) whole) (a.held (InElement type array i)).amount))

  -- what comes of a map that both take next
  given_same : (taken : Maps) (n : ℕ) (taken' : Maps) (n' : ℕ) (later later' : Maps) (map : List StepPair) → GoOn n taken later
      → GoOn n' taken' later' → later n ≡ step_value map → later' n' ≡ step_value map → (h h' : Option Holding)
      → SameHolding taken n taken' n' h h' → (r : Resource)
      → SameCell later (suc n) later' (suc n') (cell_among h (FromSteps type n) r low) (cell_among h' (FromSteps type n') r low)
  given_same taken n taken' n' later later' map on on' is is' None None same r m m' p p' =
      ap (λ (f : ℤ → ℤ). as_element type (f (index_of r low)))
      (p n (omega arith) ∙ is ∙ sym is' ∙ sym (p' n' (omega arith)))
  given_same taken n taken' n' later later' map on on' is is' None (Some h') same r m m' p p' =
      absurd (none-some (content m' h'.cell) (same.content m m' (went_on n taken later m on p)
      (went_on n' taken' later' m' on' p')))
  given_same taken n taken' n' later later' map on on' is is' (Some h) None same r m m' p p' =
      absurd (none-some (content m h.cell)
      (sym (same.content m m' (went_on n taken later m on p) (went_on n' taken' later' m' on' p'))))
  given_same taken n taken' n' later later' map on on' is is' (Some h) (Some h') same r m m' p p' =
      by (same.content m m' (went_on n taken later m on p) (went_on n' taken' later' m' on' p'))
    where
      by : ◌≡◌ {A = Option Value} (Some (content m h.cell)) (Some (content m' h'.cell)) → content m h.cell ≡ content m' h'.cell
      by is = cc is

  pub ranges_alike : (before before' : Cells) (taken : Maps) (s : State) (taken' : Maps) (s' : State) (later later' : Maps)
      (map : List StepPair) → StatesAreAlike before before' taken s taken' s' → GoOn s.steps taken later
      → GoOn s'.steps taken' later'
      → later s.steps ≡ step_value map → later' s'.steps ≡ step_value map
      → StatesAreAlike before before' later (ranged s) later' (ranged s')
  ranges_alike before before' taken s taken' s' later later' map a on on' is is' = record {
    held = λ r. choice_same later (suc s.steps) later' (suc s'.steps) (is_among type array low high r) _ _ (s.held r) (s'.held r)
        (same_holding later (suc s.steps) later' (suc s'.steps) _ _ _ _ (ap (λ k. k + amount) (a.held r).amount)
        (given_same taken s.steps taken' s'.steps later later' map on on' is is' (s.held r) (s'.held r) (a.held r) r))
        (same_later taken later s.steps (suc s.steps) taken' later' s'.steps (suc s'.steps) (s.held r) (s'.held r)
        (λ m. went_on s.steps taken later m on) (λ m. went_on s'.steps taken' later' m on') (a.held r));
    old = cells_later taken later s.steps (suc s.steps) taken' later' s'.steps (suc s'.steps) s.old s'.old
        (λ m. went_on s.steps taken later m on) (λ m. went_on s'.steps taken' later' m on') a.old;
    read = cells_later taken later s.steps (suc s.steps) taken' later' s'.steps (suc s'.steps) before before'
        (λ m. went_on s.steps taken later m on) (λ m. went_on s'.steps taken' later' m on') a.read;
    instances = a.instances;
    committed = a.committed;
    met = a.met;
    this = a.this;
    variables = a.variables;
    result = a.result;
  }

  module _ (table : List Entry) (before before' : Cells) where
    abbrev Meeting : Run → Run → Type 0
    Meeting one other = Meet table before before' one other

    abbrev pub stepping : Run → Run
    stepping next m st = (judging m table).steps st.steps type array (next m (ranged st))

    -- the other run takes this map
    pub range_reached : (taken : Maps) (s : State) (later : Maps) (st : State) (map : List StepPair) (next' : Run)
        → st.lengths ≡ s.lengths
        → ((taken' : Maps) (s' : State) (later' : Maps) → StatesAreAlike before before' taken s taken' s'
        → GoOn s'.steps taken' later'
        → later' s'.steps ≡ step_value map → StatesAreAlike before before' later st later' (ranged s'))
        → (end : End) → Met table before before' later st end next' → Met table before before' taken s end (stepping next')
    range_reached taken s later st map next' same alike end (inl blocked) = inl blocked
    range_reached taken s later st map next' same alike end (inr r) = inr (record {
      lengths = r.lengths;
      are_lengths = r.are_lengths;
      among = subst (λ k. AreAmong k r.lengths) same r.among;
      meets = λ taken' s' a among.
          let later' : Maps = maps_from s'.steps taken' (Steps map ∷ []) in
          let on : GoOn s'.steps taken' later' = goes_on s'.steps taken' (Steps map ∷ []) in
          let y = r.meets later' (ranged s') (alike taken' s' later' a on (next_map s'.steps taken' map [])) among in (
            Steps map ∷ y.0,
            ap (λ (m : Maps). next' m (ranged s') y.0)
                (sym (taken_next s'.steps taken' later' map y.0 on (next_map s'.steps taken' map []))) ∙ y.1,
          );
    })

    steps_meets : (next next' : Run) → Meeting next next' → Meeting (stepping next) (stepping next')
    steps_meets next next' meets = record { from = by }
      where
        by : (taken : Maps) (s : State) (picks : List Pick) → KnowsLengths s.lengths
            → Met table before before' taken s (end_on (stepping next) taken s picks) (stepping next')
        by taken s [] knows = inl refl
        by taken s (Number z ∷ picks) knows = inl refl
        by taken s (Turn n ∷ picks) knows = inl refl
        by taken s (Steps map ∷ picks) knows =
            let later : Maps = maps_from s.steps taken (Steps map ∷ picks) in
            range_reached taken s later (ranged s) map next' refl
            (λ taken' s' later' a on' is'. ranges_alike before before' taken s taken' s' later later' map a
            (goes_on s.steps taken (Steps map ∷ picks)) on' (next_map s.steps taken map picks) is')
            (next later (ranged s) picks)
            (subst (λ (m : Maps). Met table before before' later (ranged s) (next m (ranged s) picks) next')
            (then_taken s.steps taken map picks) (meets.from later (ranged s) picks knows))

    pub gain_range_meets : (ends : List ℤ) (next next' : Run) → Meeting next next'
        → Meeting (λ m. gain_range (judging m table) type array low high ends amount (next m))
        (λ m. gain_range (judging m table) type array low high ends amount (next' m))
    gain_range_meets ends next next' meets =
        unless_meets table before before' (nat_eq array 0)
        (λ m. look_at_length (judging m table) type array (λ n. within_it n next m))
        (λ m. look_at_length (judging m table) type array (λ n. within_it n next' m))
        (length_meets table before before' type array (λ n. within_it n next) (λ n. within_it n next')
        (λ n. if_meets table before before' (int_le (pos 0) low && int_le high n) (room next) (room next')
        (decides_meets table before before' (λ st. has_room st type array low high amount)
        (λ st. has_room st type array low high amount)
        (λ b m st. if b then stepping next m st else (judging m table).blocked)
        (λ b m st. if b then stepping next' m st else (judging m table).blocked)
        (λ taken s taken' s' a. room_same before before' taken s taken' s' a)
        (λ b. if_meets table before before' b (stepping next) (stepping next') (steps_meets next next' meets)))))
      where
        room : Run → Run
        room after m st = if has_room st type array low high amount then stepping after m st else (judging m table).blocked

        within_it : ℤ → Run → Run
        within_it n after m st = if int_le (pos 0) low && int_le high n then room after m st else (judging m table).blocked
