-- A run that gains one element, and a run that gains the range of that element alone, follow each other.
use Rattle.std.proofs.Common.{◌≡◌, inl, inr, ℕ, zero, suc, ◌+◌, ℤ, pos, ◌+ℤ◌, Bool, true, false, ◌&&◌, Option, Some, None, List, [], ◌∷◌, refl, sym, ◌∙◌, ap, subst, arith}
use Rattle.std.proofs.lemmas.Int.{ints}
use Rattle.std.proofs.lemmas.Option.{none-some}
use Rattle.std.specs.Prelude.{nat_eq, nat_le, int_le, int_lt, if◌then◌else◌}
use Rattle.pv_ast.specs.declared.PvType.{PvType}
use Rattle.pv_ast.specs.declared.PvType.TheVariants.{Int, Truth, Object, IntArray, TruthArray, Null}
use Rattle.pv_values.specs.declared.value.Value.{Value}
use Rattle.pv_fraction.specs.Amounts.{whole}
use Rattle.pv_ast.specs.declared.PvType.TheVariants.{Int}
use Rattle.pv_picks.specs.declared.evidence.Pick.{Pick}
use Rattle.pv_picks.specs.declared.evidence.Pick.TheVariants.{Number, Turn, Steps}
use Rattle.pv_picks.specs.declared.evidence.StepPair.{StepPair}
use Rattle.pv_picks.specs.declared.evidence.Entry.{Entry}
use Rattle.pv_picks.specs.Formulas.Values.{within}
use Rattle.pv_picks.specs.Judge.States.{State, Resource, InElement, Written, FromSteps, Cells, Holding, same_resource, amount_held, cell_held, amount_of, holding, at_resource, with_amount, with_cell, cell_among, as_element}
use Rattle.pv_picks.specs.Judge.Settings.{Next, pick_value, look_at_length}
use Rattle.pv_picks.specs.Judge.Permissions.{at_all, has_room, gain_on, gain, gain_element, gain_range}
use Rattle.pv_picks.specs.Judge.Runs.{End, Judged, Maps, content, maps_from, judging}
use Rattle.core_sharing.specs.Following.{KnowsLengths, AreAmong}
use Rattle.core_sharing.specs.Renumbering.{Run, end_on, GoOn, SameHolding, StatesAreAlike}
use Rattle.core_sharing.specs.Elements.{IsOfElements}
use Rattle.core_sharing.proofs.OnePosition.{among_one, is_element, width_one, and_true, same_bool, not_false}
use Rattle.core_sharing.proofs.Meets.{maps_same, goes_on, then_taken, Meet, Met}
use Rattle.core_sharing.proofs.Gains.{SameCell, same_holding, same_later, cells_later, went_on, flip, decides_meets, if_meets, unless_meets, length_meets}
use Rattle.core_sharing.proofs.Ranges.{ranged, range_reached}

-- an element that is picked
pick_element : (m : Maps) (table : List Entry) (type : PvType) (next : Value → Next Judged) → IsOfElements type
    → ◌≡◌ {A = Next Judged} (pick_value (judging m table) type next)
    (λ st. (judging m table).pick Int (λ z. next (as_element type z) st))
pick_element m table Int next is = refl
pick_element m table Truth next is = refl
pick_element m table (Object class) next is = absurd is
pick_element m table IntArray next is = absurd is
pick_element m table TruthArray next is = absurd is
pick_element m table Null next is = absurd is

bounds_same : (low high k n : ℤ) → low ≡ k → high ≡ k +ℤ pos 1 → (int_le (pos 0) low && int_le high n) ≡ within (pos 0) n k
bounds_same low high k n c d =
    ap (λ z. int_le (pos 0) z && int_le high n) c
    ∙ ap (λ b. int_le (pos 0) k && b) (same_bool (int_le high n) (int_lt k n)
    (λ h. not_false (int_lt k n) (λ z. omega (arith, ints))) (λ h. not_false (int_le high n) (λ z. omega (arith, ints))))

module _ (type : PvType) (array : ℕ) (low high k : ℤ) (amount : ℕ) (c : low ≡ k) (d : high ≡ k +ℤ pos 1) where
  abbrev element : Resource
  element = InElement type array k

  abbrev range : State → State
  range = ranged type array low high amount

  room_one : (s : State) → has_room s type array low high amount ≡ nat_le (amount_of s element + amount) whole
  room_one s =
      ap (at_all (λ i. nat_le (amount_of s (InElement type array i) + amount) whole) low) (width_one low high k c d)
      ∙ and_true _ ∙ ap (λ i. nat_le (amount_of s (InElement type array i) + amount) whole) c

  module _ (before before' : Cells) (taken : Maps) (s : State) (taken' : Maps) (s' : State) (later' : Maps)
      (a : StatesAreAlike before before' taken s taken' s') (on : GoOn s'.steps taken' later') where
    -- the element holds this in the one state, and what the range gives it in the other
    one_alike : (h : Option Holding)
        → SameHolding taken s.steps later' (suc s'.steps) h
        (holding (amount_of s' element + amount) (cell_among (s'.held element) (FromSteps type s'.steps) element low))
        → StatesAreAlike before before' taken (record s { held = at_resource element h s.held }) later' (range s')
    one_alike h same = record {
      held = λ q. subst (λ b. SameHolding taken s.steps later' (suc s'.steps) (at_resource element h s.held q)
          (if b then holding (amount_of s' q + amount) (cell_among (s'.held q) (FromSteps type s'.steps) q low) else s'.held q))
          (sym (among_one type array low high k q c d)) (by q (same_resource q element) refl);
      old = cells_later taken taken s.steps s.steps taken' later' s'.steps (suc s'.steps) s.old s'.old
          (λ m p. p) (λ m. went_on s'.steps taken' later' m on) a.old;
      read = cells_later taken taken s.steps s.steps taken' later' s'.steps (suc s'.steps) before before'
          (λ m p. p) (λ m. went_on s'.steps taken' later' m on) a.read;
      instances = a.instances;
      committed = a.committed;
      met = a.met;
      this = a.this;
      variables = a.variables;
      result = a.result;
    }
      where
        by : (q : Resource) (b : Bool) → same_resource q element ≡ b
            → SameHolding taken s.steps later' (suc s'.steps) (if b then h else s.held q)
            (if b then holding (amount_of s' q + amount) (cell_among (s'.held q) (FromSteps type s'.steps) q low) else s'.held q)
        by q true is =
            subst (λ r. SameHolding taken s.steps later' (suc s'.steps) h
            (holding (amount_of s' r + amount) (cell_among (s'.held r) (FromSteps type s'.steps) r low)))
            (sym (is_element type array k q is)) same
        by q false is =
            same_later taken taken s.steps s.steps taken' later' s'.steps (suc s'.steps) (s.held q) (s'.held q)
            (λ m p. p) (λ m. went_on s'.steps taken' later' m on) (a.held q)

    new_alike : (v : Value) → as_element type (later' s'.steps k) ≡ v → amount_of s element ≡ 0
        → StatesAreAlike before before' taken (with_cell s element amount v) later' (range s')
    new_alike v is none =
        let none' : amount_of s' element ≡ 0 = sym (a.held element).amount ∙ none in
        one_alike (holding amount (Written v))
        (same_holding taken s.steps later' (suc s'.steps) amount (amount_of s' element + amount) (Written v)
        (cell_among (s'.held element) (FromSteps type s'.steps) element low) (omega arith)
        (λ m m' p p'. sym is ∙ ap (λ (f : ℤ → ℤ). as_element type (f k)) (sym (p' s'.steps (omega arith)))
        ∙ ap (λ (h : Option Holding). content m' (cell_among h (FromSteps type s'.steps) element low))
        (sym ((a.held element).other_nothing none'))))

    cell_more : (h h' : Option Holding) (there : ℕ) → SameHolding taken s.steps taken' s'.steps h h' → amount_held h ≡ suc there
        → SameCell taken s.steps later' (suc s'.steps) (cell_held h) (cell_among h' (FromSteps type s'.steps) element low)
    cell_more None h' there same is m m' p p' = absurd (omega arith)
    cell_more (Some h) None there same is m m' p p' =
        absurd (none-some (content m h.cell) (sym (same.content m m' p (went_on s'.steps taken' later' m' on p'))))
    cell_more (Some h) (Some h') there same is m m' p p' = by (same.content m m' p (went_on s'.steps taken' later' m' on p'))
      where
        by : ◌≡◌ {A = Option Value} (Some (content m h.cell)) (Some (content m' h'.cell)) → content m h.cell ≡ content m' h'.cell
        by is = cc is

    more_alike : (there : ℕ) → amount_of s element ≡ suc there
        → StatesAreAlike before before' taken (with_amount s element (suc there + amount)) later' (range s')
    more_alike there is =
        let same : amount_of s element ≡ amount_of s' element = (a.held element).amount in
        one_alike (holding (suc there + amount) (cell_held (s.held element)))
        (same_holding taken s.steps later' (suc s'.steps) (suc there + amount) (amount_of s' element + amount)
        (cell_held (s.held element)) (cell_among (s'.held element) (FromSteps type s'.steps) element low) (omega arith)
        (cell_more (s.held element) (s'.held element) there (a.held element) is))

  module _ (table : List Entry) (before before' : Cells) (is_type : IsOfElements type) where
    abbrev Meeting : Run → Run → Type 0
    Meeting one other = Meet table before before' one other

    abbrev step : Run → Run
    step next m st = (judging m table).steps st.steps type array (next m (range st))

    abbrev filling : ℕ → Run → Run
    filling there next m st = gain_on (judging m table) there type element amount (next m) st

    self_le : int_le k k ≡ true
    self_le = not_false (int_le k k) (λ z. omega (arith, ints))

    fill_first : (next next' : Run) → Meeting next next'
        → Meeting (λ m st. filling (amount_of st element) next m st) (step next')
    fill_first next next' meets = record { from = λ taken s picks knows. by taken s picks knows (amount_of s element) refl }
      where
        new : (taken : Maps) (s : State) (picks : List Pick) → KnowsLengths s.lengths → amount_of s element ≡ 0
            → Met table before before' taken s
            ((judging (maps_from s.steps taken picks) table).pick Int
            (λ z. next (maps_from s.steps taken picks) (with_cell s element amount (as_element type z))) picks) (step next')
        new taken s [] knows is = inl refl
        new taken s (Turn n ∷ picks) knows is = inl refl
        new taken s (Steps map ∷ picks) knows is = inl refl
        new taken s (Number z ∷ picks) knows is =
            let there : State = with_cell s element amount (as_element type z) in
            subst (λ (m : Maps). Met table before before' taken s (next m there picks) (step next'))
            (maps_same s.steps taken picks (Number z ∷ picks) refl)
            (range_reached type array low high amount table before before' taken s taken there
            (record { at = k; value = z } ∷ []) next' refl
            (λ taken' s' later' a on at. new_alike before before' taken s taken' s' later' a on (as_element type z)
            (ap (λ (f : ℤ → ℤ). as_element type (f k)) at ∙ ap (λ b. as_element type (if b then z else pos 0)) self_le) is)
            (next (maps_from s.steps taken picks) there picks)
            (meets.from taken there picks knows))

        by : (taken : Maps) (s : State) (picks : List Pick) → KnowsLengths s.lengths → (there : ℕ) → amount_of s element ≡ there
            → Met table before before' taken s
            (filling (amount_of s element) next (maps_from s.steps taken picks) s picks) (step next')
        by taken s picks knows zero is =
            subst (λ j. Met table before before' taken s (filling j next (maps_from s.steps taken picks) s picks) (step next'))
            (sym is)
            (subst (λ (r : Next Judged). Met table before before' taken s (r s picks) (step next'))
            (sym (pick_element (maps_from s.steps taken picks) table type
            (λ v later. next (maps_from s.steps taken picks) (with_cell later element amount v)) is_type))
            (new taken s picks knows is))
        by taken s picks knows (suc there) is =
            subst (λ j. Met table before before' taken s (filling j next (maps_from s.steps taken picks) s picks) (step next'))
            (sym is)
            (range_reached type array low high amount table before before' taken s taken
            (with_amount s element (suc there + amount)) [] next' refl
            (λ taken' s' later' a on at. more_alike before before' taken s taken' s' later' a on there is)
            (next (maps_from s.steps taken picks) (with_amount s element (suc there + amount)) picks)
            (meets.from taken (with_amount s element (suc there + amount)) picks knows))

    fill_back : (next next' : Run) → Meeting next next'
        → Meeting (step next) (λ m st. filling (amount_of st element) next' m st)
    fill_back next next' meets = record { from = by }
      where
        filled : Run
        filled m st = filling (amount_of st element) next' m st

        reached : (taken : Maps) (s : State) (map : List StepPair) (picks : List Pick) (end : End)
            → Met table before before' (maps_from s.steps taken (Steps map ∷ picks)) (range s) end next'
            → Met table before before' taken s end filled
        reached taken s map picks end (inl blocked) = inl blocked
        reached taken s map picks end (inr r) = inr (record {
          lengths = r.lengths;
          are_lengths = r.are_lengths;
          among = r.among;
          meets = λ taken' s' a among. fill taken' s' a among (amount_of s' element) refl;
        })
          where
            later : Maps
            later = maps_from s.steps taken (Steps map ∷ picks)

            on : GoOn s.steps taken later
            on = goes_on s.steps taken (Steps map ∷ picks)

            v : Value
            v = as_element type (later s.steps k)

            fill : (taken' : Maps) (s' : State) → StatesAreAlike before before' taken s taken' s' → AreAmong s'.lengths r.lengths
                → (there : ℕ) → amount_of s' element ≡ there → (picks : List Pick) × (end_on filled taken' s' picks ≡ end)
            fill taken' s' a among zero is =
                let there : State = with_cell s' element amount v in
                let alike : StatesAreAlike before before' later (range s) taken' there =
                flip before' before taken' there later (range s)
                (new_alike before' before taken' s' taken s later (flip before before' taken s taken' s' a) on v refl is) in
                let y = r.meets taken' there alike among in (
                  Number (later s.steps k) ∷ y.0,
                  ap (λ j. filling j next' (maps_from s'.steps taken' (Number (later s.steps k) ∷ y.0)) s'
                      (Number (later s.steps k) ∷ y.0)) is
                      ∙ ap (λ (f : Next Judged). f s' (Number (later s.steps k) ∷ y.0))
                      (pick_element (maps_from s'.steps taken' (Number (later s.steps k) ∷ y.0)) table type
                      (λ w after. next' (maps_from s'.steps taken' (Number (later s.steps k) ∷ y.0))
                      (with_cell after element amount w)) is_type)
                      ∙ ap (λ (m : Maps). next' m there y.0)
                      (maps_same s'.steps taken' (Number (later s.steps k) ∷ y.0) y.0 refl) ∙ y.1,
                )
            fill taken' s' a among (suc more) is =
                let there : State = with_amount s' element (suc more + amount) in
                let alike : StatesAreAlike before before' later (range s) taken' there =
                flip before' before taken' there later (range s)
                (more_alike before' before taken' s' taken s later (flip before before' taken s taken' s' a) on more is) in
                let y = r.meets taken' there alike among in
                (y.0, ap (λ j. filling j next' (maps_from s'.steps taken' y.0) s' y.0) is ∙ y.1)

        by : (taken : Maps) (s : State) (picks : List Pick) → KnowsLengths s.lengths
            → Met table before before' taken s (end_on (step next) taken s picks) filled
        by taken s [] knows = inl refl
        by taken s (Number z ∷ picks) knows = inl refl
        by taken s (Turn n ∷ picks) knows = inl refl
        by taken s (Steps map ∷ picks) knows =
            reached taken s map picks (next (maps_from s.steps taken (Steps map ∷ picks)) (range s) picks)
            (subst (λ (m : Maps). Met table before before' (maps_from s.steps taken (Steps map ∷ picks)) (range s)
            (next m (range s) picks) next')
            (then_taken s.steps taken map picks)
            (meets.from (maps_from s.steps taken (Steps map ∷ picks)) (range s) picks knows))

    pub element_first : (ends : List ℤ) (next next' : Run) → Meeting next next'
        → Meeting (λ m. gain_element (judging m table) type array k amount (next m))
        (λ m. gain_range (judging m table) type array low high ends amount (next' m))
    element_first ends next next' meets =
        unless_meets table before before' (nat_eq array 0)
        (λ m. look_at_length (judging m table) type array (λ n. at_index n m))
        (λ m. look_at_length (judging m table) type array (λ n. in_range n m))
        (length_meets table before before' type array at_index in_range (λ n.
        subst (λ b. Meeting (at_index n) (λ m st. if b then room m st else (judging m table).blocked))
        (sym (bounds_same low high k n c d))
        (if_meets table before before' (within (pos 0) n k) gained room
        (decides_meets table before before' (λ st. nat_le (amount_of st element + amount) whole)
        (λ st. has_room st type array low high amount)
        (λ b m st. if b then filling (amount_of st element) next m st else (judging m table).blocked)
        (λ b m st. if b then step next' m st else (judging m table).blocked)
        (λ taken s taken' s' a. ap (λ j. nat_le (j + amount) whole) (a.held element).amount ∙ sym (room_one s'))
        (λ b. if_meets table before before' b (λ m st. filling (amount_of st element) next m st) (step next')
        (fill_first next next' meets))))))
      where
        gained : Run
        gained m = gain (judging m table) type element amount (next m)

        room : Run
        room m st = if has_room st type array low high amount then step next' m st else (judging m table).blocked

        at_index : ℤ → Run
        at_index n m st = if within (pos 0) n k then gained m st else (judging m table).blocked

        in_range : ℤ → Run
        in_range n m st = if int_le (pos 0) low && int_le high n then room m st else (judging m table).blocked

    pub element_back : (ends : List ℤ) (next next' : Run) → Meeting next next'
        → Meeting (λ m. gain_range (judging m table) type array low high ends amount (next m))
        (λ m. gain_element (judging m table) type array k amount (next' m))
    element_back ends next next' meets =
        unless_meets table before before' (nat_eq array 0)
        (λ m. look_at_length (judging m table) type array (λ n. in_range n m))
        (λ m. look_at_length (judging m table) type array (λ n. at_index n m))
        (length_meets table before before' type array in_range at_index (λ n.
        subst (λ b. Meeting (λ m st. if b then room m st else (judging m table).blocked) (at_index n))
        (sym (bounds_same low high k n c d))
        (if_meets table before before' (within (pos 0) n k) room gained
        (decides_meets table before before' (λ st. has_room st type array low high amount)
        (λ st. nat_le (amount_of st element + amount) whole)
        (λ b m st. if b then step next m st else (judging m table).blocked)
        (λ b m st. if b then filling (amount_of st element) next' m st else (judging m table).blocked)
        (λ taken s taken' s' a. room_one s ∙ ap (λ j. nat_le (j + amount) whole) (a.held element).amount)
        (λ b. if_meets table before before' b (step next) (λ m st. filling (amount_of st element) next' m st)
        (fill_back next next' meets))))))
      where
        gained : Run
        gained m = gain (judging m table) type element amount (next' m)

        room : Run
        room m st = if has_room st type array low high amount then step next m st else (judging m table).blocked

        at_index : ℤ → Run
        at_index n m st = if within (pos 0) n k then gained m st else (judging m table).blocked

        in_range : ℤ → Run
        in_range n m st = if int_le (pos 0) low && int_le high n then room m st else (judging m table).blocked
