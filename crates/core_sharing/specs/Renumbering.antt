-- When one run of the judge follows another that takes its picks for ranges otherwise: where the one writes a pick into an
-- element, the other may take it as a pick for a range. The runs go on from states that are alike: what is held of each location,
-- what is in it and all else is the same, but for the lengths that are known and the numbers of the picks for ranges.
use Rattle.std.specs.Prelude.{◌≡◌, ◌⊎◌, ℕ, ◌<◌, Option, None, option_map, List}
use Rattle.pv_values.specs.declared.value.Value.{Value}
use Rattle.pv_picks.specs.declared.evidence.Pick.{Pick}
use Rattle.pv_picks.specs.Judge.States.{State, Cells, Holding, Resource, amount_held, no_cells, empty_state}
use Rattle.pv_picks.specs.Judge.Settings.{Next}
use Rattle.pv_picks.specs.Judge.Runs.{End, Blocked, Judged, Maps, content, maps_from}
use Rattle.core_sharing.specs.Following.{Lengths, AreLengths, KnowsLengths, AreAmong}

-- a run, by the maps of its picks for ranges
abbrev pub Run : Type 0
Run = Maps → Next Judged

-- how a run ends on the picks that are left, where it took these maps before
abbrev pub end_on : Run → Maps → State → List Pick → End
end_on run taken s picks = run (maps_from s.steps taken picks) s picks

-- maps that may come of a run that took so many of these
abbrev pub GoOn : ℕ → Maps → Maps → Type 0
GoOn n taken maps = (k : ℕ) → k < n → maps k ≡ taken k

-- what is in what is held
abbrev pub contents : Maps → Option Holding → Option Value
contents maps held = option_map (λ h. content maps h.cell) held

-- two runs, by the maps that each took, and by how many they are
module _ (taken : Maps) (n : ℕ) (taken' : Maps) (n' : ℕ) where
  -- so much of a location is held by both, with the same in it, and nothing where it is so much as 0
  pub record SameHolding (one other : Option Holding) : Type 0 where
    pub amount : amount_held one ≡ amount_held other
    pub content : (maps maps' : Maps) → GoOn n taken maps → GoOn n' taken' maps' → contents maps one ≡ contents maps' other
    pub nothing : amount_held one ≡ 0 → one ≡ None
    pub other_nothing : amount_held other ≡ 0 → other ≡ None

  -- the same is in each location
  pub record SameCells (one other : Cells) : Type 0 where
    pub content : (maps maps' : Maps) → GoOn n taken maps → GoOn n' taken' maps' → (r : Resource)
        → option_map (content maps) (one r) ≡ option_map (content maps') (other r)

-- The states of two runs are alike; what their formulas read as the old state is alike, too.
pub record StatesAreAlike (before before' : Cells) (taken : Maps) (s : State) (taken' : Maps) (s' : State) : Type 0 where
  pub held : (r : Resource) → SameHolding taken s.steps taken' s'.steps (s.held r) (s'.held r)
  pub old : SameCells taken s.steps taken' s'.steps s.old s'.old
  pub read : SameCells taken s.steps taken' s'.steps before before'
  pub instances : s.instances ≡ s'.instances
  pub committed : s.committed ≡ s'.committed
  pub met : s.met ≡ s'.met
  pub this : s.this ≡ s'.this
  pub variables : s.variables ≡ s'.variables
  pub result : s.result ≡ s'.result

-- from each state that is alike and knows of these lengths, the other run comes to the end on some picks
pub record IsMet (before before' : Cells) (taken : Maps) (s : State) (end : End) (other : Run) : Type 0 where
  pub lengths : Lengths
  pub are_lengths : AreLengths lengths
  pub among : AreAmong s.lengths lengths
  pub meets : (taken' : Maps) (s' : State) → StatesAreAlike before before' taken s taken' s' → AreAmong s'.lengths lengths
      → (picks : List Pick) × (end_on other taken' s' picks ≡ end)

-- each end of the one run but Blocked is one of the other, from states that are alike
pub record Meets (before before' : Cells) (one other : Run) : Type 0 where
  pub from : (taken : Maps) (s : State) (picks : List Pick) → KnowsLengths s.lengths
      → (end_on one taken s picks ≡ Blocked) ⊎ IsMet before before' taken s (end_on one taken s picks) other

-- before they take their first picks, runs are alike
abbrev pub StartsAlike : Type 0
StartsAlike = (taken taken' : Maps) → StatesAreAlike no_cells no_cells taken empty_state taken' empty_state
