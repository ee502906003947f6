-- The rest of a run of the judge under true arithmetic, by the picks for ranges that were taken: that it never fails.
use Rattle.std.specs.Prelude.{◌≡◌, ℕ, List, [], option_map}
use Rattle.pv_base.specs.declared.Span.{Span}
use Rattle.pv_picks.specs.declared.check.Check.{Check}
use Rattle.pv_picks.specs.declared.evidence.Pick.{Pick}
use Rattle.pv_picks.specs.Judge.States.{Resource, Cells, State}
use Rattle.pv_picks.specs.Judge.Settings.{Setting}
use Rattle.pv_picks.specs.Judge.Runs.{Failed, Judged, judging, Maps, maps_from, content}
use Rattle.account_formulas.specs.Sights.{Lengths, Contents}

-- the picks for ranges that a run took: how many, and their maps
pub record Taken : Type 0 where
  pub steps : ℕ
  pub maps : Maps

-- their maps, and those of the picks that are left
abbrev pub all_maps : Taken → List Pick → Maps
all_maps taken picks = maps_from taken.steps taken.maps picks

-- the judge whose operations are true arithmetic
abbrev pub truly : Maps → Setting Judged
truly maps = judging maps []

-- whatever is picked, the rest of a run doesn't fail
pub record RestNeverFails (taken : Taken) (rest : Maps → Judged) : Type 0 where
  pub never : (picks : List Pick) (check : Check) (span : Span) → rest (all_maps taken picks) picks ≡ Failed check span → ⊥

-- what is in cells is known, whatever is picked
abbrev pub AreSettled : Taken → Cells → Contents → Type 0
AreSettled taken cells known = (picks : List Pick) (r : Resource) → option_map (content (all_maps taken picks)) (cells r)
    ≡ known r

-- what is in cells, as far as the picks that were taken say
abbrev pub contents_of : Taken → Cells → Contents
contents_of taken cells r = option_map (content (all_maps taken [])) (cells r)

-- a run that took these picks may go on to have taken those
abbrev pub GoesOnTo : Taken → Taken → Type 0
GoesOnTo before after = (picks : List Pick) → (more : List Pick) × (all_maps after picks ≡ all_maps before more)

-- a state with other known lengths
abbrev pub with_lengths : State → Lengths → State
with_lengths s lengths = record s { lengths = lengths }
