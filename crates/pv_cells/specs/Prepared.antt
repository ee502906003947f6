-- What prepared evidence gives.
use Rattle.std.specs.Prelude.{pos, List, [], ◌∷◌, map, drop}
use Rattle.pv_picks.specs.declared.evidence.Pick.{Pick}
use Rattle.pv_picks.specs.declared.evidence.Pick.TheVariants.{Number, Turn, Steps}
use Rattle.pv_picks.specs.declared.evidence.StepPair.{StepPair}
use Rattle.pv_picks.specs.declared.evidence.Entry.{Entry}
use Rattle.pv_picks.specs.Judge.Runs.{Maps, step_value, before_others}
use Rattle.pv_cells.specs.declared.prepared.Prepared.{Prepared}
use Rattle.pv_cells.specs.declared.store.Learned.{Learned}

-- the picks for ranges, in their order
abbrev pub step_maps : List Pick → List (List StepPair)
step_maps [] = []
step_maps (Number z ∷ picks) = step_maps picks
step_maps (Turn n ∷ picks) = step_maps picks
step_maps (Steps map ∷ picks) = map ∷ step_maps picks

abbrev pub maps_in : List (List StepPair) → Maps
maps_in [] = λ n index. pos 0
maps_in (m ∷ ms) = before_others (step_value m) (maps_in ms)

-- what each pick for a range gives
abbrev pub maps_of : Prepared → Maps
maps_of given = maps_in (map (λ m. m.now) given.maps.items)

-- the picks that are left
abbrev pub left : Prepared → Learned → List Pick
left given l = drop l.used given.evidence.now.picks

abbrev pub table_of : Prepared → List Entry
table_of given = given.evidence.now.table
