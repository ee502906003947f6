-- What the stores of a run stand for.
use Rattle.std.specs.Prelude.{ℕ, ℤ, pos, Option, option_map, List, [], ◌∷◌, ◌++◌}
use Rattle.std.specs.HashMap.{HashMap, get}
use Rattle.std.specs.Option.{unwrap_or}
use Rattle.std.specs.Prelude.{nat_eq}
use Rattle.pv_ast.specs.declared.PvType.{PvType}
use Rattle.pv_values.specs.declared.value.Value.{Value}
use Rattle.pv_values.specs.declared.value.Value.TheVariants as value
use Rattle.pv_picks.specs.Formulas.Values.{Variables}
use Rattle.pv_picks.specs.Formulas.Evaluation as evaluation
use Rattle.pv_picks.specs.Judge.States as states
use Rattle.pv_cells.specs.declared.key.ArrayKey.{ArrayKey}
use Rattle.pv_cells.specs.declared.key.Resource.{Resource}
use Rattle.pv_cells.specs.declared.store.Cell.{Cell}
use Rattle.pv_cells.specs.declared.store.Cell.TheVariants.{Written, FromSteps}
use Rattle.pv_cells.specs.declared.store.Holding.{Holding}
use Rattle.pv_cells.specs.declared.store.Met.{Met}
use Rattle.pv_cells.specs.declared.store.Learned.{Learned}
use Rattle.pv_cells.specs.declared.store.Scene.{Scene}
use Rattle.pv_cells.specs.Keys.{is_array, is_resource, array_key, key_of}

abbrev pub cell_of : Cell → states.Cell
cell_of (Written v) = states.Written v
cell_of (FromSteps type number index) = states.FromSteps type number index

abbrev pub holding_of : Holding → states.Holding
holding_of h = record { amount = h.amount; cell = cell_of h.cell }

-- what is held
abbrev pub held_of : {S : Type 0} → HashMap Resource Holding S → states.Resource → Option states.Holding
held_of held r = option_map holding_of (get is_resource held (key_of r))

-- what is in held locations
abbrev pub cells_held : {S : Type 0} → HashMap Resource Holding S → states.Cells
cells_held held r = option_map (λ h. h.cell) (held_of held r)

abbrev pub lengths_of : {S : Type 0} → HashMap ArrayKey ℤ S → PvType → ℕ → Option ℤ
lengths_of lengths type array = get is_array lengths (array_key type array)

-- the last one first
abbrev pub met_of : List Met → List (PvType × ℕ)
met_of [] = []
met_of (m ∷ ms) = met_of ms ++ (m.kind, m.reference) ∷ []

abbrev pub variables_of : {S : Type 0} → HashMap ℕ Value S → Variables
variables_of variables name = unwrap_or (get nat_eq variables name) (value.Number (pos 0))

abbrev pub scene_of : Scene → evaluation.Scene
scene_of s = record { this = s.this; variables = variables_of s.variables; result = s.result }

-- a state that has learned this
abbrev pub with_learned : states.State → Learned → states.State
with_learned s l = record s { lengths = lengths_of l.lengths; met = met_of l.met.items; steps = l.steps }
