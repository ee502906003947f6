-- Values of expressions: what a call says that evaluates one.
use Rattle.std.specs.Prelude.{◌≡◌, ℕ, ℤ}
use Rattle.pv_ast.specs.declared.PvType.{PvType}
use Rattle.pv_values.specs.declared.value.Value.{Value}
use Rattle.pv_picks.specs.Plain.Core.{Expression}
use Rattle.pv_picks.specs.Formulas.Evaluation.{Scene, evaluate}
use Rattle.pv_picks.specs.Judge.States.{State, Cells}
use Rattle.pv_picks.specs.Judge.Settings.{look_at_length}
use Rattle.pv_cells.specs.declared.halt.Halt.{Halt}
use Rattle.pv_cells.specs.declared.prepared.Prepared.{Prepared}
use Rattle.pv_cells.specs.declared.store.Learned.{Learned}
use Rattle.pv_cells.specs.Limits.{limiting, reader_within}
use Rattle.pv_cells.specs.Parts.{Part, Goes, Halts}
use Rattle.pv_cells.specs.Prepared.{maps_of, table_of, left}
use Rattle.pv_cells.specs.Stores.{with_learned}

-- what expressions are evaluated in: the present cells, those of the old state, and what else they speak of
pub record Surroundings : Type 0 where
  pub now : Cells
  pub old : Cells
  pub scene : Scene

-- the value of an expression, where the present cells are read off the state
abbrev pub value_part : Prepared → (State → Cells) → Cells → Scene → Expression → Part Value
value_part given cells old scene e missing next =
    evaluate (reader_within (maps_of given) (table_of given) cells missing)
    (reader_within (maps_of given) (table_of given) (λ s. old) missing) scene e next

-- whatever is learned, these cells are read off the state
abbrev pub Reads : (State → Cells) → State → Cells → Type 0
Reads cells s now = (l : Learned) → cells (with_learned s l) ≡ now

-- the expression has the value, and this is learned
unfoldable pub Valued : Prepared → Surroundings → Expression → Learned → Value → Learned → Type 0
Valued given around e from v to = (cells : State → Cells) (s : State) → Reads cells s around.now
    → Goes (value_part given cells around.old around.scene e) (with_learned s from) (left given from) v (with_learned s to)
    (left given to)

-- the run doesn't come to the expression's value
unfoldable pub Unvalued : Prepared → Surroundings → Expression → Learned → Halt → Learned → Type 0
Unvalued given around e from halt to = (cells : State → Cells) (s : State) → Reads cells s around.now
    → Halts (value_part given cells around.old around.scene e) (with_learned s from) (left given from) halt (with_learned s to)
    (left given to)

abbrev pub length_part : Prepared → PvType → ℕ → Part ℤ
length_part given type array missing next = look_at_length (limiting (maps_of given) (table_of given)) type array next

-- the array has the length, and this is learned
unfoldable pub Measured : Prepared → PvType → ℕ → Learned → ℤ → Learned → Type 0
Measured given type array from n to = (s : State)
    → Goes (length_part given type array) (with_learned s from) (left given from) n (with_learned s to) (left given to)

unfoldable pub Unmeasured : Prepared → PvType → ℕ → Learned → Halt → Learned → Type 0
Unmeasured given type array from halt to = (s : State)
    → Halts (length_part given type array) (with_learned s from) (left given from) halt (with_learned s to) (left given to)
