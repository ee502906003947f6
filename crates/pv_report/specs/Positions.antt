-- Positions: places with their lines and columns.
use Rattle.std.specs.Prelude.{◌≡◌, ℕ, ◌≤◌, List, length}
use Rattle.pv_base.specs.Place.{line_at, column_at}
use Rattle.pv_report.specs.declared.places.Position.{Position}

-- the place lies in the text, at its end at most, and its line and column are those of the position
pub record IsPosition (text : List ℕ) (position : Position) : Type 0 where
  pub within : position.at ≤ length text
  pub line : position.line ≡ line_at text position.at
  pub column : position.column ≡ column_at text position.at
