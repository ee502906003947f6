-- What a path stands for.
use Rattle.std.specs.Prelude.{ℕ, List, ◌++◌, take}
use Rattle.pv_linear.specs.declared.Sort.{Sort}
use Rattle.pv_linear.specs.declared.Literal.{Literal}
use Rattle.pv_linear.specs.Evidence.{Evidence}
use Rattle.pv_linear.specs.Decisions.{Decision}
use Rattle.pv_path.specs.declared.path.Path.{Path}
use Rattle.pv_path.specs.Branches.{decisions_of, sides_of, parts_of, branch_turns}
use Rattle.pv_path.specs.Standing.{Stands}

-- the literals on the path: those kept from the path before, and those asked on it
abbrev pub path_of : Path → List Literal
path_of p = take p.kept p.choices.literals.items ++ p.asked.items

-- the turns taken
abbrev pub turns_of : Path → List ℕ
turns_of p = take p.taken (branch_turns p.choices.branches.items)

-- the decisions of the path
abbrev pub decisions : Path → List Decision
decisions p = decisions_of p.choices.branches.items

-- the open sides, the one that comes next last
abbrev pub open_sides : Path → List (List Decision)
open_sides p = sides_of p.choices.branches.items

-- the parts: the path, and the open sides
abbrev pub parts : Path → List (List Decision)
parts p = parts_of p.choices.branches.items

-- the evidence has turns below 3 and stands in some part
abbrev pub stands : Path → Evidence → Type 0
stands p e = Stands e p.choices.branches.items

-- the sorts of the symbols made on the path
abbrev pub sorts_of : Path → List Sort
sorts_of p = p.sorts.items

-- how many paths have ended before
abbrev pub ended : Path → ℕ
ended p = p.ended
