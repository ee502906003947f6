-- The names in scope.
use Rattle.std.specs.Prelude.{ℕ, Bool, true, false, nat_eq, Option, Some, None, is_some, List, [], ◌∷◌, ◌++◌, drop, length, if◌then◌else◌}
use Rattle.pv_base.specs.declared.Name.{Name}
use Rattle.pv_ast.specs.declared.PvType.{PvType}
use Rattle.pv_ast.specs.declared.scope.Declaration.{Declaration}
use Rattle.pv_ast.specs.declared.scope.Declaration.TheVariants.{Parameter, Local, LoopVariable, Bound, Block}
use Rattle.pv_ast.specs.declared.scope.Declared.{Declared}

-- the names in scope in the order of their declarations; the first `outside` of them stand outside the innermost par block
-- or counted loop
pub record Visible : Type 0 where
  pub names : List (ℕ × Declared)
  pub outside : ℕ

abbrev pub nothing_visible : Visible
nothing_visible = record { names = []; outside = 0 }

-- what a name stands for among names
abbrev pub declared_as : List (ℕ × Declared) → Name → Option Declared
declared_as [] name = None
declared_as (entry ∷ entries) name = if nat_eq name.0 entry.0 then Some entry.1 else declared_as entries name

abbrev pub is_visible : Visible → Name → Bool
is_visible v name = is_some (declared_as v.names name)

-- a name that is in scope keeps its meaning
abbrev pub declare : Visible → Name → Declared → Visible
declare v name d = if is_visible v name then v else record v { names = v.names ++ (name.0, d) ∷ [] }

abbrev pub declare_variable : Declaration → Visible → Name → PvType → Visible
declare_variable how v name type = declare v name (record { declaration = how; kind = type })

-- inside a par block or counted loop
abbrev pub entered : Visible → Visible
entered v = record v { outside = length v.names }

abbrev pub is_block : Declaration → Bool
is_block Parameter = false
is_block Local = false
is_block LoopVariable = false
is_block Bound = false
is_block Block = true

abbrev pub is_local : Declaration → Bool
is_local Parameter = false
is_local Local = true
is_local LoopVariable = false
is_local Bound = false
is_local Block = false

-- a block's name is no variable
abbrev pub as_variable : Option Declared → Option Declared
as_variable None = None
as_variable (Some d) = if is_block d.declaration then None else Some d

abbrev pub variable_named : Visible → Name → Option Declared
variable_named v name = as_variable (declared_as v.names name)

abbrev pub is_local_variable : Option Declared → Bool
is_local_variable None = false
is_local_variable (Some d) = is_local d.declaration

-- a local that is declared in the body of the innermost par block or counted loop, or of the method where there is none
abbrev pub is_inner_local : Visible → Name → Bool
is_inner_local v name = is_local_variable (declared_as (drop v.outside v.names) name)

abbrev pub is_block_name : Option Declared → Bool
is_block_name None = false
is_block_name (Some d) = is_block d.declaration

-- the name of a par block around, and of the innermost one
abbrev pub is_block_around : Visible → Name → Bool
is_block_around v name = is_block_name (declared_as v.names name)

abbrev pub is_innermost_block : Visible → Name → Bool
is_innermost_block v name = is_block_name (declared_as (drop v.outside v.names) name)
