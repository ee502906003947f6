-- What is fixed in a frame: the names of which its contract speaks keep the values that it began with.
use Rattle.std.specs.Prelude.{◌≡◌, false, Option, Some, None, List, [], ◌∷◌}
use Rattle.pv_base.specs.declared.Name.{Name}
use Rattle.pv_base.specs.Names.{same_name}
use Rattle.pv_picks.specs.Plain.Core.{Team, Block, Program}
use Rattle.pv_picks.specs.Formulas.Values.{Variables, at_position}
use Rattle.pv_picks.specs.Machine.Tasks.{Step, AtHead, AtOpen, AtArrive, AtLeave, AtSend, AtReceive, Task, Branch, Turn, Put, Run, Stand}
use Rattle.pv_picks.specs.Machine.Frames.{Frame}
use Rattle.core_trees.specs.Resolved.{InScope, names_of, ResolvedFormula, ResolvedShared, ResolvedBlock}
use Rattle.core_names.specs.Assigning.{KeepsFixed, BlockKeeps}
use Rattle.core_names.specs.Carrying.{IsDeclared, Membership}

-- a block in a body at whose head these names are in scope: some more are in scope by now, its barriers and messages speak of
-- those at
-- the head, and it assigns none of them
pub record BlockStands (p : Program) (head : List Name) (b : Block) : Type 0 where
  pub names : List Name
  pub more : (name : Name) → InScope head name → InScope names name
  pub fixed : KeepsFixed head b
  pub resolved : ResolvedBlock p head names b
  pub keeps : BlockKeeps names b

-- a block is opened: its contract and its body speak of the names in scope and of its variable, and the body assigns none of them
pub record TeamStands (p : Program) (head : List Name) (team : Team) (body : Block) : Type 0 where
  pub names : List Name
  pub more : (name : Name) → InScope head name → InScope names name
  pub shared : ResolvedShared p (team.variable ∷ names) team.shared
  pub fixed : KeepsFixed (team.variable ∷ names) body
  pub resolved : ResolvedBlock p (team.variable ∷ names) (team.variable ∷ names) body
  pub keeps : BlockKeeps (team.variable ∷ names) body

-- a step in such a body: blocks in it stand so, and barriers and messages speak of the names at the head
abbrev pub StepStands : Program → List Name → Step → Type 0
StepStands p head (AtHead check loop) = BlockStands p head loop.body
StepStands p head (AtOpen team body) = TeamStands p head team body
StepStands p head (AtArrive barrier span) = ResolvedShared p head barrier.shared
StepStands p head (AtLeave barrier span) = ResolvedShared p head barrier.shared
StepStands p head (AtSend message span) = ResolvedFormula p head message.formula
StepStands p head (AtReceive message span) = ResolvedFormula p head message.formula
StepStands p head _ = Unit {0}

-- a task in such a body, which assigns no name of the head
abbrev pub TaskStands : Program → List Name → Task → Type 0
TaskStands p head (Branch a b) = BlockStands p head a × BlockStands p head b
TaskStands p head (Turn loop) = BlockStands p head loop.body
TaskStands p head (Put name) = (n : Name) → InScope head n → same_name n name ≡ false
TaskStands p head (Run b) = BlockStands p head b
TaskStands p head (Stand step) = StepStands p head step
TaskStands p head _ = Unit {0}

-- what is left to do
abbrev pub TasksStand : Program → List Name → List Task → Type 0
TasksStand p head [] = Unit {0}
TasksStand p head (t ∷ ts) = TaskStands p head t × TasksStand p head ts

-- a member's own body began with the variables of who opened its block, and its position as the variable of the block; and the
-- contract of the block speaks of the names at the head
pub record IsMember (p : Program) (head : List Name) (begun : Variables) (m : Membership) : Type 0 where
  pub variable : InScope head m.team.variable
  pub begins : begun ≡ at_position m.opening.variables m.team.variable m.position
  pub contract : ResolvedShared p head m.team.shared

-- where the body is a member's own
abbrev pub IsOneOf : Program → List Name → Variables → Option Membership → Type 0
IsOneOf p head begun None = Unit {0}
IsOneOf p head begun (Some m) = IsMember p head begun m

-- The frame is of a method of the program. Some names are fixed: those at the head of its own body. The parameters of the method
-- are among them, and whatever the contract of its block, its barriers and its messages speak of. Each has the value that the
-- frame began with, and none is assigned in what is left.
pub record KeepsHead (p : Program) (m : Option Membership) (f : Frame) : Type 0 where
  pub declared : IsDeclared p f.class f.method
  pub head : List Name
  pub parameters : (name : Name) → InScope (names_of f.method.parameters) name → InScope head name
  pub member : IsOneOf p head f.begun m
  pub tasks : TasksStand p head f.tasks
  pub fixed : (name : Name) → InScope head name → f.variables name.0 ≡ f.begun name.0
