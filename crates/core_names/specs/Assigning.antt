-- What bodies assign: a method none of its parameters, the body of a block nothing that is in scope outside it, and a loop what
-- its
-- list names.
use Rattle.std.specs.Prelude.{◌≡◌, Bool, true, false, ◌||◌, List, ◌∷◌}
use Rattle.std.specs.List.{AllByRecursion}
use Rattle.pv_base.specs.declared.Name.{Name}
use Rattle.pv_base.specs.Names.{same_name}
use Rattle.pv_picks.specs.Plain.Core as core
use Rattle.pv_picks.specs.Plain.Core.{Target, Parameter, Statement, Block, Method, Member, Class, Program}
use Rattle.core_trees.specs.Resolved.{InScope, names_of, behind}
use Rattle.core_trees.specs.Naming.{AreDistinct}

-- whether a value goes into the variable
abbrev pub goes_into : Name → Target → Bool
goes_into name core.Nowhere = false
goes_into name (core.ToVariable other) = same_name name other
goes_into name (core.ToField object class field span) = false
goes_into name (core.ToElement type array index span) = false

-- whether a statement or a block assigns the variable, at any depth; a declaration is an assignment, too
abbrev mutual
  pub assigns : Name → Statement → Bool
  assigns name (core.Assign target right span) = goes_into name target
  assigns name (core.If e first second) = assigns_in name first || assigns_in name second
  assigns name (core.While variables f e body span) = assigns_in name body
  assigns name (core.Members team body span) = assigns_in name body
  assigns name (core.Meet barrier span) = false
  assigns name (core.Act action class e span) = false
  assigns name (core.Fold class predicate e args span) = false
  assigns name (core.Unfold class predicate e args span) = false
  assigns name (core.Assert f span) = false
  assigns name (core.Send m span) = false
  assigns name (core.Receive m span) = false
  assigns name (core.Return e span) = false

  pub assigns_in : Name → Block → Bool
  assigns_in name core.Stop = false
  assigns_in name (core.Then s b) = assigns name s || assigns_in name b

-- none of the names is assigned
abbrev pub KeepsFixed : List Name → Block → Type 0
KeepsFixed names b = (name : Name) → InScope names name → assigns_in name b ≡ false

-- the list of a loop has each variable in scope that its body assigns, only variables in scope, and none twice
pub record IsListed (names : List Name) (variables : List Parameter) (body : Block) : Type 0 where
  pub covers : (name : Name) → InScope names name → assigns_in name body ≡ true → InScope (names_of variables) name
  pub scope : AllByRecursion (InScope names) (names_of variables)
  pub distinct : AreDistinct (names_of variables)

-- by the names in scope: each loop has its list, and the body of each block fixes what is in scope at its head
abbrev mutual
  pub StatementKeeps : List Name → Statement → Type 0
  StatementKeeps names (core.Assign target right span) = Unit {0}
  StatementKeeps names (core.If e first second) = BlockKeeps names first × BlockKeeps names second
  StatementKeeps names (core.While variables f e body span) = IsListed names variables body × BlockKeeps names body
  StatementKeeps names (core.Members team body span) =
      KeepsFixed (team.variable ∷ names) body × BlockKeeps (team.variable ∷ names) body
  StatementKeeps names (core.Meet barrier span) = Unit {0}
  StatementKeeps names (core.Act action class e span) = Unit {0}
  StatementKeeps names (core.Fold class predicate e args span) = Unit {0}
  StatementKeeps names (core.Unfold class predicate e args span) = Unit {0}
  StatementKeeps names (core.Assert f span) = Unit {0}
  StatementKeeps names (core.Send m span) = Unit {0}
  StatementKeeps names (core.Receive m span) = Unit {0}
  StatementKeeps names (core.Return e span) = Unit {0}

  pub BlockKeeps : List Name → Block → Type 0
  BlockKeeps names core.Stop = Unit {0}
  BlockKeeps names (core.Then s b) = StatementKeeps names s × BlockKeeps (behind names s) b

-- a method or `run` fixes its parameters
abbrev pub MethodKeeps : Method → Type 0
MethodKeeps m = KeepsFixed (names_of m.parameters) m.body × BlockKeeps (names_of m.parameters) m.body

-- a member, and each of a class
abbrev pub MemberKeeps : Member → Type 0
MemberKeeps (core.IsField f) = Unit {0}
MemberKeeps (core.IsPredicate q) = Unit {0}
MemberKeeps (core.IsMethod m) = MethodKeeps m

abbrev pub ClassKeeps : Class → Type 0
ClassKeeps c = AllByRecursion MemberKeeps c.members

-- each method and `run` of the program
abbrev pub KeepsNames : Program → Type 0
KeepsNames p = AllByRecursion ClassKeeps p
