-- Which variables a body assigns.
use Rattle.std.specs.Prelude.{◌≡◌, ◌⊎◌, None, List, IsSome}
use Rattle.pv_base.specs.declared.Name.{Name}
use Rattle.pv_picks.specs.Plain.Core as core
use Rattle.pv_picks.specs.Plain.Core.{Parameter, Target, Statement, Block}
use Rattle.pv_picks.specs.Typing.Expressions.{type_in}

-- a variable that is assigned is one that may be
abbrev pub TargetIs : (Name → Type 0) → Target → Type 0
TargetIs may core.Nowhere = Unit {0}
TargetIs may (core.ToVariable name) = may name
TargetIs may (core.ToField object class name span) = Unit {0}
TargetIs may (core.ToElement element array index span) = Unit {0}

-- each variable that is assigned, also further in, is one that may be
abbrev mutual
  pub AssignsOnly : (Name → Type 0) → Statement → Type 0
  AssignsOnly may (core.Assign target right span) = TargetIs may target
  AssignsOnly may (core.If e first second) = BlockAssigns may first × BlockAssigns may second
  AssignsOnly may (core.While assigned invariant e body span) = BlockAssigns may body
  AssignsOnly may (core.Members team body span) = BlockAssigns may body
  AssignsOnly may _ = Unit {0}

  pub BlockAssigns : (Name → Type 0) → Block → Type 0
  BlockAssigns may core.Stop = Unit {0}
  BlockAssigns may (core.Then s b) = AssignsOnly may s × BlockAssigns may b

-- no variable in scope at the head of the innermost body: no parameter, no loop variable, no local of a body around
abbrev pub IsOwn : List Parameter → Name → Type 0
IsOwn head name = type_in head name ≡ None

-- none of the variables in scope but those of the list
abbrev pub IsListed : List Parameter → List Parameter → Name → Type 0
IsListed xs listed name = (type_in xs name ≡ None) ⊎ IsSome (type_in listed name)
