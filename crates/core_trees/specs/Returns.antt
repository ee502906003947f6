-- Programs in which nothing returns but the last statement of a method's body: what stands behind a `return` would still run.
use Rattle.std.specs.Prelude.{◌⊎◌, Option, Some, None}
use Rattle.std.specs.List.{AllByRecursion}
use Rattle.pv_base.specs.declared.Name.{Name}
use Rattle.pv_picks.specs.Plain.Core.{Program, Class, Member, Statement, Block}
use Rattle.pv_picks.specs.Plain.Core as core

-- nothing in it returns
abbrev mutual
  pub Goes : Statement → Type 0
  Goes (core.If e first second) = GoesOn first × GoesOn second
  Goes (core.While variables f e body span) = GoesOn body
  Goes (core.Members team body span) = GoesOn body
  Goes (core.Return e span) = ⊥
  Goes _ = Unit {0}

  pub GoesOn : Block → Type 0
  GoesOn core.Stop = Unit {0}
  GoesOn (core.Then s b) = Goes s × GoesOn b

abbrev pub IsReturn : Statement → Type 0
IsReturn (core.Return e span) = Unit {0}
IsReturn _ = ⊥

-- nothing returns but the last statement, by itself
abbrev pub ReturnsLast : Block → Type 0
ReturnsLast core.Stop = Unit {0}
ReturnsLast (core.Then s core.Stop) = Goes s ⊎ IsReturn s
ReturnsLast (core.Then s (core.Then t b)) = Goes s × ReturnsLast (core.Then t b)

-- a `run` has no name, and nothing returns in it
abbrev pub ReturnsInBody : Option Name → Block → Type 0
ReturnsInBody None body = GoesOn body
ReturnsInBody (Some name) body = ReturnsLast body

abbrev pub MemberReturns : Member → Type 0
MemberReturns (core.IsMethod m) = ReturnsInBody m.name m.body
MemberReturns _ = Unit {0}

abbrev pub ClassReturns : Class → Type 0
ClassReturns c = AllByRecursion MemberReturns c.members

-- each body of a program
abbrev pub ReturnsComeLast : Program → Type 0
ReturnsComeLast p = AllByRecursion ClassReturns p
