-- Programs in which each barrier and each message stands where a thread meets others: a barrier in a par block, a message in a
-- counted loop. A thread that is a member of neither waits there for ever.
use Rattle.std.specs.Prelude.{◌≡◌, ◌<◌, Bool, true, false}
use Rattle.std.specs.List.{AllByRecursion}
use Rattle.pv_picks.specs.Plain.Core.{Program, Class, Member, Statement, Block}
use Rattle.pv_picks.specs.Plain.Core as core

-- what stands innermost around a statement: the body of a method or of `run`, a par block, a counted loop, or a `while` in the
-- body of a counted loop
pub data Environment : Type 0 where
  InMethod InBlock InLoop InWhile : Environment

-- around the body of a par block or counted loop
abbrev pub environment_members : Bool → Environment
environment_members true = InLoop
environment_members false = InBlock

-- around the body of a `while`: a barrier may come again and again, a message comes once
abbrev pub environment_repeated : Environment → Environment
environment_repeated InMethod = InMethod
environment_repeated InBlock = InBlock
environment_repeated InLoop = InWhile
environment_repeated InWhile = InWhile

-- no message is sent to its own sender
abbrev mutual
  pub PlacedStatement : Environment → Statement → Type 0
  PlacedStatement environment (core.If e first second) = PlacedBlock environment first × PlacedBlock environment second
  PlacedStatement environment (core.While variables f e body span) = PlacedBlock (environment_repeated environment) body
  PlacedStatement environment (core.Members team body span) = PlacedBlock (environment_members team.counted) body
  PlacedStatement environment (core.Meet barrier span) = environment ≡ InBlock
  PlacedStatement environment (core.Send m span) = (environment ≡ InLoop) × (0 < m.distance)
  PlacedStatement environment (core.Receive m span) = environment ≡ InLoop
  PlacedStatement environment _ = Unit {0}

  pub PlacedBlock : Environment → Block → Type 0
  PlacedBlock environment core.Stop = Unit {0}
  PlacedBlock environment (core.Then s b) = PlacedStatement environment s × PlacedBlock environment b

abbrev pub PlacedMember : Member → Type 0
PlacedMember (core.IsMethod m) = PlacedBlock InMethod m.body
PlacedMember _ = Unit {0}

abbrev pub PlacedClass : Class → Type 0
PlacedClass c = AllByRecursion PlacedMember c.members

-- each barrier and each message of a program
abbrev pub IsPlaced : Program → Type 0
IsPlaced p = AllByRecursion PlacedClass p
