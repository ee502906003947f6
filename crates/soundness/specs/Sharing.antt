-- What the threads of a body share with others, in a plain program: contracts that members keep, barriers and messages.
use Rattle.std.specs.Prelude.{◌≡◌, if◌then◌else◌, Option, Some}
use Rattle.pv_base.specs.declared.Name.{Name}
use Rattle.pv_picks.specs.Plain.Core as core
use Rattle.pv_picks.specs.Plain.Core.{Team, Statement, Block}
use Rattle.core_trees.specs.Placing.{Environment, InBlock, InLoop, environment_members, environment_repeated}
use Rattle.core_trees.specs.Formulas.{OnceEach}
use Rattle.core_sharing.specs.Keeping.{SaidOfBarrier}
use Rattle.core_sharing.specs.Forms.{SameShared}

-- the variable of the innermost par block in the body of a block's members
abbrev pub position_in : Option Name → Team → Option Name
position_in position team = if team.counted then position else Some team.variable

-- By what stands innermost around, and the variable of the innermost par block around: barriers stand in par blocks and messages
-- in counted loops, both forms of each contract that members keep are made alike, and a counted loop receives each label once.
abbrev mutual
  pub StatementShares : Environment → Option Name → Statement → Type 0
  StatementShares environment position (core.If e first second) =
      BlockShares environment position first × BlockShares environment position second
  StatementShares environment position (core.While variables f e body span) =
      BlockShares (environment_repeated environment) position body
  StatementShares environment position (core.Members team body span) =
      SameShared team.variable team.shared × OnceEach team.counted body
      × BlockShares (environment_members team.counted) (position_in position team) body
  StatementShares environment position (core.Meet barrier span) =
      (environment ≡ InBlock) × SaidOfBarrier SameShared position barrier.shared
  StatementShares environment position (core.Send m span) = environment ≡ InLoop
  StatementShares environment position (core.Receive m span) = environment ≡ InLoop
  StatementShares environment position _ = Unit {0}

  pub BlockShares : Environment → Option Name → Block → Type 0
  BlockShares environment position core.Stop = Unit {0}
  BlockShares environment position (core.Then s b) = StatementShares environment position s × BlockShares environment position b
