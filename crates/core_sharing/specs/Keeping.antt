-- Where the contracts that members keep stand in a program, and under which position.
use Rattle.std.specs.Prelude.{Option, Some, None, if◌then◌else◌}
use Rattle.std.specs.List.{AllByRecursion}
use Rattle.pv_base.specs.declared.Name.{Name}
use Rattle.pv_picks.specs.Plain.Core.{Program, Class, Member, Shared, Statement, Block}
use Rattle.pv_picks.specs.Plain.Core as core

-- what is said of a contract that members keep, by the name of their position
module _ (Says : Name → Shared → Type 0) where
  -- a barrier stands in a par block, and its contract is one at the position of the innermost
  abbrev pub SaidOfBarrier : Option Name → Shared → Type 0
  SaidOfBarrier None s = ⊥
  SaidOfBarrier (Some name) s = Says name s

  -- it is said of each such contract of a statement; `around` is the position of the innermost par block around, if any
  abbrev mutual
    pub SaidInStatement : Option Name → Statement → Type 0
    SaidInStatement environment (core.Assign target right span) = Unit {0}
    SaidInStatement environment (core.If e first second) = SaidInBlock environment first × SaidInBlock environment second
    SaidInStatement environment (core.While variables f e body span) = SaidInBlock environment body
    SaidInStatement environment (core.Members team body span) =
        Says team.variable team.shared × SaidInBlock (if team.counted then environment else Some team.variable) body
    SaidInStatement environment (core.Meet barrier span) = SaidOfBarrier environment barrier.shared
    SaidInStatement environment (core.Act action class e span) = Unit {0}
    SaidInStatement environment (core.Fold class name e args span) = Unit {0}
    SaidInStatement environment (core.Unfold class name e args span) = Unit {0}
    SaidInStatement environment (core.Assert f span) = Unit {0}
    SaidInStatement environment (core.Send m span) = Unit {0}
    SaidInStatement environment (core.Receive m span) = Unit {0}
    SaidInStatement environment (core.Return e span) = Unit {0}

    pub SaidInBlock : Option Name → Block → Type 0
    SaidInBlock environment core.Stop = Unit {0}
    SaidInBlock environment (core.Then s b) = SaidInStatement environment s × SaidInBlock environment b

  abbrev pub SaidInMember : Member → Type 0
  SaidInMember (core.IsField f) = Unit {0}
  SaidInMember (core.IsPredicate q) = Unit {0}
  SaidInMember (core.IsMethod m) = SaidInBlock None m.body

  abbrev pub SaidInClass : Class → Type 0
  SaidInClass c = AllByRecursion SaidInMember c.members

  -- it is said of each such contract of a program
  abbrev pub EachShared : Program → Type 0
  EachShared p = AllByRecursion SaidInClass p
