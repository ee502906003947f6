-- What follows from what is said of each contract that members keep is said of each, too.
use Rattle.std.proofs.Common.{Option, Some, None, List, [], ◌∷◌}
use Rattle.std.specs.Prelude.{if◌then◌else◌}
use Rattle.std.specs.List.{AllByRecursion}
use Rattle.pv_base.specs.declared.Name.{Name}
use Rattle.pv_picks.specs.Plain.Core.{Program, Class, Member, Shared, Statement, Block}
use Rattle.pv_picks.specs.Plain.Core as core
use Rattle.core_trees.specs.Positions.{ConfinedShared, ConfinedBarrier, ConfinedStatement, ConfinedBlock, ConfinedMember, IsConfined}
use Rattle.core_sharing.specs.Keeping.{SaidOfBarrier, SaidInStatement, SaidInBlock, SaidInMember, SaidInClass, EachShared}

module _ (P Q : Name → Shared → Type 0) (follows : (name : Name) (s : Shared) → P name s → Q name s) where
  barrier_follows : (environment : Option Name) (s : Shared) → SaidOfBarrier P environment s → SaidOfBarrier Q environment s
  barrier_follows None s h = absurd h
  barrier_follows (Some name) s h = follows name s h

  mutual
    statement_follows : (environment : Option Name) (s : Statement) → SaidInStatement P environment s
        → SaidInStatement Q environment s
    statement_follows environment (core.Assign target right span) h = tt
    statement_follows environment (core.If e first second) h =
        (block_follows environment first h.0, block_follows environment second h.1)
    statement_follows environment (core.While variables f e body span) h = block_follows environment body h
    statement_follows environment (core.Members team body span) h =
        (follows team.variable team.shared h.0, block_follows (if team.counted then environment else Some team.variable) body h.1)
    statement_follows environment (core.Meet barrier span) h = barrier_follows environment barrier.shared h
    statement_follows environment (core.Act action class e span) h = tt
    statement_follows environment (core.Fold class name e args span) h = tt
    statement_follows environment (core.Unfold class name e args span) h = tt
    statement_follows environment (core.Assert f span) h = tt
    statement_follows environment (core.Send m span) h = tt
    statement_follows environment (core.Receive m span) h = tt
    statement_follows environment (core.Return e span) h = tt

    block_follows : (environment : Option Name) (b : Block) → SaidInBlock P environment b → SaidInBlock Q environment b
    block_follows environment core.Stop h = tt
    block_follows environment (core.Then s b) h = (statement_follows environment s h.0, block_follows environment b h.1)

  member_follows : (m : Member) → SaidInMember P m → SaidInMember Q m
  member_follows (core.IsField f) h = tt
  member_follows (core.IsPredicate q) h = tt
  member_follows (core.IsMethod m) h = block_follows None m.body h

  all_follow : {A : Type 0} (S T : A → Type 0) → ((x : A) → S x → T x) → (xs : List A) → AllByRecursion S xs → AllByRecursion T xs
  all_follow S T each [] h = tt
  all_follow S T each (x ∷ xs) h = (each x h.0, all_follow S T each xs h.1)

  class_follows : (c : Class) → SaidInClass P c → SaidInClass Q c
  class_follows c h = all_follow (SaidInMember P) (SaidInMember Q) member_follows c.members h

  pub each_follows : (p : Program) → EachShared P p → EachShared Q p
  each_follows p h = all_follow (SaidInClass P) (SaidInClass Q) class_follows p h

-- positions stand only where they are read, so it may be said of each contract that members keep, too

abbrev pub BothSaid : (Name → Shared → Type 0) → Name → Shared → Type 0
BothSaid P name s = P name s × ConfinedShared name s

module _ (P : Name → Shared → Type 0) where
  barrier_confined : (environment : Option Name) (s : Shared) → SaidOfBarrier P environment s → ConfinedBarrier environment s
      → SaidOfBarrier (BothSaid P) environment s
  barrier_confined None s h c = absurd h
  barrier_confined (Some name) s h c = (h, c)

  mutual
    statement_confined : (environment : Option Name) (s : Statement) → SaidInStatement P environment s
        → ConfinedStatement environment s
        → SaidInStatement (BothSaid P) environment s
    statement_confined environment (core.Assign target right span) h c = tt
    statement_confined environment (core.If e first second) h c =
        (block_confined environment first h.0 c.0, block_confined environment second h.1 c.1)
    statement_confined environment (core.While variables f e body span) h c = block_confined environment body h c.1
    statement_confined environment (core.Members team body span) h c =
        ((h.0, c.0), block_confined (if team.counted then environment else Some team.variable) body h.1 c.1)
    statement_confined environment (core.Meet barrier span) h c = barrier_confined environment barrier.shared h c
    statement_confined environment (core.Act action class e span) h c = tt
    statement_confined environment (core.Fold class name e args span) h c = tt
    statement_confined environment (core.Unfold class name e args span) h c = tt
    statement_confined environment (core.Assert f span) h c = tt
    statement_confined environment (core.Send m span) h c = tt
    statement_confined environment (core.Receive m span) h c = tt
    statement_confined environment (core.Return e span) h c = tt

    block_confined : (environment : Option Name) (b : Block) → SaidInBlock P environment b → ConfinedBlock environment b
        → SaidInBlock (BothSaid P) environment b
    block_confined environment core.Stop h c = tt
    block_confined environment (core.Then s b) h c =
        (statement_confined environment s h.0 c.0, block_confined environment b h.1 c.1)

  member_confined : (m : Member) → SaidInMember P m → ConfinedMember m → SaidInMember (BothSaid P) m
  member_confined (core.IsField f) h c = tt
  member_confined (core.IsPredicate q) h c = tt
  member_confined (core.IsMethod m) h c = block_confined None m.body h c.1

  members_confined : (ms : List Member) → AllByRecursion (SaidInMember P) ms → AllByRecursion ConfinedMember ms
      → AllByRecursion (SaidInMember (BothSaid P)) ms
  members_confined [] h c = tt
  members_confined (m ∷ ms) h c = (member_confined m h.0 c.0, members_confined ms h.1 c.1)

  pub each_confined : (p : Program) → EachShared P p → IsConfined p → EachShared (BothSaid P) p
  each_confined [] h c = tt
  each_confined (k ∷ ks) h c = (members_confined k.members h.0 c.0.1, each_confined ks h.1 c.1)
