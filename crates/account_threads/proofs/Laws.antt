-- The laws of this crate, as they are stated.
use Rattle.std.proofs.Common.{◌∷◌, ap, ◌∙◌}
use Rattle.pv_picks.specs.Plain.Core.{Program}
use Rattle.pv_picks.specs.Machine.Worlds.{World}
use Rattle.pv_picks.specs.Machine.Safety.{IsReached}
use Rattle.account_formulas.specs.Growing.{HeapFits}
use Rattle.account_formulas.specs.Gaining.{PredicatesFit}
use Rattle.account.specs.Verified.{IsVerifiedThroughout}
use Rattle.account.proofs.Supplying.{heaps_fit}
use Rattle.account.proofs.Framing.{predicates_taken_in}
use Rattle.account_threads.specs.Statements.{UnlocksKeep, LocksKeep, CommitsKeep, ForksKeep, JoinsKeep, RunEndsKeep}
use Rattle.account_threads.proofs.Grounds.{invariants_taken_in, runs_bare}
use Rattle.account_threads.proofs.Unlocked.{unlock_keeps}
use Rattle.account_threads.proofs.Locked.{lock_keeps}
use Rattle.account_threads.proofs.Committed.{commit_keeps}
use Rattle.account_threads.proofs.Forked.{fork_keeps}
use Rattle.account_threads.proofs.Joined.{join_keeps}
use Rattle.account_threads.proofs.Ended.{run_returns}

module _ (p : Program) (verified : IsVerifiedThroughout p) (w : World) (reached : IsReached p w) where
  heap : HeapFits p w.heap
  heap = heaps_fit p verified.typed.bodies w reached

  predicates : PredicatesFit p w.heap
  predicates = predicates_taken_in p verified w.heap heap

pub unlocks_keep : UnlocksKeep
unlocks_keep p verified w reached a i f below stack at mode =
    unlock_keeps p w a (heap p verified w reached) (predicates p verified w reached)
    (invariants_taken_in p verified w.heap (heap p verified w reached)) i f below at.class at.span at.rest stack at.tasks mode

pub locks_keep : LocksKeep
locks_keep p verified w reached a i f below stack at mode =
    lock_keeps p w a (heap p verified w reached) (predicates p verified w reached)
    (invariants_taken_in p verified w.heap (heap p verified w reached)) i f below at.class at.span at.rest stack at.tasks mode

pub commits_keep : CommitsKeep
commits_keep p verified w reached a i f below stack at mode =
    commit_keeps p w a (heap p verified w reached) (predicates p verified w reached)
    (invariants_taken_in p verified w.heap (heap p verified w reached)) i f below at.class at.span at.rest stack at.tasks mode

pub forks_keep : ForksKeep
forks_keep p verified w reached a i f below stack at mode =
    fork_keeps p verified (runs_bare p verified) w a (heap p verified w reached) (predicates p verified w reached) i f below
    at.class at.span at.rest stack at.tasks mode

pub joins_keep : JoinsKeep
joins_keep p verified w reached a i f below stack at mode =
    join_keeps p w a (heap p verified w reached) (predicates p verified w reached) (runs_bare p verified) i f below at.class
    at.span at.rest stack at.tasks mode

pub run_ends_keep : RunEndsKeep
run_ends_keep p verified w reached a i f below stack at mode =
    run_returns p w a (heap p verified w reached) (predicates p verified w reached) (runs_bare p verified) i f at.object
    (stack ∙ ap (λ b. f ∷ b) at.alone) at.tasks at.run mode
