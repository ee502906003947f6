-- No evidence makes the judge fail on any unit of the counter, nor of the program that folds a predicate; on a writer some does.
use Rattle.std.proofs.Common.{pos, [], ◌∷◌, refl, subst}
use Rattle.std.specs.List.{AllByRecursion}
use Rattle.pv_picks.specs.declared.check.Check.TheVariants as check
use Rattle.pv_picks.specs.declared.evidence.Pick.TheVariants.{Number, Turn}
use Rattle.pv_picks.specs.Verdicts.Grounds.{NeverFails}
use Rattle.pv_picks.specs.Verdicts.Units.{units_of}
use Rattle.worked_programs.specs.Objects as trees
use Rattle.worked_programs.specs.CoreObjects as cores
use Rattle.worked_programs.specs.Nodes.{at}
use Rattle.worked_trees.proofs.Objects.{objects_become}
use Rattle.worked_safety.specs.Verified.{CounterIsVerified, ChainIsVerified, CounterPasses, WritersAreNotVerified}
use Rattle.machine_loops.proofs.Programs.{passed}
use Rattle.soundness.proofs.Runs.{safe}
use Rattle.worked_forms.proofs.Safely.{verified_as, never_fails}
use Rattle.worked_safety.proofs.Formed.{counter_formed}
use Rattle.worked_safety.proofs.Counter.{unit, increments}
use Rattle.worked_safety.proofs.Chain.{body, up, body_safe, up_safe}

pub counter_verified : CounterIsVerified
counter_verified =
    verified_as trees.counter cores.counter objects_become.0 (never_fails cores.counter unit increments, tt)

pub chain_verified : ChainIsVerified
chain_verified =
    verified_as trees.chain cores.chain objects_become.7
    (never_fails cores.chain body body_safe, (never_fails cores.chain up up_safe, tt))

pub writers_refused : WritersAreNotVerified
writers_refused verified =
    let all : AllByRecursion (NeverFails cores.writers) (units_of trees.writers) =
    subst (λ c. AllByRecursion (NeverFails c) (units_of trees.writers)) objects_become.3 verified in
    all.0 (record { picks = Number (pos 1) ∷ Turn 0 ∷ []; table = [] }) check.ReadPermission (at 37 38) refl

-- so soundness speaks of it
pub counter_passes : CounterPasses
counter_passes = passed safe trees.counter counter_formed counter_verified
