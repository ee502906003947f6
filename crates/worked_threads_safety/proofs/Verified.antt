-- No evidence makes the judge fail on any unit of the programs; they are well formed, so soundness speaks of them.
use Rattle.pv_picks.specs.declared.unit.Part.TheVariants as part
use Rattle.worked_programs.specs.Witnesses as trees
use Rattle.worked_programs.specs.CoreWitnesses as cores
use Rattle.worked_trees.proofs.Witnesses.{witnesses_become}
use Rattle.machine_loops.proofs.Programs.{passed}
use Rattle.soundness.proofs.Runs.{safe}
use Rattle.worked_forms.proofs.Safely.{verified_as, never_fails}
use Rattle.worked_threads_safety.specs.Verified.{HandedIsVerified, ListIsVerified, PostedIsVerified, RelayIsVerified, HandedPasses, RelayPasses, PostedPasses, ListPasses, DividedIsVerified, DividedPasses}
use Rattle.worked_threads_safety.proofs.Rows.{unit}
use Rattle.worked_threads_safety.proofs.Handed.{invariant_safe, run_safe, main_safe}
use Rattle.worked_threads_safety.proofs.Relay.{relay_safe}
use Rattle.worked_threads_safety.proofs.Posted.{post_safe}
use Rattle.worked_threads_safety.proofs.Divided.{share_safe}
use Rattle.worked_threads_safety.proofs.DividedFormed.{divided_formed}
use Rattle.worked_threads_safety.proofs.ListNode.{list_safe, up_safe, two_safe}
use Rattle.worked_threads_safety.proofs.HandedFormed.{handed_formed}
use Rattle.worked_threads_safety.proofs.RelayFormed.{relay_formed}
use Rattle.worked_threads_safety.proofs.PostedFormed.{posted_formed}
use Rattle.worked_threads_safety.proofs.ListFormed.{list_formed}

pub handed_verified : HandedIsVerified
handed_verified =
    verified_as trees.handed cores.handed witnesses_become.0 (
      never_fails cores.handed (unit 0 part.LockInvariant) invariant_safe,
      (
        never_fails cores.handed (unit 0 (part.Member 1)) run_safe,
        (never_fails cores.handed (unit 1 (part.Member 0)) main_safe, tt),
      ),
    )

pub handed_passes : HandedPasses
handed_passes = passed safe trees.handed handed_formed handed_verified

pub relay_verified : RelayIsVerified
relay_verified =
    verified_as trees.relay cores.relay witnesses_become.1 (never_fails cores.relay (unit 0 (part.Member 1)) relay_safe, tt)

pub relay_passes : RelayPasses
relay_passes = passed safe trees.relay relay_formed relay_verified

pub posted_verified : PostedIsVerified
posted_verified =
    verified_as trees.posted cores.posted witnesses_become.2 (never_fails cores.posted (unit 0 (part.Member 1)) post_safe, tt)

pub posted_passes : PostedPasses
posted_passes = passed safe trees.posted posted_formed posted_verified

pub list_verified : ListIsVerified
list_verified =
    verified_as trees.list cores.list witnesses_become.3 (
      never_fails cores.list (unit 0 (part.Member 2)) list_safe,
      (never_fails cores.list (unit 0 (part.Member 3)) up_safe, (never_fails cores.list (unit 1 (part.Member 0)) two_safe, tt)),
    )

pub list_passes : ListPasses
list_passes = passed safe trees.list list_formed list_verified

pub divided_verified : DividedIsVerified
divided_verified =
    verified_as trees.divided cores.divided witnesses_become.6
    (never_fails cores.divided (unit 0 (part.Member 1)) share_safe, tt)

pub divided_passes : DividedPasses
divided_passes = passed safe trees.divided divided_formed divided_verified
