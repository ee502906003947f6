-- A safe program whose counted loops have quiet bodies agrees on its loops.
use Rattle.std.proofs.Common.{◌≡◌, Bool, true, ◌&&◌, Option, List, [], ◌∷◌, subst}
use Rattle.std.proofs.lemmas.Bool.{and_parts}
use Rattle.pv_picks.specs.Plain.Core.{Program}
use Rattle.pv_picks.specs.Machine.Tasks.{AtOpen, Task, Stand}
use Rattle.pv_picks.specs.Machine.Frames.{Frame}
use Rattle.pv_picks.specs.Machine.Safety.{IsSafe}
use Rattle.pv_picks.specs.Machine.LoopRuns.{opens_loop, frames_at_loop, AgreesOnLoops}
use Rattle.machine_loops.proofs.Opening.{opens_quiet, frames_open_quiet}
use Rattle.core_names.specs.Carrying.{Membership, membership_of, AllFrames, InWorld}
use Rattle.machine_loops.specs.Calm.{quiet_if, is_calm_block, are_calm, IsCalmFrame, HasQuietLoops}
use Rattle.machine_loops.proofs.Calm.{reached-calm}
use Rattle.machine_loops.proofs.Agreeing.{loop-agrees}

tasks-open-quiet : (ts : List Task) → opens_loop ts ≡ true → are_calm ts ≡ true → opens_quiet ts ≡ true
tasks-open-quiet (Stand (AtOpen team body) ∷ rest) at calm =
    let a = and_parts (quiet_if team.counted body && is_calm_block body) (are_calm rest) calm in
    let b = and_parts (quiet_if team.counted body) (is_calm_block body) a.0 in
    subst (λ (t : Bool). quiet_if t body ≡ true) at b.0
tasks-open-quiet _ at calm = absurd (cc)

frames-open-quiet : (member : Option Membership) (fs : List Frame) → frames_at_loop fs ≡ true → AllFrames IsCalmFrame member fs
    → frames_open_quiet fs ≡ true
frames-open-quiet member [] at calm = absurd (cc)
frames-open-quiet member (f ∷ below) at calm = tasks-open-quiet f.tasks at calm.0

pub safe-agrees : (p : Program) → HasQuietLoops p → IsSafe p → AgreesOnLoops p
safe-agrees p loops safe = λ w reached i at last run.
    let calm : InWorld IsCalmFrame w = reached-calm p loops w reached in
    let member : Option Membership = membership_of (λ number. (w.blocks number).team) calm.0 (w.threads i).role in
    loop-agrees p safe w reached i at (frames-open-quiet member (w.threads i).frames at (calm.1 i)) last run
