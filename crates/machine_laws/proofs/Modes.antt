-- The mode says into which world a step leads, and nothing of whether it goes.
use Rattle.std.proofs.Common.{◌≡◌, ℕ, Bool, true, false, List, [], ◌∷◌, refl}
use Rattle.std.specs.Prelude.{not}
use Rattle.pv_picks.specs.declared.check.Check.{Check}
use Rattle.pv_picks.specs.Plain.Core.{Program}
use Rattle.pv_picks.specs.Machine.Tasks.{Step, AtRead, AtWrite, AtLength, AtNewObject, AtNewArray, AtAssert, AtFold, AtHead, AtCall, AtAction, AtOpen, AtClose, AtArrive, AtLeave, AtSend, AtReceive, Task, Evaluate, EvaluateAll, Combine, Choose, Branch, Turn, Put, Drop, Give, Unfolded, Run, Stand, Resume}
use Rattle.pv_picks.specs.Machine.Frames.{Frame, sight_of, body_scene, second, top}
use Rattle.pv_picks.specs.Formulas.Values.{number_in}
use Rattle.pv_picks.specs.Formulas.Meeting.{Finding, AllMet, FirstUnmet, unmet_shared}
use Rattle.pv_picks.specs.Machine.Worlds.{Mode, Free, World, is_held_back}
use Rattle.pv_picks.specs.Machine.Steps.{Result, needs_met, waits_unless, act_step, act_tasks, act_frames, act}
use Rattle.pv_picks.specs.Machine.Safety.{Event, is_able, may_step, world_after, happens}
use Rattle.machine_laws.specs.Shapes.{AreAlike}

alike_self : (r : Result) → AreAlike r r
alike_self (Result.Went w) = tt
alike_self Result.Waits = tt
alike_self Result.Ended = tt
alike_self (Result.Wrong named span) = (refl, refl)

alike_met : (u : Finding) (named : Check) (v w : World)
    → AreAlike (needs_met u named (Result.Went v)) (needs_met u named (Result.Went w))
alike_met AllMet named v w = tt
alike_met (FirstUnmet span) named v w = (refl, refl)

alike_waits : (b : Bool) (r s : Result) → AreAlike r s → AreAlike (waits_unless b r) (waits_unless b s)
alike_waits true r s h = h
alike_waits false r s h = tt

module _ (p : Program) (w : World) (i : ℕ) (f : Frame) (below : List Frame) (m n : Mode) where
  alike_step : (step : Step) (rest : List Task)
      → AreAlike (act_step p w i f below m step rest) (act_step p w i f below n step rest)
  alike_step (AtRead spot span) rest = alike_self _
  alike_step (AtWrite spot span) rest = alike_self _
  alike_step (AtLength type span) rest = alike_self _
  alike_step (AtNewObject class) rest = tt
  alike_step (AtNewArray type span) rest = alike_self _
  alike_step (AtAssert formula) rest = alike_self _
  alike_step (AtFold class predicate count span) rest = alike_self _
  alike_step (AtHead named loop) rest = alike_self _
  alike_step (AtCall class method count span) rest = alike_self _
  alike_step (AtAction action class span) rest = alike_self _
  alike_step (AtOpen team body) rest =
      alike_met (unmet_shared (sight_of w.heap f) (body_scene f) team.variable (number_in (second f.values))
      (number_in (top f.values)) team.shared.each_before) _ _ _
  alike_step (AtClose block) rest = alike_self _
  alike_step (AtArrive barrier span) rest = alike_self _
  alike_step (AtLeave barrier span) rest = alike_self _
  alike_step (AtSend message span) rest = alike_self _
  alike_step (AtReceive message span) rest = alike_self _

  alike_tasks : (ts : List Task) → AreAlike (act_tasks p w i f below m ts) (act_tasks p w i f below n ts)
  alike_tasks [] = alike_self _
  alike_tasks (Stand step ∷ ts) = alike_step step ts
  alike_tasks (Evaluate e ∷ ts) = tt
  alike_tasks (EvaluateAll es ∷ ts) = tt
  alike_tasks (Combine combination ∷ ts) = tt
  alike_tasks (Choose a b ∷ ts) = tt
  alike_tasks (Branch a b ∷ ts) = tt
  alike_tasks (Turn loop ∷ ts) = tt
  alike_tasks (Put name ∷ ts) = tt
  alike_tasks (Drop ∷ ts) = tt
  alike_tasks (Give ∷ ts) = tt
  alike_tasks (Unfolded class predicate count span ∷ ts) = tt
  alike_tasks (Run b ∷ ts) = tt
  alike_tasks (Resume class method object arguments ∷ ts) = tt

alike_frames : (p : Program) (w : World) (i : ℕ) (m n : Mode) (fs : List Frame)
    → AreAlike (act_frames p w m i fs) (act_frames p w n i fs)
alike_frames p w i m n [] = tt
alike_frames p w i m n (f ∷ below) = alike_waits (not (is_held_back w i)) _ _ (alike_tasks p w i f below m n f.tasks)

pub act-alike : (p : Program) (w : World) (m n : Mode) (i : ℕ) → AreAlike (act p w m i) (act p w n i)
act-alike p w m n i = alike_frames p w i m n (w.threads i).frames

-- a result like one that isn't able changes nothing
unable : (w : World) (r s : Result) → AreAlike r s → is_able s ≡ false → world_after w r ≡ w
unable w (Result.Went v) (Result.Went u) a h = absurd (cc)
unable w Result.Waits s a h = refl
unable w Result.Ended s a h = refl
unable w (Result.Wrong named span) s a h = refl
unable w (Result.Went v) Result.Waits a h = absurd a
unable w (Result.Went v) Result.Ended a h = absurd a
unable w (Result.Went v) (Result.Wrong named span) a h = absurd a

pub waiting-same : (p : Program) (w : World) (event : Event) → may_step p w event.thread ≡ false → happens p event w ≡ w
waiting-same p w event h =
    unable w (act p w event.mode event.thread) (act p w Free event.thread) (act-alike p w event.mode Free event.thread) h
