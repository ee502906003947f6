-- What steps do to a world, by a few forms: so a property of worlds is kept by all steps that is kept by these.
use Rattle.std.proofs.Common.{◌≡◌, refl, subst, ap, ◌∙◌, ℕ, suc, ℤ, pos, negsuc, ◌≤◌, Bool, true, false, Option, Some, None, List, [], ◌∷◌, ◌++◌, arith}
use Rattle.std.specs.Prelude.{not, is_none, drop, ◌-ℤ◌, if◌then◌else◌}
use Rattle.pv_base.specs.declared.Name.{Name}
use Rattle.pv_base.specs.declared.Span.{Span}
use Rattle.pv_ast.specs.declared.PvType.{PvType}
use Rattle.pv_values.specs.declared.value.Value.{Value}
use Rattle.pv_values.specs.declared.value.Value.TheVariants as value
use Rattle.pv_values.specs.declared.value.Location.{Location}
use Rattle.pv_values.specs.Changes.{owner_of}
use Rattle.pv_picks.specs.declared.check.Check.{Check}
use Rattle.pv_picks.specs.declared.check.Check.TheVariants as check
use Rattle.pv_picks.specs.Plain.Core.{Formula, Action, Fork, Join', Lock, Unlock, Commit, Message, Team, Block, Predicate, Method, Program}
use Rattle.pv_picks.specs.Plain.Members.{predicate_named, method_named, run_of, invariant_of}
use Rattle.pv_picks.specs.Formulas.Values.{number_in, reference_in, default_of}
use Rattle.pv_picks.specs.Formulas.Heaps.{Heap, written, with_object, with_array}
use Rattle.pv_picks.specs.Formulas.Meeting.{Finding, unmet, unmet_shared}
use Rattle.pv_picks.specs.Machine.Tasks.{Spot, Step, AtRead, AtWrite, AtLength, AtNewObject, AtNewArray, AtAssert, AtFold, AtHead, AtCall, AtAction, AtOpen, AtClose, AtArrive, AtLeave, AtSend, AtReceive, Task, Evaluate, EvaluateAll, Combine, Choose, Branch, Turn, Put, Drop, Give, Unfolded, Run, Stand, Resume}
use Rattle.pv_picks.specs.Machine.Frames.{Frame, top, second, topmost, location_on, object_under, breadth, goes_on, pops, pushes, settled, entered, sight_of, body_scene, contract_scene}
use Rattle.pv_picks.specs.Machine.Worlds.{Role, Entry, RunOf, MemberOf, with_thread, Mode, Free, OpenBlock, ThreadState, World, members_ended, with_frames, with_heap, with_state, with_holder, with_committed_object, with_message, with_members, is_held_back}
use Rattle.pv_picks.specs.Machine.Steps.{Result, first_fields, not_null, is_met_on, called, forked, keeps_invariant, is_own, act_new_object, act_arrive, act_leave, all_leave, all_behind, ended, needs, needs_met, waits_unless, goes, read, write, act_length, act_new_array, act_fold, act_call, act_fork, act_join, act_lock, act_unlock, act_commit, act_on, Partner, Somebody, Nobody, receiver_of, sender_of, is_declared, act_send, act_receive, as_member, act_step, act_end, returned, act_tasks, act_frames, act}
use Rattle.pv_picks.specs.Machine.Starts.{Start, IsStart, first_world}
use Rattle.pv_picks.specs.Machine.Safety.{Event, IsReached, world_after, happens, run_events}
use Rattle.machine_laws.specs.HeapSteps.{WhereItGoes}
use Rattle.machine_laws.proofs.HeapSteps.{needs_goes, met_goes, waits_goes}

-- A thread acts on the object on top, which isn't null.
pub record ActsOn (f : Frame) (object : ℕ) : Type 0 where
  pub action : Action
  pub class : Name
  pub span : Span
  pub rest : List Task
  pub stands : f.tasks ≡ Stand (AtAction action class span) ∷ rest
  pub there : not_null object ≡ true
  pub is : reference_in (top f.values) ≡ object

-- A property of the worlds to which the steps of a thread lead, by its innermost frame.
pub record IsKeptBy (p : Program) (w : World) (i : ℕ) (f : Frame) (P : World → Type 0) : Type 0 where
  -- the thread has other frames
  pub moves : (frames : List Frame) → P (with_frames w i frames)
  -- and the heap is another one, with no fewer things
  pub makes : (heap : Heap) (frames : List Frame) → w.heap.count ≤ heap.count → P (with_heap (with_frames w i frames) heap)
  -- an object is acted on
  pub forks : (object : ℕ) → ActsOn f object → (frames begun : List Frame)
      → P (with_state (with_thread (with_frames w i frames) (record { role = RunOf object; frames = begun }))
      object (ThreadState.Running w.count))
  pub joins : (object : ℕ) → ActsOn f object → (frames : List Frame)
      → P (with_state (with_frames w i frames) object ThreadState.Idle)
  pub locks : (object : ℕ) → ActsOn f object → (holder : Option ℕ) (frames : List Frame)
      → P (with_holder (with_frames w i frames) object holder)
  pub commits : (object : ℕ) → ActsOn f object → (frames : List Frame)
      → P (with_committed_object (with_frames w i frames) object)
  -- a block is opened
  pub opens : (team : Team) (body : Block) (rest : List Task) → f.tasks ≡ Stand (AtOpen team body) ∷ rest
      → (frames : List Frame) (mode : Mode) (low high : ℤ) → P (with_members (with_frames w i frames) i f team body mode low high)
  -- a message is sent
  pub sends : (frames : List Frame) (block : ℕ) (label : Name) (sender : ℤ)
      → P (with_message (with_frames w i frames) block label sender)
  -- the members of a block leave a barrier
  pub leaves : (block : OpenBlock) (place : List ℕ) → all_leave w block place ≡ true → P (all_behind w block)
  -- the `run` of an object ends
  pub ends : (object : ℕ) → (w.threads i).role ≡ RunOf object
      → P (with_state (with_frames w i []) object ThreadState.Ended)

need_if : (P : World → Type 0) (b : Bool) (named : Check) (span : Span) (r : Result) → (b ≡ true → WhereItGoes P r)
    → WhereItGoes P (needs b named span r)
need_if P true named span r h = h refl
need_if P false named span r h = tt

wait_if : (P : World → Type 0) (b : Bool) (r : Result) → (b ≡ true → WhereItGoes P r) → WhereItGoes P (waits_unless b r)
wait_if P true r h = h refl
wait_if P false r h = tt

module _ (p : Program) (w : World) (i : ℕ) (f : Frame) (below : List Frame) (P : World → Type 0) (kept : IsKeptBy p w i f P) where
  abbrev On : Result → Type 0
  On r = WhereItGoes P r

  need : (b : Bool) (named : Check) (span : Span) (r : Result) → On r → On (needs b named span r)
  need b named span r h = needs_goes P b named span r h

  met : (u : Finding) (named : Check) (r : Result) → On r → On (needs_met u named r)
  met u named r h = met_goes P u named r h

  wait : (b : Bool) (r : Result) → On r → On (waits_unless b r)
  wait b r h = waits_goes P b r h

  gone : (g : Frame) → P (goes p w i f below g)
  gone g = kept.moves (settled g ∷ below)

  read_kept : (v : Option Value) (spot : Spot) (span : Span) (rest : List Task) → On (read p w i f below v spot span rest)
  read_kept None spot span rest = tt
  read_kept (Some v) spot span rest = gone (record f { values = v ∷ drop (breadth spot) f.values; tasks = rest })

  write_kept : (v : Option Value) (location : Location) (count : ℕ) (span : Span) (rest : List Task)
      → On (write p w i f below v location count span rest)
  write_kept None location count span rest = tt
  write_kept (Some v) location count span rest =
      kept.makes (written w.heap location (top f.values)) (settled (pops count f rest) ∷ below) (omega arith)

  length_kept : (n : Option ℤ) (span : Span) (rest : List Task) → On (act_length p w i f below n span rest)
  length_kept None span rest = tt
  length_kept (Some n) span rest = gone (record f { values = value.Number n ∷ drop 1 f.values; tasks = rest })

  object_kept : (class : Name) (rest : List Task) → On (act_new_object p w i f below class rest)
  object_kept class rest =
      kept.makes (with_object w.heap class (first_fields p class))
      (settled (pushes (value.Reference (suc w.heap.count)) f rest) ∷ below) (omega arith)

  array_kept : (n : ℤ) (type : PvType) (span : Span) (rest : List Task) → On (act_new_array p w i f below n type span rest)
  array_kept (negsuc n) type span rest = tt
  array_kept (pos n) type span rest =
      kept.makes (with_array w.heap (default_of type) n)
      (settled (pushes (value.Reference (suc w.heap.count)) (pops 1 f rest) rest) ∷ below) (omega arith)

  fold_kept : (d : Option Predicate) (object count : ℕ) (span : Span) (rest : List Task)
      → On (act_fold p w i f below d object count span rest)
  fold_kept None object count span rest = tt
  fold_kept (Some d) object count span rest =
      need (is_met_on w.heap object d.parameters (topmost count f.values) d.body) check.Fold span
      (Result.Went (goes p w i f below (pops (suc count) f rest))) (gone (pops (suc count) f rest))

  call_kept : (m : Option Method) (class : Name) (object count : ℕ) (span : Span) (rest : List Task)
      → On (act_call p w i f below m class object count span rest)
  call_kept None class object count span rest = tt
  call_kept (Some m) class object count span rest =
      let r : Result = Result.Went (called p w i f below m class object count rest) in
      let is_met : Bool = is_met_on w.heap object m.parameters (topmost count f.values) m.contract.before in
      need (not_null object) check.Null span (needs is_met check.Requires span r) (need is_met check.Requires span r
      (kept.moves (entered w.heap class m object (topmost count f.values)
      ∷ pops (suc count) f (Resume class m object (topmost count f.values) ∷ rest) ∷ below)))

  fork_kept : (s : ThreadState) (m : Option Method) (class : Name) (object : ℕ) (span : Span) (rest : List Task)
      → ActsOn f object → On (act_fork p w i f below s m class object span rest)
  fork_kept ThreadState.Idle None class object span rest acts = tt
  fork_kept (ThreadState.Running j) None class object span rest acts = tt
  fork_kept ThreadState.Ended None class object span rest acts = tt
  fork_kept ThreadState.Idle (Some m) class object span rest acts =
      need (is_met_on w.heap object m.parameters [] m.contract.before) check.ForkRequires span
      (Result.Went (forked p w i f below m class object rest))
      (kept.forks object acts (settled (pops 1 f rest) ∷ below) (entered w.heap class m object [] ∷ []))
  fork_kept (ThreadState.Running j) (Some m) class object span rest acts = tt
  fork_kept ThreadState.Ended (Some m) class object span rest acts = tt

  join_kept : (s : ThreadState) (object : ℕ) (span : Span) (rest : List Task) → ActsOn f object
      → On (act_join p w i f below s object span rest)
  join_kept ThreadState.Idle object span rest acts = tt
  join_kept (ThreadState.Running j) object span rest acts = tt
  join_kept ThreadState.Ended object span rest acts =
      kept.joins object acts (settled (pops 1 f rest) ∷ below)

  keeps_kept : (invariant : Formula) (object : ℕ) (span : Span) (v : World) → P v
      → On (keeps_invariant p w i f below invariant object span v)
  keeps_kept invariant object span v h =
      need (is_met_on w.heap object [] [] invariant) check.LockInvariant span (Result.Went v) h

  lock_kept : (invariant : Option Formula) (object : ℕ) (span : Span) (rest : List Task) → ActsOn f object
      → On (act_lock p w i f below invariant object span rest)
  lock_kept None object span rest acts = tt
  lock_kept (Some invariant) object span rest acts =
      let v : World = with_holder (goes p w i f below (pops 1 f rest)) object (Some i) in
      let r : Result = keeps_invariant p w i f below invariant object span v in
      wait (is_none (w.holder object)) (needs (w.committed object) check.NotCommitted span r)
      (need (w.committed object) check.NotCommitted span r
      (keeps_kept invariant object span v (kept.locks object acts (Some i) (settled (pops 1 f rest) ∷ below))))

  unlock_kept : (invariant : Option Formula) (object : ℕ) (span : Span) (rest : List Task) → ActsOn f object
      → On (act_unlock p w i f below invariant object span rest)
  unlock_kept None object span rest acts = tt
  unlock_kept (Some invariant) object span rest acts =
      let v : World = with_holder (goes p w i f below (pops 1 f rest)) object None in
      need (is_own p w i f below (w.holder object)) check.NotHeld span
      (keeps_invariant p w i f below invariant object span v)
      (keeps_kept invariant object span v (kept.locks object acts None (settled (pops 1 f rest) ∷ below)))

  commit_kept : (invariant : Option Formula) (object : ℕ) (span : Span) (rest : List Task) → ActsOn f object
      → On (act_commit p w i f below invariant object span rest)
  commit_kept None object span rest acts = tt
  commit_kept (Some invariant) object span rest acts =
      let v : World = with_committed_object (goes p w i f below (pops 1 f rest)) object in
      need (not (w.committed object)) check.NotUncommitted span (keeps_invariant p w i f below invariant object span v)
      (keeps_kept invariant object span v (kept.commits object acts (settled (pops 1 f rest) ∷ below)))

  on_kept : (action : Action) (class : Name) (object : ℕ) (span : Span) (rest : List Task) → ActsOn f object
      → On (act_on p w i f below action class object span rest)
  on_kept Fork class object span rest acts = fork_kept (w.state object) (run_of p class) class object span rest acts
  on_kept Join' class object span rest acts = join_kept (w.state object) object span rest acts
  on_kept Lock class object span rest acts = lock_kept (invariant_of p class) object span rest acts
  on_kept Unlock class object span rest acts = unlock_kept (invariant_of p class) object span rest acts
  on_kept Commit class object span rest acts = commit_kept (invariant_of p class) object span rest acts

  send_kept : (b : Partner) (block : ℕ) (position : ℤ) (message : Message) (rest : List Task)
      → On (act_send p w i f below b block position message rest)
  send_kept Nobody block position message rest = gone (goes_on f rest)
  send_kept Somebody block position message rest =
      met (unmet (sight_of w.heap f) (contract_scene f) message.formula) check.Send
      (Result.Went (with_message (goes p w i f below (goes_on f rest)) block message.label position))
      (kept.sends (settled (goes_on f rest) ∷ below) block message.label position)

  receive_kept : (b : Partner) (block : ℕ) (sender : ℤ) (message : Message) (rest : List Task)
      → On (act_receive p w i f below b block sender message rest)
  receive_kept Nobody block sender message rest = gone (goes_on f rest)
  receive_kept Somebody block sender message rest =
      wait ((w.blocks block).sent message.label sender) (Result.Went (goes p w i f below (goes_on f rest)))
      (gone (goes_on f rest))

  member_kept : (role : Role) (frames : List Frame) (named : Check) (span : Span) (act : ℕ → ℤ → Result)
      → ((block : ℕ) (position : ℤ) → On (act block position))
      → On (as_member p w i f below role frames named span act)
  member_kept Entry frames named span act h = tt
  member_kept (RunOf object) frames named span act h = tt
  member_kept (MemberOf block position) [] named span act h = h block position
  member_kept (MemberOf block position) (g ∷ gs) named span act h = tt

  declared_kept : (message : Message) (span : Span) (act : ℕ → ℤ → Result)
      → ((block : ℕ) (position : ℤ) → On (act block position))
      → On (needs (is_declared message) check.Send span (as_member p w i f below (w.threads i).role below check.Send span act))
  declared_kept message span act h =
      need (is_declared message) check.Send span (as_member p w i f below (w.threads i).role below check.Send span act)
      (member_kept (w.threads i).role below check.Send span act h)

  step_kept : (mode : Mode) (step : Step) (rest : List Task) → f.tasks ≡ Stand step ∷ rest
      → On (act_step p w i f below mode step rest)
  step_kept mode (AtRead spot span) rest is =
      need (not_null (owner_of (location_on spot f.values))) check.Null span
      (read p w i f below (w.heap.value (location_on spot f.values)) spot span rest)
      (read_kept (w.heap.value (location_on spot f.values)) spot span rest)
  step_kept mode (AtWrite spot span) rest is =
      let location : Location = location_on spot (drop 1 f.values) in
      need (not_null (owner_of location)) check.Null span
      (write p w i f below (w.heap.value location) location (suc (breadth spot)) span rest)
      (write_kept (w.heap.value location) location (suc (breadth spot)) span rest)
  step_kept mode (AtLength type span) rest is = length_kept (w.heap.length (reference_in (top f.values))) span rest
  step_kept mode (AtNewObject class) rest is = object_kept class rest
  step_kept mode (AtNewArray type span) rest is = array_kept (number_in (top f.values)) type span rest
  step_kept mode (AtAssert formula) rest is =
      met (unmet (sight_of w.heap f) (body_scene f) formula) check.Assert
      (Result.Went (goes p w i f below (goes_on f rest))) (gone (goes_on f rest))
  step_kept mode (AtFold class predicate count span) rest is =
      let d : Option Predicate = predicate_named p class predicate in
      need (not_null (object_under count f.values)) check.Null span
      (act_fold p w i f below d (object_under count f.values) count span rest)
      (fold_kept d (object_under count f.values) count span rest)
  step_kept mode (AtHead named loop) rest is =
      let g : Frame = goes_on f (Evaluate loop.condition ∷ Turn loop ∷ rest) in
      met (unmet (sight_of w.heap f) (body_scene f) loop.invariant) named (Result.Went (goes p w i f below g)) (gone g)
  step_kept mode (AtCall class method count span) rest is =
      call_kept (method_named p class method) class (object_under count f.values) count span rest
  step_kept mode (AtAction action class span) rest is =
      let object : ℕ = reference_in (top f.values) in
      need_if P (not_null object) check.Null span (act_on p w i f below action class object span rest)
      (λ here. on_kept action class object span rest
      (record { action = action; class = class; span = span; rest = rest; stands = is; there = here; is = refl }))
  step_kept mode (AtOpen team body) rest is =
      let low : ℤ = number_in (second f.values) in
      let high : ℤ = number_in (top f.values) in
      let g : Frame = pops 2 f (Stand (AtClose w.block_count) ∷ rest) in
      let m : Mode = if team.counted then mode else Free in
      met (unmet_shared (sight_of w.heap f) (body_scene f) team.variable low high team.shared.each_before) check.BlockRequires
      (Result.Went (with_members (goes p w i f below g) i f team body m low high))
      (kept.opens team body rest is (settled g ∷ below) m low high)
  step_kept mode (AtClose block) rest is =
      wait (members_ended w (w.blocks block)) (Result.Went (goes p w i f below (goes_on f rest))) (gone (goes_on f rest))
  step_kept mode (AtArrive barrier span) rest is =
      member_kept (w.threads i).role below check.BarrierRequires span
      (λ block position. act_arrive p w i f below barrier span rest) (λ block position.
      let g : Frame = goes_on f (Stand (AtLeave barrier span) ∷ rest) in
      met (unmet (sight_of w.heap f) (contract_scene f) barrier.shared.one.before) check.BarrierRequires
      (Result.Went (goes p w i f below g)) (gone g))
  step_kept mode (AtLeave barrier span) rest is =
      member_kept (w.threads i).role below check.BarrierEnsures span
      (λ block position. act_leave p w i f below (w.blocks block) barrier)
      (λ block position. leave (w.blocks block))
    where
      leave : (block : OpenBlock) → On (act_leave p w i f below block barrier)
      leave block =
          let broken = unmet_shared (sight_of w.heap f) (contract_scene f) block.team.variable block.low block.high
          barrier.shared.each_after in
          wait_if P (all_leave w block barrier.place)
          (needs_met broken check.BarrierEnsures (Result.Went (all_behind w block)))
          (λ leave. met broken check.BarrierEnsures (Result.Went (all_behind w block)) (kept.leaves block barrier.place leave))
  step_kept mode (AtSend message span) rest is = declared_kept message span
      (λ block position. act_send p w i f below (receiver_of (w.blocks block) position message) block position message rest)
      (λ block position. send_kept (receiver_of (w.blocks block) position message) block position message rest)
  step_kept mode (AtReceive message span) rest is = declared_kept message span
      (λ block position. act_receive p w i f below (sender_of (w.blocks block) position message) block
      (position -ℤ pos message.distance) message rest)
      (λ block position. receive_kept (sender_of (w.blocks block) position message) block
      (position -ℤ pos message.distance) message rest)

  ended_kept : (role : Role) → (w.threads i).role ≡ role → P (ended p w i f below role)
  ended_kept Entry same = kept.moves []
  ended_kept (MemberOf block position) same = kept.moves []
  ended_kept (RunOf object) same = kept.ends object same

  returned_kept : (others : List Frame) → P (returned p w i f below others)
  returned_kept [] = ended_kept (w.threads i).role refl
  returned_kept (g ∷ others) = kept.moves (settled (pushes f.result g (drop 1 g.tasks)) ∷ others)

  return_kept : (others : List Frame)
      → On (needs_met (unmet (sight_of w.heap f) (contract_scene f) f.method.contract.after) check.Ensures
      (Result.Went (returned p w i f below others)))
  return_kept others =
      met (unmet (sight_of w.heap f) (contract_scene f) f.method.contract.after) check.Ensures
      (Result.Went (returned p w i f below others)) (returned_kept others)

  end_kept : (role : Role) (others : List Frame) → On (act_end p w i f below role others)
  end_kept Entry others = return_kept others
  end_kept (RunOf object) others = return_kept others
  end_kept (MemberOf block position) [] =
      met (unmet (sight_of w.heap f) (contract_scene f) (w.blocks block).team.shared.one.after) check.BlockEnsures
      (Result.Went (with_frames w i [])) (kept.moves [])
  end_kept (MemberOf block position) (g ∷ others) = return_kept (g ∷ others)

  tasks_kept : (mode : Mode) (ts : List Task) → f.tasks ≡ ts → On (act_tasks p w i f below mode ts)
  tasks_kept mode [] is = end_kept (w.threads i).role below
  tasks_kept mode (Stand step ∷ ts) is = step_kept mode step ts is
  tasks_kept mode (Evaluate e ∷ ts) is = tt
  tasks_kept mode (EvaluateAll es ∷ ts) is = tt
  tasks_kept mode (Combine combination ∷ ts) is = tt
  tasks_kept mode (Choose a b ∷ ts) is = tt
  tasks_kept mode (Branch a b ∷ ts) is = tt
  tasks_kept mode (Turn loop ∷ ts) is = tt
  tasks_kept mode (Put name ∷ ts) is = tt
  tasks_kept mode (Drop ∷ ts) is = tt
  tasks_kept mode (Give ∷ ts) is = tt
  tasks_kept mode (Unfolded class predicate count span ∷ ts) is = tt
  tasks_kept mode (Run b ∷ ts) is = tt
  tasks_kept mode (Resume class m object arguments ∷ ts) is = tt

-- what is kept by these forms is so of the world to which a step leads
pub act_keeps : (p : Program) (w : World) (mode : Mode) (i : ℕ) (P : World → Type 0)
    → ((f : Frame) (below : List Frame) → (w.threads i).frames ≡ f ∷ below → IsKeptBy p w i f P) → WhereItGoes P (act p w mode i)
act_keeps p w mode i P keeps = at (w.threads i).frames keeps
  where
    at : (fs : List Frame) → ((f : Frame) (below : List Frame) → fs ≡ f ∷ below → IsKeptBy p w i f P)
        → WhereItGoes P (act_frames p w mode i fs)
    at [] keeps = tt
    at (f ∷ below) keeps =
        waits_goes P (not (is_held_back w i)) (act_tasks p w i f below mode f.tasks)
        (tasks_kept p w i f below P (keeps f below refl) mode f.tasks refl)

-- Reached worlds

run_events-append : (p : Program) (es fs : List Event) (w : World)
    → run_events p (es ++ fs) w ≡ run_events p fs (run_events p es w)
run_events-append p [] fs w = refl
run_events-append p (e ∷ es) fs w = run_events-append p es fs (happens p e w)

pub reached_first : (p : Program) (s : Start) → IsStart p s → IsReached p (first_world s)
reached_first p s starts = record { start = s; starts = starts; events = []; leads = refl }

reached_happens : (p : Program) (w : World) (event : Event) → IsReached p w → IsReached p (happens p event w)
reached_happens p w event r = record {
  start = r.start;
  starts = r.starts;
  events = r.events ++ event ∷ [];
  leads = run_events-append p r.events (event ∷ []) (first_world r.start) ∙ ap (happens p event) r.leads;
}

-- what a step leads to from a reached world is reached
pub reached_next : (p : Program) (w v : World) (mode : Mode) (i : ℕ) → IsReached p w → act p w mode i ≡ Result.Went v
    → IsReached p v
reached_next p w v mode i r is =
    subst (IsReached p) (ap (world_after w) is) (reached_happens p w (record { thread = i; mode = mode }) r)

-- what is so of the first world of each start, and is kept by the steps of reached worlds, is so of each reached world
module _ (p : Program) (P : World → Type 0) (first : (s : Start) → IsStart p s → P (first_world s))
    (keeps : (w : World) → IsReached p w → P w → (mode : Mode) (i : ℕ) → WhereItGoes P (act p w mode i)) where
  event_keeps : (w : World) (event : Event) → IsReached p w → P w → P (happens p event w)
  event_keeps w event r h = by (act p w event.mode event.thread) (keeps w r h event.mode event.thread)
    where
      by : (result : Result) → WhereItGoes P result → P (world_after w result)
      by (Result.Went v) k = k
      by Result.Waits k = h
      by Result.Ended k = h
      by (Result.Wrong named span) k = h

  events_keep : (events : List Event) (w : World) → IsReached p w → P w → P (run_events p events w)
  events_keep [] w r h = h
  events_keep (event ∷ events) w r h =
      events_keep events (happens p event w) (reached_happens p w event r) (event_keeps w event r h)

  pub reached_goes : (w : World) → IsReached p w → P w
  reached_goes w r =
      subst P r.leads
      (events_keep r.events (first_world r.start) (reached_first p r.start r.starts) (first r.start r.starts))

-- so where it is kept by the forms above
pub reached_keeps : (p : Program) (P : World → Type 0) → ((s : Start) → IsStart p s → P (first_world s))
    → ((w : World) → IsReached p w → P w → (i : ℕ) (f : Frame) (below : List Frame) → (w.threads i).frames ≡ f ∷ below
    → IsKeptBy p w i f P) → (w : World) → IsReached p w → P w
reached_keeps p P first keeps = reached_goes p P first (λ w r h mode i. act_keeps p w mode i P (keeps w r h i))
