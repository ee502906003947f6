-- Each step that goes leads to a world with all that was there.
use Rattle.std.proofs.Common.{ℕ, suc, ℤ, pos, negsuc, Bool, true, false, Option, Some, None, List, [], ◌∷◌}
use Rattle.std.specs.Prelude.{not, is_none, drop, ◌-ℤ◌, if◌then◌else◌}
use Rattle.pv_base.specs.declared.Name.{Name}
use Rattle.pv_base.specs.declared.Span.{Span}
use Rattle.pv_ast.specs.declared.PvType.{PvType}
use Rattle.pv_values.specs.declared.value.Value.{Value}
use Rattle.pv_values.specs.declared.value.Location.{Location}
use Rattle.pv_picks.specs.declared.check.Check.{Check}
use Rattle.pv_picks.specs.Plain.Core.{Formula, Action, Fork, Join', Lock, Unlock, Commit, Message, Barrier, Team, Block, Predicate, Method, Program}
use Rattle.pv_picks.specs.Plain.Members.{predicate_named, method_named, run_of, invariant_of}
use Rattle.pv_picks.specs.Formulas.Values.{number_in, reference_in, default_of}
use Rattle.pv_picks.specs.Machine.Tasks.{Spot, Step, AtRead, AtWrite, AtLength, AtNewObject, AtNewArray, AtAssert, AtFold, AtHead, AtCall, AtAction, AtOpen, AtClose, AtArrive, AtLeave, AtSend, AtReceive, Task, Evaluate, EvaluateAll, Combine, Choose, Branch, Turn, Put, Drop, Give, Unfolded, Run, Stand, Resume}
use Rattle.pv_picks.specs.Machine.Frames.{Frame, top, second, topmost, location_on, object_under, breadth, goes_on, pops, pushes, settled, entered, sight_of, body_scene, contract_scene}
use Rattle.pv_picks.specs.Formulas.Heaps.{at_number, written, with_object, with_array}
use Rattle.pv_picks.specs.Formulas.Meeting.{Finding, AllMet, FirstUnmet, unmet, unmet_shared}
use Rattle.pv_picks.specs.declared.check.Check.TheVariants as check
use Rattle.pv_values.specs.declared.value.Value.TheVariants as value
use Rattle.pv_values.specs.Changes.{owner_of}
use Rattle.pv_picks.specs.Machine.Worlds.{Role, Entry, RunOf, MemberOf, Thread, Mode, Free, OpenBlock, ThreadState, World, members_ended, with_frames, with_holder, with_committed_object, with_message, with_members, is_held_back}
use Rattle.pv_picks.specs.Machine.Steps.{Result, first_fields, not_null, is_met_on, called, forked, keeps_invariant, is_own, act_new_object, act_open, act_arrive, act_leave, all_leave, all_behind, ended, needs, needs_met, waits_unless, goes, read, write, act_length, act_new_array, act_fold, act_call, act_fork, act_join, act_lock, act_unlock, act_commit, act_on, Partner, Somebody, Nobody, receiver_of, sender_of, is_declared, act_send, act_receive, as_member, act_step, act_end, returned, act_tasks, act_frames, act}
use Rattle.pv_picks.specs.Machine.Safety.{Event, world_after, happens, run_events}
use Rattle.machine_laws.specs.Growth.{Grows, LeadsOn}
use Rattle.machine_laws.proofs.Growth.{grows_self, grows_trans, frames_lead, heap_leads, thread_leads, message_leads, members_lead, behind_leads, written_grows, object_grows, array_grows}

needs_leads : (w : World) (b : Bool) (named : Check) (span : Span) (r : Result) → LeadsOn w r → LeadsOn w (needs b named span r)
needs_leads w true named span r h = h
needs_leads w false named span r h = tt

met_leads : (w : World) (u : Finding) (named : Check) (r : Result) → LeadsOn w r → LeadsOn w (needs_met u named r)
met_leads w AllMet named r h = h
met_leads w (FirstUnmet span) named r h = tt

waits_lead : (w : World) (b : Bool) (r : Result) → LeadsOn w r → LeadsOn w (waits_unless b r)
waits_lead w true r h = h
waits_lead w false r h = tt

-- where a step changes what is known of an object, threads and heap are those of the world before the change
known_leads : {w v : World} → Grows w v → (holder : ℕ → Option ℕ) (committed : ℕ → Bool) (state : ℕ → ThreadState)
    → Grows w (record v { holder = holder; committed = committed; state = state })
known_leads g holder committed state =
    record { threads = g.threads; roles = g.roles; blocks = g.blocks; same = g.same; heap = g.heap }

module _ (p : Program) (w : World) (i : ℕ) (f : Frame) (below : List Frame) where
  goes_leads : (g : Frame) → Grows w (goes p w i f below g)
  goes_leads g = frames_lead w i (settled g ∷ below)

  read_leads : (v : Option Value) (spot : Spot) (span : Span) (rest : List Task) → LeadsOn w (read p w i f below v spot span rest)
  read_leads None spot span rest = tt
  read_leads (Some v) spot span rest = goes_leads (record f { values = v ∷ drop (breadth spot) f.values; tasks = rest })

  write_leads : (v : Option Value) (location : Location) (count : ℕ) (span : Span) (rest : List Task)
      → LeadsOn w (write p w i f below v location count span rest)
  write_leads None location count span rest = tt
  write_leads (Some v) location count span rest =
      grows_trans (goes_leads (pops count f rest))
      (heap_leads (goes p w i f below (pops count f rest)) (written w.heap location (top f.values))
      (written_grows w.heap location (top f.values)))

  length_leads : (n : Option ℤ) (span : Span) (rest : List Task) → LeadsOn w (act_length p w i f below n span rest)
  length_leads None span rest = tt
  length_leads (Some n) span rest = goes_leads (record f { values = value.Number n ∷ drop 1 f.values; tasks = rest })

  object_leads : (class : Name) (rest : List Task) → LeadsOn w (act_new_object p w i f below class rest)
  object_leads class rest = let g : Frame = pushes (value.Reference (suc w.heap.count)) f rest in
      grows_trans (goes_leads g)
      (heap_leads (goes p w i f below g) (with_object w.heap class (first_fields p class))
      (object_grows w.heap class (first_fields p class)))

  array_leads : (n : ℤ) (type : PvType) (span : Span) (rest : List Task)
      → LeadsOn w (act_new_array p w i f below n type span rest)
  array_leads (negsuc n) type span rest = tt
  array_leads (pos n) type span rest = let g : Frame = pushes (value.Reference (suc w.heap.count)) (pops 1 f rest) rest in
      grows_trans (goes_leads g)
      (heap_leads (goes p w i f below g) (with_array w.heap (default_of type) n) (array_grows w.heap (default_of type) n))

  fold_leads : (d : Option Predicate) (object count : ℕ) (span : Span) (rest : List Task)
      → LeadsOn w (act_fold p w i f below d object count span rest)
  fold_leads None object count span rest = tt
  fold_leads (Some d) object count span rest =
      needs_leads w (is_met_on w.heap object d.parameters (topmost count f.values) d.body) check.Fold span
      (Result.Went (goes p w i f below (pops (suc count) f rest)))
      (goes_leads (pops (suc count) f rest))

  call_leads : (m : Option Method) (class : Name) (object count : ℕ) (span : Span) (rest : List Task)
      → LeadsOn w (act_call p w i f below m class object count span rest)
  call_leads None class object count span rest = tt
  call_leads (Some m) class object count span rest =
      let r : Result = Result.Went (called p w i f below m class object count rest) in
      let met : Bool = is_met_on w.heap object m.parameters (topmost count f.values) m.contract.before in
      needs_leads w (not_null object) check.Null span (needs met check.Requires span r) (needs_leads w met check.Requires span r
      (frames_lead w i (entered w.heap class m object (topmost count f.values)
      ∷ pops (suc count) f (Resume class m object (topmost count f.values) ∷ rest) ∷ below)))

  forked_leads : (m : Method) (class : Name) (object : ℕ) (rest : List Task) → Grows w (forked p w i f below m class object rest)
  forked_leads m class object rest =
      let v : World = goes p w i f below (pops 1 f rest) in
      let t : Thread = record { role = RunOf object; frames = entered w.heap class m object [] ∷ [] } in
      known_leads (grows_trans (goes_leads (pops 1 f rest)) (thread_leads v t)) w.holder w.committed
      (at_number object (ThreadState.Running w.count) w.state)

  fork_leads : (s : ThreadState) (m : Option Method) (class : Name) (object : ℕ) (span : Span) (rest : List Task)
      → LeadsOn w (act_fork p w i f below s m class object span rest)
  fork_leads ThreadState.Idle None class object span rest = tt
  fork_leads (ThreadState.Running j) None class object span rest = tt
  fork_leads ThreadState.Ended None class object span rest = tt
  fork_leads ThreadState.Idle (Some m) class object span rest =
      needs_leads w (is_met_on w.heap object m.parameters [] m.contract.before) check.ForkRequires span
      (Result.Went (forked p w i f below m class object rest))
      (forked_leads m class object rest)
  fork_leads (ThreadState.Running j) (Some m) class object span rest = tt
  fork_leads ThreadState.Ended (Some m) class object span rest = tt

  join_leads : (s : ThreadState) (object : ℕ) (span : Span) (rest : List Task)
      → LeadsOn w (act_join p w i f below s object span rest)
  join_leads ThreadState.Idle object span rest = tt
  join_leads (ThreadState.Running j) object span rest = tt
  join_leads ThreadState.Ended object span rest =
      known_leads (goes_leads (pops 1 f rest)) w.holder w.committed (at_number object ThreadState.Idle w.state)

  keeps_leads : (invariant : Formula) (object : ℕ) (span : Span) (v : World) → Grows w v
      → LeadsOn w (keeps_invariant p w i f below invariant object span v)
  keeps_leads invariant object span v g =
      needs_leads w (is_met_on w.heap object [] [] invariant) check.LockInvariant span (Result.Went v) g

  lock_leads : (invariant : Option Formula) (object : ℕ) (span : Span) (rest : List Task)
      → LeadsOn w (act_lock p w i f below invariant object span rest)
  lock_leads None object span rest = tt
  lock_leads (Some invariant) object span rest =
      let v : World = with_holder (goes p w i f below (pops 1 f rest)) object (Some i) in
      let r : Result = keeps_invariant p w i f below invariant object span v in
      waits_lead w (is_none (w.holder object)) (needs (w.committed object) check.NotCommitted span r)
      (needs_leads w (w.committed object) check.NotCommitted span r
      (keeps_leads invariant object span v
      (known_leads (goes_leads (pops 1 f rest)) (at_number object (Some i) w.holder) w.committed w.state)))

  unlock_leads : (invariant : Option Formula) (object : ℕ) (span : Span) (rest : List Task)
      → LeadsOn w (act_unlock p w i f below invariant object span rest)
  unlock_leads None object span rest = tt
  unlock_leads (Some invariant) object span rest =
      let v : World = with_holder (goes p w i f below (pops 1 f rest)) object None in
      needs_leads w (is_own p w i f below (w.holder object)) check.NotHeld span
      (keeps_invariant p w i f below invariant object span v)
      (keeps_leads invariant object span v
      (known_leads (goes_leads (pops 1 f rest)) (at_number object None w.holder) w.committed w.state))

  commit_leads : (invariant : Option Formula) (object : ℕ) (span : Span) (rest : List Task)
      → LeadsOn w (act_commit p w i f below invariant object span rest)
  commit_leads None object span rest = tt
  commit_leads (Some invariant) object span rest =
      let v : World = with_committed_object (goes p w i f below (pops 1 f rest)) object in
      needs_leads w (not (w.committed object)) check.NotUncommitted span (keeps_invariant p w i f below invariant object span v)
      (keeps_leads invariant object span v
      (known_leads (goes_leads (pops 1 f rest)) w.holder (at_number object true w.committed) w.state))

  on_leads : (action : Action) (class : Name) (object : ℕ) (span : Span) (rest : List Task)
      → LeadsOn w (act_on p w i f below action class object span rest)
  on_leads Fork class object span rest = fork_leads (w.state object) (run_of p class) class object span rest
  on_leads Join' class object span rest = join_leads (w.state object) object span rest
  on_leads Lock class object span rest = lock_leads (invariant_of p class) object span rest
  on_leads Unlock class object span rest = unlock_leads (invariant_of p class) object span rest
  on_leads Commit class object span rest = commit_leads (invariant_of p class) object span rest

  send_leads : (b : Partner) (block : ℕ) (position : ℤ) (message : Message) (rest : List Task)
      → LeadsOn w (act_send p w i f below b block position message rest)
  send_leads Nobody block position message rest = goes_leads (goes_on f rest)
  send_leads Somebody block position message rest =
      let v : World = goes p w i f below (goes_on f rest) in
      met_leads w (unmet (sight_of w.heap f) (contract_scene f) message.formula) check.Send
      (Result.Went (with_message v block message.label position))
      (grows_trans (goes_leads (goes_on f rest)) (message_leads v block message.label position))

  receive_leads : (b : Partner) (block : ℕ) (sender : ℤ) (message : Message) (rest : List Task)
      → LeadsOn w (act_receive p w i f below b block sender message rest)
  receive_leads Nobody block sender message rest = goes_leads (goes_on f rest)
  receive_leads Somebody block sender message rest =
      waits_lead w ((w.blocks block).sent message.label sender) (Result.Went (goes p w i f below (goes_on f rest)))
      (goes_leads (goes_on f rest))

  member_leads : (role : Role) (frames : List Frame) (named : Check) (span : Span) (act : ℕ → ℤ → Result)
      → ((block : ℕ) (position : ℤ) → LeadsOn w (act block position))
      → LeadsOn w (as_member p w i f below role frames named span act)
  member_leads Entry frames named span act h = tt
  member_leads (RunOf object) frames named span act h = tt
  member_leads (MemberOf block position) [] named span act h = h block position
  member_leads (MemberOf block position) (g ∷ gs) named span act h = tt

  -- a step with a message that is declared
  declared_leads : (message : Message) (span : Span) (act : ℕ → ℤ → Result)
      → ((block : ℕ) (position : ℤ) → LeadsOn w (act block position))
      → LeadsOn w (needs (is_declared message) check.Send span
      (as_member p w i f below (w.threads i).role below check.Send span act))
  declared_leads message span act h =
      needs_leads w (is_declared message) check.Send span (as_member p w i f below (w.threads i).role below check.Send span act)
      (member_leads (w.threads i).role below check.Send span act h)

  step_leads : (mode : Mode) (step : Step) (rest : List Task) → LeadsOn w (act_step p w i f below mode step rest)
  step_leads mode (AtRead spot span) rest =
      needs_leads w (not_null (owner_of (location_on spot f.values))) check.Null span
      (read p w i f below (w.heap.value (location_on spot f.values)) spot span rest)
      (read_leads (w.heap.value (location_on spot f.values)) spot span rest)
  step_leads mode (AtWrite spot span) rest =
      let location : Location = location_on spot (drop 1 f.values) in
      needs_leads w (not_null (owner_of location)) check.Null span
      (write p w i f below (w.heap.value location) location (suc (breadth spot)) span rest)
      (write_leads (w.heap.value location) location (suc (breadth spot)) span rest)
  step_leads mode (AtLength type span) rest = length_leads (w.heap.length (reference_in (top f.values))) span rest
  step_leads mode (AtNewObject class) rest = object_leads class rest
  step_leads mode (AtNewArray type span) rest = array_leads (number_in (top f.values)) type span rest
  step_leads mode (AtAssert formula) rest =
      met_leads w (unmet (sight_of w.heap f) (body_scene f) formula) check.Assert
      (Result.Went (goes p w i f below (goes_on f rest))) (goes_leads (goes_on f rest))
  step_leads mode (AtFold class predicate count span) rest =
      let d : Option Predicate = predicate_named p class predicate in
      needs_leads w (not_null (object_under count f.values)) check.Null span
      (act_fold p w i f below d (object_under count f.values) count span rest)
      (fold_leads d (object_under count f.values) count span rest)
  step_leads mode (AtHead named loop) rest =
      let g : Frame = goes_on f (Evaluate loop.condition ∷ Turn loop ∷ rest) in
      met_leads w (unmet (sight_of w.heap f) (body_scene f) loop.invariant) named (Result.Went (goes p w i f below g))
      (goes_leads g)
  step_leads mode (AtCall class method count span) rest =
      call_leads (method_named p class method) class (object_under count f.values) count span rest
  step_leads mode (AtAction action class span) rest =
      let object : ℕ = reference_in (top f.values) in
      needs_leads w (not_null object) check.Null span (act_on p w i f below action class object span rest)
      (on_leads action class object span rest)
  step_leads mode (AtOpen team body) rest =
      open_leads mode team body (number_in (second f.values)) (number_in (top f.values)) rest
    where
      open_leads : (mode : Mode) (team : Team) (body : Block) (low high : ℤ) (rest : List Task)
          → LeadsOn w (act_open p w i f below mode team body low high rest)
      open_leads mode team body low high rest =
          let g : Frame = pops 2 f (Stand (AtClose w.block_count) ∷ rest) in
          let m : Mode = if team.counted then mode else Free in
          met_leads w (unmet_shared (sight_of w.heap f) (body_scene f) team.variable low high team.shared.each_before)
          check.BlockRequires
          (Result.Went (with_members (goes p w i f below g) i f team body m low high))
          (grows_trans (goes_leads g) (members_lead (goes p w i f below g) i f team body m low high))
  step_leads mode (AtClose block) rest =
      waits_lead w (members_ended w (w.blocks block)) (Result.Went (goes p w i f below (goes_on f rest)))
      (goes_leads (goes_on f rest))
  step_leads mode (AtArrive barrier span) rest =
      member_leads (w.threads i).role below check.BarrierRequires span
      (λ block position. act_arrive p w i f below barrier span rest) (λ block position.
      let g : Frame = goes_on f (Stand (AtLeave barrier span) ∷ rest) in
      met_leads w (unmet (sight_of w.heap f) (contract_scene f) barrier.shared.one.before) check.BarrierRequires
      (Result.Went (goes p w i f below g)) (goes_leads g))
  step_leads mode (AtLeave barrier span) rest =
      member_leads (w.threads i).role below check.BarrierEnsures span
      (λ block position. act_leave p w i f below (w.blocks block) barrier)
      (λ block position. leave_leads (w.blocks block) barrier)
    where
      leave_leads : (block : OpenBlock) (barrier : Barrier) → LeadsOn w (act_leave p w i f below block barrier)
      leave_leads block barrier =
          let broken : Finding =
          unmet_shared (sight_of w.heap f)
          (contract_scene f) block.team.variable block.low block.high barrier.shared.each_after in
          waits_lead w (all_leave w block barrier.place)
          (needs_met broken check.BarrierEnsures (Result.Went (all_behind w block)))
          (met_leads w broken check.BarrierEnsures (Result.Went (all_behind w block)) (behind_leads w block))
  step_leads mode (AtSend message span) rest = declared_leads message span
      (λ block position. act_send p w i f below (receiver_of (w.blocks block) position message) block position message rest)
      (λ block position. send_leads (receiver_of (w.blocks block) position message) block position message rest)
  step_leads mode (AtReceive message span) rest = declared_leads message span
      (λ block position. act_receive p w i f below (sender_of (w.blocks block) position message) block
      (position -ℤ pos message.distance) message rest)
      (λ block position. receive_leads (sender_of (w.blocks block) position message) block
      (position -ℤ pos message.distance) message rest)

  ended_leads : (role : Role) → Grows w (ended p w i f below role)
  ended_leads Entry = frames_lead w i []
  ended_leads (RunOf object) = known_leads (frames_lead w i []) w.holder w.committed (at_number object ThreadState.Ended w.state)
  ended_leads (MemberOf block position) = frames_lead w i []

  returned_leads : (others : List Frame) → Grows w (returned p w i f below others)
  returned_leads [] = ended_leads (w.threads i).role
  returned_leads (g ∷ others) = frames_lead w i (settled (pushes f.result g (drop 1 g.tasks)) ∷ others)

  return_leads : (others : List Frame)
      → LeadsOn w (needs_met (unmet (sight_of w.heap f) (contract_scene f) f.method.contract.after) check.Ensures
      (Result.Went (returned p w i f below others)))
  return_leads others = met_leads w (unmet (sight_of w.heap f) (contract_scene f) f.method.contract.after) check.Ensures
      (Result.Went (returned p w i f below others)) (returned_leads others)

  end_leads : (role : Role) (others : List Frame) → LeadsOn w (act_end p w i f below role others)
  end_leads Entry others = return_leads others
  end_leads (RunOf object) others = return_leads others
  end_leads (MemberOf block position) [] =
      met_leads w (unmet (sight_of w.heap f) (contract_scene f) (w.blocks block).team.shared.one.after) check.BlockEnsures
      (Result.Went (with_frames w i [])) (frames_lead w i [])
  end_leads (MemberOf block position) (g ∷ others) = return_leads (g ∷ others)

  tasks_lead : (mode : Mode) (ts : List Task) → LeadsOn w (act_tasks p w i f below mode ts)
  tasks_lead mode [] = end_leads (w.threads i).role below
  tasks_lead mode (Stand step ∷ ts) = step_leads mode step ts
  tasks_lead mode (Evaluate e ∷ ts) = tt
  tasks_lead mode (EvaluateAll es ∷ ts) = tt
  tasks_lead mode (Combine combination ∷ ts) = tt
  tasks_lead mode (Choose a b ∷ ts) = tt
  tasks_lead mode (Branch a b ∷ ts) = tt
  tasks_lead mode (Turn loop ∷ ts) = tt
  tasks_lead mode (Put name ∷ ts) = tt
  tasks_lead mode (Drop ∷ ts) = tt
  tasks_lead mode (Give ∷ ts) = tt
  tasks_lead mode (Unfolded class predicate count span ∷ ts) = tt
  tasks_lead mode (Run b ∷ ts) = tt
  tasks_lead mode (Resume class method object arguments ∷ ts) = tt

frames_of_act_lead : (p : Program) (w : World) (mode : Mode) (i : ℕ) (fs : List Frame) → LeadsOn w (act_frames p w mode i fs)
frames_of_act_lead p w mode i [] = tt
frames_of_act_lead p w mode i (f ∷ below) =
    waits_lead w (not (is_held_back w i)) (act_tasks p w i f below mode f.tasks) (tasks_lead p w i f below mode f.tasks)

-- a step that goes takes nothing back
pub act-leads : (p : Program) (w : World) (mode : Mode) (i : ℕ) → LeadsOn w (act p w mode i)
act-leads p w mode i = frames_of_act_lead p w mode i (w.threads i).frames

pub world_after-grows : (w : World) (r : Result) → LeadsOn w r → Grows w (world_after w r)
world_after-grows w (Result.Went v) g = g
world_after-grows w Result.Waits g = grows_self w
world_after-grows w Result.Ended g = grows_self w
world_after-grows w (Result.Wrong named span) g = grows_self w

-- nor do events
pub run_events-grows : (p : Program) (events : List Event) (w : World) → Grows w (run_events p events w)
run_events-grows p [] w = grows_self w
run_events-grows p (event ∷ events) w =
    grows_trans (world_after-grows w (act p w event.mode event.thread) (act-leads p w event.mode event.thread))
    (run_events-grows p events (happens p event w))
