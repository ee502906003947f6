-- Each step that goes leads to a world in which all threads stand.
use Rattle.std.proofs.Common.{◌≡◌, refl, subst, ℕ, suc, ℤ, pos, negsuc, Bool, true, false, Option, Some, None, List, [], ◌∷◌}
use Rattle.std.specs.Prelude.{IsSome, ◌&&◌, not, is_none, drop, ◌-ℤ◌, if◌then◌else◌}
use Rattle.pv_base.specs.declared.Name.{Name}
use Rattle.pv_base.specs.declared.Span.{Span}
use Rattle.pv_ast.specs.declared.PvType.{PvType}
use Rattle.pv_values.specs.declared.value.Value.{Value}
use Rattle.pv_values.specs.declared.value.Location.{Location}
use Rattle.pv_picks.proofs.Sames.{front}
use Rattle.pv_picks.specs.declared.check.Check.{Check}
use Rattle.pv_picks.specs.Plain.Core.{Formula, Action, Fork, Join', Lock, Unlock, Commit, Message, Barrier, Team, Block, Predicate, Method, Program}
use Rattle.pv_picks.specs.Plain.Members.{predicate_named, method_named, run_of, invariant_of}
use Rattle.pv_picks.specs.Formulas.Values.{number_in, reference_in}
use Rattle.pv_picks.specs.Machine.Tasks.{Spot, Step, AtRead, AtWrite, AtLength, AtNewObject, AtNewArray, AtAssert, AtFold, AtHead, AtCall, AtAction, AtOpen, AtClose, AtArrive, AtLeave, AtSend, AtReceive, Task, Evaluate, EvaluateAll, Combine, Choose, Branch, Turn, Put, Drop, Give, Unfolded, Run, Stand, Resume}
use Rattle.pv_picks.specs.Machine.Frames.{Frame, top, second, topmost, location_on, object_under, breadth, goes_on, pops, pushes, settled, entered, sight_of, body_scene, contract_scene}
use Rattle.pv_picks.specs.Formulas.Meeting.{Finding, AllMet, FirstUnmet, unmet, unmet_shared}
use Rattle.pv_picks.specs.declared.check.Check.TheVariants as check
use Rattle.pv_values.specs.declared.value.Value.TheVariants as value
use Rattle.pv_values.specs.Changes.{owner_of}
use Rattle.pv_picks.specs.Machine.Worlds.{Role, Entry, RunOf, MemberOf, Thread, Mode, Free, OpenBlock, ThreadState, World, members_ended, with_frames, with_holder, with_committed_object, with_message, with_members, is_held_back}
use Rattle.pv_picks.specs.Machine.Steps.{Result, not_null, is_met_on, called, forked, keeps_invariant, is_own, act_new_object, act_open, act_arrive, act_leave, all_leave, all_behind, ended, needs, needs_met, waits_unless, goes, read, write, act_length, act_new_array, act_fold, act_call, act_fork, act_join, act_lock, act_unlock, act_commit, act_on, Partner, Somebody, Nobody, receiver_of, sender_of, is_declared, act_send, act_receive, as_member, act_step, act_end, returned, act_tasks, act_frames, act}
use Rattle.pv_picks.specs.Machine.Safety.{Event, IsReached, world_after, happens, run_events}
use Rattle.pv_picks.specs.Formulas.Heaps.{heap_of}
use Rattle.pv_picks.specs.Machine.Worlds.{has_no_frame, has_ended, label_of_frame, label_of_frames, next}
use Rattle.pv_picks.specs.Machine.Starts.{Start, frame_of_start, no_thread, first_world}
use Rattle.machine_laws.specs.Rest.{are_at_rest}
use Rattle.machine_laws.specs.Standing.{are_free, all_await, is_standing, AreStanding}
use Rattle.machine_laws.proofs.Standing.{put_stands, settled-stands, stands-free, awaits-two, awaited-free, entered-stands, frames_stand, thread_stands, members_stand, all_behind_stand}

-- a step that goes leads to a world in which all threads stand
abbrev StandsOn : Result → Type 0
StandsOn (Result.Went v) = AreStanding v
StandsOn Result.Waits = Unit {0}
StandsOn Result.Ended = Unit {0}
StandsOn (Result.Wrong check span) = Unit {0}

not_both : (a : Bool) → (a && false) ≡ true → ⊥
not_both true h = absurd (cc)
not_both false h = absurd (cc)

needs_stand : (b : Bool) (named : Check) (span : Span) (r : Result) → StandsOn r → StandsOn (needs b named span r)
needs_stand true named span r h = h
needs_stand false named span r h = tt

met_stand : (u : Finding) (named : Check) (r : Result) → StandsOn r → StandsOn (needs_met u named r)
met_stand AllMet named r h = h
met_stand (FirstUnmet span) named r h = tt

waits_stand : (b : Bool) (r : Result) → StandsOn r → StandsOn (waits_unless b r)
waits_stand true r h = h
waits_stand false r h = tt

module _ (p : Program) (w : World) (i : ℕ) (f : Frame) (below : List Frame) (stand : AreStanding w)
    (ok : all_await below ≡ true) where
  goes_stand : (g : Frame) → are_free g.tasks ≡ true → AreStanding (goes p w i f below g)
  goes_stand g free = frames_stand w i (settled g ∷ below) stand (settled-stands g below free ok)

  read_stand : (v : Option Value) (spot : Spot) (span : Span) (rest : List Task) → are_free rest ≡ true
      → StandsOn (read p w i f below v spot span rest)
  read_stand None spot span rest free = tt
  read_stand (Some v) spot span rest free = goes_stand (record f { values = v ∷ drop (breadth spot) f.values; tasks = rest }) free

  write_stand : (v : Option Value) (location : Location) (count : ℕ) (span : Span) (rest : List Task) → are_free rest ≡ true
      → StandsOn (write p w i f below v location count span rest)
  write_stand None location count span rest free = tt
  write_stand (Some v) location count span rest free =
      goes_stand (pops count f rest) free

  length_stand : (n : Option ℤ) (span : Span) (rest : List Task) → are_free rest ≡ true
      → StandsOn (act_length p w i f below n span rest)
  length_stand None span rest free = tt
  length_stand (Some n) span rest free = goes_stand (record f { values = value.Number n ∷ drop 1 f.values; tasks = rest }) free

  object_stand : (class : Name) (rest : List Task) → are_free rest ≡ true → StandsOn (act_new_object p w i f below class rest)
  object_stand class rest free =
      let g : Frame = pushes (value.Reference (suc w.heap.count)) f rest in goes_stand g free

  array_stand : (n : ℤ) (type : PvType) (span : Span) (rest : List Task) → are_free rest ≡ true
      → StandsOn (act_new_array p w i f below n type span rest)
  array_stand (negsuc n) type span rest free = tt
  array_stand (pos n) type span rest free =
      let g : Frame = pushes (value.Reference (suc w.heap.count)) (pops 1 f rest) rest in goes_stand g free

  fold_stand : (d : Option Predicate) (object count : ℕ) (span : Span) (rest : List Task) → are_free rest ≡ true
      → StandsOn (act_fold p w i f below d object count span rest)
  fold_stand None object count span rest free = tt
  fold_stand (Some d) object count span rest free =
      needs_stand (is_met_on w.heap object d.parameters (topmost count f.values) d.body) check.Fold span
      (Result.Went (goes p w i f below (pops (suc count) f rest)))
      (goes_stand (pops (suc count) f rest) free)

  call_stand : (m : Option Method) (class : Name) (object count : ℕ) (span : Span) (rest : List Task) → are_free rest ≡ true
      → StandsOn (act_call p w i f below m class object count span rest)
  call_stand None class object count span rest free = tt
  call_stand (Some m) class object count span rest free =
      let r : Result = Result.Went (called p w i f below m class object count rest) in
      let met : Bool = is_met_on w.heap object m.parameters (topmost count f.values) m.contract.before in
      needs_stand (not_null object) check.Null span (needs met check.Requires span r) (needs_stand met check.Requires span r
      (frames_stand w i (entered w.heap class m object (topmost count f.values)
      ∷ pops (suc count) f (Resume class m object (topmost count f.values) ∷ rest) ∷ below)
      stand (entered-stands w.heap class m object (topmost count f.values)
      (pops (suc count) f (Resume class m object (topmost count f.values) ∷ rest) ∷ below)
      (rw (free, ok) refl))))

  forked_stand : (m : Method) (class : Name) (object : ℕ) (rest : List Task) → are_free rest ≡ true
      → AreStanding (forked p w i f below m class object rest)
  forked_stand m class object rest free =
      let v : World = goes p w i f below (pops 1 f rest) in
      let t : Thread = record { role = RunOf object; frames = entered w.heap class m object [] ∷ [] } in
      thread_stands v t (goes_stand (pops 1 f rest) free) (entered-stands w.heap class m object [] [] refl)

  fork_stand : (s : ThreadState) (m : Option Method) (class : Name) (object : ℕ) (span : Span) (rest : List Task)
      → are_free rest ≡ true → StandsOn (act_fork p w i f below s m class object span rest)
  fork_stand ThreadState.Idle None class object span rest free = tt
  fork_stand (ThreadState.Running j) None class object span rest free = tt
  fork_stand ThreadState.Ended None class object span rest free = tt
  fork_stand ThreadState.Idle (Some m) class object span rest free =
      needs_stand (is_met_on w.heap object m.parameters [] m.contract.before) check.ForkRequires span
      (Result.Went (forked p w i f below m class object rest))
      (forked_stand m class object rest free)
  fork_stand (ThreadState.Running j) (Some m) class object span rest free = tt
  fork_stand ThreadState.Ended (Some m) class object span rest free = tt

  join_stand : (s : ThreadState) (object : ℕ) (span : Span) (rest : List Task) → are_free rest ≡ true
      → StandsOn (act_join p w i f below s object span rest)
  join_stand ThreadState.Idle object span rest free = tt
  join_stand (ThreadState.Running j) object span rest free = tt
  join_stand ThreadState.Ended object span rest free = goes_stand (pops 1 f rest) free

  keeps_stand : (invariant : Formula) (object : ℕ) (span : Span) (v : World) → AreStanding v
      → StandsOn (keeps_invariant p w i f below invariant object span v)
  keeps_stand invariant object span v g =
      needs_stand (is_met_on w.heap object [] [] invariant) check.LockInvariant span (Result.Went v) g

  lock_stand : (invariant : Option Formula) (object : ℕ) (span : Span) (rest : List Task) → are_free rest ≡ true
      → StandsOn (act_lock p w i f below invariant object span rest)
  lock_stand None object span rest free = tt
  lock_stand (Some invariant) object span rest free =
      let v : World = with_holder (goes p w i f below (pops 1 f rest)) object (Some i) in
      let r : Result = keeps_invariant p w i f below invariant object span v in
      waits_stand (is_none (w.holder object)) (needs (w.committed object) check.NotCommitted span r)
      (needs_stand (w.committed object) check.NotCommitted span r
      (keeps_stand invariant object span v (goes_stand (pops 1 f rest) free)))

  unlock_stand : (invariant : Option Formula) (object : ℕ) (span : Span) (rest : List Task) → are_free rest ≡ true
      → StandsOn (act_unlock p w i f below invariant object span rest)
  unlock_stand None object span rest free = tt
  unlock_stand (Some invariant) object span rest free =
      let v : World = with_holder (goes p w i f below (pops 1 f rest)) object None in
      needs_stand (is_own p w i f below (w.holder object)) check.NotHeld span
      (keeps_invariant p w i f below invariant object span v)
      (keeps_stand invariant object span v (goes_stand (pops 1 f rest) free))

  commit_stand : (invariant : Option Formula) (object : ℕ) (span : Span) (rest : List Task) → are_free rest ≡ true
      → StandsOn (act_commit p w i f below invariant object span rest)
  commit_stand None object span rest free = tt
  commit_stand (Some invariant) object span rest free =
      let v : World = with_committed_object (goes p w i f below (pops 1 f rest)) object in
      needs_stand (not (w.committed object)) check.NotUncommitted span (keeps_invariant p w i f below invariant object span v)
      (keeps_stand invariant object span v (goes_stand (pops 1 f rest) free))

  on_stand : (action : Action) (class : Name) (object : ℕ) (span : Span) (rest : List Task) → are_free rest ≡ true
      → StandsOn (act_on p w i f below action class object span rest)
  on_stand Fork class object span rest free = fork_stand (w.state object) (run_of p class) class object span rest free
  on_stand Join' class object span rest free = join_stand (w.state object) object span rest free
  on_stand Lock class object span rest free = lock_stand (invariant_of p class) object span rest free
  on_stand Unlock class object span rest free = unlock_stand (invariant_of p class) object span rest free
  on_stand Commit class object span rest free = commit_stand (invariant_of p class) object span rest free

  send_stand : (b : Partner) (block : ℕ) (position : ℤ) (message : Message) (rest : List Task) → are_free rest ≡ true
      → StandsOn (act_send p w i f below b block position message rest)
  send_stand Nobody block position message rest free = goes_stand (goes_on f rest) free
  send_stand Somebody block position message rest free =
      let v : World = goes p w i f below (goes_on f rest) in
      met_stand (unmet (sight_of w.heap f) (contract_scene f) message.formula) check.Send
      (Result.Went (with_message v block message.label position))
      (goes_stand (goes_on f rest) free)

  receive_stand : (b : Partner) (block : ℕ) (sender : ℤ) (message : Message) (rest : List Task) → are_free rest ≡ true
      → StandsOn (act_receive p w i f below b block sender message rest)
  receive_stand Nobody block sender message rest free = goes_stand (goes_on f rest) free
  receive_stand Somebody block sender message rest free =
      waits_stand ((w.blocks block).sent message.label sender) (Result.Went (goes p w i f below (goes_on f rest)))
      (goes_stand (goes_on f rest) free)

  member_stand : (role : Role) (frames : List Frame) (named : Check) (span : Span) (act : ℕ → ℤ → Result)
      → ((block : ℕ) (position : ℤ) → StandsOn (act block position))
      → StandsOn (as_member p w i f below role frames named span act)
  member_stand Entry frames named span act h = tt
  member_stand (RunOf object) frames named span act h = tt
  member_stand (MemberOf block position) [] named span act h = h block position
  member_stand (MemberOf block position) (g ∷ gs) named span act h = tt

  -- a step with a message that is declared
  declared_stand : (message : Message) (span : Span) (act : ℕ → ℤ → Result)
      → ((block : ℕ) (position : ℤ) → StandsOn (act block position))
      → StandsOn (needs (is_declared message) check.Send span
      (as_member p w i f below (w.threads i).role below check.Send span act))
  declared_stand message span act h =
      needs_stand (is_declared message) check.Send span (as_member p w i f below (w.threads i).role below check.Send span act)
      (member_stand (w.threads i).role below check.Send span act h)

  step_stand : (mode : Mode) (step : Step) (rest : List Task) → are_free rest ≡ true
      → StandsOn (act_step p w i f below mode step rest)
  step_stand mode (AtRead spot span) rest free =
      needs_stand (not_null (owner_of (location_on spot f.values))) check.Null span
      (read p w i f below (w.heap.value (location_on spot f.values)) spot span rest)
      (read_stand (w.heap.value (location_on spot f.values)) spot span rest free)
  step_stand mode (AtWrite spot span) rest free =
      let location : Location = location_on spot (drop 1 f.values) in
      needs_stand (not_null (owner_of location)) check.Null span
      (write p w i f below (w.heap.value location) location (suc (breadth spot)) span rest)
      (write_stand (w.heap.value location) location (suc (breadth spot)) span rest free)
  step_stand mode (AtLength type span) rest free = length_stand (w.heap.length (reference_in (top f.values))) span rest free
  step_stand mode (AtNewObject class) rest free = object_stand class rest free
  step_stand mode (AtNewArray type span) rest free = array_stand (number_in (top f.values)) type span rest free
  step_stand mode (AtAssert formula) rest free =
      met_stand (unmet (sight_of w.heap f) (body_scene f) formula) check.Assert
      (Result.Went (goes p w i f below (goes_on f rest))) (goes_stand (goes_on f rest) free)
  step_stand mode (AtFold class predicate count span) rest free =
      let d : Option Predicate = predicate_named p class predicate in
      needs_stand (not_null (object_under count f.values)) check.Null span
      (act_fold p w i f below d (object_under count f.values) count span rest)
      (fold_stand d (object_under count f.values) count span rest free)
  step_stand mode (AtHead named loop) rest free =
      let g : Frame = goes_on f (Evaluate loop.condition ∷ Turn loop ∷ rest) in
      met_stand (unmet (sight_of w.heap f) (body_scene f) loop.invariant) named (Result.Went (goes p w i f below g))
      (goes_stand g free)
  step_stand mode (AtCall class method count span) rest free =
      call_stand (method_named p class method) class (object_under count f.values) count span rest free
  step_stand mode (AtAction action class span) rest free =
      let object : ℕ = reference_in (top f.values) in
      needs_stand (not_null object) check.Null span (act_on p w i f below action class object span rest)
      (on_stand action class object span rest free)
  step_stand mode (AtOpen team body) rest free =
      open_stand mode team body (number_in (second f.values)) (number_in (top f.values)) rest free
    where
      open_stand : (mode : Mode) (team : Team) (body : Block) (low high : ℤ) (rest : List Task) → are_free rest ≡ true
          → StandsOn (act_open p w i f below mode team body low high rest)
      open_stand mode team body low high rest free =
          let g : Frame = pops 2 f (Stand (AtClose w.block_count) ∷ rest) in
          let m : Mode = if team.counted then mode else Free in
          met_stand (unmet_shared (sight_of w.heap f) (body_scene f) team.variable low high team.shared.each_before)
          check.BlockRequires
          (Result.Went (with_members (goes p w i f below g) i f team body m low high))
          (members_stand (goes p w i f below g) i f team body m low high (goes_stand g free))
  step_stand mode (AtClose block) rest free =
      waits_stand (members_ended w (w.blocks block)) (Result.Went (goes p w i f below (goes_on f rest)))
      (goes_stand (goes_on f rest) free)
  step_stand mode (AtArrive barrier span) rest free =
      member_stand (w.threads i).role below check.BarrierRequires span
      (λ block position. act_arrive p w i f below barrier span rest) (λ block position.
      let g : Frame = goes_on f (Stand (AtLeave barrier span) ∷ rest) in
      met_stand (unmet (sight_of w.heap f) (contract_scene f) barrier.shared.one.before) check.BarrierRequires
      (Result.Went (goes p w i f below g)) (goes_stand g free))
  step_stand mode (AtLeave barrier span) rest free =
      member_stand (w.threads i).role below check.BarrierEnsures span
      (λ block position. act_leave p w i f below (w.blocks block) barrier)
      (λ block position. leave_stand (w.blocks block) barrier)
    where
      leave_stand : (block : OpenBlock) (barrier : Barrier) → StandsOn (act_leave p w i f below block barrier)
      leave_stand block barrier =
          let broken : Finding =
          unmet_shared (sight_of w.heap f)
          (contract_scene f) block.team.variable block.low block.high barrier.shared.each_after in
          waits_stand (all_leave w block barrier.place) (needs_met broken check.BarrierEnsures (Result.Went (all_behind w block)))
          (met_stand broken check.BarrierEnsures (Result.Went (all_behind w block)) (all_behind_stand w block stand))
  step_stand mode (AtSend message span) rest free = declared_stand message span
      (λ block position. act_send p w i f below (receiver_of (w.blocks block) position message) block position message rest)
      (λ block position. send_stand (receiver_of (w.blocks block) position message) block position message rest free)
  step_stand mode (AtReceive message span) rest free = declared_stand message span
      (λ block position. act_receive p w i f below (sender_of (w.blocks block) position message) block
      (position -ℤ pos message.distance) message rest)
      (λ block position. receive_stand (sender_of (w.blocks block) position message) block
      (position -ℤ pos message.distance) message rest free)

  ended_stand : (role : Role) → AreStanding (ended p w i f below role)
  ended_stand Entry = frames_stand w i [] stand refl
  ended_stand (RunOf object) = frames_stand w i [] stand refl
  ended_stand (MemberOf block position) = frames_stand w i [] stand refl

  returned_stand : (others : List Frame) → all_await others ≡ true → AreStanding (returned p w i f below others)
  returned_stand [] h = ended_stand (w.threads i).role
  returned_stand (g ∷ others) h =
      let a = awaits-two g others h in
      let v : Frame = pushes f.result g (drop 1 g.tasks) in
      frames_stand w i (settled v ∷ others) stand (settled-stands v others (awaited-free g.tasks a.0) a.1)

  return_stand : (others : List Frame) → all_await others ≡ true
      → StandsOn (needs_met (unmet (sight_of w.heap f) (contract_scene f) f.method.contract.after) check.Ensures
      (Result.Went (returned p w i f below others)))
  return_stand others h =
      met_stand (unmet (sight_of w.heap f) (contract_scene f) f.method.contract.after) check.Ensures
      (Result.Went (returned p w i f below others)) (returned_stand others h)

  end_stand : (role : Role) (others : List Frame) → all_await others ≡ true → StandsOn (act_end p w i f below role others)
  end_stand Entry others h = return_stand others h
  end_stand (RunOf object) others h = return_stand others h
  end_stand (MemberOf block position) [] h =
      met_stand (unmet (sight_of w.heap f) (contract_scene f) (w.blocks block).team.shared.one.after) check.BlockEnsures
      (Result.Went (with_frames w i []))
      (frames_stand w i [] stand refl)
  end_stand (MemberOf block position) (g ∷ others) h = return_stand (g ∷ others) h

  tasks_stand : (mode : Mode) (ts : List Task) → are_free ts ≡ true → StandsOn (act_tasks p w i f below mode ts)
  tasks_stand mode [] h = end_stand (w.threads i).role below ok
  tasks_stand mode (Stand step ∷ ts) h = step_stand mode step ts h
  tasks_stand mode (Evaluate e ∷ ts) h = tt
  tasks_stand mode (EvaluateAll es ∷ ts) h = tt
  tasks_stand mode (Combine combination ∷ ts) h = tt
  tasks_stand mode (Choose a b ∷ ts) h = tt
  tasks_stand mode (Branch a b ∷ ts) h = tt
  tasks_stand mode (Turn loop ∷ ts) h = tt
  tasks_stand mode (Put name ∷ ts) h = tt
  tasks_stand mode (Drop ∷ ts) h = tt
  tasks_stand mode (Give ∷ ts) h = tt
  tasks_stand mode (Unfolded class predicate count span ∷ ts) h = tt
  tasks_stand mode (Run b ∷ ts) h = tt
  tasks_stand mode (Resume class method object arguments ∷ ts) h = tt

frames_of_act_stand : (p : Program) (w : World) (mode : Mode) (i : ℕ) → AreStanding w → (fs : List Frame) → is_standing fs ≡ true
    → StandsOn (act_frames p w mode i fs)
frames_of_act_stand p w mode i stand [] h = tt
frames_of_act_stand p w mode i stand (f ∷ below) h =
    let a = stands-free f below h in
    waits_stand (not (is_held_back w i)) (act_tasks p w i f below mode f.tasks)
    (tasks_stand p w i f below stand a.1 mode f.tasks a.0)

pub act-stands : (p : Program) (w : World) (mode : Mode) (i : ℕ) → AreStanding w → StandsOn (act p w mode i)
act-stands p w mode i stand = frames_of_act_stand p w mode i stand (w.threads i).frames (stand i)

after_stands : (w : World) (r : Result) → AreStanding w → StandsOn r → AreStanding (world_after w r)
after_stands w (Result.Went v) stand h = h
after_stands w Result.Waits stand h = stand
after_stands w Result.Ended stand h = stand
after_stands w (Result.Wrong named span) stand h = stand

pub run_events-stand : (p : Program) (events : List Event) (w : World) → AreStanding w → AreStanding (run_events p events w)
run_events-stand p [] w stand = stand
run_events-stand p (event ∷ events) w stand =
    run_events-stand p events (happens p event w)
    (after_stands w (act p w event.mode event.thread) stand (act-stands p w event.mode event.thread stand))

first_stands : (s : Start) → AreStanding (first_world s)
first_stands s j = put_stands 0 (record { role = Entry; frames = frame_of_start s ∷ [] }) (λ i. no_thread)
    (entered-stands (heap_of s.heap) s.class s.method s.object s.arguments [] refl) (λ i. refl) j

-- in a reached world all threads stand
pub reached-standing : (p : Program) (w : World) → IsReached p w → AreStanding w
reached-standing p w r =
    subst (λ (v : World). AreStanding v) r.leads (run_events-stand p r.events (first_world r.start) (first_stands r.start))

label_of_free : (role : Role) (f : Frame) (ts : List Task) (below : List Frame) → (are_free ts && are_at_rest ts) ≡ true
    → IsSome (label_of_frame role f ts below)
label_of_free role f [] below h = refl
label_of_free role f (Stand step ∷ ts) below h = refl
label_of_free role f (Evaluate e ∷ ts) below h = absurd (not_both (are_free ts) h)
label_of_free role f (EvaluateAll es ∷ ts) below h = absurd (not_both (are_free ts) h)
label_of_free role f (Combine combination ∷ ts) below h = absurd (not_both (are_free ts) h)
label_of_free role f (Choose a b ∷ ts) below h = absurd (not_both (are_free ts) h)
label_of_free role f (Branch a b ∷ ts) below h = absurd (not_both (are_free ts) h)
label_of_free role f (Turn loop ∷ ts) below h = absurd (not_both (are_free ts) h)
label_of_free role f (Put name ∷ ts) below h = absurd (not_both (are_free ts) h)
label_of_free role f (Drop ∷ ts) below h = absurd (not_both (are_free ts) h)
label_of_free role f (Give ∷ ts) below h = absurd (not_both (are_free ts) h)
label_of_free role f (Unfolded class predicate count span ∷ ts) below h = absurd (not_both (are_free ts) h)
label_of_free role f (Run b ∷ ts) below h = absurd (not_both (are_free ts) h)
label_of_free role f (Resume class method object arguments ∷ ts) below h = absurd (cc)

label_of_standing : (role : Role) (fs : List Frame) → is_standing fs ≡ true → has_no_frame fs ≡ false
    → IsSome (label_of_frames role fs)
label_of_standing role [] h k = absurd (cc)
label_of_standing role (f ∷ below) h k =
    label_of_free role f f.tasks below (front (are_free f.tasks && are_at_rest f.tasks) (all_await below) h)

-- a thread that hasn't ended has a next label
pub reached-label : (p : Program) (w : World) → IsReached p w → (j : ℕ) → has_ended w j ≡ false → IsSome (next (w.threads j))
reached-label p w r j h = label_of_standing (w.threads j).role (w.threads j).frames (reached-standing p w r j) h
