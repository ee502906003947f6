-- Each step that goes does to the heap what its label says.
use Rattle.std.proofs.Common.{◌≡◌, ℕ, suc, ℤ, pos, negsuc, Bool, true, false, Option, Some, None, IsSome, List, [], ◌∷◌, refl, sym, subst, ◌∙◌}
use Rattle.std.specs.Prelude.{not, is_none, drop, ◌-ℤ◌, if◌then◌else◌}
use Rattle.pv_base.specs.declared.Name.{Name}
use Rattle.pv_base.specs.declared.Span.{Span}
use Rattle.pv_ast.specs.declared.PvType.{PvType}
use Rattle.pv_values.specs.declared.value.Value.{Value}
use Rattle.pv_values.specs.declared.value.Location.{Location}
use Rattle.pv_values.specs.Changes.{owner_of}
use Rattle.pv_picks.specs.declared.check.Check.{Check}
use Rattle.pv_picks.specs.declared.check.Check.TheVariants as check
use Rattle.pv_picks.specs.Plain.Core.{Formula, Action, Fork, Join', Lock, Unlock, Commit, Message, Barrier, Team, Block, Predicate, Method, Program}
use Rattle.pv_picks.specs.Plain.Members.{predicate_named, method_named, run_of, invariant_of}
use Rattle.pv_picks.specs.Formulas.Values.{number_in, reference_in}
use Rattle.pv_picks.specs.Machine.Tasks.{Spot, Step, AtRead, AtWrite, AtLength, AtNewObject, AtNewArray, AtAssert, AtFold, AtHead, AtCall, AtAction, AtOpen, AtClose, AtArrive, AtLeave, AtSend, AtReceive, Task, Evaluate, EvaluateAll, Combine, Choose, Branch, Turn, Put, Drop, Give, Unfolded, Run, Stand, Resume}
use Rattle.pv_picks.specs.Machine.Frames.{Frame, top, second, topmost, location_on, object_under, breadth, goes_on, pops, sight_of, body_scene, contract_scene}
use Rattle.pv_picks.specs.Formulas.Meeting.{Finding, AllMet, FirstUnmet, unmet, unmet_shared}
use Rattle.pv_picks.specs.Machine.Labels.{Label}
use Rattle.pv_picks.specs.Machine.Worlds.{Role, Entry, RunOf, MemberOf, Mode, Free, OpenBlock, ThreadState, World, next, label_of_step, label_of_action, label_of_end, label_of_frame, label_of_frames, position_of, members_ended, with_frames, with_holder, with_committed_object, with_message, with_members, is_held_back}
use Rattle.pv_picks.specs.Machine.Steps.{Result, not_null, is_met_on, called, forked, keeps_invariant, is_own, act_open, act_arrive, act_leave, all_leave, all_behind, ended, needs, needs_met, waits_unless, goes, read, write, act_length, act_new_array, act_fold, act_call, act_fork, act_join, act_lock, act_unlock, act_commit, act_on, Partner, Somebody, Nobody, receiver_of, sender_of, is_declared, act_send, act_receive, as_member, act_step, act_end, returned, act_tasks, act_frames, act}
use Rattle.machine_laws.specs.HeapSteps.{heap_after, Finds, IsHeapStep, WhereItGoes}

-- what is so where a result goes is so behind a test,
pub needs_goes : (P : World → Type 0) (b : Bool) (named : Check) (span : Span) (r : Result) → WhereItGoes P r
    → WhereItGoes P (needs b named span r)
needs_goes P true named span r h = h
needs_goes P false named span r h = tt

-- behind a formula,
pub met_goes : (P : World → Type 0) (u : Finding) (named : Check) (r : Result) → WhereItGoes P r
    → WhereItGoes P (needs_met u named r)
met_goes P AllMet named r h = h
met_goes P (FirstUnmet span) named r h = tt

-- and behind a wait
pub waits_goes : (P : World → Type 0) (b : Bool) (r : Result) → WhereItGoes P r → WhereItGoes P (waits_unless b r)
waits_goes P true r h = h
waits_goes P false r h = tt

-- a property that follows from another
as_before : (P Q : World → Type 0) (r : Result) → ((v : World) → P v → Q v) → WhereItGoes P r → WhereItGoes Q r
as_before P Q (Result.Went v) f h = f v h
as_before P Q Result.Waits f h = tt
as_before P Q Result.Ended f h = tt
as_before P Q (Result.Wrong named span) f h = tt

module _ (p : Program) (w : World) (i : ℕ) (f : Frame) (below : List Frame) where
  abbrev Keeps : Result → Type 0
  Keeps r = WhereItGoes (λ v. v.heap ≡ w.heap) r

  abbrev Does : Label → Result → Type 0
  Does label r = WhereItGoes (λ v. IsHeapStep p (Some label) w.heap v.heap) r

  needs_keep : (b : Bool) (named : Check) (span : Span) (r : Result) → Keeps r → Keeps (needs b named span r)
  needs_keep b named span r h = needs_goes (λ v. v.heap ≡ w.heap) b named span r h

  met_keep : (u : Finding) (named : Check) (r : Result) → Keeps r → Keeps (needs_met u named r)
  met_keep u named r h = met_goes (λ v. v.heap ≡ w.heap) u named r h

  waits_keep : (b : Bool) (r : Result) → Keeps r → Keeps (waits_unless b r)
  waits_keep b r h = waits_goes (λ v. v.heap ≡ w.heap) b r h

  -- a step at another label than those that change the heap
  kept : (label : Label) (r : Result) → heap_after p (Some label) w.heap ≡ w.heap → Finds w.heap (Some label) → Keeps r
      → Does label r
  kept label r same finds h =
      as_before (λ v. v.heap ≡ w.heap) (λ v. IsHeapStep p (Some label) w.heap v.heap) r
      (λ v e. record { finds = finds; after = e ∙ sym same }) h

  read_does : (v : Option Value) (spot : Spot) (span : Span) (rest : List Task) → w.heap.value (location_on spot f.values) ≡ v
      → Does (Label.Read (location_on spot f.values)) (read p w i f below v spot span rest)
  read_does None spot span rest e = tt
  read_does (Some v) spot span rest e = record { finds = subst (λ o. IsSome o) (sym e) refl; after = refl }

  length_does : (n : Option ℤ) (span : Span) (rest : List Task) → w.heap.length (reference_in (top f.values)) ≡ n
      → Does (Label.Length (reference_in (top f.values))) (act_length p w i f below n span rest)
  length_does None span rest e = tt
  length_does (Some n) span rest e = record { finds = subst (λ o. IsSome o) (sym e) refl; after = refl }

  fold_keeps : (d : Option Predicate) (object count : ℕ) (span : Span) (rest : List Task)
      → Keeps (act_fold p w i f below d object count span rest)
  fold_keeps None object count span rest = tt
  fold_keeps (Some d) object count span rest =
      needs_keep (is_met_on w.heap object d.parameters (topmost count f.values) d.body) check.Fold span
      (Result.Went (goes p w i f below (pops (suc count) f rest))) refl

  call_keeps : (m : Option Method) (class : Name) (object count : ℕ) (span : Span) (rest : List Task)
      → Keeps (act_call p w i f below m class object count span rest)
  call_keeps None class object count span rest = tt
  call_keeps (Some m) class object count span rest =
      let r : Result = Result.Went (called p w i f below m class object count rest) in
      let met : Bool = is_met_on w.heap object m.parameters (topmost count f.values) m.contract.before in
      needs_keep (not_null object) check.Null span (needs met check.Requires span r) (needs_keep met check.Requires span r refl)

  fork_keeps : (s : ThreadState) (m : Option Method) (class : Name) (object : ℕ) (span : Span) (rest : List Task)
      → Keeps (act_fork p w i f below s m class object span rest)
  fork_keeps ThreadState.Idle None class object span rest = tt
  fork_keeps (ThreadState.Running j) None class object span rest = tt
  fork_keeps ThreadState.Ended None class object span rest = tt
  fork_keeps ThreadState.Idle (Some m) class object span rest =
      needs_keep (is_met_on w.heap object m.parameters [] m.contract.before) check.ForkRequires span
      (Result.Went (forked p w i f below m class object rest)) refl
  fork_keeps (ThreadState.Running j) (Some m) class object span rest = tt
  fork_keeps ThreadState.Ended (Some m) class object span rest = tt

  join_keeps : (s : ThreadState) (object : ℕ) (span : Span) (rest : List Task) → Keeps (act_join p w i f below s object span rest)
  join_keeps ThreadState.Idle object span rest = tt
  join_keeps (ThreadState.Running j) object span rest = tt
  join_keeps ThreadState.Ended object span rest = refl

  invariant_keeps : (invariant : Formula) (object : ℕ) (span : Span) (v : World) → v.heap ≡ w.heap
      → Keeps (keeps_invariant p w i f below invariant object span v)
  invariant_keeps invariant object span v e =
      needs_keep (is_met_on w.heap object [] [] invariant) check.LockInvariant span (Result.Went v) e

  lock_keeps : (invariant : Option Formula) (object : ℕ) (span : Span) (rest : List Task)
      → Keeps (act_lock p w i f below invariant object span rest)
  lock_keeps None object span rest = tt
  lock_keeps (Some invariant) object span rest =
      let v : World = with_holder (goes p w i f below (pops 1 f rest)) object (Some i) in
      let r : Result = keeps_invariant p w i f below invariant object span v in
      waits_keep (is_none (w.holder object)) (needs (w.committed object) check.NotCommitted span r)
      (needs_keep (w.committed object) check.NotCommitted span r (invariant_keeps invariant object span v refl))

  unlock_keeps : (invariant : Option Formula) (object : ℕ) (span : Span) (rest : List Task)
      → Keeps (act_unlock p w i f below invariant object span rest)
  unlock_keeps None object span rest = tt
  unlock_keeps (Some invariant) object span rest =
      let v : World = with_holder (goes p w i f below (pops 1 f rest)) object None in
      needs_keep (is_own p w i f below (w.holder object)) check.NotHeld span
      (keeps_invariant p w i f below invariant object span v)
      (invariant_keeps invariant object span v refl)

  commit_keeps : (invariant : Option Formula) (object : ℕ) (span : Span) (rest : List Task)
      → Keeps (act_commit p w i f below invariant object span rest)
  commit_keeps None object span rest = tt
  commit_keeps (Some invariant) object span rest =
      let v : World = with_committed_object (goes p w i f below (pops 1 f rest)) object in
      needs_keep (not (w.committed object)) check.NotUncommitted span (keeps_invariant p w i f below invariant object span v)
      (invariant_keeps invariant object span v refl)

  on_keeps : (action : Action) (class : Name) (object : ℕ) (span : Span) (rest : List Task)
      → Keeps (act_on p w i f below action class object span rest)
  on_keeps Fork class object span rest = fork_keeps (w.state object) (run_of p class) class object span rest
  on_keeps Join' class object span rest = join_keeps (w.state object) object span rest
  on_keeps Lock class object span rest = lock_keeps (invariant_of p class) object span rest
  on_keeps Unlock class object span rest = unlock_keeps (invariant_of p class) object span rest
  on_keeps Commit class object span rest = commit_keeps (invariant_of p class) object span rest

  open_keeps : (mode : Mode) (team : Team) (body : Block) (low high : ℤ) (rest : List Task)
      → Keeps (act_open p w i f below mode team body low high rest)
  open_keeps mode team body low high rest =
      let g : Frame = pops 2 f (Stand (AtClose w.block_count) ∷ rest) in
      let m : Mode = if team.counted then mode else Free in
      met_keep (unmet_shared (sight_of w.heap f) (body_scene f) team.variable low high team.shared.each_before)
      check.BlockRequires
      (Result.Went (with_members (goes p w i f below g) i f team body m low high)) refl

  arrive_keeps : (barrier : Barrier) (span : Span) (rest : List Task) → Keeps (act_arrive p w i f below barrier span rest)
  arrive_keeps barrier span rest =
      met_keep (unmet (sight_of w.heap f) (contract_scene f) barrier.shared.one.before) check.BarrierRequires
      (Result.Went (goes p w i f below (goes_on f (Stand (AtLeave barrier span) ∷ rest)))) refl

  leave_keeps : (block : OpenBlock) (barrier : Barrier) → Keeps (act_leave p w i f below block barrier)
  leave_keeps block barrier =
      let broken : Finding =
      unmet_shared (sight_of w.heap f)
      (contract_scene f) block.team.variable block.low block.high barrier.shared.each_after in
      waits_keep (all_leave w block barrier.place) (needs_met broken check.BarrierEnsures (Result.Went (all_behind w block)))
      (met_keep broken check.BarrierEnsures (Result.Went (all_behind w block)) refl)

  send_keeps : (b : Partner) (block : ℕ) (position : ℤ) (message : Message) (rest : List Task)
      → Keeps (act_send p w i f below b block position message rest)
  send_keeps Nobody block position message rest = refl
  send_keeps Somebody block position message rest =
      met_keep (unmet (sight_of w.heap f) (contract_scene f) message.formula) check.Send
      (Result.Went (with_message (goes p w i f below (goes_on f rest)) block message.label position)) refl

  receive_keeps : (b : Partner) (block : ℕ) (sender : ℤ) (message : Message) (rest : List Task)
      → Keeps (act_receive p w i f below b block sender message rest)
  receive_keeps Nobody block sender message rest = refl
  receive_keeps Somebody block sender message rest =
      waits_keep ((w.blocks block).sent message.label sender) (Result.Went (goes p w i f below (goes_on f rest))) refl

  member_keeps : (role : Role) (frames : List Frame) (named : Check) (span : Span) (act : ℕ → ℤ → Result)
      → ((block : ℕ) (position : ℤ) → Keeps (act block position))
      → Keeps (as_member p w i f below role frames named span act)
  member_keeps Entry frames named span act h = tt
  member_keeps (RunOf object) frames named span act h = tt
  member_keeps (MemberOf block position) [] named span act h = h block position
  member_keeps (MemberOf block position) (g ∷ gs) named span act h = tt

  -- a step with a message that is declared
  declared_keeps : (message : Message) (span : Span) (act : ℕ → ℤ → Result)
      → ((block : ℕ) (position : ℤ) → Keeps (act block position))
      → Keeps (needs (is_declared message) check.Send span (as_member p w i f below (w.threads i).role below check.Send span act))
  declared_keeps message span act h =
      needs_keep (is_declared message) check.Send span (as_member p w i f below (w.threads i).role below check.Send span act)
      (member_keeps (w.threads i).role below check.Send span act h)

  write_does : (v : Option Value) (location : Location) (count : ℕ) (span : Span) (rest : List Task) → w.heap.value location ≡ v
      → Does (Label.Write location (top f.values)) (write p w i f below v location count span rest)
  write_does None location count span rest e = tt
  write_does (Some v) location count span rest e = record { finds = subst (λ o. IsSome o) (sym e) refl; after = refl }

  array_does : (n : ℤ) (type : PvType) (span : Span) (rest : List Task)
      → Does (Label.NewArray type n) (act_new_array p w i f below n type span rest)
  array_does (negsuc n) type span rest = tt
  array_does (pos n) type span rest = record { finds = tt; after = refl }

  action_does : (action : Action) (class : Name) (object : ℕ) (span : Span) (rest : List Task)
      → Does (label_of_action action object)
      (needs (not_null object) check.Null span (act_on p w i f below action class object span rest))
  action_does action class object span rest =
      go action (needs (not_null object) check.Null span (act_on p w i f below action class object span rest))
      (needs_keep (not_null object) check.Null span (act_on p w i f below action class object span rest)
      (on_keeps action class object span rest))
    where
      go : (action : Action) (r : Result) → Keeps r → Does (label_of_action action object) r
      go Fork r h = kept (Label.Fork object) r refl tt h
      go Join' r h = kept (Label.Join object) r refl tt h
      go Lock r h = kept (Label.Lock object) r refl tt h
      go Unlock r h = kept (Label.Unlock object) r refl tt h
      go Commit r h = kept (Label.Commit object) r refl tt h

  step_does : (mode : Mode) (step : Step) (rest : List Task) (position : ℤ)
      → Does (label_of_step step f.values position) (act_step p w i f below mode step rest)
  step_does mode (AtRead spot span) rest position =
      let location : Location = location_on spot f.values in
      needs_goes (λ v. IsHeapStep p (Some (Label.Read location)) w.heap v.heap) (not_null (owner_of location)) check.Null span
      (read p w i f below (w.heap.value location) spot span rest) (read_does (w.heap.value location) spot span rest refl)
  step_does mode (AtWrite spot span) rest position =
      let location : Location = location_on spot (drop 1 f.values) in
      needs_goes (λ v. IsHeapStep p (Some (Label.Write location (top f.values))) w.heap v.heap)
      (not_null (owner_of location)) check.Null span
      (write p w i f below (w.heap.value location) location (suc (breadth spot)) span rest)
      (write_does (w.heap.value location) location (suc (breadth spot)) span rest refl)
  step_does mode (AtLength type span) rest position =
      length_does (w.heap.length (reference_in (top f.values))) span rest refl
  step_does mode (AtNewObject class) rest position = record { finds = tt; after = refl }
  step_does mode (AtNewArray type span) rest position = array_does (number_in (top f.values)) type span rest
  step_does mode (AtAssert formula) rest position =
      kept Label.Check (act_step p w i f below mode (AtAssert formula) rest) refl tt
      (met_keep (unmet (sight_of w.heap f) (body_scene f) formula) check.Assert
      (Result.Went (goes p w i f below (goes_on f rest))) refl)
  step_does mode (AtFold class predicate count span) rest position =
      let d : Option Predicate = predicate_named p class predicate in
      kept Label.Check (act_step p w i f below mode (AtFold class predicate count span) rest) refl tt
      (needs_keep (not_null (object_under count f.values)) check.Null span
      (act_fold p w i f below d (object_under count f.values) count span rest)
      (fold_keeps d (object_under count f.values) count span rest))
  step_does mode (AtHead named loop) rest position =
      kept Label.Check (act_step p w i f below mode (AtHead named loop) rest) refl tt
      (met_keep (unmet (sight_of w.heap f) (body_scene f) loop.invariant) named
      (Result.Went (goes p w i f below (goes_on f (Evaluate loop.condition ∷ Turn loop ∷ rest)))) refl)
  step_does mode (AtCall class method count span) rest position =
      kept (Label.Call (object_under count f.values)) (act_step p w i f below mode (AtCall class method count span) rest) refl tt
      (call_keeps (method_named p class method) class (object_under count f.values) count span rest)
  step_does mode (AtAction action class span) rest position = action_does action class (reference_in (top f.values)) span rest
  step_does mode (AtOpen team body) rest position =
      kept (Label.Open (number_in (second f.values)) (number_in (top f.values)))
      (act_step p w i f below mode (AtOpen team body) rest) refl tt
      (open_keeps mode team body (number_in (second f.values)) (number_in (top f.values)) rest)
  step_does mode (AtClose block) rest position =
      kept Label.Close (act_step p w i f below mode (AtClose block) rest) refl tt
      (waits_keep (members_ended w (w.blocks block)) (Result.Went (goes p w i f below (goes_on f rest))) refl)
  step_does mode (AtArrive barrier span) rest position =
      kept Label.Arrive (act_step p w i f below mode (AtArrive barrier span) rest) refl tt
      (member_keeps (w.threads i).role below check.BarrierRequires span
      (λ block position. act_arrive p w i f below barrier span rest) (λ block position. arrive_keeps barrier span rest))
  step_does mode (AtLeave barrier span) rest position =
      kept Label.Leave (act_step p w i f below mode (AtLeave barrier span) rest) refl tt
      (member_keeps (w.threads i).role below check.BarrierEnsures span
      (λ block position. act_leave p w i f below (w.blocks block) barrier)
      (λ block position. leave_keeps (w.blocks block) barrier))
  step_does mode (AtSend message span) rest position =
      kept (Label.Send position) (act_step p w i f below mode (AtSend message span) rest) refl tt
      (declared_keeps message span
      (λ block position. act_send p w i f below (receiver_of (w.blocks block) position message) block position message rest)
      (λ block position. send_keeps (receiver_of (w.blocks block) position message) block position message rest))
  step_does mode (AtReceive message span) rest position =
      kept (Label.Receive position) (act_step p w i f below mode (AtReceive message span) rest) refl tt
      (declared_keeps message span
      (λ block position. act_receive p w i f below (sender_of (w.blocks block) position message) block
      (position -ℤ pos message.distance) message rest)
      (λ block position. receive_keeps (sender_of (w.blocks block) position message) block
      (position -ℤ pos message.distance) message rest))

  ended_keeps : (role : Role) → (ended p w i f below role).heap ≡ w.heap
  ended_keeps Entry = refl
  ended_keeps (RunOf object) = refl
  ended_keeps (MemberOf block position) = refl

  returned_keeps : (others : List Frame) → (returned p w i f below others).heap ≡ w.heap
  returned_keeps [] = ended_keeps (w.threads i).role
  returned_keeps (g ∷ others) = refl

  return_does : (others : List Frame)
      → Does Label.Return (needs_met (unmet (sight_of w.heap f) (contract_scene f) f.method.contract.after) check.Ensures
      (Result.Went (returned p w i f below others)))
  return_does others =
      let broken : Finding = unmet (sight_of w.heap f) (contract_scene f) f.method.contract.after in
      let r : Result = Result.Went (returned p w i f below others) in
      kept Label.Return (needs_met broken check.Ensures r) refl tt (met_keep broken check.Ensures r (returned_keeps others))

  end_does : (role : Role) (others : List Frame) → Does (label_of_end role others) (act_end p w i f below role others)
  end_does Entry others = return_does others
  end_does (RunOf object) others = return_does others
  end_does (MemberOf block position) [] =
      let broken : Finding = unmet (sight_of w.heap f) (contract_scene f) (w.blocks block).team.shared.one.after in
      let r : Result = Result.Went (with_frames w i []) in
      kept Label.End (needs_met broken check.BlockEnsures r) refl tt (met_keep broken check.BlockEnsures r refl)
  end_does (MemberOf block position) (g ∷ others) = return_does (g ∷ others)

  tasks_do : (mode : Mode) (ts : List Task)
      → WhereItGoes (λ v. IsHeapStep p (label_of_frame (w.threads i).role f ts below) w.heap v.heap)
      (act_tasks p w i f below mode ts)
  tasks_do mode [] = end_does (w.threads i).role below
  tasks_do mode (Stand step ∷ ts) = step_does mode step ts (position_of (w.threads i).role)
  tasks_do mode (Evaluate e ∷ ts) = tt
  tasks_do mode (EvaluateAll es ∷ ts) = tt
  tasks_do mode (Combine combination ∷ ts) = tt
  tasks_do mode (Choose a b ∷ ts) = tt
  tasks_do mode (Branch a b ∷ ts) = tt
  tasks_do mode (Turn loop ∷ ts) = tt
  tasks_do mode (Put name ∷ ts) = tt
  tasks_do mode (Drop ∷ ts) = tt
  tasks_do mode (Give ∷ ts) = tt
  tasks_do mode (Unfolded class predicate count span ∷ ts) = tt
  tasks_do mode (Run b ∷ ts) = tt
  tasks_do mode (Resume class method object arguments ∷ ts) = tt

frames_do : (p : Program) (w : World) (mode : Mode) (i : ℕ) (fs : List Frame)
    → WhereItGoes (λ v. IsHeapStep p (label_of_frames (w.threads i).role fs) w.heap v.heap) (act_frames p w mode i fs)
frames_do p w mode i [] = tt
frames_do p w mode i (f ∷ below) =
    waits_goes (λ v. IsHeapStep p (label_of_frames (w.threads i).role (f ∷ below)) w.heap v.heap) (not (is_held_back w i))
    (act_tasks p w i f below mode f.tasks)
    (tasks_do p w i f below mode f.tasks)

-- a step that goes does to the heap what its label says
pub act-does : (p : Program) (w v : World) (mode : Mode) (i : ℕ) → act p w mode i ≡ Result.Went v
    → IsHeapStep p (next (w.threads i)) w.heap v.heap
act-does p w v mode i e = subst (λ r. WhereItGoes (λ u. IsHeapStep p (next (w.threads i)) w.heap u.heap) r) e
    (frames_do p w mode i (w.threads i).frames)
