-- What local work and steps keep of frames holds of each frame in a reached world.
use Rattle.std.proofs.Common.{◌≡◌, refl, sym, ◌∙◌, ap, subst, ℕ, suc, ℤ, pos, negsuc, ◌<◌, Bool, true, false, Option, Some, None, List, [], ◌∷◌, arith, inl, inr}
use Rattle.std.proofs.lemmas.Bool.{and_parts, eq-eqb, ne_eqb, leb-true, ltb-true}
use Rattle.std.specs.Prelude.{◌&&◌, not, is_none, drop, nat_eq, nat_le, nat_lt, ◌+◌, ◌-◌, ◌+ℤ◌, ◌-ℤ◌, if◌then◌else◌}
use Rattle.pv_base.specs.declared.Name.{Name}
use Rattle.pv_base.specs.declared.Span.{Span}
use Rattle.pv_ast.specs.declared.PvType.{PvType}
use Rattle.pv_values.specs.declared.value.Value.{Value}
use Rattle.pv_values.specs.declared.value.Value.TheVariants as value
use Rattle.pv_values.specs.declared.value.Location.{Location}
use Rattle.pv_values.specs.Changes.{owner_of}
use Rattle.pv_picks.specs.declared.check.Check.{Check}
use Rattle.pv_picks.specs.declared.check.Check.TheVariants as check
use Rattle.pv_picks.specs.Plain.Core.{Formula, Action, Fork, Join', Lock, Unlock, Commit, Message, Barrier, Team, Block, Predicate, Method, Program}
use Rattle.pv_picks.specs.Plain.Members.{predicate_named, method_named, run_of, invariant_of}
use Rattle.pv_picks.specs.Formulas.Values.{number_in, reference_in, width, with_arguments, no_variables, at_position}
use Rattle.pv_picks.specs.Formulas.Heaps.{Heap, heap_of, at_number}
use Rattle.pv_picks.specs.Formulas.Meeting.{Finding, unmet, unmet_shared}
use Rattle.pv_picks.specs.Machine.Tasks.{Spot, Loop, Step, AtRead, AtWrite, AtLength, AtNewObject, AtNewArray, AtAssert, AtFold, AtHead, AtCall, AtAction, AtOpen, AtClose, AtArrive, AtLeave, AtSend, AtReceive, Task, Evaluate, EvaluateAll, Combine, Choose, Branch, Turn, Put, Drop, Give, Unfolded, Run, Stand, Resume}
use Rattle.pv_picks.specs.Machine.Frames.{Frame, top, second, topmost, location_on, object_under, breadth, goes_on, pops, pushes, worked, settled, entered, kept, no_value, sight_of, body_scene, contract_scene}
use Rattle.pv_picks.specs.Machine.Worlds.{member_count, Role, Entry, RunOf, MemberOf, Thread, Mode, Free, OpenBlock, ThreadState, World, is_member, members_ended, with_frames, with_holder, with_committed_object, with_message, with_members, member_of, member_thread, is_held_back}
use Rattle.pv_picks.specs.Machine.Steps.{Result, Partner, Somebody, Nobody, is_declared, receiver_of, sender_of, tasks_leave, frames_leave, frames_behind, not_null, is_met_on, called, forked, keeps_invariant, is_own, act_new_object, act_arrive, act_leave, all_leave, all_behind, ended, needs, needs_met, waits_unless, goes, read, write, act_length, act_new_array, act_fold, act_call, act_fork, act_join, act_lock, act_unlock, act_commit, act_on, act_send, act_receive, as_member, act_step, act_end, returned, act_tasks, act_frames, act}
use Rattle.pv_picks.specs.Machine.Starts.{Start, IsStart, frame_of_start, no_thread, first_world}
use Rattle.pv_picks.specs.Machine.Safety.{Event, IsReached, world_after, happens, run_events}
use Rattle.machine_laws.specs.Growth.{Grows, LeadsOn}
use Rattle.machine_laws.specs.HeapSteps.{WhereItGoes}
use Rattle.machine_laws.proofs.HeapSteps.{needs_goes, met_goes, waits_goes}
use Rattle.machine_laws.specs.Standing.{await, all_await, is_standing, AreStanding}
use Rattle.machine_laws.proofs.Work.{settled-keeps}
use Rattle.machine_laws.proofs.Standing.{stands-free, awaits-two}
use Rattle.machine_laws.proofs.Leads.{act-leads}
use Rattle.machine_laws.proofs.Ordered.{each_from-true}
use Rattle.machine_laws.proofs.Stands.{run_events-stand, reached-standing}
use Rattle.core_names.specs.Stacks.{taken_by, leaves_one}
use Rattle.core_names.specs.Carrying.{IsDeclared, Opening, Membership, membership_of, own_over, AllFrames, OfThread, InWorld}

-- a call before its first work, and a member before its
abbrev pub at_entry : Heap → Name → Method → ℕ → List Value → Frame
at_entry heap class m object arguments = record {
  class = class;
  method = m;
  this = object;
  begun = with_arguments no_variables m.parameters arguments;
  variables = with_arguments no_variables m.parameters arguments;
  values = [];
  tasks = Run m.body ∷ [];
  result = no_value;
  old = kept m heap;
}

abbrev pub as_opened : Frame → Team → Block → ℤ → Frame
as_opened opener team body position = record opener {
  begun = at_position opener.variables team.variable position;
  variables = at_position opener.variables team.variable position;
  values = [];
  tasks = Run body ∷ [];
}

-- what a frame opens a block with, and what the members join
abbrev pub opens_with : Frame → Opening
opens_with opener = record { method = opener.method; variables = opener.variables }

abbrev pub joins : Frame → Team → ℤ → Membership
joins opener team position = record { team = team; opening = opens_with opener; position = position }

-- the values before and after
abbrev pub AreLeft : ℕ → Bool → List Value → List Value → Type 0
AreLeft count false before after = after ≡ drop count before
AreLeft count true before after = (v : Value) × (after ≡ v ∷ drop count before)

-- a property of frames, with the membership of a member's own, that local work and each step keep
pub record IsCarried (p : Program) (Good : Option Membership → Frame → Type 0) : Type 0 where
  pub work : (member : Option Membership) (f : Frame) → Good member f → Good member (worked f f.tasks)
  -- behind a step, with the values that it leaves
  pub behind : (member : Option Membership) (f : Frame) (step : Step) (rest : List Task) (values : List Value)
      → f.tasks ≡ Stand step ∷ rest → AreLeft (taken_by step) (leaves_one step) f.values values
      → Good member f → Good member (record f { values = values; tasks = rest })
  -- at the head of a loop
  pub turns : (member : Option Membership) (f : Frame) (named : Check) (loop : Loop) (rest : List Task)
      → f.tasks ≡ Stand (AtHead named loop) ∷ rest
      → Good member f → Good member (goes_on f (Evaluate loop.condition ∷ Turn loop ∷ rest))
  -- where a call was made, and where it has returned
  pub calls : (member : Option Membership) (f : Frame) (class name : Name) (count : ℕ) (span : Span) (rest : List Task)
      (m : Method) (object : ℕ) (arguments : List Value) → f.tasks ≡ Stand (AtCall class name count span) ∷ rest
      → Good member f → Good member (pops (suc count) f (Resume class m object arguments ∷ rest))
  pub returns : (member : Option Membership) (f : Frame) (class : Name) (m : Method) (object : ℕ) (arguments : List Value)
      (rest : List Task) (v : Value) → f.tasks ≡ Resume class m object arguments ∷ rest → Good member f
      → Good member (pushes v f rest)
  pub enters : (heap : Heap) (class : Name) (m : Method) (object : ℕ) (arguments : List Value) → IsDeclared p class m
      → Good None (at_entry heap class m object arguments)
  -- where a block was opened, and in each member
  pub closes : (member : Option Membership) (f : Frame) (inner : Team) (body : Block) (rest : List Task) (number : ℕ)
      → f.tasks ≡ Stand (AtOpen inner body) ∷ rest → Good member f → Good member (pops 2 f (Stand (AtClose number) ∷ rest))
  pub opens : (member : Option Membership) (f : Frame) (inner : Team) (body : Block) (rest : List Task) (position : ℤ)
      → f.tasks ≡ Stand (AtOpen inner body) ∷ rest → Good member f → Good (Some (joins f inner position))
      (as_opened f inner body position)
  -- at a barrier
  pub arrives : (member : Option Membership) (f : Frame) (barrier : Barrier) (span : Span) (rest : List Task)
      → f.tasks ≡ Stand (AtArrive barrier span) ∷ rest
      → Good member f → Good member (goes_on f (Stand (AtLeave barrier span) ∷ rest))

-- what the innermost frame opens a block with
abbrev opening_of : Opening → List Frame → Opening
opening_of before [] = before
opening_of before (f ∷ below) = opens_with f

-- Barriers

abbrev IsLeaving : List Task → Type 0
IsLeaving ts = (barrier : Barrier) × (span : Span) × (rest : List Task) × (ts ≡ Stand (AtLeave barrier span) ∷ rest)

leaving : (place : List ℕ) (ts : List Task) → tasks_leave place ts ≡ true → IsLeaving ts
leaving place (Stand (AtLeave barrier span) ∷ rest) h = (barrier, span, rest, refl)
leaving place _ h = absurd cc

module _ (p : Program) (Good : Option Membership → Frame → Type 0) (carried : IsCarried p Good) where
  settled_good : (member : Option Membership) (f : Frame) → Good member f → Good member (settled f)
  settled_good member f h = settled-keeps (Good member) (carried.work member) f h

  entered_good : (heap : Heap) (class : Name) (m : Method) (object : ℕ) (arguments : List Value) → IsDeclared p class m
      → Good None (entered heap class m object arguments)
  entered_good heap class m object arguments declared =
      settled_good None (at_entry heap class m object arguments) (carried.enters heap class m object arguments declared)

  -- behind the barrier that a frame leaves
  dropped_good : (member : Option Membership) (f : Frame) → IsLeaving f.tasks → Good member f
      → Good member (goes_on f (drop 1 f.tasks))
  dropped_good member f leaving h =
      subst (λ ts. Good member (goes_on f (drop 1 ts))) (sym leaving.3)
      (carried.behind member f (AtLeave leaving.0 leaving.1) leaving.2 f.values leaving.3 refl h)

  resumed_good : (member : Option Membership) (f : Frame) (ts : List Task) (v : Value) → f.tasks ≡ ts → await ts ≡ true
      → Good member f
      → Good member (pushes v f (drop 1 ts))
  resumed_good member f [] v is h good = absurd cc
  resumed_good member f (Resume class m object arguments ∷ rest) v is h good =
      carried.returns member f class m object arguments rest v is good
  resumed_good member f (Stand step ∷ rest) v is h good = absurd cc
  resumed_good member f (Evaluate e ∷ rest) v is h good = absurd cc
  resumed_good member f (EvaluateAll es ∷ rest) v is h good = absurd cc
  resumed_good member f (Combine combination ∷ rest) v is h good = absurd cc
  resumed_good member f (Choose a b ∷ rest) v is h good = absurd cc
  resumed_good member f (Branch a b ∷ rest) v is h good = absurd cc
  resumed_good member f (Turn loop ∷ rest) v is h good = absurd cc
  resumed_good member f (Put name ∷ rest) v is h good = absurd cc
  resumed_good member f (Drop ∷ rest) v is h good = absurd cc
  resumed_good member f (Give ∷ rest) v is h good = absurd cc
  resumed_good member f (Unfolded class name count span ∷ rest) v is h good = absurd cc
  resumed_good member f (Run b ∷ rest) v is h good = absurd cc

  behind_good : (place : List ℕ) (member : Option Membership) (frames : List Frame) → frames_leave place frames ≡ true
      → AllFrames Good member frames → AllFrames Good member (frames_behind frames)
  behind_good place member [] h good = absurd cc
  behind_good place member (f ∷ below) h good = (
    settled_good (own_over member below) (goes_on f (drop 1 f.tasks))
        (dropped_good (own_over member below) f (leaving place f.tasks h) good.0),
    good.1,
  )

  -- The team of each block, what it was opened with, and how many there are, of a world to which a step leads
  module _ (teams : ℕ → Team) (openings : ℕ → Opening) (count : ℕ) where
    abbrev IsNumbered : Role → Type 0
    IsNumbered Entry = Unit {0}
    IsNumbered (RunOf object) = Unit {0}
    IsNumbered (MemberOf number position) = number < count

    abbrev IsGood : Thread → Type 0
    IsGood t = IsNumbered t.role × OfThread Good teams openings t

    abbrev AreGood : (ℕ → Thread) → Type 0
    AreGood threads = (j : ℕ) → IsGood (threads j)

    chosen_good : (b : Bool) (t u : Thread) → IsGood t → IsGood u → IsGood (if b then t else u)
    chosen_good true t u h k = h
    chosen_good false t u h k = k

    put_good : (n : ℕ) (t : Thread) (threads : ℕ → Thread) → IsGood t → AreGood threads → AreGood (at_number n t threads)
    put_good n t threads h all j = chosen_good (nat_eq j n) t (threads j) h (all j)

    frames_good : (w : World) (i : ℕ) (frames : List Frame) → AreGood w.threads
        → AllFrames Good (membership_of teams openings (w.threads i).role) frames
        → AreGood (with_frames w i frames).threads
    frames_good w i frames all h = put_good i (record { role = (w.threads i).role; frames = frames }) w.threads ((all i).0, h) all

    -- where a block is opened, it gets the next number
    abbrev IsNext : Opening → World → World → Type 0
    IsNext opening w v =
        (v.block_count ≡ count) × ((v.blocks w.block_count).team ≡ teams w.block_count) × (openings w.block_count ≡ opening)

    abbrev LeadsTo : Opening → World → World → Type 0
    LeadsTo opening w v = IsNext opening w v → AreGood v.threads

    all_behind_good : (w : World) (block : OpenBlock) (place : List ℕ) → all_leave w block place ≡ true → AreGood w.threads
        → AreGood (all_behind w block).threads
    all_behind_good w block place leave all j = by (is_member block j) refl
      where
        by : (b : Bool) → is_member block j ≡ b
            → IsGood (if b then record (w.threads j) { frames = frames_behind (w.threads j).frames } else w.threads j)
        by true is =
            let two = and_parts (nat_le block.first j) (nat_lt j (block.first + member_count block)) is in
            let stands : frames_leave place (w.threads j).frames ≡ true =
            each_from-true (λ j. frames_leave place (w.threads j).frames) block.first (member_count block) leave j
            (leb-true block.first j two.0) (ltb-true j (block.first + member_count block) two.1) in
            ((all j).0, behind_good place (membership_of teams openings (w.threads j).role) (w.threads j).frames stands (all j).1)
        by false is = all j

    module _ (w : World) (i : ℕ) (f : Frame) (below : List Frame) (stand : AreStanding w) (ok : all_await below ≡ true)
        (all : AreGood w.threads)
        (own : Good (own_over (membership_of teams openings (w.threads i).role) below) f)
        (others : AllFrames Good (membership_of teams openings (w.threads i).role) below) where
      abbrev role : Role
      role = (w.threads i).role

      abbrev member : Option Membership
      member = own_over (membership_of teams openings role) below

      abbrev On : Result → Type 0
      On r = WhereItGoes (LeadsTo (opens_with f) w) r

      -- the frame behind its step, with the values that are left
      abbrev Behind : ℕ → Bool → List Task → Type 0
      Behind count one rest = (values : List Value) → AreLeft count one f.values values
          → Good member (record f { values = values; tasks = rest })

      go : (g : Frame) → Good member g → AreGood (goes p w i f below g).threads
      go g h = frames_good w i (settled g ∷ below) all (settled_good member g h, others)

      need : (b : Bool) (named : Check) (span : Span) (r : Result) → On r → On (needs b named span r)
      need b named span r h = needs_goes (LeadsTo (opens_with f) w) b named span r h

      wait : (b : Bool) (r : Result) → On r → On (waits_unless b r)
      wait b r h = waits_goes (LeadsTo (opens_with f) w) b r h

      wait_if : (b : Bool) (r : Result) → (b ≡ true → On r) → On (waits_unless b r)
      wait_if true r h = h refl
      wait_if false r h = tt

      read_good : (v : Option Value) (spot : Spot) (span : Span) (rest : List Task) → Behind (breadth spot) true rest
          → On (read p w i f below v spot span rest)
      read_good None spot span rest b = tt
      read_good (Some v) spot span rest b = λ new. go (record f { values = v ∷ drop (breadth spot) f.values; tasks = rest })
          (b (v ∷ drop (breadth spot) f.values) (v, refl))

      write_good : (v : Option Value) (location : Location) (n : ℕ) (span : Span) (rest : List Task) → Behind n false rest
          → On (write p w i f below v location n span rest)
      write_good None location n span rest b = tt
      write_good (Some v) location n span rest b = λ new. go (pops n f rest) (b (drop n f.values) refl)

      length_good : (n : Option ℤ) (span : Span) (rest : List Task) → Behind 1 true rest
          → On (act_length p w i f below n span rest)
      length_good None span rest b = tt
      length_good (Some n) span rest b = λ new. go (record f { values = value.Number n ∷ drop 1 f.values; tasks = rest })
          (b (value.Number n ∷ drop 1 f.values) (value.Number n, refl))

      object_good : (class : Name) (rest : List Task) → Behind 0 true rest → On (act_new_object p w i f below class rest)
      object_good class rest b = λ new. go (pushes (value.Reference (suc w.heap.count)) f rest)
          (b (value.Reference (suc w.heap.count) ∷ f.values) (value.Reference (suc w.heap.count), refl))

      array_good : (n : ℤ) (type : PvType) (span : Span) (rest : List Task) → Behind 1 true rest
          → On (act_new_array p w i f below n type span rest)
      array_good (negsuc n) type span rest b = tt
      array_good (pos n) type span rest b = λ new.
          go (pushes (value.Reference (suc w.heap.count)) (pops 1 f rest) rest)
          (b (value.Reference (suc w.heap.count) ∷ drop 1 f.values) (value.Reference (suc w.heap.count), refl))

      fold_good : (d : Option Predicate) (object n : ℕ) (span : Span) (rest : List Task) → Behind (suc n) false rest
          → On (act_fold p w i f below d object n span rest)
      fold_good None object n span rest b = tt
      fold_good (Some d) object n span rest b =
          need (is_met_on w.heap object d.parameters (topmost n f.values) d.body) check.Fold span _
          (λ new. go (pops (suc n) f rest) (b (drop (suc n) f.values) refl))

      called_good : (m : Method) (class : Name) (object n : ℕ) (rest : List Task) → IsDeclared p class m
          → Good member (pops (suc n) f (Resume class m object (topmost n f.values) ∷ rest)) → AreGood
          (called p w i f below m class object n rest).threads
      called_good m class object n rest declared b =
          frames_good w i (entered w.heap class m object (topmost n f.values) ∷ pops (suc n) f
          (Resume class m object (topmost n f.values) ∷ rest) ∷ below) all
          (entered_good w.heap class m object (topmost n f.values) declared, (b, others))

      call_good : (o : Option Method) (class : Name) (object n : ℕ) (span : Span) (rest : List Task)
          → ((m : Method) → o ≡ Some m → IsDeclared p class m)
          → ((m : Method) → Good member (pops (suc n) f (Resume class m object (topmost n f.values) ∷ rest))) → On
          (act_call p w i f below o class object n span rest)
      call_good None class object n span rest declared b = tt
      call_good (Some m) class object n span rest declared b =
          let met : Bool = is_met_on w.heap object m.parameters (topmost n f.values) m.contract.before in
          let r : Result = Result.Went (called p w i f below m class object n rest) in
          need (not_null object) check.Null span (needs met check.Requires span r) (need met check.Requires span r (λ new.
          called_good m class object n rest (declared m refl) (b m)))

      forked_good : (m : Method) (class : Name) (object : ℕ) (rest : List Task) → IsDeclared p class m → Behind 1 false rest
          → AreGood (forked p w i f below m class object rest).threads
      forked_good m class object rest declared b =
          let v : World = goes p w i f below (pops 1 f rest) in
          put_good v.count (record { role = RunOf object; frames = entered w.heap class m object [] ∷ [] }) v.threads
          (tt, (entered_good w.heap class m object [] declared, tt)) (go (pops 1 f rest) (b (drop 1 f.values) refl))

      fork_good : (s : ThreadState) (o : Option Method) (class : Name) (object : ℕ) (span : Span) (rest : List Task)
          → ((m : Method) → o ≡ Some m → IsDeclared p class m) → Behind 1 false rest → On
          (act_fork p w i f below s o class object span rest)
      fork_good ThreadState.Idle None class object span rest declared b = tt
      fork_good (ThreadState.Running j) None class object span rest declared b = tt
      fork_good ThreadState.Ended None class object span rest declared b = tt
      fork_good ThreadState.Idle (Some m) class object span rest declared b =
          need (is_met_on w.heap object m.parameters [] m.contract.before) check.ForkRequires span _
          (λ new. forked_good m class object rest (declared m refl) b)
      fork_good (ThreadState.Running j) (Some m) class object span rest declared b = tt
      fork_good ThreadState.Ended (Some m) class object span rest declared b = tt

      join_good : (s : ThreadState) (object : ℕ) (span : Span) (rest : List Task) → Behind 1 false rest
          → On (act_join p w i f below s object span rest)
      join_good ThreadState.Idle object span rest b = tt
      join_good (ThreadState.Running j) object span rest b = tt
      join_good ThreadState.Ended object span rest b = λ new. go (pops 1 f rest) (b (drop 1 f.values) refl)

      invariant_good : (invariant : Formula) (object : ℕ) (span : Span) (v : World) → LeadsTo (opens_with f) w v
          → On (keeps_invariant p w i f below invariant object span v)
      invariant_good invariant object span v h = need (is_met_on w.heap object [] [] invariant) check.LockInvariant span
          (Result.Went v) h

      lock_good : (o : Option Formula) (object : ℕ) (span : Span) (rest : List Task) → Behind 1 false rest
          → On (act_lock p w i f below o object span rest)
      lock_good None object span rest b = tt
      lock_good (Some invariant) object span rest b =
          let v : World = with_holder (goes p w i f below (pops 1 f rest)) object (Some i) in
          let r : Result = keeps_invariant p w i f below invariant object span v in
          wait (is_none (w.holder object)) (needs (w.committed object) check.NotCommitted span r)
          (need (w.committed object) check.NotCommitted span r
          (invariant_good invariant object span v (λ new. go (pops 1 f rest) (b (drop 1 f.values) refl))))

      unlock_good : (o : Option Formula) (object : ℕ) (span : Span) (rest : List Task) → Behind 1 false rest
          → On (act_unlock p w i f below o object span rest)
      unlock_good None object span rest b = tt
      unlock_good (Some invariant) object span rest b =
          let v : World = with_holder (goes p w i f below (pops 1 f rest)) object None in
          need (is_own p w i f below (w.holder object)) check.NotHeld span (keeps_invariant p w i f below invariant object span v)
          (invariant_good invariant object span v (λ new. go (pops 1 f rest) (b (drop 1 f.values) refl)))

      commit_good : (o : Option Formula) (object : ℕ) (span : Span) (rest : List Task) → Behind 1 false rest
          → On (act_commit p w i f below o object span rest)
      commit_good None object span rest b = tt
      commit_good (Some invariant) object span rest b =
          let v : World = with_committed_object (goes p w i f below (pops 1 f rest)) object in
          need (not (w.committed object)) check.NotUncommitted span (keeps_invariant p w i f below invariant object span v)
          (invariant_good invariant object span v (λ new. go (pops 1 f rest) (b (drop 1 f.values) refl)))

      on_good : (action : Action) (class : Name) (object : ℕ) (span : Span) (rest : List Task) → Behind 1 false rest
          → On (act_on p w i f below action class object span rest)
      on_good Fork class object span rest b = fork_good (w.state object) (run_of p class) class object span rest
          (λ m is. inr is) b
      on_good Join' class object span rest b = join_good (w.state object) object span rest b
      on_good Lock class object span rest b = lock_good (invariant_of p class) object span rest b
      on_good Unlock class object span rest b = unlock_good (invariant_of p class) object span rest b
      on_good Commit class object span rest b = commit_good (invariant_of p class) object span rest b

      met : (u : Finding) (named : Check) (r : Result) → On r → On (needs_met u named r)
      met u named r h = met_goes (LeadsTo (opens_with f) w) u named r h

      send_good : (b : Partner) (block : ℕ) (position : ℤ) (message : Message) (rest : List Task) → Behind 0 false rest
          → On (act_send p w i f below b block position message rest)
      send_good Nobody block position message rest b = λ new. go (goes_on f rest) (b f.values refl)
      send_good Somebody block position message rest b =
          met (unmet (sight_of w.heap f) (contract_scene f) message.formula) check.Send
          (Result.Went (with_message (goes p w i f below (goes_on f rest)) block message.label position))
          (λ new. go (goes_on f rest) (b f.values refl))

      receive_good : (b : Partner) (block : ℕ) (sender : ℤ) (message : Message) (rest : List Task) → Behind 0 false rest
          → On (act_receive p w i f below b block sender message rest)
      receive_good Nobody block sender message rest b = λ new. go (goes_on f rest) (b f.values refl)
      receive_good Somebody block sender message rest b =
          wait ((w.blocks block).sent message.label sender) (Result.Went (goes p w i f below (goes_on f rest)))
          (λ new. go (goes_on f rest) (b f.values refl))

      member_good : (r : Role) (frames : List Frame) (named : Check) (span : Span) (act : ℕ → ℤ → Result)
          → ((block : ℕ) (position : ℤ) → On (act block position))
          → On (as_member p w i f below r frames named span act)
      member_good Entry frames named span act h = tt
      member_good (RunOf object) frames named span act h = tt
      member_good (MemberOf block position) [] named span act h = h block position
      member_good (MemberOf block position) (g ∷ gs) named span act h = tt

      -- the block that is opened
      abbrev opened : World → Team → Mode → ℤ → ℤ → OpenBlock
      opened v inner mode low high = record {
        opener = i;
        low = low;
        high = high;
        mode = mode;
        first = v.count;
        team = inner;
        sent = λ label sender. false;
      }

      joined : (t : Team) (opening : Opening) (inner : Team) (body : Block) (position : ℤ) → t ≡ inner
          → opening ≡ opens_with f
          → Good (Some (joins f inner position)) (as_opened f inner body position)
          → Good (Some (record { team = t; opening = opening; position = position })) (member_of f inner body position)
      joined t opening inner body position at from h =
          subst (λ t. Good (Some (record { team = t; opening = opening; position = position }))
          (member_of f inner body position)) (sym at)
          (subst (λ o. Good (Some (record { team = inner; opening = o; position = position })) (member_of f inner body position))
          (sym from)
          (settled_good (Some (joins f inner position)) (as_opened f inner body position) h))

      -- a block is opened: its members are in it
      opened_good : (v : World) (inner : Team) (body : Block) (mode : Mode) (low high : ℤ) → v.block_count ≡ w.block_count
          → ((position : ℤ) → Good (Some (joins f inner position)) (as_opened f inner body position)) → AreGood v.threads
          → IsNext (opens_with f) w (with_members v i f inner body mode low high) → AreGood
          (with_members v i f inner body mode low high).threads
      opened_good v inner body mode low high same h good new j =
          let number : v.block_count < count = omega (arith, new.0) in
          let numbers : w.block_count ≡ v.block_count = sym same in
          let self : nat_eq w.block_count v.block_count ≡ true = eq-eqb w.block_count v.block_count numbers in
          let at : teams v.block_count ≡ inner =
          ap teams same ∙ (sym new.1 ∙ ap (λ b.
          (if b then opened v inner mode low high else v.blocks w.block_count).team) self) in
          let from : openings v.block_count ≡ opens_with f = ap openings same ∙ new.2 in
          let position : ℤ = low +ℤ pos (j - v.count) in
          chosen_good (nat_le v.count j && nat_lt j (v.count + width low high)) (member_thread v f inner body low j) (v.threads j)
          (number, (joined (teams v.block_count) (openings v.block_count) inner body position at from (h position), tt)) (good j)

      step_good : (mode : Mode) (step : Step) (rest : List Task) → f.tasks ≡ Stand step ∷ rest
          → Behind (taken_by step) (leaves_one step) rest
          → On (act_step p w i f below mode step rest)
      step_good mode (AtRead spot span) rest is b =
          need (not_null (owner_of (location_on spot f.values))) check.Null span
          (read p w i f below (w.heap.value (location_on spot f.values)) spot span rest)
          (read_good (w.heap.value (location_on spot f.values)) spot span rest b)
      step_good mode (AtWrite spot span) rest is b =
          let location : Location = location_on spot (drop 1 f.values) in
          need (not_null (owner_of location)) check.Null span
          (write p w i f below (w.heap.value location) location (suc (breadth spot)) span rest)
          (write_good (w.heap.value location) location (suc (breadth spot)) span rest b)
      step_good mode (AtLength type span) rest is b = length_good (w.heap.length (reference_in (top f.values))) span rest b
      step_good mode (AtNewObject class) rest is b = object_good class rest b
      step_good mode (AtNewArray type span) rest is b = array_good (number_in (top f.values)) type span rest b
      step_good mode (AtAssert formula) rest is b =
          met (unmet (sight_of w.heap f) (body_scene f) formula) check.Assert (Result.Went (goes p w i f below (goes_on f rest)))
          (λ new. go (goes_on f rest) (b f.values refl))
      step_good mode (AtFold class name n span) rest is b =
          need (not_null (object_under n f.values)) check.Null span
          (act_fold p w i f below (predicate_named p class name) (object_under n f.values) n span rest)
          (fold_good (predicate_named p class name) (object_under n f.values) n span rest b)
      step_good mode (AtHead named loop) rest is b =
          let g : Frame = goes_on f (Evaluate loop.condition ∷ Turn loop ∷ rest) in
          met (unmet (sight_of w.heap f) (body_scene f) loop.invariant) named (Result.Went (goes p w i f below g))
          (λ new. go g (carried.turns member f named loop rest is own))
      step_good mode (AtCall class name n span) rest is b =
          call_good (method_named p class name) class (object_under n f.values) n span rest (λ m found. inl (name, found))
          (λ m. carried.calls member f class name n span rest m (object_under n f.values) (topmost n f.values) is own)
      step_good mode (AtAction action class span) rest is b =
          let object : ℕ = reference_in (top f.values) in
          need (not_null object) check.Null span (act_on p w i f below action class object span rest)
          (on_good action class object span rest b)
      step_good mode (AtOpen inner body) rest is b =
          let low : ℤ = number_in (second f.values) in
          let high : ℤ = number_in (top f.values) in
          let g : Frame = pops 2 f (Stand (AtClose w.block_count) ∷ rest) in
          let m : Mode = if inner.counted then mode else Free in
          met (unmet_shared (sight_of w.heap f)
          (body_scene f) inner.variable low high inner.shared.each_before) check.BlockRequires
          (Result.Went (with_members (goes p w i f below g) i f inner body m low high))
          (λ new. opened_good (goes p w i f below g) inner body m low high refl
          (λ position. carried.opens member f inner body rest position is own)
          (go g (carried.closes member f inner body rest w.block_count is own)) new)
      step_good mode (AtClose block) rest is b =
          wait (members_ended w (w.blocks block)) (Result.Went (goes p w i f below (goes_on f rest)))
          (λ new. go (goes_on f rest) (b f.values refl))
      step_good mode (AtArrive barrier span) rest is b = member_good role below check.BarrierRequires span
          (λ block position. act_arrive p w i f below barrier span rest) (λ block position.
          let g : Frame = goes_on f (Stand (AtLeave barrier span) ∷ rest) in
          met (unmet (sight_of w.heap f) (contract_scene f) barrier.shared.one.before) check.BarrierRequires
          (Result.Went (goes p w i f below g))
          (λ new. go g (carried.arrives member f barrier span rest is own)))
      step_good mode (AtLeave barrier span) rest is b =
          member_good role below check.BarrierEnsures span (λ block position. act_leave p w i f below (w.blocks block) barrier)
          (λ block position. leave (w.blocks block))
        where
          leave : (block : OpenBlock) → On (act_leave p w i f below block barrier)
          leave block =
              let broken = unmet_shared (sight_of w.heap f) (contract_scene f) block.team.variable block.low block.high
              barrier.shared.each_after in
              wait_if (all_leave w block barrier.place) (needs_met broken check.BarrierEnsures (Result.Went (all_behind w block)))
              (λ leave. met broken check.BarrierEnsures (Result.Went (all_behind w block))
              (λ new. all_behind_good w block barrier.place leave all))
      step_good mode (AtSend message span) rest is b =
          need (is_declared message) check.Send span
          (as_member p w i f below role below check.Send span (λ block position.
          act_send p w i f below (receiver_of (w.blocks block) position message) block position message rest))
          (member_good role below check.Send span
          (λ block position. act_send p w i f below (receiver_of (w.blocks block) position message) block position message rest)
          (λ block position. send_good (receiver_of (w.blocks block) position message) block position message rest b))
      step_good mode (AtReceive message span) rest is b =
          need (is_declared message) check.Send span
          (as_member p w i f below role below check.Send span (λ block position.
          act_receive p w i f below (sender_of (w.blocks block) position message) block
          (position -ℤ pos message.distance) message rest))
          (member_good role below check.Send span
          (λ block position. act_receive p w i f below (sender_of (w.blocks block) position message) block
          (position -ℤ pos message.distance) message rest)
          (λ block position. receive_good (sender_of (w.blocks block) position message) block
          (position -ℤ pos message.distance) message rest b))

      ended_good : (r : Role) → AreGood (ended p w i f below r).threads
      ended_good Entry = frames_good w i [] all tt
      ended_good (RunOf object) = frames_good w i [] all tt
      ended_good (MemberOf block position) = frames_good w i [] all tt

      returned_good : (gs : List Frame) → all_await gs ≡ true → AllFrames Good (membership_of teams openings role) gs
          → AreGood (returned p w i f below gs).threads
      returned_good [] h good = ended_good role
      returned_good (g ∷ gs) h good =
          let a = awaits-two g gs h in
          let lower : Option Membership = own_over (membership_of teams openings role) gs in
          frames_good w i (settled (pushes f.result g (drop 1 g.tasks)) ∷ gs) all (
            settled_good lower (pushes f.result g (drop 1 g.tasks))
                (resumed_good lower g g.tasks f.result refl a.0 good.0),
            good.1,
          )

      return_good : (gs : List Frame) → all_await gs ≡ true → AllFrames Good (membership_of teams openings role) gs
          → On (needs_met (unmet (sight_of w.heap f) (contract_scene f) f.method.contract.after) check.Ensures
          (Result.Went (returned p w i f below gs)))
      return_good gs h good =
          met (unmet (sight_of w.heap f) (contract_scene f) f.method.contract.after) check.Ensures
          (Result.Went (returned p w i f below gs))
          (λ new. returned_good gs h good)

      end_good : (r : Role) (gs : List Frame) → all_await gs ≡ true → AllFrames Good (membership_of teams openings role) gs
          → On (act_end p w i f below r gs)
      end_good Entry gs h good = return_good gs h good
      end_good (RunOf object) gs h good = return_good gs h good
      end_good (MemberOf block position) [] h good =
          met (unmet (sight_of w.heap f) (contract_scene f) (w.blocks block).team.shared.one.after) check.BlockEnsures
          (Result.Went (with_frames w i []))
          (λ new. frames_good w i [] all tt)
      end_good (MemberOf block position) (g ∷ gs) h good = return_good (g ∷ gs) h good

      tasks_good : (mode : Mode) (ts : List Task) → f.tasks ≡ ts → On (act_tasks p w i f below mode ts)
      tasks_good mode [] is = end_good role below ok others
      tasks_good mode (Stand step ∷ ts) is = step_good mode step ts is
          (λ values left. carried.behind member f step ts values is left own)
      tasks_good mode (Evaluate e ∷ ts) is = tt
      tasks_good mode (EvaluateAll es ∷ ts) is = tt
      tasks_good mode (Combine combination ∷ ts) is = tt
      tasks_good mode (Choose a b ∷ ts) is = tt
      tasks_good mode (Branch a b ∷ ts) is = tt
      tasks_good mode (Turn loop ∷ ts) is = tt
      tasks_good mode (Put name ∷ ts) is = tt
      tasks_good mode (Drop ∷ ts) is = tt
      tasks_good mode (Give ∷ ts) is = tt
      tasks_good mode (Unfolded class name n span ∷ ts) is = tt
      tasks_good mode (Run b ∷ ts) is = tt
      tasks_good mode (Resume class m object arguments ∷ ts) is = tt

    act_frames_good : (before : Opening) (w : World) (mode : Mode) (i : ℕ) → AreStanding w → AreGood w.threads → (fs : List Frame)
        → is_standing fs ≡ true
        → AllFrames Good (membership_of teams openings (w.threads i).role) fs → WhereItGoes (LeadsTo (opening_of before fs) w)
        (act_frames p w mode i fs)
    act_frames_good before w mode i stand all [] h good = tt
    act_frames_good before w mode i stand all (f ∷ below) h good =
        let a = stands-free f below h in
        waits_goes (LeadsTo (opens_with f) w) (not (is_held_back w i)) (act_tasks p w i f below mode f.tasks)
        (tasks_good w i f below stand a.1 all good.0 good.1 mode f.tasks refl)

    act_good : (before : Opening) (w : World) (mode : Mode) (i : ℕ) → AreStanding w → AreGood w.threads
        → WhereItGoes (LeadsTo (opening_of before (w.threads i).frames) w) (act p w mode i)
    act_good before w mode i stand all = act_frames_good before w mode i stand all (w.threads i).frames (stand i) (all i).1

  -- Worlds

  abbrev teams_of : World → ℕ → Team
  teams_of w number = (w.blocks number).team

  abbrev Holds : World → (ℕ → Opening) → Type 0
  Holds w openings = AreGood (teams_of w) openings w.block_count w.threads

  -- the threads of a world, with the teams of one to which it leads
  later_good : (w v : World) (openings : ℕ → Opening) (opening : Opening) (r : Role) (frames : List Frame) → Grows w v
      → IsGood (teams_of w) openings w.block_count (record { role = r; frames = frames })
      → IsGood (teams_of v) (at_number w.block_count opening openings) v.block_count (record { role = r; frames = frames })
  later_good w v openings opening Entry frames grows h = h
  later_good w v openings opening (RunOf object) frames grows h = h
  later_good w v openings opening (MemberOf number position) frames grows h =
      let other : nat_eq number w.block_count ≡ false = ne_eqb number w.block_count
      (λ same. absurd (omega (arith, h.0, same))) in (
        omega (arith, grows.blocks, h.0),
        subst (λ t. AllFrames Good (Some
            (record { team = t; opening = at_number w.block_count opening openings number; position = position })) frames)
            (sym (grows.same number h.0).team)
            (subst (λ b. AllFrames Good (Some
            (record {
              team = (w.blocks number).team;
              opening = if b then opening else openings number;
              position =
                  position;
            })) frames)
            (sym other) h.1),
      )

  -- the threads of a world after an event, by what blocks were opened with
  abbrev Stays : World → Type 0
  Stays v = (openings : ℕ → Opening) × Holds v openings

  after_good : (w : World) (event : Event) (r : Result) → act p w event.mode event.thread ≡ r → AreStanding w → Stays w
      → LeadsOn w r
      → Stays (world_after w r)
  after_good w event (Result.Went v) is stand h grows =
      let opening : Opening = opening_of (h.0 w.block_count) (w.threads event.thread).frames in
      let openings : ℕ → Opening = at_number w.block_count opening h.0 in
      let all : AreGood (teams_of v) openings v.block_count w.threads =
      λ j. later_good w v h.0 opening (w.threads j).role (w.threads j).frames grows (h.1 j) in
      let there : LeadsTo (teams_of v) openings v.block_count opening w v =
      subst (λ r. WhereItGoes (LeadsTo (teams_of v) openings v.block_count opening w) r) is
      (act_good (teams_of v) openings v.block_count (h.0 w.block_count) w event.mode event.thread stand all) in
      let new : nat_eq w.block_count w.block_count ≡ true = eq-eqb w.block_count w.block_count refl in
      (openings, there (refl, refl, ap (λ b. if b then opening else h.0 w.block_count) new))
  after_good w event Result.Waits is stand h grows = h
  after_good w event Result.Ended is stand h grows = h
  after_good w event (Result.Wrong named span) is stand h grows = h

  events_good : (events : List Event) (w : World) → AreStanding w → Stays w → Stays (run_events p events w)
  events_good [] w stand h = h
  events_good (event ∷ events) w stand h =
      events_good events (happens p event w) (run_events-stand p (event ∷ []) w stand)
      (after_good w event (act p w event.mode event.thread) refl stand h (act-leads p w event.mode event.thread))

  first_good : (s : Start) → IsStart p s → Stays (first_world s)
  first_good s starts = (
    λ number. record { method = s.method; variables = no_variables },
    put_good (teams_of (first_world s)) (λ number. record { method = s.method; variables = no_variables }) 0 0
        (record { role = Entry; frames = frame_of_start s ∷ [] }) (λ i. no_thread)
        (tt, (entered_good (heap_of s.heap) s.class s.method s.object s.arguments (inl (starts.name, starts.declared)), tt))
        (λ i. (tt, tt)),
  )

  -- in a reached world each frame has the property
  pub reached_good : (w : World) → IsReached p w → InWorld Good w
  reached_good w r =
      let first : IsReached p (first_world r.start) = record { start = r.start; starts = r.starts; events = []; leads = refl } in
      let holds : Stays w =
      subst Stays r.leads (events_good r.events (first_world r.start) (reached-standing p (first_world r.start) first)
      (first_good r.start r.starts)) in
      (holds.0, λ j. (holds.1 j).1)
