-- What a step of a thread does: one event of the machine. A step waits, is wrong with a check and a place, or changes the world;
-- formulas are checked inside a step and are no accesses.
use Rattle.std.specs.Prelude.{ℕ, zero, suc, ℤ, pos, negsuc, ◌+ℤ◌, ◌-ℤ◌, Bool, true, false, not, ◌&&◌, nat_eq, int_le, int_lt, if◌then◌else◌, is_none, Option, Some, None, List, [], ◌∷◌, map, drop}
use Rattle.pv_base.specs.declared.Name.{Name}
use Rattle.pv_base.specs.declared.Span.{Span}
use Rattle.pv_ast.specs.declared.PvType.{PvType}
use Rattle.pv_values.specs.declared.value.Value.{Value}
use Rattle.pv_values.specs.declared.value.Value.TheVariants as value
use Rattle.pv_values.specs.declared.value.Location.{Location}
use Rattle.pv_values.specs.Heaps.{Fields}
use Rattle.pv_values.specs.Changes.{owner_of}
use Rattle.pv_picks.specs.declared.check.Check.{Check}
use Rattle.pv_picks.specs.declared.check.Check.TheVariants as check
use Rattle.pv_picks.specs.Plain.Core.{Formula, Parameter, Action, Fork, Join', Lock, Unlock, Commit, Message, Barrier, Team, Block, Predicate, Method, Program}
use Rattle.pv_picks.specs.Formulas.Values.{number_in, reference_in, default_of}
use Rattle.pv_picks.specs.Formulas.Heaps.{Heap, written, with_object, with_array}
use Rattle.pv_picks.specs.Formulas.Meeting.{Finding, AllMet, FirstUnmet, found_met, unmet, unmet_shared}
use Rattle.pv_picks.specs.Plain.Members.{fields_of, predicate_named, method_named, run_of, invariant_of}
use Rattle.pv_picks.specs.Machine.Tasks.{Spot, Step, AtRead, AtWrite, AtLength, AtNewObject, AtNewArray, AtAssert, AtFold, AtHead, AtCall, AtAction, AtOpen, AtClose, AtArrive, AtLeave, AtSend, AtReceive, Task, Evaluate, Turn, Stand, Resume}
use Rattle.pv_picks.specs.Machine.Frames.{Frame, top, second, topmost, location_on, breadth, goes_on, object_under, pops, pushes, settled, entered, only_now, outer_scene, sight_of, body_scene, contract_scene}
use Rattle.pv_picks.specs.Machine.Worlds.{Role, RunOf, MemberOf, Mode, Free, OpenBlock, ThreadState, World, each_from, is_member, member_count, members_ended, is_held_back, with_frames, with_heap, with_thread, with_state, with_holder, with_committed_object, with_message, with_members}

pub data Result : Type 0 where
  Went : World → Result
  -- for another thread
  Waits : Result
  -- the thread has no step left
  Ended : Result
  Wrong : Check → Span → Result

-- wrong where a test fails
abbrev pub needs : Bool → Check → Span → Result → Result
needs true named span result = result
needs false named span result = Wrong named span

-- wrong at the first conjunct that isn't met
abbrev pub needs_met : Finding → Check → Result → Result
needs_met AllMet named result = result
needs_met (FirstUnmet span) named result = Wrong named span

abbrev pub waits_unless : Bool → Result → Result
waits_unless true result = result
waits_unless false result = Waits

abbrev pub not_null : ℕ → Bool
not_null zero = false
not_null (suc n) = true

-- the fields of a new object
abbrev pub first_fields : Program → Name → Fields
first_fields p class = map (λ f. (f.0, default_of f.1)) (fields_of p class)

-- whether a formula of an object, with arguments, is met
abbrev pub is_met_on : Heap → ℕ → List Parameter → List Value → Formula → Bool
is_met_on heap object parameters arguments formula =
    found_met (unmet (only_now heap) (outer_scene object parameters arguments) formula)

-- the same way through a method
abbrev pub same_place : List ℕ → List ℕ → Bool
same_place [] [] = true
same_place [] (b ∷ bs) = false
same_place (a ∷ rest) [] = false
same_place (a ∷ rest) (b ∷ bs) = nat_eq a b && same_place rest bs

-- whether some member stands at the distance of a message
pub data Partner : Type 0 where
  Somebody Nobody : Partner

abbrev pub partner_if : Bool → Partner
partner_if true = Somebody
partner_if false = Nobody

-- in a block, the member to which a position sends, and the member from which it receives
abbrev pub receiver_of : OpenBlock → ℤ → Message → Partner
receiver_of block position message = partner_if (int_lt (position +ℤ pos message.distance) block.high)

abbrev pub sender_of : OpenBlock → ℤ → Message → Partner
sender_of block position message = partner_if (int_le block.low (position -ℤ pos message.distance))

-- a message that no send declares has the distance 0
abbrev pub is_declared : Message → Bool
is_declared message = not_null message.distance

-- whether a thread stands where it leaves a barrier
abbrev pub tasks_leave : List ℕ → List Task → Bool
tasks_leave place (Stand (AtLeave barrier span) ∷ rest) = same_place barrier.place place
tasks_leave place _ = false

abbrev pub frames_leave : List ℕ → List Frame → Bool
frames_leave place [] = false
frames_leave place (f ∷ below) = tasks_leave place f.tasks

-- a frame behind the task at which it stands
abbrev pub frames_behind : List Frame → List Frame
frames_behind [] = []
frames_behind (f ∷ below) = settled (goes_on f (drop 1 f.tasks)) ∷ below

abbrev pub all_leave : World → OpenBlock → List ℕ → Bool
all_leave w block place = each_from (λ j. frames_leave place (w.threads j).frames) block.first (member_count block)

-- all members of a block go on
abbrev pub all_behind : World → OpenBlock → World
all_behind w block = record w {
  threads = λ j. if is_member block j then record (w.threads j) { frames = frames_behind (w.threads j).frames } else w.threads j;
}

-- The static rules leave no step on what isn't declared: a class without such a method, predicate, `run` or invariant, a message
-- that no send declares, a barrier or a message outside the body of a member. Such a step never waits: it is wrong, by its own
-- check and span.

-- In a program and a world, thread `i`, whose top frame is `f`, with its other frames below, where the tasks `rest` are left
-- behind the step.
module _ (p : Program) (w : World) (i : ℕ) (f : Frame) (below : List Frame) where
  -- the thread goes on, up to its next step
  abbrev pub goes : Frame → World
  goes g = with_frames w i (settled g ∷ below)

  abbrev pub read : Option Value → Spot → Span → List Task → Result
  read None spot span rest = Wrong check.Bounds span
  read (Some v) spot span rest = Went (goes (record f { values = v ∷ drop (breadth spot) f.values; tasks = rest }))

  abbrev pub act_read : Spot → Span → List Task → Result
  act_read spot span rest =
      needs (not_null (owner_of (location_on spot f.values))) check.Null span
      (read (w.heap.value (location_on spot f.values)) spot span rest)

  abbrev pub write : Option Value → Location → ℕ → Span → List Task → Result
  write None location count span rest = Wrong check.Bounds span
  write (Some old) location count span rest = Went (with_heap (goes (pops count f rest)) (written w.heap location (top f.values)))

  -- the new value stands over what names the place
  abbrev pub act_write : Location → ℕ → Span → List Task → Result
  act_write location count span rest =
      needs (not_null (owner_of location)) check.Null span (write (w.heap.value location) location count span rest)

  abbrev pub act_length : Option ℤ → Span → List Task → Result
  act_length None span rest = Wrong check.Null span
  act_length (Some n) span rest = Went (goes (record f { values = value.Number n ∷ drop 1 f.values; tasks = rest }))

  abbrev pub act_new_object : Name → List Task → Result
  act_new_object class rest =
      Went (with_heap (goes (pushes (value.Reference (suc w.heap.count)) f rest))
      (with_object w.heap class (first_fields p class)))

  abbrev pub act_new_array : ℤ → PvType → Span → List Task → Result
  act_new_array (negsuc n) type span rest = Wrong check.Length span
  act_new_array (pos n) type span rest =
      Went (with_heap (goes (pushes (value.Reference (suc w.heap.count)) (pops 1 f rest) rest))
      (with_array w.heap (default_of type) n))

  -- an object, and so many arguments over it
  abbrev pub act_fold : Option Predicate → ℕ → ℕ → Span → List Task → Result
  act_fold None object count span rest = Wrong check.Fold span
  act_fold (Some d) object count span rest =
      needs (is_met_on w.heap object d.parameters (topmost count f.values) d.body) check.Fold span
      (Went (goes (pops (suc count) f rest)))

  abbrev pub called : Method → Name → ℕ → ℕ → List Task → World
  called m class object count rest = with_frames w i (
      entered w.heap class m object (topmost count f.values)
      ∷ pops (suc count) f (Resume class m object (topmost count f.values) ∷ rest)
      ∷ below)

  abbrev pub act_call : Option Method → Name → ℕ → ℕ → Span → List Task → Result
  act_call None class object count span rest = Wrong check.Requires span
  act_call (Some m) class object count span rest =
      needs (not_null object) check.Null span
      (needs (is_met_on w.heap object m.parameters (topmost count f.values) m.contract.before) check.Requires span
      (Went (called m class object count rest)))

  -- an object's thread begins
  abbrev pub forked : Method → Name → ℕ → List Task → World
  forked m class object rest =
      with_state (with_thread (goes (pops 1 f rest))
      (record { role = RunOf object; frames = entered w.heap class m object [] ∷ [] }))
      object (ThreadState.Running w.count)

  abbrev pub act_fork : ThreadState → Option Method → Name → ℕ → Span → List Task → Result
  act_fork state None class object span rest = Wrong check.ForkRequires span
  act_fork ThreadState.Idle (Some m) class object span rest =
      needs (is_met_on w.heap object m.parameters [] m.contract.before) check.ForkRequires span
      (Went (forked m class object rest))
  act_fork _ (Some m) class object span rest = Wrong check.NotIdle span

  abbrev pub act_join : ThreadState → ℕ → Span → List Task → Result
  act_join ThreadState.Idle object span rest = Wrong check.NotRunning span
  act_join (ThreadState.Running j) object span rest = Waits
  act_join ThreadState.Ended object span rest = Went (with_state (goes (pops 1 f rest)) object ThreadState.Idle)

  abbrev pub keeps_invariant : Formula → ℕ → Span → World → Result
  keeps_invariant invariant object span v = needs (is_met_on w.heap object [] [] invariant) check.LockInvariant span (Went v)

  abbrev pub act_lock : Option Formula → ℕ → Span → List Task → Result
  act_lock None object span rest = Wrong check.LockInvariant span
  act_lock (Some invariant) object span rest =
      waits_unless (is_none (w.holder object)) (needs (w.committed object) check.NotCommitted span
      (keeps_invariant invariant object span (with_holder (goes (pops 1 f rest)) object (Some i))))

  abbrev pub is_own : Option ℕ → Bool
  is_own None = false
  is_own (Some j) = nat_eq j i

  abbrev pub act_unlock : Option Formula → ℕ → Span → List Task → Result
  act_unlock None object span rest = Wrong check.LockInvariant span
  act_unlock (Some invariant) object span rest =
      needs (is_own (w.holder object)) check.NotHeld span
      (keeps_invariant invariant object span (with_holder (goes (pops 1 f rest)) object None))

  abbrev pub act_commit : Option Formula → ℕ → Span → List Task → Result
  act_commit None object span rest = Wrong check.LockInvariant span
  act_commit (Some invariant) object span rest =
      needs (not (w.committed object)) check.NotUncommitted span
      (keeps_invariant invariant object span (with_committed_object (goes (pops 1 f rest)) object))

  abbrev pub act_on : Action → Name → ℕ → Span → List Task → Result
  act_on Fork class object span rest = act_fork (w.state object) (run_of p class) class object span rest
  act_on Join' class object span rest = act_join (w.state object) object span rest
  act_on Lock class object span rest = act_lock (invariant_of p class) object span rest
  act_on Unlock class object span rest = act_unlock (invariant_of p class) object span rest
  act_on Commit class object span rest = act_commit (invariant_of p class) object span rest

  -- a par block is always Free
  abbrev pub act_open : Mode → Team → Block → ℤ → ℤ → List Task → Result
  act_open mode team body low high rest =
      needs_met (unmet_shared (sight_of w.heap f) (body_scene f) team.variable low high team.shared.each_before)
      check.BlockRequires
      (Went (with_members (goes (pops 2 f (Stand (AtClose w.block_count) ∷ rest))) i f team body
      (if team.counted then mode else Free) low high))

  abbrev pub act_arrive : Barrier → Span → List Task → Result
  act_arrive barrier span rest =
      needs_met (unmet (sight_of w.heap f) (contract_scene f) barrier.shared.one.before) check.BarrierRequires
      (Went (goes (goes_on f (Stand (AtLeave barrier span) ∷ rest))))

  abbrev pub act_leave : OpenBlock → Barrier → Result
  act_leave block barrier =
      waits_unless (all_leave w block barrier.place)
      (needs_met (unmet_shared (sight_of w.heap f) (contract_scene f) block.team.variable block.low block.high
      barrier.shared.each_after) check.BarrierEnsures (Went (all_behind w block)))

  -- by a member, from its position; where nobody is at the distance, nothing is sent
  abbrev pub act_send : Partner → ℕ → ℤ → Message → List Task → Result
  act_send Nobody block position message rest = Went (goes (goes_on f rest))
  act_send Somebody block position message rest =
      needs_met (unmet (sight_of w.heap f) (contract_scene f) message.formula) check.Send
      (Went (with_message (goes (goes_on f rest)) block message.label position))

  -- from the position of a sender, whose message stays there; where nobody is at the distance, none is waited for
  abbrev pub act_receive : Partner → ℕ → ℤ → Message → List Task → Result
  act_receive Nobody block sender message rest = Went (goes (goes_on f rest))
  act_receive Somebody block sender message rest =
      waits_unless ((w.blocks block).sent message.label sender) (Went (goes (goes_on f rest)))

  -- in the body of a member, by the number of its block and its position; elsewhere wrong
  abbrev pub as_member : Role → List Frame → Check → Span → (ℕ → ℤ → Result) → Result
  as_member (MemberOf block position) [] named span act = act block position
  as_member _ _ named span act = Wrong named span

  -- A comment says which values a step takes, the topmost first; where there is none it takes none.
  abbrev pub act_step : Mode → Step → List Task → Result
  -- values: object; or index, array
  act_step mode (AtRead spot span) rest = act_read spot span rest
  -- values: the new value, then object; or index, array
  act_step mode (AtWrite spot span) rest = act_write (location_on spot (drop 1 f.values)) (suc (breadth spot)) span rest
  -- values: array
  act_step mode (AtLength type span) rest = act_length (w.heap.length (reference_in (top f.values))) span rest
  act_step mode (AtNewObject class) rest = act_new_object class rest
  -- values: length
  act_step mode (AtNewArray type span) rest = act_new_array (number_in (top f.values)) type span rest
  act_step mode (AtAssert formula) rest =
      needs_met (unmet (sight_of w.heap f) (body_scene f) formula) check.Assert (Went (goes (goes_on f rest)))
  -- values: the arguments, the last one first, then the object
  act_step mode (AtFold class predicate count span) rest =
      needs (not_null (object_under count f.values)) check.Null span
      (act_fold (predicate_named p class predicate) (object_under count f.values) count span rest)
  act_step mode (AtHead named loop) rest =
      needs_met (unmet (sight_of w.heap f) (body_scene f) loop.invariant) named
      (Went (goes (goes_on f (Evaluate loop.condition ∷ Turn loop ∷ rest))))
  -- values: the arguments, the last one first, then the object
  act_step mode (AtCall class method count span) rest =
      act_call (method_named p class method) class (object_under count f.values) count span rest
  -- values: object
  act_step mode (AtAction action class span) rest =
      needs (not_null (reference_in (top f.values))) check.Null span (act_on action class (reference_in (top f.values)) span rest)
  -- values: the upper bound, the lower bound
  act_step mode (AtOpen team body) rest = act_open mode team body (number_in (second f.values)) (number_in (top f.values)) rest
  act_step mode (AtClose block) rest = waits_unless (members_ended w (w.blocks block)) (Went (goes (goes_on f rest)))
  act_step mode (AtArrive barrier span) rest =
      as_member (w.threads i).role below check.BarrierRequires span (λ block position. act_arrive barrier span rest)
  act_step mode (AtLeave barrier span) rest =
      as_member (w.threads i).role below check.BarrierEnsures span (λ block position. act_leave (w.blocks block) barrier)
  act_step mode (AtSend message span) rest =
      needs (is_declared message) check.Send span (as_member (w.threads i).role below check.Send span (λ block position.
      act_send (receiver_of (w.blocks block) position message) block position message rest))
  act_step mode (AtReceive message span) rest =
      needs (is_declared message) check.Send span (as_member (w.threads i).role below check.Send span (λ block position.
      act_receive (sender_of (w.blocks block) position message) block (position -ℤ pos message.distance) message rest))

  -- the thread ends; the object whose `run` it ran has ended
  abbrev pub ended : Role → World
  ended (RunOf object) = with_state (with_frames w i []) object ThreadState.Ended
  ended _ = with_frames w i []

  -- the frame below has the result as its value
  abbrev pub returned : List Frame → World
  returned [] = ended (w.threads i).role
  returned (g ∷ others) = with_frames w i (settled (pushes f.result g (drop 1 g.tasks)) ∷ others)

  -- at the end of a body, by the contract of its block or of its method
  abbrev pub act_end : Role → List Frame → Result
  act_end (MemberOf block position) [] =
      needs_met (unmet (sight_of w.heap f) (contract_scene f) (w.blocks block).team.shared.one.after) check.BlockEnsures
      (Went (with_frames w i []))
  act_end role others =
      needs_met (unmet (sight_of w.heap f) (contract_scene f) f.method.contract.after) check.Ensures (Went (returned others))

  abbrev pub act_tasks : Mode → List Task → Result
  act_tasks mode [] = act_end (w.threads i).role below
  act_tasks mode (Stand step ∷ rest) = act_step mode step rest
  act_tasks mode _ = Waits

abbrev pub act_frames : Program → World → Mode → ℕ → List Frame → Result
act_frames p w mode i [] = Ended
act_frames p w mode i (f ∷ below) = waits_unless (not (is_held_back w i)) (act_tasks p w i f below mode f.tasks)

-- what a step of a thread does; the mode is that of a counted loop, where the step opens one
abbrev pub act : Program → World → Mode → ℕ → Result
act p w mode i = act_frames p w mode i (w.threads i).frames
