-- Threads and worlds, the next label of a thread, and the changes of which steps are made.
use Rattle.std.specs.Prelude.{ℕ, zero, suc, ℤ, pos, ◌+◌, ◌-◌, ◌+ℤ◌, Bool, true, false, not, ◌&&◌, nat_le, nat_lt, if◌then◌else◌, Option, Some, None, List, [], ◌∷◌, drop}
use Rattle.pv_base.specs.declared.Name.{Name}
use Rattle.pv_values.specs.declared.value.Value.{Value}
use Rattle.pv_values.specs.Heaps.{same_number}
use Rattle.pv_base.specs.Names.{same_name}
use Rattle.pv_picks.specs.Plain.Core.{Action, Fork, Join', Lock, Unlock, Commit, Team, Block}
use Rattle.pv_picks.specs.Formulas.Values.{number_in, reference_in, at_position, width}
use Rattle.pv_picks.specs.Formulas.Heaps.{Heap, at_number}
use Rattle.pv_picks.specs.Machine.Labels.{Label}
use Rattle.pv_picks.specs.Machine.Tasks.{Step, AtRead, AtWrite, AtLength, AtNewObject, AtNewArray, AtAssert, AtFold, AtHead, AtCall, AtAction, AtOpen, AtClose, AtArrive, AtLeave, AtSend, AtReceive, Task, Run, Stand}
use Rattle.pv_picks.specs.Machine.Frames.{Frame, top, second, location_on, object_under, settled}

-- what a thread runs: the entry method, the `run` of an object, the body of a block at a position
pub data Role : Type 0 where
  Entry : Role
  RunOf : ℕ → Role
  -- the number of the block, the position
  MemberOf : ℕ → ℤ → Role

-- its frames from the innermost call on; a thread without a frame has ended, or isn't there
pub record Thread : Type 0 where
  pub role : Role
  pub frames : List Frame

-- how the members of a block go: each as it may, or one after the other
pub data Mode : Type 0 where
  Free Ordered : Mode

-- A block that was opened: its members are the threads from the first on, one for each position in order. No step reads the
-- opener: laws name by it the thread that waits for the members.
pub record OpenBlock : Type 0 where
  pub opener : ℕ
  pub low : ℤ
  pub high : ℤ
  pub mode : Mode
  pub first : ℕ
  pub team : Team
  -- whether a message was sent, by its label and the position of its sender
  pub sent : Name → ℤ → Bool

-- The state of an object's thread. No step reads the number of a running thread: laws name by it whom a join waits for.
pub data ThreadState : Type 0 where
  Idle : ThreadState
  Running : ℕ → ThreadState
  Ended : ThreadState

-- Threads and blocks are numbered from 0. A block that is closed keeps its number.
pub record World : Type 0 where
  pub heap : Heap
  pub count : ℕ
  pub threads : ℕ → Thread
  pub block_count : ℕ
  pub blocks : ℕ → OpenBlock
  -- the thread that holds an object's lock
  pub holder : ℕ → Option ℕ
  pub committed : ℕ → Bool
  pub state : ℕ → ThreadState

-- The next label.

abbrev pub label_of_action : Action → ℕ → Label
label_of_action Fork object = Label.Fork object
label_of_action Join' object = Label.Join object
label_of_action Lock object = Label.Lock object
label_of_action Unlock object = Label.Unlock object
label_of_action Commit object = Label.Commit object

-- the label of a step, with the values on top and the position of the member
abbrev pub label_of_step : Step → List Value → ℤ → Label
label_of_step (AtRead spot span) values position = Label.Read (location_on spot values)
label_of_step (AtWrite spot span) values position = Label.Write (location_on spot (drop 1 values)) (top values)
label_of_step (AtLength type span) values position = Label.Length (reference_in (top values))
label_of_step (AtNewObject class) values position = Label.NewObject class
label_of_step (AtNewArray type span) values position = Label.NewArray type (number_in (top values))
label_of_step (AtAssert formula) values position = Label.Check
label_of_step (AtFold class predicate count span) values position = Label.Check
label_of_step (AtHead check loop) values position = Label.Check
label_of_step (AtCall class method count span) values position = Label.Call (object_under count values)
label_of_step (AtAction action class span) values position = label_of_action action (reference_in (top values))
label_of_step (AtOpen team body) values position = Label.Open (number_in (second values)) (number_in (top values))
label_of_step (AtClose block) values position = Label.Close
label_of_step (AtArrive barrier span) values position = Label.Arrive
label_of_step (AtLeave barrier span) values position = Label.Leave
label_of_step (AtSend message span) values position = Label.Send position
label_of_step (AtReceive message span) values position = Label.Receive position

abbrev pub position_of : Role → ℤ
position_of Entry = pos 0
position_of (RunOf object) = pos 0
position_of (MemberOf block position) = position

-- a member's body ends, and each other body returns
abbrev pub label_of_end : Role → List Frame → Label
label_of_end (MemberOf block position) [] = Label.End
label_of_end _ _ = Label.Return

abbrev pub label_of_frame : Role → Frame → List Task → List Frame → Option Label
label_of_frame role f [] below = Some (label_of_end role below)
label_of_frame role f (Stand step ∷ rest) below = Some (label_of_step step f.values (position_of role))
label_of_frame role f _ below = None

abbrev pub label_of_frames : Role → List Frame → Option Label
label_of_frames role [] = None
label_of_frames role (f ∷ below) = label_of_frame role f f.tasks below

-- read off the top frame, without the heap; None where the thread has ended
abbrev pub next : Thread → Option Label
next t = label_of_frames t.role t.frames

-- Who waits.

abbrev pub has_no_frame : List Frame → Bool
has_no_frame [] = true
has_no_frame (f ∷ below) = false

abbrev pub has_ended : World → ℕ → Bool
has_ended w i = has_no_frame (w.threads i).frames

-- so many numbers pass a test, from a first one on
abbrev pub each_from : (ℕ → Bool) → ℕ → ℕ → Bool
each_from test first zero = true
each_from test first (suc n) = test first && each_from test (suc first) n

abbrev pub member_count : OpenBlock → ℕ
member_count block = width block.low block.high

-- whether a thread is one of the members
abbrev pub is_member : OpenBlock → ℕ → Bool
is_member block j = nat_le block.first j && nat_lt j (block.first + member_count block)

abbrev pub members_ended : World → OpenBlock → Bool
members_ended w block = each_from (has_ended w) block.first (member_count block)

-- in an Ordered block a member waits until all lower members ended
abbrev pub waits_in : World → ℕ → OpenBlock → Mode → Bool
waits_in w i block Free = false
waits_in w i block Ordered = not (each_from (has_ended w) block.first (i - block.first))

abbrev pub waits_as : World → ℕ → Role → Bool
waits_as w i Entry = false
waits_as w i (RunOf object) = false
waits_as w i (MemberOf number position) = waits_in w i (w.blocks number) (w.blocks number).mode

abbrev pub is_held_back : World → ℕ → Bool
is_held_back w i = waits_as w i (w.threads i).role

-- Changes.

abbrev pub with_frames : World → ℕ → List Frame → World
with_frames w i frames = record w { threads = at_number i (record { role = (w.threads i).role; frames = frames }) w.threads }

abbrev pub with_heap : World → Heap → World
with_heap w heap = record w { heap = heap }

-- a thread more, under the next number
abbrev pub with_thread : World → Thread → World
with_thread w thread = record w { count = suc w.count; threads = at_number w.count thread w.threads }

abbrev pub with_state : World → ℕ → ThreadState → World
with_state w object state = record w { state = at_number object state w.state }

abbrev pub with_holder : World → ℕ → Option ℕ → World
with_holder w object holder = record w { holder = at_number object holder w.holder }

abbrev pub with_committed_object : World → ℕ → World
with_committed_object w object = record w { committed = at_number object true w.committed }

-- the messages, with one more
abbrev pub at_message : Name → ℤ → (Name → ℤ → Bool) → Name → ℤ → Bool
at_message label sender others name position =
    if same_name name label && same_number position sender then true else others name position

abbrev pub with_message : World → ℕ → Name → ℤ → World
with_message w number label sender = record w {
  blocks = at_number number (record (w.blocks number) { sent = at_message label sender (w.blocks number).sent }) w.blocks;
}

-- a member at a position, with a copy of the opener's variables, at its first step
abbrev pub member_of : Frame → Team → Block → ℤ → Frame
member_of opener team body position = settled (record opener {
  begun = at_position opener.variables team.variable position;
  variables = at_position opener.variables team.variable position;
  values = [];
  tasks = Run body ∷ [];
})

-- the member that the next threads from the count on have at a number
abbrev pub member_thread : World → Frame → Team → Block → ℤ → ℕ → Thread
member_thread w opener team body low j = record {
  role = MemberOf w.block_count (low +ℤ pos (j - w.count));
  frames = member_of opener team body (low +ℤ pos (j - w.count)) ∷ [];
}

-- a block more, whose members are the next threads
abbrev pub with_members : World → ℕ → Frame → Team → Block → Mode → ℤ → ℤ → World
with_members w i opener team body mode low high = record w {
  count = w.count + width low high;
  threads = λ j.
      if nat_le w.count j && nat_lt j (w.count + width low high) then member_thread w opener team body low j else w.threads j;
  block_count = suc w.block_count;
  blocks = at_number w.block_count (record {
    opener = i;
    low = low;
    high = high;
    mode = mode;
    first = w.count;
    team = team;
    sent = λ label sender. false;
  }) w.blocks;
}
