-- What a step of a member of a counted loop does, by its parts: where it reads, what it writes and sends, the frames after it.
use Rattle.std.proofs.Common.{◌≡◌, ℕ, suc, ℤ, pos, true, not, Option, Some, None, List, [], ◌∷◌, subst}
use Rattle.std.specs.Prelude.{drop, int_lt, ◌+ℤ◌, ◌-ℤ◌}
use Rattle.std.proofs.lemmas.Bool.{and_parts}
use Rattle.pv_base.specs.declared.Name.{Name}
use Rattle.pv_base.specs.declared.Span.{Span}
use Rattle.pv_values.specs.declared.value.Value.{Value}
use Rattle.pv_values.specs.declared.value.Value.TheVariants as value
use Rattle.pv_values.specs.declared.value.Location.{Location}
use Rattle.pv_values.specs.Changes.{owner_of}
use Rattle.pv_picks.specs.declared.check.Check.TheVariants as check
use Rattle.pv_picks.specs.Plain.Core.{Formula, Program, Predicate, Message}
use Rattle.pv_picks.specs.Formulas.Values.{reference_in}
use Rattle.pv_picks.specs.Plain.Members.{predicate_named}
use Rattle.pv_picks.specs.Formulas.Heaps.{Heap, at_number, written}
use Rattle.pv_picks.specs.Formulas.Meeting.{unmet}
use Rattle.pv_picks.specs.Machine.Tasks.{Spot, Step, AtRead, AtWrite, AtLength, AtAssert, AtFold, AtHead, AtSend, AtReceive, Task, Evaluate, Turn, Stand}
use Rattle.pv_picks.specs.Machine.Frames.{Frame, no_value, top, topmost, object_under, location_on, breadth, goes_on, pops, settled, sight_of, body_scene, contract_scene}
use Rattle.pv_picks.specs.Machine.Worlds.{Role, MemberOf, Thread, Mode, OpenBlock, World, at_message, with_frames, is_held_back}
use Rattle.pv_picks.specs.Machine.Steps.{Result, Partner, Somebody, Nobody, partner_if, receiver_of, sender_of, is_declared, not_null, is_met_on, read, write, act_length, act_fold, act_send, act_receive, as_member, act_step, act_end, act_tasks, act_frames, act}
use Rattle.machine_loops.proofs.Results.{needs_went, met_went, waits_went, same_world}
use Rattle.machine_loops.specs.Quiet.{is_quiet_step, are_quiet}
use Rattle.machine_loops.proofs.Quiet.{AreQuietFrames}

-- the value of a read, and the length of an array
abbrev pub found : Option Value → Value
found None = no_value
found (Some v) = v

abbrev pub length_found : Option ℤ → ℤ
length_found None = pos 0
length_found (Some n) = n

-- the frame behind a step, in a heap, before its local work
abbrev pub after_step : Heap → Frame → Step → List Task → Frame
after_step h f (AtRead spot span) rest =
    record f { values = found (h.value (location_on spot f.values)) ∷ drop (breadth spot) f.values; tasks = rest }
after_step h f (AtWrite spot span) rest = pops (suc (breadth spot)) f rest
after_step h f (AtLength type span) rest =
    record f { values = value.Number (length_found (h.length (reference_in (top f.values)))) ∷ drop 1 f.values; tasks = rest }
after_step h f (AtFold class predicate count span) rest = pops (suc count) f rest
after_step h f (AtHead named loop) rest = goes_on f (Evaluate loop.condition ∷ Turn loop ∷ rest)
after_step h f _ rest = goes_on f rest

-- the frames of a member after its step: none, where its body has ended
abbrev pub after_tasks : Heap → Frame → List Task → List Frame
after_tasks h f (Stand step ∷ rest) = settled (after_step h f step rest) ∷ []
after_tasks h f _ = []

abbrev pub after_frames : Heap → List Frame → List Frame
after_frames h [] = []
after_frames h (f ∷ below) = after_tasks h f f.tasks

-- a member after its step
abbrev pub thread_after : World → ℕ → Thread
thread_after w i = record { role = (w.threads i).role; frames = after_frames w.heap (w.threads i).frames }

-- what is sent: the label, and the position of the sender
abbrev pub message_to : Partner → Name → ℤ → Option (Name × ℤ)
message_to Somebody label z = Some (label, z)
message_to Nobody label z = None

abbrev pub message_of : ℤ → ℤ → List Task → Option (Name × ℤ)
message_of high z (Stand (AtSend m span) ∷ rest) = message_to (partner_if (int_lt (z +ℤ pos m.distance) high)) m.label z
message_of high z _ = None

abbrev pub message_in : ℤ → ℤ → List Frame → Option (Name × ℤ)
message_in high z [] = None
message_in high z (f ∷ below) = message_of high z f.tasks

-- what a thread sends, that of a member of a block at a position
abbrev pub message_by : World → ℕ → ℤ → ℕ → Option (Name × ℤ)
message_by w b z i = message_in (w.blocks b).high z (w.threads i).frames

-- where a step writes, and what
abbrev pub write_of : Frame → List Task → Option (Location × Value)
write_of f (Stand (AtWrite spot span) ∷ rest) = Some (location_on spot (drop 1 f.values), top f.values)
write_of f _ = None

abbrev pub write_in : List Frame → Option (Location × Value)
write_in [] = None
write_in (f ∷ below) = write_of f f.tasks

-- where it reads
abbrev pub read_of : Frame → List Task → Option Location
read_of f (Stand (AtRead spot span) ∷ rest) = Some (location_on spot f.values)
read_of f _ = None

abbrev pub read_in : List Frame → Option Location
read_in [] = None
read_in (f ∷ below) = read_of f f.tasks

-- a heap with what is written
abbrev pub put : Heap → Option (Location × Value) → Heap
put h None = h
put h (Some z) = written h z.0 z.1

-- a block with a message more, and blocks of which one is changed
abbrev pub with_one : Name × ℤ → OpenBlock → OpenBlock
with_one m block = record block { sent = at_message m.0 m.1 block.sent }

abbrev pub changed : (OpenBlock → OpenBlock) → ℕ → (ℕ → OpenBlock) → ℕ → OpenBlock
changed g b blocks = at_number b (g (blocks b)) blocks

abbrev pub with_sent : (ℕ → OpenBlock) → ℕ → Option (Name × ℤ) → ℕ → OpenBlock
with_sent blocks b None = blocks
with_sent blocks b (Some m) = changed (with_one m) b blocks

-- a world after a step, by its parts
abbrev pub made : World → ℕ → ℕ → Option (Location × Value) → List Frame → Option (Name × ℤ) → World
made w b i wr frames message = record {
  heap = put w.heap wr;
  count = w.count;
  threads = at_number i (record { role = (w.threads i).role; frames = frames }) w.threads;
  block_count = w.block_count;
  blocks = with_sent w.blocks b message;
  holder = w.holder;
  committed = w.committed;
  state = w.state;
}

-- after a step of a member of a block, at a position, with its frames given apart
abbrev pub after_as : World → ℕ → ℤ → ℕ → List Frame → World
after_as w b z i fs = made w b i (write_in fs) (after_frames w.heap fs) (message_in (w.blocks b).high z fs)

abbrev pub after : World → ℕ → ℤ → ℕ → World
after w b z i = after_as w b z i (w.threads i).frames

module _ (p : Program) (w v : World) (i : ℕ) (f : Frame) (b : ℕ) (z : ℤ) (is : (w.threads i).role ≡ MemberOf b z) where
  read_effect : (o : Option Value) (spot : Spot) (span : Span) (rest : List Task) → read p w i f [] o spot span rest
      ≡ Result.Went v
      → v ≡ made w b i None (settled (record f { values = found o ∷ drop (breadth spot) f.values; tasks = rest }) ∷ []) None
  read_effect None spot span rest h = absurd (cc)
  read_effect (Some x) spot span rest h = same_world v _ h

  write_effect : (o : Option Value) (location : Location) (count : ℕ) (span : Span) (rest : List Task)
      → write p w i f [] o location count span rest ≡ Result.Went v
      → v ≡ made w b i (Some (location, top f.values)) (settled (pops count f rest) ∷ []) None
  write_effect None location count span rest h = absurd (cc)
  write_effect (Some x) location count span rest h = same_world v _ h

  length_effect : (o : Option ℤ) (span : Span) (rest : List Task) → act_length p w i f [] o span rest ≡ Result.Went v
      → v ≡ made w b i None (settled (record f { values = value.Number (length_found o) ∷ drop 1 f.values; tasks = rest }) ∷ [])
      None
  length_effect None span rest h = absurd (cc)
  length_effect (Some x) span rest h = same_world v _ h

  fold_effect : (d : Option Predicate) (object count : ℕ) (span : Span) (rest : List Task)
      → act_fold p w i f [] d object count span rest ≡ Result.Went v
      → v ≡ made w b i None (settled (pops (suc count) f rest) ∷ []) None
  fold_effect None object count span rest h = absurd (cc)
  fold_effect (Some d) object count span rest h =
      same_world v _ (needs_went v (is_met_on w.heap object d.parameters (topmost count f.values) d.body) check.Fold span _ h)

  send_effect : (receiver : Partner) (message : Message) (rest : List Task)
      → act_send p w i f [] receiver b z message rest ≡ Result.Went v
      → v ≡ made w b i None (settled (goes_on f rest) ∷ []) (message_to receiver message.label z)
  send_effect Nobody message rest h = same_world v _ h
  send_effect Somebody message rest h =
      same_world v _ (met_went v (unmet (sight_of w.heap f) (contract_scene f) message.formula) check.Send _ h)

  receive_effect : (sender : Partner) (at : ℤ) (message : Message) (rest : List Task)
      → act_receive p w i f [] sender b at message rest ≡ Result.Went v → v ≡ made w b i None (settled (goes_on f rest) ∷ []) None
  receive_effect Nobody at message rest h = same_world v _ h
  receive_effect Somebody at message rest h = same_world v _ (waits_went v ((w.blocks b).sent message.label at) _ h)

  step_effect : (m : Mode) (step : Step) (rest : List Task) → is_quiet_step step ≡ true
      → act_step p w i f [] m step rest ≡ Result.Went v → v ≡ made w b i (write_of f (Stand step ∷ rest)) (after_tasks w.heap f
      (Stand step ∷ rest)) (message_of (w.blocks b).high z (Stand step ∷ rest))
  step_effect m (AtRead spot span) rest q h =
      read_effect (w.heap.value (location_on spot f.values)) spot span rest
      (needs_went v (not_null (owner_of (location_on spot f.values))) check.Null span _ h)
  step_effect m (AtWrite spot span) rest q h =
      write_effect (w.heap.value (location_on spot (drop 1 f.values))) (location_on spot (drop 1 f.values))
      (suc (breadth spot)) span rest
      (needs_went v (not_null (owner_of (location_on spot (drop 1 f.values)))) check.Null span _ h)
  step_effect m (AtLength type span) rest q h = length_effect (w.heap.length (reference_in (top f.values))) span rest h
  step_effect m (AtAssert formula) rest q h =
      same_world v _ (met_went v (unmet (sight_of w.heap f) (body_scene f) formula) check.Assert _ h)
  step_effect m (AtFold class predicate count span) rest q h =
      fold_effect (predicate_named p class predicate) (object_under count f.values) count span rest
      (needs_went v (not_null (object_under count f.values)) check.Null span _ h)
  step_effect m (AtHead named loop) rest q h =
      same_world v _ (met_went v (unmet (sight_of w.heap f) (body_scene f) loop.invariant) named _ h)
  step_effect m (AtSend message span) rest q h =
      send_effect (receiver_of (w.blocks b) z message) message rest
      (subst (λ (r : Role). as_member p w i f [] r [] check.Send span (λ block position.
      act_send p w i f [] (receiver_of (w.blocks block) position message) block position message rest) ≡ Result.Went v) is
      (needs_went v (is_declared message) check.Send span _ h))
  step_effect m (AtReceive message span) rest q h =
      receive_effect (sender_of (w.blocks b) z message) (z -ℤ pos message.distance) message rest
      (subst (λ (r : Role). as_member p w i f [] r [] check.Send span (λ block position.
      act_receive p w i f [] (sender_of (w.blocks block) position message) block (position -ℤ pos message.distance) message rest)
      ≡ Result.Went v) is
      (needs_went v (is_declared message) check.Send span _ h))
  step_effect m _ rest q h = absurd cc

  tasks_effect : (m : Mode) (ts : List Task) → are_quiet ts ≡ true → act_tasks p w i f [] m ts ≡ Result.Went v
      → v ≡ made w b i (write_of f ts) (after_tasks w.heap f ts) (message_of (w.blocks b).high z ts)
  tasks_effect m [] q h =
      let ensures : Formula = (w.blocks b).team.shared.one.after in
      same_world v _ (met_went v (unmet (sight_of w.heap f) (contract_scene f) ensures) check.BlockEnsures
      (Result.Went (with_frames w i [])) (subst (λ (r : Role). act_end p w i f [] r [] ≡ Result.Went v) is h))
  tasks_effect m (Stand step ∷ rest) q h = step_effect m step rest (and_parts (is_quiet_step step) (are_quiet rest) q).0 h
  tasks_effect m _ q h = absurd cc

frames_effect : (p : Program) (w v : World) (i b : ℕ) (z : ℤ) → (w.threads i).role ≡ MemberOf b z → (m : Mode) (fs : List Frame)
    → AreQuietFrames fs → act_frames p w m i fs ≡ Result.Went v → v ≡ after_as w b z i fs
frames_effect p w v i b z is m [] q h = absurd (cc)
frames_effect p w v i b z is m (f ∷ []) q h =
    tasks_effect p w v i f b z is m f.tasks q (waits_went v (not (is_held_back w i)) _ h)
frames_effect p w v i b z is m (f ∷ g ∷ below) q h = absurd q

-- a step of a member that goes leads to the world after it
pub act-effect : (p : Program) (w v : World) (i b : ℕ) (z : ℤ) (m : Mode) → (w.threads i).role ≡ MemberOf b z
    → AreQuietFrames (w.threads i).frames → act p w m i ≡ Result.Went v → v ≡ after w b z i
act-effect p w v i b z m is q h = frames_effect p w v i b z is m (w.threads i).frames q h
