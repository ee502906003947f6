-- A member that may step in one world may step in another, where it has the same frames and no message is missing.
use Rattle.std.proofs.Common.{◌≡◌, ℕ, suc, ℤ, pos, true, false, not, Option, Some, None, List, [], ◌∷◌, refl, sym, ap, subst, ◌∙◌}
use Rattle.std.specs.Prelude.{drop, int_le, ◌-ℤ◌}
use Rattle.std.proofs.lemmas.Bool.{and_parts}
use Rattle.pv_base.specs.declared.Name.{Name}
use Rattle.pv_base.specs.declared.Span.{Span}
use Rattle.pv_values.specs.declared.value.Value.{Value}
use Rattle.pv_values.specs.declared.value.Location.{Location}
use Rattle.pv_values.specs.Changes.{owner_of}
use Rattle.pv_picks.specs.declared.check.Check.TheVariants as check
use Rattle.pv_picks.specs.Plain.Core.{Program, Predicate, Message}
use Rattle.pv_picks.specs.Formulas.Values.{reference_in}
use Rattle.pv_picks.specs.Plain.Members.{predicate_named}
use Rattle.pv_picks.specs.Formulas.Meeting.{unmet}
use Rattle.pv_picks.specs.Machine.Tasks.{Spot, Step, AtRead, AtWrite, AtLength, AtAssert, AtFold, AtHead, AtSend, AtReceive, Task, Stand}
use Rattle.pv_picks.specs.Machine.Frames.{Frame, top, topmost, object_under, location_on, breadth, sight_of, body_scene, contract_scene}
use Rattle.pv_picks.specs.Machine.Worlds.{Role, MemberOf, Mode, World, with_frames, is_held_back}
use Rattle.pv_picks.specs.Machine.Steps.{Result, Partner, Somebody, Nobody, partner_if, receiver_of, sender_of, is_declared, not_null, is_met_on, read, write, act_length, act_fold, act_send, act_receive, as_member, act_step, act_end, act_tasks, act_frames, act}
use Rattle.pv_picks.specs.Machine.Safety.{is_able}
use Rattle.machine_loops.proofs.Results.{needs_able, able_needs, met_able, waits_able, able_waits, not_false}
use Rattle.machine_loops.specs.Quiet.{is_quiet_step, are_quiet}
use Rattle.machine_loops.proofs.Quiet.{AreQuietFrames}

-- each message that a member at a position may ask for is there
abbrev pub HasMessages : World → World → ℕ → ℤ → Type 0
HasMessages w v b z =
    (label : Name) (d : ℕ) → (w.blocks b).sent label (z -ℤ pos d) ≡ true → (v.blocks b).sent label (z -ℤ pos d) ≡ true

module _ (p : Program) (w v : World) (i : ℕ) (f : Frame) (b : ℕ) (z : ℤ) (is : (w.threads i).role ≡ MemberOf b z)
    (too : (v.threads i).role ≡ MemberOf b z)
    (low : (v.blocks b).low ≡ (w.blocks b).low) (there : HasMessages w v b z) where
  read_able : (o : Option Value) (spot : Spot) (span : Span) (rest : List Task)
      → is_able (read p v i f [] o spot span rest) ≡ true
  read_able None spot span rest = refl
  read_able (Some x) spot span rest = refl

  write_able : (o : Option Value) (location : Location) (count : ℕ) (span : Span) (rest : List Task)
      → is_able (write p v i f [] o location count span rest) ≡ true
  write_able None location count span rest = refl
  write_able (Some x) location count span rest = refl

  length_able : (o : Option ℤ) (span : Span) (rest : List Task) → is_able (act_length p v i f [] o span rest) ≡ true
  length_able None span rest = refl
  length_able (Some x) span rest = refl

  fold_able : (d : Option Predicate) (object count : ℕ) (span : Span) (rest : List Task)
      → is_able (act_fold p w i f [] d object count span rest) ≡ true
      → is_able (act_fold p v i f [] d object count span rest) ≡ true
  fold_able None object count span rest h = refl
  fold_able (Some d) object count span rest h =
      needs_able (is_met_on v.heap object d.parameters (topmost count f.values) d.body) check.Fold span _ refl

  send_able : (receiver : Partner) (message : Message) (rest : List Task)
      → is_able (act_send p v i f [] receiver b z message rest) ≡ true
  send_able Nobody message rest = refl
  send_able Somebody message rest =
      met_able (unmet (sight_of v.heap f) (contract_scene f) message.formula) check.Send _ refl

  receive_able : (sender : Partner) (message : Message) (rest : List Task)
      → is_able (act_receive p w i f [] sender b (z -ℤ pos message.distance) message rest) ≡ true
      → is_able (act_receive p v i f [] sender b (z -ℤ pos message.distance) message rest) ≡ true
  receive_able Nobody message rest h = refl
  receive_able Somebody message rest h =
      able_waits ((v.blocks b).sent message.label (z -ℤ pos message.distance)) _
      (there message.label message.distance (waits_able ((w.blocks b).sent message.label (z -ℤ pos message.distance)) _ h).0) refl

  step_able : (m n : Mode) (step : Step) (rest : List Task) → is_quiet_step step ≡ true
      → is_able (act_step p w i f [] m step rest) ≡ true → is_able (act_step p v i f [] n step rest) ≡ true
  step_able m n (AtRead spot span) rest q h =
      needs_able (not_null (owner_of (location_on spot f.values))) check.Null span _
      (read_able (v.heap.value (location_on spot f.values)) spot span rest)
  step_able m n (AtWrite spot span) rest q h =
      needs_able (not_null (owner_of (location_on spot (drop 1 f.values)))) check.Null span _
      (write_able (v.heap.value (location_on spot (drop 1 f.values))) (location_on spot (drop 1 f.values))
      (suc (breadth spot)) span rest)
  step_able m n (AtLength type span) rest q h = length_able (v.heap.length (reference_in (top f.values))) span rest
  step_able m n (AtAssert formula) rest q h = met_able (unmet (sight_of v.heap f) (body_scene f) formula) check.Assert _ refl
  step_able m n (AtFold class predicate count span) rest q h =
      able_needs (not_null (object_under count f.values)) check.Null span
      (act_fold p w i f [] (predicate_named p class predicate) (object_under count f.values) count span rest)
      (act_fold p v i f [] (predicate_named p class predicate) (object_under count f.values) count span rest)
      (fold_able (predicate_named p class predicate) (object_under count f.values) count span rest) h
  step_able m n (AtHead named loop) rest q h = met_able (unmet (sight_of v.heap f) (body_scene f) loop.invariant) named _ refl
  step_able m n (AtSend message span) rest q h =
      needs_able (is_declared message) check.Send span _
      (subst (λ (r : Role). is_able (as_member p v i f [] r [] check.Send span (λ block position.
      act_send p v i f [] (receiver_of (v.blocks block) position message) block position message rest)) ≡ true) (sym too)
      (send_able (receiver_of (v.blocks b) z message) message rest))
  step_able m n (AtReceive message span) rest q h =
      able_needs (is_declared message) check.Send span
      (as_member p w i f [] (w.threads i).role [] check.Send span (λ block position.
      act_receive p w i f [] (sender_of (w.blocks block) position message) block (position -ℤ pos message.distance) message rest))
      (as_member p v i f [] (v.threads i).role [] check.Send span (λ block position.
      act_receive p v i f [] (sender_of (v.blocks block) position message) block (position -ℤ pos message.distance) message rest))
      (λ old.
      subst (λ (r : Role). is_able (as_member p v i f [] r [] check.Send span (λ block position.
      act_receive p v i f [] (sender_of (v.blocks block) position message) block
      (position -ℤ pos message.distance) message rest)) ≡ true) (sym too)
      (subst (λ (l : ℤ). is_able (act_receive p v i f [] (partner_if (int_le l (z -ℤ pos message.distance))) b
      (z -ℤ pos message.distance) message rest) ≡ true) (sym low)
      (receive_able (sender_of (w.blocks b) z message) message rest
      (subst (λ (r : Role). is_able (as_member p w i f [] r [] check.Send span (λ block position.
      act_receive p w i f [] (sender_of (w.blocks block) position message) block
      (position -ℤ pos message.distance) message rest)) ≡ true) is old)))) h
  step_able m n _ rest q h = absurd cc

  tasks_able : (m n : Mode) (ts : List Task) → are_quiet ts ≡ true → is_able (act_tasks p w i f [] m ts) ≡ true
      → is_able (act_tasks p v i f [] n ts) ≡ true
  tasks_able m n [] q h =
      subst (λ (r : Role). is_able (act_end p v i f [] r []) ≡ true) (sym too)
      (met_able (unmet (sight_of v.heap f) (contract_scene f) (v.blocks b).team.shared.one.after) check.BlockEnsures
      (Result.Went (with_frames v i [])) refl)
  tasks_able m n (Stand step ∷ rest) q h = step_able m n step rest (and_parts (is_quiet_step step) (are_quiet rest) q).0 h
  tasks_able m n _ q h = absurd cc

frames_able : (p : Program) (w v : World) (i b : ℕ) (z : ℤ) → (w.threads i).role ≡ MemberOf b z
    → (v.threads i).role ≡ MemberOf b z → (v.blocks b).low ≡ (w.blocks b).low → HasMessages w v b z → is_held_back v i ≡ false
    → (m n : Mode) (fs : List Frame) → AreQuietFrames fs → is_able (act_frames p w m i fs) ≡ true
    → is_able (act_frames p v n i fs) ≡ true
frames_able p w v i b z is too low there free m n [] q h = absurd (cc)
frames_able p w v i b z is too low there free m n (f ∷ []) q h =
    able_waits (not (is_held_back v i)) _ (not_false (is_held_back v i) free)
    (tasks_able p w v i f b z is too low there m n f.tasks q (waits_able (not (is_held_back w i)) _ h).1)
frames_able p w v i b z is too low there free m n (f ∷ g ∷ below) q h = absurd q

pub act-able : (p : Program) (w v : World) (i b : ℕ) (z : ℤ) (m n : Mode) → (w.threads i).role ≡ MemberOf b z
    → v.threads i ≡ w.threads i → (v.blocks b).low ≡ (w.blocks b).low → HasMessages w v b z → is_held_back v i ≡ false
    → AreQuietFrames (w.threads i).frames → is_able (act p w m i) ≡ true → is_able (act p v n i) ≡ true
act-able p w v i b z m n is same low there free q h =
    let too : (v.threads i).role ≡ MemberOf b z = ap (λ t. t.role) same ∙ is in
    subst (λ (fs : List Frame). is_able (act_frames p v n i fs) ≡ true) (sym (ap (λ t. t.frames) same))
    (frames_able p w v i b z is too low there free m n (w.threads i).frames q h)
