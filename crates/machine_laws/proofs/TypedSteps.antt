-- A step of a well typed world leads to a well typed world.
use Rattle.std.proofs.Common.{◌≡◌, refl, sym, subst, ap, ℕ, suc, ℤ, pos, negsuc, Bool, true, false, cond, Option, Some, None, IsSome, List, [], ◌∷◌, length, nat_eq}
use Rattle.std.specs.Prelude.{◌&&◌, not, is_none, drop, reverse, take, nat_le, nat_lt, ◌+◌, ◌-◌, ◌+ℤ◌, ◌-ℤ◌, if◌then◌else◌}
use Rattle.std.proofs.lemmas.Option.{none-some, same_Some}
use Rattle.std.proofs.lemmas.Bool.{ltb-true, leb-true}
use Rattle.pv_base.specs.declared.Name.{Name}
use Rattle.pv_base.specs.declared.Span.{Span}
use Rattle.pv_ast.specs.declared.PvType.{PvType}
use Rattle.pv_ast.specs.declared.PvType.TheVariants.{Int, Truth, Object}
use Rattle.pv_values.specs.declared.value.Value.{Value}
use Rattle.pv_values.specs.declared.value.Value.TheVariants as value
use Rattle.pv_values.specs.declared.value.Location.{Location}
use Rattle.pv_values.specs.Changes.{owner_of}
use Rattle.pv_picks.specs.declared.check.Check.{Check}
use Rattle.pv_picks.specs.declared.check.Check.TheVariants as check
use Rattle.pv_picks.specs.Plain.Core.{Formula, Action, Fork, Join', Lock, Unlock, Commit, Message, Barrier, Team, Block, Predicate, Method, Parameter, Program}
use Rattle.pv_picks.specs.Plain.Members.{predicate_named, method_named, run_of, invariant_of}
use Rattle.pv_picks.specs.Formulas.Values.{number_in, reference_in, array_of, default_of, at_position, width}
use Rattle.pv_picks.specs.Formulas.Heaps.{Heap, at_number, written, with_object, with_array}
use Rattle.pv_picks.specs.Machine.Labels.{Label}
use Rattle.pv_picks.specs.Machine.Starts.{field_kind}
use Rattle.pv_picks.specs.Machine.Tasks.{Spot, FieldOf, ElementOf, Step, AtRead, AtWrite, AtLength, AtNewObject, AtNewArray, AtAssert, AtFold, AtHead, AtCall, AtAction, AtOpen, AtClose, AtArrive, AtLeave, AtSend, AtReceive, Task, Evaluate, EvaluateAll, Combine, Choose, Branch, Turn, Put, Drop, Give, Unfolded, Run, Stand, Resume}
use Rattle.pv_picks.specs.Machine.Frames.{Frame, top, second, topmost, location_on, object_under, breadth, goes_on, pops, pushes, settled, entered, sight_of, body_scene, contract_scene}
use Rattle.pv_picks.specs.Formulas.Meeting.{Finding, AllMet, FirstUnmet, unmet, unmet_shared}
use Rattle.pv_picks.specs.Machine.Worlds.{Role, Entry, RunOf, MemberOf, Thread, Mode, Free, OpenBlock, ThreadState, World, is_member, member_count, member_of, member_thread, members_ended, with_frames, with_holder, with_committed_object, with_message, with_members, is_held_back}
use Rattle.pv_picks.specs.Machine.Steps.{Result, not_null, is_met_on, called, forked, keeps_invariant, is_own, act_new_object, act_open, act_arrive, act_leave, all_leave, all_behind, frames_behind, frames_leave, tasks_leave, ended, needs, needs_met, waits_unless, goes, read, write, act_length, act_new_array, act_fold, act_call, act_fork, act_join, act_lock, act_unlock, act_commit, act_on, Partner, Somebody, Nobody, receiver_of, sender_of, is_declared, act_send, act_receive, as_member, act_step, act_end, returned, act_tasks, act_frames, act, first_fields}
use Rattle.machine_laws.specs.HeapSteps.{WhereItGoes}
use Rattle.pv_picks.specs.Typing.Heaps.{KeepsKinds}
use Rattle.machine_laws.proofs.Standing.{both_true}
use Rattle.machine_laws.proofs.Ordered.{each_from-true}
use Rattle.machine_laws.proofs.Typed.{after-keeps, act-typed}
use Rattle.pv_picks.specs.Typing.Expressions.{Home, answer_of, IsElement, onto}
use Rattle.pv_picks.specs.Typing.Blocks.{types_of, gives, inside, BlockFits, MethodFits, ProgramFits}
use Rattle.pv_picks.specs.Typing.Tasks.{StepFits, reads_field, reads_element, writes_field, writes_element, takes_length, makes_object, makes_array, at_assert, at_fold, at_head, at_call, at_action, at_open, at_close, at_arrive, at_leave, at_send, at_receive, IsAnswered, TasksFit, done, evaluates, turns, runs, stands, resumes}
use Rattle.pv_picks.specs.Typing.Frames.{HasType, ValuesFit, FrameFits}
use Rattle.pv_picks.specs.Typing.Worlds.{home, BelowFits, FramesFit, ThreadsFit, WorldFits}
use Rattle.machine_laws.proofs.Local.{top-fits, rest-fits, two-fit, under-fits, past-fits, drop-one, new-fits}
use Rattle.machine_laws.proofs.Labels.{second-one, step-fits, next-fits}
use Rattle.machine_laws.proofs.Kept.{Keeps, same-kept, type-kept, values-kept, below-kept, frames-kept, rested, chosen-fits, read-field, read-element, object-new, number-new, array-new, taken-fits, object-fits, entered-fits}

abbrev Fine : Program → Result → Type 0
Fine p r = WhereItGoes (λ v. ThreadsFit p v.heap v.threads) r

needs_fine : (p : Program) (b : Bool) (named : Check) (span : Span) (r : Result) → Fine p r → Fine p (needs b named span r)
needs_fine p true named span r h = h
needs_fine p false named span r h = tt

met_fine : (p : Program) (u : Finding) (named : Check) (r : Result) → Fine p r → Fine p (needs_met u named r)
met_fine p AllMet named r h = h
met_fine p (FirstUnmet span) named r h = tt

waits_fine : (p : Program) (b : Bool) (r : Result) → Fine p r → Fine p (waits_unless b r)
waits_fine p true r h = h
waits_fine p false r h = tt

put_fits : (p : Program) (heap : Heap) (n : ℕ) (t : Thread) (f : ℕ → Thread) → FramesFit p heap t.frames → ThreadsFit p heap f
    → ThreadsFit p heap (at_number n t f)
put_fits p heap n t f h k j = chosen-fits p heap (nat_eq j n) t (f j) h (k j)

three_fit : (heap : Heap) (a b c : PvType) (types : List PvType) (vs : List Value) → ValuesFit heap (a ∷ b ∷ c ∷ types) vs
    → ValuesFit heap types (drop 3 vs)
three_fit heap a b c types vs h =
    subst (λ us. ValuesFit heap types us) (drop-one 2 vs) (rest-fits heap c types (drop 2 vs) (two-fit heap a b (c ∷ types) vs h))

leave_fits : (h : Home) (xs : List Parameter) (given : Bool) (stack : List PvType) (place : List ℕ) (ts : List Task)
    → tasks_leave place ts ≡ true
    → TasksFit h xs given stack ts → TasksFit h xs given stack (drop 1 ts)
leave_fits h xs given stack place (Stand (AtLeave barrier span) ∷ rest) e (stands after at_leave d) = d
leave_fits h xs given stack place [] e d = absurd (cc)
leave_fits h xs given stack place (Evaluate x ∷ rest) e d = absurd (cc)
leave_fits h xs given stack place (EvaluateAll es ∷ rest) e d = absurd (cc)
leave_fits h xs given stack place (Combine c ∷ rest) e d = absurd (cc)
leave_fits h xs given stack place (Choose a b ∷ rest) e d = absurd (cc)
leave_fits h xs given stack place (Branch a b ∷ rest) e d = absurd (cc)
leave_fits h xs given stack place (Turn l ∷ rest) e d = absurd (cc)
leave_fits h xs given stack place (Put n ∷ rest) e d = absurd (cc)
leave_fits h xs given stack place (Drop ∷ rest) e d = absurd (cc)
leave_fits h xs given stack place (Give ∷ rest) e d = absurd (cc)
leave_fits h xs given stack place (Unfolded c q n s ∷ rest) e d = absurd (cc)
leave_fits h xs given stack place (Run b ∷ rest) e d = absurd (cc)
leave_fits h xs given stack place (Resume c m o a ∷ rest) e d = absurd (cc)
leave_fits h xs given stack place (Stand (AtRead a s) ∷ rest) e d = absurd (cc)
leave_fits h xs given stack place (Stand (AtWrite a s) ∷ rest) e d = absurd (cc)
leave_fits h xs given stack place (Stand (AtLength t s) ∷ rest) e d = absurd (cc)
leave_fits h xs given stack place (Stand (AtNewObject c) ∷ rest) e d = absurd (cc)
leave_fits h xs given stack place (Stand (AtNewArray t s) ∷ rest) e d = absurd (cc)
leave_fits h xs given stack place (Stand (AtAssert f) ∷ rest) e d = absurd (cc)
leave_fits h xs given stack place (Stand (AtFold c q n s) ∷ rest) e d = absurd (cc)
leave_fits h xs given stack place (Stand (AtHead c l) ∷ rest) e d = absurd (cc)
leave_fits h xs given stack place (Stand (AtCall c m n s) ∷ rest) e d = absurd (cc)
leave_fits h xs given stack place (Stand (AtAction a c s) ∷ rest) e d = absurd (cc)
leave_fits h xs given stack place (Stand (AtOpen t b) ∷ rest) e d = absurd (cc)
leave_fits h xs given stack place (Stand (AtClose n) ∷ rest) e d = absurd (cc)
leave_fits h xs given stack place (Stand (AtArrive b s) ∷ rest) e d = absurd (cc)
leave_fits h xs given stack place (Stand (AtSend m s) ∷ rest) e d = absurd (cc)
leave_fits h xs given stack place (Stand (AtReceive m s) ∷ rest) e d = absurd (cc)

behind_fits : (p : Program) (heap : Heap) (place : List ℕ) (fs : List Frame) → frames_leave place fs ≡ true → FramesFit p heap fs
    → FramesFit p heap (frames_behind fs)
behind_fits p heap place [] e t = tt
behind_fits p heap place (f ∷ below) e t = (
  t.0,
  rested p f.class t.0 heap (goes_on f (drop 1 f.tasks)) (record {
    scope = t.1.scope;
    given = t.1.given;
    stack = t.1.stack;
    class = t.1.class;
    this = t.1.this;
    variables = t.1.variables;
    result = t.1.result;
    values = t.1.values;
    tasks = leave_fits (home p f.class t.0) t.1.scope t.1.given t.1.stack place f.tasks e t.1.tasks;
  }),
  t.2,
)

all_behind_fit : (p : Program) (w : World) (block : OpenBlock) (place : List ℕ) → all_leave w block place ≡ true
    → ThreadsFit p w.heap w.threads
    → ThreadsFit p w.heap (all_behind w block).threads
all_behind_fit p w block place e t j = go (is_member block j) refl
  where
    go : (b : Bool) → is_member block j ≡ b
        → FramesFit p w.heap (cond b (record (w.threads j) { frames = frames_behind (w.threads j).frames }) (w.threads j)).frames
    go true m =
        let s = both_true (nat_le block.first j) (nat_lt j (block.first + member_count block)) m in
        behind_fits p w.heap place (w.threads j).frames
        (each_from-true (λ k. frames_leave place (w.threads k).frames) block.first (member_count block) e j
        (leb-true block.first j s.0) (ltb-true j (block.first + member_count block) s.1)) (t j)
    go false m = t j

module _ (p : Program) (program : ProgramFits p) (w : World) (typed : WorldFits p w) (i : ℕ) (f : Frame) (below : List Frame)
    (answer : Option PvType) (t : FrameFits (home p f.class answer) w.heap f) (others : BelowFits p w.heap answer below) where
  put_on : (new : Heap) → Keeps w.heap new → (fs : List Frame) → FramesFit p new fs
      → ThreadsFit p new (with_frames w i fs).threads
  put_on new k fs h = put_fits p new i (record { role = (w.threads i).role; frames = fs }) w.threads h
      (λ j. frames-kept w.heap new k p (w.threads j).frames (typed.threads j))

  goes_fits : (new : Heap) → Keeps w.heap new → (g : Frame) → FrameFits (home p f.class answer) new g
      → ThreadsFit p new (goes p w i f below g).threads
  goes_fits new k g h =
      put_on new k (settled g ∷ below) (answer, rested p f.class answer new g h, below-kept w.heap new k p answer below others)

  -- other values and tasks
  gone : (new : Heap) → Keeps w.heap new → (vs : List Value) (ts : List Task) (stack : List PvType) → ValuesFit new stack vs
      → TasksFit (home p f.class answer) t.scope t.given stack ts
      → ThreadsFit p new (goes p w i f below (record f { values = vs; tasks = ts })).threads
  gone new k vs ts stack v d =
      goes_fits new k (record f { values = vs; tasks = ts }) (record {
        scope = t.scope;
        given = t.given;
        stack = stack;
        class = t.class;
        this = type-kept w.heap new k (Object f.class) (value.Reference f.this) t.this;
        variables = λ name type e. type-kept w.heap new k type (f.variables name.0) (t.variables name type e);
        result = λ g type e. type-kept w.heap new k type f.result (t.result g type e);
        values = v;
        tasks = d;
      })

  here : (vs : List Value) (ts : List Task) (stack : List PvType) → ValuesFit w.heap stack vs
      → TasksFit (home p f.class answer) t.scope t.given stack ts
      → ThreadsFit p w.heap (goes p w i f below (record f { values = vs; tasks = ts })).threads
  here vs ts stack v d = gone w.heap (same-kept w.heap) vs ts stack v d

  abbrev Rest : List PvType → List Task → Type 0
  Rest stack ts = TasksFit (home p f.class answer) t.scope t.given stack ts

  abbrev At : List PvType → Step → List PvType → Type 0
  At stack step after = StepFits (home p f.class answer) t.scope stack step after

  read_fine : {stack after : List PvType} (v : Option Value) (spot : Spot) (span : Span) (rest : List Task)
      → w.heap.value (location_on spot f.values) ≡ v
      → ValuesFit w.heap stack f.values → At stack (AtRead spot span) after → Rest after rest
      → Fine p (read p w i f below v spot span rest)
  read_fine None spot span rest e vs s d = tt
  read_fine (Some v) (FieldOf class name) span rest e vs (reads_field {stack = st} {type = type} k) d =
      here (v ∷ drop 1 f.values) rest (type ∷ st) (
        read-field p w.heap class name type (top f.values) v typed.heap k (top-fits w.heap (Object class) st f.values vs) e,
        rest-fits w.heap (Object class) st f.values vs,
      ) d
  read_fine (Some v) (ElementOf type) span rest e vs (reads_element {stack = st} {array = array} k l) d =
      let a : HasType w.heap array (second f.values) =
      subst (λ u. HasType w.heap array u) (sym (second-one f.values))
      (top-fits w.heap array st (drop 1 f.values) (rest-fits w.heap Int (array ∷ st) f.values vs)) in
      here (v ∷ drop 2 f.values) rest (type ∷ st) (
        read-element p w.heap type (second f.values) v (number_in (top f.values)) typed.heap l
            (subst (λ u. HasType w.heap u (second f.values)) k a) e,
        two-fit w.heap Int array st f.values vs,
      ) d

  fewer : {stack after : List PvType} (spot : Spot) (at : Span) → ValuesFit w.heap stack f.values
      → At stack (AtWrite spot at) after
      → ValuesFit w.heap after (drop (suc (breadth spot)) f.values)
  fewer (FieldOf class name) at vs (writes_field {stack = st} {type = type} k) = two-fit w.heap type (Object class) st f.values vs
  fewer (ElementOf type) at vs (writes_element {stack = st} {array = array} k l) = three_fit w.heap type Int array st f.values vs

  write_fine : {stack after : List PvType} (v : Option Value) (spot : Spot) (span at : Span) (rest : List Task)
      → w.heap.value (location_on spot (drop 1 f.values)) ≡ v → ValuesFit w.heap stack f.values → At stack (AtWrite spot at) after
      → Rest after rest
      → Fine p (write p w i f below v (location_on spot (drop 1 f.values)) (suc (breadth spot)) span rest)
  write_fine None spot span at rest e vs s d = tt
  write_fine {stack} {after} (Some v) spot span at rest e vs s d =
      let location : Location = location_on spot (drop 1 f.values) in
      let fits : KeepsKinds (field_kind p) w.heap (Some (Label.Write location (top f.values))) =
      step-fits (home p f.class answer) w.heap t.scope (AtWrite spot at) f.values (pos 0) typed.heap vs s in
      let k : Keeps w.heap (written w.heap location (top f.values)) =
      after-keeps p (Some (Label.Write location (top f.values))) w.heap typed.heap fits (subst (λ o. IsSome o) (sym e) refl) in
      gone (written w.heap location (top f.values)) k (drop (suc (breadth spot)) f.values) rest after
      (values-kept w.heap (written w.heap location (top f.values)) k after (drop (suc (breadth spot)) f.values)
      (fewer spot at vs s)) d

  length_fine : {stack : List PvType} (array : PvType) (n : Option ℤ) (span : Span) (rest : List Task)
      → ValuesFit w.heap (array ∷ stack) f.values
      → Rest (Int ∷ stack) rest → Fine p (act_length p w i f below n span rest)
  length_fine array None span rest vs d = tt
  length_fine {stack} array (Some n) span rest vs d =
      here (value.Number n ∷ drop 1 f.values) rest (Int ∷ stack) (refl, rest-fits w.heap array stack f.values vs) d

  object_fine : {stack : List PvType} (class : Name) (rest : List Task) → ValuesFit w.heap stack f.values
      → Rest (Object class ∷ stack) rest
      → Fine p (act_new_object p w i f below class rest)
  object_fine {stack} class rest vs d =
      let new : Heap = with_object w.heap class (first_fields p class) in
      let k : Keeps w.heap new = after-keeps p (Some (Label.NewObject class)) w.heap typed.heap tt tt in
      gone new k (value.Reference (suc w.heap.count) ∷ f.values) rest (Object class ∷ stack) (
        object-new w.heap class (nat_eq (suc w.heap.count) (suc w.heap.count)) (number-new w.heap),
        values-kept w.heap new k stack f.values vs,
      ) d

  array_fine : {stack : List PvType} (n : ℤ) (type : PvType) (span : Span) (rest : List Task)
      → ValuesFit w.heap (Int ∷ stack) f.values → IsElement type
      → Rest (array_of type ∷ stack) rest → Fine p (act_new_array p w i f below n type span rest)
  array_fine (negsuc n) type span rest vs l d = tt
  array_fine {stack} (pos n) type span rest vs l d =
      let new : Heap = with_array w.heap (default_of type) n in
      let k : Keeps w.heap new = after-keeps p (Some (Label.NewArray type (pos n))) w.heap typed.heap l tt in
      gone new k (value.Reference (suc w.heap.count) ∷ drop 1 f.values) rest (array_of type ∷ stack)
      (array-new w.heap type n l, values-kept w.heap new k stack (drop 1 f.values) (rest-fits w.heap Int stack f.values vs)) d

  fold_fine : {stack : List PvType} (o : Option Predicate) (object count : ℕ) (span : Span) (rest : List Task)
      → ValuesFit w.heap stack (drop (suc count) f.values) → Rest stack rest
      → Fine p (act_fold p w i f below o object count span rest)
  fold_fine None object count span rest vs d = tt
  fold_fine {stack} (Some o) object count span rest vs d =
      needs_fine p (is_met_on w.heap object o.parameters (topmost count f.values) o.body) check.Fold span
      (Result.Went (goes p w i f below (pops (suc count) f rest))) (here (drop (suc count) f.values) rest stack vs d)

  called_fits : {stack : List PvType} (m : Method) (class : Name) (object count : ℕ) (rest : List Task) → MethodFits p class m
      → HasType w.heap (Object class) (value.Reference object) → ValuesFit w.heap (types_of m.parameters) (topmost count f.values)
      → ValuesFit w.heap stack (drop (suc count) f.values) → Rest (answer_of m ∷ stack) rest
      → ThreadsFit p w.heap (called p w i f below m class object count rest).threads
  called_fits {stack} m class object count rest fits o a vs d =
      put_on w.heap (same-kept w.heap)
      (entered w.heap class m object (topmost count f.values)
      ∷ pops (suc count) f (Resume class m object (topmost count f.values) ∷ rest) ∷ below) (
        Some (answer_of m),
        entered-fits p w.heap class m object (topmost count f.values) fits o a,
        (
          answer,
          record {
            fits = record {
              scope = t.scope;
              given = t.given;
              stack = stack;
              class = refl;
              this = t.this;
              variables = t.variables;
              result = t.result;
              values = vs;
              tasks = resumes d;
            };
            class = class;
            method = m;
            object = object;
            arguments = topmost count f.values;
            rest = rest;
            waits = refl;
            called = refl;
          },
          others,
        ),
      )

  call_fine : {stack before : List PvType} (found : Option Method) (class name : Name) (m : Method) (count : ℕ) (span : Span)
      (rest : List Task)
      → found ≡ Some m → method_named p class name ≡ Some m → before ≡ onto (types_of m.parameters) (Object class ∷ stack)
      → length (types_of m.parameters) ≡ count → ValuesFit w.heap before f.values → Rest (answer_of m ∷ stack) rest
      → Fine p (act_call p w i f below found class (object_under count f.values) count span rest)
  call_fine None class name m count span rest same e s l vs d = tt
  call_fine {stack} {before} (Some n) class name m count span rest same e s l vs d =
      let object : ℕ = object_under count f.values in
      let k : m ≡ n = sym (same_Some n m same) in
      let us : ValuesFit w.heap (onto (types_of m.parameters) (Object class ∷ stack)) f.values =
      subst (λ ts. ValuesFit w.heap ts f.values) s vs in
      let o : HasType w.heap (Object class) (value.Reference object) =
      object-fits w.heap class (top (drop count f.values))
      (top-fits w.heap (Object class) stack (drop count f.values)
      (subst (λ c. ValuesFit w.heap (Object class ∷ stack) (drop c f.values)) l
      (under-fits w.heap (Object class ∷ stack) (types_of m.parameters) f.values us))) in
      let a : ValuesFit w.heap (types_of m.parameters) (topmost count f.values) =
      subst (λ c. ValuesFit w.heap (types_of m.parameters) (reverse (take c f.values))) l
      (taken-fits w.heap (Object class ∷ stack) (types_of m.parameters) f.values us) in
      let c : ThreadsFit p w.heap (called p w i f below n class object count rest).threads =
      subst (λ x. ThreadsFit p w.heap (called p w i f below x class object count rest).threads) k
      (called_fits {stack = stack} m class object count rest (program.methods class name m e) o a
      (past-fits w.heap stack before (Object class) (types_of m.parameters) count f.values s l vs) d) in
      let r : Result = Result.Went (called p w i f below n class object count rest) in
      let met : Bool = is_met_on w.heap object n.parameters (topmost count f.values) n.contract.before in
      needs_fine p (not_null object) check.Null span (needs met check.Requires span r) (needs_fine p met check.Requires span r c)

  -- after an action on the object on top
  popped : {stack : List PvType} (class : Name) (rest : List Task) → ValuesFit w.heap (Object class ∷ stack) f.values
      → Rest stack rest
      → ThreadsFit p w.heap (goes p w i f below (pops 1 f rest)).threads
  popped {stack} class rest vs d = here (drop 1 f.values) rest stack (rest-fits w.heap (Object class) stack f.values vs) d

  fork_fine : {stack : List PvType} (s : ThreadState) (m : Option Method) (class : Name) (object : ℕ) (span : Span)
      (rest : List Task)
      → run_of p class ≡ m → HasType w.heap (Object class) (value.Reference object)
      → ValuesFit w.heap (Object class ∷ stack) f.values → Rest stack rest
      → Fine p (act_fork p w i f below s m class object span rest)
  fork_fine ThreadState.Idle None class object span rest e o vs d = tt
  fork_fine (ThreadState.Running j) None class object span rest e o vs d = tt
  fork_fine ThreadState.Ended None class object span rest e o vs d = tt
  fork_fine ThreadState.Idle (Some m) class object span rest e o vs d =
      let fits = program.runs class m e in
      needs_fine p (is_met_on w.heap object m.parameters [] m.contract.before) check.ForkRequires span
      (Result.Went (forked p w i f below m class object rest))
      (put_fits p w.heap w.count (record { role = RunOf object; frames = entered w.heap class m object [] ∷ [] })
      (goes p w i f below (pops 1 f rest)).threads (
        Some (answer_of m),
        entered-fits p w.heap class m object [] fits.0 o
            (subst (λ ps. ValuesFit w.heap (types_of ps) []) (sym fits.1) tt),
        tt,
      )
      (popped class rest vs d))
  fork_fine (ThreadState.Running j) (Some m) class object span rest e o vs d = tt
  fork_fine ThreadState.Ended (Some m) class object span rest e o vs d = tt

  join_fine : (s : ThreadState) (object : ℕ) (span : Span) (rest : List Task)
      → ThreadsFit p w.heap (goes p w i f below (pops 1 f rest)).threads
      → Fine p (act_join p w i f below s object span rest)
  join_fine ThreadState.Idle object span rest h = tt
  join_fine (ThreadState.Running j) object span rest h = tt
  join_fine ThreadState.Ended object span rest h = h

  invariant_fine : (invariant : Formula) (object : ℕ) (span : Span) (v : World) → ThreadsFit p v.heap v.threads
      → Fine p (keeps_invariant p w i f below invariant object span v)
  invariant_fine invariant object span v h =
      needs_fine p (is_met_on w.heap object [] [] invariant) check.LockInvariant span (Result.Went v) h

  lock_fine : (invariant : Option Formula) (object : ℕ) (span : Span) (rest : List Task)
      → ThreadsFit p w.heap (goes p w i f below (pops 1 f rest)).threads
      → Fine p (act_lock p w i f below invariant object span rest)
  lock_fine None object span rest h = tt
  lock_fine (Some invariant) object span rest h =
      let v : World = with_holder (goes p w i f below (pops 1 f rest)) object (Some i) in
      let r : Result = keeps_invariant p w i f below invariant object span v in
      waits_fine p (is_none (w.holder object)) (needs (w.committed object) check.NotCommitted span r)
      (needs_fine p (w.committed object) check.NotCommitted span r (invariant_fine invariant object span v h))

  unlock_fine : (invariant : Option Formula) (object : ℕ) (span : Span) (rest : List Task)
      → ThreadsFit p w.heap (goes p w i f below (pops 1 f rest)).threads
      → Fine p (act_unlock p w i f below invariant object span rest)
  unlock_fine None object span rest h = tt
  unlock_fine (Some invariant) object span rest h =
      let v : World = with_holder (goes p w i f below (pops 1 f rest)) object None in
      needs_fine p (is_own p w i f below (w.holder object)) check.NotHeld span
      (keeps_invariant p w i f below invariant object span v)
      (invariant_fine invariant object span v h)

  commit_fine : (invariant : Option Formula) (object : ℕ) (span : Span) (rest : List Task)
      → ThreadsFit p w.heap (goes p w i f below (pops 1 f rest)).threads
      → Fine p (act_commit p w i f below invariant object span rest)
  commit_fine None object span rest h = tt
  commit_fine (Some invariant) object span rest h =
      let v : World = with_committed_object (goes p w i f below (pops 1 f rest)) object in
      needs_fine p (not (w.committed object)) check.NotUncommitted span (keeps_invariant p w i f below invariant object span v)
      (invariant_fine invariant object span v h)

  on_fine : {stack : List PvType} (action : Action) (class : Name) (span : Span) (rest : List Task)
      → ValuesFit w.heap (Object class ∷ stack) f.values
      → Rest stack rest → Fine p (act_on p w i f below action class (reference_in (top f.values)) span rest)
  on_fine {stack} Fork class span rest vs d =
      fork_fine {stack = stack} (w.state (reference_in (top f.values))) (run_of p class) class
      (reference_in (top f.values)) span rest refl
      (object-fits w.heap class (top f.values) (top-fits w.heap (Object class) stack f.values vs)) vs d
  on_fine {stack} Join' class span rest vs d =
      join_fine (w.state (reference_in (top f.values))) (reference_in (top f.values)) span rest
      (popped {stack = stack} class rest vs d)
  on_fine {stack} Lock class span rest vs d =
      lock_fine (invariant_of p class) (reference_in (top f.values)) span rest (popped {stack = stack} class rest vs d)
  on_fine {stack} Unlock class span rest vs d =
      unlock_fine (invariant_of p class) (reference_in (top f.values)) span rest (popped {stack = stack} class rest vs d)
  on_fine {stack} Commit class span rest vs d =
      commit_fine (invariant_of p class) (reference_in (top f.values)) span rest (popped {stack = stack} class rest vs d)

  -- a step that leaves the values alone
  stays : {stack : List PvType} (ts : List Task) → ValuesFit w.heap stack f.values → Rest stack ts
      → ThreadsFit p w.heap (goes p w i f below
      (goes_on f ts)).threads
  stays {stack} ts vs d = here f.values ts stack vs d

  member_fits : (team : Team) (body : Block) (position : ℤ)
      → BlockFits (inside (home p f.class answer)) ((team.variable, Int) ∷ t.scope) body
      → FramesFit p w.heap (member_of f team body position ∷ [])
  member_fits team body position b =
      let g : Frame = record f {
        begun = at_position f.variables team.variable position;
        variables = at_position f.variables team.variable position;
        values = [];
        tasks = Run body ∷ [];
      } in (
        None,
        rested p f.class None w.heap g (record {
          scope = (team.variable, Int) ∷ t.scope;
          given = gives body;
          stack = [];
          class = refl;
          this = t.this;
          variables = new-fits w.heap t.scope f.variables team.variable Int (value.Number position) refl t.variables;
          result = λ e type k. absurd (none-some type k);
          values = tt;
          tasks = runs ((team.variable, Int) ∷ t.scope) false b (λ n ty e. e) (λ e. absurd (cc)) (done tt);
        }),
        tt,
      )

  open_fine : {stack : List PvType} (mode : Mode) (team : Team) (body : Block) (low high : ℤ) (rest : List Task)
      → ValuesFit w.heap (Int ∷ Int ∷ stack) f.values
      → BlockFits (inside (home p f.class answer)) ((team.variable, Int) ∷ t.scope) body → Rest stack rest
      → Fine p (act_open p w i f below mode team body low high rest)
  open_fine {stack} mode team body low high rest vs b d =
      let g : Frame = pops 2 f (Stand (AtClose w.block_count) ∷ rest) in
      let m : Mode = if team.counted then mode else Free in
      let v : World = goes p w i f below g in
      met_fine p (unmet_shared (sight_of w.heap f) (body_scene f) team.variable low high team.shared.each_before)
      check.BlockRequires
      (Result.Went (with_members v i f team body m low high))
      (λ j. chosen-fits p w.heap (nat_le v.count j && nat_lt j (v.count + width low high)) (member_thread v f team body low j)
      (v.threads j)
      (member_fits team body (low +ℤ pos (j - v.count)) b)
      (here (drop 2 f.values) (Stand (AtClose w.block_count) ∷ rest) stack (two-fit w.heap Int Int stack f.values vs)
      (stands stack at_close d) j))

  send_fine : (b : Partner) (block : ℕ) (position : ℤ) (message : Message) (rest : List Task)
      → ThreadsFit p w.heap (goes p w i f below (goes_on f rest)).threads
      → Fine p (act_send p w i f below b block position message rest)
  send_fine Nobody block position message rest h = h
  send_fine Somebody block position message rest h =
      met_fine p (unmet (sight_of w.heap f) (contract_scene f) message.formula) check.Send
      (Result.Went (with_message (goes p w i f below (goes_on f rest)) block message.label position)) h

  receive_fine : (b : Partner) (block : ℕ) (sender : ℤ) (message : Message) (rest : List Task)
      → ThreadsFit p w.heap (goes p w i f below (goes_on f rest)).threads
      → Fine p (act_receive p w i f below b block sender message rest)
  receive_fine Nobody block sender message rest h = h
  receive_fine Somebody block sender message rest h =
      waits_fine p ((w.blocks block).sent message.label sender) (Result.Went (goes p w i f below (goes_on f rest))) h

  leave_fine : (block : OpenBlock) (barrier : Barrier) (b : Bool) → all_leave w block barrier.place ≡ b
      → Fine p (waits_unless b (needs_met
      (unmet_shared (sight_of w.heap f) (contract_scene f) block.team.variable block.low block.high barrier.shared.each_after)
      check.BarrierEnsures
      (Result.Went (all_behind w block))))
  leave_fine block barrier false e = tt
  leave_fine block barrier true e =
      met_fine p (unmet_shared (sight_of w.heap f)
      (contract_scene f) block.team.variable block.low block.high barrier.shared.each_after)
      check.BarrierEnsures (Result.Went (all_behind w block)) (all_behind_fit p w block barrier.place e typed.threads)

  member_fine : (role : Role) (frames : List Frame) (named : Check) (span : Span) (act : ℕ → ℤ → Result)
      → ((block : ℕ) (position : ℤ) → Fine p (act block position))
      → Fine p (as_member p w i f below role frames named span act)
  member_fine Entry frames named span act h = tt
  member_fine (RunOf object) frames named span act h = tt
  member_fine (MemberOf block position) [] named span act h = h block position
  member_fine (MemberOf block position) (g ∷ gs) named span act h = tt

  -- a step with a message that is declared
  declared_fine : (message : Message) (span : Span) (act : ℕ → ℤ → Result)
      → ((block : ℕ) (position : ℤ) → Fine p (act block position))
      → Fine p (needs (is_declared message) check.Send span
      (as_member p w i f below (w.threads i).role below check.Send span act))
  declared_fine message span act h =
      needs_fine p (is_declared message) check.Send span (as_member p w i f below (w.threads i).role below check.Send span act)
      (member_fine (w.threads i).role below check.Send span act h)

  step_fine : {stack after : List PvType} (mode : Mode) (step : Step) (rest : List Task) → ValuesFit w.heap stack f.values
      → At stack step after
      → Rest after rest → Fine p (act_step p w i f below mode step rest)
  step_fine mode (AtRead spot span) rest vs s d =
      needs_fine p (not_null (owner_of (location_on spot f.values))) check.Null span (read p w i f below (w.heap.value
      (location_on spot f.values)) spot span rest)
      (read_fine (w.heap.value (location_on spot f.values)) spot span rest refl vs s d)
  step_fine mode (AtWrite spot span) rest vs s d =
      let location : Location = location_on spot (drop 1 f.values) in
      needs_fine p (not_null (owner_of location)) check.Null span
      (write p w i f below (w.heap.value location) location (suc (breadth spot)) span rest)
      (write_fine (w.heap.value location) spot span span rest refl vs s d)
  step_fine mode (AtLength type span) rest vs (takes_length {stack = st} {array = array} k) d =
      length_fine {stack = st} array (w.heap.length (reference_in (top f.values))) span rest vs d
  step_fine mode (AtNewObject class) rest vs (makes_object {stack = st}) d = object_fine {stack = st} class rest vs d
  step_fine mode (AtNewArray type span) rest vs (makes_array {stack = st} {array = array} k l) d =
      array_fine {stack = st} (number_in (top f.values)) type span rest vs l (subst (λ u. Rest (u ∷ st) rest) k d)
  step_fine mode (AtAssert formula) rest vs at_assert d =
      met_fine p (unmet (sight_of w.heap f) (body_scene f) formula) check.Assert
      (Result.Went (goes p w i f below (goes_on f rest))) (stays rest vs d)
  step_fine mode (AtFold class predicate count span) rest vs (at_fold {before = before} {stack = st} q found e l) d =
      let o : Option Predicate = predicate_named p class predicate in
      needs_fine p (not_null (object_under count f.values)) check.Null span
      (act_fold p w i f below o (object_under count f.values) count span rest)
      (fold_fine {stack = st} o (object_under count f.values) count span rest
      (past-fits w.heap st before (Object class) (types_of q.parameters) count f.values e l vs) d)
  step_fine {stack} mode (AtHead named loop) rest vs (at_head c b) d =
      let g : Frame = goes_on f (Evaluate loop.condition ∷ Turn loop ∷ rest) in
      met_fine p (unmet (sight_of w.heap f) (body_scene f) loop.invariant) named (Result.Went (goes p w i f below g))
      (stays {stack = stack} (Evaluate loop.condition ∷ Turn loop ∷ rest) vs (evaluates Truth c (turns c b d)))
  step_fine mode (AtCall class method count span) rest vs (at_call {before = before} {stack = st} m e s l) d =
      call_fine {stack = st} {before = before} (method_named p class method) class method m count span rest e e s l vs d
  step_fine mode (AtAction action class span) rest vs (at_action {stack = st} allowed) d =
      let object : ℕ = reference_in (top f.values) in
      needs_fine p (not_null object) check.Null span (act_on p w i f below action class object span rest)
      (on_fine {stack = st} action class span rest vs d)
  step_fine mode (AtOpen team body) rest vs (at_open {stack = st} b) d =
      open_fine {stack = st} mode team body (number_in (second f.values)) (number_in (top f.values)) rest vs b d
  step_fine mode (AtClose block) rest vs at_close d =
      waits_fine p (members_ended w (w.blocks block)) (Result.Went (goes p w i f below (goes_on f rest))) (stays rest vs d)
  step_fine {stack} mode (AtArrive barrier span) rest vs at_arrive d =
      member_fine (w.threads i).role below check.BarrierRequires span
      (λ block position. act_arrive p w i f below barrier span rest) (λ block position.
      let g : Frame = goes_on f (Stand (AtLeave barrier span) ∷ rest) in
      met_fine p (unmet (sight_of w.heap f) (contract_scene f) barrier.shared.one.before) check.BarrierRequires
      (Result.Went (goes p w i f below g))
      (stays {stack = stack} (Stand (AtLeave barrier span) ∷ rest) vs (stands stack at_leave d)))
  step_fine mode (AtLeave barrier span) rest vs s d =
      member_fine (w.threads i).role below check.BarrierEnsures span
      (λ block position. act_leave p w i f below (w.blocks block) barrier)
      (λ block position. leave_fine (w.blocks block) barrier (all_leave w (w.blocks block) barrier.place) refl)
  step_fine mode (AtSend message span) rest vs at_send d = declared_fine message span
      (λ block position. act_send p w i f below (receiver_of (w.blocks block) position message) block position message rest)
      (λ block position. send_fine (receiver_of (w.blocks block) position message) block position message rest (stays rest vs d))
  step_fine mode (AtReceive message span) rest vs at_receive d = declared_fine message span
      (λ block position. act_receive p w i f below (sender_of (w.blocks block) position message) block
      (position -ℤ pos message.distance) message rest)
      (λ block position. receive_fine (sender_of (w.blocks block) position message) block
      (position -ℤ pos message.distance) message rest (stays rest vs d))

  ended_fits : (role : Role) → ThreadsFit p w.heap (ended p w i f below role).threads
  ended_fits Entry = put_on w.heap (same-kept w.heap) [] tt
  ended_fits (RunOf object) = put_on w.heap (same-kept w.heap) [] tt
  ended_fits (MemberOf block position) = put_on w.heap (same-kept w.heap) [] tt

  ended_heap : (role : Role) → (ended p w i f below role).heap ≡ w.heap
  ended_heap Entry = refl
  ended_heap (RunOf object) = refl
  ended_heap (MemberOf block position) = refl

  resumed : {h : Home} {xs : List Parameter} {given : Bool} {stack : List PvType} (class : Name) (m : Method) (object : ℕ)
      (arguments : List Value)
      (rest : List Task) → TasksFit h xs given stack (Resume class m object arguments ∷ rest)
      → TasksFit h xs given (answer_of m ∷ stack) rest
  resumed class m object arguments rest (resumes d) = d

  returned_fits : (frames : List Frame) → BelowFits p w.heap answer frames → IsAnswered answer t.given
      → ThreadsFit p (returned p w i f below frames).heap (returned p w i f below frames).threads
  returned_fits [] b a = subst (λ heap. ThreadsFit p heap (ended p w i f below (w.threads i).role).threads)
      (sym (ended_heap (w.threads i).role))
      (ended_fits (w.threads i).role)
  returned_fits (g ∷ gs) b a =
      let s = b.1 in
      let given : t.given ≡ true = subst (λ o. IsAnswered o t.given) s.called a in
      put_on w.heap (same-kept w.heap) (settled (pushes f.result g (drop 1 g.tasks)) ∷ gs) (
        b.0,
        rested p g.class b.0 w.heap (pushes f.result g (drop 1 g.tasks)) (record {
          scope = s.fits.scope;
          given = s.fits.given;
          stack = answer_of s.method ∷ s.fits.stack;
          class = refl;
          this = s.fits.this;
          variables = s.fits.variables;
          result = s.fits.result;
          values = (t.result given (answer_of s.method) s.called, s.fits.values);
          tasks = subst (λ ts. TasksFit (home p g.class b.0) s.fits.scope s.fits.given (answer_of s.method ∷ s.fits.stack) ts)
              (sym (ap (λ ts. drop 1 ts) s.waits))
              (resumed s.class s.method s.object s.arguments s.rest
              (subst (λ ts. TasksFit (home p g.class b.0) s.fits.scope s.fits.given s.fits.stack ts) s.waits s.fits.tasks));
        }),
        b.2,
      )

  return_fine : (frames : List Frame) → BelowFits p w.heap answer frames → IsAnswered answer t.given
      → Fine p (needs_met (unmet (sight_of w.heap f) (contract_scene f) f.method.contract.after) check.Ensures
      (Result.Went (returned p w i f below frames)))
  return_fine frames b a =
      met_fine p (unmet (sight_of w.heap f) (contract_scene f) f.method.contract.after) check.Ensures
      (Result.Went (returned p w i f below frames))
      (returned_fits frames b a)

  end_fine : (role : Role) (frames : List Frame) → BelowFits p w.heap answer frames → IsAnswered answer t.given
      → Fine p (act_end p w i f below role frames)
  end_fine Entry frames b a = return_fine frames b a
  end_fine (RunOf object) frames b a = return_fine frames b a
  end_fine (MemberOf block position) [] b a =
      met_fine p (unmet (sight_of w.heap f) (contract_scene f) (w.blocks block).team.shared.one.after) check.BlockEnsures
      (Result.Went (with_frames w i []))
      (put_on w.heap (same-kept w.heap) [] tt)
  end_fine (MemberOf block position) (g ∷ gs) b a = return_fine (g ∷ gs) b a

  answered : {stack : List PvType} → Rest stack [] → IsAnswered answer t.given
  answered (done a) = a

  tasks_fine : {stack : List PvType} (mode : Mode) (ts : List Task) → ValuesFit w.heap stack f.values → Rest stack ts
      → Fine p (act_tasks p w i f below mode ts)
  tasks_fine mode [] vs d = end_fine (w.threads i).role below others (answered d)
  tasks_fine mode (Stand step ∷ ts) vs (stands after s d) = step_fine mode step ts vs s d
  tasks_fine mode (Evaluate x ∷ ts) vs d = tt
  tasks_fine mode (EvaluateAll es ∷ ts) vs d = tt
  tasks_fine mode (Combine c ∷ ts) vs d = tt
  tasks_fine mode (Choose a b ∷ ts) vs d = tt
  tasks_fine mode (Branch a b ∷ ts) vs d = tt
  tasks_fine mode (Turn l ∷ ts) vs d = tt
  tasks_fine mode (Put n ∷ ts) vs d = tt
  tasks_fine mode (Drop ∷ ts) vs d = tt
  tasks_fine mode (Give ∷ ts) vs d = tt
  tasks_fine mode (Unfolded c q n s ∷ ts) vs d = tt
  tasks_fine mode (Run b ∷ ts) vs d = tt
  tasks_fine mode (Resume c m o a ∷ ts) vs d = tt

frames_fine : (p : Program) (program : ProgramFits p) (w : World) (typed : WorldFits p w) (mode : Mode) (i : ℕ) (fs : List Frame)
    → FramesFit p w.heap fs
    → Fine p (act_frames p w mode i fs)
frames_fine p program w typed mode i [] t = tt
frames_fine p program w typed mode i (f ∷ below) t =
    waits_fine p (not (is_held_back w i)) (act_tasks p w i f below mode f.tasks)
    (tasks_fine p program w typed i f below t.0 t.1 t.2 mode f.tasks t.1.values t.1.tasks)

-- a step of a well typed world leads to a well typed world
pub act-fits : (p : Program) → ProgramFits p → (w v : World) (mode : Mode) (i : ℕ) → WorldFits p w
    → act p w mode i ≡ Result.Went v → WorldFits p v
act-fits p program w v mode i typed e = record {
  heap = act-typed p w v mode i typed.heap (next-fits p w typed i) e;
  threads = subst (λ r. Fine p r) e (frames_fine p program w typed mode i (w.threads i).frames (typed.threads i));
}
