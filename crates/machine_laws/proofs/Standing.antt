-- Local work makes no task that waits for a call, so that what is left after it stands.
use Rattle.std.proofs.Common.{◌≡◌, ℕ, Bool, true, false, Some, None, List, [], ◌∷◌, drop, refl}
use Rattle.std.specs.Prelude.{◌&&◌, if◌then◌else◌, nat_eq, nat_le, nat_lt, ◌+◌, ◌-◌, ◌+ℤ◌, ℤ, pos}
use Rattle.pv_base.specs.declared.Span.{Span}
use Rattle.pv_picks.specs.declared.check.Check.TheVariants as check
use Rattle.pv_picks.specs.Plain.Core.{Expression, Constant, This, Result, Variable, Field, Element, Length, Not, Compute, Compare, Equal, And, Or, Implies, Old, Target, Nowhere, ToVariable, ToField, ToElement, Right, Value', Call, NewObject, NewArray, Statement, Assign, If, While, Members, Meet, Act, Fold, Unfold, Assert, Send, Receive, Return, Team, Block, Stop, Then, Method}
use Rattle.pv_values.specs.declared.value.Value.{Value}
use Rattle.pv_base.specs.declared.Name.{Name}
use Rattle.pv_picks.specs.Formulas.Heaps.{Heap, at_number}
use Rattle.pv_picks.specs.Formulas.Values.{width, with_arguments, no_variables, at_position}
use Rattle.pv_picks.specs.Machine.Tasks.{Step, AtHead, Task, Evaluate, EvaluateAll, Combine, Choose, Branch, Turn, Put, Drop, Give, Unfolded, Run, Stand, Resume, put_into, tasks_of_target, tasks_of_right, tasks_of_statement}
use Rattle.pv_picks.specs.Machine.Frames.{Frame, is_true, goes_on, no_value, kept, evaluated, worked, settled, entered}
use Rattle.pv_picks.specs.Machine.Worlds.{Thread, Mode, OpenBlock, World, is_member, with_frames, with_thread, with_members, member_of, member_thread}
use Rattle.pv_picks.specs.Machine.Steps.{frames_behind, all_behind}
use Rattle.machine_laws.specs.Rest.{is_at_rest}
use Rattle.machine_laws.specs.Standing.{are_free, await, all_await, is_standing, AreStanding}
use Rattle.machine_laws.proofs.Work.{settled-rest, settled-keeps}

evaluated-free : (f : Frame) (e : Expression) (ts : List Task) → are_free ts ≡ true → are_free (evaluated f e ts).tasks ≡ true
evaluated-free f (Constant v) ts h = h
evaluated-free f This ts h = h
evaluated-free f Result ts h = h
evaluated-free f (Variable name) ts h = h
evaluated-free f (Field object class name span) ts h = h
evaluated-free f (Element type array index span) ts h = h
evaluated-free f (Length type array span) ts h = h
evaluated-free f (Not e) ts h = h
evaluated-free f (Compute manner operation a b span) ts h = h
evaluated-free f (Compare order a b) ts h = h
evaluated-free f (Equal same a b) ts h = h
evaluated-free f (And a b) ts h = h
evaluated-free f (Or a b) ts h = h
evaluated-free f (Implies a b) ts h = h
evaluated-free f (Old e) ts h = h

target-free : (target : Target) (ts : List Task) → are_free ts ≡ true → are_free (tasks_of_target target ts) ≡ true
target-free Nowhere ts h = h
target-free (ToVariable name) ts h = h
target-free (ToField object class name span) ts h = h
target-free (ToElement type array index span) ts h = h

right-free : (right : Right) (span : Span) (ts : List Task) → are_free ts ≡ true → are_free (tasks_of_right right span ts) ≡ true
right-free (Value' e) span ts h = h
right-free (Call class method object arguments) span ts h = h
right-free (NewObject class) span ts h = h
right-free (NewArray type size) span ts h = h

put-free : (target : Target) (ts : List Task) → are_free ts ≡ true → are_free (put_into target ∷ ts) ≡ true
put-free Nowhere ts h = h
put-free (ToVariable name) ts h = h
put-free (ToField object class name span) ts h = h
put-free (ToElement type array index span) ts h = h

statement-free : (s : Statement) (ts : List Task) → are_free ts ≡ true → are_free (tasks_of_statement s ts) ≡ true
statement-free (Assign target right span) ts h =
    target-free target (tasks_of_right right span (put_into target ∷ ts))
    (right-free right span (put_into target ∷ ts) (put-free target ts h))
statement-free (If condition a b) ts h = h
statement-free (While assigned invariant condition body span) ts h = h
statement-free (Members team body span) ts h = h
statement-free (Meet barrier span) ts h = h
statement-free (Act action class object span) ts h = h
statement-free (Fold class predicate object arguments span) ts h = h
statement-free (Unfold class predicate object arguments span) ts h = h
statement-free (Assert formula span) ts h = h
statement-free (Send message span) ts h = h
statement-free (Receive message span) ts h = h
statement-free (Return None span) ts h = h
statement-free (Return (Some e) span) ts h = h

turn-free : (b : Bool) (body : Block) (back : Step) (ts : List Task) → are_free ts ≡ true
    → are_free (if b then Run body ∷ Stand back ∷ ts else ts) ≡ true
turn-free true body back ts h = h
turn-free false body back ts h = h

worked-free : (f : Frame) (ts : List Task) → are_free f.tasks ≡ true → are_free ts ≡ true → are_free (worked f ts).tasks ≡ true
worked-free f [] g h = g
worked-free f (Evaluate e ∷ ts) g h = evaluated-free f e ts h
worked-free f (EvaluateAll [] ∷ ts) g h = h
worked-free f (EvaluateAll (e ∷ es) ∷ ts) g h = h
worked-free f (Combine combination ∷ ts) g h = h
worked-free f (Choose a b ∷ ts) g h = h
worked-free f (Branch a b ∷ ts) g h = h
worked-free f (Turn loop ∷ ts) g h = turn-free (is_true f) loop.body (AtHead check.LoopKeep loop) ts h
worked-free f (Put name ∷ ts) g h = h
worked-free f (Drop ∷ ts) g h = h
worked-free f (Give ∷ ts) g h = h
worked-free f (Unfolded class predicate count span ∷ ts) g h = h
worked-free f (Run Stop ∷ ts) g h = h
worked-free f (Run (Then s b) ∷ ts) g h = statement-free s (Run b ∷ ts) h
worked-free f (Stand step ∷ ts) g h = g
worked-free f (Resume class method object arguments ∷ ts) g h = g

settled-free : (f : Frame) → are_free f.tasks ≡ true → are_free (settled f).tasks ≡ true
settled-free f h = settled-keeps (λ (g : Frame). are_free g.tasks ≡ true) (λ g k. worked-free g g.tasks k k) f h

three : (a b c : Bool) → a ≡ true → b ≡ true → c ≡ true → ((a && b) && c) ≡ true
three a b c x y z = rw (x, y, z) refl

-- of two truths both hold
pub both_true : (a b : Bool) → (a && b) ≡ true → (a ≡ true) × (b ≡ true)
both_true true b h = (refl, h)
both_true false b h = absurd (cc)

pub settled-stands : (f : Frame) (below : List Frame) → are_free f.tasks ≡ true → all_await below ≡ true
    → is_standing (settled f ∷ below) ≡ true
settled-stands f below h k =
    three (are_free (settled f).tasks) (is_at_rest (settled f)) (all_await below) (settled-free f h) (settled-rest f) k

pub stands-free : (f : Frame) (below : List Frame) → is_standing (f ∷ below) ≡ true → (are_free f.tasks ≡ true)
    × (all_await below ≡ true)
stands-free f below h =
    let a = both_true (are_free f.tasks && is_at_rest f) (all_await below) h in
    let b = both_true (are_free f.tasks) (is_at_rest f) a.0 in (b.0, a.1)

pub awaits-two : (f : Frame) (below : List Frame) → all_await (f ∷ below) ≡ true → (await f.tasks ≡ true)
    × (all_await below ≡ true)
awaits-two f below h = both_true (await f.tasks) (all_await below) h

pub drop-free : (ts : List Task) → are_free ts ≡ true → are_free (drop 1 ts) ≡ true
drop-free [] h = h
drop-free (Evaluate e ∷ ts) h = h
drop-free (EvaluateAll es ∷ ts) h = h
drop-free (Combine combination ∷ ts) h = h
drop-free (Choose a b ∷ ts) h = h
drop-free (Branch a b ∷ ts) h = h
drop-free (Turn loop ∷ ts) h = h
drop-free (Put name ∷ ts) h = h
drop-free (Drop ∷ ts) h = h
drop-free (Give ∷ ts) h = h
drop-free (Unfolded class predicate count span ∷ ts) h = h
drop-free (Run b ∷ ts) h = h
drop-free (Stand step ∷ ts) h = h
drop-free (Resume class method object arguments ∷ ts) h = absurd (cc)

pub awaited-free : (ts : List Task) → await ts ≡ true → are_free (drop 1 ts) ≡ true
awaited-free (Resume class method object arguments ∷ ts) h = h
awaited-free _ h = absurd (cc)

pub entered-stands : (heap : Heap) (class : Name) (m : Method) (object : ℕ) (arguments : List Value) (below : List Frame)
    → all_await below ≡ true
    → is_standing (entered heap class m object arguments ∷ below) ≡ true
entered-stands heap class m object arguments below h =
    let f : Frame = record {
      class = class;
      method = m;
      this = object;
      begun = with_arguments no_variables m.parameters arguments;
      variables = with_arguments no_variables m.parameters arguments;
      values = [];
      tasks = Run m.body ∷ [];
      result = no_value;
      old = kept m heap;
    } in
    settled-stands f below refl h

pub member-stands : (opener : Frame) (team : Team) (body : Block) (position : ℤ)
    → is_standing (member_of opener team body position ∷ []) ≡ true
member-stands opener team body position =
    let f : Frame = record opener {
      begun = at_position opener.variables team.variable position;
      variables = at_position opener.variables team.variable position;
      values = [];
      tasks = Run body ∷ [];
    } in
    settled-stands f [] refl refl

-- a thread that is put at a number stands, as all others do
pub put_stands : (n : ℕ) (t : Thread) (f : ℕ → Thread) → is_standing t.frames ≡ true → ((j : ℕ) → is_standing (f j).frames ≡ true)
    → (j : ℕ) → is_standing (at_number n t f j).frames ≡ true
put_stands n t f h k j = go (nat_eq j n) refl
  where
    go : (b : Bool) → nat_eq j n ≡ b → is_standing (at_number n t f j).frames ≡ true
    go true e = rw e h
    go false e = rw e (k j)

pub frames_stand : (w : World) (i : ℕ) (frames : List Frame) → AreStanding w → is_standing frames ≡ true
    → AreStanding (with_frames w i frames)
frames_stand w i frames s h = put_stands i (record { role = (w.threads i).role; frames = frames }) w.threads h s

pub thread_stands : (w : World) (t : Thread) → AreStanding w → is_standing t.frames ≡ true → AreStanding (with_thread w t)
thread_stands w t s h = put_stands w.count t w.threads h s

chosen_stands : (b : Bool) (t u : Thread) → is_standing t.frames ≡ true → is_standing u.frames ≡ true
    → is_standing (if b then t else u).frames ≡ true
chosen_stands true t u h k = h
chosen_stands false t u h k = k

pub members_stand : (w : World) (i : ℕ) (f : Frame) (team : Team) (body : Block) (mode : Mode) (low high : ℤ) → AreStanding w
    → AreStanding (with_members w i f team body mode low high)
members_stand w i f team body mode low high s j =
    chosen_stands (nat_le w.count j && nat_lt j (w.count + width low high)) (member_thread w f team body low j) (w.threads j)
    (member-stands f team body (low +ℤ pos (j - w.count))) (s j)

behind_stands : (frames : List Frame) → is_standing frames ≡ true → is_standing (frames_behind frames) ≡ true
behind_stands [] h = refl
behind_stands (f ∷ below) h =
    let a = stands-free f below h in settled-stands (goes_on f (drop 1 f.tasks)) below (drop-free f.tasks a.0) a.1

pub all_behind_stand : (w : World) (block : OpenBlock) → AreStanding w → AreStanding (all_behind w block)
all_behind_stand w block s j =
    chosen_stands (is_member block j) (record (w.threads j) { frames = frames_behind (w.threads j).frames }) (w.threads j)
    (behind_stands (w.threads j).frames (s j)) (s j)
