-- Local work keeps what is left calm, and so does each step.
use Rattle.std.proofs.Common.{◌≡◌, Bool, true, false, Some, None, List, [], ◌∷◌, refl, subst}
use Rattle.std.proofs.lemmas.Bool.{and_parts, and_from}
use Rattle.std.specs.Prelude.{◌&&◌, if◌then◌else◌}
use Rattle.pv_base.specs.declared.Name.{Name}
use Rattle.pv_base.specs.declared.Span.{Span}
use Rattle.pv_picks.specs.declared.check.Check.TheVariants as check
use Rattle.pv_picks.specs.Plain.Core.{Expression, This, Target, Nowhere, Right, NewObject, Statement, Assign, If, While, Members, Return, Block, Stop, Then, Method, Program}
use Rattle.pv_picks.specs.Machine.Tasks.{AtHead, AtCall, AtOpen, AtArrive, Loop, Task, Evaluate, EvaluateAll, Branch, Turn, Run, Stand, Resume, put_into, tasks_of_target, tasks_of_right, tasks_of_statement}
use Rattle.pv_picks.specs.Machine.Frames.{Frame, is_true, evaluated, worked}
use Rattle.pv_picks.specs.Machine.Worlds.{World}
use Rattle.pv_picks.specs.Machine.Safety.{IsReached}
use Rattle.core_names.specs.Carrying.{IsDeclared, InWorld}
use Rattle.core_names.proofs.Carried.{IsCarried, reached_good}
use Rattle.core_names.proofs.Declared.{declared_has}
use Rattle.machine_loops.specs.Calm.{quiet_if, is_calm_statement, is_calm_block, is_calm_task, are_calm, IsCalmFrame, IsCalmMethod, HasQuietLoops}

evaluated-calm : (f : Frame) (e : Expression) (ts : List Task) → are_calm ts ≡ true → are_calm (evaluated f e ts).tasks ≡ true
evaluated-calm f This ts h = h
evaluated-calm f _ ts h = h

target-calm : (target : Target) (ts : List Task) → are_calm ts ≡ true → are_calm (tasks_of_target target ts) ≡ true
target-calm Nowhere ts h = h
target-calm _ ts h = h

right-calm : (right : Right) (span : Span) (ts : List Task) → are_calm ts ≡ true → are_calm (tasks_of_right right span ts) ≡ true
right-calm (NewObject class) span ts h = h
right-calm _ span ts h = h

put-calm : (target : Target) (ts : List Task) → are_calm ts ≡ true → are_calm (put_into target ∷ ts) ≡ true
put-calm Nowhere ts h = h
put-calm _ ts h = h

statement-calm : (s : Statement) (ts : List Task) → is_calm_statement s ≡ true → are_calm ts ≡ true
    → are_calm (tasks_of_statement s ts) ≡ true
statement-calm (Assign target right span) ts q h =
    target-calm target (tasks_of_right right span (put_into target ∷ ts))
    (right-calm right span (put_into target ∷ ts) (put-calm target ts h))
statement-calm (If condition a b) ts q h = and_from (is_calm_block a && is_calm_block b) (are_calm ts) q h
statement-calm (While assigned invariant condition body span) ts q h = and_from (is_calm_block body) (are_calm ts) q h
statement-calm (Members team body span) ts q h = and_from (quiet_if team.counted body && is_calm_block body) (are_calm ts) q h
statement-calm (Return None span) ts q h = h
statement-calm (Return (Some e) span) ts q h = h
statement-calm _ ts q h = h

branch-calm : (t : Bool) (a b : Block) → (is_calm_block a && is_calm_block b) ≡ true → is_calm_block (if t then a else b) ≡ true
branch-calm true a b h = (and_parts (is_calm_block a) (is_calm_block b) h).0
branch-calm false a b h = (and_parts (is_calm_block a) (is_calm_block b) h).1

turn-calm : (t : Bool) (loop : Loop) (ts : List Task) → is_calm_block loop.body ≡ true → are_calm ts ≡ true
    → are_calm (if t then Run loop.body ∷ Stand (AtHead check.LoopKeep loop) ∷ ts else ts) ≡ true
turn-calm true loop ts q h =
    and_from (is_calm_block loop.body) (is_calm_block loop.body && are_calm ts) q
    (and_from (is_calm_block loop.body) (are_calm ts) q h)
turn-calm false loop ts q h = h

worked-calm : (f : Frame) (ts : List Task) → are_calm f.tasks ≡ true → are_calm ts ≡ true → are_calm (worked f ts).tasks ≡ true
worked-calm f [] g h = g
worked-calm f (Evaluate e ∷ ts) g h = evaluated-calm f e ts h
worked-calm f (EvaluateAll [] ∷ ts) g h = h
worked-calm f (EvaluateAll (e ∷ es) ∷ ts) g h = h
worked-calm f (Branch a b ∷ ts) g h =
    let s = and_parts (is_calm_block a && is_calm_block b) (are_calm ts) h in
    and_from (is_calm_block (if is_true f then a else b)) (are_calm ts) (branch-calm (is_true f) a b s.0) s.1
worked-calm f (Turn loop ∷ ts) g h =
    let s = and_parts (is_calm_block loop.body) (are_calm ts) h in turn-calm (is_true f) loop ts s.0 s.1
worked-calm f (Run Stop ∷ ts) g h = h
worked-calm f (Run (Then s b) ∷ ts) g h =
    let x = and_parts (is_calm_statement s && is_calm_block b) (are_calm ts) h in
    let y = and_parts (is_calm_statement s) (is_calm_block b) x.0 in
    statement-calm s (Run b ∷ ts) y.0 (and_from (is_calm_block b) (are_calm ts) y.1 x.1)
worked-calm f (Stand step ∷ ts) g h = g
worked-calm f (Resume class method object arguments ∷ ts) g h = g
worked-calm f (_ ∷ ts) g h = h

-- the parts of what is left
parts : (f : Frame) (t : Task) (rest : List Task) → f.tasks ≡ t ∷ rest → are_calm f.tasks ≡ true
    → (is_calm_task t ≡ true) × (are_calm rest ≡ true)
parts f t rest is h = and_parts (is_calm_task t) (are_calm rest) (subst (λ (ts : List Task). are_calm ts ≡ true) is h)

-- what is looked up by name
declared-calm : (p : Program) → HasQuietLoops p → (class : Name) (m : Method) → IsDeclared p class m → IsCalmMethod m
declared-calm p loops = declared_has IsCalmMethod p loops

carried : (p : Program) → HasQuietLoops p → IsCarried p IsCalmFrame
carried p loops = record {
  work = λ member f h. worked-calm f f.tasks h h;
  behind = λ member f step rest values is left h. (parts f (Stand step) rest is h).1;
  turns = λ member f named loop rest is h.
      let a = parts f (Stand (AtHead named loop)) rest is h in and_from (is_calm_block loop.body) (are_calm rest) a.0 a.1;
  calls =
      λ member f class name count span rest m object arguments is h. (parts f (Stand (AtCall class name count span)) rest is h).1;
  returns = λ member f class m object arguments rest v is h. (parts f (Resume class m object arguments) rest is h).1;
  enters = λ heap class m object arguments is. and_from (is_calm_block m.body) true (declared-calm p loops class m is) refl;
  closes = λ member f inner body rest number is h. (parts f (Stand (AtOpen inner body)) rest is h).1;
  opens = λ member f inner body rest position is h.
      let a = parts f (Stand (AtOpen inner body)) rest is h in
      and_from (is_calm_block body) true (and_parts (quiet_if inner.counted body) (is_calm_block body) a.0).1 refl;
  arrives = λ member f barrier span rest is h. (parts f (Stand (AtArrive barrier span)) rest is h).1;
}

-- in a reached world what is left to do is calm
pub reached-calm : (p : Program) → HasQuietLoops p → (w : World) → IsReached p w → InWorld IsCalmFrame w
reached-calm p loops w r = reached_good p IsCalmFrame (carried p loops) w r
