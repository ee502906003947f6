-- Local work keeps quiet tasks quiet.
use Rattle.std.proofs.Common.{◌≡◌, Bool, true, false, ◌&&◌, Some, None, List, [], ◌∷◌, refl}
use Rattle.std.specs.Prelude.{if◌then◌else◌}
use Rattle.std.proofs.lemmas.Bool.{and_parts, and_from}
use Rattle.pv_base.specs.declared.Span.{Span}
use Rattle.pv_picks.specs.declared.check.Check.TheVariants as check
use Rattle.pv_picks.specs.Plain.Core.{Expression, This, Target, Nowhere, Right, Value', Statement, Assign, If, While, Members, Meet, Act, Return, Block, Stop, Then}
use Rattle.pv_picks.specs.Machine.Tasks.{AtHead, Loop, Task, Evaluate, EvaluateAll, Branch, Turn, Run, Stand, Resume, put_into, tasks_of_target, tasks_of_right, tasks_of_statement}
use Rattle.pv_picks.specs.Machine.Frames.{Frame, is_true, evaluated, worked, settled}
use Rattle.machine_laws.proofs.Work.{settled-keeps}
use Rattle.machine_loops.specs.Quiet.{is_quiet_right, is_quiet_statement, is_quiet_block, are_quiet}

-- the frames of a member: one, or none once it has ended
abbrev pub AreQuietFrames : List Frame → Type 0
AreQuietFrames [] = Unit {0}
AreQuietFrames (f ∷ []) = are_quiet f.tasks ≡ true
AreQuietFrames (f ∷ g ∷ below) = ⊥

put_quiet : (t : Target) (ts : List Task) → are_quiet ts ≡ true → are_quiet (put_into t ∷ ts) ≡ true
put_quiet Nowhere ts h = h
put_quiet _ ts h = h

target_quiet : (t : Target) (ts : List Task) → are_quiet ts ≡ true → are_quiet (tasks_of_target t ts) ≡ true
target_quiet Nowhere ts h = h
target_quiet _ ts h = h

right_quiet : (r : Right) (span : Span) (ts : List Task) → is_quiet_right r ≡ true → are_quiet ts ≡ true
    → are_quiet (tasks_of_right r span ts) ≡ true
right_quiet (Value' e) span ts q h = h
right_quiet _ span ts q h = absurd cc

statement_quiet : (s : Statement) (ts : List Task) → is_quiet_statement s ≡ true → are_quiet ts ≡ true
    → are_quiet (tasks_of_statement s ts) ≡ true
statement_quiet (Assign t r span) ts q h =
    target_quiet t (tasks_of_right r span (put_into t ∷ ts)) (right_quiet r span (put_into t ∷ ts) q (put_quiet t ts h))
statement_quiet (If condition a b) ts q h = and_from (is_quiet_block a && is_quiet_block b) (are_quiet ts) q h
statement_quiet (While assigned invariant condition body span) ts q h = and_from (is_quiet_block body) (are_quiet ts) q h
statement_quiet (Members team body span) ts q h = absurd cc
statement_quiet (Meet barrier span) ts q h = absurd cc
statement_quiet (Act action class object span) ts q h = absurd cc
statement_quiet (Return None span) ts q h = h
statement_quiet (Return (Some e) span) ts q h = h
statement_quiet _ ts q h = h

evaluated_quiet : (f : Frame) (e : Expression) (ts : List Task) → are_quiet ts ≡ true → are_quiet (evaluated f e ts).tasks ≡ true
evaluated_quiet f This ts h = h
evaluated_quiet f _ ts h = h

branch_quiet : (t : Bool) (a b : Block) → (is_quiet_block a && is_quiet_block b) ≡ true
    → is_quiet_block (if t then a else b) ≡ true
branch_quiet true a b h = (and_parts (is_quiet_block a) (is_quiet_block b) h).0
branch_quiet false a b h = (and_parts (is_quiet_block a) (is_quiet_block b) h).1

turn_quiet : (t : Bool) (loop : Loop) (ts : List Task) → is_quiet_block loop.body ≡ true → are_quiet ts ≡ true
    → are_quiet (if t then Run loop.body ∷ Stand (AtHead check.LoopKeep loop) ∷ ts else ts) ≡ true
turn_quiet true loop ts q h =
    and_from (is_quiet_block loop.body) (is_quiet_block loop.body && are_quiet ts) q
    (and_from (is_quiet_block loop.body) (are_quiet ts) q h)
turn_quiet false loop ts q h = h

worked_quiet : (f : Frame) (ts : List Task) → f.tasks ≡ ts → are_quiet ts ≡ true → are_quiet (worked f ts).tasks ≡ true
worked_quiet f [] e h = rw e refl
worked_quiet f (Evaluate x ∷ ts) e h = evaluated_quiet f x ts h
worked_quiet f (EvaluateAll [] ∷ ts) e h = h
worked_quiet f (EvaluateAll (x ∷ xs) ∷ ts) e h = h
worked_quiet f (Branch a b ∷ ts) e h =
    let s = and_parts (is_quiet_block a && is_quiet_block b) (are_quiet ts) h in
    and_from (is_quiet_block (if is_true f then a else b)) (are_quiet ts) (branch_quiet (is_true f) a b s.0) s.1
worked_quiet f (Turn loop ∷ ts) e h =
    let s = and_parts (is_quiet_block loop.body) (are_quiet ts) h in turn_quiet (is_true f) loop ts s.0 s.1
worked_quiet f (Run Stop ∷ ts) e h = h
worked_quiet f (Run (Then s b) ∷ ts) e h =
    let x = and_parts (is_quiet_statement s && is_quiet_block b) (are_quiet ts) h in
    let y = and_parts (is_quiet_statement s) (is_quiet_block b) x.0 in
    statement_quiet s (Run b ∷ ts) y.0 (and_from (is_quiet_block b) (are_quiet ts) y.1 x.1)
worked_quiet f (Stand step ∷ ts) e h = rw e h
worked_quiet f (Resume class method object arguments ∷ ts) e h = absurd (cc)
worked_quiet f (_ ∷ ts) e h = h

pub settled-quiet : (f : Frame) → are_quiet f.tasks ≡ true → are_quiet (settled f).tasks ≡ true
settled-quiet f h = settled-keeps (λ (g : Frame). are_quiet g.tasks ≡ true) (λ g k. worked_quiet g g.tasks refl k) f h
