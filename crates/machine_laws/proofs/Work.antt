-- Local work ends: each piece of it leaves less to do, and what is left where none can be done is a step.
use Rattle.std.proofs.Common.{◌≡◌, ℕ, zero, suc, ◌+◌, ◌<◌, ◌≤◌, Bool, true, false, Some, None, List, [], ◌∷◌, refl, arith, ◌⊎◌, inl, inr}
use Rattle.std.specs.Prelude.{if◌then◌else◌}
use Rattle.pv_base.specs.declared.Span.{Span}
use Rattle.pv_picks.specs.declared.check.Check.TheVariants as check
use Rattle.pv_picks.specs.Plain.Core.{Expression, Constant, This, Result, Variable, Field, Element, Length, Not, Compute, Compare, Equal, And, Or, Implies, Old, Target, Nowhere, ToVariable, ToField, ToElement, Right, Value', Call, NewObject, NewArray, Statement, Assign, If, While, Members, Meet, Act, Fold, Unfold, Assert, Send, Receive, Return, Block, Stop, Then}
use Rattle.pv_picks.specs.Machine.Tasks.{Step, AtHead, Task, Evaluate, EvaluateAll, Combine, Choose, Branch, Turn, Put, Drop, Give, Unfolded, Run, Stand, Resume, put_into, tasks_of_target, tasks_of_right, tasks_of_statement}
use Rattle.pv_picks.specs.Machine.Measures.{size_of_expression, size_of_target, size_of_right, size_of_statement, size_of_block, size_of_task, size_of_tasks}
use Rattle.pv_picks.specs.Machine.Frames.{Frame, is_true, evaluated, worked, after_work, settled}
use Rattle.machine_laws.specs.Rest.{are_at_rest, is_at_rest}

-- an expression leaves less than itself
pub evaluated-less : (f : Frame) (e : Expression) (ts : List Task)
    → size_of_tasks (evaluated f e ts).tasks < size_of_expression e + size_of_tasks ts
evaluated-less f (Constant v) ts = omega arith
evaluated-less f This ts = omega arith
evaluated-less f Result ts = omega arith
evaluated-less f (Variable name) ts = omega arith
evaluated-less f (Field object class name span) ts = omega arith
evaluated-less f (Element type array index span) ts = omega arith
evaluated-less f (Length type array span) ts = omega arith
evaluated-less f (Not e) ts = omega arith
evaluated-less f (Compute manner operation a b span) ts = omega arith
evaluated-less f (Compare order a b) ts = omega arith
evaluated-less f (Equal same a b) ts = omega arith
evaluated-less f (And a b) ts = omega arith
evaluated-less f (Or a b) ts = omega arith
evaluated-less f (Implies a b) ts = omega arith
evaluated-less f (Old e) ts = omega arith

target-less : (target : Target) (ts : List Task)
    → size_of_tasks (tasks_of_target target ts) + size_of_task (put_into target) ≤ size_of_target target + size_of_tasks ts
target-less Nowhere ts = omega arith
target-less (ToVariable name) ts = omega arith
target-less (ToField object class name span) ts = omega arith
target-less (ToElement type array index span) ts = omega arith

right-size : (right : Right) (span : Span) (ts : List Task)
    → size_of_tasks (tasks_of_right right span ts) ≡ size_of_right right + size_of_tasks ts
right-size (Value' e) span ts = omega arith
right-size (Call class method object arguments) span ts = omega arith
right-size (NewObject class) span ts = omega arith
right-size (NewArray type size) span ts = omega arith

-- a statement leaves no more than itself
pub statement-less : (s : Statement) (ts : List Task)
    → size_of_tasks (tasks_of_statement s ts) ≤ size_of_statement s + size_of_tasks ts
statement-less (Assign target right span) ts =
    let a = right-size right span (put_into target ∷ ts) in
    let b = target-less target (tasks_of_right right span (put_into target ∷ ts)) in
    omega arith
statement-less (If condition a b) ts = omega arith
statement-less (While assigned invariant condition body span) ts = omega arith
statement-less (Members team body span) ts = omega arith
statement-less (Meet barrier span) ts = omega arith
statement-less (Act action class object span) ts = omega arith
statement-less (Fold class predicate object arguments span) ts = omega arith
statement-less (Unfold class predicate object arguments span) ts = omega arith
statement-less (Assert formula span) ts = omega arith
statement-less (Send message span) ts = omega arith
statement-less (Receive message span) ts = omega arith
statement-less (Return None span) ts = omega arith
statement-less (Return (Some e) span) ts = omega arith

chosen-less : (b : Bool) (x y : Expression)
    → size_of_expression (if b then x else y) ≤ size_of_expression x + size_of_expression y
chosen-less true x y = omega arith
chosen-less false x y = omega arith

branch-less : (b : Bool) (x y : Block) → size_of_block (if b then x else y) ≤ size_of_block x + size_of_block y
branch-less true x y = omega arith
branch-less false x y = omega arith

turn-less : (b : Bool) (body : Block) (back : Step) (ts : List Task)
    → size_of_tasks (if b then Run body ∷ Stand back ∷ ts else ts) ≤ size_of_block body + size_of_tasks ts
turn-less true body back ts = omega arith
turn-less false body back ts = omega arith

-- a piece of local work leaves less
pub worked-less : (f : Frame) (ts : List Task) → (are_at_rest ts ≡ true) ⊎ (size_of_tasks (worked f ts).tasks < size_of_tasks ts)
worked-less f [] = inl refl
worked-less f (Evaluate e ∷ ts) = inr (evaluated-less f e ts)
worked-less f (EvaluateAll [] ∷ ts) = inr (omega arith)
worked-less f (EvaluateAll (e ∷ es) ∷ ts) = inr (omega arith)
worked-less f (Combine combination ∷ ts) = inr (omega arith)
worked-less f (Choose a b ∷ ts) = let h = chosen-less (is_true f) a b in inr (omega arith)
worked-less f (Branch a b ∷ ts) = let h = branch-less (is_true f) a b in inr (omega arith)
worked-less f (Turn loop ∷ ts) = let h = turn-less (is_true f) loop.body (AtHead check.LoopKeep loop) ts in inr (omega arith)
worked-less f (Put name ∷ ts) = inr (omega arith)
worked-less f (Drop ∷ ts) = inr (omega arith)
worked-less f (Give ∷ ts) = inr (omega arith)
worked-less f (Unfolded class predicate count span ∷ ts) = inr (omega arith)
worked-less f (Run Stop ∷ ts) = inr (omega arith)
worked-less f (Run (Then s b) ∷ ts) = let h = statement-less s (Run b ∷ ts) in inr (omega arith)
worked-less f (Stand step ∷ ts) = inl refl
worked-less f (Resume class method object arguments ∷ ts) = inl refl

-- no work is done at rest
pub worked-rest : (f : Frame) (ts : List Task) → are_at_rest ts ≡ true → worked f ts ≡ f
worked-rest f [] h = refl
worked-rest f (Evaluate e ∷ ts) h = absurd (cc)
worked-rest f (EvaluateAll es ∷ ts) h = absurd (cc)
worked-rest f (Combine combination ∷ ts) h = absurd (cc)
worked-rest f (Choose a b ∷ ts) h = absurd (cc)
worked-rest f (Branch a b ∷ ts) h = absurd (cc)
worked-rest f (Turn loop ∷ ts) h = absurd (cc)
worked-rest f (Put name ∷ ts) h = absurd (cc)
worked-rest f (Drop ∷ ts) h = absurd (cc)
worked-rest f (Give ∷ ts) h = absurd (cc)
worked-rest f (Unfolded class predicate count span ∷ ts) h = absurd (cc)
worked-rest f (Run b ∷ ts) h = absurd (cc)
worked-rest f (Stand step ∷ ts) h = refl
worked-rest f (Resume class method object arguments ∷ ts) h = refl

after_work-rest : (n : ℕ) (f : Frame) → is_at_rest f ≡ true → after_work n f ≡ f
after_work-rest zero f h = refl
after_work-rest (suc n) f h = let e : worked f f.tasks ≡ f = worked-rest f f.tasks h in rw e (after_work-rest n f h)

-- as many pieces as the tasks are large are enough
pub after_work-enough : (n : ℕ) (f : Frame) → size_of_tasks f.tasks ≤ n → is_at_rest (after_work n f) ≡ true
after_work-enough n f h = go n f h (worked-less f f.tasks)
  where
    go : (n : ℕ) (f : Frame) → size_of_tasks f.tasks ≤ n
        → (is_at_rest f ≡ true) ⊎ (size_of_tasks (worked f f.tasks).tasks < size_of_tasks f.tasks)
        → is_at_rest (after_work n f) ≡ true
    go n f h (inl r) = rw (after_work-rest n f r) r
    go zero f h (inr l) = absurd (omega arith)
    go (suc n) f h (inr l) = let g = worked f f.tasks in
        go n (worked f f.tasks) (omega arith) (worked-less (worked f f.tasks) (worked f f.tasks).tasks)

pub settled-rest : (f : Frame) → is_at_rest (settled f) ≡ true
settled-rest f = after_work-enough (size_of_tasks f.tasks) f (omega arith)

-- and more than enough makes no difference
pub after_work-agree : (n m : ℕ) (f : Frame) → size_of_tasks f.tasks ≤ n → size_of_tasks f.tasks ≤ m
    → after_work n f ≡ after_work m f
after_work-agree n m f h k = go n m f h k (worked-less f f.tasks)
  where
    go : (n m : ℕ) (f : Frame) → size_of_tasks f.tasks ≤ n → size_of_tasks f.tasks ≤ m
        → (is_at_rest f ≡ true) ⊎ (size_of_tasks (worked f f.tasks).tasks < size_of_tasks f.tasks)
        → after_work n f ≡ after_work m f
    go n m f h k (inl r) =
        let a : after_work n f ≡ f = after_work-rest n f r in
        let b : after_work m f ≡ f = after_work-rest m f r in
        cc
    go zero m f h k (inr l) = absurd (omega arith)
    go (suc n) zero f h k (inr l) = absurd (omega arith)
    go (suc n) (suc m) f h k (inr l) =
        go n m (worked f f.tasks) (omega arith) (omega arith) (worked-less (worked f f.tasks) (worked f f.tasks).tasks)

pub settled-enough : (n : ℕ) (f : Frame) → size_of_tasks f.tasks ≤ n → after_work n f ≡ settled f
settled-enough n f h = after_work-agree n (size_of_tasks f.tasks) f h (omega arith)

-- a piece of work may be done first
pub settled-worked : (f : Frame) → settled f ≡ settled (worked f f.tasks)
settled-worked f = go (worked-less f f.tasks)
  where
    go : (is_at_rest f ≡ true) ⊎ (size_of_tasks (worked f f.tasks).tasks < size_of_tasks f.tasks)
        → settled f ≡ settled (worked f f.tasks)
    go (inl r) = let e : worked f f.tasks ≡ f = worked-rest f f.tasks r in rw e refl
    go (inr l) =
        let a : after_work (suc (size_of_tasks f.tasks)) f ≡ settled f =
        settled-enough (suc (size_of_tasks f.tasks)) f (omega arith) in
        let b : after_work (size_of_tasks f.tasks) (worked f f.tasks) ≡ settled (worked f f.tasks) =
        settled-enough (size_of_tasks f.tasks) (worked f f.tasks) (omega arith) in
        cc

-- what each piece of local work keeps, all of it keeps
pub after_work-keeps : (P : Frame → Type 0) → ((f : Frame) → P f → P (worked f f.tasks)) → (n : ℕ) (f : Frame) → P f
    → P (after_work n f)
after_work-keeps P keeps zero f h = h
after_work-keeps P keeps (suc n) f h = after_work-keeps P keeps n (worked f f.tasks) (keeps f h)

pub settled-keeps : (P : Frame → Type 0) → ((f : Frame) → P f → P (worked f f.tasks)) → (f : Frame) → P f → P (settled f)
settled-keeps P keeps f h = after_work-keeps P keeps (size_of_tasks f.tasks) f h
