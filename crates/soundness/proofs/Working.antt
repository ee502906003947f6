-- What is left of a body shares what it may, and receives no label twice: local work keeps it so.
use Rattle.std.proofs.Common.{◌≡◌, Bool, true, false, Option, Some, None, List, [], ◌∷◌, ◌++◌, refl, sym, subst, ◌∙◌}
use Rattle.std.proofs.lemmas.List.{append_assoc}
use Rattle.std.specs.Prelude.{if◌then◌else◌}
use Rattle.pv_base.specs.declared.Name.{Name}
use Rattle.pv_base.specs.declared.Span.{Span}
use Rattle.pv_picks.specs.declared.check.Check.TheVariants as check
use Rattle.pv_picks.specs.Plain.Core.{Expression, Constant, This, Result, Variable, Field, Element, Length, Not, Compute, Compare, Equal, And, Or, Implies, Old, Message, Target, Nowhere, ToVariable, ToField, ToElement, Right, Value', Call, NewObject, NewArray, Statement, Assign, If, While, Members, Meet, Act, Fold, Unfold, Assert, Send, Receive, Return, Block, Stop, Then}
use Rattle.pv_picks.specs.Machine.Tasks.{AtHead, Loop, Task, Evaluate, EvaluateAll, Combine, Choose, Branch, Turn, Put, Drop, Give, Unfolded, Run, Stand, Resume, put_into, tasks_of_target, tasks_of_right, tasks_of_statement}
use Rattle.pv_picks.specs.Machine.Frames.{Frame, is_true, evaluated, worked}
use Rattle.core_trees.specs.Messages.{received_by, received_in_block}
use Rattle.core_trees.specs.Placing.{Environment, environment_repeated}
use Rattle.core_trees.specs.Formulas.{LabelsDiffer}
use Rattle.soundness.specs.Sharing.{StatementShares, BlockShares}
use Rattle.soundness.specs.Waiting.{TasksShare, received_in_tasks}
use Rattle.soundness.proofs.Bodies.{repeated_apart, outside_while, receives_nothing, differ_behind, differ_without}

-- What is shared

module _ (environment : Environment) (position : Option Name) where
  evaluated_shares : (f : Frame) (e : Expression) (ts : List Task) → TasksShare environment position ts
      → TasksShare environment position (evaluated f e ts).tasks
  evaluated_shares f (Constant v) ts h = h
  evaluated_shares f This ts h = h
  evaluated_shares f Result ts h = h
  evaluated_shares f (Variable name) ts h = h
  evaluated_shares f (Field object class name span) ts h = (tt, (tt, h))
  evaluated_shares f (Element type array index span) ts h = (tt, (tt, (tt, h)))
  evaluated_shares f (Length type array span) ts h = (tt, (tt, h))
  evaluated_shares f (Not e) ts h = (tt, (tt, h))
  evaluated_shares f (Compute manner operation a b span) ts h = (tt, (tt, (tt, h)))
  evaluated_shares f (Compare order a b) ts h = (tt, (tt, (tt, h)))
  evaluated_shares f (Equal same a b) ts h = (tt, (tt, (tt, h)))
  evaluated_shares f (And a b) ts h = (tt, (tt, h))
  evaluated_shares f (Or a b) ts h = (tt, (tt, h))
  evaluated_shares f (Implies a b) ts h = (tt, (tt, h))
  evaluated_shares f (Old e) ts h = (tt, h)

  target_shares : (target : Target) (ts : List Task) → TasksShare environment position ts
      → TasksShare environment position (tasks_of_target target ts)
  target_shares Nowhere ts h = h
  target_shares (ToVariable name) ts h = h
  target_shares (ToField object class name span) ts h = (tt, h)
  target_shares (ToElement type array index span) ts h = (tt, (tt, h))

  right_shares : (right : Right) (span : Span) (ts : List Task) → TasksShare environment position ts
      → TasksShare environment position (tasks_of_right right span ts)
  right_shares (Value' e) span ts h = (tt, h)
  right_shares (Call class method object arguments) span ts h = (tt, (tt, (tt, h)))
  right_shares (NewObject class) span ts h = (tt, h)
  right_shares (NewArray type size) span ts h = (tt, (tt, h))

  put_shares : (target : Target) (ts : List Task) → TasksShare environment position ts
      → TasksShare environment position (put_into target ∷ ts)
  put_shares Nowhere ts h = (tt, h)
  put_shares (ToVariable name) ts h = (tt, h)
  put_shares (ToField object class name span) ts h = (tt, h)
  put_shares (ToElement type array index span) ts h = (tt, h)

  statement_shares : (s : Statement) (ts : List Task) → StatementShares environment position s
      → TasksShare environment position ts
      → TasksShare environment position (tasks_of_statement s ts)
  statement_shares (Assign target right span) ts s h =
      target_shares target (tasks_of_right right span (put_into target ∷ ts))
      (right_shares right span (put_into target ∷ ts) (put_shares target ts h))
  statement_shares (If e first second) ts s h = (tt, (s, h))
  statement_shares (While variables f e body span) ts s h = (s, h)
  statement_shares (Members team body span) ts s h = (tt, (tt, (s, h)))
  statement_shares (Meet barrier span) ts s h = (s, h)
  statement_shares (Act action class object span) ts s h = (tt, (tt, h))
  statement_shares (Fold class name object arguments span) ts s h = (tt, (tt, (tt, h)))
  statement_shares (Unfold class name object arguments span) ts s h = (tt, (tt, (tt, h)))
  statement_shares (Assert f span) ts s h = (tt, h)
  statement_shares (Send m span) ts s h = (s, h)
  statement_shares (Receive m span) ts s h = (s, h)
  statement_shares (Return None span) ts s h = h
  statement_shares (Return (Some e) span) ts s h = (tt, (tt, h))

  choice_shares : (b : Bool) (first second : Block) → BlockShares environment position first
      → BlockShares environment position second
      → BlockShares environment position (if b then first else second)
  choice_shares true first second h k = h
  choice_shares false first second h k = k

  turn_shares : (b : Bool) (loop : Loop) (ts : List Task) → BlockShares (environment_repeated environment) position loop.body
      → TasksShare environment position ts
      → TasksShare environment position (if b then Run loop.body ∷ Stand (AtHead check.LoopKeep loop) ∷ ts else ts)
  turn_shares true loop ts s h = (outside_while environment position loop.body s, (s, h))
  turn_shares false loop ts s h = h

  pub worked_shares : (f : Frame) (ts : List Task) → TasksShare environment position f.tasks → TasksShare environment position ts
      → TasksShare environment position (worked f ts).tasks
  worked_shares f [] own h = own
  worked_shares f (Stand step ∷ ts) own h = own
  worked_shares f (Resume class method object arguments ∷ ts) own h = own
  worked_shares f (Evaluate e ∷ ts) own h = evaluated_shares f e ts h.1
  worked_shares f (EvaluateAll [] ∷ ts) own h = h.1
  worked_shares f (EvaluateAll (e ∷ es) ∷ ts) own h = (tt, (tt, h.1))
  worked_shares f (Combine combination ∷ ts) own h = h.1
  worked_shares f (Choose a b ∷ ts) own h = (tt, h.1)
  worked_shares f (Branch a b ∷ ts) own h = (choice_shares (is_true f) a b h.0.0 h.0.1, h.1)
  worked_shares f (Turn loop ∷ ts) own h = turn_shares (is_true f) loop ts h.0 h.1
  worked_shares f (Put name ∷ ts) own h = h.1
  worked_shares f (Drop ∷ ts) own h = h.1
  worked_shares f (Give ∷ ts) own h = h.1
  worked_shares f (Unfolded class name count span ∷ ts) own h = h.1
  worked_shares f (Run Stop ∷ ts) own h = h.1
  worked_shares f (Run (Then s b) ∷ ts) own h = statement_shares s (Run b ∷ ts) h.0.0 (h.0.1, h.1)

-- What is received

evaluated_receives : (f : Frame) (e : Expression) (ts : List Task)
    → received_in_tasks (evaluated f e ts).tasks ≡ received_in_tasks ts
evaluated_receives f (Constant v) ts = refl
evaluated_receives f This ts = refl
evaluated_receives f Result ts = refl
evaluated_receives f (Variable name) ts = refl
evaluated_receives f (Field object class name span) ts = refl
evaluated_receives f (Element type array index span) ts = refl
evaluated_receives f (Length type array span) ts = refl
evaluated_receives f (Not e) ts = refl
evaluated_receives f (Compute manner operation a b span) ts = refl
evaluated_receives f (Compare order a b) ts = refl
evaluated_receives f (Equal same a b) ts = refl
evaluated_receives f (And a b) ts = refl
evaluated_receives f (Or a b) ts = refl
evaluated_receives f (Implies a b) ts = refl
evaluated_receives f (Old e) ts = refl

target_receives : (target : Target) (ts : List Task) → received_in_tasks (tasks_of_target target ts) ≡ received_in_tasks ts
target_receives Nowhere ts = refl
target_receives (ToVariable name) ts = refl
target_receives (ToField object class name span) ts = refl
target_receives (ToElement type array index span) ts = refl

right_receives : (right : Right) (span : Span) (ts : List Task)
    → received_in_tasks (tasks_of_right right span ts) ≡ received_in_tasks ts
right_receives (Value' e) span ts = refl
right_receives (Call class method object arguments) span ts = refl
right_receives (NewObject class) span ts = refl
right_receives (NewArray type size) span ts = refl

put_receives : (target : Target) (ts : List Task) → received_in_tasks (put_into target ∷ ts) ≡ received_in_tasks ts
put_receives Nowhere ts = refl
put_receives (ToVariable name) ts = refl
put_receives (ToField object class name span) ts = refl
put_receives (ToElement type array index span) ts = refl

-- the tasks of a statement receive what the statement does
statement_receives : (s : Statement) (ts : List Task)
    → received_in_tasks (tasks_of_statement s ts) ≡ received_by s ++ received_in_tasks ts
statement_receives (Assign target right span) ts =
    target_receives target (tasks_of_right right span (put_into target ∷ ts))
    ∙ right_receives right span (put_into target ∷ ts) ∙ put_receives target ts
statement_receives (If e first second) ts = refl
statement_receives (While variables f e body span) ts = refl
statement_receives (Members team body span) ts = refl
statement_receives (Meet barrier span) ts = refl
statement_receives (Act action class object span) ts = refl
statement_receives (Fold class name object arguments span) ts = refl
statement_receives (Unfold class name object arguments span) ts = refl
statement_receives (Assert f span) ts = refl
statement_receives (Send m span) ts = refl
statement_receives (Receive m span) ts = refl
statement_receives (Return None span) ts = refl
statement_receives (Return (Some e) span) ts = refl

choice_differs : (b : Bool) (first second : Block) (ms : List Message)
    → LabelsDiffer ((received_in_block first ++ received_in_block second) ++ ms)
    → LabelsDiffer (received_in_block (if b then first else second) ++ ms)
choice_differs true first second ms h = differ_without (received_in_block first) (received_in_block second) ms h
choice_differs false first second ms h =
    differ_behind (received_in_block first) (received_in_block second ++ ms)
    (subst LabelsDiffer (append_assoc (received_in_block first) (received_in_block second) ms) h)

-- the body of a loop receives nothing, however often it is run
turn_differs : (b : Bool) (loop : Loop) (ts : List Task) → received_in_block loop.body ≡ []
    → LabelsDiffer (received_in_block loop.body ++ received_in_tasks ts)
    → LabelsDiffer (received_in_tasks (if b then Run loop.body ∷ Stand (AtHead check.LoopKeep loop) ∷ ts else ts))
turn_differs true loop ts none h =
    subst (λ ms. LabelsDiffer (ms ++ (received_in_block loop.body ++ received_in_tasks ts))) (sym none) h
turn_differs false loop ts none h = differ_behind (received_in_block loop.body) (received_in_tasks ts) h

pub worked_once : (environment : Environment) (position : Option Name) (f : Frame) (ts : List Task)
    → LabelsDiffer (received_in_tasks f.tasks) → TasksShare environment position ts → LabelsDiffer (received_in_tasks ts)
    → LabelsDiffer (received_in_tasks (worked f ts).tasks)
worked_once environment position f [] own shares h = own
worked_once environment position f (Stand step ∷ ts) own shares h = own
worked_once environment position f (Resume class method object arguments ∷ ts) own shares h = own
worked_once environment position f (Evaluate e ∷ ts) own shares h = subst LabelsDiffer (sym (evaluated_receives f e ts)) h
worked_once environment position f (EvaluateAll [] ∷ ts) own shares h = h
worked_once environment position f (EvaluateAll (e ∷ es) ∷ ts) own shares h = h
worked_once environment position f (Combine combination ∷ ts) own shares h = h
worked_once environment position f (Choose a b ∷ ts) own shares h = h
worked_once environment position f (Branch a b ∷ ts) own shares h = choice_differs (is_true f) a b (received_in_tasks ts) h
worked_once environment position f (Turn loop ∷ ts) own shares h =
    turn_differs (is_true f) loop ts
    (receives_nothing (environment_repeated environment) position loop.body (repeated_apart environment) shares.0) h
worked_once environment position f (Put name ∷ ts) own shares h = h
worked_once environment position f (Drop ∷ ts) own shares h = h
worked_once environment position f (Give ∷ ts) own shares h = h
worked_once environment position f (Unfolded class name count span ∷ ts) own shares h = h
worked_once environment position f (Run Stop ∷ ts) own shares h = h
worked_once environment position f (Run (Then s b) ∷ ts) own shares h =
    subst LabelsDiffer (sym (statement_receives s (Run b ∷ ts)))
    (subst LabelsDiffer (append_assoc (received_by s) (received_in_block b) (received_in_tasks ts)) h)
