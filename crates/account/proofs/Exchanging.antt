-- Local work brings no new messages into the tasks of a frame.
use Rattle.std.proofs.Common.{ℕ, zero, suc, Bool, true, false, if◌then◌else◌, Some, None, List, [], ◌∷◌}
use Rattle.pv_picks.specs.declared.check.Check.TheVariants as check
use Rattle.pv_base.specs.declared.Span.{Span}
use Rattle.pv_picks.specs.Plain.Core.{Expression, Constant, This, Result, Variable, Field, Element, Length, Not, Compute, Compare, Equal, And, Or, Implies, Old, Target, Nowhere, ToVariable, ToField, ToElement, Right, Value', Call, NewObject, NewArray, Message, Statement, Assign, If, While, Members, Meet, Act, Fold, Unfold, Assert, Send, Receive, Return, Block, Stop, Then}
use Rattle.pv_picks.specs.Machine.Measures.{size_of_tasks}
use Rattle.pv_picks.specs.Machine.Tasks.{AtHead, Loop, Task, Evaluate, EvaluateAll, Combine, Choose, Branch, Turn, Put, Drop, Give, Unfolded, Run, Stand, Resume, put_into, tasks_of_right, tasks_of_statement}
use Rattle.pv_picks.specs.Machine.Frames.{Frame, evaluated, is_true, worked, after_work, settled}
use Rattle.account.specs.Messages.{StatementExchanges, BlockExchanges, TasksExchange}

module _ (Sent Received : Message → Type 0) where
  put_exchanges : (target : Target) (rest : List Task) → TasksExchange Sent Received rest
      → TasksExchange Sent Received (put_into target ∷ rest)
  put_exchanges Nowhere rest h = (tt, h)
  put_exchanges (ToVariable name) rest h = (tt, h)
  put_exchanges (ToField e class name at) rest h = (tt, h)
  put_exchanges (ToElement type e i at) rest h = (tt, h)

  right_exchanges : (right : Right) (span : Span) (rest : List Task) → TasksExchange Sent Received rest
      → TasksExchange Sent Received (tasks_of_right right span rest)
  right_exchanges (Value' e) span rest h = (tt, h)
  right_exchanges (Call class method e es) span rest h = (tt, (tt, (tt, h)))
  right_exchanges (NewObject class) span rest h = (tt, h)
  right_exchanges (NewArray type e) span rest h = (tt, (tt, h))

  statement_exchanges : (s : Statement) (rest : List Task) → StatementExchanges Sent Received s
      → TasksExchange Sent Received rest → TasksExchange Sent Received (tasks_of_statement s rest)
  statement_exchanges (Assign Nowhere right span) rest a h = right_exchanges right span _ (put_exchanges Nowhere rest h)
  statement_exchanges (Assign (ToVariable name) right span) rest a h =
      right_exchanges right span _ (put_exchanges (ToVariable name) rest h)
  statement_exchanges (Assign (ToField e class name at) right span) rest a h =
      (tt, right_exchanges right span _ (put_exchanges (ToField e class name at) rest h))
  statement_exchanges (Assign (ToElement type e i at) right span) rest a h =
      (tt, (tt, right_exchanges right span _ (put_exchanges (ToElement type e i at) rest h)))
  statement_exchanges (If e one two) rest a h = (tt, (a, h))
  statement_exchanges (While assigned invariant e body span) rest a h = (a, h)
  statement_exchanges (Members team body span) rest a h = (tt, (tt, (tt, h)))
  statement_exchanges (Meet barrier span) rest a h = (tt, h)
  statement_exchanges (Act action class e span) rest a h = (tt, (tt, h))
  statement_exchanges (Fold class predicate e es span) rest a h = (tt, (tt, (tt, h)))
  statement_exchanges (Unfold class predicate e es span) rest a h = (tt, (tt, (tt, h)))
  statement_exchanges (Assert formula span) rest a h = (tt, h)
  statement_exchanges (Send m span) rest a h = (a, h)
  statement_exchanges (Receive m span) rest a h = (a, h)
  statement_exchanges (Return None span) rest a h = h
  statement_exchanges (Return (Some e) span) rest a h = (tt, (tt, h))

  evaluated_exchanges : (f : Frame) (e : Expression) (rest : List Task) → TasksExchange Sent Received rest
      → TasksExchange Sent Received (evaluated f e rest).tasks
  evaluated_exchanges f (Constant v) rest h = h
  evaluated_exchanges f This rest h = h
  evaluated_exchanges f Result rest h = h
  evaluated_exchanges f (Variable name) rest h = h
  evaluated_exchanges f (Field e class name span) rest h = (tt, (tt, h))
  evaluated_exchanges f (Element type e i span) rest h = (tt, (tt, (tt, h)))
  evaluated_exchanges f (Length type e span) rest h = (tt, (tt, h))
  evaluated_exchanges f (Not e) rest h = (tt, (tt, h))
  evaluated_exchanges f (Compute manner op a b span) rest h = (tt, (tt, (tt, h)))
  evaluated_exchanges f (Compare order a b) rest h = (tt, (tt, (tt, h)))
  evaluated_exchanges f (Equal same a b) rest h = (tt, (tt, (tt, h)))
  evaluated_exchanges f (And a b) rest h = (tt, (tt, h))
  evaluated_exchanges f (Or a b) rest h = (tt, (tt, h))
  evaluated_exchanges f (Implies a b) rest h = (tt, (tt, h))
  evaluated_exchanges f (Old e) rest h = (tt, h)

  turn_exchanges : (b : Bool) (l : Loop) (rest : List Task) → BlockExchanges Sent Received l.body
      → TasksExchange Sent Received rest
      → TasksExchange Sent Received (if b then Run l.body ∷ Stand (AtHead check.LoopKeep l) ∷ rest else rest)
  turn_exchanges true l rest a h = (a, (a, h))
  turn_exchanges false l rest a h = h

  branch_exchanges : (t : Bool) (a b : Block) → BlockExchanges Sent Received a → BlockExchanges Sent Received b
      → BlockExchanges Sent Received (if t then a else b)
  branch_exchanges true a b x y = x
  branch_exchanges false a b x y = y

  worked_exchanges : (f : Frame) (ts : List Task) → TasksExchange Sent Received f.tasks → TasksExchange Sent Received ts
      → TasksExchange Sent Received (worked f ts).tasks
  worked_exchanges f [] g h = g
  worked_exchanges f (Evaluate e ∷ ts) g h = evaluated_exchanges f e ts h.1
  worked_exchanges f (EvaluateAll [] ∷ ts) g h = h.1
  worked_exchanges f (EvaluateAll (e ∷ es) ∷ ts) g h = (tt, (tt, h.1))
  worked_exchanges f (Combine combination ∷ ts) g h = h.1
  worked_exchanges f (Choose a b ∷ ts) g h = (tt, h.1)
  worked_exchanges f (Branch a b ∷ ts) g h = (branch_exchanges (is_true f) a b h.0.0 h.0.1, h.1)
  worked_exchanges f (Turn l ∷ ts) g h = turn_exchanges (is_true f) l ts h.0 h.1
  worked_exchanges f (Put name ∷ ts) g h = h.1
  worked_exchanges f (Drop ∷ ts) g h = h.1
  worked_exchanges f (Give ∷ ts) g h = h.1
  worked_exchanges f (Unfolded class predicate count span ∷ ts) g h = h.1
  worked_exchanges f (Run Stop ∷ ts) g h = h.1
  worked_exchanges f (Run (Then s b) ∷ ts) g h = statement_exchanges s (Run b ∷ ts) h.0.0 (h.0.1, h.1)
  worked_exchanges f (Stand step ∷ ts) g h = g
  worked_exchanges f (Resume class method object arguments ∷ ts) g h = g

  work_exchanges : (n : ℕ) (f : Frame) → TasksExchange Sent Received f.tasks
      → TasksExchange Sent Received (after_work n f).tasks
  work_exchanges zero f h = h
  work_exchanges (suc n) f h = work_exchanges n (worked f f.tasks) (worked_exchanges f f.tasks h h)

  pub settled_exchanges : (f : Frame) → TasksExchange Sent Received f.tasks → TasksExchange Sent Received (settled f).tasks
  settled_exchanges f h = work_exchanges (size_of_tasks f.tasks) f h
