-- No statement closes a block, and local work makes no task that does.
use Rattle.std.proofs.Common.{Bool, true, false, Some, None, List, [], ◌∷◌, refl}
use Rattle.std.specs.Prelude.{if◌then◌else◌}
use Rattle.pv_base.specs.declared.Span.{Span}
use Rattle.pv_picks.specs.declared.check.Check.TheVariants as check
use Rattle.pv_picks.specs.Plain.Core.{Expression, Constant, This, Result, Variable, Field, Element, Length, Not, Compute, Compare, Equal, And, Or, Implies, Old, Target, Nowhere, ToVariable, ToField, ToElement, Right, Value', Call, NewObject, NewArray, Statement, Assign, If, While, Members, Meet, Act, Fold, Unfold, Assert, Send, Receive, Return, Stop, Then}
use Rattle.pv_picks.specs.Machine.Tasks.{AtHead, Task, Evaluate, EvaluateAll, Combine, Choose, Branch, Turn, Loop, Put, Drop, Give, Unfolded, Run, Stand, Resume, put_into, tasks_of_expression, tasks_of_target, tasks_of_right, tasks_of_statement}
use Rattle.pv_picks.specs.Machine.Frames.{Frame, is_true, evaluated, worked}
use Rattle.machine_laws.specs.Closing.{CloseNothing, WorkClosesNothing}
use Rattle.machine_laws.proofs.Work.{settled-keeps}

expression_closes : (e : Expression) (ts : List Task) → CloseNothing ts → CloseNothing (tasks_of_expression e ts)
expression_closes (Constant v) ts h = h
expression_closes This ts h = h
expression_closes Result ts h = h
expression_closes (Variable name) ts h = h
expression_closes (Field object class name span) ts h = (refl, (refl, h))
expression_closes (Element type array index span) ts h = (refl, (refl, (refl, h)))
expression_closes (Length type array span) ts h = (refl, (refl, h))
expression_closes (Not e) ts h = (refl, (refl, h))
expression_closes (Compute manner operation a b span) ts h = (refl, (refl, (refl, h)))
expression_closes (Compare order a b) ts h = (refl, (refl, (refl, h)))
expression_closes (Equal same a b) ts h = (refl, (refl, (refl, h)))
expression_closes (And a b) ts h = (refl, (refl, h))
expression_closes (Or a b) ts h = (refl, (refl, h))
expression_closes (Implies a b) ts h = (refl, (refl, h))
expression_closes (Old e) ts h = (refl, h)

pub evaluated_closes : (f : Frame) (e : Expression) (ts : List Task) → CloseNothing ts → CloseNothing (evaluated f e ts).tasks
evaluated_closes f (Constant v) ts h = h
evaluated_closes f This ts h = h
evaluated_closes f Result ts h = h
evaluated_closes f (Variable name) ts h = h
evaluated_closes f (Field object class name span) ts h = (refl, (refl, h))
evaluated_closes f (Element type array index span) ts h = (refl, (refl, (refl, h)))
evaluated_closes f (Length type array span) ts h = (refl, (refl, h))
evaluated_closes f (Not e) ts h = (refl, (refl, h))
evaluated_closes f (Compute manner operation a b span) ts h = (refl, (refl, (refl, h)))
evaluated_closes f (Compare order a b) ts h = (refl, (refl, (refl, h)))
evaluated_closes f (Equal same a b) ts h = (refl, (refl, (refl, h)))
evaluated_closes f (And a b) ts h = (refl, (refl, h))
evaluated_closes f (Or a b) ts h = (refl, (refl, h))
evaluated_closes f (Implies a b) ts h = (refl, (refl, h))
evaluated_closes f (Old e) ts h = (refl, h)

target_closes : (target : Target) (ts : List Task) → CloseNothing ts → CloseNothing (tasks_of_target target ts)
target_closes Nowhere ts h = h
target_closes (ToVariable name) ts h = h
target_closes (ToField object class name span) ts h = (refl, h)
target_closes (ToElement type array index span) ts h = (refl, (refl, h))

right_closes : (right : Right) (span : Span) (ts : List Task) → CloseNothing ts → CloseNothing (tasks_of_right right span ts)
right_closes (Value' e) span ts h = (refl, h)
right_closes (Call class method object arguments) span ts h = (refl, (refl, (refl, h)))
right_closes (NewObject class) span ts h = (refl, h)
right_closes (NewArray type size) span ts h = (refl, (refl, h))

put_closes : (target : Target) (ts : List Task) → CloseNothing ts → CloseNothing (put_into target ∷ ts)
put_closes Nowhere ts h = (refl, h)
put_closes (ToVariable name) ts h = (refl, h)
put_closes (ToField object class name span) ts h = (refl, h)
put_closes (ToElement type array index span) ts h = (refl, h)

pub statement_closes : (s : Statement) (ts : List Task) → CloseNothing ts → CloseNothing (tasks_of_statement s ts)
statement_closes (Assign target right span) ts h =
    target_closes target (tasks_of_right right span (put_into target ∷ ts))
    (right_closes right span (put_into target ∷ ts) (put_closes target ts h))
statement_closes (If condition a b) ts h = (refl, (refl, h))
statement_closes (While assigned invariant condition body span) ts h = (refl, h)
statement_closes (Members team body span) ts h = (refl, (refl, (refl, h)))
statement_closes (Meet barrier span) ts h = (refl, h)
statement_closes (Act action class object span) ts h = (refl, (refl, h))
statement_closes (Fold class predicate object arguments span) ts h = (refl, (refl, (refl, h)))
statement_closes (Unfold class predicate object arguments span) ts h = (refl, (refl, (refl, h)))
statement_closes (Assert formula span) ts h = (refl, h)
statement_closes (Send message span) ts h = (refl, h)
statement_closes (Receive message span) ts h = (refl, h)
statement_closes (Return None span) ts h = h
statement_closes (Return (Some e) span) ts h = (refl, (refl, h))

pub turn_closes : (b : Bool) (loop : Loop) (ts : List Task) → CloseNothing ts
    → CloseNothing (if b then Run loop.body ∷ Stand (AtHead check.LoopKeep loop) ∷ ts else ts)
turn_closes true loop ts h = (refl, (refl, h))
turn_closes false loop ts h = h

worked_closes : (f : Frame) (ts : List Task) → CloseNothing f.tasks → CloseNothing ts → CloseNothing (worked f ts).tasks
worked_closes f [] g h = g
worked_closes f (Evaluate e ∷ ts) g h = evaluated_closes f e ts h.1
worked_closes f (EvaluateAll [] ∷ ts) g h = h.1
worked_closes f (EvaluateAll (e ∷ es) ∷ ts) g h = (refl, (refl, h.1))
worked_closes f (Combine combination ∷ ts) g h = h.1
worked_closes f (Choose a b ∷ ts) g h = (refl, h.1)
worked_closes f (Branch a b ∷ ts) g h = (refl, h.1)
worked_closes f (Turn loop ∷ ts) g h = turn_closes (is_true f) loop ts h.1
worked_closes f (Put name ∷ ts) g h = h.1
worked_closes f (Drop ∷ ts) g h = h.1
worked_closes f (Give ∷ ts) g h = h.1
worked_closes f (Unfolded class predicate count span ∷ ts) g h = h.1
worked_closes f (Run Stop ∷ ts) g h = h.1
worked_closes f (Run (Then s b) ∷ ts) g h = statement_closes s (Run b ∷ ts) (refl, h.1)
worked_closes f (Stand step ∷ ts) g h = g
worked_closes f (Resume class method object arguments ∷ ts) g h = g

pub work_closes_nothing : WorkClosesNothing
work_closes_nothing = record {
  statements = statement_closes;
  expressions = expression_closes;
  frames = λ f h. settled-keeps (λ (g : Frame). CloseNothing g.tasks) (λ g k. worked_closes g g.tasks k k) f h;
}
