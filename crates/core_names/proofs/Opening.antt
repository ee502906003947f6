-- What holds of each block in a program holds of each at whose opening a thread of a reached world stands.
use Rattle.std.proofs.Common.{◌≡◌, Bool, true, false, Some, None, List, [], ◌∷◌, subst}
use Rattle.std.specs.Prelude.{if◌then◌else◌}
use Rattle.pv_ast.specs.declared.Program.{Program}
use Rattle.pv_ast.specs.Rules.Programs.{KeepsRules}
use Rattle.pv_base.specs.declared.Name.{Name}
use Rattle.pv_picks.specs.declared.check.Check.TheVariants as check
use Rattle.pv_picks.specs.Plain.Core as core
use Rattle.pv_picks.specs.Plain.Core.{Expression, Constant, This, Result, Variable, Field, Element, Length, Not, Compute, Compare, Equal, And, Or, Implies, Old, Target, Nowhere, ToVariable, ToField, ToElement, Right, Value', Call, NewObject, NewArray, Statement, Assign, If, While, Members, Meet, Act, Fold, Unfold, Assert, Send, Receive, Return, Block, Stop, Then, Team, Method}
use Rattle.pv_picks.specs.Machine.Tasks.{AtHead, AtOpen, Loop, Task, Evaluate, EvaluateAll, Combine, Choose, Branch, Turn, Put, Drop, Give, Unfolded, Run, Stand, Resume, put_into, tasks_of_target, tasks_of_right, tasks_of_statement}
use Rattle.pv_picks.specs.Machine.Frames.{Frame, is_true, evaluated, worked}
use Rattle.pv_picks.specs.Machine.Worlds.{World}
use Rattle.pv_picks.specs.Machine.Safety.{IsReached}
use Rattle.core_trees.specs.Messages.{MatchedStatement, MatchedBlock, MatchedMember}
use Rattle.core_trees.specs.Placing.{Environment, InMethod, environment_members, environment_repeated, PlacedStatement, PlacedBlock, PlacedMember}
use Rattle.pv_picks.specs.Elaborating.Programs.{core_of}
use Rattle.core_trees.proofs.Matching.{program_matched}
use Rattle.core_trees.proofs.Places.{program_placed}
use Rattle.core_names.specs.Carrying.{IsDeclared, membership_of, AllFrames}
use Rattle.core_trees.specs.Opening.{StatementOpens, BlockOpens, TasksOpen, OpensOnly, KeepsMessages}
use Rattle.core_names.proofs.Carried.{IsCarried, reached_good}
use Rattle.core_names.proofs.Declared.{member_has}

module _ (P : Team → Block → Type 0) where
  evaluated_opens : (f : Frame) (e : Expression) (ts : List Task) → TasksOpen P ts → TasksOpen P (evaluated f e ts).tasks
  evaluated_opens f (Constant v) ts h = h
  evaluated_opens f This ts h = h
  evaluated_opens f Result ts h = h
  evaluated_opens f (Variable name) ts h = h
  evaluated_opens f (Field object class name span) ts h = (tt, (tt, h))
  evaluated_opens f (Element type array index span) ts h = (tt, (tt, (tt, h)))
  evaluated_opens f (Length type array span) ts h = (tt, (tt, h))
  evaluated_opens f (Not e) ts h = (tt, (tt, h))
  evaluated_opens f (Compute manner operation a b span) ts h = (tt, (tt, (tt, h)))
  evaluated_opens f (Compare order a b) ts h = (tt, (tt, (tt, h)))
  evaluated_opens f (Equal same a b) ts h = (tt, (tt, (tt, h)))
  evaluated_opens f (And a b) ts h = (tt, (tt, h))
  evaluated_opens f (Or a b) ts h = (tt, (tt, h))
  evaluated_opens f (Implies a b) ts h = (tt, (tt, h))
  evaluated_opens f (Old e) ts h = (tt, h)

  target_opens : (target : Target) (ts : List Task) → TasksOpen P ts → TasksOpen P (tasks_of_target target ts)
  target_opens Nowhere ts h = h
  target_opens (ToVariable name) ts h = h
  target_opens (ToField object class name span) ts h = (tt, h)
  target_opens (ToElement type array index span) ts h = (tt, (tt, h))

  right_opens : (right : Right) (ts : List Task) → TasksOpen P ts → (span : _) → TasksOpen P (tasks_of_right right span ts)
  right_opens (Value' e) ts h span = (tt, h)
  right_opens (Call class method object arguments) ts h span = (tt, (tt, (tt, h)))
  right_opens (NewObject class) ts h span = (tt, h)
  right_opens (NewArray type size) ts h span = (tt, (tt, h))

  put_opens : (target : Target) (ts : List Task) → TasksOpen P ts → TasksOpen P (put_into target ∷ ts)
  put_opens Nowhere ts h = (tt, h)
  put_opens (ToVariable name) ts h = (tt, h)
  put_opens (ToField object class name span) ts h = (tt, h)
  put_opens (ToElement type array index span) ts h = (tt, h)

  statement_opens : (s : Statement) (ts : List Task) → StatementOpens P s → TasksOpen P ts
      → TasksOpen P (tasks_of_statement s ts)
  statement_opens (Assign target right span) ts s h =
      target_opens target (tasks_of_right right span (put_into target ∷ ts))
      (right_opens right (put_into target ∷ ts) (put_opens target ts h) span)
  statement_opens (If e first second) ts s h = (tt, (s, h))
  statement_opens (While variables f e body span) ts s h = (s, h)
  statement_opens (Members team body span) ts s h = (tt, (tt, (s, h)))
  statement_opens (Meet barrier span) ts s h = (tt, h)
  statement_opens (Act action class object span) ts s h = (tt, (tt, h))
  statement_opens (Fold class name object arguments span) ts s h = (tt, (tt, (tt, h)))
  statement_opens (Unfold class name object arguments span) ts s h = (tt, (tt, (tt, h)))
  statement_opens (Assert f span) ts s h = (tt, h)
  statement_opens (Send m span) ts s h = (tt, h)
  statement_opens (Receive m span) ts s h = (tt, h)
  statement_opens (Return None span) ts s h = h
  statement_opens (Return (Some e) span) ts s h = (tt, (tt, h))

  choice_opens : (b : Bool) (first second : Block) → BlockOpens P first → BlockOpens P second
      → BlockOpens P (if b then first else second)
  choice_opens true first second h k = h
  choice_opens false first second h k = k

  turn_opens : (b : Bool) (loop : Loop) (ts : List Task) → BlockOpens P loop.body → TasksOpen P ts
      → TasksOpen P (if b then Run loop.body ∷ Stand (AtHead check.LoopKeep loop) ∷ ts else ts)
  turn_opens true loop ts s h = (s, (s, h))
  turn_opens false loop ts s h = h

  worked_opens : (f : Frame) (ts : List Task) → TasksOpen P f.tasks → TasksOpen P ts → TasksOpen P (worked f ts).tasks
  worked_opens f [] own h = own
  worked_opens f (Stand step ∷ ts) own h = own
  worked_opens f (Resume class method object arguments ∷ ts) own h = own
  worked_opens f (Evaluate e ∷ ts) own h = evaluated_opens f e ts h.1
  worked_opens f (EvaluateAll [] ∷ ts) own h = h.1
  worked_opens f (EvaluateAll (e ∷ es) ∷ ts) own h = (tt, (tt, h.1))
  worked_opens f (Combine combination ∷ ts) own h = h.1
  worked_opens f (Choose a b ∷ ts) own h = (tt, h.1)
  worked_opens f (Branch a b ∷ ts) own h = (choice_opens (is_true f) a b h.0.0 h.0.1, h.1)
  worked_opens f (Turn loop ∷ ts) own h = turn_opens (is_true f) loop ts h.0 h.1
  worked_opens f (Put name ∷ ts) own h = h.1
  worked_opens f (Drop ∷ ts) own h = h.1
  worked_opens f (Give ∷ ts) own h = h.1
  worked_opens f (Unfolded class name count span ∷ ts) own h = h.1
  worked_opens f (Run Stop ∷ ts) own h = h.1
  worked_opens f (Run (Then s b) ∷ ts) own h = statement_opens s (Run b ∷ ts) h.0.0 (h.0.1, h.1)

  tasks_at : (f : Frame) (ts : List Task) → f.tasks ≡ ts → TasksOpen P f.tasks → TasksOpen P ts
  tasks_at f ts is h = subst (TasksOpen P) is h

  carried : (p : core.Program) → ((class : Name) (m : Method) → IsDeclared p class m → BlockOpens P m.body)
      → IsCarried p (λ member f. TasksOpen P f.tasks)
  carried p methods = record {
    work = λ member f h. worked_opens f f.tasks h h;
    behind = λ member f step rest values is left h. (tasks_at f (Stand step ∷ rest) is h).1;
    turns = λ member f named loop rest is h.
        let k = tasks_at f (Stand (AtHead named loop) ∷ rest) is h in (tt, (k.0, k.1));
    calls = λ member f class name count span rest m object arguments is h. (tt, (tasks_at f _ is h).1);
    returns = λ member f class m object arguments rest v is h.
        (tasks_at f (Resume class m object arguments ∷ rest) is h).1;
    enters = λ heap class m object arguments declared. (methods class m declared, tt);
    closes = λ member f inner body rest number is h. (tt, (tasks_at f (Stand (AtOpen inner body) ∷ rest) is h).1);
    opens = λ member f inner body rest position is h. ((tasks_at f (Stand (AtOpen inner body) ∷ rest) is h).0.1, tt);
    arrives = λ member f barrier span rest is h. (tt, (tasks_at f _ is h).1);
  }

  -- what holds of each block in each method
  pub reached_opens : (p : core.Program) → ((class : Name) (m : Method) → IsDeclared p class m → BlockOpens P m.body)
      → (w : World) → IsReached p w → OpensOnly P w
  reached_opens p methods w reached i f below stack team body rest is =
      let all = reached_good p (λ member f. TasksOpen P f.tasks) (carried p methods) w reached in
      (tasks_at f (Stand (AtOpen team body) ∷ rest) is
      (subst (AllFrames (λ member f. TasksOpen P f.tasks)
      (membership_of (λ number. (w.blocks number).team) all.0 (w.threads i).role)) stack (all.1 i)).0).0.0

-- Messages

mutual
  statement_keeps : (environment : Environment) (s : Statement) → MatchedStatement s → PlacedStatement environment s
      → StatementOpens KeepsMessages s
  statement_keeps environment (If e first second) matched placed =
      (block_keeps environment first matched.0 placed.0, block_keeps environment second matched.1 placed.1)
  statement_keeps environment (While variables f e body span) matched placed =
      block_keeps (environment_repeated environment) body matched placed
  statement_keeps environment (Members team body span) matched placed =
      ((matched.0, placed), block_keeps (environment_members team.counted) body matched.1 placed)
  statement_keeps environment (Assign target right span) matched placed = tt
  statement_keeps environment (Meet barrier span) matched placed = tt
  statement_keeps environment (Act action class e span) matched placed = tt
  statement_keeps environment (Fold class name e arguments span) matched placed = tt
  statement_keeps environment (Unfold class name e arguments span) matched placed = tt
  statement_keeps environment (Assert f span) matched placed = tt
  statement_keeps environment (Send m span) matched placed = tt
  statement_keeps environment (Receive m span) matched placed = tt
  statement_keeps environment (Return e span) matched placed = tt

  block_keeps : (environment : Environment) (b : Block) → MatchedBlock b → PlacedBlock environment b → BlockOpens KeepsMessages b
  block_keeps environment Stop matched placed = tt
  block_keeps environment (Then s b) matched placed =
      (statement_keeps environment s matched.0 placed.0, block_keeps environment b matched.1 placed.1)

pub reached_keeps_messages : (p : Program) → KeepsRules p → (w : World) → IsReached (core_of p) w → OpensOnly KeepsMessages w
reached_keeps_messages p keeps w reached = reached_opens KeepsMessages (core_of p)
    (λ class m declared. block_keeps InMethod m.body
    (member_has (λ (m : Method). MatchedBlock m.body) MatchedMember (λ m h. h) (core_of p) (program_matched p keeps) class m
    declared)
    (member_has (λ (m : Method). PlacedBlock InMethod m.body) PlacedMember (λ m h. h) (core_of p) (program_placed p keeps) class
    m declared)) w reached
