-- In the worlds that a program reaches which keeps the static rules, the names at the head of each body keep their values.
use Rattle.std.proofs.Common.{◌≡◌, suc, Bool, true, false, Option, Some, None, List, [], ◌∷◌, drop, refl, subst}
use Rattle.std.proofs.lemmas.Bool.{or_left, or_right, or_parts, eq-eqb}
use Rattle.std.specs.Prelude.{nat_eq, filter_map, if◌then◌else◌}
use Rattle.std.specs.List.{list_any, AllByRecursion}
use Rattle.pv_base.specs.declared.Name.{Name}
use Rattle.pv_base.specs.declared.Span.{Span}
use Rattle.pv_ast.specs.declared.Program.{Program}
use Rattle.pv_base.specs.Names.{same_name}
use Rattle.pv_ast.specs.Rules.Programs.{KeepsRules}
use Rattle.pv_values.specs.declared.value.Value.{Value}
use Rattle.pv_values.specs.declared.value.Value.TheVariants as value
use Rattle.pv_picks.specs.declared.check.Check.TheVariants as check
use Rattle.pv_picks.specs.Plain.Core as core
use Rattle.pv_picks.specs.Plain.Core.{Expression, Constant, This, Result, Variable, Field, Element, Length, Not, Compute, Compare, Equal, And, Or, Implies, Old, Target, Nowhere, ToVariable, ToField, ToElement, Right, Value', Call, NewObject, NewArray, Team, Barrier, Method, Member, Class, Statement, Assign, If, While, Members, Meet, Act, Fold, Unfold, Assert, Send, Receive, Return, Block, Stop, Then}
use Rattle.pv_picks.specs.Plain.Members.{method_of}
use Rattle.pv_picks.specs.Machine.Tasks.{Loop, AtHead, AtCall, AtOpen, AtClose, AtArrive, AtLeave, Task, Evaluate, EvaluateAll, Combine, Choose, Branch, Turn, Put, Drop, Give, Unfolded, Run, Stand, Resume, tasks_of_target, tasks_of_right, tasks_of_statement, put_into}
use Rattle.pv_picks.specs.Machine.Frames.{Frame, top, is_true, combined, evaluated, worked}
use Rattle.pv_picks.specs.Machine.Safety.{IsReached}
use Rattle.pv_picks.specs.Machine.Worlds.{World}
use Rattle.core_trees.specs.Resolved.{InScope, names_of, behind, ResolvedStatement, ResolvedMember, ResolvedClass}
use Rattle.pv_picks.specs.Elaborating.Programs.{core_of}
use Rattle.core_trees.proofs.Whole.{program_resolved}
use Rattle.core_names.specs.Assigning.{goes_into, assigns, assigns_in, StatementKeeps, MemberKeeps, ClassKeeps}
use Rattle.core_names.specs.Carrying.{Membership, InWorld}
use Rattle.core_names.specs.Fixed.{BlockStands, TeamStands, TaskStands, TasksStand, KeepsHead}
use Rattle.core_names.proofs.Keeping.{program_keeps}
use Rattle.core_names.proofs.Declared.{MethodsHave, declared_has}
use Rattle.core_names.proofs.Carried.{IsCarried, reached_good}

-- Statements

-- behind a statement no fewer names are in scope
behind_more : (names : List Name) (s : Statement) (n : Name) → InScope names n → InScope (behind names s) n
behind_more names (Assign (ToVariable name) right span) n h = or_right (same_name n name) (list_any (same_name n) names) h
behind_more names (Assign Nowhere right span) n h = h
behind_more names (Assign (ToField e class field at) right span) n h = h
behind_more names (Assign (ToElement type e i at) right span) n h = h
behind_more names (If e a b) n h = h
behind_more names (While variables f e body span) n h = h
behind_more names (Members team body span) n h = h
behind_more names (Meet barrier span) n h = h
behind_more names (Act action class e span) n h = h
behind_more names (Fold class predicate e args span) n h = h
behind_more names (Unfold class predicate e args span) n h = h
behind_more names (Assert f span) n h = h
behind_more names (Send m span) n h = h
behind_more names (Receive m span) n h = h
behind_more names (Return e span) n h = h

module _ (p : core.Program) (head : List Name) where
  target_stands : (target : Target) (ts : List Task) → TasksStand p head ts → TasksStand p head (tasks_of_target target ts)
  target_stands Nowhere ts h = h
  target_stands (ToVariable name) ts h = h
  target_stands (ToField object class name span) ts h = (tt, h)
  target_stands (ToElement type array index span) ts h = (tt, (tt, h))

  right_stands : (right : Right) (span : Span) (ts : List Task) → TasksStand p head ts
      → TasksStand p head (tasks_of_right right span ts)
  right_stands (Value' e) span ts h = (tt, h)
  right_stands (Call class method object arguments) span ts h = (tt, (tt, (tt, h)))
  right_stands (NewObject class) span ts h = (tt, h)
  right_stands (NewArray type size) span ts h = (tt, (tt, h))

  put_stands : (target : Target) → ((n : Name) → InScope head n → goes_into n target ≡ false)
      → TaskStands p head (put_into target)
  put_stands Nowhere fixed = tt
  put_stands (ToVariable name) fixed = fixed
  put_stands (ToField object class name span) fixed = tt
  put_stands (ToElement type array index span) fixed = tt

  statement_stands : (s : Statement) (names : List Name) → ((n : Name) → InScope head n → InScope names n)
      → ((n : Name) → InScope head n → assigns n s ≡ false)
      → ResolvedStatement p head names s → StatementKeeps names s → (ts : List Task) → TasksStand p head ts → TasksStand p head
      (tasks_of_statement s ts)
  statement_stands (Assign target right span) names more fixed resolved keeps ts h =
      target_stands target _ (right_stands right span _ (put_stands target fixed, h))
  statement_stands (If e a b) names more fixed resolved keeps ts h = (
    tt,
    (
      (
        record {
          names = names;
          more = more;
          fixed = λ n i. (or_parts (assigns_in n a) (assigns_in n b) (fixed n i)).0;
          resolved =
              resolved.1;
          keeps = keeps.0;
        },
        record {
          names = names;
          more = more;
          fixed = λ n i. (or_parts (assigns_in n a) (assigns_in n b) (fixed n i)).1;
          resolved =
              resolved.2;
          keeps = keeps.1;
        },
      ),
      h,
    ),
  )
  statement_stands (While variables f e body span) names more fixed resolved keeps ts h =
      (record { names = names; more = more; fixed = fixed; resolved = resolved.3; keeps = keeps.1 }, h)
  statement_stands (Members team body span) names more fixed resolved keeps ts h = (
    tt,
    (
      tt,
      (
        record {
          names = names;
          more = more;
          shared = resolved.0.2;
          fixed = keeps.0;
          resolved = resolved.1;
          keeps = keeps.1;
        },
        h,
      ),
    ),
  )
  statement_stands (Meet barrier span) names more fixed resolved keeps ts h = (resolved, h)
  statement_stands (Act action class object span) names more fixed resolved keeps ts h = (tt, (tt, h))
  statement_stands (Fold class predicate object arguments span) names more fixed resolved keeps ts h = (tt, (tt, (tt, h)))
  statement_stands (Unfold class predicate object arguments span) names more fixed resolved keeps ts h = (tt, (tt, (tt, h)))
  statement_stands (Assert f span) names more fixed resolved keeps ts h = (tt, h)
  statement_stands (Send m span) names more fixed resolved keeps ts h = (resolved, h)
  statement_stands (Receive m span) names more fixed resolved keeps ts h = (resolved, h)
  statement_stands (Return None span) names more fixed resolved keeps ts h = h
  statement_stands (Return (Some e) span) names more fixed resolved keeps ts h = (tt, (tt, h))

  -- a block goes on with its first statement
  block_stands : (s : Statement) (b : Block) → BlockStands p head (Then s b) → (ts : List Task) → TasksStand p head ts
      → TasksStand p head (tasks_of_statement s (Run b ∷ ts))
  block_stands s b stands ts h =
      statement_stands s stands.names stands.more (λ n i.
      (or_parts (assigns n s) (assigns_in n b) (stands.fixed n i)).0) stands.resolved.0 stands.keeps.0
      (Run b ∷ ts) (
        record {
          names = behind stands.names s;
          more = λ n i. behind_more stands.names s n (stands.more n i);
          fixed = λ n i. (or_parts (assigns n s) (assigns_in n b) (stands.fixed n i)).1;
          resolved = stands.resolved.1;
          keeps = stands.keeps.1;
        },
        h,
      )

-- Frames

module _ (p : core.Program) (of : Option Membership) where
  -- other values, tasks and another result
  moved : (f : Frame) (k : KeepsHead p of f) (values : List Value) (tasks : List Task) (result : Value)
      → TasksStand p k.head tasks
      → KeepsHead p of (record f { values = values; tasks = tasks; result = result })
  moved f k values tasks result h = record {
    declared = k.declared;
    head = k.head;
    parameters = k.parameters;
    member = k.member;
    tasks = h;
    fixed = k.fixed;
  }

  evaluated_stands : (f : Frame) (k : KeepsHead p of f) (e : Expression) (ts : List Task) → TasksStand p k.head ts
      → KeepsHead p of (evaluated f e ts)
  evaluated_stands f k (Constant v) ts h = moved f k (v ∷ f.values) ts f.result h
  evaluated_stands f k This ts h = moved f k (value.Reference f.this ∷ f.values) ts f.result h
  evaluated_stands f k Result ts h = moved f k (f.result ∷ f.values) ts f.result h
  evaluated_stands f k (Variable name) ts h = moved f k (f.variables name.0 ∷ f.values) ts f.result h
  evaluated_stands f k (Field object class name span) ts h = moved f k f.values _ f.result (tt, (tt, h))
  evaluated_stands f k (Element type array index span) ts h = moved f k f.values _ f.result (tt, (tt, (tt, h)))
  evaluated_stands f k (Length type array span) ts h = moved f k f.values _ f.result (tt, (tt, h))
  evaluated_stands f k (Not e) ts h = moved f k f.values _ f.result (tt, (tt, h))
  evaluated_stands f k (Compute manner operation a b span) ts h = moved f k f.values _ f.result (tt, (tt, (tt, h)))
  evaluated_stands f k (Compare order a b) ts h = moved f k f.values _ f.result (tt, (tt, (tt, h)))
  evaluated_stands f k (Equal same a b) ts h = moved f k f.values _ f.result (tt, (tt, (tt, h)))
  evaluated_stands f k (And a b) ts h = moved f k f.values _ f.result (tt, (tt, h))
  evaluated_stands f k (Or a b) ts h = moved f k f.values _ f.result (tt, (tt, h))
  evaluated_stands f k (Implies a b) ts h = moved f k f.values _ f.result (tt, (tt, h))
  evaluated_stands f k (Old e) ts h = moved f k f.values _ f.result (tt, h)

  block_if : (head : List Name) (b : Bool) (x y : Block) → BlockStands p head x × BlockStands p head y
      → BlockStands p head (if b then x else y)
  block_if head true x y h = h.0
  block_if head false x y h = h.1

  turn_if : (head : List Name) (b : Bool) (loop : Loop) (ts : List Task) → BlockStands p head loop.body → TasksStand p head ts
      → TasksStand p head (if b then Run loop.body ∷ Stand (AtHead check.LoopKeep loop) ∷ ts else ts)
  turn_if head true loop ts h k = (h, (h, k))
  turn_if head false loop ts h k = k

  other_variable : (b : Bool) (v w x : Value) → b ≡ false → w ≡ x → (if b then v else w) ≡ x
  other_variable true v w x h k = absurd cc
  other_variable false v w x h k = k

  put_keeps : (f : Frame) (k : KeepsHead p of f) (name : Name) (ts : List Task) → TaskStands p k.head (Put name)
      → TasksStand p k.head ts
      → KeepsHead p of (worked f (Put name ∷ ts))
  put_keeps f k name ts free h = record {
    declared = k.declared;
    head = k.head;
    parameters = k.parameters;
    member = k.member;
    tasks = h;
    fixed = λ n i. other_variable (nat_eq n.0 name.0) (top f.values) (f.variables n.0) (f.begun n.0) (free n i) (k.fixed n i);
  }

  worked_stands : (f : Frame) (k : KeepsHead p of f) (ts : List Task) → TasksStand p k.head ts → KeepsHead p of (worked f ts)
  worked_stands f k [] h = k
  worked_stands f k (Evaluate e ∷ ts) h = evaluated_stands f k e ts h.1
  worked_stands f k (EvaluateAll [] ∷ ts) h = moved f k f.values ts f.result h.1
  worked_stands f k (EvaluateAll (e ∷ es) ∷ ts) h = moved f k f.values _ f.result (tt, (tt, h.1))
  worked_stands f k (Combine combination ∷ ts) h = moved f k (combined combination f.values) ts f.result h.1
  worked_stands f k (Choose a b ∷ ts) h = moved f k (drop 1 f.values) _ f.result (tt, h.1)
  worked_stands f k (Branch a b ∷ ts) h = moved f k (drop 1 f.values) _ f.result (block_if k.head (is_true f) a b h.0, h.1)
  worked_stands f k (Turn loop ∷ ts) h = moved f k (drop 1 f.values) _ f.result (turn_if k.head (is_true f) loop ts h.0 h.1)
  worked_stands f k (Put name ∷ ts) h = put_keeps f k name ts h.0 h.1
  worked_stands f k (Drop ∷ ts) h = moved f k (drop 1 f.values) ts f.result h.1
  worked_stands f k (Give ∷ ts) h = moved f k (drop 1 f.values) ts (top f.values) h.1
  worked_stands f k (Unfolded class predicate count span ∷ ts) h = moved f k (drop (suc count) f.values) ts f.result h.1
  worked_stands f k (Run Stop ∷ ts) h = moved f k f.values ts f.result h.1
  worked_stands f k (Run (Then s b) ∷ ts) h = moved f k f.values _ f.result (block_stands p k.head s b h.0 ts h.1)
  worked_stands f k (Stand step ∷ ts) h = k
  worked_stands f k (Resume class method object arguments ∷ ts) h = k

  -- what stands where a frame has these tasks
  tasks_at : (f : Frame) (k : KeepsHead p of f) (ts : List Task) → f.tasks ≡ ts → TasksStand p k.head ts
  tasks_at f k ts is = subst (TasksStand p k.head) is k.tasks

-- Methods of a program

-- a body that keeps its parameters and is resolved
abbrev BodyStands : core.Program → Method → Type 0
BodyStands p m = BlockStands p (names_of m.parameters) m.body

methods_stand : (p : core.Program) (ms : List Member) → AllByRecursion (ResolvedMember p) ms → AllByRecursion MemberKeeps ms
    → AllByRecursion (BodyStands p) (filter_map method_of ms)
methods_stand p [] resolved keeps = tt
methods_stand p (core.IsField f ∷ ms) resolved keeps = methods_stand p ms resolved.1 keeps.1
methods_stand p (core.IsPredicate q ∷ ms) resolved keeps = methods_stand p ms resolved.1 keeps.1
methods_stand p (core.IsMethod m ∷ ms) resolved keeps = (
  record {
    names = names_of m.parameters;
    more = λ n i. i;
    fixed = keeps.0.0;
    resolved = resolved.0.1;
    keeps = keeps.0.1;
  },
  methods_stand p ms resolved.1 keeps.1,
)

classes_stand : (p : core.Program) (cs : List Class) → AllByRecursion (ResolvedClass p) cs → AllByRecursion ClassKeeps cs
    → AllByRecursion (MethodsHave (BodyStands p)) cs
classes_stand p [] resolved keeps = tt
classes_stand p (c ∷ cs) resolved keeps = (methods_stand p c.members resolved.0.1 keeps.0, classes_stand p cs resolved.1 keeps.1)

-- Steps

module _ (p : core.Program) (all : AllByRecursion (MethodsHave (BodyStands p)) p) where
  carried : IsCarried p (KeepsHead p)
  carried = record {
    work = λ team f k. worked_stands p team f k f.tasks k.tasks;
    behind = λ team f step rest values is left k. moved p team f k values rest f.result
        (tasks_at p team f k (Stand step ∷ rest) is).1;
    turns = λ team f named loop rest is k.
        let h = tasks_at p team f k (Stand (AtHead named loop) ∷ rest) is in
        moved p team f k f.values (Evaluate loop.condition ∷ Turn loop ∷ rest) f.result (tt, (h.0, h.1));
    calls = λ team f class name count span rest m object arguments is k.
        moved p team f k (drop (suc count) f.values) (Resume class m object arguments ∷ rest) f.result
        (tt, (tasks_at p team f k (Stand (AtCall class name count span) ∷ rest) is).1);
    returns = λ team f class m object arguments rest v is k.
        moved p team f k (v ∷ f.values) rest f.result (tasks_at p team f k (Resume class m object arguments ∷ rest) is).1;
    enters = λ heap class m object arguments declared. record {
      declared = declared;
      head = names_of m.parameters;
      parameters = λ n i. i;
      member = tt;
      tasks = (declared_has (BodyStands p) p all class m declared, tt);
      fixed = λ n i. refl;
    };
    closes = λ team f inner body rest number is k.
        moved p team f k (drop 2 f.values) (Stand (AtClose number) ∷ rest) f.result
        (tt, (tasks_at p team f k (Stand (AtOpen inner body) ∷ rest) is).1);
    opens = λ team f inner body rest position is k.
        let itself : nat_eq inner.variable.0 inner.variable.0 ≡ true = eq-eqb inner.variable.0 inner.variable.0 refl in
        let stands : TeamStands p k.head inner body = (tasks_at p team f k (Stand (AtOpen inner body) ∷ rest) is).0 in
        record {
          declared = k.declared;
          head = inner.variable ∷ stands.names;
          parameters = λ n i. or_right (same_name n inner.variable) (list_any (same_name n) stands.names)
              (stands.more n (k.parameters n i));
          member = record {
            variable = or_left (same_name inner.variable inner.variable)
                (list_any (same_name inner.variable) stands.names) itself;
            begins = refl;
            contract = stands.shared;
          };
          tasks = (
            record {
              names = inner.variable ∷ stands.names;
              more = λ n i. i;
              fixed = stands.fixed;
              resolved = stands.resolved;
              keeps = stands.keeps;
            },
            tt,
          );
          fixed = λ n i. refl;
        };
    arrives = λ team f barrier span rest is k.
        let h = tasks_at p team f k (Stand (AtArrive barrier span) ∷ rest) is in
        moved p team f k f.values (Stand (AtLeave barrier span) ∷ rest) f.result (h.0, h.1);
  }

pub names_keep : (p : Program) → KeepsRules p → (w : World) → IsReached (core_of p) w → InWorld (KeepsHead (core_of p)) w
names_keep p keeps w reached =
    let all : AllByRecursion (MethodsHave (BodyStands (core_of p))) (core_of p) = classes_stand (core_of p) (core_of p)
    (program_resolved p keeps) (program_keeps p keeps) in
    reached_good (core_of p) (KeepsHead (core_of p)) (carried (core_of p) all) w reached
