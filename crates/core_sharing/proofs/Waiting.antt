-- In a reached world the barriers that a frame has still to come to stand in the body of its method.
use Rattle.std.proofs.Common.{◌≡◌, ◌⊎◌, inl, inr, refl, sym, subst, Bool, true, false, Option, Some, None, List, [], ◌∷◌}
use Rattle.std.specs.Prelude.{if◌then◌else◌}
use Rattle.pv_base.specs.declared.Name.{Name}
use Rattle.pv_base.specs.declared.Span.{Span}
use Rattle.pv_picks.specs.declared.check.Check.TheVariants as check
use Rattle.pv_picks.specs.Plain.Core.{Expression, Constant, This, Result, Variable, Field, Element, Length, Not, Compute, Compare, Equal, And, Or, Implies, Old, Target, Nowhere, ToVariable, ToField, ToElement, Right, Value', Call, NewObject, NewArray, Barrier, Statement, Assign, If, While, Members, Meet, Act, Fold, Unfold, Assert, Send, Receive, Return, Block, Stop, Then, Method, Program}
use Rattle.pv_picks.specs.Machine.Tasks.{AtHead, AtCall, AtOpen, AtArrive, Loop, Task, Evaluate, EvaluateAll, Combine, Choose, Branch, Turn, Put, Drop, Give, Unfolded, Run, Stand, Resume, put_into, tasks_of_target, tasks_of_right, tasks_of_statement}
use Rattle.pv_picks.specs.Machine.Frames.{Frame, is_true, evaluated, worked}
use Rattle.pv_picks.specs.Machine.Worlds.{World}
use Rattle.pv_picks.specs.Machine.Safety.{IsReached}
use Rattle.core_names.specs.Carrying.{Membership, IsDeclared, InWorld}
use Rattle.core_names.proofs.Carried.{IsCarried, reached_good}
use Rattle.core_names.proofs.Declared.{member_has}
use Rattle.core_sharing.specs.Places.{StandsIn, StandsInBlock, PlacesTell, PlacedInMember, HasPlaces}
use Rattle.core_sharing.specs.Waiting.{IsLeft, KeepsBarriers}

none_first : {A : Type 0} → ⊥ ⊎ A → A
none_first (inl n) = absurd n
none_first (inr a) = a

-- Local work

evaluated_left : (f : Frame) (e : Expression) (ts : List Task) (x : Barrier) → IsLeft x (evaluated f e ts).tasks → IsLeft x ts
evaluated_left f (Constant v) ts x i = i
evaluated_left f This ts x i = i
evaluated_left f Result ts x i = i
evaluated_left f (Variable name) ts x i = i
evaluated_left f (Field object class name span) ts x i = none_first (none_first i)
evaluated_left f (Element type array index span) ts x i = none_first (none_first (none_first i))
evaluated_left f (Length type array span) ts x i = none_first (none_first i)
evaluated_left f (Not e) ts x i = none_first (none_first i)
evaluated_left f (Compute manner operation a b span) ts x i = none_first (none_first (none_first i))
evaluated_left f (Compare order a b) ts x i = none_first (none_first (none_first i))
evaluated_left f (Equal same a b) ts x i = none_first (none_first (none_first i))
evaluated_left f (And a b) ts x i = none_first (none_first i)
evaluated_left f (Or a b) ts x i = none_first (none_first i)
evaluated_left f (Implies a b) ts x i = none_first (none_first i)
evaluated_left f (Old e) ts x i = none_first i

evaluated_method : (f : Frame) (e : Expression) (ts : List Task) → (evaluated f e ts).method ≡ f.method
evaluated_method f (Constant v) ts = refl
evaluated_method f This ts = refl
evaluated_method f Result ts = refl
evaluated_method f (Variable name) ts = refl
evaluated_method f (Field object class name span) ts = refl
evaluated_method f (Element type array index span) ts = refl
evaluated_method f (Length type array span) ts = refl
evaluated_method f (Not e) ts = refl
evaluated_method f (Compute manner operation a b span) ts = refl
evaluated_method f (Compare order a b) ts = refl
evaluated_method f (Equal same a b) ts = refl
evaluated_method f (And a b) ts = refl
evaluated_method f (Or a b) ts = refl
evaluated_method f (Implies a b) ts = refl
evaluated_method f (Old e) ts = refl

target_left : (target : Target) (ts : List Task) (x : Barrier) → IsLeft x (tasks_of_target target ts) → IsLeft x ts
target_left Nowhere ts x i = i
target_left (ToVariable name) ts x i = i
target_left (ToField object class name span) ts x i = none_first i
target_left (ToElement type array index span) ts x i = none_first (none_first i)

right_left : (right : Right) (span : Span) (ts : List Task) (x : Barrier) → IsLeft x (tasks_of_right right span ts) → IsLeft x ts
right_left (Value' e) span ts x i = none_first i
right_left (Call class method object arguments) span ts x i = none_first (none_first (none_first i))
right_left (NewObject class) span ts x i = none_first i
right_left (NewArray type size) span ts x i = none_first (none_first i)

put_left : (target : Target) (ts : List Task) (x : Barrier) → IsLeft x (put_into target ∷ ts) → IsLeft x ts
put_left Nowhere ts x i = none_first i
put_left (ToVariable name) ts x i = none_first i
put_left (ToField object class name span) ts x i = none_first i
put_left (ToElement type array index span) ts x i = none_first i

statement_left : (s : Statement) (ts : List Task) (x : Barrier) → IsLeft x (tasks_of_statement s ts) → StandsIn x s ⊎ IsLeft x ts
statement_left (Assign target right span) ts x i =
    inr (put_left target ts x (right_left right span (put_into target ∷ ts) x
    (target_left target (tasks_of_right right span (put_into target ∷ ts)) x i)))
statement_left (If condition a b) ts x i = none_first i
statement_left (While assigned invariant condition body span) ts x i = i
statement_left (Members team body span) ts x i = none_first (none_first i)
statement_left (Meet barrier span) ts x i = i
statement_left (Act action class object span) ts x i = inr (none_first (none_first i))
statement_left (Fold class predicate object arguments span) ts x i = inr (none_first (none_first (none_first i)))
statement_left (Unfold class predicate object arguments span) ts x i = inr (none_first (none_first (none_first i)))
statement_left (Assert formula span) ts x i = inr (none_first i)
statement_left (Send message span) ts x i = inr (none_first i)
statement_left (Receive message span) ts x i = inr (none_first i)
statement_left (Return None span) ts x i = inr i
statement_left (Return (Some e) span) ts x i = inr (none_first (none_first i))

either_left : (b : Bool) (first second : Block) (x : Barrier) → StandsInBlock x (if b then first else second)
    → StandsInBlock x first ⊎ StandsInBlock x second
either_left true first second x i = inl i
either_left false first second x i = inr i

branch_left : (b : Bool) (first second : Block) (ts : List Task) (x : Barrier)
    → IsLeft x (Run (if b then first else second) ∷ ts) → IsLeft x (Branch first second ∷ ts)
branch_left b first second ts x (inl i) = inl (either_left b first second x i)
branch_left b first second ts x (inr i) = inr i

turn_left : (b : Bool) (loop : Loop) (ts : List Task) (x : Barrier)
    → IsLeft x (if b then Run loop.body ∷ Stand (AtHead check.LoopKeep loop) ∷ ts else ts) → IsLeft x (Turn loop ∷ ts)
turn_left true loop ts x (inl i) = inl i
turn_left true loop ts x (inr i) = i
turn_left false loop ts x i = inr i

run_left : (s : Statement) (b : Block) (ts : List Task) (x : Barrier) → StandsIn x s ⊎ IsLeft x (Run b ∷ ts)
    → IsLeft x (Run (Then s b) ∷ ts)
run_left s b ts x (inl i) = inl (inl i)
run_left s b ts x (inr (inl i)) = inl (inr i)
run_left s b ts x (inr (inr i)) = inr i

worked_left : (f : Frame) (ts : List Task) (x : Barrier) → IsLeft x (worked f ts).tasks → IsLeft x f.tasks ⊎ IsLeft x ts
worked_left f [] x i = inl i
worked_left f (Stand step ∷ ts) x i = inl i
worked_left f (Resume class method object arguments ∷ ts) x i = inl i
worked_left f (Evaluate e ∷ ts) x i = inr (inr (evaluated_left f e ts x i))
worked_left f (EvaluateAll [] ∷ ts) x i = inr (inr i)
worked_left f (EvaluateAll (e ∷ es) ∷ ts) x i = inr (inr (none_first (none_first i)))
worked_left f (Combine combination ∷ ts) x i = inr (inr i)
worked_left f (Choose a b ∷ ts) x i = inr (inr (none_first i))
worked_left f (Branch a b ∷ ts) x i = inr (branch_left (is_true f) a b ts x i)
worked_left f (Turn loop ∷ ts) x i = inr (turn_left (is_true f) loop ts x i)
worked_left f (Put name ∷ ts) x i = inr (inr i)
worked_left f (Drop ∷ ts) x i = inr (inr i)
worked_left f (Give ∷ ts) x i = inr (inr i)
worked_left f (Unfolded class predicate count span ∷ ts) x i = inr (inr i)
worked_left f (Run Stop ∷ ts) x i = inr (inr i)
worked_left f (Run (Then s b) ∷ ts) x i = inr (run_left s b ts x (statement_left s (Run b ∷ ts) x i))

-- and the method stays
pub worked_method : (f : Frame) (ts : List Task) → (worked f ts).method ≡ f.method
worked_method f [] = refl
worked_method f (Stand step ∷ ts) = refl
worked_method f (Resume class method object arguments ∷ ts) = refl
worked_method f (Evaluate e ∷ ts) = evaluated_method f e ts
worked_method f (EvaluateAll [] ∷ ts) = refl
worked_method f (EvaluateAll (e ∷ es) ∷ ts) = refl
worked_method f (Combine combination ∷ ts) = refl
worked_method f (Choose a b ∷ ts) = refl
worked_method f (Branch a b ∷ ts) = refl
worked_method f (Turn loop ∷ ts) = refl
worked_method f (Put name ∷ ts) = refl
worked_method f (Drop ∷ ts) = refl
worked_method f (Give ∷ ts) = refl
worked_method f (Unfolded class predicate count span ∷ ts) = refl
worked_method f (Run Stop ∷ ts) = refl
worked_method f (Run (Then s b) ∷ ts) = refl

either : {A : Type 0} → A ⊎ A → A
either (inl a) = a
either (inr a) = a

worked_keeps : (member : Option Membership) (f : Frame) → KeepsBarriers member f → KeepsBarriers member (worked f f.tasks)
worked_keeps member f k = record {
  left = λ x i.
      subst (λ (m : Method). StandsInBlock x m.body) (sym (worked_method f f.tasks))
      (k.left x (either (worked_left f f.tasks x i)));
  tell = subst (λ (m : Method). PlacesTell m.body) (sym (worked_method f f.tasks)) k.tell;
}

-- Methods

declared_tells : (p : Program) → HasPlaces p → (class : Name) (m : Method) → IsDeclared p class m → PlacesTell m.body
declared_tells p places = member_has (λ (m : Method). PlacesTell m.body) PlacedInMember (λ m h. h.1) p places

-- Steps

still : (f : Frame) (ts : List Task) → f.tasks ≡ ts → (x : Barrier)
    → ((y : Barrier) → IsLeft y f.tasks → StandsInBlock y f.method.body) → IsLeft x ts → StandsInBlock x f.method.body
still f ts is x left i = left x (subst (IsLeft x) (sym is) i)

only : {A : Type 0} → A ⊎ ⊥ → A
only (inl a) = a
only (inr n) = absurd n

carried : (p : Program) → HasPlaces p → IsCarried p KeepsBarriers
carried p places = record {
  work = worked_keeps;
  behind = λ member f step rest values is left k. record {
    left = λ x i. still f (Stand step ∷ rest) is x k.left (inr i);
    tell = k.tell;
  };
  turns = λ member f named loop rest is k. record {
    left = λ x i. still f (Stand (AtHead named loop) ∷ rest) is x k.left (none_first i);
    tell = k.tell;
  };
  calls = λ member f class name count span rest m object arguments is k. record {
    left = λ x i. still f (Stand (AtCall class name count span) ∷ rest) is x k.left (inr (none_first i));
    tell = k.tell;
  };
  returns = λ member f class m object arguments rest v is k. record {
    left = λ x i. still f (Resume class m object arguments ∷ rest) is x k.left (inr i);
    tell = k.tell;
  };
  enters = λ heap class m object arguments declared. record {
    left = λ x i. only i;
    tell = declared_tells p places class m declared;
  };
  closes = λ member f inner body rest number is k. record {
    left = λ x i. still f (Stand (AtOpen inner body) ∷ rest) is x k.left (inr (none_first i));
    tell = k.tell;
  };
  opens = λ member f inner body rest position is k. record {
    left = λ x i. still f (Stand (AtOpen inner body) ∷ rest) is x k.left (inl (only i));
    tell = k.tell;
  };
  arrives = λ member f barrier span rest is k. record {
    left = λ x i. still f (Stand (AtArrive barrier span) ∷ rest) is x k.left i;
    tell = k.tell;
  };
}

pub reached_barriers : (p : Program) → HasPlaces p → (w : World) → IsReached p w → InWorld KeepsBarriers w
reached_barriers p places w reached = reached_good p KeepsBarriers (carried p places) w reached
