-- In each reached world the frames have just the values that what is left of their bodies takes.
use Rattle.std.proofs.Common.{◌≡◌, ℕ, suc, ◌+◌, Bool, true, false, Option, Some, None, List, [], ◌∷◌, length, drop, refl, sym, ◌∙◌, ap, subst, arith}
use Rattle.std.proofs.lemmas.List.{length-drop}
use Rattle.std.specs.Prelude.{if◌then◌else◌}
use Rattle.std.specs.List.{AllByRecursion}
use Rattle.pv_base.specs.declared.Span.{Span}
use Rattle.pv_values.specs.declared.value.Value.{Value}
use Rattle.pv_picks.specs.declared.check.Check.TheVariants as check
use Rattle.pv_picks.specs.Plain.Core.{Expression, Constant, This, Result, Variable, Field, Element, Length, Not, Compute, Compare, Equal, And, Or, Implies, Old, Target, Nowhere, ToVariable, ToField, ToElement, Right, Value', Call, NewObject, NewArray, Statement, Assign, If, While, Members, Meet, Act, Fold, Unfold, Assert, Send, Receive, Return, Stop, Then, Program}
use Rattle.pv_picks.specs.Machine.Tasks.{Loop, AtHead, AtCall, AtOpen, AtArrive, Combination, Negated, Computed, Compared, Matched, Task, Evaluate, EvaluateAll, Combine, Choose, Branch, Turn, Put, Drop, Give, Unfolded, Run, Stand, Resume, tasks_of_target, tasks_of_right, tasks_of_statement, put_into}
use Rattle.pv_picks.specs.Machine.Frames.{Frame, is_true, combined, evaluated, worked}
use Rattle.pv_picks.specs.Machine.Safety.{IsReached}
use Rattle.pv_picks.specs.Machine.Worlds.{World}
use Rattle.core_names.specs.Carrying.{Membership, membership_of, AllFrames}
use Rattle.core_names.specs.Stacks.{taken_by, leaves_one, operands, Takes, AreBalanced, StacksFit}
use Rattle.core_names.proofs.Carried.{AreLeft, IsCarried, reached_good}

-- Statements

-- the values that name a place stand below what is assigned
abbrev below : Target → ℕ
below Nowhere = 0
below (ToVariable name) = 0
below (ToField object class name span) = 1
below (ToElement type array index span) = 2

target_balanced : (target : Target) (ts : List Task) → AreBalanced ts (below target) → AreBalanced (tasks_of_target target ts) 0
target_balanced Nowhere ts h = h
target_balanced (ToVariable name) ts h = h
target_balanced (ToField object class name span) ts h = h
target_balanced (ToElement type array index span) ts h = h

right_balanced : (right : Right) (span : Span) (count : ℕ) (ts : List Task) → AreBalanced ts (suc count)
    → AreBalanced (tasks_of_right right span ts) count
right_balanced (Value' e) span count ts h = h
right_balanced (Call class method object arguments) span count ts h = (count, omega arith, h)
right_balanced (NewObject class) span count ts h = (count, omega arith, h)
right_balanced (NewArray type size) span count ts h = (count, omega arith, h)

put_balanced : (target : Target) (ts : List Task) → AreBalanced ts 0 → AreBalanced (put_into target ∷ ts) (suc (below target))
put_balanced Nowhere ts h = (refl, h)
put_balanced (ToVariable name) ts h = (refl, h)
put_balanced (ToField object class name span) ts h = (refl, h)
put_balanced (ToElement type array index span) ts h = (refl, h)

statement_balanced : (s : Statement) (ts : List Task) → AreBalanced ts 0 → AreBalanced (tasks_of_statement s ts) 0
statement_balanced (Assign target right span) ts h =
    target_balanced target (tasks_of_right right span (put_into target ∷ ts))
    (right_balanced right span (below target) (put_into target ∷ ts) (put_balanced target ts h))
statement_balanced (If e a b) ts h = (refl, h)
statement_balanced (While variables f e body span) ts h = (refl, h)
statement_balanced (Members team body span) ts h = (refl, h)
statement_balanced (Meet barrier span) ts h = (refl, h)
statement_balanced (Act action class object span) ts h = (refl, h)
statement_balanced (Fold class predicate object arguments span) ts h = (omega arith, h)
statement_balanced (Unfold class predicate object arguments span) ts h = (omega arith, h)
statement_balanced (Assert f span) ts h = (refl, h)
statement_balanced (Send m span) ts h = (refl, h)
statement_balanced (Receive m span) ts h = (refl, h)
statement_balanced (Return None span) ts h = h
statement_balanced (Return (Some e) span) ts h = (refl, h)

-- Values

left : (taken : ℕ) (values : List Value) (others : ℕ) → length values ≡ taken + others → length (drop taken values) ≡ others
left taken values others h = let d = length-drop taken values in omega (arith, d)

none_left : (taken : ℕ) (values : List Value) → length values ≡ taken → length (drop taken values) ≡ 0
none_left taken values h = let d = length-drop taken values in omega (arith, d)

after_step : (one : Bool) (taken : ℕ) (ts : List Task) (before after : List Value)
    → Takes one taken (AreBalanced ts) (length before) → AreLeft taken one before after → AreBalanced ts (length after)
after_step true taken ts before after h k =
    let same : length after ≡ suc h.0 = ap length k.1 ∙ ap suc (left taken before h.0 h.1) in subst (AreBalanced ts)
    (sym same) h.2
after_step false taken ts before after h k =
    let same : length after ≡ 0 = ap length k ∙ none_left taken before h.0 in subst (AreBalanced ts) (sym same) h.1

-- Local work

abbrev IsFit : Frame → Type 0
IsFit f = AreBalanced f.tasks (length f.values)

evaluated_fits : (f : Frame) (e : Expression) (ts : List Task) → AreBalanced ts (suc (length f.values)) → IsFit (evaluated f e ts)
evaluated_fits f (Constant v) ts h = h
evaluated_fits f This ts h = h
evaluated_fits f Result ts h = h
evaluated_fits f (Variable name) ts h = h
evaluated_fits f (Field object class name span) ts h = (length f.values, omega arith, h)
evaluated_fits f (Element type array index span) ts h = (length f.values, omega arith, h)
evaluated_fits f (Length type array span) ts h = (length f.values, omega arith, h)
evaluated_fits f (Not e) ts h = (length f.values, omega arith, h)
evaluated_fits f (Compute manner operation a b span) ts h = (length f.values, omega arith, h)
evaluated_fits f (Compare order a b) ts h = (length f.values, omega arith, h)
evaluated_fits f (Equal same a b) ts h = (length f.values, omega arith, h)
evaluated_fits f (And a b) ts h = (length f.values, omega arith, h)
evaluated_fits f (Or a b) ts h = (length f.values, omega arith, h)
evaluated_fits f (Implies a b) ts h = (length f.values, omega arith, h)
evaluated_fits f (Old e) ts h = h

combined_left : (combination : Combination) (values : List Value)
    → AreLeft (operands combination) true values (combined combination values)
combined_left Negated values = (_, refl)
combined_left (Computed manner operation span) values = (_, refl)
combined_left (Compared order) values = (_, refl)
combined_left (Matched same) values = (_, refl)

turn_fits : (b : Bool) (loop : Loop) (ts : List Task) (count : ℕ) → count ≡ 0 → AreBalanced ts 0
    → AreBalanced (if b then Run loop.body ∷ Stand (AtHead check.LoopKeep loop) ∷ ts else ts) count
turn_fits true loop ts count is h = (is, (refl, h))
turn_fits false loop ts count is h = subst (AreBalanced ts) (sym is) h

worked_fits : (f : Frame) (ts : List Task) → IsFit f → AreBalanced ts (length f.values) → IsFit (worked f ts)
worked_fits f [] g h = g
worked_fits f (Evaluate e ∷ ts) g h = evaluated_fits f e ts h
worked_fits f (EvaluateAll [] ∷ ts) g h = let same : 0 + length f.values ≡ length f.values = omega arith in subst
    (AreBalanced ts) same h
worked_fits f (EvaluateAll (e ∷ es) ∷ ts) g h =
    let same : suc (length es) + length f.values ≡ length es + suc (length f.values) = omega arith in subst
    (AreBalanced ts) same h
worked_fits f (Combine combination ∷ ts) g h =
    after_step true (operands combination) ts f.values (combined combination f.values) h (combined_left combination f.values)
worked_fits f (Choose a b ∷ ts) g h = subst (λ n. AreBalanced ts (suc n)) (sym (left 1 f.values h.0 h.1)) h.2
worked_fits f (Branch a b ∷ ts) g h = (none_left 1 f.values h.0, h.1)
worked_fits f (Turn loop ∷ ts) g h = turn_fits (is_true f) loop ts (length (drop 1 f.values)) (none_left 1 f.values h.0) h.1
worked_fits f (Put name ∷ ts) g h = after_step false 1 ts f.values (drop 1 f.values) h refl
worked_fits f (Drop ∷ ts) g h = after_step false 1 ts f.values (drop 1 f.values) h refl
worked_fits f (Give ∷ ts) g h = after_step false 1 ts f.values (drop 1 f.values) h refl
worked_fits f (Unfolded class predicate count span ∷ ts) g h = after_step false (suc count) ts f.values
    (drop (suc count) f.values) h refl
worked_fits f (Run Stop ∷ ts) g h = subst (AreBalanced ts) (sym h.0) h.1
worked_fits f (Run (Then s b) ∷ ts) g h = subst (AreBalanced (tasks_of_statement s (Run b ∷ ts))) (sym h.0)
    (statement_balanced s (Run b ∷ ts) (refl, h.1))
worked_fits f (Stand step ∷ ts) g h = g
worked_fits f (Resume class method object arguments ∷ ts) g h = g

-- Steps

at : (f : Frame) (ts : List Task) → f.tasks ≡ ts → IsFit f → AreBalanced ts (length f.values)
at f ts is h = subst (λ ts. AreBalanced ts (length f.values)) is h

carried : (p : Program) → IsCarried p (λ member f. IsFit f)
carried p = record {
  work = λ member f h. worked_fits f f.tasks h h;
  behind = λ member f step rest values is k h. after_step (leaves_one step) (taken_by step) rest f.values values
      (at f (Stand step ∷ rest) is h) k;
  turns = λ member f named loop rest is h. let k = at f (Stand (AtHead named loop) ∷ rest) is h in (ap suc k.0, k.1);
  calls = λ member f class name count span rest m object arguments is h.
      let k = at f (Stand (AtCall class name count span) ∷ rest) is h in
      subst (λ n. AreBalanced rest (suc n)) (sym (left (suc count) f.values k.0 k.1)) k.2;
  returns = λ member f class m object arguments rest v is h. at f (Resume class m object arguments ∷ rest) is h;
  enters = λ heap class m object arguments declared. (refl, refl);
  closes = λ member f inner body rest number is h.
      let k = at f (Stand (AtOpen inner body) ∷ rest) is h in (none_left 2 f.values k.0, k.1);
  opens = λ member f inner body rest position is h. (refl, refl);
  arrives = λ member f barrier span rest is h. let k = at f (Stand (AtArrive barrier span) ∷ rest) is h in (k.0, k.1);
}

only_frames : (member : Option Membership) (fs : List Frame) → AllFrames (λ member f. IsFit f) member fs → AllByRecursion IsFit fs
only_frames member [] h = tt
only_frames member (f ∷ fs) h = (h.0, only_frames member fs h.1)

pub stacks_fit : (p : Program) (w : World) → IsReached p w → StacksFit w
stacks_fit p w reached =
    let all = reached_good p (λ member f. IsFit f) (carried p) w reached in
    λ j. only_frames (membership_of (λ number. (w.blocks number).team) all.0 (w.threads j).role) (w.threads j).frames (all.1 j)
