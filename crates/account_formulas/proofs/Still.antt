-- Local work keeps what a frame began with.
use Rattle.std.proofs.Common.{ℕ, zero, suc, List, [], ◌∷◌, refl, ◌∙◌}
use Rattle.pv_picks.specs.Plain.Core.{Expression, Constant, This, Result, Variable, Field, Element, Length, Not, Compute, Compare, Equal, And, Or, Implies, Old, Stop, Then}
use Rattle.pv_picks.specs.Machine.Tasks.{Task, Evaluate, EvaluateAll, Combine, Choose, Branch, Turn, Put, Drop, Give, Unfolded, Run, Stand, Resume}
use Rattle.pv_picks.specs.Machine.Measures.{size_of_tasks}
use Rattle.account_formulas.specs.Still.{IsStill}
use Rattle.pv_picks.specs.Machine.Frames.{Frame, evaluated, worked, after_work, settled}

still : (f : Frame) → IsStill f f
still f = record { class = refl; method = refl; this = refl; begun = refl; old = refl }

evaluated_still : (f : Frame) (e : Expression) (rest : List Task) → IsStill f (evaluated f e rest)
evaluated_still f (Constant v) rest = record { class = refl; method = refl; this = refl; begun = refl; old = refl }
evaluated_still f This rest = record { class = refl; method = refl; this = refl; begun = refl; old = refl }
evaluated_still f Result rest = record { class = refl; method = refl; this = refl; begun = refl; old = refl }
evaluated_still f (Variable x) rest = record { class = refl; method = refl; this = refl; begun = refl; old = refl }
evaluated_still f (Field e class x span) rest = record { class = refl; method = refl; this = refl; begun = refl; old = refl }
evaluated_still f (Element t a i span) rest = record { class = refl; method = refl; this = refl; begun = refl; old = refl }
evaluated_still f (Length t a span) rest = record { class = refl; method = refl; this = refl; begun = refl; old = refl }
evaluated_still f (Not e) rest = record { class = refl; method = refl; this = refl; begun = refl; old = refl }
evaluated_still f (Compute m o a b span) rest = record { class = refl; method = refl; this = refl; begun = refl; old = refl }
evaluated_still f (Compare o a b) rest = record { class = refl; method = refl; this = refl; begun = refl; old = refl }
evaluated_still f (Equal s a b) rest = record { class = refl; method = refl; this = refl; begun = refl; old = refl }
evaluated_still f (And a b) rest = record { class = refl; method = refl; this = refl; begun = refl; old = refl }
evaluated_still f (Or a b) rest = record { class = refl; method = refl; this = refl; begun = refl; old = refl }
evaluated_still f (Implies a b) rest = record { class = refl; method = refl; this = refl; begun = refl; old = refl }
evaluated_still f (Old e) rest = record { class = refl; method = refl; this = refl; begun = refl; old = refl }

worked_still : (f : Frame) (tasks : List Task) → IsStill f (worked f tasks)
worked_still f [] = still f
worked_still f (Evaluate e ∷ rest) = evaluated_still f e rest
worked_still f (EvaluateAll [] ∷ rest) = record { class = refl; method = refl; this = refl; begun = refl; old = refl }
worked_still f (EvaluateAll (e ∷ es) ∷ rest) = record { class = refl; method = refl; this = refl; begun = refl; old = refl }
worked_still f (Combine c ∷ rest) = record { class = refl; method = refl; this = refl; begun = refl; old = refl }
worked_still f (Choose a b ∷ rest) = record { class = refl; method = refl; this = refl; begun = refl; old = refl }
worked_still f (Branch a b ∷ rest) = record { class = refl; method = refl; this = refl; begun = refl; old = refl }
worked_still f (Turn l ∷ rest) = record { class = refl; method = refl; this = refl; begun = refl; old = refl }
worked_still f (Put name ∷ rest) = record { class = refl; method = refl; this = refl; begun = refl; old = refl }
worked_still f (Drop ∷ rest) = record { class = refl; method = refl; this = refl; begun = refl; old = refl }
worked_still f (Give ∷ rest) = record { class = refl; method = refl; this = refl; begun = refl; old = refl }
worked_still f (Unfolded class predicate count span ∷ rest) =
    record { class = refl; method = refl; this = refl; begun = refl; old = refl }
worked_still f (Run Stop ∷ rest) = record { class = refl; method = refl; this = refl; begun = refl; old = refl }
worked_still f (Run (Then s b) ∷ rest) = record { class = refl; method = refl; this = refl; begun = refl; old = refl }
worked_still f (Stand step ∷ rest) = still f
worked_still f (Resume class m object arguments ∷ rest) = still f

pub work_still : (n : ℕ) (f : Frame) → IsStill f (after_work n f)
work_still zero f = still f
work_still (suc n) f =
    let one = worked_still f f.tasks in
    let more = work_still n (worked f f.tasks) in
    record {
      class = more.class ∙ one.class;
      method = more.method ∙ one.method;
      this = more.this ∙ one.this;
      begun = more.begun ∙ one.begun;
      old = more.old ∙ one.old;
    }

pub settled_still : (f : Frame) → IsStill f (settled f)
settled_still f = work_still (size_of_tasks f.tasks) f
