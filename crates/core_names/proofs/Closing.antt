-- In a reached world a frame closes a block at its next step, or never.
use Rattle.std.proofs.Common.{◌≡◌, refl, subst, List, [], ◌∷◌}
use Rattle.pv_picks.specs.Plain.Core.{Stop, Then, Program}
use Rattle.pv_picks.specs.Machine.Tasks.{Task, Evaluate, EvaluateAll, Combine, Choose, Branch, Turn, Put, Drop, Give, Unfolded, Run, Stand, Resume}
use Rattle.pv_picks.specs.Machine.Frames.{Frame, worked}
use Rattle.pv_picks.specs.Machine.Worlds.{World}
use Rattle.pv_picks.specs.Machine.Safety.{IsReached}
use Rattle.machine_laws.specs.Closing.{CloseNothing}
use Rattle.machine_laws.proofs.Closing.{evaluated_closes, statement_closes, turn_closes}
use Rattle.core_names.specs.Carrying.{InWorld}
use Rattle.core_names.specs.Closing.{CloseNothingBehind, ClosesFirst}
use Rattle.core_names.proofs.Carried.{IsCarried, reached_good}

behind_first : (tasks : List Task) → CloseNothing tasks → CloseNothingBehind tasks
behind_first [] h = tt
behind_first (task ∷ rest) h = h.1

worked_first : (f : Frame) (tasks : List Task) → CloseNothingBehind f.tasks → CloseNothingBehind tasks
    → CloseNothingBehind (worked f tasks).tasks
worked_first f [] own h = own
worked_first f (Stand step ∷ rest) own h = own
worked_first f (Resume class method object arguments ∷ rest) own h = own
worked_first f (Evaluate e ∷ rest) own h = behind_first _ (evaluated_closes f e rest h)
worked_first f (EvaluateAll [] ∷ rest) own h = behind_first rest h
worked_first f (EvaluateAll (e ∷ es) ∷ rest) own h = (refl, h)
worked_first f (Combine combination ∷ rest) own h = behind_first rest h
worked_first f (Choose a b ∷ rest) own h = h
worked_first f (Branch a b ∷ rest) own h = h
worked_first f (Turn loop ∷ rest) own h = behind_first _ (turn_closes _ loop rest h)
worked_first f (Put name ∷ rest) own h = behind_first rest h
worked_first f (Drop ∷ rest) own h = behind_first rest h
worked_first f (Give ∷ rest) own h = behind_first rest h
worked_first f (Unfolded class predicate count span ∷ rest) own h = behind_first rest h
worked_first f (Run Stop ∷ rest) own h = behind_first rest h
worked_first f (Run (Then s b) ∷ rest) own h = behind_first _ (statement_closes s (Run b ∷ rest) (refl, h))

rest_first : (f : Frame) (task : Task) (rest : List Task) → f.tasks ≡ task ∷ rest → CloseNothingBehind f.tasks → CloseNothing rest
rest_first f task rest is h = subst CloseNothingBehind is h

carried : (p : Program) → IsCarried p ClosesFirst
carried p = record {
  work = λ member f h. worked_first f f.tasks h h;
  behind = λ member f step rest values is left h. behind_first rest (rest_first f (Stand step) rest is h);
  turns = λ member f named loop rest is h. (refl, rest_first f _ rest is h);
  calls = λ member f class name count span rest m object arguments is h. rest_first f _ rest is h;
  returns = λ member f class m object arguments rest v is h. behind_first rest (rest_first f _ rest is h);
  enters = λ heap class m object arguments declared. tt;
  closes = λ member f inner body rest number is h. rest_first f _ rest is h;
  opens = λ member f inner body rest position is h. tt;
  arrives = λ member f barrier span rest is h. rest_first f _ rest is h;
}

pub reached_closes : (p : Program) (w : World) → IsReached p w → InWorld ClosesFirst w
reached_closes p w reached = reached_good p ClosesFirst (carried p) w reached
