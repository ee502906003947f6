-- In a reached world what is left of each frame's body shares what it may, and receives no label twice.
use Rattle.std.proofs.Common.{◌≡◌, Bool, true, false, Option, Some, None, List, [], ◌∷◌, ◌++◌, refl, sym, subst, ap}
use Rattle.std.proofs.lemmas.List.{append-nil}
use Rattle.std.specs.Prelude.{if◌then◌else◌}
use Rattle.pv_base.specs.declared.Name.{Name}
use Rattle.pv_picks.specs.Plain.Core.{Message, Method, Team, Block, Program}
use Rattle.pv_picks.specs.Machine.Tasks.{AtHead, AtCall, AtOpen, AtArrive, Task, Stand, Resume}
use Rattle.pv_picks.specs.Machine.Frames.{Frame, worked}
use Rattle.pv_picks.specs.Machine.Safety.{IsReached}
use Rattle.pv_picks.specs.Machine.Worlds.{World}
use Rattle.core_trees.specs.Messages.{received_in_block}
use Rattle.core_trees.specs.Placing.{InMethod, InBlock, environment_members}
use Rattle.core_names.specs.Carrying.{Membership, IsDeclared, InWorld}
use Rattle.core_names.proofs.Carried.{IsCarried, reached_good}
use Rattle.core_trees.specs.Formulas.{OnceEach, LabelsDiffer}
use Rattle.core_sharing.proofs.Waiting.{worked_method}
use Rattle.soundness.specs.Sharing.{position_in, BlockShares}
use Rattle.soundness.specs.Waiting.{TasksShare, received_by_task, received_in_tasks, environment_of, IsInside, FrameShares}
use Rattle.soundness.proofs.Bodies.{receives_nothing, differ_behind}
use Rattle.soundness.proofs.Working.{worked_shares, worked_once}

-- each method of a program shares what it may
abbrev pub MethodShares : Method → Type 0
MethodShares m = BlockShares InMethod None m.body

worked_keeps : (member : Option Membership) (f : Frame) → FrameShares member f → FrameShares member (worked f f.tasks)
worked_keeps member f k = record {
  position = k.position;
  inside = subst (λ m. IsInside member m k.position) (sym (worked_method f f.tasks)) k.inside;
  tasks = worked_shares (environment_of member) k.position f f.tasks k.tasks k.tasks;
  once = worked_once (environment_of member) k.position f f.tasks k.once k.tasks k.once;
}

-- the tasks of a frame, where it has these
tasks_at : (member : Option Membership) (f : Frame) (k : FrameShares member f) (ts : List Task) → f.tasks ≡ ts
    → TasksShare (environment_of member) k.position ts
tasks_at member f k ts is = subst (TasksShare (environment_of member) k.position) is k.tasks

once_at : (member : Option Membership) (f : Frame) (k : FrameShares member f) (ts : List Task) → f.tasks ≡ ts
    → LabelsDiffer (received_in_tasks ts)
once_at member f k ts is = subst (λ ts. LabelsDiffer (received_in_tasks ts)) is k.once

-- behind its first task
once_behind : (member : Option Membership) (f : Frame) (k : FrameShares member f) (task : Task) (rest : List Task)
    → f.tasks ≡ task ∷ rest → LabelsDiffer (received_in_tasks rest)
once_behind member f k task rest is =
    differ_behind (received_by_task task) (received_in_tasks rest) (once_at member f k (task ∷ rest) is)

-- the body of a block receives each label once: that of a counted loop by itself, and that of a par block none
opened_once : (team : Team) (body : Block) (position : Option Name) → OnceEach team.counted body
    → BlockShares (environment_members team.counted) position body → LabelsDiffer (received_in_block body)
opened_once team body position once shares = by team.counted refl
  where
    by : (b : Bool) → team.counted ≡ b → LabelsDiffer (received_in_block body)
    by true is = (once is).1
    by false is =
        subst LabelsDiffer (sym (receives_nothing InBlock position body (λ e. absurd (cc e))
        (subst (λ b. BlockShares (environment_members b) position body) is shares))) tt

opened_position : (team : Team) (position : Option Name) → team.counted ≡ false → position_in position team ≡ Some team.variable
opened_position team position is = ap (λ b. if b then position else Some team.variable) is

only_last : (ms : List Message) → LabelsDiffer ms → LabelsDiffer (ms ++ [])
only_last ms h = subst LabelsDiffer (sym (append-nil ms)) h

carried : (p : Program) → ((class : Name) (m : Method) → IsDeclared p class m → MethodShares m) → IsCarried p FrameShares
carried p methods = record {
  work = worked_keeps;
  behind = λ member f step rest values is left k. record {
    position = k.position;
    inside = k.inside;
    tasks = (tasks_at member f k (Stand step ∷ rest) is).1;
    once = once_behind member f k (Stand step) rest is;
  };
  turns = λ member f named loop rest is k.
      let h = tasks_at member f k (Stand (AtHead named loop) ∷ rest) is in record {
        position = k.position;
        inside = k.inside;
        tasks = (tt, (h.0, h.1));
        once = once_at member f k (Stand (AtHead named loop) ∷ rest) is;
      };
  calls = λ member f class name count span rest m object arguments is k. record {
    position = k.position;
    inside = k.inside;
    tasks = (tt, (tasks_at member f k (Stand (AtCall class name count span) ∷ rest) is).1);
    once = once_at member f k (Stand (AtCall class name count span) ∷ rest) is;
  };
  returns = λ member f class m object arguments rest v is k. record {
    position = k.position;
    inside = k.inside;
    tasks = (tasks_at member f k (Resume class m object arguments ∷ rest) is).1;
    once = once_behind member f k (Resume class m object arguments) rest is;
  };
  enters = λ heap class m object arguments declared. record {
    position = None;
    inside = tt;
    tasks = (methods class m declared, tt);
    once = only_last (received_in_block m.body)
        (subst LabelsDiffer (sym (receives_nothing InMethod None m.body (λ e. absurd (cc e)) (methods class m declared))) tt);
  };
  closes = λ member f inner body rest number is k. record {
    position = k.position;
    inside = k.inside;
    tasks = (tt, (tasks_at member f k (Stand (AtOpen inner body) ∷ rest) is).1);
    once = once_behind member f k (Stand (AtOpen inner body)) rest is;
  };
  opens = λ member f inner body rest position is k.
      let h = (tasks_at member f k (Stand (AtOpen inner body) ∷ rest) is).0 in record {
        position = position_in k.position inner;
        inside = (refl, h.0, opened_position inner k.position);
        tasks = (h.2, tt);
        once = only_last (received_in_block body) (opened_once inner body (position_in k.position inner) h.1 h.2);
      };
  arrives = λ member f barrier span rest is k.
      let h = tasks_at member f k (Stand (AtArrive barrier span) ∷ rest) is in record {
        position = k.position;
        inside = k.inside;
        tasks = (h.0, h.1);
        once = once_at member f k (Stand (AtArrive barrier span) ∷ rest) is;
      };
}

pub reached_shares : (p : Program) → ((class : Name) (m : Method) → IsDeclared p class m → MethodShares m)
    → (w : World) → IsReached p w → InWorld FrameShares w
reached_shares p methods w reached = reached_good p FrameShares (carried p methods) w reached
