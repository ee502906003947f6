-- Tasks that close no block.
use Rattle.std.specs.Prelude.{◌≡◌, Bool, true, false, List}
use Rattle.std.specs.List.{AllByRecursion}
use Rattle.pv_picks.specs.Plain.Core.{Statement, Expression}
use Rattle.pv_picks.specs.Machine.Tasks.{AtClose, Task, Stand, tasks_of_expression, tasks_of_statement}
use Rattle.pv_picks.specs.Machine.Frames.{Frame, settled}

abbrev pub closes : Task → Bool
closes (Stand (AtClose block)) = true
closes _ = false

abbrev pub CloseNothing : List Task → Type 0
CloseNothing tasks = AllByRecursion (λ task. closes task ≡ false) tasks

-- no statement and no expression closes a block, and local work makes no task that does
pub record WorkClosesNothing : Type 0 where
  pub statements : (s : Statement) (rest : List Task) → CloseNothing rest → CloseNothing (tasks_of_statement s rest)
  pub expressions : (e : Expression) (rest : List Task) → CloseNothing rest → CloseNothing (tasks_of_expression e rest)
  pub frames : (f : Frame) → CloseNothing f.tasks → CloseNothing (settled f).tasks
