use Rattle.judge_laws.proofs.Backing.{drawn_enters_as_lazy}
use Rattle.judge_laws.proofs.drawn_enters_as_lazy.Goals as goal

pub returns : goal.returns
returns c = drawn_enters_as_lazy
