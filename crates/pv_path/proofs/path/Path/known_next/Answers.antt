use Rattle.pv_path.proofs.PathLemmas.{known_left}
use Rattle.pv_path.proofs.path.Path.known_next.Goals as goal

pub returns : goal.returns
returns c = known_left _ _ _ c.known_at.result (rw c.deref.ensures.value at c.known_at.ensures)
