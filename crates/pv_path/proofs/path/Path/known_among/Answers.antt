use Rattle.pv_linear.proofs.MeetsLemmas.{Meets-left}
use Rattle.pv_path.proofs.PathLemmas.{known_right}
use Rattle.pv_path.proofs.path.Path.known_among.Goals as goal

pub returns-in-Some : goal.returns-in-Some
returns-in-Some c = λ v m. let known = rw c.deref.ensures.value at c.in-Some.ensures in known v (Meets-left v _ _ m)

pub returns-in-None : goal.returns-in-None
returns-in-None c = known_right _ _ _ c.known-in-None.result (rw c.deref-in-None.ensures.value at c.known-in-None.ensures)
