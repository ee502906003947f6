use Rattle.small_paths.proofs.PartsLemmas.{Stands-nothing}
use Rattle.small_paths.proofs.path.Path.new.Goals as goal

pub returns : goal.returns
returns c = record { stands = λ v. rw c.new.ensures.items (Stands-nothing v) }
