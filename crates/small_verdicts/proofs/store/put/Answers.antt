use Rattle.small_verdicts.proofs.StoreLemmas.{put_value, size_insert}
use Rattle.small_verdicts.proofs.store.put.Goals as goal

pub returns-clause-value : goal.returns-clause-value
returns-clause-value c = λ v. put_value v _ _ _ _ (c.in_ok-insert.ensures.updates.0)

pub returns-clause-size : goal.returns-clause-size
returns-clause-size c = rw c.in_ok-insert.ensures.entries (size_insert _ _ _)
