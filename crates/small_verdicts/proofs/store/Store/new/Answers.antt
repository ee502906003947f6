use Rattle.small_verdicts.proofs.StoreLemmas.{empty_value}
use Rattle.small_verdicts.proofs.store.Store.new.Goals as goal

pub returns-clause-zeros : goal.returns-clause-zeros
returns-clause-zeros c = λ v. empty_value v _ c.new.ensures.empty
