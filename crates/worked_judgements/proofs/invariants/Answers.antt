use Rattle.worked_judgements.proofs.Worked.{invariants}
use Rattle.worked_judgements.proofs.invariants.Goals as goal

pub returns : goal.returns
returns c = invariants
