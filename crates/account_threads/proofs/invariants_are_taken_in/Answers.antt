use Rattle.account_threads.proofs.Grounds.{invariants_taken_in}
use Rattle.account_threads.proofs.invariants_are_taken_in.Goals as goal

pub returns : goal.returns
returns c = invariants_taken_in
