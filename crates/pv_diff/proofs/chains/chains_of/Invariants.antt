use Rattle.pv_diff.specs.Chains.{AreTied}
use Rattle.pv_diff.proofs.chains.chains_of.Given as goal

abbrev pub invariant-loop-place : goal.invariant-loop-place
invariant-loop-place l = AreTied l.symbols l.literals l.place l.chains.ends.items l.chains.first.items
