use Rattle.pv_diff.proofs.Chaining.{AreTied-start}
use Rattle.pv_diff.proofs.chains.chains_of.Goals as goal

pub loop-place-init : goal.loop-place-init
loop-place-init c = AreTied-start c.args.symbols.now c.args.literals.now c.in_ok-chains.chains.ends.items
    c.in_ok-chains.chains.first.items c.in_ok-chains.ensures.size c.in_ok-chains.ensures.chains c.in_ok-chains.ensures.none
