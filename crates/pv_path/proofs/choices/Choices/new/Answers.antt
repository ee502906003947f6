use Rattle.std.proofs.Common.{arith, sym, ap, ◌∙◌}
use Rattle.pv_path.specs.Branches.{branch_literals}
use Rattle.pv_path.proofs.StandingLemmas.{possible_none, undecided_none}
use Rattle.pv_path.proofs.choices.Choices.new.Goals as goal

pub invariant_of-result : goal.invariant_of-result
invariant_of-result c =
    let b = c.new.ensures.items in
    let l = c.new-2.ensures.items in
    record {
      same = l ∙ sym (ap branch_literals b);
      few = rw l (omega arith);
      near = rw l (omega arith);
      low = rw l (omega arith);
      undecided = undecided_none _ l;
      possible = possible_none _ b;
    }
