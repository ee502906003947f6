use Rattle.std.proofs.Common.{arith, ap, ◌∙◌}
use Rattle.pv_path.specs.Branches.{branch_literals}
use Rattle.pv_path.proofs.PathLemmas.{narrowed_none}
use Rattle.pv_path.proofs.PartsLemmas.{stands_none}
use Rattle.pv_path.proofs.path.Path.new.Goals as goal

pub invariant_of-result : goal.invariant_of-result
invariant_of-result c =
    let bs = c.new.ensures in
    record {
      within = omega arith;
      narrowed = narrowed_none 0 _ _ (c.new.result.same ∙ ap branch_literals bs) c.new-2.ensures.items;
      fits = omega arith;
      few = omega arith;
      numbered = rw c.new-3.ensures.items (omega arith);
    }

pub returns-clause-stands : goal.returns-clause-stands
returns-clause-stands c = λ e turns. stands_none e c.new.result.branches.items c.new.ensures turns
