use Rattle.std.proofs.Common.{◌≡◌, ◌+◌, ◌≤◌, true, drop}
use Rattle.pv_ast.specs.Measures.{literals_of_block}
use Rattle.small_verdicts.specs.Sorted.{is_sorted_block}
use Rattle.small_meaning.specs.Running.{run_of_block}
use Rattle.small_paths.specs.Asking.{Asks, Under}
use Rattle.small_verdicts.specs.Symbolic.{variables_of, size_of, weight}
use Rattle.small_verdicts.proofs.running.+run.Given as goal

abbrev pub invariant-run_all-loop-s : goal.invariant-run_all-loop-s
invariant-run_all-loop-s g l =
    let rest = drop l.s-index l.block in
    record {
      asks : Asks g.K.Asker.follows g.K.Asker.stands l.initial.asker l.asker;
      says : Under g.K.Asker.follows l.asker (λ v. run_of_block l.block (variables_of v l.initial.store.terms.entries)
          ≡ run_of_block rest (variables_of v l.store.terms.entries));
      sorted : is_sorted_block rest ≡ true;
      size : size_of l.store.terms.entries + weight (literals_of_block rest) ≤ size_of l.initial.store.terms.entries + weight
          (literals_of_block l.block);
    }
