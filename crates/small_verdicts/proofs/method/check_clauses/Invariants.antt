use Rattle.std.proofs.Common.{◌≡◌, ◌+◌, ◌≤◌, ◌^◌, true, drop}
use Rattle.std.specs.Prelude.{unsigned_abs}
use Rattle.small_verdicts.specs.Sorted.{literals_of_clauses}
use Rattle.small_verdicts.specs.Sorted.{is_sorted_clauses}
use Rattle.small_meaning.specs.Running.{broken_clause}
use Rattle.small_paths.specs.Asking.{Asks, Under}
use Rattle.small_verdicts.specs.Symbolic.{scene_at, size_of, weight, chosen_by}
use Rattle.small_verdicts.proofs.method.check_clauses.Given as goal

abbrev pub invariant-loop-clause : goal.invariant-loop-clause
invariant-loop-clause g l =
    let rest = drop l.clause-index l.clauses in
    record {
      asks : Asks g.K.Asker.follows g.K.Asker.stands l.initial.asker l.asker;
      says : Under g.K.Asker.follows l.asker (λ v.
          broken_clause (chosen_by l.condition) l.clauses (scene_at v l.store.terms.entries l.returned)
          ≡ broken_clause (chosen_by l.condition) rest (scene_at v l.store.terms.entries l.returned));
      sorted : is_sorted_clauses rest ≡ true;
      size : size_of l.store.terms.entries + unsigned_abs l.returned.plus + weight (literals_of_clauses rest) ≤ 2 ^ 97;
    }
