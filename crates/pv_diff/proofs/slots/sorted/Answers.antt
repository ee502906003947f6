use Rattle.std.proofs.Common.{sym, subst, List, ℕ}
use Rattle.std.specs.Prelude.{Contains}
use Rattle.std.specs.List.Sorted.{IsStrictlyIncreasing}
use Rattle.std.proofs.lemmas.List.Filters.{dedup_is}
use Rattle.std.proofs.lemmas.List.Sorted.{Contains-permutation, IsPermutation-sym}
use Rattle.std.proofs.lemmas.List.Kept.{Contains-dedup_nat, Contains-from_dedup}
use Rattle.std.proofs.lemmas.Map.Keys.{IsStrictlyIncreasing-dedup}
use Rattle.pv_diff.proofs.slots.sorted.Goals as goal

pub returns-clause-rises : goal.returns-clause-rises
returns-clause-rises c = subst IsStrictlyIncreasing
    (sym (dedup_is _ c.sort_unstable.new.self.items c.dedup.new.self.items c.dedup.ensures.filtered))
    (IsStrictlyIncreasing-dedup c.sort_unstable.new.self.items c.sort_unstable.ensures.sorted)

pub returns-clause-same : goal.returns-clause-same
returns-clause-same c = λ x.
    let sorted = c.sort_unstable.new.self.items in
    let e = dedup_is _ sorted c.dedup.new.self.items c.dedup.ensures.filtered in (
      λ h. Contains-permutation sorted c.args.symbols.items x
          (IsPermutation-sym c.args.symbols.items sorted c.sort_unstable.ensures.permutation)
          (Contains-from_dedup _ sorted x (subst (λ (q : List ℕ). Contains q x) e h)),
      λ h. subst (λ (q : List ℕ). Contains q x) (sym e)
          (Contains-dedup_nat sorted x (Contains-permutation c.args.symbols.items sorted x c.sort_unstable.ensures.permutation
          h)),
    )
