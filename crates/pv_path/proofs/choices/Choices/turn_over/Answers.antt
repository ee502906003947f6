use Rattle.std.proofs.Common.{List, ◌≡◌, ◌≤◌, ◌^◌, ◌∷◌, [], ◌++◌, length, take, arith, sym, ap, subst, ◌∙◌, length-append}
use Rattle.std.proofs.lemmas.List.{length-take}
use Rattle.pv_path.specs.declared.branch.Branch.{Branch}
use Rattle.pv_path.specs.Branches.{branch_literals, IsTurnedOver}
use Rattle.pv_path.specs.Standing.{AreUndecided, span_of}
use Rattle.pv_path.proofs.BranchLemmas.{over_next}
use Rattle.pv_path.proofs.StandingLemmas.{possible_over, met_of_possible}
use Rattle.pv_path.proofs.OverLemmas.{over_literals, over_room, over_span, over_undecided}
use Rattle.pv_path.proofs.choices.Choices.turn_over.Goals as goal

pub put_literal-requires : goal.put_literal-requires
put_literal-requires c =
    let counted = c.count_literals-count.ensures
    ∙ ap (λ (xs : List Branch). length (branch_literals (take c.args.side.place xs))) c.deref.ensures.value in
    over_room c.args.self.now.branches.items _ c.args.side.place _ c.args.side.other c.requires c.args.self.now.same counted

pub invariant_of-self : goal.invariant_of-self
invariant_of-self c =
    let self = c.args.self.now in
    let bs = self.branches.items in
    let place = c.args.side.place in
    let other = c.args.side.other in
    let new : List Branch = take place bs ++ other ∷ [] in
    let are : c.put_last.new.items.items ≡ new = c.put_last.ensures in
    let counted = c.count_literals-count.ensures
    ∙ ap (λ (xs : List Branch). length (branch_literals (take place xs))) c.deref.ensures.value in
    let ls : c.put_literal.new.literals.items ≡ branch_literals new =
    c.put_literal.ensures ∙ over_literals bs self.literals.items place c.count_literals-count.result other c.requires
    self.same counted in
    record {
      same = ls ∙ ap branch_literals (sym are);
      few = rw (c.put_literal.ensures, length-append)
          (omega (
            arith,
            length-take c.count_literals-count.result self.literals.items,
            over_room bs self.literals.items place c.count_literals-count.result other c.requires self.same counted,
            self.few,
          ));
      near = rw ls (let n : span_of (branch_literals bs) ≤ 2 ^ 100 = rw (sym self.same) self.near in
          omega (arith, over_span bs place other c.requires, n));
      low = rw (sym c.deref-2.ensures.value) c.highest_of-self.ensures;
      undecided = subst AreUndecided (sym ls) (over_undecided bs place other c.requires (met_of_possible bs self.possible)
          (subst AreUndecided self.same self.undecided));
      possible = possible_over bs _ (subst (IsTurnedOver bs) (sym are) (over_next bs place other c.requires)) self.possible;
    }

pub returns : goal.returns
returns c = subst (IsTurnedOver c.args.self.now.branches.items) (sym c.put_last.ensures)
    (over_next c.args.self.now.branches.items c.args.side.place c.args.side.other c.requires)
