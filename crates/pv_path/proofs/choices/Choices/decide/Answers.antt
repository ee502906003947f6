use Rattle.std.proofs.Common.{List, ◌≡◌, ◌∷◌, [], ◌++◌, arith, sym, ap, subst, ◌∙◌, length-append}
use Rattle.pv_linear.specs.declared.Literal.{Literal}
use Rattle.pv_path.specs.declared.branch.Branch.TheVariants.{Open}
use Rattle.pv_path.specs.Branches.{branch_literals}
use Rattle.pv_path.specs.Standing.{IsOpen}
use Rattle.pv_path.proofs.BranchLemmas.{branch_literals-append}
use Rattle.pv_path.proofs.LiteralLemmas.{highest_among-append}
use Rattle.pv_path.proofs.StandingLemmas.{possible_open, undecided_more, span_more}
use Rattle.pv_path.proofs.choices.Choices.decide.Goals as goal

pub invariant_of-self-2 : goal.invariant_of-self-2
invariant_of-self-2 c =
    let self = c.args.self.now in
    let l = c.args.literal in
    let ls : c.push.new.self.items ≡ self.literals.items ++ l ∷ [] = c.in_ok-push.ensures.items in
    let bs : c.push-2.new.self.items ≡ self.branches.items ++ Open l ∷ [] =
    c.in-Ok.ensures.items ∙ ap (λ xs. xs ++ Open l ∷ []) c.reserve.ensures.items in
    record {
      same = ls ∙ ap (λ xs. xs ++ l ∷ []) self.same
          ∙ sym (ap branch_literals bs ∙ branch_literals-append self.branches.items (Open l ∷ []));
      few = rw ls (omega (arith, length-append self.literals.items (l ∷ []), c.requires.room));
      near = span_more self.literals.items _ l _ ls self.near c.requires.bound c.requires.opposite;
      low =
          rw ls (omega (
            arith,
            highest_among-append self.literals.items (l ∷ []),
            self.low,
            c.max-self.ensures,
            c.highest_symbol.ensures,
          ));
      undecided = undecided_more self.literals.items _ l ls self.undecided c.requires.open.1;
      possible = possible_open self.branches.items _ l bs self.possible
          (subst (λ (xs : List Literal). IsOpen xs l) self.same c.requires.open);
    }
