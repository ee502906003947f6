use Rattle.std.proofs.Common.{◌≡◌, [], arith, sym, ◌∙◌, length}
use Rattle.pv_path.proofs.BranchLemmas.{closed_sides, next_part, literals_of_decisions}
use Rattle.pv_path.proofs.PathLemmas.{path_kept, narrowed_kept_as, side_open}
use Rattle.pv_path.proofs.PartsLemmas.{stands_over, next_side_of}
use Rattle.pv_path.proofs.path.Path.next_path.Goals as goal

pub returns-in_default-clause-done : goal.returns-in_default-clause-done
returns-in_default-clause-done c = λ _. let closed = rw c.deref.ensures.value at c.in_default.ensures.none in
    closed_sides [] c.args.self.now.choices.branches.items closed

pub returns-then-self-eq-MOST_PATHS-clause-splits : goal.returns-then-self-eq-MOST_PATHS-clause-splits
returns-then-self-eq-MOST_PATHS-clause-splits c = λ _ none. let some = rw c.deref.ensures.value at c.in-Some.ensures.some in
    side_open c.args.self.now.choices.branches.items _ _ some none

pub invariant_of-self-2 : goal.invariant_of-self-2
invariant_of-self-2 c =
    let self = c.args.self.now in
    let literals = c.turn_over.new.self.literals in
    let kept : c.len-self.result ≡ length literals.items = omega (arith, c.len-self.ensures, literals.ok.0) in
    record {
      within = omega (arith, kept);
      narrowed = narrowed_kept_as literals.items c.clear.new.self.items c.len-self.result kept c.clear.ensures.items
          c.turn_over.new.self.undecided;
      fits = omega arith;
      few = grind (arith, self.few, c.if-self-eq-MOST_PATHS.false);
      numbered = rw c.clear-2.ensures.items (omega arith);
    }

pub returns-clause-parts : goal.returns-clause-parts
returns-clause-parts c = λ _. next_part _ _ c.turn_over.ensures

pub returns-clause-stands : goal.returns-clause-stands
returns-clause-stands c = λ _ e. stands_over e _ _ c.turn_over.ensures

pub returns-clause-path : goal.returns-clause-path
returns-clause-path c = λ _.
    let literals = c.turn_over.new.self.literals in
    let kept : c.len-self.result ≡ length literals.items = omega (arith, c.len-self.ensures, literals.ok.0) in
    path_kept literals.items c.clear.new.self.items c.len-self.result kept c.clear.ensures.items ∙ c.self-1.given.0
    ∙ sym (literals_of_decisions c.turn_over.new.self.branches.items)

pub returns-clause-side : goal.returns-clause-side
returns-clause-side c = λ _. next_side_of _ _ c.turn_over.ensures
