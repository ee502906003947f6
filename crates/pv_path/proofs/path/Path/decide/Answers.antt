use Rattle.std.proofs.Common.{◌≡◌, ◌∷◌, [], ◌++◌, take, arith, ap, ◌∙◌, length-append}
use Rattle.pv_path.proofs.BranchLemmas.{branch_turns-fact}
use Rattle.pv_path.proofs.PathLemmas.{open_narrower, path_more, narrowed_decided, pushed}
use Rattle.pv_path.proofs.path.Path.decide.Goals as goal

pub decide-requires-clause-open : goal.decide-requires-clause-open
decide-requires-clause-open c = open_narrower _ _ _ c.args.self.now.narrowed c.requires.open

pub invariant_of-self-2 : goal.invariant_of-self-2
invariant_of-self-2 c =
    let self = c.args.self.now in
    let l = c.args.literal in
    let ls = self.choices.literals.items in
    let ok = c.push.ensures.succeeds (omega (arith, c.in_ok-reserve.ensures.ok)) in
    let asked : c.push.new.self.items ≡ self.asked.items ++ l ∷ [] = pushed c.push.result _ _ _ ok c.push.ensures.items
    ∙ ap (λ xs. xs ++ l ∷ []) c.reserve.ensures.items in
    let more : c.decide.new.self.literals.items ≡ ls ++ l ∷ [] = c.in_ok-decide.ensures.literals in
    let path : take self.kept c.decide.new.self.literals.items ++ c.push.new.self.items ≡ (take self.kept ls ++ self.asked.items)
    ++ l ∷ [] = ap (λ xs. take self.kept xs ++ c.push.new.self.items) more
    ∙ ap (λ xs. take self.kept (ls ++ l ∷ []) ++ xs) asked ∙ path_more self.kept ls self.asked.items l self.within in
    record {
      within = rw more (omega (arith, length-append ls (l ∷ []), self.within));
      narrowed = narrowed_decided (take self.kept ls ++ self.asked.items) _ ls _ l path more self.narrowed
          (open_narrower _ _ _ self.narrowed c.requires.open).1;
      fits = rw (branch_turns-fact self.choices.branches.items c.decide.new.self.branches.items l c.in_ok-decide.ensures.ok)
          self.fits;
      few = self.few;
      numbered = self.numbered;
    }
