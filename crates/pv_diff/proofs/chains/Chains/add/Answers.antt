use Rattle.std.proofs.Common.{◌≡◌, ◌++◌, ◌∷◌, [], List, Option, Some, None, length, set, arith, sym, subst, ap, ◌∙◌, ℕ}
use Rattle.std.proofs.lemmas.List.{get_or_read}
use Rattle.pv_diff.specs.declared.chains.End.{End}
use Rattle.pv_diff.specs.Chains.{AreChains, HasEnd, first_at}
use Rattle.pv_diff.proofs.Chaining.{end_of, AreChains-added, HasEnd-added, HasEnd-only}
use Rattle.pv_diff.proofs.chains.Chains.add.Goals as goal

pub returns-clause-chains : goal.returns-clause-chains
returns-clause-chains c =
    let es = c.args.self.now.ends.items in
    let first = c.args.self.now.first.items in
    let next : c.index-next.result.now ≡ first_at first c.args.at =
    get_or_read first c.args.at c.index-next.result.now c.requires.slot c.index-next.ensures None in
    let same : c.push.new.self.items ≡ es ++ end_of c.args.to c.args.place (first_at first c.args.at) ∷ [] =
    c.in_ok-push.ensures.items ∙ ap (λ (o : Option ℕ). es ++ end_of c.args.to c.args.place o ∷ []) next in
    let count : c.len-index.result ≡ length es =
    (let a = c.len-index.ensures in let b = c.args.self.now.ends.ok.0 in omega (arith, a, b)) in
    subst (λ (q : List End). AreChains q (set first c.args.at (Some c.len-index.result))) (sym same)
    (subst (λ (n : ℕ). AreChains (es ++ end_of c.args.to c.args.place (first_at first c.args.at) ∷ [])
    (set first c.args.at (Some n))) (sym count)
    (AreChains-added es first c.args.at c.args.to c.args.place c.requires.slot c.requires.chains))

pub returns-clause-added : goal.returns-clause-added
returns-clause-added c = λ k z p.
    let es = c.args.self.now.ends.items in
    let first = c.args.self.now.first.items in
    let next : c.index-next.result.now ≡ first_at first c.args.at =
    get_or_read first c.args.at c.index-next.result.now c.requires.slot c.index-next.ensures None in
    let same : c.push.new.self.items ≡ es ++ end_of c.args.to c.args.place (first_at first c.args.at) ∷ [] =
    c.in_ok-push.ensures.items ∙ ap (λ (o : Option ℕ). es ++ end_of c.args.to c.args.place o ∷ []) next in
    let count : c.len-index.result ≡ length es =
    (let a = c.len-index.ensures in let b = c.args.self.now.ends.ok.0 in omega (arith, a, b)) in (
      λ h. HasEnd-only es first c.args.at c.args.to c.args.place c.requires.slot c.requires.chains k z p
          (subst (λ (n : ℕ). HasEnd (es ++ end_of c.args.to c.args.place (first_at first c.args.at) ∷ [])
          (set first c.args.at (Some n)) k z p) count
          (subst (λ (q : List End). HasEnd q (set first c.args.at (Some c.len-index.result)) k z p) same h)),
      λ h. subst (λ (q : List End). HasEnd q (set first c.args.at (Some c.len-index.result)) k z p) (sym same)
          (subst (λ (n : ℕ). HasEnd (es ++ end_of c.args.to c.args.place (first_at first c.args.at) ∷ [])
          (set first c.args.at (Some n)) k z p) (sym count)
          (HasEnd-added es first c.args.at c.args.to c.args.place c.requires.slot c.requires.chains k z p h)),
    )
