use Rattle.std.proofs.Common.{◌∷◌, []}
use Rattle.pv_linear.proofs.AskingLemmas.{both_ok}
use Rattle.pv_linear.proofs.MeetsLemmas.{Meets-append}
use Rattle.pv_path.proofs.StandingLemmas.{bound_asked}
use Rattle.pv_path.proofs.PathLemmas.{meets_narrower, met_wider}
use Rattle.pv_path.proofs.path.Path.is_possible.Goals as goal

pub can_be_added-requires-clause-bounds : goal.can_be_added-requires-clause-bounds
can_be_added-requires-clause-bounds c = rw c.deref.ensures.value (bound_asked _ _ _ c.args.self.now.choices.near c.requires.bound)

pub returns-clause-no : goal.returns-clause-no
returns-clause-no c = both_ok c.can_be_added.result _ _ _ c.can_be_added.ensures.no c.can_be_added.ensures.no
    (λ told denied again. λ is v met holds.
    let never = rw c.deref.ensures.value at denied in
    never is v (Meets-append v _ (c.args.literal ∷ []) (meets_narrower v _ _ c.args.self.now.narrowed met) (holds, tt)))

pub returns-clause-yes : goal.returns-clause-yes
returns-clause-yes c = both_ok c.can_be_added.result _ _ _ c.can_be_added.ensures.yes c.can_be_added.ensures.yes
    (λ told possible again. λ is.
    let met = rw c.deref.ensures.value at possible in
    met_wider _ _ (c.args.literal ∷ []) c.args.self.now.narrowed (met is))
