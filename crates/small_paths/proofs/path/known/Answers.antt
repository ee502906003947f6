use Rattle.std.proofs.Common.{refl, sym, ◌∙◌}
use Rattle.small_paths.proofs.PartsLemmas.{found_says, found_denies}
use Rattle.small_paths.proofs.path.known.Goals as goal

pub returns-then-is_same : goal.returns-then-is_same
returns-then-is_same c = λ v a.
    let same = sym c.answered-answer.ensures ∙ (c.if-is_same.ensures).0 refl in
    (λ _. found_says v c.args.decisions.now c.loop-d.d-index _ _ c.args.question.now refl c.loop-d-test.true same a, λ _. refl)

pub returns-then-is_same-2 : goal.returns-then-is_same-2
returns-then-is_same-2 c = λ v a.
    let same = sym c.answered-answer.ensures ∙ ((c.if-is_same-2.ensures).0 refl ∙ c.opposite_of-other.ensures) in (
      λ t. absurd (cc),
      λ h. absurd (found_denies v c.args.decisions.now c.loop-d.d-index _ _ c.args.question.now refl
          c.loop-d-test.true same a h),
    )
