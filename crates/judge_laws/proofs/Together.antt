-- The judge and the drawn run.
use Rattle.std.proofs.Common.{◌≡◌, ◌≢◌, refl, sym, subst, ◌∙◌, ◌⊎◌, inl, inr}
use Rattle.pv_picks.specs.Judge.Runs.{End, Blocked}
use Rattle.pv_picks.specs.Lazy.Runs.{LazyEnd, Ends, Unfit, Outcome, Final, lazy_run}
use Rattle.judge_laws.specs.Judging.{as_end, JudgesAsDrawn, BlocksWithoutPattern}
use Rattle.judge_laws.proofs.Drawing.{runs_as_drawn}
use Rattle.judge_laws.proofs.Judging.{judges_as_lazy}

pub judges_as_drawn : JudgesAsDrawn
judges_as_drawn p unit evidence values turns fits vs ts =
    subst (λ (o : Outcome Final). (Rattle.pv_picks.specs.Judge.Runs.judge p unit evidence ≡ as_end o.end.end)
    ⊎ (Rattle.pv_picks.specs.Judge.Runs.judge p unit evidence ≡ Blocked))
    (sym (runs_as_drawn p unit evidence values turns fits vs ts)) (judges_as_lazy p unit evidence)

unfit_or : (e : LazyEnd) → ((e ≢ Unfit) → ⊥) → as_end e ≡ Blocked
unfit_or (Ends x) h = absurd (h (λ k. cc k))
unfit_or Unfit h = refl

pub blocks_without_pattern : BlocksWithoutPattern
blocks_without_pattern p unit evidence h =
    elim (judges_as_lazy p unit evidence) [ inl e ↦ e ∙ unfit_or (lazy_run p unit evidence).end.end h | inr b ↦ b ]
