use Rattle.std.proofs.Common.{arith, subst, inl, inr, ℕ}
use Rattle.std.proofs.lemmas.Option.{slice_get_within}
use Rattle.pv_linear.specs.declared.Literal.TheVariants.{Differ}
use Rattle.pv_diff.specs.Classes.{IsSplit}
use Rattle.pv_diff.proofs.Loops.{same_or_other}
use Rattle.pv_diff.proofs.classes.split_in.Goals as goal

pub loop-place-preserved : goal.loop-place-preserved
loop-place-preserved c = λ p k z lt s e. elim (same_or_other p c.loop-place.place) [
  | inl same ↦ c.in_default.ensures.none k z (subst (λ (q : ℕ). IsSplit c.args.symbols.now c.args.literals.now q k z) same s) e
  | inr other ↦ c.loop-place.invariant p k z (omega arith) s e
]

pub returns-clause-none : goal.returns-clause-none
returns-clause-none c = λ p k z s e. c.loop-place.invariant p k z
    (let a = slice_get_within c.args.literals.now p (Differ s.left s.right) s.found in omega (arith, a)) s e
