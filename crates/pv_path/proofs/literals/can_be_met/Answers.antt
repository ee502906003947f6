use Rattle.std.proofs.Common.{subst}
use Rattle.pv_linear.specs.Values.{values_of}
use Rattle.pv_diff.specs.Answer.{IsAnswer}
use Rattle.pv_path.proofs.literals.can_be_met.Goals as goal

pub returns-in-Yes-clause-yes : goal.returns-in-Yes-clause-yes
returns-in-Yes-clause-yes c = λ _. ∣ record {
  values = values_of c.in-Yes.field-0;
  meets =
      subst (IsAnswer c.args.literals.now) c.in-Yes.is c.in_ok-satisfy.ensures.answer;
} ∣₁
