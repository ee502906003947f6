use Rattle.std.proofs.Common.{sym, pos, rules}
use Rattle.pv_linear.specs.Values.{number_of}
use Rattle.pv_linear.proofs.AskingLemmas.{both_ok, truth_holds, truth_zero}
use Rattle.pv_linear.proofs.Pairs.{le_same}
use Rattle.pv_linear.proofs.asking.ask_truth.Goals as goal

pub returns-clause-says : goal.returns-clause-says
returns-clause-says g c = both_ok c.question.result _ _ _ c.question.ensures.says c.question.ensures.says
    (λ told says again. λ e f.
    let holds = truth_holds e.values c.args.truth in
    (λ t. holds.0 ((says e f).0 t), λ h. (says e f).1 (holds.1 h)))

pub returns-clause-tells : goal.returns-clause-tells
returns-clause-tells g c = both_ok c.question.result _ _ _ c.question.ensures.tells c.question.ensures.tells
    (λ told tells again. λ e f h k v m.
    let one = truth_holds e.values c.args.truth in
    let other = truth_holds f.values c.args.truth in
    tells e f h k v
    (λ p. other.1 (le_same (pos 1) (number_of e.values c.args.truth.0) (pos 1) (number_of f.values c.args.truth.0) m (one.0 p)))
    (λ p. one.1 (le_same (pos 1) (number_of f.values c.args.truth.0) (pos 1) (number_of e.values c.args.truth.0) (sym m)
    (other.0 p))))

pub returns-then-truth-eq0-clause-says : goal.returns-then-truth-eq0-clause-says
returns-then-truth-eq0-clause-says g c = λ e f. (
  (λ t. search rules),
  (λ h. absurd (truth_zero e.values c.args.truth c.if-truth-eq0.true h)),
)
