use Rattle.std.proofs.Common.{◌≤ℤ◌, sym, arith}
use Rattle.std.proofs.lemmas.Int.{ints}
use Rattle.pv_linear.specs.Values.{term_value}
use Rattle.pv_linear.proofs.AskingLemmas.{both_ok, may_back_then}
use Rattle.pv_linear.proofs.Pairs.{le_same}
use Rattle.pv_linear.proofs.asking.ask_at_most.Goals as goal

pub returns-clause-tells : goal.returns-clause-tells
returns-clause-tells g c = both_ok c.question.result _ _ _ c.question.ensures.tells c.question.ensures.tells
    (λ told tells q. λ e f h k v m. tells e f h k v
    (λ p. let q : term_value f.values c.args.a ≤ℤ term_value f.values c.args.b =
    le_same (term_value e.values c.args.a) (term_value e.values c.args.b) _ _ m (omega (arith, ints)) in omega (arith, ints))
    (λ p. let q : term_value e.values c.args.a ≤ℤ term_value e.values c.args.b =
    le_same (term_value f.values c.args.a) (term_value f.values c.args.b) _ _ (sym m) (omega (arith, ints)) in
    omega (arith, ints)))

pub returns-clause-back : goal.returns-clause-back
returns-clause-back g c = both_ok c.question.result _ _ _ c.question.ensures.path c.question.ensures.path
    (λ told p q. rw p (may_back_then _ _ _ _ _ _ told c.requires.may))
