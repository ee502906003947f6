use Rattle.std.proofs.Common.{sym, ◌∙◌}
use Rattle.small_verdicts.proofs.StoreLemmas.{size_found, value_found, value_absent}
use Rattle.small_verdicts.proofs.store.term_of.Goals as goal

pub returns-in-Some-clause-value : goal.returns-in-Some-clause-value
returns-in-Some-clause-value c = λ v. value_found v c.args.store.now.terms.entries c.args.name.0 _ (sym c.in-Some.ensures.value)

pub returns-in-Some-clause-size : goal.returns-in-Some-clause-size
returns-in-Some-clause-size c = size_found c.args.store.now.terms.entries c.args.name.0 _ (sym c.in-Some.ensures.value)

pub returns-in-None-clause-value : goal.returns-in-None-clause-value
returns-in-None-clause-value c = λ v. c.constant.ensures.value v
    ∙ value_absent v c.args.store.now.terms.entries c.args.name.0 (sym c.in-None.ensures.value)
