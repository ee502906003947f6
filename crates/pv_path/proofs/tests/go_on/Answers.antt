use Rattle.std.proofs.Common.{subst, sym}
use Rattle.pv_diff.specs.Parts.{AllAtMost}
use Rattle.pv_path.proofs.TestLemmas.{differences_over}
use Rattle.pv_path.proofs.tests.go_on.Goals as goal

pub returns-in-More-clause-path : goal.returns-in-More-clause-path
returns-in-More-clause-path c = λ _. subst AllAtMost (sym (c.next_path.ensures.path c.in-More.is))
    (differences_over _ _ (c.next_path.ensures.side c.in-More.is) c.requires.decisions)

pub returns-in-More-clause-decisions : goal.returns-in-More-clause-decisions
returns-in-More-clause-decisions c = λ _. differences_over _ _ (c.next_path.ensures.side c.in-More.is) c.requires.decisions
