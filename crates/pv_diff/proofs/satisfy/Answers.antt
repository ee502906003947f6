use Rattle.std.proofs.Common.{sym, subst, List, ℕ}
use Rattle.pv_diff.specs.Classes.{IsClassed}
use Rattle.pv_diff.specs.Slots.{AreReferencesNamed}
use Rattle.pv_diff.proofs.Assigned.{answer_denies, clash_denies}
use Rattle.pv_diff.proofs.satisfy.Goals as goal

pub classes_of-requires-clause-named : goal.classes_of-requires-clause-named
classes_of-requires-clause-named c = subst (λ (q : List ℕ). AreReferencesNamed q c.args.literals.now) (sym c.deref.ensures.value)
    c.in_ok-references.ensures.named

pub numbered-requires-clause-named : goal.numbered-requires-clause-named
numbered-requires-clause-named c = subst (λ (q : List ℕ). AreReferencesNamed q c.args.literals.now)
    (sym c.deref-in-Classes.ensures.value) c.in_ok-references.ensures.named

pub returns-in-Classes-clause-denies : goal.returns-in-Classes-clause-denies
returns-in-Classes-clause-denies c = answer_denies c.args.literals.now c.in_ok-solved-in-Classes.solved
    c.in_ok-solved-in-Classes.ensures.answer

pub returns-clause-denies : goal.returns-clause-denies
returns-clause-denies c = λ v m. clash_denies v c.args.literals.now c.in-Clash.places
    (subst (IsClassed c.deref.result.now c.args.literals.now) c.in-Clash.is c.in_ok-classes.ensures) m
