use Rattle.small_paths.specs.declared.Decision.TheVariants.{Open}
use Rattle.small_paths.proofs.PartsLemmas.{Agrees-front, Agrees-last, Stands-push, bound_either, open_bound, one_side}
use Rattle.small_paths.proofs.path.Path.decide.Goals as goal

pub invariant_of-self : goal.invariant_of-self
invariant_of-self c = record {
  bounded = bound_either _ _ _ (Open c.args.question) _ c.push.ensures.items c.args.self.now.bounded
      (open_bound c.args.question _ c.requires.bound c.requires.opposite);
}

pub returns-clause-agrees : goal.returns-clause-agrees
returns-clause-agrees c = λ v h. Agrees-front v c.args.self.now.decisions.items (Open c.args.question)
    (rw c.in_ok-push.ensures.items at h)

pub returns-clause-holds : goal.returns-clause-holds
returns-clause-holds c = λ v h. Agrees-last v c.args.self.now.decisions.items (Open c.args.question)
    (rw c.in_ok-push.ensures.items at h)

pub returns-clause-stands : goal.returns-clause-stands
returns-clause-stands c = λ v h. rw c.in_ok-push.ensures.items
    (Stands-push v c.args.self.now.decisions.items (Open c.args.question) (λ _. one_side v c.args.question) h)
