use Rattle.std.proofs.Common.{sym, ◌∙◌}
use Rattle.pv_linear.proofs.AskingLemmas.{both_ok}
use Rattle.pv_path.proofs.BranchLemmas.{turns_of_decisions}
use Rattle.pv_path.proofs.path.Path.decided_turns.Goals as goal

pub returns : goal.returns
returns c = both_ok c.turns_of.result _ _ _ c.turns_of.ensures c.turns_of.ensures
    (λ turns is again. rw c.deref.ensures.value at is ∙ sym (turns_of_decisions c.args.self.now.choices.branches.items))
