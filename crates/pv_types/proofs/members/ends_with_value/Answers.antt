use Rattle.std.proofs.Common.{sym, ◌∙◌}
use Rattle.pv_types.proofs.Endings.{ends_at}
use Rattle.pv_types.proofs.members.ends_with_value.Goals as goal

pub returns-in-Some : goal.returns-in-Some
returns-in-Some c = c.is_value_return.ensures ∙ sym (ends_at _ _ _ c.in-Some.ensures.cases.0)
