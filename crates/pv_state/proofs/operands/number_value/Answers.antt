use Rattle.std.proofs.Common.{◌≡◌, ◌∙◌, ap, rules, to_z, of_z}
use Rattle.std.specs.Int.{w128}
use Rattle.pv_values.specs.declared.value.Value.TheVariants as value
use Rattle.pv_state.proofs.Sums.{constant_at, constant_made}
use Rattle.pv_state.proofs.operands.number_value.Goals as goal

pub returns-clause-value : goal.returns-clause-value
returns-clause-value c v =
    let z = c.args.number in
    let same : to_z w128 (of_z w128 z) ≡ z = search rules in
    constant_at v c.in_ok-t.t (to_z w128 (of_z w128 z)) c.in_ok-t.ensures.term ∙ ap (λ x. value.Number x) same

pub returns-clause-made : goal.returns-clause-made
returns-clause-made c made = constant_made made c.in_ok-t.t (to_z w128 (of_z w128 c.args.number)) c.in_ok-t.ensures.term
    c.in_ok-t.ensures.near
