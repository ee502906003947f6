use Rattle.std.proofs.Common.{◌≡◌, ◌∙◌, ap, rules, to_z, of_z}
use Rattle.std.specs.Int.{w128}
use Rattle.std.specs.Prelude.{◌+ℤ◌, ◌-ℤ◌, pos}
use Rattle.pv_state.proofs.Sums.{lowered_known}
use Rattle.pv_state.proofs.operands.lowered.Goals as goal

pub returns-clause-value : goal.returns-clause-value
returns-clause-value c v =
    let a = c.args.a.plus in
    let k = c.args.known.plus in
    let o = c.in_ok-opposite.opposite in
    let z = c.in_ok-plus.plus in
    let one : to_z w128 (of_z w128 a) ≡ a = search rules in
    let two : to_z w128 (of_z w128 k) ≡ k = search rules in
    let three : to_z w128 (of_z w128 o) ≡ o = search rules in
    let four : to_z w128 (of_z w128 z) ≡ z = search rules in
    lowered_known v c.args.a c.args.known c.in_ok-t.t (to_z w128 (of_z w128 z)) o c.in_ok-t.ensures.term
    (search (rules, c.if-known-ne0.false)) (c.in_ok-opposite.ensures.opposite ∙ ap (λ y. pos 0 -ℤ y) two)
    (four ∙ c.in_ok-plus.ensures.sum ∙ ap (λ x. x +ℤ to_z w128 (of_z w128 o)) one ∙ ap (λ y. a +ℤ y) three)
