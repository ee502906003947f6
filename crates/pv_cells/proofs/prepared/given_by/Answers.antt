-- The map at the place gives the value, if there is one.
use Rattle.std.proofs.Common.{◌≡◌, rules, ◌∙◌, ap, to_z, of_z, arith}
use mir.Syntax.{w128}
use Rattle.pv_picks.specs.Judge.Runs.{step_value}
use Rattle.pv_cells.proofs.Maps.{map_at}
use Rattle.pv_cells.proofs.prepared.given_by.Goals as goal

pub returns-then-number-maps : goal.returns-then-number-maps
returns-then-number-maps c =
    let same : to_z w128 (of_z w128 c.step_value.result) ≡ c.step_value.result = search rules in
    let index : to_z w128 (of_z w128 c.args.index) ≡ c.args.index = search rules in
    let found = map_at (λ m. m.now) c.args.maps.now c.args.number c.args.index c.index-maps-number.result (omega (
      arith,
      c.if-number-maps.true,
    )) in
    same ∙ c.step_value.ensures
    ∙ rw index (rw c.as_slice.ensures (ap (λ m. step_value m.now c.args.index) c.index-maps-number.is ∙ found))
