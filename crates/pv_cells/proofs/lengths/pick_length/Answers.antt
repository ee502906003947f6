-- A length that is picked, and one that is negative.
use Rattle.std.proofs.Common.{◌≡◌, rules, to_z, of_z, true, false, pos, refl}
use Rattle.std.specs.Prelude.{int_le}
use mir.Syntax.{w128}
use Rattle.pv_cells.proofs.Measuring.{picked_length, negative_length, more_lengths}
use Rattle.pv_cells.specs.Keys.{array_key}
use Rattle.pv_cells.proofs.lengths.pick_length.Goals as goal

pub returns-then-n-lt0-clause-halts : goal.returns-then-n-lt0-clause-halts
returns-then-n-lt0-clause-halts c =
    let below : int_le (pos 0) c.in_ok-n.n ≡ false = search rules in
    negative_length _ _ _ c.args.learned.now c.take_number.new.learned c.in_ok-n.n c.requires c.in_ok-n.ensures.taken below

pub returns-clause-goes : goal.returns-clause-goes
returns-clause-goes c =
    let same : to_z w128 (of_z w128 c.in_ok-n.n) ≡ c.in_ok-n.n = search rules in
    let above : int_le (pos 0) c.in_ok-n.n ≡ true = search rules in
    rw same
    (picked_length _ _ _ c.args.learned.now c.take_number.new.learned _ c.in_ok-n.n c.requires c.in_ok-n.ensures.taken above
    (λ t a. more_lengths c.args.learned.now.lengths c.take_number.new.learned.lengths c.insert.new.self c.args.key.kind
    c.args.key.array c.in_ok-n.n _ t a c.take_number.ensures.lengths same (c.in_ok-insert.ensures.updates.0 (array_key t a)))
    c.take_number.ensures.met c.take_number.ensures.steps refl)
