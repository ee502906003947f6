-- A reference that is picked, and a number that is none.
use Rattle.std.proofs.Common.{◌≡◌, ◌∙◌, refl, ap, rules, to_z, of_z, arith, false, pos, List, [], ◌∷◌, ◌++◌}
use Rattle.std.specs.Prelude.{int_le}
use lib.IntN.{nat_abs}
use mir.Syntax.{w128}
use Rattle.pv_cells.specs.declared.store.Met.{Met}
use Rattle.pv_cells.proofs.Picked.{reference_picked, negative_picked}
use Rattle.pv_cells.proofs.picking.pick_reference.Goals as goal

pub returns-then-z-lt0-clause-stops : goal.returns-then-z-lt0-clause-stops
returns-then-z-lt0-clause-stops c =
    let below : int_le (pos 0) c.in_ok-z.z ≡ false = search rules in
    negative_picked _ _ c.args.learned.now c.take_number.new.learned c.take_number.new.learned c.in_ok-z.z c.requires
    c.in_ok-z.ensures.taken below

pub returns-clause-goes : goal.returns-clause-goes
returns-clause-goes c =
    let same : to_z w128 (of_z w128 c.in_ok-z.z) ≡ c.in_ok-z.z = search rules in
    let up : c.in_ok-z.z ≡ pos (nat_abs c.in_ok-z.z) = grind arith in
    let before : List Met = c.take_number.new.learned.met.items in
    let met =
    c.in_ok-push.ensures.items
    ∙ ap (λ z. before ++ (record { kind = c.args.kind; reference = nat_abs z }) ∷ []) same
    ∙ ap (λ v. v.items ++ (record { kind = c.args.kind; reference = nat_abs c.in_ok-z.z }) ∷ []) c.take_number.ensures.met in
    rw same
    (reference_picked _ _ c.args.learned.now c.take_number.new.learned _ c.in_ok-z.z (nat_abs c.in_ok-z.z) c.requires
    c.in_ok-z.ensures.taken up refl c.take_number.ensures.lengths met c.take_number.ensures.steps)
