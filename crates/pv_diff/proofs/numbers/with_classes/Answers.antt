use mir.Val.{to_z}
use mir.Syntax.{w128}
use Rattle.std.proofs.Common.{arith, ◌≡◌, ◌-◌, ℤ, pos, length, get_or, sym, subst}
use Rattle.std.proofs.lemmas.Int.{ints}
use Rattle.std.proofs.Math.ListN.{length-set}
use Rattle.pv_diff.specs.Classes.{class_at}
use Rattle.pv_diff.specs.Numbering.{AreNumbered}
use Rattle.pv_diff.proofs.Assigned.{NumberedUnder-start, NumberedUnder-more, AreNumbered-all}
use Rattle.pv_diff.proofs.Written.{rises_along}
use Rattle.pv_diff.proofs.numbers.with_classes.Goals as goal

pub loop-slot-init : goal.loop-slot-init
loop-slot-init c = record {
  size = (let a = c.in_ok-all.ensures.size in omega (arith, a));
  written = NumberedUnder-start c.args.references.now c.args.classes.now c.args.numbers.items c.in_ok-all.all.items
      c.in_ok-all.ensures.same;
}

pub index_mut-requires : goal.index_mut-requires
index_mut-requires c =
    let a = rises_along c.args.references.now c.loop-slot.slot (length c.args.references.now - 1) c.requires.rises (omega arith)
    (omega arith) in
    let b = c.loop-slot.invariant.size in
    let d = c.loop-slot.all.ok.0 in
    omega (arith, a, b, d)

pub loop-slot-preserved : goal.loop-slot-preserved
loop-slot-preserved c =
    let s = c.args.references.now in
    let i = c.loop-slot.slot in
    let size = c.loop-slot.invariant.size in
    let most = rises_along s i (length s - 1) c.requires.rises (omega arith) (omega arith) in
    let fits = c.type_inv.classes i in
    let number : to_z w128 (class_at c.args.classes.now i) ≡ pos (class_at c.args.classes.now i) = omega (arith, ints, fits) in
    record {
      size = (let a = length-set {A = ℤ} c.loop-slot.all.items (get_or s i 0) (to_z w128 (class_at c.args.classes.now i)) in
          omega (arith, a, size));
      written = NumberedUnder-more s c.args.classes.now c.args.numbers.items c.loop-slot.all.items i
          (to_z w128 (class_at c.args.classes.now i)) c.loop-slot-test.true c.requires.rises (omega (arith, most, size)) number
          c.loop-slot.invariant.written;
    }

pub returns : goal.returns
returns c =
    subst (AreNumbered c.args.references.now c.args.classes.now c.args.numbers.items) (sym c.from_vec.ensures)
    (AreNumbered-all c.args.references.now c.args.classes.now c.args.numbers.items c.loop-slot.all.items c.loop-slot.slot
    (let a = c.loop-slot-test.false in omega (arith, a)) c.loop-slot.invariant.written)
