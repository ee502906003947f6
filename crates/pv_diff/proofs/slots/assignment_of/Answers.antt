use Rattle.std.proofs.Common.{arith, ap, ◌∙◌, ◌-◌, ◌≡◌, ◌<◌, ℤ, length, get_or}
use Rattle.std.proofs.lemmas.Int.{ints}
use Rattle.std.proofs.Math.ListN.{length-set}
use Rattle.std.proofs.lemmas.Option.{slice_get_within}
use Rattle.pv_diff.specs.Table.{number_in}
use Rattle.pv_diff.proofs.Written.{rises_along, WrittenBelow-more, AreNear-more, AreSigned-more, same_slot}
use Rattle.pv_diff.proofs.slots.assignment_of.Goals as goal

pub index_mut-requires : goal.index_mut-requires
index_mut-requires c =
    let a = rises_along c.args.symbols.now c.loop-slot.slot (length c.args.symbols.now - 1) c.requires.rises (omega arith)
    (omega arith) in
    let b = c.loop-slot.invariant.size in
    let d = c.loop-slot.numbers.ok.0 in
    omega (arith, a, b, d)

pub loop-slot-preserved : goal.loop-slot-preserved
loop-slot-preserved c =
    let s = c.args.symbols.now in
    let ns = c.args.table.now in
    let i = c.loop-slot.slot in
    let z = c.slot_of.result in
    let numbers = c.loop-slot.numbers.items in
    let size = c.loop-slot.invariant.size in
    let most = rises_along s i (length s - 1) c.requires.rises (omega arith) (omega arith) in
    let fits : get_or s i 0 < length numbers = omega (arith, most, size) in
    let near_i = c.requires.near i in
    let near_z = c.requires.near z in
    let down_i = c.requires.down i in
    let down_z = c.requires.down z in
    record {
      size = length-set {A = ℤ} numbers (get_or s i 0) _ ∙ size;
      written = WrittenBelow-more s ns numbers _ _ i c.loop-slot-test.true c.requires.rises fits
          (omega (arith, ints, near_i, near_z, down_i, down_z)) c.loop-slot.invariant.written;
      near = AreNear-more ns numbers _ i z (get_or s i 0) fits c.requires.down
          (omega (arith, ints, near_i, near_z, down_i, down_z)) c.loop-slot.invariant.near;
      signed = AreSigned-more s numbers i _ c.loop-slot-test.true c.loop-slot.invariant.signed;
    }

pub returns-clause-numbers : goal.returns-clause-numbers
returns-clause-numbers c = λ slot x zero g h.
    let s = c.args.symbols.now in
    let ns = c.args.table.now in
    let z = c.slot_of.result in
    let same = same_slot s z zero 0 c.requires.rises c.slot_of.ensures h in
    let here : number_in ns z ≡ number_in ns zero = ap (number_in ns) same in
    let near_z = c.requires.near z in
    let down_z = c.requires.down z in
    let written = c.loop-slot.invariant.written slot x (let a = slice_get_within s slot x g in omega (arith, a)) g in
    omega (arith, ints, here, near_z, down_z, written)

pub returns-clause-signed : goal.returns-clause-signed
returns-clause-signed c = c.loop-slot.invariant.signed
