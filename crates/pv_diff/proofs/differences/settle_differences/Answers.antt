use Rattle.std.proofs.Common.{arith, ap, inl, inr, sym, subst, ◌≡◌, ◌<◌, ◌≤◌, ◌^◌, ◌+ℤ◌, ◌-ℤ◌, ◌≤ℤ◌, ℕ, pos, List, Some, length, slice_index_or}
use Rattle.std.specs.Prelude.{slice_get, Contains}
use Rattle.std.proofs.lemmas.Int.{ints}
use Rattle.pv_diff.specs.Limits.{too_many}
use Rattle.pv_diff.specs.declared.table.Edge.{Edge}
use Rattle.pv_diff.specs.declared.table.Entry.{Entry}
use Rattle.pv_diff.specs.Edges.{AllBelow, widest, breadth}
use Rattle.pv_diff.specs.Slots.{AreEdges}
use Rattle.pv_diff.specs.Table.{IsSettled, number_in}
use Rattle.pv_diff.proofs.Edges.{breadth-most}
use Rattle.pv_diff.proofs.Named.{AreEdges-length, AreEdges-below, AreEdges-widest, AreEdges-reach, Round-cycle, AreMoved, AreMet-meets}
use Rattle.pv_linear.proofs.Bounds.{within_more}
use Rattle.pv_diff.proofs.Written.{found_at}
use Rattle.pv_diff.proofs.differences.settle_differences.Goals as goal

pub settle-requires-clause-few : goal.settle-requires-clause-few
settle-requires-clause-few c =
    let same = AreEdges-length c.deref.result.now c.args.differences.now c.in_ok-edges.edges.items c.in_ok-edges.ensures in
    subst (λ (es : List Edge). length es < too_many) (sym c.deref-2.ensures.value)
    (let few = c.requires.few in omega (arith, same, few))

pub settle-requires-clause-slots : goal.settle-requires-clause-slots
settle-requires-clause-slots c =
    let below = AreEdges-below c.deref.result.now c.args.differences.now c.in_ok-edges.edges.items c.in_ok-edges.ensures in
    let same : length c.deref.result.now ≡ c.len.result =
    (let a = c.deref.ensures.len in let b = c.len.ensures in omega (arith, a, b)) in
    subst (λ (n : ℕ). AllBelow n c.deref-2.result.now) same
    (subst (AllBelow (length c.deref.result.now)) (sym c.deref-2.ensures.value) below)

pub settle-requires-clause-bounds : goal.settle-requires-clause-bounds
settle-requires-clause-bounds c =
    let wide = AreEdges-widest c.deref.result.now c.args.differences.now c.in_ok-edges.edges.items c.in_ok-edges.ensures in
    subst (λ (es : List Edge). widest es ≤ 2 ^ 100) (sym c.deref-2.ensures.value)
    (let b = c.requires.bounds in omega (arith, wide, b))

pub assignment_of-requires-clause-near : goal.assignment_of-requires-clause-near
assignment_of-requires-clause-near c = λ k.
    let es = c.in_ok-edges.edges.items in
    let edges = c.in_ok-edges.ensures in
    let settled = subst (λ (e : List Edge). IsSettled e c.len.result c.in_ok-table.field-0) c.deref-2.ensures.value
    c.in_ok-table.ensures in
    let numbers = subst (IsSettled es c.len.result) c.in-Numbers.is settled in
    let same = AreEdges-length c.deref.result.now c.args.differences.now es edges in
    let wide = AreEdges-widest c.deref.result.now c.args.differences.now es edges in
    let few = c.requires.few in
    let bounds = c.requires.bounds in
    let most = breadth-most es (omega (arith, wide, bounds)) in
    let low = numbers.2 k in
    subst (λ (ns : List Entry). pos 0 ≤ℤ (number_in ns k +ℤ pos (2 ^ 120))) (sym c.deref-in-Numbers-2.ensures.value)
    (omega (arith, ints, same, few, most, low))

pub returns-in-Numbers : goal.returns-in-Numbers
returns-in-Numbers c =
    let s = c.in_ok-symbols.symbols.items in
    let ls = c.args.differences.now in
    let es = c.in_ok-edges.edges.items in
    let ns = c.in-Numbers.table.items in
    let made = c.in_ok-assignment_of-in-Numbers in
    let found = made.field-0.items in
    let edges = subst (λ (q : List ℕ). AreEdges q ls es) c.deref.ensures.value c.in_ok-edges.ensures in
    let settled = subst (λ (e : List Edge). IsSettled e c.len.result c.in_ok-table.field-0) c.deref-2.ensures.value
    c.in_ok-table.ensures in
    let numbers = subst (IsSettled es c.len.result) c.in-Numbers.is settled in
    let zero = c.in_ok-symbols.ensures.zero in
    let here = found_at s zero.0 0 zero.1 zero.2 in
    let each = λ (slot x : ℕ) (g : slice_get s slot ≡ Some x).
    let e = made.ensures.numbers slot x zero.0
    (subst (λ (q : List ℕ). slice_get q slot ≡ Some x) (sym c.deref-in-Numbers.ensures.value) g)
    (subst (λ (q : List ℕ). slice_get q zero.0 ≡ Some 0) (sym c.deref-in-Numbers.ensures.value) here) in
    subst (λ (q : List Entry). slice_index_or found x (pos 0) ≡ (number_in q slot -ℤ number_in q zero.0))
    c.deref-in-Numbers-2.ensures.value e in
    let moved : AreMoved s ns found zero.0 = record { here = here; each = each } in
    let reach = AreEdges-reach s ls es edges in
    record {
      meets = AreMet-meets s ls es ns found zero.0 edges moved numbers.1;
      near = λ k. within_more (breadth es) _ (slice_index_or found k (pos 0))
          (made.ensures.within (breadth es) (λ j.
          subst (λ (q : List Entry). pos 0 ≤ℤ (number_in q j +ℤ pos (breadth es))) (sym c.deref-in-Numbers-2.ensures.value)
          (numbers.2 j)) k) reach;
      signed = λ k below. elim (c.in_ok-symbols.ensures.only k
          (subst (λ (q : List ℕ). Contains q k) c.deref-in-Numbers.ensures.value (made.ensures.signed k below))) [
            | inl e ↦ absurd (let at_zero = each zero.0 0 here in let a : slice_index_or found k (pos 0)
                ≡ slice_index_or found 0 (pos 0) = ap (λ (q : ℕ). slice_index_or found q (pos 0)) e in
                omega (arith, ints, a, at_zero, below))
            | inr h ↦ h
          ];
    }

pub returns : goal.returns
returns c =
    let es = c.in_ok-edges.edges.items in
    let settled = subst (λ (e : List Edge). IsSettled e c.len.result c.in_ok-table.field-0) c.deref-2.ensures.value
    c.in_ok-table.ensures in
    Round-cycle c.deref.result.now c.args.differences.now es c.in-Round.places c.in_ok-edges.ensures
    (subst (IsSettled es c.len.result) c.in-Round.is settled)
