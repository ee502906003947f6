use Rattle.std.proofs.Common.{arith}
use Rattle.small_paths.proofs.PartsLemmas.{agreed_meets, met_agrees, literals_apart, literals_within, length-literals_of}
use Rattle.small_paths.proofs.path.Path.witness.Goals as goal

pub values_for-requires-clause-sorts : goal.values_for-requires-clause-sorts
values_for-requires-clause-sorts c = rw (c.deref-2.ensures.value, c.in_ok-literals.ensures, c.deref.ensures.value)
    (literals_apart _)

pub values_for-requires-clause-few : goal.values_for-requires-clause-few
values_for-requires-clause-few c =
    rw (c.deref-2.ensures.value, c.in_ok-literals.ensures, c.deref.ensures.value)
    (omega (arith, length-literals_of c.args.self.now.decisions.items, c.args.self.now.decisions.ok.0))

pub values_for-requires-clause-bounds : goal.values_for-requires-clause-bounds
values_for-requires-clause-bounds c =
    rw (c.deref-2.ensures.value, c.in_ok-literals.ensures, c.deref.ensures.value)
    (omega (arith, literals_within c.args.self.now.decisions.items, c.args.self.now.bounded))

pub returns-in-Some-clause-some : goal.returns-in-Some-clause-some
returns-in-Some-clause-some c =
    let m = rw c.in-Some.is at c.in_ok-found.ensures.some in
    met_agrees _ c.args.self.now.decisions.items
    (rw (c.deref-2.ensures.value, c.in_ok-literals.ensures, c.deref.ensures.value) at m)

pub returns-clause-none : goal.returns-clause-none
returns-clause-none c = λ v h.
    let n = rw c.in-None.is at c.in_ok-found.ensures.none in
    n v (rw (c.deref-2.ensures.value, c.in_ok-literals.ensures, c.deref.ensures.value)
    (agreed_meets v c.args.self.now.decisions.items h))
