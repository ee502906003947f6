use Rattle.std.proofs.Common.{arith, length-append}
use Rattle.small_paths.specs.Parts.{literal_of}
use Rattle.small_paths.proofs.PartsLemmas.{Agreed_meets, asked_apart, bound_asked, length-literals_of}
use Rattle.small_paths.proofs.path.Path.is_possible.Goals as goal

pub can_be_met-requires-clause-sorts : goal.can_be_met-requires-clause-sorts
can_be_met-requires-clause-sorts c = rw (c.deref-2.ensures.value, c.in_ok-literals.ensures, c.deref.ensures.value)
    (asked_apart _ _)

pub can_be_met-requires-clause-few : goal.can_be_met-requires-clause-few
can_be_met-requires-clause-few c =
    rw (c.deref-2.ensures.value, c.in_ok-literals.ensures, c.deref.ensures.value, length-append)
    (omega (arith, length-literals_of c.args.self.now.decisions.items, c.args.self.now.decisions.ok.0))

pub can_be_met-requires-clause-bounds : goal.can_be_met-requires-clause-bounds
can_be_met-requires-clause-bounds c = rw (c.deref-2.ensures.value, c.in_ok-literals.ensures, c.deref.ensures.value)
    (bound_asked _ _ _ c.args.self.now.bounded c.requires)

pub returns : goal.returns
returns c = λ f v a h. c.in_ok-told.ensures f v
    (rw (c.deref-2.ensures.value, c.in_ok-literals.ensures, c.deref.ensures.value)
    (Agreed_meets v c.args.self.now.decisions.items (literal_of c.args.question.now) a h))
