use Rattle.std.proofs.Common.{arith, ◌∙◌, inl, inr}
use Rattle.std.proofs.lemmas.Option.{slice_get_within}
use Rattle.pv_linear.specs.declared.Literal.TheVariants.{AtMost, Same, Differ}
use Rattle.pv_diff.proofs.Chaining.{AreTied-more, AreTied-other}
use Rattle.pv_diff.proofs.References.{literal_at, first_in_pair, second_in_pair}
use Rattle.pv_diff.proofs.chains.Chains.add_equation.Goals as goal

pub slot_of-left-requires-clause-named : goal.slot_of-left-requires-clause-named
slot_of-left-requires-clause-named c = c.requires.named c.args.place c.in-Same.x.0 (Same c.in-Same.x c.in-Same.y)
    (literal_at c.args.literals.now c.args.place _ _ c.requires.place c.in-Same.is) (first_in_pair c.in-Same.x.0 c.in-Same.y.0)

pub slot_of-right-requires-clause-named : goal.slot_of-right-requires-clause-named
slot_of-right-requires-clause-named c = c.requires.named c.args.place c.in-Same.y.0 (Same c.in-Same.x c.in-Same.y)
    (literal_at c.args.literals.now c.args.place _ _ c.requires.place c.in-Same.is) (second_in_pair c.in-Same.x.0 c.in-Same.y.0)

pub add-requires-clause-slot : goal.add-requires-clause-slot
add-requires-clause-slot c = let a = slice_get_within c.args.symbols.now c.slot_of-left.result c.in-Same.x.0
    c.slot_of-left.ensures in let b = c.requires.tied.size in omega (arith, a, b)

pub add-requires-in-Same-clause-slot : goal.add-requires-in-Same-clause-slot
add-requires-in-Same-clause-slot c = let a = slice_get_within c.args.symbols.now c.slot_of-right.result c.in-Same.y.0
    c.slot_of-right.ensures in let b = c.requires.tied.size in let d = c.in_ok-add-in-Same.ensures.size in omega (arith, a, b, d)

pub returns-in_ok-add-in-Same-2 : goal.returns-in_ok-add-in-Same-2
returns-in_ok-add-in-Same-2 c = record {
  tied = AreTied-more c.args.symbols.now c.args.literals.now c.args.place c.slot_of-left.result c.slot_of-right.result c.in-Same.x
      c.in-Same.y
      _ _ _ _ _ _ c.requires.rises (literal_at c.args.literals.now c.args.place _ _ c.requires.place c.in-Same.is)
      c.slot_of-left.ensures c.slot_of-right.ensures c.requires.tied
      (c.in_ok-add-in-Same-2.ensures.size ∙ c.in_ok-add-in-Same.ensures.size) c.in_ok-add-in-Same-2.ensures.chains
      (λ k z p. (c.in_ok-add-in-Same.ensures.added k z p).0) (λ k z p. (c.in_ok-add-in-Same.ensures.added k z p).1)
      (λ k z p. (c.in_ok-add-in-Same-2.ensures.added k z p).0) (λ k z p. (c.in_ok-add-in-Same-2.ensures.added k z p).1);
}

pub returns-in-AtMost : goal.returns-in-AtMost
returns-in-AtMost c = record {
  tied = AreTied-other c.args.symbols.now c.args.literals.now c.args.place c.args.self.now.ends.items c.args.self.now.first.items
      c.requires.tied (λ x y g. elim c.in-AtMost.is [
        | inl a ↦ let h = literal_at c.args.literals.now c.args.place _ (AtMost a.0 a.1 a.2) c.requires.place a.3 in absurd (cc)
        | inr a ↦ let h = literal_at c.args.literals.now c.args.place _ (Differ a.0 a.1) c.requires.place a.2 in absurd (cc)
      ]);
}
