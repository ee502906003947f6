use Rattle.std.proofs.Common.{arith, refl, sym, subst, ap, ◌∙◌, ◌++◌, ◌∷◌, [], List, ℕ, ◌+◌, length, length-append}
use Rattle.std.specs.Prelude.{Contains}
use Rattle.std.proofs.lemmas.List.Elements.{Contains-append_left, Contains-push}
use Rattle.std.proofs.lemmas.Option.{slice_get_within}
use Rattle.pv_diff.specs.Slots.{AreOnlyReferences, references_in}
use Rattle.pv_diff.proofs.References.{NamedUnder, NamedUnder-more, AreOnlyReferences-start, AreOnlyReferences-more, few_references, no_literal, literal_at_index}
use Rattle.pv_diff.proofs.slots.gather_references.Goals as goal

pub loop-literal-init : goal.loop-literal-init
loop-literal-init c =
    let e = c.in_ok-push.ensures.items ∙ ap (λ (q : List ℕ). q ++ 0 ∷ []) c.new-symbols.ensures.items in
    record {
      zero = subst (λ (q : List ℕ). Contains q 0) (sym e) (Contains-push [] 0);
      named = λ p k l lt g h. absurd (omega arith);
      only = subst (λ (q : List ℕ). AreOnlyReferences q c.args.literals.now) (sym e)
          (AreOnlyReferences-start c.args.literals.now [] refl);
      few = (let a = ap length e in omega (arith, a));
    }

pub loop-literal-preserved : goal.loop-literal-preserved
loop-literal-preserved c =
    let s = c.loop-literal.symbols.items in
    let ls = c.args.literals.now in
    let i = c.loop-literal.literal-index in
    let e = c.in_ok-push_references.ensures in
    record {
      zero = subst (λ (q : List ℕ). Contains q 0) (sym e)
          (Contains-append_left s (references_in (literal_at_index ls i)) 0 c.loop-literal.invariant.zero);
      named = subst (λ (q : List ℕ). NamedUnder ls q (i + 1)) (sym e)
          (NamedUnder-more ls s i no_literal c.loop-literal-test.true c.loop-literal.invariant.named);
      only = subst (λ (q : List ℕ). AreOnlyReferences q ls) (sym e)
          (AreOnlyReferences-more ls s i no_literal c.loop-literal-test.true c.loop-literal.invariant.only);
      few = (let a = ap length e in let b = length-append s (references_in (literal_at_index ls i)) in let d =
          few_references (literal_at_index ls i) in let f = c.loop-literal.invariant.few in omega (arith, a, b, d, f));
    }

pub returns-clause-named : goal.returns-clause-named
returns-clause-named c = λ p k l g h. c.loop-literal.invariant.named p k l
    (let a = slice_get_within c.args.literals.now p l g in omega (arith, a)) g h
