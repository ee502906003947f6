use Rattle.std.proofs.Common.{arith, refl, sym, subst, ap, ◌∙◌, ◌++◌, ◌∷◌, [], List, ℕ, ◌+◌, pos, length, length-append}
use Rattle.std.specs.Prelude.{Contains}
use Rattle.std.proofs.lemmas.List.Elements.{Contains-append_left, Contains-push}
use Rattle.std.proofs.lemmas.Option.{slice_get_within}
use Rattle.pv_linear.specs.declared.Literal.TheVariants.{AtMost}
use Rattle.pv_diff.specs.Slots.{AreOnlyNamed}
use Rattle.pv_diff.proofs.Named.{AllAtMost-at}
use Rattle.pv_diff.proofs.Written.{NamedBelow, NamedBelow-more, AreOnlyNamed-start, AreOnlyNamed-more, symbol}
use Rattle.pv_diff.proofs.slots.gather.Goals as goal

pub difference_of-difference-requires : goal.difference_of-difference-requires
difference_of-difference-requires c = AllAtMost-at c.args.literals.now c.loop-literal.literal-index _ c.requires.differences
    c.loop-literal-test.true

pub loop-literal-init : goal.loop-literal-init
loop-literal-init c =
    let e = c.in_ok-push.ensures.items ∙ ap (λ (q : List ℕ). q ++ 0 ∷ []) c.in_ok-symbols.ensures.items in
    record {
      zero = subst (λ (q : List ℕ). Contains q 0) (sym e) (Contains-push [] 0);
      named = λ p x y m lt g. absurd (omega arith);
      only = subst (λ (q : List ℕ). AreOnlyNamed q c.args.literals.now) (sym e) (AreOnlyNamed-start c.args.literals.now [] refl);
      few = ap length e;
    }

pub loop-literal-preserved : goal.loop-literal-preserved
loop-literal-preserved c =
    let s = c.loop-literal.symbols.items in
    let a = c.difference_of-difference.result.to in
    let b = c.difference_of-difference.result.from in
    let e = c.in_ok-push-3.ensures.items ∙ ap (λ (q : List ℕ). q ++ b ∷ []) c.in_ok-push-2.ensures.items in
    record {
      zero = subst (λ (q : List ℕ). Contains q 0) (sym e)
          (Contains-append_left (s ++ a ∷ []) (b ∷ []) 0 (Contains-append_left s (a ∷ []) 0 c.loop-literal.invariant.zero));
      named = subst (λ (q : List ℕ). NamedBelow c.args.literals.now q (c.loop-literal.literal-index + 1)) (sym e)
          (NamedBelow-more c.args.literals.now s c.loop-literal.literal-index (AtMost (symbol 0) (symbol 0) (pos 0)) a b
          c.difference_of-difference.result.bound c.loop-literal-test.true c.difference_of-difference.ensures
          c.loop-literal.invariant.named);
      only = subst (λ (q : List ℕ). AreOnlyNamed q c.args.literals.now) (sym e)
          (AreOnlyNamed-more c.args.literals.now s c.loop-literal.literal-index (AtMost (symbol 0) (symbol 0) (pos 0)) a b
          c.difference_of-difference.result.bound c.loop-literal-test.true c.difference_of-difference.ensures
          c.loop-literal.invariant.only);
      few = omega (
        arith,
        ap length e,
        length-append (s ++ a ∷ []) (b ∷ []),
        length-append s (a ∷ []),
        c.loop-literal.invariant.few,
      );
    }

pub returns-clause-named : goal.returns-clause-named
returns-clause-named c = λ p x y m g. c.loop-literal.invariant.named p x y m
    (let a = slice_get_within c.args.literals.now p (AtMost x y m) g in omega (arith, a)) g
