use Rattle.std.proofs.Common.{arith, ◌+◌, suc, ℕ, List, [], ◌∷◌, ◌++◌, length, length-append, inl, inr, ap, subst}
use Rattle.pv_linear.specs.declared.Literal.{Literal}
use Rattle.pv_linear.specs.declared.Literal.TheVariants.{Same, Differ}
use Rattle.pv_linear.specs.declared.Symbol.{Symbol}
use Rattle.pv_linear.specs.Literal.{bound_of_all}
use Rattle.pv_linear.specs.Sorting.{IsNumberIn, IsNumberAmong}
use Rattle.pv_linear.proofs.Bounds.{bound_of_all-append}
use Rattle.pv_diff.proofs.tests.long_clash.Goals as goal

abbrev at : ℕ → Symbol
at k = record { 0 = k }

none_more : (ls : List Literal) (l : Literal) (k : ℕ) → (IsNumberAmong ls k → ⊥) → (IsNumberIn l k → ⊥)
    → IsNumberAmong (ls ++ l ∷ []) k → ⊥
none_more [] l k h n (inl a) = n a
none_more [] l k h n (inr a) = a
none_more (m ∷ ls) l k h n (inl a) = h (inl a)
none_more (m ∷ ls) l k h n (inr a) = none_more ls l k (λ b. h (inr b)) n a

pub loop-symbol-preserved : goal.loop-symbol-preserved
loop-symbol-preserved c =
    let old = c.loop-symbol.literals.items in
    let e = c.in_ok-push.ensures.items in
    record {
      references = λ k h. none_more old (Same (at (c.loop-symbol.symbol + 1)) (at c.loop-symbol.symbol)) k
          (c.loop-symbol.invariant.references k) (λ n. n) (subst (λ (q : List Literal). IsNumberAmong q k) e h);
      bound = (let a = ap bound_of_all e in let b =
          bound_of_all-append old (Same (at (c.loop-symbol.symbol + 1)) (at c.loop-symbol.symbol) ∷ []) in let d =
          c.loop-symbol.invariant.bound in omega (arith, a, b, d));
      few = (let a = ap length e in let b = length-append old
          (Same (at (c.loop-symbol.symbol + 1)) (at c.loop-symbol.symbol) ∷ []) in let d = c.loop-symbol.invariant.few in
          omega (arith, a, b, d));
    }

pub returns-clause-sorts : goal.returns-clause-sorts
returns-clause-sorts c = λ k h r. none_more c.loop-symbol.literals.items (Differ (at 0) (at c.args.last)) (suc k)
    (c.loop-symbol.invariant.references (suc k)) (λ n. n)
    (subst (λ (q : List Literal). IsNumberAmong q (suc k)) c.in_ok-push-2.ensures.items h)

pub returns-clause-bound : goal.returns-clause-bound
returns-clause-bound c =
    let a = ap bound_of_all c.in_ok-push-2.ensures.items in
    let b = bound_of_all-append c.loop-symbol.literals.items (Differ (at 0) (at c.args.last) ∷ []) in
    let d = c.loop-symbol.invariant.bound in
    omega (arith, a, b, d)
