-- References on evidence that gives none of them a negative number.
use Rattle.std.proofs.Common.{◌≡◌, ℕ, zero, suc, ℤ, pos, Bool, List, [], ◌∷◌, sym, ◌∙◌, ◌↔◌, IsTrue, rules, arith}
use Rattle.std.specs.Prelude.{◌≤ℤ◌, nat_eq, negsuc}
use Rattle.std.proofs.lemmas.Int.{ints}
use Rattle.pv_linear.specs.declared.Sort.{Sort}
use Rattle.pv_linear.specs.declared.Sort.TheVariants.{Reference}
use Rattle.pv_linear.specs.declared.Symbol.{Symbol}
use Rattle.pv_linear.specs.declared.Literal.{Literal}
use Rattle.pv_linear.specs.declared.Literal.TheVariants as literal
use Rattle.pv_linear.specs.Values.{Values, number_of}
use Rattle.pv_linear.specs.Sorts.{HasSort}
use Rattle.pv_linear.specs.Evidence.{MayAsk}
use Rattle.pv_linear.specs.Decisions.{Decision}
use Rattle.pv_linear.specs.Asking.{Meet, int_same}
use Rattle.pv_linear.specs.Keeping.{AreUp}
use Rattle.pv_picks.specs.Formulas.Values.{or_zero}
use Rattle.pv_picks.specs.Lazy.Patterns.{Same}
use Rattle.pv_state.specs.Parts.{IsSorted}
use Rattle.pv_state.proofs.Asked.{sorted_asks}
use Rattle.pv_state.proofs.Orders.{equal_told}

pub may_equate : {S : Type 0} (path : S → List Literal) (turns : S → List ℕ) (decisions : S → List Decision)
    (sorts : S → List Sort) (asker : S) (a b : Symbol) → IsSorted path turns decisions sorts asker
    → HasSort (sorts asker) Reference a.0 → HasSort (sorts asker) Reference b.0 → MayAsk (path asker) (literal.Same a b)
may_equate path turns decisions sorts asker a b sorted x y =
    sorted_asks path turns decisions (λ s e. Unit {0}) (λ s. 0) sorts asker (literal.Same a b) sorted (x, y)

-- a reference that was made isn't negative
pub reference_up : (made : List Sort) (v : Values) (k : ℕ) → AreUp made v → HasSort made Reference k → pos 0 ≤ℤ number_of v k
unfolding HasSort number_of
reference_up made v zero up h = search (rules, ints)
reference_up made v (suc k) up h = up k h

from_zero : (x y : ℤ) → pos 0 ≤ℤ x → pos 0 ≤ℤ y → nat_eq (or_zero x) (or_zero y) ≡ int_same x y
from_zero (pos m) (pos n) h k = search (rules, ints)
from_zero (pos m) (negsuc n) h k = absurd (omega (arith, ints, k))
from_zero (negsuc m) y h k = absurd (omega (arith, ints, h))

pub same_of : (made : List Sort) (v : Values) (a b : ℕ) → AreUp made v → HasSort made Reference a → HasSort made Reference b
    → nat_eq (or_zero (number_of v a)) (or_zero (number_of v b)) ≡ int_same (number_of v a) (number_of v b)
same_of made v a b up x y = from_zero (number_of v a) (number_of v b) (reference_up made v a up x) (reference_up made v b up y)

told_same : (told : Bool) (x y : ℤ) → IsTrue told ↔ (x ≡ y) → told ≡ int_same x y
told_same told x y says = equal_told told x y says

pub same_told : (made : List Sort) (v : Values) (told : Bool) (a b : ℕ) → IsTrue told ↔ (number_of v a ≡ number_of v b)
    → HasSort made Reference a → HasSort made Reference b → AreUp made v
    → told ≡ nat_eq (or_zero (number_of v a)) (or_zero (number_of v b))
same_told made v told a b says x y up =
    told_same told (number_of v a) (number_of v b) says ∙ sym (same_of made v a b up x y)

pub meet_same : (made : List Sort) (v w : Values) (a b : ℕ) → AreUp made v → AreUp made w → HasSort made Reference a
    → HasSort made Reference b
    → Meet (Same (nat_eq (or_zero (number_of v a)) (or_zero (number_of v b))) ∷ [])
    (Same (nat_eq (or_zero (number_of w a)) (or_zero (number_of w b))) ∷ [])
    → int_same (number_of v a) (number_of v b) ≡ int_same (number_of w a) (number_of w b)
unfolding Meet
meet_same made v w a b up high x y m =
    let p : nat_eq (or_zero (number_of v a)) (or_zero (number_of v b))
    ≡ nat_eq (or_zero (number_of w a)) (or_zero (number_of w b)) =
    cc m.0 in
    sym (same_of made v a b up x y) ∙ p ∙ same_of made w a b high x y
