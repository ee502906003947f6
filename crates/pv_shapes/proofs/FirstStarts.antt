-- The first fault of a list starts first.
use Rattle.std.proofs.Common.{◌≡◌, ℕ, ◌<◌, ◌≤◌, Bool, true, false, Option, Some, None, List, [], ◌∷◌, refl, sym, ◌∙◌, ap, subst, arith}
use Rattle.std.specs.Prelude.{nat_lt, All, if◌then◌else◌}
use Rattle.std.proofs.lemmas.Bool.{ltb-true, ltb-false}
use Rattle.std.proofs.lemmas.List.Elements.{All-nil, All-cons}
use Rattle.pv_ast.specs.declared.fault.ShapeFault.{ShapeFault}
use Rattle.pv_ast.specs.Rules.Shapes.{start_of, earlier, first_of, IsFirst}

some_earlier : (f : ShapeFault) (b : Option ShapeFault) → earlier (Some f) b ≡ None → ⊥
some_earlier f None e = cc
some_earlier f (Some g) e = grind arith

pub none_of_none : (fs : List ShapeFault) → first_of fs ≡ None → fs ≡ []
none_of_none [] e = refl
none_of_none (f ∷ fs) e = absurd (some_earlier f (first_of fs) e)

-- the fault of which nothing starts earlier
pub record Bounded (n : ℕ) (r : Option ShapeFault) : Type 0 where
  pub bound : (g : ShapeFault) → r ≡ Some g → n ≤ start_of g

some_same : (x y : ShapeFault) → Some x ≡ Some y → x ≡ y
some_same x y e = cc

bounded_some : (n : ℕ) (y : ShapeFault) → n ≤ start_of y → Bounded n (Some y)
bounded_some n y h = record { bound = λ g e. rw (← some_same y g e) h }

bounded_two : (n : ℕ) (x y : ShapeFault) (b : Bool) → nat_lt (start_of y) (start_of x) ≡ b
    → Bounded n (if b then Some y else Some x) → (n ≤ start_of x) × Bounded n (Some y)
bounded_two n x y true t h =
    let low : n ≤ start_of y = h.bound y refl in
    let less : start_of y < start_of x = ltb-true (start_of y) (start_of x) t in
    (omega arith, bounded_some n y low)
bounded_two n x y false t h =
    let low : n ≤ start_of x = h.bound x refl in
    let less : start_of x ≤ start_of y = ltb-false (start_of y) (start_of x) t in
    (low, bounded_some n y (omega arith))

bounded_parts : (n : ℕ) (x : ShapeFault) (r : Option ShapeFault) → Bounded n (earlier (Some x) r) → (n ≤ start_of x) × Bounded n r
bounded_parts n x None h = (h.bound x refl, record { bound = λ g e. absurd cc })
bounded_parts n x (Some y) h = bounded_two n x y (nat_lt (start_of y) (start_of x)) refl h

first_bounds : (n : ℕ) (xs : List ShapeFault) → Bounded n (first_of xs) → All (λ other. n ≤ start_of other) xs
first_bounds n [] h = All-nil (λ other. n ≤ start_of other)
first_bounds n (x ∷ xs) h =
    let parts = bounded_parts n x (first_of xs) h in
    All-cons (λ other. n ≤ start_of other) x xs parts.0 (first_bounds n xs parts.1)

-- the fault that stands first is first
is_head : (x : ShapeFault) (xs : List ShapeFault) → Bounded (start_of x) (first_of xs) → IsFirst x (x ∷ xs)
is_head x xs h = record {
  before = [];
  behind = xs;
  stands = refl;
  later = All-nil (λ other. start_of x < start_of other);
  no_earlier = first_bounds (start_of x) xs h;
}

is_behind : (x f : ShapeFault) (xs : List ShapeFault) → start_of f < start_of x → IsFirst f xs → IsFirst f (x ∷ xs)
is_behind x f xs l h = record {
  before = x ∷ h.before;
  behind = h.behind;
  stands = ap (λ ys. x ∷ ys) h.stands;
  later = All-cons (λ other. start_of f < start_of other) x h.before l h.later;
  no_earlier = h.no_earlier;
}

first_two : (x y f : ShapeFault) (xs : List ShapeFault) (b : Bool) → nat_lt (start_of y) (start_of x) ≡ b → first_of xs ≡ Some y
    → (first_of xs ≡ Some f → IsFirst f xs) → (if b then Some y else Some x) ≡ Some f → IsFirst f (x ∷ xs)
first_two x y f xs true t r inner e =
    let less : start_of y < start_of x = ltb-true (start_of y) (start_of x) t in
    let same = some_same y f e in
    is_behind x f xs (rw (← same) less) (inner (r ∙ e))
first_two x y f xs false t r inner e =
    let less : start_of x ≤ start_of y = ltb-false (start_of y) (start_of x) t in
    subst (λ g. IsFirst g (x ∷ xs)) (some_same x f e)
    (is_head x xs (subst (Bounded (start_of x)) (sym r) (bounded_some (start_of x) y less)))

first_of_all : (x f : ShapeFault) (xs : List ShapeFault) (r : Option ShapeFault) → first_of xs ≡ r
    → (first_of xs ≡ Some f → IsFirst f xs) → earlier (Some x) r ≡ Some f → IsFirst f (x ∷ xs)
first_of_all x f xs None n inner e =
    subst (λ g. IsFirst g (x ∷ xs)) (some_same x f e) (is_head x xs (record { bound = λ g i. absurd (cc (sym n ∙ i)) }))
first_of_all x f xs (Some y) r inner e = first_two x y f xs (nat_lt (start_of y) (start_of x)) refl r inner e

pub first_is_first : (xs : List ShapeFault) (f : ShapeFault) → first_of xs ≡ Some f → IsFirst f xs
first_is_first [] f e = absurd cc
first_is_first (x ∷ xs) f e = first_of_all x f xs (first_of xs) refl (first_is_first xs f) e
