-- Sums over places.
use Rattle.std.proofs.Common.{◌≡◌, ◌≢◌, ℕ, zero, suc, ◌+◌, ◌<◌, ◌≤◌, ℤ, pos, List, [], ◌∷◌, length, Option, Some, refl, ap, arith}
use Rattle.std.specs.Prelude.{slice_get, unsigned_abs, unwrap_or}
use Rattle.pv_diff.specs.declared.table.Edge.{Edge}
use Rattle.pv_diff.specs.Edges.{edge, breadth}

-- the number is none of the list
abbrev pub IsApart : ℕ → List ℕ → Type 0
IsApart q [] = Unit {0}
IsApart q (p ∷ ps) = (q ≢ p) × IsApart q ps

-- no number stands twice
abbrev pub AreApart : List ℕ → Type 0
AreApart [] = Unit {0}
AreApart (p ∷ ps) = IsApart p ps × AreApart ps

abbrev pub AreUnder : ℕ → List ℕ → Type 0
AreUnder n [] = Unit {0}
AreUnder n (p ∷ ps) = (p < n) × AreUnder n ps

-- the sum of what stands at the places of the list
abbrev pub sum_at : (ℕ → ℕ) → List ℕ → ℕ
sum_at w [] = 0
sum_at w (p ∷ ps) = w p + sum_at w ps

-- the sum of what stands at the places below n
abbrev pub sum_under : ℕ → (ℕ → ℕ) → ℕ
sum_under zero w = 0
sum_under (suc n) w = w 0 + sum_under n (λ k. w (suc k))

-- the same with zero at q
abbrev pub cleared : ℕ → (ℕ → ℕ) → ℕ → ℕ
cleared zero w zero = 0
cleared zero w (suc k) = w (suc k)
cleared (suc q) w zero = w 0
cleared (suc q) w (suc k) = cleared q (λ j. w (suc j)) k

pub cleared_other : (q k : ℕ) (w : ℕ → ℕ) → q ≢ k → cleared q w k ≡ w k
cleared_other zero zero w h = absurd (h refl)
cleared_other zero (suc k) w h = refl
cleared_other (suc q) zero w h = refl
cleared_other (suc q) (suc k) w h = cleared_other q k (λ j. w (suc j)) (λ e. h (ap suc e))

pub sum_at-cleared : (q : ℕ) (w : ℕ → ℕ) (ps : List ℕ) → IsApart q ps → sum_at (cleared q w) ps ≡ sum_at w ps
sum_at-cleared q w [] h = refl
sum_at-cleared q w (p ∷ ps) h = let a = cleared_other q p w h.0 in let b = sum_at-cleared q w ps h.1 in omega (arith, a, b)

pub sum_under-cleared : (n q : ℕ) (w : ℕ → ℕ) → q < n → sum_under n (cleared q w) + w q ≡ sum_under n w
sum_under-cleared zero q w h = absurd (omega arith)
sum_under-cleared (suc n) zero w h = omega arith
sum_under-cleared (suc n) (suc q) w h = let a = sum_under-cleared n q (λ k. w (suc k)) (omega arith) in omega (arith, a)

-- a list with no number twice sums up to no more than all places do
pub sum_at-under : (n : ℕ) (w : ℕ → ℕ) (ps : List ℕ) → AreUnder n ps → AreApart ps → sum_at w ps ≤ sum_under n w
sum_at-under n w [] u a = omega arith
sum_at-under n w (p ∷ ps) u a =
    let rest = sum_at-under n (cleared p w) ps u.1 a.1 in
    let same = sum_at-cleared p w ps a.0 in
    let all = sum_under-cleared n p w u.0 in
    omega (arith, rest, same, all)

pub sum_at-one : (ps : List ℕ) → sum_at (λ _. 1) ps ≡ length ps
sum_at-one [] = refl
sum_at-one (p ∷ ps) = omega (arith, sum_at-one ps)

pub sum_under-one : (n : ℕ) → sum_under n (λ _. 1) ≡ n
sum_under-one zero = refl
sum_under-one (suc n) = omega (arith, sum_under-one n)

-- a list with no number twice is no longer than the numbers below n are
pub length-under : (n : ℕ) (ps : List ℕ) → AreUnder n ps → AreApart ps → length ps ≤ n
length-under n ps u a = omega (arith, sum_at-under n (λ _. 1) ps u a, sum_at-one ps, sum_under-one n)

-- how far the bound at a place is from zero
abbrev pub breadth_at : List Edge → ℕ → ℕ
breadth_at [] q = 0
breadth_at (e ∷ es) zero = unsigned_abs e.bound
breadth_at (e ∷ es) (suc q) = breadth_at es q

pub breadth_at-get : (es : List Edge) (q x z : ℕ) (c : ℤ) → slice_get es q ≡ Some (edge x z c) → breadth_at es q ≡ unsigned_abs c
breadth_at-get [] q x z c h = cc
breadth_at-get (e ∷ es) zero x z c h = ap (λ (o : Option Edge). unsigned_abs (unwrap_or o (edge 0 0 (pos 0))).bound) h
breadth_at-get (e ∷ es) (suc q) x z c h = breadth_at-get es q x z c h

pub sum_under-breadth : (es : List Edge) → sum_under (length es) (breadth_at es) ≡ breadth es
sum_under-breadth [] = refl
sum_under-breadth (e ∷ es) = omega (arith, sum_under-breadth es)
