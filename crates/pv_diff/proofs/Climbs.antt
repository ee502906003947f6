-- What following the causes leads to.
use Rattle.std.proofs.Common.{◌≡◌, ℕ, ◌<◌, ℤ, pos, ◌+ℤ◌, ◌≤ℤ◌, ◌<ℤ◌, List, [], ◌∷◌, ◌++◌, length, Option, Some, refl, ap, sym, subst, arith, ◌∙◌, ◌⊎◌, inl, inr}
use Rattle.std.specs.Prelude.{slice_get, unwrap_or}
use Rattle.std.proofs.lemmas.Int.{ints}
use Rattle.pv_diff.specs.declared.table.Edge.{Edge}
use Rattle.pv_diff.specs.declared.table.Entry.{Entry}
use Rattle.pv_diff.specs.Edges.{edge, Trail, IsNegativeRound}
use Rattle.pv_diff.specs.Table.{number_in, cause_in, cause, Sound, Climb}

-- a climb is a trail
pub Climb-trail : (es : List Edge) (ns : List Entry) (x y : ℕ) (t : ℤ) (ps : List ℕ) → Climb es ns x y t ps → Trail es x y t ps
Climb-trail es ns x y t [] h = h
Climb-trail es ns x y t (p ∷ ps) h = (h.0, h.1, h.2, h.4, Climb-trail es ns h.0 y h.2 ps h.5, h.6)

-- one step more at the end
pub Climb-more : (es : List Edge) (ns : List Entry) (x y z q : ℕ) (t c : ℤ) (ps : List ℕ) → Climb es ns x y t ps → cause_in ns y
    ≡ Some (cause q z) → slice_get es q ≡ Some (edge y z c) → Climb es ns x z (t +ℤ c) (ps ++ q ∷ [])
Climb-more es ns x y z q t c [] h a b = let e : x ≡ y = h.0 in let k = h.1 in (
  z,
  c,
  pos 0,
  subst (λ (w : ℕ). cause_in ns w ≡ Some (cause q z)) (sym e) a,
  subst (λ (w : ℕ). slice_get es q ≡ Some (edge w z c)) (sym e) b,
  (refl, refl),
  omega (arith, ints),
)
Climb-more es ns x y z q t c (p ∷ ps) h a b = let k = h.6 in
    (h.0, h.1, h.2 +ℤ c, h.3, h.4, Climb-more es ns h.0 y z q h.2 c ps h.5 a b, omega (arith, ints))

-- the edge at a place has one bound
pub same_bound : (es : List Edge) (p x z : ℕ) (b c : ℤ) → slice_get es p ≡ Some (edge x z b) → slice_get es p ≡ Some (edge x z c)
    → b ≡ c
same_bound es p x z b c h k = ap (λ (o : Option Edge). (unwrap_or o (edge 0 0 (pos 0))).bound) (sym h ∙ k)

-- the numbers fall along a climb by no more than the bounds say
pub Climb-bounds : (es : List Edge) (ns : List Entry) (x y : ℕ) (t : ℤ) (ps : List ℕ) → Sound es ns → Climb es ns x y t ps
    → (number_in ns y +ℤ t) ≤ℤ number_in ns x
Climb-bounds es ns x y t [] s h = let e : number_in ns x ≡ number_in ns y = ap (number_in ns) h.0 in let k = h.1 in
    omega (arith, ints)
Climb-bounds es ns x y t (p ∷ ps) s h =
    let l = s.lowered x p h.0 h.3 in
    let same : l.bound ≡ h.1 = same_bound es p x h.0 l.bound h.1 l.found h.4 in
    let above = l.above in
    let rest = Climb-bounds es ns h.0 y h.2 ps s h.5 in
    let k = h.6 in
    omega (arith, ints)

-- a climb of some steps leads to a slot that was lowered before, or falls by more than the bounds say
pub Climb-strict : (es : List Edge) (ns : List Entry) (s : Sound es ns) (x y : ℕ) (t : ℤ) (p : ℕ) (ps : List ℕ)
    → Climb es ns x y t (p ∷ ps) → (s.time y < s.time x) ⊎ ((number_in ns y +ℤ t) <ℤ number_in ns x)
Climb-strict es ns s x y t p [] h =
    let l = s.lowered x p h.0 h.3 in
    let same : l.bound ≡ h.1 = same_bound es p x h.0 l.bound h.1 l.found h.4 in
    let end : h.0 ≡ y = h.5.0 in
    let zero : h.2 ≡ pos 0 = h.5.1 in
    let k = h.6 in
    elim l.strict [
      | inl a ↦ inl (subst (λ (w : ℕ). s.time w < s.time x) end a)
      | inr b ↦ let e : number_in ns h.0
          ≡ number_in ns y = ap (number_in ns) end in inr (omega (arith, ints))
    ]
Climb-strict es ns s x y t p (q ∷ ps) h =
    let l = s.lowered x p h.0 h.3 in
    let same : l.bound ≡ h.1 = same_bound es p x h.0 l.bound h.1 l.found h.4 in
    let above = l.above in
    let rest = Climb-strict es ns s h.0 y h.2 q ps h.5 in
    let bounds = Climb-bounds es ns h.0 y h.2 (q ∷ ps) s h.5 in
    let k = h.6 in
    elim rest [
      | inl a ↦ elim l.strict [ inl d ↦ inl (omega arith) | inr d ↦ inr (omega (arith, ints)) ]
      | inr b ↦ inr
          (omega (arith, ints))
    ]

-- a climb back to its start is a negative round
pub Climb-negative : (es : List Edge) (ns : List Entry) (x : ℕ) (t : ℤ) (ps : List ℕ) → Sound es ns → Climb es ns x x t ps
    → 0 < length ps → IsNegativeRound es ps
Climb-negative es ns x t [] s h some = absurd (omega arith)
Climb-negative es ns x t (p ∷ ps) s h some = (
  x,
  t,
  Climb-trail es ns x x t (p ∷ ps) h,
  elim (Climb-strict es ns s x x t p ps h) [ inl a ↦ absurd (omega arith) | inr b ↦ omega (arith, ints) ],
)
