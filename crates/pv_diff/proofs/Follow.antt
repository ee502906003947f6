-- Following the causes step by step.
use Rattle.std.proofs.Common.{◌≡◌, ◌≢◌, ℕ, ◌+◌, ◌<◌, ◌≤◌, ℤ, ◌+ℤ◌, List, [], ◌∷◌, ◌++◌, length, Some, None, subst, arith, ◌∙◌, length-append}
use Rattle.std.specs.Prelude.{slice_get}
use Rattle.pv_diff.specs.declared.table.Edge.{Edge}
use Rattle.pv_diff.specs.declared.table.Entry.{Entry}
use Rattle.pv_diff.specs.Edges.{edge, AllBelow, IsNegativeRound}
use Rattle.pv_diff.specs.Table.{cause_in, cause, IsSound, IsAbove, Climb, IsOnLoop}
use Rattle.pv_diff.proofs.Edges.{AllBelow-get}
use Rattle.pv_diff.proofs.Climbs.{Climb-more, Climb-negative}
use Rattle.pv_diff.proofs.Loops.{Climb-low, Climb-long, same_from}

-- k steps lead from x to y
abbrev pub Climbs : List Edge → List Entry → ℕ → ℕ → ℕ → Type 0
Climbs es ns x y k = (t : ℤ) × (ps : List ℕ) × Climb es ns x y t ps × (length ps ≡ k)

-- the steps at these places lead from x to y
abbrev pub Made : List Edge → List Entry → ℕ → ℕ → List ℕ → Type 0
Made es ns x y ps = (t : ℤ) × Climb es ns x y t ps

-- some steps lead from x to y, no more than are left of n
abbrev pub Left : List Edge → List Entry → ℕ → ℕ → ℕ → ℕ → Type 0
Left es ns x y k n = (t : ℤ) × (ps : List ℕ) × Climb es ns x y t ps × (0 < length ps) × (length ps + k ≤ n)

pub edge_of : (es : List Edge) (ns : List Entry) (x q z : ℕ) → IsSound es ns → cause_in ns x ≡ Some (cause q z) → (c : ℤ)
    × (slice_get es q ≡ Some (edge x z c))
unfolding IsSound
edge_of es ns x q z s h = let l = s.lowered x q z h in (l.bound, l.found)

pub slot_of : (es : List Edge) (ns : List Entry) (n x q z : ℕ) → IsSound es ns → AllBelow n es → cause_in ns x ≡ Some (cause q z)
    → z < n
slot_of es ns n x q z s b h = let e = edge_of es ns x q z s h in AllBelow-get n es q x z e.0 b e.1

pub Climbs-ends : (es : List Edge) (ns : List Entry) (x y k : ℕ) → IsSound es ns → Climbs es ns x y k → cause_in ns y ≡ None
    → IsAbove es ns x
unfolding IsSound
Climbs-ends es ns x y k s h a = Climb-low es ns x y h.0 h.1 s h.2 a

pub Climbs-more : (es : List Edge) (ns : List Entry) (x y k q z : ℕ) → IsSound es ns → Climbs es ns x y k → cause_in ns y
    ≡ Some (cause q z) → Climbs es ns x z (k + 1)
Climbs-more es ns x y k q z s h a = let e = edge_of es ns y q z s a in (
  h.0 +ℤ e.0,
  h.1 ++ q ∷ [],
  Climb-more es ns x y z q h.0 e.0 h.1 h.2 a e.1,
  (let l = h.3 in omega (arith, length-append h.1 (q ∷ []))),
)

pub Climbs-loop : (es : List Edge) (ns : List Entry) (x y k : ℕ) → Climbs es ns x y k → k ≡ length es + 1 → IsOnLoop es ns y
unfolding IsOnLoop
Climbs-loop es ns x y k h e = Climb-long es ns x y h.0 h.1 h.2 (h.3 ∙ e)

pub Made-more : (es : List Edge) (ns : List Entry) (x y q z : ℕ) (ps : List ℕ) → IsSound es ns → Made es ns x y ps → cause_in ns y
    ≡ Some (cause q z) → Made es ns x z (ps ++ q ∷ [])
Made-more es ns x y q z ps s h a = let e = edge_of es ns y q z s a in (h.0 +ℤ e.0, Climb-more es ns x y z q h.0 e.0 ps h.1 a e.1)

pub Made-negative : (es : List Edge) (ns : List Entry) (x q : ℕ) (ps : List ℕ) → IsSound es ns → Made es ns x x (ps ++ q ∷ [])
    → IsNegativeRound es (ps ++ q ∷ [])
unfolding IsSound
Made-negative es ns x q ps s h = Climb-negative es ns x h.0 (ps ++ q ∷ []) s h.1 (omega (arith, length-append ps (q ∷ [])))

pub Left-start : (es : List Edge) (ns : List Entry) (x : ℕ) → IsOnLoop es ns x → Left es ns x x 0 (length es + 1)
unfolding IsOnLoop
Left-start es ns x l = (l.sum, l.places, l.climb, l.some, (let f = l.few in omega (arith, f)))

pub Climb-goes : (es : List Edge) (ns : List Entry) (x y : ℕ) (t : ℤ) (ps : List ℕ) → Climb es ns x y t ps → 0 < length ps
    → cause_in ns x ≡ None → ⊥
Climb-goes es ns x y t [] h some a = omega arith
Climb-goes es ns x y t (p ∷ ps) h some a = let b : cause_in ns x ≡ Some (cause p h.0) = h.3 in cc

pub Left-goes : (es : List Edge) (ns : List Entry) (x y k n : ℕ) → Left es ns x y k n → cause_in ns x ≡ None → ⊥
Left-goes es ns x y k n h a = Climb-goes es ns x y h.0 h.1 h.2 h.3 a

pub Climb-moves : (es : List Edge) (ns : List Entry) (x y : ℕ) (t : ℤ) (ps : List ℕ) → Climb es ns x y t ps → x ≢ y
    → 0 < length ps
Climb-moves es ns x y t [] h ne = absurd (ne h.0)
Climb-moves es ns x y t (p ∷ ps) h ne = omega arith

pub Climb-left : (es : List Edge) (ns : List Entry) (x y z q k n : ℕ) (t : ℤ) (ps : List ℕ) → Climb es ns x y t ps → 0 < length ps
    → length ps + k ≤ n → cause_in ns x ≡ Some (cause q z) → z ≢ y → Left es ns z y (k + 1) n
Climb-left es ns x y z q k n t [] h some few a ne = absurd (omega arith)
Climb-left es ns x y z q k n t (p ∷ ps) h some few a ne =
    let same : h.0 ≡ z = same_from ns x p q h.0 z h.3 a in
    let rest : Climb es ns z y h.2 ps = subst (λ (w : ℕ). Climb es ns w y h.2 ps) same h.5 in
    (h.2, ps, rest, Climb-moves es ns z y h.2 ps rest ne, omega arith)

pub Left-more : (es : List Edge) (ns : List Entry) (x y z q k n : ℕ) → Left es ns x y k n → cause_in ns x ≡ Some (cause q z)
    → z ≢ y → Left es ns z y (k + 1) n
Left-more es ns x y z q k n h a ne = Climb-left es ns x y z q k n h.0 h.1 h.2 h.3 h.4 a ne
