-- Bounds and slots of the edges of a list.
use Rattle.std.proofs.Common.{◌≡◌, ℕ, zero, suc, ◌+◌, ◌*◌, ◌<◌, ◌≤◌, ◌^◌, ℤ, pos, List, [], ◌∷◌, length, drop, arith, ap, subst, refl, Option, Some, slice_index_or}
use Rattle.std.specs.Prelude.{unsigned_abs, slice_get, unwrap_or}
use Rattle.pv_diff.specs.declared.table.Edge.{Edge}
use Rattle.pv_diff.specs.declared.table.Entry.{Entry}
use Rattle.pv_diff.specs.Edges.{edge, AllBelow, widest, breadth}
use Rattle.pv_diff.specs.Table.{IsMet, AreMet}

pub AllBelow-to : (n : ℕ) (es : List Edge) (i : ℕ) (d : Edge) → AllBelow n es → i < length es → (slice_index_or es i d).to < n
AllBelow-to n [] i d h lt = absurd (omega arith)
AllBelow-to n (e ∷ es) zero d h lt = h.0
AllBelow-to n (e ∷ es) (suc i) d h lt = AllBelow-to n es i d h.2 (omega arith)

pub AllBelow-from : (n : ℕ) (es : List Edge) (i : ℕ) (d : Edge) → AllBelow n es → i < length es → (slice_index_or es i d).from < n
AllBelow-from n [] i d h lt = absurd (omega arith)
AllBelow-from n (e ∷ es) zero d h lt = h.1
AllBelow-from n (e ∷ es) (suc i) d h lt = AllBelow-from n es i d h.2 (omega arith)

pub widest-at : (n : ℕ) (es : List Edge) (i : ℕ) (d : Edge) → widest es ≤ n → i < length es
    → unsigned_abs (slice_index_or es i d).bound ≤ n
widest-at n [] i d h lt = absurd (omega arith)
widest-at n (e ∷ es) zero d h lt = omega arith
widest-at n (e ∷ es) (suc i) d h lt = widest-at n es i d (omega arith) (omega arith)

pub breadth-most : (es : List Edge) → widest es ≤ 2 ^ 100 → breadth es ≤ length es * 2 ^ 100
breadth-most [] h = omega arith
breadth-most (e ∷ es) h = let rest = breadth-most es (omega arith) in omega (arith, rest)

pub AllBelow-get : (n : ℕ) (es : List Edge) (q x z : ℕ) (c : ℤ) → AllBelow n es → slice_get es q ≡ Some (edge x z c) → z < n
AllBelow-get n [] q x z c h e = cc
AllBelow-get n (f ∷ es) zero x z c h e = subst (λ (k : ℕ). k < n)
    (ap (λ (o : Option Edge). (unwrap_or o (edge 0 0 (pos 0))).from) e) h.1
AllBelow-get n (f ∷ es) (suc q) x z c h e = AllBelow-get n es q x z c h.2 e

pub breadth-drop : (es : List Edge) (i : ℕ) (d : Edge) → i < length es → breadth (drop i es)
    ≡ unsigned_abs (slice_index_or es i d).bound + breadth (drop (suc i) es)
breadth-drop [] i d h = absurd (omega arith)
breadth-drop (e ∷ es) zero d h = refl
breadth-drop (e ∷ es) (suc i) d h = breadth-drop es i d (omega arith)

pub breadth-past : (es : List Edge) (i : ℕ) → length es ≤ i → breadth (drop i es) ≡ 0
breadth-past [] zero h = refl
breadth-past [] (suc i) h = refl
breadth-past (e ∷ es) zero h = absurd (omega arith)
breadth-past (e ∷ es) (suc i) h = breadth-past es i (omega arith)

pub AreMet-each : (ns : List Entry) (es : List Edge) (d : Edge) → ((k : ℕ) → k < length es → IsMet ns (slice_index_or es k d))
    → AreMet ns es
AreMet-each ns [] d h = tt
AreMet-each ns (e ∷ es) d h = (h 0 (omega arith), AreMet-each ns es d (λ k lt. h (suc k) (omega (arith, lt))))
