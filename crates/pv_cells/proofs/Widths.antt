-- Tests at the positions of a range, one after the other.
use Rattle.std.proofs.Common.{◌≡◌, suc, ℤ, pos, negsuc, ◌+ℤ◌, ◌-ℤ◌, ◌≤ℤ◌, ◌<ℤ◌, Bool, true, false, ◌&&◌, refl, sym, ap, ◌∙◌, arith, rules, subst}
use Rattle.std.specs.Prelude.{int_lt}
use Rattle.std.proofs.lemmas.Int.{ints}
use Rattle.pv_picks.specs.Formulas.Values.{width, or_zero}
use Rattle.pv_picks.specs.Judge.Permissions.{at_all}
use Rattle.pv_cells.proofs.Among.{both_parts}

one_above : (d e : ℤ) → d ≡ e +ℤ pos 1 → pos 0 ≤ℤ e → or_zero d ≡ suc (or_zero e)
one_above d (pos n) is l = rw is (omega arith)
one_above d (negsuc n) is l = absurd (omega (arith, l))

wider : (low high : ℤ) → low <ℤ high → width low high ≡ suc (width (low +ℤ pos 1) high)
wider low high l =
    let step : high -ℤ low ≡ (high -ℤ (low +ℤ pos 1)) +ℤ pos 1 = omega (arith, ints) in
    let room : pos 0 ≤ℤ (high -ℤ (low +ℤ pos 1)) = omega (arith, ints, l) in
    one_above (high -ℤ low) (high -ℤ (low +ℤ pos 1)) step room

nothing : (d : ℤ) → d ≤ℤ pos 0 → or_zero d ≡ 0
nothing (pos n) l = grind arith
nothing (negsuc n) l = refl

no_width : (low high : ℤ) → high ≤ℤ low → width low high ≡ 0
no_width low high l = nothing (high -ℤ low) (omega (arith, ints, l))

pub one_more : (test : ℤ → Bool) (low high : ℤ) → low <ℤ high
    → at_all test low (width low high) ≡ (test low && at_all test (low +ℤ pos 1) (width (low +ℤ pos 1) high))
one_more test low high l = ap (at_all test low) (wider low high l)

pub none_left : (test : ℤ → Bool) (low high : ℤ) → high ≤ℤ low → at_all test low (width low high) ≡ true
none_left test low high l = ap (at_all test low) (no_width low high l)

-- the first position decides
pub one_fails : (test : ℤ → Bool) (low high : ℤ) → low <ℤ high → test low ≡ false → at_all test low (width low high) ≡ false
one_fails test low high l e = one_more test low high l ∙ ap (λ b. b && at_all test (low +ℤ pos 1) (width (low +ℤ pos 1) high)) e

pub one_passes : (test : ℤ → Bool) (low high : ℤ) → low <ℤ high → test low ≡ true
    → at_all test (low +ℤ pos 1) (width (low +ℤ pos 1) high) ≡ at_all test low (width low high)
one_passes test low high l e =
    sym (one_more test low high l ∙ ap (λ b. b && at_all test (low +ℤ pos 1) (width (low +ℤ pos 1) high)) e)

-- where a position fails, they don't all pass
pub fails_in : (test : ℤ → Bool) (low high first last i : ℤ) → first ≡ low → last ≡ high → int_lt i last ≡ true → test i ≡ false
    → at_all test i (width i last) ≡ at_all test first (width first last) → false ≡ at_all test low (width low high)
fails_in test low high first last i e f below fails same =
    let l : i <ℤ last = search rules in
    let P : ℤ → Type 0 = λ z. false ≡ at_all test z (width z high) in
    let Q : ℤ → Type 0 = λ z. false ≡ at_all test first (width first z) in
    subst P e (subst Q f (sym (sym same ∙ one_fails test i last l fails)))

-- where one passes, the rest decides
pub passes_in : (test : ℤ → Bool) (first last i next : ℤ) → next ≡ (i +ℤ pos 1) → int_lt i last ≡ true → test i ≡ true
    → at_all test i (width i last) ≡ at_all test first (width first last)
    → at_all test next (width next last) ≡ at_all test first (width first last)
passes_in test first last i next e below passes same =
    let l : i <ℤ last = search rules in
    ap (λ z. at_all test z (width z last)) e ∙ one_passes test i last l passes ∙ same

-- where all pass, the first does, and the others
pub first_and_rest : (test : ℤ → Bool) (low high : ℤ) → int_lt low high ≡ true → at_all test low (width low high) ≡ true
    → (test low ≡ true) × (at_all test (low +ℤ pos 1) (width (low +ℤ pos 1) high) ≡ true)
first_and_rest test low high below all =
    let l : low <ℤ high = search rules in
    both_parts (test low) (at_all test (low +ℤ pos 1) (width (low +ℤ pos 1) high)) (sym (one_more test low high l) ∙ all)
