-- Each number from 1 to 40 divides the whole.
use Rattle.std.proofs.Common.{◌≡◌, ℕ, zero, suc, ◌*◌, ◌/◌, ◌≤◌, Bool, true, false, ◌&&◌, nat_eq, refl, sym, subst, arith}
use Rattle.std.proofs.lemmas.Bool.{eqb-true}
use Rattle.pv_fraction.specs.Amounts.{whole}

abbrev divide_up_to : ℕ → Bool
divide_up_to zero = true
divide_up_to (suc n) = nat_eq ((whole / suc n) * suc n) whole && divide_up_to n

first_holds : (a b : Bool) → (a && b) ≡ true → a ≡ true
first_holds true b h = refl
first_holds false b h = h

second_holds : (a b : Bool) → (a && b) ≡ true → b ≡ true
second_holds true b h = h
second_holds false b h = cc

divides_at : (n b : ℕ) (same : Bool) → nat_eq b (suc n) ≡ same → nat_eq ((whole / suc n) * suc n) whole ≡ true
    → ((b ≤ n) → (whole / b) * b ≡ whole) → b ≤ suc n → (whole / b) * b ≡ whole
divides_at n b true e h k l = let same : b ≡ suc n = eqb-true b (suc n) e in
    subst (λ m. (whole / m) * m ≡ whole) (sym same) (eqb-true ((whole / suc n) * suc n) whole h)
divides_at n b false e h k l = k (grind (arith, e))

divides_below : (n b : ℕ) → divide_up_to n ≡ true → 1 ≤ b → b ≤ n → (whole / b) * b ≡ whole
divides_below zero b h p l = absurd (omega arith)
divides_below (suc n) b h p l =
    divides_at n b (nat_eq b (suc n)) refl (first_holds (nat_eq ((whole / suc n) * suc n) whole) (divide_up_to n) h)
    (divides_below n b (second_holds (nat_eq ((whole / suc n) * suc n) whole) (divide_up_to n) h) p) l

pub divides : (b : ℕ) → 1 ≤ b → b ≤ 40 → (whole / b) * b ≡ whole
divides b p l = divides_below 40 b refl p l

-- a part of so many units, again and again
pub exact_part : (part a b w : ℕ) → part * b ≡ w → (part * a) * b ≡ a * w
exact_part part a b w e = rw (sym e) (omega arith)
