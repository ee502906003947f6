-- How numbers compare.
use Rattle.std.proofs.Common.{◌≡◌, ℤ, ◌≤ℤ◌, ◌↔◌, Bool, true, false, Ordering, ap, sym, ◌∙◌, arith, rules}
use Rattle.std.specs.Prelude.{int_le}
use Rattle.std.specs.declared.cmp.Ordering.TheVariants.{Less, Equal, Greater}
use Rattle.std.specs.Ordering.{int_cmp}
use Rattle.std.specs.Cmp.{int_cmp_is}
use Rattle.std.proofs.lemmas.Int.{ints, by_lt_z}

pub greater : (a b : ℤ) → (a ≤ℤ b → ⊥) → Greater ≡ int_cmp a b
greater a b h = by_lt_z b a (λ k. int_cmp_is a b Greater k) (λ k. absurd (h k))

pub equal : (a b : ℤ) → a ≤ℤ b → b ≤ℤ a → Equal ≡ int_cmp a b
equal a b h k = int_cmp_is a b Equal (omega (arith, ints))

pub less : (a b : ℤ) → (b ≤ℤ a → ⊥) → Less ≡ int_cmp a b
less a b h = by_lt_z a b (λ k. int_cmp_is a b Less k) (λ k. absurd (h k))

-- what an order says of both ways round
at_most_in : Ordering → Bool
at_most_in Less = true
at_most_in Equal = true
at_most_in Greater = false

at_least_in : Ordering → Bool
at_least_in Less = false
at_least_in Equal = true
at_least_in Greater = true

le_true : (a b : ℤ) → a ≤ℤ b → int_le a b ≡ true
le_true a b h = search (rules, ints)

le_false : (a b : ℤ) → (a ≤ℤ b → ⊥) → int_le a b ≡ false
le_false a b h = search (rules, ints)

in_order : (a b : ℤ) → (int_le a b ≡ at_most_in (int_cmp a b)) × (int_le b a ≡ at_least_in (int_cmp a b))
unfolding at_most_in at_least_in
in_order a b = by_lt_z a b
    (λ h. let e = less a b (λ k. omega (arith, ints)) in
    (le_true a b (omega (arith, ints)) ∙ ap at_most_in e, le_false b a (λ k. omega (arith, ints)) ∙ ap at_least_in e))
    (λ h. by_lt_z b a
    (λ k. let e = greater a b (λ m. omega (arith, ints)) in
    (le_false a b (λ m. omega (arith, ints)) ∙ ap at_most_in e, le_true b a (omega (arith, ints)) ∙ ap at_least_in e))
    (λ k. let e = equal a b k h in (le_true a b k ∙ ap at_most_in e, le_true b a h ∙ ap at_least_in e)))

pub at_most_same : (a b c d : ℤ) → int_cmp a b ≡ int_cmp c d → int_le a b ≡ int_le c d
at_most_same a b c d e = (in_order a b).0 ∙ ap at_most_in e ∙ sym (in_order c d).0

pub at_least_same : (a b c d : ℤ) → int_cmp a b ≡ int_cmp c d → int_le b a ≡ int_le d c
at_least_same a b c d e = (in_order a b).1 ∙ ap at_least_in e ∙ sym (in_order c d).1

-- equal numbers compare so
pub equal_says : (a b : ℤ) (order : Ordering) → order ≡ int_cmp a b → (order ≡ Equal) ↔ (a ≡ b)
equal_says a b order e = (λ h. same (sym e ∙ h), λ h. e ∙ sym (equal a b (omega (arith, ints)) (omega (arith, ints))))
  where
    same : int_cmp a b ≡ Equal → a ≡ b
    same h = by_lt_z a b (λ k. absurd (let q : Less ≡ Equal = less a b (λ m. omega (arith, ints)) ∙ h in cc q))
        (λ k. by_lt_z b a (λ m. absurd (let q : Greater ≡ Equal = greater a b (λ n. omega (arith, ints)) ∙ h in cc q))
        (λ m. omega (arith, ints)))
