-- What a lazy run remembers is what its maps and its table give.
use Rattle.std.proofs.Common.{◌≡◌, ℕ, ℤ, Bool, true, false, ◌&&◌, ◌||◌, if◌then◌else◌, Some, List, [], ◌∷◌, ◌++◌, refl, ap, sym, subst, ◌∙◌, ◌⊎◌, inl, inr, rules}
use Rattle.std.specs.Prelude.{nat_eq, int_le}
use Rattle.std.proofs.lemmas.Int.{ints}
use Rattle.pv_values.specs.Heaps.{same_number}
use Rattle.pv_picks.specs.declared.evidence.Entry.{Entry}
use Rattle.pv_picks.specs.Plain.Core.{Operation, Plus, Minus, Times}
use Rattle.pv_picks.specs.Judge.Runs.{Maps, taken_from, value_of_operation}
use Rattle.pv_picks.specs.Lazy.Patterns.{Use, same_operation, same_use}
use Rattle.pv_picks.specs.Lazy.Runs.{UsedFor, ReadAs, value_read, value_used, commutes, is_same_use}
use Rattle.judge_laws.specs.Drawing.{FitReads, FitsUses}
use Rattle.pv_picks.proofs.Sames.{front, back, numbers_same, naturals_same}

some_same : (x y : ℤ) → Some x ≡ Some y → x ≡ y
some_same x y h = cc h

pub read_right : (maps : Maps) (rs : List ReadAs) (n : ℕ) (i z : ℤ) → FitReads maps rs → value_read rs n i ≡ Some z → maps n i ≡ z
read_right maps [] n i z f h = cc h
read_right maps (r ∷ rs) n i z f h = go (nat_eq r.number n && same_number r.index i) (read_right maps rs n i z f.1) refl h
  where
    go : (b : Bool) → (value_read rs n i ≡ Some z → maps n i ≡ z) → (nat_eq r.number n && same_number r.index i) ≡ b
        → (if b then Some r.value else value_read rs n i) ≡ Some z → maps n i ≡ z
    go true w e k =
        let a : r.number ≡ n = naturals_same r.number n (front _ _ e) in
        let c : r.index ≡ i = numbers_same r.index i (back (nat_eq r.number n) _ e) in
        subst (λ (m : ℕ). maps m i ≡ z) a (subst (λ (j : ℤ). maps r.number j ≡ z) c (f.0 ∙ some_same _ _ k))
    go false w e k = w k

operations_same : (o p : Operation) → same_operation o p ≡ true → o ≡ p
operations_same Plus Plus h = refl
operations_same Minus Minus h = refl
operations_same Times Times h = refl
operations_same o p h = absurd (cc h)

both_ways : (x y : Bool) (u w : ℤ) → (x ≡ true → y ≡ true → u ≡ w) → (x ≡ false → y ≡ false → u ≡ w) → (if x then u else w)
    ≡ (if y then w else u)
both_ways true true u w h k = h refl refl
both_ways true false u w h k = refl
both_ways false true u w h k = refl
both_ways false false u w h k = sym (k refl refl)

le_both : (a b : ℤ) → int_le a b ≡ true → int_le b a ≡ true → a ≡ b
le_both a b h k = search (rules, ints)

le_one : (a b : ℤ) → int_le a b ≡ false → int_le b a ≡ false → a ≡ b
le_one a b h k = absurd (search (rules, ints))

pub commuted : (table : List Entry) (o : Operation) (a b : ℤ) → commutes o ≡ true → value_of_operation table o a b
    ≡ value_of_operation table o b a
commuted table Plus a b h = both_ways (int_le a b) (int_le b a) _ _
    (λ x y. subst (λ (c : ℤ). taken_from table Plus a c ≡ taken_from table Plus c a) (le_both a b x y) refl)
    (λ x y. subst (λ (c : ℤ). taken_from table Plus a c ≡ taken_from table Plus c a) (le_one a b x y) refl)
commuted table Times a b h = both_ways (int_le a b) (int_le b a) _ _
    (λ x y. subst (λ (c : ℤ). taken_from table Times a c ≡ taken_from table Times c a) (le_both a b x y) refl)
    (λ x y. subst (λ (c : ℤ). taken_from table Times a c ≡ taken_from table Times c a) (le_one a b x y) refl)
commuted table Minus a b h = absurd (cc h)

abbrev value_at : List Entry → Use → ℤ
value_at table u = value_of_operation table u.0 u.1 u.2

use_same : (table : List Entry) (u v : Use) → same_use u v ≡ true → value_at table u ≡ value_at table v
use_same table u v h =
    let a = operations_same u.0 v.0 (front _ _ h) in
    let r = back (same_operation u.0 v.0) _ h in
    let b = numbers_same u.1 v.1 (front _ _ r) in
    let c = numbers_same u.2 v.2 (back (same_number u.1 v.1) _ r) in
    ap (λ (o : Operation). value_of_operation table o u.1 u.2) a ∙ ap (λ (x : ℤ). value_of_operation table v.0 x u.2) b
    ∙ ap (λ (x : ℤ). value_of_operation table v.0 v.1 x) c

either_true : (x y : Bool) → (x || y) ≡ true → (x ≡ true) ⊎ (y ≡ true)
either_true true y h = inl refl
either_true false y h = inr h

alike : (table : List Entry) (u v : Use) → is_same_use u v ≡ true → value_at table u ≡ value_at table v
alike table u v h = elim (either_true (same_use u v) (commutes u.0 && same_use u (v.0, v.2, v.1)) h) [
  | inl k ↦ use_same table u v k
  | inr k ↦ (let s = back (commutes u.0) _ k in
      let o : u.0 ≡ v.0 = operations_same u.0 v.0 (front _ _ s) in
      use_same table u (v.0, v.2, v.1) s ∙ commuted table v.0 v.2 v.1 (subst (λ (x : Operation). commutes x ≡ true) o
      (front _ _ k)))
]

pub used_right : (table : List Entry) (us : List UsedFor) (u : Use) (z : ℤ) → FitsUses table us → value_used us u ≡ Some z
    → value_at table u ≡ z
used_right table [] u z f h = cc h
used_right table (x ∷ xs) u z f h = go (is_same_use u x.used) (used_right table xs u z f.1) refl h
  where
    go : (b : Bool) → (value_used xs u ≡ Some z → value_at table u ≡ z) → is_same_use u x.used ≡ b
        → (if b then Some x.value else value_used xs u) ≡ Some z → value_at table u ≡ z
    go true w e k = alike table u x.used e ∙ f.0 ∙ some_same _ _ k
    go false w e k = w k

pub fits_more : (table : List Entry) (us : List UsedFor) (u : UsedFor) → FitsUses table us → value_at table u.used ≡ u.value
    → FitsUses table (us ++ u ∷ [])
fits_more table [] u h k = (k, tt)
fits_more table (x ∷ xs) u h k = (h.0, fits_more table xs u h.1 k)
