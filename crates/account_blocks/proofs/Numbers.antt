-- Sums over the members of a block, by number and by position.
use Rattle.std.proofs.Common.{◌≡◌, ℕ, zero, suc, ◌+◌, ◌≤◌, ◌<◌, ℤ, pos, Bool, true, false, if◌then◌else◌, refl, ap, sym, subst, ◌∙◌, arith}
use Rattle.std.specs.Prelude.{negsuc, nat_eq, nat_le, nat_lt, int_le, int_lt, ◌+ℤ◌, ◌-ℤ◌}
use Rattle.std.proofs.lemmas.Int.{ints}
use Rattle.pv_picks.specs.Formulas.Heaps.{at_number}
use Rattle.pv_picks.specs.Formulas.Meeting.{sum_of_each}
use Rattle.pv_picks.specs.Formulas.Values.{within, width, or_zero}
use Rattle.pv_picks.specs.Machine.Worlds.{OpenBlock, each_from, is_member, member_count}
use Rattle.pv_picks.proofs.Sames.{front, back, naturals_same}
use Rattle.account_formulas.proofs.Basics.{nat_self, at_most, is_at_most, both}
use Rattle.account.proofs.Numbers.{is_below, below_of}
use Rattle.account.specs.Owners.{sum_below}
use Rattle.account.proofs.Sums.{sum_changed, sum_less, at_same, at_other}

-- the sum from a number on, over so many
abbrev pub sum_up : (ℕ → ℕ) → ℕ → ℕ → ℕ
sum_up f m zero = 0
sum_up f m (suc n) = f m + sum_up f (suc m) n

sum_by_number : (f : ℕ → ℕ) (low : ℤ) (n m : ℕ)
    → sum_of_each (λ z. f (or_zero (z -ℤ low))) (low +ℤ pos m) n ≡ sum_up f m n
sum_by_number f low zero m = refl
sum_by_number f low (suc n) m =
    let here : or_zero (low +ℤ pos m -ℤ low) ≡ m = ap or_zero (number_of low m) in
    let one = ap f here in
    let next : low +ℤ pos m +ℤ pos 1 ≡ low +ℤ pos (suc m) = omega (arith, ints) in
    let rest = ap (λ z. sum_of_each (λ z. f (or_zero (z -ℤ low))) z n) next ∙ sum_by_number f low n (suc m) in
    omega (arith, one, rest)
  where
    number_of : (low : ℤ) (m : ℕ) → low +ℤ pos m -ℤ low ≡ pos m
    number_of low m = omega (arith, ints)

shift_up : (f : ℕ → ℕ) (first n m : ℕ) → sum_up (λ k. f (first + k)) m n ≡ sum_up f (first + m) n
shift_up f first zero m = refl
shift_up f first (suc n) m =
    let rest = shift_up f first n (suc m) in
    let next : first + suc m ≡ suc (first + m) = omega arith in
    let same = ap (λ z. sum_up f z n) next in omega (arith, rest, same)

-- what stands at the positions of a range stands at as many numbers
pub shares_up : (f : ℕ → ℕ) (low : ℤ) (first n : ℕ) → sum_of_each (λ z. f (first + or_zero (z -ℤ low))) low n ≡ sum_up f first n
shares_up f low first n =
    ap (λ z. sum_of_each (λ z. f (first + or_zero (z -ℤ low))) z n) (start low)
    ∙ sum_by_number (λ k. f (first + k)) low n 0 ∙ shift_up f first n 0 ∙ ap (λ m. sum_up f m n) (nothing_more first)
  where
    start : (z : ℤ) → z ≡ z +ℤ pos 0
    start z = omega (arith, ints)

    nothing_more : (m : ℕ) → m + 0 ≡ m
    nothing_more m = omega arith

pub none_up : (f : ℕ → ℕ) (n first : ℕ) → ((j : ℕ) → first ≤ j → j < first + n → f j ≡ 0) → sum_up f first n ≡ 0
none_up f zero first none = refl
none_up f (suc n) first none =
    let a = none first (omega arith) (omega arith) in
    let b = none_up f n (suc first) (λ j l m. none j (omega (arith, l)) (omega (arith, m))) in omega (arith, a, b)

-- where some parts of a sum give something up
pub given_up : (c n first : ℕ) (f g d : ℕ → ℕ) → first + n ≤ c → ((j : ℕ) → g j ≤ f j)
    → ((j : ℕ) → first ≤ j → j < first + n → g j + d j ≤ f j) → sum_below g c + sum_up d first n ≤ sum_below f c
given_up c zero first f g d inside less gives = let s = sum_less g f c less in omega (arith, s)
given_up c (suc n) first f g d inside less gives =
    let more = given_up c n (suc first) f (at_number first (f first) g) d (omega (arith, inside))
    (λ j. less_at j (nat_eq j first) refl) (λ j a b. gives_at j (nat_eq j first) refl a b) in
    let one = sum_changed g (at_number first (f first) g) c first (omega (arith, inside))
    (λ j e. at_other first j (f first) g e) in
    let here = at_same first (f first) g in
    let it = gives first (omega arith) (omega arith) in
    omega (arith, more, one, here, it)
  where
    less_at : (j : ℕ) (x : Bool) → nat_eq j first ≡ x → (if x then f first else g j) ≤ f j
    less_at j true e = let same = ap f (naturals_same j first e) in omega (arith, same)
    less_at j false e = less j

    gives_at : (j : ℕ) (x : Bool) → nat_eq j first ≡ x → suc first ≤ j → j < suc first + n
        → (if x then f first else g j) + d j ≤ f j
    gives_at j true e a b = let same = naturals_same j first e in absurd (omega (arith, same, a))
    gives_at j false e a b = gives j (omega (arith, a)) (omega (arith, b))

-- who is a member has a number
pub is_member_at : (block : OpenBlock) (j : ℕ) → block.first ≤ j → j < block.first + member_count block → is_member block j ≡ true
is_member_at block j a b = both (nat_le block.first j) (nat_lt j (block.first + member_count block))
    (is_at_most block.first j a) (is_below j (block.first + member_count block) b)

pub number_of_member : (block : OpenBlock) (j : ℕ) → is_member block j ≡ true
    → (n : ℕ) × (n < member_count block) × (block.first + n ≡ j)
number_of_member block j h =
    by j (at_most block.first j (front (nat_le block.first j) (nat_lt j (block.first + member_count block)) h))
    (below_of j (block.first + member_count block)
    (back (nat_le block.first j) (nat_lt j (block.first + member_count block)) h))
  where
    by : (j : ℕ) → block.first ≤ j → j < block.first + member_count block
        → (n : ℕ) × (n < member_count block) × (block.first + n ≡ j)
    by j a b = let k = difference block.first j a in (k.0, let e = k.1 in omega (arith, b, e), k.1)
      where
        difference : (m j : ℕ) → m ≤ j → (n : ℕ) × (m + n ≡ j)
        difference zero j l = (j, omega arith)
        difference (suc m) zero l = absurd (omega (arith, l))
        difference (suc m) (suc j) l =
            let k = difference m j (omega (arith, l)) in (k.0, let e = k.1 in omega (arith, e))

-- a test of all from a number on
pub each_one : (test : ℕ → Bool) (n first k : ℕ) → each_from test first n ≡ true → k < n → test (first + k) ≡ true
each_one test zero first k all less = absurd (omega (arith, less))
each_one test (suc n) first zero all less = ap test (none first) ∙ front (test first) (each_from test (suc first) n) all
  where
    none : (m : ℕ) → m + 0 ≡ m
    none m = omega arith
each_one test (suc n) first (suc k) all less =
    ap test (next first k)
    ∙ each_one test n (suc first) k (back (test first) (each_from test (suc first) n) all) (omega (arith, less))
  where
    next : (m k : ℕ) → m + suc k ≡ suc m + k
    next m k = omega arith

-- the number of a position
pub position_number : (low high z : ℤ) → within low high z ≡ true
    → (or_zero (z -ℤ low) < width low high) × (low +ℤ pos (or_zero (z -ℤ low)) ≡ z)
position_number low high z w = go (z -ℤ low) refl (high -ℤ low) refl
  where
    go : (d : ℤ) → z -ℤ low ≡ d → (e : ℤ) → high -ℤ low ≡ e → (or_zero d < or_zero e) × (low +ℤ pos (or_zero d) ≡ z)
    go (pos n) a (pos m) b =
        let u = front (int_le low z) (int_lt z high) w in
        let v = back (int_le low z) (int_lt z high) w in (omega (arith, ints), omega (arith, ints))
    go (negsuc n) a e b = let u = front (int_le low z) (int_lt z high) w in absurd (omega (arith, ints))
    go (pos n) a (negsuc m) b =
        let u = front (int_le low z) (int_lt z high) w in
        let v = back (int_le low z) (int_lt z high) w in absurd (omega (arith, ints))

-- the number of a member
abbrev pub number_from : ℕ → ℕ → ℕ
number_from first j = or_zero (pos j -ℤ pos first)

pub its_number : (first k j : ℕ) → first + k ≡ j → number_from first j ≡ k
its_number first k j e = ap or_zero (difference first k j e)
  where
    difference : (first k j : ℕ) → first + k ≡ j → pos j -ℤ pos first ≡ pos k
    difference first k j e = omega (arith, ints, e)

-- what stands at positions, by the numbers of members
pub parts_up : (f : ℤ → ℕ) (low : ℤ) (first n m : ℕ)
    → sum_of_each f (low +ℤ pos m) n ≡ sum_up (λ j. f (low +ℤ pos (number_from first j))) (first + m) n
parts_up f low first zero m = refl
parts_up f low first (suc n) m =
    let one = ap (λ k. f (low +ℤ pos k)) (its_number first m (first + m) refl) in
    let next : low +ℤ pos m +ℤ pos 1 ≡ low +ℤ pos (suc m) = omega (arith, ints) in
    let same : first + suc m ≡ suc (first + m) = omega arith in
    let rest = ap (λ z. sum_of_each f z n) next ∙ parts_up f low first n (suc m)
    ∙ ap (λ z. sum_up (λ j. f (low +ℤ pos (number_from first j))) z n) same in
    omega (arith, one, rest)

pub parts_of_members : (f : ℤ → ℕ) (low : ℤ) (first n : ℕ)
    → sum_of_each f low n ≡ sum_up (λ j. f (low +ℤ pos (number_from first j))) first n
parts_of_members f low first n =
    ap (λ z. sum_of_each f z n) (start low) ∙ parts_up f low first n 0
    ∙ ap (λ z. sum_up (λ j. f (low +ℤ pos (number_from first j))) z n) (nothing_more first)
  where
    start : (z : ℤ) → z ≡ z +ℤ pos 0
    start z = omega (arith, ints)

    nothing_more : (m : ℕ) → m + 0 ≡ m
    nothing_more m = omega arith

-- where some parts of a sum take something
pub taken_up : (c n first : ℕ) (f g d : ℕ → ℕ) → first + n ≤ c
    → ((j : ℕ) → (first ≤ j → j < first + n → ⊥) → g j ≤ f j)
    → ((j : ℕ) → first ≤ j → j < first + n → g j ≤ f j + d j) → sum_below g c ≤ sum_below f c + sum_up d first n
taken_up c zero first f g d inside others takes =
    let s = sum_less g f c (λ j. others j (λ l m. omega (arith, l, m))) in omega (arith, s)
taken_up c (suc n) first f g d inside others takes =
    let more = taken_up c n (suc first) f (at_number first (f first) g) d (omega (arith, inside))
    (λ j no_member. others_at j (nat_eq j first) refl no_member) (λ j a b. takes_at j (nat_eq j first) refl a b) in
    let one = sum_changed g (at_number first (f first) g) c first (omega (arith, inside))
    (λ j e. at_other first j (f first) g e) in
    let here = at_same first (f first) g in
    let it = takes first (omega arith) (omega arith) in
    omega (arith, more, one, here, it)
  where
    apart : (j : ℕ) → nat_eq j first ≡ false → first ≤ j → suc first ≤ j
    apart j e l = by different
      where
        different : j ≡ first → ⊥
        different same = let self = subst (λ z. nat_eq z first ≡ true) (sym same) (nat_self first) in absurd (cc (self, e))

        by : (j ≡ first → ⊥) → suc first ≤ j
        by k = omega (arith, l, k)

    others_at : (j : ℕ) (x : Bool) → nat_eq j first ≡ x → (suc first ≤ j → j < suc first + n → ⊥)
        → (if x then f first else g j) ≤ f j
    others_at j true e no_member = let same = ap f (naturals_same j first e) in omega (arith, same)
    others_at j false e no_member = others j (λ l m. no_member (apart j e l) (omega (arith, m)))

    takes_at : (j : ℕ) (x : Bool) → nat_eq j first ≡ x → suc first ≤ j → j < suc first + n
        → (if x then f first else g j) ≤ f j + d j
    takes_at j true e a b = let same = naturals_same j first e in absurd (omega (arith, same, a))
    takes_at j false e a b = takes j (omega (arith, a)) (omega (arith, b))
