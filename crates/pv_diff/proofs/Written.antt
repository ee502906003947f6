-- Symbols in rising order, and numbers written by symbol.
use Rattle.std.proofs.Common.{◌≡◌, ◌≢◌, ℕ, zero, suc, ◌+◌, ◌<◌, ◌≤◌, ℤ, pos, ◌+ℤ◌, ◌-ℤ◌, ◌≤ℤ◌, ◌<ℤ◌, List, [], ◌∷◌, ◌++◌, length, slice_index_or, get_or, set, replicate, Option, Some, None, refl, ap, sym, subst, arith, ◌∙◌, ◌⊎◌, inl, inr, get_or-set_same, get_or-set_other}
use Rattle.std.specs.Prelude.{slice_get, Contains}
use Rattle.std.specs.List.Sorted.{IsStrictlyIncreasing}
use Rattle.std.proofs.lemmas.Int.{ints}
use Rattle.std.proofs.lemmas.List.{get_or_default}
use Rattle.std.proofs.lemmas.List.Elements.{Contains-append_left, Contains-push, Contains-push_cases, Contains-get_or}
use Rattle.std.proofs.lemmas.List.Kept.{AllPairs-from_increasing}
use Rattle.std.proofs.lemmas.Option.{slice_get-get_or, slice_get_within, get_or_from_slice_get}
use Rattle.pv_linear.specs.declared.Literal.{Literal}
use Rattle.pv_linear.specs.declared.Literal.TheVariants.{AtMost, Same, Differ}
use Rattle.pv_linear.specs.declared.Symbol.{Symbol}
use Rattle.pv_linear.specs.Values.{IsWithin}
use Rattle.pv_diff.specs.declared.table.Entry.{Entry}
use Rattle.pv_diff.specs.Slots.{AreOnlyNamed}
use Rattle.pv_diff.specs.Table.{number_in}
use Rattle.pv_diff.proofs.Loops.{same_or_other}

abbrev pub symbol : ℕ → Symbol
symbol k = record { 0 = k }

-- the symbols of the differences before i are in the list
abbrev pub NamedBelow : List Literal → List ℕ → ℕ → Type 0
NamedBelow ls s i = (p : ℕ) (x y : Symbol) (c : ℤ) → p < i → slice_get ls p ≡ Some (AtMost x y c) → Contains s x.0
    × Contains s y.0

-- the symbols and the bound of a literal, if it is a difference
abbrev pub first_of : Option Literal → ℕ
first_of None = 0
first_of (Some (AtMost x y c)) = x.0
first_of (Some (Same x y)) = 0
first_of (Some (Differ x y)) = 0

abbrev pub second_of : Option Literal → ℕ
second_of None = 0
second_of (Some (AtMost x y c)) = y.0
second_of (Some (Same x y)) = 0
second_of (Some (Differ x y)) = 0

pub NamedBelow-more : (ls : List Literal) (s : List ℕ) (i : ℕ) (d : Literal) (a b : ℕ) (m : ℤ) → i < length ls
    → slice_index_or ls i d ≡ AtMost (symbol a) (symbol b) m → NamedBelow ls s i → NamedBelow ls ((s ++ a ∷ []) ++ b ∷ []) (i + 1)
NamedBelow-more ls s i d a b m lt e h p x y c le g = elim (same_or_other p i) [
  | inl same ↦
      let here : slice_get ls i ≡ Some (AtMost (symbol a) (symbol b) m) = slice_get-get_or ls i d lt
      ∙ ap (λ (l : Literal). Some l) e in
      let there : slice_get ls i ≡ Some (AtMost x y c) = subst (λ (k : ℕ). slice_get ls k ≡ Some (AtMost x y c)) same g in
      let first : a ≡ x.0 = ap first_of (sym here ∙ there) in
      let second : b ≡ y.0 = ap second_of (sym here ∙ there) in (
        subst (Contains ((s ++ a ∷ []) ++ b ∷ [])) first (Contains-append_left (s ++ a ∷ []) (b ∷ []) a (Contains-push s a)),
        subst (Contains ((s ++ a ∷ []) ++ b ∷ [])) second (Contains-push (s ++ a ∷ []) b),
      )
  | inr other ↦
      let r = h p x y c (omega arith) g in (
        Contains-append_left (s ++ a ∷ []) (b ∷ []) x.0 (Contains-append_left s (a ∷ []) x.0 r.0),
        Contains-append_left (s ++ a ∷ []) (b ∷ []) y.0 (Contains-append_left s (a ∷ []) y.0 r.1),
      )
]

-- rising numbers rise from each place to each later one
pub rises_along : (s : List ℕ) (i j : ℕ) → IsStrictlyIncreasing s → i ≤ j → j < length s → get_or s i 0 ≤ get_or s j 0
rises_along s i j h le lt = elim (same_or_other i j) [
  | inl e ↦ let a : get_or s i 0 ≡ get_or s j 0 = ap (λ (k : ℕ). get_or s k 0) e in omega (arith, a)
  | inr ne ↦ let a = AllPairs-from_increasing s h i j 0 (omega arith) lt in omega (arith, a)
]

-- a number of the list is the one at its place
pub read_at : (s : List ℕ) (k x : ℕ) → slice_get s k ≡ Some x → get_or s k 0 ≡ x
read_at s k x h = get_or_from_slice_get s k x 0 h

pub found_at : (s : List ℕ) (k x : ℕ) → k < length s → get_or s k 0 ≡ x → slice_get s k ≡ Some x
found_at s k x lt e = slice_get-get_or s k 0 lt ∙ ap (λ (n : ℕ). Some n) e

pub order : (m n : ℕ) → (m < n) ⊎ (n ≤ m)
order m zero = inr (omega arith)
order zero (suc n) = inl (omega arith)
order (suc m) (suc n) = elim (order m n) [ inl h ↦ inl (omega arith) | inr h ↦ inr (omega arith) ]

-- a number that is in the list is at some place
pub not_missed : (s : List ℕ) (x i : ℕ) → Contains s x → ((k : ℕ) → k < i → get_or s k 0 < x)
    → ((k : ℕ) → i ≤ k → k < length s → x < get_or s k 0) → ⊥
not_missed s x i c below above = elim (order c.0 i) [
  | inl lt ↦ let a = below c.0 lt in let b = get_or_default s c.0 x 0 c.1 in let d = c.2 in omega (arith, a, b, d)
  | inr le ↦ let a = above c.0 le c.1 in let b = get_or_default s c.0 x 0 c.1 in let d = c.2 in omega (arith, a, b, d)
]

-- the numbers of the slots before i are written at their symbols, less zero
abbrev pub WrittenBelow : List ℕ → List Entry → List ℤ → ℤ → ℕ → Type 0
WrittenBelow s ns numbers least i = (slot x : ℕ) → slot < i → slice_get s slot ≡ Some x → slice_index_or numbers x (pos 0)
    ≡ (number_in ns slot -ℤ least)

pub WrittenBelow-more : (s : List ℕ) (ns : List Entry) (numbers : List ℤ) (least m : ℤ) (i : ℕ) → i < length s
    → IsStrictlyIncreasing s → get_or s i 0 < length numbers → m ≡ (number_in ns i -ℤ least) → WrittenBelow s ns numbers least i
    → WrittenBelow s ns (set numbers (get_or s i 0) m) least (i + 1)
WrittenBelow-more s ns numbers least m i lt rises fits e h slot x le g = elim (same_or_other slot i) [
  | inl same ↦
      let at : x ≡ get_or s i 0 = sym (read_at s slot x g) ∙ ap (λ (k : ℕ). get_or s k 0) same in
      let here : number_in ns slot ≡ number_in ns i = ap (number_in ns) same in
      let a : get_or (set numbers (get_or s i 0) m) x (pos 0) ≡ get_or (set numbers (get_or s i 0) m) (get_or s i 0) (pos 0) =
      ap (λ (k : ℕ). get_or (set numbers (get_or s i 0) m) k (pos 0)) at in
      let b = get_or-set_same numbers (get_or s i 0) m (pos 0) fits in
      omega (arith, ints, a, b, here, e)
  | inr other ↦
      let below = AllPairs-from_increasing s rises slot i 0 (omega arith) lt in
      let at = read_at s slot x g in
      let ne : x ≢ get_or s i 0 = (λ q. omega (arith, below, at, q)) in
      get_or-set_other numbers (get_or s i 0) x m (pos 0) ne ∙ h slot x (omega arith) g
]

-- numbers that are as near to zero as all of the table
abbrev pub AreNear : List Entry → List ℤ → Type 0
AreNear ns numbers = (n : ℕ) → ((k : ℕ) → pos 0 ≤ℤ (number_in ns k +ℤ pos n)) → (k : ℕ)
    → IsWithin n (slice_index_or numbers k (pos 0))

pub AreNear-more : (ns : List Entry) (numbers : List ℤ) (m : ℤ) (i z j : ℕ) → j < length numbers
    → ((k : ℕ) → number_in ns k ≤ℤ pos 0) → m ≡ (number_in ns i -ℤ number_in ns z) → AreNear ns numbers
    → AreNear ns (set numbers j m)
AreNear-more ns numbers m i z j fits down e h n low k = elim (same_or_other k j) [
  | inl same ↦
      let a : get_or (set numbers j m) k (pos 0) ≡ get_or (set numbers j m) j (pos 0) =
      ap (λ (q : ℕ). get_or (set numbers j m) q (pos 0)) same in
      let b = get_or-set_same numbers j m (pos 0) fits in
      let l = low i in let r = low z in let u = down i in let v = down z in
      record { low = omega (arith, ints, a, b, e, l, r, u, v); high = omega (arith, ints, a, b, e, l, r, u, v) }
  | inr other ↦ subst (IsWithin n) (sym (get_or-set_other numbers j k m (pos 0) other)) (h n low k)
]

pub AreNear-start : (ns : List Entry) (numbers : List ℤ) → ((k : ℕ) → slice_index_or numbers k (pos 0) ≡ pos 0)
    → AreNear ns numbers
AreNear-start ns numbers h n low k = subst (IsWithin n) (sym (h k))
    (record { low = omega (arith, ints); high = omega (arith, ints) })

-- each symbol has one slot
pub same_slot : (s : List ℕ) (i j x : ℕ) → IsStrictlyIncreasing s → slice_get s i ≡ Some x → slice_get s j ≡ Some x → i ≡ j
same_slot s i j x rises g h =
    let a = read_at s i x g in
    let b = read_at s j x h in
    elim (order i j) [
      | inl lt ↦ absurd (let d = AllPairs-from_increasing s rises i j 0 lt (slice_get_within s j x h) in omega (arith, a, b, d))
      | inr le ↦ elim (order j i) [
        | inl lt ↦ absurd (let d = AllPairs-from_increasing s rises j i 0 lt (slice_get_within s i x g) in omega (arith, a, b, d))
        | inr ge ↦ omega arith
      ]
    ]

pub AreOnlyNamed-start : (ls : List Literal) (s : List ℕ) → s ≡ [] → AreOnlyNamed (s ++ 0 ∷ []) ls
AreOnlyNamed-start ls s e k h = elim (Contains-push_cases s 0 k h) [
  | inl c ↦ absurd (let a = ap length e in let b = c.1 in omega (arith, a, b))
  | inr z ↦ inl (sym z)
]

pub AreOnlyNamed-more : (ls : List Literal) (s : List ℕ) (i : ℕ) (d : Literal) (a b : ℕ) (m : ℤ) → i < length ls
    → slice_index_or ls i d ≡ AtMost (symbol a) (symbol b) m → AreOnlyNamed s ls → AreOnlyNamed ((s ++ a ∷ []) ++ b ∷ []) ls
AreOnlyNamed-more ls s i d a b m lt e h k c =
    let here : slice_get ls i ≡ Some (AtMost (symbol a) (symbol b) m) = slice_get-get_or ls i d lt
    ∙ ap (λ (l : Literal). Some l) e in
    elim (Contains-push_cases (s ++ a ∷ []) b k c) [
      | inr z ↦ inr (i, symbol a, symbol b, m, here, inr z)
      | inl r ↦ elim (Contains-push_cases s a k r) [
        | inr z ↦ inr (i, symbol a, symbol b, m, here, inl z)
        | inl q ↦ h k q
      ]
    ]

-- only symbols of the list have numbers below zero
abbrev pub AreSigned : List ℕ → List ℤ → Type 0
AreSigned s numbers = (k : ℕ) → slice_index_or numbers k (pos 0) <ℤ pos 0 → Contains s k

pub AreSigned-more : (s : List ℕ) (numbers : List ℤ) (i : ℕ) (m : ℤ) → i < length s → AreSigned s numbers
    → AreSigned s (set numbers (get_or s i 0) m)
AreSigned-more s numbers i m lt h k below = elim (same_or_other k (get_or s i 0)) [
  | inl e ↦ subst (Contains s) (sym e) (Contains-get_or s i 0 lt)
  | inr ne ↦ h k (subst (λ (z : ℤ). z <ℤ pos 0) (get_or-set_other numbers (get_or s i 0) k m (pos 0) ne) below)
]

get_or-zeros : (n k : ℕ) → get_or (replicate n (pos 0)) k (pos 0) ≡ pos 0
get_or-zeros zero k = refl
get_or-zeros (suc n) zero = refl
get_or-zeros (suc n) (suc k) = get_or-zeros n k

pub AreSigned-start : (s : List ℕ) (numbers : List ℤ) (n : ℕ) → numbers ≡ replicate n (pos 0) → AreSigned s numbers
AreSigned-start s numbers n e k below = absurd
    (let a = ap (λ (q : List ℤ). slice_index_or q k (pos 0)) e ∙ get_or-zeros n k in omega (arith, ints, a, below))
