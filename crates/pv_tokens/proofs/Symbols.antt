-- The first symbol of the table that the bytes begin with is the longest one.
use Rattle.std.proofs.Common.{◌≡◌, true≢false, ℕ, zero, suc, ◌<◌, ◌≤◌, Bool, true, false, not, cond, ◌&&◌, ltb, leb, List, [], ◌∷◌, length, take, get_or, Option, Some, None, refl, sym, ap, ◌∙◌, inl, inr, arith, position, slice_get, nat_eq}
use Rattle.std.specs.List.{list_all, position_or_len}
use Rattle.std.proofs.lemmas.List.Sums.{fails_before_first}
use Rattle.std.specs.Cmp.Lexicographic.{pointwise, bytes_decides}
use Rattle.std.proofs.lemmas.Bool.{cases_Bool, leb-true, ltb-false, cases_lt}
use Rattle.std.proofs.lemmas.Option.{get_or_from_slice_get, slice_get-get_or, slice_get_within}
use Rattle.std.proofs.lemmas.List.Folds.{list_all_at}
use Rattle.std.proofs.lemmas.List.Quantifiers.{position-Some}
use Rattle.pv_tokens.specs.Words.{symbols}
use Rattle.pv_tokens.specs.Pieces.{starts, IsLongest}

pub all_at : (p : List ℕ → Bool) (xs : List (List ℕ)) (k : ℕ) → list_all p xs ≡ true → k < length xs → p (get_or xs k []) ≡ true
all_at p xs k h lt =
    elim (cases_Bool (p (get_or xs k []))) [ inl e ↦ e | inr e ↦ let f = list_all_at p xs k [] lt e in absurd cc ]

first_so : (a b : Bool) → (a && b) ≡ true → a ≡ true
first_so true b h = refl
first_so false b h = absurd cc

second_so : (a b : Bool) → (a && b) ≡ true → b ≡ true
second_so true b h = h
second_so false b h = absurd cc

-- each text of the table passes the test with each one behind it
abbrev pairs_pass : (List ℕ → List ℕ → Bool) → List (List ℕ) → Bool
pairs_pass r [] = true
pairs_pass r (s ∷ rest) = list_all (r s) rest && pairs_pass r rest

pair_at : (r : List ℕ → List ℕ → Bool) (xs : List (List ℕ)) (i j : ℕ) → pairs_pass r xs ≡ true → i < j → j < length xs
    → r (get_or xs i []) (get_or xs j []) ≡ true
pair_at r [] i j h lt within = absurd (omega arith)
pair_at r (s ∷ rest) i zero h lt within = absurd (omega arith)
pair_at r (s ∷ rest) zero (suc j) h lt within =
    all_at (r s) rest j (first_so (list_all (r s) rest) (pairs_pass r rest) h) (omega arith)
pair_at r (s ∷ rest) (suc i) (suc j) h lt within =
    pair_at r rest i j (second_so (list_all (r s) rest) (pairs_pass r rest) h) (omega arith) (omega arith)

abbrev no_shorter : List ℕ → List ℕ → Bool
no_shorter s t = leb (length t) (length s)

abbrev differs : List ℕ → List ℕ → Bool
differs s t = not (pointwise nat_eq s t)

longer_first : (i j : ℕ) → i < j → j < length symbols → length (get_or symbols j []) ≤ length (get_or symbols i [])
longer_first i j lt within = leb-true _ _ (pair_at no_shorter symbols i j refl lt within)

not_same : (s t : List ℕ) → differs s t ≡ true → s ≡ t → ⊥
not_same s t d e = let same = (bytes_decides s t).1 e in absurd cc

distinct : (i j : ℕ) → i < j → j < length symbols → get_or symbols i [] ≡ get_or symbols j [] → ⊥
distinct i j lt within = not_same _ _ (pair_at differs symbols i j refl lt within)

-- two texts of one length at the front of the same bytes are one text
same_front : (bytes s t : List ℕ) → starts bytes s ≡ true → starts bytes t ≡ true → length s ≡ length t → s ≡ t
same_front bytes s t h k e =
    (bytes_decides s (take (length s) bytes)).0 h ∙ ap (λ (n : ℕ). take n bytes) e
    ∙ sym ((bytes_decides t (take (length t) bytes)).0 k)

pub first_is_longest : (bytes : List ℕ) (k : ℕ) → position (λ s. starts bytes s) symbols ≡ Some k
    → IsLongest bytes k (get_or symbols k [])
first_is_longest bytes k e = record { at = slice_get-get_or symbols k [] p.0; starts_with_it = p.1; no_longer = longest }
  where
    p : (k < length symbols) × (starts bytes (get_or symbols k []) ≡ true)
        × ((j : ℕ) → j < k → starts bytes (get_or symbols j []) ≡ false)
    p = position-Some (λ s. starts bytes s) symbols k [] e

    longest : (j : ℕ) (other : List ℕ) → slice_get symbols j ≡ Some other → starts bytes other ≡ true
        → length other ≤ length (get_or symbols k [])
    longest j other g h =
        let is : get_or symbols j [] ≡ other = get_or_from_slice_get symbols j other [] g in
        let len : length (get_or symbols j []) ≡ length other = ap (λ (t : List ℕ). length t) is in
        elim (cases_lt k j) [
          | inl lt ↦ omega (arith, longer_first k j lt (slice_get_within symbols j other g))
          | inr le ↦ elim (cases_lt j k) [
            | inl lt ↦ let f : starts bytes (get_or symbols j []) ≡ false =
                p.2 j lt in let t : starts bytes (get_or symbols j []) ≡ true = ap (λ (t : List ℕ). starts bytes t) is ∙ h in
                absurd (true≢false (sym t ∙ f))
            | inr ge ↦ let same : j ≡ k =
                omega arith in let q : length (get_or symbols j []) ≡ length (get_or symbols k []) =
                ap (λ (n : ℕ). length (get_or symbols n [])) same in omega arith
          ]
        ]

nowhere : (b : Bool) (n : ℕ) → cond b (Some n) None ≡ None → b ≡ false
nowhere true n e = absurd cc
nowhere false n e = refl

none_passes : (p : List ℕ → Bool) (xs : List (List ℕ)) (k : ℕ) → position p xs ≡ None → k < length xs → p (get_or xs k []) ≡ false
none_passes p xs k e lt =
    let past : length xs ≤ position_or_len p xs =
    ltb-false (position_or_len p xs) (length xs)
    (nowhere (ltb (position_or_len p xs) (length xs)) (position_or_len p xs) e) in
    fails_before_first p xs k [] (omega arith)

pub longest_is_first : (bytes : List ℕ) (k : ℕ) (text : List ℕ) → IsLongest bytes k text
    → position (λ s. starts bytes s) symbols ≡ Some k
longest_is_first bytes k text h = by (position (λ s. starts bytes s) symbols) refl
  where
    within : k < length symbols
    within = slice_get_within symbols k text h.at

    is : get_or symbols k [] ≡ text
    is = get_or_from_slice_get symbols k text [] h.at

    here : starts bytes (get_or symbols k []) ≡ true
    here = ap (λ (t : List ℕ). starts bytes t) is ∙ h.starts_with_it

    one : (i : ℕ) → position (λ s. starts bytes s) symbols ≡ Some i → i ≡ k
    one i e =
        let f = first_is_longest bytes i e in
        let p = position-Some (λ s. starts bytes s) symbols i [] e in
        let len : length (get_or symbols k []) ≡ length text = ap (λ (t : List ℕ). length t) is in
        let no_longer : length (get_or symbols i []) ≤ length text = h.no_longer i (get_or symbols i []) f.at f.starts_with_it in
        elim (cases_lt i k) [
          | inl lt ↦
              let le = longer_first i k lt within in
              absurd (distinct i k lt within (same_front bytes (get_or symbols i []) (get_or symbols k []) f.starts_with_it here
              (omega arith)))
          | inr le ↦ elim (cases_lt k i) [
            | inl lt ↦ let no : starts bytes (get_or symbols k []) ≡ false = p.2 k lt in absurd (true≢false (sym here ∙ no))
            | inr ge ↦ omega arith
          ]
        ]

    by : (o : Option ℕ) → position (λ s. starts bytes s) symbols ≡ o → o ≡ Some k
    by None e = let no = none_passes (λ s. starts bytes s) symbols k e within in absurd (true≢false (sym here ∙ no))
    by (Some i) e = ap (λ (n : ℕ). Some n) (one i e)
