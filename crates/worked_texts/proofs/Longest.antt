-- That no longer symbol stands at the front of bytes, by a test of all symbols.
use Rattle.std.proofs.Common.{◌≡◌, ℕ, zero, suc, ◌≤◌, Bool, true, false, ◌&&◌, List, [], ◌∷◌, Some, length, refl, ap, ◌∙◌, subst, rules}
use Rattle.std.specs.Prelude.{◌-◌, nat_le, nat_eq, not, ◌||◌, slice_get}
use Rattle.pv_names.specs.Numbering.{most_names}
use Rattle.pv_tokens.specs.declared.fixed.TheConstants.{IMPLIES}
use Rattle.pv_tokens.specs.Bytes.{most}
use Rattle.pv_tokens.specs.Progress.{IsFull}
use Rattle.pv_tokens.specs.Pieces.{starts, IsLongest}
use Rattle.pv_tokens.specs.Words.{symbols}

-- the place of a symbol in the table, by its number
abbrev pub sign : ℕ → ℕ
sign number = number - IMPLIES

abbrev pub is_short : List ℕ → ℕ → List ℕ → Bool
is_short bytes n text = not (starts bytes text) || nat_le (length text) n

abbrev pub are_short : List ℕ → ℕ → List (List ℕ) → Bool
are_short bytes n [] = true
are_short bytes n (t ∷ ts) = is_short bytes n t && are_short bytes n ts

front : (a b : Bool) → (a && b) ≡ true → a ≡ true
front true b h = refl
front false b h = cc h

back : (a b : Bool) → (a && b) ≡ true → b ≡ true
back true b h = h
back false b h = cc h

short_length : (a : Bool) (m n : ℕ) → (not a || nat_le m n) ≡ true → a ≡ true → m ≤ n
short_length true m n h k = search rules
short_length false m n h k = absurd (cc k)

short_at : (bytes : List ℕ) (n : ℕ) (ts : List (List ℕ)) (j : ℕ) (other : List ℕ) → are_short bytes n ts ≡ true
    → slice_get ts j ≡ Some other → starts bytes other ≡ true → length other ≤ n
short_at bytes n [] j other h g s = absurd (cc g)
short_at bytes n (t ∷ ts) zero other h g s =
    let e : t ≡ other = cc g in
    subst (λ x. length x ≤ n) e (short_length (starts bytes t) (length t) n (front _ _ h) (ap (starts bytes) e ∙ s))
short_at bytes n (t ∷ ts) (suc j) other h g s = short_at bytes n ts j other (back (is_short bytes n t) _ h) g s

pub longest : (bytes : List ℕ) (k : ℕ) (text : List ℕ) → slice_get symbols k ≡ Some text → starts bytes text ≡ true
    → are_short bytes (length text) symbols ≡ true → IsLongest bytes k text
longest bytes k text at s h =
    record { at = at; starts_with_it = s; no_longer = λ j other g t. short_at bytes (length text) symbols j other h g t }

pub small_number : (n : ℕ) → nat_le n most ≡ true → n ≤ most
small_number n h = search rules

-- names whose count is another aren't full
pub not_full : (names : List (List ℕ)) (word : List ℕ) → nat_eq (length names) most_names ≡ false → IsFull names word → ⊥
not_full names word h f =
    let e : nat_eq (length names) most_names ≡ nat_eq most_names most_names = ap (λ n. nat_eq n most_names) f.count in cc (h, e)
