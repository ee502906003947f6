-- A piece has a byte, and ends within the bytes; and what is shown where no piece is.
use Rattle.std.proofs.Common.{◌≡◌, ℕ, ◌+◌, ◌-◌, ◌<◌, ◌≤◌, Bool, true, false, ◌||◌, cond, eqb, ltb, List, [], ◌∷◌, length, take, drop, get_or, refl, sym, ap, subst, ◌∙◌, arith, length-drop}
use Rattle.std.specs.Prelude.{codes}
use Rattle.std.specs.List.{prefix_len}
use Rattle.std.proofs.lemmas.Bool.{ltb-true}
use Rattle.std.proofs.lemmas.Option.{get_or_from_slice_get, slice_get_within}
use Rattle.std.proofs.lemmas.List.{length-take}
use Rattle.std.proofs.lemmas.List.Sums.{prefix_len-le-length}
use Rattle.std.proofs.Math.Seq.{take-length}
use lib.Pointwise.{pointwise_long}
use Rattle.pv_tokens.specs.declared.bytes.Class.TheVariants.{Space, Letter, Digit, Slash, At, Backslash, Other}
use Rattle.pv_tokens.specs.declared.pieces.Piece.{Piece}
use Rattle.pv_tokens.specs.declared.pieces.Piece.TheVariants.{Blank, Word, Number, Fixed, OpenComment, Nothing}
use Rattle.pv_tokens.specs.Bytes.{is_space, is_letter, is_digit, is_word_byte, is_in_line, class_of}
use Rattle.pv_tokens.specs.Words.{symbols}
use Rattle.pv_tokens.specs.Pieces.{word_len, word_of, starts, IsLongest, Closes, closes, inside, Begins, space, line_annotation, block_annotation, annotation_end, line_comment, block_comment, reserved_word, other_word, number, result_word, old_word, forall_word, forall_star, symbol, backslash_alone, Shows, FitsIn}
use Rattle.pv_tokens.specs.Reading.{piece_of}
use Rattle.pv_tokens.proofs.Symbols.{all_at}
use Rattle.pv_tokens.proofs.PieceLaws.{piece_is, open_is, Means, piece_means}

starts_len : (bytes text : List ℕ) → starts bytes text ≡ true → length text ≤ length bytes
starts_len bytes text h = omega (arith, pointwise_long eqb text (take (length text) bytes) h, length-take (length text) bytes)

closes_len : (bs : List ℕ) (n : ℕ) → Closes bs n → n ≤ length bs
closes_len _ _ (closes {b} {bs} h) = starts_len (b ∷ bs) (codes "*/") h
closes_len _ _ (inside {b} {bs} {n} h c) = let k = closes_len bs n c in omega arith

letter_test : (s l d x y z : Bool)
    → cond s Space (cond l Letter (cond d Digit (cond x Slash (cond y At (cond z Backslash Other))))) ≡ Letter → l ≡ true
letter_test true l d x y z e = absurd cc
letter_test false true d x y z e = refl
letter_test false false true x y z e = absurd cc
letter_test false false false true y z e = absurd cc
letter_test false false false false true z e = absurd cc
letter_test false false false false false true e = absurd cc
letter_test false false false false false false e = absurd cc

digit_test : (s l d x y z : Bool)
    → cond s Space (cond l Letter (cond d Digit (cond x Slash (cond y At (cond z Backslash Other))))) ≡ Digit → d ≡ true
digit_test true l d x y z e = absurd cc
digit_test false true d x y z e = absurd cc
digit_test false false true x y z e = refl
digit_test false false false true y z e = absurd cc
digit_test false false false false true z e = absurd cc
digit_test false false false false false true e = absurd cc
digit_test false false false false false false e = absurd cc

letter_byte : (b : ℕ) → class_of b ≡ Letter → is_word_byte b ≡ true
unfolding class_of
letter_byte b e =
    ap (λ t. t || is_digit b) (letter_test (is_space b) (is_letter b) (is_digit b) (eqb b 47) (eqb b 64) (eqb b 92) e)

digit_byte : (b : ℕ) → class_of b ≡ Digit → is_digit b ≡ true
unfolding class_of
digit_byte b e = digit_test (is_space b) (is_letter b) (is_digit b) (eqb b 47) (eqb b 64) (eqb b 92) e

first_passes : (p : ℕ → Bool) (b : ℕ) (bs : List ℕ) → p b ≡ true
    → (0 < prefix_len p (b ∷ bs)) × (prefix_len p (b ∷ bs) ≤ length (b ∷ bs))
first_passes p b bs h =
    let is : prefix_len p (b ∷ bs) ≡ 1 + prefix_len p bs = ap (λ t. cond t (1 + prefix_len p bs) 0) h in
    (omega arith, prefix_len-le-length p (b ∷ bs))

word_fits : (bs text : List ℕ) → word_of bs ≡ text → length text ≤ length bs
word_fits bs text e = omega (arith, ap (λ (xs : List ℕ). length xs) e, length-take (word_len bs) bs)

symbol_fits : (bytes text : List ℕ) (k : ℕ) → IsLongest bytes k text → (0 < length text) × (length text ≤ length bytes)
symbol_fits bytes text k l =
    let is : get_or symbols k [] ≡ text = get_or_from_slice_get symbols k text [] l.at in
    let some =
    ltb-true 0 (length (get_or symbols k [])) (all_at (λ s. ltb 0 (length s)) symbols k refl
    (slice_get_within symbols k text l.at)) in
    (subst (λ (t : List ℕ). 0 < length t) is some, starts_len bytes text l.starts_with_it)

pub piece_fits : (bytes : List ℕ) (p : Piece) → Begins bytes p → FitsIn (length bytes) p
piece_fits _ _ (space {b} {bs} h) = (omega arith, omega arith)
piece_fits _ _ (line_annotation {bs} h) = let k = starts_len bs (codes "@") h in (omega arith, omega arith)
piece_fits _ _ (block_annotation {bs} h) = let k = starts_len bs (codes "@") h in (omega arith, omega arith)
piece_fits _ _ (annotation_end {bs} h) = let k = starts_len bs (codes "*/") h in (omega arith, omega arith)
piece_fits _ _ (line_comment {bs} h) = let k = prefix_len-le-length is_in_line bs in (omega arith, omega arith)
piece_fits _ _ (block_comment {bs} {n} h c) = let k = closes_len bs n c in (omega arith, omega arith)
piece_fits _ _ (reserved_word {b} {bs} {k} h e) = first_passes is_word_byte b bs (letter_byte b h)
piece_fits _ _ (other_word {b} {bs} h e) = first_passes is_word_byte b bs (letter_byte b h)
piece_fits _ _ (number {b} {bs} h) = first_passes is_digit b bs (digit_byte b h)
piece_fits _ _ (result_word {bs} e) = let k = word_fits bs (codes "result") e in (omega arith, omega arith)
piece_fits _ _ (old_word {bs} e) = let k = word_fits bs (codes "old") e in (omega arith, omega arith)
piece_fits _ _ (forall_word {bs} e h) = let k = word_fits bs (codes "forall") e in (omega arith, omega arith)
piece_fits _ _ (forall_star {bs} e h) =
    let k = word_fits bs (codes "forall") e in
    let m = starts_len (drop 6 bs) (codes "*") h in
    let l = length-drop 6 bs in
    (omega arith, omega arith)
piece_fits _ _ (symbol {b} {bs} {text} {k} h l) = symbol_fits (b ∷ bs) text k l
piece_fits _ _ (backslash_alone {bs} p) = (omega arith, omega arith)

begins_something : (bytes : List ℕ) → Begins bytes Nothing → ⊥
begins_something bytes b = elim b [ ]

piece_shows : (bytes : List ℕ) → (bytes ≡ [] → ⊥) → Shows bytes (piece_of bytes)
piece_shows bytes some = by (piece_of bytes) refl (piece_means bytes)
  where
    by : (p : Piece) → piece_of bytes ≡ p → Means bytes p → Shows bytes p
    by (Blank n) e m = m
    by (Word n) e m = m
    by (Number n) e m = m
    by (Fixed k n) e m = m
    by OpenComment e m = m
    by Nothing e m = record {
      some = some;
      none = λ p b. begins_something bytes (subst (Begins bytes) (sym (piece_is bytes p b) ∙ e) b);
      unopened = λ o. let f : OpenComment ≡ Nothing = sym (open_is bytes o) ∙ e in absurd cc;
    }

fits_of : (bytes : List ℕ) (p : Piece) → Means bytes p → FitsIn (length bytes) p
fits_of bytes (Blank n) m = piece_fits bytes (Blank n) m
fits_of bytes (Word n) m = piece_fits bytes (Word n) m
fits_of bytes (Number n) m = piece_fits bytes (Number n) m
fits_of bytes (Fixed k n) m = piece_fits bytes (Fixed k n) m
fits_of bytes OpenComment m = tt
fits_of bytes Nothing m = tt

rest_is : (text : List ℕ) (at : ℕ) → take (length text - at) (drop at text) ≡ drop at text
rest_is text at = ap (λ (n : ℕ). take n (drop at text)) (sym (length-drop at text)) ∙ take-length (drop at text)

-- what stands at a place of a text
pub shows_at : (text : List ℕ) (at : ℕ) (p : Piece) → at < length text → p ≡ piece_of (take (length text - at) (drop at text))
    → Shows (drop at text) p
shows_at text at p lt e =
    let some : drop at text ≡ [] → ⊥ = λ h. omega (arith, length-drop at text, ap (λ (xs : List ℕ). length xs) h) in
    subst (Shows (drop at text)) (sym (e ∙ ap piece_of (rest_is text at))) (piece_shows (drop at text) some)

pub fits_at : (text : List ℕ) (at : ℕ) (p : Piece) → p ≡ piece_of (take (length text - at) (drop at text))
    → FitsIn (length text - at) p
fits_at text at p e =
    let fits = fits_of (drop at text) (piece_of (drop at text)) (piece_means (drop at text)) in
    subst (λ (n : ℕ). FitsIn n p) (length-drop at text)
    (subst (FitsIn (length (drop at text))) (sym (e ∙ ap piece_of (rest_is text at))) fits)
