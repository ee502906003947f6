-- The relation and the function agree: what the bytes begin with is what is computed, and what is computed they begin with.
use Rattle.std.proofs.Common.{◌≡◌, ℕ, suc, ◌+◌, Bool, true, false, cond, eqb, List, [], ◌∷◌, length, drop, Option, Some, None, refl, sym, ap, subst, ◌∙◌, inl, inr, position, nat_eq}
use Rattle.std.specs.Prelude.{codes}
use Rattle.std.specs.Option.{option_map}
use Rattle.std.specs.Cmp.Lexicographic.{pointwise, bytes_decides}
use Rattle.std.proofs.lemmas.Bool.{cases_Bool, eqb-true}
use Rattle.std.proofs.lemmas.Bool.Decides.{eqb_tells}
use Rattle.std.proofs.lemmas.Option.{get_or_from_slice_get}
use Rattle.pv_tokens.specs.declared.bytes.Class.{Class}
use Rattle.pv_tokens.specs.declared.bytes.Class.TheVariants.{Space, Letter, Digit, Slash, At, Backslash, Other}
use Rattle.pv_tokens.specs.declared.pieces.Piece.{Piece}
use Rattle.pv_tokens.specs.declared.pieces.Piece.TheVariants.{Blank, Word, Number, Fixed, OpenComment, Nothing}
use Rattle.pv_tokens.specs.declared.fixed.TheConstants.{FORALL, FORALL_STAR, IMPLIES}
use Rattle.pv_tokens.specs.Bytes.{is_space, is_letter, is_digit, class_of}
use Rattle.pv_tokens.specs.Words.{reserved, symbols}
use Rattle.pv_tokens.specs.Pieces.{slash, star, at_sign, backslash, word_len, word_of, starts, Closes, closes, inside, Begins, space, line_annotation, block_annotation, annotation_end, line_comment, block_comment, reserved_word, other_word, number, result_word, old_word, forall_word, forall_star, symbol, backslash_alone, IsOpen, opened}
use Rattle.pv_tokens.proofs.Symbols.{first_is_longest, longest_is_first}
use Rattle.pv_tokens.specs.Reading.{comment_len, block_piece, slash_piece, at_piece, word_or_fixed, word_piece, forall_piece, backslash_by, backslash_piece, symbol_or_nothing, symbol_piece, piece_by, piece_of}

-- ---- the end of a comment

pub comment_len_is : (bs : List ℕ) (n : ℕ) → Closes bs n → comment_len bs ≡ Some n
comment_len_is _ _ (closes {b} {bs} h) = ap (λ t. cond t (Some 2) (option_map suc (comment_len bs))) h
comment_len_is _ _ (inside {b} {bs} {n} h c) =
    ap (λ t. cond t (Some 2) (option_map suc (comment_len bs))) h ∙ ap (λ o. option_map suc o) (comment_len_is bs n c)

closes_after : (b : ℕ) (bs : List ℕ) (o : Option ℕ) (n : ℕ) → starts (b ∷ bs) (codes "*/") ≡ false → option_map suc o ≡ Some n
    → ((m : ℕ) → o ≡ Some m → Closes bs m) → Closes (b ∷ bs) n
closes_after b bs None n h e behind = absurd cc
closes_after b bs (Some m) n h e behind =
    let is : suc m ≡ n = cc in
    subst (Closes (b ∷ bs)) is (inside h (behind m refl))

pub closes_from : (bs : List ℕ) (n : ℕ) → comment_len bs ≡ Some n → Closes bs n
closes_from [] n e = absurd cc
closes_from (b ∷ bs) n e =
    elim (cases_Bool (starts (b ∷ bs) (codes "*/"))) [
      | inl h ↦
          let two : Some 2 ≡ Some n = sym (ap (λ t. cond t (Some 2) (option_map suc (comment_len bs))) h) ∙ e in
          let is : 2 ≡ n = cc in
          subst (Closes (b ∷ bs)) is (closes h)
      | inr h ↦ closes_after b bs (comment_len bs) n h (sym (ap (λ t. cond t (Some 2) (option_map suc (comment_len bs))) h) ∙ e)
          (λ m f. closes_from bs m f)
    ]

-- ---- what the bytes begin with is computed

pub piece_is : (bytes : List ℕ) (p : Piece) → Begins bytes p → piece_of bytes ≡ p
unfolding piece_of slash_piece at_piece word_piece forall_piece backslash_piece symbol_piece class_of
piece_is _ _ (space {b} {bs} h) = ap (λ k. piece_by k (b ∷ bs)) h
piece_is _ _ (line_annotation {bs} h) = rw h refl
piece_is _ _ (block_annotation {bs} h) = rw h refl
piece_is _ _ (annotation_end {bs} h) = rw h refl
piece_is _ _ (line_comment {bs} h) = rw h refl
piece_is _ _ (block_comment {bs} {n} h c) = rw (h, comment_len_is bs n c) refl
piece_is _ _ (reserved_word {b} {bs} {k} h e) = ap (λ k. piece_by k (b ∷ bs)) h ∙ ap (word_or_fixed (word_len (b ∷ bs))) e
piece_is _ _ (other_word {b} {bs} h e) = ap (λ k. piece_by k (b ∷ bs)) h ∙ ap (word_or_fixed (word_len (b ∷ bs))) e
piece_is _ _ (number {b} {bs} h) = ap (λ k. piece_by k (b ∷ bs)) h
piece_is _ _ (result_word {bs} e) = ap (λ w. backslash_by w (backslash ∷ bs)) e
piece_is _ _ (old_word {bs} e) = ap (λ w. backslash_by w (backslash ∷ bs)) e
piece_is _ _ (forall_word {bs} e h) =
    ap (λ w. backslash_by w (backslash ∷ bs)) e ∙ ap (λ t. cond t (Fixed FORALL_STAR 8) (Fixed FORALL 7)) h
piece_is _ _ (forall_star {bs} e h) =
    ap (λ w. backslash_by w (backslash ∷ bs)) e ∙ ap (λ t. cond t (Fixed FORALL_STAR 8) (Fixed FORALL 7)) h
piece_is _ _ (symbol {b} {bs} {text} {k} h l) =
    ap (λ k. piece_by k (b ∷ bs)) h ∙ ap symbol_or_nothing (longest_is_first (b ∷ bs) k text l)
    ∙ ap (λ t. Fixed (IMPLIES + k) (length t)) (get_or_from_slice_get symbols k text [] l.at)
piece_is _ _ (backslash_alone {bs} p) = rw (p.no_result, p.no_old, p.no_forall) refl

pub open_is : (bytes : List ℕ) → IsOpen bytes → piece_of bytes ≡ OpenComment
unfolding piece_of slash_piece class_of
open_is _ (opened {bs} h none) = rw h (by (comment_len bs) refl)
  where
    by : (o : Option ℕ) → comment_len bs ≡ o → block_piece o ≡ OpenComment
    by None e = refl
    by (Some n) e = absurd (none n (closes_from bs n e))

-- ---- what is computed the bytes begin with

abbrev pub Means : List ℕ → Piece → Type 0
Means bytes OpenComment = IsOpen bytes
Means bytes Nothing = Unit {0}
Means bytes (Blank n) = Begins bytes (Blank n)
Means bytes (Word n) = Begins bytes (Word n)
Means bytes (Number n) = Begins bytes (Number n)
Means bytes (Fixed k n) = Begins bytes (Fixed k n)

-- a byte of a class of one byte
slash_test : (s l d x y z : Bool)
    → cond s Space (cond l Letter (cond d Digit (cond x Slash (cond y At (cond z Backslash Other))))) ≡ Slash → x ≡ true
slash_test true l d x y z e = absurd cc
slash_test false true d x y z e = absurd cc
slash_test false false true x y z e = absurd cc
slash_test false false false true y z e = refl
slash_test false false false false true z e = absurd cc
slash_test false false false false false true e = absurd cc
slash_test false false false false false false e = absurd cc

at_test : (s l d x y z : Bool)
    → cond s Space (cond l Letter (cond d Digit (cond x Slash (cond y At (cond z Backslash Other))))) ≡ At → y ≡ true
at_test true l d x y z e = absurd cc
at_test false true d x y z e = absurd cc
at_test false false true x y z e = absurd cc
at_test false false false true y z e = absurd cc
at_test false false false false true z e = refl
at_test false false false false false true e = absurd cc
at_test false false false false false false e = absurd cc

backslash_test : (s l d x y z : Bool)
    → cond s Space (cond l Letter (cond d Digit (cond x Slash (cond y At (cond z Backslash Other))))) ≡ Backslash → z ≡ true
backslash_test true l d x y z e = absurd cc
backslash_test false true d x y z e = absurd cc
backslash_test false false true x y z e = absurd cc
backslash_test false false false true y z e = absurd cc
backslash_test false false false false true z e = absurd cc
backslash_test false false false false false true e = refl
backslash_test false false false false false false e = absurd cc

slash_byte : (b : ℕ) → class_of b ≡ Slash → b ≡ slash
unfolding class_of
slash_byte b e = eqb-true b 47 (slash_test (is_space b) (is_letter b) (is_digit b) (eqb b 47) (eqb b 64) (eqb b 92) e)

at_byte : (b : ℕ) → class_of b ≡ At → b ≡ at_sign
unfolding class_of
at_byte b e = eqb-true b 64 (at_test (is_space b) (is_letter b) (is_digit b) (eqb b 47) (eqb b 64) (eqb b 92) e)

backslash_byte : (b : ℕ) → class_of b ≡ Backslash → b ≡ backslash
unfolding class_of
backslash_byte b e = eqb-true b 92 (backslash_test (is_space b) (is_letter b) (is_digit b) (eqb b 47) (eqb b 64) (eqb b 92) e)

line_means : (bs : List ℕ) → Means (slash ∷ slash ∷ bs) (slash_piece (slash ∷ slash ∷ bs))
unfolding slash_piece
line_means bs =
    elim (cases_Bool (starts bs (codes "@"))) [ inl h ↦ rw h (line_annotation h) | inr h ↦ rw h (line_comment h) ]

block_means : (bs : List ℕ) → Means (slash ∷ star ∷ bs) (slash_piece (slash ∷ star ∷ bs))
unfolding slash_piece
block_means bs =
    elim (cases_Bool (starts bs (codes "@"))) [ inl h ↦ rw h (block_annotation h) | inr h ↦ rw h (by h (comment_len bs) refl) ]
  where
    by : starts bs (codes "@") ≡ false → (o : Option ℕ) → comment_len bs ≡ o → Means (slash ∷ star ∷ bs) (block_piece o)
    by h None e = opened h (λ n c. let f : None ≡ Some n = sym e ∙ comment_len_is bs n c in absurd cc)
    by h (Some n) e = block_comment h (closes_from bs n e)

slash_means : (bs : List ℕ) → Means (slash ∷ bs) (slash_piece (slash ∷ bs))
unfolding slash_piece
slash_means [] = tt
slash_means (c ∷ bs) =
    elim (eqb_tells slash c) [
      | inl h ↦ subst (λ (d : ℕ). Means (slash ∷ d ∷ bs) (slash_piece (slash ∷ d ∷ bs))) h.1 (line_means bs)
      | inr h ↦ elim (eqb_tells star c) [
        | inl g ↦ subst (λ (d : ℕ). Means (slash ∷ d ∷ bs) (slash_piece (slash ∷ d ∷ bs))) g.1 (block_means bs)
        | inr g ↦ rw (h.0, g.0) tt
      ]
    ]

at_means : (bs : List ℕ) → Means (at_sign ∷ bs) (at_piece (at_sign ∷ bs))
unfolding at_piece
at_means bs = elim (cases_Bool (starts bs (codes "*/"))) [ inl h ↦ rw h (annotation_end h) | inr h ↦ rw h tt ]

word_means : (b : ℕ) (bs : List ℕ) → class_of b ≡ Letter → Means (b ∷ bs) (word_piece (b ∷ bs))
unfolding word_piece
word_means b bs h = by (position (pointwise nat_eq (word_of (b ∷ bs))) reserved) refl
  where
    by : (o : Option ℕ) → position (pointwise nat_eq (word_of (b ∷ bs))) reserved ≡ o
        → Means (b ∷ bs) (word_or_fixed (word_len (b ∷ bs)) o)
    by None e = other_word h e
    by (Some k) e = reserved_word h e

forall_means : (bs : List ℕ) → word_of bs ≡ codes "forall" → Means (backslash ∷ bs) (forall_piece (backslash ∷ bs))
unfolding forall_piece
forall_means bs e =
    elim (cases_Bool (starts (drop 6 bs) (codes "*"))) [ inl h ↦ rw h (forall_star e h) | inr h ↦ rw h (forall_word e h) ]

backslash_means : (bs : List ℕ) → Means (backslash ∷ bs) (backslash_piece (backslash ∷ bs))
unfolding backslash_piece
backslash_means bs =
    elim (cases_Bool (pointwise nat_eq (word_of bs) (codes "result"))) [
      | inl h ↦ rw h (result_word ((bytes_decides (word_of bs) (codes "result")).0 h))
      | inr f ↦ elim (cases_Bool (pointwise nat_eq (word_of bs) (codes "old"))) [
        | inl h ↦ rw (f, h) (old_word ((bytes_decides (word_of bs) (codes "old")).0 h))
        | inr g ↦ elim (cases_Bool (pointwise nat_eq (word_of bs) (codes "forall"))) [
          | inl h ↦ rw (f, g, h) (forall_means bs ((bytes_decides (word_of bs) (codes "forall")).0 h))
          | inr h ↦ rw (f, g, h) (backslash_alone (record { no_result = f; no_old = g; no_forall = h }))
        ]
      ]
    ]

symbol_means : (b : ℕ) (bs : List ℕ) → class_of b ≡ Other → Means (b ∷ bs) (symbol_piece (b ∷ bs))
unfolding symbol_piece
symbol_means b bs h = by (position (λ s. starts (b ∷ bs) s) symbols) refl
  where
    by : (o : Option ℕ) → position (λ s. starts (b ∷ bs) s) symbols ≡ o → Means (b ∷ bs) (symbol_or_nothing o)
    by None e = tt
    by (Some k) e = symbol h (first_is_longest (b ∷ bs) k e)

pub piece_means : (bytes : List ℕ) → Means bytes (piece_of bytes)
unfolding piece_of
piece_means [] = tt
piece_means (b ∷ bs) = by (class_of b) refl
  where
    by : (k : Class) → class_of b ≡ k → Means (b ∷ bs) (piece_by k (b ∷ bs))
    by Space e = space e
    by Letter e = word_means b bs e
    by Digit e = number e
    by Slash e = subst (λ (c : ℕ). Means (c ∷ bs) (slash_piece (c ∷ bs))) (sym (slash_byte b e)) (slash_means bs)
    by At e = subst (λ (c : ℕ). Means (c ∷ bs) (at_piece (c ∷ bs))) (sym (at_byte b e)) (at_means bs)
    by Backslash e = subst (λ (c : ℕ). Means (c ∷ bs) (backslash_piece (c ∷ bs))) (sym (backslash_byte b e)) (backslash_means bs)
    by Other e = symbol_means b bs e
