-- What stands at the front of bytes: a space, a comment or a token, and how many bytes it takes.
use Rattle.std.specs.Prelude.{◌≡◌, ℕ, suc, ◌+◌, ◌<◌, ◌≤◌, Bool, true, false, List, [], ◌∷◌, Some, None, length, take, drop, position, slice_get, nat_eq, codes}
use Rattle.std.specs.List.{prefix_len, starts_with}
use Rattle.std.specs.Cmp.Lexicographic.{pointwise}
use Rattle.pv_tokens.specs.declared.bytes.Class.TheVariants.{Space, Letter, Digit, Other}
use Rattle.pv_tokens.specs.declared.pieces.Piece.{Piece}
use Rattle.pv_tokens.specs.declared.pieces.Piece.TheVariants.{Blank, Word, Number, Fixed, OpenComment, Nothing}
use Rattle.pv_tokens.specs.declared.fixed.TheConstants.{RESULT, OLD, FORALL, FORALL_STAR, IMPLIES, BACKSLASH}
use Rattle.pv_tokens.specs.Bytes.{is_word_byte, is_digit, is_in_line, class_of}
use Rattle.pv_tokens.specs.Words.{reserved, symbols}

abbrev pub slash : ℕ
slash = 47

abbrev pub star : ℕ
star = 42

abbrev pub at_sign : ℕ
at_sign = 64

abbrev pub backslash : ℕ
backslash = 92

-- the longest run of word bytes, and its length
abbrev pub word_len : List ℕ → ℕ
word_len bytes = prefix_len is_word_byte bytes

abbrev pub word_of : List ℕ → List ℕ
word_of bytes = take (word_len bytes) bytes

abbrev pub starts : List ℕ → List ℕ → Bool
starts bytes text = starts_with nat_eq bytes text

-- the first end of a block comment: how many bytes there are up to it and with it
pub data Closes : List ℕ → ℕ → Type 0 where
  closes : {b : ℕ} {bs : List ℕ} → starts (b ∷ bs) (codes "*/") ≡ true → Closes (b ∷ bs) 2
  inside : {b : ℕ} {bs : List ℕ} {n : ℕ} → starts (b ∷ bs) (codes "*/") ≡ false → Closes bs n → Closes (b ∷ bs) (suc n)

-- the bytes begin with this symbol, and with no longer one
pub record IsLongest (bytes : List ℕ) (k : ℕ) (text : List ℕ) : Type 0 where
  pub at : slice_get symbols k ≡ Some text
  pub starts_with_it : starts bytes text ≡ true
  pub no_longer : (j : ℕ) (other : List ℕ) → slice_get symbols j ≡ Some other → starts bytes other ≡ true
      → length other ≤ length text

-- the word has no number of its own behind a backslash
pub record IsPlain (word : List ℕ) : Type 0 where
  pub no_result : pointwise nat_eq word (codes "result") ≡ false
  pub no_old : pointwise nat_eq word (codes "old") ≡ false
  pub no_forall : pointwise nat_eq word (codes "forall") ≡ false

-- the bytes begin with this piece
pub data Begins : List ℕ → Piece → Type 0 where
  space : {b : ℕ} {bs : List ℕ} → class_of b ≡ Space → Begins (b ∷ bs) (Blank 1)
  -- `//@`, `/*@` and `@*/` are spaces
  line_annotation : {bs : List ℕ} → starts bs (codes "@") ≡ true → Begins (slash ∷ slash ∷ bs) (Blank 3)
  block_annotation : {bs : List ℕ} → starts bs (codes "@") ≡ true → Begins (slash ∷ star ∷ bs) (Blank 3)
  annotation_end : {bs : List ℕ} → starts bs (codes "*/") ≡ true → Begins (at_sign ∷ bs) (Blank 3)
  -- up to the end of the line
  line_comment : {bs : List ℕ} → starts bs (codes "@") ≡ false
      → Begins (slash ∷ slash ∷ bs) (Blank (2 + prefix_len is_in_line bs))
  -- up to the first end behind the opening
  block_comment : {bs : List ℕ} {n : ℕ} → starts bs (codes "@") ≡ false → Closes bs n → Begins (slash ∷ star ∷ bs) (Blank (2 + n))
  reserved_word : {b : ℕ} {bs : List ℕ} {k : ℕ} → class_of b ≡ Letter
      → position (pointwise nat_eq (word_of (b ∷ bs))) reserved ≡ Some k
      → Begins (b ∷ bs) (Fixed k (word_len (b ∷ bs)))
  other_word : {b : ℕ} {bs : List ℕ} → class_of b ≡ Letter → position (pointwise nat_eq (word_of (b ∷ bs))) reserved ≡ None
      → Begins (b ∷ bs) (Word (word_len (b ∷ bs)))
  number : {b : ℕ} {bs : List ℕ} → class_of b ≡ Digit → Begins (b ∷ bs) (Number (prefix_len is_digit (b ∷ bs)))
  result_word : {bs : List ℕ} → word_of bs ≡ codes "result" → Begins (backslash ∷ bs) (Fixed RESULT 7)
  old_word : {bs : List ℕ} → word_of bs ≡ codes "old" → Begins (backslash ∷ bs) (Fixed OLD 4)
  forall_word : {bs : List ℕ} → word_of bs ≡ codes "forall" → starts (drop 6 bs) (codes "*") ≡ false
      → Begins (backslash ∷ bs) (Fixed FORALL 7)
  forall_star : {bs : List ℕ} → word_of bs ≡ codes "forall" → starts (drop 6 bs) (codes "*") ≡ true
      → Begins (backslash ∷ bs) (Fixed FORALL_STAR 8)
  -- the longest symbol
  symbol : {b : ℕ} {bs text : List ℕ} {k : ℕ} → class_of b ≡ Other → IsLongest (b ∷ bs) k text
      → Begins (b ∷ bs) (Fixed (IMPLIES + k) (length text))
  backslash_alone : {bs : List ℕ} → IsPlain (word_of bs) → Begins (backslash ∷ bs) (Fixed BACKSLASH 1)

-- a block comment opens here and has no end
pub data IsOpen : List ℕ → Type 0 where
  opened : {bs : List ℕ} → starts bs (codes "@") ≡ false → ((n : ℕ) → Closes bs n → ⊥) → IsOpen (slash ∷ star ∷ bs)

-- something stands here, and no space, comment or token starts with it
pub record IsForeign (bytes : List ℕ) : Type 0 where
  pub some : bytes ≡ [] → ⊥
  pub none : (p : Piece) → Begins bytes p → ⊥
  pub unopened : IsOpen bytes → ⊥

-- what bytes show: the piece that they begin with, or why they begin with none
abbrev pub Shows : List ℕ → Piece → Type 0
Shows bytes (Blank n) = Begins bytes (Blank n)
Shows bytes (Word n) = Begins bytes (Word n)
Shows bytes (Number n) = Begins bytes (Number n)
Shows bytes (Fixed k n) = Begins bytes (Fixed k n)
Shows bytes OpenComment = IsOpen bytes
Shows bytes Nothing = IsForeign bytes

-- the piece has a byte, and no more than so many
abbrev pub FitsIn : ℕ → Piece → Type 0
FitsIn len (Blank n) = (0 < n) × (n ≤ len)
FitsIn len (Word n) = (0 < n) × (n ≤ len)
FitsIn len (Number n) = (0 < n) × (n ≤ len)
FitsIn len (Fixed k n) = (0 < n) × (n ≤ len)
FitsIn len OpenComment = Unit {0}
FitsIn len Nothing = Unit {0}
