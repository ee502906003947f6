-- The piece at the front of bytes, computed.
use Rattle.std.specs.Prelude.{ℕ, suc, ◌+◌, List, [], ◌∷◌, Option, Some, None, length, drop, position, slice_index_or, nat_eq, codes, if◌then◌else◌}
use Rattle.std.specs.Option.{option_map}
use Rattle.std.specs.List.{prefix_len}
use Rattle.std.specs.Cmp.Lexicographic.{pointwise}
use Rattle.pv_tokens.specs.declared.bytes.Class.{Class}
use Rattle.pv_tokens.specs.declared.bytes.Class.TheVariants.{Space, Letter, Digit, Slash, At, Backslash, Other}
use Rattle.pv_tokens.specs.declared.pieces.Piece.{Piece}
use Rattle.pv_tokens.specs.declared.pieces.Piece.TheVariants.{Blank, Word, Number, Fixed, OpenComment, Nothing}
use Rattle.pv_tokens.specs.declared.fixed.TheConstants.{RESULT, OLD, FORALL, FORALL_STAR, IMPLIES, BACKSLASH}
use Rattle.pv_tokens.specs.Bytes.{is_digit, is_in_line, class_of}
use Rattle.pv_tokens.specs.Words.{reserved, symbols}
use Rattle.pv_tokens.specs.Pieces.{word_len, word_of, starts}

-- how many bytes there are up to the end of a block comment and with it
abbrev pub comment_len : List ℕ → Option ℕ
comment_len [] = None
comment_len (b ∷ bs) = if starts (b ∷ bs) (codes "*/") then Some 2 else option_map suc (comment_len bs)

abbrev pub block_piece : Option ℕ → Piece
block_piece None = OpenComment
block_piece (Some n) = Blank (2 + n)

unfoldable pub slash_piece : List ℕ → Piece
slash_piece bytes =
    if starts bytes (codes "//@") then Blank 3 else
    (if starts bytes (codes "/*@") then Blank 3 else
    (if starts bytes (codes "//") then Blank (2 + prefix_len is_in_line (drop 2 bytes)) else
    (if starts bytes (codes "/*") then block_piece (comment_len (drop 2 bytes)) else Nothing)))

unfoldable pub at_piece : List ℕ → Piece
at_piece bytes = if starts bytes (codes "@*/") then Blank 3 else Nothing

abbrev pub word_or_fixed : ℕ → Option ℕ → Piece
word_or_fixed n None = Word n
word_or_fixed n (Some k) = Fixed k n

unfoldable pub word_piece : List ℕ → Piece
word_piece bytes = word_or_fixed (word_len bytes) (position (pointwise nat_eq (word_of bytes)) reserved)

unfoldable pub forall_piece : List ℕ → Piece
forall_piece bytes = if starts (drop 7 bytes) (codes "*") then Fixed FORALL_STAR 8 else Fixed FORALL 7

abbrev pub backslash_by : List ℕ → List ℕ → Piece
backslash_by word bytes =
    if pointwise nat_eq word (codes "result") then Fixed RESULT 7 else
    (if pointwise nat_eq word (codes "old") then Fixed OLD 4 else
    (if pointwise nat_eq word (codes "forall") then forall_piece bytes else
    Fixed BACKSLASH 1))

unfoldable pub backslash_piece : List ℕ → Piece
backslash_piece bytes = backslash_by (word_of (drop 1 bytes)) bytes

abbrev pub symbol_or_nothing : Option ℕ → Piece
symbol_or_nothing None = Nothing
symbol_or_nothing (Some k) = Fixed (IMPLIES + k) (length (slice_index_or symbols k []))

unfoldable pub symbol_piece : List ℕ → Piece
symbol_piece bytes = symbol_or_nothing (position (λ s. starts bytes s) symbols)

abbrev pub piece_by : Class → List ℕ → Piece
piece_by Space bytes = Blank 1
piece_by Letter bytes = word_piece bytes
piece_by Digit bytes = Number (prefix_len is_digit bytes)
piece_by Slash bytes = slash_piece bytes
piece_by At bytes = at_piece bytes
piece_by Backslash bytes = backslash_piece bytes
piece_by Other bytes = symbol_piece bytes

unfoldable pub piece_of : List ℕ → Piece
piece_of [] = Nothing
piece_of (b ∷ bs) = piece_by (class_of b) (b ∷ bs)
