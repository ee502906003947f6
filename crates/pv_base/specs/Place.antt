-- Where a byte of a text stands. Lines and columns count from 1, a line ends after its line feed, and columns count bytes.
use Rattle.std.specs.Prelude.{ℕ, ◌+◌, ◌==◌, Bool, List, length, take, count_by}
use Rattle.std.specs.List.{after_last}

abbrev pub is_line_feed : ℕ → Bool
is_line_feed byte = byte == 10

-- one more than the line feeds before the place
abbrev pub line_at : List ℕ → ℕ → ℕ
line_at text at = 1 + count_by is_line_feed (take at text)

-- one more than the bytes between the last line feed before the place and the place
abbrev pub column_at : List ℕ → ℕ → ℕ
column_at text at = 1 + length (after_last is_line_feed (take at text))
