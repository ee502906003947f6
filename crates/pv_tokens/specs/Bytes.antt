-- The kinds of bytes, and how long a text and how great a number may be.
use Rattle.std.specs.Prelude.{ℕ, ◌+◌, ◌^◌, ◌-◌, ◌*◌, Bool, ◌||◌, ◌&&◌, ◌==◌, not, nat_le, List, if◌then◌else◌, fold}
use Rattle.pv_tokens.specs.declared.bytes.Class.{Class}
use Rattle.pv_tokens.specs.declared.bytes.Class.TheVariants.{Space, Letter, Digit, Slash, At, Backslash, Other}

abbrev pub is_space : ℕ → Bool
is_space b = b == 9 || b == 10 || b == 13 || b == 32

abbrev pub is_letter : ℕ → Bool
is_letter b = (nat_le 97 b && nat_le b 122) || (nat_le 65 b && nat_le b 90) || b == 95

abbrev pub is_digit : ℕ → Bool
is_digit b = nat_le 48 b && nat_le b 57

abbrev pub is_word_byte : ℕ → Bool
is_word_byte b = is_letter b || is_digit b

-- a byte that does not end a line comment
abbrev pub is_in_line : ℕ → Bool
is_in_line b = not (b == 10)

unfoldable pub class_of : ℕ → Class
class_of b =
    if is_space b then Space else
    (if is_letter b then Letter else
    (if is_digit b then Digit else
    (if b == 47 then Slash else
    (if b == 64 then At else
    (if b == 92 then Backslash else Other)))))

-- the number that digits write in base ten
abbrev pub decimal : List ℕ → ℕ
decimal digits = fold (λ n b. 10 * n + (b - 48)) 0 digits

-- the greatest number that a text may have
abbrev pub most : ℕ
most = 9223372036854775807

-- how many bytes a text may have
abbrev pub most_bytes : ℕ
most_bytes = 2 ^ 20
