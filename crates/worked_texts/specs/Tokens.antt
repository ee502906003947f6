-- Short names for tokens, where they stand from one byte to another.
use Rattle.std.specs.Prelude.{ℕ}
use Rattle.pv_tokens.specs.declared.Lexeme.{Lexeme}
use Rattle.pv_tokens.specs.declared.LexemeKind.TheVariants as kind

abbrev pub named : ℕ → ℕ → ℕ → Lexeme
named n from to = record { kind = kind.Named (record { 0 = n }); span = record { from = from; to = to } }

abbrev pub number : ℕ → ℕ → ℕ → Lexeme
number n from to = record { kind = kind.Number n; span = record { from = from; to = to } }

-- a reserved word or a symbol, by the name of its number
abbrev pub fixed : ℕ → ℕ → ℕ → Lexeme
fixed n from to = record { kind = kind.Fixed n; span = record { from = from; to = to } }
