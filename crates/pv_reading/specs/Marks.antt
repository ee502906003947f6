-- Tokens, and beside each the depth that is reached with it: the number of constructs that are open after it.
use Rattle.std.specs.Prelude.{ℕ, ◌≤◌, List, [], ◌∷◌, Option, Some, None}
use Rattle.pv_base.specs.declared.Span.{Span}
use Rattle.pv_tokens.specs.declared.Lexeme.{Lexeme}
use Rattle.pv_tokens.specs.declared.LexemeKind.{LexemeKind}
use Rattle.pv_tokens.specs.declared.LexemeKind.TheVariants as k
use Rattle.pv_ast.specs.declared.Word.{Word}

abbrev pub Tokens : Type 0
Tokens = List Lexeme

abbrev pub Marked : Type 0
Marked = List (Lexeme × ℕ)

-- the tokens without their marks
abbrev pub plain : Marked → Tokens
plain [] = []
plain (x ∷ u) = x.0 ∷ plain u

-- no token is reached with more open constructs than the limit
abbrev pub Within : ℕ → Marked → Type 0
Within limit [] = Unit {0}
Within limit (x ∷ u) = (x.1 ≤ limit) × Within limit u

-- a fixed token of a number, a name and a number, where they stand

abbrev pub fixed_at : ℕ → Span → Lexeme
fixed_at j s = record { kind = k.Fixed j; span = s }

abbrev pub word_at : Word → Lexeme
word_at w = record { kind = k.Named w.name; span = w.span }

abbrev pub number_at : ℕ → Span → Lexeme
number_at n s = record { kind = k.Number n; span = s }

-- from where the one begins to where the other ends
abbrev pub across : Span → Span → Span
across a b = record { from = a.from; to = b.to }

-- where tokens begin
abbrev pub begins_at : Tokens → Span
begins_at [] = record { from = 0; to = 0 }
begins_at (x ∷ us) = x.span

-- the kind of the token that comes next, if one comes
abbrev pub next_of : Tokens → Option LexemeKind
next_of [] = None
next_of (x ∷ us) = Some x.kind

-- where the first of the tokens stands; where there is none, the end of the text
abbrev pub place_of : ℕ → Tokens → Span
place_of end [] = record { from = end; to = end }
place_of end (x ∷ us) = x.span
