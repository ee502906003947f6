-- A text is read from left to right, piece by piece.
use Rattle.std.specs.Prelude.{◌≡◌, ◌⊎◌, ℕ, ◌+◌, ◌<◌, ◌≤◌, List, [], ◌∷◌, ◌++◌, None, length, take, drop}
use Rattle.pv_names.specs.Numbering.{most_names, place_of, number_of, with_text}
use Rattle.pv_tokens.specs.declared.Lexeme.{Lexeme}
use Rattle.pv_tokens.specs.declared.LexemeKind.{LexemeKind}
use Rattle.pv_tokens.specs.declared.LexemeKind.TheVariants as kind
use Rattle.pv_tokens.specs.declared.TokenFault.{TokenFault}
use Rattle.pv_tokens.specs.declared.TokenFault.TheVariants as fault
use Rattle.pv_tokens.specs.declared.pieces.Piece.TheVariants.{Blank, Word, Number, Fixed}
use Rattle.pv_tokens.specs.Bytes.{decimal, most}
use Rattle.pv_tokens.specs.Pieces.{Begins, IsOpen, IsForeign}

-- how far a text is read: up to which byte, and the names and the tokens so far
pub record Progress : Type 0 where
  pub at : ℕ
  pub names : List (List ℕ)
  pub lexemes : List Lexeme

abbrev pub progress : ℕ → List (List ℕ) → List Lexeme → Progress
progress at names lexemes = record { at = at; names = names; lexemes = lexemes }

-- the bytes that are left
abbrev pub left : List ℕ → Progress → List ℕ
left text s = drop s.at text

-- the progress behind a token of n bytes
abbrev pub with_token : Progress → LexemeKind → ℕ → List (List ℕ) → Progress
with_token s k n names =
    progress (s.at + n) names (s.lexemes ++ record { kind = k; span = record { from = s.at; to = s.at + n } } ∷ [])

-- the name is new, and there is no number left for it
pub record IsFull (names : List (List ℕ)) (word : List ℕ) : Type 0 where
  pub new : place_of names word ≡ None
  pub count : length names ≡ most_names

-- one piece is read
pub data Step (text : List ℕ) : Progress → Progress → Type 0 where
  blank : {s : Progress} {n : ℕ} → Begins (left text s) (Blank n) → Step text s (progress (s.at + n) s.names s.lexemes)
  fixed : {s : Progress} {k n : ℕ} → Begins (left text s) (Fixed k n) → Step text s (with_token s (kind.Fixed k) n s.names)
  number : {s : Progress} {n : ℕ} → Begins (left text s) (Number n) → decimal (take n (left text s)) ≤ most
      → Step text s (with_token s (kind.Number (decimal (take n (left text s)))) n s.names)
  name : {s : Progress} {n : ℕ} → Begins (left text s) (Word n) → (IsFull s.names (take n (left text s)) → ⊥)
      → Step text s
      (with_token s (kind.Named (record { 0 = number_of s.names (take n (left text s)) })) n
      (with_text s.names (take n (left text s))))

-- pieces are read one after the other
pub data Steps (text : List ℕ) : Progress → Progress → Type 0 where
  here : {s : Progress} → Steps text s s
  next : {s t u : Progress} → Step text s t → Steps text t u → Steps text s u

-- here reading ends with a fault
pub data Stops (text : List ℕ) : Progress → TokenFault → Type 0 where
  bad_byte : {s : Progress} → IsForeign (left text s) → Stops text s (fault.BadByte s.at)
  open_comment : {s : Progress} → IsOpen (left text s) → Stops text s (fault.OpenComment s.at)
  bad_number : {s : Progress} {n : ℕ} → Begins (left text s) (Number n) → most < decimal (take n (left text s))
      → Stops text s (fault.BadNumber s.at)
  full : {s : Progress} {n : ℕ} → Begins (left text s) (Word n) → IsFull s.names (take n (left text s)) → Stops text s fault.Full

-- the text is these tokens; the names before and after
abbrev pub IsTokens : List ℕ → List (List ℕ) → List Lexeme → List (List ℕ) → Type 0
IsTokens text names lexemes after = Steps text (progress 0 names []) (progress (length text) after lexemes)

-- the text has this fault, behind tokens that are none
abbrev pub IsFault : List ℕ → List (List ℕ) → TokenFault → Type 0
IsFault text names f = (s : Progress) × Steps text (progress 0 names []) s × Stops text s f

-- ---- what holds of each text, with whatever names before

abbrev pub EachIsRead : Type 0
EachIsRead = (text : List ℕ) (names : List (List ℕ))
    → ((xs : List Lexeme) × (after : List (List ℕ)) × IsTokens text names xs after) ⊎ ((f : TokenFault) × IsFault text names f)

abbrev pub OneReading : Type 0
OneReading = (text : List ℕ) (names : List (List ℕ)) (xs ys : List Lexeme) (after other : List (List ℕ))
    → IsTokens text names xs after → IsTokens text names ys other → (xs ≡ ys) × (after ≡ other)

abbrev pub OneFault : Type 0
OneFault = (text : List ℕ) (names : List (List ℕ)) (e f : TokenFault) → IsFault text names e → IsFault text names f → e ≡ f

abbrev pub NeverBoth : Type 0
NeverBoth = (text : List ℕ) (names : List (List ℕ)) (e : TokenFault) (xs : List Lexeme) (after : List (List ℕ))
    → IsFault text names e → IsTokens text names xs after → ⊥
