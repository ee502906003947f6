-- What a function of the code returned is what reading gives, unless memory ran out.
use Rattle.std.specs.Prelude.{ℕ, ◌≡◌, ◌-◌, [], ◌∷◌, length, drop, Option, Some, None, Result, Ok, Err}
use Rattle.pv_base.specs.declared.Span.{Span}
use Rattle.pv_tokens.specs.declared.LexemeKind.{LexemeKind}
use Rattle.pv_reading.specs.declared.fault.ReadFault.{ReadFault}
use Rattle.pv_reading.specs.declared.fault.ReadFault.TheVariants as fault
use Rattle.pv_reading.specs.declared.fault.ParseFault.{ParseFault}
use Rattle.pv_reading.specs.declared.fault.ParseFault.TheVariants as parse
use Rattle.pv_reading.specs.Marks.{Tokens, place_of}
use Rattle.pv_reading.specs.Reading.{Reading, Good, Bad, Deep}

abbrev pub Fails : {A : Type 0} → ReadFault → Reading A → Type 0
Fails (fault.Unexpected left) read = read ≡ Bad left
Fails (fault.TooDeep left) read = read ≡ Deep left
Fails fault.NoMemory read = Unit {0}

-- the value and the rest of what was returned are what is read
abbrev pub Gives : {X A : Type 0} → (X → A) → (X → Tokens) → Result X ReadFault → Reading A → Type 0
Gives value rest (Ok x) read = read ≡ Good (value x) (rest x)
Gives value rest (Err e) read = Fails e read

-- the value was returned, unless memory ran out
abbrev pub GivesNext : {A : Type 0} → Result A ReadFault → A → Type 0
GivesNext (Ok x) a = x ≡ a
GivesNext (Err e) a = e ≡ fault.NoMemory

abbrev pub seen : {B : Type 0} → Option B → Span → Tokens → Option (B × Span × Tokens)
seen None s us = None
seen (Some b) s us = Some (b, s, us)

-- what f makes of the first token, the place of that, and the tokens behind it
abbrev pub ahead : {B : Type 0} → (LexemeKind → Option B) → Tokens → Option (B × Span × Tokens)
ahead f [] = None
ahead f (x ∷ us) = seen (f x.kind) x.span us

-- a fault with its place in a text of that length, of which these are the tokens
abbrev pub fault_at : ℕ → Tokens → ReadFault → ParseFault
fault_at end tokens (fault.Unexpected left) = parse.Unexpected (place_of end (drop (length tokens - left) tokens))
fault_at end tokens (fault.TooDeep left) = parse.TooDeep (place_of end (drop (length tokens - left) tokens))
fault_at end tokens fault.NoMemory = parse.NoMemory
