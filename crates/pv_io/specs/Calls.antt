-- What one call of a shelf or a sink answers and does, where the meanings are told. A meaning that is not told claims nothing.
use Rattle.std.specs.Prelude.{◌≡◌, ℕ, zero, suc, ◌≤◌, ◌<◌, Bool, true, false, List, [], ◌++◌, take, drop, length, Option, Some, None, Result, Ok, Err, ⊤}
use Rattle.pv_io.specs.Count.{counted, HasRisen}

-- which bytes stand under each name
abbrev pub NamedBytes : Type 0
NamedBytes = List ℕ → Option (List ℕ)

-- `open` answers whether there is a file of that name, and then the rest is the whole file
abbrev pub OpensFile : {E : Type 0} → Option NamedBytes → List ℕ → Result Bool E → Option (List ℕ) → Type 0
OpensFile None name answer rest = ⊤
OpensFile (Some files) name (Ok true) None = ⊥
OpensFile (Some files) name (Ok true) (Some bytes) = files name ≡ Some bytes
OpensFile (Some files) name (Ok false) rest = files name ≡ None
OpensFile (Some files) name (Err fault) rest = ⊤

-- only an `open` that answers true changes the rest
abbrev pub KeepsRest : {E : Type 0} → Result Bool E → Option (List ℕ) → Option (List ℕ) → Type 0
KeepsRest (Ok true) rest rest' = ⊤
KeepsRest (Ok false) rest rest' = rest' ≡ rest
KeepsRest (Err fault) rest rest' = rest' ≡ rest

-- an `open` that answers true is one more hit, one that answers false is one more miss, and another is neither
abbrev pub CountsOpening : {E : Type 0} → Result Bool E → ℕ → ℕ → ℕ → ℕ → Type 0
CountsOpening (Ok true) hits misses hits' misses' = (hits' ≡ counted hits 1) × (misses' ≡ misses)
CountsOpening (Ok false) hits misses hits' misses' = (hits' ≡ hits) × (misses' ≡ counted misses 1)
CountsOpening (Err fault) hits misses hits' misses' = (hits' ≡ hits) × (misses' ≡ misses)

-- the first n bytes of the rest stand at the front of the piece, and are gone from the rest; none at all for a piece
-- that is not empty only at the end of the rest
pub record MovesFront (rest : List ℕ) (rest' : Option (List ℕ)) (piece : List ℕ) (n : ℕ) : Type 0 where
  pub within : n ≤ length rest
  pub front : take n piece ≡ take n rest
  pub others : rest' ≡ Some (drop n rest)
  pub end : n ≡ 0 → 0 < length piece → rest ≡ []

-- what `read` does to the rest and the piece; where it fails the rest stays
abbrev pub ReadsRest : {E : Type 0} → Option (List ℕ) → Option (List ℕ) → List ℕ → Result ℕ E → Type 0
ReadsRest None rest' piece answer = ⊤
ReadsRest (Some rest) rest' piece (Ok n) = MovesFront rest rest' piece n
ReadsRest (Some rest) rest' piece (Err fault) = rest' ≡ Some rest

-- what `read` adds to the count of bytes taken
abbrev pub CountsTaken : {E : Type 0} → Result ℕ E → ℕ → ℕ → Type 0
CountsTaken (Ok n) taken taken' = taken' ≡ counted taken n
CountsTaken (Err fault) taken taken' = taken' ≡ taken

-- the count of faults rises exactly where the call fails
abbrev pub CountsFault : {A E : Type 0} → Result A E → ℕ → ℕ → Type 0
CountsFault (Ok answer) faults faults' = faults' ≡ faults
CountsFault (Err fault) faults faults' = HasRisen faults faults'

-- what `write` does to the bytes written; where it fails they stay
abbrev pub AppendsFront : {E : Type 0} → Option (List ℕ) → Option (List ℕ) → List ℕ → Result ℕ E → Type 0
AppendsFront None written' piece answer = ⊤
AppendsFront (Some written) written' piece (Ok n) = written' ≡ Some (written ++ take n piece)
AppendsFront (Some written) written' piece (Err fault) = written' ≡ Some written

-- the count of faults rises where the call fails and where it takes nothing of a piece that is not empty, and it stays
-- where some bytes are taken
abbrev pub CountsRefusal : {E : Type 0} → Result ℕ E → List ℕ → ℕ → ℕ → Type 0
CountsRefusal (Ok zero) piece faults faults' = 0 < length piece → HasRisen faults faults'
CountsRefusal (Ok (suc n)) piece faults faults' = faults' ≡ faults
CountsRefusal (Err fault) piece faults faults' = HasRisen faults faults'
