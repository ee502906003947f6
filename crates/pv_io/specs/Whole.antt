-- What it is to load a whole file and to write a whole piece.
use Rattle.std.specs.Prelude.{◌≡◌, ℕ, ◌+◌, ◌≤◌, ◌<◌, List, ◌++◌, take, length, Option, Some, None, Result, Ok, Err, ⊤, IsSomeAnd}
use Rattle.pv_io.specs.Count.{HasRisen}
use Rattle.pv_io.specs.declared.faults.LoadFault.{LoadFault}
use Rattle.pv_io.specs.declared.faults.LoadFault.TheVariants.{NoFile, TooLarge, Failed, NoMemory}

-- what the answer of a load says of the bytes that stand under the name
abbrev pub Loads : Option (List ℕ) → ℕ → Result (List ℕ) LoadFault → Type 0
Loads file limit (Ok bytes) = file ≡ Some bytes
Loads file limit (Err NoFile) = file ≡ None
Loads file limit (Err TooLarge) = IsSomeAnd file (λ bytes. limit < length bytes)
Loads file limit (Err Failed) = ⊤
Loads file limit (Err NoMemory) = ⊤

-- how a load opened the shelf: once, with a hit, a miss, or a fault that is neither
abbrev pub CountsLoad : Result (List ℕ) LoadFault → ℕ → ℕ → ℕ → ℕ → Type 0
CountsLoad (Ok bytes) hits misses hits' misses' = (hits' ≡ hits + 1) × (misses' ≡ misses)
CountsLoad (Err NoFile) hits misses hits' misses' = (hits' ≡ hits) × (misses' ≡ misses + 1)
CountsLoad (Err TooLarge) hits misses hits' misses' = (hits' ≡ hits + 1) × (misses' ≡ misses)
CountsLoad (Err Failed) hits misses hits' misses' = (hits ≤ hits') × (hits' ≤ hits + 1) × (misses' ≡ misses)
CountsLoad (Err NoMemory) hits misses hits' misses' = (hits' ≡ hits + 1) × (misses' ≡ misses)

-- the count of faults rises exactly where the load failed
abbrev pub CountsLoadFault : Result (List ℕ) LoadFault → ℕ → ℕ → Type 0
CountsLoadFault (Ok bytes) faults faults' = faults' ≡ faults
CountsLoadFault (Err NoFile) faults faults' = faults' ≡ faults
CountsLoadFault (Err TooLarge) faults faults' = faults' ≡ faults
CountsLoadFault (Err Failed) faults faults' = HasRisen faults faults'
CountsLoadFault (Err NoMemory) faults faults' = faults' ≡ faults

-- how many bytes were taken, as against those that may be
abbrev pub CountsLoadTaken : Result (List ℕ) LoadFault → ℕ → ℕ → Type 0
CountsLoadTaken (Ok bytes) limit taken = (taken ≡ length bytes) × (length bytes ≤ limit)
CountsLoadTaken (Err NoFile) limit taken = taken ≡ 0
CountsLoadTaken (Err TooLarge) limit taken = taken ≡ limit + 1
CountsLoadTaken (Err Failed) limit taken = taken ≤ limit
CountsLoadTaken (Err NoMemory) limit taken = taken ≤ limit

-- a prefix of the piece, and not all of it, was appended
pub record AppendsPrefix (written : List ℕ) (written' : Option (List ℕ)) (piece : List ℕ) : Type 0 where
  pub count : ℕ
  pub short : count < length piece
  pub appended : written' ≡ Some (written ++ take count piece)

-- a whole write appends the piece, and one that fails appends a prefix of it
abbrev pub AppendsWhole : {A E : Type 0} → Option (List ℕ) → Option (List ℕ) → List ℕ → Result A E → Type 0
AppendsWhole None written' piece answer = ⊤
AppendsWhole (Some written) written' piece (Ok done) = written' ≡ Some (written ++ piece)
AppendsWhole (Some written) written' piece (Err fault) = AppendsPrefix written written' piece
