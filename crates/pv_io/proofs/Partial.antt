-- A load and a whole write that have come some way.
use Rattle.std.proofs.Common.{◌≡◌, ◌<◌, ◌≤◌, ◌+◌, ◌-◌, List, ℕ, ◌++◌, Option, Some, None, Result, Ok, Err, IsErr, length, take, length-append, append-nil, sym, ◌∙◌, ap, arith}
use Rattle.std.proofs.Math.Seq.{take-append_seam, take-append-add}
use Rattle.pv_io.specs.Whole.{AppendsPrefix, AppendsWhole}
use Rattle.pv_io.specs.Calls.{AppendsFront}

-- these bytes were read of the rest that there was, and the others are the rest that there is
abbrev pub HasRead : Option (List ℕ) → Option (List ℕ) → List ℕ → Type 0
HasRead None rest bytes = Unit {0}
HasRead (Some all) None bytes = ⊥
HasRead (Some all) (Some rest) bytes = all ≡ bytes ++ rest

-- of the piece all but the rest was appended
abbrev pub HasWritten : Option (List ℕ) → Option (List ℕ) → List ℕ → List ℕ → Type 0
HasWritten None written' piece rest = Unit {0}
HasWritten (Some written) None piece rest = ⊥
HasWritten (Some written) (Some written') piece rest = (written' ++ rest ≡ written ++ piece) × (length written ≤ length written')

-- where some of the piece is left, a prefix of it was appended
pub prefix_appended : (w w' p r : List ℕ) → w' ++ r ≡ w ++ p → length w ≤ length w' → 0 < length r → AppendsPrefix w (Some w') p
prefix_appended w w' p r e longer left =
    let n = length w' - length w in
    let sum : length w + n ≡ length w' = omega arith in
    let lengths = simp length-append at (ap length e) in
    record {
      count = n;
      short = omega (arith, lengths);
      appended =
          ap Some (sym (take-append_seam w' r) ∙ (ap (take (length w')) e) ∙ ap (λ k. take k (w ++ p)) (sym sum)
          ∙ take-append-add w p n);
    }

-- so a whole write that fails there appends a prefix
pub stopped : {A E : Type 0} (written written' : Option (List ℕ)) (piece rest : List ℕ) (answer : Result A E)
    → HasWritten written written' piece rest → 0 < length rest → IsErr answer → AppendsWhole written written' piece answer
stopped None written' piece rest answer h left err = tt
stopped (Some w) None piece rest answer h left err = absurd h
stopped (Some w) (Some w') piece rest (Ok done) h left err = absurd (cc err)
stopped (Some w) (Some w') piece rest (Err fault) h left err = prefix_appended w w' piece rest h.0 h.1 left

-- the same after a call that fails, and after one that takes nothing
pub stopped_failed : {A E D : Type 0} (written w1 w2 : Option (List ℕ)) (piece rest : List ℕ) (fault : D) (answer : Result A E)
    → HasWritten written w1 piece rest → AppendsFront {E = D} w1 w2 rest (Err fault) → 0 < length rest → IsErr answer
    → AppendsWhole written w2 piece answer
stopped_failed None w1 w2 piece rest fault answer h a left err = tt
stopped_failed (Some w) None w2 piece rest fault answer h a left err = absurd h
stopped_failed (Some w) (Some w1) w2 piece rest fault answer h a left err =
    rw a (stopped (Some w) (Some w1) piece rest answer h left err)

pub stopped_empty : {A E : Type 0} (D : Type 0) (written w1 w2 : Option (List ℕ)) (piece rest : List ℕ) (answer : Result A E)
    → HasWritten written w1 piece rest → AppendsFront {E = D} w1 w2 rest (Ok 0) → 0 < length rest → IsErr answer
    → AppendsWhole written w2 piece answer
stopped_empty D None w1 w2 piece rest answer h a left err = tt
stopped_empty D (Some w) None w2 piece rest answer h a left err = absurd h
stopped_empty D (Some w) (Some w1) w2 piece rest answer h a left err =
    rw (a, append-nil) (stopped (Some w) (Some w1) piece rest answer h left err)
