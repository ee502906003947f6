-- The first entry of a name, and where it stands.
use Rattle.std.proofs.Common.{◌≡◌, ℕ, ◌<◌, ◌≤◌, List, length, Bool, true, false, cond, Some, None, find, position, slice_get, sym, ◌∙◌, ap, refl, inl, inr, arith}
use Rattle.std.specs.List.{position_or_len}
use Rattle.std.specs.Option.{option_map}
use Rattle.std.proofs.lemmas.Option.{slice_get_cases, slice_get_past}
use Rattle.std.proofs.lemmas.List.Folds.{find_at}
use Rattle.std.proofs.lemmas.Bool.{ltb-true}
use Rattle.std.proofs.Math.Dec.{ltb}
use Rattle.std.proofs.lemmas.Grind.{common_steps}
use Rattle.pv_io.specs.declared.memory.FileEntry.{FileEntry}
use Rattle.pv_io.specs.Named.{has_name, file_named, bytes_from}

-- a place that is given only where a test passes
some_passes : (b : Bool) (n k : ℕ) → Some k ≡ cond b (Some n) None → (b ≡ true) × (k ≡ n)
some_passes true n k e = (refl, cc e)
some_passes false n k e = absurd (cc e)

none_fails : (b : Bool) (n : ℕ) → None ≡ cond b (Some n) None → b ≡ false
none_fails true n e = absurd (cc e)
none_fails false n e = refl

-- where a first element that passes stands, there it is
find_position : {X : Type 0} (p : X → Bool) (xs : List X) (k : ℕ) → Some k ≡ position p xs
    → (find p xs ≡ slice_get xs k) × (k < length xs)
find_position p xs k e =
    let n = position_or_len p xs in
    let h = some_passes (ltb n (length xs)) n k e in
    let within = ltb-true n (length xs) h.0 in
    (find_at p xs ∙ ap (slice_get xs) (sym h.1), omega (arith, h.1, within))

find_nowhere : {X : Type 0} (p : X → Bool) (xs : List X) → None ≡ position p xs → find p xs ≡ None
find_nowhere p xs e =
    let n = position_or_len p xs in
    let fails = none_fails (ltb n (length xs)) n e in
    find_at p xs ∙ slice_get_past xs n (not_below n (length xs) fails)
  where
    not_below : (m l : ℕ) → ltb m l ≡ false → l ≤ m
    not_below m l f = grind (arith, common_steps, f)

-- what stands at a place within the list
taken : (files : List FileEntry) (place : ℕ) → place < length files
    → option_map (λ entry. entry.bytes) (slice_get files place) ≡ Some (bytes_from files place 0)
taken files place within =
    elim (slice_get_cases files place).1 [ inl there ↦ rw there.2 refl | inr past ↦ absurd (omega (arith, past.0)) ]

pub found_at : (files : List FileEntry) (name : List ℕ) (place : ℕ) → Some place ≡ position (has_name name) files
    → file_named files name ≡ Some (bytes_from files place 0)
found_at files name place e =
    let h = find_position (has_name name) files place e in
    ap (option_map (λ entry. entry.bytes)) h.0 ∙ taken files place h.1

pub found_nowhere : (files : List FileEntry) (name : List ℕ) → None ≡ position (has_name name) files
    → file_named files name ≡ None
found_nowhere files name e = ap (option_map (λ entry. entry.bytes)) (find_nowhere (has_name name) files e)
