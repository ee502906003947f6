-- Files that lie in memory under their names.
use Rattle.std.specs.Prelude.{ℕ, Bool, List, [], Option, find, drop, slice_get, unwrap_or, nat_eq}
use Rattle.std.specs.Option.{option_map}
use Rattle.std.specs.List.{list_any}
use Rattle.std.specs.Cmp.Lexicographic.{pointwise}
use Rattle.pv_io.specs.declared.memory.FileEntry.{FileEntry}

abbrev pub has_name : List ℕ → FileEntry → Bool
has_name name entry = pointwise nat_eq entry.name name

-- the bytes under a name, which are those of the first entry of that name
abbrev pub file_named : List FileEntry → List ℕ → Option (List ℕ)
file_named files name = option_map (λ entry. entry.bytes) (find (has_name name) files)

-- the bytes of the entry at a place, from a byte on; none past the last entry
abbrev pub bytes_from : List FileEntry → ℕ → ℕ → List ℕ
bytes_from files place at = drop at (unwrap_or (option_map (λ entry. entry.bytes) (slice_get files place)) [])

-- whether the number is one of the calls
abbrev pub is_among : List ℕ → ℕ → Bool
is_among calls number = list_any (λ call. nat_eq call number) calls
