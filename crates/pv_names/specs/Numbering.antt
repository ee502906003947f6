-- A list of texts numbers each of them by its place.
use Rattle.std.specs.Prelude.{◌≡◌, ℕ, List, [], ◌∷◌, ◌++◌, Option, position, nat_eq, length, is_some, if◌then◌else◌, unwrap_or}
use Rattle.std.specs.Cmp.Lexicographic.{pointwise}

-- how many names a list can have
abbrev pub most_names : ℕ
most_names = 65536

-- the place of the text, where it is in the list
abbrev pub place_of : List (List ℕ) → List ℕ → Option ℕ
place_of names text = position (pointwise nat_eq text) names

-- the number of the text: its place, or the next one
abbrev pub number_of : List (List ℕ) → List ℕ → ℕ
number_of names text = unwrap_or (place_of names text) (length names)

-- the list with the text in it, which goes last where it is new
abbrev pub with_text : List (List ℕ) → List ℕ → List (List ℕ)
with_text names text = if is_some (place_of names text) then names else names ++ text ∷ []

-- the one list is the other and some more names behind it
pub record Extends (names more : List (List ℕ)) : Type 0 where
  pub later : List (List ℕ)
  pub same : more ≡ names ++ later
