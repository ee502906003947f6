-- The words of a call, without the program's own name.
use Rattle.std.specs.Prelude.{◌≡◌, ◌≢◌, ℕ, ◌<◌, List, [], ◌∷◌, length, slice_index, codes}
use Rattle.std.specs.Str.{IsUtf8}

abbrev pub dash : ℕ
dash = 45

-- a word that may name a file: it isn't empty, doesn't start with a dash, and is UTF-8
pub record NamesFile (word : List ℕ) : Type 0 where
  pub filled : 0 < length word
  pub undashed : slice_index word 0 ≢ dash
  pub text : IsUtf8 word

-- the words are `verify` and the name of a file
pub record IsVerify (words : List (List ℕ)) (file : List ℕ) : Type 0 where
  pub form : words ≡ codes "verify" ∷ file ∷ []
  pub name : NamesFile file

abbrev pub NoVerify : List (List ℕ) → Type 0
NoVerify words = (file : List ℕ) → IsVerify words file → ⊥
