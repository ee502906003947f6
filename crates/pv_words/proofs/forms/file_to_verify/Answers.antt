use Rattle.std.proofs.Common.{◌≡◌, ◌<◌, ◌≤◌, List, ◌∷◌, [], length, get_or, codes, sym, ◌∙◌, subst, arith}
use Rattle.std.proofs.lemmas.Slice.Eq.{bytes_eq-Decides}
use Rattle.pv_words.specs.Words.{NamesFile}
use Rattle.pv_words.proofs.forms.file_to_verify.Goals as goal

-- a list of two items is those two
two_items : {A : Type 0} (xs : List A) (a b : A) → 2 ≤ length xs → length xs < 3 → a ≡ get_or xs 0 a → b ≡ get_or xs 1 b
    → xs ≡ a ∷ b ∷ []
two_items [] a b low high e f = absurd (omega arith)
two_items (x ∷ []) a b low high e f = absurd (omega arith)
two_items (x ∷ y ∷ []) a b low high e f = cc
two_items (x ∷ y ∷ z ∷ xs) a b low high e f = absurd (omega arith)

pub returns-then-names_file : goal.returns-then-names_file
returns-then-names_file c =
    let two : c.as_slice.result.now ≡ c.command-item.result ∷ c.file-item.result ∷ [] =
    two_items _ _ _ c.in-len2.len_at_least c.in-len2.len_below c.command-item.is c.file-item.is in
    let command : c.as_slice-2.result.now ≡ codes "verify" = (bytes_eq-Decides _ _).0 (sym c.if-eq.ensures) in
    let named : NamesFile c.as_slice-then-eq.result.now = c.names_file.ensures.0 c.if-names_file.true in
    record { form = cc; name = subst NamesFile (c.as_slice-then-eq.ensures ∙ sym c.as_slice-then-names_file.ensures) named }
