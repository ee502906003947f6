-- Names go behind the names of before.
use Rattle.std.proofs.Common.{◌≡◌, ℕ, Bool, true, false, cond, List, [], ◌∷◌, ◌++◌, refl, sym, ap, ◌∙◌, append_assoc, is_some}
use Rattle.std.proofs.lemmas.List.{append-nil}
use Rattle.pv_names.specs.Numbering.{place_of, with_text, Extends}

-- no name is new
pub extends_same : (names more : List (List ℕ)) → more ≡ names → Extends names more
extends_same names more e = record { later = []; same = e ∙ sym (append-nil names) }

-- one name, which goes last where it is new
pub extends_word : (names : List (List ℕ)) (word : List ℕ) (more : List (List ℕ)) → more ≡ with_text names word
    → Extends names more
extends_word names word more e = by (is_some {T = ℕ} (place_of names word)) refl
  where
    by : (b : Bool) → is_some {T = ℕ} (place_of names word) ≡ b → Extends names more
    by true h = extends_same names more (e ∙ ap (λ b. cond b names (names ++ word ∷ [])) h)
    by false h = record { later = word ∷ []; same = e ∙ ap (λ b. cond b names (names ++ word ∷ [])) h }

pub extends_then : {a b c : List (List ℕ)} → Extends a b → Extends b c → Extends a c
extends_then {a = a} h k = record {
  later = h.later ++ k.later;
  same = k.same ∙ ap (λ ns. ns ++ k.later) h.same ∙ append_assoc a h.later k.later;
}
