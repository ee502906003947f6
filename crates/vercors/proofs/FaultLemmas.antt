-- Tokens that spell something have no fault, and tokens have one unexpected place.
use Rattle.std.proofs.Common.{◌≡◌, ℕ, [], ◌∷◌, ◌++◌, refl, sym, ap, subst, ◌∙◌, append_assoc}
use Rattle.pv_base.specs.declared.Span.{Span}
use Rattle.pv_tokens.specs.declared.Lexeme.{Lexeme}
use Rattle.pv_reading.specs.Marks.{Tokens, Marked, plain, next_of, place_of}
use Rattle.pv_reading.specs.Spelled.{Rule, Spells, SpellsWithin, IsUnexpected, IsTooDeep}

pub spelled_not_unexpected : {A : Type 0} (R : Rule A) (limit end : ℕ) (tokens : Tokens) (tree : A) (place : Span)
    → SpellsWithin R limit tokens tree → IsUnexpected R limit end tokens place → ⊥
spelled_not_unexpected R limit end tokens tree place s h =
    let At : Tokens → Type 0 = λ ts. Spells R ts tree in
    h.ends h.rest tree refl (subst At h.split (record { marks = s.marks; here = s.here; spelled = s.spelled }))

pub spelled_not_too_deep : {A : Type 0} (R : Rule A) (limit : ℕ) (tokens : Tokens) (tree : A) (place : Span)
    → SpellsWithin R limit tokens tree → IsTooDeep R limit tokens place → ⊥
spelled_not_too_deep R limit tokens tree place s h =
    let At : Tokens → Type 0 = λ ts. SpellsWithin R limit ts tree in
    h.none h.rest tree (subst At h.split s)

plain_append : (u v : Marked) → plain (u ++ v) ≡ plain u ++ plain v
plain_append [] v = refl
plain_append (x ∷ u) v = ap (λ (w : Tokens). x.0 ∷ w) (plain_append u v)

-- a list is cut at two places
data Cut (xs ys us vs : Tokens) : Type 0 where
  even : xs ≡ ys → us ≡ vs → Cut xs ys us vs
  first_longer : (z : Lexeme) (zs : Tokens) → xs ≡ ys ++ z ∷ zs → vs ≡ z ∷ (zs ++ us) → Cut xs ys us vs
  second_longer : (z : Lexeme) (zs : Tokens) → ys ≡ xs ++ z ∷ zs → us ≡ z ∷ (zs ++ vs) → Cut xs ys us vs

cut : (xs ys us vs : Tokens) → xs ++ us ≡ ys ++ vs → Cut xs ys us vs
cut [] [] us vs e = even refl e
cut [] (y ∷ ys) us vs e = second_longer y ys refl e
cut (x ∷ xs) [] us vs e = first_longer x xs refl (sym e)
cut (x ∷ xs) (y ∷ ys) us vs e =
    let heads : x ≡ y = cc in
    let tails : xs ++ us ≡ ys ++ vs = cc in
    by heads (cut xs ys us vs tails)
  where
    by : x ≡ y → Cut xs ys us vs → Cut (x ∷ xs) (y ∷ ys) us vs
    by h (even a b) = even (cc) b
    by h (first_longer z zs a b) = first_longer z zs (cc) b
    by h (second_longer z zs a b) = second_longer z zs (cc) b

-- behind an unexpected place no other one stands
none_behind : {A : Type 0} (R : Rule A) (limit end : ℕ) (tokens : Tokens) (place other : Span)
    (h : IsUnexpected R limit end tokens place) (k : IsUnexpected R limit end tokens other)
    (z : Lexeme) (zs : Tokens) → plain k.front ≡ plain h.front ++ z ∷ zs → h.rest ≡ z ∷ (zs ++ k.rest) → ⊥
none_behind R limit end tokens place other h k z zs longer rest =
    h.ends (z ∷ (zs ++ plain k.more)) k.tree (sym (ap next_of rest)) (record {
      marks = k.front ++ k.more;
      here = plain_append k.front k.more ∙ ap (λ (w : Tokens). w ++ plain k.more) longer
          ∙ append_assoc (plain h.front) (z ∷ zs) (plain k.more);
      spelled = k.spelled;
    })

pub one_unexpected : {A : Type 0} (R : Rule A) (limit end : ℕ) (tokens : Tokens) (place other : Span)
    → IsUnexpected R limit end tokens place → IsUnexpected R limit end tokens other → place ≡ other
one_unexpected R limit end tokens place other h k = by (cut (plain h.front) (plain k.front) h.rest k.rest (sym h.split ∙ k.split))
  where
    by : Cut (plain h.front) (plain k.front) h.rest k.rest → place ≡ other
    by (even a b) = h.stands ∙ ap (place_of end) b ∙ sym k.stands
    by (first_longer z zs a b) = absurd (none_behind R limit end tokens other place k h z zs a b)
    by (second_longer z zs a b) = absurd (none_behind R limit end tokens place other h k z zs a b)
