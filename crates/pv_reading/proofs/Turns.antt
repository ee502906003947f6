-- Lists, as the loops of the code go on.
use Rattle.std.proofs.Common.{ℕ, ◌≡◌, ◌<◌, List, [], ◌∷◌, ◌++◌, length, Option, Some, None, sym, ap, ◌∙◌, arith}
use Rattle.pv_base.specs.declared.Span.{Span}
use Rattle.pv_tokens.specs.declared.LexemeKind.{LexemeKind}
use Rattle.pv_reading.specs.Given.{ahead}
use Rattle.pv_reading.specs.Marks.{Tokens}
use Rattle.pv_reading.specs.Reading.{Good, Bad, Parser, onward, ◌>>=◌, give, is_fixed, fixed, expect, many, series, repeated}
use Rattle.pv_reading.proofs.Steps.{pick_some, pick_none, expect_some, expect_none, ahead_shorter}
use Rattle.pv_reading.proofs.Loops.{Eats, Keeps, many_is, series_is, repeated_is}

-- Items up to the token j.

module _ {A : Type 0} (j : ℕ) (p : Parser A) (E : Eats p) (found : List A) (ts : Tokens) where
  pub many_end : (us : Tokens) (l : Span) → ahead (is_fixed j) ts ≡ Some (tt, l, us) → many j p found ts ≡ Good (found, l) us
  many_end us l h =
      many_is j p E found ts ∙ pick_some (is_fixed j) (λ t l. give (found, l)) (p
      >>= λ x. many j p (found ++ x ∷ [])) ts us tt l h

  pub many_next : ahead (is_fixed j) ts ≡ None → many j p found ts ≡ onward (λ x. many j p (found ++ x ∷ [])) (p ts)
  many_next h =
      many_is j p E found ts ∙ pick_none (is_fixed j) (λ t l. give (found, l)) (p >>= λ x. many j p (found ++ x ∷ [])) ts h

  pub many_step : (all : List A) (us : Tokens) (x : A) → ahead (is_fixed j) ts ≡ None → p ts ≡ Good x us → all ≡ found ++ x ∷ []
      → many j p found ts ≡ many j p all us
  many_step all us x h g a = many_next h ∙ ap (onward (λ x. many j p (found ++ x ∷ []))) g ∙ ap (λ z. many j p z us) (sym a)

-- Items with the token c between, up to the token j.

module _ {A : Type 0} (c j : ℕ) (p : Parser A) (E : Keeps p) where
  abbrev series_behind : (List A → Parser (List A × Span)) → List A → Parser (List A × Span)
  series_behind more all = fixed c (λ s. more all) (expect j (λ l. give (all, l)))

  module _ (found : List A) (ts : Tokens) where
    pub series_first : series c j p found ts ≡ onward (λ x. series_behind (series c j p) (found ++ x ∷ [])) (p ts)
    series_first = series_is c j p E found ts

    module _ (us : Tokens) (x : A) (all : List A) (g : p ts ≡ Good x us) (a : all ≡ found ++ x ∷ []) where
      series_then : series c j p found ts ≡ series_behind (series c j p) all us
      series_then =
          series_first ∙ ap (onward (λ x. series_behind (series c j p) (found ++ x ∷ []))) g
          ∙ ap (λ z. series_behind (series c j p) z us) (sym a)

      pub series_step : (vs : Tokens) (s : Span) → ahead (is_fixed c) us ≡ Some (tt, s, vs)
          → series c j p found ts ≡ series c j p all vs
      series_step vs s h =
          series_then ∙ pick_some (is_fixed c) (λ t s. series c j p all) (expect j (λ l. give (all, l))) us vs tt s h

      pub series_last : ahead (is_fixed c) us ≡ None → series c j p found ts ≡ expect j (λ l. give (all, l)) us
      series_last h = series_then ∙ pick_none (is_fixed c) (λ t s. series c j p all) (expect j (λ l. give (all, l))) us h

      pub series_end : (vs : Tokens) (l : Span) → ahead (is_fixed c) us ≡ None → ahead (is_fixed j) us ≡ Some (tt, l, vs)
          → series c j p found ts ≡ Good (all, l) vs
      series_end vs l h k = series_last h ∙ expect_some j (λ l. give (all, l)) us vs l k

      pub series_open : ahead (is_fixed c) us ≡ None → ahead (is_fixed j) us ≡ None → series c j p found ts ≡ Bad (length us)
      series_open h k = series_last h ∙ expect_none j (λ l. give (all, l)) us k

    pub series_smaller : (us vs : Tokens) (x : A) (s : Span) → p ts ≡ Good x us → ahead (is_fixed c) us ≡ Some (tt, s, vs)
        → length vs < length ts
    series_smaller us vs x s g h = let t = E ts x us g in let r = ahead_shorter (is_fixed c) us vs tt s h in omega arith

-- Items that each begin with a token that f knows.

module _ {A B : Type 0} (f : LexemeKind → Option B) (q : B → Span → Parser A) (E : (b : B) (s : Span) → Keeps (q b s)) where
  module _ (found : List A) (ts : Tokens) where
    pub repeated_end : ahead f ts ≡ None → repeated f q found ts ≡ Good found ts
    repeated_end h =
        repeated_is f q E found ts ∙ pick_none f (λ b s. q b s >>= λ x. repeated f q (found ++ x ∷ [])) (give found) ts h

    module _ (us : Tokens) (b : B) (s : Span) (h : ahead f ts ≡ Some (b, s, us)) where
      pub repeated_next : repeated f q found ts ≡ onward (λ x. repeated f q (found ++ x ∷ [])) (q b s us)
      repeated_next =
          repeated_is f q E found ts ∙ pick_some f (λ b s. q b s >>= λ x. repeated f q (found ++ x ∷ [])) (give found) ts us b s h

      pub repeated_step : (all : List A) (vs : Tokens) (x : A) → q b s us ≡ Good x vs → all ≡ found ++ x ∷ []
          → repeated f q found ts ≡ repeated f q all vs
      repeated_step all vs x g a =
          repeated_next ∙ ap (onward (λ x. repeated f q (found ++ x ∷ []))) g ∙ ap (λ z. repeated f q z vs) (sym a)

  pub repeated_smaller : (ts us vs : Tokens) (b : B) (s : Span) (x : A) → ahead f ts ≡ Some (b, s, us) → q b s us ≡ Good x vs
      → length vs < length ts
  repeated_smaller ts us vs b s x h g = let t = E b s us x vs g in let r = ahead_shorter f ts us b s h in omega arith
