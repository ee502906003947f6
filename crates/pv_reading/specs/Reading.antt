-- Reading as a function: what a reader answers on a list of tokens, and what readers are made of.
use Rattle.std.specs.Prelude.{ℕ, zero, suc, List, [], ◌∷◌, ◌++◌, length, Option, Some, None, if◌then◌else◌, nat_eq}
use Rattle.pv_base.specs.declared.Name.{Name}
use Rattle.pv_base.specs.declared.Span.{Span}
use Rattle.pv_tokens.specs.declared.Lexeme.{Lexeme}
use Rattle.pv_tokens.specs.declared.LexemeKind.{LexemeKind}
use Rattle.pv_tokens.specs.declared.LexemeKind.TheVariants as k
use Rattle.pv_ast.specs.declared.Word.{Word}
use Rattle.pv_reading.specs.Marks.{Tokens}

-- A tree and the tokens that are left. Or so many tokens are left, from the first that doesn't go on with those before it, or
-- from the first that is reached with too many open constructs.
pub data Reading (A : Type 0) : Type 0 where
  Good : A → Tokens → Reading A
  Bad : ℕ → Reading A
  Deep : ℕ → Reading A

abbrev pub Parser : Type 0 → Type 0
Parser A = Tokens → Reading A

abbrev pub onward : {A B : Type 0} → (A → Parser B) → Reading A → Reading B
onward f (Good a us) = f a us
onward f (Bad left) = Bad left
onward f (Deep left) = Deep left

infixl 10 ◌>>=◌
abbrev pub ◌>>=◌ : {A B : Type 0} → Parser A → (A → Parser B) → Parser B
(p >>= f) ts = onward f (p ts)

abbrev pub give : {A : Type 0} → A → Parser A
give a ts = Good a ts

abbrev pub refuse : {A : Type 0} → Parser A
refuse ts = Bad (length ts)

-- One token of sight: q of what f makes of the token that stands here and of its place, behind it; where f makes nothing of
-- it, or none stands here, r.

abbrev pub chosen : {A B : Type 0} → Option B → (B → Span → Parser A) → Parser A → Lexeme → Parser A
chosen (Some b) q r x us = q b x.span us
chosen None q r x us = r (x ∷ us)

abbrev pub pick : {A B : Type 0} → (LexemeKind → Option B) → (B → Span → Parser A) → Parser A → Parser A
pick f q r [] = r []
pick f q r (x ∷ us) = chosen (f x.kind) q r x us

-- reading with the readers one deeper, behind the token that opens a construct; without any, that token is one too many
abbrev pub opened : {A R : Type 0} → Option R → (R → Parser A) → Parser A
opened None f us = Deep (suc (length us))
opened (Some r) f us = f r us

-- What makes a token known.

abbrev pub is_fixed : ℕ → LexemeKind → Option (Unit {0})
is_fixed j (k.Fixed i) = if nat_eq i j then Some tt else None
is_fixed j (k.Named n) = None
is_fixed j (k.Number n) = None

abbrev pub name_of : LexemeKind → Option Name
name_of (k.Named n) = Some n
name_of (k.Number n) = None
name_of (k.Fixed j) = None

abbrev pub number_of : LexemeKind → Option ℕ
number_of (k.Number n) = Some n
number_of (k.Named n) = None
number_of (k.Fixed j) = None

abbrev pub entry_of : {B : Type 0} → List (ℕ × B) → ℕ → Option B
entry_of [] j = None
entry_of (x ∷ t) j = if nat_eq j x.0 then Some x.1 else entry_of t j

-- what a table says of the number of a fixed token
abbrev pub listed_in : {B : Type 0} → List (ℕ × B) → LexemeKind → Option B
listed_in t (k.Fixed j) = entry_of t j
listed_in t (k.Named n) = None
listed_in t (k.Number n) = None

-- A token that may stand here, or has to.

abbrev pub fixed : {A : Type 0} → ℕ → (Span → Parser A) → Parser A → Parser A
fixed j q = pick (is_fixed j) (λ t s. q s)

abbrev pub named : {A : Type 0} → (Word → Parser A) → Parser A → Parser A
named q = pick name_of (λ n s. q (record { name = n; span = s }))

abbrev pub numbered : {A : Type 0} → (ℕ → Span → Parser A) → Parser A → Parser A
numbered q = pick number_of q

abbrev pub expect : {A : Type 0} → ℕ → (Span → Parser A) → Parser A
expect j q = fixed j q refuse

abbrev pub expect_name : {A : Type 0} → (Word → Parser A) → Parser A
expect_name q = named q refuse

abbrev pub expect_number : {A : Type 0} → (ℕ → Span → Parser A) → Parser A
expect_number q = numbered q refuse

-- Lists. Each turn takes a token, so that as many turns as there are tokens, and one more, are never too few.

-- what p reads, again and again, up to the token j and behind it, and the place of that
abbrev pub many_turns : {A : Type 0} → ℕ → ℕ → Parser A → List A → Parser (List A × Span)
many_turns zero j p found = refuse
many_turns (suc m) j p found = fixed j (λ l. give (found, l)) (p >>= λ x. many_turns m j p (found ++ x ∷ []))

unfoldable pub many : {A : Type 0} → ℕ → Parser A → List A → Parser (List A × Span)
many j p found us = many_turns (suc (length us)) j p found us

-- what p reads, once or more with the token c between, up to the token j and behind it, and the place of that
abbrev pub series_turns : {A : Type 0} → ℕ → ℕ → ℕ → Parser A → List A → Parser (List A × Span)
series_turns zero c j p found = refuse
series_turns (suc m) c j p found =
    p >>= λ x. fixed c (λ s. series_turns m c j p (found ++ x ∷ [])) (expect j (λ l. give (found ++ x ∷ [], l)))

unfoldable pub series : {A : Type 0} → ℕ → ℕ → Parser A → List A → Parser (List A × Span)
series c j p found us = series_turns (suc (length us)) c j p found us

-- the same, or nothing up to the token j
abbrev pub series_or_none : {A : Type 0} → ℕ → ℕ → Parser A → Parser (List A × Span)
series_or_none c j p = fixed j (λ l. give ([], l)) (series c j p [])

-- what q reads behind each token that f knows, as long as such a token stands here
abbrev pub repeated_turns : {A B : Type 0} → ℕ → (LexemeKind → Option B) → (B → Span → Parser A) → List A → Parser (List A)
repeated_turns zero f q found = refuse
repeated_turns (suc m) f q found = pick f (λ b s. q b s >>= λ x. repeated_turns m f q (found ++ x ∷ [])) (give found)

unfoldable pub repeated : {A B : Type 0} → (LexemeKind → Option B) → (B → Span → Parser A) → List A → Parser (List A)
repeated f q found us = repeated_turns (suc (length us)) f q found us
