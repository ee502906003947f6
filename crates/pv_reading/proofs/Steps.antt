-- What readers compute, as the code goes on.
use Rattle.std.proofs.Common.{ℕ, suc, ◌≡◌, ◌<◌, [], ◌∷◌, length, Option, Some, None, refl, sym, ap, subst, arith}
use Rattle.pv_base.specs.declared.Span.{Span}
use Rattle.pv_base.specs.declared.Name.{Name}
use Rattle.pv_tokens.specs.declared.Lexeme.{Lexeme}
use Rattle.pv_tokens.specs.declared.LexemeKind.{LexemeKind}
use Rattle.pv_ast.specs.declared.Word.{Word}
use Rattle.pv_reading.specs.declared.fault.ReadFault.{ReadFault}
use Rattle.pv_reading.specs.declared.fault.ReadFault.TheVariants as fault
use Rattle.pv_reading.specs.Given.{Fails, seen, ahead}
use Rattle.pv_reading.specs.Marks.{Tokens}
use Rattle.pv_reading.specs.Reading.{Reading, Good, Bad, Deep, Parser, onward, give, refuse, chosen, pick, opened, is_fixed, name_of, expect, expect_name}

-- Faults go through.

module _ {A : Type 0} where
  pub fails_bad : (f : ReadFault) (left : ℕ) (read : Reading A) → f ≡ fault.Unexpected left → read ≡ Bad left → Fails f read
  fails_bad f left read h g = subst (λ f. Fails f read) (sym h) g

  pub fails_deep : (f : ReadFault) (left : ℕ) (read : Reading A) → f ≡ fault.TooDeep left → read ≡ Deep left → Fails f read
  fails_deep f left read h g = subst (λ f. Fails f read) (sym h) g

  pub fails_memory : (f : ReadFault) (read : Reading A) → f ≡ fault.NoMemory → Fails f read
  fails_memory f read h = subst (λ f. Fails f read) (sym h) tt

  pub fails_at : (f : ReadFault) (read other : Reading A) → read ≡ other → Fails f other → Fails f read
  fails_at f read other h g = subst (Fails f) (sym h) g

pub fails_onward : {A B : Type 0} (f : ReadFault) (next : A → Parser B) (read : Reading A) → Fails f read
    → Fails f (onward next read)
fails_onward (fault.Unexpected left) next read g = ap (onward next) g
fails_onward (fault.TooDeep left) next read g = ap (onward next) g
fails_onward fault.NoMemory next read g = tt

-- One token of sight.

module _ {A B : Type 0} (q : B → Span → Parser A) (r : Parser A) where
  chosen_some : (m : Option B) (x : Lexeme) (ts us : Tokens) (b : B) (s : Span) → seen m x.span ts ≡ Some (b, s, us)
      → chosen m q r x ts ≡ q b s us
  chosen_some None x ts us b s h = cc
  chosen_some (Some d) x ts us b s h =
      let g : (d, x.span, ts) ≡ (b, s, us) = cc in ap (λ (z : B × Span × Tokens). q z.0 z.1 z.2) g

  chosen_none : (m : Option B) (x : Lexeme) (ts : Tokens) → seen m x.span ts ≡ None → chosen m q r x ts ≡ r (x ∷ ts)
  chosen_none None x ts h = refl
  chosen_none (Some d) x ts h = cc

module _ {A B : Type 0} (f : LexemeKind → Option B) (q : B → Span → Parser A) (r : Parser A) where
  pub pick_some : (ts us : Tokens) (b : B) (s : Span) → ahead f ts ≡ Some (b, s, us) → pick f q r ts ≡ q b s us
  pick_some [] us b s h = cc
  pick_some (x ∷ ts) us b s h = chosen_some q r (f x.kind) x ts us b s h

  pub pick_none : (ts : Tokens) → ahead f ts ≡ None → pick f q r ts ≡ r ts
  pick_none [] h = refl
  pick_none (x ∷ ts) h = chosen_none q r (f x.kind) x ts h

module _ {B : Type 0} where
  seen_shorter : (m : Option B) (s r : Span) (ts us : Tokens) (b : B) → seen m r ts ≡ Some (b, s, us) → ts ≡ us
  seen_shorter None s r ts us b h = cc
  seen_shorter (Some d) s r ts us b h = let g : (d, r, ts) ≡ (b, s, us) = cc in ap (λ (z : B × Span × Tokens). z.2) g

  pub ahead_shorter : (f : LexemeKind → Option B) (ts us : Tokens) (b : B) (s : Span) → ahead f ts ≡ Some (b, s, us)
      → length us < length ts
  ahead_shorter f [] us b s h = cc
  ahead_shorter f (x ∷ ts) us b s h = omega (arith, ap length (seen_shorter (f x.kind) s x.span ts us b h))

module _ {A : Type 0} (j : ℕ) (q : Span → Parser A) where
  pub expect_some : (ts us : Tokens) (s : Span) → ahead (is_fixed j) ts ≡ Some (tt, s, us) → expect j q ts ≡ q s us
  expect_some ts us s h = pick_some (is_fixed j) (λ t s. q s) refuse ts us tt s h

  pub expect_none : (ts : Tokens) → ahead (is_fixed j) ts ≡ None → expect j q ts ≡ Bad (length ts)
  expect_none ts h = pick_none (is_fixed j) (λ t s. q s) refuse ts h

module _ {A : Type 0} (q : Word → Parser A) where
  pub name_some : (ts us : Tokens) (w : Word) → ahead name_of ts ≡ Some (w.name, w.span, us) → expect_name q ts ≡ q w us
  name_some ts us w h = pick_some name_of (λ n s. q (record { name = n; span = s })) refuse ts us w.name w.span h

  pub name_none : (ts : Tokens) → ahead name_of ts ≡ None → expect_name q ts ≡ Bad (length ts)
  name_none ts h = pick_none name_of (λ n s. q (record { name = n; span = s })) refuse ts h

-- Behind a token that opens a construct.

module _ {A R : Type 0} (o : Option R) (f : R → Parser A) (us : Tokens) where
  pub opened_some : (p : R) → o ≡ Some p → opened o f us ≡ f p us
  opened_some p h = ap (λ o. opened o f us) h

  pub opened_none : o ≡ None → opened o f us ≡ Deep (suc (length us))
  opened_none h = ap (λ o. opened o f us) h

-- The same as rewriting of what stands in a goal.

module _ {B : Type 0} (f : LexemeKind → Option B) (ts : Tokens) where
  pub picked : (us : Tokens) (b : B) (s : Span) → ahead f ts ≡ Some (b, s, us)
      → {A : Type 0} (q : B → Span → Parser A) (r : Parser A) → pick f q r ts ≡ q b s us
  picked us b s h q r = pick_some f q r ts us b s h

  pub passed : ahead f ts ≡ None → {A : Type 0} (q : B → Span → Parser A) (r : Parser A) → pick f q r ts ≡ r ts
  passed h q r = pick_none f q r ts h

-- What is read goes on.

-- what stands behind a token that has to come goes on as what was read there
pub expect_onward : {A B : Type 0} (j : ℕ) (q : Span → Parser A) (q' : Span → Parser B) (g : A → Parser B)
    → ((s : Span) (us : Tokens) → q' s us ≡ onward g (q s us)) → (ts : Tokens)
    → expect j q' ts ≡ onward g (expect j q ts)
expect_onward j q q' g Q [] = refl
expect_onward j q q' g Q (x ∷ us) =
    let go : (z : Option (Unit {0})) → chosen z (λ t s. q' s) refuse x us ≡ onward g (chosen z (λ t s. q s) refuse x us) =
    elim [ Some b ↦ Q x.span us | None ↦ refl ] in
    go (is_fixed j x.kind)

pub name_onward : {A B : Type 0} (q : Word → Parser A) (q' : Word → Parser B) (g : A → Parser B)
    → ((w : Word) (us : Tokens) → q' w us ≡ onward g (q w us)) → (ts : Tokens)
    → expect_name q' ts ≡ onward g (expect_name q ts)
name_onward q q' g Q [] = refl
name_onward q q' g Q (x ∷ us) =
    let go : (z : Option Name)
    → chosen z (λ n s. q' (record { name = n; span = s })) refuse x us
    ≡ onward g (chosen z (λ n s. q (record { name = n; span = s })) refuse x us)
    = elim [ Some n ↦ Q (record { name = n; span = x.span }) us | None ↦ refl ] in
    go (name_of x.kind)

-- what is read up to a closing token goes on with both
pub closed_then : {A B : Type 0} (j : ℕ) (k : A → Span → Parser B) (x : Reading A)
    → onward (λ a. expect j (k a)) x ≡ onward {A = A × Span} (λ z. k z.0 z.1) (onward (λ a. expect j (λ t. give (a, t))) x)
closed_then j k (Good a us) = expect_onward j (λ t. give (a, t)) (k a) (λ z. k z.0 z.1) (λ s us. refl) us
closed_then j k (Bad left) = refl
closed_then j k (Deep left) = refl
