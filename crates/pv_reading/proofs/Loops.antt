-- Lists: what their readers compute as the loops of the code go on, and that they are exact.
use Rattle.std.proofs.Common.{ℕ, zero, suc, ◌≡◌, ◌<◌, ◌≤◌, inl, inr, List, [], ◌∷◌, ◌++◌, length, Option, Some, None, is_some, true, false, refl, sym, ap, ◌∙◌, subst, append_assoc, append-nil, length-append, arith}
use Rattle.pv_base.specs.declared.Span.{Span}
use Rattle.pv_tokens.specs.declared.Lexeme.{Lexeme}
use Rattle.pv_tokens.specs.declared.LexemeKind.{LexemeKind}
use Rattle.pv_tokens.specs.declared.LexemeKind.TheVariants as k
use Rattle.pv_reading.specs.Marks.{Tokens, Marked, plain, next_of, fixed_at}
use Rattle.pv_reading.specs.Spelled.{Rule}
use Rattle.pv_reading.specs.Reading.{Reading, Good, Bad, Deep, Parser, onward, ◌>>=◌, give, chosen, pick, is_fixed, fixed, expect, many_turns, many, series_turns, series, repeated_turns, repeated}
use Rattle.pv_reading.proofs.Nexts.{Nexts, Sub, Apart, anything, knows, either, no_sight, or_left, or_right, apart_fixed, known_fixed}
use Rattle.pv_reading.proofs.Exact.{Begins, Exact, ExactAt, Is, is, Then, seq, Or, AtFixed, at_fixed, AtEntry, at_entry, exact_at_same, exact_at_as, exact_at_give, exact_at_bind, exact_as, exact_give}
use Rattle.pv_reading.proofs.Sights.{exact_at_pick, else_exact, split_or, from_fixed, to_fixed, deep_enough_at, sight, exact_expect, deep_enough}

is_value : {A : Type 0} {a b : A} {us vs : Marked} → Is a us b vs → a ≡ b
is_value is = refl

is_rest : {A : Type 0} {a b : A} {us vs : Marked} → Is a us b vs → us ≡ vs
is_rest is = refl

-- p takes a token at least
abbrev pub Eats : {A : Type 0} → Parser A → Type 0
Eats {A = A} p = (ts : Tokens) (a : A) (us : Tokens) → p ts ≡ Good a us → length us < length ts

-- p leaves no more tokens than there were
abbrev pub Keeps : {A : Type 0} → Parser A → Type 0
Keeps {A = A} p = (ts : Tokens) (a : A) (us : Tokens) → p ts ≡ Good a us → length us ≤ length ts

pub exact_keeps : {A : Type 0} {L : ℕ} {first stop : Nexts} {R : Rule A} {p : Parser A} → Exact L first stop R p → Keeps p
exact_keeps P ts a us h = let x = (P.at ts).good a us h in omega (arith, ap length x.split, length-append (plain x.u) us)

taken_eats : (u : Marked) (ts us : Tokens) → ts ≡ plain u ++ us → (u ≡ [] → ⊥) → length us < length ts
taken_eats [] ts us e n = absurd (n refl)
taken_eats (x ∷ u) ts us e n = omega (arith, ap length e, length-append (plain u) us)

-- what begins with a token takes one
pub exact_eats : {A : Type 0} {L : ℕ} {first stop : Nexts} {R : Rule A} {p : Parser A} → stop None ≡ true → first None ≡ false
    → Exact L first stop R p → Eats p
exact_eats {first = first} {stop = stop} {R = R} s f P ts a us h =
    let x = (P.at ts).good a us h in
    taken_eats x.u ts us x.split (λ e.
    let r : R [] a [] = subst (λ z. R z a []) (append-nil x.u ∙ e) (x.spelled []) in
    let t : first None ≡ true = P.heads [] a [] r s in
    let c : true ≡ false = sym t ∙ f in cc)

onward_ext : {A B : Type 0} (f g : A → Parser B) (x : Reading A) → ((a : A) (us : Tokens) → x ≡ Good a us → f a us ≡ g a us)
    → onward f x ≡ onward g x
onward_ext f g (Good a us) h = h a us refl
onward_ext f g (Bad j) h = refl
onward_ext f g (Deep j) h = refl

chosen_ext : {A B : Type 0} (q : B → Span → Parser A) (o : Option B) (r s : Parser A) (x : Lexeme) (us : Tokens)
    → r (x ∷ us) ≡ s (x ∷ us) → chosen o q r x us ≡ chosen o q s x us
chosen_ext q None r s x us h = h
chosen_ext q (Some b) r s x us h = refl

chosen_turn : {A B : Type 0} (q t : B → Span → Parser A) (o : Option B) (r : Parser A) (x : Lexeme) (us : Tokens)
    → ((b : B) → q b x.span us ≡ t b x.span us) → chosen o q r x us ≡ chosen o t r x us
chosen_turn q t None r x us h = refl
chosen_turn q t (Some b) r x us h = h b

pick_ext : {A B : Type 0} (f : LexemeKind → Option B) (q : B → Span → Parser A) (r s : Parser A) (ts : Tokens) → r ts ≡ s ts
    → pick f q r ts ≡ pick f q s ts
pick_ext f q r s [] h = h
pick_ext f q r s (x ∷ us) h = chosen_ext q (f x.kind) r s x us h

-- q and t agree behind the first token
pick_turn : {A B : Type 0} (f : LexemeKind → Option B) (q t : B → Span → Parser A) (r : Parser A) (ts : Tokens)
    → ((b : B) (s : Span) (us : Tokens) → length us < length ts → q b s us ≡ t b s us) → pick f q r ts ≡ pick f t r ts
pick_turn f q t r [] h = refl
pick_turn f q t r (x ∷ us) h = chosen_turn q t (f x.kind) r x us (λ b. h b x.span us (omega arith))

-- What stands up to a closing token.

module _ {A : Type 0} (j : ℕ) (p : Parser A) (E : Eats p) where
  many_fuel : (n m : ℕ) (found : List A) (ts : Tokens) → length ts < n → length ts < m
      → many_turns n j p found ts ≡ many_turns m j p found ts
  many_fuel zero m found ts a b = absurd (omega arith)
  many_fuel (suc n) zero found ts a b = absurd (omega arith)
  many_fuel (suc n) (suc m) found ts a b =
      pick_ext (is_fixed j) (λ t l. give (found, l)) (p >>= λ x. many_turns n j p (found ++ x ∷ [])) (p
      >>= λ x. many_turns m j p (found ++ x ∷ [])) ts
      (onward_ext (λ x. many_turns n j p (found ++ x ∷ [])) (λ x. many_turns m j p (found ++ x ∷ [])) (p ts)
      (λ x us e. let lt = E ts x us e in many_fuel n m (found ++ x ∷ []) us (omega arith) (omega arith)))

  pub many_is : (found : List A) (ts : Tokens)
      → many j p found ts ≡ fixed j (λ l. give (found, l)) (p >>= λ x. many j p (found ++ x ∷ [])) ts
  unfolding many
  many_is found ts =
      pick_ext (is_fixed j) (λ t l. give (found, l)) (p >>= λ x. many_turns (length ts) j p (found ++ x ∷ [])) (p
      >>= λ x. many j p (found ++ x ∷ [])) ts
      (onward_ext (λ x. many_turns (length ts) j p (found ++ x ∷ [])) (λ x. many j p (found ++ x ∷ [])) (p ts)
      (λ x us e. let lt = E ts x us e in many_fuel (length ts) (suc (length us)) (found ++ x ∷ []) us (omega arith)
      (omega arith)))

-- One or more, with a token between them.

module _ {A : Type 0} (c j : ℕ) (p : Parser A) (E : Keeps p) where
  abbrev after_one : (List A → Parser (List A × Span)) → List A → A → Parser (List A × Span)
  after_one again found x = fixed c (λ s. again (found ++ x ∷ [])) (expect j (λ l. give (found ++ x ∷ [], l)))

  series_fuel : (n m : ℕ) (found : List A) (ts : Tokens) → length ts < n → length ts < m
      → series_turns n c j p found ts ≡ series_turns m c j p found ts
  series_fuel zero m found ts a b = absurd (omega arith)
  series_fuel (suc n) zero found ts a b = absurd (omega arith)
  series_fuel (suc n) (suc m) found ts a b =
      onward_ext (after_one (series_turns n c j p) found) (after_one (series_turns m c j p) found) (p ts) (λ x us e.
      let le = E ts x us e in
      pick_turn (is_fixed c) (λ t s. series_turns n c j p (found ++ x ∷ [])) (λ t s. series_turns m c j p (found ++ x ∷ []))
      (expect j (λ l. give (found ++ x ∷ [], l))) us
      (λ t s vs lt. series_fuel n m (found ++ x ∷ []) vs (omega arith) (omega arith)))

  pub series_is : (found : List A) (ts : Tokens)
      → series c j p found ts ≡ (p >>= λ x. fixed c (λ s. series c j p (found ++ x ∷ []))
      (expect j (λ l. give (found ++ x ∷ [], l)))) ts
  unfolding series
  series_is found ts =
      onward_ext (after_one (series_turns (length ts) c j p) found) (after_one (series c j p) found) (p ts) (λ x us e.
      let le = E ts x us e in
      pick_turn (is_fixed c) (λ t s. series_turns (length ts) c j p (found ++ x ∷ [])) (λ t s. series c j p (found ++ x ∷ []))
      (expect j (λ l. give (found ++ x ∷ [], l))) us
      (λ t s vs lt. series_fuel (length ts) (suc (length vs)) (found ++ x ∷ []) vs (omega arith) (omega arith)))

-- As long as a token stands that f knows.

module _ {A B : Type 0} (f : LexemeKind → Option B) (q : B → Span → Parser A) (E : (b : B) (s : Span) → Keeps (q b s)) where
  repeated_fuel : (n m : ℕ) (found : List A) (ts : Tokens) → length ts < n → length ts < m
      → repeated_turns n f q found ts ≡ repeated_turns m f q found ts
  repeated_fuel zero m found ts g h = absurd (omega arith)
  repeated_fuel (suc n) zero found ts g h = absurd (omega arith)
  repeated_fuel (suc n) (suc m) found ts g h =
      pick_turn f (λ b s. q b s >>= λ x. repeated_turns n f q (found ++ x ∷ [])) (λ b s. q b s
      >>= λ x. repeated_turns m f q (found ++ x ∷ [])) (give found) ts (λ b s us lt.
      onward_ext (λ x. repeated_turns n f q (found ++ x ∷ [])) (λ x. repeated_turns m f q (found ++ x ∷ [])) (q b s us)
      (λ x vs e. let le = E b s us x vs e in repeated_fuel n m (found ++ x ∷ []) vs (omega arith) (omega arith)))

  pub repeated_is : (found : List A) (ts : Tokens)
      → repeated f q found ts ≡ pick f (λ b s. q b s >>= λ x. repeated f q (found ++ x ∷ [])) (give found) ts
  unfolding repeated
  repeated_is found ts =
      pick_turn f (λ b s. q b s >>= λ x. repeated_turns (length ts) f q (found ++ x ∷ [])) (λ b s. q b s
      >>= λ x. repeated f q (found ++ x ∷ [])) (give found) ts (λ b s us lt.
      onward_ext (λ x. repeated_turns (length ts) f q (found ++ x ∷ [])) (λ x. repeated f q (found ++ x ∷ [])) (q b s us)
      (λ x vs e. let le = E b s us x vs e in repeated_fuel (length ts) (suc (length vs)) (found ++ x ∷ []) vs (omega arith)
      (omega arith)))

-- The rules of lists.

pub data Many {A : Type 0} (j m : ℕ) (R : Rule A) : Marked → (List A × Span) → Marked → Type 0 where
  many_end : {l : Span} {us : Marked} → Many j m R ((fixed_at j l, m) ∷ us) ([], l) us
  many_more : {us vs ws : Marked} {x : A} {xs : List A} {l : Span} → R us x vs → Many j m R vs (xs, l) ws
      → Many j m R us (x ∷ xs, l) ws

pub data Series {A : Type 0} (c j m : ℕ) (R : Rule A) : Marked → (List A × Span) → Marked → Type 0 where
  series_end : {us vs : Marked} {x : A} {l : Span} → R us x ((fixed_at j l, m) ∷ vs) → Series c j m R us (x ∷ [], l) vs
  series_more : {us vs ws : Marked} {x : A} {xs : List A} {s l : Span} → R us x ((fixed_at c s, m) ∷ vs)
      → Series c j m R vs (xs, l) ws → Series c j m R us (x ∷ xs, l) ws

pub data Repeated {A B : Type 0} (f : LexemeKind → Option B) (m : ℕ) (R : B → Span → Rule A) : Marked → List A → Marked
    → Type 0 where
  repeated_end : {us : Marked} → Repeated f m R us [] us
  repeated_more : {y : Lexeme} {b : B} {us vs ws : Marked} {x : A} {xs : List A} → f y.kind ≡ Some b → R b y.span us x vs
      → Repeated f m R vs xs ws → Repeated f m R ((y, m) ∷ us) (x ∷ xs) ws

-- behind what was found so far

pub record Behind {A : Type 0} (found : List A) (M : Rule (List A × Span)) (us : Marked) (z : List A × Span)
    (vs : Marked) : Type 0 where
  pub next : List A
  pub all : z.0 ≡ found ++ next
  pub rest : M us (next, z.1) vs

pub record BehindAll {A : Type 0} (found : List A) (M : Rule (List A)) (us : Marked) (z : List A) (vs : Marked) : Type 0 where
  pub next : List A
  pub all : z ≡ found ++ next
  pub rest : M us next vs

module _ {A : Type 0} {L m : ℕ} {first stop : Nexts} {R : Rule A} {p : Parser A} (j : ℕ) (le : m ≤ L) (P : Exact L first stop R p)
    (s : stop None ≡ true) (f : first None ≡ false) (apart : first (Some (k.Fixed j)) ≡ false)
    (ends : stop (Some (k.Fixed j)) ≡ true) (goes : Sub first stop) where
  many_heads : (us : Marked) (z : List A × Span) (vs : Marked) → Many j m R us z vs → stop (next_of (plain us)) ≡ true
  many_heads us z vs many_end = ends
  many_heads us z vs (many_more {vs = ws} {x = x} r t) = goes.has _ (P.heads us x ws r (many_heads ws _ vs t))

  to_many : (found : List A) (us : Marked) (z : List A × Span) (vs : Marked)
      → Or (AtFixed j m (λ l. Is (found, l))) (Then R (λ x. Behind (found ++ x ∷ []) (Many j m R))) us z vs
      → Behind found (Many j m R) us z vs
  to_many found us z vs (inl (at_fixed is)) = record { next = []; all = sym (append-nil found); rest = many_end }
  to_many found us z vs (inr (seq {a = x} r t)) =
      record { next = x ∷ t.next; all = t.all ∙ append_assoc found (x ∷ []) t.next; rest = many_more r t.rest }

  many_cases : (found : List A) (us : Marked) (b : List A) (l : Span) (vs : Marked) → Many j m R us (b, l) vs
      → Or (AtFixed j m (λ l. Is (found, l))) (Then R (λ x. Behind (found ++ x ∷ []) (Many j m R))) us (found ++ b, l) vs
  many_cases found us b l vs many_end =
      inl (at_fixed (subst (λ z. Is {A = List A × Span} (found, l) vs (z, l) vs) (sym (append-nil found)) is))
  many_cases found us b l vs (many_more {x = x} {xs = xs} r t) =
      inr (seq r (record { next = xs; all = sym (append_assoc found (x ∷ []) xs); rest = t }))

  from_many : (found : List A) (us : Marked) (z : List A × Span) (vs : Marked) → Behind found (Many j m R) us z vs
      → Or (AtFixed j m (λ l. Is (found, l))) (Then R (λ x. Behind (found ++ x ∷ []) (Many j m R))) us z vs
  from_many found us z vs i =
      subst (λ y. Or (AtFixed j m (λ l. Is (found, l))) (Then R (λ x. Behind (found ++ x ∷ []) (Many j m R))) us (y, z.1) vs)
      (sym i.all) (many_cases found us i.next z.1 vs i.rest)

  many_first : (us : Marked) (z : List A × Span) (vs : Marked) → Many j m R us z vs
      → either (knows (is_fixed j)) first (next_of (plain us)) ≡ true
  many_first us z vs many_end = or_left (is_some (is_fixed j (k.Fixed j))) (first (Some (k.Fixed j))) (ap is_some (known_fixed j))
  many_first us z vs (many_more {vs = ws} {x = x} r t) =
      or_right (knows (is_fixed j) (next_of (plain us))) (first (next_of (plain us))) (P.heads us x ws r (many_heads ws _ vs t))

  many_makes : (found : List A) → Begins (Behind found (Many j m R)) []
  many_makes found =
      let w : Span = record { from = 0; to = 0 } in
      ((fixed_at j w, m) ∷ [], (found, w), λ rest. record { next = []; all = sym (append-nil found); rest = many_end })

  many_apart : (found : List A) (us : Marked) (z : List A × Span) (vs : Marked)
      → Then R (λ x. Behind (found ++ x ∷ []) (Many j m R)) us z vs → sight (is_fixed j) (plain us) ≡ None
  many_apart found us z vs (seq {vs = ws} {a = x} r t) =
      no_sight (is_fixed j) first (apart_fixed j apart) (next_of (plain us)) (P.heads us x ws r (many_heads ws _ vs t.rest))

  many_at : (n : ℕ) (ts : Tokens) → length ts < n → (found : List A)
      → ExactAt L anything (Behind found (Many j m R)) (many j p found) ts
  many_at zero ts lt found = absurd (omega arith)
  many_at (suc n) ts lt found =
      exact_at_same (many_is j p (exact_eats s f P) found) ts
      (exact_at_as (to_many found) (from_many found) ts
      (exact_at_pick (split_or (is_fixed j) (AtFixed j m (λ l. Is (found, l))) (from_fixed j m (λ l. Is (found, l)))
      (to_fixed j m (λ l. Is (found, l)))) (λ us z vs i e. many_apart found us z vs i)
      (λ t l. give (found, l)) (p >>= λ x. many j p (found ++ x ∷ [])) ts
      (λ x b us e h. deep_enough_at le (exact_at_give (found, x.span) us))
      (else_exact (λ us z vs i. inr i) (exact_at_bind (λ x. many_makes (found ++ x ∷ []))
      (λ x us b vs i e. many_heads us _ vs i.rest) ts (P.at ts)
      (λ x us e. let shorter = exact_eats s f P ts x us e in many_at n us (omega arith) (found ++ x ∷ []))))))

  pub exact_many : Exact L (either (knows (is_fixed j)) first) anything (Many j m R) (many j p [])
  exact_many = record {
    at = λ ts. exact_at_as (λ us z vs i. subst (λ y. Many j m R us (y, z.1) vs) (sym i.all) i.rest)
        (λ us z vs i. record { next = z.0; all = refl; rest = i }) ts (many_at (suc (length ts)) ts (omega arith) []);
    heads = λ us z vs i e. many_first us z vs i;
    makes = let w : Span = record { from = 0; to = 0 } in ((fixed_at j w, m) ∷ [], ([], w), λ rest. many_end);
  }

-- A series: its part may be followed by the token between and by the last one.

module _ {A : Type 0} {L m : ℕ} {first stop : Nexts} {R : Rule A} {p : Parser A} (c j : ℕ) (le : m ≤ L)
    (P : Exact L first stop R p)
    (apart : knows (is_fixed j) (Some (k.Fixed c)) ≡ false) (goes : stop (Some (k.Fixed c)) ≡ true)
    (ends : stop (Some (k.Fixed j)) ≡ true) where
  abbrev Next : List A → A → Rule (List A × Span)
  Next found x = Or (AtFixed c m (λ s. Behind (found ++ x ∷ []) (Series c j m R))) (AtFixed j m (λ l. Is (found ++ x ∷ [], l)))

  next_makes : (found : List A) (x : A) → Begins (Next found x) []
  next_makes found x =
      let w : Span = record { from = 0; to = 0 } in ((fixed_at j w, m) ∷ [], (found ++ x ∷ [], w), λ rest. inr (at_fixed is))

  next_heads : (found : List A) (x : A) (us : Marked) (z : List A × Span) (vs : Marked) → Next found x us z vs
      → stop (next_of (plain us)) ≡ true
  next_heads found x us z vs (inl (at_fixed i)) = goes
  next_heads found x us z vs (inr (at_fixed i)) = ends

  next_apart : (found : List A) (x : A) (us : Marked) (z : List A × Span) (vs : Marked)
      → AtFixed j m (λ l. Is (found ++ x ∷ [], l)) us z vs → sight (is_fixed c) (plain us) ≡ None
  next_apart found x us z vs (at_fixed i) =
      no_sight (is_fixed c) (λ o. knows (is_fixed j) o) (apart_fixed c apart) (Some (k.Fixed j)) (ap is_some (known_fixed j))

  series_last : (found : List A) (x : A) (l : Span) (us ws : Marked) (z : List A × Span) (vs : Marked)
      → R us x ((fixed_at j l, m) ∷ ws) → Is (found ++ x ∷ [], l) ws z vs → Behind found (Series c j m R) us z vs
  series_last found x l us ws z vs r i = record {
    next = x ∷ [];
    all = sym (ap (λ (y : List A × Span). y.0) (is_value i));
    rest = subst (λ y. Series c j m R us (x ∷ [], y) vs) (ap (λ (y : List A × Span). y.1) (is_value i))
        (subst (λ v. Series c j m R us (x ∷ [], l) v) (is_rest i) (series_end r));
  }

  to_series : (found : List A) (us : Marked) (z : List A × Span) (vs : Marked) → Then R (Next found) us z vs
      → Behind found (Series c j m R) us z vs
  to_series found us z vs (seq {a = x} r (inl (at_fixed t))) =
      record { next = x ∷ t.next; all = t.all ∙ append_assoc found (x ∷ []) t.next; rest = series_more r t.rest }
  to_series found us z vs (seq {a = x} r (inr (at_fixed {s = l} {us = ws} i))) = series_last found x l us ws z vs r i

  series_cases : (found : List A) (us : Marked) (b : List A) (l : Span) (vs : Marked) → Series c j m R us (b, l) vs
      → Then R (Next found) us (found ++ b, l) vs
  series_cases found us b l vs (series_end {x = x} r) = seq r (inr (at_fixed is))
  series_cases found us b l vs (series_more {x = x} {xs = xs} r t) =
      seq r (inl (at_fixed (record { next = xs; all = sym (append_assoc found (x ∷ []) xs); rest = t })))

  from_series : (found : List A) (us : Marked) (z : List A × Span) (vs : Marked) → Behind found (Series c j m R) us z vs
      → Then R (Next found) us z vs
  from_series found us z vs i =
      subst (λ y. Then R (Next found) us (y, z.1) vs) (sym i.all) (series_cases found us i.next z.1 vs i.rest)

  series_at : (n : ℕ) (ts : Tokens) → length ts < n → (found : List A)
      → ExactAt L anything (Behind found (Series c j m R)) (series c j p found) ts
  series_at zero ts lt found = absurd (omega arith)
  series_at (suc n) ts lt found =
      exact_at_same (series_is c j p (exact_keeps P) found) ts
      (exact_at_as (to_series found) (from_series found) ts
      (exact_at_bind (next_makes found) (λ x us b vs i e. next_heads found x us b vs i) ts (P.at ts) (λ x us e.
      let fewer = exact_keeps P ts x us e in
      exact_at_pick (split_or (is_fixed c) (AtFixed c m (λ s. Behind (found ++ x ∷ []) (Series c j m R)))
      (from_fixed c m (λ s. Behind (found ++ x ∷ []) (Series c j m R)))
      (to_fixed c m (λ s. Behind (found ++ x ∷ []) (Series c j m R))))
      (λ us z vs i e. next_apart found x us z vs i) (λ t s. series c j p (found ++ x ∷ []))
      (expect j (λ l. give (found ++ x ∷ [], l))) us
      (λ y t vs g h. let shorter = ap length g in
      deep_enough_at le (series_at n vs (omega (arith, shorter, fewer, lt)) (found ++ x ∷ [])))
      (else_exact (λ us z vs i. inr i) ((exact_expect j (λ l. deep_enough le (exact_give (found ++ x ∷ [], l)))).at us)))))

  series_first : (us : Marked) (z : List A × Span) (vs : Marked) → Series c j m R us z vs → first (next_of (plain us)) ≡ true
  series_first us z vs (series_end {x = x} r) = P.heads us x _ r ends
  series_first us z vs (series_more {x = x} r t) = P.heads us x _ r goes

  series_makes : Begins (Series c j m R) []
  series_makes =
      let w : Span = record { from = 0; to = 0 } in
      let x = P.makes in (
        x.0 ++ (fixed_at j w, m) ∷ [],
        (x.1 ∷ [], w),
        λ rest. subst (λ z. Series c j m R z (x.1 ∷ [], w) rest) (sym (append_assoc x.0 ((fixed_at j w, m) ∷ []) rest))
            (series_end (x.2 ((fixed_at j w, m) ∷ rest))),
      )

  pub exact_series : Exact L first anything (Series c j m R) (series c j p [])
  exact_series = record {
    at = λ ts. exact_at_as (λ us z vs i. subst (λ y. Series c j m R us (y, z.1) vs) (sym i.all) i.rest)
        (λ us z vs i. record { next = z.0; all = refl; rest = i }) ts (series_at (suc (length ts)) ts (omega arith) []);
    heads = λ us z vs i e. series_first us z vs i;
    makes = series_makes;
  }

-- What is repeated may be followed by whatever f does not know.

module _ {A B : Type 0} {L m : ℕ} {stop last : Nexts} {R : B → Span → Rule A} {f : LexemeKind → Option B} {q : B → Span
    → Parser A} (le : m ≤ L)
    (P : (b : B) (s : Span)
    → (first : Nexts) × Exact L first stop (R b s) (q b s)) (apart : Apart f last)
    (goes : Sub (either (knows f) last) stop) where
  repeated_heads : (us : Marked) (z : List A) (vs : Marked) → Repeated f m R us z vs → last (next_of (plain vs)) ≡ true
      → either (knows f) last (next_of (plain us)) ≡ true
  repeated_heads us z vs repeated_end e = or_right (knows f (next_of (plain us))) (last (next_of (plain us))) e
  repeated_heads us z vs (repeated_more {y = y} h r t) e = or_left (is_some (f y.kind)) (last (Some y.kind)) (ap is_some h)

  abbrev Turn : List A → B → Span → Rule (List A)
  Turn found b s = Then (R b s) (λ x. BehindAll (found ++ x ∷ []) (Repeated f m R))

  to_repeated : (found : List A) (us : Marked) (z : List A) (vs : Marked) → Or (AtEntry f m (Turn found)) (Is found) us z vs
      → BehindAll found (Repeated f m R) us z vs
  to_repeated found us z vs (inl (at_entry h (seq {a = x} r t))) =
      record { next = x ∷ t.next; all = t.all ∙ append_assoc found (x ∷ []) t.next; rest = repeated_more h r t.rest }
  to_repeated found us z vs (inr is) = record { next = []; all = sym (append-nil found); rest = repeated_end }

  repeated_cases : (found : List A) (us : Marked) (b : List A) (vs : Marked) → Repeated f m R us b vs
      → Or (AtEntry f m (Turn found)) (Is found) us (found ++ b) vs
  repeated_cases found us b vs repeated_end = inr (subst (λ z. Is found us z us) (sym (append-nil found)) is)
  repeated_cases found us b vs (repeated_more {x = x} {xs = xs} h r t) =
      inl (at_entry h (seq r (record { next = xs; all = sym (append_assoc found (x ∷ []) xs); rest = t })))

  from_repeated : (found : List A) (us : Marked) (z : List A) (vs : Marked) → BehindAll found (Repeated f m R) us z vs
      → Or (AtEntry f m (Turn found)) (Is found) us z vs
  from_repeated found us z vs i =
      subst (λ y. Or (AtEntry f m (Turn found)) (Is found) us y vs) (sym i.all) (repeated_cases found us i.next vs i.rest)

  repeated_makes : (found : List A) → Begins (BehindAll found (Repeated f m R)) []
  repeated_makes found = ([], found, λ rest. record { next = []; all = sym (append-nil found); rest = repeated_end })

  is_apart : (found : List A) (us : Marked) (z : List A) (vs : Marked) → Is found us z vs → last (next_of (plain vs)) ≡ true
      → sight f (plain us) ≡ None
  is_apart found us z vs is e = no_sight f last apart (next_of (plain us)) e

  repeated_at : (n : ℕ) (ts : Tokens) → length ts < n → (found : List A)
      → ExactAt L last (BehindAll found (Repeated f m R)) (repeated f q found) ts
  repeated_at zero ts lt found = absurd (omega arith)
  repeated_at (suc n) ts lt found =
      exact_at_same (repeated_is f q (λ b s. exact_keeps (P b s).1) found) ts
      (exact_at_as (to_repeated found) (from_repeated found) ts
      (exact_at_pick (split_or f (AtEntry f m (Turn found)) (λ us z vs i. i) (λ x b us z vs h i. at_entry h i))
      (λ us z vs i e. is_apart found us z vs i e)
      (λ b s. q b s >>= λ x. repeated f q (found ++ x ∷ [])) (give found) ts
      (λ y b us g h.
      let shorter = ap length g in
      deep_enough_at le (exact_at_bind (λ x. repeated_makes (found ++ x ∷ []))
      (λ x us z vs i e. goes.has _ (repeated_heads us _ vs i.rest e)) us ((P b y.span).1.at us)
      (λ x vs e. let fewer = exact_keeps (P b y.span).1 us x vs e in
      repeated_at n vs (omega (arith, shorter, fewer, lt)) (found ++ x ∷ []))))
      (else_exact (λ us z vs i. inr i) (exact_at_give found ts))))

  -- behind a list that was found before
  pub exact_repeated_behind : (found : List A)
      → Exact L (either (knows f) last) last (BehindAll found (Repeated f m R)) (repeated f q found)
  exact_repeated_behind found = record {
    at = λ ts. repeated_at (suc (length ts)) ts (omega arith) found;
    heads = λ us z vs i e. repeated_heads us _ vs i.rest e;
    makes = repeated_makes found;
  }

  pub exact_repeated : Exact L (either (knows f) last) last (Repeated f m R) (repeated f q [])
  exact_repeated =
      exact_as (λ us z vs i. subst (λ y. Repeated f m R us y vs) (sym i.all) i.rest)
      (λ us z vs i. record { next = z; all = refl; rest = i }) (exact_repeated_behind [])
