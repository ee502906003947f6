-- Readers that choose by one token of sight: exact where the reader behind each token that is known is exact, and the one where
-- none is known.
use Rattle.std.proofs.Common.{ℕ, suc, ◌≡◌, ◌<◌, ◌≤◌, ◌⊎◌, inl, inr, List, [], ◌∷◌, ◌++◌, length, Option, Some, None, is_some, true, false, refl, sym, ap, ◌∙◌, subst, append_assoc}
use Rattle.pv_base.specs.declared.Span.{Span}
use Rattle.pv_base.specs.declared.Name.{Name}
use Rattle.pv_ast.specs.declared.Word.{Word}
use Rattle.pv_tokens.specs.declared.Lexeme.{Lexeme}
use Rattle.pv_tokens.specs.declared.LexemeKind.{LexemeKind}
use Rattle.pv_tokens.specs.declared.LexemeKind.TheVariants as k
use Rattle.pv_reading.specs.Marks.{Tokens, Marked, plain, next_of, fixed_at, word_at, number_at}
use Rattle.pv_reading.specs.Spelled.{Rule}
use Rattle.pv_reading.specs.Reading.{Reading, Good, Bad, Deep, Parser, refuse, chosen, pick, opened, is_fixed, name_of, number_of, entry_of, listed_in, fixed, named, numbered, expect, expect_name, expect_number}
use Rattle.pv_reading.proofs.Nexts.{Nexts, Apart, knows, either, sight_of, no_sight, or_left, or_right, Each, fixed_is, name_is, number_is, known_fixed, apart_fixed, apart_name, apart_number, apart_table}
use Rattle.pv_reading.proofs.Exact.{Begins, Ends, Taken, Refused, TooDeep, Reads, ExactAt, Exact, Is, is, Then, seq, Or, AtFixed, at_fixed, AtName, at_name, AtNumber, at_number, AtEntry, at_entry, regroup}

abbrev pub sight : {B : Type 0} → (LexemeKind → Option B) → Tokens → Option B
sight f us = sight_of f (next_of us)

module _ {A B : Type 0} (f : LexemeKind → Option B) (q : B → Span → Parser A) (r : Parser A) where
  pub pick_some : (x : Lexeme) (b : B) → f x.kind ≡ Some b → (us : Tokens) → pick f q r (x ∷ us) ≡ q b x.span us
  pick_some x b h us = ap (λ z. chosen z q r x us) h

  pub pick_none : (ts : Tokens) → sight f ts ≡ None → pick f q r ts ≡ r ts
  pick_none [] h = refl
  pick_none (x ∷ us) h = ap (λ z. chosen z q r x us) h

  -- a fact of tokens, by whether f knows the first
  pub by_sight : (P : Tokens → Type 0) → ((x : Lexeme) (b : B) (us : Tokens) → f x.kind ≡ Some b → P (x ∷ us))
      → ((ts : Tokens) → sight f ts ≡ None → P ts) → (ts : Tokens) → P ts
  by_sight P y n [] = n [] refl
  by_sight P y n (x ∷ us) =
      let go : (o : Option B) → f x.kind ≡ o → P (x ∷ us) = elim [ Some b ↦ λ h. y x b us h | None ↦ λ h. n (x ∷ us) h ] in
      go (f x.kind) refl

chosen_else : {A B : Type 0} (q : B → Span → Parser A) (r s : Parser A) (x : Lexeme) (us : Tokens) (o : Option B)
    → (o ≡ None → r (x ∷ us) ≡ s (x ∷ us)) → chosen o q r x us ≡ chosen o q s x us
chosen_else q r s x us None h = h refl
chosen_else q r s x us (Some b) h = refl

-- r and s agree where f knows nothing
pub pick_else : {A B : Type 0} (f : LexemeKind → Option B) (q : B → Span → Parser A) (r s : Parser A) (ts : Tokens)
    → (sight f ts ≡ None → r ts ≡ s ts) → pick f q r ts ≡ pick f q s ts
pick_else f q r s [] h = h refl
pick_else f q r s (x ∷ us) h = chosen_else q r s x us (f x.kind) h

-- the reader behind a token that is reached at depth m: that is one too many, or the reader is exact
pub data OpeningAt {A : Type 0} (L m : ℕ) (stop : Nexts) (Q : Rule A) (g : Parser A) (us : Tokens) : Type 0 where
  too_deep_at : L < m → ((vs : Tokens) → g vs ≡ Deep (suc (length vs))) → Begins Q [] → OpeningAt L m stop Q g us
  deep_enough_at : m ≤ L → ExactAt L stop Q g us → OpeningAt L m stop Q g us

-- where the token is not known: r, and S is what T says there
pub record ElseAt {A : Type 0} (L : ℕ) (stop : Nexts) (S T : Rule A) (r : Parser A) (ts : Tokens) : Type 0 where
  pub good : (a : A) (us : Tokens) → r ts ≡ Good a us → Taken L T r ts a us
  pub bad : (left : ℕ) → r ts ≡ Bad left → Refused L T r ts left
  pub deep : (left : ℕ) → r ts ≡ Deep left → TooDeep L T r ts left
  pub reads : (us : Marked) (a : A) (vs : Marked) → plain us ≡ ts → S us a vs → stop (next_of (plain vs)) ≡ true
      → Reads L r us a vs

-- T by its first token
pub record Split {A B : Type 0} (f : LexemeKind → Option B) (m : ℕ) (Q : B → Span → Rule A) (S T : Rule A) : Type 0 where
  pub known : (x : Lexeme) (b : B) (us : Marked) (a : A) (vs : Marked) → f x.kind ≡ Some b → Q b x.span us a vs
      → T ((x, m) ∷ us) a vs
  pub cases : (us : Marked) (a : A) (vs : Marked) → T us a vs → AtEntry f m Q us a vs ⊎ S us a vs

-- the token of sight stays unknown
unknown_again : {B : Type 0} (f : LexemeKind → Option B) (u : Marked) (ts us other : Tokens) → ts ≡ plain u ++ us
    → sight f ts ≡ None → Ends us other → sight f (plain u ++ other) ≡ None
unknown_again f [] ts us other e n (inl same) = ap (sight_of f) same ∙ ap (sight f) (sym e) ∙ n
unknown_again f [] ts us other e n (inr none) = ap (sight f) none
unknown_again f (x ∷ u) ts us other e n same = ap (sight f) (sym e) ∙ n

module _ {A B : Type 0} {L m : ℕ} {stop : Nexts} {f : LexemeKind → Option B} {Q : B → Span → Rule A} {S T : Rule A}
    (c : Split f m Q S T) (apart : (us : Marked) (a : A) (vs : Marked) → S us a vs → stop (next_of (plain vs)) ≡ true
    → sight f (plain us) ≡ None)
    (q : B → Span → Parser A) (r : Parser A) where
  known_good : (x : Lexeme) (b : B) (us : Tokens) → f x.kind ≡ Some b → OpeningAt L m stop (Q b x.span) (q b x.span) us
      → (a : A) (vs : Tokens) → pick f q r (x ∷ us) ≡ Good a vs → Taken L T (pick f q r) (x ∷ us) a vs
  known_good x b us h (too_deep_at lt g w) a vs e =
      let d : Deep (suc (length us)) ≡ Good a vs = sym (g us) ∙ sym (pick_some f q r x b h us) ∙ e in cc
  known_good x b us h (deep_enough_at le P) a vs e =
      let y = P.good a vs (sym (pick_some f q r x b h us) ∙ e) in
      record {
        u = (x, m) ∷ y.u;
        split = ap (λ w. x ∷ w) y.split;
        within = (le, y.within);
        spelled = λ rest. c.known x b _ _ _ h (y.spelled rest);
        again = λ other n. pick_some f q r x b h (plain y.u ++ other) ∙ y.again other n;
      }

  known_bad : (x : Lexeme) (b : B) (us : Tokens) → f x.kind ≡ Some b → OpeningAt L m stop (Q b x.span) (q b x.span) us → (j : ℕ)
      → pick f q r (x ∷ us) ≡ Bad j → Refused L T (pick f q r) (x ∷ us) j
  known_bad x b us h (too_deep_at lt g w) j e =
      let d : ◌≡◌ {A = Reading A} (Deep (suc (length us))) (Bad j) = sym (g us) ∙ sym (pick_some f q r x b h us) ∙ e in cc
  known_bad x b us h (deep_enough_at le P) j e =
      let y = P.bad j (sym (pick_some f q r x b h us) ∙ e) in
      record {
        u = (x, m) ∷ y.u;
        us = y.us;
        split = ap (λ w. x ∷ w) y.split;
        count = y.count;
        within = (le, y.within);
        begins = (y.begins.0, y.begins.1, λ rest. c.known x b _ _ _ h (y.begins.2 rest));
        again = λ other n. pick_some f q r x b h (plain y.u ++ other) ∙ y.again other n;
      }

  known_deep : (x : Lexeme) (b : B) (us : Tokens) → f x.kind ≡ Some b → OpeningAt L m stop (Q b x.span) (q b x.span) us → (j : ℕ)
      → pick f q r (x ∷ us) ≡ Deep j → TooDeep L T (pick f q r) (x ∷ us) j
  known_deep x b us h (too_deep_at lt g w) j e =
      let d : ◌≡◌ {A = Reading A} (Deep (suc (length us))) (Deep j) = sym (g us) ∙ sym (pick_some f q r x b h us) ∙ e in
      let i : j ≡ suc (length us) = cc in
      record {
        u = [];
        x = x;
        m = m;
        us = us;
        split = refl;
        count = i;
        within = tt;
        past = lt;
        begins = (w.0, w.1, λ rest. c.known x b _ _ _ h (w.2 rest));
        again = λ other. pick_some f q r x b h other ∙ g other;
      }
  known_deep x b us h (deep_enough_at le P) j e =
      let y = P.deep j (sym (pick_some f q r x b h us) ∙ e) in
      record {
        u = (x, m) ∷ y.u;
        x = y.x;
        m = y.m;
        us = y.us;
        split = ap (λ w. x ∷ w) y.split;
        count = y.count;
        within = (le, y.within);
        past = y.past;
        begins = (y.begins.0, y.begins.1, λ rest. c.known x b _ _ _ h (y.begins.2 rest));
        again = λ other. pick_some f q r x b h (plain y.u ++ y.x ∷ other) ∙ y.again other;
      }

  unknown_good : (ts : Tokens) → ElseAt L stop S T r ts → sight f ts ≡ None → (a : A) (vs : Tokens) → pick f q r ts ≡ Good a vs
      → Taken L T (pick f q r) ts a vs
  unknown_good ts P n a vs e =
      let y = P.good a vs (sym (pick_none f q r ts n) ∙ e) in
      record {
        u = y.u;
        split = y.split;
        within = y.within;
        spelled = y.spelled;
        again = λ other i. pick_none f q r (plain y.u ++ other) (unknown_again f y.u ts vs other y.split n i) ∙ y.again other i;
      }

  unknown_bad : (ts : Tokens) → ElseAt L stop S T r ts → sight f ts ≡ None → (j : ℕ) → pick f q r ts ≡ Bad j
      → Refused L T (pick f q r) ts j
  unknown_bad ts P n j e =
      let y = P.bad j (sym (pick_none f q r ts n) ∙ e) in
      record {
        u = y.u;
        us = y.us;
        split = y.split;
        count = y.count;
        within = y.within;
        begins = y.begins;
        again = λ other i. pick_none f q r (plain y.u ++ other) (unknown_again f y.u ts y.us other y.split n i) ∙ y.again other i;
      }

  unknown_deep : (ts : Tokens) → ElseAt L stop S T r ts → sight f ts ≡ None → (j : ℕ) → pick f q r ts ≡ Deep j
      → TooDeep L T (pick f q r) ts j
  unknown_deep ts P n j e =
      let y = P.deep j (sym (pick_none f q r ts n) ∙ e) in
      record {
        u = y.u;
        x = y.x;
        m = y.m;
        us = y.us;
        split = y.split;
        count = y.count;
        within = y.within;
        past = y.past;
        begins = y.begins;
        again =
            λ other. pick_none f q r (plain y.u ++ y.x ∷ other)
            (unknown_again f y.u ts (y.x ∷ y.us) (y.x ∷ other) y.split n (inl refl)) ∙ y.again other;
      }

  known_reads : (x : Lexeme) (b : B) (us : Marked) (a : A) (vs : Marked) → f x.kind ≡ Some b
      → OpeningAt L m stop (Q b x.span) (q b x.span) (plain us) → Q b x.span us a vs → stop (next_of (plain vs)) ≡ true
      → Reads L (pick f q r) ((x, m) ∷ us) a vs
  known_reads x b us a vs h (too_deep_at lt g w) i s =
      inr (record {
        u = [];
        x = x;
        m = m;
        v = us;
        split = refl;
        within = tt;
        past = lt;
        reads = pick_some f q r x b h (plain us)
            ∙ g (plain us);
      })
  known_reads x b us a vs h (deep_enough_at le P) i s = elim (P.reads us a vs refl i s) [
    | inl g ↦ inl (pick_some f q r x b h (plain us) ∙ g.0, ((x, m) ∷ g.1.0, ap (λ w. (x, m) ∷ w) g.1.1, (le, g.1.2)))
    | inr d ↦ inr (record {
      u = (x, m) ∷ d.u;
      x = d.x;
      m = d.m;
      v = d.v;
      split = ap (λ w. (x, m) ∷ w) d.split;
      within = (le, d.within);
      past = d.past;
      reads = pick_some f q r x b h (plain us) ∙ d.reads;
    })
  ]

  entry_reads : (ts : Tokens)
      → ((x : Lexeme) (b : B) (us : Tokens) → ts ≡ x ∷ us → f x.kind ≡ Some b → OpeningAt L m stop (Q b x.span) (q b x.span) us)
      → (us : Marked) (a : A) (vs : Marked) → plain us ≡ ts → AtEntry f m Q us a vs → stop (next_of (plain vs)) ≡ true
      → Reads L (pick f q r) us a vs
  entry_reads ts K us a vs e (at_entry {x = x} {b = b} {us = ws} h i) s =
      known_reads x b ws a vs h (K x b (plain ws) (sym e) h) i s

  pub exact_at_pick : (ts : Tokens)
      → ((x : Lexeme) (b : B) (us : Tokens) → ts ≡ x ∷ us → f x.kind ≡ Some b → OpeningAt L m stop (Q b x.span) (q b x.span) us)
      → ElseAt L stop S T r ts
      → ExactAt L stop T (pick f q r) ts
  exact_at_pick ts K P = record {
    good = λ a vs e. by_sight f q r (λ ts. ((x : Lexeme) (b : B) (us : Tokens) → ts ≡ x ∷ us → f x.kind ≡ Some b
        → OpeningAt L m stop (Q b x.span) (q b x.span) us) → ElseAt L stop S T r ts → pick f q r ts ≡ Good a vs
        → Taken L T (pick f q r) ts a vs)
        (λ x b us h K P e. known_good x b us h (K x b us refl h) a vs e) (λ ts n K P e. unknown_good ts P n a vs e) ts K P e;
    bad = λ j e. by_sight f q r (λ ts. ((x : Lexeme) (b : B) (us : Tokens) → ts ≡ x ∷ us → f x.kind ≡ Some b
        → OpeningAt L m stop (Q b x.span) (q b x.span) us) → ElseAt L stop S T r ts → pick f q r ts ≡ Bad j
        → Refused L T (pick f q r) ts j)
        (λ x b us h K P e. known_bad x b us h (K x b us refl h) j e) (λ ts n K P e. unknown_bad ts P n j e) ts K P e;
    deep = λ j e. by_sight f q r (λ ts. ((x : Lexeme) (b : B) (us : Tokens) → ts ≡ x ∷ us → f x.kind ≡ Some b
        → OpeningAt L m stop (Q b x.span) (q b x.span) us) → ElseAt L stop S T r ts → pick f q r ts ≡ Deep j
        → TooDeep L T (pick f q r) ts j)
        (λ x b us h K P e. known_deep x b us h (K x b us refl h) j e) (λ ts n K P e. unknown_deep ts P n j e) ts K P e;
    reads = λ us a vs e t s. elim (c.cases us a vs t) [
      | inl i ↦ entry_reads ts K us a vs e i s
      | inr i ↦
          let n = pick_none f q r (plain us) (apart us a vs i s) in
          elim (P.reads us a vs e i s) [
            | inl g ↦ inl (n ∙ g.0, g.1)
            | inr d ↦
                inr (record {
                  u = d.u;
                  x = d.x;
                  m = d.m;
                  v = d.v;
                  split = d.split;
                  within = d.within;
                  past = d.past;
                  reads = n
                      ∙ d.reads;
                })
          ]
    ];
  }

-- where the token is not known, by an exact reader
pub else_exact : {A : Type 0} {L : ℕ} {stop : Nexts} {S T : Rule A} {r : Parser A} {ts : Tokens}
    → ((us : Marked) (a : A) (vs : Marked) → S us a vs → T us a vs) → ExactAt L stop S r ts → ElseAt L stop S T r ts
else_exact {ts = ts} to P =
    record {
      good = λ a us h. let x =
          P.good a us h in
          record { u = x.u; split = x.split; within = x.within; spelled = λ rest. to _ _ _ (x.spelled rest); again = x.again };
      bad = λ j h. let x = P.bad j h in
          record {
            u = x.u;
            us = x.us;
            split = x.split;
            count = x.count;
            within = x.within;
            begins = (x.begins.0, x.begins.1, λ rest. to _ _ _ (x.begins.2 rest));
            again = x.again;
          };
      deep = λ j h. let x = P.deep j h in
          record {
            u = x.u;
            x = x.x;
            m = x.m;
            us = x.us;
            split = x.split;
            count = x.count;
            within = x.within;
            past = x.past;
            begins = (x.begins.0, x.begins.1, λ rest. to _ _ _ (x.begins.2 rest));
            again = x.again;
          };
      reads = P.reads;
    }

-- nothing
abbrev pub Never : {A : Type 0} → Rule A
Never us a vs = ⊥

-- and where the token has to be known
pub else_refuse : {A : Type 0} {L : ℕ} {stop : Nexts} {T : Rule A} {ts : Tokens} → Begins T [] → ElseAt L stop Never T refuse ts
else_refuse {ts = ts} w = record {
  good = λ a us h. cc;
  bad = λ j h. let e : j ≡ length ts =
      cc in record { u = []; us = ts; split = refl; count = e; within = tt; begins = w; again = λ other n. refl };
  deep = λ j h. cc;
  reads = λ us a vs e n s. absurd n;
}

-- the reader behind a token that is reached at depth m, wherever it stands
pub data Opening {A : Type 0} (L m : ℕ) (stop : Nexts) (Q : Rule A) (g : Parser A) : Type 0 where
  too_deep : L < m → ((vs : Tokens) → g vs ≡ Deep (suc (length vs))) → Begins Q [] → Opening L m stop Q g
  deep_enough : {first : Nexts} → m ≤ L → Exact L first stop Q g → Opening L m stop Q g

pub opening_at : {A : Type 0} {L m : ℕ} {stop : Nexts} {Q : Rule A} {g : Parser A} → Opening L m stop Q g → (us : Tokens)
    → OpeningAt L m stop Q g us
opening_at (too_deep lt g w) us = too_deep_at lt g w
opening_at (deep_enough le P) us = deep_enough_at le (P.at us)

pub opening_makes : {A : Type 0} {L m : ℕ} {stop : Nexts} {Q : Rule A} {g : Parser A} → Opening L m stop Q g → Begins Q []
opening_makes (too_deep lt g w) = w
opening_makes (deep_enough le P) = P.makes

pub entry_heads : {A B : Type 0} {m : ℕ} {Q : B → Span → Rule A} (f : LexemeKind → Option B) (us : Marked) (a : A) (vs : Marked)
    → AtEntry f m Q us a vs → knows f (next_of (plain us)) ≡ true
entry_heads f us a vs (at_entry {x = x} {b = b} h i) = ap is_some h

pub split_or : {A B : Type 0} {m : ℕ} {Q : B → Span → Rule A} {R : Rule A} (f : LexemeKind → Option B) (T : Rule A)
    → ((us : Marked) (a : A) (vs : Marked) → T us a vs → AtEntry f m Q us a vs)
    → ((x : Lexeme) (b : B) (us : Marked) (a : A) (vs : Marked) → f x.kind ≡ Some b → Q b x.span us a vs → T ((x, m) ∷ us) a vs)
    → Split f m Q R (Or T R)
split_or f T from to =
    record {
      known = λ x b us a vs h i. inl (to x b us a vs h i);
      cases = λ us a vs. elim [ inl t ↦ inl (from us a vs t) | inr s ↦ inr s ];
    }

-- a token that f may know, and else r
module _ {A B : Type 0} {L m : ℕ} {first stop : Nexts} {Q : B → Span → Rule A} {R : Rule A} {q : B → Span
    → Parser A} {r : Parser A} (f : LexemeKind → Option B) where
  pub exact_or : (T : Rule A) → ((us : Marked) (a : A) (vs : Marked) → T us a vs → AtEntry f m Q us a vs)
      → ((x : Lexeme) (b : B) (us : Marked) (a : A) (vs : Marked) → f x.kind ≡ Some b → Q b x.span us a vs → T ((x, m) ∷ us) a vs)
      → ((b : B) (s : Span) → Opening L m stop (Q b s) (q b s)) → Apart f first → Exact L first stop R r
      → Exact L (either (knows f) first) stop (Or T R) (pick f q r)
  exact_or T from to O c P = record {
    at = λ ts. exact_at_pick (split_or f T from to)
        (λ us a vs i s. no_sight f first c (next_of (plain us)) (P.heads us a vs i s)) q r ts
        (λ x b us e h. opening_at (O b x.span) us) (else_exact (λ us a vs i. inr i) (P.at ts));
    heads = λ us a vs. elim [
      | inl t ↦ λ s. or_left (knows f (next_of (plain us))) (first (next_of (plain us))) (entry_heads f us a vs (from us a vs t))
      | inr i ↦ λ s. or_right (knows f (next_of (plain us))) (first (next_of (plain us))) (P.heads us a vs i s)
    ];
    makes = (P.makes.0, P.makes.1, λ rest. inr (P.makes.2 rest));
  }

-- a token that f has to know
module _ {A B : Type 0} {L m : ℕ} {stop : Nexts} {Q : B → Span → Rule A} {q : B → Span → Parser A} (f : LexemeKind
    → Option B) where
  pub exact_must : (T : Rule A) → ((us : Marked) (a : A) (vs : Marked) → T us a vs → AtEntry f m Q us a vs)
      → ((x : Lexeme) (b : B) (us : Marked) (a : A) (vs : Marked) → f x.kind ≡ Some b → Q b x.span us a vs → T ((x, m) ∷ us) a vs)
      → (x : Lexeme) (b : B) → f x.kind ≡ Some b → ((b : B) (s : Span) → Opening L m stop (Q b s) (q b s))
      → Exact L (knows f) stop T (pick f q refuse)
  exact_must T from to x b h O =
      let w = opening_makes (O b x.span) in
      let made : Begins T [] = ((x, m) ∷ w.0, w.1, λ rest. to x b _ _ _ h (w.2 rest)) in
      let split : Split f m Q Never T = record { known = to; cases = λ us a vs t. inl (from us a vs t) } in
      record {
        at = λ ts. exact_at_pick split (λ us a vs i s. absurd i) q refuse ts (λ x b us e h. opening_at (O b x.span) us)
            (else_refuse made);
        heads = λ us a vs t s. entry_heads f us a vs (from us a vs t);
        makes = made;
      }

-- Tokens by what makes them known.

pub at_kind : (x : Lexeme) (y : LexemeKind) → x.kind ≡ y → x ≡ record { kind = y; span = x.span }
at_kind x y h = ap (λ (z : LexemeKind). let x' : Lexeme = record { kind = z; span = x.span } in x') h

module _ {A : Type 0} (j m : ℕ) (Q : Span → Rule A) where
  pub from_fixed : (us : Marked) (a : A) (vs : Marked) → AtFixed j m Q us a vs → AtEntry (is_fixed j) m (λ t s. Q s) us a vs
  from_fixed us a vs (at_fixed i) = at_entry (known_fixed j) i

  pub to_fixed : (x : Lexeme) (t : Unit {0}) (us : Marked) (a : A) (vs : Marked) → is_fixed j x.kind ≡ Some t → Q x.span us a vs
      → AtFixed j m Q ((x, m) ∷ us) a vs
  to_fixed x t us a vs h i =
      subst (λ y. AtFixed j m Q ((y, m) ∷ us) a vs) (sym (at_kind x (k.Fixed j) (fixed_is j x.kind t h))) (at_fixed i)

module _ {A : Type 0} (m : ℕ) (Q : Word → Rule A) where
  abbrev by_name : Name → Span → Rule A
  by_name n s = Q (record { name = n; span = s })

  pub from_name : (us : Marked) (a : A) (vs : Marked) → AtName m Q us a vs → AtEntry name_of m by_name us a vs
  from_name us a vs (at_name i) = at_entry refl i

  pub to_name : (x : Lexeme) (n : Name) (us : Marked) (a : A) (vs : Marked) → name_of x.kind ≡ Some n
      → Q (record { name = n; span = x.span }) us a vs → AtName m Q ((x, m) ∷ us) a vs
  to_name x n us a vs h i =
      subst (λ y. AtName m Q ((y, m) ∷ us) a vs) (sym (at_kind x (k.Named n) (name_is x.kind n h))) (at_name i)

module _ {A : Type 0} (m : ℕ) (Q : ℕ → Span → Rule A) where
  pub from_number : (us : Marked) (a : A) (vs : Marked) → AtNumber m Q us a vs → AtEntry number_of m Q us a vs
  from_number us a vs (at_number i) = at_entry refl i

  pub to_number : (x : Lexeme) (n : ℕ) (us : Marked) (a : A) (vs : Marked) → number_of x.kind ≡ Some n → Q n x.span us a vs
      → AtNumber m Q ((x, m) ∷ us) a vs
  to_number x n us a vs h i =
      subst (λ y. AtNumber m Q ((y, m) ∷ us) a vs) (sym (at_kind x (k.Number n) (number_is x.kind n h))) (at_number i)

nowhere : Span
nowhere = record { from = 0; to = 0 }

module _ {A : Type 0} {L m : ℕ} {first stop : Nexts} {R : Rule A} {r : Parser A} where
  pub exact_fixed : {Q : Span → Rule A} {q : Span → Parser A} (j : ℕ) → ((s : Span) → Opening L m stop (Q s) (q s))
      → first (Some (k.Fixed j)) ≡ false → Exact L first stop R r
      → Exact L (either (knows (is_fixed j)) first) stop (Or (AtFixed j m Q) R) (fixed j q r)
  exact_fixed {Q = Q} j O c P =
      exact_or (is_fixed j) (AtFixed j m Q) (from_fixed j m Q) (to_fixed j m Q) (λ t s. O s) (apart_fixed j c) P

  pub exact_named : {Q : Word → Rule A} {q : Word → Parser A} → ((w : Word) → Opening L m stop (Q w) (q w))
      → ((n : Name) → first (Some (k.Named n)) ≡ false) → Exact L first stop R r
      → Exact L (either (knows name_of) first) stop (Or (AtName m Q) R) (named q r)
  exact_named {Q = Q} O c P =
      exact_or name_of (AtName m Q) (from_name m Q) (to_name m Q) (λ n s. O (record { name = n; span = s })) (apart_name c) P

  pub exact_numbered : {Q : ℕ → Span → Rule A} {q : ℕ → Span → Parser A} → ((n : ℕ) (s : Span) → Opening L m stop (Q n s) (q n s))
      → ((n : ℕ) → first (Some (k.Number n)) ≡ false) → Exact L first stop R r
      → Exact L (either (knows number_of) first) stop (Or (AtNumber m Q) R) (numbered q r)
  exact_numbered {Q = Q} O c P = exact_or number_of (AtNumber m Q) (from_number m Q) (to_number m Q) O (apart_number c) P

  pub exact_entry : {B : Type 0} {Q : B → Span → Rule A} {q : B → Span → Parser A} (t : List (ℕ × B))
      → ((b : B) (s : Span) → Opening L m stop (Q b s) (q b s)) → Each (λ j. first (Some (k.Fixed j)) ≡ false) t
      → Exact L first stop R r
      → Exact L (either (knows (listed_in t)) first) stop (Or (AtEntry (listed_in t) m Q) R) (pick (listed_in t) q r)
  exact_entry {Q = Q} t O c P =
      exact_or (listed_in t) (AtEntry (listed_in t) m Q) (λ us a vs i. i) (λ x b us a vs h i. at_entry h i) O (apart_table t c) P

module _ {A : Type 0} {L m : ℕ} {stop : Nexts} where
  pub exact_expect : {Q : Span → Rule A} {q : Span → Parser A} (j : ℕ) → ((s : Span) → Opening L m stop (Q s) (q s))
      → Exact L (knows (is_fixed j)) stop (AtFixed j m Q) (expect j q)
  exact_expect {Q = Q} j O =
      exact_must (is_fixed j) (AtFixed j m Q) (from_fixed j m Q) (to_fixed j m Q) (fixed_at j nowhere) tt (known_fixed j)
      (λ t s. O s)

  pub exact_expect_name : {Q : Word → Rule A} {q : Word → Parser A} → ((w : Word) → Opening L m stop (Q w) (q w))
      → Exact L (knows name_of) stop (AtName m Q) (expect_name q)
  exact_expect_name {Q = Q} O =
      exact_must name_of (AtName m Q) (from_name m Q) (to_name m Q)
      (word_at (record { name = record { 0 = 0 }; span = nowhere })) _ refl (λ n s. O (record { name = n; span = s }))

  pub exact_expect_number : {Q : ℕ → Span → Rule A} {q : ℕ → Span → Parser A}
      → ((n : ℕ) (s : Span) → Opening L m stop (Q n s) (q n s)) → Exact L (knows number_of) stop (AtNumber m Q) (expect_number q)
  exact_expect_number {Q = Q} O =
      exact_must number_of (AtNumber m Q) (from_number m Q) (to_number m Q) (number_at 0 nowhere) 0 refl O

  -- the table has the number j
  pub exact_expect_entry : {B : Type 0} {Q : B → Span → Rule A} {q : B → Span → Parser A} (t : List (ℕ × B)) (j : ℕ) (b : B)
      → entry_of t j ≡ Some b → ((b : B) (s : Span) → Opening L m stop (Q b s) (q b s))
      → Exact L (knows (listed_in t)) stop (AtEntry (listed_in t) m Q) (pick (listed_in t) q refuse)
  exact_expect_entry {Q = Q} t j b h O =
      exact_must (listed_in t) (AtEntry (listed_in t) m Q) (λ us a vs i. i) (λ x b us a vs h i. at_entry h i)
      (fixed_at j nowhere) b h O

-- what may stand one deeper: nothing, or readers of which this is known
pub data Deeper {R : Type 0} (L m : ℕ) (Known : R → Type 0) : Option R → Type 0 where
  none_deeper : L < m → Deeper L m Known None
  one_deeper : {r : R} → m ≤ L → Known r → Deeper L m Known (Some r)

pub opening_opened : {A R : Type 0} {L m : ℕ} {first stop : Nexts} {Known : R → Type 0} {Q : Rule A} {g : R
    → Parser A} {o : Option R} → Deeper L m Known o → Begins Q []
    → ((r : R) → m ≤ L → Known r → Exact L first stop Q (g r)) → Opening L m stop Q (opened o g)
opening_opened (none_deeper lt) w P = too_deep lt (λ vs. refl) w
opening_opened (one_deeper {r = r} le known) w P = deep_enough le (P r le known)

-- What rules make.

pub makes_is : {A : Type 0} (a : A) → Begins (Is a) []
makes_is a = ([], a, λ rest. is)

pub makes_then : {A B : Type 0} {R : Rule A} {S : A → Rule B} → Begins R [] → ((a : A) → Begins (S a) []) → Begins (Then R S) []
makes_then {R = R} {S = S} x f =
    let y = f x.1 in (
      x.0 ++ y.0,
      y.1,
      λ rest. regroup (Then R S) y.1 (x.0 ++ (y.0 ++ rest)) ((x.0 ++ y.0) ++ rest) rest
          (sym (append_assoc x.0 y.0 rest)) (seq (x.2 (y.0 ++ rest)) (y.2 rest)),
    )

pub makes_fixed : {A : Type 0} {Q : Span → Rule A} (j m : ℕ) → ((s : Span) → Begins (Q s) []) → Begins (AtFixed j m Q) []
makes_fixed j m f = let x = f nowhere in ((fixed_at j nowhere, m) ∷ x.0, x.1, λ rest. at_fixed (x.2 rest))

pub makes_name : {A : Type 0} {Q : Word → Rule A} (m : ℕ) → ((w : Word) → Begins (Q w) []) → Begins (AtName m Q) []
makes_name m f =
    let w : Word = record { name = record { 0 = 0 }; span = nowhere } in let x = f w in
    ((word_at w, m) ∷ x.0, x.1, λ rest. at_name (x.2 rest))

pub makes_number : {A : Type 0} {Q : ℕ → Span → Rule A} (m : ℕ) → ((n : ℕ) (s : Span) → Begins (Q n s) [])
    → Begins (AtNumber m Q) []
makes_number m f = let x = f 0 nowhere in ((number_at 0 nowhere, m) ∷ x.0, x.1, λ rest. at_number (x.2 rest))

pub makes_as : {A : Type 0} {R S : Rule A} → ((us : Marked) (a : A) (vs : Marked) → R us a vs → S us a vs) → Begins R []
    → Begins S []
makes_as to x = (x.0, x.1, λ rest. to _ _ _ (x.2 rest))
