-- A reader is exact for a rule where it reads just what the rule says, and stops at the first token at which no more of it
-- can be said. What is made of exact readers is exact.
use Rattle.std.proofs.Common.{ℕ, suc, ◌≡◌, ◌<◌, ◌⊎◌, inl, inr, [], ◌∷◌, ◌++◌, length, Option, Some, true, refl, sym, ap, ◌∙◌, subst, append_assoc}
use Rattle.pv_base.specs.declared.Span.{Span}
use Rattle.pv_ast.specs.declared.Word.{Word}
use Rattle.pv_tokens.specs.declared.Lexeme.{Lexeme}
use Rattle.pv_tokens.specs.declared.LexemeKind.{LexemeKind}
use Rattle.pv_reading.specs.Marks.{Tokens, Marked, plain, Within, next_of, fixed_at, word_at, number_at}
use Rattle.pv_reading.specs.Spelled.{Rule}
use Rattle.pv_reading.specs.Reading.{Reading, Good, Bad, Deep, Parser, onward, ◌>>=◌, give}
use Rattle.pv_reading.proofs.Nexts.{Nexts, Sub}

-- u begins what R says
abbrev pub Begins : {A : Type 0} → Rule A → Marked → Type 0
Begins {A = A} R u = (v : Marked) × (a : A) × ((rest : Marked) → R ((u ++ v) ++ rest) a rest)

-- other goes on as us does, or is at its end
abbrev pub Ends : Tokens → Tokens → Type 0
Ends us other = (next_of other ≡ next_of us) ⊎ (other ≡ [])

pub record Taken {A : Type 0} (L : ℕ) (R : Rule A) (p : Parser A) (ts : Tokens) (a : A) (us : Tokens) : Type 0 where
  pub u : Marked
  pub split : ts ≡ plain u ++ us
  pub within : Within L u
  pub spelled : (rest : Marked) → R (u ++ rest) a rest
  pub again : (other : Tokens) → Ends us other → p (plain u ++ other) ≡ Good a other

pub record Refused {A : Type 0} (L : ℕ) (R : Rule A) (p : Parser A) (ts : Tokens) (left : ℕ) : Type 0 where
  pub u : Marked
  pub us : Tokens
  pub split : ts ≡ plain u ++ us
  pub count : left ≡ length us
  pub within : Within L u
  pub begins : Begins R u
  pub again : (other : Tokens) → Ends us other → p (plain u ++ other) ≡ Bad (length other)

pub record TooDeep {A : Type 0} (L : ℕ) (R : Rule A) (p : Parser A) (ts : Tokens) (left : ℕ) : Type 0 where
  pub u : Marked
  pub x : Lexeme
  pub m : ℕ
  pub us : Tokens
  pub split : ts ≡ plain u ++ x ∷ us
  pub count : left ≡ suc (length us)
  pub within : Within L u
  pub past : L < m
  pub begins : Begins R (u ++ (x, m) ∷ [])
  pub again : (other : Tokens) → p (plain u ++ x ∷ other) ≡ Deep (suc (length other))

-- the first token that is reached with more than L open constructs
pub record DeepAt {A : Type 0} (L : ℕ) (p : Parser A) (us : Marked) : Type 0 where
  pub u : Marked
  pub x : Lexeme
  pub m : ℕ
  pub v : Marked
  pub split : us ≡ u ++ (x, m) ∷ v
  pub within : Within L u
  pub past : L < m
  pub reads : p (plain us) ≡ Deep (suc (length (plain v)))

-- what R says is read, or it is too deep
abbrev pub Reads : {A : Type 0} → ℕ → Parser A → Marked → A → Marked → Type 0
Reads L p us a vs = ((p (plain us) ≡ Good a (plain vs)) × ((u : Marked) × (us ≡ u ++ vs) × Within L u)) ⊎ DeepAt L p us

-- p is exact where ts stands; what `stop` has may follow
pub record ExactAt {A : Type 0} (L : ℕ) (stop : Nexts) (R : Rule A) (p : Parser A) (ts : Tokens) : Type 0 where
  pub good : (a : A) (us : Tokens) → p ts ≡ Good a us → Taken L R p ts a us
  pub bad : (left : ℕ) → p ts ≡ Bad left → Refused L R p ts left
  pub deep : (left : ℕ) → p ts ≡ Deep left → TooDeep L R p ts left
  pub reads : (us : Marked) (a : A) (vs : Marked) → plain us ≡ ts → R us a vs → stop (next_of (plain vs)) ≡ true
      → Reads L p us a vs

-- what R says begins with what `first` has
abbrev pub Heads : {A : Type 0} → Nexts → Nexts → Rule A → Type 0
Heads {A = A} first stop R =
    (us : Marked) (a : A) (vs : Marked) → R us a vs → stop (next_of (plain vs)) ≡ true → first (next_of (plain us)) ≡ true

pub record Exact {A : Type 0} (L : ℕ) (first stop : Nexts) (R : Rule A) (p : Parser A) : Type 0 where
  pub at : (ts : Tokens) → ExactAt L stop R p ts
  pub heads : Heads first stop R
  pub makes : Begins R []

-- Rules, as readers are made.

pub data Is {A : Type 0} (a : A) : Marked → A → Marked → Type 0 where
  is : {us : Marked} → Is a us a us

-- what is said of the value is said of what is read
pub by_is : {A : Type 0} {a b : A} {us vs ws : Marked} (R : Rule A) → Is a vs b ws → R us a vs → R us b ws
by_is R is r = r

pub data Then {A B : Type 0} (R : Rule A) (S : A → Rule B) : Marked → B → Marked → Type 0 where
  seq : {us vs ws : Marked} {a : A} {b : B} → R us a vs → S a vs b ws → Then R S us b ws

abbrev pub Or : {A : Type 0} → Rule A → Rule A → Rule A
Or R S us a vs = R us a vs ⊎ S us a vs

pub data AtFixed {A : Type 0} (j m : ℕ) (Q : Span → Rule A) : Marked → A → Marked → Type 0 where
  at_fixed : {s : Span} {us vs : Marked} {a : A} → Q s us a vs → AtFixed j m Q ((fixed_at j s, m) ∷ us) a vs

pub data AtName {A : Type 0} (m : ℕ) (Q : Word → Rule A) : Marked → A → Marked → Type 0 where
  at_name : {w : Word} {us vs : Marked} {a : A} → Q w us a vs → AtName m Q ((word_at w, m) ∷ us) a vs

pub data AtNumber {A : Type 0} (m : ℕ) (Q : ℕ → Span → Rule A) : Marked → A → Marked → Type 0 where
  at_number : {n : ℕ} {s : Span} {us vs : Marked} {a : A} → Q n s us a vs → AtNumber m Q ((number_at n s, m) ∷ us) a vs

pub data AtEntry {A B : Type 0} (f : LexemeKind → Option B) (m : ℕ) (Q : B → Span → Rule A) : Marked → A → Marked → Type 0 where
  at_entry : {x : Lexeme} {b : B} {us vs : Marked} {a : A} → f x.kind ≡ Some b → Q b x.span us a vs
      → AtEntry f m Q ((x, m) ∷ us) a vs

-- Lists.

pub plain_append : (u v : Marked) → plain (u ++ v) ≡ plain u ++ plain v
plain_append [] v = refl
plain_append (x ∷ u) v = ap (λ w. x.0 ∷ w) (plain_append u v)

pub plain_join : (u v : Marked) (us : Tokens) → plain (u ++ v) ++ us ≡ plain u ++ (plain v ++ us)
plain_join u v us = ap (λ w. w ++ us) (plain_append u v) ∙ append_assoc (plain u) (plain v) us

pub within_append : (L : ℕ) (u v : Marked) → Within L u → Within L v → Within L (u ++ v)
within_append L [] v p q = q
within_append L (x ∷ u) v p q = (p.0, within_append L u v p.1 q)

pub within_rest : (L : ℕ) (u v : Marked) → Within L (u ++ v) → Within L v
within_rest L [] v p = p
within_rest L (x ∷ u) v p = within_rest L u v p.1

ends_through : (v : Marked) (us vs other : Tokens) → us ≡ plain v ++ vs → Ends vs other → Ends us (plain v ++ other)
ends_through [] us vs other e h = subst (λ z. Ends z other) (sym e) h
ends_through (x ∷ v) us vs other e h = inl (ap next_of (sym e))

-- R at a list that is grouped in another way
pub regroup : {B : Type 0} (Q : Rule B) (b : B) (us vs ws : Marked) → us ≡ vs → Q us b ws → Q vs b ws
regroup Q b us vs ws e q = subst (λ w. Q w b ws) e q

-- Changes of the rule and of the reader.

module _ {A : Type 0} {L : ℕ} {stop : Nexts} {R : Rule A} where
  -- the same reader in other words
  pub exact_at_same : {p q : Parser A} → ((ts : Tokens) → q ts ≡ p ts) → (ts : Tokens) → ExactAt L stop R p ts
      → ExactAt L stop R q ts
  exact_at_same e ts P = record {
    good = λ a us h. let x = P.good a us (sym (e ts) ∙ h) in
        record { u = x.u; split = x.split; within = x.within; spelled = x.spelled; again = λ other n. e _ ∙ x.again other n };
    bad = λ j h. let x = P.bad j (sym (e ts) ∙ h) in
        record {
          u = x.u;
          us = x.us;
          split = x.split;
          count = x.count;
          within = x.within;
          begins = x.begins;
          again = λ other n. e _ ∙ x.again other n;
        };
    deep = λ j h. let x = P.deep j (sym (e ts) ∙ h) in
        record {
          u = x.u;
          x = x.x;
          m = x.m;
          us = x.us;
          split = x.split;
          count = x.count;
          within = x.within;
          past = x.past;
          begins = x.begins;
          again = λ other. e _ ∙ x.again other;
        };
    reads = λ us a vs i r s. elim (P.reads us a vs i r s) [
      | inl g ↦ inl (e (plain us) ∙ g.0, g.1)
      | inr d ↦ inr (record {
        u = d.u;
        x = d.x;
        m = d.m;
        v = d.v;
        split = d.split;
        within = d.within;
        past = d.past;
        reads = e (plain us) ∙ d.reads;
      })
    ];
  }

  -- the same rule in other words
  pub exact_at_as : {S : Rule A} {p : Parser A} → ((us : Marked) (a : A) (vs : Marked) → R us a vs → S us a vs)
      → ((us : Marked) (a : A) (vs : Marked) → S us a vs → R us a vs)
      → (ts : Tokens) → ExactAt L stop R p ts → ExactAt L stop S p ts
  exact_at_as to from ts P = record {
    good = λ a us h. let x = P.good a us h in
        record { u = x.u; split = x.split; within = x.within; spelled = λ rest. to _ _ _ (x.spelled rest); again = x.again };
    bad = λ j h. let x = P.bad j h in
        record {
          u = x.u;
          us = x.us;
          split = x.split;
          count = x.count;
          within = x.within;
          begins = (x.begins.0, x.begins.1, λ rest. to _ _ _ (x.begins.2 rest));
          again = x.again;
        };
    deep = λ j h. let x = P.deep j h in
        record {
          u = x.u;
          x = x.x;
          m = x.m;
          us = x.us;
          split = x.split;
          count = x.count;
          within = x.within;
          past = x.past;
          begins = (x.begins.0, x.begins.1, λ rest. to _ _ _ (x.begins.2 rest));
          again = x.again;
        };
    reads = λ us a vs i r s. P.reads us a vs i (from us a vs r) s;
  }

  pub exact_as : {first : Nexts} {S : Rule A} {p : Parser A} → ((us : Marked) (a : A) (vs : Marked) → R us a vs → S us a vs)
      → ((us : Marked) (a : A) (vs : Marked) → S us a vs → R us a vs)
      → Exact L first stop R p → Exact L first stop S p
  exact_as to from P = record {
    at = λ ts. exact_at_as to from ts (P.at ts);
    heads = λ us a vs r s. P.heads us a vs (from us a vs r) s;
    makes = (P.makes.0, P.makes.1, λ rest. to _ _ _ (P.makes.2 rest));
  }

  pub exact_same : {first : Nexts} {p q : Parser A} → ((ts : Tokens) → q ts ≡ p ts) → Exact L first stop R p
      → Exact L first stop R q
  exact_same e P = record { at = λ ts. exact_at_same e ts (P.at ts); heads = P.heads; makes = P.makes }

  -- more may begin, less may follow
  pub exact_wider : {first first' stop' : Nexts} {p : Parser A} → Sub first first' → Sub stop' stop → Exact L first stop R p
      → Exact L first' stop' R p
  exact_wider f g P = record {
    at = λ ts. record {
      good = (P.at ts).good;
      bad = (P.at ts).bad;
      deep = (P.at ts).deep;
      reads = λ us a vs i r s. (P.at ts).reads us a vs i r (g.has _ s);
    };
    heads = λ us a vs r s. f.has _ (P.heads us a vs r (g.has _ s));
    makes = P.makes;
  }

-- What takes nothing.

reads_is : {A : Type 0} (L : ℕ) (a : A) (us : Marked) (b : A) (vs : Marked) → Is a us b vs → Reads L (give a) us b vs
reads_is L a us b vs is = inl (refl, ([], refl, tt))

heads_is : {A : Type 0} (stop : Nexts) (a : A) → Heads stop stop (Is a)
heads_is stop a us b vs is s = s

pub exact_at_give : {A : Type 0} {L : ℕ} {stop : Nexts} (a : A) (ts : Tokens) → ExactAt L stop (Is a) (give a) ts
exact_at_give {L = L} a ts = record {
  good = λ b us h.
      let e : ts ≡ us = cc in
      let f : a ≡ b = cc in
      record {
        u = [];
        split = e;
        within = tt;
        spelled = λ rest. subst (λ z. Is a rest z rest) f is;
        again = λ other n. ap (λ z. Good z other) f;
      };
  bad = λ j h. cc;
  deep = λ j h. cc;
  reads = λ us b vs e i s. reads_is L a us b vs i;
}

pub exact_give : {A : Type 0} {L : ℕ} {stop : Nexts} (a : A) → Exact L stop stop (Is a) (give a)
exact_give {stop = stop} a = record { at = λ ts. exact_at_give a ts; heads = heads_is stop a; makes = ([], a, λ rest. is) }

-- One after the other.

module _ {A B : Type 0} (f : A → Parser B) where
  onward_good : (x : Reading A) (b : B) (vs : Tokens) → onward f x ≡ Good b vs
      → (a : A) × (us : Tokens) × (x ≡ Good a us) × (f a us ≡ Good b vs)
  onward_good (Good a us) b vs h = (a, us, refl, h)
  onward_good (Bad k) b vs h = cc
  onward_good (Deep k) b vs h = cc

  onward_bad : (x : Reading A) (k : ℕ) → onward f x ≡ Bad k
      → (x ≡ Bad k) ⊎ ((a : A) × (us : Tokens) × (x ≡ Good a us) × (f a us ≡ Bad k))
  onward_bad (Good a us) k h = inr (a, us, refl, h)
  onward_bad (Bad j) k h = inl (cc)
  onward_bad (Deep j) k h = cc

  onward_deep : (x : Reading A) (k : ℕ) → onward f x ≡ Deep k
      → (x ≡ Deep k) ⊎ ((a : A) × (us : Tokens) × (x ≡ Good a us) × (f a us ≡ Deep k))
  onward_deep (Good a us) k h = inr (a, us, refl, h)
  onward_deep (Bad j) k h = cc
  onward_deep (Deep j) k h = inl (cc)

module _ {A B : Type 0} {L : ℕ} {stop stop' : Nexts} {R : Rule A} {S : A → Rule B} {p : Parser A} {f : A → Parser B}
    (W : (a : A) → Begins (S a) []) (H : (a : A) (us : Marked) (b : B) (vs : Marked) → S a us b vs
    → stop' (next_of (plain vs)) ≡ true → stop (next_of (plain us)) ≡ true)
    (ts : Tokens) (P : ExactAt L stop R p ts) (F : (a : A) (us : Tokens) → p ts ≡ Good a us
    → ExactAt L stop' (S a) (f a) us) where
  bind_good : (b : B) (vs : Tokens) → (p >>= f) ts ≡ Good b vs → Taken L (Then R S) (p >>= f) ts b vs
  bind_good b vs h =
      let g = onward_good f (p ts) b vs h in
      let x = P.good g.0 g.1 g.2 in
      let y = (F g.0 g.1 g.2).good b vs g.3 in
      record {
        u = x.u ++ y.u;
        split = x.split ∙ ap (λ w. plain x.u ++ w) y.split ∙ sym (plain_join x.u y.u vs);
        within = within_append L x.u y.u x.within y.within;
        spelled =
            λ rest. regroup (Then R S) b (x.u ++ (y.u ++ rest)) ((x.u ++ y.u) ++ rest) rest (sym (append_assoc x.u y.u rest))
            (seq (x.spelled (y.u ++ rest)) (y.spelled rest));
        again =
            λ other ends. ap (p >>= f) (plain_join x.u y.u other)
            ∙ ap (onward f) (x.again (plain y.u ++ other) (ends_through y.u g.1 vs other y.split ends)) ∙ y.again other ends;
      }

  bind_bad : (k : ℕ) → (p >>= f) ts ≡ Bad k → Refused L (Then R S) (p >>= f) ts k
  bind_bad k h = elim (onward_bad f (p ts) k h) [
    | inl e ↦
        let x = P.bad k e in
        record {
          u = x.u;
          us = x.us;
          split = x.split;
          count = x.count;
          within = x.within;
          begins =
              let v = x.begins.0 in let w = W x.begins.1 in (
                v ++ w.0,
                w.1,
                λ rest. regroup (Then R S) w.1 ((x.u ++ v) ++ (w.0 ++ rest)) ((x.u ++ (v ++ w.0)) ++ rest) rest
                    (sym (append_assoc (x.u ++ v) w.0 rest) ∙ ap (λ z. z ++ rest) (append_assoc x.u v w.0))
                    (seq (x.begins.2 (w.0 ++ rest)) (w.2 rest)),
              );
          again = λ other same. ap (onward f) (x.again other same);
        }
    | inr g ↦
        let x = P.good g.0 g.1 g.2 in
        let y = (F g.0 g.1 g.2).bad k g.3 in
        record {
          u = x.u ++ y.u;
          us = y.us;
          split = x.split ∙ ap (λ w. plain x.u ++ w) y.split ∙ sym (plain_join x.u y.u y.us);
          count = y.count;
          within = within_append L x.u y.u x.within y.within;
          begins =
              let v = y.begins.0 in (
                v,
                y.begins.1,
                λ rest. regroup (Then R S) y.begins.1 (x.u ++ ((y.u ++ v) ++ rest)) (((x.u ++ y.u) ++ v) ++ rest) rest
                    (sym (append_assoc x.u (y.u ++ v) rest) ∙ ap (λ z. z ++ rest) (sym (append_assoc x.u y.u v)))
                    (seq (x.spelled ((y.u ++ v) ++ rest)) (y.begins.2 rest)),
              );
          again =
              λ other same. ap (p >>= f) (plain_join x.u y.u other)
              ∙ ap (onward f) (x.again (plain y.u ++ other) (ends_through y.u g.1 y.us other y.split same)) ∙ y.again other same;
        }
  ]

  bind_deep : (k : ℕ) → (p >>= f) ts ≡ Deep k → TooDeep L (Then R S) (p >>= f) ts k
  bind_deep k h = elim (onward_deep f (p ts) k h) [
    | inl e ↦
        let x = P.deep k e in
        record {
          u = x.u;
          x = x.x;
          m = x.m;
          us = x.us;
          split = x.split;
          count = x.count;
          within = x.within;
          past = x.past;
          begins =
              let c = x.u ++ (x.x, x.m) ∷ [] in
              let v = x.begins.0 in let w = W x.begins.1 in (
                v ++ w.0,
                w.1,
                λ rest. regroup (Then R S) w.1 ((c ++ v) ++ (w.0 ++ rest)) ((c ++ (v ++ w.0)) ++ rest) rest
                    (sym (append_assoc (c ++ v) w.0 rest) ∙ ap (λ z. z ++ rest) (append_assoc c v w.0))
                    (seq (x.begins.2 (w.0 ++ rest)) (w.2 rest)),
              );
          again = λ other. ap (onward f) (x.again other);
        }
    | inr g ↦
        let x = P.good g.0 g.1 g.2 in
        let y = (F g.0 g.1 g.2).deep k g.3 in
        record {
          u = x.u ++ y.u;
          x = y.x;
          m = y.m;
          us = y.us;
          split = x.split ∙ ap (λ w. plain x.u ++ w) y.split ∙ sym (plain_join x.u y.u (y.x ∷ y.us));
          count = y.count;
          within = within_append L x.u y.u x.within y.within;
          past = y.past;
          begins =
              let c = y.u ++ (y.x, y.m) ∷ [] in
              let v = y.begins.0 in (
                v,
                y.begins.1,
                λ rest. regroup (Then R S) y.begins.1 (x.u ++ ((c ++ v) ++ rest))
                    (((x.u ++ y.u) ++ (y.x, y.m) ∷ []) ++ v ++ rest) rest
                    (sym (append_assoc x.u (c ++ v) rest) ∙ ap (λ z. z ++ rest) (sym (append_assoc x.u c v))
                    ∙ ap (λ z. (z ++ v) ++ rest) (sym (append_assoc x.u y.u ((y.x, y.m) ∷ []))))
                    (seq (x.spelled ((c ++ v) ++ rest)) (y.begins.2 rest)),
              );
          again = λ other.
              ap (p >>= f) (plain_join x.u y.u (y.x ∷ other))
              ∙ ap (onward f) (x.again (plain y.u ++ y.x ∷ other)
              (ends_through y.u g.1 (y.x ∷ y.us) (y.x ∷ other) y.split (inl refl))) ∙ y.again other;
        }
  ]

  bind_reads : (us : Marked) (b : B) (vs : Marked) → plain us ≡ ts → Then R S us b vs → stop' (next_of (plain vs)) ≡ true
      → Reads L (p >>= f) us b vs
  bind_reads us b vs e (seq {vs = ws} {a = a} r t) s = elim (P.reads us a ws e r (H a ws b vs t s)) [
    | inl g ↦
        let u = g.1.0 in
        elim ((F a (plain ws) (ap p (sym e) ∙ g.0)).reads ws b vs refl t s) [
          | inl h ↦ inl (
            ap (onward f) g.0 ∙ h.0,
            (
              u ++ h.1.0,
              g.1.1 ∙ ap (λ z. u ++ z) h.1.1 ∙ sym (append_assoc u h.1.0 vs),
              within_append L u h.1.0 g.1.2 h.1.2,
            ),
          )
          | inr h ↦ inr (record {
            u = u ++ h.u;
            x = h.x;
            m = h.m;
            v = h.v;
            split = g.1.1 ∙ ap (λ z. u ++ z) h.split ∙ sym (append_assoc u h.u ((h.x, h.m) ∷ h.v));
            within = within_append L u h.u g.1.2 h.within;
            past = h.past;
            reads = ap (onward f) g.0 ∙ h.reads;
          })
        ]
    | inr d ↦ inr (record {
      u = d.u;
      x = d.x;
      m = d.m;
      v = d.v;
      split = d.split;
      within = d.within;
      past = d.past;
      reads = ap (onward f) d.reads;
    })
  ]

  pub exact_at_bind : ExactAt L stop' (Then R S) (p >>= f) ts
  exact_at_bind = record { good = bind_good; bad = bind_bad; deep = bind_deep; reads = bind_reads }

module _ {A B : Type 0} {L : ℕ} {first stop first' stop' : Nexts} {R : Rule A} {S : A → Rule B} {p : Parser A} {f : A
    → Parser B} where
  bind_heads : Exact L first stop R p → ((a : A) → Exact L first' stop' (S a) (f a)) → Sub first' stop
      → Heads first stop' (Then R S)
  bind_heads P F c us b vs (seq {vs = ws} {a = a} r t) s = P.heads us a ws r (c.has _ ((F a).heads ws b vs t s))

  pub exact_bind : Sub first' stop → Exact L first stop R p → ((a : A) → Exact L first' stop' (S a) (f a))
      → Exact L first stop' (Then R S) (p >>= f)
  exact_bind c P F = record {
    at = λ ts. exact_at_bind (λ a. (F a).makes) (λ a us b vs t s. c.has _ ((F a).heads us b vs t s)) ts (P.at ts)
        (λ a us h. (F a).at us);
    heads = bind_heads P F c;
    makes =
        let x = P.makes in let y = (F x.1).makes in (
          x.0 ++ y.0,
          y.1,
          λ rest. regroup (Then R S) y.1 (x.0 ++ (y.0 ++ rest)) ((x.0 ++ y.0) ++ rest) rest
              (sym (append_assoc x.0 y.0 rest)) (seq (x.2 (y.0 ++ rest)) (y.2 rest)),
        );
  }
