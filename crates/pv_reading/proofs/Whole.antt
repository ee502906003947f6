-- What an exact reader answers to tokens, in words of its rule.
use Rattle.std.proofs.Common.{ℕ, suc, ◌≡◌, ◌≢◌, ◌-◌, ◌<◌, ◌≤◌, ◌⊎◌, inl, inr, [], ◌∷◌, ◌++◌, length, drop, Some, None, true, refl, sym, ap, ◌∙◌, subst, append_assoc, append-nil, length-append, arith}
use Rattle.pv_base.specs.declared.Span.{Span}
use Rattle.pv_tokens.specs.declared.Lexeme.{Lexeme}
use Rattle.pv_reading.specs.Marks.{Tokens, Marked, plain, Within, next_of, place_of}
use Rattle.pv_reading.specs.Spelled.{Rule, Spells, SpellsWithin, EndsHere, IsUnexpected, IsTooDeep, IsLongest, IsUnfinished}
use Rattle.pv_reading.specs.Reading.{Reading, Good, Bad, Deep, Parser}
use Rattle.pv_reading.proofs.Nexts.{Nexts}
use Rattle.pv_reading.proofs.Exact.{Exact, Begins, Ends, plain_append}

-- two ways to split tokens: one front goes on into the rest of the other
pub two_splits : (p us q vs : Tokens) → p ++ us ≡ q ++ vs
    → ((w : Tokens) × (q ≡ p ++ w) × (us ≡ w ++ vs)) ⊎ ((w : Tokens) × (p ≡ q ++ w) × (vs ≡ w ++ us))
two_splits [] us q vs e = inl (q, refl, e)
two_splits (x ∷ p) us [] vs e = inr (x ∷ p, refl, sym e)
two_splits (x ∷ p) us (y ∷ q) vs e =
    let h : x ≡ y = cc in
    let t : p ++ us ≡ q ++ vs = cc in
    elim (two_splits p us q vs t) [
      | inl w ↦ inl (w.0, ap (λ z. z ∷ q) (sym h) ∙ ap (λ z. x ∷ z) w.1, w.2)
      | inr w ↦ inr (w.0, ap (λ z. z ∷ p) h ∙ ap (λ z. y ∷ z) w.1, w.2)
    ]

pub plain_length : (u : Marked) → length (plain u) ≡ length u
plain_length [] = refl
plain_length (x ∷ u) = ap suc (plain_length u)

drop_all : (u us : Tokens) → drop (length u) (u ++ us) ≡ us
drop_all [] us = refl
drop_all (x ∷ u) us = drop_all u us

pub drop_front : (u us : Tokens) → drop (length (u ++ us) - length us) (u ++ us) ≡ us
drop_front u us =
    let e : length (u ++ us) - length us ≡ length u = omega (arith, length-append u us) in
    ap (λ n. drop n (u ++ us)) e ∙ drop_all u us

-- where the place of a fault is told by the number of tokens from it on
pub place_at : (end left : ℕ) (ts u us : Tokens) → ts ≡ u ++ us → left ≡ length us
    → place_of end (drop (length ts - left) ts) ≡ place_of end us
place_at end left ts u us e h =
    ap (λ z. place_of end (drop (length z - left) z)) e ∙ ap (λ n. place_of end (drop (length (u ++ us) - n) (u ++ us))) h
    ∙ ap (place_of end) (drop_front u us)

not_within : {limit : ℕ} (u : Marked) (x : Lexeme) (m : ℕ) (v : Marked) → limit < m → Within limit (u ++ (x, m) ∷ v) → ⊥
not_within [] x m v lt w = absurd (omega (arith, lt, w.0))
not_within (y ∷ u) x m v lt w = not_within u x m v lt w.1

-- a token past the limit is none of a front within it
deep_inside : {limit : ℕ} (front more u : Marked) (x : Lexeme) (m : ℕ) (v : Marked) → limit < m → Within limit front
    → front ++ more ≡ u ++ (x, m) ∷ v → length more ≤ length v → ⊥
deep_inside [] more u x m v lt w e n = omega (arith, n, ap length e, length-append u ((x, m) ∷ v))
deep_inside (y ∷ front) more [] x m v lt w e n =
    let h : y ≡ (x, m) = cc in
    let k : y.1 ≡ m = ap (λ (z : Lexeme × ℕ). z.1) h in
    omega (arith, w.0, k, lt)
deep_inside (y ∷ front) more (z ∷ u) x m v lt w e n =
    let t : front ++ more ≡ u ++ (x, m) ∷ v = cc in
    deep_inside front more u x m v lt w.1 t n

-- two splits with as many tokens behind
same_split : (p q : Tokens) (x y : Lexeme) (us vs : Tokens) → p ++ x ∷ us ≡ q ++ y ∷ vs → length us ≡ length vs
    → (p ≡ q) × (x ≡ y)
same_split [] [] x y us vs e n = let h : x ≡ y = cc in (refl, h)
same_split [] (z ∷ q) x y us vs e n = absurd (omega (arith, ap length e, length-append q (y ∷ vs), n))
same_split (z ∷ p) [] x y us vs e n = absurd (omega (arith, ap length e, length-append p (x ∷ us), n))
same_split (z ∷ p) (z' ∷ q) x y us vs e n =
    let h : z ≡ z' = cc in
    let t : p ++ x ∷ us ≡ q ++ y ∷ vs = cc in
    let r = same_split p q x y us vs t n in
    (ap (λ z. z ∷ p) h ∙ ap (λ p. z' ∷ p) r.0, r.1)

-- the first token past the limit is one
one_past : {limit : ℕ} (u u' : Marked) (x x' : Lexeme) (m m' : ℕ) (v v' : Marked) → u ++ (x, m) ∷ v ≡ u' ++ (x', m') ∷ v'
    → Within limit u → Within limit u' → limit < m → limit < m' → (u ≡ u') × (x ≡ x') × (v ≡ v')
one_past [] [] x x' m m' v v' e w w' lt lt' =
    let h : (x, m) ≡ (x', m') = cc in
    let t : v ≡ v' = cc in
    (refl, ap (λ (z : Lexeme × ℕ). z.0) h, t)
one_past [] (y ∷ u') x x' m m' v v' e w w' lt lt' =
    let h : (x, m) ≡ y = cc in
    let n : m ≡ y.1 = ap (λ (z : Lexeme × ℕ). z.1) h in
    absurd (omega (arith, w'.0, n, lt))
one_past (y ∷ u) [] x x' m m' v v' e w w' lt lt' =
    let h : y ≡ (x', m') = cc in
    let n : y.1 ≡ m' = ap (λ (z : Lexeme × ℕ). z.1) h in
    absurd (omega (arith, w.0, n, lt'))
one_past (y ∷ u) (y' ∷ u') x x' m m' v v' e w w' lt lt' =
    let h : y ≡ y' = cc in
    let t : u ++ (x, m) ∷ v ≡ u' ++ (x', m') ∷ v' = cc in
    let z = one_past u u' x x' m m' v v' t w.1 w'.1 lt lt' in
    (ap (λ z. z ∷ u) h ∙ ap (λ z. y' ∷ z) z.0, z.1, z.2)

module _ {A : Type 0} {limit : ℕ} {first stop : Nexts} {R : Rule A} {p : Parser A} (P : Exact limit first stop R p)
    (ends : stop None ≡ true) where
  -- what spells a tree is read, or it is too deep
  spelled_reads : (ts : Tokens) (a : A) → Spells R ts a → (p ts ≡ Good a []) ⊎ ((left : ℕ) × (p ts ≡ Deep left))
  spelled_reads ts a s = elim ((P.at ts).reads s.marks a [] s.here s.spelled ends) [
    | inl g ↦ inl (ap p (sym s.here) ∙ g.0)
    | inr d ↦ inr (suc (length (plain d.v)), ap p (sym s.here) ∙ d.reads)
  ]

  pub within_reads : (ts : Tokens) (a : A) → SpellsWithin R limit ts a → p ts ≡ Good a []
  within_reads ts a s = elim ((P.at ts).reads s.marks a [] s.here s.spelled ends) [
    | inl g ↦ ap p (sym s.here) ∙ g.0
    | inr d ↦ absurd (not_within d.u d.x d.m d.v d.past (subst (Within limit) d.split s.within))
  ]

  not_spelled : (ts : Tokens) (a : A) → Spells R ts a → (left : ℕ) → p ts ≡ Bad left → ⊥
  not_spelled ts a s left h = elim (spelled_reads ts a s) [
    | inl g ↦ let e : Bad left ≡ Good a [] = sym h ∙ g in cc
    | inr d ↦ let e : ◌≡◌ {A = Reading A} (Bad left) (Deep d.0) = sym h ∙ d.1 in cc
  ]

  not_longer : (ts : Tokens) (a b : A) (x : Lexeme) (us : Tokens) → Spells R ts a → p ts ≡ Good b (x ∷ us) → ⊥
  not_longer ts a b x us s h = elim (spelled_reads ts a s) [
    | inl g ↦ let e : Good b (x ∷ us) ≡ Good a [] = sym h ∙ g in cc
    | inr d ↦ let e : Good b (x ∷ us) ≡ Deep d.0 = sym h ∙ d.1 in cc
  ]

  -- where a tree was read, nothing longer is spelled that goes on as here
  good_ends : (front : Marked) (a : A) (rest : Tokens)
      → ((other : Tokens) → Ends rest other → p (plain front ++ other) ≡ Good a other) → rest ≢ [] → EndsHere R (plain front) rest
  good_ends front a [] again n other b same s = n refl
  good_ends front a (y ∷ us) again n [] b same s = let e : None ≡ Some y.kind = same in cc
  good_ends front a (y ∷ us) again n (x ∷ other) b same s =
      not_longer (plain front ++ x ∷ other) b a x other s (again (x ∷ other) (inl same))

  bad_ends : (front : Marked) (rest : Tokens)
      → ((other : Tokens) → Ends rest other → p (plain front ++ other) ≡ Bad (length other)) → EndsHere R (plain front) rest
  bad_ends front rest again other b same s = not_spelled (plain front ++ other) b s (length other) (again other (inl same))

  pub good_spells : (ts : Tokens) (a : A) → p ts ≡ Good a [] → SpellsWithin R limit ts a
  good_spells ts a h =
      let x = (P.at ts).good a [] h in
      record {
        marks = x.u;
        here = sym (x.split ∙ append-nil (plain x.u));
        spelled = subst (λ z. R z a []) (append-nil x.u) (x.spelled []);
        within = x.within;
      }

  pub bad_unfinished : (end : ℕ) (ts : Tokens) (left : ℕ) → p ts ≡ Bad left
      → IsUnfinished R limit end ts (place_of end (drop (length ts - left) ts))
  bad_unfinished end ts left h =
      let x = (P.at ts).bad left h in
      record {
        unexpected = record {
          front = x.u;
          rest = x.us;
          split = x.split;
          within = x.within;
          more = x.begins.0;
          tree = x.begins.1;
          spelled = subst (λ z. R z x.begins.1 []) (append-nil (x.u ++ x.begins.0)) (x.begins.2 []);
          ends = bad_ends x.u x.us x.again;
          stands = place_at end left ts (plain x.u) x.us x.split x.count;
        };
        unfinished = λ a s. not_spelled (plain x.u) a s 0 (ap p (sym (append-nil (plain x.u))) ∙ x.again [] (inr refl));
      }

  pub bad_unexpected : (end : ℕ) (ts : Tokens) (left : ℕ) → p ts ≡ Bad left
      → IsUnexpected R limit end ts (place_of end (drop (length ts - left) ts))
  bad_unexpected end ts left h = (bad_unfinished end ts left h).unexpected

  -- a tree was read, and tokens stand behind it where none should
  pub rest_unexpected : (end : ℕ) (ts : Tokens) (a : A) (us : Tokens) → p ts ≡ Good a us → us ≢ []
      → IsUnexpected R limit end ts (place_of end (drop (length ts - length us) ts))
  rest_unexpected end ts a us h n =
      let x = (P.at ts).good a us h in
      record {
        front = x.u;
        rest = us;
        split = x.split;
        within = x.within;
        more = [];
        tree = a;
        spelled = x.spelled [];
        ends = good_ends x.u a us x.again n;
        stands = place_at end (length us) ts (plain x.u) us x.split refl;
      }

  pub deep_is : (end : ℕ) (ts : Tokens) (left : ℕ) → p ts ≡ Deep left
      → IsTooDeep R limit ts (place_of end (drop (length ts - left) ts))
  deep_is end ts left h =
      let x = (P.at ts).deep left h in
      record {
        front = x.u;
        token = x.x;
        depth = x.m;
        rest = x.us;
        split = x.split;
        within = x.within;
        past = x.past;
        more = x.begins.0;
        tree = x.begins.1;
        spelled = subst (λ z. R z x.begins.1 []) (append-nil ((x.u ++ (x.x, x.m) ∷ []) ++ x.begins.0)) (x.begins.2 []);
        none = λ other a s. let e : Deep (suc (length other)) ≡ Good a [] =
            sym (x.again other) ∙ within_reads (plain x.u ++ x.x ∷ other) a s in cc;
        stands = place_at end left ts (plain x.u) (x.x ∷ x.us) x.split x.count;
      }

  pub good_longest : (ts : Tokens) (a : A) (us : Tokens) → p ts ≡ Good a us → IsLongest R limit ts a (length ts - length us)
  good_longest ts a us h =
      let x = (P.at ts).good a us h in
      record {
        front = x.u;
        rest = us;
        split = x.split;
        count = omega (arith, ap length x.split, length-append (plain x.u) us, plain_length x.u);
        within = x.within;
        spelled = subst (λ z. R z a []) (append-nil x.u) (x.spelled []);
        ends = good_ends x.u a us x.again;
      }

  -- Where a tree was read as far as here, the reader reads as far.

  shorter_good : (front : Tokens) (b : A) (us : Tokens) → ((other : Tokens) → Ends us other → p (front ++ other) ≡ Good b other)
      → (a : A) (whole rest w : Tokens)
      → whole ≡ front ++ w → us ≡ w ++ rest → p whole ≡ Good a [] → (b ≡ a) × (us ≡ rest)
  shorter_good front b us again a whole rest [] e g h =
      let i : Good b [] ≡ Good a [] = sym (again [] (inr refl)) ∙ ap p (sym e) ∙ h in
      (cc, g)
  shorter_good front b us again a whole rest (x ∷ w) e g h =
      let i : Good b (x ∷ w) ≡ Good a [] = sym (again (x ∷ w) (inl (ap next_of (sym g)))) ∙ ap p (sym e) ∙ h in
      cc

  longer_good : (front : Tokens) (b : A) (us : Tokens) → ((other : Tokens) → Ends us other → p (front ++ other) ≡ Good b other)
      → Spells R front b → (a : A) (whole rest w : Tokens) → (rest ≢ [] → EndsHere R whole rest)
      → front ≡ whole ++ w → rest ≡ w ++ us → p whole ≡ Good a [] → (b ≡ a) × (us ≡ rest)
  longer_good front b us again s a whole rest [] ends e g h =
      shorter_good front b us again a whole rest [] (sym (e ∙ append-nil whole) ∙ sym (append-nil front)) (sym g) h
  longer_good front b us again s a whole rest (x ∷ w) ends e g h =
      absurd (ends (λ n. let i : x ∷ (w ++ us) ≡ [] = sym g ∙ n in cc) (x ∷ w) b (ap next_of (sym g))
      (subst (λ z. Spells R z b) e s))

  pub longest_good : (ts : Tokens) (a : A) (taken : ℕ) (l : IsLongest R limit ts a taken) (b : A) (us : Tokens) → p ts ≡ Good b us
      → (b ≡ a) × (us ≡ l.rest)
  longest_good ts a taken l b us h =
      let x = (P.at ts).good b us h in
      let whole : p (plain l.front) ≡ Good a [] =
      within_reads (plain l.front) a (record { marks = l.front; here = refl; spelled = l.spelled; within = l.within }) in
      elim (two_splits (plain x.u) us (plain l.front) l.rest (sym x.split ∙ l.split)) [
        | inl w ↦ shorter_good (plain x.u) b us x.again a (plain l.front) l.rest w.0 w.1 w.2 whole
        | inr w ↦ longer_good (plain x.u) b us x.again
            (record { marks = x.u; here = refl; spelled = subst (λ z. R z b []) (append-nil x.u) (x.spelled []) }) a
            (plain l.front) l.rest w.0 l.ends w.1 w.2 whole
      ]

  -- and refuses nothing before
  longer_none : (front more : Tokens) (b : A) (whole rest w us : Tokens) → Spells R (front ++ more) b
      → (rest ≢ [] → EndsHere R whole rest) → front ≡ whole ++ w → rest ≡ w ++ us → w ≢ [] → ⊥
  longer_none front more b whole rest [] us s ends e g n = n refl
  longer_none front more b whole rest (x ∷ w) us s ends e g n =
      ends (λ m. let i : x ∷ (w ++ us) ≡ [] = sym g ∙ m in cc) (x ∷ (w ++ more)) b (ap next_of (sym g))
      (subst (λ z. Spells R z b) (ap (λ z. z ++ more) e ∙ append_assoc whole (x ∷ w) more) s)

  shorter_bad : (front us : Tokens) → ((other : Tokens) → Ends us other → p (front ++ other) ≡ Bad (length other))
      → (a : A) (whole rest w : Tokens) → whole ≡ front ++ w → us ≡ w ++ rest → p whole ≡ Good a [] → ⊥
  shorter_bad front us again a whole rest [] e g h =
      let i : Bad 0 ≡ Good a [] = sym (again [] (inr refl)) ∙ ap p (sym e) ∙ h in cc
  shorter_bad front us again a whole rest (x ∷ w) e g h =
      let i : Bad (suc (length w)) ≡ Good a [] = sym (again (x ∷ w) (inl (ap next_of (sym g)))) ∙ ap p (sym e) ∙ h in cc

  longer_bad : (front : Marked) (us : Tokens) → Begins R front
      → ((other : Tokens) → Ends us other → p (plain front ++ other) ≡ Bad (length other)) → (a : A) (whole rest w : Tokens)
      → (rest ≢ [] → EndsHere R whole rest)
      → plain front ≡ whole ++ w → rest ≡ w ++ us → p whole ≡ Good a [] → ⊥
  longer_bad front us b again a whole rest [] ends e g h =
      shorter_bad (plain front) us again a whole rest [] (sym (e ∙ append-nil whole) ∙ sym (append-nil (plain front))) (sym g) h
  longer_bad front us b again a whole rest (x ∷ w) ends e g h =
      let s : Spells R (plain front ++ plain b.0) b.1 =
      record {
        marks = front ++ b.0;
        here = plain_append front b.0;
        spelled = subst (λ z. R z b.1 []) (append-nil (front ++ b.0)) (b.2 []);
      } in
      longer_none (plain front) (plain b.0) b.1 whole rest (x ∷ w) us s ends e g (λ n. cc)

  pub longest_bad : (ts : Tokens) (a : A) (taken : ℕ) → IsLongest R limit ts a taken → (left : ℕ) → p ts ≡ Bad left → ⊥
  longest_bad ts a taken l left h =
      let x = (P.at ts).bad left h in
      let whole : p (plain l.front) ≡ Good a [] =
      within_reads (plain l.front) a (record { marks = l.front; here = refl; spelled = l.spelled; within = l.within }) in
      elim (two_splits (plain x.u) x.us (plain l.front) l.rest (sym x.split ∙ l.split)) [
        | inl w ↦ shorter_bad (plain x.u) x.us x.again a (plain l.front) l.rest w.0 w.1 w.2 whole
        | inr w ↦ longer_bad x.u x.us x.begins x.again a (plain l.front) l.rest w.0 l.ends w.1 w.2 whole
      ]

  shorter_deep : (front : Tokens) (y : Lexeme) (us : Tokens)
      → ((other : Tokens) → p (front ++ y ∷ other) ≡ Deep (suc (length other))) → (m : ℕ) (v : Marked) (b : A) (u : Marked)
      → plain u ≡ front → R ((u ++ (y, m) ∷ []) ++ v) b [] → (a : A) (whole rest w : Tokens)
      → (rest ≢ [] → EndsHere R whole rest) → whole ≡ front ++ w → y ∷ us ≡ w ++ rest → p whole ≡ Good a [] → ⊥
  shorter_deep front y us again m v b u f s a whole rest [] ends e g h =
      ends (λ n. let i : y ∷ us ≡ [] = g ∙ n in cc) (y ∷ plain v) b (ap next_of g)
      (record {
        marks = (u ++ (y, m) ∷ []) ++ v;
        here = plain_append (u ++ (y, m) ∷ []) v
            ∙ ap (λ z. z ++ plain v) (plain_append u ((y, m) ∷ [])) ∙ append_assoc (plain u) (y ∷ []) (plain v)
            ∙ ap (λ z. z ++ y ∷ plain v) (f ∙ sym (append-nil front) ∙ sym e);
        spelled = s;
      })
  shorter_deep front y us again m v b u f s a whole rest (x ∷ w) ends e g h =
      let i : y ≡ x = cc in
      let j : Deep (suc (length w)) ≡ Good a [] = sym (again w) ∙ ap (λ z. p (front ++ z ∷ w)) i ∙ ap p (sym e) ∙ h in
      cc

  longer_with : (whole rest w : Tokens) (y : Lexeme) (us more : Tokens) (b : A) → (rest ≢ [] → EndsHere R whole rest)
      → rest ≡ w ++ y ∷ us → Spells R (whole ++ (w ++ y ∷ more)) b → ⊥
  longer_with whole rest [] y us more b ends g s =
      ends (λ m. let i : y ∷ us ≡ [] = sym g ∙ m in cc) (y ∷ more) b (ap next_of (sym g)) s
  longer_with whole rest (x ∷ w) y us more b ends g s =
      ends (λ m. let i : x ∷ (w ++ y ∷ us) ≡ [] = sym g ∙ m in cc) (x ∷ (w ++ y ∷ more)) b (ap next_of (sym g)) s

  longer_deep : (front : Marked) (y : Lexeme) (us : Tokens) (m : ℕ) (v : Marked) (b : A) → R ((front ++ (y, m) ∷ []) ++ v) b []
      → (a : A) (whole rest w : Tokens) → (rest ≢ [] → EndsHere R whole rest)
      → plain front ≡ whole ++ w → rest ≡ w ++ y ∷ us → ⊥
  longer_deep front y us m v b s a whole rest w ends e g =
      let t : Spells R (plain front ++ y ∷ plain v) b =
      record {
        marks = (front ++ (y, m) ∷ []) ++ v;
        here = plain_append (front ++ (y, m) ∷ []) v
            ∙ ap (λ z. z ++ plain v) (plain_append front ((y, m) ∷ [])) ∙ append_assoc (plain front) (y ∷ []) (plain v);
        spelled =
            s;
      } in
      longer_with whole rest w y us (plain v) b ends g
      (subst (λ z. Spells R z b) (ap (λ z. z ++ y ∷ plain v) e ∙ append_assoc whole w (y ∷ plain v)) t)

  pub longest_deep : (ts : Tokens) (a : A) (taken : ℕ) → IsLongest R limit ts a taken → (left : ℕ) → p ts ≡ Deep left → ⊥
  longest_deep ts a taken l left h =
      let x = (P.at ts).deep left h in
      let whole : p (plain l.front) ≡ Good a [] =
      within_reads (plain l.front) a (record { marks = l.front; here = refl; spelled = l.spelled; within = l.within }) in
      let spelled : R ((x.u ++ (x.x, x.m) ∷ []) ++ x.begins.0) x.begins.1 [] =
      subst (λ z. R z x.begins.1 []) (append-nil ((x.u ++ (x.x, x.m) ∷ []) ++ x.begins.0)) (x.begins.2 []) in
      elim (two_splits (plain x.u) (x.x ∷ x.us) (plain l.front) l.rest (sym x.split ∙ l.split)) [
        | inl w ↦ shorter_deep (plain x.u) x.x x.us x.again x.m x.begins.0 x.begins.1 x.u refl spelled a
            (plain l.front) l.rest w.0 l.ends w.1 w.2 whole
        | inr w ↦ longer_deep x.u x.x x.us x.m x.begins.0 x.begins.1 spelled a (plain l.front) l.rest w.0 l.ends w.1 w.2
      ]

  -- A text has one fault at most.

  -- where a token opens one construct too many, that is what is read, whatever follows
  deep_again : (front : Marked) (x : Lexeme) (m : ℕ) (v : Marked) (b : A) → Within limit front → limit < m
      → R ((front ++ (x, m) ∷ []) ++ v) b [] → (other : Tokens) → p (plain front ++ x ∷ other) ≡ Deep (suc (length other))
  deep_again front x m v b w lt s other =
      let us = front ++ (x, m) ∷ v in
      let s' : R us b [] = subst (λ z. R z b []) (append_assoc front ((x, m) ∷ []) v) s in
      elim ((P.at (plain us)).reads us b [] refl s' ends) [
        | inl g ↦
            let e : us ≡ g.1.0 = g.1.1 ∙ append-nil g.1.0 in
            absurd (not_within front x m v lt (subst (Within limit) (sym e) g.1.2))
        | inr d ↦
            let same = one_past front d.u x d.x m d.m v d.v d.split w d.within lt d.past in
            let read = (P.at (plain us)).deep (suc (length (plain d.v))) d.reads in
            let split : plain front ++ x ∷ plain v ≡ plain read.u ++ read.x ∷ read.us =
            sym (plain_append front ((x, m) ∷ v)) ∙ read.split in
            let count : length (plain v) ≡ length read.us = omega (arith, read.count, ap (λ z. length (plain z)) same.2) in
            let z = same_split (plain front) (plain read.u) x read.x (plain v) read.us split count in
            ap (λ z. p (z ++ x ∷ other)) z.0 ∙ ap (λ y. p (plain read.u ++ y ∷ other)) z.1 ∙ read.again other
      ]

  -- what is read of a text with such a token
  pub too_deep_reads : (ts : Tokens) (place : Span) (t : IsTooDeep R limit ts place) → p ts ≡ Deep (suc (length t.rest))
  too_deep_reads ts place t = ap p t.split ∙ deep_again t.front t.token t.depth t.more t.tree t.within t.past t.spelled t.rest

  pub one_too_deep : (ts : Tokens) (place place' : Span) → IsTooDeep R limit ts place → IsTooDeep R limit ts place'
      → place ≡ place'
  one_too_deep ts place place' t t' =
      let e : ◌≡◌ {A = Reading A} (Deep (suc (length t.rest))) (Deep (suc (length t'.rest))) =
      sym (too_deep_reads ts place t) ∙ too_deep_reads ts place' t' in
      let n : suc (length t.rest) ≡ suc (length t'.rest) = cc in
      let z =
      same_split (plain t.front) (plain t'.front) t.token t'.token t.rest t'.rest (sym t.split ∙ t'.split)
      (omega (arith, n)) in
      t.stands ∙ ap (λ (x : Lexeme). x.span) z.1 ∙ sym t'.stands

  front_not_deep : (front more : Marked) (b : A) → Within limit front → R (front ++ more) b []
      → (u : Tokens) (x : Lexeme) (w : Tokens) → ((other : Tokens) → p (u ++ x ∷ other) ≡ Deep (suc (length other)))
      → plain front ≡ u ++ x ∷ w → ⊥
  front_not_deep front more b within s u x w again e =
      let us = front ++ more in
      let h : p (plain us) ≡ Deep (suc (length (w ++ plain more))) =
      ap p (plain_append front more ∙ ap (λ z. z ++ plain more) e ∙ append_assoc u (x ∷ w) (plain more))
      ∙ again (w ++ plain more) in
      elim ((P.at (plain us)).reads us b [] refl s ends) [
        | inl g ↦ let i : Good b [] ≡ Deep (suc (length (w ++ plain more))) = sym g.0 ∙ h in cc
        | inr d ↦
            let i : ◌≡◌ {A = Reading A} (Deep (suc (length (plain d.v)))) (Deep (suc (length (w ++ plain more)))) =
            sym d.reads ∙ h in
            let n : suc (length (plain d.v)) ≡ suc (length (w ++ plain more)) = cc in
            deep_inside front more d.u d.x d.m d.v d.past within d.split
            (omega (arith, n, length-append w (plain more), plain_length d.v, plain_length more))
      ]

  deep_or_front : (front more : Marked) (b : A) → Within limit front → R (front ++ more) b [] → (rest : Tokens)
      → EndsHere R (plain front) rest → (u : Marked) (x : Lexeme) (m : ℕ) (v : Marked) (c : A) → Within limit u → limit < m
      → R ((u ++ (x, m) ∷ []) ++ v) c []
      → (us w : Tokens) → plain front ≡ plain u ++ w → x ∷ us ≡ w ++ rest → ⊥
  deep_or_front front more b within s rest ends' u x m v c within' lt s' us [] e g =
      ends' (x ∷ plain v) c (ap next_of g) (record {
        marks = (u ++ (x, m) ∷ []) ++ v;
        here = plain_append (u ++ (x, m) ∷ []) v ∙ ap (λ z. z ++ plain v) (plain_append u ((x, m) ∷ []))
            ∙ append_assoc (plain u) (x ∷ []) (plain v)
            ∙ ap (λ z. z ++ x ∷ plain v) (sym (e ∙ append-nil (plain u)));
        spelled = s';
      })
  deep_or_front front more b within s rest ends' u x m v c within' lt s' us (y ∷ w) e g =
      let h : x ≡ y = cc in
      front_not_deep front more b within s (plain u) x w (deep_again u x m v c within' lt s') (e
      ∙ ap (λ z. plain u ++ z ∷ w) (sym h))

  pub unexpected_not_deep : (end : ℕ) (ts : Tokens) (place place' : Span) → IsUnexpected R limit end ts place
      → IsTooDeep R limit ts place' → ⊥
  unexpected_not_deep end ts place place' t t' =
      elim (two_splits (plain t.front) t.rest (plain t'.front) (t'.token ∷ t'.rest) (sym t.split ∙ t'.split)) [
        | inl w ↦ longer_deep t'.front t'.token t'.rest t'.depth t'.more t'.tree t'.spelled t'.tree (plain t.front) t.rest w.0
            (λ n. t.ends) w.1 w.2
        | inr w ↦ deep_or_front t.front t.more t.tree t.within t.spelled t.rest t.ends t'.front t'.token t'.depth t'.more t'.tree
            t'.within t'.past t'.spelled t'.rest w.0 w.1 w.2
      ]
