-- Two pieces of evidence on one path.
use Rattle.std.proofs.Common.{◌≡◌, ℕ, ℤ, zero, suc, ◌+◌, ◌+ℤ◌, ◌≤ℤ◌, List, [], ◌∷◌, ◌++◌, length, refl, ap, sym, subst, Bool, true, false, arith, rules, ◌⊎◌, inl, inr, ◌∙◌, Some}
use Rattle.std.specs.Prelude.{int_le, slice_get}
use Rattle.std.proofs.lemmas.Int.{ints, by_lt_z}
use Rattle.pv_linear.specs.declared.Literal.{Literal}
use Rattle.pv_linear.specs.declared.Literal.TheVariants.{AtMost, Same, Differ}
use Rattle.pv_linear.specs.Values.{Values, number_of}
use Rattle.pv_linear.specs.Literal.{Holds}
use Rattle.pv_linear.specs.Evidence.{Evidence, Follows, answered}
use Rattle.pv_linear.specs.Decisions.{Decision, fact, turn_is, On, Agrees, Level, Apart, Gone, Decides, added, entailed, DecidesTurn, turned_to, kept, AreNumbered, turns_in}
use Rattle.pv_linear.specs.Asking.{Meet, int_same}
use Rattle.pv_linear.proofs.MeetsLemmas.{Meets-append, opposite_holds, opposite_denies}

pub Agrees-append : (e : Evidence) (xs ys : List Decision) → Agrees e xs → Agrees e ys → Agrees e (xs ++ ys)
unfolding Agrees
Agrees-append e [] ys h k = k
Agrees-append e (x ∷ xs) ys h k = (h.0, Agrees-append e xs ys h.1 k)

pub Agrees-append-one : (e : Evidence) (xs : List Decision) (d : Decision) → Agrees e xs → On e d → Agrees e (xs ++ d ∷ [])
unfolding Agrees
Agrees-append-one e [] d h k = (k, tt)
Agrees-append-one e (x ∷ xs) d h k = (h.0, Agrees-append-one e xs d h.1 k)

pub Gone-more : (xs ys : List Decision) (e f : Evidence) → Gone xs e f → Gone (xs ++ ys) e f
unfolding Gone
Gone-more [] ys e f g = absurd g
Gone-more (d ∷ ds) ys e f (inl n) = inl n
Gone-more (d ∷ ds) ys e f (inr p) = inr (p.0, Gone-more ds ys e f p.1)

pub Gone-last : (xs : List Decision) (d : Decision) (e f : Evidence) → Agrees e xs → Agrees f xs → Apart e f d
    → Gone (xs ++ d ∷ []) e f
unfolding Gone Agrees
Gone-last [] d e f h k m = inl m
Gone-last (x ∷ xs) d e f h k m = inr ((h.0, k.0), Gone-last xs d e f h.1 k.1 m)

pub Follows-more : (e : Evidence) (ls : List Literal) (ts : List ℕ) (l : Literal) → Follows ls ts e → Holds e.values l
    → Follows (ls ++ l ∷ []) ts e
unfolding Follows
Follows-more e ls ts l h k = (Meets-append e.values ls (l ∷ []) h.0 (k, tt), h.1)

-- whether a literal holds can be told
pub holds_or : (v : Values) (l : Literal) (told : Bool) → Holds v (answered l told) ⊎ (Holds v (answered l told) → ⊥)
holds_or v (AtMost x y c) true = by_lt_z (number_of v y.0 +ℤ c) (number_of v x.0) (λ k. inr (λ h. omega (arith, ints)))
    (λ k. inl k)
holds_or v (AtMost x y c) false = by_lt_z (number_of v y.0 +ℤ c) (number_of v x.0) (λ k. inl (omega (arith, ints)))
    (λ k. inr (λ h. omega (arith, ints)))
holds_or v (Same x y) true = by_lt_z (number_of v x.0) (number_of v y.0) (λ k. inr (λ e. omega (arith, ints)))
    (λ h. by_lt_z (number_of v y.0) (number_of v x.0) (λ k. inr (λ e. omega (arith, ints))) (λ k. inl (omega (arith, ints))))
holds_or v (Same x y) false = by_lt_z (number_of v x.0) (number_of v y.0) (λ k. inl (λ e. omega (arith, ints)))
    (λ h. by_lt_z (number_of v y.0) (number_of v x.0) (λ k. inl (λ e. omega (arith, ints)))
    (λ k. inr (λ n. n (omega (arith, ints)))))
holds_or v (Differ x y) false = by_lt_z (number_of v x.0) (number_of v y.0) (λ k. inr (λ e. omega (arith, ints)))
    (λ h. by_lt_z (number_of v y.0) (number_of v x.0) (λ k. inr (λ e. omega (arith, ints))) (λ k. inl (omega (arith, ints))))
holds_or v (Differ x y) true = by_lt_z (number_of v x.0) (number_of v y.0) (λ k. inl (λ e. omega (arith, ints)))
    (λ h. by_lt_z (number_of v y.0) (number_of v x.0) (λ k. inl (λ e. omega (arith, ints)))
    (λ k. inr (λ n. n (omega (arith, ints)))))

-- who agrees on a literal agrees on its answer
answered_alike : (v w : Values) (l : Literal) (told : Bool) → (Holds v l → Holds w l) → (Holds w l → Holds v l)
    → Holds v (answered l told) → Holds w (answered l told)
answered_alike v w l true p q h = p h
answered_alike v w l false p q h = opposite_holds w l (λ k. opposite_denies v l h (q k))

pub Meet_front : {A : Type 0} (xs us ys ws : List A) → Meet (xs ++ us) (ys ++ ws) → Meet xs ys
unfolding Meet
Meet_front [] us ys ws m = tt
Meet_front (x ∷ xs) us [] ws m = tt
Meet_front (x ∷ xs) us (y ∷ ys) ws m = (m.0, Meet_front xs us ys ws m.1)

pub Meet_rest : {A : Type 0} (xs us ys ws : List A) → xs ≡ ys → Meet (xs ++ us) (ys ++ ws) → Meet us ws
unfolding Meet
Meet_rest [] us [] ws e m = m
Meet_rest (x ∷ xs) us (y ∷ ys) ws e m = Meet_rest xs us ys ws (cc e) m.1
Meet_rest [] us (y ∷ ys) ws e m = cc e
Meet_rest (x ∷ xs) us [] ws e m = cc e

pub Meet_one : {A : Type 0} (x y : A) → Meet (x ∷ []) (y ∷ []) → x ≡ y
unfolding Meet
Meet_one x y m = m.0

pub le_same : (x y z w : ℤ) → int_le x y ≡ int_le z w → x ≤ℤ y → z ≤ℤ w
le_same x y z w e h = search (rules, ints)

pub Meet_single : {A : Type 0} (a b : A) → Meet (a ∷ []) (b ∷ []) → a ∷ [] ≡ b ∷ []
unfolding Meet
Meet_single a b m = ap (λ x. x ∷ []) m.0

pub same_same : (x y z w : ℤ) → int_same x y ≡ int_same z w → x ≡ y → z ≡ w
same_same x y z w e h = search (rules, ints)

pub Meet_first : {A : Type 0} (x y : A) (xs ys : List A) → Meet (x ∷ xs) (y ∷ ys) → Meet (x ∷ []) (y ∷ [])
unfolding Meet
Meet_first x y xs ys m = (m.0, tt)

pub Meet_later : {A : Type 0} (x y : A) (xs ys : List A) → Meet (x ∷ xs) (y ∷ ys) → Meet xs ys
unfolding Meet
Meet_later x y xs ys m = m.1

pub nat_same : (a b : ℕ) → (a ≡ b) ⊎ (a ≡ b → ⊥)
nat_same zero zero = inl refl
nat_same zero (suc b) = inr (λ e. cc e)
nat_same (suc a) zero = inr (λ e. cc e)
nat_same (suc a) (suc b) = elim (nat_same a b) [ inl e ↦ inl (ap suc e) | inr n ↦ inr (λ e. n (cc e)) ]

-- a question on which both agree keeps them together or takes both away
pub told_alike : (path : List Literal) (turns : List ℕ) (old new : List Decision) (l : Literal) (told : Bool) (e f : Evidence)
    → Decides path old new (answered l told) → Follows path turns e → Follows path turns f → Level old e f
    → (Holds e.values l → Holds f.values l) → (Holds f.values l → Holds e.values l)
    → (Follows (path ++ answered l told ∷ []) turns e
    × (Follows (path ++ answered l told ∷ []) turns f × (Level new e f × Unit {0}))) ⊎ Gone new e f
unfolding Level Follows
told_alike path turns old new l told e f (entailed same all) a b v p q =
    inl (
      Follows-more e path turns _ a (all e.values a.0),
      (Follows-more f path turns _ b (all f.values b.0), (subst (λ ds. Level ds e f) (sym same) v, tt)),
    )
told_alike path turns old new l told e f (added one other more) a b v p q = go (holds_or e.values l told)
  where
    go : Holds e.values (answered l told) ⊎ (Holds e.values (answered l told) → ⊥)
        → (Follows (path ++ answered l told ∷ []) turns e
        × (Follows (path ++ answered l told ∷ []) turns f × (Level new e f × Unit {0}))) ⊎ Gone new e f
    go (inl h) =
        let k = answered_alike e.values f.values l told p q h in
        inl (
          Follows-more e path turns _ a h,
          (
            Follows-more f path turns _ b k,
            (subst (λ ds. Level ds e f) (sym more) (Agrees-append-one e old _ v.0 h, Agrees-append-one f old _ v.1 k), tt),
          ),
        )
    go (inr n) = inr (subst (λ ds. Gone ds e f) (sym more)
        (Gone-last old (fact (answered l told)) e f v.0 v.1 (n, (λ k. n (answered_alike f.values e.values l told q p k)))))

-- the decisions that a question adds keep what is gone
pub gone_decides : (path : List Literal) (old new : List Decision) (l : Literal) (e f : Evidence) → Decides path old new l
    → Gone old e f → Gone new e f
gone_decides path old new l e f (added one other more) g = subst (λ ds. Gone ds e f) (sym more) (Gone-more old _ e f g)
gone_decides path old new l e f (entailed same all) g = subst (λ ds. Gone ds e f) (sym same) g

pub gone_decides_turn : (turns : List ℕ) (old new : List Decision) (n : ℕ) (e f : Evidence) → DecidesTurn turns old new n
    → Gone old e f → Gone new e f
gone_decides_turn turns old new n e f (turned_to all more) g = subst (λ ds. Gone ds e f) (sym more) (Gone-more old _ e f g)
gone_decides_turn turns old new n e f (kept there same) g = subst (λ ds. Gone ds e f) (sym same) g

-- who agrees with numbered decisions has their turns
pub kept_turn : (e : Evidence) (ds : List Decision) (k j n : ℕ) → AreNumbered k ds → Agrees e ds → slice_get (turns_in ds) j
    ≡ Some n → e.turns (k + j) ≡ n
unfolding Agrees
kept_turn e [] k j n a h s = cc s
kept_turn e (fact l ∷ ds) k j n a h s = kept_turn e ds k j n a h.1 s
kept_turn e (turn_is i m ∷ ds) k zero n a h s = let q : m ≡ n = cc s in let p : e.turns k ≡ m =
    subst (λ (x : ℕ). e.turns x ≡ m) a.0 h.0 in let z : k + 0 ≡ k = omega arith in rw z (p ∙ q)
kept_turn e (turn_is i m ∷ ds) k (suc j) n a h s = let z : k + suc j ≡ suc k + j = omega arith in
    rw z (kept_turn e ds (suc k) j n a.1 h.1 s)

-- a turn that both have alike keeps them together or takes both away
pub turn_alike : (turns : List ℕ) (old new : List Decision) (n : ℕ) (e f : Evidence) → AreNumbered 0 old
    → DecidesTurn turns old new n → Level old e f → e.turns (length turns) ≡ f.turns (length turns)
    → (((e.turns (length turns) ≡ n) × (f.turns (length turns) ≡ n)) × Level new e f) ⊎ Gone new e f
unfolding Level
turn_alike turns old new n e f a (kept there s) v t =
    let z : 0 + length turns ≡ length turns = omega arith in
    inl (
      (rw z at (kept_turn e old 0 (length turns) n a v.0 there), rw z at (kept_turn f old 0 (length turns) n a v.1 there)),
      subst (λ ds. Level ds e f) (sym s) v,
    )
turn_alike turns old new n e f a (turned_to all s) v t = elim (nat_same (e.turns (length turns)) n) [
  | inl h ↦ (let j : f.turns (length turns) ≡ n = sym t ∙ h in
      inl (
        (h, j),
        subst (λ ds. Level ds e f) (sym s)
            (Agrees-append-one e old (turn_is (length turns) n) v.0 h, Agrees-append-one f old (turn_is (length turns) n) v.1 j),
      ))
  | inr h ↦ inr (subst (λ ds. Gone ds e f) (sym s) (Gone-last old (turn_is (length turns) n) e f v.0 v.1 (t, h)))
]
