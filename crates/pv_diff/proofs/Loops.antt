-- Following the causes ends where nothing was lowered, or goes round.
use Rattle.std.proofs.Common.{◌≡◌, ◌≢◌, ℕ, zero, suc, ◌+◌, ◌<◌, ◌≤◌, ℤ, pos, negsuc, ◌+ℤ◌, ◌≤ℤ◌, List, [], ◌∷◌, ◌++◌, length, Option, Some, None, refl, ap, sym, subst, arith, ◌∙◌, ◌⊎◌, inl, inr, length-append}
use Rattle.std.specs.Prelude.{slice_get, unsigned_abs, unwrap_or}
use Rattle.std.proofs.lemmas.Int.{ints}
use Rattle.std.proofs.lemmas.Option.{slice_get_within}
use Rattle.pv_diff.specs.declared.table.Edge.{Edge}
use Rattle.pv_diff.specs.declared.table.Cause.{Cause}
use Rattle.pv_diff.specs.declared.table.Entry.{Entry}
use Rattle.pv_diff.specs.Edges.{edge, breadth}
use Rattle.pv_diff.specs.Table.{number_in, cause_in, cause, Sound, Climb, Loops}
use Rattle.pv_diff.proofs.Climbs.{Climb-more, Climb-bounds}
use Rattle.pv_diff.proofs.Sums.{IsApart, AreApart, AreUnder, sum_at, sum_at-under, length-under, breadth_at, breadth_at-get, sum_under-breadth}

pub same_or_other : (m n : ℕ) → (m ≡ n) ⊎ (m ≢ n)
same_or_other zero zero = inl refl
same_or_other zero (suc n) = inr (λ e. omega arith)
same_or_other (suc m) zero = inr (λ e. omega arith)
same_or_other (suc m) (suc n) = elim (same_or_other m n) [ inl e ↦ inl (ap suc e) | inr h ↦ inr (λ e. h (omega arith)) ]

-- a slot has one cause
pub same_place : (ns : List Entry) (x p q y z : ℕ) → cause_in ns x ≡ Some (cause p y) → cause_in ns x ≡ Some (cause q z) → p ≡ q
same_place ns x p q y z h k = ap (λ (o : Option Cause). (unwrap_or o (cause 0 0)).place) (sym h ∙ k)

pub same_from : (ns : List Entry) (x p q y z : ℕ) → cause_in ns x ≡ Some (cause p y) → cause_in ns x ≡ Some (cause q z) → y ≡ z
same_from ns x p q y z h k = ap (λ (o : Option Cause). (unwrap_or o (cause 0 0)).from) (sym h ∙ k)

-- the edge at a place lowers one slot
pub same_to : (es : List Edge) (p x y v w : ℕ) (b c : ℤ) → slice_get es p ≡ Some (edge x v b) → slice_get es p ≡ Some (edge y w c)
    → x ≡ y
same_to es p x y v w b c h k = ap (λ (o : Option Edge). (unwrap_or o (edge 0 0 (pos 0))).to) (sym h ∙ k)

pub Climb-under : (es : List Edge) (ns : List Entry) (x y : ℕ) (t : ℤ) (ps : List ℕ) → Climb es ns x y t ps
    → AreUnder (length es) ps
Climb-under es ns x y t [] h = tt
Climb-under es ns x y t (p ∷ ps) h = (slice_get_within es p (edge x h.0 h.1) h.4, Climb-under es ns h.0 y h.2 ps h.5)

-- two climbs from one slot to where nothing was lowered are equally long
pub same_length : (es : List Edge) (ns : List Entry) (x y z : ℕ) (t u : ℤ) (ps qs : List ℕ) → Climb es ns x y t ps → cause_in ns y
    ≡ None → Climb es ns x z u qs → cause_in ns z ≡ None → length ps ≡ length qs
same_length es ns x y z t u [] [] h a k b = refl
same_length es ns x y z t u [] (q ∷ qs) h a k b = let e : cause_in ns x ≡ cause_in ns y = ap (cause_in ns) h.0 in
    let f : cause_in ns x ≡ Some (cause q k.0) = k.3 in cc
same_length es ns x y z t u (p ∷ ps) [] h a k b = let e : cause_in ns x ≡ cause_in ns z = ap (cause_in ns) k.0 in
    let f : cause_in ns x ≡ Some (cause p h.0) = h.3 in cc
same_length es ns x y z t u (p ∷ ps) (q ∷ qs) h a k b =
    let e = same_from ns x p q h.0 k.0 h.3 k.3 in
    ap suc (same_length es ns h.0 y z h.2 k.2 ps qs h.5 a (subst (λ (w : ℕ). Climb es ns w z k.2 qs) (sym e) k.5) b)

-- on a climb from z to where nothing was lowered there is no place that a longer such climb from x begins with
pub Climb-apart : (es : List Edge) (ns : List Entry) (x r : ℕ) (t : ℤ) (p : ℕ) (ps : List ℕ) → Climb es ns x r t (p ∷ ps)
    → cause_in ns r ≡ None → (z : ℕ) (u : ℤ) (qs : List ℕ) → Climb es ns z r u qs → length qs ≤ length ps → IsApart p qs
Climb-apart es ns x r t p ps h a z u [] k le = tt
Climb-apart es ns x r t p ps h a z u (q ∷ qs) k le = (
  λ e.
      let f : slice_get es p ≡ Some (edge z k.0 k.1) = subst (λ (w : ℕ). slice_get es w ≡ Some (edge z k.0 k.1)) (sym e) k.4 in
      let same : x ≡ z = same_to es p x z h.0 k.0 h.1 k.1 h.4 f in
      let n = same_length es ns x r r t u (p ∷ ps) (q ∷ qs) h a (subst (λ (w : ℕ). Climb es ns w r u (q ∷ qs)) (sym same) k) a in
      omega (arith, n),
  Climb-apart es ns x r t p ps h a k.0 k.2 qs k.5 (omega arith),
)

-- a climb to where nothing was lowered takes no edge twice
pub Climb-distinct : (es : List Edge) (ns : List Entry) (x r : ℕ) (t : ℤ) (ps : List ℕ) → Climb es ns x r t ps → cause_in ns r
    ≡ None → AreApart ps
Climb-distinct es ns x r t [] h a = tt
Climb-distinct es ns x r t (p ∷ ps) h a = (
  Climb-apart es ns x r t p ps h a h.0 h.2 ps h.5 (omega arith),
  Climb-distinct es ns h.0 r h.2 ps h.5 a,
)

pub least_bound : (c : ℤ) → pos 0 ≤ℤ (c +ℤ pos (unsigned_abs c))
least_bound (pos n) = omega (arith, ints)
least_bound (negsuc n) = omega (arith, ints)

-- the bounds of a climb add up to no less than their distances from zero allow
pub Climb-sum : (es : List Edge) (ns : List Entry) (x y : ℕ) (t : ℤ) (ps : List ℕ) → Climb es ns x y t ps
    → pos 0 ≤ℤ (t +ℤ pos (sum_at (breadth_at es) ps))
Climb-sum es ns x y t [] h = let k = h.1 in omega (arith, ints)
Climb-sum es ns x y t (p ∷ ps) h =
    let w = breadth_at-get es p x h.0 h.1 h.4 in
    let rest = Climb-sum es ns h.0 y h.2 ps h.5 in
    let k = h.6 in
    let a = least_bound h.1 in
    omega (arith, ints, w, rest, a)

-- a slot from which the causes end is at most the breadth of all edges below zero
pub Climb-low : (es : List Edge) (ns : List Entry) (x r : ℕ) (t : ℤ) (ps : List ℕ) → Sound es ns → Climb es ns x r t ps
    → cause_in ns r ≡ None → pos 0 ≤ℤ (number_in ns x +ℤ pos (breadth es))
Climb-low es ns x r t ps s h a =
    let under = Climb-under es ns x r t ps h in
    let apart = Climb-distinct es ns x r t ps h a in
    let most = sum_at-under (length es) (breadth_at es) ps under apart in
    let all = sum_under-breadth es in
    let low = Climb-sum es ns x r t ps h in
    let bounds = Climb-bounds es ns x r t ps s h in
    let top = s.top r a in
    omega (arith, ints, most, all, low, bounds, top)

-- the climb from z comes past the slot that the edge at q lowered
pub record Passes (es : List Edge) (ns : List Entry) (z x y n : ℕ) : Type 0 where
  pub before : List ℕ
  pub after : List ℕ
  pub first : ℤ
  pub second : ℤ
  pub there : Climb es ns z x first before
  pub on : Climb es ns x y second after
  pub few : length before ≤ n

pub Passes-more : (es : List Edge) (ns : List Entry) (w z x y p : ℕ) (c : ℤ) (n : ℕ) → cause_in ns w ≡ Some (cause p z)
    → slice_get es p ≡ Some (edge w z c) → Passes es ns z x y n → Passes es ns w x y (n + 1)
Passes-more es ns w z x y p c n a b h = record {
  before = p ∷ h.before;
  after = h.after;
  first = c +ℤ h.first;
  second = h.second;
  there = (z, c, h.first, a, b, h.there, refl);
  on = h.on;
  few = let k = h.few in omega arith;
}

pub Climb-passes : (es : List Edge) (ns : List Entry) (x v q : ℕ) (c : ℤ) → slice_get es q ≡ Some (edge x v c)
    → (z y : ℕ) (t : ℤ) (ps : List ℕ) → Climb es ns z y t ps → IsApart q ps ⊎ Passes es ns z x y (length ps)
Climb-passes es ns x v q c a z y t [] h = inl tt
Climb-passes es ns x v q c a z y t (p ∷ ps) h =
    elim (same_or_other q p) [
      | inl e ↦
          let f : slice_get es q ≡ Some (edge z h.0 h.1) = subst (λ (w : ℕ). slice_get es w ≡ Some (edge z h.0 h.1)) (sym e) h.4
          in
          let same : z ≡ x = same_to es q z x h.0 v h.1 c f a in
          inr (record {
            before = [];
            after = p ∷ ps;
            first = pos 0;
            second = t;
            there =
                (same, refl);
            on = subst (λ (w : ℕ). Climb es ns w y t (p ∷ ps)) same h;
            few = omega arith;
          })
      | inr ne ↦ elim (Climb-passes es ns x v q c a h.0 y h.2 ps h.5) [
        | inl apart ↦ inl (ne, apart)
        | inr passes ↦ inr (let r = Passes-more es ns z h.0 x y p h.1 (length ps) h.3 h.4 passes in
            subst (Passes es ns z x y) (omega arith) r)
      ]
    ]

-- the next slot of a loop is on it as well
pub Loops-next : (es : List Edge) (ns : List Entry) (x z p n : ℕ) (qs : List ℕ) (u : ℤ) → cause_in ns x ≡ Some (cause p z)
    → Climb es ns x x u qs → 0 < length qs → length qs ≤ n → Loops es ns z n
Loops-next es ns x z p n [] u a k some few = absurd (omega arith)
Loops-next es ns x z p n (q ∷ qs) u a k some few =
    let same : k.0 ≡ z = same_from ns x q p k.0 z k.3 a in
    let rest : Climb es ns z x k.2 qs = subst (λ (w : ℕ). Climb es ns w x k.2 qs) same k.5 in
    let last : slice_get es q ≡ Some (edge x z k.1) = subst (λ (w : ℕ). slice_get es q ≡ Some (edge x w k.1)) same k.4 in
    let here : cause_in ns x ≡ Some (cause q z) = subst (λ (w : ℕ). cause_in ns x ≡ Some (cause q w)) same k.3 in
    record {
      places = qs ++ q ∷ [];
      sum = k.2 +ℤ k.1;
      climb = Climb-more es ns z x z q k.2 k.1 qs rest here last;
      some =
          omega (arith, length-append qs (q ∷ []));
      few = omega (arith, length-append qs (q ∷ []));
    }

-- what a loop's slot leads to is on a loop as well
pub Loops-along : (es : List Edge) (ns : List Entry) (x y n : ℕ) (t : ℤ) (ps : List ℕ) → Loops es ns x n → Climb es ns x y t ps
    → Loops es ns y n
Loops-along es ns x y n t [] l h = subst (λ (w : ℕ). Loops es ns w n) h.0 l
Loops-along es ns x y n t (p ∷ ps) l h = Loops-along es ns h.0 y n h.2 ps
    (Loops-next es ns x h.0 p n l.places l.sum h.3 l.climb l.some l.few) h.5

-- a climb takes no edge twice, or it leads onto a loop
pub Climb-loops : (es : List Edge) (ns : List Entry) (x y : ℕ) (t : ℤ) (ps : List ℕ) (n : ℕ) → length ps ≤ n
    → Climb es ns x y t ps → AreApart ps ⊎ Loops es ns y n
Climb-loops es ns x y t [] n le h = inl tt
Climb-loops es ns x y t (p ∷ ps) n le h =
    elim (Climb-loops es ns h.0 y h.2 ps n (omega arith) h.5) [
      | inr l ↦ inr l
      | inl apart ↦ elim (Climb-passes es ns x h.0 p h.1 h.4 h.0 y h.2 ps h.5) [
        | inl a ↦ inl (a, apart)
        | inr s ↦ inr (Loops-along es ns x y n s.second s.after
            (record {
              places = p ∷ s.before;
              sum = h.1 +ℤ s.first;
              climb = (h.0, h.1, s.first, h.3, h.4, s.there, refl);
              some =
                  omega arith;
              few = let k = s.few in omega arith;
            }) s.on)
      ]
    ]

-- a climb of more steps than there are edges leads onto a loop
pub Climb-long : (es : List Edge) (ns : List Entry) (x y : ℕ) (t : ℤ) (ps : List ℕ) → Climb es ns x y t ps → length ps
    ≡ length es + 1 → Loops es ns y (length es + 1)
Climb-long es ns x y t ps h e =
    elim (Climb-loops es ns x y t ps (length es + 1) (omega arith) h) [
      | inl apart ↦ absurd (let k = length-under (length es) ps (Climb-under es ns x y t ps h) apart in omega arith)
      | inr l ↦ l
    ]
