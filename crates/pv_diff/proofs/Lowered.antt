-- Lowering a slot to what an edge asks.
use Rattle.std.proofs.Common.{◌≡◌, ◌≢◌, ℕ, zero, suc, ◌+◌, ◌-◌, ◌<◌, ◌≤◌, ◌^◌, ℤ, pos, negsuc, ◌+ℤ◌, ◌≤ℤ◌, ◌<ℤ◌, List, length, Some, None, refl, ap, sym, subst, arith, ◌∙◌, inl, inr, set, slice_index_or, get_or-set_same, get_or-set_other}
use Rattle.std.specs.Prelude.{slice_get, unsigned_abs}
use Rattle.std.proofs.lemmas.Int.{ints}
use Rattle.std.proofs.lemmas.Option.{slice_get-get_or}
use Rattle.std.proofs.Math.ListN.{length-set}
use Rattle.std.proofs.lemmas.List.Sums.{sum_by-set}
use Rattle.pv_linear.proofs.Bounds.{within_abs}
use Rattle.pv_diff.specs.Limits.{too_many}
use Rattle.pv_diff.specs.declared.table.Edge.{Edge}
use Rattle.pv_diff.specs.declared.table.Entry.{Entry}
use Rattle.pv_diff.specs.Edges.{edge, AllBelow, widest}
use Rattle.pv_diff.specs.Table.{unlowered, number_in, cause_in, cause, IsLoweredBy, Sound, IsSound, AreAbove, Lowers, height}
use Rattle.pv_diff.proofs.Edges.{AllBelow-to, widest-at, breadth-most}
use Rattle.pv_diff.proofs.Loops.{same_or_other, same_place, same_from}

-- the times with n at q
abbrev pub stamped : ℕ → ℕ → (ℕ → ℕ) → ℕ → ℕ
stamped zero n w zero = n
stamped zero n w (suc k) = w (suc k)
stamped (suc q) n w zero = w 0
stamped (suc q) n w (suc k) = stamped q n (λ j. w (suc j)) k

pub stamped_same : (q n : ℕ) (w : ℕ → ℕ) → stamped q n w q ≡ n
stamped_same zero n w = refl
stamped_same (suc q) n w = stamped_same q n (λ j. w (suc j))

pub stamped_other : (q n k : ℕ) (w : ℕ → ℕ) → k ≢ q → stamped q n w k ≡ w k
stamped_other zero n zero w h = absurd (h refl)
stamped_other zero n (suc k) w h = refl
stamped_other (suc q) n zero w h = refl
stamped_other (suc q) n (suc k) w h = stamped_other q n k (λ j. w (suc j)) (λ e. h (ap suc e))

-- the entry after lowering
abbrev pub entry : ℤ → ℕ → ℕ → Entry
entry m q z = record { number = m; cause = Some (cause q z) }

pub number_in-same : (ns : List Entry) (x : ℕ) (e : Entry) → x < length ns → number_in (set ns x e) x ≡ e.number
number_in-same ns x e h = ap (λ (n : Entry). n.number) (get_or-set_same ns x e unlowered h)

pub number_in-other : (ns : List Entry) (x k : ℕ) (e : Entry) → k ≢ x → number_in (set ns x e) k ≡ number_in ns k
number_in-other ns x k e h = ap (λ (n : Entry). n.number) (get_or-set_other ns x k e unlowered h)

pub cause_in-same : (ns : List Entry) (x : ℕ) (e : Entry) → x < length ns → cause_in (set ns x e) x ≡ e.cause
cause_in-same ns x e h = ap (λ (n : Entry). n.cause) (get_or-set_same ns x e unlowered h)

pub cause_in-other : (ns : List Entry) (x k : ℕ) (e : Entry) → k ≢ x → cause_in (set ns x e) k ≡ cause_in ns k
cause_in-other ns x k e h = ap (λ (n : Entry). n.cause) (get_or-set_other ns x k e unlowered h)

pub number_in-less : (ns : List Entry) (x k : ℕ) (e : Entry) → x < length ns → e.number ≤ℤ number_in ns x
    → number_in (set ns x e) k ≤ℤ number_in ns k
number_in-less ns x k e h le = elim (same_or_other k x) [
  | inl same ↦ let a = number_in-same ns x e h in
      let b : number_in (set ns x e) k ≡ number_in (set ns x e) x = ap (number_in (set ns x e)) same in
      let d : number_in ns k ≡ number_in ns x = ap (number_in ns) same in
      omega (arith, ints)
  | inr other ↦ let a = number_in-other ns x k e other in omega (arith, ints)
]

-- the lowered slot is lowered by the edge
pub lowered_here : (es : List Edge) (ns : List Entry) (s : Sound es ns) (x q z : ℕ) (c m : ℤ) → x < length ns → slice_get es q
    ≡ Some (edge x z c) → m ≡ (number_in ns z +ℤ c) → m <ℤ number_in ns x
    → IsLoweredBy es (set ns x (entry m q z)) (stamped x s.clock s.time) x q z
lowered_here es ns s x q z c m h f e lt =
    let same = number_in-same ns x (entry m q z) h in
    let less = number_in-less ns x z (entry m q z) h (omega (arith, ints)) in
    record {
      bound = c;
      found = f;
      above = omega (arith, ints, same, less);
      strict = elim (same_or_other z x) [
        | inl k ↦ let a : number_in (set ns x (entry m q z)) z ≡ number_in (set ns x (entry m q z)) x =
            ap (number_in (set ns x (entry m q z))) k in
            let b : number_in ns z ≡ number_in ns x = ap (number_in ns) k in
            inr (omega (arith, ints))
        | inr k ↦ let a = stamped_other x s.clock z s.time k in let b = stamped_same x s.clock s.time in let d = s.past z in
            inl (omega (arith, a, b, d))
      ];
    }

-- the others are lowered as they were
pub lowered_there : (es : List Edge) (ns : List Entry) (s : Sound es ns) (x : ℕ) (e : Entry) (k q z : ℕ) → x < length ns
    → e.number <ℤ number_in ns x → k ≢ x → IsLoweredBy es ns s.time k q z
    → IsLoweredBy es (set ns x e) (stamped x s.clock s.time) k q z
lowered_there es ns s x e k q z h lt ne old =
    let here = number_in-other ns x k e ne in
    let less = number_in-less ns x z e h (omega (arith, ints)) in
    let above = old.above in
    record {
      bound = old.bound;
      found = old.found;
      above = omega (arith, ints, here, less, above);
      strict = elim (same_or_other z x) [
        | inl j ↦ let a = number_in-same ns x e h in
            let b : number_in (set ns x e) z ≡ number_in (set ns x e) x = ap (number_in (set ns x e)) j in
            let d : number_in ns z ≡ number_in ns x = ap (number_in ns) j in
            inr (omega (arith, ints))
        | inr j ↦ let a = stamped_other x s.clock z s.time j in let b = stamped_other x s.clock k s.time ne in
            elim old.strict [
              | inl g ↦ inl (omega (arith, a, b, g))
              | inr g ↦ inr
                  (let d = number_in-other ns x z e j in omega (arith, ints))
            ]
      ];
    }

none_or_some : {A : Type 0} {a : A} → Some a ≡ None → ⊥
none_or_some h = cc

lowered_same : (es : List Edge) (ns : List Entry) (s : Sound es ns) (x q z : ℕ) (c m : ℤ) → x < length ns → slice_get es q
    ≡ Some (edge x z c) → m ≡ (number_in ns z +ℤ c) → m <ℤ number_in ns x → (k p y : ℕ) → k ≡ x
    → cause_in (set ns x (entry m q z)) k ≡ Some (cause p y)
    → IsLoweredBy es (set ns x (entry m q z)) (stamped x s.clock s.time) k p y
lowered_same es ns s x q z c m h f e lt k p y same g =
    let ms = set ns x (entry m q z) in
    let w = stamped x s.clock s.time in
    let a : cause_in ms k ≡ Some (cause q z) = ap (cause_in ms) same ∙ cause_in-same ns x (entry m q z) h in
    let place : q ≡ p = same_place ms k q p z y a g in
    let from : z ≡ y = same_from ms k q p z y a g in
    let here = lowered_here es ns s x q z c m h f e lt in
    subst (λ (i : ℕ). IsLoweredBy es ms w k p i) from
    (subst (λ (i : ℕ). IsLoweredBy es ms w k i z) place (subst (λ (i : ℕ). IsLoweredBy es ms w i q z) (sym same) here))

-- an edge lowers the slot that it leads to
pub Sound-lowered : (es : List Edge) (ns : List Entry) (x q z : ℕ) (c m : ℤ) → Sound es ns → x < length ns → slice_get es q
    ≡ Some (edge x z c) → m ≡ (number_in ns z +ℤ c) → m <ℤ number_in ns x → Sound es (set ns x (entry m q z))
Sound-lowered es ns x q z c m s h f e lt = record {
  time = stamped x s.clock s.time;
  clock = s.clock + 1;
  past = λ k. elim (same_or_other k x) [
    | inl same ↦ let a = stamped_same x s.clock s.time in let b : stamped x s.clock s.time k ≡ stamped x s.clock s.time x =
        ap (stamped x s.clock s.time) same in omega (arith, a, b)
    | inr other ↦ let a = stamped_other x s.clock k s.time other in let b = s.past k in omega (arith, a, b)
  ];
  fallen = λ k. let a = number_in-less ns x k (entry m q z) h (omega (arith, ints)) in let b = s.fallen k in
      omega (arith, ints, a, b);
  top = λ k g. elim (same_or_other k x) [
    | inl same ↦ let a = cause_in-same ns x (entry m q z) h in let b : cause_in (set ns x (entry m q z)) k
        ≡ cause_in (set ns x (entry m q z)) x = ap (cause_in (set ns x (entry m q z))) same in
        absurd (none_or_some (sym (b ∙ a) ∙ g))
    | inr other ↦ number_in-other ns x k (entry m q z) other ∙ s.top k (sym (cause_in-other ns x k (entry m q z) other) ∙ g)
  ];
  lowered = λ k p y g. elim (same_or_other k x) [
    | inl same ↦ lowered_same es ns s x q z c m h f e lt k p y same g
    | inr other ↦ lowered_there es ns s x (entry m q z) k p y h lt other
        (s.lowered k p y (sym (cause_in-other ns x k (entry m q z) other) ∙ g))
  ];
}

pub deeper : (m n : ℤ) → m <ℤ n → n ≤ℤ pos 0 → pos 0 ≤ℤ (m +ℤ pos (2 ^ 121)) → 2 ^ 122 - unsigned_abs m < 2 ^ 122 - unsigned_abs n
deeper (pos a) (pos b) h k l = absurd (omega (arith, ints))
deeper (pos a) (negsuc b) h k l = absurd (omega (arith, ints))
deeper (negsuc a) (pos b) h k l = omega (arith, ints)
deeper (negsuc a) (negsuc b) h k l = omega (arith, ints)

pub height-lowered : (ns : List Entry) (x : ℕ) (e : Entry) → x < length ns → e.number <ℤ number_in ns x → number_in ns x ≤ℤ pos 0
    → pos 0 ≤ℤ (e.number +ℤ pos (2 ^ 121)) → height (set ns x e) < height ns
height-lowered ns x e h lt up low =
    let a = sum_by-set (λ (n : Entry). 2 ^ 122 - unsigned_abs n.number) ns x e unlowered h in
    let b = deeper e.number (number_in ns x) lt up low in
    omega (arith, a, b)

-- a number that is not far below zero
pub number_in-near : (es : List Edge) (ns : List Entry) (k : ℕ) → AreAbove es ns → length es < too_many → widest es ≤ 2 ^ 100
    → pos 0 ≤ℤ (number_in ns k +ℤ pos (2 ^ 120))
unfolding AreAbove
number_in-near es ns k h few wide = let a = h k in let b = breadth-most es wide in omega (arith, ints, a, b)

pub number_in-down : (es : List Edge) (ns : List Entry) (k : ℕ) → IsSound es ns → number_in ns k ≤ℤ pos 0
unfolding IsSound
number_in-down es ns k h = h.fallen k

-- the slot of an edge that is not met is lowered to what the edge asks
pub Lowers-made : (es : List Edge) (ns : List Entry) (q : ℕ) (d : Edge) (m : ℤ) → IsSound es ns → AreAbove es ns
    → AllBelow (length ns) es → length es < too_many → widest es ≤ 2 ^ 100 → q < length es → m
    ≡ (number_in ns (slice_index_or es q d).from +ℤ (slice_index_or es q d).bound)
    → m <ℤ number_in ns (slice_index_or es q d).to
    → Lowers es ns (set ns (slice_index_or es q d).to (entry m q (slice_index_or es q d).from)) (slice_index_or es q d).to
unfolding IsSound AreAbove
Lowers-made es ns q d m s above below few wide lt e falls =
    let x = (slice_index_or es q d).to in
    let z = (slice_index_or es q d).from in
    let c = (slice_index_or es q d).bound in
    let h : x < length ns = AllBelow-to (length ns) es q d below lt in
    let w : unsigned_abs c ≤ 2 ^ 100 = widest-at (2 ^ 100) es q d wide lt in
    let near = number_in-near es ns z above few wide in
    let size = within_abs c in
    let down : number_in ns x ≤ℤ pos 0 = s.fallen x in
    record {
      slot = omega (arith, length-set {A = Entry} ns x (entry m q z), h);
      sound = Sound-lowered es ns x q z c m s h (slice_get-get_or es q d lt) e falls;
      above = λ k other. let a = number_in-other ns x k (entry m q z) other in let b = above k in omega (arith, ints, a, b);
      near = let a = number_in-same ns x (entry m q z) h in let f = size.low in omega (arith, ints, a, w, near, f, e);
      lower = height-lowered ns x (entry m q z) h falls down (let f = size.low in omega (arith, ints, w, near, f, e));
    }
