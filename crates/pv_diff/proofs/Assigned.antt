-- Numbers for all symbols, and what they meet.
use Rattle.std.proofs.Common.{◌≡◌, ◌≢◌, ℕ, zero, suc, ◌+◌, ◌<◌, ◌≤◌, ℤ, pos, ◌+ℤ◌, ◌≤ℤ◌, ◌<ℤ◌, List, [], ◌∷◌, length, get_or, set, slice_index_or, Some, refl, ap, sym, subst, arith, ◌∙◌, ◌⊎◌, inl, inr, get_or-set_same, get_or-set_other}
use Rattle.std.specs.Prelude.{slice_get, Contains, All}
use Rattle.std.specs.List.Sorted.{IsStrictlyIncreasing}
use Rattle.std.proofs.lemmas.Int.{ints}
use Rattle.std.proofs.lemmas.List.Elements.{All-from_get_or}
use Rattle.std.proofs.lemmas.List.{get_or_default}
use Rattle.std.proofs.lemmas.List.Kept.{AllPairs-from_increasing}
use Rattle.std.proofs.lemmas.Option.{slice_get_within, get_or_from_slice_get}
use Rattle.pv_linear.specs.declared.Literal.{Literal}
use Rattle.pv_linear.specs.declared.Literal.TheVariants.{AtMost, Same, Differ}
use Rattle.pv_linear.specs.declared.Symbol.{Symbol}
use Rattle.pv_linear.specs.Literal.{Holds, Meets}
use Rattle.pv_linear.specs.Sorting.{IsNumberIn, IsNumberAmong, AreSortsApart}
use Rattle.pv_linear.specs.Values.{Values, values_of, number_of, IsWithin}
use Rattle.pv_linear.proofs.Bounds.{within_more}
use Rattle.pv_linear.proofs.MeetsLemmas.{Meets-get}
use Rattle.pv_diff.specs.declared.Conflict.TheVariants.{Cycle, Clash}
use Rattle.pv_diff.specs.declared.Solved.{Solved}
use Rattle.pv_diff.specs.declared.Solved.TheVariants.{Yes, No}
use Rattle.pv_diff.specs.Answer.{IsAnswer, DeniesAll, reach}
use Rattle.pv_diff.specs.Chains.{IsTie}
use Rattle.pv_diff.specs.Classes.{class_at, IsSplit, AreClasses}
use Rattle.pv_diff.specs.Conflict.{IsJoined, IsClash}
use Rattle.pv_diff.specs.Numbering.{IsClassNumber, AreNumbered}
use Rattle.pv_diff.specs.Parts.{differences_in}
use Rattle.pv_diff.specs.Slots.{AreReferencesNamed, AreOnlyReferences}
use Rattle.pv_diff.proofs.Loops.{same_or_other}
use Rattle.pv_diff.proofs.Named.{cycle_denies}
use Rattle.pv_diff.proofs.Parts.{reach-length}
use Rattle.pv_diff.proofs.References.{first_in_pair, second_in_pair}
use Rattle.pv_diff.proofs.Written.{found_at, read_at}

-- the numbers of the classes of the slots before i are written
pub record NumberedUnder (references classes : List ℕ) (old new : List ℤ) (i : ℕ) : Type 0 where
  pub each : (x : ℕ) → (slice_index_or new x (pos 0) ≡ slice_index_or old x (pos 0)) ⊎ IsClassNumber references classes x
      (slice_index_or new x (pos 0))
  pub classed : (slot x : ℕ) → slot < i → slice_get references slot ≡ Some x → slice_index_or new x (pos 0)
      ≡ pos (class_at classes slot)

pub NumberedUnder-start : (references classes : List ℕ) (old new : List ℤ)
    → ((k : ℕ) → slice_index_or new k (pos 0) ≡ slice_index_or old k (pos 0)) → NumberedUnder references classes old new 0
NumberedUnder-start references classes old new h = record { each = λ x. inl (h x); classed = λ slot x lt g. absurd (omega arith) }

pub NumberedUnder-more : (references classes : List ℕ) (old new : List ℤ) (i : ℕ) (m : ℤ) → i < length references
    → IsStrictlyIncreasing references → get_or references i 0 < length new → m ≡ pos (class_at classes i)
    → NumberedUnder references classes old new i
    → NumberedUnder references classes old (set new (get_or references i 0) m) (i + 1)
NumberedUnder-more references classes old new i m lt rises fits is h = record {
  each = λ x. elim (same_or_other x (get_or references i 0)) [
    | inl e ↦ inr (record {
      slot = i;
      there = found_at references i x lt (sym e);
      number =
          ap (λ (q : ℕ). get_or (set new (get_or references i 0) m) q (pos 0)) e
          ∙ get_or-set_same new (get_or references i 0) m (pos 0) fits ∙ is;
    })
    | inr ne ↦ let same = get_or-set_other new (get_or references i 0) x m (pos 0) ne in elim (h.each x) [
      | inl a ↦ inl (same ∙ a)
      | inr b ↦ inr (record { slot = b.slot; there = b.there; number = same ∙ b.number })
    ]
  ];
  classed = λ slot x under g. elim (same_or_other slot i) [
    | inl e ↦
        let at : x ≡ get_or references i 0 = sym (read_at references slot x g) ∙ ap (λ (q : ℕ). get_or references q 0) e in
        ap (λ (q : ℕ). get_or (set new (get_or references i 0) m) q (pos 0)) at
        ∙ get_or-set_same new (get_or references i 0) m (pos 0) fits ∙ is ∙ ap (λ (q : ℕ). pos (class_at classes q)) (sym e)
    | inr ne ↦
        let below = AllPairs-from_increasing references rises slot i 0 (omega arith) lt in
        let at = read_at references slot x g in
        let other : x ≢ get_or references i 0 = (λ q. omega (arith, below, at, q)) in
        get_or-set_other new (get_or references i 0) x m (pos 0) other ∙ h.classed slot x (omega arith) g
  ];
}

pub AreNumbered-all : (references classes : List ℕ) (old new : List ℤ) (i : ℕ) → length references ≤ i
    → NumberedUnder references classes old new i → AreNumbered references classes old new
AreNumbered-all references classes old new i le h =
    record {
      each = h.each;
      classed = λ slot x g.
          h.classed slot x (let a = slice_get_within references slot x g in omega arith) g;
    }

-- a symbol of a difference is among the numbers
number_among : (ls : List Literal) (p k : ℕ) (x y : Symbol) (c : ℤ) → slice_get ls p ≡ Some (AtMost x y c) → (x.0 ≡ k) ⊎ (y.0 ≡ k)
    → IsNumberAmong ls k
number_among [] p k x y c g h = cc
number_among (l ∷ ls) zero k x y c g h = let e : AtMost x y c ≡ l = cc in inl (subst (λ (m : Literal). IsNumberIn m k) e h)
number_among (l ∷ ls) (suc p) k x y c g h = inr (number_among ls p k x y c g h)

-- differences met by the part of them
met_difference : (v : Values) (ls : List Literal) (p : ℕ) (x y : Symbol) (c : ℤ) → Meets v (differences_in ls) → slice_get ls p
    ≡ Some (AtMost x y c) → Holds v (AtMost x y c)
met_difference v [] p x y c m g = absurd (cc)
met_difference v (AtMost a b d ∷ ls) zero x y c m g = let e : AtMost a b d ≡ AtMost x y c = cc in subst (Holds v) e m.0
met_difference v (Same a b ∷ ls) zero x y c m g = absurd (cc)
met_difference v (Differ a b ∷ ls) zero x y c m g = absurd (cc)
met_difference v (AtMost a b d ∷ ls) (suc p) x y c m g = met_difference v ls p x y c m.1 g
met_difference v (Same a b ∷ ls) (suc p) x y c m g = met_difference v ls p x y c m g
met_difference v (Differ a b ∷ ls) (suc p) x y c m g = met_difference v ls p x y c m g

-- what holds of each literal of a list
Meets-each : (v : Values) (ls : List Literal) → ((p : ℕ) (l : Literal) → slice_get ls p ≡ Some l → Holds v l) → Meets v ls
Meets-each v [] h = tt
Meets-each v (l ∷ ls) h = (h 0 l refl, Meets-each v ls (λ p m g. h (suc p) m g))

-- slot 0 stands for symbol 0
first_slot : (s : List ℕ) (slot : ℕ) → IsStrictlyIncreasing s → Contains s 0 → slice_get s slot ≡ Some 0 → slot ≡ 0
first_slot s zero rises c g = refl
first_slot s (suc slot) rises c g =
    let lt = slice_get_within s (suc slot) 0 g in
    let at = read_at s (suc slot) 0 g in
    let below = AllPairs-from_increasing s rises 0 (suc slot) 0 (omega arith) lt in
    absurd (omega (arith, at, below))

module _ (ls : List Literal) (references classes : List ℕ) (low all : List ℤ) (rises : IsStrictlyIncreasing references)
    (zero_in : Contains references 0) (only : AreOnlyReferences references ls) (apart : AreSortsApart ls)
    (c : AreClasses references ls classes) (numbered : AreNumbered references classes low all) where
  -- a symbol of a difference keeps its number
  kept_number : (k : ℕ) → IsNumberAmong ls k → number_of (values_of all) k ≡ number_of (values_of low) k
  unfolding number_of
  kept_number zero h = refl
  kept_number (suc k) h = elim (numbered.each (suc k)) [
    | inl e ↦ e
    | inr r ↦ absurd
        (elim (only (suc k) (
          r.slot,
          slice_get_within references r.slot (suc k) r.there,
          get_or_from_slice_get references r.slot (suc k) (suc k) r.there,
        )) [
          | inl z ↦ omega arith
          | inr among ↦ apart k h among
        ])
  ]

  -- a reference has the number of its class
  class_number : (slot k : ℕ) → slice_get references slot ≡ Some k → number_of (values_of all) k ≡ pos (class_at classes slot)
  unfolding number_of
  class_number slot zero g = ap pos (sym (ap (class_at classes) (first_slot references slot rises zero_in g) ∙ c.zero))
  class_number slot (suc k) g = numbered.classed slot (suc k) g

  equal_references : (p : ℕ) (x y : Symbol) → AreReferencesNamed references ls → slice_get ls p ≡ Some (Same x y)
      → number_of (values_of all) x.0 ≡ number_of (values_of all) y.0
  equal_references p x y named g =
      let a = named p x.0 (Same x y) g (first_in_pair x.0 y.0) in
      let b = named p y.0 (Same x y) g (second_in_pair x.0 y.0) in
      let first = found_at references a.0 x.0 a.1 (get_or_default references a.0 0 x.0 a.1 ∙ a.2) in
      let second = found_at references b.0 y.0 b.1 (get_or_default references b.0 0 y.0 b.1 ∙ b.2) in
      let tie : IsTie references ls p a.0 b.0 = record { left = x; right = y; first = first; second = second; found = inl g } in
      class_number a.0 x.0 first ∙ ap pos (c.same p a.0 b.0 tie) ∙ sym (class_number b.0 y.0 second)

  apart_references : (p : ℕ) (x y : Symbol) → AreReferencesNamed references ls → slice_get ls p ≡ Some (Differ x y)
      → number_of (values_of all) x.0 ≢ number_of (values_of all) y.0
  apart_references p x y named g e =
      let a = named p x.0 (Differ x y) g (first_in_pair x.0 y.0) in
      let b = named p y.0 (Differ x y) g (second_in_pair x.0 y.0) in
      let first = found_at references a.0 x.0 a.1 (get_or_default references a.0 0 x.0 a.1 ∙ a.2) in
      let second = found_at references b.0 y.0 b.1 (get_or_default references b.0 0 y.0 b.1 ∙ b.2) in
      let split : IsSplit references ls p a.0 b.0 = record { left = x; right = y; first = first; second = second; found = g } in
      let q : pos (class_at classes a.0) ≡ pos (class_at classes b.0) = sym (class_number a.0 x.0 first) ∙ e
      ∙ class_number b.0 y.0 second in
      c.differ p a.0 b.0 split (cc)

  holds_of : (p : ℕ) (l : Literal) → AreReferencesNamed references ls → Meets (values_of low) (differences_in ls) → slice_get ls p
      ≡ Some l → Holds (values_of all) l
  holds_of p (AtMost x y d) named m g =
      let old : number_of (values_of low) x.0 ≤ℤ (number_of (values_of low) y.0 +ℤ d) =
      met_difference (values_of low) ls p x y d m g in
      let first = kept_number x.0 (number_among ls p x.0 x y d g (inl refl)) in
      let second = kept_number y.0 (number_among ls p y.0 x y d g (inr refl)) in
      omega (arith, ints, old, first, second)
  holds_of p (Same x y) named m g = equal_references p x y named g
  holds_of p (Differ x y) named m g = apart_references p x y named g

  -- all literals are met
  pub Meets-numbered : AreReferencesNamed references ls → Meets (values_of low) (differences_in ls) → Meets (values_of all) ls
  Meets-numbered named m = Meets-each (values_of all) ls (λ p l g. holds_of p l named m g)

  -- no number is far from zero
  pub near_numbered : (n : ℕ) → length references ≤ length ls + length ls + 1 → n ≤ reach ls
      → ((k : ℕ) → IsWithin n (slice_index_or low k (pos 0))) → All (IsWithin (reach ls)) all
  near_numbered n few le near = All-from_get_or (IsWithin (reach ls)) all (pos 0) (λ k lt. elim (numbered.each k) [
    | inl e ↦ subst (IsWithin (reach ls)) (sym e) (within_more n (reach ls) (slice_index_or low k (pos 0)) (near k) le)
    | inr r ↦
        let below = c.below r.slot (slice_get_within references r.slot k r.there) in
        let most = reach-length ls in
        subst (IsWithin (reach ls)) (sym r.number)
        (record { low = omega (arith, ints, below, most, few); high = omega (arith, ints, below, most, few) })
  ])

  -- only numbers of differences are below zero
  pub signed_numbered : (k : ℕ) → slice_index_or all k (pos 0) <ℤ pos 0 → slice_index_or low k (pos 0) <ℤ pos 0
  signed_numbered k below = elim (numbered.each k) [
    | inl e ↦ omega (arith, ints, e, below)
    | inr r ↦ let is = r.number in absurd (omega (arith, ints, is, below))
  ]

-- equations that join two symbols make them equal
joined_equal : (v : Values) (ls : List Literal) (x y : Symbol) (ps : List ℕ) → Meets v ls → IsJoined ls x y ps → number_of v x.0
    ≡ number_of v y.0
joined_equal v ls x y [] m h = ap (λ (s : Symbol). number_of v s.0) h
joined_equal v ls x y (p ∷ ps) m h =
    let rest = joined_equal v ls h.0 y ps m h.2 in
    elim h.1 [
      | inl a ↦ (let step : number_of v x.0 ≡ number_of v h.0.0 = Meets-get v ls p (Same x h.0) m a in step ∙ rest)
      | inr a ↦ (let step : number_of v h.0.0 ≡ number_of v x.0 = Meets-get v ls p (Same h.0 x) m a in sym step ∙ rest)
    ]

-- nothing meets literals with a clash
pub clash_denies : (v : Values) (ls : List Literal) (ps : List ℕ) → IsClash ls ps → Meets v ls → ⊥
clash_denies v ls ps c m =
    let apart : number_of v c.0.0 ≢ number_of v c.1.0 = Meets-get v ls c.3 (Differ c.0 c.1) m c.5 in
    apart (joined_equal v ls c.0 c.1 c.2 m c.6)

pub answer_denies : (ls : List Literal) (solved : Solved) → IsAnswer ls solved → DeniesAll ls solved
answer_denies ls (Yes numbers) a = tt
answer_denies ls (No (Cycle places)) a = λ v m. cycle_denies v ls places a m
answer_denies ls (No (Clash places)) a = λ v m. clash_denies v ls places a m
