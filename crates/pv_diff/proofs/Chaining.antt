-- Chains of ends, and what one more end changes.
use Rattle.std.proofs.Common.{◌≡◌, ◌≢◌, ℕ, suc, ◌+◌, ◌-◌, ◌<◌, List, [], ◌∷◌, ◌++◌, length, set, Option, Some, None, refl, ap, sym, subst, arith, ◌∙◌, ◌⊎◌, inl, inr, get_or-set_same, get_or-set_other, length-append}
use Rattle.std.specs.Prelude.{slice_get}
use Rattle.std.proofs.lemmas.List.{get_or_append_left, get_or_push, get_or_past}
use Rattle.std.specs.List.Sorted.{IsStrictlyIncreasing}
use Rattle.pv_linear.specs.declared.Literal.{Literal}
use Rattle.pv_linear.specs.declared.Literal.TheVariants.{Same}
use Rattle.pv_linear.specs.declared.Symbol.{Symbol}
use Rattle.pv_diff.specs.declared.chains.End.{End}
use Rattle.pv_diff.specs.Chains.{no_end, end_at, first_at, OnChain, here, later, HasEnd, AreChains, IsTie, AreTied}
use Rattle.pv_diff.proofs.Loops.{same_or_other}
use Rattle.pv_diff.proofs.Written.{same_slot}

abbrev pub end_of : ℕ → ℕ → Option ℕ → End
end_of z p o = record { to = z; place = p; next = o }

end_at-old : (ends : List End) (n : End) (e : ℕ) → e < length ends → end_at (ends ++ n ∷ []) e ≡ end_at ends e
end_at-old ends n e lt = get_or_append_left ends (n ∷ []) no_end e lt

end_at-new : (ends : List End) (n : End) → end_at (ends ++ n ∷ []) (length ends) ≡ n
end_at-new ends n = get_or_push ends n no_end (length ends) refl

next-old : (ends : List End) (n : End) (e : ℕ) → e < length ends → (end_at (ends ++ n ∷ []) e).next ≡ (end_at ends e).next
next-old ends n e lt = ap (λ (x : End). x.next) (end_at-old ends n e lt)

next-new : (ends : List End) (n : End) → (end_at (ends ++ n ∷ []) (length ends)).next ≡ n.next
next-new ends n = ap (λ (x : End). x.next) (end_at-new ends n)

grown : (ends : List End) (n : End) → length (ends ++ n ∷ []) ≡ suc (length ends)
grown ends n = omega (arith, length-append ends (n ∷ []))

-- a chain of the old ends is one of the new
OnChain-grown : (ends : List End) (n : End) {o : Option ℕ} {e : ℕ} → OnChain ends o e → OnChain (ends ++ n ∷ []) o e
OnChain-grown ends n (here e lt) = here e (omega (arith, grown ends n))
OnChain-grown ends n (later d e lt c) = later d e (omega (arith, grown ends n))
    (subst (λ (o : Option ℕ). OnChain (ends ++ n ∷ []) o e) (sym (next-old ends n d lt)) (OnChain-grown ends n c))

-- a chain of the new ends that starts in the old ones is one of these
OnChain-shrunk : (ends : List End) (n : End) → ((d e : ℕ) → (end_at ends d).next ≡ Some e → e < d) → {o : Option ℕ} {e : ℕ}
    → OnChain (ends ++ n ∷ []) o e → ((d : ℕ) → o ≡ Some d → d < length ends) → OnChain ends o e
OnChain-shrunk ends n falls (here e lt) b = here e (b e refl)
OnChain-shrunk ends n falls (later d e lt c) b =
    let l : d < length ends = b d refl in
    let same = next-old ends n d l in
    later d e l (subst (λ (o : Option ℕ). OnChain ends o e) same
    (OnChain-shrunk ends n falls c (λ f q. let r = falls d f (sym same ∙ q) in omega arith)))

-- the end at the start, or one behind it
pub OnChain-first : (ends : List End) (d : ℕ) {e : ℕ} → OnChain ends (Some d) e → (d ≡ e) ⊎ OnChain ends (end_at ends d).next e
OnChain-first ends d (here e lt) = inl refl
OnChain-first ends d (later f e lt c) = inr c

OnChain-within : (ends : List End) {o : Option ℕ} {e : ℕ} → OnChain ends o e → e < length ends
OnChain-within ends (here e lt) = lt
OnChain-within ends (later d e lt c) = OnChain-within ends c

no_chain : (ends : List End) {o : Option ℕ} {e : ℕ} → OnChain ends o e → o ≡ None → ⊥
no_chain ends (here e lt) q = cc
no_chain ends (later d e lt c) q = cc

pub OnChain-none : (ends : List End) (e : ℕ) → OnChain ends None e → ⊥
OnChain-none ends e c = no_chain ends c refl

-- one more end, at the start of the chain of slot k
module _ (ends : List End) (first : List (Option ℕ)) (k z p : ℕ) (fits : k < length first) (chains : AreChains ends first) where
  abbrev more : List End
  more = ends ++ end_of z p (first_at first k) ∷ []

  abbrev starts : List (Option ℕ)
  starts = set first k (Some (length ends))

  start_here : first_at starts k ≡ Some (length ends)
  start_here = get_or-set_same first k (Some (length ends)) None fits

  start_other : (j : ℕ) → j ≢ k → first_at starts j ≡ first_at first j
  start_other j ne = get_or-set_other first k j (Some (length ends)) None ne

  pub AreChains-added : AreChains more starts
  AreChains-added = record {
    inside = λ j e h. elim (same_or_other j k) [
      | inl same ↦ let a : first_at starts j ≡ Some (length ends) = ap (first_at starts) same ∙ start_here in
          let b : length ends ≡ e = (let q : Some (length ends) ≡ Some e = sym a ∙ h in cc) in
          omega (arith, grown ends (end_of z p (first_at first k)))
      | inr ne ↦ let a = chains.inside j e (sym (start_other j ne) ∙ h) in
          omega (arith, grown ends (end_of z p (first_at first k)))
    ];
    falls = λ d e h. elim (same_or_other d (length ends)) [
      | inl same ↦ let a : (end_at more d).next ≡ first_at first k = ap (λ (q : ℕ). (end_at more q).next) same
          ∙ next-new ends (end_of z p (first_at first k)) in let b = chains.inside k e (sym a ∙ h) in omega arith
      | inr ne ↦ elim (same_or_other d (length ends + (d - length ends))) [
        | inl past ↦ let l = grown ends (end_of z p (first_at first k)) in let a : (end_at more d).next ≡ None =
            ap (λ (x : End). x.next) (get_or_past more d no_end (omega (arith, l))) in
            absurd (let q : None ≡ Some e = sym a ∙ h in cc)
        | inr under ↦ let lt : d < length ends = omega arith in
            chains.falls d e (sym (next-old ends (end_of z p (first_at first k)) d lt) ∙ h)
      ]
    ];
  }

  HasEnd-kept : (j w q : ℕ) → HasEnd ends first j w q → HasEnd more starts j w q
  HasEnd-kept j w q h =
      let n : End = end_of z p (first_at first k) in
      let lt = OnChain-within ends h.on in
      let same = end_at-old ends n h.index lt in
      let to = ap (λ (x : End). x.to) same ∙ h.to in
      let place = ap (λ (x : End). x.place) same ∙ h.place in
      let on = OnChain-grown ends n h.on in
      elim (same_or_other j k) [
        | inl e ↦
            let behind : OnChain more (first_at first k) h.index = subst (λ (i : ℕ). OnChain more (first_at first i) h.index) e on
            in
            let whole : OnChain more (Some (length ends)) h.index =
            later (length ends) h.index (omega (arith, grown ends n))
            (subst (λ (o : Option ℕ). OnChain more o h.index) (sym (next-new ends n)) behind) in
            record {
              index = h.index;
              on = subst (λ (o : Option ℕ). OnChain more o h.index)
                  (sym (ap (first_at starts) e ∙ start_here)) whole;
              to = to;
              place = place;
            }
        | inr ne ↦ record {
          index = h.index;
          on = subst (λ (o : Option ℕ). OnChain more o h.index) (sym (start_other j ne)) on;
          to = to;
          place = place;
        }
      ]

  HasEnd-new : HasEnd more starts k z p
  HasEnd-new =
      let n : End = end_of z p (first_at first k) in
      let same = end_at-new ends n in
      record {
        index = length ends;
        on = subst (λ (o : Option ℕ). OnChain more o (length ends)) (sym start_here)
            (here (length ends) (omega (arith, grown ends n)));
        to = ap (λ (x : End). x.to) same;
        place = ap (λ (x : End). x.place) same;
      }

  old_end : (j w q i : ℕ) → OnChain ends (first_at first j) i → (end_at more i).to ≡ w → (end_at more i).place ≡ q
      → HasEnd ends first j w q
  old_end j w q i on to place =
      let same = end_at-old ends (end_of z p (first_at first k)) i (OnChain-within ends on) in
      record {
        index = i;
        on = on;
        to = sym (ap (λ (x : End). x.to) same) ∙ to;
        place = sym (ap (λ (x : End). x.place) same)
            ∙ place;
      }

  pub HasEnd-only : (j w q : ℕ) → HasEnd more starts j w q → ((j ≡ k) × (w ≡ z) × (q ≡ p)) ⊎ HasEnd ends first j w q
  HasEnd-only j w q h =
      let n : End = end_of z p (first_at first k) in
      elim (same_or_other j k) [
        | inl e ↦
            let whole : OnChain more (Some (length ends)) h.index =
            subst (λ (o : Option ℕ). OnChain more o h.index) (ap (first_at starts) e ∙ start_here) h.on in
            elim (OnChain-first more (length ends) whole) [
              | inl i ↦
                  let same : end_at more h.index ≡ n = sym (ap (end_at more) i) ∙ end_at-new ends n in
                  inl (e, sym h.to ∙ ap (λ (x : End). x.to) same, sym h.place ∙ ap (λ (x : End). x.place) same)
              | inr c ↦
                  let behind : OnChain more (first_at first k) h.index =
                  subst (λ (o : Option ℕ). OnChain more o h.index) (next-new ends n) c in
                  let on = OnChain-shrunk ends n chains.falls behind (λ d x. chains.inside k d x) in
                  inr (old_end j w q h.index (subst (λ (i : ℕ). OnChain ends (first_at first i) h.index) (sym e) on) h.to h.place)
            ]
        | inr ne ↦
            let on = OnChain-shrunk ends n chains.falls (subst (λ (o : Option ℕ). OnChain more o h.index) (start_other j ne) h.on)
            (λ d x. chains.inside j d x) in
            inr (old_end j w q h.index on h.to h.place)
      ]

  pub HasEnd-added : (j w q : ℕ) → ((j ≡ k) × (w ≡ z) × (q ≡ p)) ⊎ HasEnd ends first j w q → HasEnd more starts j w q
  HasEnd-added j w q (inl h) = subst (λ (i : ℕ). HasEnd more starts i w q) (sym h.0)
      (subst (λ (i : ℕ). HasEnd more starts k i q) (sym h.1) (subst (λ (i : ℕ). HasEnd more starts k z i) (sym h.2) HasEnd-new))
  HasEnd-added j w q (inr h) = HasEnd-kept j w q h

-- a tie read the other way
pub IsTie-back : (s : List ℕ) (ls : List Literal) (p k z : ℕ) → IsTie s ls p k z → IsTie s ls p z k
IsTie-back s ls p k z t = record {
  left = t.right;
  right = t.left;
  first = t.second;
  second = t.first;
  found =
      elim t.found [ inl a ↦ inr a | inr a ↦ inl a ];
}

pub same_first : (a b x y : Symbol) → Some (Same a b) ≡ Some (Same x y) → a ≡ x
same_first a b x y h = cc

pub same_second : (a b x y : Symbol) → Some (Same a b) ≡ Some (Same x y) → b ≡ y
same_second a b x y h = cc

-- the ends of an equation come to the chains, first the one and then the other
pub AreTied-more : (s : List ℕ) (ls : List Literal) (i left right : ℕ) (x y : Symbol) (old_ends mid_ends new_ends : List End)
    (old_first mid_first new_first : List (Option ℕ))
    → IsStrictlyIncreasing s → slice_get ls i ≡ Some (Same x y) → slice_get s left ≡ Some x.0 → slice_get s right ≡ Some y.0
    → AreTied s ls i old_ends old_first → length new_first ≡ length old_first → AreChains new_ends new_first
    → ((k z p : ℕ) → HasEnd mid_ends mid_first k z p → ((k ≡ left) × (z ≡ right) × (p ≡ i)) ⊎ HasEnd old_ends old_first k z p)
    → ((k z p : ℕ) → ((k ≡ left) × (z ≡ right) × (p ≡ i)) ⊎ HasEnd old_ends old_first k z p → HasEnd mid_ends mid_first k z p)
    → ((k z p : ℕ) → HasEnd new_ends new_first k z p → ((k ≡ right) × (z ≡ left) × (p ≡ i)) ⊎ HasEnd mid_ends mid_first k z p)
    → ((k z p : ℕ) → ((k ≡ right) × (z ≡ left) × (p ≡ i)) ⊎ HasEnd mid_ends mid_first k z p → HasEnd new_ends new_first k z p)
    → AreTied s ls (i + 1) new_ends new_first
AreTied-more s ls i left right x y es ms ns ef mf nf rises at first second t size chains from_mid to_mid from_new to_new =
    let tie : IsTie s ls i left right = record { left = x; right = y; first = first; second = second; found = inl at } in
    record {
      size = size ∙ t.size;
      chains = chains;
      sound = λ k z p h. elim (from_new k z p h) [
        | inl a ↦ subst (λ (q : ℕ). IsTie s ls p k q) (sym a.1)
            (subst (λ (q : ℕ). IsTie s ls p q left) (sym a.0)
            (subst (λ (q : ℕ). IsTie s ls q right left) (sym a.2) (IsTie-back s ls i left right tie)))
        | inr m ↦ elim (from_mid k z p m) [
          | inl a ↦ subst (λ (q : ℕ). IsTie s ls p k q) (sym a.1)
              (subst (λ (q : ℕ). IsTie s ls p q right) (sym a.0) (subst (λ (q : ℕ). IsTie s ls q left right) (sym a.2) tie))
          | inr o ↦ t.sound k z p o
        ]
      ];
      full = λ k z p lt h. elim (same_or_other p i) [
        | inl e ↦ elim h.found [
          | inl f ↦
              let q : Some (Same h.left h.right) ≡ Some (Same x y) = sym f ∙ ap (slice_get ls) e ∙ at in
              let a : k ≡ left = same_slot s k left x.0 rises
              (subst (λ (w : Symbol). slice_get s k ≡ Some w.0) (same_first h.left h.right x y q) h.first) first in
              let b : z ≡ right = same_slot s z right y.0 rises
              (subst (λ (w : Symbol). slice_get s z ≡ Some w.0) (same_second h.left h.right x y q) h.second) second in
              to_new k z p (inr (to_mid k z p (inl (a, b, e))))
          | inr f ↦
              let q : Some (Same h.right h.left) ≡ Some (Same x y) = sym f ∙ ap (slice_get ls) e ∙ at in
              let a : k ≡ right = same_slot s k right y.0 rises
              (subst (λ (w : Symbol). slice_get s k ≡ Some w.0) (same_second h.right h.left x y q) h.first) second in
              let b : z ≡ left = same_slot s z left x.0 rises
              (subst (λ (w : Symbol). slice_get s z ≡ Some w.0) (same_first h.right h.left x y q) h.second) first in
              to_new k z p (inl (a, b, e))
        ]
        | inr ne ↦ to_new k z p (inr (to_mid k z p (inr (t.full k z p (omega arith) h))))
      ];
    }

-- a literal that is no equation changes nothing
pub AreTied-other : (s : List ℕ) (ls : List Literal) (i : ℕ) (ends : List End) (first : List (Option ℕ))
    → AreTied s ls i ends first → ((x y : Symbol) → slice_get ls i ≡ Some (Same x y) → ⊥) → AreTied s ls (i + 1) ends first
AreTied-other s ls i ends first t not = record {
  size = t.size;
  chains = t.chains;
  sound = t.sound;
  full = λ k z p lt h. elim (same_or_other p i) [
    | inl e ↦ absurd (elim h.found [
      | inl f ↦ not h.left h.right (sym (ap (slice_get ls) e) ∙ f)
      | inr f ↦ not h.right h.left (sym (ap (slice_get ls) e) ∙ f)
    ])
    | inr ne ↦ t.full k z p (omega arith) h
  ];
}

pub AreTied-start : (s : List ℕ) (ls : List Literal) (ends : List End) (first : List (Option ℕ)) → length first ≡ length s
    → AreChains ends first → ((k z p : ℕ) → HasEnd ends first k z p → ⊥) → AreTied s ls 0 ends first
AreTied-start s ls ends first size chains none =
    record { size = size; chains = chains; sound = λ k z p h. absurd (none k z p h); full = λ k z p lt h. absurd (omega arith) }
