-- Going over all edges once.
use Rattle.std.proofs.Common.{◌≡◌, ℕ, zero, suc, ◌+◌, ◌-◌, ◌<◌, ◌≤◌, ◌^◌, pos, Bool, true, false, List, length, drop, take, replicate, ◌++◌, Option, Some, None, refl, sym, subst, arith, ◌∙◌, inl, inr, slice_index_or}
use Rattle.std.specs.Prelude.{cond, IfSome, IsSome}
use Rattle.std.proofs.lemmas.Int.{ints}
use Rattle.std.proofs.Math.Seq.{take-append_seam}
use Rattle.pv_diff.specs.Limits.{too_many}
use Rattle.pv_diff.specs.declared.table.Edge.{Edge}
use Rattle.pv_diff.specs.declared.table.Entry.{Entry}
use Rattle.pv_diff.specs.Edges.{edge, widest}
use Rattle.pv_diff.specs.Table.{IsSound, IsAbove, AreAbove, IsMet, AreMet, Lowers, height, number_in, cause_in, unlowered}
use Rattle.pv_diff.proofs.Edges.{AreMet-each}
use Rattle.pv_diff.proofs.Lowered.{number_in-near}
use Rattle.pv_diff.proofs.Loops.{same_or_other}

-- the place that a sweep over n edges, backward or not, comes to at step j
abbrev pub place_at : Bool → ℕ → ℕ → ℕ
place_at back n j = cond back (n - 1 - j) j

-- it comes to place k at the step that is the place to which it comes at step k
pub place_at-place_at : (back : Bool) (n k : ℕ) → k < n → place_at back n (place_at back n k) ≡ k
place_at-place_at false n k lt = refl
place_at-place_at true n k lt = omega arith

pub place_at-fits : (back : Bool) (n k : ℕ) → k < n → place_at back n k < n
place_at-fits false n k lt = lt
place_at-fits true n k lt = omega arith

-- i edges have been gone over, and this slot was lowered last
pub record Gone (back : Bool) (es : List Edge) (old new : List Entry) (last : Option ℕ) (i : ℕ) : Type 0 where
  pub sound : IsSound es new
  pub above : AreAbove es new
  pub kept : last ≡ None → new ≡ old
  pub met : last ≡ None → (j : ℕ) → j < i → IsMet old (slice_index_or es (place_at back (length es) j) (edge 0 0 (pos 0)))
  pub slot : IfSome last (λ x. x < length new)
  pub level : height new ≤ height old
  pub lower : IsSome last → height new < height old

no_some : IsSome {T = ℕ} None → ⊥
no_some h = cc

pub Gone-start : (back : Bool) (es : List Edge) (ns : List Entry) → IsSound es ns → AreAbove es ns → Gone back es ns ns None 0
Gone-start back es ns s a = record {
  sound = s;
  above = a;
  kept = λ _. refl;
  met = λ _ j lt. absurd (omega arith);
  slot = tt;
  level = omega arith;
  lower = λ h. absurd (no_some h);
}

pub Gone-kept : (back : Bool) (es : List Edge) (old ns ms : List Entry) (last : Option ℕ) (i : ℕ) → Gone back es old ns last i
    → ms ≡ ns → IsMet ns (slice_index_or es (place_at back (length es) i) (edge 0 0 (pos 0))) → Gone back es old ms last (i + 1)
Gone-kept back es old ns ms last i g e m = record {
  sound = subst (IsSound es) (sym e) g.sound;
  above = subst (AreAbove es) (sym e) g.above;
  kept = λ h. e ∙ g.kept h;
  met = λ h j lt. elim (same_or_other j i) [
    | inl same ↦ subst (λ (k : ℕ). IsMet old (slice_index_or es (place_at back (length es) k) (edge 0 0 (pos 0)))) (sym same)
        (subst (λ (n : List Entry). IsMet n (slice_index_or es (place_at back (length es) i) (edge 0 0 (pos 0)))) (g.kept h) m)
    | inr other ↦ g.met h j (omega (arith, other))
  ];
  slot = subst (λ (n : List Entry). IfSome last (λ x. x < length n)) (sym e) g.slot;
  level = subst (λ (n : List Entry). height n ≤ height old) (sym e) g.level;
  lower = λ h. subst (λ (n : List Entry). height n < height old) (sym e) (g.lower h);
}

some_or_none : {A : Type 0} {a : A} → Some a ≡ None → ⊥
some_or_none h = cc

pub Gone-lowered : (back : Bool) (es : List Edge) (old ns ms : List Entry) (last : Option ℕ) (i x : ℕ)
    → Gone back es old ns last i → Lowers es ns ms x → IsAbove es ms x → Gone back es old ms (Some x) (i + 1)
unfolding AreAbove
Gone-lowered back es old ns ms last i x g l a = record {
  sound = l.sound;
  above = λ k. elim (same_or_other k x) [ inl e ↦ subst (IsAbove es ms) (sym e) a | inr ne ↦ l.above k ne ];
  kept = λ h. absurd (some_or_none h);
  met = λ h. absurd (some_or_none h);
  slot = l.slot;
  level = let a = g.level in let b = l.lower in omega arith;
  lower = λ _. let a = g.level in let b = l.lower in omega arith;
}

pub Gone-ended : (back : Bool) (es : List Edge) (old ns ms : List Entry) (last : Option ℕ) (i x : ℕ) → Gone back es old ns last i
    → Lowers es ns ms x → Lowers es old ms x
Gone-ended back es old ns ms last i x g l = record {
  slot = l.slot;
  sound = l.sound;
  above = l.above;
  near = l.near;
  lower =
      let a = g.level in let b = l.lower in omega arith;
}

pub Gone-met : (back : Bool) (es : List Edge) (old ns : List Entry) (last : Option ℕ) (i : ℕ) → Gone back es old ns last i
    → length es ≤ i → last ≡ None → AreMet old es
Gone-met back es old ns last i g le h = AreMet-each old es (edge 0 0 (pos 0)) (λ k lt.
    subst (λ (j : ℕ). IsMet old (slice_index_or es j (edge 0 0 (pos 0)))) (place_at-place_at back (length es) k lt)
    (let fits = place_at-fits back (length es) k lt in g.met h (place_at back (length es) k) (omega (arith, fits))))

pub Gone-last : (back : Bool) (es : List Edge) (old ns : List Entry) (last : Option ℕ) (i : ℕ) → length es < too_many
    → widest es ≤ 2 ^ 100 → Gone back es old ns last i → IfSome last (λ x. Lowers es old ns x)
unfolding AreAbove
Gone-last back es old ns None i few wide g = tt
Gone-last back es old ns (Some x) i few wide g =
    record {
      slot = g.slot;
      sound = g.sound;
      above = λ k _. g.above k;
      near =
          (let a = number_in-near es ns x g.above few wide in omega (arith, ints, a));
      lower = g.lower refl;
    }

-- a slice of all of a list, written back
pub written_back : (new old : List Entry) (n : ℕ) → length new ≡ length old → n ≡ length old
    → take n (new ++ drop (length new) old) ≡ new
written_back new old n e f = let k : n ≡ length new = omega arith in rw k (take-append_seam new (drop (length new) old))

-- entries that nothing has lowered
pub number_in-start : (n k : ℕ) → number_in (replicate n unlowered) k ≡ pos 0
number_in-start zero k = refl
number_in-start (suc n) zero = refl
number_in-start (suc n) (suc k) = number_in-start n k

pub cause_in-start : (n k : ℕ) → cause_in (replicate n unlowered) k ≡ None
cause_in-start zero k = refl
cause_in-start (suc n) zero = refl
cause_in-start (suc n) (suc k) = cause_in-start n k

pub IsSound-start : (es : List Edge) (n : ℕ) → IsSound es (replicate n unlowered)
unfolding IsSound
IsSound-start es n = record {
  time = λ _. 0;
  clock = 1;
  past = λ k. omega arith;
  fallen = λ k. let a = number_in-start n k in omega (arith, ints, a);
  top = λ k _. number_in-start n k;
  lowered = λ k q z h. absurd (some_or_none (sym h ∙ cause_in-start n k));
}

pub AreAbove-start : (es : List Edge) (n : ℕ) → AreAbove es (replicate n unlowered)
unfolding AreAbove
AreAbove-start es n = λ k. let a = number_in-start n k in omega (arith, ints, a)

pub AreAbove-each : (es : List Edge) (ns : List Entry) (k : ℕ) → AreAbove es ns → IsAbove es ns k
unfolding AreAbove
AreAbove-each es ns k h = h k

-- where the causes end at the slot that was lowered last, no slot is too far below zero
pub Lowers-above : (es : List Edge) (old new : List Entry) (x : ℕ) → Lowers es old new x → IsAbove es new x → AreAbove es new
unfolding AreAbove
Lowers-above es old new x l a = λ k. elim (same_or_other k x) [ inl e ↦ subst (IsAbove es new) (sym e) a | inr ne ↦ l.above k ne ]
