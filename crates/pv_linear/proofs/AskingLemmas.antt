-- What an answer leaves.
use Rattle.std.proofs.Common.{◌≡◌, ℕ, ◌+◌, ℤ, pos, ◌≤ℤ◌, ◌↔◌, ◌<◌, List, [], ◌∷◌, ◌++◌, Bool, true, false, Result, Ok, Err, IfOk, length, subst, sym, ◌∙◌, ◌⊎◌, inl, inr, arith, length-append, get_or}
use Rattle.std.proofs.Math.Seq.{get_or-append_seam}
use Rattle.std.proofs.lemmas.List.{get_or_append_left}
use Rattle.std.proofs.lemmas.Int.{ints}
use Rattle.std.proofs.Math.Logic.{∥∥₁_map}
use Rattle.std.specs.Prelude.{◌-ℤ◌}
use Rattle.pv_linear.specs.declared.Symbol.{Symbol}
use Rattle.pv_linear.specs.declared.Sort.{Sort}
use Rattle.pv_linear.specs.declared.Literal.{Literal}
use Rattle.pv_linear.specs.declared.Literal.TheVariants.{AtMost}
use Rattle.pv_linear.specs.declared.asker.AskFault.{AskFault}
use Rattle.pv_linear.specs.declared.asker.AskFault.TheVariants.{Full, NoMemory}
use Rattle.pv_linear.proofs.Pairs.{nat_same}
use Rattle.pv_linear.specs.Evidence.{Evidence, Follows, answered, IsLong, HasAllSymbols, MayBeFull, OnFull, CanBeMet, MayAsk}
use Rattle.pv_linear.specs.Values.{Values, number_of}
use Rattle.pv_linear.specs.Literal.{Holds, opposite}
use Rattle.pv_linear.specs.Sorting.{IsNumberIn, IsNumberAmong, IsReferenceAmong, AreSortsApart}
use Rattle.pv_linear.specs.Sorts.{truth_test}
use Rattle.pv_linear.proofs.MeetsLemmas.{Meets-left}
use Rattle.pv_linear.proofs.SortingLemmas.{number_either, number_left, number_right, reference_either, reference_left, reference_right, apart_within}

-- what follows from two things that are so of an answer is so of it
pub both_ok : {A E : Type 0} (r : Result A E) (P Q R : A → Type 0) → IfOk r P → IfOk r Q → ((a : A) → P a → Q a → R a) → IfOk r R
both_ok (Ok a) P Q R p q f = f a p q
both_ok (Err e) P Q R p q f = tt

-- who may be full before a refusal may be full after it
pub on_long : (fault : AskFault) (old new : List Literal) (sorts : List Sort) → new ≡ old → OnFull fault (IsLong old)
    → OnFull fault (MayBeFull new sorts)
unfolding MayBeFull
on_long Full old new sorts e h = inl (subst IsLong (sym e) h)
on_long NoMemory old new sorts e h = tt

pub on_symbols : (fault : AskFault) (old new : List Literal) (before after : List Sort) → new ≡ old → after ≡ before
    → OnFull fault (HasAllSymbols old before) → OnFull fault (MayBeFull new after)
unfolding MayBeFull
on_symbols Full old new before after e d h = inr
    (subst (λ (ls : List Literal). HasAllSymbols ls after) (sym e) (subst (HasAllSymbols old) (sym d) h))
on_symbols NoMemory old new before after e d h = tt

-- one more turn narrows the evidence to that turn
pub Follows-turn-front : (e : Evidence) (ls : List Literal) (ts : List ℕ) (n : ℕ) → Follows ls (ts ++ n ∷ []) e → Follows ls ts e
unfolding Follows
Follows-turn-front e ls ts n h = (
  h.0,
  λ k lt. let i = get_or_append_left ts (n ∷ []) 0 k lt in
      sym i ∙ h.1 k (omega (arith, length-append ts (n ∷ []))),
)

pub Follows-turn-says : (e : Evidence) (ls : List Literal) (ts : List ℕ) (n : ℕ) → Follows ls (ts ++ n ∷ []) e → n
    ≡ e.turns (length ts)
unfolding Follows
Follows-turn-says e ls ts n h = sym (get_or-append_seam ts n [] 0) ∙ h.1 (length ts) (omega (arith, length-append ts (n ∷ [])))

pub Follows-turn-more : (e : Evidence) (ls : List Literal) (ts : List ℕ) (n : ℕ) → Follows ls ts e → e.turns (length ts) ≡ n
    → Follows ls (ts ++ n ∷ []) e
unfolding Follows
Follows-turn-more e ls ts n h t = (h.0, λ k lt. at k (nat_same k (length ts)) (omega (arith, length-append ts (n ∷ []), lt)))
  where
    at : (k : ℕ) → (k ≡ length ts) ⊎ (k ≡ length ts → ⊥) → k < length ts + 1 → get_or (ts ++ n ∷ []) k 0 ≡ e.turns k
    at k (inl q) lt = rw q (get_or-append_seam ts n [] 0 ∙ sym t)
    at k (inr q) lt = let m : k < length ts = grind (arith, q, lt) in get_or_append_left ts (n ∷ []) 0 k m ∙ h.1 k m

-- a truth value is true from 1 on
pub truth_holds : (v : Values) (t : Symbol) → Holds v (truth_test t) ↔ (pos 1 ≤ℤ number_of v t.0)
unfolding number_of
truth_holds v t = (λ h. omega (arith, ints), λ h. omega (arith, ints))

pub truth_zero : (v : Values) (t : Symbol) → t.0 ≡ 0 → pos 1 ≤ℤ number_of v t.0 → ⊥
unfolding number_of
truth_zero v t e h = none (subst (λ (k : ℕ). pos 1 ≤ℤ number_of v k) e h)
  where
    none : pos 1 ≤ℤ number_of v 0 → ⊥
    none h = omega (arith, ints)

-- a difference may be asked the other way round, before it was answered and then
back_number : (x y : Symbol) (c d : ℤ) (k : ℕ) → IsNumberIn (AtMost y x d) k → IsNumberIn (AtMost x y c) k
back_number x y c d k (inl n) = inr n
back_number x y c d k (inr n) = inl n

apart_back : (ls : List Literal) (x y : Symbol) (c d : ℤ) → AreSortsApart (ls ++ AtMost x y c ∷ [])
    → AreSortsApart (ls ++ AtMost y x d ∷ [])
apart_back ls x y c d h = apart_within (ls ++ AtMost y x d ∷ []) (ls ++ AtMost x y c ∷ []) h
    (λ k n. elim (number_either k ls (AtMost y x d ∷ []) n) [
      | inl a ↦ number_left k ls (AtMost x y c ∷ []) a
      | inr (inl a) ↦ number_right k ls (AtMost x y c ∷ []) (inl (back_number x y c d k a))
      | inr (inr a) ↦ absurd a
    ])
    (λ k n. elim (reference_either k ls (AtMost y x d ∷ []) n) [
      | inl a ↦ reference_left k ls (AtMost x y c ∷ []) a
      | inr (inl a) ↦ absurd a
      | inr (inr a) ↦ absurd a
    ])

pub may_back : (path : List Literal) (x y : Symbol) (c d : ℤ) → MayAsk path (AtMost x y c) → MayAsk path (AtMost y x d)
unfolding MayAsk
may_back path x y c d h met = apart_back path x y c d (h met)

twice_number : (ls : List Literal) (l : Literal) (k : ℕ) → IsNumberAmong ((ls ++ l ∷ []) ++ l ∷ []) k
    → IsNumberAmong (ls ++ l ∷ []) k
twice_number ls l k n = elim (number_either k (ls ++ l ∷ []) (l ∷ []) n) [ inl a ↦ a | inr a ↦ number_right k ls (l ∷ []) a ]

twice_reference : (ls : List Literal) (l : Literal) (k : ℕ) → IsReferenceAmong ((ls ++ l ∷ []) ++ l ∷ []) k
    → IsReferenceAmong (ls ++ l ∷ []) k
twice_reference ls l k n = elim (reference_either k (ls ++ l ∷ []) (l ∷ []) n)
    [ inl a ↦ a | inr a ↦ reference_right k ls (l ∷ []) a ]

met_first : (ls ms : List Literal) → CanBeMet (ls ++ ms) → CanBeMet ls
met_first ls ms h = ∥∥₁_map h (λ s. record { values = s.values; meets = Meets-left s.values ls ms s.meets })

-- what was asked may be asked again
may_again : (path : List Literal) (l : Literal) → MayAsk path l → MayAsk (path ++ l ∷ []) l
unfolding MayAsk
may_again path l h met = apart_within ((path ++ l ∷ []) ++ l ∷ []) (path ++ l ∷ []) (h (met_first path (l ∷ []) met))
    (twice_number path l) (twice_reference path l)

back_then : (path : List Literal) (x y : Symbol) (c d : ℤ) (told : Bool) → MayAsk path (AtMost x y c)
    → MayAsk (path ++ answered (AtMost x y c) told ∷ []) (AtMost y x d)
back_then path x y c d true h = may_back (path ++ AtMost x y c ∷ []) x y c d (may_again path (AtMost x y c) h)
back_then path x y c d false h = may_back (path ++ opposite (AtMost x y c) ∷ []) x y c d
    (may_back (path ++ opposite (AtMost x y c) ∷ []) y x (pos 0 -ℤ c -ℤ pos 1) c
    (may_again path (opposite (AtMost x y c)) (may_back path x y c (pos 0 -ℤ c -ℤ pos 1) h)))

-- whatever the bounds are
pub may_back_then : (path : List Literal) (x y : Symbol) (b c d : ℤ) (told : Bool) → MayAsk path (AtMost x y b)
    → MayAsk (path ++ answered (AtMost x y c) told ∷ []) (AtMost y x d)
may_back_then path x y b c d told h = back_then path x y c d told (may_back path y x b c (may_back path x y b b h))
