-- The differences among literals, and walks along them.
use Rattle.std.proofs.Common.{◌≡◌, ℕ, zero, suc, ◌+◌, ◌<◌, ◌≤◌, ℤ, List, [], ◌∷◌, ◌++◌, length, take, map, slice_index_or, Some, refl, ap, sym, subst, arith, ◌∙◌, ◌⊎◌, inl, inr, length-append}
use Rattle.std.specs.Prelude.{slice_get, All}
use Rattle.std.proofs.lemmas.List.{take_more, get_or_append_left, get_or_push}
use Rattle.std.proofs.lemmas.List.Elements.{All-from_get_or}
use Rattle.std.proofs.lemmas.Option.{slice_get_within, slice_get-get_or}
use Rattle.pv_linear.specs.declared.Literal.{Literal}
use Rattle.pv_linear.specs.declared.Literal.TheVariants.{AtMost, Same, Differ}
use Rattle.pv_linear.specs.declared.Symbol.{Symbol}
use Rattle.pv_linear.specs.Literal.{bound_of_all}
use Rattle.pv_diff.specs.Answer.{IsInDifference, reach}
use Rattle.pv_diff.specs.Parts.{AllAtMost, differences_in, AreFrom, IsPart}
use Rattle.pv_diff.specs.Conflict.{Walk}

differences_in-append : (xs ys : List Literal) → differences_in (xs ++ ys) ≡ differences_in xs ++ differences_in ys
differences_in-append [] ys = refl
differences_in-append (AtMost x y c ∷ xs) ys = ap (λ (q : List Literal). AtMost x y c ∷ q) (differences_in-append xs ys)
differences_in-append (Same x y ∷ xs) ys = differences_in-append xs ys
differences_in-append (Differ x y ∷ xs) ys = differences_in-append xs ys

pub all_differences : (ls : List Literal) → AllAtMost (differences_in ls)
all_differences [] = tt
all_differences (AtMost x y c ∷ ls) = (tt, all_differences ls)
all_differences (Same x y ∷ ls) = all_differences ls
all_differences (Differ x y ∷ ls) = all_differences ls

pub few_differences : (ls : List Literal) → length (differences_in ls) ≤ length ls
few_differences [] = omega arith
few_differences (AtMost x y c ∷ ls) = let r = few_differences ls in omega arith
few_differences (Same x y ∷ ls) = let r = few_differences ls in omega arith
few_differences (Differ x y ∷ ls) = let r = few_differences ls in omega arith

pub differences_bound : (ls : List Literal) → bound_of_all (differences_in ls) ≤ bound_of_all ls
differences_bound [] = omega arith
differences_bound (AtMost x y c ∷ ls) = let r = differences_bound ls in omega arith
differences_bound (Same x y ∷ ls) = let r = differences_bound ls in omega arith
differences_bound (Differ x y ∷ ls) = let r = differences_bound ls in omega arith

pub differences_reach : (ls : List Literal) → reach (differences_in ls) ≤ reach ls
differences_reach [] = omega arith
differences_reach (AtMost x y c ∷ ls) = let r = differences_reach ls in omega arith
differences_reach (Same x y ∷ ls) = let r = differences_reach ls in omega arith
differences_reach (Differ x y ∷ ls) = let r = differences_reach ls in omega arith

pub reach-length : (ls : List Literal) → length ls + length ls ≤ reach ls
reach-length [] = omega arith
reach-length (l ∷ ls) = let r = reach-length ls in omega arith

-- what stands at a place of a list with one element more
slice_get_cases : (xs : List Literal) (y l : Literal) (k : ℕ) → slice_get (xs ++ y ∷ []) k ≡ Some l
    → (slice_get xs k ≡ Some l) ⊎ ((k ≡ length xs) × (y ≡ l))
slice_get_cases [] y l zero h = inr (refl, cc)
slice_get_cases [] y l (suc k) h = cc
slice_get_cases (x ∷ xs) y l zero h = inl h
slice_get_cases (x ∷ xs) y l (suc k) h = elim (slice_get_cases xs y l k h) [ inl a ↦ inl a | inr b ↦ inr (ap suc b.0, b.1) ]

pub IsPart-more : (ls part : List Literal) (places : List ℕ) (i : ℕ) (d : Literal) → i < length ls
    → differences_in (slice_index_or ls i d ∷ []) ≡ slice_index_or ls i d ∷ [] → IsPart ls (take i ls) part places
    → IsPart ls (take (i + 1) ls) (part ++ slice_index_or ls i d ∷ []) (places ++ i ∷ [])
IsPart-more ls part places i d lt is p =
    let here : Literal = slice_index_or ls i d in
    record {
      differences = ap (λ (q : List Literal). q ++ here ∷ []) p.differences
          ∙ ap (λ (q : List Literal). differences_in (take i ls) ++ q) (sym is)
          ∙ sym (differences_in-append (take i ls) (here ∷ [])) ∙ ap differences_in (sym (take_more ls i d lt));
      size = let a = length-append places (i ∷ []) in let b = length-append part (here ∷ []) in let s = p.size in omega arith;
      from = λ k l h. elim (slice_get_cases part here l k h) [
        | inl a ↦
            let under = slice_get_within part k l a in
            let s = p.size in
            let same : slice_index_or (places ++ i ∷ []) k 0 ≡ slice_index_or places k 0 =
            get_or_append_left places (i ∷ []) 0 k (omega arith) in
            subst (λ (q : ℕ). slice_get ls q ≡ Some l) (sym same) (p.from k l a)
        | inr b ↦
            let s = p.size in
            let e = b.0 in
            let same : slice_index_or (places ++ i ∷ []) k 0 ≡ i = get_or_push places i 0 k (omega arith) in
            subst (λ (q : ℕ). slice_get ls q ≡ Some l) (sym same) (slice_get-get_or ls i d lt ∙ ap (λ (m : Literal). Some m) b.1)
      ];
    }

append_nil : (xs : List Literal) → xs ++ [] ≡ xs
append_nil [] = refl
append_nil (x ∷ xs) = ap (λ (q : List Literal). x ∷ q) (append_nil xs)

pub IsPart-other : (ls part : List Literal) (places : List ℕ) (i : ℕ) (d : Literal) → i < length ls
    → differences_in (slice_index_or ls i d ∷ []) ≡ [] → IsPart ls (take i ls) part places
    → IsPart ls (take (i + 1) ls) part places
IsPart-other ls part places i d lt none p = record {
  differences = p.differences ∙ sym (ap differences_in (take_more ls i d lt)
      ∙ differences_in-append (take i ls) (slice_index_or ls i d ∷ [])
      ∙ ap (λ (q : List Literal). differences_in (take i ls) ++ q) none ∙ append_nil (differences_in (take i ls)));
  size = p.size;
  from = p.from;
}

-- the places of a walk, in the whole list
abbrev pub places_in : List ℕ → List ℕ → List ℕ
places_in places ps = map (λ k. slice_index_or places k 0) ps

pub Walk-from : (whole part : List Literal) (places : List ℕ) (z x : Symbol) (t : ℤ) (ps : List ℕ) → AreFrom whole part places
    → Walk part z x t ps → Walk whole z x t (places_in places ps)
Walk-from whole part places z x t [] f w = w
Walk-from whole part places z x t (p ∷ ps) f w =
    (w.0, w.1, w.2, f p (AtMost z w.0 w.1) w.3, Walk-from whole part places w.0 x w.2 ps f w.4, w.5)

under_at : (ls : List Literal) (z x : Symbol) (t : ℤ) (ps : List ℕ) (i : ℕ) → Walk ls z x t ps → i < length ps
    → slice_index_or ps i 0 < length ls
under_at ls z x t [] i w lt = absurd (omega arith)
under_at ls z x t (p ∷ ps) zero w lt = slice_get_within ls p (AtMost z w.0 w.1) w.3
under_at ls z x t (p ∷ ps) (suc i) w lt = under_at ls w.0 x w.2 ps i w.4 (omega arith)

pub Walk-within : (ls : List Literal) (z x : Symbol) (t : ℤ) (ps : List ℕ) → Walk ls z x t ps → All (λ k. k < length ls) ps
Walk-within ls z x t ps w = All-from_get_or (λ k. k < length ls) ps 0 (λ i lt. under_at ls z x t ps i w lt)

pub IsInDifference-from : (whole part : List Literal) (places : List ℕ) (k : ℕ) → AreFrom whole part places
    → IsInDifference part k → IsInDifference whole k
IsInDifference-from whole part places k f h = (slice_index_or places h.0 0, h.1, h.2, h.3, f h.0 (AtMost h.1 h.2 h.3) h.4, h.5)
