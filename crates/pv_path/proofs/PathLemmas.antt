-- A path, its literals that were undecided, and its parts.
use Rattle.std.proofs.Common.{◌≡◌, ℕ, zero, suc, ◌≤◌, List, [], ◌∷◌, ◌++◌, length, take, Some, None, refl, ap, sym, subst, ◌∙◌, ◌⊎◌, inl, inr, Bool, true, false, cond, IsOk, Result, Ok, Err, arith, rules, append_assoc, append-nil, slice_get, length-append}
use Rattle.std.proofs.Math.Logic.{∥∥₁_map, ∥∥₁_elim}
use Rattle.std.specs.Coded.{le_prop}
use Rattle.std.specs.Prelude.{is_ok, IfSome, Option}
use Rattle.std.proofs.Math.Seq.{take-length}
use Rattle.std.proofs.lemmas.List.{take-append-le}
use Rattle.pv_linear.specs.declared.Literal.{Literal}
use Rattle.pv_linear.specs.declared.Literal.TheVariants.{AtMost, Same, Differ}
use Rattle.pv_linear.specs.Values.{Values}
use Rattle.pv_linear.specs.Literal.{Holds, Meets, opposite}
use Rattle.pv_linear.specs.Sorting.{IsNumberIn, IsReferenceIn, IsNumberAmong, IsReferenceAmong, AreSortsApart}
use Rattle.pv_linear.specs.Evidence.{CanBeMet, answered, Undecided, IsLong, MayAsk}
use Rattle.pv_linear.proofs.MeetsLemmas.{Meets-left, Meets-right, Meets-append, opposite_holds, opposite_denies}
use Rattle.pv_linear.proofs.Pairs.{holds_or}
use Rattle.pv_path.specs.declared.branch.Branch.{Branch}
use Rattle.pv_path.specs.Branches.{decisions_of, sides_of, IsNextSide}
use Rattle.pv_path.specs.Standing.{AreUndecided, IsOpen, Narrowed, nothing, decided, entailed}
use Rattle.pv_path.proofs.BranchLemmas.{next_part, over_next}

no_bottom : IsProp ⊥
no_bottom x y = absurd x

-- whether values meet literals can be told
meets_or : (v : Values) (ls : List Literal) → Meets v ls ⊎ (Meets v ls → ⊥)
meets_or v [] = inl tt
meets_or v (l ∷ ls) = elim (holds_or v l true) [
  | inl h ↦ elim (meets_or v ls) [ inl m ↦ inl (h, m) | inr n ↦ inr (λ m. n m.1) ]
  | inr n ↦ inr (λ m. n m.0)
]

-- the values that meet the path are those that meet its literals that were undecided
wider : (v : Values) (path ls : List Literal) → Narrowed path ls → Meets v ls → Meets v path
wider v [] [] nothing m = tt
wider v path ls (decided p q l n o) m = Meets-append v p (l ∷ []) (wider v p q n (Meets-left v q (l ∷ []) m))
    (Meets-right v q (l ∷ []) m)
wider v path ls (entailed p q l n h) m = Meets-append v p (l ∷ []) (wider v p q n m) (h v m, tt)

narrower : (v : Values) (path ls : List Literal) → Narrowed path ls → Meets v path → Meets v ls
narrower v [] [] nothing m = tt
narrower v path ls (decided p q l n o) m = Meets-append v q (l ∷ []) (narrower v p q n (Meets-left v p (l ∷ []) m))
    (Meets-right v p (l ∷ []) m)
narrower v path ls (entailed p q l n h) m = narrower v p q n (Meets-left v p (l ∷ []) m)

pub meets_wider : (v : Values) (path ls : List Literal) → ∥ Narrowed path ls ∥₁ → Meets v ls → Meets v path
meets_wider v path ls n m = elim (meets_or v path)
    [ inl h ↦ h | inr h ↦ absurd (∥∥₁_elim n no_bottom (λ k. h (wider v path ls k m))) ]

pub meets_narrower : (v : Values) (path ls : List Literal) → ∥ Narrowed path ls ∥₁ → Meets v path → Meets v ls
meets_narrower v path ls n m = elim (meets_or v ls)
    [ inl h ↦ h | inr h ↦ absurd (∥∥₁_elim n no_bottom (λ k. h (narrower v path ls k m))) ]

-- so the same can be met, with one more literal too
pub met_wider : (path ls more : List Literal) → ∥ Narrowed path ls ∥₁ → CanBeMet (ls ++ more) → CanBeMet (path ++ more)
met_wider path ls more n h =
    ∥∥₁_map h (λ s. record {
      values = s.values;
      meets =
          Meets-append s.values path more (meets_wider s.values path ls n (Meets-left s.values ls more s.meets))
          (Meets-right s.values ls more s.meets);
    })

pub met_narrower : (path ls more : List Literal) → ∥ Narrowed path ls ∥₁ → CanBeMet (path ++ more) → CanBeMet (ls ++ more)
met_narrower path ls more n h = ∥∥₁_map h (λ s.
    record {
      values = s.values;
      meets = Meets-append s.values ls more
          (meets_narrower s.values path ls n (Meets-left s.values path more s.meets)) (Meets-right s.values path more s.meets);
    })

pub open_wider : (path ls : List Literal) (l : Literal) → ∥ Narrowed path ls ∥₁ → IsOpen ls l → IsOpen path l
open_wider path ls l n h = (met_wider path ls (l ∷ []) n h.0, met_wider path ls (opposite l ∷ []) n h.1)

pub open_narrower : (path ls : List Literal) (l : Literal) → ∥ Narrowed path ls ∥₁ → IsOpen path l → IsOpen ls l
open_narrower path ls l n h = (met_narrower path ls (l ∷ []) n h.0, met_narrower path ls (opposite l ∷ []) n h.1)

-- the path with a literal more
pub path_more : (kept : ℕ) (ls asked : List Literal) (l : Literal) → kept ≤ length ls → take kept (ls ++ l ∷ [])
    ++ (asked ++ l ∷ []) ≡ (take kept ls ++ asked) ++ l ∷ []
path_more kept ls asked l h = ap (λ xs. xs ++ (asked ++ l ∷ [])) (take-append-le kept ls (l ∷ []) h)
    ∙ sym (append_assoc (take kept ls) asked (l ∷ []))

pub narrowed_decided : (path new ls more : List Literal) (l : Literal) → new ≡ path ++ l ∷ [] → more ≡ ls ++ l ∷ []
    → ∥ Narrowed path ls ∥₁ → CanBeMet (ls ++ opposite l ∷ []) → ∥ Narrowed new more ∥₁
narrowed_decided path new ls more l p q n o = subst (λ (xs : List Literal). ∥ Narrowed xs more ∥₁) (sym p)
    (subst (λ (xs : List Literal). ∥ Narrowed (path ++ l ∷ []) xs ∥₁) (sym q) (∥∥₁_map n (λ k. decided path ls l k o)))

pub narrowed_entailed : (path new ls : List Literal) (l : Literal) → new ≡ path ++ l ∷ [] → ∥ Narrowed path ls ∥₁
    → ((v : Values) → Meets v path → Holds v l) → ∥ Narrowed new ls ∥₁
narrowed_entailed path new ls l p n h = subst (λ (xs : List Literal). ∥ Narrowed xs ls ∥₁) (sym p)
    (∥∥₁_map n (λ k. entailed path ls l k (λ v m. h v (wider v path ls k m))))

-- undecided literals are a path by themselves
narrowed_from : (before ls : List Literal) → Narrowed before before
    → ((k : ℕ) (l : Literal) → slice_get ls k ≡ Some l → CanBeMet (before ++ (take k ls ++ opposite l ∷ [])))
    → Narrowed (before ++ ls) (before ++ ls)
narrowed_from before [] n h = subst (λ (xs : List Literal). Narrowed xs xs) (sym (append-nil before)) n
narrowed_from before (l ∷ ls) n h = subst (λ (xs : List Literal). Narrowed xs xs) (append_assoc before (l ∷ []) ls)
    (narrowed_from (before ++ l ∷ []) ls (decided before before l n (h 0 l refl))
    (λ k m g. subst CanBeMet (sym (append_assoc before (l ∷ []) (take k ls ++ opposite m ∷ []))) (h (suc k) m g)))

pub narrowed_kept : (ls : List Literal) → AreUndecided ls → ∥ Narrowed ls ls ∥₁
narrowed_kept ls h = ∣ narrowed_from [] ls nothing h ∣₁

-- the literals that were undecided are so many on the path
passed : (before ls : List Literal) (l : Literal) (n : ℕ) → Undecided before ls n → Undecided before (ls ++ l ∷ []) n
passed before [] l n h = inl h
passed before (x ∷ xs) l n (inl h) = inl (passed (before ++ x ∷ []) xs l n h)
passed before (x ∷ xs) l n (inr h) = inr (h.0, h.1, h.2, passed (before ++ x ∷ []) xs l h.0 h.3)

counted : (before ls : List Literal) (l : Literal) (n : ℕ) → Undecided before ls n → CanBeMet ((before ++ ls) ++ opposite l ∷ [])
    → Undecided before (ls ++ l ∷ []) (suc n)
counted before [] l n h o = inr (
  n,
  refl,
  subst (λ (xs : List Literal). CanBeMet (xs ++ opposite l ∷ [])) (append-nil before) o,
  h,
)
counted before (x ∷ xs) l n (inl h) o = inl (counted (before ++ x ∷ []) xs l n h
    (subst (λ (ys : List Literal). CanBeMet (ys ++ opposite l ∷ [])) (sym (append_assoc before (x ∷ []) xs)) o))
counted before (x ∷ xs) l n (inr h) o = inr (
  n,
  refl,
  h.2,
  subst (λ (i : ℕ). Undecided (before ++ x ∷ []) (xs ++ l ∷ []) i)
      (sym h.1) (counted (before ++ x ∷ []) xs l h.0 h.3
      (subst (λ (ys : List Literal). CanBeMet (ys ++ opposite l ∷ [])) (sym (append_assoc before (x ∷ []) xs)) o)),
)

undecided_of : (path ls : List Literal) → Narrowed path ls → Undecided [] path (length ls)
undecided_of [] [] nothing = refl
undecided_of path ls (decided p q l n o) = subst (Undecided [] (p ++ l ∷ [])) (omega (arith, length-append q (l ∷ [])))
    (counted [] p l (length q) (undecided_of p q n) (met_wider p q (opposite l ∷ []) ∣ n ∣₁ o))
undecided_of path ls (entailed p q l n h) = passed [] p l (length q) (undecided_of p q n)

pub long : (path ls : List Literal) → ∥ Narrowed path ls ∥₁ → length ls ≡ 65536 → CanBeMet ls → IsLong path
unfolding IsLong
long path ls n e met = (
  subst CanBeMet (append-nil path) (met_wider path ls [] n (subst CanBeMet (sym (append-nil ls)) met)),
  ∥∥₁_map n (λ k. subst (Undecided [] path) e (undecided_of path ls k)),
)

-- symbols stand in the undecided literals as they stand on the path
number_in : (k : ℕ) (xs ys : List Literal) → IsNumberAmong (xs ++ ys) k → IsNumberAmong xs k ⊎ IsNumberAmong ys k
number_in k [] ys h = inr h
number_in k (x ∷ xs) ys (inl h) = inl (inl h)
number_in k (x ∷ xs) ys (inr h) = elim (number_in k xs ys h) [ inl n ↦ inl (inr n) | inr n ↦ inr n ]

number_left : (k : ℕ) (xs ys : List Literal) → IsNumberAmong xs k → IsNumberAmong (xs ++ ys) k
number_left k [] ys h = absurd h
number_left k (x ∷ xs) ys (inl h) = inl h
number_left k (x ∷ xs) ys (inr h) = inr (number_left k xs ys h)

number_right : (k : ℕ) (xs ys : List Literal) → IsNumberAmong ys k → IsNumberAmong (xs ++ ys) k
number_right k [] ys h = h
number_right k (x ∷ xs) ys h = inr (number_right k xs ys h)

reference_in : (k : ℕ) (xs ys : List Literal) → IsReferenceAmong (xs ++ ys) k → IsReferenceAmong xs k ⊎ IsReferenceAmong ys k
reference_in k [] ys h = inr h
reference_in k (x ∷ xs) ys (inl h) = inl (inl h)
reference_in k (x ∷ xs) ys (inr h) = elim (reference_in k xs ys h) [ inl n ↦ inl (inr n) | inr n ↦ inr n ]

reference_left : (k : ℕ) (xs ys : List Literal) → IsReferenceAmong xs k → IsReferenceAmong (xs ++ ys) k
reference_left k [] ys h = absurd h
reference_left k (x ∷ xs) ys (inl h) = inl h
reference_left k (x ∷ xs) ys (inr h) = inr (reference_left k xs ys h)

reference_right : (k : ℕ) (xs ys : List Literal) → IsReferenceAmong ys k → IsReferenceAmong (xs ++ ys) k
reference_right k [] ys h = h
reference_right k (x ∷ xs) ys h = inr (reference_right k xs ys h)

number_wider : (k : ℕ) (path ls : List Literal) → Narrowed path ls → IsNumberAmong ls k → IsNumberAmong path k
number_wider k [] [] nothing h = h
number_wider k path ls (decided p q l n o) h =
    elim (number_in k q (l ∷ []) h) [
      | inl m ↦ number_left k p (l ∷ []) (number_wider k p q n m)
      | inr m ↦ number_right k p
          (l ∷ []) m
    ]
number_wider k path ls (entailed p q l n e) h = number_left k p (l ∷ []) (number_wider k p q n h)

reference_wider : (k : ℕ) (path ls : List Literal) → Narrowed path ls → IsReferenceAmong ls k → IsReferenceAmong path k
reference_wider k [] [] nothing h = h
reference_wider k path ls (decided p q l n o) h =
    elim (reference_in k q (l ∷ []) h) [
      | inl m ↦ reference_left k p (l ∷ []) (reference_wider k p q n m)
      | inr m ↦ reference_right
          k p (l ∷ []) m
    ]
reference_wider k path ls (entailed p q l n e) h = reference_left k p (l ∷ []) (reference_wider k p q n h)

-- the opposite has the same symbols
opposite_number : (k : ℕ) (l : Literal) → IsNumberIn (opposite l) k → IsNumberIn l k
opposite_number k (AtMost x y c) (inl h) = inr h
opposite_number k (AtMost x y c) (inr h) = inl h
opposite_number k (Same x y) h = h
opposite_number k (Differ x y) h = h

opposite_reference : (k : ℕ) (l : Literal) → IsReferenceIn (opposite l) k → IsReferenceIn l k
opposite_reference k (AtMost x y c) h = h
opposite_reference k (Same x y) h = h
opposite_reference k (Differ x y) h = h

apart_narrower : (path ls : List Literal) (l m : Literal) → ∥ Narrowed path ls ∥₁ → ((k : ℕ) → IsNumberIn m k → IsNumberIn l k)
    → ((k : ℕ) → IsReferenceIn m k → IsReferenceIn l k) → AreSortsApart (path ++ l ∷ []) → AreSortsApart (ls ++ m ∷ [])
apart_narrower path ls l m n a b apart k h r =
    ∥∥₁_elim n no_bottom (λ w. apart k (number w (number_in (suc k) ls (m ∷ []) h))
    (reference w (reference_in (suc k) ls (m ∷ []) r)))
  where
    number : Narrowed path ls → IsNumberAmong ls (suc k) ⊎ IsNumberAmong (m ∷ []) (suc k) → IsNumberAmong (path ++ l ∷ []) (suc k)
    number w (inl x) = number_left (suc k) path (l ∷ []) (number_wider (suc k) path ls w x)
    number w (inr (inl x)) = number_right (suc k) path (l ∷ []) (inl (a (suc k) x))
    number w (inr (inr x)) = absurd x

    reference : Narrowed path ls → IsReferenceAmong ls (suc k) ⊎ IsReferenceAmong (m ∷ []) (suc k)
        → IsReferenceAmong (path ++ l ∷ []) (suc k)
    reference w (inl x) = reference_left (suc k) path (l ∷ []) (reference_wider (suc k) path ls w x)
    reference w (inr (inl x)) = reference_right (suc k) path (l ∷ []) (inl (b (suc k) x))
    reference w (inr (inr x)) = absurd x

-- so the solver may be asked of them with the literal, and with its opposite
pub sorts_literal : (path ls : List Literal) (l : Literal) → ∥ Narrowed path ls ∥₁ → CanBeMet ls → MayAsk path l
    → AreSortsApart (ls ++ l ∷ [])
unfolding MayAsk
sorts_literal path ls l n met may = apart_narrower path ls l l n (λ k h. h) (λ k h. h)
    (may (subst CanBeMet (append-nil path) (met_wider path ls [] n (subst CanBeMet (sym (append-nil ls)) met))))

pub sorts_opposite : (path ls : List Literal) (l : Literal) → ∥ Narrowed path ls ∥₁ → CanBeMet ls → MayAsk path l
    → AreSortsApart (ls ++ opposite l ∷ [])
unfolding MayAsk
sorts_opposite path ls l n met may = apart_narrower path ls l (opposite l) n (λ k. opposite_number k l)
    (λ k. opposite_reference k l)
    (may (subst CanBeMet (append-nil path) (met_wider path ls [] n (subst CanBeMet (sym (append-nil ls)) met))))

-- a literal follows from the path where its opposite can't be met with it
pub follows_denied : (path ls : List Literal) (l : Literal) → ∥ Narrowed path ls ∥₁
    → ((v : Values) → Meets v (ls ++ opposite l ∷ []) → ⊥) → (v : Values) → Meets v path → Holds v l
follows_denied path ls l n none v m = elim (holds_or v l true) [
  | inl h ↦ h
  | inr h ↦ absurd (none v (Meets-append v ls (opposite l ∷ []) (meets_narrower v path ls n m) (opposite_holds v l h, tt)))
]

pub opposite_denied : (path ls : List Literal) (l : Literal) → ∥ Narrowed path ls ∥₁ → ((v : Values) → Meets v (ls ++ l ∷ []) → ⊥)
    → (v : Values) → Meets v path → Holds v (opposite l)
opposite_denied path ls l n none v m = opposite_holds v l
    (λ h. none v (Meets-append v ls (l ∷ []) (meets_narrower v path ls n m) (h, tt)))

-- the path after a push that may have failed
pub narrowed_either : (b : Bool) (kept : ℕ) (ls asked new : List Literal) (l : Literal) → new ≡ cond b (asked ++ l ∷ []) asked
    → ∥ Narrowed (take kept ls ++ asked) ls ∥₁ → ((v : Values) → Meets v (take kept ls ++ asked) → Holds v l)
    → ∥ Narrowed (take kept ls ++ new) ls ∥₁
narrowed_either true kept ls asked new l is n h =
    narrowed_entailed (take kept ls ++ asked) (take kept ls ++ new) ls l
    (ap (λ xs. take kept ls ++ xs) is ∙ sym (append_assoc (take kept ls) asked (l ∷ []))) n h
narrowed_either false kept ls asked new l is n h = subst (λ (xs : List Literal). ∥ Narrowed (take kept ls ++ xs) ls ∥₁) (sym is) n

-- a push that has room
pub pushed : {A E X : Type 0} (r : Result A E) (xs ys zs : List X) → IsOk r → xs ≡ cond (is_ok r) ys zs → xs ≡ ys
pushed (Ok a) xs ys zs h e = e
pushed (Err a) xs ys zs h e = search rules

-- the literals of a path that starts with those that were kept
pub path_kept : (ls asked : List Literal) (n : ℕ) → n ≡ length ls → asked ≡ [] → take n ls ++ asked ≡ ls
path_kept ls asked n e a = ap (λ k. take k ls ++ asked) e ∙ ap (λ xs. xs ++ asked) (take-length ls) ∙ ap (λ xs. ls ++ xs) a
    ∙ append-nil ls

pub end_open : {A : Type 0} (xs : List A) (x : A) → xs ++ x ∷ [] ≡ [] → ⊥
end_open [] x e = cc e
end_open (y ∷ ys) x e = cc e

-- a side is open where there is a next one
pub side_open : (bs : List Branch) (place : ℕ) (other : Branch) → IsNextSide bs place other → sides_of bs ≡ [] → ⊥
side_open bs place other n e = end_open (sides_of (take place bs ++ other ∷ [])) (decisions_of (take place bs ++ other ∷ []))
    (sym (next_part bs _ (over_next bs place other n)) ∙ e)

pub narrowed_kept_as : (ls asked : List Literal) (n : ℕ) → n ≡ length ls → asked ≡ [] → AreUndecided ls
    → ∥ Narrowed (take n ls ++ asked) ls ∥₁
narrowed_kept_as ls asked n e a h = subst (λ (xs : List Literal). ∥ Narrowed xs ls ∥₁) (sym (path_kept ls asked n e a))
    (narrowed_kept ls h)

pub narrowed_none : (n : ℕ) (ls asked : List Literal) → ls ≡ [] → asked ≡ [] → ∥ Narrowed (take n ls ++ asked) ls ∥₁
narrowed_none n ls asked e a = subst (λ (xs : List Literal). ∥ Narrowed (take n xs ++ asked) xs ∥₁) (sym e)
    (subst (λ (xs : List Literal). ∥ Narrowed xs [] ∥₁) (sym (nothing_left n asked a)) ∣ nothing ∣₁)
  where
    nothing_left : (n : ℕ) (asked : List Literal) → asked ≡ [] → take n [] ++ asked ≡ []
    nothing_left zero asked a = a
    nothing_left (suc n) asked a = a

pub opposite_missing : (v : Values) (l : Literal) → (Holds v (opposite l) → ⊥) → Holds v l
opposite_missing v l h = elim (holds_or v l true) [ inl k ↦ k | inr n ↦ absurd (h (opposite_holds v l n)) ]

-- an answer that a part of the path has is an answer of the path
pub known_left : (xs ys : List Literal) (l : Literal) (found : Option Bool)
    → IfSome found (λ told. (v : Values) → Meets v xs → Holds v (answered l told))
    → IfSome found (λ told. (v : Values) → Meets v (xs ++ ys) → Holds v (answered l told))
known_left xs ys l (Some told) h = λ v m. h v (Meets-left v xs ys m)
known_left xs ys l None h = tt

pub known_right : (xs ys : List Literal) (l : Literal) (found : Option Bool)
    → IfSome found (λ told. (v : Values) → Meets v ys → Holds v (answered l told))
    → IfSome found (λ told. (v : Values) → Meets v (xs ++ ys) → Holds v (answered l told))
known_right xs ys l (Some told) h = λ v m. h v (Meets-right v xs ys m)
known_right xs ys l None h = tt

-- and there are no more on the path
uncounted : (before ls : List Literal) (l : Literal) (n : ℕ) → Undecided before (ls ++ l ∷ []) n
    → Undecided before ls n ⊎ ((m : ℕ) × (n ≡ suc m) × Undecided before ls m × CanBeMet ((before ++ ls) ++ opposite l ∷ []))
uncounted before [] l n (inl h) = inl h
uncounted before [] l n (inr h) = inr (
  h.0,
  h.1,
  h.3,
  subst (λ (xs : List Literal). CanBeMet (xs ++ opposite l ∷ []))
      (sym (append-nil before)) h.2,
)
uncounted before (x ∷ xs) l n (inl h) = elim (uncounted (before ++ x ∷ []) xs l n h) [
  | inl k ↦ inl (inl k)
  | inr k ↦ inr (
    k.0,
    k.1,
    inl k.2,
    subst (λ (ys : List Literal). CanBeMet (ys ++ opposite l ∷ []))
        (append_assoc before (x ∷ []) xs) k.3,
  )
]
uncounted before (x ∷ xs) l n (inr h) = elim (uncounted (before ++ x ∷ []) xs l h.0 h.3) [
  | inl k ↦ inl (inr (h.0, h.1, h.2, k))
  | inr k ↦ inr (
    h.0,
    h.1,
    inr (k.0, k.1, h.2, k.2),
    subst (λ (ys : List Literal). CanBeMet (ys ++ opposite l ∷ []))
        (append_assoc before (x ∷ []) xs) k.3,
  )
]

no_more : (path ls : List Literal) → Narrowed path ls → (n : ℕ) → Undecided [] path n → n ≤ length ls
no_more [] [] nothing n h = omega (arith, h)
no_more path ls (decided p q l w o) n h = elim (uncounted [] p l n h) [
  | inl k ↦ (let i = no_more p q w n k in omega (arith, i, length-append q (l ∷ [])))
  | inr k ↦ (let i = no_more p q w k.0 k.2 in omega (arith, i, k.1, length-append q (l ∷ [])))
]
no_more path ls (entailed p q l w e) n h = elim (uncounted [] p l n h) [
  | inl k ↦ no_more p q w n k
  | inr k ↦ absurd (∥∥₁_elim k.3 no_bottom (λ s.
      opposite_denies s.values l (Meets-right s.values p (opposite l ∷ []) s.meets).0
      (e s.values (narrower s.values p q w (Meets-left s.values p (opposite l ∷ []) s.meets)))))
]

pub long_counts : (path ls : List Literal) → ∥ Narrowed path ls ∥₁ → IsLong path → length ls ≤ 65536 → length ls ≡ 65536
unfolding IsLong
long_counts path ls n h few = let most : 65536 ≤ length ls =
    ∥∥₁_elim n le_prop (λ w. ∥∥₁_elim h.1 le_prop (λ u. no_more path ls w 65536 u)) in omega (arith, most, few)
