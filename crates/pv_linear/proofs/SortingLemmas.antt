-- Where symbols stand, and the sorts that they have there.
use Rattle.std.proofs.Common.{◌≡◌, ℕ, zero, suc, ◌+◌, ℤ, pos, List, [], ◌∷◌, ◌++◌, Bool, true, false, Option, Some, refl, subst, sym, ap, ◌∙◌, ◌⊎◌, inl, inr, arith, add-one, length}
use Rattle.std.specs.Prelude.{slice_get, ◌-ℤ◌}
use Rattle.std.proofs.lemmas.Int.{ints}
use Rattle.pv_linear.specs.declared.Sort.{Sort}
use Rattle.pv_linear.specs.declared.Sort.TheVariants.{Number, Truth, Reference}
use Rattle.pv_linear.specs.declared.Symbol.{Symbol}
use Rattle.pv_linear.specs.declared.Literal.{Literal}
use Rattle.pv_linear.specs.declared.Literal.TheVariants.{AtMost, Same, Differ}
use Rattle.pv_linear.specs.Literal.{opposite}
use Rattle.pv_linear.specs.Sorting.{IsNumberIn, IsReferenceIn, IsNumberAmong, IsReferenceAmong, AreSortsApart}
use Rattle.pv_linear.specs.Sorts.{Sorts, IsSort, HasSort, IsTest, IsOfSorts, AreOfSorts, HasSorts}
use Rattle.pv_linear.specs.Evidence.{answered}
use Rattle.pv_linear.specs.Decisions.{IsFront}

-- members of lists of literals
pub number_either : (k : ℕ) (xs ys : List Literal) → IsNumberAmong (xs ++ ys) k → IsNumberAmong xs k ⊎ IsNumberAmong ys k
number_either k [] ys h = inr h
number_either k (x ∷ xs) ys (inl h) = inl (inl h)
number_either k (x ∷ xs) ys (inr h) = elim (number_either k xs ys h) [ inl n ↦ inl (inr n) | inr n ↦ inr n ]

pub number_left : (k : ℕ) (xs ys : List Literal) → IsNumberAmong xs k → IsNumberAmong (xs ++ ys) k
number_left k [] ys h = absurd h
number_left k (x ∷ xs) ys (inl h) = inl h
number_left k (x ∷ xs) ys (inr h) = inr (number_left k xs ys h)

pub number_right : (k : ℕ) (xs ys : List Literal) → IsNumberAmong ys k → IsNumberAmong (xs ++ ys) k
number_right k [] ys h = h
number_right k (x ∷ xs) ys h = inr (number_right k xs ys h)

pub reference_either : (k : ℕ) (xs ys : List Literal) → IsReferenceAmong (xs ++ ys) k
    → IsReferenceAmong xs k ⊎ IsReferenceAmong ys k
reference_either k [] ys h = inr h
reference_either k (x ∷ xs) ys (inl h) = inl (inl h)
reference_either k (x ∷ xs) ys (inr h) = elim (reference_either k xs ys h) [ inl n ↦ inl (inr n) | inr n ↦ inr n ]

pub reference_left : (k : ℕ) (xs ys : List Literal) → IsReferenceAmong xs k → IsReferenceAmong (xs ++ ys) k
reference_left k [] ys h = absurd h
reference_left k (x ∷ xs) ys (inl h) = inl h
reference_left k (x ∷ xs) ys (inr h) = inr (reference_left k xs ys h)

pub reference_right : (k : ℕ) (xs ys : List Literal) → IsReferenceAmong ys k → IsReferenceAmong (xs ++ ys) k
reference_right k [] ys h = h
reference_right k (x ∷ xs) ys h = inr (reference_right k xs ys h)

-- the opposite, and any answer, has the literal's symbols
pub opposite_number : (l : Literal) (k : ℕ) → IsNumberIn (opposite l) k → IsNumberIn l k
opposite_number (AtMost x y c) k (inl h) = inr h
opposite_number (AtMost x y c) k (inr h) = inl h
opposite_number (Same x y) k h = h
opposite_number (Differ x y) k h = h

pub opposite_reference : (l : Literal) (k : ℕ) → IsReferenceIn (opposite l) k → IsReferenceIn l k
opposite_reference (AtMost x y c) k h = h
opposite_reference (Same x y) k h = h
opposite_reference (Differ x y) k h = h

pub answered_number : (l : Literal) (told : Bool) (k : ℕ) → IsNumberIn (answered l told) k → IsNumberIn l k
answered_number l true k h = h
answered_number l false k h = opposite_number l k h

pub answered_reference : (l : Literal) (told : Bool) (k : ℕ) → IsReferenceIn (answered l told) k → IsReferenceIn l k
answered_reference l true k h = h
answered_reference l false k h = opposite_reference l k h

-- numbers and references are apart in fewer symbols too
pub apart_within : (xs ys : List Literal) → AreSortsApart ys → ((k : ℕ) → IsNumberAmong xs k → IsNumberAmong ys k)
    → ((k : ℕ) → IsReferenceAmong xs k → IsReferenceAmong ys k) → AreSortsApart xs
apart_within xs ys h n r k a b = h k (n (suc k) a) (r (suc k) b)

pub apart_answered : (ls : List Literal) (l : Literal) (told : Bool) → AreSortsApart (ls ++ l ∷ [])
    → AreSortsApart (ls ++ answered l told ∷ [])
apart_answered ls l told h = apart_within (ls ++ answered l told ∷ []) (ls ++ l ∷ []) h
    (λ k n. elim (number_either k ls (answered l told ∷ []) n) [
      | inl a ↦ number_left k ls (l ∷ []) a
      | inr (inl a) ↦ number_right k ls (l ∷ []) (inl (answered_number l told k a))
      | inr (inr a) ↦ absurd a
    ])
    (λ k n. elim (reference_either k ls (answered l told ∷ []) n) [
      | inl a ↦ reference_left k ls (l ∷ []) a
      | inr (inl a) ↦ reference_right k ls (l ∷ []) (inl (answered_reference l told k a))
      | inr (inr a) ↦ absurd a
    ])

-- the opposite of a test of a truth value is the other test, and an answer has the sorts of its literal
test_opposite : (truth : ℕ → Type 0) (x y : Symbol) (c : ℤ) → IsTest truth x y c → IsTest truth y x (pos 0 -ℤ c -ℤ pos 1)
test_opposite truth x y c (inl (z, (e, t))) = inr (z, (omega (arith, ints, e), t))
test_opposite truth x y c (inr (z, (e, t))) = inl (z, (omega (arith, ints, e), t))

pub opposite_sorts : (sorts : Sorts) (l : Literal) → IsOfSorts sorts l → IsOfSorts sorts (opposite l)
opposite_sorts sorts (AtMost x y c) (inl h) = inl (h.1, h.0)
opposite_sorts sorts (AtMost x y c) (inr h) = inr (test_opposite (IsSort sorts Truth) x y c h)
opposite_sorts sorts (Same x y) h = h
opposite_sorts sorts (Differ x y) h = h

pub answered_sorts : (sorts : Sorts) (l : Literal) (told : Bool) → IsOfSorts sorts l → IsOfSorts sorts (answered l told)
answered_sorts sorts l true h = h
answered_sorts sorts l false h = opposite_sorts sorts l h

pub sorts_answered : (sorts : Sorts) (ls : List Literal) (l : Literal) (told : Bool) → AreOfSorts sorts ls → IsOfSorts sorts l
    → AreOfSorts sorts (ls ++ answered l told ∷ [])
unfolding AreOfSorts
sorts_answered sorts [] l told h k = (answered_sorts sorts l told k, tt)
sorts_answered sorts (x ∷ xs) l told h k = (h.0, sorts_answered sorts xs l told h.1 k)

-- a symbol that stands as a number is no reference, and one that stands as a reference is one
test_sort : (sorts : Sorts) (x y : Symbol) (c : ℤ) (k : ℕ) → IsTest (IsSort sorts Truth) x y c → (x.0 ≡ suc k) ⊎ (y.0 ≡ suc k)
    → sorts k ≡ Some Reference → ⊥
test_sort sorts x y c k (inl (z, (e, t))) (inl n) r = let q : 0 ≡ suc k = sym z ∙ n in omega (arith, q)
test_sort sorts x y c k (inl (z, (e, t))) (inr n) r = let q : Reference ≡ Truth = (subst (IsSort sorts Truth) n t) Reference r in
    cc q
test_sort sorts x y c k (inr (z, (e, t))) (inl n) r = let q : Reference ≡ Truth = (subst (IsSort sorts Truth) n t) Reference r in
    cc q
test_sort sorts x y c k (inr (z, (e, t))) (inr n) r = let q : 0 ≡ suc k = sym z ∙ n in omega (arith, q)

number_sort : (sorts : Sorts) (l : Literal) (k : ℕ) → IsOfSorts sorts l → IsNumberIn l (suc k) → sorts k ≡ Some Reference → ⊥
number_sort sorts (AtMost x y c) k (inl h) (inl n) r = let q : Reference ≡ Number =
    (subst (IsSort sorts Number) n h.0) Reference r in cc q
number_sort sorts (AtMost x y c) k (inl h) (inr n) r = let q : Reference ≡ Number =
    (subst (IsSort sorts Number) n h.1) Reference r in cc q
number_sort sorts (AtMost x y c) k (inr h) n r = test_sort sorts x y c k h n r
number_sort sorts (Same x y) k h n r = n
number_sort sorts (Differ x y) k h n r = n

pub number_among : (sorts : Sorts) (ls : List Literal) (k : ℕ) → AreOfSorts sorts ls → IsNumberAmong ls (suc k) → sorts k
    ≡ Some Reference → ⊥
unfolding AreOfSorts
number_among sorts [] k h n r = n
number_among sorts (l ∷ ls) k h (inl n) r = number_sort sorts l k h.0 n r
number_among sorts (l ∷ ls) k h (inr n) r = number_among sorts ls k h.1 n r

reference_sort : (sorts : Sorts) (l : Literal) (k : ℕ) → IsOfSorts sorts l → IsReferenceIn l (suc k) → (t : Sort) → sorts k
    ≡ Some t → t ≡ Reference
reference_sort sorts (AtMost x y c) k h n = absurd n
reference_sort sorts (Same x y) k h (inl n) = subst (IsSort sorts Reference) n h.0
reference_sort sorts (Same x y) k h (inr n) = subst (IsSort sorts Reference) n h.1
reference_sort sorts (Differ x y) k h (inl n) = subst (IsSort sorts Reference) n h.0
reference_sort sorts (Differ x y) k h (inr n) = subst (IsSort sorts Reference) n h.1

pub reference_among : (sorts : Sorts) (ls : List Literal) (k : ℕ) → AreOfSorts sorts ls → IsReferenceAmong ls (suc k) → (t : Sort)
    → sorts k ≡ Some t → t ≡ Reference
unfolding AreOfSorts
reference_among sorts [] k h n = absurd n
reference_among sorts (l ∷ ls) k h (inl n) = reference_sort sorts l k h.0 n
reference_among sorts (l ∷ ls) k h (inr n) = reference_among sorts ls k h.1 n

-- where the sorts of all symbols are known, numbers and references are apart
pub sorts_apart : (sorts : Sorts) (ls : List Literal) → ((k : ℕ) → (t : Sort) × (sorts k ≡ Some t)) → AreOfSorts sorts ls
    → AreSortsApart ls
sorts_apart sorts ls all h k n r = let known = all k in
    number_among sorts ls k h n (known.1 ∙ ap Some (reference_among sorts ls k h r known.0 known.1))

-- sorts that were made
pub has_zero : (made : List Sort) (s : Sort) → HasSort made s 0
unfolding HasSort
has_zero made s = tt

pub get_more : {A : Type 0} (xs ys : List A) (k : ℕ) (x : A) → slice_get xs k ≡ Some x → slice_get (xs ++ ys) k ≡ Some x
get_more [] ys k x h = cc h
get_more (z ∷ zs) ys zero x h = h
get_more (z ∷ zs) ys (suc k) x h = get_more zs ys k x h

pub has_more : (made more : List Sort) (s : Sort) (k : ℕ) → HasSort made s k → HasSort (made ++ more) s k
unfolding HasSort
has_more made more s zero h = tt
has_more made more s (suc k) h = get_more made more k s h

last_made : (made : List Sort) (s : Sort) → slice_get (made ++ s ∷ []) (length made) ≡ Some s
last_made [] s = refl
last_made (t ∷ made) s = last_made made s

pub has_made : (made : List Sort) (s : Sort) → HasSort (made ++ s ∷ []) s (length made + 1)
unfolding HasSort
has_made made s = subst (λ (k : ℕ). HasSort (made ++ s ∷ []) s k) (sym (add-one (length made))) (last_made made s)

pub has_front : (made taken : List Sort) (s : Sort) (k : ℕ) → IsFront made taken → HasSort made s k → HasSort taken s k
has_front made taken s k f h = subst (λ (ts : List Sort). HasSort ts s k) (sym f.1) (has_more made f.0 s k h)

-- what was made with a sort has no other
some_same : {A : Type 0} (o : Option A) (a b : A) → o ≡ Some a → o ≡ Some b → a ≡ b
some_same o a b p q = let r : Some a ≡ Some b = sym p ∙ q in cc r

pub has_is : (made taken : List Sort) (s : Sort) (k : ℕ) → IsFront made taken ⊎ IsFront taken made → HasSort made s k
    → IsSort (slice_get taken) s k
unfolding HasSort
has_is made taken s zero f h = tt
has_is made taken s (suc k) (inl f) h = λ t e. some_same (slice_get taken k) t s e
    (subst (λ (ts : List Sort). slice_get ts k ≡ Some s) (sym f.1) (get_more made f.0 k s h))
has_is made taken s (suc k) (inr f) h = λ t e. some_same (slice_get made k) t s
    (subst (λ (ts : List Sort). slice_get ts k ≡ Some t) (sym f.1) (get_more taken f.0 k t e)) h

test_map : (P Q : ℕ → Type 0) (x y : Symbol) (c : ℤ) → ((k : ℕ) → P k → Q k) → IsTest P x y c → IsTest Q x y c
test_map P Q x y c f (inl (z, (e, t))) = inl (z, (e, f y.0 t))
test_map P Q x y c f (inr (z, (e, t))) = inr (z, (e, f x.0 t))

pub literal_is : (made taken : List Sort) (l : Literal) → IsFront made taken ⊎ IsFront taken made → HasSorts made l
    → IsOfSorts (slice_get taken) l
literal_is made taken (AtMost x y c) f (inl h) = inl (has_is made taken Number x.0 f h.0, has_is made taken Number y.0 f h.1)
literal_is made taken (AtMost x y c) f (inr h) =
    inr (test_map (HasSort made Truth) (IsSort (slice_get taken) Truth) x y c (λ k. has_is made taken Truth k f) h)
literal_is made taken (Same x y) f h = (has_is made taken Reference x.0 f h.0, has_is made taken Reference y.0 f h.1)
literal_is made taken (Differ x y) f h = (has_is made taken Reference x.0 f h.0, has_is made taken Reference y.0 f h.1)

-- a symbol of a literal that was made: as a number it isn't a reference's, as a reference it is one's
made_test : (made : List Sort) (x y : Symbol) (c : ℤ) (k : ℕ) → IsTest (HasSort made Truth) x y c → (x.0 ≡ suc k) ⊎ (y.0 ≡ suc k)
    → slice_get made k ≡ Some Truth
unfolding HasSort
made_test made x y c k (inl (z, (e, t))) (inl n) = absurd (let q : 0 ≡ suc k = sym z ∙ n in omega (arith, q))
made_test made x y c k (inl (z, (e, t))) (inr n) = subst (HasSort made Truth) n t
made_test made x y c k (inr (z, (e, t))) (inl n) = subst (HasSort made Truth) n t
made_test made x y c k (inr (z, (e, t))) (inr n) = absurd (let q : 0 ≡ suc k = sym z ∙ n in omega (arith, q))

pub made_number : (made : List Sort) (l : Literal) (k : ℕ) → HasSorts made l → IsNumberIn l (suc k) → (s : Sort)
    × ((slice_get made k ≡ Some s) × (s ≡ Reference → ⊥))
unfolding HasSort
made_number made (AtMost x y c) k (inl h) (inl n) = (Number, (subst (HasSort made Number) n h.0, λ q. cc q))
made_number made (AtMost x y c) k (inl h) (inr n) = (Number, (subst (HasSort made Number) n h.1, λ q. cc q))
made_number made (AtMost x y c) k (inr h) n = (Truth, (made_test made x y c k h n, λ q. cc q))
made_number made (Same x y) k h n = absurd n
made_number made (Differ x y) k h n = absurd n

pub made_reference : (made : List Sort) (l : Literal) (k : ℕ) → HasSorts made l → IsReferenceIn l (suc k) → slice_get made k
    ≡ Some Reference
unfolding HasSort
made_reference made (AtMost x y c) k h n = absurd n
made_reference made (Same x y) k h (inl n) = subst (HasSort made Reference) n h.0
made_reference made (Same x y) k h (inr n) = subst (HasSort made Reference) n h.1
made_reference made (Differ x y) k h (inl n) = subst (HasSort made Reference) n h.0
made_reference made (Differ x y) k h (inr n) = subst (HasSort made Reference) n h.1

-- a literal has its symbols in one place
pub one_place : (l : Literal) (k : ℕ) → IsNumberIn l k → IsReferenceIn l k → ⊥
one_place (AtMost x y c) k n r = r
one_place (Same x y) k n r = n
one_place (Differ x y) k n r = n
