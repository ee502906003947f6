-- A place in a list of texts is the place of the key whose text it is.
use Rattle.std.proofs.Common.{◌≡◌, Contains, slice_get, get_or, ℕ, suc, ◌+◌, Bool, true, false, not, cond, ltb, ◌||◌, List, [], ◌∷◌, ◌++◌, length, map, Some, None, refl, sym, ap, ◌∙◌, nat_eq, position, is_some, arith}
use Rattle.std.specs.List.{AllByRecursion, IsDistinct, prefix_len, position_or_len, list_any}
use Rattle.std.specs.Cmp.Lexicographic.{pointwise, bytes_decides, nat_list_eq_equiv}
use Rattle.std.proofs.lemmas.Map.Views.{list_any-from_Contains}
use Rattle.std.proofs.lemmas.Option.{slice_get-get_or}
use Rattle.std.proofs.lemmas.List.Quantifiers.{position-Some}
use Rattle.std.proofs.lemmas.List.{length-map, map-append}
use Rattle.std.proofs.lemmas.Bool.{lt-ltb}
use Rattle.std.proofs.lemmas.Bool.Decides.{nat_tests}
use Rattle.indexmap.specs.IndexSet.{insert_key}
use Rattle.pv_names.specs.Numbering.{place_of, with_text}

prefix_len-map : {A B : Type 0} (q : B → Bool) (f : A → B) (xs : List A) → prefix_len q (map f xs) ≡ prefix_len (λ x. q (f x)) xs
prefix_len-map q f [] = refl
prefix_len-map q f (x ∷ xs) = ap (λ n. cond (q (f x)) (1 + n) 0) (prefix_len-map q f xs)

pub position-map : {A B : Type 0} (p : B → Bool) (f : A → B) (xs : List A) → position p (map f xs) ≡ position (λ x. p (f x)) xs
position-map p f xs = rw (prefix_len-map (λ y. not (p y)) f xs, length-map) refl

first_cons : (b c : Bool) (n len : ℕ) → c ≡ ltb n len → (b || c) ≡ ltb (cond (not b) (1 + n) 0) (suc len)
first_cons true c n len e = sym (lt-ltb 0 (suc len) (omega arith))
first_cons false c n len e = e ∙ grind (arith, nat_tests)

-- where the test passes nowhere, no element passes it
list_any-first : {A : Type 0} (p : A → Bool) (xs : List A) → list_any p xs ≡ ltb (position_or_len p xs) (length xs)
list_any-first p [] = refl
list_any-first p (x ∷ xs) = first_cons (p x) (list_any p xs) (position_or_len p xs) (length xs) (list_any-first p xs)

nowhere : (b : Bool) (n : ℕ) → cond b (Some n) None ≡ None → b ≡ false
nowhere true n e = absurd cc
nowhere false n e = refl

-- the texts after the key of a new text went in
pub map-insert_key : {A : Type 0} (f : A → List ℕ) (ks : List A) (k : A) (text : List ℕ) → None ≡ place_of (map f ks) text
    → f k ≡ text
    → map f (insert_key (λ x y. pointwise nat_eq (f x) (f y)) ks k) ≡ with_text (map f ks) text
map-insert_key f ks k text none same =
    let at_keys : position (λ x. pointwise nat_eq (f k) (f x)) ks ≡ None =
    sym (position-map (pointwise nat_eq (f k)) f ks) ∙ ap (λ t. place_of (map f ks) t) same ∙ sym none in
    let absent : list_any (λ x. pointwise nat_eq (f k) (f x)) ks ≡ false =
    list_any-first (λ x. pointwise nat_eq (f k) (f x)) ks
    ∙ nowhere (ltb (position_or_len (λ x. pointwise nat_eq (f k) (f x)) ks) (length ks))
    (position_or_len (λ x. pointwise nat_eq (f k) (f x)) ks) at_keys in
    let left : map f (insert_key (λ x y. pointwise nat_eq (f x) (f y)) ks k) ≡ map f ks ++ text ∷ [] =
    ap (λ b. map f (cond b ks (ks ++ k ∷ []))) absent ∙ map-append f ks (k ∷ []) ∙ ap (λ t. map f ks ++ t ∷ []) same in
    left ∙ sym (ap (λ o. cond (is_some {T = ℕ} o) (map f ks) (map f ks ++ text ∷ [])) (sym none))

-- the text stands at its place
pub slice_get-place : (names : List (List ℕ)) (text : List ℕ) (i : ℕ) → place_of names text ≡ Some i
    → slice_get names i ≡ Some text
slice_get-place names text i e =
    let p = position-Some (pointwise nat_eq text) names i [] e in
    slice_get-get_or names i [] p.0 ∙ ap (λ (t : List ℕ). Some t) (sym ((bytes_decides text (get_or names i [])).0 p.1))

-- a text without a place is not in the list
pub no_place : (names : List (List ℕ)) (text : List ℕ) → place_of names text ≡ None → Contains names text → ⊥
no_place names text e there =
    let none : list_any (pointwise nat_eq text) names ≡ false =
    list_any-first (pointwise nat_eq text) names
    ∙ nowhere (ltb (position_or_len (pointwise nat_eq text) names) (length names))
    (position_or_len (pointwise nat_eq text) names) e in
    let some = list_any-from_Contains nat_list_eq_equiv text names there in
    absurd cc

all-map : {A B : Type 0} (P : B → Type 0) (f : A → B) (xs : List A) → AllByRecursion (λ x. P (f x)) xs
    → AllByRecursion P (map f xs)
all-map P f [] h = tt
all-map P f (x ∷ xs) h = (h.0, all-map P f xs h.1)

-- distinct keys have distinct texts
pub IsDistinct-map : {A B : Type 0} (e : B → B → Bool) (f : A → B) (ks : List A) → IsDistinct (λ x y. e (f x) (f y)) ks
    → IsDistinct e (map f ks)
unfolding IsDistinct
IsDistinct-map e f [] h = tt
IsDistinct-map e f (k ∷ ks) h = (all-map (λ y. e (f k) y ≡ false) f ks h.0, IsDistinct-map e f ks h.1)
