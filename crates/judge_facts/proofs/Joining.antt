-- The arrays to which a chain of facts leads are closed under facts; so the arrays of one fact have the same names.
use Rattle.std.proofs.Common.{◌≡◌, ℕ, zero, suc, ◌+◌, ℤ, Bool, true, false, ◌&&◌, ◌||◌, if◌then◌else◌, List, [], ◌∷◌, ◌++◌, length, refl, ap, sym, subst, ◌∙◌, ◌⊎◌, inl, inr, rules, arith}
use Rattle.std.specs.Prelude.{nat_eq, ◌≤◌}
use Rattle.std.specs.List.{flat_map, list_any}
use Rattle.pv_ast.specs.declared.PvType.{PvType}
use Rattle.pv_ast.specs.declared.PvType.TheVariants as type
use Rattle.pv_ast.specs.Rules.Typing.{same_type}
use Rattle.pv_picks.specs.Judge.Settings.{Event, AtArray, Known}
use Rattle.pv_picks.specs.Lazy.Patterns.{Array, same_array, is_one_of, arrays_in, spread, spread_times, joined_with, ends_on, named_on}
use Rattle.judge_facts.specs.Finite.{IsOneOf}
use Rattle.pv_picks.proofs.Sames.{naturals_same, types_same}

abbrev touches : List Array → List Array → Bool
touches xs ys = list_any (is_one_of xs) ys

pub or_left : (a b : Bool) → a ≡ true → (a || b) ≡ true
or_left true b h = refl
or_left false b h = absurd (cc h)

or_right : (a b : Bool) → b ≡ true → (a || b) ≡ true
or_right true b h = refl
or_right false b h = h

pub or_cases : {P : Type 0} (a b : Bool) → (a || b) ≡ true → (a ≡ true → P) → (b ≡ true → P) → P
or_cases true b h f g = f refl
or_cases false b h f g = g h

in_first : (xs ys : List Array) (a : Array) → is_one_of xs a ≡ true → is_one_of (xs ++ ys) a ≡ true
in_first [] ys a h = absurd (cc h)
in_first (x ∷ xs) ys a h =
    or_cases (same_array a x) (is_one_of xs a) h (λ e. or_left _ _ e) (λ e. or_right (same_array a x) _ (in_first xs ys a e))

in_second : (xs ys : List Array) (a : Array) → is_one_of ys a ≡ true → is_one_of (xs ++ ys) a ≡ true
in_second [] ys a h = h
in_second (x ∷ xs) ys a h = or_right (same_array a x) _ (in_second xs ys a h)

in_either : {P : Type 0} (xs ys : List Array) (a : Array) → is_one_of (xs ++ ys) a ≡ true → (is_one_of xs a ≡ true → P)
    → (is_one_of ys a ≡ true → P) → P
in_either [] ys a h f g = g h
in_either (x ∷ xs) ys a h f g =
    or_cases (same_array a x) (is_one_of (xs ++ ys) a) h (λ e. f (or_left _ _ e))
    (λ e. in_either xs ys a e (λ i. f (or_right (same_array a x) _ i)) g)

touches_more : (xs ys zs : List Array) → ((a : Array) → is_one_of xs a ≡ true → is_one_of ys a ≡ true) → touches xs zs ≡ true
    → touches ys zs ≡ true
touches_more xs ys [] h k = absurd (cc k)
touches_more xs ys (z ∷ zs) h k =
    or_cases (is_one_of xs z) (touches xs zs) k (λ e. or_left _ _ (h z e))
    (λ e. or_right (is_one_of ys z) _ (touches_more xs ys zs h e))

-- a fact that touches is in whole
abbrev pub Closed : List Known → List Array → Type 0
Closed ks ys =
    (k : Known) → IsOneOf k ks → touches ys (arrays_in k) ≡ true → (a : Array) → is_one_of (arrays_in k) a ≡ true
    → is_one_of ys a ≡ true

-- a round keeps what is in, and stays in what is closed
spread_more : (ks : List Known) (xs : List Array) (a : Array) → is_one_of xs a ≡ true → is_one_of (spread ks xs) a ≡ true
spread_more [] xs a h = h
spread_more (k ∷ ks) xs a h =
    go (touches xs (arrays_in k)) (spread_more ks xs a h) (spread_more ks (arrays_in k ++ xs) a (in_second (arrays_in k) xs a h))
  where
    go : (b : Bool) → is_one_of (spread ks xs) a ≡ true → is_one_of (spread ks (arrays_in k ++ xs)) a ≡ true
        → is_one_of (if b then spread ks (arrays_in k ++ xs) else spread ks xs) a ≡ true
    go true f g = g
    go false f g = f

spread_inside : (ks : List Known) (xs ys : List Array) → ((a : Array) → is_one_of xs a ≡ true → is_one_of ys a ≡ true)
    → Closed ks ys → (a : Array) → is_one_of (spread ks xs) a ≡ true → is_one_of ys a ≡ true
spread_inside [] xs ys h c a i = h a i
spread_inside (k ∷ ks) xs ys h c a i =
    go (touches xs (arrays_in k)) refl (spread_inside ks xs ys h (λ j m. c j (inr m)) a)
    (λ f. spread_inside ks (arrays_in k ++ xs) ys f (λ j m. c j (inr m)) a) i
  where
    go : (b : Bool) → touches xs (arrays_in k) ≡ b → (is_one_of (spread ks xs) a ≡ true → is_one_of ys a ≡ true)
        → (((x : Array) → is_one_of (arrays_in k ++ xs) x ≡ true → is_one_of ys x ≡ true)
        → is_one_of (spread ks (arrays_in k ++ xs)) a ≡ true → is_one_of ys a ≡ true)
        → is_one_of (if b then spread ks (arrays_in k ++ xs) else spread ks xs) a ≡ true → is_one_of ys a ≡ true
    go true e f g i = g (λ x j. in_either (arrays_in k) xs x j (c k (inl refl) (touches_more xs ys (arrays_in k) h e) x) (h x)) i
    go false e f g i = f i

pub times_more : (n : ℕ) (ks : List Known) (xs : List Array) (a : Array) → is_one_of xs a ≡ true
    → is_one_of (spread_times n ks xs) a ≡ true
times_more zero ks xs a h = h
times_more (suc n) ks xs a h = times_more n ks (spread ks xs) a (spread_more ks xs a h)

pub times_inside : (n : ℕ) (ks : List Known) (xs ys : List Array) → ((a : Array) → is_one_of xs a ≡ true → is_one_of ys a ≡ true)
    → Closed ks ys → (a : Array) → is_one_of (spread_times n ks xs) a ≡ true → is_one_of ys a ≡ true
times_inside zero ks xs ys h c a i = h a i
times_inside (suc n) ks xs ys h c a i = times_inside n ks (spread ks xs) ys (spread_inside ks xs ys h c) c a i

-- a round takes in each fact that touches
touched_in : (ks : List Known) (xs : List Array) (k : Known) → IsOneOf k ks → touches xs (arrays_in k) ≡ true → (a : Array)
    → is_one_of (arrays_in k) a ≡ true → is_one_of (spread ks xs) a ≡ true
touched_in [] xs k i t a h = absurd i
touched_in (j ∷ ks) xs k (inl e) t a h =
    go (touches xs (arrays_in j)) (subst (λ (z : Known). touches xs (arrays_in z) ≡ true) e t)
  where
    go : (b : Bool) → b ≡ true → is_one_of (if b then spread ks (arrays_in j ++ xs) else spread ks xs) a ≡ true
    go true f = spread_more ks (arrays_in j ++ xs) a
        (in_first (arrays_in j) xs a (subst (λ (z : Known). is_one_of (arrays_in z) a ≡ true) e h))
    go false f = absurd (cc f)
touched_in (j ∷ ks) xs k (inr i) t a h =
    go (touches xs (arrays_in j)) (touched_in ks xs k i t a h)
    (touched_in ks (arrays_in j ++ xs) k i (touches_more xs (arrays_in j ++ xs) (arrays_in k) (in_second (arrays_in j) xs) t) a h)
  where
    go : (b : Bool) → is_one_of (spread ks xs) a ≡ true → is_one_of (spread ks (arrays_in j ++ xs)) a ≡ true
        → is_one_of (if b then spread ks (arrays_in j ++ xs) else spread ks xs) a ≡ true
    go true f g = g
    go false f g = f

-- How many facts aren't in

abbrev holds : List Array → List Array → Bool
holds xs [] = true
holds xs (y ∷ ys) = is_one_of xs y && holds xs ys

abbrev one_unless : Bool → ℕ
one_unless true = 0
one_unless false = 1

abbrev missing : List Known → List Array → ℕ
missing [] xs = 0
missing (k ∷ ks) xs = one_unless (holds xs (arrays_in k)) + missing ks xs

and_first : (a b : Bool) → (a && b) ≡ true → a ≡ true
and_first true b h = refl
and_first false b h = absurd (cc h)

and_second : (a b : Bool) → (a && b) ≡ true → b ≡ true
and_second true b h = h
and_second false b h = absurd (cc h)

and_both : (a b : Bool) → a ≡ true → b ≡ true → (a && b) ≡ true
and_both true b h k = k
and_both false b h k = absurd (cc h)

holds_more : (xs ys zs : List Array) → ((a : Array) → is_one_of xs a ≡ true → is_one_of ys a ≡ true) → holds xs zs ≡ true
    → holds ys zs ≡ true
holds_more xs ys [] h k = refl
holds_more xs ys (z ∷ zs) h k = and_both _ _ (h z (and_first _ _ k)) (holds_more xs ys zs h (and_second (is_one_of xs z) _ k))

one_more : (b c : Bool) (m n : ℕ) → (b ≡ true → c ≡ true) → m ≤ n → (one_unless c + m) ≤ (one_unless b + n)
one_more true true m n h k = omega (arith, k)
one_more true false m n h k = absurd (cc (h refl))
one_more false true m n h k = omega (arith, k)
one_more false false m n h k = omega (arith, k)

missing_less : (ks : List Known) (xs ys : List Array) → ((a : Array) → is_one_of xs a ≡ true → is_one_of ys a ≡ true)
    → missing ks ys ≤ missing ks xs
missing_less [] xs ys h = omega (arith)
missing_less (k ∷ ks) xs ys h =
    one_more (holds xs (arrays_in k)) (holds ys (arrays_in k)) (missing ks ys) (missing ks xs) (holds_more xs ys (arrays_in k) h)
    (missing_less ks xs ys h)

-- where no fact came in, each that is in was in
none_came : (b c : Bool) (m n : ℕ) → (b ≡ true → c ≡ true) → m ≤ n → (one_unless b + n) ≤ (one_unless c + m) → c ≡ true
    → (b ≡ true) × (n ≤ m)
none_came true true m n h k l e = (refl, omega (arith, l))
none_came false true m n h k l e = absurd (omega (arith, k, l))
none_came b false m n h k l e = absurd (cc e)

none_else : (b c : Bool) (m n : ℕ) → (b ≡ true → c ≡ true) → m ≤ n → (one_unless b + n) ≤ (one_unless c + m) → n ≤ m
none_else true true m n h k l = omega (arith, l)
none_else true false m n h k l = absurd (cc (h refl))
none_else false true m n h k l = omega (arith, k, l)
none_else false false m n h k l = omega (arith, l)

was_in : (ks : List Known) (xs ys : List Array) → ((a : Array) → is_one_of xs a ≡ true → is_one_of ys a ≡ true)
    → missing ks xs ≤ missing ks ys
    → (k : Known) → IsOneOf k ks → holds ys (arrays_in k) ≡ true → holds xs (arrays_in k) ≡ true
was_in [] xs ys h l k i e = absurd i
was_in (j ∷ ks) xs ys h l k (inl f) e =
    subst (λ (z : Known). holds xs (arrays_in z) ≡ true) (sym f)
    (none_came (holds xs (arrays_in j)) (holds ys (arrays_in j)) (missing ks ys) (missing ks xs)
    (holds_more xs ys (arrays_in j) h) (missing_less ks xs ys h) l (subst (λ (z : Known). holds ys (arrays_in z) ≡ true) f e)).0
was_in (j ∷ ks) xs ys h l k (inr i) e =
    was_in ks xs ys h
    (none_else (holds xs (arrays_in j)) (holds ys (arrays_in j)) (missing ks ys) (missing ks xs)
    (holds_more xs ys (arrays_in j) h) (missing_less ks xs ys h) l) k i e

none_missing : (ks : List Known) (xs : List Array) → missing ks xs ≤ 0 → (k : Known) → IsOneOf k ks
    → holds xs (arrays_in k) ≡ true
none_missing [] xs l k i = absurd i
none_missing (j ∷ ks) xs l k i = go (holds xs (arrays_in j)) refl l i (none_missing ks xs)
  where
    go : (b : Bool) → holds xs (arrays_in j) ≡ b → (one_unless b + missing ks xs) ≤ 0 → (k ≡ j) ⊎ IsOneOf k ks
        → (missing ks xs ≤ 0 → (l : Known) → IsOneOf l ks → holds xs (arrays_in l) ≡ true) → holds xs (arrays_in k) ≡ true
    go true e l (inl f) w = subst (λ (z : Known). holds xs (arrays_in z) ≡ true) (sym f) e
    go true e l (inr i) w = w (omega (arith, l)) k i
    go false e l i w = absurd (omega (arith, l))

-- Arrays and lists of them

naturals : (n : ℕ) → nat_eq n n ≡ true
naturals n = search (rules)

types : (t : PvType) → same_type t t ≡ true
types type.Int = refl
types type.Truth = refl
types (type.Object c) = naturals c.0
types type.IntArray = refl
types type.TruthArray = refl
types type.Null = refl

pub array_itself : (a : Array) → same_array a a ≡ true
array_itself a = and_both _ _ (types a.0) (naturals a.1)

is_in : (xs : List Array) (a : Array) → IsOneOf a xs → is_one_of xs a ≡ true
is_in [] a h = absurd h
is_in (x ∷ xs) a (inl e) = or_left _ _ (subst (λ (z : Array). same_array a z ≡ true) e (array_itself a))
is_in (x ∷ xs) a (inr h) = or_right (same_array a x) _ (is_in xs a h)

all_held : (xs ys : List Array) → ((a : Array) → is_one_of ys a ≡ true → is_one_of xs a ≡ true) → holds xs ys ≡ true
all_held xs [] h = refl
all_held xs (y ∷ ys) h =
    and_both _ _ (h y (or_left _ _ (array_itself y))) (all_held xs ys (λ a i. h a (or_right (same_array a y) _ i)))

pub arrays_same : (a b : Array) → same_array a b ≡ true → a ≡ b
arrays_same a b h =
    ap (λ (t : PvType). (t, a.1)) (types_same a.0 b.0 (and_first _ _ h))
    ∙ ap (λ (n : ℕ). (b.0, n)) (naturals_same a.1 b.1 (and_second (same_type a.0 b.0) _ h))

held_each : (xs ys : List Array) → holds xs ys ≡ true → (a : Array) → is_one_of ys a ≡ true → is_one_of xs a ≡ true
held_each xs [] h a i = absurd (cc i)
held_each xs (y ∷ ys) h a i = or_cases (same_array a y) (is_one_of ys a) i
    (λ e. subst (λ (z : Array). is_one_of xs z ≡ true) (sym (arrays_same a y e)) (and_first _ _ h))
    (λ e. held_each xs ys (and_second (is_one_of xs y) _ h) a e)

le_or : (a b : ℕ) → (a ≤ b) ⊎ (suc b ≤ a)
le_or zero b = inl (omega (arith))
le_or (suc a) zero = inr (omega (arith))
le_or (suc a) (suc b) = elim (le_or a b) [ inl h ↦ inl (omega (arith, h)) | inr h ↦ inr (omega (arith, h)) ]

closed_times : (n : ℕ) (ks : List Known) (xs : List Array) → missing ks xs ≤ n → Closed ks (spread_times n ks xs)
closed_times zero ks xs l = λ k i t a h. held_each xs (arrays_in k) (none_missing ks xs l k i) a h
closed_times (suc n) ks xs l = elim (le_or (missing ks (spread ks xs)) n) [
  | inl h ↦ closed_times n ks (spread ks xs) h
  | inr h ↦ (let all : Closed ks xs = λ k i t a j. held_each xs (arrays_in k)
      (was_in ks xs (spread ks xs) (spread_more ks xs) (omega (arith, l, h)) k i
      (all_held (spread ks xs) (arrays_in k) (touched_in ks xs k i t))) a j in
      λ k i t a j. times_more (suc n) ks xs a (all k i
      (touches_more (spread_times (suc n) ks xs) xs (arrays_in k) (times_inside (suc n) ks xs xs (λ x m. m) all) t) a j))
]

missing_at_most : (ks : List Known) (xs : List Array) → missing ks xs ≤ length ks
missing_at_most [] xs = omega (arith)
missing_at_most (k ∷ ks) xs = go (holds xs (arrays_in k)) (missing_at_most ks xs)
  where
    go : (b : Bool) → missing ks xs ≤ length ks → (one_unless b + missing ks xs) ≤ suc (length ks)
    go true h = omega (arith, h)
    go false h = omega (arith, h)

pub joined_closed : (ks : List Known) (a : Array) → Closed ks (joined_with ks a)
joined_closed ks a = closed_times (length ks) ks (a ∷ []) (missing_at_most ks (a ∷ []))

touching : (xs ys : List Array) (a : Array) → is_one_of xs a ≡ true → IsOneOf a ys → touches xs ys ≡ true
touching xs [] a h i = absurd i
touching xs (y ∷ ys) a h (inl e) = or_left _ _ (subst (λ (z : Array). is_one_of xs z ≡ true) e h)
touching xs (y ∷ ys) a h (inr i) = or_right (is_one_of xs y) _ (touching xs ys a h i)

-- the arrays of one fact lead to the same arrays
joined_same : (ks : List Known) (k : Known) → IsOneOf k ks → (a b : Array) → IsOneOf a (arrays_in k) → IsOneOf b (arrays_in k)
    → (x : Array) → is_one_of (joined_with ks a) x ≡ true → is_one_of (joined_with ks b) x ≡ true
joined_same ks k there a b i j x h =
    let itself : is_one_of (joined_with ks b) b ≡ true = times_more (length ks) ks (b ∷ []) b (or_left _ _ (array_itself b)) in
    let other : is_one_of (joined_with ks b) a ≡ true =
    joined_closed ks b k there (touching (joined_with ks b) (arrays_in k) b itself j) a (is_in (arrays_in k) a i) in
    times_inside (length ks) ks (a ∷ []) (joined_with ks b)
    (λ y m. or_cases (same_array y a) false m
    (λ e. subst (λ (z : Array). is_one_of (joined_with ks b) z ≡ true) (sym (arrays_same y a e)) other) (λ e. absurd (cc e)))
    (joined_closed ks b) x h

pub in_front : (z : ℤ) (xs ys : List ℤ) → IsOneOf z xs → IsOneOf z (xs ++ ys)
in_front z [] ys h = absurd h
in_front z (x ∷ xs) ys (inl e) = inl e
in_front z (x ∷ xs) ys (inr h) = inr (in_front z xs ys h)

pub in_back : (z : ℤ) (xs ys : List ℤ) → IsOneOf z ys → IsOneOf z (xs ++ ys)
in_back z [] ys h = h
in_back z (x ∷ xs) ys h = inr (in_back z xs ys h)

pub in_two : (z : ℤ) (xs ys : List ℤ) → IsOneOf z (xs ++ ys) → IsOneOf z xs ⊎ IsOneOf z ys
in_two z [] ys h = inr h
in_two z (x ∷ xs) ys (inl e) = inl (inl e)
in_two z (x ∷ xs) ys (inr h) = elim (in_two z xs ys h) [ inl i ↦ inl (inr i) | inr i ↦ inr i ]

ends_more : (xs ys : List Array) → ((x : Array) → is_one_of xs x ≡ true → is_one_of ys x ≡ true) → (e : Event) (z : ℤ)
    → IsOneOf z (ends_on xs e) → IsOneOf z (ends_on ys e)
ends_more xs ys h (AtArray t a ends) z i = go (is_one_of xs (t, a)) (is_one_of ys (t, a)) (h (t, a)) i
  where
    go : (b c : Bool) → (b ≡ true → c ≡ true) → IsOneOf z (if b then ends else []) → IsOneOf z (if c then ends else [])
    go true true h i = i
    go true false h i = absurd (cc (h refl))
    go false c h i = absurd i
ends_more xs ys h e z i = absurd i

pub named_more : (xs ys : List Array) → ((x : Array) → is_one_of xs x ≡ true → is_one_of ys x ≡ true) → (es : List Event) (z : ℤ)
    → IsOneOf z (flat_map (ends_on xs) es) → IsOneOf z (flat_map (ends_on ys) es)
named_more xs ys h [] z i = absurd i
named_more xs ys h (e ∷ es) z i = elim (in_two z (ends_on xs e) (flat_map (ends_on xs) es) i) [
  | inl j ↦ in_front z (ends_on ys e) (flat_map (ends_on ys) es) (ends_more xs ys h e z j)
  | inr j ↦ in_back z (ends_on ys e) (flat_map (ends_on ys) es) (named_more xs ys h es z j)
]

-- the arrays of one fact have the same names
pub names_meet : (ks : List Known) (es : List Event) (k : Known) → IsOneOf k ks → (a b : Array) → IsOneOf a (arrays_in k)
    → IsOneOf b (arrays_in k) → (z : ℤ) → IsOneOf z (named_on ks es a) → IsOneOf z (named_on ks es b)
names_meet ks es k there a b i j z h = named_more (joined_with ks a) (joined_with ks b) (joined_same ks k there a b i j) es z h
