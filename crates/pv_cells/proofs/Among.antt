-- The elements of a range, changed one after the other.
use Rattle.std.proofs.Common.{◌≡◌, ℕ, ℤ, pos, ◌+ℤ◌, ◌≤ℤ◌, Bool, true, false, ◌&&◌, ◌⊎◌, inl, inr, if◌then◌else◌, Option, None, Some, refl, sym, ap, ◌∙◌, arith, rules}
use Rattle.std.specs.Prelude.{nat_eq, int_le, int_lt}
use Rattle.std.proofs.lemmas.Int.{ints}
use Rattle.pv_values.specs.Heaps.{same_number}
use Rattle.pv_ast.specs.declared.PvType.{PvType}
use Rattle.pv_ast.specs.declared.PvType.TheVariants.{Int, Truth, Object, IntArray, TruthArray, Null}
use Rattle.pv_ast.specs.Rules.Typing.{same_type}
use Rattle.pv_picks.specs.Formulas.Values.{within}
use Rattle.pv_picks.specs.Judge.States.{Resource, InField, InElement, OfToken, OfLock, Cell, Holding, same_resource, at_resource, is_among, cell_among}
use Rattle.pv_picks.proofs.Sames.{resources_same}

-- two truths that decide each other are one
one_truth : (x y : Bool) → (x ≡ true → y ≡ true) → (y ≡ true → x ≡ true) → x ≡ y
one_truth true true f g = refl
one_truth true false f g = sym (f refl)
one_truth false true f g = g refl
one_truth false false f g = refl

below_more : (i j : ℤ) → same_number j i ≡ false → int_lt j (i +ℤ pos 1) ≡ int_lt j i
below_more i j e = one_truth (int_lt j (i +ℤ pos 1)) (int_lt j i) (λ h. search (rules, ints)) (λ h. search (rules, ints))

not_below : (i : ℤ) → int_lt i i ≡ false
not_below i = search (rules, ints)

just_below : (i : ℤ) → int_lt i (i +ℤ pos 1) ≡ true
just_below i = search (rules, ints)

last_fails : (x y z w : Bool) → w ≡ false → (x && (y && (z && w))) ≡ false
last_fails false y z w e = refl
last_fails true false z w e = refl
last_fails true true false w e = refl
last_fails true true true w e = e

all_hold : (x y z w : Bool) → x ≡ true → y ≡ true → z ≡ true → w ≡ true → (x && (y && (z && w))) ≡ true
all_hold x y z w e f g h = rw (e, f, g, h) refl

number_self : (n : ℕ) → nat_eq n n ≡ true
number_self n = grind arith

type_self : (t : PvType) → same_type t t ≡ true
type_self Int = refl
type_self Truth = refl
type_self (Object c) = number_self c.0
type_self IntArray = refl
type_self TruthArray = refl
type_self Null = refl

-- what is among the elements up to another one is among those before it, but for that one itself
within_more : (low i j : ℤ) → same_number j i ≡ false → within low (i +ℤ pos 1) j ≡ within low i j
within_more low i j e = ap (λ b. int_le low j && b) (below_more i j e)

among_other : (t : PvType) (a : ℕ) (low i : ℤ) (r : Resource) → same_resource r (InElement t a i) ≡ false
    → is_among t a low (i +ℤ pos 1) r ≡ is_among t a low i r
among_other t a low i (InField c o f) e = refl
among_other t a low i (OfToken k c o) e = refl
among_other t a low i (OfLock c o) e = refl
among_other t a low i (InElement u b j) e = go (same_type u t) (nat_eq b a) e
  where
    go : (x y : Bool) → (x && (y && same_number j i)) ≡ false
        → (x && (y && within low (i +ℤ pos 1) j)) ≡ (x && (y && within low i j))
    go true true e = within_more low i j e
    go true false e = refl
    go false y e = refl

-- it is itself among those up to it, and not among those before it
self_among : (t : PvType) (a : ℕ) (low i : ℤ) → low ≤ℤ i → is_among t a low (i +ℤ pos 1) (InElement t a i) ≡ true
self_among t a low i l =
    let above : int_le low i ≡ true = search (rules, ints) in
    all_hold (same_type t t) (nat_eq a a) (int_le low i) (int_lt i (i +ℤ pos 1)) (type_self t) (number_self a) above
    (just_below i)

not_yet : (t : PvType) (a : ℕ) (low i : ℤ) → is_among t a low i (InElement t a i) ≡ false
not_yet t a low i = last_fails (same_type t t) (nat_eq a a) (int_le low i) (int_lt i i) (not_below i)

pub one_more_put : (t : PvType) (a : ℕ) (low i : ℤ) (F cur old new : Resource → Option Holding) (h : Option Holding)
    → low ≤ℤ i
    → ((r : Resource) → cur r ≡ (if is_among t a low i r then F r else old r))
    → (cur (InElement t a i) ≡ old (InElement t a i) → h ≡ F (InElement t a i))
    → ((r : Resource) → new r ≡ at_resource (InElement t a i) h cur r)
    → (r : Resource) → new r ≡ (if is_among t a low (i +ℤ pos 1) r then F r else old r)
one_more_put t a low i F cur old new h l before is put r = put r ∙ go (same_resource r (InElement t a i)) refl
  where
    here : Resource
    here = InElement t a i

    unchanged : cur here ≡ old here
    unchanged = before here ∙ ap (λ b. if b then F here else old here) (not_yet t a low i)

    go : (b : Bool) → same_resource r here ≡ b
        → (if b then h else cur r) ≡ (if is_among t a low (i +ℤ pos 1) r then F r else old r)
    go true e =
        is unchanged
        ∙ ap (λ b. if b then F here else old here) (sym (self_among t a low i l))
        ∙ ap (λ q. if is_among t a low (i +ℤ pos 1) q then F q else old q) (sym (resources_same r here e))
    go false e = before r ∙ ap (λ b. if b then F r else old r) (sym (among_other t a low i r e))

pub both_parts : (x y : Bool) → (x && y) ≡ true → (x ≡ true) × (y ≡ true)
both_parts true true e = (refl, refl)
both_parts true false e = absurd (cc e)
both_parts false y e = absurd (cc e)

both_from : (x y : Bool) → x ≡ true → y ≡ true → (x && y) ≡ true
both_from x y e f = rw (e, f) refl

-- at the end of a loop over a range the positions before the index are all of them
ended_within : (low i high j : ℤ) → (i ≡ low) ⊎ (i ≤ℤ high) → int_lt i high ≡ false → within low i j ≡ within low high j
ended_within low i high j (inl e) b = one_truth (within low i j) (within low high j)
    (λ h. let p = both_parts (int_le low j) (int_lt j i) h in
    both_from (int_le low j) (int_lt j high) p.0 (let f = p.0 in let g = p.1 in search (rules, ints)))
    (λ h. let p = both_parts (int_le low j) (int_lt j high) h in
    both_from (int_le low j) (int_lt j i) p.0 (let f = p.0 in let g = p.1 in search (rules, ints)))
ended_within low i high j (inr e) b = one_truth (within low i j) (within low high j)
    (λ h. let p = both_parts (int_le low j) (int_lt j i) h in
    both_from (int_le low j) (int_lt j high) p.0 (let f = p.0 in let g = p.1 in search (rules, ints)))
    (λ h. let p = both_parts (int_le low j) (int_lt j high) h in
    both_from (int_le low j) (int_lt j i) p.0 (let f = p.0 in let g = p.1 in search (rules, ints)))

pub ended_among : (t : PvType) (a : ℕ) (low i high : ℤ) (r : Resource) → (i ≡ low) ⊎ (i ≤ℤ high) → int_lt i high ≡ false
    → is_among t a low i r ≡ is_among t a low high r
ended_among t a low i high (InField c o f) e b = refl
ended_among t a low i high (OfToken k c o) e b = refl
ended_among t a low i high (OfLock c o) e b = refl
ended_among t a low i high (InElement u c j) e b =
    ap (λ w. same_type u t && (nat_eq c a && w)) (ended_within low i high j e b)

-- an element that the loop hasn't come to
pub still_old : (t : PvType) (a : ℕ) (low i : ℤ) (F cur old : Resource → Option Holding)
    → ((r : Resource) → cur r ≡ (if is_among t a low i r then F r else old r))
    → cur (InElement t a i) ≡ old (InElement t a i)
still_old t a low i F cur old before =
    before (InElement t a i) ∙ ap (λ b. if b then F (InElement t a i) else old (InElement t a i)) (not_yet t a low i)

-- what an element is given doesn't hang on where the range begins
pub given_alike : (h : Option Holding) (given : ℤ → Cell) (t : PvType) (a : ℕ) (i x y : ℤ)
    → cell_among h given (InElement t a i) x ≡ cell_among h given (InElement t a i) y
given_alike None given t a i x y = refl
given_alike (Some h) given t a i x y = refl
