-- Tests of sameness, of ranges and of amounts.
use Rattle.std.proofs.Common.{◌≡◌, ℕ, zero, suc, ◌+◌, ◌≤◌, ℤ, pos, negsuc, Bool, true, false, ◌&&◌, if◌then◌else◌, refl, ap, sym, subst, ◌∙◌, arith, rules}
use Rattle.std.specs.Prelude.{nat_eq, nat_le, int_le, int_lt, ◌+ℤ◌, ◌-ℤ◌}
use Rattle.std.proofs.lemmas.Int.{ints}
use Rattle.pv_base.specs.declared.Name.{Name}
use Rattle.pv_ast.specs.declared.PvType.{PvType}
use Rattle.pv_ast.specs.declared.PvType.TheVariants as type
use Rattle.pv_ast.specs.declared.Token.{Token}
use Rattle.pv_ast.specs.declared.Token.TheVariants as token
use Rattle.pv_values.specs.Heaps.{same_number}
use Rattle.pv_base.specs.Names.{same_name}
use Rattle.pv_picks.specs.Formulas.Values.{within, or_zero, width, is_empty}
use Rattle.pv_ast.specs.Rules.Typing.{same_type}
use Rattle.pv_picks.specs.Judge.States.{Resource, InField, InElement, OfToken, OfLock, same_token, same_resource, at_resource, is_among}
use Rattle.pv_picks.specs.Judge.Permissions.{at_all}
use Rattle.account_formulas.specs.Owning.{Amounts}
use Rattle.pv_picks.proofs.Sames.{numbers_same, resources_same, front, back, types_same, naturals_same}

pub nat_self : (n : ℕ) → nat_eq n n ≡ true
nat_self n = search (rules)

pub number_self : (z : ℤ) → same_number z z ≡ true
number_self z = search (rules, ints)

name_self : (n : Name) → same_name n n ≡ true
name_self n = nat_self n.0

pub type_self : (t : PvType) → same_type t t ≡ true
type_self type.Int = refl
type_self type.Truth = refl
type_self (type.Object c) = name_self c
type_self type.IntArray = refl
type_self type.TruthArray = refl
type_self type.Null = refl

token_self : (t : Token) → same_token t t ≡ true
token_self token.Idle = refl
token_self token.Running = refl
token_self token.Committed = refl
token_self token.Uncommitted = refl

pub both : (a b : Bool) → a ≡ true → b ≡ true → (a && b) ≡ true
both true b h k = k
both false b h k = cc h

pub same_self : (r : Resource) → same_resource r r ≡ true
same_self (InField c o f) = both _ _ (name_self c) (both _ _ (nat_self o) (name_self f))
same_self (InElement t a i) = both _ _ (type_self t) (both _ _ (nat_self a) (number_self i))
same_self (OfToken t c o) = both _ _ (token_self t) (both _ _ (name_self c) (nat_self o))
same_self (OfLock c o) = both _ _ (name_self c) (nat_self o)

pub at_most : (a b : ℕ) → nat_le a b ≡ true → a ≤ b
at_most a b h = search (rules)

pub is_at_most : (a b : ℕ) → a ≤ b → nat_le a b ≡ true
is_at_most a b h = search (rules)

-- so much of one resource
abbrev pub only : Resource → ℕ → Amounts
only r a = at_resource r a (λ q. 0)

pub only_self : (r : Resource) (a : ℕ) → only r a r ≡ a
only_self r a = ap (λ b. if b then a else 0) (same_self r)

-- another amount at one resource
pub changed : (A : Amounts) (r : Resource) (b c : ℕ) → b + c ≡ A r → (q : Resource) → at_resource r b A q + only r c q ≤ A q
changed A r b c e q = go (same_resource q r) refl
  where
    go : (t : Bool) → same_resource q r ≡ t → (if t then b else A q) + (if t then c else 0) ≤ A q
    go true h = let same = ap A (resources_same q r h) in omega (arith, same)
    go false h = omega arith

pub less_at : (A : Amounts) (r : Resource) (b : ℕ) → b ≤ A r → (q : Resource) → at_resource r b A q ≤ A q
less_at A r b e q = go (same_resource q r) refl
  where
    go : (t : Bool) → same_resource q r ≡ t → (if t then b else A q) ≤ A q
    go true h = let same = ap A (resources_same q r h) in omega (arith, same)
    go false h = omega arith

-- Ranges

-- what isn't false is true
pub not_false : (b : Bool) → (b ≡ false → ⊥) → b ≡ true
not_false true f = refl
not_false false f = absurd (f refl)

pub above : (low i : ℤ) → int_le low i ≡ true → same_number i low ≡ false → int_le (low +ℤ pos 1) i ≡ true
above low i h e = go (int_le (low +ℤ pos 1) i) refl
  where
    go : (b : Bool) → int_le (low +ℤ pos 1) i ≡ b → b ≡ true
    go true k = refl
    go false k =
        let same : i ≡ low = omega (arith, ints) in let t =
        subst (λ z. same_number i z ≡ true) same (number_self i) in absurd (cc (t, e))

pub at_all_at : (test : ℤ → Bool) (n : ℕ) (low i : ℤ) → at_all test low n ≡ true → int_le low i ≡ true → int_lt i (low +ℤ pos n)
    ≡ true → test i ≡ true
at_all_at test zero low i all h k = absurd (omega (arith, ints))
at_all_at test (suc n) low i all h k =
    go (λ e. at_all_at test n (low +ℤ pos 1) i (back (test low) _ all) (above low i h e)
    (not_false (int_lt i (low +ℤ pos 1 +ℤ pos n)) (λ z. omega (arith, ints)))) (same_number i low) refl
  where
    go : (same_number i low ≡ false → test i ≡ true) → (b : Bool) → same_number i low ≡ b → test i ≡ true
    go later true e = subst (λ z. test z ≡ true) (sym (numbers_same i low e)) (front (test low) _ all)
    go later false e = later e

pub in_width : (low high i : ℤ) → within low high i ≡ true → int_lt i (low +ℤ pos (width low high)) ≡ true
in_width low high i h = go (high -ℤ low) refl
  where
    go : (d : ℤ) → high -ℤ low ≡ d → int_lt i (low +ℤ pos (or_zero d)) ≡ true
    go (pos n) e =
        let a = front (int_le low i) (int_lt i high) h in let b =
        back (int_le low i) (int_lt i high) h in not_false (int_lt i (low +ℤ pos n)) (λ z. omega (arith, ints))
    go (negsuc n) e =
        let a = front (int_le low i) (int_lt i high) h in let b =
        back (int_le low i) (int_lt i high) h in absurd (omega (arith, ints))

-- a test of a range at a position of it
pub at_each_of : (test : ℤ → Bool) (low high i : ℤ) → at_all test low (width low high) ≡ true → within low high i ≡ true → test i
    ≡ true
at_each_of test low high i all h =
    at_all_at test (width low high) low i all (front (int_le low i) (int_lt i high) h) (in_width low high i h)

-- the end is no position
pub not_its_end : (low high : ℤ) → within low high high ≡ false
not_its_end low high = go (int_le low high) (int_lt high high) refl
  where
    go : (a b : Bool) → int_lt high high ≡ b → (a && b) ≡ false
    go true true e = absurd (omega (arith, ints))
    go true false e = refl
    go false b e = refl

-- what is among the elements of a range has what each of them has
pub among_enough : (A : Amounts) (type : PvType) (array : ℕ) (low high : ℤ) (amount : ℕ)
    → at_all (λ i. nat_le amount (A (InElement type array i))) low (width low high) ≡ true
    → (q : Resource) → is_among type array low high q ≡ true → amount ≤ A q
among_enough A type array low high amount all (InField c o f) is = absurd (cc is)
among_enough A type array low high amount all (OfToken t c o) is = absurd (cc is)
among_enough A type array low high amount all (OfLock c o) is = absurd (cc is)
among_enough A type array low high amount all (InElement t a i) is =
    let one : t ≡ type = types_same t type (front _ _ is) in
    let more = back (same_type t type) _ is in
    let two : a ≡ array = naturals_same a array (front _ _ more) in
    let here =
    at_most _ _ (at_each_of (λ i. nat_le amount (A (InElement type array i))) low high i all (back (nat_eq a array) _ more))
    in
    subst (λ x. amount ≤ A (InElement x a i)) (sym one) (subst (λ x. amount ≤ A (InElement type x i)) (sym two) here)

pub is_in : (type : PvType) (array : ℕ) (low high i : ℤ) → within low high i ≡ true
    → is_among type array low high (InElement type array i) ≡ true
is_in type array low high i h = both _ _ (type_self type) (both _ _ (nat_self array) h)

-- a test at all positions, from each
pub each_at_all : (test : ℤ → Bool) (n : ℕ) (low : ℤ)
    → ((i : ℤ) → int_le low i ≡ true → int_lt i (low +ℤ pos n) ≡ true → test i ≡ true) → at_all test low n ≡ true
each_at_all test zero low f = refl
each_at_all test (suc n) low f = both (test low) (at_all test (low +ℤ pos 1) n)
    (f low (not_false (int_le low low) (λ z. omega (arith, ints)))
    (not_false (int_lt low (low +ℤ pos (suc n))) (λ z. omega (arith, ints))))
    (each_at_all test n (low +ℤ pos 1) (λ i a b. f i (not_false (int_le low i) (λ z. omega (arith, ints)))
    (not_false (int_lt i (low +ℤ pos (suc n))) (λ z. omega (arith, ints)))))

-- where a range isn't empty, its width leads to its end
pub is_within : (low high i : ℤ) → is_empty low high ≡ false → int_le low i ≡ true → int_lt i (low +ℤ pos (width low high)) ≡ true
    → within low high i ≡ true
is_within low high i full a b = both _ _ a (go (high -ℤ low) refl b)
  where
    go : (d : ℤ) → high -ℤ low ≡ d → int_lt i (low +ℤ pos (or_zero d)) ≡ true → int_lt i high ≡ true
    go (pos n) e k = not_false (int_lt i high) (λ z. omega (arith, ints))
    go (negsuc n) e k = absurd (omega (arith, ints))

pub at_all_each : (test : ℤ → Bool) (low high : ℤ) → is_empty low high ≡ false
    → ((i : ℤ) → within low high i ≡ true → test i ≡ true) → at_all test low (width low high) ≡ true
at_all_each test low high full f = each_at_all test (width low high) low (λ i a b. f i (is_within low high i full a b))

-- the first and the last position
pub first_within : (low high : ℤ) → is_empty low high ≡ false → within low high low ≡ true
first_within low high full =
    both _ _ (not_false (int_le low low) (λ z. omega (arith, ints))) (not_false (int_lt low high) (λ z. omega (arith, ints)))

pub last_within : (low high : ℤ) → is_empty low high ≡ false → within low high (high -ℤ pos 1) ≡ true
last_within low high full =
    both _ _ (not_false (int_le low (high -ℤ pos 1)) (λ z. omega (arith, ints)))
    (not_false (int_lt (high -ℤ pos 1) high) (λ z. omega (arith, ints)))

-- a range that is moved
pub moved_full : (low high shift : ℤ) → is_empty low high ≡ false → is_empty (low +ℤ shift) (high +ℤ shift) ≡ false
moved_full low high shift full = go (int_le (high +ℤ shift) (low +ℤ shift)) refl
  where
    go : (b : Bool) → int_le (high +ℤ shift) (low +ℤ shift) ≡ b → b ≡ false
    go true e = absurd (omega (arith, ints))
    go false e = refl

-- the index of an element of a range
pub among_index : (type : PvType) (array : ℕ) (low high : ℤ) (q : Resource) → is_among type array low high q ≡ true
    → (i : ℤ) × (within low high i ≡ true) × (q ≡ InElement type array i)
among_index type array low high (InField c o f) is = absurd (cc is)
among_index type array low high (OfToken t c o) is = absurd (cc is)
among_index type array low high (OfLock c o) is = absurd (cc is)
among_index type array low high (InElement t a i) is =
    let one : t ≡ type = types_same t type (front _ _ is) in
    let more = back (same_type t type) _ is in
    let two : a ≡ array = naturals_same a array (front _ _ more) in
    (i, back (nat_eq a array) _ more, ap (λ x. InElement x a i) one ∙ ap (λ x. InElement type x i) two)
