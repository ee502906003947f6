-- Ranges of one position: guards leave them or take them away, and their elements are one.
use Rattle.std.proofs.Common.{◌≡◌, ℕ, ◌-◌, ℤ, pos, ◌+ℤ◌, ◌-ℤ◌, Bool, true, false, ◌&&◌, Option, List, refl, sym, ◌∙◌, ap, subst, arith, rules}
use Rattle.std.proofs.Math.Path.{fun_ext}
use Rattle.std.proofs.lemmas.Int.{ints, clamps}
use Rattle.std.proofs.lemmas.Bool.{and_parts, and_from, eqb-true}
use Rattle.std.specs.Prelude.{int_le, int_lt, nat_eq, nat_le, if◌then◌else◌}
use Rattle.pv_ast.specs.declared.PvType.{PvType}
use Rattle.pv_values.specs.declared.value.Value.{Value}
use Rattle.pv_values.specs.Heaps.{same_number}
use Rattle.pv_picks.specs.declared.evidence.Entry.{Entry}
use Rattle.pv_picks.specs.Plain.Core.{Cut}
use Rattle.pv_picks.specs.Plain.Core as core
use Rattle.pv_picks.specs.Formulas.Values.{truth_in, within, is_empty, or_zero, width}
use Rattle.pv_ast.specs.Rules.Typing.{same_type}
use Rattle.pv_picks.specs.Formulas.Meeting.{passes}
use Rattle.pv_picks.specs.Judge.States.{State, Holding, Resource, InField, InElement, OfToken, OfLock, same_resource, amount_of, cell_held, holding, is_among, with_amount, without_range}
use Rattle.pv_picks.specs.Judge.Settings.{Next}
use Rattle.pv_picks.specs.Judge.Permissions.{at_all, has_each, give, give_range}
use Rattle.pv_picks.specs.Judge.Repetitions.{Range, range_of, cut_by}
use Rattle.pv_picks.specs.Judge.Runs.{Judged, Maps, judging}
use Rattle.core_sharing.proofs.Following.{same_types}

pub record IsOne (y : Range) (i : ℤ) : Type 0 where
  pub low : y.low ≡ i
  pub high : y.high ≡ i +ℤ pos 1

pub not_false : (b : Bool) → (b ≡ false → ⊥) → b ≡ true
not_false true f = refl
not_false false f = absurd (f refl)

not_true : (b : Bool) → (b ≡ true → ⊥) → b ≡ false
not_true true f = absurd (f refl)
not_true false f = refl

pub same_bool : (a b : Bool) → (a ≡ true → b ≡ true) → (b ≡ true → a ≡ true) → a ≡ b
same_bool true b h k = sym (h refl)
same_bool false true h k = k refl
same_bool false false h k = refl

pub number_self : (a : ℤ) → same_number a a ≡ true
number_self a = search (rules, ints)

pub numbers_same : (a b : ℤ) → same_number a b ≡ true → a ≡ b
numbers_same a b h = search (rules, ints)

pub one_is : (y : Range) (i j : ℤ) → IsOne y i → within y.low y.high j ≡ true → j ≡ i
one_is y i j one w =
    let two = and_parts (int_le y.low j) (int_lt j y.high) w in
    let a = two.0 in
    let b = two.1 in
    let c = one.low in
    let d = one.high in omega (arith, ints)

pub one_within : (y : Range) (i : ℤ) → IsOne y i → within y.low y.high i ≡ true
one_within y i one =
    let c = one.low in
    let d = one.high in
    and_from _ _ (not_false (int_le y.low i) (λ z. omega (arith, ints))) (not_false (int_lt i y.high) (λ z. omega (arith, ints)))

pub one_full : (y : Range) (i : ℤ) → IsOne y i → is_empty y.low y.high ≡ false
one_full y i one =
    let c = one.low in
    let d = one.high in not_true (int_le y.high y.low) (λ z. omega (arith, ints))

pub range_one : (i : ℤ) → IsOne (range_of i (i +ℤ pos 1)) i
range_one i = record { low = refl; high = refl }

pub cut_one : (k : Cut) (v : Value) (y : Range) (i : ℤ) → IsOne y i → passes k i v ≡ true → IsOne (cut_by k v y) i
cut_one (core.Below e) v y i one h = let d = one.high in record { low = one.low; high = omega (arith, ints, clamps) }
cut_one (core.UpTo e) v y i one h = let d = one.high in record { low = one.low; high = omega (arith, ints, clamps) }
cut_one (core.Above e) v y i one h = let d = one.low in record { low = omega (arith, ints, clamps); high = one.high }
cut_one (core.From e) v y i one h = let d = one.low in record { low = omega (arith, ints, clamps); high = one.high }
cut_one (core.Provided e) v y i one h = go (truth_in v) h
  where
    go : (b : Bool) → b ≡ true → IsOne (if b then y else record y { high = y.low }) i
    go true e = one
    go false e = absurd (cc e)

pub cut_none : (k : Cut) (v : Value) (y : Range) (i : ℤ) → IsOne y i → passes k i v ≡ false
    → is_empty (cut_by k v y).low (cut_by k v y).high ≡ true
cut_none (core.Below e) v y i one h =
    let c = one.low in
    let d = one.high in not_false _ (λ z. omega (arith, ints, clamps))
cut_none (core.UpTo e) v y i one h =
    let c = one.low in
    let d = one.high in not_false _ (λ z. omega (arith, ints, clamps))
cut_none (core.Above e) v y i one h =
    let c = one.low in
    let d = one.high in not_false _ (λ z. omega (arith, ints, clamps))
cut_none (core.From e) v y i one h =
    let c = one.low in
    let d = one.high in not_false _ (λ z. omega (arith, ints, clamps))
cut_none (core.Provided e) v y i one h = go (truth_in v) h
  where
    go : (b : Bool) → b ≡ false
        → is_empty (if b then y else record y { high = y.low }).low (if b then y else record y { high = y.low }).high ≡ true
    go true e = absurd (cc e)
    go false e = not_false (int_le y.low y.low) (λ z. omega (arith, ints))

-- The element of one position

shifted_one : (low high k : ℤ) (j : ℤ) → low ≡ k → high ≡ k +ℤ pos 1 → within low high j ≡ same_number j k
shifted_one low high k j c d =
    same_bool _ _
    (λ w.
    let two = and_parts (int_le low j) (int_lt j high) w in
    let a = two.0 in
    let b = two.1 in
    let same : j ≡ k = omega (arith, ints) in subst (λ z. same_number j z ≡ true) same (number_self j))
    (λ n.
    let same : j ≡ k = numbers_same j k n in
    and_from _ _ (not_false (int_le low j) (λ z. omega (arith, ints))) (not_false (int_lt j high) (λ z. omega (arith, ints))))

pub among_one : (type : PvType) (array : ℕ) (low high k : ℤ) (r : Resource) → low ≡ k → high ≡ k +ℤ pos 1
    → is_among type array low high r ≡ same_resource r (InElement type array k)
among_one type array low high k (InElement t a j) c d =
    ap (λ b. same_type t type && (nat_eq a array && b)) (shifted_one low high k j c d)
among_one type array low high k (InField class o f) c d = refl
among_one type array low high k (OfToken t class o) c d = refl
among_one type array low high k (OfLock class o) c d = refl

pub is_element : (type : PvType) (array : ℕ) (k : ℤ) (r : Resource) → same_resource r (InElement type array k) ≡ true
    → r ≡ InElement type array k
is_element type array k (InElement t a j) h =
    let two = and_parts _ _ h in
    let more = and_parts _ _ two.1 in
    ap (λ u. InElement u a j) (same_types t type two.0) ∙ ap (λ b. InElement type b j) (eqb-true a array more.0)
    ∙ ap (λ i. InElement type array i) (numbers_same j k more.1)
is_element type array k (InField class o f) h = absurd cc
is_element type array k (OfToken t class o) h = absurd cc
is_element type array k (OfLock class o) h = absurd cc

held_less : (s : State) (type : PvType) (array : ℕ) (low high k : ℤ) (amount : ℕ) (r : Resource) → low ≡ k → high ≡ k +ℤ pos 1
    → (without_range s type array low high amount).held r
    ≡ (with_amount s (InElement type array k) (amount_of s (InElement type array k) - amount)).held r
held_less s type array low high k amount r c d =
    ap (λ b. if b then holding (amount_of s r - amount) (cell_held (s.held r)) else s.held r)
    (among_one type array low high k r c d)
    ∙ go (same_resource r (InElement type array k)) refl
  where
    resource : Resource
    resource = InElement type array k

    go : (b : Bool) → same_resource r (InElement type array k) ≡ b
        → (if b then holding (amount_of s r - amount) (cell_held (s.held r)) else s.held r)
        ≡ (if b then holding (amount_of s (InElement type array k) - amount) (cell_held (s.held (InElement type array k)))
        else s.held r)
    go true is = ap (λ q. holding (amount_of s q - amount) (cell_held (s.held q))) (is_element type array k r is)
    go false is = refl

less_one : (s : State) (type : PvType) (array : ℕ) (low high k : ℤ) (amount : ℕ) → low ≡ k → high ≡ k +ℤ pos 1
    → without_range s type array low high amount
    ≡ with_amount s (InElement type array k) (amount_of s (InElement type array k) - amount)
less_one s type array low high k amount c d =
    ap (λ (f : Resource → Option Holding). record s { held = f }) (fun_ext (λ r. held_less s type array low high k amount r c d))

pub width_one : (low high k : ℤ) → low ≡ k → high ≡ k +ℤ pos 1 → width low high ≡ 1
width_one low high k c d = let e : high -ℤ low ≡ pos 1 = omega (arith, ints) in ap or_zero e

pub and_true : (b : Bool) → (b && true) ≡ b
and_true true = refl
and_true false = refl

has_one : (s : State) (type : PvType) (array : ℕ) (low high k : ℤ) (amount : ℕ) → low ≡ k → high ≡ k +ℤ pos 1
    → has_each s type array low high amount ≡ nat_le amount (amount_of s (InElement type array k))
has_one s type array low high k amount c d =
    ap (at_all (λ i. nat_le amount (amount_of s (InElement type array i))) low) (width_one low high k c d)
    ∙ and_true _ ∙ ap (λ i. nat_le amount (amount_of s (InElement type array i))) c

-- giving the elements of one position is giving that one
pub range_given : (maps : Maps) (table : List Entry) (type : PvType) (array : ℕ) (low high k : ℤ) (ends : List ℤ) (amount : ℕ)
    (short : Judged) (next : Next Judged) → low ≡ k → high ≡ k +ℤ pos 1
    → ◌≡◌ {A = Next Judged} (give_range (judging maps table) type array low high ends amount short next)
    (give (judging maps table) (InElement type array k) amount short next)
range_given maps table type array low high k ends amount short next c d = fun_ext (λ s.
    ap (λ b. if b then next (without_range s type array low high amount) else short) (has_one s type array low high k amount c d)
    ∙ ap (λ t. if nat_le amount (amount_of s (InElement type array k)) then next t else short)
    (less_one s type array low high k amount c d))
