-- Evidence that is made of a drawn run has it as its lazy run.
use Rattle.std.proofs.Common.{◌≡◌, ◌⊎◌, inl, inr, ◌<◌, ℕ, zero, suc, ℤ, pos, Bool, true, false, ◌&&◌, ◌||◌, if◌then◌else◌, Option, Some, None, List, [], ◌∷◌, ◌++◌, refl, ap, sym, subst, ◌∙◌, rules, arith}
use Rattle.std.specs.Prelude.{int_lt, int_le, nat_eq, All}
use Rattle.std.proofs.lemmas.Int.{ints}
use Rattle.std.proofs.lemmas.List.Elements.{All-nil, All-cons}
use Rattle.pv_values.specs.Heaps.{same_number}
use Rattle.pv_picks.specs.declared.evidence.StepPair.{StepPair}
use Rattle.pv_picks.specs.declared.evidence.Entry.{Entry}
use Rattle.pv_picks.specs.Plain.Core.{Operation, Plus, Minus, Times}
use Rattle.pv_picks.specs.Judge.Runs.{maps_of, step_from, step_value, is_operator, is_entry_of, taken_from, ordered, value_of_operation}
use Rattle.pv_picks.specs.Lazy.Patterns.{same_operation, same_use}
use Rattle.pv_picks.specs.Lazy.Runs.{UsedFor, ReadAs, Taken, OneNumber, OneTurn, ForRange, Outcome, Final, value_read, commutes, is_same_use, drawn_run}
use Rattle.pv_picks.specs.Verdicts.Grounds.{operation_of, IsOrdered, HasOtherUse, IsTable}
use Rattle.pv_picks.proofs.Sames.{front, back, numbers_same, naturals_same}
use Rattle.judge_laws.specs.Drawing.{kinds, FitReads, FitsUses}
use Rattle.judge_laws.specs.Entering.{drawn_entry}
use Rattle.judge_laws.specs.Numbers.{IsOtherUse, AreOtherUses, AreOtherReads}
use Rattle.judge_laws.specs.Making.{operator_for, entry_with, entry_for, table_of, TellsUses, put_in, map_of, picks_with, so_many, enough_for, evidence_from, MakesEvidence}
use Rattle.judge_laws.proofs.Backing.{drawn_runs_as_lazy, drawn_enters_as_lazy}
use Rattle.judge_laws.proofs.Remembering.{remembers_each_once}

-- Tables

number_is : (z : ℤ) → same_number z z ≡ true
number_is z = search (rules, ints)

operation_is : (o : Operation) → same_operation o o ≡ true
operation_is Plus = refl
operation_is Minus = refl
operation_is Times = refl

both : (x y : Bool) → x ≡ true → y ≡ true → (x && y) ≡ true
both true y e h = h
both false y e h = e

either_left : (x y : Bool) → x ≡ true → (x || y) ≡ true
either_left true y e = refl
either_left false y e = absurd (cc e)

either_right : (x y : Bool) → y ≡ true → (x || y) ≡ true
either_right true y e = refl
either_right false y e = e

operator_same : (o q : Operation) → operator_for o ≡ operator_for q → o ≡ q
operator_same Plus Plus h = refl
operator_same Minus Minus h = refl
operator_same Times Times h = refl
operator_same o q h = absurd (cc h)

is_own : (o : Operation) → is_operator o (operator_for o) ≡ true
is_own Plus = refl
is_own Minus = refl
is_own Times = refl

is_only : (o q : Operation) → is_operator o (operator_for q) ≡ true → o ≡ q
is_only Plus Plus h = refl
is_only Minus Minus h = refl
is_only Times Times h = refl
is_only o q h = absurd (cc h)

operation_for : (o : Operation) → operation_of (operator_for o) ≡ Some o
operation_for Plus = refl
operation_for Minus = refl
operation_for Times = refl

-- a use that stands for the same operation on the same arguments, in the order of tables
same_straight : (o : Operation) (a b : ℤ) → is_same_use (o, a, b) (o, a, b) ≡ true
same_straight o a b = either_left _ _ (both _ _ (operation_is o) (both _ _ (number_is a) (number_is b)))

same_crossed : (o : Operation) (a b : ℤ) → commutes o ≡ true → is_same_use (o, a, b) (o, b, a) ≡ true
same_crossed o a b c = either_right (same_use (o, a, b) (o, b, a)) _
    (both _ _ c (both _ _ (operation_is o) (both _ _ (number_is a) (number_is b))))

unordered_commutes : (o : Operation) (a b : ℤ) → ordered o a b ≡ false → commutes o ≡ true
unordered_commutes Plus a b h = refl
unordered_commutes Times a b h = refl
unordered_commutes Minus a b h = absurd (cc h)

-- equal entries are of the same use
module _ (o : Operation) (a b : ℤ) (c d : ℤ) where
  entries_same : (x y : Bool) → ordered o a b ≡ x → ordered o c d ≡ y → (z w : ℤ)
      → (entry_with x o a b z).left ≡ (entry_with y o c d w).left → (entry_with x o a b z).right ≡ (entry_with y o c d w).right
      → is_same_use (o, a, b) (o, c, d) ≡ true
  entries_same true true e f z w l r =
      subst (λ (n : ℤ). is_same_use (o, a, b) (o, n, d) ≡ true) l
      (subst (λ (n : ℤ). is_same_use (o, a, b) (o, a, n) ≡ true) r (same_straight o a b))
  entries_same true false e f z w l r =
      subst (λ (n : ℤ). is_same_use (o, a, b) (o, n, d) ≡ true) r
      (subst (λ (n : ℤ). is_same_use (o, a, b) (o, b, n) ≡ true) l (same_crossed o a b (unordered_commutes o c d f)))
  entries_same false true e f z w l r =
      subst (λ (n : ℤ). is_same_use (o, a, b) (o, n, d) ≡ true) l
      (subst (λ (n : ℤ). is_same_use (o, a, b) (o, b, n) ≡ true) r (same_crossed o a b (unordered_commutes o a b e)))
  entries_same false false e f z w l r =
      subst (λ (n : ℤ). is_same_use (o, a, b) (o, n, d) ≡ true) r
      (subst (λ (n : ℤ). is_same_use (o, a, b) (o, a, n) ≡ true) l (same_straight o a b))

op_of : (x : Bool) (o : Operation) (a b z : ℤ) → (entry_with x o a b z).op ≡ operator_for o
op_of true o a b z = refl
op_of false o a b z = refl

uses_same : (u v : UsedFor) → u.used.0 ≡ v.used.0 → (entry_for u).left ≡ (entry_for v).left
    → (entry_for u).right ≡ (entry_for v).right → is_same_use u.used v.used ≡ true
uses_same u v e l r = go u.used.0 e l r
  where
    go : (o : Operation) → o ≡ v.used.0
        → (entry_with (ordered o u.used.1 u.used.2) o u.used.1 u.used.2 u.value).left ≡ (entry_for v).left
        → (entry_with (ordered o u.used.1 u.used.2) o u.used.1 u.used.2 u.value).right ≡ (entry_for v).right
        → is_same_use (o, u.used.1, u.used.2) v.used ≡ true
    go o p l r = subst (λ (q : Operation).
        (entry_with (ordered q u.used.1 u.used.2) q u.used.1 u.used.2 u.value).left ≡ (entry_for v).left
        → (entry_with (ordered q u.used.1 u.used.2) q u.used.1 u.used.2 u.value).right ≡ (entry_for v).right
        → is_same_use (q, u.used.1, u.used.2) v.used ≡ true) (sym p)
        (λ m s. entries_same v.used.0 u.used.1 u.used.2 v.used.1 v.used.2 (ordered v.used.0 u.used.1 u.used.2)
        (ordered v.used.0 v.used.1 v.used.2) refl refl u.value v.value m s) l r

-- the entry of an earlier use isn't that of a later one
others_entry : (u v : UsedFor) → is_same_use v.used u.used ≡ false → HasOtherUse (entry_for u) (entry_for v)
others_entry u v n e l r =
    let p = operator_same u.used.0 v.used.0 (sym (op_of _ u.used.0 u.used.1 u.used.2 u.value) ∙ e
    ∙ op_of _ v.used.0 v.used.1 v.used.2 v.value) in
    absurd (cc (sym n ∙ uses_same v u (sym p) (sym l) (sym r)))

others_all : (u : UsedFor) (us : List UsedFor) → IsOtherUse u us → All (HasOtherUse (entry_for u)) (table_of us)
others_all u [] h = All-nil _
others_all u (v ∷ us) h =
    All-cons (HasOtherUse (entry_for u)) (entry_for v) (table_of us) (others_entry u v h.0) (others_all u us h.1)

le_other : (a b : ℤ) → int_le a b ≡ false → int_le b a ≡ true
le_other a b h = search (rules, ints)

is_ordered : (x : Bool) (o : Operation) (a b z : ℤ) → ordered o a b ≡ x
    → IsOrdered (operation_of (entry_with x o a b z).op) (entry_with x o a b z).left (entry_with x o a b z).right
is_ordered true Plus a b z e = e
is_ordered true Minus a b z e = e
is_ordered true Times a b z e = e
is_ordered false Plus a b z e = le_other a b e
is_ordered false Minus a b z e = absurd (cc e)
is_ordered false Times a b z e = le_other a b e

told : (us : List UsedFor) → AreOtherUses us → IsTable (table_of us)
told [] h = tt
told (u ∷ us) h = (
  is_ordered (ordered u.used.0 u.used.1 u.used.2) u.used.0 u.used.1 u.used.2 u.value refl,
  others_all u us h.0,
  told us h.1,
)

-- what the table has for a use

ends_true : (b : Bool) (o : Operation) (a c z : ℤ) → b ≡ true
    → ((entry_with b o a c z).left ≡ a) × ((entry_with b o a c z).right ≡ c)
ends_true true o a c z e = (refl, refl)
ends_true false o a c z e = absurd (cc e)

ends_false : (b : Bool) (o : Operation) (a c z : ℤ) → b ≡ false
    → ((entry_with b o a c z).left ≡ c) × ((entry_with b o a c z).right ≡ a)
ends_false true o a c z e = absurd (cc e)
ends_false false o a c z e = (refl, refl)

-- an entry for these arguments
is_for : (o : Operation) (a c : ℤ) (x : UsedFor) → is_entry_of o a c (entry_for x) ≡ true
    → (o ≡ x.used.0) × ((a ≡ (entry_for x).left) × (c ≡ (entry_for x).right))
is_for o a c x h =
    let e = entry_for x in
    let n = back (is_operator o e.op) _ h in (
      is_only o x.used.0 (subst (λ q. is_operator o q ≡ true) (op_of _ x.used.0 x.used.1 x.used.2 x.value) (front _ _ h)),
      (numbers_same a e.left (front _ _ n), numbers_same c e.right (back (same_number a e.left) _ n)),
    )

passes : (b : Bool) (e : Entry) (t : List Entry) (o : Operation) (a c : ℤ) → is_entry_of o a c e ≡ b → (b ≡ true → ⊥)
    → taken_from (e ∷ t) o a c ≡ taken_from t o a c
passes true e t o a c h n = absurd (n refl)
passes false e t o a c h n = subst (λ (b : Bool). (if b then e.taken else taken_from t o a c) ≡ taken_from t o a c) (sym h) refl

skips : (x : UsedFor) (t : List Entry) (o : Operation) (a c : ℤ) → is_same_use (o, a, c) x.used ≡ false
    → value_of_operation (entry_for x ∷ t) o a c ≡ value_of_operation t o a c
skips x t o a c n = go (ordered o a c) refl
  where
    v : UsedFor
    v = record { used = (o, a, c); value = pos 0 }

    go : (b : Bool) → ordered o a c ≡ b
        → (if b then taken_from (entry_for x ∷ t) o a c else taken_from (entry_for x ∷ t) o c a)
        ≡ (if b then taken_from t o a c else taken_from t o c a)
    go true e = passes (is_entry_of o a c (entry_for x)) (entry_for x) t o a c refl (λ h.
        let f = is_for o a c x h in
        let s = ends_true (ordered o a c) o a c (pos 0) e in
        absurd (cc (sym n ∙ uses_same v x f.0 (s.0 ∙ f.1.0) (s.1 ∙ f.1.1))))
    go false e = passes (is_entry_of o c a (entry_for x)) (entry_for x) t o c a refl (λ h.
        let f = is_for o c a x h in
        let s = ends_false (ordered o a c) o a c (pos 0) e in
        absurd (cc (sym n ∙ uses_same v x f.0 (s.0 ∙ f.1.0) (s.1 ∙ f.1.1))))

matches : (o : Operation) (a c z : ℤ) → is_entry_of o a c (record { op = operator_for o; left = a; right = c; taken = z }) ≡ true
matches o a c z = both _ _ (is_own o) (both _ _ (number_is a) (number_is c))

finds : (e : Entry) (t : List Entry) (o : Operation) (a c : ℤ) → is_entry_of o a c e ≡ true → taken_from (e ∷ t) o a c ≡ e.taken
finds e t o a c h = subst (λ (b : Bool). (if b then e.taken else taken_from t o a c) ≡ e.taken) (sym h) refl

has_own : (u : UsedFor) (t : List Entry) → value_of_operation (entry_for u ∷ t) u.used.0 u.used.1 u.used.2 ≡ u.value
has_own u t = go (ordered u.used.0 u.used.1 u.used.2)
  where
    o : Operation
    o = u.used.0

    go : (b : Bool) → (if b then taken_from (entry_with b o u.used.1 u.used.2 u.value ∷ t) o u.used.1 u.used.2
        else taken_from (entry_with b o u.used.1 u.used.2 u.value ∷ t) o u.used.2 u.used.1) ≡ u.value
    go true = finds _ t o u.used.1 u.used.2 (matches o u.used.1 u.used.2 u.value)
    go false = finds _ t o u.used.2 u.used.1 (matches o u.used.2 u.used.1 u.value)

fits_behind : (x : UsedFor) (t : List Entry) (us : List UsedFor) → IsOtherUse x us → FitsUses t us
    → FitsUses (entry_for x ∷ t) us
fits_behind x t [] n f = tt
fits_behind x t (u ∷ us) n f = (skips x t u.used.0 u.used.1 u.used.2 n.0 ∙ f.0, fits_behind x t us n.1 f.1)

fits : (us : List UsedFor) → AreOtherUses us → FitsUses (table_of us) us
fits [] h = tt
fits (u ∷ us) h = (has_own u (table_of us), fits_behind u (table_of us) us h.0 (fits us h.1))

pub tells_uses : TellsUses
tells_uses us h = (told us h, fits us h)

-- Maps

abbrev AllOther : ℤ → List StepPair → Type 0
AllOther i [] = Unit {0}
AllOther i (q ∷ qs) = (i ≡ q.at → ⊥) × AllOther i qs

abbrev Above : ℤ → List StepPair → Type 0
Above i [] = Unit {0}
Above i (q ∷ qs) = (int_lt i q.at ≡ true) × Above i qs

abbrev Rising : List StepPair → Type 0
Rising [] = Unit {0}
Rising (q ∷ qs) = Above q.at qs × Rising qs

abbrev HasPair : ℤ → ℤ → List StepPair → Type 0
HasPair i z [] = ⊥
HasPair i z (q ∷ qs) = ((q.at ≡ i) × (q.value ≡ z)) ⊎ HasPair i z qs

lt_both : (a b c : ℤ) → int_lt a b ≡ true → int_lt b c ≡ true → int_lt a c ≡ true
lt_both a b c h k = search (rules, ints)

lt_other : (a b : ℤ) → int_lt a b ≡ false → (a ≡ b → ⊥) → int_lt b a ≡ true
lt_other a b h n = search (rules, ints)

le_not : (a b : ℤ) → int_lt a b ≡ true → int_le b a ≡ false
le_not a b h = search (rules, ints)

le_is : (a b : ℤ) → a ≡ b → int_le a b ≡ true
le_is a b h = search (rules, ints, h)

above_more : (a b : ℤ) (qs : List StepPair) → int_lt a b ≡ true → Above b qs → Above a qs
above_more a b [] h k = tt
above_more a b (q ∷ qs) h k = (lt_both a b q.at h k.0, above_more a b qs h k.1)

above_if : (b : Bool) (i : ℤ) (xs ys : List StepPair) → Above i xs → Above i ys → Above i (if b then xs else ys)
above_if true i xs ys h k = h
above_if false i xs ys h k = k

above_put : (i : ℤ) (p : StepPair) (qs : List StepPair) → int_lt i p.at ≡ true → Above i qs → Above i (put_in p qs)
above_put i p [] h k = (h, tt)
above_put i p (q ∷ qs) h k = above_if (int_lt p.at q.at) i _ _ (h, (k.0, k.1)) (k.0, above_put i p qs h k.1)

put_rising : (p : StepPair) (qs : List StepPair) → AllOther p.at qs → Rising qs → Rising (put_in p qs)
put_rising p [] o r = (tt, tt)
put_rising p (q ∷ qs) o r = go (int_lt p.at q.at) refl (put_rising p qs o.1 r.1)
  where
    go : (b : Bool) → int_lt p.at q.at ≡ b → Rising (put_in p qs) → Rising (if b then p ∷ q ∷ qs else q ∷ put_in p qs)
    go true e rest = ((e, above_more p.at q.at qs e r.0), (r.0, r.1))
    go false e rest = (above_put q.at p qs (lt_other p.at q.at e o.0) r.0, rest)

pair_if : (b : Bool) (i z : ℤ) (xs ys : List StepPair) → HasPair i z xs → HasPair i z ys → HasPair i z (if b then xs else ys)
pair_if true i z xs ys h k = h
pair_if false i z xs ys h k = k

put_has : (p : StepPair) (qs : List StepPair) → HasPair p.at p.value (put_in p qs)
put_has p [] = inl (refl, refl)
put_has p (q ∷ qs) = pair_if (int_lt p.at q.at) _ _ _ _ (inl (refl, refl)) (inr (put_has p qs))

put_keeps : (p : StepPair) (i z : ℤ) (qs : List StepPair) → HasPair i z qs → HasPair i z (put_in p qs)
put_keeps p i z [] h = absurd h
put_keeps p i z (q ∷ qs) (inl h) = pair_if (int_lt p.at q.at) _ _ _ _ (inr (inl h)) (inl h)
put_keeps p i z (q ∷ qs) (inr h) = pair_if (int_lt p.at q.at) _ _ _ _ (inr (inr h)) (inr (put_keeps p i z qs h))

other_if : (b : Bool) (i : ℤ) (xs ys : List StepPair) → AllOther i xs → AllOther i ys → AllOther i (if b then xs else ys)
other_if true i xs ys h k = h
other_if false i xs ys h k = k

other_put : (i : ℤ) (p : StepPair) (qs : List StepPair) → (i ≡ p.at → ⊥) → AllOther i qs → AllOther i (put_in p qs)
other_put i p [] n h = (n, tt)
other_put i p (q ∷ qs) n h = other_if (int_lt p.at q.at) i _ _ (n, (h.0, h.1)) (h.0, other_put i p qs n h.1)

-- the value at a listed position
above_steps : (i v : ℤ) (qs : List StepPair) → Above i qs → step_from v qs i ≡ v
above_steps i v [] h = refl
above_steps i v (q ∷ qs) h = subst (λ (b : Bool). (if b then step_from q.value qs i else step_from v qs i) ≡ v)
    (sym (le_not i q.at h.0)) (above_steps i v qs h.1)

step_if : (b : Bool) (x y z : ℤ) → x ≡ z → y ≡ z → (if b then x else y) ≡ z
step_if true x y z h k = h
step_if false x y z h k = k

step_at : (i z v : ℤ) (qs : List StepPair) → Rising qs → HasPair i z qs → step_from v qs i ≡ z
step_at i z v [] r h = absurd h
step_at i z v (q ∷ qs) r (inl h) = subst (λ (b : Bool). (if b then step_from q.value qs i else step_from v qs i) ≡ z)
    (sym (le_is q.at i h.0)) (above_steps i q.value qs (subst (λ (n : ℤ). Above n qs) h.0 r.0) ∙ h.1)
step_at i z v (q ∷ qs) r (inr h) = step_if (int_le q.at i) _ _ z (step_at i z q.value qs r.1 h) (step_at i z v qs r.1 h)

-- What was read

not_read : (b c : Bool) (z : ℤ) (o : Option ℤ) → (if b && c then Some z else o) ≡ None → b ≡ true → c ≡ false
not_read true true z o h e = absurd (cc h)
not_read true false z o h e = refl
not_read false c z o h e = absurd (cc e)

read_rest : (b : Bool) (z : ℤ) (o : Option ℤ) → (if b then Some z else o) ≡ None → o ≡ None
read_rest true z o h = absurd (cc h)
read_rest false z o h = h

map_other : (rs : List ReadAs) (n : ℕ) (i : ℤ) → value_read rs n i ≡ None → AllOther i (map_of rs n)
map_other [] n i h = tt
map_other (r ∷ rs) n i h = go (nat_eq r.number n) refl
    (map_other rs n i (read_rest (nat_eq r.number n && same_number r.index i) r.value (value_read rs n i) h))
  where
    go : (b : Bool) → nat_eq r.number n ≡ b → AllOther i (map_of rs n)
        → AllOther i (if b then put_in (record { at = r.index; value = r.value }) (map_of rs n) else map_of rs n)
    go true e rest = other_put i (record { at = r.index; value = r.value }) (map_of rs n) (λ same.
        let f = not_read (nat_eq r.number n) (same_number r.index i) r.value (value_read rs n i) h e in
        absurd (cc (sym f ∙ subst (λ (z : ℤ). same_number r.index z ≡ true) (sym same) (number_is r.index)))) rest
    go false e rest = rest

map_rising : (rs : List ReadAs) (n : ℕ) → AreOtherReads rs → Rising (map_of rs n)
map_rising [] n h = tt
map_rising (r ∷ rs) n h = go (nat_eq r.number n) refl (map_rising rs n h.1)
  where
    go : (b : Bool) → nat_eq r.number n ≡ b → Rising (map_of rs n)
        → Rising (if b then put_in (record { at = r.index; value = r.value }) (map_of rs n) else map_of rs n)
    go true e rest = put_rising (record { at = r.index; value = r.value }) (map_of rs n)
        (map_other rs n r.index (subst (λ (k : ℕ). value_read rs k r.index ≡ None) (naturals_same r.number n e) h.0)) rest
    go false e rest = rest

-- each of these reads is in the map of its range
abbrev HaveAll : (ℕ → List StepPair) → List ReadAs → Type 0
HaveAll maps [] = Unit {0}
HaveAll maps (r ∷ rs) = HasPair r.index r.value (maps r.number) × HaveAll maps rs

natural_is : (n : ℕ) → nat_eq n n ≡ true
natural_is n = search rules

keeps_one : (r : ReadAs) (rs : List ReadAs) (n : ℕ) (i z : ℤ) → HasPair i z (map_of rs n) → HasPair i z (map_of (r ∷ rs) n)
keeps_one r rs n i z h = pair_if (nat_eq r.number n) i z _ _
    (put_keeps (record { at = r.index; value = r.value }) i z (map_of rs n) h) h

keeps_all : (r : ReadAs) (rs xs : List ReadAs) → HaveAll (map_of rs) xs → HaveAll (map_of (r ∷ rs)) xs
keeps_all r rs [] h = tt
keeps_all r rs (x ∷ xs) h = (keeps_one r rs x.number x.index x.value h.0, keeps_all r rs xs h.1)

have_all : (rs : List ReadAs) → HaveAll (map_of rs) rs
have_all [] = tt
have_all (r ∷ rs) = (
  subst (λ (b : Bool). HasPair r.index r.value (if b then put_in (record { at = r.index; value = r.value }) (map_of rs r.number)
      else map_of rs r.number)) (sym (natural_is r.number))
      (put_has (record { at = r.index; value = r.value }) (map_of rs r.number)),
  keeps_all r rs rs (have_all rs),
)

-- Picks

count : List Taken → ℕ
count [] = 0
count (OneNumber z ∷ ts) = count ts
count (OneTurn n ∷ ts) = count ts
count (ForRange ∷ ts) = suc (count ts)

kinds_with : (maps : ℕ → List StepPair) (ts : List Taken) → kinds (picks_with maps ts) ≡ ts
kinds_with maps [] = refl
kinds_with maps (OneNumber z ∷ ts) = ap (λ xs. OneNumber z ∷ xs) (kinds_with maps ts)
kinds_with maps (OneTurn n ∷ ts) = ap (λ xs. OneTurn n ∷ xs) (kinds_with maps ts)
kinds_with maps (ForRange ∷ ts) = ap (λ xs. ForRange ∷ xs) (kinds_with (λ n. maps (suc n)) ts)

maps_with : (maps : ℕ → List StepPair) (ts : List Taken) (k : ℕ) (i : ℤ) → k < count ts
    → maps_of (picks_with maps ts) k i ≡ step_value (maps k) i
unfolding count
maps_with maps [] k i h = absurd (omega (arith, h))
maps_with maps (OneNumber z ∷ ts) k i h = maps_with maps ts k i h
maps_with maps (OneTurn n ∷ ts) k i h = maps_with maps ts k i h
maps_with maps (ForRange ∷ ts) zero i h = refl
maps_with maps (ForRange ∷ ts) (suc k) i h = maps_with (λ n. maps (suc n)) ts k i (omega (arith, h))

count_behind : (xs ts : List Taken) (k : ℕ) → k < count ts → k < count (xs ++ ts)
unfolding count
count_behind [] ts k h = h
count_behind (OneNumber z ∷ xs) ts k h = count_behind xs ts k h
count_behind (OneTurn n ∷ xs) ts k h = count_behind xs ts k h
count_behind (ForRange ∷ xs) ts k h = let r = count_behind xs ts k h in omega (arith, r)

many_keeps : (n : ℕ) (ts : List Taken) (k : ℕ) → k < count ts → k < count (so_many n ts)
unfolding count
many_keeps zero ts k h = h
many_keeps (suc n) ts k h = let r = many_keeps n ts k h in omega (arith, r)

many_has : (n : ℕ) (ts : List Taken) (k : ℕ) → k < n → k < count (so_many n ts)
unfolding count
many_has zero ts k h = absurd (omega (arith, h))
many_has (suc n) ts zero h = omega arith
many_has (suc n) ts (suc k) h = let r = many_has n ts k (omega (arith, h)) in omega (arith, r)

-- each of these numbers has a pick
abbrev AllCounted : List Taken → List ReadAs → Type 0
AllCounted ts [] = Unit {0}
AllCounted ts (r ∷ rs) = (r.number < count ts) × AllCounted ts rs

counted_more : (n : ℕ) (ts : List Taken) (rs : List ReadAs) → AllCounted ts rs → AllCounted (so_many n ts) rs
counted_more n ts [] h = tt
counted_more n ts (r ∷ rs) h = (many_keeps n ts r.number h.0, counted_more n ts rs h.1)

enough : (rs : List ReadAs) → AllCounted (enough_for rs) rs
enough [] = tt
enough (r ∷ rs) = (
  many_has (suc r.number) (enough_for rs) r.number (omega arith),
  counted_more (suc r.number) (enough_for rs) rs (enough rs),
)

fit_reads : (maps : ℕ → List StepPair) (xs ts : List Taken) (rs : List ReadAs) → ((n : ℕ) → Rising (maps n)) → AllCounted ts rs
    → HaveAll maps rs → FitReads (maps_of (picks_with maps (xs ++ ts))) rs
fit_reads maps xs ts [] r c h = tt
fit_reads maps xs ts (x ∷ rs) r c h = (
  maps_with maps (xs ++ ts) x.number x.index (count_behind xs ts x.number c.0)
      ∙ step_at x.index x.value (pos 0) (maps x.number) (r x.number) h.0,
  fit_reads maps xs ts rs r c.1 h.1,
)

reads_fit : (xs : List Taken) (rs : List ReadAs) → AreOtherReads rs
    → FitReads (maps_of (picks_with (map_of rs) (xs ++ enough_for rs))) rs
reads_fit xs rs h = fit_reads (map_of rs) xs (enough_for rs) rs (λ n. map_rising rs n h) (enough rs) (have_all rs)

pub makes_evidence : MakesEvidence
makes_evidence p unit values turns =
    let o : Outcome Final = drawn_run p unit values turns in
    let q : Outcome Final = drawn_entry p unit values turns in
    let once = remembers_each_once p unit values turns in (
      drawn_runs_as_lazy p unit (evidence_from o) values turns (enough_for o.end.reads)
          (kinds_with (map_of o.end.reads) (o.picks ++ enough_for o.end.reads)) (reads_fit o.picks o.end.reads once.0.reads)
          (fits o.end.uses once.0.uses),
      drawn_enters_as_lazy p unit (evidence_from q) values turns (enough_for q.end.reads)
          (kinds_with (map_of q.end.reads) (q.picks ++ enough_for q.end.reads)) (reads_fit q.picks q.end.reads once.1.reads)
          (fits q.end.uses once.1.uses),
    )
