-- Amounts suffice for a contract at a position in the one form where they do in the other.
use Rattle.std.proofs.Common.{◌≡◌, ◌⊎◌, inl, inr, ℕ, ◌+◌, ◌≤◌, ℤ, pos, Bool, true, false, if◌then◌else◌, Option, Some, None, List, [], ◌∷◌, refl, ap, sym, subst, ◌∙◌, arith}
use Rattle.std.specs.Prelude.{int_le, int_lt, ◌+ℤ◌}
use Rattle.std.proofs.lemmas.Int.{ints}
use Rattle.std.proofs.lemmas.Option.{same_Some}
use Rattle.pv_base.specs.declared.Name.{Name}
use Rattle.pv_base.specs.declared.Span.{Span}
use Rattle.pv_ast.specs.declared.PvType.{PvType}
use Rattle.pv_ast.specs.declared.PvType.TheVariants.{Int, Object}
use Rattle.pv_values.specs.declared.value.Value.{Value}
use Rattle.pv_values.specs.declared.value.Value.TheVariants as value
use Rattle.pv_values.specs.Heaps.{same_number}
use Rattle.pv_picks.specs.Plain.Core.{Cut, Expression, Variable, Equal, Implies, Formula, Fact, When, Items, NoItems, Join, Item, Guarded, Fixed, Parameter}
use Rattle.pv_picks.specs.Formulas.Values.{number_in, truth_in, reference_in, equality, array_of, within, is_empty}
use Rattle.pv_picks.specs.Formulas.Evaluation.{Scene}
use Rattle.pv_picks.specs.Formulas.Meeting.{Sight, at, value_or, behind, passes, guard_term}
use Rattle.pv_picks.specs.Judge.Repetitions.{Range, range_of, cut_by}
use Rattle.pv_picks.specs.Judge.States.{Resource, InElement}
use Rattle.pv_picks.specs.Typing.Expressions.{Home, Speech, type_in, Says}
use Rattle.account_formulas.specs.Sights.{value_at}
use Rattle.account_formulas.specs.Good.{AreGoodItems, IsGoodItem, AreGoodCuts, type_of_cut}
use Rattle.account_formulas.specs.Owning.{Amounts, IsPlaced, Owns, Owns.fact, Owns.element, Owns.holds, Owns.known, Owns.star, Owns.when_on, Owns.when_off, OwnsItems, OwnsItems.no_items, OwnsItems.joined, OwnsItem, OwnsItem.nothing, OwnsItem.elements, OwnsItem.repeated, OwnsItem.committed, OwnsItem.cut_off, OwnsItem.cut, OwnsItem.fixed, OwnsItem.beside, CutsTo}
use Rattle.account_formulas.specs.Forms.{Guards, SameItem, SameItem.same_fact, SameItem.same_element, SameItem.same_committed, SameItem.same_guarded, SameItem.same_pure, SameItem.same_fixed, SameItem.same_fixed_fact, together, SameItems, SameItems.same_nothing, SameItems.same_alone, SameItems.same_together}
use Rattle.pv_picks.proofs.Sames.{front, back, numbers_same}
use Rattle.account_formulas.proofs.Basics.{nat_self, number_self}
use Rattle.account_formulas.proofs.Valuing.{value_then}
use Rattle.account_formulas.proofs.Steady.{steady}
use Rattle.account_formulas.proofs.Meeting.{steady_value}
use Rattle.account_formulas.proofs.Valuing.{reached}
use Rattle.account_formulas.proofs.Dealing.{IsOne, one_is, one_within, one_full, cut_one, cut_none, range_one, owns_more, items_more, elements_at, repeated_at, committed_at, guarded_at, fixed_at}

module _ (h : Home) (speech : Speech) (flags : ℕ → Bool) (sight : Sight) (xs : List Parameter) (name : Name)
    (new : type_in xs name ≡ None) (scene : Scene)
    -- a whole number's value is one
    (numbered : (e : Expression) → Says h speech xs e Int → (v : Value) → value_at sight scene e ≡ Some v → v
    ≡ value.Number (number_in v)) where
  here : (i : ℤ) → (at scene name i).variables name.0 ≡ value.Number i
  here i = ap (λ b. if b then value.Number i else scene.variables name.0) (nat_self name.0)

  outside : (i : ℤ) (e : Expression) (type : PvType) → Says h speech xs e type → (v : Value) → value_at sight (at scene name i) e
      ≡ Some v → value_at sight scene e ≡ Some v
  outside i e type says v is = sym (steady h speech xs name i new scene _ _ e type says Some Some (λ v. refl)) ∙ is

  inside : (i : ℤ) (e : Expression) (type : PvType) → Says h speech xs e type → (v : Value) → value_at sight scene e ≡ Some v
      → value_at sight (at scene name i) e ≡ Some v
  inside i e type says v is = steady h speech xs name i new scene _ _ e type says Some Some (λ v. refl) ∙ is

  -- What guards leave of one position

  abbrev Outcome : List Cut → Range → ℤ → Bool → Type 0
  Outcome cuts y i true = (z : Range) × CutsTo sight scene cuts y (Some z) × IsOne z i
  Outcome cuts y i false =
      CutsTo sight scene cuts y None ⊎ ((z : Range) × CutsTo sight scene cuts y (Some z) × (is_empty z.low z.high ≡ true))

  outcome_on : (k : Cut) (cuts : List Cut) (y : Range) (i : ℤ) → IsOne y i → (v : Value) → value_at sight scene (guard_term k)
      ≡ Some v → (b : Bool) → Outcome cuts (cut_by k v y) i b → Outcome (k ∷ cuts) y i b
  outcome_on k cuts y i one v is true (z, to, last) = (z, inr (one_full y i one, (v, is, to)), last)
  outcome_on k cuts y i one v is false (inl to) = inl (inr (one_full y i one, (v, is, to)))
  outcome_on k cuts y i one v is false (inr more) = inr (more.0, inr (one_full y i one, (v, is, more.1)), more.2)

  outcome_empty : (cuts : List Cut) (y : Range) (i : ℤ) → is_empty y.low y.high ≡ true → Outcome cuts y i false
  outcome_empty [] y i e = inr (y, refl, e)
  outcome_empty (k ∷ cuts) y i e = inl (inl (e, refl))

  outcome : (i : ℤ) (cuts : List Cut) → AreGoodCuts h speech xs cuts → (b : Bool)
      → behind None (Some false) sight (at scene name i) cuts i (Some true) ≡ Some b → (y : Range) → IsOne y i
      → Outcome cuts y i b
  outcome i [] good b is y one = subst (λ c. Outcome [] y i c) (same_Some true b is) (y, refl, one)
  outcome i (k ∷ cuts) good b is y one =
      let r =
      reached sight (at scene name i) (guard_term k) (λ v. if passes k i v then behind None (Some false) sight
      (at scene name i) cuts i (Some true) else Some false) b is in
      outcome_on k cuts y i one r.0 (outside i (guard_term k) (type_of_cut k) good.0 r.0 r.1) b
      (go r.0 (λ more j. outcome i cuts good.1 b more (cut_by k r.0 y) (cut_one k r.0 y i one j)) (passes k i r.0) refl r.2)
    where
      go : (v : Value) → (behind None (Some false) sight (at scene name i) cuts i (Some true) ≡ Some b → passes k i v ≡ true
          → Outcome cuts (cut_by k v y) i b)
          → (c : Bool) → passes k i v ≡ c → (if c then behind None (Some false) sight (at scene name i) cuts i
          (Some true) else Some false) ≡ Some b → Outcome cuts (cut_by k v y) i b
      go v more true j is = more is j
      go v more false j is =
          subst (λ c. Outcome cuts (cut_by k v y) i c) (same_Some false b is)
          (outcome_empty cuts (cut_by k v y) i (cut_none k v y i one j))

  -- and back
  abbrev Left : Option Range → ℤ → Bool → Type 0
  Left None i b = b ≡ false
  Left (Some z) i true = IsOne z i
  Left (Some z) i false = is_empty z.low z.high ≡ true

  left : (i : ℤ) (cuts : List Cut) → AreGoodCuts h speech xs cuts → (y : Range) → IsOne y i → (last : Option Range)
      → CutsTo sight scene cuts y last
      → (b : Bool) × (behind None (Some false) sight (at scene name i) cuts i (Some true) ≡ Some b) × Left last i b
  left i [] good y one last to = (true, refl, subst (λ z. Left z i true) (sym to) one)
  left i (k ∷ cuts) good y one last (inl to) = let f = one_full y i one in let e = to.0 in absurd (cc (e, f))
  left i (k ∷ cuts) good y one last (inr to) =
      go (λ j. left i cuts good.1 (cut_by k to.1.0 y) (cut_one k to.1.0 y i one j) last to.1.2) (passes k i to.1.0) refl
    where
      value_is : value_or None sight (at scene name i) (guard_term k)
          (λ v. if passes k i v then behind None (Some false) sight (at scene name i) cuts i (Some true) else Some false)
          ≡ (if passes k i to.1.0 then behind None (Some false) sight (at scene name i) cuts i (Some true) else Some false)
      value_is = steady_value h speech xs name i new None sight scene (guard_term k) (type_of_cut k) good.0 to.1.0 _ to.1.1

      emptied : (cuts : List Cut) (z : Range) → is_empty z.low z.high ≡ true → (last : Option Range)
          → CutsTo sight scene cuts z last → Left last i false
      emptied [] z e last to = subst (λ z. Left z i false) (sym to) e
      emptied (k ∷ cuts) z e last (inl to) = subst (λ z. Left z i false) (sym to.1) refl
      emptied (k ∷ cuts) z e last (inr to) = let f = to.0 in absurd (cc (e, f))

      go : (passes k i to.1.0 ≡ true → (b : Bool) × (behind None (Some false) sight (at scene name i) cuts i (Some true) ≡ Some b)
          × Left last i b)
          → (c : Bool) → passes k i to.1.0 ≡ c → (b : Bool) × (behind None (Some false) sight (at scene name i) (k ∷ cuts) i
          (Some true) ≡ Some b) × Left last i b
      go more true j =
          let m = more j in (
            m.0,
            value_is
                ∙ (ap (λ c. if c then behind None (Some false) sight (at scene name i) cuts i (Some true) else Some false) j
                ∙ m.1),
            m.2,
          )
      go more false j = (
        false,
        value_is ∙ ap (λ c. if c then behind None (Some false) sight (at scene name i) cuts i (Some true) else Some false) j,
        emptied cuts (cut_by k to.1.0 y) (cut_none k to.1.0 y i one j) last to.1.2,
      )

  -- the value of a condition that guards let through
  condition : (i : ℤ) (x : Expression) (cuts : List Cut) → Guards name x cuts → (v : Value) → value_at sight (at scene name i) x
      ≡ Some v
      → behind None (Some false) sight (at scene name i) cuts i (Some true) ≡ Some (truth_in v)
  condition i x cuts guards v is =
      guards sight (at scene name i) i (here i) ∙ value_then None sight (at scene name i) x v _ is ∙ as_truth (truth_in v)
    where
      as_truth : (b : Bool) → (if b then Some true else Some false) ≡ Some b
      as_truth true = refl
      as_truth false = refl

  condition_back : (i : ℤ) (x : Expression) (cuts : List Cut) → Guards name x cuts → (b : Bool)
      → behind None (Some false) sight (at scene name i) cuts i (Some true) ≡ Some b
      → (v : Value) × (value_at sight (at scene name i) x ≡ Some v) × (truth_in v ≡ b)
  condition_back i x cuts guards b is =
      let r =
      reached sight (at scene name i) x (λ v. if truth_in v then Some true else Some false) b
      (sym (guards sight (at scene name i) i (here i)) ∙ is) in
      (r.0, r.1, of_truth (truth_in r.0) r.2)
    where
      of_truth : (c : Bool) → (if c then Some true else Some false) ≡ Some b → c ≡ b
      of_truth true e = same_Some true b e
      of_truth false e = same_Some false b e

  -- behind guards
  owns_behind : (y : Range) (i : ℤ) (cuts : List Cut) (item : Item) (s : Span) (R : Amounts) (b : Bool) → Outcome cuts y i b
      → (b ≡ true → (z : Range) → IsOne z i → OwnsItem h.program flags sight scene name z item R)
      → OwnsItem h.program flags sight scene name y (Guarded cuts item s) R
  owns_behind y i cuts item s R true (z, to, one) owns = cut z to (owns refl z one)
  owns_behind y i cuts item s R false (inl to) owns = cut_off to
  owns_behind y i cuts item s R false (inr more) owns = cut more.0 more.1 (nothing more.2)

  -- a pure implication
  implied : (i : ℤ) (x y : Expression) (v : Value) → value_at sight (at scene name i) (Implies x y) ≡ Some v → truth_in v ≡ true
      → (w : Value) × (value_at sight (at scene name i) x ≡ Some w)
      × (truth_in w ≡ true → (u : Value) × (value_at sight (at scene name i) y ≡ Some u) × (truth_in u ≡ true))
  implied i x y v is t =
      let r =
      reached sight (at scene name i) x (λ w. if truth_in w then value_at sight (at scene name i) y else Some
      (value.Truth true)) v is in
      (r.0, r.1, λ on. (v, sym (ap (λ b. if b then value_at sight (at scene name i) y else Some (value.Truth true)) on) ∙ r.2, t))

  implied_back : (i : ℤ) (x y : Expression) (w : Value) → value_at sight (at scene name i) x ≡ Some w
      → (truth_in w ≡ true → (u : Value) × (value_at sight (at scene name i) y ≡ Some u) × (truth_in u ≡ true))
      → (v : Value) × (value_at sight (at scene name i) (Implies x y) ≡ Some v) × (truth_in v ≡ true)
  implied_back i x y w is on = go (truth_in w) refl
    where
      go : (b : Bool) → truth_in w ≡ b → (v : Value) × (value_at sight (at scene name i) (Implies x y) ≡ Some v)
          × (truth_in v ≡ true)
      go true t =
          let u = on t in (
            u.0,
            value_then None sight (at scene name i) x w _ is
                ∙ (ap (λ b. if b then value_at sight (at scene name i) y else Some (value.Truth true)) t ∙ u.1),
            u.2,
          )
      go false t = (
        value.Truth true,
        value_then None sight (at scene name i) x w _ is
            ∙ ap (λ b. if b then value_at sight (at scene name i) y else Some (value.Truth true)) t,
        refl,
      )

  -- an equality of the position
  position_is : (i : ℤ) (y : Expression) → Says h speech xs y Int → (v : Value)
      → value_at sight (at scene name i) (Equal true (Variable name) y) ≡ Some v
      → (w : Value) × (value_at sight scene y ≡ Some w) × (truth_in v ≡ same_number i (number_in w))
  position_is i y says v is =
      let r =
      reached sight (at scene name i) y (λ w. Some (value.Truth (equality true ((at scene name i).variables name.0) w))) v is
      in
      let o = outside i y Int says r.0 r.1 in (
        r.0,
        o,
        ap truth_in (sym (same_Some _ v r.2)) ∙ (ap (λ u. equality true u r.0) (here i)
            ∙ ap (equality true (value.Number i)) (numbered y says r.0 o)),
      )

  position_back : (i : ℤ) (y : Expression) → Says h speech xs y Int → (w : Value) → value_at sight scene y ≡ Some w
      → value_at sight (at scene name i) (Equal true (Variable name) y) ≡ Some (value.Truth (same_number i (number_in w)))
  position_back i y says w is =
      value_then None sight (at scene name i) y w _ (inside i y Int says w is)
      ∙ ap (λ b. Some (value.Truth b)) (ap (λ u. equality true u w) (here i)
      ∙ ap (equality true (value.Number i)) (numbered y says w is))

  owns_fixed : (y : Range) (i : ℤ) → IsOne y i → (e : Expression) (f : Formula) (s : Span) (R : Amounts) (w : Value)
      → value_at sight scene e ≡ Some w → (b : Bool) → same_number i (number_in w) ≡ b
      → (b ≡ true → Owns h.program flags sight (at scene name i) f R)
      → OwnsItem h.program flags sight scene name y (Fixed e f s) R
  owns_fixed y i one e f s R w is true same owns =
      fixed w is (subst (λ z. within y.low y.high z ≡ true) (numbers_same i (number_in w) same) (one_within y i one))
      (subst (λ z. Owns h.program flags sight (at scene name z) f R) (numbers_same i (number_in w) same) (owns refl))
  owns_fixed y i one e f s R w is false same owns = go (within y.low y.high (number_in w)) refl
    where
      go : (b : Bool) → within y.low y.high (number_in w) ≡ b → OwnsItem h.program flags sight scene name y (Fixed e f s) R
      go true v =
          let j = one_is y i (number_in w) one v in let t = subst (λ z. same_number z (number_in w) ≡ false) (sym j) same in
          let u = number_self (number_in w) in absurd (cc (t, u))
      go false v = beside w is v

  pub to_item : (i : ℤ) (f : Formula) (item : Item) → SameItem name f item → IsGoodItem h speech xs name item → (R : Amounts)
      → Owns h.program flags sight (at scene name i) f R
      → (y : Range) → IsOne y i → OwnsItem h.program flags sight scene name y item R
  to_item i _ _ (same_fact {e = e}) good R (fact v is t') y one =
      repeated (λ j w. subst (λ z. (x : Value) × (value_at sight (at scene name z) e ≡ Some x) × (truth_in x ≡ true))
      (sym (one_is y i j one w)) (v, is, t'))
  to_item i _ _ (same_element {type = type} {array = array} {shift = shift} {amount = amount} reads) good R
      (element a ix is_a is_i placed enough) y one =
      elements a (outside i array (array_of type) good.0 a is_a) (λ j w.
      let at_index : number_in ix ≡ i +ℤ shift =
      ap number_in (same_Some ix (value.Number (i +ℤ shift)) (sym is_i ∙ reads sight (at scene name i) i (here i))) in
      let same : number_in ix ≡ j = moved y i shift j one w (number_in ix) at_index in
      subst (λ z. IsPlaced sight.now (InElement type (reference_in a) z) × (amount ≤ R (InElement type (reference_in a) z))) same
      (placed, enough))
    where
      moved : (y : Range) (i shift j : ℤ) → IsOne y i → within (y.low +ℤ shift) (y.high +ℤ shift) j ≡ true → (z : ℤ) → z
          ≡ i +ℤ shift → z ≡ j
      moved y i shift j one w z e =
          let c = one.low in let d = one.high in
          let f =
          front (int_le (y.low +ℤ shift) j) (int_lt j (y.high +ℤ shift)) w in let g =
          back (int_le (y.low +ℤ shift) j) (int_lt j (y.high +ℤ shift)) w in omega (arith, ints)
  to_item i _ _ (same_committed {class = class} {e = e}) good R (known o is c flagged) y one =
      committed o (outside i e (Object class) good o is) flagged
  to_item i _ _ (same_committed {class = class} {e = e}) good R (holds o is apart named enough) y one = absurd (cc apart)
  to_item i _ _ (same_guarded {x = x} {cuts = cuts} {f = f} {i = item} {t = t} guards same) good R (when_on v is on owns) y one =
      owns_behind y i cuts item t R (truth_in v) (outcome i cuts good.0 (truth_in v) (condition i x cuts guards v is) y one)
      (λ b z o. to_item i f item same good.1 R owns z o)
  to_item i _ _ (same_guarded {x = x} {cuts = cuts} {f = f} {i = item} {t = t} guards same) good R (when_off v is off) y one =
      owns_behind y i cuts item t R (truth_in v) (outcome i cuts good.0 (truth_in v) (condition i x cuts guards v is) y one)
      (λ b z o. absurd (cc (b, off)))
  to_item i _ _ (same_pure {x = x} {y = e} {cuts = cuts} {i = item} {t = t} {u = u} guards same) good R (fact v is on) y one =
      let m = implied i x e v is on in
      owns_behind y i cuts item t R (truth_in m.0) (outcome i cuts good.0 (truth_in m.0)
      (condition i x cuts guards m.0 m.1) y one)
      (λ b z o. let k = m.2 b in to_item i (Fact e u) item same good.1 R (fact k.0 k.1 k.2) z o)
  to_item i _ _ (same_fixed {y = e} {f = f} {t = t}) good R (when_on v is on owns) y one =
      let m = position_is i e good.0 v is in owns_fixed y i one e f t R m.0 m.1 (same_number i (number_in m.0)) refl (λ b. owns)
  to_item i _ _ (same_fixed {y = e} {f = f} {t = t}) good R (when_off v is off) y one =
      let m =
      position_is i e good.0 v is in owns_fixed y i one e f t R m.0 m.1 (same_number i (number_in m.0)) refl
      (λ b. let k = m.2 in absurd (cc (b, k, off)))
  to_item i _ _ (same_fixed_fact {y = e} {z = z} {t = t} {u = u}) good R (fact v is on) y one =
      let k = implied i (Equal true (Variable name) e) z v is on in
      let m = position_is i e good.0 k.0 k.1 in
      owns_fixed y i one e (Fact z u) t R m.0 m.1 (same_number i (number_in m.0)) refl
      (λ b. let w = k.2 (m.2 ∙ b) in fact w.0 w.1 w.2)

  -- And back

  -- where guards leave a position it is owned, and where they don't the condition is false
  record Behind (i : ℤ) (x : Expression) (item : Item) (R : Amounts) : Type 0 where
    value : Value
    is : value_at sight (at scene name i) x ≡ Some value
    on : truth_in value ≡ true → (z : Range) × IsOne z i × OwnsItem h.program flags sight scene name z item R

  behind_is : (i : ℤ) (x : Expression) (cuts : List Cut) → Guards name x cuts → AreGoodCuts h speech xs cuts
      → (item : Item) (s : Span) (R : Amounts) (y : Range) → IsOne y i
      → OwnsItem h.program flags sight scene name y (Guarded cuts item s) R → Behind i x item R
  behind_is i x cuts guards good item s R y one owns = go (guarded_at h.program flags sight scene name cuts item s R y i one owns)
    where
      off : (b : Bool) → behind None (Some false) sight (at scene name i) cuts i (Some true) ≡ Some b → b ≡ false
          → Behind i x item R
      off b is e =
          let c = condition_back i x cuts guards b is in record {
            value = c.0;
            is = c.1;
            on = λ t. let u = c.2 in
                absurd (cc (t, u, e));
          }

      some : (z : Range) → OwnsItem h.program flags sight scene name z item R → (b : Bool)
          → behind None (Some false) sight (at scene name i) cuts i (Some true) ≡ Some b → Left (Some z) i b → Behind i x item R
      some z owns true is j =
          let c = condition_back i x cuts guards true is in record { value = c.0; is = c.1; on = λ t. (z, j, owns) }
      some z owns false is j = off false is refl

      go : (CutsTo sight scene cuts y None ⊎ ((z : Range) × CutsTo sight scene cuts y (Some z)
          × OwnsItem h.program flags sight scene name z item R)) → Behind i x item R
      go (inl to) = let l = left i cuts good y one None to in off l.0 l.1 l.2
      go (inr (z, to, owns)) = let l = left i cuts good y one (Some z) to in some z owns l.0 l.1 l.2

  owns_when : (i : ℤ) (x : Expression) (f : Formula) (s : Span) (R : Amounts) (v : Value) → value_at sight (at scene name i) x
      ≡ Some v
      → (truth_in v ≡ true → Owns h.program flags sight (at scene name i) f R)
      → Owns h.program flags sight (at scene name i) (When x f s) R
  owns_when i x f s R v is owns = go (truth_in v) refl
    where
      go : (b : Bool) → truth_in v ≡ b → Owns h.program flags sight (at scene name i) (When x f s) R
      go true t = when_on v is t (owns t)
      go false t = when_off v is t

  fact_of : (i : ℤ) (e : Expression) (s : Span) (R : Amounts) → Owns h.program flags sight (at scene name i) (Fact e s) R
      → (v : Value) × (value_at sight (at scene name i) e ≡ Some v) × (truth_in v ≡ true)
  fact_of i e s R (fact v is t) = (v, is, t)

  owns_implied : (i : ℤ) (x e : Expression) (s u : Span) (R : Amounts) (v : Value) → value_at sight (at scene name i) x ≡ Some v
      → (truth_in v ≡ true → Owns h.program flags sight (at scene name i) (Fact e u) R)
      → Owns h.program flags sight (at scene name i) (Fact (Implies x e) s) R
  owns_implied i x e s u R v is owns = let w = implied_back i x e v is (λ t. fact_of i e u R (owns t)) in fact w.0 w.1 w.2

  at_same : (i : ℤ) (f : Formula) (R : Amounts) (w : Value)
      → (i ≡ number_in w → Owns h.program flags sight (at scene name (number_in w)) f R)
      → same_number i (number_in w) ≡ true → Owns h.program flags sight (at scene name i) f R
  at_same i f R w owns same =
      let e = numbers_same i (number_in w) same in subst (λ z. Owns h.program flags sight (at scene name z) f R) (sym e) (owns e)

  pub from_item : (i : ℤ) (f : Formula) (item : Item) → SameItem name f item → IsGoodItem h speech xs name item
      → (R : Amounts) (y : Range) → IsOne y i
      → OwnsItem h.program flags sight scene name y item R → Owns h.program flags sight (at scene name i) f R
  from_item i _ _ (same_fact {e = e} {s = s}) good R y one owns =
      let v = repeated_at h.program flags sight scene name e s R y i one owns in fact v.0 v.1 v.2
  from_item i _ _ (same_element {type = type} {array = array} {shift = shift} {amount = amount} {s = s} reads) good R y one owns =
      let e = elements_at h.program flags sight scene name type array shift amount s R y i one owns in
      element e.0 (value.Number (i +ℤ shift)) (inside i array (array_of type) good.0 e.0 e.1)
      (reads sight (at scene name i) i (here i)) e.2 e.3
  from_item i _ _ (same_committed {class = class} {e = e} {s = s}) good R y one owns =
      let o =
      committed_at h.program flags sight scene name class e s R y i one owns in
      known o.0 (inside i e (Object class) good o.0 o.1) refl o.2
  from_item i _ _ (same_guarded {x = x} {cuts = cuts} {f = f} {i = item} {s = s} {t = t} guards same) good R y one owns =
      let b = behind_is i x cuts guards good.0 item t R y one owns in
      owns_when i x f s R b.value b.is (λ on. let z = b.on on in from_item i f item same good.1 R z.0 z.1 z.2)
  from_item i _ _ (same_pure {x = x} {y = e} {cuts = cuts} {i = item} {s = s} {t = t} {u = u} guards same) good R y one owns =
      let b = behind_is i x cuts guards good.0 item t R y one owns in
      owns_implied i x e s u R b.value b.is (λ on. let z = b.on on in from_item i (Fact e u) item same good.1 R z.0 z.1 z.2)
  from_item i _ _ (same_fixed {y = e} {f = f} {s = s} {t = t}) good R y one owns =
      let w = fixed_at h.program flags sight scene name e f t R y i one owns in
      owns_when i (Equal true (Variable name) e) f s R (value.Truth (same_number i (number_in w.0)))
      (position_back i e good.0 w.0 w.1) (at_same i f R w.0 w.2)
  from_item i _ _ (same_fixed_fact {y = e} {z = z} {s = s} {t = t} {u = u}) good R y one owns =
      let w = fixed_at h.program flags sight scene name e (Fact z u) t R y i one owns in
      owns_implied i (Equal true (Variable name) e) z s u R (value.Truth (same_number i (number_in w.0)))
      (position_back i e good.0 w.0 w.1) (at_same i (Fact z u) R w.0 w.2)

  -- Items

  good_parts : (is js : Items) → AreGoodItems h speech xs name (together is js) → AreGoodItems h speech xs name is
      × AreGoodItems h speech xs name js
  good_parts NoItems js good = (tt, good)
  good_parts (Join i is) js good = let g = good_parts is js good.1 in ((good.0, g.0), g.1)

  abbrev OwnsAt : ℤ → Items → Amounts → Type 0
  OwnsAt i is R = OwnsItems h.program flags sight scene name i (i +ℤ pos 1) is R

  owns_both : (i : ℤ) (is js : Items) (A B R : Amounts) → OwnsAt i is A → OwnsAt i js B → ((q : Resource) → A q + B q ≤ R q)
      → OwnsAt i (together is js) R
  owns_both i NoItems js A B R first second parts =
      items_more h.program flags sight R (λ q. let k = parts q in omega (arith, k)) second
  owns_both i (Join x is) js A B R (joined C D one rest own) second parts =
      joined C (λ q. D q + B q) one (owns_both i is js D B (λ q. D q + B q) rest second (λ q. omega arith))
      (λ q. let k = parts q in let l = own q in omega (arith, k, l))

  record Both (i : ℤ) (is js : Items) (R : Amounts) : Type 0 where
    A : Amounts
    B : Amounts
    first : OwnsAt i is A
    second : OwnsAt i js B
    parts : (q : Resource) → A q + B q ≤ R q

  both_of : (i : ℤ) (is js : Items) (R : Amounts) → OwnsAt i (together is js) R → Both i is js R
  both_of i NoItems js R owns = record { A = λ q. 0; B = R; first = no_items; second = owns; parts = λ q. omega arith }
  both_of i (Join x is) js R (joined C D one rest own) = go (both_of i is js D rest)
    where
      go : Both i is js D → Both i (Join x is) js R
      go b = record {
        A = λ q. C q + b.A q;
        B = b.B;
        first = joined C b.A one b.first (λ q. omega arith);
        second = b.second;
        parts = λ q. let k = b.parts q in let l = own q in omega (arith, k, l);
      }

  pub to_items : (i : ℤ) (f : Formula) (is : Items) → SameItems name f is → AreGoodItems h speech xs name is → (R : Amounts)
      → Owns h.program flags sight (at scene name i) f R → OwnsAt i is R
  to_items i _ _ same_nothing good R owns = no_items
  to_items i _ _ (same_alone {f = f} {i = item} same) good R owns =
      joined R (λ q. 0) (to_item i f item same good.0 R owns (range_of i (i +ℤ pos 1)) (range_one i)) no_items (λ q. omega arith)
  to_items i _ _ (same_together {f = f} {g = g} {is = is} {js = js} one other) good R (star A B first second parts) =
      let k = good_parts is js good in
      owns_both i is js A B R (to_items i f is one k.0 A first) (to_items i g js other k.1 B second) parts

  pub from_items : (i : ℤ) (f : Formula) (is : Items) → SameItems name f is → AreGoodItems h speech xs name is → (R : Amounts)
      → OwnsAt i is R → Owns h.program flags sight (at scene name i) f R
  from_items i _ _ same_nothing good R owns = fact (value.Truth true) refl refl
  from_items i _ _ (same_alone {f = f} {i = item} same) good R (joined A B first second parts) =
      owns_more h.program flags sight R (λ q. let k = parts q in omega (arith, k))
      (from_item i f item same good.0 A (range_of i (i +ℤ pos 1)) (range_one i) first)
  from_items i _ _ (same_together {f = f} {g = g} {is = is} {js = js} one other) good R owns =
      let k = good_parts is js good in
      let b = both_of i is js R owns in
      star b.A b.B (from_items i f is one k.0 b.A b.first) (from_items i g js other k.1 b.B b.second) b.parts
