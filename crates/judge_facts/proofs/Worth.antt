-- The value of an expression of a fact: what its test comes to, and where it is the same at two positions.
use Rattle.std.proofs.Common.{◌≡◌, ℕ, ℤ, pos, Bool, true, false, ◌||◌, if◌then◌else◌, Option, Some, None, List, refl, ap, sym, ◌∙◌, ◌⊎◌, inl, inr, rules, arith}
use Rattle.std.specs.Prelude.{nat_eq, not, ◌+ℤ◌, ◌-ℤ◌}
use Rattle.std.proofs.lemmas.Int.{ints}
use Rattle.pv_base.specs.declared.Name.{Name}
use Rattle.pv_base.specs.declared.Span.{Span}
use Rattle.pv_ast.specs.declared.PvType.{PvType}
use Rattle.pv_values.specs.declared.value.Value.{Value}
use Rattle.pv_values.specs.declared.value.Value.TheVariants as value
use Rattle.pv_base.specs.Names.{same_name}
use Rattle.pv_picks.specs.declared.evidence.Entry.{Entry}
use Rattle.pv_picks.specs.Plain.Core.{Operation, Plus, Minus, Times, Manner, Plain, Tabled, Expression, Constant, This, Result, Variable, Field, Element, Length, Not, Compute, Compare, Equal, And, Or, Implies, Old}
use Rattle.pv_picks.specs.Formulas.Values.{Variables, number_in, truth_in, reference_in, arithmetic, comparison, equality, at_position}
use Rattle.pv_picks.specs.Formulas.Evaluation.{Scene, evaluate}
use Rattle.pv_picks.specs.Judge.States.{State, Cell, Cells, InField, InElement}
use Rattle.pv_picks.specs.Judge.Repetitions.{shift_in, shift_if, shift_by, is_position, constant_in}
use Rattle.pv_picks.specs.Judge.Runs.{Maps, content}
use Rattle.pv_picks.specs.Judge.Steady.{IsTerm, Steady}
use Rattle.judge_laws.specs.Options.{or_none}
use Rattle.judge_facts.specs.Fair.{Covered, content_of, operated, worth}
use Rattle.judge_laws.proofs.Judging as judging

pub neither : (a b : Bool) → (a || b) ≡ false → (a ≡ false) × (b ≡ false)
neither true b h = absurd (cc h)
neither false b h = (refl, h)

chain_none : {A B C : Type 0} (o : Option A) (g : A → Option B) (f : B → Option C)
    → or_none (or_none o g) f ≡ or_none o (λ x. or_none (g x) f)
chain_none None g f = refl
chain_none (Some a) g f = refl

each_none : {A B : Type 0} (o : Option A) (f g : A → Option B) → ((x : A) → f x ≡ g x) → or_none o f ≡ or_none o g
each_none None f g h = refl
each_none (Some a) f g h = h a

each_known : {A B : Type 0} (o : Option A) (f g : A → Option B) → ((x : A) → o ≡ Some x → f x ≡ g x) → or_none o f ≡ or_none o g
each_known None f g h = refl
each_known (Some a) f g h = h a refl

if_none : {A B : Type 0} (b : Bool) (u w : Option A) (l r : Option B) (f : A → Option B) → l ≡ or_none u f → r ≡ or_none w f
    → (if b then l else r) ≡ or_none (if b then u else w) f
if_none true u w l r f h k = h
if_none false u w l r f h k = k

one_same : {A B : Type 0} (o p : Option A) (g : A → Option B) → o ≡ p → or_none o g ≡ or_none p g
one_same o p g h = ap (λ z. or_none z g) h

choice_same : {A B C : Type 0} (o p : Option A) (u w : B) (f : B → A → Option C) → o ≡ p → u ≡ w
    → or_none o (f u) ≡ or_none p (f w)
choice_same o p u w f h k = ap (λ z. or_none z (f u)) h ∙ ap (λ z. or_none p (f z)) k

two_same : {A B C : Type 0} (o p : Option A) (u w : Option B) (g : A → B → Option C) → o ≡ p → u ≡ w
    → or_none o (λ x. or_none u (g x)) ≡ or_none p (λ x. or_none w (g x))
two_same o p u w g h k = ap (λ z. or_none z (λ x. or_none u (g x))) h ∙ ap (λ z. or_none p (λ x. or_none z (g x))) k

module _ (maps : Maps) (table : List Entry) (s : State) where
  content_none : (c : Option Cell) (f : Value → Option Value)
      → or_none c (λ x. f (content maps x)) ≡ or_none (content_of maps c) f
  content_none None f = refl
  content_none (Some c) f = refl

  length_none : (b : Bool) (o : Option ℤ) (f : Value → Option Value)
      → (if b then None else or_none o (λ n. f (value.Number n))) ≡ or_none
      (if b then None else or_none o (λ n. Some (value.Number n))) f
  length_none true o f = refl
  length_none false None f = refl
  length_none false (Some n) f = refl

  manner_none : (m : Manner) (o : Operation) (a b : ℤ) (p : Span) (f : ℤ → Option Value)
      → judging.purely maps table m o a b p f ≡ f (operated table m o a b)
  manner_none Plain o a b p f = refl
  manner_none Tabled o a b p f = refl

  abbrev W : Cells → Cells → Scene → Expression → Option Value
  W now old x e = worth maps table s now old x e

  abbrev E : Cells → Cells → Scene → Expression → (Value → Option Value) → Option Value
  E now old x e f = evaluate (judging.pure maps table s now) (judging.pure maps table s old) x e f

  -- evaluation is the value, and then what comes next
  pub direct : (now old : Cells) (x : Scene) (e : Expression) (f : Value → Option Value)
      → E now old x e f ≡ or_none (W now old x e) f
  direct now old x (Constant v) f = refl
  direct now old x This f = refl
  direct now old x Result f = refl
  direct now old x (Variable n) f = refl
  direct now old x (Field e c n p) f =
      direct now old x e (λ o. or_none (now (InField c (reference_in o) n)) (λ y. f (content maps y)))
      ∙ each_none (W now old x e) _ _ (λ o. content_none (now (InField c (reference_in o) n)) f)
      ∙ sym (chain_none (W now old x e) _ f)
  direct now old x (Element t a i p) f =
      direct now old x a
      (λ v. E now old x i (λ w. or_none (now (InElement t (reference_in v) (number_in w))) (λ y. f (content maps y))))
      ∙ each_none (W now old x a) _ _ (λ v.
      direct now old x i (λ w. or_none (now (InElement t (reference_in v) (number_in w))) (λ y. f (content maps y)))
      ∙ each_none (W now old x i) _ _ (λ w. content_none (now (InElement t (reference_in v) (number_in w))) f)
      ∙ sym (chain_none (W now old x i) _ f))
      ∙ sym (chain_none (W now old x a) _ f)
  direct now old x (Length t a p) f =
      direct now old x a
      (λ v. if nat_eq (reference_in v) 0 then None else or_none (s.lengths t (reference_in v)) (λ n. f (value.Number n)))
      ∙ each_none (W now old x a) _ _ (λ v. length_none (nat_eq (reference_in v) 0) (s.lengths t (reference_in v)) f)
      ∙ sym (chain_none (W now old x a) _ f)
  direct now old x (Not e) f = direct now old x e (λ v. f (value.Truth (not (truth_in v)))) ∙ sym (chain_none (W now old x e) _ f)
  direct now old x (Compute m o a b p) f =
      direct now old x a
      (λ v. E now old x b (λ w. judging.purely maps table m o (number_in v) (number_in w) p (λ z. f (value.Number z))))
      ∙ each_none (W now old x a) _ _ (λ v.
      direct now old x b (λ w. judging.purely maps table m o (number_in v) (number_in w) p (λ z. f (value.Number z)))
      ∙ each_none (W now old x b) _ _ (λ w. manner_none m o (number_in v) (number_in w) p (λ z. f (value.Number z)))
      ∙ sym (chain_none (W now old x b) _ f))
      ∙ sym (chain_none (W now old x a) _ f)
  direct now old x (Compare o a b) f =
      direct now old x a (λ v. E now old x b (λ w. f (value.Truth (comparison o (number_in v) (number_in w)))))
      ∙ each_none (W now old x a) _ _ (λ v. direct now old x b (λ w. f (value.Truth (comparison o (number_in v) (number_in w))))
      ∙ sym (chain_none (W now old x b) _ f))
      ∙ sym (chain_none (W now old x a) _ f)
  direct now old x (Equal o a b) f =
      direct now old x a (λ v. E now old x b (λ w. f (value.Truth (equality o v w))))
      ∙ each_none (W now old x a) _ _
      (λ v. direct now old x b (λ w. f (value.Truth (equality o v w))) ∙ sym (chain_none (W now old x b) _ f))
      ∙ sym (chain_none (W now old x a) _ f)
  direct now old x (And a b) f =
      direct now old x a (λ v. if truth_in v then E now old x b f else f (value.Truth false))
      ∙ each_none (W now old x a) _ _
      (λ v. if_none (truth_in v) (W now old x b) (Some (value.Truth false)) _ _ f (direct now old x b f) refl)
      ∙ sym (chain_none (W now old x a) _ f)
  direct now old x (Or a b) f =
      direct now old x a (λ v. if truth_in v then f (value.Truth true) else E now old x b f)
      ∙ each_none (W now old x a) _ _
      (λ v. if_none (truth_in v) (Some (value.Truth true)) (W now old x b) _ _ f refl (direct now old x b f))
      ∙ sym (chain_none (W now old x a) _ f)
  direct now old x (Implies a b) f =
      direct now old x a (λ v. if truth_in v then E now old x b f else f (value.Truth true))
      ∙ each_none (W now old x a) _ _
      (λ v. if_none (truth_in v) (W now old x b) (Some (value.Truth true)) _ _ f (direct now old x b f) refl)
      ∙ sym (chain_none (W now old x a) _ f)
  direct now old x (Old e) f = direct old old x e f

  -- scenes that are the same but for the position
  pub record AgreeBut (name : Name) (x y : Scene) : Type 0 where
    pub this : x.this ≡ y.this
    pub result : x.result ≡ y.result
    pub variables : (z : Name) → same_name name z ≡ false → x.variables z.0 ≡ y.variables z.0

  pub term_same : (name : Name) (now old : Cells) (x y : Scene) → AgreeBut name x y → (e : Expression) → IsTerm name e
      → W now old x e ≡ W now old y e
  term_same name now old x y g (Constant v) h = refl
  term_same name now old x y g This h = ap (λ (n : ℕ). Some (value.Reference n)) g.this
  term_same name now old x y g Result h = ap (λ (v : Value). Some v) g.result
  term_same name now old x y g (Variable z) h = ap (λ (v : Value). Some v) (g.variables z h)
  term_same name now old x y g (Field e c n p) h = one_same _ _ _ (term_same name now old x y g e h)
  term_same name now old x y g (Element t a i p) h =
      two_same _ _ _ _ _ (term_same name now old x y g a (neither _ _ h).0) (term_same name now old x y g i (neither _ _ h).1)
  term_same name now old x y g (Length t a p) h = one_same _ _ _ (term_same name now old x y g a h)
  term_same name now old x y g (Not e) h = one_same _ _ _ (term_same name now old x y g e h)
  term_same name now old x y g (Compute m o a b p) h =
      two_same _ _ _ _ _ (term_same name now old x y g a (neither _ _ h).0) (term_same name now old x y g b (neither _ _ h).1)
  term_same name now old x y g (Compare o a b) h =
      two_same _ _ _ _ _ (term_same name now old x y g a (neither _ _ h).0) (term_same name now old x y g b (neither _ _ h).1)
  term_same name now old x y g (Equal o a b) h =
      two_same _ _ _ _ _ (term_same name now old x y g a (neither _ _ h).0) (term_same name now old x y g b (neither _ _ h).1)
  term_same name now old x y g (And a b) h =
      choice_same _ _ _ _ (λ u v. if truth_in v then u else Some (value.Truth false))
      (term_same name now old x y g a (neither _ _ h).0)
      (term_same name now old x y g b (neither _ _ h).1)
  term_same name now old x y g (Or a b) h =
      choice_same _ _ _ _ (λ u v. if truth_in v then Some (value.Truth true) else u)
      (term_same name now old x y g a (neither _ _ h).0)
      (term_same name now old x y g b (neither _ _ h).1)
  term_same name now old x y g (Implies a b) h =
      choice_same _ _ _ _ (λ u v. if truth_in v then u else Some (value.Truth true))
      (term_same name now old x y g a (neither _ _ h).0)
      (term_same name now old x y g b (neither _ _ h).1)
  term_same name now old x y g (Old e) h = term_same name old old x y g e h

  -- a scene with a number for the position
  abbrev pub placed : Scene → Name → ℤ → Scene
  placed x name i = record { this = x.this; variables = at_position x.variables name i; result = x.result }

  position_there : (variables : Variables) (name x : Name) (i : ℤ) → same_name name x ≡ true
      → at_position variables name i x.0 ≡ value.Number i
  position_there variables name x i h = search (rules)

  position_elsewhere : (variables : Variables) (name x : Name) (i : ℤ) → same_name name x ≡ false
      → at_position variables name i x.0 ≡ variables x.0
  position_elsewhere variables name x i h = search (rules)

  pub placed_agrees : (x : Scene) (name : Name) (i : ℤ) → AgreeBut name (placed x name i) x
  placed_agrees x name i = record { this = refl; result = refl; variables = λ z h. position_elsewhere x.variables name z i h }

  pub both_agree : (x : Scene) (name : Name) (i j : ℤ) → AgreeBut name (placed x name i) (placed x name j)
  both_agree x name i j =
      record {
        this = refl;
        result = refl;
        variables = λ z h. position_elsewhere x.variables name z i h
            ∙ sym (position_elsewhere x.variables name z j h);
      }

  -- an index with the position

  some_same : (x y : ℤ) → Some x ≡ Some y → x ≡ y
  some_same x y h = cc h

  position_worth : (now old : Cells) (x : Scene) (name : Name) (i : ℤ) (a : Expression) → is_position name a ≡ true
      → W now old (placed x name i) a ≡ Some (value.Number i)
  position_worth now old x name i (Variable z) h = ap (λ (v : Value). Some v) (position_there x.variables name z i h)
  position_worth now old x name i a h = absurd (cc h)

  constant_worth : (now old : Cells) (x : Scene) (b : Expression) (z : ℤ) → constant_in b ≡ Some z
      → W now old x b ≡ Some (value.Number z)
  constant_worth now old x (Constant (value.Number w)) z h = ap (λ (n : ℤ). Some (value.Number n)) (some_same w z h)
  constant_worth now old x b z h = absurd (cc h)

  shifted_by : (o : Operation) (i z shift : ℤ) → shift_by o z ≡ Some shift → arithmetic o i z ≡ i +ℤ shift
  shifted_by Plus i z shift h = ap (λ (n : ℤ). i +ℤ n) (some_same z shift h)
  shifted_by Minus i z shift h = let e = some_same (pos 0 -ℤ z) shift h in omega (arith, ints, e)
  shifted_by Times i z shift h = absurd (cc h)

  pub shift_worth : (now old : Cells) (x : Scene) (name : Name) (i shift : ℤ) (e : Expression) → shift_in name e ≡ Some shift
      → W now old (placed x name i) e ≡ Some (value.Number (i +ℤ shift))
  shift_worth now old x name i shift (Variable z) h = go (same_name name z) refl h
    where
      go : (b : Bool) → same_name name z ≡ b → (if b then Some (pos 0) else None) ≡ Some shift
          → W now old (placed x name i) (Variable z) ≡ Some (value.Number (i +ℤ shift))
      go true k h =
          ap (λ (v : Value). Some v) (position_there x.variables name z i k)
          ∙ ap (λ (n : ℤ). Some (value.Number n)) (let e = some_same (pos 0) shift h in omega (arith, ints, e))
      go false k h = absurd (cc h)
  shift_worth now old x name i shift (Compute Plain o a b p) h = go (is_position name a) (constant_in b) refl refl h
    where
      go : (t : Bool) (c : Option ℤ) → is_position name a ≡ t → constant_in b ≡ c → shift_if t o c ≡ Some shift
          → W now old (placed x name i) (Compute Plain o a b p) ≡ Some (value.Number (i +ℤ shift))
      go true (Some z) k l h =
          two_same _ (Some (value.Number i)) _ (Some (value.Number z)) _ (position_worth now old x name i a k)
          (constant_worth now old (placed x name i) b z l)
          ∙ ap (λ (n : ℤ). Some (value.Number n)) (shifted_by o i z shift h)
      go true None k l h = absurd (cc h)
      go false c k l h = absurd (cc h)
  shift_worth now old x name i shift e h = absurd (cc h)

  -- the value of a steady expression at two positions at which its arrays have the same elements
  module _ (x : Scene) (name : Name) (shift i j : ℤ) (Q : PvType → ℕ → Type 0) where
    abbrev pub AlikeAt : Cells → Type 0
    AlikeAt cells =
        (t : PvType) (a : ℕ) → Q t a
        → content_of maps (cells (InElement t a (i +ℤ shift))) ≡ content_of maps (cells (InElement t a (j +ℤ shift)))

    abbrev Read : Cells → PvType → Option Value → Value → Option Value
    Read now t o v = or_none o (λ w. content_of maps (now (InElement t (reference_in v) (number_in w))))

    read_same : (now old : Cells) (t : PvType) (index : Expression) (v : Value) → AlikeAt now
        → IsTerm name index ⊎ (shift_in name index ≡ Some shift) → IsTerm name index ⊎ Q t (reference_in v)
        → Read now t (W now old (placed x name i) index) v ≡ Read now t (W now old (placed x name j) index) v
    read_same now old t index v h (inl l) q =
        one_same _ _ _ (term_same name now old (placed x name i) (placed x name j) (both_agree x name i j) index l)
    read_same now old t index v h (inr k) (inl l) =
        one_same _ _ _ (term_same name now old (placed x name i) (placed x name j) (both_agree x name i j) index l)
    read_same now old t index v h (inr k) (inr q) =
        one_same _ (Some (value.Number (i +ℤ shift))) _ (shift_worth now old x name i shift index k) ∙ h t (reference_in v) q
        ∙ sym (one_same _ (Some (value.Number (j +ℤ shift))) _ (shift_worth now old x name j shift index k))

    pub steady_same : (now old : Cells) → AlikeAt now → AlikeAt old → (e : Expression) → Steady name shift e
        → Covered maps table s now old x name Q e
        → W now old (placed x name i) e ≡ W now old (placed x name j) e
    steady_same now old g h (Constant v) k c = refl
    steady_same now old g h This k c = refl
    steady_same now old g h Result k c = refl
    steady_same now old g h (Variable z) k c =
        term_same name now old (placed x name i) (placed x name j) (both_agree x name i j) (Variable z) k
    steady_same now old g h (Field e d n p) k c = one_same _ _ _ (steady_same now old g h e k c)
    steady_same now old g h (Element t a index p) k c =
        one_same (W now old (placed x name i) a) (W now old x a) (Read now t (W now old (placed x name i) index))
        (term_same name now old (placed x name i) x (placed_agrees x name i) a k.0)
        ∙ each_known (W now old x a) _ _ (λ v e. read_same now old t index v g k.1 (c v e))
        ∙ sym (one_same (W now old (placed x name j) a) (W now old x a) (Read now t (W now old (placed x name j) index))
        (term_same name now old (placed x name j) x (placed_agrees x name j) a k.0))
    steady_same now old g h (Length t a p) k c = one_same _ _ _ (steady_same now old g h a k c)
    steady_same now old g h (Not e) k c = one_same _ _ _ (steady_same now old g h e k c)
    steady_same now old g h (Compute m o a b p) k c =
        two_same _ _ _ _ _ (steady_same now old g h a k.0 c.0) (steady_same now old g h b k.1 c.1)
    steady_same now old g h (Compare o a b) k c =
        two_same _ _ _ _ _ (steady_same now old g h a k.0 c.0) (steady_same now old g h b k.1 c.1)
    steady_same now old g h (Equal o a b) k c =
        two_same _ _ _ _ _ (steady_same now old g h a k.0 c.0) (steady_same now old g h b k.1 c.1)
    steady_same now old g h (And a b) k c =
        choice_same _ _ _ _ (λ u v. if truth_in v then u else Some (value.Truth false)) (steady_same now old g h a k.0 c.0)
        (steady_same now old g h b k.1 c.1)
    steady_same now old g h (Or a b) k c =
        choice_same _ _ _ _ (λ u v. if truth_in v then Some (value.Truth true) else u) (steady_same now old g h a k.0 c.0)
        (steady_same now old g h b k.1 c.1)
    steady_same now old g h (Implies a b) k c =
        choice_same _ _ _ _ (λ u v. if truth_in v then u else Some (value.Truth true)) (steady_same now old g h a k.0 c.0)
        (steady_same now old g h b k.1 c.1)
    steady_same now old g h (Old e) k c = steady_same old old h h e k c
