-- Looking ahead: what is made of the arrays that are looked at, and that what is looked at once for all positions is named.
use Rattle.std.proofs.Common.{◌≡◌, ℕ, ℤ, pos, Bool, true, false, ◌&&◌, if◌then◌else◌, Option, Some, None, List, [], ◌∷◌, refl, ap, sym, subst, ◌∙◌, inl, inr}
use Rattle.std.specs.Prelude.{int_le, nat_eq}
use Rattle.pv_base.specs.declared.Span.{Span}
use Rattle.pv_ast.specs.declared.PvType.{PvType}
use Rattle.pv_values.specs.declared.value.Value.{Value}
use Rattle.pv_values.specs.declared.value.Value.TheVariants as value
use Rattle.pv_picks.specs.declared.evidence.Entry.{Entry}
use Rattle.pv_picks.specs.Plain.Core.{Operation, Manner, Plain, Tabled, Expression, Constant, This, Result, Variable, Field, Element, Length, Not, Compute, Compare, Equal, And, Or, Implies, Old}
use Rattle.pv_picks.specs.Formulas.Values.{truth_in, reference_in, number_in, comparison, equality}
use Rattle.pv_ast.specs.Rules.Typing.{same_type}
use Rattle.pv_picks.specs.Formulas.Evaluation.{Scene, evaluate}
use Rattle.pv_picks.specs.Judge.States.{State, InField, InElement, Cell, Cells, Bind, cells_of, with_length}
use Rattle.pv_picks.specs.Judge.Settings.{Setting, Next, AtArray, ArrayPart, ends_of, known_or_picked, look_at_length, or_missing, operate, formula_reader}
use Rattle.pv_picks.specs.Judge.Repetitions.{cells_at, Range, Look, AtElements, AtElement, AtLength, AtTerm, look_ahead}
use Rattle.pv_picks.specs.Judge.Runs.{Maps, content}
use Rattle.judge_laws.specs.Options.{or_none}
use Rattle.pv_picks.proofs.Sames.{front, back, naturals_same, types_same}
use Rattle.judge_facts.specs.Fair.{content_of, operated, worth}
use Rattle.judge_facts.specs.Shapes.{IsPlace, Places}
use Rattle.judge_facts.proofs.Joining.{array_itself}
use Rattle.judge_facts.proofs.Keeping.{Kept, IsKept, IsClosed, SameCells, cells_same, Parted, Made, Looked, if_kept}

-- lengths that were known are known
abbrev pub Later : State → State → Type 0
Later s u = (t : PvType) (a : ℕ) (n : ℤ) → s.lengths t a ≡ Some n → u.lengths t a ≡ Some n

pub later_same : (s : State) → Later s s
later_same s t a n h = h

pub later_on : (s t u : State) → Later s t → Later t u → Later s u
later_on s t u h k x a n e = k x a n (h x a n e)

length_later : (s : State) (t : PvType) (a : ℕ) (z : ℤ) → s.lengths t a ≡ None → Later s (with_length s t a z)
length_later s t a z none u b n e = go (same_type u t && nat_eq b a) refl
  where
    go : (c : Bool) → (same_type u t && nat_eq b a) ≡ c → (if c then Some z else s.lengths u b) ≡ Some n
    go true h =
        let x : s.lengths u a ≡ Some n =
        subst (λ (y : ℕ). s.lengths u y ≡ Some n) (naturals_same b a (back (same_type u t) _ h)) e in
        let y : s.lengths t a ≡ Some n = subst (λ (y : PvType). s.lengths y a ≡ Some n) (types_same u t (front _ _ h)) x in
        absurd (cc (sym none ∙ y))
    go false h = e

length_there : (s : State) (t : PvType) (a : ℕ) (z : ℤ) → (with_length s t a z).lengths t a ≡ Some z
length_there s t a z = go (same_type t t && nat_eq a a) (array_itself (t, a))
  where
    go : (c : Bool) → c ≡ true → (if c then Some z else s.lengths t a) ≡ Some z
    go true h = refl
    go false h = absurd (cc h)

-- a place has one value, whatever lengths and tables are
pub place_worth : (maps : Maps) (one other : List Entry) (s t : State) (now old : Cells) (x : Scene) (e : Expression) → IsPlace e
    → worth maps one s now old x e ≡ worth maps other t now old x e
place_worth maps one other s t now old x (Constant v) h = refl
place_worth maps one other s t now old x This h = refl
place_worth maps one other s t now old x Result h = refl
place_worth maps one other s t now old x (Variable z) h = refl
place_worth maps one other s t now old x (Field e d z p) h =
    ap (λ o. or_none o (λ o. content_of maps (now (InField d (reference_in o) z)))) (place_worth maps one other s t now old x e h)
place_worth maps one other s t now old x (Old e) h = place_worth maps one other s t old old x e h
place_worth maps one other s t now old x e h = absurd h

some_same : (v w : Value) → Some v ≡ Some w → v ≡ w
some_same v w h = cc h

module _ (maps : Maps) where
  parted_more : (s : State) (b : Bind) (ls : List Look) (ps : List ArrayPart) (p : ArrayPart) → Parted maps s b ls ps
      → Parted maps s b ls (p ∷ ps)
  parted_more s b [] ps p h = tt
  parted_more s b (AtElements t a z ∷ ls) ps p h = (λ v e. inr (h.0 v e), parted_more s b ls ps p h.1)
  parted_more s b (AtElement was t a i ∷ ls) ps p h = parted_more s b ls ps p h
  parted_more s b (AtLength t a ∷ ls) ps p h = parted_more s b ls ps p h
  parted_more s b (AtTerm e ∷ ls) ps p h = parted_more s b ls ps p h

  made_none : (s : State) (b : Bind) (t : PvType) (a : Expression) (z : ℤ) (ls : List Look) (ps : List ArrayPart)
      → worth maps [] s (cells_of s) b.old b.scene a ≡ None → Made maps s b ls ps → Made maps s b (AtElements t a z ∷ ls) ps
  made_none s b t a z ls ps n m =
      record { parted = (λ v e. absurd (cc (sym n ∙ e)), m.parted); shifted = λ y h. m.shifted y h.1; none = λ h. absurd h }

  made_some : (s : State) (b : Bind) (t : PvType) (a : Expression) (z : ℤ) (ls : List Look) (ps : List ArrayPart) (v : Value)
      → worth maps [] s (cells_of s) b.old b.scene a ≡ Some v → Made maps s b ls ps
      → Made maps s b (AtElements t a z ∷ ls) (record { type = t; array = reference_in v; shift = z } ∷ ps)
  made_some s b t a z ls ps v n m = record {
    parted = (
      λ w e. inl (ap (λ (u : Value). record { type = t; array = reference_in u; shift = z }) (some_same w v (sym e ∙ n))),
      parted_more s b ls ps _ m.parted,
    );
    shifted = λ y h. (h.0, m.shifted y h.1);
    none = λ h. absurd h;
  }

module _ {A : Type 0} {maps : Maps} {table : List Entry} {S : Setting A} {P : ℕ → A → Type 0} (kept : Kept maps table S P)
    (first : State) (begins : kept.invariant.states first) (b : Bind) (o : kept.invariant.olds b.old) where
  abbrev r : IsKept maps table S P kept.invariant
  r = kept.is_kept

  abbrev c : IsClosed kept.invariant
  c = kept.closed

  abbrev O : Cells → Type 0
  O = kept.invariant.olds

  -- with what the first state holds
  abbrev pub Since : State → Type 0
  Since s = kept.invariant.states s × SameCells first s

  abbrev W : State → Cells → Expression → Option Value
  W u now e = worth maps table u now b.old b.scene e

  -- the rest keeps the property in each later state in which this is known
  abbrev Goes : State → (State → Type 0) → Next A → Type 0
  Goes s Q f = (t : State) → Since t → Later s t → ((u : State) → Later t u → Q u) → P t.steps (f t)

  chosen : {step : ℕ} (v : Bool) (x u : A) → (v ≡ true → P step x) → (v ≡ false → P step u) → P step (if v then x else u)
  chosen true x u f g = f refl
  chosen false x u f g = g refl

  chosen_rest : (v : Bool) (x u : Next A) (t : State) → (v ≡ true → P t.steps (x t)) → (v ≡ false → P t.steps (u t))
      → P t.steps ((if v then x else u) t)
  chosen_rest true x u t f g = f refl
  chosen_rest false x u t f g = g refl

  longer : (s : State) (t : PvType) (a : ℕ) (z : ℤ) → Since s → Since (with_length s t a z)
  longer s t a z j = (c.same s (with_length s t a z) refl refl j.0, j.1)

  picked_at : (x : Option ℤ) (t : PvType) (a : ℕ) (f : ℤ → Next A) (s : State) → Since s → s.lengths t a ≡ x
      → ((n : ℤ) → Goes s (λ u. u.lengths t a ≡ Some n) (f n)) → P s.steps (known_or_picked S x t a f s)
  picked_at (Some n) t a f s j e h = h n s j (later_same s) (λ u l. l t a n e)
  picked_at None t a f s j e h = r.pick _ _ _ (λ z. r.comparing _ _ _ _ (if_kept (P _) (int_le (pos 0) z) _ _
      (h z (with_length s t a z) (longer s t a z j) (length_later s t a z e) (λ u l. l t a z (length_there s t a z)))
      (r.blocked _)))

  length_at : (t : PvType) (a : ℕ) (f : ℤ → Next A) (s : State) → Since s
      → ((n : ℤ) → Goes s (λ u. u.lengths t a ≡ Some n) (f n)) → P s.steps (look_at_length S t a f s)
  length_at t a f s j h = r.noticing _ _ _ (λ n. picked_at (s.lengths t a) t a f s j refl h)

  or_missing_at : (x : Option Cell) (m : A) (f : Value → Next A) (s : State)
      → ((y : Cell) → x ≡ Some y → kept.invariant.readable y)
      → (x ≡ None → P s.steps m) → ((v : Value) → content_of maps x ≡ Some v → P s.steps (f v s))
      → P s.steps (or_missing S x m f s)
  or_missing_at None m f s g h k = h refl
  or_missing_at (Some y) m f s g h k = r.reading _ y (λ v. f v s) (g y refl) (k (content maps y) refl)

  -- in a reader of these cells, the value is that in each later state, or what can't be read has none in any
  abbrev Ends : (State → Cells) → Cells → (Span → Next A) → Expression → Type 0
  Ends cells now m e =
      (f : Value → Next A) (s : State) → Since s → ((p : Span) → Goes s (λ u. W u now e ≡ None) (m p))
      → ((v : Value) → Goes s (λ u. W u now e ≡ Some v) (f v))
      → P s.steps (evaluate (formula_reader S cells m) (formula_reader S (λ t. b.old) m) b.scene e f s)

  two_none : {X Y Z : Type 0} (x : Option X) (y : Option Y) (v : X) (g : X → Y → Option Z) → x ≡ Some v → y ≡ None
      → or_none x (λ a. or_none y (g a)) ≡ None
  two_none x y v g e f = ap (λ z. or_none z (λ a. or_none y (g a))) e ∙ ap (λ z. or_none z (g v)) f

  two_some : {X Y Z : Type 0} (x : Option X) (y : Option Y) (v : X) (w : Y) (g : X → Y → Option Z) → x ≡ Some v → y ≡ Some w
      → or_none x (λ a. or_none y (g a)) ≡ g v w
  two_some x y v w g e f = ap (λ z. or_none z (λ a. or_none y (g a))) e ∙ ap (λ z. or_none z (g v)) f

  one_more : {X Y : Type 0} (x p : Option X) (g : X → Option Y) → x ≡ p → or_none x g ≡ or_none p g
  one_more x p g e = ap (λ z. or_none z g) e

  -- two values, one after the other
  two_at : (cells : State → Cells) (now : Cells) (m : Span → Next A) (x y : Expression) → Ends cells now m x → Ends cells now m y
      → (f : Value → Value → Next A) (s : State) → Since s → (G : State → Value → Value → Option Value)
      → ((p : Span) → Goes s (λ u. or_none (W u now x) (λ v. or_none (W u now y) (G u v)) ≡ None) (m p))
      → ((v w : Value) → Goes s (λ u. or_none (W u now x) (λ v. or_none (W u now y) (G u v)) ≡ G u v w) (f v w))
      → P s.steps (evaluate (formula_reader S cells m) (formula_reader S (λ t. b.old) m) b.scene x
      (λ v. evaluate (formula_reader S cells m) (formula_reader S (λ t. b.old) m) b.scene y (f v)) s)
  two_at cells now m x y ex ey f s j G n k =
      ex _ s j (λ p t jt l w. n p t jt l (λ u lu. one_more _ None _ (w u lu)))
      (λ v t jt l w. ey _ t jt
      (λ p t2 j2 l2 w2. n p t2 j2 (later_on s t t2 l l2)
      (λ u lu. two_none _ _ v (G u) (w u (later_on t t2 u l2 lu)) (w2 u lu)))
      (λ z t2 j2 l2 w2. k v z t2 j2 (later_on s t t2 l l2)
      (λ u lu. two_some _ _ v z (G u) (w u (later_on t t2 u l2 lu)) (w2 u lu))))

  operate_at : (m : Manner) (op : Operation) (x y : ℤ) (p : Span) (f : ℤ → Next A) (s : State)
      → P s.steps (f (operated table m op x y) s)
      → P s.steps (operate S m op x y p f s)
  operate_at Plain op x y p f s h = h
  operate_at Tabled op x y p f s h = r.using _ op x y _ h

  pub ends_at : (cells : State → Cells) (now : Cells) → ((s : State) → Since s → cells s ≡ now) → O now
      → (m : Span → Next A) (e : Expression) → Ends cells now m e
  ends_at cells now same oc m (Constant v) f s j n k = k v s j (later_same s) (λ u l. refl)
  ends_at cells now same oc m This f s j n k = k _ s j (later_same s) (λ u l. refl)
  ends_at cells now same oc m Result f s j n k = k _ s j (later_same s) (λ u l. refl)
  ends_at cells now same oc m (Variable z) f s j n k = k _ s j (later_same s) (λ u l. refl)
  ends_at cells now same oc m (Field e d z p) f s j n k =
      ends_at cells now same oc m e _ s j
      (λ q t jt l w. n q t jt l (λ u lu. one_more _ None _ (w u lu)))
      (λ v t jt l w. r.noticing _ _ _ (λ q. let x = InField d (reference_in v) z in
      let at = ap (λ (ce : Cells). ce x) (same t jt) in
      or_missing_at (cells t x) (m p t) f t (λ y e0. c.readable now oc x (c.field d (reference_in v) z) y (sym at ∙ e0))
      (λ e0. n p t jt l (λ u lu. one_more _ (Some v) _ (w u lu) ∙ ap (content_of maps) (sym at ∙ e0)))
      (λ y e0. k y t jt l (λ u lu. one_more _ (Some v) _ (w u lu) ∙ ap (content_of maps) (sym at) ∙ e0))))
  ends_at cells now same oc m (Element ty a i p) f s j n k =
      two_at cells now m a i (ends_at cells now same oc m a) (ends_at cells now same oc m i) _ s j
      (λ u v w. content_of maps (now (InElement ty (reference_in v) (number_in w)))) n
      (λ v w t jt l e. r.noticing _ _ _ (λ q. let x = InElement ty (reference_in v) (number_in w) in
      let at = ap (λ (ce : Cells). ce x) (same t jt) in
      or_missing_at (cells t x) (m p t) f t
      (λ y e0. c.readable now oc x (c.element ty (reference_in v) (number_in w) q) y (sym at ∙ e0))
      (λ e0. n p t jt l (λ u lu. e u lu ∙ ap (content_of maps) (sym at ∙ e0)))
      (λ y e0. k y t jt l (λ u lu. e u lu ∙ ap (content_of maps) (sym at) ∙ e0))))
  ends_at cells now same oc m (Length ty a p) f s j n k =
      ends_at cells now same oc m a _ s j
      (λ q t jt l w. n q t jt l (λ u lu. one_more _ None _ (w u lu)))
      (λ v t jt l w. r.matching _ _ _ _ (chosen (nat_eq (reference_in v) 0) _ _
      (λ e. n p t jt l (λ u lu. one_more _ (Some v) _ (w u lu)
      ∙ ap (λ (c : Bool). if c then None else or_none (u.lengths ty (reference_in v)) (λ n. Some (value.Number n))) e))
      (λ e. length_at ty (reference_in v) _ t jt
      (λ z t2 j2 l2 w2. k (value.Number z) t2 j2 (later_on s t t2 l l2)
      (λ u lu. one_more _ (Some v) _ (w u (later_on t t2 u l2 lu))
      ∙ ap (λ (c : Bool). if c then None else or_none (u.lengths ty (reference_in v)) (λ n. Some (value.Number n))) e
      ∙ one_more _ (Some z) _ (w2 u lu))))))
  ends_at cells now same oc m (Not e) f s j n k =
      ends_at cells now same oc m e _ s j (λ q t jt l w. n q t jt l (λ u lu. one_more _ None _ (w u lu)))
      (λ v t jt l w. k _ t jt l (λ u lu. one_more _ (Some v) _ (w u lu)))
  ends_at cells now same oc m (Compute manner op x y p) f s j n k =
      two_at cells now m x y (ends_at cells now same oc m x) (ends_at cells now same oc m y) _ s j
      (λ u v w. Some (value.Number (operated table manner op (number_in v) (number_in w)))) n
      (λ v w t jt l e. operate_at manner op (number_in v) (number_in w) p _ t (k _ t jt l e))
  ends_at cells now same oc m (Compare order x y) f s j n k =
      two_at cells now m x y (ends_at cells now same oc m x) (ends_at cells now same oc m y) _ s j
      (λ u v w. Some (value.Truth (comparison order (number_in v) (number_in w)))) n
      (λ v w t jt l e. r.comparing _ _ _ _ (k _ t jt l e))
  ends_at cells now same oc m (Equal is x y) f s j n k =
      two_at cells now m x y (ends_at cells now same oc m x) (ends_at cells now same oc m y) _ s j
      (λ u v w. Some (value.Truth (equality is v w))) n
      (λ v w t jt l e. r.matching _ _ _ _ (k _ t jt l e))
  ends_at cells now same oc m (And x y) f s j n k =
      ends_at cells now same oc m x _ s j (λ q t jt l w. n q t jt l (λ u lu. one_more _ None _ (w u lu)))
      (λ v t jt l w. r.deciding _ _ _ (chosen_rest (truth_in v) _ _ t
      (λ e. ends_at cells now same oc m y f t jt
      (λ q t2 j2 l2 w2. n q t2 j2 (later_on s t t2 l l2) (λ u lu. one_more _ (Some v) _ (w u (later_on t t2 u l2 lu))
      ∙ ap (λ (c : Bool). if c then W u now y else Some (value.Truth false)) e ∙ w2 u lu))
      (λ z t2 j2 l2 w2. k z t2 j2 (later_on s t t2 l l2) (λ u lu. one_more _ (Some v) _ (w u (later_on t t2 u l2 lu))
      ∙ ap (λ (c : Bool). if c then W u now y else Some (value.Truth false)) e ∙ w2 u lu)))
      (λ e. k _ t jt l (λ u lu. one_more _ (Some v) _ (w u lu)
      ∙ ap (λ (c : Bool). if c then W u now y else Some (value.Truth false)) e))))
  ends_at cells now same oc m (Or x y) f s j n k =
      ends_at cells now same oc m x _ s j (λ q t jt l w. n q t jt l (λ u lu. one_more _ None _ (w u lu)))
      (λ v t jt l w. r.deciding _ _ _ (chosen_rest (truth_in v) _ _ t
      (λ e. k _ t jt l (λ u lu. one_more _ (Some v) _ (w u lu)
      ∙ ap (λ (c : Bool). if c then Some (value.Truth true) else W u now y) e))
      (λ e. ends_at cells now same oc m y f t jt
      (λ q t2 j2 l2 w2. n q t2 j2 (later_on s t t2 l l2) (λ u lu. one_more _ (Some v) _ (w u (later_on t t2 u l2 lu))
      ∙ ap (λ (c : Bool). if c then Some (value.Truth true) else W u now y) e ∙ w2 u lu))
      (λ z t2 j2 l2 w2. k z t2 j2 (later_on s t t2 l l2) (λ u lu. one_more _ (Some v) _ (w u (later_on t t2 u l2 lu))
      ∙ ap (λ (c : Bool). if c then Some (value.Truth true) else W u now y) e ∙ w2 u lu)))))
  ends_at cells now same oc m (Implies x y) f s j n k =
      ends_at cells now same oc m x _ s j (λ q t jt l w. n q t jt l (λ u lu. one_more _ None _ (w u lu)))
      (λ v t jt l w. r.deciding _ _ _ (chosen_rest (truth_in v) _ _ t
      (λ e. ends_at cells now same oc m y f t jt
      (λ q t2 j2 l2 w2. n q t2 j2 (later_on s t t2 l l2) (λ u lu. one_more _ (Some v) _ (w u (later_on t t2 u l2 lu))
      ∙ ap (λ (c : Bool). if c then W u now y else Some (value.Truth true)) e ∙ w2 u lu))
      (λ z t2 j2 l2 w2. k z t2 j2 (later_on s t t2 l l2) (λ u lu. one_more _ (Some v) _ (w u (later_on t t2 u l2 lu))
      ∙ ap (λ (c : Bool). if c then W u now y else Some (value.Truth true)) e ∙ w2 u lu)))
      (λ e. k _ t jt l (λ u lu. one_more _ (Some v) _ (w u lu)
      ∙ ap (λ (c : Bool). if c then W u now y else Some (value.Truth true)) e))))
  ends_at cells now same oc m (Old e) f s j n k = ends_at (λ t. b.old) b.old (λ t h. refl) o m e f s j n k

  -- an expression of the formula, in the present state
  value_at : (m : Span → Next A) (e : Expression) → Ends cells_of (cells_of first) m e
  value_at m e = ends_at cells_of (cells_of first) (λ s j. cells_same first s j.1) (c.cells first begins) m e

  abbrev V : State → Expression → Option Value
  V u e = worth maps table u (cells_of u) b.old b.scene e

  present : (u : State) → Since u → (e : Expression) → V u e ≡ W u (cells_of first) e
  present u j e = ap (λ (ce : Cells). W u ce e) (cells_same first u j.1)

  abbrev Named : PvType → Value → Value → Type 0
  Named t v w = kept.invariant.named (AtArray t (reference_in v) (ends_of (number_in w)))

  abbrev LookedAt : PvType → Expression → Expression → State → Type 0
  LookedAt t a i u = (v w : Value) → V u a ≡ Some v → V u i ≡ Some w → Named t v w

  named_at : (t : PvType) (v w x y : Value) → v ≡ x → w ≡ y → Named t x y → Named t v w
  named_at t v w x y e f h =
      subst (λ (z : Value). Named t z w) (sym e) (subst (λ (z : Value). Named t x z) (sym f) h)

  abbrev Rest : List Look → List ArrayPart → State → State → Type 0
  Rest ls ps s t = Since t × Later s t × Looked maps table kept.invariant t b ls

  -- of the present state, and of the old one
  cells_kept : (was : Bool) (u : State) → Since u → O (cells_at was cells_of b u)
  cells_kept true u j = o
  cells_kept false u j = c.cells u j.0

  pub ahead_made : (x : Range) (ls : List Look) → Places ls → (f : List ArrayPart → Next A) (s : State) → Since s
      → ((ps : List ArrayPart) → Made maps first b ls ps → (t : State) → Rest ls ps s t → P t.steps (f ps t))
      → P s.steps (look_ahead S cells_of b x ls f s)
  ahead_made x [] pl f s j h =
      h [] (record { parted = tt; shifted = λ z k. tt; none = λ k. refl }) s (j, later_same s, tt)
  ahead_made x (AtElements t a z ∷ ls) pl f s j h =
      let first_worth : (u : State) → worth maps [] first (cells_of first) b.old b.scene a ≡ W u (cells_of first) a =
      λ u. place_worth maps [] table first u (cells_of first) b.old b.scene a pl.0 in
      value_at _ a _ s j
      (λ p u ju l w. ahead_made x ls pl.1 f u ju (λ ps mk t2 q.
      h ps (made_none maps first b t a z ls ps (first_worth u ∙ w u (later_same u)) mk) t2 (q.0, later_on s u t2 l q.1, q.2)))
      (λ v u ju l w. let part : ArrayPart = record { type = t; array = reference_in v; shift = z } in
      ahead_made x ls pl.1 (λ ps. f (part ∷ ps)) u ju (λ ps mk t2 q.
      h (part ∷ ps) (made_some maps first b t a z ls ps v (first_worth u ∙ w u (later_same u)) mk) t2
      (q.0, later_on s u t2 l q.1, q.2)))
  ahead_made x (AtElement was t a i ∷ ls) pl f s j h =
      let again : (u : State) → Since u → Later s u → ((t2 : State) → Since t2 → Later u t2 → LookedAt t a i t2)
      → P u.steps (look_ahead S cells_of b x ls f u) =
      λ u ju l one. ahead_made x ls pl f u ju (λ ps mk t2 q.
      h ps (record { parted = mk.parted; shifted = mk.shifted; none = mk.none }) t2
      (q.0, later_on s u t2 l q.1, (one t2 q.0 q.1, q.2))) in
      value_at _ a _ s j
      (λ p u ju l w. again u ju l (λ t2 j2 l2 v z e d. absurd (cc (sym (w t2 l2) ∙ sym (present t2 j2 a) ∙ e))))
      (λ v u ju l w. value_at _ i _ u ju
      (λ p u2 j2 l2 w2. again u2 j2 (later_on s u u2 l l2)
      (λ t2 j3 l3 y z e d. absurd (cc (sym (w2 t2 l3) ∙ sym (present t2 j3 i) ∙ d))))
      (λ z u2 j2 l2 w2. r.noticing _ _ _ (λ q.
      let place = InElement t (reference_in v) (number_in z) in
      let go : P u2.steps (look_ahead S cells_of b x ls f u2) = again u2 j2 (later_on s u u2 l l2) (λ t2 j3 l3 y y2 e d.
      named_at t y y2 v z (some_same y v (sym e ∙ present t2 j3 a ∙ w t2 (later_on u u2 t2 l2 l3)))
      (some_same y2 z (sym d ∙ present t2 j3 i ∙ w2 t2 l3)) q) in
      or_missing_at (cells_at was cells_of b u2 place) _ _ u2
      (λ y e0. c.readable (cells_at was cells_of b u2) (cells_kept was u2 j2) place
      (c.element t (reference_in v) (number_in z) q) y e0)
      (λ e0. go) (λ y e0. go))))
  ahead_made x (AtLength t a ∷ ls) pl f s j h =
      let again : (u : State) → Since u → Later s u → P u.steps (look_ahead S cells_of b x ls f u) =
      λ u ju l. ahead_made x ls pl f u ju (λ ps mk t2 q.
      h ps (record { parted = mk.parted; shifted = mk.shifted; none = mk.none }) t2 (q.0, later_on s u t2 l q.1, q.2)) in
      value_at _ a _ s j (λ p u ju l w. again u ju l)
      (λ v u ju l w. r.matching _ _ _ _ (if_kept (P _) (nat_eq (reference_in v) 0) _ _ (again u ju l)
      (length_at t (reference_in v) _ u ju (λ n u2 j2 l2 w2. again u2 j2 (later_on s u u2 l l2)))))
  ahead_made x (AtTerm e ∷ ls) pl f s j h =
      let again : (u : State) → Since u → Later s u → P u.steps (look_ahead S cells_of b x ls f u) =
      λ u ju l. ahead_made x ls pl f u ju (λ ps mk t2 q.
      h ps (record { parted = mk.parted; shifted = mk.shifted; none = mk.none }) t2 (q.0, later_on s u t2 l q.1, q.2)) in
      value_at _ e _ s j (λ p u ju l w. again u ju l)
      (λ v u ju l w. r.comparing _ _ _ _ (r.comparing _ _ _ _ (r.comparing _ _ _ _ (r.comparing _ _ _ _ (again u ju l)))))
