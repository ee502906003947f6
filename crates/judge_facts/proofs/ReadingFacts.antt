-- What a fact reads at a position whose indexes are named is at names.
use Rattle.std.proofs.Common.{◌≡◌, ℤ, pos, Bool, true, false, Option, Some, None, List, [], ◌∷◌, ◌++◌, refl, sym, subst, ◌∙◌}
use Rattle.std.specs.Prelude.{◌+ℤ◌}
use Rattle.std.specs.List.{AllByRecursion}
use Rattle.pv_base.specs.declared.Name.{Name}
use Rattle.pv_ast.specs.declared.PvType.{PvType}
use Rattle.pv_values.specs.declared.value.Value.{Value}
use Rattle.pv_values.specs.declared.value.Value.TheVariants as value
use Rattle.pv_picks.specs.declared.evidence.Entry.{Entry}
use Rattle.pv_picks.specs.Plain.Core.{Expression, Constant, This, Result, Variable, Field, Element, Length, Not, Compute, Compare, Equal, And, Or, Implies, Old}
use Rattle.pv_picks.specs.Formulas.Values.{reference_in, number_in}
use Rattle.pv_picks.specs.Formulas.Evaluation.{Scene}
use Rattle.pv_picks.specs.Judge.States.{State, Cells, Bind, cells_of}
use Rattle.pv_picks.specs.Judge.Settings.{ArrayPart}
use Rattle.pv_picks.specs.Judge.Repetitions.{Look, AtElements, AtElement, AtLength, AtTerm, in_state, looks_in, looks_of, look_at_element, shift_in, term_beside}
use Rattle.pv_picks.specs.Judge.Steady.{IsTerm, IsTermLook}
use Rattle.pv_picks.specs.Judge.Runs.{Maps}
use Rattle.pv_picks.specs.Lazy.Patterns.{Array, array_in}
use Rattle.judge_facts.specs.Finite.{IsOneOf}
use Rattle.judge_facts.specs.Fair.{worth}
use Rattle.judge_facts.specs.Shapes.{IsPlace, Places}
use Rattle.judge_facts.proofs.Keeping.{Parted}
use Rattle.judge_facts.proofs.Worth.{placed, placed_agrees, term_same, shift_worth}
use Rattle.judge_facts.proofs.Covering as covering

some_same : (v w : Value) → Some v ≡ Some w → v ≡ w
some_same v w h = cc h

module _ (maps : Maps) (table : List Entry) (N : Array → List ℤ) where
  -- each element that the expression reads has a name for its index
  abbrev pub ReadsNames : State → Cells → Cells → Scene → Expression → Type 0
  ReadsNames s now old x (Constant v) = Unit {0}
  ReadsNames s now old x This = Unit {0}
  ReadsNames s now old x Result = Unit {0}
  ReadsNames s now old x (Variable z) = Unit {0}
  ReadsNames s now old x (Field e d f p) = ReadsNames s now old x e
  ReadsNames s now old x (Element t a i p) =
      ReadsNames s now old x a × ReadsNames s now old x i
      × ((v w : Value) → worth maps table s now old x a ≡ Some v → worth maps table s now old x i ≡ Some w
      → IsOneOf (number_in w) (N (t, reference_in v)))
  ReadsNames s now old x (Length t a p) = ReadsNames s now old x a
  ReadsNames s now old x (Not e) = ReadsNames s now old x e
  ReadsNames s now old x (Compute m o a b p) = ReadsNames s now old x a × ReadsNames s now old x b
  ReadsNames s now old x (Compare o a b) = ReadsNames s now old x a × ReadsNames s now old x b
  ReadsNames s now old x (Equal o a b) = ReadsNames s now old x a × ReadsNames s now old x b
  ReadsNames s now old x (And a b) = ReadsNames s now old x a × ReadsNames s now old x b
  ReadsNames s now old x (Or a b) = ReadsNames s now old x a × ReadsNames s now old x b
  ReadsNames s now old x (Implies a b) = ReadsNames s now old x a × ReadsNames s now old x b
  ReadsNames s now old x (Old e) = ReadsNames s old old x e

  -- the indexes at the position
  abbrev pub NamedAt : ℤ → List ArrayPart → Type 0
  NamedAt q parts = (part : ArrayPart) → IsOneOf part parts → IsOneOf (q +ℤ part.shift) (N (array_in part))

  module _ (first s : State) (b : Bind) (same : cells_of s ≡ cells_of first) (name : Name) (q : ℤ) (parts : List ArrayPart)
      (named : NamedAt q parts) where
    abbrev V : Expression → Option Value
    V e = worth maps table s (cells_of s) b.old b.scene e

    -- what is known of each look
    abbrev Fine : List Look → Type 0
    Fine [] = Unit {0}
    Fine (AtElements t a z ∷ ls) =
        (IsTerm name a × IsPlace a × ((v : Value) → worth maps [] first (cells_of first) b.old b.scene a ≡ Some v
        → IsOneOf (record { type = t; array = reference_in v; shift = z }) parts)) × Fine ls
    Fine (AtElement was t a i ∷ ls) =
        (IsTerm name a × IsTerm name i × ((v w : Value) → V a ≡ Some v → V i ≡ Some w
        → IsOneOf (number_in w) (N (t, reference_in v)))) × Fine ls
    Fine (AtLength t a ∷ ls) = Fine ls
    Fine (AtTerm e ∷ ls) = Fine ls

    abbrev pub LooksNamed : List Look → Type 0
    LooksNamed [] = Unit {0}
    LooksNamed (AtElements t a z ∷ ls) = LooksNamed ls
    LooksNamed (AtElement was t a i ∷ ls) =
        ((v w : Value) → V a ≡ Some v → V i ≡ Some w → IsOneOf (number_in w) (N (t, reference_in v))) × LooksNamed ls
    LooksNamed (AtLength t a ∷ ls) = LooksNamed ls
    LooksNamed (AtTerm e ∷ ls) = LooksNamed ls

    fine_all : (ls : List Look) → AllByRecursion (IsTermLook name) ls → Places ls → Parted maps first b ls parts → LooksNamed ls
        → Fine ls
    fine_all [] t p g l = tt
    fine_all (AtElements u a z ∷ ls) t p g l = ((t.0, p.0, g.0), fine_all ls t.1 p.1 g.1 l)
    fine_all (AtElement was u a i ∷ ls) t p g l = ((t.0.0, t.0.1, l.0), fine_all ls t.1 p g l.1)
    fine_all (AtLength u a ∷ ls) t p g l = fine_all ls t.1 p g l
    fine_all (AtTerm e ∷ ls) t p g l = fine_all ls t.1 p g l

    split : (xs ys : List Look) → Fine (xs ++ ys) → Fine xs × Fine ys
    split [] ys h = (tt, h)
    split (AtElements t a z ∷ xs) ys h = let q = split xs ys h.1 in ((h.0, q.0), q.1)
    split (AtElement was t a i ∷ xs) ys h = let q = split xs ys h.1 in ((h.0, q.0), q.1)
    split (AtLength t a ∷ xs) ys h = split xs ys h
    split (AtTerm e ∷ xs) ys h = split xs ys h

    abbrev now : Bool → Cells
    now mode = covering.cells_in maps table first s b same name (pos 0) parts mode

    abbrev here : Scene
    here = placed maps table s b.scene name q

    -- a term has at the position the value that it had before
    term_here : (mode : Bool) (e : Expression) → IsTerm name (in_state mode e)
        → worth maps table s (now mode) b.old here e ≡ V (in_state mode e)
    term_here true e h = term_same maps table s name b.old b.old here b.scene (placed_agrees maps table s b.scene name q) e h
    term_here false e h =
        term_same maps table s name (cells_of s) b.old here b.scene (placed_agrees maps table s b.scene name q) e h

    element_names : (mode : Bool) (t : PvType) (a i : Expression) (o : Option ℤ) → shift_in name i ≡ o
        → Fine (look_at_element o mode t a i ∷ []) → (v w : Value) → worth maps table s (now mode) b.old here a ≡ Some v
        → worth maps table s (now mode) b.old here i ≡ Some w → IsOneOf (number_in w) (N (t, reference_in v))
    element_names mode t a i None e f v w ea ei =
        f.0.2 v w (sym (term_here mode a f.0.0) ∙ ea) (sym (term_here mode i f.0.1) ∙ ei)
    element_names mode t a i (Some z) e f v w ea ei =
        let part : ArrayPart = record { type = t; array = reference_in v; shift = z } in
        let at : V (in_state mode a) ≡ Some v = sym (term_here mode a f.0.0) ∙ ea in
        let there : IsOneOf part parts = f.0.2 v (covering.place_worth maps table first s b same name (pos 0) parts mode a f.0.1
        ∙ before mode a ∙ at) in
        let is : w ≡ value.Number (q +ℤ z) =
        some_same w (value.Number (q +ℤ z)) (sym ei ∙ shift_worth maps table s (now mode) b.old b.scene name q z i e) in
        subst (λ (x : Value). IsOneOf (number_in x) (N (t, reference_in v))) (sym is) (named part there)
      where
        before : (mode : Bool) (a : Expression) → worth maps table s (now mode) b.old b.scene a ≡ V (in_state mode a)
        before true a = refl
        before false a = refl

    names_in : (mode : Bool) (e : Expression) → Fine (looks_in name mode e) → ReadsNames s (now mode) b.old here e
    names_in mode (Constant v) h = tt
    names_in mode This h = tt
    names_in mode Result h = tt
    names_in mode (Variable x) h = tt
    names_in mode (Field e d f p) h = names_in mode e h
    names_in mode (Element t a i p) h =
        let one = split (looks_in name mode a) (looks_in name mode i ++ look_at_element (shift_in name i) mode t a i ∷ []) h in
        let two = split (looks_in name mode i) (look_at_element (shift_in name i) mode t a i ∷ []) one.1 in
        (names_in mode a one.0, names_in mode i two.0, element_names mode t a i (shift_in name i) refl two.1)
    names_in mode (Length t a p) h = names_in mode a (split (looks_in name mode a) (AtLength t (in_state mode a) ∷ []) h).0
    names_in mode (Not e) h = names_in mode e h
    names_in mode (Compute m o x y p) h =
        let two = split (looks_in name mode x) (looks_in name mode y) h in (names_in mode x two.0, names_in mode y two.1)
    names_in mode (Compare o x y) h =
        let two = split (looks_in name mode x) (looks_in name mode y ++ term_beside name mode x y) h in
        (names_in mode x two.0, names_in mode y (split (looks_in name mode y) (term_beside name mode x y) two.1).0)
    names_in mode (Equal o x y) h =
        let two = split (looks_in name mode x) (looks_in name mode y ++ term_beside name mode x y) h in
        (names_in mode x two.0, names_in mode y (split (looks_in name mode y) (term_beside name mode x y) two.1).0)
    names_in mode (And x y) h =
        let two = split (looks_in name mode x) (looks_in name mode y) h in (names_in mode x two.0, names_in mode y two.1)
    names_in mode (Or x y) h =
        let two = split (looks_in name mode x) (looks_in name mode y) h in (names_in mode x two.0, names_in mode y two.1)
    names_in mode (Implies x y) h =
        let two = split (looks_in name mode x) (looks_in name mode y) h in (names_in mode x two.0, names_in mode y two.1)
    names_in mode (Old e) h = names_in true e h

    pub reads_names : (e : Expression) → AllByRecursion (IsTermLook name) (looks_of name e) → Places (looks_of name e)
        → Parted maps first b (looks_of name e) parts → LooksNamed (looks_of name e)
        → ReadsNames s (cells_of s) b.old here e
    reads_names e t p g l = names_in false e (fine_all (looks_of name e) t p g l)
