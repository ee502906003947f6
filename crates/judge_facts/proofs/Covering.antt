-- The arrays that a fact reads at its position are those that were looked at before.
use Rattle.std.proofs.Common.{◌≡◌, ℕ, ℤ, Bool, true, false, Option, Some, None, List, [], ◌∷◌, ◌++◌, map, refl, ap, sym, ◌∙◌, ◌⊎◌, inl, inr}
use Rattle.pv_base.specs.declared.Name.{Name}
use Rattle.pv_ast.specs.declared.PvType.{PvType}
use Rattle.pv_values.specs.declared.value.Value.{Value}
use Rattle.pv_picks.specs.declared.evidence.Entry.{Entry}
use Rattle.pv_picks.specs.Plain.Core.{Expression, Constant, This, Result, Variable, Field, Element, Length, Not, Compute, Compare, Equal, And, Or, Implies, Old}
use Rattle.pv_picks.specs.Formulas.Values.{reference_in}
use Rattle.pv_picks.specs.Judge.States.{State, Cells, Bind, cells_of}
use Rattle.pv_picks.specs.Judge.Settings.{ArrayPart}
use Rattle.pv_picks.specs.Judge.Repetitions.{Look, AtElements, AtElement, AtLength, AtTerm, looks_in, looks_of, look_at_element, in_state, shift_in, term_beside}
use Rattle.pv_picks.specs.Judge.Runs.{Maps}
use Rattle.pv_picks.specs.Lazy.Patterns.{array_in}
use Rattle.pv_picks.specs.Judge.Steady.{IsTerm, Steady}
use Rattle.judge_facts.specs.Finite.{IsOneOf}
use Rattle.judge_facts.specs.Shapes.{IsPlace, Places}
use Rattle.judge_facts.specs.Fair.{Covered, worth}
use Rattle.judge_facts.proofs.Looking as places
use Rattle.judge_facts.proofs.Keeping.{Parted}

places_split : (xs ys : List Look) → Places (xs ++ ys) → Places xs × Places ys
places_split [] ys h = (tt, h)
places_split (AtElements t a z ∷ xs) ys h = let q = places_split xs ys h.1 in ((h.0, q.0), q.1)
places_split (AtElement was t a i ∷ xs) ys h = places_split xs ys h
places_split (AtLength t a ∷ xs) ys h = places_split xs ys h
places_split (AtTerm e ∷ xs) ys h = places_split xs ys h

part_there : (part : ArrayPart) (parts : List ArrayPart) → IsOneOf part parts → IsOneOf (array_in part) (map array_in parts)
part_there part [] h = absurd h
part_there part (x ∷ xs) (inl e) = inl (ap array_in e)
part_there part (x ∷ xs) (inr h) = inr (part_there part xs h)

module _ (maps : Maps) (table : List Entry) (first s : State) (b : Bind) (same : cells_of s ≡ cells_of first) (name : Name)
    (shift : ℤ) (parts : List ArrayPart) where
  parted_split : (xs ys : List Look) → Parted maps first b (xs ++ ys) parts
      → Parted maps first b xs parts × Parted maps first b ys parts
  parted_split [] ys h = (tt, h)
  parted_split (AtElements t a z ∷ xs) ys h = let q = parted_split xs ys h.1 in ((h.0, q.0), q.1)
  parted_split (AtElement was t a i ∷ xs) ys h = parted_split xs ys h
  parted_split (AtLength t a ∷ xs) ys h = parted_split xs ys h
  parted_split (AtTerm e ∷ xs) ys h = parted_split xs ys h

  abbrev pub cells_in : Bool → Cells
  cells_in true = b.old
  cells_in false = cells_of s

  abbrev Q : PvType → ℕ → Type 0
  Q type array = IsOneOf (type, array) (map array_in parts)

  pub place_worth : (mode : Bool) (a : Expression) → IsPlace (in_state mode a)
      → worth maps [] first (cells_of first) b.old b.scene (in_state mode a) ≡ worth maps table s (cells_in mode) b.old b.scene a
  place_worth true a h = places.place_worth maps [] table first s b.old b.old b.scene a h
  place_worth false a h =
      places.place_worth maps [] table first s (cells_of first) b.old b.scene a h
      ∙ ap (λ (ce : Cells). worth maps table s ce b.old b.scene a) (sym same)

  element_covered : (mode : Bool) (t : PvType) (a i : Expression) (o : Option ℤ) → shift_in name i ≡ o
      → IsTerm name i ⊎ (shift_in name i ≡ Some shift)
      → Places (look_at_element o mode t a i ∷ []) → Parted maps first b (look_at_element o mode t a i ∷ []) parts
      → (v : Value) → worth maps table s (cells_in mode) b.old b.scene a ≡ Some v → IsTerm name i ⊎ Q t (reference_in v)
  element_covered mode t a i o e (inl l) pl h v w = inl l
  element_covered mode t a i None e (inr k) pl h v w = absurd (cc (sym e ∙ k))
  element_covered mode t a i (Some z) e (inr k) pl h v w = inr (part_there _ parts (h.0 v (place_worth mode a pl.0 ∙ w)))

  covered_in : (mode : Bool) (e : Expression) → Steady name shift e → Places (looks_in name mode e)
      → Parted maps first b (looks_in name mode e) parts
      → Covered maps table s (cells_in mode) b.old b.scene name Q e
  covered_in mode (Constant v) k pl h = tt
  covered_in mode This k pl h = tt
  covered_in mode Result k pl h = tt
  covered_in mode (Variable x) k pl h = tt
  covered_in mode (Field e d f p) k pl h = covered_in mode e k pl h
  covered_in mode (Element t a i p) k pl h =
      let p1 = places_split (looks_in name mode a)
      (looks_in name mode i ++ look_at_element (shift_in name i) mode t a i ∷ []) pl in
      let p2 = places_split (looks_in name mode i) (look_at_element (shift_in name i) mode t a i ∷ []) p1.1 in
      let h1 = parted_split (looks_in name mode a)
      (looks_in name mode i ++ look_at_element (shift_in name i) mode t a i ∷ []) h in
      let h2 = parted_split (looks_in name mode i) (look_at_element (shift_in name i) mode t a i ∷ []) h1.1 in
      element_covered mode t a i (shift_in name i) refl k.1 p2.1 h2.1
  covered_in mode (Length t a p) k pl h =
      covered_in mode a k (places_split (looks_in name mode a) _ pl).0 (parted_split (looks_in name mode a) _ h).0
  covered_in mode (Not e) k pl h = covered_in mode e k pl h
  covered_in mode (Compute m o x y p) k pl h =
      let q = places_split (looks_in name mode x) (looks_in name mode y) pl in let g =
      parted_split (looks_in name mode x) (looks_in name mode y) h in
      (covered_in mode x k.0 q.0 g.0, covered_in mode y k.1 q.1 g.1)
  covered_in mode (Compare o x y) k pl h =
      let q = places_split (looks_in name mode x) (looks_in name mode y ++ term_beside name mode x y) pl in let g =
      parted_split (looks_in name mode x) (looks_in name mode y ++ term_beside name mode x y) h in (
        covered_in mode x k.0 q.0 g.0,
        covered_in mode y k.1 (places_split (looks_in name mode y) (term_beside name mode x y) q.1).0
            (parted_split (looks_in name mode y) (term_beside name mode x y) g.1).0,
      )
  covered_in mode (Equal o x y) k pl h =
      let q = places_split (looks_in name mode x) (looks_in name mode y ++ term_beside name mode x y) pl in let g =
      parted_split (looks_in name mode x) (looks_in name mode y ++ term_beside name mode x y) h in (
        covered_in mode x k.0 q.0 g.0,
        covered_in mode y k.1 (places_split (looks_in name mode y) (term_beside name mode x y) q.1).0
            (parted_split (looks_in name mode y) (term_beside name mode x y) g.1).0,
      )
  covered_in mode (And x y) k pl h =
      let q = places_split (looks_in name mode x) (looks_in name mode y) pl in let g =
      parted_split (looks_in name mode x) (looks_in name mode y) h in
      (covered_in mode x k.0 q.0 g.0, covered_in mode y k.1 q.1 g.1)
  covered_in mode (Or x y) k pl h =
      let q = places_split (looks_in name mode x) (looks_in name mode y) pl in let g =
      parted_split (looks_in name mode x) (looks_in name mode y) h in
      (covered_in mode x k.0 q.0 g.0, covered_in mode y k.1 q.1 g.1)
  covered_in mode (Implies x y) k pl h =
      let q = places_split (looks_in name mode x) (looks_in name mode y) pl in let g =
      parted_split (looks_in name mode x) (looks_in name mode y) h in
      (covered_in mode x k.0 q.0 g.0, covered_in mode y k.1 q.1 g.1)
  covered_in mode (Old e) k pl h = covered_in true e k pl h

  pub covered : (e : Expression) → Steady name shift e → Places (looks_of name e) → Parted maps first b (looks_of name e) parts
      → Covered maps table s (cells_of s) b.old b.scene name Q e
  covered e k pl h = covered_in false e k pl h
