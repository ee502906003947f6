-- Evaluation over readers of heaps: what is done next counts only by its values, and guards let through where their condition is
-- true.
use Rattle.std.proofs.Common.{◌≡◌, ℤ, Bool, true, false, Option, Some, None, List, [], ◌∷◌, ◌++◌, refl, sym, ◌∙◌, ap}
use Rattle.std.proofs.lemmas.Bool.{eqb-true}
use Rattle.std.specs.Prelude.{if◌then◌else◌}
use Rattle.pv_base.specs.declared.Name.{Name}
use Rattle.pv_values.specs.declared.value.Value.{Value}
use Rattle.pv_values.specs.declared.value.Value.TheVariants as value
use Rattle.pv_values.specs.declared.value.Location.TheVariants as location
use Rattle.pv_picks.specs.Plain.Core.{Expression, Cut}
use Rattle.pv_picks.specs.Plain.Core as core
use Rattle.pv_picks.specs.Formulas.Heaps.{Heap}
use Rattle.pv_picks.specs.Formulas.Values.{number_in, truth_in, reference_in, comparison, equality}
use Rattle.pv_picks.specs.Formulas.Evaluation.{Scene, evaluate}
use Rattle.pv_picks.specs.Formulas.Meeting.{or_stop, heap_reader, Sight, value_or, passes, guard_term, behind}
use Rattle.pv_picks.specs.Elaborating.Operations.{is_position, cut_before, cut_behind, cuts_of}

module _ {R : Type 0} where
  or_same : {A : Type 0} (o : Option A) (stop : R) (f g : A → R) → ((x : A) → f x ≡ g x) → or_stop o stop f ≡ or_stop o stop g
  or_same None stop f g same = refl
  or_same (Some x) stop f g same = same x

  choice_same : (b : Bool) (x x' y y' : R) → x ≡ x' → y ≡ y' → (if b then x else y) ≡ (if b then x' else y')
  choice_same true x x' y y' h k = h
  choice_same false x x' y y' h k = k

  -- what is done next may be replaced where it says the same of each value
  pub evaluate_same : (stop : R) (now old : Heap) (scene : Scene) (e : Expression) (f g : Value → R) → ((v : Value) → f v ≡ g v)
      → evaluate (heap_reader stop now) (heap_reader stop old) scene e f
      ≡ evaluate (heap_reader stop now) (heap_reader stop old) scene e g
  evaluate_same stop now old scene (core.Constant v) f g same = same v
  evaluate_same stop now old scene core.This f g same = same (value.Reference scene.this)
  evaluate_same stop now old scene core.Result f g same = same scene.result
  evaluate_same stop now old scene (core.Variable name) f g same = same (scene.variables name.0)
  evaluate_same stop now old scene (core.Field e class field span) f g same =
      evaluate_same stop now old scene e _ _ (λ o. or_same (now.value (location.Field (reference_in o) field)) stop f g same)
  evaluate_same stop now old scene (core.Element type x i span) f g same =
      evaluate_same stop now old scene x _ _
      (λ a. evaluate_same stop now old scene i _ _
      (λ n. or_same (now.value (location.Cell (reference_in a) (number_in n))) stop f g same))
  evaluate_same stop now old scene (core.Length type x span) f g same =
      evaluate_same stop now old scene x _ _ (λ a. or_same (now.length (reference_in a)) stop _ _ (λ n. same (value.Number n)))
  evaluate_same stop now old scene (core.Not e) f g same = evaluate_same stop now old scene e _ _ (λ v. same _)
  evaluate_same stop now old scene (core.Compute m o x y span) f g same =
      evaluate_same stop now old scene x _ _ (λ a. evaluate_same stop now old scene y _ _ (λ b. same _))
  evaluate_same stop now old scene (core.Compare c x y) f g same =
      evaluate_same stop now old scene x _ _ (λ a. evaluate_same stop now old scene y _ _ (λ b. same _))
  evaluate_same stop now old scene (core.Equal b x y) f g same =
      evaluate_same stop now old scene x _ _ (λ a. evaluate_same stop now old scene y _ _ (λ b. same _))
  evaluate_same stop now old scene (core.And x y) f g same =
      evaluate_same stop now old scene x _ _
      (λ a. choice_same (truth_in a) _ _ _ _ (evaluate_same stop now old scene y f g same) (same _))
  evaluate_same stop now old scene (core.Or x y) f g same =
      evaluate_same stop now old scene x _ _
      (λ a. choice_same (truth_in a) _ _ _ _ (same _) (evaluate_same stop now old scene y f g same))
  evaluate_same stop now old scene (core.Implies x y) f g same =
      evaluate_same stop now old scene x _ _
      (λ a. choice_same (truth_in a) _ _ _ _ (evaluate_same stop now old scene y f g same) (same _))
  evaluate_same stop now old scene (core.Old e) f g same = evaluate_same stop old old scene e f g same

  or_stops : {A : Type 0} (o : Option A) (stop : R) (f : A → R) → ((x : A) → f x ≡ stop) → or_stop o stop f ≡ stop
  or_stops None stop f all = refl
  or_stops (Some x) stop f all = all x

  choice_stops : (b : Bool) (x y stop : R) → x ≡ stop → y ≡ stop → (if b then x else y) ≡ stop
  choice_stops true x y stop h k = h
  choice_stops false x y stop h k = k

  -- where each value gives what a missing location gives, so does the expression
  pub evaluate_stops : (stop : R) (now old : Heap) (scene : Scene) (e : Expression) (f : Value → R) → ((v : Value) → f v ≡ stop)
      → evaluate (heap_reader stop now) (heap_reader stop old) scene e f ≡ stop
  evaluate_stops stop now old scene (core.Constant v) f all = all v
  evaluate_stops stop now old scene core.This f all = all _
  evaluate_stops stop now old scene core.Result f all = all _
  evaluate_stops stop now old scene (core.Variable name) f all = all _
  evaluate_stops stop now old scene (core.Field e class field span) f all =
      evaluate_stops stop now old scene e _ (λ o. or_stops (now.value (location.Field (reference_in o) field)) stop f all)
  evaluate_stops stop now old scene (core.Element type x i span) f all =
      evaluate_stops stop now old scene x _
      (λ a. evaluate_stops stop now old scene i _
      (λ n. or_stops (now.value (location.Cell (reference_in a) (number_in n))) stop f all))
  evaluate_stops stop now old scene (core.Length type x span) f all =
      evaluate_stops stop now old scene x _ (λ a. or_stops (now.length (reference_in a)) stop _ (λ n. all (value.Number n)))
  evaluate_stops stop now old scene (core.Not e) f all = evaluate_stops stop now old scene e _ (λ v. all _)
  evaluate_stops stop now old scene (core.Compute m o x y span) f all =
      evaluate_stops stop now old scene x _ (λ a. evaluate_stops stop now old scene y _ (λ b. all _))
  evaluate_stops stop now old scene (core.Compare c x y) f all =
      evaluate_stops stop now old scene x _ (λ a. evaluate_stops stop now old scene y _ (λ b. all _))
  evaluate_stops stop now old scene (core.Equal b x y) f all =
      evaluate_stops stop now old scene x _ (λ a. evaluate_stops stop now old scene y _ (λ b. all _))
  evaluate_stops stop now old scene (core.And x y) f all =
      evaluate_stops stop now old scene x _
      (λ a. choice_stops (truth_in a) _ _ stop (evaluate_stops stop now old scene y f all) (all _))
  evaluate_stops stop now old scene (core.Or x y) f all =
      evaluate_stops stop now old scene x _
      (λ a. choice_stops (truth_in a) _ _ stop (all _) (evaluate_stops stop now old scene y f all))
  evaluate_stops stop now old scene (core.Implies x y) f all =
      evaluate_stops stop now old scene x _
      (λ a. choice_stops (truth_in a) _ _ stop (evaluate_stops stop now old scene y f all) (all _))
  evaluate_stops stop now old scene (core.Old e) f all = evaluate_stops stop old old scene e f all

-- In a scene where the name stands for a position.
module _ {R : Type 0} (stop : R) (sight : Sight) (scene : Scene) (name : Name) (position : ℤ)
    (here : scene.variables name.0 ≡ value.Number position) where
  pub value_same : (e : Expression) (f g : Value → R) → ((v : Value) → f v ≡ g v)
      → value_or stop sight scene e f ≡ value_or stop sight scene e g
  value_same e f g same = evaluate_same stop sight.now sight.old scene e f g same

  -- the name is read as the position
  position_read : (e : Expression) → is_position name e ≡ true → (f : Value → R)
      → value_or stop sight scene e f ≡ f (value.Number position)
  position_read (core.Variable other) is f =
      let same : name.0 ≡ other.0 = eqb-true name.0 other.0 is in
      ap (λ n. f (scene.variables n)) (sym same) ∙ ap f here
  position_read (core.Constant v) is f = absurd cc
  position_read core.This is f = absurd cc
  position_read core.Result is f = absurd cc
  position_read (core.Field e class field span) is f = absurd cc
  position_read (core.Element type x i span) is f = absurd cc
  position_read (core.Length type x span) is f = absurd cc
  position_read (core.Not e) is f = absurd cc
  position_read (core.Compute m o x y span) is f = absurd cc
  position_read (core.Compare c x y) is f = absurd cc
  position_read (core.Equal b x y) is f = absurd cc
  position_read (core.And x y) is f = absurd cc
  position_read (core.Or x y) is f = absurd cc
  position_read (core.Implies x y) is f = absurd cc
  position_read (core.Old e) is f = absurd cc

  -- Guards

  behind_append : (outside rest : R) (cs ds : List Cut)
      → behind stop outside sight scene (cs ++ ds) position rest
      ≡ behind stop outside sight scene cs position (behind stop outside sight scene ds position rest)
  behind_append outside rest [] ds = refl
  behind_append outside rest (c ∷ cs) ds =
      value_same (guard_term c) _ _ (λ v. choice_same (passes c position v) _ _ _ _ (behind_append outside rest cs ds) refl)

  before_met : (c : core.Comparison) (y : Expression) (outside rest : R)
      → behind stop outside sight scene (cut_before c y ∷ []) position rest
      ≡ value_or stop sight scene y (λ v. if comparison c position (number_in v) then rest else outside)
  before_met core.Less y outside rest = refl
  before_met core.AtMost y outside rest = refl
  before_met core.Greater y outside rest = refl
  before_met core.AtLeast y outside rest = refl

  behind_met : (c : core.Comparison) (x : Expression) (outside rest : R)
      → behind stop outside sight scene (cut_behind c x ∷ []) position rest
      ≡ value_or stop sight scene x (λ v. if comparison c (number_in v) position then rest else outside)
  behind_met core.Less x outside rest = refl
  behind_met core.AtMost x outside rest = refl
  behind_met core.Greater x outside rest = refl
  behind_met core.AtLeast x outside rest = refl

  cut_met : (a b : Bool) (c : core.Comparison) (x y : Expression) (outside rest : R) → is_position name x ≡ a
      → is_position name y ≡ b
      → behind stop outside sight scene
      ((if a then cut_before c y else (if b then cut_behind c x else core.Provided (core.Compare c x y))) ∷ []) position rest
      ≡ value_or stop sight scene (core.Compare c x y) (λ v. if truth_in v then rest else outside)
  cut_met true b c x y outside rest is_x is_y =
      before_met c y outside rest
      ∙ sym (position_read x is_x
      (λ u. value_or stop sight scene y (λ v. if comparison c (number_in u) (number_in v) then rest else outside)))
  cut_met false true c x y outside rest is_x is_y =
      behind_met c x outside rest
      ∙ value_same x _ _ (λ u.
      sym (position_read y is_y (λ v. if comparison c (number_in u) (number_in v) then rest else outside)))
  cut_met false false c x y outside rest is_x is_y = refl

  -- guards let the rest through where their condition is true
  pub guards_met : (e : Expression) (outside rest : R)
      → behind stop outside sight scene (cuts_of name e) position rest
      ≡ value_or stop sight scene e (λ v. if truth_in v then rest else outside)
  guards_met (core.And x y) outside rest =
      behind_append outside rest (cuts_of name x) (cuts_of name y)
      ∙ guards_met x outside (behind stop outside sight scene (cuts_of name y) position rest)
      ∙ value_same x _ _ (λ u. choice_same (truth_in u) _ _ _ _ (guards_met y outside rest) refl)
  guards_met (core.Compare c x y) outside rest = cut_met (is_position name x) (is_position name y) c x y outside rest refl refl
  guards_met (core.Constant v) outside rest = refl
  guards_met core.This outside rest = refl
  guards_met core.Result outside rest = refl
  guards_met (core.Variable other) outside rest = refl
  guards_met (core.Field e class field span) outside rest = refl
  guards_met (core.Element type x i span) outside rest = refl
  guards_met (core.Length type x span) outside rest = refl
  guards_met (core.Not e) outside rest = refl
  guards_met (core.Compute m o x y span) outside rest = refl
  guards_met (core.Equal b x y) outside rest = refl
  guards_met (core.Or x y) outside rest = refl
  guards_met (core.Implies x y) outside rest = refl
  guards_met (core.Old e) outside rest = refl

  -- an equality of the position
  pub equality_met : (y : Expression) (outside rest : R)
      → value_or stop sight scene (core.Equal true (core.Variable name) y) (λ v. if truth_in v then rest else outside)
      ≡ value_or stop sight scene y (λ v. if equality true (value.Number position) v then rest else outside)
  equality_met y outside rest = ap (λ u. value_or stop sight scene y (λ v. if equality true u v then rest else outside)) here
