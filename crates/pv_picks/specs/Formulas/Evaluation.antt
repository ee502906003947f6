-- The value of an expression, from left to right, stopping where the left side decides. What a location holds, what an
-- operation gives and what is noticed of a comparison comes from a reader, and what is done with the value is said by what is
-- done next: so the machine's formulas, the judge and its lazy run have one evaluation.
use Rattle.std.specs.Prelude.{ℕ, ℤ, Bool, true, false, not, if◌then◌else◌, List, [], ◌∷◌}
use Rattle.pv_base.specs.declared.Name.{Name}
use Rattle.pv_base.specs.declared.Span.{Span}
use Rattle.pv_ast.specs.declared.PvType.{PvType}
use Rattle.pv_values.specs.declared.value.Value.{Value}
use Rattle.pv_values.specs.declared.value.Value.TheVariants as value
use Rattle.pv_picks.specs.Plain.Core.{Operation, Manner, Expression, Constant, This, Result, Variable, Field, Element, Length, Not, Compute, Compare, Equal, And, Or, Implies, Old}
use Rattle.pv_picks.specs.Formulas.Values.{Variables, number_in, truth_in, reference_in, comparison, equality}

-- what an expression speaks of besides locations: `this`, the variables, `\result`
pub record Scene : Type 0 where
  pub this : ℕ
  pub variables : Variables
  pub result : Value

-- what the rest of a run, R, is where an expression looks at something
pub record Reader (R : Type 0) : Type 0 where
  -- class, object, field, and the place of the access
  pub field : Name → ℕ → Name → Span → (Value → R) → R
  -- type of the elements, array, index
  pub element : PvType → ℕ → ℤ → Span → (Value → R) → R
  -- type of the elements, array
  pub length : PvType → ℕ → Span → (ℤ → R) → R
  pub operation : Manner → Operation → ℤ → ℤ → Span → (ℤ → R) → R
  -- two numbers are compared by their order
  pub comparing : ℤ → ℤ → R → R
  -- two values of one type are compared
  pub matching : Value → Value → R → R
  -- a truth value decides how the run goes on
  pub deciding : Bool → R → R

module _ {R : Type 0} where
  -- with a reader for the present state and one for the old state
  abbrev pub evaluate : Reader R → Reader R → Scene → Expression → (Value → R) → R
  evaluate now old scene (Constant v) next = next v
  evaluate now old scene This next = next (value.Reference scene.this)
  evaluate now old scene Result next = next scene.result
  evaluate now old scene (Variable name) next = next (scene.variables name.0)
  evaluate now old scene (Field object class field span) next =
      evaluate now old scene object (λ o. now.field class (reference_in o) field span next)
  evaluate now old scene (Element type array index span) next =
      evaluate now old scene array (λ a. evaluate now old scene index
      (λ i. now.element type (reference_in a) (number_in i) span next))
  evaluate now old scene (Length type array span) next =
      evaluate now old scene array (λ a. now.length type (reference_in a) span (λ n. next (value.Number n)))
  evaluate now old scene (Not e) next = evaluate now old scene e (λ v. next (value.Truth (not (truth_in v))))
  evaluate now old scene (Compute manner operation a b span) next =
      evaluate now old scene a (λ x. evaluate now old scene b
      (λ y. now.operation manner operation (number_in x) (number_in y) span (λ z. next (value.Number z))))
  evaluate now old scene (Compare order a b) next =
      evaluate now old scene a (λ x. evaluate now old scene b
      (λ y. now.comparing (number_in x) (number_in y) (next (value.Truth (comparison order (number_in x) (number_in y))))))
  evaluate now old scene (Equal same a b) next =
      evaluate now old scene a (λ x. evaluate now old scene b (λ y. now.matching x y (next (value.Truth (equality same x y)))))
  evaluate now old scene (And a b) next =
      evaluate now old scene a (λ x. now.deciding (truth_in x)
      (if truth_in x then evaluate now old scene b next else next (value.Truth false)))
  evaluate now old scene (Or a b) next =
      evaluate now old scene a (λ x. now.deciding (truth_in x)
      (if truth_in x then next (value.Truth true) else evaluate now old scene b next))
  evaluate now old scene (Implies a b) next =
      evaluate now old scene a (λ x. now.deciding (truth_in x)
      (if truth_in x then evaluate now old scene b next else next (value.Truth true)))
  evaluate now old scene (Old e) next = evaluate old old scene e next

  -- one expression after the other
  abbrev pub evaluate_all : Reader R → Reader R → Scene → List Expression → (List Value → R) → R
  evaluate_all now old scene [] next = next []
  evaluate_all now old scene (e ∷ es) next = evaluate now old scene e (λ v. evaluate_all now old scene es (λ vs. next (v ∷ vs)))
