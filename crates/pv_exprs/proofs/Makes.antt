-- Each rule of expressions says something: `true` is an atom, and so an expression and a formula.
use Rattle.std.proofs.Common.{ℕ, ◌≡◌, [], ◌∷◌, Bool, true, false, refl}
use Rattle.pv_base.specs.declared.Span.{Span}
use Rattle.pv_tokens.specs.declared.fixed.TheConstants.{TRUE, WRITE}
use Rattle.pv_ast.specs.declared.ExprKind.TheVariants as e
use Rattle.pv_reading.specs.Marks.{Marked, fixed_at}
use Rattle.pv_reading.proofs.Exact.{Begins}
use Rattle.pv_exprs.specs.declared.level.Mode.{Mode}
use Rattle.pv_exprs.specs.declared.level.Mode.TheVariants.{Logic}
use Rattle.pv_exprs.specs.declared.level.Level.{Level}
use Rattle.pv_exprs.specs.declared.level.Level.TheVariants as level
use Rattle.pv_exprs.specs.declared.part.Part.{Part}
use Rattle.pv_exprs.specs.declared.part.Chain.{Chain}
use Rattle.pv_exprs.specs.declared.part.Chain.TheVariants.{Other}
use Rattle.pv_exprs.specs.Trees.{node}
use Rattle.pv_exprs.specs.Operators.{repeats}
use Rattle.pv_exprs.specs.Grammar as g

abbrev pub nowhere : Span
nowhere = record { from = 0; to = 0 }

abbrev pub sure : Part
sure = node nowhere (e.Truth true)

module _ (d : ℕ) where
  abbrev word : Marked → Marked
  word rest = (fixed_at TRUE nowhere, d) ∷ rest

  sure_post : (m : Mode) (rest : Marked) → g.IsPost m d (word rest) sure rest
  sure_post m rest = g.post g.true_word g.no_steps

  sure_unary : (m : Mode) (rest : Marked) → g.IsUnary m d (word rest) sure rest
  sure_unary m rest = g.plain (sure_post m rest)

  alone : {m : Mode} {l : Level} (rest : Marked) → g.IsOperand m l d (word rest) sure rest
      → g.IsJoined m l d (word rest) sure rest
  alone rest p = g.parts p g.no_more

  sure_sum : (m : Mode) (rest : Marked) → g.IsOperand m level.Sum d (word rest) sure rest
  sure_sum m rest = g.level refl (alone rest (g.unary refl (sure_unary m rest)))

  sure_comparison : (m : Mode) (rest : Marked) → g.IsOperand m level.Comparison d (word rest) sure rest
  sure_comparison m rest = g.level refl (alone rest (sure_sum m rest))

  sure_equality : (m : Mode) (rest : Marked) → g.IsOperand m level.Equality d (word rest) sure rest
  sure_equality m rest = g.level refl (alone rest (sure_comparison m rest))

  sure_conjunction : (m : Mode) (rest : Marked) → g.IsOperand m level.Conjunction d (word rest) sure rest
  sure_conjunction m rest = g.level refl (alone rest (sure_equality m rest))

  sure_disjunction : (m : Mode) (rest : Marked) → g.IsOperand m level.Disjunction d (word rest) sure rest
  sure_disjunction m rest = g.level refl (alone rest (sure_conjunction m rest))

  sure_operand : (m : Mode) (l : Level) (rest : Marked) → g.IsOperand m l d (word rest) sure rest
  sure_operand m level.Product rest = g.unary refl (sure_unary m rest)
  sure_operand m level.Sum rest = sure_sum m rest
  sure_operand m level.Comparison rest = sure_comparison m rest
  sure_operand m level.Equality rest = sure_equality m rest
  sure_operand m level.Conjunction rest = sure_conjunction m rest
  sure_operand m level.Disjunction rest = sure_disjunction m rest
  sure_operand m level.Separation rest = g.level refl (alone rest (sure_conjunction m rest))

  pub atom_makes : (m : Mode) → Begins (g.IsAtom m d) []
  atom_makes m = (word [], Other sure, λ rest. g.true_word)

  pub post_makes : (m : Mode) → Begins (g.IsPost m d) []
  post_makes m = (word [], sure, λ rest. sure_post m rest)

  pub unary_makes : (m : Mode) → Begins (g.IsUnary m d) []
  unary_makes m = (word [], sure, λ rest. sure_unary m rest)

  pub operand_makes : (m : Mode) (l : Level) → Begins (g.IsOperand m l d) []
  operand_makes m l = (word [], sure, λ rest. sure_operand m l rest)

  pub joined_makes : (m : Mode) (l : Level) → Begins (g.IsJoined m l d) []
  joined_makes m l = (word [], sure, λ rest. alone rest (sure_operand m l rest))

  pub expr_makes : (m : Mode) → Begins (g.IsExpr m d) []
  expr_makes m = joined_makes m level.Disjunction

  pub formula_makes : Begins (g.IsFormula d) []
  formula_makes = (word [], sure, λ rest. g.formula (g.disjunction (alone rest (sure_disjunction Logic rest))) g.no_implies)

  pub from_makes : (m : Mode) (l : Level) (a : Part) → Begins (g.JoinedFrom m l d a) []
  from_makes m l a = ([], a, λ rest. g.no_more)

  pub steps_makes : (m : Mode) (a : Chain) → Begins (g.StepsFrom m d a) []
  steps_makes m a = ([], a, λ rest. g.no_steps)

  pub amount_makes : Begins (g.IsAmount d) []
  amount_makes = ((fixed_at WRITE nowhere, d) ∷ [], _, λ rest. g.write)

only_by : (d : ℕ) (m : Mode) (l : Level) (a : Part) (b : Bool) → repeats l ≡ b → Begins (g.JoinedOnly m l d a) []
only_by d m l a true h = ([], a, λ rest. g.more h g.no_more)
only_by d m l a false h = ([], a, λ rest. g.last h)

pub only_makes : (d : ℕ) (m : Mode) (l : Level) (a : Part) → Begins (g.JoinedOnly m l d a) []
only_makes d m l a = only_by d m l a (repeats l) refl
