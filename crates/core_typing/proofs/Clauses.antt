-- Clauses without a fault become well typed formulas and items.
use Rattle.std.proofs.Common.{◌≡◌, Bool, true, false, List, [], ◌∷◌, ◌++◌, map, cond, refl}
use Rattle.std.specs.Prelude.{filter, if◌then◌else◌}
use Rattle.std.specs.List.{AllByRecursion, flat_map}
use Rattle.pv_base.specs.declared.Name.{Name}
use Rattle.pv_ast.specs.declared.Expr.{Expr}
use Rattle.pv_ast.specs.declared.Clause.{Clause}
use Rattle.pv_ast.specs.declared.ClauseKind.{ClauseKind}
use Rattle.pv_ast.specs.declared.ClauseKind.TheVariants.{Requires, Ensures, Context as ContextClause}
use Rattle.pv_ast.specs.declared.standing.Context.{Context}
use Rattle.pv_ast.specs.declared.fault.ShapeFault.{ShapeFault}
use Rattle.pv_ast.specs.Rules.Scoping.{Visible}
use Rattle.pv_ast.specs.Rules.Expressions.{Environment}
use Rattle.pv_ast.specs.Rules.Shapes as shapes
use Rattle.pv_ast.specs.Rules.Statements.{is_ensures, faults_of_clauses}
use Rattle.pv_picks.specs.Plain.Core.{Formula}
use Rattle.pv_picks.specs.Plain.Core as core
use Rattle.pv_picks.specs.Machine.Starts.{true_formula}
use Rattle.pv_picks.specs.Elaborating.Expressions.{core_of_formula}
use Rattle.pv_picks.specs.Elaborating.Statements.{joined, stands_before, stands_after, formulas_at, core_of_formulas}
use Rattle.core_trees.proofs.Clean.{Clean, no_first, no_second}
use Rattle.pv_picks.specs.Typing.Expressions.{Home, Speech, silent}
use Rattle.core_trees.specs.Formulas.{FormulaFits}
use Rattle.core_typing.proofs.Places.{Place, Speaks}
use Rattle.core_typing.proofs.Formulas.{formula_fits}
use Rattle.pv_picks.specs.Elaborating.Statements.{joined_items, core_of_shared}
use Rattle.pv_picks.specs.Elaborating.Expressions.{core_of_items}
use Rattle.pv_ast.specs.declared.Contract.{Contract}
use Rattle.pv_ast.specs.Rules.Statements.{faults_of_formulas}
use Rattle.pv_picks.specs.Plain.Core.{Items}
use Rattle.core_typing.proofs.Within.{FormulaWithin, ItemsWithin, SharedWithin}
use Rattle.core_trees.proofs.Shapes.{IsPosition}
use Rattle.core_typing.proofs.Formulas.{item_formula_within}
use Rattle.core_typing.proofs.Parts.{together_fit}

joined_all : (P : Formula → Type 0) → P true_formula → ((f g : Formula) → P f → P g → P (core.Star f g)) → (fs : List Formula)
    → AllByRecursion P fs → P (joined fs)
joined_all P truth star [] all = truth
joined_all P truth star (f ∷ []) all = all.0
joined_all P truth star (f ∷ g ∷ fs) all = star f (joined (g ∷ fs)) all.0 (joined_all P truth star (g ∷ fs) all.1)

joined_fits : (h : Home) (speech : Speech) (xs : List core.Parameter) (fs : List Formula)
    → AllByRecursion (FormulaFits h speech xs) fs
    → FormulaFits h speech xs (joined fs)
joined_fits h speech xs fs all = joined_all (FormulaFits h speech xs) refl (λ f g i j. (i, j)) fs all

-- the clauses that stand there, in a context of which the speech may speak
abbrev pub SpeaksAt : Speech → Environment → (ClauseKind → Bool) → Context → Context → Type 0
SpeaksAt speech a stands ensures others = (k : ClauseKind) → stands k ≡ true
    → Speaks speech a (if is_ensures k then ensures else others)

pub speaks_before : (speech : Speech) (a : Environment) (ensures others : Context) → Speaks speech a others
    → SpeaksAt speech a stands_before ensures others
speaks_before speech a ensures others speaks Requires k = speaks
speaks_before speech a ensures others speaks Ensures k = absurd cc
speaks_before speech a ensures others speaks ContextClause k = speaks

pub speaks_after : (speech : Speech) (a : Environment) (ensures others : Context) → Speaks speech a ensures
    → Speaks speech a others
    → SpeaksAt speech a stands_after ensures others
speaks_after speech a ensures others ends speaks Requires k = absurd cc
speaks_after speech a ensures others ends speaks Ensures k = ends
speaks_after speech a ensures others ends speaks ContextClause k = speaks

module _ (h : Home) (speech : Speech) (a : Environment) (v : Visible) (xs : List core.Parameter) (place : Place h a v xs) where
  one_more : (b : Bool) (clause : Clause) (clauses : List Clause)
      → (b ≡ true → FormulaFits h speech xs (core_of_formula a v clause.formula))
      → AllByRecursion (FormulaFits h speech xs) (map (core_of_formula a v) (map (λ clause. clause.formula) clauses))
      → AllByRecursion (FormulaFits h speech xs) (map (core_of_formula a v)
      (map (λ clause. clause.formula) (cond b (clause ∷ clauses) clauses)))
  one_more true clause clauses f rest = (f refl, rest)
  one_more false clause clauses f rest = rest

  clauses_fit : (stands : ClauseKind → Bool) (ensures others : Context) (clauses : List Clause)
      → SpeaksAt speech a stands ensures others → Clean (faults_of_clauses a v ensures others clauses)
      → flat_map (λ (clause : Clause). shapes.faults_of_formula clause.formula) clauses ≡ []
      → AllByRecursion (FormulaFits h speech xs) (map (core_of_formula a v) (formulas_at stands clauses))
  clauses_fit stands ensures others [] speaks clean none = tt
  clauses_fit stands ensures others (clause ∷ clauses) speaks clean none =
      let rest : shapes.faults_of_formula clause.formula
      ++ flat_map (λ (clause : Clause). shapes.faults_of_formula clause.formula) clauses ≡ [] = none in
      one_more (stands clause.kind) clause (filter (λ clause. stands clause.kind) clauses)
      (λ k. formula_fits clause.formula h speech a v xs (if is_ensures clause.kind then ensures else others) place
      (speaks clause.kind k) clean.0 (no_first _ _ rest))
      (clauses_fit stands ensures others clauses speaks clean.1 (no_second (shapes.faults_of_formula clause.formula) _ rest))

  -- the formulas of a contract that stand before, or after
  pub formulas_fit : (stands : ClauseKind → Bool) (ensures others : Context) (clauses : List Clause)
      → SpeaksAt speech a stands ensures others → Clean (faults_of_clauses a v ensures others clauses)
      → flat_map (λ (clause : Clause). shapes.faults_of_formula clause.formula) clauses ≡ []
      → FormulaFits h speech xs (core_of_formulas a v (formulas_at stands clauses))
  formulas_fit stands ensures others clauses speaks clean none =
      joined_fits h speech xs _ (clauses_fit stands ensures others clauses speaks clean none)

  -- invariants of a loop
  invariants_all : (c : Context) (es : List Expr) → Speaks speech a c → Clean (faults_of_formulas a v c es)
      → shapes.faults_of_formulas es ≡ [] → AllByRecursion (FormulaFits h speech xs) (map (core_of_formula a v) es)
  invariants_all c [] speaks clean none = tt
  invariants_all c (e ∷ es) speaks clean none = (
    formula_fits e h speech a v xs c place speaks clean.0
        (no_first (shapes.faults_of_formula e) (shapes.faults_of_formulas es) none),
    invariants_all c es speaks clean.1 (no_second (shapes.faults_of_formula e) (shapes.faults_of_formulas es) none),
  )

  pub invariants_fit : (c : Context) (es : List Expr) → Speaks speech a c → Clean (faults_of_formulas a v c es)
      → shapes.faults_of_formulas es ≡ [] → FormulaFits h speech xs (core_of_formulas a v es)
  invariants_fit c es speaks clean none = joined_fits h speech xs _ (invariants_all c es speaks clean none)

-- Contracts of members

items_joined : (h : Home) (speech : Speech) (xs : List core.Parameter) (all : List Items)
    → AllByRecursion (ItemsWithin h speech xs) all → ItemsWithin h speech xs (joined_items all)
items_joined h speech xs [] k = tt
items_joined h speech xs (is ∷ rest) k = together_fit h speech xs is (joined_items rest) k.0 (items_joined h speech xs rest k.1)

module _ (h : Home) (a : Environment) (v : Visible) (xs : List core.Parameter) (name : Name) (place : Place h a v xs)
    (position : IsPosition v name) (c : Context) (speaks : Speaks silent a c) where
  -- a clause as a formula and as items
  abbrev ClauseFits : Clause → Type 0
  ClauseFits clause = FormulaWithin h silent xs (core_of_formula a v clause.formula) × ItemsWithin h silent xs
      (core_of_items name a v clause.formula)

  either_context : (b : Bool) → Speaks silent a (if b then c else c)
  either_context true = speaks
  either_context false = speaks

  all_clauses : (clauses : List Clause) → Clean (faults_of_clauses a v c c clauses)
      → flat_map (λ (clause : Clause). shapes.faults_of_items name.0 clause.formula) clauses ≡ []
      → AllByRecursion ClauseFits clauses
  all_clauses [] clean none = tt
  all_clauses (clause ∷ clauses) clean none =
      let further : List ShapeFault = flat_map (λ (clause : Clause). shapes.faults_of_items name.0 clause.formula) clauses in (
        item_formula_within clause.formula name h silent a v xs (if is_ensures clause.kind then c else c) position place
            (either_context (is_ensures clause.kind)) clean.0 (no_first
            (shapes.faults_of_items name.0 clause.formula) further none),
        all_clauses clauses clean.1 (no_second (shapes.faults_of_items name.0 clause.formula) further none),
      )

  one_formula : (b : Bool) (clause : Clause) (clauses : List Clause)
      → FormulaWithin h silent xs (core_of_formula a v clause.formula)
      → AllByRecursion (FormulaWithin h silent xs) (map (core_of_formula a v) (map (λ clause. clause.formula) clauses))
      → AllByRecursion (FormulaWithin h silent xs) (map (core_of_formula a v)
      (map (λ clause. clause.formula) (cond b (clause ∷ clauses) clauses)))
  one_formula true clause clauses f rest = (f, rest)
  one_formula false clause clauses f rest = rest

  one_items : (b : Bool) (clause : Clause) (clauses : List Clause)
      → ItemsWithin h silent xs (core_of_items name a v clause.formula)
      → AllByRecursion (ItemsWithin h silent xs) (map (core_of_items name a v) (map (λ clause. clause.formula) clauses))
      → AllByRecursion (ItemsWithin h silent xs) (map (core_of_items name a v)
      (map (λ clause. clause.formula) (cond b (clause ∷ clauses) clauses)))
  one_items true clause clauses f rest = (f, rest)
  one_items false clause clauses f rest = rest

  some_formulas : (stands : ClauseKind → Bool) (clauses : List Clause) → AllByRecursion ClauseFits clauses
      → AllByRecursion (FormulaWithin h silent xs) (map (core_of_formula a v) (formulas_at stands clauses))
  some_formulas stands [] all = tt
  some_formulas stands (clause ∷ clauses) all =
      one_formula (stands clause.kind) clause (filter (λ clause. stands clause.kind) clauses) all.0.0
      (some_formulas stands clauses all.1)

  some_items : (stands : ClauseKind → Bool) (clauses : List Clause) → AllByRecursion ClauseFits clauses
      → AllByRecursion (ItemsWithin h silent xs) (map (core_of_items name a v) (formulas_at stands clauses))
  some_items stands [] all = tt
  some_items stands (clause ∷ clauses) all =
      one_items (stands clause.kind) clause (filter (λ clause. stands clause.kind) clauses) all.0.1
      (some_items stands clauses all.1)

  pub shared_within : (contract : Contract) → Clean (faults_of_clauses a v c c contract.clauses)
      → shapes.faults_of_item_contract name.0 contract ≡ [] → SharedWithin h xs (core_of_shared name a v contract)
  shared_within contract clean none =
      let all = all_clauses contract.clauses clean none in
      let both : (fs : List Formula) → AllByRecursion (FormulaWithin h silent xs) fs → FormulaWithin h silent xs (joined fs) =
      joined_all (FormulaWithin h silent xs) refl (λ f g i j. (i, j)) in (
        both _ (some_formulas stands_before contract.clauses all),
        both _ (some_formulas stands_after contract.clauses all),
        items_joined h silent xs _ (some_items stands_before contract.clauses all),
        items_joined h silent xs _ (some_items stands_after contract.clauses all),
      )
