-- Contracts without a fault are made alike in both forms.
use Rattle.std.proofs.Common.{◌≡◌, Bool, true, false, Option, Some, None, is_some, List, [], ◌∷◌, map, refl, sym, ◌∙◌, ap, subst}
use Rattle.std.proofs.lemmas.Bool.{eq-eqb}
use Rattle.std.specs.Prelude.{filter, nat_eq, if◌then◌else◌}
use Rattle.std.specs.List.{AllByRecursion}
use Rattle.pv_base.specs.declared.Name.{Name}
use Rattle.pv_ast.specs.declared.PvType.{PvType}
use Rattle.pv_ast.specs.declared.PvType.TheVariants.{Int}
use Rattle.pv_ast.specs.declared.Clause.{Clause}
use Rattle.pv_ast.specs.declared.ClauseKind.{ClauseKind}
use Rattle.pv_ast.specs.declared.Contract.{Contract}
use Rattle.pv_ast.specs.declared.fault.ShapeFault.{ShapeFault}
use Rattle.pv_ast.specs.declared.scope.Declaration.{Declaration}
use Rattle.pv_ast.specs.declared.scope.Declaration.TheVariants.{LoopVariable}
use Rattle.pv_ast.specs.declared.scope.Declared.{Declared}
use Rattle.pv_ast.specs.declared.standing.Context.{Context}
use Rattle.pv_ast.specs.Rules.Scoping.{Visible, declared_as, declare_variable, is_visible, as_variable}
use Rattle.pv_ast.specs.Rules.Expressions.{Environment}
use Rattle.pv_ast.specs.Rules.Shapes.{faults_of_items, faults_of_item_contract}
use Rattle.pv_ast.specs.Rules.Statements as rules
use Rattle.pv_picks.specs.Plain.Core.{Formula, Items}
use Rattle.pv_picks.specs.Plain.Core as core
use Rattle.pv_picks.specs.Elaborating.Expressions.{together, core_of_formula, core_of_items}
use Rattle.pv_picks.specs.Elaborating.Statements.{formulas_at, core_of_formulas, core_of_all_items, core_of_shared}
use Rattle.core_trees.proofs.Clean.{Clean, no_first, no_second}
use Rattle.core_trees.proofs.Agreeing.{or_else, with_name, declared_new, declared_more}
use Rattle.core_trees.proofs.ConfiningStmts.{filter_all}
use Rattle.core_sharing.specs.Forms.{SameItems.same_nothing}
use Rattle.core_sharing.proofs.Making.{AreMade, SharedIsMade, made_together}
use Rattle.core_trees.proofs.Shapes.{type_of, IsPosition}
use Rattle.core_sharing.proofs.Both.{clause_same}

-- Positions in scope

choice_position : (b : Bool) (v w : Visible) (position : Name) → IsPosition v position → IsPosition w position
    → IsPosition (if b then v else w) position
choice_position true v w position h k = h
choice_position false v w position h k = k

still_number : (o x : Option Declared) → type_of (as_variable o) ≡ Some Int → type_of (as_variable (or_else o x)) ≡ Some Int
still_number None x h = absurd cc
still_number (Some d) x h = h

-- a name in scope keeps its meaning
pub still_position : (v : Visible) (how : Declaration) (name position : Name) (type : PvType) → IsPosition v position
    → IsPosition (declare_variable how v name type) position
still_position v how name position type h =
    let d : Declared = record { declaration = how; kind = type } in
    choice_position (is_visible v name) v (with_name v (name.0, d)) position h
    (ap (λ o. type_of (as_variable o)) (declared_more v.names (name.0, d) position)
    ∙ still_number (declared_as v.names position) (declared_as ((name.0, d) ∷ []) position) h)

new_number : (o : Option Declared) (b : Bool) → is_some o ≡ false → b ≡ true
    → type_of (as_variable (or_else o (if b then Some (record { declaration = LoopVariable; kind = Int }) else None))) ≡ Some Int
new_number None true h k = refl
new_number None false h k = absurd cc
new_number (Some d) b h k = absurd cc

-- the variable of a par block or counted loop is a number in its body
pub loop_position : (v : Visible) (name : Name) → is_visible v name ≡ false
    → IsPosition (declare_variable LoopVariable v name Int) name
loop_position v name new =
    let d : Declared = record { declaration = LoopVariable; kind = Int } in
    subst (λ (w : Visible). IsPosition w name) (sym (declared_new v name d new))
    (ap (λ o. type_of (as_variable o)) (declared_more v.names (name.0, d) name)
    ∙ new_number (declared_as v.names name) (nat_eq name.0 name.0) new (eq-eqb name.0 name.0 refl))

-- Clauses one behind the other

abbrev ClauseSame : Name → Environment → Visible → Clause → Type 0
ClauseSame name a v c = AreMade name (core_of_formula a v c.formula) (core_of_items name a v c.formula)

together_none : (is : Items) → together is core.NoItems ≡ is
together_none core.NoItems = refl
together_none (core.Join i is) = ap (core.Join i) (together_none is)

clauses_same : (name : Name) (a : Environment) (v : Visible) (cs : List Clause) → AllByRecursion (ClauseSame name a v) cs
    → AreMade name (core_of_formulas a v (map (λ clause. clause.formula) cs))
    (core_of_all_items name a v (map (λ clause. clause.formula) cs))
clauses_same name a v [] h = (same_nothing, tt)
clauses_same name a v (c ∷ []) h =
    subst (λ (is : Items). AreMade name (core_of_formula a v c.formula) is)
    (sym (together_none (core_of_items name a v c.formula))) h.0
clauses_same name a v (c ∷ d ∷ cs) h =
    made_together name _ _ _ _ h.0 (clauses_same name a v (d ∷ cs) h.1)

clauses_at : (name : Name) (a : Environment) (v : Visible) (stands : ClauseKind → Bool) (cs : List Clause)
    → AllByRecursion (ClauseSame name a v) cs
    → AreMade name (core_of_formulas a v (formulas_at stands cs)) (core_of_all_items name a v (formulas_at stands cs))
clauses_at name a v stands cs h =
    clauses_same name a v (filter (λ clause. stands clause.kind) cs)
    (filter_all (ClauseSame name a v) (λ clause. stands clause.kind) cs h)

each_clause : (name : Name) (a : Environment) (v : Visible) (ensures others : Context) (cs : List Clause) → IsPosition v name
    → Clean (rules.faults_of_clauses a v ensures others cs) → faults_of_item_contract name.0 (record { clauses = cs }) ≡ []
    → AllByRecursion (ClauseSame name a v) cs
each_clause name a v ensures others [] p clean none = tt
each_clause name a v ensures others (c ∷ cs) p clean none =
    let first : List ShapeFault = faults_of_items name.0 c.formula in
    let rest : List ShapeFault = faults_of_item_contract name.0 (record { clauses = cs }) in (
      clause_same c.formula name a v _ p clean.0 (no_first first rest none),
      each_clause name a v ensures others cs p clean.1
          (no_second first rest none),
    )

-- a contract that members keep, at the position of this name
pub shared_same : (name : Name) (c : Contract) (a : Environment) (v : Visible) (ensures others : Context) → IsPosition v name
    → Clean (rules.faults_of_clauses a v ensures others c.clauses) → faults_of_item_contract name.0 c ≡ []
    → SharedIsMade name (core_of_shared name a v c)
shared_same name c a v ensures others p clean none =
    let all = each_clause name a v ensures others c.clauses p clean none in
    (clauses_at name a v _ c.clauses all, clauses_at name a v _ c.clauses all)
