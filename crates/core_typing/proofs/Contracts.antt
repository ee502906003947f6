-- Contracts without a fault become well typed ones, and so do the other formulas of classes.
use Rattle.std.proofs.Common.{◌≡◌, Option, Some, None, is_some, option_map, List, [], ◌∷◌, map, refl, sym, ◌∙◌, subst}
use Rattle.std.specs.List.{AllByRecursion, flat_map}
use Rattle.pv_base.specs.declared.Name.{Name}
use Rattle.pv_ast.specs.declared.Expr.{Expr}
use Rattle.pv_ast.specs.declared.Member.{Member}
use Rattle.pv_ast.specs.declared.Member.TheVariants as member
use Rattle.pv_ast.specs.declared.Class.{Class}
use Rattle.pv_ast.specs.declared.Program.{Program}
use Rattle.pv_ast.specs.declared.fault.Rule.TheVariants as rule
use Rattle.pv_ast.specs.Rules.Lookup as rules
use Rattle.pv_ast.specs.Rules.Lookup.{is_declared_type}
use Rattle.pv_ast.specs.Rules.Scoping.{nothing_visible}
use Rattle.pv_ast.specs.Rules.Expressions.{Environment}
use Rattle.pv_ast.specs.Rules.Shapes as shapes
use Rattle.pv_ast.specs.Rules.Statements.{in_condition}
use Rattle.pv_ast.specs.Rules.Programs.{in_class, in_ensures, with_params, faults_of_members, faults_of_lock_invariant}
use Rattle.pv_ast.specs.Rules.WellFormed.{IsWellFormed}
use Rattle.pv_picks.specs.Plain.Core.{Formula}
use Rattle.pv_picks.specs.Plain.Core as core
use Rattle.pv_picks.specs.Elaborating.Names.{parameters_of}
use Rattle.pv_picks.specs.Elaborating.Expressions.{core_of_formula}
use Rattle.pv_picks.specs.Elaborating.Statements.{stands_before, stands_after}
use Rattle.pv_picks.specs.Elaborating.Programs.{core_of, core_of_class, core_of_member, core_of_method, in_method, parameters_in_scope}
use Rattle.core_trees.proofs.Clean.{Clean, unless_holds, no_first, no_second}
use Rattle.core_trees.proofs.Mirrors.{class_found}
use Rattle.core_trees.proofs.Whole.{sound_params}
use Rattle.pv_picks.specs.Typing.Expressions.{Home, Speech, silent}
use Rattle.pv_picks.specs.Typing.Blocks.{over, home_of}
use Rattle.core_trees.specs.Formulas as formulas
use Rattle.core_trees.specs.Formulas.{FormulaFits, MemberFits, InvariantFits, FormulasFit}
use Rattle.core_typing.proofs.Presently.{formula_settled, block_settled}
use Rattle.core_names.proofs.PresentStmts.{method_present}
use Rattle.core_typing.proofs.Scopes.{nothing_listed, params_listed}
use Rattle.core_typing.proofs.Places.{Speaks, says_nothing}
use Rattle.core_typing.proofs.Types.{declared_type}
use Rattle.core_typing.proofs.Declared.{params_declared, result_fits}
use Rattle.core_typing.proofs.Formulas.{formula_fits}
use Rattle.core_typing.proofs.Programs.{ClassAt, class_at, method_place, class_place, method_says, run_says}
use Rattle.core_typing.proofs.Clauses.{speaks_before, speaks_after, formulas_fit}

-- Members

-- the result, and the state that the method began in
abbrev freely : core.Method → Speech
freely m = record { result = m.result; old = is_some m.name }

no_condition : (speech : Speech) (a : Environment) → Speaks speech a in_condition
no_condition speech a = says_nothing speech a in_condition refl refl

member_fits : (p : Program) (class : Name) (c : Class) (m : Member) → ClassAt p class c
    → Clean (faults_of_members (in_class p c) (m ∷ [])) → shapes.faults_of_member m ≡ []
    → MemberFits (formulas.in_class (core_of p) class) (core_of_member (in_class p c) m)
member_fits p class c (member.Field f) at clean none =
    declared_type p.classes f.kind.kind
    (unless_holds (is_declared_type p.classes f.kind.kind) rule.UnknownName f.kind.span clean.0)
member_fits p class c (member.Predicate q) at clean none = (
  params_declared (in_class p c) nothing_visible q.params clean.0.0,
  formula_fits q.body (formulas.in_class (core_of p) class) silent (in_class p c) (with_params nothing_visible q.params)
      (over [] (parameters_of q.params)) in_condition
      (record {
        sound = sound_params (core_of p) (in_class p c) nothing_visible q.params at.sound clean.0.0;
        declares = at.declares;
        class = sym at.name;
        listed = params_listed (in_class p c) nothing_visible [] q.params clean.0.0 nothing_listed;
      })
      (no_condition silent (in_class p c)) clean.0.1 none,
)
member_fits p class c (member.Method m) at clean none =
    let h : Home = formulas.in_class (core_of p) class in
    let a : Environment = in_method (in_class p c) m in
    let place = method_place p class c m None at (clean.0, none) in
    let shape = no_first (shapes.faults_of_contract m.contract) (shapes.faults_of_block m.body shapes.outside) none in
    let ends : Speaks (freely (core_of_method (in_class p c) m)) a (in_ensures (is_some m.result)) =
    record { result = λ i. refl; old = λ i. refl } in
    let there : core.Method = core_of_method (in_class p c) m in
    let xs : List core.Parameter = over [] (parameters_of m.params) in (
      params_declared a nothing_visible m.params clean.0.1.0,
      result_fits a m.result clean.0.0,
      tt,
      formulas_fit h silent a (parameters_in_scope m) (over [] (parameters_of m.params)) place stands_before
          (in_ensures (is_some m.result)) in_condition m.contract.clauses
          (speaks_before silent a (in_ensures (is_some m.result)) in_condition (no_condition silent a)) clean.0.1.1.0 shape,
      formula_settled h there.result there.old xs there.contract.after
          (λ old. (method_present a (parameters_in_scope m) m.contract m.body old).0.1)
          (formulas_fit h (freely there) a (parameters_in_scope m) xs place stands_after
          (in_ensures (is_some m.result)) in_condition m.contract.clauses
          (speaks_after _ a (in_ensures (is_some m.result)) in_condition ends (no_condition _ a)) clean.0.1.1.0 shape),
      block_settled (home_of (core_of p) class there) None there.old xs xs there.body
          (λ old. (method_present a (parameters_in_scope m) m.contract m.body old).1)
          (method_says p class c m at (clean.0, none)),
    )
member_fits p class c (member.Run r) at clean none =
    let h : Home = formulas.in_class (core_of p) class in
    let a : Environment = in_class p c in
    let place = class_place p class c None at in
    let shape = no_first (shapes.faults_of_contract r.contract) (shapes.faults_of_block r.body shapes.outside) none in (
      tt,
      tt,
      (refl, refl),
      formulas_fit h silent a nothing_visible [] place stands_before in_condition in_condition r.contract.clauses
          (speaks_before silent a in_condition in_condition (no_condition silent a)) clean.0.0 shape,
      formulas_fit h silent a nothing_visible [] place stands_after in_condition in_condition r.contract.clauses
          (speaks_after silent a in_condition in_condition (no_condition silent a) (no_condition silent a)) clean.0.0 shape,
      run_says p class c r at (clean.0, none),
    )

members_fit : (p : Program) (class : Name) (c : Class) (ms : List Member) → ClassAt p class c
    → Clean (faults_of_members (in_class p c) ms) → flat_map shapes.faults_of_member ms ≡ []
    → AllByRecursion (MemberFits (formulas.in_class (core_of p) class)) (map (core_of_member (in_class p c)) ms)
members_fit p class c [] at clean none = tt
members_fit p class c (m ∷ ms) at clean none = (
  member_fits p class c m at (clean.0, tt) (no_first (shapes.faults_of_member m) (flat_map shapes.faults_of_member ms) none),
  members_fit p class c ms at clean.1 (no_second (shapes.faults_of_member m) (flat_map shapes.faults_of_member ms) none),
)

-- Classes

invariant_fits : (p : Program) (class : Name) (c : Class) (o : Option Expr) → ClassAt p class c
    → Clean (faults_of_lock_invariant (in_class p c) o) → shapes.faults_of_invariant o ≡ []
    → InvariantFits (formulas.in_class (core_of p) class) (option_map (core_of_formula (in_class p c) nothing_visible) o)
invariant_fits p class c None at clean none = tt
invariant_fits p class c (Some e) at clean none =
    formula_fits e (formulas.in_class (core_of p) class) silent (in_class p c) nothing_visible [] in_condition
    (class_place p class c None at) (no_condition silent (in_class p c)) clean none

abbrev ClassFits : core.Program → Name → core.Class → Type 0
ClassFits tree class c =
    InvariantFits (formulas.in_class tree class) c.lock_invariant
    × AllByRecursion (MemberFits (formulas.in_class tree class)) c.members

class_fits : (p : Program) (class : Name) (c : Class) → ClassAt p class c → ClassFits (core_of p) class (core_of_class p c)
class_fits p class c at = (
  invariant_fits p class c c.lock_invariant at at.clean.0.0
      (no_first (shapes.faults_of_invariant c.lock_invariant) (flat_map shapes.faults_of_member c.members) at.clean.1),
  members_fit p class c c.members at at.clean.0.1.1.1
      (no_second (shapes.faults_of_invariant c.lock_invariant) (flat_map shapes.faults_of_member c.members) at.clean.1),
)

classes_fit : (p : Program) → IsWellFormed p → (class : Name) (o : Option Class) (c : core.Class)
    → rules.class_named p.classes class ≡ o → option_map (core_of_class p) o ≡ Some c → ClassFits (core_of p) class c
classes_fit p well_formed class None c there is = absurd cc
classes_fit p well_formed class (Some x) c there is =
    let same : core_of_class p x ≡ c =
    cc in subst (ClassFits (core_of p) class) same (class_fits p class x (class_at p well_formed class x there))

pub program_formulas : (p : Program) → IsWellFormed p → FormulasFit (core_of p)
program_formulas p well_formed =
    λ class c is. classes_fit p well_formed class (rules.class_named p.classes class) c refl (sym (class_found p class) ∙ is)
