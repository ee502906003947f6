-- What programs become, one equation for each definition on the way to the nodes.
use Rattle.std.proofs.Common.{◌≡◌, refl, Some, None, List}
use Rattle.std.specs.Prelude.{map, option_map}
use Rattle.pv_base.specs.declared.Name.{Name}
use Rattle.pv_ast.specs.declared.Expr.{Expr}
use Rattle.pv_ast.specs.declared.Right.{Right}
use Rattle.pv_ast.specs.declared.Stmt.{Stmt}
use Rattle.pv_ast.specs.declared.Contract.{Contract}
use Rattle.pv_ast.specs.declared.Method.{Method}
use Rattle.pv_ast.specs.declared.Class.{Class}
use Rattle.pv_ast.specs.declared.Program.{Program}
use Rattle.pv_ast.specs.Rules.Scoping.{Visible}
use Rattle.pv_ast.specs.Rules.Expressions.{Environment}
use Rattle.pv_ast.specs.Rules.Programs.{in_class}
use Rattle.pv_ast.specs.Rules.Statements.{option_type}
use Rattle.pv_picks.specs.Plain.Core.{Expression, Formula, Items}
use Rattle.pv_picks.specs.Plain.Core as c
use Rattle.pv_picks.specs.Elaborating.Expressions.{elaborated_expression, core_of_expression, core_of_formula, core_of_items, has_old}
use Rattle.pv_picks.specs.Elaborating.Operations.{target_of}
use Rattle.pv_picks.specs.Elaborating.Names.{parameters_of}
use Rattle.pv_picks.specs.Elaborating.Statements.{core_of_target, core_of_formulas, core_of_all_items, formulas_at, stands_before, stands_after, joined, joined_items, core_of_contract, core_of_shared, core_of_right, core_of_right_kind, core_of_body, block_of, elaborated_statement, outermost}
use Rattle.pv_picks.specs.Elaborating.Programs.{core_of_class, core_of_member, core_of_method, in_method, parameters_in_scope, speaks_of_old}

pub expression_rule : (a : Environment) (v : Visible) (e : Expr) → core_of_expression a v e
    ≡ (elaborated_expression e).expression a v
expression_rule a v e = refl

pub formula_rule : (a : Environment) (v : Visible) (e : Expr) → core_of_formula a v e ≡ (elaborated_expression e).formula None a v
formula_rule a v e = refl

pub items_rule : (n : Name) (a : Environment) (v : Visible) (e : Expr) → core_of_items n a v e
    ≡ (elaborated_expression e).items n None a v
items_rule n a v e = refl

pub old_rule : (e : Expr) → has_old e ≡ (elaborated_expression e).old
old_rule e = refl

pub target_rule : (a : Environment) (v : Visible) (e : Expr) → core_of_target a v e
    ≡ target_of ((elaborated_expression e).expression a v)
target_rule a v e = refl

pub right_rule : (a : Environment) (v : Visible) (e : Right) → core_of_right a v e ≡ core_of_right_kind a v e.kind
right_rule a v e = refl

pub class_rule : (p : Program) (c : Class) → core_of_class p c
    ≡ record {
      name = c.name.name;
      lock_invariant =
          option_map (core_of_formula (in_class p c) Rattle.pv_ast.specs.Rules.Scoping.nothing_visible) c.lock_invariant;
      members =
          map (core_of_member (in_class p c)) c.members;
    }
class_rule p c = refl

pub method_rule : (a : Environment) (m : Method) → core_of_method a m
    ≡ record {
      name = Some m.name.name;
      parameters = parameters_of m.params;
      result = option_type m.result;
      contract =
          core_of_contract (in_method a m) (parameters_in_scope m) m.contract;
      body =
          core_of_body (in_method a m) (parameters_in_scope m) m.body;
      old = speaks_of_old m.contract m.body;
    }
method_rule a m = refl

pub contract_rule : (a : Environment) (v : Visible) (k : Contract) → core_of_contract a v k
    ≡ record {
      before = core_of_formulas a v (formulas_at stands_before k.clauses);
      after =
          core_of_formulas a v (formulas_at stands_after k.clauses);
    }
contract_rule a v k = refl

pub formulas_rule : (a : Environment) (v : Visible) (es : List Expr) → core_of_formulas a v es
    ≡ joined (map (core_of_formula a v) es)
formulas_rule a v es = refl

pub body_rule : (a : Environment) (v : Visible) (b : List Stmt) → core_of_body a v b
    ≡ block_of (map elaborated_statement b) a v (outermost v)
body_rule a v b = refl

pub all_items_rule : (n : Name) (a : Environment) (v : Visible) (es : List Expr) → core_of_all_items n a v es
    ≡ joined_items (map (core_of_items n a v) es)
all_items_rule n a v es = refl

pub shared_rule : (n : Name) (a : Environment) (v : Visible) (k : Contract) → core_of_shared n a v k
    ≡ record {
      one = core_of_contract a v k;
      each_before = core_of_all_items n a v (formulas_at stands_before k.clauses);
      each_after = core_of_all_items n a v (formulas_at stands_after k.clauses);
    }
shared_rule n a v k = refl

pub right_kind_value_rule : (a : Environment) (v : Visible) (e : Expr)
    → core_of_right_kind a v (Rattle.pv_ast.specs.declared.RightKind.TheVariants.Value e)
    ≡ c.Value' ((elaborated_expression e).expression a v)
right_kind_value_rule a v e = refl
