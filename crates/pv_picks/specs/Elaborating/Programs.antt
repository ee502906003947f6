-- Programs as the meaning reads them. Pairs of a text and the plain tree that it becomes stand, proved, in proofs/Worked and
-- proofs/WorkedStatements; those of whole programs in the crates worked_programs and worked_trees.
use Rattle.std.specs.Prelude.{Bool, ◌||◌, Some, None, option_map, List, [], map}
use Rattle.pv_ast.specs.declared.Stmt.{Stmt}
use Rattle.pv_ast.specs.declared.Contract.{Contract}
use Rattle.pv_ast.specs.declared.Predicate.{Predicate}
use Rattle.pv_ast.specs.declared.Method.{Method}
use Rattle.pv_ast.specs.declared.RunMethod.{RunMethod}
use Rattle.pv_ast.specs.declared.Member.{Member}
use Rattle.pv_ast.specs.declared.Member.TheVariants as member
use Rattle.pv_ast.specs.declared.Class.{Class}
use Rattle.pv_ast.specs.declared.Program.{Program}
use Rattle.pv_ast.specs.Rules.Scoping.{Visible, nothing_visible}
use Rattle.pv_ast.specs.Rules.Expressions.{Environment}
use Rattle.pv_ast.specs.Rules.Statements.{option_type}
use Rattle.pv_ast.specs.Rules.Programs.{with_params, in_class}
use Rattle.pv_picks.specs.Plain.Core as core
use Rattle.pv_picks.specs.Elaborating.Names.{parameter_of, parameters_of}
use Rattle.pv_picks.specs.Elaborating.Expressions.{core_of_formula}
use Rattle.pv_picks.specs.Elaborating.Statements.{core_of_contract, contract_has_old, core_of_body, old_in, elaborated_statement}

-- `\old` stands in the contract or in a formula of the body
abbrev pub speaks_of_old : Contract → List Stmt → Bool
speaks_of_old contract body = contract_has_old contract || old_in (map elaborated_statement body)

-- what stands around the contract and the body of a method
abbrev pub in_method : Environment → Method → Environment
in_method a m = record a { result = option_type m.result }

-- the names that are in scope there
abbrev pub parameters_in_scope : Method → Visible
parameters_in_scope m = with_params nothing_visible m.params

abbrev pub core_of_method : Environment → Method → core.Method
core_of_method a m = record {
  name = Some m.name.name;
  parameters = parameters_of m.params;
  result = option_type m.result;
  contract = core_of_contract (in_method a m) (parameters_in_scope m) m.contract;
  body = core_of_body (in_method a m) (parameters_in_scope m) m.body;
  old = speaks_of_old m.contract m.body;
}

abbrev pub core_of_run : Environment → RunMethod → core.Method
core_of_run a r = record {
  name = None;
  parameters = [];
  result = None;
  contract = core_of_contract a nothing_visible r.contract;
  body = core_of_body a nothing_visible r.body;
  old = speaks_of_old r.contract r.body;
}

abbrev pub core_of_predicate : Environment → Predicate → core.Predicate
core_of_predicate a p = record {
  name = p.name.name;
  parameters = parameters_of p.params;
  body = core_of_formula a (with_params nothing_visible p.params) p.body;
}

-- what a member becomes, by what stands around it
abbrev pub core_of_member : Environment → Member → core.Member
core_of_member a (member.Field f) = core.IsField (parameter_of f)
core_of_member a (member.Predicate p) = core.IsPredicate (core_of_predicate a p)
core_of_member a (member.Method m) = core.IsMethod (core_of_method a m)
core_of_member a (member.Run r) = core.IsMethod (core_of_run a r)

-- what a class of the program becomes
abbrev pub core_of_class : Program → Class → core.Class
core_of_class p c = record {
  name = c.name.name;
  lock_invariant = option_map (core_of_formula (in_class p c) nothing_visible) c.lock_invariant;
  members = map (core_of_member (in_class p c)) c.members;
}

-- what a program becomes
abbrev pub core_of : Program → core.Program
core_of p = map (core_of_class p) p.classes
