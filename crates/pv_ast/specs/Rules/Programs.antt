-- What the rules say of a program, of its classes and of their members.
use Rattle.std.specs.Prelude.{ℕ, Bool, true, false, not, ◌&&◌, ◌||◌, Option, Some, None, is_some, List, [], ◌∷◌, map}
use Rattle.std.specs.List.{filter_map}
use Rattle.pv_base.specs.declared.Span.{Span}
use Rattle.pv_ast.specs.declared.Word.{Word}
use Rattle.pv_ast.specs.declared.TypeWord.{TypeWord}
use Rattle.pv_ast.specs.declared.PvType.{PvType}
use Rattle.pv_ast.specs.declared.Expr.{Expr}
use Rattle.pv_ast.specs.declared.Stmt.{Stmt}
use Rattle.pv_ast.specs.declared.StmtKind.{StmtKind, StmtKind-F, out-StmtKind}
use Rattle.pv_ast.specs.declared.Param.{Param}
use Rattle.pv_ast.specs.declared.Predicate.{Predicate}
use Rattle.pv_ast.specs.declared.Method.{Method}
use Rattle.pv_ast.specs.declared.RunMethod.{RunMethod}
use Rattle.pv_ast.specs.declared.Member.{Member}
use Rattle.pv_ast.specs.declared.Member.TheVariants as member
use Rattle.pv_ast.specs.declared.Class.{Class}
use Rattle.pv_ast.specs.declared.Program.{Program}
use Rattle.pv_ast.specs.declared.fault.Rule.TheVariants as rule
use Rattle.pv_ast.specs.declared.fault.Fault.{Fault}
use Rattle.pv_ast.specs.declared.scope.Declaration.TheVariants.{Parameter}
use Rattle.pv_ast.specs.declared.scope.Declared.{Declared}
use Rattle.pv_ast.specs.declared.scope.ScopeVar.{ScopeVar}
use Rattle.pv_ast.specs.declared.scope.Scope.{Scope}
use Rattle.pv_ast.specs.declared.standing.Context.{Context}
use Rattle.pv_ast.specs.declared.standing.StatementContext.{StatementContext}
use Rattle.pv_ast.specs.declared.standing.Surround.TheVariants as environment
use Rattle.pv_ast.specs.Rules.Faults.{Faults, none, both, broken_if, Among}
use Rattle.pv_ast.specs.Rules.Lookup.{class_named, is_run}
use Rattle.pv_ast.specs.Rules.Scoping.{Visible, nothing_visible, declare_variable}
use Rattle.pv_ast.specs.Rules.Typing.{type_of_typing}
use Rattle.pv_ast.specs.Rules.Expressions.{Environment, checked_expression, typing_in}
use Rattle.pv_ast.specs.Rules.Statements.{in_condition, faults_of_formula, faults_of_clauses, faults_of_type, option_type, shadows, repeated, parts_of_block, faults_of_body}

-- Parameters

abbrev pub with_param : Visible → Param → Visible
with_param v p = declare_variable Parameter v p.name.name p.kind.kind

abbrev pub with_params : Visible → List Param → Visible
with_params v [] = v
with_params v (p ∷ ps) = with_params (with_param v p) ps

abbrev pub faults_of_params : Environment → Visible → List Param → Faults
faults_of_params a v [] = none
faults_of_params a v (p ∷ ps) = both (faults_of_type a p.kind) (both (shadows v p.name) (faults_of_params a (with_param v p) ps))

-- Methods and what threads run

abbrev pub faults_of_result : Environment → Option TypeWord → Faults
faults_of_result a None = none
faults_of_result a (Some type) = faults_of_type a type

abbrev pub is_value_return : StmtKind-F StmtKind Stmt → Bool
is_value_return (StmtKind-F.Return value) = is_some value
is_value_return _ = false

-- the last statement is `return e;`
abbrev pub ends_with_value : List Stmt → Bool
ends_with_value [] = false
ends_with_value (s ∷ []) = is_value_return (out-StmtKind s.kind)
ends_with_value (s ∷ t ∷ ss) = ends_with_value (t ∷ ss)

-- the body of a method, or of `run`
abbrev pub at_body : Bool → StatementContext
at_body method = record { method = method; surround = environment.Body; looped = false; repeated = false; last = false }

-- an `ensures` of a method speaks of the state that the method began in, and of its result where it has one
abbrev pub in_ensures : Bool → Context
in_ensures has_result = record { pure = false; result = has_result; old = true; locals = true }

abbrev pub faults_of_method : Environment → Method → Faults
faults_of_method a m =
    let a : Environment = record a { result = option_type m.result } in
    let v : Visible = with_params nothing_visible m.params in
    both (faults_of_result a m.result)
    (both (faults_of_params a nothing_visible m.params)
    (both (faults_of_clauses a v (in_ensures (is_some m.result)) in_condition m.contract.clauses)
    (both (faults_of_body (parts_of_block m.body) a v (at_body true))
    (broken_if (is_some m.result && not (ends_with_value m.body)) rule.NoReturn m.name.span))))

abbrev pub faults_of_run : Environment → RunMethod → Faults
faults_of_run a r =
    both (faults_of_clauses a nothing_visible in_condition in_condition r.contract.clauses)
    (faults_of_body (parts_of_block r.body) a nothing_visible (at_body false))

abbrev pub faults_of_predicate : Environment → Predicate → Faults
faults_of_predicate a p =
    both (faults_of_params a nothing_visible p.params)
    (faults_of_formula a (with_params nothing_visible p.params) in_condition p.body)

abbrev pub faults_of_member : Environment → Member → Faults
faults_of_member a (member.Field f) = faults_of_type a f.kind
faults_of_member a (member.Predicate p) = faults_of_predicate a p
faults_of_member a (member.Method m) = faults_of_method a m
faults_of_member a (member.Run r) = faults_of_run a r

abbrev pub faults_of_members : Environment → List Member → Faults
faults_of_members a [] = none
faults_of_members a (m ∷ ms) = both (faults_of_member a m) (faults_of_members a ms)

-- Classes

abbrev pub name_of_member : Member → Option Word
name_of_member (member.Field f) = Some f.name
name_of_member (member.Predicate p) = Some p.name
name_of_member (member.Method m) = Some m.name
name_of_member (member.Run r) = None

abbrev pub run_of_member : Member → Option Span
run_of_member (member.Field f) = None
run_of_member (member.Predicate p) = None
run_of_member (member.Method m) = None
run_of_member (member.Run r) = Some r.word

abbrev pub faults_of_run_word : Bool → Option Span → Faults
faults_of_run_word found None = none
faults_of_run_word found (Some word) = broken_if found rule.Duplicate word

-- each `run` behind a first one
abbrev pub repeated_runs : Bool → List Member → Faults
repeated_runs found [] = none
repeated_runs found (m ∷ ms) = both (faults_of_run_word found (run_of_member m)) (repeated_runs (found || is_run m) ms)

abbrev pub faults_of_lock_invariant : Environment → Option Expr → Faults
faults_of_lock_invariant a None = none
faults_of_lock_invariant a (Some e) = faults_of_formula a nothing_visible in_condition e

abbrev pub in_class : Program → Class → Environment
in_class p c = record { program = p; class = c.name.name; here = Some c; result = None }

abbrev pub faults_of_class : Program → Class → Faults
faults_of_class p c =
    both (faults_of_lock_invariant (in_class p c) c.lock_invariant)
    (both (repeated rule.Duplicate (filter_map name_of_member c.members))
    (both (repeated_runs false c.members) (faults_of_members (in_class p c) c.members)))

abbrev pub faults_of_classes : Program → List Class → Faults
faults_of_classes p [] = none
faults_of_classes p (c ∷ cs) = both (faults_of_class p c) (faults_of_classes p cs)

-- the faults of a program against the static rules
abbrev pub faults_of_program : Program → Faults
faults_of_program p = both (repeated rule.Duplicate (map (λ c. c.name) p.classes)) (faults_of_classes p p.classes)

-- no rule is broken
abbrev pub KeepsRules : Program → Type 0
KeepsRules p = (f : Fault) → Among f (faults_of_program p) → ⊥

-- The type of an expression in a scope

abbrev pub declared_var : ScopeVar → ℕ × Declared
declared_var var = (var.name.0, record { declaration = Parameter; kind = var.kind })

abbrev pub visible_in : Scope → Visible
visible_in scope = record { names = map declared_var scope.vars; outside = 0 }

abbrev pub environment_in : Program → Scope → Environment
environment_in p scope = record {
  program = p;
  class = scope.class;
  here = class_named p.classes scope.class;
  result =
      scope.result;
}

abbrev pub type_in_scope : Program → Scope → Expr → Option PvType
type_in_scope p scope e = type_of_typing (typing_in (checked_expression e) (environment_in p scope) (visible_in scope))
