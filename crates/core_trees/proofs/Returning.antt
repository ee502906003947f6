-- In a program that keeps the static rules nothing returns but the last statement of a method's body.
use Rattle.std.proofs.Common.{◌≡◌, ℕ, ◌+◌, true, false, ◌&&◌, Option, Some, None, List, [], ◌∷◌, map, refl, sym, subst, inl, inr}
use Rattle.std.proofs.lemmas.Bool.{and_parts, both_ways}
use Rattle.std.specs.Prelude.{◌⊎◌, not, is_some}
use Rattle.std.specs.List.{AllByRecursion}
use Rattle.pv_base.specs.declared.Span.{Span}
use Rattle.pv_ast.specs.declared.Expr.{Expr}
use Rattle.pv_ast.specs.declared.Member.{Member}
use Rattle.pv_ast.specs.declared.Member.TheVariants as member
use Rattle.pv_ast.specs.declared.Class.{Class}
use Rattle.pv_ast.specs.declared.Program.{Program}
use Rattle.pv_ast.specs.declared.Stmt.{Stmt}
use Rattle.pv_ast.specs.declared.StmtKind.{StmtKind-F}
use Rattle.pv_ast.specs.declared.fault.Rule.TheVariants as rule
use Rattle.pv_ast.specs.declared.standing.StatementContext.{StatementContext}
use Rattle.pv_ast.specs.declared.standing.Surround.TheVariants as surround
use Rattle.pv_ast.specs.Rules.Scoping.{Visible, nothing_visible}
use Rattle.pv_ast.specs.Rules.Expressions.{Environment}
use Rattle.pv_ast.specs.Rules.Statements.{CheckedStatement, faults_of_statements, faults_of_body, in_branch, in_while, among_members, is_nothing, is_return_place}
use Rattle.pv_ast.specs.Rules.Programs.{KeepsRules, in_class, faults_of_members, faults_of_classes, faults_of_program, at_body}
use Rattle.pv_picks.specs.Plain.Core.{Statement}
use Rattle.core_trees.specs.Returns.{Goes, GoesOn, IsReturn, ReturnsLast, MemberReturns, ClassReturns, ReturnsComeLast}
use Rattle.pv_picks.specs.Elaborating.Statements.{ElaboratedStatement, ElaboratedStatementKind, Site, at, block_from, inside_for, inside_par, in_for, in_par, outermost, elaborated_statement}
use Rattle.pv_picks.specs.Elaborating.Programs.{core_of, core_of_class, core_of_member, in_method, parameters_in_scope}
use Rattle.core_trees.proofs.Clean.{Clean, clean_from, unless_holds}
use Rattle.core_trees.proofs.StmtLayers.{checked_in_all_elaborated, LayerStep, elaborations, parts_in, piece_induction, StmtsWith}
use Rattle.core_trees.proofs.Induction.{all_with, all_made}

-- a statement at the end of a method's body
abbrev pub MayReturn : StatementContext → Type 0
MayReturn stand = (stand.last ≡ true) × (stand.method ≡ true)

-- Statements

-- nothing returns in it, or it is a `return` where one may stand
abbrev pub KindReturns : ElaboratedStatementKind → Type 0
KindReturns k = (a : Environment) (v : Visible) (stand : StatementContext) (span : Span) → Clean (k.checked.faults span a v stand)
    → (site : Site)
    → Goes (k.statement span a v site) ⊎ (IsReturn (k.statement span a v site) × MayReturn stand)

abbrev pub StmtReturns : ElaboratedStatement → Type 0
StmtReturns s = (a : Environment) (v : Visible) (stand : StatementContext) → Clean (s.checked.faults a v stand) → (site : Site)
    → Goes (s.statement a v site) ⊎ (IsReturn (s.statement a v site) × MayReturn stand)

goes_where : (s : Statement) (stand : StatementContext) → (MayReturn stand → ⊥) → Goes s ⊎ (IsReturn s × MayReturn stand) → Goes s
goes_where s stand never (inl goes) = goes
goes_where s stand never (inr return) = absurd (never return.1)

pub not_last : (stand : StatementContext) → stand.last ≡ false → MayReturn stand → ⊥
not_last stand h k = both_ways stand.last h k.0

pub block_goes : (ss : List ElaboratedStatement) → AllByRecursion StmtReturns ss
    → (n : ℕ) (a : Environment) (v : Visible) (stand : StatementContext)
    → (MayReturn stand → ⊥) → Clean (faults_of_statements (parts_in ss) a v stand) → (site : Site)
    → GoesOn (block_from n ss a v site)
block_goes [] laws n a v stand never clean site = tt
block_goes (s ∷ ss) laws n a v stand never clean site = (
  goes_where (s.statement a v (at n site)) stand never (laws.0 a v stand clean.0 (at n site)),
  block_goes ss laws.1 (n + 1) a (s.checked.behind v) stand never clean.1 site,
)

-- The induction

return_place : (a : Environment) (stand : StatementContext) (value : Option Expr) → is_return_place a stand value ≡ true
    → MayReturn stand
return_place a stand None h = and_parts stand.last stand.method
    (and_parts (stand.last && stand.method) (not (is_some a.result)) h).0
return_place a stand (Some e) h = and_parts stand.last stand.method
    (and_parts (stand.last && stand.method) (is_some a.result) h).0

all_laws : (ss : List (StmtsWith StmtReturns)) → AllByRecursion StmtReturns (elaborations ss)
all_laws = all_with elaborated_statement StmtReturns

layer_law : LayerStep KindReturns StmtReturns
layer_law (StmtKind-F.If e first second) = λ a v stand span clean site. inl (
  block_goes (elaborations first) (all_laws first) 0 a v (in_branch stand) (not_last (in_branch stand) refl) clean.1.0
      (at 0 site),
  block_goes (elaborations second) (all_laws second) 0 a v (in_branch stand) (not_last (in_branch stand) refl) clean.1.1
      (at 1 site),
)
layer_law (StmtKind-F.While es e body) =
    λ a v stand span clean site. inl (block_goes (elaborations body) (all_laws body) 0 a v (in_while stand)
    (not_last (in_while stand) refl) clean.1.1 (at 0 site))
layer_law (StmtKind-F.For range c body) = λ a v stand span clean site. inl
    (block_goes (elaborations body) (all_laws body) 0 a (inside_for v range) (among_members surround.Loop stand)
    (not_last (among_members surround.Loop stand) refl) clean.1.1.1.0.1
    (in_for a (inside_for v range) (elaborations body) (at 0 site)))
layer_law (StmtKind-F.Par o range c body) = λ a v stand span clean site. inl
    (block_goes (elaborations body) (all_laws body) 0 a (inside_par v o range) (among_members surround.Block stand)
    (not_last (among_members surround.Block stand) refl) clean.1.1.1.1.1
    (in_par range (at 0 site)))
layer_law (StmtKind-F.Return value) =
    λ a v stand span clean site. inr (
      tt,
      return_place a stand value
          (unless_holds (is_return_place a stand value) rule.ReturnPlace span clean.0),
    )
layer_law _ = λ a v stand span clean site. inl tt

statement_returns : (s : Stmt) → StmtReturns (elaborated_statement s)
statement_returns =
    piece_induction KindReturns StmtReturns layer_law (λ span k law a v stand clean. law a v stand span clean)

pub statements_return : (ss : List Stmt) → AllByRecursion StmtReturns (map elaborated_statement ss)
statements_return = all_made elaborated_statement StmtReturns statement_returns

-- Bodies

without_place : (s : Statement) (stand : StatementContext) → Goes s ⊎ (IsReturn s × MayReturn stand) → Goes s ⊎ IsReturn s
without_place s stand (inl goes) = inl goes
without_place s stand (inr return) = inr return.0

body_returns : (ss : List ElaboratedStatement) → AllByRecursion StmtReturns ss
    → (n : ℕ) (a : Environment) (v : Visible) (stand : StatementContext)
    → Clean (faults_of_body (parts_in ss) a v stand) → (site : Site) → ReturnsLast (block_from n ss a v site)
body_returns [] laws n a v stand clean site = tt
body_returns (s ∷ []) laws n a v stand clean site =
    without_place (s.statement a v (at n site)) (record stand { last = true })
    (laws.0 a v (record stand { last = true }) clean.0 (at n site))
body_returns (s ∷ t ∷ ss) laws n a v stand clean site =
    let there : StatementContext = record stand { last = false } in (
      goes_where (s.statement a v (at n site)) there (not_last there refl) (laws.0 a v there clean.0 (at n site)),
      body_returns (t ∷ ss) laws.1 (n + 1) a (s.checked.behind v) stand clean.1 site,
    )

-- the body of a `run`
run_goes : (ss : List ElaboratedStatement) → AllByRecursion StmtReturns ss
    → (n : ℕ) (a : Environment) (v : Visible) (stand : StatementContext) → stand.method
    ≡ false → Clean (faults_of_body (parts_in ss) a v stand) → (site : Site) → GoesOn (block_from n ss a v site)
run_goes [] laws n a v stand no_method clean site = tt
run_goes (s ∷ ss) laws n a v stand no_method clean site =
    let there : StatementContext = record stand { last = is_nothing (parts_in ss) } in (
      goes_where (s.statement a v (at n site)) there (λ may. both_ways stand.method no_method may.1)
          (laws.0 a v there clean.0 (at n site)),
      run_goes ss laws.1 (n + 1) a (s.checked.behind v) stand no_method clean.1 site,
    )

-- Programs

members_return : (a : Environment) (ms : List Member) → Clean (faults_of_members a ms)
    → AllByRecursion MemberReturns (map (core_of_member a) ms)
members_return a [] clean = tt
members_return a (member.Field f ∷ ms) clean = (tt, members_return a ms clean.1)
members_return a (member.Predicate q ∷ ms) clean = (tt, members_return a ms clean.1)
members_return a (member.Method m ∷ ms) clean = (
  body_returns (map elaborated_statement m.body) (statements_return m.body) 0 (in_method a m) (parameters_in_scope m)
      (at_body true)
      (subst (λ (ps : List CheckedStatement). Clean (faults_of_body ps (in_method a m) (parameters_in_scope m) (at_body true)))
      (sym (checked_in_all_elaborated m.body)) clean.0.1.1.1.0) (outermost (parameters_in_scope m)),
  members_return a ms clean.1,
)
members_return a (member.Run r ∷ ms) clean = (
  run_goes (map elaborated_statement r.body) (statements_return r.body) 0 a nothing_visible (at_body false) refl
      (subst (λ (ps : List CheckedStatement). Clean (faults_of_body ps a nothing_visible (at_body false)))
      (sym (checked_in_all_elaborated r.body)) clean.0.1) (outermost nothing_visible),
  members_return a ms clean.1,
)

classes_return : (p : Program) (cs : List Class) → Clean (faults_of_classes p cs)
    → AllByRecursion ClassReturns (map (core_of_class p) cs)
classes_return p [] clean = tt
classes_return p (c ∷ cs) clean = (members_return (in_class p c) c.members clean.0.1.1.1, classes_return p cs clean.1)

pub program_returns : (p : Program) → KeepsRules p → ReturnsComeLast (core_of p)
program_returns p keeps = classes_return p p.classes (clean_from (faults_of_program p) keeps).1
