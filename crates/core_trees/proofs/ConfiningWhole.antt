-- A well formed program becomes a plain tree in which positions stand only where they are read.
use Rattle.std.proofs.Common.{◌≡◌, ℕ, ◌+◌, Bool, true, false, Option, Some, None, option_map, List, [], ◌∷◌, map, refl, sym, subst}
use Rattle.std.proofs.lemmas.Bool.{both_ways}
use Rattle.std.specs.List.{flat_map, AllByRecursion}
use Rattle.pv_ast.specs.declared.Expr.{Expr}
use Rattle.pv_ast.specs.declared.Stmt.{Stmt}
use Rattle.pv_ast.specs.declared.Member.{Member}
use Rattle.pv_ast.specs.declared.Member.TheVariants as member
use Rattle.pv_ast.specs.declared.Class.{Class}
use Rattle.pv_ast.specs.declared.Program.{Program}
use Rattle.pv_ast.specs.declared.fault.ShapeFault.{ShapeFault}
use Rattle.pv_ast.specs.declared.standing.StatementContext.{StatementContext}
use Rattle.pv_ast.specs.Rules.Scoping.{Visible, nothing_visible}
use Rattle.pv_ast.specs.Rules.Expressions.{Environment}
use Rattle.pv_ast.specs.Rules.Shapes as shapes
use Rattle.pv_ast.specs.Rules.Shapes.{faults_of_stmt, faults_of_block, faults_of_contract, faults_of_invariant, outside}
use Rattle.pv_ast.specs.Rules.Statements.{CheckedStatement, faults_of_body, parts_of_block, is_nothing, is_loop, in_condition}
use Rattle.pv_ast.specs.Rules.Programs.{in_class, with_params, faults_of_member, faults_of_members, faults_of_lock_invariant, faults_of_class, faults_of_classes, faults_of_program, at_body}
use Rattle.pv_ast.specs.Rules.WellFormed.{IsWellFormed}
use Rattle.pv_picks.specs.Elaborating.Expressions.{core_of_formula}
use Rattle.pv_picks.specs.Elaborating.Statements.{Site, at, block_from, outermost, elaborated_statement, core_of_body}
use Rattle.pv_picks.specs.Elaborating.Programs.{core_of, core_of_class, core_of_member, in_method, parameters_in_scope}
use Rattle.core_trees.specs.Positions.{ConfinedBlock, ConfinedMember, ConfinedInvariant, ConfinedClass, IsConfined}
use Rattle.core_trees.proofs.Clean.{Clean, clean_from, no_first, no_second}
use Rattle.core_trees.proofs.StmtLayers.{checked_in_all_elaborated}
use Rattle.core_trees.proofs.Blocks.{Blocked, method_blocked, outside_blocked}
use Rattle.core_trees.proofs.ConfiningStmts.{AllConfined, Looped, AtSite, formula_confined, contract_confined, statement_law}

-- Bodies

not_a_loop : (stand : StatementContext) → is_loop stand.surround ≡ false → Looped stand outside
not_a_loop stand none = λ loop. absurd (both_ways (is_loop stand.surround) none loop)

no_site : (v : Visible) (stand : StatementContext) (site : Site) → is_loop stand.surround ≡ false → AtSite v stand site
no_site v stand site none = λ loop. absurd (both_ways (is_loop stand.surround) none loop)

body_confined : (ss : List Stmt) (n : ℕ) (a : Environment) (v : Visible) (stand : StatementContext) (site : Site)
    → is_loop stand.surround ≡ false
    → site.messages ≡ [] → Blocked v None → Clean (faults_of_body (map (λ s. s.checked) (map elaborated_statement ss)) a v stand)
    → faults_of_block ss outside ≡ []
    → ConfinedBlock None (block_from n (map elaborated_statement ss) a v site)
body_confined [] n a v stand site no_loop no_messages blocked clean none = tt
body_confined (s ∷ ss) n a v stand site no_loop no_messages blocked clean none =
    let done = statement_law s a v outside (no_first (faults_of_stmt s outside) (faults_of_block ss outside) none) in
    let here : StatementContext = record stand { last = is_nothing (map (λ s. s.checked) (map elaborated_statement ss)) } in (
      done.statement None here (at n site) clean.0 (not_a_loop here no_loop) (no_site v here (at n site) no_loop) blocked tt
          (subst AllConfined (sym no_messages) tt),
      body_confined ss (n + 1) a ((elaborated_statement s).checked.behind v) stand site no_loop no_messages
          (done.blocks None blocked) clean.1 (no_second (faults_of_stmt s outside) (faults_of_block ss outside) none),
    )

whole_body : (a : Environment) (v : Visible) (method : Bool) (ss : List Stmt) → Blocked v None
    → Clean (faults_of_body (parts_of_block ss) a v (at_body method)) → faults_of_block ss outside ≡ []
    → ConfinedBlock None (core_of_body a v ss)
whole_body a v method ss blocked clean none =
    body_confined ss 0 a v (at_body method) (outermost v) refl refl blocked
    (subst (λ (ps : List CheckedStatement). Clean (faults_of_body ps a v (at_body method))) (sym (checked_in_all_elaborated ss))
    clean) none

-- Members

member_confined : (a : Environment) (m : Member) → Clean (faults_of_member a m) → shapes.faults_of_member m ≡ []
    → ConfinedMember (core_of_member a m)
member_confined a (member.Field f) clean none = tt
member_confined a (member.Predicate q) clean none =
    formula_confined q.body a (with_params nothing_visible q.params) in_condition clean.1 none
member_confined a (member.Method m) clean none =
    let contract : List ShapeFault = faults_of_contract m.contract in
    let body : List ShapeFault = faults_of_block m.body outside in (
      contract_confined m.contract (in_method a m) (parameters_in_scope m) _ _ clean.1.1.0 (no_first contract body none),
      whole_body (in_method a m) (parameters_in_scope m) true m.body (method_blocked m.params) clean.1.1.1.0
          (no_second contract body none),
    )
member_confined a (member.Run r) clean none =
    let contract : List ShapeFault = faults_of_contract r.contract in
    let body : List ShapeFault = faults_of_block r.body outside in (
      contract_confined r.contract a nothing_visible _ _ clean.0 (no_first contract body none),
      whole_body a nothing_visible false r.body outside_blocked clean.1 (no_second contract body none),
    )

members_confined : (a : Environment) (ms : List Member) → Clean (faults_of_members a ms) → flat_map shapes.faults_of_member ms
    ≡ []
    → AllByRecursion ConfinedMember (map (core_of_member a) ms)
members_confined a [] clean none = tt
members_confined a (m ∷ ms) clean none = (
  member_confined a m clean.0 (no_first (shapes.faults_of_member m) (flat_map shapes.faults_of_member ms) none),
  members_confined a ms clean.1 (no_second (shapes.faults_of_member m) (flat_map shapes.faults_of_member ms) none),
)

-- Classes

invariant_confined : (a : Environment) (o : Option Expr) → Clean (faults_of_lock_invariant a o) → faults_of_invariant o ≡ []
    → ConfinedInvariant (option_map (core_of_formula a nothing_visible) o)
invariant_confined a None clean none = tt
invariant_confined a (Some e) clean none = formula_confined e a nothing_visible in_condition clean none

class_confined : (p : Program) (c : Class) → Clean (faults_of_class p c) → shapes.faults_of_class c ≡ []
    → ConfinedClass (core_of_class p c)
class_confined p c clean none =
    let invariant : List ShapeFault = faults_of_invariant c.lock_invariant in
    let members : List ShapeFault = flat_map shapes.faults_of_member c.members in (
      invariant_confined (in_class p c) c.lock_invariant clean.0 (no_first invariant members none),
      members_confined (in_class p c) c.members clean.1.1.1 (no_second invariant members none),
    )

classes_confined : (p : Program) (cs : List Class) → Clean (faults_of_classes p cs) → flat_map shapes.faults_of_class cs ≡ []
    → AllByRecursion ConfinedClass (map (core_of_class p) cs)
classes_confined p [] clean none = tt
classes_confined p (c ∷ cs) clean none = (
  class_confined p c clean.0 (no_first (shapes.faults_of_class c) (flat_map shapes.faults_of_class cs) none),
  classes_confined p cs clean.1 (no_second (shapes.faults_of_class c) (flat_map shapes.faults_of_class cs) none),
)

pub program_confined : (p : Program) → IsWellFormed p → IsConfined (core_of p)
program_confined p well = classes_confined p p.classes (clean_from (faults_of_program p) well.rules).1 well.shapes
