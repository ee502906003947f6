-- In what a well formed program becomes, both forms of each contract that members keep are made alike.
use Rattle.std.proofs.Common.{◌≡◌, ℕ, ◌+◌, Bool, true, None, List, [], ◌∷◌, map, sym, subst}
use Rattle.std.specs.List.{flat_map, AllByRecursion}
use Rattle.pv_ast.specs.declared.Stmt.{Stmt}
use Rattle.pv_ast.specs.declared.Member.{Member}
use Rattle.pv_ast.specs.declared.Member.TheVariants as member
use Rattle.pv_ast.specs.declared.Class.{Class}
use Rattle.pv_ast.specs.declared.Program.{Program}
use Rattle.pv_ast.specs.declared.standing.StatementContext.{StatementContext}
use Rattle.pv_ast.specs.Rules.Scoping.{Visible, nothing_visible}
use Rattle.pv_ast.specs.Rules.Expressions.{Environment}
use Rattle.pv_ast.specs.Rules.Shapes as shapes
use Rattle.pv_ast.specs.Rules.Shapes.{faults_of_stmt, faults_of_block, faults_of_contract, faults_of_invariant, outside}
use Rattle.pv_ast.specs.Rules.Statements.{CheckedStatement, faults_of_body, parts_of_block, is_nothing}
use Rattle.pv_ast.specs.Rules.Programs.{in_class, faults_of_member, faults_of_members, faults_of_class, faults_of_classes, faults_of_program, at_body}
use Rattle.pv_ast.specs.Rules.WellFormed.{IsWellFormed}
use Rattle.pv_picks.specs.Elaborating.Statements.{Site, at, block_from, outermost, elaborated_statement, core_of_body}
use Rattle.pv_picks.specs.Elaborating.Programs.{core_of, core_of_class, core_of_member, in_method, parameters_in_scope}
use Rattle.core_trees.proofs.Clean.{Clean, clean_from, no_first, no_second}
use Rattle.core_trees.proofs.StmtLayers.{checked_in_all_elaborated}
use Rattle.core_trees.proofs.Blocks.{method_blocked, outside_blocked}
use Rattle.core_sharing.specs.Keeping.{SaidInBlock, SaidInMember, SaidInClass, EachShared}
use Rattle.core_sharing.specs.Forms.{SameShared, FormsCorrespond}
use Rattle.core_sharing.specs.Elements.{SharedHasElements, ItemsHaveElements}
use Rattle.core_sharing.proofs.Keeping.{each_follows}
use Rattle.core_sharing.proofs.Making.{SharedIsMade, made_same, made_elements}
use Rattle.core_sharing.proofs.Statements.{Stands, statement_law}

-- Bodies

body_same : (ss : List Stmt) (n : ℕ) (a : Environment) (v : Visible) (stand : StatementContext) (site : Site) → Stands v None
    → Clean (faults_of_body (map (λ s. s.checked) (map elaborated_statement ss)) a v stand) → faults_of_block ss outside ≡ []
    → SaidInBlock SharedIsMade None (block_from n (map elaborated_statement ss) a v site)
body_same [] n a v stand site stands clean none = tt
body_same (s ∷ ss) n a v stand site stands clean none =
    let done = statement_law s a v outside (no_first (faults_of_stmt s outside) (faults_of_block ss outside) none) in
    let here : StatementContext = record stand { last = is_nothing (map (λ s. s.checked) (map elaborated_statement ss)) } in (
      done.statement None here (at n site) clean.0 stands tt,
      body_same ss (n + 1) a ((elaborated_statement s).checked.behind v) stand site (done.further None stands) clean.1
          (no_second (faults_of_stmt s outside) (faults_of_block ss outside) none),
    )

whole_body : (a : Environment) (v : Visible) (method : Bool) (ss : List Stmt) → Stands v None
    → Clean (faults_of_body (parts_of_block ss) a v (at_body method)) → faults_of_block ss outside ≡ []
    → SaidInBlock SharedIsMade None (core_of_body a v ss)
whole_body a v method ss stands clean none =
    body_same ss 0 a v (at_body method) (outermost v) stands
    (subst (λ (ps : List CheckedStatement). Clean (faults_of_body ps a v (at_body method))) (sym (checked_in_all_elaborated ss))
    clean) none

-- Members

member_same : (a : Environment) (m : Member) → Clean (faults_of_member a m) → shapes.faults_of_member m ≡ []
    → SaidInMember SharedIsMade (core_of_member a m)
member_same a (member.Field f) clean none = tt
member_same a (member.Predicate q) clean none = tt
member_same a (member.Method m) clean none =
    whole_body (in_method a m) (parameters_in_scope m) true m.body (method_blocked m.params, tt) clean.1.1.1.0
    (no_second (faults_of_contract m.contract) (faults_of_block m.body outside) none)
member_same a (member.Run r) clean none =
    whole_body a nothing_visible _ r.body (outside_blocked, tt) clean.1
    (no_second (faults_of_contract r.contract) (faults_of_block r.body outside) none)

members_same : (a : Environment) (ms : List Member) → Clean (faults_of_members a ms) → flat_map shapes.faults_of_member ms ≡ []
    → AllByRecursion (SaidInMember SharedIsMade) (map (core_of_member a) ms)
members_same a [] clean none = tt
members_same a (m ∷ ms) clean none = (
  member_same a m clean.0 (no_first (shapes.faults_of_member m) (flat_map shapes.faults_of_member ms) none),
  members_same a ms clean.1 (no_second (shapes.faults_of_member m) (flat_map shapes.faults_of_member ms) none),
)

-- Classes

class_same : (p : Program) (c : Class) → Clean (faults_of_class p c) → shapes.faults_of_class c ≡ []
    → SaidInClass SharedIsMade (core_of_class p c)
class_same p c clean none =
    members_same (in_class p c) c.members clean.1.1.1
    (no_second (faults_of_invariant c.lock_invariant) (flat_map shapes.faults_of_member c.members) none)

classes_same : (p : Program) (cs : List Class) → Clean (faults_of_classes p cs) → flat_map shapes.faults_of_class cs ≡ []
    → AllByRecursion (SaidInClass SharedIsMade) (map (core_of_class p) cs)
classes_same p [] clean none = tt
classes_same p (c ∷ cs) clean none = (
  class_same p c clean.0 (no_first (shapes.faults_of_class c) (flat_map shapes.faults_of_class cs) none),
  classes_same p cs clean.1 (no_second (shapes.faults_of_class c) (flat_map shapes.faults_of_class cs) none),
)

pub program_made : (p : Program) → IsWellFormed p → EachShared SharedIsMade (core_of p)
program_made p well = classes_same p p.classes (clean_from (faults_of_program p) well.rules).1 well.shapes

pub program_same : (p : Program) → IsWellFormed p → FormsCorrespond (core_of p)
program_same p well = each_follows SharedIsMade SameShared made_same (core_of p) (program_made p well)

pub program_elements : (p : Program) → IsWellFormed p → ItemsHaveElements (core_of p)
program_elements p well = each_follows SharedIsMade SharedHasElements made_elements (core_of p) (program_made p well)
