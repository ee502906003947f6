-- In a program that keeps the static rules each barrier stands in a par block, and each message in a counted loop.
use Rattle.std.proofs.Common.{◌≡◌, ◌≤◌, ◌<◌, ℕ, zero, suc, ◌+◌, Bool, true, false, not, ◌&&◌, ◌||◌, Option, Some, None, List, [], ◌∷◌, map, length, drop, refl, sym, ◌∙◌, ap, subst, arith}
use Rattle.std.specs.Prelude.{nat_eq, if◌then◌else◌}
use Rattle.std.specs.List.{AllByRecursion}
use Rattle.pv_base.specs.declared.Name.{Name}
use Rattle.pv_base.specs.declared.Span.{Span}
use Rattle.pv_ast.specs.declared.Word.{Word}
use Rattle.pv_ast.specs.declared.PvType.{PvType}
use Rattle.pv_ast.specs.declared.PvType.TheVariants.{Int}
use Rattle.pv_ast.specs.declared.Param.{Param}
use Rattle.pv_ast.specs.declared.Member.{Member}
use Rattle.pv_ast.specs.declared.Member.TheVariants as member
use Rattle.pv_ast.specs.declared.Class.{Class}
use Rattle.pv_ast.specs.declared.Program.{Program}
use Rattle.pv_ast.specs.declared.Stmt.{Stmt}
use Rattle.pv_ast.specs.declared.StmtKind.{StmtKind-F}
use Rattle.pv_ast.specs.declared.fault.Rule.TheVariants as rule
use Rattle.pv_ast.specs.declared.scope.Declaration.{Declaration}
use Rattle.pv_ast.specs.declared.scope.Declaration.TheVariants.{Parameter, Local, LoopVariable}
use Rattle.pv_ast.specs.declared.scope.Declared.{Declared}
use Rattle.pv_ast.specs.declared.standing.StatementContext.{StatementContext}
use Rattle.pv_ast.specs.declared.standing.Surround.{Surround}
use Rattle.pv_ast.specs.declared.standing.Surround.TheVariants as surround
use Rattle.pv_ast.specs.Rules.Scoping.{Visible, nothing_visible, declared_as, declare_variable, is_visible, is_block, is_block_name, is_block_around, is_innermost_block, entered}
use Rattle.pv_ast.specs.Rules.Expressions as rules
use Rattle.pv_ast.specs.Rules.Statements.{CheckedStatement, faults_of_statements, faults_of_body, faults_of_barrier_name, faults_of_message_place, parts_of_block, in_branch, in_while, among_members, is_loop, is_nothing}
use Rattle.pv_ast.specs.Rules.Programs.{KeepsRules, in_class, with_param, with_params, faults_of_members, faults_of_classes, faults_of_program, at_body}
use Rattle.core_trees.specs.Placing.{Environment, InMethod, InBlock, InLoop, InWhile, environment_repeated, PlacedStatement, PlacedBlock, PlacedMember, PlacedClass, IsPlaced}
use Rattle.pv_picks.specs.Elaborating.Statements.{ElaboratedStatement, ElaboratedStatementKind, Site, at, block_from, inside_for, inside_par, in_for, in_par, outermost, core_of_body, elaborated_statement}
use Rattle.pv_picks.specs.Elaborating.Programs.{core_of, core_of_class, core_of_member, in_method, parameters_in_scope}
use Rattle.core_trees.proofs.Agreeing.{or_else, with_name, inner_with, within_more}
use Rattle.core_trees.proofs.Clean.{Clean, clean_from, unless_holds, if_fails}
use Rattle.core_trees.proofs.StmtLayers.{checked_in_all_elaborated, LayerStep, elaborations, parts_in, piece_induction, StmtsWith}
use Rattle.core_trees.proofs.Induction.{all_with, all_made}

-- Places

abbrev place : Surround → Bool → Environment
place surround.Body repeated = InMethod
place surround.Block repeated = InBlock
place surround.Loop true = InWhile
place surround.Loop false = InLoop

-- what stands innermost around a statement at a spot
abbrev pub place_of : StatementContext → Environment
place_of stand = place stand.surround stand.repeated

place_repeated : (s : Surround) (repeated : Bool) → place s true ≡ environment_repeated (place s repeated)
place_repeated surround.Body repeated = refl
place_repeated surround.Block repeated = refl
place_repeated surround.Loop true = refl
place_repeated surround.Loop false = refl

message_place : (s : Surround) (repeated : Bool) → (not (is_loop s) || repeated) ≡ false → place s repeated ≡ InLoop
message_place surround.Body repeated h = absurd cc
message_place surround.Block repeated h = absurd cc
message_place surround.Loop true h = absurd cc
message_place surround.Loop false h = refl

message_placed : (stand : StatementContext) (span : Span) → Clean (faults_of_message_place stand span) → place_of stand ≡ InLoop
message_placed stand span clean =
    message_place stand.surround stand.repeated (if_fails (not (is_loop stand.surround) || stand.repeated) rule.MessagePlace span
    clean)

some_way : (n : ℕ) → nat_eq n 0 ≡ false → 0 < n
some_way zero h = absurd cc
some_way (suc n) h = omega arith

-- Names of blocks

-- the innermost body declares no block's name
pub record NoBlock (v : Visible) : Type 0 where
  pub none : (n : Name) → is_innermost_block v n ≡ false
  pub within : v.outside ≤ length v.names

neither : (x y : Option Declared) → is_block_name x ≡ false → is_block_name y ≡ false → is_block_name (or_else x y) ≡ false
neither None y h k = k
neither (Some x) y h k = h

no_block_if : (b : Bool) (d : Declared) → is_block d.declaration ≡ false → is_block_name (if b then Some d else None) ≡ false
no_block_if true d h = h
no_block_if false d h = refl

either_scope : (b : Bool) (v w : Visible) → NoBlock v → NoBlock w → NoBlock (if b then v else w)
either_scope true v w h k = h
either_scope false v w h k = k

-- one more name, which is no block's
pub no_block_more : (v : Visible) (how : Declaration) (n : Name) (type : PvType) → is_block how ≡ false → NoBlock v
    → NoBlock (declare_variable how v n type)
no_block_more v how n type other h =
    let d : Declared = record { declaration = how; kind = type } in
    either_scope (is_visible v n) v (with_name v (n.0, d)) h (record {
      none = λ m.
          ap is_block_name (inner_with v (n.0, d) m h.within)
          ∙ neither (declared_as (drop v.outside v.names) m) (declared_as ((n.0, d) ∷ []) m) (h.none m)
          (no_block_if (nat_eq m.0 n.0) d other);
      within = within_more v.outside v.names (n.0, d) h.within;
    })

drop_all : (names : List (ℕ × Declared)) → drop (length names) names ≡ []
drop_all [] = refl
drop_all (x ∷ xs) = drop_all xs

pub no_block_entered : (v : Visible) → NoBlock (entered v)
no_block_entered v =
    record { none = λ m. ap (λ names. is_block_name (declared_as names m)) (drop_all v.names); within = omega arith }

pub no_block_params : (v : Visible) (ps : List Param) → NoBlock v → NoBlock (with_params v ps)
no_block_params v [] h = h
no_block_params v (p ∷ ps) h = no_block_params (with_param v p) ps (no_block_more v Parameter p.name.name p.kind.kind refl h)

pub no_block_at_all : NoBlock nothing_visible
no_block_at_all = record { none = λ m. refl; within = omega arith }

-- where the innermost body is no par block's, it declares no block's name
abbrev pub BlocksInside : Visible → StatementContext → Type 0
BlocksInside v stand = (stand.surround ≡ surround.Block → ⊥) → NoBlock v

pub innermost_from : (environment innermost : Bool) → environment ≡ true → (environment && not innermost) ≡ false → innermost
    ≡ true
innermost_from true true h k = refl
innermost_from true false h k = absurd cc
innermost_from false innermost h k = absurd cc

barrier_place : (s : Surround) (repeated innermost : Bool) → ((s ≡ surround.Block → ⊥) → innermost ≡ false) → innermost ≡ true
    → place s repeated ≡ InBlock
barrier_place surround.Body repeated innermost h k = let never : innermost ≡ false = h (λ i. cc) in absurd cc
barrier_place surround.Block repeated innermost h k = refl
barrier_place surround.Loop repeated innermost h k = let never : innermost ≡ false = h (λ i. cc) in absurd cc

barrier_placed : (v : Visible) (stand : StatementContext) (w : Word) → BlocksInside v stand → Clean (faults_of_barrier_name v w)
    → place_of stand
    ≡ InBlock
barrier_placed v stand w inside clean =
    let environment : is_block_around v w.name ≡ true = unless_holds (is_block_around v w.name) rule.UnknownName w.span clean.0 in
    let others : (is_block_around v w.name && not (is_innermost_block v w.name)) ≡ false =
    if_fails (is_block_around v w.name && not (is_innermost_block v w.name)) rule.BarrierPlace w.span clean.1 in
    barrier_place stand.surround stand.repeated (is_innermost_block v w.name) (λ other. (inside other).none w.name)
    (innermost_from (is_block_around v w.name) (is_innermost_block v w.name) environment others)

-- Statements

-- a statement without a fault becomes a placed one, and declares no block's name behind it
abbrev pub KindPlaced : ElaboratedStatementKind → Type 0
KindPlaced k = (a : rules.Environment) (v : Visible) (stand : StatementContext) (span : Span) → BlocksInside v stand
    → Clean (k.checked.faults span a v stand) → ((site : Site) → PlacedStatement (place_of stand) (k.statement span a v site))
    × BlocksInside (k.checked.behind v) stand

abbrev pub StmtPlaced : ElaboratedStatement → Type 0
StmtPlaced s = (a : rules.Environment) (v : Visible) (stand : StatementContext) → BlocksInside v stand
    → Clean (s.checked.faults a v stand)
    → ((site : Site) → PlacedStatement (place_of stand) (s.statement a v site)) × BlocksInside (s.checked.behind v) stand

block_placed : (ss : List ElaboratedStatement) → AllByRecursion StmtPlaced ss
    → (n : ℕ) (a : rules.Environment) (v : Visible) (stand : StatementContext)
    → BlocksInside v stand → Clean (faults_of_statements (parts_in ss) a v stand) → (site : Site)
    → PlacedBlock (place_of stand) (block_from n ss a v site)
block_placed [] laws n a v stand inside clean site = tt
block_placed (s ∷ ss) laws n a v stand inside clean site =
    let h = laws.0 a v stand inside clean.0 in
    (h.0 (at n site), block_placed ss laws.1 (n + 1) a (s.checked.behind v) stand h.1 clean.1 site)

-- the induction

in_a_block : (v : Visible) (stand : StatementContext) → BlocksInside v (among_members surround.Block stand)
in_a_block v stand = λ other. absurd (other refl)

all_laws : (ss : List (StmtsWith StmtPlaced)) → AllByRecursion StmtPlaced (elaborations ss)
all_laws = all_with elaborated_statement StmtPlaced

layer_law : LayerStep KindPlaced StmtPlaced
layer_law (StmtKind-F.Local type w value) =
    λ a v stand span inside clean. (λ site. tt, λ other. no_block_more v Local w.name type.kind refl (inside other))
layer_law (StmtKind-F.If e first second) = λ a v stand span inside clean. (
  λ site. (
    block_placed (elaborations first) (all_laws first) 0 a v (in_branch stand) inside clean.1.0 (at 0 site),
    block_placed (elaborations second) (all_laws second) 0 a v (in_branch stand) inside clean.1.1 (at 1 site),
  ),
  inside,
)
layer_law (StmtKind-F.While es e body) = λ a v stand span inside clean. (
  λ site.
      subst (λ (environment : Environment). PlacedBlock environment (block_from 0 (elaborations body) a v (at 0 site)))
      (place_repeated stand.surround stand.repeated)
      (block_placed (elaborations body) (all_laws body) 0 a v (in_while stand) inside clean.1.1 (at 0 site)),
  inside,
)
layer_law (StmtKind-F.For range c body) = λ a v stand span inside clean. (
  λ site.
      block_placed (elaborations body) (all_laws body) 0 a (inside_for v range) (among_members surround.Loop stand)
      (λ other. no_block_more (entered v) LoopVariable range.name.name Int refl (no_block_entered v)) clean.1.1.1.0.1
      (in_for a (inside_for v range) (elaborations body) (at 0 site)),
  inside,
)
layer_law (StmtKind-F.Par o range c body) = λ a v stand span inside clean. (
  λ site.
      block_placed (elaborations body) (all_laws body) 0 a (inside_par v o range) (among_members surround.Block stand)
      (in_a_block (inside_par v o range) stand) clean.1.1.1.1.1 (in_par range (at 0 site)),
  inside,
)
layer_law (StmtKind-F.Barrier w c) = λ a v stand span inside clean. (λ site. barrier_placed v stand w inside clean.0, inside)
layer_law (StmtKind-F.Send w n e) =
    λ a v stand span inside clean. (
      λ site. (
        message_placed stand span clean.0,
        some_way n (if_fails (nat_eq n 0) rule.MessageRule w.span clean.1.0),
      ),
      inside,
    )
layer_law (StmtKind-F.Recv w) = λ a v stand span inside clean. (λ site. message_placed stand span clean.0, inside)
layer_law _ = λ a v stand span inside clean. (λ site. tt, inside)

statement_placed : (s : Stmt) → StmtPlaced (elaborated_statement s)
statement_placed =
    piece_induction KindPlaced StmtPlaced layer_law (λ span k law a v stand inside clean. law a v stand span inside clean)

statements_placed : (ss : List Stmt) → AllByRecursion StmtPlaced (map elaborated_statement ss)
statements_placed = all_made elaborated_statement StmtPlaced statement_placed

-- Programs

body_from : (ss : List ElaboratedStatement) → AllByRecursion StmtPlaced ss
    → (n : ℕ) (a : rules.Environment) (v : Visible) (stand : StatementContext)
    → BlocksInside v stand → Clean (faults_of_body (parts_in ss) a v stand) → (site : Site)
    → PlacedBlock (place_of stand) (block_from n ss a v site)
body_from [] laws n a v stand inside clean site = tt
body_from (s ∷ ss) laws n a v stand inside clean site =
    let h = laws.0 a v (record stand { last = is_nothing (parts_in ss) }) inside clean.0 in
    (h.0 (at n site), body_from ss laws.1 (n + 1) a (s.checked.behind v) stand h.1 clean.1 site)

body_placed : (a : rules.Environment) (v : Visible) (method : Bool) (ss : List Stmt) → NoBlock v
    → Clean (faults_of_body (parts_of_block ss) a v (at_body method)) → PlacedBlock InMethod (core_of_body a v ss)
body_placed a v method ss none clean =
    body_from (map elaborated_statement ss) (statements_placed ss) 0 a v (at_body method) (λ other. none)
    (subst (λ (ps : List CheckedStatement). Clean (faults_of_body ps a v (at_body method))) (sym (checked_in_all_elaborated ss))
    clean)
    (outermost v)

members_placed : (a : rules.Environment) (ms : List Member) → Clean (faults_of_members a ms)
    → AllByRecursion PlacedMember (map (core_of_member a) ms)
members_placed a [] clean = tt
members_placed a (member.Field f ∷ ms) clean = (tt, members_placed a ms clean.1)
members_placed a (member.Predicate q ∷ ms) clean = (tt, members_placed a ms clean.1)
members_placed a (member.Method m ∷ ms) clean = (
  body_placed (in_method a m) (parameters_in_scope m) true m.body
      (no_block_params nothing_visible m.params no_block_at_all) clean.0.1.1.1.0,
  members_placed a ms clean.1,
)
members_placed a (member.Run r ∷ ms) clean = (
  body_placed a nothing_visible false r.body no_block_at_all clean.0.1,
  members_placed a ms clean.1,
)

classes_placed : (p : Program) (cs : List Class) → Clean (faults_of_classes p cs)
    → AllByRecursion PlacedClass (map (core_of_class p) cs)
classes_placed p [] clean = tt
classes_placed p (c ∷ cs) clean = (members_placed (in_class p c) c.members clean.0.1.1.1, classes_placed p cs clean.1)

pub program_placed : (p : Program) → KeepsRules p → IsPlaced (core_of p)
program_placed p keeps = classes_placed p p.classes (clean_from (faults_of_program p) keeps).1
