-- In a program that keeps the static rules nothing that is fixed is assigned, and the list of each loop has what its body
-- assigns.
use Rattle.std.proofs.Common.{◌≡◌, ℕ, ◌+◌, Bool, true, false, Option, is_some, List, [], ◌∷◌, ◌++◌, map, refl, sym, ◌∙◌, subst, inl, inr}
use Rattle.std.proofs.lemmas.Bool.{or_cases, or_from, both_ways, false_from_ne_true, eq-eqb}
use Rattle.std.specs.Prelude.{nat_eq}
use Rattle.std.specs.List.{AllByRecursion}
use Rattle.pv_base.specs.declared.Name.{Name}
use Rattle.pv_base.specs.declared.Span.{Span}
use Rattle.pv_ast.specs.declared.Word.{Word}
use Rattle.pv_ast.specs.declared.TypeWord.{TypeWord}
use Rattle.pv_ast.specs.declared.Right.{Right}
use Rattle.pv_ast.specs.declared.Expr.{Expr}
use Rattle.pv_ast.specs.declared.Range.{Range}
use Rattle.pv_ast.specs.declared.Contract.{Contract}
use Rattle.pv_ast.specs.declared.Member.{Member}
use Rattle.pv_ast.specs.declared.Member.TheVariants as member
use Rattle.pv_ast.specs.declared.Class.{Class}
use Rattle.pv_ast.specs.declared.Program.{Program}
use Rattle.pv_ast.specs.declared.Stmt.{Stmt}
use Rattle.pv_ast.specs.declared.StmtKind.{StmtKind-F}
use Rattle.pv_ast.specs.declared.fault.Rule.TheVariants as rule
use Rattle.pv_ast.specs.declared.scope.Declaration.TheVariants.{Local}
use Rattle.pv_ast.specs.declared.standing.StatementContext.{StatementContext}
use Rattle.pv_ast.specs.declared.standing.Surround.TheVariants as surround
use Rattle.pv_base.specs.Names.{same_name}
use Rattle.pv_ast.specs.Rules.Scoping.{Visible, nothing_visible, is_visible, is_inner_local, variable_named}
use Rattle.pv_ast.specs.Rules.Expressions.{Environment}
use Rattle.pv_ast.specs.Rules.Statements.{CheckedStatement, faults_of_statements, faults_of_body, in_branch, in_while, among_members, is_nothing, is_assignable}
use Rattle.pv_ast.specs.Rules.Programs.{KeepsRules, in_class, faults_of_members, faults_of_classes, faults_of_program, at_body}
use Rattle.pv_picks.specs.Plain.Core as core
use Rattle.pv_picks.specs.Plain.Core.{Statement, Block, Target}
use Rattle.pv_picks.specs.Elaborating.Names.{parameters_of}
use Rattle.core_trees.specs.Resolved.{InScope, names_of, behind}
use Rattle.pv_picks.specs.Elaborating.Statements.{ElaboratedStatement, ElaboratedStatementKind, Site, at, assigned_in, core_of_target, name_of_kind, once, block_from, inside_for, inside_par, in_for, in_par, outermost, elaborated_statement}
use Rattle.pv_picks.specs.Elaborating.Programs.{core_of, core_of_class, core_of_member, in_method, parameters_in_scope}
use Rattle.core_trees.proofs.Clean.{Clean, clean_from, unless_holds, if_fails}
use Rattle.core_trees.proofs.StmtLayers.{checked_in_all_elaborated, LayerStep, LayerWith, LayerHas, StmtsWith, elaborations, parts_in, piece_induction}
use Rattle.core_trees.proofs.Knowing.{variables_known}
use Rattle.core_names.specs.Assigning.{goes_into, assigns, assigns_in, KeepsFixed, StatementKeeps, BlockKeeps, MemberKeeps, ClassKeeps, KeepsNames}
use Rattle.core_names.proofs.Scopes.{AreNames, no_names, names_with, names_again, names_of_params, names_for, names_par, listed_visible, not_new, still_visible, visible_for, visible_par, IsWithin, IsHead, within_with, inner_still, head_for, head_par, head_of_params}
use Rattle.core_names.proofs.Listing.{assigned_at, in_first, in_second, listed_distinct, listed_there}
use Rattle.core_trees.proofs.Induction.{all_with, all_made}

-- Laws of statements and blocks

-- of a statement, the names that its source assigns, and the scope behind it
record Keeps (v : Visible) (assigned : List Name) (s : Statement) (after : Visible) : Type 0 where
  -- nothing is assigned but locals of the innermost body, and new variables
  outer : (n : Name) → is_visible v n ≡ true → is_inner_local v n ≡ false → assigns n s ≡ false
  listed : (n : Name) → is_visible v n ≡ true → assigns n s ≡ true → InScope assigned n
  keeps : (names : List Name) → AreNames v names → StatementKeeps names s
  names : (names : List Name) → AreNames v names → AreNames after (behind names s)
  within : IsWithin after
  visible : (n : Name) → is_visible v n ≡ true → is_visible after n ≡ true
  inner : (n : Name) → is_visible v n ≡ true → is_inner_local v n ≡ false → is_inner_local after n ≡ false

-- of a block
record KeepsAll (v : Visible) (assigned : List Name) (b : Block) : Type 0 where
  outer : (n : Name) → is_visible v n ≡ true → is_inner_local v n ≡ false → assigns_in n b ≡ false
  listed : (n : Name) → is_visible v n ≡ true → assigns_in n b ≡ true → InScope assigned n
  keeps : (names : List Name) → AreNames v names → BlockKeeps names b

abbrev KindLaw : ElaboratedStatementKind → Type 0
KindLaw k = (a : Environment) (v : Visible) (stand : StatementContext) (span : Span) (site : Site) → Clean
    (k.checked.faults span a v stand) → IsWithin v
    → Keeps v k.assigned (k.statement span a v site) (k.checked.behind v)

abbrev StmtLaw : ElaboratedStatement → Type 0
StmtLaw s = (a : Environment) (v : Visible) (stand : StatementContext) (site : Site) → Clean (s.checked.faults a v stand)
    → IsWithin v
    → Keeps v s.assigned (s.statement a v site) (s.checked.behind v)

-- statements without faults, each in some spot
abbrev AllClean : List ElaboratedStatement → Environment → Visible → Type 0
AllClean [] a v = Unit {0}
AllClean (s ∷ ss) a v = ((stand : StatementContext) × Clean (s.checked.faults a v stand)) × AllClean ss a (s.checked.behind v)

block_clean : (ss : List ElaboratedStatement) (a : Environment) (v : Visible) (stand : StatementContext)
    → Clean (faults_of_statements (parts_in ss) a v stand) → AllClean ss a v
block_clean [] a v stand clean = tt
block_clean (s ∷ ss) a v stand clean = ((stand, clean.0), block_clean ss a (s.checked.behind v) stand clean.1)

body_clean : (ss : List ElaboratedStatement) (a : Environment) (v : Visible) (stand : StatementContext)
    → Clean (faults_of_body (parts_in ss) a v stand)
    → AllClean ss a v
body_clean [] a v stand clean = tt
body_clean (s ∷ ss) a v stand clean = (
  (record stand { last = is_nothing (parts_in ss) }, clean.0),
  body_clean ss a
      (s.checked.behind v) stand clean.1,
)

block_law : (ss : List ElaboratedStatement) → AllByRecursion StmtLaw ss → (n : ℕ) (a : Environment) (v : Visible) (site : Site)
    → AllClean ss a v → IsWithin v
    → KeepsAll v (assigned_in ss) (block_from n ss a v site)
block_law [] laws n a v site clean within = record { outer = λ m h k. refl; listed = λ m h k. absurd cc; keeps = λ names are. tt }
block_law (s ∷ ss) laws n a v site clean within =
    let one : Keeps v s.assigned (s.statement a v (at n site)) (s.checked.behind v) = laws.0 a v clean.0.0
    (at n site) clean.0.1 within in
    let rest : KeepsAll (s.checked.behind v) (assigned_in ss) (block_from (n + 1) ss a (s.checked.behind v) site) =
    block_law ss laws.1 (n + 1) a (s.checked.behind v) site clean.1 one.within in
    record {
      outer = λ m h k.
          or_from (assigns m (s.statement a v (at n site))) (assigns_in m (block_from (n + 1) ss a (s.checked.behind v) site))
          (one.outer m h k) (rest.outer m (one.visible m h) (one.inner m h k));
      listed = λ m h k. elim (or_cases (assigns m (s.statement a v (at n site)))
          (assigns_in m (block_from (n + 1) ss a (s.checked.behind v) site)) k) [
            | inl i ↦ in_first s.assigned (assigned_in ss) m (one.listed m h i)
            | inr i ↦ in_second s.assigned (assigned_in ss) m (rest.listed m (one.visible m h) i)
          ];
      keeps = λ names are. (one.keeps names are, rest.keeps (behind names (s.statement a v (at n site))) (one.names names are));
    }

-- Statements that declare nothing

never : {A : Type 0} (b : Bool) → b ≡ false → b ≡ true → A
never b h k = absurd (both_ways b h k)

still : (v : Visible) (assigned : List Name) (s : Statement) → IsWithin v
    → ((n : Name) → is_visible v n ≡ true → is_inner_local v n ≡ false → assigns n s ≡ false)
    → ((n : Name) → is_visible v n ≡ true → assigns n s ≡ true → InScope assigned n)
    → ((names : List Name) → AreNames v names → StatementKeeps names s)
    → ((names : List Name) → AreNames v names → AreNames v (behind names s)) → Keeps v assigned s v
still v assigned s within outer listed keeps names = record {
  outer = outer;
  listed = listed;
  keeps = keeps;
  names = names;
  within = within;
  visible = λ n h. h;
  inner = λ n h k. k;
}

-- and that assign nothing, too
quiet : (v : Visible) (s : Statement) → IsWithin v → ((n : Name) → assigns n s ≡ false)
    → ((names : List Name) → StatementKeeps names s)
    → ((names : List Name) → behind names s ≡ names) → Keeps v [] s v
quiet v s within none keeps same =
    still v [] s within (λ n h k. none n) (λ n h k. never (assigns n s) (none n) k) (λ names are. keeps names)
    (λ names are. subst (AreNames v) (sym (same names)) are)

-- a left side that is a place
target_names : (v : Visible) (target : Target) (right : core.Right) (span : Span) (names : List Name)
    → ((n : Name) → goes_into n target ≡ true → is_some (variable_named v n) ≡ true) → AreNames v names → AreNames v
    (behind names (core.Assign target right span))
target_names v core.Nowhere right span names h are = are
target_names v (core.ToVariable name) right span names h are = names_again v names name (h name (eq-eqb name.0 name.0 refl)) are
target_names v (core.ToField e class field at) right span names h are = are
target_names v (core.ToElement type e i at) right span names h are = are

-- The induction

abbrev Stmts : Type 0
Stmts = StmtsWith StmtLaw

abbrev LayerLaw : LayerWith KindLaw StmtLaw → Type 0
LayerLaw = LayerHas KindLaw StmtLaw

local_law : (type : TypeWord) (w : Word) (value : Option Right) → LayerLaw (StmtKind-F.Local type w value)
local_law type w value = λ a v stand span site clean within.
    let new : is_visible v w.name ≡ false = if_fails (is_visible v w.name) rule.Shadows w.span clean.1.0 in
    record {
      outer = λ n h k. not_new v n w.name h new;
      listed = λ n h k. never (same_name n w.name) (not_new v n w.name h new) k;
      keeps = λ names are. tt;
      names = λ names are. names_with v names Local w.name type.kind refl new are;
      within = within_with v Local w.name type.kind within;
      visible = λ n h. still_visible v Local w.name type.kind n h;
      inner = λ n h k. inner_still v Local w.name type.kind n within
          (λ same. never (nat_eq n.0 w.name.0) (not_new v n w.name h new) same) k;
    }

assign_law : (to : Expr) (value : Right) → LayerLaw (StmtKind-F.Assign to value)
assign_law to value = λ a v stand span site clean within.
    let assignable : is_assignable a v to ≡ true = unless_holds (is_assignable a v to) rule.NotAssignable to.span clean.1.0 in
    still v (name_of_kind to.kind) _ within
    (λ n h k. false_from_ne_true (goes_into n (core_of_target a v to))
    (λ i. both_ways (is_inner_local v n) k (assigned_at to a v n assignable i).inner))
    (λ n h k. (assigned_at to a v n assignable k).named)
    (λ names are. tt)
    (λ names are. target_names v (core_of_target a v to) _ span names (λ n i. (assigned_at to a v n assignable i).variable) are)

if_law : (e : Expr) (first second : List Stmts) → LayerLaw (StmtKind-F.If e first second)
if_law e first second = λ a v stand span site clean within.
    let one = block_law (elaborations first) (all_with elaborated_statement StmtLaw first) 0 a v (at 0 site)
    (block_clean (elaborations first) a v (in_branch stand) clean.1.0) within in
    let two = block_law (elaborations second) (all_with elaborated_statement StmtLaw second) 0 a v (at 1 site)
    (block_clean (elaborations second) a v (in_branch stand) clean.1.1) within in
    let x : Block = block_from 0 (elaborations first) a v (at 0 site) in
    let y : Block = block_from 0 (elaborations second) a v (at 1 site) in
    still v (assigned_in (elaborations first) ++ assigned_in (elaborations second)) _ within
    (λ n h k. or_from (assigns_in n x) (assigns_in n y) (one.outer n h k) (two.outer n h k))
    (λ n h k. elim (or_cases (assigns_in n x) (assigns_in n y) k) [
      | inl i ↦ in_first (assigned_in (elaborations first)) (assigned_in (elaborations second)) n (one.listed n h i)
      | inr i ↦ in_second (assigned_in (elaborations first)) (assigned_in (elaborations second)) n (two.listed n h i)
    ])
    (λ names are. (one.keeps names are, two.keeps names are))
    (λ names are. are)

while_law : (es : List Expr) (e : Expr) (body : List Stmts) → LayerLaw (StmtKind-F.While es e body)
while_law es e body = λ a v stand span site clean within.
    let assigned : List Name = assigned_in (elaborations body) in
    let b = block_law (elaborations body) (all_with elaborated_statement StmtLaw body) 0 a v (at 0 site)
    (block_clean (elaborations body) a v (in_while stand) clean.1.1) within in
    still v assigned _ within b.outer b.listed
    (λ names are. (
      record {
        covers = λ n h k. listed_there v assigned n (sym (are n) ∙ h) (b.listed n (listed_visible v names are n h) k);
        scope = variables_known v names (once assigned) (λ n h k. are n ∙ h);
        distinct = listed_distinct v assigned;
      },
      b.keeps names are,
    ))
    (λ names are. are)

-- the body of a par block or counted loop, at whose head there are no locals
members_law : (v inside : Visible) (variable : Name) (assigned : List Name) (body : Block) (s : Statement) → IsWithin v
    → ((n : Name) → assigns n s ≡ assigns_in n body)
    → ((names : List Name) → KeepsFixed (variable ∷ names) body × BlockKeeps
    (variable ∷ names) body → StatementKeeps names s) → ((names : List Name) → behind names s ≡ names)
    → IsHead inside → ((n : Name) → is_visible v n ≡ true → is_visible inside n ≡ true) →
    ((names : List Name) → AreNames v names → AreNames inside (variable ∷ names))
    → KeepsAll inside assigned body → Keeps v assigned s v
members_law v inside variable assigned body s within same keeps stays head visible names b =
    let fixed : (n : Name) → is_visible inside n ≡ true → assigns_in n body ≡ false = λ n h. b.outer n h (head.1 n) in
    still v assigned s within
    (λ n h k. same n ∙ fixed n (visible n h))
    (λ n h k. never (assigns n s) (same n ∙ fixed n (visible n h)) k)
    (λ names' are. keeps names' (
      λ n h. fixed n (listed_visible inside (variable ∷ names') (names names' are) n h),
      b.keeps
          (variable ∷ names') (names names' are),
    ))
    (λ names' are. subst (AreNames v) (sym (stays names')) are)

for_law : (range : Range) (c : Contract) (body : List Stmts) → LayerLaw (StmtKind-F.For range c body)
for_law range c body = λ a v stand span site clean within.
    let inside : Visible = inside_for v range in
    let there : Site = in_for a inside (elaborations body) (at 0 site) in
    members_law v inside range.name.name (assigned_in (elaborations body)) (block_from 0 (elaborations body) a inside there) _
    within
    (λ n. refl) (λ names h. h) (λ names. refl)
    (head_for v range) (visible_for v range) (λ names are. names_for v range names clean.1.1.0 are)
    (block_law (elaborations body) (all_with elaborated_statement StmtLaw body) 0 a inside there
    (block_clean (elaborations body) a inside (among_members surround.Loop stand) clean.1.1.1.0.1) (head_for v range).0)

par_law : (o : Option Word) (range : Range) (c : Contract) (body : List Stmts) → LayerLaw (StmtKind-F.Par o range c body)
par_law o range c body = λ a v stand span site clean within.
    let inside : Visible = inside_par v o range in
    let there : Site = in_par range (at 0 site) in
    members_law v inside range.name.name (assigned_in (elaborations body)) (block_from 0 (elaborations body) a inside there) _
    within
    (λ n. refl) (λ names h. h) (λ names. refl)
    (head_par v o range) (visible_par v o range) (λ names are. names_par v o range names clean.1.1.1.0 are)
    (block_law (elaborations body) (all_with elaborated_statement StmtLaw body) 0 a inside there
    (block_clean (elaborations body) a inside (among_members surround.Block stand) clean.1.1.1.1.1) (head_par v o range).0)

layer_law : LayerStep KindLaw StmtLaw
layer_law (StmtKind-F.Local type w value) = local_law type w value
layer_law (StmtKind-F.Assign to value) = assign_law to value
layer_law (StmtKind-F.If e first second) = if_law e first second
layer_law (StmtKind-F.While es e body) = while_law es e body
layer_law (StmtKind-F.For range c body) = for_law range c body
layer_law (StmtKind-F.Par o range c body) = par_law o range c body
layer_law _ = λ a v stand span site clean within. quiet v _ within (λ n. refl) (λ names. tt) (λ names. refl)

statement_law : (s : Stmt) → StmtLaw (elaborated_statement s)
statement_law =
    piece_induction KindLaw StmtLaw layer_law (λ span k law a v stand site clean within. law a v stand span site clean within)

statements_law : (ss : List Stmt) → AllByRecursion StmtLaw (map elaborated_statement ss)
statements_law = all_made elaborated_statement StmtLaw statement_law

-- what the statements of a block assign of what is in scope before it is among the names that their sources assign
pub block_listed : (ss : List Stmt) (a : Environment) (v : Visible) (stand : StatementContext) (site : Site)
    → Clean (faults_of_statements (map (λ s. s.checked) (map elaborated_statement ss)) a v stand) → IsWithin v
    → (n : Name) → is_visible v n ≡ true
    → assigns_in n (block_from 0 (map elaborated_statement ss) a v site) ≡ true
    → InScope (assigned_in (map elaborated_statement ss)) n
block_listed ss a v stand site clean within n h k =
    (block_law (map elaborated_statement ss) (statements_law ss) 0 a v site
    (block_clean (map elaborated_statement ss) a v stand clean)
    within).listed n h k

-- Bodies and programs

body_law : (ss : List Stmt) (names : List Name) (a : Environment) (v : Visible) (stand : StatementContext) (site : Site)
    → Clean (faults_of_body (parts_in (map elaborated_statement ss)) a v stand)
    → IsHead v → AreNames v names → (let b : Block = block_from 0
    (map elaborated_statement ss) a v site in KeepsFixed names b × BlockKeeps names b)
body_law ss names a v stand site clean head are =
    let b = block_law (map elaborated_statement ss) (statements_law ss) 0 a v site
    (body_clean (map elaborated_statement ss) a v stand clean) head.0 in
    (λ n h. b.outer n (listed_visible v names are n h) (head.1 n), b.keeps names are)

members_keep : (a : Environment) (ms : List Member) → Clean (faults_of_members a ms)
    → AllByRecursion MemberKeeps (map (core_of_member a) ms)
members_keep a [] clean = tt
members_keep a (member.Field f ∷ ms) clean = (tt, members_keep a ms clean.1)
members_keep a (member.Predicate q ∷ ms) clean = (tt, members_keep a ms clean.1)
members_keep a (member.Method m ∷ ms) clean = (
  body_law m.body (names_of (parameters_of m.params)) (in_method a m) (parameters_in_scope m) (at_body true)
      (outermost (parameters_in_scope m))
      (subst (λ (ps : List CheckedStatement). Clean (faults_of_body ps (in_method a m) (parameters_in_scope m) (at_body true)))
      (sym (checked_in_all_elaborated m.body)) clean.0.1.1.1.0)
      (head_of_params m.params) (names_of_params (in_method a m) m.params clean.0.1.0),
  members_keep a ms clean.1,
)
members_keep a (member.Run r ∷ ms) clean = (
  body_law r.body [] a nothing_visible (at_body false) (outermost nothing_visible)
      (subst (λ (ps : List CheckedStatement). Clean (faults_of_body ps a nothing_visible (at_body false)))
      (sym (checked_in_all_elaborated r.body)) clean.0.1)
      (head_of_params []) no_names,
  members_keep a ms clean.1,
)

classes_keep : (p : Program) (cs : List Class) → Clean (faults_of_classes p cs)
    → AllByRecursion ClassKeeps (map (core_of_class p) cs)
classes_keep p [] clean = tt
classes_keep p (c ∷ cs) clean = (members_keep (in_class p c) c.members clean.0.1.1.1, classes_keep p cs clean.1)

pub program_keeps : (p : Program) → KeepsRules p → KeepsNames (core_of p)
program_keeps p keeps = classes_keep p p.classes (clean_from (faults_of_program p) keeps).1
