-- In what a statement without a fault becomes, both forms of each contract that members keep are made alike.
use Rattle.std.proofs.Common.{◌≡◌, ℕ, ◌+◌, true, false, Option, Some, None, is_some, List, [], ◌∷◌, ◌++◌, refl, sym, subst}
use Rattle.pv_base.specs.declared.Name.{Name}
use Rattle.pv_base.specs.declared.Span.{Span}
use Rattle.pv_ast.specs.declared.Word.{Word}
use Rattle.pv_ast.specs.declared.PvType.{PvType}
use Rattle.pv_ast.specs.declared.PvType.TheVariants.{Int}
use Rattle.pv_ast.specs.declared.Expr.{Expr}
use Rattle.pv_ast.specs.declared.Contract.{Contract}
use Rattle.pv_ast.specs.declared.Range.{Range}
use Rattle.pv_ast.specs.declared.Stmt.{Stmt}
use Rattle.pv_ast.specs.declared.StmtKind.{StmtKind-F}
use Rattle.pv_ast.specs.declared.fault.Rule.TheVariants as rule
use Rattle.pv_ast.specs.declared.fault.ShapeFault.{ShapeFault}
use Rattle.pv_ast.specs.declared.scope.Declaration.{Declaration}
use Rattle.pv_ast.specs.declared.scope.Declaration.TheVariants.{Local, LoopVariable}
use Rattle.pv_ast.specs.declared.standing.StatementContext.{StatementContext}
use Rattle.pv_ast.specs.declared.standing.Surround.TheVariants as surround
use Rattle.pv_ast.specs.Rules.Faults.{Faults}
use Rattle.pv_ast.specs.Rules.Scoping.{Visible, declare_variable, entered, is_visible, is_block, is_block_around}
use Rattle.pv_ast.specs.Rules.Expressions.{Environment}
use Rattle.pv_ast.specs.Rules.Shapes as shapes
use Rattle.pv_ast.specs.Rules.Shapes.{quantifiers_in, quantifiers_in_range, faults_of_formulas, faults_of_item_contract, faults_of_each, faults_in_stmt_kind, faults_in_stmt, faults_of_stmt, faults_of_stmt_kind}
use Rattle.pv_ast.specs.Rules.Statements as rules
use Rattle.pv_ast.specs.Rules.Statements.{in_condition, between_members, CheckedStatement, faults_of_statements, in_branch, in_while, among_members, with_block}
use Rattle.pv_picks.specs.Plain.Core.{Statement}
use Rattle.pv_picks.specs.Elaborating.Statements.{ElaboratedStatement, ElaboratedStatementKind, Site, at, block_from, core_of_shared, inside_for, inside_par, in_for, in_par, elaborated_statement}
use Rattle.core_trees.proofs.Clean.{Clean, unless_holds, if_fails, no_first, no_second}
use Rattle.core_trees.proofs.Blocks.{Blocked, blocked_with}
use Rattle.core_trees.proofs.StmtLayers.{ShapedWith, ShapedLayer, ShapedHas, ShapedLayerStep, shaped_induction, elaborations, parts_in, shapes_of}
use Rattle.core_trees.proofs.ConfiningStmts.{Placed}
use Rattle.core_trees.proofs.ConfiningStmts.{still_placed}
use Rattle.core_sharing.specs.Keeping.{SaidOfBarrier, SaidInStatement, SaidInBlock}
use Rattle.core_sharing.proofs.Making.{SharedIsMade}
use Rattle.core_trees.proofs.Shapes.{IsPosition}
use Rattle.core_sharing.proofs.Contracts.{still_position, loop_position, shared_same}

-- Where a statement stands

-- the position of the innermost par block around is a number in scope
abbrev pub Numbered : Visible → Option Name → Type 0
Numbered v None = Unit {0}
Numbered v (Some name) = IsPosition v name

abbrev pub Stands : Visible → Option Name → Type 0
Stands v position = Blocked v position × Numbered v position

numbered_with : (position : Option Name) (v : Visible) (how : Declaration) (name : Name) (type : PvType) → Numbered v position
    → Numbered (declare_variable how v name type) position
numbered_with None v how name type h = tt
numbered_with (Some p) v how name type h = still_position v how name p type h

stands_with : (position : Option Name) (v : Visible) (how : Declaration) (name : Name) (type : PvType) → is_block how ≡ false
    → Stands v position → Stands (declare_variable how v name type) position
stands_with position v how name type no_block h =
    (blocked_with position v how name type no_block h.0, numbered_with position v how name type h.1)

numbered_inside : (position : Option Name) (v : Visible) → Numbered v position → Numbered (entered v) position
numbered_inside None v h = tt
numbered_inside (Some name) v h = h

-- The laws of a statement

-- what a statement without a fault becomes, and the scope behind it
pub record Done (v after : Visible) (environment : shapes.Environment) (faults_at : StatementContext → Faults)
    (statement_at : Site → Statement) : Type 0 where
  pub statement : (position : Option Name) (stand : StatementContext) (site : Site) → Clean (faults_at stand) → Stands v position
      → Placed position environment site → SaidInStatement SharedIsMade position (statement_at site)
  pub further : (position : Option Name) → Stands v position → Stands after position

abbrev KindLaw : ElaboratedStatementKind → (shapes.Environment → List ShapeFault) → Type 0
KindLaw k shape =
    (span : Span) (a : Environment) (v : Visible) (environment : shapes.Environment) → shape environment ≡ []
    → Done v (k.checked.behind v) environment (λ stand. k.checked.faults span a v stand) (λ site. k.statement span a v site)

abbrev pub StmtLaw : ElaboratedStatement → (shapes.Environment → List ShapeFault) → Type 0
StmtLaw s shape =
    (a : Environment) (v : Visible) (environment : shapes.Environment) → shape environment ≡ []
    → Done v (s.checked.behind v) environment (λ stand. s.checked.faults a v stand) (λ site. s.statement a v site)

abbrev Stmts : Type 0
Stmts = ShapedWith StmtLaw

-- a statement that declares nothing
still : {v : Visible} {environment : shapes.Environment} {faults_at : StatementContext → Faults} {statement_at : Site → Statement}
    → ((position : Option Name) (stand : StatementContext) (site : Site) → Clean (faults_at stand) → Stands v position
    → Placed position environment site → SaidInStatement SharedIsMade position (statement_at site))
    → Done v v environment faults_at statement_at
still h = record { statement = h; further = λ position stands. stands }

block_law : (ss : List Stmts) (n : ℕ) (a : Environment) (v : Visible) (environment : shapes.Environment)
    → shapes_of ss environment ≡ []
    → (position : Option Name) (stand : StatementContext) (site : Site)
    → Clean (faults_of_statements (parts_in (elaborations ss)) a v stand)
    → Stands v position → Placed position environment site
    → SaidInBlock SharedIsMade position (block_from n (elaborations ss) a v site)
block_law [] n a v environment none position stand site clean stands placed = tt
block_law (s ∷ ss) n a v environment none position stand site clean stands placed =
    let h = s.1 a v environment (no_first (faults_of_stmt s.0 environment) (shapes_of ss environment) none) in (
      h.statement position stand (at n site) clean.0 stands
          (still_placed position environment environment site (at n site) refl refl placed),
      block_law ss (n + 1) a ((elaborated_statement s.0).checked.behind v) environment
          (no_second (faults_of_stmt s.0 environment) (shapes_of ss environment) none) position stand site clean.1
          (h.further position stands) placed,
    )

-- Kinds

abbrev LayerLaw : ShapedLayer KindLaw StmtLaw → Type 0
LayerLaw = ShapedHas KindLaw StmtLaw

if_law : (e : Expr) (first second : List Stmts) → LayerLaw (StmtKind-F.If e first second)
if_law e first second = λ span a v environment none.
    let before : quantifiers_in e ++ shapes_of first environment
    ≡ [] = no_first (quantifiers_in e ++ shapes_of first environment) (shapes_of second environment) none in
    let one : shapes_of first environment ≡ [] = no_second (quantifiers_in e) (shapes_of first environment) before in
    let two : shapes_of second environment
    ≡ [] = no_second (quantifiers_in e ++ shapes_of first environment) (shapes_of second environment) none in
    still (λ position stand site clean stands placed. (
      block_law first 0 a v environment one position (in_branch stand) (at 0 site) clean.1.0 stands
          (still_placed position environment environment site (at 0 site) refl refl placed),
      block_law second 0 a v environment two position (in_branch stand) (at 1 site) clean.1.1 stands
          (still_placed position environment environment site (at 1 site) refl refl placed),
    ))

while_law : (es : List Expr) (e : Expr) (body : List Stmts) → LayerLaw (StmtKind-F.While es e body)
while_law es e body = λ span a v environment none.
    let before : List ShapeFault = faults_of_formulas es ++ quantifiers_in e in
    let within : shapes_of body environment ≡ [] = no_second before (shapes_of body environment) none in
    still (λ position stand site clean stands placed.
    block_law body 0 a v environment within position (in_while stand) (at 0 site) clean.1.1 stands
    (still_placed position environment environment site (at 0 site) refl refl placed))

for_law : (range : Range) (c : Contract) (body : List Stmts) → LayerLaw (StmtKind-F.For range c body)
for_law range c body = λ span a v environment none.
    let inner : shapes.Environment = record environment { loop = Some range.name.name.0 } in
    let further : List ShapeFault = shapes_of body inner in
    let contract : List ShapeFault = faults_of_item_contract range.name.name.0 c in
    let before : quantifiers_in_range range ++ contract ≡ [] = no_first (quantifiers_in_range range ++ contract) further none in
    let within : further ≡ [] = no_second (quantifiers_in_range range ++ contract) further none in
    let inside : Visible = inside_for v range in
    still (λ position stand site clean stands placed.
    let new : IsPosition inside range.name.name = loop_position (entered v) range.name.name
    (if_fails (is_visible (entered v) range.name.name) rule.Shadows range.name.span clean.1.1.0) in
    let there : Stands inside position = stands_with position (entered v) LoopVariable range.name.name Int refl
    (stands.0, numbered_inside position v stands.1) in (
      shared_same range.name.name c a inside in_condition in_condition new clean.1.1.1.0.0
          (no_second (quantifiers_in_range range) contract before),
      block_law body 0 a inside inner within position (among_members surround.Loop stand)
          (in_for a inside (elaborations body) (at 0 site)) clean.1.1.1.0.1 there
          (still_placed position environment inner site (in_for a inside (elaborations body) (at 0 site)) refl refl placed),
    ))

par_law : (o : Option Word) (range : Range) (c : Contract) (body : List Stmts) → LayerLaw (StmtKind-F.Par o range c body)
par_law o range c body = λ span a v environment none.
    let inner : shapes.Environment = record environment { block = Some range.name.name.0 } in
    let further : List ShapeFault = shapes_of body inner in
    let contract : List ShapeFault = faults_of_item_contract range.name.name.0 c in
    let before : quantifiers_in_range range ++ contract ≡ [] = no_first (quantifiers_in_range range ++ contract) further none in
    let within : further ≡ [] = no_second (quantifiers_in_range range ++ contract) further none in
    let inside : Visible = inside_par v o range in
    still (λ position stand site clean stands placed.
    let outer : Visible = with_block (entered v) o in
    let new : IsPosition inside range.name.name = loop_position outer range.name.name
    (if_fails (is_visible outer range.name.name) rule.Shadows range.name.span clean.1.1.1.0) in (
      shared_same range.name.name c a inside in_condition in_condition new clean.1.1.1.1.0
          (no_second (quantifiers_in_range range) contract before),
      block_law body 0 a inside inner within (Some range.name.name) (among_members surround.Block stand)
          (in_par range (at 0 site)) clean.1.1.1.1.1 (λ n is. refl, new) (refl, refl),
    ))

barrier_law : (position : Option Name) (c : Contract) (a : Environment) (v : Visible) (environment : shapes.Environment)
    (site : Site)
    → Clean (rules.faults_of_clauses a v between_members between_members c.clauses)
    → shapes.faults_of_barrier environment.block c ≡ [] → is_some position ≡ true
    → Numbered v position → Placed position environment site
    → SaidOfBarrier SharedIsMade position (core_of_shared site.position a v c)
barrier_law None c a v environment site clean none is number placed = absurd cc
barrier_law (Some name) c a v environment site clean none is number placed =
    subst (λ (n : Name). SharedIsMade name (core_of_shared n a v c)) (sym placed.1)
    (shared_same name c a v between_members between_members number clean
    (subst (λ (o : Option ℕ). shapes.faults_of_barrier o c ≡ []) placed.0 none))

-- The induction

layer_law : ShapedLayerStep KindLaw StmtLaw
layer_law (StmtKind-F.Local type w value) = λ span a v environment none. record {
  statement = λ position stand site clean stands placed. tt;
  further = λ position stands. stands_with position v Local w.name type.kind refl stands;
}
layer_law (StmtKind-F.If e first second) = if_law e first second
layer_law (StmtKind-F.While es e body) = while_law es e body
layer_law (StmtKind-F.For range c body) = for_law range c body
layer_law (StmtKind-F.Par o range c body) = par_law o range c body
layer_law (StmtKind-F.Barrier w c) = λ span a v environment none. still (λ position stand site clean stands placed.
    barrier_law position c a v environment site clean.1 none
    (stands.0 w.name (unless_holds (is_block_around v w.name) rule.UnknownName w.span clean.0.0)) stands.1 placed)
layer_law _ = λ span a v environment none. still (λ position stand site clean stands placed. tt)

pub statement_law : (s : Stmt) → StmtLaw (elaborated_statement s) (faults_of_stmt s)
statement_law =
    shaped_induction KindLaw StmtLaw layer_law (λ span k shape law a v environment none. law span a v environment none)
