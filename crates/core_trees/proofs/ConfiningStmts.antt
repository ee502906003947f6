-- A statement without a fault becomes one in which positions stand only where they are read.
use Rattle.std.proofs.Common.{◌≡◌, ℕ, ◌+◌, Bool, true, false, not, ◌||◌, Option, Some, None, is_some, List, [], ◌∷◌, ◌++◌, map, cond, refl, sym, ◌∙◌, ap, subst}
use Rattle.std.proofs.lemmas.Bool.{both_ways}
use Rattle.std.specs.Prelude.{filter, if◌then◌else◌}
use Rattle.std.specs.List.{AllByRecursion}
use Rattle.pv_base.specs.declared.Name.{Name}
use Rattle.pv_base.specs.declared.Span.{Span}
use Rattle.pv_ast.specs.declared.Word.{Word}
use Rattle.pv_ast.specs.declared.PvType.TheVariants.{Int, Truth}
use Rattle.pv_ast.specs.declared.Expr.{Expr}
use Rattle.pv_ast.specs.declared.Clause.{Clause}
use Rattle.pv_ast.specs.declared.ClauseKind.{ClauseKind}
use Rattle.pv_ast.specs.declared.Contract.{Contract}
use Rattle.pv_ast.specs.declared.Range.{Range}
use Rattle.pv_ast.specs.declared.Stmt.{Stmt}
use Rattle.pv_ast.specs.declared.StmtKind.{StmtKind-F}
use Rattle.pv_ast.specs.declared.fault.Rule.TheVariants as rule
use Rattle.pv_ast.specs.declared.fault.ShapeFault.{ShapeFault}
use Rattle.pv_ast.specs.declared.scope.Declaration.TheVariants.{Local, LoopVariable}
use Rattle.pv_ast.specs.declared.standing.Context.{Context}
use Rattle.pv_ast.specs.declared.standing.Need.TheVariants.{Exactly}
use Rattle.pv_ast.specs.declared.standing.StatementContext.{StatementContext}
use Rattle.pv_ast.specs.declared.standing.Surround.TheVariants as surround
use Rattle.pv_ast.specs.Rules.Faults.{Faults}
use Rattle.pv_base.specs.Names.{same_name}
use Rattle.pv_ast.specs.Rules.Scoping.{Visible, entered, is_visible, is_block_around}
use Rattle.pv_ast.specs.Rules.Expressions.{Environment, CheckedExpression}
use Rattle.pv_ast.specs.Rules.Items.{Shape, clause}
use Rattle.pv_ast.specs.Rules.Shapes as shapes
use Rattle.pv_ast.specs.Rules.Shapes.{quantifiers_in, quantifiers_in_range, faults_of_formula, faults_of_formulas, faults_of_items, faults_of_contract, faults_of_item_contract, faults_of_message, faults_of_each, faults_in_stmt_kind, faults_in_stmt, faults_of_stmt, faults_of_stmt_kind}
use Rattle.pv_ast.specs.Rules.Statements as rules
use Rattle.pv_ast.specs.Rules.Statements.{in_condition, in_invariant, between_members, CheckedStatement, faults_of_statements, faults_of_message_place, in_branch, in_while, among_members, is_loop}
use Rattle.pv_picks.specs.Plain.Core.{Formula, Items, Message, Statement}
use Rattle.pv_picks.specs.Elaborating.Names.{no_name}
use Rattle.pv_picks.specs.Elaborating.Expressions.{elaborated_expression, core_of_formula, core_of_items}
use Rattle.pv_picks.specs.Elaborating.Statements.{ElaboratedStatement, ElaboratedStatementKind, Site, at, block_from, sent_in, message_of, joined, joined_items, formulas_at, core_of_formulas, core_of_contract, core_of_shared, inside_for, inside_par, in_for, in_par, elaborated_statement}
use Rattle.core_trees.specs.Positions.{ConfinedFormula, ConfinedItems, ConfinedContract, ConfinedShared, ConfinedBarrier, ConfinedStatement, ConfinedBlock}
use Rattle.core_trees.proofs.Clean.{Clean, unless_holds, if_fails, no_first, no_second}
use Rattle.core_trees.proofs.Agreeing.{Agree, agree_local, agree_head}
use Rattle.core_trees.proofs.Heads.{at_head}
use Rattle.core_trees.proofs.Blocks.{Blocked, blocked_with}
use Rattle.core_trees.proofs.Layers.{shape_in_elaborated, checked_in_elaborated}
use Rattle.core_trees.proofs.StmtLayers.{ShapedWith, ShapedLayer, ShapedHas, ShapedLayerStep, shaped_induction, elaborations, parts_in, shapes_of}
use Rattle.core_trees.proofs.Terms.{together_confined}
use Rattle.core_trees.proofs.Confining.{ElaboratedKept, expression_law}

-- Formulas

expression_confined : (e : Expr) (name : Name) (a : Environment) (v : Visible) (c : Context)
    → Clean (rules.faults_of_formula a v c e)
    → ElaboratedKept name a v (elaborated_expression e)
expression_confined e name a v c clean =
    expression_law e name a v c (Exactly Truth) (subst (λ (p : CheckedExpression). Clean (p.faults a v c (Exactly Truth)))
    (sym (checked_in_elaborated e)) clean)

pub formula_confined : (e : Expr) (a : Environment) (v : Visible) (c : Context) → Clean (rules.faults_of_formula a v c e)
    → faults_of_formula e ≡ [] → ConfinedFormula (core_of_formula a v e)
formula_confined e a v c clean none = (expression_confined e no_name a v c clean).formula
    (ap (λ (s : Shape). s.faults) (shape_in_elaborated e) ∙ none) None

-- a formula that is made of items for the position
pub both_confined : (e : Expr) (name : Name) (a : Environment) (v : Visible) (c : Context)
    → Clean (rules.faults_of_formula a v c e)
    → faults_of_items name.0 e ≡ [] → ConfinedFormula (core_of_formula a v e) × ConfinedItems name (core_of_items name a v e)
both_confined e name a v c clean none = (expression_confined e name a v c clean).joined clause
    (ap (λ (s : Shape). s.parts clause name.0) (shape_in_elaborated e) ∙ none) None

joined_confined : (fs : List Formula) → AllByRecursion ConfinedFormula fs → ConfinedFormula (joined fs)
joined_confined [] h = tt
joined_confined (f ∷ []) h = h.0
joined_confined (f ∷ g ∷ fs) h = (h.0, joined_confined (g ∷ fs) h.1)

items_confined : (name : Name) (all : List Items) → AllByRecursion (ConfinedItems name) all
    → ConfinedItems name (joined_items all)
items_confined name [] h = tt
items_confined name (is ∷ rest) h = together_confined name is (joined_items rest) h.0 (items_confined name rest h.1)

all_formulas : (es : List Expr) (a : Environment) (v : Visible) (c : Context) → Clean (rules.faults_of_formulas a v c es)
    → faults_of_formulas es ≡ [] → AllByRecursion ConfinedFormula (map (core_of_formula a v) es)
all_formulas [] a v c clean none = tt
all_formulas (e ∷ es) a v c clean none = (
  formula_confined e a v c clean.0 (no_first (faults_of_formula e) (faults_of_formulas es) none),
  all_formulas es a v c clean.1 (no_second (faults_of_formula e) (faults_of_formulas es) none),
)

pub formulas_confined : (es : List Expr) (a : Environment) (v : Visible) (c : Context) → Clean (rules.faults_of_formulas a v c es)
    → faults_of_formulas es ≡ [] → ConfinedFormula (core_of_formulas a v es)
formulas_confined es a v c clean none = joined_confined (map (core_of_formula a v) es) (all_formulas es a v c clean none)

-- Contracts

abbrev ClauseFormula : Environment → Visible → Clause → Type 0
ClauseFormula a v c = ConfinedFormula (core_of_formula a v c.formula)

abbrev ClauseItems : Name → Environment → Visible → Clause → Type 0
ClauseItems name a v c = ConfinedItems name (core_of_items name a v c.formula)

filtered : {A : Type 0} (P : A → Type 0) (b : Bool) (x : A) (xs : List A) → P x → AllByRecursion P xs
    → AllByRecursion P (cond b (x ∷ xs) xs)
filtered P true x xs h k = (h, k)
filtered P false x xs h k = k

pub filter_all : {A : Type 0} (P : A → Type 0) (stands : A → Bool) (xs : List A) → AllByRecursion P xs
    → AllByRecursion P (filter stands xs)
filter_all P stands [] h = tt
filter_all P stands (x ∷ xs) h = filtered P (stands x) x (filter stands xs) h.0 (filter_all P stands xs h.1)

clause_formulas : (a : Environment) (v : Visible) (cs : List Clause) → AllByRecursion (ClauseFormula a v) cs
    → AllByRecursion ConfinedFormula (map (core_of_formula a v) (map (λ clause. clause.formula) cs))
clause_formulas a v [] h = tt
clause_formulas a v (c ∷ cs) h = (h.0, clause_formulas a v cs h.1)

clause_items : (name : Name) (a : Environment) (v : Visible) (cs : List Clause) → AllByRecursion (ClauseItems name a v) cs
    → AllByRecursion (ConfinedItems name) (map (core_of_items name a v) (map (λ clause. clause.formula) cs))
clause_items name a v [] h = tt
clause_items name a v (c ∷ cs) h = (h.0, clause_items name a v cs h.1)

formulas_at_confined : (a : Environment) (v : Visible) (stands : ClauseKind → Bool) (cs : List Clause)
    → AllByRecursion (ClauseFormula a v) cs → ConfinedFormula (core_of_formulas a v (formulas_at stands cs))
formulas_at_confined a v stands cs h =
    joined_confined _ (clause_formulas a v (filter (λ clause. stands clause.kind) cs)
    (filter_all (ClauseFormula a v) (λ clause. stands clause.kind) cs h))

items_at_confined : (name : Name) (a : Environment) (v : Visible) (stands : ClauseKind → Bool) (cs : List Clause)
    → AllByRecursion (ClauseItems name a v) cs → ConfinedItems name (joined_items
    (map (core_of_items name a v) (formulas_at stands cs)))
items_at_confined name a v stands cs h =
    items_confined name _ (clause_items name a v (filter (λ clause. stands clause.kind) cs)
    (filter_all (ClauseItems name a v) (λ clause. stands clause.kind) cs h))

each_clause : (a : Environment) (v : Visible) (ensures others : Context) (cs : List Clause)
    → Clean (rules.faults_of_clauses a v ensures others cs) → faults_of_contract (record { clauses = cs }) ≡ []
    → AllByRecursion (ClauseFormula a v) cs
each_clause a v ensures others [] clean none = tt
each_clause a v ensures others (c ∷ cs) clean none =
    let rest : List ShapeFault = faults_of_contract (record { clauses = cs }) in (
      formula_confined c.formula a v _ clean.0 (no_first (faults_of_formula c.formula) rest none),
      each_clause a v ensures others cs clean.1 (no_second (faults_of_formula c.formula) rest none),
    )

each_item_clause : (name : Name) (a : Environment) (v : Visible) (ensures others : Context) (cs : List Clause)
    → Clean (rules.faults_of_clauses a v ensures others cs) → faults_of_item_contract name.0 (record { clauses = cs }) ≡ []
    → AllByRecursion (ClauseFormula a v) cs × AllByRecursion (ClauseItems name a v) cs
each_item_clause name a v ensures others [] clean none = (tt, tt)
each_item_clause name a v ensures others (c ∷ cs) clean none =
    let first : List ShapeFault = faults_of_items name.0 c.formula in
    let rest : List ShapeFault = faults_of_item_contract name.0 (record { clauses = cs }) in
    let h = both_confined c.formula name a v _ clean.0 (no_first first rest none) in
    let k = each_item_clause name a v ensures others cs clean.1 (no_second first rest none) in
    ((h.0, k.0), (h.1, k.1))

pub contract_confined : (c : Contract) (a : Environment) (v : Visible) (ensures others : Context)
    → Clean (rules.faults_of_clauses a v ensures others c.clauses) → faults_of_contract c ≡ []
    → ConfinedContract (core_of_contract a v c)
contract_confined c a v ensures others clean none =
    let all = each_clause a v ensures others c.clauses clean none in
    (formulas_at_confined a v _ c.clauses all, formulas_at_confined a v _ c.clauses all)

pub shared_confined : (name : Name) (c : Contract) (a : Environment) (v : Visible) (ensures others : Context)
    → Clean (rules.faults_of_clauses a v ensures others c.clauses) → faults_of_item_contract name.0 c ≡ []
    → ConfinedShared name (core_of_shared name a v c)
shared_confined name c a v ensures others clean none =
    let all = each_item_clause name a v ensures others c.clauses clean none in (
      (formulas_at_confined a v _ c.clauses all.0, formulas_at_confined a v _ c.clauses all.0),
      items_at_confined name a v _ c.clauses all.1,
      items_at_confined name a v _ c.clauses all.1,
    )

-- The laws of a statement

abbrev pub AllConfined : List Message → Type 0
AllConfined ms = AllByRecursion (λ m. ConfinedFormula m.formula) ms

-- the position of the innermost par block around, as the site has it and as the shapes have it
abbrev pub Placed : Option Name → shapes.Environment → Site → Type 0
Placed None environment site = Unit {0}
Placed (Some name) environment site = (environment.block ≡ Some name.0) × (site.position ≡ name)

-- where messages may stand the shapes have a loop
abbrev pub Looped : StatementContext → shapes.Environment → Type 0
Looped stand environment = is_loop stand.surround ≡ true → is_some environment.loop ≡ true

-- there the scope agrees with that at the head of the body
abbrev pub AtSite : Visible → StatementContext → Site → Type 0
AtSite v stand site = is_loop stand.surround ≡ true → Agree v site.head

-- what a statement without a fault becomes, the scope behind it, and the messages that it sends
pub record Done (v after : Visible) (environment : shapes.Environment) (faults_at : StatementContext → Faults)
    (statement_at : Site → Statement)
    (sent_at : Visible → List Message) : Type 0 where
  pub statement : (position : Option Name) (stand : StatementContext) (site : Site) → Clean (faults_at stand)
      → Looped stand environment
      → AtSite v stand site → Blocked v position → Placed position environment site → AllConfined site.messages
      → ConfinedStatement position (statement_at site)
  pub blocks : (position : Option Name) → Blocked v position → Blocked after position
  pub agree : (stand : StatementContext) (there : Visible) → Clean (faults_at stand) → Agree v there → Agree after there
  pub sent : (stand : StatementContext) (there : Visible) → Clean (faults_at stand) → stand.looped ≡ true
      → is_some environment.loop ≡ true
      → Agree v there → AllConfined (sent_at there)

abbrev pub KindLaw : ElaboratedStatementKind → (shapes.Environment → List ShapeFault) → Type 0
KindLaw k shape = (span : Span) (a : Environment) (v : Visible) (environment : shapes.Environment) → shape environment ≡ []
    → Done v (k.checked.behind v) environment (λ stand. k.checked.faults span a v stand) (λ site. k.statement span a v site)
    (λ there. k.sent a there)

abbrev pub StmtLaw : ElaboratedStatement → (shapes.Environment → List ShapeFault) → Type 0
StmtLaw s shape = (a : Environment) (v : Visible) (environment : shapes.Environment) → shape environment ≡ []
    → Done v (s.checked.behind v) environment (λ stand. s.checked.faults a v stand) (λ site. s.statement a v site)
    (λ there. s.sent a there)

abbrev pub Stmts : Type 0
Stmts = ShapedWith StmtLaw

abbrev LayerLaw : ShapedLayer KindLaw StmtLaw → Type 0
LayerLaw = ShapedHas KindLaw StmtLaw

-- a statement that sends nothing and declares nothing
silent : {v : Visible} {environment : shapes.Environment} {faults_at : StatementContext → Faults}
    {statement_at : Site → Statement}
    → ((position : Option Name) (stand : StatementContext) (site : Site) → Clean (faults_at stand) → Looped stand environment
    → AtSite v stand site
    → Blocked v position → Placed position environment site → AllConfined site.messages
    → ConfinedStatement position (statement_at site)) → Done v v environment faults_at statement_at (λ there. [])
silent h =
    record {
      statement = h;
      blocks = λ position blocked. blocked;
      agree = λ stand there clean agree. agree;
      sent = λ stand there clean looped loop agree. tt;
    }

pub still_placed : (position : Option Name) (environment inner : shapes.Environment) (site further : Site) → inner.block
    ≡ environment.block
    → further.position ≡ site.position → Placed position environment site → Placed position inner further
still_placed None environment inner site further same there h = tt
still_placed (Some name) environment inner site further same there h = (same ∙ h.0, there ∙ h.1)

block_law : (ss : List Stmts) (n : ℕ) (a : Environment) (v : Visible) (environment : shapes.Environment)
    → shapes_of ss environment ≡ []
    → (position : Option Name) (stand : StatementContext) (site : Site)
    → Clean (faults_of_statements (parts_in (elaborations ss)) a v stand)
    → Looped stand environment → AtSite v stand site → Blocked v position → Placed position environment site
    → AllConfined site.messages
    → ConfinedBlock position (block_from n (elaborations ss) a v site)
block_law [] n a v environment none position stand site clean looped here blocked placed told = tt
block_law (s ∷ ss) n a v environment none position stand site clean looped here blocked placed told =
    let h = s.1 a v environment (no_first (faults_of_stmt s.0 environment) (shapes_of ss environment) none) in (
      h.statement position stand (at n site) clean.0 looped here blocked
          (still_placed position environment environment site (at n site) refl refl placed) told,
      block_law ss (n + 1) a ((elaborated_statement s.0).checked.behind v) environment
          (no_second (faults_of_stmt s.0 environment) (shapes_of ss environment) none) position stand site clean.1 looped
          (λ loop. h.agree stand site.head clean.0 (here loop)) (h.blocks position blocked) placed told,
    )

-- Messages

messages_append : (ms ns : List Message) → AllConfined ms → AllConfined ns → AllConfined (ms ++ ns)
messages_append [] ns h k = k
messages_append (m ∷ ms) ns h k = (h.0, messages_append ms ns h.1 k)

sent_law : (ss : List Stmts) (a : Environment) (v there : Visible) (environment : shapes.Environment) (stand : StatementContext)
    → shapes_of ss environment ≡ []
    → Clean (faults_of_statements (parts_in (elaborations ss)) a v stand) → stand.looped ≡ true → is_some environment.loop ≡ true
    → Agree v there
    → AllConfined (sent_in (elaborations ss) a there)
sent_law [] a v there environment stand none clean looped loop agree = tt
sent_law (s ∷ ss) a v there environment stand none clean looped loop agree =
    let h = s.1 a v environment (no_first (faults_of_stmt s.0 environment) (shapes_of ss environment) none) in
    messages_append ((elaborated_statement s.0).sent a there) (sent_in (elaborations ss) a there)
    (h.sent stand there clean.0 looped loop agree)
    (sent_law ss a ((elaborated_statement s.0).checked.behind v) there environment stand
    (no_second (faults_of_stmt s.0 environment) (shapes_of ss environment) none) clean.1 looped loop
    (h.agree stand there clean.0 agree))

message_if : (b : Bool) (m n : Message) → ConfinedFormula m.formula → ConfinedFormula n.formula
    → ConfinedFormula (if b then m else n).formula
message_if true m n h k = h
message_if false m n h k = k

received_confined : (ms : List Message) (label : Name) → AllConfined ms → ConfinedFormula (message_of ms label).formula
received_confined [] label h = tt
received_confined (m ∷ ms) label h =
    message_if (same_name label m.label) m (message_of ms label) h.0 (received_confined ms label h.1)

items_of_message : (e : Expr) (a : Environment) (v : Visible) (c : Context) (loop : Option ℕ)
    → Clean (rules.faults_of_formula a v c e)
    → is_some loop ≡ true → faults_of_message loop e ≡ [] → ConfinedFormula (core_of_formula a v e)
items_of_message e a v c None clean is none = absurd cc
items_of_message e a v c (Some n) clean is none = (both_confined e (record { 0 = n }) a v c clean none).0

-- a message at the head of the body
message_confined : (e : Expr) (a : Environment) (v there : Visible) (loop : Option ℕ) → Agree v there
    → Clean (rules.faults_of_formula a v between_members e) → is_some loop ≡ true → faults_of_message loop e ≡ []
    → ConfinedFormula (core_of_formula a there e)
message_confined e a v there loop agree clean is none =
    items_of_message e a there between_members loop (at_head e a v there between_members
    (Exactly Truth) agree refl clean).1 is none

loop_from : (a b : Bool) → (not a || b) ≡ false → a ≡ true
loop_from true b h = refl
loop_from false b h = absurd cc

loop_place : (stand : StatementContext) (span : Span) → Clean (faults_of_message_place stand span) → is_loop stand.surround ≡ true
loop_place stand span clean =
    loop_from (is_loop stand.surround) stand.repeated (if_fails (not (is_loop stand.surround) || stand.repeated) rule.MessagePlace
    span clean)

-- Kinds

if_law : (e : Expr) (first second : List Stmts) → LayerLaw (StmtKind-F.If e first second)
if_law e first second = λ span a v environment none.
    let before : quantifiers_in e ++ shapes_of first environment ≡ [] =
    no_first (quantifiers_in e ++ shapes_of first environment) (shapes_of second environment) none in
    let one : shapes_of first environment ≡ [] = no_second (quantifiers_in e) (shapes_of first environment) before in
    let two : shapes_of second environment ≡ [] =
    no_second (quantifiers_in e ++ shapes_of first environment) (shapes_of second environment) none in
    record {
      statement = λ position stand site clean looped here blocked placed told. (
        block_law first 0 a v environment one position (in_branch stand) (at 0 site) clean.1.0 looped here blocked
            (still_placed position environment environment site (at 0 site) refl refl placed) told,
        block_law second 0 a v environment two position (in_branch stand) (at 1 site) clean.1.1 looped here blocked
            (still_placed position environment environment site (at 1 site) refl refl placed) told,
      );
      blocks = λ position blocked. blocked;
      agree = λ stand there clean agree. agree;
      sent = λ stand there clean looped loop agree.
          messages_append (sent_in (elaborations first) a there) (sent_in (elaborations second) a there)
          (sent_law first a v there environment (in_branch stand) one clean.1.0 looped loop agree)
          (sent_law second a v there environment (in_branch stand) two clean.1.1 looped loop agree);
    }

while_law : (es : List Expr) (e : Expr) (body : List Stmts) → LayerLaw (StmtKind-F.While es e body)
while_law es e body = λ span a v environment none.
    let before : List ShapeFault = faults_of_formulas es ++ quantifiers_in e in
    let within : shapes_of body environment ≡ [] = no_second before (shapes_of body environment) none in
    record {
      statement = λ position stand site clean looped here blocked placed told. (
        formulas_confined es a v (in_invariant stand) clean.0
            (no_first (faults_of_formulas es) (quantifiers_in e) (no_first before (shapes_of body environment) none)),
        block_law body 0 a v environment within position (in_while stand) (at 0 site) clean.1.1 looped here blocked
            (still_placed position environment environment site (at 0 site) refl refl placed) told,
      );
      blocks = λ position blocked. blocked;
      agree = λ stand there clean agree. agree;
      sent =
          λ stand there clean looped loop agree.
          sent_law body a v there environment (in_while stand) within clean.1.1 looped loop agree;
    }

looped_for : (b : Bool) → (b || true) ≡ true
looped_for true = refl
looped_for false = refl

for_law : (range : Range) (c : Contract) (body : List Stmts) → LayerLaw (StmtKind-F.For range c body)
for_law range c body = λ span a v environment none.
    let inner : shapes.Environment = record environment { loop = Some range.name.name.0 } in
    let further : List ShapeFault = shapes_of body inner in
    let contract : List ShapeFault = faults_of_item_contract range.name.name.0 c in
    let before : quantifiers_in_range range ++ contract ≡ [] = no_first (quantifiers_in_range range ++ contract) further none in
    let within : further ≡ [] = no_second (quantifiers_in_range range ++ contract) further none in
    let inside : Visible = inside_for v range in
    silent (λ position stand site clean looped here blocked placed told.
    let agree : Agree inside inside =
    agree_head v LoopVariable range.name.name Int refl
    (if_fails (is_visible (entered v) range.name.name) rule.Shadows range.name.span clean.1.1.0) in
    let members : StatementContext = among_members surround.Loop stand in (
      shared_confined range.name.name c a inside in_condition in_condition clean.1.1.1.0.0
          (no_second (quantifiers_in_range range) contract before),
      block_law body 0 a inside inner within position members (in_for a inside (elaborations body) (at 0 site)) clean.1.1.1.0.1
          (λ loop. refl) (λ loop. agree) (blocked_with position (entered v) LoopVariable range.name.name Int refl blocked)
          (still_placed position environment inner site (in_for a inside (elaborations body) (at 0 site)) refl refl placed)
          (sent_law body a inside inside inner members within clean.1.1.1.0.1 (looped_for stand.looped) refl agree),
    ))

par_law : (o : Option Word) (range : Range) (c : Contract) (body : List Stmts) → LayerLaw (StmtKind-F.Par o range c body)
par_law o range c body = λ span a v environment none.
    let inner : shapes.Environment = record environment { block = Some range.name.name.0 } in
    let further : List ShapeFault = shapes_of body inner in
    let contract : List ShapeFault = faults_of_item_contract range.name.name.0 c in
    let before : quantifiers_in_range range ++ contract ≡ [] = no_first (quantifiers_in_range range ++ contract) further none in
    let within : further ≡ [] = no_second (quantifiers_in_range range ++ contract) further none in
    let inside : Visible = inside_par v o range in
    record {
      statement = λ position stand site clean looped here blocked placed told. (
        shared_confined range.name.name c a inside in_condition in_condition clean.1.1.1.1.0
            (no_second (quantifiers_in_range range) contract before),
        block_law body 0 a inside inner within (Some range.name.name) (among_members surround.Block stand)
            (in_par range (at 0 site)) clean.1.1.1.1.1 (λ loop. no_loop loop) (λ loop. no_loop loop) (λ n is. refl)
            (refl, refl) told,
      );
      blocks = λ position blocked. blocked;
      agree = λ stand there clean agree. agree;
      sent =
          λ stand there clean looped loop agree. absurd (both_ways stand.looped
          (if_fails stand.looped rule.BodyForm span clean.0) looped);
    }
  where
    no_loop : {A : Type 0} → false ≡ true → A
    no_loop h = absurd cc

barrier_law : (position : Option Name) (c : Contract) (a : Environment) (v : Visible) (environment : shapes.Environment)
    (site : Site)
    → Clean (rules.faults_of_clauses a v between_members between_members c.clauses) → shapes.faults_of_barrier environment.block c
    ≡ []
    → is_some position ≡ true → Placed position environment site
    → ConfinedBarrier position (core_of_shared site.position a v c)
barrier_law None c a v environment site clean none is placed = absurd cc
barrier_law (Some name) c a v environment site clean none is placed =
    subst (λ (n : Name). ConfinedShared name (core_of_shared n a v c)) (sym placed.1)
    (shared_confined name c a v between_members between_members clean
    (subst (λ (o : Option ℕ). shapes.faults_of_barrier o c ≡ []) placed.0 none))

-- The induction

layer_law : ShapedLayerStep KindLaw StmtLaw
layer_law (StmtKind-F.Local type w value) = λ span a v environment none. record {
  statement = λ position stand site clean looped here blocked placed told. tt;
  blocks = λ position blocked. blocked_with position v Local w.name type.kind refl blocked;
  agree =
      λ stand there clean agree. agree_local v there w.name type.kind
      (if_fails (is_visible v w.name) rule.Shadows w.span clean.1.0) agree;
  sent = λ stand there clean looped loop agree. tt;
}
layer_law (StmtKind-F.If e first second) = if_law e first second
layer_law (StmtKind-F.While es e body) = while_law es e body
layer_law (StmtKind-F.For range c body) = for_law range c body
layer_law (StmtKind-F.Par o range c body) = par_law o range c body
layer_law (StmtKind-F.Barrier w c) =
    λ span a v environment none. silent (λ position stand site clean looped here blocked placed told.
    barrier_law position c a v environment site clean.1 none
    (blocked w.name (unless_holds (is_block_around v w.name) rule.UnknownName w.span clean.0.0)) placed)
layer_law (StmtKind-F.Assert e) =
    λ span a v environment none. silent (λ position stand site clean looped here blocked placed told. formula_confined e a v
    (in_invariant stand) clean none)
layer_law (StmtKind-F.Send w n e) = λ span a v environment none. record {
  statement =
      λ position stand site clean looped here blocked placed told. let loop =
      loop_place stand span clean.0 in message_confined e a v site.head environment.loop (here loop) clean.1.1 (looped loop) none;
  blocks = λ position blocked. blocked;
  agree = λ stand there clean agree. agree;
  sent = λ stand there clean looped loop agree. (message_confined e a v there environment.loop agree clean.1.1 loop none, tt);
}
layer_law (StmtKind-F.Recv w) =
    λ span a v environment none. silent (λ position stand site clean looped here blocked placed told.
    received_confined site.messages w.name told)
layer_law _ = λ span a v environment none. silent (λ position stand site clean looped here blocked placed told. tt)

-- each statement without a fault becomes one in which positions stand only where they are read
pub statement_law : (s : Stmt) → StmtLaw (elaborated_statement s) (faults_of_stmt s)
statement_law =
    shaped_induction KindLaw StmtLaw layer_law (λ span k shape law a v environment none. law span a v environment none)
