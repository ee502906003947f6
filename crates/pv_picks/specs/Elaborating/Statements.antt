-- Statements as the meaning reads them: one step a node, over what the statements inside gave.
use Rattle.std.specs.Prelude.{ℕ, ◌+◌, Bool, true, false, not, ◌||◌, Option, Some, None, option_map, List, [], ◌∷◌, ◌++◌, map, filter, filter_map, flat_map, if◌then◌else◌}
use Rattle.std.specs.List.{list_any}
use Rattle.pv_base.specs.declared.Name.{Name}
use Rattle.pv_base.specs.declared.Span.{Span}
use Rattle.pv_ast.specs.declared.Word.{Word}
use Rattle.pv_ast.specs.declared.PvType.{PvType}
use Rattle.pv_ast.specs.declared.Expr.{Expr}
use Rattle.pv_ast.specs.declared.ExprKind.{ExprKind}
use Rattle.pv_ast.specs.declared.ExprKind.TheVariants as kind
use Rattle.pv_ast.specs.declared.Clause.{Clause}
use Rattle.pv_ast.specs.declared.ClauseKind.{ClauseKind}
use Rattle.pv_ast.specs.declared.ClauseKind.TheVariants.{Requires, Ensures, Context}
use Rattle.pv_ast.specs.declared.Contract.{Contract}
use Rattle.pv_ast.specs.declared.Range.{Range}
use Rattle.pv_ast.specs.declared.Right.{Right}
use Rattle.pv_ast.specs.declared.RightKind.{RightKind}
use Rattle.pv_ast.specs.declared.RightKind.TheVariants as right
use Rattle.pv_ast.specs.declared.Stmt.{Stmt, Stmt-F, fold-Stmt}
use Rattle.pv_ast.specs.declared.StmtKind.{StmtKind, StmtKind-F, fold-StmtKind, map-StmtKind}
use Rattle.pv_base.specs.Names.{same_name}
use Rattle.pv_ast.specs.Rules.Scoping.{Visible, entered}
use Rattle.pv_ast.specs.Rules.Expressions.{Environment}
use Rattle.pv_ast.specs.Rules.Statements.{CheckedStatement, CheckedStatementKind, checked_in_statement_kind, checked_in_statement, with_loop_variable, with_block}
use Rattle.pv_picks.specs.Plain.Core.{Expression, Formula, Items, Target, Message, Parameter, Statement, Block}
use Rattle.pv_picks.specs.Plain.Core as core
use Rattle.pv_picks.specs.Formulas.Values.{default_of}
use Rattle.pv_picks.specs.Machine.Starts.{true_formula}
use Rattle.pv_picks.specs.Elaborating.Operations.{no_formula, no_span, target_of}
use Rattle.pv_picks.specs.Elaborating.Names.{no_name, variable_in}
use Rattle.pv_picks.specs.Elaborating.Expressions.{ElaboratedExpression, elaborated_expression, core_of_expression, core_of_formula, core_of_items, has_old, object_of, class_of_object, arguments_of, together, class_of_elaborated}

-- Contracts

-- formulas one behind the other; none of them is true
abbrev pub joined : List Formula → Formula
joined [] = true_formula
joined (f ∷ []) = f
joined (f ∷ g ∷ fs) = core.Star f (joined (g ∷ fs))

abbrev pub joined_items : List Items → Items
joined_items [] = core.NoItems
joined_items (is ∷ rest) = together is (joined_items rest)

-- a `context` clause stands before and after
abbrev pub stands_before : ClauseKind → Bool
stands_before Requires = true
stands_before Ensures = false
stands_before Context = true

abbrev pub stands_after : ClauseKind → Bool
stands_after Requires = false
stands_after Ensures = true
stands_after Context = true

-- the formulas of the clauses that stand there, in order
abbrev pub formulas_at : (ClauseKind → Bool) → List Clause → List Expr
formulas_at stands clauses = map (λ clause. clause.formula) (filter (λ clause. stands clause.kind) clauses)

abbrev pub core_of_formulas : Environment → Visible → List Expr → Formula
core_of_formulas a v es = joined (map (core_of_formula a v) es)

abbrev pub core_of_all_items : Name → Environment → Visible → List Expr → Items
core_of_all_items name a v es = joined_items (map (core_of_items name a v) es)

-- what a contract becomes: that of a method, or of one position
abbrev pub core_of_contract : Environment → Visible → Contract → core.Contract
core_of_contract a v c = record {
  before = core_of_formulas a v (formulas_at stands_before c.clauses);
  after = core_of_formulas a v (formulas_at stands_after c.clauses);
}

-- what a contract becomes that members keep: for one position, and item by item for all that the name stands for
abbrev pub core_of_shared : Name → Environment → Visible → Contract → core.Shared
core_of_shared name a v c = record {
  one = core_of_contract a v c;
  each_before = core_of_all_items name a v (formulas_at stands_before c.clauses);
  each_after = core_of_all_items name a v (formulas_at stands_after c.clauses);
}

abbrev pub contract_has_old : Contract → Bool
contract_has_old c = list_any (λ clause. has_old clause.formula) c.clauses

-- Right sides and operands

abbrev pub all_elaborated : List Expr → List ElaboratedExpression
all_elaborated es = map elaborated_expression es

-- a call of a method on an object, or on `this`
abbrev pub core_of_call : Environment → Visible → Option Expr → Word → List Expr → core.Right
core_of_call a v target w args =
    let object : Option ElaboratedExpression = option_map elaborated_expression target in
    core.Call (class_of_object object a v) w.name (object_of object a v) (arguments_of (all_elaborated args) a v)

abbrev pub core_of_right_kind : Environment → Visible → RightKind → core.Right
core_of_right_kind a v (right.Value e) = core.Value' (core_of_expression a v e)
core_of_right_kind a v (right.Call target w args) = core_of_call a v target w args
core_of_right_kind a v (right.NewObject w) = core.NewObject w.name
core_of_right_kind a v (right.NewArray type e) = core.NewArray type.kind (core_of_expression a v e)

abbrev pub core_of_right : Environment → Visible → Right → core.Right
core_of_right a v r = core_of_right_kind a v r.kind

-- the first value of a local
abbrev pub first_value : Environment → Visible → PvType → Option Right → core.Right
first_value a v type None = core.Value' (core.Constant (default_of type))
first_value a v type (Some r) = core_of_right a v r

abbrev pub core_of_target : Environment → Visible → Expr → Target
core_of_target a v e = target_of (core_of_expression a v e)

abbrev pub core_of_action : core.Action → Span → Environment → Visible → Expr → Statement
core_of_action action span a v e = core.Act action (class_of_elaborated (elaborated_expression e) a v) (core_of_expression a v e)
    span

-- Names that are assigned

abbrev pub name_of_kind : ExprKind → List Name
name_of_kind (kind.Var w) = w.name ∷ []
name_of_kind _ = []

-- each name once, where it stands first
abbrev pub once : List Name → List Name
once [] = []
once (name ∷ names) = name ∷ filter (λ other. not (same_name name other)) (once names)

-- the variables in scope among the names, each once
abbrev pub variables_among : Visible → List Name → List Parameter
variables_among v names = filter_map (variable_in v) (once names)

-- Messages

-- the first message of a label
abbrev pub message_of : List Message → Name → Message
message_of [] label = record { label = label; distance = 0; formula = no_formula no_span }
message_of (m ∷ ms) label = if same_name label m.label then m else message_of ms label

-- Statements

-- where a statement stands: the loop variable of the innermost par block; the names in scope at the head of the innermost counted
-- loop's body, and the messages that are sent in it; and the way through its method: the index of a statement in its block, then
-- which block of that statement, and so on
pub record Site : Type 0 where
  pub position : Name
  pub head : Visible
  pub messages : List Message
  pub way : List ℕ

-- further on the way
abbrev pub at : ℕ → Site → Site
at n site = record site { way = site.way ++ n ∷ [] }

-- What a statement gives: what the static rules say of it; the names that it assigns, in order; whether `\old` stands in it; the
-- messages that it sends, where these names are in scope; and what it becomes where it stands.
pub record ElaboratedStatement : Type 0 where
  pub checked : CheckedStatement
  pub assigned : List Name
  pub old : Bool
  pub sent : Environment → Visible → List Message
  pub statement : Environment → Visible → Site → Statement

-- the same of its kind, to which its span is told
pub record ElaboratedStatementKind : Type 0 where
  pub checked : CheckedStatementKind
  pub assigned : List Name
  pub old : Bool
  pub sent : Environment → Visible → List Message
  pub statement : Span → Environment → Visible → Site → Statement

abbrev pub StmtLayer : Type 0
StmtLayer = StmtKind-F ElaboratedStatementKind ElaboratedStatement

-- statements one behind the other, the first of this index
abbrev pub block_from : ℕ → List ElaboratedStatement → Environment → Visible → Site → Block
block_from n [] a v site = core.Stop
block_from n (s ∷ ss) a v site = core.Then (s.statement a v (at n site)) (block_from (n + 1) ss a (s.checked.behind v) site)

abbrev pub block_of : List ElaboratedStatement → Environment → Visible → Site → Block
block_of = block_from 0

abbrev pub assigned_in : List ElaboratedStatement → List Name
assigned_in ss = flat_map (λ s. s.assigned) ss

abbrev pub sent_in : List ElaboratedStatement → Environment → Visible → List Message
sent_in ss a v = flat_map (λ s. s.sent a v) ss

abbrev pub old_in : List ElaboratedStatement → Bool
old_in ss = list_any (λ s. s.old) ss

abbrev pub assigned_in_kind : StmtLayer → List Name
assigned_in_kind (StmtKind-F.Assign place value) = name_of_kind place.kind
assigned_in_kind (StmtKind-F.If condition first second) = assigned_in first ++ assigned_in second
assigned_in_kind (StmtKind-F.While invariants condition body) = assigned_in body
assigned_in_kind (StmtKind-F.For range contract body) = assigned_in body
assigned_in_kind (StmtKind-F.Par label range contract body) = assigned_in body
assigned_in_kind _ = []

-- `\old` stands in formulas alone
abbrev pub old_in_stmt_kind : StmtLayer → Bool
old_in_stmt_kind (StmtKind-F.If condition first second) = old_in first || old_in second
old_in_stmt_kind (StmtKind-F.While invariants condition body) = list_any has_old invariants || old_in body
old_in_stmt_kind (StmtKind-F.For range contract body) = contract_has_old contract || old_in body
old_in_stmt_kind (StmtKind-F.Par label range contract body) = contract_has_old contract || old_in body
old_in_stmt_kind (StmtKind-F.Barrier label contract) = contract_has_old contract
old_in_stmt_kind (StmtKind-F.Assert formula) = has_old formula
old_in_stmt_kind (StmtKind-F.Send label distance formula) = has_old formula
old_in_stmt_kind _ = false

abbrev pub core_of_message : Environment → Visible → Word → ℕ → Expr → Message
core_of_message a v label distance formula =
    record { label = label.name; distance = distance; formula = core_of_formula a v formula }

-- a counted loop inside has messages of its own
abbrev pub sent_in_kind : StmtLayer → Environment → Visible → List Message
sent_in_kind (StmtKind-F.If condition first second) a v = sent_in first a v ++ sent_in second a v
sent_in_kind (StmtKind-F.While invariants condition body) a v = sent_in body a v
sent_in_kind (StmtKind-F.Par label range contract body) a v = sent_in body a v
sent_in_kind (StmtKind-F.Send label distance formula) a v = core_of_message a v label distance formula ∷ []
sent_in_kind _ a v = []

-- the members of a par block or counted loop: the bounds in the scope outside, the contract in that inside
abbrev pub core_of_team : Bool → Range → Contract → Environment → Visible → Visible → core.Team
core_of_team counted range contract a v inside = record {
  counted = counted;
  variable = range.name.name;
  low = core_of_expression a v range.low;
  high = core_of_expression a v range.high;
  shared = core_of_shared range.name.name a inside contract;
}

abbrev pub inside_for : Visible → Range → Visible
inside_for v range = with_loop_variable (entered v) range.name

abbrev pub inside_par : Visible → Option Word → Range → Visible
inside_par v label range = with_loop_variable (with_block (entered v) label) range.name

-- in the body of a counted loop, and of a par block
abbrev pub in_for : Environment → Visible → List ElaboratedStatement → Site → Site
in_for a inside body site = record site { head = inside; messages = sent_in body a inside }

abbrev pub in_par : Range → Site → Site
in_par range site = record site { position = range.name.name }

abbrev pub statement_in_kind : StmtLayer → Span → Environment → Visible → Site → Statement
statement_in_kind (StmtKind-F.Local type w value) span a v site =
    core.Assign (core.ToVariable w.name) (first_value a v type.kind value) span
statement_in_kind (StmtKind-F.Assign place value) span a v site =
    core.Assign (core_of_target a v place) (core_of_right a v value) span
statement_in_kind (StmtKind-F.Call target w args) span a v site = core.Assign core.Nowhere (core_of_call a v target w args) span
statement_in_kind (StmtKind-F.If condition first second) span a v site =
    core.If (core_of_expression a v condition) (block_of first a v (at 0 site)) (block_of second a v (at 1 site))
statement_in_kind (StmtKind-F.While invariants condition body) span a v site =
    core.While (variables_among v (assigned_in body)) (core_of_formulas a v invariants) (core_of_expression a v condition)
    (block_of body a v (at 0 site)) span
statement_in_kind (StmtKind-F.For range contract body) span a v site =
    let inside : Visible = inside_for v range in
    core.Members (core_of_team true range contract a v inside) (block_of body a inside (in_for a inside body (at 0 site))) span
statement_in_kind (StmtKind-F.Par label range contract body) span a v site =
    let inside : Visible = inside_par v label range in
    core.Members (core_of_team false range contract a v inside) (block_of body a inside (in_par range (at 0 site))) span
statement_in_kind (StmtKind-F.Barrier label contract) span a v site =
    core.Meet (record { place = site.way; shared = core_of_shared site.position a v contract }) span
statement_in_kind (StmtKind-F.Fork e) span a v site = core_of_action core.Fork span a v e
statement_in_kind (StmtKind-F.Join e) span a v site = core_of_action core.Join' span a v e
statement_in_kind (StmtKind-F.Lock e) span a v site = core_of_action core.Lock span a v e
statement_in_kind (StmtKind-F.Unlock e) span a v site = core_of_action core.Unlock span a v e
statement_in_kind (StmtKind-F.Commit e) span a v site = core_of_action core.Commit span a v e
statement_in_kind (StmtKind-F.Fold target w args) span a v site =
    let object : Option ElaboratedExpression = option_map elaborated_expression target in
    core.Fold (class_of_object object a v) w.name (object_of object a v) (arguments_of (all_elaborated args) a v) span
statement_in_kind (StmtKind-F.Unfold target w args) span a v site =
    let object : Option ElaboratedExpression = option_map elaborated_expression target in
    core.Unfold (class_of_object object a v) w.name (object_of object a v) (arguments_of (all_elaborated args) a v) span
statement_in_kind (StmtKind-F.Assert formula) span a v site = core.Assert (core_of_formula a v formula) span
statement_in_kind (StmtKind-F.Send label distance formula) span a v site =
    core.Send (core_of_message a site.head label distance formula) span
statement_in_kind (StmtKind-F.Recv label) span a v site = core.Receive (message_of site.messages label.name) span
statement_in_kind (StmtKind-F.Return value) span a v site = core.Return (option_map (core_of_expression a v) value) span

abbrev pub stmt_parts_in : StmtLayer → StmtKind-F CheckedStatementKind CheckedStatement
stmt_parts_in = map-StmtKind ElaboratedStatementKind ElaboratedStatement CheckedStatementKind CheckedStatement (λ k. k.checked)
    (λ s. s.checked)

abbrev pub elaborated_in_statement_kind : StmtLayer → ElaboratedStatementKind
elaborated_in_statement_kind k = record {
  checked = checked_in_statement_kind (stmt_parts_in k);
  assigned = assigned_in_kind k;
  old = old_in_stmt_kind k;
  sent = sent_in_kind k;
  statement = statement_in_kind k;
}

abbrev pub elaborated_in_statement : Stmt-F ElaboratedStatementKind ElaboratedStatement → ElaboratedStatement
elaborated_in_statement s = record {
  checked = checked_in_statement (record { span = s.span; kind = s.kind.checked });
  assigned = s.kind.assigned;
  old = s.kind.old;
  sent = s.kind.sent;
  statement = s.kind.statement s.span;
}

unfoldable pub elaborated_statement : Stmt → ElaboratedStatement
elaborated_statement = fold-Stmt ElaboratedStatementKind ElaboratedStatement elaborated_in_statement_kind elaborated_in_statement

unfoldable pub elaborated_statement_kind : StmtKind → ElaboratedStatementKind
elaborated_statement_kind = fold-StmtKind ElaboratedStatementKind ElaboratedStatement elaborated_in_statement_kind
    elaborated_in_statement

-- what a statement becomes where it stands
abbrev pub core_of_statement : Environment → Visible → Site → Stmt → Statement
core_of_statement a v site s = (elaborated_statement s).statement a v site

-- the site of a body of a method or of `run`
abbrev pub outermost : Visible → Site
outermost v = record { position = no_name; head = v; messages = []; way = [] }

-- what a method's body becomes
abbrev pub core_of_body : Environment → Visible → List Stmt → Block
core_of_body a v body = block_of (map elaborated_statement body) a v (outermost v)
