-- What the rules say of a statement: its faults where it stands, and the names in scope behind it.
use Rattle.std.specs.Prelude.{Bool, true, false, not, ◌&&◌, ◌||◌, nat_eq, Option, Some, None, is_some, List, [], ◌∷◌, ◌++◌, map, if◌then◌else◌}
use Rattle.std.specs.List.{list_any}
use Rattle.pv_base.specs.declared.Name.{Name}
use Rattle.pv_base.specs.declared.Span.{Span}
use Rattle.pv_ast.specs.declared.Word.{Word}
use Rattle.pv_ast.specs.declared.TypeWord.{TypeWord}
use Rattle.pv_ast.specs.declared.PvType.{PvType}
use Rattle.pv_ast.specs.declared.PvType.TheVariants.{Int, Truth, Object, IntArray, TruthArray, Null}
use Rattle.pv_ast.specs.declared.Expr.{Expr}
use Rattle.pv_ast.specs.declared.ExprKind.{ExprKind}
use Rattle.pv_ast.specs.declared.ExprKind.TheVariants as kind
use Rattle.pv_ast.specs.declared.Clause.{Clause}
use Rattle.pv_ast.specs.declared.ClauseKind.{ClauseKind}
use Rattle.pv_ast.specs.declared.ClauseKind.TheVariants.{Requires, Ensures, Context as ContextClause}
use Rattle.pv_ast.specs.declared.Contract.{Contract}
use Rattle.pv_ast.specs.declared.Range.{Range}
use Rattle.pv_ast.specs.declared.Right.{Right}
use Rattle.pv_ast.specs.declared.RightKind.{RightKind}
use Rattle.pv_ast.specs.declared.RightKind.TheVariants as right
use Rattle.pv_ast.specs.declared.Stmt.{Stmt, Stmt-F, fold-Stmt}
use Rattle.pv_ast.specs.declared.StmtKind.{StmtKind, StmtKind-F, fold-StmtKind}
use Rattle.pv_ast.specs.declared.Method.{Method}
use Rattle.pv_ast.specs.declared.Class.{Class}
use Rattle.pv_ast.specs.declared.fault.Rule.{Rule}
use Rattle.pv_ast.specs.declared.fault.Rule.TheVariants as rule
use Rattle.pv_ast.specs.declared.scope.Declaration.TheVariants.{Local, LoopVariable, Block}
use Rattle.pv_ast.specs.declared.standing.Context.{Context}
use Rattle.pv_ast.specs.declared.standing.Need.{Need}
use Rattle.pv_ast.specs.declared.standing.Need.TheVariants.{Anything, Exactly, AnObject}
use Rattle.pv_ast.specs.declared.standing.StatementContext.{StatementContext}
use Rattle.pv_ast.specs.declared.standing.Surround.{Surround}
use Rattle.pv_ast.specs.declared.standing.Surround.TheVariants as environment
use Rattle.pv_ast.specs.declared.standing.Typing.{Typing}
use Rattle.pv_ast.specs.declared.standing.Typing.TheVariants.{Unsettled, Untyped, Typed}
use Rattle.pv_ast.specs.Rules.Faults.{Faults, none, both, broken_if, broken_unless}
use Rattle.pv_ast.specs.Rules.Lookup.{class_named, has_run, has_lock_invariant, is_declared_type}
use Rattle.pv_base.specs.Names.{same_name}
use Rattle.pv_ast.specs.Rules.Scoping.{Visible, declare_variable, entered, is_visible, is_inner_local, is_block_around, is_innermost_block}
use Rattle.pv_ast.specs.Rules.Typing as typing
use Rattle.pv_ast.specs.Rules.Expressions.{Environment, CheckedExpression, checked_expression, typing_in, args_meet, types_of, method_in, holder_of, seen_of_target, faults_of_call, faults_of_instance, lacks_role}

-- Where statements and their formulas stand

abbrev pub is_body : Surround → Bool
is_body environment.Body = true
is_body environment.Block = false
is_body environment.Loop = false

abbrev pub is_loop : Surround → Bool
is_loop environment.Body = false
is_loop environment.Block = false
is_loop environment.Loop = true

-- in a branch
abbrev pub in_branch : StatementContext → StatementContext
in_branch stand = record stand { last = false }

abbrev pub in_while : StatementContext → StatementContext
in_while stand = record stand { repeated = true; last = false }

-- in a par block or a counted loop
abbrev pub among_members : Surround → StatementContext → StatementContext
among_members surround stand = record {
  method = stand.method;
  surround = surround;
  looped = stand.looped || is_loop surround;
  repeated = false;
  last = false;
}

abbrev pub in_statement : Context
in_statement = record { pure = true; result = false; old = false; locals = true }

-- a formula without `\result` and `\old`
abbrev pub in_condition : Context
in_condition = record { pure = false; result = false; old = false; locals = true }

-- an invariant or an assert: only a method's own body can speak of the state that the method began in
abbrev pub in_invariant : StatementContext → Context
in_invariant stand = record { pure = false; result = false; old = stand.method && is_body stand.surround; locals = true }

-- a message, or a barrier's contract: it speaks of other members too, which don't have the locals of this one
abbrev pub between_members : Context
between_members = record { pure = false; result = false; old = false; locals = false }

abbrev pub faults_of_expression : Environment → Visible → Need → Expr → Faults
faults_of_expression a v need e = (checked_expression e).faults a v in_statement need

abbrev pub faults_of_formula : Environment → Visible → Context → Expr → Faults
faults_of_formula a v c e = (checked_expression e).faults a v c (Exactly Truth)

abbrev pub faults_of_formulas : Environment → Visible → Context → List Expr → Faults
faults_of_formulas a v c [] = none
faults_of_formulas a v c (e ∷ es) = both (faults_of_formula a v c e) (faults_of_formulas a v c es)

-- Contracts

abbrev pub is_ensures : ClauseKind → Bool
is_ensures Requires = false
is_ensures Ensures = true
is_ensures ContextClause = false

-- a clause, where an `ensures` stands in the first context and each other clause in the second
abbrev pub faults_of_clause : Environment → Visible → Context → Context → Clause → Faults
faults_of_clause a v ensures others clause = faults_of_formula a v (if is_ensures clause.kind then ensures else others)
    clause.formula

abbrev pub faults_of_clauses : Environment → Visible → Context → Context → List Clause → Faults
faults_of_clauses a v ensures others [] = none
faults_of_clauses a v ensures others (clause ∷ clauses) =
    both (faults_of_clause a v ensures others clause) (faults_of_clauses a v ensures others clauses)

-- Types that are written, and right sides

abbrev pub faults_of_type : Environment → TypeWord → Faults
faults_of_type a type = broken_unless (is_declared_type a.program.classes type.kind) rule.UnknownName type.span

abbrev pub option_type : Option TypeWord → Option PvType
option_type None = None
option_type (Some type) = Some type.kind

abbrev pub typing_of_array : PvType → Typing
typing_of_array Int = Typed IntArray
typing_of_array Truth = Typed TruthArray
typing_of_array (Object class) = Untyped
typing_of_array IntArray = Untyped
typing_of_array TruthArray = Untyped
typing_of_array Null = Untyped

abbrev pub parts_of : List Expr → List CheckedExpression
parts_of es = map checked_expression es

abbrev pub checked_option : Option Expr → Option CheckedExpression
checked_option None = None
checked_option (Some e) = Some (checked_expression e)

-- a call has the type of its method's result, and none where there is no result
abbrev pub typing_of_call : Environment → Visible → List CheckedExpression → Option Method → Typing
typing_of_call a v args None = Unsettled
typing_of_call a v args (Some m) =
    if args_meet args (types_of m.params) a v then typing.typing_or Untyped (option_type m.result) else Unsettled

abbrev pub called_method : Environment → Visible → Option CheckedExpression → Name → Option Method
called_method a v target name = method_in (holder_of a (seen_of_target a v target)) name

abbrev pub is_class : Environment → Name → Bool
is_class a name = is_some (class_named a.program.classes name)

abbrev pub typing_of_right_kind : Environment → Visible → RightKind → Typing
typing_of_right_kind a v (right.Value e) = typing_in (checked_expression e) a v
typing_of_right_kind a v (right.Call target w args) =
    typing_of_call a v (parts_of args) (called_method a v (checked_option target) w.name)
typing_of_right_kind a v (right.NewObject w) = typing.typed_if (is_class a w.name) (Object w.name)
typing_of_right_kind a v (right.NewArray type e) =
    if typing.meets (Exactly Int) (typing_in (checked_expression e) a v) then typing_of_array type.kind else Unsettled

-- a right side, of which a type is needed
abbrev pub faults_of_right_kind : Environment → Visible → Need → Span → RightKind → Faults
faults_of_right_kind a v need span (right.Value e) = faults_of_expression a v need e
faults_of_right_kind a v need span (right.Call target w args) =
    both (faults_of_call (checked_option target) w (parts_of args) a v in_statement)
    (typing.wrong_type need (typing_of_right_kind a v (right.Call target w args)) span)
faults_of_right_kind a v need span (right.NewObject w) =
    both (broken_unless (is_class a w.name) rule.UnknownName w.span)
    (typing.wrong_type need (typing_of_right_kind a v (right.NewObject w)) span)
faults_of_right_kind a v need span (right.NewArray type e) =
    both (faults_of_expression a v (Exactly Int) e)
    (typing.wrong_type need (typing_of_right_kind a v (right.NewArray type e)) span)

abbrev pub faults_of_right : Environment → Visible → Need → Right → Faults
faults_of_right a v need r = faults_of_right_kind a v need r.span r.kind

abbrev pub faults_of_first_value : Environment → Visible → Need → Option Right → Faults
faults_of_first_value a v need None = none
faults_of_first_value a v need (Some r) = faults_of_right a v need r

-- a call or a `new`
abbrev pub is_made : RightKind → Bool
is_made (right.Value e) = false
is_made (right.Call target w args) = true
is_made (right.NewObject w) = true
is_made (right.NewArray type e) = true

abbrev pub is_made_first : Option Right → Bool
is_made_first None = false
is_made_first (Some r) = is_made r.kind

-- the value of an assignment needs the type of its left side
abbrev pub need_like : Typing → Need
need_like Unsettled = Anything
need_like Untyped = Anything
need_like (Typed type) = Exactly type

abbrev pub need_of_result : Option PvType → Need
need_of_result None = Anything
need_of_result (Some type) = Exactly type

abbrev pub is_inner_local_kind : Visible → ExprKind → Bool
is_inner_local_kind v (kind.Var w) = is_inner_local v w.name
is_inner_local_kind v _ = false

-- a field, an element, or a local that is declared in the same body
abbrev pub is_assignable : Environment → Visible → Expr → Bool
is_assignable a v e = ((checked_expression e).seen a v).location || is_inner_local_kind v e.kind

-- Messages

-- the labels of a counted loop's messages, those of `send` and those of `recv`
pub record Messages : Type 0 where
  pub sent : List Word
  pub received : List Word

abbrev pub no_messages : Messages
no_messages = record { sent = []; received = [] }

abbrev pub has_label : List Word → Name → Bool
has_label words name = list_any (λ w. same_name name w.name) words

-- each word that has the name of an earlier one
abbrev pub repeated_behind : Rule → List Word → List Word → Faults
repeated_behind r before [] = none
repeated_behind r before (w ∷ ws) = both (broken_if (has_label before w.name) r w.span) (repeated_behind r (w ∷ before) ws)

abbrev pub repeated : Rule → List Word → Faults
repeated r words = repeated_behind r [] words

-- each word that isn't among the labels
abbrev pub unknown_labels : List Word → List Word → Faults
unknown_labels labels [] = none
unknown_labels labels (w ∷ ws) = both (broken_unless (has_label labels w.name) rule.UnknownName w.span) (unknown_labels labels ws)

-- A label is sent once and received once in a loop, and what is received is sent there.
abbrev pub faults_of_messages : Messages → Faults
faults_of_messages m =
    both (repeated rule.MessageRule m.sent) (both (repeated rule.MessageRule m.received) (unknown_labels m.sent m.received))

-- Statements

-- what the rules say of a statement: its faults where it stands, the names in scope behind it, and the messages up to and with
-- its
-- own, which count for the counted loop around it
pub record CheckedStatement : Type 0 where
  pub faults : Environment → Visible → StatementContext → Faults
  pub behind : Visible → Visible
  pub messages : Messages → Messages

-- the same of its kind
pub record CheckedStatementKind : Type 0 where
  pub faults : Span → Environment → Visible → StatementContext → Faults
  pub behind : Visible → Visible
  pub messages : Messages → Messages

-- statements one behind the other; none of them ends a method's body
abbrev pub faults_of_statements : List CheckedStatement → Environment → Visible → StatementContext → Faults
faults_of_statements [] a v stand = none
faults_of_statements (s ∷ ss) a v stand = both (s.faults a v stand) (faults_of_statements ss a (s.behind v) stand)

abbrev pub messages_of_statements : List CheckedStatement → Messages → Messages
messages_of_statements [] m = m
messages_of_statements (s ∷ ss) m = messages_of_statements ss (s.messages m)

-- what may not stand in a counted loop's body
abbrev pub not_in_loop : StatementContext → Span → Faults
not_in_loop stand span = broken_if stand.looped rule.BodyForm span

abbrev pub faults_of_range : Environment → Visible → Range → Faults
faults_of_range a v r = both (faults_of_expression a v (Exactly Int) r.low) (faults_of_expression a v (Exactly Int) r.high)

-- a new name
abbrev pub shadows : Visible → Word → Faults
shadows v w = broken_if (is_visible v w.name) rule.Shadows w.span

abbrev pub shadows_option : Visible → Option Word → Faults
shadows_option v None = none
shadows_option v (Some w) = shadows v w

abbrev pub with_loop_variable : Visible → Word → Visible
with_loop_variable v w = declare_variable LoopVariable v w.name Int

abbrev pub with_block : Visible → Option Word → Visible
with_block v None = v
with_block v (Some w) = declare_variable Block v w.name Null

abbrev pub faults_of_if : Expr → List CheckedStatement → List CheckedStatement → Environment → Visible → StatementContext → Faults
faults_of_if condition first second a v stand =
    both (faults_of_expression a v (Exactly Truth) condition)
    (both (faults_of_statements first a v (in_branch stand)) (faults_of_statements second a v (in_branch stand)))

abbrev pub faults_of_while : List Expr → Expr → List CheckedStatement → Environment → Visible → StatementContext → Faults
faults_of_while invariants condition body a v stand =
    both (faults_of_formulas a v (in_invariant stand) invariants)
    (both (faults_of_expression a v (Exactly Truth) condition) (faults_of_statements body a v (in_while stand)))

-- the contract and the body of a par block or counted loop, with its names in scope
abbrev pub faults_of_members : Surround → Contract → List CheckedStatement → Environment → Visible → StatementContext → Faults
faults_of_members surround contract body a v stand =
    both (faults_of_clauses a v in_condition in_condition contract.clauses)
    (faults_of_statements body a v (among_members surround stand))

abbrev pub faults_of_for : Range → Contract → List CheckedStatement → Environment → Visible → StatementContext → Faults
faults_of_for range contract body a v stand =
    both (faults_of_range a v range)
    (both (shadows (entered v) range.name)
    (both (faults_of_members environment.Loop contract body a (with_loop_variable (entered v) range.name) stand)
    (faults_of_messages (messages_of_statements body no_messages))))

abbrev pub faults_of_par : Option Word → Range → Contract → List CheckedStatement → Environment → Visible → StatementContext
    → Faults
faults_of_par name range contract body a v stand =
    both (faults_of_range a v range)
    (both (shadows_option (entered v) name)
    (both (shadows (with_block (entered v) name) range.name)
    (faults_of_members environment.Block contract body a (with_loop_variable (with_block (entered v) name) range.name) stand)))

-- a barrier is one of the innermost block around
abbrev pub faults_of_barrier_name : Visible → Word → Faults
faults_of_barrier_name v w =
    both (broken_unless (is_block_around v w.name) rule.UnknownName w.span)
    (broken_if (is_block_around v w.name && not (is_innermost_block v w.name)) rule.BarrierPlace w.span)

-- an object whose class has a role
abbrev pub faults_of_operand : (Class → Bool) → Environment → Visible → Expr → Faults
faults_of_operand has a v e =
    both (faults_of_expression a v AnObject e) (broken_if (lacks_role has a ((checked_expression e).seen a v)) rule.NoRole e.span)

abbrev pub faults_of_message_place : StatementContext → Span → Faults
faults_of_message_place stand span = broken_if (not (is_loop stand.surround) || stand.repeated) rule.MessagePlace span

-- a `return` stands last in a method's body, with a value where there is a result
abbrev pub is_return_place : Environment → StatementContext → Option Expr → Bool
is_return_place a stand None = stand.last && stand.method && not (is_some a.result)
is_return_place a stand (Some e) = stand.last && stand.method && is_some a.result

abbrev pub faults_of_returned : Environment → Visible → Option Expr → Faults
faults_of_returned a v None = none
faults_of_returned a v (Some e) = faults_of_expression a v (need_of_result a.result) e

abbrev pub faults_in_stmt_kind : StmtKind-F CheckedStatementKind CheckedStatement → Span → Environment → Visible
    → StatementContext → Faults
faults_in_stmt_kind (StmtKind-F.Local type w value) span a v stand =
    both (faults_of_type a type)
    (both (shadows v w)
    (both (faults_of_first_value a v (Exactly type.kind) value)
    (broken_if (stand.looped && is_made_first value) rule.BodyForm span)))
faults_in_stmt_kind (StmtKind-F.Assign place value) span a v stand =
    both (faults_of_expression a v Anything place)
    (both (broken_unless (is_assignable a v place) rule.NotAssignable place.span)
    (both (faults_of_right a v (need_like (typing_in (checked_expression place) a v)) value)
    (broken_if (stand.looped && is_made value.kind) rule.BodyForm span)))
faults_in_stmt_kind (StmtKind-F.Call target w args) span a v stand =
    both (not_in_loop stand span) (faults_of_call (checked_option target) w (parts_of args) a v in_statement)
faults_in_stmt_kind (StmtKind-F.If condition first second) span a v stand = faults_of_if condition first second a v stand
faults_in_stmt_kind (StmtKind-F.While invariants condition body) span a v stand =
    faults_of_while invariants condition body a v stand
faults_in_stmt_kind (StmtKind-F.For range contract body) span a v stand =
    both (not_in_loop stand span) (faults_of_for range contract body a v stand)
faults_in_stmt_kind (StmtKind-F.Par name range contract body) span a v stand =
    both (not_in_loop stand span) (faults_of_par name range contract body a v stand)
faults_in_stmt_kind (StmtKind-F.Barrier w contract) span a v stand =
    both (faults_of_barrier_name v w) (faults_of_clauses a v between_members between_members contract.clauses)
faults_in_stmt_kind (StmtKind-F.Fork e) span a v stand = both (not_in_loop stand span) (faults_of_operand has_run a v e)
faults_in_stmt_kind (StmtKind-F.Join e) span a v stand = both (not_in_loop stand span) (faults_of_operand has_run a v e)
faults_in_stmt_kind (StmtKind-F.Lock e) span a v stand =
    both (not_in_loop stand span) (faults_of_operand has_lock_invariant a v e)
faults_in_stmt_kind (StmtKind-F.Unlock e) span a v stand =
    both (not_in_loop stand span) (faults_of_operand has_lock_invariant a v e)
faults_in_stmt_kind (StmtKind-F.Commit e) span a v stand =
    both (not_in_loop stand span) (faults_of_operand has_lock_invariant a v e)
faults_in_stmt_kind (StmtKind-F.Fold target w args) span a v stand =
    faults_of_instance (checked_option target) w (parts_of args) a v in_statement
faults_in_stmt_kind (StmtKind-F.Unfold target w args) span a v stand =
    faults_of_instance (checked_option target) w (parts_of args) a v in_statement
faults_in_stmt_kind (StmtKind-F.Assert formula) span a v stand = faults_of_formula a v (in_invariant stand) formula
faults_in_stmt_kind (StmtKind-F.Send w distance formula) span a v stand =
    both (faults_of_message_place stand span)
    (both (broken_if (nat_eq distance 0) rule.MessageRule w.span) (faults_of_formula a v between_members formula))
faults_in_stmt_kind (StmtKind-F.Recv w) span a v stand =
    both (faults_of_message_place stand span) (broken_unless stand.looped rule.UnknownName w.span)
faults_in_stmt_kind (StmtKind-F.Return value) span a v stand =
    both (broken_unless (is_return_place a stand value) rule.ReturnPlace span) (faults_of_returned a v value)

-- a local is in scope behind its declaration
abbrev pub behind_stmt_kind : StmtKind-F CheckedStatementKind CheckedStatement → Visible → Visible
behind_stmt_kind (StmtKind-F.Local type w value) v = declare_variable Local v w.name type.kind
behind_stmt_kind _ v = v

-- a counted loop inside has messages of its own
abbrev pub messages_in_stmt_kind : StmtKind-F CheckedStatementKind CheckedStatement → Messages → Messages
messages_in_stmt_kind (StmtKind-F.If condition first second) m = messages_of_statements second (messages_of_statements first m)
messages_in_stmt_kind (StmtKind-F.While invariants condition body) m = messages_of_statements body m
messages_in_stmt_kind (StmtKind-F.Par name range contract body) m = messages_of_statements body m
messages_in_stmt_kind (StmtKind-F.Send w distance formula) m = record m { sent = m.sent ++ w ∷ [] }
messages_in_stmt_kind (StmtKind-F.Recv w) m = record m { received = m.received ++ w ∷ [] }
messages_in_stmt_kind _ m = m

abbrev pub checked_in_statement_kind : StmtKind-F CheckedStatementKind CheckedStatement → CheckedStatementKind
checked_in_statement_kind k = record {
  faults = faults_in_stmt_kind k;
  behind = behind_stmt_kind k;
  messages =
      messages_in_stmt_kind k;
}

abbrev pub checked_in_statement : Stmt-F CheckedStatementKind CheckedStatement → CheckedStatement
checked_in_statement s = record { faults = s.kind.faults s.span; behind = s.kind.behind; messages = s.kind.messages }

abbrev pub checked_statement : Stmt → CheckedStatement
checked_statement = fold-Stmt CheckedStatementKind CheckedStatement checked_in_statement_kind checked_in_statement

abbrev pub checked_statement_kind : StmtKind → CheckedStatementKind
checked_statement_kind = fold-StmtKind CheckedStatementKind CheckedStatement checked_in_statement_kind checked_in_statement

abbrev pub parts_of_block : List Stmt → List CheckedStatement
parts_of_block block = map checked_statement block

abbrev pub is_nothing : List CheckedStatement → Bool
is_nothing [] = true
is_nothing (s ∷ ss) = false

-- the body of a method or of `run`, whose last statement may end it
abbrev pub faults_of_body : List CheckedStatement → Environment → Visible → StatementContext → Faults
faults_of_body [] a v stand = none
faults_of_body (s ∷ ss) a v stand = both (s.faults a v (record stand { last = is_nothing ss }))
    (faults_of_body ss a (s.behind v) stand)
