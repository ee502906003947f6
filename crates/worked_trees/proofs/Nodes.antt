-- What the nodes of trees become, one equation a kind: by these a whole tree is worked out from its leaves.
use Rattle.std.proofs.Common.{◌≡◌, ℕ, Bool, sym, ◌∙◌, ap, Option, Some, None, List}
use Rattle.std.specs.Prelude.{map}
use Rattle.pv_base.specs.declared.Span.{Span}
use Rattle.pv_ast.specs.declared.Word.{Word}
use Rattle.pv_ast.specs.declared.TypeWord.{TypeWord}
use Rattle.pv_ast.specs.declared.Operator.{Operator}
use Rattle.pv_ast.specs.declared.Token.{Token}
use Rattle.pv_ast.specs.declared.ExprKind.TheVariants as k
use Rattle.pv_ast.specs.declared.Expr.{Expr}
use Rattle.pv_ast.specs.declared.ExprKind.{ExprKind, ExprKind-F, roll-ExprKind}
use Rattle.pv_ast.specs.declared.Each.{Each, Each-F, roll-Each}
use Rattle.pv_ast.specs.declared.Contract.{Contract}
use Rattle.pv_ast.specs.declared.Range.{Range}
use Rattle.pv_ast.specs.declared.Right.{Right}
use Rattle.pv_ast.specs.declared.Stmt.{Stmt, fold_out-Stmt}
use Rattle.pv_ast.specs.declared.StmtKind.{StmtKind, StmtKind-F, roll-StmtKind, fold-roll-StmtKind, map-StmtKind}
use Rattle.pv_ast.specs.declared.StmtKind.TheVariants as s
use Rattle.pv_picks.specs.Elaborating.Expressions.{ElaboratedExpression, Layer, elaborated_expression, elaborated_kind, elaborated_in_kind, elaborated_in_each, elaborated_in_expression}
use Rattle.pv_picks.specs.Elaborating.Statements.{ElaboratedStatement, ElaboratedStatementKind, StmtLayer, elaborated_statement, elaborated_statement_kind, elaborated_in_statement_kind, elaborated_in_statement}
use Rattle.core_trees.proofs.Layers.{layer_of, each_layer_of, elaborated_rolled, kind_at_roll, each_at_roll}

-- a node with its layer
abbrev pub elaborated_at : Span → Layer → ElaboratedExpression
elaborated_at p l = elaborated_in_expression (record { span = p; kind = elaborated_in_kind l })

at_layer : (p : Span) (l : ExprKind-F ExprKind Each Expr) (kind : ExprKind) → roll-ExprKind l ≡ kind
    → elaborated_expression (record { span = p; kind = kind }) ≡ elaborated_at p (layer_of l)
at_layer p l kind r =
    elaborated_rolled (record { span = p; kind = kind })
    ∙ ap (λ x. elaborated_in_expression (record { span = p; kind = elaborated_kind x })) (sym r)
    ∙ ap (λ x. elaborated_in_expression (record { span = p; kind = x })) (kind_at_roll l)

pub number_node : (p : Span) (n : ℕ) → elaborated_expression (record { span = p; kind = k.Number n })
    ≡ elaborated_at p (ExprKind-F.Number n)
number_node p n = at_layer p (ExprKind-F.Number n) _ (k.rolls-Number n)

pub truth_node : (p : Span) (b : Bool) → elaborated_expression (record { span = p; kind = k.Truth b })
    ≡ elaborated_at p (ExprKind-F.Truth b)
truth_node p b = at_layer p (ExprKind-F.Truth b) _ (k.rolls-Truth b)

pub null_node : (p : Span) → elaborated_expression (record { span = p; kind = k.Null }) ≡ elaborated_at p ExprKind-F.Null
null_node p = at_layer p ExprKind-F.Null _ k.rolls-Null

pub this_node : (p : Span) → elaborated_expression (record { span = p; kind = k.This }) ≡ elaborated_at p ExprKind-F.This
this_node p = at_layer p ExprKind-F.This _ k.rolls-This

pub result_node : (p : Span) → elaborated_expression (record { span = p; kind = k.Result }) ≡ elaborated_at p ExprKind-F.Result
result_node p = at_layer p ExprKind-F.Result _ k.rolls-Result

pub var_node : (p : Span) (w : Word) → elaborated_expression (record { span = p; kind = k.Var w })
    ≡ elaborated_at p (ExprKind-F.Var w)
var_node p w = at_layer p (ExprKind-F.Var w) _ (k.rolls-Var w)

pub field_node : (p : Span) (x : Expr) (w : Word) → elaborated_expression (record { span = p; kind = k.Field x w })
    ≡ elaborated_at p (ExprKind-F.Field (elaborated_expression x) w)
field_node p x w = at_layer p (ExprKind-F.Field x w) _ (k.rolls-Field x w)

pub index_node : (p : Span) (x y : Expr) → elaborated_expression (record { span = p; kind = k.Index x y })
    ≡ elaborated_at p (ExprKind-F.Index (elaborated_expression x) (elaborated_expression y))
index_node p x y = at_layer p (ExprKind-F.Index x y) _ (k.rolls-Index x y)

pub not_node : (p : Span) (x : Expr) → elaborated_expression (record { span = p; kind = k.Not x })
    ≡ elaborated_at p (ExprKind-F.Not (elaborated_expression x))
not_node p x = at_layer p (ExprKind-F.Not x) _ (k.rolls-Not x)

pub minus_node : (p : Span) (x : Expr) → elaborated_expression (record { span = p; kind = k.Minus x })
    ≡ elaborated_at p (ExprKind-F.Minus (elaborated_expression x))
minus_node p x = at_layer p (ExprKind-F.Minus x) _ (k.rolls-Minus x)

pub binary_node : (p : Span) (o : Operator) (x y : Expr) → elaborated_expression (record { span = p; kind = k.Binary o x y })
    ≡ elaborated_at p (ExprKind-F.Binary o (elaborated_expression x) (elaborated_expression y))
binary_node p o x y = at_layer p (ExprKind-F.Binary o x y) _ (k.rolls-Binary o x y)

pub old_node : (p : Span) (x : Expr) → elaborated_expression (record { span = p; kind = k.Old x })
    ≡ elaborated_at p (ExprKind-F.Old (elaborated_expression x))
old_node p x = at_layer p (ExprKind-F.Old x) _ (k.rolls-Old x)

pub perm_node : (p : Span) (x : Expr) (a b : ℕ) (t : Span) → elaborated_expression (record { span = p; kind = k.Perm x a b t })
    ≡ elaborated_at p (ExprKind-F.Perm (elaborated_expression x) a b t)
perm_node p x a b t = at_layer p (ExprKind-F.Perm x a b t) _ (k.rolls-Perm x a b t)

pub token_node : (p : Span) (t : Token) (x : Expr) → elaborated_expression (record { span = p; kind = k.Token t x })
    ≡ elaborated_at p (ExprKind-F.Token t (elaborated_expression x))
token_node p t x = at_layer p (ExprKind-F.Token t x) _ (k.rolls-Token t x)

pub instance_on_this_node : (p : Span) (w : Word) (es : List Expr)
    → elaborated_expression (record { span = p; kind = k.Instance None w es })
    ≡ elaborated_at p (ExprKind-F.Instance None w (map elaborated_expression es))
instance_on_this_node p w es = at_layer p (ExprKind-F.Instance None w es) _ (k.rolls-Instance None w es)

pub instance_node : (p : Span) (x : Expr) (w : Word) (es : List Expr)
    → elaborated_expression (record { span = p; kind = k.Instance (Some x) w es })
    ≡ elaborated_at p (ExprKind-F.Instance (Some (elaborated_expression x)) w (map elaborated_expression es))
instance_node p x w es = at_layer p (ExprKind-F.Instance (Some x) w es) _ (k.rolls-Instance (Some x) w es)

-- a quantifier
pub each_node : (p : Span) (l : Each-F ExprKind Each Expr)
    → elaborated_expression (record { span = p; kind = k.Each (roll-Each l) })
    ≡ elaborated_at p (ExprKind-F.Each (elaborated_in_each (each_layer_of l)))
each_node p l = at_layer p (ExprKind-F.Each (roll-Each l)) _ (k.rolls-Each (roll-Each l))
    ∙ ap (λ q. elaborated_at p (ExprKind-F.Each q)) (each_at_roll l)

-- Statements

abbrev pub stmt_layer_of : StmtKind-F StmtKind Stmt → StmtLayer
stmt_layer_of = map-StmtKind StmtKind Stmt ElaboratedStatementKind ElaboratedStatement elaborated_statement_kind
    elaborated_statement

abbrev pub stmt_at : Span → StmtLayer → ElaboratedStatement
stmt_at p l = elaborated_in_statement (record { span = p; kind = elaborated_in_statement_kind l })

stmt_rolled : (x : Stmt) → elaborated_statement x
    ≡ elaborated_in_statement (record { span = x.span; kind = elaborated_statement_kind x.kind })
unfolding elaborated_statement elaborated_statement_kind
stmt_rolled x = fold_out-Stmt ElaboratedStatementKind ElaboratedStatement elaborated_in_statement_kind elaborated_in_statement x

stmt_kind_at_roll : (l : StmtKind-F StmtKind Stmt) → elaborated_statement_kind (roll-StmtKind l)
    ≡ elaborated_in_statement_kind (stmt_layer_of l)
unfolding elaborated_statement elaborated_statement_kind
stmt_kind_at_roll l = fold-roll-StmtKind ElaboratedStatementKind ElaboratedStatement elaborated_in_statement_kind
    elaborated_in_statement l

at_stmt_layer : (p : Span) (l : StmtKind-F StmtKind Stmt) (kind : StmtKind) → roll-StmtKind l ≡ kind
    → elaborated_statement (record { span = p; kind = kind }) ≡ stmt_at p (stmt_layer_of l)
at_stmt_layer p l kind r =
    stmt_rolled (record { span = p; kind = kind })
    ∙ ap (λ x. elaborated_in_statement (record { span = p; kind = elaborated_statement_kind x })) (sym r)
    ∙ ap (λ x. elaborated_in_statement (record { span = p; kind = x })) (stmt_kind_at_roll l)

pub local_stmt : (p : Span) (t : TypeWord) (w : Word) (x : Option Right)
    → elaborated_statement (record { span = p; kind = s.Local t w x }) ≡ stmt_at p (StmtKind-F.Local t w x)
local_stmt p t w x = at_stmt_layer p (StmtKind-F.Local t w x) _ (s.rolls-Local t w x)

pub assign_stmt : (p : Span) (e : Expr) (x : Right) → elaborated_statement (record { span = p; kind = s.Assign e x })
    ≡ stmt_at p (StmtKind-F.Assign e x)
assign_stmt p e x = at_stmt_layer p (StmtKind-F.Assign e x) _ (s.rolls-Assign e x)

pub call_stmt : (p : Span) (o : Option Expr) (w : Word) (es : List Expr)
    → elaborated_statement (record { span = p; kind = s.Call o w es }) ≡ stmt_at p (StmtKind-F.Call o w es)
call_stmt p o w es = at_stmt_layer p (StmtKind-F.Call o w es) _ (s.rolls-Call o w es)

pub if_stmt : (p : Span) (e : Expr) (xs ys : List Stmt) → elaborated_statement (record { span = p; kind = s.If e xs ys })
    ≡ stmt_at p (StmtKind-F.If e (map elaborated_statement xs) (map elaborated_statement ys))
if_stmt p e xs ys = at_stmt_layer p (StmtKind-F.If e xs ys) _ (s.rolls-If e xs ys)

pub while_stmt : (p : Span) (es : List Expr) (e : Expr) (xs : List Stmt)
    → elaborated_statement (record { span = p; kind = s.While es e xs })
    ≡ stmt_at p (StmtKind-F.While es e (map elaborated_statement xs))
while_stmt p es e xs = at_stmt_layer p (StmtKind-F.While es e xs) _ (s.rolls-While es e xs)

pub for_stmt : (p : Span) (r : Range) (c : Contract) (xs : List Stmt)
    → elaborated_statement (record { span = p; kind = s.For r c xs })
    ≡ stmt_at p (StmtKind-F.For r c (map elaborated_statement xs))
for_stmt p r c xs = at_stmt_layer p (StmtKind-F.For r c xs) _ (s.rolls-For r c xs)

pub par_stmt : (p : Span) (o : Option Word) (r : Range) (c : Contract) (xs : List Stmt)
    → elaborated_statement (record { span = p; kind = s.Par o r c xs })
    ≡ stmt_at p (StmtKind-F.Par o r c (map elaborated_statement xs))
par_stmt p o r c xs = at_stmt_layer p (StmtKind-F.Par o r c xs) _ (s.rolls-Par o r c xs)

pub barrier_stmt : (p : Span) (w : Word) (c : Contract) → elaborated_statement (record { span = p; kind = s.Barrier w c })
    ≡ stmt_at p (StmtKind-F.Barrier w c)
barrier_stmt p w c = at_stmt_layer p (StmtKind-F.Barrier w c) _ (s.rolls-Barrier w c)

pub fork_stmt : (p : Span) (e : Expr) → elaborated_statement (record { span = p; kind = s.Fork e })
    ≡ stmt_at p (StmtKind-F.Fork e)
fork_stmt p e = at_stmt_layer p (StmtKind-F.Fork e) _ (s.rolls-Fork e)

pub join_stmt : (p : Span) (e : Expr) → elaborated_statement (record { span = p; kind = s.Join e })
    ≡ stmt_at p (StmtKind-F.Join e)
join_stmt p e = at_stmt_layer p (StmtKind-F.Join e) _ (s.rolls-Join e)

pub lock_stmt : (p : Span) (e : Expr) → elaborated_statement (record { span = p; kind = s.Lock e })
    ≡ stmt_at p (StmtKind-F.Lock e)
lock_stmt p e = at_stmt_layer p (StmtKind-F.Lock e) _ (s.rolls-Lock e)

pub unlock_stmt : (p : Span) (e : Expr) → elaborated_statement (record { span = p; kind = s.Unlock e })
    ≡ stmt_at p (StmtKind-F.Unlock e)
unlock_stmt p e = at_stmt_layer p (StmtKind-F.Unlock e) _ (s.rolls-Unlock e)

pub commit_stmt : (p : Span) (e : Expr) → elaborated_statement (record { span = p; kind = s.Commit e })
    ≡ stmt_at p (StmtKind-F.Commit e)
commit_stmt p e = at_stmt_layer p (StmtKind-F.Commit e) _ (s.rolls-Commit e)

pub fold_stmt : (p : Span) (o : Option Expr) (w : Word) (es : List Expr)
    → elaborated_statement (record { span = p; kind = s.Fold o w es }) ≡ stmt_at p (StmtKind-F.Fold o w es)
fold_stmt p o w es = at_stmt_layer p (StmtKind-F.Fold o w es) _ (s.rolls-Fold o w es)

pub unfold_stmt : (p : Span) (o : Option Expr) (w : Word) (es : List Expr)
    → elaborated_statement (record { span = p; kind = s.Unfold o w es }) ≡ stmt_at p (StmtKind-F.Unfold o w es)
unfold_stmt p o w es = at_stmt_layer p (StmtKind-F.Unfold o w es) _ (s.rolls-Unfold o w es)

pub assert_stmt : (p : Span) (e : Expr) → elaborated_statement (record { span = p; kind = s.Assert e })
    ≡ stmt_at p (StmtKind-F.Assert e)
assert_stmt p e = at_stmt_layer p (StmtKind-F.Assert e) _ (s.rolls-Assert e)

pub send_stmt : (p : Span) (w : Word) (n : ℕ) (e : Expr) → elaborated_statement (record { span = p; kind = s.Send w n e })
    ≡ stmt_at p (StmtKind-F.Send w n e)
send_stmt p w n e = at_stmt_layer p (StmtKind-F.Send w n e) _ (s.rolls-Send w n e)

pub recv_stmt : (p : Span) (w : Word) → elaborated_statement (record { span = p; kind = s.Recv w })
    ≡ stmt_at p (StmtKind-F.Recv w)
recv_stmt p w = at_stmt_layer p (StmtKind-F.Recv w) _ (s.rolls-Recv w)

pub return_stmt : (p : Span) (o : Option Expr) → elaborated_statement (record { span = p; kind = s.Return o })
    ≡ stmt_at p (StmtKind-F.Return o)
return_stmt p o = at_stmt_layer p (StmtKind-F.Return o) _ (s.rolls-Return o)
