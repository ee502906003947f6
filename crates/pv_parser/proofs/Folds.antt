-- What a fold gives at each kind of node, whatever it collects of expressions and of statements.
use Rattle.std.proofs.Common.{ℕ, ◌≡◌, List, map, Option, Some, None, Bool, sym, ap, ◌∙◌}
use Rattle.pv_base.specs.declared.Span.{Span}
use Rattle.pv_ast.specs.declared.Word.{Word}
use Rattle.pv_ast.specs.declared.TypeWord.{TypeWord}
use Rattle.pv_ast.specs.declared.Token.{Token}
use Rattle.pv_ast.specs.declared.Operator.{Operator}
use Rattle.pv_ast.specs.declared.Expr.{Expr, Expr-F, fold-Expr, fold_out-Expr}
use Rattle.pv_ast.specs.declared.ExprKind.{ExprKind, ExprKind-F, fold-ExprKind, fold-roll-ExprKind}
use Rattle.pv_ast.specs.declared.ExprKind.TheVariants as e
use Rattle.pv_ast.specs.declared.Each.{Each, Each-F, roll-Each, fold-roll-Each}
use Rattle.pv_ast.specs.declared.Right.{Right}
use Rattle.pv_ast.specs.declared.Range.{Range}
use Rattle.pv_ast.specs.declared.Contract.{Contract}
use Rattle.pv_ast.specs.declared.Stmt.{Stmt, Stmt-F, fold-Stmt, fold_out-Stmt}
use Rattle.pv_ast.specs.declared.StmtKind.{StmtKind, StmtKind-F, fold-StmtKind, fold-roll-StmtKind}
use Rattle.pv_ast.specs.declared.StmtKind.TheVariants as st

-- expressions
module _ {A : Type 0} (kind : ExprKind-F A A A → A) (each : Each-F A A A → A) (expr : Expr-F A A A → A) where
  abbrev of : Expr → A
  of = fold-Expr A A A kind each expr

  abbrev of_kind : ExprKind → A
  of_kind = fold-ExprKind A A A kind each expr

  abbrev of_option : Option Expr → Option A
  of_option None = None
  of_option (Some a) = Some (of a)

  pub at_node : (s : Span) (x : ExprKind) → of (record { span = s; kind = x }) ≡ expr (record { span = s; kind = of_kind x })
  at_node s x = fold_out-Expr A A A kind each expr (record { span = s; kind = x })

  pub at_number : (n : ℕ) → of_kind (e.Number n) ≡ kind (ExprKind-F.Number n)
  at_number n = ap of_kind (sym (e.rolls-Number n)) ∙ fold-roll-ExprKind A A A kind each expr (ExprKind-F.Number n)

  pub at_truth : (b : Bool) → of_kind (e.Truth b) ≡ kind (ExprKind-F.Truth b)
  at_truth b = ap of_kind (sym (e.rolls-Truth b)) ∙ fold-roll-ExprKind A A A kind each expr (ExprKind-F.Truth b)

  pub at_null : of_kind e.Null ≡ kind ExprKind-F.Null
  at_null = ap of_kind (sym e.rolls-Null) ∙ fold-roll-ExprKind A A A kind each expr ExprKind-F.Null

  pub at_this : of_kind e.This ≡ kind ExprKind-F.This
  at_this = ap of_kind (sym e.rolls-This) ∙ fold-roll-ExprKind A A A kind each expr ExprKind-F.This

  pub at_result : of_kind e.Result ≡ kind ExprKind-F.Result
  at_result = ap of_kind (sym e.rolls-Result) ∙ fold-roll-ExprKind A A A kind each expr ExprKind-F.Result

  pub at_var : (w : Word) → of_kind (e.Var w) ≡ kind (ExprKind-F.Var w)
  at_var w = ap of_kind (sym (e.rolls-Var w)) ∙ fold-roll-ExprKind A A A kind each expr (ExprKind-F.Var w)

  pub at_field : (a : Expr) (w : Word) → of_kind (e.Field a w) ≡ kind (ExprKind-F.Field (of a) w)
  at_field a w = ap of_kind (sym (e.rolls-Field a w)) ∙ fold-roll-ExprKind A A A kind each expr (ExprKind-F.Field a w)

  pub at_index : (a i : Expr) → of_kind (e.Index a i) ≡ kind (ExprKind-F.Index (of a) (of i))
  at_index a i = ap of_kind (sym (e.rolls-Index a i)) ∙ fold-roll-ExprKind A A A kind each expr (ExprKind-F.Index a i)

  pub at_not : (a : Expr) → of_kind (e.Not a) ≡ kind (ExprKind-F.Not (of a))
  at_not a = ap of_kind (sym (e.rolls-Not a)) ∙ fold-roll-ExprKind A A A kind each expr (ExprKind-F.Not a)

  pub at_minus : (a : Expr) → of_kind (e.Minus a) ≡ kind (ExprKind-F.Minus (of a))
  at_minus a = ap of_kind (sym (e.rolls-Minus a)) ∙ fold-roll-ExprKind A A A kind each expr (ExprKind-F.Minus a)

  pub at_binary : (o : Operator) (a b : Expr) → of_kind (e.Binary o a b) ≡ kind (ExprKind-F.Binary o (of a) (of b))
  at_binary o a b = ap of_kind (sym (e.rolls-Binary o a b)) ∙ fold-roll-ExprKind A A A kind each expr (ExprKind-F.Binary o a b)

  pub at_old : (a : Expr) → of_kind (e.Old a) ≡ kind (ExprKind-F.Old (of a))
  at_old a = ap of_kind (sym (e.rolls-Old a)) ∙ fold-roll-ExprKind A A A kind each expr (ExprKind-F.Old a)

  pub at_perm : (a : Expr) (n m : ℕ) (s : Span) → of_kind (e.Perm a n m s) ≡ kind (ExprKind-F.Perm (of a) n m s)
  at_perm a n m s = ap of_kind (sym (e.rolls-Perm a n m s)) ∙ fold-roll-ExprKind A A A kind each expr (ExprKind-F.Perm a n m s)

  pub at_token : (t : Token) (a : Expr) → of_kind (e.Token t a) ≡ kind (ExprKind-F.Token t (of a))
  at_token t a = ap of_kind (sym (e.rolls-Token t a)) ∙ fold-roll-ExprKind A A A kind each expr (ExprKind-F.Token t a)

  pub at_instance : (o : Option Expr) (w : Word) (args : List Expr)
      → of_kind (e.Instance o w args) ≡ kind (ExprKind-F.Instance (of_option o) w (map of args))
  at_instance None w args =
      ap of_kind (sym (e.rolls-Instance None w args)) ∙ fold-roll-ExprKind A A A kind each expr (ExprKind-F.Instance None w args)
  at_instance (Some a) w args =
      ap of_kind (sym (e.rolls-Instance (Some a) w args))
      ∙ fold-roll-ExprKind A A A kind each expr (ExprKind-F.Instance (Some a) w args)

  pub at_each : (x : Each-F ExprKind Each Expr) → of_kind (e.Each (roll-Each x))
      ≡ kind (ExprKind-F.Each (each (record {
        star = x.star;
        name = x.name;
        low = of x.low;
        high = of x.high;
        body = of x.body;
        written = x.written;
      })))
  at_each x =
      ap of_kind (sym (e.rolls-Each (roll-Each x))) ∙ fold-roll-ExprKind A A A kind each expr (ExprKind-F.Each (roll-Each x))
      ∙ ap (λ y. kind (ExprKind-F.Each y)) (fold-roll-Each A A A kind each expr x)

-- statements
module _ {A : Type 0} (kind : StmtKind-F A A → A) (stmt : Stmt-F A A → A) where
  abbrev of_stmt : Stmt → A
  of_stmt = fold-Stmt A A kind stmt

  abbrev of_stmt_kind : StmtKind → A
  of_stmt_kind = fold-StmtKind A A kind stmt

  pub at_stmt : (s : Span) (x : StmtKind)
      → of_stmt (record { span = s; kind = x }) ≡ stmt (record { span = s; kind = of_stmt_kind x })
  at_stmt s x = fold_out-Stmt A A kind stmt (record { span = s; kind = x })

  pub at_local : (t : TypeWord) (w : Word) (r : Option Right) → of_stmt_kind (st.Local t w r) ≡ kind (StmtKind-F.Local t w r)
  at_local t w r = ap of_stmt_kind (sym (st.rolls-Local t w r)) ∙ fold-roll-StmtKind A A kind stmt (StmtKind-F.Local t w r)

  pub at_assign : (a : Expr) (r : Right) → of_stmt_kind (st.Assign a r) ≡ kind (StmtKind-F.Assign a r)
  at_assign a r = ap of_stmt_kind (sym (st.rolls-Assign a r)) ∙ fold-roll-StmtKind A A kind stmt (StmtKind-F.Assign a r)

  pub at_call : (o : Option Expr) (w : Word) (x : List Expr) → of_stmt_kind (st.Call o w x) ≡ kind (StmtKind-F.Call o w x)
  at_call o w x = ap of_stmt_kind (sym (st.rolls-Call o w x)) ∙ fold-roll-StmtKind A A kind stmt (StmtKind-F.Call o w x)

  pub at_if : (c : Expr) (a b : List Stmt) → of_stmt_kind (st.If c a b) ≡ kind (StmtKind-F.If c (map of_stmt a) (map of_stmt b))
  at_if c a b = ap of_stmt_kind (sym (st.rolls-If c a b)) ∙ fold-roll-StmtKind A A kind stmt (StmtKind-F.If c a b)

  pub at_while : (i : List Expr) (c : Expr) (b : List Stmt)
      → of_stmt_kind (st.While i c b) ≡ kind (StmtKind-F.While i c (map of_stmt b))
  at_while i c b = ap of_stmt_kind (sym (st.rolls-While i c b)) ∙ fold-roll-StmtKind A A kind stmt (StmtKind-F.While i c b)

  pub at_for : (r : Range) (c : Contract) (b : List Stmt)
      → of_stmt_kind (st.For r c b) ≡ kind (StmtKind-F.For r c (map of_stmt b))
  at_for r c b = ap of_stmt_kind (sym (st.rolls-For r c b)) ∙ fold-roll-StmtKind A A kind stmt (StmtKind-F.For r c b)

  pub at_par : (n : Option Word) (r : Range) (c : Contract) (b : List Stmt)
      → of_stmt_kind (st.Par n r c b) ≡ kind (StmtKind-F.Par n r c (map of_stmt b))
  at_par n r c b = ap of_stmt_kind (sym (st.rolls-Par n r c b)) ∙ fold-roll-StmtKind A A kind stmt (StmtKind-F.Par n r c b)

  pub at_barrier : (w : Word) (c : Contract) → of_stmt_kind (st.Barrier w c) ≡ kind (StmtKind-F.Barrier w c)
  at_barrier w c = ap of_stmt_kind (sym (st.rolls-Barrier w c)) ∙ fold-roll-StmtKind A A kind stmt (StmtKind-F.Barrier w c)

  pub at_fork : (a : Expr) → of_stmt_kind (st.Fork a) ≡ kind (StmtKind-F.Fork a)
  at_fork a = ap of_stmt_kind (sym (st.rolls-Fork a)) ∙ fold-roll-StmtKind A A kind stmt (StmtKind-F.Fork a)

  pub at_join : (a : Expr) → of_stmt_kind (st.Join a) ≡ kind (StmtKind-F.Join a)
  at_join a = ap of_stmt_kind (sym (st.rolls-Join a)) ∙ fold-roll-StmtKind A A kind stmt (StmtKind-F.Join a)

  pub at_lock : (a : Expr) → of_stmt_kind (st.Lock a) ≡ kind (StmtKind-F.Lock a)
  at_lock a = ap of_stmt_kind (sym (st.rolls-Lock a)) ∙ fold-roll-StmtKind A A kind stmt (StmtKind-F.Lock a)

  pub at_unlock : (a : Expr) → of_stmt_kind (st.Unlock a) ≡ kind (StmtKind-F.Unlock a)
  at_unlock a = ap of_stmt_kind (sym (st.rolls-Unlock a)) ∙ fold-roll-StmtKind A A kind stmt (StmtKind-F.Unlock a)

  pub at_commit : (a : Expr) → of_stmt_kind (st.Commit a) ≡ kind (StmtKind-F.Commit a)
  at_commit a = ap of_stmt_kind (sym (st.rolls-Commit a)) ∙ fold-roll-StmtKind A A kind stmt (StmtKind-F.Commit a)

  pub at_fold : (o : Option Expr) (w : Word) (x : List Expr) → of_stmt_kind (st.Fold o w x) ≡ kind (StmtKind-F.Fold o w x)
  at_fold o w x = ap of_stmt_kind (sym (st.rolls-Fold o w x)) ∙ fold-roll-StmtKind A A kind stmt (StmtKind-F.Fold o w x)

  pub at_unfold : (o : Option Expr) (w : Word) (x : List Expr) → of_stmt_kind (st.Unfold o w x) ≡ kind (StmtKind-F.Unfold o w x)
  at_unfold o w x = ap of_stmt_kind (sym (st.rolls-Unfold o w x)) ∙ fold-roll-StmtKind A A kind stmt (StmtKind-F.Unfold o w x)

  pub at_assert : (a : Expr) → of_stmt_kind (st.Assert a) ≡ kind (StmtKind-F.Assert a)
  at_assert a = ap of_stmt_kind (sym (st.rolls-Assert a)) ∙ fold-roll-StmtKind A A kind stmt (StmtKind-F.Assert a)

  pub at_send : (w : Word) (n : ℕ) (a : Expr) → of_stmt_kind (st.Send w n a) ≡ kind (StmtKind-F.Send w n a)
  at_send w n a = ap of_stmt_kind (sym (st.rolls-Send w n a)) ∙ fold-roll-StmtKind A A kind stmt (StmtKind-F.Send w n a)

  pub at_recv : (w : Word) → of_stmt_kind (st.Recv w) ≡ kind (StmtKind-F.Recv w)
  at_recv w = ap of_stmt_kind (sym (st.rolls-Recv w)) ∙ fold-roll-StmtKind A A kind stmt (StmtKind-F.Recv w)

  pub at_return : (o : Option Expr) → of_stmt_kind (st.Return o) ≡ kind (StmtKind-F.Return o)
  at_return o = ap of_stmt_kind (sym (st.rolls-Return o)) ∙ fold-roll-StmtKind A A kind stmt (StmtKind-F.Return o)
