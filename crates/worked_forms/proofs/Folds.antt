-- What a fold gives at each node of a tree, over what it gives at the parts.
use Rattle.std.proofs.Common.{◌≡◌, ℕ, sym, ◌∙◌, ap, Option, Some, None, List}
use Rattle.std.specs.Prelude.{map}
use Rattle.pv_base.specs.declared.Span.{Span}
use Rattle.pv_ast.specs.declared.Word.{Word}
use Rattle.pv_ast.specs.declared.TypeWord.{TypeWord}
use Rattle.pv_ast.specs.declared.Token.{Token}
use Rattle.pv_ast.specs.declared.Operator.{Operator}
use Rattle.pv_ast.specs.declared.Contract.{Contract}
use Rattle.pv_ast.specs.declared.Range.{Range}
use Rattle.pv_ast.specs.declared.Right.{Right}
use Rattle.pv_ast.specs.declared.Expr.{Expr, Expr-F, fold-Expr, fold_out-Expr}
use Rattle.pv_ast.specs.declared.ExprKind.{ExprKind, ExprKind-F, fold-ExprKind, fold-roll-ExprKind, map-ExprKind, roll-ExprKind}
use Rattle.pv_ast.specs.declared.ExprKind.TheVariants as k
use Rattle.pv_ast.specs.declared.Each.{Each, Each-F, fold-Each}
use Rattle.pv_ast.specs.declared.Stmt.{Stmt, Stmt-F, fold-Stmt, fold_out-Stmt}
use Rattle.pv_ast.specs.declared.StmtKind.{StmtKind, StmtKind-F, fold-StmtKind, fold-roll-StmtKind, map-StmtKind, roll-StmtKind}
use Rattle.pv_ast.specs.declared.StmtKind.TheVariants as s

-- a fold over expressions
module _ (K Q P : Type 0) (in_kind : ExprKind-F K Q P → K) (in_each : Each-F K Q P → Q) (in_expr : Expr-F K Q P → P) where
  abbrev pub folded : Expr → P
  folded = fold-Expr K Q P in_kind in_each in_expr

  abbrev layer : ExprKind-F ExprKind Each Expr → ExprKind-F K Q P
  layer = map-ExprKind ExprKind Each Expr K Q P (fold-ExprKind K Q P in_kind in_each in_expr)
      (fold-Each K Q P in_kind in_each in_expr) folded

  abbrev pub step : Span → ExprKind-F K Q P → P
  step span l = in_expr (record { span = span; kind = in_kind l })

  at_layer : (span : Span) (l : ExprKind-F ExprKind Each Expr) (kind : ExprKind) → roll-ExprKind l ≡ kind
      → folded (record { span = span; kind = kind }) ≡ step span (layer l)
  at_layer span l kind r =
      fold_out-Expr K Q P in_kind in_each in_expr (record { span = span; kind = kind })
      ∙ ap (λ x. in_expr (record { span = span; kind = fold-ExprKind K Q P in_kind in_each in_expr x })) (sym r)
      ∙ ap (λ x. in_expr (record { span = span; kind = x })) (fold-roll-ExprKind K Q P in_kind in_each in_expr l)

  pub number : (span : Span) (n : ℕ) → folded (record { span = span; kind = k.Number n }) ≡ step span (ExprKind-F.Number n)
  number span n = at_layer span (ExprKind-F.Number n) _ (k.rolls-Number n)

  pub null : (span : Span) → folded (record { span = span; kind = k.Null }) ≡ step span ExprKind-F.Null
  null span = at_layer span ExprKind-F.Null _ k.rolls-Null

  pub this : (span : Span) → folded (record { span = span; kind = k.This }) ≡ step span ExprKind-F.This
  this span = at_layer span ExprKind-F.This _ k.rolls-This

  pub var : (span : Span) (w : Word) → folded (record { span = span; kind = k.Var w }) ≡ step span (ExprKind-F.Var w)
  var span w = at_layer span (ExprKind-F.Var w) _ (k.rolls-Var w)

  pub field : (span : Span) (e : Expr) (w : Word) → folded (record { span = span; kind = k.Field e w })
      ≡ step span (ExprKind-F.Field (folded e) w)
  field span e w = at_layer span (ExprKind-F.Field e w) _ (k.rolls-Field e w)

  pub old : (span : Span) (e : Expr) → folded (record { span = span; kind = k.Old e }) ≡ step span (ExprKind-F.Old (folded e))
  old span e = at_layer span (ExprKind-F.Old e) _ (k.rolls-Old e)

  pub perm : (span : Span) (e : Expr) (a b : ℕ) (t : Span)
      → folded (record { span = span; kind = k.Perm e a b t }) ≡ step span (ExprKind-F.Perm (folded e) a b t)
  perm span e a b t = at_layer span (ExprKind-F.Perm e a b t) _ (k.rolls-Perm e a b t)

  pub binary : (span : Span) (o : Operator) (e g : Expr)
      → folded (record { span = span; kind = k.Binary o e g }) ≡ step span (ExprKind-F.Binary o (folded e) (folded g))
  binary span o e g = at_layer span (ExprKind-F.Binary o e g) _ (k.rolls-Binary o e g)

  pub token : (span : Span) (t : Token) (e : Expr)
      → folded (record { span = span; kind = k.Token t e }) ≡ step span (ExprKind-F.Token t (folded e))
  token span t e = at_layer span (ExprKind-F.Token t e) _ (k.rolls-Token t e)

  pub own_instance : (span : Span) (w : Word) (es : List Expr)
      → folded (record { span = span; kind = k.Instance None w es }) ≡ step span (ExprKind-F.Instance None w (map folded es))
  own_instance span w es = at_layer span (ExprKind-F.Instance None w es) _ (k.rolls-Instance None w es)

  pub instance : (span : Span) (e : Expr) (w : Word) (es : List Expr)
      → folded (record { span = span; kind = k.Instance (Some e) w es })
      ≡ step span (ExprKind-F.Instance (Some (folded e)) w (map folded es))
  instance span e w es = at_layer span (ExprKind-F.Instance (Some e) w es) _ (k.rolls-Instance (Some e) w es)

-- a fold over statements
module _ (K S : Type 0) (in_kind : StmtKind-F K S → K) (in_stmt : Stmt-F K S → S) where
  abbrev pub run : Stmt → S
  run = fold-Stmt K S in_kind in_stmt

  abbrev stmt_layer : StmtKind-F StmtKind Stmt → StmtKind-F K S
  stmt_layer = map-StmtKind StmtKind Stmt K S (fold-StmtKind K S in_kind in_stmt) run

  abbrev stmt_step : Span → StmtKind-F K S → S
  stmt_step span l = in_stmt (record { span = span; kind = in_kind l })

  at_stmt_layer : (span : Span) (l : StmtKind-F StmtKind Stmt) (kind : StmtKind) → roll-StmtKind l ≡ kind
      → run (record { span = span; kind = kind }) ≡ stmt_step span (stmt_layer l)
  at_stmt_layer span l kind r =
      fold_out-Stmt K S in_kind in_stmt (record { span = span; kind = kind })
      ∙ ap (λ x. in_stmt (record { span = span; kind = fold-StmtKind K S in_kind in_stmt x })) (sym r)
      ∙ ap (λ x. in_stmt (record { span = span; kind = x })) (fold-roll-StmtKind K S in_kind in_stmt l)

  pub local : (span : Span) (t : TypeWord) (w : Word) (x : Option Right) → run (record { span = span; kind = s.Local t w x })
      ≡ stmt_step span (StmtKind-F.Local t w x)
  local span t w x = at_stmt_layer span (StmtKind-F.Local t w x) _ (s.rolls-Local t w x)

  pub assign : (span : Span) (e : Expr) (x : Right) → run (record { span = span; kind = s.Assign e x })
      ≡ stmt_step span (StmtKind-F.Assign e x)
  assign span e x = at_stmt_layer span (StmtKind-F.Assign e x) _ (s.rolls-Assign e x)

  pub call : (span : Span) (o : Option Expr) (w : Word) (es : List Expr) → run (record { span = span; kind = s.Call o w es })
      ≡ stmt_step span (StmtKind-F.Call o w es)
  call span o w es = at_stmt_layer span (StmtKind-F.Call o w es) _ (s.rolls-Call o w es)

  pub branch : (span : Span) (e : Expr) (xs ys : List Stmt) → run (record { span = span; kind = s.If e xs ys })
      ≡ stmt_step span (StmtKind-F.If e (map run xs) (map run ys))
  branch span e xs ys = at_stmt_layer span (StmtKind-F.If e xs ys) _ (s.rolls-If e xs ys)

  pub counted : (span : Span) (r : Range) (c : Contract) (xs : List Stmt) → run (record { span = span; kind = s.For r c xs })
      ≡ stmt_step span (StmtKind-F.For r c (map run xs))
  counted span r c xs = at_stmt_layer span (StmtKind-F.For r c xs) _ (s.rolls-For r c xs)

  pub par : (span : Span) (o : Option Word) (r : Range) (c : Contract) (xs : List Stmt)
      → run (record { span = span; kind = s.Par o r c xs }) ≡ stmt_step span (StmtKind-F.Par o r c (map run xs))
  par span o r c xs = at_stmt_layer span (StmtKind-F.Par o r c xs) _ (s.rolls-Par o r c xs)

  pub barrier : (span : Span) (w : Word) (c : Contract) → run (record { span = span; kind = s.Barrier w c })
      ≡ stmt_step span (StmtKind-F.Barrier w c)
  barrier span w c = at_stmt_layer span (StmtKind-F.Barrier w c) _ (s.rolls-Barrier w c)

  pub fork : (span : Span) (e : Expr) → run (record { span = span; kind = s.Fork e }) ≡ stmt_step span (StmtKind-F.Fork e)
  fork span e = at_stmt_layer span (StmtKind-F.Fork e) _ (s.rolls-Fork e)

  pub lock : (span : Span) (e : Expr) → run (record { span = span; kind = s.Lock e }) ≡ stmt_step span (StmtKind-F.Lock e)
  lock span e = at_stmt_layer span (StmtKind-F.Lock e) _ (s.rolls-Lock e)

  pub unlock : (span : Span) (e : Expr) → run (record { span = span; kind = s.Unlock e }) ≡ stmt_step span (StmtKind-F.Unlock e)
  unlock span e = at_stmt_layer span (StmtKind-F.Unlock e) _ (s.rolls-Unlock e)

  pub commit : (span : Span) (e : Expr) → run (record { span = span; kind = s.Commit e }) ≡ stmt_step span (StmtKind-F.Commit e)
  commit span e = at_stmt_layer span (StmtKind-F.Commit e) _ (s.rolls-Commit e)

  pub folds : (span : Span) (o : Option Expr) (w : Word) (es : List Expr) → run (record { span = span; kind = s.Fold o w es })
      ≡ stmt_step span (StmtKind-F.Fold o w es)
  folds span o w es = at_stmt_layer span (StmtKind-F.Fold o w es) _ (s.rolls-Fold o w es)

  pub unfolds : (span : Span) (o : Option Expr) (w : Word) (es : List Expr) → run (record { span = span; kind = s.Unfold o w es })
      ≡ stmt_step span (StmtKind-F.Unfold o w es)
  unfolds span o w es = at_stmt_layer span (StmtKind-F.Unfold o w es) _ (s.rolls-Unfold o w es)

  pub send : (span : Span) (w : Word) (n : ℕ) (e : Expr) → run (record { span = span; kind = s.Send w n e })
      ≡ stmt_step span (StmtKind-F.Send w n e)
  send span w n e = at_stmt_layer span (StmtKind-F.Send w n e) _ (s.rolls-Send w n e)

  pub recv : (span : Span) (w : Word) → run (record { span = span; kind = s.Recv w }) ≡ stmt_step span (StmtKind-F.Recv w)
  recv span w = at_stmt_layer span (StmtKind-F.Recv w) _ (s.rolls-Recv w)
