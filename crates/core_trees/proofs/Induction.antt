-- The induction over expressions, and that over statements, layer by layer: each tree has a law if a tree has it whose parts have
-- it. So too of what a fold gives: each value has a law if a step of the fold gives one that has it from values that have it.
use Rattle.std.proofs.Common.{List, [], ◌∷◌, map, sym, subst}
use Rattle.std.specs.List.{AllByRecursion}
use Rattle.pv_base.specs.declared.Span.{Span}
use Rattle.pv_ast.specs.declared.Expr.{Expr, Expr-F, ind-Expr, roll-Expr, map-Expr, fold-Expr, fold-roll-Expr}
use Rattle.pv_ast.specs.declared.ExprKind.{ExprKind, ExprKind-F, roll-ExprKind, map-ExprKind, fold-ExprKind, fold-roll-ExprKind}
use Rattle.pv_ast.specs.declared.Each.{Each, Each-F, roll-Each, map-Each, fold-Each, fold-roll-Each}
use Rattle.pv_ast.specs.declared.Stmt.{Stmt, Stmt-F, ind-Stmt, roll-Stmt, map-Stmt}
use Rattle.pv_ast.specs.declared.StmtKind.{StmtKind, StmtKind-F, roll-StmtKind, map-StmtKind}

-- what is made of trees, each of which has the law
pub all_with : {A B : Type 0} (f : A → B) (Law : B → Type 0) (xs : List ((x : A) × Law (f x)))
    → AllByRecursion Law (map f (map (λ x. x.0) xs))
all_with f Law [] = tt
all_with f Law (x ∷ xs) = (x.1, all_with f Law xs)

pub all_made : {A B : Type 0} (f : A → B) (Law : B → Type 0) → ((x : A) → Law (f x)) → (xs : List A)
    → AllByRecursion Law (map f xs)
all_made f Law law [] = tt
all_made f Law law (x ∷ xs) = (law x, all_made f Law law xs)

-- Expressions, by a law of kinds, of quantifiers and of expressions
module _ (KindLaw : ExprKind → Type 0) (EachLaw : Each → Type 0) (ExprLaw : Expr → Type 0) where
  abbrev pub Kinds : Type 0
  Kinds = (k : ExprKind) × KindLaw k

  abbrev pub Eaches : Type 0
  Eaches = (q : Each) × EachLaw q

  abbrev pub Exprs : Type 0
  Exprs = (e : Expr) × ExprLaw e

  -- a layer of trees that have the law, without their laws
  abbrev pub trees : ExprKind-F Kinds Eaches Exprs → ExprKind-F ExprKind Each Expr
  trees = map-ExprKind Kinds Eaches Exprs ExprKind Each Expr (λ e. e.0) (λ e. e.0) (λ e. e.0)

  abbrev pub trees_of_each : Each-F Kinds Eaches Exprs → Each-F ExprKind Each Expr
  trees_of_each = map-Each Kinds Eaches Exprs ExprKind Each Expr (λ e. e.0) (λ e. e.0) (λ e. e.0)

  abbrev pub trees_of_expr : Expr-F Kinds Eaches Exprs → Expr-F ExprKind Each Expr
  trees_of_expr = map-Expr Kinds Eaches Exprs ExprKind Each Expr (λ e. e.0) (λ e. e.0) (λ e. e.0)

  -- each expression has the law, by the step of a kind, of a quantifier and of an expression
  pub expr_induction : ((y : ExprKind-F Kinds Eaches Exprs) → KindLaw (roll-ExprKind (trees y)))
      → ((y : Each-F Kinds Eaches Exprs) → EachLaw (roll-Each (trees_of_each y)))
      → ((y : Expr-F Kinds Eaches Exprs) → ExprLaw (roll-Expr (trees_of_expr y))) → (e : Expr) → ExprLaw e
  expr_induction kind each expr =
      ind-Expr KindLaw EachLaw ExprLaw
      (λ x y is. subst (λ (z : ExprKind-F ExprKind Each Expr). KindLaw (roll-ExprKind z)) is (kind y))
      (λ x y is. subst (λ (z : Each-F ExprKind Each Expr). EachLaw (roll-Each z)) is (each y))
      (λ x y is. subst (λ (z : Expr-F ExprKind Each Expr). ExprLaw (roll-Expr z)) is (expr y))

-- What a fold of expressions gives, by a law of what it gives of kinds, of quantifiers and of expressions
module _ (K Q P : Type 0) (in_kind : ExprKind-F K Q P → K) (in_each : Each-F K Q P → Q) (in_expr : Expr-F K Q P → P)
    (KindLaw : K → Type 0) (EachLaw : Q → Type 0) (Law : P → Type 0) where
  abbrev of_kind : ExprKind → K
  of_kind = fold-ExprKind K Q P in_kind in_each in_expr

  abbrev of_each : Each → Q
  of_each = fold-Each K Q P in_kind in_each in_expr

  abbrev of_expr : Expr → P
  of_expr = fold-Expr K Q P in_kind in_each in_expr

  abbrev KindsWith : Type 0
  KindsWith = (k : ExprKind) × KindLaw (of_kind k)

  abbrev EachesWith : Type 0
  EachesWith = (q : Each) × EachLaw (of_each q)

  abbrev ExprsWith : Type 0
  ExprsWith = (e : Expr) × Law (of_expr e)

  -- a step of the fold gives what has the law, from parts that have it
  abbrev pub LayerStep : Type 0
  LayerStep = (y : ExprKind-F KindsWith EachesWith ExprsWith)
      → KindLaw (in_kind (map-ExprKind ExprKind Each Expr K Q P of_kind of_each of_expr
      (map-ExprKind KindsWith EachesWith ExprsWith ExprKind Each Expr (λ e. e.0) (λ e. e.0) (λ e. e.0) y)))

  abbrev pub EachStep : Type 0
  EachStep = (y : Each-F KindsWith EachesWith ExprsWith)
      → EachLaw (in_each (map-Each ExprKind Each Expr K Q P of_kind of_each of_expr
      (map-Each KindsWith EachesWith ExprsWith ExprKind Each Expr (λ e. e.0) (λ e. e.0) (λ e. e.0) y)))

  abbrev pub ExprStep : Type 0
  ExprStep = (span : Span) (k : K) → KindLaw k → Law (in_expr (record { span = span; kind = k }))

  -- what the fold gives of each expression has the law
  pub fold_induction : LayerStep → EachStep → ExprStep → (e : Expr) → Law (of_expr e)
  fold_induction kind each expr =
      expr_induction (λ k. KindLaw (of_kind k)) (λ q. EachLaw (of_each q)) (λ e. Law (of_expr e))
      (λ y. subst KindLaw (sym (fold-roll-ExprKind K Q P in_kind in_each in_expr _)) (kind y))
      (λ y. subst EachLaw (sym (fold-roll-Each K Q P in_kind in_each in_expr _)) (each y))
      (λ y. subst Law (sym (fold-roll-Expr K Q P in_kind in_each in_expr _)) (expr y.span (of_kind y.kind.0) y.kind.1))

-- Statements, by a law of kinds and of statements
module _ (KindLaw : StmtKind → Type 0) (StmtLaw : Stmt → Type 0) where
  abbrev pub StmtKinds : Type 0
  StmtKinds = (k : StmtKind) × KindLaw k

  abbrev pub Stmts : Type 0
  Stmts = (s : Stmt) × StmtLaw s

  abbrev pub stmt_trees : StmtKind-F StmtKinds Stmts → StmtKind-F StmtKind Stmt
  stmt_trees = map-StmtKind StmtKinds Stmts StmtKind Stmt (λ e. e.0) (λ e. e.0)

  abbrev pub trees_of_stmt : Stmt-F StmtKinds Stmts → Stmt-F StmtKind Stmt
  trees_of_stmt = map-Stmt StmtKinds Stmts StmtKind Stmt (λ e. e.0) (λ e. e.0)

  -- each statement has the law, by the step of a kind and of a statement
  pub stmt_induction : ((y : StmtKind-F StmtKinds Stmts) → KindLaw (roll-StmtKind (stmt_trees y)))
      → ((y : Stmt-F StmtKinds Stmts) → StmtLaw (roll-Stmt (trees_of_stmt y))) → (s : Stmt) → StmtLaw s
  stmt_induction kind stmt =
      ind-Stmt KindLaw StmtLaw (λ x y is. subst (λ (z : StmtKind-F StmtKind Stmt). KindLaw (roll-StmtKind z)) is (kind y))
      (λ x y is. subst (λ (z : Stmt-F StmtKind Stmt). StmtLaw (roll-Stmt z)) is (stmt y))
