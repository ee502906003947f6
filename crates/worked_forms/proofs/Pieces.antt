-- Statements that compute: what a fold gives at the statement of each.
use Rattle.std.proofs.Common.{◌≡◌, ℕ, refl, ◌∙◌, ap, Option, Some, None, List, [], ◌∷◌}
use Rattle.std.specs.Prelude.{map}
use Rattle.pv_base.specs.declared.Span.{Span}
use Rattle.pv_ast.specs.declared.Word.{Word}
use Rattle.pv_ast.specs.declared.TypeWord.{TypeWord}
use Rattle.pv_ast.specs.declared.Contract.{Contract}
use Rattle.pv_ast.specs.declared.Range.{Range}
use Rattle.pv_ast.specs.declared.Right.{Right}
use Rattle.pv_ast.specs.declared.RightKind.TheVariants as r
use Rattle.pv_ast.specs.declared.Stmt.{Stmt, Stmt-F}
use Rattle.pv_ast.specs.declared.StmtKind.{StmtKind-F}
use Rattle.pv_ast.specs.declared.StmtKind.TheVariants as s
use Rattle.pv_ast.specs.declared.fault.ShapeFault.{ShapeFault}
use Rattle.pv_ast.specs.Rules.Statements.{CheckedStatement, CheckedStatementKind, checked_in_statement_kind, checked_in_statement}
use Rattle.pv_ast.specs.Rules.Shapes.{Environment, faults_in_stmt_kind, faults_in_stmt}
use Rattle.worked_forms.proofs.Folds.{run, local, assign, call, branch, counted, par, barrier, fork, lock, unlock, commit, folds, unfolds, send, recv}
use Rattle.worked_forms.proofs.Trees.{Tree, tree_of}

mutual
  pub data Piece : Type 0 where
    -- a local holds a new object: its type, its name, where the right side stands, the class
    New : Span → TypeWord → Word → Span → Word → Piece
    -- a local holds a value: its type, its name, where the value stands, the value
    Let : Span → TypeWord → Word → Span → Tree → Piece
    -- a value is assigned: where, the place, where the value stands, the value
    Assign : Span → Tree → Span → Tree → Piece
    -- on an object, without arguments
    Call : Span → Tree → Word → Piece
    If : Span → Tree → Pieces → Pieces → Piece
    For : Span → Range → Contract → Pieces → Piece
    Par : Span → Option Word → Range → Contract → Pieces → Piece
    Barrier : Span → Word → Contract → Piece
    Fork Lock Unlock Commit : Span → Tree → Piece
    -- on `this`, without arguments
    Fold Unfold : Span → Word → Piece
    -- on an object, without arguments
    FoldOf : Span → Tree → Word → Piece
    Send : Span → Word → ℕ → Tree → Piece
    Recv : Span → Word → Piece

  pub data Pieces : Type 0 where
    End : Pieces
    Next : Piece → Pieces → Pieces

abbrev pub value_of : Span → Tree → Right
value_of p e = record { span = p; kind = r.Value (tree_of e) }

abbrev pub made : Span → Word → Right
made p w = record { span = p; kind = r.NewObject w }

abbrev mutual
  pub stmt_of : Piece → Stmt
  stmt_of (New p t w q c) = record { span = p; kind = s.Local t w (Some (made q c)) }
  stmt_of (Let p t w q v) = record { span = p; kind = s.Local t w (Some (value_of q v)) }
  stmt_of (Assign p e q v) = record { span = p; kind = s.Assign (tree_of e) (value_of q v) }
  stmt_of (Call p e w) = record { span = p; kind = s.Call (Some (tree_of e)) w [] }
  stmt_of (If p e xs ys) = record { span = p; kind = s.If (tree_of e) (stmts_of xs) (stmts_of ys) }
  stmt_of (For p range contract xs) = record { span = p; kind = s.For range contract (stmts_of xs) }
  stmt_of (Par p w range contract xs) = record { span = p; kind = s.Par w range contract (stmts_of xs) }
  stmt_of (Barrier p w contract) = record { span = p; kind = s.Barrier w contract }
  stmt_of (Fork p e) = record { span = p; kind = s.Fork (tree_of e) }
  stmt_of (Lock p e) = record { span = p; kind = s.Lock (tree_of e) }
  stmt_of (Unlock p e) = record { span = p; kind = s.Unlock (tree_of e) }
  stmt_of (Commit p e) = record { span = p; kind = s.Commit (tree_of e) }
  stmt_of (FoldOf p e w) = record { span = p; kind = s.Fold (Some (tree_of e)) w [] }
  stmt_of (Fold p w) = record { span = p; kind = s.Fold None w [] }
  stmt_of (Unfold p w) = record { span = p; kind = s.Unfold None w [] }
  stmt_of (Send p w n e) = record { span = p; kind = s.Send w n (tree_of e) }
  stmt_of (Recv p w) = record { span = p; kind = s.Recv w }

  pub stmts_of : Pieces → List Stmt
  stmts_of End = []
  stmts_of (Next x xs) = stmt_of x ∷ stmts_of xs

module _ (K S : Type 0) (in_kind : StmtKind-F K S → K) (in_stmt : Stmt-F K S → S) where
  abbrev pub at_node : Span → StmtKind-F K S → S
  at_node p l = in_stmt (record { span = p; kind = in_kind l })

  abbrev mutual
    pub given : Piece → S
    given (New p t w q c) = at_node p (StmtKind-F.Local t w (Some (made q c)))
    given (Let p t w q v) = at_node p (StmtKind-F.Local t w (Some (value_of q v)))
    given (Assign p e q v) = at_node p (StmtKind-F.Assign (tree_of e) (value_of q v))
    given (Call p e w) = at_node p (StmtKind-F.Call (Some (tree_of e)) w [])
    given (If p e xs ys) = at_node p (StmtKind-F.If (tree_of e) (all_given xs) (all_given ys))
    given (For p range contract xs) = at_node p (StmtKind-F.For range contract (all_given xs))
    given (Par p w range contract xs) = at_node p (StmtKind-F.Par w range contract (all_given xs))
    given (Barrier p w contract) = at_node p (StmtKind-F.Barrier w contract)
    given (Fork p e) = at_node p (StmtKind-F.Fork (tree_of e))
    given (Lock p e) = at_node p (StmtKind-F.Lock (tree_of e))
    given (Unlock p e) = at_node p (StmtKind-F.Unlock (tree_of e))
    given (Commit p e) = at_node p (StmtKind-F.Commit (tree_of e))
    given (FoldOf p e w) = at_node p (StmtKind-F.Fold (Some (tree_of e)) w [])
    given (Fold p w) = at_node p (StmtKind-F.Fold None w [])
    given (Unfold p w) = at_node p (StmtKind-F.Unfold None w [])
    given (Send p w n e) = at_node p (StmtKind-F.Send w n (tree_of e))
    given (Recv p w) = at_node p (StmtKind-F.Recv w)

    pub all_given : Pieces → List S
    all_given End = []
    all_given (Next x xs) = given x ∷ all_given xs

  mutual
    pub agrees : (x : Piece) → run K S in_kind in_stmt (stmt_of x) ≡ given x
    agrees (New p t w q c) = local K S in_kind in_stmt p t w (Some (made q c))
    agrees (Let p t w q v) = local K S in_kind in_stmt p t w (Some (value_of q v))
    agrees (Assign p e q v) = assign K S in_kind in_stmt p (tree_of e) (value_of q v)
    agrees (Call p e w) = call K S in_kind in_stmt p (Some (tree_of e)) w []
    agrees (If p e xs ys) =
        branch K S in_kind in_stmt p (tree_of e) (stmts_of xs) (stmts_of ys)
        ∙ ap (λ l. at_node p (StmtKind-F.If (tree_of e) l (map (run K S in_kind in_stmt) (stmts_of ys)))) (all_agree xs)
        ∙ ap (λ l. at_node p (StmtKind-F.If (tree_of e) (all_given xs) l)) (all_agree ys)
    agrees (For p range contract xs) =
        counted K S in_kind in_stmt p range contract (stmts_of xs)
        ∙ ap (λ l. at_node p (StmtKind-F.For range contract l)) (all_agree xs)
    agrees (Par p w range contract xs) =
        par K S in_kind in_stmt p w range contract (stmts_of xs)
        ∙ ap (λ l. at_node p (StmtKind-F.Par w range contract l)) (all_agree xs)
    agrees (Barrier p w contract) = barrier K S in_kind in_stmt p w contract
    agrees (Fork p e) = fork K S in_kind in_stmt p (tree_of e)
    agrees (Lock p e) = lock K S in_kind in_stmt p (tree_of e)
    agrees (Unlock p e) = unlock K S in_kind in_stmt p (tree_of e)
    agrees (Commit p e) = commit K S in_kind in_stmt p (tree_of e)
    agrees (FoldOf p e w) = folds K S in_kind in_stmt p (Some (tree_of e)) w []
    agrees (Fold p w) = folds K S in_kind in_stmt p None w []
    agrees (Unfold p w) = unfolds K S in_kind in_stmt p None w []
    agrees (Send p w n e) = send K S in_kind in_stmt p w n (tree_of e)
    agrees (Recv p w) = recv K S in_kind in_stmt p w

    pub all_agree : (xs : Pieces) → map (run K S in_kind in_stmt) (stmts_of xs) ≡ all_given xs
    all_agree End = refl
    all_agree (Next x xs) =
        ap (λ y. y ∷ map (run K S in_kind in_stmt) (stmts_of xs)) (agrees x) ∙ ap (λ l. given x ∷ l) (all_agree xs)

-- for what the rules say, and for shapes
pub statement_checked : (x : Piece)
    → run CheckedStatementKind CheckedStatement checked_in_statement_kind checked_in_statement (stmt_of x)
    ≡ given CheckedStatementKind CheckedStatement checked_in_statement_kind checked_in_statement x
statement_checked = agrees CheckedStatementKind CheckedStatement checked_in_statement_kind checked_in_statement

pub statement_shaped : (x : Piece)
    → run (Environment → List ShapeFault) (Environment → List ShapeFault) faults_in_stmt_kind faults_in_stmt (stmt_of x)
    ≡ given (Environment → List ShapeFault) (Environment → List ShapeFault) faults_in_stmt_kind faults_in_stmt x
statement_shaped = agrees (Environment → List ShapeFault) (Environment → List ShapeFault) faults_in_stmt_kind faults_in_stmt
