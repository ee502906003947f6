-- The faults of a statement, by those of its parts.
use Rattle.std.proofs.Common.{◌≡◌, Option, List, ◌∷◌, map, sym, ◌∙◌, ap}
use Rattle.pv_ast.specs.declared.Word.{Word}
use Rattle.pv_ast.specs.declared.Expr.{Expr}
use Rattle.pv_ast.specs.declared.Right.{Right}
use Rattle.pv_ast.specs.declared.Range.{Range}
use Rattle.pv_ast.specs.declared.Contract.{Contract}
use Rattle.pv_ast.specs.declared.Stmt.{Stmt}
use Rattle.pv_ast.specs.declared.StmtKind.{StmtKind-F, fold-roll-StmtKind}
use Rattle.pv_ast.specs.declared.StmtKind.TheVariants as kind
use Rattle.pv_ast.specs.declared.fault.ShapeFault.{ShapeFault}
use Rattle.pv_ast.specs.Rules.Shapes.{Environment, faults_in_stmt_kind, faults_in_stmt, faults_of_stmt, faults_of_stmt_kind, faults_of_block, earlier, first_of}
use Rattle.pv_shapes.proofs.Order.{first_append, earlier_assoc}

abbrev Faults : Type 0
Faults = Environment → List ShapeFault

pub at_assign : (e : Expr) (r : Right) → faults_of_stmt_kind (kind.Assign e r) ≡ faults_in_stmt_kind (StmtKind-F.Assign e r)
at_assign e r =
    ap faults_of_stmt_kind (sym (kind.rolls-Assign e r))
    ∙ fold-roll-StmtKind Faults Faults faults_in_stmt_kind faults_in_stmt (StmtKind-F.Assign e r)

pub at_if : (e : Expr) (a b : List Stmt)
    → faults_of_stmt_kind (kind.If e a b) ≡ faults_in_stmt_kind (StmtKind-F.If e (map faults_of_stmt a) (map faults_of_stmt b))
at_if e a b =
    ap faults_of_stmt_kind (sym (kind.rolls-If e a b))
    ∙ fold-roll-StmtKind Faults Faults faults_in_stmt_kind faults_in_stmt (StmtKind-F.If e a b)

pub at_while : (es : List Expr) (e : Expr) (b : List Stmt)
    → faults_of_stmt_kind (kind.While es e b) ≡ faults_in_stmt_kind (StmtKind-F.While es e (map faults_of_stmt b))
at_while es e b =
    ap faults_of_stmt_kind (sym (kind.rolls-While es e b))
    ∙ fold-roll-StmtKind Faults Faults faults_in_stmt_kind faults_in_stmt (StmtKind-F.While es e b)

pub at_for : (r : Range) (c : Contract) (b : List Stmt)
    → faults_of_stmt_kind (kind.For r c b) ≡ faults_in_stmt_kind (StmtKind-F.For r c (map faults_of_stmt b))
at_for r c b =
    ap faults_of_stmt_kind (sym (kind.rolls-For r c b))
    ∙ fold-roll-StmtKind Faults Faults faults_in_stmt_kind faults_in_stmt (StmtKind-F.For r c b)

pub at_par : (w : Option Word) (r : Range) (c : Contract) (b : List Stmt)
    → faults_of_stmt_kind (kind.Par w r c b) ≡ faults_in_stmt_kind (StmtKind-F.Par w r c (map faults_of_stmt b))
at_par w r c b =
    ap faults_of_stmt_kind (sym (kind.rolls-Par w r c b))
    ∙ fold-roll-StmtKind Faults Faults faults_in_stmt_kind faults_in_stmt (StmtKind-F.Par w r c b)

-- the first of what is left, behind one more statement
pub statement_more : (environment : Environment) (a : Option ShapeFault) (s : Stmt) (ss : List Stmt)
    → earlier (earlier a (first_of (faults_of_stmt s environment))) (first_of (faults_of_block ss environment))
    ≡ earlier a (first_of (faults_of_block (s ∷ ss) environment))
statement_more environment a s ss =
    earlier_assoc a (first_of (faults_of_stmt s environment)) (first_of (faults_of_block ss environment))
    ∙ ap (earlier a) (sym (first_append (faults_of_stmt s environment) (faults_of_block ss environment)))
