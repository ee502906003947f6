-- What the rules say of a statement with others in it, by what stands in them.
use Rattle.std.proofs.Common.{◌≡◌, Option, List, sym, ◌∙◌, ap}
use Rattle.pv_ast.specs.declared.Word.{Word}
use Rattle.pv_ast.specs.declared.Expr.{Expr}
use Rattle.pv_ast.specs.declared.Range.{Range}
use Rattle.pv_ast.specs.declared.Contract.{Contract}
use Rattle.pv_ast.specs.declared.Stmt.{Stmt}
use Rattle.pv_ast.specs.declared.StmtKind.{StmtKind, StmtKind-F, fold-roll-StmtKind}
use Rattle.pv_ast.specs.declared.StmtKind.TheVariants as kind
use Rattle.pv_ast.specs.Rules.Statements.{CheckedStatement, CheckedStatementKind, checked_statement_kind, parts_of_block, checked_in_statement_kind, checked_in_statement}

pub if_kind : (k : StmtKind) (condition : Expr) (first second : List Stmt) → k ≡ kind.If condition first second
    → checked_statement_kind k ≡ checked_in_statement_kind
    (StmtKind-F.If condition (parts_of_block first) (parts_of_block second))
if_kind k condition first second is =
    ap checked_statement_kind is ∙ ap checked_statement_kind (sym (kind.rolls-If condition first second))
    ∙ fold-roll-StmtKind CheckedStatementKind CheckedStatement checked_in_statement_kind checked_in_statement
    (StmtKind-F.If condition first second)

pub while_kind : (k : StmtKind) (invariants : List Expr) (condition : Expr) (body : List Stmt)
    → k ≡ kind.While invariants condition body
    → checked_statement_kind k ≡ checked_in_statement_kind (StmtKind-F.While invariants condition (parts_of_block body))
while_kind k invariants condition body is =
    ap checked_statement_kind is ∙ ap checked_statement_kind (sym (kind.rolls-While invariants condition body))
    ∙ fold-roll-StmtKind CheckedStatementKind CheckedStatement checked_in_statement_kind checked_in_statement
    (StmtKind-F.While invariants condition body)

pub for_kind : (k : StmtKind) (range : Range) (contract : Contract) (body : List Stmt) → k ≡ kind.For range contract body
    → checked_statement_kind k ≡ checked_in_statement_kind (StmtKind-F.For range contract (parts_of_block body))
for_kind k range contract body is =
    ap checked_statement_kind is ∙ ap checked_statement_kind (sym (kind.rolls-For range contract body))
    ∙ fold-roll-StmtKind CheckedStatementKind CheckedStatement checked_in_statement_kind checked_in_statement
    (StmtKind-F.For range contract body)

pub par_kind : (k : StmtKind) (name : Option Word) (range : Range) (contract : Contract) (body : List Stmt)
    → k ≡ kind.Par name range contract body
    → checked_statement_kind k ≡ checked_in_statement_kind (StmtKind-F.Par name range contract (parts_of_block body))
par_kind k name range contract body is =
    ap checked_statement_kind is ∙ ap checked_statement_kind (sym (kind.rolls-Par name range contract body))
    ∙ fold-roll-StmtKind CheckedStatementKind CheckedStatement checked_in_statement_kind checked_in_statement
    (StmtKind-F.Par name range contract body)
