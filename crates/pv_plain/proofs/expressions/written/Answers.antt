use Rattle.std.proofs.Common.{sym, ap}
use Rattle.pv_ast.specs.declared.ExprKind.{ExprKind-F}
use Rattle.pv_ast.specs.declared.ExprKind.TheVariants as tree
use Rattle.core_trees.proofs.Equations.{shown}
use Rattle.pv_plain.proofs.Others.{written_none}
use Rattle.pv_plain.proofs.expressions.written.Goals as goal

pub returns-in-Number : goal.returns-in-Number
returns-in-Number c =
    sym (ap (λ p. p.written) (shown c.args.e.now (ExprKind-F.Number c.in-Number.n) (tree.Number c.in-Number.n) c.in-Number.is
    (tree.rolls-Number c.in-Number.n)))

pub returns-in_default : goal.returns-in_default
returns-in_default c = written_none c.args.e.now c.in_default.not-Number
