use Rattle.std.proofs.Common.{sym, ◌∙◌, ap}
use Rattle.pv_ast.specs.Rules.Expressions.{CheckedExpression, typing_in}
use Rattle.pv_picks.specs.Elaborating.Names.{class_at}
use Rattle.core_trees.proofs.Layers.{checked_in_elaborated}
use Rattle.pv_plain.specs.Sights.{around, in_scope}
use Rattle.pv_plain.proofs.simple.target.Goals as goal

pub returns-in_ok-expression-in-Some-clause-class : goal.returns-in_ok-expression-in-Some-clause-class
returns-in_ok-expression-in-Some-clause-class c =
    rw c.in-Some.is
    (c.class_at.ensures
    ∙ ap (λ (p : CheckedExpression). class_at (typing_in p (around c.args.sight) (in_scope c.args.sight)))
    (sym (checked_in_elaborated c.in-Some.e)))
