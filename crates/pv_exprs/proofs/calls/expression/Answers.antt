use Rattle.std.proofs.Common.{refl}
use Rattle.pv_reading.proofs.Calls as calls
use Rattle.pv_exprs.proofs.Trees.{expression_exact, expression_good, expression_fails}
use Rattle.pv_exprs.proofs.calls.expression.Goals as goal

pub overflow_sub-result : goal.overflow_sub-result
overflow_sub-result c =
    calls.from_left (expression_exact c.args.depth c.requires.depth) refl c.args.tokens.now.end c.args.tokens.now.items
    c.tokens_from-front.result.now c.args.from c.tokens_from-front.ensures
    c.len.result c.in-Ok.rest.now c.in-Ok.part.tree c.len.ensures
    (expression_good c.args.depth c.tokens_from-front.result.now c.in-Ok.rest.now c.in-Ok.part c.in-Ok.ensures)

pub returns-in-Ok-clause-reads : goal.returns-in-Ok-clause-reads
returns-in-Ok-clause-reads c =
    rw c.into_tree.ensures
    (calls.from_good (expression_exact c.args.depth c.requires.depth) refl c.args.tokens.now.end c.args.tokens.now.items
    c.tokens_from-front.result.now c.args.from c.tokens_from-front.ensures
    c.len.result c.in-Ok.rest.now c.in-Ok.part.tree c.requires.from c.len.ensures
    (expression_good c.args.depth c.tokens_from-front.result.now c.in-Ok.rest.now c.in-Ok.part c.in-Ok.ensures))

pub returns-in-Ok-clause-accepts : goal.returns-in-Ok-clause-accepts
returns-in-Ok-clause-accepts c = λ e taken l.
    rw c.into_tree.ensures
    (calls.from_only (expression_exact c.args.depth c.requires.depth) refl c.args.tokens.now.end c.args.tokens.now.items
    c.tokens_from-front.result.now c.args.from c.tokens_from-front.ensures
    c.len.result c.in-Ok.rest.now c.in-Ok.part.tree e taken c.requires.from c.len.ensures
    (expression_good c.args.depth c.tokens_from-front.result.now c.in-Ok.rest.now c.in-Ok.part c.in-Ok.ensures) l)

pub returns-in-Err-clause-reads : goal.returns-in-Err-clause-reads
returns-in-Err-clause-reads c =
    calls.from_fails (expression_exact c.args.depth c.requires.depth) refl c.args.tokens.now.end c.args.tokens.now.items
    c.tokens_from-front.result.now c.args.from c.tokens_from-front.ensures
    c.in-Err.fault c.placed.result c.placed.ensures
    (expression_fails c.args.depth c.tokens_from-front.result.now c.in-Err.fault c.in-Err.ensures)

pub returns-in-Err-clause-accepts : goal.returns-in-Err-clause-accepts
returns-in-Err-clause-accepts c =
    calls.from_nothing (expression_exact c.args.depth c.requires.depth) refl c.args.tokens.now.end c.args.tokens.now.items
    c.tokens_from-front.result.now c.args.from c.tokens_from-front.ensures
    c.in-Err.fault c.placed.result c.placed.ensures
    (expression_fails c.args.depth c.tokens_from-front.result.now c.in-Err.fault c.in-Err.ensures)
