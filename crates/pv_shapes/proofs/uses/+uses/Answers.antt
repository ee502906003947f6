use Rattle.std.proofs.Common.{rules}
use Rattle.pv_ast.specs.Rules.Items as items
use Rattle.pv_shapes.proofs.Layers.{at_index, at_binary}
use Rattle.pv_shapes.proofs.Using.{used_index, used_both}
use Rattle.pv_shapes.proofs.uses.+uses.Goals as goal

pub uses_in-returns-then-uses_variable : goal.uses_in-returns-then-uses_variable
uses_in-returns-then-uses_variable t c =
    let e = used_index ((items.shape_of c.in-Index.a).facts c.args.name.0) ((items.shape_of c.in-Index.b).facts c.args.name.0) in
    rw (c.in-Index.is, at_index c.in-Index.a c.in-Index.b, e) (search rules)

pub uses_in-returns-else-uses_variable : goal.uses_in-returns-else-uses_variable
uses_in-returns-else-uses_variable t c =
    let e = used_index ((items.shape_of c.in-Index.a).facts c.args.name.0) ((items.shape_of c.in-Index.b).facts c.args.name.0) in
    rw (c.in-Index.is, at_index c.in-Index.a c.in-Index.b, e) (search rules)

pub uses_in-returns-then-uses_variable-2 : goal.uses_in-returns-then-uses_variable-2
uses_in-returns-then-uses_variable-2 t c =
    rw (c.in-Binary.is, at_binary c.in-Binary.field-0 c.in-Binary.a c.in-Binary.b, used_both) (search rules)
