use Rattle.std.proofs.Common.{rules, ◌+◌, drop, arith}
use Rattle.std.proofs.lemmas.Grind.{common_steps}
use Rattle.pv_ast.specs.Rules.Items as items
use Rattle.pv_ast.specs.Rules.Shapes as shapes
use Rattle.pv_shapes.proofs.Order.{first_append, first_more, flat_map_map}
use Rattle.pv_shapes.proofs.Layers.{at_index, at_binary, at_instance}
use Rattle.pv_shapes.proofs.quantifiers.+quantifiers.Goals as goal

pub quantifier_in_all-loop-e-preserved : goal.quantifier_in_all-loop-e-preserved
quantifier_in_all-loop-e-preserved t c =
    grind (
      arith,
      common_steps,
      first_more shapes.quantifiers_in c.loop-e.first c.e-item.result
          (drop (c.loop-e.e-index + 1) c.args.es.now),
    )

pub quantifier_in_kind-returns-in-Instance : goal.quantifier_in_kind-returns-in-Instance
quantifier_in_kind-returns-in-Instance t c =
    rw (
      c.in-Instance.is,
      at_instance c.in-Instance.target c.in-Instance.field-1 c.in-Instance.args,
      flat_map_map items.shape_of (λ e. e.quantifiers) c.in-Instance.args,
      first_append,
    ) (search rules)

pub quantifier_in_kind-returns-in-Index : goal.quantifier_in_kind-returns-in-Index
quantifier_in_kind-returns-in-Index t c = rw (c.in-Index.is, at_index c.in-Index.a c.in-Index.b, first_append) (search rules)

pub quantifier_in_kind-returns-in-Binary : goal.quantifier_in_kind-returns-in-Binary
quantifier_in_kind-returns-in-Binary t c =
    rw (c.in-Binary.is, at_binary c.in-Binary.field-0 c.in-Binary.a c.in-Binary.b, first_append) (search rules)
