use Rattle.std.proofs.Common.{◌≡◌, drop}
use Rattle.pv_ast.specs.Rules.Shapes.{earlier, first_of, quantifiers_in_all}
use Rattle.pv_shapes.proofs.quantifiers.+quantifiers.Given as goal

abbrev pub invariant-quantifier_in_all-loop-e : goal.invariant-quantifier_in_all-loop-e
invariant-quantifier_in_all-loop-e l =
    earlier l.first (first_of (quantifiers_in_all (drop l.e-index l.es))) ≡ first_of (quantifiers_in_all l.es)
