-- The reader's definition computes.
use Rattle.std.proofs.Common.{refl}
use Rattle.pv_parser.specs.Reading as p
use Rattle.pv_clauses.specs.Reading as c
use Rattle.pv_exprs.specs.Reading as x
use Rattle.pv_reading.specs.Reading as r
use Rattle.worked_texts.specs.Readings.{WitnessesRead}

pub witnesses_read : WitnessesRead
unfolding p.type_from p.type_word p.param p.param_list p.params p.value_from p.right_from p.right_walk p.made p.right p.condition
    p.range_in p.range p.block p.formula_end p.expr_end p.right_end p.call_end p.local_end p.local p.place_or_call p.name_stmt
    p.this_stmt p.otherwise p.else_from p.choice p.while_end p.invariant p.invariants p.invariant_loop p.counted p.parallel_end
    p.parallel p.barrier p.action p.folding_from p.folding p.assertion p.send p.recv p.returned p.word_stmt p.block_stmt p.stmt
    p.result_type p.method_end p.run_end p.contracted p.contract_member p.predicate p.typed p.typed_member p.member
    p.deeper_blocks p.class_end p.class_from p.classes p.program c.clause c.clauses x.steps_or x.steps x.ended x.args
    x.instance_or x.walk x.group x.amount x.bounds x.quantified x.formula_grouped x.formula_group x.logic_atom x.constant_or
    x.atom x.post x.unary x.joined_or x.joined_from x.joined_only x.product x.sum x.comparison x.equality x.conjunction x.operand
    x.expr x.rest_of_expr x.level_from x.implies_from x.formula x.deeper r.many r.series r.repeated
witnesses_read = (refl, refl, refl, refl, refl, refl, refl)
