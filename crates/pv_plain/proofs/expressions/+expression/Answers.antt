use Rattle.std.proofs.Common.{sym, arith}
use Rattle.std.proofs.lemmas.Grind.{common_steps}
use Rattle.core_trees.proofs.Equations.{number_becomes, truth_becomes, null_becomes, this_becomes, result_becomes, name_becomes, field_becomes, element_becomes, not_becomes, minus_becomes, operation_becomes, old_becomes}
use Rattle.pv_plain.proofs.Becoming.{resource_becomes}
use Rattle.pv_plain.specs.Sights.{around, in_scope}
use Rattle.pv_plain.proofs.expressions.+expression.Goals as goal

pub expression-returns-in-Number : goal.expression-returns-in-Number
expression-returns-in-Number t c =
    rw (number_becomes c.args.e.now c.in-Number.n c.in-Number.is (around c.args.sight) (in_scope c.args.sight))
    (grind (arith, common_steps))

pub expression-returns-in-Truth : goal.expression-returns-in-Truth
expression-returns-in-Truth t c =
    rw (truth_becomes c.args.e.now c.in-Truth.truth c.in-Truth.is (around c.args.sight) (in_scope c.args.sight))
    c.constant-in-Truth.ensures

pub expression-returns-in-Null : goal.expression-returns-in-Null
expression-returns-in-Null t c =
    rw (null_becomes c.args.e.now c.in-Null.is (around c.args.sight) (in_scope c.args.sight))
    c.constant-in-Null.ensures

pub expression-returns-in-This : goal.expression-returns-in-This
expression-returns-in-This t c =
    rw (this_becomes c.args.e.now c.in-This.is (around c.args.sight) (in_scope c.args.sight))
    c.this.ensures

pub expression-returns-in-Result : goal.expression-returns-in-Result
expression-returns-in-Result t c =
    rw (result_becomes c.args.e.now c.in-Result.is (around c.args.sight) (in_scope c.args.sight))
    c.outcome.ensures

pub expression-returns-in-Var : goal.expression-returns-in-Var
expression-returns-in-Var t c =
    rw (name_becomes c.args.e.now c.in-Var.word c.in-Var.is (around c.args.sight) (in_scope c.args.sight))
    c.named.ensures

pub expression-returns-in-Field : goal.expression-returns-in-Field
expression-returns-in-Field t c =
    rw (field_becomes c.args.e.now c.in-Field.object c.in-Field.word c.in-Field.is (around c.args.sight) (in_scope c.args.sight))
    (rw (sym c.get.ensures) c.member.ensures)

pub expression-returns-in_ok-index-in-Index : goal.expression-returns-in_ok-index-in-Index
expression-returns-in_ok-index-in-Index t c =
    rw (element_becomes c.args.e.now c.in-Index.array c.in-Index.index c.in-Index.is (around c.args.sight)
    (in_scope c.args.sight))
    (grind (arith, common_steps))

pub expression-returns-in_ok-part-in-Not : goal.expression-returns-in_ok-part-in-Not
expression-returns-in_ok-part-in-Not t c =
    rw (not_becomes c.args.e.now c.in-Not.part c.in-Not.is (around c.args.sight) (in_scope c.args.sight))
    (grind (arith, common_steps))

pub expression-returns-in-Minus : goal.expression-returns-in-Minus
expression-returns-in-Minus t c =
    rw (minus_becomes c.args.e.now c.in-Minus.part c.in-Minus.is (around c.args.sight) (in_scope c.args.sight))
    (rw (sym c.get-in-Minus.ensures) c.negation.ensures)

pub expression-returns-in_ok-b-in-Binary : goal.expression-returns-in_ok-b-in-Binary
expression-returns-in_ok-b-in-Binary t c =
    rw (operation_becomes c.args.e.now c.in-Binary.a c.in-Binary.b c.in-Binary.operator c.in-Binary.is
    (around c.args.sight) (in_scope c.args.sight))
    (grind (arith, common_steps))

pub expression-returns-in_ok-part-in-Old : goal.expression-returns-in_ok-part-in-Old
expression-returns-in_ok-part-in-Old t c =
    rw (old_becomes c.args.e.now c.in-Old.part c.in-Old.is (around c.args.sight) (in_scope c.args.sight))
    (grind (arith, common_steps))

pub expression-returns-in-Perm : goal.expression-returns-in-Perm
expression-returns-in-Perm t c =
    rw (resource_becomes c.args.e.now c.in-Perm.is (around c.args.sight) (in_scope c.args.sight)) c.constant-in-Perm.ensures
