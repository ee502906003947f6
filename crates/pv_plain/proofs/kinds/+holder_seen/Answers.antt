use Rattle.std.proofs.Common.{refl}
use Rattle.pv_ast.specs.declared.standing.Typing.TheVariants.{Untyped}
use Rattle.pv_ast.specs.Rules.Expressions.{checked_expression, typing_in}
use Rattle.pv_picks.specs.Plain.Core as core
use Rattle.pv_picks.specs.Elaborating.Expressions.{core_of_expression}
use Rattle.core_trees.proofs.Equations.{old_becomes}
use Rattle.pv_plain.specs.Sights.{around, in_scope}
use Rattle.pv_plain.proofs.Holding.{free_at}
use Rattle.pv_plain.proofs.Others.{is_other, other_held, other_place}
use Rattle.pv_plain.proofs.kinds.+holder_seen.Goals as goal

pub returns-in-Old-clause-place : goal.returns-in-Old-clause-place
returns-in-Old-clause-place t c =
    let e = c.args.e.now in
    let a = around c.args.sight in
    let v = in_scope c.args.sight in
    free_at c.value-in-Old.result.typing (typing_in (checked_expression e) a v) (core_of_expression a v e)
    (core.Old (core_of_expression a v c.in-Old.old)) (old_becomes e c.in-Old.old c.in-Old.is a v) refl

pub returns-in_default : goal.returns-in_default
returns-in_default t c =
    let e = c.args.e.now in
    let d = c.in_default in
    let a = around c.args.sight in
    let v = in_scope c.args.sight in
    let o = is_other e.kind d.not-This d.not-Result d.not-Var d.not-Field d.not-Old in
    rw c.value-in_default.ensures (record {
      held = other_held e o a v;
      place = other_place e o Untyped (typing_in (checked_expression e) a v) a v;
    })
