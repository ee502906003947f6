use Rattle.std.proofs.Common.{sym}
use Rattle.pv_ast.specs.Rules.Scoping.{Visible}
use Rattle.pv_types.proofs.Bounding.{declared_with_bound}
use Rattle.pv_plain.specs.declared.sight.Bounds.{fold_out-Bounds, out-Bounds}
use Rattle.pv_plain.specs.Sights.{marked, names_with, names_under}
use Rattle.pv_plain.proofs.sight.+declared_under.Goals as goal

pub returns-in-None : goal.returns-in-None
returns-in-None t c =
    let v : Visible = marked c.args.visible.now c.args.mark in
    rw (fold_out-Bounds Visible (names_with v) c.args.bounds.now)
    (rw c.in-None.is (rw c.or_bound.ensures (rw c.declared_before.ensures
    (sym (declared_with_bound v c.args.name (out-Bounds c.args.bounds.now).name)))))

pub returns-in-Some : goal.returns-in-Some
returns-in-Some t c =
    let v : Visible = marked c.args.visible.now c.args.mark in
    rw (fold_out-Bounds Visible (names_with v) c.args.bounds.now)
    (rw c.in-Some.is (rw c.or_bound-in-Some.ensures
    (rw c.declared_under.ensures
    (sym (declared_with_bound (names_under v c.in-Some.outer.now) c.args.name (out-Bounds c.args.bounds.now).name)))))
