use Rattle.std.proofs.Common.{sym}
use Rattle.pv_ast.specs.Rules.Scoping.{Visible}
use Rattle.pv_ast.specs.Rules.Programs.{visible_in}
use Rattle.pv_types.specs.declared.scoped.Bounds.{fold_out-Bounds, out-Bounds}
use Rattle.pv_types.specs.Bounds.{visible_with, visible_under_bounds}
use Rattle.pv_types.proofs.Bounding.{declared_with_bound}
use Rattle.pv_types.proofs.scoped.+declared_under.Goals as goal

pub returns-in-None : goal.returns-in-None
returns-in-None t c =
    rw (fold_out-Bounds Visible (visible_with c.args.scope.now) c.args.bounds.now)
    (rw c.in-None.is (rw c.or_bound.ensures (rw c.in_scope.ensures
    (rw c.as_slice.ensures (sym (declared_with_bound (visible_in c.args.scope.now) c.args.name
    (out-Bounds c.args.bounds.now).name))))))

pub returns-in-Some : goal.returns-in-Some
returns-in-Some t c =
    rw (fold_out-Bounds Visible (visible_with c.args.scope.now) c.args.bounds.now)
    (rw c.in-Some.is (rw c.or_bound-in-Some.ensures
    (rw c.declared_under.ensures (sym (declared_with_bound
    (visible_under_bounds c.args.scope.now c.in-Some.outer.now) c.args.name (out-Bounds c.args.bounds.now).name)))))
