-- What the code keeps of where an expression stands, as the definitions see it.
use Rattle.std.specs.Prelude.{Option, Some, None, take}
use Rattle.std.specs.Borrow.{Bor}
use Rattle.pv_ast.specs.declared.PvType.TheVariants.{Int}
use Rattle.pv_ast.specs.declared.scope.Declaration.TheVariants.{Bound}
use Rattle.pv_ast.specs.Rules.Scoping.{Visible, declare_variable}
use Rattle.pv_ast.specs.Rules.Expressions.{Environment}
use Rattle.pv_types.specs.Environments.{environment_of}
use Rattle.pv_types.specs.declared.visible.Mark.{Mark}
use Rattle.pv_plain.specs.declared.sight.Bounds.{Bounds, Bounds-F, fold-Bounds}
use Rattle.pv_plain.specs.declared.sight.Sight.{Sight}

-- the names that were declared up to a mark
abbrev pub marked : Visible → Mark → Visible
marked v m = record { names = take m.count v.names; outside = m.outside }

abbrev pub names_outside : Visible → Option (Bor Visible) → Visible
names_outside v None = v
names_outside v (Some w) = w.now

abbrev pub names_with : Visible → Bounds-F Visible → Visible
names_with v b = declare_variable Bound (names_outside v b.outer) b.name Int

abbrev pub names_under : Visible → Bounds → Visible
names_under v = fold-Bounds Visible (names_with v)

-- names, and the variables of the quantifiers around
abbrev pub within : Visible → Option (Bor Bounds) → Visible
within v None = v
within v (Some b) = names_under v b.now

-- what stands around, and the names in scope
abbrev pub around : Sight → Environment
around s = environment_of s.environment.now

abbrev pub in_scope : Sight → Visible
in_scope s = within (marked s.visible.now s.mark) s.bounds
