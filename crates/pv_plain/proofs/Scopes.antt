-- Names in scope under a quantifier, by those around it; and all names that are declared.
use Rattle.std.proofs.Common.{◌≡◌, Option, Some, None, refl, ◌∙◌}
use Rattle.std.specs.Borrow.{Bor}
use Rattle.pv_base.specs.declared.Name.{Name}
use Rattle.pv_ast.specs.declared.PvType.TheVariants.{Int}
use Rattle.pv_ast.specs.declared.scope.Declaration.TheVariants.{Bound}
use Rattle.pv_ast.specs.Rules.Scoping.{Visible, declare_variable}
use Rattle.pv_plain.specs.declared.sight.Bounds.{Bounds, fold-roll-Bounds, roll-Bounds, map-Bounds}
use Rattle.pv_plain.specs.Sights.{names_with, names_under, within}

outer_of : (v : Visible) (name : Name) (outer : Option (Bor Bounds))
    → names_with v (map-Bounds Bounds Visible (names_under v) (record { name = name; outer = outer }))
    ≡ declare_variable Bound (within v outer) name Int
outer_of v name None = refl
outer_of v name (Some b) = refl

-- the names in scope under a quantifier, by those around it
pub under : (v : Visible) (name : Name) (outer : Option (Bor Bounds))
    → names_under v (roll-Bounds (record { name = name; outer = outer })) ≡ declare_variable Bound (within v outer) name Int
under v name outer = fold-roll-Bounds Visible (names_with v) (record { name = name; outer = outer }) ∙ outer_of v name outer
