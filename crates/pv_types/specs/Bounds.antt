-- The names in scope under quantifiers.
use Rattle.std.specs.Prelude.{ℕ, true, false, nat_eq, Option, Some, None, List, map, if◌then◌else◌}
use Rattle.std.specs.Borrow.{Bor}
use Rattle.pv_base.specs.declared.Name.{Name}
use Rattle.pv_ast.specs.declared.PvType.TheVariants.{Int, Object}
use Rattle.pv_ast.specs.declared.PvType.{PvType}
use Rattle.pv_ast.specs.declared.scope.ScopeVar.{ScopeVar}
use Rattle.pv_ast.specs.declared.scope.Declared.{Declared}
use Rattle.pv_ast.specs.declared.standing.Seen.{Seen}
use Rattle.pv_ast.specs.declared.standing.Typing.TheVariants.{Typed}
use Rattle.pv_ast.specs.Rules.Expressions.{Signature, unsought, unknown, taking}
use Rattle.pv_ast.specs.declared.scope.Scope.{Scope}
use Rattle.pv_ast.specs.declared.scope.Declaration.TheVariants.{Bound}
use Rattle.pv_ast.specs.Rules.Scoping.{Visible, declare_variable}
use Rattle.pv_ast.specs.Rules.Programs.{visible_in, declared_var}
use Rattle.pv_types.specs.declared.scoped.Bounds.{Bounds, Bounds-F, fold-Bounds}

abbrev pub visible_outside : Scope → Option (Bor Visible) → Visible
visible_outside scope None = visible_in scope
visible_outside scope (Some v) = v.now

abbrev pub visible_with : Scope → Bounds-F Visible → Visible
visible_with scope b = declare_variable Bound (visible_outside scope b.outer) b.name Int

abbrev pub visible_under_bounds : Scope → Bounds → Visible
visible_under_bounds scope = fold-Bounds Visible (visible_with scope)

-- the names of the scope, and the variables of the quantifiers around
abbrev pub visible_under : Scope → Option (Bor Bounds) → Visible
visible_under scope None = visible_in scope
visible_under scope (Some b) = visible_under_bounds scope b.now

abbrev pub visible_of : List ScopeVar → List (ℕ × Declared)
visible_of vars = map declared_var vars

-- what was found of a name, or else the variable of a quantifier that has the name
abbrev pub or_bound : Option Declared → Name → Name → Option Declared
or_bound (Some d) name bound = Some d
or_bound None name bound = if nat_eq name.0 bound.0 then Some (record { declaration = Bound; kind = Int }) else None

abbrev pub this_seen : Name → Seen
this_seen class = record { typing = Typed (Object class); this = true; location = false; local = false }

-- the types of the parameters, where they are known
abbrev pub taken : Signature → Option (List PvType)
taken unsought = None
taken unknown = None
taken (taking types) = Some types
