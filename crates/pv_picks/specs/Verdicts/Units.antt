-- The units of a program.
use Rattle.std.specs.Prelude.{ℕ, ◌+◌, Option, Some, None, List, [], ◌∷◌, ◌++◌}
use Rattle.pv_ast.specs.declared.Expr.{Expr}
use Rattle.pv_ast.specs.declared.Member.{Member}
use Rattle.pv_ast.specs.declared.Member.TheVariants as member
use Rattle.pv_ast.specs.declared.Class.{Class}
use Rattle.pv_ast.specs.declared.Program.{Program}
use Rattle.pv_picks.specs.declared.unit.Part.TheVariants as part
use Rattle.pv_picks.specs.declared.unit.PvUnit.{PvUnit}

-- a lock invariant is a unit
abbrev pub units_of_invariant : ℕ → Option Expr → List PvUnit
units_of_invariant class None = []
units_of_invariant class (Some e) = record { class = class; part = part.LockInvariant } ∷ []

-- a member is a unit where it is no field
abbrev pub units_of_member : ℕ → ℕ → Member → List PvUnit
units_of_member class place (member.Field f) = []
units_of_member class place (member.Predicate p) = record { class = class; part = part.Member place } ∷ []
units_of_member class place (member.Method m) = record { class = class; part = part.Member place } ∷ []
units_of_member class place (member.Run r) = record { class = class; part = part.Member place } ∷ []

-- those of members, the first of which has this place
abbrev pub units_of_members : ℕ → ℕ → List Member → List PvUnit
units_of_members class place [] = []
units_of_members class place (m ∷ ms) = units_of_member class place m ++ units_of_members class (place + 1) ms

abbrev pub units_of_class : ℕ → Class → List PvUnit
units_of_class class c = units_of_invariant class c.lock_invariant ++ units_of_members class 0 c.members

-- those of classes, the first of which has this place
abbrev pub units_of_classes : ℕ → List Class → List PvUnit
units_of_classes class [] = []
units_of_classes class (c ∷ cs) = units_of_class class c ++ units_of_classes (class + 1) cs

-- for each class in order its lock invariant if it has one, then each predicate, method and `run` in order; places count from 0
abbrev pub units_of : Program → List PvUnit
units_of p = units_of_classes 0 p.classes
