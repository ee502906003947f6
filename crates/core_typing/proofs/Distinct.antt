-- In a class of a well formed program no two fields have one name.
use Rattle.std.proofs.Common.{◌≡◌, ◌||◌, true, Bool, false, Option, Some, None, option_map, List, [], ◌∷◌, map, refl, sym, subst}
use Rattle.std.specs.List.{list_any, filter_map}
use Rattle.pv_base.specs.declared.Name.{Name}
use Rattle.pv_ast.specs.declared.Member.{Member}
use Rattle.pv_ast.specs.declared.Member.TheVariants as member
use Rattle.pv_ast.specs.declared.Class.{Class}
use Rattle.pv_ast.specs.declared.Program.{Program}
use Rattle.pv_ast.specs.declared.fault.Rule.TheVariants as rule
use Rattle.pv_ast.specs.Rules.Lookup as rules
use Rattle.pv_base.specs.Names.{same_name}
use Rattle.pv_ast.specs.Rules.Expressions.{Environment}
use Rattle.pv_ast.specs.Rules.Programs.{in_class, name_of_member}
use Rattle.pv_ast.specs.Rules.WellFormed.{IsWellFormed}
use Rattle.pv_picks.specs.Plain.Members.{field_of, fields_of, members_of}
use Rattle.pv_picks.specs.Elaborating.Programs.{core_of, core_of_class, core_of_member}
use Rattle.core_trees.specs.Resolved.{names_of}
use Rattle.core_trees.proofs.Mirrors.{class_found}
use Rattle.core_trees.specs.Naming.{AreDistinct}
use Rattle.core_names.proofs.Naming.{names, distinct}
use Rattle.core_typing.proofs.Programs.{class_at}

or_false : (a b : Bool) → (a || b) ≡ false → (a ≡ false) × (b ≡ false)
or_false true b k = absurd cc
or_false false b k = (refl, k)

neither : (a b : Bool) → a ≡ false → b ≡ false → (a || b) ≡ false
neither false b h k = k
neither true b h k = absurd cc

-- The names of fields are among those of members

abbrev members : List Member → List Name
members ms = names (filter_map name_of_member ms)

abbrev fields : Environment → List Member → List Name
fields a ms = names_of (filter_map field_of (map (core_of_member a) ms))

fewer : (a : Environment) (ms : List Member) (name : Name) → list_any (same_name name) (members ms) ≡ false
    → list_any (same_name name) (fields a ms) ≡ false
fewer a [] name k = k
fewer a (member.Field f ∷ ms) name k =
    let two = or_false (same_name name f.name.name) _ k in neither (same_name name f.name.name) _ two.0 (fewer a ms name two.1)
fewer a (member.Predicate q ∷ ms) name k = fewer a ms name (or_false (same_name name q.name.name) _ k).1
fewer a (member.Method m ∷ ms) name k = fewer a ms name (or_false (same_name name m.name.name) _ k).1
fewer a (member.Run r ∷ ms) name k = fewer a ms name k

fields_distinct : (a : Environment) (ms : List Member) → AreDistinct (members ms) → AreDistinct (fields a ms)
fields_distinct a [] k = tt
fields_distinct a (member.Field f ∷ ms) k = (fewer a ms f.name.name k.0, fields_distinct a ms k.1)
fields_distinct a (member.Predicate q ∷ ms) k = fields_distinct a ms k.1
fields_distinct a (member.Method m ∷ ms) k = fields_distinct a ms k.1
fields_distinct a (member.Run r ∷ ms) k = fields_distinct a ms k

in_class_distinct : (p : Program) → IsWellFormed p → (class : Name) (o : Option Class) → rules.class_named p.classes class ≡ o
    → AreDistinct (names_of (filter_map field_of (members_of (option_map (core_of_class p) o))))
in_class_distinct p well_formed class None is = tt
in_class_distinct p well_formed class (Some c) is =
    fields_distinct (in_class p c) c.members
    (distinct rule.Duplicate (filter_map name_of_member c.members) [] (class_at p well_formed class c is).clean.0.1.0)

pub names_distinct : (p : Program) → IsWellFormed p → (class : Name) → AreDistinct (names_of (fields_of (core_of p) class))
names_distinct p well_formed class =
    subst (λ c. AreDistinct (names_of (filter_map field_of (members_of c)))) (sym (class_found p class))
    (in_class_distinct p well_formed class (rules.class_named p.classes class) refl)
