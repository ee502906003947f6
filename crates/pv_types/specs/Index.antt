-- When an index by names tells the first of each name.
use Rattle.std.specs.Prelude.{ℕ, ◌≡◌, Option, None, Some, List, nat_eq, slice_get}
use Rattle.std.specs.Option.{option_copied}
use Rattle.std.specs.List.{list_any}
use Rattle.std.specs.Map.{lookup}
use Rattle.pv_base.specs.declared.Name.{Name}
use Rattle.pv_ast.specs.declared.Member.{Member}
use Rattle.pv_ast.specs.declared.Class.{Class}
use Rattle.pv_ast.specs.Rules.Lookup.{class_named, field_named, predicate_named, method_named, is_run}
use Rattle.pv_ast.specs.Rules.Expressions.{type_of_param}
use Rattle.pv_types.specs.declared.member_index.MemberIndex.{MemberIndex}

-- under each name the first field, predicate and method of the name
pub record IsIndexOf (index : MemberIndex) (members : List Member) : Type 0 where
  pub fields : (name : Name) → lookup (nat_eq name.0) index.fields.entries ≡ type_of_param (field_named members name)
  pub predicates : (name : Name) → option_copied (lookup (nat_eq name.0) index.predicates.entries) ≡ predicate_named members name
  pub methods : (name : Name) → option_copied (lookup (nat_eq name.0) index.methods.entries) ≡ method_named members name
  pub run : index.has_run ≡ list_any is_run members

-- the class at a place, where there is one
abbrev pub at_place : List Class → Option ℕ → Option Class
at_place classes None = None
at_place classes (Some at) = slice_get classes at

-- under each name the place of the first of some classes that has the name, among all of them
pub record IsPlaced (places : List (ℕ × ℕ)) (all some : List Class) : Type 0 where
  pub first : (name : Name) → at_place all (lookup (nat_eq name.0) places) ≡ class_named some name
