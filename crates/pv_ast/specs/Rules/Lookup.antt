-- What a name of a class or of a member means. Where two have one name, the first of its kind counts.
use Rattle.std.specs.Prelude.{Bool, true, false, nat_eq, Option, Some, None, is_some, List, [], ◌∷◌, if◌then◌else◌}
use Rattle.std.specs.List.{list_any, filter_map}
use Rattle.pv_base.specs.declared.Name.{Name}
use Rattle.pv_base.specs.Names.{same_name}
use Rattle.pv_ast.specs.declared.PvType.{PvType}
use Rattle.pv_ast.specs.declared.PvType.TheVariants.{Int, Truth, Object, IntArray, TruthArray, Null}
use Rattle.pv_ast.specs.declared.Param.{Param}
use Rattle.pv_ast.specs.declared.Predicate.{Predicate}
use Rattle.pv_ast.specs.declared.Method.{Method}
use Rattle.pv_ast.specs.declared.Member.{Member}
use Rattle.pv_ast.specs.declared.Member.TheVariants as member
use Rattle.pv_ast.specs.declared.Class.{Class}

abbrev pub field_of : Member → Option Param
field_of (member.Field f) = Some f
field_of (member.Predicate p) = None
field_of (member.Method m) = None
field_of (member.Run r) = None

abbrev pub predicate_of : Member → Option Predicate
predicate_of (member.Field f) = None
predicate_of (member.Predicate p) = Some p
predicate_of (member.Method m) = None
predicate_of (member.Run r) = None

abbrev pub method_of : Member → Option Method
method_of (member.Field f) = None
method_of (member.Predicate p) = None
method_of (member.Method m) = Some m
method_of (member.Run r) = None

abbrev pub is_run : Member → Bool
is_run (member.Field f) = false
is_run (member.Predicate p) = false
is_run (member.Method m) = false
is_run (member.Run r) = true

-- the first of the list that has the name
module _ {A : Type 0} (name_of : A → Name) where
  abbrev pub named : List A → Name → Option A
  named [] name = None
  named (x ∷ xs) name = if same_name name (name_of x) then Some x else named xs name

abbrev pub class_named : List Class → Name → Option Class
class_named = named (λ c. c.name.name)

abbrev pub field_named : List Member → Name → Option Param
field_named members = named (λ f. f.name.name) (filter_map field_of members)

abbrev pub predicate_named : List Member → Name → Option Predicate
predicate_named members = named (λ p. p.name.name) (filter_map predicate_of members)

abbrev pub method_named : List Member → Name → Option Method
method_named members = named (λ m. m.name.name) (filter_map method_of members)

abbrev pub has_run : Class → Bool
has_run c = list_any is_run c.members

abbrev pub has_lock_invariant : Class → Bool
has_lock_invariant c = is_some c.lock_invariant

-- a type that a declaration may have: that of a class needs the class, and that of `null` is no such type
abbrev pub is_declared_type : List Class → PvType → Bool
is_declared_type classes (Object name) = is_some (class_named classes name)
is_declared_type classes Int = true
is_declared_type classes Truth = true
is_declared_type classes IntArray = true
is_declared_type classes TruthArray = true
is_declared_type classes Null = false
