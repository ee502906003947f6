-- What a name of a class or of a member means in a program: the first of its kind counts.
use Rattle.std.specs.Prelude.{Bool, false, not, if◌then◌else◌, Option, Some, None, is_some, List, [], ◌∷◌}
use Rattle.std.specs.List.{filter_map}
use Rattle.pv_base.specs.declared.Name.{Name}
use Rattle.pv_ast.specs.declared.PvType.{PvType}
use Rattle.pv_base.specs.Names.{same_name}
use Rattle.pv_picks.specs.Plain.Core.{Formula, Parameter, Predicate, Method, Member, IsField, IsPredicate, IsMethod, Class, Program}

abbrev pub field_of : Member → Option Parameter
field_of (IsField f) = Some f
field_of (IsPredicate p) = None
field_of (IsMethod m) = None

abbrev pub predicate_of : Member → Option Predicate
predicate_of (IsField f) = None
predicate_of (IsPredicate p) = Some p
predicate_of (IsMethod m) = None

abbrev pub method_of : Member → Option Method
method_of (IsField f) = None
method_of (IsPredicate p) = None
method_of (IsMethod m) = Some m

abbrev pub has_name : Option Name → Name → Bool
has_name None name = false
has_name (Some other) name = same_name other name

-- the first of the list that passes
abbrev pub first_that : {A : Type 0} → (A → Bool) → List A → Option A
first_that test [] = None
first_that test (x ∷ xs) = if test x then Some x else first_that test xs

abbrev pub class_named : Program → Name → Option Class
class_named p name = first_that (λ c. same_name c.name name) p

abbrev pub members_of : Option Class → List Member
members_of None = []
members_of (Some c) = c.members

abbrev pub members_named : Program → Name → List Member
members_named p class = members_of (class_named p class)

-- the fields of a class, in the order of the text
abbrev pub fields_of : Program → Name → List Parameter
fields_of p class = filter_map field_of (members_named p class)

abbrev pub type_in : Option Parameter → Option PvType
type_in None = None
type_in (Some f) = Some f.1

abbrev pub field_type : Program → Name → Name → Option PvType
field_type p class name = type_in (first_that (λ f. same_name f.0 name) (fields_of p class))

abbrev pub predicate_named : Program → Name → Name → Option Predicate
predicate_named p class name = first_that (λ d. same_name d.name name) (filter_map predicate_of (members_named p class))

abbrev pub method_named : Program → Name → Name → Option Method
method_named p class name = first_that (λ m. has_name m.name name) (filter_map method_of (members_named p class))

abbrev pub is_run : Method → Bool
is_run m = not (is_some m.name)

-- what a thread of the class runs
abbrev pub run_of : Program → Name → Option Method
run_of p class = first_that is_run (filter_map method_of (members_named p class))

abbrev pub invariant_in : Option Class → Option Formula
invariant_in None = None
invariant_in (Some c) = c.lock_invariant

abbrev pub invariant_of : Program → Name → Option Formula
invariant_of p class = invariant_in (class_named p class)
