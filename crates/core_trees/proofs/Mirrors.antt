-- A program's plain tree declares what the program declares.
use Rattle.std.proofs.Common.{◌≡◌, ℕ, Bool, true, false, Option, Some, None, is_some, option_map, List, [], ◌∷◌, length, map, refl, sym, ◌∙◌, ap}
use Rattle.std.proofs.lemmas.Bool.{eqb-true, eq-eqb}
use Rattle.std.proofs.lemmas.List.{length-map}
use Rattle.std.specs.Prelude.{nat_eq, if◌then◌else◌}
use Rattle.std.specs.List.{list_any, filter_map}
use Rattle.pv_base.specs.declared.Name.{Name}
use Rattle.pv_ast.specs.declared.Token.{Token}
use Rattle.pv_ast.specs.declared.Token.TheVariants as token
use Rattle.pv_ast.specs.declared.Param.{Param}
use Rattle.pv_ast.specs.declared.Predicate.{Predicate}
use Rattle.pv_ast.specs.declared.Method.{Method}
use Rattle.pv_ast.specs.declared.RunMethod.{RunMethod}
use Rattle.pv_ast.specs.declared.Member.{Member}
use Rattle.pv_ast.specs.declared.Member.TheVariants as member
use Rattle.pv_ast.specs.declared.Class.{Class}
use Rattle.pv_ast.specs.declared.Program.{Program}
use Rattle.pv_ast.specs.Rules.Lookup as rules
use Rattle.pv_ast.specs.Rules.Lookup.{named}
use Rattle.pv_base.specs.Names.{same_name}
use Rattle.pv_ast.specs.Rules.Expressions as parts
use Rattle.pv_ast.specs.Rules.Expressions.{Environment, type_of_field, type_of_param}
use Rattle.pv_ast.specs.Rules.Programs.{in_class}
use Rattle.pv_picks.specs.Plain.Core as core
use Rattle.pv_picks.specs.Plain.Members.{first_that, has_name, is_run, class_named, members_of, field_of, predicate_of, method_of, invariant_in, type_in, field_type, method_named, run_of}
use Rattle.pv_picks.specs.Elaborating.Names.{parameter_of}
use Rattle.pv_picks.specs.Elaborating.Programs.{core_of, core_of_class, core_of_member, core_of_method, core_of_run, core_of_predicate}
use Rattle.core_trees.specs.Resolved.{predicate_arity, method_arity, has_role}

-- a class has what a token speaks of
abbrev pub class_has : (Class → Bool) → Option Class → Bool
class_has has None = false
class_has has (Some c) = has c

abbrev pub predicate_params : Option Class → Name → Option ℕ
predicate_params class name = option_map (λ q. length q.params) (rules.predicate_named (parts.members_of class) name)

abbrev pub method_params : Option Class → Name → Option ℕ
method_params class name = option_map (λ m. length m.params) (rules.method_named (parts.members_of class) name)

-- a plain tree declares what a program declares, with the same types and as many parameters
pub record Mirrors (p : Program) (tree : core.Program) : Type 0 where
  pub classes : (class : Name) → is_some (class_named tree class) ≡ is_some (rules.class_named p.classes class)
  pub fields : (class field : Name) → field_type tree class field ≡ type_of_field (rules.class_named p.classes class) field
  pub predicates : (class name : Name) → predicate_arity tree class name
      ≡ predicate_params (rules.class_named p.classes class) name
  pub methods : (class name : Name) → method_arity tree class name ≡ method_params (rules.class_named p.classes class) name
  pub roles : (t : Token) (class : Name) → has_role tree t class
      ≡ class_has (parts.has_role t) (rules.class_named p.classes class)

-- Look-ups by name

same_truth : (a b : Bool) → (a ≡ true → b ≡ true) → (b ≡ true → a ≡ true) → a ≡ b
same_truth true b h k = sym (h refl)
same_truth false true h k = k refl
same_truth false false h k = refl

same_either_way : (m n : ℕ) → nat_eq m n ≡ nat_eq n m
same_either_way m n =
    same_truth (nat_eq m n) (nat_eq n m) (λ h. eq-eqb n m (sym (eqb-true m n h))) (λ h. eq-eqb m n (sym (eqb-true n m h)))

if_map : {A B : Type 0} (f : A → B) (b c : Bool) (x : A) (o : Option A) (q : Option B) → b ≡ c → q ≡ option_map f o
    → (if b then Some (f x) else q) ≡ option_map f (if c then Some x else o)
if_map f true true x o q same h = refl
if_map f false false x o q same h = h
if_map f true false x o q same h = absurd cc
if_map f false true x o q same h = absurd cc

-- in a list that is made of another
found_map : {A B : Type 0} (f : A → B) (test : B → Bool) (name_of : A → Name) (name : Name)
    → ((x : A) → test (f x) ≡ same_name name (name_of x)) → (xs : List A) → first_that test (map f xs)
    ≡ option_map f (named name_of xs name)
found_map f test name_of name same [] = refl
found_map f test name_of name same (x ∷ xs) =
    if_map f (test (f x)) (same_name name (name_of x)) x (named name_of xs name) (first_that test (map f xs)) (same x)
    (found_map f test name_of name same xs)

pub class_found : (p : Program) (name : Name) → class_named (core_of p) name
    ≡ option_map (core_of_class p) (rules.class_named p.classes name)
class_found p name =
    found_map (core_of_class p) (λ c. nat_eq c.name.0 name.0) (λ c. c.name.name) name
    (λ c. same_either_way c.name.name.0 name.0) p.classes

some_map : {A B : Type 0} (f : A → B) (o : Option A) → is_some (option_map f o) ≡ is_some o
some_map f None = refl
some_map f (Some x) = refl

-- Members

fields_map : (a : Environment) (ms : List Member) → filter_map field_of (map (core_of_member a) ms)
    ≡ map parameter_of (filter_map rules.field_of ms)
fields_map a [] = refl
fields_map a (member.Field f ∷ ms) = ap (λ fs. parameter_of f ∷ fs) (fields_map a ms)
fields_map a (member.Predicate q ∷ ms) = fields_map a ms
fields_map a (member.Method m ∷ ms) = fields_map a ms
fields_map a (member.Run r ∷ ms) = fields_map a ms

predicates_map : (a : Environment) (ms : List Member) → filter_map predicate_of (map (core_of_member a) ms)
    ≡ map (core_of_predicate a) (filter_map rules.predicate_of ms)
predicates_map a [] = refl
predicates_map a (member.Field f ∷ ms) = predicates_map a ms
predicates_map a (member.Predicate q ∷ ms) = ap (λ qs. core_of_predicate a q ∷ qs) (predicates_map a ms)
predicates_map a (member.Method m ∷ ms) = predicates_map a ms
predicates_map a (member.Run r ∷ ms) = predicates_map a ms

-- a method of the name; a `run` has none
method_among : (a : Environment) (name : Name) (ms : List Member)
    → first_that (λ m. has_name m.name name) (filter_map method_of (map (core_of_member a) ms))
    ≡ option_map (core_of_method a) (rules.method_named ms name)
method_among a name [] = refl
method_among a name (member.Field f ∷ ms) = method_among a name ms
method_among a name (member.Predicate q ∷ ms) = method_among a name ms
method_among a name (member.Method m ∷ ms) =
    if_map (core_of_method a) (nat_eq m.name.name.0 name.0) (nat_eq name.0 m.name.name.0) m (rules.method_named ms name) _
    (same_either_way m.name.name.0 name.0) (method_among a name ms)
method_among a name (member.Run r ∷ ms) = method_among a name ms

-- the first `run`
abbrev pub first_run : List Member → Option RunMethod
first_run [] = None
first_run (member.Field f ∷ ms) = first_run ms
first_run (member.Predicate q ∷ ms) = first_run ms
first_run (member.Method m ∷ ms) = first_run ms
first_run (member.Run r ∷ ms) = Some r

run_among : (a : Environment) (ms : List Member) → first_that is_run (filter_map method_of (map (core_of_member a) ms))
    ≡ option_map (core_of_run a) (first_run ms)
run_among a [] = refl
run_among a (member.Field f ∷ ms) = run_among a ms
run_among a (member.Predicate q ∷ ms) = run_among a ms
run_among a (member.Method m ∷ ms) = run_among a ms
run_among a (member.Run r ∷ ms) = refl

run_there : (ms : List Member) → is_some (first_run ms) ≡ list_any rules.is_run ms
run_there [] = refl
run_there (member.Field f ∷ ms) = run_there ms
run_there (member.Predicate q ∷ ms) = run_there ms
run_there (member.Method m ∷ ms) = run_there ms
run_there (member.Run r ∷ ms) = refl

-- Classes

type_map : (o : Option Param) → type_in (option_map parameter_of o) ≡ type_of_param o
type_map None = refl
type_map (Some f) = refl

fields_in : (p : Program) (o : Option Class) (name : Name)
    → type_in (first_that (λ (f : core.Parameter). nat_eq f.0.0 name.0)
    (filter_map field_of (members_of (option_map (core_of_class p) o)))) ≡ type_of_field o name
fields_in p None name = refl
fields_in p (Some c) name =
    ap (λ fs. type_in (first_that (λ (f : core.Parameter). nat_eq f.0.0 name.0) fs)) (fields_map (in_class p c) c.members)
    ∙ ap type_in (found_map parameter_of (λ f. nat_eq f.0.0 name.0) (λ f. f.name.name) name
    (λ f. same_either_way f.name.name.0 name.0) (filter_map rules.field_of c.members))
    ∙ type_map (named (λ f. f.name.name) (filter_map rules.field_of c.members) name)

predicate_length : (a : Environment) (o : Option Predicate)
    → option_map (λ (q : core.Predicate). length q.parameters) (option_map (core_of_predicate a) o)
    ≡ option_map (λ q. length q.params) o
predicate_length a None = refl
predicate_length a (Some q) = ap (λ n. Some n) (length-map q.params parameter_of)

predicates_in : (p : Program) (o : Option Class) (name : Name)
    → option_map (λ (q : core.Predicate). length q.parameters)
    (first_that (λ (q : core.Predicate). nat_eq q.name.0 name.0)
    (filter_map predicate_of (members_of (option_map (core_of_class p) o)))) ≡ predicate_params o name
predicates_in p None name = refl
predicates_in p (Some c) name =
    ap (λ qs. option_map (λ (q : core.Predicate). length q.parameters)
    (first_that (λ (q : core.Predicate). nat_eq q.name.0 name.0) qs)) (predicates_map (in_class p c) c.members)
    ∙ ap (option_map (λ (q : core.Predicate). length q.parameters))
    (found_map (core_of_predicate (in_class p c)) (λ q. nat_eq q.name.0 name.0) (λ q. q.name.name) name
    (λ q. same_either_way q.name.name.0 name.0) (filter_map rules.predicate_of c.members))
    ∙ predicate_length (in_class p c) (named (λ q. q.name.name) (filter_map rules.predicate_of c.members) name)

-- what a method and a `run` of a class become
abbrev pub method_at : Program → Option Class → Name → Option core.Method
method_at p None name = None
method_at p (Some c) name = option_map (core_of_method (in_class p c)) (rules.method_named c.members name)

abbrev pub run_at : Program → Option Class → Option core.Method
run_at p None = None
run_at p (Some c) = option_map (core_of_run (in_class p c)) (first_run c.members)

methods_in : (p : Program) (o : Option Class) (name : Name)
    → first_that (λ m. has_name m.name name) (filter_map method_of (members_of (option_map (core_of_class p) o)))
    ≡ method_at p o name
methods_in p None name = refl
methods_in p (Some c) name = method_among (in_class p c) name c.members

runs_in : (p : Program) (o : Option Class) → first_that is_run (filter_map method_of
    (members_of (option_map (core_of_class p) o))) ≡ run_at p o
runs_in p None = refl
runs_in p (Some c) = run_among (in_class p c) c.members

-- the method of a name, and the `run`, of a plain tree
pub method_found : (p : Program) (class name : Name) → method_named (core_of p) class name
    ≡ method_at p (rules.class_named p.classes class) name
method_found p class name =
    ap (λ c. first_that (λ m. has_name m.name name) (filter_map method_of (members_of c))) (class_found p class)
    ∙ methods_in p (rules.class_named p.classes class) name

pub run_found : (p : Program) (class : Name) → run_of (core_of p) class ≡ run_at p (rules.class_named p.classes class)
run_found p class =
    ap (λ c. first_that is_run (filter_map method_of (members_of c))) (class_found p class)
    ∙ runs_in p (rules.class_named p.classes class)

method_length : (a : Environment) (o : Option Method) → option_map (λ (m : core.Method). length m.parameters) (option_map
    (core_of_method a) o) ≡ option_map (λ m. length m.params) o
method_length a None = refl
method_length a (Some m) = ap (λ n. Some n) (length-map m.params parameter_of)

method_lengths : (p : Program) (o : Option Class) (name : Name)
    → option_map (λ (m : core.Method). length m.parameters) (method_at p o name) ≡ method_params o name
method_lengths p None name = refl
method_lengths p (Some c) name = method_length (in_class p c) (rules.method_named c.members name)

has_run : (p : Program) (o : Option Class) → is_some (run_at p o) ≡ class_has rules.has_run o
has_run p None = refl
has_run p (Some c) = some_map (core_of_run (in_class p c)) (first_run c.members) ∙ run_there c.members

has_invariant : (p : Program) (o : Option Class) → is_some (invariant_in (option_map (core_of_class p) o))
    ≡ class_has rules.has_lock_invariant o
has_invariant p None = refl
has_invariant p (Some c) = some_map _ c.lock_invariant

roles_in : (p : Program) (t : Token) (class : Name) → has_role (core_of p) t class
    ≡ class_has (parts.has_role t) (rules.class_named p.classes class)
roles_in p token.Idle class = ap is_some (run_found p class) ∙ has_run p (rules.class_named p.classes class)
roles_in p token.Running class = ap is_some (run_found p class) ∙ has_run p (rules.class_named p.classes class)
roles_in p token.Committed class =
    ap (λ c. is_some (invariant_in c)) (class_found p class) ∙ has_invariant p (rules.class_named p.classes class)
roles_in p token.Uncommitted class =
    ap (λ c. is_some (invariant_in c)) (class_found p class) ∙ has_invariant p (rules.class_named p.classes class)

pub core_mirrors : (p : Program) → Mirrors p (core_of p)
core_mirrors p = record {
  classes = λ class. ap is_some (class_found p class) ∙ some_map (core_of_class p) (rules.class_named p.classes class);
  fields = λ class field.
      ap (λ c. type_in (first_that (λ (f : core.Parameter). nat_eq f.0.0 field.0) (filter_map field_of (members_of c))))
      (class_found p class)
      ∙ fields_in p (rules.class_named p.classes class) field;
  predicates = λ class name.
      ap (λ c. option_map (λ (q : core.Predicate). length q.parameters)
      (first_that (λ (q : core.Predicate). nat_eq q.name.0 name.0) (filter_map predicate_of (members_of c))))
      (class_found p class)
      ∙ predicates_in p (rules.class_named p.classes class) name;
  methods = λ class name.
      ap (option_map (λ (m : core.Method). length m.parameters)) (method_found p class name)
      ∙ method_lengths p (rules.class_named p.classes class) name;
  roles = roles_in p;
}
