-- A class of a well formed program that is found by its name, and a method or `run` that is found among its members, has no
-- fault.
use Rattle.std.proofs.Common.{◌≡◌, Bool, true, false, Option, Some, List, [], ◌∷◌, refl, ◌∙◌, ap, subst}
use Rattle.std.specs.Prelude.{if◌then◌else◌}
use Rattle.std.specs.List.{AllByRecursion, filter_map, flat_map}
use Rattle.pv_base.specs.declared.Name.{Name}
use Rattle.pv_ast.specs.declared.Method.{Method}
use Rattle.pv_ast.specs.declared.RunMethod.{RunMethod}
use Rattle.pv_ast.specs.declared.Member.{Member}
use Rattle.pv_ast.specs.declared.Member.TheVariants as member
use Rattle.pv_ast.specs.declared.Class.{Class}
use Rattle.pv_ast.specs.declared.Program.{Program}
use Rattle.pv_ast.specs.Rules.Lookup as rules
use Rattle.pv_ast.specs.Rules.Lookup.{named, class_named}
use Rattle.pv_base.specs.Names.{same_name}
use Rattle.pv_ast.specs.Rules.Expressions.{Environment}
use Rattle.pv_ast.specs.Rules.Programs.{faults_of_class, faults_of_classes, faults_of_members, faults_of_method, faults_of_run}
use Rattle.pv_ast.specs.Rules.Shapes as shapes
use Rattle.core_trees.proofs.Clean.{Clean, no_first, no_second}
use Rattle.core_trees.proofs.Mirrors.{first_run}
use Rattle.core_trees.proofs.Shapes.{equal_names}

-- What is found by its name is of the list, and has the name

found_if : {A : Type 0} (P : A → Type 0) (b : Bool) (x y : A) (rest : Option A) → P x → (rest ≡ Some y → P y)
    → (if b then Some x else rest) ≡ Some y → P y
found_if P true x y rest h k is = let same : x ≡ y = cc in subst P same h
found_if P false x y rest h k is = k is

pub found_of : {A : Type 0} (P : A → Type 0) (name_of : A → Name) (xs : List A) (name : Name) (y : A) → AllByRecursion P xs
    → named name_of xs name ≡ Some y → P y
found_of P name_of [] name y all is = absurd cc
found_of P name_of (x ∷ xs) name y all is =
    found_if P (same_name name (name_of x)) x y (named name_of xs name) all.0 (λ k. found_of P name_of xs name y all.1 k) is

name_if : {A : Type 0} (name_of : A → Name) (name : Name) (b : Bool) (x y : A) (rest : Option A) → same_name name (name_of x) ≡ b
    → (rest ≡ Some y → name ≡ name_of y) → (if b then Some x else rest) ≡ Some y → name ≡ name_of y
name_if name_of name true x y rest h k is = let same : x ≡ y = cc in equal_names name (name_of x) h ∙ ap name_of same
name_if name_of name false x y rest h k is = k is

pub found_name : {A : Type 0} (name_of : A → Name) (xs : List A) (name : Name) (y : A) → named name_of xs name ≡ Some y → name
    ≡ name_of y
found_name name_of [] name y is = absurd cc
found_name name_of (x ∷ xs) name y is =
    name_if name_of name (same_name name (name_of x)) x y (named name_of xs name) refl (λ k. found_name name_of xs name y k) is

-- Classes

abbrev pub IsClean : Program → Class → Type 0
IsClean p c = Clean (faults_of_class p c) × (shapes.faults_of_class c ≡ [])

pub classes_clean : (p : Program) (cs : List Class) → Clean (faults_of_classes p cs) → flat_map shapes.faults_of_class cs ≡ []
    → AllByRecursion (IsClean p) cs
classes_clean p [] clean none = tt
classes_clean p (c ∷ cs) clean none = (
  (clean.0, no_first (shapes.faults_of_class c) (flat_map shapes.faults_of_class cs) none),
  classes_clean p cs clean.1 (no_second (shapes.faults_of_class c) (flat_map shapes.faults_of_class cs) none),
)

-- Methods

abbrev pub IsCleanMethod : Environment → Method → Type 0
IsCleanMethod a m = Clean (faults_of_method a m) × (shapes.faults_of_member (member.Method m) ≡ [])

pub methods_clean : (a : Environment) (ms : List Member) → Clean (faults_of_members a ms) → flat_map shapes.faults_of_member ms
    ≡ []
    → AllByRecursion (IsCleanMethod a) (filter_map rules.method_of ms)
methods_clean a [] clean none = tt
methods_clean a (member.Field f ∷ ms) clean none = methods_clean a ms clean.1 none
methods_clean a (member.Predicate q ∷ ms) clean none =
    methods_clean a ms clean.1 (no_second (shapes.faults_of_member (member.Predicate q))
    (flat_map shapes.faults_of_member ms) none)
methods_clean a (member.Method m ∷ ms) clean none = (
  (clean.0, no_first (shapes.faults_of_member (member.Method m)) (flat_map shapes.faults_of_member ms) none),
  methods_clean a ms clean.1 (no_second (shapes.faults_of_member (member.Method m)) (flat_map shapes.faults_of_member ms) none),
)
methods_clean a (member.Run r ∷ ms) clean none =
    methods_clean a ms clean.1 (no_second (shapes.faults_of_member (member.Run r)) (flat_map shapes.faults_of_member ms) none)

-- Each `run`

abbrev pub IsCleanRun : Environment → RunMethod → Type 0
IsCleanRun a r = Clean (faults_of_run a r) × (shapes.faults_of_member (member.Run r) ≡ [])

pub run_clean : (a : Environment) (ms : List Member) (r : RunMethod) → Clean (faults_of_members a ms)
    → flat_map shapes.faults_of_member ms ≡ [] → first_run ms ≡ Some r → IsCleanRun a r
run_clean a [] r clean none is = absurd cc
run_clean a (member.Field f ∷ ms) r clean none is = run_clean a ms r clean.1 none is
run_clean a (member.Predicate q ∷ ms) r clean none is =
    run_clean a ms r clean.1 (no_second (shapes.faults_of_member (member.Predicate q)) (flat_map shapes.faults_of_member ms) none)
    is
run_clean a (member.Method m ∷ ms) r clean none is =
    run_clean a ms r clean.1 (no_second (shapes.faults_of_member (member.Method m)) (flat_map shapes.faults_of_member ms) none) is
run_clean a (member.Run x ∷ ms) r clean none is =
    let same : x ≡ r = cc in
    subst (IsCleanRun a) same (
      clean.0,
      no_first (shapes.faults_of_member (member.Run x))
          (flat_map shapes.faults_of_member ms) none,
    )
