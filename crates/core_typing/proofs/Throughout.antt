-- What is found by its name in a program whose classes are well typed is well typed.
use Rattle.std.proofs.Common.{◌≡◌, Bool, true, false, not, Option, Some, None, is_some, List, [], ◌∷◌, map, refl, ap, subst}
use Rattle.std.proofs.lemmas.Bool.{eqb-true}
use Rattle.std.specs.Prelude.{if◌then◌else◌}
use Rattle.std.specs.List.{AllByRecursion, filter_map, cons_option}
use Rattle.pv_base.specs.declared.Name.{Name}
use Rattle.pv_ast.specs.declared.PvType.{PvType}
use Rattle.pv_base.specs.Names.{same_name}
use Rattle.pv_picks.specs.Plain.Core as core
use Rattle.pv_picks.specs.Plain.Core.{Program, Class, Member, Parameter, Predicate, Method, Formula}
use Rattle.pv_picks.specs.Plain.Members.{field_of, fields_of, predicate_of, method_of, has_name, is_run, first_that, class_named, members_of, invariant_in, type_in}
use Rattle.pv_picks.specs.Typing.Expressions.{silent, IsDeclared}
use Rattle.pv_picks.specs.Typing.Blocks.{ProgramFits}
use Rattle.core_trees.specs.Naming.{AreDistinct}
use Rattle.core_trees.specs.Formulas.{FormulaFits, PredicateFits, MethodSays, MemberFits, InvariantFits, FormulasFit, in_class}
use Rattle.core_trees.specs.Throughout.{IsTypedThroughout}

-- The first member of a kind that passes a test

module _ {A : Type 0} (P : Member → Type 0) (Q : A → Type 0) (kind : Member → Option A) (test : A → Bool)
    (holds : (m : Member) (x : A) → P m → kind m ≡ Some x → Q x) where
  passing : (b : Bool) (y x : A) (rest : Option A) → test y ≡ b → Q y → (rest ≡ Some x → Q x × (test x ≡ true))
      → (if b then Some y else rest) ≡ Some x → Q x × (test x ≡ true)
  passing true y x rest is q further k = let same : y ≡ x = cc in subst (λ z. Q z × (test z ≡ true)) same (q, is)
  passing false y x rest is q further k = further k

  one_more : (m : Member) (o : Option A) (ms : List A) (x : A) → kind m ≡ o → P m
      → (first_that test ms ≡ Some x → Q x × (test x ≡ true))
      → first_that test (cons_option o ms) ≡ Some x → Q x × (test x ≡ true)
  one_more m None ms x is p further k = further k
  one_more m (Some y) ms x is p further k = passing (test y) y x (first_that test ms) refl (holds m y p is) further k

  among : (ms : List Member) (x : A) → AllByRecursion P ms → first_that test (filter_map kind ms) ≡ Some x → Q x × (test x ≡ true)
  among [] x all k = absurd cc
  among (m ∷ ms) x all k = one_more m (kind m) (filter_map kind ms) x refl all.0 (λ i. among ms x all.1 i) k

  in_found : (o : Option Class) (x : A) → ((c : Class) → o ≡ Some c → AllByRecursion P c.members)
      → first_that test (filter_map kind (members_of o)) ≡ Some x → Q x × (test x ≡ true)
  in_found None x all k = absurd cc
  in_found (Some c) x all k = among c.members x (all c refl) k

-- Names

named : (o : Option Name) (name : Name) → has_name o name ≡ true → o ≡ Some name
named None name k = absurd cc
named (Some other) name k =
    let numbers : other.0 ≡ name.0 = eqb-true other.0 name.0 k in
    let same : other ≡ name = ap (λ n. record { 0 = n }) numbers in
    ap (λ (n : Name). Some n) same

unnamed : (o : Option Name) → not (is_some o) ≡ true → o ≡ None
unnamed None k = refl
unnamed (Some name) k = absurd cc

-- Members

module _ (p : Program) (class : Name) where
  field_holds : (m : Member) (x : Parameter) → MemberFits (in_class p class) m → field_of m ≡ Some x → IsDeclared x.1
  field_holds (core.IsField f) x fits is = let same : f ≡ x = cc in subst (λ (y : Parameter). IsDeclared y.1) same fits
  field_holds (core.IsPredicate q) x fits is = absurd cc
  field_holds (core.IsMethod m) x fits is = absurd cc

  predicate_holds : (m : Member) (x : Predicate) → MemberFits (in_class p class) m → predicate_of m ≡ Some x
      → PredicateFits (in_class p class) x
  predicate_holds (core.IsField f) x fits is = absurd cc
  predicate_holds (core.IsPredicate q) x fits is = let same : q ≡ x = cc in subst (PredicateFits (in_class p class)) same fits
  predicate_holds (core.IsMethod m) x fits is = absurd cc

  method_holds : (m : Member) (x : Method) → MemberFits (in_class p class) m → method_of m ≡ Some x
      → MethodSays (in_class p class) x
  method_holds (core.IsField f) x fits is = absurd cc
  method_holds (core.IsPredicate q) x fits is = absurd cc
  method_holds (core.IsMethod m) x fits is = let same : m ≡ x = cc in subst (MethodSays (in_class p class)) same fits

  field_declared : (o : Option Parameter) (type : PvType) → ((x : Parameter) → o ≡ Some x → IsDeclared x.1)
      → type_in o ≡ Some type → IsDeclared type
  field_declared None type h k = absurd cc
  field_declared (Some x) type h k = let same : x.1 ≡ type = cc in subst IsDeclared same (h x refl)

  invariant_holds : (o : Option Class) (f : Formula) → ((c : Class) → o ≡ Some c → InvariantFits
      (in_class p class) c.lock_invariant)
      → invariant_in o ≡ Some f → FormulaFits (in_class p class) silent [] f
  invariant_holds None f h k = absurd cc
  invariant_holds (Some c) f h k = by c.lock_invariant (h c refl) k
    where
      by : (o : Option Formula) → InvariantFits (in_class p class) o → o ≡ Some f → FormulaFits (in_class p class) silent [] f
      by None fits is = absurd cc
      by (Some g) fits is = let same : g ≡ f = cc in subst (FormulaFits (in_class p class) silent []) same fits

-- Programs

pub typed_throughout : (p : Program) → ProgramFits p → FormulasFit p
    → ((class : Name) → AreDistinct (map (λ f. f.0) (fields_of p class)))
    → IsTypedThroughout p
typed_throughout p bodies formulas names = record {
  bodies = bodies;
  names = names;
  fields = λ class field type is.
      field_declared p class (first_that (λ f. same_name f.0 field) (filter_map field_of (members_of (class_named p class)))) type
      (λ x found. (in_found (MemberFits (in_class p class)) (λ (x : Parameter). IsDeclared x.1) field_of
      (λ f. same_name f.0 field)
      (field_holds p class) (class_named p class) x (λ c k. (formulas class c k).1) found).0) is;
  predicates = λ class name q is.
      (in_found (MemberFits (in_class p class)) (PredicateFits (in_class p class)) predicate_of (λ d. same_name d.name name)
      (predicate_holds p class) (class_named p class) q (λ c k. (formulas class c k).1) is).0;
  methods = λ class name m is.
      let found = in_found (MemberFits (in_class p class)) (MethodSays (in_class p class)) method_of (λ m. has_name m.name name)
      (method_holds p class) (class_named p class) m (λ c k. (formulas class c k).1) is in
      (found.0, named m.name name found.1);
  runs = λ class m is.
      let found = in_found (MemberFits (in_class p class)) (MethodSays (in_class p class)) method_of is_run
      (method_holds p class) (class_named p class) m (λ c k. (formulas class c k).1) is in
      (found.0, unnamed m.name found.1);
  invariants = λ class f is. invariant_holds p class (class_named p class) f (λ c k. (formulas class c k).0) is;
}
