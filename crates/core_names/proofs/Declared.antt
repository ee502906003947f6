-- What is so of each method of a program is so of each that a name leads to.
use Rattle.std.proofs.Common.{◌≡◌, Bool, true, false, Option, Some, None, List, [], ◌∷◌, refl, subst, inl, inr}
use Rattle.std.specs.Prelude.{nat_eq, filter_map, if◌then◌else◌}
use Rattle.std.specs.List.{AllByRecursion}
use Rattle.pv_base.specs.declared.Name.{Name}
use Rattle.pv_picks.specs.Plain.Core.{Method, Member, IsField, IsPredicate, IsMethod, Class, Program}
use Rattle.pv_picks.specs.Plain.Members.{first_that, method_of, has_name, is_run, members_of, class_named}
use Rattle.core_names.specs.Carrying.{IsDeclared}

first_if : {A : Type 0} (P : A → Type 0) (b : Bool) (x y : A) (rest : Option A) → P x → (rest ≡ Some y → P y)
    → (if b then Some x else rest) ≡ Some y
    → P y
first_if P true x y rest h k is = let same : x ≡ y = cc in subst P same h
first_if P false x y rest h k is = k is

-- the first that passes a test is one of the list
pub first_among : {A : Type 0} (P : A → Type 0) (test : A → Bool) (xs : List A) (y : A) → AllByRecursion P xs
    → first_that test xs ≡ Some y → P y
first_among P test [] y all is = absurd cc
first_among P test (x ∷ xs) y all is =
    first_if P (test x) x y (first_that test xs) all.0 (λ k. first_among P test xs y all.1 k) is

-- each method of a class, and of each class of a program
abbrev pub MethodsHave : (Method → Type 0) → Class → Type 0
MethodsHave P c = AllByRecursion P (filter_map method_of c.members)

module _ (P : Method → Type 0) where
  class_has : (p : Program) → AllByRecursion (MethodsHave P) p → (class : Name) (o : Option Class) → class_named p class ≡ o
      → AllByRecursion P (filter_map method_of (members_of o))
  class_has p all class None is = tt
  class_has p all class (Some c) is = first_among (MethodsHave P) (λ (c : Class). nat_eq c.name.0 class.0) p c all is

  -- so each that a name leads to
  pub declared_has : (p : Program) → AllByRecursion (MethodsHave P) p → (class : Name) (m : Method) → IsDeclared p class m → P m
  declared_has p all class m (inl k) =
      first_among P (λ m. has_name m.name k.0) _ m (class_has p all class (class_named p class) refl) k.1
  declared_has p all class m (inr k) = first_among P is_run _ m (class_has p all class (class_named p class) refl) k

  module _ (M : Member → Type 0) (of_method : (m : Method) → M (IsMethod m) → P m) where
    members_have : (ms : List Member) → AllByRecursion M ms → AllByRecursion P (filter_map method_of ms)
    members_have [] all = tt
    members_have (IsField f ∷ ms) all = members_have ms all.1
    members_have (IsPredicate q ∷ ms) all = members_have ms all.1
    members_have (IsMethod m ∷ ms) all = (of_method m all.0, members_have ms all.1)

    classes_have : (cs : List Class) → AllByRecursion (λ (c : Class). AllByRecursion M c.members) cs
        → AllByRecursion (MethodsHave P) cs
    classes_have [] all = tt
    classes_have (c ∷ cs) all = (members_have c.members all.0, classes_have cs all.1)

    -- what is so of each member of a program, and with it of each method
    pub member_has : (p : Program) → AllByRecursion (λ (c : Class). AllByRecursion M c.members) p → (class : Name) (m : Method)
        → IsDeclared p class m → P m
    member_has p all class m declared = declared_has p (classes_have p all) class m declared
