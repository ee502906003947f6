-- A program is well typed where the methods of each of its classes are.
use Rattle.std.proofs.Common.{◌≡◌, Bool, true, false, refl, subst, Some, List, [], ◌∷◌}
use Rattle.std.specs.Prelude.{if◌then◌else◌}
use Rattle.std.specs.List.{filter_map}
use Rattle.pv_base.specs.declared.Name.{Name}
use Rattle.pv_base.specs.Names.{same_name}
use Rattle.pv_picks.specs.Plain.Core.{Method, Class, Program}
use Rattle.pv_picks.specs.Plain.Members.{first_that, has_name, is_run, method_of, members_of}
use Rattle.pv_picks.specs.Typing.Blocks.{MethodFits, ProgramFits}
use Rattle.worked_runs.proofs.OneField.{name_eq}

-- a method, which has no parameters where it is a `run`
pub record MemberFits (p : Program) (class : Name) (m : Method) : Type 0 where
  pub fits : MethodFits p class m
  pub run : is_run m ≡ true → m.parameters ≡ []

abbrev pub MembersFit : Program → Name → List Method → Type 0
MembersFit p class [] = Unit {0}
MembersFit p class (m ∷ ms) = MemberFits p class m × MembersFit p class ms

abbrev pub ClassesFit : Program → List Class → Type 0
ClassesFit p [] = Unit {0}
ClassesFit p (c ∷ cs) = MembersFit p c.name (filter_map method_of c.members) × ClassesFit p cs

-- what is found among the methods fits, and passes the test
found : (p : Program) (class : Name) (test : Method → Bool) (ms : List Method) (m : Method) → MembersFit p class ms
    → first_that test ms ≡ Some m
    → MemberFits p class m × (test m ≡ true)
found p class test [] m h e = absurd (cc)
found p class test (x ∷ xs) m h e = here (test x) refl (found p class test xs m h.1) e
  where
    here : (b : Bool) → test x ≡ b → (first_that test xs ≡ Some m → MemberFits p class m × (test m ≡ true))
        → (if b then Some x else first_that test xs) ≡ Some m → MemberFits p class m × (test m ≡ true)
    here true t others k = let s : x ≡ m = cc k in (subst (MemberFits p class) s h.0, subst (λ (y : Method). test y ≡ true) s t)
    here false t others k = others k

-- the methods of the class of a name fit
at_class : (p : Program) (cs : List Class) (class : Name) → ClassesFit p cs
    → MembersFit p class (filter_map method_of (members_of (first_that (λ c. same_name c.name class) cs)))
at_class p [] class h = tt
at_class p (c ∷ cs) class h = here (same_name c.name class) refl (at_class p cs class h.1)
  where
    here : (b : Bool) → same_name c.name class ≡ b
        → MembersFit p class (filter_map method_of (members_of (first_that (λ c. same_name c.name class) cs)))
        → MembersFit p class
        (filter_map method_of (members_of (if b then Some c else first_that (λ c. same_name c.name class) cs)))
    here true t others = subst (λ (n : Name). MembersFit p n (filter_map method_of c.members)) (name_eq c.name class t) h.0
    here false t others = others

pub by_classes : (p : Program) → ClassesFit p p → ProgramFits p
by_classes p h = record {
  methods = λ class name m e. (found p class (λ m. has_name m.name name) (methods class) m (at_class p p class h) e).0.fits;
  runs = λ class m e. let f = found p class is_run (methods class) m (at_class p p class h) e in (f.0.fits, f.0.run f.1);
}
  where
    methods : Name → List Method
    methods class = filter_map method_of (members_of (first_that (λ c. same_name c.name class) p))
