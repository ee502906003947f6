-- What a run may come to of a shaped program is shaped.
use Rattle.std.proofs.Common.{◌≡◌, ℕ, zero, suc, pos, Bool, true, false, if◌then◌else◌, Option, Some, None, List, [], ◌∷◌, refl, subst, inl, inr}
use Rattle.std.specs.Prelude.{slice_get}
use Rattle.std.specs.List.{AllByRecursion, filter_map}
use Rattle.pv_base.specs.declared.Name.{Name}
use Rattle.pv_base.specs.declared.Span.{Span}
use Rattle.pv_ast.specs.declared.PvType.TheVariants as type
use Rattle.pv_values.specs.declared.value.Value.TheVariants as value
use Rattle.pv_base.specs.Names.{same_name}
use Rattle.pv_picks.specs.declared.unit.PvUnit.{PvUnit}
use Rattle.pv_picks.specs.declared.unit.Part.{Part}
use Rattle.pv_picks.specs.declared.unit.Part.TheVariants as part
use Rattle.pv_picks.specs.Plain.Core.{Expression, Constant, Variable, Field, This, Element, Compute, Plain, Plus, Equal, Old, Compare, Less, Formula, Predicate, Method, Member, IsField, IsPredicate, IsMethod, Class, Program}
use Rattle.pv_picks.specs.Plain.Members.{predicate_of, method_of, has_name, first_that, class_named, members_of, members_named, is_run, invariant_in, invariant_of}
use Rattle.pv_picks.specs.Judge.UnitRuns.{task_of, task_in_class, task_of_member, task_of_invariant}
use Rattle.judge_facts.specs.Shapes.{IsShaped, ShapedFormula, ShapedContract, ShapedMember, ShapedInvariant, ShapedClass, ShapedProgram, ShapedTask, IsShapedProgram}

some_of : {A : Type 0} (P : A → Type 0) (x y : A) → Some x ≡ Some y → P x → P y
some_of P x y e h = subst P (cc e) h

all_first : {A : Type 0} (P : A → Type 0) (test : A → Bool) (xs : List A) → AllByRecursion P xs → (x : A)
    → first_that test xs ≡ Some x → P x
all_first P test [] h x e = absurd (cc e)
all_first P test (y ∷ ys) h x e = go (test y) e (all_first P test ys h.1 x)
  where
    go : (b : Bool) → (if b then Some y else first_that test ys) ≡ Some x → (first_that test ys ≡ Some x → P x) → P x
    go true e f = some_of P y x e h.0
    go false e f = f e

all_get : {A : Type 0} (P : A → Type 0) (xs : List A) (n : ℕ) → AllByRecursion P xs → (x : A) → slice_get xs n ≡ Some x → P x
all_get P [] n h x e = absurd (cc e)
all_get P (y ∷ ys) zero h x e = some_of P y x e h.0
all_get P (y ∷ ys) (suc n) h x e = all_get P ys n h.1 x e

module _ (Q : Name → Expression → Type 0) where
  methods_shaped : (ms : List Member) → AllByRecursion (ShapedMember Q) ms
      → AllByRecursion (λ (m : Method). ShapedContract Q m.contract) (filter_map method_of ms)
  methods_shaped [] h = tt
  methods_shaped (IsField f ∷ ms) h = methods_shaped ms h.1
  methods_shaped (IsPredicate q ∷ ms) h = methods_shaped ms h.1
  methods_shaped (IsMethod m ∷ ms) h = (h.0.0, methods_shaped ms h.1)

  predicates_shaped : (ms : List Member) → AllByRecursion (ShapedMember Q) ms
      → AllByRecursion (λ (q : Predicate). ShapedFormula Q q.body) (filter_map predicate_of ms)
  predicates_shaped [] h = tt
  predicates_shaped (IsField f ∷ ms) h = predicates_shaped ms h.1
  predicates_shaped (IsPredicate q ∷ ms) h = (h.0, predicates_shaped ms h.1)
  predicates_shaped (IsMethod m ∷ ms) h = predicates_shaped ms h.1

  members_shaped : (p : Program) → IsShapedProgram Q p → (d : Name) → AllByRecursion (ShapedMember Q) (members_named p d)
  members_shaped p h d = go (class_named p d) refl
    where
      go : (o : Option Class) → class_named p d ≡ o → AllByRecursion (ShapedMember Q) (members_of o)
      go None e = tt
      go (Some c) e = (all_first (ShapedClass Q) (λ c. same_name c.name d) p h c e).1

  invariant_shaped : (p : Program) → IsShapedProgram Q p → (d : Name) (f : Formula) → invariant_of p d ≡ Some f
      → ShapedFormula Q f
  invariant_shaped p h d f e = go (class_named p d) refl e
    where
      in_class : (o : Option Formula) → ShapedInvariant Q o → o ≡ Some f → ShapedFormula Q f
      in_class None k e = absurd (cc e)
      in_class (Some g) k e = some_of (ShapedFormula Q) g f e k

      go : (o : Option Class) → class_named p d ≡ o → invariant_in o ≡ Some f → ShapedFormula Q f
      go None k e = absurd (cc e)
      go (Some c) k e = in_class c.lock_invariant (all_first (ShapedClass Q) (λ c. same_name c.name d) p h c k).0 e

  pub shaped_program : (p : Program) → IsShapedProgram Q p → ShapedProgram Q p
  shaped_program p h = record {
    method = λ d n m e. all_first (λ (m : Method). ShapedContract Q m.contract) (λ m. has_name m.name n)
        (filter_map method_of (members_named p d)) (methods_shaped (members_named p d) (members_shaped p h d)) m e;
    predicate = λ d n m e. all_first (λ (q : Predicate). ShapedFormula Q q.body) (λ q. same_name q.name n)
        (filter_map predicate_of (members_named p d)) (predicates_shaped (members_named p d) (members_shaped p h d)) m e;
    run = λ d m e. all_first (λ (m : Method). ShapedContract Q m.contract) is_run (filter_map method_of (members_named p d))
        (methods_shaped (members_named p d) (members_shaped p h d)) m e;
    invariant = invariant_shaped p h;
  }

  member_task : (d : Name) (m : Member) → ShapedMember Q m → ShapedTask Q (task_of_member d (Some m))
  member_task d (IsField f) h = tt
  member_task d (IsPredicate q) h = h
  member_task d (IsMethod m) h = h

  invariant_task : (d : Name) (o : Option Formula) → ShapedInvariant Q o → ShapedTask Q (task_of_invariant d o)
  invariant_task d None h = tt
  invariant_task d (Some f) h = h

  pub shaped_task : (p : Program) → IsShapedProgram Q p → (unit : PvUnit) → ShapedTask Q (task_of p unit)
  shaped_task p h unit = go (slice_get p unit.class) refl unit.part
    where
      at : (c : Class) (n : ℕ) → AllByRecursion (ShapedMember Q) c.members → (o : Option Member) → slice_get c.members n ≡ o
          → ShapedTask Q (task_of_member c.name o)
      at c n k None e = tt
      at c n k (Some m) e = member_task c.name m (all_get (ShapedMember Q) c.members n k m e)

      go : (o : Option Class) → slice_get p unit.class ≡ o → (x : Part) → ShapedTask Q (task_in_class x o)
      go None e x = tt
      go (Some c) e part.LockInvariant = invariant_task c.name c.lock_invariant (all_get (ShapedClass Q) p unit.class h c e).0
      go (Some c) e (part.Member n) = at c n (all_get (ShapedClass Q) p unit.class h c e).1 (slice_get c.members n) refl

-- Examples: `this.a[i + 1] == \old(b[i + 1])`; a comparison of the position with a term, in which an element at another index
-- stands

abbrev i : Name
i = record { 0 = 1 }

abbrev two_arrays : Span → Expression
two_arrays s =
    Equal true (Element type.Int (Field This (record { 0 = 7 }) (record { 0 = 8 }) s)
    (Compute Plain Plus (Variable i) (Constant (value.Number (pos 1))) s) s)
    (Old (Element type.Int (Variable (record { 0 = 2 })) (Compute Plain Plus (Variable i) (Constant (value.Number (pos 1))) s) s))

example_two : (s : Span) → IsShaped i (two_arrays s)
example_two s = ((tt, (tt, tt)), inl (pos 1, ((refl, inr refl), (refl, inr refl))))

example_position : (s : Span)
    → IsShaped i (Compare Less (Variable i) (Element type.Int (Variable (record { 0 = 2 })) (Constant (value.Number (pos 3))) s))
example_position s = (tt, inr tt)
