-- What a name leads to in a plain program stands at a place of it, and is a unit there.
use Rattle.std.proofs.Common.{◌≡◌, ℕ, zero, suc, ◌+◌, Bool, true, false, Option, Some, None, option_map, List, [], ◌∷◌, map, refl, sym, ◌∙◌, ap, subst, arith}
use Rattle.std.proofs.lemmas.Bool.{eqb-true}
use Rattle.std.proofs.lemmas.Option.{slice_get-map}
use Rattle.std.proofs.lemmas.List.Elements.{All-contains, All-from_recursion, Contains-append_left, Contains-append_right}
use Rattle.std.specs.Prelude.{nat_eq, filter_map, slice_get, if◌then◌else◌}
use Rattle.std.specs.List.{Contains, cons_option}
use Rattle.pv_base.specs.declared.Name.{Name}
use Rattle.pv_ast.specs.declared.Expr.{Expr}
use Rattle.pv_ast.specs.declared.Member.{Member}
use Rattle.pv_ast.specs.declared.Member.TheVariants as member
use Rattle.pv_ast.specs.declared.Class.{Class}
use Rattle.pv_ast.specs.declared.Program.{Program}
use Rattle.pv_ast.specs.Rules.Expressions.{Environment}
use Rattle.pv_ast.specs.Rules.Programs.{in_class}
use Rattle.pv_picks.specs.declared.unit.Part.{Part}
use Rattle.pv_picks.specs.declared.unit.Part.TheVariants as part
use Rattle.pv_picks.specs.Plain.Core as core
use Rattle.pv_picks.specs.Plain.Members.{first_that, members_of, members_named, class_named, has_name, is_run, method_of, predicate_of, invariant_in}
use Rattle.pv_picks.specs.Judge.UnitRuns.{Task, OfMethod, OfFormula, task_in_class, task_of_member, task_of_invariant}
use Rattle.pv_picks.specs.Verdicts.Units.{units_of, units_of_invariant, units_of_member, units_of_members, units_of_class, units_of_classes}
use Rattle.pv_picks.specs.Elaborating.Programs.{core_of, core_of_class, core_of_member}
use Rattle.pv_picks.specs.Verdicts.Grounds.{NeverFails}
use Rattle.pv_picks.specs.Verdicts.Theorems.{IsVerified}
use Rattle.core_trees.specs.Naming.{HasUnit, HasSafeUnit, PartsAreUnits}

-- Places of what is found

-- an element that passes stands at a place
record FoundAt {A : Type 0} (test : A → Bool) (xs : List A) (y : A) : Type 0 where
  place : ℕ
  at : slice_get xs place ≡ Some y
  passes : test y ≡ true

first_if : {A : Type 0} (test : A → Bool) (b : Bool) (x y : A) (xs : List A) → test x ≡ b
    → (if b then Some x else first_that test xs) ≡ Some y
    → (first_that test xs ≡ Some y → FoundAt test xs y) → FoundAt test (x ∷ xs) y
first_if test true x y xs h is go = record { place = 0; at = is; passes = let same : x ≡ y = cc in ap test (sym same) ∙ h }
first_if test false x y xs h is go = let k = go is in record { place = suc k.place; at = k.at; passes = k.passes }

found_at : {A : Type 0} (test : A → Bool) (xs : List A) (y : A) → first_that test xs ≡ Some y → FoundAt test xs y
found_at test [] y is = absurd cc
found_at test (x ∷ xs) y is = first_if test (test x) x y xs refl is (found_at test xs y)

-- an element is made of one that stands at a place
record MadeAt {A B : Type 0} (make : A → Option B) (xs : List A) (y : B) : Type 0 where
  from : A
  place : ℕ
  at : slice_get xs place ≡ Some from
  made : make from ≡ Some y

option_at : {A B : Type 0} (make : A → Option B) (o : Option B) (x : A) (xs : List A) (n : ℕ) (y : B) → make x ≡ o
    → slice_get (cons_option o (filter_map make xs)) n ≡ Some y
    → ((m : ℕ) → slice_get (filter_map make xs) m ≡ Some y → MadeAt make xs y) → MadeAt make (x ∷ xs) y
option_at make None x xs n y h is go = let k = go n is in record { from = k.from; place = suc k.place; at = k.at; made = k.made }
option_at make (Some z) x xs zero y h is go = record { from = x; place = 0; at = refl; made = h ∙ is }
option_at make (Some z) x xs (suc n) y h is go = let k = go n is in record
    { from = k.from; place = suc k.place; at = k.at; made = k.made }

made_at : {A B : Type 0} (make : A → Option B) (xs : List A) (n : ℕ) (y : B) → slice_get (filter_map make xs) n ≡ Some y
    → MadeAt make xs y
made_at make [] n y is = absurd cc
made_at make (x ∷ xs) n y is = option_at make (make x) x xs n y refl is (λ m h. made_at make xs m y h)

-- what stands at a place of a list that is made of another
record MappedAt {A B : Type 0} (f : A → B) (xs : List A) (n : ℕ) (y : B) : Type 0 where
  from : A
  at : slice_get xs n ≡ Some from
  made : f from ≡ y

mapped_option : {A B : Type 0} (f : A → B) (xs : List A) (n : ℕ) (y : B) (o : Option A) → slice_get xs n ≡ o
    → option_map f o ≡ Some y → MappedAt f xs n y
mapped_option f xs n y None h is = absurd cc
mapped_option f xs n y (Some x) h is = record { from = x; at = h; made = cc }

mapped_at : {A B : Type 0} (f : A → B) (xs : List A) (n : ℕ) (y : B) → slice_get (map f xs) n ≡ Some y → MappedAt f xs n y
mapped_at f xs n y is = mapped_option f xs n y (slice_get xs n) refl (sym (slice_get-map f xs n) ∙ is)

-- Units at places

first_one : {A : Type 0} (x : A) → Contains (x ∷ []) x
first_one x = (0, omega arith, refl)

abbrev IsUnit : Member → Type 0
IsUnit (member.Field f) = ⊥
IsUnit (member.Predicate q) = Unit {0}
IsUnit (member.Method m) = Unit {0}
IsUnit (member.Run r) = Unit {0}

member_unit : (class place : ℕ) (m : Member) → IsUnit m → Contains (units_of_member class place m)
    (record { class = class; part = part.Member place })
member_unit class place (member.Field f) h = absurd h
member_unit class place (member.Predicate q) h = first_one (record { class = class; part = part.Member place })
member_unit class place (member.Method m) h = first_one (record { class = class; part = part.Member place })
member_unit class place (member.Run r) h = first_one (record { class = class; part = part.Member place })

members_unit : (class first : ℕ) (ms : List Member) (n : ℕ) (m : Member) → slice_get ms n ≡ Some m → IsUnit m
    → Contains (units_of_members class first ms) (record { class = class; part = part.Member (first + n) })
members_unit class first [] n m is h = absurd cc
members_unit class first (x ∷ xs) zero m is h =
    let same : x ≡ m = cc in
    let here : first ≡ first + 0 = omega arith in
    Contains-append_left (units_of_member class first x) (units_of_members class (first + 1) xs)
    (record { class = class; part = part.Member (first + 0) })
    (subst (λ k. Contains (units_of_member class first x) (record { class = class; part = part.Member k })) here
    (member_unit class first x (subst IsUnit (sym same) h)))
members_unit class first (x ∷ xs) (suc n) m is h =
    let here : (first + 1) + n ≡ first + suc n = omega arith in
    Contains-append_right (units_of_member class first x) (units_of_members class (first + 1) xs)
    (record { class = class; part = part.Member (first + suc n) })
    (subst (λ k. Contains (units_of_members class (first + 1) xs) (record { class = class; part = part.Member k })) here
    (members_unit class (first + 1) xs n m is h))

-- a unit of a class, at the place of the class
classes_unit : (first : ℕ) (cs : List Class) (n : ℕ) (c : Class) (p : Part) → slice_get cs n ≡ Some c
    → ((class : ℕ) → Contains (units_of_class class c) (record { class = class; part = p }))
    → Contains (units_of_classes first cs) (record { class = first + n; part = p })
classes_unit first [] n c p is h = absurd cc
classes_unit first (x ∷ xs) zero c p is h =
    let same : x ≡ c = cc in
    let here : first ≡ first + 0 = omega arith in
    Contains-append_left (units_of_class first x) (units_of_classes (first + 1) xs) (record { class = first + 0; part = p })
    (subst (λ k. Contains (units_of_class first x) (record { class = k; part = p })) here
    (subst (λ (y : Class). Contains (units_of_class first y) (record { class = first; part = p })) (sym same) (h first)))
classes_unit first (x ∷ xs) (suc n) c p is h =
    let here : (first + 1) + n ≡ first + suc n = omega arith in
    Contains-append_right (units_of_class first x) (units_of_classes (first + 1) xs) (record { class = first + suc n; part = p })
    (subst (λ k. Contains (units_of_classes (first + 1) xs) (record { class = k; part = p })) here
    (classes_unit (first + 1) xs n c p is h))

from_start : (n : ℕ) → 0 + n ≡ n
from_start n = omega arith

member_within : (class : ℕ) (ms : List Member) (n : ℕ) (m : Member) → slice_get ms n ≡ Some m → IsUnit m
    → Contains (units_of_members class 0 ms) (record { class = class; part = part.Member n })
member_within class ms n m is h =
    subst (λ k. Contains (units_of_members class 0 ms) (record { class = class; part = part.Member k })) (from_start n)
    (members_unit class 0 ms n m is h)

class_within : (cs : List Class) (n : ℕ) (c : Class) (p : Part) → slice_get cs n ≡ Some c
    → ((class : ℕ) → Contains (units_of_class class c) (record { class = class; part = p }))
    → Contains (units_of_classes 0 cs) (record { class = n; part = p })
class_within cs n c p is h =
    subst (λ k. Contains (units_of_classes 0 cs) (record { class = k; part = p })) (from_start n) (classes_unit 0 cs n c p is h)

-- Classes and members

-- a class that is found by a name: its place, what it is of, and its name
record ClassAt (p : Program) (class : Name) (c : core.Class) : Type 0 where
  from : Class
  place : ℕ
  at : slice_get p.classes place ≡ Some from
  made : core_of_class p from ≡ c
  core_at : slice_get (core_of p) place ≡ Some c
  name : c.name ≡ class

class_at : (p : Program) (class : Name) (c : core.Class) → class_named (core_of p) class ≡ Some c → ClassAt p class c
class_at p class c is =
    let k = found_at (λ (x : core.Class). nat_eq x.name.0 class.0) (core_of p) c is in
    let m = mapped_at (core_of_class p) p.classes k.place c k.at in
    record {
      from = m.from;
      place = k.place;
      at = m.at;
      made = m.made;
      core_at = k.at;
      name = ap (λ n. record { 0 = n }) (eqb-true c.name.0 class.0 k.passes);
    }

module _ (p : Program) (class : Name) (c : core.Class) (k : ClassAt p class c) where
  abbrev class_members : List core.Member
  class_members = map (core_of_member (in_class p k.from)) k.from.members

  same_members : c.members ≡ class_members
  same_members = sym (ap (λ (x : core.Class). x.members) k.made)

  -- a member at a place, which is no field
  member_has_unit : (n : ℕ) (m : core.Member) (task : Task) → slice_get c.members n ≡ Some m
      → task_of_member class (Some m) ≡ task
      → ((x : Member) → core_of_member (in_class p k.from) x ≡ m → IsUnit x) → HasUnit p task
  member_has_unit n m task is h unit =
      let from = mapped_at (core_of_member (in_class p k.from)) k.from.members n m
      (sym (ap (λ ms. slice_get ms n) same_members) ∙ is) in
      record {
        unit = record { class = k.place; part = part.Member n };
        among = class_within p.classes k.place k.from (part.Member n) k.at (λ place.
            Contains-append_right (units_of_invariant place k.from.lock_invariant) (units_of_members place 0 k.from.members)
            (record { class = place; part = part.Member n })
            (member_within place k.from.members n from.from from.at (unit from.from from.made)));
        is = ap (task_in_class (part.Member n)) k.core_at ∙ ap (task_of_member c.name) is ∙ ap
            (λ name. task_of_member name (Some m)) k.name ∙ h;
      }

  invariant_unit : (o : Option Expr) (f : core.Formula) (g : Expr → core.Formula)
      (place : ℕ) → option_map g o ≡ Some f → Contains (units_of_invariant place o)
      (record { class = place; part = part.LockInvariant })
  invariant_unit None f g place is = absurd cc
  invariant_unit (Some e) f g place is = first_one (record { class = place; part = part.LockInvariant })

  invariant_has_unit : (f : core.Formula) → c.lock_invariant ≡ Some f → HasUnit p (OfFormula class [] f)
  invariant_has_unit f is = record {
    unit = record { class = k.place; part = part.LockInvariant };
    among = class_within p.classes k.place k.from part.LockInvariant k.at (λ place.
        Contains-append_left (units_of_invariant place k.from.lock_invariant) (units_of_members place 0 k.from.members)
        (record { class = place; part = part.LockInvariant })
        (invariant_unit k.from.lock_invariant f _ place (ap (λ (x : core.Class). x.lock_invariant) k.made ∙ is)));
    is = ap (task_in_class part.LockInvariant) k.core_at ∙ ap (task_of_invariant c.name) is ∙ ap
        (λ name. OfFormula name [] f) k.name;
  }

-- a member that gives a method, and one that gives a predicate
method_task : (class : Name) (x : core.Member) (m : core.Method) → method_of x ≡ Some m
    → task_of_member class (Some x) ≡ OfMethod class m
method_task class (core.IsField f) m is = absurd cc
method_task class (core.IsPredicate q) m is = absurd cc
method_task class (core.IsMethod n) m is = let same : n ≡ m = cc in ap (OfMethod class) same

predicate_task : (class : Name) (x : core.Member) (d : core.Predicate) → predicate_of x ≡ Some d
    → task_of_member class (Some x) ≡ OfFormula class d.parameters d.body
predicate_task class (core.IsField f) d is = absurd cc
predicate_task class (core.IsPredicate q) d is = let same : q ≡ d = cc in ap
    (λ (d : core.Predicate). OfFormula class d.parameters d.body) same
predicate_task class (core.IsMethod n) d is = absurd cc

method_unit : (a : Environment) (x : Member) (y : core.Member) (m : core.Method) → core_of_member a x ≡ y → method_of y ≡ Some m
    → IsUnit x
method_unit a (member.Field f) y m is h = absurd (let no : None ≡ Some m = ap method_of is ∙ h in cc)
method_unit a (member.Predicate q) y m is h = tt
method_unit a (member.Method n) y m is h = tt
method_unit a (member.Run r) y m is h = tt

predicate_unit : (a : Environment) (x : Member) (y : core.Member) (d : core.Predicate) → core_of_member a x ≡ y
    → predicate_of y ≡ Some d → IsUnit x
predicate_unit a (member.Field f) y d is h = absurd (let no : None ≡ Some d = ap predicate_of is ∙ h in cc)
predicate_unit a (member.Predicate q) y d is h = tt
predicate_unit a (member.Method n) y d is h = tt
predicate_unit a (member.Run r) y d is h = tt

-- Programs

module _ (p : Program) (class : Name) where
  no_member : {A : Type 0} (test : A → Bool) (make : core.Member → Option A) (o : Option core.Class) → (task : A → Task)
      → ((c : core.Class) (y : A) → o ≡ Some c → first_that test (filter_map make c.members) ≡ Some y → HasUnit p (task y))
      → (y : A) → first_that test (filter_map make (members_of o)) ≡ Some y → HasUnit p (task y)
  no_member test make None task go y is = absurd cc
  no_member test make (Some c) task go y is = go c y refl is

  method_in : (test : core.Method → Bool) (m : core.Method)
      → first_that test (filter_map method_of (members_named (core_of p) class)) ≡ Some m → HasUnit p (OfMethod class m)
  method_in test m is = no_member test method_of (class_named (core_of p) class) (OfMethod class) (λ c m named is.
      let f = found_at test (filter_map method_of c.members) m is in
      let x = made_at method_of c.members f.place m f.at in
      let k : ClassAt p class c = class_at p class c named in
      member_has_unit p class c k x.place x.from (OfMethod class m) x.at (method_task class x.from m x.made)
      (λ y h. method_unit (in_class p k.from) y x.from m h x.made)) m is

  predicate_in : (test : core.Predicate → Bool) (d : core.Predicate)
      → first_that test (filter_map predicate_of (members_named (core_of p) class)) ≡ Some d → HasUnit p
      (OfFormula class d.parameters d.body)
  predicate_in test d is = no_member test predicate_of (class_named (core_of p) class)
      (λ d. OfFormula class d.parameters d.body) (λ c d named is.
      let f = found_at test (filter_map predicate_of c.members) d is in
      let x = made_at predicate_of c.members f.place d f.at in
      let k : ClassAt p class c = class_at p class c named in
      member_has_unit p class c k x.place x.from (OfFormula class d.parameters d.body) x.at (predicate_task class x.from d x.made)
      (λ y h. predicate_unit (in_class p k.from) y x.from d h x.made)) d is

  invariant_found : (f : core.Formula) (o : Option core.Class) → class_named (core_of p) class ≡ o → invariant_in o ≡ Some f
      → HasUnit p (OfFormula class [] f)
  invariant_found f None h is = absurd cc
  invariant_found f (Some c) h is = invariant_has_unit p class c (class_at p class c h) f is

pub parts_are_units : (p : Program) → PartsAreUnits p
parts_are_units p = record {
  methods = λ class name m is. method_in p class (λ m. has_name m.name name) m is;
  runs = λ class m is. method_in p class is_run m is;
  predicates = λ class name d is. predicate_in p class (λ (d : core.Predicate). nat_eq d.name.0 name.0) d is;
  invariants = λ class f is. invariant_found p class f (class_named (core_of p) class) refl is;
}

pub verified_parts : (p : Program) (task : Task) → IsVerified p → HasUnit p task → HasSafeUnit p task
verified_parts p task verified u = record {
  unit = u.unit;
  is = u.is;
  safe = All-contains (NeverFails (core_of p)) (units_of p) u.unit
      (All-from_recursion (NeverFails (core_of p)) (units_of p) verified) u.among;
}
