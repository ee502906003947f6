-- Where expressions stand in a program that breaks no rule, and what the types of parts without a fault say there.
use Rattle.std.proofs.Common.{◌≡◌, ℕ, Bool, true, false, not, ◌||◌, Option, Some, None, is_some, List, [], ◌∷◌, ◌++◌, ◌≤◌, length, refl, sym, ◌∙◌, ap, subst}
use Rattle.std.proofs.lemmas.Bool.{and_from}
use Rattle.std.specs.Prelude.{nat_eq, if◌then◌else◌}
use Rattle.std.specs.List.{AllByRecursion}
use Rattle.pv_base.specs.declared.Name.{Name}
use Rattle.pv_base.specs.declared.Span.{Span}
use Rattle.pv_ast.specs.declared.Param.{Param}
use Rattle.pv_ast.specs.declared.Operator.{Operator}
use Rattle.pv_ast.specs.declared.Operator.TheVariants as op
use Rattle.pv_ast.specs.declared.PvType.{PvType}
use Rattle.pv_ast.specs.declared.PvType.TheVariants.{Int, Truth, Object, IntArray, TruthArray, Null}
use Rattle.pv_ast.specs.declared.Class.{Class}
use Rattle.pv_ast.specs.declared.fault.Rule.TheVariants as rule
use Rattle.pv_ast.specs.declared.scope.Declaration.{Declaration}
use Rattle.pv_ast.specs.declared.scope.Declared.{Declared}
use Rattle.pv_ast.specs.declared.standing.Need.{Need}
use Rattle.pv_ast.specs.declared.standing.Need.TheVariants.{Anything, Exactly, AnObject, AnArray}
use Rattle.pv_ast.specs.declared.standing.Seen.{Seen}
use Rattle.pv_ast.specs.declared.standing.Typing.{Typing}
use Rattle.pv_ast.specs.declared.standing.Typing.TheVariants.{Unsettled, Untyped, Typed}
use Rattle.pv_ast.specs.Rules.Lookup.{class_named, is_declared_type}
use Rattle.pv_ast.specs.Rules.Scoping.{Visible, declared_as, declare_variable, is_visible, as_variable, is_block, variable_named}
use Rattle.pv_ast.specs.Rules.Typing as typing
use Rattle.pv_ast.specs.Rules.Expressions.{Environment, class_of, holder_of, holder_of_typing, among, members_of, type_of_field, type_of_param, value_seen}
use Rattle.pv_picks.specs.Plain.Core as core
use Rattle.core_trees.proofs.Clean.{Clean, unless_holds}
use Rattle.core_trees.proofs.Mirrors.{Mirrors}
use Rattle.core_trees.proofs.Agreeing.{with_name, within_more}

-- the class of a type, where it has one, is declared
abbrev pub has_class : List Class → PvType → Bool
has_class classes type = typing.is_null type || is_declared_type classes type

pub declared_class : (classes : List Class) (type : PvType) → is_declared_type classes type ≡ true → has_class classes type ≡ true
declared_class classes type h = or_true (typing.is_null type) (is_declared_type classes type) h
  where
    or_true : (x y : Bool) → y ≡ true → (x || y) ≡ true
    or_true true y k = refl
    or_true false y k = k

abbrev pub IsDeclared : List Class → Typing → Type 0
IsDeclared classes Unsettled = Unit {0}
IsDeclared classes Untyped = Unit {0}
IsDeclared classes (Typed type) = has_class classes type ≡ true

-- a name in scope is a block's, or a variable's of a type that a declaration may have
abbrev pub may_declare : List Class → Declared → Bool
may_declare classes d = is_block d.declaration || is_declared_type classes d.kind

abbrev pub AllDeclared : List Class → List (ℕ × Declared) → Type 0
AllDeclared classes names = AllByRecursion (λ entry. may_declare classes entry.1 ≡ true) names

-- the plain tree declares what the program does, the class of `this` stands in it, and each type of a field, of the result and of
-- a variable in scope is declared; no more names stand outside the innermost body than are in scope
pub record Sound (tree : core.Program) (a : Environment) (v : Visible) : Type 0 where
  pub mirrors : Mirrors a.program tree
  pub here : a.here ≡ class_named a.program.classes a.class
  pub own : is_some (class_named a.program.classes a.class) ≡ true
  pub fields : (class field : Name) (type : PvType) → type_of_field (class_named a.program.classes class) field ≡ Some type
      → is_declared_type a.program.classes type ≡ true
  pub result : (type : PvType) → a.result ≡ Some type → is_declared_type a.program.classes type ≡ true
  pub visible : AllDeclared a.program.classes v.names
  pub within : v.outside ≤ length v.names

-- a type is known, or there is none; `this` has its class; a class is declared
pub record SeenKept (a : Environment) (s : Seen) : Type 0 where
  pub settled : (s.typing ≡ Unsettled) → ⊥
  pub this : s.this ≡ true → s.typing ≡ Typed (Object a.class)
  pub declared : IsDeclared a.program.classes s.typing

-- Names in scope

one_more : (classes : List Class) (names : List (ℕ × Declared)) (entry : ℕ × Declared) → AllDeclared classes names
    → may_declare classes entry.1 ≡ true → AllDeclared classes (names ++ entry ∷ [])
one_more classes [] entry h k = (k, tt)
one_more classes (e ∷ es) entry h k = (h.0, one_more classes es entry h.1 k)

declared_if : (classes : List Class) (v : Visible) (b : Bool) (entry : ℕ × Declared) → AllDeclared classes v.names
    → may_declare classes entry.1 ≡ true → AllDeclared classes (if b then v else record v { names = v.names ++ entry ∷ [] }).names
declared_if classes v true entry h k = h
declared_if classes v false entry h k = one_more classes v.names entry h k

within_if : (v : Visible) (b : Bool) (entry : ℕ × Declared) → v.outside ≤ length v.names
    → (if b then v else with_name v entry).outside ≤ length (if b then v else with_name v entry).names
within_if v true entry h = h
within_if v false entry h = within_more v.outside v.names entry h

-- one more name is in scope: a block's, or a variable's of a type that a declaration may have
pub sound_with : (tree : core.Program) (a : Environment) (v : Visible) (how : Declaration) (name : Name) (type : PvType)
    → may_declare a.program.classes (record { declaration = how; kind = type }) ≡ true → Sound tree a v
    → Sound tree a (declare_variable how v name type)
sound_with tree a v how name type d s = record {
  mirrors = s.mirrors;
  here = s.here;
  own = s.own;
  fields = s.fields;
  result = s.result;
  visible = declared_if a.program.classes v (is_visible v name) (name.0, record { declaration = how; kind = type }) s.visible d;
  within = within_if v (is_visible v name) (name.0, record { declaration = how; kind = type }) s.within;
}

found_if : (classes : List Class) (b : Bool) (d : Declared) (rest : Option Declared) (e : Declared) → may_declare classes d ≡ true
    → (rest ≡ Some e → may_declare classes e ≡ true) → (if b then Some d else rest) ≡ Some e → may_declare classes e ≡ true
found_if classes true d rest e h k i = let same : d ≡ e = cc in subst (λ (x : Declared). may_declare classes x ≡ true) same h
found_if classes false d rest e h k i = k i

found_declared : (classes : List Class) (names : List (ℕ × Declared)) (name : Name) (d : Declared) → AllDeclared classes names
    → declared_as names name ≡ Some d → may_declare classes d ≡ true
found_declared classes [] name d h i = absurd cc
found_declared classes (e ∷ es) name d h i =
    found_if classes (nat_eq name.0 e.0) e.1 (declared_as es name) d h.0 (λ j. found_declared classes es name d h.1 j) i

variable_if : (b : Bool) (d e : Declared) → (if b then None else Some d) ≡ Some e → (Some d ≡ Some e) × (b ≡ false)
variable_if true d e i = absurd cc
variable_if false d e i = (i, refl)

no_block_is : (d e : Declared) → (Some d ≡ Some e) × (is_block d.declaration ≡ false) → is_block e.declaration ≡ false
no_block_is d e h = let same : d ≡ e = let found = h.0 in cc in subst (λ (x : Declared). is_block x.declaration ≡ false) same h.1

as_declared : (o : Option Declared) (d : Declared) → as_variable o ≡ Some d → (o ≡ Some d) × (is_block d.declaration ≡ false)
as_declared None d i = absurd cc
as_declared (Some e) d i = let h = variable_if (is_block e.declaration) e d i in (h.0, no_block_is e d h)

type_declared : (b t : Bool) → (b || t) ≡ true → b ≡ false → t ≡ true
type_declared true t h k = absurd cc
type_declared false t h k = h

pub variable_declared : (tree : core.Program) (a : Environment) (v : Visible) (name : Name) (d : Declared) → Sound tree a v
    → variable_named v name ≡ Some d → is_declared_type a.program.classes d.kind ≡ true
variable_declared tree a v name d s i =
    let h = as_declared (declared_as v.names name) d i in
    type_declared (is_block d.declaration) (is_declared_type a.program.classes d.kind)
    (found_declared a.program.classes v.names name d s.visible h.0) h.1

-- Types

-- a part without a fault of its own type has one that is needed, where its own parts have theirs
pub meets_need : (need : Need) (t : Typing) (span : Span) → (t ≡ Unsettled → ⊥) → Clean (typing.wrong_type need t span)
    → typing.meets need t ≡ true
meets_need need Unsettled span h clean = absurd (h refl)
meets_need need Untyped span h clean = absurd clean
meets_need need (Typed type) span h clean = unless_holds (typing.accepts need type) rule.WrongType span clean

pub typed_seen : (a : Environment) (b : Bool) (type : PvType) (local : Bool) → b ≡ true → has_class a.program.classes type ≡ true
    → SeenKept a (value_seen (typing.typed_if b type) local)
typed_seen a true type local h d = record { settled = λ i. cc; this = λ i. absurd cc; declared = d }
typed_seen a false type local h d = absurd cc

equality_seen : (a : Environment) (b local : Bool) → SeenKept a (value_seen (if b then Typed Truth else Untyped) local)
equality_seen a true local = record { settled = λ i. cc; this = λ i. absurd cc; declared = refl }
equality_seen a false local = record { settled = λ i. cc; this = λ i. absurd cc; declared = tt }

same_seen : (a : Environment) (x y : Typing) (local : Bool) → typing.meets Anything x ≡ true → typing.meets Anything y ≡ true
    → SeenKept a (value_seen (typing.typing_of_equality x y) local)
same_seen a (Typed x) (Typed y) local h k = equality_seen a (typing.are_comparable x y) local
same_seen a (Typed x) Unsettled local h k = absurd cc
same_seen a (Typed x) Untyped local h k = absurd cc
same_seen a Unsettled y local h k = absurd cc
same_seen a Untyped y local h k = absurd cc

pub operator_seen : (a : Environment) (o : Operator) (x y : Typing) (local : Bool) → typing.meets (typing.need_of_operator o) x
    ≡ true
    → typing.meets (typing.need_of_operator o) y ≡ true → SeenKept a (value_seen (typing.typing_of_operator o x y) local)
operator_seen a op.Add x y local h k = typed_seen a (typing.both_meet (Exactly Int) x y) Int local (and_from _ _ h k) refl
operator_seen a op.Sub x y local h k = typed_seen a (typing.both_meet (Exactly Int) x y) Int local (and_from _ _ h k) refl
operator_seen a op.Mul x y local h k = typed_seen a (typing.both_meet (Exactly Int) x y) Int local (and_from _ _ h k) refl
operator_seen a op.Eq x y local h k = same_seen a x y local h k
operator_seen a op.Ne x y local h k = same_seen a x y local h k
operator_seen a op.Lt x y local h k = typed_seen a (typing.both_meet (Exactly Int) x y) Truth local (and_from _ _ h k) refl
operator_seen a op.Le x y local h k = typed_seen a (typing.both_meet (Exactly Int) x y) Truth local (and_from _ _ h k) refl
operator_seen a op.Gt x y local h k = typed_seen a (typing.both_meet (Exactly Int) x y) Truth local (and_from _ _ h k) refl
operator_seen a op.Ge x y local h k = typed_seen a (typing.both_meet (Exactly Int) x y) Truth local (and_from _ _ h k) refl
operator_seen a op.And x y local h k = typed_seen a (typing.both_meet (Exactly Truth) x y) Truth local (and_from _ _ h k) refl
operator_seen a op.Or x y local h k = typed_seen a (typing.both_meet (Exactly Truth) x y) Truth local (and_from _ _ h k) refl
operator_seen a op.Implies x y local h k = typed_seen a (typing.both_meet (Exactly Truth) x y) Truth local (and_from _ _ h k) refl
operator_seen a op.Star x y local h k = typed_seen a (typing.both_meet (Exactly Truth) x y) Truth local (and_from _ _ h k) refl

pub old_seen : (a : Environment) (x : Typing) (local : Bool) → typing.meets Anything x ≡ true → IsDeclared a.program.classes x
    → SeenKept a (value_seen (typing.typing_of_old x) local)
old_seen a (Typed x) local h d = record { settled = λ i. cc; this = λ i. absurd cc; declared = d }
old_seen a Unsettled local h d = absurd cc
old_seen a Untyped local h d = absurd cc

element_if : (a : Environment) (b : Bool) (type : PvType) (local : Bool) → b ≡ true → has_class a.program.classes type ≡ true
    → SeenKept a (record { typing = typing.typed_if b type; this = false; location = true; local = local })
element_if a true type local h d = record { settled = λ i. cc; this = λ i. absurd cc; declared = d }
element_if a false type local h d = absurd cc

pub element_seen : (a : Environment) (x i : Typing) (local : Bool) → typing.meets AnArray x ≡ true → typing.meets (Exactly Int) i
    ≡ true → SeenKept a (record { typing = typing.typing_of_element x i; this = false; location = true; local = local })
element_seen a (Typed IntArray) i local h k = element_if a (typing.meets (Exactly Int) i) Int local k refl
element_seen a (Typed TruthArray) i local h k = element_if a (typing.meets (Exactly Int) i) Truth local k refl
element_seen a (Typed Int) i local h k = absurd cc
element_seen a (Typed Truth) i local h k = absurd cc
element_seen a (Typed (Object class)) i local h k = absurd cc
element_seen a (Typed Null) i local h k = absurd cc
element_seen a Unsettled i local h k = absurd cc
element_seen a Untyped i local h k = absurd cc

-- Objects

-- an object of a declared class, among whose members its own are looked up
pub record IsObject (a : Environment) (s : Seen) : Type 0 where
  pub class : Name
  pub typed : s.typing ≡ Typed (Object class)
  pub found : class_of a s.this class ≡ class_named a.program.classes class
  pub declared : is_some (class_named a.program.classes class) ≡ true

pub object_type : (t : Typing) → typing.meets AnObject t ≡ true → (class : Name) × (t ≡ Typed (Object class))
object_type (Typed (Object class)) h = (class, refl)
object_type (Typed Int) h = absurd cc
object_type (Typed Truth) h = absurd cc
object_type (Typed IntArray) h = absurd cc
object_type (Typed TruthArray) h = absurd cc
object_type (Typed Null) h = absurd cc
object_type Unsettled h = absurd cc
object_type Untyped h = absurd cc

found_class : (classes : List Class) (here : Option Class) (own class : Name) (b : Bool) → here ≡ class_named classes own
    → (b ≡ true → class ≡ own) → (if b then here else class_named classes class) ≡ class_named classes class
found_class classes here own class true h k = h ∙ ap (class_named classes) (sym (k refl))
found_class classes here own class false h k = refl

same_class : (a b : Name) → Typed (Object a) ≡ Typed (Object b) → a ≡ b
same_class a b h = cc

pub object_kept : (tree : core.Program) (a : Environment) (v : Visible) (s : Seen) → Sound tree a v → SeenKept a s
    → typing.meets AnObject s.typing ≡ true → IsObject a s
object_kept tree a v s sound kept h =
    let o = object_type s.typing h in
    record {
      class = o.0;
      typed = o.1;
      found =
          found_class a.program.classes a.here a.class o.0 s.this sound.here
          (λ b. same_class o.0 a.class (sym o.1 ∙ kept.this b));
      declared = subst (λ (t : Typing). IsDeclared a.program.classes t) o.1 kept.declared;
    }

pub holder_is : (a : Environment) (s : Seen) (o : IsObject a s) → holder_of a s
    ≡ among (members_of (class_named a.program.classes o.class))
holder_is a s o = ap (holder_of_typing a s.this) o.typed ∙ ap (λ c. among (members_of c)) o.found

pub field_found : (o : Option Param) → not (is_some o) ≡ false → (type : PvType) × (type_of_param o ≡ Some type)
field_found None h = absurd cc
field_found (Some f) h = (f.kind.kind, refl)
