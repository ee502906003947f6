-- A well typed expression that has a value in a heap has one of its type.
use Rattle.std.proofs.Common.{◌≡◌, ℤ, Bool, true, false, not, if◌then◌else◌, Some, None, List, refl, ap, sym, subst, ◌∙◌}
use Rattle.std.specs.Prelude.{option_map}
use Rattle.std.proofs.lemmas.Option.{same_Some}
use Rattle.pv_ast.specs.declared.PvType.{PvType}
use Rattle.pv_ast.specs.declared.PvType.TheVariants.{Int, Truth, Object}
use Rattle.pv_values.specs.declared.value.Value.{Value}
use Rattle.pv_values.specs.declared.value.Value.TheVariants as value
use Rattle.pv_values.specs.declared.value.Location.TheVariants as location
use Rattle.pv_picks.specs.Plain.Core.{Expression, Constant, This, Result, Variable, Field, Element, Length, Not, Compute, Compare, Equal, And, Or, Implies, Old, Parameter}
use Rattle.pv_picks.specs.Formulas.Values.{number_in, truth_in, reference_in, array_of, arithmetic, comparison, equality}
use Rattle.pv_picks.specs.Formulas.Heaps.{Heap}
use Rattle.pv_picks.specs.Formulas.Evaluation.{Scene}
use Rattle.pv_picks.specs.Formulas.Meeting.{or_stop, value_or}
use Rattle.pv_picks.specs.Machine.Starts.{field_kind, kind_of}
use Rattle.pv_picks.specs.Typing.Expressions.{Home, Speech, Says}
use Rattle.pv_picks.specs.Typing.Frames.{HasType}
use Rattle.account_formulas.specs.Sights.{value_at, ValuesFit, SceneFits}
use Rattle.account_formulas.proofs.Valuing.{found, reached}
use Rattle.account_formulas.proofs.TypedReads.{constant_typed, field_typed, element_typed}

typed_number : (present : Heap) (z : ℤ) (t : PvType) → t ≡ Int → (v : Value) → Some (value.Number z) ≡ Some v
    → HasType present t v
typed_number present z t e v is =
    subst (λ x. HasType present x v) (sym e) (subst (λ x. HasType present Int x) (same_Some (value.Number z) v is) refl)

typed_truth : (present : Heap) (b : Bool) (t : PvType) → t ≡ Truth → (v : Value) → Some (value.Truth b) ≡ Some v
    → HasType present t v
typed_truth present b t e v is =
    subst (λ x. HasType present x v) (sym e) (subst (λ x. HasType present Truth x) (same_Some (value.Truth b) v is) refl)

-- a well typed expression that has a value has one of its type
module _ (h : Home) (speech : Speech) (xs : List Parameter) (present : Heap) (scene : Scene)
    (fits : SceneFits h speech xs present scene) where
  pub has_type : (now old : Heap) → ValuesFit (field_kind h.program) present now → ValuesFit (field_kind h.program) present old
      → (e : Expression) (type : PvType) → Says h speech xs e type
      → (v : Value) → value_at (record { now = now; old = old }) scene e ≡ Some v → HasType present type v
  has_type now old new former (Constant x) type says v is =
      subst (λ z. HasType present type z) (same_Some x v is) (constant_typed present x type says)
  has_type now old new former This type says v is =
      subst (λ z. HasType present type z) (same_Some (value.Reference scene.this) v is)
      (subst (λ t. HasType present t (value.Reference scene.this)) (sym says) fits.this)
  has_type now old new former Result type says v is =
      subst (λ z. HasType present type z) (same_Some scene.result v is) (fits.result type says)
  has_type now old new former (Variable name) type says v is =
      subst (λ z. HasType present type z) (same_Some (scene.variables name.0) v is) (fits.variables name type says)
  has_type now old new former (Field e class x span) type says v is =
      let o =
      reached (record { now = now; old = old }) scene e (λ o. or_stop
      (now.value (location.Field (reference_in o) x)) None Some) v is in
      let r = found (now.value (location.Field (reference_in o.0) x)) Some v o.2 in
      field_typed (field_kind h.program) present now new class x (kind_of type) (ap (option_map kind_of) says.1) o.0 v
      (has_type now old new former e (Object class) says.0 o.0 o.1)
      (r.1 ∙ r.2)
  has_type now old new former (Element t array index span) type says v is =
      let a =
      reached (record { now = now; old = old }) scene array
      (λ a. value_or None (record { now = now; old = old }) scene index
      (λ i. or_stop (now.value (location.Cell (reference_in a) (number_in i))) None Some)) v is in
      let i =
      reached (record { now = now; old = old }) scene index
      (λ i. or_stop (now.value (location.Cell (reference_in a.0) (number_in i))) None Some) v a.2 in
      let r = found (now.value (location.Cell (reference_in a.0) (number_in i.0))) Some v i.2 in
      subst (λ z. HasType present z v) (sym says.3)
      (element_typed (field_kind h.program) present now new t says.2 a.0 v (number_in i.0)
      (has_type now old new former array (array_of t) says.0 a.0 a.1) (r.1 ∙ r.2))
  has_type now old new former (Length t array span) type says v is =
      let a =
      reached (record { now = now; old = old }) scene array
      (λ a. or_stop (now.length (reference_in a)) None (λ n. Some (value.Number n))) v is in
      let r = found (now.length (reference_in a.0)) (λ n. Some (value.Number n)) v a.2 in
      typed_number present r.0 type says.2 v r.2
  has_type now old new former (Not e) type says v is =
      let a = reached (record { now = now; old = old }) scene e (λ x. Some (value.Truth (not (truth_in x)))) v is in
      typed_truth present (not (truth_in a.0)) type says.1 v a.2
  has_type now old new former (Compute manner op a b span) type says v is =
      let x =
      reached (record { now = now; old = old }) scene a (λ x. value_or None (record { now = now; old = old }) scene b
      (λ y. Some (value.Number (arithmetic op (number_in x) (number_in y))))) v is in
      let y =
      reached (record { now = now; old = old }) scene b (λ y. Some
      (value.Number (arithmetic op (number_in x.0) (number_in y)))) v x.2 in
      typed_number present (arithmetic op (number_in x.0) (number_in y.0)) type says.2 v y.2
  has_type now old new former (Compare order a b) type says v is =
      let x =
      reached (record { now = now; old = old }) scene a (λ x. value_or None (record { now = now; old = old }) scene b
      (λ y. Some (value.Truth (comparison order (number_in x) (number_in y))))) v is in
      let y =
      reached (record { now = now; old = old }) scene b (λ y. Some
      (value.Truth (comparison order (number_in x.0) (number_in y)))) v x.2 in
      typed_truth present (comparison order (number_in x.0) (number_in y.0)) type says.2 v y.2
  has_type now old new former (Equal same a b) type says v is =
      let x =
      reached (record { now = now; old = old }) scene a (λ x. value_or None (record { now = now; old = old }) scene b
      (λ y. Some (value.Truth (equality same x y)))) v is in
      let y = reached (record { now = now; old = old }) scene b (λ y. Some (value.Truth (equality same x.0 y))) v x.2 in
      typed_truth present (equality same x.0 y.0) type says.3 v y.2
  has_type now old new former (And a b) type says v is =
      let x =
      reached (record { now = now; old = old }) scene a (λ x. if truth_in x then value_at
      (record { now = now; old = old }) scene b else Some (value.Truth false)) v is in
      go (λ v is. has_type now old new former b Truth says.1 v is) (truth_in x.0) x.2
    where
      go : ((v : Value) → value_at (record { now = now; old = old }) scene b ≡ Some v → HasType present Truth v) → (t : Bool)
          → (if t then value_at (record { now = now; old = old }) scene b else Some (value.Truth false)) ≡ Some v
          → HasType present type v
      go f true is = subst (λ t. HasType present t v) (sym says.2) (f v is)
      go f false is = typed_truth present false type says.2 v is
  has_type now old new former (Or a b) type says v is =
      let x =
      reached (record { now = now; old = old }) scene a (λ x. if truth_in x then Some (value.Truth true) else value_at
      (record { now = now; old = old }) scene b) v is in
      go (λ v is. has_type now old new former b Truth says.1 v is) (truth_in x.0) x.2
    where
      go : ((v : Value) → value_at (record { now = now; old = old }) scene b ≡ Some v → HasType present Truth v) → (t : Bool)
          → (if t then Some (value.Truth true) else value_at (record { now = now; old = old }) scene b) ≡ Some v
          → HasType present type v
      go f true is = typed_truth present true type says.2 v is
      go f false is = subst (λ t. HasType present t v) (sym says.2) (f v is)
  has_type now old new former (Implies a b) type says v is =
      let x =
      reached (record { now = now; old = old }) scene a (λ x. if truth_in x then value_at
      (record { now = now; old = old }) scene b else Some (value.Truth true)) v is in
      go (λ v is. has_type now old new former b Truth says.1 v is) (truth_in x.0) x.2
    where
      go : ((v : Value) → value_at (record { now = now; old = old }) scene b ≡ Some v → HasType present Truth v) → (t : Bool)
          → (if t then value_at (record { now = now; old = old }) scene b else Some (value.Truth true)) ≡ Some v
          → HasType present type v
      go f true is = subst (λ t. HasType present t v) (sym says.2) (f v is)
      go f false is = typed_truth present true type says.2 v is
  has_type now old new former (Old e) type says v is = has_type old old former former e type says.1 v is

-- a value of whole numbers is one
pub is_number_value : (heap : Heap) (v : Value) → HasType heap Int v → v ≡ value.Number (number_in v)
is_number_value heap (value.Number z) t = refl
is_number_value heap (value.Truth b) t = absurd (cc t)
is_number_value heap (value.Reference n) t = absurd (cc t)
