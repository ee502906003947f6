-- A heap of one object with one field, which is a number, is well typed.
use Rattle.std.proofs.Common.{◌≡◌, ℕ, zero, suc, pos, Bool, true, false, Some, None, List, [], ◌∷◌, refl, sym, subst, inl}
use Rattle.std.specs.Prelude.{IsSome, nat_eq, if◌then◌else◌, option_map}
use Rattle.std.proofs.lemmas.Bool.{eq-eqb}
use Rattle.pv_base.specs.declared.Name.{Name}
use Rattle.pv_ast.specs.declared.PvType.TheVariants.{Int}
use Rattle.pv_values.specs.declared.value.Value.{Value}
use Rattle.pv_values.specs.declared.value.Value.TheVariants.{Number}
use Rattle.pv_values.specs.declared.value.Location.TheVariants.{Field}
use Rattle.pv_values.specs.declared.thing.Thing.{Thing}
use Rattle.pv_values.specs.declared.thing.Thing.TheVariants.{Object}
use Rattle.pv_values.specs.Heaps.{value_at, class_of}
use Rattle.pv_values.specs.Typing.{is_number, HoldsOnly, HasKindOf, IsWellTyped}
use Rattle.pv_picks.specs.Machine.Starts.{kind_of, field_kind}
use Rattle.pv_picks.specs.Plain.Core.{Parameter, Program}
use Rattle.pv_picks.specs.Plain.Members.{type_in}
use Rattle.worked_runs.proofs.OneField.{passed, name_eq}

-- a fact about a class and a name, where they are these
at_class : (P : Name → Type 0) (mine : Name) (class : Name) → Some mine ≡ Some class → P mine → P class
at_class P mine class h t = let e : mine ≡ class = cc in subst P e t

-- a type that is looked up by a test
declared_where : (b : Bool) (f : Parameter) → IsSome (option_map kind_of (type_in (if b then Some f else None))) → b ≡ true
declared_where true f h = refl
declared_where false f h = absurd (cc)

module _ (p : Program) (mine f : Name) where
  abbrev pub heap_of_one : List Thing
  heap_of_one = Object mine ((f, Number (pos 0)) ∷ []) ∷ []

  -- the class has this field alone
  abbrev pub HasOneField : Type 0
  HasOneField = (name : Name) → IsSome (field_kind p mine name)
      → IsSome (option_map kind_of (type_in (if nat_eq f.0 name.0 then Some (f, Int) else None)))

  fields_typed : HasKindOf heap_of_one (field_kind p mine f) (Number (pos 0)) → (object : ℕ) (class name : Name) (given : Value)
      → class_of heap_of_one object ≡ Some class → value_at heap_of_one (Field object name) ≡ Some given
      → HasKindOf heap_of_one (field_kind p class name) given
  fields_typed fits zero class name given hc hv = absurd (cc)
  fields_typed fits (suc zero) class name given hc hv =
      let here = passed (nat_eq name.0 f.0) (Number (pos 0)) given hv in
      let e : name ≡ f = name_eq name f here.0 in
      at_class (λ (k : Name). HasKindOf heap_of_one (field_kind p k name) given) mine class hc
      (subst (λ (n : Name). HasKindOf heap_of_one (field_kind p mine n) given) (sym e)
      (subst (λ (y : Value). HasKindOf heap_of_one (field_kind p mine f) y) here.1 fits))
  fields_typed fits (suc (suc n)) class name given hc hv = absurd (cc)

  no_elements : (array : ℕ) → HoldsOnly is_number heap_of_one array
  no_elements zero index given h = absurd (cc)
  no_elements (suc zero) index given h = absurd (cc)
  no_elements (suc (suc n)) index given h = absurd (cc)

  complete : HasOneField → (object : ℕ) (class name : Name) → class_of heap_of_one object ≡ Some class
      → IsSome (field_kind p class name) → IsSome (value_at heap_of_one (Field object name))
  complete one zero class name hc hk = absurd (cc)
  complete one (suc zero) class name hc hk =
      let k : IsSome (field_kind p mine name) = at_class (λ (k : Name). IsSome (field_kind p k name)) class mine (sym hc) hk in
      let e : f ≡ name = name_eq f name (declared_where (nat_eq f.0 name.0) (f, Int) (one name k)) in
      subst (λ (n : Name). IsSome (if nat_eq n.0 f.0 then Some (Number (pos 0)) else None)) e (rw (eq-eqb f.0 f.0 refl) refl)
  complete one (suc (suc n)) class name hc hk = absurd (cc)

  pub one_typed : HasKindOf heap_of_one (field_kind p mine f) (Number (pos 0)) → HasOneField
      → IsWellTyped (field_kind p) heap_of_one
  one_typed fits one =
      record { fields = fields_typed fits; elements = λ array. inl (no_elements array); complete = complete one }

-- and so is one of an object without fields
module _ (p : Program) (mine : Name) where
  abbrev pub heap_of_none : List Thing
  heap_of_none = Object mine [] ∷ []

  no_values : (object : ℕ) (class name : Name) (given : Value) → class_of heap_of_none object ≡ Some class
      → value_at heap_of_none (Field object name) ≡ Some given → HasKindOf heap_of_none (field_kind p class name) given
  no_values zero class name given hc hv = absurd (cc)
  no_values (suc zero) class name given hc hv = absurd (cc)
  no_values (suc (suc n)) class name given hc hv = absurd (cc)

  nothing : (array : ℕ) → HoldsOnly is_number heap_of_none array
  nothing zero index given h = absurd (cc)
  nothing (suc zero) index given h = absurd (cc)
  nothing (suc (suc n)) index given h = absurd (cc)

  none_complete : ((name : Name) → IsSome (field_kind p mine name) → ⊥) → (object : ℕ) (class name : Name)
      → class_of heap_of_none object ≡ Some class → IsSome (field_kind p class name)
      → IsSome (value_at heap_of_none (Field object name))
  none_complete none zero class name hc hk = absurd (cc)
  none_complete none (suc zero) class name hc hk =
      absurd (none name (at_class (λ (k : Name). IsSome (field_kind p k name)) class mine (sym hc) hk))
  none_complete none (suc (suc n)) class name hc hk = absurd (cc)

  pub none_typed : ((name : Name) → IsSome (field_kind p mine name) → ⊥) → IsWellTyped (field_kind p) heap_of_none
  none_typed none =
      record { fields = no_values; elements = λ array. inl (nothing array); complete = none_complete none }
