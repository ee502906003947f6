-- The two writers start from a well typed heap, and race.
use Rattle.std.proofs.Common.{◌≡◌, ℕ, zero, suc, Bool, true, false, Some, None, [], ◌∷◌, refl, sym, subst, inl, inr, arith}
use Rattle.std.specs.Prelude.{IsSome, nat_eq, if◌then◌else◌, option_map}
use Rattle.std.proofs.lemmas.Bool.{eq-eqb}
use Rattle.pv_base.specs.declared.Name.{Name}
use Rattle.pv_ast.specs.declared.PvType.{PvType}
use Rattle.pv_ast.specs.declared.PvType.TheVariants.{Int, Object}
use Rattle.pv_values.specs.declared.value.Value.{Value}
use Rattle.pv_values.specs.declared.value.Value.TheVariants.{Reference}
use Rattle.pv_values.specs.declared.value.Location.TheVariants.{Field}
use Rattle.pv_values.specs.Heaps.{value_at, class_of}
use Rattle.pv_values.specs.Typing.{is_number, HoldsOnly, HasKindOf}
use Rattle.pv_picks.specs.Machine.Starts.{IsStart, kind_of, field_kind}
use Rattle.pv_picks.specs.Plain.Core.{Parameter}
use Rattle.pv_picks.specs.Plain.Members.{type_in}
use Rattle.pv_picks.specs.Machine.Worlds.{Free}
use Rattle.worked_runs.specs.Schedules.{event}
use Rattle.pv_picks.specs.Machine.Safety.{Race, IsReached, IsSafe}
use Rattle.worked_programs.specs.Nodes.{name as named}
use Rattle.worked_programs.specs.CoreObjects.{writers}
use Rattle.worked_runs.specs.Runs.{at_the_writes, writers_start, whole_number}
use Rattle.worked_runs.proofs.Runs.{race}
use Rattle.worked_runs.proofs.OneField.{passed, name_eq}

-- a fact about a class and a name, where they are these
at_class : (P : Name → Type 0) (mine : Name) (class : Name) → Some mine ≡ Some class → P mine → P class
at_class P mine class h t = let e : mine ≡ class = cc in subst P e t

-- the one field of an object is of its kind
one : (mine f : Name) (x : Value) → HasKindOf writers_start.heap (field_kind writers mine f) x
    → (class name : Name) (given : Value) → Some mine ≡ Some class → (if nat_eq name.0 f.0 then Some x else None) ≡ Some given
    → HasKindOf writers_start.heap (field_kind writers class name) given
one mine f x fits class name given hc hv =
    let here = passed (nat_eq name.0 f.0) x given hv in
    let e : name ≡ f = name_eq name f here.0 in
    at_class (λ (k : Name). HasKindOf writers_start.heap (field_kind writers k name) given) mine class hc
    (subst (λ (n : Name). HasKindOf writers_start.heap (field_kind writers mine n) given) (sym e)
    (subst (λ (y : Value). HasKindOf writers_start.heap (field_kind writers mine f) y) here.1 fits))

fields_typed : (object : ℕ) (class name : Name) (given : Value) → class_of writers_start.heap object ≡ Some class
    → value_at writers_start.heap (Field object name) ≡ Some given
    → HasKindOf writers_start.heap (field_kind writers class name) given
fields_typed zero class name given hc hv = absurd (cc)
fields_typed (suc zero) class name given hc hv = one (named 1) (named 3) (whole_number 0) refl class name given hc hv
fields_typed (suc (suc zero)) class name given hc hv = one (named 0) (named 2) (Reference 1) refl class name given hc hv
fields_typed (suc (suc (suc zero))) class name given hc hv = one (named 0) (named 2) (Reference 1) refl class name given hc hv
fields_typed (suc (suc (suc (suc zero)))) class name given hc hv = absurd (cc)
fields_typed (suc (suc (suc (suc (suc n))))) class name given hc hv = absurd (cc)

no_elements : (array : ℕ) → HoldsOnly is_number writers_start.heap array
no_elements zero index given h = absurd (cc)
no_elements (suc zero) index given h = absurd (cc)
no_elements (suc (suc zero)) index given h = absurd (cc)
no_elements (suc (suc (suc zero))) index given h = absurd (cc)
no_elements (suc (suc (suc (suc zero)))) index given h = absurd (cc)
no_elements (suc (suc (suc (suc (suc n))))) index given h = absurd (cc)

-- a type that is looked up by a test
declared_where : (b : Bool) (f : Parameter) → IsSome (option_map kind_of (type_in (if b then Some f else None))) → b ≡ true
declared_where true f h = refl
declared_where false f h = absurd (cc)

-- and it is there
one_there : (mine f : Name) (x : Value) (type : PvType)
    → ((name : Name) → IsSome (field_kind writers mine name)
    → IsSome (option_map kind_of (type_in (if nat_eq f.0 name.0 then Some (f, type) else None))))
    → (class name : Name) → Some mine ≡ Some class → IsSome (field_kind writers class name)
    → IsSome (if nat_eq name.0 f.0 then Some x else None)
one_there mine f x type declared class name hc hk =
    let k : IsSome (field_kind writers mine name) = at_class (λ (k : Name). IsSome (field_kind writers k name)) class mine
    (sym hc) hk in
    let e : f ≡ name = name_eq f name (declared_where (nat_eq f.0 name.0) (f, type) (declared name k)) in
    subst (λ (n : Name). IsSome (if nat_eq n.0 f.0 then Some x else None)) e (rw (eq-eqb f.0 f.0 refl) refl)

complete : (object : ℕ) (class name : Name) → class_of writers_start.heap object ≡ Some class
    → IsSome (field_kind writers class name)
    → IsSome (value_at writers_start.heap (Field object name))
complete zero class name hc hk = absurd (cc)
complete (suc zero) class name hc hk = one_there (named 1) (named 3) (whole_number 0) Int (λ n h. h) class name hc hk
complete (suc (suc zero)) class name hc hk =
    one_there (named 0) (named 2) (Reference 1) (Object (named 1)) (λ n h. h) class name hc hk
complete (suc (suc (suc zero))) class name hc hk =
    one_there (named 0) (named 2) (Reference 1) (Object (named 1)) (λ n h. h) class name hc hk
complete (suc (suc (suc (suc zero)))) class name hc hk = let k : IsSome (field_kind writers (named 4) name) =
    at_class (λ (k : Name). IsSome (field_kind writers k name)) class (named 4) (sym hc) hk in absurd (cc)
complete (suc (suc (suc (suc (suc n))))) class name hc hk = absurd (cc)

start_is_one : IsStart writers writers_start
start_is_one = record {
  typed = record { fields = fields_typed; elements = λ array. inl (no_elements array); complete = complete };
  object = refl;
  name = named 5;
  declared = refl;
  arguments = (refl, (refl, tt));
  plain = refl;
  met = refl;
  fit = λ spot. omega arith;
}

reached : IsReached writers at_the_writes.world
reached = record {
  start = writers_start;
  starts = start_is_one;
  events = event Free 0 ∷ event Free 0 ∷ event Free 1 ∷ event Free 2 ∷ [];
  leads = refl;
}

pub not_safe : IsSafe writers → ⊥
not_safe safe = safe at_the_writes.world reached (inr race)
