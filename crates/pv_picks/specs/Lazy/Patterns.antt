-- What runs show of their evidence: turns, the order of numbers that are compared, whether references are the same, and truth
-- values; and what a run remembers, so that it can compare.
use Rattle.std.specs.Prelude.{ℕ, zero, suc, ℤ, ◌-ℤ◌, Bool, true, false, ◌&&◌, nat_eq, int_lt, if◌then◌else◌, List, [], ◌∷◌, ◌++◌, map, length}
use Rattle.std.specs.List.{flat_map, list_any}
use Rattle.pv_ast.specs.declared.PvType.{PvType}
use Rattle.pv_values.specs.declared.value.Value.{Value}
use Rattle.pv_values.specs.declared.value.Value.TheVariants as value
use Rattle.pv_values.specs.Heaps.{same_number}
use Rattle.pv_base.specs.Names.{same_name}
use Rattle.pv_values.specs.Sames.{same_value}
use Rattle.pv_picks.specs.Plain.Core.{Operation, Plus, Minus, Times}
use Rattle.pv_ast.specs.Rules.Typing.{same_type}
use Rattle.pv_picks.specs.Judge.States.{same_token}
use Rattle.pv_picks.specs.Judge.Settings.{Event, AtField, AtToken, AtLock, AtInstance, AtArray, AtArrayLength, ArrayPart, Known}

pub data Order : Type 0 where
  IsLess IsEqual IsGreater : Order

pub data Shown : Type 0 where
  Took : ℕ → Shown
  Ordered : Order → Shown
  Same : Bool → Shown
  Is : Bool → Shown

abbrev pub order_of : ℤ → ℤ → Order
order_of a b = if int_lt a b then IsLess else if int_lt b a then IsGreater else IsEqual

-- two values that are compared
abbrev pub shown_of : Value → Value → List Shown
shown_of (value.Number a) (value.Number b) = Ordered (order_of a b) ∷ []
shown_of (value.Truth a) (value.Truth b) = Is a ∷ Is b ∷ []
shown_of (value.Reference a) (value.Reference b) = Same (nat_eq a b) ∷ []
shown_of a b = Same (same_value a b) ∷ []

abbrev pub shown_of_all : List Value → List Value → List Shown
shown_of_all [] bs = []
shown_of_all (a ∷ rest) [] = []
shown_of_all (a ∷ rest) (b ∷ bs) = shown_of a b ++ shown_of_all rest bs

-- Arrays that facts join

-- an array, by the type of its elements
abbrev pub Array : Type 0
Array = PvType × ℕ

abbrev pub same_array : Array → Array → Bool
same_array a b = same_type a.0 b.0 && nat_eq a.1 b.1

abbrev pub is_one_of : List Array → Array → Bool
is_one_of arrays a = list_any (same_array a) arrays

abbrev pub array_in : ArrayPart → Array
array_in part = (part.type, part.array)

abbrev pub arrays_in : Known → List Array
arrays_in k = map array_in k.parts

-- with the arrays of each fact that reads one of them
abbrev pub spread : List Known → List Array → List Array
spread [] arrays = arrays
spread (k ∷ ks) arrays = if list_any (is_one_of arrays) (arrays_in k) then spread ks (arrays_in k ++ arrays) else spread ks arrays

abbrev pub spread_times : ℕ → List Known → List Array → List Array
spread_times zero known arrays = arrays
spread_times (suc n) known arrays = spread_times n known (spread known arrays)

-- the arrays to which a chain of facts leads
abbrev pub joined_with : List Known → Array → List Array
joined_with known array = spread_times (length known) known (array ∷ [])

abbrev pub are_joined : List Known → Array → Array → Bool
are_joined known a b = is_one_of (joined_with known a) b

-- What is shown of two events

abbrev pub orders_with : ℤ → List ℤ → List Shown
orders_with a [] = []
orders_with a (b ∷ bs) = Ordered (order_of a b) ∷ orders_with a bs

-- each end of the one with each of the other
abbrev pub orders_of : List ℤ → List ℤ → List Shown
orders_of [] ends = []
orders_of (a ∷ rest) ends = orders_with a ends ++ orders_of rest ends

abbrev pub shown_if : Bool → List Shown → List Shown
shown_if true shown = shown
shown_if false shown = []

-- two fields of one class and name, two tokens, locks or instances of one kind: whether the objects are the same, and how
-- arguments compare. Two arrays of one type, or two at whose lengths a run looks: whether they are the same. Two arrays that are
-- joined: how their ends compare
abbrev pub shown_between : List Known → Event → Event → List Shown
shown_between known (AtField c o f) (AtField d p g) = shown_if (same_name c d && same_name f g) (Same (nat_eq o p) ∷ [])
shown_between known (AtToken t c o) (AtToken u d p) = shown_if (same_token t u && same_name c d) (Same (nat_eq o p) ∷ [])
shown_between known (AtLock c o) (AtLock d p) = shown_if (same_name c d) (Same (nat_eq o p) ∷ [])
shown_between known (AtInstance c k o vs) (AtInstance d l p ws) =
    shown_if (same_name c d && same_name k l) (Same (nat_eq o p) ∷ shown_of_all vs ws)
shown_between known (AtArray t a ends) (AtArray u b others) =
    shown_if (same_type t u) (Same (nat_eq a b) ∷ []) ++ shown_if (are_joined known (t, a) (u, b)) (orders_of ends others)
shown_between known (AtArrayLength t a) (AtArrayLength u b) = shown_if (same_type t u) (Same (nat_eq a b) ∷ [])
shown_between known a b = []

abbrev pub shown_with : List Known → Event → List Event → List Shown
shown_with known event [] = []
shown_with known event (e ∷ es) = shown_between known e event ++ shown_with known event es

-- each two of the events
abbrev pub shown_among : List Known → List Event → List Shown
shown_among known [] = []
shown_among known (e ∷ es) = flat_map (shown_between known e) es ++ shown_among known es

-- Named positions

abbrev pub ends_on : List Array → Event → List ℤ
ends_on arrays (AtArray t a ends) = if is_one_of arrays (t, a) then ends else []
ends_on arrays _ = []

-- the ends of all events on arrays that are joined with this one, in the order in which they came
abbrev pub named_on : List Known → List Event → Array → List ℤ
named_on known events array = flat_map (ends_on (joined_with known array)) events

-- the positions of a fact that are named: each named index of an array that it reads, less the shift
abbrev pub lowered : ℤ → List ℤ → List ℤ
lowered shift indexes = map (λ z. z -ℤ shift) indexes

abbrev pub positions_of_parts : List Known → List Event → List ArrayPart → List ℤ
positions_of_parts known events [] = []
positions_of_parts known events (part ∷ parts) = lowered part.shift (named_on known events (array_in part))

-- a fact's arrays are joined with each other, and have one shift
abbrev pub positions_of : List Known → List Event → Known → List ℤ
positions_of known events k = positions_of_parts known events k.parts

-- Uses of tabled operations

abbrev pub Use : Type 0
Use = Operation × ℤ × ℤ

abbrev pub same_operation : Operation → Operation → Bool
same_operation Plus Plus = true
same_operation Minus Minus = true
same_operation Times Times = true
same_operation _ _ = false

abbrev pub same_use : Use → Use → Bool
same_use u v = same_operation u.0 v.0 && (same_number u.1 v.1 && same_number u.2 v.2)

-- how the arguments of a use compare with those of the others of its operator
abbrev pub shown_of_use : Use → List Use → List Shown
shown_of_use u [] = []
shown_of_use u (v ∷ vs) =
    shown_if (same_operation u.0 v.0) (Ordered (order_of u.1 v.1) ∷ Ordered (order_of u.1 v.2) ∷ Ordered (order_of u.2 v.1)
    ∷ Ordered (order_of u.2 v.2) ∷ []) ++ shown_of_use u vs
