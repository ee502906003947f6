-- When a formula is met in a heap: plain truth, without permissions, from left to right. A formula that reads a location that
-- doesn't exist, or the length of null, isn't met; a permission says that its location exists; tokens, `committed` and instances
-- are true.
use Rattle.std.specs.Prelude.{◌≡◌, ℕ, zero, suc, ℤ, pos, ◌+◌, ◌+ℤ◌, ◌≤◌, Bool, true, false, is_some, int_le, int_lt, if◌then◌else◌, Option, Some, None, List, [], ◌∷◌}
use Rattle.pv_base.specs.declared.Name.{Name}
use Rattle.pv_base.specs.declared.Span.{Span}
use Rattle.pv_values.specs.declared.value.Value.{Value}
use Rattle.pv_values.specs.declared.value.Value.TheVariants as value
use Rattle.pv_values.specs.declared.value.Location.{Location}
use Rattle.pv_values.specs.declared.value.Location.TheVariants as location
use Rattle.pv_values.specs.Heaps.{same_location}
use Rattle.pv_fraction.specs.Amounts.{whole}
use Rattle.pv_picks.specs.Plain.Core.{Expression, Cut, Below, UpTo, Above, From, Provided, Formula, Fact, FieldPermission, ElementPermission, Holds, Instance, Star, When, Each, Items, NoItems, Join, Item, Elements, Repeated, Committed, Guarded, Fixed}
use Rattle.pv_picks.specs.Formulas.Values.{number_in, truth_in, reference_in, arithmetic, equality, at_position, width}
use Rattle.pv_picks.specs.Formulas.Evaluation.{Scene, Reader, evaluate, evaluate_all}
use Rattle.pv_picks.specs.Formulas.Heaps.{Heap}

abbrev pub or_stop : {A R : Type 0} → Option A → R → (A → R) → R
or_stop None stop next = stop
or_stop (Some a) stop next = next a

-- reads a heap, and stops with an answer where a location or a length isn't there
abbrev pub heap_reader : {R : Type 0} → R → Heap → Reader R
heap_reader stop heap = record {
  field = λ class object name span next. or_stop (heap.value (location.Field object name)) stop next;
  element = λ type array index span next. or_stop (heap.value (location.Cell array index)) stop next;
  length = λ type array span next. or_stop (heap.length array) stop next;
  operation = λ manner operation a b span next. next (arithmetic operation a b);
  comparing = λ a b rest. rest;
  matching = λ a b rest. rest;
  deciding = λ b rest. rest;
}

-- a heap, and the heap that `\old` speaks of
pub record Sight : Type 0 where
  pub now : Heap
  pub old : Heap

abbrev pub value_or : {R : Type 0} → R → Sight → Scene → Expression → (Value → R) → R
value_or stop sight scene e next = evaluate (heap_reader stop sight.now) (heap_reader stop sight.old) scene e next

abbrev pub values_or : {R : Type 0} → R → Sight → Scene → List Expression → (List Value → R) → R
values_or stop sight scene es next = evaluate_all (heap_reader stop sight.now) (heap_reader stop sight.old) scene es next

abbrev pub at : Scene → Name → ℤ → Scene
at scene name position = record scene { variables = at_position scene.variables name position }

-- what is found of a formula: all of it is met, or a first conjunct isn't, by its span
pub data Finding : Type 0 where
  AllMet : Finding
  FirstUnmet : Span → Finding

abbrev pub found_met : Finding → Bool
found_met AllMet = true
found_met (FirstUnmet span) = false

-- of two findings, from left to right
abbrev pub first_of : Finding → Finding → Finding
first_of (FirstUnmet span) b = FirstUnmet span
first_of AllMet b = b

-- a conjunct that is met where a test passes
abbrev pub unless : Bool → Span → Finding
unless true span = AllMet
unless false span = FirstUnmet span

-- position by position
abbrev pub at_each : (ℤ → Finding) → ℤ → ℕ → Finding
at_each test low zero = AllMet
at_each test low (suc n) = first_of (test low) (at_each test (low +ℤ pos 1) n)

-- whether a position is behind a guard
abbrev pub passes : Cut → ℤ → Value → Bool
passes (Below e) position v = int_lt position (number_in v)
passes (UpTo e) position v = int_le position (number_in v)
passes (Above e) position v = int_lt (number_in v) position
passes (From e) position v = int_le (number_in v) position
passes (Provided e) position v = truth_in v

abbrev pub guard_term : Cut → Expression
guard_term (Below e) = e
guard_term (UpTo e) = e
guard_term (Above e) = e
guard_term (From e) = e
guard_term (Provided e) = e

-- the rest is looked at where all guards let the position through
abbrev pub behind : {R : Type 0} → R → R → Sight → Scene → List Cut → ℤ → R → R
behind stop outside sight scene [] position rest = rest
behind stop outside sight scene (cut ∷ cuts) position rest =
    value_or stop sight scene (guard_term cut)
    (λ v. if passes cut position v then behind stop outside sight scene cuts position rest else outside)

-- the first conjunct that isn't met, and the same of items at one position
abbrev mutual
  pub unmet : Sight → Scene → Formula → Finding
  unmet sight scene (Fact e span) = value_or (FirstUnmet span) sight scene e (λ v. unless (truth_in v) span)
  unmet sight scene (FieldPermission e class name type amount span) =
      value_or (FirstUnmet span) sight scene e
      (λ o. unless (is_some (sight.now.value (location.Field (reference_in o) name))) span)
  unmet sight scene (ElementPermission type array index amount span) =
      value_or (FirstUnmet span) sight scene array
      (λ a. value_or (FirstUnmet span) sight scene index
      (λ i. unless (is_some (sight.now.value (location.Cell (reference_in a) (number_in i)))) span))
  unmet sight scene (Holds token class e span) = value_or (FirstUnmet span) sight scene e (λ o. AllMet)
  unmet sight scene (Instance class predicate e arguments span) =
      value_or (FirstUnmet span) sight scene e (λ o. values_or (FirstUnmet span) sight scene arguments (λ vs. AllMet))
  unmet sight scene (Star a b) = first_of (unmet sight scene a) (unmet sight scene b)
  unmet sight scene (When e body span) =
      value_or (FirstUnmet span) sight scene e (λ v. if truth_in v then unmet sight scene body else AllMet)
  unmet sight scene (Each name low high items span) =
      value_or (FirstUnmet span) sight scene low (λ l. value_or (FirstUnmet span) sight scene high (λ h.
      at_each (λ i. unmet_items sight (at scene name i) i items) (number_in l) (width (number_in l) (number_in h))))

  pub unmet_items : Sight → Scene → ℤ → Items → Finding
  unmet_items sight scene position NoItems = AllMet
  unmet_items sight scene position (Join item items) =
      first_of (unmet_item sight scene position item) (unmet_items sight scene position items)

  pub unmet_item : Sight → Scene → ℤ → Item → Finding
  unmet_item sight scene position (Elements type array shift amount span) =
      value_or (FirstUnmet span) sight scene array
      (λ a. unless (is_some (sight.now.value (location.Cell (reference_in a) (position +ℤ shift)))) span)
  unmet_item sight scene position (Repeated e span) = value_or (FirstUnmet span) sight scene e (λ v. unless (truth_in v) span)
  unmet_item sight scene position (Committed class e span) = value_or (FirstUnmet span) sight scene e (λ o. AllMet)
  unmet_item sight scene position (Guarded cuts item span) =
      behind (FirstUnmet span) AllMet sight scene cuts position (unmet_item sight scene position item)
  unmet_item sight scene position (Fixed e body span) =
      value_or (FirstUnmet span) sight scene e
      (λ v. if equality true (value.Number position) v then unmet sight scene body else AllMet)

abbrev pub IsMet : Sight → Scene → Formula → Type 0
IsMet sight scene formula = unmet sight scene formula ≡ AllMet

-- items at every position of a range, each conjunct at all positions before the next
abbrev pub unmet_shared : Sight → Scene → Name → ℤ → ℤ → Items → Finding
unmet_shared sight scene name low high NoItems = AllMet
unmet_shared sight scene name low high (Join item items) =
    first_of (at_each (λ i. unmet_item sight (at scene name i) i item) low (width low high))
    (unmet_shared sight scene name low high items)

-- The units of permission that a formula asks for at a location.

abbrev pub units_at : Location → Location → ℕ → ℕ
units_at named location amount = if same_location named location then amount else 0

abbrev pub sum_of_each : (ℤ → ℕ) → ℤ → ℕ → ℕ
sum_of_each amount low zero = 0
sum_of_each amount low (suc n) = amount low + sum_of_each amount (low +ℤ pos 1) n

abbrev mutual
  pub units_in : Sight → Scene → Location → Formula → ℕ
  units_in sight scene spot (Fact e span) = 0
  units_in sight scene spot (FieldPermission e class name type amount span) =
      value_or 0 sight scene e (λ o. units_at (location.Field (reference_in o) name) spot amount)
  units_in sight scene spot (ElementPermission type array index amount span) =
      value_or 0 sight scene array
      (λ a. value_or 0 sight scene index (λ i. units_at (location.Cell (reference_in a) (number_in i)) spot amount))
  units_in sight scene spot (Holds token class e span) = 0
  units_in sight scene spot (Instance class predicate e arguments span) = 0
  units_in sight scene spot (Star a b) = units_in sight scene spot a + units_in sight scene spot b
  units_in sight scene spot (When e body span) =
      value_or 0 sight scene e (λ v. if truth_in v then units_in sight scene spot body else 0)
  units_in sight scene spot (Each name low high items span) =
      value_or 0 sight scene low (λ l. value_or 0 sight scene high (λ h.
      sum_of_each (λ i. units_in_items sight (at scene name i) spot i items) (number_in l) (width (number_in l) (number_in h))))

  pub units_in_items : Sight → Scene → Location → ℤ → Items → ℕ
  units_in_items sight scene spot position NoItems = 0
  units_in_items sight scene spot position (Join item items) =
      units_in_item sight scene spot position item + units_in_items sight scene spot position items

  pub units_in_item : Sight → Scene → Location → ℤ → Item → ℕ
  units_in_item sight scene spot position (Elements type array shift amount span) =
      value_or 0 sight scene array (λ a. units_at (location.Cell (reference_in a) (position +ℤ shift)) spot amount)
  units_in_item sight scene spot position (Repeated e span) = 0
  units_in_item sight scene spot position (Committed class e span) = 0
  units_in_item sight scene spot position (Guarded cuts item span) =
      behind 0 0 sight scene cuts position (units_in_item sight scene spot position item)
  units_in_item sight scene spot position (Fixed e body span) =
      value_or 0 sight scene e (λ v. if equality true (value.Number position) v then units_in sight scene spot body else 0)

-- the amounts add up to at most the whole at each location
abbrev pub AmountsFit : Sight → Scene → Formula → Type 0
AmountsFit sight scene formula = (spot : Location) → units_in sight scene spot formula ≤ whole
