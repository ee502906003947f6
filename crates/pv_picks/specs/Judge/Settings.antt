-- What a run of a unit is set in: how it ends, where its picks come from, what its operations give, and what is noticed of it.
-- The judge is a run in one setting, its lazy run the same run in another.
use Rattle.std.specs.Prelude.{ℕ, ℤ, ◌+ℤ◌, pos, negsuc, Bool, nat_eq, int_le, if◌then◌else◌, Option, Some, None, List, [], ◌∷◌}
use Rattle.pv_base.specs.declared.Name.{Name}
use Rattle.pv_base.specs.declared.Span.{Span}
use Rattle.pv_ast.specs.declared.PvType.{PvType}
use Rattle.pv_ast.specs.declared.PvType.TheVariants.{Int, Truth, Object, IntArray, TruthArray, Null}
use Rattle.pv_ast.specs.declared.Token.{Token}
use Rattle.pv_values.specs.declared.value.Value.{Value}
use Rattle.pv_values.specs.declared.value.Value.TheVariants as value
use Rattle.pv_picks.specs.declared.check.Check.{Check}
use Rattle.pv_picks.specs.declared.check.Check.TheVariants as check
use Rattle.pv_picks.specs.Plain.Core.{Operation, Manner, Plain, Tabled, Expression}
use Rattle.pv_picks.specs.Formulas.Values.{truth_in, arithmetic, within}
use Rattle.pv_picks.specs.Formulas.Evaluation.{Reader}
use Rattle.pv_picks.specs.Judge.States.{State, Bind, InField, InElement, Cell, Cells, with_length, with_met}

-- something that is done with a location, a token, a lock or an instance
pub data Event : Type 0 where
  -- class, object, field
  AtField : Name → ℕ → Name → Event
  AtToken : Token → Name → ℕ → Event
  AtLock : Name → ℕ → Event
  -- class, predicate, object, arguments
  AtInstance : Name → Name → ℕ → List Value → Event
  -- type of the elements, array, the ends: first index, the one after the last, bounds
  AtArray : PvType → ℕ → List ℤ → Event
  -- type of the elements, array, at whose length it looks
  AtArrayLength : PvType → ℕ → Event

-- one array's part of a fact: type of the elements, array, shift from the position to the index
pub record ArrayPart : Type 0 where
  pub type : PvType
  pub array : ℕ
  pub shift : ℤ

-- what is known of each position from low to below high
pub record Known : Type 0 where
  pub parts : List ArrayPart
  pub low : ℤ
  pub high : ℤ
  -- low and high, and the bounds of the quantifier and its guards
  pub ends : List ℤ
  -- where it was inhaled, what stands for the position, and the pure part
  pub state : State
  pub bind : Bind
  pub name : Name
  pub fact : Expression

-- What a run tells its setting, and where: a lazy run makes its pattern of it, and the judge passes it by.
--   turns            where a construct offers them                                                  turn
--   orders           of numbers that expressions compare; of positions, indexes and lengths with    comparing
--                    bounds; of a range's ends with its guards' terms and with what its items compare the position with
--   sameness         of values that expressions compare; of references with null; of a new          matching
--                    reference with those that the run met
--   truth            of conditions, facts, and what `&&`, `||` and `==>` decide on                  deciding
--   one object       a permission, a read or a write of a field; a token; a lock; an instance       noticing, by class and name
--   one array        a permission, a read or a write of an element or of a range; a mark; an        noticing, with the ends
--                    array's part of a known fact; a new array; whose length is looked at
--   uses             of tabled operations, with their arguments as they are written                 using
--   elements         of a range's pick, where they are read                                        reading
--   facts            of ranges, where they come to be known                                        knowing
pub record Setting (R : Type 0) : Type 0 where
  pub finished : R
  pub blocked : R
  pub failed : Check → Span → R
  -- a negative number in the place of a reference
  pub unfit : R
  -- a number in the place of a value of this type
  pub pick : PvType → (ℤ → R) → R
  -- a turn below 3
  pub turn : (ℕ → R) → R
  -- one pick for a range: its number, the type of the elements and the array
  pub steps : ℕ → PvType → ℕ → R → R
  -- a use of a tabled operation
  pub using : Operation → ℤ → ℤ → (ℤ → R) → R
  pub comparing : ℤ → ℤ → R → R
  pub matching : Value → Value → R → R
  pub deciding : Bool → R → R
  pub noticing : Event → R → R
  -- what is in a location is read
  pub reading : Cell → (Value → R) → R
  -- the run goes on where the fact is true
  pub knowing : Known → R → R

-- a run from a state on
abbrev pub Next : Type 0 → Type 0
Next R = State → R

abbrev pub null : Value
null = value.Reference 0

-- a pick as a truth value
abbrev pub as_truth : ℤ → Value
as_truth z = value.Truth (int_le (pos 1) z)

-- the ends of one index
abbrev pub ends_of : ℤ → List ℤ
ends_of index = index ∷ (index +ℤ pos 1) ∷ []

module _ {R : Type 0} (setting : Setting R) where
  -- what a formula can't read fails
  abbrev pub no_frame : Span → Next R
  no_frame span state = setting.failed check.Frame span

  -- a truth value decides how the run goes on
  abbrev pub choose : Value → R → R → R
  choose v first second = setting.deciding (truth_in v) (if truth_in v then first else second)

  -- a number from 0 on is the reference, and is met
  abbrev pub met_as : PvType → ℤ → (Value → Next R) → Next R
  met_as type (pos n) next state = next (value.Reference n) (with_met state type n)
  met_as type (negsuc n) next state = setting.unfit

  -- one pick, as a value of the type
  abbrev pub pick_value : PvType → (Value → Next R) → Next R
  pick_value Int next state = setting.pick Int (λ z. next (value.Number z) state)
  pick_value Truth next state = setting.pick Truth (λ z. next (as_truth z) state)
  pick_value (Object class) next state = setting.pick (Object class) (λ z. met_as (Object class) z next state)
  pick_value IntArray next state = setting.pick IntArray (λ z. met_as IntArray z next state)
  pick_value TruthArray next state = setting.pick TruthArray (λ z. met_as TruthArray z next state)
  pick_value Null next state = setting.blocked

  -- goes on where the reference isn't null
  abbrev pub unless_null : ℕ → R → R → R
  unless_null reference stop rest = setting.matching (value.Reference reference) null (if nat_eq reference 0 then stop else rest)

  -- goes on where the position is from low to below high
  abbrev pub if_within : ℤ → ℤ → ℤ → R → R → R
  if_within low high position outside rest =
      setting.comparing position low (setting.comparing position high (if within low high position then rest else outside))

  -- a length that isn't known is a pick, and from then on it is known
  abbrev pub known_or_picked : Option ℤ → PvType → ℕ → (ℤ → Next R) → Next R
  known_or_picked (Some n) type array next state = next n state
  known_or_picked None type array next state =
      setting.pick Int (λ z. setting.comparing z (pos 0) (if int_le (pos 0) z then next z
      (with_length state type array z) else setting.blocked))

  abbrev pub look_at_length : PvType → ℕ → (ℤ → Next R) → Next R
  look_at_length type array next state =
      setting.noticing (AtArrayLength type array) (known_or_picked (state.lengths type array) type array next state)

  abbrev pub operate : Manner → Operation → ℤ → ℤ → Span → (ℤ → Next R) → Next R
  operate Plain operation a b span next state = next (arithmetic operation a b) state
  operate Tabled operation a b span next state = setting.using operation a b (λ z. next z state)

  abbrev pub or_missing : Option Cell → R → (Value → Next R) → Next R
  or_missing None missing next state = missing
  or_missing (Some c) missing next state = setting.reading c (λ v. next v state)

  -- A formula reads what is held; what it can't read is missing.
  abbrev pub formula_reader : (State → Cells) → (Span → Next R) → Reader (Next R)
  formula_reader cells missing = record {
    field = λ class object name span next state.
        setting.noticing (AtField class object name) (or_missing (cells state (InField class object name))
        (missing span state) next state);
    element = λ type array index span next state.
        setting.noticing (AtArray type array (ends_of index))
        (or_missing (cells state (InElement type array index)) (missing span state) next state);
    length = λ type array span next state. unless_null array (missing span state) (look_at_length type array next state);
    operation = operate;
    comparing = λ a b rest state. setting.comparing a b (rest state);
    matching = λ a b rest state. setting.matching a b (rest state);
    deciding = λ b rest state. setting.deciding b (rest state);
  }
