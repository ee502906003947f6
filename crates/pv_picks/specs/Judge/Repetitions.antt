-- What the repetitions of formulas are made of: ranges that guards cut, what a pure item looks at, and its test at a position.
use Rattle.std.specs.Prelude.{ℕ, zero, suc, ℤ, pos, ◌+ℤ◌, ◌-ℤ◌, Bool, true, false, nat_eq, if◌then◌else◌, Option, Some, None, List, [], ◌∷◌, ◌++◌, map}
use Rattle.std.specs.Int.{int_min, int_max}
use Rattle.pv_base.specs.declared.Name.{Name}
use Rattle.pv_base.specs.declared.Span.{Span}
use Rattle.pv_ast.specs.declared.PvType.{PvType}
use Rattle.pv_values.specs.declared.value.Value.{Value}
use Rattle.pv_values.specs.declared.value.Value.TheVariants as value
use Rattle.pv_base.specs.Names.{same_name}
use Rattle.pv_picks.specs.Plain.Core.{Operation, Plus, Minus, Times, Manner, Plain, Tabled, Expression, Constant, This, Result, Variable, Field, Element, Length, Not, Compute, Compare, Equal, And, Or, Implies, Old, Cut, Below, UpTo, Above, From, Provided}
use Rattle.pv_picks.specs.Formulas.Values.{number_in, truth_in, reference_in, arithmetic, is_empty, at_position}
use Rattle.pv_picks.specs.Formulas.Evaluation.{Reader, evaluate}
use Rattle.pv_picks.specs.Formulas.Meeting.{guard_term}
use Rattle.pv_picks.specs.Judge.States.{State, Cells, Bind, InField, InElement, cells_of}
use Rattle.pv_picks.specs.Judge.Settings.{Setting, Next, AtField, AtArray, AtArrayLength, ArrayPart, Known, ends_of, unless_null, look_at_length, or_missing, formula_reader}

abbrev pub bind_at : Bind → Name → ℤ → Bind
bind_at bind name position =
    record bind {
      scene = record {
        this = bind.scene.this;
        variables = at_position bind.scene.variables name position;
        result = bind.scene.result;
      };
    }

-- Ranges

-- the positions from low to below high, and the bounds that led there
pub record Range : Type 0 where
  pub low : ℤ
  pub high : ℤ
  pub bounds : List ℤ

abbrev pub range_of : ℤ → ℤ → Range
range_of low high = record { low = low; high = high; bounds = low ∷ high ∷ [] }

abbrev pub below : Range → ℤ → Range
below r bound = record { low = r.low; high = int_min r.high bound; bounds = r.bounds ++ bound ∷ [] }

abbrev pub from : Range → ℤ → Range
from r bound = record { low = int_max r.low bound; high = r.high; bounds = r.bounds ++ bound ∷ [] }

abbrev pub provided : Range → Bool → Range
provided r holds = if holds then r else record r { high = r.low }

-- a range behind a guard, whose term has this value
abbrev pub cut_by : Cut → Value → Range → Range
cut_by (Below e) v r = below r (number_in v)
cut_by (UpTo e) v r = below r (number_in v +ℤ pos 1)
cut_by (Above e) v r = from r (number_in v +ℤ pos 1)
cut_by (From e) v r = from r (number_in v)
cut_by (Provided e) v r = provided r (truth_in v)

abbrev pub shifted : List ℤ → ℤ → List ℤ
shifted ends shift = map (λ z. z +ℤ shift) ends

-- What a pure item looks at

-- an array that it reads at an index shifted from the position; an element that it reads at another index, where the truth value
-- says whether in the old state; an array whose length it names; a term with which it compares the position
pub data Look : Type 0 where
  AtElements : PvType → Expression → ℤ → Look
  AtElement : Bool → PvType → Expression → Expression → Look
  AtLength : PvType → Expression → Look
  AtTerm : Expression → Look

-- how far an index is from the position, where it is the position or it with a number added or taken away
abbrev pub shift_by : Operation → ℤ → Option ℤ
shift_by Plus z = Some z
shift_by Minus z = Some (pos 0 -ℤ z)
shift_by Times z = None

abbrev pub constant_in : Expression → Option ℤ
constant_in (Constant (value.Number z)) = Some z
constant_in _ = None

abbrev pub is_position : Name → Expression → Bool
is_position name (Variable x) = same_name name x
is_position name _ = false

abbrev pub shift_if : Bool → Operation → Option ℤ → Option ℤ
shift_if true operation (Some z) = shift_by operation z
shift_if true operation None = None
shift_if false operation z = None

abbrev pub shift_in : Name → Expression → Option ℤ
shift_in name (Variable x) = if same_name name x then Some (pos 0) else None
shift_in name (Compute Plain operation a b span) = shift_if (is_position name a) operation (constant_in b)
shift_in name _ = None

abbrev pub in_state : Bool → Expression → Expression
in_state true e = Old e
in_state false e = e

abbrev pub look_at_element : Option ℤ → Bool → PvType → Expression → Expression → Look
look_at_element None old type array index = AtElement old type (in_state old array) (in_state old index)
look_at_element (Some shift) old type array index = AtElements type (in_state old array) shift

-- the other side of a comparison with the position
abbrev pub term_beside : Name → Bool → Expression → Expression → List Look
term_beside name old a b =
    if is_position name a then AtTerm (in_state old b) ∷ []
    else if is_position name b then AtTerm (in_state old a) ∷ [] else []

-- in the order of the text; an array of the old state is looked at there
abbrev pub looks_in : Name → Bool → Expression → List Look
looks_in name old (Constant v) = []
looks_in name old This = []
looks_in name old Result = []
looks_in name old (Variable x) = []
looks_in name old (Field e class field span) = looks_in name old e
looks_in name old (Element type array index span) =
    looks_in name old array ++ (looks_in name old index ++ look_at_element (shift_in name index) old type array index ∷ [])
looks_in name old (Length type array span) = looks_in name old array ++ AtLength type (in_state old array) ∷ []
looks_in name old (Not e) = looks_in name old e
looks_in name old (Compute manner operation a b span) = looks_in name old a ++ looks_in name old b
looks_in name old (Compare order a b) = looks_in name old a ++ (looks_in name old b ++ term_beside name old a b)
looks_in name old (Equal same a b) = looks_in name old a ++ (looks_in name old b ++ term_beside name old a b)
looks_in name old (And a b) = looks_in name old a ++ looks_in name old b
looks_in name old (Or a b) = looks_in name old a ++ looks_in name old b
looks_in name old (Implies a b) = looks_in name old a ++ looks_in name old b
looks_in name old (Old e) = looks_in name true e

abbrev pub looks_of : Name → Expression → List Look
looks_of name e = looks_in name false e

-- the cells that are read: in the old state, or in the present one
abbrev pub cells_at : Bool → (State → Cells) → Bind → State → Cells
cells_at true cells bind state = bind.old
cells_at false cells bind state = cells state

module _ {R : Type 0} (setting : Setting R) where
  -- The test of a fact at a position. It reads what is held and the known lengths, and blocks where it can't; the reads of
  -- elements are no events.

  abbrev pub or_blocked : {A : Type 0} → Option A → (A → R) → R
  or_blocked None next = setting.blocked
  or_blocked (Some a) next = next a

  abbrev pub operation_tested : Manner → Operation → ℤ → ℤ → Span → (ℤ → R) → R
  operation_tested Plain operation a b span next = next (arithmetic operation a b)
  operation_tested Tabled operation a b span next = setting.using operation a b next

  abbrev pub test_reader : State → Cells → Reader R
  test_reader state cells = record {
    field =
        λ class object name span next. setting.noticing (AtField class object name)
        (or_blocked (cells (InField class object name)) (λ c. setting.reading c next));
    element = λ type array index span next. or_blocked (cells (InElement type array index)) (λ c. setting.reading c next);
    length =
        λ type array span next. if nat_eq array 0 then setting.blocked else setting.noticing (AtArrayLength type array)
        (or_blocked (state.lengths type array) next);
    operation = operation_tested;
    comparing = setting.comparing;
    matching = setting.matching;
    deciding = setting.deciding;
  }

  abbrev pub test_at : Known → ℤ → R → R
  test_at k position rest =
      evaluate (test_reader k.state (cells_of k.state)) (test_reader k.state k.bind.old)
      (bind_at k.bind k.name position).scene k.fact
      (λ v. setting.deciding (truth_in v) (if truth_in v then rest else setting.blocked))

  -- so many tests, from a position on
  abbrev pub test_from : Known → ℤ → ℕ → R → R
  test_from k low zero rest = rest
  test_from k low (suc n) rest = test_at k low (test_from k (low +ℤ pos 1) n rest)

  -- the value of an expression of a formula, which reads these cells; what it can't read is missing
  abbrev pub value_in : (State → Cells) → (Span → Next R) → Bind → Expression → (Value → Next R) → Next R
  value_in cells missing bind e next =
      evaluate (formula_reader setting cells missing) (formula_reader setting (λ s. bind.old) missing) bind.scene e next

  -- the range is compared with a bound
  abbrev pub notice_bound : ℤ → Range → R → R
  notice_bound bound r rest = setting.comparing r.low bound (setting.comparing r.high bound rest)

  -- the arrays that are read at the position, as far as they can be
  abbrev pub arrays_read : (State → Cells) → Bind → List Look → (List ArrayPart → Next R) → Next R
  arrays_read cells bind [] next = next []
  arrays_read cells bind (AtElements type array shift ∷ looks) next =
      value_in cells (λ span. arrays_read cells bind looks next) bind array
      (λ a. arrays_read cells bind looks (λ parts. next (record { type = type; array = reference_in a; shift = shift } ∷ parts)))
  arrays_read cells bind (AtElement old type array index ∷ looks) next = arrays_read cells bind looks next
  arrays_read cells bind (AtLength type array ∷ looks) next = arrays_read cells bind looks next
  arrays_read cells bind (AtTerm e ∷ looks) next = arrays_read cells bind looks next

  -- looks ahead as far as what is looked at can be read, and goes on with the arrays that are read at the position: what is read
  -- once for all positions is read here, so that the tests ask nothing new
  abbrev pub look_ahead : (State → Cells) → Bind → Range → List Look → (List ArrayPart → Next R) → Next R
  look_ahead cells bind r [] next = next []
  look_ahead cells bind r (AtElements type array shift ∷ looks) next =
      value_in cells (λ span. look_ahead cells bind r looks next) bind array
      (λ a. look_ahead cells bind r looks (λ parts. next (record { type = type; array = reference_in a; shift = shift } ∷ parts)))
  look_ahead cells bind r (AtElement old type array index ∷ looks) next =
      value_in cells (λ span. look_ahead cells bind r looks next) bind array
      (λ a. value_in cells (λ span. look_ahead cells bind r looks next) bind index
      (λ i state. setting.noticing (AtArray type (reference_in a) (ends_of (number_in i)))
      (or_missing setting (cells_at old cells bind state (InElement type (reference_in a) (number_in i)))
      (look_ahead cells bind r looks next state)
      (λ v. look_ahead cells bind r looks next) state)))
  look_ahead cells bind r (AtLength type array ∷ looks) next =
      value_in cells (λ span. look_ahead cells bind r looks next) bind array
      (λ a state. unless_null setting (reference_in a) (look_ahead cells bind r looks next state)
      (look_at_length setting type (reference_in a) (λ n. look_ahead cells bind r looks next) state))
  look_ahead cells bind r (AtTerm e ∷ looks) next =
      value_in cells (λ span. look_ahead cells bind r looks next) bind e
      (λ v state. notice_bound (number_in v) r
      (notice_bound (number_in v +ℤ pos 1) r (look_ahead cells bind r looks next state)))

  -- each array's part of a fact, or of the look at a mark, is an event
  abbrev pub notice_parts : List ArrayPart → List ℤ → R → R
  notice_parts [] ends rest = rest
  notice_parts (part ∷ parts) ends rest =
      setting.noticing (AtArray part.type part.array (shifted ends part.shift)) (notice_parts parts ends rest)

  -- goes on where the range isn't empty
  abbrev pub unless_empty : Range → R → R → R
  unless_empty r nothing rest = setting.comparing r.low r.high (if is_empty r.low r.high then nothing else rest)

  abbrev pub notice_cut : Cut → Value → Range → R → R
  notice_cut (Below e) v r rest = notice_bound (number_in v) r rest
  notice_cut (UpTo e) v r rest = notice_bound (number_in v +ℤ pos 1) r rest
  notice_cut (Above e) v r rest = notice_bound (number_in v +ℤ pos 1) r rest
  notice_cut (From e) v r rest = notice_bound (number_in v) r rest
  notice_cut (Provided e) v r rest = setting.deciding (truth_in v) rest

  -- goes on with what the guards leave of a range; a guard behind an empty range isn't looked at
  abbrev pub cut_all : (State → Cells) → (Span → Next R) → Bind → List Cut → Range → Next R → (Range → Next R) → Next R
  cut_all cells missing bind [] r nothing next state = next r state
  cut_all cells missing bind (cut ∷ cuts) r nothing next state =
      unless_empty r (nothing state)
      (value_in cells missing bind (guard_term cut) (λ v later. notice_cut cut v r
      (cut_all cells missing bind cuts (cut_by cut v r) nothing next later)) state)
