-- Permission states of one run of a unit: what it holds, with the values, and what it knows.
use Rattle.std.specs.Prelude.{ℕ, zero, suc, ◌+◌, ◌-◌, ℤ, pos, int_le, Bool, true, false, ◌&&◌, ◌||◌, nat_eq, if◌then◌else◌, Option, Some, None, option_map, List, [], ◌∷◌}
use Rattle.pv_base.specs.declared.Name.{Name}
use Rattle.pv_ast.specs.declared.PvType.{PvType}
use Rattle.pv_ast.specs.declared.PvType.TheVariants.{Int, Truth}
use Rattle.pv_ast.specs.declared.Token.{Token}
use Rattle.pv_ast.specs.declared.Token.TheVariants as token
use Rattle.pv_values.specs.declared.value.Value.{Value}
use Rattle.pv_values.specs.declared.value.Value.TheVariants as value
use Rattle.pv_values.specs.Heaps.{same_number}
use Rattle.pv_base.specs.Names.{same_name}
use Rattle.pv_values.specs.Sames.{same_elements}
use Rattle.pv_picks.specs.Formulas.Values.{Variables, no_variables, within, with_variable}
use Rattle.pv_ast.specs.Rules.Typing.{same_type}
use Rattle.pv_picks.specs.Formulas.Evaluation.{Scene}

-- what a run holds amounts of: a field of an object, an element of an array, a token of an object, the lock of an object. Objects
-- are numbered apart by their class, arrays by the type of their elements. Tokens and locks are held whole or not at all
pub data Resource : Type 0 where
  -- class, object, field
  InField : Name → ℕ → Name → Resource
  -- type of the elements, array, index
  InElement : PvType → ℕ → ℤ → Resource
  -- token, class, object
  OfToken : Token → Name → ℕ → Resource
  -- class, object
  OfLock : Name → ℕ → Resource

abbrev pub same_token : Token → Token → Bool
same_token token.Idle token.Idle = true
same_token token.Running token.Running = true
same_token token.Committed token.Committed = true
same_token token.Uncommitted token.Uncommitted = true
same_token _ _ = false

abbrev pub same_resource : Resource → Resource → Bool
same_resource (InField c o f) (InField d p g) = same_name c d && (nat_eq o p && same_name f g)
same_resource (InElement t a i) (InElement u b j) = same_type t u && (nat_eq a b && same_number i j)
same_resource (OfToken t c o) (OfToken u d p) = same_token t u && (same_name c d && nat_eq o p)
same_resource (OfLock c o) (OfLock d p) = same_name c d && nat_eq o p
same_resource _ _ = false

-- a folded predicate of an object
pub record Folded : Type 0 where
  pub class : Name
  pub predicate : Name
  pub object : ℕ
  pub arguments : List Value

abbrev pub same_folded : Folded → Folded → Bool
same_folded a b =
    same_name a.class b.class && (same_name a.predicate b.predicate
    && (nat_eq a.object b.object && same_elements a.arguments b.arguments))

-- what is in a location: a value, or, as an element of the type, what the so-many-th pick for a range gives an index
pub data Cell : Type 0 where
  Written : Value → Cell
  -- type of the elements, pick, index
  FromSteps : PvType → ℕ → ℤ → Cell

abbrev pub plain_cell : Value → Cell
plain_cell v = Written v

-- what is in held locations
abbrev pub Cells : Type 0
Cells = Resource → Option Cell

-- so much of a resource, and what is in it; tokens and locks have nothing in them
pub record Holding : Type 0 where
  pub amount : ℕ
  pub cell : Cell

pub record State : Type 0 where
  -- what is held, and of that more than nothing
  pub held : Resource → Option Holding
  -- in the order in which they came
  pub instances : List Folded
  -- class and object
  pub committed : Name → ℕ → Bool
  -- type of the elements and array
  pub lengths : PvType → ℕ → Option ℤ
  -- the references that the run has met, with their types
  pub met : List (PvType × ℕ)
  -- how many picks for ranges were taken
  pub steps : ℕ
  pub this : ℕ
  pub variables : Variables
  pub result : Value
  -- what was held in the old state
  pub old : Cells

-- what formulas speak of besides what is held: the scene, and the old state
pub record Bind : Type 0 where
  pub scene : Scene
  pub old : Cells

abbrev pub scene_of : State → Scene
scene_of s = record { this = s.this; variables = s.variables; result = s.result }

-- a formula of the unit's own
abbrev pub bind_of : State → Bind
bind_of s = record { scene = scene_of s; old = s.old }

-- what is in nothing
abbrev pub no_cell : Cell
no_cell = plain_cell (value.Reference 0)

abbrev pub amount_held : Option Holding → ℕ
amount_held None = 0
amount_held (Some h) = h.amount

abbrev pub cell_held : Option Holding → Cell
cell_held None = no_cell
cell_held (Some h) = h.cell

-- how much is held of a resource
abbrev pub amount_of : State → Resource → ℕ
amount_of s r = amount_held (s.held r)

-- a value is known of what is held
abbrev pub cells_of : State → Cells
cells_of s r = option_map (λ h. h.cell) (s.held r)

-- an amount with what is in it; nothing where it is 0
abbrev pub holding : ℕ → Cell → Option Holding
holding zero c = None
holding (suc n) c = Some (record { amount = suc n; cell = c })

abbrev pub no_cells : Cells
no_cells r = None

-- Changes of a state

abbrev pub at_resource : {A : Type 0} → Resource → A → (Resource → A) → Resource → A
at_resource resource a others other = if same_resource other resource then a else others other

abbrev pub with_holding : State → Resource → Option Holding → State
with_holding s resource h = record s { held = at_resource resource h s.held }

-- another amount of what is held
abbrev pub with_amount : State → Resource → ℕ → State
with_amount s resource amount = with_holding s resource (holding amount (cell_held (s.held resource)))

-- another value in what is held
abbrev pub with_value : State → Resource → Value → State
with_value s resource v = with_holding s resource (holding (amount_of s resource) (plain_cell v))

abbrev pub with_cell : State → Resource → ℕ → Value → State
with_cell s resource amount v = with_holding s resource (holding amount (plain_cell v))

-- an element of the array, from the first index to below the second
abbrev pub is_among : PvType → ℕ → ℤ → ℤ → Resource → Bool
is_among type array low high (InElement t a i) = same_type t type && (nat_eq a array && within low high i)
is_among type array low high _ = false

abbrev pub index_of : Resource → ℤ → ℤ
index_of (InElement t a i) otherwise = i
index_of _ otherwise = otherwise

-- what is in an element that was held, or else what its index is given
abbrev pub cell_among : Option Holding → (ℤ → Cell) → Resource → ℤ → Cell
cell_among None given resource low = given (index_of resource low)
cell_among (Some h) given resource low = h.cell

-- so much more of each element of a range; one that wasn't held takes what its index is given
abbrev pub with_elements : State → PvType → ℕ → ℤ → ℤ → ℕ → (ℤ → Cell) → State
with_elements s type array low high amount given = record s {
  held = λ r. if is_among type array low high r
      then holding (amount_of s r + amount) (cell_among (s.held r) given r low) else s.held r;
}

-- an element by its number in a pick for a range
abbrev pub as_element : PvType → ℤ → Value
as_element Truth z = value.Truth (int_le (pos 1) z)
as_element type z = value.Number z

-- so an element of a pick is a truth value or a number
abbrev pub as_element_type : PvType → PvType
as_element_type Truth = Truth
as_element_type type = Int

-- the same with the values of a pick
abbrev pub with_range : State → PvType → ℕ → ℤ → ℤ → ℕ → State
with_range s type array low high amount =
    let filled : State = with_elements s type array low high amount (FromSteps type s.steps) in
    record filled { steps = suc s.steps }

-- so much less of each
abbrev pub without_range : State → PvType → ℕ → ℤ → ℤ → ℕ → State
without_range s type array low high amount = record s {
  held = λ r. if is_among type array low high r then holding (amount_of s r - amount) (cell_held (s.held r)) else s.held r;
}

abbrev pub with_length : State → PvType → ℕ → ℤ → State
with_length s type array n =
    record s { lengths = λ t a. if same_type t type && nat_eq a array then Some n else s.lengths t a }

abbrev pub with_committed : State → Name → ℕ → State
with_committed s class object =
    record s { committed = λ c o. (same_name c class && nat_eq o object) || s.committed c o }

abbrev pub with_met : State → PvType → ℕ → State
with_met s type reference = record s { met = (type, reference) ∷ s.met }

abbrev pub with_instances : State → List Folded → State
with_instances s instances = record s { instances = instances }

abbrev pub with_local : State → Name → Value → State
with_local s name v = record s { variables = with_variable s.variables name v }

abbrev pub with_result : State → Value → State
with_result s v = record s { result = v }

-- "nothing held": all else stays, as variables, the old state, what is known committed and the lengths
abbrev pub nothing_held : State → State
nothing_held s = record s { held = λ r. None; instances = [] }

-- the state before, with what was learned since: lengths, references met, picks taken
abbrev pub having_learned : State → State → State
having_learned before after = record before { lengths = after.lengths; met = after.met; steps = after.steps }

-- the list without the first that is the same
abbrev pub or_kept : Folded → Option (List Folded) → Option (List Folded)
or_kept x None = None
or_kept x (Some xs) = Some (x ∷ xs)

abbrev pub without_instance : Folded → List Folded → Option (List Folded)
without_instance folded [] = None
without_instance folded (x ∷ xs) = if same_folded folded x then Some xs else or_kept x (without_instance folded xs)

-- before a run takes its first pick
abbrev pub empty_state : State
empty_state = record {
  held = λ r. None;
  instances = [];
  committed = λ class object. false;
  lengths = λ type array. None;
  met = [];
  steps = 0;
  this = 0;
  variables = no_variables;
  result = value.Reference 0;
  old = no_cells;
}
