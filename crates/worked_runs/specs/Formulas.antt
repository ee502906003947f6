-- Formulas in one heap: which conjunct of each is the first that isn't met, and how many units each asks for at a location.
-- Object 1 has the value 5, and array 2 has the elements 7, 8 and 9; `x` and `y` both name the object, and `a` the array.
use Rattle.std.specs.Prelude.{ℕ, ℤ, pos, negsuc, ◌+◌, false, List, [], ◌∷◌, map}
use Rattle.pv_base.specs.declared.Name.{Name}
use Rattle.pv_base.specs.declared.Span.{Span}
use Rattle.pv_ast.specs.declared.PvType.TheVariants.{Int, Object, IntArray}
use Rattle.pv_ast.specs.declared.Token.TheVariants as token
use Rattle.pv_values.specs.declared.value.Value.TheVariants as value
use Rattle.pv_values.specs.declared.value.Location.{Location}
use Rattle.pv_values.specs.declared.value.Location.TheVariants.{Field, Cell}
use Rattle.pv_values.specs.declared.thing.Thing.TheVariants as thing
use Rattle.pv_values.specs.Heaps.{Things}
use Rattle.pv_fraction.specs.Amounts.{whole}
use Rattle.pv_picks.specs.Plain.Core as core
use Rattle.pv_picks.specs.Plain.Core.{Expression, Constant, Formula, Fact, FieldPermission, ElementPermission, Holds, Instance, Star, When, Each, NoItems, Join, Item, Elements, Repeated, Guarded, Fixed, Above, Provided}
use Rattle.pv_picks.specs.Formulas.Evaluation.{Scene}
use Rattle.pv_picks.specs.Formulas.Heaps.{heap_of}
use Rattle.pv_picks.specs.Formulas.Meeting.{Sight, Finding, AllMet, FirstUnmet, unmet, units_in}
use Rattle.pv_picks.specs.Machine.Frames.{only_now, outer_scene}
use Rattle.worked_runs.specs.Building.{named, integer, reference, number, variable, equals, half}

abbrev pub item : Name
item = named 0

abbrev pub v : Name
v = named 1

abbrev pub x : Name
x = named 2

abbrev pub y : Name
y = named 3

abbrev pub a : Name
a = named 4

abbrev pub i : Name
i = named 5

abbrev pub one : Name
one = named 6

-- the first and the second conjunct
abbrev pub first : Span
first = record { from = 1; to = 2 }

abbrev pub second : Span
second = record { from = 3; to = 4 }

abbrev pub things : Things
things = thing.Object item ((v, integer 5) ∷ []) ∷ thing.Array (integer 7 ∷ integer 8 ∷ integer 9 ∷ []) ∷ []

abbrev pub sight : Sight
sight = only_now (heap_of things)

abbrev pub scene : Scene
scene = outer_scene 1 ((x, Object item) ∷ (y, Object item) ∷ (a, IntArray) ∷ []) (reference 1 ∷ reference 1 ∷ reference 2 ∷ [])

abbrev pub no : Expression
no = Constant (value.Truth false)

abbrev pub value_of : Expression → Expression
value_of object = core.Field object item v first

abbrev pub element_at : ℕ → Expression
element_at index = core.Element Int (variable a) (number index) first

-- all elements at a shift from the position
abbrev pub elements : ℤ → ℕ → Item
elements shift amount = Elements Int (variable a) shift amount first

-- at each position from 0 to below a number
abbrev pub up_to : ℕ → Item → Formula
up_to n body = Each i (number 0) (number n) (Join body NoItems) first

-- behind `0 < i ==>`, behind `i == 1 ==>`
abbrev pub after_zero : Item → Item
after_zero body = Guarded (Above (number 0) ∷ []) body first

abbrev pub at_one : Formula → Item
at_one body = Fixed (number 1) body first

abbrev pub own_element : ℕ → Formula
own_element amount = ElementPermission Int (variable a) (variable i) amount first

abbrev pub value_permission : Name → ℕ → Formula
value_permission object amount = FieldPermission (variable object) item v Int amount first

-- which conjunct is the first that isn't met
abbrev pub findings : List (Formula × Finding)
findings =
    (Fact (equals (value_of (variable x)) (number 5)) first, AllMet)
    ∷ (Star (Fact (equals (value_of (variable x)) (number 5)) first) (Fact no second), FirstUnmet second)
    ∷ (Star (Fact no first) (Fact no second), FirstUnmet first)
    -- what is read isn't there
    ∷ (Fact (equals (element_at 2) (number 9)) first, AllMet)
    ∷ (Fact (equals (element_at 3) (number 9)) first, FirstUnmet first)
    ∷ (Fact (core.Not (equals (value_of (Constant (value.Reference 0))) (number 5))) first, FirstUnmet first)
    -- a permission says that its location is there
    ∷ (value_permission x 0, AllMet)
    ∷ (FieldPermission (Constant (value.Reference 0)) item v Int whole first, FirstUnmet first)
    ∷ (up_to 3 (elements (pos 0) whole), AllMet)
    ∷ (up_to 4 (elements (pos 0) whole), FirstUnmet first)
    ∷ (up_to 0 (elements (pos 7) whole), AllMet)
    -- shifts, and a guard that leaves a position out
    ∷ (up_to 2 (elements (pos 1) whole), AllMet)
    ∷ (up_to 3 (elements (pos 1) whole), FirstUnmet first)
    ∷ (up_to 3 (elements (negsuc 0) whole), FirstUnmet first)
    ∷ (up_to 3 (after_zero (elements (negsuc 0) whole)), AllMet)
    ∷ (up_to 3 (Guarded (Provided no ∷ []) (elements (pos 7) whole) first), AllMet)
    -- one position alone
    ∷ (up_to 3 (at_one (Fact (equals (element_at 1) (number 8)) second)), AllMet)
    ∷ (up_to 3 (at_one (Fact no second)), FirstUnmet second)
    ∷ (up_to 1 (at_one (Fact no second)), AllMet)
    ∷ (up_to 3 (Repeated (equals (variable i) (number 0)) first), FirstUnmet first)
    -- a condition that fails asks for nothing
    ∷ (When no (Fact no second) first, AllMet)
    -- tokens and instances are true
    ∷ (Holds token.Running item (variable x) first, AllMet)
    ∷ (Instance item one (variable x) [] first, AllMet)
    ∷ []

abbrev pub found : List Finding
found = map (λ r. unmet sight scene r.0) findings

abbrev pub wanted : List Finding
wanted = map (λ r. r.1) findings

-- how many units are asked for at a location
abbrev pub amounts : List (Formula × Location × ℕ)
amounts =
    (value_permission x half, Field 1 v, half)
    -- two names of one object add up, to the whole and beyond it
    ∷ (Star (value_permission x half) (value_permission y half), Field 1 v, whole)
    ∷ (Star (value_permission x whole) (value_permission y half), Field 1 v, whole + half)
    ∷ (Star (value_permission x whole) (value_permission y half), Field 1 one, 0)
    -- elements at shifts, behind a guard, at one position
    ∷ (up_to 3 (elements (pos 0) whole), Cell 2 (pos 2), whole)
    ∷ (up_to 3 (elements (pos 0) whole), Cell 2 (pos 3), 0)
    ∷ (up_to 2 (elements (pos 1) whole), Cell 2 (pos 0), 0)
    ∷ (up_to 2 (elements (pos 1) whole), Cell 2 (pos 2), whole)
    ∷ (up_to 3 (after_zero (elements (negsuc 0) half)), Cell 2 (pos 0), half)
    ∷ (up_to 3 (after_zero (elements (negsuc 0) half)), Cell 2 (pos 2), 0)
    ∷ (up_to 3 (at_one (own_element whole)), Cell 2 (pos 0), 0)
    ∷ (up_to 3 (at_one (own_element whole)), Cell 2 (pos 1), whole)
    -- two items that meet at one element
    ∷ (
      Each i (number 0) (number 3) (Join (elements (pos 0) half) (Join (after_zero (elements (negsuc 0) whole)) NoItems)) first,
      Cell 2 (pos 1),
      half + whole,
    )
    -- a condition that fails asks for nothing
    ∷ (When no (value_permission x whole) first, Field 1 v, 0)
    ∷ []

abbrev pub asked : List ℕ
asked = map (λ r. units_in sight scene r.1 r.0) amounts

abbrev pub expected : List ℕ
expected = map (λ r. r.2) amounts
