-- Evidence that a question tells apart, and so does its pattern: small programs as plain trees.
use Rattle.std.specs.Prelude.{ℕ, ℤ, pos, ◌≡◌, Bool, true, false, not, ◌&&◌, nat_eq, Some, None, List, [], ◌∷◌}
use Rattle.pv_ast.specs.declared.PvType.TheVariants.{Int, Truth, IntArray}
use Rattle.pv_values.specs.declared.value.Value.TheVariants as value
use Rattle.pv_fraction.specs.Amounts.{whole}
use Rattle.pv_picks.specs.declared.evidence.Pick.{Pick}
use Rattle.pv_picks.specs.declared.check.Check.TheVariants as check
use Rattle.pv_picks.specs.declared.unit.PvUnit.{PvUnit}
use Rattle.pv_picks.specs.Plain.Core.{Expression, Constant, This, Variable, Element, Length, Compute, Equal, Or, Tabled, Times, Formula, Star, Each, Join, NoItems, Item, Elements, Repeated, ToVariable, Value', Call, NewArray, Assign, Assert, Block, Then, Stop, IsMethod, IsPredicate, Program}
use Rattle.pv_picks.specs.Judge.Runs.{Finished, Failed}
use Rattle.pv_picks.specs.Lazy.Runs.{Ends, pattern_of}
use Rattle.pv_picks.specs.Lazy.Patterns.{Order, IsLess, IsEqual, IsGreater, Shown, Took, Ordered, Same, Is}
use Rattle.worked_programs.specs.Nodes.{at, name}
use Rattle.worked_programs.specs.CoreNodes.{always, contract, method, predicate, class}
use Rattle.worked_judgements.specs.Cases.{member_of, number, turn, steps, RunsLazily}

abbrev pub same_order : Order → Order → Bool
same_order IsLess IsLess = true
same_order IsEqual IsEqual = true
same_order IsGreater IsGreater = true
same_order _ _ = false

abbrev pub same_truth : Bool → Bool → Bool
same_truth true b = b
same_truth false b = not b

abbrev pub same_shown : Shown → Shown → Bool
same_shown (Took m) (Took n) = nat_eq m n
same_shown (Ordered a) (Ordered b) = same_order a b
same_shown (Same a) (Same b) = same_truth a b
same_shown (Is a) (Is b) = same_truth a b
same_shown _ _ = false

abbrev pub same_pattern : List Shown → List Shown → Bool
same_pattern [] [] = true
same_pattern [] (b ∷ bs) = false
same_pattern (a ∷ rest) [] = false
same_pattern (a ∷ rest) (b ∷ bs) = same_shown a b && same_pattern rest bs

-- the lazy runs on two lists of picks show two patterns
abbrev pub ShowsApart : Program → PvUnit → List Pick → List Pick → Type 0
ShowsApart p unit one other =
    same_pattern (pattern_of p unit (record { picks = one; table = [] }))
    (pattern_of p unit (record { picks = other; table = [] })) ≡ false

abbrev pub is_one : ℕ → Expression
is_one x = Equal true (Variable (name x)) (Constant (value.Number (pos 1)))

-- at each position from 0 to below a variable
abbrev pub at_each : ℕ → Expression → ℕ → ℕ → Formula
at_each bound e from to =
    Each (name 6) (Constant (value.Number (pos 0))) (Variable (name bound)) (Join (Repeated e (at from to)) NoItems) (at from to)

-- two postconditions over ranges, one of which may be empty
abbrev pub ranges : Program
ranges =
    class (name 0) None (IsMethod (method (Some (name 1))
    ((name 2, Int) ∷ (name 3, Int) ∷ (name 4, Int) ∷ (name 5, Int) ∷ []) None
    (contract always (Star (at_each 2 (is_one 4) 10 20) (at_each 3 (is_one 5) 30 40))) Stop false) ∷ []) ∷ []

abbrev pub square : ℕ → ℕ → Block → Block
square to x rest =
    Then (Assign (ToVariable (name to)) (Value' (Compute Tabled Times (Variable (name x)) (Variable (name x)) (at 0 0))) (at 0 0))
    rest

-- three squares, of which two may be one
abbrev pub squares : Program
squares =
    class (name 0) None (IsMethod (method (Some (name 1)) ((name 2, Int) ∷ (name 3, Int) ∷ (name 4, Int) ∷ []) None
    (contract always always)
    (square 5 2 (square 6 3 (square 7 4 Stop))) false) ∷ []) ∷ []

-- a truth at each position of a range
abbrev pub truths : Program
truths =
    class (name 0) None (IsPredicate (predicate (name 1) ((name 2, Truth) ∷ (name 3, Int) ∷ [])
    (at_each 3 (Variable (name 2)) 10 20)) ∷ []) ∷ []

-- two products of other arguments, which may be one use: with the arguments in the one order or in the other
abbrev pub product : ℕ → ℕ → ℕ → Block → Block
product to x y rest =
    Then (Assign (ToVariable (name to)) (Value' (Compute Tabled Times (Variable (name x)) (Variable (name y)) (at 0 0))) (at 0 0))
    rest

abbrev pub products : Program
products = class (name 0) None (IsMethod (method (Some (name 1))
    ((name 2, Int) ∷ (name 3, Int) ∷ (name 4, Int) ∷ (name 5, Int) ∷ []) None (contract always always)
    (product 6 4 5 (product 7 2 3 Stop)) false) ∷ []) ∷ []

-- an array that is made, and one that a call answers, of which the length is asked
abbrev pub made : Program
made = class (name 0) None (IsMethod (method (Some (name 1)) [] (Some IntArray) (contract always always) Stop false)
    ∷ IsMethod (method (Some (name 2)) [] None (contract always always)
    (Then (Assign (ToVariable (name 3)) (NewArray Int (Constant (value.Number (pos 3)))) (at 0 0))
    (Then (Assign (ToVariable (name 4)) (Call (name 0) (name 1) This []) (at 0 0))
    (Then (Assign (ToVariable (name 5)) (Value' (Length Int (Variable (name 4)) (at 0 0))) (at 0 0)) Stop))) false) ∷ []) ∷ []

abbrev pub element_is_zero : Expression
element_is_zero = Equal true (Element Int (Variable (name 2)) (Variable (name 6)) (at 0 0)) (Constant (value.Number (pos 0)))

abbrev pub zero_to : ℕ → Item → Formula
zero_to bound item = Each (name 6) (Constant (value.Number (pos 0))) (Variable (name bound)) (Join item NoItems) (at 0 0)

-- elements that are 0 up to one bound, and an assert up to another, with a truth before it: whether the bound of the assert is
-- just behind its mark
abbrev pub bounded : Program
bounded = class (name 0) None (IsMethod (method (Some (name 1))
    ((name 2, IntArray) ∷ (name 3, Int) ∷ (name 4, Int) ∷ (name 5, Truth) ∷ []) None
    (contract (Star (zero_to 3 (Elements Int (Variable (name 2)) (pos 0) whole (at 0 0)))
    (zero_to 3 (Repeated element_is_zero (at 0 0)))) always)
    (Then (Assert (zero_to 4 (Repeated (Or (Variable (name 5)) element_is_zero) (at 0 0))) (at 0 0)) Stop) false) ∷ []) ∷ []

abbrev pub up_to : ℤ → List Pick
up_to bound = number (pos 1) ∷ number (pos 1) ∷ number (pos 9) ∷ number bound ∷ number (pos 1) ∷ number (pos 9) ∷ steps []
    ∷ number (pos 20) ∷ turn 0 ∷ number (pos 2) ∷ []

-- the order of a use's arguments, whether an array is one that was made, and how the ends of one event compare are shown
abbrev pub PartingUses : Type 0
PartingUses =
    (ShowsApart products (member_of 0 0)
    (number (pos 1) ∷ number (pos 1) ∷ number (pos 2) ∷ number (pos 1) ∷ number (pos 2) ∷ turn 0 ∷ [])
    (number (pos 1) ∷ number (pos 2) ∷ number (pos 1) ∷ number (pos 1) ∷ number (pos 2) ∷ turn 0 ∷ []))
    × (ShowsApart made (member_of 0 1) (number (pos 1) ∷ turn 0 ∷ number (pos 4) ∷ number (pos 4) ∷ [])
    (number (pos 1) ∷ turn 0 ∷ number (pos 4) ∷ number (pos 5) ∷ number (pos 3) ∷ []))
    × (RunsLazily made (member_of 0 1) (number (pos 1) ∷ turn 0 ∷ number (pos 4) ∷ number (pos 4) ∷ []) [] (Ends Finished))
    × (RunsLazily bounded (member_of 0 0) (up_to (pos 3)) [] (Ends Finished))
    × (RunsLazily bounded (member_of 0 0) (up_to (pos 4)) [] (Ends Finished))
    × (ShowsApart bounded (member_of 0 0) (up_to (pos 3)) (up_to (pos 4)))

-- which range is empty, which use is repeated, and what a test comes to is shown
abbrev pub Parting : Type 0
Parting =
    (RunsLazily ranges (member_of 0 0) (number (pos 1) ∷ number (pos 0) ∷ number (pos 1) ∷ number (pos 0) ∷ number (pos 2)
    ∷ turn 0 ∷ number (pos 0) ∷ []) [] (Ends (Failed check.Ensures (at 30 40))))
    × (RunsLazily ranges (member_of 0 0) (number (pos 1) ∷ number (pos 1) ∷ number (pos 0) ∷ number (pos 2) ∷ number (pos 0)
    ∷ turn 0 ∷ number (pos 0) ∷ []) [] (Ends (Failed check.Ensures (at 10 20))))
    × (ShowsApart ranges (member_of 0 0) (number (pos 1) ∷ number (pos 0) ∷ number (pos 1) ∷ number (pos 0) ∷ number (pos 2)
    ∷ turn 0 ∷ number (pos 0) ∷ [])
    (number (pos 1) ∷ number (pos 1) ∷ number (pos 0) ∷ number (pos 2) ∷ number (pos 0) ∷ turn 0 ∷ number (pos 0) ∷ []))
    × (ShowsApart squares (member_of 0 0) (number (pos 1) ∷ number (pos 1) ∷ number (pos 1) ∷ number (pos 2) ∷ turn 0 ∷ [])
    (number (pos 1) ∷ number (pos 1) ∷ number (pos 2) ∷ number (pos 1) ∷ turn 0 ∷ []))
    × (ShowsApart truths (member_of 0 0) (number (pos 1) ∷ number (pos 0) ∷ number (pos 1) ∷ number (pos 5) ∷ [])
    (number (pos 1) ∷ number (pos 1) ∷ number (pos 1) ∷ number (pos 5) ∷ []))
