-- What is looked at around a mark: small programs as plain trees.
use Rattle.std.specs.Prelude.{ℕ, pos, false, Some, None, List, [], ◌∷◌}
use Rattle.pv_ast.specs.declared.PvType.TheVariants.{Int, IntArray}
use Rattle.pv_values.specs.declared.value.Value.TheVariants as value
use Rattle.pv_picks.specs.declared.check.Check.TheVariants as check
use Rattle.pv_picks.specs.declared.evidence.Pick.{Pick}
use Rattle.pv_picks.specs.Plain.Core.{Expression, Constant, Variable, Element, Length, Compare, Less, Formula, Each, Join, NoItems, Repeated, Assert, Block, Then, Stop, IsMethod, Program}
use Rattle.pv_picks.specs.Judge.Runs.{Finished, Blocked, Failed}
use Rattle.worked_programs.specs.Nodes.{at, name}
use Rattle.worked_programs.specs.CoreNodes.{always, contract, method, class}
use Rattle.worked_judgements.specs.Cases.{member_of, number, turn, Judged}

abbrev pub to_n : Expression → Formula
to_n e = Each (name 6) (Constant (value.Number (pos 0))) (Variable (name 3)) (Join (Repeated e (at 10 20)) NoItems) (at 10 20)

abbrev pub taking_array : Formula → Block → Program
taking_array before body = class (name 0) None (IsMethod (method (Some (name 1)) ((name 2, IntArray) ∷ (name 3, Int) ∷ []) None
    (contract before always) body false) ∷ []) ∷ []

-- each position is below the length of an array: required, and asserted
abbrev pub below_length : Expression
below_length = Compare Less (Variable (name 6)) (Length Int (Variable (name 2)) (at 12 14))

abbrev pub required : Program
required = taking_array (to_n below_length) Stop

abbrev pub asserted : Program
asserted = taking_array always (Then (Assert (to_n below_length) (at 10 20)) Stop)

-- the element before the position, which isn't held, is below 0
abbrev pub unheld : Program
unheld =
    taking_array (to_n (Compare Less (Element Int (Variable (name 2)) (Variable (name 6)) (at 12 14))
    (Constant (value.Number (pos 0))))) Stop

-- an array with the bound 2, and then a mark
abbrev pub with_mark : List Pick → List Pick
with_mark picks = number (pos 1) ∷ number (pos 1) ∷ number (pos 2) ∷ picks

-- inhaled with a mark outside, the length is picked behind the mark; inside, it is picked where the body is evaluated; a body
-- that is false at the mark blocks, and so does one that is false elsewhere; exhaled with a mark outside, nothing is looked at;
-- inside, a false body fails; what isn't held fails at a mark inside, and blocks where it is to be known
abbrev pub Marks : Type 0
Marks =
    (Judged required (member_of 0 0) (with_mark (number (pos 5) ∷ number (pos 2) ∷ turn 0 ∷ [])) [] Finished)
    × (Judged required (member_of 0 0) (with_mark (number (pos 1) ∷ number (pos 2) ∷ turn 0 ∷ [])) [] Finished)
    × (Judged required (member_of 0 0) (with_mark (number (pos 1) ∷ number (pos 1) ∷ turn 0 ∷ [])) [] Blocked)
    × (Judged required (member_of 0 0) (with_mark (number (pos 5) ∷ number (pos 1) ∷ turn 0 ∷ [])) [] Blocked)
    × (Judged asserted (member_of 0 0) (with_mark (turn 0 ∷ number (pos 5) ∷ [])) [] Finished)
    × (Judged asserted (member_of 0 0) (with_mark (turn 0 ∷ number (pos 1) ∷ number (pos 1) ∷ [])) []
    (Failed check.Assert (at 10 20)))
    × (Judged unheld (member_of 0 0) (with_mark (number (pos 1) ∷ [])) [] (Failed check.Frame (at 12 14)))
    × (Judged unheld (member_of 0 0) (with_mark (number (pos 5) ∷ [])) [] Blocked)
