-- A method that gives back a new array and says of its length in the old state:
--   class C { ensures \result != null ** \old(\result.length) == 3; int[] m() { int[] a = new int[3]; return a; } }
-- A length never changes, so under `\old` it is that of the present: no evidence makes the judge fail, and the return goes.
use Rattle.std.specs.Prelude.{◌≡◌, pos, true, false, Some, None, [], ◌∷◌}
use Rattle.pv_ast.specs.declared.PvType.TheVariants.{Int, IntArray}
use Rattle.pv_values.specs.declared.value.Value.TheVariants as value
use Rattle.pv_values.specs.declared.thing.Thing.TheVariants as thing
use Rattle.pv_picks.specs.declared.unit.PvUnit.{PvUnit}
use Rattle.pv_picks.specs.Plain.Core.{Formula, Constant, Result, Variable, Length, Equal, Old, Fact, Star, ToVariable, NewArray, Assign, Return, Block, Stop, Then, IsMethod, Method, Program}
use Rattle.pv_picks.specs.Machine.Starts.{Start, IsStart, first_world}
use Rattle.pv_picks.specs.Machine.Worlds.{Free, World}
use Rattle.pv_picks.specs.Machine.Steps.{Result as Stepped, act}
use Rattle.pv_picks.specs.Machine.Safety.{run_events}
use Rattle.pv_picks.specs.Verdicts.Grounds.{NeverFails}
use Rattle.worked_programs.specs.Nodes.{at, name}
use Rattle.worked_programs.specs.CoreNodes.{always, contract, class}
use Rattle.worked_programs.specs.CoreNodes as nodes
use Rattle.worked_judgements.specs.Cases.{member_of}

abbrev pub ensured : Formula
ensured = Star (Fact (Equal false Result (Constant (value.Reference 0))) (at 18 33))
    (Fact (Equal true (Old (Length Int Result (at 42 56))) (Constant (value.Number (pos 3)))) (at 37 62))

abbrev pub body : Block
body = Then (Assign (ToVariable (name 2)) (NewArray Int (Constant (value.Number (pos 3)))) (at 76 97))
    (Then (Return (Some (Variable (name 2))) (at 98 107)) Stop)

abbrev pub method : Method
method = nodes.method (Some (name 1)) [] (Some IntArray) (contract always ensured) body true

abbrev pub program : Program
program = class (name 0) None (IsMethod method ∷ []) ∷ []

abbrev pub unit : PvUnit
unit = member_of 0 0

-- one object, on which the method is called
abbrev pub start : Start
start = record { heap = thing.Object (name 0) [] ∷ []; class = name 0; object = 1; method = method; arguments = [] }

-- the array is made, and the method is at its end
abbrev pub at_its_end : World
at_its_end = run_events program (record { thread = 0; mode = Free } ∷ []) (first_world start)

abbrev pub Returns : Type 0
Returns = (after : World) × (act program at_its_end Free 0 ≡ Stepped.Went after)

abbrev pub OldLengths : Type 0
OldLengths = NeverFails program unit × IsStart program start × Returns
