-- The judge: the run of one unit on given evidence. Its picks are taken in order, its operations from the table; a fact that is
-- known must be true at each position.
use Rattle.std.specs.Prelude.{◌≡◌, ℕ, zero, suc, ℤ, pos, Bool, true, false, ◌&&◌, nat_lt, int_le, if◌then◌else◌, List, [], ◌∷◌}
use Rattle.pv_base.specs.declared.Span.{Span}
use Rattle.pv_values.specs.declared.value.Value.{Value}
use Rattle.pv_ast.specs.declared.Operator.{Operator}
use Rattle.pv_ast.specs.declared.Operator.TheVariants as operator
use Rattle.pv_values.specs.Heaps.{same_number}
use Rattle.pv_picks.specs.declared.check.Check.{Check}
use Rattle.pv_picks.specs.declared.evidence.Pick.{Pick}
use Rattle.pv_picks.specs.declared.evidence.Pick.TheVariants.{Number, Turn, Steps}
use Rattle.pv_picks.specs.declared.evidence.StepPair.{StepPair}
use Rattle.pv_picks.specs.declared.evidence.Entry.{Entry}
use Rattle.pv_picks.specs.declared.evidence.Evidence.{Evidence}
use Rattle.pv_picks.specs.declared.unit.PvUnit.{PvUnit}
use Rattle.pv_picks.specs.Plain.Core.{Operation, Plus, Minus, Times, Program}
use Rattle.pv_picks.specs.Formulas.Values.{arithmetic, width}
use Rattle.pv_picks.specs.Judge.States.{Cell, Written, FromSteps, as_element}
use Rattle.pv_picks.specs.Judge.Repetitions.{test_from}
use Rattle.pv_picks.specs.Judge.Settings.{Setting}
use Rattle.pv_picks.specs.Judge.UnitRuns.{task_of, judge_task, enter_task}

-- how a run ends
pub data End : Type 0 where
  Finished : End
  Blocked : End
  Failed : Check → Span → End

-- Tables

abbrev pub is_operator : Operation → Operator → Bool
is_operator Plus operator.Add = true
is_operator Minus operator.Sub = true
is_operator Times operator.Mul = true
is_operator _ _ = false

-- the entry of an operation: the lesser argument of `+` and `*` comes first
abbrev pub is_entry_of : Operation → ℤ → ℤ → Entry → Bool
is_entry_of operation a b e = is_operator operation e.op && (same_number a e.left && same_number b e.right)

abbrev pub taken_from : List Entry → Operation → ℤ → ℤ → ℤ
taken_from [] operation a b = arithmetic operation a b
taken_from (e ∷ es) operation a b = if is_entry_of operation a b e then e.taken else taken_from es operation a b

abbrev pub ordered : Operation → ℤ → ℤ → Bool
ordered Minus a b = true
ordered operation a b = int_le a b

-- the value of an operation: that of its entry, and true arithmetic where no entry stands
abbrev pub value_of_operation : List Entry → Operation → ℤ → ℤ → ℤ
value_of_operation table operation a b =
    if ordered operation a b then taken_from table operation a b else taken_from table operation b a

-- Step maps

abbrev pub step_from : ℤ → List StepPair → ℤ → ℤ
step_from value [] position = value
step_from value (pair ∷ pairs) position =
    if int_le pair.at position then step_from pair.value pairs position else step_from value pairs position

-- the value of the last listed position that isn't above; the positions of a step map rise
abbrev pub step_value : List StepPair → ℤ → ℤ
step_value pairs position = step_from (pos 0) pairs position

-- The setting of the judge

-- a run's rest, by the picks that are left
abbrev pub Judged : Type 0
Judged = List Pick → End

abbrev pub pick_number : (ℤ → Judged) → Judged
pick_number next [] = Blocked
pick_number next (Number z ∷ picks) = next z picks
pick_number next (Turn n ∷ picks) = Blocked
pick_number next (Steps map ∷ picks) = Blocked

abbrev pub pick_turn : (ℕ → Judged) → Judged
pick_turn next [] = Blocked
pick_turn next (Number z ∷ picks) = Blocked
pick_turn next (Turn n ∷ picks) = if nat_lt n 3 then next n picks else Blocked
pick_turn next (Steps map ∷ picks) = Blocked

abbrev pub pick_steps : Judged → Judged
pick_steps next [] = Blocked
pick_steps next (Number z ∷ picks) = Blocked
pick_steps next (Turn n ∷ picks) = Blocked
pick_steps next (Steps map ∷ picks) = next picks

-- the maps of the picks for ranges, by their number: what it is for an index
abbrev pub Maps : Type 0
Maps = ℕ → ℤ → ℤ

abbrev pub before_others : (ℤ → ℤ) → Maps → Maps
before_others m others zero = m
before_others m others (suc n) = others n

abbrev pub maps_of : List Pick → Maps
maps_of [] = λ n index. pos 0
maps_of (Number z ∷ picks) = maps_of picks
maps_of (Turn n ∷ picks) = maps_of picks
maps_of (Steps map ∷ picks) = before_others (step_value map) (maps_of picks)

-- what is in a location
abbrev pub content : Maps → Cell → Value
content maps (Written v) = v
content maps (FromSteps type number index) = as_element type (maps number index)

abbrev pub blocked : Judged
blocked picks = Blocked

-- but for what comes to be known
abbrev pub judging_tests : Maps → List Entry → Setting Judged
judging_tests maps table = record {
  finished = λ picks. Finished;
  blocked = blocked;
  failed = λ check span picks. Failed check span;
  unfit = blocked;
  pick = λ type. pick_number;
  turn = pick_turn;
  steps = λ number type array. pick_steps;
  using = λ operation a b next. next (value_of_operation table operation a b);
  comparing = λ a b rest. rest;
  matching = λ a b rest. rest;
  deciding = λ b rest. rest;
  noticing = λ event rest. rest;
  reading = λ cell next. next (content maps cell);
  knowing = λ known rest. rest;
}

-- the fact can be evaluated and is true at every position
abbrev pub judging : Maps → List Entry → Setting Judged
judging maps table =
    record (judging_tests maps table) {
      knowing = λ k rest. test_from (judging_tests maps table) k k.low
          (width k.low k.high) rest;
    }

-- Suspended runs

-- the maps of a run that took so many picks for ranges: those of these, and those of the picks that are left
abbrev pub maps_from : ℕ → Maps → List Pick → Maps
maps_from zero taken picks = maps_of picks
maps_from (suc n) taken picks = before_others (taken zero) (maps_from n (λ k. taken (suc k)) picks)

-- a run that took so many picks for ranges, with their maps, and what is left of it
pub record Suspended : Type 0 where
  pub steps : ℕ
  pub taken : Maps
  pub rest : Maps → List Entry → Judged

-- how it ends on the picks that are left
abbrev pub ended_on : Suspended → Evidence → End
ended_on run evidence = run.rest (maps_from run.steps run.taken evidence.picks) evidence.table evidence.picks

-- the run of a unit, before its first pick
abbrev pub whole_run : Program → PvUnit → Suspended
whole_run p unit = record {
  steps = 0;
  taken = λ n index. pos 0;
  rest = λ maps table. judge_task (judging maps table) p (task_of p unit);
}

-- the end of a unit's run on evidence
abbrev pub judge : Program → PvUnit → Evidence → End
judge p unit evidence = ended_on (whole_run p unit) evidence

-- the first inhale goes
abbrev pub Enters : Program → PvUnit → Evidence → Type 0
Enters p unit evidence = enter_task (judging (maps_of evidence.picks) evidence.table) (task_of p unit) evidence.picks ≡ Finished

-- the run fails
abbrev pub Fails : Program → PvUnit → Evidence → Type 0
Fails p unit evidence = (check : Check) × (span : Span) × (judge p unit evidence ≡ Failed check span)
