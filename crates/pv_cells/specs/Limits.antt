-- Runs on numbers of 128 bits: a run of the judge that ends, besides, where a value doesn't fit or a range is too long.
use Rattle.std.specs.Prelude.{ℕ, ℤ, pos, negsuc, Bool, ◌&&◌, nat_lt, int_le, if◌then◌else◌, List, [], ◌∷◌}
use Rattle.pv_base.specs.declared.Span.{Span}
use Rattle.pv_picks.specs.declared.evidence.Pick.{Pick}
use Rattle.pv_picks.specs.declared.evidence.Pick.TheVariants.{Number, Turn, Steps}
use Rattle.pv_picks.specs.declared.evidence.Entry.{Entry}
use Rattle.pv_picks.specs.Plain.Core.{Operation, Manner}
use Rattle.pv_picks.specs.Judge.States.{State, Cells}
use Rattle.pv_picks.specs.Judge.Settings.{Setting, Next, operate, formula_reader}
use Rattle.pv_picks.specs.Judge.Runs.{End, Finished, Blocked, Failed, Maps, content, value_of_operation}
use Rattle.pv_picks.specs.Formulas.Evaluation.{Reader}

pub data Ending : Type 0 where
  -- as the judge's run
  Ends : End → Ending
  -- at an operation whose value is outside 128 bits
  Overflows : Span → Ending
  -- at a range of so many positions
  TooLong : ℤ → Ending

-- a run's rest, by the picks that are left
abbrev pub Limited : Type 0
Limited = List Pick → Ending

abbrev pub ends : End → Limited
ends end picks = Ends end

abbrev pub pick_number : (ℤ → Limited) → Limited
pick_number next [] = Ends Blocked
pick_number next (Number z ∷ picks) = next z picks
pick_number next (Turn n ∷ picks) = Ends Blocked
pick_number next (Steps map ∷ picks) = Ends Blocked

abbrev pub pick_turn : (ℕ → Limited) → Limited
pick_turn next [] = Ends Blocked
pick_turn next (Number z ∷ picks) = Ends Blocked
pick_turn next (Turn n ∷ picks) = if nat_lt n 3 then next n picks else Ends Blocked
pick_turn next (Steps map ∷ picks) = Ends Blocked

abbrev pub pick_steps : Limited → Limited
pick_steps next [] = Ends Blocked
pick_steps next (Number z ∷ picks) = Ends Blocked
pick_steps next (Turn n ∷ picks) = Ends Blocked
pick_steps next (Steps map ∷ picks) = next picks

-- the judge's setting, but for what comes to be known
abbrev pub limiting : Maps → List Entry → Setting Limited
limiting maps table = record {
  finished = ends Finished;
  blocked = ends Blocked;
  failed = λ check span. ends (Failed check span);
  unfit = ends Blocked;
  pick = λ type. pick_number;
  turn = pick_turn;
  steps = λ number type array. pick_steps;
  using = λ operation a b next. next (value_of_operation table operation a b);
  comparing = λ a b rest. rest;
  matching = λ a b rest. rest;
  deciding = λ b rest. rest;
  noticing = λ event rest. rest;
  reading = λ cell next. next (content maps cell);
  knowing = λ known rest. rest;
}

-- the numbers of 128 bits
abbrev pub least_number : ℤ
least_number = negsuc 170141183460469231731687303715884105727

abbrev pub greatest_number : ℤ
greatest_number = pos 170141183460469231731687303715884105727

abbrev pub fits : ℤ → Bool
fits z = int_le least_number z && int_le z greatest_number

-- the run goes on with a value of an operation at a place
abbrev pub if_fits : ℤ → Span → (ℤ → Limited) → Limited
if_fits z span next = if fits z then next z else λ picks. Overflows span

abbrev pub operate_within : Maps → List Entry → Manner → Operation → ℤ → ℤ → Span → (ℤ → Next Limited) → Next Limited
operate_within maps table manner operation a b span next =
    operate (limiting maps table) manner operation a b span (λ z state. if_fits z span (λ w. next w state))

-- reads as formulas do, and ends where an operation's value doesn't fit
abbrev pub reader_within : Maps → List Entry → (State → Cells) → (Span → Next Limited) → Reader (Next Limited)
reader_within maps table cells missing =
    record (formula_reader (limiting maps table) cells missing) { operation = operate_within maps table }
