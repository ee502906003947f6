-- Inhaling and exhaling in one go: whether it goes, with the state and the picks that are left, or how the run ends.
use Rattle.std.specs.Prelude.{ℕ, ℤ, if◌then◌else◌, nat_lt, List, [], ◌∷◌}
use Rattle.pv_picks.specs.declared.evidence.Pick.{Pick}
use Rattle.pv_picks.specs.declared.evidence.Pick.TheVariants.{Number, Turn, Steps}
use Rattle.pv_picks.specs.declared.evidence.Entry.{Entry}
use Rattle.pv_picks.specs.Plain.Core.{Formula}
use Rattle.pv_picks.specs.Judge.States.{State, Bind}
use Rattle.pv_picks.specs.Judge.Settings.{Setting, Next}
use Rattle.pv_picks.specs.Formulas.Values.{width}
use Rattle.pv_picks.specs.Judge.Repetitions.{test_from}
use Rattle.pv_picks.specs.Judge.Inhaling.{inhale}
use Rattle.pv_picks.specs.Judge.Exhaling.{Giving, exhale}
use Rattle.pv_picks.specs.Judge.Runs.{End, Finished, Blocked, Failed, Judged, Maps, content, value_of_operation}

pub data Gone : Type 0 where
  Goes : State → List Pick → Gone
  Ends : End → Gone

abbrev pub Directly : Type 0
Directly = List Pick → Gone

abbrev pub stopped : End → Directly
stopped end picks = Ends end

abbrev pub direct_pick : (ℤ → Directly) → Directly
direct_pick next [] = Ends Blocked
direct_pick next (Number z ∷ picks) = next z picks
direct_pick next (Turn n ∷ picks) = Ends Blocked
direct_pick next (Steps map ∷ picks) = Ends Blocked

abbrev pub direct_turn : (ℕ → Directly) → Directly
direct_turn next [] = Ends Blocked
direct_turn next (Number z ∷ picks) = Ends Blocked
direct_turn next (Turn n ∷ picks) = if nat_lt n 3 then next n picks else Ends Blocked
direct_turn next (Steps map ∷ picks) = Ends Blocked

abbrev pub direct_steps : Directly → Directly
direct_steps next [] = Ends Blocked
direct_steps next (Number z ∷ picks) = Ends Blocked
direct_steps next (Turn n ∷ picks) = Ends Blocked
direct_steps next (Steps map ∷ picks) = next picks

abbrev pub direct_tests : Maps → List Entry → Setting Directly
direct_tests maps table = record {
  finished = stopped Finished;
  blocked = stopped Blocked;
  failed = λ check span. stopped (Failed check span);
  unfit = stopped Blocked;
  pick = λ type. direct_pick;
  turn = direct_turn;
  steps = λ number type array. direct_steps;
  using = λ operation a b next. next (value_of_operation table operation a b);
  comparing = λ a b rest. rest;
  matching = λ a b rest. rest;
  deciding = λ b rest. rest;
  noticing = λ event rest. rest;
  reading = λ cell next. next (content maps cell);
  knowing = λ known rest. rest;
}

abbrev pub directly : Maps → List Entry → Setting Directly
directly maps table =
    record (direct_tests maps table) { knowing = λ k rest. test_from (direct_tests maps table) k k.low (width k.low k.high) rest }

abbrev pub went : Next Directly
went state picks = Goes state picks

-- from a state and picks, with the maps of picks for ranges, under a table
abbrev pub inhaled : Maps → List Entry → Bind → Formula → State → List Pick → Gone
inhaled maps table bind formula state picks = inhale (directly maps table) bind formula went state picks

abbrev pub exhaled : Maps → List Entry → Giving → Formula → State → List Pick → Gone
exhaled maps table giving formula state picks = exhale (directly maps table) giving formula went state picks

-- what comes next, where it goes
abbrev pub then_next : Gone → Next Judged → End
then_next (Goes state picks) next = next state picks
then_next (Ends end) next = end
