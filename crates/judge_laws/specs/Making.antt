-- Evidence that is made of what a drawn run takes and remembers: its lazy run is the drawn run.
use Rattle.std.specs.Prelude.{◌≡◌, ℕ, zero, suc, ℤ, Bool, true, false, int_lt, nat_eq, if◌then◌else◌, List, [], ◌∷◌, ◌++◌, map}
use Rattle.pv_ast.specs.declared.Operator.{Operator}
use Rattle.pv_ast.specs.declared.Operator.TheVariants as operator
use Rattle.pv_picks.specs.declared.evidence.Pick.{Pick}
use Rattle.pv_picks.specs.declared.evidence.Pick.TheVariants.{Number, Turn, Steps}
use Rattle.pv_picks.specs.declared.evidence.StepPair.{StepPair}
use Rattle.pv_picks.specs.declared.evidence.Entry.{Entry}
use Rattle.pv_picks.specs.declared.evidence.Evidence.{Evidence}
use Rattle.pv_picks.specs.declared.unit.PvUnit.{PvUnit}
use Rattle.pv_picks.specs.Plain.Core.{Operation, Plus, Minus, Times, Program}
use Rattle.pv_picks.specs.Judge.Runs.{ordered}
use Rattle.pv_picks.specs.Lazy.Runs.{UsedFor, ReadAs, Taken, OneNumber, OneTurn, ForRange, Outcome, Final, lazy_run, drawn_run}
use Rattle.pv_picks.specs.Verdicts.Grounds.{IsTable}
use Rattle.judge_laws.specs.Drawing.{FitsUses}
use Rattle.judge_laws.specs.Entering.{lazy_entry, drawn_entry}
use Rattle.judge_laws.specs.Numbers.{AreOtherUses}

-- the entry of a use, the lesser argument of `+` and `*` first
abbrev pub operator_for : Operation → Operator
operator_for Plus = operator.Add
operator_for Minus = operator.Sub
operator_for Times = operator.Mul

abbrev pub entry_with : Bool → Operation → ℤ → ℤ → ℤ → Entry
entry_with true o a b z = record { op = operator_for o; left = a; right = b; taken = z }
entry_with false o a b z = record { op = operator_for o; left = b; right = a; taken = z }

abbrev pub entry_for : UsedFor → Entry
entry_for u = entry_with (ordered u.used.0 u.used.1 u.used.2) u.used.0 u.used.1 u.used.2 u.value

abbrev pub table_of : List UsedFor → List Entry
table_of us = map entry_for us

-- uses that differ make a table that is told well and has the value of each of them
abbrev pub TellsUses : Type 0
TellsUses = (us : List UsedFor) → AreOtherUses us → IsTable (table_of us) × FitsUses (table_of us) us

-- the map of a pick for a range: what was read of it, by rising positions
abbrev pub put_in : StepPair → List StepPair → List StepPair
put_in p [] = p ∷ []
put_in p (q ∷ qs) = if int_lt p.at q.at then p ∷ q ∷ qs else q ∷ put_in p qs

abbrev pub map_of : List ReadAs → ℕ → List StepPair
map_of [] n = []
map_of (r ∷ rs) n =
    if nat_eq r.number n then put_in (record { at = r.index; value = r.value }) (map_of rs n) else map_of rs n

-- the picks, with these maps for ranges
abbrev pub picks_with : (ℕ → List StepPair) → List Taken → List Pick
picks_with maps [] = []
picks_with maps (OneNumber z ∷ ts) = Number z ∷ picks_with maps ts
picks_with maps (OneTurn n ∷ ts) = Turn n ∷ picks_with maps ts
picks_with maps (ForRange ∷ ts) = Steps (maps 0) ∷ picks_with (λ n. maps (suc n)) ts

-- so many ranges that there is one for each number that was read
abbrev pub so_many : ℕ → List Taken → List Taken
so_many zero ts = ts
so_many (suc n) ts = ForRange ∷ so_many n ts

abbrev pub enough_for : List ReadAs → List Taken
enough_for [] = []
enough_for (r ∷ rs) = so_many (suc r.number) (enough_for rs)

abbrev pub evidence_from : Outcome Final → Evidence
evidence_from o = record {
  picks = picks_with (map_of o.end.reads) (o.picks ++ enough_for o.end.reads);
  table = table_of o.end.uses;
}

abbrev pub MakesEvidence : Type 0
MakesEvidence = (p : Program) (unit : PvUnit) (values : ℕ → ℤ) (turns : ℕ → ℕ)
    → (lazy_run p unit (evidence_from (drawn_run p unit values turns)) ≡ drawn_run p unit values turns)
    × (lazy_entry p unit (evidence_from (drawn_entry p unit values turns)) ≡ drawn_entry p unit values turns)
