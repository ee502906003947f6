-- What the judge comes to on worked programs: each case is a run of a unit on some picks and a table.
use Rattle.std.specs.Prelude.{ℕ, ℤ, pos, negsuc, List, [], ◌∷◌, map, ◌≡◌}
use Rattle.pv_ast.specs.declared.Operator.{Operator}
use Rattle.pv_ast.specs.declared.Operator.TheVariants as operator
use Rattle.pv_picks.specs.Plain.Core.{Program}
use Rattle.pv_picks.specs.declared.check.Check.TheVariants as check
use Rattle.pv_picks.specs.declared.evidence.Pick.{Pick}
use Rattle.pv_picks.specs.declared.evidence.Pick.TheVariants.{Number, Turn, Steps}
use Rattle.pv_picks.specs.declared.evidence.StepPair.{StepPair}
use Rattle.pv_picks.specs.declared.evidence.Entry.{Entry}
use Rattle.pv_picks.specs.declared.unit.PvUnit.{PvUnit}
use Rattle.pv_picks.specs.declared.unit.Part.TheVariants as part
use Rattle.pv_picks.specs.Judge.Runs.{End, Finished, Blocked, Failed, judge}
use Rattle.pv_picks.specs.Lazy.Runs.{LazyEnd, Ends, Unfit, lazy_run, pattern_of, values_of}
use Rattle.worked_programs.specs.Nodes.{at}
use Rattle.worked_programs.specs.CoreObjects.{counter, counter_by_two, half, alias, account, account_kept, chain, chain_by_two, sum}
use Rattle.worked_programs.specs.CoreArrays.{last, read_wrong, read, fill}
use Rattle.worked_programs.specs.CoreThreads.{unheld_invariant, pair_of_two, pair, twice, members, shift_too_far, shift, copying, copying_unsent}

-- the member at a place of the class at a place, and the lock invariant of that class
abbrev pub member_of : ℕ → ℕ → PvUnit
member_of class place = record { class = class; part = part.Member place }

abbrev pub invariant_of : ℕ → PvUnit
invariant_of class = record { class = class; part = part.LockInvariant }

abbrev pub number : ℤ → Pick
number z = Number z

abbrev pub turn : ℕ → Pick
turn n = Turn n

abbrev pub pair_at : ℤ × ℤ → StepPair
pair_at p = record { at = p.0; value = p.1 }

-- values from positions on
abbrev pub steps : List (ℤ × ℤ) → Pick
steps pairs = Steps (map pair_at pairs)

abbrev pub entry : Operator → ℤ → ℤ → ℤ → Entry
entry op left right taken = record { op = op; left = left; right = right; taken = taken }

-- the unit's run on these picks and this table ends so
abbrev pub Judged : Program → PvUnit → List Pick → List Entry → End → Type 0
Judged p unit picks table end = judge p unit (record { picks = picks; table = table }) ≡ end

-- the lazy run on them ends so, and takes these values
abbrev pub RunsLazily : Program → PvUnit → List Pick → List Entry → LazyEnd → Type 0
RunsLazily p unit picks table end = (lazy_run p unit (record { picks = picks; table = table })).end.end ≡ end

abbrev pub Takes : Program → PvUnit → List Pick → List Entry → List ℤ → Type 0
Takes p unit picks table values = values_of p unit (record { picks = picks; table = table }) ≡ values

-- the lazy runs on two lists of picks show one pattern
abbrev pub ShowsAlike : Program → PvUnit → List Pick → List Pick → Type 0
ShowsAlike p unit one other =
    pattern_of p unit (record { picks = one; table = [] }) ≡ pattern_of p unit (record { picks = other; table = [] })

-- a field that is counted on, and the same by two where one is promised: the body and the postcondition go; the postcondition is
-- taken in turn `frame`, with the value that it promises; another value contradicts it; no object is null; a pick is missing; the
-- postcondition isn't met; nor on other numbers; its turn `frame` goes all the same
abbrev pub Counting : Type 0
Counting =
    (Judged counter (member_of 0 1) (number (pos 1) ∷ number (pos 41) ∷ turn 0 ∷ []) [] Finished)
    × (Judged counter (member_of 0 1) (number (pos 1) ∷ number (pos 41) ∷ turn 1 ∷ number (pos 42) ∷ []) [] Finished)
    × (Judged counter (member_of 0 1) (number (pos 1) ∷ number (pos 41) ∷ turn 1 ∷ number (pos 43) ∷ []) [] Blocked)
    × (Judged counter (member_of 0 1) (number (pos 0) ∷ number (pos 41) ∷ turn 0 ∷ []) [] Blocked)
    × (Judged counter (member_of 0 1) (number (pos 1) ∷ []) [] Blocked)
    × (Judged counter_by_two (member_of 0 1) (number (pos 1) ∷ number (pos 0) ∷ turn 0 ∷ []) [] (Failed check.Ensures (at 80 96)))
    × (Judged counter_by_two (member_of 0 1) (number (pos 7) ∷ number (negsuc 2) ∷ turn 0 ∷ []) []
    (Failed check.Ensures (at 80 96)))
    × (Judged counter_by_two (member_of 0 1) (number (pos 1) ∷ number (pos 41) ∷ turn 1 ∷ number (pos 42) ∷ []) [] Finished)

-- a write with half a permission: it needs the whole; no turn `past` is offered
abbrev pub Writing : Type 0
Writing =
    (Judged half (member_of 0 1) (number (pos 1) ∷ number (pos 0) ∷ turn 0 ∷ []) [] (Failed check.WritePermission (at 66 67)))
    × (Judged half (member_of 0 1) (number (pos 1) ∷ number (pos 0) ∷ turn 2 ∷ []) [] Blocked)

-- two parameters that may be one object: where they are one, a write to the one is seen through the other; where they are two,
-- the branch isn't taken; one value that isn't 3 blocks
abbrev pub Aliasing : Type 0
Aliasing =
    (Judged alias (member_of 1 0) (number (pos 1) ∷ number (pos 2) ∷ number (pos 2) ∷ number (pos 3) ∷ turn 0 ∷ []) []
    (Failed check.Assert (at 153 161)))
    × (Judged alias (member_of 1 0) (number (pos 1) ∷ number (pos 2) ∷ number (pos 3) ∷ number (pos 7) ∷ number (pos 3) ∷ turn 0
    ∷ []) [] Finished)
    × (Judged alias (member_of 1 0) (number (pos 1) ∷ number (pos 2) ∷ number (pos 2) ∷ number (pos 4) ∷ turn 0 ∷ []) [] Blocked)

-- lock invariants: an invariant that reads what it doesn't hold; even on null; an invariant that holds what it reads; values that
-- break it block; an invariant that isn't met at unlock; one that is; its turn `frame`; a new object is committed and locked;
-- locked again, the run blocks
abbrev pub Invariants : Type 0
Invariants =
    (Judged unheld_invariant (invariant_of 0) (number (pos 1) ∷ []) [] (Failed check.Frame (at 15 16)))
    × (Judged unheld_invariant (invariant_of 0) (number (pos 0) ∷ []) [] (Failed check.Frame (at 15 16)))
    × (Judged pair (invariant_of 0) (number (pos 1) ∷ number (pos 4) ∷ number (pos 4) ∷ []) [] Finished)
    × (Judged pair (invariant_of 0) (number (pos 1) ∷ number (pos 4) ∷ number (pos 5) ∷ []) [] Blocked)
    × (Judged pair_of_two (member_of 0 2) (number (pos 1) ∷ turn 0 ∷ number (pos 8) ∷ number (pos 8) ∷ []) []
    (Failed check.LockInvariant (at 173 185)))
    × (Judged pair (member_of 0 2) (number (pos 1) ∷ turn 0 ∷ number (pos 8) ∷ number (pos 8) ∷ []) [] Finished)
    × (Judged pair (member_of 0 2) (number (pos 1) ∷ turn 1 ∷ []) [] Finished)
    × (Judged twice (member_of 1 0) (number (pos 1) ∷ turn 0 ∷ number (pos 2) ∷ number (pos 3) ∷ number (pos 3) ∷ []) [] Blocked)

-- members that hand elements on at a barrier: the last member has none to gain; with a guard it gains none; the barrier's turn
-- `frame`; behind the barrier; behind the block; an empty range has no member
abbrev pub Shifting : Type 0
Shifting =
    (Judged shift_too_far (member_of 0 0) (number (pos 1) ∷ number (pos 1) ∷ number (pos 2) ∷ number (pos 2) ∷ steps [] ∷ turn 0
    ∷ turn 0 ∷ number (pos 0) ∷ number (pos 0) ∷ turn 0 ∷ steps [] ∷ []) [] (Failed check.BarrierEnsures (at 261 282)))
    × (Judged shift (member_of 0 0) (number (pos 1) ∷ number (pos 1) ∷ number (pos 2) ∷ number (pos 2) ∷ steps [] ∷ turn 0
    ∷ turn 0 ∷ number (pos 0) ∷ number (pos 0) ∷ turn 0 ∷ steps [] ∷ []) [] Finished)
    × (Judged shift (member_of 0 0) (number (pos 1) ∷ number (pos 1) ∷ number (pos 2) ∷ number (pos 2) ∷ steps [] ∷ turn 0
    ∷ turn 0 ∷ number (pos 0) ∷ number (pos 0) ∷ turn 1 ∷ number (pos 1) ∷ number (pos 0) ∷ number (pos 0) ∷ []) [] Finished)
    × (Judged shift (member_of 0 0) (number (pos 1) ∷ number (pos 1) ∷ number (pos 2) ∷ number (pos 2) ∷ steps [] ∷ turn 0
    ∷ turn 0 ∷ number (pos 0) ∷ number (pos 0) ∷ turn 2 ∷ number (pos 5) ∷ []) [] Finished)
    × (Judged shift (member_of 0 0) (number (pos 1) ∷ number (pos 1) ∷ number (pos 2) ∷ number (pos 2) ∷ steps [] ∷ turn 0
    ∷ turn 2 ∷ []) [] Finished)
    × (Judged shift (member_of 0 0) (number (pos 1) ∷ number (pos 1) ∷ number (pos 0) ∷ turn 0 ∷ turn 0 ∷ number (pos 0)
    ∷ []) [] Blocked)

-- a counted loop with a message: without the message an element of another member is read; with it the read goes; the first
-- member sends and receives nothing; the message's turn `frame`; behind the loop
abbrev pub Copying : Type 0
Copying =
    (Judged copying_unsent (member_of 0 0) (number (pos 1) ∷ number (pos 1) ∷ number (pos 2) ∷ number (pos 3) ∷ number (pos 2)
    ∷ number (pos 2) ∷ steps [] ∷ number (pos 2) ∷ steps [] ∷ number (pos 2) ∷ steps [] ∷ turn 0 ∷ turn 0 ∷ number (pos 1)
    ∷ number (pos 0) ∷ number (pos 0) ∷ number (pos 0) ∷ turn 2 ∷ []) [] (Failed check.ReadPermission (at 349 357)))
    × (Judged copying (member_of 0 0) (number (pos 1) ∷ number (pos 1) ∷ number (pos 2) ∷ number (pos 3) ∷ number (pos 2)
    ∷ number (pos 2) ∷ steps [] ∷ number (pos 2) ∷ steps [] ∷ number (pos 2) ∷ steps [] ∷ turn 0 ∷ turn 0 ∷ number (pos 1)
    ∷ number (pos 0) ∷ number (pos 0) ∷ number (pos 0) ∷ turn 2 ∷ number (pos 9) ∷ []) [] Finished)
    × (Judged copying (member_of 0 0) (number (pos 1) ∷ number (pos 1) ∷ number (pos 2) ∷ number (pos 3) ∷ number (pos 2)
    ∷ number (pos 2) ∷ steps [] ∷ number (pos 2) ∷ steps [] ∷ number (pos 2) ∷ steps [] ∷ turn 0 ∷ turn 0 ∷ number (pos 0)
    ∷ number (pos 0) ∷ number (pos 0) ∷ number (pos 0) ∷ turn 2 ∷ []) [] Finished)
    × (Judged copying (member_of 0 0) (number (pos 1) ∷ number (pos 1) ∷ number (pos 2) ∷ number (pos 3) ∷ number (pos 2)
    ∷ number (pos 2) ∷ steps [] ∷ number (pos 2) ∷ steps [] ∷ number (pos 2) ∷ steps [] ∷ turn 0 ∷ turn 0 ∷ number (pos 1)
    ∷ number (pos 0) ∷ number (pos 0) ∷ number (pos 0) ∷ turn 1 ∷ number (pos 4) ∷ []) [] Finished)
    × (Judged copying (member_of 0 0) (number (pos 1) ∷ number (pos 1) ∷ number (pos 2) ∷ number (pos 3) ∷ number (pos 2)
    ∷ number (pos 2) ∷ steps [] ∷ number (pos 2) ∷ steps [] ∷ number (pos 2) ∷ steps [] ∷ turn 0 ∷ turn 2 ∷ []) [] Finished)

-- sums whose values come from a table: two uses of one sum have one value; whatever that is; a false table breaks what arithmetic
-- keeps; without it the assert is met; a precondition that isn't met
abbrev pub Adding : Type 0
Adding =
    (Judged sum (member_of 0 0) (number (pos 1) ∷ number (pos 1) ∷ number (pos 2) ∷ turn 0 ∷ []) [] Finished)
    × (Judged sum (member_of 0 0) (number (pos 1) ∷ number (pos 0) ∷ number (pos 0) ∷ turn 0 ∷ [])
    (entry operator.Add (pos 0) (pos 0) (pos 1) ∷ []) Finished)
    × (Judged sum (member_of 0 1) (number (pos 1) ∷ number (pos 0) ∷ number (pos 0) ∷ turn 0 ∷ [])
    (entry operator.Add (pos 0) (pos 0) (pos 1) ∷ []) (Failed check.Assert (at 163 169)))
    × (Judged sum (member_of 0 1) (number (pos 1) ∷ number (pos 0) ∷ number (pos 0) ∷ turn 0 ∷ []) [] Finished)
    × (Judged sum (member_of 0 1) (number (pos 1) ∷ number (pos 0) ∷ number (pos 1) ∷ turn 0 ∷ []) [] Blocked)

-- a fact on every element of a range: the last element is 0 and not 1; also where the mark is elsewhere; 0 it is; an element that
-- isn't 0 contradicts the fact
abbrev pub Reading : Type 0
Reading =
    (Judged read_wrong (member_of 0 0) (number (pos 1) ∷ number (pos 1) ∷ number (pos 1) ∷ number (pos 1) ∷ steps []
    ∷ number (pos 0) ∷ turn 0 ∷ []) [] (Failed check.Assert (at 163 176)))
    × (Judged read_wrong (member_of 0 0) (number (pos 1) ∷ number (pos 1) ∷ number (pos 3) ∷ number (pos 3) ∷ steps []
    ∷ number (pos 7) ∷ turn 0 ∷ []) [] (Failed check.Assert (at 163 176)))
    × (Judged read (member_of 0 0) (number (pos 1) ∷ number (pos 1) ∷ number (pos 1) ∷ number (pos 1) ∷ steps [] ∷ number (pos 0)
    ∷ turn 0 ∷ []) [] Finished)
    × (Judged read (member_of 0 0) (number (pos 1) ∷ number (pos 1) ∷ number (pos 3) ∷ number (pos 3)
    ∷ steps (((pos 1), (pos 5)) ∷ []) ∷ number (pos 0) ∷ turn 0 ∷ []) [] Blocked)

-- a loop whose invariant keeps too little for the call in it, or enough: one call; the call's precondition isn't met in the loop;
-- with the lower bound kept that start is none; a turn of the loop; behind the loop
abbrev pub Keeping : Type 0
Keeping =
    (Judged account (member_of 0 1) (number (pos 1) ∷ number (pos 3) ∷ number (pos 5) ∷ turn 0 ∷ []) [] Finished)
    × (Judged account (member_of 0 2) (number (pos 1) ∷ number (pos 0) ∷ turn 0 ∷ turn 0 ∷ number (negsuc 0) ∷ number (negsuc 0)
    ∷ []) [] (Failed check.Requires (at 316 323)))
    × (Judged account_kept (member_of 0 2) (number (pos 1) ∷ number (pos 0) ∷ turn 0 ∷ turn 0 ∷ number (negsuc 0)
    ∷ number (negsuc 0) ∷ []) [] Blocked)
    × (Judged account_kept (member_of 0 2) (number (pos 1) ∷ number (pos 0) ∷ turn 0 ∷ turn 0 ∷ number (pos 2) ∷ number (pos 2)
    ∷ number (pos 3) ∷ []) [] Finished)
    × (Judged account_kept (member_of 0 2) (number (pos 1) ∷ number (pos 0) ∷ turn 0 ∷ turn 2 ∷ number (pos 5) ∷ number (pos 5)
    ∷ []) [] Finished)

-- a predicate that is unfolded and folded: the predicate by itself; unfolded, raised by one, folded; raised by two it can't be
-- folded; its turn `frame`
abbrev pub Folding : Type 0
Folding =
    (Judged chain (member_of 0 1) (number (pos 1) ∷ number (pos 7) ∷ number (pos 7) ∷ []) [] Finished)
    × (Judged chain (member_of 0 2) (number (pos 1) ∷ turn 0 ∷ number (pos 1) ∷ []) [] Finished)
    × (Judged chain_by_two (member_of 0 2) (number (pos 1) ∷ turn 0 ∷ number (pos 1) ∷ []) [] (Failed check.Fold (at 161 173)))
    × (Judged chain (member_of 0 2) (number (pos 1) ∷ turn 1 ∷ []) [] Finished)

-- elements that members write, and a range that is split: an empty range; a range that is kept; its last element is written; each
-- member's write; behind the block each element is 7; a worker fills its half, turn by turn
abbrev pub Filling : Type 0
Filling =
    (Judged last (member_of 0 0) (number (pos 1) ∷ number (pos 1) ∷ number (pos 0) ∷ turn 0 ∷ []) [] Finished)
    × (Judged last (member_of 0 0) (number (pos 1) ∷ number (pos 1) ∷ number (pos 3) ∷ number (pos 3) ∷ steps [] ∷ turn 0 ∷ []) []
    Finished)
    × (Judged last (member_of 0 1) (number (pos 1) ∷ number (pos 1) ∷ number (pos 3) ∷ number (pos 3) ∷ steps [] ∷ turn 0 ∷ []) []
    Finished)
    × (Judged members (member_of 0 0) (number (pos 1) ∷ number (pos 1) ∷ number (pos 4) ∷ number (pos 4) ∷ steps [] ∷ turn 0
    ∷ turn 0 ∷ number (pos 2) ∷ number (pos 0) ∷ []) [] Finished)
    × (Judged members (member_of 0 0) (number (pos 1) ∷ number (pos 1) ∷ number (pos 2) ∷ number (pos 2) ∷ steps [] ∷ turn 0
    ∷ turn 2 ∷ steps (((pos 0), (pos 7)) ∷ []) ∷ number (pos 0) ∷ number (pos 1) ∷ []) [] Finished)
    × (Judged fill (member_of 0 3) (number (pos 5) ∷ number (pos 1) ∷ number (pos 0) ∷ number (pos 2) ∷ number (pos 2) ∷ steps []
    ∷ turn 0 ∷ turn 0 ∷ number (pos 1) ∷ number (pos 1) ∷ number (pos 0) ∷ number (pos 2) ∷ steps (((pos 0), (pos 1)) ∷ [])
    ∷ number (pos 0) ∷ number (pos 1) ∷ []) [] Finished)

-- patterns of evidence on two parameters that may be one object: numbers that compare alike show one pattern; its end; its
-- values; the end of the other; a missing pick gives no pattern; nor does a negative number in the place of a reference; nor a
-- turn above 2
abbrev pub Showing : Type 0
Showing =
    (ShowsAlike alias (member_of 1 0) (number (pos 1) ∷ number (pos 2) ∷ number (pos 2) ∷ number (pos 3) ∷ turn 0 ∷ [])
    (number (pos 5) ∷ number (pos 7) ∷ number (pos 7) ∷ number (pos 3) ∷ turn 0 ∷ []))
    × (RunsLazily alias (member_of 1 0) (number (pos 1) ∷ number (pos 2) ∷ number (pos 2) ∷ number (pos 3) ∷ turn 0 ∷ []) []
    (Ends (Failed check.Assert (at 153 161))))
    × (Takes alias (member_of 1 0) (number (pos 1) ∷ number (pos 2) ∷ number (pos 2) ∷ number (pos 3) ∷ turn 0 ∷ []) []
    ((pos 1) ∷ (pos 2) ∷ (pos 2) ∷ (pos 3) ∷ []))
    × (RunsLazily alias (member_of 1 0) (number (pos 1) ∷ number (pos 2) ∷ number (pos 3) ∷ number (pos 7) ∷ number (pos 3)
    ∷ turn 0 ∷ []) [] (Ends Finished))
    × (RunsLazily alias (member_of 1 0) (number (pos 1) ∷ number (pos 2) ∷ number (pos 2) ∷ []) [] Unfit)
    × (RunsLazily alias (member_of 1 0) (number (negsuc 0) ∷ number (pos 2) ∷ number (pos 2) ∷ number (pos 3) ∷ turn 0
    ∷ []) [] Unfit)
    × (RunsLazily alias (member_of 1 0) (number (pos 1) ∷ number (pos 2) ∷ number (pos 2) ∷ number (pos 3) ∷ turn 3
    ∷ []) [] Unfit)

-- a fact that is tested at named positions: the length of a range shows nothing; all its named elements are 0; a false test at
-- the mark's end; a false test where the last element is read; an element that isn't named isn't tested; where the judge blocks;
-- an element is a value where it is first read; a use of an operation is a value once
abbrev pub Testing : Type 0
Testing =
    (ShowsAlike read (member_of 0 0) (number (pos 1) ∷ number (pos 1) ∷ number (pos 4) ∷ number (pos 4) ∷ steps []
    ∷ number (pos 1) ∷ turn 0 ∷ []) (number (pos 1) ∷ number (pos 1) ∷ number (pos 9) ∷ number (pos 9) ∷ steps [] ∷ number (pos 1)
    ∷ turn 0 ∷ []))
    × (RunsLazily read (member_of 0 0) (number (pos 1) ∷ number (pos 1) ∷ number (pos 3) ∷ number (pos 3) ∷ steps []
    ∷ number (pos 1) ∷ turn 0 ∷ []) [] (Ends Finished))
    × (RunsLazily read (member_of 0 0) (number (pos 1) ∷ number (pos 1) ∷ number (pos 5) ∷ number (pos 5)
    ∷ steps (((pos 1), (pos 5)) ∷ []) ∷ number (pos 0) ∷ turn 0 ∷ []) [] (Ends Blocked))
    × (RunsLazily read (member_of 0 0) (number (pos 1) ∷ number (pos 1) ∷ number (pos 5) ∷ number (pos 5)
    ∷ steps (((pos 4), (pos 5)) ∷ []) ∷ number (pos 0) ∷ turn 0 ∷ []) [] (Ends Blocked))
    × (RunsLazily read (member_of 0 0) (number (pos 1) ∷ number (pos 1) ∷ number (pos 5) ∷ number (pos 5)
    ∷ steps (((pos 2), (pos 5)) ∷ ((pos 3), (pos 0)) ∷ []) ∷ number (pos 0) ∷ turn 0 ∷ []) [] (Ends Finished))
    × (Judged read (member_of 0 0) (number (pos 1) ∷ number (pos 1) ∷ number (pos 5) ∷ number (pos 5)
    ∷ steps (((pos 2), (pos 5)) ∷ ((pos 3), (pos 0)) ∷ []) ∷ number (pos 0) ∷ turn 0 ∷ []) [] Blocked)
    × (Takes read (member_of 0 0) (number (pos 1) ∷ number (pos 1) ∷ number (pos 3) ∷ number (pos 3) ∷ steps [] ∷ number (pos 1)
    ∷ turn 0 ∷ []) [] ((pos 1) ∷ (pos 1) ∷ (pos 3) ∷ (pos 3) ∷ (pos 1) ∷ (pos 0) ∷ (pos 0) ∷ (pos 0) ∷ []))
    × (Takes sum (member_of 0 0) (number (pos 1) ∷ number (pos 2) ∷ number (pos 5) ∷ turn 0 ∷ []) []
    ((pos 1) ∷ (pos 2) ∷ (pos 5) ∷ (pos 7) ∷ []))
