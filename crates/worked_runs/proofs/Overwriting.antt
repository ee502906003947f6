-- The loop's end depends on the order of its members, so the program doesn't agree on its loops.
use Rattle.std.proofs.Common.{◌≡◌, ℕ, zero, suc, ◌<◌, ◌≤◌, pos, negsuc, Some, [], refl, subst, inl, arith}
use Rattle.std.specs.Prelude.{IsSome, IsTrue}
use Rattle.pv_base.specs.declared.Name.{Name}
use Rattle.pv_values.specs.declared.value.Value.{Value}
use Rattle.pv_values.specs.declared.value.Location.TheVariants.{Field, Cell}
use Rattle.pv_values.specs.Heaps.{value_at, class_of}
use Rattle.pv_values.specs.Typing.{is_number, HoldsOnly, HasKindOf}
use Rattle.pv_picks.specs.Machine.Worlds.{Free, Ordered}
use Rattle.pv_picks.specs.Machine.Starts.{IsStart, field_kind, first_world}
use Rattle.pv_picks.specs.Machine.Safety.{IsReached}
use Rattle.pv_picks.specs.Machine.LoopRuns.{IsLoopRun, AgreesOnLoops}
use Rattle.worked_runs.specs.Building.{integer}
use Rattle.worked_runs.specs.Overwriting.{program, start, last_class, last, loop_end, second_first, in_order}
use Rattle.worked_runs.proofs.Runs.{both_ended}

no_fields : (object : ℕ) (class name : Name) (given : Value) → class_of start.heap object ≡ Some class
    → value_at start.heap (Field object name) ≡ Some given
    → HasKindOf start.heap (field_kind program class name) given
no_fields zero class name given hc hv = absurd (cc)
no_fields (suc zero) class name given hc hv = absurd (cc)
no_fields (suc (suc zero)) class name given hc hv = absurd (cc)
no_fields (suc (suc (suc n))) class name given hc hv = absurd (cc)

numbers_only : (array : ℕ) → HoldsOnly is_number start.heap array
numbers_only zero index given h = absurd (cc)
numbers_only (suc zero) index given h = absurd (cc)
numbers_only (suc (suc zero)) (pos zero) given h = let e : integer 0 ≡ given = cc in
    subst (λ (v : Value). IsTrue (is_number v)) e refl
numbers_only (suc (suc zero)) (pos (suc n)) given h = absurd (cc)
numbers_only (suc (suc zero)) (negsuc n) given h = absurd (cc)
numbers_only (suc (suc (suc n))) index given h = absurd (cc)

complete : (object : ℕ) (class name : Name) → class_of start.heap object ≡ Some class → IsSome (field_kind program class name)
    → IsSome (value_at start.heap (Field object name))
complete zero class name hc hk = absurd (cc)
complete (suc zero) class name hc hk =
    let e : class ≡ last_class = cc in
    let k : IsSome (field_kind program last_class name) = subst (λ (c : Name). IsSome (field_kind program c name)) e hk in
    absurd (cc)
complete (suc (suc zero)) class name hc hk = absurd (cc)
complete (suc (suc (suc n))) class name hc hk = absurd (cc)

start_is_one : IsStart program start
start_is_one = record {
  typed = record { fields = no_fields; elements = λ array. inl (numbers_only array); complete = complete };
  object = refl;
  name = last;
  declared = refl;
  arguments = ((refl, numbers_only 2), tt);
  plain = refl;
  met = refl;
  fit = λ spot. omega arith;
}

free_run : IsLoopRun program (first_world start) 0 Free (loop_end Free second_first)
free_run = record {
  opened = _;
  opens = refl;
  order = second_first;
  members = (member, (member, (lower, (lower, tt))));
  leads = refl;
  ended = both_ended (loop_end Free second_first) refl refl;
}
  where
    member : (1 ≤ 2) × (2 < 3)
    member = (omega arith, omega arith)

    lower : (1 ≤ 1) × (1 < 3)
    lower = (omega arith, omega arith)

ordered_run : IsLoopRun program (first_world start) 0 Ordered (loop_end Ordered in_order)
ordered_run = record {
  opened = _;
  opens = refl;
  order = in_order;
  members = (lower, (lower, (member, (member, tt))));
  leads = refl;
  ended = both_ended (loop_end Ordered in_order) refl refl;
}
  where
    member : (1 ≤ 2) × (2 < 3)
    member = (omega arith, omega arith)

    lower : (1 ≤ 1) × (1 < 3)
    lower = (omega arith, omega arith)

pub disagrees : AgreesOnLoops program → ⊥
disagrees agrees =
    let here : IsReached program (first_world start) =
    record { start = start; starts = start_is_one; events = []; leads = refl } in
    let ends = agrees (first_world start) here 0 refl (loop_end Free second_first) free_run in
    let same = (ends.each (loop_end Ordered in_order) ordered_run).values (Cell 2 (pos 0)) in
    let one : Some (integer 1) ≡ Some (integer 0) = same in cc
