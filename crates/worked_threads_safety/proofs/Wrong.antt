-- Members that race, and a loop whose end depends on the order of its members: neither program is verified.
use Rattle.std.proofs.Common.{◌≡◌, ◌<◌, ◌≤◌, pos, Some, [], ◌∷◌, refl, subst, inl, inr, arith}
use Rattle.pv_values.specs.declared.value.Value.TheVariants.{Number}
use Rattle.pv_values.specs.declared.value.Location.TheVariants.{Field}
use Rattle.pv_picks.specs.Machine.Worlds.{Free, Ordered}
use Rattle.pv_picks.specs.Machine.Starts.{IsStart, first_world}
use Rattle.pv_picks.specs.Machine.Safety.{IsReached, IsSafe}
use Rattle.pv_picks.specs.Machine.LoopRuns.{IsLoopRun, AgreesOnLoops}
use Rattle.worked_programs.specs.Nodes.{name as named}
use Rattle.worked_programs.specs.Witnesses as trees
use Rattle.worked_programs.specs.CoreWitnesses as cores
use Rattle.worked_trees.proofs.Witnesses.{witnesses_become}
use Rattle.worked_runs.specs.Schedules.{event}
use Rattle.worked_runs.proofs.Runs.{both_ended}
use Rattle.machine_loops.proofs.Programs.{passed}
use Rattle.soundness.proofs.Runs.{safe}
use Rattle.worked_threads_safety.specs.Wrong.{from_zero, at_the_writes, loop_end, MembersRace, MembersAreNotSafe, MembersAreNotVerified, OverwrittenDisagrees, OverwrittenIsNotVerified}
use Rattle.worked_threads_safety.proofs.Starts.{one_typed}
use Rattle.worked_threads_safety.proofs.MembersRaceFormed.{members_race_formed}
use Rattle.worked_threads_safety.proofs.OverwrittenFormed.{overwritten_formed}

race_starts : IsStart cores.members_race (from_zero cores.members_race)
race_starts = record {
  typed = one_typed cores.members_race (named 0) (named 1) refl (λ n h. h);
  object = refl;
  name = named 2;
  declared = refl;
  arguments = tt;
  plain = refl;
  met = refl;
  fit = λ spot. omega arith;
}

pub members_race : MembersRace
members_race = record {
  writer = 1;
  other = 2;
  differ = omega arith;
  writer_may = refl;
  other_may = refl;
  location = Field 1 (named 1);
  writes = (Number (pos 0), refl);
  touches = inl (Number (pos 1), refl);
}

pub members_unsafe : MembersAreNotSafe
members_unsafe is =
    is at_the_writes
    (record { start = from_zero cores.members_race; starts = race_starts; events = event Free 0 ∷ []; leads = refl })
    (inr members_race)

pub members_refused : MembersAreNotVerified
members_refused verified =
    members_unsafe (subst IsSafe witnesses_become.4 (passed safe trees.members_race members_race_formed verified).sound.0)

loop_starts : IsStart cores.overwritten (from_zero cores.overwritten)
loop_starts = record {
  typed = one_typed cores.overwritten (named 0) (named 1) refl (λ n h. h);
  object = refl;
  name = named 2;
  declared = refl;
  arguments = tt;
  plain = refl;
  met = refl;
  fit = λ spot. omega arith;
}

lower : (1 ≤ 1) × (1 < 3)
lower = (omega arith, omega arith)

upper : (1 ≤ 2) × (2 < 3)
upper = (omega arith, omega arith)

free_run : IsLoopRun cores.overwritten (first_world (from_zero cores.overwritten)) 0 Free (loop_end Free (2 ∷ 2 ∷ 1 ∷ 1 ∷ []))
free_run = record {
  opened = _;
  opens = refl;
  order = 2 ∷ 2 ∷ 1 ∷ 1 ∷ [];
  members = (upper, (upper, (lower, (lower, tt))));
  leads = refl;
  ended = both_ended (loop_end Free (2 ∷ 2 ∷ 1 ∷ 1 ∷ [])) refl refl;
}

ordered_run : IsLoopRun cores.overwritten (first_world (from_zero cores.overwritten)) 0 Ordered
    (loop_end Ordered (1 ∷ 1 ∷ 2 ∷ 2 ∷ []))
ordered_run = record {
  opened = _;
  opens = refl;
  order = 1 ∷ 1 ∷ 2 ∷ 2 ∷ [];
  members = (lower, (lower, (upper, (upper, tt))));
  leads = refl;
  ended = both_ended (loop_end Ordered (1 ∷ 1 ∷ 2 ∷ 2 ∷ [])) refl refl;
}

pub disagrees : OverwrittenDisagrees
disagrees agrees =
    let here : IsReached cores.overwritten (first_world (from_zero cores.overwritten)) =
    record { start = from_zero cores.overwritten; starts = loop_starts; events = []; leads = refl } in
    let ends =
    agrees (first_world (from_zero cores.overwritten)) here 0 refl (loop_end Free (2 ∷ 2 ∷ 1 ∷ 1 ∷ [])) free_run in
    let same = (ends.each (loop_end Ordered (1 ∷ 1 ∷ 2 ∷ 2 ∷ [])) ordered_run).values (Field 1 (named 1)) in
    let one : Some (Number (pos 1)) ≡ Some (Number (pos 0)) = same in cc

pub overwritten_refused : OverwrittenIsNotVerified
overwritten_refused verified =
    disagrees (subst AgreesOnLoops witnesses_become.5 (passed safe trees.overwritten overwritten_formed verified).sound.1)
