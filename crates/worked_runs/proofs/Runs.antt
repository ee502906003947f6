-- The runs are runs by schedules: what isn't seen by computing alone.
use Rattle.std.proofs.Common.{◌≡◌, ℕ, zero, suc, ◌<◌, ◌≤◌, true, refl, inl, arith}
use Rattle.pv_values.specs.declared.value.Location.TheVariants.{Field}
use Rattle.pv_picks.specs.Machine.Worlds.{Free, Ordered, World, has_ended}
use Rattle.pv_picks.specs.Machine.Starts.{first_world}
use Rattle.pv_picks.specs.Machine.Safety.{Race}
use Rattle.pv_picks.specs.Machine.LoopRuns.{IsLoopRun}
use Rattle.worked_programs.specs.Nodes.{name}
use Rattle.worked_programs.specs.CoreObjects.{writers}
use Rattle.worked_programs.specs.CoreThreads.{copying}
use Rattle.worked_runs.specs.Runs.{at_the_writes, copying_start, freely, in_order, free_order, ordered_order, whole_number}

pub race : Race writers at_the_writes.world
race = record {
  writer = 1;
  other = 2;
  differ = omega arith;
  writer_may = refl;
  other_may = refl;
  location = Field 1 (name 3);
  writes = (whole_number 1, refl);
  touches = inl (whole_number 1, refl);
}

pub both_ended : (w : World) → has_ended w 1 ≡ true → has_ended w 2 ≡ true → (j : ℕ) → (1 ≤ j) × (j < 3) → has_ended w j ≡ true
both_ended w one two zero h = let l : 1 ≤ 0 = h.0 in absurd (omega arith)
both_ended w one two (suc zero) h = one
both_ended w one two (suc (suc zero)) h = two
both_ended w one two (suc (suc (suc j))) h = let l : suc (suc (suc j)) < 3 = h.1 in absurd (omega arith)

lower : (1 ≤ 1) × (1 < 3)
lower = (omega arith, omega arith)

member : (1 ≤ 2) × (2 < 3)
member = (omega arith, omega arith)

pub free_run : IsLoopRun copying (first_world copying_start) 0 Free freely
free_run = record {
  opened = _;
  opens = refl;
  order = free_order;
  members = (member, (member, (member, (lower, (lower, (lower, (lower, (lower, (member, (member, (member, (member, tt))))))))))));
  leads = refl;
  ended = both_ended freely refl refl;
}

pub ordered_run : IsLoopRun copying (first_world copying_start) 0 Ordered in_order
ordered_run = record {
  opened = _;
  opens = refl;
  order = ordered_order;
  members = (lower, (lower, (lower, (lower, (lower, (member, (member, (member, (member, (member, (member, (member, tt))))))))))));
  leads = refl;
  ended = both_ended in_order refl refl;
}
