-- The verified programs start and come to their ends.
use Rattle.std.proofs.Common.{◌≤◌, Bool, true, false, if◌then◌else◌, refl, arith}
use Rattle.pv_fraction.specs.Amounts.{whole}
use Rattle.pv_values.specs.declared.value.Location.TheVariants.{Field}
use Rattle.pv_values.specs.Heaps.{same_location}
use Rattle.pv_picks.specs.Machine.Starts.{IsStart}
use Rattle.worked_programs.specs.Nodes.{name as named}
use Rattle.worked_programs.specs.CoreWitnesses.{divided, handed, relay, posted, list}
use Rattle.worked_threads_safety.specs.Wrong.{from_zero}
use Rattle.worked_threads_safety.specs.Runs.{from_main, LockIsHandedOn, FieldIsRelayed, FieldIsSent, FieldIsDivided, ListIsGoneThrough}
use Rattle.worked_threads_safety.proofs.Starts.{one_typed, none_typed}

no_more : (b : Bool) → (if b then whole else 0) ≤ whole
no_more true = omega arith
no_more false = omega arith

handed_starts : IsStart handed (from_main handed 2 3)
handed_starts = record {
  typed = none_typed handed (named 2) (λ n h. absurd (cc h));
  object = refl;
  name = named 3;
  declared = refl;
  arguments = tt;
  plain = refl;
  met = refl;
  fit = λ spot. omega arith;
}

list_starts : IsStart list (from_main list 5 6)
list_starts = record {
  typed = none_typed list (named 5) (λ n h. absurd (cc h));
  object = refl;
  name = named 6;
  declared = refl;
  arguments = tt;
  plain = refl;
  met = refl;
  fit = λ spot. omega arith;
}

relay_starts : IsStart relay (from_zero relay)
relay_starts = record {
  typed = one_typed relay (named 0) (named 1) refl (λ n h. h);
  object = refl;
  name = named 2;
  declared = refl;
  arguments = tt;
  plain = refl;
  met = refl;
  fit = λ spot. no_more (same_location (Field 1 (named 1)) spot);
}

posted_starts : IsStart posted (from_zero posted)
posted_starts = record {
  typed = one_typed posted (named 0) (named 1) refl (λ n h. h);
  object = refl;
  name = named 2;
  declared = refl;
  arguments = tt;
  plain = refl;
  met = refl;
  fit = λ spot. no_more (same_location (Field 1 (named 1)) spot);
}

divided_starts : IsStart divided (from_zero divided)
divided_starts = record {
  typed = one_typed divided (named 0) (named 1) refl (λ n h. h);
  object = refl;
  name = named 2;
  declared = refl;
  arguments = tt;
  plain = refl;
  met = refl;
  fit = λ spot. no_more (same_location (Field 1 (named 1)) spot);
}

pub divided_runs : FieldIsDivided
divided_runs = (divided_starts, (refl, refl))

pub handed_runs : LockIsHandedOn
handed_runs = (handed_starts, refl, refl, (refl, refl))

pub relay_runs : FieldIsRelayed
relay_runs = (relay_starts, (refl, refl))

pub posted_runs : FieldIsSent
posted_runs = (posted_starts, (refl, refl))

pub list_runs : ListIsGoneThrough
list_runs = (list_starts, (refl, refl))
