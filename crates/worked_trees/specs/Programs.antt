-- Worked programs become what was worked out apart.
use Rattle.std.specs.Prelude.{◌≡◌}
use Rattle.pv_picks.specs.Elaborating.Programs.{core_of}
use Rattle.worked_programs.specs.Objects as objects
use Rattle.worked_programs.specs.CoreObjects as core_objects
use Rattle.worked_programs.specs.Arrays as arrays
use Rattle.worked_programs.specs.CoreArrays as core_arrays
use Rattle.worked_programs.specs.Threads as threads
use Rattle.worked_programs.specs.CoreThreads as core_threads
use Rattle.worked_programs.specs.Witnesses as witnesses
use Rattle.worked_programs.specs.CoreWitnesses as core_witnesses

abbrev pub ObjectsBecome : Type 0
ObjectsBecome =
    (core_of objects.counter ≡ core_objects.counter)
    × (core_of objects.counter_by_two ≡ core_objects.counter_by_two)
    × (core_of objects.half ≡ core_objects.half)
    × (core_of objects.writers ≡ core_objects.writers)
    × (core_of objects.alias ≡ core_objects.alias)
    × (core_of objects.account ≡ core_objects.account)
    × (core_of objects.account_kept ≡ core_objects.account_kept)
    × (core_of objects.chain ≡ core_objects.chain)
    × (core_of objects.chain_by_two ≡ core_objects.chain_by_two)
    × (core_of objects.sum ≡ core_objects.sum)
    × (core_of objects.grow ≡ core_objects.grow)

abbrev pub ArraysBecome : Type 0
ArraysBecome =
    (core_of arrays.last ≡ core_arrays.last)
    × (core_of arrays.read_wrong ≡ core_arrays.read_wrong)
    × (core_of arrays.read ≡ core_arrays.read)
    × (core_of arrays.fill ≡ core_arrays.fill)

abbrev pub ThreadsBecome : Type 0
ThreadsBecome =
    (core_of threads.unheld_invariant ≡ core_threads.unheld_invariant)
    × (core_of threads.pair_of_two ≡ core_threads.pair_of_two)
    × (core_of threads.pair ≡ core_threads.pair)
    × (core_of threads.twice ≡ core_threads.twice)
    × (core_of threads.members ≡ core_threads.members)
    × (core_of threads.shift_too_far ≡ core_threads.shift_too_far)
    × (core_of threads.shift ≡ core_threads.shift)
    × (core_of threads.copying ≡ core_threads.copying)
    × (core_of threads.copying_unsent ≡ core_threads.copying_unsent)

abbrev pub WitnessesBecome : Type 0
WitnessesBecome =
    (core_of witnesses.handed ≡ core_witnesses.handed)
    × (core_of witnesses.relay ≡ core_witnesses.relay)
    × (core_of witnesses.posted ≡ core_witnesses.posted)
    × (core_of witnesses.list ≡ core_witnesses.list)
    × (core_of witnesses.members_race ≡ core_witnesses.members_race)
    × (core_of witnesses.overwritten ≡ core_witnesses.overwritten)
    × (core_of witnesses.divided ≡ core_witnesses.divided)
