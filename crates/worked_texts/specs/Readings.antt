-- The reader's definition reads the tokens of worked programs as their trees, with 64 constructs open at once at most.
use Rattle.std.specs.Prelude.{◌≡◌, None, []}
use Rattle.pv_reading.specs.Reading.{Good}
use Rattle.pv_parser.specs.Reading.{program}
use Rattle.worked_programs.specs.Objects as objects
use Rattle.worked_texts.specs.TokensObjects as tokens_of_objects
use Rattle.worked_programs.specs.Arrays as arrays
use Rattle.worked_texts.specs.TokensArrays as tokens_of_arrays
use Rattle.worked_programs.specs.Threads as threads
use Rattle.worked_texts.specs.TokensThreads as tokens_of_threads
use Rattle.worked_programs.specs.Witnesses as witnesses
use Rattle.worked_texts.specs.TokensWitnesses as tokens_of_witnesses

abbrev pub ObjectsRead : Type 0
ObjectsRead =
    (program 64 None tokens_of_objects.counter ≡ Good objects.counter [])
    × (program 64 None tokens_of_objects.counter_by_two ≡ Good objects.counter_by_two [])
    × (program 64 None tokens_of_objects.half ≡ Good objects.half [])
    × (program 64 None tokens_of_objects.writers ≡ Good objects.writers [])
    × (program 64 None tokens_of_objects.alias ≡ Good objects.alias [])
    × (program 64 None tokens_of_objects.account ≡ Good objects.account [])
    × (program 64 None tokens_of_objects.account_kept ≡ Good objects.account_kept [])
    × (program 64 None tokens_of_objects.chain ≡ Good objects.chain [])
    × (program 64 None tokens_of_objects.chain_by_two ≡ Good objects.chain_by_two [])
    × (program 64 None tokens_of_objects.sum ≡ Good objects.sum [])
    × (program 64 None tokens_of_objects.grow ≡ Good objects.grow [])

abbrev pub ArraysRead : Type 0
ArraysRead =
    (program 64 None tokens_of_arrays.last ≡ Good arrays.last [])
    × (program 64 None tokens_of_arrays.read_wrong ≡ Good arrays.read_wrong [])
    × (program 64 None tokens_of_arrays.read ≡ Good arrays.read [])
    × (program 64 None tokens_of_arrays.fill ≡ Good arrays.fill [])

abbrev pub ThreadsRead : Type 0
ThreadsRead =
    (program 64 None tokens_of_threads.unheld_invariant ≡ Good threads.unheld_invariant [])
    × (program 64 None tokens_of_threads.pair_of_two ≡ Good threads.pair_of_two [])
    × (program 64 None tokens_of_threads.pair ≡ Good threads.pair [])
    × (program 64 None tokens_of_threads.twice ≡ Good threads.twice [])
    × (program 64 None tokens_of_threads.members ≡ Good threads.members [])
    × (program 64 None tokens_of_threads.shift_too_far ≡ Good threads.shift_too_far [])
    × (program 64 None tokens_of_threads.shift ≡ Good threads.shift [])
    × (program 64 None tokens_of_threads.copying ≡ Good threads.copying [])
    × (program 64 None tokens_of_threads.copying_unsent ≡ Good threads.copying_unsent [])

abbrev pub WitnessesRead : Type 0
WitnessesRead =
    (program 64 None tokens_of_witnesses.handed ≡ Good witnesses.handed [])
    × (program 64 None tokens_of_witnesses.relay ≡ Good witnesses.relay [])
    × (program 64 None tokens_of_witnesses.posted ≡ Good witnesses.posted [])
    × (program 64 None tokens_of_witnesses.list ≡ Good witnesses.list [])
    × (program 64 None tokens_of_witnesses.members_race ≡ Good witnesses.members_race [])
    × (program 64 None tokens_of_witnesses.overwritten ≡ Good witnesses.overwritten [])
    × (program 64 None tokens_of_witnesses.divided ≡ Good witnesses.divided [])
