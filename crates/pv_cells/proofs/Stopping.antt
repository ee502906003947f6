-- Want of memory stops any run.
use Rattle.std.proofs.Common.{◌≡◌}
use Rattle.std.specs.HashMap.{HashMap}
use Rattle.pv_cells.specs.declared.halt.Halt.{Halt}
use Rattle.pv_cells.specs.declared.halt.Halt.TheVariants as halt
use Rattle.pv_cells.specs.declared.key.Resource.{Resource}
use Rattle.pv_cells.specs.declared.prepared.Prepared.{Prepared}
use Rattle.pv_cells.specs.declared.store.Holding.{Holding}
use Rattle.pv_cells.specs.declared.store.Learned.{Learned}
use Rattle.pv_cells.specs.Limits.{Ending}
use Rattle.pv_cells.specs.Moves.{Move, Stops, EndsAt}

pub out_of_memory : {S : Type 0} (given : Prepared) (move : Move) (held : HashMap Resource Holding S) (l : Learned) (h : Halt)
    → h ≡ halt.NoMemory → Stops given move held l h
unfolding Stops EndsAt
out_of_memory given move held l h is = rw is tt

-- what ends one run ends another
pub ends_alike : (h : Halt) (P Q : Ending → Type 0) → ((end : Ending) → P end → Q end) → EndsAt h P → EndsAt h Q
unfolding EndsAt
ends_alike (halt.Missing span) P Q f k = k
ends_alike halt.Blocked P Q f k = f _ k
ends_alike (halt.Failed check span) P Q f k = f _ k
ends_alike (halt.Overflow span) P Q f k = f _ k
ends_alike (halt.RangeTooLong n) P Q f k = f _ k
ends_alike halt.NoMemory P Q f k = tt
