use Rattle.pv_picks.specs.Elaborating.Programs.{core_of}
use Rattle.core_sharing.proofs.Ways.{has_places}
use Rattle.core_sharing.proofs.Waiting.{reached_barriers}
use Rattle.core_sharing.proofs.frames_come_to_barriers_of_their_methods.Goals as goal

pub returns : goal.returns
returns c = λ p w reached. reached_barriers (core_of p) (has_places p) w reached
