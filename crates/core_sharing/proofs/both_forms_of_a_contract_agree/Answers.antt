use Rattle.core_sharing.specs.Sharing.{SharedAgrees}
use Rattle.core_sharing.specs.Forms.{SameShared}
use Rattle.pv_picks.specs.Elaborating.Programs.{core_of}
use Rattle.core_sharing.proofs.Programs.{program_same}
use Rattle.core_sharing.proofs.Keeping.{each_follows}
use Rattle.core_sharing.proofs.Agreeing.{shared_agrees}
use Rattle.core_sharing.proofs.both_forms_of_a_contract_agree.Goals as goal

pub returns : goal.returns
returns c = λ p well. each_follows SameShared SharedAgrees shared_agrees (core_of p) (program_same p well)
