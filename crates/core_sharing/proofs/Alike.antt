-- In what a well formed program becomes, both forms of each contract that members keep are exhaled alike, and fail alike.
use Rattle.pv_ast.specs.declared.Program.{Program}
use Rattle.pv_ast.specs.Rules.WellFormed.{IsWellFormed}
use Rattle.pv_picks.specs.Elaborating.Programs.{core_of}
use Rattle.core_trees.proofs.ConfiningWhole.{program_confined}
use Rattle.core_sharing.specs.Forms.{SameShared}
use Rattle.core_sharing.specs.Exhaled.{SharedIsExhaledAlike, FormsAreExhaledAlike, SharedFailsAlike, FormsFailAlike}
use Rattle.core_sharing.proofs.Programs.{program_same}
use Rattle.core_sharing.proofs.Keeping.{BothSaid, each_follows, each_confined}
use Rattle.core_sharing.proofs.Exhaled.{shared_is_exhaled_alike}
use Rattle.core_sharing.proofs.Failing.{shared_fails_alike}

pub program_exhales : (p : Program) → IsWellFormed p → FormsAreExhaledAlike (core_of p)
program_exhales p well =
    each_follows (BothSaid SameShared) SharedIsExhaledAlike shared_is_exhaled_alike (core_of p)
    (each_confined SameShared (core_of p) (program_same p well) (program_confined p well))

pub program_fails : (p : Program) → IsWellFormed p → FormsFailAlike (core_of p)
program_fails p well =
    each_follows SharedIsExhaledAlike SharedFailsAlike shared_fails_alike (core_of p) (program_exhales p well)
