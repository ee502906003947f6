use Rattle.machine_loops.proofs.Programs.{program_quiet}
use Rattle.machine_loops.proofs.rules_keep_loops_quiet.Goals as goal

pub returns : goal.returns
returns c = program_quiet
