use Rattle.small_meaning.proofs.Safety.{safe_program}
use Rattle.small_meaning.proofs.safe_where_no_run_fails.Goals as goal

pub returns : goal.returns
returns c = safe_program
