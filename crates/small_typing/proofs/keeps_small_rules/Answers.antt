use Rattle.small_typing.proofs.Programs.{program_kept}
use Rattle.small_typing.proofs.keeps_small_rules.Goals as goal

pub returns : goal.returns
returns c = program_kept c.args.program.now
