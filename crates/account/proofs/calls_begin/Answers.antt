use Rattle.account.proofs.Laws.{calls_begin}
use Rattle.account.proofs.calls_begin.Goals as goal

pub returns : goal.returns
returns c = calls_begin
