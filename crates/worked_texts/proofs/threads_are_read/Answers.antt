use Rattle.worked_texts.proofs.Threads.{threads_read}
use Rattle.worked_texts.proofs.threads_are_read.Goals as goal

pub returns : goal.returns
returns c = threads_read
