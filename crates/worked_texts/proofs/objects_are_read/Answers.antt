use Rattle.worked_texts.proofs.Objects.{objects_read}
use Rattle.worked_texts.proofs.objects_are_read.Goals as goal

pub returns : goal.returns
returns c = objects_read
