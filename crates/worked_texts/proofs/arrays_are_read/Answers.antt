use Rattle.worked_texts.proofs.Arrays.{arrays_read}
use Rattle.worked_texts.proofs.arrays_are_read.Goals as goal

pub returns : goal.returns
returns c = arrays_read
