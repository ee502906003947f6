use Rattle.account_formulas.proofs.Laws.{typed_heap_fits}
use Rattle.account_formulas.proofs.typed_heap_fits.Goals as goal

pub returns : goal.returns
returns c = typed_heap_fits
