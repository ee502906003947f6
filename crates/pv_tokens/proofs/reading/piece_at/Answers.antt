use Rattle.pv_tokens.proofs.PieceSizes.{shows_at, fits_at}
use Rattle.pv_tokens.proofs.reading.piece_at.Goals as goal

pub returns-clause-shows : goal.returns-clause-shows
returns-clause-shows c = shows_at c.args.text.now c.args.at _ c.requires c.piece_of.ensures

pub returns-clause-fits : goal.returns-clause-fits
returns-clause-fits c = fits_at c.args.text.now c.args.at _ c.piece_of.ensures
