use Rattle.pv_path.proofs.BranchLemmas.{cut_at}
use Rattle.pv_path.proofs.branch.put_last.Goals as goal

pub returns : goal.returns
returns g c = let i = c.truncate.ensures.items in rw i (cut_at c.args.items.now.items c.args.place c.args.item c.requires)
