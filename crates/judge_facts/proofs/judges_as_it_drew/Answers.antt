use Rattle.judge_facts.proofs.Listing.{judges_as_it_drew}
use Rattle.judge_facts.proofs.judges_as_it_drew.Goals as goal

pub returns : goal.returns
returns c = judges_as_it_drew
