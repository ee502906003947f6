use Rattle.judge_facts.proofs.Listing.{judges_on_listed_names}
use Rattle.judge_facts.proofs.judges_on_listed_names.Goals as goal

pub returns : goal.returns
returns c = judges_on_listed_names
