use Rattle.core_names.proofs.Finding.{verified_parts}
use Rattle.core_names.proofs.verified_parts_never_fail.Goals as goal

pub returns : goal.returns
returns c = verified_parts
