use Rattle.machine_laws.proofs.Members.{reached_members}
use Rattle.machine_laws.proofs.blocks_have_their_members.Goals as goal

pub returns : goal.returns
returns c = reached_members
