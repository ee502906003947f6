use Rattle.core_names.proofs.Opening.{reached_keeps_messages}
use Rattle.core_names.proofs.blocks_are_opened_with_their_messages.Goals as goal

pub returns : goal.returns
returns c = reached_keeps_messages
