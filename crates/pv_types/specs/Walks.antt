-- What the code keeps on the way through statements, as the definitions see it.
use Rattle.pv_ast.specs.Rules.Statements.{Messages as Labels}
use Rattle.pv_types.specs.declared.labels.Messages.{Messages}
use Rattle.pv_types.specs.declared.walk.Walk.{Walk}

abbrev pub labels_in : Messages → Labels
labels_in m = record { sent = m.sent.items; received = m.received.items }

abbrev pub messages_in : Walk → Labels
messages_in walk = labels_in walk.messages
