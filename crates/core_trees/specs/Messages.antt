-- The messages of counted loops: what is received in a loop is sent in it.
use Rattle.std.specs.Prelude.{◌≡◌, ◌⊎◌, Bool, true, List, [], ◌∷◌, ◌++◌, if◌then◌else◌}
use Rattle.std.specs.List.{AllByRecursion}
use Rattle.pv_picks.specs.Plain.Core.{Program, Class, Member, Message, Statement, Block}
use Rattle.pv_picks.specs.Plain.Core as core

-- the messages that are sent, without those of a counted loop inside
abbrev mutual
  pub sent_by : Statement → List Message
  sent_by (core.If e first second) = sent_in_block first ++ sent_in_block second
  sent_by (core.While variables f e body span) = sent_in_block body
  sent_by (core.Members team body span) = if team.counted then [] else sent_in_block body
  sent_by (core.Send m span) = m ∷ []
  sent_by _ = []

  pub sent_in_block : Block → List Message
  sent_in_block core.Stop = []
  sent_in_block (core.Then s b) = sent_by s ++ sent_in_block b

-- those that are received
abbrev mutual
  pub received_by : Statement → List Message
  received_by (core.If e first second) = received_in_block first ++ received_in_block second
  received_by (core.While variables f e body span) = received_in_block body
  received_by (core.Members team body span) = if team.counted then [] else received_in_block body
  received_by (core.Receive m span) = m ∷ []
  received_by _ = []

  pub received_in_block : Block → List Message
  received_in_block core.Stop = []
  received_in_block (core.Then s b) = received_by s ++ received_in_block b

abbrev pub IsAmong : Message → List Message → Type 0
IsAmong m [] = ⊥
IsAmong m (n ∷ ns) = (m ≡ n) ⊎ IsAmong m ns

-- each message that the body of a counted loop receives is one that it sends
abbrev pub Matches : Bool → Block → Type 0
Matches counted body = counted ≡ true → AllByRecursion (λ m. IsAmong m (sent_in_block body)) (received_in_block body)

abbrev mutual
  pub MatchedStatement : Statement → Type 0
  MatchedStatement (core.If e first second) = MatchedBlock first × MatchedBlock second
  MatchedStatement (core.While variables f e body span) = MatchedBlock body
  MatchedStatement (core.Members team body span) = Matches team.counted body × MatchedBlock body
  MatchedStatement _ = Unit {0}

  pub MatchedBlock : Block → Type 0
  MatchedBlock core.Stop = Unit {0}
  MatchedBlock (core.Then s b) = MatchedStatement s × MatchedBlock b

abbrev pub MatchedMember : Member → Type 0
MatchedMember (core.IsMethod m) = MatchedBlock m.body
MatchedMember _ = Unit {0}

abbrev pub MatchedClass : Class → Type 0
MatchedClass c = AllByRecursion MatchedMember c.members

-- in each counted loop of a program
abbrev pub IsMatched : Program → Type 0
IsMatched p = AllByRecursion MatchedClass p
