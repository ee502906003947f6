-- A thread of a reached world that stands at the opening of a block stands there as the account asks.
use Rattle.core_names.proofs.Opening.{reached_keeps_messages}
use Rattle.soundness.specs.OpeningLaws.{OpeningsStand}
use Rattle.soundness.proofs.StayAlike.{stay_alike}

pub openings_stand : OpeningsStand
openings_stand p well w reached i f below stack team body rest is = record {
  team = team;
  body = body;
  rest = rest;
  tasks = is;
  alike = (stay_alike p well w reached).opening i f below stack team body rest is;
  messages = reached_keeps_messages p well.rules w reached i f below stack team body rest is;
}
