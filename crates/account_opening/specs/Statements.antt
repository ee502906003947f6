-- What the law of this crate says.
use Rattle.account.specs.Labels.{KeepsTheAccount}
use Rattle.account.specs.Openings.{IsAtOpening}

-- what the precondition of all positions asks for is dealt to the members
abbrev pub OpeningsKeep : Type 0
OpeningsKeep = KeepsTheAccount IsAtOpening
