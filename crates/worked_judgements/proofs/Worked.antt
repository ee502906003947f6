-- The worked cases hold by computing.
use Rattle.std.proofs.Common.{refl}
use Rattle.worked_judgements.specs.Cases.{Counting, Writing, Aliasing, Invariants, Shifting, Copying, Adding, Reading, Keeping, Folding, Filling, Showing, Testing}
use Rattle.worked_judgements.specs.Marks.{Marks}
use Rattle.worked_judgements.specs.Undeclared.{Undeclared}
use Rattle.worked_judgements.specs.Patterns.{Parting, PartingUses}

pub counting : Counting
counting = (refl, refl, refl, refl, refl, refl, refl, refl)

pub writing : Writing
writing = (refl, refl)

pub aliasing : Aliasing
aliasing = (refl, refl, refl)

pub invariants : Invariants
invariants = (refl, refl, refl, refl, refl, refl, refl, refl)

pub shifting : Shifting
shifting = (refl, refl, refl, refl, refl, refl)

pub copying : Copying
copying = (refl, refl, refl, refl, refl)

pub adding : Adding
adding = (refl, refl, refl, refl, refl)

pub reading : Reading
reading = (refl, refl, refl, refl)

pub keeping : Keeping
keeping = (refl, refl, refl, refl, refl)

pub folding : Folding
folding = (refl, refl, refl, refl)

pub filling : Filling
filling = (refl, refl, refl, refl, refl, refl)

pub showing : Showing
showing = (refl, refl, refl, refl, refl, refl, refl)

pub testing : Testing
testing = (refl, refl, refl, refl, refl, refl, refl, refl)

pub parting : Parting
parting = (refl, refl, refl, refl, refl)

pub parting_uses : PartingUses
parting_uses = (refl, refl, refl, refl, refl, refl)

pub marks : Marks
marks = (refl, refl, refl, refl, refl, refl, refl, refl)

pub undeclared : Undeclared
undeclared = (refl, refl, refl, refl, refl, refl, refl, refl, refl)
