-- Barriers of one method are told apart by their places: the way through the method to each.
use Rattle.std.specs.Prelude.{◌≡◌, ◌⊎◌, ℕ, ◌+◌, List, [], ◌∷◌, ◌++◌}
use Rattle.std.specs.List.{AllByRecursion}
use Rattle.pv_picks.specs.Plain.Core.{Program, Class, Member, Barrier, Statement, Block}
use Rattle.pv_picks.specs.Plain.Core as core

-- a barrier stands in a statement, and in a block
abbrev mutual
  pub StandsIn : Barrier → Statement → Type 0
  StandsIn x (core.If e first second) = StandsInBlock x first ⊎ StandsInBlock x second
  StandsIn x (core.While variables f e body span) = StandsInBlock x body
  StandsIn x (core.Members team body span) = StandsInBlock x body
  StandsIn x (core.Meet barrier span) = x ≡ barrier
  StandsIn x _ = ⊥

  pub StandsInBlock : Barrier → Block → Type 0
  StandsInBlock x core.Stop = ⊥
  StandsInBlock x (core.Then s b) = StandsIn x s ⊎ StandsInBlock x b

-- The way to a statement is where it stands in its block, from 0, behind the way to that block; that to a block of a statement is
-- which of them it is behind the way to the statement. Each barrier has its way as its place.
abbrev mutual
  pub HasItsWay : List ℕ → Statement → Type 0
  HasItsWay way (core.If e first second) = HaveTheirWays (way ++ 0 ∷ []) 0 first × HaveTheirWays (way ++ 1 ∷ []) 0 second
  HasItsWay way (core.While variables f e body span) = HaveTheirWays (way ++ 0 ∷ []) 0 body
  HasItsWay way (core.Members team body span) = HaveTheirWays (way ++ 0 ∷ []) 0 body
  HasItsWay way (core.Meet barrier span) = barrier.place ≡ way
  HasItsWay way _ = Unit {0}

  -- the rest of a block, from its statement of this number on
  pub HaveTheirWays : List ℕ → ℕ → Block → Type 0
  HaveTheirWays way n core.Stop = Unit {0}
  HaveTheirWays way n (core.Then s b) = HasItsWay (way ++ n ∷ []) s × HaveTheirWays way (n + 1) b

-- barriers of one body at one place are one
abbrev pub PlacesTell : Block → Type 0
PlacesTell body = (x y : Barrier) → StandsInBlock x body → StandsInBlock y body → x.place ≡ y.place → x ≡ y

abbrev pub PlacedInMember : Member → Type 0
PlacedInMember (core.IsField f) = Unit {0}
PlacedInMember (core.IsPredicate q) = Unit {0}
PlacedInMember (core.IsMethod m) = HaveTheirWays [] 0 m.body × PlacesTell m.body

abbrev pub PlacedInClass : Class → Type 0
PlacedInClass c = AllByRecursion PlacedInMember c.members

-- in each method of a program each barrier has its way as its place, and barriers at one place are one
abbrev pub HasPlaces : Program → Type 0
HasPlaces p = AllByRecursion PlacedInClass p
