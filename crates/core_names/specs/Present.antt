-- Expressions and formulas that speak of the present state alone: `\old` doesn't stand in them.
use Rattle.std.specs.Prelude.{◌≡◌, ℤ, false, List}
use Rattle.std.specs.List.{AllByRecursion}
use Rattle.pv_base.specs.declared.Name.{Name}
use Rattle.pv_picks.specs.Plain.Core as core
use Rattle.pv_picks.specs.Plain.Core.{Expression, Cut, Formula, Items, Item, Contract, Shared, Message, Statement, Block, Method, Member, Class, Program}
use Rattle.pv_picks.specs.Formulas.Evaluation.{Scene}
use Rattle.pv_picks.specs.Formulas.Meeting.{Sight, guard_term, unmet, unmet_shared}

-- an expression without `\old`
abbrev pub IsPresent : Expression → Type 0
IsPresent (core.Constant v) = Unit {0}
IsPresent core.This = Unit {0}
IsPresent core.Result = Unit {0}
IsPresent (core.Variable name) = Unit {0}
IsPresent (core.Field object class name span) = IsPresent object
IsPresent (core.Element type array index span) = IsPresent array × IsPresent index
IsPresent (core.Length type array span) = IsPresent array
IsPresent (core.Not e) = IsPresent e
IsPresent (core.Compute manner operation a b span) = IsPresent a × IsPresent b
IsPresent (core.Compare order a b) = IsPresent a × IsPresent b
IsPresent (core.Equal same a b) = IsPresent a × IsPresent b
IsPresent (core.And a b) = IsPresent a × IsPresent b
IsPresent (core.Or a b) = IsPresent a × IsPresent b
IsPresent (core.Implies a b) = IsPresent a × IsPresent b
IsPresent (core.Old e) = ⊥

-- expressions, and guards, without it
abbrev pub ArePresent : List Expression → Type 0
ArePresent es = AllByRecursion IsPresent es

abbrev pub AreCutsPresent : List Cut → Type 0
AreCutsPresent cuts = AllByRecursion (λ cut. IsPresent (guard_term cut)) cuts

-- formulas, items and one item without it
abbrev mutual
  pub IsPresentFormula : Formula → Type 0
  IsPresentFormula (core.Fact e span) = IsPresent e
  IsPresentFormula (core.FieldPermission object class name type units span) = IsPresent object
  IsPresentFormula (core.ElementPermission type array index units span) = IsPresent array × IsPresent index
  IsPresentFormula (core.Holds token class object span) = IsPresent object
  IsPresentFormula (core.Instance class name object arguments span) = IsPresent object × ArePresent arguments
  IsPresentFormula (core.Star f g) = IsPresentFormula f × IsPresentFormula g
  IsPresentFormula (core.When e f span) = IsPresent e × IsPresentFormula f
  IsPresentFormula (core.Each name low high items span) = IsPresent low × IsPresent high × ArePresentItems items

  pub ArePresentItems : Items → Type 0
  ArePresentItems core.NoItems = Unit {0}
  ArePresentItems (core.Join i is) = IsPresentItem i × ArePresentItems is

  pub IsPresentItem : Item → Type 0
  IsPresentItem (core.Elements type array shift units span) = IsPresent array
  IsPresentItem (core.Repeated e span) = IsPresent e
  IsPresentItem (core.Committed class object span) = IsPresent object
  IsPresentItem (core.Guarded cuts i span) = AreCutsPresent cuts × IsPresentItem i
  IsPresentItem (core.Fixed e f span) = IsPresent e × IsPresentFormula f

-- both formulas of a contract, and all that members keep
abbrev pub IsPresentContract : Contract → Type 0
IsPresentContract c = IsPresentFormula c.before × IsPresentFormula c.after

abbrev pub IsPresentShared : Shared → Type 0
IsPresentShared s = IsPresentContract s.one × ArePresentItems s.each_before × ArePresentItems s.each_after

-- each formula of a statement and of a block
abbrev mutual
  pub IsPresentStatement : Statement → Type 0
  IsPresentStatement (core.Assign target right span) = Unit {0}
  IsPresentStatement (core.If e first second) = IsPresentBlock first × IsPresentBlock second
  IsPresentStatement (core.While variables f e body span) = IsPresentFormula f × IsPresentBlock body
  IsPresentStatement (core.Members team body span) = IsPresentShared team.shared × IsPresentBlock body
  IsPresentStatement (core.Meet barrier span) = IsPresentShared barrier.shared
  IsPresentStatement (core.Act action class e span) = Unit {0}
  IsPresentStatement (core.Fold class name e arguments span) = Unit {0}
  IsPresentStatement (core.Unfold class name e arguments span) = Unit {0}
  IsPresentStatement (core.Assert f span) = IsPresentFormula f
  IsPresentStatement (core.Send m span) = IsPresentFormula m.formula
  IsPresentStatement (core.Receive m span) = IsPresentFormula m.formula
  IsPresentStatement (core.Return e span) = Unit {0}

  pub IsPresentBlock : Block → Type 0
  IsPresentBlock core.Stop = Unit {0}
  IsPresentBlock (core.Then s b) = IsPresentStatement s × IsPresentBlock b

-- where a method keeps no old state, its contract and its body have no `\old`
abbrev pub NeedsNoOld : Member → Type 0
NeedsNoOld (core.IsField f) = Unit {0}
NeedsNoOld (core.IsPredicate q) = Unit {0}
NeedsNoOld (core.IsMethod m) = m.old ≡ false → IsPresentContract m.contract × IsPresentBlock m.body

-- each method and `run` of a class
abbrev pub ClassNeedsNoOld : Class → Type 0
ClassNeedsNoOld c = AllByRecursion NeedsNoOld c.members

-- each method that keeps no old state needs none: the formulas of its contract and its body speak of the present
abbrev pub OldIsKept : Program → Type 0
OldIsKept p = AllByRecursion ClassNeedsNoOld p

-- what speaks of the present has the same first conjunct that isn't met
pub record MeetsAlike (one two : Sight) (scene : Scene) : Type 0 where
  pub formulas : (f : Formula) → IsPresentFormula f → unmet one scene f ≡ unmet two scene f
  pub shared : (name : Name) (low high : ℤ) (items : Items) → ArePresentItems items
      → unmet_shared one scene name low high items ≡ unmet_shared two scene name low high items
