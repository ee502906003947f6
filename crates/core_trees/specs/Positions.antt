-- Programs in which positions stand only where they are read: what an item reads once for all positions is a term, an expression
-- that doesn't name the position.
use Rattle.std.specs.Prelude.{◌⊎◌, ℤ, if◌then◌else◌, Option, Some, None}
use Rattle.std.specs.List.{AllByRecursion}
use Rattle.pv_base.specs.declared.Name.{Name}
use Rattle.pv_picks.specs.Plain.Core.{Program, Class, Member, Contract, Shared, Expression, Cut, Formula, Items, Item, Statement, Block}
use Rattle.pv_picks.specs.Plain.Core as core
use Rattle.pv_picks.specs.Judge.Repetitions.{Look, AtElements, AtElement, AtLength, AtTerm, looks_of}
use Rattle.pv_picks.specs.Judge.Steady.{IsTerm, Steady, NoElements, IsTermLook}

-- Expressions

abbrev pub IsTermCut : Name → Cut → Type 0
IsTermCut name (core.Below e) = IsTerm name e
IsTermCut name (core.UpTo e) = IsTerm name e
IsTermCut name (core.Above e) = IsTerm name e
IsTermCut name (core.From e) = IsTerm name e
IsTermCut name (core.Provided e) = IsTerm name e

-- a condition that is repeated: what a run looks at before are terms, and the position stands only in shifted indexes, or nothing
-- is read at it
abbrev pub IsRepeated : Name → Expression → Type 0
IsRepeated name e =
    AllByRecursion (IsTermLook name) (looks_of name e) × (((s : ℤ) × Steady name s e) ⊎ NoElements (looks_of name e))

-- Formulas

-- a quantifier's items are those at the position of its name; a condition that is repeated may name the position, but not where a
-- run looks before it repeats it; a formula at the one position that a term names may name it too
abbrev mutual
  pub ConfinedFormula : Formula → Type 0
  ConfinedFormula (core.Fact e span) = Unit {0}
  ConfinedFormula (core.FieldPermission e class field type units span) = Unit {0}
  ConfinedFormula (core.ElementPermission type e i units span) = Unit {0}
  ConfinedFormula (core.Holds t class e span) = Unit {0}
  ConfinedFormula (core.Instance class name e args span) = Unit {0}
  ConfinedFormula (core.Star f g) = ConfinedFormula f × ConfinedFormula g
  ConfinedFormula (core.When e f span) = ConfinedFormula f
  ConfinedFormula (core.Each name low high items span) = ConfinedItems name items

  pub ConfinedItems : Name → Items → Type 0
  ConfinedItems name core.NoItems = Unit {0}
  ConfinedItems name (core.Join i is) = ConfinedItem name i × ConfinedItems name is

  pub ConfinedItem : Name → Item → Type 0
  ConfinedItem name (core.Elements type e shift units span) = IsTerm name e
  ConfinedItem name (core.Repeated e span) = IsRepeated name e
  ConfinedItem name (core.Committed class e span) = IsTerm name e
  ConfinedItem name (core.Guarded cuts i span) = AllByRecursion (IsTermCut name) cuts × ConfinedItem name i
  ConfinedItem name (core.Fixed e f span) = IsTerm name e × ConfinedFormula f

-- Statements

abbrev pub ConfinedContract : Contract → Type 0
ConfinedContract c = ConfinedFormula c.before × ConfinedFormula c.after

-- the contract of members at the position of this name
abbrev pub ConfinedShared : Name → Shared → Type 0
ConfinedShared name s = ConfinedContract s.one × ConfinedItems name s.each_before × ConfinedItems name s.each_after

-- a barrier stands in a par block, and its contract is one of the members of the innermost
abbrev pub ConfinedBarrier : Option Name → Shared → Type 0
ConfinedBarrier None s = ⊥
ConfinedBarrier (Some name) s = ConfinedShared name s

-- `around` is the position of the innermost par block around, where there is one
abbrev mutual
  pub ConfinedStatement : Option Name → Statement → Type 0
  ConfinedStatement environment (core.Assign target right span) = Unit {0}
  ConfinedStatement environment (core.If e first second) = ConfinedBlock environment first × ConfinedBlock environment second
  ConfinedStatement environment (core.While variables f e body span) = ConfinedFormula f × ConfinedBlock environment body
  ConfinedStatement environment (core.Members team body span) =
      ConfinedShared team.variable team.shared × ConfinedBlock (if team.counted then environment else Some team.variable) body
  ConfinedStatement environment (core.Meet barrier span) = ConfinedBarrier environment barrier.shared
  ConfinedStatement environment (core.Act action class e span) = Unit {0}
  ConfinedStatement environment (core.Fold class name e args span) = Unit {0}
  ConfinedStatement environment (core.Unfold class name e args span) = Unit {0}
  ConfinedStatement environment (core.Assert f span) = ConfinedFormula f
  ConfinedStatement environment (core.Send m span) = ConfinedFormula m.formula
  ConfinedStatement environment (core.Receive m span) = ConfinedFormula m.formula
  ConfinedStatement environment (core.Return e span) = Unit {0}

  pub ConfinedBlock : Option Name → Block → Type 0
  ConfinedBlock environment core.Stop = Unit {0}
  ConfinedBlock environment (core.Then s b) = ConfinedStatement environment s × ConfinedBlock environment b

-- Programs

abbrev pub ConfinedMember : Member → Type 0
ConfinedMember (core.IsField f) = Unit {0}
ConfinedMember (core.IsPredicate q) = ConfinedFormula q.body
ConfinedMember (core.IsMethod m) = ConfinedContract m.contract × ConfinedBlock None m.body

abbrev pub ConfinedInvariant : Option Formula → Type 0
ConfinedInvariant None = Unit {0}
ConfinedInvariant (Some f) = ConfinedFormula f

abbrev pub ConfinedClass : Class → Type 0
ConfinedClass c = ConfinedInvariant c.lock_invariant × AllByRecursion ConfinedMember c.members

-- in a program each position stands only where it is read
abbrev pub IsConfined : Program → Type 0
IsConfined p = AllByRecursion ConfinedClass p
