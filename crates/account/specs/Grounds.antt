-- What the laws of this crate say.
use Rattle.std.specs.Prelude.{List}
use Rattle.pv_ast.specs.declared.Program.{Program}
use Rattle.pv_ast.specs.Rules.WellFormed.{IsWellFormed}
use Rattle.pv_picks.specs.Plain.Core as core
use Rattle.pv_picks.specs.Plain.Core.{Formula, Parameter}
use Rattle.pv_picks.specs.Formulas.Heaps.{Heap}
use Rattle.pv_picks.specs.Machine.Worlds.{World}
use Rattle.pv_picks.specs.Machine.Safety.{IsReached}
use Rattle.pv_picks.specs.Elaborating.Programs.{core_of}
use Rattle.pv_picks.specs.Verdicts.Theorems.{IsVerified}
use Rattle.pv_picks.specs.Typing.Expressions.{Home, Speech}
use Rattle.pv_picks.specs.Typing.Blocks.{ProgramFits}
use Rattle.core_trees.specs.Formulas.{FormulaFits}
use Rattle.account_formulas.specs.Good.{IsGood}
use Rattle.account_formulas.specs.Growing.{HeapFits}
use Rattle.account_formulas.specs.Gaining.{PredicatesFit}
use Rattle.account.specs.Verified.{IsVerifiedThroughout}

-- a well typed formula is one of which the laws of formulas speak
abbrev pub FormulasAreGood : Type 0
FormulasAreGood = (h : Home) (speech : Speech) (xs : List Parameter) (f : Formula)
    → FormulaFits h speech xs f → IsGood h speech xs f

-- the heap of each world that a well typed program reaches fits
abbrev pub HeapsFit : Type 0
HeapsFit = (p : core.Program) → ProgramFits p → (w : World) → IsReached p w → HeapFits p w.heap

-- the predicates of a program that is verified throughout can be taken in where nothing is held
abbrev pub PredicatesAreTakenIn : Type 0
PredicatesAreTakenIn = (p : core.Program) → IsVerifiedThroughout p → (heap : Heap) → HeapFits p heap → PredicatesFit p heap

-- a well formed program on whose units no evidence makes the judge fail becomes one that is verified throughout
abbrev pub ProgramsAreVerifiedThroughout : Type 0
ProgramsAreVerifiedThroughout = (p : Program) → IsWellFormed p → IsVerified p → IsVerifiedThroughout (core_of p)
