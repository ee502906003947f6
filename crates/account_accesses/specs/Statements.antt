-- What the laws of this crate say.
use Rattle.std.specs.Prelude.{ℕ, List}
use Rattle.pv_base.specs.declared.Name.{Name}
use Rattle.pv_base.specs.declared.Span.{Span}
use Rattle.pv_ast.specs.declared.PvType.{PvType}
use Rattle.pv_picks.specs.declared.check.Check.TheVariants as check
use Rattle.pv_picks.specs.Plain.Core.{Formula, Program}
use Rattle.pv_picks.specs.Machine.Tasks.{Spot, Step, AtRead, AtWrite, AtLength, AtAssert, AtFold, AtHead, Loop, Task}
use Rattle.pv_picks.specs.Machine.Frames.{Frame}
use Rattle.pv_picks.specs.Machine.Worlds.{Mode, World}
use Rattle.pv_picks.specs.Machine.Steps.{act}
use Rattle.pv_picks.specs.Machine.Safety.{IsReached, Race}
use Rattle.pv_picks.specs.Typing.Blocks.{ProgramFits}
use Rattle.account_formulas.specs.Growing.{HeapFits}
use Rattle.account.specs.Verified.{IsVerifiedThroughout}
use Rattle.account.specs.Accounts.{Account, Kept}
use Rattle.account_accesses.specs.Standing.{StandsAt}
use Rattle.account_accesses.specs.Supports.{Supports}

-- each world that a verified program reaches supports the laws of labels
abbrev pub ReachedWorldsSupport : Type 0
ReachedWorldsSupport = (p : Program) → ProgramFits p → IsVerifiedThroughout p → (w : World) → IsReached p w → Supports p w

-- a thread of an accounted world that stands at a step isn't wrong there, and the world after it is accounted for
abbrev pub StepKeeps : Step → Type 0
StepKeeps step = (p : Program) (w : World) → Supports p w → Account p w → (i : ℕ) (f : Frame) (below : List Frame)
    (rest : List Task) → StandsAt w i step f below rest → (mode : Mode) → Kept p (act p w mode i)

-- a read
abbrev pub ReadKeeps : Type 0
ReadKeeps = (spot : Spot) (span : Span) → StepKeeps (AtRead spot span)

-- a write
abbrev pub WriteKeeps : Type 0
WriteKeeps = (spot : Spot) (span : Span) → StepKeeps (AtWrite spot span)

-- an array's length
abbrev pub LengthKeeps : Type 0
LengthKeeps = (type : PvType) (span : Span) → StepKeeps (AtLength type span)

-- an `assert`
abbrev pub AssertKeeps : Type 0
AssertKeeps = (formula : Formula) → StepKeeps (AtAssert formula)

-- a `fold`
abbrev pub FoldKeeps : Type 0
FoldKeeps = (class predicate : Name) (count : ℕ) (span : Span) → StepKeeps (AtFold class predicate count span)

-- where a loop begins
abbrev pub LoopEntryKeeps : Type 0
LoopEntryKeeps = (l : Loop) → StepKeeps (AtHead check.LoopEntry l)

-- where it goes back to its head
abbrev pub LoopKeepKeeps : Type 0
LoopKeepKeeps = (l : Loop) → StepKeeps (AtHead check.LoopKeep l)

-- no two threads of an accounted world race
abbrev pub NoRace : Type 0
NoRace = (p : Program) (w : World) → HeapFits p w.heap → Account p w → Race p w → ⊥
