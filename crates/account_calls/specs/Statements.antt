-- What the laws of this crate say.
use Rattle.std.specs.Prelude.{◌≡◌, ℕ, List, [], ◌∷◌}
use Rattle.pv_base.specs.declared.Name.{Name}
use Rattle.pv_base.specs.declared.Span.{Span}
use Rattle.pv_ast.specs.declared.PvType.{PvType}
use Rattle.pv_picks.specs.Plain.Core.{Program}
use Rattle.pv_picks.specs.Machine.Tasks.{AtCall, AtNewObject, AtNewArray, Task, Stand}
use Rattle.pv_picks.specs.Machine.Frames.{Frame}
use Rattle.pv_picks.specs.Machine.Worlds.{Role, Entry}
use Rattle.pv_picks.specs.Machine.Starts.{Start, IsStart, first_world}
use Rattle.account.specs.Accounts.{Account}
use Rattle.account.specs.Labels.{KeepsTheAccount}
use Rattle.account.specs.Verified.{IsVerifiedThroughout}

-- at a call
pub record IsAtCall (f : Frame) (below : List Frame) (role : Role) : Type 0 where
  pub class : Name
  pub method : Name
  pub count : ℕ
  pub span : Span
  pub rest : List Task
  pub tasks : f.tasks ≡ Stand (AtCall class method count span) ∷ rest

-- at the end of a call, for which a frame waits
pub record IsAtReturn (f : Frame) (below : List Frame) (role : Role) : Type 0 where
  pub tasks : f.tasks ≡ []
  pub caller : Frame
  pub others : List Frame
  pub waits : below ≡ caller ∷ others

-- at the end of the method in which a run began
pub record IsAtEntryEnd (f : Frame) (below : List Frame) (role : Role) : Type 0 where
  pub tasks : f.tasks ≡ []
  pub alone : below ≡ []
  pub entry : role ≡ Entry

-- at a new object
pub record IsAtNewObject (f : Frame) (below : List Frame) (role : Role) : Type 0 where
  pub class : Name
  pub rest : List Task
  pub tasks : f.tasks ≡ Stand (AtNewObject class) ∷ rest

-- at a new array
pub record IsAtNewArray (f : Frame) (below : List Frame) (role : Role) : Type 0 where
  pub type : PvType
  pub span : Span
  pub rest : List Task
  pub tasks : f.tasks ≡ Stand (AtNewArray type span) ∷ rest

abbrev pub CallsKeep : Type 0
CallsKeep = KeepsTheAccount IsAtCall

abbrev pub ReturnsKeep : Type 0
ReturnsKeep = KeepsTheAccount IsAtReturn

abbrev pub EntryEndsKeep : Type 0
EntryEndsKeep = KeepsTheAccount IsAtEntryEnd

abbrev pub NewObjectsKeep : Type 0
NewObjectsKeep = KeepsTheAccount IsAtNewObject

abbrev pub NewArraysKeep : Type 0
NewArraysKeep = KeepsTheAccount IsAtNewArray

-- the first world of a start of a program that is verified throughout is accounted for
abbrev pub StartsAreAccounted : Type 0
StartsAreAccounted = (p : Program) → IsVerifiedThroughout p → (s : Start) → IsStart p s → Account p (first_world s)
