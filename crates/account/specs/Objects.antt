-- What objects own: the promise of a `run` that has ended, and the invariant of a committed object whose lock is free. And the
-- runs of threads that aren't members of a block, at their last frame.
use Rattle.std.specs.Prelude.{◌≡◌, ◌<◌, ℕ, suc, Bool, true, Option, Some, None, List, [], ◌∷◌}
use Rattle.pv_base.specs.declared.Name.{Name}
use Rattle.pv_picks.specs.Plain.Core.{Formula, Method, Program}
use Rattle.pv_picks.specs.Formulas.Evaluation.{Scene}
use Rattle.pv_picks.specs.Plain.Members.{run_of, invariant_of}
use Rattle.pv_picks.specs.Formulas.Heaps.{Heap}
use Rattle.pv_picks.specs.Judge.Inhaling.{inhale}
use Rattle.pv_picks.specs.Judge.Judging.{finish}
use Rattle.pv_picks.specs.Judge.States.{Resource, Cells, State, amount_of}
use Rattle.pv_picks.specs.Machine.Frames.{Frame, outer_scene}
use Rattle.pv_picks.specs.Machine.Starts.{field_kind}
use Rattle.pv_picks.specs.Machine.Worlds.{Role, Entry, RunOf, MemberOf, ThreadState}
use Rattle.account_formulas.specs.Sights.{Contents, ContentsAgree, ValuesFit}
use Rattle.account_formulas.specs.Runs.{Taken, truly, RestNeverFails, AreSettled}
use Rattle.account_formulas.specs.Owning.{Amounts, KeepsOwning}
use Rattle.account_formulas.specs.Growing.{StateFits}
use Rattle.account.specs.Frames.{Run, IsBodyOf}

pub record ObjectsFit (p : Program) (flags : ℕ → Bool) (heap : Heap) (state : ℕ → ThreadState) (holder : ℕ → Option ℕ)
    (promise guard : ℕ → Amounts) : Type 0 where
  -- an object whose `run` has ended owns its postcondition, up to the join
  pub promises : (x : ℕ) (class : Name) (m : Method) → x < suc heap.count → heap.class x ≡ Some class → run_of p class ≡ Some m
      → state x ≡ ThreadState.Ended
      → KeepsOwning p flags heap (outer_scene x [] []) m.contract.after (promise x)
  -- a committed object owns its invariant while nobody holds its lock
  pub guards : (x : ℕ) (class : Name) (i : Formula) → x < suc heap.count → heap.class x ≡ Some class → invariant_of p class
      ≡ Some i
      → flags x ≡ true → holder x ≡ None
      → KeepsOwning p flags heap (outer_scene x [] []) i (guard x)

-- a formula can be taken in where nothing is held, in a state that fits the heap: so what it owns stays owned over changes
-- elsewhere
pub record IsTakenFromNothing (p : Program) (flags : ℕ → Bool) (heap : Heap) (scene : Scene) (f : Formula) : Type 0 where
  pub past : Heap
  pub old : Cells
  pub known : Contents
  pub taken : Taken
  pub state : State
  pub before : ValuesFit (field_kind p) heap past
  pub settled : AreSettled taken old known
  pub agrees : ContentsAgree past known
  pub fits : StateFits flags heap taken state
  pub none : (q : Resource) → amount_of state q ≡ 0
  pub empty : state.instances ≡ []
  pub never : RestNeverFails taken
      (λ maps. inhale (truly maps) (record { scene = scene; old = old }) f (finish (truly maps)) state)

-- of a thread that has a frame: of its last frame and that frame's run
abbrev pub AtBottom : (Frame → Run → Type 0) → List Frame → List Run → Type 0
AtBottom P [] rs = Unit {0}
AtBottom P (f ∷ fs) [] = ⊥
AtBottom P (f ∷ []) (r ∷ rs) = P f r
AtBottom P (f ∷ g ∷ fs) (r ∷ rs) = AtBottom P (g ∷ fs) rs

-- the first call of a run
pub record IsEntry (f : Frame) (r : Run) : Type 0 where
  pub body : IsBodyOf f.method r.body

-- the thread of a number runs the `run` of an object: up to its end, where it leaves its postcondition
pub record IsThreadOf (p : Program) (flags : ℕ → Bool) (heap : Heap) (state : ℕ → ThreadState) (i x : ℕ) (f : Frame) (r : Run)
    : Type 0 where
  pub this : f.this ≡ x
  pub class : heap.class x ≡ Some f.class
  pub method : run_of p f.class ≡ Some f.method
  pub running : state x ≡ ThreadState.Running i
  pub body : IsBodyOf f.method r.body
  pub stays : IsTakenFromNothing p flags heap (outer_scene x [] []) f.method.contract.after

-- members are said of with their blocks
abbrev pub RoleFits : Program → (ℕ → Bool) → Heap → (ℕ → ThreadState) → ℕ → Role → List Frame → List Run → Type 0
RoleFits p flags heap state i Entry frames runs = AtBottom IsEntry frames runs
RoleFits p flags heap state i (RunOf x) frames runs = AtBottom (IsThreadOf p flags heap state i x) frames runs
RoleFits p flags heap state i (MemberOf b position) frames runs = Unit {0}
