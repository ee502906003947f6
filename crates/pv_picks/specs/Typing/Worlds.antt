-- Well typed threads and worlds.
use Rattle.std.specs.Prelude.{◌≡◌, ℕ, Option, Some, List, [], ◌∷◌}
use Rattle.pv_base.specs.declared.Name.{Name}
use Rattle.pv_ast.specs.declared.PvType.{PvType}
use Rattle.pv_values.specs.declared.value.Value.{Value}
use Rattle.pv_picks.specs.Plain.Core.{Method, Program}
use Rattle.pv_picks.specs.Formulas.Heaps.{Heap}
use Rattle.pv_picks.specs.Machine.Starts.{field_kind}
use Rattle.pv_picks.specs.Machine.Tasks.{Task, Resume}
use Rattle.pv_picks.specs.Machine.Frames.{Frame}
use Rattle.pv_picks.specs.Machine.Worlds.{Thread, World}
use Rattle.pv_picks.specs.Typing.Heaps.{IsTypedHeap}
use Rattle.pv_picks.specs.Typing.Expressions.{Home, answer_of}
use Rattle.pv_picks.specs.Typing.Frames.{FrameFits}

abbrev pub home : Program → Name → Option PvType → Home
home p class answer = record { program = p; class = class; answer = answer }

-- a frame waits for a call to answer, and answers what is next itself
pub record WaitsFor (p : Program) (heap : Heap) (answer next : Option PvType) (f : Frame) : Type 0 where
  pub fits : FrameFits (home p f.class next) heap f
  pub class : Name
  pub method : Method
  pub object : ℕ
  pub arguments : List Value
  pub rest : List Task
  pub waits : f.tasks ≡ Resume class method object arguments ∷ rest
  pub called : answer ≡ Some (answer_of method)

-- each frame waits for the one above it
abbrev pub BelowFits : Program → Heap → Option PvType → List Frame → Type 0
BelowFits p heap answer [] = Unit {0}
BelowFits p heap answer (f ∷ below) = (next : Option PvType) × WaitsFor p heap answer next f × BelowFits p heap next below

-- the frames of a thread: a member's first frame answers nothing
abbrev pub FramesFit : Program → Heap → List Frame → Type 0
FramesFit p heap [] = Unit {0}
FramesFit p heap (f ∷ below) = (answer : Option PvType) × FrameFits (home p f.class answer) heap f × BelowFits p heap answer below

abbrev pub ThreadsFit : Program → Heap → (ℕ → Thread) → Type 0
ThreadsFit p heap threads = (j : ℕ) → FramesFit p heap (threads j).frames

pub record WorldFits (p : Program) (w : World) : Type 0 where
  pub heap : IsTypedHeap (field_kind p) w.heap
  pub threads : ThreadsFit p w.heap w.threads
