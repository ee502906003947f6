-- Blocks that are open: the thread that waits for the members, and the members that run, wait at a barrier, or have ended.
use Rattle.std.specs.Prelude.{◌≡◌, ◌+◌, ◌≤◌, ◌<◌, ℕ, ℤ, pos, ◌+ℤ◌, Bool, true, false, None, List, [], ◌∷◌}
use Rattle.pv_base.specs.declared.Span.{Span}
use Rattle.pv_ast.specs.declared.PvType.TheVariants.{Int}
use Rattle.pv_picks.specs.declared.check.Check.TheVariants as check
use Rattle.pv_picks.specs.Plain.Core.{Shared, Team, Barrier, Program}
use Rattle.pv_picks.specs.Formulas.Values.{at_position, within}
use Rattle.pv_picks.specs.Formulas.Evaluation.{Scene}
use Rattle.pv_picks.specs.Formulas.Heaps.{Heap}
use Rattle.pv_picks.specs.Formulas.Meeting.{at}
use Rattle.pv_picks.specs.Judge.States.{State, bind_of, nothing_held}
use Rattle.pv_picks.specs.Judge.Inhaling.{inhale_items}
use Rattle.pv_picks.specs.Judge.Rows.{exhale_each}
use Rattle.pv_picks.specs.Judge.Judging.{finish, inhale_own, bind_at_site}
use Rattle.pv_picks.specs.Machine.Tasks.{AtClose, AtLeave, Task, Stand}
use Rattle.pv_picks.specs.Machine.Frames.{Frame, body_scene}
use Rattle.pv_picks.specs.Machine.Worlds.{MemberOf, OpenBlock, Thread, member_count, has_no_frame}
use Rattle.pv_picks.specs.Typing.Expressions.{silent}
use Rattle.core_trees.specs.Formulas.{SharedFits, in_class}
use Rattle.account_formulas.specs.Runs.{truly, RestNeverFails}
use Rattle.account_formulas.specs.Sights.{SceneFits}
use Rattle.account_formulas.specs.Owning.{Amounts, KeepsOwning}
use Rattle.account_formulas.specs.Forms.{SameItems}
use Rattle.account.specs.Running.{ran}
use Rattle.account.specs.Frames.{Run}
use Rattle.account.specs.Owners.{Opened, Owners}
use Rattle.account.specs.Objects.{AtBottom}

-- the scene of a block's opener, at a position
abbrev pub scene_at : Opened → Team → ℤ → Scene
scene_at opening t i = at opening.scene t.variable i

-- a state in which a member at a position begins, with nothing held
abbrev pub seed : State → Team → ℤ → State
seed s t i = record (nothing_held s) { variables = at_position s.variables t.variable i }

-- both forms of a contract that members keep are made alike, part by part
pub record FormsAreAlike (t : Team) (s : Shared) : Type 0 where
  pub before : SameItems t.variable s.one.before s.each_before
  pub after : SameItems t.variable s.one.after s.each_after

-- a frame waits for the members of a block: it can go on with what they leave, and what each of them leaves can be taken from
-- nothing
pub record CanClose (p : Program) (t : Team) (low high : ℤ) (f : Frame) (r : Run) (rest : List Task) : Type 0 where
  pub never : RestNeverFails r.taken
      (λ maps. inhale_items (truly maps) (bind_of r.state) t.variable low high t.shared.each_after
      (ran (truly maps) p r.body false rest f.values) r.state)
  pub stays : (i : ℤ) → within low high i ≡ true → RestNeverFails r.taken
      (λ maps. inhale_own (truly maps) t.shared.one.after (finish (truly maps)) (seed r.state t i))

-- a thread waits for the members of a block that it opened; each of them runs, or has ended and owns its postcondition
pub record WaitsForMembers (p : Program) (flags : ℕ → Bool) (heap : Heap) (count : ℕ) (threads : ℕ → Thread) (block_count : ℕ)
    (left : ℕ → Amounts) (opening : Opened) (i b : ℕ) (block : OpenBlock) (f : Frame) (r : Run) (rest : List Task) : Type 0 where
  pub number : b < block_count
  pub opener : block.opener ≡ i
  pub class : opening.class ≡ f.class
  pub scope : opening.scope ≡ r.scope
  pub scene : opening.scene ≡ body_scene f
  pub typed : SceneFits (in_class p opening.class) silent opening.scope heap opening.scene
  pub contract : SharedFits (in_class p opening.class) opening.scope block.team.variable block.team.shared
  pub alike : FormsAreAlike block.team block.team.shared
  pub closes : CanClose p block.team block.low block.high f r rest
  pub counted : block.first + member_count block ≤ count
  pub roles : (k : ℕ) → k < member_count block → (threads (block.first + k)).role ≡ MemberOf b (block.low +ℤ pos k)
  pub ended : (k : ℕ) → k < member_count block → has_no_frame (threads (block.first + k)).frames ≡ true
      → KeepsOwning p flags heap (scene_at opening block.team (block.low +ℤ pos k)) block.team.shared.one.after
      (left (block.first + k))

-- the frame at a member's bottom is of its block's body, at its position
pub record IsMember (opening : Opened) (block : OpenBlock) (position : ℤ) (f : Frame) (r : Run) : Type 0 where
  pub class : f.class ≡ opening.class
  pub this : f.this ≡ opening.scene.this
  pub begun : f.begun ≡ at_position opening.scene.variables block.team.variable position
  pub head : r.body.head ≡ (block.team.variable, Int) ∷ opening.scope
  pub answer : r.body.answer ≡ None
  pub speech : r.body.speech ≡ silent
  pub result : r.body.result ≡ None
  pub after : r.body.after ≡ block.team.shared.one.after
  pub variable : r.body.site.variable ≡ block.team.variable
  pub low : r.body.site.low ≡ block.low
  pub high : r.body.site.high ≡ block.high

-- a member has arrived at a barrier: it left what the barrier asks of it; and from what all members leave there, all take theirs
pub record HasArrived (p : Program) (flags : ℕ → Bool) (heap : Heap) (opening : Opened) (block : OpenBlock) (position : ℤ)
    (barrier : Barrier) (r : Run) (left : Amounts) : Type 0 where
  pub alike : FormsAreAlike block.team barrier.shared
  pub owns : KeepsOwning p flags heap (scene_at opening block.team position) barrier.shared.one.before left
  pub meets : RestNeverFails r.taken
      (λ maps. inhale_items (truly maps) (bind_at_site (truly maps) r.body.site r.state) r.body.site.variable r.body.site.low
      r.body.site.high
      barrier.shared.each_before
      (λ t. exhale_each (truly maps) check.BarrierEnsures
      (bind_at_site (truly maps) r.body.site t) r.body.site.variable r.body.site.low
      r.body.site.high barrier.shared.each_after (finish (truly maps)) t) (nothing_held r.state))

-- a member that hasn't ended: its opener waits for it
pub record MemberRuns (p : Program) (flags : ℕ → Bool) (heap : Heap) (count : ℕ) (threads : ℕ → Thread) (left : Amounts)
    (opening : Opened) (j b : ℕ) (block : OpenBlock) (position : ℤ) (runs : List Run) : Type 0 where
  pub opener : block.opener < count
  pub frame : Frame
  pub below : List Frame
  pub rest : List Task
  pub stack : (threads block.opener).frames ≡ frame ∷ below
  pub waits : frame.tasks ≡ Stand (AtClose b) ∷ rest
  pub number : ℕ
  pub less : number < member_count block
  pub thread : j ≡ block.first + number
  pub place : position ≡ block.low +ℤ pos number
  pub member : AtBottom (IsMember opening block position) (threads j).frames runs
  pub arrived : (f : Frame) (r : Run) (rs : List Run) (barrier : Barrier) (span : Span) (others : List Task)
      → (threads j).frames ≡ f ∷ [] → runs ≡ r ∷ rs → f.tasks ≡ Stand (AtLeave barrier span) ∷ others
      → HasArrived p flags heap opening block position barrier r left

-- who waits for members does so as its block says, and each member is waited for
pub record BlocksFit (p : Program) (flags : ℕ → Bool) (heap : Heap) (count : ℕ) (threads : ℕ → Thread) (block_count : ℕ)
    (blocks : ℕ → OpenBlock) (o : Owners) : Type 0 where
  pub openers : (i : ℕ) → i < count → (f : Frame) (below : List Frame) (r : Run) (rs : List Run) (b : ℕ) (rest : List Task)
      → (threads i).frames ≡ f ∷ below → o.runs i ≡ r ∷ rs → f.tasks ≡ Stand (AtClose b) ∷ rest
      → WaitsForMembers p flags heap count threads block_count o.left (o.openings b) i b (blocks b) f r rest
  pub members : (j : ℕ) → j < count → (b : ℕ) (position : ℤ) → (threads j).role ≡ MemberOf b position
      → has_no_frame (threads j).frames ≡ false
      → MemberRuns p flags heap count threads (o.left j) (o.openings b) j b (blocks b) position (o.runs j)
