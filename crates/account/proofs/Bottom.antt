-- The last frame of a thread, where its first frame goes on.
use Rattle.std.proofs.Common.{◌≡◌, ℕ, ℤ, Bool, Some, List, [], ◌∷◌, ap, sym, subst, ◌∙◌}
use Rattle.pv_picks.specs.Plain.Core.{Message, Program}
use Rattle.pv_picks.specs.Formulas.Heaps.{Heap}
use Rattle.pv_picks.specs.Plain.Members.{run_of}
use Rattle.pv_picks.specs.Machine.Frames.{Frame, outer_scene}
use Rattle.pv_picks.specs.Machine.Worlds.{Role, Entry, RunOf, MemberOf, OpenBlock, ThreadState}
use Rattle.account_formulas.specs.Still.{IsStill}
use Rattle.account.specs.Frames.{Run, IsBodyOf}
use Rattle.account.specs.Owners.{Opened}
use Rattle.account.specs.Objects.{IsTakenFromNothing, AtBottom, IsEntry, IsThreadOf, RoleFits}
use Rattle.account.specs.Blocks.{IsMember}
use Rattle.account.specs.Messages.{TasksExchange, bottom_tasks}

-- what holds of a frame with its run goes on to hold while the frame's call and its body stay
abbrev pub Stays : (Frame → Run → Type 0) → Type 0
Stays P = (f g : Frame) (r s : Run) → IsStill f g → s.body ≡ r.body → P f r → P g s

body_stays : (f g : Frame) (r s : Run) → IsStill f g → s.body ≡ r.body → IsBodyOf f.method r.body → IsBodyOf g.method s.body
body_stays f g r s still body h =
    subst (λ m. IsBodyOf m s.body) (sym still.method) (subst (λ b. IsBodyOf f.method b) (sym body) h)

entry_stays : Stays IsEntry
entry_stays f g r s still body h = record { body = body_stays f g r s still body h.body }

thread_stays : (p : Program) (flags : ℕ → Bool) (heap : Heap) (state : ℕ → ThreadState) (i x : ℕ)
    → Stays (IsThreadOf p flags heap state i x)
thread_stays p flags heap state i x f g r s still body h = record {
  this = still.this ∙ h.this;
  class = h.class ∙ ap Some (sym still.class);
  method = ap (run_of p) still.class ∙ (h.method ∙ ap Some (sym still.method));
  running = h.running;
  body = body_stays f g r s still body h.body;
  stays = subst (λ m. IsTakenFromNothing p flags heap (outer_scene x [] []) m.contract.after) (sym still.method) h.stays;
}

pub member_stays : (opening : Opened) (block : OpenBlock) (position : ℤ) → Stays (IsMember opening block position)
member_stays opening block position f g r s still body h = record {
  class = still.class ∙ h.class;
  this = still.this ∙ h.this;
  begun = still.begun ∙ h.begun;
  head = ap (λ z. z.head) body ∙ h.head;
  answer = ap (λ z. z.answer) body ∙ h.answer;
  speech = ap (λ z. z.speech) body ∙ h.speech;
  result = ap (λ z. z.result) body ∙ h.result;
  after = ap (λ z. z.after) body ∙ h.after;
  variable = ap (λ z. z.site.variable) body ∙ h.variable;
  low = ap (λ z. z.site.low) body ∙ h.low;
  high = ap (λ z. z.site.high) body ∙ h.high;
}

-- what holds of the last frame goes on to hold where it does so of the first frame as it goes on
pub bottom_moves : (P : Frame → Run → Type 0) (f g : Frame) (r s : Run) → (P f r → P g s) → (below : List Frame) (rs : List Run)
    → AtBottom P (f ∷ below) (r ∷ rs) → AtBottom P (g ∷ below) (s ∷ rs)
bottom_moves P f g r s on [] rs h = on h
bottom_moves P f g r s on (x ∷ xs) rs h = h

pub bottom_exchanges : (S R : Message → Type 0) (f g : Frame) → (TasksExchange S R f.tasks → TasksExchange S R g.tasks)
    → (below : List Frame) → TasksExchange S R (bottom_tasks (f ∷ below)) → TasksExchange S R (bottom_tasks (g ∷ below))
bottom_exchanges S R f g on [] h = on h
bottom_exchanges S R f g on (x ∷ xs) h = h

pub bottom_as : (P Q : Frame → Run → Type 0) → ((f : Frame) (r : Run) → P f r → Q f r) → (fs : List Frame) (rs : List Run)
    → AtBottom P fs rs → AtBottom Q fs rs
bottom_as P Q on [] rs h = tt
bottom_as P Q on (f ∷ fs) [] h = absurd h
bottom_as P Q on (f ∷ []) (r ∷ rs) h = on f r h
bottom_as P Q on (f ∷ g ∷ fs) (r ∷ rs) h = bottom_as P Q on (g ∷ fs) rs h

-- what a role asks for goes on to hold where all that stays so goes on to hold of the last frame
pub role_stays : (p : Program) (flags : ℕ → Bool) (heap : Heap) (state : ℕ → ThreadState) (i : ℕ) (fs gs : List Frame)
    (rs ss : List Run) → ((P : Frame → Run → Type 0) → Stays P → AtBottom P fs rs → AtBottom P gs ss)
    → (role : Role) → RoleFits p flags heap state i role fs rs → RoleFits p flags heap state i role gs ss
role_stays p flags heap state i fs gs rs ss bottom Entry h = bottom IsEntry entry_stays h
role_stays p flags heap state i fs gs rs ss bottom (RunOf x) h =
    bottom (IsThreadOf p flags heap state i x) (thread_stays p flags heap state i x) h
role_stays p flags heap state i fs gs rs ss bottom (MemberOf b position) h = tt

module _ (f g : Frame) (r s : Run) (still : IsStill f g) (body : s.body ≡ r.body) where
  -- all that stays so goes on to hold of the last frame
  pub stays_at_bottom : (P : Frame → Run → Type 0) → Stays P → (below : List Frame) (rs : List Run)
      → AtBottom P (f ∷ below) (r ∷ rs) → AtBottom P (g ∷ below) (s ∷ rs)
  stays_at_bottom P stays = bottom_moves P f g r s (stays f g r s still body)

  pub role_moves : (p : Program) (flags : ℕ → Bool) (heap : Heap) (state : ℕ → ThreadState) (i : ℕ) (role : Role)
      (below : List Frame) (rs : List Run)
      → RoleFits p flags heap state i role (f ∷ below) (r ∷ rs) → RoleFits p flags heap state i role (g ∷ below) (s ∷ rs)
  role_moves p flags heap state i role below rs = role_stays p flags heap state i (f ∷ below) (g ∷ below) (r ∷ rs) (s ∷ rs)
      (λ P stays. stays_at_bottom P stays below rs) role

  pub member_moves : (opening : Opened) (block : OpenBlock) (position : ℤ) (below : List Frame) (rs : List Run)
      → AtBottom (IsMember opening block position) (f ∷ below) (r ∷ rs)
      → AtBottom (IsMember opening block position) (g ∷ below) (s ∷ rs)
  member_moves opening block position =
      stays_at_bottom (IsMember opening block position) (member_stays opening block position)
