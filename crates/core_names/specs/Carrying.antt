-- What holds of each frame of a world: of a member's own frame with what it is a member of. And the methods of
-- which frames are.
use Rattle.std.specs.Prelude.{◌≡◌, ◌⊎◌, ℕ, ℤ, Option, Some, None, List, [], ◌∷◌}
use Rattle.pv_base.specs.declared.Name.{Name}
use Rattle.pv_picks.specs.Plain.Core.{Team, Method, Program}
use Rattle.pv_picks.specs.Plain.Members.{method_named, run_of}
use Rattle.pv_picks.specs.Formulas.Values.{Variables}
use Rattle.pv_picks.specs.Machine.Frames.{Frame}
use Rattle.pv_picks.specs.Machine.Worlds.{Role, Entry, RunOf, MemberOf, Thread, World}

-- what a block was opened with: the method in whose body it stands, and the variables there
pub record Opening : Type 0 where
  pub method : Method
  pub variables : Variables

-- what a member is one of: the team of its block, what that was opened with, and its position
pub record Membership : Type 0 where
  pub team : Team
  pub opening : Opening
  pub position : ℤ

-- a member's own body is that of a membership, by whose contract it ends; the body of a call is of none
abbrev pub membership_of : (ℕ → Team) → (ℕ → Opening) → Role → Option Membership
membership_of teams openings Entry = None
membership_of teams openings (RunOf object) = None
membership_of teams openings (MemberOf number position) =
    Some (record { team = teams number; opening = openings number; position = position })

-- only the bottom frame of a thread is of the membership: those over it are of calls
abbrev pub own_over : Option Membership → List Frame → Option Membership
own_over member [] = member
own_over member (f ∷ below) = None

-- each frame has the property; only the one at the bottom is a member's own
abbrev pub AllFrames : (Option Membership → Frame → Type 0) → Option Membership → List Frame → Type 0
AllFrames Good member [] = Unit {0}
AllFrames Good member (f ∷ below) = Good (own_over member below) f × AllFrames Good member below

-- each frame of a thread
abbrev pub OfThread : (Option Membership → Frame → Type 0) → (ℕ → Team) → (ℕ → Opening) → Thread → Type 0
OfThread Good teams openings t = AllFrames Good (membership_of teams openings t.role) t.frames

-- each frame of each thread, by what each block was opened with
abbrev pub InWorld : (Option Membership → Frame → Type 0) → World → Type 0
InWorld Good w = (openings : ℕ → Opening)
    × ((j : ℕ) → OfThread Good (λ number. (w.blocks number).team) openings (w.threads j))

-- a method or `run` of the program
abbrev pub IsDeclared : Program → Name → Method → Type 0
IsDeclared p class m = ((name : Name) × (method_named p class name ≡ Some m)) ⊎ (run_of p class ≡ Some m)
