-- In a reached world both forms of each contract that members keep are made alike, for the variable of their block.
use Rattle.std.proofs.Common.{◌≡◌, refl, sym, subst, ℕ, suc, ℤ, ◌<◌, Bool, true, false, Some, List, [], ◌∷◌, nat_eq, arith}
use Rattle.std.specs.Prelude.{if◌then◌else◌}
use Rattle.pv_base.specs.declared.Span.{Span}
use Rattle.pv_ast.specs.declared.Program.{Program}
use Rattle.pv_ast.specs.Rules.WellFormed.{IsWellFormed}
use Rattle.pv_picks.specs.Plain.Core.{Team, Barrier, Block}
use Rattle.pv_picks.specs.Machine.Tasks.{AtOpen, AtArrive, Task, Stand}
use Rattle.pv_picks.specs.Machine.Frames.{Frame}
use Rattle.pv_picks.specs.Machine.Safety.{IsReached}
use Rattle.pv_picks.specs.Machine.Starts.{Start, first_world}
use Rattle.pv_picks.specs.Machine.Worlds.{Mode, OpenBlock, World, at_message}
use Rattle.core_trees.specs.Placing.{InBlock, environment_members}
use Rattle.pv_picks.specs.Elaborating.Programs.{core_of}
use Rattle.machine_laws.proofs.Growth.{kept_block}
use Rattle.machine_laws.proofs.Members.{below_other}
use Rattle.machine_laws.proofs.Changes.{IsKeptBy, reached_keeps}
use Rattle.core_names.specs.Carrying.{membership_of, InWorld}
use Rattle.core_sharing.specs.Keeping.{SaidOfBarrier}
use Rattle.core_sharing.specs.Forms.{SameShared}
use Rattle.account.specs.Blocks.{FormsAreAlike}
use Rattle.account.specs.Members.{IsMemberAt}
use Rattle.soundness.specs.Waiting.{TasksShare, FrameShares}
use Rattle.soundness.specs.WorldLaws.{BothFormsStayAlike}
use Rattle.soundness.proofs.Forms.{forms_alike}
use Rattle.soundness.proofs.Standing.{teams_of, innermost, shares_in, stands_sharing}

-- what a member shares in its own body
pub member_shares : (w : World) (all : InWorld FrameShares w) (i b : ℕ) (position : ℤ) (f : Frame) (tasks : List Task)
    → IsMemberAt w i b position f tasks
    → FrameShares (Some (record { team = (w.blocks b).team; opening = all.0 b; position = position })) f
member_shares w all i b position f tasks at =
    subst (λ r. FrameShares (membership_of (teams_of w) all.0 r) f) at.role (innermost w all i f [] at.stack)

in_par_block : (counted : Bool) → environment_members counted ≡ InBlock → counted ≡ false
in_par_block true is = absurd cc
in_par_block false is = refl

arrival_alike : (w : World) → InWorld FrameShares w → (i b : ℕ) (position : ℤ) (f : Frame) (barrier : Barrier) (span : Span)
    (rest : List Task) → IsMemberAt w i b position f (Stand (AtArrive barrier span) ∷ rest)
    → FormsAreAlike (w.blocks b).team barrier.shared
arrival_alike w all i b position f barrier span rest at =
    let s = member_shares w all i b position f (Stand (AtArrive barrier span) ∷ rest) at in
    let k = (subst (TasksShare (environment_members (w.blocks b).team.counted) s.position) at.stands s.tasks).0 in
    forms_alike (w.blocks b).team barrier.shared
    (subst (λ o. SaidOfBarrier SameShared o barrier.shared) (s.inside.2 (in_par_block (w.blocks b).team.counted k.0)) k.1)

opening_alike : (w : World) → InWorld FrameShares w → (i : ℕ) (f : Frame) (below : List Frame) → (w.threads i).frames ≡ f ∷ below
    → (team : Team) (body : Block) (rest : List Task) → f.tasks ≡ Stand (AtOpen team body) ∷ rest → FormsAreAlike team team.shared
opening_alike w all i f below stack team body rest is =
    forms_alike team team.shared
    (stands_sharing w all i f below stack (AtOpen team body) rest is).0

-- Blocks that were opened

abbrev BlocksAreAlike : World → Type 0
BlocksAreAlike w = (b : ℕ) → b < w.block_count → FormsAreAlike (w.blocks b).team (w.blocks b).team.shared

abbrev IsAlike : OpenBlock → Type 0
IsAlike block = FormsAreAlike block.team block.team.shared

kept : (p : Program) → IsWellFormed p → (w : World) → IsReached (core_of p) w → BlocksAreAlike w → (i : ℕ) (f : Frame)
    (below : List Frame) → (w.threads i).frames ≡ f ∷ below → IsKeptBy (core_of p) w i f BlocksAreAlike
kept p well w reached h i f below stack = record {
  moves = λ frames b less. h b less;
  makes = λ heap frames more b less. h b less;
  forks = λ object acts frames begun b less. h b less;
  joins = λ object acts frames b less. h b less;
  locks = λ object acts holder frames b less. h b less;
  commits = λ object acts frames b less. h b less;
  opens = λ team body rest is frames mode low high b less. opened team body rest is low high mode b
      (nat_eq b w.block_count) refl less;
  sends = λ frames block label sender b less.
      let same = kept_block block (record (w.blocks block) { sent = at_message label sender (w.blocks block).sent }) w.blocks
      (record { opener = refl; low = refl; high = refl; mode = refl; first = refl; team = refl }) b in
      subst (λ (t : Team). FormsAreAlike t t.shared) (sym same.team) (h b less);
  leaves = λ block place all b less. h b less;
  ends = λ object same b less. h b less;
}
  where
    opened : (team : Team) (body : Block) (rest : List Task) → f.tasks ≡ Stand (AtOpen team body) ∷ rest → (low high : ℤ)
        (mode : Mode) (b : ℕ) (x : Bool) → nat_eq b w.block_count ≡ x → b < suc w.block_count
        → IsAlike (if x then record {
          opener = i;
          low = low;
          high = high;
          mode = mode;
          first = w.count;
          team = team;
          sent = λ label sender. false;
        } else w.blocks b)
    opened team body rest is low high mode b true e less =
        opening_alike w (shares_in p well w reached) i f below stack team body rest is
    opened team body rest is low high mode b false e less = h b (below_other b w.block_count e less)

first_alike : (s : Start) → BlocksAreAlike (first_world s)
first_alike s b less = absurd (omega (arith, less))

pub stay_alike : BothFormsStayAlike
stay_alike p well w reached = record {
  opening = opening_alike w (shares_in p well w reached);
  blocks = reached_keeps (core_of p) BlocksAreAlike (λ s starts. first_alike s) (kept p well) w reached;
  arrivals = arrival_alike w (shares_in p well w reached);
}
