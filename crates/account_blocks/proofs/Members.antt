-- A member that stands in its body: its block, its opener and its run.
use Rattle.std.proofs.Common.{◌≡◌, ℕ, ◌+◌, ◌≤◌, ◌<◌, ℤ, if◌then◌else◌, Some, List, [], ◌∷◌, refl, ap, subst, ◌∙◌, arith}
use Rattle.std.proofs.lemmas.Option.{none-some}
use Rattle.pv_ast.specs.declared.PvType.TheVariants.{Int}
use Rattle.pv_values.specs.declared.value.Value.TheVariants as value
use Rattle.pv_fraction.specs.Amounts.{whole}
use Rattle.pv_picks.specs.Plain.Core.{Program}
use Rattle.pv_picks.specs.Formulas.Values.{number_in}
use Rattle.pv_picks.specs.Judge.States.{Resource}
use Rattle.pv_picks.specs.Machine.Tasks.{Task}
use Rattle.pv_picks.specs.Machine.Frames.{Frame}
use Rattle.pv_picks.specs.Machine.Worlds.{MemberOf, World}
use Rattle.pv_picks.specs.Typing.Expressions.{silent, type_in}
use Rattle.account_formulas.specs.Agreeing.{ScenesAgree}
use Rattle.account_formulas.proofs.Basics.{nat_self}
use Rattle.account.specs.Frames.{Run, amounts_of, all_of, AreRunsOf, IsRunOf}
use Rattle.account.specs.Owners.{lies_at, at_thread}
use Rattle.account.specs.Objects.{AtBottom}
use Rattle.account.specs.Blocks.{scene_at, WaitsForMembers, IsMember, MemberRuns}
use Rattle.account.specs.Accounts.{Account}
use Rattle.account.proofs.Sums.{part_of}
use Rattle.account_blocks.proofs.Moving.{has_one}
use Rattle.account_blocks.proofs.Sites.{site_scene}

module _ (p : Program) (w : World) (a : Account p w) (i : ℕ) (inside : i < w.count) (f : Frame)
    (stack : (w.threads i).frames ≡ f ∷ []) (b : ℕ) (spot : ℤ) (role : (w.threads i).role ≡ MemberOf b spot) where
  -- it is one of the members of its block
  pub member : MemberRuns p w.committed w.heap w.count w.threads (a.owners.left i) (a.owners.openings b) i b (w.blocks b) spot
      (a.owners.runs i)
  member = a.blocks.members i inside b spot role (has_one (w.threads i).frames f [] stack)

  -- the frame that waits for it
  pub record Opener : Type 0 where
    pub frame : Frame
    pub rest : List Task
    pub run : Run
    pub waits : WaitsForMembers p w.committed w.heap w.count w.threads w.block_count a.owners.left (a.owners.openings b)
        (w.blocks b).opener b (w.blocks b) frame run rest
    pub fits : IsRunOf p w.committed w.heap frame run

  pub opener : Opener
  opener = by (a.owners.runs (w.blocks b).opener) refl
      (subst (λ fs. AreRunsOf p w.committed w.heap fs (a.owners.runs (w.blocks b).opener)) member.stack
      (a.threads.frames (w.blocks b).opener member.opener))
    where
      by : (rs : List Run) → a.owners.runs (w.blocks b).opener ≡ rs
          → AreRunsOf p w.committed w.heap (member.frame ∷ member.below) rs → Opener
      by [] e fits = absurd fits
      by (r ∷ rs) e fits = record {
        frame = member.frame;
        rest = member.rest;
        run = r;
        waits = a.blocks.openers (w.blocks b).opener member.opener member.frame member.below r rs b member.rest member.stack e
            member.waits;
        fits = fits.0;
      }

  -- its run
  pub record Stood : Type 0 where
    pub run : Run
    pub has_runs : a.owners.runs i ≡ run ∷ []
    pub fits : IsRunOf p w.committed w.heap f run
    pub is : IsMember (a.owners.openings b) (w.blocks b) spot f run

  pub stood : Stood
  stood = by (a.owners.runs i) refl (subst (λ fs. AreRunsOf p w.committed w.heap fs (a.owners.runs i)) stack
      (a.threads.frames i inside))
    where
      by : (rs : List Run) → a.owners.runs i ≡ rs → AreRunsOf p w.committed w.heap (f ∷ []) rs → Stood
      by [] e fits = absurd fits
      by (r ∷ s ∷ rs) e fits = absurd fits.1
      by (r ∷ []) e fits = record {
        run = r;
        has_runs = e;
        fits = fits.0;
        is = subst (λ rs. AtBottom (IsMember (a.owners.openings b) (w.blocks b) spot) (f ∷ []) rs) e
            (subst (λ fs. AtBottom (IsMember (a.owners.openings b) (w.blocks b) spot) fs (a.owners.runs i)) stack member.member);
      }

  -- the head of its body has its position
  pub here : number_in (stood.run.body.site.begun stood.run.body.site.variable.0) ≡ spot
  here =
      ap (λ x. number_in (stood.run.body.site.begun x.0)) stood.is.variable
      ∙ (ap number_in (stood.fits.body.same (w.blocks b).team.variable Int
      (ap (λ xs. type_in xs (w.blocks b).team.variable) stood.is.head
      ∙ ap (λ t. if t then Some Int else type_in (a.owners.openings b).scope (w.blocks b).team.variable)
      (nat_self (w.blocks b).team.variable.0)))
      ∙ (ap (λ v. number_in (v (w.blocks b).team.variable.0)) stood.is.begun
      ∙ ap (λ t. number_in (if t then value.Number spot
      else (a.owners.openings b).scene.variables (w.blocks b).team.variable.0)) (nat_self (w.blocks b).team.variable.0)))

  -- the scene of its contract is that of the opener at its position
  pub scenes_agree : ScenesAgree silent stood.run.body.head (site_scene stood.run.body.site stood.run.state)
      (scene_at (a.owners.openings b) (w.blocks b).team spot)
  scenes_agree = record {
    this = stood.fits.state.this ∙ stood.is.this;
    variables = λ n t is. stood.fits.body.same n t is ∙ ap (λ v. v n.0) stood.is.begun;
    result = λ t is. absurd (none-some t is);
  }

  -- what it has is part of all
  pub part_of_all : (q : Resource) → amounts_of stood.run q + lies_at a.owners i q ≤ whole
  part_of_all q =
      let one = part_of (λ j. at_thread a.owners j q) w.count i inside in
      let two = a.sums.most q in
      let same = ap (λ x. all_of x q) stood.has_runs in omega (arith, one, two, same)
