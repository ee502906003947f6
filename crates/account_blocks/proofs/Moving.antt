-- A member of a block goes on by a step or ends, while amounts go between its run, what it left, and the mail.
use Rattle.std.proofs.Common.{◌≡◌, ℕ, suc, ◌≤◌, ◌<◌, ℤ, pos, true, false, List, ◌∷◌, ap, sym, subst, ◌∙◌, arith}
use Rattle.std.specs.Prelude.{nat_eq, ◌-ℤ◌}
use Rattle.pv_base.specs.declared.Name.{Name}
use Rattle.pv_picks.specs.Plain.Core.{Program}
use Rattle.pv_picks.specs.Judge.States.{Resource, OfLock}
use Rattle.pv_picks.specs.Machine.Frames.{Frame}
use Rattle.pv_picks.specs.Machine.Worlds.{Role, MemberOf, World, has_no_frame, with_frames}
use Rattle.account_formulas.specs.Owning.{Amounts}
use Rattle.account.specs.Frames.{Run, all_of, AreRunsOf}
use Rattle.account.specs.Owners.{Mail, Owners, sum_below, lies_at, at_thread, total, with_runs}
use Rattle.account.specs.Messages.{ReceivesNone, Lies}
use Rattle.account.specs.Accounts.{Account}
use Rattle.account.proofs.Sums.{sums_less}
use Rattle.account.proofs.Moving.{GoesOn, LeavesEnough, OthersKeep, others_here, with_lying, each, role_same, threads_moved, roles_moved, blocks_moved, known_moved}

pub has_one : (fs : List Frame) (f : Frame) (below : List Frame) → fs ≡ f ∷ below → has_no_frame fs ≡ false
has_one fs f below e = ap has_no_frame e

-- what holds at the block and the position of a member holds wherever it is a member
pub as_member_of : (b : ℕ) (spot : ℤ) (role : Role) → role ≡ MemberOf b spot → (P : ℕ → ℤ → Type 0) → P b spot
    → (c : ℕ) (position : ℤ) → role ≡ MemberOf c position → P c position
as_member_of b spot role is P h c position is' =
    let both : MemberOf b spot ≡ MemberOf c position = sym is ∙ is' in
    let one : b ≡ c = cc both in
    let two : spot ≡ position = cc both in
    subst (λ z. P z position) one (subst (λ z. P b z) two h)

module _ (p : Program) (w : World) (a : Account p w) (i : ℕ) (frames : List Frame) (runs : List Run) (left : ℕ → Amounts)
    (mail : ℕ → Mail) where
  abbrev pub after : Owners
  after = with_lying (with_runs a.owners i runs) left mail

  -- what is asked of such a step
  pub record Moves : Type 1 where
    pub fits : AreRunsOf p w.committed w.heap frames runs
    pub goes : GoesOn w.threads a.owners i frames runs
    -- no more is owned
    pub less : (q : Resource) → sum_below (λ j. at_thread after j q) w.count ≤ sum_below (λ j. at_thread a.owners j q) w.count
    pub locks : (class : Name) (x : ℕ) → all_of runs (OfLock class x) ≤ all_of (a.owners.runs i) (OfLock class x)
    pub no_locks : (j : ℕ) → j < w.count → (class : Name) (x : ℕ) → lies_at after j (OfLock class x) ≡ 0
    -- other threads left what they did, but for members of a block that this thread closes
    pub stays : (j : ℕ) → nat_eq j i ≡ false → (c : ℕ) (position : ℤ) → (w.threads j).role ≡ MemberOf c position
        → (has_no_frame (w.threads j).frames ≡ true → nat_eq (w.blocks c).opener i ≡ false) → left j ≡ a.owners.left j
    pub enough : LeavesEnough p w.committed w.heap (w.threads i).role w.blocks a.owners frames runs (left i)
    pub there : (j : ℕ) → j < w.count → (c : ℕ) (position : ℤ) → (w.threads j).role ≡ MemberOf c position
        → (label : Name) → (ReceivesNone label ((with_frames w i frames).threads j).frames → ⊥)
        → (w.blocks c).sent label (position -ℤ pos (a.owners.messages c label).distance) ≡ true
        → Lies p w.committed w.heap (a.owners.openings c) (w.blocks c)
        (position -ℤ pos (a.owners.messages c label).distance) (a.owners.messages c label) label (mail j)

  -- the world after the step is accounted for
  unfoldable pub moved : i < w.count → Moves → Account p (with_frames w i frames)
  moved inside m = record {
    owners = after;
    threads = threads_moved p w.committed w.heap w.heap w.count w.threads a.owners i others frames runs m.goes a.threads m.fits;
    sums = sums_less w.heap w.state w.committed (total a.owners w.count (suc w.heap.count))
        (total after w.count (suc w.heap.count)) (λ q. let l = m.less q in omega (arith, l)) a.sums;
    locks = record {
      held = λ j l class x h. a.locks.held j l class x
          (each p w.committed w.heap w.heap w.count w.threads a.owners i others frames runs
          (λ k t y. 1 ≤ all_of y (OfLock class x) → 1 ≤ all_of (a.owners.runs k) (OfLock class x))
          (λ more. let k = m.locks class x in omega (arith, k, more)) (λ k apart more. more) j h);
      threads = m.no_locks;
      objects_have_none = a.locks.objects_have_none;
    };
    objects = a.objects;
    roles = roles_moved p w.committed w.heap w.heap w.count w.threads a.owners i others frames runs m.goes w.state a.roles;
    blocks = blocks_moved p w.committed w.heap w.heap w.count w.threads a.owners i others frames runs m.goes w.blocks left m.stays
        m.enough w.block_count mail a.owners.promise a.owners.guard a.blocks;
    mail = record {
      known = known_moved p w.committed w.heap w.heap w.count w.threads a.owners i others frames runs m.goes w.blocks a.mail;
      there = λ j l c position is label awaited was.
          m.there j l c position
          (sym (role_same p w.committed w.heap w.heap w.count w.threads a.owners i others frames runs j) ∙ is) label awaited was;
    };
  }
    where
      others : OthersKeep w.heap w.heap w.count a.owners i
      others = others_here w.heap w.count a.owners i
