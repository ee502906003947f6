-- The step of a thread in an accounted world, by the run of its innermost frame.
use Rattle.std.proofs.Common.{◌≡◌, ◌≤◌, ◌<◌, ℕ, zero, suc, Bool, true, false, List, [], ◌∷◌, refl, ap, sym, subst, arith}
use Rattle.std.specs.Prelude.{nat_eq, not}
use Rattle.pv_fraction.specs.Amounts.{whole}
use Rattle.pv_picks.specs.Plain.Core.{Program}
use Rattle.pv_picks.specs.Judge.States.{Resource}
use Rattle.pv_picks.specs.Machine.Tasks.{Step, Task, Stand}
use Rattle.pv_picks.specs.Machine.Frames.{Frame}
use Rattle.pv_picks.specs.Machine.Worlds.{Mode, World, is_held_back}
use Rattle.pv_picks.specs.Machine.Steps.{waits_unless, not_null, act_tasks, act_frames, act}
use Rattle.account_formulas.specs.Runs.{truly, RestNeverFails}
use Rattle.account.specs.Running.{ran}
use Rattle.account.specs.Scoped.{FrameSays}
use Rattle.account.specs.Frames as account
use Rattle.account.specs.Frames.{amounts_of, all_of, standing_in, opened, AllTakeTurns, IsRunOf, AllWait, AreRunsOf}
use Rattle.account.specs.Accounts.{Account, Kept}
use Rattle.account.proofs.Sums.{runs_in_total}

pub is_not_null : (n : ℕ) → nat_eq n 0 ≡ false → not_null n ≡ true
is_not_null zero e = absurd (cc e)
is_not_null (suc n) e = refl

-- what a thread's runs have is at most the whole
pub own_most : (p : Program) (w : World) (a : Account p w) (i : ℕ) → i < w.count → (rs : List account.Run) → a.owners.runs i ≡ rs
    → (q : Resource) → all_of rs q ≤ whole
own_most p w a i l rs has q =
    let one = runs_in_total a.owners w.count (suc w.heap.count) q i l in
    let two = a.sums.most q in
    let same = ap (λ x. all_of x q) has in
    omega (arith, one, two, same)

module _ (p : Program) (w : World) (a : Account p w) (i : ℕ) (inside : i < w.count) (f : Frame) (below : List Frame)
    (stack : (w.threads i).frames ≡ f ∷ below) where
  -- a step keeps the account where it does so by the runs of the thread, of which the first is that of the innermost frame
  pub by_run : (mode : Mode)
      → ((r : account.Run) (rs : List account.Run) → a.owners.runs i ≡ r ∷ rs
      → AreRunsOf p w.committed w.heap (f ∷ below) (r ∷ rs)
      → Kept p (act_tasks p w i f below mode f.tasks))
      → Kept p (act p w mode i)
  by_run mode keeps =
      subst (λ fs. Kept p (act_frames p w mode i fs)) (sym stack) (held_back (not (is_held_back w i))
      (of_runs (a.owners.runs i) refl
      (subst (λ fs. AreRunsOf p w.committed w.heap fs (a.owners.runs i)) stack (a.threads.frames i inside))))
    where
      held_back : (b : Bool) → Kept p (act_tasks p w i f below mode f.tasks)
          → Kept p (waits_unless b (act_tasks p w i f below mode f.tasks))
      held_back true k = k
      held_back false k = tt

      of_runs : (rs : List account.Run) → a.owners.runs i ≡ rs → AreRunsOf p w.committed w.heap (f ∷ below) rs
          → Kept p (act_tasks p w i f below mode f.tasks)
      of_runs [] e fits = absurd fits
      of_runs (r ∷ rs) e fits = keeps r rs e fits

module _ (p : Program) (w : World) (f : Frame) (r : account.Run) (fits : IsRunOf p w.committed w.heap f r) where
  -- the run of the tasks, and what they say, where they begin with a step
  pub never_at : (step : Step) (rest : List Task) → f.tasks ≡ Stand step ∷ rest
      → RestNeverFails r.taken (λ maps. ran (truly maps) p r.body r.inner (Stand step ∷ rest) f.values r.state)
  never_at step rest is =
      subst (λ ts. RestNeverFails r.taken (λ maps. ran (truly maps) p r.body r.inner ts f.values r.state)) is fits.never

  pub says_at : (step : Step) (rest : List Task) → f.tasks ≡ Stand step ∷ rest
      → FrameSays (standing_in p f.class r.body r.outer) r.inner r.scope r.given r.stack (Stand step ∷ rest)
  says_at step rest is =
      subst (λ ts. FrameSays (standing_in p f.class r.body r.outer) r.inner r.scope r.given r.stack ts) is fits.tasks
