-- A thread at an action goes on: the frame behind the action, with its local work done, and its run.
use Rattle.std.proofs.Common.{◌≡◌, ℕ, Bool, List, ◌∷◌, refl, subst, sym}
use Rattle.pv_base.specs.declared.Name.{Name}
use Rattle.pv_base.specs.declared.Span.{Span}
use Rattle.pv_picks.specs.Plain.Core.{Action, Program}
use Rattle.pv_picks.specs.Formulas.Heaps.{Heap, at_number}
use Rattle.pv_picks.specs.Machine.Tasks.{AtAction, Task, Stand}
use Rattle.pv_picks.specs.Machine.Frames.{Frame, pops, settled}
use Rattle.pv_picks.specs.Machine.Worlds.{OpenBlock, Thread, ThreadState}
use Rattle.account_formulas.specs.Growing.{HeapFits}
use Rattle.account_formulas.specs.Gaining.{PredicatesFit}
use Rattle.account_formulas.specs.Owning.{Amounts}
use Rattle.account_formulas.specs.Still.{IsStill}
use Rattle.account.specs.Frames as account
use Rattle.account.specs.Frames.{IsRunOf, AllWait, called_of}
use Rattle.account.specs.Owners.{Owners}
use Rattle.account.specs.Messages.{TasksExchange}
use Rattle.account.specs.Going.{Goes}
use Rattle.account.proofs.LocalWork.{called_same, below_settled}
use Rattle.account.proofs.Moving.{Families, settles, settled_leaves_not, first_goes_on, leaves_nothing, others_here, owners_with, families_moved}

module _ (p : Program) (flags : ℕ → Bool) (heap : Heap) (sound : HeapFits p heap) (framed : PredicatesFit p heap)
    (f : Frame) (r : account.Run) (fits : IsRunOf p flags heap f r)
    (action : Action) (class : Name) (span : Span) (rest : List Task) (is : f.tasks ≡ Stand (AtAction action class span) ∷ rest)
    (run : account.Run) (past : run.past ≡ r.past) (body : run.body ≡ r.body) where
  still : IsStill f (pops 1 f rest)
  still = record { class = refl; method = refl; this = refl; begun = refl; old = refl }

  called : called_of (pops 1 f rest) run ≡ called_of f r
  called = called_same f (pops 1 f rest) r run still past body

  -- what is said of all threads goes on to hold
  pub families_go : (done : Goes p flags heap (settled (pops 1 f rest)) run) (count : ℕ) (threads : ℕ → Thread) (block_count : ℕ)
      (blocks : ℕ → OpenBlock) (state : ℕ → ThreadState) (o : Owners) (i : ℕ) (below : List Frame)
      → (threads i).frames ≡ f ∷ below → (rs : List account.Run) → o.runs i ≡ r ∷ rs
      → AllWait p flags heap (called_of f r) below rs → (promise guard : ℕ → Amounts)
      → Families p flags heap count threads block_count blocks state o
      → Families p flags heap count
      (at_number i (record { role = (threads i).role; frames = settled (pops 1 f rest) ∷ below }) threads) block_count blocks
      state
      (owners_with o i (done.run ∷ rs) promise guard)
  families_go done count threads block_count blocks state o i below stack rs has_runs waits promise guard =
      families_moved p flags heap heap count threads o i (others_here heap count o i) (settled (pops 1 f rest) ∷ below)
      (done.run ∷ rs)
      (first_goes_on threads o i f below stack r rs has_runs (settled (pops 1 f rest)) done.run
      (λ b ts e. absurd (cc (is, e)))
      (settles p flags heap f (pops 1 f rest) r run still body done
      (λ S R h. (subst (TasksExchange S R) is h).1)))
      block_count blocks state (
        done.fits,
        below_settled p flags heap sound framed (pops 1 f rest) run done below rs
            (subst (λ c. AllWait p flags heap c below rs) (sym called) waits),
      )
      (leaves_nothing p flags heap (threads i).role blocks o (settled (pops 1 f rest)) below (done.run ∷ rs) (o.left i)
      (settled_leaves_not p flags heap (pops 1 f rest) run done)) promise guard
