-- A step of an accounted thread at its first frame, and the world after it.
use Rattle.std.proofs.Common.{◌≡◌, ℕ, suc, ◌+◌, ◌≤◌, ◌<◌, Option, List, ◌∷◌, refl, ap, sym, subst, arith}
use Rattle.pv_values.specs.declared.value.Value.{Value}
use Rattle.pv_values.specs.declared.value.Location.{Location}
use Rattle.pv_picks.specs.Plain.Core.{Message, Program}
use Rattle.pv_picks.specs.Formulas.Heaps.{Heap}
use Rattle.pv_picks.specs.Judge.States.{Resource}
use Rattle.pv_picks.specs.Machine.Tasks.{AtClose, Step, Task, Stand}
use Rattle.pv_picks.specs.Machine.Frames.{Frame, settled}
use Rattle.pv_picks.specs.Machine.Worlds.{Mode, World, has_no_frame, with_frames, with_heap}
use Rattle.pv_picks.specs.Machine.Steps.{act_step, act_tasks, act}
use Rattle.account_formulas.specs.Growing.{HeapFits}
use Rattle.account_formulas.specs.Gaining.{PredicatesFit}
use Rattle.account_formulas.specs.Owning.{Amounts, KeepsHeld}
use Rattle.account_formulas.specs.Still.{IsStill}
use Rattle.account.specs.Scoped.{TasksSay}
use Rattle.account.specs.Frames as account
use Rattle.account.specs.Frames.{amounts_of, all_of, standing_in, called_of, IsRunOf, AllWait, AreRunsOf}
use Rattle.account.specs.Owners.{nothing, total}
use Rattle.account.specs.Messages.{TasksExchange}
use Rattle.account.specs.Accounts.{Account, Kept}
use Rattle.account.proofs.Stepping.{own_most, by_run}
use Rattle.account.specs.Going.{Goes}
use Rattle.account.proofs.LocalWork.{called_same, settled_goes, below_settled}
use Rattle.account_accesses.specs.Standing.{StandsAt}
use Rattle.account.proofs.Later.{Grown, grown_same, keeps_same}
use Rattle.account.proofs.Moving.{settles, settled_leaves_not, first_goes_on, leaves_nothing}
use Rattle.account.proofs.Onward.{nothing_new, accounted}

-- a thread that stands at a step does it or waits
pub acts : (p : Program) (w : World) (a : Account p w) (i : ℕ) (mode : Mode) (step : Step) (f : Frame) (below : List Frame)
    (rest : List Task) → StandsAt w i step f below rest
    → (i < w.count → (r : account.Run) (rs : List account.Run) → a.owners.runs i ≡ r ∷ rs → IsRunOf p w.committed w.heap f r
    → AllWait p w.committed w.heap (called_of f r) below rs → Kept p (act_step p w i f below mode step rest))
    → Kept p (act p w mode i)
acts p w a i mode step f below rest at kept = by_run p w a i inside f below at.frames mode (λ r rs e fits.
    subst (λ ts. Kept p (act_tasks p w i f below mode ts)) (sym at.tasks) (kept inside r rs e fits.0 fits.1))
  where
    inside : i < w.count
    inside = a.threads.live i (ap has_no_frame at.frames)

-- a thread has done its step, up to its local work, over a later heap
pub record Stepped (p : Program) (w : World) (a : Account p w) (i : ℕ) (f : Frame) (below : List Frame)
    (value : Location → Option Value) (g : Frame) : Type 1 where
  pub run : account.Run
  pub old : account.Run
  pub others : List account.Run
  pub had : a.owners.runs i ≡ old ∷ others
  pub fits : IsRunOf p w.committed (record w.heap { value = value }) g run
  pub says : TasksSay (standing_in p g.class run.body run.outer) run.inner run.scope run.given run.stack g.tasks
  pub waits : AllWait p w.committed (record w.heap { value = value }) (called_of f old) below others
  pub less : (q : Resource) → amounts_of run q ≤ amounts_of old q
  pub still : IsStill f g
  pub past : run.past ≡ old.past
  pub body : run.body ≡ old.body
  pub stood : (block : ℕ) (ts : List Task) → f.tasks ≡ Stand (AtClose block) ∷ ts → ⊥
  pub messages : (S R : Message → Type 0) → TasksExchange S R f.tasks → TasksExchange S R g.tasks
  pub grown : Grown w.heap (record w.heap { value = value })
  pub keeps : (B : Amounts) → ((q : Resource) → B q + all_of (old ∷ others) q ≤ total a.owners w.count (suc w.heap.count) q)
      → KeepsHeld B w.heap (record w.heap { value = value })
  pub heap : HeapFits p (record w.heap { value = value })
  pub predicates : PredicatesFit p (record w.heap { value = value })

-- a world's heap with other values
abbrev later : World → (Location → Option Value) → Heap
later w value = record w.heap { value = value }

-- the world after its local work is accounted for
pub steps_on : (p : Program) (w : World) (a : Account p w) (i : ℕ) → i < w.count → (f : Frame) (below : List Frame)
    → (w.threads i).frames ≡ f ∷ below → (value : Location → Option Value) (g : Frame) → Stepped p w a i f below value g
    → Account p (with_heap (with_frames w i (settled g ∷ below)) (record w.heap { value = value }))
steps_on p w a i inside f below stack value g s = accounted p w a i inside (later w value) (settled g ∷ below) (record {
  runs = done.run ∷ s.others;
  fits = (
    done.fits,
    below_settled p w.committed (later w value) s.heap s.predicates g s.run done below s.others
        (subst (λ c. AllWait p w.committed (later w value) c below s.others)
        (sym (called_same f g s.old s.run s.still s.past s.body)) s.waits),
  );
  goes = first_goes_on w.threads a.owners i f below stack s.old s.others s.had (settled g) done.run
      (λ b ts at. absurd (s.stood b ts at))
      (settles p w.committed (later w value) f g s.old s.run s.still s.body done s.messages);
  leaves = leaves_nothing p w.committed (later w value) (w.threads i).role w.blocks a.owners (settled g) below
      (done.run ∷ s.others)
      (a.owners.left i) (settled_leaves_not p w.committed (later w value) g s.run done);
  fresh = nothing;
  less = λ q. let one = done.less q in let two = s.less q in let same = ap (λ rs. all_of rs q) s.had in
      omega (arith, one, two, same);
  new = nothing_new p w a (later w value) refl;
  grown = s.grown;
  null = λ class is. is;
  keeps = λ B less. s.keeps B (λ q. let l = less q in let same = ap (λ rs. all_of rs q) s.had in omega (arith, l, same));
})
  where
    done : Goes p w.committed (later w value) (settled g) s.run
    done = settled_goes p w.committed (later w value) s.heap s.predicates g s.run s.fits s.says (λ q.
        let one = own_most p w a i inside (s.old ∷ s.others) s.had q in let less = s.less q in omega (arith, one, less))

-- the same where the heap stays
pub steps_here : (p : Program) (w : World) (a : Account p w) → HeapFits p w.heap → PredicatesFit p w.heap
    → (i : ℕ) → i < w.count → (f : Frame) (below : List Frame) → (w.threads i).frames ≡ f ∷ below
    → (r : account.Run) (rs : List account.Run) → a.owners.runs i ≡ r ∷ rs
    → AllWait p w.committed w.heap (called_of f r) below rs
    → (g : Frame) → Goes p w.committed w.heap g r → IsStill f g
    → ((block : ℕ) (ts : List Task) → f.tasks ≡ Stand (AtClose block) ∷ ts → ⊥)
    → ((S R : Message → Type 0) → TasksExchange S R f.tasks → TasksExchange S R g.tasks)
    → Account p (with_frames w i (settled g ∷ below))
steps_here p w a heap predicates i inside f below stack r rs had waits g goes still stood messages =
    steps_on p w a i inside f below stack w.heap.value g (record {
      run = goes.run;
      old = r;
      others = rs;
      had = had;
      fits = goes.fits;
      says = goes.says;
      waits = waits;
      less = goes.less;
      still = still;
      past = goes.past;
      body = goes.body;
      stood = stood;
      messages = messages;
      grown = grown_same w.heap;
      keeps = λ B less. keeps_same B w.heap;
      heap = heap;
      predicates = predicates;
    })
