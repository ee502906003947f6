-- A frame that stands at a lock: what the free lock guards is taken in, and the lock with it.
use Rattle.std.proofs.Common.{◌≡◌, ℕ, ◌+◌, ◌≤◌, Bool, false, Some, List, [], ◌∷◌, refl, sym, subst, ◌∙◌, arith}
use Rattle.std.specs.Prelude.{drop}
use Rattle.pv_base.specs.declared.Name.{Name}
use Rattle.pv_base.specs.declared.Span.{Span}
use Rattle.pv_fraction.specs.Amounts.{whole}
use Rattle.pv_picks.specs.Plain.Core.{Formula, Lock, Program}
use Rattle.pv_picks.specs.Formulas.Heaps.{Heap}
use Rattle.pv_picks.specs.Judge.States as states
use Rattle.pv_picks.specs.Judge.States.{Resource, OfLock}
use Rattle.pv_picks.specs.Judge.Permissions.{add_lock}
use Rattle.pv_picks.specs.Judge.Inhaling.{inhale}
use Rattle.pv_picks.specs.Judge.Rows.{bind_on}
use Rattle.pv_picks.specs.Machine.Tasks.{AtAction, Task, Stand}
use Rattle.pv_picks.specs.Machine.Frames.{Frame, pops, only_now, outer_scene}
use Rattle.pv_picks.specs.Typing.Expressions.{silent}
use Rattle.core_trees.specs.Formulas.{in_class}
use Rattle.account_formulas.specs.Runs.{truly, RestNeverFails}
use Rattle.account_formulas.specs.Good.{IsGood}
use Rattle.account_formulas.specs.Owning.{Amounts, Owns, HasTrees}
use Rattle.account_formulas.specs.Growing.{HeapFits}
use Rattle.account_formulas.specs.Gaining.{PredicatesFit, Gained}
use Rattle.account_formulas.proofs.Basics.{only}
use Rattle.account_formulas.proofs.Raising.{GainedOne, add_goes}
use Rattle.account.specs.Running.{ran}
use Rattle.account.specs.Frames as account
use Rattle.account.specs.Frames.{IsRunOf, amounts_of}
use Rattle.account_threads.proofs.OfObject.{nothing_known, object_gains}
use Rattle.account_threads.proofs.Acting.{object_on, SaysLeft, run_after, acts_on_class, says_after, acted}

-- what a lock comes to
pub record LockGoes (p : Program) (flags : ℕ → Bool) (heap : Heap) (f : Frame) (r : account.Run) (class : Name)
    (rest : List Task) (part : Amounts) : Type 0 where
  pub run : account.Run
  pub fits : IsRunOf p flags heap (pops 1 f rest) run
  pub says : SaysLeft p f run rest
  pub more : (q : Resource) → amounts_of run q ≤ amounts_of r q + part q + only (OfLock class (object_on f)) whole q
  pub past : run.past ≡ r.past
  pub body : run.body ≡ r.body

module _ (p : Program) (flags : ℕ → Bool) (heap : Heap) (sound : HeapFits p heap) (framed : PredicatesFit p heap) where
  pub locks_go : (f : Frame) (r : account.Run) → IsRunOf p flags heap f r
      → (class : Name) (span : Span) (rest : List Task) → f.tasks ≡ Stand (AtAction Lock class span) ∷ rest
      → (i : Formula) → IsGood (in_class p class) silent [] i → heap.class (object_on f) ≡ Some class
      → (part : Amounts) → Owns p flags (only_now heap) (outer_scene (object_on f) [] []) i part
      → ((q : Resource) → amounts_of r q + part q ≤ whole)
      → amounts_of r (OfLock class (object_on f)) + part (OfLock class (object_on f)) ≡ 0
      → RestNeverFails r.taken (λ maps. inhale (truly maps) (bind_on (object_on f)) i
      (add_lock (truly maps) class (object_on f) (ran (truly maps) p r.body false rest (drop 1 f.values))) r.state)
      → LockGoes p flags heap f r class rest part
  locks_go f r fits class span rest is i good placed part owns most free never = record {
    run = run_after r one.after got.then_taken got.trees;
    fits = acted p flags heap f r fits Lock class span rest is got.then_taken one.after got.trees got.goes one.raised.fine
        (one.scene ∙ got.scene) (one.kept ∙ got.kept)
        (subst (λ I. HasTrees p flags heap I got.trees) (sym one.instances) got.has_trees) one.never;
    says = says_after p flags heap f r fits Lock class span rest is;
    more = λ q. let a = one.sum q in let b = got.sum q in omega (arith, a, b);
    past = refl;
    body = refl;
  }
    where
      got : Gained p flags heap nothing_known (λ sight. Owns p flags sight (outer_scene (object_on f) [] []) i) r.taken r.state
          r.trees part
          (λ maps. add_lock (truly maps) class (object_on f) (ran (truly maps) p r.body false rest (drop 1 f.values)))
      got = object_gains p flags heap sound framed class (object_on f)
          (acts_on_class p flags heap f r fits Lock class span rest is) i good part owns r.taken r.state fits.state.fits r.trees
          fits.state.trees (λ q. let m = most q in omega (arith, m))
          (λ maps. add_lock (truly maps) class (object_on f) (ran (truly maps) p r.body false rest (drop 1 f.values))) never

      empty : states.amount_of got.after (OfLock class (object_on f)) ≡ 0
      empty = let s = got.sum (OfLock class (object_on f)) in omega (arith, s, free)

      one : GainedOne flags heap got.then_taken got.after (OfLock class (object_on f)) whole
          (λ maps. ran (truly maps) p r.body false rest (drop 1 f.values))
      one = add_goes flags heap sound.beyond got.then_taken (OfLock class (object_on f))
          (λ maps. ran (truly maps) p r.body false rest (drop 1 f.values)) got.after got.fine placed (λ x. tt) empty got.never
