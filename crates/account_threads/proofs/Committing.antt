-- A frame that stands at a commit: what the invariant of its object asks for is given up, and the token with it. The object is
-- committed already in what is said.
use Rattle.std.proofs.Common.{◌≡◌, ℕ, ◌+◌, ◌-◌, ◌≤◌, Bool, true, false, ◌&&◌, ◌||◌, Some, List, [], ◌∷◌, refl, sym, subst, arith}
use Rattle.std.specs.Prelude.{nat_eq, nat_le, drop}
use Rattle.pv_base.specs.declared.Name.{Name}
use Rattle.pv_base.specs.declared.Span.{Span}
use Rattle.pv_ast.specs.declared.PvType.TheVariants.{Object}
use Rattle.pv_ast.specs.declared.Token.TheVariants as token
use Rattle.pv_values.specs.declared.value.Value.TheVariants as value
use Rattle.pv_base.specs.Names.{same_name}
use Rattle.pv_fraction.specs.Amounts.{whole}
use Rattle.pv_picks.specs.declared.check.Check.TheVariants as check
use Rattle.pv_picks.specs.Plain.Core.{Formula, Commit, Program}
use Rattle.pv_picks.specs.Plain.Members.{invariant_of}
use Rattle.pv_picks.specs.Formulas.Heaps.{Heap}
use Rattle.pv_picks.specs.Formulas.Meeting.{IsMet}
use Rattle.pv_picks.specs.Judge.States as states
use Rattle.pv_picks.specs.Judge.States.{Resource, OfToken, State, amount_of, with_amount}
use Rattle.pv_picks.specs.Judge.Permissions.{add_token}
use Rattle.pv_picks.specs.Judge.Rows.{bind_on, exhale_at}
use Rattle.pv_picks.specs.Judge.Judging.{formula_of}
use Rattle.pv_picks.specs.Machine.Tasks.{AtAction, Task, Stand}
use Rattle.pv_picks.specs.Machine.Frames.{Frame, pops, only_now, outer_scene}
use Rattle.pv_picks.proofs.Sames.{back, naturals_same}
use Rattle.pv_picks.specs.Typing.Frames.{HasType}
use Rattle.account_formulas.specs.Runs.{Taken, truly, RestNeverFails}
use Rattle.account_formulas.specs.Owning.{Amounts, Owns, KeepsOwning}
use Rattle.account_formulas.specs.Growing.{StateFits, HeapFits}
use Rattle.account_formulas.specs.Giving.{Gave, with_left}
use Rattle.account_formulas.specs.Gaining.{PredicatesFit}
use Rattle.account_formulas.proofs.Basics.{at_most}
use Rattle.account_formulas.proofs.Laws.{left_fits}
use Rattle.account_formulas.proofs.Lengths.{goes_on_same}
use Rattle.account.specs.Running.{ran}
use Rattle.account.specs.Frames as account
use Rattle.account.specs.Frames.{IsRunOf, amounts_of}
use Rattle.account.specs.Owners.{without_locks}
use Rattle.account_threads.specs.Parts.{InvariantsFit}
use Rattle.account.proofs.Locks.{goes_on_locked}
use Rattle.account_threads.proofs.Left.{less_fits, less_amounts, less_there}
use Rattle.account_threads.proofs.OfObject.{by_test, object_gives, object_met, invariant_stays}
use Rattle.account_threads.proofs.Acting.{object_on, SaysLeft, run_after, acts_on_class, says_after, acted}

-- what a commit comes to
pub record CommitGoes (p : Program) (flags : ℕ → Bool) (heap : Heap) (f : Frame) (r : account.Run) (class : Name) (i : Formula)
    (rest : List Task) : Type 0 where
  pub part : Amounts
  pub run : account.Run
  pub object : nat_eq (object_on f) 0 ≡ false
  pub much : whole ≤ amount_of r.state (OfToken token.Uncommitted class (object_on f))
  pub met : IsMet (only_now heap) (outer_scene (object_on f) [] []) i
  pub owns : KeepsOwning p flags heap (outer_scene (object_on f) [] []) i (without_locks part)
  pub fits : IsRunOf p flags heap (pops 1 f rest) run
  pub says : SaysLeft p f run rest
  pub less : (q : Resource) → amounts_of run q + part q ≤ amounts_of r q
  pub past : run.past ≡ r.past
  pub body : run.body ≡ r.body
  pub free : amounts_of run (OfToken token.Uncommitted class (object_on f))
      + part (OfToken token.Uncommitted class (object_on f)) + whole
      ≤ amounts_of r (OfToken token.Uncommitted class (object_on f))

-- a state that knows one object more as committed
more_known : (flags : ℕ → Bool) (heap : Heap) (taken : Taken) (s : State) (class : Name) (object : ℕ) → flags object ≡ true
    → StateFits flags heap taken s → StateFits flags heap taken (states.with_committed s class object)
more_known flags heap taken s class object flag fits = record {
  steps = fits.steps;
  agree = fits.agree;
  holds = fits.holds;
  knows = λ c o is. by c o (same_name c class && nat_eq o object) refl is;
  met = fits.met;
}
  where
    by : (c : Name) (o : ℕ) (b : Bool) → (same_name c class && nat_eq o object) ≡ b → (b || s.committed c o) ≡ true
        → flags o ≡ true
    by c o true e is =
        subst (λ z. flags z ≡ true) (sym (naturals_same o object (back (same_name c class) (nat_eq o object) e))) flag
    by c o false e is = fits.knows c o is

module _ (p : Program) (flags : ℕ → Bool) (heap : Heap) (sound : HeapFits p heap) (framed : PredicatesFit p heap)
    (parts : InvariantsFit p heap) where
  pub commits_go : (f : Frame) (r : account.Run) → IsRunOf p flags heap f r → flags (object_on f) ≡ true
      → ((q : Resource) → amounts_of r q ≤ whole)
      → (class : Name) (span : Span) (rest : List Task) → f.tasks ≡ Stand (AtAction Commit class span) ∷ rest
      → (i : Formula) → invariant_of p class ≡ Some i → CommitGoes p flags heap f r class i rest
  commits_go f r fits flag most class span rest is i inv =
      by_test r.taken (nat_eq (object_on f) 0) _ _
      (subst (λ ts. RestNeverFails r.taken (λ maps. ran (truly maps) p r.body r.inner ts f.values r.state)) is fits.never)
      (λ e n. absurd (n.never [] check.Null span refl))
      (λ full n. by_test r.taken (nat_le whole (amount_of r.state (OfToken token.Uncommitted class (object_on f)))) _ _ n
      (λ e n. made full (at_most whole (amount_of r.state (OfToken token.Uncommitted class (object_on f))) e)
      (subst (λ o. RestNeverFails r.taken (λ maps. formula_of (truly maps) o ((truly maps).failed check.LockInvariant span)
      (λ i. exhale_at (truly maps) check.LockInvariant span (bind_on (object_on f)) i
      (add_token (truly maps) token.Committed class (object_on f) (ran (truly maps) p r.body false rest (drop 1 f.values))))
      released)) inv n))
      (λ e n. absurd (n.never [] check.NotUncommitted span refl)))
    where
      -- the state without the token
      released : State
      released = with_amount r.state (OfToken token.Uncommitted class (object_on f))
          (amount_of r.state (OfToken token.Uncommitted class (object_on f)) - whole)

      made : nat_eq (object_on f) 0 ≡ false → whole ≤ amount_of r.state (OfToken token.Uncommitted class (object_on f))
          → RestNeverFails r.taken (λ maps. exhale_at (truly maps) check.LockInvariant span (bind_on (object_on f)) i
          (add_token (truly maps) token.Committed class (object_on f) (ran (truly maps) p r.body false rest (drop 1 f.values)))
          released)
          → CommitGoes p flags heap f r class i rest
      made full much n = record {
        part = gave.part;
        run = run_after r (states.with_committed (with_left released gave.held gave.instances gave.lengths) class (object_on f))
            r.taken gave.trees;
        object = full;
        much = much;
        met = object_met p flags heap sound class (object_on f) i (parts.good class i inv) gave.part gave.owns;
        owns = goes_on_locked p flags heap (outer_scene (object_on f) [] []) i gave.part
            (invariant_stays p flags heap sound framed parts class i inv (object_on f) typed gave.part gave.owns
            (λ q. let g = gave.sum q in let m = most q in let e = low q in omega (arith, g, m, e)));
        fits = acted p flags heap f r fits Commit class span rest is r.taken
            (states.with_committed (with_left released gave.held gave.instances gave.lengths) class (object_on f)) gave.trees
            (goes_on_same r.taken)
            (more_known flags heap r.taken (with_left released gave.held gave.instances gave.lengths) class (object_on f) flag
            (left_fits flags heap r.taken released gave.held gave.instances gave.lengths fine gave.leaves gave.agree)) refl refl
            gave.has_trees gave.never;
        says = says_after p flags heap f r fits Commit class span rest is;
        less = λ q. let g = gave.sum q in let e = low q in omega (arith, g, e);
        past = refl;
        body = refl;
        free = let g = gave.sum (OfToken token.Uncommitted class (object_on f)) in let e = at_token in
            omega (arith, g, e, much);
      }
        where
          typed : HasType heap (Object class) (value.Reference (object_on f))
          typed = acts_on_class p flags heap f r fits Commit class span rest is

          fewer : amount_of r.state (OfToken token.Uncommitted class (object_on f)) - whole
              ≤ amount_of r.state (OfToken token.Uncommitted class (object_on f))
          fewer = omega arith

          low : (q : Resource) → amount_of released q ≤ amount_of r.state q
          low q = less_amounts flags heap r.taken r.state (OfToken token.Uncommitted class (object_on f))
              (amount_of r.state (OfToken token.Uncommitted class (object_on f)) - whole) fewer q

          at_token : amount_of released (OfToken token.Uncommitted class (object_on f))
              ≡ amount_of r.state (OfToken token.Uncommitted class (object_on f)) - whole
          at_token = less_there flags heap r.taken r.state (OfToken token.Uncommitted class (object_on f))
              (amount_of r.state (OfToken token.Uncommitted class (object_on f)) - whole) fewer

          fine : StateFits flags heap r.taken released
          fine = less_fits flags heap r.taken r.state (OfToken token.Uncommitted class (object_on f))
              (amount_of r.state (OfToken token.Uncommitted class (object_on f)) - whole) fewer fits.state.fits

          gave : Gave p flags heap r.taken (Owns p flags (only_now heap) (outer_scene (object_on f) [] []) i) released
              released.held r.trees (λ maps. add_token (truly maps) token.Committed class (object_on f)
              (ran (truly maps) p r.body false rest (drop 1 f.values)))
          gave = object_gives p flags heap sound class (object_on f) typed i (parts.good class i inv) r.taken released fine
              r.trees fits.state.trees check.LockInvariant span
              (λ maps. add_token (truly maps) token.Committed class (object_on f)
              (ran (truly maps) p r.body false rest (drop 1 f.values))) n
