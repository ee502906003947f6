-- A frame that stands at a join: what the ended `run` left is taken in, and the token goes back.
use Rattle.std.proofs.Common.{◌≡◌, ℕ, ◌+◌, ◌-◌, ◌≤◌, Bool, false, Some, List, [], ◌∷◌, refl, sym, subst, ◌∙◌, arith}
use Rattle.std.specs.Prelude.{drop}
use Rattle.pv_base.specs.declared.Name.{Name}
use Rattle.pv_base.specs.declared.Span.{Span}
use Rattle.pv_ast.specs.declared.Token.{Token}
use Rattle.pv_ast.specs.declared.Token.TheVariants as token
use Rattle.pv_fraction.specs.Amounts.{whole}
use Rattle.pv_picks.specs.Plain.Core.{Formula, Join', Program}
use Rattle.pv_picks.specs.Formulas.Heaps.{Heap}
use Rattle.pv_picks.specs.Judge.States as states
use Rattle.pv_picks.specs.Judge.States.{Resource, OfToken, State, with_amount}
use Rattle.pv_picks.specs.Judge.Permissions.{add_token}
use Rattle.pv_picks.specs.Judge.Inhaling.{inhale}
use Rattle.pv_picks.specs.Judge.Rows.{bind_on}
use Rattle.pv_picks.specs.Machine.Tasks.{AtAction, Task, Stand}
use Rattle.pv_picks.specs.Machine.Frames.{Frame, pops, only_now, outer_scene}
use Rattle.pv_picks.specs.Typing.Expressions.{silent}
use Rattle.core_trees.specs.Formulas.{in_class}
use Rattle.account_formulas.specs.Runs.{truly, RestNeverFails}
use Rattle.account_formulas.specs.Good.{IsGood}
use Rattle.account_formulas.specs.Owning.{Amounts, Owns, HasTrees}
use Rattle.account_formulas.specs.Growing.{StateFits, HeapFits}
use Rattle.account_formulas.specs.Gaining.{PredicatesFit, Gained}
use Rattle.account_formulas.proofs.Basics.{only}
use Rattle.account_formulas.proofs.Raising.{GainedOne, add_goes}
use Rattle.account.specs.Running.{ran}
use Rattle.account.specs.Frames as account
use Rattle.account.specs.Frames.{IsRunOf, amounts_of}
use Rattle.account_threads.proofs.Left.{less_fits, less_amounts, less_there}
use Rattle.account_threads.proofs.OfObject.{nothing_known, object_gains}
use Rattle.account_threads.proofs.Acting.{object_on, SaysLeft, run_after, acts_on_class, says_after, acted}

-- what a join comes to
pub record JoinGoes (p : Program) (flags : ℕ → Bool) (heap : Heap) (f : Frame) (r : account.Run) (class : Name)
    (rest : List Task) (part : Amounts) : Type 0 where
  pub run : account.Run
  pub fits : IsRunOf p flags heap (pops 1 f rest) run
  pub says : SaysLeft p f run rest
  pub more : (q : Resource) → amounts_of run q
      ≤ amounts_of r q + part q + only (OfToken token.Idle class (object_on f)) whole q
  pub past : run.past ≡ r.past
  pub body : run.body ≡ r.body
  pub free : amounts_of run (OfToken token.Running class (object_on f)) + whole
      ≤ amounts_of r (OfToken token.Running class (object_on f)) + part (OfToken token.Running class (object_on f))

-- a state without a token
abbrev pub without_token : Token → State → Name → ℕ → State
without_token kind s class object =
    with_amount s (OfToken kind class object) (states.amount_of s (OfToken kind class object) - whole)

module _ (p : Program) (flags : ℕ → Bool) (heap : Heap) (sound : HeapFits p heap) (framed : PredicatesFit p heap) where
  pub joins_go : (f : Frame) (r : account.Run) → IsRunOf p flags heap f r
      → (class : Name) (span : Span) (rest : List Task) → f.tasks ≡ Stand (AtAction Join' class span) ∷ rest
      → (i : Formula) → IsGood (in_class p class) silent [] i → heap.class (object_on f) ≡ Some class
      → whole ≤ states.amount_of r.state (OfToken token.Running class (object_on f))
      → (part : Amounts) → Owns p flags (only_now heap) (outer_scene (object_on f) [] []) i part
      → ((q : Resource) → amounts_of r q + part q ≤ whole)
      → amounts_of r (OfToken token.Idle class (object_on f)) + part (OfToken token.Idle class (object_on f)) ≡ 0
      → RestNeverFails r.taken (λ maps. inhale (truly maps) (bind_on (object_on f)) i
      (add_token (truly maps) token.Idle class (object_on f) (ran (truly maps) p r.body false rest (drop 1 f.values)))
      (without_token token.Running r.state class (object_on f)))
      → JoinGoes p flags heap f r class rest part
  joins_go f r fits class span rest is i good placed much part owns most free never = record {
    run = run_after r one.after got.then_taken got.trees;
    fits = acted p flags heap f r fits Join' class span rest is got.then_taken one.after got.trees got.goes one.raised.fine
        (one.scene ∙ got.scene) (one.kept ∙ got.kept)
        (subst (λ I. HasTrees p flags heap I got.trees) (sym one.instances) got.has_trees) one.never;
    says = says_after p flags heap f r fits Join' class span rest is;
    more = λ q. let a = one.sum q in let b = got.sum q in let c = low q in omega (arith, a, b, c);
    past = refl;
    body = refl;
    free =
        let a = one.sum (OfToken token.Running class (object_on f)) in
        let b = got.sum (OfToken token.Running class (object_on f)) in
        let c = at_token in omega (arith, a, b, c, much);
  }
    where
      released : State
      released = without_token token.Running r.state class (object_on f)

      fewer : states.amount_of r.state (OfToken token.Running class (object_on f)) - whole
          ≤ states.amount_of r.state (OfToken token.Running class (object_on f))
      fewer = omega arith

      low : (q : Resource) → states.amount_of released q ≤ states.amount_of r.state q
      low q = less_amounts flags heap r.taken r.state (OfToken token.Running class (object_on f))
          (states.amount_of r.state (OfToken token.Running class (object_on f)) - whole) fewer q

      at_token : states.amount_of released (OfToken token.Running class (object_on f))
          ≡ states.amount_of r.state (OfToken token.Running class (object_on f)) - whole
      at_token = less_there flags heap r.taken r.state (OfToken token.Running class (object_on f))
          (states.amount_of r.state (OfToken token.Running class (object_on f)) - whole) fewer

      fine : StateFits flags heap r.taken released
      fine = less_fits flags heap r.taken r.state (OfToken token.Running class (object_on f))
          (states.amount_of r.state (OfToken token.Running class (object_on f)) - whole) fewer fits.state.fits

      got : Gained p flags heap nothing_known (λ sight. Owns p flags sight (outer_scene (object_on f) [] []) i) r.taken released
          r.trees part
          (λ maps. add_token (truly maps) token.Idle class (object_on f)
          (ran (truly maps) p r.body false rest (drop 1 f.values)))
      got = object_gains p flags heap sound framed class (object_on f)
          (acts_on_class p flags heap f r fits Join' class span rest is) i good part owns r.taken released fine r.trees
          fits.state.trees (λ q. let m = most q in let c = low q in omega (arith, m, c))
          (λ maps. add_token (truly maps) token.Idle class (object_on f)
          (ran (truly maps) p r.body false rest (drop 1 f.values))) never

      empty : states.amount_of got.after (OfToken token.Idle class (object_on f)) ≡ 0
      empty =
          let s = got.sum (OfToken token.Idle class (object_on f)) in let c = low (OfToken token.Idle class (object_on f)) in
          omega (arith, s, c, free)

      one : GainedOne flags heap got.then_taken got.after (OfToken token.Idle class (object_on f)) whole
          (λ maps. ran (truly maps) p r.body false rest (drop 1 f.values))
      one = add_goes flags heap sound.beyond got.then_taken (OfToken token.Idle class (object_on f))
          (λ maps. ran (truly maps) p r.body false rest (drop 1 f.values)) got.after got.fine placed (λ x. tt) empty got.never
