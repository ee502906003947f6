-- A frame that stands at a fork: what the precondition of `run` asks for is given up, and one token for another.
use Rattle.std.proofs.Common.{◌≡◌, ℕ, ◌+◌, ◌-◌, ◌≤◌, Bool, false, if◌then◌else◌, Some, None, List, [], ◌∷◌, refl, ap, sym, subst, ◌∙◌, arith}
use Rattle.std.specs.Prelude.{nat_eq, drop}
use Rattle.std.proofs.lemmas.Option.{none-some}
use Rattle.pv_base.specs.declared.Name.{Name}
use Rattle.pv_base.specs.declared.Span.{Span}
use Rattle.pv_ast.specs.declared.PvType.{PvType}
use Rattle.pv_ast.specs.declared.PvType.TheVariants.{Object}
use Rattle.pv_ast.specs.declared.Token.TheVariants as token
use Rattle.pv_values.specs.declared.value.Value.TheVariants as value
use Rattle.pv_fraction.specs.Amounts.{whole}
use Rattle.pv_picks.specs.declared.check.Check.TheVariants as check
use Rattle.pv_picks.specs.Plain.Core.{Method, Fork, Program}
use Rattle.pv_picks.specs.Formulas.Values.{no_variables, with_arguments}
use Rattle.pv_picks.specs.Formulas.Heaps.{Heap}
use Rattle.pv_picks.specs.Formulas.Meeting.{IsMet}
use Rattle.pv_picks.specs.Judge.States as states
use Rattle.pv_picks.specs.Judge.States.{Resource, OfToken, State, cells_of, no_cells, empty_state, with_result, nothing_held}
use Rattle.pv_picks.specs.Judge.Settings.{null}
use Rattle.pv_picks.specs.Judge.Inhaling.{inhale}
use Rattle.pv_picks.specs.Judge.Permissions.{add_token}
use Rattle.pv_picks.specs.Judge.Rows.{bind_on, exhale_at, result_of}
use Rattle.pv_picks.specs.Judge.Judging.{finish, pick_variables, inhale_own, turn_of}
use Rattle.pv_picks.specs.Judge.UnitRuns.{OfMethod, go_on, through_body, of_method}
use Rattle.pv_picks.specs.Judge.Runs.{blocked}
use Rattle.pv_picks.specs.Machine.Tasks.{AtAction, Task, Stand}
use Rattle.pv_picks.specs.Machine.Frames.{Frame, pops, only_now, outer_scene}
use Rattle.pv_picks.specs.Typing.Expressions.{silent}
use Rattle.pv_picks.specs.Typing.Blocks.{types_of, over}
use Rattle.pv_picks.specs.Typing.Frames.{HasType}
use Rattle.core_trees.specs.Formulas.{AreDeclared, in_class}
use Rattle.account_formulas.specs.Sights.{SceneFits}
use Rattle.account_formulas.specs.Runs.{truly, RestNeverFails, contents_of}
use Rattle.account_formulas.specs.Good.{IsGood}
use Rattle.account_formulas.specs.Owning.{Amounts, Owns, HasTrees}
use Rattle.account_formulas.specs.Growing.{StateFits, HeapFits}
use Rattle.account_formulas.specs.Giving.{Gave, with_left}
use Rattle.account_formulas.specs.Gaining.{PredicatesFit, Gained, AreTyped, nothing_taken}
use Rattle.account_formulas.proofs.Basics.{only}
use Rattle.account_formulas.proofs.Laws.{left_fits}
use Rattle.account_formulas.proofs.Lengths.{goes_on_same}
use Rattle.account_formulas.proofs.Picking.{picking}
use Rattle.account_formulas.proofs.Raising.{settled_of, contents_fine, GainedOne, add_goes}
use Rattle.account_formulas.proofs.Gaining.{formula_gains}
use Rattle.account.specs.Verified.{PartNeverFails}
use Rattle.account.proofs.Choosing.{never_turn}
use Rattle.account.specs.Running.{ran}
use Rattle.account.specs.Frames as account
use Rattle.account.specs.Frames.{IsRunOf, amounts_of}
use Rattle.account.specs.Objects.{IsTakenFromNothing}
use Rattle.account.proofs.Framing.{begun_with, picking_all}
use Rattle.account.proofs.Beginning.{before_place}
use Rattle.account_threads.proofs.Left.{less_fits, less_amounts, less_there}
use Rattle.account_threads.proofs.OfObject.{object_gives, object_met}
use Rattle.account_threads.proofs.Acting.{object_on, SaysLeft, run_after, acts_on_class, says_after, acted}
use Rattle.account_threads.proofs.Joining.{without_token}

-- what a fork comes to
pub record ForkGoes (p : Program) (flags : ℕ → Bool) (heap : Heap) (f : Frame) (r : account.Run) (class : Name) (m : Method)
    (rest : List Task) : Type 0 where
  pub part : Amounts
  pub run : account.Run
  pub met : IsMet (only_now heap) (outer_scene (object_on f) [] []) m.contract.before
  pub owns : Owns p flags (only_now heap) (outer_scene (object_on f) [] []) m.contract.before part
  pub fits : IsRunOf p flags heap (pops 1 f rest) run
  pub says : SaysLeft p f run rest
  pub part_less : (q : Resource) → part q ≤ amounts_of r q
  pub less : (q : Resource) → amounts_of run q + part q
      ≤ amounts_of r q + only (OfToken token.Running class (object_on f)) whole q
  pub past : run.past ≡ r.past
  pub body : run.body ≡ r.body
  pub free : amounts_of run (OfToken token.Idle class (object_on f)) + part (OfToken token.Idle class (object_on f)) + whole
      ≤ amounts_of r (OfToken token.Idle class (object_on f))

module _ (p : Program) (flags : ℕ → Bool) (heap : Heap) (sound : HeapFits p heap) where
  pub forks_go : (f : Frame) (r : account.Run) → IsRunOf p flags heap f r
      → (class : Name) (span : Span) (rest : List Task) → f.tasks ≡ Stand (AtAction Fork class span) ∷ rest
      → (m : Method) → IsGood (in_class p class) silent [] m.contract.before → heap.class (object_on f) ≡ Some class
      → whole ≤ states.amount_of r.state (OfToken token.Idle class (object_on f))
      → states.amount_of r.state (OfToken token.Running class (object_on f)) ≡ 0
      → RestNeverFails r.taken (λ maps. exhale_at (truly maps) check.ForkRequires span (bind_on (object_on f)) m.contract.before
      (add_token (truly maps) token.Running class (object_on f) (ran (truly maps) p r.body false rest (drop 1 f.values)))
      (without_token token.Idle r.state class (object_on f)))
      → ForkGoes p flags heap f r class m rest
  forks_go f r fits class span rest is m good placed much unset never = record {
    part = gave.part;
    run = run_after r one.after r.taken gave.trees;
    met = object_met p flags heap sound class (object_on f) m.contract.before good gave.part gave.owns;
    owns = gave.owns;
    fits = acted p flags heap f r fits Fork class span rest is r.taken one.after gave.trees (goes_on_same r.taken)
        one.raised.fine one.scene one.kept (subst (λ I. HasTrees p flags heap I gave.trees) (sym one.instances) gave.has_trees)
        one.never;
    says = says_after p flags heap f r fits Fork class span rest is;
    part_less = λ q. let g = gave.sum q in let e = low q in omega (arith, g, e);
    less = λ q. let a = one.sum q in let g = gave.sum q in let e = low q in omega (arith, a, g, e);
    past = refl;
    body = refl;
    free =
        let a = one.sum (OfToken token.Idle class (object_on f)) in
        let g = gave.sum (OfToken token.Idle class (object_on f)) in
        let e = at_token in omega (arith, a, g, e, much);
  }
    where
      released : State
      released = without_token token.Idle r.state class (object_on f)

      fewer : states.amount_of r.state (OfToken token.Idle class (object_on f)) - whole
          ≤ states.amount_of r.state (OfToken token.Idle class (object_on f))
      fewer = omega arith

      low : (q : Resource) → states.amount_of released q ≤ states.amount_of r.state q
      low q = less_amounts flags heap r.taken r.state (OfToken token.Idle class (object_on f))
          (states.amount_of r.state (OfToken token.Idle class (object_on f)) - whole) fewer q

      at_token : states.amount_of released (OfToken token.Idle class (object_on f))
          ≡ states.amount_of r.state (OfToken token.Idle class (object_on f)) - whole
      at_token = less_there flags heap r.taken r.state (OfToken token.Idle class (object_on f))
          (states.amount_of r.state (OfToken token.Idle class (object_on f)) - whole) fewer

      fine : StateFits flags heap r.taken released
      fine = less_fits flags heap r.taken r.state (OfToken token.Idle class (object_on f))
          (states.amount_of r.state (OfToken token.Idle class (object_on f)) - whole) fewer fits.state.fits

      gave : Gave p flags heap r.taken (Owns p flags (only_now heap) (outer_scene (object_on f) [] []) m.contract.before) released
          released.held r.trees (λ maps. add_token (truly maps) token.Running class (object_on f)
          (ran (truly maps) p r.body false rest (drop 1 f.values)))
      gave = object_gives p flags heap sound class (object_on f) (acts_on_class p flags heap f r fits Fork class span rest is)
          m.contract.before good r.taken released fine r.trees fits.state.trees check.ForkRequires span
          (λ maps. add_token (truly maps) token.Running class (object_on f)
          (ran (truly maps) p r.body false rest (drop 1 f.values))) never

      left : State
      left = with_left released gave.held gave.instances gave.lengths

      empty : states.amount_of left (OfToken token.Running class (object_on f)) ≡ 0
      empty =
          let g = gave.less (OfToken token.Running class (object_on f)) in
          let e = low (OfToken token.Running class (object_on f)) in omega (arith, g, e, unset)

      one : GainedOne flags heap r.taken left (OfToken token.Running class (object_on f)) whole
          (λ maps. ran (truly maps) p r.body false rest (drop 1 f.values))
      one = add_goes flags heap sound.beyond r.taken (OfToken token.Running class (object_on f))
          (λ maps. ran (truly maps) p r.body false rest (drop 1 f.values)) left
          (left_fits flags heap r.taken released gave.held gave.instances gave.lengths fine gave.leaves gave.agree) placed
          (λ x. tt) empty gave.never

  -- the postcondition of `run` can be taken in where nothing is held, from where it is entered
  module _ (framed : PredicatesFit p heap) where
    pub run_stays : (class : Name) (m : Method) → m.parameters ≡ [] → m.result ≡ None → AreDeclared m.parameters
        → IsGood (in_class p class) silent (over [] m.parameters) m.contract.before
        → PartNeverFails p (OfMethod class m)
        → (object : ℕ) → nat_eq object 0 ≡ false → HasType heap (Object class) (value.Reference object)
        → AreTyped heap (types_of m.parameters) []
        → SceneFits (in_class p class) silent (over [] m.parameters) heap (outer_scene object m.parameters [])
        → (R : Amounts) → ((q : Resource) → R q ≤ whole)
        → Owns p flags (only_now heap) (outer_scene object m.parameters []) m.contract.before R
        → IsTakenFromNothing p flags heap (outer_scene object [] []) m.contract.after
    run_stays class m none no_result declared good never object full typed all scene R most owns =
        picking nothing_taken heap sound.beyond (Object class) (value.Reference object) typed tt _ empty_state
        (IsTakenFromNothing p flags heap (outer_scene object [] []) m.contract.after)
        (λ met b n. picking_all heap sound.beyond nothing_taken object m.parameters [] all declared no_variables met (b tt)
        (λ maps. inhale_own (truly maps) m.contract.before (go_on (truly maps) p (OfMethod class m)))
        (IsTakenFromNothing p flags heap (outer_scene object [] []) m.contract.after)
        (λ more low n. made more (formula_gains p flags heap sound framed (before_place p flags heap sound framed class m)
        (outer_scene object m.parameters []) scene m.contract.before good R owns nothing_taken
        (begun_with object (with_arguments no_variables m.parameters []) more) (λ picks q. refl)
        (record {
          steps = refl;
          agree = λ t a k is. absurd (none-some k is);
          holds = λ q h is. absurd (none-some h is);
          knows = λ d o is. absurd (cc is);
          met = low;
        })
        (λ q. 0) tt (λ q. let k = most q in omega (arith, k)) (λ maps. go_on (truly maps) p (OfMethod class m)) n))
        (subst (λ b. RestNeverFails nothing_taken (λ maps. if b then (truly maps).blocked else pick_variables
        (truly maps) m.parameters
        (inhale_own (truly maps) m.contract.before (go_on (truly maps) p (OfMethod class m)))
        (begun_with object no_variables met)))
        full n))
        never
      where
        made : (more : List (PvType × ℕ)) → Gained p flags heap (λ q. None)
            (λ sight. Owns p flags sight (outer_scene object m.parameters []) m.contract.before) nothing_taken
            (begun_with object (with_arguments no_variables m.parameters []) more) (λ q. 0) R
            (λ maps. go_on (truly maps) p (OfMethod class m))
            → IsTakenFromNothing p flags heap (outer_scene object [] []) m.contract.after
        made more g = record {
          past = heap;
          old = cells_of g.after;
          known = contents_of g.then_taken (cells_of g.after);
          taken = g.then_taken;
          state = seed;
          before = sound.now;
          settled = settled_of flags heap g.then_taken g.after g.fine;
          agrees = contents_fine flags heap g.then_taken g.after g.fine;
          fits = record {
            steps = g.fine.steps;
            agree = g.fine.agree;
            holds = λ q h is. absurd (none-some h is);
            knows = g.fine.knows;
            met = g.fine.met;
          };
          none = λ q. refl;
          empty = refl;
          never = subst (λ s. RestNeverFails g.then_taken (λ maps. inhale (truly maps)
              (record { scene = record s { result = null }; old = cells_of g.after }) m.contract.after
              (finish (truly maps)) seed))
              (g.scene ∙ ap (λ ps. outer_scene object ps []) none)
              (subst (λ o. RestNeverFails g.then_taken (λ maps. result_of (truly maps) o
              (λ v t. inhale_own (truly maps) m.contract.after (finish (truly maps)) (with_result t v)) (nothing_held before)))
              no_result
              (never_turn g.then_taken (λ maps. turn_of (truly maps)
              (λ s. through_body (truly maps) p m (of_method s.variables) s)
              (λ s. result_of (truly maps) m.result
              (λ v t. inhale_own (truly maps) m.contract.after (finish (truly maps)) (with_result t v)) (nothing_held s))
              (λ s. blocked) before) 1 refl g.never));
        }
          where
            before : State
            before = record g.after { old = cells_of g.after }

            seed : State
            seed = with_result (nothing_held (record g.after { old = cells_of g.after })) null
