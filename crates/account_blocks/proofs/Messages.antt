-- A message, at its sender and at its receiver.
use Rattle.std.proofs.Common.{◌≡◌, ℕ, zero, suc, ◌+◌, ◌≤◌, ℤ, pos, Bool, true, false, if◌then◌else◌, None, List, ◌∷◌, refl, subst, ◌∙◌, arith}
use Rattle.std.specs.Prelude.{nat_eq, int_le, int_lt, ◌+ℤ◌, ◌-ℤ◌}
use Rattle.std.proofs.lemmas.Option.{none-some}
use Rattle.pv_base.specs.declared.Span.{Span}
use Rattle.pv_fraction.specs.Amounts.{whole}
use Rattle.pv_picks.specs.declared.check.Check.TheVariants as check
use Rattle.pv_picks.specs.Plain.Core.{Message, Program}
use Rattle.pv_picks.specs.Formulas.Values.{number_in}
use Rattle.pv_picks.specs.Formulas.Heaps.{Heap}
use Rattle.pv_picks.specs.Formulas.Meeting.{AllMet, at, unmet}
use Rattle.pv_picks.specs.Judge.States.{Resource, State, nothing_held}
use Rattle.pv_picks.specs.Judge.Settings.{Next}
use Rattle.pv_picks.specs.Machine.Tasks.{AtSend, AtReceive, Task, Stand}
use Rattle.pv_picks.specs.Machine.Frames.{Frame, goes_on, at_lengths_of, only_now, sight_of, contract_scene}
use Rattle.pv_picks.specs.Judge.Judging.{finish, blocking, turn_of, at_site, inhale_at_site, exhale_at_site}
use Rattle.pv_picks.specs.Judge.Runs.{Judged, Maps, pick_turn}
use Rattle.pv_picks.specs.Typing.Expressions.{silent}
use Rattle.pv_picks.specs.Machine.Steps.{not_null}
use Rattle.pv_picks.proofs.Sames.{naturals_same}
use Rattle.core_trees.specs.Formulas.{MessageFits}
use Rattle.account_formulas.specs.Sights.{SceneFits}
use Rattle.account_formulas.specs.Runs.{Taken, truly, RestNeverFails}
use Rattle.account_formulas.specs.Good.{IsGood}
use Rattle.account_formulas.specs.Owning.{Amounts, Owns, KeepsOwning}
use Rattle.account_formulas.specs.Growing.{StateFits, HeapFits}
use Rattle.account_formulas.specs.Giving.{Gave, with_left}
use Rattle.account_formulas.specs.Gaining.{Gained, PredicatesFit}
use Rattle.account_formulas.proofs.Lengths.{goes_on_same}
use Rattle.account_formulas.proofs.Laws.{gives_up, left_fits, takes_in, owned_stays, owned_is_met, owned_alike, met_alike}
use Rattle.account.specs.Running.{ran}
use Rattle.account.specs.Scoped.{TasksSay}
use Rattle.account.specs.Frames.{Run, amounts_of, home_in, standing_in, IsRunOf}
use Rattle.account.proofs.Working.{frame_says}
use Rattle.account.proofs.Choosing.{never_turn}
use Rattle.account_blocks.proofs.Sites.{site_scene, place_at, same_scenes, site_fits, StandsAt, at_a_send, at_a_receive, goes_behind}

-- a distance is no zero
pub some_distance : (n : ℕ) → 1 ≤ n → nat_eq n 0 ≡ false
some_distance n l = by (nat_eq n 0) refl
  where
    by : (b : Bool) → nat_eq n 0 ≡ b → b ≡ false
    by false e = refl
    by true e = let same = naturals_same n 0 e in absurd (omega (arith, same, l))

pub is_some_distance : (n : ℕ) → 1 ≤ n → not_null n ≡ true
is_some_distance zero l = absurd (omega (arith, l))
is_some_distance (suc n) l = refl

-- with nothing held
pub nothing_fits : (flags : ℕ → Bool) (heap : Heap) (taken : Taken) (s : State) → StateFits flags heap taken s
    → StateFits flags heap taken (nothing_held s)
nothing_fits flags heap taken s k = record {
  steps = k.steps;
  agree = k.agree;
  holds = λ q h is. absurd (none-some h is);
  knows = k.knows;
  met = k.met;
}

module _ (p : Program) (flags : ℕ → Bool) (heap : Heap) (sound : HeapFits p heap) (framed : PredicatesFit p heap) where
  -- what a thread gave at a send: it stays while others run
  pub record Sent (f : Frame) (r : Run) (m : Message) (rest : List Task) : Type 0 where
    pub part : Amounts
    pub run : Run
    pub met : unmet (sight_of heap f) (contract_scene f) m.formula ≡ AllMet
    pub owns : KeepsOwning p flags heap (site_scene r.body.site r.state) m.formula part
    pub fits : IsRunOf p flags heap (goes_on f rest) run
    pub says : TasksSay (standing_in p f.class run.body run.outer) run.inner run.scope run.given run.stack rest
    pub less : (q : Resource) → amounts_of run q + part q ≤ amounts_of r q
    pub body : run.body ≡ r.body

  module _ (f : Frame) (r : Run) (fits : IsRunOf p flags heap f r) (m : Message) (span : Span) (rest : List Task)
      (is : f.tasks ≡ Stand (AtSend m span) ∷ rest) (distance : 1 ≤ m.distance) where
    abbrev behind : Maps → Next Judged
    behind maps = ran (truly maps) p r.body false rest f.values

    abbrev here : ℤ
    here = number_in (r.body.site.begun r.body.site.variable.0)

    pub stood : StandsAt p flags heap (MessageFits (home_in p f.class r.body) r.body.head m) f r (AtSend m span) rest
    stood = at_a_send p flags heap f r fits m span rest is

    abbrev turns : Maps → ℕ → Judged
    turns maps = turn_of (truly maps) (blocking (truly maps))
        (λ s. inhale_at_site (truly maps) r.body.site m.formula (finish (truly maps)) (nothing_held s))
        (λ s. if int_lt (here +ℤ pos m.distance) r.body.site.high
        then exhale_at_site (truly maps) r.body.site check.Send m.formula (behind maps) s else behind maps s) r.state

    turning : RestNeverFails r.taken (λ maps. pick_turn (turns maps))
    turning =
        subst (λ b. RestNeverFails r.taken (λ maps. if b then (truly maps).failed check.Send span else pick_turn (turns maps)))
        (some_distance m.distance distance) stood.never

    pub sends : int_lt (here +ℤ pos m.distance) r.body.site.high ≡ true
        → IsGood (home_in p f.class r.body) silent r.body.head m.formula
        → ((q : Resource) → amounts_of r q ≤ whole) → Sent f r m rest
    sends someone good most = record {
      part = gave.part;
      run = record r { state = with_left r.state gave.held gave.instances gave.lengths; trees = gave.trees; inner = false };
      met = met_alike (home_in p f.class r.body) silent refl heap _ _ r.body.head (contract_scene f) m.formula good
          ∙ owned_is_met (home_in p f.class r.body) silent p flags r.body.head _ (contract_scene f) m.formula good gave.part
          (owned_alike (home_in p f.class r.body) silent flags (record { now = heap; old = at_lengths_of heap r.past })
          (record { now = heap; old = at_lengths_of heap r.past }) refl (λ e. refl) r.body.head _ _
          (same_scenes p flags heap f r fits) m.formula good gave.part gave.owns);
      owns = λ later l. owned_alike (home_in p f.class r.body) silent flags
          (record { now = later; old = at_lengths_of heap r.past }) (only_now later) refl (λ e. absurd (cc e)) r.body.head
          (site_scene r.body.site r.state) (site_scene r.body.site r.state)
          (record { this = refl; variables = λ n t e. refl; result = λ t e. refl }) m.formula good gave.part
          (owned_stays p flags heap sound framed (place_at p flags heap f r fits) (site_scene r.body.site r.state)
          (site_fits p flags heap f r fits) m.formula good gave.part gave.owns
          (λ q. let k = gave.sum q in let n = most q in omega (arith, k, n))
          r.taken (nothing_held r.state) fits.old.settled (nothing_fits flags heap r.taken r.state fits.state.fits)
          (λ q. refl) refl (never_turn r.taken turns 1 refl turning) (record { now = later; old = at_lengths_of heap r.past }) l
          fits.old.agrees l.lengths (λ array n e. e));
      fits = goes_behind p flags heap f r fits rest _ r.taken gave.trees
          (left_fits flags heap r.taken r.state gave.held gave.instances gave.lengths fits.state.fits gave.leaves gave.agree)
          refl refl (goes_on_same r.taken) gave.has_trees (frame_says _ false r.scope r.given r.stack rest stood.tasks)
          stood.outer gave.never;
      says = stood.tasks;
      less = λ q. let k = gave.sum q in omega (arith, k);
      body = refl;
    }
      where
        giving : RestNeverFails r.taken
            (λ maps. exhale_at_site (truly maps) r.body.site check.Send m.formula (behind maps) r.state)
        giving = subst (λ b. RestNeverFails r.taken (λ maps. if b
            then exhale_at_site (truly maps) r.body.site check.Send m.formula (behind maps) r.state else behind maps r.state))
            someone (never_turn r.taken turns 2 refl turning)

        gave : Gave p flags heap r.taken (Owns p flags (record { now = heap; old = at_lengths_of heap r.past })
            (site_scene r.body.site r.state) m.formula) r.state r.state.held r.trees behind
        gave = gives_up p flags heap sound (place_at p flags heap f r fits) (site_scene r.body.site r.state)
            (site_fits p flags heap f r fits) m.formula good r.taken r.state fits.old.settled fits.state.fits r.trees
            fits.state.trees check.Send None behind giving

    -- where nobody is at the distance, nothing is sent
    pub sends_none : int_lt (here +ℤ pos m.distance) r.body.site.high ≡ false
        → IsRunOf p flags heap (goes_on f rest) (record r { inner = false })
    sends_none nobody = goes_behind p flags heap f r fits rest r.state r.taken r.trees fits.state.fits refl refl
        (goes_on_same r.taken) fits.state.trees (frame_says _ false r.scope r.given r.stack rest stood.tasks) stood.outer
        (subst (λ b. RestNeverFails r.taken (λ maps. if b
        then exhale_at_site (truly maps) r.body.site check.Send m.formula (behind maps) r.state else behind maps r.state))
        nobody (never_turn r.taken turns 2 refl turning))

  -- what a thread has behind a receive
  pub record Received (f : Frame) (r : Run) (rest : List Task) (R : Amounts) : Type 0 where
    pub run : Run
    pub fits : IsRunOf p flags heap (goes_on f rest) run
    pub says : TasksSay (standing_in p f.class run.body run.outer) run.inner run.scope run.given run.stack rest
    pub less : (q : Resource) → amounts_of run q ≤ amounts_of r q + R q
    pub body : run.body ≡ r.body

  module _ (f : Frame) (r : Run) (fits : IsRunOf p flags heap f r) (m : Message) (span : Span) (rest : List Task)
      (is : f.tasks ≡ Stand (AtReceive m span) ∷ rest) (distance : 1 ≤ m.distance) where
    abbrev then_on : Maps → Next Judged
    then_on maps = ran (truly maps) p r.body false rest f.values

    abbrev sender : ℤ
    sender = number_in (r.body.site.begun r.body.site.variable.0) -ℤ pos m.distance

    pub stands_there : StandsAt p flags heap (MessageFits (home_in p f.class r.body) r.body.head m) f r (AtReceive m span) rest
    stands_there = at_a_receive p flags heap f r fits m span rest is

    receiving : RestNeverFails r.taken (λ maps. if int_le r.body.site.low sender
        then inhale_at_site (truly maps) (at_site (truly maps) r.body.site sender) m.formula (then_on maps) r.state
        else then_on maps r.state)
    receiving = subst (λ b. RestNeverFails r.taken (λ maps. if b then (truly maps).failed check.Send span
        else if int_le r.body.site.low sender
        then inhale_at_site (truly maps) (at_site (truly maps) r.body.site sender) m.formula (then_on maps) r.state
        else then_on maps r.state))
        (some_distance m.distance distance) stands_there.never

    pub receives : int_le r.body.site.low sender ≡ true
        → IsGood (home_in p f.class r.body) silent r.body.head m.formula
        → SceneFits (home_in p f.class r.body) silent r.body.head heap
        (at (site_scene r.body.site r.state) r.body.site.variable sender)
        → (R : Amounts)
        → Owns p flags (only_now heap) (at (site_scene r.body.site r.state) r.body.site.variable sender) m.formula R
        → ((q : Resource) → amounts_of r q + R q ≤ whole) → Received f r rest R
    receives someone good typed R owns most = record {
      run = record r { state = gained.after; taken = gained.then_taken; trees = gained.trees; inner = false };
      fits =
          goes_behind p flags heap f r fits rest gained.after gained.then_taken gained.trees gained.fine gained.scene gained.kept
          gained.goes gained.has_trees (frame_says _ false r.scope r.given r.stack rest stands_there.tasks) stands_there.outer
          gained.never;
      says = stands_there.tasks;
      less = λ q. let k = gained.sum q in omega (arith, k);
      body = refl;
    }
      where
        taking : RestNeverFails r.taken
            (λ maps. inhale_at_site (truly maps) (at_site (truly maps) r.body.site sender) m.formula (then_on maps) r.state)
        taking = subst (λ b. RestNeverFails r.taken (λ maps. if b
            then inhale_at_site (truly maps) (at_site (truly maps) r.body.site sender) m.formula (then_on maps) r.state
            else then_on maps r.state)) someone receiving

        gained : Gained p flags heap fits.old.known
            (λ sight. Owns p flags sight (at (site_scene r.body.site r.state) r.body.site.variable sender) m.formula)
            r.taken r.state r.trees R then_on
        gained = takes_in p flags heap sound framed (place_at p flags heap f r fits)
            (at (site_scene r.body.site r.state) r.body.site.variable sender) typed m.formula good R
            (owned_alike (home_in p f.class r.body) silent flags (only_now heap)
            (record { now = heap; old = at_lengths_of heap r.past }) refl (λ e. absurd (cc e)) r.body.head
            (at (site_scene r.body.site r.state) r.body.site.variable sender)
            (at (site_scene r.body.site r.state) r.body.site.variable sender)
            (record { this = refl; variables = λ n t e. refl; result = λ t e. refl }) m.formula good R owns)
            r.taken r.state fits.old.settled fits.state.fits r.trees fits.state.trees
            (λ q. let k = most q in omega (arith, k)) then_on taking

    -- where nobody is at the distance, nothing is received
    pub receives_none : int_le r.body.site.low sender ≡ false
        → IsRunOf p flags heap (goes_on f rest) (record r { inner = false })
    receives_none nobody = goes_behind p flags heap f r fits rest r.state r.taken r.trees fits.state.fits refl refl
        (goes_on_same r.taken) fits.state.trees (frame_says _ false r.scope r.given r.stack rest stands_there.tasks)
        stands_there.outer
        (subst (λ b. RestNeverFails r.taken (λ maps. if b
        then inhale_at_site (truly maps) (at_site (truly maps) r.body.site sender) m.formula (then_on maps) r.state
        else then_on maps r.state)) nobody receiving)
