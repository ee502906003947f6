-- A frame in a member's body: what barriers and messages in it speak of.
use Rattle.std.proofs.Common.{◌≡◌, ℕ, ℤ, Bool, true, false, if◌then◌else◌, Some, List, ◌∷◌, refl, ap, sym, subst, ◌∙◌}
use Rattle.std.proofs.lemmas.Option.{none-some, same_Some}
use Rattle.std.specs.Prelude.{nat_eq}
use Rattle.pv_base.specs.declared.Name.{Name}
use Rattle.pv_picks.proofs.Sames.{names_same}
use Rattle.pv_picks.specs.Formulas.Meeting.{at}
use Rattle.pv_base.specs.declared.Span.{Span}
use Rattle.pv_ast.specs.declared.PvType.{PvType}
use Rattle.pv_ast.specs.declared.PvType.TheVariants.{Int, Object}
use Rattle.pv_values.specs.declared.value.Value.TheVariants as value
use Rattle.pv_picks.specs.Plain.Core.{Parameter, Program, Barrier, Message}
use Rattle.pv_picks.specs.Formulas.Evaluation.{Scene}
use Rattle.pv_picks.specs.Formulas.Heaps.{Heap}
use Rattle.pv_picks.specs.Machine.Starts.{field_kind}
use Rattle.pv_picks.specs.Judge.States.{State, scene_of}
use Rattle.pv_picks.specs.Machine.Tasks.{Step, AtSend, AtReceive, AtArrive, AtLeave, Task, Stand}
use Rattle.pv_picks.specs.Machine.Frames.{Frame, goes_on, at_lengths_of, body_scene, contract_scene}
use Rattle.pv_picks.specs.Judge.Rows.{Site}
use Rattle.pv_picks.specs.Typing.Expressions.{Home, Speech, silent, type_in}
use Rattle.pv_picks.specs.Typing.Tasks.{at_send, at_receive, at_arrive}
use Rattle.pv_picks.specs.Typing.Frames.{HasType}
use Rattle.core_trees.specs.Formulas.{BarrierFits, MessageFits}
use Rattle.account_formulas.specs.Sights.{SceneFits}
use Rattle.account_formulas.specs.Runs.{Taken, truly, RestNeverFails, AreSettled, GoesOnTo}
use Rattle.account_formulas.specs.Owning.{Amounts, HasTrees}
use Rattle.account_formulas.specs.Growing.{StateFits, Place}
use Rattle.account_formulas.proofs.Raising.{settled_on}
use Rattle.account_formulas.specs.Agreeing.{ScenesAgree}
use Rattle.account.proofs.Ended.{past_fits}
use Rattle.account.specs.Running.{goes_inside, ran_step, ran}
use Rattle.account.specs.Scoped.{StepSpeaks, TasksSay, FrameSays, stands}
use Rattle.account.specs.Frames.{Run, home_in, standing_in, opened, AllTakeTurns, IsRunOf}

-- the scene of which the contract of a body speaks, in a state
abbrev pub site_scene : Site → State → Scene
site_scene site s = record { this = s.this; variables = site.begun; result = s.result }

-- a scene fits with another number for a variable of whole numbers
pub at_own : (h : Home) (speech : Speech) (xs : List Parameter) (heap : Heap) (scene : Scene) (name : Name) (i : ℤ)
    → type_in xs name ≡ Some Int → SceneFits h speech xs heap scene → SceneFits h speech xs heap (at scene name i)
at_own h speech xs heap scene name i own fits = record {
  this = fits.this;
  variables = λ n t is. go n t is (nat_eq n.0 name.0) refl;
  result = fits.result;
}
  where
    go : (n : Name) (t : PvType) → type_in xs n ≡ Some t → (b : Bool) → nat_eq n.0 name.0 ≡ b
        → HasType heap t (if b then value.Number i else scene.variables n.0)
    go n t is false e = fits.variables n t is
    go n t is true e =
        subst (λ z. HasType heap z (value.Number i))
        (same_Some Int t (sym own ∙ subst (λ z. type_in xs z ≡ Some t) (names_same n name e) is)) refl

module _ (p : Program) (flags : ℕ → Bool) (heap : Heap) where
  -- where what is silent of result and old state stands in a body
  abbrev pub place_at : (f : Frame) (r : Run) → IsRunOf p flags heap f r → Place p heap
  place_at f r fits = record {
    class = f.class;
    answer = r.body.answer;
    speech = silent;
    scope = r.body.head;
    past = at_lengths_of heap r.past;
    old = r.state.old;
    known = fits.old.known;
    before = past_fits (field_kind p) heap r.past fits.old.fits;
    agrees = fits.old.agrees;
    lengths = λ array n is. is;
  }

  -- the judge's scene of a contract is the machine's
  pub same_scenes : (f : Frame) (r : Run) → IsRunOf p flags heap f r
      → ScenesAgree silent r.body.head (site_scene r.body.site r.state) (contract_scene f)
  same_scenes f r fits = record {
    this = fits.state.this;
    variables = fits.body.same;
    result = λ type is. absurd (none-some type is);
  }

  pub site_fits : (f : Frame) (r : Run) → IsRunOf p flags heap f r
      → SceneFits (home_in p f.class r.body) silent r.body.head heap (site_scene r.body.site r.state)
  site_fits f r fits = record {
    this = subst (λ n. HasType heap (Object f.class) (value.Reference n)) (sym fits.state.this) fits.typed.this;
    variables = λ n t is. subst (HasType heap t) (sym (fits.body.same n t is)) (fits.body.typed n t is);
    result = λ type is. absurd (none-some type is);
  }

  -- a frame that stands at a step which takes and leaves no value
  pub record StandsAt (Speaks : Type 0) (f : Frame) (r : Run) (step : Step) (rest : List Task) : Type 0 where
    pub speaks : Speaks
    pub tasks : TasksSay (standing_in p f.class r.body r.outer) false r.scope r.given r.stack rest
    pub outer : AllTakeTurns p flags heap f.class r.body r.past (body_scene f) (opened false rest) r.outer
    pub never : RestNeverFails r.taken
        (λ maps. ran_step (truly maps) p r.body step (ran (truly maps) p r.body false rest) f.values r.state)

  stood : (Speaks : Type 0) (f : Frame) (r : Run) (fits : IsRunOf p flags heap f r) (step : Step) (rest : List Task) → f.tasks
      ≡ Stand step ∷ rest
      → opened r.inner (Stand step ∷ rest) ≡ opened false rest → goes_inside step r.inner ≡ false
      → Speaks × TasksSay (standing_in p f.class r.body r.outer) false r.scope r.given r.stack rest
      → StandsAt Speaks f r step rest
  stood Speaks f r fits step rest is past out says = record {
    speaks = says.0;
    tasks = says.1;
    outer = subst (λ o. AllTakeTurns p flags heap f.class r.body r.past (body_scene f) o r.outer) past
        (subst (λ ts. AllTakeTurns p flags heap f.class r.body r.past (body_scene f) (opened r.inner ts) r.outer) is fits.outer);
    never = subst (λ b. RestNeverFails r.taken
        (λ maps. ran_step (truly maps) p r.body step (ran (truly maps) p r.body b rest) f.values r.state)) out
        (subst (λ ts. RestNeverFails r.taken (λ maps. ran (truly maps) p r.body r.inner ts f.values r.state)) is fits.never);
  }

  pub at_a_send : (f : Frame) (r : Run) → IsRunOf p flags heap f r → (m : Message) (span : Span) (rest : List Task)
      → f.tasks ≡ Stand (AtSend m span) ∷ rest → StandsAt (MessageFits (home_in p f.class r.body) r.body.head m) f r
      (AtSend m span) rest
  at_a_send f r fits m span rest is =
      stood (MessageFits (home_in p f.class r.body) r.body.head m) f r fits (AtSend m span) rest is refl refl (go r.inner r.stack
      (subst (λ ts. FrameSays (standing_in p f.class r.body r.outer) r.inner r.scope r.given r.stack ts) is fits.tasks))
    where
      go : (inner : Bool) (stack : List PvType)
          → TasksSay (standing_in p f.class r.body r.outer) inner r.scope r.given stack (Stand (AtSend m span) ∷ rest)
          → StepSpeaks (standing_in p f.class r.body r.outer) r.scope (AtSend m span)
          × TasksSay (standing_in p f.class r.body r.outer) false r.scope r.given stack rest
      go inner stack (stands s at_send speaks says) = (speaks, says)

  pub at_a_receive : (f : Frame) (r : Run) → IsRunOf p flags heap f r → (m : Message) (span : Span) (rest : List Task)
      → f.tasks ≡ Stand (AtReceive m span) ∷ rest → StandsAt (MessageFits (home_in p f.class r.body) r.body.head m) f r
      (AtReceive m span) rest
  at_a_receive f r fits m span rest is =
      stood (MessageFits (home_in p f.class r.body) r.body.head m) f r fits (AtReceive m span) rest is refl refl
      (go r.inner r.stack
      (subst (λ ts. FrameSays (standing_in p f.class r.body r.outer) r.inner r.scope r.given r.stack ts) is fits.tasks))
    where
      go : (inner : Bool) (stack : List PvType)
          → TasksSay (standing_in p f.class r.body r.outer) inner r.scope r.given stack (Stand (AtReceive m span) ∷ rest)
          → StepSpeaks (standing_in p f.class r.body r.outer) r.scope (AtReceive m span)
          × TasksSay (standing_in p f.class r.body r.outer) false r.scope r.given stack rest
      go inner stack (stands s at_receive speaks says) = (speaks, says)

  pub at_an_arrival : (f : Frame) (r : Run) → IsRunOf p flags heap f r → (b : Barrier) (span : Span) (rest : List Task)
      → f.tasks ≡ Stand (AtArrive b span) ∷ rest → StandsAt (BarrierFits (home_in p f.class r.body) r.body.head b.shared) f r
      (AtArrive b span) rest
  at_an_arrival f r fits b span rest is =
      stood (BarrierFits (home_in p f.class r.body) r.body.head b.shared) f r fits (AtArrive b span) rest is refl refl
      (go r.inner r.stack
      (subst (λ ts. FrameSays (standing_in p f.class r.body r.outer) r.inner r.scope r.given r.stack ts) is fits.tasks))
    where
      go : (inner : Bool) (stack : List PvType)
          → TasksSay (standing_in p f.class r.body r.outer) inner r.scope r.given stack (Stand (AtArrive b span) ∷ rest)
          → StepSpeaks (standing_in p f.class r.body r.outer) r.scope (AtArrive b span)
          × TasksSay (standing_in p f.class r.body r.outer) false r.scope r.given stack rest
      go inner stack (stands s at_arrive speaks says) = (speaks, says)

  pub at_a_leave : (f : Frame) (r : Run) → IsRunOf p flags heap f r → (b : Barrier) (span : Span) (rest : List Task)
      → f.tasks ≡ Stand (AtLeave b span) ∷ rest → StandsAt (BarrierFits (home_in p f.class r.body) r.body.head b.shared) f r
      (AtLeave b span) rest
  at_a_leave f r fits b span rest is =
      stood (BarrierFits (home_in p f.class r.body) r.body.head b.shared) f r fits (AtLeave b span) rest is refl refl
      (subst (λ ts. FrameSays (standing_in p f.class r.body r.outer) r.inner r.scope r.given r.stack ts) is fits.tasks)

  -- a run goes on behind such a step, in another state of the same scene
  pub goes_behind : (f : Frame) (r : Run) → IsRunOf p flags heap f r → (tasks : List Task) (s : State) (taken : Taken)
      (trees : Amounts)
      → StateFits flags heap taken s → scene_of s ≡ scene_of r.state → s.old ≡ r.state.old → GoesOnTo r.taken taken
      → HasTrees p flags heap s.instances trees
      → FrameSays (standing_in p f.class r.body r.outer) false r.scope r.given r.stack tasks
      → AllTakeTurns p flags heap f.class r.body r.past (body_scene f) (opened false tasks) r.outer
      → RestNeverFails taken (λ maps. ran (truly maps) p r.body false tasks f.values s)
      → IsRunOf p flags heap (goes_on f tasks) (record r { state = s; taken = taken; trees = trees; inner = false })
  goes_behind f r fits tasks s taken trees state scene kept goes has_trees says outer never = record {
    state = record {
      fits = state;
      this = ap (λ z. z.this) scene ∙ fits.state.this;
      variables = λ n t is. ap (λ z. z.variables n.0) scene ∙ fits.state.variables n t is;
      result = ap (λ z. z.result) scene ∙ fits.state.result;
      trees = has_trees;
    };
    old = record {
      known = fits.old.known;
      settled = subst (λ c. AreSettled taken c fits.old.known) (sym kept)
          (settled_on r.taken taken goes r.state.old fits.old.known fits.old.settled);
      agrees = fits.old.agrees;
      fits = fits.old.fits;
      is = fits.old.is;
      needed = fits.old.needed;
    };
    body = fits.body;
    typed = record {
      this = fits.typed.this;
      variables = fits.typed.variables;
      result = fits.typed.result;
      values = fits.typed.values;
    };
    tasks = says;
    outer = outer;
    never = never;
  }
