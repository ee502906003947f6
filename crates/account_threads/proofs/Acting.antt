-- A frame that stands at an action on an object, and its run after it, in another state.
use Rattle.std.proofs.Common.{◌≡◌, ℕ, Bool, false, List, ◌∷◌, refl, ap, sym, subst, ◌∙◌}
use Rattle.std.specs.Prelude.{drop}
use Rattle.pv_base.specs.declared.Name.{Name}
use Rattle.pv_base.specs.declared.Span.{Span}
use Rattle.pv_ast.specs.declared.PvType.{PvType}
use Rattle.pv_ast.specs.declared.PvType.TheVariants.{Object}
use Rattle.pv_values.specs.declared.value.Value.TheVariants as value
use Rattle.pv_picks.specs.Plain.Core.{Action, Parameter, Program}
use Rattle.pv_picks.specs.Formulas.Values.{reference_in}
use Rattle.pv_picks.specs.Formulas.Heaps.{Heap}
use Rattle.pv_picks.specs.Judge.States as states
use Rattle.pv_picks.specs.Judge.States.{State}
use Rattle.pv_picks.specs.Machine.Tasks.{AtAction, Task, Stand}
use Rattle.pv_picks.specs.Machine.Frames.{Frame, top, pops, body_scene}
use Rattle.pv_picks.specs.Typing.Blocks.{Allows}
use Rattle.pv_picks.specs.Typing.Tasks.{at_action}
use Rattle.pv_picks.specs.Typing.Frames as typed
use Rattle.pv_picks.specs.Typing.Frames.{HasType}
use Rattle.machine_laws.proofs.Local.{top-fits, rest-fits}
use Rattle.machine_laws.proofs.Kept.{object-fits}
use Rattle.account_formulas.specs.Runs.{Taken, truly, RestNeverFails, AreSettled, GoesOnTo}
use Rattle.account_formulas.specs.Owning.{Amounts, HasTrees}
use Rattle.account_formulas.specs.Growing.{StateFits}
use Rattle.account_formulas.proofs.Raising.{settled_on}
use Rattle.account.specs.Running.{ran}
use Rattle.account.specs.Scoped.{Standing, TasksSay, FrameSays, stands}
use Rattle.account.specs.Frames as account
use Rattle.account.proofs.Working.{frame_says}
use Rattle.account.specs.Frames.{standing_in, opened, AllTakeTurns, IsRunOf}

-- the object on top
abbrev pub object_on : Frame → ℕ
object_on f = reference_in (top f.values)

-- at an action its object is on top, of a class that has what the action needs
pub record ActsOn (c : Standing) (xs : List Parameter) (given : Bool) (stack : List PvType) (action : Action) (class : Name)
    (rest : List Task) : Type 0 where
  pub under : List PvType
  pub object : stack ≡ Object class ∷ under
  pub allowed : Allows c.home.program class action
  pub says : TasksSay c false xs given under rest

pub acts_on : (c : Standing) (inner : Bool) (xs : List Parameter) (given : Bool) (stack : List PvType) (action : Action)
    (class : Name) (span : Span) (rest : List Task)
    → TasksSay c inner xs given stack (Stand (AtAction action class span) ∷ rest)
    → ActsOn c xs given stack action class rest
acts_on c inner xs given stack action class span rest (stands under (at_action allows) speaks says) =
    record { under = under; object = refl; allowed = allows; says = says }

-- the tasks of what is left, by the run that comes after
abbrev pub SaysLeft : Program → Frame → account.Run → List Task → Type 0
SaysLeft p f run rest = TasksSay (standing_in p f.class run.body run.outer) run.inner run.scope run.given run.stack rest

-- a run after an action, in another state
abbrev pub run_after : account.Run → State → Taken → Amounts → account.Run
run_after r s taken trees =
    record r { state = s; taken = taken; trees = trees; inner = false; stack = drop 1 r.stack }

module _ (p : Program) (flags : ℕ → Bool) (heap : Heap) (f : Frame) (r : account.Run) (fits : IsRunOf p flags heap f r)
    (action : Action) (class : Name) (span : Span) (rest : List Task) (is : f.tasks ≡ Stand (AtAction action class span) ∷ rest)
  where
    acting : ActsOn (standing_in p f.class r.body r.outer) r.scope r.given r.stack action class rest
    acting = acts_on (standing_in p f.class r.body r.outer) r.inner r.scope r.given r.stack action class span rest
        (subst (FrameSays (standing_in p f.class r.body r.outer) r.inner r.scope r.given r.stack) is fits.tasks)

    pub allowed : Allows p class action
    allowed = acting.allowed

    -- the object has the class
    pub acts_on_class : HasType heap (Object class) (value.Reference (object_on f))
    acts_on_class = object-fits heap class (top f.values)
        (top-fits heap (Object class) acting.under f.values
        (subst (λ stack. typed.ValuesFit heap stack f.values) acting.object fits.typed.values))

    -- what is left is well typed
    pub says_after : TasksSay (standing_in p f.class r.body r.outer) false r.scope r.given (drop 1 r.stack) rest
    says_after = subst (λ stack. TasksSay (standing_in p f.class r.body r.outer) false r.scope r.given (drop 1 stack) rest)
        (sym acting.object) acting.says

    -- the run of what is left goes on in another state of the same scene
    pub acted : (taken : Taken) (s : State) (trees : Amounts) → GoesOnTo r.taken taken → StateFits flags heap taken s
        → states.scene_of s ≡ states.scene_of r.state → s.old ≡ r.state.old → HasTrees p flags heap s.instances trees
        → RestNeverFails taken (λ maps. ran (truly maps) p r.body false rest (drop 1 f.values) s)
        → IsRunOf p flags heap (pops 1 f rest) (run_after r s taken trees)
    acted taken s trees goes good scene kept has never = record {
      state = record {
        fits = good;
        this = ap (λ z. z.this) scene ∙ fits.state.this;
        variables = λ n t k. ap (λ z. z.variables n.0) scene ∙ fits.state.variables n t k;
        result = ap (λ z. z.result) scene ∙ fits.state.result;
        trees = has;
      };
      old = record {
        known = fits.old.known;
        settled = settled_on r.taken taken goes s.old fits.old.known
            (subst (λ o. AreSettled r.taken o fits.old.known) (sym kept) fits.old.settled);
        agrees = fits.old.agrees;
        fits = fits.old.fits;
        is = fits.old.is;
        needed = fits.old.needed;
      };
      body = fits.body;
      typed = record {
        this = fits.typed.this;
        variables = fits.typed.variables;
        result = fits.typed.result;
        values = subst (λ stack. typed.ValuesFit heap (drop 1 stack) (drop 1 f.values)) (sym acting.object)
            (rest-fits heap (Object class) acting.under f.values
            (subst (λ stack. typed.ValuesFit heap stack f.values) acting.object fits.typed.values));
      };
      tasks = frame_says (standing_in p f.class r.body r.outer) false r.scope r.given (drop 1 r.stack) rest says_after;
      outer = subst (λ tasks. AllTakeTurns p flags heap f.class r.body r.past (body_scene f) (opened r.inner tasks) r.outer) is
          fits.outer;
      never = never;
    }
