-- A formula of a frame's body is given up by its run, where it is met in the frame. And the run goes on with what is left.
use Rattle.std.proofs.Common.{◌≡◌, ◌⊎◌, inl, inr, ℕ, ◌+◌, ◌≤◌, Bool, IsTrue, Some, None, List, refl, ap, sym, ◌∙◌, arith}
use Rattle.std.specs.Prelude.{unwrap_or}
use Rattle.std.proofs.lemmas.Option.{none-some}
use Rattle.pv_ast.specs.declared.PvType.{PvType}
use Rattle.pv_values.specs.declared.value.Value.{Value}
use Rattle.pv_picks.specs.declared.check.Check.{Check}
use Rattle.pv_picks.specs.Plain.Core.{Formula, Program}
use Rattle.pv_picks.specs.Formulas.Heaps.{Heap}
use Rattle.pv_picks.specs.Formulas.Meeting.{IsMet}
use Rattle.pv_picks.specs.Judge.States.{Resource, Folded, amount_of, scene_of}
use Rattle.pv_picks.specs.Machine.Starts.{field_kind}
use Rattle.pv_picks.specs.Judge.Settings.{Next}
use Rattle.pv_picks.specs.Judge.Judging.{exhale_own}
use Rattle.pv_picks.specs.Machine.Tasks.{Task}
use Rattle.pv_picks.specs.Machine.Frames.{Frame, at_lengths_of, sight_of, body_scene}
use Rattle.pv_picks.specs.Judge.Runs.{Judged, Maps}
use Rattle.pv_picks.specs.Typing.Frames as typed
use Rattle.pv_picks.specs.Typing.Frames.{HasType}
use Rattle.core_trees.specs.Formulas.{FormulaFits}
use Rattle.account_formulas.specs.Sights.{Lengths, SceneFits}
use Rattle.account_formulas.specs.Runs.{truly, RestNeverFails}
use Rattle.account_formulas.specs.Owning.{Amounts, Owns, HasTrees}
use Rattle.account_formulas.specs.Growing.{StateFits, Place, HeapFits}
use Rattle.account_formulas.specs.Giving.{Holdings, amounts_in, with_left, Gave}
use Rattle.account_formulas.specs.Agreeing.{ScenesAgree}
use Rattle.account_formulas.proofs.Alike.{scene_typed, agree_back}
use Rattle.account_formulas.proofs.Laws.{gives_up, owned_is_met, owned_alike}
use Rattle.account.proofs.Goodness.{good_formula}
use Rattle.account.specs.Frames as account
use Rattle.account.specs.Running.{ran}
use Rattle.account.specs.Frames.{amounts_of, sight_in, home_in, standing_in, IsRunOf}
use Rattle.account.specs.Going.{Goes}
use Rattle.account.proofs.Ended.{past_fits}
use Rattle.account.proofs.Working.{SaysOn, TurnsAround, frame_says}

module _ (p : Program) (flags : ℕ → Bool) (present : Heap) (f : Frame) (r : account.Run)
    (fits : IsRunOf p flags present f r) where
  -- where formulas of the body stand
  abbrev pub body_place : Place p present
  body_place = record {
    class = f.class;
    answer = r.body.answer;
    speech = r.body.speech;
    scope = r.scope;
    past = at_lengths_of present r.past;
    old = r.state.old;
    known = fits.old.known;
    before = past_fits (field_kind p) present r.past fits.old.fits;
    agrees = fits.old.agrees;
    lengths = λ array n is. is;
  }

  -- run and frame are in the same scene
  pub scenes_agree : ScenesAgree r.body.speech r.scope (scene_of r.state) (body_scene f)
  scenes_agree = record { this = fits.state.this; variables = fits.state.variables; result = λ t is. fits.state.result }

  pub frame_scene_fits : SceneFits (home_in p f.class r.body) r.body.speech r.scope present (body_scene f)
  frame_scene_fits = record {
    this = fits.typed.this;
    variables = fits.typed.variables;
    result = λ t is. absurd (none-some t (sym fits.body.quiet ∙ is));
  }

  pub run_scene_fits : SceneFits (home_in p f.class r.body) r.body.speech r.scope present (scene_of r.state)
  run_scene_fits = scene_typed (home_in p f.class r.body) r.body.speech r.scope present (body_scene f) (scene_of r.state)
      (agree_back r.body.speech r.scope (scene_of r.state) (body_scene f) scenes_agree) frame_scene_fits

  -- the machine sees what the run saw, where `\old` is spoken of
  old_alike : IsTrue r.body.speech.old → (sight_of present f).old ≡ (sight_in present r).old
  old_alike speaks = go fits.old.is
    where
      go : (f.old ≡ Some r.past) ⊎ (f.old ≡ None) → (sight_of present f).old ≡ (sight_in present r).old
      go (inl is) = ap (λ o. at_lengths_of present (unwrap_or o present)) is
      go (inr is) = absurd (fits.old.needed is speaks)

  module _ (heap : HeapFits p present) (g : Formula) (says : FormulaFits (home_in p f.class r.body) r.body.speech r.scope g) where
    -- a formula is given up
    pub gives : (named : Check) (next : Maps → Next Judged)
        → RestNeverFails r.taken (λ maps. exhale_own (truly maps) named g (next maps) r.state)
        → Gave p flags present r.taken (Owns p flags (sight_in present r) (scene_of r.state) g) r.state r.state.held r.trees next
    gives named next never = gives_up p flags present heap body_place (scene_of r.state) run_scene_fits g
        (good_formula (home_in p f.class r.body) r.body.speech r.scope g says) r.taken r.state fits.old.settled fits.state.fits
        r.trees fits.state.trees named None next never

    -- what it owns in the run it owns in the scene of the frame
    pub owned_in_scene : (part : Amounts) → Owns p flags (sight_in present r) (scene_of r.state) g part
        → Owns p flags (sight_in present r) (body_scene f) g part
    owned_in_scene part owns =
        owned_alike (home_in p f.class r.body) r.body.speech flags (sight_in present r) (sight_in present r)
        refl (λ t. refl) r.scope (scene_of r.state) (body_scene f) scenes_agree g
        (good_formula (home_in p f.class r.body) r.body.speech r.scope g says) part owns

    -- and in the frame, with the old heap that it keeps
    pub owned_in_frame : (part : Amounts) → Owns p flags (sight_in present r) (scene_of r.state) g part
        → Owns p flags (sight_of present f) (body_scene f) g part
    owned_in_frame part owns =
        owned_alike (home_in p f.class r.body) r.body.speech flags (sight_in present r) (sight_of present f)
        refl old_alike r.scope (scene_of r.state) (body_scene f) scenes_agree g
        (good_formula (home_in p f.class r.body) r.body.speech r.scope g says) part owns

    -- so it is met there
    pub met_in_frame : (part : Amounts) → Owns p flags (sight_in present r) (scene_of r.state) g part
        → IsMet (sight_of present f) (body_scene f) g
    met_in_frame part owns = owned_is_met (home_in p f.class r.body) r.body.speech p flags r.scope (sight_of present f)
        (body_scene f) g (good_formula (home_in p f.class r.body) r.body.speech r.scope g says) part (owned_in_frame part owns)

  -- the run goes on with another state, of which it has no more
  pub left_goes : (H : Holdings) (I : List Folded) (l : Lengths) (T : Amounts)
      → StateFits flags present r.taken (with_left r.state H I l) → HasTrees p flags present I T
      → ((q : Resource) → amounts_in H q + T q ≤ amount_of r.state q + r.trees q)
      → (inner : Bool) (stack : List PvType) (tasks : List Task) (values : List Value) → typed.ValuesFit present stack values
      → SaysOn p flags present f r inner r.scope r.given stack tasks → TurnsAround p flags present f r inner tasks
      → RestNeverFails r.taken
      (λ maps. ran (truly maps) p r.body inner tasks values (with_left r.state H I l))
      → Goes p flags present (record f { values = values; tasks = tasks }) r
  left_goes H I l T state trees less inner stack tasks values have says turns never = record {
    run = record r { state = with_left r.state H I l; trees = T; inner = inner; stack = stack };
    fits = record {
      state = record {
        fits = state;
        this = fits.state.this;
        variables = fits.state.variables;
        result = fits.state.result;
        trees = trees;
      };
      old = fits.old;
      body = fits.body;
      typed = record {
        this = fits.typed.this;
        variables = fits.typed.variables;
        result = fits.typed.result;
        values = have;
      };
      tasks = frame_says (standing_in p f.class r.body r.outer) inner r.scope r.given stack tasks says;
      outer = turns;
      never = never;
    };
    says = says;
    less = λ q. let k = less q in omega (arith, k);
    past = refl;
    body = refl;
    outer = refl;
  }
