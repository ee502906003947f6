-- A body ends: its postcondition is given up, and met.
use Rattle.std.proofs.Common.{◌≡◌, ◌⊎◌, inl, inr, ℕ, Bool, true, IsTrue, Option, Some, None, List, [], refl, ap, sym, subst}
use Rattle.std.specs.Prelude.{unwrap_or}
use Rattle.std.proofs.lemmas.Option.{none-some}
use Rattle.pv_base.specs.declared.Name.{Name}
use Rattle.pv_values.specs.Typing.{Kind}
use Rattle.pv_ast.specs.declared.PvType.{PvType}
use Rattle.pv_ast.specs.declared.PvType.TheVariants.{Object}
use Rattle.pv_values.specs.declared.value.Value.TheVariants as value
use Rattle.pv_picks.specs.Plain.Core.{Method, Program}
use Rattle.pv_picks.specs.Formulas.Evaluation.{Scene}
use Rattle.pv_picks.specs.Formulas.Heaps.{Heap}
use Rattle.pv_picks.specs.Judge.Judging.{finish}
use Rattle.pv_picks.specs.Machine.Frames.{Frame, at_lengths_of, sight_of, contract_scene}
use Rattle.pv_picks.specs.Formulas.Meeting.{AllMet, unmet}
use Rattle.pv_picks.specs.Machine.Starts.{field_kind}
use Rattle.pv_picks.specs.Typing.Tasks.{IsAnswered}
use Rattle.pv_picks.specs.Typing.Frames.{HasType}
use Rattle.core_trees.specs.Formulas.{in_class}
use Rattle.account_formulas.specs.Sights.{SceneFits, ValuesFit}
use Rattle.account_formulas.specs.Runs.{truly, RestNeverFails}
use Rattle.account_formulas.specs.Good.{IsGood}
use Rattle.account_formulas.specs.Owning.{Owns}
use Rattle.account_formulas.specs.Growing.{Place, HeapFits}
use Rattle.account_formulas.specs.Giving.{Gave}
use Rattle.account_formulas.specs.Agreeing.{ScenesAgree}
use Rattle.account_formulas.proofs.Meeting.{is_met}
use Rattle.account_formulas.proofs.Alike.{owns_alike}
use Rattle.account_formulas.proofs.Laws.{gives_up}
use Rattle.account.proofs.Goodness.{good_formula}
use Rattle.account.specs.Running.{ran}
use Rattle.account.specs.Scoped.{TasksSay, FrameSays, done}
use Rattle.account.specs.Frames as account
use Rattle.account.specs.Frames.{sight_in, speech_at_end, standing_in, OldIs, IsBodyOf, IsRunOf, WaitsFor, Called, called_of, amounts_of}

-- the values of an earlier heap fit also with the present lengths
pub past_fits : (kinds : Name → Name → Option Kind) (present past : Heap) → ValuesFit kinds present past
    → ValuesFit kinds present (at_lengths_of present past)
past_fits kinds present past fits = record {
  fields = fits.fields;
  numbers = fits.numbers;
  truths = fits.truths;
  no_fields = fits.no_fields;
  no_elements = fits.no_elements;
  beyond_fields = fits.beyond_fields;
  beyond_elements = fits.beyond_elements;
}

-- a frame with no task left has given its result
answered : (answer : Option PvType) (given : Bool) (type : PvType) → answer ≡ Some type → IsAnswered answer given → given ≡ true
answered None given type is a = absurd (none-some type is)
answered (Some t) given type is a = a

module _ (p : Program) (flags : ℕ → Bool) (heap : Heap) (f : Frame) (r : account.Run) (fits : IsRunOf p flags heap f r)
    (ended : f.tasks ≡ []) where
  -- the scene of which the contract of a body speaks in the run
  abbrev pub end_scene : Scene
  end_scene = record { this = r.state.this; variables = r.body.site.begun; result = r.state.result }

  abbrev pub end_place : Place p heap
  end_place = record {
    class = f.class;
    answer = None;
    speech = speech_at_end r.body;
    scope = r.body.head;
    past = at_lengths_of heap r.past;
    old = r.state.old;
    known = fits.old.known;
    before = past_fits (field_kind p) heap r.past fits.old.fits;
    agrees = fits.old.agrees;
    lengths = λ array n is. is;
  }

  pub has_given : (type : PvType) → r.body.answer ≡ Some type → r.given ≡ true
  has_given type is = go r.stack r.inner
      (subst (λ ts. FrameSays (standing_in p f.class r.body r.outer) r.inner r.scope r.given r.stack ts) ended fits.tasks)
    where
      go : (stack : List PvType) (inner : Bool)
          → TasksSay (standing_in p f.class r.body r.outer) inner r.scope r.given stack [] → r.given ≡ true
      go stack inner (done a) = answered r.body.answer r.given type is a

  -- run and frame speak of the same
  pub end_alike : ScenesAgree (speech_at_end r.body) r.body.head end_scene (contract_scene f)
  end_alike = record {
    this = fits.state.this;
    variables = fits.body.same;
    result = λ t is. fits.state.result;
  }

  pub end_fits : SceneFits (in_class p f.class) (speech_at_end r.body) r.body.head heap end_scene
  end_fits = record {
    this = subst (λ n. HasType heap (Object f.class) (value.Reference n)) (sym fits.state.this) fits.typed.this;
    variables = λ n t is. subst (HasType heap t) (sym (fits.body.same n t is)) (fits.body.typed n t is);
    result = λ t is. subst (HasType heap t) (sym fits.state.result)
        (let answer = fits.body.answers t is in fits.typed.result (has_given t answer) t answer);
  }

  -- the machine sees what the run saw, where `\old` is spoken of
  old_alike : IsTrue r.body.speech.old → (sight_of heap f).old ≡ (sight_in heap r).old
  old_alike speaks = go fits.old.is
    where
      go : (f.old ≡ Some r.past) ⊎ (f.old ≡ None) → (sight_of heap f).old ≡ (sight_in heap r).old
      go (inl is) = ap (λ o. at_lengths_of heap (unwrap_or o heap)) is
      go (inr is) = absurd (fits.old.needed is speaks)

  pub good_end : IsGood (in_class p f.class) (speech_at_end r.body) r.body.head r.body.after
  good_end = good_formula (in_class p f.class) (speech_at_end r.body) r.body.head r.body.after fits.body.after

  module _ (sound : HeapFits p heap) where
    -- what the postcondition owns is given up
    pub end_gives : Gave p flags heap r.taken (Owns p flags (sight_in heap r) end_scene r.body.after) r.state r.state.held r.trees
        (λ maps. finish (truly maps))
    end_gives = gives_up p flags heap sound end_place end_scene end_fits r.body.after good_end r.taken r.state fits.old.settled
        fits.state.fits r.trees fits.state.trees r.body.check None (λ maps. finish (truly maps))
        (subst (λ ts. RestNeverFails r.taken (λ maps. ran (truly maps) p r.body r.inner ts f.values r.state)) ended fits.never)

    -- so it is met
    pub end_met : (m : Method) → IsBodyOf m r.body → unmet (sight_of heap f) (contract_scene f) m.contract.after ≡ AllMet
    end_met m is = subst (λ g. unmet (sight_of heap f) (contract_scene f) g ≡ AllMet) is.after
        (is_met (in_class p f.class) (speech_at_end r.body) p flags r.body.head (sight_of heap f) (contract_scene f) r.body.after
        good_end end_gives.part
        (owns_alike (in_class p f.class) (speech_at_end r.body) flags (sight_in heap r) (sight_of heap f) refl old_alike
        r.body.head end_scene (contract_scene f) end_alike r.body.after good_end end_gives.part end_gives.owns))
