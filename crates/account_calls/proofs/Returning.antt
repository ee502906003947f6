-- The label of a return: what the postcondition asks for goes to the frame that waits.
use Rattle.std.proofs.Common.{◌≡◌, ℕ, zero, suc, ◌+◌, ◌≤◌, Bool, false, Option, Some, None, List, [], ◌∷◌, refl, ap, sym, subst, ◌∙◌, arith}
use Rattle.std.specs.Prelude.{unwrap_or}
use Rattle.pv_ast.specs.declared.PvType.{PvType}
use Rattle.pv_ast.specs.declared.PvType.TheVariants.{Null}
use Rattle.pv_values.specs.declared.value.Value.{Value}
use Rattle.pv_values.specs.declared.value.Value.TheVariants as value
use Rattle.pv_fraction.specs.Amounts.{whole}
use Rattle.pv_picks.specs.Plain.Core.{Program}
use Rattle.pv_picks.specs.Formulas.Heaps.{Heap}
use Rattle.pv_picks.specs.Judge.States.{Resource, State, Cells}
use Rattle.pv_picks.specs.Judge.Settings.{Next, null}
use Rattle.pv_picks.specs.Judge.Inhaling.{inhale}
use Rattle.pv_picks.specs.Judge.Rows.{bind_for, arguments_of, result_of}
use Rattle.pv_picks.specs.Judge.Judging.{finish}
use Rattle.pv_picks.specs.Judge.Runs.{Judged, Maps}
use Rattle.pv_picks.specs.Machine.Tasks.{Task}
use Rattle.pv_picks.specs.Machine.Starts.{field_kind}
use Rattle.pv_picks.specs.Machine.Frames.{Frame, at_lengths_of, contract_scene, pushes}
use Rattle.pv_picks.specs.Typing.Expressions.{answer_of}
use Rattle.pv_picks.specs.Typing.Frames.{HasType}
use Rattle.core_trees.specs.Formulas.{ResultIsDeclared, in_class}
use Rattle.account_formulas.specs.Sights.{Contents}
use Rattle.account_formulas.specs.Runs.{Taken, truly, RestNeverFails, AreSettled}
use Rattle.account_formulas.specs.Owning.{Owns}
use Rattle.account_formulas.specs.Growing.{AllBelow, Place, HeapFits}
use Rattle.account_formulas.specs.Gaining.{PredicatesFit, Gained}
use Rattle.account_formulas.specs.Giving.{Gave}
use Rattle.account_formulas.proofs.Raising.{settled_on}
use Rattle.account_formulas.proofs.Picking.{picking, having_met}
use Rattle.account_formulas.proofs.Gaining.{formula_gains}
use Rattle.account_formulas.proofs.Alike.{scene_typed, owns_alike}
use Rattle.account.proofs.Goodness.{picked}
use Rattle.account.specs.Running.{ran}
use Rattle.account.specs.Frames as account
use Rattle.account.specs.Frames.{sight_in, speech_at_end, standing_in, OldIs, IsBodyOf, IsRunOf, WaitsFor, Called, called_of, amounts_of}
use Rattle.account.proofs.Working.{SaysOn, frame_says}
use Rattle.account.proofs.Ended.{past_fits, has_given, end_scene, end_alike, end_fits, end_gives, good_end}

-- null is the only value of its type
null_alone : (heap : Heap) (v : Value) → HasType heap Null v → v ≡ null
null_alone heap (value.Number z) h = absurd h
null_alone heap (value.Truth b) h = absurd h
null_alone heap (value.Reference zero) h = refl
null_alone heap (value.Reference (suc n)) h = absurd h

-- what a return comes to: the frame that waited goes on, with what the postcondition owns
pub record ReturnGoes (p : Program) (flags : ℕ → Bool) (heap : Heap) (f : Frame) (r : account.Run) (g : Frame) (s : account.Run)
    (rest : List Task) : Type 0 where
  pub run : account.Run
  pub fits : IsRunOf p flags heap (pushes f.result g rest) run
  pub says : SaysOn p flags heap (pushes f.result g rest) run run.inner run.scope run.given run.stack rest
  pub less : (q : Resource) → amounts_of run q ≤ amounts_of r q + amounts_of s q
  pub stays : called_of (pushes f.result g rest) run ≡ called_of g s

module _ (p : Program) (flags : ℕ → Bool) (heap : Heap) (sound : HeapFits p heap) (framed : PredicatesFit p heap) (f : Frame)
    (r : account.Run) (fits : IsRunOf p flags heap f r) (ended : f.tasks ≡ []) (g : Frame) (s : account.Run)
    (waits : WaitsFor p flags heap (called_of f r) g s) (most : (q : Resource) → amounts_of r q + amounts_of s q ≤ whole) where
  -- the result has the type that the call answers
  result_typed : HasType heap (answer_of f.method) f.result
  result_typed =
      fits.typed.result (has_given p flags heap f r fits ended (answer_of f.method) waits.called.answer) (answer_of f.method)
      waits.called.answer

  -- the run of the frame that waits, from a result on
  abbrev TakesIn : Value → Maps → Next Judged
  TakesIn v maps = inhale (truly maps) (bind_for f.this f.begun v waits.waiting) r.body.after
      (ran (truly maps) p s.body false waits.rest (v ∷ g.values))

  never_takes : RestNeverFails s.taken (λ maps. result_of (truly maps) f.method.result (λ v. TakesIn v maps) s.state)
  never_takes =
      subst (λ b. RestNeverFails s.taken (λ maps. result_of (truly maps) f.method.result
      (λ v. inhale (truly maps) (bind_for f.this b v waits.waiting) r.body.after
      (ran (truly maps) p s.body false waits.rest (v ∷ g.values))) s.state)) (sym waits.begun)
      (subst (λ x. RestNeverFails s.taken (λ maps. result_of (truly maps) f.method.result
      (λ v. inhale (truly maps) (bind_for f.this (arguments_of f.method.parameters waits.arguments) v waits.waiting) x
      (ran (truly maps) p s.body false waits.rest (v ∷ g.values))) s.state)) (sym waits.called.after) waits.never)

  -- the result is what was given, where it is picked, or null
  with_the_result : (G : Type 0)
      → ((met : List (PvType × ℕ)) → (AllBelow heap.count s.state.met → AllBelow heap.count met)
      → RestNeverFails s.taken (λ maps. TakesIn f.result maps (having_met s.state met)) → G) → G
  with_the_result G found = go f.method.result refl never_takes
    where
      go : (o : Option PvType) → f.method.result ≡ o
          → RestNeverFails s.taken (λ maps. result_of (truly maps) o (λ v. TakesIn v maps) s.state) → G
      go None is n = found s.state.met (λ b. b)
          (subst (λ v. RestNeverFails s.taken (λ maps. TakesIn v maps s.state))
          (sym (null_alone heap f.result (subst (λ o. HasType heap (unwrap_or o Null) f.result) is result_typed))) n)
      go (Some type) is n =
          picking s.taken heap sound.beyond type f.result
          (subst (λ o. HasType heap (unwrap_or o Null) f.result) is result_typed)
          (picked type (subst ResultIsDeclared is waits.called.declared)) (λ maps v. TakesIn v maps) s.state G found n

  -- where the postcondition stands for the caller
  abbrev wait_place : Place p heap
  wait_place = record {
    class = f.class;
    answer = None;
    speech = speech_at_end r.body;
    scope = r.body.head;
    past = at_lengths_of heap r.past;
    old = waits.waiting;
    known = waits.known;
    before = past_fits (field_kind p) heap r.past fits.old.fits;
    agrees = waits.stood;
    lengths = λ array n is. is;
  }

  gave : Gave p flags heap r.taken (Owns p flags (sight_in heap r) (end_scene p flags heap f r fits ended) r.body.after) r.state
      r.state.held r.trees (λ maps. finish (truly maps))
  gave = end_gives p flags heap f r fits ended sound

  abbrev GainsThere : State → Type 0
  GainsThere t = Gained p flags heap waits.known (λ sight. Owns p flags sight (contract_scene f) r.body.after) s.taken t s.trees
      gave.part (λ maps. ran (truly maps) p s.body false waits.rest (f.result ∷ g.values))

  gains : (met : List (PvType × ℕ)) → (AllBelow heap.count s.state.met → AllBelow heap.count met)
      → RestNeverFails s.taken (λ maps. TakesIn f.result maps (having_met s.state met)) → GainsThere (having_met s.state met)
  gains met low never =
      formula_gains p flags heap sound framed wait_place (contract_scene f)
      (scene_typed (in_class p f.class) (speech_at_end r.body) r.body.head heap (end_scene p flags heap f r fits ended)
      (contract_scene f) (end_alike p flags heap f r fits ended) (end_fits p flags heap f r fits ended)) r.body.after
      (good_end p flags heap f r fits ended) gave.part
      (owns_alike (in_class p f.class) (speech_at_end r.body) flags (sight_in heap r) (sight_in heap r) refl (λ z. refl)
      r.body.head (end_scene p flags heap f r fits ended) (contract_scene f) (end_alike p flags heap f r fits ended) r.body.after
      (good_end p flags heap f r fits ended) gave.part gave.owns)
      s.taken (having_met s.state met) waits.settled
      (let x = waits.state.fits in
      record { steps = x.steps; agree = x.agree; holds = x.holds; knows = x.knows; met = low x.met })
      s.trees waits.state.trees (λ q. let m = most q in let g = gave.sum q in omega (arith, m, g))
      (λ maps. ran (truly maps) p s.body false waits.rest (f.result ∷ g.values)) never

  older : (last : Taken) (after : Cells) → after ≡ s.state.old
      → ((known : Contents) → AreSettled s.taken s.state.old known → AreSettled last s.state.old known)
      → OldIs p heap s.body.speech.old g.old s.past last after
  older last after kept on = record {
    known = waits.old.known;
    settled = subst (λ c. AreSettled last c waits.old.known) (sym kept) (on waits.old.known waits.old.settled);
    agrees = waits.old.agrees;
    fits = waits.old.fits;
    is = waits.old.is;
    needed = waits.old.needed;
  }

  goes_on : (met : List (PvType × ℕ)) → GainsThere (having_met s.state met) → ReturnGoes p flags heap f r g s waits.rest
  goes_on met n = record {
    run = record s {
      state = n.after;
      taken = n.then_taken;
      trees = n.trees;
      inner = false;
      stack = answer_of f.method ∷ s.stack;
    };
    fits = record {
      state = record {
        fits = n.fine;
        this = ap (λ z. z.this) n.scene ∙ waits.state.this;
        variables = λ x t is. ap (λ z. z.variables x.0) n.scene ∙ waits.state.variables x t is;
        result = ap (λ z. z.result) n.scene ∙ waits.state.result;
        trees = n.has_trees;
      };
      old = older n.then_taken n.after.old n.kept (settled_on s.taken n.then_taken n.goes s.state.old);
      body = waits.body;
      typed = record {
        this = waits.typed.this;
        variables = waits.typed.variables;
        result = waits.typed.result;
        values = (result_typed, waits.typed.values);
      };
      tasks = frame_says (standing_in p g.class s.body s.outer) false s.scope s.given (answer_of f.method ∷ s.stack) waits.rest
          waits.tasks;
      outer = waits.outer;
      never = n.never;
    };
    says = waits.tasks;
    less = λ q. let a = n.sum q in let b = gave.sum q in omega (arith, a, b);
    stays = refl;
  }

  pub returns_go : ReturnGoes p flags heap f r g s waits.rest
  returns_go = with_the_result (ReturnGoes p flags heap f r g s waits.rest) (λ met low never. goes_on met (gains met low never))
