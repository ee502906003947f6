-- The turns of a loop at its head: by the value of the condition the run takes the turn in, or the turn past.
use Rattle.std.proofs.Common.{◌≡◌, ℕ, ◌+◌, ◌≤◌, ◌<◌, Bool, true, false, if◌then◌else◌, Option, Some, None, IsSome, List, [], ◌∷◌, refl, ap, sym, subst, ◌∙◌, arith}
use Rattle.std.specs.Prelude.{nat_eq, is_some}
use Rattle.std.proofs.lemmas.Option.{none-some, same_Some}
use Rattle.pv_base.specs.declared.Name.{Name}
use Rattle.pv_ast.specs.declared.PvType.{PvType}
use Rattle.pv_ast.specs.declared.PvType.TheVariants.{Truth, Object}
use Rattle.pv_fraction.specs.Amounts.{whole}
use Rattle.pv_values.specs.declared.value.Value.{Value}
use Rattle.pv_values.specs.declared.value.Value.TheVariants as value
use Rattle.pv_values.specs.Sames.{same_truth}
use Rattle.pv_picks.specs.declared.evidence.Pick.{Pick}
use Rattle.pv_picks.specs.Plain.Core.{Parameter, Program}
use Rattle.pv_picks.specs.Formulas.Values.{Variables, truth_in, with_variable}
use Rattle.pv_picks.specs.Formulas.Heaps.{Heap}
use Rattle.pv_picks.specs.Formulas.Evaluation.{Scene}
use Rattle.pv_picks.specs.Judge.States as states
use Rattle.pv_picks.specs.Judge.States.{Resource, Cells, State, amount_of, nothing_held, with_local}
use Rattle.pv_picks.specs.Machine.Starts.{field_kind}
use Rattle.pv_picks.specs.Judge.Settings.{Next}
use Rattle.pv_picks.specs.Machine.Tasks.{Loop, Task, Evaluate, Turn}
use Rattle.pv_picks.specs.Machine.Frames.{Frame, goes_on, only_now, at_lengths_of, body_scene}
use Rattle.pv_picks.specs.Judge.Rows.{compute}
use Rattle.pv_picks.specs.Judge.Judging.{inhale_own, pick_variables, when, blocking, turn_of}
use Rattle.pv_picks.specs.Judge.Runs.{Judged, Maps}
use Rattle.pv_picks.specs.Typing.Heaps.{IsUnused}
use Rattle.pv_picks.proofs.Sames.{naturals_same}
use Rattle.pv_picks.specs.Typing.Expressions.{Home, Speech, silent, type_in, IsOf}
use Rattle.pv_picks.specs.Typing.Frames.{HasType, VariablesFit}
use Rattle.core_trees.specs.Formulas.{FormulaFits, AreVariables}
use Rattle.account_formulas.specs.Sights.{Contents, ContentsAgree, ValuesFit, SceneFits, value_at}
use Rattle.account_formulas.specs.Runs.{Taken, truly, all_maps, RestNeverFails, AreSettled, GoesOnTo, with_lengths}
use Rattle.account_formulas.specs.Owning.{Amounts, Owns, HasTrees}
use Rattle.account_formulas.specs.Growing.{AllBelow, StateFits, HeapFits}
use Rattle.account_formulas.specs.Gaining.{Gained, PredicatesFit}
use Rattle.account_formulas.specs.Agreeing.{AgreeOn, ScenesAgree}
use Rattle.account_formulas.proofs.Alike.{scene_typed, agree_back, agree_then, same_value}
use Rattle.account_formulas.proofs.Laws.{takes_in, owned_alike}
use Rattle.account_formulas.proofs.Lengths.{never_as}
use Rattle.account_formulas.proofs.Picking.{picking}
use Rattle.account_formulas.proofs.Raising.{settled_on}
use Rattle.account.proofs.Goodness.{good_formula, picked}
use Rattle.account.proofs.Choosing.{never_turn}
use Rattle.account.specs.Running.{Body, turn_inside, ran, ran_turn}
use Rattle.account.specs.Scoped.{TasksSay, evaluates, turns_in, turns_past}
use Rattle.account.specs.Frames as account
use Rattle.account.specs.Frames.{Part, outer_of, amounts_of, standing_in, home_in, opened, StateIs, OldIs, BodyIs, TakesTurns, AllTakeTurns, IsRunOf}
use Rattle.account_accesses.proofs.Conditions.{Settled, settle}
use Rattle.account.proofs.Ended.{past_fits}

-- The variables of a loop get the values that they have

abbrev pub set_to : List Parameter → Variables → Variables → Variables
set_to [] has v = v
set_to (p ∷ ps) has v = set_to ps has (with_variable v p.0 (has p.0.0))

set_keeps : (ps : List Parameter) (has v : Variables) (n : ℕ) → v n ≡ has n → set_to ps has v n ≡ has n
set_keeps [] has v n is = is
set_keeps (p ∷ ps) has v n is = set_keeps ps has (with_variable v p.0 (has p.0.0)) n (go (nat_eq n p.0.0) refl)
  where
    go : (b : Bool) → nat_eq n p.0.0 ≡ b → (if b then has p.0.0 else v n) ≡ has n
    go true e = ap has (sym (naturals_same n p.0.0 e))
    go false e = is

set_has : (ps : List Parameter) (has v : Variables) (n : Name) → IsSome (type_in ps n) → set_to ps has v n.0 ≡ has n.0
set_has [] has v n is = absurd (cc is)
set_has (p ∷ ps) has v n is =
    go (λ k. set_has ps has (with_variable v p.0 (has p.0.0)) n k)
    (λ k. set_keeps ps has (with_variable v p.0 (has p.0.0)) n.0 k) (nat_eq n.0 p.0.0) refl is
  where
    go : (IsSome (type_in ps n) → set_to ps has (with_variable v p.0 (has p.0.0)) n.0 ≡ has n.0)
        → (with_variable v p.0 (has p.0.0) n.0 ≡ has n.0 → set_to ps has (with_variable v p.0 (has p.0.0)) n.0 ≡ has n.0)
        → (b : Bool) → nat_eq n.0 p.0.0 ≡ b → IsSome (if b then Some p.1 else type_in ps n)
        → set_to ps has (with_variable v p.0 (has p.0.0)) n.0 ≡ has n.0
    go more keeps true e is =
        keeps (ap (λ b. if b then has p.0.0 else v n.0) e ∙ ap has (sym (naturals_same n.0 p.0.0 e)))
    go more keeps false e is = more is

pub picking_loop : (heap : Heap) → ((n : ℕ) → heap.count < n → IsUnused heap n) → (taken : Taken) (xs ps : List Parameter)
    (has : Variables) → AreVariables xs ps → ((n : Name) (t : PvType) → type_in xs n ≡ Some t → HasType heap t (has n.0))
    → (next : Maps → Next Judged) (t : State) (G : Type 0)
    → ((met : List (PvType × ℕ)) → (AllBelow heap.count t.met → AllBelow heap.count met)
    → RestNeverFails taken (λ maps. next maps (record t { variables = set_to ps has t.variables; met = met })) → G)
    → RestNeverFails taken (λ maps. pick_variables (truly maps) ps (next maps) t) → G
picking_loop heap beyond taken xs [] has all typed next t G found never = found t.met (λ b. b) never
picking_loop heap beyond taken xs (p ∷ ps) has all typed next t G found never =
    picking taken heap beyond p.1 (has p.0.0) (typed p.0 p.1 all.0.0) (picked p.1 all.0.1)
    (λ maps v state. pick_variables (truly maps) ps (next maps) (with_local state p.0 v)) t G
    (λ met b n. picking_loop heap beyond taken xs ps has all.1 typed next
    (record t { met = met; variables = with_variable t.variables p.0 (has p.0.0) }) G (λ more c k. found more (λ z. c (b z)) k) n)
    never

-- the same without a result
quiet_agree : (speech : Speech) (xs : List Parameter) (a b : Scene) → ScenesAgree speech xs a b → ScenesAgree silent xs a b
quiet_agree speech xs a b s = record { this = s.this; variables = s.variables; result = λ t is. absurd (none-some t is) }

quiet_typed : (h : Home) (speech : Speech) (xs : List Parameter) (heap : Heap) (a : Scene) → SceneFits h speech xs heap a
    → SceneFits h silent xs heap a
quiet_typed h speech xs heap a s =
    record { this = s.this; variables = s.variables; result = λ t is. absurd (none-some t is) }

same_scene : (speech : Speech) (xs : List Parameter) (a b : Scene) → a ≡ b → ScenesAgree speech xs a b
same_scene speech xs a b e = record {
  this = ap (λ z. z.this) e;
  variables = λ n t is. ap (λ z. z.variables n.0) e;
  result = λ t is. ap (λ z. z.result) e;
}

module _ (p : Program) (flags : ℕ → Bool) (heap : Heap) (sound : HeapFits p heap) (framed : PredicatesFit p heap) (f : Frame)
    (body : Body) (past : Heap) (before : ValuesFit (field_kind p) heap past) (l : Loop) (xs : List Parameter)
    (condition : IsOf (home_in p f.class body) xs l.condition Truth)
    (invariant : FormulaFits (home_in p f.class body) body.speech xs l.invariant)
    (typed' : SceneFits (home_in p f.class body) body.speech xs heap (body_scene f)) (part : Amounts)
    (owns : Owns p flags (record { now = heap; old = at_lengths_of heap past }) (body_scene f) l.invariant part) where
  -- a run that took the invariant and looked at the condition
  pub record Looked (taken : Taken) (t : State) (T : Amounts) (wanted : Bool) (next : Maps → Next Judged) : Type 0 where
    pub then_taken : Taken
    pub after : State
    pub trees : Amounts
    pub value : Value
    pub reads : value_at (only_now heap) (body_scene f) l.condition ≡ Some value
    pub law : (picks : List Pick) (k : Value → Next Judged)
        → compute (truly (all_maps then_taken picks)) l.condition k after ≡ k value after
    pub never : RestNeverFails then_taken
        (λ maps. if same_truth wanted (truth_in value) then next maps after else (truly maps).blocked)
    pub goes : GoesOnTo taken then_taken
    pub fine : StateFits flags heap then_taken after
    pub scene : states.scene_of after ≡ states.scene_of t
    pub kept : after.old ≡ t.old
    pub has_trees : HasTrees p flags heap after.instances trees
    pub sum : (q : Resource) → amount_of after q + trees q ≤ amount_of t q + T q + part q

  pub looks : (taken : Taken) (t : State) → ScenesAgree body.speech xs (body_scene f) (states.scene_of t) → (known : Contents)
      → AreSettled taken t.old known → ContentsAgree past known → StateFits flags heap taken t → (T : Amounts)
      → HasTrees p flags heap t.instances T → ((q : Resource) → amount_of t q + T q + part q ≤ whole) → (wanted : Bool)
      (next : Maps → Next Judged)
      → RestNeverFails taken (λ maps. inhale_own (truly maps) l.invariant (when (truly maps) wanted l.condition (next maps)) t)
      → Looked taken t T wanted next
  looks taken t agree known settled agrees fine T trees most wanted next never = record {
    then_taken = g.then_taken;
    after = with_lengths g.after d.lengths;
    trees = g.trees;
    value = d.value;
    reads = same_value (home_in p f.class body) silent flags (only_now heap) (only_now heap) refl (λ z. refl) xs
        (states.scene_of g.after) (body_scene f)
        (quiet_agree body.speech xs _ _ (agree_back body.speech xs _ _ agree_after)) l.condition Truth condition ∙ d.reads;
    law = λ picks k. d.law d.lengths (λ t a n is. is) picks k;
    never = d.never;
    goes = g.goes;
    fine = let x = g.fine in
        record { steps = x.steps; agree = d.agrees; holds = x.holds; knows = x.knows; met = x.met };
    scene = g.scene;
    kept = g.kept;
    has_trees = g.has_trees;
    sum = g.sum;
  }
    where
      g : Gained p flags heap known (λ sight. Owns p flags sight (states.scene_of t) l.invariant) taken t T part
          (λ maps. when (truly maps) wanted l.condition (next maps))
      g = takes_in p flags heap sound framed (record {
        class = f.class;
        answer = body.answer;
        speech = body.speech;
        scope = xs;
        past = at_lengths_of heap past;
        old = t.old;
        known = known;
        before = past_fits (field_kind p) heap past before;
        agrees = agrees;
        lengths = λ a n e. e;
      }) (states.scene_of t)
          (scene_typed (home_in p f.class body) body.speech xs heap (body_scene f) (states.scene_of t) agree typed') l.invariant
          (good_formula (home_in p f.class body) body.speech xs l.invariant invariant) part
          (owned_alike (home_in p f.class body) body.speech flags (record { now = heap; old = at_lengths_of heap past })
          (record { now = heap; old = at_lengths_of heap past }) refl (λ z. refl) xs (body_scene f) (states.scene_of t) agree
          l.invariant (good_formula (home_in p f.class body) body.speech xs l.invariant invariant) part owns)
          taken t settled fine T trees most (λ maps. when (truly maps) wanted l.condition (next maps)) never

      agree_after : ScenesAgree body.speech xs (body_scene f) (states.scene_of g.after)
      agree_after = agree_then body.speech xs (body_scene f) (states.scene_of t) (states.scene_of g.after) agree
          (same_scene body.speech xs _ _ (sym g.scene))

      scene_after : SceneFits (home_in p f.class body) silent xs heap (states.scene_of g.after)
      scene_after = quiet_typed (home_in p f.class body) body.speech xs heap _
          (scene_typed (home_in p f.class body) body.speech xs heap (body_scene f) (states.scene_of g.after) agree_after typed')

      d : Settled flags (home_in p f.class body) xs heap (states.scene_of g.after) scene_after sound g.then_taken g.after g.fine
          l.condition Truth
          (λ maps v state. if same_truth wanted (truth_in v) then next maps state else (truly maps).blocked) g.after.lengths
      d = settle flags (home_in p f.class body) xs heap (states.scene_of g.after) scene_after sound g.then_taken g.after g.fine
          l.condition Truth condition
          (λ maps v state. if same_truth wanted (truth_in v) then next maps state else (truly maps).blocked) g.after.lengths
          g.fine.agree g.never

module _ (p : Program) (flags : ℕ → Bool) (heap : Heap) (sound : HeapFits p heap) (framed : PredicatesFit p heap) (f : Frame)
    (r : account.Run) (old : OldIs p heap r.body.speech.old f.old r.past r.taken r.state.old)
    (bodied : BodyIs p heap f.class f.begun r.body) (this : HasType heap (Object f.class) (value.Reference f.this))
    (l : Loop) (rest : List Task) (x : Part) (xs : List Part)
    (turns : TakesTurns p flags heap f.class r.body r.past (body_scene f) l rest x xs)
    (more : AllTakeTurns p flags heap f.class r.body r.past (body_scene f) (opened false rest) xs) (bare : f.values ≡ [])
    (variables : VariablesFit heap x.loop.scope f.variables) (part : Amounts)
    (owns : Owns p flags (record { now = heap; old = at_lengths_of heap r.past }) (body_scene f) l.invariant part)
    (most : (q : Resource) → outer_of (x ∷ xs) q + part q ≤ whole) where
  -- what the head of a loop comes to
  pub record HeadGoes : Type 0 where
    pub run : account.Run
    pub fits : IsRunOf p flags heap (goes_on f (Evaluate l.condition ∷ Turn l ∷ rest)) run
    pub says : TasksSay (standing_in p f.class run.body run.outer) run.inner run.scope run.given run.stack
        (Evaluate l.condition ∷ Turn l ∷ rest)
    pub less : (q : Resource) → amounts_of run q ≤ outer_of (x ∷ xs) q + part q
    pub past : run.past ≡ r.past
    pub body : run.body ≡ r.body

  abbrev inside_of : Maps → Next Judged
  inside_of maps = turn_inside (truly maps) p r.body l

  abbrev past_of : Maps → Next Judged
  past_of maps = ran (truly maps) p r.body false rest []

  abbrev inner : List (PvType × ℕ) → State
  inner met = record (nothing_held x.state) { variables = set_to l.assigned f.variables x.state.variables; met = met }

  abbrev later : List (PvType × ℕ) → State
  later met = record x.state { variables = set_to l.assigned f.variables x.state.variables; met = met }

  -- each variable in scope at the head has its value of the frame
  has_it : (n : Name) (t : PvType) → type_in x.loop.scope n ≡ Some t
      → f.variables n.0 ≡ set_to l.assigned f.variables x.state.variables n.0
  has_it n t is = go (type_in l.assigned n) refl
    where
      go : (o : Option PvType) → type_in l.assigned n ≡ o
          → f.variables n.0 ≡ set_to l.assigned f.variables x.state.variables n.0
      go (Some u) e = sym (set_has l.assigned f.variables x.state.variables n (ap is_some e))
      go None e = sym (set_keeps l.assigned f.variables x.state.variables n.0
          (turns.variables n t is (subst (λ ys. type_in ys n ≡ None) (sym turns.assigned) e)))

  scene_fits : SceneFits (home_in p f.class r.body) r.body.speech x.loop.scope heap (body_scene f)
  scene_fits = record {
    this = this;
    variables = variables;
    result = λ t is. absurd (none-some t (sym bodied.quiet ∙ is));
  }

  -- the scene of a state in which a turn begins
  agrees_in : (t : State) → t.this ≡ x.state.this → t.variables ≡ set_to l.assigned f.variables x.state.variables
      → t.result ≡ x.state.result → ScenesAgree r.body.speech x.loop.scope (body_scene f) (states.scene_of t)
  agrees_in t a b c = record {
    this = sym (a ∙ turns.this);
    variables = λ n k is. has_it n k is ∙ ap (λ z. z n.0) (sym b);
    result = λ k is. sym (c ∙ turns.result);
  }

  abbrev LookedAt : State → Amounts → Bool → (Maps → Next Judged) → Type 0
  LookedAt t T wanted next = Looked p flags heap sound framed f r.body r.past old.fits l x.loop.scope turns.loop.0 turns.loop.1
      scene_fits part owns x.taken t T wanted next

  looked : (t : State) (T : Amounts) (wanted : Bool) (next : Maps → Next Judged) (state : List Task)
      → (a : LookedAt t T wanted next)
      → AgreeOn x.loop.scope t.variables (set_to l.assigned f.variables x.state.variables) → t.this ≡ x.state.this
      → t.result ≡ x.state.result → t.old ≡ x.state.old
      → StateIs p flags heap (goes_on f state) (record {
        body = r.body;
        past = r.past;
        state = a.after;
        taken = a.then_taken;
        trees = a.trees;
        outer = xs;
        inner = wanted;
        scope = x.loop.scope;
        given = x.given;
        stack = [];
      })
      × OldIs p heap r.body.speech.old f.old r.past a.then_taken a.after.old
  looked t T wanted next state a same this' result kept = (
    record {
      fits = a.fine;
      this = ap (λ z. z.this) a.scene ∙ this' ∙ turns.this;
      variables = λ n k is. ap (λ z. z.variables n.0) a.scene ∙ same n k is ∙ sym (has_it n k is);
      result = ap (λ z. z.result) a.scene ∙ result ∙ turns.result;
      trees = a.has_trees;
    },
    record {
      known = turns.known;
      settled = settled_on x.taken a.then_taken a.goes a.after.old turns.known
          (subst (λ c. AreSettled x.taken c turns.known) (sym (a.kept ∙ kept)) turns.settled);
      agrees = turns.agrees;
      fits = old.fits;
      is = old.is;
      needed = old.needed;
    },
  )

  decide : (met after : List (PvType × ℕ)) → LookedAt (inner met) (λ q. 0) true inside_of
      → LookedAt (later after) x.trees false past_of → HeadGoes
  decide met after a b = by (truth_in a.value) refl
    where
      by : (t : Bool) → truth_in a.value ≡ t → HeadGoes
      by true is =
          let s =
          looked (inner met) (λ q. 0) true inside_of (Evaluate l.condition ∷ Turn l ∷ rest) a (λ n k e. refl) refl refl refl
          in
          record {
            run = record {
              body = r.body;
              past = r.past;
              state = a.after;
              taken = a.then_taken;
              trees = a.trees;
              outer = x ∷ xs;
              inner = true;
              scope = x.loop.scope;
              given = x.given;
              stack = [];
            };
            fits = record {
              state = record {
                fits = s.0.fits;
                this = s.0.this;
                variables = s.0.variables;
                result = s.0.result;
                trees = s.0.trees;
              };
              old = s.1;
              body = bodied;
              typed = record { this = this; variables = variables; result = turns.given; values = tt };
              tasks = evaluates Truth turns.loop.0 (turns_in (λ n t k. k));
              outer = (turns, more);
              never = never_as a.then_taken (λ maps. inside_of maps a.after)
                  (λ maps. ran (truly maps) p r.body true (Evaluate l.condition ∷ Turn l ∷ rest) f.values a.after)
                  (λ picks. sym (a.law picks (λ v. ran (truly (all_maps a.then_taken picks)) p r.body true (Turn l ∷ rest)
                  (v ∷ f.values))
                  ∙ ap (λ t. ran_turn (truly (all_maps a.then_taken picks)) p r.body t true
                  (inside_of (all_maps a.then_taken picks))
                  (ran (truly (all_maps a.then_taken picks)) p r.body false rest f.values) a.after) is))
                  (subst (λ t. RestNeverFails a.then_taken (λ maps. if same_truth true t then inside_of maps a.after else
                  (truly maps).blocked)) is a.never);
            };
            says = evaluates Truth turns.loop.0 (turns_in (λ n t k. k));
            less = λ q. let k = a.sum q in omega (arith, k);
            past = refl;
            body = refl;
          }
      by false is =
          let same : b.value ≡ a.value = same_Some b.value a.value (sym b.reads ∙ a.reads) in
          let here : truth_in b.value ≡ false = ap truth_in same ∙ is in
          let s =
          looked (later after) x.trees false past_of (Evaluate l.condition ∷ Turn l ∷ rest) b (λ n k e. refl) refl refl refl
          in record {
            run = record {
              body = r.body;
              past = r.past;
              state = b.after;
              taken = b.then_taken;
              trees = b.trees;
              outer = xs;
              inner = false;
              scope = x.loop.scope;
              given = x.given;
              stack = [];
            };
            fits = record {
              state = s.0;
              old = s.1;
              body = bodied;
              typed = record { this = this; variables = variables; result = turns.given; values = tt };
              tasks = evaluates Truth turns.loop.0 (turns_past turns.tasks);
              outer = more;
              never = never_as b.then_taken (λ maps. past_of maps b.after)
                  (λ maps. ran (truly maps) p r.body false (Evaluate l.condition ∷ Turn l ∷ rest) f.values b.after)
                  (λ picks. sym (b.law picks (λ v. ran (truly (all_maps b.then_taken picks)) p r.body false (Turn l ∷ rest)
                  (v ∷ f.values))
                  ∙ ap (λ t. ran_turn (truly (all_maps b.then_taken picks)) p r.body t false
                  (inside_of (all_maps b.then_taken picks))
                  (ran (truly (all_maps b.then_taken picks)) p r.body false rest f.values) b.after) here
                  ∙ ap (λ vs. ran (truly (all_maps b.then_taken picks)) p r.body false rest vs b.after) bare))
                  (subst (λ t. RestNeverFails b.then_taken (λ maps. if same_truth false t then past_of maps b.after else
                  (truly maps).blocked)) here b.never);
            };
            says = evaluates Truth turns.loop.0 (turns_past turns.tasks);
            less = λ q. let k = b.sum q in omega (arith, k);
            past = refl;
            body = refl;
          }

  pub turns_go : HeadGoes
  turns_go =
      picking_loop heap sound.beyond x.taken x.loop.scope l.assigned f.variables turns.loop.3 variables
      (λ maps. inhale_own (truly maps) l.invariant (when (truly maps) true l.condition (inside_of maps))) (nothing_held x.state)
      HeadGoes
      (λ met b n. picking_loop heap sound.beyond x.taken x.loop.scope l.assigned f.variables turns.loop.3 variables
      (λ maps. inhale_own (truly maps) l.invariant (when (truly maps) false l.condition (past_of maps))) x.state HeadGoes
      (λ after c m. decide met after
      (looks p flags heap sound framed f r.body r.past old.fits l x.loop.scope turns.loop.0 turns.loop.1 scene_fits part owns
      x.taken (inner met) (agrees_in (inner met) refl refl refl) turns.known turns.settled turns.agrees
      (let y = turns.fits in record {
        steps = y.steps;
        agree = y.agree;
        holds = λ q h is. absurd (none-some h is);
        knows = y.knows;
        met = b y.met;
      }) (λ q. 0) tt (λ q. let k = most q in omega (arith, k)) true inside_of n)
      (looks p flags heap sound framed f r.body r.past old.fits l x.loop.scope turns.loop.0 turns.loop.1 scene_fits part owns
      x.taken (later after) (agrees_in (later after) refl refl refl) turns.known turns.settled turns.agrees
      (let y = turns.fits in record {
        steps = y.steps;
        agree = y.agree;
        holds = y.holds;
        knows = y.knows;
        met = c y.met;
      }) x.trees turns.trees (λ q. let k = most q in omega (arith, k)) false past_of m))
      (never_turn x.taken (λ maps n. turn_of (truly maps)
      (λ state. pick_variables (truly maps) l.assigned
      (inhale_own (truly maps) l.invariant (when (truly maps) true l.condition (inside_of maps))) (nothing_held state))
      (blocking (truly maps))
      (pick_variables (truly maps) l.assigned
      (inhale_own (truly maps) l.invariant (when (truly maps) false l.condition (past_of maps)))) x.state n) 2 refl turns.never))
      (never_turn x.taken (λ maps n. turn_of (truly maps)
      (λ state. pick_variables (truly maps) l.assigned
      (inhale_own (truly maps) l.invariant (when (truly maps) true l.condition (inside_of maps))) (nothing_held state))
      (blocking (truly maps))
      (pick_variables (truly maps) l.assigned
      (inhale_own (truly maps) l.invariant (when (truly maps) false l.condition (past_of maps)))) x.state n) 0 refl turns.never)
