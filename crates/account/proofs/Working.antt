-- A frame's run goes on over its local work.
use Rattle.std.proofs.Common.{◌≡◌, ℕ, Bool, true, false, if◌then◌else◌, List, [], ◌∷◌, map, refl, sym, subst, ◌∙◌, arith}
use Rattle.std.specs.Prelude.{drop}
use Rattle.std.proofs.lemmas.Option.{same_Some, none-some}
use Rattle.pv_base.specs.declared.Name.{Name}
use Rattle.pv_base.specs.declared.Span.{Span}
use Rattle.pv_ast.specs.declared.PvType.{PvType}
use Rattle.pv_ast.specs.declared.PvType.TheVariants.{Int, Truth, Object}
use Rattle.pv_values.specs.declared.value.Value.{Value}
use Rattle.pv_values.specs.declared.value.Value.TheVariants as value
use Rattle.pv_picks.specs.declared.check.Check.TheVariants as check
use Rattle.pv_picks.specs.Plain.Core.{Parameter, Barrier, Expression, Constant, This, Result, Variable, Field, Element, Length, Not, Compute, Compare, Equal, And, Or, Implies, Old, Program}
use Rattle.pv_picks.specs.Formulas.Values.{truth_in, array_of, with_variable}
use Rattle.pv_picks.specs.Formulas.Evaluation.{evaluate}
use Rattle.pv_picks.specs.Formulas.Heaps.{Heap}
use Rattle.pv_picks.specs.Judge.States as states
use Rattle.pv_picks.specs.Judge.States.{Resource, State, with_local, with_result}
use Rattle.pv_picks.specs.Machine.Tasks.{AtRead, AtWrite, AtLength, AtNewObject, AtNewArray, AtAssert, AtFold, AtHead, AtCall, AtAction, AtOpen, AtClose, AtArrive, AtLeave, AtSend, AtReceive, Loop, Task, Evaluate, EvaluateAll, Combine, Choose, Branch, Turn, Put, Drop, Give, Unfolded, Run, Stand, Resume}
use Rattle.pv_picks.specs.Machine.Frames.{Frame, top, worked, body_scene}
use Rattle.pv_picks.specs.Judge.Rows.{access_reader, compute}
use Rattle.pv_picks.specs.Judge.Runs.{Judged, Maps}
use Rattle.pv_picks.specs.Typing.Tasks.{reads_field, reads_element, takes_length, IsWithin}
use Rattle.pv_picks.specs.Typing.Frames as typed
use Rattle.pv_picks.specs.Typing.Frames.{HasType, VariablesFit, ResultFits}
use Rattle.machine_laws.proofs.Local.{constant-fits, top-fits, rest-fits, put-fits, new-fits}
use Rattle.account_formulas.specs.Runs.{Taken, truly, RestNeverFails, all_maps}
use Rattle.account_formulas.specs.Agreeing.{AgreeOn}
use Rattle.account_formulas.proofs.Lengths.{never_as}
use Rattle.account.specs.Running.{ran_turn, turn_inside, ran, nowhere}
use Rattle.account.specs.Scoped.{Standing, MayAssign, TasksSay, FrameSays, evaluates, negates, computes, compares, matches, chooses, puts, puts_new, gives_result, stands}
use Rattle.account.specs.Frames as account
use Rattle.account.specs.Frames.{Part, amounts_of, standing_in, opened, AllTakeTurns, IsRunOf}
use Rattle.account.specs.Going.{Goes}
use Rattle.account.proofs.Settling.{evaluate_alike, compute_alike}
use Rattle.account.proofs.Saying.{retyped}
use Rattle.account.proofs.Typing.{put_in, put_on, parts_put, parts_none, turned_in, turned_past}

-- tasks that neither close a block nor leave a barrier are those of a frame
pub frame_says : (c : Standing) (inner : Bool) (xs : List Parameter) (given : Bool) (stack : List PvType) (tasks : List Task)
    → TasksSay c inner xs given stack tasks → FrameSays c inner xs given stack tasks
frame_says c inner xs given stack (Stand (AtClose block) ∷ rest) (stands s fits speaks says) = absurd speaks
frame_says c inner xs given stack (Stand (AtLeave barrier span) ∷ rest) (stands s fits speaks says) = absurd speaks
frame_says c inner xs given stack [] says = says
frame_says c inner xs given stack (Evaluate e ∷ rest) says = says
frame_says c inner xs given stack (EvaluateAll es ∷ rest) says = says
frame_says c inner xs given stack (Combine combination ∷ rest) says = says
frame_says c inner xs given stack (Choose a b ∷ rest) says = says
frame_says c inner xs given stack (Branch a b ∷ rest) says = says
frame_says c inner xs given stack (Turn l ∷ rest) says = says
frame_says c inner xs given stack (Put name ∷ rest) says = says
frame_says c inner xs given stack (Drop ∷ rest) says = says
frame_says c inner xs given stack (Give ∷ rest) says = says
frame_says c inner xs given stack (Unfolded class predicate count span ∷ rest) says = says
frame_says c inner xs given stack (Run b ∷ rest) says = says
frame_says c inner xs given stack (Resume class m object arguments ∷ rest) says = says
frame_says c inner xs given stack (Stand (AtRead spot span) ∷ rest) says = says
frame_says c inner xs given stack (Stand (AtWrite spot span) ∷ rest) says = says
frame_says c inner xs given stack (Stand (AtLength type span) ∷ rest) says = says
frame_says c inner xs given stack (Stand (AtNewObject class) ∷ rest) says = says
frame_says c inner xs given stack (Stand (AtNewArray type span) ∷ rest) says = says
frame_says c inner xs given stack (Stand (AtAssert formula) ∷ rest) says = says
frame_says c inner xs given stack (Stand (AtFold class predicate count span) ∷ rest) says = says
frame_says c inner xs given stack (Stand (AtHead named l) ∷ rest) says = says
frame_says c inner xs given stack (Stand (AtCall class method count span) ∷ rest) says = says
frame_says c inner xs given stack (Stand (AtAction action class span) ∷ rest) says = says
frame_says c inner xs given stack (Stand (AtOpen team body) ∷ rest) says = says
frame_says c inner xs given stack (Stand (AtArrive barrier span) ∷ rest) says = says
frame_says c inner xs given stack (Stand (AtSend message span) ∷ rest) says = says
frame_says c inner xs given stack (Stand (AtReceive message span) ∷ rest) says = says

-- nor do they stand there
pub not_closing : (c : Standing) (inner : Bool) (xs : List Parameter) (given : Bool) (stack : List PvType) (block : ℕ)
    (rest : List Task) → TasksSay c inner xs given stack (Stand (AtClose block) ∷ rest) → ⊥
not_closing c inner xs given stack block rest (stands s fits speaks says) = speaks

pub not_leaving : (c : Standing) (inner : Bool) (xs : List Parameter) (given : Bool) (stack : List PvType) (barrier : Barrier)
    (span : Span) (rest : List Task) → TasksSay c inner xs given stack (Stand (AtLeave barrier span) ∷ rest) → ⊥
not_leaving c inner xs given stack barrier span rest (stands s fits speaks says) = speaks

-- a run that is alike doesn't fail either
pub alike_never : (taken : Taken) {one other : Maps → Judged} → RestNeverFails taken one → ((maps : Maps) → one maps ≡ other maps)
    → RestNeverFails taken other
alike_never taken {one} {other} never same = never_as taken one other (λ picks. same (all_maps taken picks)) never

module _ (p : Program) (flags : ℕ → Bool) (present : Heap) where
  -- what waits around the open loops of a frame, where it has these tasks
  abbrev pub TurnsAround : Frame → account.Run → Bool → List Task → Type 0
  TurnsAround f r inner tasks =
      AllTakeTurns p flags present f.class r.body r.past (body_scene f) (opened inner tasks) r.outer

  -- the run of the tasks, from its state
  abbrev pub NeverOn : account.Run → Bool → List Task → List Value → Type 0
  NeverOn r inner tasks values = RestNeverFails r.taken (λ maps. ran (truly maps) p r.body inner tasks values r.state)

  abbrev pub SaysOn : Frame → account.Run → Bool → List Parameter → Bool → List PvType → List Task → Type 0
  SaysOn f r inner scope given stack tasks =
      TasksSay (standing_in p f.class r.body r.outer) inner scope given stack tasks

  pub all_within : (xs : List Parameter) → IsWithin xs xs
  all_within xs n t is = is

  -- with other tasks and values, in less of the scope
  pub moves : (f : Frame) (r : account.Run) (fits : IsRunOf p flags present f r) (inner : Bool) (scope : List Parameter)
      (given : Bool) (stack : List PvType) (tasks : List Task) (values : List Value)
      → IsWithin scope r.scope → ResultFits present r.body.answer given f.result → typed.ValuesFit present stack values
      → SaysOn f r inner scope given stack tasks → TurnsAround f r inner tasks → NeverOn r inner tasks values
      → Goes p flags present (record f { values = values; tasks = tasks }) r
  moves f r fits inner scope given stack tasks values within result have says turns never = record {
    run = record r { inner = inner; scope = scope; given = given; stack = stack };
    fits = record {
      state = record {
        fits = fits.state.fits;
        this = fits.state.this;
        variables = λ n t is. fits.state.variables n t (within n t is);
        result = fits.state.result;
        trees = fits.state.trees;
      };
      old = fits.old;
      body = fits.body;
      typed = record {
        this = fits.typed.this;
        variables = λ n t is. fits.typed.variables n t (within n t is);
        result = result;
        values = have;
      };
      tasks = frame_says (standing_in p f.class r.body r.outer) inner scope given stack tasks says;
      outer = turns;
      never = never;
    };
    says = says;
    less = λ q. omega arith;
    past = refl;
    body = refl;
    outer = refl;
  }

  -- in the same scope
  pub stays_in : (f : Frame) (r : account.Run) (fits : IsRunOf p flags present f r) (inner : Bool) (stack : List PvType)
      (tasks : List Task) (values : List Value)
      → typed.ValuesFit present stack values → SaysOn f r inner r.scope r.given stack tasks → TurnsAround f r inner tasks
      → NeverOn r inner tasks values → Goes p flags present (record f { values = values; tasks = tasks }) r
  stays_in f r fits inner stack tasks values have says turns never =
      moves f r fits inner r.scope r.given stack tasks values (all_within r.scope) fits.typed.result have says turns never

  -- one expression
  pub evaluated_goes : (f : Frame) (r : account.Run) (fits : IsRunOf p flags present f r) (e : Expression) (rest : List Task)
      → SaysOn f r r.inner r.scope r.given r.stack (Evaluate e ∷ rest) → TurnsAround f r r.inner rest
      → NeverOn r r.inner (Evaluate e ∷ rest) f.values → Goes p flags present (worked f (Evaluate e ∷ rest)) r
  evaluated_goes f r fits (Constant v) rest (evaluates type is says) turns never =
      stays_in f r fits r.inner (type ∷ r.stack) rest (v ∷ f.values) (constant-fits present v type is, fits.typed.values) says
      turns never
  evaluated_goes f r fits This rest (evaluates type is says) turns never =
      stays_in f r fits r.inner (Object f.class ∷ r.stack) rest (value.Reference f.this ∷ f.values)
      (fits.typed.this, fits.typed.values) (retyped type (Object f.class) is says) turns
      (subst (λ n. NeverOn r r.inner rest (value.Reference n ∷ f.values)) fits.state.this never)
  evaluated_goes f r fits Result rest (evaluates type is says) turns never = absurd (none-some type is)
  evaluated_goes f r fits (Variable name) rest (evaluates type is says) turns never =
      stays_in f r fits r.inner (type ∷ r.stack) rest (f.variables name.0 ∷ f.values)
      (fits.typed.variables name type is, fits.typed.values) says turns
      (subst (λ v. NeverOn r r.inner rest (v ∷ f.values)) (fits.state.variables name type is) never)
  evaluated_goes f r fits (Field e class name span) rest (evaluates type is says) turns never =
      stays_in f r fits r.inner r.stack _ f.values fits.typed.values
      (evaluates (Object class) is.0 (stands (type ∷ r.stack) (reads_field is.1) tt says)) turns never
  evaluated_goes f r fits (Element element array index span) rest (evaluates type is says) turns never =
      stays_in f r fits r.inner r.stack _ f.values fits.typed.values
      (evaluates (array_of element) is.0 (evaluates Int is.1 (stands (element ∷ r.stack) (reads_element refl is.2) tt
      (retyped type element is.3 says)))) turns
      (alike_never r.taken never (λ maps. sym (evaluate_alike maps (states.scene_of r.state) array _ _
      (λ a. compute_alike maps (states.scene_of r.state) index _) r.state refl)))
  evaluated_goes f r fits (Length element array span) rest (evaluates type is says) turns never =
      stays_in f r fits r.inner r.stack _ f.values fits.typed.values
      (evaluates (array_of element) is.0 (stands (Int ∷ r.stack) (takes_length refl) tt (retyped type Int is.2 says))) turns never
  evaluated_goes f r fits (Not e) rest (evaluates type is says) turns never =
      stays_in f r fits r.inner r.stack _ f.values fits.typed.values
      (evaluates Truth is.0 (negates (retyped type Truth is.1 says))) turns never
  evaluated_goes f r fits (Compute manner op a b span) rest (evaluates type is says) turns never =
      stays_in f r fits r.inner r.stack _ f.values fits.typed.values
      (evaluates Int is.0 (evaluates Int is.1 (computes (retyped type Int is.2 says)))) turns
      (alike_never r.taken never (λ maps. sym (evaluate_alike maps (states.scene_of r.state) a _ _
      (λ x. compute_alike maps (states.scene_of r.state) b _) r.state refl)))
  evaluated_goes f r fits (Compare order a b) rest (evaluates type is says) turns never =
      stays_in f r fits r.inner r.stack _ f.values fits.typed.values
      (evaluates Int is.0 (evaluates Int is.1 (compares (retyped type Truth is.2 says)))) turns
      (alike_never r.taken never (λ maps. sym (evaluate_alike maps (states.scene_of r.state) a _ _
      (λ x. compute_alike maps (states.scene_of r.state) b _) r.state refl)))
  evaluated_goes f r fits (Equal same a b) rest (evaluates type is says) turns never =
      stays_in f r fits r.inner r.stack _ f.values fits.typed.values
      (evaluates is.0 is.1 (evaluates is.0 is.2 (matches (retyped type Truth is.3 says)))) turns
      (alike_never r.taken never (λ maps. sym (evaluate_alike maps (states.scene_of r.state) a _ _
      (λ x. compute_alike maps (states.scene_of r.state) b _) r.state refl)))
  evaluated_goes f r fits (And a b) rest (evaluates type is says) turns never =
      stays_in f r fits r.inner r.stack _ f.values fits.typed.values
      (evaluates Truth is.0 (chooses Truth is.1 refl (retyped type Truth is.2 says))) turns
      (alike_never r.taken never (λ maps. sym (evaluate_alike maps (states.scene_of r.state) a _ _
      (λ x s e. go maps x (truth_in x) s e) r.state refl)))
    where
      go : (maps : Maps) (x : Value) (t : Bool) (s : State) → states.scene_of s ≡ states.scene_of r.state
          → compute (truly maps) (if t then b else Constant (value.Truth false))
          (λ v. ran (truly maps) p r.body r.inner rest (v ∷ f.values)) s
          ≡ (if t then evaluate (access_reader (truly maps)) (access_reader (truly maps)) (states.scene_of r.state) b
          (λ v. ran (truly maps) p r.body r.inner rest (v ∷ f.values))
          else ran (truly maps) p r.body r.inner rest (value.Truth false ∷ f.values)) s
      go maps x true s e = compute_alike maps (states.scene_of r.state) b _ s e
      go maps x false s e = refl
  evaluated_goes f r fits (Or a b) rest (evaluates type is says) turns never =
      stays_in f r fits r.inner r.stack _ f.values fits.typed.values
      (evaluates Truth is.0 (chooses Truth refl is.1 (retyped type Truth is.2 says))) turns
      (alike_never r.taken never (λ maps. sym (evaluate_alike maps (states.scene_of r.state) a _ _
      (λ x s e. go maps x (truth_in x) s e) r.state refl)))
    where
      go : (maps : Maps) (x : Value) (t : Bool) (s : State) → states.scene_of s ≡ states.scene_of r.state
          → compute (truly maps) (if t then Constant (value.Truth true) else b)
          (λ v. ran (truly maps) p r.body r.inner rest (v ∷ f.values)) s
          ≡ (if t then ran (truly maps) p r.body r.inner rest (value.Truth true ∷ f.values)
          else evaluate (access_reader (truly maps)) (access_reader (truly maps)) (states.scene_of r.state) b
          (λ v. ran (truly maps) p r.body r.inner rest (v ∷ f.values))) s
      go maps x true s e = refl
      go maps x false s e = compute_alike maps (states.scene_of r.state) b _ s e
  evaluated_goes f r fits (Implies a b) rest (evaluates type is says) turns never =
      stays_in f r fits r.inner r.stack _ f.values fits.typed.values
      (evaluates Truth is.0 (chooses Truth is.1 refl (retyped type Truth is.2 says))) turns
      (alike_never r.taken never (λ maps. sym (evaluate_alike maps (states.scene_of r.state) a _ _
      (λ x s e. go maps x (truth_in x) s e) r.state refl)))
    where
      go : (maps : Maps) (x : Value) (t : Bool) (s : State) → states.scene_of s ≡ states.scene_of r.state
          → compute (truly maps) (if t then b else Constant (value.Truth true))
          (λ v. ran (truly maps) p r.body r.inner rest (v ∷ f.values)) s
          ≡ (if t then evaluate (access_reader (truly maps)) (access_reader (truly maps)) (states.scene_of r.state) b
          (λ v. ran (truly maps) p r.body r.inner rest (v ∷ f.values))
          else ran (truly maps) p r.body r.inner rest (value.Truth true ∷ f.values)) s
      go maps x true s e = compute_alike maps (states.scene_of r.state) b _ s e
      go maps x false s e = refl
  evaluated_goes f r fits (Old e) rest (evaluates type is says) turns never = let k = is.0 in absurd (cc k)

  -- a variable gets the value on top
  pub put_goes : (f : Frame) (r : account.Run) (fits : IsRunOf p flags present f r) (name : Name) (rest : List Task)
      → SaysOn f r r.inner r.scope r.given r.stack (Put name ∷ rest) → TurnsAround f r false rest
      → RestNeverFails r.taken
      (λ maps. ran (truly maps) p r.body false rest (drop 1 f.values) (with_local r.state name (top f.values)))
      → Goes p flags present (worked f (Put name ∷ rest)) r
  put_goes f r fits name rest says turns never = go r.inner r.stack says fits.typed.values
    where
      made : (scope : List Parameter) (stack : List PvType)
          → AgreeOn scope (with_variable r.state.variables name (top f.values)) (with_variable f.variables name (top f.values))
          → VariablesFit present scope (with_variable f.variables name (top f.values))
          → typed.ValuesFit present stack (drop 1 f.values) → MayAssign (map (λ x. x.loop) r.outer) name
          → SaysOn f r false scope r.given stack rest → Goes p flags present (worked f (Put name ∷ rest)) r
      made scope stack agree have values may says' = record {
        run = record r {
          state = with_local r.state name (top f.values);
          inner = false;
          scope = scope;
          stack = stack;
        };
        fits = record {
          state = record {
            fits = let x = fits.state.fits in
                record { steps = x.steps; agree = x.agree; holds = x.holds; knows = x.knows; met = x.met };
            this = fits.state.this;
            variables = agree;
            result = fits.state.result;
            trees = fits.state.trees;
          };
          old = fits.old;
          body = fits.body;
          typed = record { this = fits.typed.this; variables = have; result = fits.typed.result; values = values };
          tasks = frame_says (standing_in p f.class r.body r.outer) false scope r.given stack rest says';
          outer = parts_put p flags present f.class r.body r.past (body_scene f) (opened false rest) r.outer name (top f.values)
              may turns;
          never = never;
        };
        says = says';
        less = λ q. omega arith;
        past = refl;
        body = refl;
        outer = refl;
      }

      go : (b : Bool) (stack : List PvType) → SaysOn f r b r.scope r.given stack (Put name ∷ rest)
          → typed.ValuesFit present stack f.values → Goes p flags present (worked f (Put name ∷ rest)) r
      go b stack (puts {stack = s} {type = type} is may says') values =
          made r.scope s (put_in r.scope r.state.variables f.variables name (top f.values) fits.state.variables)
          (put-fits present r.scope f.variables name type (top f.values) is (top-fits present type s f.values values)
          fits.typed.variables)
          (rest-fits present type s f.values values) may says'
      go b stack (puts_new {stack = s} {type = type} new may says') values =
          made ((name, type) ∷ r.scope) s
          (put_on r.scope r.state.variables f.variables name (top f.values) fits.state.variables type)
          (new-fits present r.scope f.variables name type (top f.values) (top-fits present type s f.values values)
          fits.typed.variables)
          (rest-fits present type s f.values values) may says'

  -- the value on top is the result
  pub give_goes : (f : Frame) (r : account.Run) (fits : IsRunOf p flags present f r) (rest : List Task)
      → SaysOn f r r.inner r.scope r.given r.stack (Give ∷ rest) → TurnsAround f r false rest
      → RestNeverFails r.taken
      (λ maps. ran (truly maps) p r.body false rest (drop 1 f.values) (with_result r.state (top f.values)))
      → Goes p flags present (worked f (Give ∷ rest)) r
  give_goes f r fits rest says turns never = go r.inner r.stack says fits.typed.values
    where
      go : (b : Bool) (stack : List PvType) → SaysOn f r b r.scope r.given stack (Give ∷ rest)
          → typed.ValuesFit present stack f.values → Goes p flags present (worked f (Give ∷ rest)) r
      go b stack (gives_result {stack = s} {type = type} answer declared none says') values = record {
        run = record r { state = with_result r.state (top f.values); inner = false; given = true; stack = s };
        fits = record {
          state = record {
            fits = let x = fits.state.fits in
                record { steps = x.steps; agree = x.agree; holds = x.holds; knows = x.knows; met = x.met };
            this = fits.state.this;
            variables = fits.state.variables;
            result = refl;
            trees = fits.state.trees;
          };
          old = fits.old;
          body = fits.body;
          typed = record {
            this = fits.typed.this;
            variables = fits.typed.variables;
            result = λ e t is. subst (λ z. HasType present z (top f.values)) (same_Some type t (sym answer ∙ is))
                (top-fits present type s f.values values);
            values = rest-fits present type s f.values values;
          };
          tasks = frame_says (standing_in p f.class r.body r.outer) false r.scope true s rest says';
          outer = parts_none p flags present f.class r.body r.past (body_scene f)
              (record { this = f.this; variables = f.variables; result = top f.values }) (opened false rest) r.outer none turns;
          never = never;
        };
        says = says';
        less = λ q. omega arith;
        past = refl;
        body = refl;
        outer = refl;
      }

  -- the truth value on top says whether a loop goes on, as was decided at its head
  pub turn_goes : (f : Frame) (r : account.Run) (fits : IsRunOf p flags present f r) (l : Loop) (rest : List Task)
      → SaysOn f r r.inner r.scope r.given r.stack (Turn l ∷ rest) → TurnsAround f r r.inner (Turn l ∷ rest)
      → NeverOn r r.inner (Turn l ∷ rest) f.values → Goes p flags present (worked f (Turn l ∷ rest)) r
  turn_goes f r fits l rest says turns never = go (truth_in (top f.values)) r.inner says turns never
    where
      go : (t b : Bool) → SaysOn f r b r.scope r.given r.stack (Turn l ∷ rest) → TurnsAround f r b (Turn l ∷ rest)
          → RestNeverFails r.taken (λ maps. ran_turn (truly maps) p r.body t b (turn_inside (truly maps) p r.body l)
          (ran (truly maps) p r.body false rest (drop 1 f.values)) r.state)
          → Goes p flags present (record f {
            values = drop 1 f.values;
            tasks = if t then Run l.body
                ∷ Stand (AtHead check.LoopKeep l)
                ∷ rest else rest;
          }) r
      go true true says' turns' n =
          let k = turned_in p flags present f.class r.body r.past l rest (body_scene f) r.outer r.scope r.given r.stack says'
          turns' in
          moves f r fits false k.head r.given [] ((Run l.body ∷ Stand (AtHead check.LoopKeep l) ∷ rest))
          (drop 1 f.values) k.within fits.typed.result tt k.tasks
          turns' n
      go true false says' turns' n = absurd (n.never [] check.LoopKeep nowhere refl)
      go false true says' turns' n = absurd (n.never [] check.LoopKeep nowhere refl)
      go false false says' turns' n =
          stays_in f r fits false [] rest (drop 1 f.values) tt
          (turned_past p flags present f.class r.body r.past l rest r.outer r.scope r.given r.stack says') turns' n
