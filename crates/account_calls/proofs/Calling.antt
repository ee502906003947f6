-- The label of a call: what the precondition asks for goes to the new frame, and the caller waits.
use Rattle.std.proofs.Common.{◌≡◌, ℕ, suc, ◌+◌, ◌≤◌, ◌<◌, Bool, true, false, if◌then◌else◌, Some, List, [], ◌∷◌, refl, ap, sym, subst, ◌∙◌, arith}
use Rattle.std.specs.Prelude.{nat_eq, drop}
use Rattle.pv_base.specs.declared.Name.{Name}
use Rattle.pv_base.specs.declared.Span.{Span}
use Rattle.pv_ast.specs.declared.PvType.{PvType}
use Rattle.pv_ast.specs.declared.PvType.TheVariants.{Object}
use Rattle.pv_values.specs.declared.value.Value.TheVariants as value
use Rattle.pv_fraction.specs.Amounts.{whole}
use Rattle.pv_picks.specs.declared.check.Check.TheVariants as check
use Rattle.pv_picks.specs.Plain.Core.{Method, Program}
use Rattle.pv_picks.specs.Plain.Members.{method_named}
use Rattle.pv_picks.specs.Formulas.Heaps.{Heap}
use Rattle.pv_picks.specs.Judge.States.{Resource, cells_of, no_cells}
use Rattle.pv_picks.specs.Judge.Settings.{null}
use Rattle.pv_picks.specs.Judge.Inhaling.{inhale}
use Rattle.pv_picks.specs.Judge.Exhaling.{exhale}
use Rattle.pv_picks.specs.Judge.Rows.{bind_for, arguments_of, result_of, call}
use Rattle.pv_picks.specs.Machine.Tasks.{Task, Stand, AtCall, AtClose, Resume}
use Rattle.pv_picks.specs.Machine.Frames.{Frame, topmost, object_under, pops, entered, body_scene, only_now, outer_scene}
use Rattle.pv_picks.specs.Formulas.Meeting.{found_met}
use Rattle.pv_picks.specs.Machine.Worlds.{World, Mode, has_no_frame}
use Rattle.pv_picks.specs.Machine.Steps.{Result, needs, is_met_on, called, act_call, act_tasks, act}
use Rattle.pv_picks.specs.Judge.UnitRuns.{OfMethod}
use Rattle.pv_picks.specs.Typing.Expressions.{silent, answer_of}
use Rattle.pv_picks.specs.Typing.Blocks.{types_of, over, MethodFits}
use Rattle.pv_picks.specs.Typing.Tasks.{at_call}
use Rattle.pv_picks.specs.Typing.Frames.{HasType, ValuesFit}
use Rattle.machine_laws.proofs.Local.{past-fits}
use Rattle.core_trees.specs.Formulas.{MethodSays, in_class}
use Rattle.account_formulas.specs.Sights.{ContentsAgree}
use Rattle.account_formulas.specs.Runs.{truly, RestNeverFails, contents_of}
use Rattle.account_formulas.specs.Good.{IsGood}
use Rattle.account_formulas.specs.Owning.{Owns}
use Rattle.account_formulas.specs.Growing.{HeapFits}
use Rattle.account_formulas.specs.Gaining.{PredicatesFit, AreTyped}
use Rattle.account_formulas.specs.Giving.{Gave, with_left}
use Rattle.account_formulas.proofs.Raising.{settled_of, contents_fine}
use Rattle.account_formulas.proofs.Meeting.{is_met}
use Rattle.account_formulas.proofs.Laws.{gives_up, left_fits}
use Rattle.account.specs.Verified.{PartNeverFails, IsVerifiedThroughout}
use Rattle.account.proofs.Goodness.{good_formula}
use Rattle.account.proofs.Framing.{outer_fits}
use Rattle.account.specs.Running.{ran}
use Rattle.account.specs.Scoped.{TasksSay, stands}
use Rattle.account.specs.Frames as account
use Rattle.account.specs.Frames.{standing_in, opened, AllTakeTurns, IsRunOf, WaitsFor, AllWait, AreRunsOf, Called, called_of, amounts_of, all_of}
use Rattle.account.specs.Owners.{nothing}
use Rattle.account.specs.Objects.{AtBottom}
use Rattle.account.specs.Messages.{TasksExchange, bottom_tasks}
use Rattle.account.specs.Accounts.{Account, Kept}
use Rattle.account.proofs.Stepping.{is_not_null, own_most, by_run, never_at, says_at}
use Rattle.account.proofs.Typing.{arguments_typed, object_typed}
use Rattle.account.proofs.Working.{SaysOn}
use Rattle.account.proofs.Later.{grown_same, keeps_same}
use Rattle.account.specs.Going.{first_frame, Begins}
use Rattle.account.proofs.Beginning.{before_place, begins}
use Rattle.account.proofs.Bottom.{bottom_exchanges, stays_at_bottom}
use Rattle.account.proofs.Moving.{first_same, closes_not, leaves_not, leaves_nothing}
use Rattle.account.proofs.Onward.{nothing_new, Moves, accounted}

-- the frame that waits for the call
abbrev pub waiting_frame : Frame → Name → Method → ℕ → List Task → Frame
waiting_frame f class m count rest =
    pops (suc count) f (Resume class m (object_under count f.values) (topmost count f.values) ∷ rest)

-- what a call comes to: the new frame and the one that waits have runs, with what the caller had
pub record CallGoes (p : Program) (flags : ℕ → Bool) (heap : Heap) (f : Frame) (r : account.Run) (class : Name) (m : Method)
    (count : ℕ) (rest : List Task) : Type 0 where
  pub met : is_met_on heap (object_under count f.values) m.parameters (topmost count f.values) m.contract.before ≡ true
  pub callee : account.Run
  pub caller : account.Run
  pub fits : IsRunOf p flags heap (entered heap class m (object_under count f.values) (topmost count f.values)) callee
  pub says : SaysOn p flags heap (entered heap class m (object_under count f.values) (topmost count f.values)) callee
      callee.inner callee.scope callee.given callee.stack
      (entered heap class m (object_under count f.values) (topmost count f.values)).tasks
  pub waits : WaitsFor p flags heap (called_of (entered heap class m (object_under count f.values) (topmost count f.values))
      callee)
      (waiting_frame f class m count rest) caller
  pub less : (q : Resource) → amounts_of callee q + amounts_of caller q ≤ amounts_of r q
  pub stays : called_of (waiting_frame f class m count rest) caller ≡ called_of f r

module _ (p : Program) (flags : ℕ → Bool) (heap : Heap) (sound : HeapFits p heap) (framed : PredicatesFit p heap) where
  pub calls_go : (f : Frame) (r : account.Run) → IsRunOf p flags heap f r → ((q : Resource) → amounts_of r q ≤ whole)
      → (class : Name) (m : Method) → MethodSays (in_class p class) m → MethodFits p class m → PartNeverFails p (OfMethod class m)
      → (count : ℕ) (span : Span) (rest : List Task) (stack : List PvType)
      → nat_eq (object_under count f.values) 0 ≡ false
      → HasType heap (Object class) (value.Reference (object_under count f.values))
      → AreTyped heap (types_of m.parameters) (topmost count f.values)
      → ValuesFit heap stack (drop (suc count) f.values)
      → TasksSay (standing_in p f.class r.body r.outer) false r.scope r.given (answer_of m ∷ stack) rest
      → AllTakeTurns p flags heap f.class r.body r.past (body_scene f) (opened false rest) r.outer
      → RestNeverFails r.taken (λ maps. exhale (truly maps)
      (record {
        bind = bind_for (object_under count f.values) (arguments_of m.parameters (topmost count f.values)) null
            no_cells;
        before = cells_of r.state;
        check = check.Requires;
        statement = Some span;
      }) m.contract.before
      (result_of (truly maps) m.result (λ v. inhale (truly maps) (bind_for (object_under count f.values)
      (arguments_of m.parameters (topmost count f.values)) v (cells_of r.state)) m.contract.after
      (ran (truly maps) p r.body false rest (v ∷ drop (suc count) f.values)))) r.state)
      → CallGoes p flags heap f r class m count rest
  calls_go f r fits most class m says body never count span rest stack full typed all have tasks outer rests = record {
    met = ap found_met (is_met (in_class p class) silent p flags (over [] m.parameters) (only_now heap)
        (outer_scene (object_under count f.values) m.parameters (topmost count f.values)) m.contract.before good gave.part
        gave.owns);
    callee = began.run;
    caller = caller;
    fits = began.fits;
    says = began.says;
    waits = subst (λ c. WaitsFor p flags heap c (waiting_frame f class m count rest) caller) (sym began.called) waits;
    less = λ q. let b = began.less q in let g = gave.sum q in omega (arith, b, g);
    stays = refl;
  }
    where
      good : IsGood (in_class p class) silent (over [] m.parameters) m.contract.before
      good = good_formula (in_class p class) silent (over [] m.parameters) m.contract.before says.3

      gave : Gave p flags heap r.taken (Owns p flags (only_now heap)
          (outer_scene (object_under count f.values) m.parameters (topmost count f.values)) m.contract.before) r.state
          r.state.held
          r.trees
          (λ maps. result_of (truly maps) m.result (λ v. inhale (truly maps) (bind_for (object_under count f.values)
          (arguments_of m.parameters (topmost count f.values)) v (cells_of r.state)) m.contract.after
          (ran (truly maps) p r.body false rest (v ∷ drop (suc count) f.values))))
      gave = gives_up p flags heap sound (before_place p flags heap sound framed class m)
          (outer_scene (object_under count f.values) m.parameters (topmost count f.values))
          (outer_fits (in_class p class) heap m.parameters (object_under count f.values) (topmost count f.values) typed all)
          m.contract.before (good_formula (in_class p class) silent (over [] m.parameters) m.contract.before says.3)
          r.taken r.state (λ picks q. refl) fits.state.fits r.trees fits.state.trees check.Requires (Some span) _ rests

      began : Begins p flags heap class m (object_under count f.values) (topmost count f.values) gave.part
      began = begins p flags heap sound framed class m says body good never (object_under count f.values) (topmost count f.values)
          full typed all gave.part (λ q. let g = gave.sum q in let s = most q in omega (arith, g, s)) gave.owns

      caller : account.Run
      caller = record r {
        state = with_left r.state gave.held gave.instances gave.lengths;
        trees = gave.trees;
        inner = false;
        stack = stack;
      }

      waits : WaitsFor p flags heap (called_of (first_frame heap class m (object_under count f.values) (topmost count f.values))
          began.run)
          (waiting_frame f class m count rest)
          (record r {
            state = with_left r.state gave.held gave.instances gave.lengths;
            trees = gave.trees;
            inner = false;
            stack = stack;
          })
      waits = record {
        arguments = topmost count f.values;
        rest = rest;
        is = refl;
        begun = refl;
        called = began.body;
        state = record {
          fits =
              left_fits flags heap r.taken r.state gave.held gave.instances gave.lengths fits.state.fits gave.leaves gave.agree;
          this = fits.state.this;
          variables = fits.state.variables;
          result = fits.state.result;
          trees = gave.has_trees;
        };
        old = fits.old;
        body = fits.body;
        typed = record {
          this = fits.typed.this;
          variables = fits.typed.variables;
          result = fits.typed.result;
          values = have;
        };
        tasks = tasks;
        outer = outer;
        waiting = cells_of r.state;
        known = contents_of r.taken (cells_of r.state);
        settled = settled_of flags heap r.taken r.state fits.state.fits;
        stood = subst (λ past. ContentsAgree past (contents_of r.taken (cells_of r.state))) (sym began.past)
            (contents_fine flags heap r.taken r.state fits.state.fits);
        never = gave.never;
      }

-- a call keeps the account
module _ (p : Program) (verified : IsVerifiedThroughout p) (w : World) (sound : HeapFits p w.heap)
    (framed : PredicatesFit p w.heap) (a : Account p w) (i : ℕ) (inside : i < w.count) (f : Frame) (below : List Frame)
    (stands_at : (w.threads i).frames ≡ f ∷ below) (class method : Name) (count : ℕ) (span : Span) (rest : List Task)
    (is : f.tasks ≡ Stand (AtCall class method count span) ∷ rest) where
  call_moves : (r : account.Run) (rs : List account.Run) → a.owners.runs i ≡ r ∷ rs
      → AreRunsOf p w.committed w.heap (f ∷ below) (r ∷ rs) → (m : Method) → CallGoes p w.committed w.heap f r class m count rest
      → Moves p w a i w.heap (entered w.heap class m (object_under count f.values) (topmost count f.values)
      ∷ waiting_frame f class m count rest ∷ below)
  call_moves r rs has fits m g = record {
    runs = g.callee ∷ g.caller ∷ rs;
    fits = (g.fits, (g.waits, subst (λ c. AllWait p w.committed w.heap c below rs) (sym g.stays) fits.1));
    goes = record {
      bottom = λ P stays b. stays_at_bottom f (waiting_frame f class m count rest) r g.caller
          (record { class = refl; method = refl; this = refl; begun = refl; old = refl }) (ap (λ c. c.body) g.stays) P stays below
          rs
          (subst (λ fs. AtBottom P fs (r ∷ rs)) stands_at (subst (λ ys. AtBottom P (w.threads i).frames ys) has b));
      messages = λ S R b. bottom_exchanges S R f (waiting_frame f class m count rest)
          (λ h. (tt, (subst (λ ts. TasksExchange S R ts) is h).1)) below
          (subst (λ fs. TasksExchange S R (bottom_tasks fs)) stands_at b);
      live = ap has_no_frame stands_at;
      stood = λ h hs b ts e at. absurd (apart_call b ts h hs e at);
      closes = λ h hs b ts e at. closes_not (standing_in p called.class g.callee.body g.callee.outer) g.callee.inner
          g.callee.scope g.callee.given g.callee.stack called g.says b ts
          (ap (λ z. z.tasks) (first_same called h (waiting_frame f class m count rest ∷ below) hs e) ∙ at);
    };
    leaves = leaves_nothing p w.committed w.heap (w.threads i).role w.blocks a.owners called
        (waiting_frame f class m count rest ∷ below) (g.callee ∷ g.caller ∷ rs) (a.owners.left i)
        (leaves_not (standing_in p called.class g.callee.body g.callee.outer) g.callee.inner g.callee.scope g.callee.given
        g.callee.stack called g.says);
    fresh = nothing;
    less = λ q. let l = g.less q in let same = ap (λ ys. all_of ys q) has in omega (arith, l, same);
    new = nothing_new p w a w.heap refl;
    grown = grown_same w.heap;
    null = λ c at. at;
    keeps = λ B less. keeps_same B w.heap;
  }
    where
      called : Frame
      called = entered w.heap class m (object_under count f.values) (topmost count f.values)

      apart_call : (b : ℕ) (ts : List Task) (h : Frame) (hs : List Frame) → (w.threads i).frames ≡ h ∷ hs
          → h.tasks ≡ Stand (AtClose b) ∷ ts → ⊥
      apart_call b ts h hs e at =
          let same : f.tasks ≡ Stand (AtClose b) ∷ ts = ap (λ z. z.tasks) (first_same f h below hs (sym stands_at ∙ e)) ∙ at in
          absurd (cc (is, same))

  -- by the run of the innermost frame, where the object isn't null
  call_kept : (mode : Mode) (r : account.Run) (rs : List account.Run) → a.owners.runs i ≡ r ∷ rs
      → AreRunsOf p w.committed w.heap (f ∷ below) (r ∷ rs) → (m : Method) → method_named p class method ≡ Some m
      → nat_eq (object_under count f.values) 0 ≡ false → CallGoes p w.committed w.heap f r class m count rest
      → Kept p (act_call p w i f below (Some m) class (object_under count f.values) count span rest)
  call_kept mode r rs has fits m named full g =
      subst (λ b. Kept p (needs b check.Null span (needs (is_met_on w.heap (object_under count f.values) m.parameters
      (topmost count f.values) m.contract.before) check.Requires span
      (Result.Went (called p w i f below m class (object_under count f.values) count rest)))))
      (sym (is_not_null (object_under count f.values) full))
      (subst (λ b. Kept p (needs b check.Requires span
      (Result.Went (called p w i f below m class (object_under count f.values) count rest)))) (sym g.met)
      (accounted p w a i inside w.heap (entered w.heap class m (object_under count f.values) (topmost count f.values)
      ∷ waiting_frame f class m count rest ∷ below) (call_moves r rs has fits m g)))

  -- what stands at the call says which method it is, and the run doesn't fail there
  call_by : (mode : Mode) (r : account.Run) (rs : List account.Run) → a.owners.runs i ≡ r ∷ rs
      → AreRunsOf p w.committed w.heap (f ∷ below) (r ∷ rs)
      → Kept p (act_call p w i f below (method_named p class method) class (object_under count f.values) count span rest)
  call_by mode r rs has fits = go r.stack r.inner (says_at p w f r fits.0 (AtCall class method count span) rest is)
      fits.0.typed.values (never_at p w f r fits.0 (AtCall class method count span) rest is)
    where
      most : (q : Resource) → amounts_of r q ≤ whole
      most q =
          let one = own_most p w a i inside (r ∷ rs) has q in omega (arith, one)

      turns : AllTakeTurns p w.committed w.heap f.class r.body r.past (body_scene f) (opened false rest) r.outer
      turns = subst (λ ts. AllTakeTurns p w.committed w.heap f.class r.body r.past (body_scene f) (opened r.inner ts) r.outer) is
          fits.0.outer

      go : (before : List PvType) (inner : Bool)
          → TasksSay (standing_in p f.class r.body r.outer) inner r.scope r.given before
          (Stand (AtCall class method count span) ∷ rest)
          → ValuesFit w.heap before f.values
          → RestNeverFails r.taken (λ maps. ran (truly maps) p r.body inner (Stand (AtCall class method count span) ∷ rest)
          f.values r.state)
          → Kept p (act_call p w i f below (method_named p class method) class (object_under count f.values) count span rest)
      go before inner (stands _ (at_call {stack = stack} m named onto many) speaks says) values never =
          subst (λ o. Kept p (act_call p w i f below o class (object_under count f.values) count span rest)) (sym named)
          (by_null (nat_eq (object_under count f.values) 0) refl
          (subst (λ o. RestNeverFails r.taken (λ maps. call (truly maps) o (object_under count f.values)
          (topmost count f.values) span (λ v. ran (truly maps) p r.body false rest (v ∷ drop (suc count) f.values)) r.state))
          named never))
        where
          by_null : (b : Bool) → nat_eq (object_under count f.values) 0 ≡ b
              → RestNeverFails r.taken (λ maps. if b then (truly maps).failed check.Null span else exhale (truly maps)
              (record {
                bind = bind_for (object_under count f.values) (arguments_of m.parameters (topmost count f.values)) null
                    no_cells;
                before = cells_of r.state;
                check = check.Requires;
                statement = Some span;
              }) m.contract.before
              (result_of (truly maps) m.result (λ v. inhale (truly maps) (bind_for (object_under count f.values)
              (arguments_of m.parameters (topmost count f.values)) v (cells_of r.state)) m.contract.after
              (ran (truly maps) p r.body false rest (v ∷ drop (suc count) f.values)))) r.state)
              → Kept p (act_call p w i f below (Some m) class (object_under count f.values) count span rest)
          by_null true e n = absurd (n.never [] check.Null span refl)
          by_null false e n = call_kept mode r rs has fits m named e
              (calls_go p w.committed w.heap sound framed f r fits.0 most class m
              (verified.typed.methods class method m named).0 (verified.typed.bodies.methods class method m named)
              (verified.methods class method m named) count span rest stack e
              (object_typed w.heap stack before (types_of m.parameters) class count f.values onto many values)
              (arguments_typed w.heap stack before (types_of m.parameters) class count f.values onto many values)
              (past-fits w.heap stack before (Object class) (types_of m.parameters) count f.values onto many values)
              says turns n)

  pub call_keeps : (mode : Mode) → Kept p (act p w mode i)
  call_keeps mode = by_run p w a i inside f below stands_at mode (λ r rs has fits.
      subst (λ ts. Kept p (act_tasks p w i f below mode ts)) (sym is) (call_by mode r rs has fits))
