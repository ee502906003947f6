-- The labels at the head of a loop, where it begins and where it goes back: the invariant is met, and the run takes its turn.
use Rattle.std.proofs.Common.{◌≡◌, ℕ, ◌≤◌, ◌<◌, Bool, false, Some, List, [], ◌∷◌, map, refl, ap, sym, subst, arith}
use Rattle.std.specs.Prelude.{length}
use Rattle.std.specs.List.{AllByRecursion}
use Rattle.pv_ast.specs.declared.PvType.{PvType}
use Rattle.pv_values.specs.declared.value.Value.{Value}
use Rattle.pv_fraction.specs.Amounts.{whole}
use Rattle.pv_picks.specs.declared.check.Check.{Check}
use Rattle.pv_picks.specs.declared.check.Check.TheVariants as check
use Rattle.pv_picks.specs.Plain.Core.{Parameter, Program}
use Rattle.pv_picks.specs.Formulas.Meeting.{IsMet, unmet}
use Rattle.pv_picks.specs.Judge.States.{Resource, scene_of}
use Rattle.pv_picks.specs.Judge.Judging.{finish}
use Rattle.pv_picks.specs.Machine.Tasks.{AtHead, Loop, Task, Evaluate, Turn, Stand}
use Rattle.pv_picks.specs.Machine.Frames.{Frame, goes_on, settled, sight_of, body_scene}
use Rattle.pv_picks.specs.Machine.Worlds.{World, with_frames}
use Rattle.pv_picks.specs.Machine.Steps.{Result, needs_met}
use Rattle.pv_picks.specs.Typing.Tasks.{IsWithin}
use Rattle.account_formulas.specs.Runs.{truly}
use Rattle.account_formulas.specs.Owning.{Owns}
use Rattle.account_formulas.specs.Giving.{Gave, with_left}
use Rattle.account_formulas.proofs.Laws.{left_fits}
use Rattle.account.specs.Running.{ran}
use Rattle.account.specs.Scoped.{Standing, IsInLoop, IsLoopIn, TasksSay, FrameSays, stands, begins, goes_back}
use Rattle.account.specs.Messages.{TasksExchange}
use Rattle.core_names.specs.Stacks.{AreBalanced, StacksFit}
use Rattle.account.specs.Frames as account
use Rattle.account.specs.Frames.{Part, outer_of, amounts_of, all_of, sight_in, standing_in, opened, called_of, turns_of, TakesTurns, AllTakeTurns, IsRunOf, AllWait}
use Rattle.account.specs.Accounts.{Account, Kept}
use Rattle.account.proofs.Working.{NeverOn, TurnsAround}
use Rattle.account_accesses.specs.Standing.{StandsAt}
use Rattle.account_accesses.specs.Supports.{Supports}
use Rattle.account_accesses.specs.Statements.{LoopEntryKeeps, LoopKeepKeeps}
use Rattle.account.proofs.Later.{grown_same, keeps_same}
use Rattle.account.proofs.Stepping.{own_most}
use Rattle.account_accesses.proofs.Acting.{acts, steps_on}
use Rattle.account_accesses.proofs.Speaking.{gives, owned_in_scene, met_in_frame}
use Rattle.account_accesses.proofs.Turns.{HeadGoes, turns_go}

entry_says : (c : Standing) (inner : Bool) (xs : List Parameter) (given : Bool) (stack : List PvType) (l : Loop)
    (rest : List Task)
    → TasksSay c inner xs given stack (Stand (AtHead check.LoopEntry l) ∷ rest) → IsLoopIn c xs l
    × TasksSay c false xs given [] rest
entry_says c inner xs given stack l rest (stands after fits speaks says) = absurd speaks
entry_says c inner xs given stack l rest (begins loop says) = (loop, says)

back_says : (c : Standing) (inner : Bool) (xs : List Parameter) (given : Bool) (stack : List PvType) (l : Loop) (rest : List Task)
    → TasksSay c inner xs given stack (Stand (AtHead check.LoopKeep l) ∷ rest) → IsInLoop c.loops xs
back_says c inner xs given stack l rest (stands after fits speaks says) = absurd speaks
back_says c inner xs given stack l rest (goes_back within) = within

module _ (p : Program) (w : World) (support : Supports p w) (a : Account p w) (i : ℕ) (inside : i < w.count) (f : Frame)
    (below : List Frame) (r : account.Run) (rs : List account.Run) (had : a.owners.runs i ≡ r ∷ rs)
    (fits : IsRunOf p w.committed w.heap f r) (waits : AllWait p w.committed w.heap (called_of f r) below rs)
    (l : Loop) (rest : List Task) (bare : f.values ≡ []) where
  most : (q : Resource) → amounts_of r q ≤ whole
  most q = let one = own_most p w a i inside (r ∷ rs) had q in omega (arith, one)

  -- the head of a loop, in the world
  abbrev AtHeadGoes : Check → Type 0
  AtHeadGoes named = Kept p (needs_met (unmet (sight_of w.heap f) (body_scene f) l.invariant) named
      (Result.Went (with_frames w i (settled (goes_on f (Evaluate l.condition ∷ Turn l ∷ rest)) ∷ below))))

  -- a head that goes leads to an accounted world
  head_goes : (named : Check) → StandsAt w i (AtHead named l) f below rest → IsMet (sight_of w.heap f) (body_scene f) l.invariant
      → (run : account.Run) → IsRunOf p w.committed w.heap (goes_on f (Evaluate l.condition ∷ Turn l ∷ rest)) run
      → TasksSay (standing_in p f.class run.body run.outer) run.inner run.scope run.given run.stack
      (Evaluate l.condition ∷ Turn l ∷ rest)
      → ((q : Resource) → amounts_of run q ≤ amounts_of r q) → run.past ≡ r.past → run.body ≡ r.body → AtHeadGoes named
  head_goes named at met run run_fits says less past body =
      subst (λ o. Kept p (needs_met o named
      (Result.Went (with_frames w i (settled (goes_on f (Evaluate l.condition ∷ Turn l ∷ rest)) ∷ below))))) (sym met)
      (steps_on p w a i inside f below at.frames w.heap.value (goes_on f (Evaluate l.condition ∷ Turn l ∷ rest)) (record {
        run = run;
        old = r;
        others = rs;
        had = had;
        fits = run_fits;
        says = says;
        waits = waits;
        less = less;
        still = record { class = refl; method = refl; this = refl; begun = refl; old = refl };
        past = past;
        body = body;
        stood = λ block ts is. let t = at.tasks in absurd (cc (is, t));
        messages = λ S R h. let k = subst (λ ts. TasksExchange S R ts) at.tasks h in (tt, (k.0, k.1));
        grown = grown_same w.heap;
        keeps = λ B less. keeps_same B w.heap;
        heap = support.heap;
        predicates = support.predicates w.heap support.heap;
      }))

  -- a loop begins
  pub entry_goes : StandsAt w i (AtHead check.LoopEntry l) f below rest → AtHeadGoes check.LoopEntry
  entry_goes at =
      head_goes check.LoopEntry at (met_in_frame p w.committed w.heap f r fits support.heap l.invariant says.0.1 gave.part
      gave.owns)
      done.run done.fits done.says
      (λ q. let one = done.less q in let two = gave.sum q in omega (arith, one, two)) done.past done.body
    where
      says : IsLoopIn (standing_in p f.class r.body r.outer) r.scope l
          × TasksSay (standing_in p f.class r.body r.outer) false r.scope r.given [] rest
      says = entry_says (standing_in p f.class r.body r.outer) r.inner r.scope r.given r.stack l rest
          (subst (λ ts. FrameSays (standing_in p f.class r.body r.outer) r.inner r.scope r.given r.stack ts) at.tasks fits.tasks)

      gave : Gave p w.committed w.heap r.taken (Owns p w.committed (sight_in w.heap r) (scene_of r.state) l.invariant) r.state
          r.state.held r.trees (λ maps. turns_of (truly maps) p r.body l (ran (truly maps) p r.body false rest []))
      gave = gives p w.committed w.heap f r fits support.heap l.invariant says.0.1 check.LoopEntry
          (λ maps. turns_of (truly maps) p r.body l (ran (truly maps) p r.body false rest []))
          (subst (λ vs. NeverOn p w.committed w.heap r r.inner (Stand (AtHead check.LoopEntry l) ∷ rest) vs) bare
          (subst (λ ts. NeverOn p w.committed w.heap r r.inner ts f.values) at.tasks fits.never))

      turns : TakesTurns p w.committed w.heap f.class r.body r.past (body_scene f) l rest (record {
        state = with_left r.state gave.held gave.instances gave.lengths;
        taken = r.taken;
        trees = gave.trees;
        loop = record { scope = r.scope; assigned = l.assigned };
        given = r.given;
      }) r.outer
      turns = record {
        assigned = refl;
        loop = says.0;
        tasks = says.1;
        fits = left_fits w.committed w.heap r.taken r.state gave.held gave.instances gave.lengths fits.state.fits gave.leaves
            gave.agree;
        this = fits.state.this;
        variables = λ n t is none. fits.state.variables n t is;
        result = fits.state.result;
        given = fits.typed.result;
        trees = gave.has_trees;
        known = fits.old.known;
        settled = fits.old.settled;
        agrees = fits.old.agrees;
        never = gave.never;
      }

      done : HeadGoes p w.committed w.heap support.heap (support.predicates w.heap support.heap) f r fits.old fits.body
          fits.typed.this l rest (record {
            state = with_left r.state gave.held gave.instances gave.lengths;
            taken = r.taken;
            trees = gave.trees;
            loop = record { scope = r.scope; assigned = l.assigned };
            given = r.given;
          }) r.outer turns
          (subst (λ ts. TurnsAround p w.committed w.heap f r r.inner ts) at.tasks fits.outer) bare fits.typed.variables gave.part
          (owned_in_scene p w.committed w.heap f r fits support.heap l.invariant says.0.1 gave.part gave.owns)
          (λ q. let one = gave.sum q in let two = most q in omega (arith, one, two))
      done = turns_go p w.committed w.heap support.heap (support.predicates w.heap support.heap) f r fits.old fits.body
          fits.typed.this l rest (record {
            state = with_left r.state gave.held gave.instances gave.lengths;
            taken = r.taken;
            trees = gave.trees;
            loop = record { scope = r.scope; assigned = l.assigned };
            given = r.given;
          }) r.outer turns
          (subst (λ ts. TurnsAround p w.committed w.heap f r r.inner ts) at.tasks fits.outer) bare fits.typed.variables gave.part
          (owned_in_scene p w.committed w.heap f r fits support.heap l.invariant says.0.1 gave.part gave.owns)
          (λ q. let one = gave.sum q in let two = most q in omega (arith, one, two))

  -- a loop goes back to its head
  back_goes : StandsAt w i (AtHead check.LoopKeep l) f below rest → (x : Part) (xs : List Part) → r.outer ≡ x ∷ xs
      → IsWithin x.loop.scope r.scope
      → TakesTurns p w.committed w.heap f.class r.body r.past (body_scene f) l rest x xs
      → AllTakeTurns p w.committed w.heap f.class r.body r.past (body_scene f) (opened false rest) xs → AtHeadGoes check.LoopKeep
  back_goes at x xs is within turns more =
      head_goes check.LoopKeep at
      (met_in_frame p w.committed w.heap f (record r { scope = x.loop.scope; stack = [] }) narrow_fits support.heap l.invariant
      turns.loop.1 gave.part gave.owns)
      done.run done.fits done.says
      (λ q. let one = done.less q in let two = gave.sum q in let same = ap (λ z. outer_of z q) is in
      omega (arith, one, two, same))
      done.past done.body
    where
      narrow_fits : IsRunOf p w.committed w.heap f (record r { scope = x.loop.scope; stack = [] })
      narrow_fits = record {
        state = record {
          fits = fits.state.fits;
          this = fits.state.this;
          variables = λ n t k. fits.state.variables n t (within n t k);
          result = fits.state.result;
          trees = fits.state.trees;
        };
        old = fits.old;
        body = fits.body;
        typed = record {
          this = fits.typed.this;
          variables = λ n t k. fits.typed.variables n t (within n t k);
          result = fits.typed.result;
          values = tt;
        };
        tasks = subst (λ ts. FrameSays (standing_in p f.class r.body r.outer) r.inner x.loop.scope r.given [] ts) (sym at.tasks)
            (goes_back (subst (λ ys. IsInLoop (map (λ z. z.loop) ys) x.loop.scope) (sym is) (λ n t k. k)));
        outer = fits.outer;
        never = fits.never;
      }

      gave : Gave p w.committed w.heap r.taken (Owns p w.committed (sight_in w.heap r) (scene_of r.state) l.invariant) r.state
          r.state.held r.trees (λ maps. finish (truly maps))
      gave = gives p w.committed w.heap f (record r { scope = x.loop.scope; stack = [] }) narrow_fits support.heap l.invariant
          turns.loop.1 check.LoopKeep (λ maps. finish (truly maps))
          (subst (λ ts. NeverOn p w.committed w.heap r r.inner ts f.values) at.tasks fits.never)

      done : HeadGoes p w.committed w.heap support.heap (support.predicates w.heap support.heap) f r fits.old fits.body
          fits.typed.this l rest x xs turns more bare (λ n t k. fits.typed.variables n t (within n t k)) gave.part
          (owned_in_scene p w.committed w.heap f (record r { scope = x.loop.scope; stack = [] }) narrow_fits support.heap
          l.invariant
          turns.loop.1 gave.part gave.owns)
          (λ q. let one = gave.sum q in let two = most q in let same = ap (λ z. outer_of z q) is in omega (arith, one, two, same))
      done = turns_go p w.committed w.heap support.heap (support.predicates w.heap support.heap) f r fits.old fits.body
          fits.typed.this l rest x xs turns more bare (λ n t k. fits.typed.variables n t (within n t k)) gave.part
          (owned_in_scene p w.committed w.heap f (record r { scope = x.loop.scope; stack = [] }) narrow_fits support.heap
          l.invariant
          turns.loop.1 gave.part gave.owns)
          (λ q. let one = gave.sum q in let two = most q in let same = ap (λ z. outer_of z q) is in omega (arith, one, two, same))

  pub keep_goes : StandsAt w i (AtHead check.LoopKeep l) f below rest → AtHeadGoes check.LoopKeep
  keep_goes at = by r.outer refl
      (back_says (standing_in p f.class r.body r.outer) r.inner r.scope r.given r.stack l rest
      (subst (λ ts. FrameSays (standing_in p f.class r.body r.outer) r.inner r.scope r.given r.stack ts) at.tasks fits.tasks))
      (subst (λ ts. TurnsAround p w.committed w.heap f r r.inner ts) at.tasks fits.outer)
    where
      by : (o : List Part) → r.outer ≡ o → IsInLoop (map (λ z. z.loop) o) r.scope
          → AllTakeTurns p w.committed w.heap f.class r.body r.past (body_scene f) (Some (l, rest)) o → AtHeadGoes check.LoopKeep
      by [] e within turns = absurd turns
      by (x ∷ xs) e within (turns, more) = back_goes at x xs e within turns more

-- no value is left before the head of a loop
no_values : (vs : List Value) → length vs ≡ 0 → vs ≡ []
no_values [] e = refl
no_values (v ∷ vs) e = absurd (omega (arith, e))

bare_there : (w : World) → StacksFit w → (i : ℕ) (named : Check) (l : Loop) (f : Frame) (below : List Frame) (rest : List Task)
    → StandsAt w i (AtHead named l) f below rest → f.values ≡ []
bare_there w fits i named l f below rest at =
    let all = subst (AllByRecursion (λ (g : Frame). AreBalanced g.tasks (length g.values))) at.frames (fits i) in
    let here = subst (λ ts. AreBalanced ts (length f.values)) at.tasks all.0 in
    no_values f.values here.0

pub entry_keeps : LoopEntryKeeps
entry_keeps l p w support a i f below rest at mode = acts p w a i mode (AtHead check.LoopEntry l) f below rest at
    (λ inside r rs had fits waits. entry_goes p w support a i inside f below r rs had fits waits l rest
    (bare_there w support.stacks i check.LoopEntry l f below rest at) at)

pub keep_keeps : LoopKeepKeeps
keep_keeps l p w support a i f below rest at mode = acts p w a i mode (AtHead check.LoopKeep l) f below rest at
    (λ inside r rs had fits waits. keep_goes p w support a i inside f below r rs had fits waits l rest
    (bare_there w support.stacks i check.LoopKeep l f below rest at) at)
