-- A thread that waits for the members of a block in an accounted world: it waits, or goes on with what they left.
use Rattle.std.proofs.Common.{◌≡◌, ℕ, ◌+◌, ◌≤◌, ◌<◌, ℤ, pos, Bool, true, false, if◌then◌else◌, Some, None, List, ◌∷◌, refl, ap, sym, subst, ◌∙◌, arith}
use Rattle.std.specs.Prelude.{◌-ℤ◌, ◌+ℤ◌}
use Rattle.std.proofs.lemmas.Option.{none-some}
use Rattle.pv_base.specs.declared.Name.{Name}
use Rattle.pv_values.specs.declared.value.Value.TheVariants as value
use Rattle.pv_fraction.specs.Amounts.{whole}
use Rattle.pv_picks.specs.Plain.Core.{Formula, Program, Shared}
use Rattle.pv_picks.specs.Formulas.Heaps.{at_number}
use Rattle.pv_picks.specs.Formulas.Meeting.{sum_of_each}
use Rattle.pv_picks.specs.Judge.States.{Resource, OfLock, scene_of}
use Rattle.pv_picks.specs.Machine.Tasks.{AtClose, Task, Stand}
use Rattle.pv_picks.specs.Machine.Starts.{field_kind}
use Rattle.pv_picks.specs.Machine.Frames.{Frame, goes_on, settled, only_now, at_lengths_of, body_scene}
use Rattle.account_formulas.specs.Runs.{truly}
use Rattle.account_formulas.proofs.Alike.{scene_typed}
use Rattle.account.specs.Running.{ran}
use Rattle.pv_picks.specs.Machine.Worlds.{Mode, World, OpenBlock, is_member, has_ended, members_ended, with_frames, member_count}
use Rattle.pv_picks.specs.Machine.Steps.{Result, waits_unless, act, act_tasks}
use Rattle.pv_picks.specs.Typing.Expressions.{Home, silent, type_in}
use Rattle.pv_picks.specs.Formulas.Values.{within, width, or_zero}
use Rattle.core_trees.specs.Formulas.{in_class}
use Rattle.account_formulas.specs.Good.{IsGood, AreGoodItems}
use Rattle.account_formulas.specs.Owning.{Amounts, Owns, OwnsItems}
use Rattle.account_formulas.specs.Agreeing.{ScenesAgree}
use Rattle.account_formulas.specs.Growing.{Place, HeapFits}
use Rattle.account_formulas.specs.Gaining.{PredicatesFit, Gained}
use Rattle.account_formulas.specs.Statements.{NumbersStand}
use Rattle.account_formulas.specs.Still.{IsStill}
use Rattle.account_formulas.proofs.Still.{settled_still}
use Rattle.account_formulas.proofs.Laws.{takes_in, owned_alike, as_items, gathers, numbers_are}
use Rattle.account.proofs.Goodness.{good_items}
use Rattle.account.specs.Frames.{Run, amounts_of, all_of, standing_in, AreRunsOf, AllTakeTurns, opened, IsRunOf}
use Rattle.account.specs.Owners.{Opened, sum_below, carried_by, at_thread}
use Rattle.account.specs.Blocks.{scene_at, WaitsForMembers}
use Rattle.account.specs.Messages.{TasksExchange}
use Rattle.account.specs.Accounts.{Account, Kept}
use Rattle.account.specs.Scoped.{TasksSay, FrameSays}
use Rattle.account.specs.Going.{Goes}
use Rattle.account.proofs.Working.{frame_says, not_closing, not_leaving}
use Rattle.account.proofs.LocalWork.{settled_goes, below_settled}
use Rattle.account.proofs.Exchanging.{settled_exchanges}
use Rattle.account.proofs.Sums.{sum_changed, part_of, at_same, at_other}
use Rattle.account.proofs.Together.{each_formula}
use Rattle.account_blocks.proofs.Closed.{closed}
use Rattle.account_blocks.proofs.Numbers.{shares_up, given_up, none_up, is_member_at, each_one, position_number}
use Rattle.account.proofs.Ended.{past_fits}
use Rattle.account.proofs.Stepping.{by_run}
use Rattle.account_blocks.proofs.Sites.{goes_behind}

module _ (p : Program) (w : World) (a : Account p w) (sound : HeapFits p w.heap) (framed : PredicatesFit p w.heap) (i : ℕ)
    (inside : i < w.count) (f : Frame) (below : List Frame) (stack : (w.threads i).frames ≡ f ∷ below) (r : Run)
    (rs : List Run) (has_runs : a.owners.runs i ≡ r ∷ rs) (fits : AreRunsOf p w.committed w.heap (f ∷ below) (r ∷ rs)) (c : ℕ)
    (rest : List Task) (tasks : f.tasks ≡ Stand (AtClose c) ∷ rest) (all : members_ended w (w.blocks c) ≡ true) where
  abbrev block : OpenBlock
  block = w.blocks c

  abbrev opening : Opened
  opening = a.owners.openings c

  abbrev name : Name
  name = block.team.variable

  abbrev shared : Shared
  shared = block.team.shared

  abbrev home : Home
  home = in_class p opening.class

  k : WaitsForMembers p w.committed w.heap w.count w.threads w.block_count a.owners.left (a.owners.openings c) i c (w.blocks c)
      f r rest
  k = a.blocks.openers i inside f below r rs c rest stack has_runs tasks

  good_each : AreGoodItems (in_class p (a.owners.openings c).class) silent (a.owners.openings c).scope (w.blocks c).team.variable
      (w.blocks c).team.shared.each_after
  good_each = good_items (in_class p (a.owners.openings c).class) silent (a.owners.openings c).scope
      (w.blocks c).team.variable (w.blocks c).team.shared.each_after k.contract.4

  theirs : ScenesAgree silent opening.scope opening.scene (scene_of r.state)
  theirs = record {
    this = ap (λ z. z.this) k.scene ∙ sym fits.0.state.this;
    variables = λ n t e. ap (λ z. z.variables n.0) k.scene
        ∙ sym (fits.0.state.variables n t (subst (λ xs. type_in xs n ≡ Some t) k.scope e));
    result = λ t e. absurd (none-some t e);
  }

  abbrev place : Place p w.heap
  place = record {
    class = opening.class;
    answer = None;
    speech = silent;
    scope = opening.scope;
    past = at_lengths_of w.heap r.past;
    old = r.state.old;
    known = fits.0.old.known;
    before = past_fits (field_kind p) w.heap r.past fits.0.old.fits;
    agrees = fits.0.old.agrees;
    lengths = λ array n e. e;
  }

  numbered : NumbersStand home silent opening.scope (only_now w.heap) opening.scene
  numbered = numbers_are home silent opening.scope w.heap opening.scene k.typed w.heap w.heap sound.now sound.now

  abbrev shares : ℤ → Amounts
  shares z = a.owners.left (block.first + or_zero (z -ℤ block.low))

  abbrev sum : Amounts
  sum q = sum_of_each (λ z. shares z q) block.low (width block.low block.high)

  owned : (z : ℤ) → within block.low block.high z ≡ true
      → OwnsItems p w.committed (only_now w.heap) opening.scene name z (z +ℤ pos 1) shared.each_after (shares z)
  owned z v =
      let n = position_number block.low block.high z v in
      as_items home silent w.committed (only_now w.heap) opening.scope name k.contract.0 opening.scene numbered z
      shared.one.after shared.each_after k.alike.after good_each (shares z)
      (subst (λ y. Owns p w.committed (only_now w.heap) (scene_at opening block.team y) shared.one.after (shares z)) n.1
      (k.ended (or_zero (z -ℤ block.low)) n.0
      (each_one (has_ended w) (member_count block) block.first (or_zero (z -ℤ block.low)) all n.0) w.heap
      (record { placed = λ q e. e; kept = λ q v more e. e; lengths = λ x m e. e })))

  abbrev formula : Formula
  formula = each_formula name block.low block.high shared.each_after

  good_formula' : IsGood home silent opening.scope formula
  good_formula' = (refl, refl, k.contract.0, good_each)

  gathered : Owns p w.committed (record { now = w.heap; old = at_lengths_of w.heap r.past }) (scene_of r.state) formula sum
  gathered = owned_alike home silent w.committed (only_now w.heap) (record { now = w.heap; old = at_lengths_of w.heap r.past })
      refl (λ e. absurd (cc e)) opening.scope opening.scene (scene_of r.state) theirs formula good_formula' sum
      (Owns.each (value.Number block.low) (value.Number block.high) refl refl
      (gathers p w.committed (only_now w.heap) opening.scene name block.low block.high shared.each_after shares owned))

  -- the members' parts are no more than what all threads have
  abbrev kept_left : ℕ → Amounts
  kept_left j q = if is_member block j then 0 else a.owners.left j q

  gifts : (q : Resource)
      → sum_below (λ j. all_of (a.owners.runs j) q + (kept_left j q + carried_by (a.owners.mail j) q)) w.count + sum q
      ≤ sum_below (λ j. at_thread a.owners j q) w.count
  gifts q =
      let one = shares_up (λ j. a.owners.left j q) block.low block.first (member_count block) in
      let two = given_up w.count (member_count block) block.first (λ j. at_thread a.owners j q)
      (λ j. all_of (a.owners.runs j) q + (kept_left j q + carried_by (a.owners.mail j) q)) (λ j. a.owners.left j q) k.counted
      (λ j. less_at j (is_member block j)) (λ j l m. gives_at j (is_member block j) (is_member_at block j l m)) in
      omega (arith, one, two)
    where
      less_at : (j : ℕ) (x : Bool) → all_of (a.owners.runs j) q + ((if x then 0 else a.owners.left j q)
          + carried_by (a.owners.mail j) q) ≤ all_of (a.owners.runs j) q + (a.owners.left j q + carried_by (a.owners.mail j) q)
      less_at j true = omega arith
      less_at j false = omega arith

      gives_at : (j : ℕ) (x : Bool) → x ≡ true → all_of (a.owners.runs j) q + ((if x then 0 else a.owners.left j q)
          + carried_by (a.owners.mail j) q) + a.owners.left j q
          ≤ all_of (a.owners.runs j) q + (a.owners.left j q + carried_by (a.owners.mail j) q)
      gives_at j true e = omega arith
      gives_at j false e = absurd (cc e)

  most : (q : Resource) → all_of (r ∷ rs) q + sum q ≤ whole
  most q =
      let one = part_of (λ j. all_of (a.owners.runs j) q + (kept_left j q + carried_by (a.owners.mail j) q)) w.count i inside in
      let two = gifts q in let three = a.sums.most q in let same = ap (λ z. all_of z q) has_runs in
      omega (arith, one, two, three, same)

  gained : Gained p w.committed w.heap fits.0.old.known (λ sight. Owns p w.committed sight (scene_of r.state)
      (each_formula (w.blocks c).team.variable (w.blocks c).low (w.blocks c).high (w.blocks c).team.shared.each_after))
      r.taken r.state r.trees
      (λ q. sum_of_each (λ z. a.owners.left ((w.blocks c).first + or_zero (z -ℤ (w.blocks c).low)) q) (w.blocks c).low
      (width (w.blocks c).low (w.blocks c).high)) (λ maps. ran (truly maps) p r.body false rest f.values)
  gained = takes_in p w.committed w.heap sound framed place (scene_of r.state)
      (scene_typed home silent opening.scope w.heap opening.scene (scene_of r.state) theirs k.typed) formula good_formula' sum
      gathered r.taken r.state fits.0.old.settled fits.0.state.fits r.trees fits.0.state.trees
      (λ q. let m = most q in omega (arith, m)) (λ maps. ran (truly maps) p r.body false rest f.values) k.closes.never

  abbrev run : Run
  run = record r { state = gained.after; taken = gained.then_taken; trees = gained.trees; inner = false }

  says : TasksSay (standing_in p f.class r.body r.outer) false r.scope r.given r.stack rest
  says = subst (λ ts. FrameSays (standing_in p f.class r.body r.outer) r.inner r.scope r.given r.stack ts) tasks fits.0.tasks

  run_fits : IsRunOf p w.committed w.heap (goes_on f rest) run
  run_fits = goes_behind p w.committed w.heap f r fits.0 rest gained.after gained.then_taken gained.trees gained.fine gained.scene
      gained.kept gained.goes gained.has_trees
      (frame_says (standing_in p f.class r.body r.outer) false r.scope r.given r.stack rest says)
      (subst (λ ts. AllTakeTurns p w.committed w.heap f.class r.body r.past (body_scene f) (opened r.inner ts) r.outer) tasks
      fits.0.outer) gained.never

  run_less : (q : Resource) → amounts_of run q ≤ amounts_of r q + sum q
  run_less q = let s = gained.sum q in omega (arith, s)

  abbrev behind : Frame
  behind = settled (goes_on f rest)

  abbrev done : Goes p w.committed w.heap behind run
  done = settled_goes p w.committed w.heap sound framed (goes_on f rest) run run_fits says
      (λ q. let l = run_less q in let m = most q in omega (arith, l, m))

  says_then : TasksSay (standing_in p f.class done.run.body done.run.outer) done.run.inner done.run.scope done.run.given
      done.run.stack behind.tasks
  says_then = subst (λ z. TasksSay (standing_in p z done.run.body done.run.outer) done.run.inner done.run.scope
      done.run.given done.run.stack behind.tasks) (settled_still (goes_on f rest)).class done.says

  still : IsStill f behind
  still = let z = settled_still (goes_on f rest) in
      record { class = z.class; method = z.method; this = z.this; begun = z.begun; old = z.old }

  went_on : Account p (with_frames w i (behind ∷ below))
  went_on = closed p w a i inside f below stack r rs has_runs c rest tasks all behind done.run still done.body (record {
    fits = (done.fits, below_settled p w.committed w.heap sound framed (goes_on f rest) run done below rs fits.1);
    less = less;
    locks = λ class x.
        let d = done.less (OfLock class x) in let l = run_less (OfLock class x) in
        let one = shares_up (λ j. a.owners.left j (OfLock class x)) block.low block.first (member_count block) in
        let none = none_up (λ j. a.owners.left j (OfLock class x)) (member_count block) block.first
        (λ j m n. let z = a.locks.threads j (let u = k.counted in omega (arith, n, u)) class x in omega (arith, z)) in
        omega (arith, d, l, one, none);
    is_open = λ d ts e. not_closing (standing_in p f.class done.run.body done.run.outer) done.run.inner done.run.scope
        done.run.given done.run.stack d ts (subst (λ z. TasksSay (standing_in p f.class done.run.body done.run.outer)
        done.run.inner done.run.scope done.run.given done.run.stack z) e says_then);
    leaves = λ barrier span ts e. not_leaving (standing_in p f.class done.run.body done.run.outer) done.run.inner done.run.scope
        done.run.given done.run.stack barrier span ts (subst (λ z. TasksSay (standing_in p f.class done.run.body done.run.outer)
        done.run.inner done.run.scope done.run.given done.run.stack z) e says_then);
    exchanges = λ S R h. settled_exchanges S R (goes_on f rest) (subst (TasksExchange S R) tasks h).1;
  })
    where
      less : (q : Resource)
          → sum_below (λ j. all_of (at_number i (done.run ∷ rs) a.owners.runs j) q
          + (kept_left j q + carried_by (a.owners.mail j) q)) w.count
          ≤ sum_below (λ j. at_thread a.owners j q) w.count
      less q =
          let one = sum_changed (λ j. all_of (a.owners.runs j) q + (kept_left j q + carried_by (a.owners.mail j) q))
          (λ j. all_of (at_number i (done.run ∷ rs) a.owners.runs j) q + (kept_left j q + carried_by (a.owners.mail j) q))
          w.count i inside
          (λ j e. let s = ap (λ z. all_of z q) (at_other i j (done.run ∷ rs) a.owners.runs e) in omega (arith, s)) in
          let two = ap (λ z. all_of z q) (at_same i (done.run ∷ rs) a.owners.runs) in
          let had = ap (λ z. all_of z q) has_runs in
          let d = done.less q in let l = run_less q in let g = gifts q in omega (arith, one, two, had, d, l, g)

-- a thread that waits for members in an accounted world
pub close_keeps : (p : Program) (w : World) (a : Account p w) → HeapFits p w.heap → PredicatesFit p w.heap → (i : ℕ)
    → i < w.count → (f : Frame) (below : List Frame) → (w.threads i).frames ≡ f ∷ below → (c : ℕ) (rest : List Task)
    → f.tasks ≡ Stand (AtClose c) ∷ rest → (mode : Mode) → Kept p (act p w mode i)
close_keeps p w a sound framed i inside f below stack c rest tasks mode = by_run p w a i inside f below stack mode
    (λ r rs e fits. subst (λ ts. Kept p (act_tasks p w i f below mode ts)) (sym tasks)
    (by_test r rs e fits (members_ended w (w.blocks c)) refl))
  where
    by_test : (r : Run) (rs : List Run) → a.owners.runs i ≡ r ∷ rs → AreRunsOf p w.committed w.heap (f ∷ below) (r ∷ rs)
        → (x : Bool) → members_ended w (w.blocks c) ≡ x
        → Kept p (waits_unless x (Result.Went (with_frames w i (settled (goes_on f rest) ∷ below))))
    by_test r rs e fits true all = went_on p w a sound framed i inside f below stack r rs e fits c rest tasks all
    by_test r rs e fits false all = tt
