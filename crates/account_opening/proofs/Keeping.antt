-- The step of a thread that stands at the opening of a block: it isn't wrong, and the world after it is accounted for.
use Rattle.std.proofs.Common.{◌≡◌, ℕ, zero, suc, ◌+◌, ◌≤◌, ◌<◌, ℤ, Bool, true, false, if◌then◌else◌, List, [], ◌∷◌, refl, ap, sym, subst, ◌∙◌, arith}
use Rattle.pv_base.specs.declared.Name.{Name}
use Rattle.pv_fraction.specs.Amounts.{whole}
use Rattle.pv_picks.specs.declared.check.Check.TheVariants as check
use Rattle.pv_picks.specs.Plain.Core.{Message, Program, Team, Block}
use Rattle.pv_picks.specs.Formulas.Values.{number_in, within, width}
use Rattle.pv_picks.specs.Formulas.Meeting.{at}
use Rattle.pv_picks.specs.Judge.States.{Resource, OfLock, nothing_held}
use Rattle.pv_picks.specs.Machine.Tasks.{AtClose, Step, Task, Stand}
use Rattle.pv_picks.specs.Machine.Frames.{Frame, top, second, pops, settled, worked, after_work, only_now, body_scene}
use Rattle.pv_picks.specs.Machine.Measures.{size_of_tasks}
use Rattle.pv_picks.specs.Machine.Worlds.{Free, Mode, World, has_no_frame, member_of, with_frames, with_members}
use Rattle.pv_picks.specs.Machine.Steps.{Result, needs_met, act, act_tasks}
use Rattle.account_formulas.specs.Growing.{HeapFits}
use Rattle.account_formulas.specs.Gaining.{PredicatesFit}
use Rattle.account_formulas.specs.Owning.{Amounts}
use Rattle.account_formulas.specs.Still.{IsStill}
use Rattle.account_formulas.proofs.Still.{settled_still}
use Rattle.account_formulas.proofs.Sums.{sum_within}
use Rattle.core_trees.specs.Formulas.{OnceEach}
use Rattle.account.specs.Frames as account
use Rattle.account.specs.Frames.{amounts_of, all_of, standing_in, AreRunsOf, IsRunOf}
use Rattle.account.specs.Owners.{nothing, without_locks}
use Rattle.account.specs.Scoped.{TasksSay}
use Rattle.account.specs.Blocks.{IsMember}
use Rattle.account.specs.Messages.{IsKnown}
use Rattle.account.specs.Accounts.{Account, Kept}
use Rattle.account.proofs.Supplying.{heaps_fit}
use Rattle.account.proofs.Framing.{predicates_taken_in}
use Rattle.account.proofs.Stepping.{own_most, by_run}
use Rattle.account.proofs.Exchanging.{settled_exchanges}
use Rattle.account.proofs.Working.{not_closing, not_leaving}
use Rattle.account.proofs.Locks.{locks_less, owns_locked}
use Rattle.core_trees.specs.Messages.{sent_in_block}
use Rattle.account.specs.Openings.{IsAtOpening}
use Rattle.account_opening.specs.Statements.{OpeningsKeep}
use Rattle.account_opening.proofs.Naming.{with_label, known_in}
use Rattle.account_opening.proofs.Counting.{each_less}
use Rattle.account_opening.proofs.Opening as opening
use Rattle.account_opening.proofs.Beginning.{member_body, first_frame, MemberBegins, begins}
use Rattle.account_opening.proofs.Opened as opened

-- what stands at a step has no local work
works_none : (n : ℕ) (f : Frame) (step : Step) (rest : List Task) → f.tasks ≡ Stand step ∷ rest → after_work n f ≡ f
works_none zero f step rest is = refl
works_none (suc n) f step rest is =
    ap (λ ts. after_work n (worked f ts)) is ∙ works_none n f step rest is

module _ (p : Program) (w : World) (a : Account p w) (sound : HeapFits p w.heap) (framed : PredicatesFit p w.heap) (i : ℕ)
    (inside : i < w.count) (f : Frame) (below : List Frame) (stack : (w.threads i).frames ≡ f ∷ below) (r : account.Run)
    (rs : List account.Run) (has_runs : a.owners.runs i ≡ r ∷ rs)
    (fits : AreRunsOf p w.committed w.heap (f ∷ below) (r ∷ rs)) (here : IsAtOpening f below (w.threads i).role) where
  abbrev team : Team
  team = here.team

  abbrev body : Block
  body = here.body

  abbrev low : ℤ
  low = number_in (second f.values)

  abbrev high : ℤ
  high = number_in (top f.values)

  most : (q : Resource) → amounts_of r q ≤ whole
  most q =
      let one = own_most p w a i inside (r ∷ rs) has_runs q in omega (arith, one)

  less : (q : Resource) → amounts_of (opening.run p w.committed w.heap sound f r fits.0 here.team here.body here.rest here.tasks
      here.alike) q + (opening.gave p w.committed w.heap sound f r fits.0 here.team here.body here.rest here.tasks
      here.alike).part q ≤ amounts_of r q
  less = opening.less p w.committed w.heap sound f r fits.0 team body here.rest here.tasks here.alike

  -- the part of each position, without locks
  abbrev part : ℤ → Amounts
  part z =
      without_locks ((opening.dealt p w.committed w.heap sound f r fits.0 team body here.rest here.tasks here.alike).shares z)

  part_most : (z : ℤ) → within (number_in (second f.values)) (number_in (top f.values)) z ≡ true → (q : Resource)
      → part z q ≤ whole
  part_most z v q =
      let d = opening.dealt p w.committed w.heap sound f r fits.0 team body here.rest here.tasks here.alike in
      let one = sum_within (λ z. d.shares z q) low high z v in
      let sum = d.sum q in let cut_off = locks_less (d.shares z) q in let l = less q in let m = most q in
      omega (arith, one, sum, cut_off, l, m)

  -- a member at each number, which begins where that is a position
  record Member (z : ℤ) : Type 0 where
    pub run : account.Run
    pub less : (q : Resource) → amounts_of run q ≤ part z q
    pub begun : within (number_in (second f.values)) (number_in (top f.values)) z ≡ true
        → MemberBegins p w.committed w.heap f here.team here.body (number_in (second f.values)) (number_in (top f.values)) r.scope
        z (part z)
    pub same : (v : within (number_in (second f.values)) (number_in (top f.values)) z ≡ true) → run ≡ (begun v).run

  member : (z : ℤ) → Member z
  member z = by (within low high z) refl
    where
      by : (b : Bool) → within (number_in (second f.values)) (number_in (top f.values)) z ≡ b → Member z
      by true v =
          let k = begins p w.committed w.heap sound framed f r fits.0 team body here.rest here.tasks here.alike z v (part z)
          (part_most z v) (owns_locked p w.committed (only_now w.heap) (at (body_scene f) team.variable z)
          team.shared.one.before _
          (opening.part_at p w.committed w.heap sound f r fits.0 team body here.rest here.tasks here.alike z v)) in
          record { run = k.run; less = k.less; begun = λ u. k; same = λ u. refl }
      by false v = record {
        run = record r { state = nothing_held r.state; trees = nothing; outer = [] };
        less = λ q. omega arith;
        begun = λ u. absurd (cc (u, v));
        same = λ u. absurd (cc (u, v));
      }

  abbrev messages : Name → Message
  messages = with_label (sent_in_block body)

  abbrev done : account.Run
  done = opening.run p w.committed w.heap sound f r fits.0 team body here.rest here.tasks here.alike

  still : (z : ℤ) → IsStill (first_frame f here.team here.body z) (member_of f here.team here.body z)
  still z = settled_still (first_frame f team body z)

  opens : (mode : Mode) → opened.Opens p w a i inside f below stack r rs has_runs here.team here.body here.rest here.tasks mode
      (number_in (second f.values)) (number_in (top f.values))
      (opening.run p w.committed w.heap sound f r fits.0 here.team here.body here.rest here.tasks here.alike)
      (λ z. (member z).run) (with_label (sent_in_block here.body))
  opens mode = record {
    fits = (
      opening.waits_fit p w.committed w.heap sound f r fits.0 team body here.rest here.tasks here.alike w.block_count,
      fits.1,
    );
    body_is = refl;
    scope_is = refl;
    typed = opening.here p w.committed w.heap sound f r fits.0 team body here.rest here.tasks here.alike;
    contract = opening.contract p w.committed w.heap sound f r fits.0 team body here.rest here.tasks here.alike;
    alike = here.alike;
    closes = opening.closes p w.committed w.heap sound f r fits.0 team body here.rest here.tasks here.alike w.block_count;
    begins = λ z v. subst (λ x. IsRunOf p w.committed w.heap (member_of f team body z) x) (sym ((member z).same v))
        ((member z).begun v).fits;
    are = λ z v. is_member z v;
    not_closing = λ z v c ts e. let k = (member z).begun v in
        not_closing (standing_in p (member_of f team body z).class k.run.body k.run.outer) k.run.inner k.run.scope k.run.given
        k.run.stack c ts (subst (TasksSay (standing_in p (member_of f team body z).class k.run.body k.run.outer) k.run.inner
        k.run.scope k.run.given k.run.stack) e k.says);
    not_leaving = λ z v barrier span ts e. let k = (member z).begun v in
        not_leaving (standing_in p (member_of f team body z).class k.run.body k.run.outer) k.run.inner k.run.scope k.run.given
        k.run.stack barrier span ts (subst (TasksSay (standing_in p (member_of f team body z).class k.run.body k.run.outer)
        k.run.inner k.run.scope k.run.given k.run.stack) e k.says);
    known = λ z. settled_exchanges (IsKnown messages) (IsKnown messages) (first_frame f team body z)
        (known_in team.counted body once here.messages.0 here.messages.1, tt);
    less = λ q.
        let dealt = opening.dealt p w.committed w.heap sound f r fits.0 team body here.rest here.tasks here.alike in
        let l = less q in let d = dealt.sum q in
        let e = each_less (λ z. amounts_of (member z).run q) (λ z. dealt.shares z q)
        (λ z. let m = (member z).less q in let k = locks_less (dealt.shares z) q in omega (arith, m, k))
        (width low high) low in
        omega (arith, l, d, e);
    locks = λ z class x. let m = (member z).less (OfLock class x) in omega (arith, m);
  }
    where
      once : OnceEach here.team.counted here.body
      once = (opening.says p w.committed w.heap sound f r fits.0 team body here.rest here.tasks here.alike).once

      is_member : (z : ℤ) → within (number_in (second f.values)) (number_in (top f.values)) z ≡ true
          → IsMember (record { class = f.class; scope = r.scope; scene = body_scene f }) (record {
            opener = i;
            low = number_in (second f.values);
            high = number_in (top f.values);
            mode = mode;
            first = w.count;
            team = here.team;
            sent = λ label sender. false;
          }) z (member_of f here.team here.body z) (member z).run
      is_member z v =
          let k = (member z).begun v in
          let same : (member z).run.body ≡ member_body team low high r.scope k.variables =
          ap (λ x. x.body) ((member z).same v) ∙ k.body_is in
          record {
            class = (still z).class;
            this = (still z).this;
            begun = (still z).begun;
            head = ap (λ x. x.head) same;
            answer = ap (λ x. x.answer) same;
            speech = ap (λ x. x.speech) same;
            result = ap (λ x. x.result) same;
            after = ap (λ x. x.after) same;
            variable = ap (λ x. x.site.variable) same;
            low = ap (λ x. x.site.low) same;
            high = ap (λ x. x.site.high) same;
          }

  went : (mode : Mode) → Account p (with_members (with_frames w i (settled
      (pops 2 f (Stand (AtClose w.block_count) ∷ here.rest)) ∷ below)) i f here.team here.body mode
      (number_in (second f.values)) (number_in (top f.values)))
  went mode =
      let g : Frame = pops 2 f (Stand (AtClose w.block_count) ∷ here.rest) in
      subst (λ x. Account p (with_members (with_frames w i (x ∷ below)) i f team body mode low high))
      (sym (works_none (size_of_tasks g.tasks) g (AtClose w.block_count) here.rest refl))
      (opened.opened p w a i inside f below stack r rs has_runs team body here.rest here.tasks mode low high done
      (λ z. (member z).run) messages (opens mode))

  keeps : (mode : Mode) → Kept p (act_tasks p w i f below mode f.tasks)
  keeps mode =
      subst (λ ts. Kept p (act_tasks p w i f below mode ts)) (sym here.tasks)
      (subst (λ x. Kept p (needs_met x check.BlockRequires (Result.Went (with_members (with_frames w i (settled
      (pops 2 f (Stand (AtClose w.block_count) ∷ here.rest)) ∷ below)) i f team body (if team.counted then mode else Free) low
      high)))) (sym (opening.met p w.committed w.heap sound f r fits.0 team body here.rest here.tasks here.alike))
      (went (if team.counted then mode else Free)))

-- a thread that stands at an opening in an accounted world
pub open_keeps : (p : Program) (w : World) (a : Account p w) → HeapFits p w.heap → PredicatesFit p w.heap → (i : ℕ)
    → i < w.count → (f : Frame) (below : List Frame) → (w.threads i).frames ≡ f ∷ below
    → IsAtOpening f below (w.threads i).role → (mode : Mode) → Kept p (act p w mode i)
open_keeps p w a sound framed i inside f below stack here mode =
    by_run p w a i inside f below stack mode
    (λ r rs e fits. keeps p w a sound framed i inside f below stack r rs e fits here mode)

pub openings_keep : OpeningsKeep
openings_keep p verified w reached a i f below stack at mode =
    let sound = heaps_fit p verified.typed.bodies w reached in
    open_keeps p w a sound (predicates_taken_in p verified w.heap sound) i
    (a.threads.live i (ap has_no_frame stack)) f below stack at mode
