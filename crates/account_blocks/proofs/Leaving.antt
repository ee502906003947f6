-- All members of a block leave a barrier in an accounted world, each with its part of what the barrier gives.
use Rattle.std.proofs.Common.{◌≡◌, ℕ, suc, ◌+◌, ◌≤◌, ◌<◌, ℤ, pos, Bool, true, false, if◌then◌else◌, List, [], ◌∷◌, refl, ap, sym, subst, ◌∙◌, arith}
use Rattle.std.specs.Prelude.{drop, ◌-ℤ◌, ◌+ℤ◌}
use Rattle.pv_base.specs.declared.Name.{Name}
use Rattle.pv_base.specs.declared.Span.{Span}
use Rattle.pv_base.specs.Names.{same_name}
use Rattle.pv_fraction.specs.Amounts.{whole}
use Rattle.pv_picks.specs.declared.check.Check.TheVariants as check
use Rattle.pv_picks.specs.Plain.Core.{Barrier, Message, Program}
use Rattle.pv_picks.specs.Formulas.Meeting.{AllMet, sum_of_each, unmet_shared}
use Rattle.pv_picks.specs.Judge.States.{Resource, OfLock}
use Rattle.pv_picks.specs.Machine.Tasks.{AtLeave, AtClose, Task, Stand}
use Rattle.pv_picks.specs.Machine.Frames.{Frame, goes_on, settled, only_now, sight_of, contract_scene}
use Rattle.pv_picks.specs.Machine.Worlds.{MemberOf, Mode, World, Thread, OpenBlock, is_member, member_count, has_no_frame}
use Rattle.pv_picks.specs.Machine.Steps.{Result, needs_met, waits_unless, as_member, act_leave, all_leave, all_behind, frames_leave, frames_behind, act, act_tasks}
use Rattle.pv_picks.specs.Formulas.Values.{within, width, or_zero}
use Rattle.account_formulas.specs.Owning.{Amounts, Owns, KeepsOwning}
use Rattle.account_formulas.specs.Growing.{HeapFits}
use Rattle.account_formulas.specs.Gaining.{PredicatesFit}
use Rattle.account.proofs.LocalWork.{settled_goes}
use Rattle.account_formulas.specs.Still.{IsStill}
use Rattle.account_formulas.proofs.Still.{settled_still}
use Rattle.account_formulas.proofs.Sums.{sum_within}
use Rattle.account.specs.Frames.{Run, amounts_of, all_of, standing_in, AreRunsOf}
use Rattle.account.specs.Owners.{sum_below, carried_by, at_thread, total, Owners}
use Rattle.account.specs.Blocks.{scene_at, WaitsForMembers, IsMember, HasArrived, MemberRuns}
use Rattle.account.specs.Messages.{TasksExchange, bottom_tasks, IsKnown, ReceivesNone}
use Rattle.account.specs.Accounts.{Account, Kept}
use Rattle.account.specs.Scoped.{TasksSay}
use Rattle.account.specs.Going.{Goes}
use Rattle.account.proofs.Working.{not_closing, not_leaving}
use Rattle.account.proofs.Exchanging.{settled_exchanges}
use Rattle.account.proofs.Sums.{part_of, sums_less}
use Rattle.account.proofs.Moving.{first_same}
use Rattle.account.proofs.Stepping.{by_run}
use Rattle.account_blocks.proofs.Members.{Opener, opener, Stood, stood}
use Rattle.account.specs.Objects.{AtBottom, RoleFits}
use Rattle.account_blocks.proofs.Numbers.{shares_up, given_up, taken_up, none_up, is_member_at, number_of_member, number_from, its_number, parts_of_members, each_one, position_number}
use Rattle.account.proofs.Bottom.{member_moves}
use Rattle.account.proofs.Numbers.{number_within}
use Rattle.account.specs.Members.{LeavesAt}
use Rattle.account_blocks.proofs.Leave.{Leaves, arrived, takes, met, dealt, parts, no_more}

module _ (p : Program) (w : World) (a : Account p w) (sound : HeapFits p w.heap) (framed : PredicatesFit p w.heap) (i : ℕ)
    (inside : i < w.count) (f : Frame) (stack : (w.threads i).frames ≡ f ∷ []) (b : ℕ) (spot : ℤ)
    (role : (w.threads i).role ≡ MemberOf b spot) (barrier : Barrier) (span : Span) (rest : List Task)
    (is : f.tasks ≡ Stand (AtLeave barrier span) ∷ rest) (all : all_leave w (w.blocks b) barrier.place ≡ true)
    (each : (j : ℕ) → is_member (w.blocks b) j ≡ true → frames_leave barrier.place (w.threads j).frames ≡ true
    → LeavesAt w j barrier) where
  abbrev block : OpenBlock
  block = w.blocks b

  waits : Opener p w a i inside f stack b spot role
  waits = opener p w a i inside f stack b spot role

  -- each member
  module _ (j : ℕ) (e : is_member (w.blocks b) j ≡ true) where
    number : (n : ℕ) × (n < member_count (w.blocks b)) × ((w.blocks b).first + n ≡ j)
    number = number_of_member (w.blocks b) j e

    abbrev position : ℤ
    position = (w.blocks b).low +ℤ pos number.0

    role_of : (w.threads j).role ≡ MemberOf b ((w.blocks b).low +ℤ pos number.0)
    role_of = subst (λ z. (w.threads z).role ≡ MemberOf b ((w.blocks b).low +ℤ pos number.0)) number.2
        (waits.waits.roles number.0 number.1)

    inside_of : j < w.count
    inside_of = let c = waits.waits.counted in let l = number.1 in let s = number.2 in omega (arith, c, l, s)

    stands : LeavesAt w j barrier
    stands = each j e (subst (λ z. frames_leave barrier.place (w.threads z).frames ≡ true) number.2
        (each_one (λ z. frames_leave barrier.place (w.threads z).frames) (member_count (w.blocks b)) (w.blocks b).first number.0
        all number.1))

    abbrev own : Stood p w a j inside_of stands.frame stands.stack b position role_of
    own = stood p w a j inside_of stands.frame stands.stack b position role_of

    there : HasArrived p w.committed w.heap (a.owners.openings b) (w.blocks b) ((w.blocks b).low +ℤ pos number.0) barrier own.run
        (a.owners.left j)
    there = arrived p w a sound framed j inside_of stands.frame stands.stack b position role_of barrier stands.span stands.rest
        stands.stands

  abbrev shares : ℤ → Amounts
  shares z = a.owners.left (block.first + or_zero (z -ℤ block.low))

  abbrev sum : Amounts
  sum q = sum_of_each (λ z. shares z q) block.low (width block.low block.high)

  owned : (z : ℤ) → within (w.blocks b).low (w.blocks b).high z ≡ true
      → Owns p w.committed (only_now w.heap) (scene_at (a.owners.openings b) (w.blocks b).team z) barrier.shared.one.before
      (a.owners.left ((w.blocks b).first + or_zero (z -ℤ (w.blocks b).low)))
  owned z v =
      let n = position_number block.low block.high z v in
      let e = is_member_at block (block.first + or_zero (z -ℤ block.low)) (omega arith) (let l = n.0 in omega (arith, l)) in
      let k = number (block.first + or_zero (z -ℤ block.low)) e in
      let same : k.0 ≡ or_zero (z -ℤ block.low) = let s = k.2 in omega (arith, s) in
      subst (λ y. Owns p w.committed (only_now w.heap) (scene_at (a.owners.openings b) block.team y) barrier.shared.one.before
      (shares z)) (ap (λ m. block.low +ℤ pos m) same ∙ n.1)
      ((there (block.first + or_zero (z -ℤ block.low)) e).owns w.heap
      (record { placed = λ q h. h; kept = λ q x more h. h; lengths = λ x m h. h }))

  abbrev left_if : Bool → ℕ → Amounts
  left_if x j q = if x then 0 else a.owners.left j q

  abbrev alone : ℕ → Amounts
  alone j q = all_of (a.owners.runs j) q + (left_if (is_member block j) j q + carried_by (a.owners.mail j) q)

  gifts : (q : Resource) → sum_below (λ j. alone j q) w.count + sum q ≤ sum_below (λ j. at_thread a.owners j q) w.count
  gifts q =
      let one = shares_up (λ j. a.owners.left j q) block.low block.first (member_count block) in
      let two = given_up w.count (member_count block) block.first (λ j. at_thread a.owners j q) (λ j. alone j q)
      (λ j. a.owners.left j q) waits.waits.counted
      (λ j. less_at j (is_member block j)) (λ j l m. gives_at j (is_member block j) (is_member_at block j l m)) in
      omega (arith, one, two)
    where
      less_at : (j : ℕ) (x : Bool) → all_of (a.owners.runs j) q + (left_if x j q + carried_by (a.owners.mail j) q)
          ≤ all_of (a.owners.runs j) q + (a.owners.left j q + carried_by (a.owners.mail j) q)
      less_at j true = omega arith
      less_at j false = omega arith

      gives_at : (j : ℕ) (x : Bool) → x ≡ true
          → all_of (a.owners.runs j) q + (left_if x j q + carried_by (a.owners.mail j) q) + a.owners.left j q
          ≤ all_of (a.owners.runs j) q + (a.owners.left j q + carried_by (a.owners.mail j) q)
      gives_at j true e = omega arith
      gives_at j false e = absurd (cc e)

  most : (q : Resource) → sum q ≤ whole
  most q = let g = gifts q in let m = a.sums.most q in omega (arith, g, m)

  -- each position's part
  abbrev part : ℤ → Amounts
  part = (dealt p w a sound framed i inside f stack b spot role barrier span rest is shares owned most).shares

  no_lock : (class : Name) (x : ℕ) → sum (OfLock class x) ≡ 0
  no_lock class x =
      shares_up (λ j. a.owners.left j (OfLock class x)) block.low block.first (member_count block)
      ∙ none_up (λ j. a.owners.left j (OfLock class x)) (member_count block) block.first
      (λ j m n. let z = a.locks.threads j (let u = waits.waits.counted in omega (arith, n, u)) class x in omega (arith, z))

  part_less : (z : ℤ) → within block.low block.high z ≡ true → (q : Resource) → part z q ≤ sum q
  part_less z v q =
      let one = sum_within (λ y. part y q) block.low block.high z v in
      let two = no_more p w a sound framed i inside f stack b spot role barrier span rest is shares owned most q in
      omega (arith, one, two)

  module _ (j : ℕ) (e : is_member (w.blocks b) j ≡ true) where
    here : within (w.blocks b).low (w.blocks b).high ((w.blocks b).low +ℤ pos (number j e).0) ≡ true
    here = number_within (w.blocks b).low (w.blocks b).high (number j e).0 (number j e).1

    abbrev mine : Amounts
    mine = part ((w.blocks b).low +ℤ pos (number j e).0)

    enough : (q : Resource) → amounts_of (own j e).run q + mine q ≤ whole
    enough q =
        let one = part_of (λ y. alone y q) w.count j (inside_of j e) in
        let two = gifts q in let three = a.sums.most q in
        let four = part_less ((w.blocks b).low +ℤ pos (number j e).0) here q in
        let had = ap (λ z. all_of z q) (own j e).has_runs in omega (arith, one, two, three, four, had)

    goes : Leaves p w a sound framed j (inside_of j e) (stands j e).frame (stands j e).stack b
        ((w.blocks b).low +ℤ pos (number j e).0) (role_of j e) barrier (stands j e).span (stands j e).rest
        (stands j e).stands mine
    goes = takes p w a sound framed j (inside_of j e) (stands j e).frame (stands j e).stack b
        ((w.blocks b).low +ℤ pos (number j e).0) (role_of j e) barrier (stands j e).span (stands j e).rest
        (stands j e).stands mine
        enough (parts p w a sound framed i inside f stack b spot role barrier span rest is shares owned most
        ((w.blocks b).low +ℤ pos (number j e).0) here)

    abbrev behind : Frame
    behind = settled (goes_on (stands j e).frame (stands j e).rest)

    done : Goes p w.committed w.heap (settled (goes_on (stands j e).frame (stands j e).rest)) goes.run
    done = settled_goes p w.committed w.heap sound framed (goes_on (stands j e).frame (stands j e).rest) goes.run goes.fits
        goes.says (λ q. let l = goes.less q in let m = enough q in omega (arith, l, m))

    says_then : TasksSay (standing_in p (stands j e).frame.class done.run.body done.run.outer) done.run.inner done.run.scope
        done.run.given done.run.stack behind.tasks
    says_then = subst (λ z. TasksSay (standing_in p z done.run.body done.run.outer) done.run.inner done.run.scope
        done.run.given done.run.stack behind.tasks) (settled_still (goes_on (stands j e).frame (stands j e).rest)).class done.says

    still : IsStill (stands j e).frame (settled (goes_on (stands j e).frame (stands j e).rest))
    still = let z = settled_still (goes_on (stands j e).frame (stands j e).rest) in
        record { class = z.class; method = z.method; this = z.this; begun = z.begun; old = z.old }

    frames_then : frames_behind (w.threads j).frames ≡ settled (goes_on (stands j e).frame (stands j e).rest) ∷ []
    frames_then = ap frames_behind (stands j e).stack
        ∙ ap (λ ts. settled (goes_on (stands j e).frame (drop 1 ts)) ∷ []) (stands j e).stands

    exchanges : (S R : Message → Type 0) → TasksExchange S R (bottom_tasks (w.threads j).frames)
        → TasksExchange S R (bottom_tasks (frames_behind (w.threads j).frames))
    exchanges S R h = subst (λ fs. TasksExchange S R (bottom_tasks fs)) (sym frames_then)
        (settled_exchanges S R (goes_on (stands j e).frame (stands j e).rest)
        (subst (TasksExchange S R) (stands j e).stands
        (subst (λ fs. TasksExchange S R (bottom_tasks fs)) (stands j e).stack h)).1)

    no_close : (fs : List Frame) → fs ≡ frames_behind (w.threads j).frames → (h : Frame) (hs : List Frame) → fs ≡ h ∷ hs
        → (d : ℕ) (ts : List Task) → h.tasks ≡ Stand (AtClose d) ∷ ts → ⊥
    no_close fs same h hs is' d ts t =
        not_closing (standing_in p (stands j e).frame.class done.run.body done.run.outer) done.run.inner done.run.scope
        done.run.given done.run.stack d ts
        (subst (λ z. TasksSay (standing_in p (stands j e).frame.class done.run.body done.run.outer) done.run.inner
        done.run.scope done.run.given done.run.stack z)
        (ap (λ z. z.tasks) (first_same (settled (goes_on (stands j e).frame (stands j e).rest)) h [] hs
        (sym frames_then ∙ sym same ∙ is')) ∙ t) says_then)

  abbrev run_at : (j : ℕ) (x : Bool) → is_member (w.blocks b) j ≡ x → List Run
  run_at j true e = (done j e).run ∷ []
  run_at j false e = a.owners.runs j

  abbrev thread_at : Bool → ℕ → Thread
  thread_at x j = if x then record (w.threads j) { frames = frames_behind (w.threads j).frames } else w.threads j

  abbrev after : Owners
  after = record a.owners {
    runs = λ j. run_at j (is_member (w.blocks b) j) refl;
    left = λ j. left_if (is_member (w.blocks b) j) j;
  }

  run_less : (j : ℕ) (e : is_member (w.blocks b) j ≡ true) (q : Resource)
      → amounts_of (done j e).run q ≤ all_of (a.owners.runs j) q + mine j e q
  run_less j e q =
      let d = (done j e).less q in let l = (goes j e).less q in let had = ap (λ z. all_of z q) (own j e).has_runs in
      omega (arith, d, l, had)

  less : (q : Resource) → sum_below (λ j. at_thread after j q) w.count ≤ sum_below (λ j. at_thread a.owners j q) w.count
  less q =
      let one = taken_up w.count (member_count block) block.first (λ j. alone j q) (λ j. at_thread after j q)
      (λ j. part (block.low +ℤ pos (number_from block.first j)) q) waits.waits.counted
      (λ j no. others_at j no (is_member block j) refl) (λ j l m. takes_at j l m (is_member block j) refl) in
      let two = parts_of_members (λ z. part z q) block.low block.first (member_count block) in
      let three = no_more p w a sound framed i inside f stack b spot role barrier span rest is shares owned most q in
      let four = gifts q in omega (arith, one, two, three, four)
    where
      others_at : (j : ℕ) → (block.first ≤ j → j < block.first + member_count block → ⊥) → (x : Bool)
          → (e : is_member (w.blocks b) j ≡ x)
          → all_of (run_at j x e) q + (left_if x j q + carried_by (a.owners.mail j) q)
          ≤ all_of (a.owners.runs j) q + (left_if x j q + carried_by (a.owners.mail j) q)
      others_at j none false e = omega arith
      others_at j none true e =
          let n = number j e in
          absurd (none (let s = n.2 in omega (arith, s)) (let s = n.2 in let l = n.1 in omega (arith, s, l)))

      takes_at : (j : ℕ) → block.first ≤ j → j < block.first + member_count block → (x : Bool)
          → (e : is_member (w.blocks b) j ≡ x)
          → all_of (run_at j x e) q + (left_if x j q + carried_by (a.owners.mail j) q)
          ≤ all_of (a.owners.runs j) q + (left_if x j q + carried_by (a.owners.mail j) q)
          + part (block.low +ℤ pos (number_from block.first j)) q
      takes_at j l m false e = omega arith
      takes_at j l m true e =
          let same = ap (λ n. part (block.low +ℤ pos n) q) (its_number block.first (number j e).0 j (number j e).2) in
          let k = run_less j e q in omega (arith, same, k)

  was_live : (j : ℕ) (x : Bool) → is_member (w.blocks b) j ≡ x → has_no_frame (thread_at x j).frames ≡ false
      → has_no_frame (w.threads j).frames ≡ false
  was_live j false e h = h
  was_live j true e h = ap has_no_frame (stands j e).stack

  was_ended : (j : ℕ) (x : Bool) → is_member (w.blocks b) j ≡ x → has_no_frame (thread_at x j).frames ≡ true
      → (has_no_frame (w.threads j).frames ≡ true) × (x ≡ false)
  was_ended j false e h = (h, refl)
  was_ended j true e h = let k = ap has_no_frame (frames_then j e) in absurd (cc (h, k))

  role_as : (j : ℕ) (x : Bool) → (thread_at x j).role ≡ (w.threads j).role
  role_as j false = refl
  role_as j true = refl

  waits_apart : (o d : ℕ) (h : Frame) (hs : List Frame) (more : List Task) (x : Bool) → is_member (w.blocks b) o ≡ x
      → (thread_at x o).frames ≡ h ∷ hs → h.tasks ≡ Stand (AtClose d) ∷ more → ((w.threads o).frames ≡ h ∷ hs) × (x ≡ false)
  waits_apart o d h hs more false e is' t = (is', refl)
  waits_apart o d h hs more true e is' t = absurd (no_close o e (frames_behind (w.threads o).frames) refl h hs is' d more t)

  runs_apart : (o : ℕ) (x : Bool) (e : is_member (w.blocks b) o ≡ x) → x ≡ false → (qs : List Run) → run_at o x e ≡ qs
      → a.owners.runs o ≡ qs
  runs_apart o false e h qs has = has
  runs_apart o true e h qs has = absurd (cc h)

  opener_waits : (o d : ℕ) (h : Frame) (q : Run) (more : List Task)
      → WaitsForMembers p w.committed w.heap w.count w.threads w.block_count a.owners.left (a.owners.openings d) o d
      (w.blocks d) h q more
      → WaitsForMembers p w.committed w.heap w.count (all_behind w (w.blocks b)).threads w.block_count after.left
      (a.owners.openings d) o d (w.blocks d) h q more
  opener_waits o d h q more k = record {
    number = k.number;
    opener = k.opener;
    class = k.class;
    scope = k.scope;
    scene = k.scene;
    typed = k.typed;
    contract = k.contract;
    alike = k.alike;
    closes = k.closes;
    counted = k.counted;
    roles = λ n l. role_as ((w.blocks d).first + n) (is_member (w.blocks b) ((w.blocks d).first + n)) ∙ k.roles n l;
    ended = λ n l e.
        let before = was_ended ((w.blocks d).first + n) (is_member (w.blocks b) ((w.blocks d).first + n)) refl e in
        subst (λ x. KeepsOwning p w.committed w.heap
        (scene_at (a.owners.openings d) (w.blocks d).team ((w.blocks d).low +ℤ pos n)) (w.blocks d).team.shared.one.after
        (left_if x ((w.blocks d).first + n))) (sym before.1) (k.ended n l before.0);
  }

  -- the opener of a block doesn't stand at the barrier
  opener_stays : (o d : ℕ) (h : Frame) (hs : List Frame) (more : List Task) → (w.threads o).frames ≡ h ∷ hs
      → h.tasks ≡ Stand (AtClose d) ∷ more → (x : Bool) → is_member (w.blocks b) o ≡ x → (thread_at x o).frames ≡ h ∷ hs
  opener_stays o d h hs more is' t false e = is'
  opener_stays o d h hs more is' t true e =
      let tasks : Stand (AtLeave barrier (stands o e).span) ∷ (stands o e).rest ≡ Stand (AtClose d) ∷ more =
      sym (stands o e).stands ∙ (ap (λ z. z.tasks) (first_same (stands o e).frame h [] hs (sym (stands o e).stack ∙ is')) ∙ t) in
      absurd (cc tasks)

  member_runs : (j d : ℕ) (position : ℤ) → (w.threads j).role ≡ MemberOf d position
      → MemberRuns p w.committed w.heap w.count w.threads (a.owners.left j) (a.owners.openings d) j d (w.blocks d) position
      (a.owners.runs j)
      → (x : Bool) (e : is_member (w.blocks b) j ≡ x) → is_member (w.blocks b) j ≡ x
      → MemberRuns p w.committed w.heap w.count (all_behind w (w.blocks b)).threads (left_if x j) (a.owners.openings d) j d
      (w.blocks d) position (run_at j x e)
  member_runs j d position is' k false e e' = record {
    opener = k.opener;
    frame = k.frame;
    below = k.below;
    rest = k.rest;
    stack = opener_stays (w.blocks d).opener d k.frame k.below k.rest k.stack k.waits
        (is_member (w.blocks b) (w.blocks d).opener) refl;
    waits = k.waits;
    number = k.number;
    less = k.less;
    thread = k.thread;
    place = k.place;
    member = subst (λ x. AtBottom (IsMember (a.owners.openings d) (w.blocks d) position) (thread_at x j).frames
        (a.owners.runs j)) (sym e') k.member;
    arrived = λ h q qs other at others is'' has t.
        k.arrived h q qs other at others (subst (λ x. (thread_at x j).frames ≡ h ∷ []) e' is'') has t;
  }
  member_runs j d position is' k true e e' = record {
    opener = k.opener;
    frame = k.frame;
    below = k.below;
    rest = k.rest;
    stack = opener_stays (w.blocks d).opener d k.frame k.below k.rest k.stack k.waits
        (is_member (w.blocks b) (w.blocks d).opener) refl;
    waits = k.waits;
    number = k.number;
    less = k.less;
    thread = k.thread;
    place = k.place;
    member = subst (λ x. AtBottom (IsMember (a.owners.openings d) (w.blocks d) position) (thread_at x j).frames
        ((done j e).run ∷ [])) (sym e')
        (subst (λ fs. AtBottom (IsMember (a.owners.openings d) (w.blocks d) position) fs ((done j e).run ∷ []))
        (sym (frames_then j e))
        (member_moves (stands j e).frame (settled (goes_on (stands j e).frame (stands j e).rest)) (own j e).run (done j e).run
        (still j e) ((done j e).body ∙ (goes j e).body) (a.owners.openings d) (w.blocks d) position [] []
        (subst (λ rs. AtBottom (IsMember (a.owners.openings d) (w.blocks d) position) ((stands j e).frame ∷ []) rs)
        (own j e).has_runs (subst (λ fs. AtBottom (IsMember (a.owners.openings d) (w.blocks d) position) fs (a.owners.runs j))
        (stands j e).stack k.member))));
    arrived = λ h q qs other at others is'' has t. absurd (not_leaving
        (standing_in p (stands j e).frame.class (done j e).run.body (done j e).run.outer) (done j e).run.inner
        (done j e).run.scope (done j e).run.given (done j e).run.stack other at others
        (subst (λ z. TasksSay (standing_in p (stands j e).frame.class (done j e).run.body (done j e).run.outer)
        (done j e).run.inner (done j e).run.scope (done j e).run.given (done j e).run.stack z)
        (ap (λ z. z.tasks) (first_same (settled (goes_on (stands j e).frame (stands j e).rest)) h [] []
        (sym (frames_then j e) ∙ subst (λ x. (thread_at x j).frames ≡ h ∷ []) e' is'')) ∙ t) (says_then j e)));
  }

  left_behind : Account p (all_behind w (w.blocks b))
  left_behind = record {
    owners = after;
    threads = record {
      frames = λ j l. frames_at j l (is_member (w.blocks b) j) refl;
      live = λ j h. a.threads.live j (was_live j (is_member (w.blocks b) j) refl h);
    };
    sums = sums_less w.heap w.state w.committed (total a.owners w.count (suc w.heap.count))
        (total after w.count (suc w.heap.count)) (λ q. let l = less q in omega (arith, l)) a.sums;
    locks = record {
      held = λ j l class x h. a.locks.held j l class x
          (let k = locks_less_at j class x (is_member (w.blocks b) j) refl in omega (arith, k, h));
      threads = λ j l class x. locks_at j l class x (is_member (w.blocks b) j);
      objects_have_none = a.locks.objects_have_none;
    };
    objects = a.objects;
    roles = λ j l. roles_at j l (is_member (w.blocks b) j) refl;
    blocks = record {
      openers = λ o l h hs q qs d more is' has t.
          let before = waits_apart o d h hs more (is_member (w.blocks b) o) refl is' t in
          opener_waits o d h q more (a.blocks.openers o l h hs q qs d more before.0
          (runs_apart o (is_member (w.blocks b) o) refl before.1 (q ∷ qs) has) t);
      members = λ j l d position is' live.
          let role' = sym (role_as j (is_member (w.blocks b) j)) ∙ is' in
          member_runs j d position role'
          (a.blocks.members j l d position role' (was_live j (is_member (w.blocks b) j) refl live))
          (is_member (w.blocks b) j) refl refl;
    };
    mail = record {
      known = λ j l d position is'. known_at j l d position (sym (role_as j (is_member (w.blocks b) j)) ∙ is')
          (is_member (w.blocks b) j) refl;
      there = λ j l d position is' label some was.
          a.mail.there j l d position (sym (role_as j (is_member (w.blocks b) j)) ∙ is') label
          (receives_still j label (is_member (w.blocks b) j) refl some) was;
    };
  }
    where
      frames_at : (j : ℕ) → j < w.count → (x : Bool) (e : is_member (w.blocks b) j ≡ x)
          → AreRunsOf p w.committed w.heap (thread_at x j).frames (run_at j x e)
      frames_at j l false e = a.threads.frames j l
      frames_at j l true e = subst (λ fs. AreRunsOf p w.committed w.heap fs ((done j e).run ∷ [])) (sym (frames_then j e))
          ((done j e).fits, tt)

      locks_less_at : (j : ℕ) (class : Name) (x : ℕ) (t : Bool) (e : is_member (w.blocks b) j ≡ t)
          → all_of (run_at j t e) (OfLock class x) ≤ all_of (a.owners.runs j) (OfLock class x)
      locks_less_at j class x false e = omega arith
      locks_less_at j class x true e =
          let k = run_less j e (OfLock class x) in
          let m = part_less ((w.blocks b).low +ℤ pos (number j e).0) (here j e) (OfLock class x) in
          let z = no_lock class x in omega (arith, k, m, z)

      locks_at : (j : ℕ) → j < w.count → (class : Name) (x : ℕ) (t : Bool)
          → left_if t j (OfLock class x) + carried_by (a.owners.mail j) (OfLock class x) ≡ 0
      locks_at j l class x false = a.locks.threads j l class x
      locks_at j l class x true = let z = a.locks.threads j l class x in omega (arith, z)

      roles_at : (j : ℕ) → j < w.count → (x : Bool) (e : is_member (w.blocks b) j ≡ x)
          → RoleFits p w.committed w.heap w.state j (thread_at x j).role (thread_at x j).frames (run_at j x e)
      roles_at j l false e = a.roles j l
      roles_at j l true e = subst (λ z. RoleFits p w.committed w.heap w.state j z (frames_behind (w.threads j).frames)
          ((done j e).run ∷ [])) (sym (role_of j e)) tt

      known_at : (j : ℕ) → j < w.count → (d : ℕ) (position : ℤ) → (w.threads j).role ≡ MemberOf d position
          → (x : Bool) → is_member (w.blocks b) j ≡ x
          → TasksExchange (IsKnown (a.owners.messages d)) (IsKnown (a.owners.messages d)) (bottom_tasks (thread_at x j).frames)
      known_at j l d position is' false e = a.mail.known j l d position is'
      known_at j l d position is' true e =
          exchanges j e (IsKnown (a.owners.messages d)) (IsKnown (a.owners.messages d)) (a.mail.known j l d position is')

      receives_still : (j : ℕ) (label : Name) (x : Bool) → is_member (w.blocks b) j ≡ x
          → (ReceivesNone label (thread_at x j).frames → ⊥) → ReceivesNone label (w.threads j).frames → ⊥
      receives_still j label false e some none = some none
      receives_still j label true e some none =
          some (exchanges j e (λ n. Unit {0}) (λ n. same_name label n.label ≡ false) none)

  not_wrong : unmet_shared (sight_of w.heap f) (contract_scene f) (w.blocks b).team.variable (w.blocks b).low (w.blocks b).high
      barrier.shared.each_after ≡ AllMet
  not_wrong = met p w a sound framed i inside f stack b spot role barrier span rest is shares owned most

  pub went : Kept p (needs_met (unmet_shared (sight_of w.heap f) (contract_scene f) (w.blocks b).team.variable (w.blocks b).low
      (w.blocks b).high barrier.shared.each_after) check.BarrierEnsures (Result.Went (all_behind w (w.blocks b))))
  went = subst (λ o. Kept p (needs_met o check.BarrierEnsures (Result.Went (all_behind w (w.blocks b))))) (sym not_wrong)
      left_behind

pub leave_keeps : (p : Program) (w : World) (a : Account p w) → HeapFits p w.heap → PredicatesFit p w.heap → (i : ℕ)
    → i < w.count → (f : Frame) → (w.threads i).frames ≡ f ∷ [] → (b : ℕ) (spot : ℤ) → (w.threads i).role ≡ MemberOf b spot
    → (barrier : Barrier) (span : Span) (rest : List Task) → f.tasks ≡ Stand (AtLeave barrier span) ∷ rest
    → ((j : ℕ) → is_member (w.blocks b) j ≡ true → frames_leave barrier.place (w.threads j).frames ≡ true → LeavesAt w j barrier)
    → (mode : Mode) → Kept p (act p w mode i)
leave_keeps p w a sound framed i inside f stack b spot role barrier span rest is each mode =
    by_run p w a i inside f [] stack mode (λ r rs e fits.
    (subst (λ ts. Kept p (act_tasks p w i f [] mode ts)) (sym is)
    (subst (λ z. Kept p (as_member p w i f [] z [] check.BarrierEnsures span
    (λ block position. act_leave p w i f [] (w.blocks block) barrier))) (sym role)
    (by_test (all_leave w (w.blocks b) barrier.place) refl))))
  where
    by_test : (x : Bool) → all_leave w (w.blocks b) barrier.place ≡ x
        → Kept p (waits_unless x (needs_met (unmet_shared (sight_of w.heap f) (contract_scene f) (w.blocks b).team.variable
        (w.blocks b).low (w.blocks b).high barrier.shared.each_after) check.BarrierEnsures
        (Result.Went (all_behind w (w.blocks b)))))
    by_test true e = went p w a sound framed i inside f stack b spot role barrier span rest is e each
    by_test false e = tt
