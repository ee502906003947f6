-- The label of a lock: what the free lock guards goes to the thread.
use Rattle.std.proofs.Common.{◌≡◌, ℕ, zero, suc, ◌+◌, ◌≤◌, ◌<◌, Bool, true, false, if◌then◌else◌, ◌&&◌, Option, Some, None, List, [], ◌∷◌, refl, ap, sym, subst, ◌∙◌, arith}
use Rattle.std.specs.Prelude.{nat_eq, is_none, drop}
use Rattle.std.proofs.lemmas.Option.{none-some}
use Rattle.pv_base.specs.declared.Name.{Name}
use Rattle.pv_base.specs.declared.Span.{Span}
use Rattle.pv_ast.specs.declared.Token.TheVariants as token
use Rattle.pv_base.specs.Names.{same_name}
use Rattle.pv_fraction.specs.Amounts.{whole}
use Rattle.pv_picks.specs.declared.check.Check.TheVariants as check
use Rattle.pv_picks.specs.Plain.Core.{Formula, Lock, Program}
use Rattle.pv_picks.specs.Plain.Members.{invariant_of}
use Rattle.pv_picks.specs.Formulas.Heaps.{at_number}
use Rattle.pv_picks.specs.Formulas.Meeting.{IsMet, found_met}
use Rattle.pv_picks.specs.Judge.States as states
use Rattle.pv_picks.specs.Judge.States.{Resource, OfToken, OfLock, same_resource}
use Rattle.pv_picks.specs.Judge.Permissions.{add_lock}
use Rattle.pv_picks.specs.Judge.Inhaling.{inhale}
use Rattle.pv_picks.specs.Judge.Rows.{bind_on}
use Rattle.pv_picks.specs.Judge.Judging.{formula_of}
use Rattle.pv_picks.specs.Machine.Tasks.{AtAction, Task, Stand}
use Rattle.pv_picks.specs.Machine.Frames.{Frame, pops, settled, only_now, outer_scene}
use Rattle.pv_picks.specs.Machine.Worlds.{World, Mode, with_frames, with_holder, has_no_frame}
use Rattle.pv_picks.specs.Machine.Steps.{Result, needs, waits_unless, act_lock, keeps_invariant, act_tasks, act}
use Rattle.pv_picks.proofs.Sames.{naturals_same, resources_same}
use Rattle.account_formulas.specs.Runs.{truly, RestNeverFails}
use Rattle.account_formulas.specs.Owning.{IsPlaced, Owns, KeepsOwning}
use Rattle.account_formulas.specs.Growing.{HeapFits}
use Rattle.account_formulas.specs.Gaining.{PredicatesFit}
use Rattle.account_formulas.proofs.Basics.{only}
use Rattle.account.specs.Running.{ran}
use Rattle.account.specs.Frames as account
use Rattle.account.specs.Frames.{AreRunsOf, all_of, amounts_of}
use Rattle.account.specs.Owners.{Owners, sum_below, nothing, total, without_locks, at_thread, at_object, with_runs, SumsFit, LocksFit}
use Rattle.account.specs.Objects.{ObjectsFit}
use Rattle.account.specs.Accounts.{Account, Kept}
use Rattle.account.specs.Going.{Goes}
use Rattle.account.proofs.LocalWork.{settled_goes}
use Rattle.account.proofs.Sums.{part_of, total_with_runs, total_with_guard}
use Rattle.account.proofs.Stepping.{by_run, is_not_null}
use Rattle.account_threads.specs.Parts.{InvariantsFit}
use Rattle.account.proofs.Locks.{locks_less, owns_locked}
use Rattle.account.proofs.Later.{keeps_same}
use Rattle.account_threads.proofs.OfObject.{by_test, object_met}
use Rattle.account_threads.proofs.Acting.{object_on, allowed, acts_on_class}
use Rattle.account_threads.proofs.Locking.{LockGoes, locks_go}
use Rattle.account_threads.proofs.Going.{families_go}
use Rattle.account.proofs.Moving.{Families, families_of, owners_with}
use Rattle.account_threads.proofs.Families.{object_is, object_below}

pub nothing_of : (n : ℕ) → (1 ≤ n → ⊥) → n ≡ 0
nothing_of zero h = refl
nothing_of (suc n) h = absurd (h (omega arith))

sum_none : (f : ℕ → ℕ) (n : ℕ) → ((i : ℕ) → i < n → f i ≡ 0) → sum_below f n ≡ 0
sum_none f zero h = refl
sum_none f (suc n) h =
    let one = h n (omega arith) in let two = sum_none f n (λ i l. h i (omega (arith, l))) in omega (arith, one, two)

-- of a lock of another object
other_lock : (d class : Name) (x y : ℕ) → nat_eq x y ≡ false → only (OfLock class y) whole (OfLock d x) ≡ 0
other_lock d class x y e = by (same_name d class)
  where
    by : (b : Bool) → (if b && nat_eq x y then whole else 0) ≡ 0
    by true = ap (λ z. if z then whole else 0) e
    by false = refl

-- the lock of an object that nobody holds is with nobody
pub no_lock : (p : Program) (w : World) (a : Account p w) (class : Name) (x : ℕ) → w.holder x ≡ None
    → total a.owners w.count (suc w.heap.count) (OfLock class x) ≡ 0
no_lock p w a class x free =
    let one = sum_none (λ j. at_thread a.owners j (OfLock class x)) w.count (λ j l.
    let runs = nothing_of (all_of (a.owners.runs j) (OfLock class x))
    (λ more. none-some j (sym free ∙ a.locks.held j l class x more)) in
    let lies = a.locks.threads j l class x in
    omega (arith, runs, lies)) in
    let two = sum_none (λ y. at_object a.owners y (OfLock class x)) (suc w.heap.count)
    (λ y l. a.locks.objects_have_none y l class x) in
    omega (arith, one, two)

module _ (p : Program) (w : World) (a : Account p w) (sound : HeapFits p w.heap) (framed : PredicatesFit p w.heap)
    (i : ℕ) (f : Frame) (below : List Frame) (stack : (w.threads i).frames ≡ f ∷ below)
    (inside : i < w.count) (class : Name) (span : Span) (rest : List Task)
    (is : f.tasks ≡ Stand (AtAction Lock class span) ∷ rest)
    (class_is : w.heap.class (object_on f) ≡ Some class) (free : w.holder (object_on f) ≡ None)
    (r : account.Run) (rs : List account.Run) (has_runs : a.owners.runs i ≡ r ∷ rs)
    (fits : AreRunsOf p w.committed w.heap (f ∷ below) (r ∷ rs))
    (g : LockGoes p w.committed w.heap f r class rest (without_locks (a.owners.guard (object_on f)))) where
  there : object_on f < suc w.heap.count
  there = object_below p w.heap sound class (object_on f) class_is

  -- what the thread and the lock have together
  both_most : (q : Resource) → all_of (r ∷ rs) q + a.owners.guard (object_on f) q
      ≤ total a.owners w.count (suc w.heap.count) q
  both_most q =
      let one = part_of (λ j. at_thread a.owners j q) w.count i inside in
      let two = part_of (λ y. at_object a.owners y q) (suc w.heap.count) (object_on f) there in
      let same = ap (λ x. all_of x q) has_runs in
      omega (arith, one, two, same)

  -- what is at the lock, and the lock
  abbrev lock : Resource
  lock = OfLock class (object_on f)

  most : (q : Resource) (b : Bool) → same_resource q lock ≡ b → amounts_of g.run q ≤ whole
  most q true e =
      let same = resources_same q (OfLock class (object_on f)) e in
      let zero' = ap (λ z. total a.owners w.count (suc w.heap.count) z) same ∙ no_lock p w a class (object_on f) free in
      let more = g.more q in let both = both_most q in let cut_off = locks_less (a.owners.guard (object_on f)) q in
      let at = ap (λ x. if x then whole else 0) e in
      omega (arith, zero', more, both, cut_off, at)
  most q false e =
      let more = g.more q in let both = both_most q in let cut_off = locks_less (a.owners.guard (object_on f)) q in
      let at = ap (λ x. if x then whole else 0) e in let sum = a.sums.most q in
      omega (arith, more, both, cut_off, at, sum)

  done : Goes p w.committed w.heap (settled (pops 1 f rest)) g.run
  done = settled_goes p w.committed w.heap sound framed (pops 1 f rest) g.run g.fits g.says
      (λ q. most q (same_resource q lock) refl)

  abbrev after : Owners
  after = owners_with a.owners i (done.run ∷ rs) a.owners.promise (at_number (object_on f) nothing a.owners.guard)

  -- no more is owned than before, and the lock
  more_total : (q : Resource) → total after w.count (suc w.heap.count) q
      ≤ total a.owners w.count (suc w.heap.count) q + only lock whole q
  more_total q =
      let one = total_with_runs a.owners w.count (suc w.heap.count) q i inside (done.run ∷ rs) in
      let two = total_with_guard (with_runs a.owners i (done.run ∷ rs)) w.count (suc w.heap.count) q (object_on f) there
      nothing in
      let same = ap (λ x. all_of x q) has_runs in
      let more = g.more q in let work = done.less q in
      let cut_off = locks_less (a.owners.guard (object_on f)) q in
      omega (arith, one, two, same, more, work, cut_off)

  sums : SumsFit w.heap w.state w.committed (total after w.count (suc w.heap.count))
  sums = record {
    most = λ q. at_most q (same_resource q lock) refl;
    placed = λ q some. placed q (same_resource q lock) refl some;
    idle = λ c x some. a.sums.idle c x (let more = more_total (OfToken token.Idle c x) in omega (arith, more, some));
    running = λ c x some. a.sums.running c x (let more = more_total (OfToken token.Running c x) in omega (arith, more, some));
    uncommitted =
        λ c x some. a.sums.uncommitted c x (let more = more_total (OfToken token.Uncommitted c x) in omega (arith, more, some));
  }
    where
      at_most : (q : Resource) (b : Bool) → same_resource q lock ≡ b → total after w.count (suc w.heap.count) q ≤ whole
      at_most q true e =
          let same = resources_same q (OfLock class (object_on f)) e in
          let zero' = ap (λ z. total a.owners w.count (suc w.heap.count) z) same ∙ no_lock p w a class (object_on f) free in
          let more = more_total q in let at = ap (λ x. if x then whole else 0) e in
          omega (arith, zero', more, at)
      at_most q false e =
          let more = more_total q in let at = ap (λ x. if x then whole else 0) e in let sum = a.sums.most q in
          omega (arith, more, at, sum)

      placed : (q : Resource) (b : Bool) → same_resource q lock ≡ b → 1 ≤ total after w.count (suc w.heap.count) q
          → IsPlaced w.heap q
      placed q true e some =
          subst (IsPlaced w.heap) (sym (resources_same q (OfLock class (object_on f)) e)) class_is
      placed q false e some =
          a.sums.placed q (let more = more_total q in let at = ap (λ x. if x then whole else 0) e in
          omega (arith, more, at, some))

  locks : LocksFit w.count (suc w.heap.count) (at_number (object_on f) (Some i) w.holder) after
  locks = record {
    held = λ j k d x more. held j k d x (nat_eq j i) refl more (nat_eq x (object_on f)) refl;
    threads = a.locks.threads;
    objects_have_none = λ y k d x. none y k d x (nat_eq y (object_on f)) refl;
  }
    where
      held : (j : ℕ) → j < w.count → (d : Name) (x : ℕ) (c : Bool) → nat_eq j i ≡ c
          → 1 ≤ all_of (if c then done.run ∷ rs else a.owners.runs j) (OfLock d x)
          → (b : Bool) → nat_eq x (object_on f) ≡ b → (if b then Some i else w.holder x) ≡ Some j
      held j k d x true own more true e = ap Some (sym (naturals_same j i own))
      held j k d x true own more false e =
          ap w.holder refl ∙ (a.locks.held i inside d x
          (let work = done.less (OfLock d x) in let had = g.more (OfLock d x) in
          let at = other_lock d class x (object_on f) e in let same = ap (λ z. all_of z (OfLock d x)) has_runs in
          omega (arith, work, had, at, same, more))
          ∙ ap Some (sym (naturals_same j i own)))
      held j k d x false own more true e =
          absurd (none-some j (sym free ∙ (ap w.holder (sym (naturals_same x (object_on f) e)) ∙ a.locks.held j k d x more)))
      held j k d x false own more false e = a.locks.held j k d x more

      none : (y : ℕ) → y < suc w.heap.count → (d : Name) (x : ℕ) (b : Bool) → nat_eq y (object_on f) ≡ b
          → a.owners.promise y (OfLock d x) + (if b then nothing else a.owners.guard y) (OfLock d x) ≡ 0
      none y k d x true e = let was = a.locks.objects_have_none y k d x in omega (arith, was)
      none y k d x false e = a.locks.objects_have_none y k d x

  objects : ObjectsFit p w.committed w.heap w.state (at_number (object_on f) (Some i) w.holder) after.promise after.guard
  objects = record {
    promises = a.objects.promises;
    guards = λ x d j k at named flag free. guarded x d j k at named flag (nat_eq x (object_on f)) free;
  }
    where
      guarded : (x : ℕ) (d : Name) (j : Formula) → x < suc w.heap.count → w.heap.class x ≡ Some d → invariant_of p d ≡ Some j
          → w.committed x ≡ true → (b : Bool) → (if b then Some i else w.holder x) ≡ None
          → KeepsOwning p w.committed w.heap (outer_scene x [] []) j (if b then nothing else a.owners.guard x)
      guarded x d j k at named flag false free' = a.objects.guards x d j k at named flag free'
      guarded x d j k at named flag true free' = absurd (cc free')

  families : Families p w.committed w.heap w.count
      (at_number i (record { role = (w.threads i).role; frames = settled (pops 1 f rest) ∷ below }) w.threads) w.block_count
      w.blocks w.state after
  families =
      families_go p w.committed w.heap sound framed f r fits.0 Lock class span rest is g.run g.past g.body done w.count w.threads
      w.block_count w.blocks w.state a.owners i below stack rs has_runs fits.1
      a.owners.promise (at_number (object_on f) nothing a.owners.guard) (families_of p w a)

  locked : Account p (with_holder (with_frames w i (settled (pops 1 f rest) ∷ below)) (object_on f) (Some i))
  locked = record {
    owners = after;
    threads = families.threads_run;
    sums = sums;
    locks = locks;
    objects = objects;
    roles = families.roles;
    blocks = families.blocks_fit;
    mail = families.mail;
  }

-- a thread that stands at a lock
pub lock_keeps : (p : Program) (w : World) (a : Account p w) → HeapFits p w.heap → PredicatesFit p w.heap
    → InvariantsFit p w.heap → (i : ℕ) (f : Frame) (below : List Frame) (class : Name) (span : Span) (rest : List Task)
    → (w.threads i).frames ≡ f ∷ below → f.tasks ≡ Stand (AtAction Lock class span) ∷ rest
    → (mode : Mode) → Kept p (act p w mode i)
lock_keeps p w a sound framed parts i f below class span rest stack is mode =
    by_run p w a i inside f below stack mode by_runs
  where
    inside : i < w.count
    inside = a.threads.live i (ap has_no_frame stack)

    -- the world after it
    next : World
    next = with_holder (with_frames w i (settled (pops 1 f rest) ∷ below)) (object_on f) (Some i)

    by_runs : (r : account.Run) (rs : List account.Run) → a.owners.runs i ≡ r ∷ rs
        → AreRunsOf p w.committed w.heap (f ∷ below) (r ∷ rs) → Kept p (act_tasks p w i f below mode f.tasks)
    by_runs r rs e fits =
        subst (λ ts. Kept p (act_tasks p w i f below mode ts)) (sym is)
        (by_test r.taken (nat_eq (object_on f) 0) _ _
        (subst (λ ts. RestNeverFails r.taken (λ maps. ran (truly maps) p r.body r.inner ts f.values r.state)) is fits.0.never)
        (λ z n. absurd (n.never [] check.Null span refl))
        (λ full n. by_test r.taken (r.state.committed class (object_on f)) _ _ n
        (λ known n.
        subst (λ b. Kept p (needs b check.Null span (act_lock p w i f below (invariant_of p class) (object_on f) span rest)))
        (sym (is_not_null (object_on f) full))
        (subst (λ o. Kept p (act_lock p w i f below o (object_on f) span rest)) (sym named.1)
        (by_holder full (fits.0.state.fits.knows class (object_on f) known) (w.holder (object_on f)) refl n)))
        (λ z n. absurd (n.never [] check.NotCommitted span refl))))
      where
        named : (j : Formula) × (invariant_of p class ≡ Some j)
        named = allowed p w.committed w.heap f r fits.0 Lock class span rest is

        by_holder : nat_eq (object_on f) 0 ≡ false → w.committed (object_on f) ≡ true
            → (h : Option ℕ) → w.holder (object_on f) ≡ h
            → RestNeverFails r.taken (λ maps. if nat_eq (states.amount_of r.state (OfLock class (object_on f))) 0 then
            formula_of (truly maps) (invariant_of p class) ((truly maps).failed check.LockInvariant span)
            (λ j. inhale (truly maps) (bind_on (object_on f)) j
            (add_lock (truly maps) class (object_on f) (ran (truly maps) p r.body false rest (drop 1 f.values)))) r.state
            else (truly maps).blocked)
            → Kept p (waits_unless (is_none h) (needs (w.committed (object_on f)) check.NotCommitted span
            (keeps_invariant p w i f below named.0 (object_on f) span next)))
        by_holder full flag (Some j) held n = tt
        by_holder full flag None held n =
            subst (λ b. Kept p (needs b check.NotCommitted span
            (keeps_invariant p w i f below named.0 (object_on f) span next))) (sym flag)
            (subst (λ m. Kept p (needs (found_met m) check.LockInvariant span (Result.Went next))) (sym met)
            (locked p w a sound framed i f below stack inside class span rest is class_is held r rs e fits g))
          where
            class_is : w.heap.class (object_on f) ≡ Some class
            class_is = object_is w.heap class (object_on f) full
                (acts_on_class p w.committed w.heap f r fits.0 Lock class span rest is)

            there : object_on f < suc w.heap.count
            there = object_below p w.heap sound class (object_on f) class_is

            owns : Owns p w.committed (only_now w.heap) (outer_scene (object_on f) [] []) named.0
                (a.owners.guard (object_on f))
            owns = a.objects.guards (object_on f) class named.0 there class_is named.1 flag held w.heap
                (keeps_same (a.owners.guard (object_on f)) w.heap)

            met : IsMet (only_now w.heap) (outer_scene (object_on f) [] []) named.0
            met = object_met p w.committed w.heap sound class (object_on f) named.0 (parts.good class named.0 named.1)
                (a.owners.guard (object_on f)) owns

            both : (q : Resource) → all_of (r ∷ rs) q + a.owners.guard (object_on f) q
                ≤ total a.owners w.count (suc w.heap.count) q
            both q =
                let one = part_of (λ j. at_thread a.owners j q) w.count i inside in
                let two = part_of (λ y. at_object a.owners y q) (suc w.heap.count) (object_on f) there in
                let same = ap (λ x. all_of x q) e in
                omega (arith, one, two, same)

            empty : states.amount_of r.state (OfLock class (object_on f)) ≡ 0
            empty = let k = both (OfLock class (object_on f)) in
                let z = no_lock p w a class (object_on f) held in omega (arith, k, z)

            g : LockGoes p w.committed w.heap f r class rest (without_locks (a.owners.guard (object_on f)))
            g = locks_go p w.committed w.heap sound framed f r fits.0 class span rest is named.0
                (parts.good class named.0 named.1) class_is (without_locks (a.owners.guard (object_on f)))
                (owns_locked p w.committed (only_now w.heap) (outer_scene (object_on f) [] []) named.0
                (a.owners.guard (object_on f)) owns)
                (λ q. let k = both q in let cut_off = locks_less (a.owners.guard (object_on f)) q in
                let most = a.sums.most q in omega (arith, k, cut_off, most))
                (let k = both (OfLock class (object_on f)) in
                let z = no_lock p w a class (object_on f) held in omega (arith, k, z))
                (subst (λ o. RestNeverFails r.taken (λ maps. formula_of (truly maps) o
                ((truly maps).failed check.LockInvariant span)
                (λ j. inhale (truly maps) (bind_on (object_on f)) j
                (add_lock (truly maps) class (object_on f) (ran (truly maps) p r.body false rest (drop 1 f.values)))) r.state))
                named.1
                (subst (λ z. RestNeverFails r.taken (λ maps. if nat_eq z 0 then
                formula_of (truly maps) (invariant_of p class) ((truly maps).failed check.LockInvariant span)
                (λ j. inhale (truly maps) (bind_on (object_on f)) j
                (add_lock (truly maps) class (object_on f) (ran (truly maps) p r.body false rest (drop 1 f.values)))) r.state
                else (truly maps).blocked)) empty n))
