-- The label of a commit: what the lock invariant asks for goes from the thread to the lock, and the token is gone.
use Rattle.std.proofs.Common.{◌≡◌, ℕ, suc, ◌+◌, ◌≤◌, ◌<◌, Bool, true, false, if◌then◌else◌, Some, None, List, [], ◌∷◌, refl, ap, sym, subst, ◌∙◌, arith}
use Rattle.std.specs.Prelude.{nat_eq, not}
use Rattle.std.proofs.lemmas.Option.{same_Some}
use Rattle.pv_base.specs.declared.Name.{Name}
use Rattle.pv_base.specs.declared.Span.{Span}
use Rattle.pv_ast.specs.declared.Token.TheVariants as token
use Rattle.pv_picks.specs.declared.check.Check.TheVariants as check
use Rattle.pv_picks.specs.Plain.Core.{Formula, Commit, Program}
use Rattle.pv_picks.specs.Plain.Members.{invariant_of}
use Rattle.pv_picks.specs.Formulas.Heaps.{at_number}
use Rattle.pv_picks.specs.Formulas.Meeting.{found_met}
use Rattle.pv_picks.specs.Judge.States.{Resource, OfToken, OfLock}
use Rattle.pv_picks.specs.Machine.Tasks.{AtAction, Task, Stand}
use Rattle.pv_picks.specs.Machine.Frames.{Frame, pops, settled, outer_scene}
use Rattle.pv_picks.specs.Machine.Worlds.{World, Mode, with_frames, with_committed_object, has_no_frame}
use Rattle.pv_picks.specs.Machine.Steps.{Result, needs, act_commit, keeps_invariant, act_tasks, act}
use Rattle.pv_picks.proofs.Sames.{naturals_same}
use Rattle.account_formulas.specs.Owning.{KeepsOwning}
use Rattle.account_formulas.specs.Growing.{HeapFits}
use Rattle.account_formulas.specs.Gaining.{PredicatesFit}
use Rattle.account_formulas.proofs.Basics.{nat_self}
use Rattle.account.specs.Frames as account
use Rattle.account.specs.Frames.{AreRunsOf, all_of, amounts_of}
use Rattle.account.specs.Owners.{Owners, total, without_locks, with_runs, SumsFit, LocksFit}
use Rattle.account.specs.Objects.{ObjectsFit}
use Rattle.account.specs.Accounts.{Account, Kept}
use Rattle.account.specs.Going.{Goes}
use Rattle.account.proofs.LocalWork.{settled_goes}
use Rattle.account.proofs.Sums.{runs_in_total, total_with_runs, total_with_guard}
use Rattle.account.proofs.Stepping.{own_most, by_run, is_not_null}
use Rattle.account_threads.specs.Parts.{InvariantsFit}
use Rattle.account.proofs.Locks.{locks_less}
use Rattle.account_threads.proofs.Acting.{object_on, allowed, acts_on_class}
use Rattle.account_threads.proofs.Committing.{CommitGoes, commits_go}
use Rattle.account_threads.proofs.Going.{families_go}
use Rattle.account_threads.proofs.Flagged.{goes_on_flagged, runs_flagged, families_flagged}
use Rattle.account.proofs.Moving.{Families, families_of, owners_with}
use Rattle.account_threads.proofs.Families.{object_is, object_below}

-- one object more is committed
pub rises : (flags : ℕ → Bool) (object x : ℕ) → flags x ≡ true → at_number object true flags x ≡ true
rises flags object x is = by (nat_eq x object)
  where
    by : (b : Bool) → (if b then true else flags x) ≡ true
    by true = refl
    by false = is

pub itself : (flags : ℕ → Bool) (object : ℕ) → at_number object true flags object ≡ true
itself flags object = ap (λ b. if b then true else flags object) (nat_self object)

module _ (p : Program) (w : World) (a : Account p w) (sound : HeapFits p w.heap) (framed : PredicatesFit p w.heap)
    (i : ℕ) (f : Frame) (below : List Frame) (stack : (w.threads i).frames ≡ f ∷ below)
    (inside : i < w.count) (class : Name) (span : Span) (rest : List Task)
    (is : f.tasks ≡ Stand (AtAction Commit class span) ∷ rest) (inv : Formula) (has : invariant_of p class ≡ Some inv)
    (r : account.Run) (rs : List account.Run) (has_runs : a.owners.runs i ≡ r ∷ rs)
    (fits : AreRunsOf p (at_number (object_on f) true w.committed) w.heap (f ∷ below) (r ∷ rs))
    (g : CommitGoes p (at_number (object_on f) true w.committed) w.heap f r class inv rest) where
  -- the flags after it
  abbrev flags : ℕ → Bool
  flags = at_number (object_on f) true w.committed

  raises : (x : ℕ) → w.committed x ≡ true → flags x ≡ true
  raises x is = rises w.committed (object_on f) x is

  done : Goes p flags w.heap (settled (pops 1 f rest)) g.run
  done = settled_goes p flags w.heap sound framed (pops 1 f rest) g.run g.fits g.says
      (λ q. let most = own_most p w a i inside (r ∷ rs) has_runs q in let less = g.less q in omega (arith, most, less))

  abbrev after : Owners
  after = owners_with a.owners i (done.run ∷ rs) a.owners.promise
      (at_number (object_on f) (without_locks g.part) a.owners.guard)

  class_is : w.heap.class (object_on f) ≡ Some class
  class_is = object_is w.heap class (object_on f) g.object
      (acts_on_class p flags w.heap f r fits.0 Commit class span rest is)

  there : object_on f < suc w.heap.count
  there = object_below p w.heap sound class (object_on f) class_is

  less_total : (q : Resource) → total after w.count (suc w.heap.count) q ≤ total a.owners w.count (suc w.heap.count) q
  less_total q =
      let one = total_with_runs a.owners w.count (suc w.heap.count) q i inside (done.run ∷ rs) in
      let two = total_with_guard (with_runs a.owners i (done.run ∷ rs)) w.count (suc w.heap.count) q (object_on f) there
      (without_locks g.part) in
      let same = ap (λ x. all_of x q) has_runs in
      let less = g.less q in let work = done.less q in let cut_off = locks_less g.part q in
      omega (arith, one, two, same, less, work, cut_off)

  less_at : (j : ℕ) (q : Resource) (b : Bool) → nat_eq j i ≡ b
      → all_of (if b then done.run ∷ rs else a.owners.runs j) q ≤ all_of (a.owners.runs j) q
  less_at j q true e =
      let same = ap (λ x. all_of (a.owners.runs x) q) (naturals_same j i e) in
      let own = ap (λ x. all_of x q) has_runs in let less = g.less q in let work = done.less q in
      omega (arith, same, own, less, work)
  less_at j q false e = omega arith

  -- the token is gone
  gone : 1 ≤ total after w.count (suc w.heap.count) (OfToken token.Uncommitted class (object_on f)) → ⊥
  gone more =
      let one = total_with_runs a.owners w.count (suc w.heap.count) (OfToken token.Uncommitted class (object_on f)) i inside
      (done.run ∷ rs) in
      let two = total_with_guard (with_runs a.owners i (done.run ∷ rs)) w.count (suc w.heap.count)
      (OfToken token.Uncommitted class (object_on f)) (object_on f) there (without_locks g.part) in
      let same = ap (λ x. all_of x (OfToken token.Uncommitted class (object_on f))) has_runs in
      let free = g.free in let work = done.less (OfToken token.Uncommitted class (object_on f)) in
      let cut_off = locks_less g.part (OfToken token.Uncommitted class (object_on f)) in
      let most = a.sums.most (OfToken token.Uncommitted class (object_on f)) in
      omega (arith, one, two, same, free, work, cut_off, most, more)

  sums : SumsFit w.heap w.state flags (total after w.count (suc w.heap.count))
  sums = record {
    most = λ q. let less = less_total q in let most = a.sums.most q in omega (arith, less, most);
    placed = λ q some. a.sums.placed q (let less = less_total q in omega (arith, less, some));
    idle = λ c x some. a.sums.idle c x (let less = less_total (OfToken token.Idle c x) in omega (arith, less, some));
    running = λ c x some. a.sums.running c x (let less = less_total (OfToken token.Running c x) in omega (arith, less, some));
    uncommitted = λ c x some. uncommitted c x some (nat_eq x (object_on f)) refl;
  }
    where
      uncommitted : (c : Name) (x : ℕ) → 1 ≤ total after w.count (suc w.heap.count) (OfToken token.Uncommitted c x)
          → (b : Bool) → nat_eq x (object_on f) ≡ b → (if b then true else w.committed x) ≡ false
      uncommitted c x some false e =
          a.sums.uncommitted c x (let less = less_total (OfToken token.Uncommitted c x) in omega (arith, less, some))
      uncommitted c x some true e =
          let same = naturals_same x (object_on f) e in
          let placed : w.heap.class x ≡ Some c = a.sums.placed (OfToken token.Uncommitted c x)
          (let less = less_total (OfToken token.Uncommitted c x) in omega (arith, less, some)) in
          let one : c ≡ class = same_Some c class
          (sym placed ∙ subst (λ z. w.heap.class z ≡ Some class) (sym same) class_is) in
          let both : OfToken token.Uncommitted c x ≡ OfToken token.Uncommitted class (object_on f) =
          ap (λ z. OfToken token.Uncommitted z x) one ∙ ap (OfToken token.Uncommitted class) same in
          absurd (gone (subst (λ z. 1 ≤ total after w.count (suc w.heap.count) z) both some))

  locks : LocksFit w.count (suc w.heap.count) w.holder after
  locks = record {
    held = λ j k d x more.
        a.locks.held j k d x (let less = less_at j (OfLock d x) (nat_eq j i) refl in omega (arith, less, more));
    threads = a.locks.threads;
    objects_have_none = λ y k d x. none y k d x (nat_eq y (object_on f)) refl;
  }
    where
      none : (y : ℕ) → y < suc w.heap.count → (d : Name) (x : ℕ) (b : Bool) → nat_eq y (object_on f) ≡ b
          → a.owners.promise y (OfLock d x) + (if b then without_locks g.part else a.owners.guard y) (OfLock d x) ≡ 0
      none y k d x true e = let was = a.locks.objects_have_none y k d x in omega (arith, was)
      none y k d x false e = a.locks.objects_have_none y k d x

  objects : ObjectsFit p flags w.heap w.state w.holder after.promise after.guard
  objects = record {
    promises = λ x c m k at named ended.
        goes_on_flagged p w.committed flags raises w.heap (outer_scene x [] []) m.contract.after (a.owners.promise x)
        (a.objects.promises x c m k at named ended);
    guards = λ x d j k at named flag free. guarded x d j k at named (nat_eq x (object_on f)) refl flag free;
  }
    where
      guarded : (x : ℕ) (d : Name) (j : Formula) → x < suc w.heap.count → w.heap.class x ≡ Some d → invariant_of p d ≡ Some j
          → (b : Bool) → nat_eq x (object_on f) ≡ b → (if b then true else w.committed x) ≡ true → w.holder x ≡ None
          → KeepsOwning p flags w.heap (outer_scene x [] []) j (if b then without_locks g.part else a.owners.guard x)
      guarded x d j k at named false e flag free =
          goes_on_flagged p w.committed flags raises w.heap (outer_scene x [] []) j (a.owners.guard x)
          (a.objects.guards x d j k at named flag free)
      guarded x d j k at named true e flag free =
          let same = naturals_same x (object_on f) e in
          let one : class ≡ d = same_Some class d (sym class_is ∙ subst (λ z. w.heap.class z ≡ Some d) same at) in
          let two : inv ≡ j = same_Some inv j (sym has ∙ subst (λ z. invariant_of p z ≡ Some j) (sym one) named) in
          subst (λ z. KeepsOwning p flags w.heap (outer_scene z [] []) j (without_locks g.part)) (sym same)
          (subst (λ z. KeepsOwning p flags w.heap (outer_scene (object_on f) [] []) z (without_locks g.part)) two g.owns)

  families : Families p flags w.heap w.count
      (at_number i (record { role = (w.threads i).role; frames = settled (pops 1 f rest) ∷ below }) w.threads) w.block_count
      w.blocks w.state after
  families =
      families_go p flags w.heap sound framed f r fits.0 Commit class span rest is g.run g.past g.body done w.count w.threads
      w.block_count w.blocks w.state a.owners i below stack rs has_runs fits.1
      a.owners.promise (at_number (object_on f) (without_locks g.part) a.owners.guard)
      (families_flagged p w.committed flags raises w.heap w.count w.threads w.block_count w.blocks w.state a.owners
      (families_of p w a))

  accounted : Account p (with_committed_object (with_frames w i (settled (pops 1 f rest) ∷ below)) (object_on f))
  accounted = record {
    owners = after;
    threads = families.threads_run;
    sums = sums;
    locks = locks;
    objects = objects;
    roles = families.roles;
    blocks = families.blocks_fit;
    mail = families.mail;
  }

-- a thread that stands at a commit
pub commit_keeps : (p : Program) (w : World) (a : Account p w) → HeapFits p w.heap → PredicatesFit p w.heap
    → InvariantsFit p w.heap → (i : ℕ) (f : Frame) (below : List Frame) (class : Name) (span : Span) (rest : List Task)
    → (w.threads i).frames ≡ f ∷ below → f.tasks ≡ Stand (AtAction Commit class span) ∷ rest
    → (mode : Mode) → Kept p (act p w mode i)
commit_keeps p w a sound framed parts i f below class span rest stack is mode =
    by_run p w a i inside f below stack mode by_runs
  where
    inside : i < w.count
    inside = a.threads.live i (ap has_no_frame stack)

    -- the world after it
    next : World
    next = with_committed_object (with_frames w i (settled (pops 1 f rest) ∷ below)) (object_on f)

    by_runs : (r : account.Run) (rs : List account.Run) → a.owners.runs i ≡ r ∷ rs
        → AreRunsOf p w.committed w.heap (f ∷ below) (r ∷ rs) → Kept p (act_tasks p w i f below mode f.tasks)
    by_runs r rs e fits =
        let named = allowed p w.committed w.heap f r fits.0 Commit class span rest is in
        let after = runs_flagged p w.committed (at_number (object_on f) true w.committed) (rises w.committed (object_on f)) w.heap
        (f ∷ below) (r ∷ rs) fits in
        let g = commits_go p (at_number (object_on f) true w.committed) w.heap sound framed parts f r after.0
        (itself w.committed (object_on f))
        (λ q. let most = own_most p w a i inside (r ∷ rs) e q in omega (arith, most)) class span rest is named.0 named.1 in
        let much = g.much in
        let not_yet : w.committed (object_on f) ≡ false = a.sums.uncommitted class (object_on f)
        (let own = runs_in_total a.owners w.count (suc w.heap.count) (OfToken token.Uncommitted class (object_on f)) i inside in
        let same = ap (λ x. all_of x (OfToken token.Uncommitted class (object_on f))) e in omega (arith, own, same, much)) in
        subst (λ ts. Kept p (act_tasks p w i f below mode ts)) (sym is)
        (subst (λ b. Kept p (needs b check.Null span (act_commit p w i f below (invariant_of p class) (object_on f) span rest)))
        (sym (is_not_null (object_on f) g.object))
        (subst (λ o. Kept p (act_commit p w i f below o (object_on f) span rest)) (sym named.1)
        (subst (λ b. Kept p (needs (not b) check.NotUncommitted span
        (keeps_invariant p w i f below named.0 (object_on f) span next))) (sym not_yet)
        (subst (λ m. Kept p (needs (found_met m) check.LockInvariant span (Result.Went next))) (sym g.met)
        (accounted p w a sound framed i f below stack inside class span rest is named.0 named.1 r rs e after g)))))
