-- A thread of an accounted world goes on with other frames and runs, over a later heap in which it may own what is new: the world
-- after it is accounted for.
use Rattle.std.proofs.Common.{◌≡◌, ◌+◌, ◌≤◌, ◌<◌, ℕ, zero, suc, Bool, true, false, if◌then◌else◌, Some, None, List, [], refl, ap, sym, subst, arith}
use Rattle.std.specs.Prelude.{nat_eq, nat_le}
use Rattle.pv_base.specs.declared.Name.{Name}
use Rattle.pv_ast.specs.declared.Token.TheVariants as token
use Rattle.pv_fraction.specs.Amounts.{whole}
use Rattle.pv_picks.specs.Plain.Core.{Formula, Method, Program}
use Rattle.pv_picks.specs.Plain.Members.{run_of, invariant_of}
use Rattle.pv_picks.specs.Formulas.Heaps.{Heap}
use Rattle.pv_picks.specs.Judge.States.{Resource, OfToken, OfLock}
use Rattle.pv_picks.specs.Machine.Frames.{Frame, outer_scene}
use Rattle.pv_picks.specs.Machine.Worlds.{ThreadState, World, with_frames, with_heap}
use Rattle.pv_picks.proofs.Sames.{naturals_same}
use Rattle.account_formulas.specs.Owning.{Amounts, IsPlaced, KeepsHeld, KeepsOwning}
use Rattle.account_formulas.proofs.Basics.{nat_self, at_most, is_at_most}
use Rattle.account_formulas.proofs.Picking.{beyond_it}
use Rattle.account.specs.Frames.{Run, all_of, AreRunsOf}
use Rattle.account.specs.Owners.{Owners, nothing, sum_below, lies_at, at_thread, at_object, total, SumsFit, LocksFit}
use Rattle.account.specs.Objects.{ObjectsFit}
use Rattle.account.specs.Accounts.{Account}
use Rattle.account.proofs.Sums.{part_of, parts_of, sum_changed, at_same, at_other}
use Rattle.account.proofs.Later.{Grown, owning_later}
use Rattle.account.proofs.Moving.{GoesOn, LeavesEnough, OthersKeep, Families, families_of, families_moved, each, owners_with}

-- what a thread gets that is new: of it nobody owned anything, and it says what is so
pub record IsNew (p : Program) (w : World) (a : Account p w) (later : Heap) (fresh : Amounts) : Type 0 where
  pub none : (q : Resource) → 1 ≤ fresh q
      → (total a.owners w.count (suc w.heap.count) q ≡ 0) × (fresh q ≤ whole) × IsPlaced later q
  pub idle : (class : Name) (x : ℕ) → 1 ≤ fresh (OfToken token.Idle class x) → w.state x ≡ ThreadState.Idle
  pub running : (class : Name) (x : ℕ) → 1 ≤ fresh (OfToken token.Running class x) → w.state x ≡ ThreadState.Idle → ⊥
  pub uncommitted : (class : Name) (x : ℕ) → 1 ≤ fresh (OfToken token.Uncommitted class x) → w.committed x ≡ false
  pub lock : (class : Name) (x : ℕ) → fresh (OfLock class x) ≡ 0
  pub object : (class : Name) (x : ℕ) → w.heap.count < x → x < suc later.count → later.class x ≡ Some class
      → (w.state x ≡ ThreadState.Ended → ⊥) × (w.committed x ≡ true → ⊥)

pub nothing_new : (p : Program) (w : World) (a : Account p w) (later : Heap) → later.count ≡ w.heap.count
    → IsNew p w a later nothing
nothing_new p w a later same = record {
  none = λ q more. absurd (omega (arith, more));
  idle = λ c x more. absurd (omega (arith, more));
  running = λ c x more. absurd (omega (arith, more));
  uncommitted = λ c x more. absurd (omega (arith, more));
  lock = λ c x. refl;
  object = λ c x above below at. absurd (omega (arith, same, above, below));
}

-- how a thread of an accounted world goes on
pub record Moves (p : Program) (w : World) (a : Account p w) (i : ℕ) (later : Heap) (frames : List Frame) : Type 1 where
  pub runs : List Run
  pub fits : AreRunsOf p w.committed later frames runs
  pub goes : GoesOn w.threads a.owners i frames runs
  pub leaves : LeavesEnough p w.committed later (w.threads i).role w.blocks a.owners frames runs (a.owners.left i)
  pub fresh : Amounts
  pub less : (q : Resource) → all_of runs q ≤ all_of (a.owners.runs i) q + fresh q
  pub new : IsNew p w a later fresh
  pub grown : Grown w.heap later
  pub null : (class : Name) → later.class 0 ≡ Some class → w.heap.class 0 ≡ Some class
  -- what others have is kept
  pub keeps : (B : Amounts) → ((q : Resource) → B q + all_of (a.owners.runs i) q ≤ total a.owners w.count (suc w.heap.count) q)
      → KeepsHeld B w.heap later

-- amounts of the objects up to a count
abbrev pub up_to : ℕ → (ℕ → Amounts) → ℕ → Amounts
up_to count A x q = if nat_le x count then A x q else 0

up_to_less : (count : ℕ) (A : ℕ → Amounts) (x : ℕ) (q : Resource) → up_to count A x q ≤ A x q
up_to_less count A x q = go (nat_le x count)
  where
    go : (b : Bool) → (if b then A x q else 0) ≤ A x q
    go true = omega arith
    go false = omega arith

up_to_none : (count : ℕ) (A : ℕ → Amounts) (x : ℕ) (q : Resource) → count < x → up_to count A x q ≡ 0
up_to_none count A x q above = go (nat_le x count) refl
  where
    go : (b : Bool) → nat_le x count ≡ b → (if b then A x q else 0) ≡ 0
    go true e = let k = at_most x count e in absurd (omega (arith, k, above))
    go false e = refl

apart_as : (n m : ℕ) → nat_eq n m ≡ false → n ≡ m → ⊥
apart_as n m e k = let self = nat_self m in let same = subst (λ z. nat_eq z m ≡ true) (sym k) self in absurd (cc (e, same))

not_above : (a b : ℕ) → nat_le a b ≡ false → b < a
not_above a b e = beyond_it a b (λ h. let k = is_at_most a b h in absurd (cc (e, k)))

sum_rises : (f g : ℕ → ℕ) → ((x : ℕ) → g x ≤ f x) → (n m : ℕ) → n ≤ m → sum_below g n ≤ sum_below f m
sum_rises f g less zero m l = omega arith
sum_rises f g less (suc n) zero l = absurd (omega (arith, l))
sum_rises f g less (suc n) (suc m) l =
    go (nat_eq n m) refl (sum_rises f g less n m (omega (arith, l))) (λ k. sum_rises f g less (suc n) m k)
  where
    go : (b : Bool) → nat_eq n m ≡ b → sum_below g n ≤ sum_below f m → (suc n ≤ m → sum_below g (suc n) ≤ sum_below f m)
        → g n + sum_below g n ≤ f m + sum_below f m
    go true e rest more =
        let same = ap f (naturals_same n m e) in let one = less n in omega (arith, same, one, rest)
    go false e rest more =
        let k = more (let h : n ≡ m → ⊥ = apart_as n m e in omega (arith, l, h)) in omega (arith, k)

-- beyond a bound nothing is added
sum_bounded : (f g : ℕ → ℕ) (bound n : ℕ) → ((x : ℕ) → g x ≤ f x) → ((x : ℕ) → bound ≤ x → g x ≡ 0)
    → sum_below g n ≤ sum_below f bound
sum_bounded f g bound zero less none = omega arith
sum_bounded f g bound (suc n) less none = go (nat_le bound n) refl (sum_bounded f g bound n less none)
  where
    go : (b : Bool) → nat_le bound n ≡ b → sum_below g n ≤ sum_below f bound → g n + sum_below g n ≤ sum_below f bound
    go true e rest = let z = none n (at_most bound n e) in omega (arith, z, rest)
    go false e rest = sum_rises f g less (suc n) bound (let k = not_above bound n e in omega (arith, k))

module _ (p : Program) (w : World) (a : Account p w) (i : ℕ) (inside : i < w.count) (later : Heap) (frames : List Frame)
    (m : Moves p w a i later frames) where
  abbrev owners : Owners
  owners = owners_with a.owners i m.runs (up_to w.heap.count a.owners.promise)
      (up_to w.heap.count a.owners.guard)

  -- what is kept

  keeps_nothing : KeepsHeld nothing w.heap later
  keeps_nothing = m.keeps nothing (λ q. let one = part_of (λ j. at_thread a.owners j q) w.count i inside in omega (arith, one))

  keeps_runs : (j : ℕ) → j < w.count → nat_eq j i ≡ false → KeepsHeld (all_of (a.owners.runs j)) w.heap later
  keeps_runs j l e = m.keeps (all_of (a.owners.runs j)) (λ q.
      let two = parts_of (λ k. at_thread a.owners k q) w.count i j inside l e in omega (arith, two))

  keeps_lying : (B : Amounts) (j : ℕ) → j < w.count → ((q : Resource) → B q ≤ lies_at a.owners j q) → KeepsHeld B w.heap later
  keeps_lying B j l less = m.keeps B (λ q. let k = less q in go q k (nat_eq j i) refl)
    where
      go : (q : Resource) → B q ≤ lies_at a.owners j q → (b : Bool) → nat_eq j i ≡ b
          → B q + all_of (a.owners.runs i) q ≤ total a.owners w.count (suc w.heap.count) q
      go q k true e =
          let one = part_of (λ x. at_thread a.owners x q) w.count j l in
          let same = ap (λ x. all_of (a.owners.runs x) q) (naturals_same j i e) in omega (arith, one, same, k)
      go q k false e = let two = parts_of (λ x. at_thread a.owners x q) w.count i j inside l e in omega (arith, two, k)

  keeps_object : (B : Amounts) (x : ℕ) → x < suc w.heap.count → ((q : Resource) → B q ≤ at_object a.owners x q)
      → KeepsHeld B w.heap later
  keeps_object B x l less = m.keeps B (λ q.
      let k = less q in
      let one = part_of (λ y. at_object a.owners y q) (suc w.heap.count) x l in
      let two = part_of (λ j. at_thread a.owners j q) w.count i inside in
      omega (arith, one, two, k))

  others : OthersKeep w.heap later w.count a.owners i
  others = record { grown = m.grown; none = keeps_nothing; running = keeps_runs; lying = keeps_lying }

  -- sums

  threads_less : (q : Resource) → sum_below (λ j. at_thread owners j q) w.count
      ≤ sum_below (λ j. at_thread a.owners j q) w.count + m.fresh q
  threads_less q =
      let k = sum_changed (λ j. at_thread a.owners j q) (λ j. at_thread owners j q) w.count i inside
      (λ j e. let s = ap (λ z. all_of z q) (at_other i j m.runs a.owners.runs e) in omega (arith, s)) in
      let s = ap (λ z. all_of z q) (at_same i m.runs a.owners.runs) in let l = m.less q in omega (arith, k, s, l)

  objects_less : (q : Resource) (n : ℕ)
      → sum_below (λ x. at_object owners x q) n ≤ sum_below (λ x. at_object a.owners x q) (suc w.heap.count)
  objects_less q n = sum_bounded (λ x. at_object a.owners x q) (λ x. at_object owners x q) (suc w.heap.count) n
      (λ x. let one = up_to_less w.heap.count a.owners.promise x q in let two = up_to_less w.heap.count a.owners.guard x q in
      omega (arith, one, two))
      (λ x l. let one = up_to_none w.heap.count a.owners.promise x q (omega (arith, l)) in
      let two = up_to_none w.heap.count a.owners.guard x q (omega (arith, l)) in omega (arith, one, two))

  total_less : (q : Resource) → total owners w.count (suc later.count) q
      ≤ total a.owners w.count (suc w.heap.count) q + m.fresh q
  total_less q = let one = threads_less q in let two = objects_less q (suc later.count) in omega (arith, one, two)

  -- something is owned: it was, or it is new
  owned_or_new : (q : Resource) (A : Type 0) → (1 ≤ total a.owners w.count (suc w.heap.count) q → A) → (1 ≤ m.fresh q → A)
      → 1 ≤ total owners w.count (suc later.count) q → A
  owned_or_new q A owned fresh more = go (m.fresh q) refl
    where
      go : (n : ℕ) → m.fresh q ≡ n → A
      go zero e = owned (let l = total_less q in omega (arith, l, more, e))
      go (suc n) e = fresh (omega (arith, e))

  sums_moved : SumsFit later w.state w.committed (total owners w.count (suc later.count))
  sums_moved = record {
    most = λ q. most q (m.fresh q) refl;
    placed = λ q. owned_or_new q (IsPlaced later q) (λ more. keeps_nothing.placed q (a.sums.placed q more))
        (λ more. (m.new.none q more).2);
    idle = λ c x. owned_or_new (OfToken token.Idle c x) _ (a.sums.idle c x) (m.new.idle c x);
    running = λ c x. owned_or_new (OfToken token.Running c x) _ (a.sums.running c x) (m.new.running c x);
    uncommitted = λ c x. owned_or_new (OfToken token.Uncommitted c x) _ (a.sums.uncommitted c x) (m.new.uncommitted c x);
  }
    where
      most : (q : Resource) (n : ℕ) → m.fresh q ≡ n → total owners w.count (suc later.count) q ≤ whole
      most q zero e = let l = total_less q in let b = a.sums.most q in omega (arith, l, b, e)
      most q (suc n) e =
          let k = m.new.none q (omega (arith, e)) in let l = total_less q in let none = k.0 in let part = k.1 in
          omega (arith, l, none, part)

  locks_moved : LocksFit w.count (suc later.count) w.holder owners
  locks_moved = record {
    held = λ j l class x more. a.locks.held j l class x
        (each p w.committed w.heap later w.count w.threads a.owners i others frames m.runs
        (λ k t y. 1 ≤ all_of y (OfLock class x) → 1 ≤ all_of (a.owners.runs k) (OfLock class x))
        (λ h. let n = m.less (OfLock class x) in let z = m.new.lock class x in omega (arith, h, n, z)) (λ k apart h. h) j more);
    threads = a.locks.threads;
    objects_have_none = λ y l class x. none y class x (nat_le y w.heap.count) refl;
  }
    where
      none : (y : ℕ) (class : Name) (x : ℕ) (b : Bool) → nat_le y w.heap.count ≡ b
          → (if b then a.owners.promise y (OfLock class x) else 0) + (if b then a.owners.guard y (OfLock class x) else 0) ≡ 0
      none y class x true e =
          let k = at_most y w.heap.count e in a.locks.objects_have_none y (omega (arith, k)) class x
      none y class x false e = refl

  objects_moved : ObjectsFit p w.committed later w.state w.holder owners.promise owners.guard
  objects_moved = record {
    promises = λ x class d l is run ended. go_promise x class d l is run ended (nat_le x w.heap.count) refl;
    guards = λ x class f l is inv flag free. go_guard x class f l is inv flag free (nat_le x w.heap.count) refl;
  }
    where
      class_before : (x : ℕ) (class : Name) → nat_le x w.heap.count ≡ true → later.class x ≡ Some class
          → w.heap.class x ≡ Some class
      class_before zero class e is = m.null class is
      class_before (suc x) class e is = m.grown.class x class is (at_most (suc x) w.heap.count e)

      go_promise : (x : ℕ) (class : Name) (d : Method) → x < suc later.count → later.class x ≡ Some class → run_of p class
          ≡ Some d
          → w.state x ≡ ThreadState.Ended → (b : Bool) → nat_le x w.heap.count ≡ b
          → KeepsOwning p w.committed later (outer_scene x [] []) d.contract.after
          (λ q. if b then a.owners.promise x q else 0)
      go_promise x class d below is run ended true e =
          let l = at_most x w.heap.count e in
          owning_later p w.committed w.heap later (outer_scene x [] []) d.contract.after (a.owners.promise x)
          (keeps_object (a.owners.promise x) x (omega (arith, l)) (λ q. omega arith))
          (a.objects.promises x class d (omega (arith, l)) (class_before x class e is) run ended)
      go_promise x class d below is run ended false e =
          absurd ((m.new.object class x (not_above x w.heap.count e) below is).0 ended)

      go_guard : (x : ℕ) (class : Name) (f : Formula) → x < suc later.count → later.class x ≡ Some class → invariant_of p class
          ≡ Some f
          → w.committed x ≡ true → w.holder x ≡ None → (b : Bool) → nat_le x w.heap.count ≡ b
          → KeepsOwning p w.committed later (outer_scene x [] []) f (λ q. if b then a.owners.guard x q else 0)
      go_guard x class f below is inv flag free true e =
          let l = at_most x w.heap.count e in
          owning_later p w.committed w.heap later (outer_scene x [] []) f (a.owners.guard x)
          (keeps_object (a.owners.guard x) x (omega (arith, l)) (λ q. omega arith))
          (a.objects.guards x class f (omega (arith, l)) (class_before x class e is) inv flag free)
      go_guard x class f below is inv flag free false e =
          absurd ((m.new.object class x (not_above x w.heap.count e) below is).1 flag)

  pub accounted : Account p (with_heap (with_frames w i frames) later)
  accounted = record {
    owners = owners;
    threads = families.threads_run;
    sums = sums_moved;
    locks = locks_moved;
    objects = objects_moved;
    roles = families.roles;
    blocks = families.blocks_fit;
    mail = families.mail;
  }
    where
      families : Families p w.committed later w.count (with_frames w i frames).threads w.block_count w.blocks w.state owners
      families = families_moved p w.committed w.heap later w.count w.threads a.owners i others frames m.runs m.goes w.block_count
          w.blocks w.state m.fits m.leaves (up_to w.heap.count a.owners.promise) (up_to w.heap.count a.owners.guard)
          (families_of p w a)
