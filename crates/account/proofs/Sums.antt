-- Sums of what is owned: how they change where one owner has other amounts.
use Rattle.std.proofs.Common.{◌≡◌, ◌+◌, ◌≤◌, ◌<◌, ℕ, zero, suc, Bool, true, false, if◌then◌else◌, Some, [], ◌∷◌, List, refl, ap, subst, arith}
use Rattle.std.specs.Prelude.{nat_eq}
use Rattle.std.proofs.lemmas.Option.{none-some, same_Some}
use Rattle.pv_base.specs.declared.Name.{Name}
use Rattle.pv_base.specs.Names.{same_name}
use Rattle.pv_ast.specs.declared.Token.TheVariants as token
use Rattle.machine_laws.proofs.Members.{below_other}
use Rattle.pv_picks.specs.Formulas.Heaps.{Heap, at_number}
use Rattle.pv_picks.specs.Judge.States.{Resource, OfToken}
use Rattle.pv_picks.specs.Machine.Worlds.{ThreadState}
use Rattle.pv_picks.proofs.Sames.{naturals_same}
use Rattle.account_formulas.specs.Owning.{Amounts, IsPlaced}
use Rattle.account_formulas.proofs.Basics.{nat_self}
use Rattle.account.specs.Frames.{Run, all_of}
use Rattle.account.specs.Owners.{Mail, Owners, letter, sum_below, carried_by, at_thread, at_object, total, with_runs, with_left, with_mail, with_promise, with_guard, SumsFit}

pub sum_less : (f g : ℕ → ℕ) (n : ℕ) → ((i : ℕ) → f i ≤ g i) → sum_below f n ≤ sum_below g n
sum_less f g zero h = omega arith
sum_less f g (suc n) h = let a = h n in let b = sum_less f g n h in omega (arith, a, b)

pub sum_same : (f g : ℕ → ℕ) (n : ℕ) → ((i : ℕ) → i < n → f i ≡ g i) → sum_below f n ≡ sum_below g n
sum_same f g zero h = refl
sum_same f g (suc n) h =
    let a = h n (omega arith) in let b = sum_same f g n (λ i l. h i (omega (arith, l))) in omega (arith, a, b)

-- each part is at most the sum
pub part_of : (f : ℕ → ℕ) (n i : ℕ) → i < n → f i ≤ sum_below f n
part_of f zero i l = absurd (omega (arith, l))
part_of f (suc n) i l = go (nat_eq i n) refl (λ k. part_of f n i k)
  where
    go : (b : Bool) → nat_eq i n ≡ b → (i < n → f i ≤ sum_below f n) → f i ≤ f n + sum_below f n
    go true e more = let same = ap f (naturals_same i n e) in omega (arith, same)
    go false e more = let k : i < n = below_other i n e l in let m = more k in omega (arith, m)

-- where one part changes, the sum does so by as much
pub sum_changed : (f g : ℕ → ℕ) (n i : ℕ) → i < n → ((j : ℕ) → nat_eq j i ≡ false → g j ≡ f j)
    → sum_below g n + f i ≡ sum_below f n + g i
sum_changed f g zero i l others = absurd (omega (arith, l))
sum_changed f g (suc n) i l others = go (nat_eq i n) refl (λ k. sum_changed f g n i k others)
  where
    apart : nat_eq i n ≡ true → (j : ℕ) → j < n → nat_eq j i ≡ false
    apart e j k = by (nat_eq j i) refl
      where
        by : (b : Bool) → nat_eq j i ≡ b → nat_eq j i ≡ false
        by false h = h
        by true h = let a = naturals_same j i h in let c = naturals_same i n e in absurd (omega (arith, a, c, k))

    go : (b : Bool) → nat_eq i n ≡ b → (i < n → sum_below g n + f i ≡ sum_below f n + g i)
        → g n + sum_below g n + f i ≡ f n + sum_below f n + g i
    go true e more =
        let same = naturals_same i n e in
        let one = ap f same in let two = ap g same in
        let rest = sum_same g f n (λ j k. others j (apart e j k)) in
        omega (arith, one, two, rest)
    go false e more =
        let m = more (below_other i n e l) in
        let same = others n (turned (nat_eq n i) refl) in
        omega (arith, m, same)
      where
        turned : (b : Bool) → nat_eq n i ≡ b → nat_eq n i ≡ false
        turned false h = h
        turned true h =
            let k = naturals_same n i h in
            let self = nat_self n in
            let back = subst (λ x. nat_eq x n ≡ true) k self in absurd (cc (e, back))

-- at one number it is another
pub at_same : {A : Type 0} (i : ℕ) (x : A) (f : ℕ → A) → at_number i x f i ≡ x
at_same i x f = ap (λ b. if b then x else f i) (nat_self i)

pub at_other : {A : Type 0} (i j : ℕ) (x : A) (f : ℕ → A) → nat_eq j i ≡ false → at_number i x f j ≡ f j
at_other i j x f e = ap (λ b. if b then x else f j) e

module _ (o : Owners) (threads objects : ℕ) (q : Resource) where
  -- a thread's runs are others
  pub total_with_runs : (i : ℕ) → i < threads → (runs : List Run)
      → total (with_runs o i runs) threads objects q + all_of (o.runs i) q ≡ total o threads objects q + all_of runs q
  total_with_runs i l runs =
      let k = sum_changed (λ j. at_thread o j q) (λ j. at_thread (with_runs o i runs) j q) threads i l
      (λ j e. let s = ap (λ z. all_of z q) (at_other i j runs o.runs e) in omega (arith, s)) in
      let s = ap (λ z. all_of z q) (at_same i runs o.runs) in omega (arith, k, s)

  -- what a thread left is other
  pub total_with_left : (i : ℕ) → i < threads → (R : Amounts)
      → total (with_left o i R) threads objects q + o.left i q ≡ total o threads objects q + R q
  total_with_left i l R =
      let k = sum_changed (λ j. at_thread o j q) (λ j. at_thread (with_left o i R) j q) threads i l
      (λ j e. let s = ap (λ z. z q) (at_other i j R o.left e) in omega (arith, s)) in
      let s = ap (λ z. z q) (at_same i R o.left) in omega (arith, k, s)

  -- the mail to a thread is other
  pub total_with_mail : (i : ℕ) → i < threads → (mail : Mail)
      → total (with_mail o i mail) threads objects q + carried_by (o.mail i) q ≡ total o threads objects q + carried_by mail q
  total_with_mail i l mail =
      let k = sum_changed (λ j. at_thread o j q) (λ j. at_thread (with_mail o i mail) j q) threads i l
      (λ j e. let s = ap (λ z. carried_by z q) (at_other i j mail o.mail e) in omega (arith, s)) in
      let s = ap (λ z. carried_by z q) (at_same i mail o.mail) in omega (arith, k, s)

  -- an object's promise, and what its lock guards, are other
  pub total_with_promise : (x : ℕ) → x < objects → (R : Amounts)
      → total (with_promise o x R) threads objects q + o.promise x q ≡ total o threads objects q + R q
  total_with_promise x l R =
      let k = sum_changed (λ y. at_object o y q) (λ y. at_object (with_promise o x R) y q) objects x l
      (λ y e. let s = ap (λ z. z q) (at_other x y R o.promise e) in omega (arith, s)) in
      let s = ap (λ z. z q) (at_same x R o.promise) in omega (arith, k, s)

  pub total_with_guard : (x : ℕ) → x < objects → (R : Amounts)
      → total (with_guard o x R) threads objects q + o.guard x q ≡ total o threads objects q + R q
  total_with_guard x l R =
      let k = sum_changed (λ y. at_object o y q) (λ y. at_object (with_guard o x R) y q) objects x l
      (λ y e. let s = ap (λ z. z q) (at_other x y R o.guard e) in omega (arith, s)) in
      let s = ap (λ z. z q) (at_same x R o.guard) in omega (arith, k, s)

  -- what one thread's runs have is part of all
  pub runs_in_total : (i : ℕ) → i < threads → all_of (o.runs i) q ≤ total o threads objects q
  runs_in_total i l = let k = part_of (λ j. at_thread o j q) threads i l in omega (arith, k)

-- where no more is owned, the sums still fit
pub sums_less : (heap : Heap) (state : ℕ → ThreadState) (committed : ℕ → Bool) (R S : Amounts)
    → ((q : Resource) → S q ≤ R q) → SumsFit heap state committed R → SumsFit heap state committed S
sums_less heap state committed R S less fits = record {
  most = λ r. let a = less r in let b = fits.most r in omega (arith, a, b);
  placed = λ r more. fits.placed r (let a = less r in omega (arith, a, more));
  idle = λ c x more. fits.idle c x (let a = less (OfToken token.Idle c x) in omega (arith, a, more));
  running = λ c x more. fits.running c x (let a = less (OfToken token.Running c x) in omega (arith, a, more));
  uncommitted = λ c x more. fits.uncommitted c x (let a = less (OfToken token.Uncommitted c x) in omega (arith, a, more));
}

-- the sums fit another heap in which what is there stays there
pub sums_stay : (old new : Heap) (state : ℕ → ThreadState) (committed : ℕ → Bool)
    → ((r : Resource) → IsPlaced old r → IsPlaced new r) → (R : Amounts) → SumsFit old state committed R
    → SumsFit new state committed R
sums_stay old new state committed placed R fits = record {
  most = fits.most;
  placed = λ r more. placed r (fits.placed r more);
  idle = fits.idle;
  running = fits.running;
  uncommitted = fits.uncommitted;
}

-- a part of a sum beside another one
pub parts_of : (f : ℕ → ℕ) (n i j : ℕ) → i < n → j < n → nat_eq j i ≡ false → f i + f j ≤ sum_below f n
parts_of f n i j k l apart =
    let whole = sum_changed f (at_number i 0 f) n i k (λ x e. at_other i x 0 f e) in
    let none = at_same i 0 f in
    let same = at_other i j 0 f apart in
    let part = part_of (at_number i 0 f) n j l in
    omega (arith, whole, none, same, part)

-- a letter is part of the mail
pub letter_carried : (label : Name) (mail : Mail) (part : Amounts) → letter label mail ≡ Some part → (q : Resource)
    → part q ≤ carried_by mail q
letter_carried label [] part is q = absurd (none-some part is)
letter_carried label (x ∷ xs) part is q = by (same_name label x.0) is (λ k. letter_carried label xs part k q)
  where
    by : (b : Bool) → (if b then Some x.1 else letter label xs) ≡ Some part
        → (letter label xs ≡ Some part → part q ≤ carried_by xs q)
        → part q ≤ x.1 q + carried_by xs q
    by true e more = let same = ap (λ z. z q) (same_Some x.1 part e) in omega (arith, same)
    by false e more = let k = more e in omega (arith, k)
