-- The label of a join: what the ended `run` left goes to the thread.
use Rattle.std.proofs.Common.{◌≡◌, ℕ, suc, ◌+◌, ◌≤◌, ◌<◌, Bool, true, false, if◌then◌else◌, ◌&&◌, Some, List, [], ◌∷◌, refl, ap, sym, subst, ◌∙◌, arith}
use Rattle.std.specs.Prelude.{nat_eq, nat_le, drop}
use Rattle.std.proofs.lemmas.Option.{same_Some}
use Rattle.pv_base.specs.declared.Name.{Name}
use Rattle.pv_base.specs.declared.Span.{Span}
use Rattle.pv_ast.specs.declared.Token.{Token}
use Rattle.pv_ast.specs.declared.Token.TheVariants as token
use Rattle.pv_base.specs.Names.{same_name}
use Rattle.pv_fraction.specs.Amounts.{whole}
use Rattle.pv_picks.specs.declared.check.Check.TheVariants as check
use Rattle.pv_picks.specs.Plain.Core.{Method, Join', Program}
use Rattle.pv_picks.specs.Plain.Members.{run_of}
use Rattle.pv_picks.specs.Formulas.Heaps.{at_number}
use Rattle.pv_picks.specs.Judge.States as states
use Rattle.pv_picks.specs.Judge.States.{Resource, OfToken, OfLock, same_token, same_resource}
use Rattle.pv_picks.specs.Judge.Permissions.{add_token}
use Rattle.pv_picks.specs.Judge.Inhaling.{inhale}
use Rattle.pv_picks.specs.Judge.Rows.{bind_on}
use Rattle.pv_picks.specs.Judge.Judging.{contract_of}
use Rattle.pv_picks.specs.Machine.Tasks.{AtAction, Task, Stand}
use Rattle.pv_picks.specs.Machine.Frames.{Frame, pops, settled, only_now, outer_scene}
use Rattle.pv_picks.specs.Machine.Worlds.{ThreadState, World, Mode, with_frames, with_state, has_no_frame}
use Rattle.pv_picks.specs.Machine.Steps.{needs, act_join, act_tasks, act}
use Rattle.pv_picks.proofs.Sames.{naturals_same, resources_same}
use Rattle.account_formulas.specs.Runs.{truly, RestNeverFails}
use Rattle.account_formulas.specs.Owning.{IsPlaced, Owns, KeepsOwning}
use Rattle.account_formulas.specs.Growing.{HeapFits}
use Rattle.account_formulas.specs.Gaining.{PredicatesFit}
use Rattle.account_formulas.proofs.Basics.{at_most, only}
use Rattle.account.specs.Running.{ran}
use Rattle.account.specs.Frames as account
use Rattle.account.specs.Frames.{AreRunsOf, all_of, amounts_of}
use Rattle.account.specs.Owners.{Owners, nothing, total, without_locks, at_thread, at_object, with_runs, SumsFit, LocksFit}
use Rattle.account.specs.Objects.{ObjectsFit}
use Rattle.account.specs.Accounts.{Account, Kept}
use Rattle.account.specs.Going.{Goes}
use Rattle.account.proofs.LocalWork.{settled_goes}
use Rattle.account.proofs.Sums.{part_of, runs_in_total, total_with_runs, total_with_promise}
use Rattle.account.proofs.Stepping.{by_run, is_not_null}
use Rattle.account_threads.specs.Parts.{RunsFit}
use Rattle.account.proofs.Locks.{locks_less, owns_locked}
use Rattle.account.proofs.Later.{keeps_same}
use Rattle.account_threads.proofs.OfObject.{by_test}
use Rattle.account_threads.proofs.Acting.{object_on, allowed, acts_on_class}
use Rattle.account_threads.proofs.Joining.{JoinGoes, without_token, joins_go}
use Rattle.account_threads.proofs.Going.{families_go}
use Rattle.account_threads.proofs.Locked.{nothing_of}
use Rattle.account.proofs.Moving.{Families, families_of, owners_with}
use Rattle.account_threads.proofs.Families.{role_restated, object_is, object_below}

-- of a token of another object
pub other_token : (kind other : Token) (d class : Name) (x y : ℕ) → nat_eq x y ≡ false
    → only (OfToken kind class y) whole (OfToken other d x) ≡ 0
other_token kind other d class x y e = by (same_token other kind) (same_name d class)
  where
    by : (a b : Bool) → (if a && (b && nat_eq x y) then whole else 0) ≡ 0
    by true true = ap (λ z. if z then whole else 0) e
    by true false = refl
    by false b = refl

module _ (p : Program) (w : World) (a : Account p w) (sound : HeapFits p w.heap) (framed : PredicatesFit p w.heap)
    (i : ℕ) (f : Frame) (below : List Frame) (stack : (w.threads i).frames ≡ f ∷ below)
    (inside : i < w.count) (class : Name) (span : Span) (rest : List Task)
    (is : f.tasks ≡ Stand (AtAction Join' class span) ∷ rest)
    (class_is : w.heap.class (object_on f) ≡ Some class) (ended : w.state (object_on f) ≡ ThreadState.Ended)
    (r : account.Run) (rs : List account.Run) (has_runs : a.owners.runs i ≡ r ∷ rs)
    (fits : AreRunsOf p w.committed w.heap (f ∷ below) (r ∷ rs))
    (g : JoinGoes p w.committed w.heap f r class rest (without_locks (a.owners.promise (object_on f)))) where
  there : object_on f < suc w.heap.count
  there = object_below p w.heap sound class (object_on f) class_is

  -- what the thread and the ended one have together
  both_most : (q : Resource) → all_of (r ∷ rs) q + a.owners.promise (object_on f) q
      ≤ total a.owners w.count (suc w.heap.count) q
  both_most q =
      let one = part_of (λ j. at_thread a.owners j q) w.count i inside in
      let two = part_of (λ y. at_object a.owners y q) (suc w.heap.count) (object_on f) there in
      let same = ap (λ x. all_of x q) has_runs in
      omega (arith, one, two, same)

  -- the token that comes back
  abbrev idle : Resource
  idle = OfToken token.Idle class (object_on f)

  none_idle : total a.owners w.count (suc w.heap.count) (OfToken token.Idle class (object_on f)) ≡ 0
  none_idle = nothing_of (total a.owners w.count (suc w.heap.count) (OfToken token.Idle class (object_on f)))
      (λ more. let k = sym (a.sums.idle class (object_on f) more) ∙ ended in absurd (cc k))

  most : (q : Resource) (b : Bool) → same_resource q idle ≡ b → amounts_of g.run q ≤ whole
  most q true e =
      let same = resources_same q (OfToken token.Idle class (object_on f)) e in
      let zero' = ap (λ z. total a.owners w.count (suc w.heap.count) z) same ∙ none_idle in
      let more = g.more q in let both = both_most q in let cut_off = locks_less (a.owners.promise (object_on f)) q in
      let at = ap (λ x. if x then whole else 0) e in
      omega (arith, zero', more, both, cut_off, at)
  most q false e =
      let more = g.more q in let both = both_most q in let cut_off = locks_less (a.owners.promise (object_on f)) q in
      let at = ap (λ x. if x then whole else 0) e in let sum = a.sums.most q in
      omega (arith, more, both, cut_off, at, sum)

  done : Goes p w.committed w.heap (settled (pops 1 f rest)) g.run
  done = settled_goes p w.committed w.heap sound framed (pops 1 f rest) g.run g.fits g.says
      (λ q. most q (same_resource q idle) refl)

  abbrev after : Owners
  after = owners_with a.owners i (done.run ∷ rs) (at_number (object_on f) nothing a.owners.promise) a.owners.guard

  abbrev state : ℕ → ThreadState
  state = at_number (object_on f) ThreadState.Idle w.state

  -- no more is owned than before, and the token
  more_total : (q : Resource) → total after w.count (suc w.heap.count) q
      ≤ total a.owners w.count (suc w.heap.count) q + only idle whole q
  more_total q =
      let one = total_with_runs a.owners w.count (suc w.heap.count) q i inside (done.run ∷ rs) in
      let two = total_with_promise (with_runs a.owners i (done.run ∷ rs)) w.count (suc w.heap.count) q (object_on f) there
      nothing in
      let same = ap (λ x. all_of x q) has_runs in
      let more = g.more q in let work = done.less q in
      let cut_off = locks_less (a.owners.promise (object_on f)) q in
      omega (arith, one, two, same, more, work, cut_off)

  -- the other token is gone
  gone : 1 ≤ total after w.count (suc w.heap.count) (OfToken token.Running class (object_on f)) → ⊥
  gone more =
      let one = total_with_runs a.owners w.count (suc w.heap.count) (OfToken token.Running class (object_on f)) i inside
      (done.run ∷ rs) in
      let two = total_with_promise (with_runs a.owners i (done.run ∷ rs)) w.count (suc w.heap.count)
      (OfToken token.Running class (object_on f)) (object_on f) there nothing in
      let same = ap (λ x. all_of x (OfToken token.Running class (object_on f))) has_runs in
      let free = g.free in let work = done.less (OfToken token.Running class (object_on f)) in
      let cut_off = locks_less (a.owners.promise (object_on f)) (OfToken token.Running class (object_on f)) in
      let most = a.sums.most (OfToken token.Running class (object_on f)) in
      omega (arith, one, two, same, free, work, cut_off, most, more)

  sums : SumsFit w.heap state w.committed (total after w.count (suc w.heap.count))
  sums = record {
    most = λ q. at_most q (same_resource q idle) refl;
    placed = λ q some. placed q (same_resource q idle) refl some;
    idle = λ c x some. is_idle c x some (nat_eq x (object_on f)) refl;
    running = λ c x some. is_running c x some (nat_eq x (object_on f)) refl;
    uncommitted =
        λ c x some. a.sums.uncommitted c x (let more = more_total (OfToken token.Uncommitted c x) in omega (arith, more, some));
  }
    where
      at_most : (q : Resource) (b : Bool) → same_resource q idle ≡ b → total after w.count (suc w.heap.count) q ≤ whole
      at_most q true e =
          let same = resources_same q (OfToken token.Idle class (object_on f)) e in
          let zero' = ap (λ z. total a.owners w.count (suc w.heap.count) z) same ∙ none_idle in
          let more = more_total q in let at = ap (λ x. if x then whole else 0) e in
          omega (arith, zero', more, at)
      at_most q false e =
          let more = more_total q in let at = ap (λ x. if x then whole else 0) e in let sum = a.sums.most q in
          omega (arith, more, at, sum)

      placed : (q : Resource) (b : Bool) → same_resource q idle ≡ b → 1 ≤ total after w.count (suc w.heap.count) q
          → IsPlaced w.heap q
      placed q true e some =
          subst (IsPlaced w.heap) (sym (resources_same q (OfToken token.Idle class (object_on f)) e)) class_is
      placed q false e some =
          a.sums.placed q (let more = more_total q in let at = ap (λ x. if x then whole else 0) e in
          omega (arith, more, at, some))

      is_idle : (c : Name) (x : ℕ) → 1 ≤ total after w.count (suc w.heap.count) (OfToken token.Idle c x)
          → (b : Bool) → nat_eq x (object_on f) ≡ b → (if b then ThreadState.Idle else w.state x) ≡ ThreadState.Idle
      is_idle c x some true e = refl
      is_idle c x some false e =
          a.sums.idle c x (let more = more_total (OfToken token.Idle c x) in
          let none = other_token token.Idle token.Idle c class x (object_on f) e in omega (arith, more, none, some))

      is_running : (c : Name) (x : ℕ) → 1 ≤ total after w.count (suc w.heap.count) (OfToken token.Running c x)
          → (b : Bool) → nat_eq x (object_on f) ≡ b → (if b then ThreadState.Idle else w.state x) ≡ ThreadState.Idle → ⊥
      is_running c x some false e idles =
          a.sums.running c x (let more = more_total (OfToken token.Running c x) in omega (arith, more, some)) idles
      is_running c x some true e idles =
          let same = naturals_same x (object_on f) e in
          let placed : w.heap.class x ≡ Some c = a.sums.placed (OfToken token.Running c x)
          (let more = more_total (OfToken token.Running c x) in omega (arith, more, some)) in
          let one : c ≡ class = same_Some c class
          (sym placed ∙ subst (λ z. w.heap.class z ≡ Some class) (sym same) class_is) in
          let both : OfToken token.Running c x ≡ OfToken token.Running class (object_on f) =
          ap (λ z. OfToken token.Running z x) one ∙ ap (OfToken token.Running class) same in
          gone (subst (λ z. 1 ≤ total after w.count (suc w.heap.count) z) both some)

  locks : LocksFit w.count (suc w.heap.count) w.holder after
  locks = record {
    held = λ j k d x more. held j k d x (nat_eq j i) refl more;
    threads = a.locks.threads;
    objects_have_none = λ y k d x. none y k d x (nat_eq y (object_on f)) refl;
  }
    where
      held : (j : ℕ) → j < w.count → (d : Name) (x : ℕ) (c : Bool) → nat_eq j i ≡ c
          → 1 ≤ all_of (if c then done.run ∷ rs else a.owners.runs j) (OfLock d x) → w.holder x ≡ Some j
      held j k d x true own more =
          a.locks.held i inside d x
          (let work = done.less (OfLock d x) in let had = g.more (OfLock d x) in
          let same = ap (λ z. all_of z (OfLock d x)) has_runs in
          omega (arith, work, had, same, more))
          ∙ ap Some (sym (naturals_same j i own))
      held j k d x false own more = a.locks.held j k d x more

      none : (y : ℕ) → y < suc w.heap.count → (d : Name) (x : ℕ) (b : Bool) → nat_eq y (object_on f) ≡ b
          → (if b then nothing else a.owners.promise y) (OfLock d x) + a.owners.guard y (OfLock d x) ≡ 0
      none y k d x true e = let was = a.locks.objects_have_none y k d x in omega (arith, was)
      none y k d x false e = a.locks.objects_have_none y k d x

  objects : ObjectsFit p w.committed w.heap state w.holder after.promise after.guard
  objects = record {
    promises = λ x c m k at named ended. promised x c m k at named (nat_eq x (object_on f)) ended;
    guards = a.objects.guards;
  }
    where
      promised : (x : ℕ) (c : Name) (m : Method) → x < suc w.heap.count → w.heap.class x ≡ Some c → run_of p c ≡ Some m
          → (b : Bool) → (if b then ThreadState.Idle else w.state x) ≡ ThreadState.Ended
          → KeepsOwning p w.committed w.heap (outer_scene x [] []) m.contract.after (if b then nothing else a.owners.promise x)
      promised x c m k at named false ends = a.objects.promises x c m k at named ends
      promised x c m k at named true ends = absurd (cc ends)

  families : Families p w.committed w.heap w.count
      (at_number i (record { role = (w.threads i).role; frames = settled (pops 1 f rest) ∷ below }) w.threads) w.block_count
      w.blocks w.state after
  families =
      families_go p w.committed w.heap sound framed f r fits.0 Join' class span rest is g.run g.past g.body done w.count w.threads
      w.block_count w.blocks w.state a.owners i below stack rs has_runs fits.1
      (at_number (object_on f) nothing a.owners.promise) a.owners.guard (families_of p w a)

  -- who runs goes on to do so
  runs_still : (x j : ℕ) → w.state x ≡ ThreadState.Running j → state x ≡ ThreadState.Running j
  runs_still x j runs = by (nat_eq x (object_on f)) refl
    where
      by : (b : Bool) → nat_eq x (object_on f) ≡ b → (if b then ThreadState.Idle else w.state x) ≡ ThreadState.Running j
      by false e = runs
      by true e =
          let k = sym ended ∙ (ap w.state (sym (naturals_same x (object_on f) e)) ∙ runs) in absurd (cc k)

  joined : Account p (with_state (with_frames w i (settled (pops 1 f rest) ∷ below)) (object_on f) ThreadState.Idle)
  joined = record {
    owners = after;
    threads = families.threads_run;
    sums = sums;
    locks = locks;
    objects = objects;
    roles = λ j k. role_restated p w.committed w.heap w.state state j (λ x runs. runs_still x j runs)
        (at_number i (record { role = (w.threads i).role; frames = settled (pops 1 f rest) ∷ below }) w.threads j).role
        (at_number i (record { role = (w.threads i).role; frames = settled (pops 1 f rest) ∷ below }) w.threads j).frames
        (after.runs j) (families.roles j k);
    blocks = families.blocks_fit;
    mail = families.mail;
  }

-- a thread that stands at a join
pub join_keeps : (p : Program) (w : World) (a : Account p w) → HeapFits p w.heap → PredicatesFit p w.heap
    → RunsFit p → (i : ℕ) (f : Frame) (below : List Frame) (class : Name) (span : Span) (rest : List Task)
    → (w.threads i).frames ≡ f ∷ below → f.tasks ≡ Stand (AtAction Join' class span) ∷ rest
    → (mode : Mode) → Kept p (act p w mode i)
join_keeps p w a sound framed parts i f below class span rest stack is mode =
    by_run p w a i inside f below stack mode by_runs
  where
    inside : i < w.count
    inside = a.threads.live i (ap has_no_frame stack)

    by_runs : (r : account.Run) (rs : List account.Run) → a.owners.runs i ≡ r ∷ rs
        → AreRunsOf p w.committed w.heap (f ∷ below) (r ∷ rs) → Kept p (act_tasks p w i f below mode f.tasks)
    by_runs r rs e fits =
        subst (λ ts. Kept p (act_tasks p w i f below mode ts)) (sym is)
        (by_test r.taken (nat_eq (object_on f) 0) _ _
        (subst (λ ts. RestNeverFails r.taken (λ maps. ran (truly maps) p r.body r.inner ts f.values r.state)) is fits.0.never)
        (λ z n. absurd (n.never [] check.Null span refl))
        (λ full n. by_test r.taken (nat_le whole (states.amount_of r.state (OfToken token.Running class (object_on f)))) _ _ n
        (λ has n.
        subst (λ b. Kept p (needs b check.Null span (act_join p w i f below (w.state (object_on f)) (object_on f) span rest)))
        (sym (is_not_null (object_on f) full))
        (by_state full (at_most whole (states.amount_of r.state (OfToken token.Running class (object_on f))) has)
        (w.state (object_on f)) refl n))
        (λ z n. absurd (n.never [] check.NotRunning span refl))))
      where
        named : (m : Method) × (run_of p class ≡ Some m)
        named = allowed p w.committed w.heap f r fits.0 Join' class span rest is

        -- the token says that the thread runs
        runs : whole ≤ states.amount_of r.state (OfToken token.Running class (object_on f))
            → w.state (object_on f) ≡ ThreadState.Idle → ⊥
        runs much idles = a.sums.running class (object_on f)
            (let own = runs_in_total a.owners w.count (suc w.heap.count) (OfToken token.Running class (object_on f)) i inside in
            let same = ap (λ x. all_of x (OfToken token.Running class (object_on f))) e in omega (arith, own, same, much)) idles

        by_state : nat_eq (object_on f) 0 ≡ false
            → whole ≤ states.amount_of r.state (OfToken token.Running class (object_on f))
            → (s : ThreadState) → w.state (object_on f) ≡ s
            → RestNeverFails r.taken (λ maps. contract_of (truly maps) (run_of p class)
            ((truly maps).failed check.NotRunning span)
            (λ c. inhale (truly maps) (bind_on (object_on f)) c.after
            (add_token (truly maps) token.Idle class (object_on f) (ran (truly maps) p r.body false rest (drop 1 f.values))))
            (without_token token.Running r.state class (object_on f)))
            → Kept p (act_join p w i f below s (object_on f) span rest)
        by_state full much ThreadState.Idle at n = absurd (runs much at)
        by_state full much (ThreadState.Running j) at n = tt
        by_state full much ThreadState.Ended at n =
            joined p w a sound framed i f below stack inside class span rest is class_is at r rs e fits g
          where
            class_is : w.heap.class (object_on f) ≡ Some class
            class_is = object_is w.heap class (object_on f) full
                (acts_on_class p w.committed w.heap f r fits.0 Join' class span rest is)

            there : object_on f < suc w.heap.count
            there = object_below p w.heap sound class (object_on f) class_is

            owns : Owns p w.committed (only_now w.heap) (outer_scene (object_on f) [] []) named.0.contract.after
                (a.owners.promise (object_on f))
            owns = a.objects.promises (object_on f) class named.0 there class_is named.1 at w.heap
                (keeps_same (a.owners.promise (object_on f)) w.heap)

            both : (q : Resource) → all_of (r ∷ rs) q + a.owners.promise (object_on f) q
                ≤ total a.owners w.count (suc w.heap.count) q
            both q =
                let one = part_of (λ j. at_thread a.owners j q) w.count i inside in
                let two = part_of (λ y. at_object a.owners y q) (suc w.heap.count) (object_on f) there in
                let same = ap (λ x. all_of x q) e in
                omega (arith, one, two, same)

            none : total a.owners w.count (suc w.heap.count) (OfToken token.Idle class (object_on f)) ≡ 0
            none = nothing_of (total a.owners w.count (suc w.heap.count) (OfToken token.Idle class (object_on f)))
                (λ more. let k = sym (a.sums.idle class (object_on f) more) ∙ at in absurd (cc k))

            g : JoinGoes p w.committed w.heap f r class rest (without_locks (a.owners.promise (object_on f)))
            g = joins_go p w.committed w.heap sound framed f r fits.0 class span rest is named.0.contract.after
                (parts.after class named.0 named.1) class_is much (without_locks (a.owners.promise (object_on f)))
                (owns_locked p w.committed (only_now w.heap) (outer_scene (object_on f) [] []) named.0.contract.after
                (a.owners.promise (object_on f)) owns)
                (λ q. let k = both q in let cut_off = locks_less (a.owners.promise (object_on f)) q in
                let most = a.sums.most q in omega (arith, k, cut_off, most))
                (let k = both (OfToken token.Idle class (object_on f)) in omega (arith, k, none))
                (subst (λ o. RestNeverFails r.taken (λ maps. contract_of (truly maps) o
                ((truly maps).failed check.NotRunning span)
                (λ c. inhale (truly maps) (bind_on (object_on f)) c.after
                (add_token (truly maps) token.Idle class (object_on f)
                (ran (truly maps) p r.body false rest (drop 1 f.values))))
                (without_token token.Running r.state class (object_on f)))) named.1 n)
