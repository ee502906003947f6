-- The label of a fork: what the precondition of `run` asks for goes to a new thread.
use Rattle.std.proofs.Common.{◌≡◌, ℕ, suc, ◌+◌, ◌≤◌, ◌<◌, Bool, true, false, if◌then◌else◌, Some, List, [], ◌∷◌, refl, ap, sym, subst, ◌∙◌, arith}
use Rattle.std.specs.Prelude.{nat_eq, nat_le, drop}
use Rattle.std.proofs.lemmas.Option.{same_Some}
use Rattle.pv_base.specs.declared.Name.{Name}
use Rattle.pv_base.specs.declared.Span.{Span}
use Rattle.pv_ast.specs.declared.Token.TheVariants as token
use Rattle.pv_fraction.specs.Amounts.{whole}
use Rattle.pv_picks.specs.declared.check.Check.TheVariants as check
use Rattle.pv_picks.specs.Plain.Core.{Method, Fork, Program}
use Rattle.pv_picks.specs.Plain.Members.{run_of}
use Rattle.pv_picks.specs.Formulas.Heaps.{at_number}
use Rattle.pv_picks.specs.Formulas.Meeting.{AllMet, unmet, found_met}
use Rattle.pv_picks.specs.Judge.States as states
use Rattle.pv_picks.specs.Judge.States.{Resource, OfToken, OfLock, same_token, same_resource}
use Rattle.pv_picks.specs.Judge.Permissions.{add_token}
use Rattle.pv_picks.specs.Judge.Rows.{bind_on, exhale_at}
use Rattle.pv_picks.specs.Judge.Judging.{contract_of}
use Rattle.pv_picks.specs.Machine.Tasks.{AtAction, Task, Stand}
use Rattle.pv_picks.specs.Machine.Frames.{Frame, pops, settled, entered, only_now, outer_scene}
use Rattle.pv_picks.specs.Machine.Worlds.{RunOf, ThreadState, World, Mode, with_frames, with_thread, with_state, has_no_frame}
use Rattle.pv_picks.specs.Machine.Steps.{Result, needs, not_null, act_fork, act_tasks, act}
use Rattle.pv_picks.proofs.Sames.{naturals_same, resources_same}
use Rattle.account_formulas.specs.Runs.{truly, RestNeverFails}
use Rattle.account_formulas.specs.Owning.{IsPlaced, Owns, KeepsOwning}
use Rattle.account_formulas.specs.Growing.{HeapFits}
use Rattle.account_formulas.specs.Gaining.{PredicatesFit}
use Rattle.account_formulas.proofs.Basics.{at_most, only}
use Rattle.account.specs.Running.{ran}
use Rattle.account.specs.Frames as account
use Rattle.account.specs.Frames.{standing_in, IsBodyOf, AreRunsOf, all_of, amounts_of}
use Rattle.account.specs.Owners.{Owners, carried_by, nothing, total, without_locks, SumsFit, LocksFit}
use Rattle.account.specs.Objects.{ObjectsFit, IsTakenFromNothing, IsThreadOf}
use Rattle.account.specs.Verified.{IsVerifiedThroughout}
use Rattle.account.specs.Going.{Begins}
use Rattle.account.proofs.Beginning.{begins}
use Rattle.pv_picks.specs.Typing.Blocks.{types_of, over}
use Rattle.pv_picks.specs.Typing.Expressions.{silent}
use Rattle.pv_picks.specs.Typing.Frames.{HasType}
use Rattle.pv_ast.specs.declared.PvType.TheVariants.{Object}
use Rattle.pv_values.specs.declared.value.Value.TheVariants as value
use Rattle.core_trees.specs.Formulas.{in_class}
use Rattle.account_formulas.specs.Good.{IsGood}
use Rattle.account_formulas.specs.Gaining.{AreTyped}
use Rattle.account_formulas.specs.Sights.{SceneFits}
use Rattle.account.specs.Accounts.{Account, Kept}
use Rattle.account.specs.Going.{Goes}
use Rattle.account.proofs.LocalWork.{settled_goes}
use Rattle.account.proofs.Sums.{at_same, runs_in_total, total_with_runs}
use Rattle.machine_laws.proofs.Members.{below_other}
use Rattle.account.proofs.Stepping.{own_most, by_run, is_not_null}
use Rattle.account_threads.specs.Parts.{RunsFit}
use Rattle.account.proofs.Locks.{locks_less, owns_locked}
use Rattle.account_threads.proofs.OfObject.{by_test, object_scene}
use Rattle.account_threads.proofs.Acting.{object_on, allowed, acts_on_class}
use Rattle.account_threads.proofs.Forking.{ForkGoes, forks_go, run_stays}
use Rattle.account_threads.proofs.Joining.{without_token}
use Rattle.account_threads.proofs.Joined.{other_token}
use Rattle.account_threads.proofs.Adding.{with_more, families_add, total_with_more}
use Rattle.account_threads.proofs.Going.{families_go}
use Rattle.account_threads.proofs.Locked.{nothing_of}
use Rattle.account.proofs.Moving.{first_same, closes_not, Families, families_of, owners_with}
use Rattle.account_threads.proofs.Families.{families_restated, object_is}

module _ (p : Program) (w : World) (a : Account p w) (sound : HeapFits p w.heap) (framed : PredicatesFit p w.heap)
    (i : ℕ) (f : Frame) (below : List Frame) (stack : (w.threads i).frames ≡ f ∷ below)
    (inside : i < w.count) (class : Name) (span : Span) (rest : List Task)
    (is : f.tasks ≡ Stand (AtAction Fork class span) ∷ rest)
    (class_is : w.heap.class (object_on f) ≡ Some class) (idles : w.state (object_on f) ≡ ThreadState.Idle)
    (r : account.Run) (rs : List account.Run) (has_runs : a.owners.runs i ≡ r ∷ rs)
    (fits : AreRunsOf p w.committed w.heap (f ∷ below) (r ∷ rs))
    (m : Method) (named : run_of p class ≡ Some m) (g : ForkGoes p w.committed w.heap f r class m rest)
    (begun : Begins p w.committed w.heap class m (object_on f) [] (without_locks g.part))
    (stays : IsTakenFromNothing p w.committed w.heap (outer_scene (object_on f) [] []) m.contract.after) where
  -- the token that comes
  abbrev running : Resource
  running = OfToken token.Running class (object_on f)

  none_running : total a.owners w.count (suc w.heap.count) (OfToken token.Running class (object_on f)) ≡ 0
  none_running = nothing_of (total a.owners w.count (suc w.heap.count) (OfToken token.Running class (object_on f)))
      (λ more. a.sums.running class (object_on f) more idles)

  most : (q : Resource) (b : Bool) → same_resource q running ≡ b → amounts_of g.run q ≤ whole
  most q true e =
      let same = resources_same q (OfToken token.Running class (object_on f)) e in
      let zero' = ap (λ z. total a.owners w.count (suc w.heap.count) z) same ∙ none_running in
      let own = runs_in_total a.owners w.count (suc w.heap.count) q i inside in let have = ap (λ x. all_of x q) has_runs in
      let less = g.less q in let at = ap (λ x. if x then whole else 0) e in
      omega (arith, zero', own, have, less, at)
  most q false e =
      let own = own_most p w a i inside (r ∷ rs) has_runs q in
      let less = g.less q in let at = ap (λ x. if x then whole else 0) e in
      omega (arith, own, less, at)

  done : Goes p w.committed w.heap (settled (pops 1 f rest)) g.run
  done = settled_goes p w.committed w.heap sound framed (pops 1 f rest) g.run g.fits g.says
      (λ q. most q (same_resource q running) refl)

  abbrev moved : Owners
  moved = owners_with a.owners i (done.run ∷ rs) a.owners.promise a.owners.guard

  abbrev after : Owners
  after = with_more moved w.count (begun.run ∷ [])

  abbrev state : ℕ → ThreadState
  state = at_number (object_on f) (ThreadState.Running w.count) w.state

  abbrev first : Frame
  first = entered w.heap class m (object_on f) []

  -- no more is owned than before, and the token
  more_total : (q : Resource) → total after (suc w.count) (suc w.heap.count) q
      ≤ total a.owners w.count (suc w.heap.count) q + only running whole q
  more_total q =
      let one = total_with_runs a.owners w.count (suc w.heap.count) q i inside (done.run ∷ rs) in
      let two = total_with_more moved w.count (suc w.heap.count) (begun.run ∷ []) q in
      let same = ap (λ x. all_of x q) has_runs in
      let less = g.less q in let work = done.less q in let new = begun.less q in
      let cut_off = locks_less g.part q in
      omega (arith, one, two, same, less, work, new, cut_off)

  -- the other token is gone
  gone : 1 ≤ total after (suc w.count) (suc w.heap.count) (OfToken token.Idle class (object_on f)) → ⊥
  gone more =
      let one = total_with_runs a.owners w.count (suc w.heap.count) (OfToken token.Idle class (object_on f)) i inside
      (done.run ∷ rs) in
      let two = total_with_more moved w.count (suc w.heap.count) (begun.run ∷ []) (OfToken token.Idle class (object_on f)) in
      let same = ap (λ x. all_of x (OfToken token.Idle class (object_on f))) has_runs in
      let free = g.free in let work = done.less (OfToken token.Idle class (object_on f)) in
      let new = begun.less (OfToken token.Idle class (object_on f)) in
      let cut_off = locks_less g.part (OfToken token.Idle class (object_on f)) in
      let most = a.sums.most (OfToken token.Idle class (object_on f)) in
      omega (arith, one, two, same, free, work, new, cut_off, most, more)

  sums : SumsFit w.heap state w.committed (total after (suc w.count) (suc w.heap.count))
  sums = record {
    most = λ q. at_most q (same_resource q running) refl;
    placed = λ q some. placed q (same_resource q running) refl some;
    idle = λ c x some. is_idle c x some (nat_eq x (object_on f)) refl;
    running = λ c x some. is_running c x some (nat_eq x (object_on f)) refl;
    uncommitted =
        λ c x some. a.sums.uncommitted c x (let more = more_total (OfToken token.Uncommitted c x) in omega (arith, more, some));
  }
    where
      at_most : (q : Resource) (b : Bool) → same_resource q running ≡ b
          → total after (suc w.count) (suc w.heap.count) q ≤ whole
      at_most q true e =
          let same = resources_same q (OfToken token.Running class (object_on f)) e in
          let zero' = ap (λ z. total a.owners w.count (suc w.heap.count) z) same ∙ none_running in
          let more = more_total q in let at = ap (λ x. if x then whole else 0) e in
          omega (arith, zero', more, at)
      at_most q false e =
          let more = more_total q in let at = ap (λ x. if x then whole else 0) e in let sum = a.sums.most q in
          omega (arith, more, at, sum)

      placed : (q : Resource) (b : Bool) → same_resource q running ≡ b
          → 1 ≤ total after (suc w.count) (suc w.heap.count) q → IsPlaced w.heap q
      placed q true e some =
          subst (IsPlaced w.heap) (sym (resources_same q (OfToken token.Running class (object_on f)) e)) class_is
      placed q false e some =
          a.sums.placed q (let more = more_total q in let at = ap (λ x. if x then whole else 0) e in
          omega (arith, more, at, some))

      is_running : (c : Name) (x : ℕ) → 1 ≤ total after (suc w.count) (suc w.heap.count) (OfToken token.Running c x)
          → (b : Bool) → nat_eq x (object_on f) ≡ b
          → (if b then ThreadState.Running w.count else w.state x) ≡ ThreadState.Idle → ⊥
      is_running c x some true e idles' = absurd (cc idles')
      is_running c x some false e idles' =
          a.sums.running c x (let more = more_total (OfToken token.Running c x) in
          let none = other_token token.Running token.Running c class x (object_on f) e in omega (arith, more, none, some)) idles'

      is_idle : (c : Name) (x : ℕ) → 1 ≤ total after (suc w.count) (suc w.heap.count) (OfToken token.Idle c x)
          → (b : Bool) → nat_eq x (object_on f) ≡ b
          → (if b then ThreadState.Running w.count else w.state x) ≡ ThreadState.Idle
      is_idle c x some false e =
          a.sums.idle c x (let more = more_total (OfToken token.Idle c x) in omega (arith, more, some))
      is_idle c x some true e =
          let same = naturals_same x (object_on f) e in
          let placed : w.heap.class x ≡ Some c = a.sums.placed (OfToken token.Idle c x)
          (let more = more_total (OfToken token.Idle c x) in omega (arith, more, some)) in
          let one : c ≡ class = same_Some c class
          (sym placed ∙ subst (λ z. w.heap.class z ≡ Some class) (sym same) class_is) in
          let both : OfToken token.Idle c x ≡ OfToken token.Idle class (object_on f) =
          ap (λ z. OfToken token.Idle z x) one ∙ ap (OfToken token.Idle class) same in
          absurd (gone (subst (λ z. 1 ≤ total after (suc w.count) (suc w.heap.count) z) both some))

  locks : LocksFit (suc w.count) (suc w.heap.count) w.holder after
  locks = record {
    held = λ j k d x more. held j k d x (nat_eq j w.count) refl (nat_eq j i) refl more;
    threads = λ j k d x. lies j k d x (nat_eq j w.count) refl;
    objects_have_none = a.locks.objects_have_none;
  }
    where
      held : (j : ℕ) → j < suc w.count → (d : Name) (x : ℕ) (c : Bool) → nat_eq j w.count ≡ c → (b : Bool) → nat_eq j i ≡ b
          → 1 ≤ all_of (if c then begun.run ∷ [] else (if b then done.run ∷ rs else a.owners.runs j)) (OfLock d x)
          → w.holder x ≡ Some j
      held j k d x true e b own more = let new = begun.less (OfLock d x) in absurd (omega (arith, new, more))
      held j k d x false e true own more =
          a.locks.held i inside d x
          (let work = done.less (OfLock d x) in let had = g.less (OfLock d x) in
          let same = ap (λ z. all_of z (OfLock d x)) has_runs in
          omega (arith, work, had, same, more))
          ∙ ap Some (sym (naturals_same j i own))
      held j k d x false e false own more = a.locks.held j (below_other j w.count e k) d x more

      lies : (j : ℕ) → j < suc w.count → (d : Name) (x : ℕ) (c : Bool) → nat_eq j w.count ≡ c
          → (if c then nothing else a.owners.left j) (OfLock d x) + carried_by (if c then [] else a.owners.mail j) (OfLock d x)
          ≡ 0
      lies j k d x true e = refl
      lies j k d x false e = a.locks.threads j (below_other j w.count e k) d x

  objects : ObjectsFit p w.committed w.heap state w.holder after.promise after.guard
  objects = record {
    promises = λ x c n k at is ends. promised x c n k at is (nat_eq x (object_on f)) ends;
    guards = a.objects.guards;
  }
    where
      promised : (x : ℕ) (c : Name) (n : Method) → x < suc w.heap.count → w.heap.class x ≡ Some c → run_of p c ≡ Some n
          → (b : Bool) → (if b then ThreadState.Running w.count else w.state x) ≡ ThreadState.Ended
          → KeepsOwning p w.committed w.heap (outer_scene x [] []) n.contract.after (a.owners.promise x)
      promised x c n k at is false ends = a.objects.promises x c n k at is ends
      promised x c n k at is true ends = absurd (cc ends)

  -- who runs goes on to do so
  runs_still : (x j : ℕ) → w.state x ≡ ThreadState.Running j → state x ≡ ThreadState.Running j
  runs_still x j runs = by (nat_eq x (object_on f)) refl
    where
      by : (b : Bool) → nat_eq x (object_on f) ≡ b
          → (if b then ThreadState.Running w.count else w.state x) ≡ ThreadState.Running j
      by false e = runs
      by true e =
          let k = sym idles ∙ (ap w.state (sym (naturals_same x (object_on f) e)) ∙ runs) in absurd (cc k)

  -- the new thread runs the `run` of the object
  runs_it : IsThreadOf p w.committed w.heap state w.count (object_on f) first begun.run
  runs_it =
      let same_class : first.class ≡ class = ap (λ z. z.class) begun.called in
      let same_method : first.method ≡ m = ap (λ z. z.method) begun.called in
      record {
        this = ap (λ z. z.this) begun.called;
        class = subst (λ z. w.heap.class (object_on f) ≡ Some z) (sym same_class) class_is;
        method = subst (λ z. run_of p z ≡ Some first.method) (sym same_class)
            (subst (λ z. run_of p class ≡ Some z) (sym same_method) named);
        running = at_same (object_on f) (ThreadState.Running w.count) w.state;
        body = subst (λ z. IsBodyOf z begun.run.body) (sym same_method) begun.body;
        stays = subst (λ z. IsTakenFromNothing p w.committed w.heap (outer_scene (object_on f) [] []) z.contract.after)
            (sym same_method) stays;
      }

  families : Families p w.committed w.heap (suc w.count)
      (at_number w.count (record { role = RunOf (object_on f); frames = first ∷ [] })
      (at_number i (record { role = (w.threads i).role; frames = settled (pops 1 f rest) ∷ below }) w.threads)) w.block_count
      w.blocks state after
  families =
      families_add p w.committed w.heap w.count
      (at_number i (record { role = (w.threads i).role; frames = settled (pops 1 f rest) ∷ below }) w.threads) w.block_count
      w.blocks state moved (record { role = RunOf (object_on f); frames = first ∷ [] }) (begun.run ∷ []) (begun.fits, tt) runs_it
      (λ b position e. absurd (cc e))
      (λ h hs b ts e t. closes_not (standing_in p first.class begun.run.body begun.run.outer) begun.run.inner begun.run.scope
      begun.run.given begun.run.stack first begun.says b ts (ap (λ z. z.tasks) (first_same first h [] hs e) ∙ t))
      (families_restated p w.committed w.heap w.count
      (at_number i (record { role = (w.threads i).role; frames = settled (pops 1 f rest) ∷ below }) w.threads) w.block_count
      w.blocks w.state state moved runs_still
      (families_go p w.committed w.heap sound framed f r fits.0 Fork class span rest is g.run g.past g.body done w.count w.threads
      w.block_count w.blocks w.state a.owners i below stack rs has_runs fits.1 a.owners.promise a.owners.guard
      (families_of p w a)))

  forked : Account p (with_state (with_thread (with_frames w i (settled (pops 1 f rest) ∷ below))
      (record { role = RunOf (object_on f); frames = first ∷ [] })) (object_on f) (ThreadState.Running w.count))
  forked = record {
    owners = after;
    threads = families.threads_run;
    sums = sums;
    locks = locks;
    objects = objects;
    roles = families.roles;
    blocks = families.blocks_fit;
    mail = families.mail;
  }

-- a thread that stands at a fork
pub fork_keeps : (p : Program) → IsVerifiedThroughout p → RunsFit p → (w : World) (a : Account p w) → HeapFits p w.heap
    → PredicatesFit p w.heap
    → (i : ℕ) (f : Frame) (below : List Frame) (class : Name) (span : Span) (rest : List Task)
    → (w.threads i).frames ≡ f ∷ below → f.tasks ≡ Stand (AtAction Fork class span) ∷ rest
    → (mode : Mode) → Kept p (act p w mode i)
fork_keeps p verified parts w a sound framed i f below class span rest stack is mode =
    by_run p w a i inside f below stack mode by_runs
  where
    inside : i < w.count
    inside = a.threads.live i (ap has_no_frame stack)

    by_runs : (r : account.Run) (rs : List account.Run) → a.owners.runs i ≡ r ∷ rs
        → AreRunsOf p w.committed w.heap (f ∷ below) (r ∷ rs) → Kept p (act_tasks p w i f below mode f.tasks)
    by_runs r rs e fits =
        subst (λ ts. Kept p (act_tasks p w i f below mode ts)) (sym is)
        (by_test r.taken (nat_eq (object_on f) 0) _ _
        (subst (λ ts. RestNeverFails r.taken (λ maps. ran (truly maps) p r.body r.inner ts f.values r.state)) is fits.0.never)
        (λ z n. absurd (n.never [] check.Null span refl))
        (λ full n. by_test r.taken (nat_le whole (states.amount_of r.state (OfToken token.Idle class (object_on f)))) _ _ n
        (λ has n. goes full (at_most whole (states.amount_of r.state (OfToken token.Idle class (object_on f))) has)
        (subst (λ o. RestNeverFails r.taken (λ maps. contract_of (truly maps) o ((truly maps).failed check.ForkRequires span)
        (λ c. exhale_at (truly maps) check.ForkRequires span (bind_on (object_on f)) c.before
        (add_token (truly maps) token.Running class (object_on f) (ran (truly maps) p r.body false rest (drop 1 f.values))))
        (without_token token.Idle r.state class (object_on f)))) named.1 n))
        (λ z n. absurd (n.never [] check.NotIdle span refl))))
      where
        named : (m : Method) × (run_of p class ≡ Some m)
        named = allowed p w.committed w.heap f r fits.0 Fork class span rest is

        typed : HasType w.heap (Object class) (value.Reference (object_on f))
        typed = acts_on_class p w.committed w.heap f r fits.0 Fork class span rest is

        none : named.0.parameters ≡ []
        none = parts.parameters class named.0 named.1

        goes : nat_eq (object_on f) 0 ≡ false → whole ≤ states.amount_of r.state (OfToken token.Idle class (object_on f))
            → RestNeverFails r.taken (λ maps. exhale_at (truly maps) check.ForkRequires span (bind_on (object_on f))
            named.0.contract.before (add_token (truly maps) token.Running class (object_on f)
            (ran (truly maps) p r.body false rest (drop 1 f.values))) (without_token token.Idle r.state class (object_on f)))
            → Kept p (needs (not_null (object_on f)) check.Null span
            (act_fork p w i f below (w.state (object_on f)) (run_of p class) class (object_on f) span rest))
        goes full much n =
            subst (λ b. Kept p (needs b check.Null span
            (act_fork p w i f below (w.state (object_on f)) (run_of p class) class (object_on f) span rest)))
            (sym (is_not_null (object_on f) full))
            (subst (λ s. Kept p (act_fork p w i f below s (run_of p class) class (object_on f) span rest)) (sym idles)
            (subst (λ o. Kept p (act_fork p w i f below ThreadState.Idle o class (object_on f) span rest)) (sym named.1)
            (subst (λ z. Kept p (needs (found_met z) check.ForkRequires span (Result.Went next))) (sym met)
            (forked p w a sound framed i f below stack inside class span rest is class_is idles r rs e fits named.0 named.1 g
            begun stays))))
          where
            next : World
            next = with_state (with_thread (with_frames w i (settled (pops 1 f rest) ∷ below))
                (record { role = RunOf (object_on f); frames = entered w.heap class named.0 (object_on f) [] ∷ [] }))
                (object_on f)
                (ThreadState.Running w.count)

            class_is : w.heap.class (object_on f) ≡ Some class
            class_is = object_is w.heap class (object_on f) full typed

            idles : w.state (object_on f) ≡ ThreadState.Idle
            idles = a.sums.idle class (object_on f)
                (let own = runs_in_total a.owners w.count (suc w.heap.count) (OfToken token.Idle class (object_on f)) i inside in
                let same = ap (λ x. all_of x (OfToken token.Idle class (object_on f))) e in omega (arith, own, same, much))

            unset : states.amount_of r.state (OfToken token.Running class (object_on f)) ≡ 0
            unset = nothing_of (states.amount_of r.state (OfToken token.Running class (object_on f)))
                (λ more. a.sums.running class (object_on f)
                (let own = runs_in_total a.owners w.count (suc w.heap.count)
                (OfToken token.Running class (object_on f)) i inside in
                let same =
                ap (λ x. all_of x (OfToken token.Running class (object_on f))) e in omega (arith, own, same, more)) idles)

            g : ForkGoes p w.committed w.heap f r class named.0 rest
            g = forks_go p w.committed w.heap sound f r fits.0 class span rest is named.0 (parts.before class named.0 named.1)
                class_is much unset n

            met : unmet (only_now w.heap) (outer_scene (object_on f) named.0.parameters []) named.0.contract.before ≡ AllMet
            met =
                subst (λ ps. unmet (only_now w.heap) (outer_scene (object_on f) ps []) named.0.contract.before ≡ AllMet)
                (sym none)
                g.met

            good : IsGood (in_class p class) silent (over [] named.0.parameters) named.0.contract.before
            good = subst (λ ps. IsGood (in_class p class) silent (over [] ps) named.0.contract.before) (sym none)
                (parts.before class named.0 named.1)

            all : AreTyped w.heap (types_of named.0.parameters) []
            all = subst (λ ps. AreTyped w.heap (types_of ps) []) (sym none) tt

            scene : SceneFits (in_class p class) silent (over [] named.0.parameters) w.heap
                (outer_scene (object_on f) named.0.parameters [])
            scene =
                subst (λ ps. SceneFits (in_class p class) silent (over [] ps) w.heap (outer_scene (object_on f) ps [])) (sym none)
                (object_scene p w.committed w.heap sound class (object_on f) typed)

            owns : Owns p w.committed (only_now w.heap) (outer_scene (object_on f) named.0.parameters []) named.0.contract.before
                (without_locks g.part)
            owns = subst (λ ps. Owns p w.committed (only_now w.heap) (outer_scene (object_on f) ps []) named.0.contract.before
                (without_locks g.part)) (sym none)
                (owns_locked p w.committed (only_now w.heap) (outer_scene (object_on f) [] []) named.0.contract.before g.part
                g.owns)

            part_most : (q : Resource) → without_locks g.part q ≤ whole
            part_most q =
                let own = own_most p w a i inside (r ∷ rs) e q in let less = g.part_less q in
                let cut_off = locks_less g.part q in omega (arith, own, less, cut_off)

            begun : Begins p w.committed w.heap class named.0 (object_on f) [] (without_locks g.part)
            begun = begins p w.committed w.heap sound framed class named.0 (verified.typed.runs class named.0 named.1).0
                (verified.typed.bodies.runs class named.0 named.1).0 good (verified.runs class named.0 named.1) (object_on f) []
                full typed all (without_locks g.part) part_most owns

            stays : IsTakenFromNothing p w.committed w.heap (outer_scene (object_on f) [] []) named.0.contract.after
            stays = run_stays p w.committed w.heap sound framed class named.0 none (parts.result class named.0 named.1)
                (verified.typed.runs class named.0 named.1).0.0 good (verified.runs class named.0 named.1)
                (object_on f) full typed
                all scene (without_locks g.part) part_most owns
