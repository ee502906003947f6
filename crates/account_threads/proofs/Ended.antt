-- The end of the `run` of an object: what its postcondition asks for stays for the thread that joins.
use Rattle.std.proofs.Common.{◌≡◌, ℕ, suc, ℤ, ◌+◌, ◌≤◌, ◌<◌, Bool, true, false, if◌then◌else◌, Some, None, List, [], ◌∷◌, refl, ap, sym, subst, ◌∙◌, arith}
use Rattle.std.specs.Prelude.{nat_eq, not}
use Rattle.std.proofs.lemmas.Option.{none-some, same_Some}
use Rattle.pv_base.specs.declared.Name.{Name}
use Rattle.pv_ast.specs.declared.PvType.TheVariants.{Object}
use Rattle.pv_ast.specs.declared.Token.TheVariants as token
use Rattle.pv_values.specs.declared.value.Value.TheVariants as value
use Rattle.pv_fraction.specs.Amounts.{whole}
use Rattle.pv_picks.specs.declared.check.Check.TheVariants as check
use Rattle.pv_picks.specs.Plain.Core.{Formula, Method, Program}
use Rattle.pv_picks.specs.Plain.Members.{run_of}
use Rattle.pv_picks.specs.Formulas.Heaps.{Heap, at_number}
use Rattle.pv_picks.specs.Formulas.Meeting.{AllMet, unmet}
use Rattle.pv_picks.specs.Judge.States.{Resource, OfToken, OfLock}
use Rattle.pv_picks.specs.Machine.Starts.{field_kind}
use Rattle.pv_picks.specs.Machine.Frames.{Frame, contract_scene, sight_of, at_lengths_of, only_now, outer_scene}
use Rattle.pv_picks.specs.Machine.Worlds.{RunOf, MemberOf, ThreadState, World, Mode, with_frames, with_state, has_no_frame, is_held_back}
use Rattle.pv_picks.specs.Machine.Steps.{Result, needs_met, ended, returned, act_end, act_tasks, act_frames, act}
use Rattle.pv_picks.proofs.Sames.{naturals_same}
use Rattle.pv_picks.specs.Typing.Expressions.{silent}
use Rattle.pv_picks.specs.Typing.Frames.{HasType}
use Rattle.core_trees.specs.Formulas.{in_class}
use Rattle.pv_picks.specs.Judge.Judging.{finish}
use Rattle.account_formulas.specs.Runs.{truly}
use Rattle.account_formulas.specs.Giving.{Gave}
use Rattle.account_formulas.proofs.Basics.{nat_self}
use Rattle.account_formulas.specs.Good.{IsGood}
use Rattle.account_formulas.specs.Agreeing.{ScenesAgree}
use Rattle.account_formulas.specs.Owning.{Amounts, Owns, KeepsOwning}
use Rattle.account_formulas.specs.Growing.{Place, HeapFits}
use Rattle.account_formulas.specs.Gaining.{PredicatesFit}
use Rattle.account_formulas.proofs.Alike.{owns_alike}
use Rattle.account_formulas.proofs.Later.{owns_later}
use Rattle.account.specs.Frames as account
use Rattle.account.specs.Frames.{IsRunOf, IsBodyOf, AreRunsOf, all_of, amounts_of, sight_in}
use Rattle.account.specs.Owners.{Owners, total, without_locks, with_runs, SumsFit, LocksFit}
use Rattle.account.specs.Objects.{ObjectsFit, IsTakenFromNothing, RoleFits}
use Rattle.account.specs.Accounts.{Account, Kept}
use Rattle.account.proofs.Sums.{total_with_runs, total_with_promise}
use Rattle.account.proofs.Ended.{past_fits, end_scene, end_gives, end_met}
use Rattle.account_threads.specs.Parts.{RunsFit}
use Rattle.account.proofs.Locks.{locks_less, goes_on_locked}
use Rattle.account_threads.proofs.OfObject.{object_scene}
use Rattle.account.proofs.Stepping.{own_most}
use Rattle.account.proofs.Moving.{Families, families_of, owners_with}
use Rattle.account_threads.proofs.Ending.{no_role, families_end}
use Rattle.account_threads.proofs.Families.{role_restated, object_below, waits_kept}

same_number_of : (i j : ℕ) → ThreadState.Running i ≡ ThreadState.Running j → i ≡ j
same_number_of i j e = cc e

-- a formula of an object that can be taken from nothing is owned on
module _ (p : Program) (flags : ℕ → Bool) (heap : Heap) (sound : HeapFits p heap) (framed : PredicatesFit p heap)
    (class : Name) (x : ℕ) (typed : HasType heap (Object class) (value.Reference x)) (i : Formula)
    (good : IsGood (in_class p class) silent [] i) (stays : IsTakenFromNothing p flags heap (outer_scene x [] []) i) where
  abbrev taken_place : Place p heap
  taken_place = record {
    class = class;
    answer = None;
    speech = silent;
    scope = [];
    past = at_lengths_of heap stays.past;
    old = stays.old;
    known = stays.known;
    before = past_fits (field_kind p) heap stays.past stays.before;
    agrees = stays.agrees;
    lengths = λ a n is. is;
  }

  itself : ScenesAgree silent [] (outer_scene x [] []) (outer_scene x [] [])
  itself = record { this = refl; variables = λ n t is. refl; result = λ t is. refl }

  pub taken_stays : (part : Amounts) → ((q : Resource) → part q ≤ whole)
      → Owns p flags (record { now = heap; old = at_lengths_of heap stays.past }) (outer_scene x [] []) i part
      → KeepsOwning p flags heap (outer_scene x [] []) i part
  taken_stays part most owns later keeps =
      owns_alike (in_class p class) silent flags (record { now = later; old = at_lengths_of heap stays.past }) (only_now later)
      refl (λ speaks. absurd (cc speaks)) [] (outer_scene x [] []) (outer_scene x [] []) itself i good part
      (owns_later p flags heap sound framed taken_place (outer_scene x [] []) (object_scene p flags heap sound class x typed) i
      good part owns most stays.taken stays.state stays.settled stays.fits stays.none stays.empty stays.never
      (record { now = later; old = at_lengths_of heap stays.past }) keeps stays.agrees keeps.lengths (λ a n is. is))

module _ (p : Program) (w : World) (a : Account p w) (i : ℕ) (inside : i < w.count) (f : Frame)
    (stack : (w.threads i).frames ≡ f ∷ []) (tasks : f.tasks ≡ []) (x : ℕ) (role : (w.threads i).role ≡ RunOf x)
    (class : Name) (m : Method) (class_is : w.heap.class x ≡ Some class) (there : x < suc w.heap.count)
    (named : run_of p class ≡ Some m) (runs : w.state x ≡ ThreadState.Running i)
    (part : Amounts) (less : (q : Resource) → part q ≤ all_of (a.owners.runs i) q)
    (owns : KeepsOwning p w.committed w.heap (outer_scene x [] []) m.contract.after (without_locks part)) where
  abbrev after : Owners
  after = owners_with a.owners i [] (at_number x (without_locks part) a.owners.promise) a.owners.guard

  abbrev state : ℕ → ThreadState
  state = at_number x ThreadState.Ended w.state

  less_total : (q : Resource) → total after w.count (suc w.heap.count) q ≤ total a.owners w.count (suc w.heap.count) q
  less_total q =
      let one = total_with_runs a.owners w.count (suc w.heap.count) q i inside [] in
      let two = total_with_promise (with_runs a.owners i []) w.count (suc w.heap.count) q x there (without_locks part) in
      let k = less q in let cut_off = locks_less part q in
      omega (arith, one, two, k, cut_off)

  sums : SumsFit w.heap state w.committed (total after w.count (suc w.heap.count))
  sums = record {
    most = λ q. let k = less_total q in let most = a.sums.most q in omega (arith, k, most);
    placed = λ q some. a.sums.placed q (let k = less_total q in omega (arith, k, some));
    idle = λ c y some. is_idle y (nat_eq y x) refl
        (a.sums.idle c y (let k = less_total (OfToken token.Idle c y) in omega (arith, k, some)));
    running = λ c y some. is_running y (nat_eq y x)
        (a.sums.running c y (let k = less_total (OfToken token.Running c y) in omega (arith, k, some)));
    uncommitted =
        λ c y some. a.sums.uncommitted c y (let k = less_total (OfToken token.Uncommitted c y) in omega (arith, k, some));
  }
    where
      is_idle : (y : ℕ) (b : Bool) → nat_eq y x ≡ b → w.state y ≡ ThreadState.Idle
          → (if b then ThreadState.Ended else w.state y) ≡ ThreadState.Idle
      is_idle y false e is = is
      is_idle y true e is =
          let k = sym runs ∙ (ap w.state (sym (naturals_same y x e)) ∙ is) in absurd (cc k)

      is_running : (y : ℕ) (b : Bool) → (w.state y ≡ ThreadState.Idle → ⊥)
          → (if b then ThreadState.Ended else w.state y) ≡ ThreadState.Idle → ⊥
      is_running y false h is = h is
      is_running y true h is = absurd (cc is)

  locks : LocksFit w.count (suc w.heap.count) w.holder after
  locks = record {
    held = λ j k d y more. held j k d y (nat_eq j i) more;
    threads = a.locks.threads;
    objects_have_none = λ y k d z. none y k d z (nat_eq y x);
  }
    where
      held : (j : ℕ) → j < w.count → (d : Name) (y : ℕ) (b : Bool)
          → 1 ≤ all_of (if b then [] else a.owners.runs j) (OfLock d y) → w.holder y ≡ Some j
      held j k d y true more = absurd (omega (arith, more))
      held j k d y false more = a.locks.held j k d y more

      none : (y : ℕ) → y < suc w.heap.count → (d : Name) (z : ℕ) (b : Bool)
          → (if b then without_locks part else a.owners.promise y) (OfLock d z) + a.owners.guard y (OfLock d z) ≡ 0
      none y k d z true = let was = a.locks.objects_have_none y k d z in omega (arith, was)
      none y k d z false = a.locks.objects_have_none y k d z

  objects : ObjectsFit p w.committed w.heap state w.holder after.promise after.guard
  objects = record {
    promises = λ y c n k at is ends. promised y c n k at is (nat_eq y x) refl ends;
    guards = a.objects.guards;
  }
    where
      promised : (y : ℕ) (c : Name) (n : Method) → y < suc w.heap.count → w.heap.class y ≡ Some c → run_of p c ≡ Some n
          → (b : Bool) → nat_eq y x ≡ b → (if b then ThreadState.Ended else w.state y) ≡ ThreadState.Ended
          → KeepsOwning p w.committed w.heap (outer_scene y [] []) n.contract.after
          (if b then without_locks part else a.owners.promise y)
      promised y c n k at is false e ends = a.objects.promises y c n k at is ends
      promised y c n k at is true e ends =
          let same = naturals_same y x e in
          let one : class ≡ c = same_Some class c (sym class_is ∙ subst (λ z. w.heap.class z ≡ Some c) same at) in
          let two : m ≡ n = same_Some m n (sym named ∙ subst (λ z. run_of p z ≡ Some n) (sym one) is) in
          subst (λ z. KeepsOwning p w.committed w.heap (outer_scene z [] []) n.contract.after (without_locks part)) (sym same)
          (subst (λ z. KeepsOwning p w.committed w.heap (outer_scene x [] []) z.contract.after (without_locks part)) two owns)

  alone : (b : ℕ) (position : ℤ) → (w.threads i).role ≡ MemberOf b position → ⊥
  alone b position is = let k = sym role ∙ is in absurd (cc k)

  families : Families p w.committed w.heap w.count (at_number i (record { role = (w.threads i).role; frames = [] }) w.threads)
      w.block_count w.blocks w.state after
  families = families_end p w.committed w.heap w.count w.threads w.block_count w.blocks w.state a.owners i f stack tasks
      alone (at_number x (without_locks part) a.owners.promise) a.owners.guard (families_of p w a)

  roles : (j : ℕ) → j < w.count → RoleFits p w.committed w.heap state j
      (at_number i (record { role = (w.threads i).role; frames = [] }) w.threads j).role
      (at_number i (record { role = (w.threads i).role; frames = [] }) w.threads j).frames (at_number i [] a.owners.runs j)
  roles j k = by (nat_eq j i) refl
    where
      still : nat_eq j i ≡ false → (y : ℕ) → w.state y ≡ ThreadState.Running j → (b : Bool) → nat_eq y x ≡ b
          → (if b then ThreadState.Ended else w.state y) ≡ ThreadState.Running j
      still apart y is false e = is
      still apart y is true e =
          let same : i ≡ j = same_number_of i j (sym runs ∙ (ap w.state (sym (naturals_same y x e)) ∙ is)) in
          let self : nat_eq j i ≡ true = subst (λ z. nat_eq z i ≡ true) same (nat_self i) in
          absurd (cc (apart, self))

      by : (b : Bool) → nat_eq j i ≡ b → RoleFits p w.committed w.heap state j
          (if b then record { role = (w.threads i).role; frames = [] } else w.threads j).role
          (if b then record { role = (w.threads i).role; frames = [] } else w.threads j).frames
          (if b then [] else a.owners.runs j)
      by true e = no_role p w.committed w.heap state j (w.threads i).role
      by false e =
          role_restated p w.committed w.heap w.state state j (λ y is. still e y is (nat_eq y x) refl) (w.threads j).role
          (w.threads j).frames (a.owners.runs j) (a.roles j k)

  run_ended : Account p (with_state (with_frames w i []) x ThreadState.Ended)
  run_ended = record {
    owners = after;
    threads = families.threads_run;
    sums = sums;
    locks = locks;
    objects = objects;
    roles = roles;
    blocks = families.blocks_fit;
    mail = families.mail;
  }

-- a thread that stands at the end of the `run` of an object
pub run_returns : (p : Program) (w : World) (a : Account p w) → HeapFits p w.heap → PredicatesFit p w.heap → RunsFit p
    → (i : ℕ) (f : Frame) (x : ℕ) → (w.threads i).frames ≡ f ∷ [] → f.tasks ≡ [] → (w.threads i).role ≡ RunOf x
    → (mode : Mode) → Kept p (act p w mode i)
run_returns p w a sound framed parts i f x stack tasks role mode =
    subst (λ fs. Kept p (act_frames p w mode i fs)) (sym stack)
    (waits_kept p (not (is_held_back w i)) (act_tasks p w i f [] mode f.tasks)
    (by_runs (a.owners.runs i) refl (subst (λ fs. AreRunsOf p w.committed w.heap fs (a.owners.runs i)) stack
    (a.threads.frames i inside))
    (subst (λ fs. RoleFits p w.committed w.heap w.state i (RunOf x) fs (a.owners.runs i)) stack
    (subst (λ z. RoleFits p w.committed w.heap w.state i z (w.threads i).frames (a.owners.runs i)) role (a.roles i inside)))))
  where
    inside : i < w.count
    inside = a.threads.live i (ap has_no_frame stack)

    by_runs : (rs : List account.Run) → a.owners.runs i ≡ rs → AreRunsOf p w.committed w.heap (f ∷ []) rs
        → RoleFits p w.committed w.heap w.state i (RunOf x) (f ∷ []) rs
        → Kept p (act_tasks p w i f [] mode f.tasks)
    by_runs [] e fits is = absurd fits
    by_runs (r ∷ rs) e fits is =
        subst (λ ts. Kept p (act_tasks p w i f [] mode ts)) (sym tasks)
        (subst (λ z. Kept p (act_end p w i f [] z [])) (sym role)
        (subst (λ o. Kept p (needs_met o check.Ensures (Result.Went (returned p w i f [] [])))) (sym met)
        (subst (λ z. Account p (ended p w i f [] z)) (sym role)
        (run_ended p w a i inside f stack tasks x role f.class f.method is.class
        (object_below p w.heap sound f.class x is.class) is.method is.running gave.part
        (λ q. let g = gave.sum q in let same = ap (λ z. all_of z q) e in omega (arith, g, same))
        (goes_on_locked p w.committed w.heap (outer_scene x [] []) f.method.contract.after gave.part
        (taken_stays p w.committed w.heap sound framed f.class x typed f.method.contract.after good is.stays gave.part
        (λ q. let g = gave.sum q in let most = own_most p w a i inside (r ∷ rs) e q in omega (arith, g, most)) owns))))))
      where
        gave : Gave p w.committed w.heap r.taken (Owns p w.committed (sight_in w.heap r)
            (end_scene p w.committed w.heap f r fits.0 tasks) r.body.after) r.state r.state.held r.trees
            (λ maps. finish (truly maps))
        gave = end_gives p w.committed w.heap f r fits.0 tasks sound

        met : unmet (sight_of w.heap f) (contract_scene f) f.method.contract.after ≡ AllMet
        met = end_met p w.committed w.heap f r fits.0 tasks sound f.method is.body

        good : IsGood (in_class p f.class) silent [] f.method.contract.after
        good = parts.after f.class f.method is.method

        typed : HasType w.heap (Object f.class) (value.Reference x)
        typed = subst (λ z. HasType w.heap (Object f.class) (value.Reference z)) is.this fits.0.typed.this

        same : ScenesAgree silent [] (end_scene p w.committed w.heap f r fits.0 tasks) (outer_scene x [] [])
        same = record {
          this = fits.0.state.this ∙ is.this;
          variables = λ n t k. absurd (none-some t k);
          result = λ t k. absurd (none-some t k);
        }

        owns : Owns p w.committed (record { now = w.heap; old = at_lengths_of w.heap is.stays.past }) (outer_scene x [] [])
            f.method.contract.after gave.part
        owns =
            owns_alike (in_class p f.class) silent w.committed (sight_in w.heap r)
            (record { now = w.heap; old = at_lengths_of w.heap is.stays.past }) refl (λ speaks. absurd (cc speaks)) []
            (end_scene p w.committed w.heap f r fits.0 tasks) (outer_scene x [] []) same f.method.contract.after good gave.part
            (subst (λ z. Owns p w.committed (sight_in w.heap r) (end_scene p w.committed w.heap f r fits.0 tasks) z gave.part)
            is.body.after gave.owns)
