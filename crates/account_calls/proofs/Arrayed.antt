-- A new array keeps the account.
use Rattle.std.proofs.Common.{◌≡◌, ◌+◌, ◌≤◌, ◌<◌, ℕ, zero, suc, ℤ, pos, Bool, true, false, if◌then◌else◌, Some, List, ◌∷◌, refl, ap, sym, subst, ◌∙◌, arith}
use Rattle.std.specs.Prelude.{nat_eq, int_le, drop}
use Rattle.std.proofs.lemmas.Int.{ints}
use Rattle.std.proofs.lemmas.Option.{none-some, same_Some}
use Rattle.pv_base.specs.declared.Span.{Span}
use Rattle.pv_ast.specs.declared.PvType.{PvType}
use Rattle.pv_ast.specs.declared.PvType.TheVariants.{Int}
use Rattle.pv_values.specs.declared.value.Value.TheVariants as value
use Rattle.pv_fraction.specs.Amounts.{whole}
use Rattle.pv_picks.specs.Plain.Core.{Program}
use Rattle.pv_picks.specs.Formulas.Values.{array_of, default_of, number_in}
use Rattle.pv_picks.specs.Formulas.Heaps.{Heap, with_array}
use Rattle.pv_picks.specs.Machine.Labels.{Label}
use Rattle.pv_picks.specs.Machine.Starts.{field_kind}
use Rattle.pv_picks.specs.Judge.States.{Resource, State, amount_held, amount_of, holding, cell_among, is_among, plain_cell}
use Rattle.pv_picks.specs.Machine.Tasks.{Task, Stand, AtNewArray}
use Rattle.pv_picks.specs.Machine.Frames.{Frame, top, pops, pushes, settled, body_scene}
use Rattle.pv_picks.specs.Machine.Worlds.{World, Mode}
use Rattle.pv_picks.specs.Machine.Steps.{act_new_array, act_tasks, act}
use Rattle.pv_picks.specs.Typing.Heaps.{IsTypedHeap}
use Rattle.machine_laws.proofs.Typed.{step_typed}
use Rattle.pv_picks.specs.Typing.Expressions.{IsElement}
use Rattle.pv_picks.specs.Typing.Tasks.{makes_array}
use Rattle.pv_picks.specs.Typing.Frames.{ValuesFit}
use Rattle.machine_laws.proofs.Local.{rest-fits}
use Rattle.account_formulas.specs.Runs.{truly, RestNeverFails}
use Rattle.account_formulas.specs.Owning.{Amounts, KeepsHeld}
use Rattle.account_formulas.specs.Growing.{HeapFits}
use Rattle.account_formulas.specs.Gaining.{PredicatesFit}
use Rattle.account_formulas.proofs.Exhaling.{amount_holding}
use Rattle.account.specs.Verified.{IsVerifiedThroughout}
use Rattle.account.proofs.Supplying.{heap_fits}
use Rattle.account.proofs.Framing.{predicates_taken_in}
use Rattle.account.specs.Running.{ran}
use Rattle.account.specs.Scoped.{TasksSay, stands}
use Rattle.account.specs.Frames as account
use Rattle.account.specs.Frames.{standing_in, opened, AllTakeTurns, IsRunOf, AllWait, AreRunsOf, called_of, amounts_of, outer_of, all_of}
use Rattle.account.specs.Going.{Goes}
use Rattle.account.specs.Owners.{total}
use Rattle.account.specs.Messages.{TasksExchange}
use Rattle.account.specs.Accounts.{Account, Kept}
use Rattle.account.proofs.Sums.{runs_in_total}
use Rattle.account.proofs.Working.{frame_says}
use Rattle.account.proofs.LocalWork.{settled_goes, below_settled}
use Rattle.account.proofs.Stepping.{by_run, never_at, says_at}
use Rattle.account.proofs.Later.{Grown, trees_later, old_later, body_later, typed_later, stack_later, turns_later, below_later}
use Rattle.account.proofs.Moving.{settles, settled_leaves_not, first_goes_on, leaves_nothing}
use Rattle.account.proofs.Onward.{accounted}
use Rattle.account_calls.proofs.Making.{makes, made_state, grown_made, keeps_made, new_typed, new_placed, not_placed, state_made}

-- what is new in a new array
abbrev pub new_amounts : PvType → ℕ → ℕ → Amounts
new_amounts type a size q = if is_among type a (pos 0) (pos size) q then whole else 0

made_amount : (s : State) (type : PvType) (a size : ℕ) (q : Resource)
    → amount_of (made_state s type a size) q ≤ amount_of s q + new_amounts type a size q
made_amount s type a size q = go (is_among type a (pos 0) (pos size) q)
  where
    go : (b : Bool) → amount_held (if b then holding (amount_of s q + whole)
        (cell_among (s.held q) (λ i. plain_cell (default_of type)) q (pos 0)) else s.held q)
        ≤ amount_of s q + (if b then whole else 0)
    go true =
        let k = amount_holding (amount_of s q + whole)
        (cell_among (s.held q) (λ i. plain_cell (default_of type)) q (pos 0)) in omega (arith, k)
    go false = omega arith

-- the heap with the new array fits
array_fits : (p : Program) (heap : Heap) → HeapFits p heap → IsTypedHeap (field_kind p) heap → (type : PvType) → IsElement type
    → (size : ℕ) → HeapFits p (with_array heap (default_of type) size)
array_fits p heap sound typed type element size =
    heap_fits p (with_array heap (default_of type) size)
    (step_typed p (Some (Label.NewArray type (pos size))) heap (with_array heap (default_of type) size)
    (record { finds = tt; after = refl }) typed element)
    (λ a n is. go a n (nat_eq a (suc heap.count)) is)
  where
    go : (a : ℕ) (n : ℤ) (b : Bool) → (if b then Some (pos size) else heap.length a) ≡ Some n → int_le (pos 0) n ≡ true
    go a n true is = subst (λ z. int_le (pos 0) z ≡ true) (same_Some (pos size) n is) (natural size)
      where
        natural : (size : ℕ) → int_le (pos 0) (pos size) ≡ true
        natural size = by (int_le (pos 0) (pos size)) refl
          where
            by : (b : Bool) → int_le (pos 0) (pos size) ≡ b → b ≡ true
            by true e = refl
            by false e = absurd (omega (arith, ints, e))
    go a n false is = sound.natural a n is

module _ (p : Program) (verified : IsVerifiedThroughout p) (w : World) (sound : HeapFits p w.heap)
    (typed : IsTypedHeap (field_kind p) w.heap) (a : Account p w) (i : ℕ) (inside : i < w.count) (f : Frame) (below : List Frame)
    (stands_at : (w.threads i).frames ≡ f ∷ below) (type : PvType) (span : Span) (rest : List Task)
    (is : f.tasks ≡ Stand (AtNewArray type span) ∷ rest) where
  abbrev Behind : Frame
  Behind = pushes (value.Reference (suc w.heap.count)) (pops 1 f rest) rest

  abbrev Later : ℕ → Heap
  Later size = with_array w.heap (default_of type) size

  sound_later : IsElement type → (size : ℕ) → HeapFits p (Later size)
  sound_later element size = array_fits p w.heap sound typed type element size

  framed_later : IsElement type → (size : ℕ) → PredicatesFit p (Later size)
  framed_later element size =
      predicates_taken_in p verified (with_array w.heap (default_of type) size)
      (array_fits p w.heap sound typed type element size)

  run_made : (element : IsElement type) (size : ℕ) (r : account.Run) → IsRunOf p w.committed w.heap f r → (stack : List PvType)
      → ValuesFit w.heap stack (drop 1 f.values)
      → TasksSay (standing_in p f.class r.body r.outer) false r.scope r.given (array_of type ∷ stack) rest
      → RestNeverFails r.taken (λ maps. ran (truly maps) p r.body false rest
      (value.Reference (suc w.heap.count) ∷ drop 1 f.values)
      (made_state r.state type (suc w.heap.count) size))
      → IsRunOf p w.committed (Later size) Behind
      (record r { state = made_state r.state type (suc w.heap.count) size; inner = false; stack = array_of type ∷ stack })
  run_made element size r fits stack values says never =
      let grown = grown_made p w.committed w.heap sound typed type element size in
      let kept = keeps_made p w.committed w.heap sound typed type element size in
      let old_types = typed_later p w.committed w.heap (Later size) grown f r fits.typed in
      record {
        state = record {
          fits = state_made p w.committed w.heap sound typed type element size r.taken r.state fits.state.fits;
          this = fits.state.this;
          variables = fits.state.variables;
          result = fits.state.result;
          trees = trees_later p w.committed w.heap (Later size) r.state.instances r.trees fits.state.trees (kept r.trees);
        };
        old = old_later p w.committed w.heap (Later size) grown r.body.speech.old f.old r.past r.taken r.state.old fits.old;
        body = body_later p w.committed w.heap (Later size) grown f r.body fits.body;
        typed = record {
          this = old_types.this;
          variables = old_types.variables;
          result = old_types.result;
          values = (
            new_typed p w.committed w.heap sound typed type element size,
            stack_later p w.committed w.heap (Later size) grown stack (drop 1 f.values) values,
          );
        };
        tasks = frame_says (standing_in p f.class r.body r.outer) false r.scope r.given (array_of type ∷ stack) rest says;
        outer =
            turns_later p w.committed w.heap (Later size) grown f.class r.body r.past (body_scene f) (opened false rest) r.outer
            (kept (outer_of r.outer))
            (subst (λ ts. AllTakeTurns p w.committed w.heap f.class r.body r.past (body_scene f) (opened r.inner ts) r.outer) is
            fits.outer);
        never = never;
      }

  none_there : IsElement type → (size : ℕ) (q : Resource) → is_among type (suc w.heap.count) (pos 0) (pos size) q ≡ true
      → total a.owners w.count (suc w.heap.count) q ≡ 0
  none_there element size q h = by _ refl
    where
      by : (n : ℕ) → total a.owners w.count (suc w.heap.count) q ≡ n → n ≡ 0
      by zero k = refl
      by (suc n) k =
          absurd (not_placed p w.committed w.heap sound typed type element size q h (a.sums.placed q (omega (arith, k))))

  passes_test : (b : Bool) → 1 ≤ (if b then whole else 0) → b ≡ true
  passes_test true more = refl
  passes_test false more = absurd (omega (arith, more))

  array_keeps_by : (r : account.Run) (rs : List account.Run) → a.owners.runs i ≡ r ∷ rs
      → AreRunsOf p w.committed w.heap (f ∷ below) (r ∷ rs) → (stack : List PvType) → IsElement type
      → ValuesFit w.heap stack (drop 1 f.values)
      → TasksSay (standing_in p f.class r.body r.outer) false r.scope r.given (array_of type ∷ stack) rest
      → (size : ℕ)
      → RestNeverFails r.taken (λ maps. ran (truly maps) p r.body false rest
      (value.Reference (suc w.heap.count) ∷ drop 1 f.values)
      (made_state r.state type (suc w.heap.count) size))
      → Kept p (act_new_array p w i f below (pos size) type span rest)
  array_keeps_by r rs has fits stack element values says size never =
      accounted p w a i inside (Later size) (settled Behind ∷ below) (record {
        runs = go.run ∷ rs;
        fits = (
          go.fits,
          below_settled p w.committed (Later size) (sound_later element size) (framed_later element size) Behind run go below rs
              (below_later p w.committed w.heap (Later size) grown (called_of f r) below rs (kept (all_of rs)) fits.1),
        );
        goes = first_goes_on w.threads a.owners i f below stands_at r rs has (settled Behind) go.run
            (λ b ts at. absurd (cc (is, at)))
            (settles p w.committed (Later size) f Behind r run
            (record { class = refl; method = refl; this = refl; begun = refl; old = refl }) refl go
            (λ S R h. (subst (λ ts. TasksExchange S R ts) is h).1));
        leaves = leaves_nothing p w.committed (Later size) (w.threads i).role w.blocks a.owners (settled Behind) below
            (go.run ∷ rs)
            (a.owners.left i) (settled_leaves_not p w.committed (Later size) Behind run go);
        fresh = new_amounts type (suc w.heap.count) size;
        less = λ q. let l = go.less q in let m = made_amount r.state type (suc w.heap.count) size q in
            let same = ap (λ ys. all_of ys q) has in omega (arith, l, m, same);
        new = record {
          none = λ q more.
              let among = passes_test (is_among type (suc w.heap.count) (pos 0) (pos size) q) more in (
                none_there element size q among,
                at_most (is_among type (suc w.heap.count) (pos 0) (pos size) q),
                new_placed p w.committed w.heap sound typed type element size q among,
              );
          idle = λ c x more. absurd (omega (arith, more));
          running = λ c x more. absurd (omega (arith, more));
          uncommitted = λ c x more. absurd (omega (arith, more));
          lock = λ c x. refl;
          object = λ c x above below at. absurd (none-some c (sym (sound.beyond x above).class ∙ at));
        };
        grown = grown;
        null = λ c at. at;
        keeps = λ B less. kept B;
      })
    where
      grown : Grown w.heap (Later size)
      grown = grown_made p w.committed w.heap sound typed type element size

      kept : (A : Amounts) → KeepsHeld A w.heap (Later size)
      kept = keeps_made p w.committed w.heap sound typed type element size

      run : account.Run
      run = record r { state = made_state r.state type (suc w.heap.count) size; inner = false; stack = array_of type ∷ stack }

      most : (q : Resource) → amounts_of (record r {
        state = made_state r.state type (suc w.heap.count) size;
        inner = false;
        stack = array_of type ∷ stack;
      }) q ≤ whole
      most q = by (is_among type (suc w.heap.count) (pos 0) (pos size) q) refl
          (made_amount r.state type (suc w.heap.count) size q)
        where
          one : all_of (r ∷ rs) q ≤ total a.owners w.count (suc w.heap.count) q
          one =
              let k = runs_in_total a.owners w.count (suc w.heap.count) q i inside in
              let same = ap (λ x. all_of x q) has in omega (arith, k, same)

          by : (b : Bool) → is_among type (suc w.heap.count) (pos 0) (pos size) q ≡ b
              → amount_of (made_state r.state type (suc w.heap.count) size) q ≤ amount_of r.state q + (if b then whole else 0)
              → amount_of (made_state r.state type (suc w.heap.count) size) q + r.trees q + outer_of r.outer q ≤ whole
          by true e m = let z = none_there element size q e in let k = one in omega (arith, z, k, m)
          by false e m = let t = a.sums.most q in let k = one in omega (arith, t, k, m)

      go : Goes p w.committed (Later size) (settled Behind) (record r {
        state = made_state r.state type (suc w.heap.count) size;
        inner = false;
        stack = array_of type ∷ stack;
      })
      go = settled_goes p w.committed (Later size) (sound_later element size) (framed_later element size) Behind
          (record r { state = made_state r.state type (suc w.heap.count) size; inner = false; stack = array_of type ∷ stack })
          (run_made element size r fits.0 stack values says never) says most

      at_most : (b : Bool) → (if b then whole else 0) ≤ whole
      at_most true = omega arith
      at_most false = omega arith

  -- what stands at the new array says its type, and the run doesn't fail there
  array_by : (mode : Mode) (r : account.Run) (rs : List account.Run) → a.owners.runs i ≡ r ∷ rs
      → AreRunsOf p w.committed w.heap (f ∷ below) (r ∷ rs)
      → Kept p (act_new_array p w i f below (number_in (top f.values)) type span rest)
  array_by mode r rs has fits = go r.stack r.inner (says_at p w f r fits.0 (AtNewArray type span) rest is)
      fits.0.typed.values (never_at p w f r fits.0 (AtNewArray type span) rest is)
    where
      go : (before : List PvType) (inner : Bool)
          → TasksSay (standing_in p f.class r.body r.outer) inner r.scope r.given before (Stand (AtNewArray type span) ∷ rest)
          → ValuesFit w.heap before f.values
          → RestNeverFails r.taken (λ maps. ran (truly maps) p r.body inner
          (Stand (AtNewArray type span) ∷ rest) f.values r.state)
          → Kept p (act_new_array p w i f below (number_in (top f.values)) type span rest)
      go before inner (stands _ (makes_array {stack = stack} {array = array} same element) speaks says) values never =
          let made = makes r.taken type element (number_in (top f.values)) span
          (λ maps v. ran (truly maps) p r.body false rest (v ∷ drop 1 f.values)) r.state w.heap.count fits.0.state.fits.met
          never in
          subst (λ z. Kept p (act_new_array p w i f below z type span rest)) (sym made.1)
          (array_keeps_by r rs has fits stack element (rest-fits w.heap Int stack f.values values)
          (subst (λ t. TasksSay (standing_in p f.class r.body r.outer) false r.scope r.given (t ∷ stack) rest) same says)
          made.0 made.2)

  pub array_keeps : (mode : Mode) → Kept p (act p w mode i)
  array_keeps mode = by_run p w a i inside f below stands_at mode (λ r rs has fits.
      subst (λ ts. Kept p (act_tasks p w i f below mode ts)) (sym is) (array_by mode r rs has fits))
