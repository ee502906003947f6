-- A new object keeps the account.
use Rattle.std.proofs.Common.{◌≡◌, ◌+◌, ◌≤◌, ◌<◌, ℕ, zero, suc, Bool, true, false, ◌&&◌, if◌then◌else◌, Some, List, ◌∷◌, refl, ap, sym, subst, ◌∙◌, arith}
use Rattle.std.specs.Prelude.{nat_eq}
use Rattle.pv_base.specs.declared.Name.{Name}
use Rattle.pv_ast.specs.declared.PvType.{PvType}
use Rattle.pv_ast.specs.declared.PvType.TheVariants.{Object}
use Rattle.pv_values.specs.declared.value.Value.TheVariants as value
use Rattle.pv_base.specs.Names.{same_name}
use Rattle.pv_fraction.specs.Amounts.{whole}
use Rattle.pv_picks.specs.Plain.Core.{Program}
use Rattle.pv_picks.specs.Plain.Members.{fields_of}
use Rattle.pv_picks.specs.Formulas.Heaps.{Heap, with_object}
use Rattle.pv_picks.specs.Machine.Starts.{field_kind}
use Rattle.pv_picks.specs.Judge.States.{Resource, State, amount_of}
use Rattle.pv_picks.specs.Machine.Tasks.{Task, Stand, AtNewObject}
use Rattle.pv_picks.specs.Machine.Frames.{Frame, pushes, settled, body_scene}
use Rattle.pv_picks.specs.Machine.Worlds.{World, Mode, ThreadState}
use Rattle.pv_picks.specs.Machine.Steps.{first_fields, act_new_object, act_tasks, act}
use Rattle.pv_picks.specs.Typing.Heaps.{IsTypedHeap}
use Rattle.pv_picks.proofs.Sames.{back, naturals_same}
use Rattle.pv_picks.specs.Typing.Tasks.{makes_object}
use Rattle.machine_laws.specs.Fresh.{IsFresh, BeyondIsFresh}
use Rattle.account_formulas.specs.Runs.{truly, RestNeverFails}
use Rattle.account_formulas.specs.Owning.{Amounts, HasTrees, KeepsHeld}
use Rattle.account_formulas.specs.Growing.{HeapFits}
use Rattle.account_formulas.specs.Gaining.{PredicatesFit}
use Rattle.account.specs.Verified.{IsVerifiedThroughout}
use Rattle.account.proofs.Framing.{predicates_taken_in}
use Rattle.account.specs.Running.{ran}
use Rattle.account.specs.Scoped.{TasksSay, stands}
use Rattle.account.specs.Frames as account
use Rattle.account.specs.Frames.{standing_in, opened, AllTakeTurns, OldIs, IsRunOf, AreRunsOf, called_of, amounts_of, outer_of, all_of}
use Rattle.account.specs.Going.{Goes}
use Rattle.account.specs.Owners.{total}
use Rattle.account.specs.Messages.{TasksExchange}
use Rattle.account.specs.Accounts.{Account, Kept}
use Rattle.account.proofs.Sums.{runs_in_total}
use Rattle.account.proofs.Working.{frame_says}
use Rattle.account.proofs.LocalWork.{settled_goes, below_settled}
use Rattle.account.proofs.Stepping.{by_run, never_at, says_at}
use Rattle.account.proofs.Later.{Grown, trees_later, old_later, body_later, typed_later, stack_later, turns_later, below_later}
use Rattle.account.proofs.Moving.{settles, settled_leaves_not, first_goes_on, leaves_nothing}
use Rattle.account.proofs.Onward.{accounted}
use Rattle.account_calls.proofs.Creating.{have_defaults, is_given, given_amounts, more_fits, grown_created, keeps_created, new_class, given_placed, not_placed, Got, Creates, creates}

module _ (p : Program) (verified : IsVerifiedThroughout p) (w : World) (sound : HeapFits p w.heap)
    (typed : IsTypedHeap (field_kind p) w.heap) (fresh : BeyondIsFresh w) (a : Account p w) (i : ℕ) (inside : i < w.count)
    (f : Frame) (below : List Frame) (stands_at : (w.threads i).frames ≡ f ∷ below) (class : Name) (rest : List Task)
    (is : f.tasks ≡ Stand (AtNewObject class) ∷ rest) where
  abbrev Behind : Frame
  Behind = pushes (value.Reference (suc w.heap.count)) f rest

  abbrev Later : Heap
  Later = with_object w.heap class (first_fields p class)

  sound_later : HeapFits p (with_object w.heap class (first_fields p class))
  sound_later = more_fits p w.committed w.heap sound typed class

  framed_later : PredicatesFit p (with_object w.heap class (first_fields p class))
  framed_later = predicates_taken_in p verified (with_object w.heap class (first_fields p class)) sound_later

  grown : Grown w.heap (with_object w.heap class (first_fields p class))
  grown = grown_created p w.committed w.heap sound typed class

  kept : (A : Amounts) → KeepsHeld A w.heap (with_object w.heap class (first_fields p class))
  kept = keeps_created p w.committed w.heap sound typed class

  -- a run behind the new object
  abbrev run_with : account.Run → State → account.Run
  run_with r s = record r { state = s; inner = false; stack = Object class ∷ r.stack }

  run_created : (r : account.Run) → IsRunOf p w.committed w.heap f r → (s : State)
      → Got p w.committed w.heap sound typed class r.taken r.state s
      → TasksSay (standing_in p f.class r.body r.outer) false r.scope r.given (Object class ∷ r.stack) rest
      → RestNeverFails r.taken (λ maps. ran (truly maps) p r.body false rest
      (value.Reference (suc w.heap.count) ∷ f.values) s)
      → IsRunOf p w.committed (with_object w.heap class (first_fields p class))
      (pushes (value.Reference (suc w.heap.count)) f rest)
      (record r { state = s; inner = false; stack = Object class ∷ r.stack })
  run_created r fits s got says never =
      let old_types = typed_later p w.committed w.heap Later grown f r fits.typed in
      record {
        state = record {
          fits = got.fine;
          this = ap (λ x. x.this) got.scene ∙ fits.state.this;
          variables = λ n t e. ap (λ x. x.variables n.0) got.scene ∙ fits.state.variables n t e;
          result = ap (λ x. x.result) got.scene ∙ fits.state.result;
          trees = subst (λ I. HasTrees p w.committed Later I r.trees) (sym got.instances)
              (trees_later p w.committed w.heap Later r.state.instances r.trees fits.state.trees (kept r.trees));
        };
        old = subst (λ c. OldIs p Later r.body.speech.old f.old r.past r.taken c) (sym got.old)
            (old_later p w.committed w.heap Later grown r.body.speech.old f.old r.past r.taken r.state.old fits.old);
        body = body_later p w.committed w.heap Later grown f r.body fits.body;
        typed = record {
          this = old_types.this;
          variables = old_types.variables;
          result = old_types.result;
          values = (
            new_class p w.committed w.heap sound typed class,
            stack_later p w.committed w.heap Later grown r.stack f.values fits.typed.values,
          );
        };
        tasks = frame_says (standing_in p f.class r.body r.outer) false r.scope r.given (Object class ∷ r.stack) rest says;
        outer = turns_later p w.committed w.heap Later grown f.class r.body r.past (body_scene f) (opened false rest) r.outer
            (kept (outer_of r.outer))
            (subst (λ ts. AllTakeTurns p w.committed w.heap f.class r.body r.past (body_scene f) (opened r.inner ts) r.outer) is
            fits.outer);
        never = never;
      }

  none_there : (q : Resource) → is_given (first_fields p class) class (suc w.heap.count) q ≡ true
      → total a.owners w.count (suc w.heap.count) q ≡ 0
  none_there q h = by _ refl
    where
      by : (n : ℕ) → total a.owners w.count (suc w.heap.count) q ≡ n → n ≡ 0
      by zero k = refl
      by (suc n) k =
          absurd (not_placed p w.committed w.heap sound typed class q h (a.sums.placed q (omega (arith, k))))

  passes_test : (b : Bool) → 1 ≤ (if b then whole else 0) → b ≡ true
  passes_test true more = refl
  passes_test false more = absurd (omega (arith, more))

  -- what is said of the new number, where something of it is given
  of_number : (A : ℕ → Type 0) → A (suc w.heap.count) → (c : Name) (x : ℕ)
      → 1 ≤ (if same_name c class && nat_eq x (suc w.heap.count) then whole else 0) → A x
  of_number A here c x more =
      let own = passes_test (same_name c class && nat_eq x (suc w.heap.count)) more in
      subst A (sym (naturals_same x (suc w.heap.count) (back (same_name c class) (nat_eq x (suc w.heap.count)) own))) here

  new_number : IsFresh w (suc w.heap.count)
  new_number = fresh (suc w.heap.count) (omega arith)

  object_keeps_by : (r : account.Run) (rs : List account.Run) → a.owners.runs i ≡ r ∷ rs
      → AreRunsOf p w.committed w.heap (f ∷ below) (r ∷ rs)
      → TasksSay (standing_in p f.class r.body r.outer) false r.scope r.given (Object class ∷ r.stack) rest
      → (s : State) → Got p w.committed w.heap sound typed class r.taken r.state s
      → RestNeverFails r.taken (λ maps. ran (truly maps) p r.body false rest
      (value.Reference (suc w.heap.count) ∷ f.values) s)
      → Kept p (act_new_object p w i f below class rest)
  object_keeps_by r rs has fits says s got never =
      accounted p w a i inside Later (settled Behind ∷ below) (record {
        runs = go.run ∷ rs;
        fits = (
          go.fits,
          below_settled p w.committed Later sound_later framed_later Behind (run_with r s) go below rs
              (below_later p w.committed w.heap Later grown (called_of f r) below rs (kept (all_of rs)) fits.1),
        );
        goes = first_goes_on w.threads a.owners i f below stands_at r rs has (settled Behind) go.run
            (λ b ts at. absurd (cc (is, at)))
            (settles p w.committed Later f Behind r (run_with r s)
            (record { class = refl; method = refl; this = refl; begun = refl; old = refl }) refl go
            (λ S R h. (subst (λ ts. TasksExchange S R ts) is h).1));
        leaves = leaves_nothing p w.committed Later (w.threads i).role w.blocks a.owners (settled Behind) below (go.run ∷ rs)
            (a.owners.left i) (settled_leaves_not p w.committed Later Behind (run_with r s) go);
        fresh = given_amounts (first_fields p class) class (suc w.heap.count);
        less = λ q. let l = go.less q in let m = got.less q in let same = ap (λ ys. all_of ys q) has in
            omega (arith, l, m, same);
        new = record {
          none = λ q more.
              let own = passes_test (is_given (first_fields p class) class (suc w.heap.count) q) more in (
                none_there q own,
                at_most (is_given (first_fields p class) class (suc w.heap.count) q),
                given_placed p w.committed w.heap sound typed class q own,
              );
          idle = of_number (λ x. w.state x ≡ ThreadState.Idle) new_number.state;
          running = λ c x more. absurd (omega (arith, more));
          uncommitted = of_number (λ x. w.committed x ≡ false) new_number.committed;
          lock = λ c x. refl;
          object = λ c x above below at.
              let new = fresh x above in
              (λ e. let idle = new.state in absurd (cc (idle, e)), λ e. let none = new.committed in absurd (cc (none, e)));
        };
        grown = grown;
        null = λ c at. null_class c at (nat_eq 0 (suc w.heap.count)) refl;
        keeps = λ B less. kept B;
      })
    where
      most : (q : Resource) → amounts_of (record r { state = s; inner = false; stack = Object class ∷ r.stack }) q ≤ whole
      most q = by (is_given (first_fields p class) class (suc w.heap.count) q) refl (got.less q)
        where
          one : all_of (r ∷ rs) q ≤ total a.owners w.count (suc w.heap.count) q
          one =
              let k = runs_in_total a.owners w.count (suc w.heap.count) q i inside in
              let same = ap (λ x. all_of x q) has in omega (arith, k, same)

          by : (b : Bool) → is_given (first_fields p class) class (suc w.heap.count) q ≡ b
              → amount_of s q ≤ amount_of r.state q + (if b then whole else 0)
              → amount_of s q + r.trees q + outer_of r.outer q ≤ whole
          by true e m = let z = none_there q e in let k = one in omega (arith, z, k, m)
          by false e m = let t = a.sums.most q in let k = one in omega (arith, t, k, m)

      go : Goes p w.committed (with_object w.heap class (first_fields p class))
          (settled (pushes (value.Reference (suc w.heap.count)) f rest))
          (record r { state = s; inner = false; stack = Object class ∷ r.stack })
      go = settled_goes p w.committed Later sound_later framed_later Behind (run_with r s)
          (run_created r fits.0 s got says never) says most

      at_most : (b : Bool) → (if b then whole else 0) ≤ whole
      at_most true = omega arith
      at_most false = omega arith

      null_class : (c : Name) → Later.class 0 ≡ Some c → (b : Bool) → nat_eq 0 (suc w.heap.count) ≡ b
          → w.heap.class 0 ≡ Some c
      null_class c at true e = let same = naturals_same 0 (suc w.heap.count) e in absurd (omega (arith, same))
      null_class c at false e = sym (ap (λ b. if b then Some class else w.heap.class 0) e) ∙ at

  -- the run goes on with the new object
  object_by : (mode : Mode) (r : account.Run) (rs : List account.Run) → a.owners.runs i ≡ r ∷ rs
      → AreRunsOf p w.committed w.heap (f ∷ below) (r ∷ rs) → Kept p (act_new_object p w i f below class rest)
  object_by mode r rs has fits =
      object_keeps_by r rs has fits (says_behind r.stack r.inner (says_at p w f r fits.0 (AtNewObject class) rest is))
      made.after made.got made.never
    where
      made : Creates p w.committed w.heap sound typed class r.taken r.state
          (λ maps. ran (truly maps) p r.body false rest (value.Reference (suc w.heap.count) ∷ f.values))
      made = creates p w.committed w.heap sound typed class r.taken r.state fits.0.state.fits
          (have_defaults (fields_of p class) (verified.typed.names class))
          (λ maps v. ran (truly maps) p r.body false rest (v ∷ f.values)) (never_at p w f r fits.0 (AtNewObject class) rest is)

      says_behind : (before : List PvType) (inner : Bool)
          → TasksSay (standing_in p f.class r.body r.outer) inner r.scope r.given before (Stand (AtNewObject class) ∷ rest)
          → TasksSay (standing_in p f.class r.body r.outer) false r.scope r.given (Object class ∷ before) rest
      says_behind before inner (stands _ makes_object speaks says) = says

  pub object_keeps : (mode : Mode) → Kept p (act p w mode i)
  object_keeps mode = by_run p w a i inside f below stands_at mode (λ r rs has fits.
      subst (λ ts. Kept p (act_tasks p w i f below mode ts)) (sym is) (object_by mode r rs has fits))
