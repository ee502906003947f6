-- A lock that one thread hands to another: whatever is picked, the judge fails on no unit.
use Rattle.std.proofs.Common.{◌≡◌, ℕ, ℤ, pos, true, false, None, List, refl}
use Rattle.std.specs.Prelude.{◌-◌, nat_eq, nat_le}
use Rattle.pv_ast.specs.declared.PvType.TheVariants as type
use Rattle.pv_values.specs.declared.value.Value.TheVariants as value
use Rattle.pv_base.specs.declared.Span.{Span}
use Rattle.pv_ast.specs.declared.Token.{Token}
use Rattle.pv_ast.specs.declared.Token.TheVariants as token
use Rattle.pv_fraction.specs.Amounts.{whole}
use Rattle.pv_picks.specs.declared.check.Check.TheVariants as check
use Rattle.pv_picks.specs.declared.evidence.Entry.{Entry}
use Rattle.pv_picks.specs.declared.unit.Part.TheVariants as part
use Rattle.pv_picks.specs.Plain.Core.{Block, Stop, Then, Act, Lock, Unlock, Fork, Assign, ToField, This, Variable, Value', Constant, Commit}
use Rattle.pv_picks.specs.Formulas.Values.{no_variables, reference_in}
use Rattle.pv_picks.specs.Judge.Rows.{Site}
use Rattle.pv_picks.specs.Judge.States.{State, Resource, InField, OfLock, OfToken, amount_of, with_cell, with_amount, with_value, with_committed, with_met, with_local}
use Rattle.pv_picks.specs.Judge.Settings.{Setting, Next}
use Rattle.pv_picks.specs.Judge.Judging.{judge_block, judge_action, at_body_end}
use Rattle.pv_picks.specs.Judge.Runs.{Maps, Judged, judging}
use Rattle.pv_picks.specs.Judge.UnitRuns.{of_method, judge_task, task_of}
use Rattle.worked_programs.specs.Nodes.{name, at}
use Rattle.worked_programs.specs.CoreNodes.{always}
use Rattle.worked_programs.specs.CoreWitnesses.{handed}
use Rattle.worked_forms.proofs.Safely.{Safe, blocks, finishes, picked, signed, tested, passed, failed, turned, same_self}
use Rattle.worked_threads_safety.proofs.Rows.{unit, gains, entered, remembered}

abbrev field : ℕ → Resource
field n = InField (name 1) n (name 0)

abbrev locked : ℕ → Resource
locked n = OfLock (name 1) n

abbrev held : Token → ℕ → Resource
held token n = OfToken token (name 1) n

-- the state in which the thread begins
abbrev begun : ℕ → State
begun n = remembered (with_committed (entered (name 1) n) (name 1) n)

-- the object of the main thread
abbrev object : State → ℕ
object s = reference_in (s.variables 4)

module _ (maps : Maps) (table : List Entry) where
  abbrev S : Setting Judged
  S = judging maps table

  abbrev site : Site
  site = of_method no_variables

  -- a body goes on, and ends with no promise
  abbrev on : Block → State → Judged
  on b = judge_block S handed site b (at_body_end S site check.Ensures always)

  -- a lock that is free is taken, with what it guards
  locks : (n : ℕ) (span : Span) (next : Next Judged) (s : State) → nat_eq n 0 ≡ false → s.committed (name 1) n ≡ true
      → s.held (locked n) ≡ None → s.held (field n) ≡ None
      → ((v : ℤ) → Safe (next (with_amount (with_cell s (field n) whole (value.Number v)) (locked n) whole)))
      → Safe (judge_action S handed Lock (name 1) n span next s)
  locks n span next s there committed free guarded h =
      passed (s.committed (name 1) n) _ _ committed
      (passed (nat_eq (amount_of s (locked n)) 0) _ _ (rw (free) refl)
      (gains maps table (name 1) n (name 0) _ s there guarded λ v.
      passed (nat_eq (amount_of s (locked n)) 0) _ _ (rw (free) refl) (h v)))

  -- the lock that is held is given, with what it guards
  unlocks : (n : ℕ) (span : Span) (next : Next Judged) (s : State) → amount_of s (locked n) ≡ whole
      → amount_of s (field n) ≡ whole → ((t : State) → Safe (next t)) → Safe (judge_action S handed Unlock (name 1) n span next s)
  unlocks n span next s lock guarded h =
      passed (nat_le whole (amount_of s (locked n))) _ _ (rw (lock) refl)
      (passed (nat_le whole (amount_of s (field n))) _ _ (rw (guarded) refl) (h _))

  pub invariant_safe : Safe (judge_task S handed (task_of handed (unit 0 part.LockInvariant)))
  invariant_safe =
      picked (signed _ (λ n. blocks) λ n. tested (nat_eq n 0) _ _ (λ e. blocks) λ e. picked λ v. finishes)

  -- the thread takes the lock, writes what it guards, and gives it

  abbrev thread_unlocks : Block
  thread_unlocks = Then (Act Unlock (name 1) This (at 119 131)) Stop

  abbrev thread_writes : Block
  thread_writes = Then (Assign (ToField This (name 1) (name 0) (at 108 109)) (Value' (Constant (value.Number (pos 1))))
      (at 108 114))
      thread_unlocks

  thread_goes : (s : State) → nat_eq s.this 0 ≡ false → amount_of s (locked s.this) ≡ whole → amount_of s (field s.this) ≡ whole
      → Safe (on thread_writes s)
  thread_goes s there lock guarded =
      failed (nat_eq s.this 0) _ _ there
      (passed (nat_le whole (amount_of s (field s.this))) _ _ (rw (guarded) refl)
      (failed (nat_eq s.this 0) _ _ there
      (unlocks s.this (at 119 131) (on Stop) (with_value s (field s.this) (value.Number (pos 1))) lock
      (rw (same_self s.this, guarded) refl) λ t. finishes)))

  pub run_safe : Safe (judge_task S handed (task_of handed (unit 0 (part.Member 1))))
  run_safe =
      picked (signed _ (λ n. blocks) λ n. tested (nat_eq n 0) _ _ (λ e. blocks) λ e.
      turned _ (λ m. blocks) finishes
      (failed (nat_eq n 0) _ _ e
      (locks n (at 93 103) (on thread_writes) (begun n) e (rw (same_self n) refl) refl refl λ v.
      thread_goes (with_amount (with_cell (begun n) (field n) whole (value.Number v)) (locked n) whole) e
      (rw (same_self n) refl) (rw (same_self n) refl))))

  -- the main thread makes the object, commits it, forks its thread, and takes the lock too

  abbrev main_unlocks : Block
  main_unlocks = Then (Act Unlock (name 1) (Variable (name 4)) (at 247 256)) Stop

  abbrev main_writes : Block
  main_writes = Then
      (Assign (ToField (Variable (name 4)) (name 1) (name 0) (at 234 237)) (Value' (Constant (value.Number (pos 2))))
      (at 234 242))
      main_unlocks

  abbrev main_locks : Block
  main_locks = Then (Act Lock (name 1) (Variable (name 4)) (at 222 229)) main_writes

  abbrev main_forks : Block
  main_forks = Then (Act Fork (name 1) (Variable (name 4)) (at 210 217)) main_locks

  abbrev main_commits : Block
  main_commits = Then (Act Commit (name 1) (Variable (name 4)) (at 196 205)) main_forks

  main_goes : (s : State) → nat_eq (object s) 0 ≡ false → amount_of s (locked (object s)) ≡ whole
      → amount_of s (field (object s)) ≡ whole → Safe (on main_writes s)
  main_goes s there lock guarded =
      failed (nat_eq (object s) 0) _ _ there
      (passed (nat_le whole (amount_of s (field (object s)))) _ _ (rw (guarded) refl)
      (failed (nat_eq (object s) 0) _ _ there
      (unlocks (object s) (at 247 256) (on Stop) (with_value s (field (object s)) (value.Number (pos 2))) lock
      (rw (same_self (object s), guarded) refl) λ t. finishes)))

  main_locks_safe : (s : State) → nat_eq (object s) 0 ≡ false → s.committed (name 1) (object s) ≡ true
      → s.held (locked (object s)) ≡ None → s.held (field (object s)) ≡ None → Safe (on main_locks s)
  main_locks_safe s there committed free guarded =
      failed (nat_eq (object s) 0) _ _ there
      (locks (object s) (at 222 229) (on main_writes) s there committed free guarded λ v.
      main_goes (with_amount (with_cell s (field (object s)) whole (value.Number v)) (locked (object s)) whole) there
      (rw (same_self (object s)) refl) (rw (same_self (object s)) refl))

  -- what it holds of the object before the fork
  record Ready (s : State) : Type 0 where
    there : nat_eq (object s) 0 ≡ false
    committed : s.committed (name 1) (object s) ≡ true
    idle : amount_of s (held token.Idle (object s)) ≡ whole
    running : amount_of s (held token.Running (object s)) ≡ 0
    free : s.held (locked (object s)) ≡ None
    guarded : s.held (field (object s)) ≡ None

  main_forks_safe : (s : State) → Ready s → Safe (on main_forks s)
  main_forks_safe s h =
      failed (nat_eq (object s) 0) _ _ h.there
      (passed (nat_le whole (amount_of s (held token.Idle (object s)))) _ _ (rw (h.idle) refl)
      (passed (s.committed (name 1) (object s)) _ _ h.committed
      (passed (nat_eq (amount_of s (held token.Running (object s))) 0) _ _ (rw (h.running) refl)
      (main_locks_safe
      (with_amount
      (with_amount s (held token.Idle (object s)) (amount_of s (held token.Idle (object s)) - whole))
      (held token.Running (object s)) whole)
      h.there h.committed h.free h.guarded))))

  -- what it holds of the new object
  record Fresh (s : State) : Type 0 where
    there : nat_eq (object s) 0 ≡ false
    idle : amount_of s (held token.Idle (object s)) ≡ whole
    uncommitted : amount_of s (held token.Uncommitted (object s)) ≡ whole
    running : amount_of s (held token.Running (object s)) ≡ 0
    free : s.held (locked (object s)) ≡ None
    guarded : amount_of s (field (object s)) ≡ whole

  main_commits_safe : (s : State) → Fresh s → Safe (on main_commits s)
  main_commits_safe s h =
      failed (nat_eq (object s) 0) _ _ h.there
      (passed (nat_le whole (amount_of s (held token.Uncommitted (object s)))) _ _ (rw (h.uncommitted) refl)
      (passed (nat_le whole (amount_of s (field (object s)))) _ _ (rw (h.guarded) refl)
      (main_forks_safe
      (with_committed
      (with_amount
      (with_amount s (held token.Uncommitted (object s)) (amount_of s (held token.Uncommitted (object s)) - whole))
      (field (object s)) (amount_of s (field (object s)) - whole))
      (name 1) (object s))
      (record {
        there = h.there;
        committed = rw (same_self (object s)) refl;
        idle = h.idle;
        running = h.running;
        free = h.free;
        guarded = rw (same_self (object s), h.guarded) refl;
      }))))

  -- the state with the new object
  abbrev made : ℕ → State → State
  made n s =
      with_local
      (with_amount
      (with_amount (with_cell (with_met s (type.Object (name 1)) n) (field n) whole (value.Number (pos 0)))
      (held token.Idle n) whole)
      (held token.Uncommitted n) whole)
      (name 4) (value.Reference n)

  pub main_safe : Safe (judge_task S handed (task_of handed (unit 1 (part.Member 0))))
  main_safe =
      picked (signed _ (λ t. blocks) λ t. tested (nat_eq t 0) _ _ (λ e. blocks) λ e.
      turned _ (λ m. blocks) finishes
      (picked (signed _ (λ n. blocks) λ n. tested (nat_eq n 0) _ _ (λ f. blocks) λ f.
      main_commits_safe (made n (remembered (entered (name 2) t))) (record {
        there = f;
        idle = rw (same_self n) refl;
        uncommitted = rw (same_self n) refl;
        running = refl;
        free = refl;
        guarded = rw (same_self n) refl;
      }))))
