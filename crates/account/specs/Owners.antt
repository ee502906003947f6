-- Who owns what in a world: each thread by its runs, what a member of a block left, messages on their way to it, each object by
-- the promise of its ended `run` and by its free lock. All that is owned of a resource is at most the whole.
use Rattle.std.specs.Prelude.{◌≡◌, ◌+◌, ◌≤◌, ◌<◌, ℕ, zero, suc, Bool, false, if◌then◌else◌, Option, Some, None, List, [], ◌∷◌}
use Rattle.pv_base.specs.declared.Name.{Name}
use Rattle.pv_ast.specs.declared.Token.TheVariants as token
use Rattle.pv_fraction.specs.Amounts.{whole}
use Rattle.pv_base.specs.Names.{same_name}
use Rattle.pv_picks.specs.Plain.Core.{Parameter, Message}
use Rattle.pv_picks.specs.Formulas.Evaluation.{Scene}
use Rattle.pv_picks.specs.Formulas.Heaps.{Heap, at_number}
use Rattle.pv_picks.specs.Judge.States.{Resource, InField, InElement, OfToken, OfLock}
use Rattle.pv_picks.specs.Machine.Worlds.{ThreadState}
use Rattle.account_formulas.specs.Owning.{Amounts, IsPlaced}
use Rattle.account.specs.Frames.{Run, all_of}

-- what a block was opened with: the class of its opener, the variables in scope there, and the scene
pub record Opened : Type 0 where
  pub class : Name
  pub scope : List Parameter
  pub scene : Scene

-- messages on their way to a thread, by their labels, each with what it carries
abbrev pub Mail : Type 0
Mail = List (Name × Amounts)

-- what is owned: by each thread, its runs, what it left as a member that ended or arrived, and the mail to it; by each object,
-- what the postcondition of its ended `run` asks for, and what its invariant does while its lock is free. With it, what each
-- block was opened with, and its messages by their labels
pub record Owners : Type 0 where
  pub runs : ℕ → List Run
  pub left : ℕ → Amounts
  pub mail : ℕ → Mail
  pub promise : ℕ → Amounts
  pub guard : ℕ → Amounts
  pub openings : ℕ → Opened
  pub messages : ℕ → Name → Message

abbrev pub nothing : Amounts
nothing q = 0

-- the sum over the numbers below one
abbrev pub sum_below : (ℕ → ℕ) → ℕ → ℕ
sum_below f zero = 0
sum_below f (suc n) = f n + sum_below f n

abbrev pub carried_by : Mail → Amounts
carried_by [] q = 0
carried_by (x ∷ xs) q = x.1 q + carried_by xs q

-- the first letter with a label, and the mail without those
abbrev pub letter : Name → Mail → Option Amounts
letter label [] = None
letter label (x ∷ xs) = if same_name label x.0 then Some x.1 else letter label xs

abbrev pub without_letter : Name → Mail → Mail
without_letter label [] = []
without_letter label (x ∷ xs) = if same_name label x.0 then without_letter label xs else x ∷ without_letter label xs

-- what lies at a thread besides its runs, what a thread owns, and what an object does
abbrev pub lies_at : Owners → ℕ → Amounts
lies_at o i q = o.left i q + carried_by (o.mail i) q

abbrev pub at_thread : Owners → ℕ → Amounts
at_thread o i q = all_of (o.runs i) q + lies_at o i q

abbrev pub at_object : Owners → ℕ → Amounts
at_object o x q = o.promise x q + o.guard x q

-- all that is owned, by so many threads and objects
abbrev pub total : Owners → ℕ → ℕ → Amounts
total o threads objects q = sum_below (λ i. at_thread o i q) threads + sum_below (λ x. at_object o x q) objects

-- one owner has other amounts

abbrev pub with_runs : Owners → ℕ → List Run → Owners
with_runs o i runs = record o { runs = at_number i runs o.runs }

abbrev pub with_left : Owners → ℕ → Amounts → Owners
with_left o i R = record o { left = at_number i R o.left }

abbrev pub with_mail : Owners → ℕ → Mail → Owners
with_mail o i mail = record o { mail = at_number i mail o.mail }

abbrev pub with_promise : Owners → ℕ → Amounts → Owners
with_promise o x R = record o { promise = at_number x R o.promise }

abbrev pub with_guard : Owners → ℕ → Amounts → Owners
with_guard o x R = record o { guard = at_number x R o.guard }

-- no formula asks for a lock: amounts without them
abbrev pub without_locks : Amounts → Amounts
without_locks R (InField class object name) = R (InField class object name)
without_locks R (InElement type array index) = R (InElement type array index)
without_locks R (OfToken token class object) = R (OfToken token class object)
without_locks R (OfLock class object) = 0

-- What is owned is at most the whole, of what is there, and tokens say what is so.
pub record SumsFit (heap : Heap) (state : ℕ → ThreadState) (committed : ℕ → Bool) (owned : Amounts) : Type 0 where
  pub most : (r : Resource) → owned r ≤ whole
  pub placed : (r : Resource) → 1 ≤ owned r → IsPlaced heap r
  pub idle : (class : Name) (x : ℕ) → 1 ≤ owned (OfToken token.Idle class x) → state x ≡ ThreadState.Idle
  pub running : (class : Name) (x : ℕ) → 1 ≤ owned (OfToken token.Running class x) → state x ≡ ThreadState.Idle → ⊥
  pub uncommitted : (class : Name) (x : ℕ) → 1 ≤ owned (OfToken token.Uncommitted class x) → committed x ≡ false

-- A lock is owned by the runs of the thread that holds it, and lies nowhere else.
pub record LocksFit (count objects : ℕ) (holder : ℕ → Option ℕ) (o : Owners) : Type 0 where
  pub held : (i : ℕ) → i < count → (class : Name) (x : ℕ) → 1 ≤ all_of (o.runs i) (OfLock class x) → holder x ≡ Some i
  pub threads : (i : ℕ) → i < count → (class : Name) (x : ℕ) → lies_at o i (OfLock class x) ≡ 0
  pub objects_have_none : (y : ℕ) → y < objects → (class : Name) (x : ℕ) → at_object o y (OfLock class x) ≡ 0
