-- What a thread of an accounted world has, of objects, and of the states of threads.
use Rattle.std.proofs.Common.{◌≡◌, ℕ, zero, suc, ◌<◌, Bool, true, false, Some, List, sym, ◌∙◌, arith}
use Rattle.std.specs.Prelude.{nat_eq}
use Rattle.std.proofs.lemmas.Option.{none-some}
use Rattle.pv_base.specs.declared.Name.{Name}
use Rattle.pv_ast.specs.declared.PvType.TheVariants.{Object}
use Rattle.pv_values.specs.declared.value.Value.TheVariants as value
use Rattle.pv_picks.specs.Plain.Core.{Program}
use Rattle.pv_picks.specs.Formulas.Heaps.{Heap}
use Rattle.pv_picks.specs.Machine.Frames.{Frame}
use Rattle.pv_picks.specs.Machine.Worlds.{Role, Entry, RunOf, MemberOf, Thread, OpenBlock, ThreadState}
use Rattle.pv_picks.specs.Machine.Steps.{Result, waits_unless}
use Rattle.pv_picks.specs.Typing.Frames.{HasType}
use Rattle.account_formulas.specs.Growing.{HeapFits}
use Rattle.account_formulas.proofs.Picking.{not_beyond}
use Rattle.account.specs.Frames as account
use Rattle.account.specs.Frames.{AreRunsOf, all_of, amounts_of}
use Rattle.account.specs.Owners.{Owners}
use Rattle.account.specs.Objects.{IsThreadOf, RoleFits}
use Rattle.account.specs.Accounts.{Kept}
use Rattle.account.proofs.Bottom.{bottom_as}
use Rattle.account.proofs.Moving.{Families}

-- Of objects

-- what isn't null is of its class
pub object_is : (heap : Heap) (class : Name) (x : ℕ) → nat_eq x 0 ≡ false → HasType heap (Object class) (value.Reference x)
    → heap.class x ≡ Some class
object_is heap class zero full typed = absurd (cc full)
object_is heap class (suc n) full typed = typed

pub object_below : (p : Program) (heap : Heap) → HeapFits p heap → (class : Name) (x : ℕ) → heap.class x ≡ Some class
    → x < suc heap.count
object_below p heap sound class x is =
    let k = not_beyond x heap.count (λ m. absurd (none-some class (sym (sound.beyond x m).class ∙ is))) in omega (arith, k)

-- a step that waits is kept
pub waits_kept : (p : Program) (b : Bool) (result : Result) → Kept p result → Kept p (waits_unless b result)
waits_kept p true result k = k
waits_kept p false result k = tt

-- The states of threads change, but not where this one runs.
pub role_restated : (p : Program) (flags : ℕ → Bool) (heap : Heap) (state other : ℕ → ThreadState) (j : ℕ)
    → ((x : ℕ) → state x ≡ ThreadState.Running j → other x ≡ ThreadState.Running j)
    → (role : Role) (fs : List Frame) (rs : List account.Run) → RoleFits p flags heap state j role fs rs
    → RoleFits p flags heap other j role fs rs
role_restated p flags heap state other j same Entry fs rs h = h
role_restated p flags heap state other j same (RunOf x) fs rs h =
    bottom_as (IsThreadOf p flags heap state j x) (IsThreadOf p flags heap other j x)
    (λ f r k. record {
      this = k.this;
      class = k.class;
      method = k.method;
      running = same x k.running;
      body = k.body;
      stays = k.stays;
    }) fs rs h
role_restated p flags heap state other j same (MemberOf b position) fs rs h = tt

pub families_restated : (p : Program) (flags : ℕ → Bool) (heap : Heap) (count : ℕ) (threads : ℕ → Thread) (block_count : ℕ)
    (blocks : ℕ → OpenBlock) (state other : ℕ → ThreadState) (o : Owners)
    → ((x j : ℕ) → state x ≡ ThreadState.Running j → other x ≡ ThreadState.Running j)
    → Families p flags heap count threads block_count blocks state o
    → Families p flags heap count threads block_count blocks other o
families_restated p flags heap count threads block_count blocks state other o same k = record {
  threads_run = k.threads_run;
  roles = λ j l. role_restated p flags heap state other j (λ x runs. same x j runs) (threads j).role (threads j).frames (o.runs j)
      (k.roles j l);
  blocks_fit = k.blocks_fit;
  mail = k.mail;
}
