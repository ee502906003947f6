-- A thread that is no member ends: what is said of threads, roles, blocks and mail goes on to hold.
use Rattle.std.proofs.Common.{◌≡◌, ℕ, ℤ, Bool, [], ◌∷◌}
use Rattle.pv_picks.specs.Plain.Core.{Program}
use Rattle.pv_picks.specs.Formulas.Heaps.{Heap, at_number}
use Rattle.pv_picks.specs.Machine.Frames.{Frame}
use Rattle.pv_picks.specs.Machine.Worlds.{Role, Entry, RunOf, MemberOf, ThreadState, Thread, OpenBlock}
use Rattle.account_formulas.specs.Owning.{Amounts}
use Rattle.account.specs.Owners.{Owners}
use Rattle.account.specs.Objects.{RoleFits}
use Rattle.account.proofs.Moving.{Families, ends, others_here, owners_with, families_moved}

pub no_role : (p : Program) (flags : ℕ → Bool) (heap : Heap) (state : ℕ → ThreadState) (i : ℕ) (role : Role)
    → RoleFits p flags heap state i role [] []
no_role p flags heap state i Entry = tt
no_role p flags heap state i (RunOf x) = tt
no_role p flags heap state i (MemberOf b position) = tt

pub families_end : (p : Program) (flags : ℕ → Bool) (heap : Heap) (count : ℕ) (threads : ℕ → Thread) (block_count : ℕ)
    (blocks : ℕ → OpenBlock) (state : ℕ → ThreadState) (o : Owners) (i : ℕ) (f : Frame) → (threads i).frames ≡ f ∷ []
    → f.tasks ≡ [] → ((b : ℕ) (position : ℤ) → (threads i).role ≡ MemberOf b position → ⊥) → (promise guard : ℕ → Amounts)
    → Families p flags heap count threads block_count blocks state o
    → Families p flags heap count (at_number i (record { role = (threads i).role; frames = [] }) threads) block_count blocks state
    (owners_with o i [] promise guard)
families_end p flags heap count threads block_count blocks state o i f stack over alone promise guard =
    families_moved p flags heap heap count threads o i (others_here heap count o i) [] [] (ends threads o i f stack over)
    block_count blocks state tt (record {
      ended = λ b position role none. absurd (alone b position role);
      arrived = λ b position role. absurd (alone b position role);
    }) promise guard
