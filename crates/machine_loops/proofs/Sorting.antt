-- A free run of the members of a counted loop may be sorted: the steps of a lower member come before those of a higher one.
use Rattle.std.proofs.Common.{◌≡◌, ℕ, ◌<◌, ◌≤◌, ℤ, Bool, true, false, List, [], ◌∷◌, refl, arith}
use Rattle.std.specs.Prelude.{nat_lt}
use Rattle.std.proofs.lemmas.Bool.{ltb-true, ltb-false}
use Rattle.pv_picks.specs.Plain.Core.{Program}
use Rattle.pv_picks.specs.Machine.Worlds.{Free, World}
use Rattle.pv_picks.specs.Machine.Steps.{Result, act}
use Rattle.pv_picks.specs.Machine.Safety.{IsSafe}
use Rattle.machine_loops.proofs.Stages.{Stage, stage-next, step-first}

-- runs in which each step goes
abbrev pub Path : Program → World → List ℕ → World → Type 0
Path p w [] v = w ≡ v
Path p w (j ∷ js) v = (u : World) × (act p w Free j ≡ Result.Went u) × Path p u js v

-- all are at least so much
abbrev pub AllFrom : ℕ → List ℕ → Type 0
AllFrom n [] = Unit {0}
AllFrom n (j ∷ js) = (n ≤ j) × AllFrom n js

-- in order, from the lowest on
abbrev pub IsSorted : List ℕ → Type 0
IsSorted [] = Unit {0}
IsSorted (j ∷ js) = AllFrom j js × IsSorted js

-- each is a member, from one number to below another
abbrev pub AreMembers : ℕ → ℕ → List ℕ → Type 0
AreMembers lo hi [] = Unit {0}
AreMembers lo hi (j ∷ js) = ((lo ≤ j) × (j < hi)) × AreMembers lo hi js

pub from-less : (n m : ℕ) (js : List ℕ) → n ≤ m → AllFrom m js → AllFrom n js
from-less n m [] l h = tt
from-less n m (j ∷ js) l h = let k = h.0 in (omega arith, from-less n m js l h.1)

-- a run of members in order, from one world to another
pub record Sorted (p : Program) (lo hi : ℕ) (w v : World) : Type 0 where
  pub order : List ℕ
  pub path : Path p w order v
  pub sorted : IsSorted order
  pub members : AreMembers lo hi order

module _ (p : Program) (safe : IsSafe p) (lo hi b : ℕ) (low : ℤ) where
  -- a run of members in order, with one step more
  record Inserted (j : ℕ) (js : List ℕ) (w v : World) : Type 0 where
    order : List ℕ
    path : Path p w order v
    sorted : IsSorted order
    members : AreMembers lo hi order
    above : (n : ℕ) → n ≤ j → AllFrom n js → AllFrom n order

  insert : (j : ℕ) (js : List ℕ) (w u v : World) → Stage p lo hi b low Free w → lo ≤ j → j < hi → act p w Free j ≡ Result.Went u
      → Path p u js v → IsSorted js → AreMembers lo hi js → Inserted j js w v
  insert j [] w u v s x y one more sorted members =
      record { order = j ∷ []; path = (u, one, more); sorted = (tt, tt); members = ((x, y), tt); above = λ n l a. (l, tt) }
  insert j (k ∷ ks) w u v s x y one more sorted members =
      go (nat_lt k j) refl (λ z r e f. insert j ks z r v
      (stage-next p lo hi b low Free Free w z k s members.0.0 members.0.1 e) x y f)
    where
      go : (t : Bool) → nat_lt k j ≡ t → ((z r : World) → act p w Free k ≡ Result.Went z → act p z Free j ≡ Result.Went r
          → Path p r ks v → IsSorted ks → AreMembers lo hi ks → Inserted j ks z v) → Inserted j (k ∷ ks) w v
      go true e again =
          let l : k < j = ltb-true k j e in
          let f = step-first p safe lo hi b low w u more.0 k j s members.0.0 l y one more.1 in
          let i = again f.0 more.0 f.1 f.2 more.2 sorted.1 members.1 in record {
            order = k ∷ i.order;
            path = (f.0, f.1, i.path);
            sorted = (i.above k (omega arith) sorted.0, i.sorted);
            members = (members.0, i.members);
            above = λ n m a. (a.0, i.above n m a.1);
          }
      go false e again =
          let l : j ≤ k = ltb-false k j e in record {
            order = j ∷ k ∷ ks;
            path = (u, one, more);
            sorted = ((l, from-less j k ks l sorted.0), sorted);
            members = ((x, y), members);
            above = λ n m a. (m, a);
          }

  pub sort : (js : List ℕ) (w v : World) → Stage p lo hi b low Free w → Path p w js v → AreMembers lo hi js → Sorted p lo hi w v
  sort [] w v s path members = record { order = []; path = path; sorted = tt; members = tt }
  sort (j ∷ js) w v s path members =
      let rest =
      sort js path.0 v (stage-next p lo hi b low Free Free w path.0 j s members.0.0 members.0.1 path.1) path.2 members.1 in
      let i = insert j rest.order w path.0 v s members.0.0 members.0.1 path.1 rest.path rest.sorted rest.members in
      record { order = i.order; path = i.path; sorted = i.sorted; members = i.members }
