-- What the numbers of the slots, and what lowered them, say of the edges.
use Rattle.std.specs.Prelude.{ℕ, ℤ, pos, ◌+◌, ◌-◌, ◌^◌, ◌<◌, ◌≤◌, ◌+ℤ◌, ◌≤ℤ◌, ◌<ℤ◌, ◌≡◌, ◌≢◌, ◌⊎◌, List, [], ◌∷◌, Option, Some, None, length, slice_get, slice_index_or, unsigned_abs}
use Rattle.std.specs.List.{sum_by}
use Rattle.pv_diff.specs.declared.table.Edge.{Edge}
use Rattle.pv_diff.specs.declared.table.Cause.{Cause}
use Rattle.pv_diff.specs.declared.table.Entry.{Entry}
use Rattle.pv_diff.specs.declared.table.Settled.{Settled}
use Rattle.pv_diff.specs.declared.table.Settled.TheVariants.{Numbers, Round}
use Rattle.pv_diff.specs.Edges.{edge, breadth, IsNegativeRound}

-- an entry that nothing has lowered
abbrev pub unlowered : Entry
unlowered = record { number = pos 0; cause = None }

abbrev pub number_in : List Entry → ℕ → ℤ
number_in entries k = (slice_index_or entries k unlowered).number

abbrev pub cause_in : List Entry → ℕ → Option Cause
cause_in entries k = (slice_index_or entries k unlowered).cause

abbrev pub cause : ℕ → ℕ → Cause
cause q z = record { place = q; from = z }

-- slot k was lowered by the edge at q, from slot z: it is not below what that edge asks, and it is above that if z was
-- lowered since
pub record IsLoweredBy (edges : List Edge) (entries : List Entry) (time : ℕ → ℕ) (k q z : ℕ) : Type 0 where
  pub bound : ℤ
  pub found : slice_get edges q ≡ Some (edge k z bound)
  pub above : (number_in entries z +ℤ bound) ≤ℤ number_in entries k
  pub strict : (time z < time k) ⊎ ((number_in entries z +ℤ bound) <ℤ number_in entries k)

-- the numbers are what lowering from zero, edge by edge, has come to
pub record Sound (edges : List Edge) (entries : List Entry) : Type 0 where
  pub time : ℕ → ℕ
  pub clock : ℕ
  pub past : (k : ℕ) → time k < clock
  pub fallen : (k : ℕ) → number_in entries k ≤ℤ pos 0
  pub top : (k : ℕ) → cause_in entries k ≡ None → number_in entries k ≡ pos 0
  pub lowered : (k q z : ℕ) → cause_in entries k ≡ Some (cause q z) → IsLoweredBy edges entries time k q z

unfoldable pub IsSound : List Edge → List Entry → Type 0
IsSound edges entries = Sound edges entries

-- from x the causes lead to y, by the edges at these places, whose bounds add up to t
abbrev pub Climb : List Edge → List Entry → ℕ → ℕ → ℤ → List ℕ → Type 0
Climb edges entries x y t [] = (x ≡ y) × (t ≡ pos 0)
Climb edges entries x y t (q ∷ qs) = (z : ℕ) × (c : ℤ) × (u : ℤ) × (cause_in entries x ≡ Some (cause q z))
    × (slice_get edges q ≡ Some (edge x z c)) × Climb edges entries z y u qs × (t ≡ (c +ℤ u))

-- the causes lead from x back to x, in at most n steps and at least one
pub record Loops (edges : List Edge) (entries : List Entry) (x n : ℕ) : Type 0 where
  pub places : List ℕ
  pub sum : ℤ
  pub climb : Climb edges entries x x sum places
  pub some : 0 < length places
  pub few : length places ≤ n

unfoldable pub IsOnLoop : List Edge → List Entry → ℕ → Type 0
IsOnLoop edges entries x = Loops edges entries x (length edges + 1)

-- the number of the edge's first slot is no more than the edge asks
abbrev pub IsMet : List Entry → Edge → Type 0
IsMet entries e = number_in entries e.to ≤ℤ (number_in entries e.from +ℤ e.bound)

-- so for every edge
abbrev pub AreMet : List Entry → List Edge → Type 0
AreMet entries [] = Unit {0}
AreMet entries (e ∷ es) = IsMet entries e × AreMet entries es

-- the number is at most the breadth of all edges below zero
abbrev pub IsAbove : List Edge → List Entry → ℕ → Type 0
IsAbove edges entries k = pos 0 ≤ℤ (number_in entries k +ℤ pos (breadth edges))

-- so for every slot
unfoldable pub AreAbove : List Edge → List Entry → Type 0
AreAbove edges entries = (k : ℕ) → IsAbove edges entries k

-- how far the numbers are above a depth that they do not come to, all together
abbrev pub height : List Entry → ℕ
height entries = sum_by (λ e. 2 ^ 122 - unsigned_abs e.number) entries

-- slots were lowered, slot x last: it alone may be too far below zero
pub record Lowers (edges : List Edge) (old new : List Entry) (x : ℕ) : Type 0 where
  pub slot : x < length new
  pub sound : IsSound edges new
  pub above : (k : ℕ) → k ≢ x → IsAbove edges new k
  pub near : pos 0 ≤ℤ (number_in new x +ℤ pos (2 ^ 121))
  pub lower : height new < height old

-- numbers for all slots that meet every edge, none of them above zero or further below it than all bounds together; or
-- places of edges that go round and add up to less than zero
abbrev pub IsSettled : List Edge → ℕ → Settled → Type 0
IsSettled edges count (Numbers table) = (length table.items ≡ count) × AreMet table.items edges
    × ((k : ℕ) → IsAbove edges table.items k) × ((k : ℕ) → number_in table.items k ≤ℤ pos 0)
IsSettled edges count (Round places) = IsNegativeRound edges places
