-- The members of the blocks that were opened.
use Rattle.std.specs.Prelude.{◌≡◌, ◌≤◌, ◌<◌, ◌+◌, ◌-◌, ◌+ℤ◌, ℕ, ℤ, pos, true}
use Rattle.pv_picks.specs.Machine.Worlds.{MemberOf, World, is_member, member_count}

-- the threads of its numbers are there, each in the role of a member, at its position
pub record HasItsMembers (w : World) (b : ℕ) : Type 0 where
  pub counted : (w.blocks b).first + member_count (w.blocks b) ≤ w.count
  pub roles : (j : ℕ) → is_member (w.blocks b) j ≡ true
      → (w.threads j).role ≡ MemberOf b ((w.blocks b).low +ℤ pos (j - (w.blocks b).first))

-- each block has its members, and each member is one of a block that was opened
pub record BlocksHaveMembers (w : World) : Type 0 where
  pub blocks : (b : ℕ) → b < w.block_count → HasItsMembers w b
  pub members : (j b : ℕ) (position : ℤ) → (w.threads j).role ≡ MemberOf b position
      → (b < w.block_count) × (is_member (w.blocks b) j ≡ true)
