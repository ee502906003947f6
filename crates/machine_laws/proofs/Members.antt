-- In each reached world the threads of a block's numbers are its members.
use Rattle.std.proofs.Common.{◌≡◌, refl, sym, ap, ◌∙◌, ℕ, suc, ℤ, pos, ◌<◌, ◌≤◌, Bool, true, false, Option, List, [], ◌∷◌, nat_eq, arith}
use Rattle.std.proofs.lemmas.Bool.{and_parts, eqb-true, eq-eqb, leb-true, ltb-true, ltb-false}
use Rattle.std.specs.Prelude.{◌&&◌, nat_le, nat_lt, ◌+◌, ◌-◌, ◌+ℤ◌, if◌then◌else◌}
use Rattle.pv_picks.specs.Plain.Core.{Team, Block, Program}
use Rattle.pv_picks.specs.Formulas.Values.{width}
use Rattle.pv_picks.specs.Formulas.Heaps.{Heap, at_number}
use Rattle.pv_picks.specs.Machine.Frames.{Frame}
use Rattle.pv_picks.specs.Machine.Worlds.{Entry, RunOf, MemberOf, Thread, Mode, OpenBlock, ThreadState, World, is_member, member_count, member_thread, with_frames, with_thread, with_message, with_members, at_message}
use Rattle.pv_picks.specs.Machine.Steps.{frames_behind, all_behind}
use Rattle.pv_picks.specs.Machine.Starts.{Start, frame_of_start, no_thread, first_world}
use Rattle.pv_picks.specs.Machine.Safety.{IsReached}
use Rattle.machine_laws.specs.Members.{BlocksHaveMembers}
use Rattle.machine_laws.specs.Growth.{IsSameBlock}
use Rattle.machine_laws.proofs.Growth.{above, same_self, same_role, kept_block}
use Rattle.machine_laws.proofs.Changes.{IsKeptBy, reached_keeps}

-- blocks that are the same but for their messages have the same members
same_count : (a b : OpenBlock) → IsSameBlock a b → member_count b ≡ member_count a
same_count a b same = ap (λ z. width z b.high) same.low ∙ ap (width a.low) same.high

same_members : (a b : OpenBlock) → IsSameBlock a b → (j : ℕ) → is_member b j ≡ is_member a j
same_members a b same j =
    ap (λ n. nat_le n j && nat_lt j (n + member_count b)) same.first
    ∙ ap (λ n. nat_le a.first j && nat_lt j (a.first + n)) (same_count a b same)

-- another number below the next is below this one
pub below_other : (b n : ℕ) → nat_eq b n ≡ false → b < suc n → b < n
below_other b n e less = by (nat_lt b n) refl
  where
    by : (x : Bool) → nat_lt b n ≡ x → b < n
    by true k = ltb-true b n k
    by false k =
        let above = ltb-false b n k in
        let same : b ≡ n = omega (arith, above, less) in
        let self = eq-eqb b n same in absurd (cc (self, e))

-- what is below a number isn't one from it on
old_apart : (first last j : ℕ) → j < first → (nat_le first j && nat_lt j last) ≡ false
old_apart first last j less = by (nat_le first j) refl
  where
    by : (x : Bool) → nat_le first j ≡ x → (x && nat_lt j last) ≡ false
    by true k = let above = leb-true first j k in absurd (omega (arith, above, less))
    by false k = refl

module _ (w : World) (h : BlocksHaveMembers w) where
  -- who is a member is there
  is_there : (b : ℕ) → b < w.block_count → (j : ℕ) → is_member (w.blocks b) j ≡ true → j < w.count
  is_there b less j is =
      let above = ltb-true j ((w.blocks b).first + member_count (w.blocks b))
      (and_parts (nat_le (w.blocks b).first j) (nat_lt j ((w.blocks b).first + member_count (w.blocks b))) is).1 in
      let counted = (h.blocks b less).counted in omega (arith, above, counted)

  -- where blocks keep their ranges and threads their roles
  kept_by : (v : World) → w.count ≤ v.count → v.block_count ≡ w.block_count
      → ((b : ℕ) → IsSameBlock (w.blocks b) (v.blocks b)) → ((j : ℕ) → (v.threads j).role ≡ (w.threads j).role)
      → BlocksHaveMembers v
  kept_by v more count ranges roles = record {
    blocks = λ b less.
        let before : b < w.block_count = omega (arith, less, count) in
        let k = h.blocks b before in
        let same = ranges b in record {
          counted = let c = k.counted in
              let first = same.first in
              let members = same_count (w.blocks b) (v.blocks b) same in omega (arith, c, first, members, more);
          roles = λ j is.
              roles j ∙ k.roles j (sym (same_members (w.blocks b) (v.blocks b) same j) ∙ is)
              ∙ ap (λ z. MemberOf b (z +ℤ pos (j - (w.blocks b).first))) (sym same.low)
              ∙ ap (λ n. MemberOf b ((v.blocks b).low +ℤ pos (j - n))) (sym same.first);
        };
    members = λ j b position is.
        let k = h.members j b position (sym (roles j) ∙ is) in
        (let less = k.0 in omega (arith, less, count), same_members (w.blocks b) (v.blocks b) (ranges b) j ∙ k.1);
  }

  module _ (i : ℕ) (f : Frame) where
    -- a thread begins
    forked : (t : Thread) (object : ℕ) → t.role ≡ RunOf object → (frames : List Frame) (state : ℕ → ThreadState)
        → BlocksHaveMembers (record (with_thread (with_frames w i frames) t) { state = state })
    forked t object runs frames state = record {
      blocks = λ b less. let k = h.blocks b less in record {
        counted = let c = k.counted in omega (arith, c);
        roles = λ j is.
            ap (λ x. (if x then t else (with_frames w i frames).threads j).role) (above j w.count (is_there b less j is))
            ∙ same_role w i frames j ∙ k.roles j is;
      };
      members = λ j b position is. by j b position (nat_eq j w.count) is;
    }
      where
        by : (j b : ℕ) (position : ℤ) (x : Bool)
            → (if x then t else (with_frames w i frames).threads j).role ≡ MemberOf b position
            → (b < w.block_count) × (is_member (w.blocks b) j ≡ true)
        by j b position true is = absurd (cc (is, runs))
        by j b position false is = h.members j b position (sym (same_role w i frames j) ∙ is)

    -- the members of a new block are the next threads
    opened : (team : Team) (body : Block) (frames : List Frame) (mode : Mode) (low high : ℤ)
        → BlocksHaveMembers (with_members (with_frames w i frames) i f team body mode low high)
    opened team body frames mode low high = record {
      blocks = λ b less.
          let k = block b (nat_eq b w.block_count) refl less in record { counted = k.0; roles = k.1 };
      members = λ j b position is. member j b position (is_new j) refl is;
    }
      where
        new : OpenBlock
        new = record {
          opener = i;
          low = low;
          high = high;
          mode = mode;
          first = w.count;
          team = team;
          sent = λ label sender. false;
        }

        is_new : ℕ → Bool
        is_new j = nat_le w.count j && nat_lt j (w.count + width low high)

        -- a block, by whether it is the new one; a thread, by whether it is new
        one_of : ℕ → Bool → OpenBlock
        one_of b x = if x then new else w.blocks b

        thread : ℕ → Bool → Thread
        thread j y = if y then member_thread (with_frames w i frames) f team body low j else (with_frames w i frames).threads j

        block : (b : ℕ) (x : Bool) → nat_eq b w.block_count ≡ x → b < suc w.block_count
            → ((one_of b x).first + member_count (one_of b x) ≤ w.count + width low high)
            × ((j : ℕ) → is_member (one_of b x) j ≡ true
            → (thread j (is_new j)).role ≡ MemberOf b ((one_of b x).low +ℤ pos (j - (one_of b x).first)))
        block b true e less = (
          omega arith,
          λ j is. ap (λ y. (thread j y).role) is
              ∙ ap (λ n. MemberOf n (low +ℤ pos (j - w.count))) (sym (eqb-true b w.block_count e)),
        )
        block b false e less =
            let before = below_other b w.block_count e less in
            let k = h.blocks b before in (
              let c = k.counted in omega (arith, c),
              λ j is. ap (λ y. (thread j y).role) (old_apart w.count (w.count + width low high) j (is_there b before j is))
                  ∙ same_role w i frames j ∙ k.roles j is,
            )

        member : (j b : ℕ) (position : ℤ) (y : Bool) → is_new j ≡ y → (thread j y).role ≡ MemberOf b position
            → (b < suc w.block_count) × (is_member (one_of b (nat_eq b w.block_count)) j ≡ true)
        member j b position true e is =
            let same : w.block_count ≡ b = cc in (
              omega (arith, same),
              ap (λ x. is_member (one_of b x) j) (eq-eqb b w.block_count (sym same)) ∙ e,
            )
        member j b position false e is =
            let k = h.members j b position (sym (same_role w i frames j) ∙ is) in (
              let less = k.0 in omega (arith, less),
              ap (λ x. is_member (one_of b x) j) (above b w.block_count k.0) ∙ k.1,
            )

    left : (block : OpenBlock) → BlocksHaveMembers (all_behind w block)
    left block = kept_by (all_behind w block) (omega arith) refl (λ b. same_self (w.blocks b)) (λ j. by j (is_member block j))
      where
        by : (j : ℕ) (x : Bool)
            → (if x then record (w.threads j) { frames = frames_behind (w.threads j).frames } else w.threads j).role
            ≡ (w.threads j).role
        by j true = refl
        by j false = refl

    -- other frames, and whatever is known of objects
    framed : (frames : List Frame) (heap : Heap) (holder : ℕ → Option ℕ) (committed : ℕ → Bool) (state : ℕ → ThreadState)
        → BlocksHaveMembers
        (record (with_frames w i frames) { heap = heap; holder = holder; committed = committed; state = state })
    framed frames heap holder committed state =
        kept_by (record (with_frames w i frames) { heap = heap; holder = holder; committed = committed; state = state })
        (omega arith) refl (λ b. same_self (w.blocks b)) (same_role w i frames)

    kept : (p : Program) → IsKeptBy p w i f BlocksHaveMembers
    kept p = record {
      moves = λ frames. framed frames w.heap w.holder w.committed w.state;
      makes = λ heap frames more. framed frames heap w.holder w.committed w.state;
      forks = λ object acts frames begun.
          forked (record { role = RunOf object; frames = begun }) object refl frames
          (at_number object (ThreadState.Running w.count) w.state);
      joins = λ object acts frames. framed frames w.heap w.holder w.committed (at_number object ThreadState.Idle w.state);
      locks = λ object acts holder frames. framed frames w.heap (at_number object holder w.holder) w.committed w.state;
      commits = λ object acts frames. framed frames w.heap w.holder (at_number object true w.committed) w.state;
      opens = λ team body rest is frames mode low high. opened team body frames mode low high;
      sends = λ frames block label sender.
          kept_by (with_message (with_frames w i frames) block label sender) (omega arith) refl
          (kept_block block (record (w.blocks block) { sent = at_message label sender (w.blocks block).sent }) w.blocks
          (record { opener = refl; low = refl; high = refl; mode = refl; first = refl; team = refl })) (same_role w i frames);
      leaves = λ block place all. left block;
      ends = λ object same. framed [] w.heap w.holder w.committed (at_number object ThreadState.Ended w.state);
    }

first_members : (s : Start) → BlocksHaveMembers (first_world s)
first_members s = record {
  blocks = λ b less. absurd (omega (arith, less));
  members = λ j b position is. absurd (by (nat_eq j 0) b position is);
}
  where
    by : (x : Bool) (b : ℕ) (position : ℤ)
        → (if x then record { role = Entry; frames = frame_of_start s ∷ [] } else no_thread).role ≡ MemberOf b position → ⊥
    by true b position is = absurd (cc is)
    by false b position is = absurd (cc is)

-- in each reached world
pub reached_members : (p : Program) (w : World) → IsReached p w → BlocksHaveMembers w
reached_members p =
    reached_keeps p BlocksHaveMembers (λ s starts. first_members s) (λ w reached h i f below stack. kept w h i f p)
