-- In a reached world members of one block that leave barriers at one place leave one barrier.
use Rattle.std.proofs.Common.{◌≡◌, inl, refl, sym, subst, ap, ◌∙◌, ℕ, true, List, [], ◌∷◌, nat_eq}
use Rattle.std.proofs.lemmas.Bool.{and_parts, eqb-true}
use Rattle.pv_base.specs.declared.Span.{Span}
use Rattle.pv_picks.specs.Plain.Core.{Barrier, Method}
use Rattle.pv_picks.specs.Machine.Tasks.{AtLeave, Task, Stand}
use Rattle.pv_picks.specs.Machine.Frames.{Frame}
use Rattle.pv_picks.specs.Machine.Steps.{same_place, tasks_leave, frames_leave}
use Rattle.pv_picks.specs.Machine.Worlds.{World}
use Rattle.pv_picks.specs.Elaborating.Programs.{core_of}
use Rattle.machine_laws.proofs.Members.{reached_members}
use Rattle.core_names.specs.Carrying.{membership_of, AllFrames, InWorld}
use Rattle.core_sharing.specs.Places.{StandsInBlock, PlacesTell}
use Rattle.core_sharing.specs.Waiting.{IsLeft, KeepsBarriers}
use Rattle.core_sharing.proofs.Waiting.{reached_barriers}
use Rattle.core_sharing.proofs.Ways.{has_places}
use Rattle.account.specs.Members.{IsMemberAt}
use Rattle.soundness.specs.WorldLaws.{PlacesTellBarriers}
use Rattle.soundness.proofs.Standing.{teams_of, shares_in, stand_in_their_bodies}
use Rattle.soundness.proofs.StayAlike.{member_shares}

places_same : (xs ys : List ℕ) → same_place xs ys ≡ true → xs ≡ ys
places_same [] [] is = refl
places_same [] (y ∷ ys) is = absurd cc
places_same (x ∷ xs) [] is = absurd cc
places_same (x ∷ xs) (y ∷ ys) is =
    let k = and_parts (nat_eq x y) (same_place xs ys) is in
    ap (λ z. z ∷ xs) (eqb-true x y k.0) ∙ ap (λ zs. y ∷ zs) (places_same xs ys k.1)

-- who leaves a barrier at a place
record IsLeaving (place : List ℕ) (frames : List Frame) : Type 0 where
  frame : Frame
  below : List Frame
  barrier : Barrier
  span : Span
  rest : List Task
  stack : frames ≡ frame ∷ below
  stands : frame.tasks ≡ Stand (AtLeave barrier span) ∷ rest
  there : barrier.place ≡ place

leaving : (place : List ℕ) (frames : List Frame) → frames_leave place frames ≡ true → IsLeaving place frames
leaving place [] is = absurd cc
leaving place (f ∷ below) is = by f.tasks refl is
  where
    by : (tasks : List Task) → f.tasks ≡ tasks → tasks_leave place tasks ≡ true → IsLeaving place (f ∷ below)
    by (Stand (AtLeave barrier span) ∷ rest) e is = record {
      frame = f;
      below = below;
      barrier = barrier;
      span = span;
      rest = rest;
      stack = refl;
      stands = e;
      there = places_same barrier.place place is;
    }
    by _ e is = absurd cc

-- the barrier at which a thread stands is one of its method
stands_in_method : (w : World) → InWorld KeepsBarriers w → (i : ℕ) (f : Frame) (below : List Frame)
    → (w.threads i).frames ≡ f ∷ below → (barrier : Barrier) (span : Span) (rest : List Task)
    → f.tasks ≡ Stand (AtLeave barrier span) ∷ rest
    → StandsInBlock barrier f.method.body × PlacesTell f.method.body
stands_in_method w all i f below stack barrier span rest is =
    let k = (subst (AllFrames KeepsBarriers (membership_of (teams_of w) all.0 (w.threads i).role)) stack (all.1 i)).0 in
    (k.left barrier (subst (IsLeft barrier) (sym is) (inl refl)), k.tell)

pub places_tell : PlacesTellBarriers
places_tell p well w reached i b position f barrier span rest at j member leaves =
    let o = leaving barrier.place (w.threads j).frames leaves in
    let own = stand_in_their_bodies p well w reached j o.frame o.below o.stack (AtLeave o.barrier o.span) o.rest o.stands tt in
    let members = reached_members (core_of p) w reached in
    let block = members.blocks b (members.members i b position at.role).0 in
    let there : IsMemberAt w j b _ o.frame (Stand (AtLeave o.barrier o.span) ∷ o.rest) = record {
      role = block.roles j member;
      stack = own.2.stack;
      stands = o.stands;
    } in
    let all = shares_in p well w reached in
    let one = (member_shares w all i b position f (Stand (AtLeave barrier span) ∷ rest) at).inside.0 in
    let other = (member_shares w all j b _ o.frame (Stand (AtLeave o.barrier o.span) ∷ o.rest) there).inside.0 in
    let barriers = reached_barriers (core_of p) (has_places p) w reached in
    let here = stands_in_method w barriers i f [] at.stack barrier span rest at.stands in
    let beside = stands_in_method w barriers j o.frame o.below o.stack o.barrier o.span o.rest o.stands in
    let same : o.barrier ≡ barrier =
    here.1 o.barrier barrier
    (subst (λ (m : Method). StandsInBlock o.barrier m.body) (other ∙ sym one) beside.0) here.0 o.there in
    record {
      frame = o.frame;
      span = o.span;
      rest = o.rest;
      stack = own.2.stack;
      stands = o.stands ∙ ap (λ x. Stand (AtLeave x o.span) ∷ o.rest) same;
    }
