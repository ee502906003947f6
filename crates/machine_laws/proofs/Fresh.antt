-- In each reached world of a well typed program the numbers beyond the heap's count are fresh: a step acts on an object that is
-- there, or makes the next one and does nothing with it yet.
use Rattle.std.proofs.Common.{◌≡◌, refl, sym, subst, ap, ◌∙◌, ℕ, zero, suc, ℤ, ◌<◌, ◌≤◌, Bool, true, false, List, [], ◌∷◌, nat_eq, arith}
use Rattle.std.proofs.lemmas.Bool.{eqb-true, ltb-true, ltb-false}
use Rattle.std.proofs.lemmas.Option.{none-some}
use Rattle.std.specs.Prelude.{◌&&◌, nat_le, nat_lt, ◌+◌, if◌then◌else◌}
use Rattle.pv_base.specs.declared.Name.{Name}
use Rattle.pv_ast.specs.declared.PvType.{PvType}
use Rattle.pv_ast.specs.declared.PvType.TheVariants.{Object}
use Rattle.pv_values.specs.declared.value.Value.TheVariants as value
use Rattle.pv_picks.specs.Plain.Core.{Team, Block, Program}
use Rattle.pv_picks.specs.Formulas.Values.{width}
use Rattle.pv_picks.specs.Formulas.Heaps.{Heap, at_number}
use Rattle.pv_picks.specs.Machine.Tasks.{AtAction, Stand}
use Rattle.pv_picks.specs.Machine.Frames.{Frame, top}
use Rattle.pv_picks.specs.Machine.Worlds.{Entry, RunOf, Mode, OpenBlock, ThreadState, World, is_member, member_thread, with_frames, with_heap, with_state, with_thread, with_members}
use Rattle.pv_picks.specs.Machine.Steps.{not_null, frames_behind, all_behind}
use Rattle.pv_picks.specs.Machine.Starts.{Start, frame_of_start, no_thread, first_world}
use Rattle.pv_picks.specs.Machine.Safety.{IsReached}
use Rattle.machine_laws.proofs.Growth.{same_role}
use Rattle.machine_laws.proofs.Changes.{ActsOn, IsKeptBy, reached_keeps}
use Rattle.pv_picks.specs.Typing.Blocks.{ProgramFits}
use Rattle.pv_picks.specs.Typing.Expressions.{Home}
use Rattle.pv_picks.specs.Typing.Tasks.{at_action, TasksFit, stands}
use Rattle.pv_picks.specs.Typing.Frames.{HasType, ValuesFit, FrameFits}
use Rattle.pv_picks.specs.Typing.Worlds.{home, FramesFit, WorldFits}
use Rattle.machine_laws.specs.Fresh.{IsFresh, BeyondIsFresh}
use Rattle.machine_laws.proofs.Local.{top-fits}
use Rattle.machine_laws.proofs.Kept.{object-fits}
use Rattle.machine_laws.proofs.Reached.{reached-fits}

-- another number has what it had
other_number : {A : Type 0} (object : ℕ) (x : A) (others : ℕ → A) (n : ℕ) → object < n
    → at_number object x others n ≡ others n
other_number object x others n less = by (nat_eq n object) refl
  where
    by : (b : Bool) → nat_eq n object ≡ b → (if b then x else others n) ≡ others n
    by true e = let same = eqb-true n object e in absurd (omega (arith, same, less))
    by false e = refl

-- the object of an action is on top, well typed, so that it is null or there
object_there : (p : Program) (w : World) → WorldFits p w → (i : ℕ) (f : Frame) (below : List Frame)
    → (w.threads i).frames ≡ f ∷ below → (object : ℕ) → ActsOn f object → object ≤ w.heap.count
object_there p w typed i f below stack object acts =
    let t = subst (FramesFit p w.heap) stack (typed.threads i) in
    at (home p f.class t.0) t.1 t.1.stack t.1.values
    (subst (TasksFit (home p f.class t.0) t.1.scope t.1.given t.1.stack) acts.stands t.1.tasks)
  where
    is_there : (class : Name) (n : ℕ) → not_null n ≡ true → HasType w.heap (Object class) (value.Reference n) → n ≤ w.heap.count
    is_there class zero e has = absurd cc
    is_there class (suc n) e has = by (nat_lt w.heap.count (suc n)) refl
      where
        by : (b : Bool) → nat_lt w.heap.count (suc n) ≡ b → suc n ≤ w.heap.count
        by true e = absurd (none-some class (sym (typed.heap.beyond (suc n) (ltb-true w.heap.count (suc n) e)).class ∙ has))
        by false e = ltb-false w.heap.count (suc n) e

    at : (h : Home) (t : FrameFits h w.heap f) (stack : List PvType) → ValuesFit w.heap stack f.values
        → TasksFit h t.scope t.given stack (Stand (AtAction acts.action acts.class acts.span) ∷ acts.rest)
        → object ≤ w.heap.count
    at h t stack values (stands after (at_action {stack = more} allowed) d) =
        is_there acts.class object acts.there
        (subst (λ n. HasType w.heap (Object acts.class) (value.Reference n)) acts.is
        (object-fits w.heap acts.class (top f.values) (top-fits w.heap (Object acts.class) more f.values values)))

module _ (p : Program) (w : World) (fresh : BeyondIsFresh w) (i : ℕ) (f : Frame)
    (there : (object : ℕ) → ActsOn f object → object ≤ w.heap.count) where
  -- where the heap has no fewer things, and the rest is as before
  moved : (heap : Heap) (frames : List Frame) → w.heap.count ≤ heap.count
      → BeyondIsFresh (with_heap (with_frames w i frames) heap)
  moved heap frames more n beyond =
      let k : IsFresh w n = fresh n (omega (arith, more, beyond)) in record {
        state = k.state;
        committed = k.committed;
        holder = k.holder;
        role = λ j is. k.role j (sym (same_role w i frames j) ∙ is);
      }

  forked : (object : ℕ) → ActsOn f object → (frames begun : List Frame)
      → BeyondIsFresh (with_state (with_thread (with_frames w i frames) (record { role = RunOf object; frames = begun })) object
      (ThreadState.Running w.count))
  forked object acts frames begun n beyond =
      let k : IsFresh w n = fresh n beyond in record {
        state = other_number object (ThreadState.Running w.count) w.state n (let less = there object acts in
            omega (arith, less, beyond)) ∙ k.state;
        committed = k.committed;
        holder = k.holder;
        role = λ j is. by k j (nat_eq j w.count) is;
      }
    where
      by : IsFresh w n → (j : ℕ) (b : Bool)
          → (if b then record { role = RunOf object; frames = begun } else (with_frames w i frames).threads j).role ≡ RunOf n → ⊥
      by k j true is = let same : object ≡ n = cc in let less = there object acts in absurd (omega (arith, less, beyond, same))
      by k j false is = k.role j (sym (same_role w i frames j) ∙ is)

  -- no member of a new block runs the `run` of an object
  opened : (team : Team) (body : Block) (frames : List Frame) (mode : Mode) (low high : ℤ)
      → BeyondIsFresh (with_members (with_frames w i frames) i f team body mode low high)
  opened team body frames mode low high n beyond =
      let k : IsFresh w n = fresh n beyond in record {
        state = k.state;
        committed = k.committed;
        holder = k.holder;
        role = λ j is. by k j (nat_le w.count j && nat_lt j (w.count + width low high)) is;
      }
    where
      by : IsFresh w n → (j : ℕ) (b : Bool)
          → (if b then member_thread (with_frames w i frames) f team body low j else (with_frames w i frames).threads j).role
          ≡ RunOf n → ⊥
      by k j true is = absurd cc
      by k j false is = k.role j (sym (same_role w i frames j) ∙ is)

  left : (block : OpenBlock) → BeyondIsFresh (all_behind w block)
  left block n beyond =
      let k : IsFresh w n = fresh n beyond in record {
        state = k.state;
        committed = k.committed;
        holder = k.holder;
        role = λ j is. by k j (is_member block j) is;
      }
    where
      by : IsFresh w n → (j : ℕ) (b : Bool)
          → (if b then record (w.threads j) { frames = frames_behind (w.threads j).frames } else w.threads j).role ≡ RunOf n → ⊥
      by k j true is = k.role j is
      by k j false is = k.role j is

  -- the `run` that ends is that of an object that is there
  ended : (object : ℕ) → (w.threads i).role ≡ RunOf object
      → BeyondIsFresh (with_state (with_frames w i []) object ThreadState.Ended)
  ended object same n beyond =
      let k : IsFresh w n = fresh n beyond in record {
        state = by k (nat_eq n object) refl;
        committed = k.committed;
        holder = k.holder;
        role = λ j is. k.role j (sym (same_role w i [] j) ∙ is);
      }
    where
      by : IsFresh w n → (b : Bool) → nat_eq n object ≡ b
          → (if b then ThreadState.Ended else w.state n) ≡ ThreadState.Idle
      by k true e = absurd (k.role i (same ∙ ap RunOf (sym (eqb-true n object e))))
      by k false e = k.state

  kept : IsKeptBy p w i f BeyondIsFresh
  kept = record {
    moves = λ frames n beyond. let k = moved w.heap frames (omega arith) n beyond in record {
      state = k.state;
      committed = k.committed;
      holder = k.holder;
      role = k.role;
    };
    makes = moved;
    forks = forked;
    joins = λ object acts frames n beyond. let k : IsFresh w n = fresh n beyond in record {
      state = other_number object ThreadState.Idle w.state n (let less = there object acts in omega (arith, less, beyond))
          ∙ k.state;
      committed = k.committed;
      holder = k.holder;
      role = λ j is. k.role j (sym (same_role w i frames j) ∙ is);
    };
    locks = λ object acts holder frames n beyond. let k : IsFresh w n = fresh n beyond in record {
      state = k.state;
      committed = k.committed;
      holder = other_number object holder w.holder n (let less = there object acts in omega (arith, less, beyond)) ∙ k.holder;
      role = λ j is. k.role j (sym (same_role w i frames j) ∙ is);
    };
    commits = λ object acts frames n beyond. let k : IsFresh w n = fresh n beyond in record {
      state = k.state;
      committed = other_number object true w.committed n (let less = there object acts in omega (arith, less, beyond))
          ∙ k.committed;
      holder = k.holder;
      role = λ j is. k.role j (sym (same_role w i frames j) ∙ is);
    };
    opens = λ team body rest is frames mode low high. opened team body frames mode low high;
    sends = λ frames block label sender n beyond. let k : IsFresh w n = fresh n beyond in record {
      state = k.state;
      committed = k.committed;
      holder = k.holder;
      role = λ j is. k.role j (sym (same_role w i frames j) ∙ is);
    };
    leaves = λ block place all. left block;
    ends = ended;
  }

first_fresh : (s : Start) → BeyondIsFresh (first_world s)
first_fresh s n beyond = record {
  state = refl;
  committed = refl;
  holder = refl;
  role = λ j is. by (nat_eq j 0) is;
}
  where
    by : (b : Bool) → (if b then record { role = Entry; frames = frame_of_start s ∷ [] } else no_thread).role ≡ RunOf n
        → ⊥
    by true is = absurd cc
    by false is = absurd cc

-- in each reached world the numbers beyond the heap's count are fresh
pub reached_fresh : (p : Program) → ProgramFits p → (w : World) → IsReached p w → BeyondIsFresh w
reached_fresh p program =
    reached_keeps p BeyondIsFresh (λ s starts. first_fresh s)
    (λ w reached fresh i f below stack. kept p w fresh i f
    (object_there p w (reached-fits p program w reached) i f below stack))
