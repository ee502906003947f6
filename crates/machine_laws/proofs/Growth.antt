-- Each step leads on.
use Rattle.std.proofs.Common.{◌≡◌, ℕ, suc, ◌+◌, ◌<◌, ℤ, pos, Bool, true, false, Some, List, refl, sym, ap, subst, arith, ◌∙◌}
use Rattle.std.specs.Prelude.{nat_eq, nat_le, nat_lt, ◌&&◌, if◌then◌else◌}
use Rattle.std.proofs.lemmas.Bool.{eqb-true, lt-leb}
use Rattle.pv_base.specs.declared.Name.{Name}
use Rattle.pv_values.specs.declared.value.Value.{Value}
use Rattle.pv_values.specs.declared.value.Location.{Location}
use Rattle.pv_values.specs.Heaps.{Fields}
use Rattle.pv_picks.specs.Plain.Core.{Team, Block}
use Rattle.pv_picks.specs.Formulas.Values.{width}
use Rattle.pv_picks.specs.Formulas.Heaps.{Heap, at_number, written, with_object, with_array}
use Rattle.pv_picks.specs.Machine.Frames.{Frame}
use Rattle.pv_picks.specs.Machine.Worlds.{Thread, Mode, OpenBlock, World, is_member, with_frames, with_heap, with_thread, with_message, with_members}
use Rattle.pv_picks.specs.Machine.Steps.{all_behind}
use Rattle.machine_laws.specs.Growth.{IsSameBlock, HeapGrows, Grows}

pub same_self : (b : OpenBlock) → IsSameBlock b b
same_self b = record { opener = refl; low = refl; high = refl; mode = refl; first = refl; team = refl }

pub same_trans : {a b c : OpenBlock} → IsSameBlock a b → IsSameBlock b c → IsSameBlock a c
same_trans x y = record {
  opener = y.opener ∙ x.opener;
  low = y.low ∙ x.low;
  high = y.high ∙ x.high;
  mode = y.mode ∙ x.mode;
  first = y.first ∙ x.first;
  team = y.team ∙ x.team;
}

pub heap_self : (h : Heap) → HeapGrows h h
heap_self h = record { count = omega arith; classes = λ n l. refl; lengths = λ n l. refl }

pub heap_trans : {a b c : Heap} → HeapGrows a b → HeapGrows b c → HeapGrows a c
heap_trans {a} {b} {c} x y = let l = x.count in let m = y.count in record {
  count = omega arith;
  classes = λ n k. y.classes n (omega arith) ∙ x.classes n k;
  lengths = λ n k. y.lengths n (omega arith) ∙ x.lengths n k;
}

pub grows_self : (w : World) → Grows w w
grows_self w =
    record {
      threads = omega arith;
      roles = λ j l. refl;
      blocks = omega arith;
      same = λ b l. same_self (w.blocks b);
      heap = heap_self w.heap;
    }

pub grows_trans : {u v w : World} → Grows u v → Grows v w → Grows u w
grows_trans x y = let l = x.threads in let m = y.threads in let k = x.blocks in let n = y.blocks in record {
  threads = omega arith;
  roles = λ j h. y.roles j (omega arith) ∙ x.roles j h;
  blocks = omega arith;
  same = λ b h. same_trans (x.same b h) (y.same b (omega arith));
  heap = heap_trans x.heap y.heap;
}

-- a function that was changed at a number, elsewhere and in what it keeps there
elsewhere : {A : Type 0} (n : ℕ) (x : A) (f : ℕ → A) (j : ℕ) → nat_eq j n ≡ false → at_number n x f j ≡ f j
elsewhere n x f j h = rw h refl

-- what is below a number is another one
pub above : (j n : ℕ) → j < n → nat_eq j n ≡ false
above j n l = go (nat_eq j n) refl
  where
    go : (b : Bool) → nat_eq j n ≡ b → nat_eq j n ≡ false
    go true e = let s : j ≡ n = eqb-true j n e in absurd (omega arith)
    go false e = e

kept_role : (n : ℕ) (t : Thread) (f : ℕ → Thread) → t.role ≡ (f n).role → (j : ℕ) → (at_number n t f j).role ≡ (f j).role
kept_role n t f h j = go (nat_eq j n) refl
  where
    go : (b : Bool) → nat_eq j n ≡ b → (at_number n t f j).role ≡ (f j).role
    go true e = let s : j ≡ n = eqb-true j n e in rw e (h ∙ ap (λ (k : ℕ). (f k).role) (sym s))
    go false e = rw e refl

-- one block is exchanged for the same
pub kept_block : (n : ℕ) (x : OpenBlock) (f : ℕ → OpenBlock) → IsSameBlock (f n) x → (b : ℕ)
    → IsSameBlock (f b) (at_number n x f b)
kept_block n x f h b = go (nat_eq b n) refl
  where
    go : (t : Bool) → nat_eq b n ≡ t → IsSameBlock (f b) (at_number n x f b)
    go true e = let s : b ≡ n = eqb-true b n e in rw e (subst (λ (k : ℕ). IsSameBlock (f k) x) (sym s) h)
    go false e = rw e (same_self (f b))

-- other frames leave each thread its role
pub same_role : (w : World) (i : ℕ) (frames : List Frame) (j : ℕ) → ((with_frames w i frames).threads j).role ≡ (w.threads j).role
same_role w i frames j = kept_role i (record { role = (w.threads i).role; frames = frames }) w.threads refl j

pub frames_lead : (w : World) (i : ℕ) (frames : List Frame) → Grows w (with_frames w i frames)
frames_lead w i frames = record {
  threads = omega arith;
  roles = λ j l. kept_role i (record { role = (w.threads i).role; frames = frames }) w.threads refl j;
  blocks = omega arith;
  same = λ b l. same_self (w.blocks b);
  heap = heap_self w.heap;
}

pub heap_leads : (w : World) (h : Heap) → HeapGrows w.heap h → Grows w (with_heap w h)
heap_leads w h g =
    record { threads = omega arith; roles = λ j l. refl; blocks = omega arith; same = λ b l. same_self (w.blocks b); heap = g }

pub thread_leads : (w : World) (t : Thread) → Grows w (with_thread w t)
thread_leads w t = record {
  threads = omega arith;
  roles = λ j l. ap (λ (x : Thread). x.role) (elsewhere w.count t w.threads j (above j w.count l));
  blocks = omega arith;
  same = λ b l. same_self (w.blocks b);
  heap = heap_self w.heap;
}

pub message_leads : (w : World) (b : ℕ) (label : Name) (sender : ℤ) → Grows w (with_message w b label sender)
message_leads w b label sender = record {
  threads = omega arith;
  roles = λ j l. refl;
  blocks = omega arith;
  same =
      λ c l. kept_block b _ w.blocks (record { opener = refl; low = refl; high = refl; mode = refl; first = refl; team = refl })
      c;
  heap = heap_self w.heap;
}

not_yet : (w : World) (n j : ℕ) → j < w.count → (nat_le w.count j && nat_lt j n) ≡ false
not_yet w n j l = rw (lt-leb w.count j l) refl

pub members_lead : (w : World) (i : ℕ) (f : Frame) (team : Team) (body : Block) (mode : Mode) (low high : ℤ)
    → Grows w (with_members w i f team body mode low high)
members_lead w i f team body mode low high = record {
  threads = omega arith;
  roles = λ j l. rw (not_yet w (w.count + width low high) j l) refl;
  blocks = omega arith;
  same = λ b l. rw (above b w.block_count l) (same_self (w.blocks b));
  heap = heap_self w.heap;
}

behind_role : (b : Bool) (t : Thread) (frames : List Frame) → (if b then record t { frames = frames } else t).role ≡ t.role
behind_role true t frames = refl
behind_role false t frames = refl

pub behind_leads : (w : World) (block : OpenBlock) → Grows w (all_behind w block)
behind_leads w block = record {
  threads = omega arith;
  roles = λ j l. behind_role (is_member block j) (w.threads j) _;
  blocks = omega arith;
  same = λ b l. same_self (w.blocks b);
  heap = heap_self w.heap;
}

pub written_grows : (h : Heap) (location : Location) (v : Value) → HeapGrows h (written h location v)
written_grows h location v = record { count = omega arith; classes = λ n l. refl; lengths = λ n l. refl }

pub object_grows : (h : Heap) (class : Name) (fields : Fields) → HeapGrows h (with_object h class fields)
object_grows h class fields = record {
  count = omega arith;
  classes = λ n l. elsewhere (suc h.count) (Some class) h.class n (above n (suc h.count) (omega arith));
  lengths = λ n l. refl;
}

pub array_grows : (h : Heap) (first : Value) (size : ℕ) → HeapGrows h (with_array h first size)
array_grows h first size = record {
  count = omega arith;
  classes = λ n l. refl;
  lengths = λ n l. elsewhere (suc h.count) (Some (pos size)) h.length n (above n (suc h.count) (omega arith));
}
