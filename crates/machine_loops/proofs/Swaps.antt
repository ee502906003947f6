-- Two steps of different members, in either order.
use Rattle.std.proofs.Common.{◌≡◌, ℕ, ◌<◌, ℤ, pos, Bool, true, false, ◌&&◌, Option, Some, None, List, [], ◌∷◌, refl, sym, ap, ap₂, arith, ◌∙◌}
use Rattle.std.specs.Prelude.{nat_eq, drop, int_lt, ◌+ℤ◌, ◌-ℤ◌, if◌then◌else◌}
use Rattle.std.proofs.Math.Path.{fun_ext}
use Rattle.std.proofs.lemmas.Bool.{eq-eqb, eqb-true, and_parts}
use Rattle.std.proofs.lemmas.Int.{ints}
use Rattle.pv_base.specs.declared.Name.{Name}
use Rattle.pv_values.specs.declared.value.Value.{Value}
use Rattle.pv_values.specs.declared.value.Location.{Location}
use Rattle.pv_values.specs.Heaps.{same_number, same_location}
use Rattle.pv_base.specs.Names.{same_name}
use Rattle.pv_picks.specs.Formulas.Heaps.{Heap, at_number, written}
use Rattle.pv_picks.specs.Machine.Tasks.{Step, AtRead, AtSend, Task, Stand}
use Rattle.pv_picks.specs.Machine.Frames.{Frame, location_on, breadth, settled}
use Rattle.pv_picks.specs.Machine.Worlds.{Thread, OpenBlock, World, at_message}
use Rattle.pv_picks.specs.Machine.Steps.{Partner, Somebody, Nobody, partner_if}
use Rattle.machine_laws.proofs.Typed.{location_same}
use Rattle.pv_picks.proofs.Sames.{numbers_same}
use Rattle.machine_loops.proofs.Effects.{found, after_tasks, after_frames, thread_after, message_to, message_of, message_in, message_by, write_in, read_of, read_in, put, with_one, changed, with_sent, after}

-- what stands at a number
pub at-same : {A : Type 0} (n : ℕ) (x : A) (f : ℕ → A) → at_number n x f n ≡ x
at-same n x f = rw (eq-eqb n n refl) refl

pub at-other : {A : Type 0} (n k : ℕ) (x : A) (f : ℕ → A) → (k ≡ n → ⊥) → at_number n x f k ≡ f k
at-other n k x f ne = go (nat_eq k n) refl
  where
    go : (t : Bool) → nat_eq k n ≡ t → (if t then x else f k) ≡ f k
    go true e = absurd (ne (eqb-true k n e))
    go false e = refl

pub at-over : {A : Type 0} (n : ℕ) (x y : A) (f : ℕ → A) → at_number n y (at_number n x f) ≡ at_number n y f
at-over {A = A} n x y f = fun_ext (λ k. go (nat_eq k n) (f k))
  where
    go : (t : Bool) (z : A) → (if t then y else (if t then x else z)) ≡ (if t then y else z)
    go true z = refl
    go false z = refl

at-swap : {A : Type 0} (i j : ℕ) (x y : A) (f : ℕ → A) → (i ≡ j → ⊥)
    → at_number j y (at_number i x f) ≡ at_number i x (at_number j y f)
at-swap i j x y f ne = fun_ext (λ k. go k (nat_eq k i) (nat_eq k j) refl refl)
  where
    go : (k : ℕ) (s t : Bool) → nat_eq k i ≡ s → nat_eq k j ≡ t
        → (if t then y else (if s then x else f k)) ≡ (if s then x else (if t then y else f k))
    go k true true a b = absurd (ne (sym (eqb-true k i a) ∙ eqb-true k j b))
    go k true false a b = refl
    go k false true a b = refl
    go k false false a b = refl

-- heaps: two writes are at different locations
abbrev pub AreApart : Option (Location × Value) → Option (Location × Value) → Type 0
AreApart y z = (a c : Location × Value) → y ≡ Some a → z ≡ Some c → a.0 ≡ c.0 → ⊥

written-swap : (h : Heap) (a c : Location) (x y : Value) → (a ≡ c → ⊥) → written (written h a x) c y ≡ written (written h c y) a x
written-swap h a c x y ne =
    let e : (written (written h a x) c y).value ≡ (written (written h c y) a x).value =
    fun_ext (λ q. go q (same_location q a) (same_location q c) refl refl) in
    λ t. record { value = e t; class = h.class; length = h.length; count = h.count }
  where
    go : (q : Location) (s t : Bool) → same_location q a ≡ s → same_location q c ≡ t
        → (if t then Some y else (if s then Some x else h.value q)) ≡ (if s then Some x else (if t then Some y else h.value q))
    go q true true m n = absurd (ne (sym (location_same q a m) ∙ location_same q c n))
    go q true false m n = refl
    go q false true m n = refl
    go q false false m n = refl

put-swap : (h : Heap) (y z : Option (Location × Value)) → AreApart y z → put (put h y) z ≡ put (put h z) y
put-swap h None z n = refl
put-swap h (Some a) None n = refl
put-swap h (Some a) (Some c) n = written-swap h a.0 c.0 a.1 c.1 (λ e. n a c refl refl e)

-- no read is where a write is
abbrev pub IsReadApart : Option Location → Option (Location × Value) → Type 0
IsReadApart r z = (q : Location) (c : Location × Value) → r ≡ Some q → z ≡ Some c → q ≡ c.0 → ⊥

written-other : (h : Heap) (a q : Location) (x : Value) → (q ≡ a → ⊥) → (written h a x).value q ≡ h.value q
written-other h a q x ne = go (same_location q a) refl
  where
    go : (t : Bool) → same_location q a ≡ t → (if t then Some x else h.value q) ≡ h.value q
    go true e = absurd (ne (location_same q a e))
    go false e = refl

step-apart : (h : Heap) (c : Location × Value) (f : Frame) (step : Step) (rest : List Task)
    → IsReadApart (read_of f (Stand step ∷ rest)) (Some c)
    → after_tasks (written h c.0 c.1) f (Stand step ∷ rest) ≡ after_tasks h f (Stand step ∷ rest)
step-apart h c f (AtRead spot span) rest n =
    ap (λ (o : Option Value). settled (record f { values = found o ∷ drop (breadth spot) f.values; tasks = rest }) ∷ [])
    (written-other h c.0 (location_on spot f.values) c.1 (λ e. n (location_on spot f.values) c refl refl e))
step-apart h c f _ rest n = refl

tasks-apart : (h : Heap) (c : Location × Value) (f : Frame) (ts : List Task) → IsReadApart (read_of f ts) (Some c)
    → after_tasks (written h c.0 c.1) f ts ≡ after_tasks h f ts
tasks-apart h c f [] n = refl
tasks-apart h c f (Stand step ∷ rest) n = step-apart h c f step rest n
tasks-apart h c f _ n = refl

frames-apart : (h : Heap) (z : Option (Location × Value)) (fs : List Frame) → IsReadApart (read_in fs) z
    → after_frames (put h z) fs ≡ after_frames h fs
frames-apart h None fs n = refl
frames-apart h (Some c) [] n = refl
frames-apart h (Some c) (f ∷ below) n = tasks-apart h c f f.tasks n

-- blocks

pub changed-same : (g : OpenBlock → OpenBlock) (b : ℕ) (blocks : ℕ → OpenBlock) → changed g b blocks b ≡ g (blocks b)
changed-same g b blocks = at-same b (g (blocks b)) blocks

pub changed-twice : (g h : OpenBlock → OpenBlock) (b : ℕ) (blocks : ℕ → OpenBlock)
    → changed g b (changed h b blocks) ≡ changed (λ x. g (h x)) b blocks
changed-twice g h b blocks =
    ap (λ (x : OpenBlock). at_number b (g x) (changed h b blocks)) (changed-same h b blocks)
    ∙ at-over b (h (blocks b)) (g (h (blocks b))) blocks

pub changed-swap : (g h : OpenBlock → OpenBlock) (b : ℕ) (blocks : ℕ → OpenBlock) → ((x : OpenBlock) → g (h x) ≡ h (g x))
    → changed g b (changed h b blocks) ≡ changed h b (changed g b blocks)
changed-swap g h b blocks same =
    changed-twice g h b blocks
    ∙ (ap (λ (x : OpenBlock). at_number b x blocks) (same (blocks b)) ∙ sym (changed-twice h g b blocks))

-- messages

pub sent-keeps : {A : Type 0} (checked : OpenBlock → A) → ((m : Name × ℤ) (x : OpenBlock) → checked (with_one m x) ≡ checked x)
    → (blocks : ℕ → OpenBlock) (b : ℕ) (m : Option (Name × ℤ)) → checked (with_sent blocks b m b) ≡ checked (blocks b)
sent-keeps checked same blocks b None = refl
sent-keeps checked same blocks b (Some m) = ap checked (changed-same (with_one m) b blocks) ∙ same m (blocks b)

pub sent-low : (blocks : ℕ → OpenBlock) (b : ℕ) (m : Option (Name × ℤ)) → (with_sent blocks b m b).low ≡ (blocks b).low
sent-low = sent-keeps (λ x. x.low) (λ m x. refl)

pub sent-high : (blocks : ℕ → OpenBlock) (b : ℕ) (m : Option (Name × ℤ)) → (with_sent blocks b m b).high ≡ (blocks b).high
sent-high = sent-keeps (λ x. x.high) (λ m x. refl)

pub sent-mode : (blocks : ℕ → OpenBlock) (b : ℕ) (m : Option (Name × ℤ)) → (with_sent blocks b m b).mode ≡ (blocks b).mode
sent-mode = sent-keeps (λ x. x.mode) (λ m x. refl)

pub sent-first : (blocks : ℕ → OpenBlock) (b : ℕ) (m : Option (Name × ℤ)) → (with_sent blocks b m b).first ≡ (blocks b).first
sent-first = sent-keeps (λ x. x.first) (λ m x. refl)

messages-swap : (m n : Name × ℤ) (s : Name → ℤ → Bool)
    → at_message n.0 n.1 (at_message m.0 m.1 s) ≡ at_message m.0 m.1 (at_message n.0 n.1 s)
messages-swap m n s =
    fun_ext (λ name. fun_ext (λ z. go (same_name name m.0 && same_number z m.1) (same_name name n.0 && same_number z n.1)
    (s name z)))
  where
    go : (s t o : Bool) → (if t then true else (if s then true else o)) ≡ (if s then true else (if t then true else o))
    go true true o = refl
    go true false o = refl
    go false true o = refl
    go false false o = refl

sent-swap : (blocks : ℕ → OpenBlock) (b : ℕ) (m n : Option (Name × ℤ))
    → with_sent (with_sent blocks b m) b n ≡ with_sent (with_sent blocks b n) b m
sent-swap blocks b None n = refl
sent-swap blocks b (Some m) None = refl
sent-swap blocks b (Some m) (Some n) =
    changed-swap (with_one n) (with_one m) b blocks (λ x. ap (λ s. record x { sent = s }) (messages-swap m n x.sent))

-- worlds: after a step of each of two members
abbrev pair : World → ℕ → ℤ → ℤ → ℕ → ℕ → World
pair w b x y i j = record {
  heap = put (put w.heap (write_in (w.threads i).frames)) (write_in (w.threads j).frames);
  count = w.count;
  threads = at_number j (thread_after w j) (at_number i (thread_after w i) w.threads);
  block_count = w.block_count;
  blocks = with_sent (with_sent w.blocks b (message_by w b x i)) b (message_by w b y j);
  holder = w.holder;
  committed = w.committed;
  state = w.state;
}

pub thread-after : (w : World) (b : ℕ) (x : ℤ) (i j : ℕ) → (i ≡ j → ⊥) → (after w b x i).threads j ≡ w.threads j
thread-after w b x i j ne = at-other i j (thread_after w i) w.threads (λ e. ne (sym e))

both-after : (w : World) (b : ℕ) (x y : ℤ) (i j : ℕ) → (i ≡ j → ⊥)
    → IsReadApart (read_in (w.threads j).frames) (write_in (w.threads i).frames) → after (after w b x i) b y j ≡ pair w b x y i j
both-after w b x y i j ne apart =
    let u : World = after w b x i in
    let e : u.threads j ≡ w.threads j = thread-after w b x i j ne in
    let g : after_frames u.heap (u.threads j).frames ≡ after_frames w.heap (w.threads j).frames =
    ap (λ (t : Thread). after_frames u.heap t.frames) e
    ∙ frames-apart w.heap (write_in (w.threads i).frames) (w.threads j).frames apart in
    let m : message_by u b y j ≡ message_by w b y j =
    ap₂ (λ (high : ℤ) (t : Thread). message_in high y t.frames) (sent-high w.blocks b (message_by w b x i)) e in
    λ t. record {
      heap = put u.heap (write_in (e t).frames);
      count = w.count;
      threads = at_number j (record { role = (e t).role; frames = g t }) u.threads;
      block_count = w.block_count;
      blocks = with_sent u.blocks b (m t);
      holder = w.holder;
      committed = w.committed;
      state = w.state;
    }

pair-swap : (w : World) (b : ℕ) (x y : ℤ) (i j : ℕ) → (i ≡ j → ⊥)
    → AreApart (write_in (w.threads i).frames) (write_in (w.threads j).frames) → pair w b x y i j ≡ pair w b y x j i
pair-swap w b x y i j ne apart =
    let h = put-swap w.heap (write_in (w.threads i).frames) (write_in (w.threads j).frames) apart in
    let ths = at-swap i j (thread_after w i) (thread_after w j) w.threads ne in
    let bs = sent-swap w.blocks b (message_by w b x i) (message_by w b y j) in
    λ t. record {
      heap = h t;
      count = w.count;
      threads = ths t;
      block_count = w.block_count;
      blocks = bs t;
      holder = w.holder;
      committed = w.committed;
      state = w.state;
    }

-- two steps that touch no location of which one writes, in either order
pub after-swap : (w : World) (b : ℕ) (x y : ℤ) (i j : ℕ) → (i ≡ j → ⊥)
    → IsReadApart (read_in (w.threads i).frames) (write_in (w.threads j).frames)
    → IsReadApart (read_in (w.threads j).frames) (write_in (w.threads i).frames)
    → AreApart (write_in (w.threads i).frames) (write_in (w.threads j).frames)
    → after (after w b x i) b y j ≡ after (after w b y j) b x i
after-swap w b x y i j ne ij ji both =
    both-after w b x y i j ne ji ∙ (pair-swap w b x y i j ne both ∙ sym (both-after w b y x j i (λ e. ne (sym e)) ij))

-- what a member at a position sends, it sends from there
message-to-from : (receiver : Partner) (label : Name) (z : ℤ) (m : Name × ℤ) → message_to receiver label z ≡ Some m → m.1 ≡ z
message-to-from Somebody label z m h = cc
message-to-from Nobody label z m h = absurd (cc)

message-of-from : (high z : ℤ) (ts : List Task) (m : Name × ℤ) → message_of high z ts ≡ Some m → m.1 ≡ z
message-of-from high z (Stand (AtSend message span) ∷ rest) m h =
    message-to-from (partner_if (int_lt (z +ℤ pos message.distance) high)) message.label z m h
message-of-from high z _ m h = absurd (cc)

pub message-from : (high z : ℤ) (fs : List Frame) (m : Name × ℤ) → message_in high z fs ≡ Some m → m.1 ≡ z
message-from high z [] m h = absurd (cc)
message-from high z (f ∷ below) m h = message-of-from high z f.tasks m h

-- messages stay
pub sent-more : (blocks : ℕ → OpenBlock) (b : ℕ) (m : Option (Name × ℤ)) (label : Name) (z : ℤ) → (blocks b).sent label z ≡ true
    → (with_sent blocks b m b).sent label z ≡ true
sent-more blocks b None label z h = h
sent-more blocks b (Some m) label z h =
    ap (λ (y : OpenBlock). y.sent label z) (changed-same (with_one m) b blocks)
    ∙ go (same_name label m.0 && same_number z m.1) ((blocks b).sent label z) h
  where
    go : (t o : Bool) → o ≡ true → (if t then true else o) ≡ true
    go true o h = refl
    go false o h = h

-- and none from elsewhere is new
pub sent-elsewhere : (blocks : ℕ → OpenBlock) (b : ℕ) (m : Option (Name × ℤ)) (label : Name) (z : ℤ)
    → ((n : Name × ℤ) → m ≡ Some n → z ≡ n.1 → ⊥) → (with_sent blocks b m b).sent label z ≡ true → (blocks b).sent label z ≡ true
sent-elsewhere blocks b None label z n h = h
sent-elsewhere blocks b (Some m) label z n h =
    let e : (if same_name label m.0 && same_number z m.1 then true else (blocks b).sent label z) ≡ true =
    ap (λ (y : OpenBlock). y.sent label z) (sym (changed-same (with_one m) b blocks)) ∙ h in
    go (same_name label m.0 && same_number z m.1) refl ((blocks b).sent label z) e
  where
    go : (t : Bool) → (same_name label m.0 && same_number z m.1) ≡ t → (o : Bool) → (if t then true else o) ≡ true → o ≡ true
    go true k o e = absurd (n m refl (numbers_same z m.1 (and_parts (same_name label m.0) (same_number z m.1) k).1))
    go false k o e = e

-- who is below a member, by a distance, isn't above it
pub below-member : (low : ℤ) (k m d : ℕ) → k < m → (low +ℤ pos k) -ℤ pos d ≡ low +ℤ pos m → ⊥
below-member low k m d l e = omega (arith, ints, e)
