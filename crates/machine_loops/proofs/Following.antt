-- The ordered run of a counted loop follows a sorted free run that ends.
use Rattle.std.proofs.Common.{◌≡◌, ℕ, zero, suc, ◌+◌, ◌-◌, ◌<◌, ◌≤◌, ℤ, pos, Bool, true, false, not, Option, Some, None, List, [], ◌∷◌, map, refl, sym, ap, arith, ◌∙◌, inl}
use Rattle.std.specs.Prelude.{◌-ℤ◌}
use Rattle.std.proofs.lemmas.Bool.{and_from}
use Rattle.pv_base.specs.declared.Name.{Name}
use Rattle.pv_picks.specs.Plain.Core.{Program}
use Rattle.pv_picks.specs.Formulas.Heaps.{at_number}
use Rattle.pv_picks.specs.Machine.Frames.{Frame}
use Rattle.pv_picks.specs.Machine.Worlds.{Role, Thread, Mode, Free, Ordered, OpenBlock, World, has_no_frame, has_ended, each_from, waits_in, waits_as, is_held_back}
use Rattle.pv_picks.specs.Machine.Steps.{Result, act}
use Rattle.pv_picks.specs.Machine.Safety.{IsSafe, is_able, world_after, run_events}
use Rattle.machine_laws.proofs.Modes.{act-alike}
use Rattle.machine_loops.proofs.Effects.{thread_after, message_in, message_by, write_in, put, with_one, changed, with_sent, after}
use Rattle.machine_loops.proofs.Able.{act-able}
use Rattle.machine_loops.proofs.Results.{able-goes, wrong-alike}
use Rattle.machine_loops.proofs.Swaps.{changed-same, changed-swap, thread-after}
use Rattle.machine_loops.proofs.Stages.{position, Stage, stage-after, stage-next}
use Rattle.machine_loops.proofs.Sorting.{from-less, Path, AllFrom, IsSorted, AreMembers}

-- the same block in order, and the same world with a block in order
abbrev pub ordered : OpenBlock → OpenBlock
ordered block = record block { mode = Ordered }

abbrev pub in_order : ℕ → World → World
in_order b w = record w { blocks = changed ordered b w.blocks }

-- messages and the order of a block
blocks-ordered : (blocks : ℕ → OpenBlock) (b : ℕ) (m : Option (Name × ℤ))
    → with_sent (changed ordered b blocks) b m ≡ changed ordered b (with_sent blocks b m)
blocks-ordered blocks b None = refl
blocks-ordered blocks b (Some m) = changed-swap (with_one m) ordered b blocks (λ x. refl)

after-ordered : (w : World) (b : ℕ) (z : ℤ) (j : ℕ) → after (in_order b w) b z j ≡ in_order b (after w b z j)
after-ordered w b z j =
    let fs : List Frame = (w.threads j).frames in
    let inside : ℕ → OpenBlock = changed ordered b w.blocks in
    let bs : with_sent inside b (message_in (inside b).high z fs)
    ≡ changed ordered b (with_sent w.blocks b (message_by w b z j)) =
    ap (λ (x : OpenBlock). with_sent inside b (message_in x.high z fs)) (changed-same ordered b w.blocks)
    ∙ blocks-ordered w.blocks b (message_by w b z j) in
    λ t. record {
      heap = put w.heap (write_in fs);
      count = w.count;
      threads = at_number j (thread_after w j) w.threads;
      block_count = w.block_count;
      blocks = bs t;
      holder = w.holder;
      committed = w.committed;
      state = w.state;
    }

each-from : (test : ℕ → Bool) (first n : ℕ) → ((k : ℕ) → first ≤ k → k < first + n → test k ≡ true)
    → each_from test first n ≡ true
each-from test first zero h = refl
each-from test first (suc n) h =
    and_from (test first) (each_from test (suc first) n) (h first (omega arith) (omega arith))
    (each-from test (suc first) n (λ k a c. h k (omega arith) (omega arith)))

-- all lower members ended
abbrev pub LowerEnded : ℕ → ℕ → World → Type 0
LowerEnded lo j w = (k : ℕ) → lo ≤ k → k < j → has_ended w k ≡ true

module _ (p : Program) (safe : IsSafe p) (lo hi b : ℕ) (low : ℤ) where
  ordered-free : (v : World) (j : ℕ) → Stage p lo hi b low Ordered v → lo ≤ j → j < hi → LowerEnded lo j v
      → is_held_back v j ≡ false
  ordered-free v j s x y ended =
      ap (λ (r : Role). waits_as v j r) (s.role j x y)
      ∙ (ap (λ (m : Mode). waits_in v j (v.blocks b) m) s.mode
      ∙ (ap (λ (n : ℕ). not (each_from (has_ended v) n (j - n))) s.first
      ∙ ap not (each-from (has_ended v) lo (j - lo) (λ k a c. ended k a (omega arith)))))

  -- a free step of a member is a step of the ordered run, where all lower members ended
  step-ordered : (w u : World) (j : ℕ) → Stage p lo hi b low Free w → Stage p lo hi b low Ordered (in_order b w) → lo ≤ j → j < hi
      → LowerEnded lo j w → act p w Free j ≡ Result.Went u → act p (in_order b w) Ordered j ≡ Result.Went (in_order b u)
  step-ordered w u j s t x y ended h =
      let o : World = in_order b w in
      let same : o.blocks b ≡ ordered (w.blocks b) = changed-same ordered b w.blocks in
      let can : is_able (act p o Ordered j) ≡ true =
      act-able p w o j b (position lo low j) Free Ordered (s.role j x y) refl (ap (λ (z : OpenBlock). z.low) same)
      (λ label k e. ap (λ (z : OpenBlock). z.sent label (position lo low j -ℤ pos k)) same ∙ e)
      (ordered-free o j t x y ended) (s.quiet j x y) (ap is_able h) in
      let gone = able-goes (act p o Ordered j) can (λ named span e.
      let f = wrong-alike (act p o Ordered j) (act p o Free j) named span (act-alike p o Ordered Free j) e in
      safe o t.reached (inl (j, f.0, f.1, f.2))) in
      let eu : u ≡ after w b (position lo low j) j = stage-after p lo hi b low Free Free w u j s x y h in
      let ev : gone.0 ≡ after o b (position lo low j) j = stage-after p lo hi b low Ordered Ordered o gone.0 j t x y gone.1 in
      let is : gone.0 ≡ in_order b u = ev ∙ (after-ordered w b (position lo low j) j ∙ ap (in_order b) (sym eu)) in
      gone.1 ∙ ap (λ (z : World). Result.Went z) is

  -- who isn't in a run stays as it is
  path-keeps : (js : List ℕ) (w v : World) (k : ℕ) → Stage p lo hi b low Free w → AreMembers lo hi js → Path p w js v
      → AllFrom (suc k) js → v.threads k ≡ w.threads k
  path-keeps [] w v k s members path above = ap (λ (x : World). x.threads k) (sym path)
  path-keeps (j ∷ js) w v k s members path above =
      let e = stage-after p lo hi b low Free Free w path.0 j s members.0.0 members.0.1 path.1 in
      let next = stage-next p lo hi b low Free Free w path.0 j s members.0.0 members.0.1 path.1 in
      let l : suc k ≤ j = above.0 in
      path-keeps js path.0 v k next members.1 path.2 above.1
      ∙ (ap (λ (x : World). x.threads k) e ∙ thread-after w b (position lo low j) j k (λ (f : j ≡ k). omega (arith, f, l)))

  -- the ordered run takes the same steps
  pub follow : (js : List ℕ) (w v : World) → Stage p lo hi b low Free w → Stage p lo hi b low Ordered (in_order b w)
      → AreMembers lo hi js → IsSorted js → Path p w js v
      → ((k : ℕ) → lo ≤ k → k < hi → has_ended v k ≡ true)
      → run_events p (map (λ (j : ℕ). record { thread = j; mode = Ordered }) js) (in_order b w) ≡ in_order b v
  follow [] w v s t members sorted path ended = ap (in_order b) path
  follow (j ∷ js) w v s t members sorted path ended =
      let x : lo ≤ j = members.0.0 in
      let y : j < hi = members.0.1 in
      let lower : LowerEnded lo j w = (λ (k : ℕ) (a : lo ≤ k) (c : k < j).
      ap (λ (th : Thread). has_no_frame th.frames)
      (sym (path-keeps (j ∷ js) w v k s members path (c, from-less (suc k) j js c sorted.0))) ∙ ended k a (omega arith)) in
      let step : act p (in_order b w) Ordered j ≡ Result.Went (in_order b path.0) =
      step-ordered w path.0 j s t x y lower path.1 in
      let next = stage-next p lo hi b low Free Free w path.0 j s x y path.1 in
      let next_too = stage-next p lo hi b low Ordered Ordered (in_order b w) (in_order b path.0) j t x y step in
      ap (λ (r : Result). run_events p (map (λ (j : ℕ). record { thread = j; mode = Ordered }) js) (world_after (in_order b w) r))
      step
      ∙ follow js path.0 v next next_too members.1 sorted.1 path.2 ended
