-- In a safe program, a counted loop whose body is quiet ends, where it ends freely, in the heap of its ordered run.
use Rattle.std.proofs.Common.{◌≡◌, ℕ, List, [], ◌∷◌, map, refl, sym, ap, ◌∙◌}
use Rattle.pv_picks.specs.Plain.Core.{Program}
use Rattle.pv_picks.specs.Machine.Worlds.{Free, Ordered, OpenBlock, World}
use Rattle.pv_picks.specs.Machine.Steps.{Result, act}
use Rattle.pv_picks.specs.Machine.Safety.{IsReached, IsSafe, world_after, run_events}
use Rattle.pv_picks.specs.Machine.LoopRuns.{AreSame, StandsAtLoop, AreBetween, IsLoopRun, OrderedEndsIn}
use Rattle.machine_laws.proofs.Ordered.{ordered_runs-same}
use Rattle.machine_loops.proofs.Swaps.{changed-same}
use Rattle.machine_laws.proofs.Changes.{reached_next}
use Rattle.machine_loops.proofs.Stages.{Stage}
use Rattle.machine_loops.proofs.Sorting.{Path, AreMembers, Sorted, sort}
use Rattle.machine_loops.proofs.Following.{ordered, in_order, follow}
use Rattle.machine_loops.proofs.Opening.{OpensQuiet, Opened, loop-opened}

-- a run of members in which each step goes
record Stripped (p : Program) (lo hi : ℕ) (w v : World) : Type 0 where
  order : List ℕ
  path : Path p w order v
  members : AreMembers lo hi order

-- without the events that do nothing
strip : (p : Program) (lo hi : ℕ) (js : List ℕ) (w v : World) → AreMembers lo hi js
    → run_events p (map (λ (j : ℕ). record { thread = j; mode = Free }) js) w ≡ v → Stripped p lo hi w v
strip p lo hi [] w v members e = record { order = []; path = e; members = tt }
strip p lo hi (j ∷ js) w v members e = go (act p w Free j) refl e (λ u f. strip p lo hi js u v members.1 f)
  where
    go : (r : Result) → act p w Free j ≡ r → run_events p (map (λ (j : ℕ). record { thread = j; mode = Free }) js)
        (world_after w r) ≡ v
        → ((u : World) → run_events p (map (λ (j : ℕ). record { thread = j; mode = Free }) js) u ≡ v → Stripped p lo hi u v)
        → Stripped p lo hi w v
    go (Result.Went u) h f again =
        let rest = again u f in record { order = j ∷ rest.order; path = (u, h, rest.path); members = (members.0, rest.members) }
    go Result.Waits h f again = again w f
    go Result.Ended h f again = again w f
    go (Result.Wrong named span) h f again = again w f

members-of : (w o : World) (js : List ℕ) → AreBetween w o js → AreMembers w.count o.count js
members-of w o [] h = tt
members-of w o (j ∷ js) h = (h.0, members-of w o js h.1)

between-of : (w o : World) (js : List ℕ) → AreMembers w.count o.count js → AreBetween w o js
between-of w o [] h = tt
between-of w o (j ∷ js) h = (h.0, between-of w o js h.1)

same-heap : (w v : World) → w ≡ v → AreSame v.heap w.heap
same-heap w v e = record {
  counts = ap (λ (x : World). x.heap.count) (sym e);
  classes = λ n. ap (λ (x : World). x.heap.class n) (sym e);
  lengths = λ n. ap (λ (x : World). x.heap.length n) (sym e);
  values = λ q. ap (λ (x : World). x.heap.value q) (sym e);
}

pub loop-agrees : (p : Program) → IsSafe p → (w : World) → IsReached p w → (i : ℕ) → StandsAtLoop w i → OpensQuiet w i
    → (last : World) → IsLoopRun p w i Free last → OrderedEndsIn p w i last.heap
loop-agrees p safe w reached i at quiet last r =
    let o : World = r.opened in
    let b : ℕ = w.block_count in
    let made : Opened p w i o = loop-opened p w o i at quiet r.opens in
    let free : Stage p w.count o.count b made.low Free o = record {
      reached = reached_next p w o Free i reached r.opens;
      role = made.role;
      quiet = made.quiet;
      mode = made.mode;
      first = made.first;
    } in
    let same : (in_order b o).blocks b ≡ ordered (o.blocks b) = changed-same ordered b o.blocks in
    let inside : Stage p w.count o.count b made.low Ordered (in_order b o) = record {
      reached = reached_next p w (in_order b o) Ordered i reached made.twin;
      role = made.role;
      quiet = made.quiet;
      mode = ap (λ (x : OpenBlock). x.mode) same;
      first = ap (λ (x : OpenBlock). x.first) same ∙ made.first;
    } in
    let bare : Stripped p w.count o.count o last =
    strip p w.count o.count r.order o last (members-of w o r.order r.members) r.leads in
    let s : Sorted p w.count o.count o last =
    sort p safe w.count o.count b made.low bare.order o last free bare.path bare.members in
    let one : IsLoopRun p w i Ordered (in_order b last) = record {
      opened = in_order b o;
      opens = made.twin;
      order = s.order;
      members = between-of w (in_order b o) s.order s.members;
      leads =
          follow p safe w.count o.count b made.low s.order o last free inside s.members s.sorted s.path
          (λ k x y. r.ended k (x, y));
      ended = λ j h. r.ended j h;
    } in
    record {
      last = in_order b last;
      runs = one;
      each = λ other run. same-heap (in_order b last) other (ordered_runs-same p w i (in_order b last) other at one run);
    }
