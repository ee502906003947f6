-- Where a counted loop is opened, its members are at their first step; and it opens in order as it does freely.
use Rattle.std.proofs.Common.{◌≡◌, ℕ, ◌+◌, ◌-◌, ◌<◌, ◌≤◌, ℤ, pos, Bool, true, false, not, List, [], ◌∷◌, refl, sym, ap, subst, ◌∙◌}
use Rattle.std.specs.Prelude.{◌+ℤ◌, if◌then◌else◌}
use Rattle.std.proofs.lemmas.Bool.{le-leb, lt-ltb, and_from}
use Rattle.pv_picks.specs.declared.check.Check.TheVariants as check
use Rattle.pv_picks.specs.Plain.Core.{Team, Block, Program}
use Rattle.pv_picks.specs.Formulas.Values.{number_in, at_position, width}
use Rattle.pv_picks.specs.Formulas.Heaps.{at_number}
use Rattle.pv_picks.specs.Formulas.Meeting.{Finding, unmet_shared}
use Rattle.pv_picks.specs.Machine.Tasks.{AtOpen, AtClose, Task, Run, Stand}
use Rattle.pv_picks.specs.Machine.Frames.{Frame, top, second, pops, settled, sight_of, body_scene}
use Rattle.pv_picks.specs.Machine.Worlds.{MemberOf, Thread, Mode, Free, Ordered, OpenBlock, World, member_thread, with_frames, with_members, is_held_back}
use Rattle.pv_picks.specs.Machine.Steps.{Result, act_open, act_tasks, act_frames, act}
use Rattle.pv_picks.specs.Machine.LoopRuns.{opens_loop, frames_at_loop, StandsAtLoop}
use Rattle.machine_loops.specs.Quiet.{is_quiet_block}
use Rattle.machine_loops.proofs.Quiet.{AreQuietFrames, settled-quiet}
use Rattle.machine_loops.proofs.Results.{met_went, met_alike, waits_went, waits_alike, same_world}
use Rattle.machine_loops.proofs.Swaps.{at-same, changed-twice}
use Rattle.machine_loops.proofs.Following.{ordered, in_order}
use Rattle.machine_loops.proofs.Effects.{changed}

-- a thread stands where it opens a block or a counted loop whose body is quiet
abbrev pub opens_quiet : List Task → Bool
opens_quiet (Stand (AtOpen team body) ∷ rest) = is_quiet_block body
opens_quiet _ = false

abbrev pub frames_open_quiet : List Frame → Bool
frames_open_quiet [] = false
frames_open_quiet (f ∷ below) = opens_quiet f.tasks

abbrev pub OpensQuiet : World → ℕ → Type 0
OpensQuiet w i = frames_open_quiet (w.threads i).frames ≡ true

-- what opening a counted loop freely leads to: its members at their first step, and how it opens in order
pub record Opened (p : Program) (w : World) (i : ℕ) (o : World) : Type 0 where
  pub low : ℤ
  pub role : (j : ℕ) → w.count ≤ j → j < o.count → (o.threads j).role ≡ MemberOf w.block_count (low +ℤ pos (j - w.count))
  pub quiet : (j : ℕ) → w.count ≤ j → j < o.count → AreQuietFrames (o.threads j).frames
  pub mode : (o.blocks w.block_count).mode ≡ Free
  pub first : (o.blocks w.block_count).first ≡ w.count
  pub twin : act p w Ordered i ≡ Result.Went (in_order w.block_count o)

-- the members made
module _ (w : World) (i : ℕ) (f : Frame) (team : Team) (body : Block) (low high : ℤ) where
  member-made : (m : Mode) (j : ℕ) → w.count ≤ j → j < w.count + width low high
      → (with_members w i f team body m low high).threads j ≡ member_thread w f team body low j
  member-made m j a b = rw (le-leb w.count j a, lt-ltb j (w.count + width low high) b) refl

  member-quiet : is_quiet_block body ≡ true → (j : ℕ) → AreQuietFrames (member_thread w f team body low j).frames
  member-quiet q j = settled-quiet (record f {
    begun = at_position f.variables team.variable (low +ℤ pos (j - w.count));
    variables = at_position f.variables team.variable (low +ℤ pos (j - w.count));
    values = [];
    tasks = Run body ∷ [];
  }) (and_from (is_quiet_block body) true q refl)

  abbrev block_in : Mode → OpenBlock
  block_in m = record { opener = i; low = low; high = high; mode = m; first = w.count; team = team; sent = λ label sender. false }

  made-in-order : in_order w.block_count (with_members w i f team body Free low high)
      ≡ with_members w i f team body Ordered low high
  made-in-order =
      let bs : changed ordered w.block_count (at_number w.block_count (block_in Free) w.blocks)
      ≡ at_number w.block_count (block_in Ordered) w.blocks =
      changed-twice ordered (λ x. block_in Free) w.block_count w.blocks in
      let made : World = with_members w i f team body Ordered low high in
      λ t. record {
        heap = made.heap;
        count = made.count;
        threads = made.threads;
        block_count = made.block_count;
        blocks = bs t;
        holder = made.holder;
        committed = made.committed;
        state = made.state;
      }

opened-made : (p : Program) (w : World) (i : ℕ) (fs : List Frame) (f : Frame) (team : Team) (body : Block) (low high : ℤ)
    → is_quiet_block body ≡ true → act p w Ordered i ≡ Result.Went (with_members
    (with_frames w i fs) i f team body Ordered low high)
    → Opened p w i (with_members (with_frames w i fs) i f team body Free low high)
opened-made p w i fs f team body low high q twin = let v : World = with_frames w i fs in record {
  low = low;
  role = λ j a b. ap (λ (t : Thread). t.role) (member-made v i f team body low high Free j a b);
  quiet =
      λ j a b. subst (λ (t : Thread). AreQuietFrames t.frames) (sym (member-made v i f team body low high Free j a b))
      (member-quiet v i f team body low high q j);
  mode = ap (λ (x : OpenBlock). x.mode) (at-same w.block_count (block_in v i f team body low high Free) w.blocks);
  first = ap (λ (x : OpenBlock). x.first) (at-same w.block_count (block_in v i f team body low high Free) w.blocks);
  twin = twin ∙ ap (λ (x : World). Result.Went x) (sym (made-in-order v i f team body low high));
}

module _ (p : Program) (w o : World) (i : ℕ) (f : Frame) (below : List Frame) where
  open-opened : (team : Team) (body : Block) (low high : ℤ) (rest : List Task) → team.counted ≡ true → is_quiet_block body ≡ true
      → act_open p w i f below Free team body low high rest ≡ Result.Went o
      → act p w Ordered i ≡ act_open p w i f below Ordered team body low high rest → Opened p w i o
  open-opened team body low high rest counted q h twin =
      let broken : Finding = unmet_shared (sight_of w.heap f) (body_scene f) team.variable low high team.shared.each_before in
      let fs : List Frame = settled (pops 2 f (Stand (AtClose w.block_count) ∷ rest)) ∷ below in
      let opens : Mode → World = (λ m. with_members (with_frames w i fs) i f team body m low high) in
      let free : (if team.counted then Free else Free) ≡ Free = ap (λ (t : Bool). if t then Free else Free) counted in
      let ordered : (if team.counted then Ordered else Free) ≡ Ordered = ap (λ (t : Bool). if t then Ordered else Free) counted in
      let is : opens Free ≡ o =
      ap opens (sym free) ∙ sym (same_world o _ (met_went o broken check.BlockRequires _ h)) in
      let other : act p w Ordered i ≡ Result.Went (opens Ordered) =
      twin ∙ (met_alike o broken check.BlockRequires _ _ h ∙ ap (λ (m : Mode). Result.Went (opens m)) ordered) in
      subst (λ (v : World). Opened p w i v) is (opened-made p w i fs f team body low high q other)

  tasks-opened : (ts : List Task) → opens_loop ts ≡ true → opens_quiet ts ≡ true → act_tasks p w i f below Free ts ≡ Result.Went o
      → act p w Ordered i ≡ act_tasks p w i f below Ordered ts → Opened p w i o
  tasks-opened (Stand (AtOpen team body) ∷ rest) counted q h twin =
      open-opened team body (number_in (second f.values)) (number_in (top f.values)) rest counted q h twin
  tasks-opened _ counted q h twin = absurd (cc)

frames-opened : (p : Program) (w o : World) (i : ℕ) (fs : List Frame) → frames_at_loop fs ≡ true → frames_open_quiet fs ≡ true
    → act_frames p w Free i fs ≡ Result.Went o → act p w Ordered i ≡ act_frames p w Ordered i fs → Opened p w i o
frames-opened p w o i [] at q h twin = absurd (cc)
frames-opened p w o i (f ∷ below) at q h twin =
    let free : Bool = not (is_held_back w i) in
    tasks-opened p w o i f below f.tasks at q (waits_went o free _ h) (twin ∙ waits_alike o free _ _ h)

pub loop-opened : (p : Program) (w o : World) (i : ℕ) → StandsAtLoop w i → OpensQuiet w i → act p w Free i ≡ Result.Went o
    → Opened p w i o
loop-opened p w o i at q h = frames-opened p w o i (w.threads i).frames at q h refl
