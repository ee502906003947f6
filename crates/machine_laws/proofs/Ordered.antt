-- The ordered run of a loop is one: where two of them end, they end in one world.
use Rattle.std.proofs.Common.{◌≡◌, ℕ, zero, suc, ◌+◌, ◌-◌, ◌<◌, ◌≤◌, ℤ, pos, Bool, true, false, List, [], ◌∷◌, map, refl, sym, ap, subst, arith, ◌∙◌, ◌⊎◌, inl, inr}
use Rattle.std.specs.Prelude.{not, nat_lt, if◌then◌else◌, ◌+ℤ◌}
use Rattle.std.proofs.lemmas.Bool.{eq-eqb, le-leb, lt-ltb, ltb-true, ltb-false}
use Rattle.pv_picks.specs.declared.check.Check.{Check}
use Rattle.pv_picks.specs.declared.check.Check.TheVariants as check
use Rattle.pv_picks.specs.Plain.Core.{Team, Block, Program}
use Rattle.pv_picks.specs.Formulas.Values.{number_in, width}
use Rattle.pv_picks.specs.Formulas.Meeting.{Finding, AllMet, FirstUnmet, unmet_shared}
use Rattle.pv_picks.specs.Machine.Tasks.{AtOpen, AtClose, Task, Stand}
use Rattle.pv_picks.specs.Machine.Frames.{Frame, top, second, pops, sight_of, body_scene}
use Rattle.pv_picks.specs.Machine.Worlds.{Role, MemberOf, Mode, Free, Ordered, World, with_members, has_no_frame, has_ended, each_from, waits_in, waits_as, is_held_back}
use Rattle.pv_picks.specs.Machine.Steps.{Result, needs_met, waits_unless, goes, act_open, act_tasks, act_frames, act}
use Rattle.pv_picks.specs.Machine.Safety.{Event, world_after, happens, run_events}
use Rattle.pv_picks.specs.Machine.LoopRuns.{opens_loop, frames_at_loop, AreBetween, StandsAtLoop, IsLoopRun}
use Rattle.machine_laws.specs.Growth.{Grows}
use Rattle.machine_laws.proofs.Standing.{both_true}
use Rattle.machine_laws.proofs.Leads.{act-leads, world_after-grows}

-- the members of an ordered block, from one number to below another
record InOrder (lo hi b : ℕ) (v : World) : Type 0 where
  count : hi ≤ v.count
  block : b < v.block_count
  mode : (v.blocks b).mode ≡ Ordered
  first : (v.blocks b).first ≡ lo
  member : (j : ℕ) → lo ≤ j → j < hi → (position : ℤ) × ((v.threads j).role ≡ MemberOf b position)

in_order_grows : (lo hi b : ℕ) (v u : World) → InOrder lo hi b v → Grows v u → InOrder lo hi b u
in_order_grows lo hi b v u o g =
    let s = g.same b o.block in
    let l = g.threads in
    let m = g.blocks in
    let c = o.count in
    let d = o.block in
    record {
      count = omega arith;
      block = omega arith;
      mode = s.mode ∙ o.mode;
      first = s.first ∙ o.first;
      member = λ j x y. let found = o.member j x y in
          (found.0, g.roles j (omega arith) ∙ found.1);
    }

not_false : (a : Bool) → not a ≡ false → a ≡ true
not_false true h = refl
not_false false h = absurd (cc)

first_or_above : (test : ℕ → Bool) (first j : ℕ) → test first ≡ true → first ≤ j → (suc first ≤ j → test j ≡ true) → test j ≡ true
first_or_above test first j here l more = go (nat_lt first j) refl
  where
    go : (t : Bool) → nat_lt first j ≡ t → test j ≡ true
    go true e = let k : first < j = ltb-true first j e in more (omega arith)
    go false e =
        let k : j ≤ first = ltb-false first j e in let s : first ≡ j = omega arith in subst (λ (n : ℕ). test n ≡ true) s here

pub each_from-true : (test : ℕ → Bool) (first n : ℕ) → each_from test first n ≡ true → (j : ℕ) → first ≤ j → j < first + n
    → test j ≡ true
each_from-true test first zero h j a b = absurd (omega arith)
each_from-true test first (suc n) h j a b =
    let s = both_true (test first) (each_from test (suc first) n) h in
    first_or_above test first j s.0 a (λ l. each_from-true test (suc first) n s.1 j l (omega arith))

-- what isn't held back finds all lower members ended
lower_ended : (lo hi b : ℕ) (v : World) → InOrder lo hi b v → (k : ℕ) → lo ≤ k → k < hi → is_held_back v k ≡ false → (j : ℕ)
    → lo ≤ j → j < k → has_ended v j ≡ true
lower_ended lo hi b v o k a c h j x y =
    let found = o.member k a c in
    let free : waits_as v k (MemberOf b found.0) ≡ false = subst (λ (r : Role). waits_as v k r ≡ false) found.1 h in
    let ordered : waits_in v k (v.blocks b) Ordered ≡ false =
    subst (λ (m : Mode). waits_in v k (v.blocks b) m ≡ false) o.mode free in
    let from : not (each_from (has_ended v) lo (k - lo)) ≡ false =
    subst (λ (n : ℕ). not (each_from (has_ended v) n (k - n)) ≡ false) o.first ordered in
    each_from-true (has_ended v) lo (k - lo) (not_false (each_from (has_ended v) lo (k - lo)) from) j x (omega arith)

ended_frames : (p : Program) (v : World) (m : Mode) (j : ℕ) (fs : List Frame) → has_no_frame fs ≡ true
    → act_frames p v m j fs ≡ Result.Ended
ended_frames p v m j [] h = refl
ended_frames p v m j (f ∷ below) h = absurd (cc)

ended_act : (p : Program) (v : World) (m : Mode) (j : ℕ) → has_ended v j ≡ true → act p v m j ≡ Result.Ended
ended_act p v m j h = ended_frames p v m j (v.threads j).frames h

free_of : (t : Bool) (r : Result) (u : World) → waits_unless (not t) r ≡ Result.Went u → t ≡ false
free_of true r u h = absurd (cc)
free_of false r u h = refl

free_frames : (p : Program) (v u : World) (m : Mode) (j : ℕ) (fs : List Frame) → act_frames p v m j fs ≡ Result.Went u
    → is_held_back v j ≡ false
free_frames p v u m j [] h = absurd (cc)
free_frames p v u m j (f ∷ below) h = free_of (is_held_back v j) (act_tasks p v j f below m f.tasks) u h

-- at most one member goes
none_above : (p : Program) (lo hi b : ℕ) (v x y : World) → InOrder lo hi b v → (j k : ℕ) → lo ≤ j → j < k → k < hi
    → act p v Ordered j ≡ Result.Went x → act p v Ordered k ≡ Result.Went y → ⊥
none_above p lo hi b v x y o j k l m n one other =
    let free = free_frames p v y Ordered k (v.threads k).frames other in
    let done = ended_act p v Ordered j (lower_ended lo hi b v o k (omega arith) n free j l m) in
    cc

one_goes : (p : Program) (lo hi b : ℕ) (v x y : World) → InOrder lo hi b v → (j k : ℕ) → lo ≤ j → j < hi → lo ≤ k → k < hi
    → act p v Ordered j ≡ Result.Went x → act p v Ordered k ≡ Result.Went y → j ≡ k
one_goes p lo hi b v x y o j k a c d e one other = go (nat_lt j k) refl (nat_lt k j) refl
  where
    go : (s : Bool) → nat_lt j k ≡ s → (t : Bool) → nat_lt k j ≡ t → j ≡ k
    go true q t r = absurd (none_above p lo hi b v x y o j k a (ltb-true j k q) e one other)
    go false q true r = absurd (none_above p lo hi b v y x o k j d (ltb-true k j r) c other one)
    go false q false r = let l : k ≤ j = ltb-false j k q in let m : j ≤ k = ltb-false k j r in omega arith

-- a step changes nothing, or goes
still_or_went : (v : World) (r : Result) → (world_after v r ≡ v) ⊎ (r ≡ Result.Went (world_after v r))
still_or_went v (Result.Went u) = inr refl
still_or_went v Result.Waits = inl refl
still_or_went v Result.Ended = inl refl
still_or_went v (Result.Wrong named span) = inl refl

abbrev ordered : ℕ → Event
ordered j = record { thread = j; mode = Ordered }

abbrev run : Program → List ℕ → World → World
run p js v = run_events p (map (λ j. record { thread = j; mode = Ordered }) js) v

abbrev AllEnded : ℕ → ℕ → World → Type 0
AllEnded lo hi v = (j : ℕ) → (lo ≤ j) × (j < hi) → has_ended v j ≡ true

abbrev AreIn : ℕ → ℕ → List ℕ → Type 0
AreIn lo hi [] = Unit {0}
AreIn lo hi (j ∷ js) = ((lo ≤ j) × (j < hi)) × AreIn lo hi js

-- where all have ended, nothing goes on
stays : (p : Program) (lo hi : ℕ) (js : List ℕ) (v : World) → AreIn lo hi js → AllEnded lo hi v → run p js v ≡ v
stays p lo hi [] v within done = refl
stays p lo hi (j ∷ js) v within done =
    let e : act p v Ordered j ≡ Result.Ended = ended_act p v Ordered j (done j within.0) in
    let same : happens p (ordered j) v ≡ v = ap (λ (r : Result). world_after v r) e in
    subst (λ (u : World). run p js u ≡ v) (sym same) (stays p lo hi js v within.1 done)

step_keeps : (p : Program) (lo hi b : ℕ) (v : World) (j : ℕ) → InOrder lo hi b v → InOrder lo hi b (happens p (ordered j) v)
step_keeps p lo hi b v j o =
    in_order_grows lo hi b v (happens p (ordered j) v) o (world_after-grows v (act p v Ordered j) (act-leads p v Ordered j))

-- that runs of this order, from wherever they start, end as others do
abbrev EndsAlike : Program → ℕ → ℕ → ℕ → List ℕ → Type 0
EndsAlike p lo hi b js = (ks : List ℕ) (v : World) → InOrder lo hi b v → AreIn lo hi js → AreIn lo hi ks
    → AllEnded lo hi (run p js v) → AllEnded lo hi (run p ks v) → run p js v ≡ run p ks v

-- after a step of j, against an order that may begin with steps that don't go
after_step : (p : Program) (lo hi b j : ℕ) (js : List ℕ) → EndsAlike p lo hi b js → (ks : List ℕ) (v : World) → InOrder lo hi b v
    → (lo ≤ j) × (j < hi) → AreIn lo hi js → AreIn lo hi ks → act p v Ordered j ≡ Result.Went (happens p (ordered j) v)
    → AllEnded lo hi (run p js (happens p (ordered j) v)) → AllEnded lo hi (run p ks v)
    → run p js (happens p (ordered j) v) ≡ run p ks v
after_step p lo hi b j js ih [] v o h within others goes d e = let done = ended_act p v Ordered j (e j h) in absurd (cc)
after_step p lo hi b j js ih (k ∷ ks) v o h within others goes d e =
    decide (still_or_went v (act p v Ordered k)) (λ w. after_step p lo hi b j js ih ks v o h within others.1 goes d w)
  where
    decide : (world_after v (act p v Ordered k) ≡ v) ⊎ (act p v Ordered k ≡ Result.Went (world_after v (act p v Ordered k)))
        → (AllEnded lo hi (run p ks v) → run p js (happens p (ordered j) v) ≡ run p ks v)
        → run p js (happens p (ordered j) v) ≡ run p ks (happens p (ordered k) v)
    decide (inl same) again =
        let all : AllEnded lo hi (run p ks v) = subst (λ (u : World). AllEnded lo hi (run p ks u)) same e in
        subst (λ (u : World). run p js (happens p (ordered j) v) ≡ run p ks u) (sym same) (again all)
    decide (inr went) again =
        let one : j ≡ k = one_goes p lo hi b v (happens p (ordered j) v)
        (happens p (ordered k) v) o j k h.0 h.1 others.0.0 others.0.1 goes went in
        let all : AllEnded lo hi (run p ks (happens p (ordered j) v)) =
        subst (λ (n : ℕ). AllEnded lo hi (run p ks (happens p (ordered n) v))) (sym one) e in
        subst (λ (n : ℕ). run p js (happens p (ordered j) v) ≡ run p ks (happens p (ordered n) v)) one
        (ih ks (happens p (ordered j) v) (step_keeps p lo hi b v j o) within others.1 d all)

ends_alike : (p : Program) (lo hi b : ℕ) (js : List ℕ) → EndsAlike p lo hi b js
ends_alike p lo hi b [] ks v o within others d e = sym (stays p lo hi ks v others d)
ends_alike p lo hi b (j ∷ js) ks v o within others d e = decide (still_or_went v (act p v Ordered j)) (ends_alike p lo hi b js)
  where
    decide : (world_after v (act p v Ordered j) ≡ v) ⊎ (act p v Ordered j ≡ Result.Went (world_after v (act p v Ordered j)))
        → EndsAlike p lo hi b js → run p js (happens p (ordered j) v) ≡ run p ks v
    decide (inl same) ih =
        let all : AllEnded lo hi (run p js v) = subst (λ (u : World). AllEnded lo hi (run p js u)) same d in
        subst (λ (u : World). run p js u ≡ run p ks v) (sym same) (ih ks v o within.1 others all e)
    decide (inr went) ih = after_step p lo hi b j js ih ks v o within.0 within.1 others went d e

-- the world in which a loop was opened in order
opened_in_order : (w : World) (i : ℕ) (f : Frame) (team : Team) (body : Block) (mode : Mode) (low high : ℤ) → mode ≡ Ordered
    → InOrder w.count (w.count + width low high) w.block_count (with_members w i f team body mode low high)
opened_in_order w i f team body mode low high ordered = record {
  count = omega arith;
  block = omega arith;
  mode = rw (eq-eqb w.block_count w.block_count refl) ordered;
  first = rw (eq-eqb w.block_count w.block_count refl) refl;
  member = λ j l m. (low +ℤ pos (j - w.count), rw (le-leb w.count j l, lt-ltb j (w.count + width low high) m) refl);
}

OpensInOrder : World → World → Type 0
OpensInOrder w v = InOrder w.count v.count w.block_count v

met_opens : (u : Finding) (named : Check) (w x v : World) → needs_met u named (Result.Went x) ≡ Result.Went v → OpensInOrder w x
    → OpensInOrder w v
unfolding OpensInOrder
met_opens AllMet named w x v h o = let e : x ≡ v = cc in subst (λ (z : World). InOrder w.count z.count w.block_count z) e o
met_opens (FirstUnmet span) named w x v h o = absurd (cc)

waits_goes : (b : Bool) (r : Result) (v : World) → waits_unless b r ≡ Result.Went v → r ≡ Result.Went v
waits_goes true r v h = h
waits_goes false r v h = absurd (cc)

module _ (p : Program) (w v : World) (i : ℕ) (f : Frame) (below : List Frame) where
  open_opens : (team : Team) (body : Block) (low high : ℤ) (rest : List Task) → team.counted ≡ true
      → act_open p w i f below Ordered team body low high rest ≡ Result.Went v → OpensInOrder w v
  unfolding OpensInOrder
  open_opens team body low high rest counted h =
      let g : Frame = pops 2 f (Stand (AtClose w.block_count) ∷ rest) in
      let mode : Mode = if team.counted then Ordered else Free in
      let is : mode ≡ Ordered = ap (λ (b : Bool). if b then Ordered else Free) counted in
      met_opens (unmet_shared (sight_of w.heap f) (body_scene f) team.variable low high team.shared.each_before)
      check.BlockRequires w
      (with_members (goes p w i f below g) i f team body mode low high) v h
      (opened_in_order (goes p w i f below g) i f team body mode low high is)

  tasks_open : (ts : List Task) → opens_loop ts ≡ true → act_tasks p w i f below Ordered ts ≡ Result.Went v → OpensInOrder w v
  tasks_open (Stand (AtOpen team body) ∷ rest) counted h =
      open_opens team body (number_in (second f.values)) (number_in (top f.values)) rest counted h
  tasks_open _ counted h = absurd (cc)

frames_open : (p : Program) (w v : World) (i : ℕ) (fs : List Frame) → frames_at_loop fs ≡ true
    → act_frames p w Ordered i fs ≡ Result.Went v → OpensInOrder w v
frames_open p w v i [] at h = absurd (cc)
frames_open p w v i (f ∷ below) at h =
    tasks_open p w v i f below f.tasks at (waits_goes (not (is_held_back w i)) (act_tasks p w i f below Ordered f.tasks) v h)

are_in : (w v : World) (js : List ℕ) → AreBetween w v js → AreIn w.count v.count js
are_in w v [] h = tt
are_in w v (j ∷ js) h = (h.0, are_in w v js h.1)

one_end : (p : Program) (w opened one other : World) (js ks : List ℕ) → OpensInOrder w opened → AreBetween w opened js
    → AreBetween w opened ks
    → run p js opened ≡ one → run p ks opened ≡ other → AllEnded w.count opened.count one → AllEnded w.count opened.count other
    → one ≡ other
unfolding OpensInOrder
one_end p w opened one other js ks o a b c d x y =
    let first : AllEnded w.count opened.count (run p js opened) =
    subst (λ (v : World). AllEnded w.count opened.count v) (sym c) x in
    let second : AllEnded w.count opened.count (run p ks opened) =
    subst (λ (v : World). AllEnded w.count opened.count v) (sym d) y in
    let e = ends_alike p w.count opened.count w.block_count js ks opened o (are_in w opened js a)
    (are_in w opened ks b) first second in
    sym c ∙ (e ∙ d)

-- two ordered runs of a loop that end have one end
pub ordered_runs-same : (p : Program) (w : World) (i : ℕ) (one other : World) → StandsAtLoop w i → IsLoopRun p w i Ordered one
    → IsLoopRun p w i Ordered other → one ≡ other
ordered_runs-same p w i one other at r s =
    let a : act p w Ordered i ≡ Result.Went r.opened = r.opens in
    let b : act p w Ordered i ≡ Result.Went s.opened = s.opens in
    let e : s.opened ≡ r.opened = cc in
    one_end p w r.opened one other r.order s.order (frames_open p w r.opened i (w.threads i).frames at r.opens) r.members
    (subst (λ (v : World). AreBetween w v s.order) e s.members)
    r.leads
    (subst (λ (v : World). run p s.order v ≡ other) e s.leads)
    r.ended
    (subst (λ (v : World). AllEnded w.count v.count other) e s.ended)
