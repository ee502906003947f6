-- A thread more, which is no member: what is said of threads, roles, blocks and mail goes on to hold.
use Rattle.std.proofs.Common.{◌≡◌, ℕ, suc, ◌+◌, ◌<◌, ℤ, pos, ◌+ℤ◌, ◌-ℤ◌, Bool, true, false, if◌then◌else◌, List, [], ◌∷◌, refl, ap, sym, subst, ◌∙◌, arith}
use Rattle.std.specs.Prelude.{nat_eq}
use Rattle.pv_base.specs.declared.Name.{Name}
use Rattle.pv_picks.specs.Plain.Core.{Program}
use Rattle.pv_picks.specs.Formulas.Heaps.{Heap, at_number}
use Rattle.pv_picks.specs.Judge.States.{Resource}
use Rattle.pv_picks.specs.Machine.Tasks.{AtClose, Task, Stand}
use Rattle.pv_picks.specs.Machine.Frames.{Frame}
use Rattle.pv_picks.specs.Machine.Worlds.{MemberOf, ThreadState, Thread, OpenBlock, has_no_frame}
use Rattle.pv_picks.proofs.Sames.{naturals_same}
use Rattle.account_formulas.specs.Owning.{KeepsOwning}
use Rattle.account_formulas.proofs.Basics.{nat_self}
use Rattle.account.specs.Frames as account
use Rattle.account.specs.Frames.{AreRunsOf, all_of}
use Rattle.account.specs.Owners.{Owners, nothing, carried_by, at_thread, total}
use Rattle.account.specs.Objects.{AtBottom, RoleFits}
use Rattle.account.specs.Blocks.{scene_at, WaitsForMembers, IsMember, HasArrived, MemberRuns}
use Rattle.account.specs.Messages.{TasksExchange, bottom_tasks, IsKnown, ReceivesNone, Lies}
use Rattle.account.proofs.Sums.{sum_same}
use Rattle.machine_laws.proofs.Members.{below_other}
use Rattle.machine_laws.proofs.Growth.{above}
use Rattle.account.proofs.Moving.{Families}

-- owners with one thread more, at which nothing lies
abbrev pub with_more : Owners → ℕ → List account.Run → Owners
with_more o n runs =
    record o { runs = at_number n runs o.runs; left = at_number n nothing o.left; mail = at_number n [] o.mail }

module _ (p : Program) (flags : ℕ → Bool) (heap : Heap) (count : ℕ) (threads : ℕ → Thread) (block_count : ℕ)
    (blocks : ℕ → OpenBlock) (state : ℕ → ThreadState) (o : Owners) (t : Thread) (rs : List account.Run)
    (fits : AreRunsOf p flags heap t.frames rs) (role : RoleFits p flags heap state count t.role t.frames rs)
    (alone : (b : ℕ) (position : ℤ) → t.role ≡ MemberOf b position → ⊥)
    (closes : (f : Frame) (fs : List Frame) (b : ℕ) (ts : List Task) → t.frames ≡ f ∷ fs → f.tasks ≡ Stand (AtClose b) ∷ ts → ⊥)
  where
    abbrev thread_with : Bool → ℕ → Thread
    thread_with x j = if x then t else threads j

    -- of a number below the count
    as_was : {A : Type 0} (x : A) (g : ℕ → A) (j : ℕ) → j < count → at_number count x g j ≡ g j
    as_was x g j l = ap (λ b. if b then x else g j) (above j count l)

    thread_as : (j : ℕ) → j < count → at_number count t threads j ≡ threads j
    thread_as j l = as_was t threads j l

    pub families_add : Families p flags heap count threads block_count blocks state o
        → Families p flags heap (suc count) (at_number count t threads) block_count blocks state (with_more o count rs)
    families_add k = record {
      threads_run = record {
        frames = λ j l. at_thread j l (nat_eq j count) refl;
        live = λ j. alive j (nat_eq j count) refl;
      };
      roles = λ j l. at_role j l (nat_eq j count) refl;
      blocks_fit = record {
        openers = λ j l h hs q qs b ts is has at. opener j l h hs q qs b ts (nat_eq j count) refl is has at;
        members = λ j l b position is live. member j l b position (nat_eq j count) refl is live;
      };
      mail = record {
        known = λ j l b position is. known j l b position (nat_eq j count) refl is;
        there = λ j l b position is label waits sent. there j l b position (nat_eq j count) refl is label waits sent;
      };
    }
      where
        at_thread : (j : ℕ) → j < suc count → (x : Bool) → nat_eq j count ≡ x
            → AreRunsOf p flags heap (thread_with x j).frames (if x then rs else o.runs j)
        at_thread j l true e = fits
        at_thread j l false e = k.threads_run.frames j (below_other j count e l)

        alive : (j : ℕ) (x : Bool) → nat_eq j count ≡ x → has_no_frame (thread_with x j).frames ≡ false → j < suc count
        alive j true e n = let same = naturals_same j count e in omega (arith, same)
        alive j false e n = let l = k.threads_run.live j n in omega (arith, l)

        at_role : (j : ℕ) → j < suc count → (x : Bool) → nat_eq j count ≡ x
            → RoleFits p flags heap state j (thread_with x j).role (thread_with x j).frames (if x then rs else o.runs j)
        at_role j l true e =
            subst (λ n. RoleFits p flags heap state n t.role t.frames rs) (sym (naturals_same j count e)) role
        at_role j l false e = k.roles j (below_other j count e l)

        opener : (j : ℕ) → j < suc count → (h : Frame) (hs : List Frame) (q : account.Run) (qs : List account.Run) (b : ℕ)
            (ts : List Task) (x : Bool) → nat_eq j count ≡ x
            → (thread_with x j).frames ≡ h ∷ hs → (if x then rs else o.runs j) ≡ q ∷ qs
            → h.tasks ≡ Stand (AtClose b) ∷ ts
            → WaitsForMembers p flags heap (suc count) (at_number count t threads) block_count (at_number count nothing o.left)
            (o.openings b) j b (blocks b) h q ts
        opener j l h hs q qs b ts true e is has at = absurd (closes h hs b ts is at)
        opener j l h hs q qs b ts false e is has at =
            let was = k.blocks_fit.openers j (below_other j count e l) h hs q qs b ts is has at in
            let counted = was.counted in
            record {
              number = was.number;
              opener = was.opener;
              class = was.class;
              scope = was.scope;
              scene = was.scene;
              typed = was.typed;
              contract = was.contract;
              alike = was.alike;
              closes = was.closes;
              counted = omega (arith, counted);
              roles = λ n m. ap (λ z. z.role) (thread_as ((blocks b).first + n) (omega (arith, counted, m))) ∙ was.roles n m;
              ended = λ n m none.
                  subst (λ A. KeepsOwning p flags heap (scene_at (o.openings b) (blocks b).team ((blocks b).low +ℤ pos n))
                  (blocks b).team.shared.one.after A)
                  (sym (as_was nothing o.left ((blocks b).first + n) (omega (arith, counted, m))))
                  (was.ended n m (ap (λ z. has_no_frame z.frames)
                  (sym (thread_as ((blocks b).first + n) (omega (arith, counted, m)))) ∙ none));
            }

        member : (j : ℕ) → j < suc count → (b : ℕ) (position : ℤ) (x : Bool) → nat_eq j count ≡ x
            → (thread_with x j).role ≡ MemberOf b position → has_no_frame (thread_with x j).frames ≡ false
            → MemberRuns p flags heap (suc count) (at_number count t threads) (at_number count nothing o.left j)
            (o.openings b) j b
            (blocks b) position (if x then rs else o.runs j)
        member j l b position true e is live = absurd (alone b position is)
        member j l b position false e is live =
            let was = k.blocks_fit.members j (below_other j count e l) b position is live in
            let opener_below = was.opener in
            record {
              opener = omega (arith, opener_below);
              frame = was.frame;
              below = was.below;
              rest = was.rest;
              stack = ap (λ z. z.frames) (thread_as (blocks b).opener was.opener) ∙ was.stack;
              waits = was.waits;
              number = was.number;
              less = was.less;
              thread = was.thread;
              place = was.place;
              member =
                  subst (λ y. AtBottom (IsMember (o.openings b) (blocks b) position) (thread_with y j).frames (o.runs j)) (sym e)
                  was.member;
              arrived = λ h q qs barrier span others at has is.
                  subst (λ A. HasArrived p flags heap (o.openings b) (blocks b) position barrier q A)
                  (sym (as_was nothing o.left j (below_other j count e l)))
                  (was.arrived h q qs barrier span others (sym (ap (λ y. (thread_with y j).frames) e) ∙ at) has is);
            }

        known : (j : ℕ) → j < suc count → (b : ℕ) (position : ℤ) (x : Bool) → nat_eq j count ≡ x
            → (thread_with x j).role ≡ MemberOf b position
            → TasksExchange (IsKnown (o.messages b)) (IsKnown (o.messages b)) (bottom_tasks (thread_with x j).frames)
        known j l b position true e is = absurd (alone b position is)
        known j l b position false e is = k.mail.known j (below_other j count e l) b position is

        there : (j : ℕ) → j < suc count → (b : ℕ) (position : ℤ) (x : Bool) → nat_eq j count ≡ x
            → (thread_with x j).role ≡ MemberOf b position
            → (label : Name) → (ReceivesNone label (thread_with x j).frames → ⊥)
            → (blocks b).sent label (position -ℤ pos (o.messages b label).distance) ≡ true
            → Lies p flags heap (o.openings b) (blocks b) (position -ℤ pos (o.messages b label).distance)
            (o.messages b label) label
            (at_number count [] o.mail j)
        there j l b position true e is label waits sent = absurd (alone b position is)
        there j l b position false e is label waits sent =
            subst (λ z. Lies p flags heap (o.openings b) (blocks b) (position -ℤ pos (o.messages b label).distance)
            (o.messages b label) label z) (sym (as_was [] o.mail j (below_other j count e l)))
            (k.mail.there j (below_other j count e l) b position is label waits sent)

-- nothing is owned in addition but what the new thread's runs have
pub total_with_more : (o : Owners) (n objects : ℕ) (rs : List account.Run) (q : Resource)
    → total (with_more o n rs) (suc n) objects q ≡ total o n objects q + all_of rs q
total_with_more o n objects rs q =
    let rest = sum_same (λ j. at_thread (with_more o n rs) j q) (λ j. at_thread o j q) n
    (λ j l. ap (λ b. all_of (if b then rs else o.runs j) q
    + ((if b then nothing else o.left j) q + carried_by (if b then [] else o.mail j) q)) (above j n l)) in
    let own : at_thread (with_more o n rs) n q ≡ all_of rs q + 0 =
    ap (λ b. all_of (if b then rs else o.runs n) q
    + ((if b then nothing else o.left n) q + carried_by (if b then [] else o.mail n) q)) (nat_self n) in
    omega (arith, rest, own)
