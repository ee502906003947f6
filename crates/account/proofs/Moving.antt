-- A thread goes on with other frames and runs, over a later heap that keeps what all others have: what is said of threads, their
-- roles, blocks and mail goes on to hold. What objects own may change, and so may what this thread left as a member.
use Rattle.std.proofs.Common.{◌≡◌, ◌+◌, ◌≤◌, ◌<◌, ℕ, ℤ, pos, ◌-ℤ◌, ◌+ℤ◌, Bool, true, false, if◌then◌else◌, List, [], ◌∷◌, refl, ap, sym, subst, ◌∙◌, arith}
use Rattle.std.specs.Prelude.{nat_eq}
use Rattle.pv_base.specs.declared.Name.{Name}
use Rattle.pv_base.specs.declared.Span.{Span}
use Rattle.pv_ast.specs.declared.PvType.{PvType}
use Rattle.pv_base.specs.Names.{same_name}
use Rattle.pv_picks.specs.Plain.Core.{Parameter, Barrier, Message, Program}
use Rattle.pv_picks.specs.Formulas.Heaps.{Heap, at_number}
use Rattle.pv_picks.specs.Judge.States.{Resource}
use Rattle.pv_picks.specs.Machine.Tasks.{AtClose, AtLeave, Task, Stand}
use Rattle.pv_picks.specs.Machine.Frames.{Frame, settled}
use Rattle.pv_picks.specs.Machine.Worlds.{Role, Entry, RunOf, MemberOf, OpenBlock, Thread, ThreadState, World, has_no_frame}
use Rattle.pv_picks.proofs.Sames.{naturals_same}
use Rattle.account_formulas.specs.Owning.{Amounts, KeepsHeld, KeepsOwning}
use Rattle.account_formulas.specs.Still.{IsStill}
use Rattle.account_formulas.proofs.Still.{settled_still}
use Rattle.account.specs.Scoped.{Standing, TasksSay}
use Rattle.account.specs.Frames.{Run, all_of, standing_in, AreRunsOf}
use Rattle.account.specs.Going.{Goes}
use Rattle.account.specs.Owners.{Opened, Mail, Owners, nothing, lies_at}
use Rattle.account.specs.Objects.{AtBottom, IsThreadOf, RoleFits}
use Rattle.account.specs.Blocks.{scene_at, WaitsForMembers, IsMember, HasArrived, MemberRuns, BlocksFit}
use Rattle.account.specs.Messages.{IsKnown, TasksExchange, bottom_tasks, ReceivesNone, Lies, MailFits}
use Rattle.account.specs.Accounts.{ThreadsRun, Account}
use Rattle.account.proofs.Sums.{letter_carried}
use Rattle.account.proofs.Exchanging.{settled_exchanges}
use Rattle.account.proofs.Working.{not_closing, not_leaving}
use Rattle.account.proofs.Later.{Grown, grown_same, keeps_same, owning_later, scene_later, frames_later, thread_later, arrived_later}
use Rattle.account.proofs.Bottom.{Stays, member_stays, bottom_as, bottom_exchanges, role_stays, stays_at_bottom}

pub first_same : {A : Type 0} (x y : A) (xs ys : List A) → x ∷ xs ≡ y ∷ ys → x ≡ y
first_same x y xs ys e = cc e

-- a frame whose tasks are those of a text waits for no members, and at no barrier

pub closes_not : (c : Standing) (inner : Bool) (xs : List Parameter) (given : Bool) (stack : List PvType) (g : Frame)
    → TasksSay c inner xs given stack g.tasks → (b : ℕ) (ts : List Task) → g.tasks ≡ Stand (AtClose b) ∷ ts → ⊥
closes_not c inner xs given stack g says b ts at =
    not_closing c inner xs given stack b ts (subst (λ z. TasksSay c inner xs given stack z) at says)

pub leaves_not : (c : Standing) (inner : Bool) (xs : List Parameter) (given : Bool) (stack : List PvType) (g : Frame)
    → TasksSay c inner xs given stack g.tasks → (barrier : Barrier) (span : Span) (ts : List Task)
    → g.tasks ≡ Stand (AtLeave barrier span) ∷ ts → ⊥
leaves_not c inner xs given stack g says barrier span ts at =
    not_leaving c inner xs given stack barrier span ts (subst (λ z. TasksSay c inner xs given stack z) at says)

-- what is said of all threads
pub record Families (p : Program) (flags : ℕ → Bool) (heap : Heap) (count : ℕ) (threads : ℕ → Thread) (block_count : ℕ)
    (blocks : ℕ → OpenBlock) (state : ℕ → ThreadState) (o : Owners) : Type 0 where
  pub threads_run : ThreadsRun p flags heap count threads o.runs
  pub roles : (j : ℕ) → j < count → RoleFits p flags heap state j (threads j).role (threads j).frames (o.runs j)
  pub blocks_fit : BlocksFit p flags heap count threads block_count blocks o
  pub mail : MailFits p flags heap count threads blocks o

pub families_of : (p : Program) (w : World) (a : Account p w)
    → Families p w.committed w.heap w.count w.threads w.block_count w.blocks w.state a.owners
families_of p w a = record { threads_run = a.threads; roles = a.roles; blocks_fit = a.blocks; mail = a.mail }

-- a later heap keeps what all others than a thread have
pub record OthersKeep (heap later : Heap) (count : ℕ) (o : Owners) (i : ℕ) : Type 0 where
  pub grown : Grown heap later
  pub none : KeepsHeld nothing heap later
  pub running : (j : ℕ) → j < count → nat_eq j i ≡ false → KeepsHeld (all_of (o.runs j)) heap later
  pub lying : (B : Amounts) (j : ℕ) → j < count → ((q : Resource) → B q ≤ lies_at o j q) → KeepsHeld B heap later

pub others_here : (heap : Heap) (count : ℕ) (o : Owners) (i : ℕ) → OthersKeep heap heap count o i
others_here heap count o i = record {
  grown = grown_same heap;
  none = keeps_same nothing heap;
  running = λ j l e. keeps_same (all_of (o.runs j)) heap;
  lying = λ B j l less. keeps_same B heap;
}

-- all members of a block have ended
abbrev pub AllEnded : (ℕ → Thread) → ℕ → Type 0
AllEnded threads b = (j : ℕ) (position : ℤ) → (threads j).role ≡ MemberOf b position → has_no_frame (threads j).frames ≡ true

-- a thread goes on with other frames and runs: its last frame's call stays, if it waited for members all have ended, and it goes
-- on to wait for none
pub record GoesOn (threads : ℕ → Thread) (o : Owners) (i : ℕ) (frames : List Frame) (runs : List Run) : Type 1 where
  pub bottom : (P : Frame → Run → Type 0) → Stays P → AtBottom P (threads i).frames (o.runs i) → AtBottom P frames runs
  pub messages : (S R : Message → Type 0) → TasksExchange S R (bottom_tasks (threads i).frames)
      → TasksExchange S R (bottom_tasks frames)
  pub live : has_no_frame (threads i).frames ≡ false
  pub stood : (f : Frame) (fs : List Frame) (b : ℕ) (ts : List Task) → (threads i).frames ≡ f ∷ fs
      → f.tasks ≡ Stand (AtClose b) ∷ ts → AllEnded threads b
  pub closes : (f : Frame) (fs : List Frame) (b : ℕ) (ts : List Task) → frames ≡ f ∷ fs → f.tasks ≡ Stand (AtClose b) ∷ ts → ⊥

-- what a thread left as a member suffices, if it has ended or arrived at a barrier
pub record LeavesEnough (p : Program) (flags : ℕ → Bool) (heap : Heap) (role : Role) (blocks : ℕ → OpenBlock) (o : Owners)
    (frames : List Frame) (runs : List Run) (left : Amounts) : Type 0 where
  pub ended : (b : ℕ) (position : ℤ) → role ≡ MemberOf b position → has_no_frame frames ≡ true
      → KeepsOwning p flags heap (scene_at (o.openings b) (blocks b).team position) (blocks b).team.shared.one.after left
  pub arrived : (b : ℕ) (position : ℤ) → role ≡ MemberOf b position → (f : Frame) (r : Run) (rs : List Run) (barrier : Barrier)
      (span : Span) (others : List Task) → frames ≡ f ∷ [] → runs ≡ r ∷ rs → f.tasks ≡ Stand (AtLeave barrier span) ∷ others
      → HasArrived p flags heap (o.openings b) (blocks b) position barrier r left

-- the first frame of a thread goes on to another one
pub record FirstGoesOn (f g : Frame) (r s : Run) : Type 1 where
  pub still : IsStill f g
  pub body : s.body ≡ r.body
  pub closes : (b : ℕ) (ts : List Task) → g.tasks ≡ Stand (AtClose b) ∷ ts → ⊥
  pub messages : (S R : Message → Type 0) → TasksExchange S R f.tasks → TasksExchange S R g.tasks

pub first_goes_on : (threads : ℕ → Thread) (o : Owners) (i : ℕ) (f : Frame) (below : List Frame)
    → (threads i).frames ≡ f ∷ below → (r : Run) (rs : List Run) → o.runs i ≡ r ∷ rs → (g : Frame) (s : Run)
    → ((b : ℕ) (ts : List Task) → f.tasks ≡ Stand (AtClose b) ∷ ts → AllEnded threads b) → FirstGoesOn f g r s
    → GoesOn threads o i (g ∷ below) (s ∷ rs)
first_goes_on threads o i f below stack r rs has g s stood goes = record {
  bottom = λ P stays h. stays_at_bottom f g r s goes.still goes.body P stays below rs
      (subst (λ fs. AtBottom P fs (r ∷ rs)) stack (subst (AtBottom P (threads i).frames) has h));
  messages = λ S R h. bottom_exchanges S R f g (goes.messages S R) below
      (subst (λ fs. TasksExchange S R (bottom_tasks fs)) stack h);
  live = ap has_no_frame stack;
  stood = λ h hs b ts e at. stood b ts (ap (λ z. z.tasks) (first_same f h below hs (sym stack ∙ e)) ∙ at);
  closes = λ h hs b ts e at. goes.closes b ts (ap (λ z. z.tasks) (first_same g h below hs e) ∙ at);
}

-- a thread ends
pub ends : (threads : ℕ → Thread) (o : Owners) (i : ℕ) (f : Frame) → (threads i).frames ≡ f ∷ [] → f.tasks ≡ []
    → GoesOn threads o i [] []
ends threads o i f stack over = record {
  bottom = λ P stays h. tt;
  messages = λ S R h. tt;
  live = ap has_no_frame stack;
  stood = λ h hs b ts e at.
      let same = ap (λ z. z.tasks) (first_same f h [] hs (sym stack ∙ e)) in absurd (cc (over, same, at));
  closes = λ h hs b ts e at. absurd (cc e);
}

-- who has a frame that is at no barrier left nothing that is asked for
pub leaves_nothing : (p : Program) (flags : ℕ → Bool) (heap : Heap) (role : Role) (blocks : ℕ → OpenBlock) (o : Owners)
    (g : Frame) (below : List Frame) (runs : List Run) (left : Amounts)
    → ((barrier : Barrier) (span : Span) (ts : List Task) → g.tasks ≡ Stand (AtLeave barrier span) ∷ ts → ⊥)
    → LeavesEnough p flags heap role blocks o (g ∷ below) runs left
leaves_nothing p flags heap role blocks o g below runs left never = record {
  ended = λ b position is none. absurd (cc none);
  arrived = λ b position is f r rs barrier span others e has at.
      absurd (never barrier span others (ap (λ z. z.tasks) (first_same g f below [] e) ∙ at));
}

-- a frame settles behind a step
pub settles : (p : Program) (flags : ℕ → Bool) (heap : Heap) (f h : Frame) (r s : Run) → IsStill f h → s.body ≡ r.body
    → (done : Goes p flags heap (settled h) s)
    → ((S R : Message → Type 0) → TasksExchange S R f.tasks → TasksExchange S R h.tasks)
    → FirstGoesOn f (settled h) r done.run
settles p flags heap f h r s still body done messages = record {
  still = let k = settled_still h in record {
    class = k.class ∙ still.class;
    method = k.method ∙ still.method;
    this = k.this ∙ still.this;
    begun = k.begun ∙ still.begun;
    old = k.old ∙ still.old;
  };
  body = done.body ∙ body;
  closes = closes_not (standing_in p (settled h).class done.run.body done.run.outer) done.run.inner done.run.scope done.run.given
      done.run.stack (settled h) done.says;
  messages = λ S R k. settled_exchanges S R h (messages S R k);
}

pub settled_leaves_not : (p : Program) (flags : ℕ → Bool) (heap : Heap) (h : Frame) (s : Run)
    → (done : Goes p flags heap (settled h) s) → (barrier : Barrier) (span : Span) (ts : List Task)
    → (settled h).tasks ≡ Stand (AtLeave barrier span) ∷ ts → ⊥
settled_leaves_not p flags heap h s done = leaves_not (standing_in p (settled h).class done.run.body done.run.outer)
    done.run.inner
    done.run.scope done.run.given done.run.stack (settled h) done.says

-- owners where a thread has other runs, and objects other amounts
abbrev pub owners_with : Owners → ℕ → List Run → (ℕ → Amounts) → (ℕ → Amounts) → Owners
owners_with o i runs promise guard = record o { runs = at_number i runs o.runs; promise = promise; guard = guard }

-- owners where other amounts lie at threads
abbrev pub with_lying : Owners → (ℕ → Amounts) → (ℕ → Mail) → Owners
with_lying o left mail = record o { left = left; mail = mail }

module _ (p : Program) (flags : ℕ → Bool) (heap later : Heap) (count : ℕ) (threads : ℕ → Thread) (o : Owners) (i : ℕ)
    (keep : OthersKeep heap later count o i) (frames : List Frame) (runs : List Run) where
  abbrev pub threads_with : ℕ → Thread
  threads_with = at_number i (record { role = (threads i).role; frames = frames }) threads

  -- what holds of this thread, and of the others as they were, holds of each
  pub each : (Q : ℕ → Thread → List Run → Type 0) → Q i (record { role = (threads i).role; frames = frames }) runs
      → ((j : ℕ) → nat_eq j i ≡ false → Q j (threads j) (o.runs j)) → (j : ℕ) → Q j (threads_with j) (at_number i runs o.runs j)
  each Q self others j = go (nat_eq j i) refl
    where
      go : (b : Bool) → nat_eq j i ≡ b
          → Q j (if b then record { role = (threads i).role; frames = frames } else threads j) (if b then runs else o.runs j)
      go true e = subst (λ k. Q k (record { role = (threads i).role; frames = frames }) runs) (sym (naturals_same j i e)) self
      go false e = others j e

  pub role_same : (j : ℕ) → (threads_with j).role ≡ (threads j).role
  role_same j = each (λ k t x. t.role ≡ (threads k).role) refl (λ k e. refl) j

  role_later : (state : ℕ → ThreadState) (j : ℕ) (role : Role) (fs : List Frame) (rs : List Run)
      → RoleFits p flags heap state j role fs rs → RoleFits p flags later state j role fs rs
  role_later state j Entry fs rs h = h
  role_later state j (RunOf x) fs rs h = bottom_as (IsThreadOf p flags heap state j x) (IsThreadOf p flags later state j x)
      (λ f r. thread_later p flags heap later keep.grown state j x f r keep.none) fs rs h
  role_later state j (MemberOf b position) fs rs h = tt

  module _ (m : GoesOn threads o i frames runs) where
    pub live_before : (j : ℕ) → has_no_frame (threads_with j).frames ≡ false → has_no_frame (threads j).frames ≡ false
    live_before j = each (λ k t x. has_no_frame t.frames ≡ false → has_no_frame (threads k).frames ≡ false) (λ h. m.live)
        (λ k e h. h) j

    pub threads_moved : ThreadsRun p flags heap count threads o.runs → AreRunsOf p flags later frames runs
        → ThreadsRun p flags later count threads_with (at_number i runs o.runs)
    threads_moved fits new = record {
      frames = λ j l. each (λ k t x. k < count → AreRunsOf p flags later t.frames x) (λ n. new)
          (λ k apart n. frames_later p flags heap later keep.grown (threads k).frames (o.runs k) (keep.running k n apart)
          (fits.frames k n)) j l;
      live = λ j h. fits.live j (live_before j h);
    }

    pub roles_moved : (state : ℕ → ThreadState)
        → ((j : ℕ) → j < count → RoleFits p flags heap state j (threads j).role (threads j).frames (o.runs j)) → (j : ℕ)
        → j < count
        → RoleFits p flags later state j (threads_with j).role (threads_with j).frames (at_number i runs o.runs j)
    roles_moved state fits j l = each (λ k t x. k < count → RoleFits p flags later state k t.role t.frames x)
        (λ n. role_stays p flags later state i (threads i).frames frames (o.runs i) runs m.bottom (threads i).role
        (role_later state i (threads i).role (threads i).frames (o.runs i) (fits i n)))
        (λ k apart n. role_later state k (threads k).role (threads k).frames (o.runs k) (fits k n)) j l

    -- no message comes into the tasks of the last frame
    pub fewer : (S R : Message → Type 0) (j : ℕ) → TasksExchange S R (bottom_tasks (threads j).frames)
        → TasksExchange S R (bottom_tasks (threads_with j).frames)
    fewer S R j = each (λ k t x. TasksExchange S R (bottom_tasks (threads k).frames) → TasksExchange S R (bottom_tasks t.frames))
        (m.messages S R) (λ k apart h. h) j

    -- who still receives a message did so before
    pub still_receives : (j : ℕ) (label : Name) → (ReceivesNone label (threads_with j).frames → ⊥)
        → ReceivesNone label (threads j).frames → ⊥
    still_receives j label some none = some (fewer (λ m. Unit {0}) (λ m. same_name label m.label ≡ false) j none)

    module _ (blocks : ℕ → OpenBlock) where
      pub known_moved : MailFits p flags heap count threads blocks o → (j : ℕ) → j < count → (b : ℕ) (position : ℤ)
          → (threads_with j).role ≡ MemberOf b position
          → TasksExchange (IsKnown (o.messages b)) (IsKnown (o.messages b)) (bottom_tasks (threads_with j).frames)
      known_moved fits j l b position role = fewer (IsKnown (o.messages b)) (IsKnown (o.messages b)) j
          (fits.known j l b position (sym (role_same j) ∙ role))

      lies_moved : (j : ℕ) → j < count → (opening : Opened) (block : OpenBlock) (sender : ℤ) (message : Message) (label : Name)
          → Lies p flags heap opening block sender message label (o.mail j)
          → Lies p flags later opening block sender message label (o.mail j)
      lies_moved j l opening block sender message label h = record {
        part = h.part;
        there = h.there;
        owns = owning_later p flags heap later (scene_at opening block.team sender) message.formula h.part
            (keep.lying h.part j l (λ q. let k = letter_carried label (o.mail j) h.part h.there q in omega (arith, k))) h.owns;
      }

      pub mail_moved : (left promise guard : ℕ → Amounts) → MailFits p flags heap count threads blocks o
          → MailFits p flags later count threads_with blocks (with_lying (owners_with o i runs promise guard) left o.mail)
      mail_moved left promise guard fits = record {
        known = known_moved fits;
        there = λ j l b position role label some sent. lies_moved j l (o.openings b) (blocks b)
            (position -ℤ pos (o.messages b label).distance) (o.messages b label) label
            (fits.there j l b position (sym (role_same j) ∙ role) label (still_receives j label some) sent);
      }

      -- blocks, where this thread left what suffices
      module _ (left : ℕ → Amounts)
          (stays : (j : ℕ) → nat_eq j i ≡ false → (b : ℕ) (position : ℤ) → (threads j).role ≡ MemberOf b position
          → (has_no_frame (threads j).frames ≡ true → nat_eq (blocks b).opener i ≡ false) → left j ≡ o.left j)
          (enough : LeavesEnough p flags later (threads i).role blocks o frames runs (left i)) where
        -- what a member left, as it ended, is what its block asks for
        abbrev IsLeft : Heap → ℕ → ℤ → Amounts → Type 0
        IsLeft at b position A =
            KeepsOwning p flags at (scene_at (o.openings b) (blocks b).team position) (blocks b).team.shared.one.after A

        left_moved : (j : ℕ) → j < count → (b : ℕ) (position : ℤ) → (threads j).role ≡ MemberOf b position
            → nat_eq (blocks b).opener i ≡ false
            → (has_no_frame (threads j).frames ≡ true → IsLeft heap b position (o.left j))
            → has_no_frame (threads_with j).frames ≡ true → IsLeft later b position (left j)
        left_moved j l b position role opener = each (λ k t x. k < count → (threads k).role ≡ MemberOf b position
            → (has_no_frame (threads k).frames ≡ true → IsLeft heap b position (o.left k)) → has_no_frame t.frames ≡ true
            → IsLeft later b position (left k))
            (λ n role was none. enough.ended b position role none)
            (λ k apart n role was none. subst (IsLeft later b position) (sym (stays k apart b position role (λ ended. opener)))
            (owning_later p flags heap later (scene_at (o.openings b) (blocks b).team position) (blocks b).team.shared.one.after
            (o.left k) (keep.lying (o.left k) k n (λ q. omega arith)) (was none))) j l role

        module _ (block_count : ℕ) where
          waits_moved : (j b : ℕ) (g : Frame) (s : Run) (rest : List Task) → nat_eq j i ≡ false
              → WaitsForMembers p flags heap count threads block_count o.left (o.openings b) j b (blocks b) g s rest
              → WaitsForMembers p flags later count threads_with block_count left (o.openings b) j b (blocks b) g s rest
          waits_moved j b g s rest apart h = record {
            number = h.number;
            opener = h.opener;
            class = h.class;
            scope = h.scope;
            scene = h.scene;
            typed = scene_later p flags heap later keep.grown _ _ _ _ h.typed;
            contract = h.contract;
            alike = h.alike;
            closes = h.closes;
            counted = h.counted;
            roles = λ k l. role_same ((blocks b).first + k) ∙ h.roles k l;
            ended = λ k l. left_moved ((blocks b).first + k) (let c = h.counted in omega (arith, l, c)) b
                ((blocks b).low +ℤ pos k) (h.roles k l)
                (subst (λ z. nat_eq z i ≡ false) (sym h.opener) apart) (h.ended k l);
          }

          -- a member's opener isn't this thread
          opener_same : (j : ℕ) (position : ℤ) (o b : ℕ) → (threads j).role ≡ MemberOf b position
              → has_no_frame (threads j).frames ≡ false → (g : Frame) (gs : List Frame) (rest : List Task)
              → (threads o).frames ≡ g ∷ gs → g.tasks ≡ Stand (AtClose b) ∷ rest → (threads_with o).frames ≡ g ∷ gs
          opener_same j position o b role live g gs rest = each
              (λ k t x. (threads k).frames ≡ g ∷ gs → g.tasks ≡ Stand (AtClose b) ∷ rest → t.frames ≡ g ∷ gs)
              (λ e at. let ended = m.stood g gs b rest e at j position role in absurd (cc (ended, live))) (λ k apart e at. e) o

          -- what is said of who has arrived at a barrier, with these frames and runs
          abbrev Arrivals : Heap → ℕ → ℤ → List Frame → List Run → Amounts → Type 0
          Arrivals at b position fs ys A = (g : Frame) (s : Run) (ss : List Run) (barrier : Barrier) (span : Span)
              (others : List Task)
              → fs ≡ g ∷ [] → ys ≡ s ∷ ss → g.tasks ≡ Stand (AtLeave barrier span) ∷ others
              → HasArrived p flags at (o.openings b) (blocks b) position barrier s A

          arrivals_moved : (j : ℕ) → j < count → (b : ℕ) (position : ℤ) → (threads j).role ≡ MemberOf b position
              → has_no_frame (threads j).frames ≡ false
              → Arrivals heap b position (threads j).frames (o.runs j) (o.left j)
              → Arrivals later b position (threads_with j).frames (at_number i runs o.runs j) (left j)
          arrivals_moved j l b position = each (λ k t y. k < count → (threads k).role ≡ MemberOf b position
              → has_no_frame (threads k).frames ≡ false
              → Arrivals heap b position (threads k).frames (o.runs k) (o.left k) → Arrivals later b position t.frames y (left k))
              (λ n role live was g s ss barrier span others e has at.
              enough.arrived b position role g s ss barrier span others e has at)
              (λ k apart n role live was g s ss barrier span others e has at.
              subst (HasArrived p flags later (o.openings b) (blocks b) position barrier s)
              (sym (stays k apart b position role (λ ended. absurd (cc (ended, live)))))
              (arrived_later p flags heap later keep.grown (o.openings b) (blocks b) position barrier s (o.left k)
              (keep.lying (o.left k) k n (λ q. omega arith)) (was g s ss barrier span others e has at))) j l

          member_moved : (j : ℕ) → j < count → (b : ℕ) (position : ℤ) → (threads j).role ≡ MemberOf b position
              → has_no_frame (threads j).frames ≡ false
              → MemberRuns p flags heap count threads (o.left j) (o.openings b) j b (blocks b) position (o.runs j)
              → MemberRuns p flags later count threads_with (left j) (o.openings b) j b (blocks b) position
              (at_number i runs o.runs j)
          member_moved j l b position role live x = record {
            opener = x.opener;
            frame = x.frame;
            below = x.below;
            rest = x.rest;
            stack = opener_same j position (blocks b).opener b role live x.frame x.below x.rest x.stack x.waits;
            waits = x.waits;
            number = x.number;
            less = x.less;
            thread = x.thread;
            place = x.place;
            member = each (λ k t y. AtBottom (IsMember (o.openings b) (blocks b) position) (threads k).frames (o.runs k)
                → AtBottom (IsMember (o.openings b) (blocks b) position) t.frames y)
                (m.bottom (IsMember (o.openings b) (blocks b) position) (member_stays (o.openings b) (blocks b) position))
                (λ k apart h. h) j x.member;
            arrived = arrivals_moved j l b position role live x.arrived;
          }

          pub blocks_moved : (mail : ℕ → Mail) (promise guard : ℕ → Amounts)
              → BlocksFit p flags heap count threads block_count blocks o
              → BlocksFit p flags later count threads_with block_count blocks
              (with_lying (owners_with o i runs promise guard) left mail)
          blocks_moved mail promise guard fits = record {
            openers = λ j l g gs s ss b rest. each
                (λ k t x. k < count → t.frames ≡ g ∷ gs → x ≡ s ∷ ss → g.tasks ≡ Stand (AtClose b) ∷ rest
                → WaitsForMembers p flags later count threads_with block_count left (o.openings b) k b (blocks b) g s rest)
                (λ n e x at. absurd (m.closes g gs b rest e at))
                (λ k apart n e x at. waits_moved k b g s rest apart (fits.openers k n g gs s ss b rest e x at)) j l;
            members = λ j l b position role live. member_moved j l b position (sym (role_same j) ∙ role)
                (live_before j live)
                (fits.members j l b position (sym (role_same j) ∙ role) (live_before j live));
          }

    -- what is said of all threads
    pub families_moved : (block_count : ℕ) (blocks : ℕ → OpenBlock) (state : ℕ → ThreadState)
        → AreRunsOf p flags later frames runs → LeavesEnough p flags later (threads i).role blocks o frames runs (o.left i)
        → (promise guard : ℕ → Amounts) → Families p flags heap count threads block_count blocks state o
        → Families p flags later count threads_with block_count blocks state (owners_with o i runs promise guard)
    families_moved block_count blocks state new enough promise guard k = record {
      threads_run = threads_moved k.threads_run new;
      roles = roles_moved state k.roles;
      blocks_fit = blocks_moved blocks o.left (λ j e b position role opener. refl) enough block_count o.mail promise guard
          k.blocks_fit;
      mail = mail_moved blocks o.left promise guard k.mail;
    }
