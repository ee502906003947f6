-- A block is opened in an accounted world: its members are threads more, each with a run of its body, and the opener waits for
-- them.
use Rattle.std.proofs.Common.{◌≡◌, ℕ, suc, ◌+◌, ◌-◌, ◌≤◌, ◌<◌, ℤ, pos, Bool, true, false, if◌then◌else◌, Some, List, [], ◌∷◌, refl, ap, sym, subst, ◌∙◌, arith}
use Rattle.std.specs.Prelude.{nat_eq, ◌+ℤ◌, ◌-ℤ◌}
use Rattle.pv_base.specs.declared.Name.{Name}
use Rattle.pv_base.specs.declared.Span.{Span}
use Rattle.pv_base.specs.Names.{same_name}
use Rattle.pv_picks.specs.Plain.Core.{Barrier, Message, Program, Team, Block}
use Rattle.pv_picks.specs.Formulas.Values.{within, width}
use Rattle.pv_picks.specs.Formulas.Heaps.{at_number}
use Rattle.pv_picks.specs.Formulas.Meeting.{sum_of_each}
use Rattle.pv_picks.specs.Judge.States.{Resource, OfLock}
use Rattle.pv_picks.specs.Machine.Tasks.{AtOpen, AtClose, AtLeave, Task, Stand}
use Rattle.pv_picks.specs.Machine.Frames.{Frame, pops, body_scene}
use Rattle.pv_picks.specs.Machine.Worlds.{MemberOf, Mode, OpenBlock, Thread, World, has_no_frame, member_of, with_frames, with_members}
use Rattle.pv_picks.proofs.Sames.{naturals_same}
use Rattle.pv_picks.specs.Typing.Expressions.{silent}
use Rattle.core_trees.specs.Formulas.{SharedFits, in_class}
use Rattle.account_formulas.specs.Sights.{SceneFits}
use Rattle.account_formulas.specs.Still.{IsStill}
use Rattle.account_formulas.specs.Owning.{KeepsOwning}
use Rattle.account_formulas.proofs.Basics.{nat_self}
use Rattle.account.specs.Frames.{Run, amounts_of, all_of, AreRunsOf, IsRunOf}
use Rattle.account.specs.Owners.{Opened, Mail, Owners, nothing, carried_by, total, at_thread, sum_below}
use Rattle.account_formulas.specs.Owning.{Amounts}
use Rattle.account.specs.Objects.{AtBottom, RoleFits}
use Rattle.account.specs.Blocks.{scene_at, FormsAreAlike, CanClose, WaitsForMembers, IsMember, HasArrived, MemberRuns}
use Rattle.account.specs.Messages.{TasksExchange, bottom_tasks, IsKnown, ReceivesNone, Lies}
use Rattle.account.specs.Accounts.{Account}
use Rattle.account.proofs.Sums.{sums_less, sum_changed, sum_same, at_same, at_other}
use Rattle.account.proofs.Bottom.{bottom_exchanges, role_moves, member_moves}
use Rattle.account.proofs.Moving.{first_same}
use Rattle.account_opening.proofs.Counting.{is_behind, is_number, has_number, is_before, comes_before, difference, sum_with_more}
use Rattle.machine_laws.proofs.Growth.{above}
use Rattle.account.proofs.Numbers.{number_within}

module _ (p : Program) (w : World) (a : Account p w) (i : ℕ) (inside : i < w.count) (f : Frame) (below : List Frame)
    (stack : (w.threads i).frames ≡ f ∷ below) (r : Run) (rs : List Run) (has_runs : a.owners.runs i ≡ r ∷ rs) (team : Team)
    (body : Block) (rest : List Task) (is : f.tasks ≡ Stand (AtOpen team body) ∷ rest) (mode : Mode) (low high : ℤ) (s : Run)
    (members : ℤ → Run) (messages : Name → Message) where
  abbrev pub g : Frame
  g = pops 2 f (Stand (AtClose w.block_count) ∷ rest)

  abbrev pub count : ℕ
  count = w.count + width low high

  abbrev pub block : OpenBlock
  block = record {
    opener = i;
    low = low;
    high = high;
    mode = mode;
    first = w.count;
    team = team;
    sent = λ label sender. false;
  }

  abbrev pub opening : Opened
  opening = record { class = f.class; scope = r.scope; scene = body_scene f }

  abbrev is_new : ℕ → Bool
  is_new j = is_behind w.count (width low high) j

  -- the position of a new thread
  abbrev position_at : ℕ → ℤ
  position_at j = low +ℤ pos (j - w.count)

  -- what is there at a number: of a new thread, of the opener, or of another one

  abbrev thread_if : Bool → Bool → ℕ → Thread
  thread_if new own j = if new then record {
    role = MemberOf w.block_count (position_at j);
    frames = member_of f team body (position_at j) ∷ [];
  } else (if own then record { role = (w.threads i).role; frames = g ∷ below } else w.threads j)

  abbrev runs_if : Bool → Bool → ℕ → List Run
  runs_if new own j = if new then members (position_at j) ∷ [] else (if own then s ∷ rs else a.owners.runs j)

  abbrev left_if : Bool → ℕ → Amounts
  left_if new j = if new then nothing else a.owners.left j

  abbrev mail_if : Bool → ℕ → Mail
  mail_if new j = if new then [] else a.owners.mail j

  abbrev threads : ℕ → Thread
  threads j = thread_if (is_new j) (nat_eq j i) j

  abbrev pub after : Owners
  after = record {
    runs = λ j. runs_if (is_new j) (nat_eq j i) j;
    left = λ j. left_if (is_new j) j;
    mail = λ j. mail_if (is_new j) j;
    promise = a.owners.promise;
    guard = a.owners.guard;
    openings = at_number w.block_count opening a.owners.openings;
    messages = at_number w.block_count messages a.owners.messages;
  }

  abbrev blocks : ℕ → OpenBlock
  blocks = at_number w.block_count block w.blocks

  -- the world after the step
  abbrev pub world : World
  world = with_members (with_frames w i (g ∷ below)) i f team body mode low high

  -- what is asked of the opener and of its members
  pub record Opens : Type 0 where
    pub fits : AreRunsOf p w.committed w.heap (g ∷ below) (s ∷ rs)
    pub body_is : s.body ≡ r.body
    pub scope_is : s.scope ≡ r.scope
    pub typed : SceneFits (in_class p f.class) silent r.scope w.heap (body_scene f)
    pub contract : SharedFits (in_class p f.class) r.scope team.variable team.shared
    pub alike : FormsAreAlike team team.shared
    pub closes : CanClose p team low high g s rest
    pub begins : (z : ℤ) → within low high z ≡ true
        → IsRunOf p w.committed w.heap (member_of f team body z) (members z)
    pub are : (z : ℤ) → within low high z ≡ true → IsMember opening block z (member_of f team body z) (members z)
    pub not_closing : (z : ℤ) → within low high z ≡ true → (c : ℕ) (ts : List Task)
        → (member_of f team body z).tasks ≡ Stand (AtClose c) ∷ ts → ⊥
    pub not_leaving : (z : ℤ) → within low high z ≡ true → (barrier : Barrier) (span : Span) (ts : List Task)
        → (member_of f team body z).tasks ≡ Stand (AtLeave barrier span) ∷ ts → ⊥
    pub known : (z : ℤ) → TasksExchange (IsKnown messages) (IsKnown messages) (member_of f team body z).tasks
    -- no more is owned
    pub less : (q : Resource) → amounts_of s q + sum_of_each (λ z. amounts_of (members z) q) low (width low high)
        ≤ amounts_of r q
    pub locks : (z : ℤ) (class : Name) (x : ℕ) → amounts_of (members z) (OfLock class x) ≡ 0

  module _ (m : Opens) where
    -- Numbers

    within_at : (j : ℕ) → is_behind w.count (width low high) j ≡ true → within low high (low +ℤ pos (j - w.count)) ≡ true
    within_at j e =
        let k = has_number w.count (width low high) j e in
        let number : k.0 ≡ j - w.count = sym (difference w.count k.0) ∙ ap (λ x. x - w.count) k.2 in
        number_within low high (j - w.count) (subst (λ x. x < width low high) number k.1)

    old_at : (j : ℕ) → j < w.count + width low high → is_behind w.count (width low high) j ≡ false → j < w.count
    old_at j l e = comes_before w.count (width low high) j e l

    is_old : (j : ℕ) → j < w.count → is_behind w.count (width low high) j ≡ false
    is_old j l = is_before w.count (width low high) j l

    -- an old thread has its role, and another one than the opener is as it was

    role_as : (j : ℕ) → j < w.count → (threads j).role ≡ (w.threads j).role
    role_as j l = ap (λ x. (thread_if x (nat_eq j i) j).role) (is_old j l) ∙ by (nat_eq j i) refl
      where
        by : (y : Bool) → nat_eq j i ≡ y → (thread_if false y j).role ≡ (w.threads j).role
        by true e = ap (λ z. (w.threads z).role) (sym (naturals_same j i e))
        by false e = refl

    left_as : (j : ℕ) → j < w.count → after.left j ≡ a.owners.left j
    left_as j l = ap (λ x. left_if x j) (is_old j l)

    mail_as : (j : ℕ) → j < w.count → after.mail j ≡ a.owners.mail j
    mail_as j l = ap (λ x. mail_if x j) (is_old j l)

    -- an old thread that has ended had
    was_ended : (j : ℕ) → j < w.count → has_no_frame (threads j).frames ≡ true → has_no_frame (w.threads j).frames ≡ true
    was_ended j l e = by (nat_eq j i) (ap (λ x. has_no_frame (thread_if x (nat_eq j i) j).frames) (sym (is_old j l)) ∙ e)
      where
        by : (y : Bool) → has_no_frame (thread_if false y j).frames ≡ true → has_no_frame (w.threads j).frames ≡ true
        by true h = absurd (cc h)
        by false h = h

    -- the opener has its frames
    own_frames : (threads i).frames ≡ g ∷ below
    own_frames = ap (λ x. (thread_if x (nat_eq i i) i).frames) (is_old i inside) ∙ by (nat_eq i i) refl
      where
        by : (y : Bool) → nat_eq i i ≡ y → (thread_if false y i).frames ≡ g ∷ below
        by true e = refl
        by false e = let self = nat_self i in absurd (cc (self, e))

    still : IsStill f g
    still = record { class = refl; method = refl; this = refl; begun = refl; old = refl }

    -- Blocks

    block_as : (c : ℕ) → c < w.block_count → blocks c ≡ w.blocks c
    block_as c l = at_other w.block_count c block w.blocks (above c w.block_count l)

    opening_as : (c : ℕ) → c < w.block_count → after.openings c ≡ a.owners.openings c
    opening_as c l = at_other w.block_count c opening a.owners.openings (above c w.block_count l)

    messages_as : (c : ℕ) → c < w.block_count → after.messages c ≡ a.owners.messages c
    messages_as c l = at_other w.block_count c messages a.owners.messages (above c w.block_count l)

    -- who waits for an old block goes on to wait
    waits_on : (o c : ℕ) (h : Frame) (q : Run) (more : List Task)
        → WaitsForMembers p w.committed w.heap w.count w.threads w.block_count a.owners.left (a.owners.openings c) o c
        (w.blocks c) h q more
        → WaitsForMembers p w.committed w.heap (w.count + width low high) world.threads (suc w.block_count) after.left
        (after.openings c) o c (world.blocks c) h q more
    waits_on o c h q more k =
        let number = k.number in let counted = k.counted in
        subst (λ z. WaitsForMembers p w.committed w.heap count threads (suc w.block_count) after.left z o c (blocks c) h q more)
        (sym (opening_as c number))
        (subst (λ z. WaitsForMembers p w.committed w.heap count threads (suc w.block_count) after.left (a.owners.openings c) o c
        z h q more) (sym (block_as c number))
        (record {
          number = omega (arith, number);
          opener = k.opener;
          class = k.class;
          scope = k.scope;
          scene = k.scene;
          typed = k.typed;
          contract = k.contract;
          alike = k.alike;
          closes = k.closes;
          counted = omega (arith, counted);
          roles = λ n l. role_as ((w.blocks c).first + n) (omega (arith, counted, l)) ∙ k.roles n l;
          ended = λ n l e. subst (λ A. KeepsOwning p w.committed w.heap
              (scene_at (a.owners.openings c) (w.blocks c).team ((w.blocks c).low +ℤ pos n)) (w.blocks c).team.shared.one.after A)
              (sym (left_as ((w.blocks c).first + n) (omega (arith, counted, l))))
              (k.ended n l (was_ended ((w.blocks c).first + n) (omega (arith, counted, l)) e));
        }))

    -- the opener waits for the new members
    new_waits : WaitsForMembers p w.committed w.heap (w.count + width low high) world.threads (suc w.block_count) after.left
        (after.openings w.block_count) i w.block_count (world.blocks w.block_count) g s rest
    new_waits =
        subst (λ z. WaitsForMembers p w.committed w.heap count threads (suc w.block_count) after.left z i w.block_count
        (blocks w.block_count) g s rest) (sym (at_same w.block_count opening a.owners.openings))
        (subst (λ z. WaitsForMembers p w.committed w.heap count threads (suc w.block_count) after.left opening i w.block_count z
        g s rest) (sym (at_same w.block_count block w.blocks))
        (record {
          number = omega arith;
          opener = refl;
          class = refl;
          scope = sym m.scope_is;
          scene = refl;
          typed = m.typed;
          contract = m.contract;
          alike = m.alike;
          closes = m.closes;
          counted = omega arith;
          roles = λ k l.
              ap (λ x. (thread_if x (nat_eq (w.count + k) i) (w.count + k)).role) (is_number w.count (width low high) k l)
              ∙ ap (λ y. MemberOf w.block_count (low +ℤ pos y)) (difference w.count k);
          ended = λ k l e.
              let none : false ≡ true =
              ap (λ x. has_no_frame (thread_if x (nat_eq (w.count + k) i) (w.count + k)).frames)
              (sym (is_number w.count (width low high) k l)) ∙ e in absurd (cc none);
        }))

    openers : (o : ℕ) → o < w.count + width low high → (h : Frame) (hs : List Frame) (q : Run) (qs : List Run) (c : ℕ)
        (more : List Task) (x : Bool) → is_behind w.count (width low high) o ≡ x → (y : Bool) → nat_eq o i ≡ y
        → (thread_if x y o).frames ≡ h ∷ hs → runs_if x y o ≡ q ∷ qs → h.tasks ≡ Stand (AtClose c) ∷ more
        → WaitsForMembers p w.committed w.heap (w.count + width low high) world.threads (suc w.block_count) after.left
        (after.openings c) o c (world.blocks c) h q more
    openers o l h hs q qs c more true new y own frames runs tasks =
        absurd (m.not_closing (position_at o) (within_at o new) c more
        (ap (λ z. z.tasks) (first_same (member_of f team body (position_at o)) h [] hs frames) ∙ tasks))
    openers o l h hs q qs c more false old false other frames runs tasks =
        waits_on o c h q more (a.blocks.openers o (old_at o l old) h hs q qs c more frames runs tasks)
    openers o l h hs q qs c more false old true own frames runs tasks =
        let frame = first_same g h below hs frames in
        let run = first_same s q rs qs runs in
        let both : Stand (AtClose w.block_count) ∷ rest ≡ Stand (AtClose c) ∷ more = ap (λ z. z.tasks) frame ∙ tasks in
        let number : w.block_count ≡ c = cc both in
        let after_it : rest ≡ more = cc both in
        subst (λ z. WaitsForMembers p w.committed w.heap count threads (suc w.block_count) after.left (after.openings c) z c
        (blocks c) h q more) (sym (naturals_same o i own))
        (subst (λ z. WaitsForMembers p w.committed w.heap count threads (suc w.block_count) after.left (after.openings z) i z
        (blocks z) h q more) number
        (subst (λ z. WaitsForMembers p w.committed w.heap count threads (suc w.block_count) after.left
        (after.openings w.block_count) i w.block_count (blocks w.block_count) z q more) frame
        (subst (λ z. WaitsForMembers p w.committed w.heap count threads (suc w.block_count) after.left
        (after.openings w.block_count) i w.block_count (blocks w.block_count) g z more) run
        (subst (λ z. WaitsForMembers p w.committed w.heap count threads (suc w.block_count) after.left
        (after.openings w.block_count) i w.block_count (blocks w.block_count) g s z) after_it new_waits))))

    -- the block of an old member was opened before
    block_below : (j : ℕ) → j < w.count → (c : ℕ) (position : ℤ) → (w.threads j).role ≡ MemberOf c position
        → has_no_frame (w.threads j).frames ≡ false → c < w.block_count
    block_below j l c position role live =
        by (a.owners.runs (w.blocks c).opener) refl
        (subst (λ fs. AreRunsOf p w.committed w.heap fs (a.owners.runs (w.blocks c).opener)) k.stack
        (a.threads.frames (w.blocks c).opener k.opener))
      where
        k : MemberRuns p w.committed w.heap w.count w.threads (a.owners.left j) (a.owners.openings c) j c (w.blocks c) position
            (a.owners.runs j)
        k = a.blocks.members j l c position role live

        by : (qs : List Run) → a.owners.runs (w.blocks c).opener ≡ qs
            → AreRunsOf p w.committed w.heap (k.frame ∷ k.below) qs → c < w.block_count
        by [] e fits = absurd fits
        by (q ∷ qs) e fits =
            (a.blocks.openers (w.blocks c).opener k.opener k.frame k.below q qs c k.rest k.stack e k.waits).number

    -- the opener of an old block is another thread, and stays as it is
    opener_stays : (o : ℕ) → o < w.count → (h : Frame) (hs : List Frame) (c : ℕ) (more : List Task)
        → (w.threads o).frames ≡ h ∷ hs → h.tasks ≡ Stand (AtClose c) ∷ more → (threads o).frames ≡ h ∷ hs
    opener_stays o l h hs c more e t =
        ap (λ x. (thread_if x (nat_eq o i) o).frames) (is_old o l) ∙ by (nat_eq o i) refl
      where
        by : (y : Bool) → nat_eq o i ≡ y → (thread_if false y o).frames ≡ h ∷ hs
        by false k = e
        by true k =
            let tasks : Stand (AtOpen team body) ∷ rest ≡ Stand (AtClose c) ∷ more =
            sym is ∙ (ap (λ z. z.tasks) (first_same f h below hs
            (sym stack ∙ (ap (λ z. (w.threads z).frames) (sym (naturals_same o i k)) ∙ e))) ∙ t) in
            absurd (cc tasks)

    -- an old member goes on, where it is the opener too
    runs_on : (j c : ℕ) (position : ℤ) → (l : j < w.count) → c < w.block_count
        → MemberRuns p w.committed w.heap w.count w.threads (a.owners.left j) (a.owners.openings c) j c (w.blocks c) position
        (a.owners.runs j)
        → (y : Bool) → nat_eq j i ≡ y
        → MemberRuns p w.committed w.heap (w.count + width low high) world.threads (after.left j) (after.openings c) j c
        (world.blocks c) position (runs_if false y j)
    runs_on j c position l number k y own =
        let opener = k.opener in
        subst (λ z. MemberRuns p w.committed w.heap count threads (after.left j) z j c (blocks c) position (runs_if false y j))
        (sym (opening_as c number))
        (subst (λ z. MemberRuns p w.committed w.heap count threads (after.left j) (a.owners.openings c) j c z position
        (runs_if false y j)) (sym (block_as c number))
        (subst (λ A. MemberRuns p w.committed w.heap count threads A (a.owners.openings c) j c (w.blocks c) position
        (runs_if false y j)) (sym (left_as j l))
        (record {
          opener = omega (arith, opener);
          frame = k.frame;
          below = k.below;
          rest = k.rest;
          stack = opener_stays (w.blocks c).opener k.opener k.frame k.below c k.rest k.stack k.waits;
          waits = k.waits;
          number = k.number;
          less = k.less;
          thread = k.thread;
          place = k.place;
          member = subst (λ t. AtBottom (IsMember (a.owners.openings c) (w.blocks c) position) t.frames (runs_if false y j))
              (sym thread_is) (member_at y own);
          arrived = λ h q qs barrier span others frames runs tasks.
              arrived_at y own h q qs barrier span others (sym (ap (λ t. t.frames) thread_is) ∙ frames) runs tasks;
        })))
      where
        thread_is : threads j ≡ thread_if false y j
        thread_is = ap (λ x. thread_if x (nat_eq j i) j) (is_old j l) ∙ ap (λ x. thread_if false x j) own

        member_at : (y : Bool) → nat_eq j i ≡ y
            → AtBottom (IsMember (a.owners.openings c) (w.blocks c) position) (thread_if false y j).frames (runs_if false y j)
        member_at false e = k.member
        member_at true e =
            member_moves f g r s still m.body_is (a.owners.openings c) (w.blocks c) position below rs
            (subst (λ qs. AtBottom (IsMember (a.owners.openings c) (w.blocks c) position) (f ∷ below) qs)
            (ap a.owners.runs (naturals_same j i e) ∙ has_runs)
            (subst (λ fs. AtBottom (IsMember (a.owners.openings c) (w.blocks c) position) fs (a.owners.runs j))
            (ap (λ z. (w.threads z).frames) (naturals_same j i e) ∙ stack) k.member))

        arrived_at : (y : Bool) → nat_eq j i ≡ y → (h : Frame) (q : Run) (qs : List Run) (barrier : Barrier) (span : Span)
            (others : List Task)
            → (thread_if false y j).frames ≡ h ∷ [] → runs_if false y j ≡ q ∷ qs → h.tasks ≡ Stand (AtLeave barrier span) ∷ others
            → HasArrived p w.committed w.heap (a.owners.openings c) (w.blocks c) position barrier q (a.owners.left j)
        arrived_at false e h q qs barrier span others frames runs tasks =
            k.arrived h q qs barrier span others frames runs tasks
        arrived_at true e h q qs barrier span others frames runs tasks =
            let both : Stand (AtClose w.block_count) ∷ rest ≡ Stand (AtLeave barrier span) ∷ others =
            ap (λ z. z.tasks) (first_same g h below [] frames) ∙ tasks in absurd (cc both)

    -- a new member
    new_runs : (j : ℕ) → j < w.count + width low high → is_behind w.count (width low high) j ≡ true
        → MemberRuns p w.committed w.heap (w.count + width low high) world.threads nothing (after.openings w.block_count) j
        w.block_count (world.blocks w.block_count) (low +ℤ pos (j - w.count)) (members (low +ℤ pos (j - w.count)) ∷ [])
    new_runs j l new =
        subst (λ z. MemberRuns p w.committed w.heap count threads nothing z j w.block_count (blocks w.block_count) (position_at j)
        (members (position_at j) ∷ [])) (sym (at_same w.block_count opening a.owners.openings))
        (subst (λ z. MemberRuns p w.committed w.heap count threads nothing opening j w.block_count z (position_at j)
        (members (position_at j) ∷ [])) (sym (at_same w.block_count block w.blocks))
        (record {
          opener = omega (arith, inside);
          frame = g;
          below = below;
          rest = rest;
          stack = own_frames;
          waits = refl;
          number = j - w.count;
          less = let k = has_number w.count (width low high) j new in let e = k.2 in let n = k.1 in omega (arith, e, n);
          thread = let k = has_number w.count (width low high) j new in let e = k.2 in omega (arith, e);
          place = refl;
          member = subst (λ x. AtBottom (IsMember opening block (position_at j)) (thread_if x (nat_eq j i) j).frames
              (members (position_at j) ∷ [])) (sym new) (m.are (position_at j) (within_at j new));
          arrived = λ h q qs barrier span others frames runs tasks.
              absurd (m.not_leaving (position_at j) (within_at j new) barrier span others
              (ap (λ z. z.tasks) (first_same (member_of f team body (position_at j)) h [] []
              (sym (ap (λ x. (thread_if x (nat_eq j i) j).frames) new) ∙ frames)) ∙ tasks));
        }))

    members_run : (j : ℕ) → j < w.count + width low high → (c : ℕ) (position : ℤ) (x : Bool)
        → is_behind w.count (width low high) j ≡ x → (y : Bool) → nat_eq j i ≡ y → (thread_if x y j).role ≡ MemberOf c position
        → has_no_frame (thread_if x y j).frames ≡ false
        → MemberRuns p w.committed w.heap (w.count + width low high) world.threads (left_if x j) (after.openings c) j c
        (world.blocks c) position (runs_if x y j)
    members_run j l c position true new y own role live =
        let number : w.block_count ≡ c = cc role in
        let place : position_at j ≡ position = cc role in
        subst (λ z. MemberRuns p w.committed w.heap count threads nothing (after.openings z) j z (blocks z) position
        (members (position_at j) ∷ [])) number
        (subst (λ z. MemberRuns p w.committed w.heap count threads nothing (after.openings w.block_count) j w.block_count
        (blocks w.block_count) z (members (position_at j) ∷ [])) place (new_runs j l new))
    members_run j l c position false old y own role live =
        let before = old_at j l old in
        let was : (w.threads j).role ≡ MemberOf c position =
        sym (role_as j before) ∙ (ap (λ x. (thread_if x (nat_eq j i) j).role) old
        ∙ (ap (λ z. (thread_if false z j).role) own ∙ role)) in
        let was_live = live_before y own live in
        subst (λ A. MemberRuns p w.committed w.heap count threads A (after.openings c) j c (blocks c) position
        (runs_if false y j)) (left_as j before)
        (runs_on j c position before (block_below j before c position was was_live)
        (a.blocks.members j before c position was was_live) y own)
      where
        live_before : (y : Bool) → nat_eq j i ≡ y → has_no_frame (thread_if false y j).frames ≡ false
            → has_no_frame (w.threads j).frames ≡ false
        live_before false e h = h
        live_before true e h =
            ap (λ z. has_no_frame (w.threads z).frames) (naturals_same j i e) ∙ ap has_no_frame stack

    -- Mail

    exchange_below : (S R : Message → Type 0) (xs : List Frame) → TasksExchange S R (bottom_tasks (f ∷ xs))
        → TasksExchange S R (bottom_tasks (g ∷ xs))
    exchange_below S R xs h = bottom_exchanges S R f g (λ k. (tt, (subst (TasksExchange S R) is k).1)) xs h

    -- messages of an old block are what they were, where the thread hasn't ended
    known_before : (fs : List Frame) (c : ℕ) → (has_no_frame fs ≡ false → c < w.block_count)
        → TasksExchange (IsKnown (a.owners.messages c)) (IsKnown (a.owners.messages c)) (bottom_tasks fs)
        → TasksExchange (IsKnown (after.messages c)) (IsKnown (after.messages c)) (bottom_tasks fs)
    known_before [] c number known = tt
    known_before (h ∷ hs) c number known =
        subst (λ z. TasksExchange (IsKnown z) (IsKnown z) (bottom_tasks (h ∷ hs))) (sym (messages_as c (number refl))) known

    known_at : (j : ℕ) → j < w.count + width low high → (c : ℕ) (position : ℤ) (x : Bool)
        → is_behind w.count (width low high) j ≡ x → (y : Bool) → nat_eq j i ≡ y → (thread_if x y j).role ≡ MemberOf c position
        → TasksExchange (IsKnown (after.messages c)) (IsKnown (after.messages c)) (bottom_tasks (thread_if x y j).frames)
    known_at j l c position true new y own role =
        let number : w.block_count ≡ c = cc role in
        subst (λ z. TasksExchange (IsKnown (after.messages z)) (IsKnown (after.messages z))
        (member_of f team body (position_at j)).tasks) number
        (subst (λ z. TasksExchange (IsKnown z) (IsKnown z) (member_of f team body (position_at j)).tasks)
        (sym (at_same w.block_count messages a.owners.messages)) (m.known (position_at j)))
    known_at j l c position false old false other role =
        known_before (w.threads j).frames c (λ live. block_below j (old_at j l old) c position role live)
        (a.mail.known j (old_at j l old) c position role)
    known_at j l c position false old true own role =
        let before = old_at j l old in
        let same = naturals_same j i own in
        let was : (w.threads j).role ≡ MemberOf c position = ap (λ z. (w.threads z).role) same ∙ role in
        let frames : (w.threads j).frames ≡ f ∷ below = ap (λ z. (w.threads z).frames) same ∙ stack in
        exchange_below (IsKnown (after.messages c)) (IsKnown (after.messages c)) below
        (subst (λ fs. TasksExchange (IsKnown (after.messages c)) (IsKnown (after.messages c)) (bottom_tasks fs)) frames
        (known_before (w.threads j).frames c (λ live. block_below j before c position was live)
        (a.mail.known j before c position was)))

    -- what lies at an old member lies there
    lies_on : (j : ℕ) → j < w.count → (c : ℕ) (position : ℤ) → c < w.block_count → (label : Name)
        → (blocks c).sent label (position -ℤ pos (after.messages c label).distance) ≡ true
        → ((w.blocks c).sent label (position -ℤ pos (a.owners.messages c label).distance) ≡ true
        → Lies p w.committed w.heap (a.owners.openings c) (w.blocks c)
        (position -ℤ pos (a.owners.messages c label).distance) (a.owners.messages c label) label (a.owners.mail j))
        → Lies p w.committed w.heap (after.openings c) (world.blocks c) (position -ℤ pos (after.messages c label).distance)
        (after.messages c label) label (after.mail j)
    lies_on j l c position number label sent lies =
        subst (λ z. Lies p w.committed w.heap z (blocks c) (position -ℤ pos (after.messages c label).distance)
        (after.messages c label) label (after.mail j)) (sym (opening_as c number))
        (subst (λ z. Lies p w.committed w.heap (a.owners.openings c) z (position -ℤ pos (after.messages c label).distance)
        (after.messages c label) label (after.mail j)) (sym (block_as c number))
        (subst (λ z. Lies p w.committed w.heap (a.owners.openings c) (w.blocks c) (position -ℤ pos (z label).distance) (z label)
        label (after.mail j)) (sym (messages_as c number))
        (subst (λ z. Lies p w.committed w.heap (a.owners.openings c) (w.blocks c)
        (position -ℤ pos (a.owners.messages c label).distance) (a.owners.messages c label) label z) (sym (mail_as j l))
        (lies (subst (λ z. z.sent label (position -ℤ pos (a.owners.messages c label).distance) ≡ true) (block_as c number)
        (subst (λ z. (blocks c).sent label (position -ℤ pos (z label).distance) ≡ true) (messages_as c number) sent))))))

    there_at : (j : ℕ) → j < w.count + width low high → (c : ℕ) (position : ℤ) (x : Bool)
        → is_behind w.count (width low high) j ≡ x → (y : Bool) → nat_eq j i ≡ y → (thread_if x y j).role ≡ MemberOf c position
        → (label : Name) → (ReceivesNone label (thread_if x y j).frames → ⊥)
        → (blocks c).sent label (position -ℤ pos (after.messages c label).distance) ≡ true
        → Lies p w.committed w.heap (after.openings c) (world.blocks c) (position -ℤ pos (after.messages c label).distance)
        (after.messages c label) label (after.mail j)
    there_at j l c position true new y own role label some sent =
        let number : w.block_count ≡ c = cc role in
        let none : false ≡ true =
        ap (λ z. z.sent label (position -ℤ pos (after.messages w.block_count label).distance))
        (sym (at_same w.block_count block w.blocks))
        ∙ subst (λ z. (blocks z).sent label (position -ℤ pos (after.messages z label).distance) ≡ true) (sym number) sent in
        absurd (cc none)
    there_at j l c position false old y own role label some sent =
        let before = old_at j l old in
        let was : (w.threads j).role ≡ MemberOf c position =
        sym (role_as j before) ∙ (ap (λ x. (thread_if x (nat_eq j i) j).role) old
        ∙ (ap (λ z. (thread_if false z j).role) own ∙ role)) in
        lies_on j before c position (block_below j before c position was (live y own some)) label sent
        (λ sent. a.mail.there j before c position was label (awaits y own some) sent)
      where
        awaits : (y : Bool) → nat_eq j i ≡ y → (ReceivesNone label (thread_if false y j).frames → ⊥)
            → ReceivesNone label (w.threads j).frames → ⊥
        awaits false e some none = some none
        awaits true e some none =
            some (exchange_below (λ n. Unit {0}) (λ n. same_name label n.label ≡ false) below
            (subst (λ fs. ReceivesNone label fs) (ap (λ z. (w.threads z).frames) (naturals_same j i e) ∙ stack) none))

        -- who awaits something hasn't ended
        live : (y : Bool) → nat_eq j i ≡ y → (ReceivesNone label (thread_if false y j).frames → ⊥)
            → has_no_frame (w.threads j).frames ≡ false
        live y e some = by (w.threads j).frames (awaits y e some)
          where
            by : (fs : List Frame) → (ReceivesNone label fs → ⊥) → has_no_frame fs ≡ false
            by [] none = absurd (none tt)
            by (h ∷ hs) none = refl

    -- Threads

    frames_at : (j : ℕ) → j < w.count + width low high → (x : Bool) → is_behind w.count (width low high) j ≡ x → (y : Bool)
        → AreRunsOf p w.committed w.heap (thread_if x y j).frames (runs_if x y j)
    frames_at j l true new y = (m.begins (position_at j) (within_at j new), tt)
    frames_at j l false old true = m.fits
    frames_at j l false old false = a.threads.frames j (old_at j l old)

    live_at : (j : ℕ) (x : Bool) → is_behind w.count (width low high) j ≡ x → (y : Bool) → nat_eq j i ≡ y
        → has_no_frame (thread_if x y j).frames ≡ false → j < w.count + width low high
    live_at j true new y own live =
        let k = has_number w.count (width low high) j new in let e = k.2 in let n = k.1 in omega (arith, e, n)
    live_at j false old true own live = let same = naturals_same j i own in omega (arith, inside, same)
    live_at j false old false own live = let l = a.threads.live j live in omega (arith, l)

    roles_at : (j : ℕ) → j < w.count + width low high → (x : Bool) → is_behind w.count (width low high) j ≡ x → (y : Bool)
        → nat_eq j i ≡ y
        → RoleFits p w.committed w.heap w.state j (thread_if x y j).role (thread_if x y j).frames (runs_if x y j)
    roles_at j l true new y own = tt
    roles_at j l false old false own = a.roles j (old_at j l old)
    roles_at j l false old true own =
        subst (λ z. RoleFits p w.committed w.heap w.state z (w.threads i).role (g ∷ below) (s ∷ rs)) (sym (naturals_same j i own))
        (role_moves f g r s still m.body_is p w.committed w.heap w.state i (w.threads i).role below rs
        (subst (λ z. RoleFits p w.committed w.heap w.state i (w.threads i).role (f ∷ below) z) has_runs
        (subst (λ fs. RoleFits p w.committed w.heap w.state i (w.threads i).role fs (a.owners.runs i)) stack
        (a.roles i inside))))

    -- Sums

    -- what old threads have
    abbrev before_sum : Resource → ℕ → ℕ
    before_sum q j =
        all_of (if nat_eq j i then s ∷ rs else a.owners.runs j) q + (a.owners.left j q + carried_by (a.owners.mail j) q)

    own_less : (q : Resource) → sum_below (before_sum q) w.count + amounts_of r q
        ≡ sum_below (λ j. at_thread a.owners j q) w.count + amounts_of s q
    own_less q =
        let one = sum_changed (λ j. at_thread a.owners j q) (before_sum q) w.count i inside
        (λ j e. ap (λ y. all_of (if y then s ∷ rs else a.owners.runs j) q
        + (a.owners.left j q + carried_by (a.owners.mail j) q)) e) in
        let two = ap (λ y. all_of (if y then s ∷ rs else a.owners.runs i) q) (nat_self i) in
        let three = ap (λ z. all_of z q) has_runs in
        omega (arith, one, two, three)

    abbrev has_if : Bool → ℕ → Resource → ℕ
    has_if new j q = all_of (runs_if new (nat_eq j i) j) q + (left_if new j q + carried_by (mail_if new j) q)

    all_less : (q : Resource) → sum_below (λ j. at_thread after j q) (w.count + width low high)
        ≤ sum_below (λ j. at_thread a.owners j q) w.count
    all_less q =
        let more = sum_with_more (λ j. at_thread after j q) (λ z. amounts_of (members z) q) w.count low (width low high)
        (λ k l. new_has k l) in
        let old = sum_same (λ j. at_thread after j q) (before_sum q) w.count (λ j l. ap (λ x. has_if x j q) (is_old j l)) in
        let own = own_less q in
        let less = m.less q in
        omega (arith, more, old, own, less)
      where
        new_has : (k : ℕ) → k < width low high → at_thread after (w.count + k) q ≡ amounts_of (members (low +ℤ pos k)) q
        new_has k l =
            let one = ap (λ x. has_if x (w.count + k) q) (is_number w.count (width low high) k l) in
            let two = ap (λ y. amounts_of (members (low +ℤ pos y)) q) (difference w.count k) in omega (arith, one, two)

    held_at : (j : ℕ) → j < w.count + width low high → (class : Name) (x : ℕ) (new : Bool)
        → is_behind w.count (width low high) j ≡ new → (y : Bool) → nat_eq j i ≡ y
        → 1 ≤ all_of (runs_if new y j) (OfLock class x) → w.holder x ≡ Some j
    held_at j l class x true new y own some =
        let none = m.locks (position_at j) class x in absurd (omega (arith, none, some))
    held_at j l class x false old false own some = a.locks.held j (old_at j l old) class x some
    held_at j l class x false old true own some =
        a.locks.held j (old_at j l old) class x
        (let same = ap (λ z. all_of (a.owners.runs z) (OfLock class x)) (naturals_same j i own) in
        let mine = ap (λ z. all_of z (OfLock class x)) has_runs in
        let less = m.less (OfLock class x) in omega (arith, same, mine, less, some))

    locks_at : (j : ℕ) → j < w.count + width low high → (class : Name) (x : ℕ) (new : Bool)
        → is_behind w.count (width low high) j ≡ new
        → left_if new j (OfLock class x) + carried_by (mail_if new j) (OfLock class x) ≡ 0
    locks_at j l class x true new = refl
    locks_at j l class x false old = a.locks.threads j (old_at j l old) class x

    pub opened : Account p world
    opened = record {
      owners = after;
      threads = record {
        frames = λ j l. frames_at j l (is_new j) refl (nat_eq j i);
        live = λ j live. live_at j (is_new j) refl (nat_eq j i) refl live;
      };
      sums = sums_less w.heap w.state w.committed (total a.owners w.count (suc w.heap.count))
          (total after (w.count + width low high) (suc w.heap.count)) (λ q. let l = all_less q in omega (arith, l)) a.sums;
      locks = record {
        held = λ j l class x some. held_at j l class x (is_new j) refl (nat_eq j i) refl some;
        threads = λ j l class x. locks_at j l class x (is_new j) refl;
        objects_have_none = a.locks.objects_have_none;
      };
      objects = a.objects;
      roles = λ j l. roles_at j l (is_new j) refl (nat_eq j i) refl;
      blocks = record {
        openers = λ o l h hs q qs c more frames runs tasks.
            openers o l h hs q qs c more (is_new o) refl (nat_eq o i) refl frames runs tasks;
        members = λ j l c position role live.
            members_run j l c position (is_new j) refl (nat_eq j i) refl role live;
      };
      mail = record {
        known = λ j l c position role. known_at j l c position (is_new j) refl (nat_eq j i) refl role;
        there = λ j l c position role label some sent.
            there_at j l c position (is_new j) refl (nat_eq j i) refl role label some sent;
      };
    }
