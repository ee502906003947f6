-- More objects are committed: what is owned stays so, and all that is said of threads goes on to hold.
use Rattle.std.proofs.Common.{◌≡◌, ℕ, ◌+◌, ℤ, pos, ◌-ℤ◌, Bool, true, false, Option, Some, None, List, [], ◌∷◌}
use Rattle.pv_base.specs.declared.Name.{Name}
use Rattle.pv_picks.specs.Plain.Core.{Barrier, Formula, Items, Item, Message, Program}
use Rattle.pv_picks.specs.Formulas.Heaps.{Heap}
use Rattle.pv_picks.specs.Formulas.Evaluation.{Scene}
use Rattle.pv_picks.specs.Formulas.Meeting.{Sight}
use Rattle.pv_picks.specs.Judge.States.{Folded, State}
use Rattle.pv_picks.specs.Judge.Repetitions.{Range}
use Rattle.pv_picks.specs.Machine.Tasks.{Loop, Task}
use Rattle.pv_picks.specs.Machine.Frames.{Frame, body_scene, only_now, outer_scene}
use Rattle.pv_picks.specs.Machine.Worlds.{Role, Entry, RunOf, MemberOf, ThreadState, Thread, OpenBlock}
use Rattle.account_formulas.specs.Runs.{Taken}
use Rattle.account_formulas.specs.Owning.{Amounts, KeepsOwning, HasTrees, Owns, Owns.fact, Owns.field, Owns.element, Owns.holds, Owns.known, Owns.folded, Owns.star, Owns.when_on, Owns.when_off, Owns.each, OwnsItems, OwnsItems.no_items, OwnsItems.joined, OwnsItem, OwnsItem.nothing, OwnsItem.elements, OwnsItem.repeated, OwnsItem.committed, OwnsItem.cut_off, OwnsItem.cut, OwnsItem.fixed, OwnsItem.beside}
use Rattle.account_formulas.specs.Growing.{StateFits}
use Rattle.account.specs.Running.{Body}
use Rattle.account.specs.Frames as account
use Rattle.account.specs.Frames.{Part, StateIs, AllTakeTurns, opened, IsRunOf, WaitsFor, Called, called_of, AllWait, AreRunsOf}
use Rattle.account.specs.Owners.{Opened, Mail, Owners}
use Rattle.account.specs.Objects.{IsThreadOf, IsTakenFromNothing, RoleFits}
use Rattle.account.specs.Blocks.{WaitsForMembers, HasArrived, MemberRuns}
use Rattle.account.specs.Messages.{Lies}
use Rattle.account.proofs.Bottom.{bottom_as}
use Rattle.account.proofs.Moving.{Families}

-- Flags may rise: what is owned, and each run, goes on.
module _ (p : Program) (flags more : ℕ → Bool) (rises : (o : ℕ) → flags o ≡ true → more o ≡ true) where
  mutual
    pub owns_flagged : (sight : Sight) (scene : Scene) (f : Formula) (R : Amounts) → Owns p flags sight scene f R
        → Owns p more sight scene f R
    owns_flagged sight scene f R (fact v is t) = fact v is t
    owns_flagged sight scene f R (field o is placed enough) = field o is placed enough
    owns_flagged sight scene f R (element x i is_x is_i placed enough) = element x i is_x is_i placed enough
    owns_flagged sight scene f R (holds o is apart named enough) = holds o is apart named enough
    owns_flagged sight scene f R (known o is c flagged) = known o is c (rises _ flagged)
    owns_flagged sight scene f R (folded o vs d is_o is_vs named owns) =
        folded o vs d is_o is_vs named (owns_flagged _ _ _ R owns)
    owns_flagged sight scene f R (star A B first second parts) =
        star A B (owns_flagged sight scene _ A first) (owns_flagged sight scene _ B second) parts
    owns_flagged sight scene f R (when_on v is t owns) = when_on v is t (owns_flagged sight scene _ R owns)
    owns_flagged sight scene f R (when_off v is t) = when_off v is t
    owns_flagged sight scene f R (each l u is_l is_u owns) = each l u is_l is_u (items_flagged sight scene _ _ _ _ R owns)

    items_flagged : (sight : Sight) (scene : Scene) (name : Name) (low high : ℤ) (is : Items) (R : Amounts)
        → OwnsItems p flags sight scene name low high is R → OwnsItems p more sight scene name low high is R
    items_flagged sight scene name low high is R no_items = no_items
    items_flagged sight scene name low high is R (joined A B first second parts) =
        joined A B (item_flagged sight scene name _ _ A first) (items_flagged sight scene name low high _ B second) parts

    item_flagged : (sight : Sight) (scene : Scene) (name : Name) (r : Range) (i : Item) (R : Amounts)
        → OwnsItem p flags sight scene name r i R → OwnsItem p more sight scene name r i R
    item_flagged sight scene name r i R (nothing e) = nothing e
    item_flagged sight scene name r i R (elements x is facts) = elements x is facts
    item_flagged sight scene name r i R (repeated facts) = repeated facts
    item_flagged sight scene name r i R (committed o is flagged) = committed o is (rises _ flagged)
    item_flagged sight scene name r i R (cut_off to) = cut_off to
    item_flagged sight scene name r i R (cut x to owns) = cut x to (item_flagged sight scene name x _ R owns)
    item_flagged sight scene name r i R (fixed v is w owns) = fixed v is w (owns_flagged sight _ _ R owns)
    item_flagged sight scene name r i R (beside v is w) = beside v is w

  pub goes_on_flagged : (heap : Heap) (scene : Scene) (f : Formula) (R : Amounts) → KeepsOwning p flags heap scene f R
      → KeepsOwning p more heap scene f R
  goes_on_flagged heap scene f R g later l = owns_flagged (only_now later) scene f R (g later l)

module _ (p : Program) (flags more : ℕ → Bool) (rises : (o : ℕ) → flags o ≡ true → more o ≡ true) (heap : Heap) where
  pub trees_flagged : (xs : List Folded) (T : Amounts) → HasTrees p flags heap xs T → HasTrees p more heap xs T
  trees_flagged [] T trees = tt
  trees_flagged (x ∷ xs) T trees = (
    trees.0,
    trees.1,
    (
      trees.2.0,
      trees.2.1,
      goes_on_flagged p flags more rises heap (outer_scene x.object trees.2.0.parameters x.arguments) trees.2.0.body trees.0
          trees.2.2,
    ),
    trees_flagged xs trees.1 trees.3,
    trees.4,
  )

  pub state_flagged : (taken : Taken) (t : State) → StateFits flags heap taken t → StateFits more heap taken t
  state_flagged taken t fits = record {
    steps = fits.steps;
    agree = fits.agree;
    holds = fits.holds;
    knows = λ c o k. rises o (fits.knows c o k);
    met = fits.met;
  }

  -- what waits around loops
  pub turns_flagged : (class : Name) (body : Body) (past : Heap) (scene : Scene) (o : Option (Loop × List Task)) (xs : List Part)
      → AllTakeTurns p flags heap class body past scene o xs → AllTakeTurns p more heap class body past scene o xs
  turns_flagged class body past scene None [] turns = tt
  turns_flagged class body past scene None (x ∷ xs) turns = absurd turns
  turns_flagged class body past scene (Some o) [] turns = absurd turns
  turns_flagged class body past scene (Some o) (x ∷ xs) (part, turns) = (
    record {
      assigned = part.assigned;
      loop = part.loop;
      tasks = part.tasks;
      fits = state_flagged x.taken x.state part.fits;
      this = part.this;
      variables = part.variables;
      result = part.result;
      given = part.given;
      trees = trees_flagged x.state.instances x.trees part.trees;
      known = part.known;
      settled = part.settled;
      agrees = part.agrees;
      never = part.never;
    },
    turns_flagged class body past scene (opened false o.1) xs turns,
  )

  is_flagged : (f : Frame) (r : account.Run) → StateIs p flags heap f r → StateIs p more heap f r
  is_flagged f r is = record {
    fits = state_flagged r.taken r.state is.fits;
    this = is.this;
    variables = is.variables;
    result = is.result;
    trees = trees_flagged r.state.instances r.trees is.trees;
  }

  pub run_flagged : (f : Frame) (r : account.Run) → IsRunOf p flags heap f r → IsRunOf p more heap f r
  run_flagged f r fits = record {
    state = is_flagged f r fits.state;
    old = fits.old;
    body = fits.body;
    typed = fits.typed;
    tasks = fits.tasks;
    outer = turns_flagged f.class r.body r.past (body_scene f) (opened r.inner f.tasks) r.outer fits.outer;
    never = fits.never;
  }

  wait_flagged : (c : Called) (f : Frame) (r : account.Run) → WaitsFor p flags heap c f r → WaitsFor p more heap c f r
  wait_flagged c f r fits = record {
    arguments = fits.arguments;
    rest = fits.rest;
    is = fits.is;
    begun = fits.begun;
    called = fits.called;
    state = is_flagged f r fits.state;
    old = fits.old;
    body = fits.body;
    typed = fits.typed;
    tasks = fits.tasks;
    outer = turns_flagged f.class r.body r.past (body_scene f) (opened false fits.rest) r.outer fits.outer;
    waiting = fits.waiting;
    known = fits.known;
    settled = fits.settled;
    stood = fits.stood;
    never = fits.never;
  }

  pub waits_flagged : (c : Called) (fs : List Frame) (rs : List account.Run) → AllWait p flags heap c fs rs
      → AllWait p more heap c fs rs
  waits_flagged c [] [] fits = tt
  waits_flagged c [] (r ∷ rs) fits = absurd fits
  waits_flagged c (f ∷ fs) [] fits = absurd fits
  waits_flagged c (f ∷ fs) (r ∷ rs) fits = (wait_flagged c f r fits.0, waits_flagged (called_of f r) fs rs fits.1)

  pub runs_flagged : (fs : List Frame) (rs : List account.Run) → AreRunsOf p flags heap fs rs → AreRunsOf p more heap fs rs
  runs_flagged [] [] fits = tt
  runs_flagged [] (r ∷ rs) fits = absurd fits
  runs_flagged (f ∷ fs) [] fits = absurd fits
  runs_flagged (f ∷ fs) (r ∷ rs) fits = (run_flagged f r fits.0, waits_flagged (called_of f r) fs rs fits.1)

  -- of the last frame

  pub taken_flagged : (scene : Scene) (f : Formula) → IsTakenFromNothing p flags heap scene f
      → IsTakenFromNothing p more heap scene f
  taken_flagged scene f h = record {
    past = h.past;
    old = h.old;
    known = h.known;
    taken = h.taken;
    state = h.state;
    before = h.before;
    settled = h.settled;
    agrees = h.agrees;
    fits = state_flagged h.taken h.state h.fits;
    none = h.none;
    empty = h.empty;
    never = h.never;
  }

  thread_flagged : (state : ℕ → ThreadState) (i x : ℕ) (f : Frame) (r : account.Run) → IsThreadOf p flags heap state i x f r
      → IsThreadOf p more heap state i x f r
  thread_flagged state i x f r h = record {
    this = h.this;
    class = h.class;
    method = h.method;
    running = h.running;
    body = h.body;
    stays = taken_flagged (outer_scene x [] []) f.method.contract.after h.stays;
  }

  role_flagged : (state : ℕ → ThreadState) (i : ℕ) (role : Role) (fs : List Frame) (rs : List account.Run)
      → RoleFits p flags heap state i role fs rs → RoleFits p more heap state i role fs rs
  role_flagged state i Entry fs rs h = h
  role_flagged state i (RunOf x) fs rs h =
      bottom_as (IsThreadOf p flags heap state i x) (IsThreadOf p more heap state i x) (thread_flagged state i x) fs rs h
  role_flagged state i (MemberOf b position) fs rs h = tt

  waits_for_flagged : (count : ℕ) (threads : ℕ → Thread) (block_count : ℕ) (left : ℕ → Amounts) (opening : Opened) (i b : ℕ)
      (block : OpenBlock) (f : Frame) (r : account.Run) (rest : List Task)
      → WaitsForMembers p flags heap count threads block_count left opening i b block f r rest
      → WaitsForMembers p more heap count threads block_count left opening i b block f r rest
  waits_for_flagged count threads block_count left opening i b block f r rest h = record {
    number = h.number;
    opener = h.opener;
    class = h.class;
    scope = h.scope;
    scene = h.scene;
    typed = h.typed;
    contract = h.contract;
    alike = h.alike;
    closes = h.closes;
    counted = h.counted;
    roles = h.roles;
    ended =
        λ k l e. goes_on_flagged p flags more rises heap _ block.team.shared.one.after (left (block.first + k)) (h.ended k l e);
  }

  arrived_flagged : (opening : Opened) (block : OpenBlock) (position : ℤ) (barrier : Barrier) (r : account.Run) (left : Amounts)
      → HasArrived p flags heap opening block position barrier r left
      → HasArrived p more heap opening block position barrier r left
  arrived_flagged opening block position barrier r left h = record {
    alike = h.alike;
    owns = goes_on_flagged p flags more rises heap _ barrier.shared.one.before left h.owns;
    meets = h.meets;
  }

  member_flagged : (count : ℕ) (threads : ℕ → Thread) (left : Amounts) (opening : Opened) (j b : ℕ) (block : OpenBlock)
      (position : ℤ) (runs : List account.Run) → MemberRuns p flags heap count threads left opening j b block position runs
      → MemberRuns p more heap count threads left opening j b block position runs
  member_flagged count threads left opening j b block position runs h = record {
    opener = h.opener;
    frame = h.frame;
    below = h.below;
    rest = h.rest;
    stack = h.stack;
    waits = h.waits;
    number = h.number;
    less = h.less;
    thread = h.thread;
    place = h.place;
    member = h.member;
    arrived = λ f r rs barrier span others e has is.
        arrived_flagged opening block position barrier r left (h.arrived f r rs barrier span others e has is);
  }

  lies_flagged : (opening : Opened) (block : OpenBlock) (sender : ℤ) (m : Message) (label : Name) (mail : Mail)
      → Lies p flags heap opening block sender m label mail → Lies p more heap opening block sender m label mail
  lies_flagged opening block sender m label mail h = record {
    part = h.part;
    there = h.there;
    owns = goes_on_flagged p flags more rises heap _ m.formula h.part h.owns;
  }

  -- all that is said of threads
  pub families_flagged : (count : ℕ) (threads : ℕ → Thread) (block_count : ℕ) (blocks : ℕ → OpenBlock)
      (state : ℕ → ThreadState) (o : Owners) → Families p flags heap count threads block_count blocks state o
      → Families p more heap count threads block_count blocks state o
  families_flagged count threads block_count blocks state o k = record {
    threads_run = record {
      frames = λ j l. runs_flagged (threads j).frames (o.runs j) (k.threads_run.frames j l);
      live = k.threads_run.live;
    };
    roles = λ j l. role_flagged state j (threads j).role (threads j).frames (o.runs j) (k.roles j l);
    blocks_fit = record {
      openers = λ i l f below r rs b rest e has is.
          waits_for_flagged count threads block_count o.left (o.openings b) i b (blocks b) f r rest
          (k.blocks_fit.openers i l f below r rs b rest e has is);
      members = λ j l b position is live.
          member_flagged count threads (o.left j) (o.openings b) j b (blocks b) position (o.runs j)
          (k.blocks_fit.members j l b position is live);
    };
    mail = record {
      known = k.mail.known;
      there = λ j l b position is label waits sent.
          lies_flagged (o.openings b) (blocks b) (position -ℤ pos (o.messages b label).distance) (o.messages b label) label
          (o.mail j) (k.mail.there j l b position is label waits sent);
    };
  }
