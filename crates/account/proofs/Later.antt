-- Runs, what waits around loops, blocks and mail over a change of the heap that keeps what they have.
use Rattle.std.proofs.Common.{◌≡◌, ℕ, suc, ◌≤◌, ℤ, Bool, false, Option, Some, None, List, [], ◌∷◌, refl, ap, sym, subst, ◌∙◌, arith}
use Rattle.std.specs.Prelude.{IsSome}
use Rattle.std.proofs.lemmas.Option.{none-some}
use Rattle.pv_base.specs.declared.Name.{Name}
use Rattle.pv_ast.specs.declared.PvType.{PvType}
use Rattle.pv_ast.specs.declared.PvType.TheVariants.{Object}
use Rattle.pv_values.specs.declared.value.Value.{Value}
use Rattle.pv_values.specs.declared.value.Value.TheVariants as value
use Rattle.pv_values.specs.declared.value.Location.{Location}
use Rattle.pv_values.specs.declared.value.Location.TheVariants as location
use Rattle.pv_values.specs.Typing.{Kind, is_number, is_truth}
use Rattle.pv_picks.specs.Plain.Core.{Formula, Parameter, Barrier, Program}
use Rattle.pv_picks.specs.Formulas.Evaluation.{Scene}
use Rattle.pv_picks.specs.Formulas.Values.{array_of}
use Rattle.pv_picks.specs.Formulas.Heaps.{Heap}
use Rattle.pv_picks.specs.Judge.States.{Resource, InField, InElement, OfToken, OfLock, Cells, Folded, Holding, State, amount_held, amount_of}
use Rattle.pv_picks.specs.Machine.Starts.{field_kind, kind_of}
use Rattle.pv_picks.specs.Machine.Tasks.{Loop, Task}
use Rattle.pv_picks.specs.Machine.Frames.{Frame, body_scene, outer_scene}
use Rattle.pv_picks.specs.Machine.Worlds.{OpenBlock, ThreadState}
use Rattle.pv_picks.specs.Typing.Heaps.{HasKindOf, HoldsOnly}
use Rattle.pv_picks.specs.Typing.Expressions.{Home, Speech}
use Rattle.pv_picks.specs.Typing.Frames as typed
use Rattle.pv_picks.specs.Typing.Frames.{HasType, VariablesFit}
use Rattle.account_formulas.specs.Sights.{Stands, ValuesFit, SceneFits}
use Rattle.account_formulas.specs.Runs.{Taken}
use Rattle.account_formulas.specs.Owning.{Amounts, IsPlaced, KeepsHeld, KeepsOwning, HasTrees}
use Rattle.account_formulas.specs.Growing.{AllBelow, IsHeld, StateFits}
use Rattle.account_formulas.proofs.Picking.{not_beyond}
use Rattle.account.specs.Running.{Body}
use Rattle.account.specs.Frames as account
use Rattle.account.specs.Frames.{Part, outer_of, amounts_of, all_of, StateIs, OldIs, BodyIs, FrameIsTyped, TakesTurns, AllTakeTurns, opened, IsRunOf, Called, called_of, WaitsFor, AllWait, AreRunsOf}
use Rattle.account.specs.Owners.{Opened}
use Rattle.account.specs.Objects.{IsTakenFromNothing, IsThreadOf}
use Rattle.account.specs.Blocks.{scene_at, HasArrived}

-- what is typed in a heap stays so in a later one, and no object that was there gets another class
pub record Grown (heap later : Heap) : Type 0 where
  pub keeps : (kind : Option Kind) (v : Value) → HasKindOf heap kind v → HasKindOf later kind v
  pub numbers : (array : ℕ) → HoldsOnly is_number later array → HoldsOnly is_number heap array
  pub truths : (array : ℕ) → HoldsOnly is_truth later array → HoldsOnly is_truth heap array
  pub count : heap.count ≤ later.count
  pub class : (x : ℕ) (class : Name) → later.class (suc x) ≡ Some class → suc x ≤ heap.count → heap.class (suc x) ≡ Some class
  pub classes : (x : ℕ) (class : Name) → heap.class x ≡ Some class → later.class x ≡ Some class

pub grown_same : (heap : Heap) → Grown heap heap
grown_same heap = record {
  keeps = λ kind v is. is;
  numbers = λ a h. h;
  truths = λ a h. h;
  count = omega arith;
  class = λ x class is l. is;
  classes = λ x class is. is;
}

pub keeps_same : (R : Amounts) (heap : Heap) → KeepsHeld R heap heap
keeps_same R heap = record { placed = λ r h. h; kept = λ r v more h. h; lengths = λ a n h. h }

pub keeps_less : (A B : Amounts) (heap later : Heap) → ((r : Resource) → A r ≤ B r) → KeepsHeld B heap later
    → KeepsHeld A heap later
keeps_less A B heap later less l = record {
  placed = l.placed;
  kept = λ r v more. l.kept r v (let e = less r in omega (arith, e, more));
  lengths = l.lengths;
}

pub keeps_then : (A : Amounts) (a b c : Heap) → KeepsHeld A a b → KeepsHeld A b c → KeepsHeld A a c
keeps_then A a b c l m = record {
  placed = λ r h. m.placed r (l.placed r h);
  kept = λ r v more h. m.kept r v more (l.kept r v more h);
  lengths = λ x n h. m.lengths x n (l.lengths x n h);
}

-- a heap with more in it: what stood in the one before, of the same classes, lengths and kinds, stands there
pub record Extends (heap later : Heap) : Type 0 where
  pub values : (l : Location) (v : Value) → heap.value l ≡ Some v → later.value l ≡ Some v
  pub lengths : (a : ℕ) (n : ℤ) → heap.length a ≡ Some n → later.length a ≡ Some n
  pub classes : (x : ℕ) (class : Name) → heap.class x ≡ Some class → later.class x ≡ Some class
  pub class : (x : ℕ) (class : Name) → later.class (suc x) ≡ Some class → suc x ≤ heap.count → heap.class (suc x) ≡ Some class
  pub kinds : (kind : Option Kind) (v : Value) → HasKindOf heap kind v → HasKindOf later kind v
  pub count : heap.count ≤ later.count

module _ (heap later : Heap) (e : Extends heap later) where
  pub grown_extended : Grown heap later
  grown_extended = record {
    keeps = e.kinds;
    numbers = λ a h i v is. h i v (e.values (location.Cell a i) v is);
    truths = λ a h i v is. h i v (e.values (location.Cell a i) v is);
    count = e.count;
    class = e.class;
    classes = e.classes;
  }

  some_extended : (l : Location) → IsSome (heap.value l) → IsSome (later.value l)
  some_extended l is = go (heap.value l) refl is
    where
      go : (o : Option Value) → heap.value l ≡ o → IsSome o → IsSome (later.value l)
      go None at k = absurd (cc k)
      go (Some v) at k = subst IsSome (sym (e.values l v at)) refl

  pub keeps_extended : (A : Amounts) → KeepsHeld A heap later
  keeps_extended A = record { placed = placed; kept = kept; lengths = e.lengths }
    where
      placed : (r : Resource) → IsPlaced heap r → IsPlaced later r
      placed (InField c o n) h = (e.classes o c h.0, some_extended (location.Field o n) h.1)
      placed (InElement t a i) h = (
        (h.0.0, e.lengths a h.0.0 h.0.1, h.0.2),
        some_extended (location.Cell a i) h.1,
        h.2,
        e.kinds (Some (kind_of (array_of t))) (value.Reference a) h.3,
      )
      placed (OfToken t c o) h = e.classes o c h
      placed (OfLock c o) h = e.classes o c h

      kept : (r : Resource) (v : Value) → 1 ≤ A r → Stands heap r v → Stands later r v
      kept (InField c o n) v m is = e.values (location.Field o n) v is
      kept (InElement t a i) v m is = e.values (location.Cell a i) v is
      kept (OfToken t c o) v m is = tt
      kept (OfLock c o) v m is = tt

pub below_more : (a b : ℕ) → a ≤ b → (xs : List (PvType × ℕ)) → AllBelow a xs → AllBelow b xs
below_more a b l [] h = tt
below_more a b l (x ∷ xs) h = (let k = h.0 in omega (arith, l, k), below_more a b l xs h.1)

module _ (p : Program) (flags : ℕ → Bool) (heap later : Heap) where
  pub owning_later : (scene : Scene) (f : Formula) (R : Amounts) → KeepsHeld R heap later → KeepsOwning p flags heap scene f R
      → KeepsOwning p flags later scene f R
  owning_later scene f R l owns other m = owns other (keeps_then R heap later other l m)

  pub trees_later : (I : List Folded) (T : Amounts) → HasTrees p flags heap I T → KeepsHeld T heap later
      → HasTrees p flags later I T
  trees_later [] T trees l = tt
  trees_later (x ∷ xs) T (A, B, (d, is, owns), more, sum) l = (
    A,
    B,
    (
      d,
      is,
      owning_later (outer_scene x.object d.parameters x.arguments) d.body A
          (keeps_less A T heap later (λ r. let s = sum r in omega (arith, s)) l) owns,
    ),
    trees_later xs B more (keeps_less B T heap later (λ r. let s = sum r in omega (arith, s)) l),
    sum,
  )

  -- what is held stays so
  pub held_later : (taken : Taken) (R : Amounts) → KeepsHeld R heap later → (r : Resource) (h : Holding) → h.amount ≤ R r
      → IsHeld taken heap r h → IsHeld taken later r h
  held_later taken R l r h less is = record {
    some = is.some;
    placed = l.placed r is.placed;
    value = is.value;
    settled = is.settled;
    stands = l.kept r is.value (let k = is.some in omega (arith, k, less)) is.stands;
  }

  pub state_later : (taken : Taken) (t : State) → Grown heap later → KeepsHeld (amount_of t) heap later
      → StateFits flags heap taken t → StateFits flags later taken t
  state_later taken t grown l s = record {
    steps = s.steps;
    agree = λ type a n is. l.lengths a n (s.agree type a n is);
    holds = λ r h is. held_later taken (amount_of t) l r h
        (let e : h.amount ≡ amount_of t r = ap amount_held (sym is) in omega (arith, e)) (s.holds r h is);
    knows = s.knows;
    met = below_more heap.count later.count grown.count t.met s.met;
  }

  pub values_later : (past : Heap) → Grown heap later → ValuesFit (field_kind p) heap past → ValuesFit (field_kind p) later past
  values_later past grown v = record {
    fields = λ o c n x is at. grown.keeps (field_kind p c n) x (v.fields o c n x
        (grown.class o c is (not_beyond (suc o) heap.count (λ k. absurd (none-some x (sym (v.beyond_fields (suc o) n k) ∙ at)))))
        at);
    numbers = λ a h. v.numbers a (grown.numbers a h);
    truths = λ a h. v.truths a (grown.truths a h);
    no_fields = v.no_fields;
    no_elements = v.no_elements;
    beyond_fields = λ n name k. v.beyond_fields n name (let c = grown.count in omega (arith, c, k));
    beyond_elements = λ n i k. v.beyond_elements n i (let c = grown.count in omega (arith, c, k));
  }

  -- types
  module _ (grown : Grown heap later) where
    pub type_later : (type : PvType) (v : Value) → HasType heap type v → HasType later type v
    type_later type v h = grown.keeps (Some (kind_of type)) v h

    pub stack_later : (types : List PvType) (vs : List Value) → typed.ValuesFit heap types vs → typed.ValuesFit later types vs
    stack_later [] vs h = tt
    stack_later (t ∷ ts) [] h = absurd h
    stack_later (t ∷ ts) (v ∷ vs) h = (type_later t v h.0, stack_later ts vs h.1)

    pub scene_later : (h : Home) (speech : Speech) (xs : List Parameter) (scene : Scene) → SceneFits h speech xs heap scene
        → SceneFits h speech xs later scene
    scene_later h speech xs scene fits = record {
      this = type_later (Object h.class) (value.Reference scene.this) fits.this;
      variables = λ n t is. type_later t (scene.variables n.0) (fits.variables n t is);
      result = λ t is. type_later t scene.result (fits.result t is);
    }

    pub typed_later : (f : Frame) (r : account.Run) → FrameIsTyped heap f r → FrameIsTyped later f r
    typed_later f r h = record {
      this = type_later (Object f.class) (value.Reference f.this) h.this;
      variables = λ n t is. type_later t (f.variables n.0) (h.variables n t is);
      result = λ given t is. type_later t f.result (h.result given t is);
      values = stack_later r.stack f.values h.values;
    }

    pub body_later : (f : Frame) (body : Body) → BodyIs p heap f.class f.begun body → BodyIs p later f.class f.begun body
    body_later f body h = record {
      same = h.same;
      typed = λ n t is. type_later t (f.begun n.0) (h.typed n t is);
      after = h.after;
      quiet = h.quiet;
      answers = h.answers;
    }

    pub old_later : (spoken : Bool) (kept : Option Heap) (past : Heap) (taken : Taken) (old : Cells)
        → OldIs p heap spoken kept past taken old → OldIs p later spoken kept past taken old
    old_later spoken kept past taken old h = record {
      known = h.known;
      settled = h.settled;
      agrees = h.agrees;
      fits = values_later past grown h.fits;
      is = h.is;
      needed = h.needed;
    }

    -- a run of which nothing changes
    pub is_later : (f : Frame) (r : account.Run) → KeepsHeld (amounts_of r) heap later → StateIs p flags heap f r
        → StateIs p flags later f r
    is_later f r l h = record {
      fits = state_later r.taken r.state grown (keeps_less (amount_of r.state) (amounts_of r) heap later (λ q. omega arith) l)
          h.fits;
      this = h.this;
      variables = h.variables;
      result = h.result;
      trees = trees_later r.state.instances r.trees h.trees (keeps_less r.trees (amounts_of r) heap later (λ q. omega arith) l);
    }

    -- what waits around loops
    pub turns_later : (class : Name) (body : Body) (past : Heap) (scene : Scene) (o : Option (Loop × List Task)) (xs : List Part)
        → KeepsHeld (outer_of xs) heap later → AllTakeTurns p flags heap class body past scene o xs
        → AllTakeTurns p flags later class body past scene o xs
    turns_later class body past scene None [] l fits = tt
    turns_later class body past scene None (x ∷ xs) l fits = absurd fits
    turns_later class body past scene (Some o) [] l fits = absurd fits
    turns_later class body past scene (Some o) (x ∷ xs) l (part, more) = (
      record {
        assigned = part.assigned;
        loop = part.loop;
        tasks = part.tasks;
        fits = state_later x.taken x.state grown
            (keeps_less (amount_of x.state) (outer_of (x ∷ xs)) heap later (λ q. omega arith) l) part.fits;
        this = part.this;
        variables = part.variables;
        result = part.result;
        given = λ given t is. type_later t scene.result (part.given given t is);
        trees = trees_later x.state.instances x.trees part.trees
            (keeps_less x.trees (outer_of (x ∷ xs)) heap later (λ q. omega arith) l);
        known = part.known;
        settled = part.settled;
        agrees = part.agrees;
        never = part.never;
      },
      turns_later class body past scene (opened false o.1) xs
          (keeps_less (outer_of xs) (outer_of (x ∷ xs)) heap later (λ q. omega arith) l) more,
    )

    pub run_later : (f : Frame) (r : account.Run) → KeepsHeld (amounts_of r) heap later → IsRunOf p flags heap f r
        → IsRunOf p flags later f r
    run_later f r l h = record {
      state = is_later f r l h.state;
      old = old_later r.body.speech.old f.old r.past r.taken r.state.old h.old;
      body = body_later f r.body h.body;
      typed = typed_later f r h.typed;
      tasks = h.tasks;
      outer = turns_later f.class r.body r.past (body_scene f) (opened r.inner f.tasks) r.outer
          (keeps_less (outer_of r.outer) (amounts_of r) heap later (λ q. omega arith) l) h.outer;
      never = h.never;
    }

    pub wait_later : (c : Called) (f : Frame) (r : account.Run) → KeepsHeld (amounts_of r) heap later
        → WaitsFor p flags heap c f r → WaitsFor p flags later c f r
    wait_later c f r l h = record {
      arguments = h.arguments;
      rest = h.rest;
      is = h.is;
      begun = h.begun;
      called = h.called;
      state = is_later f r l h.state;
      old = old_later r.body.speech.old f.old r.past r.taken r.state.old h.old;
      body = body_later f r.body h.body;
      typed = typed_later f r h.typed;
      tasks = h.tasks;
      outer = turns_later f.class r.body r.past (body_scene f) (opened false h.rest) r.outer
          (keeps_less (outer_of r.outer) (amounts_of r) heap later (λ q. omega arith) l) h.outer;
      waiting = h.waiting;
      known = h.known;
      settled = h.settled;
      stood = h.stood;
      never = h.never;
    }

    pub below_later : (c : Called) (fs : List Frame) (rs : List account.Run) → KeepsHeld (all_of rs) heap later
        → AllWait p flags heap c fs rs → AllWait p flags later c fs rs
    below_later c [] [] l fits = tt
    below_later c [] (r ∷ rs) l fits = absurd fits
    below_later c (f ∷ fs) [] l fits = absurd fits
    below_later c (f ∷ fs) (r ∷ rs) l fits = (
      wait_later c f r (keeps_less (amounts_of r) (all_of (r ∷ rs)) heap later (λ q. omega arith) l) fits.0,
      below_later (called_of f r) fs rs (keeps_less (all_of rs) (all_of (r ∷ rs)) heap later (λ q. omega arith) l) fits.1,
    )

    pub frames_later : (fs : List Frame) (rs : List account.Run) → KeepsHeld (all_of rs) heap later
        → AreRunsOf p flags heap fs rs → AreRunsOf p flags later fs rs
    frames_later [] [] l fits = tt
    frames_later [] (r ∷ rs) l fits = absurd fits
    frames_later (f ∷ fs) [] l fits = absurd fits
    frames_later (f ∷ fs) (r ∷ rs) l fits = (
      run_later f r (keeps_less (amounts_of r) (all_of (r ∷ rs)) heap later (λ q. omega arith) l) fits.0,
      below_later (called_of f r) fs rs (keeps_less (all_of rs) (all_of (r ∷ rs)) heap later (λ q. omega arith) l) fits.1,
    )

    -- what can be taken in where nothing is held
    pub taking_later : (scene : Scene) (f : Formula) → KeepsHeld (λ q. 0) heap later → IsTakenFromNothing p flags heap scene f
        → IsTakenFromNothing p flags later scene f
    taking_later scene f l h = record {
      past = h.past;
      old = h.old;
      known = h.known;
      taken = h.taken;
      state = h.state;
      before = values_later h.past grown h.before;
      settled = h.settled;
      agrees = h.agrees;
      fits = state_later h.taken h.state grown
          (keeps_less (amount_of h.state) (λ q. 0) heap later (λ q. let e = h.none q in omega (arith, e)) l) h.fits;
      none = h.none;
      empty = h.empty;
      never = h.never;
    }

    pub thread_later : (state : ℕ → ThreadState) (i x : ℕ) (f : Frame) (r : account.Run) → KeepsHeld (λ q. 0) heap later
        → IsThreadOf p flags heap state i x f r → IsThreadOf p flags later state i x f r
    thread_later state i x f r l h = record {
      this = h.this;
      class = grown.classes x f.class h.class;
      method = h.method;
      running = h.running;
      body = h.body;
      stays = taking_later (outer_scene x [] []) f.method.contract.after l h.stays;
    }

    pub arrived_later : (opening : Opened) (block : OpenBlock) (position : ℤ) (barrier : Barrier) (r : account.Run)
        (left : Amounts) → KeepsHeld left heap later → HasArrived p flags heap opening block position barrier r left
        → HasArrived p flags later opening block position barrier r left
    arrived_later opening block position barrier r left l h = record {
      alike = h.alike;
      owns = owning_later (scene_at opening block.team position) barrier.shared.one.before left l h.owns;
      meets = h.meets;
    }
