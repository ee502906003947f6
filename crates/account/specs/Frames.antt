-- A run of the judge for each frame of a thread: over what is left of the innermost one, and of each frame that waits for a call,
-- over what comes after its postcondition.
use Rattle.std.specs.Prelude.{◌≡◌, ◌⊎◌, ◌+◌, ℕ, Bool, true, false, if◌then◌else◌, IsTrue, Option, Some, None, List, [], ◌∷◌, map}
use Rattle.pv_base.specs.declared.Name.{Name}
use Rattle.pv_ast.specs.declared.PvType.{PvType}
use Rattle.pv_ast.specs.declared.PvType.TheVariants.{Object}
use Rattle.pv_values.specs.declared.value.Value.{Value}
use Rattle.pv_values.specs.declared.value.Value.TheVariants as value
use Rattle.pv_picks.specs.declared.check.Check.{Check}
use Rattle.pv_picks.specs.declared.check.Check.TheVariants as check
use Rattle.pv_picks.specs.Plain.Core.{Parameter, Method, Program}
use Rattle.pv_picks.specs.Formulas.Values.{Variables}
use Rattle.pv_picks.specs.Formulas.Evaluation.{Scene}
use Rattle.pv_picks.specs.Formulas.Heaps.{Heap}
use Rattle.pv_picks.specs.Formulas.Meeting.{Sight}
use Rattle.pv_picks.specs.Judge.States.{Cells, State, amount_of, nothing_held}
use Rattle.pv_picks.specs.Judge.Settings.{Setting, Next}
use Rattle.pv_picks.specs.Judge.Inhaling.{inhale}
use Rattle.pv_picks.specs.Machine.Tasks.{AtRead, AtLength, AtHead, Loop, Task, Evaluate, EvaluateAll, Combine, Choose, Turn, Stand, Resume}
use Rattle.pv_picks.specs.Machine.Frames.{Frame, at_lengths_of, body_scene}
use Rattle.pv_picks.specs.Judge.Rows.{bind_for, arguments_of, result_of}
use Rattle.pv_picks.specs.Judge.Judging.{blocking, inhale_own, choose_turn, pick_variables, when}
use Rattle.pv_picks.specs.Machine.Starts.{field_kind}
use Rattle.pv_picks.specs.Typing.Expressions.{Home, Speech, answer_of, type_in}
use Rattle.pv_picks.specs.Typing.Blocks.{over}
use Rattle.pv_picks.specs.Typing.Frames as typed
use Rattle.pv_picks.specs.Typing.Frames.{HasType, VariablesFit, ResultFits}
use Rattle.core_trees.specs.Formulas.{FormulaFits, ResultIsDeclared, midway, in_class}
use Rattle.account_formulas.specs.Sights.{Contents, ContentsAgree, ValuesFit}
use Rattle.account_formulas.specs.Runs.{Taken, truly, RestNeverFails, AreSettled}
use Rattle.account_formulas.specs.Owning.{Amounts, HasTrees}
use Rattle.account_formulas.specs.Growing.{StateFits}
use Rattle.account_formulas.specs.Agreeing.{AgreeOn}
use Rattle.account.specs.Running.{Body, turn_inside, ran}
use Rattle.account.specs.Scoped.{OpenLoop, Standing, IsLoopIn, TasksSay, FrameSays}

-- What waits around an open loop: a state before a turn is chosen, the picks for ranges that were taken by then, and what its
-- instances have; the loop, and whether a result was given before it.
pub record Part : Type 0 where
  pub state : State
  pub taken : Taken
  pub trees : Amounts
  pub loop : OpenLoop
  pub given : Bool

-- A suspended run of the judge, over what is left of a frame: the body, and the heap that it began in; its state, the picks for
-- ranges that were taken, and what its instances have; what waits around open loops, the innermost first, and whether the loop at
-- whose condition it stands goes on. Of the frame it has the variables in scope, whether a result was given, and the types of the
-- values.
pub record Run : Type 0 where
  pub body : Body
  pub past : Heap
  pub state : State
  pub taken : Taken
  pub trees : Amounts
  pub outer : List Part
  pub inner : Bool
  pub scope : List Parameter
  pub given : Bool
  pub stack : List PvType

-- what runs have: held, in instances, and around open loops

abbrev pub outer_of : List Part → Amounts
outer_of [] q = 0
outer_of (x ∷ xs) q = amount_of x.state q + x.trees q + outer_of xs q

abbrev pub amounts_of : Run → Amounts
amounts_of r q = amount_of r.state q + r.trees q + outer_of r.outer q

abbrev pub all_of : List Run → Amounts
all_of [] q = 0
all_of (r ∷ rs) q = amounts_of r q + all_of rs q

-- the heap, with the one that the formulas of a run speak of with `\old`
abbrev pub sight_in : Heap → Run → Sight
sight_in present r = record { now = present; old = at_lengths_of present r.past }

abbrev pub home_in : Program → Name → Body → Home
home_in p class body = record { program = p; class = class; answer = body.answer }

-- where the tasks of a body stand, with what waits around open loops
abbrev pub standing_in : Program → Name → Body → List Part → Standing
standing_in p class body outer =
    record { home = home_in p class body; speech = body.speech; head = body.head; loops = map (λ x. x.loop) outer }

-- what the formula at a body's end may speak of
abbrev pub speech_at_end : Body → Speech
speech_at_end body = record { result = body.result; old = body.speech.old }

-- the turns of a loop
abbrev pub turns_of : {R : Type 0} → Setting R → Program → Body → Loop → Next R → Next R
turns_of setting p body l next =
    choose_turn setting
    (λ state. pick_variables setting l.assigned
    (inhale_own setting l.invariant (when setting true l.condition (turn_inside setting p body l))) (nothing_held state))
    (blocking setting)
    (pick_variables setting l.assigned (inhale_own setting l.invariant (when setting false l.condition next)))

abbrev pub goes_back : Check → Bool
goes_back check.LoopKeep = true
goes_back _ = false

-- the open loop in which tasks stand, and what comes after it
abbrev pub opened : Bool → List Task → Option (Loop × List Task)
opened inner [] = None
opened inner (Turn l ∷ rest) = if inner then Some (l, rest) else opened false rest
opened inner (Stand (AtHead named l) ∷ rest) = if goes_back named then Some (l, rest) else opened false rest
opened inner (Evaluate e ∷ rest) = opened inner rest
opened inner (EvaluateAll es ∷ rest) = opened inner rest
opened inner (Combine combination ∷ rest) = opened inner rest
opened inner (Choose a b ∷ rest) = opened inner rest
opened inner (Stand (AtRead spot span) ∷ rest) = opened inner rest
opened inner (Stand (AtLength type span) ∷ rest) = opened inner rest
opened inner (task ∷ rest) = opened false rest

-- a run's state is that of its frame, as far as variables are in scope, and all that it holds and knows is so
pub record StateIs (p : Program) (flags : ℕ → Bool) (present : Heap) (f : Frame) (r : Run) : Type 0 where
  pub fits : StateFits flags present r.taken r.state
  pub this : r.state.this ≡ f.this
  pub variables : AgreeOn r.scope r.state.variables f.variables
  pub result : r.state.result ≡ f.result
  pub trees : HasTrees p flags present r.state.instances r.trees

-- what a run knows of the old state stood in the heap in which it began, and its frame keeps that heap where it is spoken of
pub record OldIs (p : Program) (present : Heap) (spoken : Bool) (kept : Option Heap) (past : Heap) (taken : Taken) (old : Cells)
    : Type 0 where
  pub known : Contents
  pub settled : AreSettled taken old known
  pub agrees : ContentsAgree past known
  pub fits : ValuesFit (field_kind p) present past
  pub is : (kept ≡ Some past) ⊎ (kept ≡ None)
  pub needed : kept ≡ None → IsTrue spoken → ⊥

-- judge and machine read the contract of a body alike, with the variables with which it began, and its formula is well typed
pub record BodyIs (p : Program) (present : Heap) (class : Name) (begun : Variables) (body : Body) : Type 0 where
  pub same : AgreeOn body.head body.site.begun begun
  pub typed : VariablesFit present body.head begun
  pub after : FormulaFits (in_class p class) (speech_at_end body) body.head body.after
  pub quiet : body.speech.result ≡ None
  pub answers : (type : PvType) → body.result ≡ Some type → body.answer ≡ Some type

-- the values of a frame have the types that its run says
pub record FrameIsTyped (present : Heap) (f : Frame) (r : Run) : Type 0 where
  pub this : HasType present (Object f.class) (value.Reference f.this)
  pub variables : VariablesFit present r.scope f.variables
  pub result : ResultFits present r.body.answer r.given f.result
  pub values : typed.ValuesFit present r.stack f.values

-- what waits around an open loop can take each of its turns
pub record TakesTurns (p : Program) (flags : ℕ → Bool) (present : Heap) (class : Name) (body : Body) (past : Heap) (scene : Scene)
    (l : Loop) (rest : List Task) (x : Part) (xs : List Part) : Type 0 where
  pub assigned : x.loop.assigned ≡ l.assigned
  pub loop : IsLoopIn (standing_in p class body xs) x.loop.scope l
  pub tasks : TasksSay (standing_in p class body xs) false x.loop.scope x.given [] rest
  pub fits : StateFits flags present x.taken x.state
  pub this : x.state.this ≡ scene.this
  -- the loop's frame keeps the variables that the loop doesn't assign
  pub variables : (name : Name) (type : PvType) → type_in x.loop.scope name ≡ Some type → type_in x.loop.assigned name ≡ None
      → x.state.variables name.0 ≡ scene.variables name.0
  pub result : x.state.result ≡ scene.result
  pub given : ResultFits present body.answer x.given scene.result
  pub trees : HasTrees p flags present x.state.instances x.trees
  pub known : Contents
  pub settled : AreSettled x.taken x.state.old known
  pub agrees : ContentsAgree past known
  pub never : RestNeverFails x.taken
      (λ maps. turns_of (truly maps) p body l (ran (truly maps) p body false rest []) x.state)

-- a part waits around each open loop
abbrev pub AllTakeTurns : Program → (ℕ → Bool) → Heap → Name → Body → Heap → Scene → Option (Loop × List Task) → List Part
    → Type 0
AllTakeTurns p flags present class body past scene None [] = Unit {0}
AllTakeTurns p flags present class body past scene None (x ∷ xs) = ⊥
AllTakeTurns p flags present class body past scene (Some o) [] = ⊥
AllTakeTurns p flags present class body past scene (Some o) (x ∷ xs) =
    TakesTurns p flags present class body past scene o.0 o.1 x xs
    × AllTakeTurns p flags present class body past scene (opened false o.1) xs

-- a run of what is left of a frame, which never fails
pub record IsRunOf (p : Program) (flags : ℕ → Bool) (present : Heap) (f : Frame) (r : Run) : Type 0 where
  pub state : StateIs p flags present f r
  pub old : OldIs p present r.body.speech.old f.old r.past r.taken r.state.old
  pub body : BodyIs p present f.class f.begun r.body
  pub typed : FrameIsTyped present f r
  pub tasks : FrameSays (standing_in p f.class r.body r.outer) r.inner r.scope r.given r.stack f.tasks
  pub outer : AllTakeTurns p flags present f.class r.body r.past (body_scene f) (opened r.inner f.tasks) r.outer
  pub never : RestNeverFails r.taken (λ maps. ran (truly maps) p r.body r.inner f.tasks f.values r.state)

-- the call that a frame is, with the heap in which it began, and its body
pub record Called : Type 0 where
  pub class : Name
  pub method : Method
  pub this : ℕ
  pub begun : Variables
  pub past : Heap
  pub body : Body

abbrev pub called_of : Frame → Run → Called
called_of f r =
    record { class = f.class; method = f.method; this = f.this; begun = f.begun; past = r.past; body = r.body }

-- the body of a method or of a `run`
pub record IsBodyOf (m : Method) (body : Body) : Type 0 where
  pub head : body.head ≡ over [] m.parameters
  pub answer : body.answer ≡ Some (answer_of m)
  pub speech : body.speech ≡ midway m
  pub result : body.result ≡ m.result
  pub after : body.after ≡ m.contract.after
  pub declared : ResultIsDeclared m.result

-- a run of what is left of a frame that waits for a call: it takes in the postcondition, with what it held before the call
pub record WaitsFor (p : Program) (flags : ℕ → Bool) (present : Heap) (c : Called) (f : Frame) (r : Run) : Type 0 where
  pub arguments : List Value
  pub rest : List Task
  pub is : f.tasks ≡ Resume c.class c.method c.this arguments ∷ rest
  pub begun : c.begun ≡ arguments_of c.method.parameters arguments
  pub called : IsBodyOf c.method c.body
  pub state : StateIs p flags present f r
  pub old : OldIs p present r.body.speech.old f.old r.past r.taken r.state.old
  pub body : BodyIs p present f.class f.begun r.body
  pub typed : FrameIsTyped present f r
  pub tasks : TasksSay (standing_in p f.class r.body r.outer) false r.scope r.given (answer_of c.method ∷ r.stack) rest
  pub outer : AllTakeTurns p flags present f.class r.body r.past (body_scene f) (opened false rest) r.outer
  -- what was held before the precondition was given up stood in the heap at the call
  pub waiting : Cells
  pub known : Contents
  pub settled : AreSettled r.taken waiting known
  pub stood : ContentsAgree c.past known
  pub never : RestNeverFails r.taken
      (λ maps. result_of (truly maps) c.method.result
      (λ v. inhale (truly maps) (bind_for c.this (arguments_of c.method.parameters arguments) v waiting) c.method.contract.after
      (ran (truly maps) p r.body false rest (v ∷ f.values))) r.state)

-- the frames below wait for the one above
abbrev pub AllWait : Program → (ℕ → Bool) → Heap → Called → List Frame → List Run → Type 0
AllWait p flags present c [] [] = Unit {0}
AllWait p flags present c [] (r ∷ rs) = ⊥
AllWait p flags present c (f ∷ fs) [] = ⊥
AllWait p flags present c (f ∷ fs) (r ∷ rs) = WaitsFor p flags present c f r × AllWait p flags present (called_of f r) fs rs

-- the frames of a thread have runs
abbrev pub AreRunsOf : Program → (ℕ → Bool) → Heap → List Frame → List Run → Type 0
AreRunsOf p flags present [] [] = Unit {0}
AreRunsOf p flags present [] (r ∷ rs) = ⊥
AreRunsOf p flags present (f ∷ fs) [] = ⊥
AreRunsOf p flags present (f ∷ fs) (r ∷ rs) = IsRunOf p flags present f r × AllWait p flags present (called_of f r) fs rs
