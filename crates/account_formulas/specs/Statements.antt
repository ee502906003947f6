-- What the laws of this crate say.
use Rattle.std.specs.Prelude.{◌≡◌, ◌≤◌, ℕ, ℤ, pos, ◌+ℤ◌, Bool, true, false, IsTrue, int_le, Option, Some, None, List, []}
use Rattle.pv_base.specs.declared.Name.{Name}
use Rattle.pv_base.specs.declared.Span.{Span}
use Rattle.pv_ast.specs.declared.PvType.{PvType}
use Rattle.pv_ast.specs.declared.PvType.TheVariants.{Int}
use Rattle.pv_values.specs.declared.value.Value.{Value}
use Rattle.pv_values.specs.declared.value.Value.TheVariants as value
use Rattle.pv_values.specs.declared.value.Location.{Location}
use Rattle.pv_fraction.specs.Amounts.{whole}
use Rattle.pv_picks.specs.declared.check.Check.{Check}
use Rattle.pv_picks.specs.declared.unit.PvUnit.{PvUnit}
use Rattle.pv_picks.specs.Judge.UnitRuns.{task_of, judge_task}
use Rattle.pv_picks.specs.Plain.Core.{Expression, Formula, Items, Parameter, Program}
use Rattle.pv_picks.specs.Formulas.Values.{number_in, within, width}
use Rattle.pv_picks.specs.Formulas.Evaluation.{Scene}
use Rattle.pv_picks.specs.Formulas.Heaps.{Heap}
use Rattle.pv_picks.specs.Formulas.Meeting.{Sight, at, unmet, IsMet, sum_of_each, units_in}
use Rattle.pv_picks.specs.Judge.States.{Resource, Folded, State, cells_of, amount_of}
use Rattle.pv_picks.specs.Judge.Settings.{Next}
use Rattle.pv_picks.specs.Judge.Inhaling.{inhale}
use Rattle.pv_picks.specs.Judge.Exhaling.{Giving, exhale}
use Rattle.pv_picks.specs.Machine.Frames.{Frame, only_now, settled}
use Rattle.pv_picks.specs.Machine.Starts.{field_kind, is_plain}
use Rattle.pv_picks.specs.Judge.Judging.{finish}
use Rattle.pv_picks.specs.Judge.Runs.{Judged, Maps, Suspended}
use Rattle.pv_picks.specs.Verdicts.Grounds.{Never, NeverFails}
use Rattle.pv_picks.specs.Typing.Heaps.{IsTypedHeap}
use Rattle.pv_picks.specs.Typing.Expressions.{Home, Speech, type_in, Says}
use Rattle.pv_picks.specs.Typing.Frames.{HasType}
use Rattle.account_formulas.specs.Sights.{Lengths, LengthsAgree, ContentsAgree, ValuesFit, SceneFits, value_at}
use Rattle.account_formulas.specs.Runs.{Taken, truly, RestNeverFails, AreSettled}
use Rattle.account_formulas.specs.Good.{IsGood, AreGoodItems}
use Rattle.account_formulas.specs.Owning.{Amounts, Owns, OwnsItems, KeepsHeld, HasTrees}
use Rattle.account_formulas.specs.Growing.{StateFits, Place, HeapFits}
use Rattle.account_formulas.specs.Giving.{Holdings, Leaves, Gave, with_left}
use Rattle.account_formulas.specs.Gaining.{nothing_taken, PredicatesFit, home_at, sight_at, bind_in, Gains}
use Rattle.account_formulas.specs.Asking.{asked, AreWithinLengths}
use Rattle.account_formulas.specs.Still.{IsStill}
use Rattle.account_formulas.specs.Agreeing.{ScenesAgree}
use Rattle.account_formulas.specs.Forms.{SameItems, DealtItems}

-- a run that no evidence makes fail never fails where its operations are true arithmetic
abbrev pub NeverFailsTruly : Type 0
NeverFailsTruly = (run : Suspended) → Never run
    → RestNeverFails (record { steps = run.steps; maps = run.taken }) (λ maps. run.rest maps [])

-- so does the run of a unit from its beginning
abbrev pub UnitNeverFails : Type 0
UnitNeverFails = (p : Program) (unit : PvUnit) → NeverFails p unit
    → RestNeverFails nothing_taken (λ maps. judge_task (truly maps) p (task_of p unit))

-- what a run gives up, from the cells that it has, at a place
abbrev pub given_up : (p : Program) (present : Heap) → Place p present → Scene → State → Check → Option Span → Giving
given_up p present c scene s check statement =
    record { bind = bind_in p present c scene; before = cells_of s; check = check; statement = statement }

-- where giving up a formula never fails, what was held has room for what the formula owns and what is held after
abbrev pub ExhaleGives : Type 0
ExhaleGives = (p : Program) (flags : ℕ → Bool) (present : Heap) → HeapFits p present → (c : Place p present) (scene : Scene)
    → SceneFits (home_at p present c) c.speech c.scope present scene
    → (f : Formula) → IsGood (home_at p present c) c.speech c.scope f
    → (taken : Taken) (s : State) → AreSettled taken c.old c.known → StateFits flags present taken s
    → (T : Amounts) → HasTrees p flags present s.instances T
    → (check : Check) (statement : Option Span) (next : Maps → Next Judged)
    → RestNeverFails taken (λ maps. exhale (truly maps) (given_up p present c scene s check statement) f (next maps) s)
    → Gave p flags present taken (Owns p flags (sight_at p present c) scene f) s s.held T next

-- what is left of a state that fits its heap fits it
abbrev pub LeftFits : Type 0
LeftFits = (flags : ℕ → Bool) (present : Heap) (taken : Taken) (s : State) (H : Holdings) (I : List Folded) (l : Lengths)
    → StateFits flags present taken s → Leaves s.held H → LengthsAgree present l
    → StateFits flags present taken (with_left s H I l)

-- where what is held and what a formula owns are no more than the whole, taking it in isn't blocked, and what is then held is no
-- more than both
abbrev pub InhaleGains : Type 0
InhaleGains = (p : Program) (flags : ℕ → Bool) (present : Heap) → HeapFits p present → PredicatesFit p present
    → (c : Place p present) (scene : Scene) → SceneFits (home_at p present c) c.speech c.scope present scene
    → (f : Formula) → IsGood (home_at p present c) c.speech c.scope f
    → (R : Amounts) → Owns p flags (sight_at p present c) scene f R
    → Gains p flags present c (λ sight. Owns p flags sight scene f) (λ maps. inhale (truly maps) (bind_in p present c scene) f) R

-- what is owned stays owned over a change elsewhere: of a formula that can be taken in where nothing is held
abbrev pub OwnedStays : Type 0
OwnedStays = (p : Program) (flags : ℕ → Bool) (present : Heap) → HeapFits p present → PredicatesFit p present
    → (c : Place p present) (scene : Scene) → SceneFits (home_at p present c) c.speech c.scope present scene
    → (f : Formula) → IsGood (home_at p present c) c.speech c.scope f
    → (R : Amounts) → Owns p flags (sight_at p present c) scene f R → ((q : Resource) → R q ≤ whole)
    → (taken : Taken) (t : State) → AreSettled taken c.old c.known → StateFits flags present taken t
    → ((q : Resource) → amount_of t q ≡ 0) → t.instances ≡ []
    → RestNeverFails taken (λ maps. inhale (truly maps) (bind_in p present c scene) f (finish (truly maps)) t)
    → (other : Sight) → KeepsHeld R present other.now → ContentsAgree other.old c.known
    → ((array : ℕ) (n : ℤ) → present.length array ≡ Some n → other.now.length array ≡ Some n)
    → ((array : ℕ) (n : ℤ) → present.length array ≡ Some n → other.old.length array ≡ Some n)
    → Owns p flags other scene f R

-- what is owned is met
abbrev pub OwnedIsMet : Type 0
OwnedIsMet = (h : Home) (speech : Speech) (p : Program) (flags : ℕ → Bool) (xs : List Parameter) (sight : Sight) (scene : Scene)
    (f : Formula) → IsGood h speech xs f → (R : Amounts) → Owns p flags sight scene f R → IsMet sight scene f

-- what is owned in a scene is owned in each that agrees with it on the scope, and in another old heap where `\old` isn't spoken
-- of
abbrev pub OwnedAlike : Type 0
OwnedAlike = (h : Home) (speech : Speech) (flags : ℕ → Bool) (one two : Sight) → two.now ≡ one.now
    → (IsTrue speech.old → two.old ≡ one.old)
    → (xs : List Parameter) (a b : Scene) → ScenesAgree speech xs a b → (f : Formula) → IsGood h speech xs f
    → (R : Amounts) → Owns h.program flags one a f R → Owns h.program flags two b f R

-- a formula without `\old` is met alike in all old states
abbrev pub MetAlike : Type 0
MetAlike = (h : Home) (speech : Speech) → speech.old ≡ false
    → (now one other : Heap) (xs : List Parameter) (scene : Scene) (f : Formula)
    → IsGood h speech xs f
    → unmet (record { now = now; old = one }) scene f ≡ unmet (record { now = now; old = other }) scene f

-- what items own at every position is dealt to the positions
abbrev pub ItemsDealt : Type 0
ItemsDealt = (p : Program) (flags : ℕ → Bool) (sight : Sight) (scene : Scene) (name : Name) (low high : ℤ) (items : Items)
    (R : Amounts)
    → OwnsItems p flags sight scene name low high items R → DealtItems p flags sight scene name low high items R

-- what items own at each position is gathered
abbrev pub ItemsGathered : Type 0
ItemsGathered = (p : Program) (flags : ℕ → Bool) (sight : Sight) (scene : Scene) (name : Name) (low high : ℤ) (items : Items)
    (shares : ℤ → Amounts)
    → ((i : ℤ) → within low high i ≡ true → OwnsItems p flags sight scene name i (i +ℤ pos 1) items (shares i))
    → OwnsItems p flags sight scene name low high items (λ q. sum_of_each (λ i. shares i q) low (width low high))

-- a value of whole numbers is one
abbrev pub NumbersStand : Home → Speech → List Parameter → Sight → Scene → Type 0
NumbersStand h speech xs sight scene =
    (e : Expression) → Says h speech xs e Int → (v : Value) → value_at sight scene e ≡ Some v → v ≡ value.Number (number_in v)

-- what a formula owns at a position, its items own there
abbrev pub OwnsAsItems : Type 0
OwnsAsItems = (h : Home) (speech : Speech) (flags : ℕ → Bool) (sight : Sight) (xs : List Parameter) (name : Name)
    → type_in xs name ≡ None → (scene : Scene) → NumbersStand h speech xs sight scene
    → (i : ℤ) (f : Formula) (items : Items) → SameItems name f items → AreGoodItems h speech xs name items
    → (R : Amounts) → Owns h.program flags sight (at scene name i) f R
    → OwnsItems h.program flags sight scene name i (i +ℤ pos 1) items R

-- what items own at a position, their formula owns there
abbrev pub OwnsAsFormula : Type 0
OwnsAsFormula = (h : Home) (speech : Speech) (flags : ℕ → Bool) (sight : Sight) (xs : List Parameter) (name : Name)
    → type_in xs name ≡ None → (scene : Scene) → NumbersStand h speech xs sight scene
    → (i : ℤ) (f : Formula) (items : Items) → SameItems name f items → AreGoodItems h speech xs name items
    → (R : Amounts) → OwnsItems h.program flags sight scene name i (i +ℤ pos 1) items R
    → Owns h.program flags sight (at scene name i) f R

-- a well typed expression that has a value, now or in the old state, has one of its type
abbrev pub ValuesAreTyped : Type 0
ValuesAreTyped = (h : Home) (speech : Speech) (xs : List Parameter) (present : Heap) (scene : Scene)
    → SceneFits h speech xs present scene
    → (now old : Heap) → ValuesFit (field_kind h.program) present now → ValuesFit (field_kind h.program) present old
    → (e : Expression) (type : PvType) → Says h speech xs e type
    → (v : Value) → value_at (record { now = now; old = old }) scene e ≡ Some v → HasType present type v

-- in a scene that fits a heap, a value of whole numbers is one
abbrev pub NumbersAre : Type 0
NumbersAre = (h : Home) (speech : Speech) (xs : List Parameter) (present : Heap) (scene : Scene)
    → SceneFits h speech xs present scene
    → (now old : Heap) → ValuesFit (field_kind h.program) present now → ValuesFit (field_kind h.program) present old
    → NumbersStand h speech xs (record { now = now; old = old }) scene

-- local work keeps what a frame began with
abbrev pub LocalWorkIsStill : Type 0
LocalWorkIsStill = (f : Frame) → IsStill f (settled f)

-- a well typed heap whose lengths aren't negative fits
abbrev pub TypedHeapFits : Type 0
TypedHeapFits = (p : Program) (heap : Heap) → IsTypedHeap (field_kind p) heap
    → ((array : ℕ) (n : ℤ) → heap.length array ≡ Some n → int_le (pos 0) n ≡ true) → HeapFits p heap

-- where a plain formula is met in a well typed heap, amounts that have what it asks for at each location suffice for it
abbrev pub MetIsOwned : Type 0
MetIsOwned = (h : Home) (speech : Speech) (flags : ℕ → Bool) (heap : Heap) → IsTypedHeap (field_kind h.program) heap
    → AreWithinLengths heap → (xs : List Parameter) (scene : Scene) → SceneFits h speech xs heap scene
    → (f : Formula) → IsGood h speech xs f → is_plain f ≡ true → IsMet (only_now heap) scene f
    → (units : Location → ℕ) → ((spot : Location) → units_in (only_now heap) scene spot f ≤ units spot)
    → Owns h.program flags (only_now heap) scene f (asked heap units)
