-- What a run has gained where a formula was taken in; and what is asked of predicates.
use Rattle.std.specs.Prelude.{◌≡◌, ◌+◌, ◌≤◌, ℕ, pos, Bool, Some, None, List, [], ◌∷◌}
use Rattle.pv_base.specs.declared.Name.{Name}
use Rattle.pv_ast.specs.declared.PvType.{PvType}
use Rattle.pv_ast.specs.declared.PvType.TheVariants.{Object}
use Rattle.pv_values.specs.declared.value.Value.{Value}
use Rattle.pv_values.specs.declared.value.Value.TheVariants as value
use Rattle.pv_fraction.specs.Amounts.{whole}
use Rattle.pv_picks.specs.Plain.Core.{Program, Predicate}
use Rattle.pv_picks.specs.Formulas.Values.{with_arguments, no_variables}
use Rattle.pv_picks.specs.Plain.Members.{predicate_named}
use Rattle.pv_picks.specs.Formulas.Heaps.{Heap}
use Rattle.pv_picks.specs.Formulas.Evaluation.{Scene}
use Rattle.pv_picks.specs.Formulas.Meeting.{Sight}
use Rattle.pv_picks.specs.Machine.Frames.{outer_scene}
use Rattle.pv_picks.specs.Judge.States.{Resource, Bind, State, scene_of, cells_of, amount_of, no_cells, empty_state}
use Rattle.pv_picks.specs.Judge.Settings.{Next}
use Rattle.pv_picks.specs.Judge.Inhaling.{inhale}
use Rattle.pv_picks.specs.Judge.Judging.{finish}
use Rattle.pv_picks.specs.Judge.Runs.{Judged, Maps}
use Rattle.pv_picks.specs.Typing.Expressions.{Home, silent}
use Rattle.pv_picks.specs.Typing.Blocks.{types_of, over}
use Rattle.pv_picks.specs.Typing.Frames.{HasType}
use Rattle.account_formulas.specs.Sights.{Contents, Sees, SceneFits}
use Rattle.account_formulas.specs.Runs.{Taken, truly, RestNeverFails, AreSettled, contents_of, GoesOnTo}
use Rattle.account_formulas.specs.Good.{IsGood}
use Rattle.account_formulas.specs.Owning.{Amounts, KeepsHeld, HasTrees}
use Rattle.account_formulas.specs.Growing.{AllBelow, StateFits, Place}

-- An inhale went on from t to another state. What is held there is no more than what was held, with T for its instances, and R
-- for what came.
pub record Gained (p : Program) (flags : ℕ → Bool) (present : Heap) (old : Contents) (Owning : Sight → Amounts → Type 0)
    (taken : Taken)
    (t : State) (T R : Amounts) (next : Maps → Next Judged)
    : Type 0 where
  pub then_taken : Taken
  pub after : State
  pub trees : Amounts
  pub never : RestNeverFails then_taken (λ maps. next maps after)
  pub goes : GoesOnTo taken then_taken
  pub scene : scene_of after ≡ scene_of t
  pub kept : after.old ≡ t.old
  pub fine : StateFits flags present then_taken after
  -- what was known stays so
  pub grows : (r : Resource) (v : Value) → contents_of taken (cells_of t) r ≡ Some v → contents_of then_taken (cells_of after) r
      ≡ Some v
  pub has_trees : HasTrees p flags present after.instances trees
  pub sum : (r : Resource) → amount_of after r + trees r ≤ amount_of t r + T r + R r
  -- and the formula stays owned where what it has is kept
  pub stable : (other : Sight) → Sees present (contents_of then_taken (cells_of after)) old other → KeepsHeld R present other.now
      → Owning other R

-- values have these types, one by one
abbrev pub AreTyped : Heap → List PvType → List Value → Type 0
AreTyped heap [] [] = Unit {0}
AreTyped heap [] (v ∷ vs) = ⊥
AreTyped heap (t ∷ ts) [] = ⊥
AreTyped heap (t ∷ ts) (v ∷ vs) = HasType heap t v × AreTyped heap ts vs

-- before the first pick for a range
abbrev pub nothing_taken : Taken
nothing_taken = record { steps = 0; maps = λ n index. pos 0 }

-- the state in which a predicate's body is taken in
abbrev pub body_state : ℕ → Predicate → List Value → List (PvType × ℕ) → State
body_state object d vs met =
    record empty_state { this = object; variables = with_arguments no_variables d.parameters vs; met = met }

-- what is asked of predicates: each body can be taken in where nothing is held
pub record PredicatesFit (p : Program) (heap : Heap) : Type 0 where
  pub good : (class name : Name) (d : Predicate) → predicate_named p class name ≡ Some d
      → IsGood (record { program = p; class = class; answer = None }) silent (over [] d.parameters) d.body
  pub fits : (class name : Name) (d : Predicate) → predicate_named p class name ≡ Some d
      → (object : ℕ) (vs : List Value) → HasType heap (Object class) (value.Reference object)
      → AreTyped heap (types_of d.parameters) vs
      → SceneFits (record { program = p; class = class; answer = None }) silent (over [] d.parameters) heap
      (outer_scene object d.parameters vs)
  pub never : (class name : Name) (d : Predicate) → predicate_named p class name ≡ Some d
      → (object : ℕ) (vs : List Value) → HasType heap (Object class) (value.Reference object)
      → AreTyped heap (types_of d.parameters) vs
      → (met : List (PvType × ℕ)) × AllBelow heap.count met
      × RestNeverFails nothing_taken (λ maps. inhale (truly maps)
      (record { scene = outer_scene object d.parameters vs; old = no_cells }) d.body
      (finish (truly maps)) (body_state object d vs met))

-- where a place stands, and what it sees
abbrev pub home_at : (p : Program) (present : Heap) → Place p present → Home
home_at p present c = record { program = p; class = c.class; answer = c.answer }

abbrev pub sight_at : (p : Program) (present : Heap) → Place p present → Sight
sight_at p present c = record { now = present; old = c.past }

-- a formula at a place, in a scene
abbrev pub bind_in : (p : Program) (present : Heap) → Place p present → Scene → Bind
bind_in p present c scene = record { scene = scene; old = c.old }

-- what is said of all that may be taken in
abbrev pub Gains : (p : Program) (flags : ℕ → Bool) (present : Heap) → Place p present → (Sight → Amounts → Type 0)
    → (Maps → Next Judged → Next Judged) → Amounts → Type 0
Gains p flags present c Owning run R =
    (taken : Taken) (t : State) → AreSettled taken c.old c.known → StateFits flags present taken t
    → (T : Amounts) → HasTrees p flags present t.instances T → ((r : Resource) → amount_of t r + T r + R r ≤ whole)
    → (next : Maps → Next Judged) → RestNeverFails taken (λ maps. run maps (next maps) t)
    → Gained p flags present c.known Owning taken t T R next
