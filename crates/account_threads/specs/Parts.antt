-- What is asked of lock invariants, as of predicates, and of each `run`.
use Rattle.std.specs.Prelude.{◌≡◌, ℕ, Some, None, List, []}
use Rattle.pv_base.specs.declared.Name.{Name}
use Rattle.pv_ast.specs.declared.PvType.{PvType}
use Rattle.pv_ast.specs.declared.PvType.TheVariants.{Object}
use Rattle.pv_values.specs.declared.value.Value.TheVariants as value
use Rattle.pv_picks.specs.Plain.Core.{Formula, Method, Program}
use Rattle.pv_picks.specs.Plain.Members.{invariant_of, run_of}
use Rattle.pv_picks.specs.Formulas.Heaps.{Heap}
use Rattle.pv_picks.specs.Judge.States.{State, no_cells, empty_state}
use Rattle.pv_picks.specs.Judge.Inhaling.{inhale}
use Rattle.pv_picks.specs.Machine.Frames.{outer_scene}
use Rattle.pv_picks.specs.Judge.Judging.{finish}
use Rattle.pv_picks.specs.Typing.Expressions.{silent}
use Rattle.pv_picks.specs.Typing.Frames.{HasType}
use Rattle.core_trees.specs.Formulas.{in_class}
use Rattle.account_formulas.specs.Runs.{truly, RestNeverFails}
use Rattle.account_formulas.specs.Good.{IsGood}
use Rattle.account_formulas.specs.Growing.{AllBelow}
use Rattle.account_formulas.specs.Gaining.{nothing_taken}

-- the state in which an invariant is taken in, where nothing is held
abbrev pub object_state : ℕ → List (PvType × ℕ) → State
object_state object met = record empty_state { this = object; met = met }

-- what is asked of invariants: each can be taken in where nothing is held
pub record InvariantsFit (p : Program) (heap : Heap) : Type 0 where
  pub good : (class : Name) (i : Formula) → invariant_of p class ≡ Some i → IsGood (in_class p class) silent [] i
  pub never : (class : Name) (i : Formula) → invariant_of p class ≡ Some i
      → (object : ℕ) → HasType heap (Object class) (value.Reference object)
      → (met : List (PvType × ℕ)) × AllBelow heap.count met
      × RestNeverFails nothing_taken (λ maps. inhale (truly maps)
      (record { scene = outer_scene object [] []; old = no_cells }) i (finish (truly maps)) (object_state object met))

-- what is asked of each `run`: it has no parameters and no result, and its contract speaks of its object alone
pub record RunsFit (p : Program) : Type 0 where
  pub parameters : (class : Name) (m : Method) → run_of p class ≡ Some m → m.parameters ≡ []
  pub result : (class : Name) (m : Method) → run_of p class ≡ Some m → m.result ≡ None
  pub before : (class : Name) (m : Method) → run_of p class ≡ Some m → IsGood (in_class p class) silent [] m.contract.before
  pub after : (class : Name) (m : Method) → run_of p class ≡ Some m → IsGood (in_class p class) silent [] m.contract.after
