-- Where the judge doesn't fail on a predicate, its body can be taken in where nothing is held.
use Rattle.std.proofs.Common.{◌<◌, ℕ, List, [], ◌∷◌}
use Rattle.std.proofs.lemmas.Option.{none-some}
use Rattle.pv_ast.specs.declared.PvType.{PvType}
use Rattle.pv_ast.specs.declared.PvType.TheVariants.{Object}
use Rattle.pv_values.specs.declared.value.Value.{Value}
use Rattle.pv_values.specs.declared.value.Value.TheVariants as value
use Rattle.pv_picks.specs.Plain.Core.{Parameter}
use Rattle.pv_picks.specs.Formulas.Values.{Variables, with_variable, with_arguments, no_variables}
use Rattle.pv_picks.specs.Formulas.Heaps.{Heap}
use Rattle.pv_picks.specs.Machine.Frames.{outer_scene}
use Rattle.pv_picks.specs.Judge.States.{State, empty_state}
use Rattle.pv_picks.specs.Judge.Settings.{Next}
use Rattle.pv_picks.specs.Judge.Runs.{Judged, Maps}
use Rattle.pv_picks.specs.Judge.Judging.{pick_variables}
use Rattle.pv_picks.specs.Typing.Heaps.{IsUnused}
use Rattle.pv_picks.specs.Typing.Expressions.{Home, silent}
use Rattle.pv_picks.specs.Typing.Blocks.{types_of, over}
use Rattle.pv_picks.specs.Typing.Frames.{HasType, VariablesFit}
use Rattle.machine_laws.proofs.Local.{new-fits}
use Rattle.core_trees.specs.Formulas.{AreDeclared, in_class}
use Rattle.account_formulas.specs.Sights.{SceneFits}
use Rattle.account_formulas.specs.Runs.{Taken, truly, RestNeverFails}
use Rattle.account_formulas.specs.Growing.{AllBelow}
use Rattle.account_formulas.specs.Gaining.{AreTyped, nothing_taken}
use Rattle.account_formulas.proofs.Picking.{picking}
use Rattle.account.specs.Statements.{PredicatesAreTaken}
use Rattle.account.specs.Grounds.{PredicatesAreTakenIn}
use Rattle.account.proofs.Goodness.{picked, good_formula}

-- a state with nothing but an object, variables and references that were met
abbrev pub begun_with : ℕ → Variables → List (PvType × ℕ) → State
begun_with object variables met = record empty_state { this = object; variables = variables; met = met }

-- each parameter gets its argument
pub picking_all : (heap : Heap) → ((n : ℕ) → heap.count < n → IsUnused heap n) → (taken : Taken) (object : ℕ)
    (ps : List Parameter) (vs : List Value) → AreTyped heap (types_of ps) vs → AreDeclared ps → (variables : Variables)
    (met : List (PvType × ℕ)) → AllBelow heap.count met → (next : Maps → Next Judged) (G : Type 0)
    → ((more : List (PvType × ℕ)) → AllBelow heap.count more
    → RestNeverFails taken (λ maps. next maps (begun_with object (with_arguments variables ps vs) more)) → G)
    → RestNeverFails taken (λ maps. pick_variables (truly maps) ps (next maps) (begun_with object variables met)) → G
picking_all heap beyond taken object [] [] typed declared variables met low next G found never = found met low never
picking_all heap beyond taken object [] (v ∷ vs) typed declared variables met low next G found never = absurd typed
picking_all heap beyond taken object (x ∷ ps) [] typed declared variables met low next G found never = absurd typed
picking_all heap beyond taken object (x ∷ ps) (v ∷ vs) typed declared variables met low next G found never =
    picking taken heap beyond x.1 v typed.0 (picked x.1 declared.0) _ (begun_with object variables met) G
    (λ more b n. picking_all heap beyond taken object ps vs typed.1 declared.1 _ more (b low) next G found n) never

arguments_fit : (heap : Heap) (xs : List Parameter) (variables : Variables) (ps : List Parameter) (vs : List Value)
    → VariablesFit heap xs variables → AreTyped heap (types_of ps) vs
    → VariablesFit heap (over xs ps) (with_arguments variables ps vs)
arguments_fit heap xs variables [] [] fits typed = fits
arguments_fit heap xs variables [] (v ∷ vs) fits typed = absurd typed
arguments_fit heap xs variables (x ∷ ps) [] fits typed = absurd typed
arguments_fit heap xs variables (x ∷ ps) (v ∷ vs) fits typed =
    arguments_fit heap (x ∷ xs) (with_variable variables x.0 v) ps vs
    (new-fits heap xs variables x.0 x.1 v typed.0 fits) typed.1

-- arguments fit the scope of their parameters
pub variables_fit : (heap : Heap) (ps : List Parameter) (vs : List Value) → AreTyped heap (types_of ps) vs
    → VariablesFit heap (over [] ps) (with_arguments no_variables ps vs)
variables_fit heap ps vs typed = arguments_fit heap [] no_variables ps vs (λ n t is. absurd (none-some t is)) typed

-- so does the scene of an object and arguments
pub outer_fits : (h : Home) (heap : Heap) (ps : List Parameter) (object : ℕ) (vs : List Value)
    → HasType heap (Object h.class) (value.Reference object)
    → AreTyped heap (types_of ps) vs → SceneFits h silent (over [] ps) heap (outer_scene object ps vs)
outer_fits h heap ps object vs this typed = record {
  this = this;
  variables = variables_fit heap ps vs typed;
  result = λ t is. absurd (none-some t is);
}

-- where the judge never fails on the predicates of a program, each body can be taken in where nothing is held
pub predicates_fit : PredicatesAreTaken
predicates_fit p heap beyond good never = record {
  good = λ class name d is. (good class name d is).1;
  fits = λ class name d is object vs this typed. outer_fits (in_class p class) heap d.parameters object vs this typed;
  never = λ class name d is object vs this typed.
      picking nothing_taken heap beyond (Object class) (value.Reference object) this tt _ empty_state _
      (λ met b n. picking_all heap beyond nothing_taken object d.parameters vs typed (good class name d is).0 no_variables met
      (b tt) _ _ (λ more low n. (more, low, n)) n) (never class name d is);
}

pub predicates_taken_in : PredicatesAreTakenIn
predicates_taken_in p verified heap fits = predicates_fit p heap fits.beyond
    (λ class name d is. (
      (verified.typed.predicates class name d is).0,
      good_formula (in_class p class) silent (over [] d.parameters) d.body (verified.typed.predicates class name d is).1,
    ))
    (λ class name d is. verified.predicates class name d is)
