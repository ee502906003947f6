-- What the laws of this crate say.
use Rattle.std.specs.Prelude.{◌≡◌, ◌≤◌, ◌<◌, ℕ, Bool, false, nat_eq, Some, List, []}
use Rattle.pv_base.specs.declared.Name.{Name}
use Rattle.pv_picks.specs.Plain.Core.{Predicate, Method, Program}
use Rattle.pv_picks.specs.Machine.Frames.{Frame, only_now, outer_scene, settled}
use Rattle.account_formulas.specs.Growing.{HeapFits}
use Rattle.account_formulas.specs.Gaining.{PredicatesFit}
use Rattle.pv_ast.specs.declared.PvType.TheVariants.{Object}
use Rattle.pv_values.specs.declared.value.Value.{Value}
use Rattle.pv_values.specs.declared.value.Value.TheVariants as value
use Rattle.pv_picks.specs.Formulas.Heaps.{Heap}
use Rattle.pv_fraction.specs.Amounts.{whole}
use Rattle.pv_picks.specs.Judge.States.{Resource}
use Rattle.pv_picks.specs.Plain.Members.{predicate_named}
use Rattle.pv_picks.specs.Judge.UnitRuns.{OfMethod, OfFormula, judge_task}
use Rattle.pv_picks.specs.Typing.Heaps.{IsUnused}
use Rattle.pv_picks.specs.Typing.Expressions.{silent}
use Rattle.pv_picks.specs.Typing.Blocks.{types_of, over, MethodFits}
use Rattle.pv_picks.specs.Typing.Frames.{HasType}
use Rattle.core_trees.specs.Formulas.{AreDeclared, in_class, MethodSays}
use Rattle.account_formulas.specs.Runs.{truly, RestNeverFails}
use Rattle.account_formulas.specs.Good.{IsGood}
use Rattle.account_formulas.specs.Owning.{Amounts, Owns}
use Rattle.account_formulas.specs.Gaining.{AreTyped, nothing_taken}
use Rattle.account.specs.Scoped.{TasksSay}
use Rattle.account.specs.Frames as account
use Rattle.account.specs.Frames.{amounts_of, standing_in, IsRunOf}
use Rattle.account.specs.Going.{Goes, Begins}

-- local work keeps the run of a frame, with no more than it had
abbrev pub LocalWorkKeepsRuns : Type 0
LocalWorkKeepsRuns =
    (p : Program) (flags : ℕ → Bool) (heap : Heap) → HeapFits p heap → PredicatesFit p heap
    → (f : Frame) (r : account.Run) → IsRunOf p flags heap f r
    → TasksSay (standing_in p f.class r.body r.outer) r.inner r.scope r.given r.stack f.tasks
    → ((q : Resource) → amounts_of r q ≤ whole) → Goes p flags heap (settled f) r

-- where the judge never fails on the unit of a method, a call whose precondition is owned has a run
abbrev pub CallsBegin : Type 0
CallsBegin =
    (p : Program) (flags : ℕ → Bool) (heap : Heap) → HeapFits p heap → PredicatesFit p heap
    → (class : Name) (m : Method) → MethodSays (in_class p class) m → MethodFits p class m
    → IsGood (in_class p class) silent (over [] m.parameters) m.contract.before
    → RestNeverFails nothing_taken (λ maps. judge_task (truly maps) p (OfMethod class m))
    → (object : ℕ) (values : List Value) → nat_eq object 0 ≡ false → HasType heap (Object class) (value.Reference object)
    → AreTyped heap (types_of m.parameters) values
    → (R : Amounts) → ((q : Resource) → R q ≤ whole)
    → Owns p flags (only_now heap) (outer_scene object m.parameters values) m.contract.before R
    → Begins p flags heap class m object values R

-- where the judge never fails on the predicates of a program, each body can be taken in where nothing is held
abbrev pub PredicatesAreTaken : Type 0
PredicatesAreTaken =
    (p : Program) (heap : Heap) → ((n : ℕ) → heap.count < n → IsUnused heap n)
    → ((class name : Name) (d : Predicate) → predicate_named p class name ≡ Some d
    → AreDeclared d.parameters × IsGood (in_class p class) silent (over [] d.parameters) d.body)
    → ((class name : Name) (d : Predicate) → predicate_named p class name ≡ Some d
    → RestNeverFails nothing_taken (λ maps. judge_task (truly maps) p (OfFormula class d.parameters d.body)))
    → PredicatesFit p heap
