-- In a typed world each next label keeps to the kinds.
use Rattle.std.proofs.Common.{◌≡◌, inl, inr, ℕ, zero, suc, ℤ, Bool, Some, List, [], ◌∷◌, refl, sym, subst, ◌∙◌}
use Rattle.std.specs.Prelude.{drop}
use Rattle.std.proofs.lemmas.Option.{none-some, same_Some}
use Rattle.pv_base.specs.declared.Name.{Name}
use Rattle.pv_ast.specs.declared.PvType.{PvType}
use Rattle.pv_ast.specs.declared.PvType.TheVariants.{Int, Truth, Object}
use Rattle.pv_values.specs.declared.value.Value.{Value}
use Rattle.pv_values.specs.declared.value.Value.TheVariants as value
use Rattle.pv_values.specs.declared.value.Location.TheVariants as location
use Rattle.pv_values.specs.Typing.{is_number, is_truth}
use Rattle.pv_picks.specs.Plain.Core.{Action, Fork, Join', Lock, Unlock, Commit, Parameter, Program}
use Rattle.pv_picks.specs.Formulas.Heaps.{Heap}
use Rattle.pv_picks.specs.Formulas.Values.{number_in, reference_in, array_of}
use Rattle.pv_picks.specs.Plain.Members.{field_type}
use Rattle.pv_picks.specs.Machine.Starts.{field_kind}
use Rattle.pv_picks.specs.Machine.Tasks.{FieldOf, ElementOf, Step, AtRead, AtWrite, AtLength, AtNewObject, AtNewArray, AtAssert, AtFold, AtHead, AtCall, AtAction, AtOpen, AtClose, AtArrive, AtLeave, AtSend, AtReceive, Task, Evaluate, EvaluateAll, Combine, Choose, Branch, Turn, Put, Drop, Give, Unfolded, Run, Stand, Resume}
use Rattle.pv_picks.specs.Machine.Frames.{Frame, top, second}
use Rattle.pv_picks.specs.Machine.Worlds.{Role, Entry, RunOf, MemberOf, World, next, label_of_step, label_of_action, label_of_end, label_of_frame, label_of_frames, position_of}
use Rattle.pv_picks.specs.Typing.Heaps.{HoldsOnly, HasKindOf, IsTypedHeap, FitsAt, KeepsKinds}
use Rattle.pv_picks.specs.Typing.Expressions.{Home, IsElement}
use Rattle.pv_picks.specs.Typing.Tasks.{StepFits, writes_field, writes_element, makes_array, TasksFit, stands}
use Rattle.pv_picks.specs.Typing.Frames.{HasType, ValuesFit}
use Rattle.pv_picks.specs.Typing.Worlds.{home, FramesFit, WorldFits}
use Rattle.machine_laws.proofs.Local.{top-fits, rest-fits}

-- a value of a field's type has the kind of the field
pub has-kind-of : (p : Program) (heap : Heap) (class name : Name) (type : PvType) (v : Value)
    → field_type p class name ≡ Some type
    → HasType heap type v → HasKindOf heap (field_kind p class name) v
has-kind-of p heap class name type v e h = rw e h

field-place : (p : Program) (heap : Heap) (class name : Name) (type : PvType) (object v : Value) → IsTypedHeap (field_kind p) heap
    → field_type p class name ≡ Some type → HasType heap (Object class) object → HasType heap type v
    → FitsAt (field_kind p) heap (location.Field (reference_in object) name) v
field-place p heap class name type (value.Number z) v typed e o h other c = absurd o
field-place p heap class name type (value.Truth b) v typed e o h other c = absurd o
field-place p heap class name type (value.Reference zero) v typed e o h other c =
    absurd (none-some other (sym typed.null.class ∙ c))
field-place p heap class name type (value.Reference (suc n)) v typed e o h other c =
    subst (λ x. HasKindOf heap (field_kind p x name) v) (same_Some class other (sym o ∙ c))
    (has-kind-of p heap class name type v e h)

-- null has no elements
null_holds : (p : Program) (heap : Heap) (test : Value → Bool) → IsTypedHeap (field_kind p) heap → HoldsOnly test heap 0
null_holds p heap test typed index v e = absurd (none-some v (sym (typed.null.elements index) ∙ e))

pub numbers-place : (p : Program) (heap : Heap) (array : Value) → IsTypedHeap (field_kind p) heap
    → HasType heap (array_of Int) array
    → HoldsOnly is_number heap (reference_in array)
numbers-place p heap (value.Number z) typed a = absurd a
numbers-place p heap (value.Truth b) typed a = absurd a
numbers-place p heap (value.Reference zero) typed a = null_holds p heap is_number typed
numbers-place p heap (value.Reference (suc n)) typed a = a.1

pub truths-place : (p : Program) (heap : Heap) (array : Value) → IsTypedHeap (field_kind p) heap
    → HasType heap (array_of Truth) array
    → HoldsOnly is_truth heap (reference_in array)
truths-place p heap (value.Number z) typed a = absurd a
truths-place p heap (value.Truth b) typed a = absurd a
truths-place p heap (value.Reference zero) typed a = null_holds p heap is_truth typed
truths-place p heap (value.Reference (suc n)) typed a = a.1

element-place : (p : Program) (heap : Heap) (type : PvType) (array v : Value) (index : ℤ) → IsTypedHeap (field_kind p) heap
    → IsElement type
    → HasType heap (array_of type) array → HasType heap type v
    → FitsAt (field_kind p) heap (location.Cell (reference_in array) index) v
element-place p heap type array v index typed (inl e) a h =
    inl (numbers-place p heap array typed (subst (λ t. HasType heap (array_of t) array) e a), subst (λ t. HasType heap t v) e h)
element-place p heap type array v index typed (inr e) a h =
    inr (truths-place p heap array typed (subst (λ t. HasType heap (array_of t) array) e a), subst (λ t. HasType heap t v) e h)

pub second-one : (vs : List Value) → second vs ≡ top (drop 1 vs)
second-one [] = refl
second-one (v ∷ vs) = refl

action-fits : (p : Program) (heap : Heap) (action : Action) (n : ℕ)
    → KeepsKinds (field_kind p) heap (Some (label_of_action action n))
action-fits p heap Fork n = tt
action-fits p heap Join' n = tt
action-fits p heap Lock n = tt
action-fits p heap Unlock n = tt
action-fits p heap Commit n = tt

pub step-fits : (h : Home) (heap : Heap) (xs : List Parameter) {stack after : List PvType} (step : Step) (vs : List Value)
    (position : ℤ)
    → IsTypedHeap (field_kind h.program) heap → ValuesFit heap stack vs → StepFits h xs stack step after
    → KeepsKinds (field_kind h.program) heap (Some (label_of_step step vs position))
step-fits h heap xs (AtRead spot span) vs position typed v s = tt
step-fits h heap xs (AtWrite (FieldOf class name) span) vs position typed v (writes_field {stack = stack} {type = type} e) =
    field-place h.program heap class name type (top (drop 1 vs)) (top vs) typed e
    (top-fits heap (Object class) stack (drop 1 vs) (rest-fits heap type (Object class ∷ stack) vs v))
    (top-fits heap type (Object class ∷ stack) vs v)
step-fits h heap xs (AtWrite (ElementOf type) span) vs position typed v (writes_element {stack = stack} {array = array} e l) =
    let rest = rest-fits heap type (Int ∷ array ∷ stack) vs v in
    let last = rest-fits heap Int (array ∷ stack) (drop 1 vs) rest in
    let a : HasType heap array (second (drop 1 vs)) =
    subst (λ u. HasType heap array u) (sym (second-one (drop 1 vs))) (top-fits heap array stack (drop 1 (drop 1 vs)) last) in
    element-place h.program heap type (second (drop 1 vs)) (top vs) (number_in (top (drop 1 vs))) typed l
    (subst (λ t. HasType heap t (second (drop 1 vs))) e a) (top-fits heap type (Int ∷ array ∷ stack) vs v)
step-fits h heap xs (AtLength type span) vs position typed v s = tt
step-fits h heap xs (AtNewObject class) vs position typed v s = tt
step-fits h heap xs (AtNewArray type span) vs position typed v (makes_array e l) = l
step-fits h heap xs (AtAssert formula) vs position typed v s = tt
step-fits h heap xs (AtFold class predicate count span) vs position typed v s = tt
step-fits h heap xs (AtHead named loop) vs position typed v s = tt
step-fits h heap xs (AtCall class method count span) vs position typed v s = tt
step-fits h heap xs (AtAction action class span) vs position typed v s = action-fits h.program heap action (reference_in (top vs))
step-fits h heap xs (AtOpen team body) vs position typed v s = tt
step-fits h heap xs (AtClose block) vs position typed v s = tt
step-fits h heap xs (AtArrive barrier span) vs position typed v s = tt
step-fits h heap xs (AtLeave barrier span) vs position typed v s = tt
step-fits h heap xs (AtSend message span) vs position typed v s = tt
step-fits h heap xs (AtReceive message span) vs position typed v s = tt

end-fits : (p : Program) (heap : Heap) (role : Role) (below : List Frame)
    → KeepsKinds (field_kind p) heap (Some (label_of_end role below))
end-fits p heap Entry below = tt
end-fits p heap (RunOf object) below = tt
end-fits p heap (MemberOf block position) [] = tt
end-fits p heap (MemberOf block position) (f ∷ below) = tt

tasks-fit : (h : Home) (heap : Heap) (xs : List Parameter) {given : Bool} {stack : List PvType} (role : Role) (f : Frame)
    (ts : List Task) (below : List Frame)
    → IsTypedHeap (field_kind h.program) heap → ValuesFit heap stack f.values → TasksFit h xs given stack ts
    → KeepsKinds (field_kind h.program) heap (label_of_frame role f ts below)
tasks-fit h heap xs role f [] below typed v d = end-fits h.program heap role below
tasks-fit h heap xs role f (Stand step ∷ ts) below typed v (stands after s d) =
    step-fits h heap xs step f.values (position_of role) typed v s
tasks-fit h heap xs role f (Evaluate e ∷ ts) below typed v d = tt
tasks-fit h heap xs role f (EvaluateAll es ∷ ts) below typed v d = tt
tasks-fit h heap xs role f (Combine combination ∷ ts) below typed v d = tt
tasks-fit h heap xs role f (Choose a b ∷ ts) below typed v d = tt
tasks-fit h heap xs role f (Branch a b ∷ ts) below typed v d = tt
tasks-fit h heap xs role f (Turn loop ∷ ts) below typed v d = tt
tasks-fit h heap xs role f (Put name ∷ ts) below typed v d = tt
tasks-fit h heap xs role f (Drop ∷ ts) below typed v d = tt
tasks-fit h heap xs role f (Give ∷ ts) below typed v d = tt
tasks-fit h heap xs role f (Unfolded class predicate count span ∷ ts) below typed v d = tt
tasks-fit h heap xs role f (Run b ∷ ts) below typed v d = tt
tasks-fit h heap xs role f (Resume class method object arguments ∷ ts) below typed v d = tt

frames-fit : (p : Program) (heap : Heap) (role : Role) (fs : List Frame) → IsTypedHeap (field_kind p) heap → FramesFit p heap fs
    → KeepsKinds (field_kind p) heap (label_of_frames role fs)
frames-fit p heap role [] typed t = tt
frames-fit p heap role (f ∷ below) typed t =
    tasks-fit (home p f.class t.0) heap t.1.scope role f f.tasks below typed t.1.values t.1.tasks

-- what a thread of a typed world does next keeps to the kinds
pub next-fits : (p : Program) (w : World) → WorldFits p w → (i : ℕ) → KeepsKinds (field_kind p) w.heap (next (w.threads i))
next-fits p w t i = frames-fit p w.heap (w.threads i).role (w.threads i).frames t.heap (t.threads i)
