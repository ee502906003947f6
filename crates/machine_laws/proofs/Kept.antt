-- What is typed in a heap is typed in a heap that leaves each value its kind; and frames at their first step are typed.
use Rattle.std.proofs.Common.{◌≡◌, inl, inr, ℕ, zero, suc, ℤ, pos, Bool, true, false, ◌||◌, cond, Option, Some, None, IsSome, List, [], ◌∷◌, ◌++◌, length, nat_eq, refl, sym, subst, ◌∙◌, ap, arith}
use Rattle.std.specs.Prelude.{drop, take, reverse, is_none, unwrap_or, option_map}
use Rattle.std.proofs.lemmas.List.{reverse-append}
use Rattle.std.proofs.lemmas.Bool.Decides.{nat_tests}
use Rattle.std.proofs.lemmas.Option.{none-some, same_Some}
use Rattle.pv_base.specs.declared.Name.{Name}
use Rattle.pv_ast.specs.declared.PvType.{PvType}
use Rattle.pv_ast.specs.declared.PvType.TheVariants.{Int, Truth, Object, Null}
use Rattle.pv_values.specs.declared.value.Value.{Value}
use Rattle.pv_values.specs.declared.value.Value.TheVariants as value
use Rattle.pv_values.specs.declared.value.Location.TheVariants as location
use Rattle.pv_values.specs.Typing.{Kind, is_number, is_truth}
use Rattle.pv_picks.specs.Plain.Core.{Parameter, Method, Program}
use Rattle.pv_picks.specs.Formulas.Heaps.{Heap, with_array}
use Rattle.pv_picks.specs.Formulas.Values.{Variables, reference_in, array_of, default_of, with_variable, with_arguments, no_variables}
use Rattle.pv_picks.specs.Plain.Members.{field_type}
use Rattle.pv_picks.specs.Machine.Starts.{field_kind, kind_of}
use Rattle.pv_picks.specs.Machine.Tasks.{Run}
use Rattle.pv_picks.specs.Machine.Measures.{size_of_tasks}
use Rattle.pv_picks.specs.Machine.Frames.{Frame, no_value, top, kept, settled, entered}
use Rattle.pv_picks.specs.Machine.Worlds.{Thread}
use Rattle.pv_picks.specs.Typing.Heaps.{HasKindOf, IsArrayOf, IsTypedHeap}
use Rattle.pv_picks.specs.Typing.Expressions.{Home, answer_of, IsElement, onto}
use Rattle.pv_picks.specs.Typing.Blocks.{types_of, gives, over, MethodFits}
use Rattle.pv_picks.specs.Typing.Tasks.{done, runs}
use Rattle.pv_picks.specs.Typing.Frames.{HasType, ValuesFit, VariablesFit, ResultFits, FrameFits}
use Rattle.pv_picks.specs.Typing.Worlds.{home, BelowFits, FramesFit}
use Rattle.machine_laws.proofs.Local.{under-fits, new-fits, work-fits}
use Rattle.machine_laws.proofs.Labels.{numbers-place, truths-place}

abbrev pub Keeps : Heap → Heap → Type 0
Keeps old new = (kind : Option Kind) (v : Value) → HasKindOf old kind v → HasKindOf new kind v

pub same-kept : (heap : Heap) → Keeps heap heap
same-kept heap kind v h = h

pub type-kept : (old new : Heap) → Keeps old new → (type : PvType) (v : Value) → HasType old type v → HasType new type v
type-kept old new k type v h = k (Some (kind_of type)) v h

pub values-kept : (old new : Heap) → Keeps old new → (types : List PvType) (vs : List Value) → ValuesFit old types vs
    → ValuesFit new types vs
values-kept old new k [] vs h = tt
values-kept old new k (type ∷ types) [] h = absurd h
values-kept old new k (type ∷ types) (v ∷ vs) h = (type-kept old new k type v h.0, values-kept old new k types vs h.1)

pub frame-kept : (old new : Heap) → Keeps old new → (h : Home) (f : Frame) → FrameFits h old f → FrameFits h new f
frame-kept old new k h f t = record {
  scope = t.scope;
  given = t.given;
  stack = t.stack;
  class = t.class;
  this = type-kept old new k (Object h.class) (value.Reference f.this) t.this;
  variables = λ name type e. type-kept old new k type (f.variables name.0) (t.variables name type e);
  result = λ g type e. type-kept old new k type f.result (t.result g type e);
  values = values-kept old new k t.stack f.values t.values;
  tasks = t.tasks;
}

pub below-kept : (old new : Heap) → Keeps old new → (p : Program) (answer : Option PvType) (fs : List Frame)
    → BelowFits p old answer fs
    → BelowFits p new answer fs
below-kept old new k p answer [] t = tt
below-kept old new k p answer (f ∷ fs) t = (
  t.0,
  record {
    fits = frame-kept old new k (home p f.class t.0) f t.1.fits;
    class = t.1.class;
    method = t.1.method;
    object = t.1.object;
    arguments = t.1.arguments;
    rest = t.1.rest;
    waits = t.1.waits;
    called = t.1.called;
  },
  below-kept old new k p t.0 fs t.2,
)

pub frames-kept : (old new : Heap) → Keeps old new → (p : Program) (fs : List Frame) → FramesFit p old fs → FramesFit p new fs
frames-kept old new k p [] t = tt
frames-kept old new k p (f ∷ fs) t = (t.0, frame-kept old new k (home p f.class t.0) f t.1, below-kept old new k p t.0 fs t.2)

-- a frame after its local work
pub rested : (p : Program) (class : Name) (answer : Option PvType) (heap : Heap) (f : Frame)
    → FrameFits (home p class answer) heap f
    → FrameFits (home p (settled f).class answer) heap (settled f)
rested p class answer heap f t =
    let s : FrameFits (home p class answer) heap (settled f) = work-fits (home p class answer) heap (size_of_tasks f.tasks) f t in
    subst (λ c. FrameFits (home p c answer) heap (settled f)) (sym s.class) s

pub chosen-fits : (p : Program) (heap : Heap) (b : Bool) (t u : Thread) → FramesFit p heap t.frames → FramesFit p heap u.frames
    → FramesFit p heap (cond b t u).frames
chosen-fits p heap true t u h k = h
chosen-fits p heap false t u h k = k

-- What is read.

pub read-field : (p : Program) (heap : Heap) (class name : Name) (type : PvType) (object v : Value)
    → IsTypedHeap (field_kind p) heap
    → field_type p class name ≡ Some type → HasType heap (Object class) object
    → heap.value (location.Field (reference_in object) name) ≡ Some v
    → HasType heap type v
read-field p heap class name type (value.Number z) v typed e o r = absurd o
read-field p heap class name type (value.Truth b) v typed e o r = absurd o
read-field p heap class name type (value.Reference zero) v typed e o r = absurd (none-some v (sym (typed.null.fields name) ∙ r))
read-field p heap class name type (value.Reference (suc n)) v typed e o r =
    let k : HasKindOf heap (field_kind p class name) v = typed.fields (suc n) class name v o r in
    subst (λ x. HasKindOf heap (option_map kind_of x) v) e k

pub read-element : (p : Program) (heap : Heap) (type : PvType) (array v : Value) (index : ℤ) → IsTypedHeap (field_kind p) heap
    → IsElement type
    → HasType heap (array_of type) array → heap.value (location.Cell (reference_in array) index) ≡ Some v → HasType heap type v
read-element p heap type array v index typed (inl e) a r =
    subst (λ t. HasType heap t v) (sym e)
    (numbers-place p heap array typed (subst (λ t. HasType heap (array_of t) array) e a) index v r)
read-element p heap type array v index typed (inr e) a r =
    subst (λ t. HasType heap t v) (sym e)
    (truths-place p heap array typed (subst (λ t. HasType heap (array_of t) array) e a) index v r)

-- New objects and arrays.

nat_same : (n : ℕ) → nat_eq n n ≡ true
nat_same n = grind (arith, nat_tests)

pub object-new : (heap : Heap) (class : Name) (b : Bool) → b ≡ true
    → cond b (Some class) (heap.class (suc heap.count)) ≡ Some class
object-new heap class true e = refl
object-new heap class false e = absurd (cc)

pub number-new : (heap : Heap) → nat_eq (suc heap.count) (suc heap.count) ≡ true
number-new heap = nat_same (suc heap.count)

element_new : (test : Value → Bool) (b t : Bool) (first v : Value) (before : Option Value) → b ≡ true
    → cond b (cond t (Some first) None) before ≡ Some v → test first ≡ true → test v ≡ true
element_new test true true first v before s e h = subst (λ x. test x ≡ true) (same_Some first v e) h
element_new test true false first v before s e h = absurd (none-some v e)
element_new test false t first v before s e h = absurd (cc)

length_new : (b : Bool) (n : ℤ) (o : Option ℤ) → b ≡ true → IsSome (cond b (Some n) o)
length_new true n o e = refl
length_new false n o e = absurd (cc)

array_new : (heap : Heap) (test : Value → Bool) (first : Value) (size : ℕ) → test first ≡ true
    → IsArrayOf test (with_array heap first size) (suc heap.count)
array_new heap test first size h = (
  length_new (nat_eq (suc heap.count) (suc heap.count)) (pos size) (heap.length (suc heap.count)) (number-new heap),
  (λ index v e. element_new test (nat_eq (suc heap.count) (suc heap.count)) _ first v
      (heap.value (location.Cell (suc heap.count) index))
      (number-new heap) e h),
)

pub array-new : (heap : Heap) (type : PvType) (size : ℕ) → IsElement type
    → HasType (with_array heap (default_of type) size) (array_of type) (value.Reference (suc heap.count))
array-new heap type size (inl e) =
    subst (λ t. HasType (with_array heap (default_of t) size) (array_of t) (value.Reference (suc heap.count))) (sym e)
    (array_new heap is_number (default_of Int) size refl)
array-new heap type size (inr e) =
    subst (λ t. HasType (with_array heap (default_of t) size) (array_of t) (value.Reference (suc heap.count))) (sym e)
    (array_new heap is_truth (default_of Truth) size refl)

-- Frames at their first step.

take_more : (n : ℕ) (vs : List Value) (v : Value) (us : List Value) → drop n vs ≡ v ∷ us → take (suc n) vs ≡ take n vs ++ v ∷ []
take_more zero [] v us e = absurd (cc)
take_more zero (x ∷ xs) v us e = ap (λ l. top l ∷ []) e
take_more (suc n) [] v us e = absurd (cc)
take_more (suc n) (x ∷ xs) v us e = ap (λ l. x ∷ l) (take_more n xs v us e)

-- the topmost values, in the order in which they came
pub taken-fits : (heap : Heap) (stack types : List PvType) (vs : List Value) → ValuesFit heap (onto types stack) vs
    → ValuesFit heap types (reverse (take (length types) vs))
taken-fits heap stack [] vs h = tt
taken-fits heap stack (type ∷ types) vs h =
    go (drop (length types) vs) refl (under-fits heap (type ∷ stack) types vs h) (taken-fits heap (type ∷ stack) types vs h)
  where
    go : (ds : List Value) → drop (length types) vs ≡ ds → ValuesFit heap (type ∷ stack) ds
        → ValuesFit heap types (reverse (take (length types) vs))
        → ValuesFit heap (type ∷ types) (reverse (take (suc (length types)) vs))
    go [] e k l = absurd k
    go (v ∷ us) e k others =
        subst (λ l. ValuesFit heap (type ∷ types) l)
        (sym (ap (λ l. reverse l) (take_more (length types) vs v us e) ∙ reverse-append (take (length types) vs) (v ∷ [])))
        (k.0, others)

arguments_fit : (heap : Heap) (xs : List Parameter) (variables : Variables) (ps : List Parameter) (vs : List Value)
    → VariablesFit heap xs variables
    → ValuesFit heap (types_of ps) vs → VariablesFit heap (over xs ps) (with_arguments variables ps vs)
arguments_fit heap xs variables [] vs fit h = fit
arguments_fit heap xs variables (x ∷ ps) [] fit h = absurd h
arguments_fit heap xs variables (x ∷ ps) (v ∷ vs) fit h =
    arguments_fit heap (x ∷ xs) (with_variable variables x.0 v) ps vs (new-fits heap xs variables x.0 x.1 v h.0 fit) h.1

pub first_result : (heap : Heap) (r : Option PvType) → ResultFits heap (Some (unwrap_or r Null)) (is_none r) no_value
first_result heap None g type e = subst (λ t. HasType heap t no_value) (same_Some Null type e) tt
first_result heap (Some t) g type e = absurd (cc)

pub result_given : (r : Option PvType) (b : Bool) → ((type : PvType) → r ≡ Some type → b ≡ true) → (b || is_none r) ≡ true
result_given None true f = refl
result_given None false f = refl
result_given (Some t) true f = refl
result_given (Some t) false f = absurd (let e = f t refl in cc)

pub object-fits : (heap : Heap) (class : Name) (v : Value) → HasType heap (Object class) v
    → HasType heap (Object class) (value.Reference (reference_in v))
object-fits heap class (value.Number z) h = absurd h
object-fits heap class (value.Truth b) h = absurd h
object-fits heap class (value.Reference n) h = h

pub entered-fits : (p : Program) (heap : Heap) (class : Name) (m : Method) (object : ℕ) (arguments : List Value)
    → MethodFits p class m
    → HasType heap (Object class) (value.Reference object) → ValuesFit heap (types_of m.parameters) arguments
    → FrameFits (home p (entered heap class m object arguments).class (Some (answer_of m))) heap
    (entered heap class m object arguments)
entered-fits p heap class m object arguments t o a =
    let f : Frame = record {
      class = class;
      method = m;
      this = object;
      begun = with_arguments no_variables m.parameters arguments;
      variables = with_arguments no_variables m.parameters arguments;
      values = [];
      tasks = Run m.body ∷ [];
      result = no_value;
      old = kept m heap;
    } in
    rested p class (Some (answer_of m)) heap f (record {
      scope = over [] m.parameters;
      given = is_none m.result;
      stack = [];
      class = refl;
      this = o;
      variables = arguments_fit heap [] no_variables m.parameters arguments (λ name type e. absurd (none-some type e)) a;
      result = first_result heap m.result;
      values = tt;
      tasks =
          runs (over [] m.parameters) true t.body (λ n ty e. e) (λ g. result_given m.result (gives m.body) t.result) (done refl);
    })
