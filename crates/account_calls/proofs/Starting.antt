-- The first world of a start is accounted for.
use Rattle.std.proofs.Common.{◌≡◌, ◌⊎◌, inl, inr, ◌+◌, ◌≤◌, ◌<◌, ℕ, zero, suc, ℤ, pos, Bool, true, false, ◌&&◌, if◌then◌else◌, Option, Some, None, List, [], ◌∷◌, refl, ap, sym, subst, ◌∙◌, arith}
use Rattle.std.specs.Prelude.{nat_eq, is_some, IsSome}
use Rattle.std.proofs.lemmas.Option.{none-some}
use Rattle.pv_base.specs.declared.Name.{Name}
use Rattle.pv_ast.specs.declared.PvType.{PvType}
use Rattle.pv_ast.specs.declared.PvType.TheVariants.{Int, Truth, Object, IntArray, TruthArray, Null}
use Rattle.pv_ast.specs.declared.Token.TheVariants as token
use Rattle.pv_fraction.specs.Amounts.{whole}
use Rattle.pv_values.specs.declared.value.Value.{Value}
use Rattle.pv_values.specs.declared.value.Value.TheVariants as value
use Rattle.pv_values.specs.declared.value.Location.{Location}
use Rattle.pv_values.specs.declared.value.Location.TheVariants as location
use Rattle.pv_values.specs.Heaps.{Things}
use Rattle.pv_values.specs.Typing.{is_number, is_truth}
use Rattle.pv_picks.specs.Plain.Core.{Parameter, Program}
use Rattle.pv_picks.specs.Formulas.Values.{within}
use Rattle.pv_picks.specs.Formulas.Heaps.{Heap, heap_of, at_number}
use Rattle.pv_picks.specs.Formulas.Meeting.{units_in}
use Rattle.pv_picks.specs.Judge.States.{Resource, InField, InElement, OfToken, OfLock}
use Rattle.pv_picks.specs.Machine.Tasks.{AtClose, Task, Stand}
use Rattle.pv_picks.specs.Machine.Frames.{Frame, only_now, outer_scene}
use Rattle.pv_picks.specs.Machine.Starts.{kind_of, field_kind, AreArguments, Start, IsStart, frame_of_start, first_world, no_thread, true_formula}
use Rattle.pv_picks.specs.Machine.Worlds.{Entry, MemberOf, Thread, has_no_frame}
use Rattle.pv_picks.specs.Machine.Safety.{IsReached}
use Rattle.pv_picks.specs.Typing.Heaps.{HoldsOnly, IsTypedHeap}
use Rattle.machine_laws.specs.Lengths.{HasItsElements, is_index}
use Rattle.machine_laws.proofs.Lengths.{reached-elements}
use Rattle.pv_picks.proofs.Sames.{naturals_same, names_same}
use Rattle.pv_picks.specs.Typing.Expressions.{silent}
use Rattle.pv_picks.specs.Typing.Blocks.{types_of, over}
use Rattle.pv_picks.specs.Typing.Frames.{HasType}
use Rattle.machine_laws.proofs.Reached.{kind_there, object_there, reached-fits}
use Rattle.core_trees.specs.Formulas.{in_class}
use Rattle.account_formulas.specs.Growing.{HeapFits}
use Rattle.account_formulas.specs.Gaining.{PredicatesFit, AreTyped}
use Rattle.account_formulas.specs.Owning.{Amounts, IsPlaced, Owns}
use Rattle.account_formulas.specs.Asking.{asked, is_class, is_of, AreWithinLengths}
use Rattle.account_formulas.proofs.Asking.{asked_less}
use Rattle.account_formulas.proofs.Laws.{met_is_owned}
use Rattle.account.specs.Verified.{IsVerifiedThroughout}
use Rattle.account.proofs.Goodness.{good_formula}
use Rattle.account.proofs.Supplying.{heaps_fit}
use Rattle.account.proofs.Framing.{predicates_taken_in, outer_fits}
use Rattle.account.specs.Frames as account
use Rattle.account.specs.Frames.{standing_in, IsBodyOf, AreRunsOf, amounts_of, all_of}
use Rattle.account.specs.Owners.{Owners, sum_below, total}
use Rattle.account.specs.Objects.{RoleFits}
use Rattle.account.specs.Accounts.{Account}
use Rattle.account.specs.Going.{Begins}
use Rattle.account.proofs.Beginning.{begins}
use Rattle.account.proofs.Moving.{first_same, closes_not}

arguments_typed : (things : Things) (ps : List Parameter) (vs : List Value) → AreArguments things ps vs
    → AreTyped (heap_of things) (types_of ps) vs
arguments_typed things [] [] h = tt
arguments_typed things [] (v ∷ vs) h = absurd h
arguments_typed things (x ∷ ps) [] h = absurd h
arguments_typed things (x ∷ ps) (v ∷ vs) h =
    (kind_there things (kind_of x.1) v h.0, arguments_typed things ps vs h.1)

-- an object that has a class isn't null
not_null_object : (heap : Heap) (class : Name) (n : ℕ) → heap.class 0 ≡ None → heap.class n ≡ Some class → nat_eq n 0 ≡ false
not_null_object heap class n none is = go (nat_eq n 0) refl
  where
    go : (b : Bool) → nat_eq n 0 ≡ b → b ≡ false
    go true e = absurd (none-some class (sym none ∙ subst (λ k. heap.class k ≡ Some class) (naturals_same n 0 e) is))
    go false e = refl

within_lengths : (heap : Heap) → HasItsElements heap → AreWithinLengths heap
within_lengths heap h array index some =
    go (heap.length array) refl (sym (h.elements array index) ∙ some)
  where
    go : (o : Option ℤ) → heap.length array ≡ o → is_index o index ≡ true
        → (n : ℤ) × (heap.length array ≡ Some n) × (within (pos 0) n index ≡ true)
    go None e is = absurd (cc is)
    go (Some n) e is = (n, e, is)

-- what is asked for stands in the heap

front : (a b : Bool) → (a && b) ≡ true → a ≡ true
front true b e = refl
front false b e = absurd (cc e)

back : (a b : Bool) → (a && b) ≡ true → b ≡ true
back true b e = e
back false b e = absurd (cc e)

class_named : (o : Option Name) (class : Name) → is_class o class ≡ true → o ≡ Some class
class_named None class is = absurd (cc is)
class_named (Some c) class is = ap Some (names_same c class is)

-- amounts of more than nothing are asked of what a test lets through
passes_test : (b : Bool) (n : ℕ) → 1 ≤ (if b then n else 0) → b ≡ true
passes_test true n more = refl
passes_test false n more = absurd (omega (arith, more))

element_there : (heap : Heap) → ((array : ℕ) → HoldsOnly is_number heap array ⊎ HoldsOnly is_truth heap array)
    → AreWithinLengths heap → (type : PvType) (array : ℕ) (index : ℤ) (o : Option Value)
    → heap.value (location.Cell array index) ≡ o → is_of type o ≡ true → IsPlaced heap (InElement type array index)
element_there heap elements bounded type array index None at is = absurd (bad type is)
  where
    bad : (type : PvType) → is_of type None ≡ true → ⊥
    bad Int is = absurd (cc is)
    bad Truth is = absurd (cc is)
    bad (Object c) is = absurd (cc is)
    bad IntArray is = absurd (cc is)
    bad TruthArray is = absurd (cc is)
    bad Null is = absurd (cc is)
element_there heap elements bounded type array index (Some v) at is = go type v at is
  where
    length_some : IsSome (heap.length array)
    length_some = let b = bounded array index (subst IsSome (sym at) refl) in subst IsSome (sym b.1) refl

    go : (type : PvType) (v : Value) → heap.value (location.Cell array index) ≡ Some v → is_of type (Some v) ≡ true
        → IsPlaced heap (InElement type array index)
    go Int (value.Number z) at is = (
      bounded array index (subst IsSome (sym at) refl),
      subst IsSome (sym at) refl,
      inl refl,
      numbers array length_some (elements array) (λ h. absurd (cc (h index (value.Number z) at))),
    )
      where
        numbers : (array : ℕ) → IsSome (heap.length array) → HoldsOnly is_number heap array ⊎ HoldsOnly is_truth heap array
            → (HoldsOnly is_truth heap array → ⊥)
            → HasType heap IntArray (value.Reference array)
        numbers zero some h not = tt
        numbers (suc n) some (inl h) not = (some, h)
        numbers (suc n) some (inr h) not = absurd (not h)
    go Truth (value.Truth b) at is = (
      bounded array index (subst IsSome (sym at) refl),
      subst IsSome (sym at) refl,
      inr refl,
      truths array length_some (elements array) (λ h. absurd (cc (h index (value.Truth b) at))),
    )
      where
        truths : (array : ℕ) → IsSome (heap.length array) → HoldsOnly is_number heap array ⊎ HoldsOnly is_truth heap array
            → (HoldsOnly is_number heap array → ⊥)
            → HasType heap TruthArray (value.Reference array)
        truths zero some h not = tt
        truths (suc n) some (inr h) not = (some, h)
        truths (suc n) some (inl h) not = absurd (not h)
    go Int (value.Truth b) at is = absurd (cc is)
    go Int (value.Reference n) at is = absurd (cc is)
    go Truth (value.Number z) at is = absurd (cc is)
    go Truth (value.Reference n) at is = absurd (cc is)
    go (Object c) v at is = absurd (cc is)
    go IntArray v at is = absurd (cc is)
    go TruthArray v at is = absurd (cc is)
    go Null v at is = absurd (cc is)

asked_placed : (heap : Heap) → ((array : ℕ) → HoldsOnly is_number heap array ⊎ HoldsOnly is_truth heap array)
    → AreWithinLengths heap → (u : Location → ℕ) (r : Resource) → 1 ≤ asked heap u r → IsPlaced heap r
asked_placed heap elements bounded u (InField class object name) more =
    let b = passes_test (is_some (heap.value (location.Field object name)) && is_class (heap.class object) class)
    (u (location.Field object name)) more in (
      class_named (heap.class object) class (back (is_some (heap.value (location.Field object name))) _ b),
      front _ (is_class (heap.class object) class) b,
    )
asked_placed heap elements bounded u (InElement type array index) more =
    element_there heap elements bounded type array index (heap.value (location.Cell array index)) refl
    (passes_test (is_of type (heap.value (location.Cell array index))) (u (location.Cell array index)) more)
asked_placed heap elements bounded u (OfToken token class object) more = absurd (omega (arith, more))
asked_placed heap elements bounded u (OfLock class object) more = absurd (omega (arith, more))

none_below : (n : ℕ) → sum_below (λ x. 0 + 0) n ≡ 0
none_below zero = refl
none_below (suc n) = let k = none_below n in omega (arith, k)

module _ (p : Program) (verified : IsVerifiedThroughout p) (s : Start) (starts : IsStart p s) where
  reached : IsReached p (first_world s)
  reached = record { start = s; starts = starts; events = []; leads = refl }

  sound : HeapFits p (heap_of s.heap)
  sound = heaps_fit p verified.typed.bodies (first_world s) reached

  framed : PredicatesFit p (heap_of s.heap)
  framed = predicates_taken_in p verified (heap_of s.heap) sound

  typed : IsTypedHeap (field_kind p) (heap_of s.heap)
  typed = (reached-fits p verified.typed.bodies (first_world s) reached).heap

  bounded : AreWithinLengths (heap_of s.heap)
  bounded = within_lengths (heap_of s.heap) (reached-elements p (first_world s) reached)

  -- what the precondition asks for
  abbrev asked_for : Amounts
  asked_for = asked (heap_of s.heap) (λ l. units_in (only_now (heap_of s.heap))
      (outer_scene s.object s.method.parameters s.arguments) l s.method.contract.before)

  this_typed : HasType (heap_of s.heap) (Object s.class) (value.Reference s.object)
  this_typed = object_there (heap_of s.heap) s.class s.object starts.object

  all_typed : AreTyped (heap_of s.heap) (types_of s.method.parameters) s.arguments
  all_typed = arguments_typed s.heap s.method.parameters s.arguments starts.arguments

  owned : Owns p (λ x. false) (only_now (heap_of s.heap)) (outer_scene s.object s.method.parameters s.arguments)
      s.method.contract.before asked_for
  owned = met_is_owned (in_class p s.class) silent (λ x. false) (heap_of s.heap) typed bounded (over [] s.method.parameters)
      (outer_scene s.object s.method.parameters s.arguments)
      (outer_fits (in_class p s.class) (heap_of s.heap) s.method.parameters s.object s.arguments this_typed all_typed)
      s.method.contract.before
      (good_formula (in_class p s.class) silent (over [] s.method.parameters) s.method.contract.before
      (verified.typed.methods s.class starts.name s.method starts.declared).0.3)
      starts.plain starts.met (λ l. units_in (only_now (heap_of s.heap))
      (outer_scene s.object s.method.parameters s.arguments) l s.method.contract.before) (λ l. omega arith)

  asked_at_most : (q : Resource) → asked_for q ≤ whole
  asked_at_most q = asked_less (heap_of s.heap) (λ l. units_in (only_now (heap_of s.heap))
      (outer_scene s.object s.method.parameters s.arguments) l s.method.contract.before) whole starts.fit q

  begun : Begins p (λ x. false) (heap_of s.heap) s.class s.method s.object s.arguments asked_for
  begun = begins p (λ x. false) (heap_of s.heap) sound framed s.class s.method
      (verified.typed.methods s.class starts.name s.method starts.declared).0
      (verified.typed.bodies.methods s.class starts.name s.method starts.declared)
      (good_formula (in_class p s.class) silent (over [] s.method.parameters) s.method.contract.before
      (verified.typed.methods s.class starts.name s.method starts.declared).0.3)
      (verified.methods s.class starts.name s.method starts.declared) s.object s.arguments
      (not_null_object (heap_of s.heap) s.class s.object typed.null.class starts.object) this_typed all_typed asked_for
      asked_at_most owned

  abbrev owners : Owners
  owners = record {
    runs = at_number 0 (begun.run ∷ []) (λ i. []);
    left = λ i q. 0;
    mail = λ i. [];
    promise = λ x q. 0;
    guard = λ x q. 0;
    openings = λ b. record { class = s.class; scope = []; scene = outer_scene 0 [] [] };
    messages = λ b label. record { label = label; distance = 0; formula = true_formula };
  }

  -- what holds of the first thread, and of no thread, holds of each
  each : (Q : Thread → List account.Run → Type 0)
      → Q (record { role = Entry; frames = frame_of_start s ∷ [] }) (begun.run ∷ []) → Q no_thread []
      → (j : ℕ) → Q ((first_world s).threads j) (owners.runs j)
  each Q first none j = go (nat_eq j 0)
    where
      go : (b : Bool) → Q (if b then record { role = Entry; frames = frame_of_start s ∷ [] } else no_thread)
          (if b then begun.run ∷ [] else [])
      go true = first
      go false = none

  no_member : (j b : ℕ) (position : ℤ) → ((first_world s).threads j).role ≡ MemberOf b position → ⊥
  no_member j b position = each (λ t rs. t.role ≡ MemberOf b position → ⊥) (λ e. absurd (cc e)) (λ e. absurd (cc e)) j

  total_less : (q : Resource) → total owners 1 (suc (heap_of s.heap).count) q ≤ asked_for q
  total_less q =
      let l = begun.less q in let z = none_below (suc (heap_of s.heap).count) in omega (arith, l, z)

  lock_none : (j : ℕ) (class : Name) (x : ℕ) → 1 ≤ all_of (owners.runs j) (OfLock class x) → ⊥
  lock_none j class x = each (λ t rs. 1 ≤ all_of rs (OfLock class x) → ⊥)
      (λ more. let l = begun.less (OfLock class x) in absurd (omega (arith, l, more))) (λ more. absurd (omega (arith, more))) j

  pub first_accounted : Account p (first_world s)
  first_accounted = record {
    owners = owners;
    threads = record {
      frames = λ j l. each (λ t rs. AreRunsOf p (λ x. false) (heap_of s.heap) t.frames rs) (begun.fits, tt) tt j;
      live = λ j. alive j (nat_eq j 0) refl;
    };
    sums = record {
      most = λ q. let l = total_less q in let m = asked_at_most q in omega (arith, l, m);
      placed = λ q more. asked_placed (heap_of s.heap) typed.elements bounded (λ l. units_in (only_now (heap_of s.heap))
          (outer_scene s.object s.method.parameters s.arguments) l s.method.contract.before) q
          (let l = total_less q in omega (arith, l, more));
      idle = λ class x more. refl;
      running = λ class x more. let l = total_less (OfToken token.Running class x) in absurd (omega (arith, l, more));
      uncommitted = λ class x more. refl;
    };
    locks = record {
      held = λ j l class x more. absurd (lock_none j class x more);
      threads = λ j l class x. refl;
      objects_have_none = λ y l class x. refl;
    };
    objects = record {
      promises = λ x class m l is run ended. absurd (cc ended);
      guards = λ x class f l is inv flag free. absurd (cc flag);
    };
    roles = λ j l. each (λ t rs. RoleFits p (λ x. false) (heap_of s.heap) (first_world s).state j t.role t.frames rs)
        (record { body = subst (λ m. IsBodyOf m begun.run.body) (ap (λ c. c.method) (sym begun.called)) begun.body }) tt j;
    blocks = record {
      openers = λ j l f below r rs b rest is runs at. absurd (stands_at_none j f below b rest is at);
      members = λ j l b position role. absurd (no_member j b position role);
    };
    mail = record {
      known = λ j l b position role. absurd (no_member j b position role);
      there = λ j l b position role. absurd (no_member j b position role);
    };
  }
    where
      alive : (j : ℕ) (b : Bool) → nat_eq j 0 ≡ b
          → has_no_frame (if b then record { role = Entry; frames = frame_of_start s ∷ [] } else no_thread).frames ≡ false
          → j < 1
      alive j true e live = let same = naturals_same j 0 e in omega (arith, same)
      alive j false e live = absurd (cc live)

      stands_at_none : (j : ℕ) (f : Frame) (below : List Frame) (b : ℕ) (rest : List Task)
          → ((first_world s).threads j).frames ≡ f ∷ below → f.tasks ≡ Stand (AtClose b) ∷ rest → ⊥
      stands_at_none j f below b rest = each (λ t rs. t.frames ≡ f ∷ below → f.tasks ≡ Stand (AtClose b) ∷ rest → ⊥)
          (λ e at. closes_not (standing_in p (frame_of_start s).class begun.run.body begun.run.outer) begun.run.inner
          begun.run.scope begun.run.given begun.run.stack (frame_of_start s) begun.says b rest
          (ap (λ z. z.tasks) (first_same (frame_of_start s) f [] below e) ∙ at))
          (λ e at. absurd (cc e)) j
