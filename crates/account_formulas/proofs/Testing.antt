-- The test of a fact at a position passes where the fact is true there and the lengths that it names are known.
use Rattle.std.proofs.Common.{◌≡◌, ℤ, Bool, true, false, if◌then◌else◌, Option, Some, None, List, [], ◌∷◌, ◌++◌, refl, ap, sym, ◌∙◌}
use Rattle.std.specs.Prelude.{nat_eq, option_map}
use Rattle.std.proofs.lemmas.Option.{same_Some, none-some}
use Rattle.pv_base.specs.declared.Name.{Name}
use Rattle.pv_ast.specs.declared.PvType.{PvType}
use Rattle.pv_values.specs.declared.value.Value.{Value}
use Rattle.pv_values.specs.declared.value.Value.TheVariants as value
use Rattle.pv_picks.specs.declared.evidence.Pick.{Pick}
use Rattle.pv_picks.specs.Plain.Core.{Manner, Plain, Tabled, Expression, Constant, This, Result, Variable, Field, Element, Length, Not, Compute, Compare, Equal, And, Or, Implies, Old, Parameter}
use Rattle.pv_picks.specs.Formulas.Values.{number_in, truth_in, reference_in, arithmetic, array_of}
use Rattle.pv_picks.specs.Formulas.Heaps.{Heap}
use Rattle.pv_picks.specs.Formulas.Evaluation.{Scene, evaluate}
use Rattle.pv_picks.specs.Formulas.Meeting.{or_stop, at}
use Rattle.pv_picks.specs.Machine.Starts.{field_kind}
use Rattle.pv_picks.specs.Judge.States.{InField, InElement, Cell, Cells, State}
use Rattle.pv_picks.specs.Judge.Settings.{Setting}
use Rattle.pv_picks.specs.Judge.Repetitions.{Look, AtElements, AtElement, AtLength, AtTerm, in_state, looks_in, or_blocked, operation_tested, test_reader}
use Rattle.pv_picks.specs.Judge.Runs.{Judged, content, judging_tests}
use Rattle.pv_picks.specs.Typing.Expressions.{Home, Speech, type_in, Says}
use Rattle.account_formulas.specs.Good.{AreGoodLooks}
use Rattle.account_formulas.specs.Sights.{Lengths, Contents, SceneFits}
use Rattle.account_formulas.specs.Runs.{Taken, all_maps, AreSettled, with_lengths}
use Rattle.account_formulas.proofs.Looking.{Looked}
use Rattle.account_formulas.proofs.Steady.{steady}
use Rattle.account_formulas.proofs.TypedReads.{View}
use Rattle.account_formulas.proofs.Lengths.{empty_table}
use Rattle.account_formulas.proofs.Knowing.{reader_on, value_on, on_step}

module _ (present : Heap) (scene : Scene) (state : State) where
  -- the lengths that an expression names are known
  abbrev pub KnownIn : Contents → Contents → Expression → Type 0
  KnownIn c o (Constant v) = Unit {0}
  KnownIn c o This = Unit {0}
  KnownIn c o Result = Unit {0}
  KnownIn c o (Variable x) = Unit {0}
  KnownIn c o (Field e class name span) = KnownIn c o e
  KnownIn c o (Element type array index span) = KnownIn c o array × KnownIn c o index
  KnownIn c o (Length type array span) =
      KnownIn c o array
      × ((a : Value) (n : ℤ) → value_on c o present scene array ≡ Some a → nat_eq (reference_in a) 0 ≡ false
      → present.length (reference_in a) ≡ Some n → state.lengths type (reference_in a) ≡ Some n)
  KnownIn c o (Not e) = KnownIn c o e
  KnownIn c o (Compute manner op a b span) = KnownIn c o a × KnownIn c o b
  KnownIn c o (Compare order a b) = KnownIn c o a × KnownIn c o b
  KnownIn c o (Equal same a b) = KnownIn c o a × KnownIn c o b
  KnownIn c o (And a b) = KnownIn c o a × KnownIn c o b
  KnownIn c o (Or a b) = KnownIn c o a × KnownIn c o b
  KnownIn c o (Implies a b) = KnownIn c o a × KnownIn c o b
  KnownIn c o (Old e) = KnownIn o o e

  -- what has a value has it by that of its first part
  first_value : (c o : Contents) (e : Expression) (k : Value → Option Value) (v : Value)
      → evaluate (reader_on c present) (reader_on o present) scene e k ≡ Some v
      → (G : Type 0) → ((x : Value) → value_on c o present scene e ≡ Some x → k x ≡ Some v → G) → G
  first_value c o e k v is G found = go (value_on c o present scene e) refl
    where
      go : (x : Option Value) → value_on c o present scene e ≡ x → G
      go None at = absurd (none-some v (ap (λ y. or_stop y None k) (sym at) ∙ sym (on_step present scene c o e k) ∙ is))
      go (Some x) at = found x at (ap (λ y. or_stop y None k) (sym at) ∙ sym (on_step present scene c o e k) ∙ is)

  module _ (taken : Taken) (picks : List Pick) where
    abbrev T : Setting Judged
    T = judging_tests (all_maps taken picks) []

    cell_read : (o : Option Cell) (v : Value) (next : Value → Judged) → option_map (content (all_maps taken picks)) o ≡ Some v
        → or_blocked T o (λ c. T.reading c next) ≡ next v
    cell_read None v next is = absurd (none-some v is)
    cell_read (Some x) v next is = ap next (same_Some (content (all_maps taken picks) x) v is)

    pub tests : (c o : Contents) (cells past : Cells) → AreSettled taken cells c → AreSettled taken past o
        → (e : Expression) (v : Value) → KnownIn c o e → value_on c o present scene e ≡ Some v → (next : Value → Judged)
        → (evaluate (test_reader T state cells) (test_reader T state past) scene e next) ≡ (next v)
    tests c o cells past settled before (Constant w) v known is next = ap next (same_Some w v is)
    tests c o cells past settled before This v known is next = ap next (same_Some _ v is)
    tests c o cells past settled before Result v known is next = ap next (same_Some _ v is)
    tests c o cells past settled before (Variable x) v known is next = ap next (same_Some _ v is)
    tests c o cells past settled before (Field e class name span) v known is next =
        first_value c o e _ v is _ (λ x at k. tests c o cells past settled before e x known at _
        ∙ go x (c (InField class (reference_in x) name)) refl k)
      where
        go : (x : Value) (y : Option Value) → c (InField class (reference_in x) name) ≡ y → or_stop y None Some ≡ Some v
            → or_blocked T (cells (InField class (reference_in x) name)) (λ z. T.reading z next) ≡ next v
        go x None at k = absurd (none-some v k)
        go x (Some y) at k =
            cell_read (cells (InField class (reference_in x) name)) v next
            (settled picks (InField class (reference_in x) name) ∙ at ∙ k)
    tests c o cells past settled before (Element type array index span) v known is next =
        first_value c o array _ v is _ (λ a at k. tests c o cells past settled before array a known.0 at _
        ∙ first_value c o index _ v k _ (λ i at k. tests c o cells past settled before index i known.1 at _
        ∙ go a i (c (InElement type (reference_in a) (number_in i))) refl k))
      where
        go : (a i : Value) (y : Option Value) → c (InElement type (reference_in a) (number_in i)) ≡ y → or_stop y None Some
            ≡ Some v
            → or_blocked T (cells (InElement type (reference_in a) (number_in i))) (λ z. T.reading z next) ≡ next v
        go a i None at k = absurd (none-some v k)
        go a i (Some y) at k =
            cell_read (cells (InElement type (reference_in a) (number_in i))) v next
            (settled picks (InElement type (reference_in a) (number_in i)) ∙ at ∙ k)
    tests c o cells past settled before (Length type array span) v known is next =
        first_value c o array _ v is _ (λ a at k. tests c o cells past settled before array a known.0 at _
        ∙ go a at (nat_eq (reference_in a) 0) refl (present.length (reference_in a)) refl k)
      where
        go : (a : Value) → value_on c o present scene array ≡ Some a → (b : Bool) → nat_eq (reference_in a) 0 ≡ b → (m : Option ℤ)
            → present.length (reference_in a) ≡ m
            → (if b then None else or_stop m None (λ n. Some (value.Number n))) ≡ Some v
            → ((test_reader T state cells).length type (reference_in a) span (λ n. next (value.Number n))) ≡ (next v)
        go a at true z m is k = absurd (none-some v k)
        go a at false z None is k = absurd (none-some v k)
        go a at false z (Some n) is k =
            ap (λ b. (if b then T.blocked else or_blocked T (state.lengths type (reference_in a)) (λ n. next (value.Number n)))) z
            ∙ ap (λ m. (or_blocked T m (λ n. next (value.Number n)))) (known.1 a n at z is) ∙ ap next (same_Some _ v k)
    tests c o cells past settled before (Not e) v known is next =
        first_value c o e _ v is _ (λ x at k. tests c o cells past settled before e x known at _ ∙ ap next (same_Some _ v k))
    tests c o cells past settled before (Compute manner op a b span) v known is next =
        first_value c o a _ v is _ (λ x at k. tests c o cells past settled before a x known.0 at _
        ∙ first_value c o b _ v k _ (λ y at k. tests c o cells past settled before b y known.1 at _ ∙ go manner x y
        ∙ ap next (same_Some _ v k)))
      where
        go : (m : Manner) (x y : Value) → (operation_tested T m op (number_in x) (number_in y) span (λ z. next (value.Number z)))
            ≡ (next (value.Number (arithmetic op (number_in x) (number_in y))))
        go Plain x y = refl
        go Tabled x y = ap (λ z. (next (value.Number z))) (empty_table op (number_in x) (number_in y))
    tests c o cells past settled before (Compare order a b) v known is next =
        first_value c o a _ v is _ (λ x at k. tests c o cells past settled before a x known.0 at _
        ∙ first_value c o b _ v k _ (λ y at k. tests c o cells past settled before b y known.1 at _ ∙ ap next (same_Some _ v k)))
    tests c o cells past settled before (Equal same a b) v known is next =
        first_value c o a _ v is _ (λ x at k. tests c o cells past settled before a x known.0 at _
        ∙ first_value c o b _ v k _ (λ y at k. tests c o cells past settled before b y known.1 at _ ∙ ap next (same_Some _ v k)))
    tests c o cells past settled before (And a b) v known is next =
        first_value c o a _ v is _ (λ x at k. tests c o cells past settled before a x known.0 at _
        ∙ go (λ k. tests c o cells past settled before b v known.1 k next) (truth_in x) k)
      where
        go : (value_on c o present scene b ≡ Some v → (evaluate (test_reader T state cells)
            (test_reader T state past) scene b next) ≡ (next v)) → (t : Bool)
            → (if t then evaluate (reader_on c present) (reader_on o present) scene b Some else Some (value.Truth false)) ≡ Some v
            → (if t then evaluate (test_reader T state cells) (test_reader T state past) scene b next else next
            (value.Truth false)) ≡ (next v)
        go inner true k = inner k
        go inner false k = ap next (same_Some _ v k)
    tests c o cells past settled before (Or a b) v known is next =
        first_value c o a _ v is _ (λ x at k. tests c o cells past settled before a x known.0 at _
        ∙ go (λ k. tests c o cells past settled before b v known.1 k next) (truth_in x) k)
      where
        go : (value_on c o present scene b ≡ Some v → (evaluate (test_reader T state cells)
            (test_reader T state past) scene b next) ≡ (next v)) → (t : Bool)
            → (if t then Some (value.Truth true) else evaluate (reader_on c present) (reader_on o present) scene b Some) ≡ Some v
            → (if t then next (value.Truth true) else evaluate (test_reader T state cells)
            (test_reader T state past) scene b next) ≡ (next v)
        go inner true k = ap next (same_Some _ v k)
        go inner false k = inner k
    tests c o cells past settled before (Implies a b) v known is next =
        first_value c o a _ v is _ (λ x at k. tests c o cells past settled before a x known.0 at _
        ∙ go (λ k. tests c o cells past settled before b v known.1 k next) (truth_in x) k)
      where
        go : (value_on c o present scene b ≡ Some v → (evaluate (test_reader T state cells)
            (test_reader T state past) scene b next) ≡ (next v)) → (t : Bool)
            → (if t then evaluate (reader_on c present) (reader_on o present) scene b Some else Some (value.Truth true)) ≡ Some v
            → (if t then evaluate (test_reader T state cells) (test_reader T state past) scene b next else next
            (value.Truth true)) ≡ (next v)
        go inner true k = inner k
        go inner false k = ap next (same_Some _ v k)
    tests c o cells past settled before (Old e) v known is next = tests o o past past before before e v known is next

-- Looks and the lengths that are known by them

module _ (taken : Taken) (h : Home) (speech : Speech) (xs : List Parameter) (name : Name) (i : ℤ) (new : type_in xs name ≡ None)
    (present : Heap) (scene : Scene) (fits : SceneFits h speech xs present scene)
    (here old : Contents) (view : View (field_kind h.program) present here old) (past : Cells)
    (settled : AreSettled taken past old)
    (s : State) (cells : State → Cells) (same : (l : Lengths) → AreSettled taken (cells (with_lengths s l)) here)
    (state : State) where
  abbrev All : List Look → Type 0
  All looks = Looked taken h speech xs present scene fits here old view past settled s cells same state.lengths looks

  looked_front : (a b : List Look) → All (a ++ b) → All a
  looked_front [] b l = tt
  looked_front (AtElements type array shift ∷ a) b l = looked_front a b l
  looked_front (AtElement was type array index ∷ a) b l = looked_front a b l
  looked_front (AtLength type array ∷ a) b l = (l.0, looked_front a b l.1)
  looked_front (AtTerm e ∷ a) b l = looked_front a b l

  looked_back : (a b : List Look) → All (a ++ b) → All b
  looked_back [] b l = l
  looked_back (AtElements type array shift ∷ a) b l = looked_back a b l
  looked_back (AtElement was type array index ∷ a) b l = looked_back a b l
  looked_back (AtLength type array ∷ a) b l = looked_back a b l.1
  looked_back (AtTerm e ∷ a) b l = looked_back a b l

  good_front : (a b : List Look) → AreGoodLooks h speech xs (a ++ b) → AreGoodLooks h speech xs a
  good_front [] b l = tt
  good_front (AtElements type array shift ∷ a) b l = (l.0, good_front a b l.1)
  good_front (AtElement was type array index ∷ a) b l = (l.0, l.1, good_front a b l.2)
  good_front (AtLength type array ∷ a) b l = (l.0, l.1, good_front a b l.2)
  good_front (AtTerm e ∷ a) b l = (l.0, good_front a b l.1)

  good_back : (a b : List Look) → AreGoodLooks h speech xs (a ++ b) → AreGoodLooks h speech xs b
  good_back [] b l = l
  good_back (AtElements type array shift ∷ a) b l = good_back a b l.1
  good_back (AtElement was type array index ∷ a) b l = good_back a b l.2
  good_back (AtLength type array ∷ a) b l = good_back a b l.2
  good_back (AtTerm e ∷ a) b l = good_back a b l.1

  abbrev side : Bool → Contents
  side true = old
  side false = here

  abbrev Known' : Bool → Expression → Type 0
  Known' flag e = KnownIn present (at scene name i) state (side flag) old e

  length_known : (flag : Bool) (type : PvType) (array : Expression) → Says h speech xs (in_state flag array) (array_of type)
      → ((a : Value) (n : ℤ) → value_on here old present scene (in_state flag array) ≡ Some a → nat_eq (reference_in a) 0 ≡ false
      → present.length (reference_in a) ≡ Some n → state.lengths type (reference_in a) ≡ Some n)
      → (a : Value) (n : ℤ) → value_on (side flag) old present (at scene name i) array ≡ Some a → nat_eq (reference_in a) 0
      ≡ false → present.length (reference_in a) ≡ Some n → state.lengths type (reference_in a) ≡ Some n
  length_known true type array says f a n is full at =
      f a n (sym (steady h speech xs name i new scene _ _ array (array_of type) says.1 Some Some (λ v. refl)) ∙ is) full at
  length_known false type array says f a n is full at =
      f a n (sym (steady h speech xs name i new scene _ _ array (array_of type) says Some Some (λ v. refl)) ∙ is) full at

  pub known_in : (flag : Bool) (e : Expression) → AreGoodLooks h speech xs (looks_in name flag e) → All (looks_in name flag e)
      → Known' flag e
  known_in flag (Constant v) good looked = tt
  known_in flag This good looked = tt
  known_in flag Result good looked = tt
  known_in flag (Variable x) good looked = tt
  known_in flag (Field e class x span) good looked = known_in flag e good looked
  known_in flag (Element type array index span) good looked = (
    known_in flag array (good_front (looks_in name flag array) _ good) (looked_front (looks_in name flag array) _ looked),
    known_in flag index (good_front (looks_in name flag index) _ (good_back (looks_in name flag array) _ good))
        (looked_front (looks_in name flag index) _ (looked_back (looks_in name flag array) _ looked)),
  )
  known_in flag (Length type array span) good looked = (
    known_in flag array (good_front (looks_in name flag array) _ good) (looked_front (looks_in name flag array) _ looked),
    length_known flag type array (good_back (looks_in name flag array) (AtLength type (in_state flag array) ∷ []) good).0
        (looked_back (looks_in name flag array) (AtLength type (in_state flag array) ∷ []) looked).0,
  )
  known_in flag (Not e) good looked = known_in flag e good looked
  known_in flag (Compute manner op a b span) good looked = (
    known_in flag a (good_front (looks_in name flag a) _ good) (looked_front (looks_in name flag a) _ looked),
    known_in flag b (good_back (looks_in name flag a) _ good) (looked_back (looks_in name flag a) _ looked),
  )
  known_in flag (Compare order a b) good looked = (
    known_in flag a (good_front (looks_in name flag a) _ good) (looked_front (looks_in name flag a) _ looked),
    known_in flag b (good_front (looks_in name flag b) _ (good_back (looks_in name flag a) _ good))
        (looked_front (looks_in name flag b) _ (looked_back (looks_in name flag a) _ looked)),
  )
  known_in flag (Equal is a b) good looked = (
    known_in flag a (good_front (looks_in name flag a) _ good) (looked_front (looks_in name flag a) _ looked),
    known_in flag b (good_front (looks_in name flag b) _ (good_back (looks_in name flag a) _ good))
        (looked_front (looks_in name flag b) _ (looked_back (looks_in name flag a) _ looked)),
  )
  known_in flag (And a b) good looked = (
    known_in flag a (good_front (looks_in name flag a) _ good) (looked_front (looks_in name flag a) _ looked),
    known_in flag b (good_back (looks_in name flag a) _ good) (looked_back (looks_in name flag a) _ looked),
  )
  known_in flag (Or a b) good looked = (
    known_in flag a (good_front (looks_in name flag a) _ good) (looked_front (looks_in name flag a) _ looked),
    known_in flag b (good_back (looks_in name flag a) _ good) (looked_back (looks_in name flag a) _ looked),
  )
  known_in flag (Implies a b) good looked = (
    known_in flag a (good_front (looks_in name flag a) _ good) (looked_front (looks_in name flag a) _ looked),
    known_in flag b (good_back (looks_in name flag a) _ good) (looked_back (looks_in name flag a) _ looked),
  )
  known_in flag (Old e) good looked = known_in true e good looked
