-- A run looks ahead before it comes to know a fact, so that the fact's tests read the lengths as they are.
use Rattle.std.proofs.Common.{◌≡◌, ◌⊎◌, inl, inr, ℕ, zero, suc, ℤ, pos, ◌+ℤ◌, Bool, true, false, ◌&&◌, Option, Some, None, option_map, List, [], ◌∷◌, ◌++◌, refl, sym, ◌∙◌, ap, subst}
use Rattle.std.specs.Prelude.{nat_eq, if◌then◌else◌}
use Rattle.std.specs.List.{AllByRecursion}
use Rattle.pv_base.specs.declared.Name.{Name}
use Rattle.pv_base.specs.declared.Span.{Span}
use Rattle.pv_ast.specs.declared.PvType.{PvType}
use Rattle.pv_values.specs.declared.value.Value.{Value}
use Rattle.pv_values.specs.declared.value.Value.TheVariants as value
use Rattle.pv_picks.specs.declared.evidence.Pick.{Pick}
use Rattle.pv_picks.specs.declared.evidence.Entry.{Entry}
use Rattle.pv_picks.specs.Plain.Core.{Expression, Manner, Operation}
use Rattle.pv_picks.specs.Plain.Core as core
use Rattle.pv_picks.specs.Formulas.Values.{number_in, truth_in, reference_in, width}
use Rattle.pv_picks.specs.Formulas.Evaluation.{Scene, Reader, evaluate}
use Rattle.pv_picks.specs.Judge.States.{State, Resource, InField, InElement, Cell, Cells, cells_of}
use Rattle.pv_picks.specs.Judge.Settings.{Next, ArrayPart, or_missing, Known, look_at_length}
use Rattle.pv_picks.specs.Judge.Permissions.{at_all}
use Rattle.pv_picks.specs.Judge.Repetitions.{cells_at, Look, AtElements, AtElement, AtLength, AtTerm, Range, in_state, looks_in, looks_of, term_beside, shift_in, look_at_element, or_blocked, operation_tested, test_reader, test_from, value_in, arrays_read, look_ahead}
use Rattle.pv_picks.specs.Judge.Steady.{IsTerm, IsTermLook}
use Rattle.pv_picks.specs.Judge.Inhaling.{known_of, come_to_know}
use Rattle.pv_picks.specs.Judge.Runs.{Blocked, Judged, Maps, content, judging_tests, judging}
use Rattle.core_sharing.specs.Following.{Lengths, KnownLengths, with_lengths}
use Rattle.core_sharing.specs.Renumbering.{Run}
use Rattle.core_sharing.specs.Inhaled.{bound}
use Rattle.core_sharing.proofs.AtPosition.{at, term_same}
use Rattle.core_sharing.proofs.Looking.{Outcome, Missing, Read, Values, read_or, worked, outcome_reader, outcome, Onward, Looks, Nothing, looks_itself, looks_as, looks_learned, looks_on, length_looks, value_looks}

-- Readings with the lengths that are known

abbrev pub known_or : Option ℤ → Span → (ℤ → Outcome) → Outcome
known_or None span next = Missing span
known_or (Some n) span next = next n

abbrev pub known_reader : List Entry → Values → KnownLengths → Reader Outcome
known_reader table values known = record {
  field = λ class object name span next. read_or (values (InField class object name)) span next;
  element = λ type array index span next. read_or (values (InElement type array index)) span next;
  length = λ type array span next. if nat_eq array 0 then Missing span else known_or (known type array) span next;
  operation = λ manner operation a b span next. next (worked table manner operation a b);
  comparing = λ a b rest. rest;
  matching = λ a b rest. rest;
  deciding = λ b rest. rest;
}

abbrev pub known_outcome : List Entry → Values → Values → KnownLengths → Scene → Expression → (Value → Outcome) → Outcome
known_outcome table now old known scene e k =
    evaluate (known_reader table now known) (known_reader table old known) scene e k

abbrev pub all_known : Lengths → KnownLengths
all_known lengths type array = Some (lengths type array)

abbrev pub and_on : Outcome → (Value → Outcome) → Outcome
and_on (Missing span) k = Missing span
and_on (Read v) k = k v

module _ (table : List Entry) (known : KnownLengths) where
  read_on : (w : Option Value) (span : Span) (f g : Value → Outcome) (k : Value → Outcome) → ((v : Value) → f v ≡ and_on (g v) k)
      → read_or w span f ≡ and_on (read_or w span g) k
  read_on None span f g k h = refl
  read_on (Some v) span f g k h = h v

  length_on : (b : Bool) (w : Option ℤ) (span : Span) (f g : ℤ → Outcome) (k : Value → Outcome)
      → ((n : ℤ) → f n ≡ and_on (g n) k)
      → (if b then Missing span else known_or w span f) ≡ and_on (if b then Missing span else known_or w span g) k
  length_on true w span f g k h = refl
  length_on false None span f g k h = refl
  length_on false (Some n) span f g k h = h n

  branch_on : (b : Bool) (x y x' y' : Outcome) (k : Value → Outcome) → x ≡ and_on x' k → y ≡ and_on y' k
      → (if b then x else y) ≡ and_on (if b then x' else y') k
  branch_on true x y x' y' k h l = h
  branch_on false x y x' y' k h l = l

  -- an expression is read, and then it goes on
  pub on_read : (now old : Values) (scene : Scene) (e : Expression) (f g k : Value → Outcome)
      → ((v : Value) → f v ≡ and_on (g v) k)
      → known_outcome table now old known scene e f ≡ and_on (known_outcome table now old known scene e g) k
  on_read now old scene (core.Constant v) f g k h = h v
  on_read now old scene core.This f g k h = h _
  on_read now old scene core.Result f g k h = h _
  on_read now old scene (core.Variable name) f g k h = h _
  on_read now old scene (core.Field e class field span) f g k h =
      on_read now old scene e _ _ k (λ o. read_on (now (InField class (reference_in o) field)) span f g k h)
  on_read now old scene (core.Element type x i span) f g k h =
      on_read now old scene x _ _ k (λ a. on_read now old scene i _ _ k
      (λ n. read_on (now (InElement type (reference_in a) (number_in n))) span f g k h))
  on_read now old scene (core.Length type x span) f g k h =
      on_read now old scene x _ _ k (λ a. length_on (nat_eq (reference_in a) 0) (known type (reference_in a)) span _ _ k
      (λ n. h _))
  on_read now old scene (core.Not e) f g k h = on_read now old scene e _ _ k (λ v. h _)
  on_read now old scene (core.Compute m o x y span) f g k h =
      on_read now old scene x _ _ k (λ a. on_read now old scene y _ _ k (λ b. h _))
  on_read now old scene (core.Compare c x y) f g k h =
      on_read now old scene x _ _ k (λ a. on_read now old scene y _ _ k (λ b. h _))
  on_read now old scene (core.Equal s x y) f g k h =
      on_read now old scene x _ _ k (λ a. on_read now old scene y _ _ k (λ b. h _))
  on_read now old scene (core.And x y) f g k h =
      on_read now old scene x _ _ k (λ a. branch_on (truth_in a) _ _ _ _ k (on_read now old scene y f g k h) (h _))
  on_read now old scene (core.Or x y) f g k h =
      on_read now old scene x _ _ k (λ a. branch_on (truth_in a) _ _ _ _ k (h _) (on_read now old scene y f g k h))
  on_read now old scene (core.Implies x y) f g k h =
      on_read now old scene x _ _ k (λ a. branch_on (truth_in a) _ _ _ _ k (on_read now old scene y f g k h) (h _))
  on_read now old scene (core.Old e) f g k h = on_read old old scene e f g k h

-- Lists

pub all_first : {A : Type 0} (P : A → Type 0) (xs ys : List A) → AllByRecursion P (xs ++ ys) → AllByRecursion P xs
all_first P [] ys h = tt
all_first P (x ∷ xs) ys h = (h.0, all_first P xs ys h.1)

pub all_second : {A : Type 0} (P : A → Type 0) (xs ys : List A) → AllByRecursion P (xs ++ ys) → AllByRecursion P ys
all_second P [] ys h = h
all_second P (x ∷ xs) ys h = all_second P xs ys h.1

-- Tests

module _ (table : List Entry) (nows olds : Values) (scene : Scene) where
  -- the length of an array, where it is one, is known
  abbrev pub KnownOf : Outcome → PvType → Lengths → KnownLengths → Type 0
  KnownOf (Missing span) type lengths known = Unit {0}
  KnownOf (Read v) type lengths known =
      nat_eq (reference_in v) 0 ≡ false → known type (reference_in v) ≡ Some (lengths type (reference_in v))

  abbrev pub IsAhead : Lengths → KnownLengths → Look → Type 0
  IsAhead lengths known (AtElements type array shift) = Unit {0}
  IsAhead lengths known (AtElement was type array index) = Unit {0}
  IsAhead lengths known (AtLength type array) =
      KnownOf (outcome table nows olds lengths scene array (λ v. Read v)) type lengths known
  IsAhead lengths known (AtTerm e) = Unit {0}

  abbrev pub AllAhead : List Look → Lengths → KnownLengths → Type 0
  AllAhead looks lengths known = AllByRecursion (IsAhead lengths known) looks

  abbrev in_values : Bool → Values
  in_values true = olds
  in_values false = nows

  module _ (name : Name) (lengths : Lengths) (known : KnownLengths) where
    read_same : (w : Option Value) (span : Span) (f g : Value → Outcome) → ((v : Value) → f v ≡ g v)
        → read_or w span f ≡ read_or w span g
    read_same None span f g h = refl
    read_same (Some v) span f g h = h v

    branch_same : (b : Bool) (x y x' y' : Outcome) → x ≡ x' → y ≡ y' → (if b then x else y) ≡ (if b then x' else y')
    branch_same true x y x' y' h k = h
    branch_same false x y x' y' h k = k

    length_same : (x : Outcome) (type : PvType) (span : Span) (f g : ℤ → Outcome) → KnownOf x type lengths known
        → ((n : ℤ) → f n ≡ g n)
        → and_on x (λ a. if nat_eq (reference_in a) 0 then Missing span else f (lengths type (reference_in a)))
        ≡ and_on x (λ a. if nat_eq (reference_in a) 0 then Missing span else known_or (known type (reference_in a)) span g)
    length_same (Missing s) type span f g is h = refl
    length_same (Read v) type span f g is h = by (nat_eq (reference_in v) 0) is
      where
        by : (b : Bool) → (b ≡ false → known type (reference_in v) ≡ Some (lengths type (reference_in v)))
            → (if b then Missing span else f (lengths type (reference_in v)))
            ≡ (if b then Missing span else known_or (known type (reference_in v)) span g)
        by true is = refl
        by false is = h _ ∙ ap (λ (o : Option ℤ). known_or o span g) (sym (is refl))

    -- an array that is looked at ahead is read at each position as it was read
    array_read : (b : Bool) (array : Expression) (type : PvType) (j : ℤ) → IsTerm name (in_state b array)
        → IsAhead lengths known (AtLength type (in_state b array))
        → KnownOf (outcome table (in_values b) olds lengths (at scene name j) array (λ v. Read v)) type lengths known
    array_read true array type j term is =
        subst (λ x. KnownOf x type lengths known)
        (sym (term_same (outcome_reader table olds lengths) (outcome_reader table olds lengths) scene name j array _ term)) is
    array_read false array type j term is =
        subst (λ x. KnownOf x type lengths known)
        (sym (term_same (outcome_reader table nows lengths) (outcome_reader table olds lengths) scene name j array _ term)) is

    abbrev Terms : List Look → Type 0
    Terms looks = AllByRecursion (IsTermLook name) looks

    abbrev Aheads : List Look → Type 0
    Aheads looks = AllAhead looks lengths known

    two_terms : (xs ys : List Look) → Terms (xs ++ ys) → Terms xs × Terms ys
    two_terms xs ys h = (all_first (IsTermLook name) xs ys h, all_second (IsTermLook name) xs ys h)

    two_aheads : (xs ys : List Look) → Aheads (xs ++ ys) → Aheads xs × Aheads ys
    two_aheads xs ys h = (all_first (IsAhead lengths known) xs ys h, all_second (IsAhead lengths known) xs ys h)

    -- where all lengths that are looked at ahead are known, an expression is read as it is with all lengths
    pub known_same : (j : ℤ) (b : Bool) (e : Expression) → Terms (looks_in name b e) → Aheads (looks_in name b e)
        → (f g : Value → Outcome) → ((v : Value) → f v ≡ g v)
        → outcome table (in_values b) olds lengths (at scene name j) e f
        ≡ known_outcome table (in_values b) olds known (at scene name j) e g
    known_same j b (core.Constant v) t a f g h = h v
    known_same j b core.This t a f g h = h _
    known_same j b core.Result t a f g h = h _
    known_same j b (core.Variable x) t a f g h = h _
    known_same j b (core.Field e class field span) t a f g h =
        known_same j b e t a _ _ (λ o. read_same ((in_values b) (InField class (reference_in o) field)) span f g h)
    known_same j b (core.Element type x i span) t a f g h =
        let look : List Look = look_at_element (shift_in name i) b type x i ∷ [] in
        let ts = two_terms (looks_in name b x) (looks_in name b i ++ look) t in
        let ts' = two_terms (looks_in name b i) look ts.1 in
        let aheads = two_aheads (looks_in name b x) (looks_in name b i ++ look) a in
        let aheads' = two_aheads (looks_in name b i) look aheads.1 in
        known_same j b x ts.0 aheads.0 _ _ (λ o. known_same j b i ts'.0 aheads'.0 _ _ (λ n.
        read_same ((in_values b) (InElement type (reference_in o) (number_in n))) span f g h))
    known_same j b (core.Length type x span) t a f g h =
        let look : List Look = AtLength type (in_state b x) ∷ [] in
        let ts = two_terms (looks_in name b x) look t in
        let aheads = two_aheads (looks_in name b x) look a in
        on_read table (all_known lengths) (in_values b) olds (at scene name j) x
        (λ v. if nat_eq (reference_in v) 0 then Missing span else f (value.Number (lengths type (reference_in v))))
        (λ v. Read v)
        (λ v. if nat_eq (reference_in v) 0 then Missing span else f (value.Number (lengths type (reference_in v)))) (λ v. refl)
        ∙ length_same (outcome table (in_values b) olds lengths (at scene name j) x (λ v. Read v)) type span
        (λ n. f (value.Number n)) (λ n. g (value.Number n)) (array_read b x type j ts.1.0 aheads.1.0) (λ n. h (value.Number n))
        ∙ ap (λ (o : Outcome). and_on o (λ v. if nat_eq (reference_in v) 0 then Missing span
        else known_or (known type (reference_in v)) span (λ n. g (value.Number n))))
        (known_same j b x ts.0 aheads.0 (λ v. Read v) (λ v. Read v) (λ v. refl))
        ∙ sym (on_read table known (in_values b) olds (at scene name j) x
        (λ v. if nat_eq (reference_in v) 0 then Missing span
        else known_or (known type (reference_in v)) span (λ n. g (value.Number n)))
        (λ v. Read v)
        (λ v. if nat_eq (reference_in v) 0 then Missing span
        else known_or (known type (reference_in v)) span (λ n. g (value.Number n))) (λ v. refl))
    known_same j b (core.Not e) t a f g h = known_same j b e t a _ _ (λ v. h _)
    known_same j b (core.Compute m o x y span) t a f g h =
        let ts = two_terms (looks_in name b x) (looks_in name b y) t in
        let aheads = two_aheads (looks_in name b x) (looks_in name b y) a in
        known_same j b x ts.0 aheads.0 _ _ (λ u. known_same j b y ts.1 aheads.1 _ _ (λ v. h _))
    known_same j b (core.Compare c x y) t a f g h =
        let look : List Look = term_beside name b x y in
        let ts = two_terms (looks_in name b x) (looks_in name b y ++ look) t in
        let aheads = two_aheads (looks_in name b x) (looks_in name b y ++ look) a in
        known_same j b x ts.0 aheads.0 _ _ (λ u. known_same j b y (two_terms (looks_in name b y) look ts.1).0
        (two_aheads (looks_in name b y) look aheads.1).0 _ _ (λ v. h _))
    known_same j b (core.Equal s x y) t a f g h =
        let look : List Look = term_beside name b x y in
        let ts = two_terms (looks_in name b x) (looks_in name b y ++ look) t in
        let aheads = two_aheads (looks_in name b x) (looks_in name b y ++ look) a in
        known_same j b x ts.0 aheads.0 _ _ (λ u. known_same j b y (two_terms (looks_in name b y) look ts.1).0
        (two_aheads (looks_in name b y) look aheads.1).0 _ _ (λ v. h _))
    known_same j b (core.And x y) t a f g h =
        let ts = two_terms (looks_in name b x) (looks_in name b y) t in
        let aheads = two_aheads (looks_in name b x) (looks_in name b y) a in
        known_same j b x ts.0 aheads.0 _ _
        (λ u. branch_same (truth_in u) _ _ _ _ (known_same j b y ts.1 aheads.1 f g h) (h _))
    known_same j b (core.Or x y) t a f g h =
        let ts = two_terms (looks_in name b x) (looks_in name b y) t in
        let aheads = two_aheads (looks_in name b x) (looks_in name b y) a in
        known_same j b x ts.0 aheads.0 _ _
        (λ u. branch_same (truth_in u) _ _ _ _ (h _) (known_same j b y ts.1 aheads.1 f g h))
    known_same j b (core.Implies x y) t a f g h =
        let ts = two_terms (looks_in name b x) (looks_in name b y) t in
        let aheads = two_aheads (looks_in name b x) (looks_in name b y) a in
        known_same j b x ts.0 aheads.0 _ _
        (λ u. branch_same (truth_in u) _ _ _ _ (known_same j b y ts.1 aheads.1 f g h) (h _))
    known_same j b (core.Old e) t a f g h = known_same j true e t a f g h

  -- The tests of a fact

  abbrev pub holds : Outcome → Bool
  holds (Missing span) = false
  holds (Read v) = truth_in v

  -- the fact is true at each position
  abbrev pub passes : Name → Expression → ℤ → ℕ → Lengths → Bool
  passes name e low n lengths = at_all (λ j. holds (outcome table nows olds lengths (at scene name j) e (λ v. Read v))) low n

  abbrev pub passes_known : Name → Expression → ℤ → ℕ → KnownLengths → Bool
  passes_known name e low n known =
      at_all (λ j. holds (known_outcome table nows olds known (at scene name j) e (λ v. Read v))) low n

  pub passes_same : (name : Name) (e : Expression) (lengths : Lengths) (known : KnownLengths)
      → AllByRecursion (IsTermLook name) (looks_of name e) → AllAhead (looks_of name e) lengths known
      → (low : ℤ) (n : ℕ) → passes name e low n lengths ≡ passes_known name e low n known
  passes_same name e lengths known t a low zero = refl
  passes_same name e lengths known t a low (suc n) =
      ap (λ (o : Outcome). holds o && passes name e (low +ℤ pos 1) n lengths)
      (known_same name lengths known low false e t a (λ v. Read v) (λ v. Read v) (λ v. refl))
      ∙ ap (λ b. holds (known_outcome table nows olds known (at scene name low) e (λ v. Read v)) && b)
      (passes_same name e lengths known t a (low +ℤ pos 1) n)

abbrev pub ReadsAs : Maps → Cells → Values → Type 0
ReadsAs m cells values = (r : Resource) → option_map (content m) (cells r) ≡ values r

module _ (table : List Entry) (m : Maps) (st : State) (T : Outcome → Judged)
    (stops : (span : Span) → (judging_tests m table).blocked ≡ T (Missing span)) where
  cell_tested : (c : Option Cell) (span : Span) (f : Value → Judged) (k : Value → Outcome) → ((v : Value) → f v ≡ T (k v))
      → or_blocked (judging_tests m table) c (λ x. f (content m x)) ≡ T (read_or (option_map (content m) c) span k)
  cell_tested None span f k h = stops span
  cell_tested (Some c) span f k h = h _

  read_tested : (cells : Cells) (values : Values) → ReadsAs m cells values → (r : Resource) (span : Span) (f : Value → Judged)
      (k : Value → Outcome) → ((v : Value) → f v ≡ T (k v))
      → or_blocked (judging_tests m table) (cells r) (λ x. f (content m x)) ≡ T (read_or (values r) span k)
  read_tested cells values reads r span f k h =
      cell_tested (cells r) span f k h ∙ ap (λ (w : Option Value). T (read_or w span k)) (reads r)

  length_tested : (b : Bool) (w : Option ℤ) (span : Span) (f : ℤ → Judged) (k : ℤ → Outcome) → ((n : ℤ) → f n ≡ T (k n))
      → (if b then (judging_tests m table).blocked else or_blocked (judging_tests m table) w f)
      ≡ T (if b then Missing span else known_or w span k)
  length_tested true w span f k h = stops span
  length_tested false None span f k h = stops span
  length_tested false (Some n) span f k h = h n

  operation_same : (manner : Manner) (o : Operation) (a b : ℤ) (span : Span) (f : ℤ → Judged)
      → operation_tested (judging_tests m table) manner o a b span f ≡ f (worked table manner o a b)
  operation_same core.Plain o a b span f = refl
  operation_same core.Tabled o a b span f = refl

  branch_tested : (b : Bool) (x y : Judged) (x' y' : Outcome) → x ≡ T x' → y ≡ T y'
      → (if b then x else y) ≡ T (if b then x' else y')
  branch_tested true x y x' y' h k = h
  branch_tested false x y x' y' h k = k

  pub tested : (now old : Cells) (nows olds : Values) → ReadsAs m now nows → ReadsAs m old olds → (scene : Scene) (e : Expression)
      (f : Value → Judged) (k : Value → Outcome) → ((v : Value) → f v ≡ T (k v))
      → evaluate (test_reader (judging_tests m table) st now) (test_reader (judging_tests m table) st old) scene e f
      ≡ T (known_outcome table nows olds st.lengths scene e k)
  tested now old nows olds hn ho scene (core.Constant v) f k h = h v
  tested now old nows olds hn ho scene core.This f k h = h _
  tested now old nows olds hn ho scene core.Result f k h = h _
  tested now old nows olds hn ho scene (core.Variable x) f k h = h _
  tested now old nows olds hn ho scene (core.Field e class field span) f k h =
      tested now old nows olds hn ho scene e _ _
      (λ o. read_tested now nows hn (InField class (reference_in o) field) span f k h)
  tested now old nows olds hn ho scene (core.Element type x i span) f k h =
      tested now old nows olds hn ho scene x _ _ (λ o. tested now old nows olds hn ho scene i _ _
      (λ n. read_tested now nows hn (InElement type (reference_in o) (number_in n)) span f k h))
  tested now old nows olds hn ho scene (core.Length type x span) f k h =
      tested now old nows olds hn ho scene x _ _ (λ a.
      length_tested (nat_eq (reference_in a) 0) (st.lengths type (reference_in a)) span (λ n. f (value.Number n))
      (λ n. k (value.Number n)) (λ n. h _))
  tested now old nows olds hn ho scene (core.Not e) f k h = tested now old nows olds hn ho scene e _ _ (λ v. h _)
  tested now old nows olds hn ho scene (core.Compute manner o x y span) f k h =
      tested now old nows olds hn ho scene x _ _ (λ a. tested now old nows olds hn ho scene y _ _ (λ b.
      operation_same manner o (number_in a) (number_in b) span (λ z. f (value.Number z)) ∙ h _))
  tested now old nows olds hn ho scene (core.Compare c x y) f k h =
      tested now old nows olds hn ho scene x _ _ (λ a. tested now old nows olds hn ho scene y _ _ (λ b. h _))
  tested now old nows olds hn ho scene (core.Equal s x y) f k h =
      tested now old nows olds hn ho scene x _ _ (λ a. tested now old nows olds hn ho scene y _ _ (λ b. h _))
  tested now old nows olds hn ho scene (core.And x y) f k h =
      tested now old nows olds hn ho scene x _ _
      (λ a. branch_tested (truth_in a) _ _ _ _ (tested now old nows olds hn ho scene y f k h) (h _))
  tested now old nows olds hn ho scene (core.Or x y) f k h =
      tested now old nows olds hn ho scene x _ _
      (λ a. branch_tested (truth_in a) _ _ _ _ (h _) (tested now old nows olds hn ho scene y f k h))
  tested now old nows olds hn ho scene (core.Implies x y) f k h =
      tested now old nows olds hn ho scene x _ _
      (λ a. branch_tested (truth_in a) _ _ _ _ (tested now old nows olds hn ho scene y f k h) (h _))
  tested now old nows olds hn ho scene (core.Old e) f k h = tested old old olds olds ho ho scene e f k h

both_true : (p q : Bool) (x y : Judged) → (if p then (if q then x else y) else y) ≡ (if p && q then x else y)
both_true true q x y = refl
both_true false q x y = refl

-- the tests of a fact say whether it is true at each position
pub all_tested : (table : List Entry) (m : Maps) (nows olds : Values) (k : Known) → ReadsAs m (cells_of k.state) nows
    → ReadsAs m k.bind.old olds → (rest : Judged) (low : ℤ) (n : ℕ)
    → test_from (judging_tests m table) k low n rest
    ≡ (if passes_known table nows olds k.bind.scene k.name k.fact low n k.state.lengths then rest
    else (judging_tests m table).blocked)
all_tested table m nows olds k hn ho rest low zero = refl
all_tested table m nows olds k hn ho rest low (suc n) =
    tested table m k.state
    (λ o. if holds table nows olds k.bind.scene o then test_from (judging_tests m table) k (low +ℤ pos 1) n rest
    else (judging_tests m table).blocked)
    (λ span. refl) (cells_of k.state) k.bind.old nows olds hn ho (at k.bind.scene k.name low) k.fact _ (λ v. Read v) (λ v. refl)
    ∙ ap (λ (r : Judged). if holds table nows olds k.bind.scene
    (known_outcome table nows olds k.state.lengths (at k.bind.scene k.name low) k.fact (λ v. Read v)) then r
    else (judging_tests m table).blocked)
    (all_tested table m nows olds k hn ho rest (low +ℤ pos 1) n)
    ∙ both_true
    (holds table nows olds k.bind.scene
    (known_outcome table nows olds k.state.lengths (at k.bind.scene k.name low) k.fact (λ v. Read v)))
    (passes_known table nows olds k.bind.scene k.name k.fact (low +ℤ pos 1) n k.state.lengths) rest
    (judging_tests m table).blocked

-- Looking ahead

module _ (table : List Entry) (Such : Maps → Type 0) (s : State) (cells : Cells) (nows olds : Values)
    (hn : (m : Maps) → Such m → (r : Resource) → option_map (content m) (cells_of s r) ≡ nows r)
    (ho : (m : Maps) → Such m → (r : Resource) → option_map (content m) (cells r) ≡ olds r) (scene : Scene) where
  abbrev on_value : Run → (Value → Run) → Outcome → Run
  on_value rest K (Missing span) = rest
  on_value rest K (Read v) = K v

  value_ahead : {O : Type 0} (M : O → Run) (e : Expression) (rest : Run) (K : Value → Run) (o : Outcome → Lengths → O)
      (P : Outcome → Lengths → KnownLengths → Type 0)
      → ((x : Outcome) → Looks table Such s (o x) (P x) M (on_value rest K x))
      → Looks table Such s (λ lengths. o (outcome table nows olds lengths scene e (λ v. Read v)) lengths)
      (λ lengths known. P (outcome table nows olds lengths scene e (λ v. Read v)) lengths known) M
      (λ m. value_in (judging m table) cells_of (λ span. rest m) (bound scene cells) e (λ v. K v m))
  value_ahead M e rest K o P looks =
      looks_on table Such s (λ lengths. outcome table nows olds lengths scene e (λ v. Read v)) (on_value rest K) o P M _
      (value_looks table Such s (on_value rest K) (λ span. rest)
      (λ span. looks_itself table Such s (Missing span) (on_value rest K))
      cells_of (λ st. cells) nows olds (λ m such known r. hn m such r) (λ m such known r. ho m such r) scene e
      (λ v lengths. Read v) K (λ v. looks_itself table Such s (Read v) (on_value rest K)))
      looks

  either_missing : (m : Maps) (c : Option Cell) (rest : Next Judged) (st : State)
      → or_missing (judging m table) c (rest st) (λ v. rest) st ≡ rest st
  either_missing m None rest st = refl
  either_missing m (Some c) rest st = refl

  module _ {O : Type 0} (o : Lengths → O) (M : O → Run) where
    pub arrays_look : (looks : List Look) (next : List ArrayPart → Run)
        → ((parts : List ArrayPart) → Looks table Such s o (Nothing table Such s) M (next parts))
        → Looks table Such s o (Nothing table Such s) M
        (λ m. arrays_read (judging m table) cells_of (bound scene cells) looks (λ parts. next parts m))
    arrays_look [] next h = h []
    arrays_look (AtElements type array shift ∷ looks) next h =
        value_ahead M array _ _ (λ x. o) (λ x. Nothing table Such s)
        (λ x. by x (arrays_look looks next h) (λ a. arrays_look looks (more a) (λ parts. h _)))
      where
        more : Value → List ArrayPart → Run
        more a parts = next (record { type = type; array = reference_in a; shift = shift } ∷ parts)

        run : (List ArrayPart → Run) → Run
        run after m = arrays_read (judging m table) cells_of (bound scene cells) looks (λ parts. after parts m)

        by : (x : Outcome) → Looks table Such s o (Nothing table Such s) M (run next)
            → ((a : Value) → Looks table Such s o (Nothing table Such s) M (run (more a)))
            → Looks table Such s o (Nothing table Such s) M (on_value (run next) (λ a. run (more a)) x)
        by (Missing span) none some = none
        by (Read a) none some = some a
    arrays_look (AtElement was type array index ∷ looks) next h = arrays_look looks next h
    arrays_look (AtLength type array ∷ looks) next h = arrays_look looks next h
    arrays_look (AtTerm e ∷ looks) next h = arrays_look looks next h

    module _ (r : Range) where
      abbrev Ahead : List Look → Lengths → KnownLengths → Type 0
      Ahead looks = AllAhead table nows olds scene looks

      abbrev ahead_run : List Look → (List ArrayPart → Run) → Run
      ahead_run looks next m = look_ahead (judging m table) cells_of (bound scene cells) r looks (λ parts. next parts m)

      -- the length that is looked at is known from then on
      length_ahead : (looks : List Look) (next : List ArrayPart → Run) (type : PvType) (array : ℕ) (b : Bool)
          → Looks table Such s o (Ahead looks) M (ahead_run looks next)
          → Looks table Such s o
          (λ lengths known. (b ≡ false → known type array ≡ Some (lengths type array)) × Ahead looks lengths known) M
          (λ m st. if b then ahead_run looks next m st
          else look_at_length (judging m table) type array (λ n. ahead_run looks next m) st)
      length_ahead looks next type array true h =
          looks_learned table Such s o (Ahead looks) _ M _ (λ lengths known ahead. ((λ is. absurd (cc is)), ahead)) h
      length_ahead looks next type array false h =
          length_looks table Such s (Ahead looks) _ M type array (λ n. o) (λ n. ahead_run looks next)
          (λ lengths known ahead is. ((λ no. is), ahead)) (λ n. h)

      pub ahead_looks : (looks : List Look) (next : List ArrayPart → Run)
          → ((parts : List ArrayPart) → Looks table Such s o (Nothing table Such s) M (next parts))
          → Looks table Such s o (Ahead looks) M (ahead_run looks next)
      ahead_looks [] next h = h []
      ahead_looks (AtElements type array shift ∷ looks) next h =
          value_ahead M array _ _ (λ x. o) (λ x lengths known. Unit {0} × Ahead looks lengths known)
          (λ x. by x (ahead_looks looks next h) (λ a. ahead_looks looks (more a) (λ parts. h _)))
        where
          more : Value → List ArrayPart → Run
          more a parts = next (record { type = type; array = reference_in a; shift = shift } ∷ parts)

          Q : Lengths → KnownLengths → Type 0
          Q lengths known = Unit {0} × Ahead looks lengths known

          by : (x : Outcome) → Looks table Such s o (Ahead looks) M (ahead_run looks next)
              → ((a : Value) → Looks table Such s o (Ahead looks) M (ahead_run looks (more a)))
              → Looks table Such s o Q M (on_value (ahead_run looks next) (λ a. ahead_run looks (more a)) x)
          by (Missing span) none some = looks_learned table Such s o (Ahead looks) Q M _ (λ lengths known p. (tt, p)) none
          by (Read a) none some = looks_learned table Such s o (Ahead looks) Q M _ (λ lengths known p. (tt, p)) (some a)
      ahead_looks (AtElement was type array index ∷ looks) next h =
          value_ahead M array _ _ (λ x. o) (λ x lengths known. Unit {0} × Ahead looks lengths known)
          (λ x. by x (looks_learned table Such s o (Ahead looks) Q M _ (λ lengths known p. (tt, p)) (ahead_looks looks next h)))
        where
          Q : Lengths → KnownLengths → Type 0
          Q lengths known = Unit {0} × Ahead looks lengths known

          element : Value → Value → Run
          element a i m st =
              or_missing (judging m table)
              (cells_at was cells_of (bound scene cells) st (InElement type (reference_in a) (number_in i)))
              (ahead_run looks next m st) (λ v. ahead_run looks next m) st

          at_index : Value → Run
          at_index a m =
              value_in (judging m table) cells_of (λ span. ahead_run looks next m) (bound scene cells) index (λ i. element a i m)

          then_index : (a : Value) (x : Outcome) → Looks table Such s o Q M (ahead_run looks next)
              → Looks table Such s o Q M (on_value (ahead_run looks next) (element a) x)
          then_index a (Missing span) rest = rest
          then_index a (Read i) rest =
              looks_as table Such s o Q M (element a i) (ahead_run looks next)
              (λ m such known. either_missing m
              (cells_at was cells_of (bound scene cells) (with_lengths s known)
              (InElement type (reference_in a) (number_in i)))
              (ahead_run looks next m) (with_lengths s known)) rest

          by : (x : Outcome) → Looks table Such s o Q M (ahead_run looks next)
              → Looks table Such s o Q M (on_value (ahead_run looks next) at_index x)
          by (Missing span) rest = rest
          by (Read a) rest =
              value_ahead M index (ahead_run looks next) (element a) (λ x. o) (λ x. Q) (λ x. then_index a x rest)
      ahead_looks (AtLength type array ∷ looks) next h =
          value_ahead M array _ _ (λ x. o)
          (λ x lengths known. KnownOf table nows olds scene x type lengths known × Ahead looks lengths known)
          (λ x. by x (ahead_looks looks next h))
        where
          by : (x : Outcome) → Looks table Such s o (Ahead looks) M (ahead_run looks next)
              → Looks table Such s o
              (λ lengths known. KnownOf table nows olds scene x type lengths known × Ahead looks lengths known) M
              (on_value (ahead_run looks next) (λ a m st. if nat_eq (reference_in a) 0 then ahead_run looks next m st
              else look_at_length (judging m table) type (reference_in a) (λ n. ahead_run looks next m) st) x)
          by (Missing span) rest = looks_learned table Such s o (Ahead looks) _ M _ (λ lengths known p. (tt, p)) rest
          by (Read a) rest = length_ahead looks next type (reference_in a) (nat_eq (reference_in a) 0) rest
      ahead_looks (AtTerm e ∷ looks) next h =
          value_ahead M e _ _ (λ x. o) (λ x lengths known. Unit {0} × Ahead looks lengths known)
          (λ x. by x (ahead_looks looks next h))
        where
          Q : Lengths → KnownLengths → Type 0
          Q lengths known = Unit {0} × Ahead looks lengths known

          by : (x : Outcome) → Looks table Such s o (Ahead looks) M (ahead_run looks next)
              → Looks table Such s o Q M (on_value (ahead_run looks next) (λ v. ahead_run looks next) x)
          by (Missing span) rest = looks_learned table Such s o (Ahead looks) Q M _ (λ lengths known p. (tt, p)) rest
          by (Read a) rest = looks_learned table Such s o (Ahead looks) Q M _ (λ lengths known p. (tt, p)) rest

  -- Coming to know

  abbrev pub if_passed : Run → Bool → Run
  if_passed next b m st = if b then next m st else (judging m table).blocked

  -- a run that comes to know a fact looks whether it is true at each position
  pub knowing_looks : (name : Name) (e : Expression) (r : Range) (next : Run) → AllByRecursion (IsTermLook name) (looks_of name e)
      → Looks table Such s (λ lengths. passes table nows olds scene name e r.low (width r.low r.high) lengths)
      (Nothing table Such s) (if_passed next)
      (λ m. come_to_know (judging m table) (bound scene cells) name e r (next m))
  knowing_looks name e r next terms = record {
    forward = λ m such known picks knows. by m known picks (looked.forward m such known picks knows);
    backward = λ lengths are known among.
        let c = looked.backward lengths are known among in record {
          later = c.later;
          includes = c.includes;
          among = c.among;
          learned = tt;
          ahead = λ m such rest.
              let x = c.ahead m such rest in (
                x.0,
                x.1,
                x.2
                    ∙ ap (λ b. if_passed next b m (with_lengths s c.later) rest) (sym (passes_same table nows olds scene name e
                    lengths c.later terms c.learned r.low (width r.low r.high))),
              );
        };
  }
    where
      known_run : Run
      known_run m st = if_passed next (passes_known table nows olds scene name e r.low (width r.low r.high) st.lengths) m st

      after : List ArrayPart → Run
      after parts m st = (judging m table).knowing (known_of (judging m table) st (bound scene cells) name e r parts) (next m st)

      looked : Looks table Such s (λ lengths. tt) (AllAhead table nows olds scene (looks_of name e)) (λ (x : Unit {0}). known_run)
          (λ m. come_to_know (judging m table) (bound scene cells) name e r (next m))
      looked =
          ahead_looks (λ lengths. tt) (λ (x : Unit {0}). known_run) r (looks_of name e) after (λ parts.
          looks_as table Such s (λ lengths. tt) (Nothing table Such s) (λ (x : Unit {0}). known_run) (after parts) known_run
          (λ m such known. all_tested table m nows olds
          (known_of (judging m table) (with_lengths s known) (bound scene cells) name e r parts)
          (hn m such) (ho m such) (next m (with_lengths s known)) r.low (width r.low r.high))
          (looks_itself table Such s tt (λ (x : Unit {0}). known_run)))

      by : (m : Maps) (known : KnownLengths) (picks : List Pick)
          → (come_to_know (judging m table) (bound scene cells) name e r (next m) (with_lengths s known) picks ≡ Blocked)
          ⊎ Onward table Such s (λ lengths. tt) (AllAhead table nows olds scene (looks_of name e)) (λ (x : Unit {0}). known_run)
          m known picks (come_to_know (judging m table) (bound scene cells) name e r (next m) (with_lengths s known) picks)
          → (come_to_know (judging m table) (bound scene cells) name e r (next m) (with_lengths s known) picks ≡ Blocked)
          ⊎ Onward table Such s (λ lengths. passes table nows olds scene name e r.low (width r.low r.high) lengths)
          (Nothing table Such s) (if_passed next) m known picks
          (come_to_know (judging m table) (bound scene cells) name e r (next m) (with_lengths s known) picks)
      by m known picks (inl blocked) = inl blocked
      by m known picks (inr f) = inr (record {
        later = f.later;
        rest = f.rest;
        what = passes_known table nows olds scene name e r.low (width r.low r.high) f.later;
        includes = f.includes;
        knows = f.knows;
        same_maps = f.same_maps;
        is = λ lengths among.
            passes_same table nows olds scene name e lengths f.later terms (f.learned lengths among) r.low (width r.low r.high);
        learned = λ lengths among. tt;
        ends = f.ends;
      })
