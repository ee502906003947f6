-- What runs offer lets one follow another: whatever reads a formula keeps it.
use Rattle.std.proofs.Common.{◌≡◌, ◌⊎◌, inl, inr, ℕ, ℤ, pos, Bool, true, false, ◌&&◌, Option, Some, None, List, [], ◌∷◌, refl, sym, ◌∙◌, ap, subst}
use Rattle.std.proofs.Math.Path.{fun_ext}
use Rattle.std.proofs.lemmas.Bool.{and_parts, and_from, eqb-true, eq-eqb}
use Rattle.std.proofs.lemmas.Option.{same_Some, none-some}
use Rattle.std.specs.Prelude.{nat_eq, int_le, if◌then◌else◌}
use Rattle.pv_base.specs.declared.Span.{Span}
use Rattle.pv_ast.specs.declared.PvType.{PvType}
use Rattle.pv_ast.specs.declared.PvType.TheVariants.{Int, Truth, Object, IntArray, TruthArray, Null}
use Rattle.pv_values.specs.declared.value.Value.{Value}
use Rattle.pv_values.specs.declared.value.Value.TheVariants as value
use Rattle.pv_ast.specs.declared.PvType.TheVariants.{Int}
use Rattle.pv_picks.specs.declared.check.Check.{Check}
use Rattle.pv_picks.specs.declared.evidence.Pick.{Pick}
use Rattle.pv_picks.specs.declared.evidence.Pick.TheVariants.{Number, Turn, Steps}
use Rattle.pv_picks.specs.declared.evidence.Entry.{Entry}
use Rattle.pv_picks.specs.Plain.Core.{Expression, Manner, Operation}
use Rattle.pv_picks.specs.Plain.Core as core
use Rattle.pv_picks.specs.Formulas.Values.{number_in, truth_in, reference_in}
use Rattle.pv_ast.specs.Rules.Typing.{same_type}
use Rattle.pv_picks.specs.Formulas.Evaluation.{Scene, evaluate, evaluate_all}
use Rattle.pv_picks.specs.Judge.States.{State, Resource, InField, InElement, Cell, Cells, with_length}
use Rattle.pv_picks.specs.Judge.Settings.{Next, known_or_picked, look_at_length, or_missing, operate, formula_reader}
use Rattle.pv_picks.specs.Judge.Runs.{End, Blocked, Failed, Judged, Maps, content, judging}
use Rattle.core_sharing.specs.Following.{Lengths, KnownLengths, IsLength, AreLengths, KnowsLengths, AreAmong, with_lengths, Counting, IsReached, Follows}
use Rattle.core_trees.proofs.Shapes.{equal_names}

-- Types and lengths

type_self : (t : PvType) → same_type t t ≡ true
type_self Int = refl
type_self Truth = refl
type_self (Object c) = eq-eqb c.0 c.0 refl
type_self IntArray = refl
type_self TruthArray = refl
type_self Null = refl

pub same_types : (t u : PvType) → same_type t u ≡ true → t ≡ u
same_types Int Int h = refl
same_types Int Truth h = absurd cc
same_types Int (Object d) h = absurd cc
same_types Int IntArray h = absurd cc
same_types Int TruthArray h = absurd cc
same_types Int Null h = absurd cc
same_types Truth Int h = absurd cc
same_types Truth Truth h = refl
same_types Truth (Object d) h = absurd cc
same_types Truth IntArray h = absurd cc
same_types Truth TruthArray h = absurd cc
same_types Truth Null h = absurd cc
same_types (Object c) Int h = absurd cc
same_types (Object c) Truth h = absurd cc
same_types (Object c) (Object d) h = ap Object (equal_names c d h)
same_types (Object c) IntArray h = absurd cc
same_types (Object c) TruthArray h = absurd cc
same_types (Object c) Null h = absurd cc
same_types IntArray Int h = absurd cc
same_types IntArray Truth h = absurd cc
same_types IntArray (Object d) h = absurd cc
same_types IntArray IntArray h = refl
same_types IntArray TruthArray h = absurd cc
same_types IntArray Null h = absurd cc
same_types TruthArray Int h = absurd cc
same_types TruthArray Truth h = absurd cc
same_types TruthArray (Object d) h = absurd cc
same_types TruthArray IntArray h = absurd cc
same_types TruthArray TruthArray h = refl
same_types TruthArray Null h = absurd cc
same_types Null Int h = absurd cc
same_types Null Truth h = absurd cc
same_types Null (Object d) h = absurd cc
same_types Null IntArray h = absurd cc
same_types Null TruthArray h = absurd cc
same_types Null Null h = refl

-- knows one length more
abbrev pub more : KnownLengths → PvType → ℕ → ℤ → KnownLengths
more known type array n t a = if same_type t type && nat_eq a array then Some n else known t a

pub more_here : (known : KnownLengths) (type : PvType) (array : ℕ) (n : ℤ) → more known type array n type array ≡ Some n
more_here known type array n =
    ap (λ b. if b then Some n else known type array) (and_from _ _ (type_self type) (eq-eqb array array refl))

abbrev pub zero_or : Option ℤ → ℤ
zero_or None = pos 0
zero_or (Some n) = n

pub some_lengths : (known : KnownLengths) → KnowsLengths known → AreLengths (λ type array. zero_or (known type array))
some_lengths known ok type array = go (known type array) refl
  where
    go : (o : Option ℤ) → known type array ≡ o → IsLength (zero_or o)
    go None is = refl
    go (Some n) is = ok type array n is

pub among_some : (known : KnownLengths) → AreAmong known (λ type array. zero_or (known type array))
among_some known type array n is = ap zero_or is

-- a length that is known already, or another one
pub more_among : (known : KnownLengths) (type : PvType) (array : ℕ) (n : ℤ) (lengths : Lengths) → lengths type array ≡ n
    → AreAmong known lengths → AreAmong (more known type array n) lengths
more_among known type array n lengths here among t a m is = go (same_type t type && nat_eq a array) refl is
  where
    go : (b : Bool) → (same_type t type && nat_eq a array) ≡ b → (if b then Some n else known t a) ≡ Some m → lengths t a ≡ m
    go true same is =
        let two = and_parts _ _ same in
        let types : t ≡ type = same_types t type two.0 in
        let arrays : a ≡ array = eqb-true a array two.1 in
        ap (λ u. lengths u a) types ∙ ap (λ b. lengths type b) arrays ∙ here ∙ same_Some n m is
    go false same is = among t a m is

less_among : (known : KnownLengths) (type : PvType) (array : ℕ) (n : ℤ) (lengths : Lengths) → known type array ≡ None
    → AreAmong (more known type array n) lengths → AreAmong known lengths
less_among known type array n lengths none among t a m is = go (same_type t type && nat_eq a array) refl
  where
    go : (b : Bool) → (same_type t type && nat_eq a array) ≡ b → lengths t a ≡ m
    go true same =
        let two = and_parts _ _ same in
        let types : t ≡ type = same_types t type two.0 in
        let arrays : a ≡ array = eqb-true a array two.1 in
        let here : known t a ≡ known type array = ap (λ u. known u a) types ∙ ap (λ b. known type b) arrays in
        absurd (none-some m (sym none ∙ sym here ∙ is))
    go false same = among t a m (ap (λ b. if b then Some n else known t a) same ∙ is)

pub more_knows : (known : KnownLengths) (type : PvType) (array : ℕ) (n : ℤ) → IsLength n → KnowsLengths known
    → KnowsLengths (more known type array n)
more_knows known type array n is_length knows t a m is = go (same_type t type && nat_eq a array) is
  where
    go : (b : Bool) → (if b then Some n else known t a) ≡ Some m → IsLength m
    go true is = subst IsLength (same_Some n m is) is_length
    go false is = knows t a m is

-- cells that hang on no lengths
abbrev pub AreSteady : (State → Cells) → Type 0
AreSteady cells = (s : State) (known : KnownLengths) → cells (with_lengths s known) ≡ cells s

-- the value of an expression of a formula, with what comes next where it can't be read
abbrev pub valued : Maps → List Entry → (Span → Next Judged) → (State → Cells) → (State → Cells) → Scene → Expression
    → (Value → Next Judged) → Next Judged
valued maps table missing now old scene e k =
    evaluate (formula_reader (judging maps table) now missing) (formula_reader (judging maps table) old missing) scene e k

abbrev pub all_valued : Maps → List Entry → (Span → Next Judged) → (State → Cells) → (State → Cells) → Scene → List Expression
    → (List Value → Next Judged) → Next Judged
all_valued maps table missing now old scene es k =
    evaluate_all (formula_reader (judging maps table) now missing) (formula_reader (judging maps table) old missing) scene es k

module _ (maps : Maps) (table : List Entry) (Counts : Counting) (same : (end : End) → Counts end end) where
  abbrev pub At : KnownLengths → End → (KnownLengths → Judged) → Type 0
  At learned end other = (end ≡ Blocked) ⊎ IsReached Counts learned end other

  -- an end that takes no picks
  pub ended : (s : State) (end : End) → KnowsLengths s.lengths → At s.lengths end (λ known picks. end)
  ended s end knows = inr (record {
    lengths = λ type array. zero_or (s.lengths type array);
    are_lengths = some_lengths s.lengths knows;
    among = among_some s.lengths;
    reaches = λ known among. ([], same end);
  })

  pub fails_follow : (named : Check) (span : Span)
      → Follows Counts (λ s. (judging maps table).failed named span) (λ s. (judging maps table).failed named span)
  fails_follow named span = record { from = λ s picks knows. ended s (Failed named span) knows }

  -- a length is known, or picked
  asked : (k : ℤ → Next Judged) (s : State) (end : End) (lengths : Lengths) (type : PvType) (array : ℕ) (n : ℤ)
      → AreLengths lengths → lengths type array ≡ n
      → ((known : KnownLengths) → AreAmong known lengths → (picks : List Pick) × Counts end (k n (with_lengths s known) picks))
      → (known : KnownLengths) → AreAmong known lengths
      → (picks : List Pick)
      × Counts end (known_or_picked (judging maps table) (known type array) type array k (with_lengths s known) picks)
  asked k s end lengths type array n are here reaches known among = go (known type array) refl
    where
      go : (o : Option ℤ) → known type array ≡ o
          → (picks : List Pick) × Counts end (known_or_picked (judging maps table) o type array k (with_lengths s known) picks)
      go (Some m) is =
          let one : n ≡ m = sym here ∙ among type array m is in
          let r = reaches known among in
          (r.0, subst (λ z. Counts end (k z (with_lengths s known) r.0)) one r.1)
      go None is =
          let r = reaches (more known type array n) (more_among known type array n lengths here among) in
          let is_length : int_le (pos 0) n ≡ true = subst IsLength here (are type array) in (
            Number n ∷ r.0,
            subst
                (λ b. Counts end ((if b then k n (with_length (with_lengths s known) type array n) else
                (judging maps table).blocked) r.0))
                (sym is_length) r.1,
          )

  length_at : (type : PvType) (array : ℕ) (k l : ℤ → Next Judged) → ((n : ℤ) → Follows Counts (k n) (l n))
      → (s : State) (picks : List Pick) → KnowsLengths s.lengths
      → At s.lengths (look_at_length (judging maps table) type array k s picks)
      (λ known. look_at_length (judging maps table) type array l (with_lengths s known))
  length_at type array k l follows s picks knows = go (s.lengths type array) refl picks
    where
      go : (o : Option ℤ) → s.lengths type array ≡ o → (picks : List Pick)
          → At s.lengths (known_or_picked (judging maps table) o type array k s picks)
          (λ known. known_or_picked (judging maps table) (known type array) type array l (with_lengths s known))
      go (Some n) is picks = kept ((follows n).from s picks knows)
        where
          kept : At s.lengths (k n s picks) (λ known. l n (with_lengths s known))
              → At s.lengths (k n s picks)
              (λ known. known_or_picked (judging maps table) (known type array) type array l (with_lengths s known))
          kept (inl blocked) = inl blocked
          kept (inr r) = inr (record {
            lengths = r.lengths;
            are_lengths = r.are_lengths;
            among = r.among;
            reaches = asked l s (k n s picks) r.lengths type array n r.are_lengths (r.among type array n is) r.reaches;
          })
      go None is [] = inl refl
      go None is (Turn n ∷ picks) = inl refl
      go None is (Steps map ∷ picks) = inl refl
      go None is (Number z ∷ picks) = picked (int_le (pos 0) z) refl
        where
          learned : State
          learned = with_length s type array z

          kept : At learned.lengths (k z learned picks) (λ known. l z (with_lengths s known))
              → At s.lengths (k z learned picks)
              (λ known. known_or_picked (judging maps table) (known type array) type array l (with_lengths s known))
          kept (inl blocked) = inl blocked
          kept (inr r) = inr (record {
            lengths = r.lengths;
            are_lengths = r.are_lengths;
            among = less_among s.lengths type array z r.lengths is r.among;
            reaches = asked l s (k z learned picks) r.lengths type array z r.are_lengths
                (r.among type array z (more_here s.lengths type array z)) r.reaches;
          })

          picked : (b : Bool) → int_le (pos 0) z ≡ b
              → At s.lengths ((if b then k z learned else (judging maps table).blocked) picks)
              (λ known. known_or_picked (judging maps table) (known type array) type array l (with_lengths s known))
          picked true is_length = kept ((follows z).from learned picks (more_knows s.lengths type array z is_length knows))
          picked false none = inl refl

  length_follows : (type : PvType) (array : ℕ) (k l : ℤ → Next Judged) → ((n : ℤ) → Follows Counts (k n) (l n))
      → Follows Counts (look_at_length (judging maps table) type array k) (look_at_length (judging maps table) type array l)
  length_follows type array k l follows = record { from = length_at type array k l follows }

  -- Expressions

  unless_follows : (b : Bool) (x y one other : Next Judged) → Follows Counts x y → Follows Counts one other
      → Follows Counts (λ s. if b then x s else one s) (λ s. if b then y s else other s)
  unless_follows true x y one other stops follows = stops
  unless_follows false x y one other stops follows = follows

  pub choice_follows : (b : Bool) (x y x' y' : Next Judged) → Follows Counts x x' → Follows Counts y y'
      → Follows Counts (if b then x else y) (if b then x' else y')
  choice_follows true x y x' y' h k = h
  choice_follows false x y x' y' h k = k

  cell_follows : (o : Option Cell) (x y : Next Judged) (k l : Value → Next Judged) → Follows Counts x y
      → ((v : Value) → Follows Counts (k v) (l v)) → (s : State) (picks : List Pick) → KnowsLengths s.lengths
      → At s.lengths (or_missing (judging maps table) o (x s) k s picks)
      (λ known. or_missing (judging maps table) o (y (with_lengths s known)) l (with_lengths s known))
  cell_follows None x y k l stops follows s picks knows = stops.from s picks knows
  cell_follows (Some c) x y k l stops follows s picks knows = (follows (content maps c)).from s picks knows

  read_follows : (cells : State → Cells) → AreSteady cells → (resource : Resource) (x y : Next Judged) (k l : Value → Next Judged)
      → Follows Counts x y → ((v : Value) → Follows Counts (k v) (l v))
      → Follows Counts (λ s. or_missing (judging maps table) (cells s resource) (x s) k s)
      (λ s. or_missing (judging maps table) (cells s resource) (y s) l s)
  read_follows cells steady resource x y k l stops follows = record {
    from = λ s picks knows.
        subst
        (λ (f : KnownLengths → Cells).
        At s.lengths (or_missing (judging maps table) (cells s resource) (x s) k s picks)
        (λ known. or_missing (judging maps table) (f known resource) (y (with_lengths s known)) l (with_lengths s known)))
        (sym (fun_ext (λ known. steady s known)))
        (cell_follows (cells s resource) x y k l stops follows s picks knows);
  }

  operation_follows : (m : Manner) (o : Operation) (a b : ℤ) (span : Span) (k l : ℤ → Next Judged)
      → ((z : ℤ) → Follows Counts (k z) (l z))
      → Follows Counts (operate (judging maps table) m o a b span k) (operate (judging maps table) m o a b span l)
  operation_follows core.Plain o a b span k l follows = follows _
  operation_follows core.Tabled o a b span k l follows = follows _

  pub evaluate_follows : (now old : State → Cells) → AreSteady now → AreSteady old → (scene : Scene)
      (m m' : Span → Next Judged) → ((span : Span) → Follows Counts (m span) (m' span)) → (e : Expression)
      (k l : Value → Next Judged) → ((v : Value) → Follows Counts (k v) (l v))
      → Follows Counts (valued maps table m now old scene e k) (valued maps table m' now old scene e l)
  evaluate_follows now old n o scene m m' stops (core.Constant v) k l follows = follows v
  evaluate_follows now old n o scene m m' stops core.This k l follows = follows _
  evaluate_follows now old n o scene m m' stops core.Result k l follows = follows _
  evaluate_follows now old n o scene m m' stops (core.Variable name) k l follows = follows _
  evaluate_follows now old n o scene m m' stops (core.Field e class field span) k l follows =
      evaluate_follows now old n o scene m m' stops e _ _
      (λ v. read_follows now n (InField class (reference_in v) field) (m span) (m' span) k l (stops span) follows)
  evaluate_follows now old n o scene m m' stops (core.Element type x i span) k l follows =
      evaluate_follows now old n o scene m m' stops x _ _ (λ a. evaluate_follows now old n o scene m m' stops i _ _ (λ v.
      read_follows now n (InElement type (reference_in a) (number_in v)) (m span) (m' span) k l (stops span) follows))
  evaluate_follows now old n o scene m m' stops (core.Length type x span) k l follows =
      evaluate_follows now old n o scene m m' stops x _ _ (λ a.
      unless_follows (nat_eq (reference_in a) 0) (m span) (m' span)
      (look_at_length (judging maps table) type (reference_in a) (λ z. k (value.Number z)))
      (look_at_length (judging maps table) type (reference_in a) (λ z. l (value.Number z)))
      (stops span) (length_follows type (reference_in a) _ _ (λ z. follows (value.Number z))))
  evaluate_follows now old n o scene m m' stops (core.Not e) k l follows =
      evaluate_follows now old n o scene m m' stops e _ _ (λ v. follows _)
  evaluate_follows now old n o scene m m' stops (core.Compute manner operation x y span) k l follows =
      evaluate_follows now old n o scene m m' stops x _ _ (λ a. evaluate_follows now old n o scene m m' stops y _ _ (λ b.
      operation_follows manner operation (number_in a) (number_in b) span _ _ (λ z. follows (value.Number z))))
  evaluate_follows now old n o scene m m' stops (core.Compare c x y) k l follows =
      evaluate_follows now old n o scene m m' stops x _ _
      (λ a. evaluate_follows now old n o scene m m' stops y _ _ (λ b. follows _))
  evaluate_follows now old n o scene m m' stops (core.Equal b x y) k l follows =
      evaluate_follows now old n o scene m m' stops x _ _
      (λ a. evaluate_follows now old n o scene m m' stops y _ _ (λ b. follows _))
  evaluate_follows now old n o scene m m' stops (core.And x y) k l follows =
      evaluate_follows now old n o scene m m' stops x _ _ (λ a.
      choice_follows (truth_in a) _ _ _ _ (evaluate_follows now old n o scene m m' stops y k l follows) (follows _))
  evaluate_follows now old n o scene m m' stops (core.Or x y) k l follows =
      evaluate_follows now old n o scene m m' stops x _ _ (λ a.
      choice_follows (truth_in a) _ _ _ _ (follows _) (evaluate_follows now old n o scene m m' stops y k l follows))
  evaluate_follows now old n o scene m m' stops (core.Implies x y) k l follows =
      evaluate_follows now old n o scene m m' stops x _ _ (λ a.
      choice_follows (truth_in a) _ _ _ _ (evaluate_follows now old n o scene m m' stops y k l follows) (follows _))
  evaluate_follows now old n o scene m m' stops (core.Old e) k l follows =
      evaluate_follows old old o o scene m m' stops e k l follows

  pub evaluate_all_follows : (now old : State → Cells) → AreSteady now → AreSteady old → (scene : Scene)
      (m m' : Span → Next Judged) → ((span : Span) → Follows Counts (m span) (m' span)) → (es : List Expression)
      (k l : List Value → Next Judged) → ((vs : List Value) → Follows Counts (k vs) (l vs))
      → Follows Counts (all_valued maps table m now old scene es k) (all_valued maps table m' now old scene es l)
  evaluate_all_follows now old n o scene m m' stops [] k l follows = follows []
  evaluate_all_follows now old n o scene m m' stops (e ∷ es) k l follows =
      evaluate_follows now old n o scene m m' stops e _ _
      (λ v. evaluate_all_follows now old n o scene m m' stops es _ _ (λ vs. follows (v ∷ vs)))

  -- Picks

  pick_at : (k l : ℤ → Next Judged) → ((z : ℤ) → Follows Counts (k z) (l z)) → (s : State) (picks : List Pick)
      → KnowsLengths s.lengths
      → At s.lengths ((judging maps table).pick Int (λ z. k z s) picks)
      (λ known. (judging maps table).pick Int (λ z. l z (with_lengths s known)))
  pick_at k l follows s [] knows = inl refl
  pick_at k l follows s (Turn n ∷ picks) knows = inl refl
  pick_at k l follows s (Steps map ∷ picks) knows = inl refl
  pick_at k l follows s (Number z ∷ picks) knows = kept ((follows z).from s picks knows)
    where
      kept : At s.lengths (k z s picks) (λ known. l z (with_lengths s known))
          → At s.lengths (k z s picks) (λ known. (judging maps table).pick Int (λ i. l i (with_lengths s known)))
      kept (inl blocked) = inl blocked
      kept (inr r) = inr (record {
        lengths = r.lengths;
        are_lengths = r.are_lengths;
        among = r.among;
        reaches = λ known among. let x = r.reaches known among in (Number z ∷ x.0, x.1);
      })

  pub pick_follows : (k l : ℤ → Next Judged) → ((z : ℤ) → Follows Counts (k z) (l z))
      → Follows Counts (λ s. (judging maps table).pick Int (λ z. k z s)) (λ s. (judging maps table).pick Int (λ z. l z s))
  pick_follows k l follows = record { from = pick_at k l follows }

  -- Where the one run alone looks

  length_ahead_at : (type : PvType) (array : ℕ) (k : ℤ → Next Judged) (other : Next Judged)
      → ((n : ℤ) → Follows Counts (k n) other)
      → (s : State) (picks : List Pick) → KnowsLengths s.lengths
      → At s.lengths (look_at_length (judging maps table) type array k s picks) (λ known. other (with_lengths s known))
  length_ahead_at type array k other follows s picks knows = go (s.lengths type array) refl picks
    where
      go : (o : Option ℤ) → s.lengths type array ≡ o → (picks : List Pick)
          → At s.lengths (known_or_picked (judging maps table) o type array k s picks) (λ known. other (with_lengths s known))
      go (Some n) is picks = (follows n).from s picks knows
      go None is [] = inl refl
      go None is (Turn n ∷ picks) = inl refl
      go None is (Steps map ∷ picks) = inl refl
      go None is (Number z ∷ picks) = picked (int_le (pos 0) z) refl
        where
          learned : State
          learned = with_length s type array z

          kept : At learned.lengths (k z learned picks) (λ known. other (with_lengths s known))
              → At s.lengths (k z learned picks) (λ known. other (with_lengths s known))
          kept (inl blocked) = inl blocked
          kept (inr r) = inr (record {
            lengths = r.lengths;
            are_lengths = r.are_lengths;
            among = less_among s.lengths type array z r.lengths is r.among;
            reaches = r.reaches;
          })

          picked : (b : Bool) → int_le (pos 0) z ≡ b
              → At s.lengths ((if b then k z learned else (judging maps table).blocked) picks)
              (λ known. other (with_lengths s known))
          picked true is_length = kept ((follows z).from learned picks (more_knows s.lengths type array z is_length knows))
          picked false none = inl refl

  length_ahead : (type : PvType) (array : ℕ) (k : ℤ → Next Judged) (other : Next Judged) → ((n : ℤ) → Follows Counts (k n) other)
      → Follows Counts (look_at_length (judging maps table) type array k) other
  length_ahead type array k other follows = record { from = length_ahead_at type array k other follows }

  unless_ahead : (b : Bool) (x y other : Next Judged) → Follows Counts x other → Follows Counts y other
      → Follows Counts (λ s. if b then x s else y s) other
  unless_ahead true x y other h k = h
  unless_ahead false x y other h k = k

  choice_ahead : (b : Bool) (x y other : Next Judged) → Follows Counts x other → Follows Counts y other
      → Follows Counts (if b then x else y) other
  choice_ahead true x y other h k = h
  choice_ahead false x y other h k = k

  cell_ahead : (o : Option Cell) (x : Next Judged) (k : Value → Next Judged) (other : Next Judged) → Follows Counts x other
      → ((v : Value) → Follows Counts (k v) other) → (s : State) (picks : List Pick) → KnowsLengths s.lengths
      → At s.lengths (or_missing (judging maps table) o (x s) k s picks) (λ known. other (with_lengths s known))
  cell_ahead None x k other stops follows s picks knows = stops.from s picks knows
  cell_ahead (Some c) x k other stops follows s picks knows = (follows (content maps c)).from s picks knows

  read_ahead : (cells : State → Cells) (resource : Resource) (x : Next Judged) (k : Value → Next Judged) (other : Next Judged)
      → Follows Counts x other → ((v : Value) → Follows Counts (k v) other)
      → Follows Counts (λ s. or_missing (judging maps table) (cells s resource) (x s) k s) other
  read_ahead cells resource x k other stops follows =
      record { from = λ s picks knows. cell_ahead (cells s resource) x k other stops follows s picks knows }

  operation_ahead : (manner : Manner) (o : Operation) (a b : ℤ) (span : Span) (k : ℤ → Next Judged) (other : Next Judged)
      → ((z : ℤ) → Follows Counts (k z) other) → Follows Counts (operate (judging maps table) manner o a b span k) other
  operation_ahead core.Plain o a b span k other follows = follows _
  operation_ahead core.Tabled o a b span k other follows = follows _

  pub value_ahead : (now old : State → Cells) (scene : Scene) (other : Next Judged) (m : Span → Next Judged)
      → ((span : Span) → Follows Counts (m span) other) → (e : Expression) (k : Value → Next Judged)
      → ((v : Value) → Follows Counts (k v) other) → Follows Counts (valued maps table m now old scene e k) other
  value_ahead now old scene other m stops (core.Constant v) k follows = follows v
  value_ahead now old scene other m stops core.This k follows = follows _
  value_ahead now old scene other m stops core.Result k follows = follows _
  value_ahead now old scene other m stops (core.Variable name) k follows = follows _
  value_ahead now old scene other m stops (core.Field e class field span) k follows =
      value_ahead now old scene other m stops e _ (λ v.
      read_ahead now (InField class (reference_in v) field) (m span) k other (stops span) follows)
  value_ahead now old scene other m stops (core.Element type x i span) k follows =
      value_ahead now old scene other m stops x _ (λ a. value_ahead now old scene other m stops i _ (λ v.
      read_ahead now (InElement type (reference_in a) (number_in v)) (m span) k other (stops span) follows))
  value_ahead now old scene other m stops (core.Length type x span) k follows =
      value_ahead now old scene other m stops x _ (λ a.
      unless_ahead (nat_eq (reference_in a) 0) (m span)
      (look_at_length (judging maps table) type (reference_in a) (λ z. k (value.Number z))) other (stops span)
      (length_ahead type (reference_in a) _ other (λ z. follows (value.Number z))))
  value_ahead now old scene other m stops (core.Not e) k follows = value_ahead now old scene other m stops e _ (λ v. follows _)
  value_ahead now old scene other m stops (core.Compute manner operation x y span) k follows =
      value_ahead now old scene other m stops x _ (λ a. value_ahead now old scene other m stops y _ (λ b.
      operation_ahead manner operation (number_in a) (number_in b) span _ other (λ z. follows (value.Number z))))
  value_ahead now old scene other m stops (core.Compare c x y) k follows =
      value_ahead now old scene other m stops x _ (λ a. value_ahead now old scene other m stops y _ (λ b. follows _))
  value_ahead now old scene other m stops (core.Equal b x y) k follows =
      value_ahead now old scene other m stops x _ (λ a. value_ahead now old scene other m stops y _ (λ b. follows _))
  value_ahead now old scene other m stops (core.And x y) k follows =
      value_ahead now old scene other m stops x _ (λ a.
      choice_ahead (truth_in a) _ _ other (value_ahead now old scene other m stops y k follows) (follows _))
  value_ahead now old scene other m stops (core.Or x y) k follows =
      value_ahead now old scene other m stops x _ (λ a.
      choice_ahead (truth_in a) _ _ other (follows _) (value_ahead now old scene other m stops y k follows))
  value_ahead now old scene other m stops (core.Implies x y) k follows =
      value_ahead now old scene other m stops x _ (λ a.
      choice_ahead (truth_in a) _ _ other (value_ahead now old scene other m stops y k follows) (follows _))
  value_ahead now old scene other m stops (core.Old e) k follows = value_ahead old old scene other m stops e k follows

  pick_ahead_at : (k : ℤ → Next Judged) (other : Next Judged) → ((z : ℤ) → Follows Counts (k z) other) → (s : State)
      (picks : List Pick) → KnowsLengths s.lengths
      → At s.lengths ((judging maps table).pick Int (λ z. k z s) picks) (λ known. other (with_lengths s known))
  pick_ahead_at k other follows s [] knows = inl refl
  pick_ahead_at k other follows s (Turn n ∷ picks) knows = inl refl
  pick_ahead_at k other follows s (Steps map ∷ picks) knows = inl refl
  pick_ahead_at k other follows s (Number z ∷ picks) knows = (follows z).from s picks knows

  pub pick_ahead : (k : ℤ → Next Judged) (other : Next Judged) → ((z : ℤ) → Follows Counts (k z) other)
      → Follows Counts (λ s. (judging maps table).pick Int (λ z. k z s)) other
  pick_ahead k other follows = record { from = pick_ahead_at k other follows }
