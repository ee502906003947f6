-- What runs hold of picks for ranges stands where it was picked, and all that they read of it is at names.
use Rattle.std.proofs.Common.{◌≡◌, ℕ, zero, suc, ◌+◌, ℤ, pos, Bool, true, false, if◌then◌else◌, Option, Some, None, List, [], ◌∷◌, ◌++◌, map, refl, ap, sym, subst, ◌∙◌, ◌⊎◌, inl, inr}
use Rattle.std.specs.Prelude.{nat_lt, option_map, ◌-◌, ◌+ℤ◌}
use Rattle.pv_base.specs.declared.Name.{Name}
use Rattle.pv_ast.specs.declared.PvType.{PvType}
use Rattle.pv_values.specs.declared.value.Value.{Value}
use Rattle.pv_picks.specs.declared.evidence.Pick.{Pick}
use Rattle.pv_picks.specs.declared.evidence.Pick.TheVariants.{Number, Turn, Steps}
use Rattle.pv_picks.specs.declared.evidence.Entry.{Entry}
use Rattle.pv_picks.specs.Plain.Core.{Operation, Expression}
use Rattle.pv_picks.specs.Formulas.Values.{number_in, width}
use Rattle.pv_ast.specs.Rules.Typing.{same_type}
use Rattle.pv_picks.specs.Judge.States.{State, Resource, InField, InElement, OfToken, OfLock, same_resource, Cell, Cells, Written, FromSteps, Bind, Holding, holding, amount_of, cell_held, plain_cell, is_among, cell_among, index_of, cells_of, with_range, with_elements, empty_state}
use Rattle.pv_picks.specs.Judge.Settings.{Setting, Event, AtField, AtToken, AtLock, AtInstance, AtArray, AtArrayLength, ArrayPart, Known}
use Rattle.pv_picks.specs.Judge.Repetitions.{Range, Look, AtElements, AtElement, AtLength, AtTerm, shifted, looks_of}
use Rattle.pv_picks.specs.Judge.Steady.{Steady, NoElements}
use Rattle.pv_picks.specs.Judge.Inhaling.{known_of}
use Rattle.pv_picks.specs.Judge.Runs.{Blocked, Maps, content, value_of_operation}
use Rattle.pv_picks.specs.Lazy.Patterns.{Array, array_in, arrays_in, named_on, positions_of, positions_of_parts}
use Rattle.pv_picks.specs.Lazy.Runs.{taken_in, ranged, Memory, RangeOf, ReadAs, Final, final, Outcome, at_end, Ends, Unfit, OneNumber, OneTurn, Source, Lazily, operation_or, value_used, with_event, join_fact, part_events, name_ends, reads_none, test_all, known_if}
use Rattle.pv_picks.proofs.Sames.{front, back, resources_same}
use Rattle.judge_laws.proofs.Lookups.{used_right, fits_more}
use Rattle.judge_facts.specs.Finite.{IsOneOf}
use Rattle.judge_facts.specs.Fair.{names_of}
use Rattle.judge_facts.specs.Shapes.{IsRepeatable}
use Rattle.judge_facts.proofs.Joining.{names_meet}
use Rattle.judge_facts.proofs.Spreading.{raised}
use Rattle.judge_facts.proofs.Shifting.{steady_shifted}
use Rattle.judge_facts.proofs.Evenness as even
use Rattle.judge_facts.proofs.Evenness.{the_same}
use Rattle.judge_facts.proofs.Naming.{own_names, names_more, is_last}
use Rattle.judge_facts.proofs.Ways as ways
use Rattle.judge_facts.proofs.Lockstep as lockstep
use Rattle.judge_facts.proofs.Growing.{Grows, all_grow, ends_grow, parts_grow, join_grows}
use Rattle.judge_facts.proofs.Pairing as pairing
use Rattle.judge_facts.proofs.Keeping.{Invariant, IsKept, IsClosed, Kept, Made, Looked, SameCells, cells_same, AllShifted}
use Rattle.judge_facts.proofs.ReadingFacts.{NamedAt, LooksNamed, reads_names}
use Rattle.judge_facts.proofs.Reading as reading

holds_cell : (n : ℕ) (x c : Cell) → option_map (λ (h : Holding). h.cell) (holding n x) ≡ Some c → x ≡ c
holds_cell zero x c e = absurd (cc e)
holds_cell (suc n) x c e = cc e

shift_is : (z : ℤ) (parts : List ArrayPart) → AllShifted z parts → (p : ArrayPart) → IsOneOf p parts → p.shift ≡ z
shift_is z [] h p i = absurd i
shift_is z (x ∷ xs) h p (inl e) = ap (λ (y : ArrayPart). y.shift) e ∙ h.0
shift_is z (x ∷ xs) h p (inr i) = shift_is z xs h.1 p i

array_there : (p : ArrayPart) (parts : List ArrayPart) → IsOneOf p parts → (k : Known) → k.parts ≡ parts
    → IsOneOf (array_in p) (arrays_in k)
array_there p parts i k e = subst (λ (xs : List ArrayPart). IsOneOf (array_in p) (map array_in xs)) (sym e) (go parts i)
  where
    go : (xs : List ArrayPart) → IsOneOf p xs → IsOneOf (array_in p) (map array_in xs)
    go [] j = absurd j
    go (x ∷ xs) (inl e) = inl (ap array_in e)
    go (x ∷ xs) (inr j) = inr (go xs j)

module _ (maps : Maps) (table : List Entry) (F : Final) where
  abbrev N : Array → List ℤ
  N a = names_of F a

  abbrev R : ℕ → PvType → ℕ → Type 0
  R n t a = reading.R maps table F n t a

  abbrev CellAt : Resource → Cell → Type 0
  CellAt x c = reading.CellAt maps table F x c

  abbrev CellsAt : Cells → Type 0
  CellsAt cells = reading.CellsAt maps table F cells

  -- States

  abbrev Placed : State → Type 0
  Placed s = CellsAt (cells_of s) × CellsAt s.old

  abbrev pub invariant : Invariant
  invariant = record {
    states = Placed;
    olds = CellsAt;
    named = even.Named maps N;
    ranged = R;
    placed = even.Placed maps N;
    readable = λ c. reading.Readable maps table F c;
    shape = IsRepeatable;
  }

  same_placed : (s t : State) → t.held ≡ s.held → t.old ≡ s.old → Placed s → Placed t
  same_placed s t e f h = (
    subst CellsAt (ap (λ (held : Resource → Option Holding). λ (x : Resource). option_map (λ h. h.cell) (held x)) (sym e)) h.0,
    subst CellsAt (sym f) h.1,
  )

  held_at : (s : State) → Placed s → (x : Resource) (o : Option Holding) → s.held x ≡ o → CellAt x (cell_held o)
  held_at s h x None e = tt
  held_at s h x (Some k) e = h.0 x k.cell (ap (option_map (λ (k : Holding). k.cell)) e)

  -- one place
  put_placed : (s : State) (x : Resource) (n : ℕ) (k : Cell) → CellAt x k → Placed s
      → Placed (record s { held = λ y. if same_resource y x then holding n k else s.held y })
  put_placed s x n k at h = (λ y c e. go y c (same_resource y x) refl e, h.1)
    where
      go : (y : Resource) (c : Cell) (b : Bool) → same_resource y x ≡ b
          → option_map (λ (h : Holding). h.cell) (if b then holding n k else s.held y) ≡ Some c → CellAt y c
      go y c true q e =
          subst (λ (z : Resource). CellAt z c) (sym (resources_same y x q))
          (subst (λ (z : Cell). CellAt x z) (holds_cell n k c e) at)
      go y c false q e = h.0 y c e

  -- the elements of a range
  fill_placed : (s : State) (t : PvType) (a : ℕ) (l u : ℤ) (amount : Resource → ℕ) (cell : Resource → Cell)
      → ((b : ℕ) (v : PvType) (i : ℤ) → is_among t a l u (InElement v b i) ≡ true
      → CellAt (InElement v b i) (cell (InElement v b i)))
      → Placed s → Placed (record s { held = λ y. if is_among t a l u y then holding (amount y) (cell y) else s.held y })
  fill_placed s t a l u amount cell at h = (there, h.1)
    where
      go : (y : Resource) (c : Cell) (b : Bool) → (b ≡ true → CellAt y (cell y))
          → option_map (λ (h : Holding). h.cell) (if b then holding (amount y) (cell y) else s.held y) ≡ Some c → CellAt y c
      go y c true f e = subst (λ (z : Cell). CellAt y z) (holds_cell (amount y) (cell y) c e) (f refl)
      go y c false f e = h.0 y c e

      there : (y : Resource) (c : Cell)
          → option_map (λ (h : Holding). h.cell) (if is_among t a l u y then holding (amount y) (cell y) else s.held y) ≡ Some c
          → CellAt y c
      there (InElement v b i) c e = go (InElement v b i) c (is_among t a l u (InElement v b i)) (at b v i) e
      there (InField d o f) c e = h.0 (InField d o f) c e
      there (OfToken k d o) c e = h.0 (OfToken k d o) c e
      there (OfLock d o) c e = h.0 (OfLock d o) c e

  among_at : (y : Resource) (o : Option Holding) (given : ℤ → Cell) (l : ℤ) → CellAt y (cell_held o)
      → CellAt y (given (index_of y l))
      → CellAt y (cell_among o given y l)
  among_at y None given l h g = g
  among_at y (Some k) given l h g = h

  range_placed : (s : State) (t : PvType) (a : ℕ) (l u : ℤ) (n : ℕ) → R s.steps t a → Placed s → Placed (with_range s t a l u n)
  range_placed s t a l u n r h =
      same_placed (with_elements s t a l u n (FromSteps t s.steps)) (with_range s t a l u n) refl refl
      (fill_placed s t a l u (λ y. amount_of s y + n) (λ y. cell_among (s.held y) (FromSteps t s.steps) y l)
      (λ b v i q. among_at (InElement v b i) (s.held (InElement v b i)) (FromSteps t s.steps) l
      (held_at s h (InElement v b i) (s.held (InElement v b i)) refl) (
        refl,
        subst (λ (y : Array). R s.steps y.0 y.1)
            (the_same v t b a (front _ _ q) (front _ _ (back (same_type v t) _ q))) r,
      )) h)

  pub closed : IsClosed invariant
  closed = record {
    same = same_placed;
    field = λ d o n. tt;
    token = λ t d o. tt;
    lock = λ d o. tt;
    element = λ t a i h. (h i (inl refl), h (i +ℤ pos 1) (inr (inl refl)));
    amount = λ s x n pl h. put_placed s x n (cell_held (s.held x)) (held_at s h x (s.held x) refl) h;
    value = λ s x n v pl h. put_placed s x n (plain_cell v) tt h;
    range = λ s t a l u n ends r ranged h. range_placed s t a l u n ranged h;
    without = λ s t a l u n ends r h. fill_placed s t a l u (λ y. amount_of s y - n) (λ y. cell_held (s.held y))
        (λ b v i q. held_at s h (InElement v b i) (s.held (InElement v b i)) refl) h;
    elements = λ s t a l u n v ends r h.
        fill_placed s t a l u (λ y. amount_of s y + n) (λ y. cell_among (s.held y) (λ i. plain_cell v) y l)
        (λ b w i q. among_at (InElement w b i) (s.held (InElement w b i)) (λ j. plain_cell v) l
        (held_at s h (InElement w b i) (s.held (InElement w b i)) refl) tt) h;
    nothing = λ s h. (λ x c e. absurd (cc e), h.1);
    remember = λ s h. (h.0, h.0);
    old = λ s h. h.1;
    cells = λ s h. h.0;
    none = λ x c e. absurd (cc e);
    places = λ n e h. h.0.0;
    readable = readable;
  }
    where
      readable : (cells : Cells) → CellsAt cells → (x : Resource) → even.Placed maps N x → (c : Cell) → cells x ≡ Some c
          → reading.Readable maps table F c
      readable cells h (InElement t a i) pl c e = reading.readable_at maps table F cells h t a i pl.0 c e
      readable cells h (InField d o f) pl c e = reading.readable_field maps table F cells h d o f c e
      readable cells h (OfToken k d o) pl (Written v) e = tt
      readable cells h (OfToken k d o) pl (FromSteps u n j) e = absurd (h (OfToken k d o) (FromSteps u n j) e)
      readable cells h (OfLock d o) pl (Written v) e = tt
      readable cells h (OfLock d o) pl (FromSteps u n j) e = absurd (h (OfLock d o) (FromSteps u n j) e)

  pub empty_placed : Placed empty_state
  empty_placed = (λ x c e. absurd (cc e), λ x c e. absurd (cc e))

  -- Runs

  abbrev Lazy : Type 0
  Lazy = Lazily (List Pick) Final

  abbrev S : Source (List Pick) Final
  S = ways.S maps table

  abbrev Pair : Type 0
  Pair = pairing.Pair maps table

  abbrev T : Setting Pair
  T = pairing.T maps table

  abbrev Fit : Memory → Type 0
  Fit m = ways.Fit maps table m

  abbrev Live : Final → Type 0
  Live f = lockstep.Live maps table f

  abbrev AllRead : List ReadAs → Type 0
  AllRead xs = reading.AllRead maps table F xs

  -- what is known at a position whose indexes are named is read at names
  pub record ReadsWell (k : Known) : Type 0 where
    pub shift : ℤ
    pub shifted : AllShifted shift k.parts
    pub reads : (q : ℤ) → NamedAt maps table N q k.parts → reading.FactAt maps table F k q

  abbrev AllWell : List Known → Type 0
  AllWell ks = (k : Known) → IsOneOf k ks → ReadsWell k

  -- the end of a part of the run
  pub record Within (f : Final) : Type 0 where
    pub names : (a : Array) (z : ℤ) → IsOneOf z (named_on [] f.events a) → IsOneOf z (named_on [] F.events a)
    pub ranges : (x : RangeOf) → IsOneOf x f.ranges → IsOneOf x F.ranges
    pub known : (k : Known) → IsOneOf k f.known → IsOneOf k F.known

  abbrev pub Good : Final → Type 0
  Good f = Live f → Within f → AllRead f.reads

  abbrev Rests : Lazy → Type 0
  Rests y = (m : Memory) (ps : List Pick) → Fit m → AllRead m.reads → AllWell m.known → Good (y m ps).end

  abbrev pub Holds : Pair → Type 0
  Holds x = Rests x.0

  dead : (o : Final) → o.end ≡ Ends Blocked → Good o
  dead o b l w = absurd (l.0 b)

  -- at a named position of a fact all its indexes are named
  named_at : (m : Memory) → ((k : Known) → IsOneOf k m.known → IsOneOf k F.known)
      → ((a : Array) (z : ℤ) → IsOneOf z (named_on [] m.events a) → IsOneOf z (named_on [] F.events a)) → AllWell m.known
      → (k : Known) → IsOneOf k m.known → (q : ℤ) → IsOneOf q (positions_of m.known m.events k) → reading.FactAt maps table F k q
  named_at m f g well k i q h = (well k i).reads q (go k.parts refl h)
    where
      go : (parts : List ArrayPart) → k.parts ≡ parts → IsOneOf q (positions_of_parts m.known m.events parts)
          → NamedAt maps table N q k.parts
      go [] e h part j = absurd h
      go (first ∷ parts) e h part j =
          let s = (well k i).shifted in
          let there : IsOneOf first k.parts = subst (λ (xs : List ArrayPart). IsOneOf first xs) (sym e) (inl refl) in
          let z : IsOneOf (q +ℤ first.shift) (N (array_in first)) =
          names_more m.known F.known m.events F.events f g (array_in first) (q +ℤ first.shift)
          (raised first.shift (named_on m.known m.events (array_in first)) q h) in
          let met : IsOneOf (q +ℤ first.shift) (N (array_in part)) =
          names_meet F.known F.events k (f k i) (array_in first) (array_in part) (array_there first k.parts there k refl)
          (array_there part k.parts j k refl) (q +ℤ first.shift) z in
          subst (λ (y : ℤ). IsOneOf (q +ℤ y) (N (array_in part)))
          (shift_is (well k i).shift k.parts s first there ∙ sym (shift_is (well k i).shift k.parts s part j)) met

  all_good : (y : Lazy) → Grows maps table y → Rests y → Rests (test_all final S y)
  all_good y g h m ps r rd well l w =
      let grown = all_grow maps table y g m ps r l in
      reading.all_reads maps table F Good dead y m ps
      (named_at m (λ k i. w.known k (grown.known k i)) (λ a z i. w.names a z (grown.names a z i)) well) r rd
      (λ n rn dn an. h n ps rn dn (subst AllWell (sym an.0) well)) l w

  ends_good : (t : PvType) (a : ℕ) (zs : List ℤ) (y : Lazy) → Grows maps table y → Rests y → Rests (name_ends final S t a zs y)
  ends_good t a [] y g h m ps r rd well = h m ps r rd well
  ends_good t a (z ∷ zs) y g h m ps r rd well =
      all_good (name_ends final S t a zs y) (ends_grow maps table t a zs y g) (ends_good t a zs y g h)
      (record m { events = with_event (AtArray t a (z ∷ [])) m.events }) ps r rd well

  parts_good : (ends : List ℤ) (parts : List ArrayPart) (y : Lazy) → Grows maps table y → Rests y
      → Rests (part_events final S ends parts y)
  parts_good ends [] y g h m ps r rd well = h m ps r rd well
  parts_good ends (p ∷ parts) y g h m ps r rd well =
      ends_good p.type p.array (shifted ends p.shift) (part_events final S ends parts y) (parts_grow maps table ends parts y g)
      (parts_good ends parts y g h) m ps r rd well

  all_more : (ks : List Known) (k : Known) → AllWell ks → ReadsWell k → AllWell (ks ++ k ∷ [])
  all_more [] k g h j (inl e) = subst ReadsWell (sym e) h
  all_more [] k g h j (inr i) = absurd i
  all_more (x ∷ xs) k g h j (inl e) = g j (inl e)
  all_more (x ∷ xs) k g h j (inr i) = all_more xs k (λ l m. g l (inr m)) h j i

  known_good : (b : Bool) (k : Known) → reads_none k.parts ≡ b → ReadsWell k → (x : Pair) → Holds x
      → Rests (known_if final S b k x.0)
  known_good true k e well x h m ps r rd all =
      reading.shown_reads maps table F Good dead k (λ q. well.reads q (none k.parts e q)) (width k.low k.high) x.0 m ps r rd
      (λ n rn dn sn. h n ps rn dn (subst AllWell (sym sn.1.0) all))
    where
      none : (parts : List ArrayPart) → reads_none parts ≡ true → (q : ℤ) → NamedAt maps table N q parts
      none [] e q part i = absurd i
      none (p ∷ parts) e q part i = absurd (cc e)
  known_good false k e well x h m ps r rd all =
      parts_good k.ends k.parts (join_fact k (test_all final S x.0))
      (join_grows maps table k (test_all final S x.0) (all_grow maps table x.0 x.1))
      (λ n qs rn dn wn. all_good x.0 x.1 h (record n { known = n.known ++ k ∷ [] }) qs rn dn (all_more n.known k wn well))
      m ps r rd all

  -- What the setting offers

  pick_holds : (ty : PvType) (f : ℤ → Pair) → ((z : ℤ) → Holds (f z)) → Holds (T.pick ty f)
  pick_holds ty f h m [] r rd well l = absurd (l.1 refl)
  pick_holds ty f h m (Number z ∷ ps) r rd well l = h z (taken_in (OneNumber z) m) ps r rd well l
  pick_holds ty f h m (Turn n ∷ ps) r rd well l = absurd (l.1 refl)
  pick_holds ty f h m (Steps x ∷ ps) r rd well l = absurd (l.1 refl)

  by_turn : (b : Bool) (m : Memory) (y : Outcome Final) → Good y.end → Good (if b then y else at_end (final Unfit m)).end
  by_turn true m y h = h
  by_turn false m y h = λ l. absurd (l.1 refl)

  turn_holds : (f : ℕ → Pair) → ((n : ℕ) → Holds (f n)) → Holds (T.turn f)
  turn_holds f h m [] r rd well l = absurd (l.1 refl)
  turn_holds f h m (Number z ∷ ps) r rd well l = absurd (l.1 refl)
  turn_holds f h m (Turn n ∷ ps) r rd well l =
      by_turn (nat_lt n 3) (taken_in (OneTurn n) m) ((f n).0 (taken_in (OneTurn n) m) ps)
      (h n (taken_in (OneTurn n) m) ps r rd well) l
  turn_holds f h m (Steps x ∷ ps) r rd well l = absurd (l.1 refl)

  steps_hold : (n : ℕ) (t : PvType) (a : ℕ) (x : Pair) → (R n t a → Holds x) → Holds (T.steps n t a x)
  steps_hold n t a x h m [] r rd well l = absurd (l.1 refl)
  steps_hold n t a x h m (Number z ∷ ps) r rd well l = absurd (l.1 refl)
  steps_hold n t a x h m (Turn u ∷ ps) r rd well l = absurd (l.1 refl)
  steps_hold n t a x h m (Steps z ∷ ps) r rd well l =
      let grown = x.1 (ranged n t a m) ps r l in
      let range : RangeOf = record { number = n; type = t; array = a } in
      λ w. h (w.ranges range (grown.ranges range (is_last m.ranges range))) (ranged n t a m) ps r rd well l w

  operation_holds : (x : Option ℤ) (o : Operation) (b c : ℤ) (f : ℤ → Pair) → Holds (f (value_of_operation table o b c))
      → (m : Memory) (ps : List Pick) → Fit m → AllRead m.reads → AllWell m.known
      → ((z : ℤ) → x ≡ Some z → value_of_operation table o b c ≡ z)
      → Good (operation_or final S x o b c (λ z. (f z).0) m ps).end
  operation_holds (Some z) o b c f h m ps r rd well e = subst (λ (w : ℤ). Good ((f w).0 m ps).end) (e z refl) (h m ps r rd well)
  operation_holds None o b c f h m ps r rd well e =
      h (record m { uses = m.uses ++ record { used = (o, b, c); value = value_of_operation table o b c } ∷ [] }) ps
      (r.0, fits_more table m.uses _ r.1 refl) rd well

  reading_holds : (c : Cell) (f : Value → Pair) → reading.Readable maps table F c → Holds (f (content maps c))
      → Holds (T.reading c f)
  reading_holds c f at h m ps r rd well =
      reading.reading_reads maps table F Good dead c (λ v. (f v).0) m ps r rd at
      (λ n rn dn sn. h n ps rn dn (subst AllWell (sym sn.1.0) well))

  ends_named : (t : PvType) (a : ℕ) (zs : List ℤ) (y : Lazy) → Grows maps table y → (m : Memory) (ps : List Pick) → Fit m
      → Live (name_ends final S t a zs y m ps).end → (z : ℤ) → IsOneOf z zs
      → IsOneOf z (named_on [] (name_ends final S t a zs y m ps).end.events (t, a))
  ends_named t a zs y g m ps r l z i = elim (ways.ends_way maps table t a zs y m ps r) [
    | inl w ↦ subst (λ (f : Final). IsOneOf z (named_on [] f.events (t, a))) (sym w.1.1.1)
        ((g w.0 ps w.1.0 (subst Live w.1.1.1 l)).names (t, a) z (w.1.1.0.1 z i))
    | inr b ↦ absurd (l.0 b)
  ]

  noticing_holds : (e : Event) (x : Pair) → (even.Named maps N e → Holds x) → Holds (T.noticing e x)
  noticing_holds (AtField c o n) x h m ps r rd well =
      h tt (record m { events = with_event (AtField c o n) m.events }) ps r rd well
  noticing_holds (AtToken k c o) x h m ps r rd well =
      h tt (record m { events = with_event (AtToken k c o) m.events }) ps r rd well
  noticing_holds (AtLock c o) x h m ps r rd well = h tt (record m { events = with_event (AtLock c o) m.events }) ps r rd well
  noticing_holds (AtInstance c k o vs) x h m ps r rd well =
      h tt (record m { events = with_event (AtInstance c k o vs) m.events }) ps r rd well
  noticing_holds (AtArrayLength t a) x h m ps r rd well =
      h tt (record m { events = with_event (AtArrayLength t a) m.events }) ps r rd well
  noticing_holds (AtArray t a ends) x h m ps r rd well = λ l w.
      ends_good t a ends x.0 x.1
      (h (λ z i. own_names F.known F.events (t, a) z
      (w.names (t, a) z (ends_named t a ends x.0 x.1 m ps r l z i)))) m ps r rd well l w

  looks_named : (first s : State) (b : Bind) (same : cells_of s ≡ cells_of first) (name : Name) (q : ℤ) (parts : List ArrayPart)
      (named : NamedAt maps table N q parts) (ls : List Look) → Looked maps table invariant s b ls
      → LooksNamed maps table N first s b same name q parts named ls
  looks_named first s b same name q parts named [] h = tt
  looks_named first s b same name q parts named (AtElements t a z ∷ ls) h = looks_named first s b same name q parts named ls h
  looks_named first s b same name q parts named (AtElement was t a i ∷ ls) h =
      (λ v w e d. h.0 v w e d (number_in w) (inl refl), looks_named first s b same name q parts named ls h.1)
  looks_named first s b same name q parts named (AtLength t a ∷ ls) h = looks_named first s b same name q parts named ls h
  looks_named first s b same name q parts named (AtTerm e ∷ ls) h = looks_named first s b same name q parts named ls h

  knowing_holds : (first s : State) (b : Bind) (name : Name) (e : Expression) (x : Range) (parts : List ArrayPart) (y : Pair)
      → Placed s → CellsAt b.old → SameCells first s → IsRepeatable name e → Made maps first b (looks_of name e) parts
      → Looked maps table invariant s b (looks_of name e) → Holds y → Holds (T.knowing (known_of T s b name e x parts) y)
  knowing_holds first s b name e x parts y pl old same sh made looked h =
      let k : Known = known_of T s b name e x parts in
      let shift = one_shift sh.0.1 in
      known_good (reads_none parts) k refl
      (record {
        shift = shift.0;
        shifted = shift.1;
        reads = λ q named. (
          pl.0,
          old,
          reads_names maps table N first s b (cells_same first s same) name q parts named e sh.1 sh.0.0 made.parted
              (looks_named first s b (cells_same first s same) name q parts named (looks_of name e) looked),
        );
      }) y h
    where
      one_shift : ((z : ℤ) × Steady name z e) ⊎ NoElements (looks_of name e)
          → (z : ℤ) × AllShifted z parts
      one_shift (inl (z, steady)) = (z, made.shifted z (steady_shifted name z false e steady))
      one_shift (inr none) = (pos 0, subst (AllShifted (pos 0)) (sym (made.none none)) tt)

  pub kept : IsKept maps table T (λ n. Holds) invariant
  kept = record {
    finished = λ n m ps r rd well l w. rd;
    blocked = λ n m ps r rd well l. absurd (l.0 refl);
    failed = λ n check span m ps r rd well l w. rd;
    unfit = λ n m ps r rd well l. absurd (l.1 refl);
    pick = λ n. pick_holds;
    turn = λ n. turn_holds;
    steps = steps_hold;
    using = λ n o b c f h m ps r rd well. operation_holds (value_used m.uses (o, b, c)) o b c f h m ps r rd well
        (λ z e. used_right table m.uses (o, b, c) z r.1 e);
    comparing = λ n b c x h m ps r rd well. h m ps r rd well;
    matching = λ n v w x h m ps r rd well. h m ps r rd well;
    deciding = λ n b x h m ps r rd well. h m ps r rd well;
    noticing = λ n. noticing_holds;
    reading = λ n. reading_holds;
    knowing = knowing_holds;
  }

  abbrev pub runs_keep : Kept maps table T (λ n. Holds)
  runs_keep = record { invariant = invariant; is_kept = kept; closed = closed }
