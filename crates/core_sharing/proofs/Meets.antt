-- Runs that look at the same, from states that are alike, meet where they meet with whatever they saw.
use Rattle.std.proofs.Common.{◌≡◌, ◌⊎◌, inl, inr, ℕ, zero, suc, ℤ, Bool, true, false, Option, Some, None, option_map, List, [], ◌∷◌, refl, sym, ◌∙◌, ap, subst, arith}
use Rattle.std.specs.Prelude.{if◌then◌else◌}
use Rattle.pv_base.specs.declared.Span.{Span}
use Rattle.pv_values.specs.declared.value.Value.{Value}
use Rattle.pv_ast.specs.declared.PvType.TheVariants.{Int}
use Rattle.pv_picks.specs.declared.check.Check.{Check}
use Rattle.pv_picks.specs.declared.check.Check.TheVariants as check
use Rattle.pv_picks.specs.declared.evidence.Pick.{Pick}
use Rattle.pv_picks.specs.declared.evidence.Pick.TheVariants.{Number, Turn, Steps}
use Rattle.pv_picks.specs.declared.evidence.StepPair.{StepPair}
use Rattle.pv_picks.specs.declared.evidence.Entry.{Entry}
use Rattle.pv_picks.specs.Plain.Core.{Expression}
use Rattle.pv_picks.specs.Formulas.Evaluation.{Scene}
use Rattle.pv_picks.specs.Judge.States.{State, Resource, Cells, Holding, cells_of}
use Rattle.pv_picks.specs.Judge.Inhaling.{value_now, values_now}
use Rattle.pv_picks.specs.Judge.Runs.{End, Blocked, Failed, Maps, content, before_others, maps_of, maps_from, step_value, judging}
use Rattle.core_sharing.specs.Following.{Lengths, KnownLengths, KnowsLengths, with_lengths}
use Rattle.core_sharing.specs.Renumbering.{Run, end_on, GoOn, contents, StatesAreAlike, IsMet, Meets}
use Rattle.core_sharing.specs.Inhaled.{bound}
use Rattle.core_sharing.proofs.Following.{some_lengths, among_some, zero_or}
use Rattle.core_sharing.proofs.Looking.{Outcome, Missing, Read, Values, outcome, includes_among, Onward, Looks, Nothing, looks_itself, value_looks}

-- Maps

-- maps hang only on the picks for ranges
pub maps_same : (n : ℕ) (taken : Maps) (picks rest : List Pick) → maps_of picks ≡ maps_of rest
    → maps_from n taken picks ≡ maps_from n taken rest
maps_same zero taken picks rest same = same
maps_same (suc n) taken picks rest same = ap (before_others (taken 0)) (maps_same n (λ k. taken (suc k)) picks rest same)

pub goes_on : (n : ℕ) (taken : Maps) (picks : List Pick) → GoOn n taken (maps_from n taken picks)
goes_on zero taken picks k less = absurd (omega arith)
goes_on (suc n) taken picks zero less = refl
goes_on (suc n) taken picks (suc k) less = goes_on n (λ j. taken (suc j)) picks k (omega arith)

-- the next pick for a range is the next map
pub next_map : (n : ℕ) (taken : Maps) (map : List StepPair) (picks : List Pick)
    → maps_from n taken (Steps map ∷ picks) n ≡ step_value map
next_map zero taken map picks = refl
next_map (suc n) taken map picks = next_map n (λ k. taken (suc k)) map picks

-- and then it was taken
pub then_taken : (n : ℕ) (taken : Maps) (map : List StepPair) (picks : List Pick)
    → maps_from (suc n) (maps_from n taken (Steps map ∷ picks)) picks ≡ maps_from n taken (Steps map ∷ picks)
then_taken zero taken map picks = refl
then_taken (suc n) taken map picks = ap (before_others (taken 0)) (then_taken n (λ k. taken (suc k)) map picks)

-- whatever later run took this map next did take it as a pick
pub taken_next : (n : ℕ) (taken later : Maps) (map : List StepPair) (picks : List Pick) → GoOn n taken later
    → later n ≡ step_value map
    → maps_from (suc n) later picks ≡ maps_from n taken (Steps map ∷ picks)
taken_next zero taken later map picks on is = ap (λ (m : ℤ → ℤ). before_others m (maps_of picks)) is
taken_next (suc n) taken later map picks on is =
    ap (λ (m : ℤ → ℤ). before_others m (maps_from (suc n) (λ k. later (suc k)) picks)) (on 0 (omega arith))
    ∙ ap (before_others (taken 0))
    (taken_next n (λ k. taken (suc k)) (λ k. later (suc k)) map picks (λ k less. on (suc k) (omega arith)) is)

-- Alike

pub alike_lengths : (before before' : Cells) (taken : Maps) (s : State) (taken' : Maps) (s' : State) (known known' : KnownLengths)
    → StatesAreAlike before before' taken s taken' s'
    → StatesAreAlike before before' taken (with_lengths s known) taken' (with_lengths s' known')
alike_lengths before before' taken s taken' s' known known' a = record {
  held = a.held;
  old = a.old;
  read = a.read;
  instances = a.instances;
  committed = a.committed;
  met = a.met;
  this = a.this;
  variables = a.variables;
  result = a.result;
}

held_content : (maps : Maps) (h : Option Holding)
    → option_map (content maps) (option_map (λ (x : Holding). x.cell) h) ≡ contents maps h
held_content maps None = refl
held_content maps (Some h) = refl

module _ (table : List Entry) (before before' : Cells) where
  abbrev pub Meet : Run → Run → Type 0
  Meet one other = Meets before before' one other

  abbrev pub Met : Maps → State → End → Run → Type 0
  Met taken s end other = (end ≡ Blocked) ⊎ IsMet before before' taken s end other

  pub record Sees {O O' : Type 0} (M : O → Run) (M' : O' → Run) (one other : Run) (taken : Maps) (s : State) (maps : Maps)
      : Type 0 where
    pub o : Lengths → O
    pub o' : Lengths → O'
    pub first : Looks table (λ m. m ≡ maps) s o (Nothing table (λ m. m ≡ maps) s) M one
    pub second : (taken' : Maps) (s' : State) → StatesAreAlike before before' taken s taken' s'
        → Looks table (GoOn s'.steps taken') s' o' (Nothing table (GoOn s'.steps taken') s') M' other
    pub match : (x : O)
        → ((m : Maps) (st : State) (picks : List Pick) → M x m st picks ≡ Blocked)
        ⊎ ((x' : O') × Meet (M x) (M' x') × ((lengths : Lengths) → o lengths ≡ x → o' lengths ≡ x'))

  pub meets_on : {O O' : Type 0} (M : O → Run) (M' : O' → Run) (one other : Run)
      → ((taken : Maps) (s : State) (maps : Maps) → GoOn s.steps taken maps → Sees M M' one other taken s maps) → Meet one other
  meets_on {O = O} {O' = O'} M M' one other see = record {
    from = λ taken s picks knows.
        from taken s picks (see taken s (maps_from s.steps taken picks) (goes_on s.steps taken picks))
        ((see taken s (maps_from s.steps taken picks) (goes_on s.steps taken picks)).first.forward
        (maps_from s.steps taken picks) refl s.lengths picks knows);
  }
    where
      from : (taken : Maps) (s : State) (picks : List Pick) → Sees M M' one other taken s (maps_from s.steps taken picks)
          → (end_on one taken s picks ≡ Blocked)
          ⊎ Onward table (λ m. m ≡ maps_from s.steps taken picks) s
          (see taken s (maps_from s.steps taken picks) (goes_on s.steps taken picks)).o
          (Nothing table (λ m. m ≡ maps_from s.steps taken picks) s) M (maps_from s.steps taken picks) s.lengths picks
          (end_on one taken s picks)
          → Met taken s (end_on one taken s picks) other
      from taken s picks sees (inl blocked) = inl blocked
      from taken s picks unused (inr f) = matched (sees.match f.what)
        where
          maps : Maps
          maps = maps_from s.steps taken picks

          sees : Sees M M' one other taken s maps
          sees = see taken s maps (goes_on s.steps taken picks)

          end : End
          end = end_on one taken s picks

          there : State
          there = with_lengths s f.later

          goes : end ≡ end_on (M f.what) taken there f.rest
          goes = f.ends ∙ ap (λ (m : Maps). M f.what m there f.rest) (maps_same s.steps taken picks f.rest f.same_maps)

          met : (x' : O') → ((lengths : Lengths) → sees.o lengths ≡ f.what → sees.o' lengths ≡ x')
              → Met taken there (end_on (M f.what) taken there f.rest) (M' x') → Met taken s end other
          met x' same (inl blocked) = inl (goes ∙ blocked)
          met x' same (inr r) = inr (record {
            lengths = r.lengths;
            are_lengths = r.are_lengths;
            among = includes_among s.lengths f.later r.lengths f.includes r.among;
            meets = λ taken' s' alike among.
                let c = (sees.second taken' s' alike).backward r.lengths r.are_lengths s'.lengths among in
                let y = r.meets taken' (with_lengths s' c.later)
                (alike_lengths before before' taken s taken' s' f.later c.later alike) c.among in
                let z = c.ahead (maps_from s'.steps taken' y.0) (goes_on s'.steps taken' y.0) y.0 in (
                  z.0,
                  ap (λ (m : Maps). other m s' z.0) (maps_same s'.steps taken' z.0 y.0 z.1)
                      ∙ z.2
                      ∙ ap (λ (x : O'). M' x (maps_from s'.steps taken' y.0) (with_lengths s' c.later) y.0)
                      (same r.lengths (f.is r.lengths r.among))
                      ∙ y.1
                      ∙ sym goes,
                );
          })

          matched : ((m : Maps) (st : State) (picks : List Pick) → M f.what m st picks ≡ Blocked)
              ⊎ ((x' : O') × Meet (M f.what) (M' x') × ((lengths : Lengths) → sees.o lengths ≡ f.what → sees.o' lengths ≡ x'))
              → Met taken s end other
          matched (inl blocks) = inl (f.ends ∙ blocks maps there f.rest)
          matched (inr (x', meet, same)) = met x' same (meet.from taken there f.rest f.knows)

  -- Picks and ends

  -- an end that takes no picks
  pub ended : (taken : Maps) (s : State) (end : End) → KnowsLengths s.lengths
      → IsMet before before' taken s end (λ m st picks. end)
  ended taken s end knows = record {
    lengths = λ type array. zero_or (s.lengths type array);
    are_lengths = some_lengths s.lengths knows;
    among = among_some s.lengths;
    meets = λ taken' s' alike among. ([], refl);
  }

  pub blocked_meets : (other : Run) → Meet (λ m st. (judging m table).blocked) other
  blocked_meets other = record { from = λ taken s picks knows. inl refl }

  pub failed_meets : (named : Check) (span : Span)
      → Meet (λ m st. (judging m table).failed named span) (λ m st. (judging m table).failed named span)
  failed_meets named span = record { from = λ taken s picks knows. inr (ended taken s (Failed named span) knows) }

  pub choice_meets : (b : Bool) (x y x' y' : Run) → Meet x x' → Meet y y'
      → Meet (λ m st. if b then x m st else y m st) (λ m st. if b then x' m st else y' m st)
  choice_meets true x y x' y' h k = h
  choice_meets false x y x' y' h k = k

  -- whatever the one picks
  pub pick_first : (f : ℤ → Run) (other : Run) → ((z : ℤ) → Meet (f z) other)
      → Meet (λ m st. (judging m table).pick Int (λ z. f z m st)) other
  pick_first f other meets = record { from = by }
    where
      by : (taken : Maps) (s : State) (picks : List Pick) → KnowsLengths s.lengths
          → Met taken s (end_on (λ m st. (judging m table).pick Int (λ z. f z m st)) taken s picks) other
      by taken s [] knows = inl refl
      by taken s (Turn n ∷ picks) knows = inl refl
      by taken s (Steps map ∷ picks) knows = inl refl
      by taken s (Number z ∷ picks) knows =
          subst (λ (m : Maps). Met taken s (f z m s picks) other)
          (maps_same s.steps taken picks (Number z ∷ picks) refl) ((meets z).from taken s picks knows)

  -- the other picks this
  pub pick_then : (one : Run) (g : ℤ → Run) (z : ℤ) → Meet one (g z)
      → Meet one (λ m st. (judging m table).pick Int (λ z. g z m st))
  pick_then one g z meets = record { from = λ taken s picks knows. by taken s picks (meets.from taken s picks knows) }
    where
      by : (taken : Maps) (s : State) (picks : List Pick) → Met taken s (end_on one taken s picks) (g z)
          → Met taken s (end_on one taken s picks) (λ m st. (judging m table).pick Int (λ z. g z m st))
      by taken s picks (inl blocked) = inl blocked
      by taken s picks (inr r) = inr (record {
        lengths = r.lengths;
        are_lengths = r.are_lengths;
        among = r.among;
        meets = λ taken' s' alike among.
            let y = r.meets taken' s' alike among in (
              Number z ∷ y.0,
              ap (λ (m : Maps). g z m s' y.0) (maps_same s'.steps taken' (Number z ∷ y.0) y.0 refl) ∙ y.1,
            );
      })

  -- Expressions

  -- the value of an expression, in the state of each
  abbrev pub reading : Cells → Scene → Expression → (Value → Run) → Run
  reading cells scene e k m = value_now (judging m table) (bound scene cells) e (λ v. k v m)

  abbrev pub frame : Span → Run
  frame span m st = (judging m table).failed check.Frame span

  abbrev pub on_outcome : (Value → Run) → Outcome → Run
  on_outcome k (Missing span) = frame span
  on_outcome k (Read v) = k v

  -- what is in the locations of a run
  abbrev pub values_in : Maps → Cells → Values
  values_in maps cells r = option_map (content maps) (cells r)

  pub reads_itself : (s : State) (maps m : Maps) → m ≡ maps → (r : Resource)
      → option_map (content m) (cells_of s r) ≡ values_in maps (cells_of s) r
  reads_itself s maps m is r = ap (λ (x : Maps). option_map (content x) (cells_of s r)) is

  pub reads_alike : (taken : Maps) (s : State) (maps : Maps) → GoOn s.steps taken maps → (taken' : Maps) (s' : State)
      → StatesAreAlike before before' taken s taken' s' → (m : Maps) → GoOn s'.steps taken' m → (r : Resource)
      → option_map (content m) (cells_of s' r) ≡ values_in maps (cells_of s) r
  reads_alike taken s maps on taken' s' alike m on' r =
      held_content m (s'.held r) ∙ sym ((alike.held r).content maps m on on') ∙ sym (held_content maps (s.held r))

  pub read_looks : (s : State) (Such : Maps → Type 0) (cells : Cells) (nows olds : Values)
      → ((m : Maps) → Such m → (r : Resource) → option_map (content m) (cells_of s r) ≡ nows r)
      → ((m : Maps) → Such m → (r : Resource) → option_map (content m) (cells r) ≡ olds r)
      → (scene : Scene) (e : Expression) (k : Value → Run)
      → Looks table Such s (λ lengths. outcome table nows olds lengths scene e (λ v. Read v)) (Nothing table Such s)
      (on_outcome k)
      (reading cells scene e k)
  read_looks s Such cells nows olds hn ho scene e k =
      value_looks table Such s (on_outcome k) frame (λ span. looks_itself table Such s (Missing span) (on_outcome k))
      cells_of (λ st. cells) nows olds (λ m such known r. hn m such r) (λ m such known r. ho m such r) scene e
      (λ v lengths. Read v) k (λ v. looks_itself table Such s (Read v) (on_outcome k))

  pub reads : (scene : Scene) (e : Expression) (k l : Value → Run) → ((v : Value) → Meet (k v) (l v))
      → Meet (reading before scene e k) (reading before' scene e l)
  reads scene e k l h =
      meets_on (on_outcome k) (on_outcome l) _ _ (λ taken s maps on. record {
        o = λ lengths. outcome table (values_in maps (cells_of s)) (values_in maps before) lengths scene e (λ v. Read v);
        o' = λ lengths. outcome table (values_in maps (cells_of s)) (values_in maps before) lengths scene e (λ v. Read v);
        first = read_looks s (λ m. m ≡ maps) before _ _ (λ m is r. reads_itself s maps m is r)
            (λ m is r. ap (λ (x : Maps). option_map (content x) (before r)) is) scene e k;
        second = λ taken' s' alike. read_looks s' (GoOn s'.steps taken') before' _ _
            (λ m on' r. reads_alike taken s maps on taken' s' alike m on' r)
            (λ m on' r. sym (alike.read.content maps m on on' r)) scene e l;
        match = λ x. inr (x, both x, λ lengths same. same);
      })
    where
      both : (x : Outcome) → Meet (on_outcome k x) (on_outcome l x)
      both (Missing span) = failed_meets check.Frame span
      both (Read v) = h v

  abbrev pub reading_all : Cells → Scene → List Expression → (List Value → Run) → Run
  reading_all cells scene es k m = values_now (judging m table) (bound scene cells) es (λ vs. k vs m)

  pub reads_all : (scene : Scene) (es : List Expression) (k l : List Value → Run) → ((vs : List Value) → Meet (k vs) (l vs))
      → Meet (reading_all before scene es k) (reading_all before' scene es l)
  reads_all scene [] k l h = h []
  reads_all scene (e ∷ es) k l h =
      reads scene e (λ v. reading_all before scene es (λ vs. k (v ∷ vs))) (λ v. reading_all before' scene es (λ vs. l (v ∷ vs)))
      (λ v. reads_all scene es (λ vs. k (v ∷ vs)) (λ vs. l (v ∷ vs)) (λ vs. h (v ∷ vs)))
