-- States that gain the same stay alike, whether an element takes its value from a pick of its own or from a pick for a range.
use Rattle.std.proofs.Common.{◌≡◌, inl, inr, ℕ, zero, suc, ◌+◌, ℤ, pos, negsuc, Bool, true, false, Option, Some, None, List, [], ◌∷◌, ◌++◌, refl, sym, ◌∙◌, ap, subst, arith}
use Rattle.std.proofs.lemmas.Option.{none-some}
use Rattle.std.specs.Prelude.{nat_eq, nat_le, if◌then◌else◌}
use Rattle.pv_base.specs.declared.Name.{Name}
use Rattle.pv_ast.specs.declared.PvType.{PvType}
use Rattle.pv_ast.specs.declared.PvType.TheVariants.{Int, Truth, Object, IntArray, TruthArray, Null}
use Rattle.pv_ast.specs.declared.Token.{Token}
use Rattle.pv_ast.specs.declared.Token.TheVariants as token
use Rattle.pv_values.specs.declared.value.Value.{Value}
use Rattle.pv_values.specs.declared.value.Value.TheVariants as value
use Rattle.pv_fraction.specs.Amounts.{whole}
use Rattle.pv_ast.specs.declared.PvType.TheVariants.{Int}
use Rattle.pv_picks.specs.declared.evidence.Pick.{Pick}
use Rattle.pv_picks.specs.declared.evidence.Entry.{Entry}
use Rattle.pv_picks.specs.Formulas.Values.{within}
use Rattle.pv_picks.specs.Judge.States.{State, Resource, InField, InElement, OfToken, Cell, Written, Cells, Holding, Folded, same_resource, amount_held, cell_held, amount_of, holding, at_resource, with_amount, with_cell, with_committed}
use Rattle.pv_picks.specs.Judge.Settings.{as_truth, met_as, pick_value, look_at_length}
use Rattle.pv_picks.specs.Judge.Permissions.{gain_on, gain, gain_field, gain_element, add_whole, add_token, add_instance}
use Rattle.pv_picks.specs.Judge.Runs.{Maps, content, maps_from, judging}
use Rattle.core_sharing.specs.Renumbering.{Run, end_on, GoOn, contents, SameHolding, SameCells, StatesAreAlike}
use Rattle.core_sharing.proofs.Looking.{Looks, Nothing, looks_itself, length_looks}
use Rattle.core_sharing.proofs.Meets.{Meet, Met, meets_on, blocked_meets, choice_meets, pick_first, pick_then}

-- What is held

module _ (taken : Maps) (n : ℕ) (taken' : Maps) (n' : ℕ) where
  abbrev pub Same : Option Holding → Option Holding → Type 0
  Same h h' = SameHolding taken n taken' n' h h'

  abbrev pub SameCell : Cell → Cell → Type 0
  SameCell c c' = (maps maps' : Maps) → GoOn n taken maps → GoOn n' taken' maps' → content maps c ≡ content maps' c'

  held_nothing : (k : ℕ) (c : Cell) → amount_held (holding k c) ≡ 0 → holding k c ≡ None
  held_nothing zero c is = refl
  held_nothing (suc k) c is = absurd (omega arith)

  amount_holding : (k : ℕ) (c : Cell) → amount_held (holding k c) ≡ k
  amount_holding zero c = refl
  amount_holding (suc k) c = refl

  content_holding : (k : ℕ) (c c' : Cell) → SameCell c c' → (maps maps' : Maps) → GoOn n taken maps → GoOn n' taken' maps'
      → contents maps (holding k c) ≡ contents maps' (holding k c')
  content_holding zero c c' same maps maps' on on' = refl
  content_holding (suc k) c c' same maps maps' on on' = ap (λ (v : Value). Some v) (same maps maps' on on')

  pub same_holding : (k k' : ℕ) (c c' : Cell) → k ≡ k' → SameCell c c' → Same (holding k c) (holding k' c')
  same_holding k k' c c' is same = subst (λ j. Same (holding k c) (holding j c')) is (record {
    amount = amount_holding k c ∙ sym (amount_holding k c');
    content = content_holding k c c' same;
    nothing = held_nothing k c;
    other_nothing = held_nothing k c';
  })

  value_of : Value → Option Value → Value
  value_of v None = v
  value_of v (Some w) = w

  pub same_cell : (h h' : Option Holding) → Same h h' → SameCell (cell_held h) (cell_held h')
  same_cell None None same maps maps' on on' = refl
  same_cell None (Some h') same maps maps' on on' = absurd (none-some (content maps' h'.cell) (same.content maps maps' on on'))
  same_cell (Some h) None same maps maps' on on' =
      absurd (none-some (content maps h.cell) (sym (same.content maps maps' on on')))
  same_cell (Some h) (Some h') same maps maps' on on' =
      by (same.content maps maps' on on')
    where
      by : ◌≡◌ {A = Option Value} (Some (content maps h.cell)) (Some (content maps' h'.cell))
          → content maps h.cell ≡ content maps' h'.cell
      by is = cc is

  pub choice_same : (b : Bool) (x x' y y' : Option Holding) → Same x x' → Same y y'
      → Same (if b then x else y) (if b then x' else y')
  choice_same true x x' y y' h k = h
  choice_same false x x' y y' h k = k

  pub at_same : (resource : Resource) (x x' : Option Holding) (f f' : Resource → Option Holding) → Same x x'
      → ((q : Resource) → Same (f q) (f' q)) → (q : Resource) → Same (at_resource resource x f q) (at_resource resource x' f' q)
  at_same resource x x' f f' h k q = choice_same (same_resource q resource) x x' (f q) (f' q) h (k q)

-- with more maps taken
pub same_later : (taken later : Maps) (n k : ℕ) (taken' later' : Maps) (n' k' : ℕ) (h h' : Option Holding)
    → ((m : Maps) → GoOn k later m → GoOn n taken m) → ((m : Maps) → GoOn k' later' m → GoOn n' taken' m)
    → SameHolding taken n taken' n' h h' → SameHolding later k later' k' h h'
same_later taken later n k taken' later' n' k' h h' on on' same = record {
  amount = same.amount;
  content = λ m m' p p'. same.content m m' (on m p) (on' m' p');
  nothing = same.nothing;
  other_nothing = same.other_nothing;
}

pub cells_later : (taken later : Maps) (n k : ℕ) (taken' later' : Maps) (n' k' : ℕ) (c c' : Cells)
    → ((m : Maps) → GoOn k later m → GoOn n taken m) → ((m : Maps) → GoOn k' later' m → GoOn n' taken' m)
    → SameCells taken n taken' n' c c' → SameCells later k later' k' c c'
cells_later taken later n k taken' later' n' k' c c' on on' same = record {
  content = λ m m' p p'. same.content m m' (on m p) (on' m' p');
}

-- maps that were taken with one more
pub went_on : (n : ℕ) (taken later m : Maps) → GoOn n taken later → GoOn (suc n) later m → GoOn n taken m
went_on n taken later m on more k less = more k (omega arith) ∙ on k less

pub itself_on : (n : ℕ) (taken m : Maps) → GoOn n taken m → GoOn n taken m
itself_on n taken m on = on

pub flip : (before before' : Cells) (taken : Maps) (s : State) (taken' : Maps) (s' : State)
    → StatesAreAlike before before' taken s taken' s' → StatesAreAlike before' before taken' s' taken s
flip before before' taken s taken' s' a = record {
  held = λ r. record {
    amount = sym (a.held r).amount;
    content = λ m m' on on'. sym ((a.held r).content m' m on' on);
    nothing = (a.held r).other_nothing;
    other_nothing = (a.held r).nothing;
  };
  old = record { content = λ m m' on on' r. sym (a.old.content m' m on' on r) };
  read = record { content = λ m m' on on' r. sym (a.read.content m' m on' on r) };
  instances = sym a.instances;
  committed = sym a.committed;
  met = sym a.met;
  this = sym a.this;
  variables = sym a.variables;
  result = sym a.result;
}

-- A state that holds other amounts, has other instances, and knows others committed and met
abbrev pub changed : State → (Resource → Option Holding) → List Folded → (Name → ℕ → Bool) → List (PvType × ℕ) → State
changed s held instances committed met =
    record s { held = held; instances = instances; committed = committed; met = met }

module _ (table : List Entry) (before before' : Cells) where
  abbrev Meeting : Run → Run → Type 0
  Meeting one other = Meet table before before' one other

  abbrev Alike : Maps → State → Maps → State → Type 0
  Alike taken s taken' s' = StatesAreAlike before before' taken s taken' s'

  -- where alike states decide alike
  pub decides_meets : {D : Type 0} (d d' : State → D) (F F' : D → Run)
      → ((taken : Maps) (s : State) (taken' : Maps) (s' : State) → Alike taken s taken' s' → d s ≡ d' s')
      → ((x : D) → Meeting (F x) (F' x)) → Meeting (λ m st. F (d st) m st) (λ m st. F' (d' st) m st)
  decides_meets d d' F F' same meets =
      record { from = λ taken s picks knows. by taken s picks ((meets (d s)).from taken s picks knows) }
    where
      by : (taken : Maps) (s : State) (picks : List Pick)
          → Met table before before' taken s (end_on (F (d s)) taken s picks) (F' (d s))
          → Met table before before' taken s (end_on (F (d s)) taken s picks) (λ m st. F' (d' st) m st)
      by taken s picks (inl blocked) = inl blocked
      by taken s picks (inr r) = inr (record {
        lengths = r.lengths;
        are_lengths = r.are_lengths;
        among = r.among;
        meets = λ taken' s' alike among.
            let y = r.meets taken' s' alike among in (
              y.0,
              ap (λ x. F' x (maps_from s'.steps taken' y.0) s' y.0) (sym (same taken s taken' s' alike)) ∙ y.1,
            );
      })

  -- where alike states change alike
  pub changed_meets : (h h' : State → Resource → Option Holding) (i i' : State → List Folded) (c c' : State → Name → ℕ → Bool)
      (t t' : State → List (PvType × ℕ)) (next next' : Run)
      → ((taken : Maps) (s : State) (taken' : Maps) (s' : State) → Alike taken s taken' s'
      → ((r : Resource) → Same taken s.steps taken' s'.steps (h s r) (h' s' r)) × (i s ≡ i' s') × (c s ≡ c' s') × (t s ≡ t' s'))
      → Meeting next next'
      → Meeting (λ m st. next m (changed st (h st) (i st) (c st) (t st)))
      (λ m st. next' m (changed st (h' st) (i' st) (c' st) (t' st)))
  changed_meets h h' i i' c c' t t' next next' same meets =
      record { from = λ taken s picks knows. by taken s picks (meets.from taken (change s) picks knows) }
    where
      change : State → State
      change s = changed s (h s) (i s) (c s) (t s)

      by : (taken : Maps) (s : State) (picks : List Pick)
          → Met table before before' taken (change s) (end_on next taken (change s) picks) next'
          → Met table before before' taken s (end_on next taken (change s) picks)
          (λ m st. next' m (changed st (h' st) (i' st) (c' st) (t' st)))
      by taken s picks (inl blocked) = inl blocked
      by taken s picks (inr r) = inr (record {
        lengths = r.lengths;
        are_lengths = r.are_lengths;
        among = r.among;
        meets = λ taken' s' alike among.
            let four = same taken s taken' s' alike in
            r.meets taken' (changed s' (h' s') (i' s') (c' s') (t' s')) (record {
              held = four.0;
              old = alike.old;
              read = alike.read;
              instances = four.1;
              committed = four.2;
              met = four.3;
              this = alike.this;
              variables = alike.variables;
              result = alike.result;
            }) among;
      })

  -- more of what is held
  pub amount_meets : (resource : Resource) (k : ℕ) (next next' : Run) → Meeting next next'
      → Meeting (λ m st. next m (with_amount st resource k)) (λ m st. next' m (with_amount st resource k))
  amount_meets resource k next next' meets =
      changed_meets (λ st. at_resource resource (holding k (cell_held (st.held resource))) st.held)
      (λ st. at_resource resource (holding k (cell_held (st.held resource))) st.held) (λ st. st.instances) (λ st. st.instances)
      (λ st. st.committed) (λ st. st.committed) (λ st. st.met) (λ st. st.met) next next'
      (λ taken s taken' s' a. (
        at_same taken s.steps taken' s'.steps resource _ _ s.held s'.held
            (same_holding taken s.steps taken' s'.steps k k _ _ refl
            (same_cell taken s.steps taken' s'.steps _ _ (a.held resource))) a.held,
        a.instances,
        a.committed,
        a.met,
      )) meets

  -- a value that is written, and perhaps a reference that is met
  pub cell_meets : (resource : Resource) (k : ℕ) (v : Value) (more : List (PvType × ℕ)) (next next' : Run) → Meeting next next'
      → Meeting (λ m st. next m (changed st (at_resource resource (holding k (Written v)) st.held) st.instances st.committed
      (more ++ st.met)))
      (λ m st. next' m (changed st (at_resource resource (holding k (Written v)) st.held) st.instances st.committed
      (more ++ st.met)))
  cell_meets resource k v more next next' meets =
      changed_meets (λ st. at_resource resource (holding k (Written v)) st.held)
      (λ st. at_resource resource (holding k (Written v)) st.held) (λ st. st.instances) (λ st. st.instances)
      (λ st. st.committed) (λ st. st.committed) (λ st. more ++ st.met) (λ st. more ++ st.met) next next'
      (λ taken s taken' s' a. (
        at_same taken s.steps taken' s'.steps resource _ _ s.held s'.held
            (same_holding taken s.steps taken' s'.steps k k _ _ refl (λ m m' on on'. refl)) a.held,
        a.instances,
        a.committed,
        ap (λ (l : List (PvType × ℕ)). more ++ l) a.met,
      )) meets

  pub pick_meets : (f g : ℤ → Run) → ((z : ℤ) → Meeting (f z) (g z))
      → Meeting (λ m st. (judging m table).pick Int (λ z. f z m st)) (λ m st. (judging m table).pick Int (λ z. g z m st))
  pick_meets f g h =
      pick_first table before before' f (λ m st. (judging m table).pick Int (λ z. g z m st))
      (λ z. pick_then table before before' (f z) g z (h z))

  met_meets : (type : PvType) (resource : Resource) (k : ℕ) (next next' : Run) → Meeting next next' → (z : ℤ)
      → Meeting (λ m. met_as (judging m table) type z (λ v later. next m (with_cell later resource k v)))
      (λ m. met_as (judging m table) type z (λ v later. next' m (with_cell later resource k v)))
  met_meets type resource k next next' meets (pos n) =
      cell_meets resource k (value.Reference n) ((type, n) ∷ []) next next' meets
  met_meets type resource k next next' meets (negsuc n) = blocked_meets table before before' _

  value_meets : (type : PvType) (resource : Resource) (k : ℕ) (next next' : Run) → Meeting next next'
      → Meeting (λ m. pick_value (judging m table) type (λ v later. next m (with_cell later resource k v)))
      (λ m. pick_value (judging m table) type (λ v later. next' m (with_cell later resource k v)))
  value_meets Int resource k next next' meets =
      pick_meets (λ z m st. next m (with_cell st resource k (value.Number z)))
      (λ z m st. next' m (with_cell st resource k (value.Number z)))
      (λ z. cell_meets resource k (value.Number z) [] next next' meets)
  value_meets Truth resource k next next' meets =
      pick_meets (λ z m st. next m (with_cell st resource k (as_truth z)))
      (λ z m st. next' m (with_cell st resource k (as_truth z)))
      (λ z. cell_meets resource k (as_truth z) [] next next' meets)
  value_meets (Object class) resource k next next' meets =
      pick_meets (λ z m. met_as (judging m table) (Object class) z (λ v later. next m (with_cell later resource k v)))
      (λ z m. met_as (judging m table) (Object class) z (λ v later. next' m (with_cell later resource k v)))
      (met_meets (Object class) resource k next next' meets)
  value_meets IntArray resource k next next' meets =
      pick_meets (λ z m. met_as (judging m table) IntArray z (λ v later. next m (with_cell later resource k v)))
      (λ z m. met_as (judging m table) IntArray z (λ v later. next' m (with_cell later resource k v)))
      (met_meets IntArray resource k next next' meets)
  value_meets TruthArray resource k next next' meets =
      pick_meets (λ z m. met_as (judging m table) TruthArray z (λ v later. next m (with_cell later resource k v)))
      (λ z m. met_as (judging m table) TruthArray z (λ v later. next' m (with_cell later resource k v)))
      (met_meets TruthArray resource k next next' meets)
  value_meets Null resource k next next' meets = blocked_meets table before before' _

  gain_on_meets : (there : ℕ) (type : PvType) (resource : Resource) (amount : ℕ) (next next' : Run) → Meeting next next'
      → Meeting (λ m. gain_on (judging m table) there type resource amount (next m))
      (λ m. gain_on (judging m table) there type resource amount (next' m))
  gain_on_meets zero type resource amount next next' meets = value_meets type resource amount next next' meets
  gain_on_meets (suc there) type resource amount next next' meets = amount_meets resource (suc there + amount) next next' meets

  pub if_meets : (b : Bool) (x x' : Run) → Meeting x x'
      → Meeting (λ m st. if b then x m st else (judging m table).blocked)
      (λ m st. if b then x' m st else (judging m table).blocked)
  if_meets b x x' h =
      choice_meets table before before' b x (λ m st. (judging m table).blocked) x' (λ m st. (judging m table).blocked) h
      (blocked_meets table before before' _)

  gain_meets : (type : PvType) (resource : Resource) (amount : ℕ) (next next' : Run) → Meeting next next'
      → Meeting (λ m. gain (judging m table) type resource amount (next m))
      (λ m. gain (judging m table) type resource amount (next' m))
  gain_meets type resource amount next next' meets =
      decides_meets (λ st. amount_of st resource) (λ st. amount_of st resource)
      (λ k m st. if nat_le (k + amount) whole then gain_on (judging m table) k type resource amount (next m) st
      else (judging m table).blocked)
      (λ k m st. if nat_le (k + amount) whole then gain_on (judging m table) k type resource amount (next' m) st
      else (judging m table).blocked)
      (λ taken s taken' s' a. (a.held resource).amount)
      (λ k. if_meets (nat_le (k + amount) whole) (λ m. gain_on (judging m table) k type resource amount (next m))
      (λ m. gain_on (judging m table) k type resource amount (next' m)) (gain_on_meets k type resource amount next next' meets))

  pub unless_meets : (b : Bool) (x x' : Run) → Meeting x x'
      → Meeting (λ m st. if b then (judging m table).blocked else x m st)
      (λ m st. if b then (judging m table).blocked else x' m st)
  unless_meets b x x' h =
      choice_meets table before before' b (λ m st. (judging m table).blocked) x (λ m st. (judging m table).blocked) x'
      (blocked_meets table before before' _) h

  pub gain_field_meets : (class : Name) (object : ℕ) (name : Name) (type : PvType) (amount : ℕ) (next next' : Run)
      → Meeting next next'
      → Meeting (λ m. gain_field (judging m table) class object name type amount (next m))
      (λ m. gain_field (judging m table) class object name type amount (next' m))
  gain_field_meets class object name type amount next next' meets =
      unless_meets (nat_eq object 0) (λ m. gain (judging m table) type (InField class object name) amount (next m))
      (λ m. gain (judging m table) type (InField class object name) amount (next' m))
      (gain_meets type (InField class object name) amount next next' meets)

  pub length_meets : (type : PvType) (array : ℕ) (k l : ℤ → Run) → ((n : ℤ) → Meeting (k n) (l n))
      → Meeting (λ m. look_at_length (judging m table) type array (λ n. k n m))
      (λ m. look_at_length (judging m table) type array (λ n. l n m))
  length_meets type array k l h =
      meets_on table before before' k l _ _ (λ taken s maps on. record {
        o = λ lengths. lengths type array;
        o' = λ lengths. lengths type array;
        first = looks s (λ m. m ≡ maps) k;
        second = λ taken' s' alike. looks s' (GoOn s'.steps taken') l;
        match = λ n. inr (n, h n, λ lengths same. same);
      })
    where
      looks : (s : State) (Such : Maps → Type 0) (k : ℤ → Run)
          → Looks table Such s (λ lengths. lengths type array) (Nothing table Such s) k
          (λ m. look_at_length (judging m table) type array (λ n. k n m))
      looks s Such k =
          length_looks table Such s (Nothing table Such s) (Nothing table Such s) k type array (λ n lengths. n) k
          (λ lengths known p is. p) (λ n. looks_itself table Such s n k)

  pub gain_element_meets : (type : PvType) (array : ℕ) (index : ℤ) (amount : ℕ) (next next' : Run) → Meeting next next'
      → Meeting (λ m. gain_element (judging m table) type array index amount (next m))
      (λ m. gain_element (judging m table) type array index amount (next' m))
  gain_element_meets type array index amount next next' meets =
      unless_meets (nat_eq array 0) (λ m. look_at_length (judging m table) type array (λ n. at n next m))
      (λ m. look_at_length (judging m table) type array (λ n. at n next' m))
      (length_meets type array (λ n. at n next) (λ n. at n next')
      (λ n. if_meets (within (pos 0) n index) (λ m. gain (judging m table) type (InElement type array index) amount (next m))
      (λ m. gain (judging m table) type (InElement type array index) amount (next' m))
      (gain_meets type (InElement type array index) amount next next' meets)))
    where
      at : ℤ → Run → Run
      at n after m st =
          if within (pos 0) n index then gain (judging m table) type (InElement type array index) amount (after m) st
          else (judging m table).blocked

  -- Tokens and instances

  whole_meets : (resource : Resource) (next next' : Run) → Meeting next next'
      → Meeting (λ m. add_whole (judging m table) resource (next m)) (λ m. add_whole (judging m table) resource (next' m))
  whole_meets resource next next' meets =
      decides_meets (λ st. nat_eq (amount_of st resource) 0) (λ st. nat_eq (amount_of st resource) 0)
      (λ b m st. if b then next m (with_amount st resource whole) else (judging m table).blocked)
      (λ b m st. if b then next' m (with_amount st resource whole) else (judging m table).blocked)
      (λ taken s taken' s' a. ap (λ k. nat_eq k 0) (a.held resource).amount)
      (λ b. if_meets b (λ m st. next m (with_amount st resource whole)) (λ m st. next' m (with_amount st resource whole))
      (amount_meets resource whole next next' meets))

  pub token_meets : (kind : Token) (class : Name) (object : ℕ) (next next' : Run) → Meeting next next'
      → Meeting (λ m. add_token (judging m table) kind class object (next m))
      (λ m. add_token (judging m table) kind class object (next' m))
  token_meets token.Committed class object next next' meets =
      changed_meets (λ st. st.held) (λ st. st.held) (λ st. st.instances) (λ st. st.instances)
      (λ st. (with_committed st class object).committed) (λ st. (with_committed st class object).committed)
      (λ st. st.met) (λ st. st.met) next next'
      (λ taken s taken' s' a. (
        a.held,
        a.instances,
        ap (λ (c : Name → ℕ → Bool). (with_committed (record s { committed = c }) class object).committed) a.committed,
        a.met,
      )) meets
  token_meets token.Idle class object next next' meets = whole_meets (OfToken token.Idle class object) next next' meets
  token_meets token.Running class object next next' meets = whole_meets (OfToken token.Running class object) next next' meets
  token_meets token.Uncommitted class object next next' meets =
      whole_meets (OfToken token.Uncommitted class object) next next' meets

  pub instance_meets : (folded : Folded) (next next' : Run) → Meeting next next'
      → Meeting (λ m. add_instance (judging m table) folded (next m)) (λ m. add_instance (judging m table) folded (next' m))
  instance_meets folded next next' meets =
      changed_meets (λ st. st.held) (λ st. st.held) (λ st. st.instances ++ folded ∷ []) (λ st. st.instances ++ folded ∷ [])
      (λ st. st.committed) (λ st. st.committed) (λ st. st.met) (λ st. st.met) next next'
      (λ taken s taken' s' a. (
        a.held,
        ap (λ (l : List Folded). l ++ folded ∷ []) a.instances,
        a.committed,
        a.met,
      )) meets
