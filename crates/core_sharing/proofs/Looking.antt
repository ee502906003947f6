-- What a run of the judge looks at on its way, as expressions, takes picks only for lengths. What it reads hangs on what is in
-- the locations and on the lengths, so two runs that are alike read the same.
use Rattle.std.proofs.Common.{◌≡◌, ◌⊎◌, inl, inr, ℕ, ℤ, pos, Bool, true, false, ◌&&◌, Option, Some, None, option_map, List, [], ◌∷◌, refl, sym, ◌∙◌, ap, subst}
use Rattle.std.proofs.lemmas.Bool.{and_parts, eqb-true}
use Rattle.std.proofs.lemmas.Option.{none-some}
use Rattle.std.specs.Prelude.{nat_eq, int_le, if◌then◌else◌}
use Rattle.pv_base.specs.declared.Span.{Span}
use Rattle.pv_ast.specs.declared.PvType.{PvType}
use Rattle.pv_values.specs.declared.value.Value.{Value}
use Rattle.pv_values.specs.declared.value.Value.TheVariants as value
use Rattle.pv_picks.specs.declared.evidence.Pick.{Pick}
use Rattle.pv_picks.specs.declared.evidence.Pick.TheVariants.{Number, Turn, Steps}
use Rattle.pv_picks.specs.declared.evidence.Entry.{Entry}
use Rattle.pv_picks.specs.Plain.Core.{Expression, Manner, Operation}
use Rattle.pv_picks.specs.Plain.Core as core
use Rattle.pv_picks.specs.Formulas.Values.{number_in, truth_in, reference_in, arithmetic}
use Rattle.pv_ast.specs.Rules.Typing.{same_type}
use Rattle.pv_picks.specs.Formulas.Evaluation.{Scene, Reader, evaluate}
use Rattle.pv_picks.specs.Judge.States.{State, Resource, InField, InElement, Cell, Cells}
use Rattle.pv_picks.specs.Judge.Settings.{Next, known_or_picked, look_at_length, or_missing, operate}
use Rattle.pv_picks.specs.Judge.Runs.{End, Blocked, Judged, Maps, content, value_of_operation, maps_of, judging}
use Rattle.core_sharing.specs.Following.{Lengths, KnownLengths, AreLengths, KnowsLengths, AreAmong, with_lengths}
use Rattle.core_sharing.specs.Renumbering.{Run}
use Rattle.core_sharing.proofs.Following.{same_types, valued, more, more_here, more_among, more_knows}

-- what an expression is read as: a value, or where it reads what isn't there
pub data Outcome : Type 0 where
  Missing : Span → Outcome
  Read : Value → Outcome

-- what is in locations
abbrev pub Values : Type 0
Values = Resource → Option Value

abbrev pub read_or : Option Value → Span → (Value → Outcome) → Outcome
read_or None span next = Missing span
read_or (Some v) span next = next v

abbrev pub worked : List Entry → Manner → Operation → ℤ → ℤ → ℤ
worked table core.Plain operation a b = arithmetic operation a b
worked table core.Tabled operation a b = value_of_operation table operation a b

abbrev pub outcome_reader : List Entry → Values → Lengths → Reader Outcome
outcome_reader table values lengths = record {
  field = λ class object name span next. read_or (values (InField class object name)) span next;
  element = λ type array index span next. read_or (values (InElement type array index)) span next;
  length = λ type array span next. if nat_eq array 0 then Missing span else next (lengths type array);
  operation = λ manner operation a b span next. next (worked table manner operation a b);
  comparing = λ a b rest. rest;
  matching = λ a b rest. rest;
  deciding = λ b rest. rest;
}

-- how an expression is read, and on
abbrev pub outcome : List Entry → Values → Values → Lengths → Scene → Expression → (Value → Outcome) → Outcome
outcome table now old lengths scene e k =
    evaluate (outcome_reader table now lengths) (outcome_reader table old lengths) scene e k

-- what is known stays known
abbrev pub Includes : KnownLengths → KnownLengths → Type 0
Includes known more = (type : PvType) (array : ℕ) (n : ℤ) → known type array ≡ Some n → more type array ≡ Some n

pub includes_among : (known later : KnownLengths) (lengths : Lengths) → Includes known later → AreAmong later lengths
    → AreAmong known lengths
includes_among known later lengths includes among type array n is = among type array n (includes type array n is)

pub more_includes : (known : KnownLengths) (type : PvType) (array : ℕ) (n : ℤ) → known type array ≡ None
    → Includes known (more known type array n)
more_includes known type array n none t a m is = go (same_type t type && nat_eq a array) refl
  where
    go : (b : Bool) → (same_type t type && nat_eq a array) ≡ b → (if b then Some n else known t a) ≡ Some m
    go false same = is
    go true same =
        let two = and_parts _ _ same in
        let here : known t a ≡ known type array =
        ap (λ u. known u a) (same_types t type two.0) ∙ ap (λ b. known type b) (eqb-true a array two.1) in
        absurd (none-some m (sym none ∙ sym here ∙ is))

-- maps that a run may have, and the state it is in, but for the lengths that it knows
module _ (table : List Entry) (Such : Maps → Type 0) (s : State) where
  -- a run went on with so many picks left, where the lengths settle what it saw
  pub record Onward {O : Type 0} (o : Lengths → O) (P : Lengths → KnownLengths → Type 0) (M : O → Run) (maps : Maps)
      (known : KnownLengths) (picks : List Pick) (end : End) : Type 0 where
    pub later : KnownLengths
    pub rest : List Pick
    pub what : O
    pub includes : Includes known later
    pub knows : KnowsLengths later
    pub same_maps : maps_of picks ≡ maps_of rest
    pub is : (lengths : Lengths) → AreAmong later lengths → o lengths ≡ what
    pub learned : (lengths : Lengths) → AreAmong later lengths → P lengths later
    pub ends : end ≡ M what maps (with_lengths s later) rest

  -- on some picks it goes on so
  pub record CanGo (lengths : Lengths) (P : Lengths → KnownLengths → Type 0) (goal run : Run) (known : KnownLengths)
      : Type 0 where
    pub later : KnownLengths
    pub includes : Includes known later
    pub among : AreAmong later lengths
    pub learned : P lengths later
    pub ahead : (maps : Maps) → Such maps → (rest : List Pick)
        → (picks : List Pick) × (maps_of picks ≡ maps_of rest)
        × (run maps (with_lengths s known) picks ≡ goal maps (with_lengths s later) rest)

  -- a run that looks at something, and goes on with what it saw
  pub record Looks {O : Type 0} (o : Lengths → O) (P : Lengths → KnownLengths → Type 0) (M : O → Run) (run : Run) : Type 0 where
    pub forward : (maps : Maps) → Such maps → (known : KnownLengths) (picks : List Pick) → KnowsLengths known
        → (run maps (with_lengths s known) picks ≡ Blocked)
        ⊎ Onward o P M maps known picks (run maps (with_lengths s known) picks)
    pub backward : (lengths : Lengths) → AreLengths lengths → (known : KnownLengths) → AreAmong known lengths
        → CanGo lengths P (M (o lengths)) run known

  abbrev pub Nothing : Lengths → KnownLengths → Type 0
  Nothing lengths known = Unit {0}

  -- one that looks at nothing
  pub looks_itself : {O : Type 0} (x : O) (M : O → Run) → Looks (λ lengths. x) Nothing M (M x)
  looks_itself x M = record {
    forward = λ maps such known picks knows. inr (record {
      later = known;
      rest = picks;
      what = x;
      includes = λ type array n is. is;
      knows = knows;
      same_maps = refl;
      is = λ lengths among. refl;
      learned = λ lengths among. tt;
      ends = refl;
    });
    backward = λ lengths are known among. record {
      later = known;
      includes = λ type array n is. is;
      among = among;
      learned = tt;
      ahead = λ maps such rest. (rest, refl, refl);
    };
  }

  -- a run that is another in such states
  pub looks_as : {O : Type 0} (o : Lengths → O) (P : Lengths → KnownLengths → Type 0) (M : O → Run) (run other : Run)
      → ((maps : Maps) → Such maps → (known : KnownLengths) → run maps (with_lengths s known) ≡ other maps (with_lengths s known))
      → Looks o P M other → Looks o P M run
  looks_as o P M run other same looks = record {
    forward = λ maps such known picks knows.
        subst
        (λ (r : Judged). (r picks ≡ Blocked) ⊎ Onward o P M maps known picks (r picks)) (sym (same maps such known))
        (looks.forward maps such known picks knows);
    backward = λ lengths are known among.
        let c = looks.backward lengths are known among in record {
          later = c.later;
          includes = c.includes;
          among = c.among;
          learned = c.learned;
          ahead = λ maps such rest.
              let x = c.ahead maps such rest in (x.0, x.1, ap (λ (r : Judged). r x.0) (same maps such known) ∙ x.2);
        };
  }

  -- a run that learned more
  pub looks_learned : {O : Type 0} (o : Lengths → O) (P Q : Lengths → KnownLengths → Type 0) (M : O → Run) (run : Run)
      → ((lengths : Lengths) (known : KnownLengths) → P lengths known → Q lengths known)
      → Looks o P M run → Looks o Q M run
  looks_learned o P Q M run enough looks = record {
    forward = λ maps such known picks knows. by maps known picks (looks.forward maps such known picks knows);
    backward = λ lengths are known among.
        let c = looks.backward lengths are known among in record {
          later = c.later;
          includes = c.includes;
          among = c.among;
          learned = enough lengths c.later c.learned;
          ahead = c.ahead;
        };
  }
    where
      by : (maps : Maps) (known : KnownLengths) (picks : List Pick)
          → (run maps (with_lengths s known) picks ≡ Blocked)
          ⊎ Onward o P M maps known picks (run maps (with_lengths s known) picks)
          → (run maps (with_lengths s known) picks ≡ Blocked)
          ⊎ Onward o Q M maps known picks (run maps (with_lengths s known) picks)
      by maps known picks (inl blocked) = inl blocked
      by maps known picks (inr f) = inr (record {
        later = f.later;
        rest = f.rest;
        what = f.what;
        includes = f.includes;
        knows = f.knows;
        same_maps = f.same_maps;
        is = f.is;
        learned = λ lengths among. enough lengths f.later (f.learned lengths among);
        ends = f.ends;
      })

  -- one after the other
  pub looks_on : {O O' : Type 0} (o : Lengths → O) (M : O → Run) (o' : O → Lengths → O')
      (P : O → Lengths → KnownLengths → Type 0) (M' : O' → Run) (run : Run)
      → Looks o Nothing M run → ((x : O) → Looks (o' x) (P x) M' (M x))
      → Looks (λ lengths. o' (o lengths) lengths) (λ lengths known. P (o lengths) lengths known) M' run
  looks_on {O = O} {O' = O'} o M o' P M' run first second = record {
    forward = λ maps such known picks knows. on maps such known picks knows (first.forward maps such known picks knows);
    backward = λ lengths are known among.
        let c = first.backward lengths are known among in
        let d = (second (o lengths)).backward lengths are c.later c.among in record {
          later = d.later;
          includes = λ type array n is. d.includes type array n (c.includes type array n is);
          among = d.among;
          learned = d.learned;
          ahead = λ maps such rest.
              let y = d.ahead maps such rest in
              let x = c.ahead maps such y.0 in (x.0, x.1 ∙ y.1, x.2 ∙ y.2);
        };
  }
    where
      Q : Lengths → KnownLengths → Type 0
      Q lengths known = P (o lengths) lengths known

      o'' : Lengths → O'
      o'' lengths = o' (o lengths) lengths

      on : (maps : Maps) → Such maps → (known : KnownLengths) (picks : List Pick) → KnowsLengths known
          → (run maps (with_lengths s known) picks ≡ Blocked)
          ⊎ Onward o Nothing M maps known picks (run maps (with_lengths s known) picks)
          → (run maps (with_lengths s known) picks ≡ Blocked)
          ⊎ Onward o'' Q M' maps known picks (run maps (with_lengths s known) picks)
      on maps such known picks knows (inl blocked) = inl blocked
      on maps such known picks knows (inr f) = go ((second f.what).forward maps such f.later f.rest f.knows)
        where
          go : (M f.what maps (with_lengths s f.later) f.rest ≡ Blocked)
              ⊎ Onward (o' f.what) (P f.what) M' maps f.later f.rest (M f.what maps (with_lengths s f.later) f.rest)
              → (run maps (with_lengths s known) picks ≡ Blocked)
              ⊎ Onward o'' Q M' maps known picks (run maps (with_lengths s known) picks)
          go (inl blocked) = inl (f.ends ∙ blocked)
          go (inr g) = inr (record {
            later = g.later;
            rest = g.rest;
            what = g.what;
            includes = λ type array n is. g.includes type array n (f.includes type array n is);
            knows = g.knows;
            same_maps = f.same_maps ∙ g.same_maps;
            is = λ lengths among.
                ap (λ (x : O). o' x lengths) (f.is lengths (includes_among f.later g.later lengths g.includes among))
                ∙ g.is lengths among;
            learned = λ lengths among.
                subst (λ (x : O). P x lengths g.later)
                (sym (f.is lengths (includes_among f.later g.later lengths g.includes among)))
                (g.learned lengths among);
            ends = f.ends ∙ g.ends;
          })

  pub choice_looks : {O : Type 0} (o o' : Lengths → O) (P : Lengths → KnownLengths → Type 0) (M : O → Run) (b : Bool) (x y : Run)
      → Looks o P M x → Looks o' P M y
      → Looks (λ lengths. if b then o lengths else o' lengths) P M (λ maps. if b then x maps else y maps)
  choice_looks o o' P M true x y h k = h
  choice_looks o o' P M false x y h k = k

  -- the length is known from then on
  pub length_looks : {O : Type 0} (P Q : Lengths → KnownLengths → Type 0) (M : O → Run) (type : PvType) (array : ℕ)
      (o : ℤ → Lengths → O) (k : ℤ → Run)
      → ((lengths : Lengths) (known : KnownLengths) → P lengths known → known type array ≡ Some (lengths type array)
      → Q lengths known)
      → ((n : ℤ) → Looks (o n) P M (k n))
      → Looks (λ lengths. o (lengths type array) lengths) Q M
      (λ maps. look_at_length (judging maps table) type array (λ n. k n maps))
  length_looks {O = O} P Q M type array o k enough looks = record {
    forward = λ maps such known picks knows. asked maps such known knows (known type array) refl picks;
    backward = λ lengths are known among. given lengths are known among (known type array) refl;
  }
    where
      here : Lengths → O
      here lengths = o (lengths type array) lengths

      known_run : Option ℤ → Run
      known_run q maps = known_or_picked (judging maps table) q type array (λ n. k n maps)

      went : (maps : Maps) (known next : KnownLengths) (n : ℤ) (picks rest : List Pick) (end : End)
          → Includes known next → next type array ≡ Some n → maps_of picks ≡ maps_of rest
          → end ≡ k n maps (with_lengths s next) rest
          → (k n maps (with_lengths s next) rest ≡ Blocked)
          ⊎ Onward (o n) P M maps next rest (k n maps (with_lengths s next) rest)
          → (end ≡ Blocked) ⊎ Onward here Q M maps known picks end
      went maps known next n picks rest end includes is same ends (inl blocked) = inl (ends ∙ blocked)
      went maps known next n picks rest end includes is same ends (inr f) = inr (record {
        later = f.later;
        rest = f.rest;
        what = f.what;
        includes = λ t a m known. f.includes t a m (includes t a m known);
        knows = f.knows;
        same_maps = same ∙ f.same_maps;
        is = λ lengths among.
            ap (λ z. o z lengths) (among type array n (f.includes type array n is)) ∙ f.is lengths among;
        learned = λ lengths among.
            enough lengths f.later (f.learned lengths among)
            (f.includes type array n is ∙ ap Some (sym (among type array n (f.includes type array n is))));
        ends = ends ∙ f.ends;
      })

      asked : (maps : Maps) → Such maps → (known : KnownLengths) → KnowsLengths known → (q : Option ℤ) → known type array ≡ q
          → (picks : List Pick)
          → (known_run (known type array) maps (with_lengths s known) picks ≡ Blocked)
          ⊎ Onward here Q M maps known picks (known_run (known type array) maps (with_lengths s known) picks)
      asked maps such known knows (Some n) is picks =
          went maps known known n picks picks _ (λ t a m h. h) is refl
          (ap (λ (q : Option ℤ). known_run q maps (with_lengths s known) picks) is)
          ((looks n).forward maps such known picks knows)
      asked maps such known knows None is [] =
          inl (ap (λ (q : Option ℤ). known_run q maps (with_lengths s known) []) is)
      asked maps such known knows None is (Turn n ∷ picks) =
          inl (ap (λ (q : Option ℤ). known_run q maps (with_lengths s known) (Turn n ∷ picks)) is)
      asked maps such known knows None is (Steps map ∷ picks) =
          inl (ap (λ (q : Option ℤ). known_run q maps (with_lengths s known) (Steps map ∷ picks)) is)
      asked maps such known knows None is (Number z ∷ picks) = picked (int_le (pos 0) z) refl
        where
          next : KnownLengths
          next = more known type array z

          run : End
          run = known_run (known type array) maps (with_lengths s known) (Number z ∷ picks)

          so : run ≡ (if int_le (pos 0) z then k z maps (with_lengths s next) else (judging maps table).blocked) picks
          so = ap (λ (q : Option ℤ). known_run q maps (with_lengths s known) (Number z ∷ picks)) is

          picked : (b : Bool) → int_le (pos 0) z ≡ b → (run ≡ Blocked) ⊎ Onward here Q M maps known (Number z ∷ picks) run
          picked false none =
              inl (so ∙ ap (λ b. (if b then k z maps (with_lengths s next) else (judging maps table).blocked) picks) none)
          picked true is_length =
              went maps known next z (Number z ∷ picks) picks run (more_includes known type array z is)
              (more_here known type array z) refl
              (so ∙ ap (λ b. (if b then k z maps (with_lengths s next) else (judging maps table).blocked) picks) is_length)
              ((looks z).forward maps such next picks (more_knows known type array z is_length knows))

      goes : (lengths : Lengths) (known next : KnownLengths) (n : ℤ) → lengths type array ≡ n
          → Includes known next → next type array ≡ Some n
          → ((maps : Maps) (rest : List Pick) → (picks : List Pick) × (maps_of picks ≡ maps_of rest)
          × (known_run (known type array) maps (with_lengths s known) picks ≡ k n maps (with_lengths s next) rest))
          → CanGo lengths P (M (o n lengths)) (k n) next
          → CanGo lengths Q (M (here lengths)) (λ maps. look_at_length (judging maps table) type array (λ n. k n maps))
          known
      goes lengths known next n at includes is step c = record {
        later = c.later;
        includes = λ t a m known. c.includes t a m (includes t a m known);
        among = c.among;
        learned = enough lengths c.later c.learned (c.includes type array n is ∙ ap Some (sym at));
        ahead = λ maps such rest.
            let x = c.ahead maps such rest in
            let y = step maps x.0 in
            (y.0, y.1 ∙ x.1, y.2 ∙ x.2 ∙ ap (λ z. M (o z lengths) maps (with_lengths s c.later) rest) (sym at));
      }

      given : (lengths : Lengths) → AreLengths lengths → (known : KnownLengths) → AreAmong known lengths → (q : Option ℤ)
          → known type array ≡ q
          → CanGo lengths Q (M (here lengths)) (λ maps. look_at_length (judging maps table) type array (λ n. k n maps))
          known
      given lengths are known among (Some n) is =
          goes lengths known known n (among type array n is) (λ t a m h. h) is
          (λ maps rest. (rest, refl, ap (λ (q : Option ℤ). known_run q maps (with_lengths s known) rest) is))
          ((looks n).backward lengths are known among)
      given lengths are known among None is =
          let n : ℤ = lengths type array in
          let next : KnownLengths = more known type array n in
          let is_length : int_le (pos 0) n ≡ true = are type array in
          goes lengths known next n refl (more_includes known type array n is) (more_here known type array n)
          (λ maps rest. (
            Number n ∷ rest,
            refl,
            ap (λ (q : Option ℤ). known_run q maps (with_lengths s known) (Number n ∷ rest)) is
                ∙ ap (λ b. (if b then k n maps (with_lengths s next) else (judging maps table).blocked) rest) is_length,
          ))
          ((looks n).backward lengths are next (more_among known type array n lengths refl among))

  -- Expressions

  -- what is in these cells
  abbrev pub ReadAs : (State → Cells) → Values → Type 0
  ReadAs cells values =
      (maps : Maps) → Such maps → (known : KnownLengths) (r : Resource)
      → option_map (content maps) (cells (with_lengths s known) r) ≡ values r

  abbrev pub or_read : Option Value → Judged → (Value → Next Judged) → Next Judged
  or_read None missing next state = missing
  or_read (Some v) missing next state = next v state

  read_same : (maps : Maps) (c : Option Cell) (missing : Judged) (next : Value → Next Judged) (st : State)
      → or_missing (judging maps table) c missing next st ≡ or_read (option_map (content maps) c) missing next st
  read_same maps None missing next st = refl
  read_same maps (Some c) missing next st = refl

  module _ (M : Outcome → Run) (m : Span → Run) (stops : (span : Span) → Looks (λ lengths. Missing span) Nothing M (m span)) where
    cell_looks : (cells : State → Cells) (values : Values) → ReadAs cells values → (r : Resource) (span : Span)
        (k : Value → Lengths → Outcome) (K : Value → Run) → ((v : Value) → Looks (k v) Nothing M (K v))
        → Looks (λ lengths. read_or (values r) span (λ v. k v lengths)) Nothing M
        (λ maps st. or_missing (judging maps table) (cells st r) (m span maps st) (λ v. K v maps) st)
    cell_looks cells values reads r span k K h =
        looks_as _ Nothing M _ (λ maps st. or_read (values r) (m span maps st) (λ v. K v maps) st)
        (λ maps such known.
        read_same maps (cells (with_lengths s known) r) (m span maps (with_lengths s known)) (λ v. K v maps)
        (with_lengths s known)
        ∙ ap (λ (w : Option Value). or_read w (m span maps (with_lengths s known)) (λ v. K v maps) (with_lengths s known))
        (reads maps such known r))
        (by (values r))
      where
        by : (w : Option Value)
            → Looks (λ lengths. read_or w span (λ v. k v lengths)) Nothing M
            (λ maps st. or_read w (m span maps st) (λ v. K v maps) st)
        by None = stops span
        by (Some v) = h v

    operation_looks : (manner : Manner) (operation : Operation) (a b : ℤ) (span : Span) (k : ℤ → Lengths → Outcome) (K : ℤ → Run)
        → ((z : ℤ) → Looks (k z) Nothing M (K z))
        → Looks (λ lengths. k (worked table manner operation a b) lengths) Nothing M
        (λ maps. operate (judging maps table) manner operation a b span (λ z. K z maps))
    operation_looks core.Plain operation a b span k K h = h _
    operation_looks core.Tabled operation a b span k K h = h _

    unless_looks : (b : Bool) (o o' : Lengths → Outcome) (x y : Run) → Looks o Nothing M x → Looks o' Nothing M y
        → Looks (λ lengths. if b then o lengths else o' lengths) Nothing M (λ maps st. if b then x maps st else y maps st)
    unless_looks true o o' x y h k = h
    unless_looks false o o' x y h k = k

    pub value_looks : (now old : State → Cells) (nows olds : Values) → ReadAs now nows → ReadAs old olds → (scene : Scene)
        (e : Expression) (k : Value → Lengths → Outcome) (K : Value → Run) → ((v : Value) → Looks (k v) Nothing M (K v))
        → Looks (λ lengths. outcome table nows olds lengths scene e (λ v. k v lengths)) Nothing M
        (λ maps. valued maps table (λ span. m span maps) now old scene e (λ v. K v maps))
    value_looks now old nows olds hn ho scene (core.Constant v) k K h = h v
    value_looks now old nows olds hn ho scene core.This k K h = h _
    value_looks now old nows olds hn ho scene core.Result k K h = h _
    value_looks now old nows olds hn ho scene (core.Variable name) k K h = h _
    value_looks now old nows olds hn ho scene (core.Field e class field span) k K h =
        value_looks now old nows olds hn ho scene e _ _
        (λ v. cell_looks now nows hn (InField class (reference_in v) field) span k K h)
    value_looks now old nows olds hn ho scene (core.Element type x i span) k K h =
        value_looks now old nows olds hn ho scene x _ _ (λ a. value_looks now old nows olds hn ho scene i _ _
        (λ v. cell_looks now nows hn (InElement type (reference_in a) (number_in v)) span k K h))
    value_looks now old nows olds hn ho scene (core.Length type x span) k K h =
        value_looks now old nows olds hn ho scene x _ _ (λ a.
        unless_looks (nat_eq (reference_in a) 0) (λ lengths. Missing span)
        (λ lengths. k (value.Number (lengths type (reference_in a))) lengths) (m span)
        (λ maps. look_at_length (judging maps table) type (reference_in a) (λ n. K (value.Number n) maps)) (stops span)
        (length_looks Nothing Nothing M type (reference_in a) (λ n. k (value.Number n)) (λ n. K (value.Number n))
        (λ lengths known p q. p) (λ n. h (value.Number n))))
    value_looks now old nows olds hn ho scene (core.Not e) k K h = value_looks now old nows olds hn ho scene e _ _ (λ v. h _)
    value_looks now old nows olds hn ho scene (core.Compute manner operation x y span) k K h =
        value_looks now old nows olds hn ho scene x _ _ (λ a. value_looks now old nows olds hn ho scene y _ _ (λ b.
        operation_looks manner operation (number_in a) (number_in b) span (λ z. k (value.Number z)) (λ z. K (value.Number z))
        (λ z. h (value.Number z))))
    value_looks now old nows olds hn ho scene (core.Compare c x y) k K h =
        value_looks now old nows olds hn ho scene x _ _ (λ a. value_looks now old nows olds hn ho scene y _ _ (λ b. h _))
    value_looks now old nows olds hn ho scene (core.Equal b x y) k K h =
        value_looks now old nows olds hn ho scene x _ _ (λ a. value_looks now old nows olds hn ho scene y _ _ (λ b. h _))
    value_looks now old nows olds hn ho scene (core.And x y) k K h =
        value_looks now old nows olds hn ho scene x _ _ (λ a.
        choice_looks _ _ Nothing M (truth_in a) _ _ (value_looks now old nows olds hn ho scene y k K h) (h _))
    value_looks now old nows olds hn ho scene (core.Or x y) k K h =
        value_looks now old nows olds hn ho scene x _ _ (λ a.
        choice_looks _ _ Nothing M (truth_in a) _ _ (h _) (value_looks now old nows olds hn ho scene y k K h))
    value_looks now old nows olds hn ho scene (core.Implies x y) k K h =
        value_looks now old nows olds hn ho scene x _ _ (λ a.
        choice_looks _ _ Nothing M (truth_in a) _ _ (value_looks now old nows olds hn ho scene y k K h) (h _))
    value_looks now old nows olds hn ho scene (core.Old e) k K h = value_looks old old olds olds ho ho scene e k K h
