-- The lazy run: the judge's run with one change. A known fact that reads elements is tested at named positions of its range
-- alone, at once at those named by then, and at another when that is named. It shows its pattern, and the numbers that it takes.
-- Where it takes them from is said by a source: from a list of picks, or in order from values and turns by their numbers.
use Rattle.std.specs.Prelude.{ℕ, zero, suc, ℤ, pos, ◌+ℤ◌, Bool, true, false, not, ◌&&◌, ◌||◌, nat_eq, nat_lt, if◌then◌else◌, Option, Some, None, List, [], ◌∷◌, ◌++◌, ◌≢◌, map}
use Rattle.pv_ast.specs.declared.PvType.{PvType}
use Rattle.pv_ast.specs.declared.PvType.TheVariants.{Int}
use Rattle.pv_values.specs.declared.value.Value.{Value}
use Rattle.std.specs.List.{list_any}
use Rattle.pv_values.specs.Heaps.{same_number}
use Rattle.pv_base.specs.Names.{same_name}
use Rattle.pv_picks.specs.declared.evidence.Pick.{Pick}
use Rattle.pv_picks.specs.declared.evidence.Pick.TheVariants.{Number, Turn, Steps}
use Rattle.pv_picks.specs.declared.evidence.Entry.{Entry}
use Rattle.pv_picks.specs.declared.evidence.Evidence.{Evidence}
use Rattle.pv_picks.specs.declared.unit.PvUnit.{PvUnit}
use Rattle.pv_picks.specs.Plain.Core.{Operation, Minus, Program}
use Rattle.pv_picks.specs.Formulas.Values.{width, within}
use Rattle.pv_picks.specs.Judge.States.{Cell, Written, FromSteps, as_element, as_element_type, same_token}
use Rattle.pv_picks.specs.Judge.Settings.{Setting, Event, AtField, AtToken, AtLock, AtArray, ArrayPart, Known}
use Rattle.pv_picks.specs.Judge.Repetitions.{shifted, test_at, test_from}
use Rattle.pv_picks.specs.Judge.UnitRuns.{task_of, judge_task}
use Rattle.pv_picks.specs.Judge.Runs.{End, Finished, Blocked, Failed, Maps, maps_of, value_of_operation}
use Rattle.pv_picks.specs.Lazy.Patterns.{Shown, Took, Ordered, Is, order_of, shown_of, shown_with, shown_among, positions_of, Use, same_use, shown_of_use}

-- the use of an operation, and an element of a pick for a range, with the numbers that were taken there
pub record UsedFor : Type 0 where
  pub used : Use
  pub value : ℤ

pub record ReadAs : Type 0 where
  pub number : ℕ
  pub index : ℤ
  pub value : ℤ

-- a pick that was taken; what one for a range gives comes out where it is read
pub data Taken : Type 0 where
  OneNumber : ℤ → Taken
  OneTurn : ℕ → Taken
  ForRange : Taken

-- a pick for a range: its number, the type of the elements and the array
pub record RangeOf : Type 0 where
  pub number : ℕ
  pub type : PvType
  pub array : ℕ

-- what a lazy run remembers: events in their order, facts in the order in which they were known, uses of operations, elements
-- that were read, and whether it shows nothing for now
pub record Memory : Type 0 where
  pub events : List Event
  pub known : List Known
  -- which facts, by their places, were tested at which positions
  pub tested : List (ℕ × ℤ)
  pub uses : List UsedFor
  pub reads : List ReadAs
  pub quiet : Bool
  -- the picks that were taken, and for which array each of those for ranges is
  pub picks : List Taken
  pub ranges : List RangeOf

-- how it ends: as a run of the judge, or at a pick that is missing or of another kind, a turn above 2, or a negative number in
-- the place of a reference
pub data LazyEnd : Type 0 where
  Ends : End → LazyEnd
  Unfit : LazyEnd

-- what a run shows; the numbers that it takes, in their order, and the types of the values in whose places they stand; its picks;
-- what comes in the end
pub record Outcome (E : Type 0) : Type 0 where
  pub shows : List Shown
  pub values : List ℤ
  pub types : List PvType
  pub picks : List Taken
  pub end : E

abbrev pub no_memory : Memory
no_memory =
    record { events = []; known = []; tested = []; uses = []; reads = []; quiet = false; picks = []; ranges = [] }

module _ {E : Type 0} where
  abbrev pub at_end : E → Outcome E
  at_end end = record { shows = []; values = []; types = []; picks = []; end = end }

  abbrev pub showing : List Shown → Outcome E → Outcome E
  showing shown o = record { shows = shown ++ o.shows; values = o.values; types = o.types; picks = o.picks; end = o.end }

  abbrev pub taking : PvType → ℤ → Outcome E → Outcome E
  taking type z o = record {
    shows = o.shows;
    values = z ∷ o.values;
    types = type ∷ o.types;
    picks = o.picks;
    end = o.end;
  }

  abbrev pub picking : Taken → Outcome E → Outcome E
  picking t o = record { shows = o.shows; values = o.values; types = o.types; picks = t ∷ o.picks; end = o.end }

-- where a run takes what it takes: a number, a turn, a pick for a range, an element of such a pick that is read for the first
-- time, the value of an operation that is used for the first time
pub record Source (S E : Type 0) : Type 0 where
  pub number : (ℤ → S → Outcome E) → S → Outcome E
  pub turn : (ℕ → S → Outcome E) → S → Outcome E
  pub steps : (S → Outcome E) → S → Outcome E
  pub element : ℕ → ℤ → (ℤ → S → Outcome E) → S → Outcome E
  pub operation : Operation → ℤ → ℤ → (ℤ → S → Outcome E) → S → Outcome E

abbrev pub was_tested : ℕ → ℤ → List (ℕ × ℤ) → Bool
was_tested place i [] = false
was_tested place i (x ∷ xs) = (nat_eq x.0 place && same_number x.1 i) || was_tested place i xs

abbrev pub value_read : List ReadAs → ℕ → ℤ → Option ℤ
value_read [] number index = None
value_read (r ∷ rs) number index =
    if nat_eq r.number number && same_number r.index index then Some r.value else value_read rs number index

-- the arguments of `+` and `*` may come in the other order
abbrev pub commutes : Operation → Bool
commutes Minus = false
commutes _ = true

abbrev pub is_same_use : Use → Use → Bool
is_same_use u v = same_use u v || (commutes u.0 && same_use u (v.0, v.2, v.1))

abbrev pub value_used : List UsedFor → Use → Option ℤ
value_used [] u = None
value_used (x ∷ xs) u = if is_same_use u x.used then Some x.value else value_used xs u

abbrev pub reads_none : List ArrayPart → Bool
reads_none [] = true
reads_none (part ∷ parts) = false

-- fields, tokens and locks are remembered once
abbrev pub is_same_event : Event → Event → Bool
is_same_event (AtField c o f) (AtField d p g) = same_name c d && (nat_eq o p && same_name f g)
is_same_event (AtToken t c o) (AtToken u d p) = same_token t u && (same_name c d && nat_eq o p)
is_same_event (AtLock c o) (AtLock d p) = same_name c d && nat_eq o p
is_same_event a b = false

abbrev pub with_event : Event → List Event → List Event
with_event event events = if list_any (is_same_event event) events then events else events ++ event ∷ []

abbrev pub taken_in : Taken → Memory → Memory
taken_in t memory = record memory { picks = memory.picks ++ t ∷ [] }

abbrev pub ranged : ℕ → PvType → ℕ → Memory → Memory
ranged number type array memory =
    record memory {
      picks = memory.picks ++ ForRange ∷ [];
      ranges = memory.ranges
          ++ record { number = number; type = type; array = array } ∷ [];
    }

abbrev pub Lazily : Type 0 → Type 0 → Type 0
Lazily S E = Memory → S → Outcome E

abbrev pub unless_quiet : Bool → List Shown → List Shown
unless_quiet true shown = []
unless_quiet false shown = shown

module _ {S E : Type 0} where
  abbrev pub show : List Shown → Lazily S E → Lazily S E
  show shown rest memory source = showing (unless_quiet memory.quiet shown) (rest memory source)

  abbrev pub quieted : Bool → Lazily S E → Lazily S E
  quieted quiet rest memory source = rest (record memory { quiet = quiet }) source

  abbrev pub remember_test : ℕ → ℤ → Lazily S E → Lazily S E
  remember_test place i rest memory source = rest (record memory { tested = (place, i) ∷ memory.tested }) source

  abbrev pub remember_event : Event → Lazily S E → Lazily S E
  remember_event event rest memory source =
      show (shown_with memory.known event memory.events) rest (record memory { events = with_event event memory.events }) source

  -- a fact joins the arrays that it reads, and what is named for one is then named for the other
  abbrev pub join_fact : Known → Lazily S E → Lazily S E
  join_fact k rest memory source =
      let joined : Memory =
      record memory { known = memory.known ++ k ∷ [] } in show (shown_among joined.known joined.events) rest joined source

module _ {S E : Type 0} (stop : LazyEnd → Memory → E) (source : Source S E) where
  abbrev pub ending : LazyEnd → Lazily S E
  ending end memory s = at_end (stop end memory)

  abbrev pub lazy_pick : PvType → (ℤ → Lazily S E) → Lazily S E
  lazy_pick type next memory =
      source.number (λ z s. picking (OneNumber z) (taking type z (next z (taken_in (OneNumber z) memory) s)))

  abbrev pub lazy_turn : (ℕ → Lazily S E) → Lazily S E
  lazy_turn next memory =
      source.turn (λ n s. picking (OneTurn n) (showing (Took n ∷ [])
      (if nat_lt n 3 then next n (taken_in (OneTurn n) memory) s else at_end (stop Unfit (taken_in (OneTurn n) memory)))))

  abbrev pub lazy_steps : ℕ → PvType → ℕ → Lazily S E → Lazily S E
  lazy_steps number type array rest memory = source.steps (λ s. picking ForRange (rest (ranged number type array memory) s))

  -- an element of a pick for a range is taken when it is first read
  abbrev pub element_or : Option ℤ → PvType → ℕ → ℤ → (ℤ → Lazily S E) → Lazily S E
  element_or (Some z) type number index next memory s = next z memory s
  element_or None type number index next memory s =
      source.element number index (λ z t. taking (as_element_type type) z
      (next z (record memory { reads = record { number = number; index = index; value = z } ∷ memory.reads }) t)) s

  abbrev pub lazy_read : Cell → (Value → Lazily S E) → Lazily S E
  lazy_read (Written v) next memory s = next v memory s
  lazy_read (FromSteps type number index) next memory s =
      element_or (value_read memory.reads number index) type number index (λ z. next (as_element type z)) memory s

  -- the value of an operation is taken where its operator and arguments are used for the first time
  abbrev pub operation_or : Option ℤ → Operation → ℤ → ℤ → (ℤ → Lazily S E) → Lazily S E
  operation_or (Some z) operation a b next memory s = next z memory s
  operation_or None operation a b next memory s =
      source.operation operation a b (λ z t. taking Int z
      (next z (record memory { uses = memory.uses ++ record { used = (operation, a, b); value = z } ∷ [] }) t)) s

  -- a use is held against those before it
  abbrev pub lazy_use : Operation → ℤ → ℤ → (ℤ → Lazily S E) → Lazily S E
  lazy_use operation a b next memory s =
      show (shown_of_use (operation, a, b) (map (λ x. x.used) memory.uses))
      (operation_or (value_used memory.uses (operation, a, b)) operation a b next) memory s

  -- the setting of tests, which know nothing new
  abbrev pub testing : Setting (Lazily S E)
  testing = record {
    finished = ending (Ends Finished);
    blocked = ending (Ends Blocked);
    failed = λ check span. ending (Ends (Failed check span));
    unfit = ending Unfit;
    pick = lazy_pick;
    turn = lazy_turn;
    steps = lazy_steps;
    using = lazy_use;
    comparing = λ a b. show (Ordered (order_of a b) ∷ []);
    matching = λ a b. show (shown_of a b);
    deciding = λ b. show (Is b ∷ []);
    noticing = remember_event;
    reading = lazy_read;
    knowing = λ k rest. rest;
  }

  -- the fact at this place is tested at a position of its range once
  abbrev pub is_due : ℕ → Known → ℤ → Memory → Bool
  is_due place k i memory = within k.low k.high i && not (was_tested place i memory.tested)

  abbrev pub test_once : ℕ → Known → ℤ → Lazily S E → Lazily S E
  test_once place k i rest memory =
      (if is_due place k i memory then remember_test place i (test_at testing k i rest) else rest) memory

  abbrev pub test_within : ℕ → Known → List ℤ → Lazily S E → Lazily S E
  test_within place k [] rest = rest
  test_within place k (i ∷ is) rest = test_once place k i (test_within place k is rest)

  -- the facts from this place on
  abbrev pub test_facts : ℕ → List Known → Memory → Lazily S E → Lazily S E
  test_facts place [] seen rest = rest
  test_facts place (k ∷ ks) seen rest =
      test_within place k (positions_of seen.known seen.events k) (test_facts (suc place) ks seen rest)

  -- each fact at each named position of its range: the facts in the order in which they were known, the positions in the order in
  -- which they were named
  abbrev pub test_all : Lazily S E → Lazily S E
  test_all rest memory s = test_facts 0 memory.known memory rest memory s

  -- the ends of an event on an array are named one after the other, with the tests that become due
  abbrev pub name_ends : PvType → ℕ → List ℤ → Lazily S E → Lazily S E
  name_ends type array [] rest = rest
  name_ends type array (z ∷ zs) rest = remember_event (AtArray type array (z ∷ [])) (test_all (name_ends type array zs rest))

  abbrev pub lazy_event : Event → Lazily S E → Lazily S E
  lazy_event (AtArray type array ends) rest = name_ends type array ends rest
  lazy_event event rest = remember_event event rest

  -- each array's part of a fact is an event
  abbrev pub part_events : List ℤ → List ArrayPart → Lazily S E → Lazily S E
  part_events ends [] rest = rest
  part_events ends (part ∷ parts) rest = name_ends part.type part.array (shifted ends part.shift) (part_events ends parts rest)

  -- at each position, and only the first test is shown
  abbrev pub first_shown : Known → ℕ → Lazily S E → Lazily S E
  first_shown k zero rest = rest
  first_shown k (suc n) rest =
      test_at testing k k.low (quieted true (test_from testing k (k.low +ℤ pos 1) n (quieted false rest)))

  abbrev pub known_if : Bool → Known → Lazily S E → Lazily S E
  known_if true k rest = first_shown k (width k.low k.high) rest
  known_if false k rest = part_events k.ends k.parts (join_fact k (test_all rest))

  -- A fact that reads no element at its position is tested at each position, and shows its test at the first alone.
  abbrev pub lazy_known : Known → Lazily S E → Lazily S E
  lazy_known k rest = known_if (reads_none k.parts) k rest

  abbrev pub lazy : Setting (Lazily S E)
  lazy = record testing { noticing = lazy_event; knowing = lazy_known }

-- From a list of picks

-- how a run ends, with what it remembers then
pub record Final : Type 0 where
  pub end : LazyEnd
  pub events : List Event
  pub known : List Known
  pub uses : List UsedFor
  pub reads : List ReadAs
  pub picks : List Taken
  pub ranges : List RangeOf

abbrev pub final : LazyEnd → Memory → Final
final end memory =
    record {
      end = end;
      events = memory.events;
      known = memory.known;
      uses = memory.uses;
      reads = memory.reads;
      picks = memory.picks;
      ranges = memory.ranges;
    }

abbrev pub unfit : Outcome Final
unfit = at_end (final Unfit no_memory)

abbrev pub taken_number : (ℤ → List Pick → Outcome Final) → List Pick → Outcome Final
taken_number next [] = unfit
taken_number next (Number z ∷ picks) = next z picks
taken_number next (Turn n ∷ picks) = unfit
taken_number next (Steps map ∷ picks) = unfit

abbrev pub taken_turn : (ℕ → List Pick → Outcome Final) → List Pick → Outcome Final
taken_turn next [] = unfit
taken_turn next (Number z ∷ picks) = unfit
taken_turn next (Turn n ∷ picks) = next n picks
taken_turn next (Steps map ∷ picks) = unfit

abbrev pub taken_steps : (List Pick → Outcome Final) → List Pick → Outcome Final
taken_steps next [] = unfit
taken_steps next (Number z ∷ picks) = unfit
taken_steps next (Turn n ∷ picks) = unfit
taken_steps next (Steps map ∷ picks) = next picks

abbrev pub from_picks : Maps → List Entry → Source (List Pick) Final
from_picks maps table = record {
  number = taken_number;
  turn = taken_turn;
  steps = taken_steps;
  element = λ number index next picks. next (maps number index) picks;
  operation = λ operation a b next picks. next (value_of_operation table operation a b) picks;
}

-- the lazy run of a unit on evidence
abbrev pub lazy_run : Program → PvUnit → Evidence → Outcome Final
lazy_run p unit evidence =
    judge_task (lazy final (from_picks (maps_of evidence.picks) evidence.table)) p (task_of p unit) no_memory evidence.picks

-- evidence has a pattern where its lazy run doesn't end unfit: what the run shows
abbrev pub HasPattern : Program → PvUnit → Evidence → Type 0
HasPattern p unit evidence = (lazy_run p unit evidence).end.end ≢ Unfit

abbrev pub pattern_of : Program → PvUnit → Evidence → List Shown
pattern_of p unit evidence = (lazy_run p unit evidence).shows

-- the values of evidence: the numbers that its lazy run takes, in their order; and the types for which they stand
abbrev pub values_of : Program → PvUnit → Evidence → List ℤ
values_of p unit evidence = (lazy_run p unit evidence).values

abbrev pub types_of : Program → PvUnit → Evidence → List PvType
types_of p unit evidence = (lazy_run p unit evidence).types

-- From values and turns by their numbers

-- how many values and turns were taken
pub record Drawn : Type 0 where
  pub taken : ℕ
  pub turned : ℕ

abbrev pub draw : {E : Type 0} → (ℕ → ℤ) → (ℤ → Drawn → Outcome E) → Drawn → Outcome E
draw values next d = next (values d.taken) (record { taken = suc d.taken; turned = d.turned })

abbrev pub draw_turn : {E : Type 0} → (ℕ → ℕ) → (ℕ → Drawn → Outcome E) → Drawn → Outcome E
draw_turn turns next d = next (turns d.turned) (record { taken = d.taken; turned = suc d.turned })

abbrev pub from_values : {E : Type 0} → (ℕ → ℤ) → (ℕ → ℕ) → Source Drawn E
from_values values turns = record {
  number = draw values;
  turn = draw_turn turns;
  steps = λ rest. rest;
  element = λ number index. draw values;
  operation = λ operation a b. draw values;
}

-- the drawn run of a unit on values and turns
abbrev pub drawn_run : Program → PvUnit → (ℕ → ℤ) → (ℕ → ℕ) → Outcome Final
drawn_run p unit values turns =
    judge_task (lazy final (from_values values turns)) p (task_of p unit) no_memory (record { taken = 0; turned = 0 })
