-- What a lazy run has named, and the ranges that it picked for, stay.
use Rattle.std.proofs.Common.{ℕ, ℤ, Bool, true, false, if◌then◌else◌, Option, Some, None, List, [], ◌∷◌, ◌++◌, refl, sym, subst, inl, inr}
use Rattle.std.specs.Prelude.{nat_lt}
use Rattle.pv_ast.specs.declared.PvType.{PvType}
use Rattle.pv_values.specs.declared.value.Value.{Value}
use Rattle.pv_picks.specs.declared.evidence.Pick.{Pick}
use Rattle.pv_picks.specs.declared.evidence.Pick.TheVariants.{Number, Turn, Steps}
use Rattle.pv_picks.specs.declared.evidence.Entry.{Entry}
use Rattle.pv_picks.specs.Plain.Core.{Operation}
use Rattle.pv_picks.specs.Formulas.Values.{width}
use Rattle.pv_picks.specs.Judge.States.{Cell, Written, FromSteps, as_element}
use Rattle.pv_picks.specs.Judge.Settings.{Setting, Event, AtField, AtToken, AtLock, AtInstance, AtArray, AtArrayLength, ArrayPart, Known}
use Rattle.pv_picks.specs.Judge.Runs.{Maps, value_of_operation}
use Rattle.pv_picks.specs.Lazy.Patterns.{Array, named_on}
use Rattle.pv_picks.specs.Lazy.Runs.{taken_in, ranged, Memory, RangeOf, Final, final, Outcome, at_end, Unfit, OneNumber, OneTurn, Source, Lazily, element_or, operation_or, value_read, with_event, remember_event, lazy_event, known_if, test_all, name_ends, part_events, join_fact}
use Rattle.judge_facts.specs.Finite.{IsOneOf}
use Rattle.judge_laws.proofs.Lookups.{fits_more}
use Rattle.judge_facts.proofs.Naming.{is_more, Grew, alike_grew, event_grew}
use Rattle.judge_facts.proofs.Ways as ways
use Rattle.judge_facts.proofs.Lockstep as lockstep

module _ (maps : Maps) (table : List Entry) where
  abbrev S : Source (List Pick) Final
  S = ways.S maps table

  abbrev L : Setting (Lazily (List Pick) Final)
  L = ways.L maps table

  abbrev Lazy : Type 0
  Lazy = Lazily (List Pick) Final

  abbrev Fit : Memory → Type 0
  Fit m = ways.Fit maps table m

  abbrev Live : Final → Type 0
  Live f = lockstep.Live maps table f

  pub record Grown (m : Memory) (f : Final) : Type 0 where
    pub names : (a : Array) (z : ℤ) → IsOneOf z (named_on [] m.events a) → IsOneOf z (named_on [] f.events a)
    pub ranges : (x : RangeOf) → IsOneOf x m.ranges → IsOneOf x f.ranges
    pub known : (k : Known) → IsOneOf k m.known → IsOneOf k f.known

  abbrev pub Grows : Lazy → Type 0
  Grows y = (m : Memory) (ps : List Pick) → Fit m → Live (y m ps).end → Grown m (y m ps).end

  grew_grown : (m n : Memory) (f : Final) → Grew m n → Grown n f → Grown m f
  grew_grown m n f g h = record {
    names = λ a z i. h.names a z (g.2 a z i);
    ranges = λ x i. h.ranges x (subst (λ (xs : List RangeOf). IsOneOf x xs) (sym g.1) i);
    known = λ k i. h.known k (subst (λ (ks : List Known). IsOneOf k ks) (sym g.0) i);
  }

  way_grown : (m : Memory) (Q : Memory → Type 0) (ps : List Pick) (y : Lazy) (o : Final) → ways.Way maps table Q ps y o
      → ((n : Memory) → Q n → Grew m n) → Grows y → Live o → Grown m o
  way_grown m Q ps y o (inl w) f g l = subst (λ (f : Final). Grown m f) (sym w.1.1.1)
      (grew_grown m w.0 (y w.0 ps).end (f w.0 w.1.1.0) (g w.0 ps w.1.0 (subst Live w.1.1.1 l)))
  way_grown m Q ps y o (inr b) f g l = absurd (l.0 b)

  other_grows : (e : Event) (y : Lazy) → Grows y → Grows (remember_event e y)
  other_grows e y g m ps r l = let u : Memory = record m { events = with_event e m.events } in
      grew_grown m u _ (event_grew m e) (g u ps r l)

  pub pick_grows : (ty : PvType) (f : ℤ → Lazy) → ((z : ℤ) → Grows (f z)) → Grows (L.pick ty f)
  pick_grows ty f g m [] r l = absurd (l.1 refl)
  pick_grows ty f g m (Number z ∷ ps) r l = let h =
      g z (taken_in (OneNumber z) m) ps r l in record { names = h.names; ranges = h.ranges; known = h.known }
  pick_grows ty f g m (Turn n ∷ ps) r l = absurd (l.1 refl)
  pick_grows ty f g m (Steps x ∷ ps) r l = absurd (l.1 refl)

  by_turn : (b : Bool) (m : Memory) (y : Outcome Final) → (Live y.end → Grown m y.end)
      → Live (if b then y else at_end (final Unfit m)).end → Grown m (if b then y else at_end (final Unfit m)).end
  by_turn true m y h l = h l
  by_turn false m y h l = absurd (l.1 refl)

  pub turn_grows : (f : ℕ → Lazy) → ((n : ℕ) → Grows (f n)) → Grows (L.turn f)
  turn_grows f g m [] r l = absurd (l.1 refl)
  turn_grows f g m (Number z ∷ ps) r l = absurd (l.1 refl)
  turn_grows f g m (Turn n ∷ ps) r l =
      let h = by_turn (nat_lt n 3) (taken_in (OneTurn n) m) (f n (taken_in (OneTurn n) m) ps)
      (λ k. g n (taken_in (OneTurn n) m) ps r k) l in record { names = h.names; ranges = h.ranges; known = h.known }
  turn_grows f g m (Steps x ∷ ps) r l = absurd (l.1 refl)

  pub steps_grow : (n : ℕ) (t : PvType) (a : ℕ) (y : Lazy) → Grows y → Grows (L.steps n t a y)
  steps_grow n t a y g m [] r l = absurd (l.1 refl)
  steps_grow n t a y g m (Number z ∷ ps) r l = absurd (l.1 refl)
  steps_grow n t a y g m (Turn u ∷ ps) r l = absurd (l.1 refl)
  steps_grow n t a y g m (Steps x ∷ ps) r l =
      let h = g (ranged n t a m) ps r l in
      record {
        names = h.names;
        ranges = λ x i. h.ranges x (is_more m.ranges (record { number = n; type = t; array = a }) x i);
        known = h.known;
      }

  pub element_grows : (o : Option ℤ) (ty : PvType) (n : ℕ) (i : ℤ) (f : ℤ → Lazy) → ((z : ℤ) → Grows (f z))
      → Grows (element_or final S o ty n i f)
  element_grows (Some z) ty n i f g m ps r l = g z m ps r l
  element_grows None ty n i f g m ps r l =
      let h = g (maps n i) (record m { reads = record { number = n; index = i; value = maps n i } ∷ m.reads }) ps
      ((refl, r.0), r.1) l in record { names = h.names; ranges = h.ranges; known = h.known }

  pub operation_grows : (x : Option ℤ) (o : Operation) (b c : ℤ) (f : ℤ → Lazy) → ((z : ℤ) → Grows (f z))
      → Grows (operation_or final S x o b c f)
  operation_grows (Some z) o b c f g m ps r l = g z m ps r l
  operation_grows None o b c f g m ps r l =
      let h = g (value_of_operation table o b c)
      (record m { uses = m.uses ++ record { used = (o, b, c); value = value_of_operation table o b c } ∷ [] }) ps
      (r.0, fits_more table m.uses _ r.1 refl) l in
      record { names = h.names; ranges = h.ranges; known = h.known }

  pub reading_grows : (c : Cell) (f : Value → Lazy) → ((v : Value) → Grows (f v)) → Grows (L.reading c f)
  reading_grows (Written v) f g m ps r l = g v m ps r l
  reading_grows (FromSteps t n i) f g m ps r l =
      element_grows (value_read m.reads n i) t n i (λ z. f (as_element t z)) (λ z. g (as_element t z)) m ps r l

  pub all_grow : (y : Lazy) → Grows y → Grows (test_all final S y)
  all_grow y g m ps r l = way_grown m _ ps y _ (ways.all_way maps table y m ps r) (λ n q. alike_grew m n q.0) g l

  pub ends_grow : (t : PvType) (a : ℕ) (zs : List ℤ) (y : Lazy) → Grows y → Grows (name_ends final S t a zs y)
  ends_grow t a zs y g m ps r l =
      way_grown m (ways.Ended maps table t a zs m) ps y _ (ways.ends_way maps table t a zs y m ps r) (λ n q. q.0) g l

  pub parts_grow : (ends : List ℤ) (parts : List ArrayPart) (y : Lazy) → Grows y → Grows (part_events final S ends parts y)
  parts_grow ends parts y g m ps r l =
      way_grown m (ways.Parted maps table ends parts m) ps y _ (ways.parts_way maps table ends parts y m ps r) (λ n q. q.0) g l

  pub join_grows : (k : Known) (y : Lazy) → Grows y → Grows (join_fact k y)
  join_grows k y g m ps r l =
      let h = g (record m { known = m.known ++ k ∷ [] }) ps r l in
      record { names = h.names; ranges = h.ranges; known = λ j i. h.known j (is_more m.known k j i) }

  pub noticing_grows : (e : Event) (y : Lazy) → Grows y → Grows (lazy_event final S e y)
  noticing_grows (AtField c o n) y g m ps r l = other_grows (AtField c o n) y g m ps r l
  noticing_grows (AtToken k c o) y g m ps r l = other_grows (AtToken k c o) y g m ps r l
  noticing_grows (AtLock c o) y g m ps r l = other_grows (AtLock c o) y g m ps r l
  noticing_grows (AtInstance c k o vs) y g m ps r l = other_grows (AtInstance c k o vs) y g m ps r l
  noticing_grows (AtArrayLength t a) y g m ps r l = other_grows (AtArrayLength t a) y g m ps r l
  noticing_grows (AtArray t a ends) y g m ps r l = ends_grow t a ends y g m ps r l

  pub known_grows : (b : Bool) (k : Known) (y : Lazy) → Grows y → Grows (known_if final S b k y)
  known_grows true k y g m ps r l =
      way_grown m _ ps y _ (ways.shown_way maps table k (width k.low k.high) y m ps r) (λ n q. alike_grew m n q.0.1) g l
  known_grows false k y g m ps r l =
      let u : Memory = record m { known = m.known ++ k ∷ [] } in
      let h = way_grown u (ways.Joined maps table k m) ps y _ (ways.joined_way maps table k y m ps r) (λ n q. q.1) g l in
      record { names = h.names; ranges = h.ranges; known = λ j i. h.known j (is_more m.known k j i) }
