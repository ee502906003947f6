-- Values of expressions, by those of their parts.
use Rattle.std.proofs.Common.{◌≡◌, ℤ, Bool, true, false, not, if◌then◌else◌, Option, None, Some, option_map, List, refl, ap, ◌∙◌}
use Rattle.std.specs.Prelude.{nat_eq}
use Rattle.pv_base.specs.declared.Name.{Name}
use Rattle.pv_base.specs.declared.Span.{Span}
use Rattle.pv_ast.specs.declared.PvType.{PvType}
use Rattle.pv_values.specs.declared.value.Value.{Value}
use Rattle.pv_values.specs.declared.value.Value.TheVariants as value
use Rattle.pv_picks.specs.declared.evidence.Pick.{Pick}
use Rattle.pv_picks.specs.Plain.Core.{Operation, Manner, Plain, Tabled, Comparison, Expression, Constant, This, Result, Variable, Field, Element, Length, Not, Compute, Compare, Equal, And, Or, Implies, Old}
use Rattle.pv_picks.specs.Formulas.Values.{number_in, truth_in, reference_in, arithmetic, comparison, equality}
use Rattle.pv_picks.specs.Judge.States.{State, Cell, InField, InElement}
use Rattle.pv_picks.specs.Judge.Settings.{Next, or_missing, look_at_length}
use Rattle.pv_picks.specs.Judge.Runs.{content, value_of_operation}
use Rattle.pv_cells.specs.declared.halt.Halt.{Halt}
use Rattle.pv_cells.specs.declared.halt.Halt.TheVariants as halt
use Rattle.pv_cells.specs.declared.prepared.Prepared.{Prepared}
use Rattle.pv_cells.specs.declared.store.Learned.{Learned}
use Rattle.pv_cells.specs.Limits.{Limited, Overflows, limiting, fits, if_fits}
use Rattle.pv_cells.specs.Parts.{Part, Goes, Halts}
use Rattle.pv_cells.specs.Prepared.{maps_of, table_of, left}
use Rattle.pv_cells.specs.Reading.{read_in, worked, before}
use Rattle.pv_cells.specs.Stores.{with_learned}
use Rattle.pv_cells.specs.Values.{Surroundings, Valued, Unvalued, Measured, Unmeasured, value_part, length_part}
use Rattle.pv_cells.proofs.Parts.{stops_first, stops_then, halts_if, first_halts, second_halts, overflow_halts}

module _ (given : Prepared) (around : Surroundings) where
  -- What is at hand

  pub constant_is : (v : Value) (l : Learned) → Valued given around (Constant v) l v l
  unfolding Valued Goes
  constant_is v l cells s r missing next = refl

  pub this_is : (l : Learned) → Valued given around This l (value.Reference around.scene.this) l
  unfolding Valued Goes
  this_is l cells s r missing next = refl

  pub result_is : (l : Learned) → Valued given around Result l around.scene.result l
  unfolding Valued Goes
  result_is l cells s r missing next = refl

  pub variable_is : (name : Name) (l : Learned) → Valued given around (Variable name) l (around.scene.variables name.0) l
  unfolding Valued Goes
  variable_is name l cells s r missing next = refl

  -- Reads

  -- a read of a location goes on with what is in it, or is missing
  found : (c : Option Cell) (v : Value) (x : Next Limited) (next : Value → Next Limited) (t : State) (picks : List Pick)
      → option_map (content (maps_of given)) c ≡ Some v
      → or_missing (limiting (maps_of given) (table_of given)) c (x t) next t picks ≡ next v t picks
  found None v x next t picks e = absurd (cc e)
  found (Some c) v x next t picks e = ap (λ w. next w t picks) (let h : content (maps_of given) c ≡ v = cc e in h)

  pub field_is : (e : Expression) (class name : Name) (span : Span) (from to : Learned) (o v : Value)
      → Valued given around e from o to
      → read_in (maps_of given) around.now (InField class (reference_in o) name) ≡ Some v
      → Valued given around (Field e class name span) from v to
  unfolding Valued Goes
  field_is e class name span from to o v h is cells s r missing next =
      h cells s r missing _
      ∙ ap (λ k. or_missing (limiting (maps_of given) (table_of given)) (k (InField class (reference_in o) name))
      (missing span (with_learned s to)) next (with_learned s to) (left given to)) (r to)
      ∙ found (around.now (InField class (reference_in o) name)) v (missing span) next (with_learned s to) (left given to) is

  pub no_field : (e : Expression) (class name : Name) (span : Span) (from to : Learned) (o : Value)
      → Valued given around e from o to → around.now (InField class (reference_in o) name) ≡ None
      → Unvalued given around (Field e class name span) from (halt.Missing span) to
  unfolding Valued Goes Unvalued Halts
  no_field e class name span from to o h is cells s r missing next =
      h cells s r missing _
      ∙ ap (λ k. or_missing (limiting (maps_of given) (table_of given)) (k (InField class (reference_in o) name))
      (missing span (with_learned s to)) next (with_learned s to) (left given to)) (r to)
      ∙ ap (λ k. or_missing (limiting (maps_of given) (table_of given)) k
      (missing span (with_learned s to)) next (with_learned s to) (left given to)) is

  pub field_stops : (e : Expression) (class name : Name) (span : Span) (from to : Learned) (h : Halt)
      → Unvalued given around e from h to → Unvalued given around (Field e class name span) from h to
  unfolding Unvalued
  field_stops e class name span from to h u cells s r =
      stops_first (value_part given cells around.old around.scene e) _ _ _ _ _ h (u cells s r)

  pub element_is : (type : PvType) (a i : Expression) (span : Span) (from mid to : Learned) (x y v : Value)
      → Valued given around a from x mid → Valued given around i mid y to
      → read_in (maps_of given) around.now (InElement type (reference_in x) (number_in y)) ≡ Some v
      → Valued given around (Element type a i span) from v to
  unfolding Valued Goes
  element_is type a i span from mid to x y v g h is cells s r missing next =
      g cells s r missing _ ∙ h cells s r missing _
      ∙ ap (λ k. or_missing (limiting (maps_of given) (table_of given)) (k (InElement type (reference_in x) (number_in y)))
      (missing span (with_learned s to)) next (with_learned s to) (left given to)) (r to)
      ∙ found (around.now (InElement type (reference_in x) (number_in y))) v (missing span) next (with_learned s to)
      (left given to) is

  pub no_element : (type : PvType) (a i : Expression) (span : Span) (from mid to : Learned) (x y : Value)
      → Valued given around a from x mid → Valued given around i mid y to
      → around.now (InElement type (reference_in x) (number_in y)) ≡ None
      → Unvalued given around (Element type a i span) from (halt.Missing span) to
  unfolding Valued Goes Unvalued Halts
  no_element type a i span from mid to x y g h is cells s r missing next =
      g cells s r missing _ ∙ h cells s r missing _
      ∙ ap (λ k. or_missing (limiting (maps_of given) (table_of given)) (k (InElement type (reference_in x) (number_in y)))
      (missing span (with_learned s to)) next (with_learned s to) (left given to)) (r to)
      ∙ ap (λ k. or_missing (limiting (maps_of given) (table_of given)) k
      (missing span (with_learned s to)) next (with_learned s to) (left given to)) is

  pub array_stops : (type : PvType) (a i : Expression) (span : Span) (from to : Learned) (h : Halt)
      → Unvalued given around a from h to → Unvalued given around (Element type a i span) from h to
  unfolding Unvalued
  array_stops type a i span from to h u cells s r =
      stops_first (value_part given cells around.old around.scene a) _ _ _ _ _ h (u cells s r)

  -- a part that stops behind one that has a value
  pub index_stops : (type : PvType) (a i : Expression) (span : Span) (from mid to : Learned) (x : Value) (h : Halt)
      → Valued given around a from x mid → Unvalued given around i mid h to
      → Unvalued given around (Element type a i span) from h to
  unfolding Valued Unvalued
  index_stops type a i span from mid to x h g u cells s r =
      stops_then (value_part given cells around.old around.scene a) _ _ _ _ _ _ _ x h (g cells s r)
      (stops_first (value_part given cells around.old around.scene i) _ _ _ _ _ h (u cells s r))

  -- Lengths

  pub length_is : (type : PvType) (e : Expression) (span : Span) (from mid to : Learned) (o : Value) (n : ℤ)
      → Valued given around e from o mid → nat_eq (reference_in o) 0 ≡ false
      → Measured given type (reference_in o) mid n to
      → Valued given around (Length type e span) from (value.Number n) to
  unfolding Valued Goes Measured
  length_is type e span from mid to o n g apart m cells s r missing next =
      g cells s r missing _
      ∙ ap (λ b. (if b then missing span (with_learned s mid) else look_at_length (limiting (maps_of given) (table_of given)) type
      (reference_in o) (λ z. next (value.Number z)) (with_learned s mid)) (left given mid)) apart
      ∙ m s missing _

  pub no_array : (type : PvType) (e : Expression) (span : Span) (from to : Learned) (o : Value)
      → Valued given around e from o to → nat_eq (reference_in o) 0 ≡ true
      → Unvalued given around (Length type e span) from (halt.Missing span) to
  unfolding Valued Goes Unvalued Halts
  no_array type e span from to o g null cells s r missing next =
      g cells s r missing _
      ∙ ap (λ b. (if b then missing span (with_learned s to) else look_at_length (limiting (maps_of given) (table_of given)) type
      (reference_in o) (λ z. next (value.Number z)) (with_learned s to)) (left given to)) null

  pub measuring_stops : (type : PvType) (e : Expression) (span : Span) (from to : Learned) (h : Halt)
      → Unvalued given around e from h to → Unvalued given around (Length type e span) from h to
  unfolding Unvalued
  measuring_stops type e span from to h u cells s r =
      stops_first (value_part given cells around.old around.scene e) _ _ _ _ _ h (u cells s r)

  -- a length that blocks, or overflows no memory
  pub length_stops : (type : PvType) (e : Expression) (span : Span) (from mid to : Learned) (o : Value) (h : Halt)
      → Valued given around e from o mid → nat_eq (reference_in o) 0 ≡ false
      → Unmeasured given type (reference_in o) mid h to
      → Unvalued given around (Length type e span) from h to
  unfolding Valued Unvalued Unmeasured Goes
  length_stops type e span from mid to o h g apart u cells s r =
      let measured : Part Value = λ missing next. look_at_length (limiting (maps_of given) (table_of given)) type
      (reference_in o) (λ z. next (value.Number z)) in
      stops_then (value_part given cells around.old around.scene e) _ _ _ _ _ _ _ o h (g cells s r)
      (halts_if h _ measured _ _ _ _ _ apart (stops_first (length_part given type (reference_in o)) (λ n missing next. next
      (value.Number n)) _ _ _ _ h (u s)))

  -- Operations

  pub opposite_is : (e : Expression) (from to : Learned) (v : Value) → Valued given around e from v to
      → Valued given around (Not e) from (value.Truth (not (truth_in v))) to
  unfolding Valued Goes
  opposite_is e from to v h cells s r missing next = h cells s r missing _

  pub opposite_stops : (e : Expression) (from to : Learned) (h : Halt) → Unvalued given around e from h to
      → Unvalued given around (Not e) from h to
  unfolding Unvalued
  opposite_stops e from to h u cells s r = stops_first (value_part given cells around.old around.scene e) _ _ _ _ _ h (u cells
      s r)

  pub computed_is : (m : Manner) (o : Operation) (a b : Expression) (span : Span) (from mid to : Learned) (x y : Value) (z : ℤ)
      → Valued given around a from x mid → Valued given around b mid y to
      → worked (table_of given) m o (number_in x) (number_in y) ≡ z → fits z ≡ true
      → Valued given around (Compute m o a b span) from (value.Number z) to
  unfolding Valued Goes
  computed_is Plain o a b span from mid to x y z g h is within cells s r missing next =
      g cells s r missing _ ∙ h cells s r missing _
      ∙ ap (λ w. if_fits w span (λ v. next (value.Number v) (with_learned s to)) (left given to)) is
      ∙ ap (λ b. (if b then next (value.Number z) (with_learned s to) else λ picks. Overflows span) (left given to)) within
  computed_is Tabled o a b span from mid to x y z g h is within cells s r missing next =
      g cells s r missing _ ∙ h cells s r missing _
      ∙ ap (λ w. if_fits w span (λ v. next (value.Number v) (with_learned s to)) (left given to)) is
      ∙ ap (λ b. (if b then next (value.Number z) (with_learned s to) else λ picks. Overflows span) (left given to)) within

  pub overflows_at : (m : Manner) (o : Operation) (a b : Expression) (span : Span) (from mid to : Learned) (x y : Value) (h :
      Halt)
      → h ≡ halt.Overflow span
      → Valued given around a from x mid → Valued given around b mid y to
      → fits (worked (table_of given) m o (number_in x) (number_in y)) ≡ false
      → Unvalued given around (Compute m o a b span) from h to
  unfolding Valued Goes Unvalued
  overflows_at Plain o a b span from mid to x y h is g k beyond cells s r =
      rw is (overflow_halts (value_part given cells around.old around.scene (Compute Plain o a b span)) _ _ _ _ span (λ missing
      next.
      g cells s r missing _ ∙ k cells s r missing _
      ∙ ap (λ b. (if b then next (value.Number (arithmetic o (number_in x) (number_in y))) (with_learned s to)
      else λ picks. Overflows span) (left given to)) beyond))
  overflows_at Tabled o a b span from mid to x y h is g k beyond cells s r =
      rw is (overflow_halts (value_part given cells around.old around.scene (Compute Tabled o a b span)) _ _ _ _ span (λ
      missing next.
      g cells s r missing _ ∙ k cells s r missing _
      ∙ ap (λ b. (if b then next (value.Number (value_of_operation (table_of given) o (number_in x) (number_in y)))
      (with_learned s to)
      else λ picks. Overflows span) (left given to)) beyond))

  -- an operation stops with its operands
  pub left_stops : (m : Manner) (o : Operation) (a b : Expression) (span : Span) (from to : Learned) (h : Halt)
      → Unvalued given around a from h to → Unvalued given around (Compute m o a b span) from h to
  unfolding Unvalued
  left_stops m o a b span from to h u cells s r =
      stops_first (value_part given cells around.old around.scene a) _ _ _ _ _ h (u cells s r)

  pub right_stops : (m : Manner) (o : Operation) (a b : Expression) (span : Span) (from mid to : Learned) (x : Value) (h : Halt)
      → Valued given around a from x mid → Unvalued given around b mid h to
      → Unvalued given around (Compute m o a b span) from h to
  unfolding Valued Unvalued
  right_stops m o a b span from mid to x h g u cells s r =
      stops_then (value_part given cells around.old around.scene a) _ _ _ _ _ _ _ x h (g cells s r)
      (stops_first (value_part given cells around.old around.scene b) _ _ _ _ _ h (u cells s r))

  -- Comparisons

  pub compared_is : (order : Comparison) (a b : Expression) (from mid to : Learned) (x y : Value)
      → Valued given around a from x mid → Valued given around b mid y to
      → Valued given around (Compare order a b) from (value.Truth (comparison order (number_in x) (number_in y))) to
  unfolding Valued Goes
  compared_is order a b from mid to x y g h cells s r missing next = g cells s r missing _ ∙ h cells s r missing _

  pub lesser_stops : (order : Comparison) (a b : Expression) (from to : Learned) (h : Halt)
      → Unvalued given around a from h to → Unvalued given around (Compare order a b) from h to
  unfolding Unvalued
  lesser_stops order a b from to h u cells s r =
      stops_first (value_part given cells around.old around.scene a) _ _ _ _ _ h (u cells s r)

  pub greater_stops : (order : Comparison) (a b : Expression) (from mid to : Learned) (x : Value) (h : Halt)
      → Valued given around a from x mid → Unvalued given around b mid h to
      → Unvalued given around (Compare order a b) from h to
  unfolding Valued Unvalued
  greater_stops order a b from mid to x h g u cells s r =
      stops_then (value_part given cells around.old around.scene a) _ _ _ _ _ _ _ x h (g cells s r)
      (stops_first (value_part given cells around.old around.scene b) _ _ _ _ _ h (u cells s r))

  pub equal_is : (same : Bool) (a b : Expression) (from mid to : Learned) (x y : Value)
      → Valued given around a from x mid → Valued given around b mid y to
      → Valued given around (Equal same a b) from (value.Truth (equality same x y)) to
  unfolding Valued Goes
  equal_is same a b from mid to x y g h cells s r missing next = g cells s r missing _ ∙ h cells s r missing _

  pub one_stops : (same : Bool) (a b : Expression) (from to : Learned) (h : Halt)
      → Unvalued given around a from h to → Unvalued given around (Equal same a b) from h to
  unfolding Unvalued
  one_stops same a b from to h u cells s r =
      stops_first (value_part given cells around.old around.scene a) _ _ _ _ _ h (u cells s r)

  pub other_stops : (same : Bool) (a b : Expression) (from mid to : Learned) (x : Value) (h : Halt)
      → Valued given around a from x mid → Unvalued given around b mid h to
      → Unvalued given around (Equal same a b) from h to
  unfolding Valued Unvalued
  other_stops same a b from mid to x h g u cells s r =
      stops_then (value_part given cells around.old around.scene a) _ _ _ _ _ _ _ x h (g cells s r)
      (stops_first (value_part given cells around.old around.scene b) _ _ _ _ _ h (u cells s r))

  -- What the left side decides

  pub both_are : (a b : Expression) (from mid to : Learned) (x y : Value) → truth_in x ≡ true
      → Valued given around a from x mid → Valued given around b mid y to → Valued given around (And a b) from y to
  unfolding Valued Goes
  both_are a b from mid to x y e g h cells s r missing next =
      g cells s r missing _
      ∙ ap (λ t. (if t then value_part given cells around.old around.scene b missing next else next (value.Truth false))
      (with_learned s mid) (left given mid)) e
      ∙ h cells s r missing _

  pub not_both : (a b : Expression) (from to : Learned) (x : Value) → truth_in x ≡ false
      → Valued given around a from x to → Valued given around (And a b) from (value.Truth false) to
  unfolding Valued Goes
  not_both a b from to x e g cells s r missing next =
      g cells s r missing _
      ∙ ap (λ t. (if t then value_part given cells around.old around.scene b missing next else next (value.Truth false))
      (with_learned s to) (left given to)) e

  pub first_stops : (a b : Expression) (from to : Learned) (h : Halt)
      → Unvalued given around a from h to → Unvalued given around (And a b) from h to
  unfolding Unvalued
  first_stops a b from to h u cells s r =
      stops_first (value_part given cells around.old around.scene a) _ _ _ _ _ h (u cells s r)

  pub second_stops : (a b : Expression) (from mid to : Learned) (x : Value) (h : Halt) → truth_in x ≡ true
      → Valued given around a from x mid → Unvalued given around b mid h to
      → Unvalued given around (And a b) from h to
  unfolding Valued Unvalued
  second_stops a b from mid to x h e g u cells s r =
      stops_then (value_part given cells around.old around.scene a) _ _ _ _ _ _ _ x h (g cells s r)
      (first_halts h (value_part given cells around.old around.scene b) (λ missing next. next (value.Truth false)) _ _ _ _ _ e
      (u cells s r))

  pub neither_is : (a b : Expression) (from mid to : Learned) (x y : Value) → truth_in x ≡ false
      → Valued given around a from x mid → Valued given around b mid y to → Valued given around (Or a b) from y to
  unfolding Valued Goes
  neither_is a b from mid to x y e g h cells s r missing next =
      g cells s r missing _
      ∙ ap (λ t. (if t then next (value.Truth true) else value_part given cells around.old around.scene b missing next)
      (with_learned s mid) (left given mid)) e
      ∙ h cells s r missing _

  pub either_is : (a b : Expression) (from to : Learned) (x : Value) → truth_in x ≡ true
      → Valued given around a from x to → Valued given around (Or a b) from (value.Truth true) to
  unfolding Valued Goes
  either_is a b from to x e g cells s r missing next =
      g cells s r missing _
      ∙ ap (λ t. (if t then next (value.Truth true) else value_part given cells around.old around.scene b missing next)
      (with_learned s to) (left given to)) e

  pub either_stops : (a b : Expression) (from to : Learned) (h : Halt)
      → Unvalued given around a from h to → Unvalued given around (Or a b) from h to
  unfolding Unvalued
  either_stops a b from to h u cells s r =
      stops_first (value_part given cells around.old around.scene a) _ _ _ _ _ h (u cells s r)

  pub or_stops : (a b : Expression) (from mid to : Learned) (x : Value) (h : Halt) → truth_in x ≡ false
      → Valued given around a from x mid → Unvalued given around b mid h to
      → Unvalued given around (Or a b) from h to
  unfolding Valued Unvalued
  or_stops a b from mid to x h e g u cells s r =
      stops_then (value_part given cells around.old around.scene a) _ _ _ _ _ _ _ x h (g cells s r)
      (second_halts h (λ missing next. next (value.Truth true)) (value_part given cells around.old around.scene b) _ _ _ _ _ e
      (u cells s r))

  pub implied_is : (a b : Expression) (from mid to : Learned) (x y : Value) → truth_in x ≡ true
      → Valued given around a from x mid → Valued given around b mid y to → Valued given around (Implies a b) from y to
  unfolding Valued Goes
  implied_is a b from mid to x y e g h cells s r missing next =
      g cells s r missing _
      ∙ ap (λ t. (if t then value_part given cells around.old around.scene b missing next else next (value.Truth true))
      (with_learned s mid) (left given mid)) e
      ∙ h cells s r missing _

  pub implies_nothing : (a b : Expression) (from to : Learned) (x : Value) → truth_in x ≡ false
      → Valued given around a from x to → Valued given around (Implies a b) from (value.Truth true) to
  unfolding Valued Goes
  implies_nothing a b from to x e g cells s r missing next =
      g cells s r missing _
      ∙ ap (λ t. (if t then value_part given cells around.old around.scene b missing next else next (value.Truth true))
      (with_learned s to) (left given to)) e

  pub premise_stops : (a b : Expression) (from to : Learned) (h : Halt)
      → Unvalued given around a from h to → Unvalued given around (Implies a b) from h to
  unfolding Unvalued
  premise_stops a b from to h u cells s r =
      stops_first (value_part given cells around.old around.scene a) _ _ _ _ _ h (u cells s r)

  pub conclusion_stops : (a b : Expression) (from mid to : Learned) (x : Value) (h : Halt) → truth_in x ≡ true
      → Valued given around a from x mid → Unvalued given around b mid h to
      → Unvalued given around (Implies a b) from h to
  unfolding Valued Unvalued
  conclusion_stops a b from mid to x h e g u cells s r =
      stops_then (value_part given cells around.old around.scene a) _ _ _ _ _ _ _ x h (g cells s r)
      (first_halts h (value_part given cells around.old around.scene b) (λ missing next. next (value.Truth true)) _ _ _ _ _ e
      (u cells s r))

  -- The old state

  pub old_is : (e : Expression) (from to : Learned) (v : Value) → Valued given (before around) e from v to
      → Valued given around (Old e) from v to
  unfolding Valued
  old_is e from to v h cells s r = h (λ t. around.old) s (λ l. refl)

  pub old_stops : (e : Expression) (from to : Learned) (h : Halt) → Unvalued given (before around) e from h to
      → Unvalued given around (Old e) from h to
  unfolding Unvalued
  old_stops e from to h u cells s r = u (λ t. around.old) s (λ l. refl)
