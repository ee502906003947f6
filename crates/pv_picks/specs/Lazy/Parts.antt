-- A drawn run by its parts: how far each part comes, with what it shows and takes on the way, and then what comes next.
use Rattle.std.specs.Prelude.{ℕ, ℤ, true, false, not, if◌then◌else◌, List, [], ◌∷◌, ◌++◌}
use Rattle.pv_base.specs.declared.Name.{Name}
use Rattle.pv_base.specs.declared.Span.{Span}
use Rattle.pv_ast.specs.declared.PvType.{PvType}
use Rattle.pv_values.specs.declared.value.Value.{Value}
use Rattle.pv_values.specs.declared.value.Value.TheVariants as value
use Rattle.pv_picks.specs.Plain.Core.{Expression, Constant, This, Result, Variable, Field, Element, Length, Not, Compute, Compare, Equal, And, Or, Implies, Old, Formula, Fact, FieldPermission, ElementPermission, Holds, Instance, Star, When, Each}
use Rattle.pv_picks.specs.Formulas.Values.{number_in, truth_in, reference_in, comparison, equality}
use Rattle.pv_picks.specs.Formulas.Evaluation.{Scene, Reader}
use Rattle.pv_picks.specs.Judge.States.{State, Cells, Bind, cells_of}
use Rattle.pv_picks.specs.Judge.Settings.{Setting, Next, operate, formula_reader, no_frame}
use Rattle.pv_picks.specs.Judge.Permissions.{gain_field, gain_element, add_token, add_instance, give_field, give_element, take_token, take_instance}
use Rattle.pv_picks.specs.Judge.Inhaling.{inhale}
use Rattle.pv_picks.specs.Judge.Exhaling.{Giving, fails, exhale}
use Rattle.pv_picks.specs.Judge.Rows.{access_reader}
use Rattle.pv_picks.specs.Lazy.Runs.{Memory, LazyEnd, Outcome, at_end, Lazily, lazy, Drawn, from_values}

-- goes on with a value from a state, or has ended
pub data Came (A : Type 0) : Type 0 where
  Goes : A → State → Memory → Drawn → Came A
  Stopped : LazyEnd → Memory → Came A

abbrev pub Ran : Type 0 → Type 0
Ran A = Outcome (Came A)

-- a part of a run, from a state on
abbrev pub Part : Type 0 → Type 0
Part A = State → Memory → Drawn → Ran A

abbrev pub gone : {A : Type 0} → A → Part A
gone a state memory drawn = at_end (Goes a state memory drawn)

-- a part on values and turns
abbrev pub one_go : {A : Type 0} → (ℕ → ℤ) → (ℕ → ℕ) → Setting (Lazily Drawn (Came A))
one_go values turns = lazy Stopped (from_values values turns)

-- what comes after
abbrev pub after : {A E : Type 0} → (LazyEnd → Memory → E) → Came A → (A → State → Lazily Drawn E) → Outcome E
after stop (Goes a state memory drawn) next = next a state memory drawn
after stop (Stopped end memory) next = at_end (stop end memory)

abbrev pub then_run : {A E : Type 0} → (LazyEnd → Memory → E) → Ran A → (A → State → Lazily Drawn E) → Outcome E
then_run stop o next = record {
  shows = o.shows ++ (after stop o.end next).shows;
  values = o.values ++ (after stop o.end next).values;
  types = o.types ++ (after stop o.end next).types;
  picks = o.picks ++ (after stop o.end next).picks;
  end = (after stop o.end next).end;
}

-- one part after the other
abbrev pub chain : {A B : Type 0} → Ran A → (A → Part B) → Ran B
chain o next = then_run Stopped o next

-- what an expression reads: locations as a body does, or as a formula does, which reads these cells, and those of the old state
pub data Reading : Type 0 where
  InBody : Reading
  InFormula : (State → Cells) → (State → Cells) → Reading

abbrev pub of_old : Reading → Reading
of_old InBody = InBody
of_old (InFormula now old) = InFormula old old

-- a formula that is inhaled, and one that is exhaled
abbrev pub when_inhaled : Bind → Reading
when_inhaled bind = InFormula cells_of (λ s. bind.old)

abbrev pub when_exhaled : Giving → Reading
when_exhaled f = InFormula (λ s. f.before) (λ s. f.bind.old)

module _ {R : Type 0} (setting : Setting R) where
  abbrev pub field_reader : Reading → Name → ℕ → Name → Span → (Value → Next R) → Next R
  field_reader InBody = (access_reader setting).field
  field_reader (InFormula now old) = (formula_reader setting now (no_frame setting)).field

  abbrev pub element_reader : Reading → PvType → ℕ → ℤ → Span → (Value → Next R) → Next R
  element_reader InBody = (access_reader setting).element
  element_reader (InFormula now old) = (formula_reader setting now (no_frame setting)).element

  abbrev pub length_reader : Reading → PvType → ℕ → Span → (ℤ → Next R) → Next R
  length_reader InBody = (access_reader setting).length
  length_reader (InFormula now old) = (formula_reader setting now (no_frame setting)).length

  -- operations and comparisons are the same in both
  abbrev pub reader_of : Reading → Reader (Next R)
  reader_of r = record {
    field = field_reader r;
    element = element_reader r;
    length = length_reader r;
    operation = operate setting;
    comparing = λ a b rest state. setting.comparing a b (rest state);
    matching = λ v w rest state. setting.matching v w (rest state);
    deciding = λ b rest state. setting.deciding b (rest state);
  }

module _ (values : ℕ → ℤ) (turns : ℕ → ℕ) where
  abbrev pub hooks : {A : Type 0} → Setting (Lazily Drawn (Came A))
  hooks = one_go values turns

  -- Expressions

  abbrev pub run_expression : Reading → Scene → Expression → Part Value
  run_expression r scene (Constant v) s m d = gone v s m d
  run_expression r scene This s m d = gone (value.Reference scene.this) s m d
  run_expression r scene Result s m d = gone scene.result s m d
  run_expression r scene (Variable name) s m d = gone (scene.variables name.0) s m d
  run_expression r scene (Field o class name span) s m d =
      chain (run_expression r scene o s m d) (λ v. field_reader hooks r class (reference_in v) name span gone)
  run_expression r scene (Element type a i span) s m d =
      chain (run_expression r scene a s m d) (λ v t n c. chain (run_expression r scene i t n c)
      (λ w. element_reader hooks r type (reference_in v) (number_in w) span gone))
  run_expression r scene (Length type a span) s m d =
      chain (run_expression r scene a s m d) (λ v. length_reader hooks r type (reference_in v) span
      (λ z. gone (value.Number z)))
  run_expression r scene (Not a) s m d = chain (run_expression r scene a s m d) (λ v. gone (value.Truth (not (truth_in v))))
  run_expression r scene (Compute manner operation a b span) s m d =
      chain (run_expression r scene a s m d) (λ v t n c. chain (run_expression r scene b t n c)
      (λ w. operate hooks manner operation (number_in v) (number_in w) span (λ z. gone (value.Number z))))
  run_expression r scene (Compare order a b) s m d =
      chain (run_expression r scene a s m d) (λ v t n c. chain (run_expression r scene b t n c)
      (λ w l. hooks.comparing (number_in v) (number_in w)
      (gone (value.Truth (comparison order (number_in v) (number_in w))) l)))
  run_expression r scene (Equal same a b) s m d =
      chain (run_expression r scene a s m d) (λ v t n c. chain (run_expression r scene b t n c)
      (λ w l. hooks.matching v w (gone (value.Truth (equality same v w)) l)))
  run_expression r scene (And a b) s m d =
      chain (run_expression r scene a s m d) (λ v t. hooks.deciding (truth_in v)
      (if truth_in v then run_expression r scene b t else gone (value.Truth false) t))
  run_expression r scene (Or a b) s m d =
      chain (run_expression r scene a s m d) (λ v t. hooks.deciding (truth_in v)
      (if truth_in v then gone (value.Truth true) t else run_expression r scene b t))
  run_expression r scene (Implies a b) s m d =
      chain (run_expression r scene a s m d) (λ v t. hooks.deciding (truth_in v)
      (if truth_in v then run_expression r scene b t else gone (value.Truth true) t))
  run_expression r scene (Old a) s m d = run_expression (of_old r) scene a s m d

  abbrev pub run_expressions : Reading → Scene → List Expression → Part (List Value)
  run_expressions r scene [] s m d = gone [] s m d
  run_expressions r scene (e ∷ es) s m d =
      chain (run_expression r scene e s m d) (λ v t n c. chain (run_expressions r scene es t n c) (λ vs. gone (v ∷ vs)))

  -- Formulas. Repetitions are inhaled and exhaled as a whole.

  abbrev pub run_inhale : Bind → Formula → Part (Unit {0})
  run_inhale bind (Fact e span) s m d =
      chain (run_expression (when_inhaled bind) bind.scene e s m d)
      (λ v t. hooks.deciding (truth_in v) (if truth_in v then gone tt t else hooks.blocked))
  run_inhale bind (FieldPermission e class name type amount span) s m d =
      chain (run_expression (when_inhaled bind) bind.scene e s m d)
      (λ o. gain_field hooks class (reference_in o) name type amount (gone tt))
  run_inhale bind (ElementPermission type array index amount span) s m d =
      chain (run_expression (when_inhaled bind) bind.scene array s m d)
      (λ a t n c. chain (run_expression (when_inhaled bind) bind.scene index t n c)
      (λ i. gain_element hooks type (reference_in a) (number_in i) amount (gone tt)))
  run_inhale bind (Holds token class e span) s m d =
      chain (run_expression (when_inhaled bind) bind.scene e s m d)
      (λ o. add_token hooks token class (reference_in o) (gone tt))
  run_inhale bind (Instance class predicate e arguments span) s m d =
      chain (run_expression (when_inhaled bind) bind.scene e s m d)
      (λ o t n c. chain (run_expressions (when_inhaled bind) bind.scene arguments t n c)
      (λ vs. add_instance hooks (record { class = class; predicate = predicate; object = reference_in o; arguments = vs })
      (gone tt)))
  run_inhale bind (Star a b) s m d = chain (run_inhale bind a s m d) (λ u. run_inhale bind b)
  run_inhale bind (When e body span) s m d =
      chain (run_expression (when_inhaled bind) bind.scene e s m d)
      (λ v t. hooks.deciding (truth_in v) (if truth_in v then run_inhale bind body t else gone tt t))
  run_inhale bind (Each name low high items span) s m d = inhale hooks bind (Each name low high items span) (gone tt) s m d

  abbrev pub run_exhale : Giving → Formula → Part (Unit {0})
  run_exhale f (Fact e span) s m d =
      chain (run_expression (when_exhaled f) f.bind.scene e s m d)
      (λ v t. hooks.deciding (truth_in v) (if truth_in v then gone tt t else fails hooks f span))
  run_exhale f (FieldPermission e class name type amount span) s m d =
      chain (run_expression (when_exhaled f) f.bind.scene e s m d)
      (λ o. give_field hooks class (reference_in o) name amount (fails hooks f span) (gone tt))
  run_exhale f (ElementPermission type array index amount span) s m d =
      chain (run_expression (when_exhaled f) f.bind.scene array s m d)
      (λ a t n c. chain (run_expression (when_exhaled f) f.bind.scene index t n c)
      (λ i. give_element hooks type (reference_in a) (number_in i) amount (fails hooks f span) (gone tt)))
  run_exhale f (Holds token class e span) s m d =
      chain (run_expression (when_exhaled f) f.bind.scene e s m d)
      (λ o. take_token hooks token class (reference_in o) (fails hooks f span) (gone tt))
  run_exhale f (Instance class predicate e arguments span) s m d =
      chain (run_expression (when_exhaled f) f.bind.scene e s m d)
      (λ o t n c. chain (run_expressions (when_exhaled f) f.bind.scene arguments t n c)
      (λ vs. take_instance hooks (record { class = class; predicate = predicate; object = reference_in o; arguments = vs })
      (fails hooks f span) (gone tt)))
  run_exhale f (Star a b) s m d = chain (run_exhale f a s m d) (λ u. run_exhale f b)
  run_exhale f (When e body span) s m d =
      chain (run_expression (when_exhaled f) f.bind.scene e s m d)
      (λ v t. hooks.deciding (truth_in v) (if truth_in v then run_exhale f body t else gone tt t))
  run_exhale f (Each name low high items span) s m d = exhale hooks f (Each name low high items span) (gone tt) s m d
