-- When the rests of two runs, in two settings, are related by a relation: whatever the settings offer keeps it.
use Rattle.std.specs.Prelude.{ℕ, ℤ, Bool}
use Rattle.pv_base.specs.declared.Span.{Span}
use Rattle.pv_ast.specs.declared.PvType.{PvType}
use Rattle.pv_ast.specs.declared.PvType.TheVariants.{Int, Truth, Object, IntArray, TruthArray, Null}
use Rattle.pv_values.specs.declared.value.Value.{Value}
use Rattle.pv_picks.specs.declared.check.Check.{Check}
use Rattle.pv_picks.specs.Plain.Core.{Operation}
use Rattle.pv_picks.specs.Judge.States.{State, Cell}
use Rattle.pv_picks.specs.Judge.Settings.{Setting, Next, Event, Known, met_as}

-- its values are references
abbrev pub IsOfReferences : PvType → Type 0
IsOfReferences Int = ⊥
IsOfReferences Truth = ⊥
IsOfReferences (Object class) = Unit {0}
IsOfReferences IntArray = Unit {0}
IsOfReferences TruthArray = Unit {0}
IsOfReferences Null = Unit {0}

-- a run ends unfit behind a pick for a reference alone, and every pick for a reference may end so: the two are related together
pub record AreRelated {A B : Type 0} (one : Setting A) (other : Setting B) (P : A → B → Type 0) : Type 0 where
  pub finished : P one.finished other.finished
  pub blocked : P one.blocked other.blocked
  pub failed : (check : Check) (span : Span) → P (one.failed check span) (other.failed check span)
  pub pick : (t : PvType) → (IsOfReferences t → ⊥) → (f : ℤ → A) (g : ℤ → B) → ((z : ℤ) → P (f z) (g z))
      → P (one.pick t f) (other.pick t g)
  pub met : (t : PvType) → IsOfReferences t → (f : Value → Next A) (g : Value → Next B)
      → ((v : Value) (s : State) → P (f v s) (g v s)) → (s : State)
      → P (one.pick t (λ z. met_as one t z f s)) (other.pick t (λ z. met_as other t z g s))
  pub turn : (f : ℕ → A) (g : ℕ → B) → ((n : ℕ) → P (f n) (g n)) → P (one.turn f) (other.turn g)
  pub steps : (n : ℕ) (t : PvType) (a : ℕ) (x : A) (y : B) → P x y → P (one.steps n t a x) (other.steps n t a y)
  pub using : (o : Operation) (a b : ℤ) (f : ℤ → A) (g : ℤ → B) → ((z : ℤ) → P (f z) (g z))
      → P (one.using o a b f) (other.using o a b g)
  pub comparing : (a b : ℤ) (x : A) (y : B) → P x y → P (one.comparing a b x) (other.comparing a b y)
  pub matching : (v w : Value) (x : A) (y : B) → P x y → P (one.matching v w x) (other.matching v w y)
  pub deciding : (b : Bool) (x : A) (y : B) → P x y → P (one.deciding b x) (other.deciding b y)
  pub noticing : (e : Event) (x : A) (y : B) → P x y → P (one.noticing e x) (other.noticing e y)
  pub reading : (c : Cell) (f : Value → A) (g : Value → B) → ((v : Value) → P (f v) (g v))
      → P (one.reading c f) (other.reading c g)
  pub knowing : (k : Known) (x : A) (y : B) → P x y → P (one.knowing k x) (other.knowing k y)

-- where both ends are related, and both picks
pub record AreRelatedThroughout {A B : Type 0} (one : Setting A) (other : Setting B) (P : A → B → Type 0) : Type 0 where
  pub finished : P one.finished other.finished
  pub blocked : P one.blocked other.blocked
  pub failed : (check : Check) (span : Span) → P (one.failed check span) (other.failed check span)
  pub unfit : P one.unfit other.unfit
  pub pick : (t : PvType) (f : ℤ → A) (g : ℤ → B) → ((z : ℤ) → P (f z) (g z)) → P (one.pick t f) (other.pick t g)
  pub turn : (f : ℕ → A) (g : ℕ → B) → ((n : ℕ) → P (f n) (g n)) → P (one.turn f) (other.turn g)
  pub steps : (n : ℕ) (t : PvType) (a : ℕ) (x : A) (y : B) → P x y → P (one.steps n t a x) (other.steps n t a y)
  pub using : (o : Operation) (a b : ℤ) (f : ℤ → A) (g : ℤ → B) → ((z : ℤ) → P (f z) (g z))
      → P (one.using o a b f) (other.using o a b g)
  pub comparing : (a b : ℤ) (x : A) (y : B) → P x y → P (one.comparing a b x) (other.comparing a b y)
  pub matching : (v w : Value) (x : A) (y : B) → P x y → P (one.matching v w x) (other.matching v w y)
  pub deciding : (b : Bool) (x : A) (y : B) → P x y → P (one.deciding b x) (other.deciding b y)
  pub noticing : (e : Event) (x : A) (y : B) → P x y → P (one.noticing e x) (other.noticing e y)
  pub reading : (c : Cell) (f : Value → A) (g : Value → B) → ((v : Value) → P (f v) (g v))
      → P (one.reading c f) (other.reading c g)
  pub knowing : (k : Known) (x : A) (y : B) → P x y → P (one.knowing k x) (other.knowing k y)
