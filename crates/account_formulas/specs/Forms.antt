-- A contract that members keep stands in two forms: a formula at one position, and items for every position. How the one is made
-- like the other.
use Rattle.std.specs.Prelude.{◌≡◌, ◌≤◌, ℕ, ℤ, pos, ◌+ℤ◌, Bool, true, false, if◌then◌else◌, Some, None, List}
use Rattle.pv_base.specs.declared.Name.{Name}
use Rattle.pv_base.specs.declared.Span.{Span}
use Rattle.pv_ast.specs.declared.PvType.{PvType}
use Rattle.pv_ast.specs.declared.Token.TheVariants as token
use Rattle.pv_values.specs.declared.value.Value.TheVariants as value
use Rattle.pv_picks.specs.Plain.Core.{Program, Expression, Variable, Equal, Implies, Cut, Formula, Fact, ElementPermission, Holds, Star, When, Items, NoItems, Join, Item, Elements, Repeated, Committed, Guarded, Fixed}
use Rattle.pv_picks.specs.Formulas.Values.{truth_in, within, width}
use Rattle.pv_picks.specs.Formulas.Evaluation.{Scene}
use Rattle.pv_picks.specs.Formulas.Meeting.{Sight, value_or, behind, sum_of_each}
use Rattle.pv_picks.specs.Judge.States.{Resource}
use Rattle.pv_picks.specs.Machine.Starts.{true_formula}
use Rattle.account_formulas.specs.Sights.{value_at}
use Rattle.account_formulas.specs.Owning.{Amounts, OwnsItems}

-- where the name stands for a position, an index is read as it with so much added
abbrev pub ReadsAs : Name → ℤ → Expression → Type 0
ReadsAs name shift index =
    (sight : Sight) (scene : Scene) (position : ℤ) → scene.variables name.0 ≡ value.Number position → value_at sight scene index
    ≡ Some (value.Number (position +ℤ shift))

-- guards let a position through where a condition is true
abbrev pub Guards : Name → Expression → List Cut → Type 0
Guards name x cuts =
    (sight : Sight) (scene : Scene) (position : ℤ) → scene.variables name.0 ≡ value.Number position
    → behind None (Some false) sight scene cuts position (Some true)
    ≡ value_or None sight scene x (λ v. if truth_in v then Some true else Some false)

-- a formula and an item that say the same of one position
pub data SameItem (name : Name) : Formula → Item → Type 0 where
  same_fact : {e : Expression} {s : Span} → SameItem name (Fact e s) (Repeated e s)
  same_element : {type : PvType} {array index : Expression} {shift : ℤ} {amount : ℕ} {s : Span}
      → ReadsAs name shift index → SameItem name (ElementPermission type array index amount s)
      (Elements type array shift amount s)
  same_committed : {class : Name} {e : Expression} {s : Span}
      → SameItem name (Holds token.Committed class e s) (Committed class e s)
  same_guarded : {x : Expression} {cuts : List Cut} {f : Formula} {i : Item} {s t : Span} → Guards name x cuts → SameItem name f i
      → SameItem name (When x f s) (Guarded cuts i t)
  same_pure : {x y : Expression} {cuts : List Cut} {i : Item} {s t u : Span} → Guards name x cuts → SameItem name (Fact y u) i
      → SameItem name (Fact (Implies x y) s) (Guarded cuts i t)
  same_fixed : {y : Expression} {f : Formula} {s t : Span} → SameItem name (When (Equal true (Variable name) y) f s) (Fixed y f t)
  same_fixed_fact : {y z : Expression} {s t u : Span}
      → SameItem name (Fact (Implies (Equal true (Variable name) y) z) s) (Fixed y (Fact z u) t)

-- items, and behind them others
abbrev pub together : Items → Items → Items
together NoItems js = js
together (Join i is) js = Join i (together is js)

-- a formula and items that say the same of one position, conjunct by conjunct
pub data SameItems (name : Name) : Formula → Items → Type 0 where
  same_nothing : SameItems name true_formula NoItems
  same_alone : {f : Formula} {i : Item} → SameItem name f i → SameItems name f (Join i NoItems)
  same_together : {f g : Formula} {is js : Items} → SameItems name f is → SameItems name g js
      → SameItems name (Star f g) (together is js)

-- what items own at every position, dealt to the positions
pub record DealtItems (p : Program) (flags : ℕ → Bool) (sight : Sight) (scene : Scene) (name : Name) (low high : ℤ)
    (items : Items)
    (R : Amounts)
    : Type 0 where
  pub shares : ℤ → Amounts
  pub sum : (q : Resource) → sum_of_each (λ i. shares i q) low (width low high) ≤ R q
  pub owns : (i : ℤ) → within low high i ≡ true → OwnsItems p flags sight scene name i (i +ℤ pos 1) items (shares i)
