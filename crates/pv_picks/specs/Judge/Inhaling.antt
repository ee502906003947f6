-- Inhaling: a run takes what a formula says, from left to right. It blocks where that can't be so, and fails where the formula
-- reads what isn't held.
use Rattle.std.specs.Prelude.{ℤ, ◌+ℤ◌, pos, if◌then◌else◌, List, ◌∷◌}
use Rattle.pv_base.specs.declared.Name.{Name}
use Rattle.pv_ast.specs.declared.PvType.TheVariants.{Int}
use Rattle.pv_values.specs.declared.value.Value.{Value}
use Rattle.pv_picks.specs.Plain.Core.{Expression, Formula, Fact, FieldPermission, ElementPermission, Holds, Instance, Star, When, Each, Items, NoItems, Join, Item, Elements, Repeated, Committed, Guarded, Fixed}
use Rattle.pv_picks.specs.Formulas.Values.{number_in, truth_in, reference_in}
use Rattle.pv_picks.specs.Formulas.Evaluation.{evaluate_all}
use Rattle.pv_picks.specs.Judge.States.{State, Bind, cells_of}
use Rattle.pv_picks.specs.Judge.Settings.{Setting, Next, no_frame, choose, Known, ArrayPart, formula_reader, if_within}
use Rattle.pv_picks.specs.Judge.Permissions.{gain_field, gain_element, gain_range, add_token, add_instance}
use Rattle.pv_picks.specs.Judge.Repetitions.{Range, range_of, bind_at, shifted, looks_of, value_in, arrays_read, look_ahead, notice_parts, unless_empty, cut_all}
use Rattle.pv_ast.specs.declared.Token.TheVariants as token

module _ {R : Type 0} (setting : Setting R) where
  -- the value of an expression of the formula, in the present state
  abbrev pub value_now : Bind → Expression → (Value → Next R) → Next R
  value_now bind e next = value_in setting cells_of (no_frame setting) bind e next

  abbrev pub values_now : Bind → List Expression → (List Value → Next R) → Next R
  values_now bind es next =
      evaluate_all (formula_reader setting cells_of (no_frame setting))
      (formula_reader setting (λ s. bind.old) (no_frame setting)) bind.scene es next

  -- the pure part decides whether the run goes on
  abbrev pub if_true : Value → R → R
  if_true v rest = setting.deciding (truth_in v) (if truth_in v then rest else setting.blocked)

  -- at a mark inside the range the body must be true; at another nothing is tested
  abbrev pub inhale_at_mark : Bind → Name → Expression → Range → ℤ → Next R → Next R
  inhale_at_mark bind name e r mark next state =
      if_within setting r.low r.high mark (next state)
      (arrays_read setting cells_of bind (looks_of name e)
      (λ parts later. notice_parts setting parts (mark ∷ (mark +ℤ pos 1) ∷ r.bounds)
      (value_now (bind_at bind name mark) e (λ v last. if_true v (next last)) later)) state)

  abbrev pub known_of : State → Bind → Name → Expression → Range → List ArrayPart → Known
  known_of state bind name e r parts = record {
    parts = parts;
    low = r.low;
    high = r.high;
    ends = r.low ∷ r.high ∷ r.bounds;
    state = state;
    bind = bind;
    name = name;
    fact = e;
  }

  -- the run looks ahead at what a pure item reads once for all positions, and then the fact is known
  abbrev pub come_to_know : Bind → Name → Expression → Range → Next R → Next R
  come_to_know bind name e r next =
      look_ahead setting cells_of bind r (looks_of name e)
      (λ parts state. setting.knowing (known_of state bind name e r parts) (next state))

  -- a pure item at every position of a range that isn't empty: its mark, the test there, and then the fact is known
  abbrev pub inhale_repeated : Bind → Name → Expression → Range → Next R → Next R
  inhale_repeated bind name e r next state =
      setting.pick Int (λ mark. inhale_at_mark bind name e r mark (come_to_know bind name e r next) state)

  abbrev mutual
    pub inhale : Bind → Formula → Next R → Next R
    inhale bind (Fact e span) next = value_now bind e (λ v state. if_true v (next state))
    inhale bind (FieldPermission e class name type amount span) next =
        value_now bind e (λ o. gain_field setting class (reference_in o) name type amount next)
    inhale bind (ElementPermission type array index amount span) next =
        value_now bind array (λ a. value_now bind index (λ i. gain_element setting type (reference_in a)
        (number_in i) amount next))
    inhale bind (Holds token class e span) next = value_now bind e (λ o. add_token setting token class (reference_in o) next)
    inhale bind (Instance class predicate e arguments span) next =
        value_now bind e (λ o. values_now bind arguments (λ vs. add_instance setting
        (record { class = class; predicate = predicate; object = reference_in o; arguments = vs }) next))
    inhale bind (Star a b) next = inhale bind a (inhale bind b next)
    inhale bind (When e body span) next =
        value_now bind e (λ v state. choose setting v (inhale bind body next state) (next state))
    inhale bind (Each name low high items span) next =
        value_now bind low (λ l. value_now bind high (λ h. inhale_items bind name (number_in l) (number_in h) items next))

    -- item by item, each for all positions from low to below high
    pub inhale_items : Bind → Name → ℤ → ℤ → Items → Next R → Next R
    inhale_items bind name low high NoItems next = next
    inhale_items bind name low high (Join item items) next =
        inhale_item bind name (range_of low high) item (inhale_items bind name low high items next)

    pub inhale_item : Bind → Name → Range → Item → Next R → Next R
    inhale_item bind name r (Elements type array shift amount span) next state =
        unless_empty setting r (next state)
        (value_now bind array (λ a. gain_range setting type (reference_in a) (r.low +ℤ shift) (r.high +ℤ shift)
        (shifted (r.low ∷ r.high ∷ r.bounds) shift) amount next) state)
    inhale_item bind name r (Repeated e span) next state =
        unless_empty setting r (next state) (inhale_repeated bind name e r next state)
    inhale_item bind name r (Committed class e span) next state =
        unless_empty setting r (next state) (value_now bind e (λ o. add_token setting token.Committed class (reference_in o) next)
        state)
    inhale_item bind name r (Guarded cuts item span) next state =
        cut_all setting cells_of (no_frame setting) bind cuts r next (λ cut. inhale_item bind name cut item next) state
    inhale_item bind name r (Fixed e body span) next state =
        unless_empty setting r (next state)
        (value_now bind e (λ v later. if_within setting r.low r.high (number_in v) (next later)
        (inhale (bind_at bind name (number_in v)) body next later)) state)
