-- Exhaling: a run gives up what a formula says, from left to right. Its pure parts are evaluated in the state before. It fails
-- with a named check where less is there or a pure part is false, and fails too where the formula reads what wasn't held.
use Rattle.std.specs.Prelude.{ℤ, ◌+ℤ◌, pos, if◌then◌else◌, Option, Some, None, List, ◌∷◌}
use Rattle.pv_base.specs.declared.Name.{Name}
use Rattle.pv_base.specs.declared.Span.{Span}
use Rattle.pv_ast.specs.declared.PvType.TheVariants.{Int}
use Rattle.pv_ast.specs.declared.Token.TheVariants as token
use Rattle.pv_values.specs.declared.value.Value.{Value}
use Rattle.pv_picks.specs.declared.check.Check.{Check}
use Rattle.pv_picks.specs.Plain.Core.{Expression, Formula, Fact, FieldPermission, ElementPermission, Holds, Instance, Star, When, Each, Items, NoItems, Join, Item, Elements, Repeated, Committed, Guarded, Fixed}
use Rattle.pv_picks.specs.Formulas.Values.{number_in, truth_in, reference_in}
use Rattle.pv_picks.specs.Formulas.Evaluation.{evaluate_all}
use Rattle.pv_picks.specs.Judge.States.{Cells, Bind}
use Rattle.pv_picks.specs.Judge.Settings.{Setting, Next, no_frame, choose, formula_reader, if_within}
use Rattle.pv_picks.specs.Judge.Permissions.{give_field, give_element, give_range, take_token, take_instance}
use Rattle.pv_picks.specs.Judge.Repetitions.{Range, range_of, bind_at, shifted, looks_of, value_in, arrays_read, notice_parts, unless_empty, cut_all}

-- what is exhaled from: the cells of the state before, the check that fails, and the span of its failure where that isn't the
-- conjunct's
pub record Giving : Type 0 where
  pub bind : Bind
  pub before : Cells
  pub check : Check
  pub statement : Option Span

abbrev pub span_or : Option Span → Span → Span
span_or None conjunct = conjunct
span_or (Some span) conjunct = span

-- with another position
abbrev pub from_at : Giving → Name → ℤ → Giving
from_at f name position = record f { bind = bind_at f.bind name position }

module _ {R : Type 0} (setting : Setting R) where
  -- the value of an expression of the formula, in the state before
  abbrev pub value_from : Giving → Expression → (Value → Next R) → Next R
  value_from f e next = value_in setting (λ s. f.before) (no_frame setting) f.bind e next

  abbrev pub values_from : Giving → List Expression → (List Value → Next R) → Next R
  values_from f es next =
      evaluate_all (formula_reader setting (λ s. f.before) (no_frame setting))
      (formula_reader setting (λ s. f.bind.old) (no_frame setting)) f.bind.scene es next

  -- the named check fails
  abbrev pub fails : Giving → Span → R
  fails f conjunct = setting.failed f.check (span_or f.statement conjunct)

  abbrev pub holds_or_fails : Giving → Span → Value → R → R
  holds_or_fails f conjunct v rest = setting.deciding (truth_in v) (if truth_in v then rest else fails f conjunct)

  -- at a mark inside the range the body must be true; at another nothing is looked at
  abbrev pub exhale_at_mark : Giving → Name → Expression → Span → Range → ℤ → Next R → Next R
  exhale_at_mark f name e span r mark next state =
      if_within setting r.low r.high mark (next state)
      (arrays_read setting (λ s. f.before) f.bind (looks_of name e)
      (λ parts later. notice_parts setting parts (mark ∷ (mark +ℤ pos 1) ∷ r.bounds)
      (value_from (from_at f name mark) e (λ v last. holds_or_fails f span v (next last)) later)) state)

  -- a pure item at every position of a range that isn't empty: its mark
  abbrev pub exhale_repeated : Giving → Name → Expression → Span → Range → Next R → Next R
  exhale_repeated f name e span r next state = setting.pick Int (λ mark. exhale_at_mark f name e span r mark next state)

  abbrev mutual
    pub exhale : Giving → Formula → Next R → Next R
    exhale f (Fact e span) next = value_from f e (λ v state. holds_or_fails f span v (next state))
    exhale f (FieldPermission e class name type amount span) next =
        value_from f e (λ o. give_field setting class (reference_in o) name amount (fails f span) next)
    exhale f (ElementPermission type array index amount span) next =
        value_from f array (λ a. value_from f index (λ i. give_element setting type (reference_in a) (number_in i) amount
        (fails f span) next))
    exhale f (Holds token class e span) next =
        value_from f e (λ o. take_token setting token class (reference_in o) (fails f span) next)
    exhale f (Instance class predicate e arguments span) next =
        value_from f e (λ o. values_from f arguments (λ vs. take_instance setting
        (record { class = class; predicate = predicate; object = reference_in o; arguments = vs }) (fails f span) next))
    exhale f (Star a b) next = exhale f a (exhale f b next)
    exhale f (When e body span) next = value_from f e (λ v state. choose setting v (exhale f body next state) (next state))
    exhale f (Each name low high items span) next =
        value_from f low (λ l. value_from f high (λ h. exhale_items f name (number_in l) (number_in h) items next))

    -- item by item, each for all positions from low to below high
    pub exhale_items : Giving → Name → ℤ → ℤ → Items → Next R → Next R
    exhale_items f name low high NoItems next = next
    exhale_items f name low high (Join item items) next =
        exhale_item f name (range_of low high) item (exhale_items f name low high items next)

    pub exhale_item : Giving → Name → Range → Item → Next R → Next R
    exhale_item f name r (Elements type array shift amount span) next state =
        unless_empty setting r (next state)
        (value_from f array (λ a. give_range setting type (reference_in a) (r.low +ℤ shift) (r.high +ℤ shift)
        (shifted (r.low ∷ r.high ∷ r.bounds) shift) amount (fails f span) next) state)
    exhale_item f name r (Repeated e span) next state =
        unless_empty setting r (next state) (exhale_repeated f name e span r next state)
    exhale_item f name r (Committed class e span) next state =
        unless_empty setting r (next state)
        (value_from f e (λ o. take_token setting token.Committed class (reference_in o) (fails f span) next) state)
    exhale_item f name r (Guarded cuts item span) next state =
        cut_all setting (λ s. f.before) (no_frame setting) f.bind cuts r next (λ cut. exhale_item f name cut item next) state
    exhale_item f name r (Fixed e body span) next state =
        unless_empty setting r (next state)
        (value_from f e (λ v later. if_within setting r.low r.high (number_in v) (next later)
        (exhale (from_at f name (number_in v)) body next later)) state)
