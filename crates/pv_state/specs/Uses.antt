-- Uses of tabled operations: what terms stand for, and what a use shows.
use Rattle.std.specs.Prelude.{ℤ, Bool, ◌&&◌, Option, Some, None, List, [], ◌∷◌, map}
use Rattle.pv_values.specs.Heaps.{same_number}
use Rattle.pv_picks.specs.declared.plain.Operation.{Operation}
use Rattle.pv_picks.specs.Plain.Trees.{operation_of}
use Rattle.pv_picks.specs.Lazy.Patterns.{Order, Shown, order_of, Use, shown_of_use}
use Rattle.pv_picks.specs.Lazy.Runs.{UsedFor}
use Rattle.pv_linear.specs.declared.Sort.{Sort}
use Rattle.pv_linear.specs.declared.Sort.TheVariants.{Number}
use Rattle.pv_linear.specs.declared.Symbol.{Symbol}
use Rattle.pv_linear.specs.declared.Term.{Term}
use Rattle.pv_linear.specs.Values.{Values, term_value, number_of}
use Rattle.pv_linear.specs.Sorts.{HasSort}
use Rattle.pv_state.specs.Values.{IsTerm}
use Rattle.pv_state.specs.declared.uses.TabledUse.{TabledUse}

pub record IsUse (made : List Sort) (u : TabledUse) : Type 0 where
  pub left : IsTerm made u.left
  pub right : IsTerm made u.right
  pub value : HasSort made Number u.value.0

unfoldable pub AreUses : List Sort → List TabledUse → Type 0
AreUses made [] = Unit {0}
AreUses made (u ∷ us) = IsUse made u × AreUses made us

abbrev pub use_at : Values → Operation → Term → Term → Use
use_at v operation a b = (operation_of operation, term_value v a, term_value v b)

abbrev pub used_at : Values → TabledUse → UsedFor
used_at v u = record { used = use_at v u.operation u.left u.right; value = number_of v u.value.0 }

abbrev pub uses_at : Values → List TabledUse → List UsedFor
uses_at v us = map (used_at v) us

-- what is shown of a use among others
abbrev pub shown_at : Values → Operation → Term → Term → List TabledUse → List Shown
shown_at v operation a b us = shown_of_use (use_at v operation a b) (map (λ x. x.used) (uses_at v us))

-- how four numbers compare crosswise
abbrev pub crossed : ℤ → ℤ → ℤ → ℤ → List Order
crossed a b l r = order_of a l ∷ order_of a r ∷ order_of b l ∷ order_of b r ∷ []

abbrev pub both_same : ℤ → ℤ → ℤ → ℤ → Bool
both_same a b l r = same_number a l && same_number b r

abbrev pub value_of_symbol : Values → Option Symbol → Option ℤ
value_of_symbol v None = None
value_of_symbol v (Some s) = Some (number_of v s.0)

abbrev pub IsFoundUse : List Sort → Option Symbol → Type 0
IsFoundUse made None = Unit {0}
IsFoundUse made (Some s) = HasSort made Number s.0
