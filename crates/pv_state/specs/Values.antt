-- Symbolic values, and what they stand for.
use Rattle.std.specs.Prelude.{ℕ, ◌^◌, pos, int_le, Bool, not, List}
use Rattle.pv_values.specs.declared.value.Value.{Value}
use Rattle.pv_values.specs.declared.value.Value.TheVariants as value
use Rattle.pv_linear.specs.declared.Sort.{Sort}
use Rattle.pv_linear.specs.declared.Sort.TheVariants as sort
use Rattle.pv_linear.specs.declared.Term.{Term}
use Rattle.pv_linear.specs.Values.{Values, term_value, number_of, IsWithin}
use Rattle.pv_linear.specs.Sorts.{HasSort}
use Rattle.pv_picks.specs.Formulas.Values.{or_zero}
use Rattle.pv_state.specs.declared.values.SymbolTruth.{SymbolTruth}
use Rattle.pv_state.specs.declared.values.SymbolTruth.TheVariants.{Known, From, Unless}
use Rattle.pv_state.specs.declared.values.SymbolValue.{SymbolValue}
use Rattle.pv_state.specs.declared.values.SymbolValue.TheVariants.{Number, Truth, Reference}

-- a number is true from 1 on
abbrev pub is_from : Values → ℕ → Bool
is_from v symbol = int_le (pos 1) (number_of v symbol)

abbrev pub truth_at : Values → SymbolTruth → Bool
truth_at v (Known b) = b
truth_at v (From s) = is_from v s.0
truth_at v (Unless s) = not (is_from v s.0)

-- a reference is a number from 0 on
unfoldable pub value_at : Values → SymbolValue → Value
value_at v (Number t) = value.Number (term_value v t)
value_at v (Truth t) = value.Truth (truth_at v t)
value_at v (Reference s) = value.Reference (or_zero (number_of v s.0))

-- its symbol was made for a number, and what it adds may stand in a question
pub record IsTerm (made : List Sort) (t : Term) : Type 0 where
  pub sort : HasSort made sort.Number t.symbol.0
  pub near : IsWithin (2 ^ 98) t.plus

-- its symbol was made for such a value
abbrev pub IsMadeTruth : List Sort → SymbolTruth → Type 0
IsMadeTruth made (Known b) = Unit {0}
IsMadeTruth made (From s) = HasSort made sort.Truth s.0
IsMadeTruth made (Unless s) = HasSort made sort.Truth s.0

unfoldable pub IsMade : List Sort → SymbolValue → Type 0
IsMade made (Number t) = IsTerm made t
IsMade made (Truth t) = IsMadeTruth made t
IsMade made (Reference s) = HasSort made sort.Reference s.0
