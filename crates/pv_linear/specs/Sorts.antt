-- The sorts of symbols, and literals in which symbols stand as their sorts say.
use Rattle.std.specs.Prelude.{ℕ, zero, suc, ℤ, pos, negsuc, ◌≡◌, ◌⊎◌, List, [], ◌∷◌, Option, Some, slice_get}
use Rattle.pv_linear.specs.declared.Sort.{Sort}
use Rattle.pv_linear.specs.declared.Sort.TheVariants.{Number, Truth, Reference}
use Rattle.pv_linear.specs.declared.Symbol.{Symbol}
use Rattle.pv_linear.specs.declared.Literal.{Literal}
use Rattle.pv_linear.specs.declared.Literal.TheVariants.{AtMost, Same, Differ}

-- what is known of the sorts of symbols: at place k that of the symbol with number k + 1
abbrev pub Sorts : Type 0
Sorts = ℕ → Option Sort

-- the symbol with this number is 0, or of this sort, where its sort is known
abbrev pub IsSort : Sorts → Sort → ℕ → Type 0
IsSort sorts s zero = Unit {0}
IsSort sorts s (suc k) = (t : Sort) → sorts k ≡ Some t → t ≡ s

-- the symbol with this number is 0, or was made with this sort
unfoldable pub HasSort : List Sort → Sort → ℕ → Type 0
HasSort made s zero = Unit {0}
HasSort made s (suc k) = slice_get made k ≡ Some s

-- the difference is one of the two tests of a truth value: `1 <= t` or `t <= 0`
abbrev pub IsTest : (ℕ → Type 0) → Symbol → Symbol → ℤ → Type 0
IsTest truth x y c = ((x.0 ≡ 0) × ((c ≡ negsuc 0) × truth y.0)) ⊎ ((y.0 ≡ 0) × ((c ≡ pos 0) × truth x.0))

-- the literal is `1 <= t`
abbrev pub truth_test : Symbol → Literal
truth_test t = AtMost (record { 0 = 0 }) t (negsuc 0)

-- the symbols stand in the literal as their sorts say, where these are known: numbers in differences, references in equations and
-- their opposites, and truth values in their tests alone
abbrev pub IsOfSorts : Sorts → Literal → Type 0
IsOfSorts sorts (AtMost x y c) = (IsSort sorts Number x.0 × IsSort sorts Number y.0) ⊎ IsTest (IsSort sorts Truth) x y c
IsOfSorts sorts (Same x y) = IsSort sorts Reference x.0 × IsSort sorts Reference y.0
IsOfSorts sorts (Differ x y) = IsSort sorts Reference x.0 × IsSort sorts Reference y.0

-- so in all literals
unfoldable pub AreOfSorts : Sorts → List Literal → Type 0
AreOfSorts sorts [] = Unit {0}
AreOfSorts sorts (l ∷ ls) = IsOfSorts sorts l × AreOfSorts sorts ls

-- all symbols of the literal were made, and stand there as their sorts say
abbrev pub HasSorts : List Sort → Literal → Type 0
HasSorts made (AtMost x y c) = (HasSort made Number x.0 × HasSort made Number y.0) ⊎ IsTest (HasSort made Truth) x y c
HasSorts made (Same x y) = HasSort made Reference x.0 × HasSort made Reference y.0
HasSorts made (Differ x y) = HasSort made Reference x.0 × HasSort made Reference y.0
