-- Classes of symbols that equations make equal.
use Rattle.std.specs.Prelude.{ℕ, ◌<◌, ◌≡◌, ◌≢◌, List, Option, Some, length, slice_get, slice_index_or}
use Rattle.pv_linear.specs.declared.Literal.{Literal}
use Rattle.pv_linear.specs.declared.Literal.TheVariants.{Differ}
use Rattle.pv_linear.specs.declared.Symbol.{Symbol}
use Rattle.pv_diff.specs.declared.forest.Node.{Node}
use Rattle.pv_diff.specs.declared.classes.Classed.{Classed}
use Rattle.pv_diff.specs.declared.classes.Classed.TheVariants.{Classes, Clash}
use Rattle.pv_diff.specs.Chains.{IsTie}
use Rattle.pv_diff.specs.Conflict.{IsClash}
use Rattle.pv_diff.specs.Forest.{seen_at, IsSeen}

abbrev pub class_at : List ℕ → ℕ → ℕ
class_at classes k = slice_index_or classes k 0

-- each slot has a node
pub record AreNodes (nodes : List Node) (seen : List (Option ℕ)) : Type 0 where
  pub all : (k : ℕ) → k < length seen → IsSeen seen k
  pub inside : (k i : ℕ) → seen_at seen k ≡ Some i → i < length nodes

-- the literal at p says that the symbols of the slots k and z differ
pub record IsSplit (symbols : List ℕ) (literals : List Literal) (p k z : ℕ) : Type 0 where
  pub left : Symbol
  pub right : Symbol
  pub first : slice_get symbols k ≡ Some left.0
  pub second : slice_get symbols z ≡ Some right.0
  pub found : slice_get literals p ≡ Some (Differ left right)

-- equations join slots of one class, slots that differ are of two, and slot 0 is of class 0
pub record AreClasses (symbols : List ℕ) (literals : List Literal) (classes : List ℕ) : Type 0 where
  pub size : length classes ≡ length symbols
  pub zero : class_at classes 0 ≡ 0
  pub below : (k : ℕ) → k < length symbols → class_at classes k < length symbols
  pub same : (p k z : ℕ) → IsTie symbols literals p k z → class_at classes k ≡ class_at classes z
  pub differ : (p k z : ℕ) → IsSplit symbols literals p k z → class_at classes k ≢ class_at classes z

-- classes for all slots, or places that show a clash
abbrev pub IsClassed : List ℕ → List Literal → Classed → Type 0
IsClassed symbols literals (Classes classes) = AreClasses symbols literals classes.items
IsClassed symbols literals (Clash places) = IsClash literals places
