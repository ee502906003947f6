-- The equations of a list of literals, chained by the symbols that they name.
use Rattle.std.specs.Prelude.{ℕ, ◌<◌, ◌≡◌, ◌⊎◌, List, Option, Some, None, length, slice_get, slice_index_or}
use Rattle.pv_linear.specs.declared.Literal.{Literal}
use Rattle.pv_linear.specs.declared.Literal.TheVariants.{Same}
use Rattle.pv_linear.specs.declared.Symbol.{Symbol}
use Rattle.pv_diff.specs.declared.chains.End.{End}

abbrev pub no_end : End
no_end = record { to = 0; place = 0; next = None }

abbrev pub end_at : List End → ℕ → End
end_at ends e = slice_index_or ends e no_end

abbrev pub first_at : List (Option ℕ) → ℕ → Option ℕ
first_at first k = slice_index_or first k None

-- the end at e stands in the chain that starts at o
pub data OnChain (ends : List End) : Option ℕ → ℕ → Type 0 where
  here : (e : ℕ) → e < length ends → OnChain ends (Some e) e
  later : (d e : ℕ) → d < length ends → OnChain ends (end_at ends d).next e → OnChain ends (Some d) e

-- the chain of slot k has an end that leads to slot z, of the equation at p
pub record HasEnd (ends : List End) (first : List (Option ℕ)) (k z p : ℕ) : Type 0 where
  pub index : ℕ
  pub on : OnChain ends (first_at first k) index
  pub to : (end_at ends index).to ≡ z
  pub place : (end_at ends index).place ≡ p

-- so, or it is the end from slot `at` to slot `to` of the equation at `place`
abbrev pub HasAlso : List End → List (Option ℕ) → ℕ → ℕ → ℕ → ℕ → ℕ → ℕ → Type 0
HasAlso ends first at to place k z p = ((k ≡ at) × (z ≡ to) × (p ≡ place)) ⊎ HasEnd ends first k z p

-- a chain starts in the list of ends, and goes down in it
pub record AreChains (ends : List End) (first : List (Option ℕ)) : Type 0 where
  pub inside : (k e : ℕ) → first_at first k ≡ Some e → e < length ends
  pub falls : (d e : ℕ) → (end_at ends d).next ≡ Some e → e < d

-- the literal at p equates the symbols of the slots k and z
pub record IsTie (symbols : List ℕ) (literals : List Literal) (p k z : ℕ) : Type 0 where
  pub left : Symbol
  pub right : Symbol
  pub first : slice_get symbols k ≡ Some left.0
  pub second : slice_get symbols z ≡ Some right.0
  pub found : (slice_get literals p ≡ Some (Same left right)) ⊎ (slice_get literals p ≡ Some (Same right left))

-- the chains have the ends of the equations before n, and no others
pub record AreTied (symbols : List ℕ) (literals : List Literal) (n : ℕ) (ends : List End) (first : List (Option ℕ)) : Type 0 where
  pub size : length first ≡ length symbols
  pub chains : AreChains ends first
  pub sound : (k z p : ℕ) → HasEnd ends first k z p → IsTie symbols literals p k z
  pub full : (k z p : ℕ) → p < n → IsTie symbols literals p k z → HasEnd ends first k z p
