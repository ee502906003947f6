-- The numbers of 128 bits.
use Rattle.std.proofs.Common.{◌≡◌, ℤ, pos, negsuc, true, false, FitsSigned, arith}
use mir.Syntax.{w128}
use Rattle.pv_cells.specs.Limits.{fits}

pub fitting : (z : ℤ) → FitsSigned w128 z → fits z ≡ true
fitting (pos n) f = grind arith
fitting (negsuc n) f = grind arith

pub not_fitting : (z : ℤ) → ¬ (FitsSigned w128 z) → fits z ≡ false
not_fitting (pos n) f = grind arith
not_fitting (negsuc n) f = grind arith
