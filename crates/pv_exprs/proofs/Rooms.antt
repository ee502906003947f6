-- How far reading may still go down.
use Rattle.std.proofs.Common.{ℕ, suc, ◌≡◌, ◌+◌, Some, None, ap, arith}
use Rattle.pv_reading.specs.declared.fault.ReadFault.TheVariants.{TooDeep}
use Rattle.pv_exprs.specs.Reading.{readers, deeper}

pub deeper_none : (n : ℕ) → n ≡ 0 → deeper n ≡ None
unfolding deeper
deeper_none n h = ap deeper h

pub deeper_some : (n m : ℕ) → n ≡ suc m → deeper n ≡ Some (readers (deeper m))
unfolding deeper
deeper_some n m h = ap deeper h

pub one_deeper : (n : ℕ) → TooDeep (n + 1) ≡ TooDeep (suc n)
one_deeper n = ap TooDeep (omega arith)
