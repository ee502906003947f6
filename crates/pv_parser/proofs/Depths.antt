-- How far reading may still go down.
use Rattle.std.proofs.Common.{ℕ, suc, ◌≡◌, Result, Ok, Err, Some, None, ap}
use Rattle.std.specs.Prelude.{MatchResult}
use Rattle.pv_reading.specs.declared.fault.ReadFault.{ReadFault}
use Rattle.pv_reading.specs.declared.fault.ReadFault.TheVariants.{TooDeep}
use Rattle.pv_exprs.specs.Reading.{readers, deeper}
use Rattle.pv_parser.specs.Reading.{blocks, deeper_blocks}

blocks_none : (n : ℕ) → n ≡ 0 → deeper_blocks n ≡ None
unfolding deeper_blocks
blocks_none n h = ap deeper_blocks h

blocks_some : (n m : ℕ) → n ≡ suc m → deeper_blocks n ≡ Some (blocks (deeper m) (deeper_blocks m))
unfolding deeper_blocks
blocks_some n m h = ap deeper_blocks h

-- where expressions go one deeper, or don't, statements and members don't differ
pub blocks_inside : (room n : ℕ) (r : Result ℕ ReadFault) → MatchResult r (λ inner. room ≡ suc inner) (λ _. room ≡ 0)
    → MatchResult r (λ inner. deeper room ≡ Some (readers (deeper inner))) (λ e. (e ≡ TooDeep (suc n)) × (deeper room ≡ None))
    → MatchResult r (λ inner. deeper_blocks room ≡ Some (blocks (deeper inner) (deeper_blocks inner)))
    (λ e. (e ≡ TooDeep (suc n)) × (deeper_blocks room ≡ None))
blocks_inside room n (Ok inner) s r = blocks_some room inner s
blocks_inside room n (Err e) s r = (r.0, blocks_none room s)
