-- The levels of operators, and what is read between them.
use Rattle.std.proofs.Common.{ℕ, ◌≡◌, ◌<◌, Option, Some, None, refl, arith}
use Rattle.pv_reading.specs.Marks.{Tokens}
use Rattle.pv_reading.specs.Reading.{◌>>=◌}
use Rattle.pv_exprs.specs.declared.level.Mode.{Mode}
use Rattle.pv_exprs.specs.declared.level.Level.{Level}
use Rattle.pv_exprs.specs.declared.level.Level.TheVariants as level
use Rattle.pv_exprs.specs.Operators.{tighter}
use Rattle.pv_exprs.specs.Reading as reads
use Rattle.pv_exprs.specs.Reading.{Readers}

-- how many levels are tighter
abbrev pub height : Level → ℕ
height level.Product = 0
height level.Sum = 1
height level.Comparison = 2
height level.Equality = 3
height level.Conjunction = 4
height level.Disjunction = 5
height level.Separation = 5

pub height_falls : (l k : Level) → Some k ≡ tighter l → height k < height l
height_falls level.Product k h = cc
height_falls level.Sum k h = let e : k ≡ level.Product = cc in rw e (omega arith)
height_falls level.Comparison k h = let e : k ≡ level.Sum = cc in rw e (omega arith)
height_falls level.Equality k h = let e : k ≡ level.Comparison = cc in rw e (omega arith)
height_falls level.Conjunction k h = let e : k ≡ level.Equality = cc in rw e (omega arith)
height_falls level.Disjunction k h = let e : k ≡ level.Conjunction = cc in rw e (omega arith)
height_falls level.Separation k h = let e : k ≡ level.Conjunction = cc in rw e (omega arith)

-- what is read before the operators of a level
pub operand_joined : (m : Mode) (l k : Level) (o : Option Readers) (ts : Tokens) → Some k ≡ tighter l
    → reads.operand m l o ts ≡ (reads.operand m k o >>= reads.joined_from m k o) ts
unfolding reads.operand reads.product reads.sum reads.comparison reads.equality reads.conjunction
operand_joined m level.Product k o ts h = cc
operand_joined m level.Sum k o ts h = let e : k ≡ level.Product = cc in rw e refl
operand_joined m level.Comparison k o ts h = let e : k ≡ level.Sum = cc in rw e refl
operand_joined m level.Equality k o ts h = let e : k ≡ level.Comparison = cc in rw e refl
operand_joined m level.Conjunction k o ts h = let e : k ≡ level.Equality = cc in rw e refl
operand_joined m level.Disjunction k o ts h = let e : k ≡ level.Conjunction = cc in rw e refl
operand_joined m level.Separation k o ts h = let e : k ≡ level.Conjunction = cc in rw e refl

pub operand_unary : (m : Mode) (l : Level) (o : Option Readers) (ts : Tokens) → None ≡ tighter l
    → reads.operand m l o ts ≡ reads.unary m o ts
unfolding reads.operand
operand_unary m level.Product o ts h = refl
operand_unary m level.Sum o ts h = cc
operand_unary m level.Comparison o ts h = cc
operand_unary m level.Equality o ts h = cc
operand_unary m level.Conjunction o ts h = cc
operand_unary m level.Disjunction o ts h = cc
operand_unary m level.Separation o ts h = cc
