-- What holds from question to question.
use Rattle.pv_linear.specs.Values.{Values}

-- what follows the asker after followed it before, and what stood in some part before stands in some part after
pub record Asks {S : Type 0} (follows stands : S → Values → Type 0) (old new : S) : Type 0 where
  pub narrows : (v : Values) → follows new v → follows old v
  pub keeps : (v : Values) → stands old v → stands new v

-- P is true of all values that follow the asker
abbrev pub Under : {S : Type 0} → (S → Values → Type 0) → S → (Values → Type 0) → Type 0
Under follows asker P = (v : Values) → follows asker v → P v
