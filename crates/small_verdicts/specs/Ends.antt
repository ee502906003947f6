-- How runs end along a path.
use Rattle.pv_ast.specs.declared.Method.{Method}
use Rattle.small_meaning.specs.Running.{Arguments, Meets, run_of, NeverFails}
use Rattle.small_meaning.specs.Grounds.{FailIsRight}
use Rattle.small_verdicts.specs.declared.method.MethodEnd.{MethodEnd}
use Rattle.small_verdicts.specs.declared.method.MethodEnd.TheVariants.{Blocked, Passed, Failed}
use Rattle.small_verdicts.specs.Grounded.{check_of}

-- the arguments meet the precondition, and the run does not fail on them
pub record PassesOn (m : Method) (arguments : Arguments) : Type 0 where
  pub meets : Meets m arguments
  pub never_fails : NeverFails (run_of m arguments)

-- what an end says of arguments
abbrev pub IsEnd : Method → Arguments → MethodEnd → Type 0
IsEnd m arguments Blocked = Meets m arguments → ⊥
IsEnd m arguments Passed = PassesOn m arguments
IsEnd m arguments (Failed check span) = FailIsRight m (check_of check) span arguments
