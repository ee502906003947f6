-- What verdicts on small methods say.
use Rattle.std.specs.Prelude.{◌≡◌}
use Rattle.pv_base.specs.declared.Span.{Span}
use Rattle.pv_ast.specs.declared.Method.{Method}
use Rattle.pv_ast.specs.declared.Program.{Program}
use Rattle.small_meaning.specs.Running.{Arguments, Meets, Check, failed, run_of, NeverFails}
use Rattle.small_meaning.specs.Machine.{HasMethod}

-- arguments that meet the precondition
pub record Met (m : Method) : Type 0 where
  pub arguments : Arguments
  pub meets : Meets m arguments

-- on no arguments that meet the precondition does the run fail
abbrev pub NeverFailsOn : Method → Type 0
NeverFailsOn m = (arguments : Arguments) → Meets m arguments → NeverFails (run_of m arguments)

-- no run fails, and some arguments meet the precondition
pub record PassIsRight (m : Method) : Type 0 where
  pub never_fails : NeverFailsOn m
  pub some_meet : ∥ Met m ∥₁

-- no arguments meet the precondition
abbrev pub EmptyIsRight : Method → Type 0
EmptyIsRight m = (arguments : Arguments) → Meets m arguments → ⊥

-- these arguments meet the precondition, and on them the check finds the conjunct at the span not true
pub record FailIsRight (m : Method) (check : Check) (span : Span) (arguments : Arguments) : Type 0 where
  pub meets : Meets m arguments
  pub fails : run_of m arguments ≡ failed check span

-- no run of any method of the program fails
abbrev pub NoRunFails : Program → Type 0
NoRunFails p = (m : Method) → HasMethod p m → NeverFailsOn m
