-- Well formed programs: those that the calls behind the static checks are for.
use Rattle.std.specs.Prelude.{ℕ, ◌≡◌, ◌≤◌, ◌^◌, ◌<◌, [], All}
use Rattle.pv_ast.specs.declared.Program.{Program}
use Rattle.pv_ast.specs.Measures.{literals_of_program}
use Rattle.pv_ast.specs.Rules.Numbers.{numbers_of_program}
use Rattle.pv_ast.specs.Rules.Programs.{KeepsRules}
use Rattle.pv_ast.specs.Rules.Shapes.{shape_faults_of}

-- how many numbers a program may write
abbrev pub most_literals : ℕ
most_literals = 2 ^ 20

-- each number of a program is below this
abbrev pub above_numbers : ℕ
above_numbers = 2 ^ 63

-- no static rule is broken and no part has a wrong shape; and at most so many numbers are written, none of them too great
pub record IsWellFormed (p : Program) : Type 0 where
  pub rules : KeepsRules p
  pub shapes : shape_faults_of p ≡ []
  pub few : literals_of_program p ≤ most_literals
  pub small : All (λ n. n < above_numbers) (numbers_of_program p)
