-- What the search over all paths of a method knows.
use Rattle.std.specs.Prelude.{◌≡◌, ◌⊎◌, Bool, true, false, List}
use Rattle.pv_ast.specs.declared.Method.{Method}
use Rattle.pv_linear.specs.Values.{Values}
use Rattle.small_meaning.specs.Running.{Meets, run_of, NeverFails}
use Rattle.small_meaning.specs.Grounds.{Met, FailIsRight}
use Rattle.small_paths.specs.declared.Decision.{Decision}
use Rattle.small_paths.specs.Parts.{Agrees, Stands}
use Rattle.small_verdicts.specs.declared.verdict.Shown.{Shown}
use Rattle.small_verdicts.specs.declared.verdict.Shown.TheVariants as shown
use Rattle.small_verdicts.specs.Grounded.{check_of}
use Rattle.small_verdicts.specs.Grounded.{arguments_from}

-- some arguments meet the precondition, and on none that follow the path does the run fail
pub record MeetsOn (m : Method) (path : List Decision) : Type 0 where
  pub met : Met m
  pub safe : (v : Values) → Agrees v path → Meets m v → NeverFails (run_of m v)

-- what a walked path shows
abbrev pub Shows : Method → List Decision → Shown → Type 0
Shows m path shown.Blocked = (v : Values) → Agrees v path → Meets m v → ⊥
Shows m path shown.Met = MeetsOn m path
Shows m path (shown.Fails check span numbers) = FailIsRight m (check_of check) span (arguments_from numbers)

-- what is known between two paths: what does not stand in some part is safe; where no path met the precondition, it does not
-- meet it either; and else some arguments meet it
pub record SoFar (m : Method) (path : List Decision) (entered : Bool) : Type 0 where
  pub safe : (v : Values) → (Meets m v → NeverFails (run_of m v)) ⊎ Stands v path
  pub unmet : entered ≡ false → (v : Values) → (Meets m v → ⊥) ⊎ Stands v path
  pub met : entered ≡ true → ∥ Met m ∥₁
