-- A drawn run is its parts, each with what comes next.
use Rattle.std.specs.Prelude.{◌≡◌, ℕ, ℤ, List}
use Rattle.pv_values.specs.declared.value.Value.{Value}
use Rattle.pv_picks.specs.Plain.Core.{Expression, Formula}
use Rattle.pv_picks.specs.Formulas.Evaluation.{Scene, evaluate, evaluate_all}
use Rattle.pv_picks.specs.Judge.States.{State, Bind}
use Rattle.pv_picks.specs.Judge.Settings.{Next}
use Rattle.pv_picks.specs.Judge.Inhaling.{inhale}
use Rattle.pv_picks.specs.Judge.Exhaling.{Giving, exhale}
use Rattle.pv_picks.specs.Lazy.Runs.{Memory, LazyEnd, final, Lazily, lazy, Drawn, from_values}
use Rattle.pv_picks.specs.Lazy.Parts.{Reading, of_old, reader_of, then_run, run_expression, run_expressions, run_inhale, run_exhale}

module _ {E : Type 0} (stop : LazyEnd → Memory → E) where
  abbrev pub ExpressionsByParts : Type 0
  ExpressionsByParts = (values : ℕ → ℤ) (turns : ℕ → ℕ) (r : Reading) (scene : Scene) (e : Expression)
      (next : Value → Next (Lazily Drawn E)) (s : State) (m : Memory) (d : Drawn)
      → evaluate (reader_of (lazy stop (from_values values turns)) r)
      (reader_of (lazy stop (from_values values turns)) (of_old r))
      scene e next s m d
      ≡ then_run stop (run_expression values turns r scene e s m d) next

  abbrev pub AllExpressionsByParts : Type 0
  AllExpressionsByParts = (values : ℕ → ℤ) (turns : ℕ → ℕ) (r : Reading) (scene : Scene) (es : List Expression)
      (next : List Value → Next (Lazily Drawn E)) (s : State) (m : Memory) (d : Drawn)
      → evaluate_all (reader_of (lazy stop (from_values values turns)) r)
      (reader_of (lazy stop (from_values values turns)) (of_old r)) scene es next s m d
      ≡ then_run stop (run_expressions values turns r scene es s m d) next

  abbrev pub InhalesByParts : Type 0
  InhalesByParts = (values : ℕ → ℤ) (turns : ℕ → ℕ) (bind : Bind) (formula : Formula)
      (next : Next (Lazily Drawn E)) (s : State) (m : Memory) (d : Drawn)
      → inhale (lazy stop (from_values values turns)) bind formula next s m d
      ≡ then_run stop (run_inhale values turns bind formula s m d) (λ u. next)

  abbrev pub ExhalesByParts : Type 0
  ExhalesByParts = (values : ℕ → ℤ) (turns : ℕ → ℕ) (giving : Giving) (formula : Formula)
      (next : Next (Lazily Drawn E)) (s : State) (m : Memory) (d : Drawn)
      → exhale (lazy stop (from_values values turns)) giving formula next s m d
      ≡ then_run stop (run_exhale values turns giving formula s m d) (λ u. next)

-- expressions, and formulas that are inhaled and exhaled, are run by their parts, and then what comes next
abbrev pub RunsByParts : Type 0
RunsByParts =
    ExpressionsByParts final × AllExpressionsByParts final × InhalesByParts final × ExhalesByParts final
