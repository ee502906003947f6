-- Facts whose truth at a position is that at the nearest named position: the position stands only in indexes with one shift, the
-- arrays that are read there are the fact's own, and between named positions their elements are the same.
use Rattle.std.specs.Prelude.{◌≡◌, ◌⊎◌, ℕ, ℤ, pos, ◌≤ℤ◌, true, false, not, nat_eq, if◌then◌else◌, Option, Some, None, List, [], ◌∷◌}
use Rattle.pv_base.specs.declared.Name.{Name}
use Rattle.pv_ast.specs.declared.PvType.{PvType}
use Rattle.pv_values.specs.declared.value.Value.{Value}
use Rattle.pv_values.specs.declared.value.Value.TheVariants as value
use Rattle.pv_picks.specs.declared.evidence.Entry.{Entry}
use Rattle.pv_picks.specs.Plain.Core.{Operation, Manner, Plain, Tabled, Expression, Constant, This, Result, Variable, Field, Element, Length, Not, Compute, Compare, Equal, And, Or, Implies, Old}
use Rattle.pv_picks.specs.Formulas.Values.{number_in, truth_in, reference_in, arithmetic, comparison, equality}
use Rattle.pv_picks.specs.Formulas.Evaluation.{Scene}
use Rattle.pv_picks.specs.Judge.States.{State, Cell, Cells, InField, InElement, cells_of}
use Rattle.pv_picks.specs.Judge.Settings.{ArrayPart, Known}
use Rattle.pv_picks.specs.Judge.Steady.{IsTerm, Steady}
use Rattle.pv_picks.specs.Judge.Runs.{Maps, content, value_of_operation}
use Rattle.pv_picks.specs.Lazy.Patterns.{Array, arrays_in, named_on, positions_of}
use Rattle.pv_picks.specs.Lazy.Runs.{Final}
use Rattle.judge_laws.specs.Options.{or_none}
use Rattle.judge_facts.specs.Finite.{IsOneOf, Spreads}

-- Values

abbrev pub content_of : Maps → Option Cell → Option Value
content_of maps None = None
content_of maps (Some c) = Some (content maps c)

abbrev pub operated : List Entry → Manner → Operation → ℤ → ℤ → ℤ
operated table Plain o a b = arithmetic o a b
operated table Tabled o a b = value_of_operation table o a b

-- the value of an expression of a fact, where it can be evaluated: with the lengths of a state, its cells and those of the old
-- state
abbrev pub worth : Maps → List Entry → State → Cells → Cells → Scene → Expression → Option Value
worth maps table s now old scene (Constant v) = Some v
worth maps table s now old scene This = Some (value.Reference scene.this)
worth maps table s now old scene Result = Some scene.result
worth maps table s now old scene (Variable x) = Some (scene.variables x.0)
worth maps table s now old scene (Field e class field span) =
    or_none (worth maps table s now old scene e) (λ o. content_of maps (now (InField class (reference_in o) field)))
worth maps table s now old scene (Element type array index span) =
    or_none (worth maps table s now old scene array)
    (λ a. or_none (worth maps table s now old scene index)
    (λ i. content_of maps (now (InElement type (reference_in a) (number_in i)))))
worth maps table s now old scene (Length type array span) =
    or_none (worth maps table s now old scene array)
    (λ a. if nat_eq (reference_in a) 0 then None else or_none (s.lengths type (reference_in a)) (λ n. Some (value.Number n)))
worth maps table s now old scene (Not e) =
    or_none (worth maps table s now old scene e) (λ v. Some (value.Truth (not (truth_in v))))
worth maps table s now old scene (Compute manner operation a b span) =
    or_none (worth maps table s now old scene a)
    (λ x. or_none (worth maps table s now old scene b)
    (λ y. Some (value.Number (operated table manner operation (number_in x) (number_in y)))))
worth maps table s now old scene (Compare order a b) =
    or_none (worth maps table s now old scene a)
    (λ x. or_none (worth maps table s now old scene b) (λ y. Some (value.Truth (comparison order (number_in x) (number_in y)))))
worth maps table s now old scene (Equal same a b) =
    or_none (worth maps table s now old scene a)
    (λ x. or_none (worth maps table s now old scene b) (λ y. Some (value.Truth (equality same x y))))
worth maps table s now old scene (And a b) =
    or_none (worth maps table s now old scene a)
    (λ x. if truth_in x then worth maps table s now old scene b else Some (value.Truth false))
worth maps table s now old scene (Or a b) =
    or_none (worth maps table s now old scene a)
    (λ x. if truth_in x then Some (value.Truth true) else worth maps table s now old scene b)
worth maps table s now old scene (Implies a b) =
    or_none (worth maps table s now old scene a)
    (λ x. if truth_in x then worth maps table s now old scene b else Some (value.Truth true))
worth maps table s now old scene (Old e) = worth maps table s old old scene e

-- the arrays that are read at an index with the position are of this kind
abbrev pub Covered : Maps → List Entry → State → Cells → Cells → Scene → Name → (PvType → ℕ → Type 0) → Expression → Type 0
Covered maps table s now old scene name Q (Constant v) = Unit {0}
Covered maps table s now old scene name Q This = Unit {0}
Covered maps table s now old scene name Q Result = Unit {0}
Covered maps table s now old scene name Q (Variable x) = Unit {0}
Covered maps table s now old scene name Q (Field e class field span) = Covered maps table s now old scene name Q e
Covered maps table s now old scene name Q (Element type array index span) =
    (v : Value) → worth maps table s now old scene array ≡ Some v → IsTerm name index ⊎ Q type (reference_in v)
Covered maps table s now old scene name Q (Length type array span) = Covered maps table s now old scene name Q array
Covered maps table s now old scene name Q (Not e) = Covered maps table s now old scene name Q e
Covered maps table s now old scene name Q (Compute manner operation a b span) =
    Covered maps table s now old scene name Q a × Covered maps table s now old scene name Q b
Covered maps table s now old scene name Q (Compare order a b) =
    Covered maps table s now old scene name Q a × Covered maps table s now old scene name Q b
Covered maps table s now old scene name Q (Equal same a b) =
    Covered maps table s now old scene name Q a × Covered maps table s now old scene name Q b
Covered maps table s now old scene name Q (And a b) =
    Covered maps table s now old scene name Q a × Covered maps table s now old scene name Q b
Covered maps table s now old scene name Q (Or a b) =
    Covered maps table s now old scene name Q a × Covered maps table s now old scene name Q b
Covered maps table s now old scene name Q (Implies a b) =
    Covered maps table s now old scene name Q a × Covered maps table s now old scene name Q b
Covered maps table s now old scene name Q (Old e) = Covered maps table s old old scene name Q e

-- Names

-- q is the greatest name that isn't above p
pub record Nearest (names : List ℤ) (p q : ℤ) : Type 0 where
  pub member : IsOneOf q names
  pub below : q ≤ℤ p
  pub none : (r : ℤ) → IsOneOf r names → r ≤ℤ p → r ≤ℤ q

-- an array's names at the end of a run
abbrev pub names_of : Final → Array → List ℤ
names_of final array = named_on final.known final.events array

-- what is read at an index is what is read at the nearest name below
abbrev pub IsEven : Final → Maps → Cells → Type 0
IsEven final maps cells = (type : PvType) (array : ℕ) (p q : ℤ) → Nearest (names_of final (type, array)) p q
    → content_of maps (cells (InElement type array p)) ≡ content_of maps (cells (InElement type array q))

abbrev pub shift_of : List ArrayPart → ℤ
shift_of [] = pos 0
shift_of (part ∷ parts) = part.shift

-- a fact that a run knows
pub record IsFair (maps : Maps) (table : List Entry) (final : Final) (k : Known) : Type 0 where
  pub low : IsOneOf k.low (positions_of final.known final.events k)
  pub steady : Steady k.name (shift_of k.parts) k.fact
  pub covered : Covered maps table k.state (cells_of k.state) k.bind.old k.bind.scene k.name
      (λ type array. IsOneOf (type, array) (arrays_in k)) k.fact
  pub now : IsEven final maps (cells_of k.state)
  pub old : IsEven final maps k.bind.old

abbrev pub FairFactsSpread : Type 0
FairFactsSpread =
    (maps : Maps) (table : List Entry) (final : Final) (k : Known) → IsOneOf k final.known → IsFair maps table final k
    → Spreads maps table final k
