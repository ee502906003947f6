-- The grounds of verdicts: what each kind of verdict on a unit says of its runs on evidence.
use Rattle.std.specs.Prelude.{◌≡◌, ◌≢◌, ◌≤◌, ◌^◌, ◌⊎◌, ℤ, pos, neg_ℤ, Bool, true, ◌&&◌, int_le, int_lt, if◌then◌else◌, Option, Some, None, IsSome, List, [], ◌∷◌, ◌++◌, All, length}
use Rattle.pv_base.specs.declared.Span.{Span}
use Rattle.pv_ast.specs.declared.Operator.{Operator}
use Rattle.pv_ast.specs.declared.Operator.TheVariants as operator
use Rattle.pv_picks.specs.declared.check.Check.{Check}
use Rattle.pv_picks.specs.declared.evidence.Pick.{Pick}
use Rattle.pv_picks.specs.declared.evidence.Pick.TheVariants.{Number, Turn, Steps}
use Rattle.pv_picks.specs.declared.evidence.StepPair.{StepPair}
use Rattle.pv_picks.specs.declared.evidence.Entry.{Entry}
use Rattle.pv_picks.specs.declared.evidence.Evidence.{Evidence}
use Rattle.pv_picks.specs.declared.unit.PvUnit.{PvUnit}
use Rattle.pv_picks.specs.Plain.Core.{Operation, Plus, Minus, Times, Program}
use Rattle.pv_picks.specs.Formulas.Values.{arithmetic}
use Rattle.pv_picks.specs.Judge.Runs.{Failed, ordered, Suspended, ended_on, whole_run, judge, Enters}
use Rattle.pv_picks.specs.Lazy.Patterns.{Shown}
use Rattle.pv_picks.specs.Lazy.Runs.{HasPattern, pattern_of, values_of}

-- no evidence makes a suspended run fail
abbrev pub Never : Suspended → Type 0
Never run = (evidence : Evidence) (check : Check) (span : Span) → ended_on run evidence ≡ Failed check span → ⊥

-- no evidence makes the run of a unit fail
abbrev pub NeverFails : Program → PvUnit → Type 0
NeverFails p unit = Never (whole_run p unit)

abbrev pub operation_of : Operator → Option Operation
operation_of operator.Add = Some Plus
operation_of operator.Sub = Some Minus
operation_of operator.Mul = Some Times
operation_of _ = None

-- the true value of an entry's operation
abbrev pub worked_out : Option Operation → ℤ → ℤ → Option ℤ
worked_out None a b = None
worked_out (Some operation) a b = Some (arithmetic operation a b)

abbrev pub truth_of : Entry → Option ℤ
truth_of e = worked_out (operation_of e.op) e.left e.right

-- the entry is true arithmetic
abbrev pub IsTrueEntry : Entry → Type 0
IsTrueEntry e = truth_of e ≡ Some e.taken

-- Evidence as it is told: a table has an entry for an operator and its arguments at most once, the lesser argument first under
-- `+` and `*`, and the positions of a map for a range rise.

abbrev pub IsOrdered : Option Operation → ℤ → ℤ → Type 0
IsOrdered None a b = ⊥
IsOrdered (Some operation) a b = ordered operation a b ≡ true

abbrev pub HasOtherUse : Entry → Entry → Type 0
HasOtherUse e f = (e.op ≡ f.op) → (e.left ≡ f.left) → (e.right ≡ f.right) → ⊥

abbrev pub IsTable : List Entry → Type 0
IsTable [] = Unit {0}
IsTable (e ∷ es) = IsOrdered (operation_of e.op) e.left e.right × All (HasOtherUse e) es × IsTable es

abbrev pub IsBelowAll : StepPair → List StepPair → Type 0
IsBelowAll pair pairs = All (λ other. int_lt pair.at other.at ≡ true) pairs

abbrev pub IsRising : List StepPair → Type 0
IsRising [] = Unit {0}
IsRising (pair ∷ pairs) = IsBelowAll pair pairs × IsRising pairs

abbrev pub HasRisingMap : Pick → Type 0
HasRisingMap (Number z) = Unit {0}
HasRisingMap (Turn n) = Unit {0}
HasRisingMap (Steps map) = IsRising map

pub record IsTold (evidence : Evidence) : Type 0 where
  pub table : IsTable evidence.table
  pub maps : All HasRisingMap evidence.picks

-- the first entry of the table whose value differs from arithmetic
pub record IsFirstUntrue (entry : Entry) (table : List Entry) : Type 0 where
  pub before : List Entry
  pub behind : List Entry
  pub stands : table ≡ before ++ entry ∷ behind
  pub true_before : All IsTrueEntry before
  pub arithmetic : IsSome (truth_of entry)
  pub untrue : IsTrueEntry entry → ⊥

-- a number of 128 bits
abbrev pub fits : ℤ → Bool
fits z = int_le (neg_ℤ (pos (2 ^ 127))) z && int_lt z (pos (2 ^ 127))

-- a true value within 128 bits: none exactly where it is outside
abbrev pub if_fits : Option ℤ → Option ℤ
if_fits None = None
if_fits (Some z) = if fits z then Some z else None

-- evidence on which the first inhale goes
pub record Entered (p : Program) (unit : PvUnit) : Type 0 where
  pub evidence : Evidence
  pub enters : Enters p unit evidence

-- Pass: no evidence makes the run fail, and on some the first inhale goes
pub record IsPass (p : Program) (unit : PvUnit) : Type 0 where
  pub never : NeverFails p unit
  pub some_enters : ∥ Entered p unit ∥₁

-- Empty: no evidence makes the run fail, and on none the first inhale goes
pub record IsEmpty (p : Program) (unit : PvUnit) : Type 0 where
  pub never : NeverFails p unit
  pub nothing : (evidence : Evidence) → Enters p unit evidence → ⊥

-- Fail: the run on this evidence fails with this check and span, and all its operations are true arithmetic
pub record IsFail (p : Program) (unit : PvUnit) (check : Check) (span : Span) (evidence : Evidence) : Type 0 where
  pub told : IsTold evidence
  pub fails : judge p unit evidence ≡ Failed check span
  pub true_table : All IsTrueEntry evidence.table

-- Beyond: the run on this evidence fails with this check and span, this is the first entry whose value differs from arithmetic,
-- and this its true value
pub record IsBeyond (p : Program) (unit : PvUnit) (check : Check) (span : Span) (evidence : Evidence) (entry : Entry)
    (truth : Option ℤ)
    : Type 0 where
  pub told : IsTold evidence
  pub fails : judge p unit evidence ≡ Failed check span
  pub first : IsFirstUntrue entry evidence.table
  pub true_value : truth ≡ if_fits (truth_of entry)

-- each piece of evidence has another pattern than all behind it
abbrev pub AllDiffer : (Evidence → List Shown) → List Evidence → Type 0
AllDiffer pattern [] = Unit {0}
AllDiffer pattern (e ∷ es) = All (λ f. pattern e ≢ pattern f) es × AllDiffer pattern es

-- evidence with more patterns than paths are followed, each two different
pub record HasManyPatterns (p : Program) (unit : PvUnit) : Type 0 where
  pub pieces : List Evidence
  pub many : length pieces ≡ 65537
  pub have : All (HasPattern p unit) pieces
  pub differ : AllDiffer (pattern_of p unit) pieces

-- evidence whose run takes more numbers than there are symbols
pub record HasManyValues (p : Program) (unit : PvUnit) : Type 0 where
  pub evidence : Evidence
  pub many : 4294967294 ≤ length (values_of p unit evidence)

-- Splits: there are too many patterns, or too many values
abbrev pub IsSplits : Program → PvUnit → Type 0
IsSplits p unit = ∥ HasManyPatterns p unit ∥₁ ⊎ ∥ HasManyValues p unit ∥₁
