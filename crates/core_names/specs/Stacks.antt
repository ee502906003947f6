-- How many intermediate values stand before what is left of a body: just those that it takes, and none before a statement.
use Rattle.std.specs.Prelude.{◌≡◌, ℕ, suc, ◌+◌, Bool, true, false, List, [], ◌∷◌, length}
use Rattle.std.specs.List.{AllByRecursion}
use Rattle.pv_picks.specs.Machine.Tasks.{Step, AtRead, AtWrite, AtLength, AtNewObject, AtNewArray, AtFold, AtCall, AtAction, AtOpen, Combination, Negated, Computed, Compared, Matched, Task, Evaluate, EvaluateAll, Combine, Choose, Branch, Turn, Put, Drop, Give, Unfolded, Run, Stand, Resume}
use Rattle.pv_picks.specs.Machine.Frames.{Frame, breadth}
use Rattle.pv_picks.specs.Machine.Worlds.{World}

-- how many values a step takes off the stack, and whether it leaves one
abbrev pub taken_by : Step → ℕ
taken_by (AtRead spot span) = breadth spot
taken_by (AtWrite spot span) = suc (breadth spot)
taken_by (AtLength type span) = 1
taken_by (AtNewArray type span) = 1
taken_by (AtFold class name count span) = suc count
taken_by (AtCall class name count span) = suc count
taken_by (AtAction action class span) = 1
taken_by (AtOpen team body) = 2
taken_by _ = 0

abbrev pub leaves_one : Step → Bool
leaves_one (AtRead spot span) = true
leaves_one (AtLength type span) = true
leaves_one (AtNewObject class) = true
leaves_one (AtNewArray type span) = true
leaves_one (AtCall class name count span) = true
leaves_one _ = false

-- the number of values that local work combines
abbrev pub operands : Combination → ℕ
operands Negated = 1
operands (Computed manner operation span) = 2
operands (Compared order) = 2
operands (Matched same) = 2

-- Of so many values some are taken: inside a statement one more is left over the others, and at its end nothing is left.
abbrev pub Takes : Bool → ℕ → (ℕ → Type 0) → ℕ → Type 0
Takes true taken Rest count = (others : ℕ) × (count ≡ taken + others) × Rest (suc others)
Takes false taken Rest count = (count ≡ taken) × Rest 0

-- tasks take just so many values
abbrev pub AreBalanced : List Task → ℕ → Type 0
AreBalanced [] count = count ≡ 0
AreBalanced (Evaluate e ∷ ts) count = AreBalanced ts (suc count)
AreBalanced (EvaluateAll es ∷ ts) count = AreBalanced ts (length es + count)
AreBalanced (Combine combination ∷ ts) count = Takes true (operands combination) (AreBalanced ts) count
AreBalanced (Choose a b ∷ ts) count = Takes true 1 (AreBalanced ts) count
AreBalanced (Branch a b ∷ ts) count = Takes false 1 (AreBalanced ts) count
AreBalanced (Turn loop ∷ ts) count = Takes false 1 (AreBalanced ts) count
AreBalanced (Put name ∷ ts) count = Takes false 1 (AreBalanced ts) count
AreBalanced (Drop ∷ ts) count = Takes false 1 (AreBalanced ts) count
AreBalanced (Give ∷ ts) count = Takes false 1 (AreBalanced ts) count
AreBalanced (Unfolded class predicate arguments span ∷ ts) count = Takes false (suc arguments) (AreBalanced ts) count
AreBalanced (Run b ∷ ts) count = Takes false 0 (AreBalanced ts) count
AreBalanced (Stand step ∷ ts) count = Takes (leaves_one step) (taken_by step) (AreBalanced ts) count
AreBalanced (Resume class method object arguments ∷ ts) count = AreBalanced ts (suc count)

-- each frame of each thread has just the values that its tasks take
abbrev pub StacksFit : World → Type 0
StacksFit w = (j : ℕ) → AllByRecursion (λ (f : Frame). AreBalanced f.tasks (length f.values)) (w.threads j).frames
