-- The machine that runs small programs: one thread, which moves by itself until it stands at one of two labels, Check at an
-- `assert` and Return at a body's end. It has no contracts' help and knows nothing of verdicts.
use Rattle.std.specs.Prelude.{ℕ, zero, suc, ◌≢◌, ℤ, pos, if◌then◌else◌, Option, Some, None, List, [], ◌∷◌, ◌++◌, Contains}
use Rattle.pv_ast.specs.declared.Expr.{Expr}
use Rattle.pv_ast.specs.declared.Stmt.{Stmt}
use Rattle.pv_ast.specs.declared.StmtKind.{StmtKind, StmtKind-F, out-StmtKind}
use Rattle.pv_ast.specs.declared.Method.{Method}
use Rattle.pv_ast.specs.declared.Member.TheVariants as member
use Rattle.pv_ast.specs.declared.Class.{Class}
use Rattle.pv_ast.specs.declared.Program.{Program}
use Rattle.small_meaning.specs.Values.{Variables, broken_of}
use Rattle.small_meaning.specs.Running.{Arguments, with_variable, variables_at_start, scene_of, is_true, number_of_right_kind, first_number, assigned_to, result_number, Meets, broken_postcondition}

-- a thread: it has its variables and the statements that are left to do; or it stands at its end with a result; or has ended
pub data Thread : Type 0 where
  working : Variables → List Stmt → Thread
  returning : ℤ → Thread
  ended : Thread

-- the thread as it begins a method
abbrev pub thread_at_start : Method → Arguments → Thread
thread_at_start m arguments = working (variables_at_start m.params arguments) m.body

-- the thread behind a statement, before the rest
abbrev pub thread_behind : StmtKind-F StmtKind Stmt → Variables → List Stmt → Thread
thread_behind (StmtKind-F.Local t name value) variables rest =
    working (with_variable variables name.name.0 (first_number value variables)) rest
thread_behind (StmtKind-F.Assign place value) variables rest =
    working (assigned_to place.kind variables (number_of_right_kind value.kind variables)) rest
thread_behind (StmtKind-F.If condition first second) variables rest = if is_true condition variables then
    working variables (first ++ rest) else working variables (second ++ rest)
thread_behind (StmtKind-F.Return value) variables rest = returning (result_number value variables)
thread_behind _ variables rest = working variables rest

-- the next move of a thread: the step of the label at which it stands, or a piece of local work, by which no label is passed
abbrev pub moved : Thread → Thread
moved (working variables []) = returning (pos 0)
moved (working variables (s ∷ rest)) = thread_behind (out-StmtKind s.kind) variables rest
moved (returning z) = ended
moved ended = ended

-- the thread after so many moves
abbrev pub after_moves : ℕ → Thread → Thread
after_moves zero t = t
after_moves (suc n) t = after_moves n (moved t)

-- where a thread may stand for a step
pub data Label : Type 0 where
  check : Expr → Variables → Label
  return_of : ℤ → Label

abbrev pub label_at : StmtKind-F StmtKind Stmt → Variables → Option Label
label_at (StmtKind-F.Assert formula) variables = Some (check formula variables)
label_at _ variables = None

-- the label at which a thread stands; none before local work and after the end
abbrev pub label_of : Thread → Option Label
label_of (working variables []) = None
label_of (working variables (s ∷ rest)) = label_at (out-StmtKind s.kind) variables
label_of (returning z) = Some (return_of z)
label_of ended = None

-- the step of a label is wrong: at Check the formula isn't met, at Return the postcondition isn't
abbrev pub IsWrongAt : Method → Arguments → Option Label → Type 0
IsWrongAt m arguments None = ⊥
IsWrongAt m arguments (Some (check formula variables)) = broken_of formula (scene_of variables) ≢ None
IsWrongAt m arguments (Some (return_of z)) = broken_postcondition m arguments z ≢ None

abbrev pub IsWrong : Method → Arguments → Thread → Type 0
IsWrong m arguments t = IsWrongAt m arguments (label_of t)

-- the method is one of the program's
abbrev pub HasMethod : Program → Method → Type 0
HasMethod p m = (c : Class) × Contains p.classes c × Contains c.members (member.Method m)

-- a program is safe where no thread that begins any of its methods on arguments that meet the precondition comes, in any
-- number of moves, to stand at a step that is wrong
abbrev pub IsSafe : Program → Type 0
IsSafe p = (m : Method) → HasMethod p m → (arguments : Arguments) → Meets m arguments → (n : ℕ)
    → IsWrong m arguments (after_moves n (thread_at_start m arguments)) → ⊥
