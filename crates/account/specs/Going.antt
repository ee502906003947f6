-- What local work leads to, and what a call begins with: the frame at its next step, with its run.
use Rattle.std.specs.Prelude.{◌≡◌, ◌≤◌, ℕ, Bool, Some, List, [], ◌∷◌}
use Rattle.pv_base.specs.declared.Name.{Name}
use Rattle.pv_values.specs.declared.value.Value.{Value}
use Rattle.pv_picks.specs.declared.check.Check.TheVariants as check
use Rattle.pv_picks.specs.Plain.Core.{Method, Program}
use Rattle.pv_picks.specs.Formulas.Values.{Variables, no_variables, with_arguments}
use Rattle.pv_picks.specs.Formulas.Heaps.{Heap}
use Rattle.pv_picks.specs.Judge.States.{Resource}
use Rattle.pv_picks.specs.Machine.Tasks.{Run}
use Rattle.pv_picks.specs.Machine.Frames.{Frame, no_value, kept, entered}
use Rattle.pv_picks.specs.Judge.UnitRuns.{of_method}
use Rattle.pv_picks.specs.Typing.Expressions.{answer_of}
use Rattle.pv_picks.specs.Typing.Blocks.{over}
use Rattle.core_trees.specs.Formulas.{midway}
use Rattle.account_formulas.specs.Owning.{Amounts}
use Rattle.account.specs.Running.{Body}
use Rattle.account.specs.Scoped.{TasksSay}
use Rattle.account.specs.Frames as account
use Rattle.account.specs.Frames.{amounts_of, standing_in, called_of, IsBodyOf, IsRunOf}

-- A frame to which local work leads has a run, with no more than was there, over the same body. It neither closes a block nor
-- leaves a barrier next.
pub record Goes (p : Program) (flags : ℕ → Bool) (present : Heap) (f : Frame) (r : account.Run) : Type 0 where
  pub run : account.Run
  pub fits : IsRunOf p flags present f run
  pub says : TasksSay (standing_in p f.class run.body run.outer) run.inner run.scope run.given run.stack f.tasks
  pub less : (q : Resource) → amounts_of run q ≤ amounts_of r q
  pub past : run.past ≡ r.past
  pub body : run.body ≡ r.body
  pub outer : run.outer ≡ r.outer

-- the body of a method, with the variables with which it began
abbrev pub body_of : Method → Variables → Body
body_of m variables = record {
  head = over [] m.parameters;
  answer = Some (answer_of m);
  speech = midway m;
  result = m.result;
  site = of_method variables;
  check = check.Ensures;
  after = m.contract.after;
}

-- the frame of a call before its local work
abbrev pub first_frame : Heap → Name → Method → ℕ → List Value → Frame
first_frame heap class m object values = record {
  class = class;
  method = m;
  this = object;
  begun = with_arguments no_variables m.parameters values;
  variables = with_arguments no_variables m.parameters values;
  values = [];
  tasks = Run m.body ∷ [];
  result = no_value;
  old = kept m heap;
}

-- the frame of a call has a run, with no more than its precondition owns
pub record Begins (p : Program) (flags : ℕ → Bool) (heap : Heap) (class : Name) (m : Method) (object : ℕ) (values : List Value)
    (R : Amounts) : Type 0 where
  pub run : account.Run
  pub fits : IsRunOf p flags heap (entered heap class m object values) run
  pub says : TasksSay (standing_in p (entered heap class m object values).class run.body run.outer) run.inner run.scope run.given
      run.stack (entered heap class m object values).tasks
  pub less : (q : Resource) → amounts_of run q ≤ R q
  pub past : run.past ≡ heap
  pub body : IsBodyOf m run.body
  pub called : called_of (entered heap class m object values) run ≡ called_of (first_frame heap class m object values) run
