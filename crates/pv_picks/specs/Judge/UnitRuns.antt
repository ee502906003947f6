-- The run of one unit: a method or `run`, a predicate, or a lock invariant. It begins with picks and a first inhale, and goes on
-- with what is then to be shown.
use Rattle.std.specs.Prelude.{pos, Option, Some, None, List, [], slice_get}
use Rattle.pv_base.specs.declared.Name.{Name}
use Rattle.pv_ast.specs.declared.PvType.TheVariants as type
use Rattle.pv_picks.specs.declared.check.Check.TheVariants as check
use Rattle.pv_picks.specs.declared.unit.PvUnit.{PvUnit}
use Rattle.pv_picks.specs.declared.unit.Part.{Part}
use Rattle.pv_picks.specs.declared.unit.Part.TheVariants as part
use Rattle.pv_picks.specs.Plain.Core.{Formula, Parameter, Method, Member, IsField, IsPredicate, IsMethod, Class, Program}
use Rattle.pv_picks.specs.Formulas.Values.{Variables, reference_in}
use Rattle.pv_picks.specs.Judge.States.{cells_of, with_result, nothing_held, empty_state}
use Rattle.pv_picks.specs.Judge.Settings.{Setting, Next, pick_value, unless_null}
use Rattle.pv_picks.specs.Judge.Rows.{Site, result_of}
use Rattle.pv_picks.specs.Judge.Judging.{inhale_own, at_body_end, finish, choose_turn, judge_block, pick_variables}

-- the body of a method, which begins with these variables; no block is around
abbrev pub of_method : Variables → Site
of_method variables = record { variable = record { 0 = 0 }; low = pos 0; high = pos 0; begun = variables }

-- what a unit is of: a method or `run`, or a formula of an object, with parameters
pub data Task : Type 0 where
  OfMethod : Name → Method → Task
  OfFormula : Name → List Parameter → Formula → Task
  NoUnit : Task

abbrev pub task_of_member : Name → Option Member → Task
task_of_member class None = NoUnit
task_of_member class (Some (IsField f)) = NoUnit
task_of_member class (Some (IsPredicate d)) = OfFormula class d.parameters d.body
task_of_member class (Some (IsMethod m)) = OfMethod class m

abbrev pub task_of_invariant : Name → Option Formula → Task
task_of_invariant class None = NoUnit
task_of_invariant class (Some formula) = OfFormula class [] formula

abbrev pub task_in_class : Part → Option Class → Task
task_in_class p None = NoUnit
task_in_class part.LockInvariant (Some c) = task_of_invariant c.name c.lock_invariant
task_in_class (part.Member place) (Some c) = task_of_member c.name (slice_get c.members place)

-- the class at a place, and the part of it
abbrev pub task_of : Program → PvUnit → Task
task_of p unit = task_in_class unit.part (slice_get p unit.class)

module _ {R : Type 0} (setting : Setting R) where
  abbrev pub pick_this : Name → Next R → Next R
  pick_this class next = pick_value setting (type.Object class) (λ v state. next (record state { this = reference_in v }))

  abbrev pub not_on_null : Next R → Next R
  not_on_null next state = unless_null setting state.this setting.blocked (next state)

  abbrev pub remember : Next R → Next R
  remember next state = next (record state { old = cells_of state })

  -- the picks and the first inhale; on null a method isn't run
  abbrev pub enter : Task → Next R → Next R
  enter (OfMethod class m) next =
      pick_this class (not_on_null (pick_variables setting m.parameters (inhale_own setting m.contract.before next)))
  enter (OfFormula class parameters formula) next =
      pick_this class (pick_variables setting parameters (λ state. inhale_own setting formula next (nothing_held state)))
  enter NoUnit next = λ state. setting.blocked

  -- the body of a method up to its postcondition
  abbrev pub through_body : Program → Method → Site → Next R
  through_body p m site = judge_block setting p site m.body (at_body_end setting site check.Ensures m.contract.after)

  -- turn `in` runs the body up to the postcondition, turn `frame` takes the postcondition from nothing held
  abbrev pub go_on : Program → Task → Next R
  go_on p (OfMethod class m) =
      remember (choose_turn setting
      (λ s. through_body p m (of_method s.variables) s)
      (λ s. result_of setting m.result (λ r t. inhale_own setting m.contract.after (finish setting) (with_result t r))
      (nothing_held s))
      (λ s. setting.blocked))
  go_on p (OfFormula class parameters formula) = finish setting
  go_on p NoUnit = finish setting

  -- the whole run, and the run up to the first inhale
  abbrev pub judge_task : Program → Task → R
  judge_task p t = enter t (go_on p t) empty_state

  abbrev pub enter_task : Task → R
  enter_task t = enter t (finish setting) empty_state
