-- The run of the judge over what is left of a frame: its tasks, with the intermediate values.
use Rattle.std.specs.Prelude.{suc, ℤ, Bool, true, false, if◌then◌else◌, Option, List, [], ◌∷◌, drop}
use Rattle.pv_base.specs.declared.Span.{Span}
use Rattle.pv_ast.specs.declared.PvType.{PvType}
use Rattle.pv_values.specs.declared.value.Value.{Value}
use Rattle.pv_values.specs.declared.value.Value.TheVariants as value
use Rattle.pv_picks.specs.declared.check.Check.{Check}
use Rattle.pv_picks.specs.declared.check.Check.TheVariants as check
use Rattle.pv_picks.specs.Plain.Core.{Expression, Formula, Parameter, Program, Team, Block}
use Rattle.pv_picks.specs.Plain.Members.{predicate_named, method_named}
use Rattle.pv_picks.specs.Formulas.Values.{number_in, truth_in, reference_in}
use Rattle.pv_picks.specs.Judge.States.{with_local, with_result}
use Rattle.pv_picks.specs.Judge.Settings.{Setting, Next, unless_null, operate}
use Rattle.pv_picks.specs.Machine.Tasks.{FieldOf, ElementOf, Loop, Step, AtRead, AtWrite, AtLength, AtNewObject, AtNewArray, AtAssert, AtFold, AtHead, AtCall, AtAction, AtOpen, AtClose, AtArrive, AtLeave, AtSend, AtReceive, Combination, Computed, Task, Evaluate, EvaluateAll, Combine, Choose, Branch, Turn, Put, Drop, Give, Unfolded, Run, Stand, Resume}
use Rattle.pv_picks.specs.Machine.Frames.{top, second, topmost, object_under, combined}
use Rattle.pv_picks.specs.Judge.Rows.{Site, access_reader, compute, write_field, write_element, call, new_object, new_array}
use Rattle.pv_picks.specs.Judge.Judging.{finish, exhale_own, inhale_at_site, at_body_end, judge_action, fold_in, unfold_in, assert, loop, team, barrier, send, receive, inside, judge_block}
use Rattle.pv_picks.specs.Typing.Expressions.{Speech}

-- The body of which a frame is the run, of a method or of a member of a block: the variables in scope at its head, the type of
-- what it returns to a call, if it returns to one, and what formulas in it may speak of. At its end a formula is to be shown, in
-- which `\result` has a type; the site says where it stands, and the check what fails there.
pub record Body : Type 0 where
  pub head : List Parameter
  pub answer : Option PvType
  pub speech : Speech
  pub result : Option PvType
  pub site : Site
  pub check : Check
  pub after : Formula

-- what stands for the place of a failure that never comes
abbrev pub nowhere : Span
nowhere = record { from = 0; to = 0 }

-- the next turn of a loop is decided while its condition is evaluated
abbrev pub goes_inside : Step → Bool → Bool
goes_inside (AtRead spot span) inner = inner
goes_inside (AtLength type span) inner = inner
goes_inside _ inner = false

module _ {R : Type 0} (setting : Setting R) (p : Program) (body : Body) where
  abbrev pub third : List Value → Value
  third values = top (drop 2 values)

  -- one expression after the other
  abbrev pub compute_each : List Expression → (List Value → Next R) → List Value → Next R
  compute_each [] next values = next values
  compute_each (e ∷ es) next values = compute setting e (λ v. compute_each es next (v ∷ values))

  -- the body of a loop, up to its invariant
  abbrev pub turn_inside : Loop → Next R
  turn_inside l = judge_block setting p body.site l.body (exhale_own setting check.LoopKeep l.invariant (finish setting))

  -- a loop begins, or goes back to its head, where its turn ends
  abbrev pub ran_at_head : Check → Loop → Next R → Next R
  ran_at_head check.LoopKeep l next = exhale_own setting check.LoopKeep l.invariant (finish setting)
  ran_at_head _ l next = loop setting l.assigned l.invariant l.condition (turn_inside l) next

  -- a block over a range: its members' bodies, and what comes after them
  abbrev pub ran_at_open : Team → Block → ℤ → ℤ → Next R → Next R
  ran_at_open t block low high next =
      team setting t low high
      (λ state. judge_block setting p (inside setting t low high state.variables) block
      (at_body_end setting (inside setting t low high state.variables) check.BlockEnsures t.shared.one.after) state) next

  -- what a step does with the values; what a thread waits for at the end of a block is said of its members
  abbrev pub ran_step : Step → (List Value → Next R) → List Value → Next R
  ran_step (AtRead (FieldOf class name) span) next values =
      (access_reader setting).field class (reference_in (top values)) name span (λ v. next (v ∷ drop 1 values))
  ran_step (AtRead (ElementOf type) span) next values =
      (access_reader setting).element type (reference_in (second values)) (number_in (top values)) span
      (λ v. next (v ∷ drop 2 values))
  ran_step (AtWrite (FieldOf class name) span) next values =
      write_field setting class (reference_in (second values)) name span (top values) (next (drop 2 values))
  ran_step (AtWrite (ElementOf type) span) next values =
      write_element setting type (reference_in (third values)) (number_in (second values)) span (top values)
      (next (drop 3 values))
  ran_step (AtLength type span) next values =
      (access_reader setting).length type (reference_in (top values)) span (λ n. next (value.Number n ∷ drop 1 values))
  ran_step (AtNewObject class) next values = new_object setting p class (λ v. next (v ∷ values))
  ran_step (AtNewArray type span) next values =
      new_array setting type (number_in (top values)) span (λ v. next (v ∷ drop 1 values))
  ran_step (AtAssert formula) next values = assert setting formula (next values)
  ran_step (AtFold class predicate count span) next values = λ state.
      unless_null setting (object_under count values) (setting.failed check.Null span)
      (fold_in setting (predicate_named p class predicate) class (object_under count values) (topmost count values) span
      (next (drop (suc count) values)) state)
  ran_step (AtHead named l) next values = ran_at_head named l (next values)
  ran_step (AtCall class method count span) next values =
      call setting (method_named p class method) (object_under count values) (topmost count values) span
      (λ r. next (r ∷ drop (suc count) values))
  ran_step (AtAction action class span) next values = λ state.
      unless_null setting (reference_in (top values)) (setting.failed check.Null span)
      (judge_action setting p action class (reference_in (top values)) span (next (drop 1 values)) state)
  ran_step (AtOpen t block) next values =
      ran_at_open t block (number_in (second values)) (number_in (top values)) (next (drop 2 values))
  ran_step (AtClose b) next values = λ state. setting.blocked
  ran_step (AtArrive b span) next values = barrier setting b.shared body.site (next values)
  ran_step (AtLeave b span) next values = inhale_at_site setting body.site b.shared.one.after (next values)
  ran_step (AtSend m span) next values = send setting m span body.site (next values)
  ran_step (AtReceive m span) next values = receive setting m span body.site (next values)

  -- a loop goes on as was decided at its head; else the run fails
  abbrev pub ran_turn : Bool → Bool → Next R → Next R → Next R
  ran_turn true true inner past = inner
  ran_turn true false inner past = λ state. setting.failed check.LoopKeep nowhere
  ran_turn false true inner past = λ state. setting.failed check.LoopKeep nowhere
  ran_turn false false inner past = past

  abbrev pub ran_combined : Combination → (List Value → Next R) → List Value → Next R
  ran_combined (Computed manner operation span) next values =
      operate setting manner operation (number_in (second values)) (number_in (top values)) span
      (λ z. next (value.Number z ∷ drop 2 values))
  ran_combined combination next values = next (combined combination values)

  -- the tasks one after the other, where it is told whether the loop at whose condition they stand goes on. What waits for a call
  -- is said of the call
  abbrev pub ran : Bool → List Task → List Value → Next R
  ran inner [] values = at_body_end setting body.site body.check body.after
  ran inner (Evaluate e ∷ tasks) values = compute setting e (λ v. ran inner tasks (v ∷ values))
  ran inner (EvaluateAll es ∷ tasks) values = compute_each es (ran inner tasks) values
  ran inner (Combine combination ∷ tasks) values = ran_combined combination (ran inner tasks) values
  ran inner (Choose a b ∷ tasks) values =
      compute setting (if truth_in (top values) then a else b) (λ v. ran inner tasks (v ∷ drop 1 values))
  ran inner (Branch a b ∷ tasks) values =
      judge_block setting p body.site (if truth_in (top values) then a else b) (ran false tasks (drop 1 values))
  ran inner (Turn l ∷ tasks) values =
      ran_turn (truth_in (top values)) inner (turn_inside l) (ran false tasks (drop 1 values))
  ran inner (Put name ∷ tasks) values = λ state. ran false tasks (drop 1 values) (with_local state name (top values))
  ran inner (Drop ∷ tasks) values = ran false tasks (drop 1 values)
  ran inner (Give ∷ tasks) values = λ state. ran false tasks (drop 1 values) (with_result state (top values))
  ran inner (Unfolded class predicate count span ∷ tasks) values =
      unfold_in setting (predicate_named p class predicate) class (object_under count values) (topmost count values) span
      (ran false tasks (drop (suc count) values))
  ran inner (Run b ∷ tasks) values = judge_block setting p body.site b (ran false tasks values)
  ran inner (Stand step ∷ tasks) values = ran_step step (ran (goes_inside step inner) tasks) values
  ran inner (Resume class m object arguments ∷ tasks) values = λ state. setting.blocked
