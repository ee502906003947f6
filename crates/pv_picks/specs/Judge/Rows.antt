-- The rows of the judge: what one run of a unit does at each construct, against contracts alone. Calls, forks, blocks and loops
-- are run against their contracts.
use Rattle.std.specs.Prelude.{ℕ, ℤ, pos, Bool, true, false, ◌&&◌, ◌||◌, nat_eq, nat_le, int_le, if◌then◌else◌, Option, Some, None, is_some, List, [], ◌∷◌}
use Rattle.pv_base.specs.declared.Name.{Name}
use Rattle.pv_base.specs.declared.Span.{Span}
use Rattle.pv_ast.specs.declared.PvType.{PvType}
use Rattle.pv_ast.specs.declared.PvType.TheVariants as type
use Rattle.pv_ast.specs.declared.Token.TheVariants as token
use Rattle.pv_values.specs.declared.value.Value.{Value}
use Rattle.pv_values.specs.declared.value.Value.TheVariants as value
use Rattle.pv_fraction.specs.Amounts.{whole}
use Rattle.pv_picks.specs.declared.check.Check.{Check}
use Rattle.pv_picks.specs.declared.check.Check.TheVariants as check
use Rattle.pv_picks.specs.Plain.Core.{Expression, Formula, Items, Target, Nowhere, ToVariable, ToField, ToElement, Right, Value', Call, NewObject, NewArray, Parameter, Method, Program}
use Rattle.pv_picks.specs.Plain.Members.{fields_of, method_named, run_of, invariant_of}
use Rattle.pv_picks.specs.Formulas.Values.{Variables, number_in, reference_in, default_of, array_of, no_variables, with_arguments}
use Rattle.pv_ast.specs.Rules.Typing.{same_type}
use Rattle.pv_picks.specs.Formulas.Evaluation.{Reader, evaluate, evaluate_all}
use Rattle.pv_picks.specs.Judge.States.{amount_of, InField, InElement, Cells, Bind, scene_of, cells_of, no_cells, plain_cell, with_cell, with_elements, with_value, with_length, with_local}
use Rattle.pv_picks.specs.Judge.Settings.{Setting, Next, AtField, AtArray, AtArrayLength, ends_of, pick_value, unless_null, if_within, look_at_length, operate, or_missing, null}
use Rattle.pv_picks.specs.Judge.Permissions.{add_token}
use Rattle.pv_picks.specs.Judge.Inhaling.{inhale}
use Rattle.pv_picks.specs.Judge.Exhaling.{exhale, exhale_items}

-- The innermost body around a statement, of a method, a par block or a counted loop: the variables with which it began, of which
-- its contract speaks, and so do barriers and messages in it; of a block also the name of the position, and the range.
pub record Site : Type 0 where
  pub variable : Name
  pub low : ℤ
  pub high : ℤ
  pub begun : Variables

-- a formula of a callee: with its object, its arguments and its result
abbrev pub bind_for : ℕ → Variables → Value → Cells → Bind
bind_for this variables result old = record { scene = record { this = this; variables = variables; result = result }; old = old }

-- a formula of an object alone
abbrev pub bind_on : ℕ → Bind
bind_on object = bind_for object no_variables null no_cells

abbrev pub arguments_of : List Parameter → List Value → Variables
arguments_of parameters values = with_arguments no_variables parameters values

module _ {R : Type 0} (setting : Setting R) where
  -- gives up a formula that is read in this state; a failure has the span of the statement, or of the conjunct
  abbrev pub exhale_at : Check → Span → Bind → Formula → Next R → Next R
  exhale_at check span bind formula next state =
      exhale setting (record { bind = bind; before = cells_of state; check = check; statement = Some span }) formula next state

  abbrev pub exhale_by : Check → Bind → Formula → Next R → Next R
  exhale_by check bind formula next state =
      exhale setting (record { bind = bind; before = cells_of state; check = check; statement = None }) formula next state

  abbrev pub exhale_each : Check → Bind → Name → ℤ → ℤ → Items → Next R → Next R
  exhale_each check bind name low high items next state =
      exhale_items setting (record { bind = bind; before = cells_of state; check = check; statement = None }) name low high items
      next state

  -- Expressions of a body. An access fails on null, outside the array, and without permission.

  abbrev pub access_reader : Reader (Next R)
  access_reader = record {
    field = λ class object name span next state.
        unless_null setting object (setting.failed check.Null span)
        (setting.noticing (AtField class object name) (or_missing setting (cells_of state (InField class object name))
        (setting.failed check.ReadPermission span) next state));
    element = λ type array index span next state.
        unless_null setting array (setting.failed check.Null span) (look_at_length setting type array
        (λ n later. if_within setting (pos 0) n index (setting.failed check.Bounds span)
        (setting.noticing (AtArray type array (ends_of index))
        (or_missing setting (cells_of later (InElement type array index)) (setting.failed check.ReadPermission span) next later)))
        state);
    length =
        λ type array span next state. unless_null setting array (setting.failed check.Null span)
        (look_at_length setting type array next state);
    operation = operate setting;
    comparing = λ a b rest state. setting.comparing a b (rest state);
    matching = λ a b rest state. setting.matching a b (rest state);
    deciding = λ b rest state. setting.deciding b (rest state);
  }

  abbrev pub compute : Expression → (Value → Next R) → Next R
  compute e next state = evaluate access_reader access_reader (scene_of state) e next state

  abbrev pub compute_all : List Expression → (List Value → Next R) → Next R
  compute_all es next state = evaluate_all access_reader access_reader (scene_of state) es next state

  -- Where a value goes

  -- writing needs the whole permission
  abbrev pub write_field : Name → ℕ → Name → Span → Value → Next R → Next R
  write_field class object name span v next state =
      unless_null setting object (setting.failed check.Null span)
      (setting.noticing (AtField class object name)
      (if nat_le whole (amount_of state (InField class object name)) then next
      (with_value state (InField class object name) v) else setting.failed check.WritePermission span))

  abbrev pub write_element : PvType → ℕ → ℤ → Span → Value → Next R → Next R
  write_element type array index span v next state =
      unless_null setting array (setting.failed check.Null span) (look_at_length setting type array
      (λ n later. if_within setting (pos 0) n index (setting.failed check.Bounds span)
      (setting.noticing (AtArray type array (ends_of index))
      (if nat_le whole (amount_of later (InElement type array index)) then next
      (with_value later (InElement type array index) v) else setting.failed check.WritePermission span)))
      state)

  -- the parts of the left side; then what is done with the place to put a value into
  abbrev pub locate : Target → ((Value → Next R → Next R) → Next R) → Next R
  locate Nowhere next = next (λ v rest. rest)
  locate (ToVariable name) next = next (λ v rest state. rest (with_local state name v))
  locate (ToField e class name span) next = compute e (λ o. next (write_field class (reference_in o) name span))
  locate (ToElement type array index span) next =
      compute array (λ a. compute index (λ i. next (write_element type (reference_in a) (number_in i) span)))

  -- Calls and new objects

  abbrev pub result_of : Option PvType → (Value → Next R) → Next R
  result_of None next = next null
  result_of (Some type) next = pick_value setting type next

  -- `\old` in the postcondition is the caller's state before; what isn't declared can't be called
  abbrev pub call : Option Method → ℕ → List Value → Span → (Value → Next R) → Next R
  call None object values span next state = setting.failed check.Requires span
  call (Some m) object values span next state =
      let variables : Variables = arguments_of m.parameters values in
      unless_null setting object (setting.failed check.Null span)
      (exhale_at check.Requires span (bind_for object variables null no_cells) m.contract.before
      (result_of m.result (λ r. inhale setting (bind_for object variables r (cells_of state)) m.contract.after (next r))) state)

  abbrev pub is_known : PvType → ℕ → List (PvType × ℕ) → Bool
  is_known type reference [] = false
  is_known type reference (x ∷ xs) = (same_type type x.0 && nat_eq reference x.1) || is_known type reference xs

  -- the new reference is compared with null and with each of its type that the run has met
  abbrev pub notice_known : PvType → ℕ → List (PvType × ℕ) → R → R
  notice_known type reference [] rest = rest
  notice_known type reference (x ∷ xs) rest =
      if same_type type x.0 then setting.matching (value.Reference reference) (value.Reference x.1)
      (notice_known type reference xs rest) else notice_known type reference xs rest

  abbrev pub fresh : PvType → List (PvType × ℕ) → (ℕ → Next R) → Value → Next R
  fresh type known next v state =
      unless_null setting (reference_in v) setting.blocked
      (notice_known type (reference_in v) known (if is_known type (reference_in v) known then setting.blocked else next
      (reference_in v) state))

  -- a reference that differs from null and from all of its type that the run has met
  abbrev pub pick_fresh : PvType → (ℕ → Next R) → Next R
  pick_fresh type next state = pick_value setting type (fresh type state.met next) state

  abbrev pub add_fields : Name → ℕ → List Parameter → Next R → Next R
  add_fields class object [] next state = next state
  add_fields class object (f ∷ fs) next state =
      setting.noticing (AtField class object f.0) (add_fields class object fs next
      (with_cell state (InField class object f.0) whole (default_of f.1)))

  abbrev pub add_token_if : Bool → Next R → Next R → Next R
  add_token_if true add next = add
  add_token_if false add next = next

  abbrev pub add_uncommitted : Program → Name → ℕ → Next R → Next R
  add_uncommitted p class object next =
      add_token_if (is_some (invariant_of p class)) (add_token setting token.Uncommitted class object next) next

  -- the tokens of a new object: `idle` where its class has a `run`, `uncommitted` where it has a lock invariant
  abbrev pub add_tokens : Program → Name → ℕ → Next R → Next R
  add_tokens p class object next =
      add_token_if (is_some (run_of p class)) (add_token setting token.Idle class object (add_uncommitted p class object next))
      (add_uncommitted p class object next)

  abbrev pub new_object : Program → Name → (Value → Next R) → Next R
  new_object p class next =
      pick_fresh (type.Object class) (λ o. add_fields class o (fields_of p class)
      (add_tokens p class o (next (value.Reference o))))

  abbrev pub new_array : PvType → ℤ → Span → (Value → Next R) → Next R
  new_array type length span next =
      pick_fresh (array_of type)
      (λ a state. setting.comparing length (pos 0)
      (if int_le (pos 0) length then
      setting.noticing (AtArrayLength type a) (setting.noticing (AtArray type a (pos 0 ∷ length ∷ []))
      (next (value.Reference a)
      (with_length (with_elements state type a (pos 0) length whole (λ i. plain_cell (default_of type))) type a length)))
      else setting.failed check.Length span))

  -- the value of a right side
  abbrev pub right : Program → Right → Span → (Value → Next R) → Next R
  right p (Value' e) span next = compute e next
  right p (Call class method e arguments) span next =
      compute e (λ o. compute_all arguments (λ vs. call (method_named p class method) (reference_in o) vs span next))
  right p (NewObject class) span next = new_object p class next
  right p (NewArray type e) span next = compute e (λ n. new_array type (number_in n) span next)
