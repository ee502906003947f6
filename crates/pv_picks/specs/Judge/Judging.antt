-- The run of statements: on from the rows of single actions, the rows of loops, blocks, barriers and messages, and of the units
-- themselves.
use Rattle.std.specs.Prelude.{ℕ, suc, zero, ℤ, pos, ◌+ℤ◌, ◌-ℤ◌, Bool, true, false, nat_eq, int_le, int_lt, if◌then◌else◌, Option, Some, None, List, [], ◌∷◌}
use Rattle.pv_base.specs.declared.Name.{Name}
use Rattle.pv_base.specs.declared.Span.{Span}
use Rattle.pv_ast.specs.declared.PvType.TheVariants.{Int}
use Rattle.pv_ast.specs.declared.Token.TheVariants as token
use Rattle.pv_values.specs.declared.value.Value.{Value}
use Rattle.pv_values.specs.Sames.{same_truth}
use Rattle.pv_picks.specs.declared.check.Check.{Check}
use Rattle.pv_picks.specs.declared.check.Check.TheVariants as check
use Rattle.pv_picks.specs.Plain.Core.{Expression, Formula, Action, Fork, Join', Lock, Unlock, Commit, Contract, Shared, Team, Message, Parameter, Statement, Assign, If, While, Members, Meet, Act, Fold, Unfold, Assert, Send, Receive, Return, Block, Stop, Then, Predicate, Method, Program}
use Rattle.pv_picks.specs.Plain.Members.{predicate_named, run_of, invariant_of}
use Rattle.pv_picks.specs.Formulas.Values.{Variables, number_in, truth_in, reference_in, at_position}
use Rattle.pv_picks.specs.Judge.States.{State, amount_of, Bind, OfLock, bind_of, no_cells, with_local, with_result, nothing_held, having_learned}
use Rattle.pv_picks.specs.Judge.Settings.{Setting, Next, choose, AtLock, pick_value, unless_null, if_within, null}
use Rattle.pv_picks.specs.Judge.Permissions.{add_token, take_token, add_lock, take_lock, add_instance, take_instance}
use Rattle.pv_picks.specs.Judge.Inhaling.{inhale, inhale_items}
use Rattle.pv_picks.specs.Judge.Rows.{Site, bind_for, bind_on, arguments_of, exhale_at, exhale_by, exhale_each, compute, compute_all, locate, right}

module _ {R : Type 0} (setting : Setting R) where
  abbrev pub finish : Next R
  finish state = setting.finished

  abbrev pub blocking : Next R
  blocking state = setting.blocked

  -- a formula of the unit's own is taken, and is given up
  abbrev pub inhale_own : Formula → Next R → Next R
  inhale_own formula next state = inhale setting (bind_of state) formula next state

  abbrev pub exhale_own : Check → Formula → Next R → Next R
  exhale_own check formula next state = exhale_by setting check (bind_of state) formula next state

  -- the same body at another position
  abbrev pub at_site : Site → ℤ → Site
  at_site site i = record site { begun = at_position site.begun site.variable i }

  -- a formula of the innermost body's contract, of a barrier or of a message: with the variables with which the body began
  abbrev pub bind_at_site : Site → State → Bind
  bind_at_site site state =
      record { scene = record { this = state.this; variables = site.begun; result = state.result }; old = state.old }

  abbrev pub inhale_at_site : Site → Formula → Next R → Next R
  inhale_at_site site formula next state = inhale setting (bind_at_site site state) formula next state

  abbrev pub exhale_at_site : Site → Check → Formula → Next R → Next R
  exhale_at_site site check formula next state = exhale_by setting check (bind_at_site site state) formula next state

  -- a body ends with its postcondition
  abbrev pub at_body_end : Site → Check → Formula → Next R
  at_body_end site check after = exhale_at_site site check after finish

  -- Actions on an object. What isn't declared fails.

  abbrev pub contract_of : Option Method → R → (Contract → Next R) → Next R
  contract_of None undeclared next state = undeclared
  contract_of (Some m) undeclared next state = next m.contract state

  abbrev pub formula_of : Option Formula → R → (Formula → Next R) → Next R
  formula_of None undeclared next state = undeclared
  formula_of (Some formula) undeclared next state = next formula state

  abbrev pub fork : Program → Name → ℕ → Span → Next R → Next R
  fork p class object span next =
      take_token setting token.Idle class object (setting.failed check.NotIdle span)
      (contract_of (run_of p class) (setting.failed check.ForkRequires span)
      (λ c. exhale_at setting check.ForkRequires span (bind_on object) c.before
      (add_token setting token.Running class object next)))

  abbrev pub join : Program → Name → ℕ → Span → Next R → Next R
  join p class object span next =
      take_token setting token.Running class object (setting.failed check.NotRunning span)
      (contract_of (run_of p class) (setting.failed check.NotRunning span)
      (λ c. inhale setting (bind_on object) c.after (add_token setting token.Idle class object next)))

  -- what isn't known to be committed can't be locked; what this run holds already blocks
  abbrev pub lock : Program → Name → ℕ → Span → Next R → Next R
  lock p class object span next =
      take_token setting token.Committed class object (setting.failed check.NotCommitted span)
      (λ state. setting.noticing (AtLock class object)
      (if nat_eq (amount_of state (OfLock class object)) 0 then
      formula_of (invariant_of p class) (setting.failed check.LockInvariant span)
      (λ i. inhale setting (bind_on object) i (add_lock setting class object next)) state
      else setting.blocked))

  abbrev pub unlock : Program → Name → ℕ → Span → Next R → Next R
  unlock p class object span next state =
      take_lock setting class object (setting.failed check.NotHeld span)
      (formula_of (invariant_of p class) (setting.failed check.LockInvariant span)
      (λ i. exhale_at setting check.LockInvariant span (bind_on object) i next)) state

  abbrev pub commit : Program → Name → ℕ → Span → Next R → Next R
  commit p class object span next =
      take_token setting token.Uncommitted class object (setting.failed check.NotUncommitted span)
      (formula_of (invariant_of p class) (setting.failed check.LockInvariant span)
      (λ i. exhale_at setting check.LockInvariant span (bind_on object) i (add_token setting token.Committed class object next)))

  abbrev pub judge_action : Program → Action → Name → ℕ → Span → Next R → Next R
  judge_action p Fork class object span next = fork p class object span next
  judge_action p Join' class object span next = join p class object span next
  judge_action p Lock class object span next = lock p class object span next
  judge_action p Unlock class object span next = unlock p class object span next
  judge_action p Commit class object span next = commit p class object span next

  abbrev pub fold_in : Option Predicate → Name → ℕ → List Value → Span → Next R → Next R
  fold_in None class object values span next state = setting.failed check.Fold span
  fold_in (Some d) class object values span next state =
      exhale_at setting check.Fold span (bind_for object (arguments_of d.parameters values) null no_cells) d.body
      (add_instance setting (record { class = class; predicate = d.name; object = object; arguments = values }) next) state

  abbrev pub unfold_in : Option Predicate → Name → ℕ → List Value → Span → Next R → Next R
  unfold_in None class object values span next state = setting.failed check.Unfold span
  unfold_in (Some d) class object values span next state =
      take_instance setting (record { class = class; predicate = d.name; object = object; arguments = values })
      (setting.failed check.Unfold span)
      (inhale setting (bind_for object (arguments_of d.parameters values) null no_cells) d.body next) state

  -- an assert is given up on a copy; what was learned stays
  abbrev pub assert : Formula → Next R → Next R
  assert formula next state = exhale_own check.Assert formula (λ later. next (having_learned state later)) state

  -- Turns. Each is offered by the construct, or blocks.

  abbrev pub turn_of : Next R → Next R → Next R → State → ℕ → R
  turn_of inner frame past state zero = inner state
  turn_of inner frame past state (suc zero) = frame state
  turn_of inner frame past state (suc (suc n)) = past state

  -- `in`, `frame` or `past`
  abbrev pub choose_turn : Next R → Next R → Next R → Next R
  choose_turn inner frame past state = setting.turn (turn_of inner frame past state)

  -- a loop's variables are any values
  abbrev pub pick_variables : List Parameter → Next R → Next R
  pick_variables [] next = next
  pick_variables (p ∷ ps) next = pick_value setting p.1 (λ v state. pick_variables ps next (with_local state p.0 v))

  -- the condition has this truth value, or the run blocks
  abbrev pub when : Bool → Expression → Next R → Next R
  when wanted condition next =
      compute setting condition (λ v state. setting.deciding (truth_in v)
      (if same_truth wanted (truth_in v) then next state else setting.blocked))

  abbrev pub loop : List Parameter → Formula → Expression → Next R → Next R → Next R
  loop assigned invariant condition body next =
      exhale_own check.LoopEntry invariant
      (choose_turn
      (λ state. pick_variables assigned (inhale_own invariant (when true condition body)) (nothing_held state))
      blocking
      (pick_variables assigned (inhale_own invariant (when false condition next))))

  -- some position of a range
  abbrev pub pick_position : ℤ → ℤ → (ℤ → Next R) → Next R
  pick_position low high next state = setting.pick Int (λ i. if_within setting low high i setting.blocked (next i state))

  -- a member at some position of a range
  abbrev pub at_some : Name → ℤ → ℤ → Next R → Next R
  at_some variable low high next =
      pick_position low high (λ i state. next (record state { variables = at_position state.variables variable i }))

  -- a par block or a counted loop over a range
  abbrev pub team : Team → ℤ → ℤ → Next R → Next R → Next R
  team t low high body next state =
      exhale_each setting check.BlockRequires (bind_of state) t.variable low high t.shared.each_before
      (choose_turn
      (λ s. at_some t.variable low high (inhale_own t.shared.one.before body) (nothing_held s))
      (λ s. at_some t.variable low high (inhale_own t.shared.one.after finish) (nothing_held s))
      (λ s. inhale_items setting (bind_of s) t.variable low high t.shared.each_after next s))
      state

  -- every position's contract, and that of this one; turn `frame` stands at some position
  abbrev pub barrier : Shared → Site → Next R → Next R
  barrier shared site next =
      exhale_at_site site check.BarrierRequires shared.one.before
      (choose_turn
      (λ s. inhale_items setting (bind_at_site site s) site.variable site.low site.high shared.each_before
      (λ t. exhale_each setting check.BarrierEnsures (bind_at_site site t) site.variable site.low site.high shared.each_after
      finish t)
      (nothing_held s))
      (λ s. pick_position site.low site.high
      (λ i. inhale_at_site (at_site site i) shared.one.before
      (λ t. inhale_at_site (at_site site i) shared.one.after finish (nothing_held t))) (nothing_held s))
      (inhale_at_site site shared.one.after next))

  -- the position of this member
  abbrev pub position : Site → ℤ
  position site = number_in (site.begun site.variable.0)

  -- a message to its own sender is declared by no send
  abbrev pub if_declared : Message → Span → Next R → Next R
  if_declared m span next state = if nat_eq m.distance 0 then setting.failed check.Send span else next state

  abbrev pub send : Message → Span → Site → Next R → Next R
  send m span site next =
      if_declared m span
      (choose_turn blocking
      (λ s. inhale_at_site site m.formula finish (nothing_held s))
      (λ s. setting.comparing (position site +ℤ pos m.distance) site.high
      (if int_lt (position site +ℤ pos m.distance) site.high then exhale_at_site site check.Send m.formula next s else next s)))

  -- the formula at the sender's position, with this member's variables
  abbrev pub receive : Message → Span → Site → Next R → Next R
  receive m span site next =
      if_declared m span
      (λ state. setting.comparing (position site -ℤ pos m.distance) site.low
      (if int_le site.low (position site -ℤ pos m.distance) then
      inhale_at_site (at_site site (position site -ℤ pos m.distance)) m.formula next state
      else next state))

  abbrev pub return : Option Expression → Next R → Next R
  return None next = next
  return (Some e) next = compute setting e (λ v state. next (with_result state v))

  -- the body of a member, which begins with these variables
  abbrev pub inside : Team → ℤ → ℤ → Variables → Site
  inside t low high variables = record { variable = t.variable; low = low; high = high; begun = variables }

  abbrev mutual
    pub judge_statement : Program → Site → Statement → Next R → Next R
    judge_statement p site (Assign target e span) next = locate setting target (λ put. right setting p e span (λ v. put v next))
    judge_statement p site (If e first second) next =
        compute setting e (λ v state. choose setting v (judge_block p site first next state)
        (judge_block p site second next state))
    judge_statement p site (While assigned invariant condition body span) next =
        loop assigned invariant condition (judge_block p site body (exhale_own check.LoopKeep invariant finish)) next
    judge_statement p site (Members t body span) next =
        compute setting t.low (λ l. compute setting t.high (λ h.
        team t (number_in l) (number_in h)
        (λ state. judge_block p (inside t (number_in l) (number_in h) state.variables) body
        (at_body_end (inside t (number_in l) (number_in h) state.variables) check.BlockEnsures t.shared.one.after) state)
        next))
    judge_statement p site (Meet b span) next = barrier b.shared site next
    judge_statement p site (Act action class e span) next =
        compute setting e (λ o state. unless_null setting (reference_in o) (setting.failed check.Null span)
        (judge_action p action class (reference_in o) span next state))
    judge_statement p site (Fold class predicate e arguments span) next =
        compute setting e (λ o. compute_all setting arguments (λ vs state.
        unless_null setting (reference_in o) (setting.failed check.Null span)
        (fold_in (predicate_named p class predicate) class (reference_in o) vs span next state)))
    judge_statement p site (Unfold class predicate e arguments span) next =
        compute setting e (λ o. compute_all setting arguments
        (λ vs. unfold_in (predicate_named p class predicate) class (reference_in o) vs span next))
    judge_statement p site (Assert formula span) next = assert formula next
    judge_statement p site (Send m span) next = send m span site next
    judge_statement p site (Receive m span) next = receive m span site next
    judge_statement p site (Return e span) next = return e next

    pub judge_block : Program → Site → Block → Next R → Next R
    judge_block p site Stop next = next
    judge_block p site (Then s ss) next = judge_statement p site s (judge_block p site ss next)
