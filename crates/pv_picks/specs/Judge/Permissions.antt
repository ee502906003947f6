-- How a run gains and gives permissions, tokens, locks and instances: one location or one range at a time.
use Rattle.std.specs.Prelude.{ℕ, zero, suc, ◌+◌, ◌-◌, ℤ, pos, ◌+ℤ◌, Bool, true, ◌&&◌, nat_eq, nat_le, int_le, if◌then◌else◌, Option, Some, None, List, [], ◌∷◌, ◌++◌}
use Rattle.pv_base.specs.declared.Name.{Name}
use Rattle.pv_ast.specs.declared.PvType.{PvType}
use Rattle.pv_ast.specs.declared.Token.{Token}
use Rattle.pv_ast.specs.declared.Token.TheVariants as token
use Rattle.pv_fraction.specs.Amounts.{whole}
use Rattle.pv_picks.specs.Formulas.Values.{width}
use Rattle.pv_picks.specs.Judge.States.{State, amount_of, Resource, InField, InElement, OfToken, OfLock, Folded, with_amount, with_cell, with_range, without_range, with_committed, with_instances, without_instance}
use Rattle.pv_picks.specs.Judge.Settings.{Setting, Next, AtField, AtToken, AtLock, AtInstance, AtArray, ends_of, pick_value, unless_null, if_within, look_at_length}

-- a test at each position of a range
abbrev pub at_all : (ℤ → Bool) → ℤ → ℕ → Bool
at_all test low zero = true
at_all test low (suc n) = test low && at_all test (low +ℤ pos 1) n

-- all locations of the range have room for so much more
abbrev pub has_room : State → PvType → ℕ → ℤ → ℤ → ℕ → Bool
has_room s type array low high amount =
    at_all (λ i. nat_le (amount_of s (InElement type array i) + amount) whole) low (width low high)

abbrev pub has_each : State → PvType → ℕ → ℤ → ℤ → ℕ → Bool
has_each s type array low high amount = at_all (λ i. nat_le amount (amount_of s (InElement type array i))) low (width low high)

module _ {R : Type 0} (setting : Setting R) where
  -- more of one location; one that wasn't held takes its value from a pick
  abbrev pub gain_on : ℕ → PvType → Resource → ℕ → Next R → Next R
  gain_on zero type resource amount next state =
      pick_value setting type (λ v later. next (with_cell later resource amount v)) state
  gain_on (suc there) type resource amount next state = next (with_amount state resource (suc there + amount))

  -- blocks where it would be more than the whole
  abbrev pub gain : PvType → Resource → ℕ → Next R → Next R
  gain type resource amount next state =
      if nat_le (amount_of state resource + amount) whole then gain_on
      (amount_of state resource) type resource amount next state else setting.blocked

  abbrev pub gain_field : Name → ℕ → Name → PvType → ℕ → Next R → Next R
  gain_field class object name type amount next state =
      unless_null setting object setting.blocked (setting.noticing (AtField class object name)
      (gain type (InField class object name) amount next state))

  abbrev pub gain_element : PvType → ℕ → ℤ → ℕ → Next R → Next R
  gain_element type array index amount next state =
      unless_null setting array setting.blocked (look_at_length setting type array
      (λ n later. if_within setting (pos 0) n index setting.blocked
      (setting.noticing (AtArray type array (ends_of index)) (gain type (InElement type array index) amount next later)))
      state)

  -- the elements of a range that isn't empty; the values are one pick
  abbrev pub gain_range : PvType → ℕ → ℤ → ℤ → List ℤ → ℕ → Next R → Next R
  gain_range type array low high ends amount next state =
      unless_null setting array setting.blocked (look_at_length setting type array
      (λ n later. setting.comparing low (pos 0) (setting.comparing high n
      (if int_le (pos 0) low && int_le high n then
      setting.noticing (AtArray type array ends)
      (if has_room later type array low high amount then setting.steps later.steps type array
      (next (with_range later type array low high amount)) else setting.blocked)
      else setting.blocked)))
      state)

  -- less of one location; what comes where less is there
  abbrev pub give : Resource → ℕ → R → Next R → Next R
  give resource amount short next state =
      if nat_le amount (amount_of state resource) then next
      (with_amount state resource (amount_of state resource - amount)) else short

  abbrev pub give_field : Name → ℕ → Name → ℕ → R → Next R → Next R
  give_field class object name amount short next state =
      setting.noticing (AtField class object name) (give (InField class object name) amount short next state)

  abbrev pub give_element : PvType → ℕ → ℤ → ℕ → R → Next R → Next R
  give_element type array index amount short next state =
      setting.noticing (AtArray type array (ends_of index)) (give (InElement type array index) amount short next state)

  abbrev pub give_range : PvType → ℕ → ℤ → ℤ → List ℤ → ℕ → R → Next R → Next R
  give_range type array low high ends amount short next state =
      setting.noticing (AtArray type array ends) (if has_each state type array low high amount then next
      (without_range state type array low high amount) else short)

  -- Tokens and locks are there or not. One that is there already blocks.
  abbrev pub add_whole : Resource → Next R → Next R
  add_whole resource next state =
      if nat_eq (amount_of state resource) 0 then next (with_amount state resource whole) else setting.blocked

  abbrev pub add_token : Token → Name → ℕ → Next R → Next R
  add_token token.Committed class object next state =
      setting.noticing (AtToken token.Committed class object) (next (with_committed state class object))
  add_token kind class object next state =
      setting.noticing (AtToken kind class object) (add_whole (OfToken kind class object) next state)

  -- `committed` stays known
  abbrev pub take_token : Token → Name → ℕ → R → Next R → Next R
  take_token token.Committed class object short next state =
      setting.noticing (AtToken token.Committed class object) (if state.committed class object then next state else short)
  take_token kind class object short next state =
      setting.noticing (AtToken kind class object) (give (OfToken kind class object) whole short next state)

  abbrev pub add_lock : Name → ℕ → Next R → Next R
  add_lock class object next state = add_whole (OfLock class object) next state

  abbrev pub take_lock : Name → ℕ → R → Next R → Next R
  take_lock class object short next state =
      setting.noticing (AtLock class object) (give (OfLock class object) whole short next state)

  abbrev pub noticed_instance : Folded → R → R
  noticed_instance folded rest = setting.noticing (AtInstance folded.class folded.predicate folded.object folded.arguments) rest

  abbrev pub add_instance : Folded → Next R → Next R
  add_instance folded next state =
      noticed_instance folded (next (with_instances state (state.instances ++ folded ∷ [])))

  abbrev pub or_short : Option (List Folded) → R → Next R → Next R
  or_short None short next state = short
  or_short (Some instances) short next state = next (with_instances state instances)

  abbrev pub take_instance : Folded → R → Next R → Next R
  take_instance folded short next state =
      noticed_instance folded (or_short (without_instance folded state.instances) short next state)
