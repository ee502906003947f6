-- The parts of formulas in sequence: a pure condition, two formulas, and a formula under a condition.
use Rattle.std.proofs.Common.{◌≡◌, ℕ, List, length, sym, subst}
use Rattle.std.specs.Prelude.{IfOk, OnErr}
use Rattle.std.specs.declared.result.Result.{Result}
use Rattle.pv_linear.specs.declared.Sort.{Sort}
use Rattle.pv_linear.specs.declared.Literal.{Literal}
use Rattle.pv_linear.specs.declared.asker.AskFault.{AskFault}
use Rattle.pv_linear.specs.Evidence.{Evidence}
use Rattle.pv_linear.specs.Decisions.{Decision}
use Rattle.pv_picks.specs.Judge.Runs.{End}
use Rattle.pv_picks.specs.Lazy.Runs.{Ends, at_end}
use Rattle.pv_picks.specs.Lazy.Parts.{Came, Stopped, Part, gone}
use Rattle.pv_state.specs.declared.scene.SymbolScene.{SymbolScene}
use Rattle.pv_state.specs.declared.scene.Stores.{Stores}
use Rattle.pv_state.specs.declared.formulas.Outcome.{Outcome}
use Rattle.pv_state.specs.declared.formulas.Outcome.TheVariants.{Goes}
use Rattle.pv_state.specs.States.{memory_at}
use Rattle.pv_state.specs.Runs.{came_at}
use Rattle.pv_state.proofs.Asked.{does_here}
use Rattle.pv_state.proofs.Following.{does_end}
use Rattle.pv_state.proofs.Sequences as sequences
use Rattle.pv_state.proofs.Sequences.{at, from, Done, Halted, MayBegin}

-- a part that ends the run
abbrev pub ending : End → Evidence → Part (Unit {0})
ending end e s m d = at_end (Stopped (Ends end) m)

-- a part that goes on at once
abbrev pub going : Evidence → Part (Unit {0})
going e = gone tt

module _ {S : Type 0} (path : S → List Literal) (turns : S → List ℕ) (decisions : S → List Decision)
    (stands : S → Evidence → Type 0) (ended : S → ℕ) (sorts : S → List Sort) (own : SymbolScene) where
  abbrev pub out : Outcome → Stores → S → Evidence → Came (Unit {0})
  out o stores asker e = came_at e own stores o (length (sorts asker)) (length (turns asker))

  pub ends_here : (stores : Stores) (asker : S) (end : End)
      → Done path turns decisions stands ended sorts own (ending end) stores asker asker
      (λ e. Stopped (Ends end) (memory_at e.values stores))
  ends_here stores asker end =
      does_here path turns decisions stands ended sorts asker (λ e. Stopped (Ends end) (memory_at e.values stores))

  pub goes_here : (stores : Stores) (asker : S)
      → Done path turns decisions stands ended sorts own going stores asker asker (out Goes stores asker)
  goes_here stores asker = sequences.done_here path turns decisions stands ended sorts own stores asker (λ e. tt)

  -- one part that has no value, and another
  module _ (first second : Evidence → Part (Unit {0})) (stores : Stores) (old : S) where
    abbrev pub then_second : Evidence → Unit {0} → Part (Unit {0})
    then_second e u = second e

    abbrev pub in_turn : Evidence → Part (Unit {0})
    in_turn = sequences.both path turns decisions stands ended sorts own first then_second stores old

    pub turn_first : MayBegin path turns decisions stands ended sorts own in_turn stores old
        → MayBegin path turns decisions stands ended sorts own first stores old
    turn_first ready = sequences.may_first path turns decisions stands ended sorts own first then_second stores old ready

    pub turn_stops : (new : S) → Halted path turns decisions stands ended sorts own first stores old new
        → Halted path turns decisions stands ended sorts own in_turn stores old new
    turn_stops new h = sequences.halted_first path turns decisions stands ended sorts own first then_second stores old new h

    -- the first one ended the run
    pub turn_ends : (mid : S) (next : Stores) (end : End)
        → Done path turns decisions stands ended sorts own first stores old mid
        (λ e. Stopped (Ends end) (memory_at e.values next))
        → Done path turns decisions stands ended sorts own in_turn stores old mid
        (λ e. Stopped (Ends end) (memory_at e.values next))
    turn_ends mid next end h = does_end path turns decisions stands ended sorts old mid
        (from path turns decisions stands ended sorts own first stores old) then_second (λ e. Ends end)
        (λ e. memory_at e.values next) h

    module _ (mid : S) (next : Stores) (o : Outcome) (goes : o ≡ Goes)
        (one : Done path turns decisions stands ended sorts own first stores old mid (out o next mid)) where
      went : Done path turns decisions stands ended sorts own first stores old mid
          (at path turns decisions stands ended sorts own (λ e. tt) next mid)
      went = subst (λ p. Done path turns decisions stands ended sorts own first stores old mid (out p next mid)) goes one

      pub turn_second : MayBegin path turns decisions stands ended sorts own in_turn stores old
          → MayBegin path turns decisions stands ended sorts own second next mid
      turn_second ready = sequences.may_then path turns decisions stands ended sorts own first then_second stores old mid next
          (λ e. tt) went ready

      pub turn_done : (new : S) (came : Evidence → Came (Unit {0}))
          → Done path turns decisions stands ended sorts own second next mid new came
          → Done path turns decisions stands ended sorts own in_turn stores old new came
      turn_done new came h = sequences.done_then path turns decisions stands ended sorts own first then_second stores old mid
          next (λ e. tt) went new came h

      pub turn_stops_second : (new : S) → Halted path turns decisions stands ended sorts own second next mid new
          → Halted path turns decisions stands ended sorts own in_turn stores old new
      turn_stops_second new h = sequences.halted_then path turns decisions stands ended sorts own first then_second stores old
          mid next (λ e. tt) went new h

  -- the same part, told of another tree
  module _ {X : Type 0} (part : X → Evidence → Part (Unit {0})) (stores : Stores) (old : S) (x y : X) (same : x ≡ y) where
    pub part_done : (r : Result Outcome AskFault) (new : S) (next : Stores)
        → IfOk r (λ o. Done path turns decisions stands ended sorts own (part x) stores old new (out o next new))
        → IfOk r (λ o. Done path turns decisions stands ended sorts own (part y) stores old new (out o next new))
    part_done r new next h = subst
        (λ z. IfOk r (λ o. Done path turns decisions stands ended sorts own (part z) stores old new (out o next new))) same h

    pub part_stops : (r : Result Outcome AskFault) (new : S)
        → OnErr r (Halted path turns decisions stands ended sorts own (part x) stores old new)
        → OnErr r (Halted path turns decisions stands ended sorts own (part y) stores old new)
    part_stops r new h =
        subst (λ z. OnErr r (Halted path turns decisions stands ended sorts own (part z) stores old new)) same h

    pub part_may : MayBegin path turns decisions stands ended sorts own (part y) stores old
        → MayBegin path turns decisions stands ended sorts own (part x) stores old
    part_may h = subst (λ z. MayBegin path turns decisions stands ended sorts own (part z) stores old) (sym same) h
