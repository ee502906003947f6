-- What a run does inside an array, behind a look at its length.
use Rattle.std.proofs.Common.{◌≡◌, ℕ, ℤ, Bool, true, false, if◌then◌else◌, List, sym, ap, ◌∙◌}
use Rattle.std.specs.Prelude.{nat_eq}
use Rattle.std.specs.HashMap.{HashMap}
use Rattle.pv_ast.specs.declared.PvType.{PvType}
use Rattle.pv_picks.specs.declared.evidence.Pick.{Pick}
use Rattle.pv_picks.specs.Judge.States.{State, empty_state}
use Rattle.pv_picks.specs.Judge.Settings.{Next, look_at_length}
use Rattle.pv_picks.specs.Judge.Runs.{Blocked}
use Rattle.pv_cells.specs.declared.halt.Halt.{Halt}
use Rattle.pv_cells.specs.declared.halt.Halt.TheVariants as halt
use Rattle.pv_cells.specs.declared.key.Resource.{Resource}
use Rattle.pv_cells.specs.declared.prepared.Prepared.{Prepared}
use Rattle.pv_cells.specs.declared.store.Holding.{Holding}
use Rattle.pv_cells.specs.declared.store.Learned.{Learned}
use Rattle.pv_cells.specs.Limits.{Limited, Ends, Overflows}
use Rattle.pv_cells.specs.Moves.{Move, inside_array, Moves, Stops, EndsAt, setting_of, standing}
use Rattle.pv_cells.specs.Parts.{Goes, Halts}
use Rattle.pv_cells.specs.Prepared.{left}
use Rattle.pv_cells.specs.Stores.{held_of}
use Rattle.pv_cells.specs.Values.{Measured, Unmeasured}
use Rattle.pv_cells.proofs.Gains.{null_is, not_null}
use Rattle.pv_cells.proofs.Stopping.{ends_alike}

module _ (given : Prepared) (type : PvType) (array : ℕ) (test : ℤ → Bool) (inner : Move) where
  -- what is done behind the length
  behind : Next Limited → ℤ → Next Limited
  behind next n state = if test n then inner next state else (setting_of given).blocked

  by_null : (next : Next Limited) (s : State) (picks : List Pick) (b : Bool) → nat_eq array 0 ≡ b
      → inside_array given type array test inner next s picks
      ≡ (if b then (λ p. Ends Blocked) else look_at_length (setting_of given) type array (behind next) s) picks
  unfolding behind
  by_null next s picks b e =
      ap (λ c. (if c then (setting_of given).blocked else look_at_length (setting_of given) type array (behind next) s) picks) e

  pub at_null : {S : Type 0} (held : HashMap Resource Holding S) (l : Learned) → array ≡ 0
      → Stops given (inside_array given type array test inner) held l halt.Blocked
  unfolding Stops EndsAt
  at_null held l e s next = by_null next (standing s held l) (left given l) true (null_is array e)

  -- the run comes to the length
  come_to : {S : Type 0} (held : HashMap Resource Holding S) (from to : Learned) (n : ℤ) → (array ≡ 0 → ⊥)
      → Measured given type array from n to → (s : State) (next : Next Limited)
      → inside_array given type array test inner next (standing s held from) (left given from)
      ≡ behind next n (standing s held to) (left given to)
  unfolding Measured Goes
  come_to held from to n e m s next =
      by_null next (standing s held from) (left given from) false (not_null array e)
      ∙ m (record s { held = held_of held }) (λ span state picks. Ends Blocked) (behind next)

  pub outside : {S : Type 0} (held : HashMap Resource Holding S) (from to : Learned) (n : ℤ) → (array ≡ 0 → ⊥)
      → Measured given type array from n to → test n ≡ false
      → Stops given (inside_array given type array test inner) held from halt.Blocked
  unfolding Stops EndsAt behind
  outside held from to n e m w s next =
      come_to held from to n e m s next
      ∙ ap (λ b. (if b then inner next (standing s held to)
      else (setting_of given).blocked) (left given to)) w

  -- inside, it goes on with gaining
  inside : {S : Type 0} (held : HashMap Resource Holding S) (from to : Learned) (n : ℤ) → (array ≡ 0 → ⊥)
      → Measured given type array from n to → test n ≡ true → (s : State) (next : Next Limited)
      → inside_array given type array test inner next (standing s held from) (left given from)
      ≡ inner next (standing s held to) (left given to)
  unfolding behind
  inside held from to n e m w s next =
      come_to held from to n e m s next
      ∙ ap (λ b. (if b then inner next (standing s held to)
      else (setting_of given).blocked) (left given to)) w

  pub at_place : {S : Type 0} (old new : HashMap Resource Holding S) (from mid to : Learned) (n : ℤ) → (array ≡ 0 → ⊥)
      → Measured given type array from n mid → test n ≡ true
      → Moves given inner old mid new to
      → Moves given (inside_array given type array test inner) old from new to
  unfolding Moves
  at_place old new from mid to n e m w h s next = inside old from mid n e m w s next ∙ h s next

  pub at_place_stops : {S : Type 0} (old : HashMap Resource Holding S) (from mid : Learned) (n : ℤ) (h : Halt) → (array ≡ 0 → ⊥)
      → Measured given type array from n mid → test n ≡ true
      → Stops given inner old mid h
      → Stops given (inside_array given type array test inner) old from h
  unfolding Stops
  at_place_stops old from mid n h e m w k = ends_alike h _ _ (λ end g s next. inside old from mid n e m w s next ∙ g s next) k

  pub no_length : {S : Type 0} (old : HashMap Resource Holding S) (from to : Learned) (h : Halt) → (array ≡ 0 → ⊥)
      → Unmeasured given type array from h to
      → Stops given (inside_array given type array test inner) old from h
  unfolding Stops EndsAt Unmeasured Halts
  no_length old from to (halt.Missing span) e k =
      let next : ℤ → Next Limited = λ z state picks. Ends Blocked in
      let one = k empty_state (λ other state picks. Ends Blocked) next in
      let two = k empty_state (λ other state picks. Overflows span) next in
      absurd (cc (sym one ∙ two))
  no_length old from to halt.Blocked e k = λ s next.
      by_null next (standing s old from) (left given from) false (not_null array e)
      ∙ k (record s { held = held_of old }) (λ span state picks. Ends Blocked) (behind next)
  no_length old from to (halt.Failed check span) e k = λ s next.
      by_null next (standing s old from) (left given from) false (not_null array e)
      ∙ k (record s { held = held_of old }) (λ span state picks. Ends Blocked) (behind next)
  no_length old from to (halt.Overflow span) e k = λ s next.
      by_null next (standing s old from) (left given from) false (not_null array e)
      ∙ k (record s { held = held_of old }) (λ span state picks. Ends Blocked) (behind next)
  no_length old from to (halt.RangeTooLong n) e k = λ s next.
      by_null next (standing s old from) (left given from) false (not_null array e)
      ∙ k (record s { held = held_of old }) (λ span state picks. Ends Blocked) (behind next)
  no_length old from to halt.NoMemory e k = tt
