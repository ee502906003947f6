-- Ranges that a run gains.
use Rattle.std.proofs.Common.{◌≡◌, ℕ, suc, ℤ, ◌+◌, Bool, true, false, if◌then◌else◌, Option, sym, ap, subst, ◌∙◌, arith}
use Rattle.std.specs.Prelude.{nat_le}
use Rattle.std.specs.HashMap.{HashMap}
use Rattle.std.proofs.Math.Path.{fun_ext}
use Rattle.pv_fraction.specs.Amounts.{whole}
use Rattle.pv_ast.specs.declared.PvType.{PvType}
use Rattle.pv_picks.specs.Formulas.Values.{width}
use Rattle.pv_picks.specs.Judge.States as states
use Rattle.pv_picks.specs.Judge.States.{State, InElement, FromSteps, holding, amount_held, cell_among, is_among, with_range}
use Rattle.pv_picks.specs.Judge.Permissions.{at_all}
use Rattle.pv_picks.specs.Judge.Runs.{Blocked}
use Rattle.pv_cells.specs.declared.halt.Halt.{Halt}
use Rattle.pv_cells.specs.declared.halt.Halt.TheVariants as halt
use Rattle.pv_cells.specs.declared.key.Resource.{Resource}
use Rattle.pv_cells.specs.declared.prepared.Prepared.{Prepared}
use Rattle.pv_cells.specs.declared.store.Holding.{Holding}
use Rattle.pv_cells.specs.declared.store.Learned.{Learned}
use Rattle.pv_cells.specs.Limits.{Ends, pick_steps}
use Rattle.pv_cells.specs.Moves.{Moves, Stops, EndsAt, standing, filling}
use Rattle.pv_cells.specs.Picks.{IsSteps, NoSteps}
use Rattle.pv_cells.specs.Prepared.{left}
use Rattle.pv_cells.specs.Stores.{held_of, lengths_of, met_of}

module _ {S : Type 0} (given : Prepared) (t : PvType) (a : ℕ) (low high first last : ℤ) (amount : ℕ) (old : HashMap Resource
    Holding S)
    (e : first ≡ low) (f : last ≡ high) where
  -- whether there is room at every position
  room_is : (b : Bool)
      → at_all (λ i. nat_le (amount_held (held_of old (InElement t a i)) + amount) whole) first (width first last) ≡ b
      → at_all (λ i. nat_le (amount_held (held_of old (InElement t a i)) + amount) whole) low (width low high) ≡ b
  room_is b is =
      let test : ℤ → Bool = λ i. nat_le (amount_held (held_of old (InElement t a i)) + amount) whole in
      let P : ℤ → Type 0 = λ z. at_all test z (width z high) ≡ b in
      let Q : ℤ → Type 0 = λ z. at_all test first (width first z) ≡ b in
      subst P e (subst Q f is)

  pub no_room : (l : Learned)
      → at_all (λ i. nat_le (amount_held (held_of old (InElement t a i)) + amount) whole) first (width first last) ≡ false
      → Stops given (filling given t a low high amount) old l halt.Blocked
  unfolding Stops EndsAt
  no_room l is s next =
      ap (λ b. (if b then pick_steps (next (with_range (standing s old l) t a low high amount)) else (λ picks. Ends Blocked))
      (left given l)) (room_is false is)

  pub no_steps : (l : Learned) (h : Halt)
      → at_all (λ i. nat_le (amount_held (held_of old (InElement t a i)) + amount) whole) first (width first last) ≡ true
      → NoSteps h (left given l) → Stops given (filling given t a low high amount) old l h
  unfolding Stops EndsAt NoSteps
  no_steps l (halt.Missing span) is k = absurd k
  no_steps l (halt.Failed check span) is k = absurd k
  no_steps l (halt.Overflow span) is k = absurd k
  no_steps l (halt.RangeTooLong n) is k = absurd k
  no_steps l halt.NoMemory is k = tt
  no_steps l halt.Blocked is k = λ s next.
      ap (λ b. (if b then pick_steps (next (with_range (standing s old l) t a low high amount)) else (λ picks. Ends Blocked))
      (left given l)) (room_is true is)
      ∙ k (next (with_range (standing s old l) t a low high amount))

  -- the state of which the range is gained
  filled : (s : State) (new : HashMap Resource Holding S) (from to : Learned)
      → ((r : states.Resource) → held_of new r ≡ (if is_among t a first last r
      then holding (amount_held (held_of old r) + amount) (cell_among (held_of old r) (FromSteps t from.steps) r first)
      else held_of old r))
      → to.lengths ≡ from.lengths → to.met ≡ from.met → to.steps ≡ from.steps + 1
      → standing s new to ≡ with_range (standing s old from) t a low high amount
  filled s new from to put ls ms ss =
      let more : ℤ → states.Resource → Option states.Holding = λ z r. holding (amount_held (held_of old r) + amount)
      (cell_among (held_of old r) (FromSteps t from.steps) r z) in
      let now : states.Resource → Option states.Holding = λ r. if is_among t a low high r then more low r else held_of old r in
      let same : held_of new ≡ now =
      fun_ext (λ r. put r
      ∙ ap (λ z. if is_among t a z last r then more z r else held_of old r) e
      ∙ ap (λ z. if is_among t a low z r then more low r else held_of old r) f) in
      let next : suc from.steps ≡ from.steps + 1 = omega arith in
      ap (λ h. record s { held = h; lengths = lengths_of to.lengths; met = met_of to.met.items; steps = to.steps }) same
      ∙ ap (λ k. record s { held = now; lengths = lengths_of k; met = met_of to.met.items; steps = to.steps }) ls
      ∙ ap (λ k. record s { held = now; lengths = lengths_of from.lengths; met = met_of k.items; steps = to.steps }) ms
      ∙ ap (λ k. record s { held = now; lengths = lengths_of from.lengths; met = met_of from.met.items; steps = k }) (ss
      ∙ sym next)

  pub gained_range : (new : HashMap Resource Holding S) (from to : Learned)
      → at_all (λ i. nat_le (amount_held (held_of old (InElement t a i)) + amount) whole) first (width first last) ≡ true
      → IsSteps (left given from) (left given to)
      → ((r : states.Resource) → held_of new r ≡ (if is_among t a first last r
      then holding (amount_held (held_of old r) + amount) (cell_among (held_of old r) (FromSteps t from.steps) r first)
      else held_of old r))
      → to.lengths ≡ from.lengths → to.met ≡ from.met → to.steps ≡ from.steps + 1
      → Moves given (filling given t a low high amount) old from new to
  unfolding Moves IsSteps
  gained_range new from to is steps put ls ms ss s next =
      ap (λ b. (if b then pick_steps (next (with_range (standing s old from) t a low high amount)) else (λ picks. Ends Blocked))
      (left given from)) (room_is true is)
      ∙ steps (next (with_range (standing s old from) t a low high amount))
      ∙ ap (λ k. next k (left given to)) (sym (filled s new from to put ls ms ss))
