-- One resource of a store.
use Rattle.std.proofs.Common.{◌≡◌, ℕ, zero, suc, Bool, true, false, if◌then◌else◌, Option, None, Some, option_map, refl, sym, ap, ◌∙◌, cond}
use Rattle.std.specs.HashMap.{HashMap, get}
use Rattle.pv_picks.specs.Judge.States as states
use Rattle.pv_picks.specs.Judge.States.{same_resource, at_resource, holding}
use Rattle.pv_cells.specs.declared.key.Resource.{Resource}
use Rattle.pv_cells.specs.declared.store.Holding.{Holding}
use Rattle.pv_cells.specs.Keys.{is_resource, key_of, resource_of}
use Rattle.pv_cells.specs.Stores.{held_of, holding_of, cell_of}
use Rattle.pv_cells.proofs.Keys.{keys_same}

some_holding : (n : ℕ) (c : states.Cell) → (n ≡ 0 → ⊥) → Some (record { amount = n; cell = c }) ≡ holding n c
some_holding zero c h = absurd (h refl)
some_holding (suc n) c h = refl

by_test : (b : Bool) (h : Holding) (old : Option Holding)
    → option_map holding_of (cond b (Some h) old) ≡ (if b then Some (holding_of h) else option_map holding_of old)
by_test true h old = refl
by_test false h old = refl

without : (b : Bool) (old : Option Holding)
    → option_map holding_of (cond b None old) ≡ (if b then None else option_map holding_of old)
without true old = refl
without false old = refl

pub put_there : {S : Type 0} (old new : HashMap Resource Holding S) (k : Resource) (h : Holding) (r : states.Resource)
    → (h.amount ≡ 0 → ⊥)
    → get is_resource new (key_of r) ≡ cond (is_resource k (key_of r)) (Some h) (get is_resource old (key_of r))
    → held_of new r ≡ at_resource (resource_of k) (holding h.amount (cell_of h.cell)) (held_of old) r
put_there old new k h r some e =
    ap (option_map holding_of) e
    ∙ by_test (is_resource k (key_of r)) h (get is_resource old (key_of r))
    ∙ ap (λ b. if b then Some (holding_of h) else held_of old r) (keys_same k r)
    ∙ ap (λ x. if same_resource r (resource_of k) then x else held_of old r) (some_holding h.amount (cell_of h.cell) some)

pub taken_out : {S : Type 0} (old new : HashMap Resource Holding S) (k : Resource) (h : Holding) (r : states.Resource)
    → h.amount ≡ 0
    → get is_resource new (key_of r) ≡ cond (is_resource k (key_of r)) None (get is_resource old (key_of r))
    → held_of new r ≡ at_resource (resource_of k) (holding h.amount (cell_of h.cell)) (held_of old) r
taken_out old new k h r none e =
    ap (option_map holding_of) e
    ∙ without (is_resource k (key_of r)) (get is_resource old (key_of r))
    ∙ ap (λ b. if b then None else held_of old r) (keys_same k r)
    ∙ ap (λ n. if same_resource r (resource_of k) then holding n (cell_of h.cell) else held_of old r)
    (let e : 0 ≡ h.amount = sym none in e)
