-- Permissions that a run gains.
use Rattle.std.proofs.Common.{◌≡◌, ℕ, zero, suc, ◌+◌, Bool, true, false, if◌then◌else◌, Option, List, refl, sym, ap, ◌∙◌, arith}
use Rattle.std.specs.Prelude.{nat_eq, nat_le}
use Rattle.std.specs.HashMap.{HashMap}
use Rattle.std.proofs.Math.Path.{fun_ext}
use Rattle.pv_fraction.specs.Amounts.{whole}
use Rattle.pv_base.specs.declared.Name.{Name}
use Rattle.pv_ast.specs.declared.PvType.{PvType}
use Rattle.pv_values.specs.declared.value.Value.{Value}
use Rattle.pv_picks.specs.declared.evidence.Pick.{Pick}
use Rattle.pv_picks.specs.Judge.States as states
use Rattle.pv_picks.specs.Judge.States.{State, InField, empty_state, at_resource, holding, amount_held, cell_held, amount_of, with_holding, with_amount, with_cell}
use Rattle.pv_picks.specs.Judge.Settings.{Next}
use Rattle.pv_picks.specs.Judge.Permissions.{gain, gain_on, gain_field, add_whole}
use Rattle.pv_picks.specs.Judge.Runs.{Blocked}
use Rattle.pv_cells.specs.declared.halt.Halt.{Halt}
use Rattle.pv_cells.specs.declared.halt.Halt.TheVariants as halt
use Rattle.pv_cells.specs.declared.key.Resource.{Resource}
use Rattle.pv_cells.specs.declared.prepared.Prepared.{Prepared}
use Rattle.pv_cells.specs.declared.store.Holding.{Holding}
use Rattle.pv_cells.specs.declared.store.Learned.{Learned}
use Rattle.pv_cells.specs.Limits.{Limited, Ends, Overflows}
use Rattle.pv_cells.specs.Moves.{Moves, Stops, EndsAt, setting_of, standing}
use Rattle.pv_cells.specs.Parts.{Goes, Halts}
use Rattle.pv_cells.specs.Picks.{Picked, Unpicked}
use Rattle.pv_cells.specs.Prepared.{left}
use Rattle.pv_cells.specs.Stores.{held_of}
use Rattle.pv_cells.proofs.Stopping.{ends_alike}

-- another holding of one resource
pub standing_put : {S : Type 0} (s : State) (old new : HashMap Resource Holding S) (l : Learned) (r : states.Resource)
    (h : Option states.Holding)
    → ((q : states.Resource) → held_of new q ≡ at_resource r h (held_of old) q)
    → standing s new l ≡ with_holding (standing s old l) r h
standing_put s old new l r h e = ap (λ f. record (standing s old l) { held = f }) (fun_ext e)

pub too_much : {S : Type 0} (given : Prepared) (type : PvType) (r : states.Resource) (amount : ℕ)
    (held : HashMap Resource Holding S) (l : Learned)
    → nat_le (amount_held (held_of held r) + amount) whole ≡ false
    → Stops given (λ next. gain (setting_of given) type r amount next) held l halt.Blocked
unfolding Stops EndsAt
too_much given type r amount held l e s next =
    ap (λ b. (if b then gain_on (setting_of given) (amount_held (held_of held r)) type r amount next (standing s held l) else
    (setting_of given).blocked) (left given l)) e

-- what gaining comes to, where it isn't too much
enough : {S : Type 0} (given : Prepared) (type : PvType) (r : states.Resource) (amount there : ℕ) (next : Next Limited)
    (held : HashMap Resource Holding S) (l : Learned) (s : State)
    → nat_le (amount_held (held_of held r) + amount) whole ≡ true → there ≡ amount_held (held_of held r)
    → gain (setting_of given) type r amount next (standing s held l) (left given l)
    ≡ gain_on (setting_of given) there type r amount next (standing s held l) (left given l)
enough given type r amount there next held l s e is =
    ap (λ b. (if b then gain_on (setting_of given) (amount_held (held_of held r)) type r amount next (standing s held l) else
    (setting_of given).blocked) (left given l)) e
    ∙ ap (λ n. gain_on (setting_of given) n type r amount next (standing s held l) (left given l)) (sym is)

more_on : {S : Type 0} (given : Prepared) (type : PvType) (r : states.Resource) (amount there : ℕ) (next : Next Limited)
    (old new : HashMap Resource Holding S) (l : Learned) (s : State) (c : states.Cell) → (there ≡ 0 → ⊥)
    → c ≡ cell_held (held_of old r)
    → ((q : states.Resource) → held_of new q ≡ at_resource r (holding (there + amount) c) (held_of old) q)
    → gain_on (setting_of given) there type r amount next (standing s old l) (left given l)
    ≡ next (standing s new l) (left given l)
more_on given type r amount zero next old new l s c some is put = absurd (some refl)
more_on given type r amount (suc there) next old new l s c some is put =
    ap (λ k. next (with_holding (standing s old l) r (holding (suc there + amount) k)) (left given l)) (sym is)
    ∙ ap (λ t. next t (left given l)) (sym (standing_put s old new l r (holding (suc there + amount) c) put))

pub gained_more : {S : Type 0} (given : Prepared) (type : PvType) (r : states.Resource) (amount there : ℕ)
    (old new : HashMap Resource Holding S) (l : Learned) (c : states.Cell)
    → nat_le (amount_held (held_of old r) + amount) whole ≡ true → there ≡ amount_held (held_of old r) → (there ≡ 0 → ⊥)
    → c ≡ cell_held (held_of old r)
    → ((q : states.Resource) → held_of new q ≡ at_resource r (holding (there + amount) c) (held_of old) q)
    → Moves given (λ next. gain (setting_of given) type r amount next) old l new l
unfolding Moves
gained_more given type r amount there old new l c fits is some cell put s next =
    enough given type r amount there next old l s fits is ∙ more_on given type r amount there next old new l s c some cell put

pub gained_new : {S : Type 0} (given : Prepared) (type : PvType) (r : states.Resource) (amount : ℕ)
    (old new : HashMap Resource Holding S) (from to : Learned) (v : Value)
    → nat_le (amount_held (held_of old r) + amount) whole ≡ true → 0 ≡ amount_held (held_of old r)
    → Picked given type from v to
    → ((q : states.Resource) → held_of new q ≡ at_resource r (holding amount (states.Written v)) (held_of old) q)
    → Moves given (λ next. gain (setting_of given) type r amount next) old from new to
unfolding Moves Picked Goes
gained_new given type r amount old new from to v fits none picked put s next =
    enough given type r amount 0 next old from s fits none
    ∙ picked (record s { held = held_of old }) (λ span state picks. Ends Blocked) _
    ∙ ap (λ t. next t (left given to)) (sym (standing_put s old new to r (holding amount (states.Written v)) put))

pub unpicked : {S : Type 0} (given : Prepared) (type : PvType) (r : states.Resource) (amount : ℕ)
    (old : HashMap Resource Holding S) (from to : Learned) (h : Halt)
    → nat_le (amount_held (held_of old r) + amount) whole ≡ true → 0 ≡ amount_held (held_of old r)
    → Unpicked given type from h to
    → Stops given (λ next. gain (setting_of given) type r amount next) old from h
unfolding Stops EndsAt Unpicked Halts
unpicked given type r amount old from to (halt.Missing span) fits none k =
    let s : State = empty_state in
    let next : Value → Next Limited = λ v state picks. Ends Blocked in
    let one = k s (λ other state picks. Ends Blocked) next in
    let two = k s (λ other state picks. Overflows span) next in
    absurd (cc (sym one ∙ two))
unpicked given type r amount old from to halt.Blocked fits none k = λ s next.
    enough given type r amount 0 next old from s fits none ∙ k (record s {
      held =
          held_of old;
    }) (λ span state picks. Ends Blocked) _
unpicked given type r amount old from to (halt.Failed check span) fits none k = λ s next.
    enough given type r amount 0 next old from s fits none ∙ k (record s {
      held =
          held_of old;
    }) (λ span state picks. Ends Blocked) _
unpicked given type r amount old from to (halt.Overflow span) fits none k = λ s next.
    enough given type r amount 0 next old from s fits none ∙ k (record s {
      held =
          held_of old;
    }) (λ span state picks. Ends Blocked) _
unpicked given type r amount old from to (halt.RangeTooLong n) fits none k = λ s next.
    enough given type r amount 0 next old from s fits none ∙ k (record s {
      held =
          held_of old;
    }) (λ span state picks. Ends Blocked) _
unpicked given type r amount old from to halt.NoMemory fits none k = tt

-- Fields

pub null_is : (n : ℕ) → n ≡ 0 → nat_eq n 0 ≡ true
null_is n e = rw e refl

pub not_null : (n : ℕ) → (n ≡ 0 → ⊥) → nat_eq n 0 ≡ false
not_null n e = grind arith

-- gaining a field, by whether the object is null
by_null : (given : Prepared) (class : Name) (object : ℕ) (name : Name) (type : PvType) (amount : ℕ) (next : Next Limited)
    (s : State) (picks : List Pick) (b : Bool) → nat_eq object 0 ≡ b
    → gain_field (setting_of given) class object name type amount next s picks
    ≡ (if b then Ends Blocked else gain (setting_of given) type (InField class object name) amount next s picks)
by_null given class object name type amount next s picks true e =
    ap (λ b. (if b then (setting_of given).blocked else gain (setting_of given) type (InField class object name) amount next s)
    picks) e
by_null given class object name type amount next s picks false e =
    ap (λ b. (if b then (setting_of given).blocked else gain (setting_of given) type (InField class object name) amount next s)
    picks) e

pub at_null : {S : Type 0} (given : Prepared) (class : Name) (object : ℕ) (name : Name) (type : PvType) (amount : ℕ)
    (held : HashMap Resource Holding S) (l : Learned) → object ≡ 0
    → Stops given (λ next. gain_field (setting_of given) class object name type amount next) held l halt.Blocked
unfolding Stops EndsAt
at_null given class object name type amount held l e s next =
    by_null given class object name type amount next (standing s held l) (left given l) true (null_is object e)

pub at_object : {S : Type 0} (given : Prepared) (class : Name) (object : ℕ) (name : Name) (type : PvType) (amount : ℕ)
    (old new : HashMap Resource Holding S) (from to : Learned) → (object ≡ 0 → ⊥)
    → Moves given (λ next. gain (setting_of given) type (InField class object name) amount next) old from new to
    → Moves given (λ next. gain_field (setting_of given) class object name type amount next) old from new to
unfolding Moves
at_object given class object name type amount old new from to e h s next =
    by_null given class object name type amount next (standing s old from) (left given from) false (not_null object e) ∙ h s next

pub at_object_stops : {S : Type 0} (given : Prepared) (class : Name) (object : ℕ) (name : Name) (type : PvType) (amount : ℕ)
    (old : HashMap Resource Holding S) (from : Learned) (h : Halt) → (object ≡ 0 → ⊥)
    → Stops given (λ next. gain (setting_of given) type (InField class object name) amount next) old from h
    → Stops given (λ next. gain_field (setting_of given) class object name type amount next) old from h
unfolding Stops
at_object_stops given class object name type amount old from h e k =
    ends_alike h _ _ (λ end g s next.
    by_null given class object name type amount next (standing s old from) (left given from) false (not_null object e)
    ∙ g s next) k

-- What is held whole

pub is_there : {S : Type 0} (given : Prepared) (r : states.Resource) (held : HashMap Resource Holding S) (l : Learned)
    → (amount_held (held_of held r) ≡ 0 → ⊥)
    → Stops given (λ next. add_whole (setting_of given) r next) held l halt.Blocked
unfolding Stops EndsAt
is_there given r held l e s next =
    ap (λ b. (if b then next (with_amount (standing s held l) r whole) else (setting_of given).blocked) (left given l))
    (not_null (amount_held (held_of held r)) e)

pub added_whole : {S : Type 0} (given : Prepared) (r : states.Resource) (old new : HashMap Resource Holding S) (l : Learned)
    (c : states.Cell)
    → amount_held (held_of old r) ≡ 0 → c ≡ cell_held (held_of old r)
    → ((q : states.Resource) → held_of new q ≡ at_resource r (holding whole c) (held_of old) q)
    → Moves given (λ next. add_whole (setting_of given) r next) old l new l
unfolding Moves
added_whole given r old new l c none is put s next =
    ap (λ b. (if b then next (with_amount (standing s old l) r whole) else (setting_of given).blocked) (left given l))
    (null_is (amount_held (held_of old r)) none)
    ∙ ap (λ k. next (with_holding (standing s old l) r (holding whole k)) (left given l)) (sym is)
    ∙ ap (λ t. next t (left given l)) (sym (standing_put s old new l r (holding whole c) put))
