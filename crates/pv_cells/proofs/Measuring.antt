-- Lengths of arrays that are known, or picked.
use Rattle.std.proofs.Common.{◌≡◌, ℕ, ℤ, pos, true, false, ◌&&◌, if◌then◌else◌, Option, None, Some, sym, ap, ◌∙◌, drop, cond}
use Rattle.std.specs.Prelude.{int_le, nat_eq}
use Rattle.std.proofs.Math.Path.{fun_ext}
use Rattle.std.specs.HashMap.{HashMap, get}
use Rattle.pv_cells.specs.declared.key.ArrayKey.{ArrayKey}
use Rattle.pv_ast.specs.declared.PvType.{PvType}
use Rattle.pv_ast.specs.Rules.Typing.{same_type}
use Rattle.pv_picks.specs.Judge.States.{State, with_length}
use Rattle.pv_picks.specs.Judge.Settings.{known_or_picked}
use Rattle.pv_cells.specs.declared.halt.Halt.{Halt}
use Rattle.pv_cells.specs.declared.halt.Halt.TheVariants as halt
use Rattle.pv_cells.specs.declared.prepared.Prepared.{Prepared}
use Rattle.pv_cells.specs.declared.store.Learned.{Learned}
use Rattle.pv_cells.specs.Keys.{is_array, array_key}
use Rattle.pv_cells.specs.Limits.{limiting}
use Rattle.pv_cells.specs.Parts.{Goes, Halts}
use Rattle.pv_cells.specs.Picks.{IsNumber, NoNumber}
use Rattle.pv_cells.specs.Prepared.{maps_of, table_of, left}
use Rattle.pv_cells.specs.Stores.{with_learned, lengths_of, met_of}
use Rattle.pv_cells.specs.Values.{Measured, Unmeasured}
use Rattle.pv_cells.proofs.Keys.{arrays_same}

-- one more length
pub learned_length : (s : State) (old new : Learned) (type : PvType) (array : ℕ) (z : ℤ)
    → ((t : PvType) (a : ℕ) → lengths_of new.lengths t a
    ≡ (if same_type t type && nat_eq a array then Some z else lengths_of old.lengths t a))
    → new.met ≡ old.met → new.steps ≡ old.steps
    → with_learned s new ≡ with_length (with_learned s old) type array z
learned_length s old new type array z h m e =
    let more : PvType → ℕ → Option ℤ = λ t a. if same_type t type && nat_eq a array then Some z else lengths_of old.lengths t a in
    ap (λ f. record s { lengths = f; met = met_of new.met.items; steps = new.steps }) (fun_ext (λ t. fun_ext (λ a. h t a)))
    ∙ ap (λ v. record s { lengths = more; met = met_of v.items; steps = new.steps }) m
    ∙ ap (λ n. record s { lengths = more; met = met_of old.met.items; steps = n }) e

pub known_length : (given : Prepared) (type : PvType) (array : ℕ) (l : Learned) (n : ℤ)
    → lengths_of l.lengths type array ≡ Some n → Measured given type array l n l
unfolding Measured Goes
known_length given type array l n e s missing next =
    ap (λ k. known_or_picked (limiting (maps_of given) (table_of given)) k type array next (with_learned s l) (left given l)) e

pub picked_length : (given : Prepared) (type : PvType) (array : ℕ) (old mid new : Learned) (z : ℤ)
    → lengths_of old.lengths type array ≡ None → IsNumber (left given old) z (left given mid) → int_le (pos 0) z ≡ true
    → ((t : PvType) (a : ℕ) → lengths_of new.lengths t a
    ≡ (if same_type t type && nat_eq a array then Some z else lengths_of old.lengths t a))
    → new.met ≡ old.met → new.steps ≡ old.steps → new.used ≡ mid.used → Measured given type array old z new
unfolding Measured Goes IsNumber
picked_length given type array old mid new z e p b h m st u s missing next =
    let setting = limiting (maps_of given) (table_of given) in
    let from : State = with_learned s old in
    ap (λ k. known_or_picked setting k type array next from (left given old)) e
    ∙ p _
    ∙ ap (λ c. (if c then next z (with_length from type array z) else setting.blocked) (left given mid)) b
    ∙ ap (λ t. next z t (left given mid)) (sym (learned_length s old new type array z h m st))
    ∙ ap (λ n. next z (with_learned s new) (drop n given.evidence.now.picks)) (sym u)

pub negative_length : (given : Prepared) (type : PvType) (array : ℕ) (old mid : Learned) (z : ℤ)
    → lengths_of old.lengths type array ≡ None → IsNumber (left given old) z (left given mid) → int_le (pos 0) z ≡ false
    → Unmeasured given type array old halt.Blocked mid
unfolding Unmeasured Halts IsNumber
negative_length given type array old mid z e p b s missing next =
    let setting = limiting (maps_of given) (table_of given) in
    let from : State = with_learned s old in
    ap (λ k. known_or_picked setting k type array next from (left given old)) e
    ∙ p _
    ∙ ap (λ c. (if c then next z (with_length from type array z) else setting.blocked) (left given mid)) b

pub no_length : (given : Prepared) (type : PvType) (array : ℕ) (old mid : Learned) (h : Halt) → h ≡ halt.Blocked
    → lengths_of old.lengths type array ≡ None → NoNumber (left given old)
    → Unmeasured given type array old h mid
unfolding Unmeasured Halts NoNumber
no_length given type array old mid (halt.Missing span) b e p s = absurd (cc b)
no_length given type array old mid (halt.Failed check span) b e p s = absurd (cc b)
no_length given type array old mid (halt.Overflow span) b e p s = absurd (cc b)
no_length given type array old mid (halt.RangeTooLong n) b e p s = absurd (cc b)
no_length given type array old mid halt.NoMemory b e p s = absurd (cc b)
no_length given type array old mid halt.Blocked b e p s =
    λ missing next.
    let setting = limiting (maps_of given) (table_of given) in
    ap (λ k. known_or_picked setting k type array next (with_learned s old) (left given old)) e ∙ p _

pub no_room : (given : Prepared) (type : PvType) (array : ℕ) (old mid : Learned) (h : Halt) → h ≡ halt.NoMemory
    → Unmeasured given type array old h mid
unfolding Unmeasured Halts
no_room given type array old mid halt.NoMemory b = λ s. tt
no_room given type array old mid (halt.Missing span) b = absurd (cc b)
no_room given type array old mid (halt.Failed check span) b = absurd (cc b)
no_room given type array old mid (halt.Overflow span) b = absurd (cc b)
no_room given type array old mid (halt.RangeTooLong n) b = absurd (cc b)
no_room given type array old mid halt.Blocked b = absurd (cc b)

-- a map with one more length
pub more_lengths : {S : Type 0} (old mid new : HashMap ArrayKey ℤ S) (type : PvType) (array : ℕ) (z w : ℤ) (t : PvType) (a : ℕ)
    → mid ≡ old → w ≡ z
    → get is_array new (array_key t a) ≡ cond (is_array (array_key type array) (array_key t a)) (Some w)
    (get is_array mid (array_key t a))
    → lengths_of new t a ≡ (if same_type t type && nat_eq a array then Some z else lengths_of old t a)
more_lengths old mid new type array z w t a same is h =
    h
    ∙ ap (λ b. cond b (Some w) (get is_array mid (array_key t a))) (arrays_same type array t a)
    ∙ ap (λ v. cond (same_type t type && nat_eq a array) (Some v) (get is_array mid (array_key t a))) is
    ∙ ap (λ m. cond (same_type t type && nat_eq a array) (Some z) (get is_array m (array_key t a))) same
