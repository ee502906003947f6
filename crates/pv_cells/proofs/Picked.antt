-- Values that are picked.
use Rattle.std.proofs.Common.{◌≡◌, ℕ, ℤ, pos, negsuc, true, false, List, [], ◌∷◌, ◌++◌, refl, sym, ap, ◌∙◌, arith, drop}
use Rattle.std.specs.Prelude.{int_le}
use Rattle.pv_ast.specs.declared.PvType.{PvType}
use Rattle.pv_ast.specs.declared.PvType.TheVariants.{Int, Truth, Object, IntArray, TruthArray, Null}
use Rattle.pv_values.specs.declared.value.Value.{Value}
use Rattle.pv_values.specs.declared.value.Value.TheVariants as value
use Rattle.pv_picks.specs.declared.evidence.Pick.{Pick}
use Rattle.pv_picks.specs.Judge.Runs.{Blocked}
use Rattle.pv_picks.specs.Judge.States.{State, with_met}
use Rattle.pv_picks.specs.Judge.Settings.{Next, met_as, pick_value}
use Rattle.pv_cells.specs.declared.halt.Halt.{Halt}
use Rattle.pv_cells.specs.declared.halt.Halt.TheVariants as halt
use Rattle.pv_cells.specs.declared.prepared.Prepared.{Prepared}
use Rattle.pv_cells.specs.declared.store.Learned.{Learned}
use Rattle.pv_cells.specs.declared.store.Met.{Met}
use Rattle.pv_cells.specs.Limits.{Limited, Ends, limiting, pick_number}
use Rattle.pv_cells.specs.Parts.{Goes, Halts}
use Rattle.pv_cells.specs.Picks.{IsNumber, NoNumber, Picked, Unpicked, refers}
use Rattle.pv_cells.specs.Prepared.{maps_of, table_of, left}
use Rattle.pv_cells.specs.Stores.{with_learned, lengths_of, met_of}

-- what is learned is the same but for how many picks were used
pub same_learned : (s : State) (old new : Learned) → new.lengths ≡ old.lengths → new.met ≡ old.met → new.steps ≡ old.steps
    → with_learned s new ≡ with_learned s old
same_learned s old new l m e =
    ap (λ f. record s { lengths = lengths_of f; met = met_of new.met.items; steps = new.steps }) l
    ∙ ap (λ v. record s { lengths = lengths_of old.lengths; met = met_of v.items; steps = new.steps }) m
    ∙ ap (λ n. record s { lengths = lengths_of old.lengths; met = met_of old.met.items; steps = n }) e

pub number_picked : (given : Prepared) (old new : Learned) (z : ℤ) → IsNumber (left given old) z (left given new)
    → new.lengths ≡ old.lengths → new.met ≡ old.met → new.steps ≡ old.steps
    → Picked given Int old (value.Number z) new
unfolding Picked Goes IsNumber
number_picked given old new z p l m e s missing next =
    p (λ w. next (value.Number w) (with_learned s old))
    ∙ ap (λ t. next (value.Number z) t (left given new)) (sym (same_learned s old new l m e))

pub truth_picked : (given : Prepared) (old new : Learned) (z : ℤ) → IsNumber (left given old) z (left given new)
    → new.lengths ≡ old.lengths → new.met ≡ old.met → new.steps ≡ old.steps
    → Picked given Truth old (value.Truth (int_le (pos 1) z)) new
unfolding Picked Goes IsNumber
truth_picked given old new z p l m e s missing next =
    p (λ w. next (value.Truth (int_le (pos 1) w)) (with_learned s old))
    ∙ ap (λ t. next (value.Truth (int_le (pos 1) z)) t (left given new)) (sym (same_learned s old new l m e))

-- a pick of a reference is a number that is met
picks_reference : (given : Prepared) (type : PvType) (next : Value → Next Limited) (s : State) (picks : List Pick)
    → refers type ≡ true
    → pick_value (limiting (maps_of given) (table_of given)) type next s picks
    ≡ pick_number (λ z. met_as (limiting (maps_of given) (table_of given)) type z next s) picks
picks_reference given Int next s picks r = absurd (cc r)
picks_reference given Truth next s picks r = absurd (cc r)
picks_reference given (Object class) next s picks r = refl
picks_reference given IntArray next s picks r = refl
picks_reference given TruthArray next s picks r = refl
picks_reference given Null next s picks r = absurd (cc r)

no_pick : (given : Prepared) (type : PvType) (next : Value → Next Limited) (s : State) (picks : List Pick) → NoNumber picks
    → pick_value (limiting (maps_of given) (table_of given)) type next s picks ≡ Ends Blocked
unfolding NoNumber
no_pick given Int next s picks p = p _
no_pick given Truth next s picks p = p _
no_pick given (Object class) next s picks p = p _
no_pick given IntArray next s picks p = p _
no_pick given TruthArray next s picks p = p _
no_pick given Null next s picks p = refl

pub none_picked : (given : Prepared) (type : PvType) (old new : Learned) (h : Halt) → h ≡ halt.Blocked
    → NoNumber (left given old)
    → Unpicked given type old h new
unfolding Unpicked Halts
none_picked given type old new h is p =
    rw is (λ s missing next. no_pick given type next (with_learned s old) (left given old) p)

pub null_picked : (given : Prepared) (old new : Learned) → Unpicked given Null old halt.Blocked new
unfolding Unpicked Halts
null_picked given old new s missing next = refl

pub no_memory : (given : Prepared) (type : PvType) (old new : Learned) (h : Halt) → h ≡ halt.NoMemory
    → Unpicked given type old h new
unfolding Unpicked Halts
no_memory given type old new h is = rw is (λ s. tt)

met_more : (ms : List Met) (m : Met) → met_of (ms ++ m ∷ []) ≡ (m.kind, m.reference) ∷ met_of ms
met_more [] m = refl
met_more (x ∷ xs) m = ap (λ l. l ++ (x.kind, x.reference) ∷ []) (met_more xs m)

-- one reference more is met
pub learned_met : (s : State) (old new : Learned) (type : PvType) (n : ℕ) → new.lengths ≡ old.lengths
    → met_of new.met.items ≡ (type, n) ∷ met_of old.met.items → new.steps ≡ old.steps
    → with_learned s new ≡ with_met (with_learned s old) type n
learned_met s old new type n l m e =
    ap (λ f. record s { lengths = lengths_of f; met = met_of new.met.items; steps = new.steps }) l
    ∙ ap (λ v. record s { lengths = lengths_of old.lengths; met = v; steps = new.steps }) m
    ∙ ap (λ k. record s { lengths = lengths_of old.lengths; met = (type, n) ∷ met_of old.met.items; steps = k }) e

pub reference_picked : (given : Prepared) (type : PvType) (old mid new : Learned) (z : ℤ) (n : ℕ) → refers type ≡ true
    → IsNumber (left given old) z (left given mid) → z ≡ pos n → new.used ≡ mid.used → new.lengths ≡ old.lengths
    → new.met.items ≡ old.met.items ++ (record { kind = type; reference = n }) ∷ [] → new.steps ≡ old.steps
    → Picked given type old (value.Reference n) new
unfolding Picked Goes IsNumber
reference_picked given type old mid new z n r p is u l m e s missing next =
    let from : State = with_learned s old in
    picks_reference given type next from (left given old) r
    ∙ p _
    ∙ ap (λ k. met_as (limiting (maps_of given) (table_of given)) type k next from (left given mid)) is
    ∙ ap (λ t. next (value.Reference n) t (left given mid))
    (sym (learned_met s old new type n l (ap met_of m ∙ met_more old.met.items (record { kind = type; reference = n })) e))
    ∙ ap (λ k. next (value.Reference n) (with_learned s new) (drop k given.evidence.now.picks)) (sym u)

unfit : (given : Prepared) (type : PvType) (z : ℤ) (next : Value → Next Limited) (s : State) (picks : List Pick)
    → int_le (pos 0) z ≡ false
    → met_as (limiting (maps_of given) (table_of given)) type z next s picks ≡ Ends Blocked
unfit given type (pos n) next s picks b = absurd (grind arith)
unfit given type (negsuc n) next s picks b = refl

pub negative_picked : (given : Prepared) (type : PvType) (old mid new : Learned) (z : ℤ) → refers type ≡ true
    → IsNumber (left given old) z (left given mid) → int_le (pos 0) z ≡ false
    → Unpicked given type old halt.Blocked new
unfolding Unpicked Halts IsNumber
negative_picked given type old mid new z r p b s missing next =
    picks_reference given type next (with_learned s old) (left given old) r
    ∙ p _
    ∙ unfit given type z next (with_learned s old) (left given mid) b
