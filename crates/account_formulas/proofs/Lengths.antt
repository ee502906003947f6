-- Picks that the rest of a run takes, and lengths that it looks at.
use Rattle.std.proofs.Common.{◌≡◌, ℕ, zero, suc, ℤ, pos, Bool, true, false, ◌&&◌, if◌then◌else◌, Option, Some, None, List, [], ◌∷◌, refl, ap, sym, subst, ◌∙◌, rules}
use lib.IntN.{*ℤ_comm}
use Rattle.std.specs.Prelude.{nat_eq, int_le, ◌+ℤ◌}
use Rattle.std.proofs.lemmas.Int.{ints}
use Rattle.std.proofs.lemmas.Option.{same_Some}
use Rattle.pv_ast.specs.declared.PvType.{PvType}
use Rattle.pv_picks.specs.declared.evidence.Pick.{Pick}
use Rattle.pv_picks.specs.declared.evidence.Pick.TheVariants.{Number, Steps}
use Rattle.pv_picks.specs.declared.evidence.StepPair.{StepPair}
use Rattle.pv_picks.specs.Plain.Core.{Operation, Plus, Minus, Times}
use Rattle.pv_picks.specs.Formulas.Values.{arithmetic}
use Rattle.pv_ast.specs.Rules.Typing.{same_type}
use Rattle.pv_picks.specs.Formulas.Heaps.{Heap}
use Rattle.pv_picks.specs.Judge.States.{State}
use Rattle.pv_picks.specs.Judge.Settings.{Next, known_or_picked, look_at_length}
use Rattle.pv_picks.specs.Judge.Runs.{Failed, Judged, Maps, before_others, maps_from, step_value, pick_number, pick_steps, value_of_operation}
use Rattle.pv_picks.proofs.Sames.{naturals_same}
use Rattle.account_formulas.specs.Sights.{Lengths, LengthsAgree}
use Rattle.account_formulas.specs.Runs.{Taken, all_maps, truly, RestNeverFails, GoesOnTo, with_lengths}
use Rattle.account_formulas.proofs.Basics.{both, type_self, nat_self}

-- the rest of a run is another one
pub never_as : (taken : Taken) (one other : Maps → Judged)
    → ((picks : List Pick) → one (all_maps taken picks) ≡ other (all_maps taken picks))
    → RestNeverFails taken one → RestNeverFails taken other
never_as taken one other same n = record {
  never = λ picks check span bad. n.never picks check span (ap (λ r. r picks) (same picks) ∙ bad);
}

-- A number that is picked leaves the maps as they are.

number_passed : (n : ℕ) (maps : Maps) (z : ℤ) (picks : List Pick) → maps_from n maps (Number z ∷ picks) ≡ maps_from n maps picks
number_passed zero maps z picks = refl
number_passed (suc n) maps z picks = ap (before_others (maps zero)) (number_passed n (λ k. maps (suc k)) z picks)

pub never_number : (taken : Taken) (rest : Maps → ℤ → Judged) (z : ℤ) → RestNeverFails taken (λ maps. pick_number (rest maps))
    → RestNeverFails taken (λ maps. rest maps z)
never_number taken rest z n = record {
  never = λ picks check span bad. n.never (Number z ∷ picks) check span
      (subst (λ m. rest m z picks ≡ Failed check span) (sym (number_passed taken.steps taken.maps z picks)) bad);
}

-- A pick for a range is the next one.

abbrev pub with_steps : ℕ → (ℤ → ℤ) → Maps → Maps
with_steps zero m maps = before_others m maps
with_steps (suc n) m maps = before_others (maps zero) (with_steps n m (λ k. maps (suc k)))

steps_passed : (n : ℕ) (maps : Maps) (pairs : List StepPair) (picks : List Pick)
    → maps_from (suc n) (with_steps n (step_value pairs) maps) picks ≡ maps_from n maps (Steps pairs ∷ picks)
steps_passed zero maps pairs picks = refl
steps_passed (suc n) maps pairs picks = ap (before_others (maps zero)) (steps_passed n (λ k. maps (suc k)) pairs picks)

its_map : (n : ℕ) (m : ℤ → ℤ) (maps : Maps) (picks : List Pick) → maps_from (suc n) (with_steps n m maps) picks n ≡ m
its_map zero m maps picks = refl
its_map (suc n) m maps picks = its_map n m (λ k. maps (suc k)) picks

abbrev pub after_steps : Taken → List StepPair → Taken
after_steps taken pairs = record { steps = suc taken.steps; maps = with_steps taken.steps (step_value pairs) taken.maps }

pub newest_map : (taken : Taken) (pairs : List StepPair) (picks : List Pick)
    → all_maps (after_steps taken pairs) picks taken.steps ≡ step_value pairs
newest_map taken pairs picks = its_map taken.steps (step_value pairs) taken.maps picks

pub goes_on_after : (taken : Taken) (pairs : List StepPair) → GoesOnTo taken (after_steps taken pairs)
goes_on_after taken pairs picks = (Steps pairs ∷ picks, steps_passed taken.steps taken.maps pairs picks)

pub never_steps : (taken : Taken) (rest : Maps → Judged) (pairs : List StepPair)
    → RestNeverFails taken (λ maps. pick_steps (rest maps)) → RestNeverFails (after_steps taken pairs) rest
never_steps taken rest pairs n = record {
  never = λ picks check span bad. n.never (Steps pairs ∷ picks) check span
      (subst (λ m. rest m picks ≡ Failed check span) (steps_passed taken.steps taken.maps pairs picks) bad);
}

pub goes_on_same : (taken : Taken) → GoesOnTo taken taken
goes_on_same taken picks = (picks, refl)

pub goes_on_then : (a b c : Taken) → GoesOnTo a b → GoesOnTo b c → GoesOnTo a c
goes_on_then a b c f g picks = let two = g picks in let one = f two.0 in (one.0, two.1 ∙ one.1)

-- The empty table

plus_commutes : (a b : ℤ) → b +ℤ a ≡ a +ℤ b
plus_commutes a b = search (rules, ints)

pub empty_table : (o : Operation) (a b : ℤ) → value_of_operation [] o a b ≡ arithmetic o a b
empty_table Minus a b = refl
empty_table Plus a b = either (int_le a b)
  where
    either : (t : Bool) → (if t then arithmetic Plus a b else arithmetic Plus b a) ≡ arithmetic Plus a b
    either true = refl
    either false = plus_commutes a b
empty_table Times a b = either (int_le a b)
  where
    either : (t : Bool) → (if t then arithmetic Times a b else arithmetic Times b a) ≡ arithmetic Times a b
    either true = refl
    either false = *ℤ_comm b a

-- Lengths

-- the lengths, with one more
abbrev pub more_lengths : Lengths → PvType → ℕ → ℤ → Lengths
more_lengths l type array n t a = if same_type t type && nat_eq a array then Some n else l t a

pub more_agree : (present : Heap) (l : Lengths) (type : PvType) (array : ℕ) (n : ℤ) → LengthsAgree present l
    → present.length array ≡ Some n
    → LengthsAgree present (more_lengths l type array n)
more_agree present l type array n agree at t a m h = go (same_type t type) (nat_eq a array) refl h
  where
    go : (b c : Bool) → nat_eq a array ≡ c → (if b && c then Some n else l t a) ≡ Some m → present.length a ≡ Some m
    go true true e h = let same : a ≡ array = naturals_same a array e in cc (same, at, h)
    go true false e h = agree t a m h
    go false c e h = agree t a m h

-- lengths that are known stay so
abbrev pub Higher : Heap → Lengths → Lengths → Type 0
Higher present l m = LengthsAgree present m × ((t : PvType) (a : ℕ) (n : ℤ) → l t a ≡ Some n → m t a ≡ Some n)

pub more_above : (present : Heap) (b l : Lengths) (type : PvType) (array : ℕ) (n : ℤ) → Higher present b l → present.length array
    ≡ Some n → Higher present b (more_lengths l type array n)
more_above present b l type array n above at = (
  more_agree present l type array n above.0 at,
  λ t a m is. go t a m
      (same_type t type) (nat_eq a array) refl (above.1 t a m is),
)
  where
    go : (t : PvType) (a : ℕ) (m : ℤ) (x y : Bool) → nat_eq a array ≡ y → l t a ≡ Some m → (if x && y then Some n else l t a)
        ≡ Some m
    go t a m true true e is = let same : a ≡ array = naturals_same a array e in
        let one =
        above.0 t a m is in let two : present.length a ≡ Some n =
        subst (λ k. present.length k ≡ Some n) (sym same) at in sym two ∙ one
    go t a m true false e is = is
    go t a m false y e is = is

-- a length that is looked at is that of the heap; Q is kept
pub length_looked_by : (taken : Taken) (present : Heap) (Q : Lengths → Type 0) (s : State) (type : PvType) (array : ℕ)
    → ((l : Lengths) → Q l → LengthsAgree present l)
    → ((l : Lengths) (n : ℤ) → Q l → present.length array ≡ Some n → l type array ≡ None → Q (more_lengths l type array n))
    → (k : Maps → ℤ → Next Judged) (G : Type 0) (n : ℤ) → present.length array ≡ Some n → int_le (pos 0) n ≡ true
    → ((l : Lengths) → Q l → l type array ≡ Some n → RestNeverFails taken (λ maps. k maps n (with_lengths s l)) → G)
    → (l : Lengths) → Q l → RestNeverFails taken (λ maps. look_at_length (truly maps) type array (k maps) (with_lengths s l)) → G
length_looked_by taken present Q s type array agrees more k G n at natural found l q never = go (l type array) refl never
  where
    here : (if same_type type type && nat_eq array array then Some n else l type array) ≡ Some n
    here =
        ap (λ b. if b then Some n else l type array) (both (same_type type type) (nat_eq array array) (type_self type)
        (nat_self array))

    go : (o : Option ℤ) → l type array ≡ o → RestNeverFails taken (λ maps. known_or_picked (truly maps) o type array (k maps)
        (with_lengths s l)) → G
    go (Some z) is m =
        let same : z ≡ n = same_Some z n (sym (agrees l q type array z is) ∙ at) in
        found l q (is ∙ ap Some same) (subst (λ y. RestNeverFails taken (λ maps. k maps y (with_lengths s l))) same m)
    go None is m =
        let picked : RestNeverFails taken (λ maps. if int_le (pos 0) n then k maps n
        (with_lengths s (more_lengths l type array n)) else (truly maps).blocked) =
        never_number taken (λ maps z. if int_le (pos 0) z then k maps z (with_lengths s (more_lengths l type array z)) else
        (truly maps).blocked) n m in
        found (more_lengths l type array n) (more l n q at is) here
        (subst (λ b. RestNeverFails taken (λ maps. if b then k maps n (with_lengths s (more_lengths l type array n)) else
        (truly maps).blocked)) natural picked)

pub length_looked : (taken : Taken) (present : Heap) (s : State) (type : PvType) (array : ℕ) (k : Maps → ℤ → Next Judged)
    (G : Type 0) (n : ℤ)
    → present.length array ≡ Some n → int_le (pos 0) n ≡ true
    → ((l : Lengths) → LengthsAgree present l → RestNeverFails taken (λ maps. k maps n (with_lengths s l)) → G)
    → (l : Lengths) → LengthsAgree present l → RestNeverFails taken (λ maps. look_at_length (truly maps) type array (k maps)
    (with_lengths s l)) → G
length_looked taken present s type array k G n at natural found l agree never =
    length_looked_by taken present (LengthsAgree present) s type array (λ l q. q)
    (λ l n q at is. more_agree present l type array n q at) k G n at natural
    (λ l q is n. found l q n) l agree never
