-- No evidence makes the judge fail on the method that speaks of the old length of a new array, and its return goes.
use Rattle.std.proofs.Common.{◌≡◌, ℕ, zero, suc, pos, negsuc, Bool, true, false, not, if◌then◌else◌, Some, List, [], ◌∷◌, refl, sym, subst, inl, arith, rules}
use Rattle.std.specs.Prelude.{IsSome, nat_eq, int_le, nat_lt}
use Rattle.pv_base.specs.declared.Name.{Name}
use Rattle.pv_base.specs.declared.Span.{Span}
use Rattle.pv_values.specs.declared.value.Value.{Value}
use Rattle.pv_values.specs.declared.value.Location.TheVariants.{Field}
use Rattle.pv_values.specs.Heaps.{same_number, value_at, class_of}
use Rattle.pv_values.specs.Typing.{is_number, HoldsOnly, HasKindOf}
use Rattle.pv_picks.specs.declared.check.Check.{Check}
use Rattle.pv_picks.specs.declared.evidence.Pick.{Pick}
use Rattle.pv_picks.specs.declared.evidence.Pick.TheVariants.{Number, Turn, Steps}
use Rattle.pv_picks.specs.Machine.Starts.{IsStart, field_kind}
use Rattle.pv_picks.specs.Machine.Worlds.{Free}
use Rattle.pv_picks.specs.Machine.Steps.{act}
use Rattle.pv_picks.specs.Machine.Safety.{world_after}
use Rattle.pv_picks.specs.Judge.Runs.{Judged, End, Finished, Blocked, Failed, judge}
use Rattle.pv_picks.specs.Verdicts.Grounds.{NeverFails}
use Rattle.worked_programs.specs.Nodes.{name}
use Rattle.worked_judgements.specs.OldLengths.{program, unit, start, at_its_end, Returns, OldLengths}

nat_self : (n : ℕ) → nat_eq n n ≡ true
nat_self n = search (rules)

-- The machine

at_class : (P : Name → Type 0) (mine : Name) (class : Name) → Some mine ≡ Some class → P mine → P class
at_class P mine class h t = let e : mine ≡ class = cc in subst P e t

fields_typed : (object : ℕ) (class field : Name) (given : Value)
    → class_of start.heap object ≡ Some class → value_at start.heap (Field object field) ≡ Some given
    → HasKindOf start.heap (field_kind program class field) given
fields_typed zero class field given hc hv = absurd (cc)
fields_typed (suc zero) class field given hc hv = absurd (cc)
fields_typed (suc (suc n)) class field given hc hv = absurd (cc)

no_elements : (array : ℕ) → HoldsOnly is_number start.heap array
no_elements zero index given h = absurd (cc)
no_elements (suc zero) index given h = absurd (cc)
no_elements (suc (suc n)) index given h = absurd (cc)

complete : (object : ℕ) (class field : Name)
    → class_of start.heap object ≡ Some class → IsSome (field_kind program class field)
    → IsSome (value_at start.heap (Field object field))
complete zero class field hc hk = absurd (cc)
complete (suc zero) class field hc hk =
    let k : IsSome (field_kind program (name 0) field) =
    at_class (λ (k : Name). IsSome (field_kind program k field)) class (name 0) (sym hc) hk in
    absurd (cc)
complete (suc (suc n)) class field hc hk = absurd (cc)

start_is_one : IsStart program start
start_is_one = record {
  typed = record { fields = fields_typed; elements = λ array. inl (no_elements array); complete = complete };
  object = refl;
  name = name 1;
  declared = refl;
  arguments = tt;
  plain = refl;
  met = refl;
  fit = λ spot. omega arith;
}

returns : Returns
returns = (world_after at_its_end (act program at_its_end Free 0), refl)

-- No evidence makes the judge fail

abbrev Good : End → Type 0
Good e = (check : Check) (span : Span) → e ≡ Failed check span → ⊥

ends : Good Blocked
ends check span h = absurd (cc h)

tested : (b : Bool) (x y : Judged) (picks : List Pick) → (b ≡ true → Good (x picks)) → (b ≡ false → Good (y picks))
    → Good ((if b then x else y) picks)
tested true x y picks f g = f refl
tested false x y picks f g = g refl

tested_end : (b : Bool) (x y : End) → (b ≡ true → Good x) → (b ≡ false → Good y) → Good (if b then x else y)
tested_end true x y f g = f refl
tested_end false x y f g = g refl

not_both : (b : Bool) → not b ≡ false → b ≡ false → (e : End) → Good e
not_both true h k e = absurd (cc k)
not_both false h k e = absurd (cc h)

both_ways : (b : Bool) → b ≡ true → b ≡ false → (e : End) → Good e
both_ways true h k e = absurd (cc k)
both_ways false h k e = absurd (cc h)

not_either : (b : Bool) → not b ≡ true → b ≡ true → (e : End) → Good e
not_either true h k e = absurd (cc h)
not_either false h k e = absurd (cc k)

finished : Good Finished
finished check span h = absurd (cc h)

never : NeverFails program unit
never evidence = go evidence.picks
  where
    go : (picks : List Pick) → Good (judge program unit (record { picks = picks; table = evidence.table }))
    go [] = ends
    go (Turn n ∷ picks) = ends
    go (Steps m ∷ picks) = ends
    go (Number (negsuc n) ∷ picks) = ends
    go (Number (pos n) ∷ []) = tested (nat_eq n 0) _ _ _ (λ e. ends) (λ e. ends)
    go (Number (pos n) ∷ Number z ∷ picks) = tested (nat_eq n 0) _ _ _ (λ e. ends) (λ e. ends)
    go (Number (pos n) ∷ Steps m ∷ picks) = tested (nat_eq n 0) _ _ _ (λ e. ends) (λ e. ends)
    go (Number (pos n) ∷ Turn zero ∷ []) = tested (nat_eq n 0) _ _ _ (λ e. ends) (λ e. ends)
    go (Number (pos n) ∷ Turn zero ∷ Turn m ∷ picks) = tested (nat_eq n 0) _ _ _ (λ e. ends) (λ e. ends)
    go (Number (pos n) ∷ Turn zero ∷ Steps m ∷ picks) = tested (nat_eq n 0) _ _ _ (λ e. ends) (λ e. ends)
    go (Number (pos n) ∷ Turn zero ∷ Number (negsuc k) ∷ picks) = tested (nat_eq n 0) _ _ _ (λ e. ends) (λ e. ends)
    go (Number (pos n) ∷ Turn zero ∷ Number (pos k) ∷ picks) = tested (nat_eq n 0) _ _ _ (λ e. ends)
        (λ e. tested (nat_eq k 0) _ _ _ (λ f. ends)
        (λ f. tested (not (nat_eq k 0)) _ _ _
        (λ g. tested (nat_eq k 0) _ _ _ (λ g. both_ways (nat_eq k 0) g f _) (λ g. rw (nat_self k) finished))
        (λ g. not_both (nat_eq k 0) g f _)))
    go (Number (pos n) ∷ Turn (suc zero) ∷ []) = tested (nat_eq n 0) _ _ _ (λ e. ends) (λ e. ends)
    go (Number (pos n) ∷ Turn (suc zero) ∷ Turn m ∷ picks) = tested (nat_eq n 0) _ _ _ (λ e. ends) (λ e. ends)
    go (Number (pos n) ∷ Turn (suc zero) ∷ Steps m ∷ picks) = tested (nat_eq n 0) _ _ _ (λ e. ends) (λ e. ends)
    go (Number (pos n) ∷ Turn (suc zero) ∷ Number (negsuc k) ∷ picks) = tested (nat_eq n 0) _ _ _ (λ e. ends) (λ e. ends)
    go (Number (pos n) ∷ Turn (suc zero) ∷ Number (pos k) ∷ []) = tested (nat_eq n 0) _ _ _ (λ e. ends)
        (λ e. tested (not (nat_eq k 0)) _ _ _
        (λ g. tested (nat_eq k 0) _ _ _ (λ f. not_either (nat_eq k 0) g f _) (λ f. ends)) (λ g. ends))
    go (Number (pos n) ∷ Turn (suc zero) ∷ Number (pos k) ∷ Turn m ∷ picks) = tested (nat_eq n 0) _ _ _ (λ e. ends)
        (λ e. tested (not (nat_eq k 0)) _ _ _
        (λ g. tested (nat_eq k 0) _ _ _ (λ f. not_either (nat_eq k 0) g f _) (λ f. ends)) (λ g. ends))
    go (Number (pos n) ∷ Turn (suc zero) ∷ Number (pos k) ∷ Steps m ∷ picks) = tested (nat_eq n 0) _ _ _ (λ e. ends)
        (λ e. tested (not (nat_eq k 0)) _ _ _
        (λ g. tested (nat_eq k 0) _ _ _ (λ f. not_either (nat_eq k 0) g f _) (λ f. ends)) (λ g. ends))
    go (Number (pos n) ∷ Turn (suc zero) ∷ Number (pos k) ∷ Number z ∷ picks) = tested (nat_eq n 0) _ _ _ (λ e. ends)
        (λ e. tested (not (nat_eq k 0)) _ _ _
        (λ g. tested (nat_eq k 0) _ _ _ (λ f. not_either (nat_eq k 0) g f _)
        (λ f. tested (int_le (pos 0) z) _ _ _
        (λ h. tested (same_number z (pos 3)) _ _ _ (λ i. finished) (λ i. ends)) (λ h. ends)))
        (λ g. ends))
    go (Number (pos n) ∷ Turn (suc (suc m)) ∷ picks) =
        tested (nat_eq n 0) _ _ _ (λ e. ends) (λ e. tested_end (nat_lt (suc (suc m)) 3) _ _ (λ f. ends) (λ f. ends))

pub old_lengths : OldLengths
old_lengths = (never, start_is_one, returns)
