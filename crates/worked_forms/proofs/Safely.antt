-- How a run of the judge is followed on any picks: what it comes to where it goes on never fails.
use Rattle.std.proofs.Common.{◌≡◌, ℕ, zero, suc, ℤ, pos, negsuc, Bool, true, false, if◌then◌else◌, List, [], ◌∷◌, refl, sym, subst, rules}
use Rattle.std.proofs.lemmas.Int.{ints}
use Rattle.std.specs.Prelude.{nat_eq, nat_lt}
use Rattle.std.specs.List.{AllByRecursion}
use Rattle.pv_values.specs.Heaps.{same_number}
use Rattle.pv_base.specs.declared.Span.{Span}
use Rattle.pv_picks.specs.declared.check.Check.{Check}
use Rattle.pv_picks.specs.declared.evidence.Pick.{Pick}
use Rattle.pv_picks.specs.declared.evidence.Pick.TheVariants.{Number, Turn, Steps}
use Rattle.pv_ast.specs.declared.Program.{Program}
use Rattle.pv_picks.specs.Plain.Core as core
use Rattle.pv_picks.specs.Elaborating.Programs.{core_of}
use Rattle.pv_picks.specs.Verdicts.Grounds.{NeverFails}
use Rattle.pv_picks.specs.Verdicts.Theorems.{IsVerified}
use Rattle.pv_picks.specs.Verdicts.Units.{units_of}
use Rattle.pv_picks.specs.Judge.UnitRuns.{judge_task, task_of}
use Rattle.pv_picks.specs.declared.evidence.Entry.{Entry}
use Rattle.pv_picks.specs.declared.unit.PvUnit.{PvUnit}
use Rattle.pv_picks.specs.Judge.Runs.{Maps, maps_of, judging, Judged, End, Finished, Blocked, Failed, pick_number, pick_turn}

abbrev pub Ends : End → Type 0
Ends e = (check : Check) (span : Span) → e ≡ Failed check span → ⊥

-- on no picks it fails
abbrev pub Safe : Judged → Type 0
Safe run = (picks : List Pick) → Ends (run picks)

pub blocks : (picks : List Pick) → Ends Blocked
blocks picks check span h = absurd (cc h)

pub finishes : (picks : List Pick) → Ends Finished
finishes picks check span h = absurd (cc h)

-- a number is picked
pub picked : {next : ℤ → Judged} → ((z : ℤ) → Safe (next z)) → Safe (pick_number next)
picked h [] = blocks []
picked h (Number z ∷ picks) = h z picks
picked h (Turn n ∷ picks) = blocks []
picked h (Steps m ∷ picks) = blocks []

-- a reference is picked
pub signed : (P : ℤ → Judged) → ((n : ℕ) → Safe (P (negsuc n))) → ((n : ℕ) → Safe (P (pos n))) → (z : ℤ) → Safe (P z)
signed P k h (pos n) = h n
signed P k h (negsuc n) = k n

pub tested : (b : Bool) (x y : Judged) → (b ≡ true → Safe x) → (b ≡ false → Safe y) → Safe (if b then x else y)
tested true x y h k = h refl
tested false x y h k = k refl

pub goes : (b : Bool) (x y : Judged) → (b ≡ false → Safe y) → (b ≡ true → Safe x) → Safe (if b then x else y)
goes b x y k h = tested b x y h k

-- a test that is known to pass, and one that is known not to
pub passed : (b : Bool) (x y : Judged) → b ≡ true → Safe x → Safe (if b then x else y)
passed b x y is h = tested b x y (λ e. h) (λ e. absurd (cc (is, e)))

pub failed : (b : Bool) (x y : Judged) → b ≡ false → Safe y → Safe (if b then x else y)
failed b x y is h = tested b x y (λ e. absurd (cc (is, e))) (λ e. h)

if_ends : (b : Bool) (e : End) → Ends e → Ends (if b then e else Blocked)
if_ends true e h = h
if_ends false e h = blocks []

-- a turn is taken
pub turned : (next : ℕ → Judged) → ((n : ℕ) → Safe (next (suc (suc n)))) → Safe (next 1) → Safe (next 0) → Safe (pick_turn next)
turned next l k h [] = blocks []
turned next l k h (Number z ∷ picks) = blocks []
turned next l k h (Turn zero ∷ picks) = h picks
turned next l k h (Turn (suc zero) ∷ picks) = k picks
turned next l k h (Turn (suc (suc n)) ∷ picks) =
    if_ends (nat_lt (suc (suc n)) 3) (next (suc (suc n)) picks) (l n picks)
turned next l k h (Steps m ∷ picks) = blocks []

pub same_self : (n : ℕ) → nat_eq n n ≡ true
same_self n = search (rules)

pub number_self : (z : ℤ) → same_number z z ≡ true
number_self z = search (rules, ints)

pub numbers_same : (a b : ℤ) → same_number a b ≡ true → a ≡ b
numbers_same a b h = search (rules, ints)

-- what a program becomes was worked out
pub verified_as : (p : Program) (c : core.Program) → core_of p ≡ c → AllByRecursion (NeverFails c) (units_of p) → IsVerified p
verified_as p c is all = subst (λ c. AllByRecursion (NeverFails c) (units_of p)) (sym is) all

-- no evidence fails where no picks do, under any maps of picks for ranges and any table
pub never_fails : (p : core.Program) (unit : PvUnit)
    → ((maps : Maps) (table : List Entry) → Safe (judge_task (judging maps table) p (task_of p unit))) → NeverFails p unit
never_fails p unit h evidence check span = h (maps_of evidence.picks) evidence.table evidence.picks check span
