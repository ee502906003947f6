-- Results of steps: those that go, and those that are able.
use Rattle.std.proofs.Common.{◌≡◌, Bool, true, false, not, refl, subst}
use Rattle.pv_base.specs.declared.Span.{Span}
use Rattle.pv_picks.specs.declared.check.Check.{Check}
use Rattle.pv_picks.specs.Formulas.Meeting.{Finding, AllMet, FirstUnmet}
use Rattle.pv_picks.specs.Machine.Worlds.{World}
use Rattle.pv_picks.specs.Machine.Steps.{Result, needs, needs_met, waits_unless}
use Rattle.pv_picks.specs.Machine.Safety.{is_able}
use Rattle.machine_laws.specs.Shapes.{AreAlike}

-- What goes is met, and doesn't wait.

pub needs_went : (v : World) (b : Bool) (named : Check) (span : Span) (r : Result) → needs b named span r ≡ Result.Went v
    → r ≡ Result.Went v
needs_went v true named span r h = h
needs_went v false named span r h = absurd cc

pub met_went : (v : World) (u : Finding) (named : Check) (r : Result) → needs_met u named r ≡ Result.Went v → r ≡ Result.Went v
met_went v AllMet named r h = h
met_went v (FirstUnmet span) named r h = absurd cc

pub waits_went : (v : World) (b : Bool) (r : Result) → waits_unless b r ≡ Result.Went v → r ≡ Result.Went v
waits_went v true r h = h
waits_went v false r h = absurd cc

-- and so it is whatever else would come
pub met_alike : (v : World) (u : Finding) (named : Check) (r s : Result) → needs_met u named r ≡ Result.Went v
    → needs_met u named s ≡ s
met_alike v AllMet named r s h = refl
met_alike v (FirstUnmet span) named r s h = absurd cc

pub waits_alike : (v : World) (b : Bool) (r s : Result) → waits_unless b r ≡ Result.Went v → waits_unless b s ≡ s
waits_alike v true r s h = refl
waits_alike v false r s h = absurd cc

pub same_world : (v u : World) → Result.Went u ≡ Result.Went v → v ≡ u
same_world v u h = cc

pub went_same : (r : Result) (v u : World) → r ≡ Result.Went v → v ≡ u → r ≡ Result.Went u
went_same r v u h e = subst (λ z. r ≡ Result.Went z) e h

-- What is able goes or is wrong.

pub needs_able : (b : Bool) (named : Check) (span : Span) (r : Result) → is_able r ≡ true → is_able (needs b named span r) ≡ true
needs_able true named span r h = h
needs_able false named span r h = refl

pub able_needs : (b : Bool) (named : Check) (span : Span) (r s : Result) → (is_able r ≡ true → is_able s ≡ true)
    → is_able (needs b named span r) ≡ true → is_able (needs b named span s) ≡ true
able_needs true named span r s f h = f h
able_needs false named span r s f h = refl

pub met_able : (u : Finding) (named : Check) (r : Result) → is_able r ≡ true → is_able (needs_met u named r) ≡ true
met_able AllMet named r h = h
met_able (FirstUnmet span) named r h = refl

pub waits_able : (b : Bool) (r : Result) → is_able (waits_unless b r) ≡ true → (b ≡ true) × (is_able r ≡ true)
waits_able true r h = (refl, h)
waits_able false r h = absurd cc

pub able_waits : (b : Bool) (r : Result) → b ≡ true → is_able r ≡ true → is_able (waits_unless b r) ≡ true
able_waits true r e h = h
able_waits false r e h = absurd cc

pub not_false : (b : Bool) → b ≡ false → not b ≡ true
not_false true e = absurd cc
not_false false e = refl

pub able-goes : (r : Result) → is_able r ≡ true → ((named : Check) (span : Span) → r ≡ Result.Wrong named span → ⊥)
    → (v : World) × (r ≡ Result.Went v)
able-goes (Result.Went v) h safe = (v, refl)
able-goes (Result.Wrong named span) h safe = absurd (safe named span refl)
able-goes Result.Waits h safe = absurd cc
able-goes Result.Ended h safe = absurd cc

-- what is wrong in one mode is so in the other
pub wrong-alike : (r s : Result) (named : Check) (span : Span) → AreAlike r s → r ≡ Result.Wrong named span
    → (n : Check) × (x : Span) × (s ≡ Result.Wrong n x)
wrong-alike (Result.Wrong a x) (Result.Wrong b y) named span h e = (b, y, refl)
wrong-alike (Result.Wrong a x) (Result.Went v) named span h e = absurd h
wrong-alike (Result.Wrong a x) Result.Waits named span h e = absurd h
wrong-alike (Result.Wrong a x) Result.Ended named span h e = absurd h
wrong-alike (Result.Went v) s named span h e = absurd cc
wrong-alike Result.Waits s named span h e = absurd cc
wrong-alike Result.Ended s named span h e = absurd cc
