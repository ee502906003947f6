-- Parts of runs one after the other.
use Rattle.std.proofs.Common.{◌≡◌, Bool, true, false, if◌then◌else◌, List, ◌∙◌}
use Rattle.pv_base.specs.declared.Span.{Span}
use Rattle.pv_picks.specs.declared.evidence.Pick.{Pick}
use Rattle.pv_picks.specs.Judge.States.{State}
use Rattle.pv_picks.specs.Judge.Settings.{Next}
use Rattle.pv_cells.specs.declared.halt.Halt.{Halt}
use Rattle.pv_cells.specs.declared.halt.Halt.TheVariants as halt
use Rattle.pv_cells.specs.Limits.{Limited, Overflows}
use Rattle.pv_cells.specs.Parts.{Part, Goes, Halts}

-- a part, and one that begins with its value
abbrev pub followed : {A B : Type 0} → Part A → (A → Part B) → Part B
followed part more missing next = part missing (λ a. more a missing next)

pub goes_on : {A B : Type 0} (part : Part A) (more : A → Part B) (s t u : State) (p q r : List Pick) (a : A) (b : B)
    → Goes part s p a t q → Goes (more a) t q b u r → Goes (followed part more) s p b u r
unfolding Goes
goes_on part more s t u p q r a b first second missing next = first missing _ ∙ second missing next

pub stops_first : {A B : Type 0} (part : Part A) (more : A → Part B) (s t : State) (p q : List Pick) (h : Halt)
    → Halts part s p h t q → Halts (followed part more) s p h t q
unfolding Halts
stops_first part more s t p q (halt.Missing span) k = λ missing next. k missing _
stops_first part more s t p q halt.Blocked k = λ missing next. k missing _
stops_first part more s t p q (halt.Failed check span) k = λ missing next. k missing _
stops_first part more s t p q (halt.Overflow span) k = λ missing next. k missing _
stops_first part more s t p q (halt.RangeTooLong n) k = λ missing next. k missing _
stops_first part more s t p q halt.NoMemory k = tt

pub stops_then : {A B : Type 0} (part : Part A) (more : A → Part B) (s t u : State) (p q r : List Pick) (a : A) (h : Halt)
    → Goes part s p a t q → Halts (more a) t q h u r → Halts (followed part more) s p h u r
unfolding Goes Halts
stops_then part more s t u p q r a (halt.Missing span) g k = λ missing next. g missing _ ∙ k missing next
stops_then part more s t u p q r a halt.Blocked g k = λ missing next. g missing _ ∙ k missing next
stops_then part more s t u p q r a (halt.Failed check span) g k = λ missing next. g missing _ ∙ k missing next
stops_then part more s t u p q r a (halt.Overflow span) g k = λ missing next. g missing _ ∙ k missing next
stops_then part more s t u p q r a (halt.RangeTooLong n) g k = λ missing next. g missing _ ∙ k missing next
stops_then part more s t u p q r a halt.NoMemory g k = tt

-- what comes behind a test that fails
pub halts_if : {A : Type 0} (h : Halt) (other : Part A) (part : Part A) (b : Bool) (s t : State) (p q : List Pick) → b ≡ false
    → Halts part s p h t q → Halts (λ missing next state. if b then other missing next state else part missing next state) s p
    h t q
unfolding Halts
halts_if h other part true s t p q e k = absurd (cc e)
halts_if h other part false s t p q e k = k

-- the same of a choice between rests
pub first_halts : {A : Type 0} (h : Halt) (part other : Part A) (b : Bool) (s t : State) (p q : List Pick) → b ≡ true
    → Halts part s p h t q → Halts (λ missing next. if b then part missing next else other missing next) s p h t q
unfolding Halts
first_halts h part other true s t p q e k = k
first_halts h part other false s t p q e k = absurd (cc e)

pub second_halts : {A : Type 0} (h : Halt) (other part : Part A) (b : Bool) (s t : State) (p q : List Pick) → b ≡ false
    → Halts part s p h t q → Halts (λ missing next. if b then other missing next else part missing next) s p h t q
unfolding Halts
second_halts h other part true s t p q e k = absurd (cc e)
second_halts h other part false s t p q e k = k

pub overflow_halts : {A : Type 0} (part : Part A) (s t : State) (p q : List Pick) (span : Span)
    → ((missing : Span → Next Limited) (next : A → Next Limited) → part missing next s p ≡ Overflows span)
    → Halts part s p (halt.Overflow span) t q
unfolding Halts
overflow_halts part s t p q span h = h
