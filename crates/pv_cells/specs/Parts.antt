-- What a call says that does a part of a run: what comes next goes on from where the call left the run, or the run ends.
use Rattle.std.specs.Prelude.{◌≡◌, List}
use Rattle.pv_base.specs.declared.Span.{Span}
use Rattle.pv_picks.specs.declared.evidence.Pick.{Pick}
use Rattle.pv_picks.specs.Judge.States.{State}
use Rattle.pv_picks.specs.Judge.Settings.{Next}
use Rattle.pv_picks.specs.Judge.Runs.{Blocked, Failed}
use Rattle.pv_cells.specs.declared.halt.Halt.{Halt}
use Rattle.pv_cells.specs.declared.halt.Halt.TheVariants as halt
use Rattle.pv_cells.specs.Limits.{Limited, Ends, Overflows, TooLong}

-- a part of a run, by what comes where something is missing, and by what comes next
abbrev pub Part : Type 0 → Type 0
Part A = (Span → Next Limited) → (A → Next Limited) → Next Limited

-- it goes on with a value, from another state and with fewer picks
unfoldable pub Goes : {A : Type 0} → Part A → State → List Pick → A → State → List Pick → Type 0
Goes {A} part s picks a t left = (missing : Span → Next Limited) (next : A → Next Limited) → part missing next s picks
    ≡ next a t left

-- it doesn't
unfoldable pub Halts : {A : Type 0} → Part A → State → List Pick → Halt → State → List Pick → Type 0
Halts {A} part s picks (halt.Missing span) t left =
    (missing : Span → Next Limited) (next : A → Next Limited) → part missing next s picks ≡ missing span t left
Halts {A} part s picks halt.Blocked t left =
    (missing : Span → Next Limited) (next : A → Next Limited) → part missing next s picks ≡ Ends Blocked
Halts {A} part s picks (halt.Failed check span) t left =
    (missing : Span → Next Limited) (next : A → Next Limited) → part missing next s picks ≡ Ends (Failed check span)
Halts {A} part s picks (halt.Overflow span) t left =
    (missing : Span → Next Limited) (next : A → Next Limited) → part missing next s picks ≡ Overflows span
Halts {A} part s picks (halt.RangeTooLong n) t left =
    (missing : Span → Next Limited) (next : A → Next Limited) → part missing next s picks ≡ TooLong n
Halts part s picks halt.NoMemory t left = Unit {0}
