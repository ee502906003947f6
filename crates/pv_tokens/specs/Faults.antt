-- A fault of the names is the fault of the text.
use Rattle.std.specs.Prelude.{◌≡◌}
use Rattle.pv_names.specs.declared.NamesFault.{NamesFault}
use Rattle.pv_names.specs.declared.NamesFault.TheVariants as names
use Rattle.pv_tokens.specs.declared.TokenFault.{TokenFault}
use Rattle.pv_tokens.specs.declared.TokenFault.TheVariants as fault

abbrev pub IsSameFault : NamesFault → TokenFault → Type 0
IsSameFault names.Full e = e ≡ fault.Full
IsSameFault names.NoMemory e = e ≡ fault.NoMemory
