-- The answer where a file was not loaded.
use Rattle.std.specs.Prelude.{◌≡◌, ℕ, List}
use Rattle.pv_io.specs.declared.faults.LoadFault.{LoadFault}
use Rattle.pv_io.specs.declared.faults.LoadFault.TheVariants as fault
use Rattle.vercors.specs.declared.ending.Status.{Status}
use Rattle.vercors.specs.declared.ending.Status.TheVariants as status
use Rattle.vercors.specs.Lines.{no_file_line, read_fault_line, too_large_line}

abbrev pub IsFaultAnswer : LoadFault → Status → List ℕ → Type 0
IsFaultAnswer fault.NoFile s output = (s ≡ status.NoFile) × (output ≡ no_file_line)
IsFaultAnswer fault.TooLarge s output = (s ≡ status.TooLarge) × (output ≡ too_large_line)
IsFaultAnswer fault.Failed s output = (s ≡ status.ReadFault) × (output ≡ read_fault_line)
IsFaultAnswer fault.NoMemory s output = ⊥
