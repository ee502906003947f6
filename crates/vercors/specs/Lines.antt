-- What is printed where no text was read. Every line ends with a line feed.
use Rattle.std.specs.Prelude.{ℕ, List, codes}
use Rattle.pv_report.specs.Output.{line_of}

abbrev pub usage_line : List ℕ
usage_line = line_of (codes "usage: vercors verify FILE | run FILE SCHEDULE | explain FILE UNIT | big N")

abbrev pub no_file_line : List ℕ
no_file_line = line_of (codes "NoFile")

abbrev pub read_fault_line : List ℕ
read_fault_line = line_of (codes "ReadFault")

abbrev pub too_large_line : List ℕ
too_large_line = line_of (codes "TooLarge")
