-- What a fault of the static rules says of a program.
use Rattle.std.specs.Prelude.{◌≡◌, Some}
use Rattle.pv_ast.specs.declared.Program.{Program}
use Rattle.pv_ast.specs.Rules.Faults.{IsFirst, first_of}
use Rattle.pv_ast.specs.Rules.Programs.{faults_of_program}
use Rattle.pv_types.specs.declared.TypeFault.{TypeFault}
use Rattle.pv_types.specs.declared.TypeFault.TheVariants.{Broken, NoMemory}

-- the rule is broken there, and none of the program's faults is named before it
abbrev pub IsFirstFault : Program → TypeFault → Type 0
IsFirstFault p (Broken rule span) = IsFirst (record { rule = rule; span = span }) (faults_of_program p)
IsFirstFault p NoMemory = Unit {0}

-- it is the one that is chosen of the program's faults
abbrev pub IsChosen : Program → TypeFault → Type 0
IsChosen p (Broken rule span) = first_of (faults_of_program p) ≡ Some (record { rule = rule; span = span })
IsChosen p NoMemory = Unit {0}
