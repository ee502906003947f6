-- Sets of names, and lists of words that have the same names.
use Rattle.std.specs.Prelude.{◌≡◌, Bool, nat_eq, Option, List}
use Rattle.indexmap.specs.IndexSet.{contains}
use Rattle.pv_base.specs.declared.Name.{Name}
use Rattle.pv_ast.specs.declared.Word.{Word}
use Rattle.pv_ast.specs.declared.fault.Fault.{Fault}
use Rattle.pv_ast.specs.declared.fault.Rule.{Rule}
use Rattle.pv_ast.specs.Rules.Faults.{least}
use Rattle.pv_ast.specs.Rules.Statements.{has_label, repeated, repeated_behind}
use Rattle.pv_types.specs.declared.sets.NameSet.{NameSet}

abbrev pub has_name : NameSet → Name → Bool
has_name set name = contains nat_eq set.numbers name.0

-- the set has the names of the words
pub record HasLabels (set : NameSet) (words : List Word) : Type 0 where
  pub has : (name : Name) → has_name set name ≡ has_label words name

-- the words that are left are looked at behind others, whose names the set has
pub record Repeats (rule : Rule) (words : List Word) (start : Option Fault) (set : NameSet) (first : Option Fault)
    (rest : List Word) : Type 0 where
  pub before : List Word
  pub labels : HasLabels set before
  pub found : least first (repeated_behind rule before rest) ≡ least start (repeated rule words)
