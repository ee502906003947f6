-- What a text spells, and what is so of the program that it spells.
use Rattle.std.specs.Prelude.{◌≡◌, ℕ, List, [], Option, codes}
use Rattle.pv_base.specs.declared.Name.{Name}
use Rattle.pv_base.specs.declared.Span.{Span}
use Rattle.pv_ast.specs.declared.Method.{Method}
use Rattle.pv_ast.specs.declared.Program.{Program}
use Rattle.pv_tokens.specs.declared.Lexeme.{Lexeme}
use Rattle.pv_tokens.specs.Progress.{IsTokens}
use Rattle.pv_tokens.specs.Lexemes.{IsNumberOf}
use Rattle.pv_reading.specs.Spelled.{most_open, SpellsWithin}
use Rattle.pv_parser.specs.Grammar.{IsProgram}
use Rattle.pv_ast.specs.Rules.Programs.{KeepsRules}
use Rattle.pv_ast.specs.Rules.Shapes.{shape_faults_of}
use Rattle.small_meaning.specs.Small.{IsSmall}
use Rattle.small_meaning.specs.Running.{Arguments, Meets, Check, failed, run_of}
use Rattle.small_meaning.specs.Grounds.{NoRunFails}
use Rattle.small_meaning.specs.Machine.{HasMethod, IsSafe}

-- the tokens of the text and its names, each at its number, and the number of the word `length` where the text has it
pub record HasTokens (text : List ℕ) (names : List (List ℕ)) (lexemes : List Lexeme) (length_name : Option Name) : Type 0 where
  pub read : IsTokens text [] lexemes names
  pub numbered : IsNumberOf names (codes "length") lexemes length_name

-- the tokens of the text spell the program, with no more constructs open at once than may be
pub record SpellsProgram (text : List ℕ) (names : List (List ℕ)) (program : Program) : Type 0 where
  pub lexemes : List Lexeme
  pub length_name : Option Name
  pub tokens : HasTokens text names lexemes length_name
  pub spelled : SpellsWithin (IsProgram length_name) most_open lexemes program

-- a program that is verified: it breaks no static rule, has no fault of shape, and is small
pub record IsAccepted (program : Program) : Type 0 where
  pub rules : KeepsRules program
  pub shapes : shape_faults_of program ≡ []
  pub small : IsSmall program

-- the text spells the program, which is a small one without faults
pub record SpellsSmallProgram (text : List ℕ) (names : List (List ℕ)) (program : Program) : Type 0 where
  pub spells : SpellsProgram text names program
  pub accepted : IsAccepted program

-- the text spells no small program without faults
abbrev pub SpellsNone : List ℕ → Type 0
SpellsNone text = (names : List (List ℕ)) (program : Program) → SpellsSmallProgram text names program → ⊥

-- the text spells no other program than this
abbrev pub SpellsOnly : List ℕ → Program → Type 0
SpellsOnly text program = (names : List (List ℕ)) (other : Program) → SpellsSmallProgram text names other → other ≡ program

-- some method's run fails on some arguments that meet its precondition
pub record SomeRunFails (program : Program) : Type 0 where
  pub method : Method
  pub has : HasMethod program method
  pub arguments : Arguments
  pub meets : Meets method arguments
  pub check : Check
  pub span : Span
  pub fails : run_of method arguments ≡ failed check span

-- the text spells a small program without faults, of which this is so
pub record Spells (text : List ℕ) (IsSo : Program → Type 0) : Type 0 where
  pub names : List (List ℕ)
  pub program : Program
  pub spells : SpellsSmallProgram text names program
  pub so : IsSo program

abbrev pub SpellsFailing : List ℕ → Type 0
SpellsFailing text = Spells text SomeRunFails

abbrev pub SpellsUnfailing : List ℕ → Type 0
SpellsUnfailing text = Spells text NoRunFails

abbrev pub SpellsSafe : List ℕ → Type 0
SpellsSafe text = Spells text IsSafe
