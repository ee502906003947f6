-- Which refusal a text has.
use Rattle.std.specs.Prelude.{◌≡◌, ℕ, List, [], length, Option, Some}
use Rattle.pv_base.specs.declared.Name.{Name}
use Rattle.pv_base.specs.declared.Span.{Span}
use Rattle.pv_ast.specs.declared.Program.{Program}
use Rattle.pv_tokens.specs.declared.Lexeme.{Lexeme}
use Rattle.pv_tokens.specs.declared.TokenFault.TheVariants as token
use Rattle.pv_tokens.specs.Progress.{IsFault}
use Rattle.pv_reading.specs.Spelled.{most_open, IsUnexpected, IsTooDeep}
use Rattle.pv_parser.specs.Grammar.{IsProgram}
use Rattle.pv_ast.specs.declared.fault.Rule.{Rule}
use Rattle.pv_ast.specs.declared.fault.ShapeFault.TheVariants as shape
use Rattle.pv_ast.specs.Rules.Faults.{IsFirst, first_of}
use Rattle.pv_ast.specs.Rules.Programs.{faults_of_program, KeepsRules}
use Rattle.pv_ast.specs.Rules.Shapes as shapes
use Rattle.small_meaning.specs.Small.{IsSmall}
use Rattle.pv_report.specs.declared.refusing.Refusal.{Refusal}
use Rattle.pv_report.specs.declared.refusing.Refusal.TheVariants.{BadByte, BadNumber, OpenComment, Full, Unexpected, TooDeep, Broken, QuantifierShape, ItemShape, NotBuilt}
use Rattle.pv_report.specs.declared.fault.TextFault.{TextFault}
use Rattle.pv_report.specs.declared.fault.TextFault.TheVariants.{Refused, NoMemory}
use Rattle.vercors.specs.Texts.{HasTokens, SpellsProgram}

-- The program is refused for this: the first static rule that it breaks; where it breaks none, its first fault of shape; and
-- where it has none either, that it isn't small.
pub data IsProgramRefused (program : Program) : Refusal → Type 0 where
  broken : {rule : Rule} {span : Span} → IsFirst (record { rule = rule; span = span }) (faults_of_program program)
      → first_of (faults_of_program program) ≡ Some (record { rule = rule; span = span })
      → IsProgramRefused program (Broken rule span)
  quantifier_shape : {span : Span} → KeepsRules program
      → shapes.first_of (shapes.shape_faults_of program) ≡ Some (shape.QuantifierShape span)
      → IsProgramRefused program (QuantifierShape span)
  item_shape : {span : Span} → KeepsRules program → shapes.first_of (shapes.shape_faults_of program) ≡ Some (shape.ItemShape span)
      → IsProgramRefused program (ItemShape span)
  not_built : KeepsRules program → shapes.shape_faults_of program ≡ [] → (IsSmall program → ⊥) → IsProgramRefused program NotBuilt

-- The text is refused for this: its first fault where it has no tokens, the first fault of its tokens where they spell no
-- program, and else what the program that it spells is refused for.
pub data IsRefused (text : List ℕ) : Refusal → Type 0 where
  bad_byte : {at : ℕ} → IsFault text [] (token.BadByte at) → IsRefused text (BadByte at)
  bad_number : {at : ℕ} → IsFault text [] (token.BadNumber at) → IsRefused text (BadNumber at)
  open_comment : {at : ℕ} → IsFault text [] (token.OpenComment at) → IsRefused text (OpenComment at)
  full : IsFault text [] token.Full → IsRefused text Full
  unexpected : {names : List (List ℕ)} {lexemes : List Lexeme} {length_name : Option Name} {place : Span}
      → HasTokens text names lexemes length_name → IsUnexpected (IsProgram length_name) most_open (length text) lexemes place
      → IsRefused text (Unexpected place)
  too_deep : {names : List (List ℕ)} {lexemes : List Lexeme} {length_name : Option Name} {place : Span}
      → HasTokens text names lexemes length_name → IsTooDeep (IsProgram length_name) most_open lexemes place
      → IsRefused text (TooDeep place)
  of_program : {names : List (List ℕ)} {program : Program} {refusal : Refusal} → SpellsProgram text names program
      → IsProgramRefused program refusal → IsRefused text refusal

-- the text has no other refusal than this
abbrev pub HasOnly : List ℕ → Refusal → Type 0
HasOnly text this = (other : Refusal) → IsRefused text other → this ≡ other

-- the text has no refusal
abbrev pub HasNoRefusal : List ℕ → Type 0
HasNoRefusal text = (r : Refusal) → IsRefused text r → ⊥

-- the program is refused for this, unless memory ran out
abbrev pub RefusesProgram : Program → TextFault → Type 0
RefusesProgram program (Refused r) = IsProgramRefused program r
RefusesProgram program NoMemory = Unit {0}

-- the text is refused for this and for nothing else, unless memory ran out
abbrev pub Refuses : List ℕ → TextFault → Type 0
Refuses text (Refused r) = IsRefused text r × HasOnly text r
Refuses text NoMemory = Unit {0}
