-- What the faults of tokens, of the grammar, of the static rules and of shapes are as faults of a text.
use Rattle.std.specs.Prelude.{◌≡◌}
use Rattle.pv_tokens.specs.declared.TokenFault.{TokenFault}
use Rattle.pv_tokens.specs.declared.TokenFault.TheVariants as token
use Rattle.pv_reading.specs.declared.fault.ParseFault.{ParseFault}
use Rattle.pv_reading.specs.declared.fault.ParseFault.TheVariants as parse
use Rattle.pv_types.specs.declared.TypeFault.{TypeFault}
use Rattle.pv_types.specs.declared.TypeFault.TheVariants as types
use Rattle.pv_ast.specs.declared.fault.ShapeFault.{ShapeFault}
use Rattle.pv_ast.specs.declared.fault.ShapeFault.TheVariants as shape
use Rattle.pv_report.specs.declared.refusing.Refusal.TheVariants as refusal
use Rattle.pv_report.specs.declared.fault.TextFault.{TextFault}
use Rattle.pv_report.specs.declared.fault.TextFault.TheVariants.{Refused, NoMemory}

abbrev pub OfTokens : TokenFault → TextFault → Type 0
OfTokens (token.BadByte at) fault = fault ≡ Refused (refusal.BadByte at)
OfTokens (token.BadNumber at) fault = fault ≡ Refused (refusal.BadNumber at)
OfTokens (token.OpenComment at) fault = fault ≡ Refused (refusal.OpenComment at)
OfTokens token.Full fault = fault ≡ Refused refusal.Full
OfTokens token.NoMemory fault = fault ≡ NoMemory

abbrev pub OfParsing : ParseFault → TextFault → Type 0
OfParsing (parse.Unexpected place) fault = fault ≡ Refused (refusal.Unexpected place)
OfParsing (parse.TooDeep place) fault = fault ≡ Refused (refusal.TooDeep place)
OfParsing parse.NoMemory fault = fault ≡ NoMemory

abbrev pub OfTypes : TypeFault → TextFault → Type 0
OfTypes (types.Broken rule span) fault = fault ≡ Refused (refusal.Broken rule span)
OfTypes types.NoMemory fault = fault ≡ NoMemory

abbrev pub OfShapes : ShapeFault → TextFault → Type 0
OfShapes (shape.QuantifierShape span) fault = fault ≡ Refused (refusal.QuantifierShape span)
OfShapes (shape.ItemShape span) fault = fault ≡ Refused (refusal.ItemShape span)
