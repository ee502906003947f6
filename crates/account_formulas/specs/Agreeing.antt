-- Scenes that agree on all that formulas of a scope speak of.
use Rattle.std.specs.Prelude.{◌≡◌, Some, List}
use Rattle.pv_base.specs.declared.Name.{Name}
use Rattle.pv_ast.specs.declared.PvType.{PvType}
use Rattle.pv_picks.specs.Plain.Core.{Parameter}
use Rattle.pv_picks.specs.Formulas.Values.{Variables}
use Rattle.pv_picks.specs.Formulas.Evaluation.{Scene}
use Rattle.pv_picks.specs.Typing.Expressions.{Speech, type_in}

-- variables are equal on a scope
abbrev pub AgreeOn : List Parameter → Variables → Variables → Type 0
AgreeOn xs a b = (name : Name) (type : PvType) → type_in xs name ≡ Some type → a name.0 ≡ b name.0

-- so are scenes, and their results where `\result` is spoken of
pub record ScenesAgree (speech : Speech) (xs : List Parameter) (a b : Scene) : Type 0 where
  pub this : a.this ≡ b.this
  pub variables : AgreeOn xs a.variables b.variables
  pub result : (type : PvType) → speech.result ≡ Some type → a.result ≡ b.result
