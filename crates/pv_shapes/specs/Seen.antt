-- What the code's values stand for.
use Rattle.std.specs.Prelude.{ℕ, Option, Some, None}
use Rattle.pv_base.specs.declared.Name.{Name}
use Rattle.pv_ast.specs.Rules.Items as items
use Rattle.pv_ast.specs.Rules.Items.{Shape, KindShape}
use Rattle.pv_ast.specs.Rules.Shapes.{Environment}
use Rattle.pv_shapes.specs.declared.facts.Uses.{Uses}
use Rattle.pv_shapes.specs.declared.facts.Uses.TheVariants as uses
use Rattle.pv_shapes.specs.declared.facts.Form.{Form}
use Rattle.pv_shapes.specs.declared.facts.Form.TheVariants as form
use Rattle.pv_shapes.specs.declared.facts.Facts.{Facts}
use Rattle.pv_shapes.specs.declared.formulas.Whole.{Whole}
use Rattle.pv_shapes.specs.declared.formulas.Whole.TheVariants as whole
use Rattle.pv_shapes.specs.declared.statements.Inside.{Inside}

abbrev pub uses_as : Uses → items.Use
uses_as uses.Unused = items.unused
uses_as (uses.Shifted s) = items.shifted s
uses_as uses.Elsewhere = items.elsewhere

abbrev pub form_as : Form → items.Form
form_as form.Variable = items.variable
form_as (form.Literal n) = items.literal n
form_as (form.Shift s) = items.shift s
form_as (form.Element s) = items.element s
form_as form.Guard = items.guard
form_as form.Fixing = items.fixing
form_as form.Other = items.other

abbrev pub facts_as : Facts → items.Facts
facts_as f = record { uses = uses_as f.uses; form = form_as f.form; pure = f.pure; truth = f.truth }

abbrev pub whole_as : Whole → items.Whole
whole_as whole.StarBody = items.star_body
whole_as whole.TruthBody = items.truth_body
whole_as whole.Clause = items.clause

abbrev pub name_as : Option Name → Option ℕ
name_as None = None
name_as (Some name) = Some name.0

abbrev pub environment_as : Inside → Environment
environment_as i = record { block = name_as i.block; loop = name_as i.counted }
