-- The form that a form of the code stands for.
use Rattle.small_meaning.specs.Small as small
use Rattle.small_rules.specs.declared.expressions.Form.{Form}
use Rattle.small_rules.specs.declared.expressions.Form.TheVariants.{Written, Composed, Foreign}

abbrev pub form_as : Form → small.Form
form_as Written = small.written
form_as Composed = small.composed
form_as Foreign = small.foreign
