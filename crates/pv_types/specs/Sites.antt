-- Where an expression stands, as the definitions see it.
use Rattle.pv_ast.specs.Rules.Expressions.{Environment as Surroundings}
use Rattle.pv_types.specs.Environments.{environment_of}
use Rattle.pv_types.specs.declared.site.Site.{Site}

abbrev pub around : Site → Surroundings
around site = environment_of site.environment.now
