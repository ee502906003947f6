use Rattle.pv_parser.proofs.Counts.{literals_few}
use Rattle.pv_parser.proofs.Numbers.{numbers_small}
use Rattle.pv_parser.proofs.laws.few_literals.Goals as goal

pub returns-clause-few : goal.returns-clause-few
returns-clause-few c = literals_few

pub returns-clause-small : goal.returns-clause-small
returns-clause-small c = numbers_small
