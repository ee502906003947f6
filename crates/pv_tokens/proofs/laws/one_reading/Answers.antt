use Rattle.pv_tokens.proofs.Endings.{each_is_read}
use Rattle.pv_tokens.proofs.ProgressLaws as laws
use Rattle.pv_tokens.proofs.laws.one_reading.Goals as goal

pub returns-clause-some : goal.returns-clause-some
returns-clause-some c = each_is_read

pub returns-clause-one : goal.returns-clause-one
returns-clause-one c = laws.one_reading

pub returns-clause-one_fault : goal.returns-clause-one_fault
returns-clause-one_fault c = laws.one_fault

pub returns-clause-never_both : goal.returns-clause-never_both
returns-clause-never_both c = laws.no_tokens
