use Rattle.pv_types.proofs.First.{no_fault, first_fault}
use Rattle.pv_ast.specs.Rules.Programs.{faults_of_program}
use Rattle.pv_types.proofs.check_types.Goals as goal

pub returns-in-None-clause-passes : goal.returns-in-None-clause-passes
returns-in-None-clause-passes c =
    no_fault (faults_of_program c.args.program.now) c.in_ok-first_fault.field-0 (c.in_ok-first_fault.ensures) c.in-None.is

pub returns-in-Some-clause-first : goal.returns-in-Some-clause-first
returns-in-Some-clause-first c =
    first_fault (faults_of_program c.args.program.now) c.in_ok-first_fault.field-0 c.in-Some.fault
    (c.in_ok-first_fault.ensures) c.in-Some.is
