use Rattle.std.proofs.Common.{List, ap, ◌∙◌}
use Rattle.small_verdicts.specs.declared.judging.Judged.{Judged}
use Rattle.pv_report.specs.Output.{report_of}
use Rattle.vercors.specs.Statuses.{status_of}
use Rattle.vercors.proofs.VerdictLemmas.{judged_answer}
use Rattle.vercors.proofs.answering.answer_to_program.Goals as goal

pub returns : goal.returns
returns c =
    judged_answer c.safe_where_no_run_fails.ensures c.args.text.now c.args.names.now c.args.program.now c.in_ok-judged.judged
    c.status_of-status.result c.in_ok-output.output
    c.requires.spelled c.requires.one c.requires.unrefused c.in_ok-judged.ensures
    (c.status_of-status.ensures ∙ ap (λ (js : List Judged). status_of js) c.as_slice.ensures)
    (c.in_ok-output.ensures ∙ ap (λ (js : List Judged). report_of c.args.text.now c.args.names.now js) c.as_slice-2.ensures)
