use Rattle.std.proofs.Common.{refl}
use Rattle.vercors.specs.declared.ending.Status.TheVariants.{TextRefused}
use Rattle.vercors.proofs.AnswerLemmas.{refused_answer}
use Rattle.vercors.proofs.answering.answer_to_refusal.Goals as goal

pub returns : goal.returns
returns c =
    refused_answer c.args.text.now c.args.refusal TextRefused c.in_ok-output.output c.requires.refused c.requires.only
    c.requires.none refl c.in_ok-output.ensures
