use Rattle.vercors.specs.declared.ending.Status.TheVariants.{WordsWrong}
use Rattle.vercors.specs.Lines.{usage_line}
use Rattle.vercors.specs.Answers as answers
use Rattle.vercors.specs.Answers.{IsFileAnswer, IsAnswer, told_of}
use Rattle.vercors.proofs.AnswerLemmas.{line_answer, less_said, usage_answer}
use Rattle.vercors.proofs.answering.answer_to.Goals as goal

pub returns-in-Some-clause-right : goal.returns-in-Some-clause-right
returns-in-Some-clause-right g c =
    less_said c.answer_to_file.result (λ t o. IsFileAnswer (told_of (g.F.Shelf.files c.args.shelf.now) c.in-Some.file.now) t o)
    (λ t o. IsAnswer (g.F.Shelf.files c.args.shelf.now) c.args.words.now t o)
    (λ t o a. answers.verify c.in-Some.ensures a) c.answer_to_file.ensures.right

pub returns-in-None-clause-right : goal.returns-in-None-clause-right
returns-in-None-clause-right g c =
    line_answer c.one_line.result WordsWrong usage_line (λ t o. IsAnswer (g.F.Shelf.files c.args.shelf.now) c.args.words.now t o)
    (λ t o e k. usage_answer (g.F.Shelf.files c.args.shelf.now) c.args.words.now t o c.in-None.ensures e k)
    c.one_line.ensures.status c.one_line.ensures.output
