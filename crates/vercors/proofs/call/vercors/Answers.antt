use Rattle.std.proofs.Common.{◌≡◌, ℕ, List, ◌++◌, Option, Some, None, Ok, IfSome, ap, subst, ◌∙◌}
use Rattle.pv_io.specs.declared.faults.Failed.{Failed}
use Rattle.pv_io.specs.Whole.{AppendsWhole}
use Rattle.vercors.specs.declared.ending.Status.{Status}
use Rattle.vercors.specs.Answers.{IsAnswer, DeliversWhole}
use Rattle.vercors.proofs.AnswerLemmas.{IsWritten, text_of_answer, is_written, delivers_whole}
use Rattle.vercors.proofs.call.vercors.Goals as goal

-- a whole write appends the output
appended_whole : {A : Type 0} (done : A) (written written' : Option (List ℕ)) (piece output : List ℕ)
    → AppendsWhole {A = A} {E = Failed} written written' piece (Ok done) → piece ≡ output
    → IfSome written (λ before. written' ≡ Some (before ++ output))
appended_whole done None written' piece output h e = tt
appended_whole done (Some before) written' piece output h e =
    let after : List ℕ → Option (List ℕ) = λ p. Some (before ++ p) in
    h ∙ ap after e

pub returns-in-Ok-write_whole-clause-text : goal.returns-in-Ok-write_whole-clause-text
returns-in-Ok-write_whole-clause-text g c = λ k.
    text_of_answer (g.F.Shelf.files c.args.shelf.now) c.args.words.now c.in-Ok.answer.status c.in-Ok.answer.output
    c.in-Ok.ensures.right k

pub returns-in-Ok-write_whole-clause-output : goal.returns-in-Ok-write_whole-clause-output
returns-in-Ok-write_whole-clause-output g c =
    let written : Option (List ℕ) = g.W.Sink.written c.args.out.now in
    let written' : Option (List ℕ) = g.W.Sink.written c.write_whole.new.sink in
    delivers_whole _ c.in-Ok.answer.status written written' (is_written c.in-Ok.ensures.right) (record {
      output = c.in-Ok.answer.output;
      answer = record {
        answer = c.in-Ok.ensures.right;
        no_file = c.in-Ok.ensures.no_file;
        too_large = c.in-Ok.ensures.too_large;
        read_fault = c.in-Ok.ensures.read_fault;
      };
      appended = appended_whole c.in-Ok-write_whole.field-0 written written' c.as_slice.result.now c.in-Ok.answer.output
          c.in-Ok-write_whole.ensures.appends c.as_slice.ensures;
    })

pub returns-in-Ok-write_whole-clause-write_fault : goal.returns-in-Ok-write_whole-clause-write_fault
returns-in-Ok-write_whole-clause-write_fault g c = λ e. absurd (subst IsWritten e (is_written c.in-Ok.ensures.right))
