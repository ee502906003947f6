use Rattle.std.proofs.Common.{◌≡◌, ℕ, List, Option, Some, Err, IfSome, subst}
use Rattle.pv_io.specs.Whole.{Loads}
use Rattle.vercors.specs.Loading.{IsFaultAnswer}
use Rattle.vercors.specs.Answers as answers
use Rattle.pv_tokens.specs.Bytes.{most_bytes}
use Rattle.vercors.specs.Answers.{IsTextAnswer, IsFileAnswer, told_of}
use Rattle.vercors.proofs.AnswerLemmas.{told_here, less_said, fault_answer}
use Rattle.vercors.proofs.answering.answer_to_file.Goals as goal

pub returns-in-Ok-clause-right : goal.returns-in-Ok-clause-right
returns-in-Ok-clause-right g c =
    let told : Option (Option (List ℕ)) = told_of (g.F.Shelf.files c.args.shelf.now) c.args.file.now in
    let here : IfSome told (λ bytes. bytes ≡ Some c.in-Ok.text) =
    told_here (g.F.Shelf.files c.args.shelf.now) c.args.file.now (λ bytes. bytes ≡ Some c.in-Ok.text) c.in-Ok.ensures.loads in
    less_said c.answer_to_text.result (λ t o. IsTextAnswer c.as_slice.result.now t o) (λ t o. IsFileAnswer told t o)
    (λ t o a. let At : List ℕ
    → Type 0 = λ text. IsTextAnswer text t o in
    answers.read {text = c.in-Ok.text} here c.in-Ok.ensures.counts_taken.1 (subst At c.as_slice.ensures a))
    c.answer_to_text.ensures

pub returns-in-Err-clause-right : goal.returns-in-Err-clause-right
returns-in-Err-clause-right g c =
    let told : Option (Option (List ℕ)) = told_of (g.F.Shelf.files c.args.shelf.now) c.args.file.now in
    let here : IfSome told (λ bytes. Loads bytes most_bytes (Err c.in-Err.fault)) =
    told_here (g.F.Shelf.files c.args.shelf.now) c.args.file.now
    (λ bytes. Loads bytes most_bytes (Err c.in-Err.fault)) c.in-Err.ensures.loads in
    less_said c.answer_to_fault.result (λ t o. IsFaultAnswer c.in-Err.fault t o) (λ t o. IsFileAnswer told t o)
    (λ t o a. fault_answer told c.in-Err.fault t o here a) c.answer_to_fault.ensures
