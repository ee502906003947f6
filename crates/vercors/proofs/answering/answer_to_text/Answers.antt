use Rattle.vercors.proofs.answering.answer_to_text.Goals as goal

pub answer_to_refusal-requires-clause-none : goal.answer_to_refusal-requires-clause-none
answer_to_refusal-requires-clause-none c = c.in-Err-Refused.ensures.none (λ e. absurd (cc))
