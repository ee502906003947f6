use Rattle.std.proofs.Common.{Result, Err, ap, inl, inr}
use Rattle.std.proofs.lemmas.Result.{err_from_is_err_and}
use Rattle.pv_tokens.specs.declared.TokenFault.{TokenFault}
use Rattle.pv_tokens.specs.declared.Tokens.{Tokens}
use Rattle.pv_tokens.proofs.ProgressLaws.{one_reading, no_tokens, must_be_memory, fault_or_memory}
use Rattle.pv_tokens.proofs.LexemeLaws.{tokens_in_order, tokens_within, tokens_few}
use Rattle.pv_tokens.proofs.reading.tokens.Goals as goal

abbrev failed : TokenFault → Result Tokens TokenFault
failed e = Err e

pub returns-in_err-items-clause-accepts : goal.returns-in_err-items-clause-accepts
returns-in_err-items-clause-accepts c = λ xs after h.
    let text = c.args.text.now in
    let names = c.args.names.now in
    let is = must_be_memory text names c.in_err-items.field-0.0 xs after c.in_err-items.ensures.fault h in
    let r = err_from_is_err_and c.from_residual.result c.from_residual.ensures.1 in
    rw (r.1, r.2) (inr (ap failed is))

pub returns-in_err-items-clause-refuses : goal.returns-in_err-items-clause-refuses
returns-in_err-items-clause-refuses c = λ e h.
    let text = c.args.text.now in
    let names = c.args.names.now in
    let r = err_from_is_err_and c.from_residual.result c.from_residual.ensures.1 in
    rw (r.1, r.2)
    (elim (fault_or_memory text names c.in_err-items.field-0.0 e c.in_err-items.ensures.fault h) [
      | inl is ↦ inl (ap failed is)
      | inr is ↦ inr (ap failed is)
    ])

pub returns-clause-accepts : goal.returns-clause-accepts
returns-clause-accepts c = λ xs after h.
    inl (one_reading c.args.text.now c.args.names.now c.in_ok-items.items xs c.read_all.new.names after
    c.in_ok-items.ensures.tokens h)

pub returns-clause-refuses : goal.returns-clause-refuses
returns-clause-refuses c = λ e h.
    absurd (no_tokens c.args.text.now c.args.names.now e c.in_ok-items.items c.read_all.new.names h c.in_ok-items.ensures.tokens)

pub returns-clause-spans : goal.returns-clause-spans
returns-clause-spans c =
    tokens_in_order c.args.text.now c.args.names.now c.in_ok-items.items c.read_all.new.names c.in_ok-items.ensures.tokens

pub returns-clause-numbers : goal.returns-clause-numbers
returns-clause-numbers c =
    tokens_within c.args.text.now c.args.names.now c.in_ok-items.items c.read_all.new.names c.in_ok-items.ensures.tokens

pub returns-clause-few : goal.returns-clause-few
returns-clause-few c =
    tokens_few c.args.text.now c.args.names.now c.in_ok-items.items c.read_all.new.names c.in_ok-items.ensures.tokens
