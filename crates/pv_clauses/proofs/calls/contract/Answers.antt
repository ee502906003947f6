use Rattle.std.proofs.Common.{refl}
use Rattle.pv_reading.proofs.Calls as calls
use Rattle.pv_clauses.proofs.Contracts.{contract_exact, contract_good, contract_fails}
use Rattle.pv_clauses.proofs.calls.contract.Goals as goal

pub overflow_sub-result : goal.overflow_sub-result
overflow_sub-result c =
    calls.from_left (contract_exact c.args.depth c.requires.depth) refl c.args.tokens.now.end c.args.tokens.now.items
    c.tokens_from-front.result.now c.args.from c.tokens_from-front.ensures
    c.len.result c.in-Ok.rest.now (record { clauses = c.in-Ok.clauses }) c.len.ensures
    (contract_good c.args.depth c.new.result c.new.ensures c.tokens_from-front.result.now c.in-Ok.rest.now c.in-Ok.clauses
    c.in-Ok.ensures)

pub returns-in-Ok-clause-reads : goal.returns-in-Ok-clause-reads
returns-in-Ok-clause-reads c =
    calls.from_good (contract_exact c.args.depth c.requires.depth) refl c.args.tokens.now.end c.args.tokens.now.items
    c.tokens_from-front.result.now c.args.from c.tokens_from-front.ensures
    c.len.result c.in-Ok.rest.now (record { clauses = c.in-Ok.clauses }) c.requires.from c.len.ensures
    (contract_good c.args.depth c.new.result c.new.ensures c.tokens_from-front.result.now c.in-Ok.rest.now c.in-Ok.clauses
    c.in-Ok.ensures)

pub returns-in-Ok-clause-accepts : goal.returns-in-Ok-clause-accepts
returns-in-Ok-clause-accepts c = λ e taken l.
    calls.from_only (contract_exact c.args.depth c.requires.depth) refl c.args.tokens.now.end c.args.tokens.now.items
    c.tokens_from-front.result.now c.args.from c.tokens_from-front.ensures
    c.len.result c.in-Ok.rest.now (record { clauses = c.in-Ok.clauses }) e taken c.requires.from c.len.ensures
    (contract_good c.args.depth c.new.result c.new.ensures c.tokens_from-front.result.now c.in-Ok.rest.now c.in-Ok.clauses
    c.in-Ok.ensures) l

pub returns-in-Err-clause-reads : goal.returns-in-Err-clause-reads
returns-in-Err-clause-reads c =
    calls.from_fails (contract_exact c.args.depth c.requires.depth) refl c.args.tokens.now.end c.args.tokens.now.items
    c.tokens_from-front.result.now c.args.from c.tokens_from-front.ensures
    c.in-Err.fault c.placed.result c.placed.ensures
    (contract_fails c.args.depth c.new.result c.new.ensures c.tokens_from-front.result.now c.in-Err.fault c.in-Err.ensures)

pub returns-in-Err-clause-accepts : goal.returns-in-Err-clause-accepts
returns-in-Err-clause-accepts c =
    calls.from_nothing (contract_exact c.args.depth c.requires.depth) refl c.args.tokens.now.end c.args.tokens.now.items
    c.tokens_from-front.result.now c.args.from c.tokens_from-front.ensures
    c.in-Err.fault c.placed.result c.placed.ensures
    (contract_fails c.args.depth c.new.result c.new.ensures c.tokens_from-front.result.now c.in-Err.fault c.in-Err.ensures)
