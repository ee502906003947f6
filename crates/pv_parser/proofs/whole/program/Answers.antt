use Rattle.std.proofs.Common.{refl}
use Rattle.pv_reading.proofs.Calls as calls
use Rattle.pv_reading.specs.Spelled.{most_open}
use Rattle.pv_parser.proofs.ExactPrograms.{program_exact}
use Rattle.pv_parser.proofs.whole.program.Goals as goal

pub returns-then-is_empty-clause-reads : goal.returns-then-is_empty-clause-reads
returns-then-is_empty-clause-reads c =
    calls.whole_end (program_exact most_open c.args.tokens.now.length) refl c.args.tokens.now.end c.args.tokens.now.items
    c.as_slice-items.result.now c.as_slice-items.ensures
    c.in-Ok.rest.now c.in-Ok.program c.in-Ok.ensures
    (calls.none_left c.in-Ok.rest.now c.is_empty.result c.is_empty.ensures c.if-is_empty.true)

pub returns-then-is_empty-clause-accepts : goal.returns-then-is_empty-clause-accepts
returns-then-is_empty-clause-accepts c =
    λ other spells. calls.whole_only (program_exact most_open c.args.tokens.now.length) refl c.args.tokens.now.end
    c.args.tokens.now.items c.as_slice-items.result.now c.as_slice-items.ensures
    c.in-Ok.rest.now c.in-Ok.program other c.in-Ok.ensures spells

pub returns-else-is_empty-clause-reads : goal.returns-else-is_empty-clause-reads
returns-else-is_empty-clause-reads c =
    calls.whole_rest (program_exact most_open c.args.tokens.now.length) refl c.args.tokens.now.end c.args.tokens.now.items
    c.as_slice-items.result.now c.as_slice-items.ensures
    c.in-Ok.rest.now c.in-Ok.program c.place.result c.place.ensures c.in-Ok.ensures
    (calls.some_left c.in-Ok.rest.now c.is_empty.result c.is_empty.ensures c.if-is_empty.false)

pub returns-else-is_empty-clause-accepts : goal.returns-else-is_empty-clause-accepts
returns-else-is_empty-clause-accepts c =
    λ other spells. calls.whole_none (program_exact most_open c.args.tokens.now.length) refl c.args.tokens.now.end
    c.args.tokens.now.items c.as_slice-items.result.now c.as_slice-items.ensures
    c.in-Ok.rest.now c.in-Ok.program other c.in-Ok.ensures
    (calls.some_left c.in-Ok.rest.now c.is_empty.result c.is_empty.ensures c.if-is_empty.false) spells

pub returns-in-Err-clause-reads : goal.returns-in-Err-clause-reads
returns-in-Err-clause-reads c =
    calls.whole_fails (program_exact most_open c.args.tokens.now.length) refl c.args.tokens.now.end c.args.tokens.now.items
    c.as_slice-items.result.now c.as_slice-items.ensures
    c.in-Err.fault c.placed.result c.placed.ensures c.in-Err.ensures

pub returns-in-Err-clause-accepts : goal.returns-in-Err-clause-accepts
returns-in-Err-clause-accepts c =
    λ other spells. calls.whole_refuses (program_exact most_open c.args.tokens.now.length) refl c.args.tokens.now.end
    c.args.tokens.now.items c.as_slice-items.result.now c.as_slice-items.ensures
    c.in-Err.fault c.placed.result c.placed.ensures c.in-Err.ensures other spells
