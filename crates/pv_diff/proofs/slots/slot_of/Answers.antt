use Rattle.std.specs.Prelude.{Ok, Err}
use Rattle.std.proofs.lemmas.List.Sorted.{searched}
use Rattle.pv_diff.proofs.Written.{rises_along, not_missed, found_at}
use Rattle.pv_diff.proofs.slots.slot_of.Goals as goal

pub unreachable-requires : goal.unreachable-requires
unreachable-requires c =
    let s = searched c.args.symbols.now c.args.symbol (Err c.in-Err.field-0) c.in-Err.ensures.position
    (λ i j le lt. rises_along c.args.symbols.now i j c.requires.rises le lt) in
    not_missed c.args.symbols.now c.args.symbol c.in-Err.field-0 c.requires.named s.1 s.2

pub returns : goal.returns
returns c =
    let s = searched c.args.symbols.now c.args.symbol (Ok c.in-Ok.slot) c.in-Ok.ensures.position
    (λ i j le lt. rises_along c.args.symbols.now i j c.requires.rises le lt) in
    found_at c.args.symbols.now c.in-Ok.slot c.args.symbol s.0 s.1
