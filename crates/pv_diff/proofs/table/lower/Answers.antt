use Rattle.std.proofs.Common.{arith, pos, ◌^◌, slice_index_or}
use Rattle.std.proofs.lemmas.Int.{ints}
use Rattle.pv_linear.proofs.Bounds.{within_abs}
use Rattle.pv_diff.proofs.Edges.{AllBelow-to, AllBelow-from, widest-at}
use Rattle.pv_diff.proofs.Lowered.{Lowers-made, number_in-near, number_in-down}
use Rattle.pv_diff.specs.Edges.{edge}
use Rattle.pv_diff.proofs.table.lower.Goals as goal

pub bounds-table-edge : goal.bounds-table-edge
bounds-table-edge c = AllBelow-from _ c.args.edges.now c.args.place _ c.requires.slots c.requires.place

pub bounds-table-to : goal.bounds-table-to
bounds-table-to c = AllBelow-to _ c.args.edges.now c.args.place _ c.requires.slots c.requires.place

pub bounds-table-to-2 : goal.bounds-table-to-2
bounds-table-to-2 c = AllBelow-to _ c.args.edges.now c.args.place _ c.requires.slots c.requires.place

pub overflow_add-most : goal.overflow_add-most
overflow_add-most c =
    let es = c.args.edges.now in
    let ns = c.args.table.now in
    let e = slice_index_or es c.args.place (edge 0 0 (pos 0)) in
    let near = number_in-near es ns e.from c.requires.above c.requires.few c.requires.bounds in
    let down = number_in-down es ns e.from c.requires.sound in
    let wide = widest-at (2 ^ 100) es c.args.place (edge 0 0 (pos 0)) c.requires.bounds c.requires.place in
    let size = within_abs e.bound in
    let low = size.low in
    let high = size.high in
    omega (arith, ints, near, down, wide, low, high)

pub returns-then-table-to-clause-met : goal.returns-then-table-to-clause-met
returns-then-table-to-clause-met c = λ _.
    let es = c.args.edges.now in
    let ns = c.args.table.now in
    let e = slice_index_or es c.args.place (edge 0 0 (pos 0)) in
    let near = number_in-near es ns e.from c.requires.above c.requires.few c.requires.bounds in
    let down = number_in-down es ns e.from c.requires.sound in
    let wide = widest-at (2 ^ 100) es c.args.place (edge 0 0 (pos 0)) c.requires.bounds c.requires.place in
    let size = within_abs e.bound in
    let low = size.low in
    let high = size.high in
    let near_to = number_in-near es ns e.to c.requires.above c.requires.few c.requires.bounds in
    let down_to = number_in-down es ns e.to c.requires.sound in
    grind (arith, ints, near, down, wide, low, high, near_to, down_to)

pub returns-clause-lowered : goal.returns-clause-lowered
returns-clause-lowered c =
    let es = c.args.edges.now in
    let ns = c.args.table.now in
    let e = slice_index_or es c.args.place (edge 0 0 (pos 0)) in
    let near = number_in-near es ns e.from c.requires.above c.requires.few c.requires.bounds in
    let down = number_in-down es ns e.from c.requires.sound in
    let wide = widest-at (2 ^ 100) es c.args.place (edge 0 0 (pos 0)) c.requires.bounds c.requires.place in
    let size = within_abs e.bound in
    let low = size.low in
    let high = size.high in
    let near_to = number_in-near es ns e.to c.requires.above c.requires.few c.requires.bounds in
    let down_to = number_in-down es ns e.to c.requires.sound in
    Lowers-made es ns c.args.place (edge 0 0 (pos 0)) _ c.requires.sound c.requires.above c.requires.slots c.requires.few
    c.requires.bounds c.requires.place (omega (arith, ints, near, down, wide, low, high))
    (grind (arith, ints, near, down, wide, low, high, near_to, down_to))
