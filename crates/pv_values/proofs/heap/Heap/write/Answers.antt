use Rattle.std.proofs.Common.{◌≡◌, ◌-◌, IsSome, get_or, rules, to_z, of_z}
use Rattle.std.specs.Int.{w128}
use Rattle.pv_values.specs.Heaps as heaps
use Rattle.pv_values.specs.declared.value.Location.TheVariants.{Cell}
use Rattle.pv_values.specs.Changes.{IsThingWithElement}
use Rattle.pv_values.proofs.Writes.{seen, element_reads, has_element}
use Rattle.pv_values.proofs.heap.Heap.write.Goals as goal

pub returns-in-Cell-clause-reads : goal.returns-in-Cell-clause-reads
returns-in-Cell-clause-reads c = λ other.
    let heap = c.args.self.now in
    let there : IsSome (heaps.value_at heap (Cell c.in-Cell.array c.in-Cell.index)) = rw c.in-Cell.is at c.requires in
    let index : to_z w128 (of_z w128 c.in-Cell.index) ≡ c.in-Cell.index = search rules in
    let view : c.self.inside.things.items ≡ heap = search rules in
    let old : c.index_mut-in-Cell.result.now ≡ get_or heap (c.in-Cell.array - 1) c.index_mut-in-Cell.result.now =
    rw (← view) c.index_mut-in-Cell.ensures.value in
    let step : IsThingWithElement c.in-Cell.index c.args.value c.index_mut-in-Cell.result.now c.write_element.new.self =
    rw index at c.write_element.ensures in
    rw (view, c.in-Cell.is)
    (element_reads heap c.in-Cell.array c.index_mut-in-Cell.result.now c.write_element.new.self
    (has_element heap c.in-Cell.array c.in-Cell.index there) old
    c.in-Cell.index c.args.value step other)

pub returns-in-Cell-clause-classes : goal.returns-in-Cell-clause-classes
returns-in-Cell-clause-classes c = λ n.
    let heap = c.args.self.now in
    let there : IsSome (heaps.value_at heap (Cell c.in-Cell.array c.in-Cell.index)) = rw c.in-Cell.is at c.requires in
    let view : c.self.inside.things.items ≡ heap = search rules in
    let old : c.index_mut-in-Cell.result.now ≡ get_or heap (c.in-Cell.array - 1) c.index_mut-in-Cell.result.now =
    rw (← view) c.index_mut-in-Cell.ensures.value in
    rw view
    (seen heap c.in-Cell.array c.index_mut-in-Cell.result.now c.write_element.new.self
    (has_element heap c.in-Cell.array c.in-Cell.index there) old
    heaps.class_in n c.write_element.ensures.class)

pub returns-in-Cell-clause-lengths : goal.returns-in-Cell-clause-lengths
returns-in-Cell-clause-lengths c = λ n.
    let heap = c.args.self.now in
    let there : IsSome (heaps.value_at heap (Cell c.in-Cell.array c.in-Cell.index)) = rw c.in-Cell.is at c.requires in
    let view : c.self.inside.things.items ≡ heap = search rules in
    let old : c.index_mut-in-Cell.result.now ≡ get_or heap (c.in-Cell.array - 1) c.index_mut-in-Cell.result.now =
    rw (← view) c.index_mut-in-Cell.ensures.value in
    rw view
    (seen heap c.in-Cell.array c.index_mut-in-Cell.result.now c.write_element.new.self
    (has_element heap c.in-Cell.array c.in-Cell.index there) old
    heaps.length_in n c.write_element.ensures.length)
