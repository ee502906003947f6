-- A length that is known.
use Rattle.std.proofs.Common.{◌≡◌, rules, Some, to_z, of_z}
use mir.Syntax.{w128}
use Rattle.pv_cells.specs.Stores.{lengths_of}
use Rattle.pv_cells.proofs.Measuring.{known_length}
use Rattle.pv_cells.proofs.lengths.length_of.Goals as goal

pub returns-in-Some-clause-goes : goal.returns-in-Some-clause-goes
returns-in-Some-clause-goes c =
    let same : to_z w128 (of_z w128 c.in-Some.n) ≡ c.in-Some.n = search rules in
    let known : lengths_of c.args.learned.now.lengths c.args.kind c.args.array ≡ Some c.in-Some.n = search rules in
    rw same (known_length _ _ _ c.args.learned.now c.in-Some.n known)
