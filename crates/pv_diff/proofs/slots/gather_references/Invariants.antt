use Rattle.std.proofs.Common.{◌+◌, ◌*◌, ◌≤◌, length}
use Rattle.std.specs.Prelude.{Contains}
use Rattle.pv_diff.specs.Slots.{AreOnlyReferences}
use Rattle.pv_diff.proofs.References.{NamedUnder}
use Rattle.pv_diff.proofs.slots.gather_references.Given as goal

abbrev pub invariant-loop-literal : goal.invariant-loop-literal
invariant-loop-literal l = record {
  zero : Contains l.symbols.items 0;
  named : NamedUnder l.literals l.symbols.items l.literal-index;
  only : AreOnlyReferences l.symbols.items l.literals;
  few : length l.symbols.items ≤ 2 * l.literal-index + 1;
}
