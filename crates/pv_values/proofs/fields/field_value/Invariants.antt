use Rattle.std.proofs.Common.{◌≡◌, drop}
use Rattle.pv_values.specs.Heaps as heaps
use Rattle.pv_values.proofs.fields.field_value.Given as goal

abbrev pub invariant-loop-field : goal.invariant-loop-field
invariant-loop-field l = heaps.field_value (drop l.field-index l.fields) l.name ≡ heaps.field_value l.fields l.name
