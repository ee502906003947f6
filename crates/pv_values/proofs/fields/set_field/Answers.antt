use Rattle.std.proofs.Common.{◌≡◌, Some, None, arith}
use Rattle.std.specs.List.{position}
use Rattle.std.proofs.lemmas.List.Quantifiers.{position-Some}
use Rattle.pv_base.specs.declared.Name.{Name}
use Rattle.pv_values.specs.declared.value.Value.{Value}
use Rattle.pv_base.specs.Names as names
use Rattle.pv_values.specs.Heaps as heaps
use Rattle.pv_values.proofs.Writes.{set_first, absent, not_none}
use Rattle.pv_values.proofs.fields.set_field.Goals as goal

pub returns-in-Some : goal.returns-in-Some
returns-in-Some c = λ other.
    let fields = c.args.fields.now in
    let at = c.in-Some.place in
    let d : Name × Value = (c.args.name, c.args.value) in
    let found : position (λ f. names.same_name c.args.name f.0) fields ≡ Some at =
    grind (arith, c.as_slice.ensures, c.place_of.ensures, c.in-Some.is) in
    let facts = position-Some (λ f. names.same_name c.args.name f.0) fields at d found in
    rw c.set.ensures (set_first fields at c.args.name c.args.value d facts.0 facts.1 facts.2 other)

pub returns-in_default : goal.returns-in_default
returns-in_default c =
    let gone : position (λ f. names.same_name c.args.name f.0) c.args.fields.now ≡ None =
    grind (arith, c.as_slice.ensures, c.place_of.ensures, c.in_default.is) in
    absurd (not_none (heaps.field_value c.args.fields.now c.args.name) c.requires (absent c.args.fields.now c.args.name gone))
