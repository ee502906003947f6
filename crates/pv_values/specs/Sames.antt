-- Comparisons of values, things and heaps, as tests.
use Rattle.std.specs.Prelude.{Bool, true, false, not, ◌&&◌, nat_eq, Option, Some, None, List, [], ◌∷◌, if◌then◌else◌}
use Rattle.std.specs.List.{list_all}
use Rattle.pv_values.specs.declared.value.Value.{Value}
use Rattle.pv_values.specs.declared.value.Value.TheVariants.{Number, Truth, Reference}
use Rattle.pv_values.specs.declared.thing.Thing.{Thing}
use Rattle.pv_values.specs.declared.thing.Thing.TheVariants.{Object, Array}
use Rattle.pv_values.specs.Heaps.{Fields, field_value, same_number, Things}
use Rattle.pv_base.specs.Names.{same_name}

abbrev pub same_truth : Bool → Bool → Bool
same_truth a b = if a then b else not b

abbrev pub same_value : Value → Value → Bool
same_value (Number a) (Number b) = same_number a b
same_value (Number a) (Truth b) = false
same_value (Number a) (Reference b) = false
same_value (Truth a) (Number b) = false
same_value (Truth a) (Truth b) = same_truth a b
same_value (Truth a) (Reference b) = false
same_value (Reference a) (Number b) = false
same_value (Reference a) (Truth b) = false
same_value (Reference a) (Reference b) = nat_eq a b

abbrev pub same_found : Option Value → Option Value → Bool
same_found None None = true
same_found None (Some b) = false
same_found (Some a) None = false
same_found (Some a) (Some b) = same_value a b

abbrev pub same_elements : List Value → List Value → Bool
same_elements [] [] = true
same_elements [] (b ∷ bs) = false
same_elements (a ∷ rest) [] = false
same_elements (a ∷ rest) (b ∷ bs) = same_value a b && same_elements rest bs

-- the two lists of fields agree on the names of a list
abbrev pub agree_on : Fields → Fields → Fields → Bool
agree_on names a b = list_all (λ f. same_found (field_value a f.0) (field_value b f.0)) names

abbrev pub same_fields : Fields → Fields → Bool
same_fields a b = agree_on a a b && agree_on b a b

abbrev pub same_thing : Thing → Thing → Bool
same_thing (Object c a) (Object d b) = same_name c d && same_fields a b
same_thing (Object c a) (Array b) = false
same_thing (Array a) (Object d b) = false
same_thing (Array a) (Array b) = same_elements a b

abbrev pub same_things : Things → Things → Bool
same_things [] [] = true
same_things [] (b ∷ bs) = false
same_things (a ∷ rest) [] = false
same_things (a ∷ rest) (b ∷ bs) = same_thing a b && same_things rest bs
