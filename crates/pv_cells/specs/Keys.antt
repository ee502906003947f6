-- Keys of maps, and what they stand for.
use Rattle.std.specs.Prelude.{ℕ, Bool}
use Rattle.pv_ast.specs.declared.PvType.{PvType}
use Rattle.pv_picks.specs.Judge.States as states
use Rattle.pv_cells.specs.declared.key.ArrayKey.{ArrayKey}
use Rattle.pv_cells.specs.declared.key.Resource.{Resource}
use Rattle.pv_cells.specs.declared.key.Resource.TheVariants.{Field, Element, OfToken, OfLock}
use Rattle.pv_cells.specs.contracts.key.ArrayKeyPartialEq.TheImpl as array_eq
use Rattle.pv_cells.specs.contracts.key.ResourcePartialEq.TheImpl as resource_eq

abbrev pub is_array : ArrayKey → ArrayKey → Bool
is_array = (array_eq.ghosts).eq

abbrev pub is_resource : Resource → Resource → Bool
is_resource = (resource_eq.ghosts).eq

abbrev pub array_key : PvType → ℕ → ArrayKey
array_key type array = record { kind = type; array = array }

-- a resource as a key, and what a key names
abbrev pub key_of : states.Resource → Resource
key_of (states.InField class object field) = Field class object field
key_of (states.InElement type array index) = Element type array index
key_of (states.OfToken token class object) = OfToken token class object
key_of (states.OfLock class object) = OfLock class object

abbrev pub resource_of : Resource → states.Resource
resource_of (Field class object field) = states.InField class object field
resource_of (Element type array index) = states.InElement type array index
resource_of (OfToken token class object) = states.OfToken token class object
resource_of (OfLock class object) = states.OfLock class object
