-- What is hashed of a key.
use Rattle.std.specs.Prelude.{◌≡◌, IsTrue, ℕ, List, ◌++◌}
use Rattle.std.specs.Hash as fed
use Rattle.std.specs.Cmp.Rules.{hashing}
use Rattle.std.proofs.Common.{rules}
use Rattle.pv_cells.specs.declared.key.Resource.{Resource}
use Rattle.pv_cells.specs.declared.key.Resource.TheVariants.{Field, Element, OfToken, OfLock}
use Rattle.pv_cells.specs.contracts.key.ResourcePartialEq.TheImpl as resource_eq

abbrev pub numbers_of : Resource → List (List ℕ)
numbers_of (Field class object field) = fed.u128 object ++ fed.u32 field.0
numbers_of (Element type array index) = fed.u128 array ++ fed.i128 index
numbers_of (OfToken token class object) = fed.u128 object
numbers_of (OfLock class object) = fed.u128 object

pub same_numbers : (x y : Resource) → IsTrue ((resource_eq.ghosts).eq x y) → numbers_of x ≡ numbers_of y
same_numbers (Field c o f) (Field d p g) h = search (hashing, rules)
same_numbers (Element t a i) (Element u b j) h = search (hashing, rules)
same_numbers (OfToken t c o) (OfToken u d p) h = search (hashing, rules)
same_numbers (OfLock c o) (OfLock d p) h = search (hashing, rules)
same_numbers x y h = absurd (cc h)
